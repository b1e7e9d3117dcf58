use Rattle.std.proofs.Common.{◌≡◌, ap, ◌∙◌, ◌+◌}
use Rattle.heap_words.proofs.Keeps.{loaded_twice, still_says}
use Rattle.ro_unify.specs.Occurs.{stack}
use Rattle.ro_unify.proofs.Stacks.{stack-push, each_pushed}
use Rattle.word_texts.specs.declared.items.Item.TheVariants.{Term, Rest}
use Rattle.word_texts.specs.Turns.{Leads}
use Rattle.word_texts.proofs.Steps.{items_stay}
use Rattle.word_texts.proofs.turns.push_pair.Goals as goal

pub returns-clause-loaded : goal.returns-clause-loaded
returns-clause-loaded g c = loaded_twice g.met.W.Words.laws c.in_ok-second.ensures.loaded c.in_ok-first.ensures.loaded

pub returns-clause-items : goal.returns-clause-items
returns-clause-items g c m i =
    let second =
    still_says g.met.W.Words.laws
    (λ m. m (c.args.at + 1) ≡ c.in_ok-second.second) c.in_ok-first.ensures.loaded c.in_ok-second.ensures.word m i in
    let first = c.in_ok-first.ensures.word m i in
    let one = ap stack c.in_ok-push_item.ensures ∙ stack-push c.args.items.now.items (Rest c.in_ok-second.second) in
    let two = ap stack c.in_ok-push_item-2.ensures ∙ stack-push c.push_item.new.items.items (Term c.in_ok-first.first) in
    two ∙ cc (one, second, first)

pub returns-clause-leads : goal.returns-clause-leads
returns-clause-leads g c h =
    each_pushed (Leads (g.W.Words.knows c.word-2.new.words) (g.W.Words.leads c.word-2.new.words)) _ _ (Term c.in_ok-first.first)
    c.in_ok-push_item-2.ensures
    (g.met.W.Words.laws.had_leads _ _ _ c.in_ok-first.ensures.loaded.sound c.in_ok-first.ensures.had)
    (items_stay g.met.W.Words.laws _ _ (stack c.push_item.new.items.items) c.word-2.ensures.between
    (each_pushed (Leads (g.W.Words.knows c.word.new.words) (g.W.Words.leads c.word.new.words)) _ _ (Rest c.in_ok-second.second)
    c.in_ok-push_item.ensures
    (g.met.W.Words.laws.had_leads _ _ _ c.in_ok-second.ensures.loaded.sound c.in_ok-second.ensures.had)
    (items_stay g.met.W.Words.laws _ _ (stack c.args.items.now.items) c.word.ensures.between h)))
