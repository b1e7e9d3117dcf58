use Rattle.std.proofs.Common.{◌+◌, ◌-◌, arith}
use Rattle.ro_unify.specs.Occurs.{stack}
use Rattle.ro_unify.proofs.Stacks.{each_pushed}
use Rattle.word_texts.specs.declared.items.Item.TheVariants.{Term, Parts}
use Rattle.word_texts.specs.Turns.{Leads}
use Rattle.word_texts.proofs.Steps.{items_stay}
use Rattle.word_texts.proofs.turns.push_parts.Goals as goal

pub returns-clause-leads : goal.returns-clause-leads
returns-clause-leads g c h =
    each_pushed (Leads (g.W.Words.knows c.word.new.words) (g.W.Words.leads c.word.new.words)) _ _ (Term c.in_ok-first.first)
    c.in_ok-push_item-2.ensures
    (g.met.W.Words.laws.had_leads _ _ _ c.in_ok-first.ensures.loaded.sound c.in_ok-first.ensures.had)
    (each_pushed (Leads (g.W.Words.knows c.word.new.words) (g.W.Words.leads c.word.new.words)) _ _
    (Parts (c.args.at + 1) (c.args.count - 1)) c.in_ok-push_item.ensures
    (λ b lo hi. g.met.W.Words.laws.stays_known _ _ b c.word.ensures.between (c.requires.known b (omega arith) (omega arith)))
    (items_stay g.met.W.Words.laws _ _ (stack c.args.items.now.items) c.word.ensures.between h))
