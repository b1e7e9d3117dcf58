use Rattle.std.proofs.Common.{◌≡◌, ℕ, ◌+◌, List, ◌∷◌, sym, ap, ap₂, ◌∙◌}
use Rattle.heap_words.proofs.Keeps.{loaded_twice, still_says}
use Rattle.ro_unify.specs.Occurs.{stack}
use Rattle.ro_unify.proofs.Stacks.{stack-push, each_pushed}
use Rattle.process_texts.specs.declared.items.Item.{Item}
use Rattle.process_texts.specs.declared.items.Item.TheVariants.{Operand, Operator}
use Rattle.process_texts.specs.Pieces.{ItemLeads}
use Rattle.process_texts.proofs.Work.{items_stay}
use Rattle.process_texts.proofs.expressions.push_operation.Goals as goal

pub returns-clause-loaded : goal.returns-clause-loaded
returns-clause-loaded g c = loaded_twice g.met.W.Words.laws c.in_ok-right.ensures.loaded c.in_ok-left.ensures.loaded

pub returns-clause-items : goal.returns-clause-items
returns-clause-items g c m i =
    let right = still_says g.met.W.Words.laws (λ m. m (c.args.at + 2) ≡ c.in_ok-right.right) c.in_ok-left.ensures.loaded
    c.in_ok-right.ensures.word m i in
    let left = c.in_ok-left.ensures.word m i in
    let one = ap stack c.in_ok-push_item.ensures ∙ stack-push c.args.items.now.items (Operand c.in_ok-right.right) in
    let two = ap stack c.in_ok-push_item-2.ensures ∙ stack-push c.push_item.new.items.items (Operator c.args.op) in
    let three = ap stack c.in_ok-push_item-3.ensures ∙ stack-push c.push_item-2.new.items.items (Operand c.in_ok-left.left) in
    three ∙ ap (λ (is : List Item). Operand c.in_ok-left.left ∷ is) (two ∙ ap (λ (is : List Item). Operator c.args.op ∷ is) one)
    ∙ ap₂ (λ (l r : ℕ). Operand l ∷ Operator c.args.op ∷ Operand r ∷ stack c.args.items.now.items) (sym left) (sym right)

pub returns-clause-leads : goal.returns-clause-leads
returns-clause-leads g c h =
    let on : (x : ℕ) → g.W.Words.leads c.args.words.now x → g.W.Words.leads c.word-2.new.words x = λ x k. g.met.W.Words.laws.stays_leading _ _ x c.word-2.ensures.between
    (g.met.W.Words.laws.stays_leading _ _ x c.word.ensures.between k) in
    let right = g.met.W.Words.laws.stays_leading _ _ _ c.word-2.ensures.between
    (g.met.W.Words.laws.had_leads _ _ _ c.in_ok-right.ensures.loaded.sound c.in_ok-right.ensures.had) in
    let left = g.met.W.Words.laws.had_leads _ _ _ c.in_ok-left.ensures.loaded.sound c.in_ok-left.ensures.had in
    each_pushed (ItemLeads (g.W.Words.leads c.word-2.new.words)) c.push_item-2.new.items.items c.push_item-3.new.items.items
    (Operand c.in_ok-left.left) c.in_ok-push_item-3.ensures left
    (each_pushed (ItemLeads (g.W.Words.leads c.word-2.new.words)) c.push_item.new.items.items c.push_item-2.new.items.items
    (Operator c.args.op) c.in_ok-push_item-2.ensures tt
    (each_pushed (ItemLeads (g.W.Words.leads c.word-2.new.words)) c.args.items.now.items c.push_item.new.items.items
    (Operand c.in_ok-right.right) c.in_ok-push_item.ensures right
    (items_stay (g.W.Words.leads c.args.words.now) (g.W.Words.leads c.word-2.new.words) on (stack c.args.items.now.items) h)))
