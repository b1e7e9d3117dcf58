use Rattle.std.proofs.Common.{◌≡◌, ap, ◌∙◌, ◌+◌}
use Rattle.heap_words.proofs.Keeps.{loaded_twice, still_says}
use Rattle.ro_unify.specs.Occurs.{stack}
use Rattle.ro_unify.proofs.Stacks.{stack-push}
use Rattle.ro_unify.proofs.Leads.{push_leads}
use Rattle.stored_expressions.proofs.listing.push_operands.Goals as goal

pub returns-clause-loaded : goal.returns-clause-loaded
returns-clause-loaded g c = loaded_twice g.met.W.Words.laws c.in_ok-left.ensures.loaded c.in_ok-right.ensures.loaded

pub returns-clause-work : goal.returns-clause-work
returns-clause-work g c m i =
    let left =
    still_says g.met.W.Words.laws
    (λ m. m (c.args.at + 1) ≡ c.in_ok-left.left) c.in_ok-right.ensures.loaded c.in_ok-left.ensures.word m i in
    let right = c.in_ok-right.ensures.word m i in
    let one = ap stack c.in_ok-push.ensures ∙ stack-push c.args.work.now.items c.in_ok-left.left in
    let two = ap stack c.in_ok-push-2.ensures ∙ stack-push c.push.new.work.items c.in_ok-right.right in
    two ∙ cc (one, right, left)

pub returns-clause-leads : goal.returns-clause-leads
returns-clause-leads g c h =
    push_leads g.met.W.Words.laws _ _ _ _ _ _ c.in_ok-right.ensures.loaded.sound c.word-2.ensures.between c.in_ok-right.ensures.had
    c.in_ok-push-2.ensures
    (push_leads g.met.W.Words.laws _ _ _ _ _ _ c.in_ok-left.ensures.loaded.sound c.word.ensures.between c.in_ok-left.ensures.had
    c.in_ok-push.ensures h)
