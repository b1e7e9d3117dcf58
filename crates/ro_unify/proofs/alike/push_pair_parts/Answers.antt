use Rattle.std.proofs.Common.{◌≡◌, ap, ◌∙◌, ◌+◌}
use Rattle.heap_words.proofs.Keeps.{loaded_twice, still_says}
use Rattle.ro_unify.specs.Occurs.{stack}
use Rattle.ro_unify.proofs.Stacks.{stack-push}
use Rattle.ro_unify.proofs.Leads.{push_two_leads}
use Rattle.ro_unify.proofs.alike.push_pair_parts.Goals as goal

pub returns-clause-loaded : goal.returns-clause-loaded
returns-clause-loaded g c = loaded_twice g.met.W.Words.laws c.in_ok-second.ensures.loaded c.in_ok-first.ensures.loaded

pub returns-clause-work : goal.returns-clause-work
returns-clause-work g c m i =
    let s1 =
    still_says g.met.W.Words.laws
    (λ m. m (c.args.at + 1) ≡ c.in_ok-second.second.0) c.in_ok-first.ensures.loaded c.in_ok-second.ensures.one m i in
    let s2 =
    still_says g.met.W.Words.laws
    (λ m. m (c.args.to + 1) ≡ c.in_ok-second.second.1) c.in_ok-first.ensures.loaded c.in_ok-second.ensures.two m i in
    let f1 = c.in_ok-first.ensures.one m i in
    let f2 = c.in_ok-first.ensures.two m i in
    let one = ap stack c.in_ok-push_two.ensures ∙ stack-push c.args.work.now.items (c.in_ok-second.second.0, c.in_ok-second.second.1) in
    let two = ap stack c.in_ok-push_two-2.ensures ∙ stack-push c.push_two.new.work.items (c.in_ok-first.first.0, c.in_ok-first.first.1) in
    two ∙ cc (one, s1, s2, f1, f2)

pub returns-clause-leads : goal.returns-clause-leads
returns-clause-leads g c h =
    push_two_leads g.met.W.Words.laws _ _ _ _
    (c.in_ok-first.first.0, c.in_ok-first.first.1) c.push_two.new.work.items c.push_two-2.new.work.items
    c.in_ok-first.ensures.loaded.sound c.both-2.ensures.between c.in_ok-first.ensures.had c.in_ok-push_two-2.ensures
    (push_two_leads g.met.W.Words.laws _ _ _ _
    (c.in_ok-second.second.0, c.in_ok-second.second.1) c.args.work.now.items c.push_two.new.work.items
    c.in_ok-second.ensures.loaded.sound c.both.ensures.between c.in_ok-second.ensures.had c.in_ok-push_two.ensures h)
