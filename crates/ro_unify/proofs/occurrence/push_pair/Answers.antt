use Rattle.std.proofs.Common.{◌≡◌, ap, ◌∙◌, ◌+◌}
use Rattle.heap_words.proofs.Keeps.{loaded_twice, still_says}
use Rattle.ro_unify.proofs.Seeing.{said_seen, is_seen_on}
use Rattle.ro_unify.specs.Occurs.{stack}
use Rattle.ro_unify.proofs.Stacks.{stack-push}
use Rattle.ro_unify.proofs.Leads.{push_leads}
use Rattle.ro_unify.proofs.occurrence.push_pair.Goals as goal

pub returns-clause-loaded : goal.returns-clause-loaded
returns-clause-loaded g c = loaded_twice g.met.W.Words.laws c.in_ok-second.ensures.loaded c.in_ok-first.ensures.loaded

pub returns-clause-work : goal.returns-clause-work
returns-clause-work g c m i =
    let second =
    still_says g.met.W.Words.laws
    (λ m. m (c.args.at + 1) ≡ c.in_ok-second.second) c.in_ok-first.ensures.loaded c.in_ok-second.ensures.word m i in
    let first = c.in_ok-first.ensures.word m i in
    let one = ap stack c.in_ok-push.ensures ∙ stack-push c.args.work.now.items c.in_ok-second.second in
    let two = ap stack c.in_ok-push-2.ensures ∙ stack-push c.push.new.work.items c.in_ok-first.first in
    two ∙ cc (one, second, first)

pub returns-clause-leads : goal.returns-clause-leads
returns-clause-leads g c h =
    push_leads g.met.W.Words.laws _ _ _ _ _ _ c.in_ok-first.ensures.loaded.sound c.word-2.ensures.between c.in_ok-first.ensures.had
    c.in_ok-push-2.ensures
    (push_leads g.met.W.Words.laws _ _ _ _ _ _ c.in_ok-second.ensures.loaded.sound c.word.ensures.between c.in_ok-second.ensures.had
    c.in_ok-push.ensures h)

pub returns-clause-seen : goal.returns-clause-seen
returns-clause-seen g c = (
  said_seen g.met.W.Words.laws c.args.at c.in_ok-first.first c.in_ok-first.ensures.loaded.holds c.in_ok-first.ensures.word,
  is_seen_on g.met.W.Words.laws c.in_ok-first.ensures.loaded (c.args.at + 1)
      (said_seen g.met.W.Words.laws (c.args.at + 1) c.in_ok-second.second c.in_ok-second.ensures.loaded.holds c.in_ok-second.ensures.word),
)
