use Rattle.std.proofs.Common.{ℕ, ◌<◌, subst}
use Rattle.commit_engine.specs.PlainLaws.{plain_words, plain_hall}
use Rattle.commit_engine.proofs.Turning.{is_stored}
use Rattle.log_replay.proofs.moves.plan.Goals as goal

pub plan-requires-clause-stored : goal.plan-requires-clause-stored
plan-requires-clause-stored c = is_stored plain_words plain_hall c.args.hall.now c.requires.rest.plain

pub plan-requires-clause-known : goal.plan-requires-clause-known
plan-requires-clause-known c = λ p low.
    plain_hall.tops_known c.args.hall.now p c.requires.rest.plain (subst (λ (n : ℕ). p < n) c.pages-pages.ensures low)
