use Rattle.std.proofs.Common.{sym, ◌∙◌}
use Rattle.logix_app.proofs.Pieces.{none-put, piece-rest, more-put, front-put, no-rest, all-put}
use Rattle.logix_app.proofs.writing.put_all.Goals as goal

pub loop-rest-init : goal.loop-rest-init
loop-rest-init g c = none-put _ _ _

pub returns-in-Failed : goal.returns-in-Failed
returns-in-Failed g c = front-put _ _ _ _ _ _ _ c.loop-rest.rest.now c.min-count.result c.loop-rest.invariant c.in-Failed.ensures.put

pub loop-rest-preserved : goal.loop-rest-preserved
loop-rest-preserved g c =
    more-put _ _ _ _ _ _ _ c.loop-rest.rest.now _ _ c.loop-rest.invariant
    (piece-rest c.min-count.result c.loop-rest.rest.now) c.in_default.ensures.put.0 c.in_default.ensures.put.1

pub returns : goal.returns
returns g c =
    all-put _ _ _ _ _ c.loop-rest.rest.now c.loop-rest.invariant
    (no-rest c.loop-rest.rest.now (sym c.is_empty.ensures ∙ c.loop-rest-test.false))
