use Rattle.stored_tries.proofs.Commits.{commit}
use Rattle.stored_tries.proofs.safe_commit.Goals as goal

pub returns : goal.returns
returns g c kept w r τ released stored safe binds_once once terms =
    commit g.met.W.Words.laws kept w r τ released stored safe binds_once once terms
