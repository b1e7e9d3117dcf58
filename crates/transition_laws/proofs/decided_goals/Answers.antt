-- The laws, from their lemmas.
use Rattle.transition_laws.proofs.Tries.{reduces_by, fails_so, decides_commit, decides_failure}
use Rattle.transition_laws.proofs.decided_goals.Goals as goal

pub returns-clause-reduction : goal.returns-clause-reduction
returns-clause-reduction c =
    λ m s g k bs. ((λ (rs, (n, e)). (_, reduces_by n m s g k bs rs e)), (λ (body, h). decides_commit m s g k bs body h))

pub returns-clause-failure : goal.returns-clause-failure
returns-clause-failure c = λ m s g. ((λ (rs, (n, e)). fails_so n m s g rs e), decides_failure m s g)
