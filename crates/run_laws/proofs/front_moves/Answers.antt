-- The laws, proved beside the definitions.
use Rattle.run_laws.proofs.FoundMoves.{goes_on}
use Rattle.run_laws.proofs.Passing.{front_costs}
use Rattle.run_laws.proofs.Steps.{may_go, of_front}
use Rattle.run_laws.proofs.front_moves.Goals as goal

pub returns-clause-may : goal.returns-clause-may
returns-clause-may c = λ r ws queue c evs at book v here going few has. may_go r ws queue c evs at book here v going few has

pub returns-clause-event : goal.returns-clause-event
returns-clause-event c = λ r ws rest p c evs at book v w' here f g. of_front r ws rest p c evs at book v here f w' g

pub returns-clause-goes : goal.returns-clause-goes
returns-clause-goes c = goes_on

pub returns-clause-costs : goal.returns-clause-costs
returns-clause-costs c = λ r ws rest p c evs at book read needed here has decides.
    front_costs r ws rest p c evs at book here read needed has decides
