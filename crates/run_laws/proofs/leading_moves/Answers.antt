-- The laws, proved beside the definitions.
use Rattle.run_laws.proofs.MadeControls.{control_leads}
use Rattle.run_laws.proofs.Passing.{passes_on}
use Rattle.run_laws.proofs.Steps.{commits_on, hangs_on}
use Rattle.run_laws.proofs.leading_moves.Goals as goal

pub returns-clause-commit : goal.returns-clause-commit
returns-clause-commit c = λ r ws ws' rest p c evs at book v q k here f g e enough heap.
    commits_on r ws rest p c evs at book v here f ws' g enough heap q k e

pub returns-clause-hang : goal.returns-clause-hang
returns-clause-hang c = λ r ws ws' rest p c evs at book v q here f g e enough heap.
    hangs_on r ws rest p c evs at book v here f ws' g enough heap q e

pub returns-clause-pass : goal.returns-clause-pass
returns-clause-pass c = λ r ws rest p c evs at book needed here going a b d costs lacks.
    passes_on r ws rest p c evs at book here needed going a b d costs lacks

pub returns-clause-control : goal.returns-clause-control
returns-clause-control c = control_leads
