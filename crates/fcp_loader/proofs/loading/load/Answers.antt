use Rattle.std.proofs.Common.{ap, sym, ◌∙◌}
use Rattle.fcp_loader.specs.Faults.{faults_of}
use Rattle.fcp_loader.specs.Firsts.{first_of}
use Rattle.fcp_loader.proofs.FirstFaults.{none-empty}
use Rattle.fcp_loader.proofs.loading.load.Goals as goal

pub returns-in-Some : goal.returns-in-Some
returns-in-Some c = ap (λ m. first_of (faults_of m)) (sym c.in-Ok.ensures) ∙ sym c.in-Some.ensures

pub returns-in-None : goal.returns-in-None
returns-in-None c = record {
  same = c.in-Ok.ensures;
  faultless = none-empty (faults_of c.args.module) (ap (λ m. first_of (faults_of m)) (sym c.in-Ok.ensures) ∙ sym c.in-None.ensures);
}
