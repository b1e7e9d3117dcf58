-- A move of more cells than are left is told by its cells.
use Rattle.std.proofs.Common.{◌≡◌, ℕ, ◌*◌, length, ap, sym}
use Rattle.fcp_model.specs.Decisions.{commits, waits_on}
use Rattle.machine_code.specs.Compiling.{Tables}
use Rattle.trial_machine.specs.declared.decide.Trial.TheVariants.{Commit, Wait, Fails}
use Rattle.trial_machine.specs.Deciding.{IsDecided, handed_over}
use Rattle.word_moves.specs.Planned.{ReadsProcess}
use Rattle.move_plans.specs.declared.planner.Planner.{Planner}
use Rattle.move_plans.specs.Plans.{IsLargePlan}
use Rattle.move_plans.specs.Sizes.{CellsRead}
use Rattle.move_plans.proofs.CommitCells.{cells_say}

commit_no_fail : Commit ≡ Fails → ⊥
commit_no_fail e = cc

wait_no_fail : Wait ≡ Fails → ⊥
wait_no_fail e = cc

pub large_commit : (t : Tables) (pl : Planner) (p z cells : ℕ) → ReadsProcess pl.machine.trail.kept p z
    → IsDecided t (handed_over pl.machine) p Commit → CellsRead t pl.machine.trail.kept p pl.machine.desk.clause cells
    → IsLargePlan t pl p cells
large_commit t pl p z cells mover decided numbers = record {
  is_ready = mover.status;
  reads = decided.handed.reads;
  trial = Commit;
  decided = decided;
  goes_on = commit_no_fail;
  costs = λ m code w vs bound g tried.
      let s = decided.says m code w vs bound g tried in
      record {
        decision = commits pl.machine.desk.clause s.bindings s.reads;
        decided = s.decides;
        costs = cells_say t pl.machine.trail.kept p pl.machine.desk.clause cells numbers m code.names w vs bound g tried;
      };
}

pub large_hang : (t : Tables) (pl : Planner) (p z : ℕ) → ReadsProcess pl.machine.trail.kept p z
    → IsDecided t (handed_over pl.machine) p Wait → IsLargePlan t pl p (3 * length pl.machine.waits)
large_hang t pl p z mover decided = record {
  is_ready = mover.status;
  reads = decided.handed.reads;
  trial = Wait;
  decided = decided;
  goes_on = wait_no_fail;
  costs = λ m code w vs bound g tried.
      let s = decided.says m code w vs bound g tried in
      record { decision = waits_on s.reads; decided = s.decides; costs = ap (λ (n : ℕ). 3 * n) (sym s.count) };
}
