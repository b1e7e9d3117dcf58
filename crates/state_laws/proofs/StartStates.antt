-- The first state of a goal is lawful.
use Rattle.std.proofs.Common.{◌≡◌, ℕ, suc, List, [], ◌∷◌, map, Some, subst}
use Rattle.fcp_model.specs.Places.{Variable, placed}
use Rattle.fcp_model.specs.Terms.{Bindings}
use Rattle.fcp_model.specs.Programs.{Goal, Clause, Program, rename_goal}
use Rattle.fcp_model.specs.States.{count_up, processes_of}
use Rattle.fcp_model.specs.Ranks.{Ranked}
use Rattle.fcp_model.specs.ClosedPrograms.{IsClosedClause}
use Rattle.fcp_model.specs.LawfulStates.{Each, StandsRight}
use Rattle.fcp_laws.proofs.SoundSchedules.{start_ordered}
use Rattle.binding_laws.proofs.PlaceLists.{numbered_within}
use Rattle.binding_laws.proofs.KeptBindings.{children_over}
use Rattle.state_laws.specs.Laws.{AStartIsLawful}

-- new processes are Ready, so none of them stands wrong
pub new_stand : (m : Program) (s : Bindings) (n k : ℕ) (gs : List (Goal Variable))
    → Each (λ p. StandsRight m s p p.status) (processes_of n k gs)
new_stand m s n k [] = tt
new_stand m s n k (g ∷ gs) = (tt, new_stand m s n (suc k) gs)

nothing_ranked : Ranked []
nothing_ranked = record { rank = λ v. 0; falls = λ p q t e h. absurd cc }

-- the goal as the body of a clause that has its variables
abbrev goal_clause : ℕ → List (Goal ℕ) → Clause
goal_clause vars gs = record { vars = vars; args = []; guard = []; body = gs }

pub a_start_is_lawful : AStartIsLawful
a_start_is_lawful m vars gs h = record {
  ordered = start_ordered vars gs;
  places = numbered_within 0 (count_up 1 vars);
  bound = λ v t e. absurd cc;
  goals = children_over 0 [] (Some (goal_clause vars gs)) closed;
  ranked = nothing_ranked;
  waits = new_stand m [] 0 1 (map (rename_goal (placed 0)) gs);
}
  where
    closed : (c : Clause) → Some (goal_clause vars gs) ≡ Some c → IsClosedClause c
    closed c e = let same : goal_clause vars gs ≡ c = cc in subst IsClosedClause same (record { args = tt; guard = tt; body = h })
