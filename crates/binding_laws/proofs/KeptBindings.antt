-- A commit keeps a state's bindings lawful, and its children mention places alone.
use Rattle.std.proofs.Common.{◌≡◌, ℕ, suc, true, List, [], ◌∷◌, ◌++◌, map, Option, Some, None, refl, arith}
use Rattle.fcp_model.specs.declared.run.Place.{Place}
use Rattle.fcp_model.specs.declared.run.Proc.{Proc}
use Rattle.fcp_model.specs.Places.{Variable, made, own, place, placed, is_listed}
use Rattle.fcp_model.specs.Terms.{Bindings, settle}
use Rattle.fcp_model.specs.Programs.{Goal, Clause, Program, rename_goal}
use Rattle.fcp_model.specs.Decisions.{commits, Decides}
use Rattle.fcp_model.specs.States.{Process, State, count_up, processes_of}
use Rattle.fcp_model.specs.Cells.{clause_used}
use Rattle.fcp_model.specs.Events.{settled, vars_of, children_of, after_commit}
use Rattle.fcp_model.specs.ClosedPrograms.{GoalOver, GoalsOver, IsNumbered, IsClosedClause, IsClosed}
use Rattle.fcp_model.specs.LawfulStates.{Each, IsPlaceIn}
use Rattle.binding_laws.specs.LawfulBindings.{IsLawfulBindings}
use Rattle.binding_laws.specs.Laws.{AreGoalsOver, committed, children}
use Rattle.binding_laws.proofs.OverTerms.{Over-more, GoalOver-more, GoalsOver-rename}
use Rattle.binding_laws.proofs.PlaceLists.{listed_left, listed_right, place_left, numbered_listed, within_append}
use Rattle.binding_laws.proofs.PlaceLists.{within_above, numbered_within, listed_within}
use Rattle.binding_laws.proofs.MetTerms.{IsMet}
use Rattle.binding_laws.proofs.MetBindings.{BindsOver, AreMetBindings, binds-append}
use Rattle.binding_laws.proofs.MetUnification.{each_found, IsMetTry}
use Rattle.binding_laws.proofs.MetDecisions.{used_closed, commit_meets}
use Rattle.binding_laws.proofs.SettledBindings.{each_settled, settled_ranked}

-- the places of a list
abbrev pub Listed : List Place → Place → Type 0
Listed ps p = is_listed p ps ≡ true

-- before a try a place is all that was met
pub place_is_met : (ps : List Place) (n : ℕ) (v : Variable) → IsPlaceIn ps v → IsMet (Listed ps) n v
place_is_met ps n (made p) i = i
place_is_met ps n (own k) i = absurd i

pub met_at_first : (s : State) → IsLawfulBindings s → AreMetBindings (Listed s.places) 0 s.bound
met_at_first s h = record {
  ranked = h.ranked;
  over = λ v t e. (
    place_is_met s.places 0 v (h.bound v t e).0,
    Over-more _ (IsMet (Listed s.places) 0) (place_is_met s.places 0) t (h.bound v t e).1,
  );
}

-- the places after entry n with so many variables
abbrev places_after : ℕ → ℕ → List Place → List Place
places_after n vars ps = ps ++ map (place n) (count_up 1 vars)

-- a variable of the committed clause has its place among those
pub placed_listed : (n vars : ℕ) (ps : List Place) (k : ℕ) → IsNumbered vars k → IsPlaceIn (places_after n vars ps) (placed n k)
placed_listed n vars ps k i = listed_right (place n k) ps _ (numbered_listed n 1 vars k i.0 (omega (arith, i.1)))

settled_listed : (n vars : ℕ) (ps : List Place) (v : Variable) → IsMet (Listed ps) vars v → IsPlaceIn (places_after n vars ps) (settle n v)
settled_listed n vars ps (made p) i = listed_left p ps _ i
settled_listed n vars ps (own k) i = placed_listed n vars ps k i

-- the goals that were over places stay so
pub goal_listed : (ps qs : List Place) (g : Goal Variable) → GoalOver (IsPlaceIn ps) g → GoalOver (IsPlaceIn (ps ++ qs)) g
goal_listed ps qs g o = GoalOver-more (IsPlaceIn ps) (IsPlaceIn (ps ++ qs)) (place_left ps qs) g o

-- the state after a commit, by what its try left
pub lawful_after : (s : State) (name : Proc) (used : Option Clause) (bs : Bindings) → IsLawfulBindings s
    → IsMetTry (Listed s.places) (vars_of used) s.bound bs → IsLawfulBindings (after_commit s name used bs)
lawful_after s name used bs h t =
    let n : ℕ = s.entries in
    let vars : ℕ = vars_of used in
    let K : Place → Type 0 = Listed s.places in
    let new : List Place = map (place (suc n)) (count_up 1 vars) in
    let P : Variable → Type 0 = IsPlaceIn (s.places ++ new) in
    let stays : BindsOver P s.bound =
    λ v u e. (
      place_left s.places new v (h.bound v u e).0,
      Over-more (IsPlaceIn s.places) P (place_left s.places new) u (h.bound v u e).1,
    ) in
    let comes : BindsOver P (settled (suc n) bs) =
    each_found P (settled (suc n) bs) (each_settled (IsMet K vars) P (suc n) (settled_listed (suc n) vars s.places) bs t.each) in
    record {
      places = within_append (suc n) s.places new (within_above n (suc n) s.places (omega arith) h.places)
          (numbered_within (suc n) (count_up 1 vars));
      bound = binds-append P s.bound (settled (suc n) bs) stays comes;
      ranked = settled_ranked K n (λ p. listed_within n s.places p h.places) s.bound
          (met_at_first s h).over vars bs t.each t.bindings.ranked;
    }

processes_over : (P : Variable → Type 0) (n k : ℕ) (gs : List (Goal Variable)) → GoalsOver P gs
    → Each (λ q. GoalOver P q.goal) (processes_of n k gs)
processes_over P n k [] f = tt
processes_over P n k (g ∷ gs) f = (f.0, processes_over P n (suc k) gs f.1)

-- the processes that entry n makes for the body of a closed clause
pub children_over : (n : ℕ) (ps : List Place) (used : Option Clause) → ((c : Clause) → used ≡ Some c → IsClosedClause c)
    → Each (λ q. GoalOver (IsPlaceIn (places_after n (vars_of used) ps)) q.goal) (children_of n used)
children_over n ps None closed = tt
children_over n ps (Some c) closed =
    let P : Variable → Type 0 = IsPlaceIn (places_after n c.vars ps) in
    processes_over P n 1 (map (rename_goal (placed n)) c.body)
    (GoalsOver-rename (placed n) (IsNumbered c.vars) P (placed_listed n c.vars ps) c.body (closed c refl).body)

pub commit_keeps_bindings : (m : Program) (s : State) (p : Process) (k : ℕ) (bs : Bindings) (rs : List Variable) → IsClosed m
    → IsLawfulBindings s → GoalOver (IsPlaceIn s.places) p.goal → Decides m s.bound p.goal (commits k bs rs)
    → IsLawfulBindings (committed m s p k bs) × AreGoalsOver (committed m s p k bs) (children m s p k)
commit_keeps_bindings m s p k bs rs closed h over (n, e) =
    let K : Place → Type 0 = Listed s.places in
    let goal : GoalOver (IsMet K 0) p.goal = GoalOver-more (IsPlaceIn s.places) (IsMet K 0) (place_is_met s.places 0) p.goal over in
    let try : IsMetTry K (vars_of (clause_used m p.goal k)) s.bound bs =
    commit_meets K s.bound (met_at_first s h) m n p.goal k bs rs closed goal e in (
      lawful_after s p.name (clause_used m p.goal k) bs h try,
      children_over (suc s.entries) s.places (clause_used m p.goal k) (λ c. used_closed m p.goal k c closed),
    )
