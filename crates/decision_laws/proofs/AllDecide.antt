-- Each goal has a decision, where bindings have no cycle.
use Rattle.std.proofs.Common.{◌≡◌, ℕ, suc, Bool, true, false, List, [], ◌∷◌, ◌++◌, length, Some, subst, arith}
use Rattle.std.specs.Prelude.{option_map}
use Rattle.fcp_model.specs.declared.run.Place.{Place}
use Rattle.fcp_model.specs.declared.run.Proc.{Proc}
use Rattle.fcp_model.specs.Places.{Variable, is_same_process}
use Rattle.fcp_model.specs.Terms.{Term, number, Bindings}
use Rattle.fcp_model.specs.Expressions.{Evaluated, gives, bad, unready, eval}
use Rattle.fcp_model.specs.Pair.{Pair}
use Rattle.fcp_model.specs.HeadPairs.{head_pairs}
use Rattle.fcp_model.specs.Unification.{Ended, done, clash, wait, unify}
use Rattle.fcp_model.specs.Programs.{Goal, user, true', unifies, assigns, Clause, Program, clauses_of}
use Rattle.fcp_model.specs.Trials.{Tried, succeeds, try_fails, try_waits, tests, guard_on, attempt}
use Rattle.fcp_model.specs.Decisions.{Decision, choose_on, choose, built_in, assign_on, decide, Decides}
use Rattle.fcp_model.specs.States.{Process, State, process_named}
use Rattle.fcp_model.specs.Ranks.{Ranked}
use Rattle.fcp_model.specs.ClosedPrograms.{Over, AllOver, GoalOver, IsClosedClause, AreClosed, IsClosed}
use Rattle.fcp_model.specs.LawfulStates.{Each, IsPlaceIn, IsLawfulState}
use Rattle.binding_laws.proofs.OverTerms.{Over-more, GoalOver-more}
use Rattle.binding_laws.proofs.PlaceLists.{place_left}
use Rattle.binding_laws.proofs.MetTerms.{IsMet, met_in_met, met_is_marked}
use Rattle.binding_laws.proofs.MetBindings.{AreMetBindings}
use Rattle.binding_laws.proofs.HeadMarks.{head_pairs_marked}
use Rattle.binding_laws.proofs.MetDecisions.{clauses_closed}
use Rattle.binding_laws.proofs.KeptBindings.{Listed, place_is_met}
use Rattle.decision_laws.specs.PlaceBindings.{IsPlace, BindsOver}
use Rattle.decision_laws.proofs.Settling.{Any, Settles, at_once, and_then}
use Rattle.decision_laws.proofs.Guards.{eval_settles, tests_settle}
use Rattle.decision_laws.proofs.Unifications.{KeepsRanks, unify_settles}
use Rattle.decision_laws.proofs.NamedPlaces.{place_right, goal_places, bound_places, goal_over, binds_over}

module _ (known : List Place) (s : Bindings) (b : AreMetBindings (Listed known) 0 s) where
  -- over known places
  abbrev IsKnown : Variable → Type 0
  IsKnown v = IsMet (Listed known) 0 v

  -- a built-in process that unifies
  built_in_settles : (t u : Term Variable) → Over IsKnown t → Over IsKnown u
      → Settles Any (λ n. option_map (built_in []) (unify n s [] [] ((t, u) ∷ [])))
  built_in_settles t u f g =
      let met = met_in_met (Listed known) 0 u g in
      and_then (KeepsRanks s) Any (λ n. unify n s [] [] ((t, u) ∷ [])) (λ n y. option_map (built_in []) y)
      (unify_settles known 0 s ((t, u) ∷ []) b (f, met_is_marked (Listed known) 0 u g, tt) (omega (arith, met)))
      (at_once Any _ tt)

  -- the try of a closed clause
  attempt_settles : (c : Clause) (args : List (Term Variable)) (behind : Bool) → IsClosedClause c → AllOver IsKnown args
      → Settles Any (λ n. attempt n s c args behind)
  attempt_settles c args behind f g =
      let ps : List Pair = head_pairs 0 args c.args in
      let head = head_pairs_marked (Listed known) c.vars 0 args c.args (omega arith) g f.args in
      let x = unify_settles known c.vars s ps b head.marked head.within in
      and_then (KeepsRanks s) Any (λ n. unify n s [] [] ps) (λ n y. guard_on (λ bs rs. tests n s bs behind rs c.guard) y) x
      (go x.answer x.holds)
    where
      go : (y : Ended) → KeepsRanks s y → Settles Any (λ n. guard_on (λ bs rs. tests n s bs behind rs c.guard) (Some y))
      go (done bs rs) k = tests_settle s bs k behind rs c.guard
      go (clash rs) k = at_once Any _ tt
      go (wait rs) k = at_once Any _ tt

  -- the choice among closed clauses
  choose_settles : (args : List (Term Variable)) → AllOver IsKnown args → (k : ℕ) (behind : Bool) (rs : List Variable) (cs : List Clause)
      → AreClosed cs → Settles Any (λ n. choose n s args k behind rs cs)
  choose_settles args g k behind rs [] f = at_once Any _ tt
  choose_settles args g k behind rs (c ∷ cs) f =
      let x = attempt_settles c args behind f.0 g in
      and_then Any Any (λ n. attempt n s c args behind) (λ n y. choose_on (λ d qs. choose n s args (suc k) d qs cs) k behind rs y) x
      (go x.answer (λ d qs. choose_settles args g (suc k) d qs cs f.1))
    where
      go : (y : Tried) → ((d : Bool) (qs : List Variable) → Settles Any (λ n. choose n s args (suc k) d qs cs))
          → Settles Any (λ n. choose_on (λ d qs. choose n s args (suc k) d qs cs) k behind rs (Some y))
      go (succeeds bs qs) rec = at_once Any _ tt
      go (try_fails qs) rec = rec behind (rs ++ qs)
      go (try_waits qs) rec = rec false (rs ++ qs)

  -- the decision of a goal over known places
  decide_settles : (m : Program) (g : Goal Variable) → IsClosed m → GoalOver IsKnown g → Settles Any (λ n. decide n m s g)
  decide_settles m (user p args) f g = choose_settles args g 1 true [] (clauses_of m p (length args)) (clauses_closed m p (length args) f)
  decide_settles m true' f g = at_once Any _ tt
  decide_settles m (unifies t u) f g = built_in_settles t u g.0 g.1
  decide_settles m (assigns t e) f g =
      let x = eval_settles s b.ranked e in
      and_then Any Any (λ n. eval n s e) (λ n y. assign_on (λ z. option_map (built_in []) (unify n s [] [] ((t, number z) ∷ []))) y) x
      (go x.answer)
    where
      go : (y : Evaluated) → Settles Any (λ n. assign_on (λ z. option_map (built_in []) (unify n s [] [] ((t, number z) ∷ []))) (Some y))
      go (gives z) = built_in_settles t (number z) g.0 tt
      go bad = at_once Any _ tt
      go (unready rs) = at_once Any _ tt

binds_wider : (P Q : Variable → Type 0) → ((v : Variable) → P v → Q v) → (s : Bindings) → BindsOver P s → BindsOver Q s
binds_wider P Q wider s h v t e = let x = h v t e in (wider v x.0, Over-more P Q wider t x.1)

-- a goal has a decision where it and the bindings are over the places of a list
decides_over : (m : Program) (ps : List Place) (s : Bindings) (g : Goal Variable) → IsClosed m → Ranked s → BindsOver (IsPlaceIn ps) s
    → GoalOver (IsPlaceIn ps) g → (d : Decision) × Decides m s g d
decides_over m ps s g closed ranked over h =
    let known : (v : Variable) → IsPlaceIn ps v → IsMet (Listed ps) 0 v = place_is_met ps 0 in
    let met : BindsOver (IsMet (Listed ps) 0) s = binds_wider (IsPlaceIn ps) (IsMet (Listed ps) 0) known s over in
    let goal = GoalOver-more (IsPlaceIn ps) (IsMet (Listed ps) 0) known g h in
    let x = decide_settles ps s (record { ranked = ranked; over = met }) m g closed goal in
    (x.answer, (x.steps, x.is x.steps (omega arith)))

-- over places, and so over those that the bindings and the goal mention
pub goal_decides : (m : Program) (s : Bindings) (g : Goal Variable) → IsClosed m → Ranked s → BindsOver IsPlace s → GoalOver IsPlace g
    → (d : Decision) × Decides m s g d
goal_decides m s g closed ranked over h =
    let ps : List Place = bound_places s in
    let qs : List Place = goal_places g in
    decides_over m (ps ++ qs) s g closed ranked
    (binds_wider (IsPlaceIn ps) (IsPlaceIn (ps ++ qs)) (place_left ps qs) s (binds_over s over))
    (GoalOver-more (IsPlaceIn qs) (IsPlaceIn (ps ++ qs)) (place_right ps qs) g (goal_over g h))

-- what holds of each process holds of the one of a name
each_named : (P : Process → Type 0) (ps : List Process) (name : Proc) (p : Process) → Each P ps → process_named ps name ≡ Some p → P p
each_named P [] name p h e = cc
each_named P (q ∷ ps) name p h e = go (is_same_process q.name name) e (λ f. each_named P ps name p h.1 f)
  where
    go : (c : Bool) → elim c [ true ↦ Some q | _ ↦ process_named ps name ] ≡ Some p → (process_named ps name ≡ Some p → P p) → P p
    go true f rec = let same : q ≡ p = cc in subst P same h.0
    go false f rec = rec f

-- each process of a lawful state has a decision
pub process_decides : (m : Program) (s : State) (p : Process) → IsClosed m → IsLawfulState m s → process_named s.processes p.name ≡ Some p
    → (d : Decision) × Decides m s.bound p.goal d
process_decides m s p closed h e =
    decides_over m s.places s.bound p.goal closed h.ranked h.bound
    (each_named (λ q. GoalOver (IsPlaceIn s.places) q.goal) s.processes p.name p h.goals e)
