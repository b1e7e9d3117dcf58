-- Each entry leads from a lawful state to a lawful one.
use Rattle.std.proofs.Common.{◌≡◌, ℕ, suc, ◌<◌, ◌≤◌, Bool, true, false, cond, List, [], ◌∷◌, ◌++◌, map, Option, Some, None, refl, sym, ◌∙◌, subst, arith}
use Rattle.std.specs.Prelude.{◌||◌, ◌&&◌, option_map}
use Rattle.std.proofs.lemmas.Bool.{lt-ltb}
use Rattle.fcp_model.specs.declared.run.Place.{Place}
use Rattle.fcp_model.specs.declared.run.Proc.{Proc}
use Rattle.fcp_model.specs.declared.run.Entry.{Entry}
use Rattle.fcp_model.specs.declared.run.Entry.TheVariants.{Commit, Hang, Fail, Snapshot, Suspend, Resume, Abort}
use Rattle.fcp_model.specs.Places.{is_same_process, is_older_process, Variable, places_among}
use Rattle.fcp_model.specs.Terms.{Bindings}
use Rattle.fcp_model.specs.Programs.{Program}
use Rattle.fcp_model.specs.Decisions.{Decision, commits, decides_fail, waits_on, decide, Decides}
use Rattle.fcp_model.specs.States.{Status, ready, waiting, finished, Process, State, Mode, is_open, is_held, is_failed, is_aborted, is_ready, is_running, is_suspended, process_named}
use Rattle.fcp_model.specs.Cells.{clause_used}
use Rattle.fcp_model.specs.Events.{Event, binds_one, is_woken, made_ready, wake, with_status, children_of, after_commit, after_hang, event_of, control_event}
use Rattle.fcp_model.specs.Runs.{move_on, move, agreed, is_same_move, control}
use Rattle.fcp_model.specs.ClosedPrograms.{GoalOver, IsClosed}
use Rattle.fcp_model.specs.LawfulStates.{Each, NamesRise, NamesWithin, IsPlaceIn, WaitsOn, StandsRight, IsLawfulState}
use Rattle.fcp_laws.proofs.ProcessNames.{same_process, name_found, each_map, rise_map, each_so, each_append, each_found, apart_of_rise}
use Rattle.fcp_laws.proofs.WaitingProcesses.{with_status-name, wake-name}
use Rattle.fcp_laws.proofs.QueueMoves.{each_itself, children_entry, children_rise}
use Rattle.binding_laws.specs.LawfulBindings.{IsLawfulBindings}
use Rattle.binding_laws.proofs.PlaceLists.{within_above}
use Rattle.binding_laws.proofs.KeptBindings.{goal_listed, commit_keeps_bindings}
use Rattle.state_laws.specs.Laws.{AnEntryKeepsStatesLawful}
use Rattle.state_laws.proofs.StartStates.{new_stand}
use Rattle.state_laws.proofs.WaitsAfterCommits.{waits_after}

-- a fact of each process that was changed, from two facts of each
each_two : (P Q R : Process → Type 0) (f : Process → Process) → ((p : Process) → P p → Q p → R (f p)) → (ps : List Process) → Each P ps
    → Each Q ps → Each R (map f ps)
each_two P Q R f so [] h i = tt
each_two P Q R f so (p ∷ ps) h i = (so p h.0 i.0, each_two P Q R f so ps h.1 i.1)

names_later : (n : ℕ) (ps : List Process) → NamesWithin n ps → NamesWithin (suc n) ps
names_later n ps h = each_so (λ p. p.name.entry ≤ n) (λ p. p.name.entry ≤ suc n) (λ p i. omega arith) ps h

-- processes of later entries come last
rise_join : (n : ℕ) (ps qs : List Process) → NamesRise ps → NamesWithin n ps → NamesRise qs → Each (λ q. n < q.name.entry) qs
    → NamesRise (ps ++ qs)
rise_join n [] qs h w i l = i
rise_join n (p ∷ ps) qs h w i l =
    (each_append IsYounger ps qs h.0 (each_so (λ q. n < q.name.entry) IsYounger older qs l), rise_join n ps qs h.1 w.1 i l)
  where
    IsYounger : Process → Type 0
    IsYounger q = is_older_process p.name q.name ≡ true

    first_true : (b c : Bool) → b ≡ true → (b || c) ≡ true
    first_true true c e = refl
    first_true false c e = absurd cc

    older : (q : Process) → n < q.name.entry → is_older_process p.name q.name ≡ true
    older q i = first_true _ _ (lt-ltb p.name.entry q.name.entry (omega (arith, w.0, i)))

-- an entry that changes the number of entries and the mode alone
entry_later : (m : Program) (s : State) (mode : Mode) → IsLawfulState m s
    → IsLawfulState m (record s { entries = suc s.entries; mode = mode })
entry_later m s mode h = record {
  ordered = record { rise = h.ordered.rise; within = names_later s.entries s.processes h.ordered.within };
  places = within_above s.entries (suc s.entries) s.places (omega arith) h.places;
  bound = h.bound;
  goals = h.goals;
  ranked = h.ranked;
  waits = h.waits;
}

-- the processes of a lawful state are those of their names
module _ (m : Program) (s : State) (h : IsLawfulState m s) where
  abbrev IsNamed : Process → Type 0
  IsNamed q = process_named s.processes q.name ≡ Some q

  abbrev IsOver : Process → Type 0
  IsOver q = GoalOver (IsPlaceIn s.places) q.goal

  abbrev Stands : Process → Type 0
  Stands q = StandsRight m s.bound q q.status

  all_named : Each IsNamed s.processes
  all_named = each_itself s.processes (apart_of_rise s.processes h.ordered.rise)

  same_named : (p q : Process) → IsNamed p → IsNamed q → is_same_process q.name p.name ≡ true → q ≡ p
  same_named p q i j e = go (subst (λ n. process_named s.processes n ≡ Some q) (same_process q.name p.name e) j)
    where
      go : process_named s.processes p.name ≡ Some q → q ≡ p
      go there = cc

  goal_of : (p : Process) → IsNamed p → IsOver p
  goal_of p i = each_found IsOver s.processes p.name p h.goals i

  hang_keeps : (p : Process) (rs : List Variable) → IsNamed p → Decides m s.bound p.goal (waits_on rs)
      → IsLawfulState m (after_hang s p.name (places_among rs))
  hang_keeps p rs named d = record {
    ordered = record {
      rise = rise_map hung names s.processes h.ordered.rise;
      within = each_map hung names (λ n. n.entry ≤ suc s.entries) s.processes (names_later s.entries s.processes h.ordered.within);
    };
    places = within_above s.entries (suc s.entries) s.places (omega arith) h.places;
    bound = h.bound;
    goals = each_two IsOver IsOver IsOver hung (λ q i j. over q i) s.processes h.goals h.goals;
    ranked = h.ranked;
    waits = each_two IsNamed Stands Stands hung stands s.processes all_named h.waits;
  }
    where
      hung : Process → Process
      hung q = with_status p.name (waiting (places_among rs)) q

      names : (q : Process) → (hung q).name ≡ q.name
      names q = with_status-name p.name (waiting (places_among rs)) q

      over : (q : Process) → IsOver q → IsOver (hung q)
      over q i = go (is_same_process q.name p.name)
        where
          go : (b : Bool) → IsOver (cond b (record q { status = waiting (places_among rs) }) q)
          go true = i
          go false = i

      waits : WaitsOn m s.bound p.goal (places_among rs)
      waits = record { reads = rs; decides = d; places = refl }

      stands : (q : Process) → IsNamed q → Stands q → Stands (hung q)
      stands q i j = go (is_same_process q.name p.name) refl
        where
          go : (b : Bool) → is_same_process q.name p.name ≡ b → Stands (cond b (record q { status = waiting (places_among rs) }) q)
          go true e = subst (λ (x : Process). WaitsOn m s.bound x.goal (places_among rs)) (sym (same_named p q named i e)) waits
          go false e = j

  commit_keeps : (p : Process) (k : ℕ) (bs : Bindings) (rs : List Variable) → IsClosed m → IsNamed p
      → Decides m s.bound p.goal (commits k bs rs) → IsLawfulState m (after_commit s p.name (clause_used m p.goal k) bs)
  commit_keeps p k bs rs closed named d = record {
    ordered = record {
      rise =
          rise_join e (map kept s.processes) children (rise_map kept names s.processes h.ordered.rise)
          (each_map kept names (λ n. n.entry ≤ e) s.processes h.ordered.within)
          (children_rise (suc e) 1 _) (children_entry (λ n. e < n) (suc e) 1 _ (omega arith));
      within = each_append (λ q. q.name.entry ≤ suc e) (map kept s.processes) children
          (each_map kept names (λ n. n.entry ≤ suc e) s.processes (names_later e s.processes h.ordered.within))
          (children_entry (λ n. n ≤ suc e) (suc e) 1 _ (omega arith));
    };
    places = bindings.0.places;
    bound = bindings.0.bound;
    goals =
        each_append over_after (map kept s.processes) children
        (each_two IsOver IsOver over_after kept (λ q i j. over q i) s.processes h.goals h.goals) bindings.1;
    ranked = bindings.0.ranked;
    waits =
        each_append stands_after (map kept s.processes) children
        (each_two IsOver Stands stands_after kept stands s.processes h.goals h.waits) (new_stand m after.bound (suc e) 1 _);
  }
    where
      e : ℕ
      e = s.entries

      after : State
      after = after_commit s p.name (clause_used m p.goal k) bs

      children : List Process
      children = children_of (suc e) (clause_used m p.goal k)

      kept : Process → Process
      kept q = wake bs (with_status p.name finished q)

      over_after : Process → Type 0
      over_after q = GoalOver (IsPlaceIn after.places) q.goal

      stands_after : Process → Type 0
      stands_after q = StandsRight m after.bound q q.status

      bindings : IsLawfulBindings after × Each over_after children
      bindings =
          commit_keeps_bindings m s p k bs rs closed (record { places = h.places; bound = h.bound; ranked = h.ranked }) (goal_of p named) d

      names : (q : Process) → (kept q).name ≡ q.name
      names q = wake-name bs (with_status p.name finished q) ∙ with_status-name p.name finished q

      goal_kept : (q : Process) → (kept q).goal ≡ q.goal
      goal_kept q = woken (with_status p.name finished q) ∙ changed (is_same_process q.name p.name)
        where
          woken : (x : Process) → (wake bs x).goal ≡ x.goal
          woken x = go (is_woken bs x.status)
            where
              go : (b : Bool) → (cond b (made_ready x) x).goal ≡ x.goal
              go true = refl
              go false = refl

          changed : (b : Bool) → (cond b (record q { status = finished }) q).goal ≡ q.goal
          changed true = refl
          changed false = refl

      over : (q : Process) → IsOver q → over_after (kept q)
      over q i = subst (GoalOver (IsPlaceIn after.places)) (sym (goal_kept q)) (goal_listed s.places _ q.goal i)

      -- a process that is not the one that commits
      stands_woken : (q : Process) → IsOver q → Stands q → stands_after (wake bs q)
      stands_woken q i j = go q.status refl j
        where
          waits : (ps : List Place) → q.status ≡ waiting ps → WaitsOn m s.bound q.goal ps → (b : Bool) → binds_one bs ps ≡ b
              → stands_after (cond b (made_ready q) q)
          waits ps f w true g = tt
          waits ps f w false g = subst (StandsRight m after.bound q) (sym f) (waits_after m s h bs q.goal ps i g w)

          go : (st : Status) → q.status ≡ st → StandsRight m s.bound q st → stands_after (cond (is_woken bs st) (made_ready q) q)
          go ready f w = subst (StandsRight m after.bound q) (sym f) tt
          go finished f w = subst (StandsRight m after.bound q) (sym f) tt
          go (waiting ps) f w = waits ps f w (binds_one bs ps) refl

      stands : (q : Process) → IsOver q → Stands q → stands_after (kept q)
      stands q i j = go (is_same_process q.name p.name)
        where
          go : (b : Bool) → stands_after (wake bs (cond b (record q { status = finished }) q))
          go true = tt
          go false = stands_woken q i j

  move_keeps : (p : Process) (d : Decision) → IsClosed m → IsNamed p → Decides m s.bound p.goal d → IsLawfulState m (event_of m s p d).after
  move_keeps p (commits k bs rs) closed named d = commit_keeps p k bs rs closed named d
  move_keeps p (waits_on rs) closed named d = hang_keeps p rs named d
  move_keeps p (decides_fail rs) closed named d = entry_later m s is_failed h

-- what a move is: the event of what is decided for the process of its name
record IsMove (m : Program) (s : State) (name : Proc) (ev : Event) : Type 0 where
  process : Process
  named : process_named s.processes name ≡ Some process
  decision : Decision
  decides : Decides m s.bound process.goal decision
  is : event_of m s process decision ≡ ev

module _ (n : ℕ) (m : Program) (s : State) (name : Proc) (ev : Event) where
  decided : (p : Process) → process_named s.processes name ≡ Some p → (o : Option Decision) → decide n m s.bound p.goal ≡ o
      → option_map (event_of m s p) o ≡ Some ev → IsMove m s name ev
  decided p e None f i = absurd cc
  decided p e (Some d) f i = record { process = p; named = e; decision = d; decides = (n, f); is = cc }

  found : (o : Option Process) → process_named s.processes name ≡ o → move_on n m s o ≡ Some ev → IsMove m s name ev
  found None e i = absurd cc
  found (Some p) e i = go (is_running s.mode && is_ready p.status) i
    where
      go : (b : Bool) → cond b (option_map (event_of m s p) (decide n m s.bound p.goal)) None ≡ Some ev → IsMove m s name ev
      go true j = decided p e (decide n m s.bound p.goal) refl j
      go false j = absurd cc

  agreed_is : (e : Entry) → agreed e (move n m s name) ≡ Some ev → IsMove m s name ev
  agreed_is e i = go (move n m s name) refl i
    where
      go : (o : Option Event) → move n m s name ≡ o → agreed e o ≡ Some ev → IsMove m s name ev
      go None f j = absurd cc
      go (Some x) f j = agrees (is_same_move e x.entry) j
        where
          agrees : (b : Bool) → cond b (Some x) None ≡ Some ev → IsMove m s name ev
          agrees true k = found (process_named s.processes name) refl (f ∙ k)
          agrees false k = absurd cc

moved_lawful : (m : Program) (s : State) (name : Proc) (ev : Event) → IsClosed m → IsLawfulState m s → IsMove m s name ev
    → IsLawfulState m ev.after
moved_lawful m s name ev closed h v =
    let named : process_named s.processes v.process.name ≡ Some v.process = subst (λ x. process_named s.processes x ≡ Some v.process)
    (sym (name_found s.processes name v.process v.named)) v.named in
    subst (λ (x : Event). IsLawfulState m x.after) v.is (move_keeps m s h v.process v.decision closed named v.decides)

controlled : (m : Program) (s : State) (e : Entry) (mode : Mode) (ev : Event) → IsLawfulState m s → (b : Bool)
    → control s e b mode ≡ Some ev → IsLawfulState m ev.after
controlled m s e mode ev h true i =
    let same : control_event s e mode ≡ ev = cc in subst (λ (x : Event). IsLawfulState m x.after) same (entry_later m s mode h)
controlled m s e mode ev h false i = absurd cc

pub an_entry_keeps_states_lawful : AnEntryKeepsStatesLawful
an_entry_keeps_states_lawful n m s (Commit p k) ev closed h e = moved_lawful m s p ev closed h (agreed_is n m s p ev (Commit p k) e)
an_entry_keeps_states_lawful n m s (Hang p) ev closed h e = moved_lawful m s p ev closed h (agreed_is n m s p ev (Hang p) e)
an_entry_keeps_states_lawful n m s (Fail p) ev closed h e = moved_lawful m s p ev closed h (agreed_is n m s p ev (Fail p) e)
an_entry_keeps_states_lawful n m s Snapshot ev closed h e = controlled m s Snapshot s.mode ev h (is_running s.mode || is_suspended s.mode) e
an_entry_keeps_states_lawful n m s Suspend ev closed h e = controlled m s Suspend is_held ev h (is_running s.mode) e
an_entry_keeps_states_lawful n m s Resume ev closed h e = controlled m s Resume is_open ev h (is_suspended s.mode) e
an_entry_keeps_states_lawful n m s Abort ev closed h e = controlled m s Abort is_aborted ev h (is_running s.mode || is_suspended s.mode) e
