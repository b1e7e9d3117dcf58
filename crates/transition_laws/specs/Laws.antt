-- Laws of entries, transitions, computations and their ends.
use Rattle.std.specs.Prelude.{◌≡◌, ℕ, ◌↔◌, ◌++◌, suc, false, true, List, [], ◌∷◌, map, Some}
use Rattle.fcp_model.specs.declared.run.Proc.{Proc}
use Rattle.fcp_model.specs.declared.run.Limits.{Limits}
use Rattle.fcp_model.specs.declared.run.Entry.{Entry}
use Rattle.fcp_model.specs.declared.run.Entry.TheVariants.{Commit, Hang, Fail}
use Rattle.fcp_model.specs.declared.run.Outcome.TheVariants.{Failed, Terminated, Suspended}
use Rattle.fcp_model.specs.Places.{Variable, placed}
use Rattle.fcp_model.specs.Terms.{Bindings}
use Rattle.fcp_model.specs.Programs.{Goal, Program, rename_goal}
use Rattle.fcp_model.specs.Decisions.{commits, decides_fail, Decides}
use Rattle.fcp_model.specs.States.{Process, State, is_open, is_finished, process_named, start}
use Rattle.fcp_model.specs.Events.{Event}
use Rattle.fcp_model.specs.Runs.{allows, IsDecided, next, IsRun, last_state}
use Rattle.fcp_model.specs.Outcomes.{Ends}
use Rattle.fcp_model.specs.LawfulStates.{IsOrdered, IsLawfulState}
use Rattle.transition_laws.specs.Transitions.{configuration, GoalReduces, GoalFails, Reduces, Fails, IsDeadlock, commits_of, Computes}

-- the entry is the next one of a run, by some number of steps, and has this event
abbrev pub IsNext : Program → State → Entry → Event → Type 0
IsNext m s e ev = (n : ℕ) × (next n m s e ≡ Some ev)

-- an entry is a next one of a run exactly where the run allows it and it is decided
abbrev pub ANextEntryIsAllowedAndDecided : Type 0
ANextEntryIsAllowedAndDecided = (m : Program) (s : State) (e : Entry) →
    ((ev : Event) × IsNext m s e ev) ↔ ((allows s e ≡ true) × IsDecided m s e)

-- the event of an entry is of that entry, and begins where the run stands
abbrev pub AnEventIsOfItsEntry : Type 0
AnEventIsOfItsEntry = (m : Program) (s : State) (e : Entry) (ev : Event) → IsNext m s e ev → (ev.entry ≡ e) × (ev.before ≡ s)

-- a commit by a clause with some bindings is decided exactly where the goal reduces so
abbrev pub ACommitIsAReduction : Type 0
ACommitIsAReduction = (m : Program) (s : Bindings) (g : Goal Variable) (k : ℕ) (bs : Bindings) →
    ((rs : List Variable) × Decides m s g (commits k bs rs)) ↔ ((body : List (Goal ℕ)) × GoalReduces m s g k bs body)

-- a fail is decided exactly where the goal fails
abbrev pub AFailIsAFailure : Type 0
AFailIsAFailure = (m : Program) (s : Bindings) (g : Goal Variable) →
    ((rs : List Variable) × Decides m s g (decides_fail rs)) ↔ GoalFails m s g

-- the process of a name is live and has this goal
pub record IsLiveGoal (s : State) (name : Proc) (g : Goal Variable) : Type 0 where
  pub process : Process
  pub named : process_named s.processes name ≡ Some process
  pub is_live : is_finished process.status ≡ false
  pub goal : process.goal ≡ g

-- the goal of a process reduces by clause k, with the bindings of the event
pub record ReducesProcess (m : Program) (s : State) (name : Proc) (k : ℕ) (ev : Event) : Type 0 where
  pub reduction : Reduces m (suc s.entries) (configuration s) (configuration ev.after)
  pub is_live : IsLiveGoal s name reduction.goal
  pub clause : reduction.clause ≡ k
  pub bindings : reduction.bindings ≡ ev.bindings

-- the goal of a process neither reduces nor fails, and the configuration stays
pub record WaitsProcess (m : Program) (s : State) (name : Proc) (ev : Event) : Type 0 where
  pub goal : Goal Variable
  pub is_live : IsLiveGoal s name goal
  pub no_reduction : (k : ℕ) (bs : Bindings) (body : List (Goal ℕ)) → GoalReduces m s.bound goal k bs body → ⊥
  pub no_failure : GoalFails m s.bound goal → ⊥
  pub stays : configuration ev.after ≡ configuration s

-- the goal of a process fails, and the configuration stays
pub record FailsProcess (m : Program) (s : State) (name : Proc) (ev : Event) : Type 0 where
  pub failure : Fails m (configuration s)
  pub is_live : IsLiveGoal s name failure.goal
  pub stays : configuration ev.after ≡ configuration s

-- what an entry is for the configuration: a commit reduces a goal, a hang finds that one can only wait, a fail that one
-- fails, and a control leaves all goals and bindings as they are
abbrev pub IsTransition : Program → State → Entry → Event → Type 0
IsTransition m s (Commit p k) ev = ReducesProcess m s p k ev
IsTransition m s (Hang p) ev = WaitsProcess m s p ev
IsTransition m s (Fail p) ev = FailsProcess m s p ev
IsTransition m s e ev = configuration ev.after ≡ configuration s

-- each entry of an ordered state is a transition
abbrev pub AnEntryIsATransition : Type 0
AnEntryIsATransition = (m : Program) (s : State) (e : Entry) (ev : Event) → IsOrdered s → IsNext m s e ev → IsTransition m s e ev

-- the first configuration of a goal: its items, whose variables have the places of entry 0, and no bindings
abbrev pub AStartIsTheGoal : Type 0
AStartIsTheGoal = (vars : ℕ) (gs : List (Goal ℕ)) →
    configuration (start vars gs) ≡ record { goals = map (rename_goal (placed 0)) gs; bound = [] }

-- the commits of a run lead, by reductions, from its first configuration to its last
abbrev pub ARunComputes : Type 0
ARunComputes = (m : Program) (s : State) (log : List Entry) (evs : List Event) → IsOrdered s → IsRun m s log evs →
    Computes m (configuration s) (commits_of evs) (configuration (last_state s evs))

-- nothing comes after a fail
abbrev pub AFailIsLast : Type 0
AFailIsLast = (m : Program) (s : State) (evs : List Event) (p : Proc) (before after : List Entry) →
    IsRun m s (before ++ Fail p ∷ after) evs → after ≡ []

-- no process commits twice
abbrev pub AProcessCommitsOnce : Type 0
AProcessCommitsOnce = (m : Program) (s : State) (evs : List Event) (p : Proc) (k j : ℕ) (before between after : List Entry) →
    IsRun m s (before ++ Commit p k ∷ between ++ Commit p j ∷ after) evs → ⊥

-- a run that terminated has no goal left
abbrev pub ATerminatedRunIsDone : Type 0
ATerminatedRunIsDone = (m : Program) (limits : Limits) (s : State) (evs : List Event) → Ends m limits s evs Terminated →
    (configuration (last_state s evs)).goals ≡ []

-- in a run that failed a goal of the last configuration fails
abbrev pub AFailedRunFails : Type 0
AFailedRunFails = (m : Program) (limits : Limits) (s : State) (log : List Entry) (evs : List Event) → IsOrdered s → s.mode ≡ is_open →
    IsRun m s log evs → Ends m limits s evs Failed → Fails m (configuration (last_state s evs))

-- in a run that is suspended no goal of the last configuration reduces or fails, and there are goals left
abbrev pub ASuspendedRunIsDeadlocked : Type 0
ASuspendedRunIsDeadlocked = (m : Program) (limits : Limits) (s : State) (evs : List Event) → IsLawfulState m (last_state s evs) →
    Ends m limits s evs Suspended → IsDeadlock m (configuration (last_state s evs))
