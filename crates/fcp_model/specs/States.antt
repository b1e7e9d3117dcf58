-- The state of a run.
use Rattle.std.specs.Prelude.{ℕ, zero, suc, Bool, true, false, List, [], ◌∷◌, map, Option, Some, None}
use Rattle.fcp_model.specs.declared.run.Place.{Place}
use Rattle.fcp_model.specs.declared.run.Proc.{Proc}
use Rattle.fcp_model.specs.Places.{place, proc, is_same_process, Variable, placed}
use Rattle.fcp_model.specs.Terms.{Bindings}
use Rattle.fcp_model.specs.Programs.{Goal, rename_goal}

-- how a process stands
pub data Status : Type 0 where
  ready : Status
  -- on the places, in order of age
  waiting : List Place → Status
  finished : Status

-- a process: its name, its goal and how it stands
pub record Process : Type 0 where
  pub name : Proc
  pub goal : Goal Variable
  pub status : Status

-- how a run stands
pub data Mode : Type 0 where
  is_open : Mode
  -- a control suspended the run
  is_held : Mode
  is_failed : Mode
  is_aborted : Mode

-- the number of entries so far, the places that were made, the bindings, all processes ever made in order of age, and the mode
pub record State : Type 0 where
  pub entries : ℕ
  pub places : List Place
  pub bound : Bindings
  pub processes : List Process
  pub mode : Mode

-- the numbers from, from + 1, and on, so many
abbrev pub count_up : ℕ → ℕ → List ℕ
count_up from zero = []
count_up from (suc n) = from ∷ count_up (suc from) n

-- #n.k and on, for the goals from the k-th on, all Ready
abbrev pub processes_of : ℕ → ℕ → List (Goal Variable) → List Process
processes_of n k [] = []
processes_of n k (g ∷ gs) = record { name = proc n k; goal = g; status = ready } ∷ processes_of n (suc k) gs

-- the state before the first entry, for a goal of so many variables
abbrev pub start : ℕ → List (Goal ℕ) → State
start vars gs = record {
  entries = 0;
  places = map (place 0) (count_up 1 vars);
  bound = [];
  processes = processes_of 0 1 (map (rename_goal (placed 0)) gs);
  mode = is_open;
}

-- the process may move
abbrev pub is_ready : Status → Bool
is_ready ready = true
is_ready _ = false

-- the process is done
abbrev pub is_finished : Status → Bool
is_finished finished = true
is_finished _ = false

-- moves are allowed
abbrev pub is_running : Mode → Bool
is_running is_open = true
is_running _ = false

-- a control suspended the run, and none resumed it since
abbrev pub is_suspended : Mode → Bool
is_suspended is_held = true
is_suspended _ = false

-- the process of a name
abbrev pub process_named : List Process → Proc → Option Process
process_named [] q = None
process_named (p ∷ ps) q = elim (is_same_process p.name q) [ true ↦ Some p | _ ↦ process_named ps q ]
