-- What an entry does: its effect on the state.
use Rattle.std.specs.Prelude.{ℕ, suc, Bool, false, ◌||◌, List, [], ◌∷◌, ◌++◌, map, filter, Option, Some, None, if◌then◌else◌, is_some}
use Rattle.fcp_model.specs.declared.run.Place.{Place}
use Rattle.fcp_model.specs.declared.run.Proc.{Proc}
use Rattle.fcp_model.specs.declared.run.Entry.{Entry}
use Rattle.fcp_model.specs.declared.run.Entry.TheVariants.{Commit, Hang, Fail}
use Rattle.fcp_model.specs.Places.{place, is_same_process, made, placed, places_among}
use Rattle.fcp_model.specs.Terms.{rename, settle, Bindings, find}
use Rattle.fcp_model.specs.Programs.{Goal, Clause, Program, rename_goal}
use Rattle.fcp_model.specs.Decisions.{Decision, commits, decides_fail, waits_on}
use Rattle.fcp_model.specs.States.{Status, ready, waiting, finished, Process, Mode, is_failed, State, count_up, processes_of}
use Rattle.fcp_model.specs.Cells.{clause_used, cells}

-- An entry between the states before and after it, with what it did: the bindings as the try made them, the waiting
-- set, the processes that it made, which are Ready, those that it woke, by name and as they waited, and its cells.
pub record Event : Type 0 where
  pub before : State
  pub entry : Entry
  pub bindings : Bindings
  pub waits_for : List Place
  pub children : List Process
  pub woken : List Process
  pub cells : ℕ
  pub after : State

-- the bindings, where the clause's variables have their places of entry n
abbrev pub settled : ℕ → Bindings → Bindings
settled n bs = map (λ b. (settle n b.0, rename (settle n) b.1)) bs

-- whether one of the places is bound
abbrev pub binds_one : Bindings → List Place → Bool
binds_one bs [] = false
binds_one bs (p ∷ ps) = is_some (find bs (made p)) || binds_one bs ps

-- whether a process waits on a place that the bindings bind
abbrev pub is_woken : Bindings → Status → Bool
is_woken bs (waiting ps) = binds_one bs ps
is_woken bs ready = false
is_woken bs finished = false

-- the process, Ready again
abbrev pub made_ready : Process → Process
made_ready p = record p { status = ready }

-- the process behind a commit that made these bindings
abbrev pub wake : Bindings → Process → Process
wake bs p = if is_woken bs p.status then made_ready p else p

-- the processes that the bindings wake, as they waited
abbrev pub woken_by : Bindings → List Process → List Process
woken_by bs ps = filter (λ p. is_woken bs p.status) ps

-- the process of that name with another status
abbrev pub with_status : Proc → Status → Process → Process
with_status named st p = if is_same_process p.name named then record p { status = st } else p

-- how many variables a clause has; a built-in process makes no place
abbrev pub vars_of : Option Clause → ℕ
vars_of None = 0
vars_of (Some c) = c.vars

-- the body of a clause; a built-in process makes no child
abbrev pub body_of : Option Clause → List (Goal ℕ)
body_of None = []
body_of (Some c) = c.body

-- the processes that entry n makes for the body of a clause
abbrev pub children_of : ℕ → Option Clause → List Process
children_of n c = processes_of n 1 (map (rename_goal (placed n)) (body_of c))

-- the state after the commit of a process by a clause with some bindings
abbrev pub after_commit : State → Proc → Option Clause → Bindings → State
after_commit s p c bs = record {
  entries = suc s.entries;
  places = s.places ++ map (place (suc s.entries)) (count_up 1 (vars_of c));
  bound = s.bound ++ settled (suc s.entries) bs;
  processes = map (λ q. wake bs (with_status p finished q)) s.processes ++ children_of (suc s.entries) c;
  mode = s.mode;
}

-- the state behind the hang of a process on these places
abbrev pub after_hang : State → Proc → List Place → State
after_hang s p ps = record s { entries = suc s.entries; processes = map (with_status p (waiting ps)) s.processes }

-- the event of a process for which a decision is made
abbrev pub event_of : Program → State → Process → Decision → Event
event_of m s p (commits k bs rs) = record {
  before = s;
  entry = Commit p.name k;
  bindings = bs;
  waits_for = [];
  children = children_of (suc s.entries) (clause_used m p.goal k);
  woken = woken_by bs s.processes;
  cells = cells m p.goal (commits k bs rs);
  after = after_commit s p.name (clause_used m p.goal k) bs;
}
event_of m s p (waits_on rs) = record {
  before = s;
  entry = Hang p.name;
  bindings = [];
  waits_for = places_among rs;
  children = [];
  woken = [];
  cells = cells m p.goal (waits_on rs);
  after = after_hang s p.name (places_among rs);
}
event_of m s p (decides_fail rs) = record {
  before = s;
  entry = Fail p.name;
  bindings = [];
  waits_for = [];
  children = [];
  woken = [];
  cells = 0;
  after = record s { entries = suc s.entries; mode = is_failed };
}

-- the event of a control: it leaves all but the number of entries and the mode as they are
abbrev pub control_event : State → Entry → Mode → Event
control_event s e mode = record {
  before = s;
  entry = e;
  bindings = [];
  waits_for = [];
  children = [];
  woken = [];
  cells = 0;
  after = record s { entries = suc s.entries; mode = mode };
}
