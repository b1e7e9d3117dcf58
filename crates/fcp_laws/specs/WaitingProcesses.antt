-- The waiting processes of a run, by name.
use Rattle.std.specs.Prelude.{Bool, true, false, List, [], ◌∷◌, filter}
use Rattle.fcp_model.specs.Places.{is_older_process}
use Rattle.fcp_model.specs.States.{Status, ready, waiting, finished, Process}

-- the process hangs
abbrev pub is_waiting : Status → Bool
is_waiting (waiting ps) = true
is_waiting ready = false
is_waiting finished = false

-- the waiting ones among some processes
abbrev pub waiting_of : List Process → List Process
waiting_of ps = filter (λ p. is_waiting p.status) ps

-- a process put among processes in order of name
abbrev pub with_process : Process → List Process → List Process
with_process p [] = p ∷ []
with_process p (q ∷ qs) = elim (is_older_process p.name q.name) [ true ↦ p ∷ q ∷ qs | _ ↦ q ∷ with_process p qs ]
