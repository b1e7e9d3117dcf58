-- The text of a report: the log, the outcome, the goal's variables, the controls that were not reached, and the snapshots.
use Rattle.std.specs.Prelude.{ℕ, ◌+◌, true, List, [], ◌∷◌, ◌++◌, drop, Option, Some, None, slice_get, option_map, codes, decimal}
use Rattle.fcp_model.specs.declared.term.ArithOp.{ArithOp}
use Rattle.fcp_model.specs.declared.term.ArithOp.TheVariants.{Add, Sub, Mul, Div, Mod}
use Rattle.fcp_model.specs.declared.run.Outcome.{Outcome}
use Rattle.fcp_model.specs.declared.run.Outcome.TheVariants.{Failed, Aborted, Held, Terminated, Suspended, Budget, Full}
use Rattle.fcp_model.specs.declared.run.Act.{Act}
use Rattle.fcp_model.specs.declared.run.Act.TheVariants as act
use Rattle.fcp_model.specs.declared.run.Control.{Control}
use Rattle.fcp_model.specs.declared.run.Entry.{Entry}
use Rattle.fcp_model.specs.declared.run.Entry.TheVariants.{Snapshot}
use Rattle.fcp_model.specs.declared.names.Sym.{Sym}
use Rattle.fcp_model.specs.Places.{Variable, placed}
use Rattle.fcp_model.specs.Terms.{Term, var, Bindings}
use Rattle.fcp_model.specs.Expressions.{Expr, leaf, op}
use Rattle.fcp_model.specs.Programs.{Goal, user, true', unifies, assigns, Program}
use Rattle.fcp_model.specs.States.{Status, ready, waiting, finished, Process, State, is_finished}
use Rattle.fcp_model.specs.Events.{Event}
use Rattle.fcp_model.specs.Runs.{last_state}
use Rattle.fcp_model.specs.Spelling.{Bytes, string_text, name_at, process_text}
use Rattle.fcp_model.specs.TermText.{cut_text}
use Rattle.fcp_model.specs.LogText.{both_texts, log_head, log_text, places_text}

-- the word of an outcome
abbrev pub outcome_word : Outcome → Bytes
outcome_word Failed = codes "failed"
outcome_word Aborted = codes "aborted"
outcome_word Held = codes "held"
outcome_word Terminated = codes "terminated"
outcome_word Suspended = codes "suspended"
outcome_word Budget = codes "budget"
outcome_word Full = codes "full"

-- a variable of the goal, by its name where it has one, with the term that stands for it; one whose name begins with `_` has none
abbrev pub NamedTerm : Type 0
NamedTerm = Option Sym × Term Variable

-- the goal's variables from the k-th on, each with its place
abbrev pub named_from : ℕ → List (Option Sym) → List NamedTerm
named_from k [] = []
named_from k (v ∷ vs) = (v, var (placed 0 k)) ∷ named_from (k + 1) vs

-- the variables of a goal with these names, from the first on
abbrev pub goal_variables : List (Option Sym) → List NamedTerm
goal_variables vs = named_from 1 vs

-- `NAME = TERM` for a variable with a name, its value cut after 65,536 nodes
abbrev pub variable_line : ℕ → List Bytes → Bindings → Option Sym → Term Variable → Option Bytes
variable_line n names bound None t = Some []
variable_line n names bound (Some name) t = option_map (λ x. name_at names name.0 ++ codes " = " ++ x ++ codes "\n") (cut_text n names bound 65536 t)

-- the lines of the variables that have a name, in order
abbrev pub variable_lines : ℕ → List Bytes → Bindings → List NamedTerm → Option Bytes
variable_lines n names bound [] = Some []
variable_lines n names bound (v ∷ vs) = both_texts (variable_line n names bound v.0 v.1) (variable_lines n names bound vs)

-- the word of a control
abbrev pub act_word : Act → Bytes
act_word act.Snapshot = codes "snapshot"
act_word act.Suspend = codes "suspend"
act_word act.Resume = codes "resume"
act_word act.Abort = codes "abort"

-- a line for each control that was not made
abbrev pub not_reached_lines : List Control → Bytes
not_reached_lines [] = []
not_reached_lines (c ∷ cs) = codes "not reached after " ++ decimal c.after ++ codes " " ++ act_word c.act ++ codes "\n" ++ not_reached_lines cs

-- an operator with a space on each side
abbrev pub operator_text : ArithOp → Bytes
operator_text Add = codes " + "
operator_text Sub = codes " - "
operator_text Mul = codes " * "
operator_text Div = codes " / "
operator_text Mod = codes " mod "

-- an expression, each leaf by value and cut after 1,024 nodes; operations within operations are put in parentheses
abbrev mutual
  pub expr_text : ℕ → List Bytes → Bindings → Expr Variable → Option Bytes
  expr_text n names s (leaf t) = cut_text n names s 1024 t
  expr_text n names s (op o a b) = both_texts (operand_text n names s a) (both_texts (Some (operator_text o)) (operand_text n names s b))

  pub operand_text : ℕ → List Bytes → Bindings → Expr Variable → Option Bytes
  operand_text n names s (leaf t) = cut_text n names s 1024 t
  operand_text n names s (op o a b) = both_texts (Some (codes "(")) (both_texts (both_texts (operand_text n names s a) (both_texts (Some (operator_text o)) (operand_text n names s b))) (Some (codes ")")))

-- the arguments behind the first one, each by value and cut after 1,024 nodes
abbrev pub more_arguments : ℕ → List Bytes → Bindings → List (Term Variable) → Option Bytes
more_arguments n names s [] = Some []
more_arguments n names s (t ∷ ts) = both_texts (option_map (λ x. codes "," ++ x) (cut_text n names s 1024 t)) (more_arguments n names s ts)

-- the arguments of a call in parentheses; a call without any has none
abbrev pub arguments_text : ℕ → List Bytes → Bindings → List (Term Variable) → Option Bytes
arguments_text n names s [] = Some []
arguments_text n names s (t ∷ ts) = both_texts (option_map (λ x. codes "(" ++ x) (cut_text n names s 1024 t)) (option_map (λ x. x ++ codes ")") (more_arguments n names s ts))

-- the name of a procedure
abbrev pub procedure_text : List Bytes → Program → ℕ → Bytes
procedure_text names m p = elim (slice_get m p) [ None ↦ [] | Some d ↦ string_text (name_at names d.name) ]

-- a process's goal, each argument by value and cut after 1,024 nodes
abbrev pub goal_text : ℕ → List Bytes → Program → Bindings → Goal Variable → Option Bytes
goal_text n names m s (user p ts) = option_map (λ x. procedure_text names m p ++ x) (arguments_text n names s ts)
goal_text n names m s true' = Some (codes "true")
goal_text n names m s (unifies t u) = both_texts (cut_text n names s 1024 t) (option_map (λ x. codes " = " ++ x) (cut_text n names s 1024 u))
goal_text n names m s (assigns t e) = both_texts (cut_text n names s 1024 t) (option_map (λ x. codes " := " ++ x) (expr_text n names s e))

-- what a line says of a process before its goal
abbrev pub status_text : Status → Bytes
status_text ready = codes " ready"
status_text (waiting ps) = codes " waits" ++ places_text ps
status_text finished = codes " done"

-- the line of a process: its name, its status and its goal
abbrev pub process_line : ℕ → List Bytes → Program → Bindings → Process → Option Bytes
process_line n names m s p = option_map (λ x. process_text p.name ++ status_text p.status ++ codes ": " ++ x ++ codes "\n") (goal_text n names m s p.goal)

-- a line for each live process, by name
abbrev pub process_lines : ℕ → List Bytes → Program → Bindings → List Process → Option Bytes
process_lines n names m s [] = Some []
process_lines n names m s (p ∷ ps) = elim (is_finished p.status) [
  | true ↦ process_lines n names m s ps
  | _ ↦ both_texts (process_line n names m s p) (process_lines n names m s ps)
]

-- the snapshot of a state
abbrev pub snapshot_text : ℕ → List Bytes → List NamedTerm → Program → State → Option Bytes
snapshot_text n names variables m s =
    both_texts (Some (codes "snapshot " ++ decimal s.entries ++ codes "\n"))
    (both_texts (variable_lines n names s.bound variables)
    (both_texts (process_lines n names m s.bound s.processes) (Some (codes "done\n"))))

-- a snapshot for each entry that asks for one, of the state after it
abbrev pub snapshots_at : ℕ → List Bytes → List NamedTerm → Program → State → Entry → Option Bytes
snapshots_at n names variables m s Snapshot = snapshot_text n names variables m s
snapshots_at n names variables m s _ = Some []

-- the snapshots of a run, in order
abbrev pub snapshot_texts : ℕ → List Bytes → List NamedTerm → Program → List Event → Option Bytes
snapshot_texts n names variables m [] = Some []
snapshot_texts n names variables m (ev ∷ evs) = both_texts (snapshots_at n names variables m ev.after ev.entry) (snapshot_texts n names variables m evs)

-- the report of a run from a state: `names` are the numbered strings, `variables` the goal's variables, `reached` the
-- number of the controls that were made; None where n steps are too few
abbrev pub report_text : ℕ → List Bytes → List NamedTerm → Program → State → List Event → Outcome → List Control → ℕ → Option Bytes
report_text n names variables m s evs o controls reached =
    both_texts (log_text n names log_head (last_state s evs).entries evs)
    (both_texts (Some (codes "outcome " ++ outcome_word o ++ codes "\n"))
    (both_texts (variable_lines n names (last_state s evs).bound variables)
    (both_texts (Some (not_reached_lines (drop reached controls)))
    (snapshot_texts n names variables m evs))))
