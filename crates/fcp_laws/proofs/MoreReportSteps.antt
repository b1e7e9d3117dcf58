-- More steps change no text of a log, a snapshot or a report.
use Rattle.std.proofs.Common.{ℕ, ◌+◌, Bool, true, false, List, [], ◌∷◌, ◌++◌, map, length, drop, Option, Some, None, codes, decimal, refl}
use Rattle.fcp_model.specs.declared.run.Outcome.{Outcome}
use Rattle.fcp_model.specs.declared.run.Control.{Control}
use Rattle.fcp_model.specs.declared.run.Entry.{Entry}
use Rattle.fcp_model.specs.declared.run.Entry.TheVariants.{Commit, Snapshot}
use Rattle.fcp_model.specs.declared.names.Sym.{Sym}
use Rattle.fcp_model.specs.Places.{Variable, made, own}
use Rattle.fcp_model.specs.Terms.{Term, var, rename, settle, Bindings}
use Rattle.fcp_model.specs.Expressions.{Expr, leaf, op}
use Rattle.fcp_model.specs.Programs.{Goal, user, true', unifies, assigns, Program}
use Rattle.fcp_model.specs.States.{Process, State, is_finished}
use Rattle.fcp_model.specs.Events.{Event}
use Rattle.fcp_model.specs.Runs.{last_state}
use Rattle.fcp_model.specs.Spelling.{Bytes, name_at, place_text, process_text}
use Rattle.fcp_model.specs.LogText.{both_texts, bound_places_text, woken_text, entry_text, event_line, event_lines, log_head, log_text}
use Rattle.fcp_model.specs.ReportText.{NamedTerm, outcome_word, variable_line, variable_lines, not_reached_lines, operator_text, expr_text, operand_text, more_arguments, arguments_text, procedure_text, goal_text, status_text, process_line, process_lines, snapshot_text, snapshots_at, snapshot_texts, report_text}
use Rattle.fcp_model.proofs.MoreSteps.{Refines, Grows}
use Rattle.fcp_model.proofs.OneDecision.{option_map_more}
use Rattle.fcp_laws.proofs.MoreTextSteps.{cut_more}

-- one text and then another
both_more : (o o' r r' : Option Bytes) → Refines o o' → Refines r r' → Refines (both_texts o r) (both_texts o' r')
both_more None o' r r' h i = λ x e. cc
both_more (Some a) o' None r' h i = λ x e. cc
both_more (Some a) o' (Some b) r' h i = λ x e. rw (h a refl, i b refl) e

-- a text that no number of steps bounds
known : (o : Option Bytes) → Refines o o
known o = λ x e. e

-- a process's line is written where the process is live
live_more : (b : Bool) (o o' r r' : Option Bytes) → Refines o o' → Refines r r'
    → Refines (elim b [ true ↦ r | _ ↦ both_texts o r ]) (elim b [ true ↦ r' | _ ↦ both_texts o' r' ])
live_more true o o' r r' h i = i
live_more false o o' r r' h i = both_more o o' r r' h i

module _ (names : List Bytes) where
  -- the log
  bindings_more : (bound : Bindings) (entry : ℕ) (bs : Bindings) → Grows (λ n. bound_places_text n names bound entry bs)
  bindings_more bound entry [] n = λ x e. e
  bindings_more bound entry ((made p, t) ∷ bs) n =
      both_more _ _ _ _ (option_map_more (λ x. codes " " ++ place_text p ++ codes "=" ++ x) _ _
      (cut_more names bound 64 (rename (settle entry) t) n)) (bindings_more bound entry bs n)
  bindings_more bound entry ((own k, t) ∷ bs) n = bindings_more bound entry bs n

  entry_more : (ev : Event) (en : Entry) → Grows (λ n. entry_text n names ev en)
  entry_more ev (Commit p k) n =
      option_map_more (λ bs. codes "commit " ++ process_text p ++ codes " " ++ decimal k ++ bs ++ woken_text
      (map (λ (q : Process). q.name) ev.woken)) _ _
      (bindings_more ev.after.bound ev.after.entries ev.bindings n)
  entry_more ev en n = λ x e. e

  event_line_more : (ev : Event) → Grows (λ n. event_line n names ev)
  event_line_more ev n = option_map_more (λ x. decimal ev.after.entries ++ codes " " ++ x ++ codes "\n") _ _ (entry_more ev ev.entry n)

  event_lines_more : (evs : List Event) → Grows (λ n. event_lines n names evs)
  event_lines_more [] n = λ x e. e
  event_lines_more (ev ∷ evs) n = both_more _ _ _ _ (event_line_more ev n) (event_lines_more evs n)

  log_more : (head : Bytes) (last : ℕ) (evs : List Event) → Grows (λ n. log_text n names head last evs)
  log_more head last evs n = option_map_more (λ x. head ++ x ++ codes "end " ++ decimal last ++ codes "\n") _ _ (event_lines_more evs n)

  -- the lines of variables and of processes
  module _ (bound : Bindings) where
    variable_more : (v : Option Sym) (t : Term Variable) → Grows (λ n. variable_line n names bound v t)
    variable_more None t n = λ x e. e
    variable_more (Some name) t n =
        option_map_more (λ x. name_at names name.0 ++ codes " = " ++ x ++ codes "\n") _ _ (cut_more names bound 65536 t n)

    variables_more : (vs : List NamedTerm) → Grows (λ n. variable_lines n names bound vs)
    variables_more [] n = λ x e. e
    variables_more (v ∷ vs) n = both_more _ _ _ _ (variable_more v.0 v.1 n) (variables_more vs n)

    operand_more : (x : Expr Variable) → Grows (λ n. operand_text n names bound x)
    operand_more (leaf t) n = cut_more names bound 1024 t n
    operand_more (op o a b) n =
        both_more _ _ _ _ (known (Some (codes "(")))
        (both_more _ _ _ _ (both_more _ _ _ _ (operand_more a n) (both_more _ _ _ _ (known (Some (operator_text o))) (operand_more b n)))
        (known (Some (codes ")"))))

    expr_more : (x : Expr Variable) → Grows (λ n. expr_text n names bound x)
    expr_more (leaf t) n = cut_more names bound 1024 t n
    expr_more (op o a b) n = both_more _ _ _ _ (operand_more a n) (both_more _ _ _ _ (known (Some (operator_text o))) (operand_more b n))

    other_arguments_more : (ts : List (Term Variable)) → Grows (λ n. more_arguments n names bound ts)
    other_arguments_more [] n = λ x e. e
    other_arguments_more (t ∷ ts) n =
        both_more _ _ _ _ (option_map_more (λ x. codes "," ++ x) _ _ (cut_more names bound 1024 t n)) (other_arguments_more ts n)

    arguments_more : (ts : List (Term Variable)) → Grows (λ n. arguments_text n names bound ts)
    arguments_more [] n = λ x e. e
    arguments_more (t ∷ ts) n =
        both_more _ _ _ _ (option_map_more (λ x. codes "(" ++ x) _ _ (cut_more names bound 1024 t n))
        (option_map_more (λ x. x ++ codes ")") _ _ (other_arguments_more ts n))

    goal_more : (m : Program) (g : Goal Variable) → Grows (λ n. goal_text n names m bound g)
    goal_more m (user p ts) n = option_map_more (λ x. procedure_text names m p ++ x) _ _ (arguments_more ts n)
    goal_more m true' n = λ x e. e
    goal_more m (unifies t u) n =
        both_more _ _ _ _ (cut_more names bound 1024 t n) (option_map_more (λ x. codes " = " ++ x) _ _ (cut_more names bound 1024 u n))
    goal_more m (assigns t y) n =
        both_more _ _ _ _ (cut_more names bound 1024 t n) (option_map_more (λ x. codes " := " ++ x) _ _ (expr_more y n))

    process_more : (m : Program) (p : Process) → Grows (λ n. process_line n names m bound p)
    process_more m p n =
        option_map_more (λ x. process_text p.name ++ status_text p.status ++ codes ": " ++ x ++ codes "\n") _ _ (goal_more m p.goal n)

    processes_more : (m : Program) (ps : List Process) → Grows (λ n. process_lines n names m bound ps)
    processes_more m [] n = λ x e. e
    processes_more m (p ∷ ps) n = live_more (is_finished p.status) _ _ _ _ (process_more m p n) (processes_more m ps n)

  -- snapshots and the report
  module _ (variables : List NamedTerm) (m : Program) where
    snapshot_more : (s : State) → Grows (λ n. snapshot_text n names variables m s)
    snapshot_more s n =
        both_more _ _ _ _ (known (Some (codes "snapshot " ++ decimal s.entries ++ codes "\n")))
        (both_more _ _ _ _ (variables_more s.bound variables n) (both_more _ _ _ _ (processes_more s.bound m s.processes n)
        (known (Some (codes "done\n")))))

    entry_snapshot_more : (s : State) (en : Entry) → Grows (λ n. snapshots_at n names variables m s en)
    entry_snapshot_more s Snapshot n = snapshot_more s n
    entry_snapshot_more s en n = λ x e. e

    snapshots_more : (evs : List Event) → Grows (λ n. snapshot_texts n names variables m evs)
    snapshots_more [] n = λ x e. e
    snapshots_more (ev ∷ evs) n = both_more _ _ _ _ (entry_snapshot_more ev.after ev.entry n) (snapshots_more evs n)

    -- one step more keeps a report
    pub report_more : (s : State) (evs : List Event) (o : Outcome) (controls : List Control) (reached : ℕ)
        → Grows (λ n. report_text n names variables m s evs o controls reached)
    report_more s evs o controls reached n =
        both_more _ _ _ _ (log_more log_head (last_state s evs).entries evs n)
        (both_more _ _ _ _ (known (Some (codes "outcome " ++ outcome_word o ++ codes "\n")))
        (both_more _ _ _ _ (variables_more (last_state s evs).bound variables n)
        (both_more _ _ _ _ (known (Some (not_reached_lines (drop reached controls)))) (snapshots_more evs n))))
