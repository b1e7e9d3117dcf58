-- The transitions of a computation: a goal reduces, or a goal fails. They are defined over goals and bindings, by the tries
-- of clauses.
use Rattle.std.specs.Prelude.{◌≡◌, ◌≢◌, ℕ, suc, ◌⊎◌, Bool, true, false, not, List, [], ◌∷◌, ◌++◌, length, map, filter, Some, ℤ}
use Rattle.fcp_model.specs.Places.{Variable, placed}
use Rattle.fcp_model.specs.Terms.{Term, number, Bindings}
use Rattle.fcp_model.specs.Unification.{Ended, done, clash, unify}
use Rattle.fcp_model.specs.Expressions.{Expr, Evaluated, gives, bad, eval}
use Rattle.fcp_model.specs.Programs.{Goal, user, true', unifies, assigns, Clause, Program, rename_goal, clauses_of}
use Rattle.fcp_model.specs.Trials.{Tried, succeeds, try_fails, try_waits, attempt}
use Rattle.fcp_model.specs.States.{Process, State, is_finished}
use Rattle.fcp_model.specs.Events.{Event, settled}
use Rattle.fcp_model.specs.Bounds.{is_commit}

-- a configuration: the goals that are left to do, and the bindings made so far
pub record Configuration : Type 0 where
  pub goals : List (Goal Variable)
  pub bound : Bindings

-- the processes that are not finished
abbrev pub live : List Process → List Process
live ps = filter (λ p. not (is_finished p.status)) ps

-- the goals of the live processes, in the order of the processes
abbrev pub live_goals : List Process → List (Goal Variable)
live_goals ps = map (λ p. p.goal) (live ps)

-- the configuration of a state: the goals of its live processes, and its bindings
abbrev pub configuration : State → Configuration
configuration s = record { goals = live_goals s.processes; bound = s.bound }

-- the try of a clause for a call ends in this way; `failed` says that the tries of all earlier clauses failed
abbrev pub TryEnds : Bindings → List (Term Variable) → Bool → Clause → Tried → Type 0
TryEnds s args failed c t = (n : ℕ) × (attempt n s c args failed ≡ Some t)

-- the try of a clause fails, whatever it read
abbrev pub TryFails : Bindings → List (Term Variable) → Bool → Clause → Type 0
TryFails s args failed c = (rs : List Variable) × TryEnds s args failed c (try_fails rs)

-- the try of a clause waits, whatever it read
abbrev pub TryWaits : Bindings → List (Term Variable) → Bool → Clause → Type 0
TryWaits s args failed c = (rs : List Variable) × TryEnds s args failed c (try_waits rs)

-- The clauses are tried in turn, and each try fails or waits. `failed` says that all tries before them failed, and
-- `all_failed` that all tries failed, those of the clauses too.
abbrev pub NoneSucceeds : Bindings → List (Term Variable) → Bool → List Clause → Bool → Type 0
NoneSucceeds s args failed [] all_failed = failed ≡ all_failed
NoneSucceeds s args failed (c ∷ cs) all_failed =
    (TryFails s args failed c × NoneSucceeds s args failed cs all_failed)
    ⊎ (TryWaits s args failed c × NoneSucceeds s args false cs all_failed)

-- the try of each of the clauses fails
abbrev pub EachFails : Bindings → List (Term Variable) → List Clause → Type 0
EachFails s args [] = Unit {0}
EachFails s args (c ∷ cs) = TryFails s args true c × EachFails s args cs

-- two terms are unified, with this end
abbrev pub UnifyEnds : Bindings → Term Variable → Term Variable → Ended → Type 0
UnifyEnds s t u e = (n : ℕ) × (unify n s [] [] ((t, u) ∷ []) ≡ Some e)

-- two terms unify with these bindings
abbrev pub UnifyWith : Bindings → Term Variable → Term Variable → Bindings → Type 0
UnifyWith s t u bs = (rs : List Variable) × UnifyEnds s t u (done bs rs)

-- two terms do not unify
abbrev pub DoNotUnify : Bindings → Term Variable → Term Variable → Type 0
DoNotUnify s t u = (rs : List Variable) × UnifyEnds s t u (clash rs)

-- an expression has this value
abbrev pub Evaluates : Bindings → Expr Variable → Evaluated → Type 0
Evaluates s e v = (n : ℕ) × (eval n s e ≡ Some v)

-- A call reduces by the first clause whose try succeeds, which is clause k, counted from 1: the tries of the clauses before
-- it fail or wait. The body is that clause's, and the bindings are those of its try.
pub record CallReduces (m : Program) (s : Bindings) (p : ℕ) (args : List (Term Variable)) (k : ℕ) (bs : Bindings) (body : List (Goal ℕ)) :
    Type 0 where
  pub earlier : List Clause
  pub clause : Clause
  pub later : List Clause
  pub clauses : clauses_of m p (length args) ≡ earlier ++ clause ∷ later
  pub number : k ≡ suc (length earlier)
  pub failed : Bool
  pub tries : NoneSucceeds s args true earlier failed
  pub reads : List Variable
  pub success : TryEnds s args failed clause (succeeds bs reads)
  pub body_is : clause.body ≡ body

-- What a goal reduces to, by which clause, and with which bindings. A built-in goal has no clause, 0, and reduces to
-- nothing: `true` without bindings, `A = B` where the terms unify, `A := E` where A unifies with the number that E gives.
abbrev pub GoalReduces : Program → Bindings → Goal Variable → ℕ → Bindings → List (Goal ℕ) → Type 0
GoalReduces m s (user p args) k bs body = CallReduces m s p args k bs body
GoalReduces m s true' k bs body = (k ≡ 0) × (body ≡ []) × (bs ≡ [])
GoalReduces m s (unifies t u) k bs body = (k ≡ 0) × (body ≡ []) × UnifyWith s t u bs
GoalReduces m s (assigns t e) k bs body = (k ≡ 0) × (body ≡ []) × ((z : ℤ) × Evaluates s e (gives z) × UnifyWith s t (number z) bs)

-- When a goal fails. A call fails where the try of each of its clauses fails, `A = B` where the terms do not unify, and
-- `A := E` where E is a bad expression, or where A does not unify with the number that E gives.
abbrev pub GoalFails : Program → Bindings → Goal Variable → Type 0
GoalFails m s (user p args) = EachFails s args (clauses_of m p (length args))
GoalFails m s true' = ⊥
GoalFails m s (unifies t u) = DoNotUnify s t u
GoalFails m s (assigns t e) = Evaluates s e bad ⊎ ((z : ℤ) × Evaluates s e (gives z) × DoNotUnify s t (number z))

-- Reduce, as entry n of a run: one of the goals is taken out, the body that it reduces to is put at the end, and the bindings
-- are added. In both the variables of the clause are places of entry n.
pub record Reduces (m : Program) (n : ℕ) (before after : Configuration) : Type 0 where
  pub front : List (Goal Variable)
  pub goal : Goal Variable
  pub back : List (Goal Variable)
  pub goals_before : before.goals ≡ front ++ goal ∷ back
  pub clause : ℕ
  pub bindings : Bindings
  pub body : List (Goal ℕ)
  pub reduction : GoalReduces m before.bound goal clause bindings body
  pub goals_after : after.goals ≡ front ++ back ++ map (rename_goal (placed n)) body
  pub bound_after : after.bound ≡ before.bound ++ settled n bindings

-- Fail: one of the goals fails
pub record Fails (m : Program) (at : Configuration) : Type 0 where
  pub front : List (Goal Variable)
  pub goal : Goal Variable
  pub back : List (Goal Variable)
  pub goals : at.goals ≡ front ++ goal ∷ back
  pub failure : GoalFails m at.bound goal

-- there are goals left, and none of them reduces or fails
pub record IsDeadlock (m : Program) (at : Configuration) : Type 0 where
  pub goals_left : at.goals ≢ []
  pub no_reduction : (n : ℕ) (after : Configuration) → Reduces m n at after → ⊥
  pub no_failure : Fails m at → ⊥

-- the events that are commits
abbrev pub commits_of : List Event → List Event
commits_of evs = filter (λ ev. is_commit ev.entry) evs

-- Each event reduces the configuration that the ones before it leave. The first is `from`, and the last leaves `to`.
abbrev pub Computes : Program → Configuration → List Event → Configuration → Type 0
Computes m from [] to = from ≡ to
Computes m from (ev ∷ evs) to =
    (configuration ev.before ≡ from)
    × Reduces m (suc ev.before.entries) from (configuration ev.after)
    × Computes m (configuration ev.after) evs to
