-- The built-in processes, each decided by code of its own, so that a trial of them is a trial like any other.
use Rattle.std.specs.Prelude.{◌≡◌, ℕ, ℤ, List, [], ◌∷◌, Some}
use Rattle.fcp_model.specs.Places.{Variable}
use Rattle.fcp_model.specs.Terms.{Term, number, Bindings}
use Rattle.fcp_model.specs.Expressions.{Expr, gives, bad, unready, eval}
use Rattle.fcp_model.specs.Programs.{Program, true', unifies, assigns}
use Rattle.word_states.specs.Words.{Words, AreDistinct}
use Rattle.word_states.specs.Denoting.{Addresses}
use Rattle.word_states.specs.Trials.{WaitSays, FailSays}
use Rattle.machine_code.specs.Instructions.{Op, Try, PutWord, Unify, Commit}
use Rattle.machine_code.specs.Machine.{untried}
use Rattle.trial_laws.specs.AtHand.{AreCalled, IsStore}
use Rattle.trial_laws.specs.Laws.{AreNoted}
use Rattle.trial_laws.specs.Endings.{IsOfSource}

-- `true` commits
abbrev pub true_code : List Op
true_code = Try 0 2 ∷ Commit ∷ []

-- `=` unifies its two arguments
abbrev pub unify_code : List Op
unify_code = Try 0 3 ∷ Unify 0 1 ∷ Commit ∷ []

-- `:=` unifies its first argument with the number of the second
abbrev pub assign_code : ℤ → List Op
assign_code z = Try 0 4 ∷ PutWord 1 (number z) ∷ Unify 0 1 ∷ Commit ∷ []

abbrev pub LawOfTrue : Type 0
LawOfTrue = (m : Program) (s : Bindings) → IsOfSource m s true' true_code [] 0 untried

abbrev pub LawOfEquals : Type 0
LawOfEquals = (m : Program) (s : Bindings) (t u : Term Variable) → IsOfSource m s (unifies t u) unify_code (t ∷ u ∷ []) 0 untried

-- where the expression gives a number
abbrev pub LawOfAssign : Type 0
LawOfAssign = (m : Program) (s : Bindings) (t : Term Variable) (e : Expr Variable) (z : ℤ) → (n : ℕ) × (eval n s e ≡ Some (gives z))
    → IsOfSource m s (assigns t e) (assign_code z) (t ∷ []) 0 untried

-- where it gives none, the process fails
abbrev pub LawOfBadAssign : Type 0
LawOfBadAssign = (m : Program) (s : Bindings) (t : Term Variable) (e : Expr Variable) → (n : ℕ) × (eval n s e ≡ Some bad)
    → FailSays m s (assigns t e)

-- and where it needs places that are unbound, the process waits for them
abbrev pub LawOfUnreadyAssign : Type 0
LawOfUnreadyAssign = (m : Program) (w : Words) (vs : Addresses) (s : Bindings) (t : Term Variable) (e : Expr Variable) (rs waits : List ℕ)
    (qs : List Variable) → IsStore w vs s → (n : ℕ) × (eval n s e ≡ Some (unready qs)) → AreCalled vs rs qs → AreNoted [] rs waits
    → AreDistinct waits → WaitSays m w vs s (assigns t e) waits
