-- The ends of a trial: what is at hand then says what is decided.
use Rattle.std.specs.Prelude.{◌≡◌, ℕ, suc, ◌+◌, ◌<◌, true, false, List, [], ◌∷◌, length, if◌then◌else◌, nat_eq, unwrap_or}
use Rattle.std.specs.Prelude.{slice_get, Some, None}
use Rattle.fcp_model.specs.Places.{Variable}
use Rattle.fcp_model.specs.Programs.{Goal, Program}
use Rattle.fcp_model.specs.Decisions.{Decision, Decides}
use Rattle.fcp_model.specs.Cells.{clause_used}
use Rattle.fcp_model.specs.Events.{vars_of, body_of}
use Rattle.fcp_model.specs.Terms.{Term, Bindings}
use Rattle.heap_words.specs.Trails.{WordList, word_at}
use Rattle.word_states.specs.Words.{AreDistinct}
use Rattle.word_states.specs.Pieces.{place_words}
use Rattle.word_states.specs.Trials.{CommitSays, WaitSays, FailSays}
use Rattle.machine_code.specs.Instructions.{Op, Commit}
use Rattle.machine_code.specs.Machine.{Trying, Meaning}
use Rattle.machine_code.specs.Correct.{decision_of}
use Rattle.trial_laws.specs.AtHand.{Gives}
pub use Rattle.trial_laws.specs.AtHand.{of_store}
use Rattle.trial_laws.specs.Laws.{Always}

-- an own place takes what it is bound to
abbrev pub settled_piece : WordList → ℕ → List ℕ → List ℕ
settled_piece bs s [] = []
settled_piece bs s (x ∷ []) = x ∷ []
settled_piece bs s (x ∷ y ∷ []) = if nat_eq x 0 then x ∷ unwrap_or (word_at bs (suc s)) y ∷ [] else x ∷ y ∷ []
settled_piece bs s (x ∷ y ∷ z ∷ zs) = x ∷ y ∷ z ∷ zs

-- and so does each of the pieces, the first of which is at b
abbrev pub settled : WordList → ℕ → List (List ℕ) → List (List ℕ)
settled bs b [] = []
settled bs b (p ∷ ps) = settled_piece bs b p ∷ settled bs (b + length p) ps

-- what the code gives from here on is what the clauses decide
abbrev pub IsOfSource : Program → Bindings → Goal Variable → List Op → List (Term Variable) → ℕ → Trying → Type 0
IsOfSource m bound g ops args at t = (d : Meaning) → Gives bound ops args at t d
    → (e : Decision) × Decides m bound g e × (d ≡ decision_of m g e)

-- At a commit the bindings of the store's places and the settled pieces say what the clauses decide.
abbrev pub LawOfCommit : Type 0
LawOfCommit = Always (λ w vs bound ops args at r t. (m : Program) (g : Goal Variable) → slice_get ops at ≡ Some Commit
    → IsOfSource m bound g ops args at t
    → length (place_words 4000000000 r.pieces) ≡ vars_of (clause_used m g r.clause)
    → (vars_of (clause_used m g r.clause) < 268435455) × (length (body_of (clause_used m g r.clause)) < 268435455)
    → CommitSays m w vs bound g r.clause (of_store r.binds) (settled r.binds 4000000000 r.pieces))

-- Where no instruction stands and all tries failed, the goal fails.
abbrev pub LawOfFail : Type 0
LawOfFail = Always (λ w vs bound ops args at r t. (m : Program) (g : Goal Variable) → slice_get ops at ≡ None
    → IsOfSource m bound g ops args at t → r.behind ≡ true → FailSays m bound g)

-- And where not all failed, it waits for the places that the tries read.
abbrev pub LawOfWait : Type 0
LawOfWait = Always (λ w vs bound ops args at r t. (m : Program) (g : Goal Variable) → slice_get ops at ≡ None
    → IsOfSource m bound g ops args at t → r.behind ≡ false → AreDistinct r.waits → WaitSays m w vs bound g r.waits)
