-- The laws of the instructions that load nothing: a try on its way goes on.
use Rattle.std.specs.Prelude.{◌≡◌, ℕ, suc, ◌+◌, ◌*◌, ◌<◌, ◌≤◌, ℤ, Bool, true, false, List, [], ◌∷◌, length, Some, None, slice_get}
use Rattle.fcp_model.specs.declared.term.ArithOp.{ArithOp}
use Rattle.fcp_model.specs.declared.goal.TheConstants.{ASSIGN_PROCEDURE}
use Rattle.fcp_model.specs.Places.{Variable, own}
use Rattle.fcp_model.specs.Terms.{Term, number}
use Rattle.heap_words.specs.Cells.{decoded, encoded}
use Rattle.heap_words.specs.declared.cell.Cell.TheVariants as cell
use Rattle.word_states.specs.Words.{Words}
use Rattle.word_states.specs.Denoting.{Addresses, Listed, Denotes, operator_code}
use Rattle.word_states.specs.Numbers.{bits, low_bits, IsLong}
use Rattle.word_states.specs.Pieces.{StartsAt, place_words, numbered}
use Rattle.machine_code.specs.Instructions.{GetFirst, PutVar, PutWord, PutCons, PutTuple, Jump, Otherwise, Spawn}
use Rattle.trial_laws.specs.AtHand.{term_word}
use Rattle.trial_laws.specs.Laws.{holding, filled, IsFilled}
use Rattle.trial_laws.specs.NewPieces.{next_piece, with_piece, HasRoom, term_words, child_piece}
use Rattle.steady_tries.specs.Steady.{IsSteady, Steadily}

-- the trial goes on at another position
abbrev pub SteadyJump : Type 0
SteadyJump = Steadily (λ c kept at n r. (to : ℕ) → slice_get c.ops at ≡ Some (Jump to) → IsSteady c kept to n r)

-- `otherwise` holds where all tries before failed
abbrev pub SteadyOtherwise : Type 0
SteadyOtherwise = Steadily (λ c kept at n r. slice_get c.ops at ≡ Some Otherwise → r.behind ≡ true
    → IsSteady c kept (suc at) (length r.pieces) r)

-- a reference to the place at an address, read-only or not
abbrev pub reference : Bool → ℕ → ℕ
reference false a = encoded (cell.Ref a)
reference true a = encoded (cell.RoRef a)

-- a slot takes a reference to the place of a clause's variable
abbrev pub SteadyVariable : Type 0
SteadyVariable = Steadily (λ c kept at n r. (i k a : ℕ) (ro : Bool) → slice_get c.ops at ≡ Some (PutVar i k ro)
    → Listed (numbered 1 (place_words 4000000000 r.pieces)) (own k) a → IsSteady c kept (suc at) n (filled r i (reference ro a)))

-- a slot takes a constant, whose word denotes it wherever it stands
abbrev pub SteadyConstant : Type 0
SteadyConstant = Steadily (λ c kept at n r. (i x : ℕ) (t : Term Variable) → slice_get c.ops at ≡ Some (PutWord i t)
    → ((u : Words) (us : Addresses) → Denotes u us x t) → IsSteady c kept (suc at) n (filled r i x))

-- a slot takes a long number, a pair, a tuple or an operation, by a new piece
abbrev pub SteadyWide : Type 0
SteadyWide = Steadily (λ c kept at n r. (i x h : ℕ) (z low : ℤ) → slice_get c.ops at ≡ Some (PutWord i (number z))
    → decoded x ≡ Some (cell.Small low) → bits z ≡ h * 0x100000000000000 + low_bits low → IsLong z → h < 256 → HasRoom r 1
    → IsSteady c kept (suc at) n (holding (with_piece r (x ∷ [])) i (encoded (cell.Wide (next_piece r) h)) false))

abbrev pub SteadyPair : Type 0
SteadyPair = Steadily (λ c kept at n r. (i left right : ℕ) → slice_get c.ops at ≡ Some (PutCons i left right) → HasRoom r 2
    → IsSteady c kept (suc at) n
    (holding (with_piece r (term_word r left ∷ term_word r right ∷ [])) i (encoded (cell.Cons (next_piece r))) false))

abbrev pub SteadyTuple : Type 0
SteadyTuple = Steadily (λ c kept at n r. (i from parts : ℕ) → slice_get c.ops at ≡ Some (PutTuple i from parts None) → parts < 66
    → HasRoom r (suc parts) → IsSteady c kept (suc at) n
    (holding (with_piece r (encoded (cell.Raw parts) ∷ term_words r from parts)) i (encoded (cell.Tuple (next_piece r))) false))

abbrev pub SteadyOperation : Type 0
SteadyOperation = Steadily (λ c kept at n r. (i from : ℕ) (o : ArithOp) → slice_get c.ops at ≡ Some (PutTuple i from 2
    (Some o)) → HasRoom r 3
    → IsSteady c kept (suc at) n
    (holding (with_piece r (encoded (cell.Raw (66 + operator_code o)) ∷ r.slots from ∷ r.slots (suc from) ∷ [])) i
    (encoded (cell.Tuple (next_piece r))) true))

-- a new child: all pieces so far stay
abbrev pub SteadySpawn : Type 0
SteadySpawn = Steadily (λ c kept at n r. (p i parts : ℕ) → slice_get c.ops at ≡ Some (Spawn p i parts) → p ≤ ASSIGN_PROCEDURE
    → parts < 0x100000000 → HasRoom r (length (child_piece r p i parts))
    → IsSteady c kept (suc at) (suc (length r.pieces)) (with_piece r (child_piece r p i parts)))

-- A variable's first occurrence: its place is unbound, and takes the slot's term.
abbrev pub SteadyFirst : Type 0
SteadyFirst = Steadily (λ c kept at n r. (i k s : ℕ) → slice_get c.ops at ≡ Some (GetFirst i k)
    → Listed (numbered 1 (place_words 4000000000 r.pieces)) (own k) (suc s) → StartsAt 4000000000 r.pieces s (0 ∷ 0 ∷ [])
    × ((ps : List (List ℕ)) → IsFilled s (term_word r i) r.pieces ps → IsSteady c kept (suc at) (length ps) (record r { pieces = ps })))
