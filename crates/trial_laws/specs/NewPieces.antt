-- The laws of the instructions that put a new piece after the others: a pair, a tuple, an operation, a wide number, a process.
use Rattle.std.specs.Prelude.{◌≡◌, ℕ, zero, suc, ◌+◌, ◌*◌, ◌<◌, ◌≤◌, ℤ, true, false, List, [], ◌∷◌, ◌++◌, length, Some, None, slice_get}
use Rattle.std.specs.Prelude.{if◌then◌else◌, nat_eq, Option, unwrap_or}
use Rattle.fcp_model.specs.declared.term.ArithOp.{ArithOp}
use Rattle.fcp_model.specs.declared.goal.TheConstants.{TRUE_PROCEDURE, UNIFY_PROCEDURE, ASSIGN_PROCEDURE}
use Rattle.fcp_model.specs.Terms.{number}
use Rattle.heap_words.specs.Cells.{decoded, encoded}
use Rattle.heap_words.specs.Heaps.{only_final}
use Rattle.heap_words.specs.Trails.{word_at}
use Rattle.heap_words.specs.declared.cell.Cell.{Cell}
use Rattle.heap_words.specs.declared.cell.Cell.TheVariants as cell
use Rattle.word_states.specs.Pieces.{rows}
use Rattle.word_states.specs.Words.{first_of}
use Rattle.word_states.specs.Denoting.{operator_code}
use Rattle.word_states.specs.Numbers.{bits, low_bits, IsLong}
use Rattle.machine_code.specs.Instructions.{PutWord, PutCons, PutTuple, Spawn}
use Rattle.trial_laws.specs.AtHand.{AtHand, term_word, end_of, Leads, LeadsByPut}
use Rattle.trial_laws.specs.Laws.{Always, holding}

-- where the next piece begins
abbrev pub next_piece : AtHand → ℕ
next_piece r = end_of 4000000000 r.pieces

-- a piece is put after the others
abbrev pub with_piece : AtHand → List ℕ → AtHand
with_piece r p = record r { pieces = r.pieces ++ p ∷ [] }

-- and a piece of so many words has room
abbrev pub HasRoom : AtHand → ℕ → Type 0
HasRoom r n = next_piece r + n ≤ 0x100000000

-- the words of so many slots from i on, as terms
abbrev pub term_words : AtHand → ℕ → ℕ → List ℕ
term_words r i zero = []
term_words r i (suc n) = term_word r i ∷ term_words r (suc i) n

-- a slot takes a new pair
abbrev pub LawOfPair : Type 0
LawOfPair = Always (λ w vs bound ops args at r t. (i left right : ℕ) → slice_get ops at ≡ Some (PutCons i left right) → HasRoom r 2
    → LeadsByPut w vs bound ops args at t (suc at)
    (holding (with_piece r (term_word r left ∷ term_word r right ∷ [])) i (encoded (cell.Cons (next_piece r))) false))

-- a new tuple, of fewer than 66 parts
abbrev pub LawOfTuple : Type 0
LawOfTuple = Always (λ w vs bound ops args at r t. (i from n : ℕ) → slice_get ops at ≡ Some (PutTuple i from n None) → n < 66
    → HasRoom r (suc n)
    → LeadsByPut w vs bound ops args at t (suc at)
    (holding (with_piece r (encoded (cell.Raw n) ∷ term_words r from n)) i (encoded (cell.Tuple (next_piece r))) false))

-- a new operation, whose operands are the contents of two slots
abbrev pub LawOfOperation : Type 0
LawOfOperation = Always (λ w vs bound ops args at r t. (i from n : ℕ) (o : ArithOp) → slice_get ops at ≡ Some (PutTuple i from n (Some o))
    → HasRoom r 3
    → LeadsByPut w vs bound ops args at t (suc at)
    (holding (with_piece r (encoded (cell.Raw (66 + operator_code o)) ∷ r.slots from ∷ r.slots (suc from) ∷ [])) i
    (encoded (cell.Tuple (next_piece r))) true))

-- a new wide number, by the word with its lower 56 bits and its upper eight
abbrev pub LawOfWide : Type 0
LawOfWide = Always (λ w vs bound ops args at r t. (i x h : ℕ) (z low : ℤ) → slice_get ops at ≡ Some (PutWord i (number z))
    → decoded x ≡ Some (cell.Small low) → bits z ≡ h * 0x100000000000000 + low_bits low → IsLong z → h < 256 → HasRoom r 1
    → LeadsByPut w vs bound ops args at t (suc at) (holding (with_piece r (x ∷ [])) i (encoded (cell.Wide (next_piece r) h)) false))

-- the piece of a process: 9, the word of the status Ready; its name, which is 0 until the entry has its number; its procedure and its
-- arguments
abbrev pub process_piece : ℕ → List ℕ → List ℕ
process_piece f xs = 9 ∷ 0 ∷ encoded (cell.Raw f) ∷ encoded (cell.Raw (length xs)) ∷ xs

-- of `true`
abbrev pub true_piece : List ℕ
true_piece = process_piece TRUE_PROCEDURE []

-- The word that a place took in this try: that to which it is bound, or that which it took at its first occurrence.
abbrev pub taken : AtHand → ℕ → Option ℕ
taken r a = only_final (first_of (word_at r.binds a) (word_at (rows 4000000000 r.pieces) a))

-- a word as a read-only occurrence
abbrev pub marked_word : ℕ → Option Cell → ℕ
marked_word x (Some (cell.Ref a)) = encoded (cell.RoRef a)
marked_word x _ = x

-- so a read-only reference to a place that took a word
abbrev pub marked : ℕ → Option ℕ → ℕ
marked x None = x
marked x (Some y) = marked_word y (decoded y)

-- a word, by the words that places took: for a reference to such a place that which it took
abbrev pub passed_in : (ℕ → Option ℕ) → ℕ → Option Cell → ℕ
passed_in at x (Some (cell.Ref a)) = unwrap_or (at a) x
passed_in at x (Some (cell.RoRef a)) = marked x (at a)
passed_in at x _ = x

-- the word that a child takes for a word
abbrev pub passed : AtHand → ℕ → ℕ
passed r x = passed_in (taken r) x (decoded x)

-- and for the words of so many slots, as terms
abbrev pub passed_words : AtHand → ℕ → ℕ → List ℕ
passed_words r i zero = []
passed_words r i (suc n) = passed r (term_word r i) ∷ passed_words r (suc i) n

-- the piece of `=`, and that of `:=`, which have two arguments
abbrev pub unify_piece : AtHand → ℕ → ℕ → List ℕ
unify_piece r i (suc (suc n)) = process_piece UNIFY_PROCEDURE (passed r (term_word r i) ∷ passed r (term_word r (suc i)) ∷ [])
unify_piece r i _ = true_piece

abbrev pub assign_piece : AtHand → ℕ → ℕ → List ℕ
assign_piece r i (suc (suc n)) = process_piece ASSIGN_PROCEDURE (passed r (term_word r i) ∷ passed r (r.slots (suc i)) ∷ [])
assign_piece r i _ = true_piece

-- the piece of the process that calls a procedure with the contents of slots
abbrev pub child_piece : AtHand → ℕ → ℕ → ℕ → List ℕ
child_piece r p i n =
    if nat_eq p TRUE_PROCEDURE then true_piece else
    (if nat_eq p UNIFY_PROCEDURE then unify_piece r i n else
    (if nat_eq p ASSIGN_PROCEDURE then assign_piece r i n else process_piece p (passed_words r i n)))

-- a new child
abbrev pub LawOfSpawn : Type 0
LawOfSpawn = Always (λ w vs bound ops args at r t. (p i n : ℕ) → slice_get ops at ≡ Some (Spawn p i n) → p ≤ ASSIGN_PROCEDURE
    → n < 0x100000000 → HasRoom r (length (child_piece r p i n))
    → Leads w vs bound ops args at t (suc at) (with_piece r (child_piece r p i n)))
