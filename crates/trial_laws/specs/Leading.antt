-- What is at hand leads on: by what was read, and by the try's own pieces. This is said of words alone, whatever the store is.
use Rattle.std.specs.Prelude.{◌≡◌, ℕ, suc, ◌+◌, ◌<◌, ◌≤◌, ℤ, true, false, Bool, List, [], ◌∷◌, length, Some}
use Rattle.fcp_model.specs.declared.term.ArithOp.{ArithOp}
use Rattle.fcp_model.specs.declared.goal.TheConstants.{ASSIGN_PROCEDURE}
use Rattle.heap_words.specs.Cells.{decoded, encoded, is_final_word}
use Rattle.heap_words.specs.Trails.{WordList, word_at}
use Rattle.heap_words.specs.declared.cell.Cell.TheVariants as cell
use Rattle.ro_unify.specs.Unify.{Unifies, done}
use Rattle.ro_unify.specs.Walks.{seen_memory}
use Rattle.word_states.specs.Words.{Among}
use Rattle.word_states.specs.Denoting.{Listed, operator_code}
use Rattle.word_states.specs.Pieces.{rows, place_words, numbered}
use Rattle.word_states.specs.Led.{IsLed, LeadsOn, AreLed}
use Rattle.fcp_model.specs.Places.{own}
use Rattle.trial_laws.specs.AtHand.{AtHand, term_word, ArePieces}
use Rattle.trial_laws.specs.Laws.{Always, holding, IsFilled, begun, left, cleared}
use Rattle.trial_laws.specs.NewPieces.{next_piece, with_piece, HasRoom, term_words, child_piece}
use Rattle.trial_laws.specs.Endings.{settled, of_store}

-- a word that a term may have: it is final, and no number of parts
abbrev pub IsTermWord : ℕ → Type 0
IsTermWord x = (is_final_word x ≡ true) × ((n : ℕ) → decoded x ≡ Some (cell.Raw n) → ⊥)

-- references to the place at a lead on
abbrev pub LeadsTo : WordList → List (List ℕ) → ℕ → Type 0
LeadsTo read ps a = LeadsOn read ps (encoded (cell.Ref a)) × LeadsOn read ps (encoded (cell.RoRef a))

-- Pieces have their forms; slots, bindings and final words of pieces lead on; and what slots hold are words of terms.
pub record IsLedOn (read : WordList) (r : AtHand) : Type 0 where
  pub pieces : ArePieces r.pieces
  pub slots : (i : ℕ) → LeadsOn read r.pieces (r.slots i)
  pub terms : (i : ℕ) → IsTermWord (r.slots i)
  pub bound : (a x : ℕ) → word_at r.binds a ≡ Some x → LeadsOn read r.pieces x
  pub places : (a x : ℕ) → word_at r.binds a ≡ Some x → LeadsTo read r.pieces a
  pub own : (a x : ℕ) → word_at (rows 4000000000 r.pieces) a ≡ Some x → is_final_word x ≡ true → LeadsOn read r.pieces x

-- so for all that was read and is at hand
abbrev pub Led : (WordList → AtHand → Type 0) → Type 0
Led P = (read : WordList) (r : AtHand) → IsLedOn read r → P read r

-- more is read
abbrev pub LedByMore : Type 0
LedByMore = Led (λ read r. (read' : WordList) → ((z : ℕ × ℕ) → Among read z → Among read' z) → IsLedOn read' r)

-- a slot takes a word that leads on, such as one that was read, or one that refers to nothing
abbrev pub LedSlot : Type 0
LedSlot = Led (λ read r. (i x : ℕ) (o : Bool) → LeadsOn read r.pieces x → IsTermWord x → IsLedOn read (holding r i x o))

-- a slot takes a reference to the place of a clause's variable
abbrev pub LedVariable : Type 0
LedVariable = Led (λ read r. (i k a : ℕ) → Listed (numbered 1 (place_words 4000000000 r.pieces)) (own k) a
    → IsLedOn read (holding r i (encoded (cell.Ref a)) false) × IsLedOn read (holding r i (encoded (cell.RoRef a)) false))

-- a slot takes a new pair, tuple, operation or wide number
abbrev pub LedPair : Type 0
LedPair = Led (λ read r. (i left right : ℕ) → HasRoom r 2
    → IsLedOn read (holding (with_piece r (term_word r left ∷ term_word r right ∷ [])) i (encoded (cell.Cons (next_piece r))) false))

abbrev pub LedTuple : Type 0
LedTuple = Led (λ read r. (i from n : ℕ) → n < 66 → HasRoom r (suc n)
    → IsLedOn read (holding (with_piece r (encoded (cell.Raw n) ∷ term_words r from n)) i (encoded (cell.Tuple (next_piece r))) false))

abbrev pub LedOperation : Type 0
LedOperation = Led (λ read r. (i from : ℕ) (o : ArithOp) → HasRoom r 3
    → IsLedOn read (holding (with_piece r (encoded (cell.Raw (66 + operator_code o)) ∷ r.slots from ∷ r.slots (suc from) ∷ [])) i
    (encoded (cell.Tuple (next_piece r))) true))

abbrev pub LedWide : Type 0
LedWide = Led (λ read r. (i x h : ℕ) (low : ℤ) → decoded x ≡ Some (cell.Small low) → h < 256 → HasRoom r 1
    → IsLedOn read (holding (with_piece r (x ∷ [])) i (encoded (cell.Wide (next_piece r) h)) false))

-- a new child
abbrev pub LedChild : Type 0
LedChild = Led (λ read r. (p i n : ℕ) → p ≤ ASSIGN_PROCEDURE → n < 0x100000000 → HasRoom r (length (child_piece r p i n))
    → IsLedOn read (with_piece r (child_piece r p i n)))

-- a variable takes a slot's term at its first occurrence
abbrev pub LedFirst : Type 0
LedFirst = Led (λ read r. (i s : ℕ) (ps : List (List ℕ)) → IsFilled s (term_word r i) r.pieces ps → IsLedOn read (record r { pieces = ps }))

-- a try begins with words that lead on as arguments
abbrev pub LedTry : Type 0
LedTry = Led (λ read r. (k next n : ℕ) (words : ℕ → ℕ) → n < 256 → ((i : ℕ) → IsLed read (words i)) → ((i : ℕ) → IsTermWord (words i))
    → IsLedOn read (begun r k next n words))

-- a try is left, or the slots take the goal's arguments again, with words that lead on as these
abbrev pub LedLeft : Type 0
LedLeft = Led (λ read r. (behind : Bool) (waits : List ℕ) (words : ℕ → ℕ) → ((i : ℕ) → IsLed read (words i))
    → ((i : ℕ) → IsTermWord (words i)) → IsLedOn read (left r behind waits words) × IsLedOn read (cleared r words))

-- two slots are unified over what was seen
abbrev pub LedUnification : Type 0
LedUnification = Led (λ read r. (i j : ℕ) (bs : WordList) (rs : List ℕ)
    → Unifies (seen_memory read (word_at (rows 4000000000 r.pieces))) r.binds r.reads ((term_word r i, term_word r j) ∷ []) (done bs rs)
    → IsLedOn read (record r { binds = bs; reads = rs }))

-- At a commit, where each word to which a place is bound is one of a term, the bindings and the pieces lead on.
abbrev pub LedCommit : Type 0
LedCommit = Led (λ read r. ((a x : ℕ) → word_at r.binds a ≡ Some x → IsTermWord x)
    → AreLed read (of_store r.binds) (settled r.binds 4000000000 r.pieces))

-- Where a store is stood for, all slots and bindings are words of terms or of operations: at any other word there is no such store.
abbrev pub TermsStand : Type 0
TermsStand = Always (λ w vs bound ops args at r t. ((i : ℕ) → IsTermWord (r.slots i)) × ((a x : ℕ) → word_at r.binds a ≡ Some x
    → IsTermWord x))
