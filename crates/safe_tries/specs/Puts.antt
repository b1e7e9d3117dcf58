-- The laws of the instructions that load nothing: what is at hand stays safe.
use Rattle.std.specs.Prelude.{◌≡◌, ◌⊎◌, ℕ, suc, ◌+◌, ◌<◌, ◌≤◌, ℤ, max, true, false, List, [], ◌∷◌, ◌++◌, length, Some, None}
use Rattle.fcp_model.specs.declared.term.ArithOp.{ArithOp}
use Rattle.fcp_model.specs.declared.goal.TheConstants.{ASSIGN_PROCEDURE}
use Rattle.fcp_model.specs.Places.{Variable, own}
use Rattle.fcp_model.specs.Terms.{Term}
use Rattle.heap_words.specs.Cells.{decoded, encoded}
use Rattle.heap_words.specs.Trails.{WordList, AreOnce, word_at}
use Rattle.heap_words.specs.declared.cell.Cell.TheVariants as cell
use Rattle.word_states.specs.Words.{Words}
use Rattle.word_states.specs.Denoting.{Addresses, Listed, Denotes, operator_code}
use Rattle.word_states.specs.Pieces.{StartsAt, AreFinal, place_words, process_words, numbered}
use Rattle.machine_code.specs.Fresh.{Tops, topped, top_of, no_tops}
use Rattle.trial_laws.specs.AtHand.{AtHand, term_word, end_of}
use Rattle.trial_laws.specs.Laws.{holding, filled, IsFilled, begun}
use Rattle.trial_laws.specs.NewPieces.{next_piece, with_piece, HasRoom, term_words, child_piece}
use Rattle.trial_laws.specs.Leading.{IsTermWord}
use Rattle.safe_tries.specs.Safe.{IsSafe, Safely}

-- the word of the empty list, or a kept word that a term may have
abbrev pub IsArgument : WordList → ℕ → Type 0
IsArgument kept x = IsTermWord x × ((x ≡ 6) ⊎ ((a : ℕ) × (word_at kept a ≡ Some x)))

-- the words of a goal's arguments
abbrev pub AreArguments : WordList → (ℕ → ℕ) → Type 0
AreArguments kept words = (i : ℕ) → IsArgument kept (words i)

-- a slot takes a reference to the place of a clause's variable
abbrev pub SafeVariable : Type 0
SafeVariable = Safely (λ kept r τ released. (i k a : ℕ) → Listed (numbered 1 (place_words 4000000000 r.pieces)) (own k) a
    → IsSafe kept (filled r i (encoded (cell.Ref a))) (topped τ i k) released
    × IsSafe kept (filled r i (encoded (cell.RoRef a))) (topped τ i k) released)

-- a slot takes a constant, whose word denotes it wherever it stands
abbrev pub SafeConstant : Type 0
SafeConstant = Safely (λ kept r τ released. (i x : ℕ) (c : Term Variable) → ((u : Words) (us : Addresses) → Denotes u us x c)
    → IsSafe kept (filled r i x) (topped τ i 0) released)

-- a slot takes a new pair, tuple, operation or wide number
abbrev pub SafePair : Type 0
SafePair = Safely (λ kept r τ released. (i left right : ℕ) → HasRoom r 2
    → IsSafe kept (holding (with_piece r (term_word r left ∷ term_word r right ∷ [])) i (encoded (cell.Cons (next_piece r))) false)
    (topped τ i (max (τ left) (τ right))) released)

abbrev pub SafeTuple : Type 0
SafeTuple = Safely (λ kept r τ released. (i from n : ℕ) → n < 66 → HasRoom r (suc n)
    → IsSafe kept (holding (with_piece r (encoded (cell.Raw n) ∷ term_words r from n)) i (encoded (cell.Tuple (next_piece r))) false)
    (topped τ i (top_of τ from n)) released)

abbrev pub SafeOperation : Type 0
SafeOperation = Safely (λ kept r τ released. (i from : ℕ) (o : ArithOp) → HasRoom r 3
    → IsSafe kept (holding (with_piece r (encoded (cell.Raw (66 + operator_code o)) ∷ r.slots from ∷ r.slots (suc from) ∷ [])) i
    (encoded (cell.Tuple (next_piece r))) true) (topped τ i (top_of τ from 2)) released)

abbrev pub SafeWide : Type 0
SafeWide = Safely (λ kept r τ released. (i x h : ℕ) (low : ℤ) → decoded x ≡ Some (cell.Small low) → h < 256 → HasRoom r 1
    → IsSafe kept (holding (with_piece r (x ∷ [])) i (encoded (cell.Wide (next_piece r) h)) false) (topped τ i 0) released)

-- a new child
abbrev pub SafeChild : Type 0
SafeChild = Safely (λ kept r τ released. (p i n : ℕ) → p ≤ ASSIGN_PROCEDURE → n < 0x100000000 → HasRoom r (length (child_piece r p i n))
    → IsSafe kept (with_piece r (child_piece r p i n)) τ released)

-- The first occurrence of a variable that is fresh: above the slot's top and above all that were released. Its place is unbound, and
-- after it took the slot's term the variable is released.
abbrev pub SafeFirst : Type 0
SafeFirst = Safely (λ kept r τ released. (i k s : ℕ) → Listed (numbered 1 (place_words 4000000000 r.pieces)) (own k) (suc s) → τ i < k
    → released < k → (word_at r.binds (suc s) ≡ None) × StartsAt 4000000000 r.pieces s (0 ∷ 0 ∷ [])
    × ((ps : List (List ℕ)) → IsFilled s (term_word r i) r.pieces ps → IsSafe kept (record r { pieces = ps }) τ k))

-- slots hold the goal's arguments again
abbrev pub rested : AtHand → (ℕ → ℕ) → AtHand
rested r words = record r { slots = words; operators = λ i. false }

abbrev pub SafeReset : Type 0
SafeReset = Safely (λ kept r τ released. (words : ℕ → ℕ) → AreArguments kept words → IsSafe kept (rested r words) no_tops released)

-- a try begins where nothing is at hand but the arguments
abbrev pub SafeTry : Type 0
SafeTry = Safely (λ kept r τ released. (k next n : ℕ) (words : ℕ → ℕ) → AreArguments kept words → n < 256 → r.pieces ≡ [] → r.binds ≡ []
    → r.reads ≡ [] → IsSafe kept (begun r k next n words) no_tops 0)

-- What is at hand has become r since b by puts alone: further pieces of final words, none of them a place or a process.
pub record Puts (b r : AtHand) : Type 0 where
  pub more : List (List ℕ)
  pub pieces : r.pieces ≡ b.pieces ++ more
  pub terms : (a : ℕ) (p : List ℕ) → StartsAt (end_of 4000000000 b.pieces) more a p → AreFinal p
  pub same_places : place_words 4000000000 r.pieces ≡ place_words 4000000000 b.pieces
  pub same_processes : process_words 4000000000 r.pieces ≡ process_words 4000000000 b.pieces
  pub same_binds : r.binds ≡ b.binds

-- After more was kept by a test of r, what was at hand before the puts is safe as well, with the reads of the test. What was kept
-- before is listed once.
abbrev pub SafeCut : Type 0
SafeCut = Safely (λ kept b τ released. (kept' : WordList) (r : AtHand) (υ : Tops) (q : ℕ) → AreOnce kept → IsSafe kept' r υ q → Puts b r
    → ((a x : ℕ) → word_at kept a ≡ Some x → word_at kept' a ≡ Some x)
    → IsSafe kept' (record b { reads = r.reads; waits = r.waits }) τ released)
