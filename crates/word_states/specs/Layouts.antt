-- The words after an entry: the bindings and the pieces of a commit, or the waiting entries of a hang, laid among those of the store.
use Rattle.std.specs.Prelude.{◌≡◌, ◌⊎◌, ℕ, zero, suc, ◌+◌, ◌<◌, pos, List, [], ◌∷◌, length, map, if◌then◌else◌, Option, Some, None}
use Rattle.fcp_model.specs.Terms.{settle}
use Rattle.heap_words.specs.Cells.{decoded, encoded}
use Rattle.heap_words.specs.Trails.{WordList, word_at}
use Rattle.heap_words.specs.declared.cell.Cell.{Cell}
use Rattle.heap_words.specs.declared.cell.Cell.TheVariants.{Unbound, Ref, RoRef, Small, Wide, Nil, Cons, Tuple, Raw, Status, Top}
use Rattle.heap_words.specs.declared.cell.Stand.TheVariants.{Ready, Waiting, Done}
use Rattle.word_states.specs.Words.{Words, At, StandAt, IsIn}
use Rattle.word_states.specs.Denoting.{Addresses}
use Rattle.word_states.specs.Standing.{name_code}
use Rattle.word_states.specs.Pieces.{is_place, is_process, place_words, process_words, numbered, rows}

-- the cell after each address has become what f gives it
abbrev pub moved_cell : (ℕ → ℕ) → Cell → Cell
moved_cell f (Ref a) = Ref (f a)
moved_cell f (RoRef a) = RoRef (f a)
moved_cell f (Wide a h) = Wide (f a) h
moved_cell f (Cons a) = Cons (f a)
moved_cell f (Tuple a) = Tuple (f a)
moved_cell f c = c

-- the word x, whose cell is this, after the move
abbrev pub moved_in : (ℕ → ℕ) → ℕ → Option Cell → ℕ
moved_in f x None = x
moved_in f x (Some c) = encoded (moved_cell f c)

-- the word after each address has become what f gives it
abbrev pub moved : (ℕ → ℕ) → ℕ → ℕ
moved f x = moved_in f x (decoded x)

-- the name word of the k-th place or process of entry n
abbrev pub name_word : ℕ → ℕ → ℕ
name_word n k = encoded (Small (pos (name_code n k)))

-- a place as it is laid: the k-th of entry n
abbrev pub laid_place : (ℕ → ℕ) → ℕ → ℕ → List ℕ → List ℕ
laid_place f n k (x ∷ y ∷ []) = name_word n k ∷ moved f y ∷ []
laid_place f n k _ = []

-- a process as it is laid: the i-th of entry n
abbrev pub laid_process : (ℕ → ℕ) → ℕ → ℕ → List ℕ → List ℕ
laid_process f n i (x ∷ y ∷ ys) = x ∷ name_word n i ∷ map (moved f) ys
laid_process f n i _ = []

-- a piece as it is laid: with the name of the k-th place or of the i-th process of entry n
abbrev pub laid_piece : (ℕ → ℕ) → ℕ → ℕ → ℕ → List ℕ → List ℕ
laid_piece f n k i p =
    if is_place p then laid_place f n k p else (if is_process p then laid_process f n i p else map (moved f) p)

-- the number of the next place after a piece
abbrev pub next_place : ℕ → List ℕ → ℕ
next_place k p = if is_place p then suc k else k

-- the number of the next process after a piece
abbrev pub next_process : ℕ → List ℕ → ℕ
next_process i p = if is_process p then suc i else i

-- the pieces are laid, each as a whole
abbrev pub AreLaid : (ℕ → ℕ) → ℕ → Words → ℕ → ℕ → ℕ → List (List ℕ) → Type 0
AreLaid f n w k i a [] = Unit {0}
AreLaid f n w k i a (p ∷ ps) = ((d : ℕ) → d < length p → f (a + d) ≡ f a + d) × StandAt w (f a) (laid_piece f n k i p)
    × AreLaid f n w (next_place k p) (next_process i p) (a + length p) ps

-- a word stays, or is a page's top that another top replaced
abbrev pub StaysOrTop : Words → ℕ → ℕ → Type 0
StaysOrTop w' a x = (w' a ≡ Some x) ⊎ ((t u : ℕ) × (decoded x ≡ Some (Top t)) × At w' a (Top u))

-- The commit of the process at p by entry n, laid: the words w become w'. Word a of the pieces goes to f a.
pub record CommitLaid (f : ℕ → ℕ) (n p : ℕ) (binds : WordList) (ps : List (List ℕ)) (wakes : List ℕ) (w w' : Words) : Type 0 where
  -- addresses stay in their range, and those of the store stay as they are
  pub small : (a : ℕ) → a < 0x100000000 → f a < 0x100000000
  pub old : (a : ℕ) → a < 4000000000 → f a ≡ a
  -- each word of the pieces goes to a free address of its own
  pub free : (a x : ℕ) → word_at (rows 4000000000 ps) a ≡ Some x → w (f a) ≡ None
  pub one : (a b x y : ℕ) → word_at (rows 4000000000 ps) a ≡ Some x → word_at (rows 4000000000 ps) b ≡ Some y → f a ≡ f b → a ≡ b
  -- the words after it: the pieces, the status, the bindings, the statuses of the woken
  pub laid : AreLaid f n w' 1 1 4000000000 ps
  pub done : w' p ≡ Some (encoded (Status Done))
  pub bound : (a x : ℕ) → word_at binds a ≡ Some x → w' a ≡ Some (moved f x)
  pub woken : (q : ℕ) → IsIn q wakes → w' q ≡ Some (encoded (Status Ready))
  -- all others stay but for tops, and there are no more
  pub others : (a x : ℕ) → w a ≡ Some x → (a ≡ p → ⊥) → word_at binds a ≡ None → (IsIn a wakes → ⊥) → StaysOrTop w' a x
  pub new : (a y : ℕ) → w a ≡ None → w' a ≡ Some y → (b x : ℕ) × (word_at (rows 4000000000 ps) b ≡ Some x) × (a ≡ f b)

-- the new places after it
abbrev pub fresh_places : (ℕ → ℕ) → ℕ → List (List ℕ) → Addresses
fresh_places f n ps = map (λ b. (settle n b.0, f b.1)) (numbered 1 (place_words 4000000000 ps))

-- the children after it
abbrev pub born_at : (ℕ → ℕ) → List (List ℕ) → List ℕ
born_at f ps = map f (process_words 4000000000 ps)

-- the link word to the entry at e, where 0 is none
abbrev pub link_word : ℕ → ℕ
link_word zero = encoded Nil
link_word (suc e) = encoded (Cons (suc e))

-- the waiting entry of the process at p by entry n, before the list that begins at e
abbrev pub entry_words : ℕ → ℕ → ℕ → List ℕ
entry_words n p e = encoded (Raw p) ∷ encoded (Small (pos n)) ∷ link_word e ∷ []

-- The hang of the process at p by entry n on the places at these addresses, laid: the words w become w'. The waiting entry
-- for the place at a stands at `entry a`.
pub record HangLaid (entry : ℕ → ℕ) (n p : ℕ) (places : List ℕ) (w w' : Words) : Type 0 where
  -- addresses and the number are in their ranges
  pub small : (p < 0x100000000) × (n < 0x100000000)
  pub small_entry : (a : ℕ) → IsIn a places → (0 < entry a) × (entry a < 0x100000000)
  -- each waiting entry goes to free addresses
  pub free : (a i : ℕ) → IsIn a places → i < 3 → w (entry a + i) ≡ None
  -- the words after it: the status, the places with new heads of their lists, the waiting entries
  pub status : w' p ≡ Some (encoded (Status (Waiting n)))
  pub placed : (a : ℕ) → IsIn a places → w' a ≡ Some (encoded (Unbound (entry a)))
  pub laid : (a e : ℕ) → IsIn a places → At w a (Unbound e) → StandAt w' (entry a) (entry_words n p e)
  -- all others stay but for tops, and there are no more
  pub others : (a x : ℕ) → w a ≡ Some x → (a ≡ p → ⊥) → (IsIn a places → ⊥) → StaysOrTop w' a x
  pub new : (a y : ℕ) → w a ≡ None → w' a ≡ Some y → (b i : ℕ) × IsIn b places × (i < 3) × (a ≡ entry b + i)
