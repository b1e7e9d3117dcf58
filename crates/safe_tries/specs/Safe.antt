-- What is so of a try at each instruction, by the words that were kept and by what is at hand. It is said of words alone, whatever the
-- program is and whatever the store's other words are.
use Rattle.std.specs.Prelude.{◌≡◌, ℕ, suc, ◌<◌, ◌≤◌, max, List, [], ◌∷◌, Some, Option}
use Rattle.fcp_model.specs.Places.{own}
use Rattle.heap_words.specs.Cells.{decoded}
use Rattle.heap_words.specs.Refers.{Refers, RefersBy, teller}
use Rattle.heap_words.specs.Trails.{WordList, Memory, word_at}
use Rattle.heap_words.specs.declared.cell.Cell.{Cell}
use Rattle.heap_words.specs.declared.cell.Cell.TheVariants.{Unbound, Raw}
use Rattle.word_states.specs.Words.{IsIn, AreDistinct}
use Rattle.word_states.specs.Denoting.{Listed}
use Rattle.word_states.specs.Pieces.{rows, StartsAt, place_words, numbered}
use Rattle.ro_unify.specs.Walks.{seen_at, seen_memory, Node, address, Goes, Edge, Tame}
use Rattle.machine_code.specs.Fresh.{Tops}
use Rattle.trial_laws.specs.AtHand.{AtHand, end_of}
use Rattle.trial_laws.specs.Leading.{IsLedOn}

-- the own words of pieces, by address
abbrev pub own_words : List (List ℕ) → ℕ → Option ℕ
own_words ps a = word_at (rows 4000000000 ps) a

-- what a try has seen: the kept words of the store and its own
abbrev pub seen : WordList → AtHand → Memory
seen kept r = seen_memory kept (own_words r.pieces)

-- the words at hand refer to addresses of the store alone
pub record StayLow (at : ℕ → Option ℕ) : Type 0 where
  -- by themselves
  pub refers : (a b x : ℕ) (c : Cell) → at a ≡ Some x → decoded x ≡ Some c → Refers c b → b < 4000000000
  -- and by a number that stands among them
  pub refers_by : (a b x t y n : ℕ) (c : Cell) → at a ≡ Some x → decoded x ≡ Some c → teller c ≡ Some t → at t ≡ Some y
      → decoded y ≡ Some (Raw n) → RefersBy n c b → b < 4000000000

-- How far walks come: a walk from what was put into a slot comes to no clause variable above the slot's top, but to such as were
-- released, which are those up to the greatest one that was bound or unified so far.
pub record IsTopped (kept : WordList) (r : AtHand) (τ : Tops) (released : ℕ) : Type 0 where
  -- a bound of the variables to which a walk from an address comes
  pub high : ℕ → ℕ
  -- from the store a walk comes to released ones alone
  pub store : (a : ℕ) → a < 4000000000 → high a ≤ released
  -- the place of a variable is that variable's
  pub place : (k a : ℕ) → Listed (numbered 1 (place_words 4000000000 r.pieces)) (own k) a → high a ≡ k
  -- along a walk the bound does not grow above what was released
  pub climbs : (a b : Node) → Edge r.binds (seen kept r) a b → high (address b) ≤ max (high (address a)) released
  -- what slots hold
  pub slots : (i : ℕ) (b : Node) → Goes (seen kept r) (r.slots i) b → high (address b) ≤ max (τ i) released
  -- which leads to addresses before the end of the pieces
  pub near : (i : ℕ) (b : Node) → Goes (seen kept r) (r.slots i) b → address b < end_of 4000000000 r.pieces
  -- a bound place is released
  pub bound : (a x : ℕ) → word_at r.binds a ≡ Some x → high a ≤ released
  -- and the place of a variable that is not has no word yet
  pub unfilled : (k s : ℕ) → Listed (numbered 1 (place_words 4000000000 r.pieces)) (own k) (suc s) → released < k
      → StartsAt 4000000000 r.pieces s (0 ∷ 0 ∷ [])

-- an unbound place was seen at the address
abbrev pub SawOpen : WordList → AtHand → ℕ → Type 0
SawOpen kept r a = (x e : ℕ) × (seen_at kept (own_words r.pieces) a ≡ Some x) × (decoded x ≡ Some (Unbound e))

-- an unbound place of the store was read at the address
abbrev pub KeptOpen : WordList → ℕ → Type 0
KeptOpen kept a = (x e : ℕ) × (word_at kept a ≡ Some x) × (decoded x ≡ Some (Unbound e))

-- What is at hand is safe.
pub record IsSafe (kept : WordList) (r : AtHand) (τ : Tops) (released : ℕ) : Type 0 where
  -- what was kept is the store's, and refers to the store's words
  pub below : (a x : ℕ) → word_at kept a ≡ Some x → a < 4000000000
  pub low : StayLow (word_at kept)
  -- what is at hand leads on
  pub led : IsLedOn kept r
  -- walks end
  pub tame : Tame r.binds kept (own_words r.pieces) (end_of 4000000000 r.pieces)
  -- and come only so far
  pub topped : IsTopped kept r τ released
  -- what was bound was unbound before, and so was what this try read of the store; a place of its own may be filled after it was read
  pub bound_open : (a x : ℕ) → word_at r.binds a ≡ Some x → SawOpen kept r a
  pub read_open : (a : ℕ) → IsIn a r.reads → a < 4000000000 → SawOpen kept r a
  -- and what the tries before read; it is listed once
  pub waits_open : (a : ℕ) → IsIn a r.waits → KeptOpen kept a
  pub waits_apart : AreDistinct r.waits

-- so of all that is safe
abbrev pub Safely : (WordList → AtHand → Tops → ℕ → Type 0) → Type 0
Safely P = (kept : WordList) (r : AtHand) (τ : Tops) (released : ℕ) → IsSafe kept r τ released → P kept r τ released
