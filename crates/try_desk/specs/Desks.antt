-- A desk as what a try has at hand.
use Rattle.std.specs.Prelude.{◌≡◌, length, take, ℕ, Bool, false, List, [], slice_get, unwrap_or}
use Rattle.heap_words.specs.Trails.{WordList}
use Rattle.trial_laws.specs.AtHand.{AtHand}
use Rattle.trial_laws.specs.Laws.{empty, begun}
use Rattle.trial_laws.specs.NewPieces.{with_piece, HasRoom}
use Rattle.try_desk.specs.Held.{Held, held}
use Rattle.try_desk.specs.declared.desk.Desk.{Desk}

-- what is at hand, by what the slots hold, the pieces, and what the trail has of this try
abbrev pub at_hand : ℕ → ℕ → Bool → Held → List (List ℕ) → WordList → List ℕ → List ℕ → AtHand
at_hand clause next behind h ps binds reads waits = record {
  clause = clause;
  next = next;
  behind = behind;
  slots = h.words;
  operators = h.operators;
  pieces = ps;
  binds = binds;
  reads = reads;
  waits = waits;
}

-- the pieces at hand, and what a trail has bound
abbrev pub pieces_at_hand : List (List ℕ) → WordList → AtHand
pieces_at_hand ps binds = record empty { pieces = ps; binds = binds }

-- what is at hand with a desk
abbrev pub hand : Desk → WordList → List ℕ → List ℕ → AtHand
hand d binds reads waits = at_hand d.clause d.next d.behind (held d.slots) d.pieces binds reads waits

-- what is at hand has become this, whatever the trail has
abbrev pub Becomes : Desk → Desk → (AtHand → AtHand) → Type 0
Becomes old new f = (binds : WordList) (reads waits : List ℕ) → hand new binds reads waits ≡ f (hand old binds reads waits)

-- A piece was put after the others, and had room. It may depend on what the trail has bound.
abbrev pub Adds : WordList → Desk → Desk → (AtHand → List ℕ) → Type 0
Adds binds old new p = (reads waits : List ℕ)
    → (hand new binds reads waits ≡ with_piece (hand old binds reads waits) (p (hand old binds reads waits)))
    × HasRoom (hand old binds reads waits) (length (p (hand old binds reads waits)))

-- A try begins: what is at hand is what its law says, once the trail has nothing of this try. The slots hold the arguments.
abbrev pub Begins : Desk → Desk → ℕ → ℕ → ℕ → Type 0
Begins old new clause next vars = (binds : WordList) (reads waits : List ℕ) → hand new [] [] waits
    ≡ begun (hand old binds reads waits) clause next vars (λ i. unwrap_or (slice_get old.slots.args i) 6)

-- within a try the slots hold the arguments again, and so many pieces stay
abbrev pub rested : List ℕ → ℕ → AtHand → AtHand
rested args base r = record r { slots = λ i. unwrap_or (slice_get args i) 6; operators = λ i. false; pieces = take base r.pieces }

-- A try is over: the slots hold the arguments again, no pieces stay, and it is said whether all tries failed until now. What it bound
-- and read is the trail's.
abbrev pub put_away : List ℕ → Bool → AtHand → AtHand
put_away args behind r = record r { slots = λ i. unwrap_or (slice_get args i) 6; operators = λ i. false; pieces = []; behind = behind }
