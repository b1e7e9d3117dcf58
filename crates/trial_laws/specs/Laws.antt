-- The laws of the instructions: what each leaves at hand stands for the try that it leaves by the meaning of code.
use Rattle.std.specs.Prelude.{◌≡◌, ◌⊎◌, ◌↔◌, ℕ, zero, suc, ◌<◌, Bool, true, false, List, [], ◌∷◌, length, ◌++◌, Some, None}
use Rattle.std.specs.Prelude.{if◌then◌else◌, nat_eq, slice_get}
use Rattle.fcp_model.specs.Places.{Variable, own}
use Rattle.fcp_model.specs.Terms.{Term, Bindings}
use Rattle.heap_words.specs.Cells.{encoded}
use Rattle.heap_words.specs.Trails.{word_at}
use Rattle.heap_words.specs.declared.cell.Cell.TheVariants as cell
use Rattle.word_states.specs.Words.{Words, IsIn}
use Rattle.word_states.specs.Denoting.{Addresses, Listed, Denotes, ExprSays}
use Rattle.word_states.specs.Pieces.{StartsAt, place_words, process_words, numbered, with_variables}
use Rattle.machine_code.specs.Slots.{arguments}
use Rattle.machine_code.specs.Instructions.{Op, Try, GetFirst, PutVar, PutWord, Jump}
use Rattle.machine_code.specs.Machine.{Trying, untried}
use Rattle.trial_laws.specs.AtHand.{AtHand, term_word, end_of, ArePieces, AreCalled, IsStore, StandsForTry, Leads, LeadsByPut, led_by}
use Rattle.trial_laws.specs.AtHand.{IsBaseOf}

-- a slot takes a word, which is an operator's or not
abbrev pub holding : AtHand → ℕ → ℕ → Bool → AtHand
holding r i x o = record r {
  slots = λ j. if nat_eq j i then x else r.slots j;
  operators = λ j. if nat_eq j i then o else r.operators j;
}

-- a slot takes a term's word
abbrev pub filled : AtHand → ℕ → ℕ → AtHand
filled r i x = holding r i x false

-- the word of the own place after s, which was not bound, has become x
pub record IsFilled (s x : ℕ) (ps ps' : List (List ℕ)) : Type 0 where
  pub was : StartsAt 4000000000 ps s (0 ∷ 0 ∷ [])
  pub now : StartsAt 4000000000 ps' s (0 ∷ x ∷ [])
  pub others : (a : ℕ) (p : List ℕ) → (a ≡ s → ⊥) → StartsAt 4000000000 ps a p → StartsAt 4000000000 ps' a p
  pub back : (a : ℕ) (p : List ℕ) → (a ≡ s → ⊥) → StartsAt 4000000000 ps' a p → StartsAt 4000000000 ps a p
  pub no_empty : (a : ℕ) (p : List ℕ) → StartsAt 4000000000 ps' a p → 0 < length p
  pub same_end : end_of 4000000000 ps' ≡ end_of 4000000000 ps
  pub same_places : place_words 4000000000 ps' ≡ place_words 4000000000 ps
  pub same_processes : process_words 4000000000 ps' ≡ process_words 4000000000 ps

-- so for each store, each code and each try for which what is at hand stands
abbrev pub Always : (Words → Addresses → Bindings → List Op → List (Term Variable) → ℕ → AtHand → Trying → Type 0) → Type 0
Always P = (w : Words) (vs : Addresses) (bound : Bindings) (ops : List Op) (args : List (Term Variable)) (at : ℕ) (r : AtHand) (t : Trying)
    → IsStore w vs bound → ArePieces r.pieces → StandsForTry w vs bound r t → P w vs bound ops args at r t

-- the trial goes on at another position
abbrev pub LawOfJump : Type 0
LawOfJump = Always (λ w vs bound ops args at r t. (to : ℕ) → slice_get ops at ≡ Some (Jump to) → Leads w vs bound ops args at t to r)

-- the slot takes a reference to the variable's place
abbrev pub LawOfVariable : Type 0
LawOfVariable = Always (λ w vs bound ops args at r t. (i k a : ℕ) → slice_get ops at ≡ Some (PutVar i k false)
    → Listed (numbered 1 (place_words 4000000000 r.pieces)) (own k) a
    → LeadsByPut w vs bound ops args at t (suc at) (filled r i (encoded (cell.Ref a))))

-- or a read-only one
abbrev pub LawOfReadOnly : Type 0
LawOfReadOnly = Always (λ w vs bound ops args at r t. (i k a : ℕ) → slice_get ops at ≡ Some (PutVar i k true)
    → Listed (numbered 1 (place_words 4000000000 r.pieces)) (own k) a
    → LeadsByPut w vs bound ops args at t (suc at) (filled r i (encoded (cell.RoRef a))))

-- the slot takes a constant, whose word denotes it wherever it stands
abbrev pub LawOfConstant : Type 0
LawOfConstant = Always (λ w vs bound ops args at r t. (i x : ℕ) (c : Term Variable) → slice_get ops at ≡ Some (PutWord i c)
    → ((u : Words) (us : Addresses) → Denotes u us x c) → LeadsByPut w vs bound ops args at t (suc at) (filled r i x))

-- what was at hand before a put is what was at hand before terms were put of the try that the put leaves, too
abbrev pub LawOfBase : Type 0
LawOfBase = Always (λ w vs bound ops args at r t. (b : AtHand) → IsBaseOf w vs bound args b t → (at' : ℕ) (r' : AtHand)
    → (p : LeadsByPut w vs bound ops args at t at' r') → IsBaseOf w vs bound args b (led_by p).state)

-- the own place takes the slot's word
abbrev pub LawOfFirst : Type 0
LawOfFirst = Always (λ w vs bound ops args at r t. (i k s : ℕ) (ps : List (List ℕ)) → slice_get ops at ≡ Some (GetFirst i k)
    → Listed (numbered 1 (place_words 4000000000 r.pieces)) (own k) (suc s) → word_at r.binds (suc s) ≡ None
    → IsFilled s (term_word r i) r.pieces ps → Leads w vs bound ops args at t (suc at) (record r { pieces = ps }))

-- so many places
abbrev pub places_for : ℕ → List (List ℕ)
places_for zero = []
places_for (suc n) = (0 ∷ 0 ∷ []) ∷ places_for n

-- the words of the goal's arguments, and that of the empty list at other numbers
abbrev pub AreArguments : Words → Addresses → List (Term Variable) → (ℕ → ℕ) → Type 0
AreArguments w vs args words = (i : ℕ) → ExprSays w vs (words i) (arguments args i)

-- at the begin of a try
abbrev pub begun : AtHand → ℕ → ℕ → ℕ → (ℕ → ℕ) → AtHand
begun r k next n words = record r {
  clause = k;
  next = next;
  slots = words;
  operators = λ i. false;
  pieces = places_for n;
  binds = [];
  reads = [];
}

-- the try of a clause of n variables begins: each has its place, and nothing is bound
abbrev pub LawOfTry : Type 0
LawOfTry = Always (λ w vs bound ops args at r t. (k next n : ℕ) (words : ℕ → ℕ) → slice_get ops at ≡ Some (Try k next)
    → AreArguments w vs args words → Leads w vs bound ops args at t (suc at) (begun r k next n words))

-- the slots take the goal's arguments again
abbrev pub cleared : AtHand → (ℕ → ℕ) → AtHand
cleared r words = record r { slots = words; operators = λ i. false }

-- so what is at hand is what was at hand before a test's terms are put
abbrev pub LawOfClearing : Type 0
LawOfClearing = Always (λ w vs bound ops args at r t. (words : ℕ → ℕ) → AreArguments w vs args words
    → IsBaseOf w vs bound args (cleared r words) t)

-- before the first try nothing is at hand
abbrev pub empty : AtHand
empty = record {
  clause = 0;
  next = 0;
  behind = true;
  slots = λ i. 6;
  operators = λ i. false;
  pieces = [];
  binds = [];
  reads = [];
  waits = [];
}

-- and that stands for the state of a trial before its first try
abbrev pub LawOfStart : Type 0
LawOfStart = (w : Words) (vs : Addresses) (bound : Bindings) → IsStore w vs bound → StandsForTry w vs bound empty untried

-- these addresses are the former ones and those of the store that were read
abbrev pub AreNoted : List ℕ → List ℕ → List ℕ → Type 0
AreNoted waits reads waits' = (a : ℕ) → IsIn a waits' ↔ (IsIn a waits ⊎ (IsIn a reads × (a < 4000000000)))

-- a try is left, and what it read is noted; the slots take the goal's arguments, and all else that it put, bound and read goes
abbrev pub left : AtHand → Bool → List ℕ → (ℕ → ℕ) → AtHand
left r behind waits words = record r {
  slots = words;
  operators = λ i. false;
  pieces = [];
  binds = [];
  reads = [];
  behind = behind;
  waits = waits;
}

-- the try after a leave, by the goal's arguments and the reads of the one that is left
abbrev pub after_leave : Trying → List (Term Variable) → Bool → List Variable → Trying
after_leave t args behind qs =
    record t { slots = arguments args; bound = []; read = []; children = []; behind = behind; earlier = t.earlier ++ qs }

-- A try ends without success after it read these places.
abbrev pub LawOfLeaving : Type 0
LawOfLeaving = Always (λ w vs bound ops args at r t. (behind : Bool) (rs : List ℕ) (qs : List Variable) (waits : List ℕ) (words : ℕ → ℕ)
    → AreCalled (with_variables r.pieces vs) rs qs → AreNoted r.waits rs waits → AreArguments w vs args words
    → StandsForTry w vs bound (left r behind waits words) (after_leave t args behind qs))
