-- What a try has at hand, and the state of the code's meaning for which it stands.
use Rattle.std.specs.Prelude.{◌≡◌, ◌⊎◌, ℕ, ◌+◌, ◌<◌, ◌≤◌, Bool, true, false, List, [], ◌∷◌, ◌++◌, length, Some, None, if◌then◌else◌}
use Rattle.std.specs.Prelude.{nat_lt}
use Rattle.fcp_model.specs.declared.run.Place.{Place}
use Rattle.fcp_model.specs.Places.{Variable, made}
use Rattle.fcp_model.specs.Terms.{Term, Bindings, find}
use Rattle.fcp_model.specs.Expressions.{Expr, leaf, op}
use Rattle.fcp_model.specs.Programs.{Goal}
use Rattle.fcp_model.specs.Reads.{BindsPlaces}
use Rattle.heap_words.specs.Trails.{WordList, word_at}
use Rattle.heap_words.specs.declared.cell.Cell.TheVariants.{Unbound}
use Rattle.word_states.specs.Words.{Words, At, addresses_of, over, IsIn}
use Rattle.word_states.specs.Denoting.{Addresses, Listed, ExprSays}
use Rattle.word_states.specs.Leading.{GoalStands}
use Rattle.word_states.specs.Standing.{PlacesStand, PlaceSays}
use Rattle.word_states.specs.Pieces.{StartsAt, process_words, IsPiece, with_own, with_variables}
use Rattle.word_states.specs.Trials.{places_bound, AreAt}
use Rattle.machine_code.specs.Slots.{Slots, arguments}
use Rattle.machine_code.specs.Instructions.{Op}
use Rattle.machine_code.specs.Machine.{Trying, Meaning, follow}

-- What a try has at hand: the number of its clause, where the trial goes on if it does not succeed, and whether all tries before
-- it failed; by its number each slot's word, and whether that is an operator's; its own pieces; what it bound, by address; the
-- places that it read unbound; and those of the store that the tries before it read.
pub record AtHand : Type 0 where
  pub clause : ℕ
  pub next : ℕ
  pub behind : Bool
  pub slots : ℕ → ℕ
  pub operators : ℕ → Bool
  pub pieces : List (List ℕ)
  pub binds : WordList
  pub reads : List ℕ
  pub waits : List ℕ

-- a slot's word as a term: 6, the word of the empty list, where an operator stands
abbrev pub term_word : AtHand → ℕ → ℕ
term_word r i = if r.operators i then 6 else r.slots i

-- an expression that is no term
abbrev pub is_operator : Expr Variable → Bool
is_operator (leaf t) = false
is_operator (op o a b) = true

-- the address after the pieces, the first of which is at b
abbrev pub end_of : ℕ → List (List ℕ) → ℕ
end_of b [] = b
end_of b (p ∷ ps) = end_of (b + length p) ps

-- the pieces have their forms, and addresses of 32 bits
pub record ArePieces (ps : List (List ℕ)) : Type 0 where
  pub each : (a : ℕ) (p : List ℕ) → StartsAt 4000000000 ps a p → IsPiece p
  pub few : end_of 4000000000 ps ≤ 0x100000000

-- the places at these addresses are these variables, one by one
abbrev pub AreCalled : Addresses → List ℕ → List Variable → Type 0
AreCalled vs [] [] = Unit {0}
AreCalled vs (a ∷ as') (v ∷ us) = Listed vs v a × AreCalled vs as' us
AreCalled vs _ _ = ⊥

-- the variable is one of these
abbrev pub IsAmong : List Variable → Variable → Type 0
IsAmong [] v = ⊥
IsAmong (u ∷ us) v = (u ≡ v) ⊎ IsAmong us v

-- the store's places at these addresses are the places among these variables
pub record ArePlacesAmong (vs : Addresses) (as' : List ℕ) (qs : List Variable) : Type 0 where
  pub all : (j : Place) → IsAmong qs (made j) → (a : ℕ) × Listed vs (made j) a × IsIn a as'
  pub only : (a : ℕ) → IsIn a as' → (j : Place) × Listed vs (made j) a × IsAmong qs (made j)

-- the processes at these addresses have goals to which these lead, by the bindings
abbrev pub GoalsSay : Words → Addresses → Bindings → List ℕ → List (Goal Variable) → Type 0
GoalsSay w vs bs [] [] = Unit {0}
GoalsSay w vs bs (q ∷ qs) (g ∷ gs) = GoalStands w vs bs q g × GoalsSay w vs bs qs gs
GoalsSay w vs bs _ _ = ⊥

-- the words of the store, with places that stand for bindings
pub record IsStore (w : Words) (vs : Addresses) (bound : Bindings) : Type 0 where
  pub low : (a x : ℕ) → w a ≡ Some x → a < 4000000000
  pub says : PlacesStand w vs bound
  pub own_free : BindsPlaces bound

-- the bindings of the store's places
abbrev pub of_store : WordList → WordList
of_store [] = []
of_store (b ∷ bs) = if nat_lt b.0 4000000000 then b ∷ of_store bs else of_store bs

-- Over these words of the store, what is at hand stands for the try t.
pub record StandsForTry (w : Words) (vs : Addresses) (bound : Bindings) (r : AtHand) (t : Trying) : Type 0 where
  pub clause : r.clause ≡ t.clause
  pub next : r.next ≡ t.next
  pub behind : r.behind ≡ t.behind
  -- each slot says what it holds
  pub slots : (i : ℕ) → ExprSays (with_own r.pieces w) (with_variables r.pieces vs) (r.slots i) (t.slots i)
  pub operators : (i : ℕ) → r.operators i ≡ is_operator (t.slots i)
  -- each place of the store and of the clause's variables, under the try's bindings, says what it is bound to
  pub places : (v : Variable) (a : ℕ) → Listed (with_variables r.pieces vs) v a → (x : ℕ)
      × (over r.binds (with_own r.pieces w) a ≡ Some x)
      × PlaceSays (with_own r.pieces w) (with_variables r.pieces vs) x (find (bound ++ t.bound) v)
  -- what the try bound is bound in its state, at a place that was not bound before; and its state binds no more
  pub binds_named : (a x : ℕ) → word_at r.binds a ≡ Some x
      → (v : Variable) × (u : Term Variable) × Listed (with_variables r.pieces vs) v a × (find t.bound v ≡ Some u)
  pub binds_open : (a x : ℕ) → word_at r.binds a ≡ Some x → (e : ℕ) × At (with_own r.pieces w) a (Unbound e)
  pub bound_named : (v : Variable) (u : Term Variable) → find t.bound v ≡ Some u
      → (find bound v ≡ None) × ((a : ℕ) × Listed (with_variables r.pieces vs) v a)
  -- it bound the store's places in the order in which its state did
  pub order : AreAt vs (addresses_of (of_store r.binds)) (places_bound t.bound)
  -- what it read, in order, and the places that the tries before it read
  pub reads : AreCalled (with_variables r.pieces vs) r.reads t.read
  pub waits : ArePlacesAmong vs r.waits t.earlier
  -- its children, in order: by the try's bindings their goals lead to those that the words say
  pub children : GoalsSay (with_own r.pieces w) (with_variables r.pieces vs) t.bound (process_words 4000000000 r.pieces) t.children

-- from a position on the code gives this, by some number of steps
abbrev pub Gives : Bindings → List Op → List (Term Variable) → ℕ → Trying → Meaning → Type 0
Gives s code args at t d = (n : ℕ) × (follow n s code args at t ≡ Some d)

-- An instruction led on: what is at hand then stands for a try again, and what the code gives from there it gives from here.
pub record Leads (w : Words) (vs : Addresses) (bound : Bindings) (code : List Op) (args : List (Term Variable)) (at : ℕ) (t : Trying)
    (at' : ℕ) (r' : AtHand) : Type 0 where
  pub state : Trying
  pub stands : StandsForTry w vs bound r' state
  pub gives : (d : Meaning) → Gives bound code args at' state d → Gives bound code args at t d

-- An instruction that puts led on: the same for the former try with other slots, and with nothing else changed.
pub record LeadsByPut (w : Words) (vs : Addresses) (bound : Bindings) (code : List Op) (args : List (Term Variable)) (at : ℕ) (t : Trying)
    (at' : ℕ) (r' : AtHand) : Type 0 where
  pub slots : Slots
  pub stands : StandsForTry w vs bound r' (record t { slots = slots })
  pub gives : (d : Meaning) → Gives bound code args at' (record t { slots = slots }) d → Gives bound code args at t d

-- so it led on
abbrev pub led_by : {w : Words} {vs : Addresses} {bound : Bindings} {code : List Op} {args : List (Term Variable)} {at : ℕ} {t : Trying}
    {at' : ℕ} {r' : AtHand} → LeadsByPut w vs bound code args at t at' r' → Leads w vs bound code args at t at' r'
led_by {t} p = record { state = record t { slots = p.slots }; stands = p.stands; gives = p.gives }

-- what was at hand before a test's terms were put: it stands for the same try with the goal's arguments in the slots
abbrev pub IsBaseOf : Words → Addresses → Bindings → List (Term Variable) → AtHand → Trying → Type 0
IsBaseOf w vs bound args b t = StandsForTry w vs bound b (record t { slots = arguments args })
