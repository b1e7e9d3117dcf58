-- What a trial answers: by the words that it read, whatever the others are.
use Rattle.std.specs.Prelude.{◌≡◌, ℕ, ◌<◌, true, List, [], ◌∷◌, length, Some, None}
use Rattle.fcp_model.specs.declared.run.Place.{Place}
use Rattle.fcp_model.specs.Places.{Variable, made, own, is_listed, places_among}
use Rattle.fcp_model.specs.Terms.{Term, Bindings, find}
use Rattle.fcp_model.specs.Programs.{Goal, Program}
use Rattle.fcp_model.specs.Decisions.{commits, decides_fail, waits_on, Decides}
use Rattle.fcp_model.specs.Reads.{BindsPlaces}
use Rattle.fcp_model.specs.Cells.{clause_used}
use Rattle.fcp_model.specs.Events.{vars_of, body_of}
use Rattle.heap_words.specs.Trails.{WordList, word_at}
use Rattle.word_states.specs.Words.{Words, Among, AreApart, addresses_of, IsIn, AreDistinct}
use Rattle.word_states.specs.Denoting.{Addresses, Listed, Denotes, GoalSays}
use Rattle.word_states.specs.Standing.{PlacesStand, FreshSays}
use Rattle.word_states.specs.Pieces.{rows, place_words, process_words, numbered, with_own, with_variables, ChildrenSay}
use Rattle.word_states.specs.Led.{AreLed, ReadsPlace}
use Rattle.word_states.specs.Tame.{IsTame}
use Rattle.word_states.specs.Formed.{IsOld}

-- The words have those that were read, they stand for bindings, and the process at p has the goal.
pub record IsTried (read : WordList) (p : ℕ) (w : Words) (vs : Addresses) (bound : Bindings) (g : Goal Variable) : Type 0 where
  -- they have what was read
  pub has : (a x : ℕ) → word_at read a ≡ Some x → w a ≡ Some x
  -- all of them are the store's, and refer to its words alone
  pub low : (a x : ℕ) → w a ≡ Some x → a < 4000000000
  pub old : (a x : ℕ) → w a ≡ Some x → IsOld w x
  -- they stand for the bindings
  pub says : PlacesStand w vs bound
  -- no variable of a clause that is tried is bound yet
  pub own_free : BindsPlaces bound
  -- the process at p has the goal
  pub goal : GoalSays w vs p g

-- the places of the state that were bound, in the order in which they were bound
abbrev pub places_bound : Bindings → List Place
places_bound [] = []
places_bound ((made j, t) ∷ bs) = j ∷ places_bound bs
places_bound ((own k, t) ∷ bs) = places_bound bs

-- these places are at these addresses, one by one
abbrev pub AreAt : Addresses → List ℕ → List Place → Type 0
AreAt vs [] [] = Unit {0}
AreAt vs (a ∷ as') (j ∷ js) = Listed vs (made j) a × AreAt vs as' js
AreAt vs _ _ = ⊥

-- Over these words, which stand for these bindings, the goal commits by clause k; the bindings and the pieces say what the try did.
pub record CommitSays (m : Program) (w : Words) (vs : Addresses) (bound : Bindings) (g : Goal Variable) (k : ℕ) (binds : WordList)
    (ps : List (List ℕ)) : Type 0 where
  -- what the definitions decide for the goal
  pub bindings : Bindings
  pub reads : List Variable
  pub decides : Decides m bound g (commits k bindings reads)
  -- each binding of a place of the state is one of the bindings, and there are no others
  pub binds_all : (j : Place) (t : Term Variable) → find bindings (made j) ≡ Some t → (a x : ℕ) × Listed vs (made j) a
      × (find bound (made j) ≡ None) × (word_at binds a ≡ Some x) × Denotes (with_own ps w) (with_variables ps vs) x t
  pub binds_only : (a x : ℕ) → word_at binds a ≡ Some x
      → (j : Place) × (t : Term Variable) × Listed vs (made j) a × (find bindings (made j) ≡ Some t)
  -- they stand in the order in which the places were bound
  pub order : AreAt vs (addresses_of binds) (places_bound bindings)
  -- the clause's variables have their places among the pieces, in order
  pub variables : length (place_words 4000000000 ps) ≡ vars_of (clause_used m g k)
  -- their numbers, and those of the children, fit into names
  pub few : (vars_of (clause_used m g k) < 268435455) × (length (body_of (clause_used m g k)) < 268435455)
  -- the word of each says what it is bound to
  pub variable : (i a : ℕ) → Listed (numbered 1 (place_words 4000000000 ps)) (own i) a → (x : ℕ)
      × (word_at (rows 4000000000 ps) a ≡ Some x) × FreshSays (with_own ps w) (with_variables ps vs) x (find bindings (own i))
  -- the children have theirs, in order of the body
  pub children : ChildrenSay (with_own ps w) (with_variables ps vs) bindings (process_words 4000000000 ps) (body_of (clause_used m g k))

-- the goal waits for exactly the places at these addresses, which are unbound
pub record WaitSays (m : Program) (w : Words) (vs : Addresses) (bound : Bindings) (g : Goal Variable) (places : List ℕ) : Type 0 where
  -- what the definitions decide for the goal
  pub reads : List Variable
  pub decides : Decides m bound g (waits_on reads)
  -- each place of its waiting set is among them, and is unbound
  pub all : (j : Place) → is_listed j (places_among reads) ≡ true
      → (a : ℕ) × Listed vs (made j) a × IsIn a places × (find bound (made j) ≡ None)
  -- each of them is one, and they are as many
  pub only : (a : ℕ) → IsIn a places → (j : Place) × Listed vs (made j) a × (is_listed j (places_among reads) ≡ true)
  pub count : length places ≡ length (places_among reads)

-- the goal fails
pub record FailSays (m : Program) (bound : Bindings) (g : Goal Variable) : Type 0 where
  -- what the definitions decide for the goal
  pub reads : List Variable
  pub decides : Decides m bound g (decides_fail reads)

-- what was read, as a list
pub record AreReads (read : WordList) : Type 0 where
  -- each address once
  pub apart : AreApart read
  -- of the store alone
  pub below : (a x : ℕ) → Among read (a, x) → a < 4000000000

-- What a trial's answer says: wherever words have what it read, and the process at p has a goal, this commits by clause k.
abbrev pub TriedCommit : Program → WordList → ℕ → ℕ → WordList → List (List ℕ) → Type 0
TriedCommit m read p k binds ps = (w : Words) (vs : Addresses) (bound : Bindings) (g : Goal Variable) → IsTried read p w vs bound g
    → CommitSays m w vs bound g k binds ps

-- or it waits for the places at these addresses
abbrev pub TriedWait : Program → WordList → ℕ → List ℕ → Type 0
TriedWait m read p places = (w : Words) (vs : Addresses) (bound : Bindings) (g : Goal Variable) → IsTried read p w vs bound g
    → WaitSays m w vs bound g places

-- or it fails
abbrev pub TriedFail : Program → WordList → ℕ → Type 0
TriedFail m read p = (w : Words) (vs : Addresses) (bound : Bindings) (g : Goal Variable) → IsTried read p w vs bound g → FailSays m bound g

-- Whatever the program is, a trial hands over bindings and pieces that are sound by what it read.
pub record IsReadCommit (read binds : WordList) (ps : List (List ℕ)) : Type 0 where
  -- they lead on, and close no cycle
  pub led : AreLed read binds ps
  pub tame : IsTame read binds ps
  -- what was read is a list of reads
  pub reads : AreReads read
  -- each place that is bound was read as unbound, and is bound once
  pub apart : AreApart binds
  pub opened : (a x : ℕ) → Among binds (a, x) → (e : ℕ) × ReadsPlace read a e

-- And so are the places for which it waits.
pub record IsReadWait (read : WordList) (places : List ℕ) : Type 0 where
  -- what was read is a list of reads
  pub reads : AreReads read
  -- each place once, and each was read as unbound
  pub distinct : AreDistinct places
  pub opened : (a : ℕ) → IsIn a places → (e : ℕ) × ReadsPlace read a e
