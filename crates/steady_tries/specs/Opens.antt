-- The laws of the instructions that load, over all memories that have what was kept and the try's own words.
use Rattle.std.specs.Prelude.{◌≡◌, ◌⊎◌, ℕ, suc, ◌+◌, ◌<◌, ◌≤◌, false, List, [], ◌∷◌, length, Some, None, slice_get}
use Rattle.heap_words.specs.Trails.{WordList, Memory, Agrees}
use Rattle.ro_unify.specs.declared.look.Look.{Look}
use Rattle.ro_unify.specs.Occurs.{words_after}
use Rattle.ro_unify.specs.Unify.{Unifies, Ended, done, clash, stop}
use Rattle.ro_unify.specs.Walks.{IsSeen, Tame}
use Rattle.word_states.specs.Words.{IsIn}
use Rattle.machine_code.specs.Instructions.{GetCons, GetTuple, Unify}
use Rattle.machine_code.specs.Fresh.{no_tops}
use Rattle.trial_laws.specs.AtHand.{AtHand, term_word, end_of}
use Rattle.trial_laws.specs.Laws.{holding, AreNoted, left}
use Rattle.trial_laws.specs.Opening.{pair_at, tuple_at, holding_all, LookAt}
use Rattle.trial_laws.specs.Leading.{IsTermWord}
use Rattle.safe_tries.specs.Safe.{IsSafe, SawOpen, KeptOpen, own_words}
use Rattle.safe_tries.specs.Loads.{AreTermWords}
use Rattle.steady_tries.specs.Steady.{IsSteady, Steadily, IsBetween, Wherever}

-- so in each memory that has what was kept and the try's own words
abbrev pub Everywhere : WordList → AtHand → (Memory → Type 0) → Type 0
Everywhere kept r P = (m : Memory) → Agrees (own_words r.pieces) kept m → P m

-- a slot's value is a pair with these two parts, which were seen
abbrev pub IsPairOf : WordList → AtHand → ℕ → ℕ → ℕ → Type 0
IsPairOf kept r i x y = Everywhere kept r (λ m. (l : Look) × (c : ℕ) × LookAt r m i l × (pair_at l ≡ Some c)
    × IsSeen kept (own_words r.pieces) c × IsSeen kept (own_words r.pieces) (c + 1) × (m c ≡ x) × (m (c + 1) ≡ y))

-- it is none
abbrev pub IsNoPair : WordList → AtHand → ℕ → Type 0
IsNoPair kept r i = Everywhere kept r (λ m. (l : Look) × LookAt r m i l × (pair_at l ≡ None))

-- its parts go into slots
abbrev pub SteadyPairOpened : Type 0
SteadyPairOpened = Steadily (λ c kept at n r. (i left right put x y : ℕ) → slice_get c.ops at ≡ Some (GetCons i left right put)
    → IsPairOf kept r i x y → IsTermWord x → IsTermWord y
    → IsSteady c kept (suc at) (length r.pieces) (holding (holding r left x false) right y false))

-- a part that is no word of a term stands in no store
abbrev pub NoPairStands : Type 0
NoPairStands = Steadily (λ c kept at n r. (i left right put x y : ℕ) → slice_get c.ops at ≡ Some (GetCons i left right put)
    → IsPairOf kept r i x y → (IsTermWord x × IsTermWord y → ⊥) → Wherever c kept (λ w vs bound g. ⊥))

-- and any other value goes on to `put`
abbrev pub SteadyNoPair : Type 0
SteadyNoPair = Steadily (λ c kept at n r. (i left right put : ℕ) → slice_get c.ops at ≡ Some (GetCons i left right put)
    → IsNoPair kept r i → IsSteady c kept put (length r.pieces) r)

-- the same for a tuple of so many parts
abbrev pub IsTupleOf : WordList → AtHand → ℕ → ℕ → List ℕ → Type 0
IsTupleOf kept r i parts xs = Everywhere kept r (λ m. (l : Look) × (c : ℕ) × LookAt r m i l × (tuple_at m parts l ≡ Some c)
    × ((b : ℕ) → c ≤ b → b ≤ c + parts → IsSeen kept (own_words r.pieces) b) × (words_after m c parts ≡ xs))

abbrev pub IsNoTuple : WordList → AtHand → ℕ → ℕ → Type 0
IsNoTuple kept r i parts = Everywhere kept r (λ m. (l : Look) × LookAt r m i l × (tuple_at m parts l ≡ None))

abbrev pub SteadyTupleOpened : Type 0
SteadyTupleOpened = Steadily (λ c kept at n r. (i first parts put : ℕ) (xs : List ℕ)
    → slice_get c.ops at ≡ Some (GetTuple i first parts put) → parts < 66 → IsTupleOf kept r i parts xs → AreTermWords xs
    → IsSteady c kept (suc at) (length r.pieces) (holding_all r first xs))

abbrev pub NoTupleStands : Type 0
NoTupleStands = Steadily (λ c kept at n r. (i first parts put : ℕ) (xs : List ℕ)
    → slice_get c.ops at ≡ Some (GetTuple i first parts put) → IsTupleOf kept r i parts xs → (AreTermWords xs → ⊥)
    → Wherever c kept (λ w vs bound g. ⊥))

abbrev pub SteadyNoTuple : Type 0
SteadyNoTuple = Steadily (λ c kept at n r. (i first parts put : ℕ) → slice_get c.ops at ≡ Some (GetTuple i first parts put)
    → IsNoTuple kept r i parts → IsSteady c kept put (length r.pieces) r)

-- two slots are unified so
abbrev pub UnifiesAt : WordList → AtHand → ℕ → ℕ → Ended → Type 0
UnifiesAt kept r i j e = Everywhere kept r (λ m. Unifies m r.binds r.reads ((term_word r i, term_word r j) ∷ []) e)

-- it is done: all pieces so far stay
abbrev pub SteadyUnified : Type 0
SteadyUnified = Steadily (λ c kept at n r. (i j : ℕ) (bs : WordList) (rs : List ℕ) → slice_get c.ops at ≡ Some (Unify i j)
    → UnifiesAt kept r i j (done bs rs) → Tame bs kept (own_words r.pieces) (end_of 4000000000 r.pieces)
    → IsSteady c kept (suc at) (length r.pieces) (record r { binds = bs; reads = rs }))

-- where what a try read is noted beside what was, each is an unbound place of the store that was kept
abbrev pub AllNoted : Type 0
AllNoted = Steadily (λ c kept at n r. (rs waits : List ℕ) → ((a : ℕ) → IsIn a rs → a < 4000000000 → SawOpen kept r a) → AreNoted
    r.waits rs waits
    → (a : ℕ) → IsIn a waits → KeptOpen kept a)

-- it clashes or waits, and the try is left, once it is safe to hold nothing but the arguments
abbrev pub UnifiedReads : Type 0
UnifiedReads = Steadily (λ c kept at n r. (i j : ℕ) (rs : List ℕ) → UnifiesAt kept r i j (clash rs) ⊎ UnifiesAt kept r i j (stop rs)
    → (a : ℕ) → IsIn a rs → a < 4000000000 → SawOpen kept r a)

abbrev pub SteadyClash : Type 0
SteadyClash = Steadily (λ c kept at n r. (i j : ℕ) (rs waits : List ℕ) → slice_get c.ops at ≡ Some (Unify i j)
    → UnifiesAt kept r i j (clash rs) → AreNoted r.waits rs waits → IsSafe kept (left r r.behind waits c.words) no_tops 0
    → IsBetween c kept r.next (left r r.behind waits c.words))

abbrev pub SteadyPause : Type 0
SteadyPause = Steadily (λ c kept at n r. (i j : ℕ) (rs waits : List ℕ) → slice_get c.ops at ≡ Some (Unify i j)
    → UnifiesAt kept r i j (stop rs) → AreNoted r.waits rs waits → IsSafe kept (left r false waits c.words) no_tops 0
    → IsBetween c kept r.next (left r false waits c.words))
