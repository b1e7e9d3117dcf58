-- The laws of the unification of two slots, by how it ends on words.
use Rattle.std.specs.Prelude.{◌≡◌, ℕ, suc, false, List, [], ◌∷◌, Some, slice_get}
use Rattle.heap_words.specs.Trails.{WordList}
use Rattle.ro_unify.specs.Unify.{Unifies, Ended, done, clash, stop}
use Rattle.word_states.specs.Words.{Words}
use Rattle.word_states.specs.Pieces.{with_own}
use Rattle.unify_terms.specs.WordsOfTries.{memory_of}
use Rattle.machine_code.specs.Instructions.{Unify}
use Rattle.trial_laws.specs.AtHand.{AtHand, term_word, Leads}
use Rattle.trial_laws.specs.Laws.{Always, AreArguments, AreNoted, left}

-- over the words of the store and of the try the unification of two slots ends so
abbrev pub UnifiesSlots : AtHand → Words → ℕ → ℕ → Ended → Type 0
UnifiesSlots r w i j e = Unifies (memory_of (with_own r.pieces w)) r.binds r.reads ((term_word r i, term_word r j) ∷ []) e

-- it is done: the try goes on with its bindings and reads
abbrev pub LawOfUnify : Type 0
LawOfUnify = Always (λ w vs bound ops args at r t. (i j : ℕ) (bs : WordList) (rs : List ℕ) → slice_get ops at ≡ Some (Unify i j)
    → UnifiesSlots r w i j (done bs rs) → Leads w vs bound ops args at t (suc at) (record r { binds = bs; reads = rs }))

-- it clashes: the try is left, and that it failed changes nothing of whether all tries did
abbrev pub LawOfClash : Type 0
LawOfClash = Always (λ w vs bound ops args at r t. (i j : ℕ) (rs waits : List ℕ) (words : ℕ → ℕ) → slice_get ops at ≡ Some (Unify i j)
    → UnifiesSlots r w i j (clash rs) → AreNoted r.waits rs waits → AreArguments w vs args words
    → Leads w vs bound ops args at t r.next (left r r.behind waits words))

-- it waits: the try is left, and not all tries failed
abbrev pub LawOfPause : Type 0
LawOfPause = Always (λ w vs bound ops args at r t. (i j : ℕ) (rs waits : List ℕ) (words : ℕ → ℕ) → slice_get ops at ≡ Some (Unify i j)
    → UnifiesSlots r w i j (stop rs) → AreNoted r.waits rs waits → AreArguments w vs args words
    → Leads w vs bound ops args at t r.next (left r false waits words))
