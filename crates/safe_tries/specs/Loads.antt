-- The laws of the instructions that load: opening a value, unification, tests, and of where a try begins and ends.
use Rattle.std.specs.Prelude.{◌≡◌, ℕ, ◌+◌, ◌<◌, ◌≤◌, max, false, List, [], ◌∷◌, Some}
use Rattle.heap_words.specs.Trails.{WordList, AreOnce, word_at}
use Rattle.ro_unify.specs.declared.look.Look.{Look}
use Rattle.ro_unify.specs.Unify.{Unifies, Ended, done, clash, stop}
use Rattle.ro_unify.specs.Occurs.{words_after}
use Rattle.ro_unify.specs.Walks.{Tame, IsSeen}
use Rattle.word_states.specs.Words.{IsIn}
use Rattle.machine_code.specs.Fresh.{topped, all_topped}
use Rattle.trial_laws.specs.AtHand.{AtHand, term_word, end_of}
use Rattle.trial_laws.specs.Laws.{holding}
use Rattle.trial_laws.specs.Opening.{pair_at, tuple_at, holding_all, LookAt}
use Rattle.trial_laws.specs.Leading.{IsTermWord}
use Rattle.safe_tries.specs.Safe.{IsSafe, Safely, StayLow, SawOpen, seen, own_words}

-- More was kept, and walks still end. What was kept before is listed once.
pub record Kept (kept : WordList) (r : AtHand) (kept' : WordList) : Type 0 where
  pub once : AreOnce kept
  pub grows : (a x : ℕ) → word_at kept a ≡ Some x → word_at kept' a ≡ Some x
  pub below : (a x : ℕ) → word_at kept' a ≡ Some x → a < 4000000000
  pub low : StayLow (word_at kept')
  pub tame : Tame r.binds kept' (own_words r.pieces) (end_of 4000000000 r.pieces)

-- what was safe is safe over what was kept besides
abbrev pub SafeMore : Type 0
SafeMore = Safely (λ kept r τ released. (kept' : WordList) → Kept kept r kept' → IsSafe kept' r τ released)

-- a slot's value is a pair, whose parts were seen and are words of terms: they go into slots
abbrev pub SafePairOpened : Type 0
SafePairOpened = Safely (λ kept r τ released. (i left right c : ℕ) (l : Look) → LookAt r (seen kept r) i l → pair_at l ≡ Some c
    → IsSeen kept (own_words r.pieces) c → IsSeen kept (own_words r.pieces) (c + 1)
    → IsTermWord (seen kept r c) → IsTermWord (seen kept r (c + 1))
    → IsSafe kept (holding (holding r left (seen kept r c) false) right (seen kept r (c + 1)) false)
    (topped (topped τ left (τ i)) right (τ i)) released)

-- each word of a list is one that a term may have
abbrev pub AreTermWords : List ℕ → Type 0
AreTermWords [] = Unit {0}
AreTermWords (x ∷ xs) = IsTermWord x × AreTermWords xs

-- and so a tuple's, of fewer than 66 parts
abbrev pub SafeTupleOpened : Type 0
SafeTupleOpened = Safely (λ kept r τ released. (i from n c : ℕ) (l : Look) → n < 66 → LookAt r (seen kept r) i l
    → tuple_at (seen kept r) n l ≡ Some c → ((b : ℕ) → c < b → b ≤ c + n → IsSeen kept (own_words r.pieces) b)
    → AreTermWords (words_after (seen kept r) c n)
    → IsSafe kept (holding_all r from (words_after (seen kept r) c n)) (all_topped τ from n (τ i)) released)

-- two slots were unified: all that a walk from them comes to is released
abbrev pub SafeUnified : Type 0
SafeUnified = Safely (λ kept r τ released. (i j : ℕ) (bs : WordList) (rs : List ℕ)
    → Unifies (seen kept r) r.binds r.reads ((term_word r i, term_word r j) ∷ []) (done bs rs)
    → Tame bs kept (own_words r.pieces) (end_of 4000000000 r.pieces)
    → IsSafe kept (record r { binds = bs; reads = rs }) τ (max released (max (τ i) (τ j))))

-- the reads with which it ends
abbrev pub reads_at : Ended → List ℕ
reads_at (done bs rs) = rs
reads_at (clash rs) = rs
reads_at (stop rs) = rs

-- and each of the store's places that it read was unbound, however it ends
abbrev pub UnificationReads : Type 0
UnificationReads = Safely (λ kept r τ released. (i j : ℕ) (e : Ended)
    → Unifies (seen kept r) r.binds r.reads ((term_word r i, term_word r j) ∷ []) e → (a : ℕ) → IsIn a (reads_at e) → a < 4000000000
    → SawOpen kept r a)
