-- Numbers rise in each seat that took in no other.
use Rattle.std.specs.Prelude.{ℕ, ◌<◌, ◌≤◌, List, [], ◌∷◌}
use Rattle.word_commit.specs.declared.quota.Quota.{Quota}
use Rattle.word_commit.specs.declared.view.View.{View}
use Rattle.word_commit.specs.declared.view.Given.{Given}
use Rattle.word_commit.specs.Meanings.{Meaning, Among}
use Rattle.word_commit.specs.Views.{first_view, loaded, took, gave, primed, all_published, clocked, stamped, shared, part}
use Rattle.word_commit.specs.Kept.{numbers_of}

-- each is below all that come after it
abbrev pub Rise : List ℕ → Type 0
Rise [] = Unit {0}
Rise (n ∷ ns) = ((k : ℕ) → Among ns k → n < k) × Rise ns

-- the numbers of its entries rise, and none is above its front
abbrev pub IsRising : {E : Type 0} → View E → Type 0
IsRising v = Rise (numbers_of v.entries) × ((n : ℕ) → Among (numbers_of v.entries) n → n ≤ v.front)

module _ {E : Type 0} (m : Meaning E) where
  -- It is so of new seats, and each call keeps it, but `join`.
  pub record RisingLaws : Type 0 where
    pub first : (g : Given) → IsRising (first_view {E = E} g)
    pub second : (v : View E) (q : Quota) → IsRising (part v q)
    pub share : (v : View E) (q : Quota) → IsRising v → IsRising (shared v q)
    pub load : (v : View E) (a x : ℕ) → IsRising v → IsRising (loaded m v a x)
    pub take : (v : View E) (p x : ℕ) → IsRising v → IsRising (took v p x)
    pub give : (v : View E) (p : ℕ) → IsRising v → IsRising (gave v p)
    pub prime : (v : View E) (a x : ℕ) → IsRising v → IsRising (primed v a x)
    pub publish : (v : View E) (l : List (ℕ × ℕ)) → IsRising v → IsRising (all_published v l)
    -- of these two the number is above the front, and the clock is not below it, as the calls say
    pub stamp : (v : View E) (e : E) (n : ℕ) → v.front < n → IsRising v → IsRising (stamped m v e n)
    pub clock : (v : View E) (n : ℕ) → v.front ≤ n → IsRising v → IsRising (clocked v n)
