-- The comparison of words by `==`. It is said of all words, also of such as stand for no term.
use Rattle.std.specs.Prelude.{◌≡◌, ℕ, false, List, [], ◌∷◌, ◌++◌, Option, Some, None, if◌then◌else◌, nat_eq}
use Rattle.heap_words.specs.Trails.{WordList, Memory}
use Rattle.ro_unify.specs.declared.look.Look.{Look}
use Rattle.ro_unify.specs.declared.look.Look.TheVariants.{Solid}
use Rattle.ro_unify.specs.Value.{Values}
use Rattle.ro_unify.specs.Occurs.{open_of}
use Rattle.ro_unify.specs.Alike.{alike}
use Rattle.ro_unify.specs.Unify.{look_reads}
use Rattle.guard_tests.specs.declared.equality.Tested.{Tested}
use Rattle.guard_tests.specs.declared.equality.Tested.TheVariants.{Holds, Not, Wait}

-- what two words come to: the pairs of their parts are to be equal, they differ, or one of them is unbound
pub data Comparison : Type 0 where
  parts : List (ℕ × ℕ) → Comparison
  differ : Comparison
  waits : Comparison

-- two unbound places are equal where they are one, whatever their marks; an unbound place and anything else wait
abbrev pub same_place : Option ℕ → Option ℕ → Comparison
same_place (Some p) (Some q) = if nat_eq p q then parts [] else waits
same_place _ _ = waits

-- two words that are no places, by the pairs of their parts
abbrev pub by_parts : Option (List (ℕ × ℕ)) → Comparison
by_parts None = differ
by_parts (Some qs) = parts qs

-- two values
abbrev pub compared : Memory → Look → Look → Comparison
compared m (Solid x) (Solid y) = by_parts (alike m x y)
compared m l r = same_place (open_of l) (open_of r)

-- One pair: the values of both sides, which are read from the left, and what they come to.
pub record Compares (bs : WordList) (m : Memory) (rs : List ℕ) (p : ℕ × ℕ) (c : Comparison) (rs' : List ℕ) : Type 0 where
  pub left : Look
  pub right : Look
  pub left_is : Values bs m false p.0 left
  pub right_is : Values bs m false p.1 right
  pub come : compared m left right ≡ c
  pub read : rs' ≡ (rs ++ look_reads left) ++ look_reads right

-- Pairs from the left: the parts of a pair come before the others, and the first difference or wait ends it.
pub data Equals (bs : WordList) (m : Memory) : List ℕ → List (ℕ × ℕ) → Tested → List ℕ → Type 0 where
  all : (rs : List ℕ) → Equals bs m rs [] Holds rs
  on : (rs : List ℕ) (p : ℕ × ℕ) (ps qs : List (ℕ × ℕ)) (rs1 : List ℕ) (t : Tested) (rs' : List ℕ) → Compares bs m rs p (parts qs) rs1
      → Equals bs m rs1 (qs ++ ps) t rs' → Equals bs m rs (p ∷ ps) t rs'
  unlike : (rs : List ℕ) (p : ℕ × ℕ) (ps : List (ℕ × ℕ)) (rs' : List ℕ) → Compares bs m rs p differ rs' → Equals bs m rs (p ∷ ps) Not rs'
  stopped : (rs : List ℕ) (p : ℕ × ℕ) (ps : List (ℕ × ℕ)) (rs' : List ℕ) → Compares bs m rs p waits rs' → Equals bs m rs (p ∷ ps) Wait rs'

-- what an answer says of a comparison in front of other pairs: where it holds, the pairs of parts come before them
abbrev pub Leaves : Comparison → List (ℕ × ℕ) → Tested → List (ℕ × ℕ) → Type 0
Leaves c ps Holds ps' = (qs : List (ℕ × ℕ)) × (c ≡ parts qs) × (ps' ≡ qs ++ ps)
Leaves c ps Not ps' = c ≡ differ
Leaves c ps Wait ps' = c ≡ waits

-- a pair in front of others was compared
pub record WasCompared (bs : WordList) (m : Memory) (rs : List ℕ) (p : ℕ × ℕ) (ps : List (ℕ × ℕ)) (t : Tested) (rs' : List ℕ)
    (ps' : List (ℕ × ℕ)) : Type 0 where
  pub comparison : Comparison
  pub compares : Compares bs m rs p comparison rs'
  pub leaves : Leaves comparison ps t ps'
