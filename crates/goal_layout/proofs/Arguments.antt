-- Words one after another that denote terms.
use Rattle.std.proofs.Common.{◌≡◌, ℕ, suc, ◌+◌, List, [], ◌∷◌, ◌++◌, length, map, Some, refl, ap, subst, arith}
use Rattle.fcp_model.specs.Places.{Variable}
use Rattle.fcp_model.specs.Terms.{Term, more, rename, renames}
use Rattle.fcp_model.specs.Translation.{terms_of}
use Rattle.word_states.specs.Words.{Words}
use Rattle.word_states.specs.Numbers.{part_count}
use Rattle.word_states.specs.Denoting.{Addresses, Denotes, DenotesAll, Arguments}

-- one word more
pub arguments_more : (w : Words) (vs : Addresses) (a : ℕ) (ts : List (Term Variable)) (y : ℕ) (t : Term Variable) → Arguments w vs a ts
    → w (a + length ts) ≡ Some y → Denotes w vs y t → Arguments w vs a (ts ++ t ∷ [])
arguments_more w vs a [] y t h e d = (y, subst (λ k. w k ≡ Some y) (omega arith) e, d, tt)
arguments_more w vs a (u ∷ ts) y t h e d =
    (h.0, h.1, h.2, arguments_more w vs (suc a) ts y t h.3 (subst (λ k. w k ≡ Some y) (omega arith) e) d)

-- the parts of a tuple
pub parts_said : (w : Words) (vs : Addresses) (a : ℕ) (ts : List (Term Variable)) → Arguments w vs a ts → DenotesAll w vs a (terms_of ts)
parts_said w vs a [] h = tt
parts_said w vs a (t ∷ ts) h = (h.0, h.1, h.2, parts_said w vs (suc a) ts h.3)

pub renames_terms : {V W : Type 0} (f : V → W) (ts : List (Term V)) → renames f (terms_of ts) ≡ terms_of (map (rename f) ts)
renames_terms f [] = refl
renames_terms f (t ∷ ts) = ap (more (rename f t)) (renames_terms f ts)

pub count_of : {V : Type 0} (ts : List (Term V)) → part_count (terms_of ts) ≡ length ts
count_of [] = refl
count_of (t ∷ ts) = ap suc (count_of ts)
