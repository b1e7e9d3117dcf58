-- Instructions that stand in code, and one step of them.
use Rattle.std.proofs.Common.{◌≡◌, ℕ, suc, ◌+◌, ◌<◌, List, [], ◌∷◌, ◌++◌, length, Option, Some, refl, ap, ◌∙◌, subst, append_assoc, length-append, arith}
use Rattle.std.specs.Prelude.{slice_get}
use Rattle.std.proofs.Math.Seq.{get_or-append_seam}
use Rattle.std.proofs.lemmas.Option.{slice_get-get_or}
use Rattle.fcp_model.specs.Places.{Variable}
use Rattle.fcp_model.specs.Terms.{Term, Bindings}
use Rattle.machine_code.specs.Instructions.{Op}
use Rattle.machine_code.specs.Machine.{Trying, Meaning, obey, follow}
use Rattle.machine_code.proofs.Same.{Same, one_step}

-- the instructions stand in the code from a position on
abbrev pub HasAt : List Op → ℕ → List Op → Type 0
HasAt code at [] = Unit {0}
HasAt code at (i ∷ is) = (slice_get code at ≡ Some i) × HasAt code (suc at) is

pub has_front : (code : List Op) (at : ℕ) (xs ys : List Op) → HasAt code at (xs ++ ys) → HasAt code at xs
has_front code at [] ys h = tt
has_front code at (i ∷ xs) ys h = (h.0, has_front code (suc at) xs ys h.1)

pub has_back : (code : List Op) (at : ℕ) (xs ys : List Op) → HasAt code at (xs ++ ys) → HasAt code (at + length xs) ys
has_back code at [] ys h = let e : at ≡ at + 0 = omega arith in subst (λ n. HasAt code n ys) e h
has_back code at (i ∷ xs) ys h =
    let e : suc at + length xs ≡ at + length (i ∷ xs) = omega arith in
    subst (λ n. HasAt code n ys) e (has_back code (suc at) xs ys h.1)

-- a list stands in itself, after what is before it
pub has_all : (is pre : List Op) → HasAt (pre ++ is) (length pre) is
has_all [] pre = tt
has_all (i ∷ is) pre =
    let within : length pre < length (pre ++ i ∷ is) = omega (arith, length-append pre (i ∷ is)) in
    let here = slice_get-get_or (pre ++ i ∷ is) (length pre) i within ∙ ap Some (get_or-append_seam pre i is i) in
    let n : length (pre ++ i ∷ []) ≡ suc (length pre) = omega (arith, length-append pre (i ∷ [])) in
    let rest = has_all is (pre ++ i ∷ []) in
    let rest' = subst (λ l. HasAt l (length (pre ++ i ∷ [])) is) (append_assoc pre (i ∷ []) is) rest in
    (here, subst (λ m. HasAt (pre ++ i ∷ is) m is) n rest')

module _ (s : Bindings) (code : List Op) (args : List (Term Variable)) where
  -- what the code gives from a position on, by the number of steps
  abbrev pub From : ℕ → Trying → ℕ → Option Meaning
  From at m n = follow n s code args at m

  -- one instruction
  pub obeyed : (at : ℕ) (m : Trying) (i : Op) → slice_get code at ≡ Some i
      → Same (From at m) (λ n. obey (follow n s code args) n s args at m (Some i))
  obeyed at m i e =
      one_step (From at m) (λ n. obey (follow n s code args) n s args at m (Some i)) refl
      (λ n. ap (λ o. obey (follow n s code args) n s args at m o) e)
