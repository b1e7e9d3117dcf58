-- Fresh first occurrences: one instruction, and tops that were set.
use Rattle.std.proofs.Common.{◌≡◌, ℕ, zero, suc, ◌+◌, ◌<◌, ◌≤◌, Bool, true, false, cond, List, length, Some, refl, sym, ap, ◌∙◌, subst, arith}
use Rattle.std.specs.Prelude.{slice_get, nat_eq}
use Rattle.std.proofs.lemmas.Bool.{eq-eqb, ne_eqb, eqb-true, eqb-false}
use Rattle.std.proofs.lemmas.Option.{slice_get_past}
use Rattle.machine_code.specs.Instructions.{Op}
use Rattle.machine_code.specs.Fresh.{Tops, topped, all_topped, FreshAt, FreshFor, IsFresh}

-- an instruction, whatever may be so of those that come next
pub fresh_at : (code : List Op) (at : ℕ) (τ : Tops) (r : ℕ) (o : Op) → slice_get code at ≡ Some o
    → ((n : ℕ) → FreshAt (FreshFor code n) at τ r (Some o)) → IsFresh code at τ r
fresh_at code at τ r o e h zero = tt
fresh_at code at τ r o e h (suc n) = subst (λ x. FreshAt (FreshFor code n) at τ r x) (sym e) (h n)

-- what is so at an instruction
pub fresh_here : (code : List Op) (at : ℕ) (τ : Tops) (r : ℕ) (o : Op) → slice_get code at ≡ Some o → IsFresh code at τ r
    → (n : ℕ) → FreshAt (FreshFor code n) at τ r (Some o)
fresh_here code at τ r o e h n = subst (λ x. FreshAt (FreshFor code n) at τ r x) e (h (suc n))

-- past the code nothing is asked
pub fresh_past : (code : List Op) (at : ℕ) (τ : Tops) (r : ℕ) → length code ≤ at → IsFresh code at τ r
fresh_past code at τ r h zero = tt
fresh_past code at τ r h (suc n) = subst (λ x. FreshAt (FreshFor code n) at τ r x) (sym (slice_get_past code at h)) tt

pub top_here : (τ : Tops) (i k : ℕ) → topped τ i k i ≡ k
top_here τ i k = ap (λ b. cond b k (τ i)) (eq-eqb i i refl)

pub top_other : (τ : Tops) (i j k : ℕ) → (j ≡ i → ⊥) → topped τ i k j ≡ τ j
top_other τ i j k h = ap (λ b. cond b k (τ j)) (ne_eqb j i h)

pub all_tops_other : (n : ℕ) (τ : Tops) (i j k : ℕ) → j < i → all_topped τ i n k j ≡ τ j
all_tops_other zero τ i j k h = refl
all_tops_other (suc n) τ i j k h =
    all_tops_other n (topped τ i k) (suc i) j k (omega (arith, h)) ∙ top_other τ i j k (λ e. omega (arith, h, e))

pub all_tops_here : (n : ℕ) (τ : Tops) (i j k : ℕ) → i ≤ j → j < i + n → all_topped τ i n k j ≡ k
all_tops_here zero τ i j k lo hi = absurd (omega (arith, lo, hi))
all_tops_here (suc n) τ i j k lo hi =
    by (nat_eq j i) refl (λ up. all_tops_here n (topped τ i k) (suc i) j k up (omega (arith, hi)))
  where
    by : (b : Bool) → nat_eq j i ≡ b → (suc i ≤ j → all_topped (topped τ i k) (suc i) n k j ≡ k)
        → all_topped (topped τ i k) (suc i) n k j ≡ k
    by true e later =
        let z : j ≡ i = eqb-true j i e in
        all_tops_other n (topped τ i k) (suc i) j k (omega (arith, z)) ∙ ap (λ b. cond b k (τ j)) e
    by false e later = let ne : j ≡ i → ⊥ = eqb-false j i e in later (omega (arith, lo, ne))
