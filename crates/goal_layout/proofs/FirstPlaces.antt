-- The places of a goal, and where they are.
use Rattle.std.proofs.Common.{◌≡◌, ℕ, zero, suc, ◌+◌, ◌*◌, ◌<◌, ◌≤◌, ◌∷◌, map, refl, sym, ap, arith, inl, inr}
use Rattle.fcp_model.specs.Places.{Variable, made, place, placed}
use Rattle.fcp_model.specs.States.{count_up}
use Rattle.word_states.specs.Denoting.{Listed}

-- a listed place has a number, and its address is twice that
pub listed_number : (from n : ℕ) (v : Variable) (a : ℕ) → Listed (map (λ k. (placed 0 k, 2 * k)) (count_up from n)) v a
    → (k : ℕ) × (from ≤ k) × (k < from + n) × (v ≡ placed 0 k) × (a ≡ 2 * k)
listed_number from zero v a h = absurd h
listed_number from (suc n) v a (inl e) = (from, omega arith, omega arith, ap (λ b. b.0) (sym e), ap (λ b. b.1) (sym e))
listed_number from (suc n) v a (inr h) =
    let r = listed_number (suc from) n v a h in
    let lo = r.1 in
    let hi = r.2 in
    (r.0, omega (arith, lo), omega (arith, hi), r.3, r.4)

pub place_names : (from n : ℕ)
    → map (λ (b : Variable × ℕ). b.0) (map (λ k. (placed 0 k, 2 * k)) (count_up from n)) ≡ map made (map (place 0) (count_up from n))
place_names from zero = refl
place_names from (suc n) = ap (λ vs. placed 0 from ∷ vs) (place_names (suc from) n)
