-- The places of a clause's variables, one after another.
use Rattle.std.proofs.Common.{◌≡◌, ℕ, zero, suc, ◌+◌, ◌*◌, ◌<◌, ◌≤◌, List, length, refl, sym, ap, subst, inl, inr, arith}
use Rattle.fcp_model.specs.Places.{own}
use Rattle.word_states.specs.Denoting.{Listed}
use Rattle.word_states.specs.Pieces.{place_words, numbered}
use Rattle.trial_laws.specs.Laws.{places_for}
use Rattle.steady_tries.specs.Places.{PlaceListed}

pub places_many : (n b : ℕ) → length (place_words b (places_for n)) ≡ n
places_many zero b = refl
places_many (suc n) b = ap suc (places_many n (b + 2))

-- the k-th of them
place_numbered : (n b j k : ℕ) → k < n → Listed (numbered j (place_words b (places_for n))) (own (j + k)) (b + 1 + 2 * k)
place_numbered zero b j k l = absurd (omega (arith, l))
place_numbered (suc n) b j zero l =
    let e : j ≡ j + 0 = omega arith in
    let f : suc b ≡ b + 1 + 2 * 0 = omega arith in
    subst (λ m. Listed (numbered j (place_words b (places_for (suc n)))) (own m) (b + 1 + 2 * 0)) e
    (subst (λ m. Listed (numbered j (place_words b (places_for (suc n)))) (own j) m) f (inl refl))
place_numbered (suc n) b j (suc k) l =
    let e : suc j + k ≡ j + suc k = omega arith in
    let f : b + 2 + 1 + 2 * k ≡ b + 1 + 2 * suc k = omega arith in
    inr (subst (λ m. Listed (numbered (suc j) (place_words (b + 2) (places_for n))) (own m) (b + 1 + 2 * suc k)) e
    (subst (λ m. Listed (numbered (suc j) (place_words (b + 2) (places_for n))) (own (suc j + k)) m) f
    (place_numbered n (b + 2) (suc j) k (omega (arith, l)))))

-- of a clause of n variables
pub place_listed : (n k : ℕ) → 0 < k → k ≤ n → Listed (numbered 1 (place_words 4000000000 (places_for n))) (own k) (3999999999 + 2 * k)
place_listed n zero l u = absurd (omega (arith, l))
place_listed n (suc k) l u =
    let e : 1 + k ≡ suc k = omega arith in
    let f : 4000000000 + 1 + 2 * k ≡ 3999999999 + 2 * suc k = omega arith in
    subst (λ m. Listed (numbered 1 (place_words 4000000000 (places_for n))) (own m) (3999999999 + 2 * suc k)) e
    (subst (λ m. Listed (numbered 1 (place_words 4000000000 (places_for n))) (own (1 + k)) m) f
    (place_numbered n 4000000000 1 k (omega (arith, u))))

pub place_steady : PlaceListed
place_steady c kept at n r course h k l u =
    subst (λ ws. Listed (numbered 1 ws) (own k) (3999999999 + 2 * k)) (sym h.places) (place_listed (c.vars r.clause) k l u)
