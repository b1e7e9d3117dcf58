-- Work lists and the words of parts.
use Rattle.std.proofs.Common.{◌≡◌, ℕ, suc, ◌+◌, ◌-◌, ◌<◌, ◌≤◌, List, [], ◌∷◌, ◌++◌, sym, ap, ◌∙◌, subst, arith}
use Rattle.std.specs.Prelude.{reverse}
use Rattle.std.proofs.lemmas.List.{reverse-append}
use Rattle.heap_words.specs.Trails.{Memory}
use Rattle.ro_unify.specs.Occurs.{stack, words_after, Each}
use Rattle.ro_unify.specs.Alike.{pairs_after}

pub stack-push : {A : Type 0} (xs : List A) (x : A) → reverse (xs ++ x ∷ []) ≡ x ∷ reverse xs
stack-push xs x = reverse-append xs (x ∷ [])

words_next : (m : Memory) (a n : ℕ) (w : ℕ) → m (a + 1) ≡ w → words_after m a (suc n) ≡ w ∷ words_after m (a + 1) n
words_next m a n w e = ap (λ x. x ∷ words_after m (a + 1) n) e

-- one word more in front
pub words_before : (m : Memory) (a left n w : ℕ) → 0 < left → left ≤ n → m (a + left) ≡ w
    → words_after m (a + (left - 1)) (n - (left - 1)) ≡ w ∷ words_after m (a + left) (n - left)
words_before m a left n w h i e =
    let j : a + (left - 1) + 1 ≡ a + left = omega arith in
    let k : n - (left - 1) ≡ suc (n - left) = omega arith in
    ap (words_after m (a + (left - 1))) k ∙
    (words_next m (a + (left - 1)) (n - left) w (ap m j ∙ e) ∙ ap (λ b. w ∷ words_after m b (n - left)) j)

pub none_after : (m : Memory) (a n : ℕ) → words_after m (a + n) (n - n) ≡ []
none_after m a n = let k : n - n ≡ 0 = omega arith in ap (words_after m (a + n)) k

pub Each-more : {A : Type 0} (P Q : A → Type 0) (xs : List A) → ((x : A) → P x → Q x) → Each P xs → Each Q xs
Each-more P Q [] f h = tt
Each-more P Q (x ∷ xs) f h = (f x h.0, Each-more P Q xs f h.1)

-- the next word is pushed
pub pushed : {A : Type 0} (old new : List A) (w : A) (ws rest : List A) → new ≡ old ++ w ∷ [] → stack old ≡ ws ++ rest
    → stack new ≡ (w ∷ ws) ++ rest
pushed old new w ws rest e f = ap stack e ∙ (stack-push old w ∙ ap (λ x. w ∷ x) f)

pub each_pushed : {A : Type 0} (P : A → Type 0) (old new : List A) (w : A) → new ≡ old ++ w ∷ [] → P w → Each P (stack old)
    → Each P (stack new)
each_pushed P old new w e p h = subst (Each P) (sym (ap stack e ∙ stack-push old w)) (p, h)

-- one pair more in front
pub pairs_before : (m : Memory) (a b left n x y : ℕ) → 0 < left → left ≤ n → m (a + left) ≡ x → m (b + left) ≡ y
    → pairs_after m (a + (left - 1)) (b + (left - 1)) (n - (left - 1)) ≡ (x, y) ∷ pairs_after m (a + left) (b + left) (n - left)
pairs_before m a b left n x y h i e f =
    let j : a + (left - 1) + 1 ≡ a + left = omega arith in
    let j' : b + (left - 1) + 1 ≡ b + left = omega arith in
    let k : n - (left - 1) ≡ suc (n - left) = omega arith in
    ap (pairs_after m (a + (left - 1)) (b + (left - 1))) k
    ∙ (ap (λ (c : ℕ). (m c, m (b + (left - 1) + 1)) ∷ pairs_after m c (b + (left - 1) + 1) (n - left)) j
    ∙ (ap (λ (c : ℕ). (m (a + left), m c) ∷ pairs_after m (a + left) c (n - left)) j'
    ∙ (ap (λ (z : ℕ). (z, m (b + left)) ∷ pairs_after m (a + left) (b + left) (n - left)) e
    ∙ ap (λ (z : ℕ). (x, z) ∷ pairs_after m (a + left) (b + left) (n - left)) f)))
