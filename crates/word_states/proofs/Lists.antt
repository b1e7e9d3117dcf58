-- Lists of words, of addresses and of variables.
use Rattle.std.proofs.Common.{◌≡◌, ◌⊎◌, ℕ, zero, suc, ◌+◌, ◌<◌, ◌≤◌, Bool, true, false, cond, List, [], ◌∷◌, ◌++◌, length, refl, sym, ap}
use Rattle.std.proofs.Common.{◌∙◌, subst, ⊎_elim, inl, inr, arith, true≢false, Some, None}
use Rattle.std.specs.Prelude.{slice_get, nat_eq}
use Rattle.std.proofs.lemmas.Bool.{cond-false, eq-eqb, eqb-true, ne_eqb, cond-true}
use Rattle.std.proofs.lemmas.Option.{same_Some}
use Rattle.fcp_model.specs.Places.{Variable}
use Rattle.heap_words.specs.Trails.{WordList, word_at}
use Rattle.word_states.specs.Words.{addresses_of, Among, first_of, row, IsIn, AreApart}
use Rattle.word_states.specs.Denoting.{Addresses, Listed}

pub among_left : (xs ys : WordList) (z : ℕ × ℕ) → Among xs z → Among (xs ++ ys) z
among_left [] ys z h = absurd h
among_left (x ∷ xs) ys z (inl e) = inl e
among_left (x ∷ xs) ys z (inr h) = inr (among_left xs ys z h)

pub among_right : (xs ys : WordList) (z : ℕ × ℕ) → Among ys z → Among (xs ++ ys) z
among_right [] ys z h = h
among_right (x ∷ xs) ys z h = inr (among_right xs ys z h)

pub among_either : (xs ys : WordList) (z : ℕ × ℕ) → Among (xs ++ ys) z → Among xs z ⊎ Among ys z
among_either [] ys z h = inr h
among_either (x ∷ xs) ys z (inl e) = inl (inl e)
among_either (x ∷ xs) ys z (inr h) = ⊎_elim (λ (t : Among xs z). inl (inr t)) (λ (t : Among ys z). inr t) (among_either xs ys z h)

pub word_among : (xs : WordList) (a x : ℕ) → word_at xs a ≡ Some x → Among xs (a, x)
word_among [] a x e = cc
word_among (y ∷ ys) a x e = go (nat_eq a y.0) refl e (λ f. word_among ys a x f)
  where
    go : (t : Bool) → nat_eq a y.0 ≡ t → cond t (Some y.1) (word_at ys a) ≡ Some x → (word_at ys a ≡ Some x → Among ys (a, x))
        → (y ≡ (a, x)) ⊎ Among ys (a, x)
    go true i f g = inl (let h : a ≡ y.0 = eqb-true a y.0 i in let k : y.1 ≡ x = same_Some y.1 x f in λ j. (sym h j, k j))
    go false i f g = inr (g f)

-- what stands in a list has a word there
pub among_word : (xs : WordList) (a x : ℕ) → Among xs (a, x) → (y : ℕ) × (word_at xs a ≡ Some y)
among_word [] a x h = absurd h
among_word (y ∷ ys) a x h = go (nat_eq a y.0) refl h (λ k. among_word ys a x k)
  where
    go : (t : Bool) → nat_eq a y.0 ≡ t → (y ≡ (a, x)) ⊎ Among ys (a, x) → (Among ys (a, x) → (z : ℕ) × (word_at ys a ≡ Some z)) → (z : ℕ)
        × (cond t (Some y.1) (word_at ys a) ≡ Some z)
    go true i k f = (y.1, refl)
    go false i (inl k) f = absurd (true≢false (sym (eq-eqb a y.0 (ap (λ (z : ℕ × ℕ). z.0) (sym k))) ∙ i))
    go false i (inr k) f = f k

-- and where no address stands twice, it is that word
pub apart_word : (xs : WordList) (a x : ℕ) → AreApart xs → Among xs (a, x) → word_at xs a ≡ Some x
apart_word [] a x p h = absurd h
apart_word (y ∷ ys) a x p h = go (nat_eq a y.0) refl h (λ k. apart_word ys a x p.1 k)
  where
    go : (t : Bool) → nat_eq a y.0 ≡ t → (y ≡ (a, x)) ⊎ Among ys (a, x) → (Among ys (a, x) → word_at ys a ≡ Some x)
        → cond t (Some y.1) (word_at ys a) ≡ Some x
    go true i (inl k) f = ap (λ (z : ℕ × ℕ). Some z.1) k
    go true i (inr k) f = absurd (p.0 x (subst (λ (b : ℕ). Among ys (b, x)) (eqb-true a y.0 i) k))
    go false i (inl k) f = absurd (true≢false (sym (eq-eqb a y.0 (ap (λ (z : ℕ × ℕ). z.0) (sym k))) ∙ i))
    go false i (inr k) f = f k

-- words of lists one after another
pub word_at-append : (xs ys : WordList) (a : ℕ) → word_at (xs ++ ys) a ≡ first_of (word_at xs a) (word_at ys a)
word_at-append [] ys a = refl
word_at-append (x ∷ xs) ys a = go (nat_eq a x.0) (word_at-append xs ys a)
  where
    go : (t : Bool) → word_at (xs ++ ys) a ≡ first_of (word_at xs a) (word_at ys a)
        → cond t (Some x.1) (word_at (xs ++ ys) a) ≡ first_of (cond t (Some x.1) (word_at xs a)) (word_at ys a)
    go true e = refl
    go false e = e

pub in_row : (a c x : ℕ) (xs : List ℕ) → word_at (row a xs) c ≡ Some x → (d : ℕ) × (d < length xs) × (c ≡ a + d) × (slice_get xs d ≡ Some x)
in_row a c x [] e = let h : None ≡ Some x = e in cc
in_row a c x (y ∷ ys) e = go (nat_eq c a) refl e (λ f. in_row (suc a) c x ys f)
  where
    go : (t : Bool) → nat_eq c a ≡ t → cond t (Some y) (word_at (row (suc a) ys) c) ≡ Some x
        → (word_at (row (suc a) ys) c ≡ Some x → (d : ℕ) × (d < length ys) × (c ≡ suc a + d) × (slice_get ys d ≡ Some x))
        → (d : ℕ) × (d < length (y ∷ ys)) × (c ≡ a + d) × (slice_get (y ∷ ys) d ≡ Some x)
    go true i f g = (0, omega arith, (let h : c ≡ a = eqb-true c a i in omega arith), f)
    go false i f g = let r = g f in let h = r.1 in let j = r.2 in (suc r.0, (omega arith), (omega arith), r.3)

pub row_none : (a c : ℕ) (xs : List ℕ) → (c < a) ⊎ (a + length xs ≤ c) → word_at (row a xs) c ≡ None
row_none a c [] h = refl
row_none a c (y ∷ ys) h = cond-false _ _ _ (ne_eqb c a (λ e. apart h e)) ∙ row_none (suc a) c ys (next h)
  where
    apart : (c < a) ⊎ (a + suc (length ys) ≤ c) → c ≡ a → ⊥
    apart (inl l) e = omega arith
    apart (inr l) e = omega arith

    next : (c < a) ⊎ (a + suc (length ys) ≤ c) → (c < suc a) ⊎ (suc a + length ys ≤ c)
    next (inl l) = inl (omega arith)
    next (inr l) = inr (omega arith)

pub row_in : (a d x : ℕ) (xs : List ℕ) → slice_get xs d ≡ Some x → word_at (row a xs) (a + d) ≡ Some x
row_in a d x [] e = let h : None ≡ Some x = e in cc
row_in a zero x (y ∷ ys) e = cond-true _ _ _ (eq-eqb (a + 0) a (omega arith)) ∙ e
row_in a (suc d) x (y ∷ ys) e =
    let p : suc a + d ≡ a + suc d = omega arith in
    cond-false _ _ _ (ne_eqb (a + suc d) a (λ f. omega arith)) ∙ ap (word_at (row (suc a) ys)) (sym p) ∙ row_in (suc a) d x ys e

get_below : (xs : List ℕ) (d x : ℕ) → slice_get xs d ≡ Some x → d < length xs
get_below [] d x e = let h : None ≡ Some x = e in cc
get_below (y ∷ ys) zero x e = omega arith
get_below (y ∷ ys) (suc d) x e = let h = get_below ys d x e in omega arith

pub get_of : (xs : List ℕ) (d : ℕ) → d < length xs → (x : ℕ) × (slice_get xs d ≡ Some x)
get_of [] d h = absurd (omega arith)
get_of (x ∷ xs) zero h = (x, refl)
get_of (x ∷ xs) (suc d) h = get_of xs d (omega arith)

-- two numbers are the same or not
pub nat_same : (b a : ℕ) → (b ≡ a) ⊎ (b ≡ a → ⊥)
nat_same zero zero = inl refl
nat_same zero (suc a) = inr (λ e. omega arith)
nat_same (suc b) zero = inr (λ e. omega arith)
nat_same (suc b) (suc a) = ⊎_elim (λ (e : b ≡ a). inl (ap suc e)) (λ (g : b ≡ a → ⊥). inr (λ e. g (omega arith))) (nat_same b a)

-- an address stands in a list or not
pub member : (a : ℕ) (l : List ℕ) → IsIn a l ⊎ (IsIn a l → ⊥)
member a [] = inr (λ h. h)
member a (b ∷ l) = go (nat_same b a) (member a l)
  where
    go : (b ≡ a) ⊎ (b ≡ a → ⊥) → IsIn a l ⊎ (IsIn a l → ⊥) → IsIn a (b ∷ l) ⊎ (IsIn a (b ∷ l) → ⊥)
    go (inl e) r = inl (inl e)
    go (inr g) (inl h) = inl (inr h)
    go (inr g) (inr h) = inr (λ r. ⊎_elim (λ (e : b ≡ a). g e) (λ (i : IsIn a l). h i) r)

pub listed_left : (vs us : Addresses) (v : Variable) (a : ℕ) → Listed vs v a → Listed (vs ++ us) v a
listed_left [] us v a h = absurd h
listed_left (x ∷ vs) us v a (inl e) = inl e
listed_left (x ∷ vs) us v a (inr h) = inr (listed_left vs us v a h)

pub listed_right : (vs us : Addresses) (v : Variable) (a : ℕ) → Listed us v a → Listed (vs ++ us) v a
listed_right [] us v a h = h
listed_right (x ∷ vs) us v a h = inr (listed_right vs us v a h)

pub listed_either : (vs us : Addresses) (v : Variable) (a : ℕ) → Listed (vs ++ us) v a → Listed vs v a ⊎ Listed us v a
listed_either [] us v a h = inr h
listed_either (x ∷ vs) us v a (inl e) = inl (inl e)
listed_either (x ∷ vs) us v a (inr h) =
    ⊎_elim (λ (t : Listed vs v a). inl (inr t)) (λ (t : Listed us v a). inr t) (listed_either vs us v a h)

-- the addresses of a list
pub addresses_among : (xs : WordList) (a : ℕ) → IsIn a (addresses_of xs) → (x : ℕ) × Among xs (a, x)
addresses_among [] a h = absurd h
addresses_among (x ∷ xs) a (inl e) = (x.1, inl (λ i. (e i, x.1)))
addresses_among (x ∷ xs) a (inr h) = let r = addresses_among xs a h in (r.0, inr r.1)

pub among_addresses : (xs : WordList) (a x : ℕ) → Among xs (a, x) → IsIn a (addresses_of xs)
among_addresses [] a x h = absurd h
among_addresses (y ∷ ys) a x (inl e) = inl (ap (λ (z : ℕ × ℕ). z.0) e)
among_addresses (y ∷ ys) a x (inr h) = inr (among_addresses ys a x h)
