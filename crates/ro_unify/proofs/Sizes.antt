-- The measure of a walk over words without a cycle.
use Rattle.std.proofs.Common.{◌≡◌, ℕ, zero, suc, ◌+◌, ◌-◌, ◌*◌, ◌<◌, ◌≤◌, Bool, true, false, cond, List, [], ◌∷◌, length, Option}
use Rattle.std.proofs.Common.{Some, None, refl, sym, ap, ap₂, ◌∙◌, subst, arith, inl, inr, suc-mul, mul-le-mul_right}
use Rattle.std.specs.Prelude.{nat_lt, nat_eq}
use Rattle.std.proofs.Math.Nat.{mul-le-mul_left}
use Rattle.std.proofs.lemmas.Bool.Decides.{nat_tests}
use Rattle.heap_words.specs.Cells.{decoded}
use Rattle.heap_words.specs.Trails.{WordList, Memory, under}
use Rattle.ro_unify.specs.declared.occurrence.Whole.{Whole}
use Rattle.ro_unify.specs.declared.occurrence.Whole.TheVariants.{Atom, Pair, Tuple}
use Rattle.ro_unify.specs.Value.{leads_on}
use Rattle.ro_unify.specs.Occurs.{whole_of, count_of, words_after}
use Rattle.ro_unify.specs.Walks.{Node, place, part, count, address, node_word, IsPlaceOf, IsPartOf}
use Rattle.ro_unify.specs.Walks.{Goes, Edge, kids_of, kids, total, size, steps_left}

module _ (bs : WordList) (m : Memory) where
  after_same : (f g : ℕ → ℕ) (a n : ℕ) → ((b : ℕ) → a < b → b ≤ a + n → f (m b) ≡ g (m b))
      → total f (words_after m a n) ≡ total g (words_after m a n)
  after_same f g a zero h = refl
  after_same f g a (suc n) h =
      ap₂ (λ (y z : ℕ). y + z) (h (a + 1) (omega arith) (omega arith)) (after_same f g (a + 1) n (λ b l u. h b (omega arith) (omega arith)))

  -- each word to which a walk goes on is a node's
  kids_same : (f g : ℕ → ℕ) (x : ℕ) → ((b : Node) → Goes m x b → f (node_word bs m b) ≡ g (node_word bs m b))
      → total f (kids bs m x) ≡ total g (kids bs m x)
  kids_same f g x h = go (leads_on false (decoded x)) (whole_of (decoded x)) (λ b r. h (place b) r) (λ b r. h (part b) r)
    where
      go : (o : Option (Bool × ℕ)) (w : Whole) → ((b : ℕ) → IsPlaceOf o b → f (under bs m b) ≡ g (under bs m b))
          → ((b : ℕ) → IsPartOf m w b → f (m b) ≡ g (m b)) → total f (kids_of bs m o w) ≡ total g (kids_of bs m o w)
      go (Some s) w p q = ap (λ (z : ℕ). z + 0) (p s.1 refl)
      go None Atom p q = refl
      go None (Pair a) p q = ap₂ (λ (y z : ℕ). y + (z + 0)) (q a (inl refl)) (q (a + 1) (inr refl))
      go None (Tuple a) p q = after_same f g a (count_of (decoded (m a))) (λ b l u. q b (l, u))

  -- where the ranks behind a word are below k, k steps show all of it
  pub all_shown : (rank : Node → ℕ) → ((a b : Node) → Edge bs m a b → rank b < rank a) → (k x : ℕ) → ((b : Node) → Goes m x b → rank b < k)
      → size (suc k) bs m x ≡ size (suc (suc k)) bs m x
  all_shown rank falls zero x h =
      ap suc (kids_same (size zero bs m) (size (suc zero) bs m) x (λ b r. absurd (let l = h b r in omega arith)))
  all_shown rank falls (suc k) x h =
      ap suc (kids_same (size (suc k) bs m) (size (suc (suc k)) bs m) x
      (λ b r. all_shown rank falls k (node_word bs m b) (λ c q. omega (arith, falls b c q, h b r))))

-- how many of the first n ranks are below r
abbrev lower : (ℕ → ℕ) → ℕ → ℕ → ℕ
lower f r zero = 0
lower f r (suc n) = cond (nat_lt (f n) r) 1 0 + lower f r n

lower_most : (f : ℕ → ℕ) (r n : ℕ) → lower f r n ≤ n
lower_most f r zero = omega arith
lower_most f r (suc n) = grind (arith, nat_tests, lower_most f r n)

lower_more : (f : ℕ → ℕ) (r s n : ℕ) → r ≤ s → lower f r n ≤ lower f s n
lower_more f r s zero h = omega arith
lower_more f r s (suc n) h = grind (arith, nat_tests, lower_more f r s n h)

lower_strict : (f : ℕ → ℕ) (r s n c : ℕ) → c < n → f c ≡ r → r < s → lower f r n < lower f s n
lower_strict f r s zero c l e h = absurd (omega arith)
lower_strict f r s (suc n) c l e h = go (lower_strict f r s n c) (nat_eq c n) refl
  where
    more : lower f r n ≤ lower f s n
    more = lower_more f r s n (omega arith)

    go : (c < n → f c ≡ r → r < s → lower f r n < lower f s n) → (t : Bool) → nat_eq c n ≡ t → lower f r (suc n) < lower f s (suc n)
    go rec true i = let j : f n ≡ r = ap f (sym (let k : c ≡ n = grind (arith, nat_tests) in k)) ∙ e in grind (arith, nat_tests, more)
    go rec false i =
        let j : c < n = grind (arith, nat_tests) in let k : lower f r n < lower f s n = rec j e h in grind (arith, nat_tests, k)

-- ranks again, of which none is above n + n + n
abbrev pub short : (Node → ℕ) → ℕ → Node → ℕ
short rank n a = lower (λ c. rank (place c)) (rank a) n + lower (λ c. rank (part c)) (rank a) n + lower (λ c. rank (count c)) (rank a) n

pub short_low : (rank : Node → ℕ) (n : ℕ) (a : Node) → short rank n a < suc (n + n + n)
short_low rank n a =
    omega (
      arith,
      lower_most (λ c. rank (place c)) (rank a) n,
      lower_most (λ c. rank (part c)) (rank a) n,
      lower_most (λ c. rank (count c))
          (rank a) n,
    )

pub short_falls : (rank : Node → ℕ) (n : ℕ) (a b : Node) → address b < n → rank b < rank a → short rank n b < short rank n a
short_falls rank n a (place c) l h =
    omega (
      arith,
      lower_strict (λ d. rank (place d)) (rank (place c)) (rank a) n c l refl h,
      lower_more (λ d. rank (part d))
          (rank (place c)) (rank a) n (omega arith),
      lower_more (λ d. rank (count d)) (rank (place c)) (rank a) n (omega arith),
    )
short_falls rank n a (part c) l h =
    omega (
      arith,
      lower_strict (λ d. rank (part d)) (rank (part c)) (rank a) n c l refl h,
      lower_more (λ d. rank (place d)) (rank (part c))
          (rank a) n (omega arith),
      lower_more (λ d. rank (count d)) (rank (part c)) (rank a) n (omega arith),
    )
short_falls rank n a (count c) l h =
    omega (
      arith,
      lower_strict (λ d. rank (count d)) (rank (count c)) (rank a) n c l refl h,
      lower_more (λ d. rank (place d))
          (rank (count c)) (rank a) n (omega arith),
      lower_more (λ d. rank (part d)) (rank (count c)) (rank a) n (omega arith),
    )

-- no size is above the bound
pub length_after : (m : Memory) (a n : ℕ) → length (words_after m a n) ≡ n
length_after m a zero = refl
length_after m a (suc n) = ap suc (length_after m (a + 1) n)

pub total_most : {A : Type 0} (f : A → ℕ) (b : ℕ) → ((x : A) → f x ≤ b) → (xs : List A) → total f xs ≤ length xs * b
total_most f b h [] = omega arith
total_most f b h (x ∷ xs) = omega (arith, suc-mul (length xs) b, h x, total_most f b h xs)

-- the measure rises with the size
more_left : (k news s s' : ℕ) → s ≤ s' → steps_left k news s ≤ steps_left k news s'
more_left k zero s s' h = h
more_left k (suc news) s s' h =
    let j : k * (s + k) ≤ k * (s' + k) = mul-le-mul_left k (omega arith) in
    omega (arith, more_left k news (k * (s + k)) (k * (s' + k)) j)

-- and with what is new
abbrev raised_by : ℕ → ℕ → ℕ
raised_by zero n = n
raised_by (suc d) n = suc (raised_by d n)

raised_sum : (d n : ℕ) → raised_by d n ≡ d + n
raised_sum zero n = omega arith
raised_sum (suc d) n = omega (arith, raised_sum d n)

newer_left : (k : ℕ) → 0 < k → (d news s : ℕ) → steps_left k news s ≤ steps_left k (raised_by d news) s
newer_left k p zero news s = omega arith
newer_left k p (suc d) news s =
    let j : 1 * (s + k) ≤ k * (s + k) = mul-le-mul_right (s + k) p in
    omega (arith, newer_left k p d news s, more_left k (raised_by d news) s (k * (s + k)) (omega arith))

-- a step that sees nothing new lowers the size, and any other lowers what is new
pub step_falls : (k news news' s s' : ℕ) → 0 < k → news' ≤ news → (news' ≡ news → s' < s) → s' ≤ k * (s + k)
    → steps_left k news' s' < steps_left k news s
step_falls k news news' s s' p l old new = go (nat_eq news' news) refl
  where
    same : (news s s' : ℕ) → s' < s → steps_left k news s' < steps_left k news s
    same zero s s' h = h
    same (suc news) s s' h =
        let j : k * (s' + k) ≤ k * (s + k) = mul-le-mul_left k (omega arith) in
        omega (arith, more_left k news (k * (s' + k)) (k * (s + k)) j)

    fewer : (d : ℕ) → steps_left k news' s' < steps_left k (suc (raised_by d news')) s
    fewer d = omega (arith, more_left k news' s' (k * (s + k)) new, newer_left k p d news' (k * (s + k)))

    go : (t : Bool) → nat_eq news' news ≡ t → steps_left k news' s' < steps_left k news s
    go true e = let i : news' ≡ news = grind (arith, nat_tests) in subst (λ (z : ℕ). steps_left k z s' < steps_left k news s) (sym i)
        (same news s s' (old i))
    go false e =
        let i : news' < news = grind (arith, nat_tests) in
        let j : suc (raised_by (news - suc news') news') ≡ news = omega (arith, raised_sum (news - suc news') news') in
        subst (λ (z : ℕ). steps_left k news' s' < steps_left k z s) j (fewer (news - suc news'))
