-- Sleepers that are sorted, each of them once.
use Rattle.std.proofs.Common.{◌≡◌, ℕ, zero, suc, ◌<◌, Bool, true, false, List, [], ◌∷◌, length, refl, subst, arith, inl, inr, ⊎_elim}
use Rattle.std.specs.Prelude.{◌&&◌, nat_eq, nat_lt, Contains, slice_index_or}
use Rattle.std.specs.Cmp.{IsTotalOrder, IsEquivalence}
use Rattle.std.specs.Ordering.{nat_cmp, ordering_then, eq_by_cmp}
use Rattle.std.specs.declared.cmp.Ordering.{Ordering}
use Rattle.std.specs.declared.cmp.Ordering.TheVariants.{Less}
use Rattle.std.specs.List.{AllByRecursion}
use Rattle.std.specs.List.Sorted.{IsStrictlySortedBy}
use Rattle.std.proofs.lemmas.Cmp.{then_total, on_total, nat_cmp_total}
use Rattle.std.proofs.lemmas.Bool.Decides.{nat_tests}
use Rattle.suspension_lists.specs.Entries.{IsOneOf}
use Rattle.suspension_lists.specs.Sleepers.{IsBefore, Rise}
use Rattle.suspension_lists.specs.declared.sleepers.Sleeper.{Sleeper}

abbrev pub order : Sleeper → Sleeper → Ordering
order s t = ordering_then (nat_cmp s.name t.name) (nat_cmp s.process t.process)

abbrev pub is_same : Sleeper → Sleeper → Bool
is_same s t = nat_eq s.name t.name && nat_eq s.process t.process

pub order_total : IsTotalOrder order
order_total = then_total (on_total (λ s. s.name) nat_cmp_total) (on_total (λ s. s.process) nat_cmp_total)

pub ties : (s t : Sleeper) → is_same s t ≡ eq_by_cmp order s t
ties s t = grind (arith, nat_tests)

sleeper : ℕ → ℕ → Sleeper
sleeper n p = record { name = n; process = p }

pub same_is : (s t : Sleeper) → is_same s t ≡ true → s ≡ t
unfolding sleeper
same_is s t h =
    let a : s.name ≡ t.name = grind (arith, nat_tests, h) in
    let b : s.process ≡ t.process = grind (arith, nat_tests, h) in
    let c : sleeper s.name s.process ≡ sleeper t.name t.process = cc in c

pub same_equivalence : IsEquivalence is_same
same_equivalence = record {
  refl = λ x. grind (arith, nat_tests);
  symm = λ x y. grind (arith, nat_tests);
  congr = λ x y z h. grind (arith, nat_tests, h);
}

less_before : (s t : Sleeper) → order s t ≡ Less → IsBefore s t
less_before s t h = go (nat_lt s.name t.name) refl (nat_eq s.name t.name) refl
  where
    go : (l : Bool) → nat_lt s.name t.name ≡ l → (e : Bool) → nat_eq s.name t.name ≡ e → IsBefore s t
    go true i e j = inl (grind (arith, nat_tests, i))
    go false i true j = inr (grind (arith, nat_tests, j), grind (arith, nat_tests, i, j, h))
    go false i false j = absurd (grind (arith, nat_tests, i, j, h))

pub one_contains : {A : Type 0} (xs : List A) (x : A) → IsOneOf x xs → Contains xs x
one_contains [] x h = absurd h
one_contains (y ∷ ys) x h =
    ⊎_elim (λ i. (0, omega arith, i)) (λ i. let r = one_contains ys x i in (suc r.0, omega (arith, r.1), r.2)) h

one_at : {A : Type 0} (xs : List A) (x : A) (k : ℕ) → k < length xs → slice_index_or xs k x ≡ x → IsOneOf x xs
one_at [] x k i e = absurd (omega (arith, i))
one_at (y ∷ ys) x zero i e = inl e
one_at (y ∷ ys) x (suc k) i e = inr (one_at ys x k (omega (arith, i)) e)

pub contains_one : {A : Type 0} (xs : List A) (x : A) → Contains xs x → IsOneOf x xs
contains_one xs x h = one_at xs x h.0 h.1 h.2

each : (P : Sleeper → Type 0) (ss : List Sleeper) → AllByRecursion P ss → (t : Sleeper) → IsOneOf t ss → P t
each P [] h t i = absurd i
each P (s ∷ ss) h t i = ⊎_elim (λ e. subst P e h.0) (λ j. each P ss h.1 t j) i

pub rises : (ss : List Sleeper) → IsStrictlySortedBy order ss → Rise ss
unfolding IsStrictlySortedBy
rises [] h = tt
rises (s ∷ ss) h = (λ t i. less_before s t (each (λ t. order s t ≡ Less) ss h.0 t i), rises ss h.1)
