-- The list of those that are sought, sorted.
use Rattle.std.proofs.Common.{◌≡◌, ℕ, zero, suc, ◌+◌, ◌<◌, ◌≤◌, Bool, true, false, List, [], ◌∷◌, length, map, get_or, refl, sym, ap, subst}
use Rattle.std.proofs.Common.{arith, inl, inr}
use Rattle.std.specs.Prelude.{nat_lt, pos, Contains, IsPermutation, IsSorted, slice_index_or}
use Rattle.std.specs.Cmp.{IsTotalOrder}
use Rattle.std.specs.Ordering.{nat_cmp, ordering_then, is_lt}
use Rattle.std.specs.declared.cmp.Ordering.{Ordering}
use Rattle.std.specs.List.{AllByRecursion, IsDistinct}
use Rattle.std.specs.List.Sorted.{IsNonDecreasingBy}
use Rattle.std.proofs.lemmas.Cmp.{then_total, on_total, nat_cmp_total}
use Rattle.std.proofs.lemmas.Bool.Decides.{nat_tests}
use Rattle.std.proofs.lemmas.List.Sorted.{ranks_by, sorted_far, Contains-permutation, IsPermutation-sym}
use Rattle.std.proofs.lemmas.Map.Keys.{IsDistinct-IsPermutation}
use Rattle.heap_words.specs.Heaps.{inside_at}
use Rattle.heap_words.specs.HeapLaws.{inside_below, inside_known}
use Rattle.heap_words.specs.declared.cell.Cell.TheVariants.{Small, Status}
use Rattle.heap_words.specs.declared.cell.Stand.{Stand}
use Rattle.word_states.specs.Words.{At, IsIn, AreDistinct}
use Rattle.ready_lists.specs.Ready.{AreByNumber, AreListed}
use Rattle.ready_lists.specs.Finding.{IsFound, is_one, HasFound}
use Rattle.ready_lists.specs.declared.listing.Found.{Found}

abbrev pub order : Found → Found → Ordering
order f g = ordering_then (nat_cmp f.name g.name) (nat_cmp f.process g.process)

order_total : IsTotalOrder order
order_total = then_total (on_total (λ f. f.name) nat_cmp_total) (on_total (λ f. f.process) nat_cmp_total)

not_less : (f g : Found) → is_lt (order g f) ≡ false → f.name ≤ g.name
not_less f g h = go (nat_lt g.name f.name) refl
  where
    go : (b : Bool) → nat_lt g.name f.name ≡ b → f.name ≤ g.name
    go true i = absurd (grind (arith, nat_tests, i, h))
    go false i = grind (arith, nat_tests, i)

-- numbers in names do not fall
by_number : (fs : List Found) → IsSorted order fs → IsNonDecreasingBy (λ (f : Found). f.name) fs
by_number fs up i j d l m =
    not_less (get_or fs i d) (get_or fs j d) (sorted_far (λ f g. is_lt (order f g)) (ranks_by order_total (λ f. f)) fs up i j d l m)

abbrev pub addresses_of : List Found → List ℕ
addresses_of fs = map (λ (f : Found). f.process) fs

in_addresses : (fs : List Found) (a : ℕ) → IsIn a (addresses_of fs) → (f : Found) × Contains fs f × (f.process ≡ a)
in_addresses [] a h = absurd h
in_addresses (f ∷ fs) a (inl e) = (f, (0, omega arith, refl), e)
in_addresses (f ∷ fs) a (inr h) =
    let r = in_addresses fs a h in
    let c = r.1 in (r.0, (suc c.0, omega (arith, c.1), c.2), r.2)

address_at : (fs : List Found) (f : Found) (k : ℕ) → k < length fs → slice_index_or fs k f ≡ f → IsIn f.process (addresses_of fs)
address_at [] f k l e = absurd (omega (arith, l))
address_at (g ∷ gs) f zero l e = inl (ap (λ (z : Found). z.process) e)
address_at (g ∷ gs) f (suc k) l e = inr (address_at gs f k (omega (arith, l)) e)

differs : (f g : Found) (fs : List Found) → AllByRecursion (λ z. is_one f z ≡ false) fs → (k : ℕ) → k < length fs
    → slice_index_or fs k g ≡ g → is_one f g ≡ false
differs f g [] h k l e = absurd (omega (arith, l))
differs f g (z ∷ zs) h zero l e = subst (λ (y : Found). is_one f y ≡ false) e h.0
differs f g (z ∷ zs) h (suc k) l e = differs f g zs h.1 k (omega (arith, l)) e

each_once : (fs : List Found) → IsDistinct is_one fs → AreDistinct (addresses_of fs)
unfolding IsDistinct
each_once [] h = tt
each_once (f ∷ fs) h = (
  λ i.
      let r = in_addresses fs f.process i in
      let c = r.1 in
      let same : r.0.process ≡ f.process = r.2 in
      let far : is_one f r.0 ≡ false = differs f r.0 fs h.0 c.0 c.1 c.2 in
      grind (arith, nat_tests, same, far),
  each_once fs h.1,
)

numbers_rise : (stands : Stand → Bool) (ws : List ℕ) (fs : List Found) → ((f : Found) → Contains fs f → IsFound stands ws f)
    → IsNonDecreasingBy (λ (f : Found). f.name) fs → AreByNumber ws (addresses_of fs)
numbers_rise stands ws [] is up = tt
numbers_rise stands ws (f ∷ fs) is up = (
  λ r n k i hn hk.
      let t = in_addresses fs r i in
      let c = t.1 in
      let here : f.name ≡ n = (is f (0, omega arith, refl)).number n hn in
      let there : t.0.name ≡ k =
      (is t.0 (suc c.0, omega (arith, c.1), c.2)).number k (subst (λ a. At (inside_at ws) (a + 1) (Small (pos k))) (sym t.2) hk) in
      let le : f.name ≤ (slice_index_or fs c.0 t.0).name = up 0 (suc c.0) t.0 (omega arith) (omega (arith, c.1)) in
      let same : (slice_index_or fs c.0 t.0).name ≡ t.0.name = ap (λ (z : Found). z.name) c.2 in
      omega (arith, here, there, le, same),
  numbers_rise stands ws fs (λ g c. is g (suc c.0, omega (arith, c.1), c.2)) (λ i j d l m. up (suc i) (suc j) d (omega arith) (omega arith)),
)

-- what was found below the end of the words, sorted
pub are_listed : (stands : Stand → Bool) (ws : List ℕ) (n : ℕ) (fs gs : List Found) (qs : List ℕ) → length ws ≤ n
    → HasFound stands ws n fs → IsPermutation fs gs → IsSorted order gs → qs ≡ addresses_of gs → AreListed stands ws qs
are_listed stands ws n fs gs qs le h moved up e = subst (AreListed stands ws) (sym e) (record {
  all = λ a d s t.
      let low : a < length ws = inside_below ws a (inside_known ws a t.0 t.1) in
      let r = h.all a (omega (arith, low, le)) d s t in
      let c = Contains-permutation fs gs r.0 moved r.1 in
      subst (λ b. IsIn b (addresses_of gs)) r.2 (address_at gs r.0 c.0 c.1 c.2);
  only = λ a i.
      let r = in_addresses gs a i in
      subst (λ b. (d : Stand) × (stands d ≡ true) × At (inside_at ws) b (Status d)) r.2 (found r.0 r.1).status;
  once = each_once gs (IsDistinct-IsPermutation is_one (λ x y. grind (arith, nat_tests)) fs gs moved h.once);
  by_name = numbers_rise stands ws gs found (by_number gs up);
})
  where
    found : (f : Found) → Contains gs f → IsFound stands ws f
    found f c = (h.only f (Contains-permutation gs fs f (IsPermutation-sym fs gs moved) c)).1
