-- The list of those that are sought, address by address.
use Rattle.std.proofs.Common.{◌≡◌, ◌⊎◌, ℕ, ◌+◌, ◌<◌, ◌≤◌, Bool, true, List, [], ◌∷◌, ◌++◌, get_or, sym, subst, arith}
use Rattle.std.proofs.Common.{⊎_elim, inl, inr, Option, Some, None}
use Rattle.std.specs.Prelude.{Contains}
use Rattle.std.specs.Cmp.{IsEquivalence}
use Rattle.std.specs.List.{IsDistinct}
use Rattle.std.proofs.lemmas.Bool.{cases_lt}
use Rattle.std.proofs.lemmas.Bool.Decides.{nat_tests}
use Rattle.std.proofs.lemmas.List.Elements.{Contains-append_left, Contains-push, Contains-push_cases, Contains-get_or}
use Rattle.std.proofs.lemmas.List.Folds.{list_any_none}
use Rattle.std.proofs.lemmas.Map.Keys.{IsDistinct-push}
use Rattle.heap_words.specs.Heaps.{inside_at}
use Rattle.heap_words.specs.declared.cell.Cell.{Cell}
use Rattle.heap_words.specs.declared.cell.Cell.TheVariants as cell
use Rattle.heap_words.specs.declared.cell.Cell.TheVariants.{Status}
use Rattle.heap_words.specs.declared.cell.Stand.{Stand}
use Rattle.word_states.specs.Words.{At}
use Rattle.ready_lists.specs.Finding.{is_status, IsFound, is_one, HasFound}
use Rattle.ready_lists.specs.declared.listing.Found.{Found}

one_equivalence : IsEquivalence is_one
one_equivalence = record {
  refl = λ x. grind (arith, nat_tests);
  symm = λ x y. grind (arith, nat_tests);
  congr = λ x y z h. grind (arith, nat_tests, h);
}

-- the status that a word is
pub status_in : (stands : Stand → Bool) (c : Option Cell) → is_status stands c ≡ true
    → (d : Stand) × (stands d ≡ true) × (c ≡ Some (Status d))
status_in stands None h = cc
status_in stands (Some (Status d)) h = (d, h, cc)
status_in stands (Some (cell.Unbound a)) h = cc
status_in stands (Some (cell.Ref a)) h = cc
status_in stands (Some (cell.RoRef a)) h = cc
status_in stands (Some (cell.Small z)) h = cc
status_in stands (Some (cell.Wide a b)) h = cc
status_in stands (Some (cell.Str s)) h = cc
status_in stands (Some cell.Nil) h = cc
status_in stands (Some (cell.Cons a)) h = cc
status_in stands (Some (cell.Tuple a)) h = cc
status_in stands (Some (cell.Raw n)) h = cc
status_in stands (Some (cell.Top a)) h = cc

module _ (stands : Stand → Bool) (ws : List ℕ) where
  pub none_yet : (fs : List Found) → fs ≡ [] → HasFound stands ws 0 fs
  unfolding IsDistinct
  none_yet fs e = subst (HasFound stands ws 0) (sym e) (record {
    all = λ a h d s t. absurd (omega arith);
    only = λ f h. absurd (let l : h.0 < 0 = h.1 in omega arith);
    once = tt;
  })

  -- where none of them stands from b up to n
  pub up_to : (b n : ℕ) (fs : List Found) → b ≤ n
      → ((a : ℕ) → b ≤ a → a < n → (d : Stand) → stands d ≡ true → At (inside_at ws) a (Status d) → ⊥)
      → HasFound stands ws b fs → HasFound stands ws n fs
  up_to b n fs le none h = record {
    all = λ a l d s r. below a l d s r (cases_lt a b);
    only = λ f i. let t = h.only f i in let l : f.process < b = t.0 in (omega arith, t.1);
    once = h.once;
  }
    where
      below : (a : ℕ) → a < n → (d : Stand) → stands d ≡ true → At (inside_at ws) a (Status d) → (a < b) ⊎ (b ≤ a)
          → (f : Found) × Contains fs f × (f.process ≡ a)
      below a l d s r (inl i) = h.all a i d s r
      below a l d s r (inr i) = absurd (none a i l d s r)

  -- where none stands at a
  pub passed : (a : ℕ) (fs : List Found) → ((d : Stand) → stands d ≡ true → At (inside_at ws) a (Status d) → ⊥) → HasFound stands ws a fs
      → HasFound stands ws (a + 1) fs
  passed a fs none h = up_to a (a + 1) fs (omega arith)
      (λ b l m d s t. let e : b ≡ a = omega (arith, l, m) in none d s (subst (λ i. At (inside_at ws) i (Status d)) e t)) h

  -- where one stands at a
  pub one_more : (a : ℕ) (fs : List Found) (f : Found) → f.process ≡ a → IsFound stands ws f → HasFound stands ws a fs
      → HasFound stands ws (a + 1) (fs ++ f ∷ [])
  one_more a fs f e is h = record {
    all = λ b l d s r. here b d s r (cases_lt b a) l;
    only = λ g i. ⊎_elim (λ j. let t = h.only g j in let l : g.process < a = t.0 in (omega arith, t.1))
        (λ (s : f ≡ g). subst (λ (z : Found). (z.process < a + 1) × IsFound stands ws z) s (omega (arith, e), is)) (Contains-push_cases fs f g i);
    once = IsDistinct-push one_equivalence fs f h.once
        (list_any_none (is_one f) fs
        (λ k d l.
        let t : (get_or fs k d).process < a = (h.only (get_or fs k d) (Contains-get_or fs k d l)).0 in grind (arith, nat_tests, t, e)));
  }
    where
      here : (b : ℕ) (d : Stand) → stands d ≡ true → At (inside_at ws) b (Status d) → (b < a) ⊎ (a ≤ b) → b < a + 1
          → (g : Found) × Contains (fs ++ f ∷ []) g × (g.process ≡ b)
      here b d s r (inl i) l = let t = h.all b i d s r in (t.0, Contains-append_left fs (f ∷ []) t.0 t.1, t.2)
      here b d s r (inr i) l = (f, Contains-push fs f, omega (arith, e))
