-- The places are laid in the first page of a new heap.
use Rattle.std.proofs.Common.{◌≡◌, ℕ, zero, suc, ◌+◌, ◌-◌, ◌*◌, ◌/◌, ◌%◌, ◌<◌, ◌≤◌, pos, true, false, cond, List, ◌∷◌, length, set}
use Rattle.std.proofs.Common.{slice_get, Some, refl, sym, ap, ◌∙◌, subst, arith, ◌⊎◌, inl, inr, ⊎_elim}
use Rattle.std.specs.Prelude.{option_map, replicate}
use Rattle.std.specs.Option.{option_and_then}
use Rattle.std.proofs.lemmas.Int.{ints}
use Rattle.std.proofs.lemmas.Bool.{cases_eq, cases_lt, eq-eqb, ne_eqb, le-ltb, false≢true}
use Rattle.std.proofs.lemmas.List.{length-set}
use Rattle.std.proofs.lemmas.Option.{same_Some}
use Rattle.heap_words.specs.Cells.{decoded, encoded}
use Rattle.heap_words.specs.Heaps.{top_said, top_at, is_inside, inside_at}
use Rattle.heap_words.specs.HeapLaws.{inside_is, inside_known}
use Rattle.heap_words.specs.declared.cell.Cell.TheVariants.{Small, Top}
use Rattle.heap_words.proofs.Encodings.{decoded_encoded}
use Rattle.heap_words.proofs.QuietHeaps.{slice_get-set_same, slice_get-set_other, new_top, below_top}
use Rattle.word_states.specs.Words.{At}
use Rattle.goal_layout.specs.FirstFit.{fit, first_fit}
use Rattle.goal_layout.specs.Pages.{room, rooms_from, rooms, ArePages}
use Rattle.goal_layout.specs.Laying.{IsQuiet}
use Rattle.goal_layout.specs.Goals.{AreNew, LaysPlaces}
use Rattle.goal_layout.proofs.Insides.{inside_cases, first_inside}
use Rattle.goal_layout.proofs.Fits.{same_rooms}
use Rattle.goal_layout.proofs.Lays.{zero_quiet, top_quiet}

-- the words of a new heap
module _ (ws : List ℕ) (n : AreNew ws) where
  pub new_word : (a : ℕ) → a < length ws → (a % 1024 ≡ 0 → ⊥) → slice_get ws a ≡ Some 0
  new_word a h off = n.fresh.each a h ∙ ap (λ b. Some (cond b (encoded (Top (a + 1))) 0)) (ne_eqb (a % 1024) 0 off)

  pub new_page : (p : ℕ) → 1024 * p < length ws → top_at ws (1024 * p) ≡ 1024 * p + 1
  new_page p h =
      let s = n.small in
      ap (λ o. top_said (option_and_then decoded o)) (n.fresh.each (1024 * p) h
      ∙ ap (λ b. Some (cond b (encoded (Top (1024 * p + 1))) 0)) (eq-eqb ((1024 * p) % 1024) 0 (omega arith)))
      ∙ ap top_said (decoded_encoded (Top (1024 * p + 1)) (omega (arith, s, h)))

  -- nothing but the tops is inside
  new_inside : (a : ℕ) → is_inside ws a ≡ true → a % 1024 ≡ 0
  new_inside a i = go (inside_cases ws a i)
    where
      go : (a < length ws) × ((a % 1024 ≡ 0) ⊎ (a < top_at ws (a - a % 1024))) → a % 1024 ≡ 0
      go (h, inl m) = m
      go (h, inr l) =
          let e : a - a % 1024 ≡ 1024 * (a / 1024) = omega arith in
          let t : top_at ws (a - a % 1024) ≡ 1024 * (a / 1024) + 1 = ap (top_at ws) e ∙ new_page (a / 1024) (omega (arith, h)) in
          omega (arith, l, t)

  pub new_pages : ArePages ws
  new_pages = record {
    whole = n.whole;
    small = n.small;
    above = λ p h. omega (arith, new_page p h);
    within = λ p h. omega (arith, new_page p h);
    clear = λ a h f. new_word a h (λ m. false≢true (sym f ∙ first_inside ws a h m));
  }

  -- no place is laid
  pub no_places : LaysPlaces 0 ws ws
  no_places = record {
    pages = new_pages;
    size = refl;
    fits = refl;
    names = λ k lo hi. absurd (omega arith);
    words = λ k lo hi. absurd (omega arith);
    quiet = λ a x e. top_quiet ws a x new_pages e (new_inside a (inside_known ws a x e));
  }

-- The names of the places below `next` are written.
pub record IsNaming (ws ws' : List ℕ) (next : ℕ) : Type 0 where
  pub size : length ws' ≡ length ws
  pub names : (k : ℕ) → 1 ≤ k → k < next → slice_get ws' (2 * k - 1) ≡ Some (encoded (Small (pos k)))
  pub others : (a : ℕ) → ((k : ℕ) → 1 ≤ k → k < next → a ≡ 2 * k - 1 → ⊥) → slice_get ws' a ≡ slice_get ws a

pub naming_begins : (ws : List ℕ) → IsNaming ws ws 1
naming_begins ws = record { size = refl; names = λ k lo hi. absurd (omega arith); others = λ a h. refl }

pub naming_step : (ws ws' : List ℕ) (k x c : ℕ) → 1 ≤ k → c < length ws' → c ≡ 2 * k - 1 → x ≡ encoded (Small (pos k)) → IsNaming ws ws' k
    → IsNaming ws (set ws' c x) (k + 1)
naming_step ws ws' k x c one lt ec ex i = record {
  size = length-set ws' c x ∙ i.size;
  names = λ j lo hi. ⊎_elim
      (λ e. subst (λ q. slice_get (set ws' c x) q ≡ Some (encoded (Small (pos j)))) (omega (arith, ec, e))
      (slice_get-set_same ws' c x lt ∙ ap Some ex ∙ ap (λ q. Some (encoded (Small (pos q)))) (sym e)))
      (λ d. slice_get-set_other ws' c (2 * j - 1) x (λ q. d (omega (arith, q, ec, lo, one))) ∙ i.names j lo (omega (arith, d)))
      (cases_eq j k);
  others = λ a h. slice_get-set_other ws' c a x (λ q. h k one (omega arith) (q ∙ ec)) ∙ i.others a (λ j lo hi e. h j lo (omega arith) e);
}

-- so many pieces of two words in one room
two_by_two : (n r : ℕ) (rs : List ℕ) → 2 * n ≤ r → first_fit (r ∷ rs) (replicate n 2) ≡ Some ((r - 2 * n) ∷ rs)
two_by_two zero r rs h = ap (λ k. Some (k ∷ rs)) (omega arith)
two_by_two (suc n) r rs h =
    ap (λ b. option_and_then (λ ss. first_fit ss (replicate n 2)) (cond b (option_map (λ ss. r ∷ ss) (fit 2 rs)) (Some ((r - 2) ∷ rs))))
    (le-ltb r 2 (omega arith))
    ∙ two_by_two n (r - 2) rs (omega arith)
    ∙ ap (λ k. Some (k ∷ rs)) (omega arith)

module _ (ws w1 : List ℕ) (vars : ℕ) (n : AreNew ws) (few : vars ≤ 250) (there : 0 < length ws) (i : IsNaming ws w1 (vars + 1)) where
  abbrev new : List ℕ
  new = set w1 0 (encoded (Top (2 * vars + 1)))

  same_size : length new ≡ length ws
  same_size = length-set w1 0 (encoded (Top (2 * vars + 1))) ∙ i.size

  page : 1024 ≤ length ws
  page = let w = n.whole in omega (arith, w, there)

  first_top : top_at new 0 ≡ 2 * vars + 1
  first_top = new_top w1 0 (2 * vars + 1) (omega (arith, i.size, there)) (omega (arith, few))

  no_name : (a : ℕ) → (a % 2 ≡ 0) ⊎ (2 * vars < a) → (k : ℕ) → 1 ≤ k → k < vars + 1 → a ≡ 2 * k - 1 → ⊥
  no_name a (inl m) k lo hi e = omega (arith, m, lo, e)
  no_name a (inr m) k lo hi e = omega (arith, m, lo, hi, e)

  same_word : (a : ℕ) → (a ≡ 0 → ⊥) → (a % 2 ≡ 0) ⊎ (2 * vars < a) → slice_get new a ≡ slice_get ws a
  same_word a z m = slice_get-set_other w1 0 a (encoded (Top (2 * vars + 1))) z ∙ i.others a (no_name a m)

  later_top : (q : ℕ) → 0 < q → top_at new (1024 * q) ≡ top_at ws (1024 * q)
  later_top q h = ap (λ o. top_said (option_and_then decoded o)) (same_word (1024 * q) (λ e. omega (arith, e, h)) (inl (omega arith)))

  below : (a : ℕ) → 0 < a → a < 2 * vars + 1 → is_inside new a ≡ true
  below a lo hi =
      let e : a - a % 1024 ≡ 0 = omega (arith, lo, hi, few) in
      below_top new a (omega (arith, same_size, page, hi, few)) (subst (λ k. a < k) (sym (ap (top_at new) e ∙ first_top)) hi)

  name_at : (k : ℕ) → 1 ≤ k → k ≤ vars → At (inside_at new) (2 * k - 1) (Small (pos k))
  name_at k lo hi = (
    encoded (Small (pos k)),
    inside_is new (2 * k - 1) (encoded (Small (pos k))) (below (2 * k - 1) (omega (arith, lo)) (omega (arith, lo, hi)))
        (slice_get-set_other w1 0 (2 * k - 1) (encoded (Top (2 * vars + 1))) (λ e. omega (arith, e, lo))
        ∙ i.names k lo (omega (arith, hi))),
    decoded_encoded (Small (pos k)) (omega (arith, ints), omega (arith, ints, hi, few)),
  )

  word_at' : (k : ℕ) → 1 ≤ k → k ≤ vars → inside_at new (2 * k) ≡ Some 0
  word_at' k lo hi = inside_is new (2 * k) 0 (below (2 * k) (omega (arith, lo)) (omega (arith, hi)))
      (same_word (2 * k) (λ e. omega (arith, e, lo)) (inl (omega arith))
      ∙ new_word ws n (2 * k) (omega (arith, page, hi, few)) (λ m. omega (arith, m, lo, hi, few)))

  above : (q : ℕ) → 1024 * q < length new → 1024 * q < top_at new (1024 * q)
  above zero h = subst (λ k. 0 < k) (sym first_top) (omega arith)
  above (suc q) h = omega (arith, later_top (suc q) (omega arith), new_page ws n (suc q) (omega (arith, h, same_size)))

  within : (q : ℕ) → 1024 * q < length new → top_at new (1024 * q) ≤ 1024 * q + 1024
  within zero h = subst (λ k. k ≤ 1024) (sym first_top) (omega (arith, few))
  within (suc q) h = omega (arith, later_top (suc q) (omega arith), new_page ws n (suc q) (omega (arith, h, same_size)))

  clear : (a : ℕ) → a < length new → is_inside new a ≡ false → slice_get new a ≡ Some 0
  clear a h f =
      let off : a % 1024 ≡ 0 → ⊥ = λ m. false≢true (sym f ∙ first_inside new a h m) in
      let some : a ≡ 0 → ⊥ = λ e. off (omega (arith, e)) in
      let high : (2 * vars < a) = ⊎_elim
      (λ l. absurd (false≢true (sym f ∙ below a (omega (arith, some)) l)))
      (λ l. let r : 2 * vars < a = omega (arith, l) in r)
      (cases_lt a (2 * vars + 1)) in
      same_word a some (inr high) ∙ new_word ws n a (omega (arith, h, same_size)) off

  laid_pages : ArePages new
  laid_pages = record {
    whole = ap (λ k. k % 1024) same_size ∙ n.whole;
    small = let s = n.small in omega (arith, s, same_size);
    above = above;
    within = within;
    clear = clear;
  }

  -- a word that is no top
  inner_quiet : (a y : ℕ) → inside_at new a ≡ Some y → (a % 1024 ≡ 0 → ⊥) → a < 2 * vars + 1 → IsQuiet y
  inner_quiet a y e off hi = ⊎_elim
      (λ m.
      let k : 2 * (a / 2) ≡ a = omega (arith, m) in
      let w : inside_at new a ≡ Some 0 =
      subst (λ q. inside_at new q ≡ Some 0) k (word_at' (a / 2) (omega (arith, k, off')) (omega (arith, k, hi))) in
      subst IsQuiet (same_Some 0 y (sym w ∙ e)) zero_quiet)
      (λ m.
      let k : 2 * (a / 2 + 1) - 1 ≡ a = omega (arith, m) in
      let t : At (inside_at new) a (Small (pos (a / 2 + 1))) =
      subst (λ q. At (inside_at new) q (Small (pos (a / 2 + 1)))) k (name_at (a / 2 + 1) (omega arith) (omega (arith, m, hi))) in
      record { cell = Small (pos (a / 2 + 1)); says = ap decoded (same_Some y t.0 (sym e ∙ t.1)) ∙ t.2; quiet = refl })
      (cases_eq (a % 2) 0)
    where
      off' : a ≡ 0 → ⊥
      off' z = off (omega (arith, z))

  quiet : (a y : ℕ) → inside_at new a ≡ Some y → IsQuiet y
  quiet a y e = ⊎_elim
      (λ m. top_quiet new a y laid_pages e m)
      (λ off. go (inside_cases new a (inside_known new a y e)) off)
      (cases_eq (a % 1024) 0)
    where
      go : (a < length new) × ((a % 1024 ≡ 0) ⊎ (a < top_at new (a - a % 1024))) → (a % 1024 ≡ 0 → ⊥) → IsQuiet y
      go (h, inl m) off = absurd (off m)
      go (h, inr l) off = ⊎_elim
          (λ z.
          let b : a - a % 1024 ≡ 0 = omega (arith, z) in
          inner_quiet a y e off (subst (λ k. a < k) (ap (top_at new) b ∙ first_top) l))
          (λ d.
          let b : a - a % 1024 ≡ 1024 * (a / 1024) = omega arith in
          let t : top_at new (a - a % 1024) ≡ 1024 * (a / 1024) + 1 =
          ap (top_at new) b ∙ later_top (a / 1024) (omega (arith, d)) ∙ new_page ws n (a / 1024) (omega (arith, h, same_size)) in
          absurd (off (omega (arith, l, t))))
          (cases_eq (a / 1024) 0)

  -- the rooms: only the first page's is smaller
  laid_fits : first_fit (rooms ws) (replicate vars 2) ≡ Some (rooms new)
  laid_fits =
      let m = length ws / 1024 - 1 in
      let count : length ws / 1024 ≡ suc m = omega (arith, page) in
      let old : room ws 0 ≡ 1023 = let t = new_page ws n 0 there in omega (arith, t) in
      let first : room ws 0 - 2 * vars ≡ room new 0 = omega (arith, old, first_top) in
      ap (λ k. first_fit (rooms_from ws 0 k) (replicate vars 2)) count
      ∙ two_by_two vars (room ws 0) (rooms_from ws 1 m) (omega (arith, old, few))
      ∙ (λ j. Some (first j ∷ sym (same_rooms ws new 1 m (λ q lo hi. ap (λ t. 1024 * q + 1024 - t) (later_top q (omega (arith, lo))))) j))
      ∙ ap (λ k. Some (rooms_from new 0 k)) (sym count ∙ ap (λ k. k / 1024) (sym same_size))

  pub places_laid : LaysPlaces vars ws new
  places_laid = record {
    pages = laid_pages;
    size = same_size;
    fits = laid_fits;
    names = name_at;
    words = word_at';
    quiet = quiet;
  }
