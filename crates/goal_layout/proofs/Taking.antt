-- Words are taken in a page.
use Rattle.std.proofs.Common.{◌≡◌, ℕ, ◌+◌, ◌-◌, ◌*◌, ◌/◌, ◌%◌, ◌<◌, ◌≤◌, true, false, List, length, set, slice_get, get_or, Some, None}
use Rattle.std.proofs.Common.{sym, ap, ◌∙◌, subst, arith, ◌⊎◌, inl, inr, ⊎_elim}
use Rattle.std.specs.Option.{option_and_then}
use Rattle.std.proofs.lemmas.Bool.{cases_eq, cases_lt, false≢true}
use Rattle.std.proofs.lemmas.List.{length-set}
use Rattle.std.proofs.lemmas.Option.{slice_get-get_or}
use Rattle.heap_words.specs.Cells.{decoded, encoded}
use Rattle.heap_words.specs.Heaps.{top_said, top_at, is_inside, inside_at}
use Rattle.heap_words.specs.HeapLaws.{inside_is}
use Rattle.heap_words.specs.declared.cell.Cell.TheVariants.{Top}
use Rattle.heap_words.proofs.QuietHeaps.{same_top, new_top, below_top, slice_get-set_other}
use Rattle.goal_layout.specs.FirstFit.{fit}
use Rattle.goal_layout.specs.Pages.{room, rooms_from, rooms, ArePages, Takes}
use Rattle.goal_layout.proofs.Insides.{first_inside, above_top, same_inside}
use Rattle.goal_layout.proofs.Fits.{fits_first, fits_nowhere}

-- the top of a page, as it was read
pub top_read : (ws : List ℕ) (i x : ℕ) → i < length ws → x ≡ top_said (decoded (get_or ws i 0)) → x ≡ top_at ws i
top_read ws i x h e = e ∙ ap (λ o. top_said (option_and_then decoded o)) (sym (slice_get-get_or ws i 0 h))

-- the first address of an address's page
page_of : (a p : ℕ) → 1024 * p ≤ a → a < 1024 * p + 1024 → a - a % 1024 ≡ 1024 * p
page_of a p l h = omega arith

module _ (ws : List ℕ) (p n : ℕ) (pages : ArePages ws) (some : 0 < n) (there : 1024 * p < length ws) (has : n ≤ room ws p) where
  abbrev first : ℕ
  first = 1024 * p

  abbrev top : ℕ
  top = top_at ws first

  abbrev new : List ℕ
  new = set ws first (encoded (Top (top + n)))

  low : first < top
  low = pages.above p there

  high : top + n ≤ first + 1024
  high = let h = pages.within p there in omega (arith, has, h)

  end : first + 1024 ≤ length ws
  end = let w = pages.whole in omega (arith, there, w)

  rises : top_at new first ≡ top + n
  rises = let s = pages.small in new_top ws first (top + n) there (omega (arith, high, end, s))

  other_top : (a : ℕ) → (a ≡ first → ⊥) → top_at new a ≡ top_at ws a
  other_top a d = same_top ws first (encoded (Top (top + n))) a d

  same_length : length new ≡ length ws
  same_length = length-set ws first (encoded (Top (top + n)))

  kept : (b : ℕ) → (b % 1024 ≡ 0 → ⊥) → slice_get new b ≡ slice_get ws b
  kept b off = slice_get-set_other ws first b (encoded (Top (top + n))) (λ e. off (omega arith))

  in_page : (b : ℕ) → top ≤ b → b < top + n → b - b % 1024 ≡ first
  in_page b l h = page_of b p (omega (arith, low)) (omega (arith, high))

  off : (b : ℕ) → top ≤ b → b < top + n → b % 1024 ≡ 0 → ⊥
  off b l h e = omega (arith, in_page b l h, low, e)

  free : (b : ℕ) → top ≤ b → b < top + n → is_inside ws b ≡ false
  free b l h = above_top ws b (off b l h) (subst (λ f. top_at ws f ≤ b) (sym (in_page b l h)) l)

  now_inside : (b : ℕ) → top ≤ b → b < top + n → is_inside new b ≡ true
  now_inside b l h =
      let t : top_at new (b - b % 1024) ≡ top + n = ap (top_at new) (in_page b l h) ∙ rises in
      below_top new b (omega (arith, same_length, high, end)) (subst (λ k. b < k) (sym t) h)

  in_reach : (b : ℕ) → b - b % 1024 ≡ first → b < length ws
  in_reach b e = omega (arith, e, end)

  others : (b : ℕ) → (b < top) ⊎ (top + n ≤ b) → is_inside new b ≡ is_inside ws b
  others b d = ⊎_elim here (λ e. same_inside ws new b same_length (other_top (b - b % 1024) e)) (cases_eq (b - b % 1024) first)
    where
      here : b - b % 1024 ≡ first → is_inside new b ≡ is_inside ws b
      here e = ⊎_elim
          (λ m. first_inside new b (omega (arith, in_reach b e, same_length)) m ∙ sym (first_inside ws b (in_reach b e) m))
          (λ m. ⊎_elim
          (λ l. below_top new b (omega (arith, in_reach b e, same_length))
          (subst (λ k. b < k) (sym (ap (top_at new) e ∙ rises)) (omega (arith, l)))
          ∙ sym (below_top ws b (in_reach b e) (subst (λ k. b < k) (sym (ap (top_at ws) e)) l)))
          (λ l. above_top new b m (subst (λ k. k ≤ b) (sym (ap (top_at new) e ∙ rises)) l)
          ∙ sym (above_top ws b m (subst (λ k. k ≤ b) (sym (ap (top_at ws) e)) (omega (arith, l)))))
          d)
          (cases_eq (b % 1024) 0)

  other_page : (q : ℕ) → (q ≡ p → ⊥) → top_at new (1024 * q) ≡ top_at ws (1024 * q)
  other_page q d = other_top (1024 * q) (λ e. d (omega (arith, e)))

  above : (q : ℕ) → 1024 * q < length new → 1024 * q < top_at new (1024 * q)
  above q h = ⊎_elim
      (λ e. subst (λ k. 1024 * k < top_at new (1024 * k)) (sym e) (omega (arith, rises, low)))
      (λ d. subst (λ k. 1024 * q < k) (sym (other_page q d)) (pages.above q (omega (arith, h, same_length))))
      (cases_eq q p)

  within : (q : ℕ) → 1024 * q < length new → top_at new (1024 * q) ≤ 1024 * q + 1024
  within q h = ⊎_elim
      (λ e. subst (λ k. top_at new (1024 * k) ≤ 1024 * k + 1024) (sym e) (omega (arith, rises, high)))
      (λ d. subst (λ k. k ≤ 1024 * q + 1024) (sym (other_page q d)) (pages.within q (omega (arith, h, same_length))))
      (cases_eq q p)

  -- an address that is not inside afterwards was not inside before
  was_free : (b : ℕ) → is_inside new b ≡ false → is_inside ws b ≡ false
  was_free b f = ⊎_elim
      (λ l. sym (others b (inl l)) ∙ f)
      (λ l. ⊎_elim (λ m. free b l m) (λ m. sym (others b (inr m)) ∙ f) (cases_lt b (top + n)))
      (cases_lt b top)

  clear : (b : ℕ) → b < length new → is_inside new b ≡ false → slice_get new b ≡ Some 0
  clear b h f = kept b off' ∙ pages.clear b (omega (arith, h, same_length)) (was_free b f)
    where
      off' : b % 1024 ≡ 0 → ⊥
      off' m = false≢true (sym f ∙ first_inside new b h m)

  are_pages : ArePages new
  are_pages = record {
    whole = ap (λ k. k % 1024) same_length ∙ pages.whole;
    small = let s = pages.small in omega (arith, same_length, s);
    above = above;
    within = within;
    clear = clear;
  }

  taken : (b : ℕ) → top ≤ b → b < top + n → inside_at new b ≡ Some 0
  taken b l h = inside_is new b 0 (now_inside b l h) (kept b (off b l h) ∙ pages.clear b (omega (arith, h, high, end)) (free b l h))

  same_count : length new / 1024 ≡ length ws / 1024
  same_count = ap (λ k. k / 1024) same_length

  pub takes : ((q : ℕ) → q < p → room ws q < n) → Takes ws new n top
  takes small = record {
    pages = are_pages;
    size = same_length;
    fits = fits_first ws new n p 0 (length ws / 1024) (omega arith) (let w = pages.whole in omega (arith, there, w))
        (λ q _ h. small q h) has (omega (arith, rises, high)) (λ q d. ap (λ t. 1024 * q + 1024 - t) (other_page q d))
        ∙ ap (λ k. Some (rooms_from new 0 k)) (sym same_count);
    first = omega (arith, low);
    last = omega (arith, high, end);
    free = free;
    taken = taken;
    off = off;
    others = others;
    kept = kept;
  }

-- no page has room
pub takes_nothing : (ws : List ℕ) (n : ℕ) → ((q : ℕ) → q < length ws / 1024 → room ws q < n) → fit n (rooms ws) ≡ None
takes_nothing ws n h = fits_nowhere ws n 0 (length ws / 1024) (λ q _ l. h q (omega (arith, l)))

-- the same of words as they were read
pub took : (ws ws' : List ℕ) (p n top x : ℕ) → ws ≡ ws' → ArePages ws' → 0 < n → 1024 * p < length ws
    → top ≡ top_said (decoded (get_or ws (1024 * p) 0)) → n ≤ 1024 * p + 1024 - top → x ≡ encoded (Top (top + n))
    → ((q : ℕ) → q < p → room ws q < n) → Takes ws' (set ws (1024 * p) x) n top
took ws ws' p n top x same pages some there read has word small =
    let e : top ≡ top_at ws (1024 * p) = top_read ws (1024 * p) top there read in
    let t = takes ws p n (subst ArePages (sym same) pages) some there (subst (λ t. n ≤ 1024 * p + 1024 - t) e has) small in
    subst (λ us. Takes us (set ws (1024 * p) x) n top) same
    (subst (λ y. Takes ws (set ws (1024 * p) y) n top) (sym word)
    (subst (λ t. Takes ws (set ws (1024 * p) (encoded (Top (t + n)))) n t) (sym e) t))

-- one page more has no room
pub too_small : (ws : List ℕ) (p n top : ℕ) → 1024 * p < length ws → top ≡ top_said (decoded (get_or ws (1024 * p) 0))
    → 1024 * p + 1024 - top < n → ((q : ℕ) → q < p → room ws q < n) → (q : ℕ) → q < p + 1 → room ws q < n
too_small ws p n top there read few small q h = ⊎_elim
    (λ e. subst (λ k. room ws k < n) (sym e) (subst (λ t. 1024 * p + 1024 - t < n) (top_read ws (1024 * p) top there read) few))
    (λ d. small q (omega (arith, d, h)))
    (cases_eq q p)
