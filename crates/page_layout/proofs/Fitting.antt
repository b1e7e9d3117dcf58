-- Pieces that go first fit.
use Rattle.std.proofs.Common.{◌≡◌, ◌⊎◌, ℕ, zero, suc, ◌+◌, ◌*◌, ◌<◌, ◌≤◌, Bool, true, false, cond, List, [], ◌∷◌, ◌++◌, set, slice_get}
use Rattle.std.proofs.Common.{refl, sym, ap, ◌∙◌, subst, ⊎_elim, inl, inr, arith, append_assoc, Option, Some, None, true≢false}
use Rattle.std.specs.Prelude.{◌&&◌, nat_eq, nat_lt, nat_le}
use Rattle.std.specs.Option.{option_and_then}
use Rattle.std.proofs.lemmas.Bool.{cases_lt, and_parts, and_from, ltb-true, leb-true, lt-ltb, le-leb, eqb-true, eq-eqb, cond-true}
use Rattle.std.proofs.lemmas.Option.{same_Some}
use Rattle.heap_words.specs.Cells.{decoded}
use Rattle.heap_words.specs.Trails.{WordList, word_at}
use Rattle.heap_words.specs.declared.cell.Cell.{Cell}
use Rattle.heap_words.specs.declared.cell.Cell.TheVariants.{Top}
use Rattle.word_states.specs.Words.{Words, At}
use Rattle.suspension_lists.specs.Waking.{Within}
use Rattle.page_layout.specs.declared.rooms.Room.{Room}
use Rattle.page_layout.specs.Laying.{run}
use Rattle.page_layout.specs.FirstFit.{free_by, next_free, raised, IsFirstFit, FirstFits}
use Rattle.page_layout.specs.Looking.{IsTopOf, WasLooked, Rise, AreOpened, FirstWith, free_in}

-- the same with what is free afterwards
abbrev pub FitsTo : ℕ → ℕ → (ℕ → ℕ) → List ℕ → List ℕ → (ℕ → ℕ) → Type 0
FitsTo from pages free [] table left = (table ≡ []) × ((p : ℕ) → left p ≡ free p)
FitsTo from pages free (n ∷ ns) table left = (p : ℕ) × (rest : List ℕ) × IsFirstFit from pages free n p × (table ≡ run (free p) n ++ rest)
    × FitsTo from pages (raised free p n) ns rest left

pub fits_only : (from pages : ℕ) (free : ℕ → ℕ) (ns table : List ℕ) (left : ℕ → ℕ) → FitsTo from pages free ns table left
    → FirstFits from pages free ns table
fits_only from pages free [] table left f = f.0
fits_only from pages free (n ∷ ns) table left f = (f.0, f.1, f.2, f.3, fits_only from pages (raised free f.0 n) ns f.1 left f.4)

pub fits_same : (from pages : ℕ) (free : ℕ → ℕ) (ns table : List ℕ) (left left' : ℕ → ℕ) → ((p : ℕ) → left' p ≡ left p)
    → FitsTo from pages free ns table left → FitsTo from pages free ns table left'
fits_same from pages free [] table left left' e f = (f.0, λ p. e p ∙ f.1 p)
fits_same from pages free (n ∷ ns) table left left' e f =
    (f.0, f.1, f.2, f.3, fits_same from pages (raised free f.0 n) ns f.1 left left' e f.4)

same_raised : (free left : ℕ → ℕ) (p n q : ℕ) → left q ≡ free q → raised left p n q ≡ raised free p n q
same_raised free left p n q e = ap (λ (a : ℕ). cond (nat_eq p q) (a + n) a) e

same_first : (from pages : ℕ) (free left : ℕ → ℕ) (n p : ℕ) → ((q : ℕ) → left q ≡ free q) → IsFirstFit from pages left n p
    → IsFirstFit from pages free n p
same_first from pages free left n p e f = record {
  low = f.low;
  high = f.high;
  fits = subst (λ (a : ℕ). a + n ≤ 1024 * p + 1024) (e p) f.fits;
  first = λ q lo hi. subst (λ (a : ℕ). 1024 * q + 1024 < a + n) (e q) (f.first q lo hi);
}

-- one piece more
pub fits_more : (from pages : ℕ) (free : ℕ → ℕ) (ns table : List ℕ) (left : ℕ → ℕ) (n p : ℕ) → FitsTo from pages free ns table left
    → IsFirstFit from pages left n p → FitsTo from pages free (ns ++ n ∷ []) (table ++ run (left p) n) (raised left p n)
fits_more from pages free [] table left n p f i = (
  p,
  [],
  same_first from pages free left n p f.1 i,
  ap (λ (ts : List ℕ). ts ++ run (left p) n) f.0 ∙ ap (λ (a : ℕ). run a n) (f.1 p) ∙ sym (append-nil (run (free p) n)),
  (refl, λ q. same_raised free left p n q (f.1 q)),
)
  where
    append-nil : (xs : List ℕ) → xs ++ [] ≡ xs
    append-nil [] = refl
    append-nil (x ∷ xs) = ap (λ (ys : List ℕ). x ∷ ys) (append-nil xs)
fits_more from pages free (m ∷ ns) table left n p f i = (
  f.0,
  f.1 ++ run (left p) n,
  f.2,
  ap (λ (ts : List ℕ). ts ++ run (left p) n) f.3 ∙ append_assoc (run (free f.0) m) f.1 (run (left p) n),
  fits_more from pages (raised free f.0 m) ns f.1 left n p f.4 i,
)

-- what a first word says of what is free
pub free_top : (w : Words) (p t : ℕ) → At w (1024 * p) (Top t) → 1024 * p < t → t ≤ 1024 * p + 1024 → next_free w p ≡ t
free_top w p t h lo hi =
    ap (λ (o : Option ℕ). free_by p (option_and_then decoded o)) h.1 ∙ ap (free_by p) h.2
    ∙ cond-true _ _ _ (and_from _ _ (lt-ltb (1024 * p) t lo) (le-leb t (1024 * p + 1024) hi))

pub free_none : (w : Words) (p x : ℕ) → w (1024 * p) ≡ Some x → (IsTopOf p (decoded x) → ⊥) → next_free w p ≡ 1024 * p + 1025
free_none w p x e h = ap (λ (o : Option ℕ). free_by p (option_and_then decoded o)) e ∙ past (decoded x) h
  where
    past : (o : Option Cell) → (IsTopOf p o → ⊥) → free_by p o ≡ 1024 * p + 1025
    past (Some (Top t)) f = go (nat_lt (1024 * p) t && nat_le t (1024 * p + 1024)) refl
      where
        go : (b : Bool) → (nat_lt (1024 * p) t && nat_le t (1024 * p + 1024)) ≡ b → cond b t (1024 * p + 1025) ≡ 1024 * p + 1025
        go true i = let a = and_parts _ _ i in absurd (f (ltb-true (1024 * p) t a.0, leb-true t (1024 * p + 1024) a.1))
        go false i = refl
    past _ f = refl

-- one page more of which no word is taken changes nothing
pub free_room : (w : Words) (rooms : List Room) (r : Room) (p : ℕ) → next_free w r.page ≡ r.top
    → free_in w (rooms ++ r ∷ []) p ≡ free_in w rooms p
free_room w [] r p e = go (nat_eq r.page p) refl
  where
    go : (b : Bool) → nat_eq r.page p ≡ b → cond b r.top (next_free w p) ≡ next_free w p
    go true i = sym e ∙ ap (next_free w) (eqb-true r.page p i)
    go false i = refl
free_room w (q ∷ rooms) r p e = ap (λ (a : ℕ). cond (nat_eq q.page p) q.top a) (free_room w rooms r p e)

-- what is free in a page is what its room says, or there is no room of it
pub free_cases : (w : Words) (rooms : List Room) (p : ℕ)
    → ((k : ℕ) × (r : Room) × (slice_get rooms k ≡ Some r) × (r.page ≡ p) × (free_in w rooms p ≡ r.top))
    ⊎ (((k : ℕ) (r : Room) → slice_get rooms k ≡ Some r → r.page ≡ p → ⊥) × (free_in w rooms p ≡ next_free w p))
free_cases w [] p = inr ((λ k r e h. let bad : None ≡ Some r = e in cc), refl)
free_cases w (q ∷ rooms) p = go (nat_eq q.page p) refl (free_cases w rooms p)
  where
    go : (b : Bool) → nat_eq q.page p ≡ b
        → ((k : ℕ) × (r : Room) × (slice_get rooms k ≡ Some r) × (r.page ≡ p) × (free_in w rooms p ≡ r.top))
        ⊎ (((k : ℕ) (r : Room) → slice_get rooms k ≡ Some r → r.page ≡ p → ⊥) × (free_in w rooms p ≡ next_free w p))
        → ((k : ℕ) × (r : Room) × (slice_get (q ∷ rooms) k ≡ Some r) × (r.page ≡ p) × (cond b q.top (free_in w rooms p) ≡ r.top))
        ⊎ (((k : ℕ) (r : Room) → slice_get (q ∷ rooms) k ≡ Some r → r.page ≡ p → ⊥) × (cond b q.top (free_in w rooms p) ≡ next_free w p))
    go true i h = inl (0, q, refl, eqb-true q.page p i, refl)
    go false i (inl h) = inl (suc h.0, h.1, h.2, h.3, h.4)
    go false i (inr h) = inr (none, h.1)
      where
        none : (k : ℕ) (r : Room) → slice_get (q ∷ rooms) k ≡ Some r → r.page ≡ p → ⊥
        none zero r e g =
            let s : q ≡ r = same_Some q r e in true≢false (sym (eq-eqb q.page p (ap (λ (x : Room). x.page) s ∙ g)) ∙ i)
        none (suc k) r e g = h.0 k r e g

-- two rooms of one page stand at one place
pub rise_once : (rooms : List Room) → Rise rooms → (j k : ℕ) (r q : Room) → slice_get rooms j ≡ Some r → slice_get rooms k ≡ Some q
    → r.page ≡ q.page → j ≡ k
rise_once rooms up j k r q e f h =
    ⊎_elim (λ (l : j < k). let a = up j k r q l e f in absurd (omega arith))
    (λ (g : k ≤ j). ⊎_elim (λ (l : k < j). let a = up k j q r l f e in absurd (omega arith)) (λ (l : j ≤ k). omega arith) (cases_lt k j))
    (cases_lt j k)

-- the k-th room is filled by n words more
abbrev pub filled : Room → ℕ → Room
filled r n = record { page = r.page; old = r.old; top = r.top + n }

pub free_filled : (w : Words) (rooms : List Room) (k n : ℕ) (r : Room) (p : ℕ) → Rise rooms → slice_get rooms k ≡ Some r
    → free_in w (set rooms k (filled r n)) p ≡ raised (free_in w rooms) r.page n p
free_filled w [] k n r p up at = let bad : None ≡ Some r = at in cc
free_filled w (q ∷ rooms) zero n r p up at = go (nat_eq r.page p) refl
  where
    same : q ≡ r
    same = same_Some q r at

    go : (b : Bool) → nat_eq r.page p ≡ b → cond b (r.top + n) (free_in w rooms p)
        ≡ cond b (cond (nat_eq q.page p) q.top (free_in w rooms p) + n) (cond (nat_eq q.page p) q.top (free_in w rooms p))
    go true i =
        ap (λ (a : ℕ). a + n)
        (sym (cond-true (nat_eq q.page p) q.top (free_in w rooms p) (ap (λ (x : Room). nat_eq x.page p) same ∙ i)
        ∙ ap (λ (x : Room). x.top) same))
    go false i =
        sym (ap (λ (x : Room). cond (nat_eq x.page p) x.top (free_in w rooms p)) same
        ∙ ap (λ (b : Bool). cond b r.top (free_in w rooms p)) i)
free_filled w (q ∷ rooms) (suc k) n r p up at =
    ap (λ (a : ℕ). cond (nat_eq q.page p) q.top a)
    (free_filled w rooms k n r p (λ i j s t l e f. up (suc i) (suc j) s t (omega arith) e f) at)
    ∙ go (nat_eq q.page p) refl (nat_eq r.page p) refl
  where
    go : (b : Bool) → nat_eq q.page p ≡ b → (c : Bool) → nat_eq r.page p ≡ c
        → cond b q.top (cond c (free_in w rooms p + n) (free_in w rooms p))
        ≡ cond c (cond b q.top (free_in w rooms p) + n) (cond b q.top (free_in w rooms p))
    go true i true j =
        let u = up 0 (suc k) q r (omega arith) refl at in
        let a = eqb-true q.page p i in let b = eqb-true r.page p j in absurd (omega arith)
    go true i false j = refl
    go false i true j = refl
    go false i false j = refl

module _ (kept : WordList) (rooms : List Room) (from next : ℕ) (are : AreOpened kept rooms from next)
    (looked : (p : ℕ) → from ≤ p → p < next → WasLooked kept rooms p) (w : Words) (has : Within (word_at kept) w) where
  free_at : (k : ℕ) (r : Room) → slice_get rooms k ≡ Some r → free_in w rooms r.page ≡ r.top
  free_at k r at = ⊎_elim
      (λ h. let same : h.0 ≡ k = rise_once rooms are.rise h.0 k h.1 r h.2 at h.3 in
      h.4 ∙ ap (λ (x : Room). x.top) (same_Some h.1 r (sym h.2 ∙ ap (slice_get rooms) same ∙ at)))
      (λ h. absurd (h.0 k r at refl))
      (free_cases w rooms r.page)

  -- the first room with so many free words is in the first page with so many
  pub first_page : (pages need k : ℕ) (r : Room) → next ≤ pages → slice_get rooms k ≡ Some r → FirstWith rooms need k
      → IsFirstFit from pages (free_in w rooms) need r.page
  first_page pages need k r le at f = record {
    low = (are.range k r at).0;
    high = let h = (are.range k r at).1 in omega arith;
    fits = subst (λ (a : ℕ). a + need ≤ 1024 * r.page + 1024) (sym (free_at k r at))
        (subst (λ (q : Room). q.top + need ≤ 1024 * q.page + 1024) (same_Some f.0 r (sym f.1 ∙ at)) f.2);
    first = λ q lo hi. ⊎_elim
        (λ h. before q hi h.0 h.1 h.2 h.3 h.4)
        (λ h. ⊎_elim (λ l. absurd (h.0 l.0 l.1 l.2 l.3))
        (λ l. let e = h.1 in let z = free_none w q l.0 (has (1024 * q) l.0 l.1) l.2 in omega arith)
        (looked q lo (let g = (are.range k r at).1 in omega arith)))
        (free_cases w rooms q);
  }
    where
      before : (q : ℕ) → q < r.page → (j : ℕ) (s : Room) → slice_get rooms j ≡ Some s → s.page ≡ q → free_in w rooms q ≡ s.top
          → 1024 * q + 1024 < free_in w rooms q + need
      before q hi j s e g h = ⊎_elim
          (λ (l : j < k). let z = f.3 j s l e in omega arith)
          (λ (l : k ≤ j). ⊎_elim
          (λ (m : k < j). let z = are.rise k j r s m at e in absurd (omega arith))
          (λ (m : j ≤ k). let same : j ≡ k = omega arith in
          let u : s ≡ r = same_Some s r (sym e ∙ ap (slice_get rooms) same ∙ at) in
          let v : s.page ≡ r.page = ap (λ (x : Room). x.page) u in absurd (omega arith))
          (cases_lt k j))
          (cases_lt j k)

  -- one piece more goes there
  pub fits_step : (pages : ℕ) (free : ℕ → ℕ) (ns table : List ℕ) (need k : ℕ) (r : Room) → next ≤ pages → slice_get rooms k ≡ Some r
      → FirstWith rooms need k → FitsTo from pages free ns table (free_in w rooms)
      → FitsTo from pages free (ns ++ need ∷ []) (table ++ run r.top need) (free_in w (set rooms k (filled r need)))
  fits_step pages free ns table need k r le at f i =
      subst (λ (a : ℕ). FitsTo from pages free (ns ++ need ∷ []) (table ++ run a need) (free_in w (set rooms k (filled r need))))
      (free_at k r at)
      (fits_same from pages free (ns ++ need ∷ []) (table ++ run (free_in w rooms r.page) need)
      (raised (free_in w rooms) r.page need) (free_in w (set rooms k (filled r need)))
      (λ p. free_filled w rooms k need r p are.rise at)
      (fits_more from pages free ns table (free_in w rooms) need r.page i (first_page pages need k r le at f)))
