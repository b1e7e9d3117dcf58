-- Where words lead that were read, or that are known.
use Rattle.std.proofs.Common.{◌≡◌, ℕ, zero, suc, ◌+◌, ◌<◌, ◌≤◌, Bool, true, false, cond, List, [], ◌∷◌, length, refl, sym, ap, ◌∙◌, subst}
use Rattle.std.proofs.Common.{⊎_elim, inl, inr, arith, true≢false, Option, Some, None}
use Rattle.std.specs.Prelude.{◌/◌, ◌%◌, nat_eq, nat_lt, ℤ, slice_get}
use Rattle.std.proofs.lemmas.Bool.{cond-false, eq-eqb, ne_eqb, cases_lt}
use Rattle.std.proofs.lemmas.Option.{same_Some}
use Rattle.heap_words.specs.Cells.{decoded, cell_of, lowered}
use Rattle.heap_words.specs.Refers.{Refers, HasPart, teller, RefersBy, HasPartBy}
use Rattle.heap_words.specs.Trails.{WordList}
use Rattle.heap_words.specs.declared.cell.Cell.{Cell}
use Rattle.heap_words.specs.declared.cell.Cell.TheVariants.{Unbound, Ref, RoRef, Small, Wide, Str, Nil, Cons, Tuple, Raw, Top}
use Rattle.heap_words.specs.declared.cell.Cell.TheVariants as cell
use Rattle.word_states.specs.Layouts.{moved_cell, moved_in, moved, name_word}
use Rattle.word_states.specs.Led.{IsKnown, read_at, reached, reached_by, of_process, IsLed, was_read, of_known}
use Rattle.word_states.specs.Words.{Words, Among, Has}
use Rattle.word_state_laws.proofs.LaidPieces.{becomes_moved}
use Rattle.sound_entries.specs.Closed.{LeadsIn, AreClosed}

-- a list has a word below its length
pub get_of : (q : List ℕ) (d : ℕ) → d < length q → (y : ℕ) × (slice_get q d ≡ Some y)
get_of [] d h = absurd (omega arith)
get_of (y ∷ q) zero h = (y, refl)
get_of (y ∷ q) (suc d) h = get_of q d (omega arith)

-- the number that tells more stands where the cell refers by itself
pub teller_refers : (c : Cell) (t : ℕ) → teller c ≡ Some t → Refers c t
teller_refers (Unbound k) t e = go (nat_eq k 0) refl e
  where
    go : (b : Bool) → nat_eq k 0 ≡ b → cond b None (Some k) ≡ Some t → (0 < k) × (k ≤ t) × (t < k + 3)
    go true i j = cc
    go false i j =
        let h : k ≡ t = same_Some k t j in
        let l : 0 < k = ⊎_elim (λ (l : 0 < k). l) (λ (l : k ≤ 0). absurd (true≢false (sym (eq-eqb k 0 (omega arith)) ∙ i)))
        (cases_lt 0 k) in
        (l, omega arith, omega arith)
teller_refers (Ref a) t e = cc
teller_refers (RoRef a) t e = cc
teller_refers (Small z) t e = cc
teller_refers (Wide a h) t e = cc
teller_refers (Str s) t e = cc
teller_refers Nil t e = cc
teller_refers (Cons a) t e = inl (sym (same_Some a t e))
teller_refers (Tuple a) t e = sym (same_Some a t e)
teller_refers (cell.Status d) t e = cc
teller_refers (Raw n) t e = cc
teller_refers (Top a) t e = cc

-- a part is referred to
pub part_refers : (c : Cell) (b : ℕ) → HasPart c b → Refers c b
part_refers (Unbound k) b r = r
part_refers (Ref a) b r = absurd r
part_refers (RoRef a) b r = absurd r
part_refers (Small z) b r = r
part_refers (Wide a h) b r = r
part_refers (Str s) b r = r
part_refers Nil b r = r
part_refers (Cons a) b r = r
part_refers (Tuple a) b r = r
part_refers (cell.Status d) b r = r
part_refers (Raw n) b r = r
part_refers (Top a) b r = r

pub part_by_refers : (n : ℕ) (c : Cell) (b : ℕ) → HasPartBy n c b → RefersBy n c b
part_by_refers n (Unbound k) b r = absurd r
part_by_refers n (Ref a) b r = absurd r
part_by_refers n (RoRef a) b r = absurd r
part_by_refers n (Small z) b r = absurd r
part_by_refers n (Wide a h) b r = absurd r
part_by_refers n (Str s) b r = absurd r
part_by_refers n Nil b r = absurd r
part_by_refers n (Cons a) b r = inr r
part_by_refers n (Tuple a) b r = r
part_by_refers n (cell.Status d) b r = absurd r
part_by_refers n (Raw m) b r = absurd r
part_by_refers n (Top a) b r = absurd r

-- the number of a waiting list stands at its first entry
pub teller_of : (e : ℕ) → 0 < e → teller (Unbound e) ≡ Some e
teller_of e h = cond-false _ _ _ (ne_eqb e 0 (λ q. omega arith))

pub told_is : (e t : ℕ) → teller (Unbound e) ≡ Some t → e ≡ t
told_is e t h = go (nat_eq e 0) h
  where
    go : (b : Bool) → cond b None (Some e) ≡ Some t → e ≡ t
    go true f = cc
    go false f = same_Some e t f

-- a word whose cell is another's leads where that one does
pub leads_same : (ever : ℕ → ℕ → Type 0) (w : Words) (x y : ℕ) → decoded y ≡ decoded x → LeadsIn ever w x → LeadsIn ever w y
leads_same ever w x y e h = record {
  refers = λ b c d r. h.refers b c (sym e ∙ d) r;
  refers_by = λ t z n b c d i j k r. h.refers_by t z n b c (sym e ∙ d) i j k r;
  part_final = λ b z c d r k. h.part_final b z c (sym e ∙ d) r k;
  part_final_by = λ t z n b u c d i j k r l. h.part_final_by t z n b u c (sym e ∙ d) i j k r l;
}

-- a word without a cell leads nowhere
pub leads_none : (ever : ℕ → ℕ → Type 0) (w : Words) (x : ℕ) → decoded x ≡ None → LeadsIn ever w x
leads_none ever w x e = record {
  refers = λ b c d r. let bad : None ≡ Some c = sym e ∙ d in cc;
  refers_by = λ t z n b c d i j k r. (let bad : None ≡ Some c = sym e ∙ d in cc);
  part_final = λ b z c d r k. (let bad : None ≡ Some c = sym e ∙ d in cc);
  part_final_by = λ t z n b u c d i j k r l. (let bad : None ≡ Some c = sym e ∙ d in cc);
}

-- and so does one whose cell refers to nothing by itself
pub leads_nothing : (ever : ℕ → ℕ → Type 0) (w : Words) (x : ℕ) (c : Cell) → decoded x ≡ Some c → ((b : ℕ) → Refers c b → ⊥)
    → LeadsIn ever w x
leads_nothing ever w x c e f = record {
  refers = λ b d g r. absurd (f b (subst (λ (z : Cell). Refers z b) (same_Some d c (sym g ∙ e)) r));
  refers_by = λ t z n b d g i j k r. absurd (f t (subst (λ (z : Cell). Refers z t) (same_Some d c (sym g ∙ e)) (teller_refers d t i)));
  part_final = λ b z d g r k. absurd (f b (subst (λ (z : Cell). Refers z b) (same_Some d c (sym g ∙ e)) (part_refers d b r)));
  part_final_by = λ t z n b u d g i j k r l.
      absurd (f t (subst (λ (z : Cell). Refers z t) (same_Some d c (sym g ∙ e)) (teller_refers d t i)));
}

module _ (ever : ℕ → ℕ → Type 0) (w : Words) (closed : AreClosed ever w) (reads : WordList) (has : (a x : ℕ) → Among reads (a, x)
    → w a ≡ Some x) where
  stood : (a x : ℕ) → Among reads (a, x) → ever a x
  stood a x h = closed.now a x (has a x h)

  pub known_has : (b : ℕ) → IsKnown reads b → Has w b
  known_has b (read_at x h) = (x, has b x h)
  known_has b (reached a x c h d r) = (closed.leads a x (stood a x h)).refers b c d r
  known_has b (reached_by a x t y n c h d i k e r) = (closed.leads a x (stood a x h)).refers_by t y n b c d i (stood t y k) e r
  known_has b (of_process p x d h e l k) = closed.process p x b d (stood p x h) e l k

  pub led_leads : (x : ℕ) → IsLed reads x → LeadsIn ever w x
  led_leads x (was_read a h) = closed.leads a x (stood a x h)
  led_leads x (of_known f) = record {
    refers = λ b c d r. known_has b ((f c d).2 b r);
    refers_by = λ t y n b c d i j k r. (let bad : None ≡ Some t = sym (f c d).0 ∙ i in cc);
    part_final = λ b y c d r k. absurd ((f c d).1 b r);
    part_final_by = λ t z n b y c d i j k r l. (let bad : None ≡ Some t = sym (f c d).0 ∙ i in cc);
  }

-- the moved word of a Raw
moved_raw_cell : (f : ℕ → ℕ) (c : Cell) (n : ℕ) → moved_cell f c ≡ Raw n → c ≡ Raw n
moved_raw_cell f (Unbound a) n e = cc
moved_raw_cell f (Ref a) n e = cc
moved_raw_cell f (RoRef a) n e = cc
moved_raw_cell f (Small z) n e = cc
moved_raw_cell f (Wide a h) n e = cc
moved_raw_cell f (Str s) n e = cc
moved_raw_cell f Nil n e = cc
moved_raw_cell f (Cons a) n e = cc
moved_raw_cell f (Tuple a) n e = cc
moved_raw_cell f (cell.Status d) n e = cc
moved_raw_cell f (Raw m) n e = e
moved_raw_cell f (Top a) n e = cc

pub moved_raw : (f : ℕ → ℕ) (x n : ℕ) → ((a : ℕ) → a < 0x100000000 → f a < 0x100000000) → decoded (moved f x) ≡ Some (Raw n)
    → decoded x ≡ Some (Raw n)
moved_raw f x n small e = go (decoded x) refl
  where
    go : (o : Option Cell) → decoded x ≡ o → decoded x ≡ Some (Raw n)
    go None i = i ∙ sym i ∙ ap decoded (sym (ap (moved_in f x) i)) ∙ e
    go (Some c) i = i ∙ ap Some (moved_raw_cell f c n (same_Some _ _ (sym (becomes_moved f x c small i) ∙ e)))

-- a name's word refers to nothing
small_of : (x : ℕ) (t : Bool) (c : Cell) → cond t (Some (Small (lowered x))) None ≡ Some c → (z : ℤ) × (c ≡ Small z)
small_of x true c e = (lowered x, sym (same_Some _ _ e))
small_of x false c e = cc

pub name_small : (n k : ℕ) (c : Cell) → decoded (name_word n k) ≡ Some c → (z : ℤ) × (c ≡ Small z)
unfolding decoded
name_small n k c e = go (name_word n k % 16) (name_word n k / 16) rest refl e
  where
    rest : name_word n k % 16 ≡ 3
    rest = omega arith

    go : (t x : ℕ) → t ≡ 3 → x ≡ x → cell_of t x ≡ Some c → (z : ℤ) × (c ≡ Small z)
    go t x h i j = small_of x (nat_lt x 0x100000000000000) c (ap (λ (u : ℕ). cell_of u x) (sym h) ∙ j)
