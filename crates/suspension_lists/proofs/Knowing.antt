-- Which addresses are known by a word that leads to a waiting entry.
use Rattle.std.proofs.Common.{◌≡◌, ℕ, zero, suc, ◌+◌, ◌<◌, ◌≤◌, Option, Some, refl, sym, subst, arith, inl, inr, ⊎_elim, Fits, w32}
use Rattle.std.proofs.lemmas.Bool.Decides.{nat_tests}
use Rattle.heap_words.specs.Cells.{decoded}
use Rattle.heap_words.specs.Refers.{teller}
use Rattle.heap_words.specs.WordsLaws.{WordsLaws}
use Rattle.heap_words.specs.Trails.{WordList, word_at, Holds}
use Rattle.heap_words.specs.declared.cell.Cell.TheVariants.{Unbound, Cons, Status}
use Rattle.heap_words.specs.declared.cell.Stand.{Stand}
use Rattle.suspension_lists.specs.Cells.{list_of, link_of, process_of}
use Rattle.suspension_lists.specs.Entries.{Tells, LeadsTo, MayLead}
use Rattle.suspension_lists.proofs.CellCases.{is_raw, is_cons, is_unbound}

teller_unbound : (e : ℕ) → 0 < e → teller (Unbound e) ≡ Some e
teller_unbound e i = grind (arith, nat_tests, i)

-- what may lead to an entry does so unless the address is 0
pub may_lead : {leads : ℕ → Type 0} (e : ℕ) → MayLead leads e → (e ≡ 0 → ⊥) → LeadsTo leads e
may_lead e l n = ⊎_elim (λ i. absurd (n i)) (λ i. i) l

module _ {S : Type 0} {addresses : S → ℕ} {sound : S → Type 0} {knows : S → ℕ → Type 0} {had : S → ℕ → ℕ → Type 0} {leads : S → ℕ → Type 0}
    {own shown : S → ℕ → Option ℕ} {later : S → S → Type 0} {gave : S → S → ℕ → ℕ → Type 0}
    (laws : WordsLaws {S = S} addresses sound knows had leads own shown later gave) where
  -- the first two words of the entry
  pub first_known : {w : S} (e : ℕ) → sound w → LeadsTo (leads w) e → knows w e
  first_known {w = w} e s l =
      let x = l.1.0 in
      ⊎_elim (λ i. laws.reaches w x e (Unbound e) s l.1.1 i (l.0, omega arith, omega arith))
      (λ i. laws.reaches w x e (Cons e) s l.1.1 i (inl refl)) l.1.2

  pub second_known : {w : S} (e : ℕ) → sound w → LeadsTo (leads w) e → knows w (e + 1)
  second_known {w = w} e s l =
      let x = l.1.0 in
      ⊎_elim (λ i. laws.reaches w x (e + 1) (Unbound e) s l.1.1 i (l.0, omega arith, omega arith))
      (λ i. laws.reaches w x (e + 1) (Cons e) s l.1.1 i (inr (let k : e + 1 ≡ suc e = omega arith in k))) l.1.2

  -- its third word, and its process, by its first word
  pub third_known : {kept binds : WordList} {w : S} (e p : ℕ) → sound w → Holds had leads kept binds w → LeadsTo (leads w) e
      → Tells process_of (word_at kept) e (Some p) → knows w (e + 2)
  third_known {w = w} e p s h l t =
      let x = l.1.0 in
      ⊎_elim (λ i. laws.reaches w x (e + 2) (Unbound e) s l.1.1 i (l.0, omega arith, omega arith))
      (λ i. laws.reaches_by w x e t.0 p (e + 2) (Cons e) s l.1.1 i refl (h.kept_had e t.0 t.1) (is_raw (decoded t.0) p t.2) (inr refl))
      l.1.2

  pub process_known : {kept binds : WordList} {w : S} (e p : ℕ) → sound w → Holds had leads kept binds w → LeadsTo (leads w) e
      → Tells process_of (word_at kept) e (Some p) → knows w p
  process_known {w = w} e p s h l t =
      let x = l.1.0 in
      ⊎_elim (λ i. laws.reaches_by w x e t.0 p p (Unbound e) s l.1.1 i (teller_unbound e l.0) (h.kept_had e t.0 t.1)
      (is_raw (decoded t.0) p t.2) refl)
      (λ i. laws.reaches_by w x e t.0 p p (Cons e) s l.1.1 i refl (h.kept_had e t.0 t.1) (is_raw (decoded t.0) p t.2) (inl refl))
      l.1.2

  -- after a status the next word is known
  pub name_known : {kept binds : WordList} {w : S} (p x : ℕ) (d : Stand) → sound w → Holds had leads kept binds w
      → word_at kept p ≡ Some x → decoded x ≡ Some (Status d) → knows w (p + 1)
  name_known {w = w} p x d s h e i = laws.behind_status w p x (p + 1) d s (h.kept_had p x e) i (omega arith) (omega arith)

  -- to what a place's word and a link lead
  pub list_leads : {kept binds : WordList} {w : S} (a x : ℕ) → sound w → Holds had leads kept binds w → word_at kept a ≡ Some x
      → MayLead (leads w) (list_of (decoded x))
  list_leads {w = w} a x s h e = go (list_of (decoded x)) refl
    where
      go : (l : ℕ) → list_of (decoded x) ≡ l → MayLead (leads w) (list_of (decoded x))
      go zero i = inl i
      go (suc l) i =
          let above : 0 < list_of (decoded x) = omega arith in
          inr (above, (x, laws.had_leads w a x s (h.kept_had a x e), inl (is_unbound (decoded x) above)))

  pub link_leads : {kept binds : WordList} {w : S} (a x : ℕ) → sound w → Holds had leads kept binds w → word_at kept a ≡ Some x
      → MayLead (leads w) (link_of (decoded x))
  link_leads {w = w} a x s h e = go (link_of (decoded x)) refl
    where
      go : (l : ℕ) → link_of (decoded x) ≡ l → MayLead (leads w) (link_of (decoded x))
      go zero i = inl i
      go (suc l) i =
          let above : 0 < link_of (decoded x) = omega arith in
          inr (above, (x, laws.had_leads w a x s (h.kept_had a x e), inr (is_cons (decoded x) above)))

  -- while only loads are made
  pub still_leads : {v w : S} (e : ℕ) → later v w → LeadsTo (leads v) e → LeadsTo (leads w) e
  still_leads {v = v} {w = w} e b l = (l.0, (l.1.0, laws.stays_leading v w l.1.0 b l.1.1, l.1.2))

  pub still_may_lead : {v w : S} (e : ℕ) → later v w → MayLead (leads v) e → MayLead (leads w) e
  still_may_lead e b l = ⊎_elim (λ i. inl i) (λ i. inr (still_leads e b i)) l

  pub still_store : {v w : S} → later v w → addresses v ≤ 4000000000 → addresses w ≤ 4000000000
  still_store {v = v} {w = w} b i = subst (λ (n : ℕ). n ≤ 4000000000) (sym (laws.fixed v w b)) i

  -- a known address of the store is one of 32 bits
  pub store_fits : {w : S} (a : ℕ) → sound w → knows w a → addresses w ≤ 4000000000 → Fits w32 a
  store_fits {w = w} a s k few = let i : a < addresses w = laws.in_range w a s k in omega arith
