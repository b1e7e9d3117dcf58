-- In words that stand for a state, the entries of an unbound place's list are the hangs of its waiting list.
use Rattle.std.proofs.Common.{◌≡◌, ℕ, ◌+◌, ◌<◌, List, [], ◌∷◌, Option, Some, None, refl, sym, ap, ◌∙◌, subst, arith}
use Rattle.std.proofs.Common.{inl, inr, ⊎_elim}
use Rattle.std.specs.Prelude.{pos}
use Rattle.fcp_model.specs.declared.run.Place.{Place}
use Rattle.fcp_model.specs.Places.{made}
use Rattle.fcp_model.specs.Terms.{Term, find}
use Rattle.fcp_model.specs.Places.{Variable}
use Rattle.fcp_model.specs.States.{State}
use Rattle.heap_words.specs.Cells.{decoded}
use Rattle.heap_words.specs.Trails.{WordList}
use Rattle.heap_words.specs.declared.cell.Cell.{Cell}
use Rattle.heap_words.specs.declared.cell.Cell.TheVariants.{Unbound, Small, Nil, Cons, Raw}
use Rattle.word_states.specs.Words.{Words, At, Among}
use Rattle.word_states.specs.Standing.{Book, StandsFor, PlaceAt, PlaceSays, Hangs, LinkSays}
use Rattle.word_states.proofs.Leading.{open_short}
use Rattle.suspension_lists.specs.Cells.{list_of, link_of, process_of}
use Rattle.suspension_lists.specs.Waking.{Within}
use Rattle.suspension_lists.specs.Entries.{Tells, IsOneOf, IsEntry, NoEntry, Path, ListHas}
use Rattle.suspension_lists.specs.declared.entries.Entry.{Entry}

-- these entries are these hangs, in order
abbrev pub Matches : Words → List Entry → WordList → Type 0
Matches w [] [] = Unit {0}
Matches w (a ∷ as') (z ∷ zs) = (a.process ≡ z.0) × At w (a.at + 1) (Small (pos z.1)) × Matches w as' zs
Matches w _ _ = ⊥

pub one_word : (o : Option ℕ) (x y : ℕ) → o ≡ Some x → o ≡ Some y → x ≡ y
one_word o x y e i = let h : Some x ≡ Some y = sym e ∙ i in cc

some_raw : (p q : ℕ) → Some (Raw p) ≡ Some (Raw q) → p ≡ q
some_raw p q e = cc

module _ {k w : Words} (up : Within k w) where
  -- what kept words tell is what the words at hand say
  pub tells_same : {A : Type 0} (f : Option Cell → A) (a : ℕ) (y : A) (c : Cell) → Tells f k a y → At w a c → f (Some c) ≡ y
  tells_same f a y c t h =
      let x : t.0 ≡ h.0 = one_word (w a) t.0 h.0 (up a t.0 t.1) h.1 in
      sym (ap f h.2) ∙ (ap (λ (z : ℕ). f (decoded z)) (sym x) ∙ t.2)

  no_entry_here : (f p : ℕ) → NoEntry k f → 0 < f → At w f (Raw p) → ⊥
  no_entry_here f p n above h =
      ⊎_elim (λ i. let j : 0 < 0 = subst (λ (m : ℕ). 0 < m) i above in omega (arith, j))
      (λ t. let j : Some p ≡ None = tells_same process_of f None (Raw p) t h in cc) n

  same_link : (a l m : ℕ) → Tells link_of k a l → LinkSays w a m → m ≡ l
  same_link a l m t s =
      ⊎_elim (λ i. i.1 ∙ tells_same link_of a l Nil t i.0) (λ i. tells_same link_of a l (Cons m) t i.0) s

  pub entries_match : (as' : List Entry) (zs : WordList) (f e : ℕ) → Path k f as' e → NoEntry k e → Hangs w f zs → Matches w as' zs
  entries_match [] [] f e p n h = tt
  entries_match [] (z ∷ zs) f e p n h = no_entry_here f z.0 (subst (λ (m : ℕ). NoEntry k m) (sym p) n) h.0 h.1
  entries_match (a ∷ as') [] f e p n h =
      let above : 0 < a.at = p.1.1.above in absurd (let j : a.at ≡ 0 = p.0 ∙ h in omega (arith, above, j))
  entries_match (a ∷ as') (z ∷ zs) f e p n h =
      let i : IsEntry k a p.1.0 = p.1.1 in
      let raw : Some z.0 ≡ Some a.process =
      tells_same process_of a.at (Some a.process) (Raw z.0) i.process (subst (λ (m : ℕ). At w m (Raw z.0)) (sym p.0) h.1) in
      let link : h.3.0 ≡ p.1.0 =
      same_link (a.at + 2) p.1.0 h.3.0 i.link (subst (λ (m : ℕ). LinkSays w (m + 2) h.3.0) (sym p.0) h.3.1) in (
        let q : a.process ≡ z.0 = cc in q,
        subst (λ (m : ℕ). At w (m + 1) (Small (pos z.1))) (sym p.0) h.2,
        entries_match as' zs p.1.0 e p.1.2 n (subst (λ (m : ℕ). Hangs w m zs) link h.3.2),
      )

-- each hang has its entry, and each entry its hang
pub hang_entry : (w : Words) (as' : List Entry) (zs : WordList) (z : ℕ × ℕ) → Matches w as' zs → Among zs z
    → (a : Entry) × IsOneOf a as' × (a.process ≡ z.0) × At w (a.at + 1) (Small (pos z.1))
hang_entry w [] [] z m i = absurd i
hang_entry w [] (y ∷ ys) z m i = absurd m
hang_entry w (a ∷ as') [] z m i = absurd m
hang_entry w (a ∷ as') (y ∷ ys) z m i =
    ⊎_elim (λ e. (
      a,
      inl refl,
      m.0 ∙ ap (λ (v : ℕ × ℕ). v.0) e,
      subst (λ (v : ℕ × ℕ). At w (a.at + 1) (Small (pos v.1))) e m.1,
    )) (λ j. let r = hang_entry w as' ys z m.2 j in (r.0, inr r.1, r.2, r.3)) i

pub entry_hang : (w : Words) (as' : List Entry) (zs : WordList) (a : Entry) → Matches w as' zs → IsOneOf a as'
    → (n : ℕ) × Among zs (a.process, n) × At w (a.at + 1) (Small (pos n))
entry_hang w [] [] a m i = absurd i
entry_hang w [] (y ∷ ys) a m i = absurd m
entry_hang w (b ∷ bs) [] a m i = absurd m
entry_hang w (b ∷ bs) (y ∷ ys) a m i =
    ⊎_elim (λ e. (
      y.1,
      inl (ap (λ (p : ℕ). (p, y.1)) (sym m.0 ∙ ap (λ (c : Entry). c.process) e)),
      subst (λ (c : Entry). At w (c.at + 1) (Small (pos y.1))) e m.1,
    )) (λ j. let r = entry_hang w bs ys a m.2 j in (r.0, inr r.1, r.2)) i

-- the hangs of an unbound place's list
pub record HungThere (book : Book) (w : Words) (s : State) (a : ℕ) (as' : List Entry) : Type 0 where
  pub first : ℕ
  pub hangs : WordList
  pub unbound : At w a (Unbound first)
  pub listed : Hangs w first hangs
  pub match : Matches w as' hangs

pub hung_there : {k w : Words} {book : Book} {s : State} → Within k w → StandsFor book w s → (j : Place) (a : ℕ) (as' : List Entry)
    → PlaceAt book j a → find s.bound (made j) ≡ None → ListHas k a as' → HungThere book w s a as'
hung_there {k = k} {w = w} {book = book} {s = s} up st j a as' at none l =
    let word = st.says.word (made j) a at in
    let says : PlaceSays w book.places word.0 None =
    subst (λ (o : Option (Term Variable)). PlaceSays w book.places word.0 o) (open_short s.bound s.bound st.short (made j) st.shortened none)
    word.2 in
    let there : At w a (Unbound says.0) = (word.0, word.1, says.1) in
    let list = st.lists j a says.0 at there in
    let first : says.0 ≡ l.0 = tells_same up list_of a l.0 (Unbound says.0) l.1 there in
    record {
      first = says.0;
      hangs = list.0;
      unbound = there;
      listed = list.1;
      match = entries_match up as' list.0 l.0 l.2.0 l.2.1 l.2.2 (subst (λ (m : ℕ). Hangs w m list.0) first list.1);
    }
