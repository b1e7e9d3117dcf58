-- A walk along links comes to an entry once.
use Rattle.std.proofs.Common.{◌≡◌, ℕ, zero, suc, ◌+◌, ◌<◌, ◌≤◌, Bool, true, false, List, [], ◌∷◌, ◌++◌, Option, Some}
use Rattle.std.proofs.Common.{refl, sym, ap, ◌∙◌, subst, arith, inl, inr, ⊎_elim, eqb-true}
use Rattle.std.specs.Prelude.{◌⊎◌, ◌||◌, nat_eq}
use Rattle.std.proofs.lemmas.Bool.Decides.{nat_tests}
use Rattle.heap_words.specs.Cells.{decoded, is_final_word, is_final_in}
use Rattle.heap_words.specs.WordsLaws.{WordsLaws, Acyclic}
use Rattle.heap_words.specs.Trails.{WordList, word_at, KeepsLoads}
use Rattle.heap_words.specs.declared.cell.Cell.TheVariants.{Cons, Raw}
use Rattle.word_states.specs.Words.{Words}
use Rattle.suspension_lists.specs.declared.entries.Entry.{Entry}
use Rattle.suspension_lists.specs.declared.entries.Linked.{Linked}
use Rattle.suspension_lists.specs.Cells.{link_of}
use Rattle.suspension_lists.specs.Entries.{LeadsTo, IsOneOf, IsEntry, EntryAt, Path}
use Rattle.suspension_lists.proofs.CellCases.{is_raw, is_cons}
use Rattle.suspension_lists.proofs.Lists.{path_on}
use Rattle.suspension_lists.proofs.Knowing.{first_known}

-- one of the entries stands at the address
abbrev stands_at : List Entry → ℕ → Bool
stands_at [] n = false
stands_at (a ∷ as') n = nat_eq a.at n || stands_at as' n

abbrev absent : Bool → ℕ
absent true = 0
absent false = 1

-- how many of the first n addresses are those of none of these entries
abbrev pub lacks : List Entry → ℕ → ℕ
lacks as' zero = 0
lacks as' (suc n) = absent (stands_at as' n) + lacks as' n

or_false : (b c : Bool) → (b || c) ≡ true → (b ≡ true) ⊎ (c ≡ true)
or_false true c h = inl refl
or_false false c h = inr h

standing : (as' : List Entry) (n : ℕ) → stands_at as' n ≡ true → (a : Entry) × IsOneOf a as' × (a.at ≡ n)
standing [] n h = cc
standing (a ∷ as') n h =
    ⊎_elim (λ i. (a, inl refl, eqb-true a.at n i))
    (λ i. let r = standing as' n i in (r.0, inr r.1, r.2)) (or_false (nat_eq a.at n) (stands_at as' n) h)

-- an entry more
stands_more : (as' : List Entry) (a : Entry) (n : ℕ) → stands_at (as' ++ a ∷ []) n ≡ (stands_at as' n || nat_eq a.at n)
stands_more [] a n = go (nat_eq a.at n)
  where
    go : (b : Bool) → (b || false) ≡ (false || b)
    go true = refl
    go false = refl
stands_more (b ∷ bs) a n = go (stands_more bs a n) (nat_eq b.at n)
  where
    go : stands_at (bs ++ a ∷ []) n ≡ (stands_at bs n || nat_eq a.at n) → (c : Bool)
        → (c || stands_at (bs ++ a ∷ []) n) ≡ ((c || stands_at bs n) || nat_eq a.at n)
    go rec true = refl
    go rec false = rec

absent_less : (b c : Bool) → absent (b || c) ≤ absent b
absent_less true c = omega arith
absent_less false true = omega arith
absent_less false false = omega arith

absent_more : (as' : List Entry) (a : Entry) (n : ℕ) → absent (stands_at (as' ++ a ∷ []) n) ≡ absent (stands_at as' n || nat_eq a.at n)
absent_more as' a n = ap absent (stands_more as' a n)

lacks_less : (as' : List Entry) (a : Entry) (n : ℕ) → lacks (as' ++ a ∷ []) n ≤ lacks as' n
lacks_less as' a zero = omega arith
lacks_less as' a (suc n) =
    omega (arith, absent_more as' a n, absent_less (stands_at as' n) (nat_eq a.at n), lacks_less as' a n)

lacks_falls : (as' : List Entry) (a : Entry) (n : ℕ) → a.at < n → stands_at as' a.at ≡ false → lacks (as' ++ a ∷ []) n < lacks as' n
lacks_falls as' a zero i h = absurd (omega arith)
lacks_falls as' a (suc n) i h = go (λ l. lacks_falls as' a n l h) (nat_eq a.at n) refl
  where
    go : (a.at < n → lacks (as' ++ a ∷ []) n < lacks as' n) → (t : Bool) → nat_eq a.at n ≡ t
        → lacks (as' ++ a ∷ []) (suc n) < lacks as' (suc n)
    go rec true e =
        let was : absent (stands_at as' n) ≡ 1 =
        ap absent (subst (λ (m : ℕ). stands_at as' m ≡ false) (eqb-true a.at n e) h) in
        let is : absent (stands_at as' n || nat_eq a.at n) ≡ 0 =
        ap (λ (t : Bool). absent (stands_at as' n || t)) e
        ∙ ap (λ (b : Bool). absent (b || true)) (subst (λ (m : ℕ). stands_at as' m ≡ false) (eqb-true a.at n e) h) in
        omega (arith, absent_more as' a n, was, is, lacks_less as' a n)
    go rec false e =
        let below : a.at < n = grind (arith, nat_tests, i, e) in
        omega (arith, absent_more as' a n, absent_less (stands_at as' n) (nat_eq a.at n), rec below)

-- The order of links falls along a path.
module _ (w at : Words) (acyclic : Acyclic at) (shows : (a x : ℕ) → w a ≡ Some x → is_final_word x ≡ true → at a ≡ Some x) where
  link_falls : (a b : Entry) (l m : ℕ) → IsEntry w a l → IsEntry w b m → b.at ≡ l → acyclic.order (b.at + 2) < acyclic.order (a.at + 2)
  link_falls a b l m i j e =
      let x = i.link.0 in
      let y = j.process.0 in
      let to : link_of (decoded x) ≡ b.at = i.link.2 ∙ sym e in
      let above : 0 < link_of (decoded x) = subst (λ (n : ℕ). 0 < n) (sym to) j.above in
      let link : decoded x ≡ Some (Cons b.at) = is_cons (decoded x) above ∙ ap (λ (n : ℕ). Some (Cons n)) to in
      let raw : decoded y ≡ Some (Raw b.process) = is_raw (decoded y) b.process j.process.2 in
      acyclic.links (a.at + 2) b.at x y b.process (shows (a.at + 2) x i.link.1 (ap is_final_in link)) link
      (shows b.at y j.process.1 (ap is_final_in raw)) raw

  path_falls : (as' : List Entry) (f e m : ℕ) (b : Entry) → Path w f as' e → IsEntry w b m → b.at ≡ e → (a : Entry) → IsOneOf a as'
      → acyclic.order (b.at + 2) < acyclic.order (a.at + 2)
  path_falls [] f e m b p j i a o = absurd o
  path_falls (c ∷ []) f e m b p j i a o =
      ⊎_elim (λ k. subst (λ (d : Entry). acyclic.order (b.at + 2) < acyclic.order (d.at + 2)) k
      (link_falls c b p.1.0 m p.1.1 j (i ∙ sym p.1.2))) (λ k. absurd k) o
  path_falls (c ∷ d ∷ ds) f e m b p j i a o =
      let rec : (a : Entry) → IsOneOf a (d ∷ ds) → acyclic.order (b.at + 2) < acyclic.order (a.at + 2) =
      path_falls (d ∷ ds) p.1.0 e m b p.1.2 j i in
      let first : acyclic.order (b.at + 2) < acyclic.order (c.at + 2) =
      let r = rec d (inl refl) in
      let s = link_falls c d p.1.0 p.1.2.1.0 p.1.1 p.1.2.1.1 p.1.2.0 in omega (arith, r, s) in
      ⊎_elim (λ k. subst (λ (d : Entry). acyclic.order (b.at + 2) < acyclic.order (d.at + 2)) k first) (λ k. rec a k) o

  path_apart : (as' : List Entry) (f e m : ℕ) (b : Entry) → Path w f as' e → IsEntry w b m → b.at ≡ e → stands_at as' b.at ≡ false
  path_apart as' f e m b p j i = go (stands_at as' b.at) refl
    where
      go : (t : Bool) → stands_at as' b.at ≡ t → stands_at as' b.at ≡ false
      go false h = h
      go true h =
          let r = standing as' b.at h in
          let s = path_falls as' f e m b p j i r.0 r.1 in
          let same : acyclic.order (r.0.at + 2) ≡ acyclic.order (b.at + 2) = ap (λ (n : ℕ). acyclic.order (n + 2)) r.2 in
          absurd (omega (arith, s, same))

module _ {S : Type 0} {addresses : S → ℕ} {sound : S → Type 0} {knows : S → ℕ → Type 0} {had : S → ℕ → ℕ → Type 0} {leads : S → ℕ → Type 0}
    {own shown : S → ℕ → Option ℕ} {later : S → S → Type 0} {gave : S → S → ℕ → ℕ → Type 0}
    (laws : WordsLaws {S = S} addresses sound knows had leads own shown later gave) where
  -- a step of a walk comes to an address that is new
  pub walk_falls : {k b k' b' : WordList} {v w : S} (f e : ℕ) (as' : List Entry) (r : Linked)
      → KeepsLoads sound had leads later gave k b v k' b' w → Path (word_at k) f as' e → LeadsTo (leads w) e
      → EntryAt (word_at k') e (Some r) → lacks (as' ++ r.entry ∷ []) (addresses w) < lacks as' (addresses v)
  walk_falls {k = k} {k' = k'} {v = v} {w = w} f e as' r l p t i =
      let shows : (a x : ℕ) → word_at k' a ≡ Some x → is_final_word x ≡ true → shown w a ≡ Some x = λ a x j fin.
      laws.had_shown w a x l.sound (l.holds.kept_had a x j) fin in
      let apart = path_apart (word_at k') (shown w) (laws.no_cycle w l.sound) shows as' f e r.link r.entry
      (path_on l.went.grows f as' e p) i.1 i.0 in
      let below : e < addresses w = laws.in_range w e l.sound (first_known laws e l.sound t) in
      subst (λ (n : ℕ). lacks (as' ++ r.entry ∷ []) (addresses w) < lacks as' n) (laws.fixed v w l.went.between)
      (lacks_falls as' r.entry (addresses w) (subst (λ (n : ℕ). n < addresses w) (sym i.0) below) apart)
