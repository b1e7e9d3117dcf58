-- A try's bindings once a commit gives the clause's variables their places, which no place so far equals.
use Rattle.std.proofs.Common.{◌≡◌, ℕ, suc, ◌<◌, ◌≤◌, Bool, true, false, cond, [], ◌∷◌, ◌++◌}
use Rattle.std.proofs.Common.{Option, Some, None, refl, sym, ap, ◌∙◌, subst, arith, inl, inr}
use Rattle.std.specs.Prelude.{nat_eq, ◌&&◌, option_map}
use Rattle.std.proofs.lemmas.Bool.Decides.{nat_tests}
use Rattle.fcp_model.specs.declared.run.Place.{Place}
use Rattle.fcp_model.specs.Places.{Variable, made, own, place, placed, is_same, is_same_place}
use Rattle.fcp_model.specs.Terms.{Term, number, string, nil, cons, tuple, var, ro, first, Terms}
use Rattle.fcp_model.specs.Terms.{none, more, rename, renames, settle, Bindings, find}
use Rattle.fcp_model.specs.Ranks.{Mentions, MentionsOne, Ranked}
use Rattle.fcp_model.specs.Events.{settled}
use Rattle.fcp_model.specs.ClosedPrograms.{Over, PartsOver}
use Rattle.fcp_model.proofs.Finding.{find-append, found_or}
use Rattle.binding_laws.proofs.OverTerms.{Over-rename}
use Rattle.binding_laws.proofs.MetTerms.{IsMet}
use Rattle.binding_laws.proofs.MetBindings.{over_at, BindsOver}
use Rattle.binding_laws.proofs.MetUnification.{EachBound, each_found}

-- what stands in a renamed term
pub record IsRenamed (f : Variable → Variable) (q : Variable) (t : Term Variable) : Type 0 where
  pub from : Variable
  pub named : Mentions from t
  pub to : q ≡ f from

pub record IsOneRenamed (f : Variable → Variable) (q : Variable) (ts : Terms Variable) : Type 0 where
  pub from : Variable
  pub named : MentionsOne from ts
  pub to : q ≡ f from

module _ (P : Variable → Type 0) (f : Variable → Variable) (q : Variable) where
  mutual
    pub renamed : (t : Term Variable) → Over P t → Mentions q (rename f t) → IsRenamed f q t
    renamed (number z) o m = absurd m
    renamed (string z) o m = absurd m
    renamed nil o m = absurd m
    renamed (cons a b) o m = elim m [
      | inl i ↦ let r = renamed a o.0 i in record { from = r.from; named = inl r.named; to = r.to }
      | inr i ↦ let r = renamed b o.1 i in record { from = r.from; named = inr r.named; to = r.to }
    ]
    renamed (tuple ts) o m = let r = one_renamed ts o m in record { from = r.from; named = r.named; to = r.to }
    renamed (var v) o m = record { from = v; named = refl; to = m }
    renamed (ro v) o m = record { from = v; named = refl; to = m }
    renamed (first k) o m = absurd o

    one_renamed : (ts : Terms Variable) → PartsOver P ts → MentionsOne q (renames f ts) → IsOneRenamed f q ts
    one_renamed none o m = absurd m
    one_renamed (more t ts) o m = elim m [
      | inl i ↦ let r = renamed t o.0 i in record { from = r.from; named = inl r.named; to = r.to }
      | inr i ↦ let r = one_renamed ts o.1 i in record { from = r.from; named = inr r.named; to = r.to }
    ]

-- the variable that a settled one was: the clause's variables and the places of entry n change places
abbrev was : ℕ → Variable → Variable
was n (made p) = cond (nat_eq n p.entry) (own p.number) (made p)
was n (own k) = made (place n k)

later_entry : (a n : ℕ) → a < n → nat_eq n a ≡ false
later_entry a n h = grind (arith, nat_tests)

same_entry : (n : ℕ) → nat_eq n n ≡ true
same_entry n = grind (arith, nat_tests)

-- each binding of a list, after settling
pub each_settled : (P Q : Variable → Type 0) (n : ℕ) → ((v : Variable) → P v → Q (settle n v)) → (bs : Bindings) → EachBound P bs
    → EachBound Q (settled n bs)
each_settled P Q n h [] e = tt
each_settled P Q n h (b ∷ bs) e = (h b.0 e.0, Over-rename (settle n) P Q h b.1 e.1, each_settled P Q n h bs e.2)

-- below entry n + 1 nothing else is settled to the same place
module _ (K : Place → Type 0) (n : ℕ) (old : (p : Place) → K p → p.entry ≤ n) where
  was_settled : (met : ℕ) (v : Variable) → IsMet K met v → was (suc n) (settle (suc n) v) ≡ v
  was_settled met (made p) i = ap (λ b. cond b (own p.number) (made p)) (later_entry p.entry (suc n) (omega (arith, old p i)))
  was_settled met (own k) i = ap (λ b. cond b (own k) (made (place (suc n) k))) (same_entry (suc n))

  apart : (a b c d : ℕ) → a ≤ n → nat_eq (suc n) c ≡ true → (nat_eq a c && nat_eq b d) ≡ false
  apart a b c d h e = grind (arith, nat_tests)

  same_was : (met : ℕ) (v p : Variable) → IsMet K met v → is_same (settle (suc n) v) p ≡ is_same v (was (suc n) p)
  same_was met (made x) (made y) i = go (nat_eq (suc n) y.entry) refl
    where
      go : (b : Bool) → nat_eq (suc n) y.entry ≡ b → is_same_place x y ≡ is_same (made x) (cond b (own y.number) (made y))
      go true e = apart x.entry x.number y.entry y.number (old x i) e
      go false e = refl
  same_was met (made x) (own j) i = sym (clear x.entry x.number j (old x i))
    where
      clear : (a b j' : ℕ) → a ≤ n → (nat_eq a (suc n) && nat_eq b j') ≡ false
      clear a b j' h = grind (arith, nat_tests)
  same_was met (own k) (made y) i = go (nat_eq (suc n) y.entry)
    where
      go : (b : Bool) → (b && nat_eq k y.number) ≡ is_same (own k) (cond b (own y.number) (made y))
      go true = refl
      go false = refl
  same_was met (own k) (own j) i = refl

  -- what is found after settling was found before
  find-settled : (met : ℕ) (bs : Bindings) (p : Variable) → EachBound (IsMet K met) bs
      → find (settled (suc n) bs) p ≡ option_map (rename (settle (suc n))) (find bs (was (suc n) p))
  find-settled met [] p h = refl
  find-settled met (b ∷ bs) p h =
      ap (λ c. cond c (Some (rename (settle (suc n)) b.1)) (find (settled (suc n) bs) p)) (same_was met b.0 p h.0)
      ∙ go (is_same b.0 (was (suc n) p)) (find-settled met bs p h.2)
    where
      go : (c : Bool) → find (settled (suc n) bs) p ≡ option_map (rename (settle (suc n))) (find bs (was (suc n) p))
          → cond c (Some (rename (settle (suc n)) b.1)) (find (settled (suc n) bs) p)
          ≡ option_map (rename (settle (suc n))) (cond c (Some b.1) (find bs (was (suc n) p)))
      go true e = refl
      go false e = e

  -- what a term that is bound after settling was
  record IsSettled (bs : Bindings) (p : Variable) (t : Term Variable) : Type 0 where
    term : Term Variable
    there : find bs (was (suc n) p) ≡ Some term
    settled_to : rename (settle (suc n)) term ≡ t

  settled_found : (met : ℕ) (bs : Bindings) (p : Variable) (t : Term Variable) → EachBound (IsMet K met) bs
      → find (settled (suc n) bs) p ≡ Some t → IsSettled bs p t
  settled_found met bs p t h e = go (find bs (was (suc n) p)) refl (sym (find-settled met bs p h) ∙ e)
    where
      go : (o : Option (Term Variable)) → find bs (was (suc n) p) ≡ o → option_map (rename (settle (suc n))) o ≡ Some t → IsSettled bs p t
      go None i j = cc
      go (Some u) i j = record { term = u; there = i; settled_to = cc }

  module _ (s : Bindings) (b : BindsOver (IsMet K 0) s) where
    unbound_else : (v : Variable) → (IsMet K 0 v → ⊥) → find s v ≡ None
    unbound_else v wrong = go (find s v) refl
      where
        go : (o : Option (Term Variable)) → find s v ≡ o → o ≡ None
        go None e = refl
        go (Some t) e = absurd (wrong (b v t e).0)

    own_unbound : (k : ℕ) → find s (own k) ≡ None
    own_unbound k = unbound_else (own k) (λ i. omega (arith, i.0, i.1))

    later_unbound : (k : ℕ) → find s (placed (suc n) k) ≡ None
    later_unbound k = unbound_else (placed (suc n) k) (λ i. omega (arith, old (place (suc n) k) i))

    was_unbound : (p : Variable) → find s p ≡ None → find s (was (suc n) p) ≡ None
    was_unbound (own k) e = later_unbound k
    was_unbound (made x) e = go (nat_eq (suc n) x.entry)
      where
        go : (c : Bool) → find s (cond c (own x.number) (made x)) ≡ None
        go true = own_unbound x.number
        go false = e

    was_old : (v : Variable) → IsMet K 0 v → was (suc n) v ≡ v
    was_old (made x) i = was_settled 0 (made x) i
    was_old (own k) i = absurd (omega (arith, i.0, i.1))

    module _ (met : ℕ) (bs : Bindings) (h : EachBound (IsMet K met) bs) (r : Ranked (s ++ bs)) where
      abbrev rank_was : Variable → ℕ
      rank_was v = r.rank (was (suc n) v)

      old_falls : (p q : Variable) (t : Term Variable) → find s p ≡ Some t → Mentions q t → rank_was q < rank_was p
      old_falls p q t e m =
          let f = b p t e in
          let all : find (s ++ bs) p ≡ Some t = find-append s bs p ∙ ap (λ o. found_or o (find bs p)) e in
          let q_old : was (suc n) q ≡ q = was_old q (over_at (IsMet K 0) q t f.1 m) in
          let p_old : was (suc n) p ≡ p = was_old p f.0 in
          subst (λ x. r.rank x < rank_was p) (sym q_old) (subst (λ x. r.rank q < r.rank x) (sym p_old) (r.falls p q t all m))

      new_falls : (p q : Variable) (t : Term Variable) → find s p ≡ None → find (settled (suc n) bs) p ≡ Some t → Mentions q t
          → rank_was q < rank_was p
      new_falls p q t unbound e m =
          let w = settled_found met bs p t h e in
          let over : Over (IsMet K met) w.term = (each_found (IsMet K met) bs h (was (suc n) p) w.term w.there).1 in
          let x = renamed (IsMet K met) (settle (suc n)) q w.term over (subst (Mentions q) (sym w.settled_to) m) in
          let all : find (s ++ bs) (was (suc n) p) ≡ Some w.term =
          find-append s bs (was (suc n) p) ∙ (ap (λ o. found_or o (find bs (was (suc n) p))) (was_unbound p unbound) ∙ w.there) in
          let back : was (suc n) q ≡ x.from =
          ap (was (suc n)) x.to ∙ was_settled met x.from (over_at (IsMet K met) x.from w.term over x.named) in
          subst (λ v. r.rank v < rank_was p) (sym back) (r.falls (was (suc n) p) x.from w.term all x.named)

      -- settled bindings have no cycle
      pub settled_ranked : Ranked (s ++ settled (suc n) bs)
      settled_ranked =
          record { rank = rank_was; falls = λ p q t e m. go p q t (find s p) refl (sym (find-append s (settled (suc n) bs) p) ∙ e) m }
        where
          go : (p q : Variable) (t : Term Variable) (o : Option (Term Variable)) → find s p ≡ o
              → found_or o (find (settled (suc n) bs) p) ≡ Some t → Mentions q t → rank_was q < rank_was p
          go p q t None e f m = new_falls p q t e f m
          go p q t (Some u) e f m = old_falls p q t (e ∙ f) m
