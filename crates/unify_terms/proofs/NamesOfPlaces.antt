-- Listed variables have names as unification asks.
use Rattle.std.proofs.Common.{◌≡◌, ◌⊎◌, ℕ, ◌+◌, ◌-◌, ◌*◌, ◌<◌, ◌≤◌, Bool, true, false, cond, pos, [], ◌∷◌, refl, sym, ap, ap₂, ◌∙◌, subst}
use Rattle.std.proofs.Common.{⊎_elim, inl, inr, arith, true≢false, Option, Some, None}
use Rattle.std.specs.Prelude.{◌↔◌, nat_eq, nat_lt, ◌&&◌, ◌||◌, is_some, unwrap_or}
use Rattle.std.proofs.lemmas.Bool.{cond-true, cond-false, cases_lt, eqb-true, eq-eqb, ne_eqb, lt-ltb, le-ltb}
use Rattle.std.proofs.lemmas.Option.{same_Some}
use Rattle.fcp_model.specs.declared.run.Place.{Place}
use Rattle.fcp_model.specs.Places.{Variable, made, own, is_same, is_older, is_older_place}
use Rattle.fcp_model.proofs.Finding.{is_same-true, is_same_refl}
use Rattle.heap_words.specs.Cells.{decoded}
use Rattle.heap_words.specs.Trails.{Memory}
use Rattle.heap_words.specs.declared.cell.Cell.TheVariants.{Small}
use Rattle.heap_words.proofs.Encodings.{encoded_decoded}
use Rattle.ro_unify.specs.Table.{older_of}
use Rattle.word_states.specs.Denoting.{Addresses, Listed}
use Rattle.word_states.proofs.Lists.{nat_same}
use Rattle.unify_terms.specs.Denotes.{Names, IsPlace}
use Rattle.unify_terms.specs.WordsOfTries.{name_at, naming, AreNamed}

-- what is found is listed, and what is listed is found
name_listed : (vs : Addresses) (a : ℕ) (v : Variable) → name_at vs a ≡ Some v → Listed vs v a
name_listed [] a v e = cc
name_listed (b ∷ bs) a v e = go (nat_eq b.1 a) refl e (λ f. name_listed bs a v f)
  where
    go : (t : Bool) → nat_eq b.1 a ≡ t → cond t (Some b.0) (name_at bs a) ≡ Some v → (name_at bs a ≡ Some v → Listed bs v a)
        → (b ≡ (v, a)) ⊎ Listed bs v a
    go true i f g = inl (let h = eqb-true b.1 a i in let k = same_Some b.0 v f in λ j. (k j, h j))
    go false i f g = inr (g f)

listed_name : (vs : Addresses) (a : ℕ) (v : Variable) → Listed vs v a → (u : Variable) × (name_at vs a ≡ Some u)
listed_name [] a v h = absurd h
listed_name (b ∷ bs) a v h = go (nat_eq b.1 a) refl h (λ k. listed_name bs a v k)
  where
    go : (t : Bool) → nat_eq b.1 a ≡ t → (b ≡ (v, a)) ⊎ Listed bs v a → (Listed bs v a → (u : Variable) × (name_at bs a ≡ Some u))
        → (u : Variable) × (cond t (Some b.0) (name_at bs a) ≡ Some u)
    go true i k g = (b.0, refl)
    go false i (inl e) g = absurd (true≢false (sym (eq-eqb b.1 a (ap (λ (z : Variable × ℕ). z.1) e)) ∙ i))
    go false i (inr k) g = g k

-- a place is listed with its name
pub place_listed : (vs : Addresses) (a : ℕ) → (naming vs).is_place a ≡ true → Listed vs ((naming vs).name a) a
place_listed vs a e = go (name_at vs a) refl e
  where
    go : (o : Option Variable) → name_at vs a ≡ o → is_some o ≡ true → Listed vs (unwrap_or (name_at vs a) (own 0)) a
    go None i f = absurd (true≢false (sym f))
    go (Some v) i f =
        subst (λ (u : Variable). Listed vs u a) (sym (ap (λ (p : Option Variable). unwrap_or p (own 0)) i)) (name_listed vs a v i)

-- each variable has one address, and an address is one variable's
abbrev pub AreOnce : Addresses → Type 0
AreOnce vs = (v u : Variable) (a b : ℕ) → Listed vs v a → Listed vs u b → (v ≡ u) ↔ (a ≡ b)

-- and what is listed once is a place of that name
pub once_place : (m : Memory) (vs : Addresses) → AreOnce vs → (v : Variable) (a : ℕ) → Listed vs v a → IsPlace (naming vs) m a v
once_place m vs once v a h =
    let r = listed_name vs a v h in
    let same : r.0 ≡ v = (once r.0 v a a (name_listed vs a r.0 r.1) h).1 refl in
    (ap is_some r.1, ap (λ (o : Option Variable). unwrap_or o (own 0)) r.1 ∙ same)

pub listed_place : (m : Memory) (vs : Addresses) (named : AreNamed m vs) (v : Variable) (a : ℕ) → Listed vs v a → IsPlace (naming vs) m a v
listed_place m vs named v a h = once_place m vs named.once v a h

-- one answer decides both
bool_same : (x y : Bool) → (x ≡ true → y ≡ true) → (y ≡ true → x ≡ true) → x ≡ y
bool_same true y f g = sym (f refl)
bool_same false true f g = g refl
bool_same false false f g = refl

-- name words are in the order of names
name_word_is : (x n : ℕ) → decoded x ≡ Some (Small (pos n)) → 16 * (0x80000000000000 + n) + 3 ≡ x
name_word_is x n e = (encoded_decoded x (Small (pos n)) e).1

lexical : (e k e' k' : ℕ) → k < 268435456 → k' < 268435456
    → nat_lt (16 * (0x80000000000000 + (268435456 * e + k)) + 3) (16 * (0x80000000000000 + (268435456 * e' + k')) + 3)
    ≡ (nat_lt e e' || (nat_eq e e' && nat_lt k k'))
lexical e k e' k' h h' = ⊎_elim
    (λ (l : e < e'). lt-ltb _ _ (omega arith) ∙ sym (ap (λ (t : Bool). t || (nat_eq e e' && nat_lt k k')) (lt-ltb e e' l)))
    (λ (l : e' ≤ e). ⊎_elim
    (λ (q : e ≡ e'). same q ∙ sym (ap₂ (λ (t u : Bool). t || (u && nat_lt k k')) (le-ltb e e' l) (eq-eqb e e' q)))
    (λ (q : e ≡ e' → ⊥). le-ltb _ _ (above l q) ∙ sym (ap₂ (λ (t u : Bool). t || (u && nat_lt k k')) (le-ltb e e' l) (ne_eqb e e' q)))
    (nat_same e e'))
    (cases_lt e e')
  where
    above : e' ≤ e → (e ≡ e' → ⊥)
        → 16 * (0x80000000000000 + (268435456 * e' + k')) + 3 ≤ 16 * (0x80000000000000 + (268435456 * e + k)) + 3
    above l q = ⊎_elim (λ (g : e' < e). omega arith) (λ (g : e ≤ e'). absurd (q (omega arith))) (cases_lt e' e)

    same : e ≡ e' → nat_lt (16 * (0x80000000000000 + (268435456 * e + k)) + 3) (16 * (0x80000000000000 + (268435456 * e' + k')) + 3) ≡
        nat_lt k k'
    same q = ⊎_elim (λ (l : k < k'). lt-ltb _ _ (omega arith) ∙ sym (lt-ltb k k' l))
        (λ (l : k' ≤ k). le-ltb _ _ (omega arith) ∙ sym (le-ltb k k' l)) (cases_lt k k')

module _ (m : Memory) (vs : Addresses) (named : AreNamed m vs) where
  low_words : (v : Variable) (a : ℕ) → Listed vs v a → a < 0x100000000
  low_words (made j) a h = let l = (named.store j a h).0 in omega arith
  low_words (own k) a h = (named.own_words k a h).1

  same_places : (v u : Variable) (a b : ℕ) → Listed vs v a → Listed vs u b → is_same v u ≡ nat_eq a b
  same_places v u a b h k = bool_same (is_same v u) (nat_eq a b) (λ e. eq-eqb a b ((named.once v u a b h k).0 (is_same-true v u e)))
      (λ e. subst (λ (z : Variable). is_same v z ≡ true) ((named.once v u a b h k).1 (eqb-true a b e)) (is_same_refl v))

  -- of two store places the names' words tell which is older
  older_stored : (i j : Place) (a b : ℕ) → Listed vs (made i) a → Listed vs (made j) b → is_older_place i j ≡ nat_lt (m (a - 1)) (m (b - 1))
  older_stored i j a b h k =
      let p = named.store i a h in
      let q = named.store j b k in
      sym (lexical i.entry i.number j.entry j.number p.1 q.1) ∙ ap₂ nat_lt (name_word_is _ _ p.2) (name_word_is _ _ q.2)

  -- and of two own ones their addresses
  older_own : (i j a b : ℕ) → Listed vs (own i) a → Listed vs (own j) b → nat_lt i j ≡ nat_lt a b
  older_own i j a b h k = ⊎_elim
      (λ (l : i < j). lt-ltb i j l ∙ sym (lt-ltb a b (named.rise i j a b h k l)))
      (λ (l : j ≤ i). le-ltb i j l ∙ sym (le-ltb a b (above l)))
      (cases_lt i j)
    where
      above : j ≤ i → b ≤ a
      above l = ⊎_elim (λ (g : j < i). let r = named.rise j i b a k h g in omega arith)
          (λ (g : i ≤ j). let e : a ≡ b = (named.once (own i) (own j) a b h k).0 (ap own (omega arith)) in omega arith) (cases_lt j i)

  older_places : (v u : Variable) (a b : ℕ) → Listed vs v a → Listed vs u b → is_older v u ≡ older_of a b (m (a - 1)) (m (b - 1))
  older_places (made i) (made j) a b h k =
      older_stored i j a b h k ∙ sym (cond-true _ _ _ (lt-ltb a 4000000000 (named.store i a h).0)
      ∙ cond-true _ _ _ (lt-ltb b 4000000000 (named.store j b k).0))
  older_places (made i) (own j) a b h k =
      sym (cond-true _ _ _ (lt-ltb a 4000000000 (named.store i a h).0) ∙ cond-false _ _ _ (le-ltb b 4000000000 (named.own_words j b k).0))
  older_places (own i) (made j) a b h k =
      sym (cond-false _ _ _ (le-ltb a 4000000000 (named.own_words i a h).0) ∙ cond-true _ _ _ (lt-ltb b 4000000000 (named.store j b k).0))
  older_places (own i) (own j) a b h k =
      older_own i j a b h k ∙ sym (cond-false _ _ _ (le-ltb a 4000000000 (named.own_words i a h).0)
      ∙ cond-false _ _ _ (le-ltb b 4000000000 (named.own_words j b k).0))

  pub names_of : Names (naming vs) m
  names_of = record {
    below = λ a p. low_words _ a (place_listed vs a p);
    same = λ a b p q. same_places _ _ a b (place_listed vs a p) (place_listed vs b q);
    older = λ a b p q _. older_places _ _ a b (place_listed vs a p) (place_listed vs b q);
  }
