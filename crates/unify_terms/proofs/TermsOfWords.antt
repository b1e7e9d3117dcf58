-- What words denote they stand for in a memory that has them, and what they stand for in their own memory they denote.
use Rattle.std.proofs.Common.{◌≡◌, ℕ, suc, ◌+◌, Bool, true, false, refl, sym, ap, ◌∙◌, subst, inl, inr, arith, true≢false, Option, Some}
use Rattle.std.proofs.Common.{None}
use Rattle.std.specs.Prelude.{ℤ, unwrap_or}
use Rattle.fcp_model.specs.Places.{Variable}
use Rattle.fcp_model.specs.Terms.{Term, number, string, nil, cons, tuple, var, ro, first, Terms, none, more, Bindings, find}
use Rattle.heap_words.specs.Cells.{decoded, is_final_in}
use Rattle.heap_words.specs.Trails.{WordList, Memory, word_at}
use Rattle.heap_words.specs.declared.cell.Cell.{Cell}
use Rattle.heap_words.specs.declared.cell.Cell.TheVariants.{Unbound, Ref, RoRef, Small, Wide, Str, Nil, Cons, Tuple, Status, Raw, Top}
use Rattle.ro_unify.specs.Value.{is_unbound}
use Rattle.word_states.specs.Words.{Words}
use Rattle.word_states.specs.Denoting.{Addresses, Listed, NumberSays, Denotes, DenotesAll}
use Rattle.word_states.specs.Standing.{PlaceSays}
use Rattle.word_states.proofs.Persisting.{denotes_final}
use Rattle.unify_terms.specs.Denotes.{Stands, NumberIn, IsNumber, IsPlace}
use Rattle.unify_terms.specs.Denotes as unified
use Rattle.unify_terms.specs.WordsOfTries.{memory_of, HasWords, naming, AreNamed, SayBound, AllIsSeen, AllIsSaid}
use Rattle.unify_terms.proofs.NamesOfPlaces.{AreOnce, place_listed, once_place, listed_place, names_of}

next : (a : ℕ) → suc a ≡ a + 1
next a = omega arith

module _ (m : Memory) (w : Words) (vs : Addresses) (once : AreOnce vs) (has : HasWords m w) where
  after : (a x : ℕ) → w (suc a) ≡ Some x → m (a + 1) ≡ x
  after a x e = ap m (sym (next a)) ∙ has (suc a) x e

  number_seen : (x : ℕ) (z : ℤ) → NumberSays w vs x z → IsNumber m z x
  number_seen x z (inl e) = (Small z, e, refl)
  number_seen x z (inr h) = (Wide h.0 h.1, h.3, (h.2, ap decoded (has h.0 h.4.0 h.4.1) ∙ h.4.2, h.5, h.6))

  mutual
    denotes_seen : (x : ℕ) (t : Term Variable) → Denotes w vs x t → unified.Denotes (naming vs) m t x
    denotes_seen x (number z) h = number_seen x z h
    denotes_seen x (string s) h = (record { 0 = s }, h, refl)
    denotes_seen x nil h = h
    denotes_seen x (cons t u) h = (
      h.0,
      h.3,
      subst (unified.Denotes (naming vs) m t) (sym (has h.0 h.1 h.4)) (denotes_seen h.1 t h.5),
      subst (unified.Denotes (naming vs) m u) (sym (after h.0 h.2 h.6)) (denotes_seen h.2 u h.7),
    )
    denotes_seen x (tuple ts) h =
        (h.0, h.1, ap decoded (has h.0 h.2.0 h.2.1) ∙ h.2.2, h.3, all_seen h.0 ts h.4)
    denotes_seen x (var v) h = (h.0, h.1, once_place m vs once v h.0 h.2)
    denotes_seen x (ro v) h = (h.0, h.1, once_place m vs once v h.0 h.2)
    denotes_seen x (first k) h = absurd h

    all_seen : (a : ℕ) (ts : Terms Variable) → DenotesAll w vs (suc a) ts → unified.DenotesAll (naming vs) m ts a
    all_seen a none h = tt
    all_seen a (more t ts) h = (
      subst (unified.Denotes (naming vs) m t) (sym (after a h.0 h.1)) (denotes_seen h.0 t h.2),
      subst (unified.DenotesAll (naming vs) m ts) (next a) (all_seen (suc a) ts h.3),
    )

  -- a place that says something
  not_unbound : (x : ℕ) (t : Term Variable) → Denotes w vs x t → is_unbound (decoded x) ≡ false
  not_unbound x t h = go (decoded x) (denotes_final w vs x t h)
    where
      go : (o : Option Cell) → is_final_in o ≡ true → is_unbound o ≡ false
      go None e = refl
      go (Some (Unbound a)) e = absurd (true≢false (sym e))
      go (Some (Ref a)) e = refl
      go (Some (RoRef a)) e = refl
      go (Some (Small z)) e = refl
      go (Some (Wide a h)) e = refl
      go (Some (Str s)) e = refl
      go (Some Nil) e = refl
      go (Some (Cons a)) e = refl
      go (Some (Tuple a)) e = refl
      go (Some (Status d)) e = refl
      go (Some (Raw n)) e = refl
      go (Some (Top a)) e = refl

  pub stands_seen : (binds : WordList) (bound : Bindings) → SayBound w vs binds bound → Stands (naming vs) m binds bound
  stands_seen binds bound says = record {
    privately = λ a x p e. (let r = says.privately _ a x (place_listed vs a p) e in (r.0, r.1, denotes_seen x r.0 r.2));
    bound = λ a p e u. (let r = says.openly _ a (place_listed vs a p) e in to_term a r.0 (find bound ((naming vs).name a)) r.1 r.2 u);
    unbound = λ a p e u. (let r = says.openly _ a (place_listed vs a p) e in to_none a r.0 (find bound ((naming vs).name a)) r.1 r.2 u);
  }
    where
      to_term : (a x : ℕ) (o : Option (Term Variable)) → w a ≡ Some x → PlaceSays w vs x o → is_unbound (decoded (m a)) ≡ false
          → (t : Term Variable) × (o ≡ Some t) × unified.Denotes (naming vs) m t (m a)
      to_term a x None i s u = absurd (true≢false (sym (ap is_unbound (ap decoded (has a x i) ∙ s.1)) ∙ u))
      to_term a x (Some t) i s u = (t, refl, subst (unified.Denotes (naming vs) m t) (sym (has a x i)) (denotes_seen x t s))

      to_none : (a x : ℕ) (o : Option (Term Variable)) → w a ≡ Some x → PlaceSays w vs x o → is_unbound (decoded (m a)) ≡ true → o ≡ None
      to_none a x None i s u = refl
      to_none a x (Some t) i s u = absurd (true≢false (sym u ∙ ap is_unbound (ap decoded (has a x i)) ∙ not_unbound x t s))

pub all_is_seen : AllIsSeen
all_is_seen m w vs named has =
    record { names = names_of m vs named; denotes = denotes_seen m w vs named.once has; stands = stands_seen m w vs named.once has }

-- 12 is no cell's word
no_cell : decoded 12 ≡ None
unfolding decoded
no_cell = refl

module _ (w : Words) (vs : Addresses) (named : AreNamed (memory_of w) vs) where
  -- a word of the memory that has a cell is one of the words
  from_cell : (a : ℕ) (c : Cell) → decoded (memory_of w a) ≡ Some c → w a ≡ Some (memory_of w a)
  from_cell a c e = go (w a) e
    where
      go : (o : Option ℕ) → decoded (unwrap_or o 12) ≡ Some c → o ≡ Some (unwrap_or o 12)
      go None f = let bad : None ≡ Some c = sym no_cell ∙ f in cc
      go (Some x) f = refl

  has_cell : (x : ℕ) (t : Term Variable) → unified.Denotes (naming vs) (memory_of w) t x → (c : Cell) × (decoded x ≡ Some c)
  has_cell x (number z) h = (h.0, h.1)
  has_cell x (string s) h = (Str h.0, h.1)
  has_cell x nil h = (Nil, h)
  has_cell x (cons t u) h = (Cons h.0, h.1)
  has_cell x (tuple ts) h = (Tuple h.0, h.1)
  has_cell x (var v) h = (Ref h.0, h.1)
  has_cell x (ro v) h = (RoRef h.0, h.1)
  has_cell x (first k) h = absurd h

  word_of : (a : ℕ) (t : Term Variable) → unified.Denotes (naming vs) (memory_of w) t (memory_of w a) → w a ≡ Some (memory_of w a)
  word_of a t h = let c = has_cell (memory_of w a) t h in from_cell a c.0 c.1

  number_said : (x : ℕ) (z : ℤ) → IsNumber (memory_of w) z x → NumberSays w vs x z
  number_said x z h = go h.0 h.1 h.2
    where
      go : (c : Cell) → decoded x ≡ Some c → NumberIn (memory_of w) c z → NumberSays w vs x z
      go (Small y) e n = inl (e ∙ ap (λ (u : ℤ). Some (Small u)) n)
      go (Wide a k) e n = inr (a, k, n.0, e, (memory_of w a, from_cell a (Small n.0) n.1, n.1), n.2, n.3)
      go (Unbound a) e n = absurd n
      go (Ref a) e n = absurd n
      go (RoRef a) e n = absurd n
      go (Str s) e n = absurd n
      go Nil e n = absurd n
      go (Cons a) e n = absurd n
      go (Tuple a) e n = absurd n
      go (Status d) e n = absurd n
      go (Raw k) e n = absurd n
      go (Top a) e n = absurd n

  said_place : (v : Variable) (a : ℕ) → IsPlace (naming vs) (memory_of w) a v → Listed vs v a
  said_place v a p = subst (λ (u : Variable). Listed vs u a) p.1 (place_listed vs a p.0)

  mutual
    denotes_said : (x : ℕ) (t : Term Variable) → unified.Denotes (naming vs) (memory_of w) t x → Denotes w vs x t
    denotes_said x (number z) h = number_said x z h
    denotes_said x (string s) h = h.1 ∙ ap (λ (n : ℕ). Some (Str (record { 0 = n }))) h.2
    denotes_said x nil h = h
    denotes_said x (cons t u) h = (
      h.0,
      memory_of w h.0,
      memory_of w (h.0 + 1),
      h.1,
      word_of h.0 t h.2,
      denotes_said (memory_of w h.0) t h.2,
      ap w (next h.0) ∙ word_of (h.0 + 1) u h.3,
      denotes_said (memory_of w (h.0 + 1)) u h.3,
    )
    denotes_said x (tuple ts) h = (h.0, h.1, (memory_of w h.0, from_cell h.0 (Raw _) h.2, h.2), h.3, all_said h.0 ts h.4)
    denotes_said x (var v) h = (h.0, h.1, said_place v h.0 h.2)
    denotes_said x (ro v) h = (h.0, h.1, said_place v h.0 h.2)
    denotes_said x (first k) h = absurd h

    all_said : (a : ℕ) (ts : Terms Variable) → unified.DenotesAll (naming vs) (memory_of w) ts a → DenotesAll w vs (suc a) ts
    all_said a none h = tt
    all_said a (more t ts) h = (
      memory_of w (a + 1),
      ap w (next a) ∙ word_of (a + 1) t h.0,
      denotes_said (memory_of w (a + 1)) t h.0,
      all_said (suc a) ts (subst (unified.DenotesAll (naming vs) (memory_of w) ts) (sym (next a)) h.1),
    )

  unbound_cell : (x : ℕ) → is_unbound (decoded x) ≡ true → (e : ℕ) × (decoded x ≡ Some (Unbound e))
  unbound_cell x u = go (decoded x) refl u
    where
      go : (o : Option Cell) → decoded x ≡ o → is_unbound o ≡ true → (e : ℕ) × (decoded x ≡ Some (Unbound e))
      go None i f = absurd (true≢false (sym f))
      go (Some (Unbound a)) i f = (a, i)
      go (Some (Ref a)) i f = absurd (true≢false (sym f))
      go (Some (RoRef a)) i f = absurd (true≢false (sym f))
      go (Some (Small z)) i f = absurd (true≢false (sym f))
      go (Some (Wide a h)) i f = absurd (true≢false (sym f))
      go (Some (Str s)) i f = absurd (true≢false (sym f))
      go (Some Nil) i f = absurd (true≢false (sym f))
      go (Some (Cons a)) i f = absurd (true≢false (sym f))
      go (Some (Tuple a)) i f = absurd (true≢false (sym f))
      go (Some (Status d)) i f = absurd (true≢false (sym f))
      go (Some (Raw n)) i f = absurd (true≢false (sym f))
      go (Some (Top a)) i f = absurd (true≢false (sym f))

  says_of : (binds : WordList) (bound : Bindings) → Stands (naming vs) (memory_of w) binds bound → SayBound w vs binds bound
  says_of binds bound stands = record {
    privately = λ v a x h e. (
        let p = listed_place (memory_of w) vs named v a h in
        let r = stands.privately a x p.0 e in
        (r.0, ap (find bound) (sym p.1) ∙ r.1, denotes_said x r.0 r.2));
    openly = λ v a h e. openly v a h e (is_unbound (decoded (memory_of w a))) refl;
  }
    where
      openly : (v : Variable) (a : ℕ) → Listed vs v a → word_at binds a ≡ None → (b : Bool) → is_unbound (decoded (memory_of w a)) ≡ b
          → (x : ℕ) × (w a ≡ Some x) × PlaceSays w vs x (find bound v)
      openly v a h e true u =
          let p = listed_place (memory_of w) vs named v a h in
          let c = unbound_cell (memory_of w a) u in
          let free : find bound v ≡ None = ap (find bound) (sym p.1) ∙ stands.unbound a p.0 e u in
          (memory_of w a, from_cell a (Unbound c.0) c.1, subst (PlaceSays w vs (memory_of w a)) (sym free) c)
      openly v a h e false u =
          let p = listed_place (memory_of w) vs named v a h in
          let r = stands.bound a p.0 e u in
          let is : find bound v ≡ Some r.0 = ap (find bound) (sym p.1) ∙ r.1 in
          (memory_of w a, word_of a r.0 r.2, subst (PlaceSays w vs (memory_of w a)) (sym is) (denotes_said (memory_of w a) r.0 r.2))

pub all_is_said : AllIsSaid
all_is_said w vs named = record { denotes = denotes_said w vs named; says = says_of w vs named }
