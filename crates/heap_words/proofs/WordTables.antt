-- What the positions beside a list say of its words.
use Rattle.std.proofs.Common.{◌≡◌, ℕ, zero, suc, Bool, true, false, cond, [], ◌∷◌, ◌++◌, length, Option}
use Rattle.std.proofs.Common.{Some, None, refl, sym, ap, ◌∙◌, subst, inl, inr, ⊎_elim}
use Rattle.std.specs.Prelude.{◌⊎◌, slice_get, nat_eq}
use Rattle.std.proofs.lemmas.Bool.{eqb-true, eq-eqb}
use Rattle.heap_words.specs.Trails.{WordList, word_at}
use Rattle.heap_words.specs.WordTables.{Notes}

-- an address that has a word has an entry, and an entry's address has a word
pub word_found : (list : WordList) (a x : ℕ) → word_at list a ≡ Some x → (i : ℕ) × (slice_get list i ≡ Some (a, x))
word_found [] a x e = cc
word_found (s ∷ ss) a x e = go (word_found ss a x) (nat_eq a s.0) refl e
  where
    go : (word_at ss a ≡ Some x → (i : ℕ) × (slice_get ss i ≡ Some (a, x))) → (t : Bool) → nat_eq a s.0 ≡ t
        → cond t (Some s.1) (word_at ss a) ≡ Some x → (i : ℕ) × (slice_get (s ∷ ss) i ≡ Some (a, x))
    go rec true i h =
        let j : a ≡ s.0 = eqb-true a s.0 i in
        let k : s.1 ≡ x = cc in
        (0, ap (λ (y : ℕ). Some (y, s.1)) (sym j) ∙ ap (λ (y : ℕ). Some (a, y)) k)
    go rec false i h = let r = rec h in (suc r.0, r.1)

pub found_word : (list : WordList) (i a x : ℕ) → slice_get list i ≡ Some (a, x) → (y : ℕ) × (word_at list a ≡ Some y)
found_word [] i a x e = cc
found_word (s ∷ ss) zero a x e =
    let h : s ≡ (a, x) = cc in (s.1, ap (λ (t : Bool). cond t (Some s.1) (word_at ss a)) (eq-eqb a s.0 (sym (ap (λ (p : ℕ × ℕ). p.0) h))))
found_word (s ∷ ss) (suc i) a x e = go (found_word ss i a x e) (nat_eq a s.0) refl
  where
    go : ((y : ℕ) × (word_at ss a ≡ Some y)) → (t : Bool) → nat_eq a s.0 ≡ t → (y : ℕ) × (word_at (s ∷ ss) a ≡ Some y)
    go r true h = (s.1, ap (λ (t : Bool). cond t (Some s.1) (word_at ss a)) h)
    go r false h = (r.0, ap (λ (t : Bool). cond t (Some s.1) (word_at ss a)) h ∙ r.1)

some_same : (p q : ℕ × ℕ) → Some p ≡ Some q → p ≡ q
some_same p q e = cc

module _ (list : WordList) (noted : ℕ → Option ℕ) (h : Notes noted list) (a : ℕ) where
  -- the entry of an address stands where it is noted
  stands : (x i : ℕ) → word_at list a ≡ Some x → noted a ≡ Some i → slice_get list i ≡ Some (a, x)
  stands x i e f =
      let r = word_found list a x e in
      let s : Some r.0 ≡ Some i = sym (h.found r.0 a x r.1) ∙ f in
      subst (λ (k : ℕ). slice_get list k ≡ Some (a, x)) (let j : r.0 ≡ i = cc in j) r.1

  none_there : (o : Option ℕ) → word_at list a ≡ o → ((x : ℕ) → word_at list a ≡ Some x → ⊥) → None ≡ word_at list a
  none_there None e f = sym e
  none_there (Some x) e f = absurd (f x e)

  -- no position, a position past the end, another's entry, and its own
  pub no_position : noted a ≡ None → None ≡ word_at list a
  no_position f =
      none_there (word_at list a) refl
      (λ x e. let r = word_found list a x e in let s : Some r.0 ≡ None = sym (h.found r.0 a x r.1) ∙ f in cc)

  pub no_entry : (i : ℕ) → noted a ≡ Some i → slice_get list i ≡ None → None ≡ word_at list a
  no_entry i f g = none_there (word_at list a) refl (λ x e. let s : None ≡ Some (a, x) = sym g ∙ stands x i e f in cc)

  pub other_entry : (i b y : ℕ) → noted a ≡ Some i → slice_get list i ≡ Some (b, y) → (b ≡ a → ⊥) → None ≡ word_at list a
  other_entry i b y f g n = none_there (word_at list a) refl (λ x e.
      let q : (b, y) ≡ (a, x) = some_same (b, y) (a, x) (sym g ∙ stands x i e f) in
      n (ap (λ (p : ℕ × ℕ). p.0) q))

  pub its_entry : (i b y : ℕ) → noted a ≡ Some i → slice_get list i ≡ Some (b, y) → b ≡ a → Some y ≡ word_at list a
  its_entry i b y f g e =
      let w = found_word list i b y g in
      let v : word_at list a ≡ Some w.0 = subst (λ (c : ℕ). word_at list c ≡ Some w.0) e w.1 in
      let q : (b, y) ≡ (a, w.0) = some_same (b, y) (a, w.0) (sym g ∙ stands w.0 i v f) in
      ap (λ (p : ℕ × ℕ). Some p.1) q ∙ sym v

-- an entry more at the end
entry_cases : (list : WordList) (p q : ℕ × ℕ) (i : ℕ) → slice_get (list ++ p ∷ []) i ≡ Some q
    → (slice_get list i ≡ Some q) ⊎ ((i ≡ length list) × (p ≡ q))
entry_cases [] p q zero e = inr (refl, some_same p q e)
entry_cases [] p q (suc i) e = cc
entry_cases (s ∷ ss) p q zero e = inl e
entry_cases (s ∷ ss) p q (suc i) e = ⊎_elim (λ j. inl j) (λ j. inr (ap suc j.0, j.1)) (entry_cases ss p q i e)

-- the positions of all other addresses stay
abbrev pub Leaves : ℕ → (ℕ → Option ℕ) → (ℕ → Option ℕ) → Type 0
Leaves a noted noted' = (b i : ℕ) → noted b ≡ Some i → (b ≡ a → ⊥) → noted' b ≡ Some i

-- a position may be noted for an address that has no word
pub still_noted : (list : WordList) (noted noted' : ℕ → Option ℕ) (a : ℕ) → Notes noted list → Leaves a noted noted'
    → word_at list a ≡ None → Notes noted' list
still_noted list noted noted' a h more none = record {
  found = λ i b y e. more b i (h.found i b y e) (λ s.
      let w = found_word list i b y e in
      let v : word_at list a ≡ Some w.0 = subst (λ (c : ℕ). word_at list c ≡ Some w.0) s w.1 in
      let t : None ≡ Some w.0 = sym none ∙ v in cc);
}

-- and that of the next entry, which is then put
pub noted_put : (list : WordList) (noted noted' : ℕ → Option ℕ) (a x : ℕ) → Notes noted list → Leaves a noted noted'
    → noted' a ≡ Some (length list) → word_at list a ≡ None → Notes noted' (list ++ (a, x) ∷ [])
noted_put list noted noted' a x h more there none = record {
  found = λ i b y e. ⊎_elim
      (λ j. (still_noted list noted noted' a h more none).found i b y j)
      (λ j.
      let s : a ≡ b = ap (λ (p : ℕ × ℕ). p.0) j.1 in
      subst (λ (c : ℕ). noted' c ≡ Some i) s (there ∙ ap (λ (k : ℕ). Some k) (sym j.0)))
      (entry_cases list (a, x) (b, y) i e);
}

pub notes_none : (noted : ℕ → Option ℕ) → Notes noted []
notes_none noted = record { found = λ i b y e. cc }
