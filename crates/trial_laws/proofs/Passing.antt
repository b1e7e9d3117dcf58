-- The word that a child takes for a word denotes a term to which the word's own leads, by the bindings of the try.
use Rattle.std.proofs.Common.{◌≡◌, ◌⊎◌, ℕ, suc, ◌+◌, ◌<◌, true, false, List, [], ◌∷◌, ◌++◌, refl, sym, ap, ◌∙◌, subst, inl, inr}
use Rattle.std.proofs.Common.{arith, true≢false, Bool, cond, Option, Some, None}
use Rattle.std.proofs.lemmas.Option.{same_Some}
use Rattle.std.specs.Prelude.{unwrap_or, option_and_then}
use Rattle.fcp_model.specs.Places.{Variable, made, own}
use Rattle.fcp_model.specs.Terms.{Term, number, string, nil, cons, tuple, var, ro, first, Bindings, find}
use Rattle.fcp_model.specs.Expressions.{Expr, leaf, op}
use Rattle.fcp_model.proofs.Finding.{found_or, find-append}
use Rattle.heap_words.specs.Cells.{decoded, encoded, is_final_word, is_final_in}
use Rattle.heap_words.specs.Heaps.{only_final}
use Rattle.heap_words.specs.Trails.{word_at}
use Rattle.heap_words.specs.declared.cell.Cell.{Cell}
use Rattle.heap_words.specs.declared.cell.Cell.TheVariants.{Unbound, Ref, RoRef, Small, Wide, Str, Nil, Cons, Tuple}
use Rattle.heap_words.proofs.Encodings.{decoded_encoded, encoded_decoded}
use Rattle.word_states.specs.Words.{Words, first_of, over}
use Rattle.word_states.specs.Denoting.{Addresses, Listed, Denotes, ExprSays}
use Rattle.word_states.specs.Leading.{onward, LeadsTo, ExprLeads}
use Rattle.word_states.specs.Standing.{PlaceSays}
use Rattle.word_states.specs.Pieces.{rows, with_own, with_variables}
use Rattle.word_states.proofs.Leading.{leads_here, leads_by, expr_leads_here}
use Rattle.word_states.proofs.Pieces.{rows_above}
use Rattle.machine_code.specs.Machine.{Trying}
use Rattle.trial_laws.specs.AtHand.{AtHand, IsStore, StandsForTry}
use Rattle.trial_laws.specs.NewPieces.{taken, marked_word, marked, passed_in, passed}
use Rattle.trial_laws.proofs.FirstLaws.{names_once}
use Rattle.trial_laws.proofs.TriedPlaces.{old_place}

-- a word that denotes a term to which t leads
abbrev pub SaysLed : Words → Addresses → Bindings → ℕ → Term Variable → Type 0
SaysLed w vs bs x t = (u : Term Variable) × LeadsTo bs t u × Denotes w vs x u

-- a final word
pub only_final_is : (o : Option ℕ) (x : ℕ) → only_final o ≡ Some x → (o ≡ Some x) × (is_final_word x ≡ true)
only_final_is None x e = cc
only_final_is (Some y) x e = go (is_final_word y) refl e
  where
    go : (b : Bool) → is_final_word y ≡ b → cond b (Some y) None ≡ Some x → (Some y ≡ Some x) × (is_final_word x ≡ true)
    go true f g = (g, ap is_final_word (sym (same_Some y x g)) ∙ f)
    go false f g = cc

-- behind a read-only mark a word denotes the term onward
module _ (w : Words) (vs : Addresses) where
  pub denotes_marked : (y : ℕ) (t : Term Variable) → Denotes w vs y t
      → (u : Term Variable) × (onward true t ≡ Some u) × Denotes w vs (marked_word y (decoded y)) u
  denotes_marked y (number z) (inl h) = (number z, refl, inl (ap decoded (ap (marked_word y) h) ∙ h))
  denotes_marked y (number z) (inr h) =
      (number z, refl, inr (h.0, h.1, h.2, ap decoded (ap (marked_word y) h.3) ∙ h.3, h.4, h.5, h.6))
  denotes_marked y (string s) h = (string s, refl, ap decoded (ap (marked_word y) h) ∙ h)
  denotes_marked y nil h = (nil, refl, ap decoded (ap (marked_word y) h) ∙ h)
  denotes_marked y (cons t u) h =
      (cons t u, refl, (h.0, h.1, h.2, ap decoded (ap (marked_word y) h.3) ∙ h.3, h.4, h.5, h.6, h.7))
  denotes_marked y (tuple ts) h = (tuple ts, refl, (h.0, ap decoded (ap (marked_word y) h.1) ∙ h.1, h.2, h.3, h.4))
  denotes_marked y (var v) h = (
    ro v,
    refl,
    (h.0, ap decoded (ap (marked_word y) h.1) ∙ decoded_encoded (RoRef h.0) (encoded_decoded y (Ref h.0) h.1).0, h.2),
  )
  denotes_marked y (ro v) h = (ro v, refl, (h.0, ap decoded (ap (marked_word y) h.1) ∙ h.1, h.2))
  denotes_marked y (first k) h = absurd h

  denotes_onward : (y : ℕ) (t : Term Variable) → Denotes w vs y t → onward false t ≡ Some t
  denotes_onward y (number z) h = refl
  denotes_onward y (string s) h = refl
  denotes_onward y nil h = refl
  denotes_onward y (cons t u) h = refl
  denotes_onward y (tuple ts) h = refl
  denotes_onward y (var v) h = refl
  denotes_onward y (ro v) h = refl
  denotes_onward y (first k) h = absurd h

module _ (w : Words) (vs : Addresses) (bound : Bindings) (r : AtHand) (t : Trying) (store : IsStore w vs bound)
    (s : StandsForTry w vs bound r t) where
  abbrev U : Words
  U = with_own r.pieces w

  abbrev V : Addresses
  V = with_variables r.pieces vs

  -- a place that took a word is bound in the try to what the word denotes
  bound_here : (v : Variable) (a y : ℕ) → Listed V v a → find bound v ≡ None → is_final_word y ≡ true
      → over r.binds (with_own r.pieces w) a ≡ Some y → (u : Term Variable) × (find t.bound v ≡ Some u) × Denotes U V y u
  bound_here v a y l free final e =
      let p = s.places v a l in
      let same : p.0 ≡ y = same_Some p.0 y (sym p.1 ∙ e) in
      let whole : find (bound ++ t.bound) v ≡ find t.bound v =
      find-append bound t.bound v ∙ ap (λ o. found_or o (find t.bound v)) free in
      go (find t.bound v) refl (subst (λ o. PlaceSays U V y o) whole (subst (λ x. PlaceSays U V x (find (bound ++ t.bound) v)) same p.2))
    where
      go : (o : Option (Term Variable)) → find t.bound v ≡ o → PlaceSays U V y o
          → (u : Term Variable) × (find t.bound v ≡ Some u) × Denotes U V y u
      go None i h = absurd (true≢false (sym final ∙ ap is_final_in h.1))
      go (Some u) i h = (u, i, h)

  -- what it took
  pub taken_says : (v : Variable) (a y : ℕ) → Listed V v a → taken r a ≡ Some y
      → (u : Term Variable) × (find t.bound v ≡ Some u) × Denotes U V y u
  taken_says v a y l e =
      let q = only_final_is (first_of (word_at r.binds a) (word_at (rows 4000000000 r.pieces) a)) y e in
      go (word_at r.binds a) refl (word_at (rows 4000000000 r.pieces) a) refl q.0 q.1
    where
      bound_free : (z : ℕ) → word_at r.binds a ≡ Some z → find bound v ≡ None
      bound_free z i =
          let n = s.binds_named a z i in
          let same : n.0 ≡ v = (names_once w vs bound r.pieces store n.0 v a a n.2 l).1 refl in
          subst (λ x. find bound x ≡ None) same (s.bound_named n.0 n.1 n.3).0

      own_free : (x : Variable) → Listed V x a → 4000000000 < suc a → find bound x ≡ None
      own_free (own k) k' high = store.own_free k
      own_free (made j) k' high =
          let o = old_place w vs bound r.pieces store j a k' in
          let p = store.says.word (made j) a o in
          let low : a < 4000000000 = store.low a p.0 p.1 in absurd (omega arith)

      go : (o : Option ℕ) → word_at r.binds a ≡ o → (p : Option ℕ) → word_at (rows 4000000000 r.pieces) a ≡ p
          → first_of (word_at r.binds a) (word_at (rows 4000000000 r.pieces) a) ≡ Some y → is_final_word y ≡ true
          → (u : Term Variable) × (find t.bound v ≡ Some u) × Denotes U V y u
      go (Some z) i p j f final =
          let same : Some z ≡ Some y = sym (ap (λ o. first_of o (word_at (rows 4000000000 r.pieces) a)) i) ∙ f in
          bound_here v a y l (bound_free z i) final (ap (λ o. first_of o (with_own r.pieces w a)) i ∙ same)
      go None i (Some z) j f final =
          let same : Some z ≡ Some y =
          sym (ap (λ o. first_of o (word_at (rows 4000000000 r.pieces) a)) i ∙ j) ∙ f in
          let high : 4000000000 < suc a = let k = rows_above 4000000000 a z r.pieces j in omega arith in
          bound_here v a y l (own_free v l high) final
          (ap (λ o. first_of o (with_own r.pieces w a)) i ∙ ap (λ o. first_of o (w a)) j ∙ same)
      go None i None j f final =
          let none : None ≡ Some y = sym (ap (λ o. first_of o (word_at (rows 4000000000 r.pieces) a)) i ∙ j) ∙ f in cc

  -- a word that is no reference stays
  same_word : (x : ℕ) (u : Term Variable) → passed r x ≡ x → Denotes U V x u → SaysLed U V t.bound (passed r x) u
  same_word x u e h = (u, leads_here t.bound u, subst (λ y. Denotes U V y u) (sym e) h)

  -- the word that a child takes for a word
  pub passed_says : (x : ℕ) (u : Term Variable) → Denotes U V x u → SaysLed U V t.bound (passed r x) u
  passed_says x (number z) (inl h) = same_word x (number z) (ap (passed_in (taken r) x) h) (inl h)
  passed_says x (number z) (inr h) = same_word x (number z) (ap (passed_in (taken r) x) h.3) (inr h)
  passed_says x (string z) h = same_word x (string z) (ap (passed_in (taken r) x) h) h
  passed_says x nil h = same_word x nil (ap (passed_in (taken r) x) h) h
  passed_says x (cons a b) h = same_word x (cons a b) (ap (passed_in (taken r) x) h.3) h
  passed_says x (tuple ts) h = same_word x (tuple ts) (ap (passed_in (taken r) x) h.1) h
  passed_says x (first k) h = absurd h
  passed_says x (var v) h = go (taken r h.0) refl
    where
      here : passed r x ≡ unwrap_or (taken r h.0) x
      here = ap (passed_in (taken r) x) h.1

      go : (o : Option ℕ) → taken r h.0 ≡ o → SaysLed U V t.bound (passed r x) (var v)
      go None i = same_word x (var v) (here ∙ ap (λ o. unwrap_or o x) i) h
      go (Some y) i =
          let k = taken_says v h.0 y h.2 i in (
            k.0,
            leads_by t.bound (var v) k.0 k.0 (ap (option_and_then (onward false)) k.1 ∙ denotes_onward U V y k.0 k.2)
                (leads_here t.bound k.0),
            subst (λ z. Denotes U V z k.0) (sym (here ∙ ap (λ o. unwrap_or o x) i)) k.2,
          )
  passed_says x (ro v) h = go (taken r h.0) refl
    where
      here : passed r x ≡ marked x (taken r h.0)
      here = ap (passed_in (taken r) x) h.1

      go : (o : Option ℕ) → taken r h.0 ≡ o → SaysLed U V t.bound (passed r x) (ro v)
      go None i = same_word x (ro v) (here ∙ ap (marked x) i) h
      go (Some y) i =
          let k = taken_says v h.0 y h.2 i in
          let m = denotes_marked U V y k.0 k.2 in (
            m.0,
            leads_by t.bound (ro v) m.0 m.0 (ap (option_and_then (onward true)) k.1 ∙ m.1) (leads_here t.bound m.0),
            subst (λ z. Denotes U V z m.0) (sym (here ∙ ap (marked x) i)) m.2,
          )

  -- and for the word of an expression
  pub passed_expr : (x : ℕ) (e : Expr Variable) → ExprSays U V x e
      → (d : Expr Variable) × ExprLeads t.bound e d × ExprSays U V (passed r x) d
  passed_expr x (leaf u) h = let k = passed_says x u h in (leaf k.0, k.1, k.2)
  passed_expr x (op o a b) h = (
    op o a b,
    expr_leads_here t.bound (op o a b),
    subst (λ y. ExprSays U V y (op o a b)) (sym (ap (passed_in (taken r) x) h.3)) h,
  )
