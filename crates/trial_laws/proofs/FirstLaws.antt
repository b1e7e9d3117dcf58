-- The law of the instruction that binds a variable at its first occurrence.
use Rattle.std.proofs.Common.{◌≡◌, ◌⊎◌, ℕ, zero, suc, ◌+◌, Bool, true, false, cond, List, [], ◌∷◌, ◌++◌, refl, sym, ap, ◌∙◌}
use Rattle.std.proofs.Common.{subst, inl, inr, ⊎_elim, arith, true≢false, append_assoc, Option, Some, None}
use Rattle.std.specs.Prelude.{slice_get}
use Rattle.std.proofs.lemmas.Option.{same_Some}
use Rattle.fcp_model.specs.Places.{Variable, made, own, is_same}
use Rattle.fcp_model.specs.Terms.{Term, Bindings, find}
use Rattle.fcp_model.proofs.Finding.{found_or, find-append, is_same-true, is_same_refl}
use Rattle.heap_words.specs.Cells.{is_final_word, is_final_in}
use Rattle.heap_words.specs.Trails.{word_at}
use Rattle.heap_words.specs.declared.cell.Cell.TheVariants.{Unbound}
use Rattle.word_states.specs.Words.{Words, At, first_of, addresses_of, over, Grows}
use Rattle.word_states.specs.Denoting.{Addresses, Listed, Denotes}
use Rattle.word_states.specs.Standing.{PlaceSays}
use Rattle.word_states.specs.Pieces.{rows, StartsAt, place_words, numbered, with_own, with_variables}
use Rattle.word_states.specs.Trials.{AreAt}
use Rattle.word_states.proofs.Lists.{nat_same, listed_either, listed_right}
use Rattle.word_states.proofs.Persisting.{denotes_final, denotes_on, expr_on}
use Rattle.word_states.proofs.Pieces.{in_rows, rows_in, starts_above, variable_at, place_once, located_starts, zero_is}
use Rattle.machine_code.specs.Slots.{as_term}
use Rattle.machine_code.specs.Instructions.{GetFirst}
use Rattle.machine_code.specs.Machine.{Trying}
use Rattle.trial_laws.specs.AtHand.{AtHand, term_word, ArePieces, GoalsSay, IsStore, of_store, StandsForTry}
use Rattle.trial_laws.specs.Laws.{IsFilled, LawOfFirst}
use Rattle.trial_laws.proofs.Pieces.{either_word, store_word, word_of_piece, piece_word, place_on, goals_on, named_on, not_empty}
use Rattle.trial_laws.proofs.Pieces.{starts_once}
use Rattle.trial_laws.proofs.BoundMore.{part_behind}
use Rattle.trial_laws.proofs.Slots.{step, term_says}
use Rattle.trial_laws.proofs.TriedPlaces.{below}
use Rattle.trial_laws.proofs.PlacesInOrder.{own_bound}

zero_not_final : is_final_word 0 ≡ true → ⊥
zero_not_final f = true≢false (sym f ∙ ap is_final_in zero_is)

-- a place has one name, and a name one place
pub names_once : (w : Words) (vs : Addresses) (bound : Bindings) (ps : List (List ℕ)) → IsStore w vs bound → (v u : Variable) (a b : ℕ)
    → Listed (with_variables ps vs) v a → Listed (with_variables ps vs) u b → (v ≡ u → a ≡ b) × (a ≡ b → v ≡ u)
names_once w vs bound ps store v u a b h l = go (listed_either vs _ v a h) (listed_either vs _ u b l)
  where
    apart : (x y : Variable) (c d : ℕ) → Listed vs x c → Listed (numbered 1 (place_words 4000000000 ps)) y d → (x ≡ y → ⊥) × (c ≡ d → ⊥)
    apart x y c d i j =
        let m = store.says.is_made x c i in
        let r = variable_at 1 1 4000000000 ps y d j in
        let low = below w vs bound ps store x c i in
        let high = starts_above 4000000000 ps r.2 r.3 (located_starts 1 1 4000000000 ps r.0 r.1 r.2 r.3 r.5) in
        let e : d ≡ suc r.2 = r.7 in
        ((λ f. let k : made m.0 ≡ own r.0 = sym m.1 ∙ (f ∙ r.4) in cc), (λ f. omega arith))

    go : Listed vs v a ⊎ Listed (numbered 1 (place_words 4000000000 ps)) v a
        → Listed vs u b ⊎ Listed (numbered 1 (place_words 4000000000 ps)) u b → (v ≡ u → a ≡ b) × (a ≡ b → v ≡ u)
    go (inl i) (inl j) = store.says.once v u a b i j
    go (inl i) (inr j) = let n = apart v u a b i j in ((λ f. absurd (n.0 f)), (λ f. absurd (n.1 f)))
    go (inr i) (inl j) = let n = apart u v b a j i in ((λ f. absurd (n.0 (sym f))), (λ f. absurd (n.1 (sym f))))
    go (inr i) (inr j) =
        let g = variable_at 1 1 4000000000 ps v a i in
        let k = variable_at 1 1 4000000000 ps u b j in
        let o = place_once 1 1 4000000000 ps g.0 g.1 g.2 g.3 k.0 k.1 k.2 k.3 g.5 k.5 g.6 k.6 in (
          (λ f. let n : own g.0 ≡ own k.0 = sym g.4 ∙ (f ∙ k.4) in g.7 ∙ (ap suc (o.0 (let q : g.0 ≡ k.0 = cc in q)) ∙ sym k.7)),
          (λ f. let n : suc g.2 ≡ suc k.2 = sym g.7 ∙ (f ∙ k.7) in g.4 ∙ (ap own (o.1 (omega arith)) ∙ sym k.4)),
        )

module _ (w : Words) (vs : Addresses) (bound : Bindings) (r : AtHand) (t : Trying) (store : IsStore w vs bound)
    (formed : ArePieces r.pieces)
    (s : StandsForTry w vs bound r t) (i k at : ℕ) (ps : List (List ℕ))
    (listed : Listed (numbered 1 (place_words 4000000000 r.pieces)) (own k) (suc at)) (free : word_at r.binds (suc at) ≡ None)
    (f : IsFilled at (term_word r i) r.pieces ps) where
  abbrev x : ℕ
  x = term_word r i

  abbrev u : Term Variable
  u = as_term (t.slots i)

  -- the piece at that address
  only : (p : List ℕ) → StartsAt 4000000000 r.pieces at p → p ≡ 0 ∷ 0 ∷ []
  only p h = starts_once 4000000000 r.pieces at p (0 ∷ 0 ∷ []) (not_empty p (formed.each at p h)) (omega arith) h f.was

  now_word : with_own ps w (suc at) ≡ Some x
  now_word = subst (λ (c : ℕ). with_own ps w c ≡ Some x) (omega arith) (word_of_piece w ps at 1 x (0 ∷ x ∷ []) f.now refl)

  was_word : with_own r.pieces w (suc at) ≡ Some 0
  was_word =
      subst (λ (c : ℕ). with_own r.pieces w c ≡ Some 0) (omega arith) (word_of_piece w r.pieces at 1 0 (0 ∷ 0 ∷ []) f.was refl)

  other_word : (c y : ℕ) → (c ≡ suc at → ⊥) → with_own r.pieces w c ≡ Some y → with_own ps w c ≡ Some y
  other_word c y n e = ⊎_elim own_one (λ j. store_word w ps c y (store.low c y j) j) (either_word w r.pieces c y e)
    where
      own_one : word_at (rows 4000000000 r.pieces) c ≡ Some y → with_own ps w c ≡ Some y
      own_one j =
          let q = in_rows 4000000000 c y r.pieces j in
          piece_word w ps c y (subst (λ (d : ℕ). word_at (rows 4000000000 ps) d ≡ Some y) (sym q.5)
          (⊎_elim (λ g. here q.0 q.1 q.2 g q.5 q.3 q.6) (λ g. rows_in 4000000000 q.0 q.1 y ps q.2 (f.others q.0 q.2 g q.3) q.6)
          (nat_same q.0 at)))
        where
          here : (a d : ℕ) (p : List ℕ) → a ≡ at → c ≡ a + d → StartsAt 4000000000 r.pieces a p → slice_get p d ≡ Some y
              → word_at (rows 4000000000 ps) (a + d) ≡ Some y
          here a d p g cd h l =
              at_d d cd (sym (ap (λ (z : List ℕ). slice_get z d) (only p (subst (λ (z : ℕ). StartsAt 4000000000 r.pieces z p) g h))) ∙ l)
            where
              at_d : (d : ℕ) → c ≡ a + d → slice_get (0 ∷ 0 ∷ []) d ≡ Some y → word_at (rows 4000000000 ps) (a + d) ≡ Some y
              at_d zero m o =
                  rows_in 4000000000 a 0 y ps (0 ∷ x ∷ []) (subst (λ (z : ℕ). StartsAt 4000000000 ps z (0 ∷ x ∷ [])) (sym g) f.now) o
              at_d (suc zero) m o = absurd (n (omega arith))
              at_d (suc (suc e)) m o = let h : None ≡ Some y = o in cc

  grows : Grows (with_own r.pieces w) (with_own ps w)
  grows c y e final =
      ⊎_elim
      (λ g. absurd (zero_not_final (subst (λ (z : ℕ). is_final_word z ≡ true)
      (same_Some _ _ (sym e ∙ (ap (with_own r.pieces w) g ∙ was_word))) final)))
      (λ g. other_word c y g e) (nat_same c (suc at))

  on : (v : Variable) (a : ℕ) → Listed (with_variables r.pieces vs) v a → Listed (with_variables ps vs) v a
  on v a h = subst (λ (l : List ℕ). Listed (vs ++ numbered 1 l) v a) (sym f.same_places) h

  back : (v : Variable) (a : ℕ) → Listed (with_variables ps vs) v a → Listed (with_variables r.pieces vs) v a
  back v a h = subst (λ (l : List ℕ). Listed (vs ++ numbered 1 l) v a) f.same_places h

  x_says : Denotes (with_own r.pieces w) (with_variables r.pieces vs) x u
  x_says = term_says w vs bound r t i s

  own_listed : Listed (with_variables r.pieces vs) (own k) (suc at)
  own_listed = listed_right vs (numbered 1 (place_words 4000000000 r.pieces)) (own k) (suc at) listed

  -- the variable was not bound
  unbound : find (bound ++ t.bound) (own k) ≡ None
  unbound =
      let p = s.places (own k) (suc at) own_listed in
      let e : with_own r.pieces w (suc at) ≡ Some p.0 =
      sym (ap (λ (o : Option ℕ). first_of o (with_own r.pieces w (suc at))) free) ∙ p.1 in
      go (find (bound ++ t.bound) (own k)) refl
      (subst (λ (y : ℕ). PlaceSays (with_own r.pieces w) (with_variables r.pieces vs) y (find (bound ++ t.bound) (own k)))
      (same_Some _ _ (sym e ∙ was_word)) p.2)
    where
      go : (o : Option (Term Variable)) → find (bound ++ t.bound) (own k) ≡ o
          → PlaceSays (with_own r.pieces w) (with_variables r.pieces vs) 0 (find (bound ++ t.bound) (own k))
          → find (bound ++ t.bound) (own k) ≡ None
      go None e h = e
      go (Some z) e h =
          absurd (zero_not_final (denotes_final _ _ 0 z
          (subst (λ (o : Option (Term Variable)). PlaceSays (with_own r.pieces w) (with_variables r.pieces vs) 0 o) e h)))

  abbrev bs' : Bindings
  bs' = t.bound ++ (own k, u) ∷ []

  one_more : (v : Variable) → find (bound ++ bs') v ≡ found_or (find (bound ++ t.bound) v) (cond (is_same (own k) v) (Some u) None)
  one_more v =
      ap (λ (l : Bindings). find l v) (sym (append_assoc bound t.bound ((own k, u) ∷ [])))
      ∙ find-append (bound ++ t.bound) ((own k, u) ∷ []) v

  or_none : (o : Option (Term Variable)) → found_or o None ≡ o
  or_none None = refl
  or_none (Some z) = refl

  find_here : find (bound ++ bs') (own k) ≡ Some u
  find_here =
      one_more (own k)
      ∙ (ap (λ (o : Option (Term Variable)). found_or o (cond (is_same (own k) (own k)) (Some u) None)) unbound
      ∙ ap (λ (b : Bool). found_or None (cond b (Some u) None)) (is_same_refl (own k)))

  find_other : (v : Variable) → is_same (own k) v ≡ false → find (bound ++ bs') v ≡ find (bound ++ t.bound) v
  find_other v e =
      one_more v
      ∙ (ap (λ (b : Bool). found_or (find (bound ++ t.bound) v) (cond b (Some u) None)) e ∙ or_none (find (bound ++ t.bound) v))

  abbrev Says : Variable → ℕ → Type 0
  Says v a = (y : ℕ) × (over r.binds (with_own ps w) a ≡ Some y)
      × PlaceSays (with_own ps w) (with_variables ps vs) y (find (bound ++ bs') v)

  says_here : Says (own k) (suc at)
  says_here = (
    x,
    ap (λ (o : Option ℕ). first_of o (with_own ps w (suc at))) free ∙ now_word,
    subst (λ (o : Option (Term Variable)). PlaceSays (with_own ps w) (with_variables ps vs) x o) (sym find_here)
        (denotes_on _ _ _ _ grows on x u x_says),
  )

  says_other : (v : Variable) (a : ℕ) → Listed (with_variables r.pieces vs) v a → is_same (own k) v ≡ false → (a ≡ suc at → ⊥) → Says v a
  says_other v a h e n =
      let p = s.places v a h in (
        p.0,
        go (word_at r.binds a) p.1,
        subst (λ (o : Option (Term Variable)). PlaceSays (with_own ps w) (with_variables ps vs) p.0 o) (sym (find_other v e))
            (place_on _ _ _ _ grows on p.0 (find (bound ++ t.bound) v) p.2),
      )
    where
      go : (o : Option ℕ) → first_of o (with_own r.pieces w a) ≡ Some (s.places v a h).0
          → first_of o (with_own ps w a) ≡ Some (s.places v a h).0
      go None l = other_word a _ n l
      go (Some z) l = l

  says : (v : Variable) (a : ℕ) → Listed (with_variables ps vs) v a → Says v a
  says v a h = go (is_same (own k) v) refl
    where
      h' : Listed (with_variables r.pieces vs) v a
      h' = back v a h

      go : (b : Bool) → is_same (own k) v ≡ b → Says v a
      go true e =
          let same : own k ≡ v = is_same-true (own k) v e in
          let there : suc at ≡ a = (names_once w vs bound r.pieces store (own k) v (suc at) a own_listed h').0 same in
          subst (λ (c : ℕ). Says v c) there (subst (λ (z : Variable). Says z (suc at)) same says_here)
      go false e =
          says_other v a h' e
          (λ g. let same : v ≡ own k = (names_once w vs bound r.pieces store v (own k) a (suc at) h' own_listed).1 g in
          true≢false (sym (is_same_refl (own k)) ∙ (ap (is_same (own k)) (sym same) ∙ e)))

  open_on : (a y : ℕ) → word_at r.binds a ≡ Some y → (e : ℕ) × At (with_own ps w) a (Unbound e)
  open_on a y e =
      let p = s.binds_open a y e in
      (p.0, (p.1.0, other_word a p.1.0 (λ g. let h : None ≡ Some y = sym free ∙ (ap (word_at r.binds) (sym g) ∙ e) in cc) p.1.1, p.1.2))

  named_still : (v : Variable) (z : Term Variable) → find bs' v ≡ Some z
      → (find bound v ≡ None) × ((a : ℕ) × Listed (with_variables ps vs) v a)
  named_still v z e = go (find t.bound v) refl (is_same (own k) v) refl (sym (find-append t.bound ((own k, u) ∷ []) v) ∙ e)
    where
      go : (o : Option (Term Variable)) → find t.bound v ≡ o → (b : Bool) → is_same (own k) v ≡ b
          → found_or (find t.bound v) (cond (is_same (own k) v) (Some u) None) ≡ Some z
          → (find bound v ≡ None) × ((a : ℕ) × Listed (with_variables ps vs) v a)
      go (Some y) f b g h = let p = s.bound_named v y f in (p.0, (p.1.0, on v p.1.0 p.1.1))
      go None f true g h =
          let same : own k ≡ v = is_same-true (own k) v g in (
            subst (λ (x : Variable). find bound x ≡ None) same (store.own_free k),
            (suc at, subst (λ (x : Variable). Listed (with_variables ps vs) x (suc at)) same (on (own k) (suc at) own_listed)),
          )
      go None f false g h =
          absurd (let l : None ≡ Some z =
          sym (ap (λ (o : Option (Term Variable)). found_or o (cond (is_same (own k) v) (Some u) None)) f
          ∙ ap (λ (b : Bool). found_or None (cond b (Some u) None)) g) ∙ h in cc)

  pub first_stands : StandsForTry w vs bound (record r { pieces = ps }) (record t { bound = t.bound ++ (own k, as_term (t.slots i)) ∷ [] })
  first_stands = record {
    clause = s.clause;
    next = s.next;
    behind = s.behind;
    slots = λ j. expr_on _ _ _ _ grows on (r.slots j) (t.slots j) (s.slots j);
    operators = s.operators;
    places = says;
    binds_named = λ a y e. let p = s.binds_named a y e in (
      p.0,
      p.1,
      on p.0 a p.2,
      find-append t.bound ((own k, u) ∷ []) p.0
          ∙ ap (λ (o : Option (Term Variable)). found_or o (cond (is_same (own k) p.0) (Some u) None)) p.3,
    );
    binds_open = open_on;
    bound_named = named_still;
    order = subst (AreAt vs (addresses_of (of_store r.binds))) (sym (own_bound t.bound k u)) s.order;
    reads = named_on _ _ on r.reads t.read s.reads;
    waits = s.waits;
    children = subst (λ (qs : List ℕ). GoalsSay (with_own ps w) (with_variables ps vs) bs' qs t.children) (sym f.same_processes)
        (goals_on _ _ _ _ t.bound bs' grows on (part_behind t.bound ((own k, u) ∷ [])) _ t.children s.children);
  }

pub first_leads : LawOfFirst
first_leads w vs bound ops args at r t store formed s i k b ps e l n f = record {
  state = record t { bound = t.bound ++ (own k, as_term (t.slots i)) ∷ [] };
  stands = first_stands w vs bound r t store formed s i k b ps l n f;
  gives = λ m g. step bound ops args at (suc at) t _ (GetFirst i k) m e (λ q. refl) g;
}
