-- A commit that is laid: the old places and the new ones.
use Rattle.std.proofs.Common.{◌≡◌, ℕ, suc, ◌+◌, ◌-◌, ◌<◌, true, false, List, [], ◌∷◌, ◌++◌, length, refl, sym, ap, ◌∙◌, subst}
use Rattle.std.proofs.Common.{⊎_elim, arith, true≢false, Option, Some, None}
use Rattle.std.specs.Prelude.{slice_get, pos, option_map}
use Rattle.std.proofs.lemmas.Option.{same_Some}
use Rattle.fcp_model.specs.declared.run.Place.{Place}
use Rattle.fcp_model.specs.Places.{Variable, made, own, place, placed}
use Rattle.fcp_model.specs.Terms.{Term, find, settle, rename}
use Rattle.fcp_model.specs.Programs.{Program}
use Rattle.fcp_model.specs.States.{Process, State}
use Rattle.fcp_model.specs.Events.{settled, is_woken}
use Rattle.fcp_model.proofs.Finding.{found_or, find-append}
use Rattle.heap_words.specs.Cells.{decoded, is_final_word, is_final_in}
use Rattle.heap_words.specs.Trails.{WordList, word_at}
use Rattle.heap_words.specs.declared.cell.Cell.{Cell}
use Rattle.heap_words.specs.declared.cell.Cell.TheVariants.{Unbound, Small, Top}
use Rattle.heap_words.specs.declared.cell.Cell.TheVariants as cell
use Rattle.heap_words.specs.declared.cell.Stand.TheVariants as stand
use Rattle.word_states.specs.Words.{Words, At, first_of}
use Rattle.word_states.specs.Denoting.{Listed, Denotes}
use Rattle.word_states.specs.Standing.{Book, PlaceSays, variable_code, FreshSays, ProcessAt, PlaceAt}
use Rattle.word_states.specs.Pieces.{rows, place_words, numbered, with_own, with_variables}
use Rattle.word_states.specs.Layouts.{moved, name_word, fresh_places}
use Rattle.word_states.proofs.Leading.{open_short}
use Rattle.word_states.proofs.Persisting.{denotes_final, one_cell}
use Rattle.word_states.proofs.Pieces.{Located, located_starts, rows_in, zero_is, the_place, place_once, variable_at, place_number}
use Rattle.word_state_laws.proofs.Moving.{denotes_moved}
use Rattle.word_state_laws.proofs.LaidPieces.{becomes_moved, LaidAs, as_free, as_moved, as_place_name, as_process_name, as_status}
use Rattle.word_state_laws.proofs.NewNames.{moved_listed, named}
use Rattle.word_state_laws.proofs.Settling.{find-settled, find-settled_own}
use Rattle.word_state_laws.proofs.SettledWays.{new_unbound}
use Rattle.word_state_laws.proofs.LaidWords.{moves, LaidCommit, bound_free, laid_at, not_in, parent_is, row_of, status_at, word_ok}

module _ {m : Program} {book : Book} {s : State} {p : ℕ} {x : Process} {k : ℕ} {binds : WordList} {ps : List (List ℕ)} {wakes : List ℕ}
    {f : ℕ → ℕ} {w w' : Words} (known : LaidCommit m book s p x k binds ps wakes f w w') where
  -- the place j of the state that is bound
  pub bound_to : (j : Place) (a : ℕ) (t : Term Variable) → PlaceAt book j a → find known.says.bindings (made j) ≡ Some t → (v : ℕ)
      × (word_at binds a ≡ Some v) × Denotes (with_own ps w) (with_variables ps book.places) v t
  bound_to j a t h e =
      let r = known.says.binds_all j t e in
      let here : r.0 ≡ a = (known.stands.says.once (made j) (made j) r.0 a r.2 h).0 refl in
      (r.1, ap (word_at binds) (sym here) ∙ r.4, r.5)

  pub bound_final : (a v : ℕ) → word_at binds a ≡ Some v → is_final_word v ≡ true
  bound_final a v e =
      let b = (bound_free known) a v e in
      let r = bound_to b.0 a b.3.0 b.1 b.3.1 in
      let same : r.0 ≡ v = same_Some _ _ (sym r.1 ∙ e) in
      ap is_final_word (sym same) ∙ denotes_final (with_own ps w) (with_variables ps book.places) r.0 b.3.0 r.2

  pub before : (j : Place) (t : Term Variable) → find known.says.bindings (made j) ≡ Some t → j.entry < suc s.entries
  before j t e = let r = known.says.binds_all j t e in let le = known.stands.dated_places j r.0 r.2 in omega arith

  pub binds' : (j : Place) (a : ℕ) (t : Term Variable) → PlaceAt book j a → find known.stands.short (made j) ≡ None
      → find (settled (suc s.entries) known.says.bindings) (made j) ≡ Some t
      → (y : ℕ) × (w' a ≡ Some y) × Denotes w' (book.places ++ fresh_places f (suc s.entries) ps) y t
  binds' j a t h free e = go (find known.says.bindings (made j)) refl (sym (find-settled (suc s.entries) known.says.bindings j lt) ∙ e)
    where
      lt : j.entry < suc s.entries
      lt = let le = known.stands.dated_places j a h in omega arith

      go : (o : Option (Term Variable)) → find known.says.bindings (made j) ≡ o → option_map (rename (settle (suc s.entries))) o ≡ Some t
          → (y : ℕ) × (w' a ≡ Some y) × Denotes w' (book.places ++ fresh_places f (suc s.entries) ps) y t
      go None i g = let bad : None ≡ Some t = g in cc
      go (Some u) i g =
          let r = bound_to j a u h i in
          let same : rename (settle (suc s.entries)) u ≡ t = same_Some _ _ g in (
            moved f r.0,
            known.laid.bound a r.0 r.1,
            subst (Denotes w' (book.places ++ fresh_places f (suc s.entries) ps) (moved f r.0)) same
                (denotes_moved (moves known) r.0 (moved f r.0) u (known.formed.bound_rooted a r.0 r.1)
                (λ c d. becomes_moved f r.0 c known.laid.small d) r.2),
          )

  pub not_bound' : (a : ℕ) (c : Cell) → At w a c → ((e : ℕ) → c ≡ Unbound e → ⊥) → word_at binds a ≡ None
  not_bound' a c h g = go (word_at binds a) refl
    where
      go : (o : Option ℕ) → word_at binds a ≡ o → word_at binds a ≡ None
      go None i = i
      go (Some v) i = let r = (bound_free known) a v i in absurd (g r.2.0 (one_cell w a _ _ h r.2.1))

  pub leaves' : (j : Place) (a : ℕ) → PlaceAt book j a → find known.stands.short (made j) ≡ None
      → find (settled (suc s.entries) known.says.bindings) (made j) ≡ None → w' a ≡ w a
  leaves' j a h free e =
      let z = known.stands.says.word (made j) a h in
      let u : PlaceSays w book.places z.0 None = subst (PlaceSays w book.places z.0) free z.2 in
      let is : At w a (Unbound u.0) = (z.0, z.1, u.1) in
      ⊎_elim (λ (g : w' a ≡ Some z.0). g ∙ sym z.1)
      (λ (g : (t u : ℕ) × (decoded z.0 ≡ Some (Top t)) × At w' a (Top u)). let bad : Unbound u.0 ≡ Top g.0 = same_Some _ _ (sym u.1
      ∙ g.2) in cc)
      (known.laid.others a z.0 z.1 (λ here. let bad : Unbound u.0 ≡ cell.Status stand.Ready = one_cell w p _ _
      (subst (λ (b : ℕ). At w b (Unbound u.0)) here is) (parent_is known) in cc)
      (go (word_at binds a) refl) ((not_in known) a (Unbound u.0) is (λ d g. cc)))
    where
      unbound : (o : Option (Term Variable)) → find known.says.bindings (made j) ≡ o
          → option_map (rename (settle (suc s.entries))) o ≡ None → find known.says.bindings (made j) ≡ None
      unbound None i g = i
      unbound (Some t) i g = let bad : Some (rename (settle (suc s.entries)) t) ≡ None = g in cc

      go : (o : Option ℕ) → word_at binds a ≡ o → word_at binds a ≡ None
      go None i = i
      go (Some v) i =
          let r = (bound_free known) a v i in
          let le = known.stands.dated_places j a h in
          let same : made r.0 ≡ made j = (known.stands.says.once (made r.0) (made j) a a r.1 h).1 refl in
          let none' = unbound (find known.says.bindings (made j)) refl (sym
          (find-settled (suc s.entries) known.says.bindings j (omega arith)) ∙ e) in
          let bad : Some r.3.0 ≡ None = sym r.3.1 ∙ ap (find known.says.bindings) same ∙ none' in cc

  pub others' : (q : ℕ) (y : Process) → ProcessAt book s q y → (q ≡ p → ⊥) → is_woken known.bindings y.status ≡ false → w' q ≡ w q
  others' q y at far u =
      let st = (status_at known) q y at in
      ⊎_elim (λ (g : w' q ≡ Some st.1.0). g ∙ sym st.1.1)
      (λ (g : (t u : ℕ) × (decoded st.1.0 ≡ Some (Top t)) × At w' q (Top u)). let bad : cell.Status st.0 ≡ Top g.0 = same_Some _ _
      (sym st.1.2 ∙ g.2) in cc)
      (known.laid.others q st.1.0 st.1.1 far (not_bound' q (cell.Status st.0) st.1 (λ e g. cc))
      (λ i. let r = known.woken.only q i in let same : y ≡ r.0 = (known.stands.once q q y r.0 at r.1).1 refl in
      true≢false (sym r.2 ∙ ap (λ (z : Process). is_woken known.bindings z.status) (sym same) ∙ u)))

  -- a new place
  pub fresh_at : (v : Variable) (a : ℕ) → Listed (fresh_places f (suc s.entries) ps) v a
      → (j i' r x : ℕ) × (v ≡ placed (suc s.entries) j) × (a ≡ f (suc r)) × Located 1 1 4000000000 ps j i' r (0 ∷ x ∷ [])
      × Listed (numbered 1 (place_words 4000000000 ps)) (own j) (suc r)
  fresh_at v a h =
      let g = moved_listed f (settle (suc s.entries)) (numbered 1 (place_words 4000000000 ps)) v a h in
      let l = variable_at 1 1 4000000000 ps g.0 g.1 g.2 in
      let t = the_place l.3 (known.formed.each l.2 l.3 (located_starts 1 1 4000000000 ps l.0 l.1 l.2 l.3 l.5)) l.6 in (
        l.0,
        l.1,
        l.2,
        t.0,
        g.3 ∙ ap (settle (suc s.entries)) l.4,
        g.4 ∙ ap f l.7,
        subst (Located 1 1 4000000000 ps l.0 l.1 l.2) {y = 0 ∷ t.0 ∷ []} t.1 l.5,
        subst (λ (c : ℕ). Listed (numbered 1 (place_words 4000000000 ps)) (own l.0) c) l.7
            (subst (λ (u : Variable). Listed (numbered 1 (place_words 4000000000 ps)) u g.1) l.4 g.2),
      )

  pub step : (r : ℕ) (q : List ℕ) (k' i' : ℕ) → Located 1 1 4000000000 ps k' i' r q → 1 < length q → f (suc r) ≡ f r + 1
  step r q k' i' h lt =
      let e : suc r ≡ r + 1 = omega arith in ap f e ∙ (row_of known) r q (located_starts 1 1 4000000000 ps k' i' r q h) 1 lt

  pub fresh_name' : (v : Variable) (a : ℕ) → Listed (fresh_places f (suc s.entries) ps) v a
      → ((k : ℕ) × (v ≡ placed (suc s.entries) k) × (k < 268435456)) × (0 < a) × At w' (a - 1) (Small (pos (variable_code v)))
  fresh_name' v a h =
      let g = fresh_at v a h in
      let lt : g.0 < 268435456 = (let l = place_number 1 1 4000000000 ps g.0 g.1 g.2 (0 ∷ g.3 ∷ []) g.6 refl in
      let e = known.says.variables in let b = known.says.few.0 in omega arith) in
      let z = (laid_at known) g.2 0 0 (0 ∷ g.3 ∷ []) g.0 g.1 g.6 refl (omega arith) in
      let st = step g.2 (0 ∷ g.3 ∷ []) g.0 g.1 g.6 (omega arith) in
      let e = g.5 in
      let before' : a - 1 ≡ f g.2 = omega arith in
      let zero' : g.2 ≡ g.2 + 0 = omega arith in
      let word : z.0 ≡ name_word (suc s.entries) g.0 = name z.0 z.2 in (
        (g.0, g.4, lt),
        omega arith,
        (
          z.0,
          ap w' (before' ∙ ap f zero') ∙ z.1,
          ap decoded word ∙ named (suc s.entries) g.0 known.few lt
              ∙ ap (λ (u : Variable). Some (Small (pos (variable_code u)))) (sym g.4),
        ),
      )
    where
      name : {k' i' : ℕ} {q : List ℕ} (z : ℕ) → LaidAs f (suc s.entries) k' i' q 0 0 z → z ≡ name_word (suc s.entries) k'
      name z (as_moved i j) = absurd (true≢false (sym i ∙ ap is_final_in zero_is))
      name z (as_place_name c i j l) = l
      name z (as_free c i j l) = absurd (omega arith)
      name z (as_status c i j l) = absurd (omega arith)
      name z (as_process_name c i j l) = absurd (omega arith)

  pub row_word : (r d y : ℕ) (q : List ℕ) (k' i' : ℕ) → Located 1 1 4000000000 ps k' i' r q → slice_get q d ≡ Some y
      → word_at (rows 4000000000 ps) (r + d) ≡ Some y
  row_word r d y q k' i' h e = rows_in 4000000000 r d y ps q (located_starts 1 1 4000000000 ps k' i' r q h) e

  pub word_after : (r x : ℕ) (k' i' : ℕ) → Located 1 1 4000000000 ps k' i' r (0 ∷ x ∷ []) → word_at (rows 4000000000 ps) (suc r) ≡ Some x
  word_after r x k' i' h =
      let e : suc r ≡ r + 1 = omega arith in ap (word_at (rows 4000000000 ps)) e ∙ row_word r 1 x (0 ∷ x ∷ []) k' i' h refl

  pub fresh_once' : (v u : Variable) (a b : ℕ) → Listed (fresh_places f (suc s.entries) ps) v a
      → Listed (fresh_places f (suc s.entries) ps) u b → (v ≡ u → a ≡ b) × (a ≡ b → v ≡ u)
  fresh_once' v u a b h l =
      let g = fresh_at v a h in
      let i = fresh_at u b l in
      let o = place_once 1 1 4000000000 ps g.0 g.1 g.2 (0 ∷ g.3 ∷ []) i.0 i.1 i.2 (0 ∷ i.3 ∷ []) g.6 i.6 refl refl in (
        (λ e. let q : placed (suc s.entries) g.0 ≡ placed (suc s.entries) i.0 = sym g.4 ∙ e ∙ i.4 in
            let num : g.0 ≡ i.0 = (let c : place (suc s.entries) g.0 ≡ place (suc s.entries) i.0 = cc in
            ap (λ (j : Place). j.number) c) in g.5 ∙ ap (λ (c : ℕ). f (suc c)) (o.0 num) ∙ sym i.5),
        (λ e.
            let same : suc g.2 ≡ suc i.2 = known.laid.one (suc g.2) (suc i.2) g.3 i.3 (word_after g.2 g.3 g.0 g.1 g.6)
            (word_after i.2 i.3 i.0 i.1 i.6) (sym g.5 ∙ e ∙ i.5) in
            let c : g.2 ≡ i.2 = omega arith in
            g.4 ∙ ap (placed (suc s.entries)) (o.1 c) ∙ sym i.4),
      )

  pub fresh_apart' : (v u : Variable) (a b : ℕ) → Listed book.places v a → Listed (fresh_places f (suc s.entries) ps) u b → a ≡ b → ⊥
  fresh_apart' v u a b h l e =
      let g = fresh_at u b l in
      let z = known.stands.says.word v a h in
      let bad : Some z.0 ≡ None = sym z.1 ∙ ap w (e ∙ g.5) ∙ known.laid.free (suc g.2) g.3 (word_after g.2 g.3 g.0 g.1 g.6) in cc

  pub fresh_word' : (v : Variable) (a : ℕ) → Listed (fresh_places f (suc s.entries) ps) v a
      → (y : ℕ) × (w' a ≡ Some y)
      × FreshSays w' (book.places ++ fresh_places f (suc s.entries) ps) y
      (find (known.stands.short ++ settled (suc s.entries) known.says.bindings) v)
  fresh_word' v a h =
      let g = fresh_at v a h in
      let z = (laid_at known) g.2 1 g.3 (0 ∷ g.3 ∷ []) g.0 g.1 g.6 refl (omega arith) in
      let e : suc g.2 ≡ g.2 + 1 = omega arith in
      let r = known.says.variable g.0 (suc g.2) g.7 in
      let same : r.0 ≡ g.3 = same_Some _ _ (sym r.1 ∙ word_after g.2 g.3 g.0 g.1 g.6) in
      let o : find (known.stands.short ++ settled (suc s.entries) known.says.bindings) (placed (suc s.entries) g.0) ≡ option_map
      (rename (settle (suc s.entries))) (find known.says.bindings (own g.0)) =
      find-append known.stands.short (settled (suc s.entries) known.says.bindings) (placed (suc s.entries) g.0)
      ∙ ap (λ (t : Option (Term Variable)). found_or t (find (settled (suc s.entries) known.says.bindings)
      (placed (suc s.entries) g.0))) (fresh_unbound g.0)
      ∙ find-settled_own (suc s.entries) known.says.bindings g.0 before in (
        z.0,
        ap w' (g.5 ∙ ap f e) ∙ z.1,
        subst (FreshSays w' (book.places ++ fresh_places f (suc s.entries) ps) z.0)
            (sym (ap (find (known.stands.short ++ settled (suc s.entries) known.says.bindings)) g.4 ∙ o))
            (go g.3 z.0 (find known.says.bindings (own g.0)) (suc g.2) (ap (λ (u : Option ℕ). first_of u (w (suc g.2)))
            (word_after g.2 g.3 g.0 g.1 g.6)) z.2
            (subst (λ (y : ℕ). FreshSays (with_own ps w) (with_variables ps book.places) y (find known.says.bindings (own g.0))) same
            r.2)),
      )
    where
      fresh_unbound : (j : ℕ) → find known.stands.short (placed (suc s.entries) j) ≡ None
      fresh_unbound j = open_short s.bound s.bound known.stands.short (placed (suc s.entries) j) known.stands.shortened
          (new_unbound known.stands j)

      not_free : (x : ℕ) → is_final_word x ≡ true → decoded x ≡ Some (Unbound 0) → ⊥
      not_free x fin d = true≢false (sym fin ∙ ap is_final_in d)

      moved_to : {k' i' : ℕ} (x z : ℕ) → LaidAs f (suc s.entries) k' i' (0 ∷ x ∷ []) 1 x z → is_final_word x ≡ true → z ≡ moved f x
      moved_to x z (as_moved i j) fin = j
      moved_to x z (as_place_name c i j l) fin = absurd (omega arith)
      moved_to x z (as_free c i j l) fin = l ∙ ap (moved f) (sym j)
      moved_to x z (as_status c i j l) fin = absurd (omega arith)
      moved_to x z (as_process_name c i j l) fin = absurd (true≢false (sym i))

      free_at : {k' i' : ℕ} (x z : ℕ) → LaidAs f (suc s.entries) k' i' (0 ∷ x ∷ []) 1 x z → decoded x ≡ Some (Unbound 0)
          → decoded z ≡ Some (Unbound 0)
      free_at x z (as_moved i j) d = absurd (not_free x i d)
      free_at x z (as_place_name c i j l) d = absurd (omega arith)
      free_at x z (as_free c i j l) d = ap decoded l ∙ becomes_moved f 0 (Unbound 0) known.laid.small zero_is
      free_at x z (as_status c i j l) d = absurd (omega arith)
      free_at x z (as_process_name c i j l) d = absurd (true≢false (sym i))

      go : {k' i' : ℕ} (x z : ℕ) (o : Option (Term Variable)) (b : ℕ) → with_own ps w b ≡ Some x
          → LaidAs f (suc s.entries) k' i' (0 ∷ x ∷ []) 1 x z → FreshSays (with_own ps w) (with_variables ps book.places) x o
          → FreshSays w' (book.places ++ fresh_places f (suc s.entries) ps) z (option_map (rename (settle (suc s.entries))) o)
      go x z None b e l fs = free_at x z l fs
      go x z (Some t) b e l fs =
          let fin = denotes_final (with_own ps w) (with_variables ps book.places) x t fs in
          denotes_moved (moves known) x z t ((word_ok known) b x e fin) (λ c d. ap decoded (moved_to x z l fin)
          ∙ becomes_moved f x c known.laid.small d) fs
