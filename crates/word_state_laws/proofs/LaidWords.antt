-- A commit that is laid: what its words carry over.
use Rattle.std.proofs.Common.{◌≡◌, ◌⊎◌, ℕ, suc, ◌+◌, ◌<◌, true, false, List, [], ◌∷◌, ◌++◌, length, refl, sym, ap, ◌∙◌, subst, ⊎_elim}
use Rattle.std.proofs.Common.{inl, inr, arith, true≢false, Option, Some, None}
use Rattle.std.specs.Prelude.{slice_get}
use Rattle.std.proofs.lemmas.Option.{same_Some}
use Rattle.fcp_model.specs.declared.run.Place.{Place}
use Rattle.fcp_model.specs.Places.{Variable, made}
use Rattle.fcp_model.specs.Terms.{Term, Bindings, find, settle}
use Rattle.fcp_model.specs.Programs.{Goal, Program}
use Rattle.fcp_model.specs.Decisions.{commits, Decides}
use Rattle.fcp_model.specs.Cells.{clause_used}
use Rattle.fcp_model.specs.States.{Status, ready, waiting, finished, Process, State}
use Rattle.heap_words.specs.Cells.{decoded, is_final_word, is_final_in, is_final_cell}
use Rattle.heap_words.specs.Refers.{parts}
use Rattle.heap_words.specs.Trails.{WordList, word_at}
use Rattle.heap_words.specs.declared.cell.Cell.{Cell}
use Rattle.heap_words.specs.declared.cell.Cell.TheVariants.{Unbound, Ref, RoRef, Small, Wide, Str, Nil, Cons, Tuple, Raw, Top}
use Rattle.heap_words.specs.declared.cell.Stand.{Stand}
use Rattle.heap_words.specs.declared.cell.Cell.TheVariants as cell
use Rattle.heap_words.specs.declared.cell.Stand.TheVariants as stand
use Rattle.word_states.specs.Words.{Words, At, first_of, Grows, IsIn}
use Rattle.word_states.specs.Denoting.{Listed}
use Rattle.word_states.specs.Leading.{BindingsLead}
use Rattle.word_states.specs.Standing.{Book, StandsFor, PlaceSays, StatusSays, ProcessAt, PlaceAt}
use Rattle.word_states.specs.Pieces.{rows, StartsAt, place_words, numbered, RefersOwn, with_own, with_variables}
use Rattle.word_states.specs.Formed.{AreFormed, IsOld, IsRooted}
use Rattle.word_states.specs.Trials.{CommitSays}
use Rattle.word_states.specs.Waking.{AreWoken}
use Rattle.word_states.specs.Layouts.{moved_cell, laid_piece, CommitLaid, fresh_places}
use Rattle.word_states.proofs.Lists.{listed_left, listed_right, listed_either}
use Rattle.word_states.proofs.Persisting.{one_cell}
use Rattle.word_states.proofs.Pieces.{Located, starts_located, located_starts, in_rows, rows_in, rows_above, zero_is, nine_is}
use Rattle.word_state_laws.proofs.Moving.{Becomes, Row, Moves}
use Rattle.word_state_laws.proofs.LaidPieces.{laid_of, stand_get, becomes_moved, LaidAs, laid_get, as_free, as_moved, as_place_name}
use Rattle.word_state_laws.proofs.LaidPieces.{as_process_name, as_status}
use Rattle.word_state_laws.proofs.NewNames.{listed_moved}

-- What is known of a commit that is laid: the words stand for the state, the process at p is Ready there, and a trial says the commit of
-- the goal that the words say. The decision for the state's own goal is the same but for ways of its bindings.
pub record LaidCommit (m : Program) (book : Book) (s : State) (p : ℕ) (x : Process) (k : ℕ) (binds : WordList) (ps : List (List ℕ))
    (wakes : List ℕ) (f : ℕ → ℕ) (w w' : Words) : Type 0 where
  pub stands : StandsFor book w s
  pub parent : ProcessAt book s p x
  pub was_ready : x.status ≡ ready
  pub few : suc s.entries < 134217728
  pub low : (a y : ℕ) → w a ≡ Some y → a < 4000000000
  pub old : (a y : ℕ) → w a ≡ Some y → IsOld w y
  pub formed : AreFormed w binds ps
  pub goal : Goal Variable
  pub says : CommitSays m w book.places stands.short goal k binds ps
  pub bindings : Bindings
  pub decides : Decides m s.bound x.goal (commits k bindings says.reads)
  pub leads : BindingsLead (s.bound ++ bindings) bindings says.bindings
  pub used : clause_used m x.goal k ≡ clause_used m goal k
  pub woken : AreWoken book s bindings wakes
  pub laid : CommitLaid f (suc s.entries) p binds ps wakes w w'

module _ {m : Program} {book : Book} {s : State} {p : ℕ} {x : Process} {k : ℕ} {binds : WordList} {ps : List (List ℕ)} {wakes : List ℕ}
    {f : ℕ → ℕ} {w w' : Words} (known : LaidCommit m book s p x k binds ps wakes f w w') where
  -- the store's words
  pub status_at : (q : ℕ) (y : Process) → ProcessAt book s q y → (d : Stand) × At w q (cell.Status d)
  status_at q y h = let r = (known.stands.process q y h).status in go r.0 r.1 y.status r.2
    where
      go : (z : ℕ) → w q ≡ Some z → (st : Status) → StatusSays s.entries z st → (d : Stand) × At w q (cell.Status d)
      go z e ready is = (stand.Ready, (z, e, is))
      go z e finished is = (stand.Done, (z, e, is))
      go z e (waiting ns) is = (stand.Waiting is.0, (z, e, is.1))

  -- a privately bound place was unbound
  pub bound_free : (a v : ℕ) → word_at binds a ≡ Some v → (j : Place) × PlaceAt book j a × ((e : ℕ) × At w a (Unbound e))
      × ((t : Term Variable) × (find known.says.bindings (made j) ≡ Some t))
  bound_free a v e =
      let r = known.says.binds_only a v e in
      let b = known.says.binds_all r.0 r.1 r.3 in
      let z = known.stands.says.word (made r.0) a r.2 in
      let u : PlaceSays w book.places z.0 None = subst (PlaceSays w book.places z.0) b.3 z.2 in
      (r.0, r.2, (u.0, (z.0, z.1, u.1)), (r.1, r.3))

  pub woken_status : (a : ℕ) → IsIn a wakes → (d : Stand) × At w a (cell.Status d)
  woken_status a h = let r = known.woken.only a h in status_at a r.0 r.1

  pub soft : (a y : ℕ) (c : Cell) → At w a c → is_final_cell c ≡ false → w a ≡ Some y → is_final_word y ≡ true → ⊥
  soft a y c h g e fin = true≢false (sym fin ∙ ap is_final_in (ap decoded (same_Some _ _ (sym e ∙ h.1)) ∙ h.2) ∙ g)

  pub not_in : (a : ℕ) (c : Cell) → At w a c → ((d : Stand) → c ≡ cell.Status d → ⊥) → IsIn a wakes → ⊥
  not_in a c h g i = let r = woken_status a i in g r.0 (one_cell w a _ _ h r.1)

  pub parent_is : At w p (cell.Status stand.Ready)
  parent_is =
      let r = (known.stands.process p x known.parent).status in
      let q : StatusSays s.entries r.0 ready = subst (StatusSays s.entries r.0) known.was_ready r.2 in (r.0, r.1, q)

  -- final words stay
  pub grows : Grows w w'
  grows a y e fin = go (word_at binds a) refl
    where
      not_parent : a ≡ p → ⊥
      not_parent h = soft p y (cell.Status stand.Ready) parent_is refl (ap w (sym h) ∙ e) fin

      not_woken : IsIn a wakes → ⊥
      not_woken h = let r = woken_status a h in soft a y (cell.Status r.0) r.1 refl e fin

      go : (o : Option ℕ) → word_at binds a ≡ o → w' a ≡ Some y
      go (Some v) i = let r = bound_free a v i in absurd (soft a y (Unbound r.2.0) r.2.1 refl e fin)
      go None i =
          ⊎_elim (λ h. h) (λ (h : (t u : ℕ) × (decoded y ≡ Some (Top t)) × At w' a (Top u)). absurd (true≢false (sym fin
          ∙ ap is_final_in h.2))) (known.laid.others a y e not_parent i not_woken)

  -- the words of the pieces
  pub own_or_store : (a y : ℕ) → with_own ps w a ≡ Some y → (word_at (rows 4000000000 ps) a ≡ Some y) ⊎ (w a ≡ Some y)
  own_or_store a y e = go (word_at (rows 4000000000 ps) a) refl e
    where
      go : (o : Option ℕ) → word_at (rows 4000000000 ps) a ≡ o → first_of o (w a) ≡ Some y → (word_at (rows 4000000000 ps) a ≡ Some y)
          ⊎ (w a ≡ Some y)
      go (Some z) i g = inl (i ∙ g)
      go None i g = inr g

  -- where a word of a piece is laid
  pub laid_at : (s' d y : ℕ) (q : List ℕ) (k' i' : ℕ) → Located 1 1 4000000000 ps k' i' s' q → slice_get q d ≡ Some y → d < length q
      → (z : ℕ) × (w' (f (s' + d)) ≡ Some z) × LaidAs f (suc s.entries) k' i' q d y z
  laid_at s' d y q k' i' h e lt =
      let l = laid_of f (suc s.entries) w' 1 1 4000000000 ps k' i' s' q known.laid.laid h in
      let r = laid_get f (suc s.entries) k' i' q d y (known.formed.each s' q (located_starts 1 1 4000000000 ps k' i' s' q h)) e in
      (r.0, ap w' (l.0 d lt) ∙ stand_get w' (f s') (laid_piece f (suc s.entries) k' i' q) d r.0 l.1 r.1, r.2)

  pub carry : (a y : ℕ) → with_own ps w a ≡ Some y → is_final_word y ≡ true → (z : ℕ) × (w' (f a) ≡ Some z) × Becomes f y z
  carry a y e fin = ⊎_elim
      (λ (h : word_at (rows 4000000000 ps) a ≡ Some y).
      let r = in_rows 4000000000 a y ps h in
      let g = starts_located 1 1 4000000000 ps r.0 r.2 r.3 in
      let z = laid_at r.0 r.1 y r.2 g.0 g.1 g.2 r.6 r.4 in
      (z.0, ap (λ (b : ℕ). w' (f b)) r.5 ∙ z.1, becomes z.0 z.2))
      (λ (h : w a ≡ Some y). (
        y,
        ap w' (known.laid.old a (known.low a y h))
            ∙ grows a y h fin,
        (λ c d. d ∙ ap Some (sym (same_cell c d (known.old a y h)))),
      ))
      (own_or_store a y e)
    where
      becomes : {k' i' d : ℕ} {q : List ℕ} (z : ℕ) → LaidAs f (suc s.entries) k' i' q d y z → Becomes f y z
      becomes z (as_moved h g) = λ c d. ap decoded g ∙ becomes_moved f y c known.laid.small d
      becomes z (as_place_name h g i j) = absurd (true≢false (sym fin ∙ ap is_final_word i ∙ ap is_final_in zero_is))
      becomes z (as_free h g i j) = absurd (true≢false (sym fin ∙ ap is_final_word i ∙ ap is_final_in zero_is))
      becomes z (as_status h g i j) = absurd (true≢false (sym fin ∙ ap is_final_word i ∙ ap is_final_in nine_is))
      becomes z (as_process_name h g i j) = absurd (true≢false (sym fin ∙ ap is_final_word i ∙ ap is_final_in zero_is))

      same_cell : (c : Cell) → decoded y ≡ Some c → IsOld w y → moved_cell f c ≡ c
      same_cell (Unbound b) d o = refl
      same_cell (Ref b) d o = ap Ref (known.laid.old b (o.refers b (Ref b) d (inl refl)))
      same_cell (RoRef b) d o = ap RoRef (known.laid.old b (o.refers b (RoRef b) d (inl refl)))
      same_cell (Small z) d o = refl
      same_cell (Wide b h) d o = ap (λ (c : ℕ). Wide c h) (known.laid.old b (o.refers b (Wide b h) d refl))
      same_cell (Str z) d o = refl
      same_cell Nil d o = refl
      same_cell (Cons b) d o = ap Cons (known.laid.old b (o.refers b (Cons b) d (inl refl)))
      same_cell (Tuple b) d o = ap Tuple (known.laid.old b (o.refers b (Tuple b) d refl))
      same_cell (cell.Status z) d o = refl
      same_cell (Raw z) d o = refl
      same_cell (Top z) d o = refl

  -- a word that is found is rooted
  pub word_ok : (a y : ℕ) → with_own ps w a ≡ Some y → is_final_word y ≡ true → IsRooted w ps y
  word_ok a y e fin = ⊎_elim (λ h. known.formed.rooted a y h fin) (λ h. inl (known.old a y h)) (own_or_store a y e)

  pub row_of : (s' : ℕ) (q : List ℕ) → StartsAt 4000000000 ps s' q → (d : ℕ) → d < length q → f (s' + d) ≡ f s' + d
  row_of s' q h =
      let g = starts_located 1 1 4000000000 ps s' q h in (laid_of f (suc s.entries) w' 1 1 4000000000 ps g.0 g.1 s' q known.laid.laid g.2).0

  pub ok_pair : (y c : ℕ) → IsRooted w ps y → decoded y ≡ Some (Cons c) → Row f (λ y. IsRooted w ps y) (with_own ps w) c (f c) 2
  ok_pair y c (inl o) e i z lt g fin = (stays i lt, word_ok (c + i) z g fin)
    where
      stays : (i : ℕ) → i < 2 → f (c + i) ≡ f c + i
      stays i lt =
          let a : c < 4000000000 = o.refers c (Cons c) e (inl refl) in
          let b : suc c < 4000000000 = o.refers (suc c) (Cons c) e (inr refl) in
          known.laid.old (c + i) (omega arith) ∙ ap (λ (v : ℕ). v + i) (sym (known.laid.old c a))
  ok_pair y c (inr o) e i z lt g fin = (own' o.0 o.1 o.2, word_ok (c + i) z g fin)
    where
      own' : (d : Cell) → decoded y ≡ Some d → RefersOwn ps d → f (c + i) ≡ f c + i
      own' d h r =
          let same : d ≡ Cons c = same_Some _ _ (sym h ∙ e) in
          let t : RefersOwn ps (Cons c) = subst (RefersOwn ps) same r in
          row_of c (t.0 ∷ t.1 ∷ []) t.2 i lt

  pub store_at : (a y : ℕ) → a < 4000000000 → with_own ps w a ≡ Some y → w a ≡ Some y
  store_at a y lt e = ⊎_elim (λ h. let le = rows_above 4000000000 a y ps h in absurd (omega arith)) (λ h. h) (own_or_store a y e)

  pub ok_tuple : (y c j : ℕ) → IsRooted w ps y → decoded y ≡ Some (Tuple c) → At (with_own ps w) c (Raw j)
      → Row f (λ y. IsRooted w ps y) (with_own ps w) (suc c) (suc (f c)) (parts j)
  ok_tuple y c j (inl o) e at i z lt g fin = (stays, word_ok (suc c + i) z g fin)
    where
      below : c < 4000000000
      below = o.refers c (Tuple c) e refl

      part : suc c + i < 4000000000
      part = o.refers_by c at.0 j (suc c + i) (Tuple c) e refl (store_at c at.0 below at.1) at.2 (omega arith, omega arith)

      stays : f (suc c + i) ≡ suc (f c) + i
      stays = known.laid.old (suc c + i) part ∙ ap (λ (v : ℕ). suc v + i) (sym (known.laid.old c below))
  ok_tuple y c j (inr o) e at i z lt g fin = (own' o.0 o.1 o.2, word_ok (suc c + i) z g fin)
    where
      own' : (d : Cell) → decoded y ≡ Some d → RefersOwn ps d → f (suc c + i) ≡ suc (f c) + i
      own' d h r =
          let same : d ≡ Tuple c = same_Some _ _ (sym h ∙ e) in
          let t : RefersOwn ps (Tuple c) = subst (RefersOwn ps) same r in
          let here : word_at (rows 4000000000 ps) (c + 0) ≡ Some t.0 = rows_in 4000000000 c 0 t.0 ps (t.0 ∷ t.2) t.3 refl in
          let zero' : c + 0 ≡ c = omega arith in
          let is : with_own ps w c ≡ Some t.0 = ap (λ (u : Option ℕ). first_of u (w c)) (ap (word_at (rows 4000000000 ps)) (sym zero')
          ∙ here) in
          let num : Raw t.1 ≡ Raw j = one_cell (with_own ps w) c _ _ (t.0, is, t.4) at in
          let num' : t.1 ≡ j = cc in
          let size : length t.2 ≡ parts j = t.5 ∙ ap parts num' in
          let p1 : suc c + i ≡ c + suc i = omega arith in
          let p2 : f c + suc i ≡ suc (f c) + i = omega arith in
          ap f p1 ∙ row_of c (t.0 ∷ t.2) t.3 (suc i) (omega arith) ∙ p2

  pub book_at : (v : Variable) (a : ℕ) → Listed book.places v a → f a ≡ a
  book_at v a h = let z = known.stands.says.word v a h in known.laid.old a (known.low a z.0 z.1)

  pub listed : (v : Variable) (a : ℕ) → Listed (with_variables ps book.places) v a
      → Listed (book.places ++ fresh_places f (suc s.entries) ps) (settle (suc s.entries) v) (f a)
  listed v a h = ⊎_elim
      (λ (t : Listed book.places v a).
      let mk = known.stands.says.is_made v a t in
      let same : settle (suc s.entries) v ≡ v = ap (settle (suc s.entries)) mk.1 ∙ sym mk.1 in
      listed_left book.places (fresh_places f (suc s.entries) ps) (settle (suc s.entries) v) (f a)
      (subst (λ (u : Variable). Listed book.places u (f a)) (sym same) (subst (Listed book.places v) (sym (book_at v a t)) t)))
      (λ (t : Listed (numbered 1 (place_words 4000000000 ps)) v a). listed_right book.places (fresh_places f (suc s.entries) ps)
      (settle (suc s.entries) v) (f a) (listed_moved f (settle (suc s.entries)) (numbered 1 (place_words 4000000000 ps)) v a t))
      (listed_either book.places (numbered 1 (place_words 4000000000 ps)) v a h)

  pub moves : Moves f (settle (suc s.entries)) (λ y. IsRooted w ps y) (with_own ps w) w' (with_variables ps book.places)
      (book.places ++ fresh_places f (suc s.entries) ps)
  moves = record { carry = carry; listed = listed; ok_pair = ok_pair; ok_tuple = ok_tuple }
