-- A commit that is laid: its children, and all of its effect.
use Rattle.std.proofs.Common.{◌≡◌, ◌⊎◌, ℕ, suc, ◌+◌, ◌<◌, true, List, ◌∷◌, ◌++◌, length, map, refl, sym, ap, ◌∙◌, subst, ⊎_elim, inl, inr}
use Rattle.std.proofs.Common.{arith, true≢false, Option, Some, None}
use Rattle.std.specs.Prelude.{slice_get, pos}
use Rattle.std.proofs.lemmas.List.{length-map}
use Rattle.std.proofs.lemmas.Option.{same_Some}
use Rattle.fcp_model.specs.Places.{Variable, made, own, placed, proc, is_same_process}
use Rattle.fcp_model.specs.Terms.{Term, find, settle}
use Rattle.fcp_model.specs.Programs.{Goal, Program, rename_goal}
use Rattle.fcp_model.specs.Cells.{clause_used}
use Rattle.fcp_model.specs.States.{ready, Process, State, count_up}
use Rattle.fcp_model.specs.Reads.{IsPart}
use Rattle.fcp_model.specs.Events.{settled, body_of, children_of}
use Rattle.heap_words.specs.Cells.{decoded, encoded, is_final_word, is_final_in}
use Rattle.heap_words.specs.Trails.{WordList, word_at}
use Rattle.heap_words.specs.declared.cell.Cell.TheVariants.{Unbound, Small, Raw, Top}
use Rattle.heap_words.specs.declared.cell.Stand.{Stand}
use Rattle.heap_words.proofs.Encodings.{decoded_encoded}
use Rattle.heap_words.specs.declared.cell.Cell.TheVariants as cell
use Rattle.heap_words.specs.declared.cell.Stand.TheVariants as stand
use Rattle.word_states.specs.Words.{Words, At, first_of, IsIn}
use Rattle.word_states.specs.Leading.{LeadsTo, GoalLeads, GoalStands}
use Rattle.word_states.specs.Standing.{Book, StandsAt, ProcessSays, name_code, ProcessAt}
use Rattle.word_states.specs.Pieces.{rows, StartsAt, is_place, is_process, place_words, process_words, with_own, with_variables}
use Rattle.word_states.specs.Layouts.{name_word, fresh_places, born_at}
use Rattle.word_states.specs.Effects.{CommitEffect}
use Rattle.word_states.proofs.Lists.{nat_same, member}
use Rattle.word_states.proofs.Leading.{found_short, open_long}
use Rattle.word_states.proofs.Persisting.{one_cell}
use Rattle.word_states.proofs.Pieces.{Located, starts_located, located_starts, in_rows, zero_is, nine_is, the_process, process_once}
use Rattle.word_states.proofs.Pieces.{place_number, process_number, children_size}
use Rattle.word_state_laws.proofs.SettledWays.{part_right, MaySettle, may_settle, goal_settled}
use Rattle.word_state_laws.proofs.Moving.{arity, goal_moved}
use Rattle.word_state_laws.proofs.LaidPieces.{becomes_moved, final_moved, LaidAs, child_at, child_of, as_free, as_moved, as_place_name}
use Rattle.word_state_laws.proofs.LaidPieces.{as_process_name, as_status}
use Rattle.word_state_laws.proofs.NewNames.{goal_twice, fresh_names, named, processes_size, same_child, same_number, arity_at}
use Rattle.word_state_laws.proofs.LaidWords.{moves, LaidCommit, grows, laid_at, parent_is, row_of, status_at, woken_status, word_ok}
use Rattle.word_state_laws.proofs.LaidPlaces.{before, binds', bound_final, fresh_apart', fresh_name', fresh_once', fresh_word', leaves'}
use Rattle.word_state_laws.proofs.LaidPlaces.{others', row_word}

module _ {m : Program} {book : Book} {s : State} {p : ℕ} {x : Process} {k : ℕ} {binds : WordList} {ps : List (List ℕ)} {wakes : List ℕ}
    {f : ℕ → ℕ} {w w' : Words} (known : LaidCommit m book s p x k binds ps wakes f w w') where
  -- the try binds what the state leaves unbound
  part : IsPart known.bindings (s.bound ++ known.bindings)
  part = part_right s.bound known.bindings (λ v t e.
      apart v t e (found_short (s.bound ++ known.bindings) known.bindings known.says.bindings v known.leads))
    where
      apart : (v : Variable) (t : Term Variable) → find known.bindings v ≡ Some t
          → ((find known.bindings v ≡ None) × (find known.says.bindings v ≡ None))
          ⊎ ((a b : Term Variable) × (find known.bindings v ≡ Some a) × (find known.says.bindings v ≡ Some b)
          × LeadsTo (s.bound ++ known.bindings) a b)
          → find s.bound v ≡ None
      apart v t e (inl r) = let bad : Some t ≡ None = sym e ∙ r.0 in cc
      apart (made j) t e (inr r) =
          open_long s.bound s.bound known.stands.short (made j) known.stands.shortened (known.says.binds_all j r.1 r.3).3
      apart (own k) t e (inr r) = known.stands.own_free k

  may_settle' : MaySettle (suc s.entries) s.bound known.bindings
  may_settle' = may_settle book w s known.bindings known.says.bindings known.stands known.leads
      (λ j t e. let lt = (before known) j t e in omega arith)

  -- what the words of a process say after the commit
  abbrev Says : ℕ → Process → Type 0
  Says q y = ProcessSays w' (book.places ++ fresh_places f (suc s.entries) ps) (s.bound ++ settled (suc s.entries) known.bindings)
      (suc s.entries) q y

  -- a child, where it stands among the pieces
  born_from : (q : ℕ) (y : Process) → StandsAt (born_at f ps) (children_of (suc s.entries) (clause_used m known.goal k)) q y
      → (k' i' r : ℕ) × (p : List ℕ) × (g : Goal ℕ) × Located 1 1 4000000000 ps k' i' r p × (is_process p ≡ true) × (f r ≡ q)
      × (record { name = proc (suc s.entries) i'; goal = rename_goal (placed (suc s.entries)) g; status = ready } ≡ y)
      × GoalStands (with_own ps w) (with_variables ps book.places) known.says.bindings r (rename_goal own g)
  born_from q y h =
      child_at f (suc s.entries) (placed (suc s.entries)) (with_own ps w) (with_variables ps book.places)
      known.says.bindings 1 1 4000000000 ps
      (body_of (clause_used m known.goal k)) q y known.says.children h

  head_of : (r : ℕ) (q : List ℕ) (k' i' : ℕ) → Located 1 1 4000000000 ps k' i' r q → is_process q ≡ true
      → word_at (rows 4000000000 ps) r ≡ Some 9
  head_of r q k' i' h e =
      let t = the_process q (known.formed.each r q (located_starts 1 1 4000000000 ps k' i' r q h)) e in
      let z : r ≡ r + 0 = omega arith in
      ap (word_at (rows 4000000000 ps)) z ∙ (row_word known) r 0 9 q k' i' h (ap (λ (l : List ℕ). slice_get l 0) t.4)

  born_says' : (q : ℕ) (y : Process) → StandsAt (born_at f ps) (children_of (suc s.entries) (clause_used m known.goal k)) q y
      → (y.status ≡ ready) × ((y.name.entry ≡ suc s.entries) × (y.name.number < 268435456))
      × Says q y
  born_says' q y h =
      let g = born_from q y h in (
        ap (λ (z : Process). z.status) (sym g.8),
        (
          ap (λ (z : Process). z.name.entry) (sym g.8),
          subst (λ (z : Process). z.name.number < 268435456) g.8
              (small_number g.0 g.1 g.2 g.3 g.5 g.6),
        ),
        subst (Says q) g.8
            (subst (λ (b : ℕ). Says b
            (record { name = proc (suc s.entries) g.1; goal = rename_goal (placed (suc s.entries)) g.4; status = ready })) g.7
            (process_at g.0 g.1 g.2 g.3 g.4 g.5 g.6 g.9)),
      )
    where
      small_number : (k' i' r : ℕ) (q : List ℕ) → Located 1 1 4000000000 ps k' i' r q → is_process q ≡ true → i' < 268435456
      small_number k' i' r q h e =
          let l = process_number 1 1 4000000000 ps k' i' r q h e in
          let z = children_size (with_own ps w) (with_variables ps book.places) known.says.bindings (process_words 4000000000 ps)
          (body_of (clause_used m known.goal k)) known.says.children in let b = known.says.few.1 in omega arith

      process_at : (k' i' r : ℕ) (q : List ℕ) (g : Goal ℕ) → Located 1 1 4000000000 ps k' i' r q → is_process q ≡ true
          → GoalStands (with_own ps w) (with_variables ps book.places) known.says.bindings r (rename_goal own g)
          → Says (f r)
          (record { name = proc (suc s.entries) i'; goal = rename_goal (placed (suc s.entries)) g; status = ready })
      process_at k' i' r q g h e c = record {
        status =
            (let z = (laid_at known) r 0 9 q k' i' h (ap (λ (l : List ℕ). slice_get l 0) form.4)
            (subst (λ (l : List ℕ). 0 < length l) (sym form.4) (omega arith)) in
            (z.0, ap (λ (b : ℕ). w' (f b)) zero' ∙ z.1, ap decoded (status z.0 z.2) ∙ nine_is));
        name =
            (let z = (laid_at known) r 1 0 q k' i' h (ap (λ (l : List ℕ). slice_get l 1) form.4) long in (
              z.0,
              ap w' (sym ((row_of known) r q starts 1 long)) ∙ z.1,
              ap decoded (name z.0 form.4 z.2)
                  ∙ named (suc s.entries) i' known.few lt,
            ));
        goal = record {
          goal = rename_goal (settle (suc s.entries)) c.goal;
          leads = subst (λ (h : Goal Variable). GoalLeads (s.bound ++ settled (suc s.entries) known.bindings) h
              (rename_goal (settle (suc s.entries)) c.goal)) (goal_twice (suc s.entries) g)
              (goal_settled (suc s.entries) s.bound known.bindings may_settle' known.says.bindings part known.leads (rename_goal own g)
              c.goal c.leads);
          says = goal_moved (moves known) r (f r) c.goal (λ i y lt e fin. (
            (row_of known) r q starts i (inside i lt),
            (word_ok known) (r + i) y e fin,
          )) c.says;
        };
      }
        where
          starts : StartsAt 4000000000 ps r q
          starts = located_starts 1 1 4000000000 ps k' i' r q h

          form : (g r m : ℕ) × (xs : List ℕ) × (q ≡ 9 ∷ 0 ∷ g ∷ r ∷ xs) × (decoded r ≡ Some (Raw m)) × (length xs ≡ m)
          form = the_process q (known.formed.each r q starts) e

          zero' : r ≡ r + 0
          zero' = omega arith

          size : length q ≡ 4 + form.2
          size = ap length form.4 ∙ (let e = form.6 in let z : suc (suc (suc (suc (length form.3)))) ≡ 4 + form.2 = omega arith in z)

          long : 1 < length q
          long = let e = size in omega arith

          lt : i' < 268435456
          lt =
              let l = process_number 1 1 4000000000 ps k' i' r q h e in
              let z = children_size (with_own ps w) (with_variables ps book.places) known.says.bindings (process_words 4000000000 ps)
              (body_of (clause_used m known.goal k)) known.says.children in let b = known.says.few.1 in omega arith

          third : word_at (rows 4000000000 ps) (r + 3) ≡ Some form.1
          third = (row_word known) r 3 form.1 q k' i' h (ap (λ (l : List ℕ). slice_get l 3) form.4)

          args : form.2 ≡ arity c.goal
          args =
              let a = arity_at (with_own ps w) (with_variables ps book.places) r c.goal c.says in
              let same : Raw form.2 ≡ Raw (arity c.goal) = one_cell (with_own ps w) (r + 3) _ _ (
                form.1,
                ap (λ (u : Option ℕ). first_of u (w (r + 3))) third,
                form.5,
              ) a in cc

          inside : (i : ℕ) → i < 4 + arity c.goal → i < length q
          inside i l = let a = args in let b = size in omega arith

          status : {k' i' : ℕ} {q : List ℕ} (z : ℕ) → LaidAs f (suc s.entries) k' i' q 0 9 z → z ≡ 9
          status z (as_moved i j) = absurd (true≢false (sym i ∙ ap is_final_in nine_is))
          status z (as_place_name c i j l) = absurd (omega arith)
          status z (as_free c i j l) = absurd (omega arith)
          status z (as_status c i j l) = l
          status z (as_process_name c i j l) = absurd (omega arith)

          name : {k' i' g r : ℕ} {xs q : List ℕ} (z : ℕ) → q ≡ 9 ∷ 0 ∷ g ∷ r ∷ xs → LaidAs f (suc s.entries) k' i' q 1 0 z
              → z ≡ name_word (suc s.entries) i'
          name z eq (as_moved i j) = absurd (true≢false (sym i ∙ ap is_final_in zero_is))
          name z eq (as_place_name c i j l) = absurd (omega arith)
          name z eq (as_free c i j l) = absurd (true≢false (sym i ∙ ap is_place eq))
          name z eq (as_status c i j l) = absurd (omega arith)
          name z eq (as_process_name c i j l) = l

  born_once' : (q r : ℕ) (y z : Process) → StandsAt (born_at f ps) (children_of (suc s.entries) (clause_used m known.goal k)) q y
      → StandsAt (born_at f ps) (children_of (suc s.entries) (clause_used m known.goal k)) r z
      → (is_same_process y.name z.name ≡ true → q ≡ r) × (q ≡ r → y ≡ z)
  born_once' q r y z h l =
      let g = born_from q y h in
      let i = born_from r z l in
      let o = process_once 1 1 4000000000 ps g.0 g.1 g.2 g.3 i.0 i.1 i.2 i.3 g.5 i.5 g.6 i.6 in (
        (λ e. (same_child (born_at f ps) (suc s.entries) 1 (map (rename_goal (placed (suc s.entries)))
            (body_of (clause_used m known.goal k))) q r y z h l (same_number y.name z.name e)).0),
        (λ e.
            let same : g.2 ≡ i.2 = known.laid.one g.2 i.2 9 9 (head_of g.2 g.3 g.0 g.1 g.5 g.6) (head_of i.2 i.3 i.0 i.1 i.5 i.6) (g.7
            ∙ e ∙ sym i.7) in
            let num : y.name.number ≡ z.name.number = ap (λ (v : Process). v.name.number) (sym g.8) ∙ o.1 same
            ∙ ap (λ (v : Process). v.name.number) i.8 in
            (same_child (born_at f ps) (suc s.entries) 1 (map (rename_goal (placed (suc s.entries))) (body_of (clause_used m known.goal k)))
            q r y z h l num).1),
      )

  born_apart' : (q r : ℕ) (y z : Process) → ProcessAt book s q y
      → StandsAt (born_at f ps) (children_of (suc s.entries) (clause_used m known.goal k)) r z → q ≡ r → ⊥
  born_apart' q r y z h l e =
      let st = (status_at known) q y h in
      let g = born_from r z l in
      let bad : Some st.1.0 ≡ None = sym st.1.1 ∙ ap w (e ∙ sym g.7) ∙ known.laid.free g.2 9 (head_of g.2 g.3 g.0 g.1 g.5 g.6) in cc

  statuses' : (a : ℕ) (d : Stand) → At w' a (cell.Status d) → ((t : Stand) × At w a (cell.Status t))
      ⊎ ((y : Process) × StandsAt (born_at f ps) (children_of (suc s.entries) (clause_used m known.goal k)) a y)
  statuses' a d is = go (w a) refl
    where
      New : Type 0
      New = (y : Process) × StandsAt (born_at f ps) (children_of (suc s.entries) (clause_used m known.goal k)) a y

      begun : (r e b : ℕ) (q : List ℕ) (k' i' y z : ℕ) → Located 1 1 4000000000 ps k' i' r q → a ≡ f b → b ≡ r + e
          → decoded z ≡ Some (cell.Status d) → LaidAs f (suc s.entries) k' i' q e y z → (y : Process)
          × StandsAt (born_at f ps) (children_of (suc s.entries) (clause_used m known.goal k)) a y
      begun r e b q k' i' y z h here at c (as_moved i j) =
          absurd (true≢false (sym (final_moved f y known.laid.small i) ∙ ap is_final_word (sym j) ∙ ap is_final_in c))
      begun r e b q k' i' y z h here at c (as_place_name u i j l) =
          let lt : k' < 268435456 = (let l = place_number 1 1 4000000000 ps k' i' r q h i in let e = known.says.variables in
          let b = known.says.few.0 in omega arith) in
          let bad : Small (pos (name_code (suc s.entries) k')) ≡ cell.Status d = same_Some _ _
          (sym (named (suc s.entries) k' known.few lt) ∙ ap decoded (sym l) ∙ c) in cc
      begun r e b q k' i' y z h here at c (as_free u i j l) =
          let bad : Unbound 0 ≡ cell.Status d = same_Some _ _ (sym (becomes_moved f 0 (Unbound 0) known.laid.small zero_is)
          ∙ ap decoded (sym l) ∙ c) in cc
      begun r e b q k' i' y z h here at c (as_status u i j l) =
          let o = child_of f (suc s.entries) (placed (suc s.entries)) (with_own ps w) (with_variables ps book.places)
          known.says.bindings 1 1 4000000000 ps (body_of (clause_used m known.goal k)) k' i' r q known.says.children h i in
          let same : b ≡ r = omega arith in (
            o.0,
            subst (λ (v : ℕ). StandsAt (born_at f ps) (children_of (suc s.entries) (clause_used m known.goal k)) v o.0) (sym (here
                ∙ ap f same)) o.1,
          )
      begun r e b q k' i' y z h here at c (as_process_name u i j l) =
          let lt : i' < 268435456 = (let l = process_number 1 1 4000000000 ps k' i' r q h i in
          let z = children_size (with_own ps w) (with_variables ps book.places) known.says.bindings (process_words 4000000000 ps)
          (body_of (clause_used m known.goal k)) known.says.children in let b = known.says.few.1 in omega arith) in
          let bad : Small (pos (name_code (suc s.entries) i')) ≡ cell.Status d = same_Some _ _
          (sym (named (suc s.entries) i' known.few lt) ∙ ap decoded (sym l) ∙ c) in cc

      old' : (z : ℕ) → w a ≡ Some z → (a ≡ p) ⊎ (a ≡ p → ⊥) → (o : Option ℕ) → word_at binds a ≡ o → IsIn a wakes ⊎ (IsIn a wakes → ⊥)
          → (t : Stand) × At w a (cell.Status t)
      old' z e (inl h) o i l = (stand.Ready, subst (λ (b : ℕ). At w b (cell.Status stand.Ready)) (sym h) (parent_is known))
      old' z e (inr far) (Some v) i l =
          absurd (true≢false (sym (final_moved f v known.laid.small ((bound_final known) a v i))
          ∙ ap is_final_in (ap decoded (same_Some _ _ (sym (known.laid.bound a v i) ∙ is.1)) ∙ is.2)))
      old' z e (inr far) None i (inl h) = (woken_status known) a h
      old' z e (inr far) None i (inr h) = ⊎_elim
          (λ (g : w' a ≡ Some z). (d, (z, e, ap decoded (same_Some _ _ (sym g ∙ is.1)) ∙ is.2)))
          (λ (g : (t u : ℕ) × (decoded z ≡ Some (Top t)) × At w' a (Top u)). let bad : Top g.1 ≡ cell.Status d = one_cell w' a _ _ g.3 is
          in cc)
          (known.laid.others a z e far i h)

      go : (o : Option ℕ) → w a ≡ o → ((t : Stand) × At w a (cell.Status t))
          ⊎ ((y : Process) × StandsAt (born_at f ps) (children_of (suc s.entries) (clause_used m known.goal k)) a y)
      go (Some z) e = inl (old' z e (nat_same a p) (word_at binds a) refl (member a wakes))
      go None e =
          let b = known.laid.new a is.0 e is.1 in
          let r = in_rows 4000000000 b.0 b.1 ps b.2 in
          let g = starts_located 1 1 4000000000 ps r.0 r.2 r.3 in
          let z = (laid_at known) r.0 r.1 b.1 r.2 g.0 g.1 g.2 r.6 r.4 in
          let same : is.0 ≡ z.0 = same_Some _ _ (sym is.1 ∙ ap w' (b.3 ∙ ap f r.5) ∙ z.1) in
          inr (begun r.0 r.1 b.0 r.2 g.0 g.1 b.1 z.0 g.2 b.3 r.5 (ap decoded (sym same) ∙ is.2) z.2)

  -- the effect of the commit
  pub commit_effect : CommitEffect book (fresh_places f (suc s.entries) ps) (born_at f ps) s p x (clause_used m known.goal k)
      known.stands.short known.bindings known.says.bindings w w'
  commit_effect = record {
    leads = known.leads;
    grows = (grows known);
    parent = known.parent;
    done = (encoded (cell.Status stand.Done), known.laid.done, decoded_encoded (cell.Status stand.Done) tt);
    woken =
        λ q y at far u. (
          encoded (cell.Status stand.Ready),
          known.laid.woken q (known.woken.all q y at u),
          decoded_encoded (cell.Status stand.Ready) tt,
        );
    others = (others' known);
    binds = (binds' known);
    leaves = (leaves' known);
    bound_old = λ j t e. let lt = (before known) j t e in omega arith;
    names =
        fresh_names f (suc s.entries) 1 (place_words 4000000000 ps)
        ∙ ap (λ (l : ℕ). map (placed (suc s.entries)) (count_up 1 l)) known.says.variables;
    fresh_name = (fresh_name' known);
    fresh_once = (fresh_once' known);
    fresh_apart = (fresh_apart' known);
    fresh_word = (fresh_word' known);
    born_size =
        length-map (process_words 4000000000 ps) f
        ∙ children_size (with_own ps w) (with_variables ps book.places) known.says.bindings (process_words 4000000000 ps)
        (body_of (clause_used m known.goal k)) known.says.children
        ∙ sym (processes_size (suc s.entries) 1 (map (rename_goal (placed (suc s.entries))) (body_of (clause_used m known.goal k)))
        ∙ length-map (body_of (clause_used m known.goal k)) (rename_goal (placed (suc s.entries))));
    born_says = born_says';
    born_once = born_once';
    born_apart = born_apart';
    statuses = statuses';
  }
