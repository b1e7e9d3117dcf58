-- Where all items are laid, the words stand for the first state.
use Rattle.std.proofs.Common.{◌≡◌, ℕ, zero, suc, ◌+◌, ◌-◌, ◌*◌, ◌<◌, ◌≤◌, pos, true, List, [], ◌∷◌, length, map, slice_get, Some, None}
use Rattle.std.proofs.Common.{refl, sym, ap, ◌∙◌, subst, arith, ⊎_elim}
use Rattle.std.specs.Prelude.{nat_eq}
use Rattle.std.proofs.lemmas.Bool.{and_parts, eqb-true, cases_eq}
use Rattle.std.proofs.lemmas.List.{length-map, take_all}
use Rattle.std.proofs.lemmas.Option.{same_Some, slice_get_within}
use Rattle.fcp_model.specs.declared.run.Place.{Place}
use Rattle.fcp_model.specs.Places.{Variable, made, place, placed}
use Rattle.fcp_model.specs.Terms.{Term}
use Rattle.fcp_model.specs.Programs.{Goal, user, true', unifies, assigns}
use Rattle.fcp_model.specs.States.{ready, waiting, Process, start, processes_of}
use Rattle.heap_words.specs.Cells.{decoded}
use Rattle.heap_words.specs.Heaps.{IsHeap, is_inside, inside_at}
use Rattle.heap_words.specs.HeapLaws.{inside_known}
use Rattle.heap_words.specs.Trails.{WordList}
use Rattle.heap_words.specs.declared.cell.Cell.{Cell}
use Rattle.heap_words.specs.declared.cell.Cell.TheVariants as cell
use Rattle.word_states.specs.Words.{Words, At, Among}
use Rattle.word_states.specs.Denoting.{Addresses, Listed, Arguments, GoalSays}
use Rattle.word_states.specs.Standing.{StandsAt, Book, StandsFor, Hangs, variable_code}
use Rattle.goal_layout.specs.Laying.{places_of, settled_term}
use Rattle.goal_layout.specs.Items.{settled_goal}
use Rattle.word_states.proofs.Persisting.{one_cell}
use Rattle.goal_layout.proofs.Heaping.{AreLaid, laid_heap, laid_status}
use Rattle.goal_layout.proofs.FirstPlaces.{listed_number, place_names}
use Rattle.goal_layout.proofs.FirstProcesses.{AreAt, are_count, count_processes, one_of, IsAt, stands_is, stands_says, in_stands}
use Rattle.goal_layout.proofs.FirstProcesses.{one_position}
use Rattle.goal_layout.proofs.FirstStates.{Standing}

zero_word : decoded 0 ≡ Some (cell.Unbound 0)
unfolding decoded
zero_word = refl

argument_known : (ws : List ℕ) (vs : Addresses) (a b : ℕ) (ts : List (Term Variable)) → Arguments (inside_at ws) vs a ts → a ≤ b
    → b < a + length ts
    → is_inside ws b ≡ true
argument_known ws vs a b [] h lo hi = absurd (omega arith)
argument_known ws vs a b (t ∷ ts) h lo hi = go (b - a) refl (argument_known ws vs (suc a) b ts h.3)
  where
    go : (d : ℕ) → b - a ≡ d → (suc a ≤ b → b < suc a + length ts → is_inside ws b ≡ true) → is_inside ws b ≡ true
    go zero e f = subst (λ k. is_inside ws k ≡ true) (omega (arith, e, lo)) (inside_known ws a h.0 h.1)
    go (suc d) e f = f (omega (arith, e)) (omega (arith, hi))

module _ (vars : ℕ) (few : vars ≤ 250) (gs : List (Goal ℕ)) (n : ℕ) (base ws procs : List ℕ) (all : length gs ≤ n) (short : length gs ≤ 256)
    (s : Standing vars gs n base ws procs) where
  abbrev vs : Addresses
  vs = places_of vars

  abbrev w : Words
  w = inside_at ws

  each : AreAt w vs 1 procs gs
  each = subst (AreAt w vs 1 procs) (take_all n gs all) s.each

  at_known : (a : ℕ) (c : Cell) → At w a c → is_inside ws a ≡ true
  at_known a c t = inside_known ws a t.0 t.1

  -- how many arguments are told
  told : (p y k n : ℕ) → At w (p + 3) (cell.Raw k) → inside_at ws (p + 3) ≡ Some y → decoded y ≡ Some (cell.Raw n) → k ≡ n
  told p y k n t e d = let c : cell.Raw k ≡ cell.Raw n = one_cell w (p + 3) (cell.Raw k) (cell.Raw n) t (y, e, d) in cc

  -- the words of a process after its name
  goal_behind : (p : ℕ) (g : Goal Variable) → GoalSays w vs p g
      → (is_inside ws (p + 2) ≡ true) × (is_inside ws (p + 3) ≡ true)
      × ((y n b : ℕ) → inside_at ws (p + 3) ≡ Some y → decoded y ≡ Some (cell.Raw n) → p + 3 < b → b ≤ p + 3 + n → is_inside ws b ≡ true)
  goal_behind p (user f ts) h = (
    at_known (p + 2) _ h.0,
    at_known (p + 3) _ h.1,
    λ y n b e d lo hi. argument_known ws vs (p + 4) b ts h.2 (omega arith)
        (omega (arith, told p y (length ts) n h.1 e d)),
  )
  goal_behind p true' h = (
    at_known (p + 2) _ h.0,
    at_known (p + 3) _ h.1,
    λ y n b e d lo hi. absurd (omega (arith, told p y 0 n h.1 e d)),
  )
  goal_behind p (unifies t u) h = (
    at_known (p + 2) _ h.0,
    at_known (p + 3) _ h.1,
    λ y n b e d lo hi. argument_known ws vs (p + 4) b (t ∷ u ∷ []) h.2 (omega arith)
        (omega (arith, told p y 2 n h.1 e d)),
  )
  goal_behind p (assigns t u) h = (
    at_known (p + 2) _ h.0,
    at_known (p + 3) _ h.1,
    λ y n b e d lo hi. ⊎_elim
        (λ k. subst (λ j. is_inside ws j ≡ true) (sym k) (inside_known ws (p + 4) h.2.0 h.2.2))
        (λ k. subst (λ j. is_inside ws j ≡ true) (omega (arith, k, lo, hi, told p y 2 n h.1 e d)) (inside_known ws (p + 5) h.2.1 h.2.4))
        (cases_eq b (p + 4)),
  )

  place_says : (v : Variable) (a : ℕ) → Listed vs v a
      → (k : ℕ) × (1 ≤ k) × (k ≤ vars) × (v ≡ placed 0 k) × (a ≡ 2 * k)
  place_says v a l = let r = listed_number 1 vars v a l in let hi = r.2 in (r.0, r.1, omega (arith, hi), r.3, r.4)

  pub are_laid : AreLaid ws vs procs
  are_laid = record {
    pages = s.pages;
    all = s.all;
    places = λ v a l.
        let r = place_says v a l in
        let lo = r.1 in
        let e = r.4 in (
          omega (arith, lo, e),
          subst (λ k. is_inside ws (k - 1) ≡ true) (sym e) (at_known (2 * r.0 - 1) _ (s.names r.0 r.1 r.2)),
          subst (λ k. At w k (cell.Unbound 0)) (sym e) (0, s.words r.0 r.1 r.2, zero_word),
        );
    behind = λ p b i lo hi.
        let o = one_of w vs 1 procs gs p each i in
        let g = goal_behind p o.2.goal.goal o.2.goal.says in ⊎_elim
        (λ e. subst (λ k. is_inside ws k ≡ true) (sym e) (at_known (p + 1) _ o.2.name))
        (λ d1. ⊎_elim
        (λ e. subst (λ k. is_inside ws k ≡ true) (sym e) g.0)
        (λ d2. subst (λ k. is_inside ws k ≡ true) (omega (arith, d1, d2, lo, hi)) g.1)
        (cases_eq b (p + 2)))
        (cases_eq b (p + 1));
    arguments = λ p y k b i e d lo hi.
        let o = one_of w vs 1 procs gs p each i in
        let g = goal_behind p o.2.goal.goal o.2.goal.says in
        g.2 y k b e d lo hi;
  }

  pub first_heap : IsHeap ws
  first_heap = laid_heap ws vs procs are_laid

  abbrev qs : List Process
  qs = processes_of 0 1 (map settled_goal gs)

  abbrev pub first_book : Book
  first_book = record { places = vs; processes = procs }

  counts : length procs ≡ length qs
  counts = are_count w vs 1 procs gs each ∙ sym (count_processes 0 1 (map settled_goal gs) ∙ length-map gs settled_goal)

  found : (p : ℕ) (x : Process) → StandsAt procs qs p x → IsAt 1 procs qs p x
  found p x h = stands_is 1 procs (map settled_goal gs) p x h

  no_wait : (p : ℕ) (x : Process) (ps : List Place) → StandsAt procs qs p x → x.status ≡ waiting ps → ⊥
  no_wait p x ps h e = let i = found p x h in let z : ready ≡ waiting ps = sym i.status ∙ e in cc

  unbound_zero : (j : Place) (a e : ℕ) → Listed vs (made j) a → At w a (cell.Unbound e) → e ≡ 0
  unbound_zero j a e l t =
      let r = place_says (made j) a l in
      let u : At w a (cell.Unbound 0) = subst (λ k. At w k (cell.Unbound 0)) (sym r.4) (0, s.words r.0 r.1 r.2, zero_word) in
      let c : cell.Unbound e ≡ cell.Unbound 0 = one_cell w a (cell.Unbound e) (cell.Unbound 0) t u in cc

  entry_zero : (j : Place) (a : ℕ) → Listed vs (made j) a → j.entry ≡ 0
  entry_zero j a l =
      let r = place_says (made j) a l in
      let e : made j ≡ made (place 0 r.0) = r.3 in
      let f : j ≡ place 0 r.0 = cc in ap (λ k. k.entry) f

  number_of : (v u : Variable) (k i : ℕ) → v ≡ placed 0 k → u ≡ placed 0 i → v ≡ u → k ≡ i
  number_of v u k i e f g =
      let h : made (place 0 k) ≡ made (place 0 i) = sym e ∙ g ∙ f in
      let p : place 0 k ≡ place 0 i = cc in ap (λ q. q.number) p

  no_hangs : (e : ℕ) (zs : WordList) → e ≡ 0 → Hangs w e zs → (z : ℕ × ℕ) → Among zs z → ⊥
  no_hangs e [] z h y a = a
  no_hangs e (x ∷ zs) z h y a = let lo = h.0 in omega (arith, lo, z)

  pub first_stands : StandsFor first_book w (start vars gs)
  first_stands = record {
    places = place_names 1 vars;
    processes = counts;
    once = λ p q x y hx hy.
        let i = found p x hx in
        let j = found q y hy in (
          (λ e.
              let parts = and_parts (nat_eq x.name.entry y.name.entry) (nat_eq x.name.number y.name.number) e in
              let n : x.name.number ≡ y.name.number = eqb-true x.name.number y.name.number parts.1 in
              let at : i.position ≡ j.position = omega (arith, n, ap (λ k. k.number) i.name, ap (λ k. k.number) j.name) in
              same_Some p q (sym i.address ∙ ap (slice_get procs) at ∙ j.address)),
          (λ e.
              let at : i.position ≡ j.position = one_position procs i.position j.position q s.distinct (i.address ∙ ap Some e) j.address in
              same_Some x y (sym i.process ∙ ap (slice_get qs) at ∙ j.process)),
        );
    short = [];
    shortened = tt;
    says = record {
      is_made = λ v a l. let r = place_says v a l in let hi = r.2 in (place 0 r.0, r.3, omega (arith, hi, few));
      name = λ v a l.
          let r = place_says v a l in
          let lo = r.1 in
          let e = r.4 in
          let code : r.0 ≡ variable_code v = omega arith ∙ ap variable_code (sym r.3) in (
            omega (arith, lo, e),
            subst (λ k. At w (a - 1) (cell.Small (pos k))) code
                (subst (λ k. At w (k - 1) (cell.Small (pos r.0))) (sym e) (s.names r.0 r.1 r.2)),
          );
      word = λ v a l.
          let r = place_says v a l in
          (0, subst (λ k. inside_at ws k ≡ Some 0) (sym r.4) (s.words r.0 r.1 r.2), (0, zero_word));
      once = λ v u a b lv lu.
          let r = place_says v a lv in
          let t = place_says u b lu in (
            (λ e. r.4 ∙ ap (λ k. 2 * k) (number_of v u r.0 t.0 r.3 t.3 e) ∙ sym t.4),
            (λ e. let ra = r.4 in let tb = t.4 in let k : r.0 ≡ t.0 = omega (arith, ra, tb, e) in r.3 ∙ ap (placed 0) k ∙ sym t.3),
          );
    };
    own_free = λ k. refl;
    own_absent = λ v t n e. cc;
    process = λ p x h. stands_says w vs 1 procs gs p x each h;
    statuses = λ a d t. in_stands procs qs a counts (laid_status ws vs procs are_laid a t.0 d t.1 t.2);
    lists = λ j a e l t. ([], unbound_zero j a e l t);
    hangers = λ j a e zs l t h z i. absurd (no_hangs e zs (unbound_zero j a e l t) h z i);
    hung = λ j a e zs l t h p n x ps hx st. absurd (no_wait p x ps hx st);
    waits = λ p x ps j hx st i. absurd (no_wait p x ps hx st);
    dated_places = λ j a l. omega (arith, entry_zero j a l);
    dated_bound = λ j t e. let z : None ≡ Some t = e in let no : ⊥ = cc in absurd no;
    dated_processes = λ p x h.
        let i = found p x h in
        let lo : i.position < length qs = slice_get_within qs i.position x i.process in
        let size : length qs ≡ length gs = count_processes 0 1 (map settled_goal gs) ∙ length-map gs settled_goal in
        (omega (arith, ap (λ k. k.entry) i.name), omega (arith, ap (λ k. k.number) i.name, lo, size, short));
  }
