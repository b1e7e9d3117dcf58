-- The drawn words stand for the state.
use Rattle.std.proofs.Common.{◌≡◌, ◌⊎◌, ℕ, suc, ◌-◌, ◌<◌, ◌≤◌, true, false, List, [], ◌∷◌, map, refl, sym, ap, ap₂, ◌∙◌, subst, ⊎_elim}
use Rattle.std.proofs.Common.{inl, inr, arith, true≢false, Some, None}
use Rattle.std.specs.Prelude.{pos, ◌↔◌, nat_eq}
use Rattle.std.proofs.lemmas.Int.{ints}
use Rattle.std.proofs.lemmas.Option.{same_Some}
use Rattle.std.proofs.lemmas.Bool.{or_cases}
use Rattle.fcp_model.specs.declared.run.Place.{Place}
use Rattle.fcp_model.specs.Places.{Variable, made, place, proc, placed, is_same_process, is_listed}
use Rattle.fcp_model.specs.Terms.{var, ro, find}
use Rattle.fcp_model.specs.Programs.{user}
use Rattle.fcp_model.proofs.Finding.{is_same_place-true}
use Rattle.fcp_model.specs.States.{ready, waiting, Process}
use Rattle.heap_words.specs.Cells.{decoded, encoded, IsCell}
use Rattle.heap_words.specs.Trails.{WordList}
use Rattle.heap_words.specs.declared.cell.Cell.{Cell}
use Rattle.heap_words.specs.declared.cell.Cell.TheVariants.{Unbound, Ref, RoRef, Small, Nil, Raw, Top}
use Rattle.heap_words.specs.declared.cell.Cell.TheVariants as cell
use Rattle.heap_words.specs.declared.cell.Stand.{Stand}
use Rattle.heap_words.specs.declared.cell.Stand.TheVariants as stand
use Rattle.heap_words.proofs.Encodings.{decoded_encoded}
use Rattle.word_states.specs.Words.{At, Among, row}
use Rattle.word_states.specs.Denoting.{Listed}
use Rattle.word_states.specs.Standing.{PlacesStand, ProcessSays, ProcessAt, PlaceAt, Hangs, variable_code}
use Rattle.word_states.proofs.Lists.{word_among}
use Rattle.word_states.proofs.Leading.{goal_leads_here}
use Rattle.word_states.proofs.Persisting.{one_cell, hangs_one}
use Rattle.word_state_laws.specs.Example.{drawn_cells, drawn, drawn_state, drawn_book, AnExampleStands}

-- the two processes
abbrev first : Process
first = record { name = proc 0 1; goal = user 0 (ro (placed 0 1) ∷ []); status = waiting (place 0 1 ∷ []) }

abbrev second : Process
second = record { name = proc 0 2; goal = user 1 (var (placed 0 1) ∷ []); status = ready }

-- the words, cell by cell
small_ok : (n : ℕ) → n < 10 → IsCell (Small (pos n))
small_ok n l = (omega (arith, ints), omega (arith, ints))

name_at : At drawn 1 (Small (pos 1))
name_at = (encoded (Small (pos 1)), refl, decoded_encoded (Small (pos 1)) (small_ok 1 (omega arith)))

place_at : At drawn 2 (Unbound 13)
place_at = (encoded (Unbound 13), refl, decoded_encoded (Unbound 13) (omega arith))

first_at : At drawn 3 (cell.Status (stand.Waiting 1))
first_at = (encoded (cell.Status (stand.Waiting 1)), refl, decoded_encoded (cell.Status (stand.Waiting 1)) (omega arith))

list_at : Hangs drawn 13 ((3, 1) ∷ [])
list_at = (
  omega arith,
  (encoded (Raw 3), refl, decoded_encoded (Raw 3) (omega arith)),
  (encoded (Small (pos 1)), refl, decoded_encoded (Small (pos 1)) (small_ok 1 (omega arith))),
  (0, inl ((encoded Nil, refl, decoded_encoded Nil tt), refl), refl),
)

-- each cell that stands is one of the drawn ones, at its address
abbrev HasCell : ℕ → List Cell → ℕ → Cell → Type 0
HasCell b [] a c = ⊥
HasCell b (d ∷ ds) a c = ((b ≡ a) × (d ≡ c)) ⊎ HasCell (suc b) ds a c

abbrev AreCells : List Cell → Type 0
AreCells [] = Unit {0}
AreCells (c ∷ cs) = IsCell c × AreCells cs

among_cells : (b : ℕ) (cs : List Cell) (a x : ℕ) (c : Cell) → AreCells cs → Among (row b (map encoded cs)) (a, x) → decoded x ≡ Some c
    → HasCell b cs a c
among_cells b [] a x c ok h e = h
among_cells b (d ∷ ds) a x c ok (inl q) e =
    let k : encoded d ≡ x = ap (λ (z : ℕ × ℕ). z.1) q in
    inl (ap (λ (z : ℕ × ℕ). z.0) q, same_Some d c (sym (decoded_encoded d ok.0) ∙ ap decoded k ∙ e))
among_cells b (d ∷ ds) a x c ok (inr h) e = inr (among_cells (suc b) ds a x c ok.1 h e)

entry_ok : AreCells (Raw 3 ∷ Small (pos 1) ∷ Nil ∷ [])
entry_ok = (omega arith, (small_ok 1 (omega arith), (tt, tt)))

second_ok : AreCells (cell.Status stand.Ready ∷ Small (pos 2) ∷ Raw 1 ∷ Raw 1 ∷ Ref 2 ∷ Raw 3 ∷ Small (pos 1) ∷ Nil ∷ [])
second_ok = (tt, (small_ok 2 (omega arith), (omega arith, (omega arith, (omega arith, entry_ok)))))

all_ok : AreCells drawn_cells
all_ok = (
  omega arith,
  (
    small_ok 1 (omega arith),
    (omega arith, (omega arith, (small_ok 1 (omega arith), (omega arith, (omega arith, (omega arith, second_ok)))))),
  ),
)

a_status : (a : ℕ) (d : Stand) → HasCell 0 drawn_cells a (cell.Status d) → (x : Process) × ProcessAt drawn_book drawn_state a x
a_status a d (inl h) = let e = h.1 in cc
a_status a d (inr (inl h)) = let e = h.1 in cc
a_status a d (inr (inr (inl h))) = let e = h.1 in cc
a_status a d (inr (inr (inr (inl h)))) = (first, inl (h.0, refl))
a_status a d (inr (inr (inr (inr (inl h))))) = let e = h.1 in cc
a_status a d (inr (inr (inr (inr (inr (inl h)))))) = let e = h.1 in cc
a_status a d (inr (inr (inr (inr (inr (inr (inl h))))))) = let e = h.1 in cc
a_status a d (inr (inr (inr (inr (inr (inr (inr (inl h)))))))) = let e = h.1 in cc
a_status a d (inr (inr (inr (inr (inr (inr (inr (inr (inl h))))))))) = (second, inr (inl (h.0, refl)))
a_status a d (inr (inr (inr (inr (inr (inr (inr (inr (inr (inl h)))))))))) = let e = h.1 in cc
a_status a d (inr (inr (inr (inr (inr (inr (inr (inr (inr (inr (inl h))))))))))) = let e = h.1 in cc
a_status a d (inr (inr (inr (inr (inr (inr (inr (inr (inr (inr (inr (inl h)))))))))))) = let e = h.1 in cc
a_status a d (inr (inr (inr (inr (inr (inr (inr (inr (inr (inr (inr (inr (inl h))))))))))))) = let e = h.1 in cc
a_status a d (inr (inr (inr (inr (inr (inr (inr (inr (inr (inr (inr (inr (inr (inl h)))))))))))))) = let e = h.1 in cc
a_status a d (inr (inr (inr (inr (inr (inr (inr (inr (inr (inr (inr (inr (inr (inr (inl h))))))))))))))) = let e = h.1 in cc
a_status a d (inr (inr (inr (inr (inr (inr (inr (inr (inr (inr (inr (inr (inr (inr (inr (inl h)))))))))))))))) = let e = h.1 in cc
a_status a d (inr (inr (inr (inr (inr (inr (inr (inr (inr (inr (inr (inr (inr (inr (inr (inr h)))))))))))))))) = elim h [ ]

-- the one place, and the one list
the_place : (v : Variable) (a : ℕ) → Listed drawn_book.places v a → (v ≡ placed 0 1) × (a ≡ 2)
the_place v a (inl e) = (ap (λ (z : Variable × ℕ). z.0) (sym e), ap (λ (z : Variable × ℕ). z.1) (sym e))
the_place v a (inr h) = elim h [ ]

the_list : (j : Place) (a e : ℕ) (zs : WordList) → PlaceAt drawn_book j a → At drawn a (Unbound e) → Hangs drawn e zs → zs ≡ (3, 1) ∷ []
the_list j a e zs h is hangs =
    let at : At drawn 2 (Unbound e) = subst (λ (b : ℕ). At drawn b (Unbound e)) (the_place (made j) a h).1 is in
    let same : Unbound e ≡ Unbound 13 = one_cell drawn 2 _ _ at place_at in
    let same' : e ≡ 13 = cc in
    hangs_one drawn 13 zs ((3, 1) ∷ []) (subst (λ (n : ℕ). Hangs drawn n zs) same' hangs) list_at

-- a fact of both processes
of_both : (P : ℕ → Process → Type 0) → P 3 first → P 8 second → (p : ℕ) (x : Process) → ProcessAt drawn_book drawn_state p x → P p x
of_both P f g p x (inl h) = subst (λ (q : ℕ). P q x) h.0 (subst (P 3) h.1 f)
of_both P f g p x (inr (inl h)) = subst (λ (q : ℕ). P q x) h.0 (subst (P 8) h.1 g)
of_both P f g p x (inr (inr h)) = elim h [ ]

says : PlacesStand drawn drawn_book.places drawn_state.bound
says = record {
  is_made = λ v a h. (place 0 1, (the_place v a h).0, omega arith);
  name = λ v a h.
      (let s = the_place v a h in
      subst (λ (u : Variable). (0 < a) × At drawn (a - 1) (Small (pos (variable_code u)))) (sym s.0)
      (subst (λ (b : ℕ). (0 < b) × At drawn (b - 1) (Small (pos 1))) (sym s.1) (omega arith, name_at)));
  word = λ v a h.
      subst (λ (b : ℕ). (x : ℕ) × (drawn b ≡ Some x) × ((e : ℕ) × (decoded x ≡ Some (Unbound e)))) (sym (the_place v a h).1)
      (place_at.0, place_at.1, (13, place_at.2));
  once = λ v u a b h k.
      (let s = the_place v a h in
      let t = the_place u b k in
      ((λ e. s.1 ∙ sym t.1), (λ e. s.0 ∙ sym t.0)));
}

no_eight : {A : Type 0} → ◌≡◌ {A = ℕ} 3 8 → A
no_eight e = absurd (true≢false (ap (nat_eq 3) e))

not_same : {A : Type 0} (x y : Process) → first ≡ x → second ≡ y → is_same_process x.name y.name ≡ true → A
not_same x y f g e = absurd (true≢false (sym e ∙ ap₂ (λ (u v : Process). is_same_process u.name v.name) (sym f) (sym g)))

not_same_back : {A : Type 0} (x y : Process) → first ≡ x → second ≡ y → is_same_process y.name x.name ≡ true → A
not_same_back x y f g e = absurd (true≢false (sym e ∙ ap₂ (λ (u v : Process). is_same_process v.name u.name) (sym f) (sym g)))

once : (p q : ℕ) (x y : Process) → ProcessAt drawn_book drawn_state p x → ProcessAt drawn_book drawn_state q y
    → (is_same_process x.name y.name ≡ true → p ≡ q) × (p ≡ q → x ≡ y)
once p q x y (inl h) (inl k) = ((λ _. sym h.0 ∙ k.0), (λ _. sym h.1 ∙ k.1))
once p q x y (inl h) (inr (inl k)) = ((λ e. not_same x y h.1 k.1 e), (λ e. no_eight (h.0 ∙ e ∙ sym k.0)))
once p q x y (inr (inl h)) (inl k) = ((λ e. not_same_back y x k.1 h.1 e), (λ e. no_eight (k.0 ∙ sym e ∙ sym h.0)))
once p q x y (inr (inl h)) (inr (inl k)) = ((λ _. sym h.0 ∙ k.0), (λ _. sym h.1 ∙ k.1))
once p q x y (inl h) (inr (inr k)) = elim k [ ]
once p q x y (inr (inl h)) (inr (inr k)) = elim k [ ]
once p q x y (inr (inr h)) k = elim h [ ]

raw_at : (a n : ℕ) → drawn a ≡ Some (encoded (Raw n)) → n < 10 → At drawn a (Raw n)
raw_at a n e l = (encoded (Raw n), e, decoded_encoded (Raw n) (omega (arith, l)))

first_says : ProcessSays drawn drawn_book.places [] 1 3 first
first_says = record {
  status = (first_at.0, first_at.1, (1, first_at.2, omega arith));
  name = (encoded (Small (pos 1)), refl, decoded_encoded (Small (pos 1)) (small_ok 1 (omega arith)));
  goal = record {
    goal = first.goal;
    leads = goal_leads_here [] first.goal;
    says = (
      raw_at 5 0 refl (omega arith),
      raw_at 6 1 refl (omega arith),
      (encoded (RoRef 2), refl, (2, decoded_encoded (RoRef 2) (omega arith), inl refl), tt),
      omega arith,
    );
  };
}

second_says : ProcessSays drawn drawn_book.places [] 1 8 second
second_says = record {
  status = (encoded (cell.Status stand.Ready), refl, decoded_encoded (cell.Status stand.Ready) tt);
  name = (encoded (Small (pos 2)), refl, decoded_encoded (Small (pos 2)) (small_ok 2 (omega arith)));
  goal = record {
    goal = second.goal;
    leads = goal_leads_here [] second.goal;
    says = (
      raw_at 10 1 refl (omega arith),
      raw_at 11 1 refl (omega arith),
      (encoded (Ref 2), refl, (2, decoded_encoded (Ref 2) (omega arith), inl refl), tt),
      omega arith,
    );
  };
}

-- the place is the one on which the first process waits
the_one : (j : Place) (a : ℕ) → PlaceAt drawn_book j a → j ≡ place 0 1
the_one j a h = let e : made j ≡ made (place 0 1) = (the_place (made j) a h).0 in cc

hung : (j : Place) (a e : ℕ) (zs : WordList) → PlaceAt drawn_book j a → At drawn a (Unbound e) → Hangs drawn e zs
    → (p n : ℕ) (x : Process) (ps : List Place) → ProcessAt drawn_book drawn_state p x → x.status ≡ waiting ps
    → At drawn p (cell.Status (stand.Waiting n)) → (is_listed j ps ≡ true) ↔ Among zs (p, n)
hung j a e zs h is hangs p n x ps at = of_both (λ q y. y.status ≡ waiting ps → At drawn q (cell.Status (stand.Waiting n))
    → (is_listed j ps ≡ true) ↔ Among zs (q, n)) of_first (λ st w. absurd (let bad : ready ≡ waiting ps = st in cc)) p x at
  where
    of_first : first.status ≡ waiting ps → At drawn 3 (cell.Status (stand.Waiting n)) → (is_listed j ps ≡ true) ↔ Among zs (3, n)
    of_first st w =
        let same : place 0 1 ∷ [] ≡ ps = (let k : waiting (place 0 1 ∷ []) ≡ waiting ps = st in cc) in
        let k : cell.Status (stand.Waiting 1) ≡ cell.Status (stand.Waiting n) = one_cell drawn 3 _ _ first_at w in
        let number : 1 ≡ n = cc in
        let list = the_list j a e zs h is hangs in (
          (λ _. subst (λ (l : WordList). Among l (3, n)) (sym list) (inl (λ i. (3, number i)))),
          (λ _. subst (λ (l : List Place). is_listed j l ≡ true) same
              (ap (λ (q : Place). is_listed q (place 0 1 ∷ [])) (the_one j a h))),
        )

waits : (p : ℕ) (x : Process) (ps : List Place) (j : Place) → ProcessAt drawn_book drawn_state p x → x.status ≡ waiting ps
    → is_listed j ps ≡ true → ((a : ℕ) × PlaceAt drawn_book j a) × (find drawn_state.bound (made j) ≡ None)
waits p x ps j at =
    of_both (λ q y. y.status ≡ waiting ps → is_listed j ps ≡ true → ((a : ℕ) × PlaceAt drawn_book j a)
    × (find drawn_state.bound (made j) ≡ None))
    of_first (λ st l. absurd (let bad : ready ≡ waiting ps = st in cc)) p x at
  where
    of_first : first.status ≡ waiting ps → is_listed j ps ≡ true → ((a : ℕ) × PlaceAt drawn_book j a)
        × (find drawn_state.bound (made j) ≡ None)
    of_first st l =
        let same : place 0 1 ∷ [] ≡ ps = (let k : waiting (place 0 1 ∷ []) ≡ waiting ps = st in cc) in
        let l' : is_listed j (place 0 1 ∷ []) ≡ true = subst (λ (q : List Place). is_listed j q ≡ true) (sym same) l in
        let e : place 0 1 ≡ j = is_same_place-true (place 0 1) j (⊎_elim (λ k. k) (λ (k : false ≡ true). absurd (true≢false (sym k)))
        (or_cases _ _ l')) in
        ((2, inl (λ i. (made (e i), 2))), refl)

pub an_example_stands : AnExampleStands
an_example_stands = record {
  places = refl;
  processes = refl;
  once = once;
  short = [];
  shortened = tt;
  says = says;
  process = of_both (λ p x. ProcessSays drawn drawn_book.places [] 1 p x) first_says second_says;
  statuses =
      λ a d is. a_status a d (among_cells 0 drawn_cells a is.0 (cell.Status d) all_ok
      (word_among (row 0 (map encoded drawn_cells)) a is.0 is.1) is.2);
  lists = λ j a e h is.
      (let at : At drawn 2 (Unbound e) = subst (λ (b : ℕ). At drawn b (Unbound e)) (the_place (made j) a h).1 is in
      let same : Unbound 13 ≡ Unbound e = one_cell drawn 2 _ _ place_at at in
      let same' : 13 ≡ e = cc in
      ((3, 1) ∷ [], subst (λ (n : ℕ). Hangs drawn n ((3, 1) ∷ [])) same' list_at));
  hangers = λ j a e zs h is hangs z m. hanger z (subst (λ (l : WordList). Among l z) (the_list j a e zs h is hangs) m);
  hung = hung;
  waits = waits;
  own_free = λ k. refl;
  own_absent = λ v t n e. (let bad : None ≡ Some t = e in cc);
  dated_places = λ j a h. (let e : j.entry ≡ 0 = ap (λ (q : Place). q.entry) (the_one j a h) in omega arith);
  dated_bound = λ j t e. (let bad : None ≡ Some t = e in cc);
  dated_processes = of_both (λ p x. (x.name.entry ≤ 1) × (x.name.number < 268435456)) (omega arith, omega arith) (omega arith, omega arith);
}
  where
    hanger : (z : ℕ × ℕ) → Among ((3, 1) ∷ []) z → ((x : Process) × ProcessAt drawn_book drawn_state z.0 x) × (z.1 ≤ 1)
    hanger z (inl q) = subst (λ (y : ℕ × ℕ). ((x : Process) × ProcessAt drawn_book drawn_state y.0 x) × (y.1 ≤ 1)) q
        ((first, inl (refl, refl)), omega arith)
    hanger z (inr h) = elim h [ ]
