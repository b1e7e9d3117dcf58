-- The sleepers of places are those that are to be woken.
use Rattle.std.proofs.Common.{◌≡◌, ℕ, ◌+◌, ◌<◌, Bool, true, false, List, [], ◌∷◌, map, Option, Some, None, refl, sym, ap, ◌∙◌, subst, arith}
use Rattle.std.proofs.Common.{inl, inr, ⊎_elim, cond, eqb-true, eq-eqb, ◌≤◌}
use Rattle.std.specs.Prelude.{◌&&◌, ◌||◌, pos, nat_eq, nat_lt}
use Rattle.std.proofs.lemmas.Bool.Decides.{nat_tests}
use Rattle.fcp_model.specs.declared.run.Place.{Place}
use Rattle.fcp_model.specs.declared.run.Proc.{Proc}
use Rattle.fcp_model.specs.Places.{made, is_same_process, is_older_process}
use Rattle.fcp_model.specs.Terms.{find}
use Rattle.fcp_model.specs.States.{Status, ready, waiting, finished, Process, State}
use Rattle.heap_words.specs.Cells.{decoded}
use Rattle.heap_words.specs.Trails.{WordList, word_at}
use Rattle.heap_words.specs.declared.cell.Cell.{Cell}
use Rattle.heap_words.specs.declared.cell.Cell.TheVariants.{Small}
use Rattle.heap_words.specs.declared.cell.Cell.TheVariants as cell
use Rattle.heap_words.specs.declared.cell.Stand.TheVariants as stand
use Rattle.word_states.specs.Words.{Words, At, Among, IsIn, AreDistinct}
use Rattle.word_states.specs.Standing.{Book, StandsFor, StatusSays, ProcessAt, PlaceAt, name_code}
use Rattle.word_states.specs.Waking.{WaitsAt, AreByName}
use Rattle.suspension_lists.specs.Cells.{number_of, waits_by}
use Rattle.suspension_lists.specs.Entries.{Tells, IsOneOf, ListHas}
use Rattle.suspension_lists.specs.Sleepers.{HangsBy, IsSleeper, AreWaiting, Rise}
use Rattle.suspension_lists.specs.Waking.{Within, KeptWakes}
use Rattle.suspension_lists.specs.declared.entries.Entry.{Entry}
use Rattle.suspension_lists.specs.declared.sleepers.Sleeper.{Sleeper}
use Rattle.suspension_lists.proofs.CellCases.{is_waiting}
use Rattle.suspension_lists.proofs.Standing.{one_word, tells_same, hang_entry, entry_hang, HungThere, hung_there}

abbrev pub processes : List Sleeper → List ℕ
processes ss = map (λ s. s.process) ss

in_processes : (ss : List Sleeper) (q : ℕ) → IsIn q (processes ss) → (s : Sleeper) × IsOneOf s ss × (s.process ≡ q)
in_processes [] q i = absurd i
in_processes (s ∷ ss) q i =
    ⊎_elim (λ e. (s, inl refl, e)) (λ j. let r = in_processes ss q j in (r.0, inr r.1, r.2)) i

processes_in : (ss : List Sleeper) (s : Sleeper) → IsOneOf s ss → IsIn s.process (processes ss)
processes_in [] s i = absurd i
processes_in (t ∷ ts) s i = ⊎_elim (λ e. inl (ap (λ (u : Sleeper). u.process) e)) (λ j. inr (processes_in ts s j)) i

word_among : (xs : WordList) (a x : ℕ) → word_at xs a ≡ Some x → Among xs (a, x)
word_among [] a x e = cc
word_among (y ∷ ys) a x e = go (word_among ys a x) (nat_eq a y.0) refl e
  where
    go : (word_at ys a ≡ Some x → Among ys (a, x)) → (t : Bool) → nat_eq a y.0 ≡ t → cond t (Some y.1) (word_at ys a) ≡ Some x
        → Among (y ∷ ys) (a, x)
    go rec true i h =
        let j : y.0 ≡ a = sym (eqb-true a y.0 i) in
        let l : y.1 ≡ x = cc in
        inl (ap (λ (b : ℕ). (b, y.1)) j ∙ ap (λ (z : ℕ). (a, z)) l)
    go rec false i h = inr (rec h)

-- each sleeper has the number of its name word
abbrev AreNamed : Words → List Sleeper → Type 0
AreNamed k ss = (s : Sleeper) → IsOneOf s ss → Tells number_of k (s.process + 1) s.name

tells_one : {A : Type 0} (f : Option Cell → A) (k : Words) (a : ℕ) (x y : A) → Tells f k a x → Tells f k a y → x ≡ y
tells_one f k a x y t u =
    sym t.2 ∙ (ap (λ (z : ℕ). f (decoded z)) (one_word (k a) t.0 u.0 t.1 u.1) ∙ u.2)

-- each of them once
apart : (k : Words) (ss : List Sleeper) → AreNamed k ss → Rise ss → AreDistinct (processes ss)
apart k [] named r = tt
apart k (s ∷ ss) named r = (
  λ i.
      let t = in_processes ss s.process i in
      let name : s.name ≡ t.0.name = tells_one number_of k (s.process + 1) s.name t.0.name (named s (inl refl))
      (subst (λ (p : ℕ). Tells number_of k (p + 1) t.0.name) t.2 (named t.0 (inr t.1))) in
      let same : t.0.process ≡ s.process = t.2 in
      ⊎_elim (λ b. omega (arith, b, name)) (λ b. omega (arith, b, same)) (r.0 t.0 t.1),
  apart k ss (λ t i. named t (inr i)) r.1,
)

-- the numbers in name words are in the order of the names
older : (p q : Proc) → p.number < 268435456 → q.number < 268435456 → name_code p.entry p.number < name_code q.entry q.number
    → is_older_process p q ≡ true
older p q i j l = go (nat_lt p.entry q.entry) refl
  where
    go : (b : Bool) → nat_lt p.entry q.entry ≡ b → is_older_process p q ≡ true
    go true e = ap (λ (b : Bool). b || (nat_eq p.entry q.entry && nat_lt p.number q.number)) e
    go false e =
        let above : q.entry ≤ p.entry = grind (arith, nat_tests, e) in
        let same : p.entry ≡ q.entry = omega (arith, i, j, l, above) in
        let below : p.number < q.number = omega (arith, l, same) in
        grind (arith, nat_tests, same, below)

same_name : (p q : Proc) → p.number < 268435456 → q.number < 268435456 → name_code p.entry p.number ≡ name_code q.entry q.number
    → is_same_process p q ≡ true
same_name p q i j l =
    let same : p.entry ≡ q.entry = omega (arith, i, j, l) in
    let number : p.number ≡ q.number = omega (arith, l, same) in
    grind (arith, nat_tests, same, number)

-- what a status says of a process that waits, and which processes wait by their status
status_waits : (limit x n : ℕ) (d : Status) → StatusSays limit x d → decoded x ≡ Some (cell.Status (stand.Waiting n))
    → (ps : List Place) × (d ≡ waiting ps)
status_waits limit x n ready h e = cc
status_waits limit x n finished h e = cc
status_waits limit x n (waiting ps) h e = (ps, refl)

module _ {k w : Words} {book : Book} {s : State} (up : Within k w) (st : StandsFor book w s) where
  -- the number that a process's name word says is that of its name
  name_told : (q n : ℕ) (x : Process) → ProcessAt book s q x → Tells number_of k (q + 1) n
      → name_code x.name.entry x.name.number ≡ n
  name_told q n x at t =
      tells_same up number_of (q + 1) n (Small (pos (name_code x.name.entry x.name.number))) t (st.process q x at).name

  by_name : (ss : List Sleeper) → AreNamed k ss → Rise ss → AreByName book s (processes ss)
  by_name [] named r = tt
  by_name (t ∷ ts) named r = (
    λ q x y i at to.
        let u = in_processes ts q i in
        let xn = name_told t.process t.name x at (named t (inl refl)) in
        let yn = name_told q u.0.name y to (subst (λ (p : ℕ). Tells number_of k (p + 1) u.0.name) u.2 (named u.0 (inr u.1))) in
        let xs = (st.dated_processes t.process x at).1 in
        let ys = (st.dated_processes q y to).1 in
        ⊎_elim (λ b. older x.name y.name xs ys (omega (arith, b, xn, yn)))
        (λ b. absurd (let e : t.process ≡ q = (st.once t.process q x y at to).0
        (same_name x.name y.name xs ys (xn ∙ (b.0 ∙ sym yn))) in let d : u.0.process ≡ q = u.2 in omega (arith, b, e, d)))
        (r.0 u.0 u.1),
    by_name ts (λ u i. named u (inr i)) r.1,
  )

  -- a process that waits on the place is found
  found : (places : List ℕ) (ss : List Sleeper) (q a : ℕ) → AreWaiting k places ss → IsIn a places → WaitsAt book s q a
      → (j : Place) × PlaceAt book j a × (find s.bound (made j) ≡ None) → IsIn q (processes ss)
  found places ss q a h i wa o =
      let list = h.all a i in
      let there : HungThere book w s a list.0 = hung_there up st o.0 a list.0 o.1 o.2 list.1 in
      let status = (st.process q wa.process wa.stands).status in
      let says : StatusSays s.entries status.0 (waiting wa.places) =
      subst (λ (d : Status). StatusSays s.entries status.0 d) wa.status status.2 in
      let at : At w q (cell.Status (stand.Waiting says.0)) = (status.0, status.1, says.1) in
      let among : Among there.hangs (q, says.0) =
      (st.hung wa.place a there.first there.hangs wa.at there.unbound there.listed q says.0 wa.process wa.places wa.stands wa.status at).0
      wa.listed in
      let e = hang_entry w list.0 there.hangs (q, says.0) there.match among in
      let process : e.0.process ≡ q = e.2 in
      ⊎_elim (λ f. subst (λ (p : ℕ). IsIn p (processes ss)) (f.2.same ∙ process) (processes_in ss f.0 f.1))
      (λ f. absurd (
      let number : says.0 ≡ f.number = tells_same up number_of (e.0.at + 1) f.number (Small (pos says.0)) f.hang e.3 in
      let over : waits_by f.number (Some (cell.Status (stand.Waiting says.0))) ≡ false =
      tells_same up (waits_by f.number) q false (cell.Status (stand.Waiting says.0))
      (subst (λ (p : ℕ). Tells (waits_by f.number) k p false) process f.status) at in
      let is : nat_eq says.0 f.number ≡ true = eq-eqb says.0 f.number number in cc)) (list.2 e.0 e.1)

  -- and what is found waits there
  waits : (b q : ℕ) (a : Entry) (as' : List Entry) → ListHas k b as' → IsOneOf a as' → HangsBy k a true → a.process ≡ q
      → (j : Place) × PlaceAt book j b × (find s.bound (made j) ≡ None) → WaitsAt book s q b
  waits b q a as' l i h e o =
      let there : HungThere book w s b as' = hung_there up st o.0 b as' o.1 o.2 l in
      let hang = entry_hang w as' there.hangs a there.match i in
      let hanger = (st.hangers o.0 b there.first there.hangs o.1 there.unbound there.listed (a.process, hang.0) hang.1).0 in
      let number : hang.0 ≡ h.number = tells_same up number_of (a.at + 1) h.number (Small (pos hang.0)) h.hang hang.2 in
      let word : decoded h.status.0 ≡ Some (cell.Status (stand.Waiting hang.0)) =
      is_waiting h.number (decoded h.status.0) h.status.2 ∙ ap (λ (n : ℕ). Some (cell.Status (stand.Waiting n))) (sym number) in
      let at : At w a.process (cell.Status (stand.Waiting hang.0)) = (h.status.0, up a.process h.status.0 h.status.1, word) in
      let status = (st.process a.process hanger.0 hanger.1).status in
      let same : h.status.0 ≡ status.0 = one_word (w a.process) h.status.0 status.0 at.1 status.1 in
      let places = status_waits s.entries status.0 hang.0 hanger.0.status status.2 (ap decoded (sym same) ∙ word) in
      let listed = (st.hung o.0 b there.first there.hangs o.1 there.unbound there.listed a.process hang.0 hanger.0 places.0 hanger.1
      places.1 at).1 hang.1 in
      record {
        process = hanger.0;
        stands = subst (λ (p : ℕ). ProcessAt book s p hanger.0) e hanger.1;
        places = places.0;
        status = places.1;
        place = o.0;
        at = o.1;
        listed = listed;
      }

module _ (kept : WordList) {places : List ℕ} {ss : List Sleeper} (h : AreWaiting (word_at kept) places ss) (rise : Rise ss) where
  named : AreNamed (word_at kept) ss
  named t i =
      let r : IsSleeper (word_at kept) (h.only t i).2.2.0 t = (h.only t i).2.2.2 in
      subst (λ (p : ℕ). Tells number_of (word_at kept) (p + 1) t.name) (sym r.same) r.name

  -- the sleepers of places are those that are to be woken
  pub kept_wakes : KeptWakes kept places (processes ss)
  kept_wakes read reads on = record {
    says = λ book w s has st opens.
        let up : Within (word_at kept) w = λ a x e. has a x (on a x e) in
        record {
          all = λ q a i wa. found up st places ss q a h i wa (opens a i);
          only = λ q i.
              let t = in_processes ss q i in
              let r = h.only t.0 t.1 in
              let a : IsSleeper (word_at kept) r.2.2.0 t.0 = r.2.2.2 in
              (r.0, r.1, waits up st r.0 q r.2.2.0 r.2.0 r.2.1 r.2.2.1 a.hangs (sym a.same ∙ t.2) (opens r.0 r.1));
          by_name = by_name up st ss named rise;
        };
    reads = reads;
    distinct = apart (word_at kept) ss named rise;
    sleepers = λ q i.
        let t = in_processes ss q i in
        let r = h.only t.0 t.1 in
        let a : IsSleeper (word_at kept) r.2.2.0 t.0 = r.2.2.2 in
        let x = a.hangs.status in
        let e : r.2.2.0.process ≡ q = sym a.same ∙ t.2 in (
          x.0,
          a.hangs.number,
          subst (λ (p : ℕ). Among read (p, x.0)) e (word_among read r.2.2.0.process x.0 (on r.2.2.0.process x.0 x.1)),
          is_waiting a.hangs.number (decoded x.0) x.2,
        );
  }
