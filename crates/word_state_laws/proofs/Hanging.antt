-- After a hang the words stand for the next state.
use Rattle.std.proofs.Common.{◌≡◌, ℕ, suc, ◌-◌, ◌<◌, ◌≤◌, true, false, List, ◌∷◌, map, refl, sym, ap, ◌∙◌, subst, ⊎_elim, inl, inr, arith}
use Rattle.std.proofs.Common.{true≢false, Option, Some, None}
use Rattle.std.proofs.lemmas.Bool.{cases_Bool, cond-true, cond-false, eq-eqb, and_from}
use Rattle.std.proofs.lemmas.Option.{same_Some}
use Rattle.fcp_model.specs.declared.run.Place.{Place}
use Rattle.fcp_model.specs.declared.run.Proc.{Proc}
use Rattle.fcp_model.specs.Places.{Variable, made, is_same_process, is_listed}
use Rattle.fcp_model.specs.Terms.{Term, Bindings, find}
use Rattle.fcp_model.specs.States.{waiting, Process, State}
use Rattle.fcp_model.specs.Events.{with_status, after_hang}
use Rattle.heap_words.specs.Cells.{decoded, is_final_in}
use Rattle.heap_words.specs.Trails.{WordList}
use Rattle.heap_words.specs.declared.cell.Cell.TheVariants.{Unbound}
use Rattle.heap_words.specs.declared.cell.Cell.TheVariants as cell
use Rattle.heap_words.specs.declared.cell.Stand.TheVariants as stand
use Rattle.word_states.specs.Words.{Words, At, Among}
use Rattle.word_states.specs.Denoting.{Addresses, Listed}
use Rattle.word_states.specs.Standing.{Book, PlacesStand, PlaceSays, Hangs, StandsAt, ProcessSays, StandsFor, ProcessAt, PlaceAt}
use Rattle.word_states.specs.Effects.{EntryAt, HangEffect}
use Rattle.word_states.proofs.Leading.{process_on, open_short}
use Rattle.word_states.proofs.Persisting.{denotes_final, one_cell, hangs_one, status_up, stands_map, map_stands, map_length}
use Rattle.word_states.proofs.Persisting.{at_on, denotes_on, hangs_on}
use Rattle.word_state_laws.proofs.Settling.{apart}

pub same_process_refl : (p : Proc) → is_same_process p p ≡ true
same_process_refl p = and_from _ _ (eq-eqb p.entry _ refl) (eq-eqb p.number _ refl)

-- an unbound place's word was unbound
pub was_free : (w : Words) (vs : Addresses) (bound : Bindings) (j : Place) (a e : ℕ) → PlacesStand w vs bound → Listed vs (made j) a
    → At w a (Unbound e) → find bound (made j) ≡ None
was_free w vs bound j a e says h is =
    let r = says.word (made j) a h in go r.0 (find bound (made j)) (let q : r.0 ≡ is.0 = same_Some _ _ (sym r.1 ∙ is.1) in ap decoded q
    ∙ is.2) r.2
  where
    go : (x : ℕ) (o : Option (Term Variable)) → decoded x ≡ Some (Unbound e) → PlaceSays w vs x o → o ≡ None
    go x None d p = refl
    go x (Some t) d p = absurd (true≢false (sym (denotes_final w vs x t p) ∙ ap is_final_in d))

module _ (book : Book) (s : State) (p : ℕ) (x : Process) (ns : List Place) (w w' : Words) (stands : StandsFor book w s)
    (hang : HangEffect book s p x ns w w') where
  same : (v : Variable) (a : ℕ) → Listed book.places v a → Listed book.places v a
  same v a h = h

  -- a process after the hang is the one that hangs, or it is unchanged
  pub data Was (q : ℕ) (y : Process) : Type 0 where
    hangs : q ≡ p → y ≡ record x { status = waiting ns } → Was q y
    stays : (q ≡ p → ⊥) → ProcessAt book s q y → Was q y

  was : (q : ℕ) (y : Process) → StandsAt book.processes (map (with_status x.name (waiting ns)) s.processes) q y → Was q y
  was q y h =
      let r = stands_map (with_status x.name (waiting ns)) book.processes s.processes q y h in
      let z = r.0 in
      ⊎_elim
      (λ (t : is_same_process z.name x.name ≡ true).
      let here : q ≡ p = (stands.once q p z x r.1 hang.parent).0 t in
      let is : z ≡ x = (stands.once q p z x r.1 hang.parent).1 here in
      hangs here (sym r.2 ∙ cond-true _ _ _ t ∙ ap (λ (v : Process). record v { status = waiting ns }) is))
      (λ (t : is_same_process z.name x.name ≡ false).
      stays (λ here. let is : z ≡ x = (stands.once q p z x r.1 hang.parent).1 here in
      true≢false (sym (same_process_refl x.name) ∙ ap (λ (v : Process). is_same_process v.name x.name) (sym is) ∙ t))
      (subst (ProcessAt book s q) (sym (cond-false _ _ _ t) ∙ r.2) r.1))
      (cases_Bool (is_same_process z.name x.name))

  process_says : (q : ℕ) (y : Process) → Was q y → ProcessSays w' book.places s.bound (suc s.entries) q y
  process_says q y (hangs here is) =
      subst (ProcessSays w' book.places s.bound (suc s.entries) q) (sym is)
      (subst (λ (q : ℕ). ProcessSays w' book.places s.bound (suc s.entries) q (record x { status = waiting ns })) (sym here)
      (process_on s.bound s.bound w w' book.places book.places s.entries (suc s.entries) p x (record x { status = waiting ns })
      (λ v t e. e) hang.grows same
      (stands.process p x hang.parent) refl refl
      (hang.status.0, hang.status.1, (suc s.entries, hang.status.2, omega arith))))
  process_says q y (stays apart h) =
      let r = (stands.process q y h).status in
      process_on s.bound s.bound w w' book.places book.places s.entries (suc s.entries) q y y (λ v t e. e) hang.grows same
      (stands.process q y h) refl refl
      (r.0, hang.others q y h apart ∙ r.1, status_up s.entries (suc s.entries) r.0 y.status (omega arith) r.2)

  -- the waiting list of a place after the hang: with the new entry where the process waits on the place
  pub data List' (k : Place) (e : ℕ) (hs : WordList) (a : ℕ) : Type 0 where
    longer : is_listed k ns ≡ true → (e0 : ℕ) (ks : WordList) → At w a (Unbound e0) → Hangs w e0 ks → hs ≡ (p, suc s.entries) ∷ ks
        → List' k e hs a
    unchanged : is_listed k ns ≡ false → At w a (Unbound e) → Hangs w e hs → List' k e hs a

  new_chain : (e' e : ℕ) (ks : WordList) → EntryAt w' e' p (suc s.entries) e → Hangs w' e ks → Hangs w' e' ((p, suc s.entries) ∷ ks)
  new_chain e' e ks at h = (at.above, at.process, at.number, (e, at.link, h))

  -- an unbound place is said to be unbound
  open_said : (v : Variable) → find s.bound v ≡ None → find stands.short v ≡ None
  open_said v = open_short s.bound s.bound stands.short v stands.shortened

  -- the list that a place had, where it is unbound
  had : (k : Place) (a : ℕ) → PlaceAt book k a → find s.bound (made k) ≡ None → (e : ℕ) × At w a (Unbound e)
      × ((ks : WordList) × Hangs w e ks)
  had k a h free =
      let r = stands.says.word (made k) a h in
      let u : PlaceSays w book.places r.0 None = subst (PlaceSays w book.places r.0) (open_said (made k) free) r.2 in
      let is : At w a (Unbound u.0) = (r.0, r.1, u.1) in
      (u.0, is, stands.lists k a u.0 h is)

  list_was : (k : Place) (a e : ℕ) (hs : WordList) → PlaceAt book k a → At w' a (Unbound e) → Hangs w' e hs → List' k e hs a
  list_was k a e hs h is chain = ⊎_elim
      (λ (t : is_listed k ns ≡ true).
      let o = had k a h (hang.places k t).1 in
      let n = hang.hung k a o.0 h t o.1 in
      let same_e : Unbound n.0 ≡ Unbound e = one_cell w' a _ _ n.1 is in
      let is_e : n.0 ≡ e = cc in
      let mine : Hangs w' n.0 ((p, suc s.entries) ∷ o.2.0) = new_chain n.0 o.0 o.2.0 n.2
      (hangs_on w w' book.places book.places hang.grows same o.0 o.2.0 o.2.1) in
      longer t o.0 o.2.0 o.1 o.2.1 (hangs_one w' e hs ((p, suc s.entries) ∷ o.2.0) chain
      (subst (λ (b : ℕ). Hangs w' b ((p, suc s.entries) ∷ o.2.0)) is_e mine)))
      (λ (t : is_listed k ns ≡ false).
      let was_is : At w a (Unbound e) = (is.0, sym (hang.apart k a h t) ∙ is.1, is.2) in
      let o = stands.lists k a e h was_is in
      let eq : o.0 ≡ hs = hangs_one w' e o.0 hs (hangs_on w w' book.places book.places hang.grows same e o.0 o.1) chain in
      unchanged t was_is (subst (Hangs w e) eq o.1))
      (cases_Bool (is_listed k ns))

  -- what an old word says goes on to be said
  place_on : (y : ℕ) (o : Option (Term Variable)) → PlaceSays w book.places y o → PlaceSays w' book.places y o
  place_on y None says = says
  place_on y (Some t) says = denotes_on w w' book.places book.places hang.grows same y t says

  place_says : (v : Variable) (a : ℕ) → Listed book.places v a
      → (y : ℕ) × (w' a ≡ Some y) × PlaceSays w' book.places y (find stands.short v)
  place_says v a h =
      let m = stands.says.is_made v a h in
      let h' : PlaceAt book m.0 a = subst (λ (u : Variable). Listed book.places u a) m.1 h in
      subst (λ (u : Variable). (y : ℕ) × (w' a ≡ Some y) × PlaceSays w' book.places y (find stands.short u)) (sym m.1) (⊎_elim
      (λ (t : is_listed m.0 ns ≡ true).
      let free = (hang.places m.0 t).1 in
      let o = had m.0 a h' free in
      let n = hang.hung m.0 a o.0 h' t o.1 in
      (n.1.0, n.1.1, subst (PlaceSays w' book.places n.1.0) (sym (open_said (made m.0) free)) (n.0, n.1.2)))
      (λ (t : is_listed m.0 ns ≡ false).
      let r = stands.says.word (made m.0) a h' in
      (r.0, hang.apart m.0 a h' t ∙ r.1, place_on r.0 (find stands.short (made m.0)) r.2))
      (cases_Bool (is_listed m.0 ns)))

  says_on : PlacesStand w' book.places stands.short
  says_on = record {
    is_made = stands.says.is_made;
    name = λ v a h. let r = stands.says.name v a h in (r.0, at_on w w' book.places book.places hang.grows same (a - 1) _ r.1 refl);
    word = place_says;
    once = stands.says.once;
  }

  -- each process goes on to stand where it stood
  become : (q : ℕ) (y : Process) → ProcessAt book s q y → (z : Process)
      × StandsAt book.processes (map (with_status x.name (waiting ns)) s.processes) q z
  become q y h = (with_status x.name (waiting ns) y, map_stands (with_status x.name (waiting ns)) book.processes s.processes q y h)

  hangers_kept : (k : Place) (a e : ℕ) (hs : WordList) → PlaceAt book k a → List' k e hs a → (z : ℕ × ℕ) → Among hs z
      → ((y : Process) × StandsAt book.processes (map (with_status x.name (waiting ns)) s.processes) z.0 y) × (z.1 ≤ suc s.entries)
  hangers_kept k a e hs h (longer t e0 ks is chain eq) z m = go (subst (λ (l : WordList). Among l z) eq m)
    where
      go : Among ((p, suc s.entries) ∷ ks) z
          → ((y : Process) × StandsAt book.processes (map (with_status x.name (waiting ns)) s.processes) z.0 y) × (z.1 ≤ suc s.entries)
      go (inl e) =
          subst (λ (v : ℕ × ℕ). ((y : Process) × StandsAt book.processes (map (with_status x.name (waiting ns)) s.processes) v.0 y)
          × (v.1 ≤ suc s.entries)) e (become p x hang.parent, omega arith)
      go (inr r) = let q = stands.hangers k a e0 ks h is chain z r in let le = q.1 in (become z.0 q.0.0 q.0.1, omega arith)
  hangers_kept k a e hs h (unchanged t is chain) z m =
      let q = stands.hangers k a e hs h is chain z m in let le = q.1 in (become z.0 q.0.0 q.0.1, omega arith)

  hung_kept : (k : Place) (a e : ℕ) (hs : WordList) → PlaceAt book k a → List' k e hs a → (q m : ℕ) (y : Process) (ms : List Place)
      → Was q y → y.status ≡ waiting ms → At w' q (cell.Status (stand.Waiting m))
      → (is_listed k ms ≡ true → Among hs (q, m)) × (Among hs (q, m) → is_listed k ms ≡ true)
  hung_kept k a e hs h list q m y ms (hangs here is) st says =
      let num : cell.Status (stand.Waiting m) ≡ cell.Status (stand.Waiting (suc s.entries)) = one_cell w' p _ _
      (subst (λ (b : ℕ). At w' b (cell.Status (stand.Waiting m))) here says) hang.status in
      let num' : m ≡ suc s.entries = cc in
      let set : waiting ms ≡ waiting ns = sym st ∙ ap (λ (v : Process). v.status) is in
      let set' : ms ≡ ns = cc in
      subst (λ (l : List Place). (is_listed k l ≡ true → Among hs (q, m)) × (Among hs (q, m) → is_listed k l ≡ true)) (sym set')
      (subst (λ (z : ℕ × ℕ). (is_listed k ns ≡ true → Among hs z) × (Among hs z
      → is_listed k ns ≡ true)) (λ i. (sym here i, sym num' i)) (mine list))
    where
      mine : List' k e hs a → (is_listed k ns ≡ true → Among hs (p, suc s.entries)) × (Among hs (p, suc s.entries) → is_listed k ns ≡ true)
      mine (longer t e0 ks is chain eq) = ((λ _. subst (λ (l : WordList). Among l (p, suc s.entries)) (sym eq) (inl refl)), (λ _. t))
      mine (unchanged t is chain) = (
        (λ u. absurd (true≢false (sym u ∙ t))),
        (λ r. let z = (stands.hangers k a e hs h is chain (p, suc s.entries) r).1 in
            absurd (omega arith)),
      )
  hung_kept k a e hs h list q m y ms (stays apart at) st says = mine list (says.0, sym (hang.others q y at apart) ∙ says.1, says.2)
    where
      mine : List' k e hs a → At w q (cell.Status (stand.Waiting m)) → (is_listed k ms ≡ true → Among hs (q, m))
          × (Among hs (q, m) → is_listed k ms ≡ true)
      mine (longer t e0 ks is chain eq) was_says =
          let old = stands.hung k a e0 ks h is chain q m y ms at st was_says in
          subst (λ (l : WordList). (is_listed k ms ≡ true → Among l (q, m)) × (Among l (q, m) → is_listed k ms ≡ true)) (sym eq) (
            (λ u. inr (old.0 u)),
            (λ r. ⊎_elim (λ (g : (p, suc s.entries) ≡ (q, m)). absurd (apart (ap (λ (v : ℕ × ℕ). v.0) (sym g))))
                (λ (g : Among ks (q, m)). old.1 g) r),
          )
      mine (unchanged t is chain) was_says = stands.hung k a e hs h is chain q m y ms at st was_says

  once_kept : (q r : ℕ) (y z : Process) → Was q y → Was r z → (is_same_process y.name z.name ≡ true → q ≡ r) × (q ≡ r → y ≡ z)
  once_kept q r y z (hangs here is) (hangs there iz) = ((λ _. here ∙ sym there), (λ _. is ∙ sym iz))
  once_kept q r y z (hangs here is) (stays far at) = (
    (λ e. let eq = (stands.once p r x z hang.parent at).0 (ap (λ (v : Process). is_same_process v.name z.name) (sym is) ∙ e) in here ∙ eq),
    (λ e. absurd (far (sym e ∙ here))),
  )
  once_kept q r y z (stays far at) (hangs there iz) = (
    (λ e. let eq = (stands.once q p y x at hang.parent).0 (ap (λ (v : Process). is_same_process y.name v.name) (sym iz) ∙ e) in
        absurd (far eq)),
    (λ e. absurd (far (e ∙ there))),
  )
  once_kept q r y z (stays far at) (stays apart bt) = stands.once q r y z at bt

  waits_kept : (q : ℕ) (y : Process) (ms : List Place) (j : Place) → Was q y → y.status ≡ waiting ms → is_listed j ms ≡ true
      → ((a : ℕ) × PlaceAt book j a) × (find s.bound (made j) ≡ None)
  waits_kept q y ms j (hangs here is) st t =
      let set : waiting ms ≡ waiting ns = sym st ∙ ap (λ (v : Process). v.status) is in
      let set' : ms ≡ ns = cc in
      hang.places j (subst (λ (l : List Place). is_listed j l ≡ true) set' t)
  waits_kept q y ms j (stays apart at) st t = stands.waits q y ms j at st t

  dated_kept : (q : ℕ) (y : Process) → Was q y → (y.name.entry ≤ suc s.entries) × (y.name.number < 268435456)
  dated_kept q y (hangs here is) =
      let n : y.name.entry ≡ x.name.entry = ap (λ (v : Process). v.name.entry) is in
      let k : y.name.number ≡ x.name.number = ap (λ (v : Process). v.name.number) is in
      let d = stands.dated_processes p x hang.parent in let le = d.0 in let lt = d.1 in (omega arith, omega arith)
  dated_kept q y (stays apart at) = let d = stands.dated_processes q y at in let le = d.0 in (omega arith, d.1)

  pub hang_stands : StandsFor book w' (after_hang s x.name ns)
  hang_stands = record {
    places = stands.places;
    processes = stands.processes ∙ sym (map_length (with_status x.name (waiting ns)) s.processes);
    once = λ q r y z h k. once_kept q r y z (was q y h) (was r z k);
    short = stands.short;
    shortened = stands.shortened;
    says = says_on;
    process = λ q y h. process_says q y (was q y h);
    statuses = λ a d is. let r = hang.statuses a d is in let o = stands.statuses a r.0 r.1 in become a o.0 o.1;
    lists = λ k a e h is. lists_kept k a e h is;
    hangers = λ k a e hs h is chain z r. hangers_kept k a e hs h (list_was k a e hs h is chain) z r;
    hung = λ k a e hs h is chain q n y ms at st says. hung_kept k a e hs h (list_was k a e hs h is chain) q n y ms (was q y at) st says;
    waits = λ q y ms j h st t. waits_kept q y ms j (was q y h) st t;
    own_free = stands.own_free;
    own_absent = stands.own_absent;
    dated_places = λ j a h. let le = stands.dated_places j a h in omega arith;
    dated_bound = λ j t e. let le = stands.dated_bound j t e in omega arith;
    dated_processes = λ q y h. dated_kept q y (was q y h);
  }
    where
      lists_kept : (k : Place) (a e : ℕ) → PlaceAt book k a → At w' a (Unbound e) → (hs : WordList) × Hangs w' e hs
      lists_kept k a e h is = ⊎_elim
          (λ (t : is_listed k ns ≡ true).
          let o = had k a h (hang.places k t).1 in
          let n = hang.hung k a o.0 h t o.1 in
          let same_e : Unbound n.0 ≡ Unbound e = one_cell w' a _ _ n.1 is in
          let is_e : n.0 ≡ e = cc in (
            (p, suc s.entries) ∷ o.2.0,
            subst (λ (b : ℕ). Hangs w' b ((p, suc s.entries) ∷ o.2.0)) is_e
                (new_chain n.0 o.0 o.2.0 n.2 (hangs_on w w' book.places book.places hang.grows same o.0 o.2.0 o.2.1)),
          ))
          (λ (t : is_listed k ns ≡ false).
          let o = stands.lists k a e h (is.0, sym (hang.apart k a h t) ∙ is.1, is.2) in
          (o.0, hangs_on w w' book.places book.places hang.grows same e o.0 o.1))
          (cases_Bool (is_listed k ns))
