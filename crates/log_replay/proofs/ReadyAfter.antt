-- The table behind a commit or a hang has exactly the Ready processes of the state behind it.
use Rattle.std.proofs.Common.{◌≡◌, ◌⊎◌, ℕ, suc, Bool, true, false, cond, List, [], ◌∷◌, ◌++◌, map, length, Some}
use Rattle.std.proofs.Common.{refl, sym, ap, ◌∙◌, subst, inl, inr, ⊎_elim, true≢false, arith}
use Rattle.std.specs.Prelude.{filter}
use Rattle.std.proofs.lemmas.Bool.{cases_Bool}
use Rattle.fcp_model.specs.declared.run.Proc.{Proc}
use Rattle.fcp_model.specs.Places.{is_same_process, places_among}
use Rattle.fcp_model.specs.Programs.{Program}
use Rattle.fcp_model.specs.Decisions.{Decision, commits, decides_fail, waits_on}
use Rattle.fcp_model.specs.Cells.{clause_used}
use Rattle.fcp_model.specs.States.{Status, ready, waiting, finished, Process, State, is_ready}
use Rattle.fcp_model.specs.Terms.{Bindings}
use Rattle.fcp_model.specs.Events.{Event, event_of, is_woken, made_ready, wake, with_status, children_of}
use Rattle.fcp_laws.proofs.ProcessNames.{same_process, same_itself, each_so}
use Rattle.fcp_laws.proofs.QueueMoves.{children_ready}
use Rattle.word_states.specs.Words.{Words}
use Rattle.word_states.specs.Standing.{Book, StandsFor, StandsAt, ProcessAt}
use Rattle.word_states.specs.Going.{Move, GoesOn}
use Rattle.log_replay.specs.Tables.{Table, address_of, IsReadyAt, HasOnlyReady, HasReady, AreReady, IsOneOf, IsInTable, PutsAll, TakesOut}

pub stands_one : (as' : List ℕ) (xs : List Process) (p : ℕ) (y : Process) → StandsAt as' xs p y → IsOneOf xs y
stands_one [] xs p y h = absurd h
stands_one (a ∷ as') [] p y h = absurd h
stands_one (a ∷ as') (x ∷ xs) p y (inl h) = inl h.1
stands_one (a ∷ as') (x ∷ xs) p y (inr h) = inr (stands_one as' xs p y h)

pub one_stands : (as' : List ℕ) (xs : List Process) (y : Process) → length as' ≡ length xs → IsOneOf xs y → (p : ℕ) × StandsAt as' xs p y
one_stands as' [] y e h = absurd h
one_stands [] (x ∷ xs) y e h = absurd (omega (arith, e))
one_stands (a ∷ as') (x ∷ xs) y e (inl i) = (a, inl (refl, i))
one_stands (a ∷ as') (x ∷ xs) y e (inr h) = let r = one_stands as' xs y (omega (arith, e)) h in (r.0, inr r.1)

-- the table has exactly the Ready processes, where it has no other ones, and each by its name
pub has_ready : (book : Book) (w : Words) (s : State) (t : Table) → StandsFor book w s → HasOnlyReady book s t
    → ((x : Process) → IsOneOf s.processes x → is_ready x.status ≡ true → IsInTable t x.name) → HasReady book s t
has_ready book w s t stands only each = record {
  only = only;
  all = λ p x there may.
      let i = each x (stands_one book.processes s.processes p x there) may in
      let o = only x.name i.0 i.1 in
      let same : p ≡ i.0 = (stands.once p i.0 x o.process there o.there).0
      (subst (λ (n : Proc). is_same_process x.name n ≡ true) (sym o.named) (same_itself x.name)) in
      i.1 ∙ ap Some (sym same);
}

one_append : (xs ys : List Process) (z : Process) → IsOneOf (xs ++ ys) z → IsOneOf xs z ⊎ IsOneOf ys z
one_append [] ys z h = inr h
one_append (x ∷ xs) ys z (inl e) = inl (inl e)
one_append (x ∷ xs) ys z (inr h) = ⊎_elim (λ (i : IsOneOf xs z). let r : IsOneOf (x ∷ xs) z ⊎ IsOneOf ys z = inl (inr i) in r)
    (λ (i : IsOneOf ys z). inr i) (one_append xs ys z h)

one_mapped : (f : Process → Process) (xs : List Process) (z : Process) → IsOneOf (map f xs) z
    → (x : Process) × IsOneOf xs x × (f x ≡ z)
one_mapped f [] z h = absurd h
one_mapped f (x ∷ xs) z (inl e) = (x, inl refl, e)
one_mapped f (x ∷ xs) z (inr h) = let r = one_mapped f xs z h in (r.0, inr r.1, r.2)

map_one : (f : Process → Process) (xs : List Process) (x : Process) → IsOneOf xs x → IsOneOf (map f xs) (f x)
map_one f [] x h = absurd h
map_one f (y ∷ xs) x (inl e) = inl (ap f e)
map_one f (y ∷ xs) x (inr h) = inr (map_one f xs x h)

pub one_kept : (t : Process → Bool) (xs : List Process) (y : Process) → IsOneOf xs y → t y ≡ true → IsOneOf (filter t xs) y
one_kept t [] y h e = absurd h
one_kept t (x ∷ xs) y h e = go (t x) refl h (λ k. one_kept t xs y k e)
  where
    go : (b : Bool) → t x ≡ b → IsOneOf (x ∷ xs) y → (IsOneOf xs y → IsOneOf (filter t xs) y)
        → IsOneOf (cond b (x ∷ filter t xs) (filter t xs)) y
    go true i (inl k) f = inl k
    go true i (inr k) f = inr (f k)
    go false i (inl k) f = absurd (true≢false (sym e ∙ (ap t (sym k) ∙ i)))
    go false i (inr k) f = f k

woken_ready : (xs : List Process) → AreReady (map made_ready xs)
woken_ready [] = tt
woken_ready (x ∷ xs) = (refl, woken_ready xs)

-- a process behind a change of one status is the one whose status changed, or as it was
status_cases : (n : Proc) (st : Status) (z x : Process) → is_ready st ≡ false → with_status n st z ≡ x → is_ready x.status ≡ true
    → (is_same_process z.name n ≡ false) × (z ≡ x)
status_cases n st z x dull e may = go (is_same_process z.name n) refl e
  where
    go : (b : Bool) → is_same_process z.name n ≡ b → cond b (record z { status = st }) z ≡ x
        → (is_same_process z.name n ≡ false) × (z ≡ x)
    go true i h = absurd (true≢false (sym may ∙ (ap (λ (u : Process). is_ready u.status) (sym h) ∙ dull)))
    go false i h = (i, h)

-- and behind a commit a process that is Ready was woken, or was Ready
wake_cases : (bs : Bindings) (z x : Process) → wake bs z ≡ x → ((is_woken bs z.status ≡ true) × (made_ready z ≡ x)) ⊎ (z ≡ x)
wake_cases bs z x e = go (is_woken bs z.status) refl e
  where
    go : (b : Bool) → is_woken bs z.status ≡ b → cond b (made_ready z) z ≡ x
        → ((is_woken bs z.status ≡ true) × (made_ready z ≡ x)) ⊎ (z ≡ x)
    go true i h = inl (i, h)
    go false i h = inr h

module _ (m : Program) (v : Move) (book : Book) (s : State) (w w' : Words) (q : Proc) (p : ℕ) (y : Process) (stands : StandsFor book w s)
    (there : ProcessAt book s p y) (named : y.name ≡ q) (address : v.process ≡ p) (g : GoesOn m v book s w') (d : Decision)
    (is : g.goes.event ≡ event_of m s y d) (no_fail : (rs : List _) → d ≡ decides_fail rs → ⊥) (old t1 t2 new : Table)
    (had : HasReady book s old) (taken : TakesOut q old t1) (born : PutsAll w' v.children t1 t2) (woken : PutsAll w' v.woken t2 new) where
  abbrev ev : Event
  ev = g.goes.event

  only_others : HasOnlyReady g.goes.book ev.after t1
  only_others r a e = ⊎_elim
      (λ (i : is_same_process q r ≡ true). absurd (taken.gone a (ap (address_of t1) (same_process q r i) ∙ e)))
      (λ (i : is_same_process q r ≡ false). stays i) (cases_Bool (is_same_process q r))
    where
      stays : is_same_process q r ≡ false → IsReadyAt g.goes.book ev.after r a
      stays i =
          let o = had.only r a (sym (taken.others r (λ h. true≢false (sym h ∙ i))) ∙ e) in
          record {
            process = o.process;
            there = g.processes_stay a o.process o.there o.may_move (λ f.
                let same : o.process ≡ y = (stands.once a p o.process y o.there there).1 (f ∙ address) in
                let name : q ≡ r = sym named ∙ (ap (λ (u : Process). u.name) (sym same) ∙ o.named) in
                true≢false (sym (subst (λ (n : Proc). is_same_process q n ≡ true) name (same_itself q)) ∙ i));
            named = o.named;
            may_move = o.may_move;
          }

  children_may : AreReady ev.children
  children_may = subst (λ (x : Event). AreReady x.children) (sym is) (go d)
    where
      go : (d : Decision) → AreReady (event_of m s y d).children
      go (commits k bs rs) = each_so (λ x. x.status ≡ ready) (λ x. is_ready x.status ≡ true) (λ x e. ap is_ready e) _
          (children_ready (suc s.entries) 1 _)
      go (waits_on rs) = tt
      go (decides_fail rs) = tt

  only_ready : HasOnlyReady g.goes.book ev.after new
  only_ready = woken.only g.goes.book ev.after (map made_ready ev.woken) g.goes.stands g.woken (woken_ready ev.woken)
      (born.only g.goes.book ev.after ev.children g.goes.stands g.children children_may only_others)

  -- a process that stays as it was
  as_before : (z : Process) → IsOneOf s.processes z → is_ready z.status ≡ true → is_same_process z.name y.name ≡ false
      → IsInTable new z.name
  as_before z i may far =
      let a = one_stands book.processes s.processes z stands.processes i in
      let other : is_same_process q z.name ≡ true → ⊥ = λ h.
      true≢false (sym (subst (λ (n : Proc). is_same_process z.name n ≡ true) (sym (same_process q z.name h) ∙ sym named)
      (same_itself z.name)) ∙ far) in
      woken.stay z.name (born.stay z.name (a.0, taken.others z.name other ∙ had.all a.0 z a.1 may))

  each_ready : (x : Process) → IsOneOf ev.after.processes x → is_ready x.status ≡ true → IsInTable new x.name
  each_ready x i may = go d is (λ rs. no_fail rs)
      (subst (λ (u : Event). IsOneOf u.after.processes x) is i)
    where
      go : (d : Decision) → ev ≡ event_of m s y d → ((rs : List _) → d ≡ decides_fail rs → ⊥)
          → IsOneOf (event_of m s y d).after.processes x → IsInTable new x.name
      go (decides_fail rs) e other h = absurd (other rs refl)
      go (waits_on rs) e other h =
          let z = one_mapped (with_status y.name (waiting (places_among rs))) s.processes x h in
          let c = status_cases y.name (waiting (places_among rs)) z.0 x refl z.2 may in
          subst (λ (u : Process). IsInTable new u.name) c.1
          (as_before z.0 z.1 (subst (λ (u : Process). is_ready u.status ≡ true) (sym c.1) may) c.0)
      go (commits k bs rs) e other h = ⊎_elim
          (λ (j : IsOneOf (map (λ u. wake bs (with_status y.name finished u)) s.processes) x). kept j)
          (λ (j : IsOneOf (children_of (suc s.entries) (clause_used m y.goal k)) x). woken.stay x.name
          (born.put g.goes.book ev.after ev.children g.goes.stands g.children x
          (subst (λ (u : Event). IsOneOf u.children x) (sym e) j)))
          (one_append _ _ x h)
        where
          kept : IsOneOf (map (λ u. wake bs (with_status y.name finished u)) s.processes) x → IsInTable new x.name
          kept j =
              let z = one_mapped (λ u. wake bs (with_status y.name finished u)) s.processes x j in
              by_name z.0 z.1 (is_same_process z.0.name y.name) refl z.2
            where
              plain : (z : Process) → IsOneOf s.processes z → is_same_process z.name y.name ≡ false
                  → ((is_woken bs z.status ≡ true) × (made_ready z ≡ x)) ⊎ (z ≡ x) → IsInTable new x.name
              plain z l far (inl (i', same)) =
                  woken.put g.goes.book ev.after (map made_ready ev.woken) g.goes.stands g.woken x
                  (subst (IsOneOf (map made_ready ev.woken)) same (map_one made_ready ev.woken z
                  (subst (λ (u : Event). IsOneOf u.woken z) (sym e) (one_kept (λ u. is_woken bs u.status) s.processes z l i'))))
              plain z l far (inr same) =
                  subst (λ (u : Process). IsInTable new u.name) same
                  (as_before z l (subst (λ (u : Process). is_ready u.status ≡ true) (sym same) may) far)

              by_name : (z : Process) → IsOneOf s.processes z → (b : Bool) → is_same_process z.name y.name ≡ b
                  → wake bs (cond b (record z { status = finished }) z) ≡ x → IsInTable new x.name
              by_name z l true same f = absurd (true≢false (sym may ∙ ap (λ (u : Process). is_ready u.status) (sym f)))
              by_name z l false same f = plain z l same (wake_cases bs z x f)

  pub ready_after : HasReady g.goes.book ev.after new
  ready_after = has_ready g.goes.book w' ev.after new g.goes.stands only_ready each_ready
