-- What the line of a move says of its event.
use Rattle.std.proofs.Common.{◌≡◌, ℕ, suc, ◌<◌, Bool, true, false, cond, List, [], ◌∷◌, Some, refl, sym, ap, ◌∙◌, subst, arith}
use Rattle.std.specs.Prelude.{slice_get}
use Rattle.fcp_model.specs.declared.run.Place.{Place}
use Rattle.fcp_model.specs.declared.run.Proc.{Proc}
use Rattle.fcp_model.specs.declared.run.Entry.TheVariants.{Commit, Hang, Fail}
use Rattle.fcp_model.specs.Places.{Variable, made, own, is_same}
use Rattle.fcp_model.specs.Terms.{Term, Bindings, find, rename, settle}
use Rattle.fcp_model.specs.Programs.{Program}
use Rattle.fcp_model.specs.Decisions.{Decision, commits, decides_fail, waits_on, decide}
use Rattle.fcp_model.specs.States.{Process, State}
use Rattle.fcp_model.specs.Events.{Event, event_of}
use Rattle.fcp_model.proofs.Finding.{is_same-true}
use Rattle.word_states.specs.Words.{Words}
use Rattle.word_states.specs.Denoting.{Addresses, Listed}
use Rattle.word_states.specs.Standing.{Book, StandsFor}
use Rattle.word_states.specs.Trials.{places_bound, AreAt}
use Rattle.word_states.specs.Going.{Move, GoesOn}
use Rattle.entry_lines.specs.Lines.{IsCommitThere, IsHangThere}
use Rattle.run_laws.specs.Running.{WaitsByAge}
use Rattle.run_laws.proofs.Fronts.{IsMadeBy}
use Rattle.run_laws.proofs.NewPlaces.{commit_new, bound_once, settled_there}
use Rattle.log_replay.proofs.OrderedEvents.{event_number}

-- places that stay have the same addresses
at_stay : (vs us : Addresses) (as' : List ℕ) (js : List Place) → ((j : Place) (a : ℕ) → Listed vs (made j) a → Listed us (made j) a)
    → AreAt vs as' js → AreAt us as' js
at_stay vs us [] [] h k = tt
at_stay vs us [] (j ∷ js) h k = absurd k
at_stay vs us (a ∷ as') [] h k = absurd k
at_stay vs us (a ∷ as') (j ∷ js) h k = (h j a k.0, at_stay vs us as' js h k.1)

-- a place that is bound is listed
bound_listed : (vs : Addresses) (bs : Bindings) (as' : List ℕ) (j : Place) (t : Term Variable) → AreAt vs as' (places_bound bs)
    → find bs (made j) ≡ Some t → (a : ℕ) × Listed vs (made j) a
bound_listed vs [] as' j t h e = cc
bound_listed vs ((own k, u) ∷ bs) as' j t h e = bound_listed vs bs as' j t h e
bound_listed vs ((made i, u) ∷ bs) [] j t h e = absurd h
bound_listed vs ((made i, u) ∷ bs) (a ∷ as') j t h e = go (is_same (made i) (made j)) refl (bound_listed vs bs as' j t h.1) e
  where
    go : (c : Bool) → is_same (made i) (made j) ≡ c → (find bs (made j) ≡ Some t → (b : ℕ) × Listed vs (made j) b)
        → cond c (Some u) (find bs (made j)) ≡ Some t → (b : ℕ) × Listed vs (made j) b
    go true f rec k = (a, subst (λ (v : Variable). Listed vs v a) (is_same-true (made i) (made j) f) h.0)
    go false f rec k = rec k

module _ (m : Program) (v : Move) (book : Book) (s : State) (w w' : Words) (y : Process) (stands : StandsFor book w s)
    (g : GoesOn m v book s w') (by : IsMadeBy g.goes.steps m s y v.entry g.goes.event) where
  abbrev ev : Event
  ev = g.goes.event

  pub number : ev.after.entries ≡ suc s.entries
  number = ap (λ (x : Event). x.after.entries) by.is ∙ event_number m s y by.decision

  pub commit_there : (q : Proc) (k : ℕ) → v.entry ≡ Commit q k
      → IsCommitThere w' g.goes.book ev ev.after.entries q k v.bound v.woken
  commit_there q k e = go by.decision by.decided by.is
    where
      low : (bs : Bindings) → ev.bindings ≡ bs → (j : Place) (t : Term Variable) → find bs (made j) ≡ Some t
          → j.entry < suc s.entries
      low bs is j t h =
          let l = bound_listed book.places bs v.bound j t
          (subst (λ (x : Bindings). AreAt book.places v.bound (places_bound x)) is g.bound) h in
          let d = stands.dated_places j l.0 l.1 in omega arith

      go : (d : Decision) → decide g.goes.steps m s.bound y.goal ≡ Some d → ev ≡ event_of m s y d
          → IsCommitThere w' g.goes.book ev ev.after.entries q k v.bound v.woken
      go (commits j bs rs) d is =
          let new = commit_new g.goes.steps m s.bound y.goal j bs rs d in
          let same : ev.bindings ≡ bs = ap (λ (x : Event). x.bindings) is in
          record {
            stands = g.goes.stands;
            is = by.has ∙ e;
            number = refl;
            places = at_stay book.places g.goes.book.places v.bound (places_bound ev.bindings) g.places_stay g.bound;
            settled = λ i t h. let h' : find bs (made i) ≡ Some t = ap (λ (x : Bindings). find x (made i)) (sym same) ∙ h in
                ap (λ (x : Event). find x.after.bound (made i)) is
                ∙ (settled_there (suc s.entries) s.bound bs i t new (low bs same i t h') h'
                ∙ ap (λ (n : ℕ). Some (rename (settle n) t)) (sym number));
            once = λ i t f a b u u' h l. bound_once bs s.bound i u u' a b new (ap (λ (x : Bindings). slice_get x a) (sym same) ∙ h)
                (ap (λ (x : Bindings). slice_get x b) (sym same) ∙ l);
            woken_at = g.woken;
          }
      go (waits_on rs) d is =
          let wrong : Commit q k ≡ Hang y.name = sym e ∙ (sym by.has ∙ ap (λ (x : Event). x.entry) is) in cc
      go (decides_fail rs) d is =
          let wrong : Commit q k ≡ Fail y.name = sym e ∙ (sym by.has ∙ ap (λ (x : Event). x.entry) is) in cc

  pub hang_there : (q : Proc) → v.entry ≡ Hang q → IsHangThere w' g.goes.book ev ev.after.entries q v.waits
  hang_there q e = record {
    stands = g.goes.stands;
    is = by.has ∙ e;
    number = refl;
    places = record {
      all = λ j l. let a = g.waits.all j l in (a.0, g.places_stay j a.0 a.1, a.2);
      only = λ a i. let j = g.waits.only a i in (j.0, g.places_stay j.0 a j.1, j.2);
      count = g.waits.count;
    };
    by_age = go by.decision by.is;
  }
    where
      go : (d : Decision) → ev ≡ event_of m s y d → WaitsByAge ev
      go (waits_on rs) is = (rs, ap (λ (x : Event). x.waits_for) is)
      go (commits j bs rs) is = ([], ap (λ (x : Event). x.waits_for) is)
      go (decides_fail rs) is = ([], ap (λ (x : Event). x.waits_for) is)
