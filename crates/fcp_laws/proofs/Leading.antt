-- The rulings of one worker: more steps change none, and a run may be led on by one ruling.
use Rattle.std.proofs.Common.{◌≡◌, ℕ, zero, suc, ◌+◌, ◌≤◌, Bool, true, false, List, [], ◌∷◌, ◌++◌, Option, Some, None, refl, sym, ap, ◌∙◌, subst, arith}
use Rattle.std.specs.Prelude.{option_map, nat_le, length, ◌||◌}
use Rattle.fcp_model.specs.declared.run.Limits.{Limits}
use Rattle.fcp_model.specs.Programs.{Program}
use Rattle.fcp_model.specs.States.{Process, is_suspended}
use Rattle.fcp_model.specs.Events.{Event, event_of}
use Rattle.fcp_model.specs.OneWorker.{Schedule, Ruling, ends, passes, makes, is_over, is_due, front_ruling, queue_ruling, ruling, followed, rulings, Leads}
use Rattle.fcp_model.proofs.MoreSteps.{Refines, Grows, at_least}
use Rattle.fcp_model.proofs.OneDecision.{option_map_more, decide_more}

-- the event put before the events of an answer
abbrev pub put_first : Event → List Event × Schedule → List Event × Schedule
put_first ev x = (ev ∷ x.0, x.1)

either_more : {A : Type 0} (b : Bool) (r o o' : Option A) → Refines o o'
    → Refines (elim b [ true ↦ r | _ ↦ o ]) (elim b [ true ↦ r | _ ↦ o' ])
either_more true r o o' h = λ x e. e
either_more false r o o' h = h

followed_more : (f g : Schedule → Option (List Event × Schedule)) → ((at : Schedule) → Refines (f at) (g at))
    → (at : Schedule) (o o' : Option Ruling) → Refines o o' → Refines (followed f at o) (followed g at o')
followed_more f g h at None o' k = λ x e. cc
followed_more f g h at (Some ends) o' k = λ x e. rw (k _ refl) e
followed_more f g h at (Some (passes to)) o' k = λ x e. rw (k _ refl) (h to x e)
followed_more f g h at (Some (makes ev to)) o' k = λ x e. rw (k _ refl) (option_map_more (put_first ev) _ _ (h to) x e)

-- what a ruling that does not end the run makes of the events so far
abbrev pub taken : Ruling → List Event → Schedule → List Event × Schedule
taken ends evs at = (evs, at)
taken (passes to) evs at = (evs, to)
taken (makes ev to) evs at = (evs ++ ev ∷ [], to)

abbrev pub is_going : Ruling → Bool
is_going ends = false
is_going (passes to) = true
is_going (makes ev to) = true

-- the events and the schedule of an answer
unsome : (d x : List Event × Schedule) (o : Option (List Event × Schedule)) → o ≡ Some x → elim o [ None ↦ d | Some y ↦ y ] ≡ x
unsome d x o e = ap (λ (p : Option (List Event × Schedule)). elim p [ None ↦ d | Some y ↦ y ]) e

module _ (m : Program) (limits : Limits) where
  queue_more : (at : Schedule) (q : List Process) → Grows (λ n. queue_ruling n m limits at q)
  queue_more at [] n = λ x e. e
  queue_more at (p ∷ rest) n =
      either_more (nat_le limits.commits at.commits || nat_le limits.moves at.moves || nat_le (length at.queue) at.passed) (Some ends) _ _
      (option_map_more (λ d. front_ruling limits at p rest (event_of m at.state p d)) _ _ (decide_more m at.state.bound p.goal n))

  pub ruling_more : (at : Schedule) → Grows (λ n. ruling n m limits at)
  ruling_more at n =
      either_more (is_over at.state.mode) _ _ _
      (either_more (is_due at.controls at.moves) _ _ _ (either_more (is_suspended at.state.mode) _ _ _ (queue_more at at.queue n)))

  pub rulings_more : (i n : ℕ) (at : Schedule) → Refines (rulings i n m limits at) (rulings i (suc n) m limits at)
  rulings_more zero n at = λ x e. e
  rulings_more (suc i) n at = followed_more _ _ (λ to. rulings_more i n to) at _ _ (ruling_more at n)

  pub rulings_far : (i n k : ℕ) (at : Schedule) → n ≤ k → Refines (rulings i n m limits at) (rulings i k m limits at)
  rulings_far i n k at h = at_least (λ j. rulings i j m limits at) (λ j. rulings_more i j at) n k h

  -- one ruling more
  one_more : (n i : ℕ) (from at : Schedule) (evs : List Event) (r : Ruling) → is_going r ≡ true
      → rulings i n m limits from ≡ Some (evs, at) → ruling n m limits at ≡ Some r
      → rulings (suc i) n m limits from ≡ Some (taken r evs at)
  one_more n zero from at evs r g e f =
      last r g (subst (λ (x : Schedule). ruling n m limits x ≡ Some r) (sym (ap (λ (x : List Event × Schedule). x.1) joined)) f) joined
    where
      first : List Event × Schedule
      first = ([], from)

      reached : List Event × Schedule
      reached = (evs, at)

      joined : first ≡ reached
      joined = unsome first reached (Some first) e

      last : (r : Ruling) → is_going r ≡ true → ruling n m limits from ≡ Some r → first ≡ reached
          → followed (rulings 0 n m limits) from (ruling n m limits from) ≡ Some (taken r evs at)
      last ends g f e = cc
      last (passes to) g f e = rw f (λ i. Some ((e i).0, to))
      last (makes ev to) g f e = rw f (λ i. Some ((e i).0 ++ ev ∷ [], to))
  one_more n (suc i) from at evs r g e f = go (λ from' evs' h. one_more n i from' at evs' r g h f) (ruling n m limits from) refl e
    where
      behind : (ev : Event) (from' : Schedule)
          → ((evs' : List Event) → rulings i n m limits from' ≡ Some (evs', at) → rulings (suc i) n m limits from' ≡ Some (taken r evs' at))
          → (o : Option (List Event × Schedule)) → rulings i n m limits from' ≡ o → option_map (put_first ev) o ≡ Some (evs, at)
          → (p : Option (List Event × Schedule)) → rulings (suc i) n m limits from' ≡ p → option_map (put_first ev) p
          ≡ Some (taken r evs at)
      behind ev from' rec None is h p so = cc
      behind ev from' rec (Some x) is h p so =
          let full : List Event × Schedule = (ev ∷ x.0, x.1) in
          let wanted : List Event × Schedule = (evs, at) in
          let joined : full ≡ wanted = unsome full wanted (Some full) h in
          let one : x.1 ≡ at = ap (λ (y : List Event × Schedule). y.1) joined in
          let two : ev ∷ x.0 ≡ evs = ap (λ (y : List Event × Schedule). y.0) joined in
          let three : rulings i n m limits from' ≡ Some (x.0, at) = is ∙ (λ i. Some (x.0, one i)) in
          rw (sym so ∙ rec x.0 three) (along r g two)
        where
          along : (r : Ruling) → is_going r ≡ true → ev ∷ x.0 ≡ evs
              → Some (ev ∷ (taken r x.0 at).0, (taken r x.0 at).1) ≡ Some (taken r evs at)
          along ends g e = cc
          along (passes to) g e = λ i. Some (e i, to)
          along (makes ev' to) g e = λ i. Some (e i ++ ev' ∷ [], to)

      go : ((from' : Schedule) (evs' : List Event) → rulings i n m limits from' ≡ Some (evs', at) → rulings (suc i) n m limits from'
          ≡ Some (taken r evs' at))
          → (o : Option Ruling) → ruling n m limits from ≡ o → followed (rulings i n m limits) from o ≡ Some (evs, at)
          → followed (rulings (suc i) n m limits) from (ruling n m limits from) ≡ Some (taken r evs at)
      go rec None is h = cc
      go rec (Some ends) is h =
          let nothing : List Event × Schedule = ([], from) in
          let wanted : List Event × Schedule = (evs, at) in
          let same : from ≡ at = ap (λ (y : List Event × Schedule). y.1) (unsome nothing wanted (Some nothing) h) in
          let wrong : Some ends ≡ Some r = sym is ∙ (ap (ruling n m limits) same ∙ f) in
          absurd (clash r g wrong)
        where
          clash : (r : Ruling) → is_going r ≡ true → Some ends ≡ Some r → ⊥
          clash ends g e = cc
          clash (passes to) g e = cc
          clash (makes ev to) g e = cc
      go rec (Some (passes to)) is h = rw is (rec to evs h)
      go rec (Some (makes ev to)) is h =
          rw is (behind ev to (λ evs' e. rec to evs' e) (rulings i n m limits to) refl h (rulings (suc i) n m limits to) refl)

  -- a run is led on by a ruling that does not end it
  pub led_on : (from at : Schedule) (evs : List Event) (r : Ruling) (n : ℕ) → Leads m limits from evs at → ruling n m limits at ≡ Some r
      → is_going r ≡ true → Leads m limits from (taken r evs at).0 (taken r evs at).1
  led_on from at evs r n l f g = record {
    count = suc l.count;
    steps = l.steps + n;
    followed = one_more (l.steps + n) l.count from at evs r g
        (rulings_far l.count l.steps (l.steps + n) from (omega arith) _ l.followed)
        (at_least (λ j. ruling j m limits at) (ruling_more at) n (l.steps + n) (omega arith) _ f);
  }

  pub led_nowhere : (from : Schedule) → Leads m limits from [] from
  led_nowhere from = record { count = 0; steps = 0; followed = refl }
