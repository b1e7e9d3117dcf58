-- Logs and runs of one worker are determined: more steps change no answer.
use Rattle.std.proofs.Common.{◌≡◌, ℕ, zero, suc, ◌+◌, Bool, true, false, cond, List, [], ◌∷◌, length, leb, Option, Some, None, refl, sym, ap, ◌∙◌, subst, arith}
use Rattle.std.specs.Prelude.{option_map, option_and_then, ◌&&◌, ◌||◌}
use Rattle.fcp_model.specs.declared.run.Limits.{Limits}
use Rattle.fcp_model.specs.declared.run.Control.{Control}
use Rattle.fcp_model.specs.declared.run.Entry.{Entry}
use Rattle.fcp_model.specs.declared.run.Entry.TheVariants.{Commit, Hang, Fail, Snapshot, Suspend, Resume, Abort}
use Rattle.fcp_model.specs.Programs.{Program}
use Rattle.fcp_model.specs.States.{Process, State, is_running, is_suspended, is_ready, process_named}
use Rattle.fcp_model.specs.Events.{Event, event_of}
use Rattle.fcp_model.specs.Runs.{move_on, agreed, next, replay, IsRun}
use Rattle.fcp_model.specs.OneWorker.{Schedule, Ruling, ends, passes, makes, is_over, is_due, control_ruling, front_ruling, queue_ruling, ruling, followed, rulings, begin, IsOneWorkerRun}
use Rattle.fcp_model.proofs.MoreSteps.{Refines, Grows, at_least}
use Rattle.fcp_model.proofs.OneDecision.{option_map_more, decide_more}

-- the events and the schedule of an answer
abbrev pub first_part : List Event → Option (List Event × Schedule) → List Event
first_part evs None = evs
first_part evs (Some r) = r.0

abbrev pub second : Schedule → Option (List Event × Schedule) → Schedule
second at None = at
second at (Some r) = r.1

-- two answers by numbers of steps are one
pub once : {A : Type 0} (f : ℕ → Option A) → Grows f → (n n' : ℕ) (x y : A) → f n ≡ Some x → f n' ≡ Some y → x ≡ y
once f g n n' x y e e' =
    let a : f (n + n') ≡ Some x = at_least f g n (n + n') (omega arith) x e in
    let b : f (n + n') ≡ Some y = at_least f g n' (n + n') (omega arith) y e' in
    cc

-- logs
agreed_more : (e : Entry) (o o' : Option Event) → Refines o o' → Refines (agreed e o) (agreed e o')
agreed_more e None o' h = λ x i. cc
agreed_more e (Some ev) o' h = λ x i. rw (h ev refl) i

if_more : {A : Type 0} (b : Bool) (o o' : Option A) → Refines o o' → Refines (cond b o None) (cond b o' None)
if_more true o o' h = h
if_more false o o' h = λ x e. e

move_more : (n : ℕ) (m : Program) (s : State) (o : Option Process) → Refines (move_on n m s o) (move_on (suc n) m s o)
move_more n m s None = λ x e. e
move_more n m s (Some p) =
    if_more (is_running s.mode && is_ready p.status) _ _ (option_map_more (event_of m s p) _ _ (decide_more m s.bound p.goal n))

next_more : (m : Program) (s : State) (e : Entry) → Grows (λ n. next n m s e)
next_more m s (Commit p k) n = agreed_more (Commit p k) _ _ (move_more n m s (process_named s.processes p))
next_more m s (Hang p) n = agreed_more (Hang p) _ _ (move_more n m s (process_named s.processes p))
next_more m s (Fail p) n = agreed_more (Fail p) _ _ (move_more n m s (process_named s.processes p))
next_more m s Snapshot n = λ x e. e
next_more m s Suspend n = λ x e. e
next_more m s Resume n = λ x e. e
next_more m s Abort n = λ x e. e

then_more : {A B : Type 0} (f g : A → Option B) → ((x : A) → Refines (f x) (g x)) → (o o' : Option A) → Refines o o'
    → Refines (option_and_then f o) (option_and_then g o')
then_more f g h None o' i = λ x e. cc
then_more f g h (Some a) o' i = λ x e. rw (i a refl) (h a x e)

pub replay_more : (m : Program) (es : List Entry) (s : State) → Grows (λ n. replay n m s es)
replay_more m [] s n = λ x e. e
replay_more m (e ∷ es) s n =
    then_more _ _ (λ ev. option_map_more (λ evs. ev ∷ evs) _ _ (replay_more m es ev.after n)) _ _ (next_more m s e n)

pub one_history : (m : Program) (s : State) (log : List Entry) (evs evs' : List Event) → IsRun m s log evs → IsRun m s log evs' → evs ≡ evs'
one_history m s log evs evs' (n, e) (n', e') = once (λ j. replay j m s log) (replay_more m log s) n n' evs evs' e e'

-- rulings
choice_more : {A : Type 0} (b : Bool) (x o o' : Option A) → Refines o o'
    → Refines (elim b [ true ↦ x | _ ↦ o ]) (elim b [ true ↦ x | _ ↦ o' ])
choice_more true x o o' h = λ y e. e
choice_more false x o o' h = h

module _ (m : Program) (limits : Limits) where
  queue_more : (n : ℕ) (at : Schedule) (q : List Process) → Refines (queue_ruling n m limits at q) (queue_ruling (suc n) m limits at q)
  queue_more n at [] = λ x e. e
  queue_more n at (p ∷ rest) =
      choice_more (leb limits.commits at.commits || leb limits.moves at.moves || leb (length at.queue) at.passed) (Some ends) _ _
      (option_map_more (λ d. front_ruling limits at p rest (event_of m at.state p d)) _ _ (decide_more m at.state.bound p.goal n))

  pub ruling_more : (at : Schedule) → Grows (λ n. ruling n m limits at)
  ruling_more at n =
      choice_more (is_over at.state.mode) (Some ends) _ _
      (choice_more (is_due at.controls at.moves) (Some (control_ruling at at.controls)) _ _
      (choice_more (is_suspended at.state.mode) (Some ends) _ _ (queue_more n at at.queue)))

  followed_more : (f g : Schedule → Option (List Event × Schedule)) → ((x : Schedule) → Refines (f x) (g x))
      → (at : Schedule) (o o' : Option Ruling) → Refines o o' → Refines (followed f at o) (followed g at o')
  followed_more f g h at None o' i = λ x e. cc
  followed_more f g h at (Some ends) o' i = λ x e. rw (i ends refl) e
  followed_more f g h at (Some (passes to)) o' i = λ x e. rw (i (passes to) refl) (h to x e)
  followed_more f g h at (Some (makes ev to)) o' i =
      λ x e. rw (i (makes ev to) refl) (option_map_more (λ r. (ev ∷ r.0, r.1)) _ _ (h to) x e)

  rulings_more : (i : ℕ) (at : Schedule) → Grows (λ n. rulings i n m limits at)
  rulings_more zero at n = λ x e. e
  rulings_more (suc i) at n = followed_more _ _ (λ x. rulings_more i x n) at _ _ (ruling_more at n)

  -- a ruling more changes nothing where the run has ended
  abbrev StillAt : Schedule → Option (List Event × Schedule) → Option (List Event × Schedule) → Type 0
  StillAt to o o' = (evs : List Event) → o ≡ Some (evs, to) → o' ≡ Some (evs, to)

  made_still : (to : Schedule) (ev : Event) (o o' : Option (List Event × Schedule)) → StillAt to o o'
      → StillAt to (option_map (λ r. (ev ∷ r.0, r.1)) o) (option_map (λ r. (ev ∷ r.0, r.1)) o')
  made_still to ev None o' h evs e = absurd cc
  made_still to ev (Some r) o' h evs e =
      let there : r.1 ≡ to = ap (second to) e in
      rw (h r.0 (ap (λ (y : Schedule). Some (r.0, y)) there)) (ap (λ (y : Schedule). Some (ev ∷ r.0, y)) (sym there) ∙ e)

  still : (n : ℕ) (to : Schedule) → ruling n m limits to ≡ Some ends → (i : ℕ) (at : Schedule)
      → StillAt to (rulings i n m limits at) (rulings (suc i) n m limits at)
  still n to stop zero at = λ evs e.
      let there : at ≡ to = ap (second to) e in
      ap (followed (rulings zero n m limits) at) (subst (λ x. ruling n m limits x ≡ Some ends) (sym there) stop) ∙ e
  still n to stop (suc i) at = go (ruling n m limits at) (λ x. still n to stop i x)
    where
      go : (o : Option Ruling) → ((x : Schedule) → StillAt to (rulings i n m limits x) (rulings (suc i) n m limits x))
          → StillAt to (followed (rulings i n m limits) at o) (followed (rulings (suc i) n m limits) at o)
      go None rec evs e = absurd cc
      go (Some ends) rec evs e = e
      go (Some (passes x)) rec evs e = rec x evs e
      go (Some (makes ev x)) rec evs e = made_still to ev _ _ (rec x) evs e

  still_more : (n : ℕ) (to : Schedule) → ruling n m limits to ≡ Some ends → (j i : ℕ) (at : Schedule)
      → StillAt to (rulings i n m limits at) (rulings (j + i) n m limits at)
  still_more n to stop zero i at evs e = let z : 0 + i ≡ i = omega arith in rw z e
  still_more n to stop (suc j) i at evs e =
      let z : suc j + i ≡ suc (j + i) = omega arith in rw z (still n to stop (j + i) at evs (still_more n to stop j i at evs e))

  pub one_run : (s : State) (cs : List Control) (evs evs' : List Event) (at at' : Schedule) → IsOneWorkerRun m limits s cs evs at
      → IsOneWorkerRun m limits s cs evs' at' → (evs ≡ evs') × (at ≡ at')
  one_run s cs evs evs' at at' r r' =
      let n : ℕ = (r.leads.steps + r.steps) + (r'.leads.steps + r'.steps) in
      let go : rulings (r'.leads.count + r.leads.count) n m limits (begin s cs) ≡ Some (evs, at) =
      still_more n at (at_least (λ j. ruling j m limits at) (ruling_more at) r.steps n (omega arith) ends r.ended) r'.leads.count
      r.leads.count (begin s cs) evs
      (at_least (λ j. rulings r.leads.count j m limits (begin s cs)) (rulings_more r.leads.count (begin s cs)) r.leads.steps n
      (omega arith) (evs, at) r.leads.followed) in
      let go' : rulings (r.leads.count + r'.leads.count) n m limits (begin s cs) ≡ Some (evs', at') =
      still_more n at' (at_least (λ j. ruling j m limits at') (ruling_more at') r'.steps n (omega arith) ends r'.ended) r.leads.count
      r'.leads.count (begin s cs) evs'
      (at_least (λ j. rulings r'.leads.count j m limits (begin s cs)) (rulings_more r'.leads.count (begin s cs)) r'.leads.steps n
      (omega arith) (evs', at') r'.leads.followed) in
      let turn : r.leads.count + r'.leads.count ≡ r'.leads.count + r.leads.count = omega arith in
      let same : Some (evs, at) ≡ Some (evs', at') = sym go ∙ (ap (λ i. rulings i n m limits (begin s cs)) (sym turn) ∙ go') in
      (ap (first_part evs) same, ap (second at) same)
