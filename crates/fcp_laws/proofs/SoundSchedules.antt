-- Every schedule that a run comes to is sound.
use Rattle.std.proofs.Common.{◌≡◌, ℕ, zero, suc, ◌<◌, ◌≤◌, Bool, true, false, cond, List, [], ◌∷◌, ◌++◌, map, Option, Some, None, refl, sym, ap, ◌∙◌, subst, arith, append-nil}
use Rattle.std.specs.Prelude.{filter, option_map, ◌||◌}
use Rattle.std.specs.List.{list_any}
use Rattle.std.proofs.lemmas.Bool.{true≢false}
use Rattle.fcp_model.specs.declared.run.Place.{Place}
use Rattle.fcp_model.specs.declared.run.Proc.{Proc}
use Rattle.fcp_model.specs.declared.run.Limits.{Limits}
use Rattle.fcp_model.specs.declared.run.Control.{Control}
use Rattle.fcp_model.specs.Places.{is_same_process, Variable, places_among}
use Rattle.fcp_model.specs.Cells.{clause_used}
use Rattle.fcp_model.specs.Terms.{Bindings}
use Rattle.fcp_model.specs.Programs.{Goal, Program}
use Rattle.fcp_model.specs.Decisions.{Decision, commits, decides_fail, waits_on}
use Rattle.fcp_model.specs.States.{Status, ready, waiting, finished, Process, State, is_open, is_ready, process_named, start}
use Rattle.fcp_model.specs.Events.{Event, is_woken, made_ready, wake, with_status, children_of, event_of}
use Rattle.fcp_model.specs.OneWorker.{Schedule, Ruling, ends, passes, makes, is_over, after_event, ruling, followed, rulings, begin, Leads}
use Rattle.fcp_laws.specs.WaitingProcesses.{is_waiting}
use Rattle.fcp_model.specs.LawfulStates.{Each, NamesRise, IsOrdered}
use Rattle.fcp_laws.specs.Schedules.{AreApart, IsSoundSchedule}
use Rattle.fcp_laws.proofs.ProcessNames.{same_process, head_found, head_passed, each_map, rise_map, each_so, each_append, kept_if, named_filter, apart_of_rise}
use Rattle.fcp_laws.proofs.WaitingProcesses.{with_status-name, wake-name}
use Rattle.fcp_laws.proofs.Rulings.{after_control, by_rule}
use Rattle.fcp_laws.proofs.QueueMoves.{apart_filter, each_itself, turned, apart_turned, children_entry, children_ready, children_rise, moved_ready, moved_queued, moved_apart, moved_rise}

pub is_ready-true : (st : Status) → is_ready st ≡ true → st ≡ ready
is_ready-true ready e = refl
is_ready-true (waiting ps) e = absurd (true≢false (sym e))
is_ready-true finished e = absurd (true≢false (sym e))

-- where a run begins
pub start_ordered : (vars : ℕ) (gs : List (Goal ℕ)) → IsOrdered (start vars gs)
start_ordered vars gs = record { rise = children_rise 0 1 _; within = children_entry (λ n. n ≤ 0) 0 1 _ (omega arith) }

pub begin_sound : (s : State) (cs : List Control) → IsOrdered s → IsSoundSchedule (begin s cs)
begin_sound s cs o = record {
  ordered = o;
  apart = apart_filter (λ p. is_ready p.status) s.processes (apart_of_rise s.processes o.rise);
  are_ready = λ n p e. kept n p (process_named s.processes n) refl (sym (by_name n) ∙ e);
  are_queued = λ i n p e r. by_name n ∙ (ap (kept_if (λ q. is_ready q.status)) e ∙ ap (λ st. cond (is_ready st) (Some p) None) r);
}
  where
    by_name : (n : Proc)
        → process_named (filter (λ p. is_ready p.status) s.processes) n ≡ kept_if (λ p. is_ready p.status) (process_named s.processes n)
    by_name n = named_filter (λ p. is_ready p.status) s.processes (apart_of_rise s.processes o.rise) n

    kept : (n : Proc) (p : Process) (x : Option Process) → process_named s.processes n ≡ x → kept_if (λ q. is_ready q.status) x ≡ Some p
        → (process_named s.processes n ≡ Some p) × (p.status ≡ ready)
    kept n p None e i = absurd cc
    kept n p (Some q) e i = go (is_ready q.status) refl i
      where
        go : (b : Bool) → is_ready q.status ≡ b → cond b (Some q) None ≡ Some p
            → (process_named s.processes n ≡ Some p) × (p.status ≡ ready)
        go true f j = let same : q ≡ p = cc in (e ∙ j, subst (λ (x : Process). x.status ≡ ready) same (is_ready-true q.status f))
        go false f j = absurd cc

-- an entry more, the same processes and queue
pub control_sound : (at : Schedule) (c : Control) (cs : List Control) → IsSoundSchedule at → is_over at.state.mode ≡ false
    → IsSoundSchedule (after_control at c cs)
control_sound at c cs h o = record {
  ordered = record {
    rise = h.ordered.rise;
    within = each_so (λ p. p.name.entry ≤ at.state.entries)
        (λ p. p.name.entry ≤ suc at.state.entries) (λ p i. omega arith) at.state.processes h.ordered.within;
  };
  apart = h.apart;
  are_ready = h.are_ready;
  are_queued = λ i. h.are_queued o;
}

-- what a sound schedule says of its front
module _ (at : Schedule) (h : IsSoundSchedule at) (p : Process) (rest : List Process) (queued : at.queue ≡ p ∷ rest) where
  front_apart : AreApart (p ∷ rest)
  front_apart = subst AreApart queued h.apart

  front_named : (n : Proc) (q : Process) → process_named (p ∷ rest) n ≡ Some q
      → (process_named at.state.processes n ≡ Some q) × (q.status ≡ ready)
  front_named n q e = h.are_ready n q (ap (λ qs. process_named qs n) queued ∙ e)

  front_all : is_over at.state.mode ≡ false → (n : Proc) (q : Process) → process_named at.state.processes n ≡ Some q → q.status ≡ ready
      → process_named (p ∷ rest) n ≡ Some q
  front_all o n q e s = sym (ap (λ qs. process_named qs n) queued) ∙ h.are_queued o n q e s

  -- the front is the process of its name in the state, and Ready
  pub front_is_ready : (process_named at.state.processes p.name ≡ Some p) × (p.status ≡ ready)
  front_is_ready = front_named p.name p (head_found p rest)

  pub pass_sound : is_over at.state.mode ≡ false → (passed : ℕ) → IsSoundSchedule (record at { queue = rest ++ p ∷ []; passed = passed })
  pass_sound o passed = record {
    ordered = h.ordered;
    apart = apart_turned p rest front_apart;
    are_ready = λ n q e. front_named n q (sym (turned p rest front_apart n) ∙ e);
    are_queued = λ i n q e s. turned p rest front_apart n ∙ front_all o n q e s;
  }

-- a fail
fail_sound : (m : Program) (at : Schedule) (p : Process) (rest : List Process) (rs : List Variable) → IsSoundSchedule at
    → at.queue ≡ p ∷ rest → IsSoundSchedule (after_event at rest (event_of m at.state p (decides_fail rs)))
fail_sound m at p rest rs h queued = record {
  ordered = record {
    rise = h.ordered.rise;
    within = each_so (λ q. q.name.entry ≤ at.state.entries)
        (λ q. q.name.entry ≤ suc at.state.entries) (λ q i. omega arith) at.state.processes h.ordered.within;
  };
  apart = subst AreApart (sym same) (front_apart at h p rest queued).1;
  are_ready = λ n q e. rest_named n q (sym (ap (λ qs. process_named qs n) same) ∙ e);
  are_queued = λ i. absurd (true≢false i);
}
  where
    same : rest ++ [] ++ [] ≡ rest
    same = append-nil (rest ++ []) ∙ append-nil rest

    rest_named : (n : Proc) (q : Process) → process_named rest n ≡ Some q
        → (process_named at.state.processes n ≡ Some q) × (q.status ≡ ready)
    rest_named n q e = go (is_same_process p.name n) refl
      where
        go : (b : Bool) → is_same_process p.name n ≡ b → (process_named at.state.processes n ≡ Some q) × (q.status ≡ ready)
        go true i =
            absurd
            (let gone : process_named rest n ≡ None = subst (λ x. process_named rest x ≡ None) (same_process p.name n i)
            (front_apart at h p rest queued).0 in cc)
        go false i = front_named at h p rest queued n q (head_passed p rest n i ∙ e)

none_kept : (ps : List Process) → filter (λ (q : Process). false) ps ≡ []
none_kept [] = refl
none_kept (p ∷ ps) = none_kept ps

-- a hang
hang_sound : (m : Program) (at : Schedule) (p : Process) (rest : List Process) (rs : List Variable) → IsSoundSchedule at
    → at.queue ≡ p ∷ rest → at.state.mode ≡ is_open → IsSoundSchedule (after_event at rest (event_of m at.state p (waits_on rs)))
hang_sound m at p rest rs h queued opened = record {
  ordered = record {
    rise = rise_map f keeps at.state.processes h.ordered.rise;
    within = each_map f keeps (λ n. n.entry ≤ suc at.state.entries) at.state.processes
        (each_so (λ q. q.name.entry ≤ at.state.entries) (λ q. q.name.entry ≤ suc at.state.entries)
        (λ q i. omega arith) at.state.processes h.ordered.within);
  };
  apart = subst AreApart same_queue
      (moved_apart e p rest at.state.processes f (λ q. false) [] keeps at_front elsewhere
      (λ q s. refl) h.ordered.rise h.ordered.within tt tt tt (front_apart at h p rest queued) (front_named at h p rest queued)
      (front_all at h p rest queued not_over));
  are_ready = λ n q i. let moved =
      moved_ready e p rest at.state.processes f (λ q'. false) [] keeps at_front elsewhere
      (λ q' s. refl) h.ordered.rise h.ordered.within tt tt tt (front_apart at h p rest queued) (front_named at h p rest queued)
      (front_all at h p rest queued not_over) n q
      (ap (λ qs. process_named qs n) same_queue ∙ i) in
      (sym (ap (λ qs. process_named qs n) same_processes) ∙ moved.0, moved.1);
  are_queued = λ o n q i s. sym (ap (λ qs. process_named qs n) same_queue)
      ∙ moved_queued e p rest at.state.processes f (λ q'. false) [] keeps at_front elsewhere
      (λ q' s'. refl) h.ordered.rise h.ordered.within tt tt tt (front_apart at h p rest queued) (front_named at h p rest queued)
      (front_all at h p rest queued not_over) n q
      (ap (λ qs. process_named qs n) same_processes ∙ i) s;
}
  where
    e : ℕ
    e = at.state.entries

    vs : List Place
    vs = places_among rs

    f : Process → Process
    f q = with_status p.name (waiting vs) q

    not_over : is_over at.state.mode ≡ false
    not_over = ap is_over opened

    keeps : (q : Process) → (f q).name ≡ q.name
    keeps q = with_status-name p.name (waiting vs) q

    at_front : (q : Process) → is_same_process q.name p.name ≡ true → (f q).status ≡ ready → ⊥
    at_front q i s = let w : (f q).status ≡ waiting vs = ap (λ b. (cond b (record q { status = waiting vs }) q).status) i in cc

    elsewhere : (q : Process) → is_same_process q.name p.name ≡ false → f q ≡ q
    elsewhere q i = ap (λ b. cond b (record q { status = waiting vs }) q) i

    same_queue : rest ++ [] ++ map made_ready (filter (λ q. false) at.state.processes) ≡ rest ++ [] ++ []
    same_queue = ap (λ qs. rest ++ [] ++ map made_ready qs) (none_kept at.state.processes)

    same_processes : map f at.state.processes ++ [] ≡ map f at.state.processes
    same_processes = append-nil (map f at.state.processes)

-- a commit
commit_sound : (m : Program) (at : Schedule) (p : Process) (rest : List Process) (k : ℕ) (bs : Bindings) (rs : List Variable)
    → IsSoundSchedule at → at.queue ≡ p ∷ rest → at.state.mode ≡ is_open
    → IsSoundSchedule (after_event at rest (event_of m at.state p (commits k bs rs)))
commit_sound m at p rest k bs rs h queued opened = record {
  ordered = record {
    rise =
        moved_rise e p rest at.state.processes f t new keeps at_front elsewhere asleep h.ordered.rise h.ordered.within later is_new rising
        (front_apart at h p rest queued) (front_named at h p rest queued) (front_all at h p rest queued not_over);
    within = each_append (λ q. q.name.entry ≤ suc e) (map f at.state.processes) new
        (each_map f keeps (λ n. n.entry ≤ suc e) at.state.processes
        (each_so (λ q. q.name.entry ≤ e) (λ q. q.name.entry ≤ suc e) (λ q i. omega arith) at.state.processes h.ordered.within))
        (children_entry (λ n. n ≤ suc e) (suc e) 1 _ (omega arith));
  };
  apart =
      moved_apart e p rest at.state.processes f t new keeps at_front elsewhere asleep h.ordered.rise h.ordered.within later is_new rising
      (front_apart at h p rest queued) (front_named at h p rest queued) (front_all at h p rest queued not_over);
  are_ready =
      moved_ready e p rest at.state.processes f t new keeps at_front elsewhere asleep h.ordered.rise h.ordered.within later is_new rising
      (front_apart at h p rest queued) (front_named at h p rest queued) (front_all at h p rest queued not_over);
  are_queued = λ o. moved_queued e p rest at.state.processes f t new keeps at_front elsewhere asleep h.ordered.rise h.ordered.within
      later is_new rising (front_apart at h p rest queued) (front_named at h p rest queued) (front_all at h p rest queued not_over);
}
  where
    e : ℕ
    e = at.state.entries

    f : Process → Process
    f q = wake bs (with_status p.name finished q)

    t : Process → Bool
    t q = is_woken bs q.status

    new : List Process
    new = children_of (suc e) (clause_used m p.goal k)

    not_over : is_over at.state.mode ≡ false
    not_over = ap is_over opened

    keeps : (q : Process) → (f q).name ≡ q.name
    keeps q = wake-name bs (with_status p.name finished q) ∙ with_status-name p.name finished q

    at_front : (q : Process) → is_same_process q.name p.name ≡ true → (f q).status ≡ ready → ⊥
    at_front q i s = let w : (f q).status ≡ finished = ap (λ b. (wake bs (cond b (record q { status = finished }) q)).status) i in cc

    elsewhere : (q : Process) → is_same_process q.name p.name ≡ false → f q ≡ cond (t q) (made_ready q) q
    elsewhere q i = ap (λ b. wake bs (cond b (record q { status = finished }) q)) i

    asleep : (q : Process) → q.status ≡ ready → t q ≡ false
    asleep q s = ap (is_woken bs) s

    later : Each (λ q. e < q.name.entry) new
    later = children_entry (λ n. e < n) (suc e) 1 _ (omega arith)

    is_new : Each (λ q. q.status ≡ ready) new
    is_new = children_ready (suc e) 1 _

    rising : NamesRise new
    rising = children_rise (suc e) 1 _

pub move_sound : (m : Program) (at : Schedule) (p : Process) (rest : List Process) (d : Decision) → IsSoundSchedule at
    → at.queue ≡ p ∷ rest → at.state.mode ≡ is_open → IsSoundSchedule (after_event at rest (event_of m at.state p d))
move_sound m at p rest (commits k bs rs) h q o = commit_sound m at p rest k bs rs h q o
move_sound m at p rest (decides_fail rs) h q o = fail_sound m at p rest rs h q
move_sound m at p rest (waits_on rs) h q o = hang_sound m at p rest rs h q o

-- each ruling leads from a sound schedule to one
abbrev pub SoundAfter : Ruling → Type 0
SoundAfter ends = Unit {0}
SoundAfter (passes to) = IsSoundSchedule to
SoundAfter (makes ev to) = IsSoundSchedule to

pub ruling_sound : (n : ℕ) (m : Program) (limits : Limits) (at : Schedule) (r : Ruling) → IsSoundSchedule at
    → ruling n m limits at ≡ Some r → SoundAfter r
ruling_sound n m limits at r h e =
    by_rule n m limits at SoundAfter
    (record {
      at_end = tt;
      at_control = λ o c cs i j. control_sound at c cs h o;
      at_pass = λ p rest d f i. pass_sound at h p rest f.queued (ap is_over f.is_running) _;
      at_move = λ p rest d f i. move_sound m at p rest d h f.queued f.is_running;
    }) r e

abbrev stand_of : Schedule → Option (List Event × Schedule) → Schedule
stand_of at None = at
stand_of at (Some r) = r.1

pub rulings_sound : (i n : ℕ) (m : Program) (limits : Limits) (at : Schedule) (evs : List Event) (to : Schedule) → IsSoundSchedule at
    → rulings i n m limits at ≡ Some (evs, to) → IsSoundSchedule to
rulings_sound zero n m limits at evs to h e = subst IsSoundSchedule (ap (stand_of at) e) h
rulings_sound (suc i) n m limits at evs to h e = go (ruling n m limits at) refl (λ x evs'. rulings_sound i n m limits x evs' to) e
  where
    go : (o : Option Ruling) → ruling n m limits at ≡ o
        → ((x : Schedule) (evs' : List Event) → IsSoundSchedule x → rulings i n m limits x ≡ Some (evs', to) → IsSoundSchedule to)
        → followed (rulings i n m limits) at o ≡ Some (evs, to) → IsSoundSchedule to
    go None f rec j = absurd cc
    go (Some ends) f rec j = subst IsSoundSchedule (ap (stand_of at) j) h
    go (Some (passes x)) f rec j = rec x evs (ruling_sound n m limits at (passes x) h f) j
    go (Some (makes ev x)) f rec j = made (rulings i n m limits x) refl j
      where
        made : (o : Option (List Event × Schedule)) → rulings i n m limits x ≡ o
            → option_map {U = List Event × Schedule} (λ (r : List Event × Schedule). (ev ∷ r.0, r.1)) o ≡ Some (evs, to)
            → IsSoundSchedule to
        made None u k = absurd cc
        made (Some r) u k =
            let there : r.1 ≡ to = ap (stand_of at) k in
            rec x r.0 (ruling_sound n m limits at (makes ev x) h f) (u ∙ ap (λ y. Some (r.0, y)) there)

-- every schedule that a run comes to is sound
pub leads_sound : (m : Program) (limits : Limits) (from : Schedule) (evs : List Event) (to : Schedule) → IsSoundSchedule from
    → Leads m limits from evs to → IsSoundSchedule to
leads_sound m limits from evs to h l = rulings_sound l.count l.steps m limits from evs to h l.followed

-- with no process left in the queue no process of the state is Ready
pub none_ready : (at : Schedule) → IsSoundSchedule at → is_over at.state.mode ≡ false → at.queue ≡ []
    → list_any (λ p. is_ready p.status) at.state.processes ≡ false
none_ready at h o q = none at.state.processes (each_itself at.state.processes (apart_of_rise at.state.processes h.ordered.rise))
  where
    status_not : (p : Process) → process_named at.state.processes p.name ≡ Some p → (b : Bool) → is_ready p.status ≡ b → b ≡ false
    status_not p e true f =
        absurd
        (let there : process_named [] p.name ≡ Some p = sym (ap (λ qs. process_named qs p.name) q)
        ∙ h.are_queued o p.name p e (is_ready-true p.status f) in cc)
    status_not p e false f = refl

    none : (ps : List Process) → Each (λ p. process_named at.state.processes p.name ≡ Some p) ps
        → list_any (λ p. is_ready p.status) ps ≡ false
    none [] e = refl
    none (p ∷ ps) e = ap (λ b. b || list_any (λ x. is_ready x.status) ps) (status_not p e.0 (is_ready p.status) refl) ∙ none ps e.1

-- a waiting process is not in the queue
pub waiting_not_queued : (at : Schedule) → IsSoundSchedule at → (n : Proc) (p : Process) → process_named at.state.processes n ≡ Some p
    → is_waiting p.status ≡ true → process_named at.queue n ≡ None
waiting_not_queued at h n p e w = go (process_named at.queue n) refl
  where
    go : (o : Option Process) → process_named at.queue n ≡ o → o ≡ None
    go None f = refl
    go (Some q) f =
        let old = h.are_ready n q f in
        let there = old.0 in
        let same : q ≡ p = cc in
        absurd (true≢false (sym w ∙ (ap (λ (x : Process). is_waiting x.status) (sym same) ∙ ap is_waiting old.1)))
