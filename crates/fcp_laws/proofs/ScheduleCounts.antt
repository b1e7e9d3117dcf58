-- What a run of one worker has counted in a schedule, and the processes that went to the back of its queue.
use Rattle.std.proofs.Common.{◌≡◌, ℕ, zero, suc, ◌+◌, ◌-◌, ◌<◌, ◌≤◌, cond, List, [], ◌∷◌, ◌++◌, length, Option, Some, None, refl, sym, ap, ◌∙◌, subst, zero-add, append_assoc, append-nil, arith}
use Rattle.std.specs.Prelude.{option_map}
use Rattle.std.proofs.lemmas.List.{length_push}
use Rattle.std.proofs.lemmas.List.Sums.{sum_by-cons}
use Rattle.fcp_model.specs.declared.run.Limits.{Limits}
use Rattle.fcp_model.specs.declared.run.Act.{Act}
use Rattle.fcp_model.specs.declared.run.Act.TheVariants.{Snapshot, Suspend, Resume, Abort}
use Rattle.fcp_model.specs.declared.run.Control.{Control}
use Rattle.fcp_model.specs.Terms.{Bindings}
use Rattle.fcp_model.specs.Programs.{Program}
use Rattle.fcp_model.specs.Decisions.{Decision, commits, decides_fail, waits_on, Decides}
use Rattle.fcp_model.specs.States.{Process, State}
use Rattle.fcp_model.specs.Cells.{cells}
use Rattle.fcp_model.specs.Events.{Event, event_of}
use Rattle.fcp_model.specs.Runs.{last_state, entries_of, cells_of}
use Rattle.fcp_model.specs.Bounds.{is_commit, is_move, commits_in, moves_in, one, act_entry}
use Rattle.fcp_model.specs.OneWorker.{Schedule, Ruling, ends, passes, makes, after_event, ruling, followed, rulings, begin, Leads}
use Rattle.fcp_model.specs.LawfulStates.{Each}
use Rattle.fcp_laws.proofs.ProcessNames.{each_append}
use Rattle.fcp_laws.proofs.Rulings.{IsFront, Holds, event_of_control, after_control, by_rule}

-- what a ruling makes of a fact R of a schedule and of where the rulings after it lead
abbrev pub LeadsOn : (Schedule → List Event × Schedule → Type 0) → Schedule → Ruling → Type 0
LeadsOn R at ends = Unit {0}
LeadsOn R at (passes to) = (x : List Event × Schedule) → R to x → R at x
LeadsOn R at (makes ev to) = (x : List Event × Schedule) → R to x → R at (ev ∷ x.0, x.1)

-- a fact of rulings one after another
module _ (n : ℕ) (m : Program) (limits : Limits) (R : Schedule → List Event × Schedule → Type 0)
    (stays : (at : Schedule) → R at ([], at)) (on : (at : Schedule) → Holds n m limits at (LeadsOn R at)) where
  stayed : (at : Schedule) (x : List Event × Schedule) → Some ([], at) ≡ Some x → R at x
  stayed at x e = let first : List Event × Schedule = ([], at) in let same : first ≡ x = cc in subst (R at) same (stays at)

  pub by_rulings : (i : ℕ) (at : Schedule) (x : List Event × Schedule) → rulings i n m limits at ≡ Some x → R at x
  by_rulings zero at x e = stayed at x e
  by_rulings (suc i) at x e = go (ruling n m limits at) (by_rule n m limits at (LeadsOn R at) (on at)) (λ to y. by_rulings i to y) e
    where
      go : (o : Option Ruling) → ((r : Ruling) → o ≡ Some r → LeadsOn R at r)
          → ((to : Schedule) (y : List Event × Schedule) → rulings i n m limits to ≡ Some y → R to y)
          → followed (rulings i n m limits) at o ≡ Some x → R at x
      go None h rec f = cc
      go (Some ends) h rec f = stayed at x f
      go (Some (passes to)) h rec f = h (passes to) refl x (rec to x f)
      go (Some (makes ev to)) h rec f = made (rulings i n m limits to) refl f
        where
          made : (o : Option (List Event × Schedule)) → rulings i n m limits to ≡ o
              → option_map {U = List Event × Schedule} (λ (r : List Event × Schedule). (ev ∷ r.0, r.1)) o ≡ Some x → R at x
          made None u k = cc
          made (Some y) u k =
              let whole : List Event × Schedule = (ev ∷ y.0, y.1) in
              let same : whole ≡ x = cc in
              subst (R at) same (h (makes ev to) refl y (rec to y u))

-- from one schedule to another just the events between them were counted
pub record IsCounted (from : Schedule) (evs : List Event) (at : Schedule) : Type 0 where
  pub state : at.state ≡ last_state from.state evs
  pub commits : at.commits ≡ from.commits + commits_in (entries_of evs)
  pub moves : at.moves ≡ from.moves + moves_in (entries_of evs)
  pub cells : at.cells ≡ from.cells + cells_of evs

-- the move of a process is a move, and a control is none
event_is_move : (m : Program) (s : State) (p : Process) (d : Decision) → one (is_move (event_of m s p d).entry) ≡ 1
event_is_move m s p (commits k bs rs) = refl
event_is_move m s p (decides_fail rs) = refl
event_is_move m s p (waits_on rs) = refl

control_moves_not : (a : Act) → one (is_move (act_entry a)) ≡ 0
control_moves_not Snapshot = refl
control_moves_not Suspend = refl
control_moves_not Resume = refl
control_moves_not Abort = refl

control_commits_not : (a : Act) → one (is_commit (act_entry a)) ≡ 0
control_commits_not Snapshot = refl
control_commits_not Suspend = refl
control_commits_not Resume = refl
control_commits_not Abort = refl

nothing_counted : (at : Schedule) → IsCounted at [] at
nothing_counted at = record { state = refl; commits = omega arith; moves = omega arith; cells = omega arith }

-- one event, and then more
event_counted : (from : Schedule) (ev : Event) (to : Schedule) → to.state ≡ ev.after
    → to.commits ≡ from.commits + one (is_commit ev.entry) → to.moves ≡ from.moves + one (is_move ev.entry)
    → to.cells ≡ from.cells + ev.cells →
    (x : List Event × Schedule) → IsCounted to x.0 x.1 → IsCounted from (ev ∷ x.0) x.1
event_counted from ev to s c v l x h = record {
  state = h.state ∙ ap (λ t. last_state t x.0) s;
  commits = omega (arith, h.commits, c, sum_by-cons (λ e. cond (is_commit e) 1 0) ev.entry (entries_of x.0));
  moves = omega (arith, h.moves, v, sum_by-cons (λ e. cond (is_move e) 1 0) ev.entry (entries_of x.0));
  cells = omega (arith, h.cells, l, sum_by-cons (λ (e : Event). e.cells) ev x.0);
}

abbrev CountsOn : Schedule → List Event × Schedule → Type 0
CountsOn from x = IsCounted from x.0 x.1

counts_on : (n : ℕ) (m : Program) (limits : Limits) (at : Schedule) → Holds n m limits at (LeadsOn CountsOn at)
counts_on n m limits at = record {
  at_end = tt;
  at_control = λ o c cs i j. event_counted at (event_of_control at c) (after_control at c cs) refl
      (let none = control_commits_not c.act in omega arith) (let none = control_moves_not c.act in omega arith) (omega arith);
  at_pass = λ p rest d f i x h. record { state = h.state; commits = h.commits; moves = h.moves; cells = h.cells };
  at_move = λ p rest d f i. event_counted at (event_of m at.state p d) (after_event at rest (event_of m at.state p d)) refl
      refl (let once = event_is_move m at.state p d in omega arith) refl;
}

-- what was counted at the first schedule, and what the events hold
pub leads_counts_from : (m : Program) (limits : Limits) (from : Schedule) (evs : List Event) (at : Schedule) → Leads m limits from evs at
    → IsCounted from evs at
leads_counts_from m limits from evs at l =
    by_rulings l.steps m limits CountsOn nothing_counted (counts_on l.steps m limits) l.count from (evs, at) l.followed

-- the schedule to which a run comes has the state after its events, with the commits, the moves and the cells of its events
pub record HasCounted (s : State) (evs : List Event) (at : Schedule) : Type 0 where
  pub state : at.state ≡ last_state s evs
  pub commits : at.commits ≡ commits_in (entries_of evs)
  pub moves : at.moves ≡ moves_in (entries_of evs)
  pub cells : at.cells ≡ cells_of evs

pub leads_counts : (m : Program) (limits : Limits) (s : State) (cs : List Control) (evs : List Event) (at : Schedule)
    → Leads m limits (begin s cs) evs at → HasCounted s evs at
leads_counts m limits s cs evs at l =
    let h = leads_counts_from m limits (begin s cs) evs at l in
    record { state = h.state; commits = h.commits ∙ zero-add _; moves = h.moves ∙ zero-add _; cells = h.cells ∙ zero-add _ }

-- the entry that is decided for a process has more cells than are left
abbrev pub IsLarge : Program → Bindings → ℕ → Process → Type 0
IsLarge m bound left p = (d : Decision) × Decides m bound p.goal d × (left < cells m p.goal d)

-- the queue's last processes, as many as went to the back since the last move, are too large for the cells that are left
pub record PassedAreLarge (m : Program) (limits : Limits) (at : Schedule) : Type 0 where
  pub front : List Process
  pub back : List Process
  pub queued : at.queue ≡ front ++ back
  pub passed : at.passed ≡ length back
  pub large : Each (IsLarge m at.state.bound (limits.cells - at.cells)) back
  pub within : at.cells ≤ limits.cells

pub begin_large : (m : Program) (limits : Limits) (s : State) (cs : List Control) → PassedAreLarge m limits (begin s cs)
begin_large m limits s cs =
    record { front = (begin s cs).queue; back = []; queued = sym (append-nil _); passed = refl; large = tt; within = omega arith }

event_cells : (m : Program) (s : State) (p : Process) (d : Decision) → (event_of m s p d).cells ≡ cells m p.goal d
event_cells m s p (commits k bs rs) = refl
event_cells m s p (decides_fail rs) = refl
event_cells m s p (waits_on rs) = refl

-- with fewer processes passed than the queue holds, the front of the queue is none of them
front_not_passed : (p : Process) (rest front back queue : List Process) → queue ≡ p ∷ rest → queue ≡ front ++ back
    → length back < length queue → (others : List Process) × (rest ≡ others ++ back)
front_not_passed p rest [] back queue e f l = absurd (omega (arith, ap length f))
front_not_passed p rest (q ∷ front) back queue e f l = let same : rest ≡ front ++ back = cc in (front, same)

pass_large : (n : ℕ) (m : Program) (limits : Limits) (at : Schedule) (p : Process) (rest : List Process) (d : Decision)
    → IsFront n m limits at p rest d → limits.cells < at.cells + (event_of m at.state p d).cells →
    PassedAreLarge m limits at → PassedAreLarge m limits (record at { queue = rest ++ p ∷ []; passed = at.passed + 1 })
pass_large n m limits at p rest d f i h =
    let others = front_not_passed p rest h.front h.back at.queue f.queued h.queued (rw (← h.passed) f.passed) in
    record {
      front = others.0;
      back = h.back ++ p ∷ [];
      queued = ap (λ ps. ps ++ p ∷ []) others.1 ∙ append_assoc others.0 h.back (p ∷ []);
      passed = ap (λ k. k + 1) h.passed ∙ sym (length_push h.back p);
      large = each_append (IsLarge m at.state.bound (limits.cells - at.cells)) h.back (p ∷ []) h.large
          ((d, (n, f.decided), (let e = event_cells m at.state p d in let w = h.within in omega arith)), tt);
      within = h.within;
    }

abbrev LargeOn : Program → Limits → Schedule → List Event × Schedule → Type 0
LargeOn m limits from x = PassedAreLarge m limits from → PassedAreLarge m limits x.1

large_on : (n : ℕ) (m : Program) (limits : Limits) (at : Schedule) → Holds n m limits at (LeadsOn (LargeOn m limits) at)
large_on n m limits at = record {
  at_end = tt;
  at_control = λ o c cs i j x rec h. rec (record {
    front = h.front;
    back = h.back;
    queued = h.queued;
    passed = h.passed;
    large = h.large;
    within = h.within;
  });
  at_pass = λ p rest d f i x rec h. rec (pass_large n m limits at p rest d f i h);
  at_move = λ p rest d f i x rec h. rec (record {
    front = (after_event at rest (event_of m at.state p d)).queue;
    back = [];
    queued = sym
        (append-nil _);
    passed = refl;
    large = tt;
    within = i;
  });
}

-- the processes that went to the back are too large wherever a run comes to
pub leads_large : (m : Program) (limits : Limits) (from : Schedule) (evs : List Event) (at : Schedule) → PassedAreLarge m limits from
    → Leads m limits from evs at → PassedAreLarge m limits at
leads_large m limits from evs at h l =
    by_rulings l.steps m limits (LargeOn m limits) (λ to i. i) (large_on l.steps m limits) l.count from (evs, at) l.followed h
