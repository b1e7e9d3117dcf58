-- Where the engine stands behind a commit, a hang and a pass of the front.
use Rattle.std.proofs.Common.{◌≡◌, ℕ, ◌+◌, ◌-◌, ◌<◌, ◌≤◌, Bool, false, not, List, [], ◌∷◌, ◌++◌, length, drop, sym, ap, ◌∙◌, arith}
use Rattle.std.specs.Prelude.{if◌then◌else◌}
use Rattle.fcp_model.specs.declared.run.Entry.TheVariants.{Commit, Hang}
use Rattle.fcp_model.specs.Events.{Event}
use Rattle.commit_engine.specs.declared.plain_hall.PlainHall.{PlainHall}
use Rattle.commit_engine.specs.Halls.{commits_of, moves_of}
use Rattle.commit_engine.specs.Turns.{IsCommit, IsHang}
use Rattle.run_laws.specs.Laws.{ACommitLeadsOn, AHangLeadsOn, APassLeadsOn, AnEventIsOfTheFront}
use Rattle.run_laws.specs.Running.{after_commit, after_hang, after_pass}
use Rattle.worker_crew.specs.declared.task.Task.{Task}
use Rattle.worker_crew.specs.declared.engine.Engine.{Engine}
use Rattle.worker_crew.specs.Reached.{setting, mode_of, counts_of, IsReached}
use Rattle.worker_crew.specs.Moved.{HasMoved, HasPassed}
use Rattle.worker_crew.proofs.Counting.{same_counts, stands_same, log_more, length_more, rest_same}

module _ (t : Task) (e : Engine) (m : HasMoved t e) where
  abbrev o : Engine
  o = m.old

  abbrev f : Event
  f = m.moves_front.goes.goes.event

  -- its entry is that of the move
  has_entry : AnEventIsOfTheFront → f.entry ≡ m.move.entry
  has_entry law =
      let r = m.moves_front.reached in
      (law (setting t) o.hall.words.items o.queue.items m.front (counts_of t o) r.events r.at r.book m.move _ r.stands
      m.moves_front.is_front m.moves_front.goes).has

  long : length e.hall.log.items ≡ length o.hall.log.items + 1
  long = ap length m.log ∙ length_more o.hall.log.items m.move.entry

  -- one move more was made
  moved_one : moves_of m.move.entry ≡ 1 → t.limits.moves - e.hall.quota.moves ≡ (t.limits.moves - o.hall.quota.moves) + 1
  moved_one one =
      let a = m.moves in
      let b = m.moves_front.is_front.moves in
      let c = m.moves_front.reached.stands.moves in
      omega arith

  -- no more processes are woken than wait
  pub woken_few : ACommitLeadsOn → IsCommit e.planner.entry → length e.planner.woken.items ≤ e.asleep
  woken_few law is =
      let r = m.moves_front.reached in
      let kind : m.move.entry ≡ Commit is.0 is.1 = m.tells.entry ∙ is.2 in
      let led = law (setting t) o.hall.words.items e.hall.words.items o.queue.items m.front (counts_of t o) r.events r.at r.book m.move
      is.0 is.1 r.stands m.moves_front.is_front m.moves_front.goes kind m.paid m.rest.plain.heap in
      let a = led.2 in let b = ap length m.tells.woken in let c = m.asleep in omega arith

  -- fewer processes wait than an engine counts
  pub asleep_few : e.asleep < 134217728
  asleep_few =
      let a = m.asleep in let b = m.moves_front.reached.few in let c = m.rest.plain.few in let d = long in
      omega arith

  module _ (new : Engine) (hall : new.hall ≡ e.hall) (passed : new.passed ≡ 0) (made : new.made ≡ e.made) (mode : new.mode ≡ e.mode) where
    -- the queue has the children and the woken processes
    pub commit_noted : ACommitLeadsOn → AnEventIsOfTheFront → IsCommit e.planner.entry
        → new.queue.items ≡ e.queue.items ++ e.planner.children.items ++ e.planner.woken.items
        → new.asleep ≡ e.asleep - length e.planner.woken.items → IsReached t [] new
    commit_noted law of_front is queue asleep =
        let r = m.moves_front.reached in
        let kind : m.move.entry ≡ Commit is.0 is.1 = m.tells.entry ∙ is.2 in
        let led = law (setting t) o.hall.words.items e.hall.words.items o.queue.items m.front (counts_of t o) r.events r.at r.book m.move
        is.0 is.1 r.stands m.moves_front.is_front m.moves_front.goes kind m.paid m.rest.plain.heap in
        let one : commits_of m.move.entry ≡ 1 = ap commits_of kind in
        let one' : moves_of m.move.entry ≡ 1 = ap moves_of kind in
        let counts : after_commit (counts_of t o) (length m.move.woken) m.move.cells ≡ counts_of t new = same_counts _ _
        (sym passed)
        (let a = m.asleep in let b = ap length m.tells.woken in omega (arith, asleep))
        (let a = long in let b = ap (λ (h : PlainHall). length h.log.items) hall in omega arith)
        (let a = moved_one one' in let b = ap (λ (h : PlainHall). h.quota.moves) hall in omega arith)
        (let a = m.commits in let b = ap (λ (h : PlainHall). h.quota.commits) hall in omega arith)
        (let a = m.moves in let b = ap (λ (h : PlainHall). h.quota.moves) hall in omega arith)
        (let a = m.cells in let b = ap (λ (h : PlainHall). h.quota.cells) hall in omega arith)
        (ap mode_of (sym m.mode ∙ sym mode))
        (ap (λ (n : ℕ). drop n t.controls.now) (sym m.made ∙ sym made)) in
        let behind : o.queue.items ++ m.move.children ++ m.move.woken ≡ new.queue.items =
        ap (λ x. x ++ m.move.children ++ m.move.woken) (sym m.queue)
        ∙ (ap (λ x. e.queue.items ++ x ++ m.move.woken) m.tells.children
        ∙ (ap (λ x. e.queue.items ++ e.planner.children.items ++ x) m.tells.woken ∙ sym queue)) in
        record {
          events = r.events ++ f ∷ [];
          at = led.0;
          book = m.moves_front.goes.goes.book;
          stands = stands_same (setting t) _ _ _ _ _ _ _ led.0 m.moves_front.goes.goes.book led.1
              (ap (λ (h : PlainHall). h.words.items) (sym hall)) behind counts;
          log = ap (λ (h : PlainHall). h.log.items) hall
              ∙ log_more o.hall.log.items e.hall.log.items m.move.entry r.events f r.log m.log (has_entry of_front);
          rest = rest_same t e new hall made m.rest;
          few =
              let a = m.asleep in let b = r.few in let c = long in
              let d = ap (λ (h : PlainHall). length h.log.items) hall in
              omega (arith, asleep);
        }

    -- the queue is as it was
    pub hang_noted : AHangLeadsOn → AnEventIsOfTheFront → IsHang e.planner.entry → new.queue.items ≡ e.queue.items
        → new.asleep ≡ e.asleep + 1 → IsReached t [] new
    hang_noted law of_front is queue asleep =
        let r = m.moves_front.reached in
        let kind : m.move.entry ≡ Hang is.0 = m.tells.entry ∙ is.1 in
        let led = law (setting t) o.hall.words.items e.hall.words.items o.queue.items m.front (counts_of t o) r.events r.at r.book m.move
        is.0 r.stands m.moves_front.is_front m.moves_front.goes kind m.paid m.rest.plain.heap in
        let none : commits_of m.move.entry ≡ 0 = ap commits_of kind in
        let one' : moves_of m.move.entry ≡ 1 = ap moves_of kind in
        let counts : after_hang (counts_of t o) m.move.cells ≡ counts_of t new = same_counts _ _
        (sym passed)
        (let a = m.asleep in omega (arith, asleep))
        (let a = long in let b = ap (λ (h : PlainHall). length h.log.items) hall in omega arith)
        (let a = moved_one one' in let b = ap (λ (h : PlainHall). h.quota.moves) hall in omega arith)
        (let a = m.commits in let b = ap (λ (h : PlainHall). h.quota.commits) hall in omega arith)
        (let a = m.moves in let b = ap (λ (h : PlainHall). h.quota.moves) hall in omega arith)
        (let a = m.cells in let b = ap (λ (h : PlainHall). h.quota.cells) hall in omega arith)
        (ap mode_of (sym m.mode ∙ sym mode))
        (ap (λ (n : ℕ). drop n t.controls.now) (sym m.made ∙ sym made)) in
        record {
          events = r.events ++ f ∷ [];
          at = led.0;
          book = m.moves_front.goes.goes.book;
          stands = stands_same (setting t) _ _ _ _ _ _ _ led.0 m.moves_front.goes.goes.book led.1
              (ap (λ (h : PlainHall). h.words.items) (sym hall)) (sym m.queue ∙ sym queue) counts;
          log = ap (λ (h : PlainHall). h.log.items) hall
              ∙ log_more o.hall.log.items e.hall.log.items m.move.entry r.events f r.log m.log (has_entry of_front);
          rest = rest_same t e new hall made m.rest;
          few =
              let a = m.asleep in let b = r.few in let c = long in
              let d = ap (λ (h : PlainHall). length h.log.items) hall in
              omega (arith, asleep);
        }

-- the front went to the back
pub pass_noted : (t : Task) (p : ℕ) (e : Engine) → HasPassed t p e → APassLeadsOn → (new : Engine) → new.hall ≡ e.hall
    → new.queue.items ≡ e.queue.items ++ p ∷ [] → new.passed ≡ e.passed + 1 → new.asleep ≡ e.asleep → new.made ≡ e.made
    → new.mode ≡ e.mode → IsReached t [] new
pass_noted t p e m law new hall queue passed asleep made mode =
    let r = m.reached in
    let some : e.passed < length (p ∷ e.queue.items) = let h = m.room.passed in omega arith in
    let led = law (setting t) e.hall.words.items e.queue.items p (counts_of t e) r.events r.at r.book m.needed r.stands m.room.going
    m.room.commits m.room.moves some m.costs m.large in
    let counts : after_pass (counts_of t e) ≡ counts_of t new = same_counts _ _ (sym passed) (sym asleep)
    (ap (λ (h : PlainHall). length h.log.items) (sym hall))
    (ap (λ (h : PlainHall). t.limits.moves - h.quota.moves) (sym hall)) (ap (λ (h : PlainHall). h.quota.commits) (sym hall))
    (ap (λ (h : PlainHall). h.quota.moves) (sym hall)) (ap (λ (h : PlainHall). h.quota.cells) (sym hall)) (ap mode_of (sym mode))
    (ap (λ (n : ℕ). drop n t.controls.now) (sym made)) in
    record {
      events = r.events;
      at = led.0;
      book = r.book;
      stands = stands_same (setting t) _ _ _ _ _ _ _ led.0 r.book led.1 (ap (λ (h : PlainHall). h.words.items) (sym hall)) (sym queue)
          counts;
      log = ap (λ (h : PlainHall). h.log.items) hall ∙ r.log;
      rest = rest_same t e new hall made r.rest;
      few = let a = r.few in let d = ap (λ (h : PlainHall). length h.log.items) hall in omega (arith, asleep);
    }

-- a process was put at the back of a queue, since the put did not fail
pub put_back : (old new : List ℕ) (p : ℕ) (ok err : Bool) → new ≡ (if ok then old ++ p ∷ [] else old) → ok ≡ not err → err ≡ false
    → new ≡ old ++ p ∷ []
put_back old new p ok err e n f = e ∙ ap (λ b. if b then old ++ p ∷ [] else old) (n ∙ ap not f)
