-- A commit that is planned is legal, and tells what it does.
use Rattle.std.proofs.Common.{◌≡◌, ℕ, suc, true, false, List, ◌++◌, length, map, refl, sym, ap, ◌∙◌, subst, arith, true≢false}
use Rattle.std.proofs.Common.{Some, length-append}
use Rattle.std.proofs.lemmas.Bool.{cond-true, cond-false}
use Rattle.fcp_model.specs.declared.run.Entry.TheVariants.{Commit}
use Rattle.fcp_model.specs.declared.run.Proc.{Proc}
use Rattle.fcp_model.specs.Places.{made}
use Rattle.fcp_model.specs.Programs.{Program}
use Rattle.fcp_model.specs.Terms.{Bindings}
use Rattle.fcp_model.specs.Cells.{clause_used, commit_cells}
use Rattle.fcp_model.specs.Decisions.{commits}
use Rattle.fcp_model.specs.States.{Status, ready, waiting, finished, Process, State, is_ready}
use Rattle.fcp_model.specs.Events.{Event, wake, with_status, is_woken, made_ready, children_of, event_of}
use Rattle.fcp_model.specs.Runs.{next}
use Rattle.heap_words.specs.Heaps.{inside_at}
use Rattle.heap_words.specs.Trails.{WordList}
use Rattle.word_states.specs.Words.{Words, over}
use Rattle.word_states.specs.Layouts.{CommitLaid, fresh_places, born_at}
use Rattle.word_states.specs.Planning.{commit_writes}
use Rattle.word_states.specs.Standing.{Book, StandsAt, ProcessAt}
use Rattle.word_states.specs.Trials.{TriedCommit}
use Rattle.word_states.specs.Going.{MayGo, GoesOn, Fits}
use Rattle.word_states.proofs.Lists.{listed_left}
use Rattle.word_states.proofs.Persisting.{map_stands, map_length}
use Rattle.word_state_laws.specs.Laws.{MayMove, CommitGoes, book_after}
use Rattle.word_state_laws.proofs.Appended.{stands_left, stands_right}
use Rattle.word_state_laws.proofs.CommitPlans.{commit_laid}
use Rattle.word_state_laws.proofs.TriedMoves.{said, tried, used, a_commit_goes}
use Rattle.page_layout.specs.declared.rooms.Room.{Room}
use Rattle.page_layout.specs.Laying.{moved_to, cuts, tops_of}
use Rattle.page_layout.proofs.Sizes.{cuts_sized}
use Rattle.page_layout.proofs.Finding.{kept_found}
use Rattle.page_layout.proofs.CommitWrites.{commit_planned}
use Rattle.word_moves.specs.Planned.{process_of, CellsSay, IsPlannedCommit}
use Rattle.word_moves.specs.Laws.{ACommitFits}
use Rattle.word_moves.proofs.Moves.{the_commit, is_commit}
use Rattle.word_moves.proofs.Processes.{stays_as, moving}
use Rattle.word_moves.proofs.Finding.{finds_commit}
use Rattle.word_moves.proofs.Woken.{all_at, woken_at}

-- a process that is Ready is not woken
ready_sleeps : (bs : Bindings) (st : Status) → is_ready st ≡ true → is_woken bs st ≡ false
ready_sleeps bs ready e = refl
ready_sleeps bs finished e = refl
ready_sleeps bs (waiting ps) e = absurd (true≢false (sym e))

module _ {kept : WordList} {p z k : ℕ} {binds : WordList} {sizes own wakes : List ℕ} {rooms : List Room} {table : List ℕ}
    (planned : IsPlannedCommit kept p z binds sizes own wakes rooms table) {m : Program}
    (trial : TriedCommit m kept p k binds (cuts sizes own)) {c : ℕ} (cells : CellsSay m kept p k c) {book : Book} {ws : List ℕ} {s : State}
    (may : MayGo (the_commit kept p z k binds sizes own wakes rooms table c) book ws s) where
  abbrev after : Words
  after = over (commit_writes (moved_to table) (suc s.entries) p binds (cuts sizes own) wakes (tops_of rooms)) (inside_at ws)

  abbrev book' : Book
  book' = book_after book (moved_to table) (suc s.entries) (cuts sizes own)

  mover : (x : Process) × MayMove book ws s p x × (process_of z ≡ x.name)
  mover = moving may planned.process

  laid : CommitLaid (moved_to table) (suc s.entries) p binds (cuts sizes own) wakes (inside_at ws) after
  laid =
      let found = kept_found kept (inside_at ws) may.has in
      commit_laid (moved_to table) (suc s.entries) p binds (cuts sizes own) wakes (tops_of rooms) (inside_at ws)
      (commit_planned ws rooms table sizes planned.laid (cuts sizes own) (cuts_sized sizes own planned.size) (suc s.entries) p binds wakes
      (found.commit p binds wakes (finds_commit planned)) (found.tops rooms planned.tops))

  outcome : CommitGoes m book s mover.0 k binds (cuts sizes own) wakes (moved_to table) after
  outcome = a_commit_goes m book ws s p k mover.0 kept kept binds (cuts sizes own) wakes (moved_to table) after mover.1 may.has trial
      planned.read may.has planned.woken laid

  abbrev event : Event
  event = event_of m s mover.0 (commits k outcome.bindings outcome.reads)

  abbrev become : Process → Process
  become q = wake outcome.bindings (with_status mover.0.name finished q)

  abbrev born : List ℕ
  born = born_at (moved_to table) (cuts sizes own)

  abbrev children : List Process
  children = children_of (suc s.entries) (clause_used m mover.0.goal k)

  -- another process stands where it was, and is woken or as before
  on : (q : ℕ) (y y' : Process) → ProcessAt book s q y → (q ≡ p → ⊥) → wake outcome.bindings y ≡ y' → ProcessAt book' event.after q y'
  on q y y' h far e = stands_left book.processes born (map become s.processes) children q y'
      (subst (StandsAt book.processes (map become s.processes) q)
      (ap (wake outcome.bindings) (stays_as may.stands p q mover.0 y finished mover.1.process h far) ∙ e)
      (map_stands become book.processes s.processes q y h))

  -- the process that commits is not woken
  not_mover : (q : ℕ) (y : Process) → ProcessAt book s q y → is_woken outcome.bindings y.status ≡ true → q ≡ p → ⊥
  not_mover q y h t e =
      let same : y ≡ mover.0 = (may.stands.once q p y mover.0 h mover.1.process).1 e in
      true≢false (sym t ∙ ap (is_woken outcome.bindings) (ap (λ (v : Process). v.status) same ∙ mover.1.is_ready))

  child_at : (q : ℕ) (y : Process) → StandsAt born children q y → ProcessAt book' event.after q y
  child_at q y h = stands_right book.processes born (map become s.processes) children q y
      (may.stands.processes ∙ sym (map_length become s.processes)) h

  child_count : length born ≡ length children
  child_count =
      let all : length (book.processes ++ born) ≡ length (map become s.processes ++ children) = outcome.goes.stands.processes in
      let old = may.stands.processes in
      let same = map_length become s.processes in
      let left = length-append book.processes born in
      let right = length-append (map become s.processes) children in
      omega arith

  pub goes_on : GoesOn m (the_commit kept p z k binds sizes own wakes rooms table c) book s after
  goes_on = record {
    goes = record {
      steps = outcome.goes.legal.0;
      event = event;
      legal = subst (λ (name : Proc). next outcome.goes.legal.0 m s (Commit name k) ≡ Some event) (sym mover.2) outcome.goes.legal.1;
      book = book';
      stands = outcome.goes.stands;
    };
    cells = ap commit_cells (used mover.1 m k)
        ∙ cells (inside_at ws) book.places mover.1.stands.short (said mover.1).goal (tried mover.1 kept may.has);
    children = all_at book' event.after born children child_count child_at;
    woken = woken_at may.stands outcome.bindings wakes book' event.after made_ready may.ordered outcome.woken outcome.by_name
        (λ q y h t. on q y (made_ready y) h (not_mover q y h t) (cond-true _ _ _ t));
    bound = outcome.order;
    waits = record { all = λ j h. absurd (true≢false (sym h)); only = λ a h. absurd h; count = refl };
    places_stay = λ j a h. listed_left book.places (fresh_places (moved_to table) (suc s.entries) (cuts sizes own)) (made j) a h;
    processes_stay = λ q y h t far. on q y y h far (cond-false _ _ _ (ready_sleeps outcome.bindings y.status t));
  }

pub commit_fits : ACommitFits
commit_fits v kept p z k binds sizes own wakes rooms table planned is m trial cells =
    subst (Fits m) (sym (is_commit is)) (λ book ws s may. goes_on planned trial cells may)
