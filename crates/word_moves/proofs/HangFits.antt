-- A hang that is planned is legal, and tells what it does; so is a fail.
use Rattle.std.proofs.Common.{◌≡◌, ℕ, suc, ◌*◌, List, [], map, Some, refl, sym, ap, ◌∙◌, subst, arith, true≢false}
use Rattle.std.proofs.lemmas.List.{length-map}
use Rattle.fcp_model.specs.declared.run.Entry.TheVariants.{Hang, Fail}
use Rattle.fcp_model.specs.declared.run.Proc.{Proc}
use Rattle.fcp_model.specs.Places.{places_among}
use Rattle.fcp_model.specs.Programs.{Program}
use Rattle.fcp_model.specs.Decisions.{decides_fail, waits_on}
use Rattle.fcp_model.specs.States.{Process, State, waiting}
use Rattle.fcp_model.specs.Events.{Event, with_status, event_of}
use Rattle.fcp_model.specs.Runs.{next}
use Rattle.heap_words.specs.Heaps.{inside_at}
use Rattle.heap_words.specs.Trails.{WordList}
use Rattle.word_states.specs.Words.{Words, over, addresses_of}
use Rattle.word_states.specs.Layouts.{HangLaid}
use Rattle.word_states.specs.Planning.{hang_writes}
use Rattle.word_states.specs.Standing.{Book, StandsAt}
use Rattle.word_states.specs.Trials.{WaitSays, FailSays, TriedWait, TriedFail}
use Rattle.word_states.specs.Going.{MayGo, GoesOn, Fits}
use Rattle.word_states.proofs.Persisting.{map_stands}
use Rattle.word_state_laws.specs.Laws.{MayMove, GoesBy}
use Rattle.word_state_laws.proofs.HangPlans.{hang_laid}
use Rattle.word_state_laws.proofs.TriedMoves.{a_hang_goes, a_fail_goes}
use Rattle.page_layout.specs.declared.rooms.Room.{Room}
use Rattle.page_layout.specs.Laying.{tops_of}
use Rattle.page_layout.specs.Hangs.{entry_of}
use Rattle.page_layout.specs.Openings.{FindsHang}
use Rattle.page_layout.proofs.Finding.{kept_found}
use Rattle.page_layout.proofs.HangWrites.{hang_planned}
use Rattle.word_moves.specs.Planned.{process_of, ReadsProcess, IsPlannedHang}
use Rattle.word_moves.specs.Laws.{AHangFits, AFailFits}
use Rattle.word_moves.proofs.Moves.{the_hang, is_hang, the_fail, is_fail}
use Rattle.word_moves.proofs.Processes.{stays_as, moving}
use Rattle.word_moves.proofs.Finding.{finds_hang}

module _ {kept : WordList} {p z : ℕ} {lists : WordList} {rooms : List Room} {table : List ℕ}
    (planned : IsPlannedHang kept p z lists rooms table) {m : Program} (trial : TriedWait m kept p (addresses_of lists)) {book : Book}
    {ws : List ℕ} {s : State} (may : MayGo (the_hang kept p z lists rooms table) book ws s) where
  abbrev after : Words
  after = over (hang_writes (entry_of table lists) (suc s.entries) p lists (tops_of rooms)) (inside_at ws)

  mover : (x : Process) × MayMove book ws s p x × (process_of z ≡ x.name)
  mover = moving may planned.process

  finds : FindsHang p lists (inside_at ws)
  finds = (kept_found kept (inside_at ws) may.has).hang p lists (finds_hang planned)

  laid : HangLaid (entry_of table lists) (suc s.entries) p (addresses_of lists) (inside_at ws) after
  laid = hang_laid (entry_of table lists) (suc s.entries) p lists (tops_of rooms) (inside_at ws)
      (hang_planned ws rooms table lists planned.laid (suc s.entries) p finds
      ((kept_found kept (inside_at ws) may.has).tops rooms planned.tops) planned.small (let few = may.few in omega arith))
      (finds.process.0, finds.process.1) finds.places

  outcome : (says : WaitSays m (inside_at ws) book.places s.bound mover.0.goal (addresses_of lists))
      × GoesBy m book s mover.0 (waits_on says.reads) after
  outcome =
      a_hang_goes m book ws s p mover.0 kept (addresses_of lists) (entry_of table lists) after mover.1 may.has trial laid

  abbrev event : Event
  event = event_of m s mover.0 (waits_on outcome.0.reads)

  abbrev become : Process → Process
  become q = with_status mover.0.name (waiting (places_among outcome.0.reads)) q

  pub hang_on : GoesOn m (the_hang kept p z lists rooms table) book s after
  hang_on = record {
    goes = record {
      steps = outcome.1.legal.0;
      event = event;
      legal = subst (λ (name : Proc). next outcome.1.legal.0 m s (Hang name) ≡ Some event) (sym mover.2) outcome.1.legal.1;
      book = book;
      stands = outcome.1.stands;
    };
    cells = ap (λ (n : ℕ). 3 * n) (sym outcome.0.count ∙ length-map lists (λ (x : ℕ × ℕ). x.0));
    children = tt;
    woken = tt;
    bound = tt;
    waits = record {
      all = λ j h. let r = outcome.0.all j h in (r.0, r.1, r.2);
      only = outcome.0.only;
      count = outcome.0.count;
    };
    places_stay = λ j a h. h;
    processes_stay = λ q y h t far. subst (StandsAt book.processes (map become s.processes) q)
        (stays_as may.stands p q mover.0 y (waiting (places_among outcome.0.reads)) mover.1.process h far)
        (map_stands become book.processes s.processes q y h);
  }

pub hang_fits : AHangFits
hang_fits v kept p z lists rooms table planned is m trial =
    subst (Fits m) (sym (is_hang is)) (λ book ws s may. hang_on planned trial may)

module _ {kept : WordList} {p z : ℕ} (reads : ReadsProcess kept p z) {m : Program} (trial : TriedFail m kept p) {book : Book}
    {ws : List ℕ} {s : State} (may : MayGo (the_fail kept p z) book ws s) where
  failing : (x : Process) × MayMove book ws s p x × (process_of z ≡ x.name)
  failing = moving may reads

  failed : (says : FailSays m s.bound failing.0.goal) × GoesBy m book s failing.0 (decides_fail says.reads) (inside_at ws)
  failed = a_fail_goes m book ws s p failing.0 kept failing.1 may.has trial

  abbrev failed_event : Event
  failed_event = event_of m s failing.0 (decides_fail failed.0.reads)

  pub fail_on : GoesOn m (the_fail kept p z) book s (over [] (inside_at ws))
  fail_on = record {
    goes = record {
      steps = failed.1.legal.0;
      event = failed_event;
      legal = subst (λ (name : Proc). next failed.1.legal.0 m s (Fail name) ≡ Some failed_event) (sym failing.2) failed.1.legal.1;
      book = book;
      stands = failed.1.stands;
    };
    cells = refl;
    children = tt;
    woken = tt;
    bound = tt;
    waits = record { all = λ j h. absurd (true≢false (sym h)); only = λ a h. absurd h; count = refl };
    places_stay = λ j a h. h;
    processes_stay = λ q y h t far. h;
  }

pub fail_fits : AFailFits
fail_fits v kept p z reads is m trial = subst (Fits m) (sym (is_fail is)) (λ book ws s may. fail_on reads trial may)
