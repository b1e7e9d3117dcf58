-- What follows where the move of a process of the table was planned.
use Rattle.std.proofs.Common.{◌≡◌, ℕ, ◌<◌, true, List, length, Some, refl, sym, ap, ◌∙◌, true≢false, arith}
use Rattle.std.proofs.lemmas.Option.{same_Some}
use Rattle.fcp_model.specs.declared.run.Proc.{Proc}
use Rattle.fcp_model.specs.declared.run.Entry.{Entry}
use Rattle.fcp_model.specs.Programs.{Program}
use Rattle.fcp_model.specs.States.{Status, ready, waiting, finished, State, is_running, is_ready}
use Rattle.fcp_model.specs.Events.{Event}
use Rattle.fcp_model.specs.Runs.{allows, IsDecided, last_state}
use Rattle.heap_words.specs.Cells.{decoded}
use Rattle.heap_words.specs.Heaps.{inside_at}
use Rattle.heap_words.specs.Trails.{word_at}
use Rattle.heap_words.specs.declared.cell.Cell.TheVariants as cell
use Rattle.heap_words.specs.declared.cell.Stand.TheVariants as stand
use Rattle.word_states.specs.Standing.{StatusSays}
use Rattle.machine_code.specs.Compiling.{Tables}
use Rattle.trial_machine.specs.Deciding.{IsCodeOf}
use Rattle.move_plans.specs.declared.planner.Planner.{Planner}
use Rattle.move_plans.specs.declared.planner.Planned.{Planned}
use Rattle.move_plans.specs.declared.planner.Planned.TheVariants as planned
use Rattle.move_plans.specs.Plans.{IsPlan, IsMoveOf, PlanSays}
use Rattle.commit_engine.specs.declared.plain_hall.PlainHall.{PlainHall}
use Rattle.commit_engine.specs.PlainHalls.{IsSame}
use Rattle.log_replay.specs.declared.replay.Replay.{Replay}
use Rattle.log_replay.specs.Tables.{address_of}
use Rattle.log_replay.specs.Replays.{room_of, mode_of, words_of, IsAtRest, IsReplayed, IsAllowedMove, StandsBy, Shows}
use Rattle.log_replay.specs.Parts.{IsOfKind, IsMoving, MayMake, MayMakeSome}
use Rattle.log_replay.proofs.GoingMoves as going
use Rattle.log_replay.proofs.Standing.{kept_replay, kept_shown}
use Rattle.log_replay.proofs.WrongMoves.{allowed, not_decided}

ready_word : (limit x : ℕ) (st : Status) → is_ready st ≡ true → StatusSays limit x st → decoded x ≡ Some (cell.Status stand.Ready)
ready_word limit x ready may h = h
ready_word limit x (waiting ps) may h = absurd (true≢false (sym may))
ready_word limit x finished may h = absurd (true≢false (sym may))

-- there is no other kind than a commit, a hang and a fail
pub no_kind : (e : Entry) (d : Planned) → IsOfKind d e → (d ≡ planned.Commits → ⊥) → (d ≡ planned.Hangs → ⊥) → (d ≡ planned.Fails → ⊥) → ⊥
no_kind e planned.Commits kind a b f = a refl
no_kind e planned.Hangs kind a b f = b refl
no_kind e planned.Fails kind a b f = f refl
no_kind e planned.Full kind a b f = kind
no_kind e (planned.Large n) kind a b f = kind
no_kind e (planned.Gone d) kind a b f = kind

-- at the address of a process of the table the status Ready stands
pub ready_there : (m : Program) (from : State) (cells : ℕ) (evs : List Event) (r : Replay) (q : Proc) (p : ℕ)
    → IsReplayed m from cells evs r → address_of r.ready.addresses.entries q ≡ Some p
    → (x : ℕ) × (words_of r p ≡ Some x) × (decoded x ≡ Some (cell.Status stand.Ready))
ready_there m from cells evs r q p h at =
    let o = h.state.ready.only q p at in
    let st = (h.state.stands.process p o.process o.there).status in
    (st.0, st.1, ready_word (last_state from evs).entries st.0 o.process.status o.may_move st.2)

-- a move of a process of the table is allowed, where the run is open
pub allowed_there : (m : Program) (from : State) (cells : ℕ) (evs : List Event) (r : Replay) (e : Entry) (q : Proc) (p : ℕ)
    → IsReplayed m from cells evs r → IsMoveOf e q → is_running (mode_of r.mode) ≡ true
    → address_of r.ready.addresses.entries q ≡ Some p → IsAllowedMove (last_state from evs) e
allowed_there m from cells evs r e q p h of opened at = (
  allowed h.state.book (words_of r) (last_state from evs) e q p h.state.stands (h.state.ready.only q p at) of
      (ap is_running (sym h.mode) ∙ opened),
  (q, of),
)

-- What holds where a move was planned: the run is open, the process is in the table, and the hall has the words that were read.
pub record IsPlanned (old : Replay) (q : Proc) (p : ℕ) (hall : PlainHall) (planner : Planner) : Type 0 where
  pub opened : is_running (mode_of old.mode) ≡ true
  pub at : address_of old.ready.addresses.entries q ≡ Some p
  pub room : old.entries < room_of old
  pub same : IsSame old.hall hall
  pub rest : IsAtRest hall
  pub read : (a x : ℕ) → word_at planner.machine.trail.kept a ≡ Some x → inside_at hall.words.items a ≡ Some x

module _ (t : Tables) (old : Replay) (q : Proc) (p : ℕ) (hall : PlainHall) (planner : Planner) (pl : IsPlanned old q p hall planner) where
  abbrev mid : Replay
  mid = record old { hall = hall; planner = planner }

  pub same_room : room_of mid ≡ room_of old
  same_room = let a = ap length pl.same.log in let b = pl.same.spare in omega arith

  pub moving : IsPlan t planner p → IsMoving mid q p
  moving plan = record {
    open_mode = pl.opened;
    at = pl.at;
    rest = pl.rest;
    room = let a = pl.room in let b = same_room in omega arith;
    safe = plan.safe;
    named = plan.named;
    read = pl.read;
  }

  pub some_run : StandsBy t old → IsPlan t planner p → MayMakeSome mid p
  some_run st plan = record {
    program = st.standing.program;
    from = st.standing.from;
    cells = st.standing.cells;
    events = st.standing.events;
    made = record {
      replayed = kept_replay st.standing.program st.standing.from st.standing.cells st.standing.events old mid pl.same pl.rest refl refl
          refl st.standing.replayed;
      fits = plan.fits st.standing.program st.code;
    };
  }

  -- what was shown before the plan is shown still
  pub still_shown : (ev : Event) → Shows ev old → Shows ev mid
  still_shown ev h = kept_shown old mid ev pl.same.words refl refl refl refl refl h

  module _ (m : Program) (from : State) (cells : ℕ) (evs : List Event) (h : IsReplayed m from cells evs old) where
    abbrev pub kept : IsReplayed m from cells evs mid
    kept = kept_replay m from cells evs old mid pl.same pl.rest refl refl refl h

    abbrev pub may : IsPlan t planner p → IsCodeOf t m → MayMake m from cells evs mid p
    may plan code = record { replayed = kept; fits = plan.fits m code }

    -- a plan that found room, and cells, is one of a Ready process, of a kind
    pub plan_is : (left : ℕ) (d : Planned) → PlanSays t planner p left d → (d ≡ planned.Full → ⊥) → ((n : ℕ) → d ≡ planned.Large n → ⊥)
        → IsPlan t planner p × IsOfKind d planner.entry
    plan_is left planned.Commits says full large = (says.0, says.1)
    plan_is left planned.Hangs says full large = (says.0, says.1)
    plan_is left planned.Fails says full large = says
    plan_is left planned.Full says full large = absurd (full refl)
    plan_is left (planned.Large n) says full large = absurd (large n refl)
    plan_is left (planned.Gone d) says full large = absurd (says.3 is_ready_one)
      where
        there : (x : ℕ) × (inside_at hall.words.items p ≡ Some x) × (decoded x ≡ Some (cell.Status stand.Ready))
        there = ready_there m from cells evs mid q p kept pl.at

        is_ready_one : d ≡ stand.Ready
        is_ready_one =
            let one : says.0 ≡ there.0 = same_Some says.0 there.0 (sym (pl.read p says.0 says.1) ∙ there.1) in
            let both : Some (cell.Status d) ≡ Some (cell.Status stand.Ready) = sym says.2 ∙ (ap decoded one ∙ there.2) in cc

    pub wrong : IsPlan t planner p → (e : Entry) → IsMoveOf e q → (planner.entry ≡ e → ⊥) → IsCodeOf t m
        → (allows (last_state from evs) e ≡ true) × (IsDecided m (last_state from evs) e → ⊥) × IsReplayed m from cells evs mid
    wrong plan e of other code =
        let go = going.goes m from cells evs mid q p (moving plan) (may plan code) in
        let by = going.made_by m from cells evs mid q p (moving plan) (may plan code) _ go in
        let o = going.at m from cells evs mid q p (moving plan) (may plan code) in (
          allowed kept.state.book (words_of mid) (last_state from evs) e q p kept.state.stands o of
              (going.running m from cells evs mid q p (moving plan) (may plan code)),
          not_decided kept.state.book (words_of mid) (last_state from evs) e q p kept.state.stands o of m go.goes.steps planner.entry
              go.goes.event by other,
          kept,
        )
