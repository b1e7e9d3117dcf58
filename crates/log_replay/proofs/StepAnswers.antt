-- What each way of a step says.
use Rattle.std.proofs.Common.{◌≡◌, ◌⊎◌, ℕ, ◌-◌, ◌/◌, ◌<◌, false, List, [], length, Option, Some, None}
use Rattle.std.proofs.Common.{refl, sym, ap, ◌∙◌, subst, inl, inr, arith}
use Rattle.std.specs.Prelude.{MatchOption}
use Rattle.fcp_model.specs.declared.run.Proc.{Proc}
use Rattle.fcp_model.specs.declared.run.Entry.{Entry}
use Rattle.fcp_model.specs.declared.run.Entry.TheVariants.{Commit, Hang, Fail}
use Rattle.fcp_model.specs.Programs.{Program}
use Rattle.fcp_model.specs.Decisions.{Decision, commits, decides_fail, waits_on}
use Rattle.fcp_model.specs.States.{State, is_failed}
use Rattle.fcp_model.specs.Events.{Event, event_of, control_event}
use Rattle.fcp_model.specs.Runs.{allows, last_state}
use Rattle.word_moves.specs.declared.word_move.WordMove.{WordMove}
use Rattle.std.specs.Prelude.{if◌then◌else◌}
use Rattle.move_plans.specs.declared.planner.Planner.{Planner}
use Rattle.move_plans.specs.Plans.{IsMoveOf}
use Rattle.commit_engine.specs.declared.plain_hall.PlainHall.{PlainHall}
use Rattle.commit_engine.specs.declared.answer.Turn.{Turn}
use Rattle.commit_engine.specs.declared.answer.Turn.TheVariants as turn
use Rattle.commit_engine.specs.PlainHalls.{IsPlain, IsSilent, IsFound, IsAdded}
use Rattle.commit_engine.specs.PlainLaws.{plain_words}
use Rattle.commit_engine.specs.Finishing.{IsEntered, FinishSays}
use Rattle.commit_engine.specs.Turns.{IsCommit, IsHang, IsFail, has_made}
use Rattle.run_laws.proofs.Fronts.{IsMadeBy}
use Rattle.log_replay.specs.declared.mode.RunMode.{RunMode}
use Rattle.log_replay.specs.declared.mode.RunMode.TheVariants as mode
use Rattle.log_replay.specs.declared.replay.Replay.{Replay}
use Rattle.log_replay.specs.declared.answer.Stepped.{Stepped}
use Rattle.log_replay.specs.declared.answer.Stepped.TheVariants as answer
use Rattle.log_replay.specs.Replays.{room_of, mode_of, IsReplayed, IsAllowedMove, IsDone, StepSays, Shows, StillShows}
use Rattle.log_replay.specs.Parts.{IsControl, IsForbidden, LeadsTo, mode_behind, IsMoving, MayMake}
use Rattle.log_replay.specs.Parts.{MayMakeSome, AreInUse, NotedSays, NotesEntry}
use Rattle.log_replay.proofs.GoingMoves as going
use Rattle.log_replay.proofs.MadeMoves.{done, children_known, woken_known}
use Rattle.log_replay.proofs.Modes.{behind_says}
use Rattle.log_replay.proofs.PlannedMoves.{allowed_there}
use Rattle.log_replay.proofs.Standing.{entry_done}

-- an entry that was made leaves nothing to say of what was shown before
pub noted_shown : (q : Proc) (old mid new : Replay) (a : Stepped) → NotedSays q mid new a → StillShows old new a
noted_shown q old mid new answer.Done h = tt
noted_shown q old mid new answer.NoMemory h = tt
noted_shown q old mid new (answer.Wrong w) h = absurd h
noted_shown q old mid new (answer.Spent a b) h = absurd h

-- what was shown before a plan is shown where it is shown behind it
pub shown_from : (old mid new : Replay) (a : Stepped) → ((ev : Event) → Shows ev old → Shows ev mid) → StillShows mid new a
    → StillShows old new a
shown_from old mid new answer.Done f h = tt
shown_from old mid new answer.NoMemory f h = tt
shown_from old mid new (answer.Wrong w) f h = λ ev s. h ev (f ev s)
shown_from old mid new (answer.Spent a b) f h = λ ev s. h ev (f ev s)

-- there is room for one entry more
pub spare_left : (m : Program) (from : State) (cells : ℕ) (evs : List Event) (r : Replay) → IsReplayed m from cells evs r
    → r.entries < room_of r → 0 < r.hall.spare
spare_left m from cells evs r h room = let a = h.made in let b = h.log in omega arith

module _ (m : Program) (from : State) (cells : ℕ) (evs : List Event) (r : Replay) (h : IsReplayed m from cells evs r) (e : Entry)
    (control : IsControl e) where
  pub forbidden : mode_behind r.mode e ≡ None → allows (last_state from evs) e ≡ false
  forbidden none =
      let says : IsForbidden r.mode e =
      subst (λ (o : Option RunMode). MatchOption o (IsForbidden r.mode e) (LeadsTo r.mode e)) none (behind_says r.mode e control) in
      says (last_state from evs) (sym h.mode)

  pub control_done : (after : RunMode) → mode_behind r.mode e ≡ Some after → r.entries < room_of r → (mid : Replay) → NotesEntry e r mid
      → IsDone m from cells evs e (record mid { mode = after })
  control_done after some room mid notes =
      let says : LeadsTo r.mode e after =
      subst (λ (o : Option RunMode). MatchOption o (IsForbidden r.mode e) (LeadsTo r.mode e)) some (behind_says r.mode e control) in
      entry_done m from cells evs r h e (spare_left m from cells evs r h room) (inl control)
      (control_event (last_state from evs) e (mode_of after)) (mode_of after) (0, says m (last_state from evs) (sym h.mode)) refl refl refl
      mid (record mid { mode = after }) notes (plain_words.still mid.hall notes.rest.plain) notes.rest refl refl refl refl

module _ (m : Program) (from : State) (cells : ℕ) (evs : List Event) (r : Replay) (q : Proc) (p : ℕ) (mv : IsMoving r q p)
    (may : MayMake m from cells evs r p) where
  abbrev s : State
  s = last_state from evs

  abbrev ev : Event
  ev = (going.goes m from cells evs r q p mv may).goes.event

  by : IsMadeBy (going.goes m from cells evs r q p mv may).goes.steps m s (going.at m from cells evs r q p mv may).process
      r.planner.entry ev
  by = going.made_by m from cells evs r q p mv may _ (going.goes m from cells evs r q p mv may)

  -- what is planned is a move of the process, which the run allows
  pub planned_allowed : IsAllowedMove s r.planner.entry
  planned_allowed =
      let at = going.at m from cells evs r q p mv may in
      let of : IsMoveOf r.planner.entry q =
      subst (IsMoveOf r.planner.entry) (going.mover_is m from cells evs r q p mv may ∙ at.named) mv.named.is_move in
      allowed_there m from cells evs r r.planner.entry q p may.replayed of mv.open_mode mv.at

  pub fail_done : IsFail r.planner.entry → (mid : Replay) → NotesEntry r.planner.entry r mid
      → IsDone m from cells evs r.planner.entry (record mid { mode = mode.Failed })
  fail_done (f, is_fail) mid notes = go by.decision by.is
    where
      go : (d : Decision) → ev ≡ event_of m s (going.at m from cells evs r q p mv may).process d
          → IsDone m from cells evs r.planner.entry (record mid { mode = mode.Failed })
      go (commits k bs rs) is =
          let wrong : Fail f ≡ Commit (going.at m from cells evs r q p mv may).process.name k =
          sym is_fail ∙ (sym by.has ∙ ap (λ (x : Event). x.entry) is) in cc
      go (waits_on rs) is =
          let wrong : Fail f ≡ Hang (going.at m from cells evs r q p mv may).process.name =
          sym is_fail ∙ (sym by.has ∙ ap (λ (x : Event). x.entry) is) in cc
      go (decides_fail rs) is =
          entry_done m from cells evs r may.replayed r.planner.entry (spare_left m from cells evs r may.replayed mv.room)
          (inr (f, is_fail)) ev
          is_failed ((going.goes m from cells evs r q p mv may).goes.steps, (going.goes m from cells evs r q p mv may).goes.legal) by.has
          (ap (λ (x : Event). x.cells) is) (ap (λ (x : Event). x.after) is) mid (record mid { mode = mode.Failed }) notes
          (plain_words.still mid.hall notes.rest.plain) notes.rest refl refl refl refl

  pub made_says : (mid : Replay) (e : WordMove) (n : ℕ)
      → IsEntered (λ h. length h.words.items / 1024) (λ h. h.due) (λ h. h.quota) (λ h. h.spare) (λ h. []) IsSilent IsFound IsAdded r.hall
      mid.hall r.planner mid.planner p e n
      → IsCommit e.entry ⊎ IsHang e.entry → mid.ready ≡ r.ready → mid.entries ≡ r.entries → mid.mode ≡ r.mode
      → mid.hall.spare ≡ r.hall.spare - 1 → (new : Replay) (a : Stepped) → NotedSays q mid new a
      → StepSays m from cells evs r.planner.entry new a
  made_says mid e n en kind table entries mode spare new answer.Done notes =
      done m from cells evs r q p mv may mid e n en kind table entries mode spare new notes
  made_says mid e n en kind table entries mode spare new answer.NoMemory notes = planned_allowed
  made_says mid e n en kind table entries mode spare new (answer.Wrong w) notes = absurd notes
  made_says mid e n en kind table entries mode spare new (answer.Spent a b) notes = absurd notes

  -- where its cells are not left nothing was made
  pub spent_says : r.hall.quota.cells < r.planner.cells
      → StepSays m from cells evs r.planner.entry r (answer.Spent r.planner.cells r.hall.quota.cells)
  spent_says over = (
    record {
      event = ev;
      is_next = ((going.goes m from cells evs r q p mv may).goes.steps, (going.goes m from cells evs r q p mv may).goes.legal);
      costs = (going.goes m from cells evs r q p mv may).cells;
      rest = may.replayed.spent;
      over = over;
    },
    may.replayed,
  )

-- what the making of a planned move says, of the replay with the hall and the planner behind it
module _ (r : Replay) (q : Proc) (p : ℕ) (mv : IsMoving r q p) (hall : PlainHall) (planner : Planner) where
  abbrev mid : Replay
  mid = record r { hall = hall; planner = planner }

  abbrev Says : Turn → Type 0
  Says t = FinishSays (λ h. length h.words.items / 1024) (λ h. h.due) (λ h. h.quota) (λ h. h.spare) (λ h. []) IsSilent IsFound IsAdded
      r.hall hall r.planner planner p t

  abbrev Rests : Turn → Type 0
  Rests t = hall.spare ≡ (if has_made t then r.hall.spare - 1 else r.hall.spare)

  pub in_use : (t : Turn) (n : ℕ) → ((t ≡ turn.Committed n) ⊎ (t ≡ turn.Hung n)) → Says t → MayMakeSome r p → IsPlain hall
      → AreInUse hall.words.items planner.children.items × AreInUse hall.words.items planner.woken.items
  in_use t n (inl is) says some plain =
      let d = subst Says is says in
      let children = children_known some.program some.from some.cells some.events r q p mv some.made mid d.0 n d.1 plain in
      (children, woken_known some.program some.from some.cells some.events r q p mv some.made mid d.0 n d.1 plain)
  in_use t n (inr is) says some plain =
      let d = subst Says is says in
      let children = children_known some.program some.from some.cells some.events r q p mv some.made mid d.0 n d.1 plain in
      (children, woken_known some.program some.from some.cells some.events r q p mv some.made mid d.0 n d.1 plain)

  pub noted_says : (m : Program) (from : State) (cells : ℕ) (evs : List Event) → MayMake m from cells evs r p → (t : Turn) (n : ℕ)
      → ((t ≡ turn.Committed n) ⊎ (t ≡ turn.Hung n)) → Says t → Rests t → (new : Replay) (a : Stepped) → NotedSays q mid new a
      → StepSays m from cells evs r.planner.entry new a
  noted_says m from cells evs may t n (inl is) says rests new a noted =
      let d = subst Says is says in
      made_says m from cells evs r q p mv may mid d.0 n d.1 (inl d.2) refl refl refl (subst Rests is rests) new a noted
  noted_says m from cells evs may t n (inr is) says rests new a noted =
      let d = subst Says is says in
      made_says m from cells evs r q p mv may mid d.0 n d.1 (inr d.2) refl refl refl (subst Rests is rests) new a noted
