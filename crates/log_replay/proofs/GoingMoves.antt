-- A move that is planned for a Ready process goes on.
use Rattle.std.proofs.Common.{◌≡◌, ℕ, suc, ◌+◌, ◌<◌, true, List, Some, sym, ap, ◌∙◌, arith}
use Rattle.std.specs.Prelude.{pos}
use Rattle.fcp_model.specs.declared.run.Proc.{Proc}
use Rattle.fcp_model.specs.declared.run.Entry.{Entry}
use Rattle.fcp_model.specs.declared.run.Entry.TheVariants.{Commit, Hang, Fail, Snapshot, Suspend, Resume, Abort}
use Rattle.fcp_model.specs.Programs.{Program}
use Rattle.fcp_model.specs.States.{State, is_running, process_named}
use Rattle.fcp_model.specs.Events.{Event}
use Rattle.fcp_model.specs.Runs.{last_state}
use Rattle.heap_words.specs.Heaps.{inside_at}
use Rattle.heap_words.specs.declared.cell.Cell.TheVariants.{Small}
use Rattle.word_states.specs.Words.{Words, At, HasAll, over}
use Rattle.word_states.specs.Standing.{Book, name_code}
use Rattle.word_states.specs.Going.{Move, MayGo, GoesOn}
use Rattle.word_states.proofs.Lists.{apart_word}
use Rattle.word_states.proofs.Persisting.{one_cell}
use Rattle.word_state_laws.proofs.Alike.{name_one}
use Rattle.word_state_laws.proofs.Going.{found}
use Rattle.move_plans.specs.Plans.{move_of, IsMoveOf}
use Rattle.run_laws.specs.Running.{IsMoveBy}
use Rattle.run_laws.proofs.Fronts.{IsMadeBy, next_is}
use Rattle.log_replay.specs.declared.replay.Replay.{Replay}
use Rattle.log_replay.specs.Tables.{IsReadyAt}
use Rattle.log_replay.specs.Parts.{IsMoving, MayMake}

pub moved_by : (e : Entry) (q : Proc) → IsMoveOf e q → IsMoveBy e q
moved_by (Commit p k) q h = h
moved_by (Hang p) q h = h
moved_by (Fail p) q h = h
moved_by Snapshot q h = absurd h
moved_by Suspend q h = absurd h
moved_by Resume q h = absurd h
moved_by Abort q h = absurd h

module _ (m : Program) (from : State) (cells : ℕ) (evs : List Event) (r : Replay) (q : Proc) (p : ℕ) (mv : IsMoving r q p)
    (may : MayMake m from cells evs r p) where
  abbrev pub s : State
  s = last_state from evs

  abbrev pub ws : List ℕ
  ws = r.hall.words.items

  abbrev pub v : Move
  v = move_of r.planner p

  abbrev pub book : Book
  book = may.replayed.state.book

  pub at : IsReadyAt book s q p
  at = may.replayed.state.ready.only q p mv.at

  pub has : HasAll v.reads (inside_at ws)
  has = λ a x i. mv.read a x (apart_word v.reads a x mv.safe.reads.apart i)

  pub running : is_running s.mode ≡ true
  running = ap is_running (sym may.replayed.mode) ∙ mv.open_mode

  pub few : suc s.entries < 134217728
  few =
      let a = mv.room in let b = may.replayed.made in let c = may.replayed.log in let d = may.replayed.entries in
      let e = mv.rest.plain.few in omega arith

  pub may_go : MayGo v book ws s
  may_go = record {
    heap = mv.rest.plain.heap;
    stands = may.replayed.state.stands;
    ordered = may.replayed.ordered;
    running = running;
    few = few;
    has = has;
  }

  pub goes : GoesOn m v book s (over (v.writes (suc s.entries)) (inside_at ws))
  goes = may.fits book ws s may_go

  -- the mover has the name that its words say
  pub mover_is : mv.named.mover ≡ at.process.name
  mover_is =
      let said = (may.replayed.state.stands.process p at.process at.there).name in
      let read = mv.named.name in
      let kept : At (inside_at ws) (p + 1) (Small (pos (name_code mv.named.mover.entry mv.named.mover.number))) =
      (read.0, mv.read (p + 1) read.0 read.1, read.2) in
      let e : Small (pos (name_code mv.named.mover.entry mv.named.mover.number))
      ≡ Small (pos (name_code at.process.name.entry at.process.name.number)) = one_cell (inside_at ws) (p + 1) _ _ kept said in
      let code : name_code mv.named.mover.entry mv.named.mover.number
      ≡ name_code at.process.name.entry at.process.name.number = cc in
      name_one mv.named.mover at.process.name mv.named.small
      (may.replayed.state.stands.dated_processes p at.process at.there).1 code

  pub named_there : process_named s.processes mv.named.mover ≡ Some at.process
  named_there = ap (process_named s.processes) mover_is
      ∙ found book (inside_at ws) s p at.process may.replayed.state.stands at.there

  pub made_by : (w' : Words) (g : GoesOn m v book s w') → IsMadeBy g.goes.steps m s at.process v.entry g.goes.event
  made_by w' g =
      next_is g.goes.steps m s v.entry mv.named.mover at.process g.goes.event (moved_by v.entry mv.named.mover mv.named.is_move) named_there
      g.goes.legal
