use Rattle.std.proofs.Common.{◌≡◌, List, ◌++◌, ap, ◌∙◌}
use Rattle.fcp_model.specs.declared.run.Place.{Place}
use Rattle.fcp_model.specs.Places.{Variable, places_among}
use Rattle.fcp_model.specs.Translation.{program_of}
use Rattle.fcp_model.specs.States.{Process}
use Rattle.heap_words.proofs.Keeps.{loaded_twice}
use Rattle.word_states.specs.Standing.{ProcessAt}
use Rattle.word_states.specs.Going.{ArePlaces}
use Rattle.entry_lines.proofs.Agreeing.{reads_none, reads_later, loaded_cleared, wherever_later}
use Rattle.process_texts.specs.Texts.{stand_text}
use Rattle.process_texts.proofs.Cells.{had_before}
use Rattle.process_texts.proofs.GoalTexts.{status_stays}
use Rattle.process_texts.proofs.LineTexts.{no_status, line_added}
use Rattle.process_texts.proofs.lines.push_process_line.Goals as goal

pub cell_at-requires-clause-reads : goal.cell_at-requires-clause-reads
cell_at-requires-clause-reads g c =
    reads_none g.met.W.Words.laws _ _ c.args.words.now c.clear.ensures.kept c.clear.ensures.binds c.requires.sound c.requires.store

pub returns-in_default-clause-line : goal.returns-in_default-clause-line
returns-in_default-clause-line g c =
    no_status c.args.names.now (program_of c.args.loaded.now) _ c.args.process c.args.waits.now c.in_ok-status.status _ _
    c.in_ok-status.ensures.cell c.in_default.ensures

pub process_name-requires-clause-reads : goal.process_name-requires-clause-reads
process_name-requires-clause-reads g c =
    reads_later g.met.W.Words.laws c.in_ok-status.ensures.loaded c.cell_at.ensures.binds
    (reads_none g.met.W.Words.laws _ _ c.args.words.now c.clear.ensures.kept c.clear.ensures.binds c.requires.sound c.requires.store)

pub waiting_set-requires-clause-reads : goal.waiting_set-requires-clause-reads
waiting_set-requires-clause-reads g c =
    reads_later g.met.W.Words.laws c.in_ok-name.ensures.loaded c.process_name.ensures.binds
    (reads_later g.met.W.Words.laws c.in_ok-status.ensures.loaded c.cell_at.ensures.binds
    (reads_none g.met.W.Words.laws _ _ c.args.words.now c.clear.ensures.kept c.clear.ensures.binds c.requires.sound c.requires.store))

pub waiting_set-requires-clause-known : goal.waiting_set-requires-clause-known
waiting_set-requires-clause-known g c a i =
    let r = c.requires.places a i in (
      r.0,
      g.met.W.Words.laws.stays_known _ _ _ (g.met.W.Words.laws.twice _ _ _ c.cell_at.ensures.between c.process_name.ensures.between) r.1,
    )

pub push_goal-requires-clause-reads : goal.push_goal-requires-clause-reads
push_goal-requires-clause-reads g c =
    reads_later g.met.W.Words.laws c.in_ok-waiting_set.ensures.loaded c.waiting_set.ensures.binds
    (reads_later g.met.W.Words.laws c.in_ok-name.ensures.loaded c.process_name.ensures.binds
    (reads_later g.met.W.Words.laws c.in_ok-status.ensures.loaded c.cell_at.ensures.binds
    (reads_none g.met.W.Words.laws _ _ c.args.words.now c.clear.ensures.kept c.clear.ensures.binds c.requires.sound c.requires.store)))

pub push_goal-requires-clause-status : goal.push_goal-requires-clause-status
push_goal-requires-clause-status g c =
    let r = c.in_ok-status.ensures.had in
    status_stays g.met.W.Words.laws _ _ c.args.process
    (g.met.W.Words.laws.twice _ _ _ c.process_name.ensures.between c.waiting_set.ensures.between)
    (c.in-Some.stand, (r.0, r.1, r.2 ∙ c.in-Some.ensures))

pub returns-clause-loaded : goal.returns-clause-loaded
returns-clause-loaded g c =
    loaded_cleared g.met.W.Words.laws c.clear.ensures.kept c.clear.ensures.binds
    (loaded_twice g.met.W.Words.laws c.in_ok-status.ensures.loaded (loaded_twice g.met.W.Words.laws c.in_ok-name.ensures.loaded
    (loaded_twice g.met.W.Words.laws c.in_ok-waiting_set.ensures.loaded c.in_ok-push_goal.ensures.loaded)))

pub returns-clause-line : goal.returns-clause-line
returns-clause-line g c =
    let set_goes = c.in_ok-push_goal.ensures.loaded in
    let name_goes = loaded_twice g.met.W.Words.laws c.in_ok-waiting_set.ensures.loaded set_goes in
    let status_goes = loaded_twice g.met.W.Words.laws c.in_ok-name.ensures.loaded name_goes in
    line_added c.args.names.now (program_of c.args.loaded.now) _ c.args.process c.args.waits.now c.in_ok-name.name c.in-Some.stand
    c.waiting_set.new.places.items _ _ _ _ _ _
    (λ w has y e. c.in_ok-status.ensures.cell w y (had_before w status_goes has) e ∙ c.in-Some.ensures)
    (wherever_later (λ book s. (y : Process) → ProcessAt book s c.args.process y → c.in_ok-name.name ≡ y.name) _ _
    name_goes.went.grows c.in_ok-name.ensures.name)
    (wherever_later (λ book s. (set : List Place) (reads : List Variable) → ArePlaces book.places c.args.waits.now set
    → set ≡ places_among reads → c.waiting_set.new.places.items ≡ set) _ _ set_goes.went.grows c.in_ok-waiting_set.ensures.set)
    c.in_ok-push_process.ensures
    (c.in_ok-push_stand.ensures ∙ ap (λ (l : List Place). c.push_process.new.text.items ++ stand_text c.in-Some.stand l) c.as_slice.ensures.value)
    c.in_ok-push_bytes.ensures.ok c.in_ok-push_goal.ensures.text c.in_ok-push_bytes-2.ensures.ok
