use Rattle.std.proofs.Common.{◌∙◌}
use Rattle.fcp_model.specs.Translation.{program_of}
use Rattle.heap_words.proofs.Keeps.{loaded_twice}
use Rattle.entry_lines.proofs.Agreeing.{reads_later}
use Rattle.process_texts.proofs.Cells.{had_before}
use Rattle.process_texts.proofs.GoalTexts.{numbers_are, no_procedure, no_count, status_stays, arguments_known}
use Rattle.process_texts.proofs.goals.push_goal.Goals as goal

pub returns-in_default-clause-text : goal.returns-in_default-clause-text
returns-in_default-clause-text g c =
    no_procedure _ c.args.names.now (program_of c.args.loaded.now) c.args.process _ _ c.in_ok-second.second c.in_default.ensures
    c.in_ok-second.ensures.cell

pub cell_at-requires-2-clause-reads : goal.cell_at-requires-2-clause-reads
cell_at-requires-2-clause-reads g c =
    reads_later g.met.W.Words.laws c.in_ok-second.ensures.loaded c.cell_at.ensures.binds c.requires.reads

pub returns-in_default-number_in-clause-between : goal.returns-in_default-number_in-clause-between
returns-in_default-number_in-clause-between g c =
    g.met.W.Words.laws.twice _ _ _ c.cell_at.ensures.between c.cell_at-2.ensures.between

pub returns-in_default-number_in-clause-loaded : goal.returns-in_default-number_in-clause-loaded
returns-in_default-number_in-clause-loaded g c =
    loaded_twice g.met.W.Words.laws c.in_ok-second.ensures.loaded c.in_ok-third.ensures.loaded

pub returns-in_default-number_in-clause-text : goal.returns-in_default-number_in-clause-text
returns-in_default-number_in-clause-text g c =
    no_count _ c.args.names.now (program_of c.args.loaded.now) c.args.process _ _ c.in_ok-third.third c.in_default-number_in.ensures
    c.in_ok-third.ensures.cell

pub push_called-requires-clause-reads : goal.push_called-requires-clause-reads
push_called-requires-clause-reads g c =
    reads_later g.met.W.Words.laws c.in_ok-third.ensures.loaded c.cell_at-2.ensures.binds
    (reads_later g.met.W.Words.laws c.in_ok-second.ensures.loaded c.cell_at.ensures.binds c.requires.reads)

pub push_called-requires-clause-known : goal.push_called-requires-clause-known
push_called-requires-clause-known g c =
    arguments_known g.met.W.Words.laws c.cell_at-2.new.words c.args.process c.in-Some-number_in.count c.in_ok-third.third
    c.in_ok-third.ensures.loaded.sound
    (status_stays g.met.W.Words.laws _ _ c.args.process c.cell_at-2.ensures.between
    (status_stays g.met.W.Words.laws _ _ c.args.process c.cell_at.ensures.between c.requires.status))
    c.in_ok-third.ensures.had c.in-Some-number_in.ensures

pub returns-in_err-push_called-clause-between : goal.returns-in_err-push_called-clause-between
returns-in_err-push_called-clause-between g c =
    g.met.W.Words.laws.twice _ _ _ c.cell_at.ensures.between
    (g.met.W.Words.laws.twice _ _ _ c.cell_at-2.ensures.between c.push_called.ensures.between)

pub returns-clause-between : goal.returns-clause-between
returns-clause-between g c =
    g.met.W.Words.laws.twice _ _ _ c.cell_at.ensures.between
    (g.met.W.Words.laws.twice _ _ _ c.cell_at-2.ensures.between c.push_called.ensures.between)

pub returns-clause-loaded : goal.returns-clause-loaded
returns-clause-loaded g c =
    loaded_twice g.met.W.Words.laws c.in_ok-second.ensures.loaded
    (loaded_twice g.met.W.Words.laws c.in_ok-third.ensures.loaded c.in_ok-push_called.ensures.loaded)

pub returns-clause-text : goal.returns-clause-text
returns-clause-text g c w vs bound has says goal h =
    let then = had_before w c.in_ok-push_called.ensures.loaded has in
    c.in_ok-push_called.ensures.text w vs bound has says goal h
    (numbers_are w vs c.args.process c.in-Some.procedure c.in-Some-number_in.count goal h
    (λ y e. c.in_ok-second.ensures.cell w y (had_before w c.in_ok-third.ensures.loaded then) e ∙ c.in-Some.ensures)
    (λ y e. c.in_ok-third.ensures.cell w y then e ∙ c.in-Some-number_in.ensures))
