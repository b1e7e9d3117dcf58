use Rattle.std.proofs.Common.{List, ◌++◌, ◌∙◌, ap}
use Rattle.fcp_model.specs.declared.run.Place.{Place}
use Rattle.fcp_model.specs.LogLines.{hang_line}
use Rattle.entry_lines.proofs.Agreeing.{reads_none, loaded_cleared}
use Rattle.entry_lines.proofs.LinesOfEntries.{hang_adds}
use Rattle.entry_lines.proofs.lines.push_hang_line.Goals as goal

pub waiting_set-requires-clause-reads : goal.waiting_set-requires-clause-reads
waiting_set-requires-clause-reads g c =
    reads_none g.met.W.Words.laws _ _ c.args.words.now c.clear.ensures.kept c.clear.ensures.binds c.requires.sound c.requires.store

pub returns-clause-loaded : goal.returns-clause-loaded
returns-clause-loaded g c =
    loaded_cleared g.met.W.Words.laws c.clear.ensures.kept c.clear.ensures.binds c.in_ok-waiting_set.ensures.loaded

pub returns-clause-line : goal.returns-clause-line
returns-clause-line g c =
    hang_adds c.args.names.now _ c.args.entry c.args.process c.args.waits.now _ _ _ c.in_ok-waiting_set.ensures.set
    (c.in_ok-push_hang_line.ensures
    ∙ ap (λ (l : List Place). c.args.out.now.items ++ hang_line c.args.entry c.args.process l) c.as_slice.ensures.value)
