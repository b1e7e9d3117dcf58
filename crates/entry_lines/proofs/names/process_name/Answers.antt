use Rattle.entry_lines.proofs.Agreeing.{still_store}
use Rattle.entry_lines.proofs.NamedWords.{names_process}
use Rattle.entry_lines.proofs.names.process_name.Goals as goal

pub returns-clause-name : goal.returns-clause-name
returns-clause-name g c =
    names_process g.met.W.Words.laws c.args.process c.in_ok-name.name c.in_ok-name.ensures.loaded.sound
    (still_store g.met.W.Words.laws c.name_at.ensures.between c.requires.reads.store) c.in_ok-name.ensures.name
