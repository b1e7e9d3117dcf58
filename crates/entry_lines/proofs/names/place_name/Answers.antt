use Rattle.entry_lines.proofs.Agreeing.{still_store}
use Rattle.entry_lines.proofs.NamedWords.{names_place}
use Rattle.entry_lines.proofs.names.place_name.Goals as goal

pub returns-clause-name : goal.returns-clause-name
returns-clause-name g c =
    names_place g.met.W.Words.laws c.args.place c.in_ok-name.name c.in_ok-name.ensures.loaded.sound
    (still_store g.met.W.Words.laws c.name_at.ensures.between c.requires.reads.store) c.in_ok-name.ensures.name
