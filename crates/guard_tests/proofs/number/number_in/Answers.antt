use Rattle.std.proofs.Common.{Some, sym, ap, ◌∙◌}
use Rattle.heap_words.specs.declared.cell.Cell.{Cell}
use Rattle.ro_unify.specs.Alike.{wide_of}
use Rattle.ro_unify.proofs.Leads.{wide_known}
use Rattle.guard_tests.proofs.number.number_in.Goals as goal

pub word-requires-clause-known : goal.word-requires-clause-known
word-requires-clause-known g c =
    wide_known g.met.W.Words.laws _ _ c.in-Some-Wide.low c.in-Some-Wide.high c.requires.sound c.requires.leads
    (ap wide_of (sym c.in-Some-Wide.ensures.value) ∙ ap (λ (d : Cell). wide_of (Some d)) c.in-Some-Wide.field-0-is)
