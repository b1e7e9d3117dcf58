use Rattle.std.proofs.Common.{◌≡◌, [], ◌∷◌}
use Rattle.std.specs.Prelude.{slice_index}
use Rattle.fcp_text.specs.Marks as spec
use Rattle.fcp_text.proofs.MarkLaws.{mark-three}
use Rattle.fcp_text.proofs.marks.mark.Goals as goal

pub returns-clause-value : goal.returns-clause-value
returns-clause-value c =
    let three : spec.mark (slice_index c.args.text.now 0 ∷ slice_index c.args.text.now 1 ∷ slice_index c.args.text.now 2 ∷ [])
    ≡ spec.mark c.args.text.now = mark-three c.args.text.now c.requires in
    cc (c.mark_of.ensures.value, c.byte_at.ensures.value, c.byte_at-2.ensures.value, three)
