use Rattle.std.proofs.Common.{codes, arith, get_or}
use Rattle.fcp_model.specs.declared.source.Export.{Export}
use Rattle.fcp_text.specs.SourceClauses.{export_text}
use Rattle.fcp_text.proofs.Progress.{begin_as, go_on, stop, finish, moved}
use Rattle.fcp_text.proofs.PartedTexts.{element_is, parted_first, behind_step, behind_here, behind_none}
use Rattle.fcp_text.proofs.write_clauses.write_exports.Goals as goal

-- what stands for an export past the end
abbrev past_end : Export
past_end = record { at = 0; name = record { 0 = 0 }; arity = 0 }

pub returns-in_err-write_export : goal.returns-in_err-write_export
returns-in_err-write_export g c =
    stop _ _ _ c.from_residual.ensures.0 c.in_err-write_export.ensures _
    (begin_as (parted_first (export_text c.args.names.now) (codes ",") c.args.exports.now c.args.from
    (get_or c.args.exports.now c.args.from past_end) (omega arith) (element_is c.args.exports.now c.args.from past_end (omega arith))))

pub loop-at-init : goal.loop-at-init
loop-at-init g c =
    go_on c.in_ok-write_export.ensures
    (begin_as (parted_first (export_text c.args.names.now) (codes ",") c.args.exports.now c.args.from
    (get_or c.args.exports.now c.args.from past_end) (omega arith) (element_is c.args.exports.now c.args.from past_end (omega arith))))

pub returns-in_err-put : goal.returns-in_err-put
returns-in_err-put g c =
    stop _ _ _ c.from_residual-in_err-put.ensures.0 c.in_err-put.ensures _
    (moved (behind_here (export_text c.args.names.now) (codes ",") c.args.exports.now c.loop-at.at past_end
    (omega arith)) c.loop-at.invariant)

pub returns-in_err-write_export-2 : goal.returns-in_err-write_export-2
returns-in_err-write_export-2 g c =
    stop _ _ _ c.from_residual-in_err-write_export-2.ensures.0 c.in_err-write_export-2.ensures _
    (go_on c.in_ok-put.ensures
    (moved (behind_step (export_text c.args.names.now) (codes ",") c.args.exports.now c.loop-at.at
    (get_or c.args.exports.now c.loop-at.at past_end) (omega arith)
    (element_is c.args.exports.now c.loop-at.at past_end (omega arith))) c.loop-at.invariant))

pub loop-at-preserved : goal.loop-at-preserved
loop-at-preserved g c =
    go_on c.in_ok-write_export-2.ensures (go_on c.in_ok-put.ensures
    (moved (behind_step (export_text c.args.names.now) (codes ",") c.args.exports.now c.loop-at.at
    (get_or c.args.exports.now c.loop-at.at past_end) (omega arith)
    (element_is c.args.exports.now c.loop-at.at past_end (omega arith))) c.loop-at.invariant))

pub returns : goal.returns
returns g c =
    finish (moved (behind_none (export_text c.args.names.now) (codes ",") c.args.exports.now c.loop-at.at
    (omega arith)) c.loop-at.invariant)
