use Rattle.std.proofs.Common.{◌≡◌, List, ◌++◌, ap, ◌∙◌}
use Rattle.std.specs.Option.{option_to_list}
use Rattle.fcp_model.specs.declared.fault.Code.TheVariants.{UnknownAttribute, RepeatedModule, Reserved, UnknownTest, UnknownProcedure, ExportUnknown, BadExpression}
use Rattle.fcp_model.specs.declared.fault.Fault.{Fault}
use Rattle.fcp_model.specs.declared.source.Clause.{Clause}
use Rattle.fcp_model.specs.declared.source.Module.{Module}
use Rattle.fcp_loader.specs.Faults.{faults_at, reserved_heads, unknown_tests, unknown_in_bodies, unknown_exports, leaves_of_clauses}
use Rattle.fcp_loader.specs.Firsts.{first_of}
use Rattle.fcp_loader.proofs.FirstFaults.{then_more}
use Rattle.fcp_loader.proofs.checks.fault_in_module.Goals as goal

pub returns : goal.returns
returns c =
    let m : Module = c.args.loaded.now in
    let clauses : c.as_slice-clauses.result.now ≡ m.clauses = c.as_slice-clauses.ensures
    ∙ ap (λ (n : Module). n.clauses) c.module-module.ensures in
    let attributes : List Fault = faults_at UnknownAttribute (option_to_list m.other) in
    let names : List Fault = faults_at RepeatedModule (option_to_list m.again) in
    let heads : List Fault = faults_at Reserved (reserved_heads m.clauses) in
    let guards : List Fault = faults_at UnknownTest (unknown_tests m.clauses) in
    let bodies : List Fault = faults_at UnknownProcedure (unknown_in_bodies m) in
    let exports : List Fault = faults_at ExportUnknown (unknown_exports m) in
    let leaves : List Fault = faults_at BadExpression (leaves_of_clauses m.clauses) in
    then_more (attributes ++ names ++ heads ++ guards ++ bodies ++ exports) leaves _ _ _ c.earlier.ensures
    (then_more (attributes ++ names ++ heads ++ guards ++ bodies) exports _ _ _ c.earlier-exports.ensures
    (then_more (attributes ++ names ++ heads ++ guards) bodies _ _ _ c.earlier-bodies.ensures
    (then_more (attributes ++ names ++ heads) guards _ _ _ c.earlier-guards.ensures
    (then_more (attributes ++ names) heads _ _ _ c.earlier-heads.ensures
    (then_more attributes names _ _ _ c.earlier-names.ensures
    (c.fault_at.ensures ∙ ap (λ (n : Module). first_of (faults_at UnknownAttribute (option_to_list n.other))) c.module-module.ensures)
    (c.fault_at-2.ensures ∙ ap (λ (n : Module). first_of (faults_at RepeatedModule (option_to_list n.again))) c.module-module.ensures))
    (c.reserved_head.ensures ∙ ap (λ (cs : List Clause). first_of (faults_at Reserved (reserved_heads cs))) clauses))
    (c.unknown_test.ensures ∙ ap (λ (cs : List Clause). first_of (faults_at UnknownTest (unknown_tests cs))) clauses))
    c.unknown_in_bodies.ensures)
    c.unknown_export.ensures)
    (c.leaf_in_clauses.ensures ∙ ap (λ (cs : List Clause). first_of (faults_at BadExpression (leaves_of_clauses cs))) clauses)
