use Rattle.std.proofs.Common.{subst, inl, inr}
use Rattle.move_plans.specs.declared.planner.Planned.{Planned}
use Rattle.log_replay.specs.Parts.{IsOfKind}
use Rattle.log_replay.proofs.PlannedMoves.{no_kind}
use Rattle.log_replay.proofs.replay.Replay.make_entry.Goals as goal

pub make_move-requires-clause-kind : goal.make_move-requires-clause-kind
make_move-requires-clause-kind c =
    inl (subst (λ (d : Planned). IsOfKind d c.args.self.now.planner.entry) c.in-Commits.is c.requires.kind)

pub make_move-requires-in-Hangs-clause-kind : goal.make_move-requires-in-Hangs-clause-kind
make_move-requires-in-Hangs-clause-kind c =
    inr (subst (λ (d : Planned). IsOfKind d c.args.self.now.planner.entry) c.in-Hangs.is c.requires.kind)

pub make_fail-requires-clause-kind : goal.make_fail-requires-clause-kind
make_fail-requires-clause-kind c = subst (λ (d : Planned). IsOfKind d c.args.self.now.planner.entry) c.in-Fails.is c.requires.kind

pub unreachable-requires : goal.unreachable-requires
unreachable-requires c =
    no_kind c.args.self.now.planner.entry c.args.planned c.requires.kind c.in_default.not-Commits c.in_default.not-Hangs
    c.in_default.not-Fails
