use Rattle.goal_layout.proofs.CallItems.{user_laid, unify_laid, assign_laid}
use Rattle.goal_layout.proofs.items.lay_item.Goals as goal

pub returns-in-User-clause-laid : goal.returns-in-User-clause-laid
returns-in-User-clause-laid c m number vars over =
    user_laid m c.args.call.now _ _ _ c.lay_call.result c.args.procedure c.args.number vars c.args.words.now c.lay_call.new.words
    c.in-User.is
    c.as_slice.ensures number c.lay_call.ensures.laid over

pub returns-in-Unify-clause-laid : goal.returns-in-Unify-clause-laid
returns-in-Unify-clause-laid c m number vars over =
    unify_laid m c.args.call.now _ _ c.lay_unify.result c.args.procedure c.args.number vars c.args.words.now c.lay_unify.new.words
    c.in-Unify.is number c.lay_unify.ensures.laid over

pub returns-in-Assign-clause-laid : goal.returns-in-Assign-clause-laid
returns-in-Assign-clause-laid c m number vars over =
    assign_laid m c.args.call.now _ _ c.lay_assign.result c.args.procedure c.args.number vars c.args.words.now c.lay_assign.new.words
    c.in-Assign.is number c.lay_assign.ensures.laid over
