use Rattle.std.proofs.Common.{◌++◌, ◌∷◌, ◌∙◌, ap, ℕ, [], refl, sym, subst, false, true}
use Rattle.ro_unify.specs.Occurs.{stack}
use Rattle.ro_unify.specs.Unify.{Acts, nothing, wait, binding}
use Rattle.ro_unify.specs.declared.table.Move.{Move}
use Rattle.ro_unify.specs.declared.unification.Unified.TheVariants as unified
use Rattle.ro_unify.proofs.Leads.{pairs_stay}
use Rattle.ro_unify.specs.Value.{leads_on}
use Rattle.ro_unify.proofs.Chains.{open_seen}
use Rattle.ro_unify.proofs.Ending.{tame_later}
use Rattle.ro_unify.proofs.Walkings.{link_walked}
use Rattle.ro_unify.proofs.Turns.{are_alike, are_other, is_ordered, is_bound}
use Rattle.ro_unify.proofs.unification.turn.Goals as goal

pub returns-in-Nothing-clause-acts : goal.returns-in-Nothing-clause-acts
returns-in-Nothing-clause-acts g c m i = rw c.in-Nothing.is ([], nothing, refl)

pub returns-in-Wait-clause-acts : goal.returns-in-Wait-clause-acts
returns-in-Wait-clause-acts g c m i = rw c.in-Wait.is wait

pub returns-in_ok-order-in-Order-clause-acts : goal.returns-in_ok-order-in-Order-clause-acts
returns-in_ok-order-in-Order-clause-acts g c m i =
    rw c.in-Order.is (
      [],
      is_ordered c.args.trail.now.binds m c.args.trail.now.reads.items c.in-Order.p c.in-Order.q _ _
          (c.in_ok-order-in-Order.ensures.binds m i) c.order.ensures.reads,
      refl,
    )

pub returns-in_ok-order-in-Order-clause-leads : goal.returns-in_ok-order-in-Order-clause-leads
returns-in_ok-order-in-Order-clause-leads g c h = pairs_stay g.met.W.Words.laws _ _ (stack c.args.work.now.items) c.order.ensures.between h

pub returns-in_ok-bind_word-in-Bind-clause-acts : goal.returns-in_ok-bind_word-in-Bind-clause-acts
returns-in_ok-bind_word-in-Bind-clause-acts g c m i =
    rw c.in-Bind.is (
      [],
      is_bound c.args.trail.now.binds m c.args.trail.now.reads.items c.in-Bind.p c.in-Bind.q _ _
          (c.in_ok-bind_word-in-Bind.ensures.binds ∙ ap
          (λ (x : ℕ). c.args.trail.now.binds ++ binding c.in-Bind.p x ∷ []) c.encode.ensures.value) c.bind_word.ensures.reads,
      refl,
    )

pub bind_word-requires-clause-seen : goal.bind_word-requires-clause-seen
bind_word-requires-clause-seen g c = let r = rw c.in-Bind.is at c.requires.ready in open_seen _ _ c.in-Bind.p r.1.1

pub bind_word-requires-clause-walked : goal.bind_word-requires-clause-walked
bind_word-requires-clause-walked g c =
    let r =
    rw c.in-Bind.is at c.requires.ready in link_walked _ _ _ c.in-Bind.p c.in-Bind.q c.encode.result true r.2 r.3
    (ap (leads_on false) c.encode.ensures.back)

pub returns-then-branch-2-clause-tame : goal.returns-then-branch-2-clause-tame
returns-then-branch-2-clause-tame g c =
    tame_later g.met.W.Words.laws c.in_ok-push_alike-in-Solids.ensures.loaded c.push_alike.ensures.binds c.requires.tame

pub returns-else-branch-2-clause-tame : goal.returns-else-branch-2-clause-tame
returns-else-branch-2-clause-tame g c =
    tame_later g.met.W.Words.laws c.in_ok-push_alike-in-Solids.ensures.loaded c.push_alike.ensures.binds c.requires.tame

pub returns-then-branch-clause-leads : goal.returns-then-branch-clause-leads
returns-then-branch-clause-leads g c h = pairs_stay g.met.W.Words.laws _ _ (stack c.args.work.now.items) c.check.ensures.between h

pub returns-else-branch-clause-leads : goal.returns-else-branch-clause-leads
returns-else-branch-clause-leads g c h = pairs_stay g.met.W.Words.laws _ _ (stack c.args.work.now.items) c.check.ensures.between h

pub returns-then-branch-2-clause-acts : goal.returns-then-branch-2-clause-acts
returns-then-branch-2-clause-acts g c m i =
    subst (λ (v : Move). Acts m c.args.trail.now.binds c.args.trail.now.reads.items v
    (stack c.args.work.now.items) c.push_alike.new.trail.binds c.push_alike.new.trail.reads.items
    (stack c.push_alike.new.work.items) unified.Done) (sym c.in-Solids.is)
    (are_alike c.args.trail.now.binds m c.args.trail.now.reads.items c.in-Solids.left c.in-Solids.right (stack c.args.work.now.items)
    (stack c.push_alike.new.work.items) c.in_ok-push_alike-in-Solids.field-0 _ _
    (c.in_ok-push_alike-in-Solids.ensures.work m i) c.push_alike.ensures.binds c.push_alike.ensures.reads c.if-branch-2.true)

pub returns-else-branch-2-clause-acts : goal.returns-else-branch-2-clause-acts
returns-else-branch-2-clause-acts g c m i =
    rw c.in-Solids.is (are_other c.args.trail.now.binds m c.args.trail.now.reads.items c.in-Solids.left c.in-Solids.right
    (stack c.args.work.now.items) (stack c.push_alike.new.work.items) c.in_ok-push_alike-in-Solids.field-0 _
    (c.in_ok-push_alike-in-Solids.ensures.work m i) c.push_alike.ensures.reads c.if-branch-2.false)
