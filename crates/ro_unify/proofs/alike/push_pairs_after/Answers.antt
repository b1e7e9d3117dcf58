use Rattle.std.proofs.Common.{◌≡◌, ◌-◌, ◌+◌, ◌++◌, arith, sym, ap, ◌∙◌}
use Rattle.heap_words.proofs.Keeps.{loaded_twice, still_says}
use Rattle.ro_unify.specs.Occurs.{stack}
use Rattle.ro_unify.specs.Alike.{pairs_after}
use Rattle.ro_unify.proofs.Stacks.{pairs_before, pushed}
use Rattle.ro_unify.proofs.Leads.{push_two_leads}
use Rattle.ro_unify.proofs.alike.push_pairs_after.Goals as goal

pub loop-left-preserved : goal.loop-left-preserved
loop-left-preserved g c = record {
  loaded = loaded_twice g.met.W.Words.laws c.loop-left.invariant.loaded c.in_ok-found.ensures.loaded;
  binds = c.both.ensures.binds ∙ c.loop-left.invariant.binds;
  reads = c.both.ensures.reads ∙ c.loop-left.invariant.reads;
  left = omega arith;
  work = λ m i.
      pushed c.loop-left.work.items c.push_two.new.work.items (c.in_ok-found.found.0, c.in_ok-found.found.1)
      (pairs_after m (c.args.at + c.loop-left.left) (c.args.to + c.loop-left.left) (c.args.count - c.loop-left.left))
      (stack c.args.work.now.items) c.in_ok-push_two.ensures
      (still_says g.met.W.Words.laws
      (λ m. stack c.loop-left.work.items ≡ pairs_after m (c.args.at + c.loop-left.left) (c.args.to + c.loop-left.left)
      (c.args.count - c.loop-left.left) ++ stack c.args.work.now.items) c.in_ok-found.ensures.loaded c.loop-left.invariant.work m i)
      ∙ ap (λ ws. ws ++ stack c.args.work.now.items)
      (sym (pairs_before m c.args.at c.args.to c.loop-left.left c.args.count c.in_ok-found.found.0 c.in_ok-found.found.1
      (omega arith) c.loop-left.invariant.left (c.in_ok-found.ensures.one m i) (c.in_ok-found.ensures.two m i)));
  leads = λ h.
      push_two_leads g.met.W.Words.laws _ _ _ _
      (c.in_ok-found.found.0, c.in_ok-found.found.1) c.loop-left.work.items c.push_two.new.work.items c.in_ok-found.ensures.loaded.sound
      c.both.ensures.between c.in_ok-found.ensures.had c.in_ok-push_two.ensures (c.loop-left.invariant.leads h);
}
