use Rattle.std.proofs.Common.{◌≡◌, ◌-◌, ◌+◌, ◌++◌, arith, sym, ap, ◌∙◌}
use Rattle.heap_words.proofs.Keeps.{loaded_twice, still_says}
use Rattle.ro_unify.proofs.Seeing.{seen_or_new}
use Rattle.ro_unify.specs.Occurs.{stack, words_after}
use Rattle.ro_unify.proofs.Stacks.{words_before, pushed, each_pushed, Each-more}
use Rattle.ro_unify.proofs.occurrence.push_after.Goals as goal

pub loop-left-preserved : goal.loop-left-preserved
loop-left-preserved g c = record {
  loaded = loaded_twice g.met.W.Words.laws c.loop-left.invariant.loaded c.in_ok-word.ensures.loaded;
  binds = c.word.ensures.binds ∙ c.loop-left.invariant.binds;
  reads = c.word.ensures.reads ∙ c.loop-left.invariant.reads;
  seen = λ b lo hi.
      seen_or_new g.met.W.Words.laws b
      (c.args.at + c.loop-left.left) c.in_ok-word.word c.in_ok-word.ensures.loaded c.in_ok-word.ensures.word (omega arith)
      (λ l. c.loop-left.invariant.seen b l hi);
  left = omega arith;
  work = λ m i.
      pushed c.loop-left.work.items c.push.new.work.items c.in_ok-word.word
      (words_after m (c.args.at + c.loop-left.left) (c.args.count - c.loop-left.left))
      (stack c.args.work.now.items) c.in_ok-push.ensures
      (still_says g.met.W.Words.laws
      (λ m. stack c.loop-left.work.items ≡ words_after m (c.args.at + c.loop-left.left)
      (c.args.count - c.loop-left.left) ++ stack c.args.work.now.items) c.in_ok-word.ensures.loaded c.loop-left.invariant.work m i)
      ∙ ap (λ ws. ws ++ stack c.args.work.now.items)
      (sym (words_before m c.args.at c.loop-left.left c.args.count c.in_ok-word.word (omega arith) c.loop-left.invariant.left
      (c.in_ok-word.ensures.word m i)));
  leads = λ h.
      each_pushed (g.W.Words.leads c.word.new.words) c.loop-left.work.items c.push.new.work.items c.in_ok-word.word c.in_ok-push.ensures
      (g.met.W.Words.laws.had_leads _ _ _ c.in_ok-word.ensures.loaded.sound c.in_ok-word.ensures.had)
      (Each-more _ _ (stack c.loop-left.work.items) (λ x l. g.met.W.Words.laws.stays_leading _ _ _ c.word.ensures.between l)
      (c.loop-left.invariant.leads h));
}
