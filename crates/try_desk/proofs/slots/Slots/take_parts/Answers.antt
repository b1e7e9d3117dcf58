use Rattle.std.proofs.Common.{◌≡◌, ◌+◌, refl, ◌∙◌, arith}
use Rattle.heap_words.proofs.Keeps.{loaded_none, loaded_twice, still_says}
use Rattle.ro_unify.specs.Occurs.{words_after}
use Rattle.try_desk.specs.Held.{held}
use Rattle.try_desk.specs.Opened.{held_all}
use Rattle.try_desk.proofs.Opened.{one_so}
use Rattle.try_desk.proofs.OpenedTuples.{part_taken, part_seen}
use Rattle.try_desk.proofs.slots.Slots.take_parts.Goals as goal

pub loop-i-init : goal.loop-i-init
loop-i-init g c = record {
  loaded = loaded_none g.met.W.Words.laws _ _ _ c.requires.sound c.requires.holds;
  binds = refl;
  reads = refl;
  seen = λ b lo hi. absurd (omega arith);
  takes = λ m i. refl;
  lead = λ all. all;
  keeps = record { args = refl; count = refl };
}

pub word-requires-clause-known : goal.word-requires-clause-known
word-requires-clause-known g c =
    g.met.W.Words.laws.stays_known _ _ _ c.loop-i.invariant.loaded.went.between
    (c.requires.known (c.args.at + (c.loop-i.i + 1)) (omega arith) (omega arith))

pub overflow_add-at : goal.overflow_add-at
overflow_add-at g c =
    let known = c.requires.known (c.args.at + (c.loop-i.i + 1)) (omega arith) (omega arith) in
    let below = g.met.W.Words.laws.in_range _ _ c.requires.sound known in
    let few = g.met.W.Words.laws.few _ c.requires.sound in
    omega (arith, below, few)

pub loop-i-preserved : goal.loop-i-preserved
loop-i-preserved g c = record {
  loaded = loaded_twice g.met.W.Words.laws c.loop-i.invariant.loaded c.in_ok-word.ensures.loaded;
  binds = c.word.ensures.binds ∙ c.loop-i.invariant.binds;
  reads = c.word.ensures.reads ∙ c.loop-i.invariant.reads;
  seen = λ b lo hi.
      part_seen g.met.W.Words.laws b (c.args.at + (c.loop-i.i + 1)) c.in_ok-word.word c.in_ok-word.ensures.loaded c.in_ok-word.ensures.word
      (omega arith) (λ l. c.loop-i.invariant.seen b lo (omega arith));
  takes = λ m i.
      part_taken m (held c.args.self.now) (held c.loop-i.self) (held c.hold.new.self) c.args.at c.args.first c.loop-i.i c.in_ok-word.word
      (still_says g.met.W.Words.laws
      (λ m. held c.loop-i.self ≡ held_all (held c.args.self.now) c.args.first (words_after m c.args.at c.loop-i.i))
      c.in_ok-word.ensures.loaded c.loop-i.invariant.takes m i) c.hold.ensures.held (c.in_ok-word.ensures.word m i);
  lead = λ all.
      one_so (g.W.Words.leads c.word.new.words) (held c.loop-i.self) (held c.hold.new.self) (c.args.first + c.loop-i.i) c.in_ok-word.word
      c.hold.ensures.held
      (g.met.W.Words.laws.had_leads _ _ _ c.in_ok-word.ensures.loaded.sound c.in_ok-word.ensures.had)
      (λ k. g.met.W.Words.laws.stays_leading _ _ _ c.word.ensures.between (c.loop-i.invariant.lead all k));
  keeps = record {
    args = c.hold.ensures.keeps.args ∙ c.loop-i.invariant.keeps.args;
    count = c.hold.ensures.keeps.count ∙ c.loop-i.invariant.keeps.count;
  };
}
