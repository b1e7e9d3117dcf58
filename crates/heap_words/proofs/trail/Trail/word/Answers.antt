use Rattle.std.proofs.Common.{◌≡◌, sym, ◌∙◌, None}
use Rattle.heap_words.specs.Trails.{word_at}
use Rattle.heap_words.proofs.Keeps.{kept_one, kept_holds, says_kept, says_own, new_there}
use Rattle.heap_words.proofs.trail.Trail.word.Goals as goal

pub returns-in_ok-keep-clause-loaded : goal.returns-in_ok-keep-clause-loaded
returns-in_ok-keep-clause-loaded g c = record {
  sound = g.met.W.Words.laws.stays_sound _ _ c.requires.sound c.load-word.ensures.later;
  went = rw c.in_ok-keep.ensures.kept
      (kept_one g.met.W.Words.laws _ _ _ _ _ c.load-word.ensures.later c.load-word.ensures.gave c.if-addr-lt-OWN.true);
  holds = rw (c.in_ok-keep.ensures.kept, c.in_ok-keep.ensures.binds)
      (kept_holds g.met.W.Words.laws _ _ _ _ _ _ c.load-word.ensures.later c.load-word.ensures.gave c.if-addr-lt-OWN.true c.requires.holds);
}

pub returns-in_ok-keep-clause-word : goal.returns-in_ok-keep-clause-word
returns-in_ok-keep-clause-word g c m i =
    let new : word_at c.args.self.now.kept c.args.addr ≡ None = sym c.in_default.ensures in
    says_kept _ _ m _ _ (rw c.in_ok-keep.ensures.kept (new_there c.args.self.now.kept c.args.addr _ new)) i

pub returns-else-addr-lt-OWN-clause-word : goal.returns-else-addr-lt-OWN-clause-word
returns-else-addr-lt-OWN-clause-word g c m i =
    says_own _ _ m _ _ (g.met.W.Words.laws.same_own _ _ _ c.load-word.ensures.later ∙ c.load-word.ensures.own c.if-addr-lt-OWN.false) i
