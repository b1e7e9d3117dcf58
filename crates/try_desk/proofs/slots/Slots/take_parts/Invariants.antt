use Rattle.std.proofs.Common.{◌≡◌, ◌+◌, ◌≤◌, ◌<◌, ℕ}
use Rattle.heap_words.specs.Trails.{KeepsLoads, Says}
use Rattle.ro_unify.specs.Walks.{IsSeen}
use Rattle.ro_unify.specs.Occurs.{words_after}
use Rattle.try_desk.specs.Held.{held, held_term}
use Rattle.try_desk.specs.Keeping.{KeepsArguments}
use Rattle.try_desk.specs.Opened.{held_all}
use Rattle.try_desk.proofs.slots.Slots.take_parts.Given as goal

abbrev pub invariant-loop-i : goal.invariant-loop-i
invariant-loop-i g l = record {
  loaded : KeepsLoads g.W.Words.sound g.W.Words.had g.W.Words.leads g.W.Words.later g.W.Words.gave l.fn.trail.kept l.fn.trail.binds
      l.fn.words l.trail.kept l.trail.binds l.words;
  binds : l.trail.binds ≡ l.fn.trail.binds;
  reads : l.trail.reads.items ≡ l.fn.trail.reads.items;
  seen : (b : ℕ) → l.at < b → b ≤ l.at + l.i → IsSeen l.trail.kept (g.W.Words.own l.words) b;
  takes : Says (g.W.Words.own l.words) l.trail.kept
      (λ m. held l.self ≡ held_all (held l.fn.self) l.first (words_after m l.at l.i));
  lead : ((k : ℕ) → g.W.Words.leads l.fn.words (held_term (held l.fn.self) k)) → (k : ℕ)
      → g.W.Words.leads l.words (held_term (held l.self) k);
  keeps : KeepsArguments l.fn.self l.self;
}
