use Rattle.std.proofs.Common.{◌≡◌, ◌≤◌, ◌<◌, ℕ, take}
use Rattle.heap_words.specs.Trails.{KeepsLoads, word_at}
use Rattle.word_states.specs.Words.{Words}
use Rattle.suspension_lists.specs.Waking.{Within}
use Rattle.page_layout.specs.Laying.{IsLaid}
use Rattle.page_layout.specs.FirstFit.{next_free}
use Rattle.page_layout.specs.Looking.{AreOpened, WasLooked, free_in}
use Rattle.page_layout.proofs.Fitting.{FitsTo}
use Rattle.page_layout.proofs.rooms.lay.Given as goal

abbrev pub invariant-loop-need : goal.invariant-loop-need
invariant-loop-need g l = record {
  loaded : KeepsLoads g.W.Words.sound g.W.Words.had g.W.Words.leads g.W.Words.later g.W.Words.gave l.fn.trail.kept l.fn.trail.binds
      l.fn.words l.trail.kept l.trail.binds l.words;
  binds : l.trail.binds ≡ l.fn.trail.binds;
  reads : l.trail.reads.items ≡ l.fn.trail.reads.items;
  low : l.from ≤ l.next;
  next : l.next ≤ l.pages;
  opened : AreOpened l.trail.kept l.rooms.items l.from l.next;
  looked : (p : ℕ) → l.from ≤ p → p < l.next → WasLooked l.trail.kept l.rooms.items p;
  laid : IsLaid l.rooms.items l.table.items (take l.need-index l.sizes);
  fits : (w : Words) → Within (word_at l.trail.kept) w
      → FitsTo l.from l.pages (next_free w) (take l.need-index l.sizes) l.table.items (free_in w l.rooms.items);
}
