use Rattle.std.proofs.Common.{◌≡◌, ◌++◌, ◌+◌, drop, length, map}
use Rattle.word_states.specs.Pieces.{process_words}
use Rattle.page_layout.specs.Laying.{moved_to, total, cuts}
use Rattle.move_plans.proofs.children.put_children.Given as goal

-- what was put and what is left are all
abbrev pub invariant-loop-size : goal.invariant-loop-size
invariant-loop-size l = record {
  all : l.children.items
      ++ map (moved_to l.table) (process_words (4000000000 + l.first) (cuts (drop l.size-index l.sizes) l.rest))
      ≡ map (moved_to l.table) (process_words 4000000000 (cuts l.sizes l.own));
  size : l.first + total (drop l.size-index l.sizes) ≡ length l.own;
  own : length l.rest ≡ total (drop l.size-index l.sizes);
}
