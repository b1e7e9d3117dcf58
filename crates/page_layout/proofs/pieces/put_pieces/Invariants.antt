use Rattle.std.proofs.Common.{◌≡◌, ◌++◌, ◌+◌, ◌≤◌, ℕ, drop, length}
use Rattle.word_states.specs.Planning.{laid_rows}
use Rattle.page_layout.specs.Laying.{moved_to, total, cuts, AreNamed}
use Rattle.page_layout.specs.Writing.{written}
use Rattle.page_layout.proofs.pieces.put_pieces.Given as goal

-- what is written and what is left are all
abbrev pub invariant-loop-size : goal.invariant-loop-size
invariant-loop-size l = record {
  writes : (n : ℕ) → written n l.writes.items
      ++ laid_rows (moved_to l.table) n l.place l.process (4000000000 + l.first) (cuts (drop l.size-index l.sizes) l.rest)
      ≡ written n l.fn.writes.items ++ laid_rows (moved_to l.table) n 1 1 4000000000 (cuts l.sizes l.own);
  size : l.first + total (drop l.size-index l.sizes) ≡ length l.table;
  own : length l.rest ≡ total (drop l.size-index l.sizes);
  place : l.place ≤ l.size-index + 1;
  process : l.process ≤ l.size-index + 1;
  named : AreNamed (cuts (drop l.size-index l.sizes) l.rest);
}
