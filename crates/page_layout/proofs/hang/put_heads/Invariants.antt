use Rattle.std.proofs.Common.{◌≡◌, ◌*◌, ◌++◌, ℕ, drop}
use Rattle.page_layout.specs.Writing.{written}
use Rattle.page_layout.specs.Hangs.{heads_at}
use Rattle.page_layout.proofs.hang.put_heads.Given as goal

-- what is written and what is left are all
abbrev pub invariant-loop-list : goal.invariant-loop-list
invariant-loop-list l = record {
  writes : (n : ℕ) → written n l.writes.items ++ heads_at l.table l.first (drop l.list-index l.lists)
      ≡ written n l.fn.writes.items ++ heads_at l.table 0 l.lists;
  first : l.first ≡ 3 * l.list-index;
}
