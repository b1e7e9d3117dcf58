use Rattle.std.proofs.Common.{◌+◌, ◌*◌, ◌<◌, ◌≤◌}
use Rattle.ready_lists.specs.Finding.{stands_so, HasFound}
use Rattle.ready_lists.proofs.listing.put_page.Given as goal

abbrev pub invariant-loop-addr : goal.invariant-loop-addr
invariant-loop-addr l = record {
  behind : 1024 * l.page < l.addr;
  within : l.addr ≤ 1024 * l.page + 1024;
  has : HasFound (stands_so l.sought) l.words l.addr l.found.items;
}
