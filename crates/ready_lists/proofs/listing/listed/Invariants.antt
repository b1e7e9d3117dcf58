use Rattle.std.proofs.Common.{◌*◌}
use Rattle.ready_lists.specs.Finding.{stands_so, HasFound}
use Rattle.ready_lists.proofs.listing.listed.Given as goal

abbrev pub invariant-loop-page : goal.invariant-loop-page
invariant-loop-page l = HasFound (stands_so l.sought) l.words (1024 * l.page) l.found.items
