use Rattle.entry_lines.proofs.LinesOfEntries.{set_named}
use Rattle.entry_lines.proofs.hangs.waiting_set.Goals as goal

pub returns-clause-set : goal.returns-clause-set
returns-clause-set g c =
    set_named _ c.args.addresses.now _ _ c.in_ok-put_places.ensures.named c.sort_once.ensures.same c.sort_once.ensures.by_age
