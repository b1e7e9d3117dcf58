use Rattle.suspension_lists.proofs.Gathering.{waiting_same}
use Rattle.suspension_lists.proofs.Waking.{kept_wakes}
use Rattle.suspension_lists.proofs.waiting.Sleepers.find.Goals as goal

pub returns-clause-wakes : goal.returns-clause-wakes
returns-clause-wakes g c =
    rw (c.in_ok-put_processes.ensures, c.as_slice.ensures.value)
    (kept_wakes _ (waiting_same c.sort_once.ensures.same c.in_ok-gather.ensures.waiting) c.sort_once.ensures.rise)
