use Rattle.head_code.proofs.ArgumentLoops.{stocked_argument}
use Rattle.head_code.proofs.arguments.stocked.Goals as goal

pub returns-clause-code : goal.returns-clause-code
returns-clause-code c =
    stocked_argument _ _ _ _ _ _ _ _ _ c.requires c.in_ok-parts.ensures c.in_ok-free.ensures.next c.in_ok-free.ensures.code
    c.in_ok-opened.ensures.code
