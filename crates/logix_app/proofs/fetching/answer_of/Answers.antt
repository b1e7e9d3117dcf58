use Rattle.std.specs.Prelude.{map}
use Rattle.std.specs.String.{string_bytes}
use Rattle.logix_app.proofs.AskedLimits.{asked}
use Rattle.logix_app.proofs.fetching.answer_of.Goals as goal

pub answer_order-requires-clause-asked : goal.answer_order-requires-clause-asked
answer_order-requires-clause-asked g c = asked (map string_bytes c.args.words.now) c.in-Ok.order c.in-Ok.ensures.reads
