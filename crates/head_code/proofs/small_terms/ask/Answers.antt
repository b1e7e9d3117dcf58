use Rattle.fcp_model.specs.Translation.{term_of}
use Rattle.head_code.proofs.SmallLoops.{whole_asked}
use Rattle.head_code.proofs.small_terms.ask.Goals as goal

pub returns : goal.returns
returns c = whole_asked _ _ _ _ _ _ (term_of c.args.term.now) c.in_ok-up.ensures c.in_ok-put.ensures.code c.in_ok-emit.ensures
