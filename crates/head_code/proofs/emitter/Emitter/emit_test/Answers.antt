use Rattle.std.proofs.Common.{rules, refl}
use Rattle.head_code.proofs.Emitting.{emits_test}
use Rattle.head_code.proofs.emitter.Emitter.emit_test.Goals as goal

pub returns : goal.returns
returns c =
    emits_test _ _ _ _ _ _ _ _ _ _ c.in-Ok-push.ensures.items refl c.in-Ok-append.ensures.items c.in-Ok-append-2.ensures.items
    (search rules) (search rules) (search rules) c.in_ok-behind.ensures
