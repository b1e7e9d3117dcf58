use Rattle.std.proofs.Common.{rules, w64, to_z-of_z, ap, ◌∙◌}
use Rattle.machine_code.specs.Reading.{wide}
use Rattle.head_code.proofs.Emitting.{emits_wide}
use Rattle.head_code.proofs.emitter.Emitter.emit_number.Goals as goal

pub returns-in-Ok : goal.returns-in-Ok
returns-in-Ok c =
    emits_wide _ c.small.new.self _ _ _ _ _ _ _ _ c.in-Ok.ensures.items c.in_ok-at.ensures.instrs c.in_ok-at.ensures.smalls
    c.in_ok-at.ensures.steps c.encode-2.ensures.back c.encode.ensures.back c.in_ok-at.ensures.there
    (ap (λ z. wide z c.split-low.result.1) (to_z-of_z {w = w64} {z = c.split-low.result.0} (search rules))
    ∙ c.split-low.ensures.value
    ∙ to_z-of_z {w = w64} {z = c.args.value} (search rules))
