use Rattle.std.proofs.Common.{◌≡◌, ◌∙◌, rules, w64, to_z, of_z, to_z-of_z, arith}
use Rattle.try_desk.proofs.Constants.{number_taken, long_taken}
use Rattle.try_desk.proofs.desk.Desk.put_integer.Goals as goal

pub returns-in-Some-clause-takes : goal.returns-in-Some-clause-takes
returns-in-Some-clause-takes c =
    let same : to_z w64 (of_z w64 c.args.value) ≡ c.args.value = to_z-of_z {w = w64} {z = c.args.value} (search rules) in
    number_taken c.args.self.now c.put_word.new.self c.args.slot c.in-Some.word _ c.args.value c.in-Some.ensures.some same
    c.put_word.ensures.becomes

pub returns-in_ok-put_wide-in-None-clause-takes : goal.returns-in_ok-put_wide-in-None-clause-takes
returns-in_ok-put_wide-in-None-clause-takes c =
    let same : to_z w64 (of_z w64 c.args.value) ≡ c.args.value = to_z-of_z {w = w64} {z = c.args.value} (search rules) in
    let low : to_z w64 (of_z w64 c.split-low.result.0) ≡ c.split-low.result.0 =
    to_z-of_z {w = w64} {z = c.split-low.result.0} (search rules) in
    long_taken c.args.self.now c.put_wide.new.self c.args.slot c.encode.result c.split-low.result.1 c.split-low.result.0 _ c.args.value _
    (omega arith) c.split-low.ensures.low (c.split-low.ensures.value ∙ same) same c.in-None.ensures.none c.encode.ensures.back low
    c.in_ok-put_wide-in-None.ensures.room c.in_ok-put_wide-in-None.ensures.becomes
