use Rattle.std.proofs.Common.{◌++◌, ◌∙◌, ap}
use Rattle.run_report.proofs.PutTexts.{where_ok, left_put}
use Rattle.run_report.proofs.ends.push_left_control.Goals as goal

pub returns : goal.returns
returns c =
    where_ok c.push_bytes-4.result
    (λ end. left_put c.args.control c.args.out.now.items c.push_bytes.new.text.items c.push_decimal.new.text.items
    c.push_bytes-2.new.text.items c.push_bytes-3.new.text.items c.push_bytes-4.new.text.items c.in_ok-push_bytes.ensures.ok
    c.in_ok-push_decimal.ensures.ok c.in_ok-push_bytes-2.ensures.ok
    (c.in_ok-push_bytes-3.ensures.ok ∙ ap (λ x. c.push_bytes-2.new.text.items ++ x) c.act_word.ensures) end)
    c.push_bytes-4.ensures.ok
