use Rattle.run_report.proofs.PutTexts.{left_more, left_all}
use Rattle.run_report.proofs.ends.push_left_controls.Goals as goal

pub loop-control-preserved : goal.loop-control-preserved
loop-control-preserved c =
    left_more c.args.controls.now c.loop-control.control-index c.loop-control.out.items c.push_left_control.new.out.items _ _
    c.loop-control-test.true c.in_ok-push_left_control.ensures c.loop-control.invariant

pub returns : goal.returns
returns c =
    left_all c.args.controls.now c.loop-control.control-index c.loop-control.out.items c.args.out.now.items c.loop-control-test.false
    c.loop-control.invariant
