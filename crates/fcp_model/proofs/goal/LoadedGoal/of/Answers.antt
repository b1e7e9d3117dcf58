use Rattle.std.proofs.Common.{ap, sym, ◌∙◌, ◌<◌, length, arith}
use Rattle.std.proofs.lemmas.List.{length-set}
use Rattle.fcp_model.proofs.GoalNumbers.{numbers_more}
use Rattle.fcp_model.proofs.goal.LoadedGoal.of.Goals as goal

pub loop-at-preserved : goal.loop-at-preserved
loop-at-preserved c =
    let items = c.as_slice-item-items.result.now in
    let room : c.loop-at.at < length c.loop-at.numbers = omega (arith, ap length c.as_slice-item-items.ensures, c.requires.few, c.loop-at.invariant.1) in (
      numbers_more c.args.loaded.now items c.loop-at.numbers c.loop-at.at c.unwrap.result c.item-item.result c.loop-at-test.true room c.loop-at.invariant.0 c.item-item.is (sym c.number_of.ensures ∙ c.unwrap.ensures),
      length-set c.loop-at.numbers c.loop-at.at c.unwrap.result ∙ c.loop-at.invariant.1,
    )
