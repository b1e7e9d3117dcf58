use Rattle.std.proofs.Common.{◌≡◌, ◌+◌, ◌++◌, ◌∷◌, [], ℕ, List, suc, ap, ◌∙◌, arith}
use Rattle.page_layout.specs.Hangs.{threes}
use Rattle.move_plans.proofs.Reading.{threes_more}
use Rattle.move_plans.proofs.places.put_threes.Goals as goal

pub loop-i-preserved : goal.loop-i-preserved
loop-i-preserved c =
    let next : suc c.loop-i.i ≡ c.loop-i.i + 1 = omega arith in
    c.in_ok-put_three.ensures ∙ ap (λ (l : List ℕ). l ++ 3 ∷ []) c.loop-i.invariant ∙ threes_more c.loop-i.i ∙ ap threes next
