use Rattle.std.proofs.Common.{◌≡◌, ◌++◌, take}
use Rattle.std.specs.List.{flat_map}
use Rattle.machine_code.specs.Listing.{step_text}
use Rattle.machine_code.proofs.code_text.push_side.Given as goal

-- the steps so far, after the label
abbrev pub invariant-loop-step : goal.invariant-loop-step
invariant-loop-step l = l.text.items ≡ l.fn.text.items ++ (l.label ++ flat_map step_text (take l.step-index l.steps))
