use Rattle.std.proofs.Common.{◌≡◌, ◌++◌, take}
use Rattle.fcp_model.specs.LogText.{places_text}
use Rattle.fcp_model.proofs.log_lines.push_places.Given as goal

-- the names so far
abbrev pub invariant-loop-place : goal.invariant-loop-place
invariant-loop-place l = l.text.items ≡ l.fn.text.items ++ places_text (take l.place-index l.places)
