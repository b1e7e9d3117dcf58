-- The marks by their first bytes.
use Rattle.std.proofs.Common.{◌≡◌, ◌<◌, [], ◌∷◌, length, refl, arith}
use Rattle.std.specs.Prelude.{slice_index}
use Rattle.fcp_text.specs.Bytes.{Text}
use Rattle.fcp_text.specs.Marks.{mark}

-- the first three bytes tell the mark, since a text reads as 0 past its end, and no mark has a 0
pub mark-three : (z : Text) → 0 < length z → mark (slice_index z 0 ∷ slice_index z 1 ∷ slice_index z 2 ∷ []) ≡ mark z
unfolding mark
mark-three [] h = absurd (omega arith)
mark-three (b ∷ []) h = refl
mark-three (b ∷ c ∷ []) h = refl
mark-three (b ∷ c ∷ d ∷ z) h = refl
