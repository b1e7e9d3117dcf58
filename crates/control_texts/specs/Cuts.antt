-- The first piece of a text. Only private clauses cite these.
use Rattle.std.specs.Prelude.{◌≡◌, ℕ, ◌+◌, ◌<◌, ◌≤◌, ◌==◌, List, [], ◌∷◌, length, take, drop, Option, Some, None, if◌then◌else◌}
use Rattle.std.specs.List.{prefix_len}
use Rattle.fcp_model.specs.Spelling.{Bytes}
use Rattle.control_texts.specs.Pieces.{Piece, is_of_word, pieces_from}

-- how many bytes the piece has with which a text begins
abbrev pub piece_len : Bytes → ℕ
piece_len [] = 0
piece_len (b ∷ bs) = if b == 59 then 1 else prefix_len is_of_word (b ∷ bs)

-- the first piece begins behind so many bytes and has so many, and these pieces follow
pub record IsFirst (text : Bytes) (start len : ℕ) : Type 0 where
  pub some : 0 < len
  pub within : start + len ≤ length text
  pub cut : (at : ℕ) → pieces_from at text
      ≡ record { at = at + start; bytes = take len (drop start text) } ∷ pieces_from (at + (start + len)) (drop (start + len) text)

-- where the first piece of a text is, or that there is none
abbrev pub IsNext : Bytes → Option (ℕ × ℕ) → Type 0
IsNext text None = (at : ℕ) → pieces_from at text ≡ []
IsNext text (Some p) = IsFirst text p.0 p.1
