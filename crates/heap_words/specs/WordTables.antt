-- A list of words beside which positions are noted by address.
use Rattle.std.specs.Prelude.{◌≡◌, ℕ, ◌-◌, List, Option, Some, if◌then◌else◌, nat_lt, slice_get}
use Rattle.heap_words.specs.Trails.{WordList}

-- the position that two lists note for an address; from 4,000,000,000 on it is in the second
abbrev pub noted_at : List ℕ → List ℕ → ℕ → Option ℕ
noted_at low high a = if nat_lt a 4000000000 then slice_get low a else slice_get high (a - 4000000000)

-- Each entry of the list stands where its address is noted, so each address stands there once.
pub record Notes (noted : ℕ → Option ℕ) (list : WordList) : Type 0 where
  pub found : (i a x : ℕ) → slice_get list i ≡ Some (a, x) → noted a ≡ Some i
