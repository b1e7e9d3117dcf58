-- Believed: the first fault of terminals that should be a text. `spell` gives the terminals of each text of the grammar, in
-- which a terminal
-- is marked where it is one too many.
use Rattle.std.specs.Prelude.{◌≡◌, ◌≤◌, ◌<◌, ℕ, ◌+◌, ◌-◌, List, [], ◌∷◌, ◌++◌, Bool, true, false, length, take, Option, Some, None, slice_get, ◌⊎◌, nat_le, ◌&&◌, if◌then◌else◌}
use Rattle.fcp_model.specs.declared.fault.Code.{Code}
use Rattle.fcp_model.specs.declared.fault.Code.TheVariants as code
use Rattle.fcp_grammar.specs.declared.terminals.Terminal.{Terminal}
use Rattle.fcp_grammar.specs.declared.terminals.Terminal.TheVariants as terminal
use Rattle.fcp_grammar.specs.Grammar.{Marked}
use Rattle.fcp_reader.specs.Limits.{most_open}

-- the terminals, without the marks
abbrev pub unmarked : List Marked → List Terminal
unmarked [] = []
unmarked (w ∷ ws) = w.0 ∷ unmarked ws

-- some text of the grammar begins with these terminals
pub record Begins {T : Type 0} (spell : T → List Marked) (ws : List Terminal) : Type 0 where
  pub tree : T
  pub more : List Terminal
  pub is : unmarked (spell tree) ≡ ws ++ more

-- in some text of the grammar that begins with these terminals, and w behind them, w is one too many
pub record Large {T : Type 0} (spell : T → List Marked) (ws : List Terminal) (w : Terminal) : Type 0 where
  pub tree : T
  pub front : List Marked
  pub more : List Marked
  pub is : spell tree ≡ front ++ (w, true) ∷ more
  pub terminals : unmarked front ≡ ws

-- ---- brackets

-- a terminal that opens a bracket
abbrev pub is_opening : Terminal → Bool
is_opening (terminal.RoundOpen at) = true
is_opening (terminal.SquareOpen at) = true
is_opening (terminal.CurlyOpen at) = true
is_opening _ = false

-- Each opening bracket opens one, each closing one of any kind closes one if one is open, and a `.` forgets them all.
abbrev pub deeper : ℕ → Terminal → ℕ
deeper d (terminal.RoundOpen at) = d + 1
deeper d (terminal.SquareOpen at) = d + 1
deeper d (terminal.CurlyOpen at) = d + 1
deeper d terminal.RoundClose = d - 1
deeper d terminal.SquareClose = d - 1
deeper d terminal.CurlyClose = d - 1
deeper d (terminal.Dot n) = 0
deeper d _ = d

-- the number of open brackets behind the terminals
abbrev pub depth_from : ℕ → List Terminal → ℕ
depth_from d [] = d
depth_from d (w ∷ ws) = depth_from (deeper d w) ws

-- w opens a bracket behind these terminals that has too many open ones around it
abbrev pub Deep : List Terminal → Terminal → Type 0
Deep ws w = (is_opening w ≡ true) × (most_open ≤ depth_from 0 ws)

-- of the two faults at a terminal that goes on some text, the one that comes first
abbrev pub fault_of : ℕ → Terminal → Bool → Option Code
fault_of depth w large = if is_opening w && nat_le most_open depth then Some code.TooDeep else (if large then Some code.TooLarge else None)

-- ---- faults

-- no fault stands at w, behind these terminals
pub record Sound {T : Type 0} (spell : T → List Marked) (ws : List Terminal) (w : Terminal) : Type 0 where
  pub begins : Begins spell (ws ++ w ∷ [])
  pub shallow : Deep ws w → ⊥
  pub small : Large spell ws w → ⊥

-- no fault stands before this position
abbrev pub SoundBefore : {T : Type 0} → (T → List Marked) → List Terminal → ℕ → Type 0
SoundBefore spell ws n = (k : ℕ) → k < n → (w : Terminal) → slice_get ws k ≡ Some w → Sound spell (take k ws) w

-- of the faults at one terminal the one that comes first: no text goes on so, a bracket is too deep, the terminal is one too many
abbrev pub FaultAt : {T : Type 0} → (T → List Marked) → Code → List Terminal → Terminal → Type 0
FaultAt spell code.Unexpected ws w = Begins spell (ws ++ w ∷ []) → ⊥
FaultAt spell code.TooDeep ws w = Begins spell (ws ++ w ∷ []) × Deep ws w
FaultAt spell code.TooLarge ws w = Begins spell (ws ++ w ∷ []) × (Deep ws w → ⊥) × Large spell ws w
FaultAt spell _ ws w = ⊥

-- the terminals end too soon
abbrev pub EndsSoon : {T : Type 0} → (T → List Marked) → Code → List Terminal → Type 0
EndsSoon {T} spell code.Unexpected ws = (tree : T) → unmarked (spell tree) ≡ ws → ⊥
EndsSoon spell _ ws = ⊥

-- the first fault has this code, and stands at terminal n, or at the number of terminals: at the end
abbrev pub IsFirstFault : {T : Type 0} → (T → List Marked) → List Terminal → Code → ℕ → Type 0
IsFirstFault spell ws c n =
    SoundBefore spell ws n × (((n ≡ length ws) × EndsSoon spell c ws)
    ⊎ ((w : Terminal) × (slice_get ws n ≡ Some w) × FaultAt spell c (take n ws) w))
