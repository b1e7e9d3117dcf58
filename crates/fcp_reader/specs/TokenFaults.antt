-- Believed: the first fault of the tokens of a text, by the terminals that they are. `spell` gives the terminals of each text of
-- the grammar, in which a terminal is marked where it is one too many; `form` and `e` say how the tokens' terminals are numbered.
use Rattle.std.specs.Prelude.{◌≡◌, ◌<◌, ℕ, ◌+◌, List, ◌++◌, length, take, Some, slice_get, ◌⊎◌}
use Rattle.fcp_model.specs.declared.fault.Code.{Code}
use Rattle.fcp_model.specs.declared.fault.Code.TheVariants as code
use Rattle.fcp_grammar.specs.declared.terminals.Terminal.{Terminal}
use Rattle.fcp_grammar.specs.Grammar.{Marked}
use Rattle.fcp_terminals.specs.declared.variables.Form.{Form}
use Rattle.fcp_terminals.specs.Lexemes.{Lexeme}
use Rattle.fcp_terminals.specs.Numbering.{Env, terminals_from}
use Rattle.fcp_reader.specs.Faults.{unmarked, Deep, Large, EndsSoon}

-- Some tree spells the terminals of these tokens and of further ones. The further tokens are any at all, each a kind, a place
-- and bytes: no text has to be cut into them, and the tree may have terminals that are one too many and brackets that are too deep.
pub record Begun {T : Type 0} (spell : T → List Marked) (form : Form) (e : Env) (ls : List Lexeme) : Type 0 where
  pub tree : T
  pub more : List Lexeme
  pub is : unmarked (spell tree) ≡ terminals_from form e (ls ++ more)

-- no fault stands at token k, counted from 0, whose terminal is w
pub record IsSound {T : Type 0} (spell : T → List Marked) (form : Form) (e : Env) (ls : List Lexeme) (k : ℕ) (w : Terminal) : Type 0 where
  pub begun : Begun spell form e (take (k + 1) ls)
  pub shallow : Deep (take k (terminals_from form e ls)) w → ⊥
  pub small : Large spell (take k (terminals_from form e ls)) w → ⊥

-- no fault stands before token n
abbrev pub AreSoundBefore : {T : Type 0} → (T → List Marked) → Form → Env → List Lexeme → ℕ → Type 0
AreSoundBefore spell form e ls n =
    (k : ℕ) → k < n → (w : Terminal) → slice_get (terminals_from form e ls) k ≡ Some w → IsSound spell form e ls k w

-- of the faults at token n, whose terminal is w, the one that comes first: the tokens up to it begin no text, it opens a
-- bracket that has too many open ones around it, or it is one too many
abbrev pub HasFaultAt : {T : Type 0} → (T → List Marked) → Form → Env → Code → List Lexeme → ℕ → Terminal → Type 0
HasFaultAt spell form e code.Unexpected ls n w = Begun spell form e (take (n + 1) ls) → ⊥
HasFaultAt spell form e code.TooDeep ls n w = Begun spell form e (take (n + 1) ls) × Deep (take n (terminals_from form e ls)) w
HasFaultAt spell form e code.TooLarge ls n w =
    Begun spell form e (take (n + 1) ls) × (Deep (take n (terminals_from form e ls)) w → ⊥)
    × Large spell (take n (terminals_from form e ls)) w
HasFaultAt spell form e _ ls n w = ⊥

-- the first fault has this code, and stands at token n, or at the number of tokens: the text ends too soon
pub record IsFirst {T : Type 0} (spell : T → List Marked) (form : Form) (e : Env) (ls : List Lexeme) (c : Code) (n : ℕ) : Type 0 where
  pub before : AreSoundBefore spell form e ls n
  pub here : ((n ≡ length ls) × EndsSoon spell c (terminals_from form e ls))
      ⊎ ((w : Terminal) × (slice_get (terminals_from form e ls) n ≡ Some w) × HasFaultAt spell form e c ls n w)
