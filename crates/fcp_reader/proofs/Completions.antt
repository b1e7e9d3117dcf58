-- Whatever was read without a fault can be completed, by terminals whose numbers depend on nothing but two that are free: `k`,
-- which the last `.` has, and `s`, the number of one string.
use Rattle.std.proofs.Common.{◌≡◌, List, ◌∷◌, ℕ, Bool}
use Rattle.fcp_model.specs.declared.names.Sym.{Sym}
use Rattle.fcp_grammar.specs.declared.terminals.StringForm.TheVariants as F
use Rattle.fcp_grammar.specs.declared.terminals.Terminal.{Terminal}
use Rattle.fcp_grammar.specs.declared.terminals.Terminal.TheVariants as terminal
use Rattle.fcp_grammar.specs.Grammar.{Marked, plain}
use Rattle.fcp_grammar.proofs.Complete.{Simple}
use Rattle.fcp_reader.specs.Texts.{clean}

pub data Completion (k : ℕ) (s : Sym) : List Marked → Type 0 where
  simple : (ws : List Marked) → Simple k ws → Completion k s ws
  string : (ws : List Marked) → Simple k ws → Completion k s (plain (terminal.Str s F.Name 0) ∷ ws)
  -- behind `-module` alone
  open_string : (ws : List Marked) → Simple k ws → Completion k s (plain (terminal.RoundOpen 0) ∷ plain (terminal.Str s F.Name 0) ∷ ws)

-- `front` with these terminals behind it is a text
pub record FinishedText {T : Type 0} (spell : T → List Marked) (k : ℕ) (s : Sym) (front : List Marked → List Marked) : Type 0 where
  pub tree : T
  pub close : List Marked
  pub completes : Completion k s close
  pub terminals : front close ≡ spell tree

-- a text that begins with these terminals, none of them marked, and goes on by a completion
pub record Completed {T : Type 0} (spell : T → List Marked) (k : ℕ) (s : Sym) (ws : List Terminal) : Type 0 where
  pub tree : T
  pub close : List Marked
  pub completes : Completion k s close
  pub spelled : spell tree ≡ clean ws close

-- the same with one more terminal, which has this mark
pub record CompletedBehind {T : Type 0} (spell : T → List Marked) (k : ℕ) (s : Sym) (ws : List Terminal) (w : Terminal)
    (mark : Bool) : Type 0 where
  pub tree : T
  pub close : List Marked
  pub completes : Completion k s close
  pub spelled : spell tree ≡ clean ws ((w, mark) ∷ close)
