-- What is shown of a machine: it follows each text, and what it has read is the front of one.
use Rattle.std.proofs.Common.{◌≡◌, List, [], ◌∷◌, Option, Some, None, Bool, ℕ}
use Rattle.fcp_model.specs.declared.names.Sym.{Sym}
use Rattle.fcp_grammar.specs.declared.terminals.Terminal.{Terminal}
use Rattle.fcp_grammar.specs.Grammar.{Marked}
use Rattle.fcp_grammar.proofs.Follow.{follow}
use Rattle.fcp_reader.proofs.Steps.{go}
use Rattle.fcp_reader.proofs.Completions.{FinishedText}

-- s mirrors a partial tree, whose terminals are those before and w
pub record Moved {S P : Type 0} (state_of : P → S) (terminals_of : P → List Marked → List Marked) (before : List Marked → List Marked)
    (w : Terminal) (s : S) (mark : Bool) : Type 0 where
  pub part : P
  pub is : state_of part ≡ s
  pub terminals : (rest : List Marked) → terminals_of part rest ≡ before ((w, mark) ∷ rest)

abbrev pub GoesTo : {S P : Type 0} → (P → S) → (P → List Marked → List Marked) → (List Marked → List Marked) → Terminal → Option (S × Bool)
    → Type 0
GoesTo state_of terminals_of before w (Some p) = Moved state_of terminals_of before w p.0 p.1
GoesTo state_of terminals_of before w None = Unit {0}

-- a partial tree that is a whole one
pub record WholeText {T V : Type 0} (spell : T → List Marked) (value : T → V) (front : List Marked → List Marked) (v : V) : Type 0 where
  pub tree : T
  pub is : value tree ≡ v
  pub terminals : spell tree ≡ front []

-- of states S, trees T, partial trees P and values V
pub record Machine (S T P V : Type 0) : Type 0 where
  pub step : S → Terminal → Option (S × Bool)
  pub spell : T → List Marked
  pub value : T → V
  pub beginning : S
  pub ends : T → S
  pub whole : S → Option V
  pub state_of : P → S
  pub terminals_of : P → List Marked → List Marked
  pub none : P
  pub none-state : state_of none ≡ beginning
  pub none-terminals : (rest : List Marked) → terminals_of none rest ≡ rest
  pub follows : (t : T) → follow (go step) beginning (spell t) ≡ Some (ends t)
  pub goes : (p : P) (w : Terminal) → GoesTo state_of terminals_of (terminals_of p) w (step (state_of p) w)
  pub finish : (k : ℕ) (s : Sym) (p : P) → FinishedText spell k s (terminals_of p)
  pub whole-ends : (t : T) → whole (ends t) ≡ Some (value t)
  pub whole-part : (p : P) (v : V) → whole (state_of p) ≡ Some v → WholeText spell value (terminals_of p) v
