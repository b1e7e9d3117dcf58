-- The evaluation of steps on words, with the results that are still to be used. It is said of all steps and words, also of such
-- as stand for no expression.
use Rattle.std.specs.Prelude.{◌≡◌, ℕ, ℤ, false, List, [], ◌∷◌, ◌++◌}
use Rattle.heap_words.specs.Trails.{WordList, Memory}
use Rattle.heap_words.specs.declared.steps.ExprStep.{ExprStep}
use Rattle.heap_words.specs.declared.steps.ExprStep.TheVariants.{Push, Apply}
use Rattle.fcp_model.specs.declared.term.ArithOp.{ArithOp}
use Rattle.fcp_model.specs.Expressions.{apply}
use Rattle.ro_unify.specs.declared.look.Look.{Look}
use Rattle.ro_unify.specs.Value.{Values}
use Rattle.ro_unify.specs.Unify.{look_reads}
use Rattle.guard_tests.specs.declared.number.Evaluated.{Evaluated}
use Rattle.guard_tests.specs.declared.number.Evaluated.TheVariants.{Value, Bad, Wait}
use Rattle.guard_tests.specs.Numbers.{answer_of, number_at}

-- the word of an operand leads to known addresses alone
abbrev pub OperandLeads : (ℕ → Type 0) → ExprStep → Type 0
OperandLeads leads (Push w) = leads w
OperandLeads leads (Apply o) = Unit {0}

-- an operand gives e, and its place is read where it is unbound
pub record Gives (bs : WordList) (m : Memory) (w : ℕ) (rs : List ℕ) (e : Evaluated) (rs' : List ℕ) : Type 0 where
  pub look : Look
  pub value : Values bs m false w look
  pub number : number_at m look ≡ e
  pub read : rs' ≡ rs ++ look_reads look

-- an operator takes the last two results away, of which the right one is the last
abbrev pub Combines : ArithOp → List ℤ → Evaluated → List ℤ → Type 0
Combines o (z ∷ y ∷ zs) e zs' = (answer_of (apply o y z) ≡ e) × (zs' ≡ zs)
Combines o _ e zs' = Bad ≡ e

-- one step, with the results and the reads before it and after it
abbrev pub Takes : WordList → Memory → ExprStep → List ℤ → List ℕ → Evaluated → List ℤ → List ℕ → Type 0
Takes bs m (Push w) zs rs e zs' rs' = Gives bs m w rs e rs' × (zs' ≡ zs)
Takes bs m (Apply o) zs rs e zs' rs' = Combines o zs e zs' × (rs' ≡ rs)

-- the last result
abbrev pub last_of : List ℤ → Evaluated
last_of [] = Bad
last_of (z ∷ zs) = Value z

-- Steps from the left: a number is one more result, and the first step that is bad or waits ends it.
pub data Reckons (bs : WordList) (m : Memory) : List ExprStep → List ℤ → List ℕ → Evaluated → List ℕ → Type 0 where
  at_end : (zs : List ℤ) (rs : List ℕ) → Reckons bs m [] zs rs (last_of zs) rs
  on : (s : ExprStep) (ss : List ExprStep) (zs : List ℤ) (rs : List ℕ) (z : ℤ) (zs' : List ℤ) (rs1 : List ℕ) (e : Evaluated) (rs' : List ℕ)
      → Takes bs m s zs rs (Value z) zs' rs1 → Reckons bs m ss (z ∷ zs') rs1 e rs' → Reckons bs m (s ∷ ss) zs rs e rs'
  spoilt : (s : ExprStep) (ss : List ExprStep) (zs : List ℤ) (rs : List ℕ) (zs' : List ℤ) (rs' : List ℕ)
      → Takes bs m s zs rs Bad zs' rs' → Reckons bs m (s ∷ ss) zs rs Bad rs'
  stopped : (s : ExprStep) (ss : List ExprStep) (zs : List ℤ) (rs : List ℕ) (zs' : List ℤ) (rs' : List ℕ)
      → Takes bs m s zs rs Wait zs' rs' → Reckons bs m (s ∷ ss) zs rs Wait rs'
