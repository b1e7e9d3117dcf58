-- The law of stored expressions: over a store the answer is what the definitions give for the expression that the word says.
use Rattle.std.specs.Prelude.{◌≡◌, ℕ, List, [], ◌++◌, Some}
use Rattle.fcp_model.specs.Places.{Variable}
use Rattle.fcp_model.specs.Terms.{Bindings}
use Rattle.fcp_model.specs.Expressions.{Expr, gives, bad, unready, eval}
use Rattle.fcp_model.specs.Expressions as terms
use Rattle.heap_words.specs.Trails.{Memory}
use Rattle.word_states.specs.Words.{Words}
use Rattle.word_states.specs.Denoting.{Addresses, ExprSays}
use Rattle.unify_terms.specs.WordsOfTries.{HasWords}
use Rattle.guard_tests.specs.declared.number.Evaluated.{Evaluated}
use Rattle.guard_tests.specs.declared.number.Evaluated.TheVariants.{Value, Bad, Wait}
use Rattle.trial_laws.specs.AtHand.{AreCalled, IsStore}
use Rattle.stored_expressions.specs.Storing.{IsEvaluated}

-- what an expression of terms gives, by the answer for its word and the variables that it read
abbrev pub came_to : Evaluated → List Variable → terms.Evaluated
came_to (Value z) qs = gives z
came_to Bad qs = bad
came_to Wait qs = unready qs

-- The expression comes to the answer, after it read the variables of the places that were read.
pub record ComesTo (vs : Addresses) (bound : Bindings) (e : Expr Variable) (rs : List ℕ) (d : Evaluated) (rs' : List ℕ) : Type 0 where
  -- the places that were read besides, and their variables
  pub more : List ℕ
  pub read : rs' ≡ rs ++ more
  pub variables : List Variable
  pub called : AreCalled vs more variables
  -- what the expression gives, by some number of steps
  pub value : (n : ℕ) × (eval n bound e ≡ Some (came_to d variables))

-- so for each store that the memory has, where nothing is bound privately
abbrev pub LawOfStored : Type 0
LawOfStored = (m : Memory) (w : Words) (vs : Addresses) (bound : Bindings) → IsStore w vs bound → HasWords m w → (x : ℕ) (e : Expr Variable)
    → ExprSays w vs x e → (rs : List ℕ) (d : Evaluated) (rs' : List ℕ) → IsEvaluated m [] rs x d rs' → ComesTo vs bound e rs d rs'
