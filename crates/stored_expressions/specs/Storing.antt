-- The expressions that words store, as unification sees the words, and their evaluation.
use Rattle.std.specs.Prelude.{◌≡◌, ℕ, ◌+◌, List, Some}
use Rattle.fcp_model.specs.Places.{Variable}
use Rattle.fcp_model.specs.Terms.{Bindings}
use Rattle.fcp_model.specs.Expressions.{Expr, leaf, op}
use Rattle.heap_words.specs.Cells.{decoded}
use Rattle.heap_words.specs.Trails.{WordList, Memory}
use Rattle.heap_words.specs.declared.cell.Cell.TheVariants.{Tuple, Raw}
use Rattle.word_states.specs.Denoting.{operator_code}
use Rattle.unify_terms.specs.Denotes.{Naming, Denotes, Stands}
use Rattle.guard_tests.specs.declared.number.Evaluated.{Evaluated}
use Rattle.guard_tests.specs.Guards.{EvaluatesAs}

-- A word stores an expression: a leaf is its term; an operator stands as a tuple whose number of parts is 66 and more, with the words
-- of its two operands behind it.
abbrev pub Stores : Naming → Memory → Expr Variable → ℕ → Type 0
Stores p m (leaf t) x = Denotes p m t x
Stores p m (op o a b) x = (c : ℕ) × (decoded x ≡ Some (Tuple c)) × (decoded (m c) ≡ Some (Raw (66 + operator_code o)))
    × Stores p m a (m (c + 1)) × Stores p m b (m (c + 2))

-- Wherever the word stores an expression, and the bindings with the memory stand for a map, the definitions evaluate the expression
-- over that map to the same answer, and read the variables of the places that were read.
abbrev pub IsEvaluated : Memory → WordList → List ℕ → ℕ → Evaluated → List ℕ → Type 0
IsEvaluated m bs rs x e rs' =
    (p : Naming) (s : Bindings) → Stands p m bs s → (t : Expr Variable) → Stores p m t x → EvaluatesAs p m bs s rs t e rs'
