-- What the expression of a process that assigns comes to.
use Rattle.std.specs.Prelude.{ℕ, List, []}
use Rattle.fcp_model.specs.Places.{Variable}
use Rattle.fcp_model.specs.Terms.{Term, Bindings}
use Rattle.fcp_model.specs.Expressions.{Expr}
use Rattle.fcp_model.specs.Programs.{assigns}
use Rattle.heap_words.specs.Trails.{WordList}
use Rattle.word_states.specs.Words.{Words, IsIn}
use Rattle.word_states.specs.Denoting.{Addresses}
use Rattle.word_states.specs.Trials.{IsTried}
use Rattle.guard_tests.specs.declared.number.Evaluated.{Evaluated}
use Rattle.safe_tries.specs.Safe.{KeptOpen}
use Rattle.stored_expressions.specs.Laws.{ComesTo}

-- wherever words have what was kept and the process assigns, its expression comes to this after these places were read
abbrev pub ExpressionSays : WordList → ℕ → Evaluated → List ℕ → Type 0
ExpressionSays kept p d rs = (w : Words) (vs : Addresses) (bound : Bindings) (t : Term Variable) (e : Expr Variable)
    → IsTried kept p w vs bound (assigns t e) → ComesTo vs bound e [] d rs

-- each of these places was read unbound
abbrev pub WereOpen : WordList → List ℕ → Type 0
WereOpen kept rs = (a : ℕ) → IsIn a rs → KeptOpen kept a
