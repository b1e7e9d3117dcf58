-- What the kinds of tests ask, and how a test of words ends. It is said of all steps and words, also of such as stand for no test.
use Rattle.std.specs.Prelude.{◌≡◌, ℕ, ℤ, Bool, true, false, List, [], ◌∷◌, ◌++◌, Option, Some, if◌then◌else◌}
use Rattle.heap_words.specs.Cells.{decoded}
use Rattle.heap_words.specs.Trails.{WordList, Memory}
use Rattle.heap_words.specs.declared.cell.Cell.{Cell}
use Rattle.heap_words.specs.declared.cell.Cell.TheVariants as cell
use Rattle.heap_words.specs.declared.steps.ExprStep.{ExprStep}
use Rattle.heap_words.specs.declared.steps.ExprStep.TheVariants.{Push}
use Rattle.heap_words.specs.declared.steps.TestKind.{TestKind}
use Rattle.heap_words.specs.declared.steps.TestKind.TheVariants as kinds
use Rattle.fcp_model.specs.declared.term.CompareOp.{CompareOp}
use Rattle.fcp_model.specs.declared.term.CompareOp.TheVariants as compare
use Rattle.fcp_model.specs.Tests.{order_of}
use Rattle.ro_unify.specs.declared.look.Look.{Look}
use Rattle.ro_unify.specs.declared.look.Look.TheVariants.{Writable, ReadOnly, Solid}
use Rattle.ro_unify.specs.Value.{Values}
use Rattle.ro_unify.specs.Unify.{look_reads}
use Rattle.guard_tests.specs.declared.number.Evaluated.{Evaluated}
use Rattle.guard_tests.specs.declared.number.Evaluated.TheVariants.{Value, Bad}
use Rattle.guard_tests.specs.declared.number.Evaluated.TheVariants as evaluated
use Rattle.guard_tests.specs.declared.equality.Tested.{Tested}
use Rattle.guard_tests.specs.declared.equality.Tested.TheVariants.{Holds, Not, Wait}
use Rattle.guard_tests.specs.declared.form.ValueKind.{ValueKind}
use Rattle.guard_tests.specs.declared.form.ValueKind.TheVariants as value
use Rattle.guard_tests.specs.declared.form.Form.{Form}
use Rattle.guard_tests.specs.declared.form.Form.TheVariants.{Always, OfValue, Same, NotSame, Order}
use Rattle.guard_tests.specs.Evaluation.{Reckons}
use Rattle.guard_tests.specs.Equality.{Equals}

-- what each kind asks
abbrev pub form_of : TestKind → Form
form_of kinds.True = Always
form_of kinds.Integer = OfValue value.Integer
form_of kinds.String = OfValue value.String
form_of kinds.Constant = OfValue value.Constant
form_of kinds.List = OfValue value.List
form_of kinds.Tuple = OfValue value.Tuple
form_of kinds.Known = OfValue value.Known
form_of kinds.Unknown = OfValue value.Unknown
form_of kinds.Same = Same
form_of kinds.NotSame = NotSame
form_of kinds.Less = Order compare.Less
form_of kinds.AtMost = Order compare.AtMost
form_of kinds.Greater = Order compare.Greater
form_of kinds.AtLeast = Order compare.AtLeast
form_of kinds.Equal = Order compare.Equal
form_of kinds.NotEqual = Order compare.NotEqual

-- the word of the one operand that steps push; any other steps count as the empty list
abbrev pub operand_of : List ExprStep → ℕ
operand_of (Push w ∷ []) = w
operand_of _ = 6

-- the answer for a yes or a no
abbrev pub truth : Bool → Tested
truth b = if b then Holds else Not

-- the kind of a word that is no place
abbrev pub word_is : ValueKind → Option Cell → Bool
word_is value.Known c = true
word_is value.Unknown c = false
word_is value.Integer (Some (cell.Small z)) = true
word_is value.Integer (Some (cell.Wide a h)) = true
word_is value.String (Some (cell.Str s)) = true
word_is value.Constant (Some (cell.Small z)) = true
word_is value.Constant (Some (cell.Wide a h)) = true
word_is value.Constant (Some (cell.Str s)) = true
word_is value.Constant (Some cell.Nil) = true
word_is value.List (Some (cell.Cons a)) = true
word_is value.Tuple (Some (cell.Tuple a)) = true
word_is _ _ = false

-- an unbound place: `unknown` holds, every other kind waits
abbrev pub place_is : ValueKind → Tested
place_is value.Unknown = Holds
place_is _ = Wait

-- the kind of a value
abbrev pub look_is : ValueKind → Look → Tested
look_is k (Writable a) = place_is k
look_is k (ReadOnly a) = place_is k
look_is k (Solid x) = truth (word_is k (decoded x))

-- a test of one operand, whose place is read where it is unbound
pub record IsOfKind (bs : WordList) (m : Memory) (k : ValueKind) (w : ℕ) (rs : List ℕ) (t : Tested) (rs' : List ℕ) : Type 0 where
  pub look : Look
  pub value : Values bs m false w look
  pub answer : look_is k look ≡ t
  pub read : rs' ≡ rs ++ look_reads look

-- the other answer; a wait stays a wait
abbrev pub opposite : Tested → Tested
opposite Holds = Not
opposite Not = Holds
opposite Wait = Wait

-- the right side after the number y on the left
abbrev pub order_with : CompareOp → ℤ → Evaluated → Tested
order_with o y (Value z) = truth (order_of o y z)
order_with o y Bad = Not
order_with o y evaluated.Wait = Wait

-- the right side after what the left one gave
abbrev pub OrdersAfter : WordList → Memory → CompareOp → Evaluated → List ExprStep → List ℕ → Tested → List ℕ → Type 0
OrdersAfter bs m o (Value y) right rs t rs' = (e : Evaluated) × Reckons bs m right [] rs e rs' × (order_with o y e ≡ t)
OrdersAfter bs m o Bad right rs t rs' = (t ≡ Not) × (rs' ≡ rs)
OrdersAfter bs m o evaluated.Wait right rs t rs' = (t ≡ Wait) × (rs' ≡ rs)

-- two numbers compared, the left side first
pub record Orders (bs : WordList) (m : Memory) (o : CompareOp) (left right : List ExprStep) (rs : List ℕ) (t : Tested) (rs' : List ℕ)
    : Type 0 where
  pub first : Evaluated
  pub between : List ℕ
  pub reckons : Reckons bs m left [] rs first between
  pub after : OrdersAfter bs m o first right between t rs'

-- a test, with the reads before it and after it
abbrev pub Tests : WordList → Memory → Form → List ExprStep → List ExprStep → List ℕ → Tested → List ℕ → Type 0
Tests bs m Always left right rs t rs' = (t ≡ Holds) × (rs' ≡ rs)
Tests bs m (OfValue k) left right rs t rs' = IsOfKind bs m k (operand_of left) rs t rs'
Tests bs m Same left right rs t rs' = Equals bs m rs ((operand_of left, operand_of right) ∷ []) t rs'
Tests bs m NotSame left right rs t rs' = Equals bs m rs ((operand_of left, operand_of right) ∷ []) (opposite t) rs'
Tests bs m (Order o) left right rs t rs' = Orders bs m o left right rs t rs'
