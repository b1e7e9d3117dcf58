-- The tests and expressions of the definitions, on the words that stand for them.
use Rattle.std.specs.Prelude.{◌≡◌, ℕ, Bool, List, [], ◌∷◌, ◌++◌, Some}
use Rattle.heap_words.specs.Trails.{WordList, Memory}
use Rattle.heap_words.specs.declared.steps.ExprStep.{ExprStep}
use Rattle.heap_words.specs.declared.steps.ExprStep.TheVariants.{Push, Apply}
use Rattle.heap_words.specs.declared.steps.TestKind.{TestKind}
use Rattle.fcp_model.specs.Places.{Variable}
use Rattle.fcp_model.specs.Terms.{Term, Bindings}
use Rattle.fcp_model.specs.Expressions.{Expr, leaf, op, gives, bad, unready, eval}
use Rattle.fcp_model.specs.Expressions as terms
use Rattle.fcp_model.specs.Tests.{Kind, is_integer, is_string, is_constant, is_list, is_tuple, is_known, is_unknown}
use Rattle.fcp_model.specs.Tests.{Test, always, kind, same}
use Rattle.fcp_model.specs.Tests.{not_same, ordered, holds, fails, pauses, test}
use Rattle.fcp_model.specs.Tests as tests
use Rattle.ro_unify.specs.Occurs.{Each}
use Rattle.ro_unify.specs.Value.{IsOpen}
use Rattle.unify_terms.specs.Denotes.{Naming, Names, Denotes, Stands, IsPlace}
use Rattle.guard_tests.specs.declared.number.Evaluated.{Evaluated}
use Rattle.guard_tests.specs.declared.equality.Tested.{Tested}
use Rattle.guard_tests.specs.declared.equality.Tested.TheVariants.{Holds, Not, Wait}
use Rattle.guard_tests.specs.declared.form.ValueKind.{ValueKind}
use Rattle.guard_tests.specs.declared.form.ValueKind.TheVariants as value
use Rattle.guard_tests.specs.declared.form.Form.{Form}
use Rattle.guard_tests.specs.declared.form.Form.TheVariants.{Always, OfValue, Same, NotSame, Order}
use Rattle.guard_tests.specs.Numbers.{answer_of}
use Rattle.guard_tests.specs.Forms.{form_of}

-- the definitions' kind of value
abbrev pub kind_of : ValueKind → Kind
kind_of value.Integer = is_integer
kind_of value.String = is_string
kind_of value.Constant = is_constant
kind_of value.List = is_list
kind_of value.Tuple = is_tuple
kind_of value.Known = is_known
kind_of value.Unknown = is_unknown

-- the answer for what a test of terms gives
abbrev pub test_answer : tests.Tested → Tested
test_answer (holds vs) = Holds
test_answer (fails vs) = Not
test_answer (pauses vs) = Wait

-- the variables that a test read unbound
abbrev pub tested_reads : tests.Tested → List Variable
tested_reads (holds vs) = vs
tested_reads (fails vs) = vs
tested_reads (pauses vs) = vs

-- and those that an expression did
abbrev pub evaluated_reads : terms.Evaluated → List Variable
evaluated_reads (gives z) = []
evaluated_reads bad = []
evaluated_reads (unready vs) = vs

module _ (p : Naming) (m : Memory) where
  -- the steps push one word, which stands for the term
  abbrev pub IsTerm : Term Variable → List ExprStep → Type 0
  IsTerm t ss = (w : ℕ) × (ss ≡ Push w ∷ []) × Denotes p m t w

  -- the steps are the expression in postfix form: its leaves by words that stand for them, an operator after its operands
  abbrev pub Expresses : Expr Variable → List ExprStep → Type 0
  Expresses (leaf t) ss = IsTerm t ss
  Expresses (op o a b) ss = (xs ys : List ExprStep) × (ss ≡ xs ++ (ys ++ Apply o ∷ [])) × Expresses a xs × Expresses b ys

  -- the sides of a form of test stand for the test
  abbrev pub IsTestOf : Form → List ExprStep → List ExprStep → Test Variable → Type 0
  IsTestOf Always left right x = (left ≡ []) × (right ≡ []) × (x ≡ always)
  IsTestOf (OfValue k) left right x = (t : Term Variable) × IsTerm t left × (right ≡ []) × (x ≡ kind (kind_of k) t)
  IsTestOf Same left right x = (t u : Term Variable) × IsTerm t left × IsTerm u right × (x ≡ same t u)
  IsTestOf NotSame left right x = (t u : Term Variable) × IsTerm t left × IsTerm u right × (x ≡ not_same t u)
  IsTestOf (Order o) left right x = (a b : Expr Variable) × Expresses a left × Expresses b right × (x ≡ ordered o a b)

  -- addresses are those of the variables' places, one by one
  abbrev pub ArePlaces : List ℕ → List Variable → Type 0
  ArePlaces [] [] = Unit {0}
  ArePlaces (a ∷ as') (v ∷ vs) = IsPlace p m a v × ArePlaces as' vs
  ArePlaces _ _ = ⊥

  -- the reads grew by the places of these variables, in this order; they are unbound
  pub record Reads (bs : WordList) (rs : List ℕ) (vs : List Variable) (rs' : List ℕ) : Type 0 where
    pub more : List ℕ
    pub read : rs' ≡ rs ++ more
    pub places : ArePlaces more vs
    pub unbound : Each (IsOpen bs m) more

  -- the definitions evaluate the expression so, by some number of steps
  pub record EvaluatesAs (bs : WordList) (s : Bindings) (rs : List ℕ) (x : Expr Variable) (e : Evaluated) (rs' : List ℕ) : Type 0 where
    pub steps : ℕ
    pub end : terms.Evaluated
    pub by_steps : eval steps s x ≡ Some end
    pub answer : answer_of end ≡ e
    pub reads : Reads bs rs (evaluated_reads end) rs'

  -- and so the test; `behind` says that the tries of all earlier clauses fail
  pub record TestsAs (bs : WordList) (s : Bindings) (behind : Bool) (rs : List ℕ) (x : Test Variable) (t : Tested) (rs' : List ℕ)
      : Type 0 where
    pub steps : ℕ
    pub end : tests.Tested
    pub by_steps : test steps s behind x ≡ Some end
    pub answer : test_answer end ≡ t
    pub reads : Reads bs rs (tested_reads end) rs'

-- Wherever the steps are an expression in postfix form, and the bindings with the memory stand for a map, the definitions evaluate
-- the expression over that map to the same answer, and read the variables of the places that were read.
abbrev pub AreEvaluated : Memory → WordList → List ℕ → List ExprStep → Evaluated → List ℕ → Type 0
AreEvaluated m bs rs ss e rs' =
    (p : Naming) → (s : Bindings) → Stands p m bs s → (x : Expr Variable) → Expresses p m x ss → EvaluatesAs p m bs s rs x e rs'

-- And wherever the sides stand for a test of this kind, the definitions test it so.
abbrev pub AreTested : Memory → WordList → List ℕ → TestKind → List ExprStep → List ExprStep → Tested → List ℕ → Type 0
AreTested m bs rs k left right t rs' =
    (p : Naming) → Names p m → (s : Bindings) → Stands p m bs s → (behind : Bool) → (x : Test Variable)
    → IsTestOf p m (form_of k) left right x → TestsAs p m bs s behind rs x t rs'
