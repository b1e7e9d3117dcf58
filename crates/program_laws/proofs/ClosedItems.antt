-- The tests and the goals of items that are within some variables are over these variables.
use Rattle.std.proofs.Common.{◌≡◌, ℕ, zero, suc, List, [], ◌∷◌, true, length, map, Option, Some, None}
use Rattle.std.specs.Prelude.{option_map, slice_get}
use Rattle.std.specs.List.{list_all, filter_map, cons_option}
use Rattle.std.proofs.lemmas.Bool.{and_parts}
use Rattle.fcp_model.specs.declared.names.Sym.{Sym}
use Rattle.fcp_model.specs.declared.source.Call.{Call}
use Rattle.fcp_model.specs.declared.source.Call.TheVariants.{User, Unify, Assign, Same, NotSame, Compare}
use Rattle.fcp_model.specs.declared.source.Item.{Item}
use Rattle.fcp_model.specs.declared.loaded.ProcedureName.{ProcedureName}
use Rattle.fcp_model.specs.Terms.{Term}
use Rattle.fcp_model.specs.Tests.{Kind, Test, kind}
use Rattle.fcp_model.specs.ClosedPrograms.{AllOver, TestOver, TestsOver, GoalOver, GoalsOver, IsNumbered}
use Rattle.fcp_model.specs.Translation.{term_of, user_goal, goal_of, kinds, reserved_test, test_of, goals_of}
use Rattle.fcp_reader.specs.Limits.{is_term_within, is_expr_within, is_call_within, are_items_within}
use Rattle.program_laws.proofs.ClosedTerms.{term_closes, args_close, expr_closes}

module _ (n : ℕ) where
  -- an item of a guard: its test is over the variables, where it is one
  abbrev MayTest : Option (Test ℕ) → Type 0
  MayTest None = Unit {0}
  MayTest (Some t) = TestOver (IsNumbered n) t

  reserved_closes : (k : ℕ) (ts : List (Term ℕ)) → AllOver (IsNumbered n) ts → MayTest (reserved_test k ts)
  reserved_closes zero [] h = tt
  reserved_closes zero (t ∷ ts) h = tt
  reserved_closes (suc zero) [] h = tt
  reserved_closes (suc zero) (t ∷ ts) h = tt
  reserved_closes (suc (suc k)) [] h = tt
  reserved_closes (suc (suc k)) (t ∷ []) h = go (slice_get kinds k)
    where
      go : (o : Option Kind) → MayTest (option_map (λ x. kind x t) o)
      go None = tt
      go (Some x) = h.0
  reserved_closes (suc (suc k)) (t ∷ u ∷ ts) h = tt

  test_closes : (c : Call) → is_call_within n c ≡ true → MayTest (test_of c)
  test_closes (User name args) e = reserved_closes name.0 (map term_of args) (args_close n args e)
  test_closes (Unify a b) e = tt
  test_closes (Assign a x) e = tt
  test_closes (Same a b) e =
      let both = and_parts (is_term_within n a) (is_term_within n b) e in (term_closes n a both.0, term_closes n b both.1)
  test_closes (NotSame a b) e =
      let both = and_parts (is_term_within n a) (is_term_within n b) e in (term_closes n a both.0, term_closes n b both.1)
  test_closes (Compare o a b) e =
      let both = and_parts (is_expr_within n a) (is_expr_within n b) e in (expr_closes n a both.0, expr_closes n b both.1)

  user_closes : (hs : List ProcedureName) (name : Sym) (k : ℕ) (ts : List (Term ℕ)) → AllOver (IsNumbered n) ts
      → GoalOver (IsNumbered n) (user_goal hs name k ts)
  user_closes hs name zero ts h = go name.0
    where
      go : (i : ℕ) → GoalOver (IsNumbered n) (user_goal hs (record { 0 = i }) zero ts)
      go zero = tt
      go (suc i) = h
  user_closes hs name (suc k) ts h = h

  goal_closes : (hs : List ProcedureName) (c : Call) → is_call_within n c ≡ true → GoalOver (IsNumbered n) (goal_of hs c)
  goal_closes hs (User name args) e = user_closes hs name (length args) (map term_of args) (args_close n args e)
  goal_closes hs (Unify a b) e =
      let both = and_parts (is_term_within n a) (is_term_within n b) e in (term_closes n a both.0, term_closes n b both.1)
  goal_closes hs (Assign a x) e =
      let both = and_parts (is_term_within n a) (is_expr_within n x) e in (term_closes n a both.0, expr_closes n x both.1)
  goal_closes hs (Same a b) e = tt
  goal_closes hs (NotSame a b) e = tt
  goal_closes hs (Compare o a b) e = tt

  -- each item of a list is within the variables
  abbrev AreWithin : List Item → Type 0
  AreWithin is = list_all (λ i. is_call_within n i.call) is ≡ true

  tests_within : (is : List Item) → AreWithin is → TestsOver (IsNumbered n) (filter_map (λ i. test_of i.call) is)
  tests_within [] e = tt
  tests_within (i ∷ is) e =
      let both = and_parts (is_call_within n i.call) (list_all (λ i. is_call_within n i.call) is) e in
      go (filter_map (λ i. test_of i.call) is) (tests_within is both.1) (test_of i.call) (test_closes i.call both.0)
    where
      go : (ts : List (Test ℕ)) → TestsOver (IsNumbered n) ts → (o : Option (Test ℕ)) → MayTest o
          → TestsOver (IsNumbered n) (cons_option o ts)
      go ts rest None h = rest
      go ts rest (Some t) h = (h, rest)

  goals_within : (hs : List ProcedureName) (is : List Item) → AreWithin is → GoalsOver (IsNumbered n) (goals_of hs is)
  goals_within hs [] e = tt
  goals_within hs (i ∷ is) e =
      let both = and_parts (is_call_within n i.call) (list_all (λ i. is_call_within n i.call) is) e in
      (goal_closes hs i.call both.0, goals_within hs is both.1)

  pub tests_close : (is : List Item) → are_items_within n is ≡ true → TestsOver (IsNumbered n) (filter_map (λ i. test_of i.call) is)
  tests_close is e = tests_within is (and_parts _ (list_all (λ i. is_call_within n i.call) is) e).1

  pub goals_close : (hs : List ProcedureName) (is : List Item) → are_items_within n is ≡ true → GoalsOver (IsNumbered n) (goals_of hs is)
  goals_close hs is e = goals_within hs is (and_parts _ (list_all (λ i. is_call_within n i.call) is) e).1
