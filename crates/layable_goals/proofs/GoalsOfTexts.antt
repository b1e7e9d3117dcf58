-- A goal that is read from a text and loads may be laid.
use Rattle.std.proofs.Common.{◌≡◌, ℕ, ◌+◌, ◌<◌, ◌≤◌, List, [], ◌∷◌, true, length, fold, sym, subst, arith, nat_le}
use Rattle.std.specs.List.{list_all}
use Rattle.std.proofs.lemmas.Bool.{and_parts, leb-true}
use Rattle.std.proofs.lemmas.List.{length-append}
use Rattle.fcp_model.specs.declared.goal.TheConstants.{TRUE_PROCEDURE}
use Rattle.fcp_model.specs.declared.source.GoalText.{GoalText}
use Rattle.fcp_model.specs.declared.source.Item.{Item}
use Rattle.fcp_model.specs.declared.source.Module.{Module}
use Rattle.fcp_model.specs.declared.source.Clause.{Clause}
use Rattle.fcp_model.specs.declared.loaded.ProcedureName.{ProcedureName}
use Rattle.fcp_model.specs.ProcedureNames.{procedure_names, procedure_name, same_procedure}
use Rattle.fcp_model.proofs.ProcedureNameLists.{length-insert_key}
use Rattle.indexmap.specs.IndexSet.{insert_key}
use Rattle.fcp_model.specs.Goals.{AreNumbersOf}
use Rattle.fcp_grammar.specs.ItemGrammar.{item_value, item_values}
use Rattle.fcp_reader.specs.GoalGrammar.{GoalTree, bare_goal, dotted_goal, goal_value}
use Rattle.fcp_reader.specs.Limits.{is_call_within, are_items_within, is_goal_within}
use Rattle.fcp_reader.proofs.TextLimits.{texts_keep_limits_law}
use Rattle.program_laws.proofs.ProgramsOfTexts.{goal_closes}
use Rattle.goal_layout.specs.Goals.{MayBeLaid}
use Rattle.layable_goals.proofs.NarrowGoals.{goals_narrow}
use Rattle.layable_goals.specs.Laws.{AGoalOfATextMayBeLaid}

some_items : (t : GoalTree) → 0 < length (goal_value t)
some_items (bare_goal is i) = omega (arith, length-append (item_values is) (item_value i ∷ []))
some_items (dotted_goal is i n) = omega (arith, length-append (item_values is) (item_value i ∷ []))

-- as many procedures as clauses, at most
few_procedures : (cs : List Clause) (hs : List ProcedureName)
    → length (fold (λ hs c. insert_key same_procedure hs (procedure_name c)) hs cs) ≤ length hs + length cs
few_procedures [] hs = omega arith
few_procedures (c ∷ cs) hs =
    omega (arith, few_procedures cs (insert_key same_procedure hs (procedure_name c)), length-insert_key hs (procedure_name c))

may_be_laid : (m : Module) (g : GoalText) (numbers : List ℕ) → AreNumbersOf m g.items numbers
    → length (procedure_names m.clauses) ≤ TRUE_PROCEDURE
    → 0 < length g.items → is_goal_within g ≡ true → MayBeLaid m (g, numbers)
may_be_laid m g numbers are few some within =
    let parts = and_parts (nat_le (length g.names) 250) (are_items_within (length g.names) g.items) within in
    let items = and_parts (nat_le (length g.items) 256) (list_all (λ i. is_call_within (length g.names) i.call) g.items) parts.1 in
    record {
      numbers = are;
      procedures = few;
      some = some;
      items = leb-true (length g.items) 256 items.0;
      variables = leb-true (length g.names) 250 parts.0;
      numbered = goal_closes m g within;
      narrow = goals_narrow (length g.names) (procedure_names m.clauses) g.items items.1;
    }

pub goals_of_texts : AGoalOfATextMayBeLaid
goals_of_texts before file m names text g l is-module short is-goal loads =
    let limits = texts_keep_limits_law.0 before file m is-module in
    let few : length (procedure_names m.clauses) ≤ TRUE_PROCEDURE =
    omega (arith, few_procedures m.clauses [], limits.1, short) in
    let some : 0 < length g.items = subst (λ (is : List Item). 0 < length is) is-goal.is.value (some_items is-goal.is.tree) in
    let laid : MayBeLaid m (g, l.1) = may_be_laid m g l.1 loads.numbers few some (texts_keep_limits_law.1 names text g is-goal) in
    subst (λ (t : GoalText). MayBeLaid m (t, l.1)) (sym loads.same) laid
