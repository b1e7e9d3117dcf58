-- A module and a goal that were read from texts: the program is closed, and the goal is over its own variables.
use Rattle.std.proofs.Common.{◌≡◌, List, [], ◌∷◌, Bool, true, false, cond, length, map}
use Rattle.std.specs.Prelude.{◌&&◌, filter, nat_le}
use Rattle.std.specs.List.{list_all}
use Rattle.std.proofs.lemmas.Bool.{and_parts}
use Rattle.fcp_model.specs.declared.source.Clause as read
use Rattle.fcp_model.specs.declared.source.Module.{Module}
use Rattle.fcp_model.specs.declared.source.GoalText.{GoalText}
use Rattle.fcp_model.specs.declared.loaded.ProcedureName.{ProcedureName}
use Rattle.fcp_model.specs.ProcedureNames.{procedure_names, procedure_name, same_procedure}
use Rattle.fcp_model.specs.ClosedPrograms.{GoalsOver, IsNumbered, IsClosedClause, AreClosed, IsClosed}
use Rattle.fcp_model.specs.Translation.{clause_of, clauses_called, procedure_of, program_of, started_goals}
use Rattle.fcp_grammar.specs.Limits.{most_variables}
use Rattle.fcp_reader.specs.Limits.{are_args_within, are_items_within, is_clause_within, is_module_within, is_goal_within}
use Rattle.fcp_reader.proofs.TextLimits.{texts_keep_limits_law}
use Rattle.program_laws.specs.Laws.{AProgramOfATextIsClosed, AGoalOfATextIsClosed}
use Rattle.program_laws.proofs.ClosedTerms.{args_close}
use Rattle.program_laws.proofs.ClosedItems.{tests_close, goals_close}

module _ (hs : List ProcedureName) where
  clause_closes : (c : read.Clause) → is_clause_within c ≡ true → IsClosedClause (clause_of hs c)
  clause_closes c e =
      let few : Bool = nat_le c.vars most_variables in
      let args : Bool = are_args_within c.vars c.args in
      let guard : Bool = are_items_within c.vars c.guard in
      let body = and_parts (few && args && guard) (are_items_within c.vars c.body) e in
      let guards = and_parts (few && args) guard body.0 in
      let head = and_parts few args guards.0 in
      record {
        args = args_close c.vars c.args head.1;
        guard = tests_close c.vars c.guard guards.1;
        body = goals_close c.vars hs c.body body.1;
      }

  clauses_close : (h : ProcedureName) (cs : List read.Clause) → list_all is_clause_within cs ≡ true → AreClosed (clauses_called hs h cs)
  clauses_close h [] e = tt
  clauses_close h (c ∷ cs) e =
      let both = and_parts (is_clause_within c) (list_all is_clause_within cs) e in
      go (same_procedure h (procedure_name c)) (clause_closes c both.0) (clauses_close h cs both.1)
    where
      called : List read.Clause
      called = filter (λ x. same_procedure h (procedure_name x)) cs

      go : (b : Bool) → IsClosedClause (clause_of hs c) → AreClosed (clauses_called hs h cs)
          → AreClosed (map (clause_of hs) (cond b (c ∷ called) called))
      go true f g = (f, g)
      go false f g = g

  procedures_close : (cs : List read.Clause) (ps : List ProcedureName) → list_all is_clause_within cs ≡ true
      → IsClosed (map (procedure_of hs cs) ps)
  procedures_close cs [] e = tt
  procedures_close cs (p ∷ ps) e = (clauses_close p cs e, procedures_close cs ps e)

pub program_closes : (m : Module) → is_module_within m ≡ true → IsClosed (program_of m)
program_closes m e = procedures_close (procedure_names m.clauses) m.clauses (procedure_names m.clauses) e

pub goal_closes : (m : Module) (g : GoalText) → is_goal_within g ≡ true → GoalsOver (IsNumbered (length g.names)) (started_goals m g)
goal_closes m g e =
    goals_close (length g.names) (procedure_names m.clauses) g.items (and_parts _ (are_items_within (length g.names) g.items) e).1

pub a_program_is_closed : AProgramOfATextIsClosed
a_program_is_closed before file m is = program_closes m (texts_keep_limits_law.0 before file m is).0

pub a_goal_is_closed : AGoalOfATextIsClosed
a_goal_is_closed names goal m g is = goal_closes m g (texts_keep_limits_law.1 names goal g is)
