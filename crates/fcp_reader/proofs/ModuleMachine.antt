-- The machine of modules.
use Rattle.std.proofs.Common.{◌≡◌, List, refl, Option, Some, None, Bool}
use Rattle.fcp_model.specs.declared.source.Module.{Module}
use Rattle.fcp_grammar.specs.declared.terminals.Terminal.{Terminal}
use Rattle.fcp_reader.specs.declared.state.Part.TheVariants as Q
use Rattle.fcp_reader.specs.declared.state.State.{State}
use Rattle.fcp_grammar.specs.Grammar.{Marked}
use Rattle.fcp_reader.specs.Clauses.{state}
use Rattle.fcp_reader.specs.Modules.{step, beginning, whole}
use Rattle.fcp_reader.specs.ModuleGrammar.{ModuleTree, empty, module_value, spell_module_text}
use Rattle.fcp_reader.proofs.FollowAttributes.{follow-module-text}
use Rattle.fcp_reader.proofs.PartialClauses.{PartClause, no_clause, in_dash, head_name, head_args, head_called, starting, in_item, state_of, terminals_of, GoesState, goes}
use Rattle.fcp_reader.proofs.Finishing.{finish-module}
use Rattle.fcp_reader.proofs.Machines.{Machine, GoesTo, WholeText}

-- the clauses and attributes that have ended, and the part that has not
abbrev pub PartModule : Type 0
PartModule = ModuleTree × PartClause

abbrev pub state_at : PartModule → State
state_at p = state_of p.0 p.1

abbrev pub terminals_at : PartModule → List Marked → List Marked
terminals_at p = terminals_of p.0 p.1

pub goes-at : (before : List Marked → List Marked) (w : Terminal) (o : Option (State × Bool)) → GoesState before w o
    → GoesTo state_at terminals_at before w o
goes-at before w (Some p) g = record { part = (g.module_tree, g.part); is = g.is; terminals = λ rest. g.terminals rest }
goes-at before w None g = tt

same-some : {A : Type 0} (s t : A) → Some s ≡ Some t → s ≡ t
same-some s t e = cc

pub whole-at : (m : ModuleTree) (part : PartClause) (v : Module) → whole (state_of m part) ≡ Some v
    → WholeText spell_module_text module_value (terminals_of m part) v
whole-at m no_clause v e = record { tree = m; is = same-some (module_value m) v e; terminals = refl }
whole-at m (in_dash p) v e = cc
whole-at m (head_name s form a) v e = cc
whole-at m (head_args s form a o ts ps last) v e = cc
whole-at m (head_called s form a o ts t) v e = cc
whole-at m (starting h g is) v e = cc
whole-at m (in_item h g is a part b) v e = cc

abbrev pub modules : Machine State ModuleTree PartModule Module
modules = record {
  step = step;
  spell = spell_module_text;
  value = module_value;
  beginning = beginning;
  ends = λ m. state (module_value m) Q.Between;
  whole = whole;
  state_of = state_at;
  terminals_of = terminals_at;
  none = (empty, no_clause);
  none-state = refl;
  none-terminals = λ rest. refl;
  follows = follow-module-text;
  goes = λ p w. goes-at (terminals_at p) w (step (state_at p) w) (goes p.0 p.1 w);
  finish = λ k s p. finish-module k s p.0 p.1;
  whole-ends = λ m. refl;
  whole-part = λ p v e. whole-at p.0 p.1 v e;
}
