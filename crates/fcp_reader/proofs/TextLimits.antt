-- What was read from a text keeps the limits.
use Rattle.std.proofs.Common.{◌≡◌, ◌≤◌, ◌+◌, ℕ, List, [], ◌∷◌, length, true, sym, ap, subst, ◌∙◌, arith, nat_le}
use Rattle.std.proofs.lemmas.Bool.{and_from, le-leb}
use Rattle.std.proofs.lemmas.List.{length-map}
use Rattle.fcp_model.specs.declared.source.GoalText.{GoalText}
use Rattle.fcp_model.specs.declared.source.Item.{Item}
use Rattle.fcp_model.specs.declared.source.Module.{Module}
use Rattle.fcp_text.specs.Bytes.{Text}
use Rattle.fcp_text.proofs.Standing.{tokens_are_few}
use Rattle.fcp_grammar.specs.declared.terminals.Terminal.TheVariants as terminal
use Rattle.fcp_grammar.specs.Grammar.{Marked, plain}
use Rattle.fcp_terminals.specs.declared.variables.Form.TheVariants as form
use Rattle.fcp_terminals.specs.declared.variables.Variable.{Variable}
use Rattle.fcp_terminals.specs.Lexemes.{Lexeme, lexemes}
use Rattle.fcp_terminals.specs.Numbering.{env}
use Rattle.fcp_terminals.proofs.Walks.{lexemes-length}
use Rattle.fcp_reader.specs.GoalGrammar.{GoalTree, bare_goal, dotted_goal, goal_value, spell_goal_text}
use Rattle.fcp_reader.specs.ModuleGrammar.{module_value}
use Rattle.fcp_reader.specs.Texts.{clean}
use Rattle.fcp_reader.specs.Sources.{terminals_of, behind, IsModule, IsGoal}
use Rattle.fcp_reader.specs.Limits.{are_items_within, is_module_within, is_goal_within}
use Rattle.fcp_reader.specs.Laws.{TextsKeepLimits}
use Rattle.fcp_reader.proofs.Bounded.{Bounded}
use Rattle.fcp_reader.proofs.KnownTerminals.{Known, terminals-known}
use Rattle.fcp_reader.proofs.ItemLimits.{show-list}
use Rattle.fcp_reader.proofs.ClauseLimits.{ShownModule, show-module}

module-limits : (names : List Text) (z : Text) (m : Module) → IsModule names z m
    → (is_module_within m ≡ true) × (length m.clauses ≤ length z)
module-limits names z m x =
    let ls : List Lexeme = lexemes z x.tokens in
    let n : ℕ = length (behind form.Module names z x.tokens).variables in
    let k : Known form.Module n (length ls) [] (clean (terminals_of form.Module names z x.tokens) []) =
    terminals-known form.Module (env names []) ls (omega arith) in
    let r : ShownModule n k.dots (module_value x.is.tree) []
    = show-module n k.bound k.dots x.is.tree []
    (subst (λ (ws : List Marked). Bounded form.Module n k.bound k.dots ws) (sym x.is.spelled) k.bounded) in
    let few : length (module_value x.is.tree).clauses + r.dots ≤ k.dots = r.few in
    let fewer : k.dots ≤ length (lexemes z x.tokens) = k.few in
    let same : length (lexemes z x.tokens) ≡ length x.tokens = lexemes-length z x.tokens in
    let tokens : length x.tokens ≤ length z = tokens_are_few z x.tokens x.cut in
    let clauses : length (module_value x.is.tree).clauses ≤ length z = omega arith in (
      subst (λ (y : Module). is_module_within y ≡ true) x.is.value r.within,
      subst (λ (y : Module). length y.clauses ≤ length z) x.is.value clauses,
    )

-- the items of a goal, and the number of its variables
show-goal : (n v b : ℕ) (g : GoalTree) → Bounded form.Goal n v b (spell_goal_text g) → (are_items_within v (goal_value g) ≡ true) × (v ≡ n)
show-goal n v b (bare_goal is i) x = show-list form.Goal n v b is i [] x
show-goal n v b (dotted_goal is i k) x = show-list form.Goal n v b is i (plain (terminal.Dot k) ∷ []) x

goal-within : (g : GoalText) (v : ℕ) → v ≤ 250 → v ≡ length g.names → are_items_within v g.items ≡ true → is_goal_within g ≡ true
goal-within g v few same items =
    let fewer : length g.names ≤ 250 = omega arith in
    and_from (nat_le (length g.names) 250) (are_items_within (length g.names) g.items) (le-leb (length g.names) 250 fewer)
    (subst (λ x. are_items_within x g.items ≡ true) same items)

goal-limits : (names : List Text) (z : Text) (g : GoalText) → IsGoal names z g → is_goal_within g ≡ true
goal-limits names z g x =
    let ls : List Lexeme = lexemes z x.tokens in
    let vs : List Variable = (behind form.Goal names z x.tokens).variables in
    let k : Known form.Goal (length vs) (length ls) [] (clean (terminals_of form.Goal names z x.tokens) []) =
    terminals-known form.Goal (env names []) ls (omega arith) in
    let r : (are_items_within k.bound (goal_value x.is.tree) ≡ true) × (k.bound ≡ length vs)
    = show-goal (length vs) k.bound k.dots x.is.tree
    (subst (λ (ws : List Marked). Bounded form.Goal (length vs) k.bound k.dots ws) (sym x.is.spelled) k.bounded) in
    let long : length g.names ≡ length vs = ap length x.variables ∙ length-map vs (λ (v : Variable). v.name) in
    goal-within g k.bound k.most (r.1 ∙ sym long) (subst (λ (is : List Item). are_items_within k.bound is ≡ true) x.is.value r.0)

pub texts_keep_limits_law : TextsKeepLimits
texts_keep_limits_law = (module-limits, goal-limits)
