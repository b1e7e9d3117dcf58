-- A text has at most one value and at most one first fault, and not both.
use Rattle.std.proofs.Common.{◌≡◌, ℕ, List, [], ap, ◌∙◌, sym, subst, refl}
use Rattle.std.specs.Prelude.{map, Ok, Err}
use Rattle.fcp_model.specs.declared.fault.Code.{Code}
use Rattle.fcp_model.specs.declared.fault.Fault.{Fault}
use Rattle.fcp_model.specs.declared.source.GoalText.{GoalText}
use Rattle.fcp_model.specs.declared.source.Module.{Module}
use Rattle.fcp_text.specs.declared.lexer.Token.{Token}
use Rattle.fcp_text.specs.Bytes.{Text}
use Rattle.fcp_text.specs.Tokens.{tokens_of}
use Rattle.fcp_terminals.specs.declared.variables.Form.{Form}
use Rattle.fcp_terminals.specs.declared.variables.Form.TheVariants as form
use Rattle.fcp_terminals.specs.Lexemes.{lexemes, place_at}
use Rattle.fcp_terminals.specs.Numbering.{env}
use Rattle.fcp_reader.specs.Faults.{IsFirstFault}
use Rattle.fcp_reader.specs.Texts.{Are, AreGoal, AreModule}
use Rattle.fcp_reader.specs.TokenFaults.{IsFirst}
use Rattle.fcp_reader.specs.Sources.{terminals_of, behind, IsModule, IsGoal, HasFault, of_tokens, of_grammar, IsModuleFault, IsGoalFault}
use Rattle.fcp_reader.specs.Laws.{OneModule, OneGoal, OneFault, FaultIsNoModule, FaultIsNoGoal}
use Rattle.fcp_reader.proofs.GoalMachine.{goals}
use Rattle.fcp_reader.proofs.LawProofs.{one-text, one-fault, not-both}
use Rattle.fcp_reader.proofs.Machines.{Machine}
use Rattle.fcp_reader.proofs.ModuleMachine.{modules}
use Rattle.fcp_reader.proofs.TokenTerminals.{first-of-terminals}

same-tokens : (z : Text) (a b : List Token) → tokens_of z ≡ Ok a → tokens_of z ≡ Ok b → a ≡ b
same-tokens z a b e d = let g : Ok a ≡ Ok b = sym e ∙ d in cc

same-fault : (z : Text) (a b : Fault) → tokens_of z ≡ Err a → tokens_of z ≡ Err b → a ≡ b
same-fault z a b e d = let g : Err a ≡ Err b = sym e ∙ d in cc

not-cut : {X : Type 0} (z : Text) (a : List Token) (b : Fault) → tokens_of z ≡ Ok a → tokens_of z ≡ Err b → X
not-cut z a b e d = let g : Ok a ≡ Err b = sym e ∙ d in absurd (cc)

pub one-module : (names : List Text) (z : Text) (a b : Module) → IsModule names z a → IsModule names z b → a ≡ b
one-module names z a b x y =
    let t : x.tokens ≡ y.tokens = same-tokens z x.tokens y.tokens x.cut y.cut in
    one-text modules (terminals_of form.Module names z y.tokens) a b
    (subst (λ ts. AreModule (terminals_of form.Module names z ts) a) t x.is) y.is

pub one-goal : (names : List Text) (z : Text) (a b : GoalText) → IsGoal names z a → IsGoal names z b → a ≡ b
one-goal names z a b x y =
    let t : x.tokens ≡ y.tokens = same-tokens z x.tokens y.tokens x.cut y.cut in
    let i : a.items ≡ b.items =
    one-text goals (terminals_of form.Goal names z y.tokens) a.items b.items
    (subst (λ ts. AreGoal (terminals_of form.Goal names z ts) a.items) t x.is) y.is in
    let n : a.names ≡ b.names = x.variables ∙ ap (λ ts. map (λ v. v.name) (behind form.Goal names z ts).variables) t ∙ sym y.variables in
    ap (λ is. record { items = is; names = a.names }) i ∙ ap (λ ns. record { items = b.items; names = ns }) n

module _ {S T P V : Type 0} (M : Machine S T P V) (f : Form) (names : List Text) (z : Text) where
  -- the first fault of the terminals
  of-terminals : (ts us : List Token) (c : Code) (n : ℕ) → ts ≡ us → IsFirst M.spell f (env names []) (lexemes z ts) c n
      → IsFirstFault M.spell (terminals_of f names z us) c n
  of-terminals ts us c n e h =
      subst (λ x. IsFirstFault M.spell (terminals_of f names z x) c n) e (first-of-terminals M f (env names []) (lexemes z ts) c n h)

  pub one-first : (a b : Fault) → HasFault M.spell f names z a → HasFault M.spell f names z b → a ≡ b
  one-first a b (of_tokens e) (of_tokens d) = same-fault z a b e d
  one-first a b (of_tokens e) (of_grammar us k g q i) = not-cut z us a g e
  one-first a b (of_grammar ts n e p h) (of_tokens d) = not-cut z ts b e d
  one-first a b (of_grammar ts n e p h) (of_grammar us k g q i) =
      let t : ts ≡ us = same-tokens z ts us e g in
      let o : (a.code ≡ b.code) × (n ≡ k) =
      one-fault M.spell (terminals_of f names z us) a.code b.code n k (of-terminals ts us a.code n t h)
      (of-terminals us us b.code k refl i) in
      let w : a.at ≡ b.at = p ∙ ap (λ x. place_at z x n) t ∙ ap (place_at z us) o.1 ∙ sym q in
      ap (λ c. record { code = c; at = a.at }) o.0 ∙ ap (λ x. record { code = b.code; at = x }) w

  pub no-first : (ts : List Token) (v : V) (a : Fault) → tokens_of z ≡ Ok ts → Are M.spell M.value (terminals_of f names z ts) v
      → HasFault M.spell f names z a → ⊥
  no-first ts v a e r (of_tokens d) = not-cut z ts a e d
  no-first ts v a e r (of_grammar us n g p h) =
      not-both M (terminals_of f names z ts) v a.code n r (of-terminals us ts a.code n (same-tokens z us ts g e) h)

pub no-module-fault : (names : List Text) (z : Text) (m : Module) (a : Fault) → IsModule names z m → IsModuleFault names z a → ⊥
no-module-fault names z m a x h = no-first modules form.Module names z x.tokens m a x.cut x.is h

pub no-goal-fault : (names : List Text) (z : Text) (g : GoalText) (a : Fault) → IsGoal names z g → IsGoalFault names z a → ⊥
no-goal-fault names z g a x h = no-first goals form.Goal names z x.tokens g.items a x.cut x.is h

pub one_module_law : OneModule
one_module_law = one-module

pub one_goal_law : OneGoal
one_goal_law = one-goal

pub one_fault_law : OneFault
one_fault_law = (one-first modules form.Module, one-first goals form.Goal)

pub fault_is_no_module_law : FaultIsNoModule
fault_is_no_module_law = no-module-fault

pub fault_is_no_goal_law : FaultIsNoGoal
fault_is_no_goal_law = no-goal-fault
