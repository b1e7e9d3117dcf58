-- What reading the terminals of a text says of the text.
use Rattle.std.proofs.Common.{◌≡◌, ℕ, List, [], ap, ◌∙◌, sym, subst, refl}
use Rattle.std.specs.Prelude.{map, Ok, Err}
use Rattle.fcp_model.specs.declared.fault.Refused.{Refused}
use Rattle.fcp_model.specs.declared.names.Sym.{Sym}
use Rattle.fcp_model.specs.declared.source.Item.{Item}
use Rattle.fcp_model.specs.declared.source.Module.{Module}
use Rattle.std.specs.declared.option.Option as option
use Rattle.fcp_text.specs.declared.lexer.Token.{Token}
use Rattle.fcp_text.specs.Bytes.{Text}
use Rattle.fcp_text.specs.Tokens.{tokens_of}
use Rattle.fcp_grammar.specs.declared.terminals.Terminal.{Terminal}
use Rattle.fcp_terminals.specs.declared.variables.Form.{Form}
use Rattle.fcp_terminals.specs.declared.variables.Form.TheVariants as form
use Rattle.fcp_terminals.specs.declared.variables.Variable.{Variable}
use Rattle.fcp_terminals.specs.Lexemes.{lexemes}
use Rattle.fcp_terminals.specs.Numbering.{Env, env}
use Rattle.fcp_reader.specs.declared.reading.Stopped.{Stopped}
use Rattle.fcp_reader.specs.declared.reading.Stopped.TheVariants as stopped
use Rattle.fcp_reader.specs.Refusals.{Refuses}
use Rattle.fcp_reader.specs.Sources.{terminals_of, behind, names_by, of_grammar, ReadsModule, ReadsGoal}
use Rattle.fcp_reader.specs.Texts as terminals
use Rattle.fcp_reader.specs.Texts.{AreModule, AreGoal}
use Rattle.fcp_reader.proofs.GoalMachine.{goals}
use Rattle.fcp_reader.proofs.ModuleMachine.{modules}
use Rattle.fcp_reader.proofs.TokenTerminals.{first-of-tokens}

names-by : (f : Form) (names : List Text) (z : Text) (ts : List Token) (after : List Text) (vs : List Variable) → tokens_of z ≡ Ok ts
    → behind f names z ts ≡ env after vs → after ≡ names_by f names z (tokens_of z)
names-by f names z ts after vs e b = sym (ap (λ (x : Env). x.names) b) ∙ sym (ap (names_by f names z) e)

module _ (names : List Text) (z : Text) (ts : List Token) (after : List Text) (vs : List Variable) (ws : List Terminal) where
  pub module-read : (m : Module) → tokens_of z ≡ Ok ts → ws ≡ terminals_of form.Module names z ts
      → behind form.Module names z ts ≡ env after vs → terminals.ReadsModule ws (Ok m) → ReadsModule names z after (Ok m)
  module-read m e w b r =
      (record { tokens = ts; cut = e; is = subst (λ x. AreModule x m) w r }, names-by form.Module names z ts after vs e b)

  pub module-refused : (s : Stopped) (r : Refused) → tokens_of z ≡ Ok ts → ws ≡ terminals_of form.Module names z ts
      → terminals.ReadsModule ws (Err s) → Refuses z ts s r → ReadsModule names z after (Err r)
  module-refused stopped.NoMemory r e w h q = subst (λ x. ReadsModule names z after (Err x)) (sym q) tt
  module-refused (stopped.Fault c n) r e w h q =
      subst (λ x. ReadsModule names z after (Err x)) (sym q)
      (of_grammar ts n e refl (first-of-tokens modules form.Module (env names []) (lexemes z ts) c n
      (subst (λ x. terminals.ReadsModule x (Err (stopped.Fault c n))) w h)))

  pub goal-read : (items : List Item) (ns : List (option.Option Sym)) → tokens_of z ≡ Ok ts → ws ≡ terminals_of form.Goal names z ts
      → behind form.Goal names z ts ≡ env after vs → terminals.ReadsGoal ws (Ok items) → ns ≡ map (λ v. v.name) vs
      → ReadsGoal names z after (Ok (record { items = items; names = ns }))
  goal-read items ns e w b r v = (
    record {
      tokens = ts;
      cut = e;
      is = subst (λ x. AreGoal x items) w r;
      variables = v ∙ sym (ap (λ (x : Env). map (λ v. v.name) x.variables) b);
    },
    names-by form.Goal names z ts after vs e b,
  )

  pub goal-refused : (s : Stopped) (r : Refused) → tokens_of z ≡ Ok ts → ws ≡ terminals_of form.Goal names z ts
      → terminals.ReadsGoal ws (Err s) → Refuses z ts s r → ReadsGoal names z after (Err r)
  goal-refused stopped.NoMemory r e w h q = subst (λ x. ReadsGoal names z after (Err x)) (sym q) tt
  goal-refused (stopped.Fault c n) r e w h q =
      subst (λ x. ReadsGoal names z after (Err x)) (sym q)
      (of_grammar ts n e refl (first-of-tokens goals form.Goal (env names []) (lexemes z ts) c n
      (subst (λ x. terminals.ReadsGoal x (Err (stopped.Fault c n))) w h)))
