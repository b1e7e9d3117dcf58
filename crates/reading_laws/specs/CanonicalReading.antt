-- What is true of canonical texts as texts that are read.
use Rattle.std.specs.Prelude.{◌≡◌, ℕ, List, [], take, Some, Ok, slice_get}
use Rattle.fcp_model.specs.NameList.{reserved_names}
use Rattle.fcp_model.specs.declared.source.Module.{Module}
use Rattle.fcp_text.specs.declared.lexer.Token.{Token}
use Rattle.fcp_text.specs.Bytes.{Text}
use Rattle.fcp_text.specs.SourceClauses.{module_text}
use Rattle.fcp_text.specs.Tokens.{tokens_of}
use Rattle.fcp_grammar.specs.declared.terminals.Terminal.{Terminal}
use Rattle.fcp_terminals.specs.declared.variables.Form.TheVariants as form
use Rattle.fcp_loader.specs.Faults.{faults_of}
use Rattle.fcp_reader.specs.Faults.{Deep}
use Rattle.fcp_reader.specs.Sources.{IsModule, terminals_of, names_behind_module}
use Rattle.reading_laws.specs.Alike.{AreAlike}

-- no bracket of the text has too many open ones around it
abbrev pub IsShallow : Text → Type 0
IsShallow z = (ts : List Token) → tokens_of z ≡ Ok ts
    → (k : ℕ) (w : Terminal) → slice_get (terminals_of form.Module reserved_names z ts) k ≡ Some w
    → Deep (take k (terminals_of form.Module reserved_names z ts)) w → ⊥

-- the text is a module that says the same as m, whose strings are `names`
pub record IsAlike (names : List Text) (m : Module) (z : Text) : Type 0 where
  pub read : Module
  pub is_module : IsModule reserved_names z read
  pub alike : AreAlike names m (names_behind_module reserved_names z) read

-- The canonical text of a module that was read from a file and has no fault is a module again, which says the same, where
-- its brackets are not too deep. `names` are the strings behind the file.
abbrev pub CanonicalTextsAreRead : Type 0
CanonicalTextsAreRead = (file : Text) (m : Module) (names : List Text)
    → IsModule reserved_names file m → faults_of m ≡ [] → names ≡ names_behind_module reserved_names file
    → IsShallow (module_text names m) → IsAlike names m (module_text names m)
