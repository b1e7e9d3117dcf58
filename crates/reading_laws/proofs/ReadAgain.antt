-- The canonical text of a module that was read from a text is read again as a module that says the same.
use Rattle.std.proofs.Common.{◌≡◌, ℕ, true, List, [], ◌∷◌, ◌++◌, append-nil, refl, ap, ◌∙◌, sym, subst, Option, Some, None}
use Rattle.std.specs.Prelude.{◌&&◌, is_none, length, nat_le}
use Rattle.std.specs.List.{list_all}
use Rattle.std.specs.Option.{option_to_list}
use Rattle.fcp_model.specs.declared.fault.Code.{Code}
use Rattle.fcp_model.specs.declared.fault.Code.TheVariants.{UnknownAttribute, RepeatedModule}
use Rattle.fcp_model.specs.declared.fault.Fault.{Fault}
use Rattle.fcp_model.specs.declared.source.Module.{Module}
use Rattle.fcp_model.specs.declared.term.Term.{Term}
use Rattle.fcp_model.specs.NameList.{number_of, reserved_names}
use Rattle.fcp_text.specs.Bytes.{Text}
use Rattle.fcp_text.specs.SourceClauses.{module_text}
use Rattle.fcp_grammar.specs.declared.terminals.Terminal.{Terminal}
use Rattle.fcp_terminals.specs.declared.variables.Form.TheVariants as form
use Rattle.fcp_terminals.specs.Lexemes.{lexemes}
use Rattle.fcp_terminals.specs.Numbering.{env, env_from}
use Rattle.fcp_loader.specs.Faults.{faults_of, faults_at}
use Rattle.fcp_reader.specs.ModuleGrammar.{module_value}
use Rattle.fcp_reader.specs.Texts.{clean}
use Rattle.fcp_reader.specs.Sources.{IsModule, terminals_of, names_by, names_behind_module}
use Rattle.text_laws.specs.Spellings.{Spelling, spellings_text, tokens_at}
use Rattle.text_laws.specs.SourceSpellings.{module_spellings}
use Rattle.text_laws.specs.Writable.{IsWritable, is_writable_module}
use Rattle.text_laws.proofs.SpelledModules.{module-spells}
use Rattle.text_laws.proofs.CanonicalTexts.{modules_fit, module_texts_are_cut}
use Rattle.reading_laws.specs.PieceTerminals.{Position, position, piece_terminals, behind_pieces}
use Rattle.reading_laws.specs.Variables.{are_next, terms_variables}
use Rattle.reading_laws.specs.Readable.{are_small_terms, is_readable, is_readable_clause, are_small_exports}
use Rattle.reading_laws.specs.TerminalOrder.{terminals_fit}
use Rattle.reading_laws.specs.Alike.{AreAlike}
use Rattle.reading_laws.specs.CanonicalReading.{IsShallow, CanonicalTextsAreRead, IsAlike}
use Rattle.reading_laws.proofs.ReadFew.{read-few}
use Rattle.reading_laws.proofs.ReadModules.{read-clauses, read-exports, read-writable}
use Rattle.reading_laws.proofs.SourcedTokens.{both}
use Rattle.reading_laws.proofs.SourcedTerminals.{terminals-in-order}
use Rattle.reading_laws.proofs.SourcedNames.{strings-one-line, reserved-one-line}
use Rattle.reading_laws.proofs.WrittenTerminals.{written-terminals, written-names}
use Rattle.reading_laws.proofs.Following.{PartsRead}
use Rattle.reading_laws.proofs.TreeTerms.{parts-read}
use Rattle.reading_laws.proofs.TreeItems.{at-most, item-reads}
use Rattle.reading_laws.proofs.ModuleReading.{ModuleReads, module-reads}

-- ---- what a module without a fault is

-- no fault of a kind
none-there : (o : Option ℕ) (c : Code) (fs : List Fault) → faults_at c (option_to_list o) ++ fs ≡ [] → is_none o ≡ true
none-there None c fs e = refl
none-there (Some at) c fs e = absurd (cc)

-- ... and none of the kinds behind
none-behind : (o : Option ℕ) (c : Code) (fs : List Fault) → faults_at c (option_to_list o) ++ fs ≡ [] → fs ≡ []
none-behind None c fs e = e
none-behind (Some at) c fs e = absurd (cc)

-- what two lists give that are none together
first-none : (fs gs : List Fault) → fs ++ gs ≡ [] → fs ≡ []
first-none [] gs e = refl
first-none (f ∷ fs) gs e = absurd (cc)

attributes-right : (m : Module) → faults_of m ≡ []
    → faults_at UnknownAttribute (option_to_list m.other) ++ faults_at RepeatedModule (option_to_list m.again) ≡ []
attributes-right m e = first-none _ _ (first-none _ _ (first-none _ _ (first-none _ _ (first-none _ _ e))))

no-other : (m : Module) → faults_of m ≡ [] → is_none m.other ≡ true
no-other m e = none-there m.other UnknownAttribute (faults_at RepeatedModule (option_to_list m.again)) (attributes-right m e)

no-again : (m : Module) → faults_of m ≡ [] → is_none m.again ≡ true
no-again m e =
    none-there m.again RepeatedModule [] (append-nil (faults_at RepeatedModule (option_to_list m.again))
    ∙ none-behind m.other UnknownAttribute (faults_at RepeatedModule (option_to_list m.again)) (attributes-right m e))

-- ---- what was read can be written and read

-- the terminals of a module's tokens fit
terminals-right : (file : Text) (m : Module) (im : IsModule reserved_names file m) → faults_of m ≡ []
    → terminals_fit 0 (terminals_of form.Module reserved_names file im.tokens) ≡ true
terminals-right file m im e =
    let other = subst (λ (x : Module). is_none x.other ≡ true) (sym im.is.value) (no-other m e) in
    terminals-in-order reserved_names file im.tokens im.cut
    (read-few im.is.tree (terminals_of form.Module reserved_names file im.tokens) im.is.spelled other)

readable : (file : Text) (m : Module) → IsModule reserved_names file m → faults_of m ≡ [] → is_readable m ≡ true
unfolding is_readable
readable file m im e =
    let ws : List Terminal = terminals_of form.Module reserved_names file im.tokens in
    let fit = terminals-right file m im e in
    let clauses =
    subst (λ (x : Module). list_all is_readable_clause x.clauses ≡ true) im.is.value (read-clauses im.is.tree ws im.is.spelled fit) in
    let exports = subst (λ (x : Module). are_small_exports x.exports ≡ true) im.is.value (read-exports im.is.tree ws im.is.spelled fit) in
    both (is_none m.again && is_none m.other && are_small_exports m.exports) (list_all is_readable_clause m.clauses)
    (both (is_none m.again && is_none m.other) (are_small_exports m.exports)
    (both (is_none m.again) (is_none m.other) (no-again m e) (no-other m e)) exports)
    clauses

writable : (file : Text) (m : Module) → IsModule reserved_names file m → faults_of m ≡ []
    → IsWritable (names_behind_module reserved_names file) m
writable file m im e = (
  strings-one-line reserved_names file reserved-one-line,
  subst (λ x. is_writable_module x ≡ true) im.is.value
      (read-writable im.is.tree (terminals_of form.Module reserved_names file im.tokens) im.is.spelled (terminals-right file m im e)),
)

-- ---- what was written is read

-- the pieces of a module, which have its canonical text
abbrev pieces : List Text → Module → List Spelling
pieces names m = module_spellings names m []

text-is : (names : List Text) (m : Module) → spellings_text (pieces names m) ≡ module_text names m
text-is names m = module-spells names m [] ∙ append-nil (module_text names m)

parts : (names : List Text) (t : Term) (ts : List Term) (p : Position) → are_small_terms (t ∷ ts) ≡ true
    → nat_le (length (t ∷ ts)) 64 ≡ true → are_next p.count (terms_variables (t ∷ ts)) ≡ true → PartsRead names t ts p
parts names t ts p small few next = parts-read names t ts p small (at-most (length (t ∷ ts)) 64 few) next

reads : (names : List Text) (m : Module) → is_readable m ≡ true → ModuleReads names m (position 0 0 reserved_names)
reads names m r = module-reads parts item-reads names m reserved_names r

-- the terminals of the canonical text
terminals-are : (names : List Text) (m : Module) → is_readable m ≡ true → IsWritable names m
    → terminals_of form.Module reserved_names (module_text names m) (tokens_at 0 (pieces names m))
    ≡ piece_terminals (position 0 0 reserved_names) (pieces names m)
terminals-are names m r w =
    ap (λ z. terminals_of form.Module reserved_names z (tokens_at 0 (pieces names m))) (sym (text-is names m))
    ∙ written-terminals reserved_names (pieces names m) (modules_fit names m w) (reads names m r).order

-- the strings behind it
names-are : (names : List Text) (m : Module) → is_readable m ≡ true → IsWritable names m
    → names_behind_module reserved_names (module_text names m) ≡ (behind_pieces (position 0 0 reserved_names) (pieces names m)).names
names-are names m r w =
    ap (names_by form.Module reserved_names (module_text names m)) (module_texts_are_cut names m w)
    ∙ (ap (λ z. (env_from form.Module (env reserved_names []) (lexemes z (tokens_at 0 (pieces names m)))).names) (sym (text-is names m))
    ∙ written-names reserved_names (pieces names m) (modules_fit names m w) (reads names m r).order)

is-module : (names : List Text) (m : Module) (r : is_readable m ≡ true) → IsWritable names m → IsShallow (module_text names m)
    → IsModule reserved_names (module_text names m) (module_value (reads names m r).tree)
is-module names m r w s = record {
  tokens = tokens_at 0 (pieces names m);
  cut = module_texts_are_cut names m w;
  is = record {
    tree = (reads names m r).tree;
    spelled = (reads names m r).terminals ∙ ap (λ ws. clean ws []) (sym (terminals-are names m r w));
    shallow = s (tokens_at 0 (pieces names m)) (module_texts_are_cut names m w);
    value = refl;
  };
}

-- the same, by the texts of both
is-alike : (names : List Text) (m : Module) (r : is_readable m ≡ true) → IsWritable names m
    → AreAlike names m (names_behind_module reserved_names (module_text names m)) (module_value (reads names m r).tree)
is-alike names m r w =
    subst (λ others. AreAlike names m others (module_value (reads names m r).tree)) (sym (names-are names m r w))
    (sym ((reads names m r).same (number_of (names ++ (behind_pieces (position 0 0 reserved_names) (pieces names m)).names))))

from-file : (file : Text) (m : Module) → IsModule reserved_names file m → faults_of m ≡ []
    → IsShallow (module_text (names_behind_module reserved_names file) m)
    → IsAlike (names_behind_module reserved_names file) m (module_text (names_behind_module reserved_names file) m)
from-file file m im e s =
    let r = readable file m im e in
    let w = writable file m im e in
    record {
      read = module_value (reads (names_behind_module reserved_names file) m r).tree;
      is_module = is-module (names_behind_module reserved_names file) m r w s;
      alike = is-alike (names_behind_module reserved_names file) m r w;
    }

-- the law; a crate above cites it for a module that it loaded
pub canonical_texts : CanonicalTextsAreRead
canonical_texts file m names im e same =
    subst (λ ns. IsShallow (module_text ns m) → IsAlike ns m (module_text ns m)) (sym same) (from-file file m im e)
