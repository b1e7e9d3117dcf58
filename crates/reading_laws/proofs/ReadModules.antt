-- The clauses and exports of a module whose tree spells unmarked terminals.
use Rattle.std.proofs.Common.{◌≡◌, ℕ, ℤ, pos, negsuc, Bool, true, false, List, [], ◌∷◌, ◌++◌, length, refl, ◌∙◌, sym, subst, arith, Option, Some, None}
use Rattle.std.specs.Prelude.{◌&&◌, nat_le, nat_eq, unsigned_abs}
use Rattle.std.specs.List.{list_all}
use Rattle.std.proofs.lemmas.Bool.Decides.{nat_tests}
use Rattle.std.proofs.lemmas.List.Folds.{list_all-append}
use Rattle.fcp_model.specs.declared.term.Term.{Term}
use Rattle.fcp_model.specs.declared.source.Item.{Item}
use Rattle.fcp_model.specs.declared.source.Clause.{Clause}
use Rattle.fcp_model.specs.declared.source.Export.{Export}
use Rattle.fcp_model.specs.declared.source.Module.{Module}
use Rattle.fcp_text.proofs.Choices.{by_test, and-first, and-second}
use Rattle.fcp_grammar.specs.declared.terminals.Terminal.{Terminal}
use Rattle.fcp_grammar.specs.declared.terminals.Terminal.TheVariants as terminal
use Rattle.fcp_grammar.specs.Grammar.{Marked, value, values, plain, CallTree, name_alone, with_arguments, spell_call}
use Rattle.fcp_grammar.specs.ItemGrammar.{item_value, item_values, spell_list}
use Rattle.fcp_reader.specs.ModuleValues.{is_no_arity, arity_of, listed}
use Rattle.fcp_reader.specs.ClauseGrammar.{head_value, ClauseTree, fact, rule, guarded, clause_value, spell_clause}
use Rattle.fcp_reader.specs.AttributeGrammar.{SpecTree, spec, spec_value, spell_spec, SpecTrees, no_specs, and_spec, spec_values, spell_specs, Listing, nothing_listed, listing, listing_value, spell_listing, AnyTerminals, no_terminals, and_terminal, spell_any, AttributeTree, module_name, export_list, unknown, spell_attribute}
use Rattle.fcp_reader.specs.ModuleGrammar.{ModuleTree, empty, and_clause, and_attribute, module_value, spell_module, spell_module_text}
use Rattle.fcp_reader.specs.Texts.{clean}
use Rattle.text_laws.specs.Writable.{is_int, is_writable_term, are_writable_items, is_writable_clause, are_writable_exports, is_writable_module}
use Rattle.reading_laws.specs.Variables.{terms_variables, items_variables, clause_variables, count_behind, are_next, is_numbered}
use Rattle.reading_laws.specs.TerminalOrder.{count_after, terminals_fit}
use Rattle.reading_laws.specs.Readable.{are_small_terms, are_small_items, has_body, is_small_clause, is_readable_clause, are_small_exports}
use Rattle.reading_laws.proofs.ReadParts.{and-both, and-assoc, all-last, Sound, terminals-sound, Reads, two-read, reads-as, past}
use Rattle.reading_laws.proofs.ReadItems.{read-arguments, read-list}

-- ---- clauses

-- the arguments of a head, at most 64
abbrev ReadsArguments : ℕ → List Term → List Marked → Type 0
ReadsArguments n ts rest = Reads n (nat_le (length ts) 64 && are_small_terms ts) (list_all is_writable_term ts) (terms_variables ts) rest

read-head : (h : CallTree) (n : ℕ) (rest : List Marked) → Sound n (spell_call false h rest) → ReadsArguments n (head_value h).args rest
read-head (name_alone s form at) n rest h = record { is_small = refl; is_writable = refl; in_order = refl; behind = h.2 }
read-head (with_arguments s form at o ts t) n rest h =
    let args : List Term = values ts ++ value t ∷ [] in
    let a = read-arguments ts t n rest h.2.2 in
    reads-as (λ g. and-both (nat_le (length args) 64) (are_small_terms args) a.0 g) (λ g. g) refl a.1

abbrev ReadsItemList : ℕ → List Item → List Marked → Type 0
ReadsItemList n is rest = Reads n (are_small_items is) (are_writable_items is) (items_variables is) rest

no-items-read : (n : ℕ) (rest : List Marked) → Sound n rest → ReadsItemList n [] rest
no-items-read n rest h = record { is_small = refl; is_writable = refl; in_order = refl; behind = h }

abbrev ReadsClause : Clause → List Marked → Type 0
ReadsClause c rest = Reads 0 (is_small_clause c) (is_writable_clause c) (clause_variables c) rest

-- a clause is its arguments, its guard and its body
parts-read : (c : Clause) {first second rest : List Marked} → ReadsArguments 0 c.args first
    → ReadsItemList (count_behind 0 (terms_variables c.args)) c.guard second
    → ReadsItemList (count_behind (count_behind 0 (terms_variables c.args)) (items_variables c.guard)) c.body rest
    → has_body c.guard c.body ≡ true → ReadsClause c rest
parts-read c a g b e =
    let s : Bool = nat_le (length c.args) 64 && are_small_terms c.args in
    reads-as (λ h. and-both (s && are_small_items c.guard && are_small_items c.body) (has_body c.guard c.body)
    (and-assoc s (are_small_items c.guard) (are_small_items c.body) ∙ h) e) (λ h. h) refl (two-read a (two-read g b))

guarded-body : (gs : List Item) (g : Item) (is : List Item) (i : Item) → has_body (gs ++ g ∷ []) (is ++ i ∷ []) ≡ true
guarded-body [] g [] i = refl
guarded-body [] g (j ∷ is) i = refl
guarded-body (k ∷ gs) g [] i = refl
guarded-body (k ∷ gs) g (j ∷ is) i = refl

-- a clause up to its `.`
read-parts : (c : ClauseTree) (rest : List Marked) → Sound 0 (spell_clause c rest)
    → ReadsClause (clause_value c) (plain (terminal.Dot (clause_value c).vars) ∷ rest)
read-parts (fact h n) rest s =
    let a = read-head h 0 _ s in
    let g = no-items-read _ _ a.behind in
    parts-read (clause_value (fact h n)) a g g refl
read-parts (rule h is i n) rest s =
    let c : Clause = clause_value (rule h is i n) in
    let a : ReadsArguments 0 c.args (spell_list is i (plain (terminal.Dot n) ∷ rest)) = past (λ k. refl) (read-head h 0 _ s) in
    let g = no-items-read _ _ a.behind in
    parts-read c a g (read-list is i _ _ a.behind) refl
read-parts (guarded h gs g is i n) rest s =
    let c : Clause = clause_value (guarded h gs g is i n) in
    let a : ReadsArguments 0 c.args (spell_list gs g (plain terminal.Bar ∷ spell_list is i (plain (terminal.Dot n) ∷ rest))) =
    past (λ k. refl) (read-head h 0 _ s) in
    let b : ReadsItemList (count_behind 0 (terms_variables c.args)) c.guard (spell_list is i (plain (terminal.Dot n) ∷ rest)) =
    past (λ k. refl) (read-list gs g _ _ a.behind) in
    parts-read c a b (read-list is i _ _ b.behind) (guarded-body (item_values gs) (item_value g) (item_values is) (item_value i))

same-number : (i j : ℕ) → nat_eq i j ≡ true → nat_eq j i ≡ true
same-number i j h = grind (arith, nat_tests)

-- what a clause's terminals say of it
pub record ClauseRead (c : Clause) (rest : List Marked) : Type 0 where
  pub readable : is_readable_clause c ≡ true
  pub writable : is_writable_clause c ≡ true
  pub behind : Sound 0 rest

pub read-clause : (c : ClauseTree) (rest : List Marked) → Sound 0 (spell_clause c rest) → ClauseRead (clause_value c) rest
read-clause t rest s =
    let c : Clause = clause_value t in
    let a : ReadsClause c (plain (terminal.Dot c.vars) ∷ rest) = read-parts t rest s in
    let e : nat_eq (count_behind 0 (clause_variables c)) c.vars ≡ true =
    same-number c.vars (count_behind 0 (clause_variables c)) a.behind.1 in
    record {
      readable =
          and-both (is_small_clause c) (is_numbered c) a.is_small
          (and-both (are_next 0 (clause_variables c)) (nat_eq (count_behind 0 (clause_variables c)) c.vars) a.in_order e);
      writable = a.is_writable;
      behind = a.behind.2;
    }

-- ---- exports

few-arguments : (i : ℤ) → is_no_arity i ≡ false → nat_le (unsigned_abs i) 64 ≡ true
few-arguments (pos k) h = grind (arith, nat_tests)
few-arguments (negsuc k) h = absurd (cc)

pub arity-fits : (i : ℤ) → nat_le (arity_of i) 64 ≡ true
arity-fits i = by_test (λ k. nat_le k 64 ≡ true) (is_no_arity i) 0 (unsigned_abs i) (λ h. refl) (λ h. few-arguments i h)

abbrev small_arity : Export → Bool
small_arity e = nat_le e.arity 64

spec-small : (e : SpecTree) → small_arity (spec_value e) ≡ true
spec-small (spec s form at d i i_at) = arity-fits i

specs-small : (es : SpecTrees) → list_all small_arity (spec_values es) ≡ true
specs-small no_specs = refl
specs-small (and_spec es e) =
    all-last small_arity (spec_values es) (spec_value e)
    ∙ and-both (list_all small_arity (spec_values es)) (small_arity (spec_value e)) (specs-small es) (spec-small e)

listing-small : (es : Listing) → list_all small_arity (listing_value es) ≡ true
listing-small nothing_listed = refl
listing-small (listing es e) = specs-small (and_spec es e)

listed-exports : (es : Option (List Export)) (more : List Export) → are_small_exports es ≡ true → list_all small_arity more ≡ true
    → list_all small_arity (listed es ++ more) ≡ true
listed-exports None more h k = k
listed-exports (Some es) more h k = list_all-append small_arity es more ∙ and-both (list_all small_arity es) (list_all small_arity more) h k

-- the exports of any tree are small
pub exports-small : (m : ModuleTree) → are_small_exports (module_value m).exports ≡ true
exports-small empty = refl
exports-small (and_clause m c) = exports-small m
exports-small (and_attribute m (module_name o b s form at n)) = exports-small m
exports-small (and_attribute m (export_list o b q es n)) =
    listed-exports (module_value m).exports (listing_value es) (exports-small m) (listing-small es)
exports-small (and_attribute m (unknown o form ws n)) = exports-small m

int-fits : (k : ℕ) → nat_le k 64 ≡ true → is_int (pos k) ≡ true
int-fits k h = grind (arith, nat_tests)

each-int : (es : List Export) → list_all small_arity es ≡ true → list_all (λ (e : Export). is_int (pos e.arity)) es ≡ true
each-int [] h = refl
each-int (e ∷ es) h =
    and-both (is_int (pos e.arity)) _ (int-fits e.arity (and-first (small_arity e) _ h)) (each-int es (and-second (small_arity e) _ h))

small-writable : (es : Option (List Export)) → are_small_exports es ≡ true → are_writable_exports es ≡ true
small-writable None h = refl
small-writable (Some es) h = each-int es h

-- ---- attributes, behind which no variables are counted

read-spec : (e : SpecTree) (n : ℕ) (rest : List Marked) → Sound n (spell_spec e rest) → Sound n rest
read-spec (spec s form at d i i_at) n rest h = h.2.2.2

read-specs : (es : SpecTrees) (n : ℕ) (rest : List Marked) → Sound n (spell_specs es rest) → Sound n rest
read-specs no_specs n rest h = h
read-specs (and_spec es e) n rest h = (read-spec e n (plain terminal.Comma ∷ rest) (read-specs es n _ h)).2

read-listing : (es : Listing) (n : ℕ) (rest : List Marked) → Sound n (spell_listing es rest) → Sound n rest
read-listing nothing_listed n rest h = h
read-listing (listing es e) n rest h = read-spec e n rest (read-specs es n _ h)

-- any terminals leave some number of variables
read-any : (ws : AnyTerminals) (n : ℕ) (rest : List Marked) → Sound n (spell_any ws rest) → (k : ℕ) × Sound k rest
read-any no_terminals n rest h = (n, h)
read-any (and_terminal ws w e) n rest h =
    let a : (k : ℕ) × Sound k (plain w ∷ rest) = read-any ws n (plain w ∷ rest) h in
    (count_after a.0 w, a.1.2)

pub read-attribute : (a : AttributeTree) (n : ℕ) (rest : List Marked) → Sound n (spell_attribute a rest) → Sound 0 rest
read-attribute (module_name o b s form at vars) n rest h = h.2.2.2.2.2.2
read-attribute (export_list o b q es vars) n rest h =
    (read-listing es n (plain terminal.SquareClose ∷ plain terminal.RoundClose ∷ plain (terminal.Dot vars) ∷ rest) h.2.2.2.2).2.2.2
read-attribute (unknown o form ws vars) n rest h = (read-any ws n (plain (terminal.Dot vars) ∷ rest) h.2.2).1.2

-- ---- modules

-- what a module's terminals say of its clauses
pub record ModuleRead (m : Module) (rest : List Marked) : Type 0 where
  pub readable : list_all is_readable_clause m.clauses ≡ true
  pub writable : list_all is_writable_clause m.clauses ≡ true
  pub behind : Sound 0 rest

pub read-module : (m : ModuleTree) (rest : List Marked) → Sound 0 (spell_module m rest) → ModuleRead (module_value m) rest
read-module empty rest h = record { readable = refl; writable = refl; behind = h }
read-module (and_clause m c) rest h =
    let cs : List Clause = (module_value m).clauses in
    let d : Clause = clause_value c in
    let a : ModuleRead (module_value m) (spell_clause c rest) = read-module m _ h in
    let b : ClauseRead d rest = read-clause c rest a.behind in
    record {
      readable = all-last is_readable_clause cs d ∙ and-both (list_all is_readable_clause cs) (is_readable_clause d) a.readable b.readable;
      writable = all-last is_writable_clause cs d ∙ and-both (list_all is_writable_clause cs) (is_writable_clause d) a.writable b.writable;
      behind = b.behind;
    }
read-module (and_attribute m (module_name o b s form at n)) rest h =
    let a = read-module m _ h in
    record { readable = a.readable; writable = a.writable; behind = read-attribute (module_name o b s form at n) 0 rest a.behind }
read-module (and_attribute m (export_list o b q es n)) rest h =
    let a = read-module m _ h in
    record { readable = a.readable; writable = a.writable; behind = read-attribute (export_list o b q es n) 0 rest a.behind }
read-module (and_attribute m (unknown o form ws n)) rest h =
    let a = read-module m _ h in
    record { readable = a.readable; writable = a.writable; behind = read-attribute (unknown o form ws n) 0 rest a.behind }

read-text : (tree : ModuleTree) (ws : List Terminal) → spell_module_text tree ≡ clean ws [] → terminals_fit 0 ws ≡ true
    → ModuleRead (module_value tree) []
read-text tree ws e h = read-module tree [] (subst (λ l. Sound 0 l) (sym e) (terminals-sound 0 ws h))

-- the clauses of a text whose terminals fit are readable
pub read-clauses : (tree : ModuleTree) (ws : List Terminal) → spell_module_text tree ≡ clean ws [] → terminals_fit 0 ws ≡ true
    → list_all is_readable_clause (module_value tree).clauses ≡ true
read-clauses tree ws e h = (read-text tree ws e h).readable

-- its exports are small
pub read-exports : (tree : ModuleTree) (ws : List Terminal) → spell_module_text tree ≡ clean ws [] → terminals_fit 0 ws ≡ true
    → are_small_exports (module_value tree).exports ≡ true
read-exports tree ws e h = exports-small tree

-- its numbers are within 64 bits
pub read-writable : (tree : ModuleTree) (ws : List Terminal) → spell_module_text tree ≡ clean ws [] → terminals_fit 0 ws ≡ true
    → is_writable_module (module_value tree) ≡ true
read-writable tree ws e h =
    let m : Module = module_value tree in
    and-both (are_writable_exports m.exports) (list_all is_writable_clause m.clauses) (small-writable m.exports (exports-small tree))
    (read-text tree ws e h).writable
