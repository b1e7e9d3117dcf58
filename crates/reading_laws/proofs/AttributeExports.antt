-- Lists of exports are read as they were written.
use Rattle.std.proofs.Common.{◌≡◌, ℕ, ℤ, pos, Bool, true, false, List, [], ◌∷◌, ◌++◌, map, append_assoc, append-nil, refl, ap, ◌∙◌, sym, arith}
use Rattle.std.specs.Prelude.{◌||◌, nat_le, nat_lt}
use Rattle.std.specs.List.{list_all}
use Rattle.std.proofs.lemmas.Bool.Decides.{nat_tests}
use Rattle.fcp_model.specs.declared.names.Sym.{Sym}
use Rattle.fcp_model.specs.declared.source.Export.{Export}
use Rattle.fcp_model.specs.declared.term.ArithOp.TheVariants.{Div}
use Rattle.fcp_model.specs.NameList.{number_of}
use Rattle.fcp_model.specs.Spelling.{name_at}
use Rattle.fcp_text.specs.Bytes.{Text}
use Rattle.fcp_text.proofs.Choices.{and-first, and-second}
use Rattle.fcp_grammar.specs.declared.terminals.StringForm.{StringForm}
use Rattle.fcp_grammar.specs.declared.terminals.Terminal.TheVariants as terminal
use Rattle.fcp_grammar.specs.Grammar.{Marked, plain}
use Rattle.fcp_terminals.specs.MarkTerminals.{mark_terminal}
use Rattle.fcp_terminals.specs.Numbering.{Grows}
use Rattle.fcp_reader.specs.ModuleValues.{is_no_arity, arity_of}
use Rattle.fcp_reader.specs.AttributeGrammar.{SpecTree, spec, spec_value, spell_spec, SpecTrees, no_specs, and_spec, spec_values, spell_specs, Listing, nothing_listed, listing, listing_value, spell_listing}
use Rattle.text_laws.specs.TermSpellings.{Writing, each_after, parted_by, comma}
use Rattle.text_laws.specs.Spellings.{string, number, mark}
use Rattle.text_laws.specs.SourceSpellings.{spelled_export}
use Rattle.reading_laws.specs.PieceTerminals.{Position, string_form, behind_piece}
use Rattle.reading_laws.specs.Alike.{string_with, export_with, by_text}
use Rattle.reading_laws.proofs.Following.{Follows, then, grows-on}
use Rattle.reading_laws.proofs.TreePieces.{string-follows, number-follows, mark-follows, none-follows}
use Rattle.reading_laws.proofs.ClausePieces.{follows-as, comma-terminal}
use Rattle.reading_laws.proofs.ClauseReading.{string_of, string-same}
use Rattle.fcp_text.specs.Signs as signs

-- ---- numbers of arguments

neither : (a b : Bool) → a ≡ false → b ≡ false → a || b ≡ false
neither true b e f = absurd (cc)
neither false b e f = f

at_most : (n : ℕ) → nat_le n 64 ≡ true → nat_lt 64 n ≡ false
at_most n h = grind (arith, nat_tests)

not_below : (n : ℕ) → nat_lt n 0 ≡ false
not_below n = grind (arith, nat_tests)

-- up to 64 it is one
pub is-arity : (n : ℕ) → nat_le n 64 ≡ true → is_no_arity (pos n) ≡ false
is-arity n h = neither (nat_lt n 0) (nat_lt 64 n) (not_below n) (at_most n h)

pub arity-same : (n : ℕ) → nat_le n 64 ≡ true → arity_of (pos n) ≡ n
arity-same n h = rw (is-arity n h) refl

-- ---- trees of elements one behind the other, as the grammar puts them

-- elements with a comma before each
abbrev pub spell_more_specs : List SpecTree → List Marked → List Marked
spell_more_specs [] rest = rest
spell_more_specs (t ∷ ts) rest = plain terminal.Comma ∷ spell_spec t (spell_more_specs ts rest)

-- the same with an element before them, as a list of the grammar
pub record SpecsListed (front : SpecTrees) (last : SpecTree) (ts : List SpecTree) : Type 0 where
  pub others : SpecTrees
  pub end : SpecTree
  pub terminals : (rest : List Marked)
      → spell_specs front (spell_spec last (spell_more_specs ts rest)) ≡ spell_specs others (spell_spec end rest)
  pub values : spec_values others ++ spec_value end ∷ [] ≡ (spec_values front ++ spec_value last ∷ []) ++ map spec_value ts

pub specs-listed : (front : SpecTrees) (last : SpecTree) (ts : List SpecTree) → SpecsListed front last ts
specs-listed front last [] = record { others = front; end = last; terminals = λ rest. refl; values = sym (append-nil _) }
specs-listed front last (t ∷ ts) =
    let l : SpecsListed (and_spec front last) t ts = specs-listed (and_spec front last) t ts in
    record {
      others = l.others;
      end = l.end;
      terminals = l.terminals;
      values = l.values ∙ append_assoc (spec_values front ++ spec_value last ∷ []) (spec_value t ∷ []) (map spec_value ts);
    }

-- ---- elements as they are read

pub record ExportReads (names : List Text) (e : Export) (p : Position) : Type 0 where
  pub tree : SpecTree
  pub after : Position
  pub follows : Follows (spelled_export names e) [] (spell_spec tree) p after
  pub same : (final : List Text) (g : Text → ℕ) → Grows after.names final
      → export_with (by_text g final) (spec_value tree) ≡ export_with (by_text g names) e

slash-terminal : (at n : ℕ) → mark_terminal at n signs.divide ≡ terminal.Operator Div at
unfolding mark_terminal
slash-terminal at n = refl

spec-terminals : (s : Sym) (form : StringForm) (at d : ℕ) (n : ℤ) (i : ℕ) → is_no_arity n ≡ false → (rest : List Marked)
    → plain (terminal.Str s form at) ∷ plain (terminal.Operator Div d) ∷ plain (terminal.Int n i) ∷ rest
    ≡ spell_spec (spec s form at d n i) rest
spec-terminals s form at d n i h rest =
    ap (λ m. plain (terminal.Str s form at) ∷ plain (terminal.Operator Div d) ∷ (terminal.Int n i, m) ∷ rest) (sym h)

-- an export at no place
abbrev made : Sym → ℕ → Export
made s n = record { at = 0; name = s; arity = n }

pub export-reads : (names : List Text) (e : Export) (p : Position) → nat_le e.arity 64 ≡ true → ExportReads names e p
export-reads names e p h =
    let bs : Text = name_at names e.name.0 in
    let s : Sym = string_of (number_of p.names bs) in
    let a : Position = behind_piece p (string bs) in
    let b : Position = behind_piece a (mark signs.divide) in
    let d : Position = behind_piece b (number (pos e.arity)) in
    let f : Follows (spelled_export names e) []
    (λ rest. plain (terminal.Str s (string_form bs) p.at) ∷ plain (terminal.Operator Div a.at) ∷ plain (terminal.Int (pos e.arity) b.at)
    ∷ rest) p d =
    (then) (λ ps. string bs ∷ ps) (λ ps. mark signs.divide ∷ number (pos e.arity) ∷ ps) [] []
    (λ rest. plain (terminal.Str s (string_form bs) p.at) ∷ rest)
    (λ rest. plain (terminal.Operator Div a.at) ∷ plain (terminal.Int (pos e.arity) b.at) ∷ rest) p a d (string-follows p bs)
    ((then) (λ ps. mark signs.divide ∷ ps) (λ ps. number (pos e.arity) ∷ ps) [] [] (λ rest. plain (terminal.Operator Div a.at) ∷ rest)
    (λ rest. plain (terminal.Int (pos e.arity) b.at) ∷ rest) a b d
    (mark-follows a signs.divide (terminal.Operator Div a.at) (slash-terminal a.at a.count) refl) (number-follows b (pos e.arity))) in
    record {
      tree = spec s (string_form bs) p.at a.at (pos e.arity) b.at;
      after = d;
      follows =
          follows-as (spelled_export names e) [] _ (spell_spec (spec s (string_form bs) p.at a.at (pos e.arity) b.at)) p d
          (spec-terminals s (string_form bs) p.at a.at (pos e.arity) b.at (is-arity e.arity h)) f;
      same =
          λ final g w. ap (λ n. made (string_with (by_text g final) s) n) (arity-same e.arity h)
          ∙ ap (λ t. made t e.arity) (string-same names p.names final e.name g w);
    }

-- elements behind the first
pub record MoreExports (names : List Text) (es : List Export) (p : Position) : Type 0 where
  pub trees : List SpecTree
  pub after : Position
  pub follows : Follows (each_after comma (map (spelled_export names) es)) [] (spell_more_specs trees) p after
  pub same : (final : List Text) (g : Text → ℕ) → Grows after.names final
      → map (export_with (by_text g final)) (map spec_value trees) ≡ map (export_with (by_text g names)) es

more-exports : (names : List Text) (es : List Export) (p : Position) → list_all (λ (e : Export). nat_le e.arity 64) es ≡ true
    → MoreExports names es p
more-exports names [] p h = record { trees = []; after = p; follows = none-follows p; same = λ final g w. refl }
more-exports names (e ∷ es) p h =
    let a : Position = behind_piece p (mark signs.comma) in
    let x : ExportReads names e a = export-reads names e a (and-first (nat_le e.arity 64) _ h) in
    let y : MoreExports names es x.after = more-exports names es x.after (and-second (nat_le e.arity 64) _ h) in
    let w : Writing = each_after comma (map (spelled_export names) es) in
    record {
      trees = x.tree ∷ y.trees;
      after = y.after;
      follows =
          (then) comma (λ ps. spelled_export names e (w ps)) [] [] (λ rest. plain terminal.Comma ∷ rest)
          (λ rest. spell_spec x.tree (spell_more_specs y.trees rest)) p a y.after
          (mark-follows p signs.comma terminal.Comma (comma-terminal p.at p.count) refl)
          ((then) (spelled_export names e) w [] [] (spell_spec x.tree) (spell_more_specs y.trees) a x.after y.after x.follows y.follows);
      same = λ final g v.
          ap (λ z. z ∷ map (export_with (by_text g final)) (map spec_value y.trees))
          (x.same final g (grows-on x.after.names y.after.names final y.follows.grows v))
          ∙ ap (λ zs. export_with (by_text g names) e ∷ zs) (y.same final g v);
    }

-- a list of exports
pub record ExportsRead (names : List Text) (es : List Export) (p : Position) : Type 0 where
  pub tree : Listing
  pub after : Position
  pub follows : Follows (parted_by comma (map (spelled_export names) es)) [] (spell_listing tree) p after
  pub same : (final : List Text) (g : Text → ℕ) → Grows after.names final
      → map (export_with (by_text g final)) (listing_value tree) ≡ map (export_with (by_text g names)) es

pub exports-read : (names : List Text) (es : List Export) (p : Position) → list_all (λ (e : Export). nat_le e.arity 64) es ≡ true
    → ExportsRead names es p
exports-read names [] p h = record { tree = nothing_listed; after = p; follows = none-follows p; same = λ final g w. refl }
exports-read names (e ∷ es) p h =
    let x : ExportReads names e p = export-reads names e p (and-first (nat_le e.arity 64) _ h) in
    let y : MoreExports names es x.after = more-exports names es x.after (and-second (nat_le e.arity 64) _ h) in
    let w : Writing = each_after comma (map (spelled_export names) es) in
    let l : SpecsListed no_specs x.tree y.trees = specs-listed no_specs x.tree y.trees in
    let f : Follows (λ ps. spelled_export names e (w ps)) [] (λ rest. spell_spec x.tree (spell_more_specs y.trees rest)) p y.after =
    (then) (spelled_export names e) w [] [] (spell_spec x.tree) (spell_more_specs y.trees) p x.after y.after x.follows y.follows in
    record {
      tree = listing l.others l.end;
      after = y.after;
      follows =
          follows-as (parted_by comma (map (spelled_export names) (e ∷ es))) [] _
          (spell_listing (listing l.others l.end)) p y.after l.terminals f;
      same = λ final g v.
          ap (map (export_with (by_text g final))) l.values
          ∙ ap (λ z. z ∷ map (export_with (by_text g final)) (map spec_value y.trees))
          (x.same final g (grows-on x.after.names y.after.names final y.follows.grows v))
          ∙ ap (λ zs. export_with (by_text g names) e ∷ zs) (y.same final g v);
    }
