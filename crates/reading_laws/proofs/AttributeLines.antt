-- The lines of a module's name and of its exports are read as they were written.
use Rattle.std.proofs.Common.{◌≡◌, ℕ, true, List, [], ◌∷◌, map, refl, ap, ◌∙◌, Option, Some, None}
use Rattle.std.specs.Prelude.{codes}
use Rattle.fcp_model.specs.declared.names.Sym.{Sym}
use Rattle.fcp_model.specs.declared.source.Export.{Export}
use Rattle.fcp_model.specs.declared.source.Module.{Module}
use Rattle.fcp_model.specs.declared.term.ArithOp.TheVariants.{Sub}
use Rattle.fcp_model.specs.NameList.{number_of}
use Rattle.fcp_model.specs.Spelling.{name_at}
use Rattle.fcp_text.specs.Bytes.{Text}
use Rattle.fcp_grammar.specs.declared.terminals.StringForm.TheVariants as F
use Rattle.fcp_grammar.specs.declared.terminals.Terminal.TheVariants as terminal
use Rattle.fcp_grammar.specs.Grammar.{Marked, plain}
use Rattle.fcp_terminals.specs.MarkTerminals.{mark_terminal}
use Rattle.fcp_terminals.specs.Numbering.{Grows}
use Rattle.fcp_reader.specs.ModuleValues.{with_exports}
use Rattle.fcp_reader.specs.AttributeGrammar.{AttributeTree, module_name, export_list, listing_value, spell_attribute, spell_listing}
use Rattle.fcp_reader.specs.ModuleGrammar.{ModuleTree, empty, and_attribute, module_value, spell_module}
use Rattle.text_laws.specs.TermSpellings.{parted_by, comma}
use Rattle.text_laws.specs.Spellings.{string, mark}
use Rattle.text_laws.specs.SourceSpellings.{closing_line, spelled_export, spelled_name_line, spelled_exports_line}
use Rattle.reading_laws.specs.PieceTerminals.{Position, string_form, behind_piece}
use Rattle.reading_laws.specs.Readable.{are_small_exports}
use Rattle.reading_laws.specs.Alike.{name_with, exports_with, by_text}
use Rattle.reading_laws.proofs.Following.{Follows, then}
use Rattle.reading_laws.proofs.TreePieces.{string-follows, mark-follows}
use Rattle.reading_laws.proofs.ClausePieces.{round_open-terminal, square_open-terminal, square_close-terminal}
use Rattle.reading_laws.proofs.ClauseEndings.{Closes, nothing-closes, then-closes, behind_closing, closing-closes}
use Rattle.reading_laws.proofs.ClauseReading.{string_of, string-same}
use Rattle.reading_laws.proofs.AttributeExports.{ExportsRead, exports-read}
use Rattle.fcp_text.specs.Signs as signs

-- ---- a line that may be absent

abbrev pub spell_line : Option AttributeTree → List Marked → List Marked
spell_line None rest = rest
spell_line (Some a) rest = spell_attribute a rest

abbrev pub with_line : ModuleTree → Option AttributeTree → ModuleTree
with_line m None = m
with_line m (Some a) = and_attribute m a

pub line-terminals : (m : ModuleTree) (o : Option AttributeTree) (rest : List Marked)
    → spell_module m (spell_line o rest) ≡ spell_module (with_line m o) rest
line-terminals m None rest = refl
line-terminals m (Some a) rest = refl

-- a module with no clause, no second name and no unknown attribute
abbrev pub headed : Option Sym → Option (List Export) → Module
headed name es = record { name = name; again = None; other = None; exports = es; clauses = [] }

minus-terminal : (at n : ℕ) → mark_terminal at n signs.minus ≡ terminal.Operator Sub at
unfolding mark_terminal
minus-terminal at n = refl

-- ---- the terminals up to the `(`

-- where a reader stands behind a `-`, a name and a `(`
abbrev behind_opening : Position → Text → Position
behind_opening p bs = behind_piece (behind_piece (behind_piece p (mark signs.minus)) (string bs)) (mark signs.round_open)

opening-follows : (bs : Text) (p : Position) → Follows (λ ps. mark signs.minus ∷ string bs ∷ mark signs.round_open ∷ ps) []
    (λ rest. plain (terminal.Operator Sub p.at)
    ∷ plain (terminal.Str (string_of (number_of p.names bs)) (string_form bs) (behind_piece p (mark signs.minus)).at)
    ∷ plain (terminal.RoundOpen (behind_piece (behind_piece p (mark signs.minus)) (string bs)).at) ∷ rest)
    p (behind_opening p bs)
opening-follows bs p =
    let a : Position = behind_piece p (mark signs.minus) in
    let b : Position = behind_piece a (string bs) in
    let d : Position = behind_piece b (mark signs.round_open) in
    (then) (λ ps. mark signs.minus ∷ ps) (λ ps. string bs ∷ mark signs.round_open ∷ ps) [] []
    (λ rest. plain (terminal.Operator Sub p.at) ∷ rest)
    (λ rest. plain (terminal.Str (string_of (number_of p.names bs)) (string_form bs) a.at) ∷ plain (terminal.RoundOpen b.at) ∷ rest) p a d
    (mark-follows p signs.minus (terminal.Operator Sub p.at) (minus-terminal p.at p.count) refl)
    ((then) (λ ps. string bs ∷ ps) (λ ps. mark signs.round_open ∷ ps) [] []
    (λ rest. plain (terminal.Str (string_of (number_of p.names bs)) (string_form bs) a.at) ∷ rest)
    (λ rest. plain (terminal.RoundOpen b.at) ∷ rest) a b d
    (string-follows a bs) (mark-follows b signs.round_open (terminal.RoundOpen b.at) (round_open-terminal b.at b.count) refl))

-- ---- the name

pub record NameReads (names : List Text) (name : Option Sym) (p : Position) : Type 0 where
  pub line : Option AttributeTree
  pub after : Position
  pub closes : Closes (spelled_name_line names name) [] (spell_line line) p after
  pub said : Option Sym
  pub value : module_value (with_line empty line) ≡ headed said None
  pub same : (final : List Text) (g : Text → ℕ) → Grows after.names final
      → name_with (by_text g final) said ≡ name_with (by_text g names) name

pub name-reads : (names : List Text) (name : Option Sym) (p : Position) → p.count ≡ 0 → NameReads names name p
name-reads names None p z =
    record { line = None; after = p; closes = nothing-closes p z; said = None; value = refl; same = λ final g w. refl }
name-reads names (Some s) p z =
    let a : Position = behind_piece p (mark signs.minus) in
    let b : Position = behind_piece a (string (codes "module")) in
    let d : Position = behind_opening p (codes "module") in
    let bs : Text = name_at names s.0 in
    let e : Position = behind_piece d (string bs) in
    let m : Sym = string_of (number_of p.names (codes "module")) in
    let k : Sym = string_of (number_of d.names bs) in
    record {
      line = Some (module_name (record { dash = p.at; name = m; at = a.at }) b.at k (string_form bs) d.at 0);
      after = behind_closing e;
      closes =
          then-closes (λ ps. mark signs.minus ∷ string (codes "module") ∷ mark signs.round_open ∷ ps) (λ ps. string bs ∷ closing_line ps) []
          (λ rest. plain (terminal.Operator Sub p.at) ∷ plain (terminal.Str m F.Module a.at) ∷ plain (terminal.RoundOpen b.at) ∷ rest)
          (λ rest. plain (terminal.Str k (string_form bs) d.at) ∷ plain terminal.RoundClose ∷ plain (terminal.Dot 0) ∷ rest) p d
          (behind_closing e)
          (opening-follows (codes "module") p)
          (then-closes (λ ps. string bs ∷ ps) closing_line [] (λ rest. plain (terminal.Str k (string_form bs) d.at) ∷ rest)
          (λ rest. plain terminal.RoundClose ∷ plain (terminal.Dot 0) ∷ rest) d e (behind_closing e)
          (string-follows d bs) (closing-closes 0 e z));
      said = Some k;
      value = refl;
      same = λ final g w. ap Some (string-same names d.names final s g w);
    }

-- ---- the exports

pub record ListReads (names : List Text) (es : Option (List Export)) (p : Position) : Type 0 where
  pub line : Option AttributeTree
  pub after : Position
  pub closes : Closes (spelled_exports_line names es) [] (spell_line line) p after
  pub said : Option (List Export)
  pub value : (name : Option Sym) (front : ModuleTree) → module_value front ≡ headed name None
      → module_value (with_line front line) ≡ headed name said
  pub same : (final : List Text) (g : Text → ℕ) → Grows after.names final
      → exports_with (by_text g final) said ≡ exports_with (by_text g names) es

pub list-reads : (names : List Text) (es : Option (List Export)) (p : Position) → p.count ≡ 0 → are_small_exports es ≡ true
    → ListReads names es p
list-reads names None p z h =
    record { line = None; after = p; closes = nothing-closes p z; said = None; value = λ name front e. e; same = λ final g w. refl }
list-reads names (Some es) p z h =
    let a : Position = behind_piece p (mark signs.minus) in
    let b : Position = behind_piece a (string (codes "export")) in
    let d : Position = behind_opening p (codes "export") in
    let i : Position = behind_piece d (mark signs.square_open) in
    let x : ExportsRead names es i = exports-read names es i h in
    let j : Position = behind_piece x.after (mark signs.square_close) in
    let m : Sym = string_of (number_of p.names (codes "export")) in
    record {
      line = Some (export_list (record { dash = p.at; name = m; at = a.at }) b.at d.at x.tree 0);
      after = behind_closing j;
      closes =
          then-closes (λ ps. mark signs.minus ∷ string (codes "export") ∷ mark signs.round_open ∷ ps)
          (λ ps. mark signs.square_open ∷ parted_by comma (map (spelled_export names) es)
          (mark signs.square_close ∷ closing_line ps)) []
          (λ rest. plain (terminal.Operator Sub p.at) ∷ plain (terminal.Str m F.Export a.at) ∷ plain (terminal.RoundOpen b.at) ∷ rest)
          (λ rest. plain (terminal.SquareOpen d.at)
          ∷ spell_listing x.tree (plain terminal.SquareClose ∷ plain terminal.RoundClose ∷ plain (terminal.Dot 0) ∷ rest)) p d
          (behind_closing j)
          (opening-follows (codes "export") p)
          (then-closes (λ ps. mark signs.square_open ∷ ps)
          (λ ps. parted_by comma (map (spelled_export names) es) (mark signs.square_close ∷ closing_line ps)) []
          (λ rest. plain (terminal.SquareOpen d.at) ∷ rest)
          (λ rest. spell_listing x.tree (plain terminal.SquareClose ∷ plain terminal.RoundClose ∷ plain (terminal.Dot 0) ∷ rest)) d i
          (behind_closing j)
          (mark-follows d signs.square_open (terminal.SquareOpen d.at) (square_open-terminal d.at d.count) refl)
          (then-closes (parted_by comma (map (spelled_export names) es)) (λ ps. mark signs.square_close ∷ closing_line ps) []
          (spell_listing x.tree) (λ rest. plain terminal.SquareClose ∷ plain terminal.RoundClose ∷ plain (terminal.Dot 0)
          ∷ rest) i x.after (behind_closing j)
          x.follows
          (then-closes (λ ps. mark signs.square_close ∷ ps) closing_line [] (λ rest. plain terminal.SquareClose ∷ rest)
          (λ rest. plain terminal.RoundClose ∷ plain (terminal.Dot 0) ∷ rest) x.after j (behind_closing j)
          (mark-follows x.after signs.square_close terminal.SquareClose (square_close-terminal x.after.at x.after.count) refl)
          (closing-closes 0 j (x.follows.count ∙ z)))));
      said = Some (listing_value x.tree);
      value = λ name front e. ap (λ v. with_exports v (listing_value x.tree)) e;
      same = λ final g w. ap Some (x.same final g w);
    }
