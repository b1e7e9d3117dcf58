-- A module is read as it was written.
use Rattle.std.proofs.Common.{◌≡◌, ℕ, Bool, true, List, [], ◌∷◌, ◌++◌, map, append_assoc, append-nil, refl, ap, ◌∙◌, sym, subst, Option, Some, None}
use Rattle.std.specs.Prelude.{◌&&◌, nat_le, length, is_none}
use Rattle.std.specs.List.{list_all}
use Rattle.fcp_model.specs.declared.names.Sym.{Sym}
use Rattle.fcp_model.specs.declared.term.Term.{Term}
use Rattle.fcp_model.specs.declared.source.Call.{Call}
use Rattle.fcp_model.specs.declared.source.Clause.{Clause}
use Rattle.fcp_model.specs.declared.source.Export.{Export}
use Rattle.fcp_model.specs.declared.source.Module.{Module}
use Rattle.fcp_text.specs.Bytes.{Text}
use Rattle.fcp_text.proofs.Choices.{and-first, and-second}
use Rattle.fcp_grammar.specs.Grammar.{Marked}
use Rattle.fcp_terminals.specs.Numbering.{Grows}
use Rattle.fcp_reader.specs.Texts.{clean}
use Rattle.fcp_reader.specs.AttributeGrammar.{AttributeTree}
use Rattle.fcp_reader.specs.ClauseGrammar.{ClauseTree, clause_value, spell_clause}
use Rattle.fcp_reader.specs.ModuleGrammar.{ModuleTree, empty, and_clause, module_value, spell_module, spell_module_text}
use Rattle.text_laws.specs.TermSpellings.{Writing}
use Rattle.text_laws.specs.Spellings.{line_feed}
use Rattle.text_laws.specs.SourceSpellings.{spelled_clause, spelled_clauses, spelled_name_line, spelled_exports_line, module_spellings}
use Rattle.reading_laws.specs.PieceTerminals.{Position, position, behind_piece, piece_terminals, behind_pieces, in_order}
use Rattle.reading_laws.specs.Variables.{are_next, terms_variables, call_variables, clause_variables}
use Rattle.reading_laws.specs.Readable.{is_small_call, are_small_terms, is_small_clause, is_readable_clause, are_small_exports, is_readable}
use Rattle.reading_laws.specs.Alike.{somewhere, name_with, exports_with, clause_with, module_with, by_text}
use Rattle.reading_laws.proofs.Following.{grows-same, grows-on, PartsRead, ItemReads}
use Rattle.reading_laws.proofs.ClauseEndings.{Closes, line_feed-closes, nothing-closes, closes-on, closes-as, settled}
use Rattle.reading_laws.proofs.ClauseReading.{ClauseReads, clause-reads}
use Rattle.reading_laws.proofs.AttributeLines.{spell_line, with_line, line-terminals, headed, NameReads, name-reads, ListReads, list-reads}

-- ---- clauses one behind the other

abbrev pub spell_clauses : List ClauseTree → List Marked → List Marked
spell_clauses [] rest = rest
spell_clauses (c ∷ cs) rest = spell_clause c (spell_clauses cs rest)

-- behind what a module has so far
abbrev pub with_clauses : ModuleTree → List ClauseTree → ModuleTree
with_clauses m [] = m
with_clauses m (c ∷ cs) = with_clauses (and_clause m c) cs

clauses-terminals : (m : ModuleTree) (cs : List ClauseTree) (rest : List Marked)
    → spell_module m (spell_clauses cs rest) ≡ spell_module (with_clauses m cs) rest
clauses-terminals m [] rest = refl
clauses-terminals m (c ∷ cs) rest = clauses-terminals (and_clause m c) cs rest

-- two lines that may be absent, and then clauses
tree-terminals : (o a : Option AttributeTree) (cs : List ClauseTree) (rest : List Marked)
    → spell_line o (spell_line a (spell_clauses cs rest)) ≡ spell_module (with_clauses (with_line (with_line empty o) a) cs) rest
tree-terminals o a cs rest =
    line-terminals empty o (spell_line a (spell_clauses cs rest)) ∙ line-terminals (with_line empty o) a (spell_clauses cs rest)
    ∙ clauses-terminals (with_line (with_line empty o) a) cs rest

-- a module with further clauses
abbrev and_more : Module → List Clause → Module
and_more m cs = record m { clauses = m.clauses ++ cs }

clauses-value : (m : ModuleTree) (cs : List ClauseTree) → module_value (with_clauses m cs) ≡ and_more (module_value m) (map clause_value cs)
clauses-value m [] = ap (λ (l : List Clause). record (module_value m) { clauses = l }) (sym (append-nil (module_value m).clauses))
clauses-value m (c ∷ cs) =
    clauses-value (and_clause m c) cs
    ∙ ap (λ (l : List Clause). record (module_value m) { clauses = l })
    (append_assoc (module_value m).clauses (clause_value c ∷ []) (map clause_value cs))

clauses-behind : (m : ModuleTree) (cs : List ClauseTree) (v : Module) → module_value m ≡ v
    → module_value (with_clauses m cs) ≡ and_more v (map clause_value cs)
clauses-behind m cs v e = clauses-value m cs ∙ ap (λ i. and_more i (map clause_value cs)) e

-- trees of clauses: they follow the lines of the clauses
pub record ClausesRead (names : List Text) (cs : List Clause) (p : Position) : Type 0 where
  pub trees : List ClauseTree
  pub after : Position
  pub closes : Closes (spelled_clauses names cs) [] (spell_clauses trees) p after
  pub same : (final : List Text) (g : Text → ℕ) → Grows after.names final
      → map (clause_with (by_text g final)) (map clause_value trees) ≡ map (clause_with (by_text g names)) cs

-- ---- the whole

-- A module's tree spells the terminals of its pieces, of which each variable is in its order, and says the same as the module.
pub record ModuleReads (names : List Text) (m : Module) (p : Position) : Type 0 where
  pub tree : ModuleTree
  pub terminals : spell_module_text tree ≡ clean (piece_terminals p (module_spellings names m [])) []
  pub order : in_order p (module_spellings names m []) ≡ true
  pub same : (g : Text → ℕ) → module_with (by_text g (behind_pieces p (module_spellings names m [])).names) (module_value tree)
      ≡ module_with (by_text g names) m

-- a tree whose terminals end where the pieces do
from-closes : (names : List Text) (m : Module) (p : Position) (tree : ModuleTree) (q : Position)
    → Closes (module_spellings names m) [] (spell_module tree) p q
    → ((final : List Text) (g : Text → ℕ) → Grows q.names final
    → module_with (by_text g final) (module_value tree) ≡ module_with (by_text g names) m) → ModuleReads names m p
from-closes names m p tree q c h = record {
  tree = tree;
  terminals = sym (c.terminals [] []);
  order = c.order [] refl;
  same =
      λ g. h (behind_pieces p (module_spellings names m [])).names g
      (subst (λ (s : Position). Grows q.names s.names) (sym (c.behind [])) (grows-same q.names));
}

-- a module as its parts
abbrev parts : Option Sym → Option ℕ → Option ℕ → Option (List Export) → List Clause → Module
parts name again other es cs = record { name = name; again = again; other = other; exports = es; clauses = cs }

parts-same : {a b : Option Sym} {d e : Option (List Export)} {xs ys : List Clause} (j k : Option ℕ) → a ≡ b → d ≡ e → xs ≡ ys
    → is_none j ≡ true → is_none k ≡ true
    → parts a None None d xs ≡ parts b (somewhere j) (somewhere k) e ys
parts-same {a = a} {b = b} {d = d} {e = e} {xs = xs} {ys = ys} None None f g h n o =
    ap (λ i. parts i None None d xs) f ∙ ap (λ i. parts b None None i xs) g ∙ ap (λ i. parts b None None e i) h
parts-same (Some at) k f g h n o = absurd (cc)
parts-same None (Some at) f g h n o = absurd (cc)

-- what has the same parts says the same
module-same : (f k : ℕ → ℕ) (m : Module) (v : Module) (name : Option Sym) (es : Option (List Export)) (cs : List Clause)
    → v ≡ and_more (headed name es) cs
    → name_with f name ≡ name_with k m.name → exports_with f es ≡ exports_with k m.exports
    → map (clause_with f) cs ≡ map (clause_with k) m.clauses
    → is_none m.again ≡ true → is_none m.other ≡ true → module_with f v ≡ module_with k m
unfolding module_with
module-same f k m v name es cs e a b d n o = ap (module_with f) e ∙ parts-same m.again m.other a b d n o

module _ (parts-read : (names : List Text) (t : Term) (ts : List Term) (p : Position) → are_small_terms (t ∷ ts) ≡ true
    → nat_le (length (t ∷ ts)) 64 ≡ true → are_next p.count (terms_variables (t ∷ ts)) ≡ true → PartsRead names t ts p)
    (item-reads : (names : List Text) (call : Call) (p : Position) → is_small_call call ≡ true
    → are_next p.count (call_variables call) ≡ true → ItemReads names call p) where
  pub clauses-read : (names : List Text) (cs : List Clause) (p : Position) → p.count ≡ 0 → list_all is_readable_clause cs ≡ true
      → ClausesRead names cs p
  clauses-read names [] p z h = record { trees = []; after = p; closes = nothing-closes p z; same = λ final g w. refl }
  clauses-read names (c ∷ cs) p z h =
      let r : is_readable_clause c ≡ true = and-first (is_readable_clause c) _ h in
      let n : are_next 0 (clause_variables c) ≡ true = and-first (are_next 0 (clause_variables c)) _ (and-second (is_small_clause c) _ r) in
      let x : ClauseReads names c p = clause-reads parts-read item-reads names c p z r in
      let a : Position = behind_piece x.after line_feed in
      let y : ClausesRead names cs a = clauses-read names cs a x.closes.count (and-second (is_readable_clause c) _ h) in
      record {
        trees = x.tree ∷ y.trees;
        after = y.after;
        closes =
            closes-on (spelled_clause names c) (λ ps. line_feed ∷ spelled_clauses names cs ps) [] (spell_clause x.tree)
            (spell_clauses y.trees) p x.after y.after
            (settled (spelled_clause names c) (clause_variables c) (spell_clause x.tree) p x.after
            (subst (λ k. are_next k (clause_variables c) ≡ true) (sym z) n) x.closes)
            (closes-on (λ ps. line_feed ∷ ps) (spelled_clauses names cs) [] (λ rest. rest) (spell_clauses y.trees) x.after a y.after
            (line_feed-closes x.after x.closes.count) y.closes);
        same = λ final g w.
            ap (λ i. i ∷ map (clause_with (by_text g final)) (map clause_value y.trees))
            (x.same final g (grows-on x.after.names y.after.names final y.closes.grows w))
            ∙ ap (λ is. clause_with (by_text g names) c ∷ is) (y.same final g w);
      }

  -- a module that is readable is read from the terminals of its pieces
  pub module-reads : (names : List Text) (m : Module) (ns : List Text) → is_readable m ≡ true → ModuleReads names m (position 0 0 ns)
  unfolding is_readable module_spellings
  module-reads names m ns h =
      let p : Position = position 0 0 ns in
      let a1 : Bool = is_none m.again in
      let a2 : Bool = is_none m.other in
      let a3 : Bool = are_small_exports m.exports in
      let h3 : a1 && a2 && a3 ≡ true = and-first (a1 && a2 && a3) (list_all is_readable_clause m.clauses) h in
      let h2 : a1 && a2 ≡ true = and-first (a1 && a2) a3 h3 in
      let x : NameReads names m.name p = name-reads names m.name p refl in
      let y : ListReads names m.exports x.after = list-reads names m.exports x.after x.closes.count (and-second (a1 && a2) a3 h3) in
      let z : ClausesRead names m.clauses y.after =
      clauses-read names m.clauses y.after y.closes.count (and-second (a1 && a2 && a3) (list_all is_readable_clause m.clauses) h) in
      let t1 : ModuleTree = with_line empty x.line in
      let t2 : ModuleTree = with_line t1 y.line in
      let lines : Writing = λ ps. spelled_exports_line names m.exports (spelled_clauses names m.clauses ps) in
      let c : Closes (λ ps. spelled_name_line names m.name (lines ps)) []
      (λ rest. spell_line x.line (spell_line y.line (spell_clauses z.trees rest))) p z.after =
      closes-on (spelled_name_line names m.name) lines [] (spell_line x.line)
      (λ rest. spell_line y.line (spell_clauses z.trees rest)) p x.after z.after x.closes
      (closes-on (spelled_exports_line names m.exports) (spelled_clauses names m.clauses) [] (spell_line y.line)
      (spell_clauses z.trees) x.after y.after z.after y.closes z.closes) in
      let d : Closes (module_spellings names m) [] (spell_module (with_clauses t2 z.trees)) p z.after =
      closes-as (module_spellings names m) [] (λ rest. spell_line x.line (spell_line y.line (spell_clauses z.trees rest)))
      (spell_module (with_clauses t2 z.trees)) p z.after (tree-terminals x.line y.line z.trees) c in
      from-closes names m p (with_clauses t2 z.trees) z.after d (λ final g w.
      let v : Grows y.after.names final = grows-on y.after.names z.after.names final z.closes.grows w in
      let u : Grows x.after.names final = grows-on x.after.names y.after.names final y.closes.grows v in
      module-same (by_text g final) (by_text g names) m (module_value (with_clauses t2 z.trees)) x.said y.said (map clause_value z.trees)
      (clauses-behind t2 z.trees (headed x.said y.said) (y.value x.said t1 x.value))
      (x.same final g u) (y.same final g v) (z.same final g w) (and-first a1 a2 h2) (and-second a1 a2 h2))
