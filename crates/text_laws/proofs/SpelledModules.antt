-- The texts of expressions, items, clauses and modules are those of their pieces.
use Rattle.std.proofs.Common.{◌≡◌, ℕ, List, [], ◌∷◌, ◌++◌, map, refl, sym, subst, Option, Some, None}
use Rattle.std.specs.Prelude.{codes, decimal, pos}
use Rattle.fcp_model.specs.declared.names.Sym.{Sym}
use Rattle.fcp_model.specs.declared.term.Term.{Term}
use Rattle.fcp_model.specs.declared.term.ArithOp.{ArithOp}
use Rattle.fcp_model.specs.declared.term.ArithOp.TheVariants.{Add, Sub, Mul, Div, Mod}
use Rattle.fcp_model.specs.declared.term.CompareOp.{CompareOp}
use Rattle.fcp_model.specs.declared.term.CompareOp.TheVariants.{Less, AtMost, Greater, AtLeast, Equal, NotEqual}
use Rattle.fcp_model.specs.declared.term.Expr.{Expr, Leaf, Op}
use Rattle.fcp_model.specs.declared.source.Call.{Call}
use Rattle.fcp_model.specs.declared.source.Call.TheVariants.{User, Unify, Assign, Same, NotSame, Compare}
use Rattle.fcp_model.specs.declared.source.Item.{Item}
use Rattle.fcp_model.specs.declared.source.Clause.{Clause}
use Rattle.fcp_model.specs.declared.source.Export.{Export}
use Rattle.fcp_model.specs.declared.source.Module.{Module}
use Rattle.fcp_model.proofs.Folds.{fold-Leaf, fold-Op, expr_induction}
use Rattle.fcp_text.specs.Bytes.{Text}
use Rattle.fcp_text.specs.SourceTerms.{parted, term_text, terms_text}
use Rattle.fcp_text.specs.SourceExpressions.{ExprTexts, operator_text, operation, expr_step, expr_texts, expr_text}
use Rattle.fcp_text.specs.SourceItems.{comparison_text, name_text, arguments_text, named_text, call_text, item_text, items_text}
use Rattle.fcp_text.specs.SourceClauses.{tail_text, clause_text, clauses_text, export_text, name_line, exports_line, module_text}
use Rattle.text_laws.specs.Spellings.{string, number, mark, line_feed}
use Rattle.text_laws.specs.TermSpellings.{Writing, comma, parted_by, term_spellings, terms_spellings}
use Rattle.text_laws.specs.SourceSpellings.{spaced, spelled_operator, ExprSpelling, spelled_operation, spelled_comparison, comma_space, spelled_expr_step, expr_spelling, expr_spellings, spelled_name, spelled_arguments, spelled_named, spelled_item_call, spelled_items, spelled_tail, spelled_clause, spelled_clauses, spelled_export, closing_line, spelled_name_line, spelled_exports_line, module_spellings}
use Rattle.text_laws.proofs.Joined.{Spells, joined, EachSpells, parted-then}
use Rattle.text_laws.proofs.SpelledTerms.{term-spells, terms-spell}
use Rattle.fcp_text.specs.Signs as signs

operator-spells : (op : ArithOp) → Spells (spelled_operator op) (operator_text op)
operator-spells Add ps = refl
operator-spells Sub ps = refl
operator-spells Mul ps = refl
operator-spells Div ps = refl
operator-spells Mod ps = refl

comparison-spells : (op : CompareOp) → Spells (spelled_comparison op) (comparison_text op)
comparison-spells Less ps = refl
comparison-spells AtMost ps = refl
comparison-spells Greater ps = refl
comparison-spells AtLeast ps = refl
comparison-spells Equal ps = refl
comparison-spells NotEqual ps = refl

-- pieces, others and again others
three : (u v w : Writing) (x y z : Text) → Spells u x → Spells v y → Spells w z → Spells (λ ps. u (v (w ps))) (x ++ (y ++ z))
three u v w x y z e f g = joined u (λ ps. v (w ps)) x (y ++ z) e (joined v w y z f g)

-- the pieces and the texts of an expression say the same
record Agree (a : ExprSpelling) (b : ExprTexts) : Type 0 where
  alone : Spells a.alone b.alone
  as_operand : Spells a.as_operand b.as_operand

operation-agrees : (w : Writing) (z : Text) → Spells w z → Agree (spelled_operation w) (operation z)
operation-agrees w z e = record {
  alone = e;
  as_operand =
      three (λ ps. mark signs.round_open ∷ ps) w (λ ps. mark signs.round_close ∷ ps) (codes "(") z (codes ")") (λ ps. refl) e (λ ps. refl);
}

module _ (names : List Text) where
  abbrev At : Expr → Type 0
  At e = Agree (expr_spelling names e) (expr_texts names e)

  by-step : (e : Expr) (a : ExprSpelling) (b : ExprTexts) → expr_spelling names e ≡ a → expr_texts names e ≡ b → Agree a b → At e
  by-step e a b f g h = subst (λ x. Agree x (expr_texts names e)) (sym f) (subst (λ y. Agree a y) (sym g) h)

  at-leaf : (t : Term) (at : ℕ) → At (Leaf t at)
  at-leaf t at =
      by-step (Leaf t at) _ _ (fold-Leaf ExprSpelling (spelled_expr_step names) t at) (fold-Leaf ExprTexts (expr_step names) t at)
      (record { alone = term-spells names t; as_operand = term-spells names t })

  at-op : (op : ArithOp) (d e : Expr) → At d → At e → At (Op op d e)
  at-op op d e f g =
      let x : ExprSpelling = expr_spelling names d in
      let y : ExprSpelling = expr_spelling names e in
      let u : ExprTexts = expr_texts names d in
      let v : ExprTexts = expr_texts names e in
      by-step (Op op d e) _ _ (fold-Op ExprSpelling (spelled_expr_step names) op d e) (fold-Op ExprTexts (expr_step names) op d e)
      (operation-agrees (λ ps. x.as_operand (spelled_operator op (y.as_operand ps))) (u.as_operand ++ (operator_text op ++ v.as_operand))
      (three x.as_operand (spelled_operator op) y.as_operand u.as_operand (operator_text op) v.as_operand f.as_operand
      (operator-spells op) g.as_operand))

  -- the text of an expression
  expr-spells : (e : Expr) → Spells (expr_spellings names e) (expr_text names e)
  unfolding expr_spellings expr_text
  expr-spells e = (expr_induction At at-leaf at-op e).alone

  arguments-spell : (ts : List Term) → Spells (spelled_arguments names ts) (arguments_text names ts)
  arguments-spell [] ps = refl
  arguments-spell (t ∷ ts) ps =
      three (λ ps. mark signs.round_open ∷ ps) (terms_spellings names (t ∷ ts)) (λ ps. mark signs.round_close ∷ ps) (codes "(")
      (terms_text names (t ∷ ts)) (codes ")")
      (λ ps. refl) (terms-spell names (t ∷ ts)) (λ ps. refl) ps

  named-spells : (name : Sym) (ts : List Term) → Spells (spelled_named names name ts) (named_text names name ts)
  named-spells name ts =
      joined (spelled_name names name) (spelled_arguments names ts) (name_text names name) (arguments_text names ts) (λ ps. refl)
      (arguments-spell ts)

  call-spells : (c : Call) → Spells (spelled_item_call names c) (call_text names c)
  call-spells (User name args) = named-spells name args
  call-spells (Unify a b) =
      three (term_spellings names a) (spaced (mark signs.equals)) (term_spellings names b) (term_text names a) (codes " = ")
      (term_text names b) (term-spells names a) (λ ps. refl) (term-spells names b)
  call-spells (Assign a e) =
      three (term_spellings names a) (spaced (mark signs.assign)) (expr_spellings names e) (term_text names a) (codes " := ")
      (expr_text names e) (term-spells names a) (λ ps. refl) (expr-spells e)
  call-spells (Same a b) =
      three (term_spellings names a) (spaced (mark signs.same)) (term_spellings names b) (term_text names a) (codes " == ")
      (term_text names b) (term-spells names a) (λ ps. refl) (term-spells names b)
  call-spells (NotSame a b) =
      three (term_spellings names a) (spaced (mark signs.not_same)) (term_spellings names b) (term_text names a) (codes " \\== ")
      (term_text names b) (term-spells names a) (λ ps. refl) (term-spells names b)
  call-spells (Compare op d e) =
      three (expr_spellings names d) (spelled_comparison op) (expr_spellings names e) (expr_text names d) (comparison_text op)
      (expr_text names e) (expr-spells d) (comparison-spells op) (expr-spells e)

  each-item : (is : List Item) → EachSpells (map (λ (i : Item). spelled_item_call names i.call) is) (map (item_text names) is)
  each-item [] = tt
  each-item (i ∷ is) = (call-spells i.call, each-item is)

  items-spell : (is : List Item) → Spells (spelled_items names is) (items_text names is)
  items-spell is =
      parted-then comma_space (codes ", ") (map (λ (i : Item). spelled_item_call names i.call) is) (map (item_text names) is) (λ ps. refl)
      (each-item is)

  tail-spells : (guard body : List Item) → Spells (spelled_tail names guard body) (tail_text names guard body)
  tail-spells [] [] ps = refl
  tail-spells [] (i ∷ is) ps =
      joined (spaced (mark signs.if_sign)) (spelled_items names (i ∷ is)) (codes " :- ") (items_text names (i ∷ is)) (λ ps. refl)
      (items-spell (i ∷ is)) ps
  tail-spells (g ∷ gs) body ps =
      joined (spaced (mark signs.if_sign)) (λ ps. spelled_items names (g ∷ gs) (spaced (mark signs.bar) (spelled_items names body ps)))
      (codes " :- ") (items_text names (g ∷ gs) ++ (codes " | " ++ items_text names body)) (λ ps. refl)
      (three (spelled_items names (g ∷ gs)) (spaced (mark signs.bar)) (spelled_items names body) (items_text names (g ∷ gs)) (codes " | ")
      (items_text names body) (items-spell (g ∷ gs)) (λ ps. refl) (items-spell body)) ps

  clause-spells : (c : Clause) → Spells (spelled_clause names c) (clause_text names c)
  clause-spells c =
      three (spelled_named names c.head c.args) (spelled_tail names c.guard c.body) (λ ps. mark signs.dot ∷ ps)
      (named_text names c.head c.args) (tail_text names c.guard c.body) (codes ".")
      (named-spells c.head c.args) (tail-spells c.guard c.body) (λ ps. refl)

  clauses-spell : (cs : List Clause) → Spells (spelled_clauses names cs) (clauses_text names cs)
  clauses-spell [] ps = refl
  clauses-spell (c ∷ cs) ps =
      three (spelled_clause names c) (λ ps. line_feed ∷ ps) (spelled_clauses names cs) (clause_text names c) (codes "\n")
      (clauses_text names cs) (clause-spells c) (λ ps. refl) (clauses-spell cs) ps

  export-spells : (e : Export) → Spells (spelled_export names e) (export_text names e)
  export-spells e =
      three (spelled_name names e.name) (λ ps. mark signs.divide ∷ ps) (λ ps. number (pos e.arity) ∷ ps) (name_text names e.name)
      (codes "/") (decimal e.arity) (λ ps. refl) (λ ps. refl) (λ ps. refl)

  each-export : (es : List Export) → EachSpells (map (spelled_export names) es) (map (export_text names) es)
  each-export [] = tt
  each-export (e ∷ es) = (export-spells e, each-export es)

  name_line-spells : (n : Option Sym) → Spells (spelled_name_line names n) (name_line names n)
  name_line-spells None ps = refl
  name_line-spells (Some s) ps =
      three (λ ps. mark signs.minus ∷ string (codes "module") ∷ mark signs.round_open ∷ ps) (spelled_name names s) (closing_line)
      (codes "-module(") (name_text names s) (codes ").\n")
      (λ ps. refl) (λ ps. refl) (λ ps. refl) ps

  exports_line-spells : (es : Option (List Export)) → Spells (spelled_exports_line names es) (exports_line names es)
  exports_line-spells None ps = refl
  exports_line-spells (Some es) ps =
      three (λ ps. mark signs.minus ∷ string (codes "export") ∷ mark signs.round_open ∷ mark signs.square_open ∷ ps)
      (parted_by comma (map (spelled_export names) es)) (λ ps. mark signs.square_close ∷ closing_line ps)
      (codes "-export([") (parted (codes ",") (map (export_text names) es)) (codes "]).\n")
      (λ ps. refl) (parted-then comma (codes ",") (map (spelled_export names) es) (map (export_text names) es) (λ ps. refl)
      (each-export es)) (λ ps. refl) ps

  -- the text of a module
  pub module-spells : (m : Module) → Spells (module_spellings names m) (module_text names m)
  unfolding module_spellings
  module-spells m =
      three (spelled_name_line names m.name) (spelled_exports_line names m.exports) (spelled_clauses names m.clauses)
      (name_line names m.name) (exports_line names m.exports) (clauses_text names m.clauses)
      (name_line-spells m.name) (exports_line-spells m.exports) (clauses-spell m.clauses)
