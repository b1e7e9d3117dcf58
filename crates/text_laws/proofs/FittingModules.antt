-- The pieces of expressions, items, clauses and modules fit.
use Rattle.std.proofs.Common.{◌≡◌, ℕ, Bool, true, false, List, [], ◌∷◌, map, refl, ◌∙◌, sym, subst, Option, Some, None}
use Rattle.std.specs.Prelude.{◌&&◌, nat_lt, codes, pos}
use Rattle.std.specs.List.{list_all}
use Rattle.fcp_model.specs.declared.names.Sym.{Sym}
use Rattle.fcp_model.specs.declared.term.Term.{Term}
use Rattle.fcp_model.specs.declared.term.ArithOp.{ArithOp}
use Rattle.fcp_model.specs.declared.term.ArithOp.TheVariants.{Add, Sub, Mul, Div, Mod}
use Rattle.fcp_model.specs.declared.term.CompareOp.{CompareOp}
use Rattle.fcp_model.specs.declared.term.CompareOp.TheVariants.{Less, AtMost, Greater, AtLeast, Equal, NotEqual}
use Rattle.fcp_model.specs.declared.term.Expr.{Expr, Leaf, Op}
use Rattle.fcp_model.specs.declared.source.Call.{Call}
use Rattle.fcp_model.specs.declared.source.Call.TheVariants.{User, Unify, Assign, Same, NotSame, Compare}
use Rattle.fcp_model.specs.declared.source.Item.{Item}
use Rattle.fcp_model.specs.declared.source.Clause.{Clause}
use Rattle.fcp_model.specs.declared.source.Export.{Export}
use Rattle.fcp_model.specs.declared.source.Module.{Module}
use Rattle.fcp_model.specs.Spelling.{name_at}
use Rattle.fcp_model.proofs.Folds.{fold-Leaf, fold-Op, expr_induction}
use Rattle.fcp_text.specs.Bytes.{Text}
use Rattle.fcp_text.proofs.Choices.{and-first, and-second}
use Rattle.text_laws.specs.Spellings.{Spelling, number, mark, line_feed}
use Rattle.text_laws.specs.Fitting.{Fits, IsOneLine, is_line}
use Rattle.text_laws.specs.TermSpellings.{Writing, comma, term_spellings, terms_spellings}
use Rattle.text_laws.specs.SourceSpellings.{spaced, spelled_operator, ExprSpelling, spelled_operation, spelled_comparison, comma_space, spelled_expr_step, expr_spelling, expr_spellings, spelled_arguments, spelled_named, spelled_item_call, spelled_items, spelled_tail, spelled_clause, spelled_clauses, spelled_export, closing_line, spelled_name_line, spelled_exports_line, module_spellings}
use Rattle.text_laws.specs.Writable.{is_int, is_writable_term, writable_expr_step, is_writable_expr, is_writable_call, are_writable_items, is_writable_clause, are_writable_exports, is_writable_module}
use Rattle.text_laws.proofs.Characters.{ascii-IsUtf8}
use Rattle.text_laws.proofs.Fitted.{Behind, Starts, Follows, Parts, closes, opens, EachStarts, parted-starts, comma-parts}
use Rattle.text_laws.proofs.FittingTerms.{term-fits, terms-fit, string-fits, int-stands}
use Rattle.fcp_text.specs.Signs as signs

-- a word that is written in each text
word : (z : Text) → is_line z ≡ true → list_all (λ b. nat_lt b 128) z ≡ true → IsOneLine z
word z l u = (l, ascii-IsUtf8 z u)

operator-parts : (op : ArithOp) → Parts (spelled_operator op)
operator-parts Add ps f = (tt, λ s. (refl, tt, f))
operator-parts Sub ps f = (tt, λ s. (refl, tt, f))
operator-parts Mul ps f = (tt, λ s. (refl, tt, f))
operator-parts Div ps f = (tt, λ s. (refl, tt, f))
operator-parts Mod ps f = (tt, λ s. (word (codes "mod") refl refl, tt, f))

comparison-parts : (op : CompareOp) → Parts (spelled_comparison op)
comparison-parts Less ps f = (tt, λ s. (refl, tt, f))
comparison-parts AtMost ps f = (tt, λ s. (refl, tt, f))
comparison-parts Greater ps f = (tt, λ s. (refl, tt, f))
comparison-parts AtLeast ps f = (tt, λ s. (refl, tt, f))
comparison-parts Equal ps f = (tt, λ s. (refl, tt, f))
comparison-parts NotEqual ps f = (tt, λ s. (refl, tt, f))

comma_space-parts : Parts comma_space
comma_space-parts ps f = (tt, λ s. (refl, tt, f))

-- pieces, what parts them from others, and those
both-start : (u v w : Writing) → Starts u → Parts v → Starts w → Starts (λ ps. u (v (w ps)))
both-start u v w e f g ps b = e (v (w ps)) (f (w ps) (g ps b))

-- the pieces of an expression fit, alone and as an operand
record FitsExpr (a : ExprSpelling) : Type 0 where
  alone : Starts a.alone
  as_operand : Starts a.as_operand

operation-fits : (w : Writing) → Starts w → FitsExpr (spelled_operation w)
operation-fits w h = record {
  alone = h;
  as_operand =
      λ ps b. (opens signs.round_open refl refl refl (w (mark signs.round_close ∷ ps))
      (h (mark signs.round_close ∷ ps) (closes signs.round_close refl refl ps b))).1 true;
}

-- what fits at the begin of a line, whatever is there before it, before more of the kind
abbrev Anywhere : List Spelling → Type 0
Anywhere ps = (s : Bool) → Fits s ps

closing-follows : (ps : List Spelling) → Anywhere ps → Behind (closing_line ps)
closing-follows ps k = (tt, λ s. (refl, tt, (refl, tt, k _)))

module _ (names : List Text) (lines : (k : ℕ) → IsOneLine (name_at names k)) where
  abbrev At : Expr → Type 0
  At e = is_writable_expr e ≡ true → FitsExpr (expr_spelling names e)

  at-leaf : (t : Term) (at : ℕ) → At (Leaf t at)
  unfolding is_writable_expr
  at-leaf t at h =
      let g : is_writable_term t ≡ true = sym (fold-Leaf Bool writable_expr_step t at) ∙ h in
      subst FitsExpr (sym (fold-Leaf ExprSpelling (spelled_expr_step names) t at))
      (record { alone = term-fits names lines t g; as_operand = term-fits names lines t g })

  at-op : (op : ArithOp) (d e : Expr) → At d → At e → At (Op op d e)
  unfolding is_writable_expr
  at-op op d e f g h =
      let k : (is_writable_expr d && is_writable_expr e) ≡ true = sym (fold-Op Bool writable_expr_step op d e) ∙ h in
      let x : ExprSpelling = expr_spelling names d in
      let y : ExprSpelling = expr_spelling names e in
      let i : FitsExpr x = f (and-first (is_writable_expr d) (is_writable_expr e) k) in
      let j : FitsExpr y = g (and-second (is_writable_expr d) (is_writable_expr e) k) in
      subst FitsExpr (sym (fold-Op ExprSpelling (spelled_expr_step names) op d e))
      (operation-fits (λ ps. x.as_operand (spelled_operator op (y.as_operand ps)))
      (both-start x.as_operand (spelled_operator op) y.as_operand i.as_operand (operator-parts op) j.as_operand))

  expr-fits : (e : Expr) → is_writable_expr e ≡ true → Starts (expr_spellings names e)
  unfolding expr_spellings
  expr-fits e h = (expr_induction At at-leaf at-op e h).alone

  arguments-follow : (ts : List Term) → list_all is_writable_term ts ≡ true → Follows (spelled_arguments names ts)
  arguments-follow [] h ps b = b
  arguments-follow (t ∷ ts) h ps b =
      opens signs.round_open refl refl refl (terms_spellings names (t ∷ ts) (mark signs.round_close ∷ ps))
      (terms-fit names lines (t ∷ ts) h (mark signs.round_close ∷ ps) (closes signs.round_close refl refl ps b))

  -- a name with its arguments fits anywhere
  named-fits : (name : Sym) (ts : List Term) (ps : List Spelling) → list_all is_writable_term ts ≡ true → Behind ps
      → Anywhere (spelled_named names name ts ps)
  named-fits name ts ps h b s =
      string-fits s (name_at names name.0) (spelled_arguments names ts ps) (lines name.0) (arguments-follow ts h ps b)

  call-fits : (c : Call) → is_writable_call c ≡ true → Starts (spelled_item_call names c)
  call-fits (User name args) h = λ ps b. named-fits name args ps h b true
  call-fits (Unify a b) h =
      both-start (term_spellings names a) (spaced (mark signs.equals)) (term_spellings names b)
      (term-fits names lines a (and-first (is_writable_term a) _ h)) (λ ps f. (tt, λ s. (refl, tt, f)))
      (term-fits names lines b (and-second (is_writable_term a) _ h))
  call-fits (Assign a e) h =
      both-start (term_spellings names a) (spaced (mark signs.assign)) (expr_spellings names e)
      (term-fits names lines a (and-first (is_writable_term a) _ h)) (λ ps f. (tt, λ s. (refl, tt, f)))
      (expr-fits e (and-second (is_writable_term a) _ h))
  call-fits (Same a b) h =
      both-start (term_spellings names a) (spaced (mark signs.same)) (term_spellings names b)
      (term-fits names lines a (and-first (is_writable_term a) _ h)) (λ ps f. (tt, λ s. (refl, tt, f)))
      (term-fits names lines b (and-second (is_writable_term a) _ h))
  call-fits (NotSame a b) h =
      both-start (term_spellings names a) (spaced (mark signs.not_same)) (term_spellings names b)
      (term-fits names lines a (and-first (is_writable_term a) _ h)) (λ ps f. (tt, λ s. (refl, tt, f)))
      (term-fits names lines b (and-second (is_writable_term a) _ h))
  call-fits (Compare op d e) h =
      both-start (expr_spellings names d) (spelled_comparison op) (expr_spellings names e)
      (expr-fits d (and-first (is_writable_expr d) _ h)) (comparison-parts op) (expr-fits e (and-second (is_writable_expr d) _ h))

  each-item : (is : List Item) → are_writable_items is ≡ true → EachStarts (map (λ (i : Item). spelled_item_call names i.call) is)
  each-item [] h = tt
  each-item (i ∷ is) h =
      (call-fits i.call (and-first (is_writable_call i.call) _ h), each-item is (and-second (is_writable_call i.call) _ h))

  items-fit : (is : List Item) → are_writable_items is ≡ true → Starts (spelled_items names is)
  items-fit is h = parted-starts comma_space (map (λ (i : Item). spelled_item_call names i.call) is) comma_space-parts (each-item is h)

  tail-follows : (guard body : List Item) → are_writable_items guard ≡ true → are_writable_items body ≡ true
      → Follows (spelled_tail names guard body)
  tail-follows [] [] h k ps b = b
  tail-follows [] (i ∷ is) h k ps b = (tt, λ s. (refl, tt, items-fit (i ∷ is) k ps b))
  tail-follows (g ∷ gs) body h k ps b = (
    tt,
    λ s. (
      refl,
      tt,
      both-start (spelled_items names (g ∷ gs)) (spaced (mark signs.bar)) (spelled_items names body)
          (items-fit (g ∷ gs) h) (λ ps f. (tt, λ s. (refl, tt, f))) (items-fit body k) ps b,
    ),
  )

  clause-fits : (c : Clause) (ps : List Spelling) → is_writable_clause c ≡ true → Anywhere ps
      → Anywhere (spelled_clause names c (line_feed ∷ ps))
  clause-fits c ps h k =
      let g : (are_writable_items c.guard && are_writable_items c.body) ≡ true = and-second (list_all is_writable_term c.args) _ h in
      let e : Behind (mark signs.dot ∷ line_feed ∷ ps) = (tt, λ s. (refl, tt, k _)) in
      named-fits c.head c.args (spelled_tail names c.guard c.body (mark signs.dot ∷ line_feed ∷ ps))
      (and-first (list_all is_writable_term c.args) _ h)
      (tail-follows c.guard c.body (and-first (are_writable_items c.guard) _ g) (and-second (are_writable_items c.guard) _ g)
      (mark signs.dot ∷ line_feed ∷ ps) e)

  clauses-fit : (cs : List Clause) (ps : List Spelling) → list_all is_writable_clause cs ≡ true → Anywhere ps
      → Anywhere (spelled_clauses names cs ps)
  clauses-fit [] ps h k = k
  clauses-fit (c ∷ cs) ps h k =
      clause-fits c (spelled_clauses names cs ps) (and-first (is_writable_clause c) _ h)
      (clauses-fit cs ps (and-second (is_writable_clause c) _ h) k)

  export-fits : (e : Export) → is_int (pos e.arity) ≡ true → Starts (spelled_export names e)
  export-fits e h ps b =
      string-fits true (name_at names e.name.0) (mark signs.divide ∷ number (pos e.arity) ∷ ps) (lines e.name.0)
      (tt, λ s. (refl, tt, (int-stands (pos e.arity) h, b.0, b.1 false)))

  each-export : (es : List Export) → list_all (λ (e : Export). is_int (pos e.arity)) es ≡ true → EachStarts (map (spelled_export names) es)
  each-export [] h = tt
  each-export (e ∷ es) h = (export-fits e (and-first (is_int (pos e.arity)) _ h), each-export es (and-second (is_int (pos e.arity)) _ h))

  name_line-fits : (n : Option Sym) (ps : List Spelling) → Anywhere ps → Anywhere (spelled_name_line names n ps)
  name_line-fits None ps k t = k t
  name_line-fits (Some s) ps k t = (
    refl,
    tt,
    (
      word (codes "module") refl refl,
      tt,
      (refl, tt, string-fits true (name_at names s.0) (closing_line ps) (lines s.0) (closing-follows ps k)),
    ),
  )

  exports_line-fits : (es : Option (List Export)) (ps : List Spelling) → are_writable_exports es ≡ true → Anywhere ps
      → Anywhere (spelled_exports_line names es ps)
  exports_line-fits None ps h k t = k t
  exports_line-fits (Some es) ps h k t =
      let b : Behind (closing_line ps) = closing-follows ps k in (
        refl,
        tt,
        (
          word (codes "export") refl refl,
          tt,
          (
            refl,
            tt,
            (
              refl,
              tt,
              parted-starts comma (map (spelled_export names) es) comma-parts (each-export es h)
                  (mark signs.square_close ∷ closing_line ps) (closes signs.square_close refl refl (closing_line ps) b),
            ),
          ),
        ),
      )

  -- the pieces of a module
  pub module-fits : (m : Module) → is_writable_module m ≡ true → Fits true (module_spellings names m [])
  unfolding module_spellings
  module-fits m h =
      name_line-fits m.name (spelled_exports_line names m.exports (spelled_clauses names m.clauses []))
      (exports_line-fits m.exports (spelled_clauses names m.clauses []) (and-first (are_writable_exports m.exports) _ h)
      (clauses-fit m.clauses [] (and-second (are_writable_exports m.exports) _ h) (λ s. tt))) true
