-- An operator is laid with its operands.
use Rattle.std.proofs.Common.{◌≡◌, ℕ, ◌+◌, ◌<◌, List, [], ◌∷◌, ◌++◌, set, Some, None, refl, sym, ap, ◌∙◌, subst, arith, inl, inr, rules}
use Rattle.std.specs.Option.{option_and_then}
use Rattle.fcp_model.specs.declared.term.ArithOp.{ArithOp}
use Rattle.fcp_model.specs.declared.term.Term as source
use Rattle.fcp_model.specs.declared.term.Expr as source_expr
use Rattle.fcp_model.specs.declared.term.Expr.{Leaf, Op, size-Expr, the_lemmas}
use Rattle.fcp_model.specs.Expressions.{Expr, leaf, op}
use Rattle.fcp_model.specs.Translation.{term_of, expr_step, expr_of}
use Rattle.fcp_model.specs.ClosedPrograms.{ExprOver, IsNumbered}
use Rattle.fcp_model.proofs.Folds.{fold-Leaf, fold-Op}
use Rattle.heap_words.specs.Cells.{decoded}
use Rattle.heap_words.specs.Heaps.{inside_at}
use Rattle.heap_words.specs.declared.cell.Cell.TheVariants.{Raw, Tuple}
use Rattle.word_states.specs.Words.{Grows}
use Rattle.word_states.specs.Denoting.{Addresses, operator_code}
use Rattle.goal_layout.specs.FirstFit.{first_fit}
use Rattle.goal_layout.specs.PieceSizes.{expr_sizes}
use Rattle.goal_layout.specs.Pages.{rooms, ArePages, Takes}
use Rattle.goal_layout.specs.Laying.{IsBlank, IsNarrowExpr, Lays, LaysExpr, places_of, settled_expr}
use Rattle.word_states.proofs.Persisting.{at_on, expr_on, expr_final}
use Rattle.goal_layout.proofs.Leaves.{taken_blank}
use Rattle.goal_layout.proofs.Lays.{first_fit-append, take_lays, lays_then, lays_grows, blank_on, written_word, written_other}
use Rattle.goal_layout.proofs.Lays.{written_pages, written_grows, lays_written}

-- an expression was laid, for each number of variables
abbrev pub LaysExprAlways : Expr ℕ → ℕ → List ℕ → List ℕ → Type 0
LaysExprAlways e x ws ws' = (vars : ℕ) → ExprOver (IsNumbered vars) e → LaysExpr vars e x ws ws'

module _ (o : ArithOp) (l r : Expr ℕ) (ws w1 : List ℕ) (at x : ℕ) (takes : Takes ws w1 3 at)
    (is : decoded x ≡ Some (Raw (66 + operator_code o))) where
  abbrev w2 : List ℕ
  w2 = set w1 at x

  b0 : IsBlank w1 at
  b0 = taken_blank ws w1 3 at at takes (omega arith) (omega arith)

  -- the operator's number is written
  pub begun_pages : ArePages w2
  begun_pages = written_pages w1 at x takes.pages b0

  begun_lays : (vs : Addresses) → Lays vs (3 ∷ []) ws w2
  begun_lays vs = lays_written w1 at x takes.pages b0 vs (3 ∷ []) ws (take_lays vs ws w1 3 at takes)
      (takes.free at (omega arith) (omega arith))
      (inl (record { cell = Raw (66 + operator_code o); says = is; quiet = refl }))

  begun_blank : (k : ℕ) → at < k → k < at + 3 → IsBlank w2 k
  begun_blank k lo hi =
      let b = taken_blank ws w1 3 at k takes (omega arith) hi in
      record { word = written_other w1 at x takes.pages b0 k (λ e. omega (arith, e)) ∙ b.word; off = b.off }

  module _ (w3 : List ℕ) (y : ℕ) (left : LaysExprAlways l y w2 w3) where
    abbrev w4 : List ℕ
    w4 = set w3 (at + 1) y

    module _ (vars : ℕ) (ol : ExprOver (IsNumbered vars) l) where
      abbrev vs : Addresses
      vs = places_of vars

      abbrev ll : LaysExpr vars l y w2 w3
      ll = left vars ol

      b1 : IsBlank w3 (at + 1)
      b1 = blank_on vs (expr_sizes l) w2 w3 (at + 1) ll.lays (begun_blank (at + 1) (omega arith) (omega arith))

      pub half_pages : ArePages w4
      half_pages = written_pages w3 (at + 1) y ll.lays.pages b1

      half_lays : Lays vs (3 ∷ expr_sizes l) ws w4
      half_lays = lays_written w3 (at + 1) y ll.lays.pages b1 vs (3 ∷ expr_sizes l) ws
          (lays_then vs (3 ∷ []) (expr_sizes l) ws w2 w3 (begun_lays vs) ll.lays) (takes.free (at + 1) (omega arith) (omega arith))
          (inr (settled_expr l, ll.word))

      grows3 : Grows (inside_at w2) (inside_at w3)
      grows3 = lays_grows vs (expr_sizes l) w2 w3 begun_pages ll.lays

      grows4 : Grows (inside_at w3) (inside_at w4)
      grows4 = written_grows w3 (at + 1) y ll.lays.pages b1

      half_blank : IsBlank w4 (at + 2)
      half_blank =
          let b = blank_on vs (expr_sizes l) w2 w3 (at + 2) ll.lays (begun_blank (at + 2) (omega arith) (omega arith)) in
          record { word = written_other w3 (at + 1) y ll.lays.pages b1 (at + 2) (λ e. omega (arith, e)) ∙ b.word; off = b.off }

      module _ (w5 : List ℕ) (z v : ℕ) (or : ExprOver (IsNumbered vars) r) (right : LaysExprAlways r z w4 w5)
          (whole : decoded v ≡ Some (Tuple at)) where
        abbrev rr : LaysExpr vars r z w4 w5
        rr = right vars or

        abbrev w6 : List ℕ
        w6 = set w5 (at + 2) z

        b2 : IsBlank w5 (at + 2)
        b2 = blank_on vs (expr_sizes r) w4 w5 (at + 2) rr.lays half_blank

        grows5 : Grows (inside_at w4) (inside_at w5)
        grows5 = lays_grows vs (expr_sizes r) w4 w5 half_pages rr.lays

        grows6 : Grows (inside_at w5) (inside_at w6)
        grows6 = written_grows w5 (at + 2) z rr.lays.pages b2

        grows46 : Grows (inside_at w4) (inside_at w6)
        grows46 a x e f = let g = grows5 a x e f in grows6 a x g f

        grows36 : Grows (inside_at w3) (inside_at w6)
        grows36 a x e f = let g = grows4 a x e f in grows46 a x g f

        grows26 : Grows (inside_at w2) (inside_at w6)
        grows26 a x e f = let g = grows3 a x e f in grows36 a x g f

        pub op_laid : LaysExpr vars (op o l r) v ws w6
        op_laid = record {
          lays = lays_written w5 (at + 2) z rr.lays.pages b2 vs (3 ∷ (expr_sizes l ++ expr_sizes r)) ws
              (lays_then vs (3 ∷ expr_sizes l) (expr_sizes r) ws w4 w5 half_lays rr.lays) (takes.free (at + 2) (omega arith) (omega arith))
              (inr (settled_expr r, rr.word));
          word = (
            at,
            y,
            z,
            whole,
            at_on (inside_at w2) (inside_at w6) vs vs grows26 (λ v a m. m) at (Raw (66 + operator_code o))
                (x, written_word w1 at x takes.pages b0, is) refl,
            grows46 (at + 1) y (written_word w3 (at + 1) y ll.lays.pages b1) (expr_final (inside_at w3) vs y (settled_expr l) ll.word),
            expr_on (inside_at w3) (inside_at w6) vs vs grows36 (λ v a m. m) y (settled_expr l) ll.word,
            written_word w5 (at + 2) z rr.lays.pages b2,
            expr_on (inside_at w5) (inside_at w6) vs vs grows6 (λ v a m. m) z (settled_expr r) rr.word,
          );
        }

  -- an operand finds no room
  pub left_misses : first_fit (rooms w2) (expr_sizes l) ≡ None → first_fit (rooms ws) (expr_sizes (op o l r)) ≡ None
  left_misses none =
      first_fit-append (rooms ws) (3 ∷ []) (expr_sizes l ++ expr_sizes r)
      ∙ ap (option_and_then (λ ss. first_fit ss (expr_sizes l ++ expr_sizes r))) (begun_lays []).fits
      ∙ first_fit-append (rooms w2) (expr_sizes l) (expr_sizes r)
      ∙ ap (option_and_then (λ ss. first_fit ss (expr_sizes r))) none

  pub right_misses : (w3 : List ℕ) (y vars : ℕ) (left : LaysExprAlways l y w2 w3) → ExprOver (IsNumbered vars) l
      → first_fit (rooms (set w3 (at + 1) y)) (expr_sizes r) ≡ None → first_fit (rooms ws) (expr_sizes (op o l r)) ≡ None
  right_misses w3 y vars left ol none =
      first_fit-append (rooms ws) (3 ∷ expr_sizes l) (expr_sizes r)
      ∙ ap (option_and_then (λ ss. first_fit ss (expr_sizes r))) (half_lays w3 y left vars ol).fits
      ∙ none

pub op_of : (e l r l' r' : source_expr.Expr) (o : ArithOp) → e ≡ Op o l r → l' ≡ l → r' ≡ r → expr_of e ≡ op o (expr_of l') (expr_of r')
op_of e l r l' r' o h el er = ap expr_of h ∙ fold-Op (Expr ℕ) expr_step o l r ∙ (λ k. op o (expr_of (sym el k)) (expr_of (sym er k)))

pub leaf_of : (e : source_expr.Expr) (t : source.Term) (at : ℕ) → e ≡ Leaf t at → expr_of e ≡ leaf (term_of t)
leaf_of e t at h = ap expr_of h ∙ fold-Leaf (Expr ℕ) expr_step t at

pub size-left : (o : ArithOp) (l r : source_expr.Expr) → size-Expr l < size-Expr (Op o l r)
size-left o l r = search (rules, the_lemmas)

pub size-right : (o : ArithOp) (l r : source_expr.Expr) → size-Expr r < size-Expr (Op o l r)
size-right o l r = search (rules, the_lemmas)

-- the same of expressions that were read
module _ (e l r l' r' : source_expr.Expr) (o : ArithOp) (ee : e ≡ Op o l r) (el : l' ≡ l) (er : r' ≡ r) (narrow : IsNarrowExpr (expr_of e))
    (ws w1 : List ℕ) (at x : ℕ) (takes : Takes ws w1 3 at) (is : decoded x ≡ Some (Raw (66 + operator_code o))) where
  shape : expr_of e ≡ op o (expr_of l') (expr_of r')
  shape = op_of e l r l' r' o ee el er

  over : (vars : ℕ) → ExprOver (IsNumbered vars) (expr_of e)
      → ExprOver (IsNumbered vars) (expr_of l') × ExprOver (IsNumbered vars) (expr_of r')
  over vars h = subst (ExprOver (IsNumbered vars)) shape h

  pub left_next : (vars : ℕ) × ExprOver (IsNumbered vars) (expr_of e)
      → ArePages (set w1 at x) × IsNarrowExpr (expr_of l') × ((vars : ℕ) × ExprOver (IsNumbered vars) (expr_of l'))
      × (size-Expr l' < size-Expr e)
  left_next (vars, h) = (
    begun_pages o (expr_of l') (expr_of r') ws w1 at x takes is,
    (subst IsNarrowExpr shape narrow).0,
    (vars, (over vars h).0),
    omega (arith, size-left o l r, ap size-Expr ee, ap size-Expr el),
  )

  pub right_next : (w3 : List ℕ) (y : ℕ) → LaysExprAlways (expr_of l') y (set w1 at x) w3
      → (vars : ℕ) × ExprOver (IsNumbered vars) (expr_of e)
      → ArePages (set w3 (at + 1) y) × IsNarrowExpr (expr_of r') × ((vars : ℕ) × ExprOver (IsNumbered vars) (expr_of r'))
      × (size-Expr r' < size-Expr e)
  right_next w3 y left (vars, h) = (
    half_pages o (expr_of l') (expr_of r') ws w1 at x takes is w3 y left vars (over vars h).0,
    (subst IsNarrowExpr shape narrow).1,
    (vars, (over vars h).1),
    omega (arith, size-right o l r, ap size-Expr ee, ap size-Expr er),
  )

  pub left_finds_none : first_fit (rooms (set w1 at x)) (expr_sizes (expr_of l')) ≡ None
      → first_fit (rooms ws) (expr_sizes (expr_of e)) ≡ None
  left_finds_none none =
      ap (λ k. first_fit (rooms ws) (expr_sizes k)) shape ∙ left_misses o (expr_of l') (expr_of r') ws w1 at x takes is none

  pub right_finds_none : (w3 : List ℕ) (y : ℕ) → LaysExprAlways (expr_of l') y (set w1 at x) w3
      → (vars : ℕ) × ExprOver (IsNumbered vars) (expr_of e) → first_fit (rooms (set w3 (at + 1) y)) (expr_sizes (expr_of r')) ≡ None
      → first_fit (rooms ws) (expr_sizes (expr_of e)) ≡ None
  right_finds_none w3 y left (vars, h) none =
      ap (λ k. first_fit (rooms ws) (expr_sizes k)) shape
      ∙ right_misses o (expr_of l') (expr_of r') ws w1 at x takes is w3 y vars left (over vars h).0 none

  pub whole_laid : (w3 : List ℕ) (y : ℕ) → LaysExprAlways (expr_of l') y (set w1 at x) w3 → (w5 : List ℕ) (z v : ℕ)
      → LaysExprAlways (expr_of r') z (set w3 (at + 1) y) w5 → decoded v ≡ Some (Tuple at)
      → LaysExprAlways (expr_of e) v ws (set w5 (at + 2) z)
  whole_laid w3 y left w5 z v right whole vars h =
      subst (λ k. LaysExpr vars k v ws (set w5 (at + 2) z)) (sym shape)
      (op_laid o (expr_of l') (expr_of r') ws w1 at x takes is w3 y left vars (over vars h).0 w5 z v (over vars h).1 right whole)
