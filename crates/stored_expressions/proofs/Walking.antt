-- Each visit lowers the measure, and leads to known addresses.
use Rattle.std.proofs.Common.{◌≡◌, ℕ, suc, ◌+◌, ◌<◌, ◌≤◌, List, [], ◌∷◌, ◌++◌, length, Option, Some, None}
use Rattle.std.proofs.Common.{false, refl, sym, ap, ◌∙◌, subst, arith, length-append}
use Rattle.fcp_model.specs.declared.term.ArithOp.{ArithOp}
use Rattle.heap_words.specs.Cells.{decoded}
use Rattle.heap_words.specs.WordsLaws.{WordsLaws}
use Rattle.heap_words.specs.Trails.{WordList, Memory, KeepsLoads, Says}
use Rattle.heap_words.specs.declared.cell.Cell.{Cell}
use Rattle.heap_words.specs.declared.cell.Cell.TheVariants as cell
use Rattle.heap_words.specs.declared.steps.ExprStep.{ExprStep}
use Rattle.ro_unify.specs.Value.{leads_on}
use Rattle.ro_unify.specs.Occurs.{whole_of, count_of, words_after}
use Rattle.ro_unify.specs.Walks.{seen_memory, Tame, kids_of, kids, total, weight, words_left}
use Rattle.ro_unify.proofs.Measures.{weight_is, total_append, total_least, words_fall}
use Rattle.ro_unify.proofs.Seeing.{agrees}
use Rattle.word_states.specs.Denoting.{operator_code}
use Rattle.stored_expressions.specs.Listing.{tuple_of, operator_in, located, operation_of, operands, Visits, OperandsKnown}
use Rattle.stored_expressions.proofs.Operations.{two_parts, raw_of, tuple_is, operation_is}

-- the words behind an operation are its operands
kids_are : (bs : WordList) (m : Memory) (x c : ℕ) (o : ArithOp) → decoded x ≡ Some (cell.Tuple c)
    → decoded (m c) ≡ Some (cell.Raw (66 + operator_code o)) → kids bs m x ≡ m (c + 1) ∷ m (c + 1 + 1) ∷ []
kids_are bs m x c o e f =
    ap (λ (d : Option Cell). kids_of bs m (leads_on false d) (whole_of d)) e
    ∙ (ap (λ (d : Option Cell). words_after m c (count_of d)) f ∙ ap (words_after m c) (two_parts o))

few_operands : (m : Memory) (o : Option (ArithOp × ℕ)) → length (operands m o) ≤ 2
few_operands m None = omega arith
few_operands m (Some p) = omega arith

module _ {S : Type 0} {addresses : S → ℕ} {sound : S → Type 0} {knows : S → ℕ → Type 0} {had : S → ℕ → ℕ → Type 0} {leads : S → ℕ → Type 0}
    {own shown : S → ℕ → Option ℕ} {later : S → S → Type 0} {gave : S → S → ℕ → ℕ → Type 0}
    (laws : WordsLaws {S = S} addresses sound knows had leads own shown later gave) where
  -- the operands of an operation are known
  pub operands_known : (w : S) (x a y : ℕ) (t : Option ℕ) (r : Option (ArithOp × ℕ)) → sound w → leads w x → t ≡ Some a
      → t ≡ tuple_of (decoded x) → had w a y → r ≡ located (operator_in (decoded y)) a → OperandsKnown (knows w) r
  operands_known w x a y t r so l i j h e =
      subst (OperandsKnown (knows w)) (sym e) (go (operator_in (decoded y)) refl)
    where
      is : decoded x ≡ Some (cell.Tuple a)
      is = tuple_is (decoded x) a (sym j ∙ i)

      go : (o : Option ArithOp) → operator_in (decoded y) ≡ o → OperandsKnown (knows w) (located o a)
      go None f = tt
      go (Some o) f =
          let raw = raw_of (decoded y) o f in
          let two = two_parts o in (
            laws.reaches_by w x a y (66 + operator_code o) (a + 1) (cell.Tuple a) so l is refl h raw (omega arith, omega (arith, two)),
            laws.reaches_by w x a y (66 + operator_code o) (a + 2) (cell.Tuple a) so l is refl h raw (omega arith, omega (arith, two)),
          )

  -- the visit of a word in front of others, where what was seen tells it
  pub seen_visit_falls : {kept binds kept' binds' : WordList} {v w : S} (x : ℕ) (ws ws' : List ℕ)
      → KeepsLoads sound had leads later gave kept binds v kept' binds' w → binds' ≡ binds → Tame binds kept (own v) (addresses v)
      → ws' ≡ operands (seen_memory kept' (own w)) (operation_of (seen_memory kept' (own w)) x) ++ ws
      → words_left (addresses w) binds' kept' (own w) ws' < words_left (addresses v) binds kept (own v) (x ∷ ws)
  seen_visit_falls {kept = kept} {binds = binds} {kept' = kept'} {binds' = binds'} {v = v} {w = w} x ws ws' l same t now =
      words_fall laws (x ∷ ws) ws' l same falls
      (omega (
        arith,
        ap length now,
        length-append (operands (seen_memory kept' (own w)) (operation_of (seen_memory kept' (own w)) x)) ws,
        few_operands (seen_memory kept' (own w)) (operation_of (seen_memory kept' (own w)) x),
        total_least f least ws,
      ))
    where
      f : ℕ → ℕ
      f = weight (addresses v) binds kept (own v)

      least : (y : ℕ) → 0 < f y
      least y = omega arith

      less : (o : Option (ArithOp × ℕ)) → operation_of (seen_memory kept (own v)) x ≡ o
          → total f (operands (seen_memory kept (own v)) o) < f x
      less None i = least x
      less (Some p) i =
          let k = operation_is (seen_memory kept (own v)) x p i in
          let is : f x ≡ suc (total f (kids binds (seen_memory kept (own v)) x)) = weight_is binds kept (own v) (addresses v) t x in
          let two = ap (total f) (kids_are binds (seen_memory kept (own v)) x p.1 p.0 k.0 k.1) in
          let next : p.1 + 1 + 1 ≡ p.1 + 2 = omega arith in
          omega (arith, is, two, ap (λ (z : ℕ). f (seen_memory kept (own v) z)) next)

      falls : seen_memory kept' (own w) ≡ seen_memory kept (own v) → total f ws' < total f (x ∷ ws)
      falls e =
          let i : ws' ≡ operands (seen_memory kept (own v)) (operation_of (seen_memory kept (own v)) x) ++ ws =
          subst (λ (m : Memory). ws' ≡ operands m (operation_of m x) ++ ws) e now in
          omega (
            arith,
            ap (total f) i,
            total_append f (operands (seen_memory kept (own v)) (operation_of (seen_memory kept (own v)) x)) ws,
            less (operation_of (seen_memory kept (own v)) x) refl,
          )

  -- and where it is said
  pub visit_falls : {kept binds kept' binds' : WordList} {v w : S} (x : ℕ) (ws ws' : List ℕ) (s : ExprStep)
      → KeepsLoads sound had leads later gave kept binds v kept' binds' w → binds' ≡ binds → Tame binds kept (own v) (addresses v)
      → Says (own w) kept' (λ m. Visits m x ws s ws')
      → words_left (addresses w) binds' kept' (own w) ws' < words_left (addresses v) binds kept (own v) (x ∷ ws)
  visit_falls {kept' = kept'} {w = w} x ws ws' s l same t says =
      seen_visit_falls x ws ws' l same t (says (seen_memory kept' (own w)) (agrees laws 6 l.holds)).1
