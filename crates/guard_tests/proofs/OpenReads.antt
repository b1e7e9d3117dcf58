-- What tests and expressions read is unbound, and was seen.
use Rattle.std.proofs.Common.{◌≡◌, ℕ, Bool, true, false, ℤ, List, [], ◌∷◌, ◌++◌, Option, Some, None, refl, sym, ap, ◌∙◌, subst}
use Rattle.std.proofs.Common.{append_assoc, append-nil}
use Rattle.heap_words.specs.Cells.{decoded}
use Rattle.heap_words.specs.Trails.{WordList, Memory}
use Rattle.heap_words.specs.declared.cell.Cell.{Cell}
use Rattle.heap_words.specs.declared.cell.Cell.TheVariants as cell
use Rattle.heap_words.specs.declared.steps.ExprStep.{ExprStep}
use Rattle.heap_words.specs.declared.steps.ExprStep.TheVariants.{Push, Apply}
use Rattle.fcp_model.specs.declared.term.CompareOp.{CompareOp}
use Rattle.ro_unify.specs.declared.look.Look.{Look}
use Rattle.ro_unify.specs.declared.look.Look.TheVariants.{Writable, ReadOnly, Solid}
use Rattle.ro_unify.specs.Value.{Values, IsOpen, is_unbound}
use Rattle.ro_unify.specs.Occurs.{Each}
use Rattle.ro_unify.specs.Unify.{look_reads}
use Rattle.ro_unify.specs.Walks.{seen_memory}
use Rattle.ro_unify.proofs.Chains.{values_open, open_seen}
use Rattle.ro_unify.proofs.Seeing.{seen_word}
use Rattle.ro_unify.proofs.Stacks.{Each-more}
use Rattle.guard_tests.specs.declared.number.Evaluated.{Evaluated}
use Rattle.guard_tests.specs.declared.number.Evaluated.TheVariants.{Value, Bad}
use Rattle.guard_tests.specs.declared.number.Evaluated.TheVariants as evaluated
use Rattle.guard_tests.specs.declared.equality.Tested.{Tested}
use Rattle.guard_tests.specs.declared.form.Form.{Form}
use Rattle.guard_tests.specs.declared.form.Form.TheVariants.{Always, OfValue, Same, NotSame, Order}
use Rattle.guard_tests.specs.Evaluation.{Takes, Reckons, at_end, on, spoilt, stopped}
use Rattle.guard_tests.specs.Equality.{Comparison, Compares, Equals}
use Rattle.guard_tests.specs.Equality as equality
use Rattle.guard_tests.specs.Forms.{OrdersAfter, Tests}
use Rattle.guard_tests.specs.Opened.{WasSeenOpen, ReadsOpen}

pub Each-append : {A : Type 0} (P : A → Type 0) (xs ys : List A) → Each P xs → Each P ys → Each P (xs ++ ys)
Each-append P [] ys h i = i
Each-append P (x ∷ xs) ys h i = (h.0, Each-append P xs ys h.1 i)

module _ (bs : WordList) (m : Memory) where
  -- the reads grew by unbound places
  abbrev pub GrewOpen : List ℕ → List ℕ → Type 0
  GrewOpen rs rs' = (more : List ℕ) × (rs' ≡ rs ++ more) × Each (IsOpen bs m) more

  no_more : (rs rs' : List ℕ) → rs' ≡ rs → GrewOpen rs rs'
  no_more rs rs' e = ([], e ∙ sym (append-nil rs), tt)

  both_grew : (rs rs1 rs' : List ℕ) → GrewOpen rs rs1 → GrewOpen rs1 rs' → GrewOpen rs rs'
  both_grew rs rs1 rs' g h = (
    g.0 ++ h.0,
    h.1 ∙ (ap (λ (z : List ℕ). z ++ h.0) g.1 ∙ append_assoc rs g.0 h.0),
    Each-append (IsOpen bs m) g.0 h.0 g.2 h.2,
  )

  -- the place of a value
  pub look_open : (w : ℕ) (l : Look) → Values bs m false w l → Each (IsOpen bs m) (look_reads l)
  look_open w (Writable a) v = (values_open bs m false w (Writable a) a v refl, tt)
  look_open w (ReadOnly a) v = (values_open bs m false w (ReadOnly a) a v refl, tt)
  look_open w (Solid x) v = tt

  takes_grew : (s : ExprStep) (zs : List ℤ) (rs : List ℕ) (e : Evaluated) (zs' : List ℤ) (rs' : List ℕ) → Takes bs m s zs rs e zs' rs'
      → GrewOpen rs rs'
  takes_grew (Push w) zs rs e zs' rs' t = (look_reads t.0.look, t.0.read, look_open w t.0.look t.0.value)
  takes_grew (Apply o) zs rs e zs' rs' t = no_more rs rs' t.1

  pub reckons_grew : (ss : List ExprStep) (zs : List ℤ) (rs : List ℕ) (e : Evaluated) (rs' : List ℕ) → Reckons bs m ss zs rs e rs'
      → GrewOpen rs rs'
  reckons_grew _ _ _ _ _ (at_end zs rs) = no_more rs rs refl
  reckons_grew _ _ _ _ _ (on s ss zs rs z zs' rs1 e rs' t k) =
      both_grew rs rs1 rs' (takes_grew s zs rs (Value z) zs' rs1 t) (reckons_grew ss (z ∷ zs') rs1 e rs' k)
  reckons_grew _ _ _ _ _ (spoilt s ss zs rs zs' rs' t) = takes_grew s zs rs Bad zs' rs' t
  reckons_grew _ _ _ _ _ (stopped s ss zs rs zs' rs' t) = takes_grew s zs rs evaluated.Wait zs' rs' t

  compares_grew : (rs : List ℕ) (p : ℕ × ℕ) (c : Comparison) (rs' : List ℕ) → Compares bs m rs p c rs' → GrewOpen rs rs'
  compares_grew rs p c rs' k =
      both_grew rs (rs ++ look_reads k.left) rs' (look_reads k.left, refl, look_open p.0 k.left k.left_is)
      (look_reads k.right, k.read, look_open p.1 k.right k.right_is)

  equals_grew : (rs : List ℕ) (ps : List (ℕ × ℕ)) (t : Tested) (rs' : List ℕ) → Equals bs m rs ps t rs' → GrewOpen rs rs'
  equals_grew _ _ _ _ (equality.all rs) = no_more rs rs refl
  equals_grew _ _ _ _ (equality.on rs p ps qs rs1 t rs' c k) =
      both_grew rs rs1 rs' (compares_grew rs p (equality.parts qs) rs1 c) (equals_grew rs1 (qs ++ ps) t rs' k)
  equals_grew _ _ _ _ (equality.unlike rs p ps rs' c) = compares_grew rs p equality.differ rs' c
  equals_grew _ _ _ _ (equality.stopped rs p ps rs' c) = compares_grew rs p equality.waits rs' c

  after_grew : (o : CompareOp) (e : Evaluated) (right : List ExprStep) (rs : List ℕ) (t : Tested) (rs' : List ℕ)
      → OrdersAfter bs m o e right rs t rs' → GrewOpen rs rs'
  after_grew o (Value y) right rs t rs' k = reckons_grew right [] rs k.0 rs' k.1
  after_grew o Bad right rs t rs' k = no_more rs rs' k.1
  after_grew o evaluated.Wait right rs t rs' k = no_more rs rs' k.1

  pub tests_grew : (f : Form) (left right : List ExprStep) (rs : List ℕ) (t : Tested) (rs' : List ℕ) → Tests bs m f left right rs t rs'
      → GrewOpen rs rs'
  tests_grew Always left right rs t rs' k = no_more rs rs' k.1
  tests_grew (OfValue v) left right rs t rs' k = (look_reads k.look, k.read, look_open _ k.look k.value)
  tests_grew Same left right rs t rs' k = equals_grew rs _ t rs' k
  tests_grew NotSame left right rs t rs' k = equals_grew rs _ _ rs' k
  tests_grew (Order o) left right rs t rs' k =
      both_grew rs k.between rs' (reckons_grew left [] rs k.first k.between k.reckons)
      (after_grew o k.first right k.between t rs' k.after)

-- the cell of an unbound place
unbound_cell : (c : Option Cell) → is_unbound c ≡ true → (e : ℕ) × (c ≡ Some (cell.Unbound e))
unbound_cell (Some (cell.Unbound e)) h = (e, refl)
unbound_cell None h = cc
unbound_cell (Some (cell.Ref a)) h = cc
unbound_cell (Some (cell.RoRef a)) h = cc
unbound_cell (Some (cell.Small z)) h = cc
unbound_cell (Some (cell.Wide a k)) h = cc
unbound_cell (Some (cell.Str s)) h = cc
unbound_cell (Some cell.Nil) h = cc
unbound_cell (Some (cell.Cons a)) h = cc
unbound_cell (Some (cell.Tuple a)) h = cc
unbound_cell (Some (cell.Status d)) h = cc
unbound_cell (Some (cell.Raw n)) h = cc
unbound_cell (Some (cell.Top a)) h = cc

-- what is unbound in the memory of what was seen was seen so
pub seen_open : (bs kept : WordList) (own : ℕ → Option ℕ) (a : ℕ) → IsOpen bs (seen_memory kept own) a → WasSeenOpen bs kept own a
seen_open bs kept own a o =
    let s = open_seen kept own a o.1 in
    let e : seen_memory kept own a ≡ s.word = seen_word kept own a s.word s.there in
    record {
      free = o.0;
      word = s.word;
      seen = s.there;
      unbound = unbound_cell (decoded s.word) (subst (λ (x : ℕ). is_unbound (decoded x) ≡ true) e o.1);
    }

pub reads_open : (bs kept : WordList) (own : ℕ → Option ℕ) (rs rs' : List ℕ) → GrewOpen bs (seen_memory kept own) rs rs'
    → ReadsOpen bs kept own rs rs'
reads_open bs kept own rs rs' g = record {
  more = g.0;
  read = g.1;
  each_open = Each-more (IsOpen bs (seen_memory kept own)) (WasSeenOpen bs kept own) g.0 (λ a o. seen_open bs kept own a o) g.2;
}
