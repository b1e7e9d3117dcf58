-- The tests of words are those of their terms.
use Rattle.std.proofs.Common.{◌≡◌, ℕ, ◌+◌, ◌≤◌, Bool, false, ℤ, List, [], ◌∷◌, ◌++◌, Option, Some, refl, sym, ap, ap₂, ◌∙◌, subst}
use Rattle.std.proofs.Common.{arith, append_assoc, append-nil}
use Rattle.std.specs.Prelude.{option_map}
use Rattle.heap_words.specs.Trails.{WordList, Memory}
use Rattle.heap_words.specs.declared.steps.ExprStep.{ExprStep}
use Rattle.heap_words.specs.declared.steps.ExprStep.TheVariants.{Push}
use Rattle.ro_unify.specs.declared.look.Look.{Look}
use Rattle.ro_unify.specs.declared.look.Look.TheVariants.{Writable, ReadOnly, Solid}
use Rattle.ro_unify.specs.Value.{Values, IsOpen}
use Rattle.ro_unify.specs.Unify.{look_reads}
use Rattle.ro_unify.proofs.Chains.{value_no_ref}
use Rattle.fcp_model.specs.declared.term.CompareOp.{CompareOp}
use Rattle.fcp_model.specs.Places.{Variable}
use Rattle.fcp_model.specs.Terms.{Term, Bindings}
use Rattle.fcp_model.specs.Value.{writable, read_only, solid, value}
use Rattle.fcp_model.specs.Value as looks
use Rattle.fcp_model.specs.Expressions.{Expr, gives, bad, unready, eval}
use Rattle.fcp_model.specs.Expressions as terms
use Rattle.fcp_model.specs.Tests.{Test, always, kind, same, not_same, ordered, holds, fails, pauses, is_kind, kind_open, decided, test_kind}
use Rattle.fcp_model.specs.Tests.{order_of, test_order, opposed, is_equal, test}
use Rattle.fcp_model.specs.Tests as tests
use Rattle.fcp_model.proofs.MoreSteps.{at_least}
use Rattle.fcp_model.proofs.OneDecision.{eval_more}
use Rattle.unify_terms.specs.Denotes.{Naming, Names, Denotes, Stands, LookIs}
use Rattle.unify_terms.proofs.ValuesOfWords.{values_so, value_is}
use Rattle.unify_terms.proofs.AlikeInWords.{plain_is}
use Rattle.guard_tests.specs.declared.number.Evaluated.{Evaluated}
use Rattle.guard_tests.specs.declared.equality.Tested.{Tested}
use Rattle.guard_tests.specs.declared.equality.Tested.TheVariants.{Holds, Not, Wait}
use Rattle.guard_tests.specs.declared.form.ValueKind.{ValueKind}
use Rattle.guard_tests.specs.declared.form.Form.{Form}
use Rattle.guard_tests.specs.declared.form.Form.TheVariants.{Always, OfValue, Same, NotSame, Order}
use Rattle.guard_tests.specs.Numbers.{answer_of}
use Rattle.guard_tests.specs.Equality.{Equals}
use Rattle.guard_tests.specs.Forms.{operand_of, truth, look_is, IsOfKind, opposite, order_with, OrdersAfter, Tests}
use Rattle.guard_tests.specs.Guards.{kind_of, test_answer, tested_reads, evaluated_reads, Expresses, IsTestOf, Reads, EvaluatesAs, TestsAs}
use Rattle.guard_tests.proofs.EvaluatedTerms.{evaluated_so}
use Rattle.guard_tests.proofs.OpenReads.{Each-append, look_open}
use Rattle.guard_tests.proofs.EqualTerms.{places_with, look_places, equal_so}
use Rattle.guard_tests.proofs.KindTerms.{word_kind, open_answer, open_reads, decided_answer, decided_reads}

opposed_answer : (e : tests.Tested) (t : Tested) → test_answer e ≡ opposite t → test_answer (opposed e) ≡ t
opposed_answer (holds vs) Holds h = cc
opposed_answer (holds vs) Not h = refl
opposed_answer (holds vs) Wait h = cc
opposed_answer (fails vs) Holds h = refl
opposed_answer (fails vs) Not h = cc
opposed_answer (fails vs) Wait h = cc
opposed_answer (pauses vs) Holds h = cc
opposed_answer (pauses vs) Not h = cc
opposed_answer (pauses vs) Wait h = refl

opposed_reads : (e : tests.Tested) → tested_reads (opposed e) ≡ tested_reads e
opposed_reads (holds vs) = refl
opposed_reads (fails vs) = refl
opposed_reads (pauses vs) = refl

module _ (p : Naming) (m : Memory) (names : Names p m) (bs : WordList) (s : Bindings) (st : Stands p m bs s) (behind : Bool) where
  no_reads : (rs rs' : List ℕ) → rs' ≡ rs → Reads p m bs rs [] rs'
  no_reads rs rs' e = record { more = []; read = e ∙ sym (append-nil rs); places = tt; unbound = tt }

  -- the reads of one side after those of another
  more_reads : (rs rs1 rs' : List ℕ) (vs ws : List Variable) → Reads p m bs rs vs rs1 → Reads p m bs rs1 ws rs'
      → Reads p m bs rs (vs ++ ws) rs'
  more_reads rs rs1 rs' vs ws a b = record {
    more = a.more ++ b.more;
    read = b.read ∙ (ap (λ (z : List ℕ). z ++ b.more) a.read ∙ append_assoc rs a.more b.more);
    places = places_with p m a.more b.more vs ws a.places b.places;
    unbound = Each-append (IsOpen bs m) a.more b.more a.unbound b.unbound;
  }

  reads_are : (rs rs' : List ℕ) (vs ws : List Variable) → vs ≡ ws → Reads p m bs rs vs rs' → Reads p m bs rs ws rs'
  reads_are rs rs' vs ws e r = subst (λ (z : List Variable). Reads p m bs rs z rs') e r

  -- a test of one operand
  kind_so : (k : ValueKind) (t : Term Variable) (w : ℕ) (rs : List ℕ) (e : Tested) (rs' : List ℕ) → Denotes p m t w
      → IsOfKind bs m k w rs e rs' → TestsAs p m bs s behind rs (kind (kind_of k) t) e rs'
  kind_so k t w rs e rs' d i =
      let v = values_so p bs m s st false w i.look i.value t d in
      record {
        steps = v.steps;
        end = test_kind (kind_of k) v.look;
        by_steps = ap (option_map (test_kind (kind_of k))) (value_is p m v.steps s t ∙ v.value);
        answer = answers i.look v.look v.is i.value ∙ i.answer;
        reads = reads_are rs rs' (looks.look_reads v.look) (tested_reads (test_kind (kind_of k) v.look)) (sym (its_reads v.look))
            (record {
              more = look_reads i.look;
              read = i.read;
              places = look_places p m i.look v.look v.is;
              unbound = look_open bs m w i.look i.value;
            });
      }
    where
      its_reads : (g : looks.Look) → tested_reads (test_kind (kind_of k) g) ≡ looks.look_reads g
      its_reads (writable v) = open_reads k v
      its_reads (read_only v) = open_reads k v
      its_reads (solid u) = decided_reads (is_kind (kind_of k) u)

      answers : (l : Look) (g : looks.Look) → LookIs p m l g → Values bs m false w l → test_answer (test_kind (kind_of k) g) ≡ look_is k l
      answers (Writable a) (writable v) h vs = open_answer k v
      answers (ReadOnly a) (read_only v) h vs = open_answer k v
      answers (Solid x) (solid u) h vs =
          decided_answer (is_kind (kind_of k) u) ∙ ap truth (sym (word_kind p m k u x
          (plain_is p m x u (value_no_ref bs m false w (Solid x) x vs refl) h) h))
      answers (Writable a) (read_only v) h vs = absurd h
      answers (Writable a) (solid u) h vs = absurd h
      answers (ReadOnly a) (writable v) h vs = absurd h
      answers (ReadOnly a) (solid u) h vs = absurd h
      answers (Solid x) (writable v) h vs = absurd h
      answers (Solid x) (read_only v) h vs = absurd h

  -- `==` and `\==`
  same_so : (t u : Term Variable) (v w : ℕ) (rs : List ℕ) (e : Tested) (rs' : List ℕ) → Denotes p m t v → Denotes p m u w
      → Equals bs m rs ((v, w) ∷ []) e rs' → TestsAs p m bs s behind rs (same t u) e rs'
  same_so t u v w rs e rs' d f k =
      let r = equal_so p m names bs s st rs ((v, w) ∷ []) e rs' k [] ((t, u) ∷ []) (d, f, tt) in
      record {
        steps = r.steps;
        end = r.end;
        by_steps = r.by_steps r.steps (omega arith);
        answer = r.answer;
        reads = reads_are rs rs' r.reads (tested_reads r.end) (sym r.all_reads)
            (record { more = r.more; read = r.read; places = r.places; unbound = r.unbound });
      }

  not_same_so : (t u : Term Variable) (v w : ℕ) (rs : List ℕ) (e : Tested) (rs' : List ℕ) → Denotes p m t v → Denotes p m u w
      → Equals bs m rs ((v, w) ∷ []) (opposite e) rs' → TestsAs p m bs s behind rs (not_same t u) e rs'
  not_same_so t u v w rs e rs' d f k =
      let r = same_so t u v w rs (opposite e) rs' d f k in
      record {
        steps = r.steps;
        end = opposed r.end;
        by_steps = ap (option_map opposed) r.by_steps;
        answer = opposed_answer r.end e r.answer;
        reads = reads_are rs rs' (tested_reads r.end) (tested_reads (opposed r.end)) (sym (opposed_reads r.end)) r.reads;
      }

  -- two expressions
  more_steps : (x : Expr Variable) (n k : ℕ) (e : terms.Evaluated) → n ≤ k → eval n s x ≡ Some e → eval k s x ≡ Some e
  more_steps x n k e l h = at_least (λ (i : ℕ). eval i s x) (eval_more s x) n k l e h

  module _ (o : CompareOp) (a b : Expr Variable) (rs rs1 rs' : List ℕ) (e : Tested) where
    -- the left side decides
    by_left : (n : ℕ) (f : terms.Evaluated) (end : tests.Tested) → eval n s a ≡ Some f → ((g : Option terms.Evaluated)
        → test_order o (Some f) g ≡ Some end) → test_answer end ≡ e → Reads p m bs rs (tested_reads end) rs'
        → TestsAs p m bs s behind rs (ordered o a b) e rs'
    by_left n f end h i j r = record {
      steps = n;
      end = end;
      by_steps = ap (λ (q : Option terms.Evaluated). test_order o q (eval n s b)) h ∙ i (eval n s b);
      answer = j;
      reads = r;
    }

    -- both sides do
    by_both : (n k : ℕ) (f g : terms.Evaluated) (end : tests.Tested) → eval n s a ≡ Some f → eval k s b ≡ Some g
        → test_order o (Some f) (Some g) ≡ Some end → test_answer end ≡ e → Reads p m bs rs (tested_reads end) rs'
        → TestsAs p m bs s behind rs (ordered o a b) e rs'
    by_both n k f g end h i q j r = record {
      steps = n + k;
      end = end;
      by_steps = ap₂ (test_order o) (more_steps a n (n + k) f (omega arith) h) (more_steps b k (n + k) g (omega arith) i) ∙ q;
      answer = j;
      reads = r;
    }

    right_so : (n : ℕ) (y : ℤ) (f : Evaluated) → eval n s a ≡ Some (gives y) → Reads p m bs rs [] rs1 → (k : ℕ) (g : terms.Evaluated)
        → eval k s b ≡ Some g → answer_of g ≡ f → Reads p m bs rs1 (evaluated_reads g) rs' → order_with o y f ≡ e
        → TestsAs p m bs s behind rs (ordered o a b) e rs'
    right_so n y f h r k (gives z) i j q w =
        by_both n k (gives y) (gives z) (decided (order_of o y z)) h i refl
        (decided_answer (order_of o y z) ∙ (ap (order_with o y) j ∙ w))
        (reads_are rs rs' [] (tested_reads (decided (order_of o y z))) (sym (decided_reads (order_of o y z)))
        (more_reads rs rs1 rs' [] [] r q))
    right_so n y f h r k bad i j q w =
        by_both n k (gives y) bad (fails []) h i refl (ap (order_with o y) j ∙ w) (more_reads rs rs1 rs' [] [] r q)
    right_so n y f h r k (unready vs) i j q w =
        by_both n k (gives y) (unready vs) (pauses vs) h i refl (ap (order_with o y) j ∙ w) (more_reads rs rs1 rs' [] vs r q)

    left_so : (left right : List ExprStep) (first : Evaluated) → EvaluatesAs p m bs s rs a first rs1 → Expresses p m b right
        → OrdersAfter bs m o first right rs1 e rs' → TestsAs p m bs s behind rs (ordered o a b) e rs'
    left_so left right first v d k = go v.end v.by_steps v.answer v.reads
      where
        same_end : rs' ≡ rs1 → (vs : List Variable) → Reads p m bs rs vs rs1 → Reads p m bs rs vs rs'
        same_end f vs r = subst (λ (z : List ℕ). Reads p m bs rs vs z) (sym f) r

        go : (f : terms.Evaluated) → eval v.steps s a ≡ Some f → answer_of f ≡ first → Reads p m bs rs (evaluated_reads f) rs1
            → TestsAs p m bs s behind rs (ordered o a b) e rs'
        go (gives y) h i r =
            let q = subst (λ (z : Evaluated). OrdersAfter bs m o z right rs1 e rs') (sym i) k in
            let u = evaluated_so p m bs s st b right rs1 q.0 rs' d q.1 in
            right_so v.steps y q.0 h r u.steps u.end u.by_steps u.answer u.reads q.2
        go bad h i r =
            let q = subst (λ (z : Evaluated). OrdersAfter bs m o z right rs1 e rs') (sym i) k in
            by_left v.steps bad (fails []) h (λ g. refl) (sym q.0) (same_end q.1 [] r)
        go (unready vs) h i r =
            let q = subst (λ (z : Evaluated). OrdersAfter bs m o z right rs1 e rs') (sym i) k in
            by_left v.steps (unready vs) (pauses vs) h (λ g. refl) (sym q.0) (same_end q.1 vs r)

  operands : (left right : List ExprStep) (v w : ℕ) (rs : List ℕ) (t : Tested) (rs' : List ℕ) → left ≡ Push v ∷ [] → right ≡ Push w ∷ []
      → Equals bs m rs ((operand_of left, operand_of right) ∷ []) t rs' → Equals bs m rs ((v, w) ∷ []) t rs'
  operands left right v w rs t rs' i j h =
      subst (λ (y : ℕ). Equals bs m rs ((y, w) ∷ []) t rs') (ap operand_of i)
      (subst (λ (z : ℕ). Equals bs m rs ((operand_of left, z) ∷ []) t rs') (ap operand_of j) h)

  -- a test of words is that of the definitions, by some number of steps
  pub tests_so : (f : Form) (left right : List ExprStep) (rs : List ℕ) (e : Tested) (rs' : List ℕ) (x : Test Variable)
      → IsTestOf p m f left right x → Tests bs m f left right rs e rs' → TestsAs p m bs s behind rs x e rs'
  tests_so Always left right rs e rs' x d k =
      subst (λ (y : Test Variable). TestsAs p m bs s behind rs y e rs') (sym d.2)
      (record { steps = 0; end = holds []; by_steps = refl; answer = sym k.0; reads = no_reads rs rs' k.1 })
  tests_so (OfValue v) left right rs e rs' x d k =
      subst (λ (y : Test Variable). TestsAs p m bs s behind rs y e rs') (sym d.3)
      (kind_so v d.0 d.1.0 rs e rs' d.1.2 (subst (λ (w : ℕ). IsOfKind bs m v w rs e rs') (ap operand_of d.1.1) k))
  tests_so Same left right rs e rs' x d k =
      subst (λ (y : Test Variable). TestsAs p m bs s behind rs y e rs') (sym d.4)
      (same_so d.0 d.1 d.2.0 d.3.0 rs e rs' d.2.2 d.3.2 (operands left right d.2.0 d.3.0 rs e rs' d.2.1 d.3.1 k))
  tests_so NotSame left right rs e rs' x d k =
      subst (λ (y : Test Variable). TestsAs p m bs s behind rs y e rs') (sym d.4)
      (not_same_so d.0 d.1 d.2.0 d.3.0 rs e rs' d.2.2 d.3.2 (operands left right d.2.0 d.3.0 rs (opposite e) rs' d.2.1 d.3.1 k))
  tests_so (Order o) left right rs e rs' x d k =
      subst (λ (y : Test Variable). TestsAs p m bs s behind rs y e rs') (sym d.4)
      (left_so o d.0 d.1 rs k.between rs' e left right k.first
      (evaluated_so p m bs s st d.0 left rs k.first k.between d.2 k.reckons) d.3 k.after)
