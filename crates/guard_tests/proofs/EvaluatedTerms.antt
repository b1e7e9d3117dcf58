-- The evaluation of steps is that of the expression which they are.
use Rattle.std.proofs.Common.{◌≡◌, ℕ, ◌+◌, ◌≤◌, Bool, true, false, cond, ℤ, pos, List, [], ◌∷◌, ◌++◌}
use Rattle.std.proofs.Common.{Option, Some, refl, sym, ap, ap₂, ◌∙◌, subst}
use Rattle.std.proofs.Common.{arith, append_assoc, append-nil}
use Rattle.std.specs.Prelude.{option_map, int_div, int_rem}
use Rattle.std.specs.Ordering.{int_eq}
use Rattle.heap_words.specs.Cells.{decoded}
use Rattle.heap_words.specs.Trails.{WordList, Memory}
use Rattle.heap_words.specs.declared.steps.ExprStep.{ExprStep}
use Rattle.heap_words.specs.declared.steps.ExprStep.TheVariants.{Push, Apply}
use Rattle.ro_unify.specs.declared.look.Look.{Look}
use Rattle.ro_unify.specs.declared.look.Look.TheVariants.{Writable, ReadOnly, Solid}
use Rattle.ro_unify.specs.Value.{Values, IsOpen}
use Rattle.ro_unify.specs.Unify.{look_reads}
use Rattle.ro_unify.proofs.Chains.{values_open}
use Rattle.fcp_model.specs.declared.term.ArithOp.{ArithOp}
use Rattle.fcp_model.specs.declared.term.ArithOp.TheVariants.{Add, Sub, Mul, Div, Mod}
use Rattle.fcp_model.specs.Places.{Variable}
use Rattle.fcp_model.specs.Terms.{Term, number, string, nil, cons, tuple, var, ro, first, Bindings}
use Rattle.fcp_model.specs.Value.{writable, read_only, solid, value}
use Rattle.fcp_model.specs.Value as looks
use Rattle.fcp_model.specs.Expressions.{Expr, leaf, op, gives, bad, unready, value_of_leaf, checked, divided, apply, both_values, eval}
use Rattle.fcp_model.specs.Expressions as terms
use Rattle.fcp_model.proofs.MoreSteps.{at_least}
use Rattle.fcp_model.proofs.OneDecision.{eval_more}
use Rattle.unify_terms.specs.Denotes.{Naming, Denotes, Stands, IsPlace, LookIs}
use Rattle.unify_terms.proofs.ValuesOfWords.{values_so, value_is}
use Rattle.guard_tests.specs.declared.number.Evaluated.{Evaluated}
use Rattle.guard_tests.specs.declared.number.Evaluated.TheVariants.{Value, Bad, Wait}
use Rattle.guard_tests.specs.Numbers.{answer_of, number_at, number_of}
use Rattle.guard_tests.specs.Evaluation.{Gives, Takes, Reckons, at_end, on, spoilt, stopped, last_of}
use Rattle.guard_tests.specs.Guards.{Expresses, EvaluatesAs}
use Rattle.guard_tests.proofs.NumbersOfWords.{number_is}

-- what an answer says of what the definitions give
pub gives_is : (e : terms.Evaluated) (z : ℤ) → answer_of e ≡ Value z → e ≡ gives z
gives_is (gives y) z h = ap gives (let k : y ≡ z = cc in k)
gives_is bad z h = cc
gives_is (unready vs) z h = cc

pub bad_is : (e : terms.Evaluated) → answer_of e ≡ Bad → e ≡ bad
bad_is (gives y) h = cc
bad_is bad h = refl
bad_is (unready vs) h = cc

-- an operator does not wait
cond_ends : (b : Bool) (z : ℤ) → answer_of (cond b (gives z) bad) ≡ Wait → ⊥
cond_ends true z h = cc
cond_ends false z h = cc

divided_ends : (f : ℤ → ℤ → ℤ) (y z : ℤ) (b : Bool) → answer_of (cond b bad (checked (f y z))) ≡ Wait → ⊥
divided_ends f y z true h = cc
divided_ends f y z false h = cond_ends _ (f y z) h

apply_ends : (o : ArithOp) (y z : ℤ) → answer_of (apply o y z) ≡ Wait → ⊥
apply_ends Add y z h = cond_ends _ _ h
apply_ends Sub y z h = cond_ends _ _ h
apply_ends Mul y z h = cond_ends _ _ h
apply_ends Div y z h = divided_ends int_div y z (int_eq z (pos 0)) h
apply_ends Mod y z h = divided_ends int_rem y z (int_eq z (pos 0)) h

module _ (bs : WordList) (m : Memory) where
  -- what the first of some steps did
  data First (s : ExprStep) (ss : List ExprStep) (zs : List ℤ) (rs : List ℕ) (r : Evaluated) (rs' : List ℕ) : Type 0 where
    went : (z : ℤ) (zs' : List ℤ) (rs1 : List ℕ) → Takes bs m s zs rs (Value z) zs' rs1 → Reckons bs m ss (z ∷ zs') rs1 r rs'
        → First s ss zs rs r rs'
    spoils : (zs' : List ℤ) → Takes bs m s zs rs Bad zs' rs' → r ≡ Bad → First s ss zs rs r rs'
    stops : (zs' : List ℤ) → Takes bs m s zs rs Wait zs' rs' → r ≡ Wait → First s ss zs rs r rs'

  first_step : (us : List ExprStep) (s : ExprStep) (ss : List ExprStep) (zs : List ℤ) (rs : List ℕ) (r : Evaluated) (rs' : List ℕ)
      → Reckons bs m us zs rs r rs' → us ≡ s ∷ ss → First s ss zs rs r rs'
  first_step _ s ss _ _ _ _ (at_end zs rs) e = cc
  first_step _ s ss _ _ _ _ (on s0 ss0 zs rs z zs' rs1 r rs' t k) e =
      let i : s0 ≡ s = cc in
      let j : ss0 ≡ ss = cc in
      went z zs' rs1 (subst (λ (x : ExprStep). Takes bs m x zs rs (Value z) zs' rs1) i t)
      (subst (λ (us : List ExprStep). Reckons bs m us (z ∷ zs') rs1 r rs') j k)
  first_step _ s ss _ _ _ _ (spoilt s0 ss0 zs rs zs' rs' t) e =
      let i : s0 ≡ s = cc in spoils zs' (subst (λ (x : ExprStep). Takes bs m x zs rs Bad zs' rs') i t) refl
  first_step _ s ss _ _ _ _ (stopped s0 ss0 zs rs zs' rs' t) e =
      let i : s0 ≡ s = cc in stops zs' (subst (λ (x : ExprStep). Takes bs m x zs rs Wait zs' rs') i t) refl

  no_step : (us : List ExprStep) (zs : List ℤ) (rs : List ℕ) (r : Evaluated) (rs' : List ℕ) → Reckons bs m us zs rs r rs' → us ≡ []
      → (r ≡ last_of zs) × (rs' ≡ rs)
  no_step _ _ _ _ _ (at_end zs rs) e = (refl, refl)
  no_step _ _ _ _ _ (on s ss zs rs z zs' rs1 r rs' t k) e = cc
  no_step _ _ _ _ _ (spoilt s ss zs rs zs' rs' t) e = cc
  no_step _ _ _ _ _ (stopped s ss zs rs zs' rs' t) e = cc

module _ (p : Naming) (m : Memory) (bs : WordList) (s : Bindings) (st : Stands p m bs s) where
  -- what an operand gives, and its term
  data Leaf (t : Term Variable) (rs : List ℕ) (e : Evaluated) (rs' : List ℕ) : Type 0 where
    counts : (n : ℕ) (z : ℤ) → eval n s (leaf t) ≡ Some (gives z) → Value z ≡ e → rs' ≡ rs → Leaf t rs e rs'
    other : (n : ℕ) → eval n s (leaf t) ≡ Some bad → Bad ≡ e → rs' ≡ rs → Leaf t rs e rs'
    open_leaf : (n a : ℕ) (v : Variable) → eval n s (leaf t) ≡ Some (unready (v ∷ [])) → IsPlace p m a v → IsOpen bs m a → Wait ≡ e
        → rs' ≡ rs ++ a ∷ [] → Leaf t rs e rs'

  solid_leaf : (t : Term Variable) (rs : List ℕ) (e : Evaluated) (rs' : List ℕ) (n x : ℕ) (u : Term Variable) → value n s t ≡ Some (solid u)
      → Denotes p m u x → number_of m (decoded x) ≡ e → rs' ≡ rs → Leaf t rs e rs'
  solid_leaf t rs e rs' n x (number z) v d f r = counts n z (ap (option_map value_of_leaf) v) (sym (number_is m z x d) ∙ f) r
  solid_leaf t rs e rs' n x (string z) v d f r = other n (ap (option_map value_of_leaf) v) (sym (ap (number_of m) d.1) ∙ f) r
  solid_leaf t rs e rs' n x nil v d f r = other n (ap (option_map value_of_leaf) v) (sym (ap (number_of m) d) ∙ f) r
  solid_leaf t rs e rs' n x (cons a b) v d f r = other n (ap (option_map value_of_leaf) v) (sym (ap (number_of m) d.1) ∙ f) r
  solid_leaf t rs e rs' n x (tuple ts) v d f r = other n (ap (option_map value_of_leaf) v) (sym (ap (number_of m) d.1) ∙ f) r
  solid_leaf t rs e rs' n x (var q) v d f r = other n (ap (option_map value_of_leaf) v) (sym (ap (number_of m) d.1) ∙ f) r
  solid_leaf t rs e rs' n x (ro q) v d f r = other n (ap (option_map value_of_leaf) v) (sym (ap (number_of m) d.1) ∙ f) r
  solid_leaf t rs e rs' n x (first k) v d f r = absurd d

  leaf_so : (t : Term Variable) (w : ℕ) (rs : List ℕ) (e : Evaluated) (rs' : List ℕ) → Denotes p m t w → Gives bs m w rs e rs'
      → Leaf t rs e rs'
  leaf_so t w rs e rs' d g =
      let v = values_so p bs m s st false w g.look g.value t d in
      go g.look v.look v.is g.value v.steps (value_is p m v.steps s t ∙ v.value) g.number g.read
    where
      go : (l : Look) (k : looks.Look) → LookIs p m l k → Values bs m false w l → (n : ℕ) → value n s t ≡ Some k → number_at m l ≡ e
          → rs' ≡ rs ++ look_reads l → Leaf t rs e rs'
      go (Writable a) (writable v) i vs n q f r =
          open_leaf n a v (ap (option_map value_of_leaf) q) i (values_open bs m false w (Writable a) a vs refl) f r
      go (ReadOnly a) (read_only v) i vs n q f r =
          open_leaf n a v (ap (option_map value_of_leaf) q) i (values_open bs m false w (ReadOnly a) a vs refl) f r
      go (Solid x) (solid u) i vs n q f r = solid_leaf t rs e rs' n x u q i f (r ∙ append-nil rs)
      go (Writable a) (read_only v) i vs n q f r = absurd i
      go (Writable a) (solid u) i vs n q f r = absurd i
      go (ReadOnly a) (writable v) i vs n q f r = absurd i
      go (ReadOnly a) (solid u) i vs n q f r = absurd i
      go (Solid x) (writable v) i vs n q f r = absurd i
      go (Solid x) (read_only v) i vs n q f r = absurd i

  -- what the steps of an expression did, in front of others
  data Done (x : Expr Variable) (ss : List ExprStep) (zs : List ℤ) (rs : List ℕ) (r : Evaluated) (rs' : List ℕ) : Type 0 where
    counted : (n : ℕ) (z : ℤ) → eval n s x ≡ Some (gives z) → Reckons bs m ss (z ∷ zs) rs r rs' → Done x ss zs rs r rs'
    was_bad : (n : ℕ) → eval n s x ≡ Some bad → r ≡ Bad → rs' ≡ rs → Done x ss zs rs r rs'
    waited : (n a : ℕ) (v : Variable) → eval n s x ≡ Some (unready (v ∷ [])) → IsPlace p m a v → IsOpen bs m a → r ≡ Wait
        → rs' ≡ rs ++ a ∷ [] → Done x ss zs rs r rs'

  push_done : (t : Term Variable) (w : ℕ) (ss : List ExprStep) (zs : List ℤ) (rs : List ℕ) (r : Evaluated) (rs' : List ℕ)
      → Denotes p m t w → First bs m (Push w) ss zs rs r rs' → Done (leaf t) ss zs rs r rs'
  push_done t w ss zs rs r rs' d (went z zs' rs1 g k) = go (leaf_so t w rs (Value z) rs1 d g.0)
    where
      go : Leaf t rs (Value z) rs1 → Done (leaf t) ss zs rs r rs'
      go (counts n y q e f) =
          let same : y ≡ z = cc in
          counted n z (q ∙ ap (λ (i : ℤ). Some (gives i)) same)
          (subst (λ (us : List ℤ). Reckons bs m ss (z ∷ us) rs r rs') g.1
          (subst (λ (qs : List ℕ). Reckons bs m ss (z ∷ zs') qs r rs') f k))
      go (other n q e f) = cc
      go (open_leaf n a v q i o e f) = cc
  push_done t w ss zs rs r rs' d (spoils zs' g h) = go (leaf_so t w rs Bad rs' d g.0)
    where
      go : Leaf t rs Bad rs' → Done (leaf t) ss zs rs r rs'
      go (counts n y q e f) = cc
      go (other n q e f) = was_bad n q h f
      go (open_leaf n a v q i o e f) = cc
  push_done t w ss zs rs r rs' d (stops zs' g h) = go (leaf_so t w rs Wait rs' d g.0)
    where
      go : Leaf t rs Wait rs' → Done (leaf t) ss zs rs r rs'
      go (counts n y q e f) = cc
      go (other n q e f) = cc
      go (open_leaf n a v q i o e f) = waited n a v q i o h f

  more_steps : (x : Expr Variable) (n k : ℕ) (e : terms.Evaluated) → n ≤ k → eval n s x ≡ Some e → eval k s x ≡ Some e
  more_steps x n k e l h = at_least (λ (i : ℕ). eval i s x) (eval_more s x) n k l e h

  -- an operator after both operands
  apply_done : (o : ArithOp) (a b : Expr Variable) (ss : List ExprStep) (zs : List ℤ) (rs : List ℕ) (r : Evaluated) (rs' : List ℕ)
      (n k : ℕ) (y z : ℤ) → eval n s a ≡ Some (gives y) → eval k s b ≡ Some (gives z) → First bs m (Apply o) ss (z ∷ y ∷ zs) rs r rs'
      → Done (op o a b) ss zs rs r rs'
  apply_done o a b ss zs rs r rs' n k y z f g c = go c
    where
      both : eval (n + k) s (op o a b) ≡ Some (apply o y z)
      both = ap₂ (both_values (apply o)) (more_steps a n (n + k) (gives y) (omega arith) f)
          (more_steps b k (n + k) (gives z) (omega arith) g)

      go : First bs m (Apply o) ss (z ∷ y ∷ zs) rs r rs' → Done (op o a b) ss zs rs r rs'
      go (went i zs' rs1 t h) =
          counted (n + k) i (both ∙ ap (λ (e : terms.Evaluated). Some e) (gives_is (apply o y z) i t.0.0))
          (subst (λ (us : List ℤ). Reckons bs m ss (i ∷ us) rs r rs') t.0.1
          (subst (λ (qs : List ℕ). Reckons bs m ss (i ∷ zs') qs r rs') t.1 h))
      go (spoils zs' t h) = was_bad (n + k) (both ∙ ap (λ (e : terms.Evaluated). Some e) (bad_is (apply o y z) t.0.0)) h t.1
      go (stops zs' t h) = absurd (apply_ends o y z t.0.0)

  -- the operands from the left
  expression_done : (x : Expr Variable) (xs ss : List ExprStep) (zs : List ℤ) (rs : List ℕ) (r : Evaluated) (rs' : List ℕ)
      → Expresses p m x xs → Reckons bs m (xs ++ ss) zs rs r rs' → Done x ss zs rs r rs'
  expression_done (leaf t) xs ss zs rs r rs' d k =
      push_done t d.0 ss zs rs r rs' d.2
      (first_step bs m (xs ++ ss) (Push d.0) ss zs rs r rs' k (ap (λ (us : List ExprStep). us ++ ss) d.1))
  expression_done (op o a b) xs ss zs rs r rs' d k =
      left (expression_done a d.0 (d.1 ++ Apply o ∷ ss) zs rs r rs' d.3
      (subst (λ (us : List ExprStep). Reckons bs m us zs rs r rs') parted k)) (λ ys. expression_done b d.1 (Apply o ∷ ss) ys rs r rs' d.4)
    where
      parted : xs ++ ss ≡ d.0 ++ (d.1 ++ Apply o ∷ ss)
      parted = ap (λ (us : List ExprStep). us ++ ss) d.2 ∙
          (append_assoc d.0 (d.1 ++ Apply o ∷ []) ss ∙ ap (λ (us : List ExprStep). d.0 ++ us) (append_assoc d.1 (Apply o ∷ []) ss))

      right : (n : ℕ) (y : ℤ) → eval n s a ≡ Some (gives y) → Done b (Apply o ∷ ss) (y ∷ zs) rs r rs' → Done (op o a b) ss zs rs r rs'
      right n y f (counted i z g h) =
          apply_done o a b ss zs rs r rs' n i y z f g (first_step bs m (Apply o ∷ ss) (Apply o) ss (z ∷ y ∷ zs) rs r rs' h refl)
      right n y f (was_bad i g h e) =
          was_bad (n + i) (ap₂ (both_values (apply o)) (more_steps a n (n + i) (gives y) (omega arith) f)
          (more_steps b i (n + i) bad (omega arith) g)) h e
      right n y f (waited i c v g j q h e) =
          waited (n + i) c v (ap₂ (both_values (apply o)) (more_steps a n (n + i) (gives y) (omega arith) f)
          (more_steps b i (n + i) (unready (v ∷ [])) (omega arith) g)) j q h e

      left : Done a (d.1 ++ Apply o ∷ ss) zs rs r rs'
          → ((ys : List ℤ) → Reckons bs m (d.1 ++ Apply o ∷ ss) ys rs r rs' → Done b (Apply o ∷ ss) ys rs r rs')
          → Done (op o a b) ss zs rs r rs'
      left (counted n y f h) rec = right n y f (rec (y ∷ zs) h)
      left (was_bad n f h e) rec = was_bad n (ap (λ (q : Option terms.Evaluated). both_values (apply o) q (eval n s b)) f) h e
      left (waited n c v f i q h e) rec =
          waited n c v (ap (λ (u : Option terms.Evaluated). both_values (apply o) u (eval n s b)) f) i q h e

  -- the evaluation of steps is that of the expression, by some number of steps
  pub evaluated_so : (x : Expr Variable) (ss : List ExprStep) (rs : List ℕ) (e : Evaluated) (rs' : List ℕ) → Expresses p m x ss
      → Reckons bs m ss [] rs e rs' → EvaluatesAs p m bs s rs x e rs'
  evaluated_so x ss rs e rs' d k =
      go (expression_done x ss [] [] rs e rs' d (subst (λ (us : List ExprStep). Reckons bs m us [] rs e rs') (sym (append-nil ss)) k))
    where
      none : rs' ≡ rs → rs' ≡ rs ++ []
      none f = f ∙ sym (append-nil rs)

      go : Done x [] [] rs e rs' → EvaluatesAs p m bs s rs x e rs'
      go (counted n z f h) =
          let end = no_step bs m [] (z ∷ []) rs e rs' h refl in
          record {
            steps = n;
            end = gives z;
            by_steps = f;
            answer = sym end.0;
            reads = record { more = []; read = none end.1; places = tt; unbound = tt };
          }
      go (was_bad n f h i) = record {
        steps = n;
        end = bad;
        by_steps = f;
        answer = sym h;
        reads = record { more = []; read = none i; places = tt; unbound = tt };
      }
      go (waited n a v f i o h j) = record {
        steps = n;
        end = unready (v ∷ []);
        by_steps = f;
        answer = sym h;
        reads = record { more = a ∷ []; read = j; places = (i, tt); unbound = (o, tt) };
      }
