-- Items of a guard or a body that are left.
use Rattle.std.proofs.Common.{◌≡◌, ℕ, suc, ◌+◌, ◌<◌, List, [], ◌∷◌, ◌++◌, length, drop, Option, Some, None, refl, sym, ap, ◌∙◌, subst, arith}
use Rattle.std.specs.Prelude.{get_or}
use Rattle.std.specs.List.{filter_map, cons_option}
use Rattle.std.proofs.Math.Seq.{drop-cons}
use Rattle.heap_words.specs.declared.steps.TestKind.{TestKind}
use Rattle.fcp_model.specs.declared.loaded.ProcedureName.{ProcedureName}
use Rattle.fcp_model.specs.declared.source.Item.{Item}
use Rattle.fcp_model.specs.Terms.{Term}
use Rattle.fcp_model.specs.Expressions.{Expr}
use Rattle.fcp_model.specs.Tests.{Test}
use Rattle.fcp_model.specs.Translation.{test_of, goal_of, goals_of}
use Rattle.head_code.specs.declared.emitter.Emitter.{Emitter}
use Rattle.machine_code.specs.Slots.{Step, push}
use Rattle.machine_code.specs.Instructions as ins
use Rattle.machine_code.specs.Instructions.{Op, Spawn}
use Rattle.head_code.specs.TermCode.{put}
use Rattle.clause_compiler.specs.ExprCode.{put_expr}
use Rattle.clause_compiler.specs.ClauseCode.{item_code, pair_test, guard_code, goal_code, body_code}
use Rattle.head_code.specs.Emitting.{Emits}
use Rattle.head_code.proofs.Emitting.{emits_on}
use Rattle.head_code.proofs.PutLoops.{Remains, remains_as, fewer_remain}

-- two terms were put, and an instruction after them
pub two_put : (a b c d : Emitter) (n r g : ℕ) (t u : Term ℕ) (o : Op) → r ≡ n + 1 → g ≡ n + 2 → Emits a b (put n g t)
    → Emits b c (put r g u) → Emits c d (o ∷ []) → Emits a d (put n (suc (suc n)) t ++ (put (suc n) (suc (suc n)) u ++ o ∷ []))
two_put a b c d n r g t u o er eg ab bc cd =
    let er' : r ≡ suc n = omega (arith, er) in
    let eg' : g ≡ suc (suc n) = omega (arith, eg) in
    subst (λ l. Emits a d l) (λ k. put n (eg' k) t ++ (put (er' k) (eg' k) u ++ o ∷ [])) (emits_on a b d _ _ ab (emits_on b c d _ _ bc cd))

pub expr_put_behind : (a b c d : Emitter) (n r g : ℕ) (t : Term ℕ) (e : Expr ℕ) (o : Op) → r ≡ n + 1 → g ≡ n + 2 → Emits a b (put n g t)
    → Emits b c (put_expr r g e) → Emits c d (o ∷ []) → Emits a d (put n (suc (suc n)) t ++ (put_expr (suc n) (suc (suc n)) e ++ o ∷ []))
expr_put_behind a b c d n r g t e o er eg ab bc cd =
    let er' : r ≡ suc n = omega (arith, er) in
    let eg' : g ≡ suc (suc n) = omega (arith, eg) in
    subst (λ l. Emits a d l) (λ k. put n (eg' k) t ++ (put_expr (er' k) (eg' k) e ++ o ∷ []))
    (emits_on a b d _ _ ab (emits_on b c d _ _ bc cd))

pub pair_tested : (a b c d : Emitter) (n r g : ℕ) (t u : Term ℕ) (k : TestKind) (xs ys : List Step) → r ≡ n + 1 → g ≡ n + 2
    → Emits a b (put n g t) → Emits b c (put r g u) → Emits c d (ins.Test k xs ys ∷ []) → xs ≡ push n ∷ [] → ys ≡ push r ∷ []
    → Emits a d (pair_test n k t u)
pair_tested a b c d n r g t u k xs ys er eg ab bc cd ex ey =
    let er' : r ≡ suc n = omega (arith, er) in
    two_put a b c d n r g t u (ins.Test k (push n ∷ []) (push (suc n) ∷ [])) er eg ab bc
    (subst (λ o. Emits c d (o ∷ [])) (λ j. ins.Test k (ex j) ((ey ∙ (λ i. push (er' i) ∷ [])) j)) cd)

guard_first : (n : ℕ) (i : Item) (is : List Item)
    → guard_code n (filter_map (λ i. test_of i.call) (i ∷ is))
    ≡ item_code n (test_of i.call) ++ guard_code n (filter_map (λ i. test_of i.call) is)
guard_first n i is = by (test_of i.call)
  where
    by : (o : Option (Test ℕ)) → guard_code n (cons_option o (filter_map (λ i. test_of i.call) is))
        ≡ item_code n o ++ guard_code n (filter_map (λ i. test_of i.call) is)
    by None = refl
    by (Some t) = refl

cut_at : (ts : List Item) (idx : ℕ) (x : Item) → idx < length ts → x ≡ get_or ts idx x → drop idx ts ≡ x ∷ drop (idx + 1) ts
cut_at ts idx x lt is = let next : idx + 1 ≡ suc idx = omega arith in drop-cons ts idx x lt ∙ (λ k. sym is k ∷ drop (sym next k) ts)

pub guard_step : (a b c : Emitter) (whole : List Op) (n idx : ℕ) (ts : List Item) (x : Item) → idx < length ts → x ≡ get_or ts idx x
    → Emits b c (item_code n (test_of x.call)) → Remains a b whole (guard_code n (filter_map (λ i. test_of i.call) (drop idx ts)))
    → Remains a c whole (guard_code n (filter_map (λ i. test_of i.call) (drop (idx + 1) ts)))
guard_step a b c whole n idx ts x lt is bc rem =
    fewer_remain a b c whole (item_code n (test_of x.call)) (guard_code n (filter_map (λ i. test_of i.call) (drop (idx + 1) ts)))
    (remains_as a b whole _ _ (ap (λ l. guard_code n (filter_map (λ i. test_of i.call) l)) (cut_at ts idx x lt is)
    ∙ guard_first n x (drop (idx + 1) ts)) rem) bc

pub body_step : (hs : List ProcedureName) (a b c : Emitter) (whole : List Op) (n idx : ℕ) (ts : List Item) (x : Item) → idx < length ts
    → x ≡ get_or ts idx x → Emits b c (goal_code n (goal_of hs x.call)) → Remains a b whole (body_code n (goals_of hs (drop idx ts)))
    → Remains a c whole (body_code n (goals_of hs (drop (idx + 1) ts)))
body_step hs a b c whole n idx ts x lt is bc rem =
    fewer_remain a b c whole (goal_code n (goal_of hs x.call)) (body_code n (goals_of hs (drop (idx + 1) ts)))
    (remains_as a b whole _ _ (ap (λ l. body_code n (goals_of hs l)) (cut_at ts idx x lt is)) rem) bc
