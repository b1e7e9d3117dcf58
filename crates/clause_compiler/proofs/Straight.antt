-- The code of terms, guards and bodies leads on from one instruction to the next, binds no variable, and has tests with the sides of
-- their kinds.
use Rattle.std.proofs.Common.{◌≡◌, ℕ, suc, ◌+◌, List, [], ◌∷◌, ◌++◌, length, refl}
use Rattle.fcp_model.specs.declared.term.CompareOp.{CompareOp}
use Rattle.fcp_model.specs.declared.term.CompareOp.TheVariants as compared
use Rattle.fcp_model.specs.Terms.{Term, number, string, nil, cons, tuple, var, ro, first, Terms, none, more}
use Rattle.fcp_model.specs.Expressions.{Expr, leaf, op}
use Rattle.fcp_model.specs.Tests.{Kind, is_integer, is_string, is_constant, is_list, is_tuple, is_known, is_unknown, Test, always, otherwise, kind, same, not_same, ordered}
use Rattle.fcp_model.specs.Programs.{Goal, user, true', unifies, assigns, Clause}
use Rattle.fcp_model.specs.Translation.{terms_of}
use Rattle.machine_code.specs.Slots.{Step, push, apply}
use Rattle.machine_code.specs.Instructions as ins
use Rattle.machine_code.specs.Instructions.{Op}
use Rattle.machine_code.specs.Machine.{count}
use Rattle.head_code.specs.TermCode.{width, put, puts}
use Rattle.clause_compiler.specs.ExprCode.{put_expr, leaves, put_leaves, steps}
use Rattle.clause_compiler.specs.ClauseCode.{kind_test, order_test, test_code, guard_code, goal_code, body_code}
use Rattle.machine_code.specs.Each.{Each}
use Rattle.machine_code.specs.Targets.{LeadsBehind, AllLeadBehind}
use Rattle.machine_code.specs.Sound.{SlotExpr, in_slot, operation, postfix, IsPostfix, HasSides, IsFormed}
use Rattle.machine_code.proofs.Each.{each_append, each_map}

-- an instruction after which the next one follows, and which binds nothing; a test has the sides of its kind
abbrev pub IsStraight : Op → Type 0
IsStraight (ins.Test k left right) = HasSides k left right
IsStraight (ins.PutVar i k m) = Unit {0}
IsStraight (ins.PutWord i t) = Unit {0}
IsStraight (ins.PutCons i left right) = Unit {0}
IsStraight (ins.PutTuple i f parts o) = Unit {0}
IsStraight ins.Otherwise = Unit {0}
IsStraight (ins.Spawn p f parts) = Unit {0}
IsStraight ins.Commit = Unit {0}
IsStraight _ = ⊥

abbrev pub AreStraight : List Op → Type 0
AreStraight = Each IsStraight

both : (xs ys : List Op) → AreStraight xs → AreStraight ys → AreStraight (xs ++ ys)
both = each_append IsStraight

mutual
  pub put_straight : (t : Term ℕ) (i n : ℕ) → AreStraight (put i n t)
  put_straight (number z) i n = (tt, tt)
  put_straight (string s) i n = (tt, tt)
  put_straight nil i n = (tt, tt)
  put_straight (var k) i n = (tt, tt)
  put_straight (ro k) i n = (tt, tt)
  put_straight (first k) i n = (tt, tt)
  put_straight (cons a b) i n =
      both _ _ (put_straight a n (suc (suc n))) (both _ _ (put_straight b (suc n) (suc (suc (n + width a)))) (tt, tt))
  put_straight (tuple ts) i n = both _ _ (puts_straight ts n (n + count ts)) (tt, tt)

  pub puts_straight : (ts : Terms ℕ) (i n : ℕ) → AreStraight (puts i n ts)
  puts_straight none i n = tt
  puts_straight (more t ts) i n = both _ _ (put_straight t i n) (puts_straight ts (suc i) (n + width t))

expr_straight : (e : Expr ℕ) (i n : ℕ) → AreStraight (put_expr i n e)
expr_straight (leaf t) i n = put_straight t i n
expr_straight (op o a b) i n = both _ _ (expr_straight a n (suc (suc n))) (both _ _ (expr_straight b (suc n) (suc (suc n))) (tt, tt))

leaves_straight : (e : Expr ℕ) (i n : ℕ) → AreStraight (put_leaves i n e)
leaves_straight (leaf t) i n = put_straight t i n
leaves_straight (op o a b) i n = both _ _ (leaves_straight a i n) (leaves_straight b (i + leaves a) n)

pair_straight : (n : ℕ) (t u : Term ℕ) (o : Op) → IsStraight o
    → AreStraight (put n (suc (suc n)) t ++ (put (suc n) (suc (suc n)) u ++ o ∷ []))
pair_straight n t u o h = both _ _ (put_straight t n (suc (suc n))) (both _ _ (put_straight u (suc n) (suc (suc n))) (h, tt))

-- an expression over the slots of its leaves
abbrev over_slots : ℕ → Expr ℕ → SlotExpr
over_slots i (leaf t) = in_slot i
over_slots i (op o a b) = operation o (over_slots i a) (over_slots (i + leaves a) b)

steps_postfix : (e : Expr ℕ) (i : ℕ) → steps i e ≡ postfix (over_slots i e)
steps_postfix (leaf t) i = refl
steps_postfix (op o a b) i = λ j. steps_postfix a i j ++ (steps_postfix b (i + leaves a) j ++ apply o ∷ [])

steps_straight : (e : Expr ℕ) (i : ℕ) → IsPostfix (steps i e)
steps_straight e i = (over_slots i e, steps_postfix e i)

kind_sides : (k : Kind) (n : ℕ) → HasSides (kind_test k) (push n ∷ []) []
kind_sides is_integer n = ((n, refl), refl)
kind_sides is_string n = ((n, refl), refl)
kind_sides is_constant n = ((n, refl), refl)
kind_sides is_list n = ((n, refl), refl)
kind_sides is_tuple n = ((n, refl), refl)
kind_sides is_known n = ((n, refl), refl)
kind_sides is_unknown n = ((n, refl), refl)

order_sides : (o : CompareOp) (xs ys : List Step) → IsPostfix xs → IsPostfix ys → HasSides (order_test o) xs ys
order_sides compared.Less xs ys h k = (h, k)
order_sides compared.AtMost xs ys h k = (h, k)
order_sides compared.Greater xs ys h k = (h, k)
order_sides compared.AtLeast xs ys h k = (h, k)
order_sides compared.Equal xs ys h k = (h, k)
order_sides compared.NotEqual xs ys h k = (h, k)

test_straight : (t : Test ℕ) (n : ℕ) → AreStraight (test_code n t)
test_straight always n = ((refl, refl), tt)
test_straight otherwise n = (tt, tt)
test_straight (kind k t) n = both _ _ (put_straight t n (suc n)) (kind_sides k n, tt)
test_straight (same t u) n = pair_straight n t u _ ((n, refl), (suc n, refl))
test_straight (not_same t u) n = pair_straight n t u _ ((n, refl), (suc n, refl))
test_straight (ordered o a b) n =
    let free = n + leaves a + leaves b in
    both _ _ (leaves_straight a n free)
    (both _ _ (leaves_straight b (n + leaves a) free) (order_sides o _ _ (steps_straight a n) (steps_straight b (n + leaves a)), tt))

pub guard_straight : (ts : List (Test ℕ)) (n : ℕ) → AreStraight (guard_code n ts)
guard_straight [] n = tt
guard_straight (t ∷ ts) n = both _ _ (test_straight t n) (guard_straight ts n)

goal_straight : (g : Goal ℕ) (n : ℕ) → AreStraight (goal_code n g)
goal_straight (user p ts) n = both _ _ (puts_straight (terms_of ts) n (n + length ts)) (tt, tt)
goal_straight true' n = (tt, tt)
goal_straight (unifies t u) n = pair_straight n t u _ tt
goal_straight (assigns t e) n = both _ _ (put_straight t n (suc (suc n))) (both _ _ (expr_straight e (suc n) (suc (suc n))) (tt, tt))

pub body_straight : (gs : List (Goal ℕ)) (n : ℕ) → AreStraight (body_code n gs)
body_straight [] n = tt
body_straight (g ∷ gs) n = both _ _ (goal_straight g n) (body_straight gs n)

-- the code of a guard and a body, and the commit
pub rest_straight : (c : Clause) (n : ℕ) → AreStraight (guard_code n c.guard ++ (body_code n c.body ++ ins.Commit ∷ []))
rest_straight c n =
    both (guard_code n c.guard) _ (guard_straight c.guard n) (both (body_code n c.body) _ (body_straight c.body n) (tt, tt))

is_formed : (o : Op) → IsStraight o → IsFormed o
is_formed (ins.Test k left right) h = h
is_formed (ins.Try k next) h = tt
is_formed (ins.GetFirst i k) h = tt
is_formed (ins.GetCons i left right p) h = tt
is_formed (ins.GetTuple i f parts p) h = tt
is_formed (ins.PutVar i k m) h = tt
is_formed (ins.PutWord i t) h = tt
is_formed (ins.PutCons i left right) h = tt
is_formed (ins.PutTuple i f parts o) h = tt
is_formed (ins.Unify left right) h = tt
is_formed (ins.Jump to) h = tt
is_formed ins.Otherwise h = tt
is_formed (ins.Spawn p f parts) h = tt
is_formed ins.Commit h = tt

pub are_formed : (xs : List Op) → AreStraight xs → Each IsFormed xs
are_formed = each_map IsStraight IsFormed is_formed

leads : (o : Op) (at : ℕ) → IsStraight o → LeadsBehind at o
leads (ins.Try k next) at h = absurd h
leads (ins.GetFirst i k) at h = tt
leads (ins.GetCons i left right p) at h = absurd h
leads (ins.GetTuple i f parts p) at h = absurd h
leads (ins.PutVar i k m) at h = tt
leads (ins.PutWord i t) at h = tt
leads (ins.PutCons i left right) at h = tt
leads (ins.PutTuple i f parts o) at h = tt
leads (ins.Unify left right) at h = tt
leads (ins.Jump to) at h = absurd h
leads (ins.Test k left right) at h = tt
leads ins.Otherwise at h = tt
leads (ins.Spawn p f parts) at h = tt
leads ins.Commit at h = tt

pub all_lead : (xs : List Op) (at : ℕ) → AreStraight xs → AllLeadBehind at xs
all_lead [] at h = tt
all_lead (o ∷ os) at h = (leads o at h.0, all_lead os (suc at) h.1)
