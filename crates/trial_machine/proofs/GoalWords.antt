-- What was read of a process says which goals it can have.
use Rattle.std.proofs.Common.{◌≡◌, ℕ, zero, suc, ◌+◌, ◌<◌, ◌≤◌, List, [], ◌∷◌, length, refl, sym, ap}
use Rattle.std.proofs.Common.{◌∙◌, subst, arith, inl, inr, Option, Some, None}
use Rattle.std.specs.Prelude.{slice_get, unwrap_or}
use Rattle.std.proofs.lemmas.Option.{same_Some}
use Rattle.fcp_model.specs.Places.{Variable}
use Rattle.fcp_model.specs.Terms.{Term, Bindings}
use Rattle.fcp_model.specs.Expressions.{Expr, leaf, op}
use Rattle.fcp_model.specs.Programs.{Goal, user, true', unifies, assigns}
use Rattle.fcp_model.specs.declared.goal.TheConstants.{TRUE_PROCEDURE, UNIFY_PROCEDURE, ASSIGN_PROCEDURE}
use Rattle.heap_words.specs.Cells.{decoded}
use Rattle.heap_words.specs.Trails.{WordList, word_at}
use Rattle.heap_words.specs.declared.cell.Cell.{Cell}
use Rattle.heap_words.specs.declared.cell.Cell.TheVariants.{Raw, Tuple}
use Rattle.word_states.specs.Words.{Words, At}
use Rattle.word_states.specs.Denoting.{Addresses, Denotes, Arguments, ExprSays, GoalSays}
use Rattle.word_states.specs.Trials.{IsTried}
use Rattle.trial_laws.specs.Leading.{IsTermWord}
use Rattle.trial_laws.proofs.LedPieces.{term_of_cell}
use Rattle.trial_laws.proofs.Slots.{raw_term}
use Rattle.word_states.proofs.Persisting.{denotes_final}
use Rattle.trial_machine.specs.Goals.{KeptNumber, NoGoal, HasArguments}

-- words that say something are words of terms or of operations
pub expr_term : (w : Words) (vs : Addresses) (x : ℕ) (u : Expr Variable) → ExprSays w vs x u → IsTermWord x
expr_term w vs x (leaf u) h = (denotes_final w vs x u h, (λ n e. raw_term w vs x u n e h))
expr_term w vs x (op o a b) h = term_of_cell x (Tuple h.0) h.3 refl (λ n e. let g : Tuple h.0 ≡ Raw n = e in cc)

-- a goal names a procedure and a number of arguments
pub goal_name : (w : Words) (vs : Addresses) (p : ℕ) (g : Goal Variable) → GoalSays w vs p g → (f : ℕ) × At w (p + 2) (Raw f)
goal_name w vs p (user f ts) h = (f, h.0)
goal_name w vs p true' h = (TRUE_PROCEDURE, h.0)
goal_name w vs p (unifies t u) h = (UNIFY_PROCEDURE, h.0)
goal_name w vs p (assigns t e) h = (ASSIGN_PROCEDURE, h.0)

pub goal_count : (w : Words) (vs : Addresses) (p : ℕ) (g : Goal Variable) → GoalSays w vs p g → (n : ℕ) × At w (p + 3) (Raw n)
goal_count w vs p (user f ts) h = (length ts, h.1)
goal_count w vs p true' h = (0, h.1)
goal_count w vs p (unifies t u) h = (2, h.1)
goal_count w vs p (assigns t e) h = (2, h.1)

-- the word that was kept is the one that stands there
pub kept_cell : (kept : WordList) (p : ℕ) (w : Words) (vs : Addresses) (bound : Bindings) (g : Goal Variable) → IsTried kept p w vs bound g
    → (a x : ℕ) (c : Cell) → word_at kept a ≡ Some x → At w a c → decoded x ≡ Some c
kept_cell kept p w vs bound g t a x c e h =
    let k : x ≡ h.0 = same_Some x h.0 (sym (t.has a x e) ∙ h.1) in ap decoded k ∙ h.2

pub same_number : (kept : WordList) (p : ℕ) (w : Words) (vs : Addresses) (bound : Bindings) (g : Goal Variable)
    → IsTried kept p w vs bound g → (a n m : ℕ) → KeptNumber kept a n → At w a (Raw m) → m ≡ n
same_number kept p w vs bound g t a n m k h =
    let e : Some (Raw m) ≡ Some (Raw n) = sym (kept_cell kept p w vs bound g t a k.0 (Raw m) k.1 h) ∙ k.2 in cc

-- the argument of a number
pub argument_word : (w : Words) (vs : Addresses) (a : ℕ) (ts : List (Term Variable)) (i : ℕ) → i < length ts → Arguments w vs a ts
    → (y : ℕ) × (t : Term Variable) × (w (a + i) ≡ Some y) × Denotes w vs y t × (slice_get ts i ≡ Some t)
argument_word w vs a [] i l h = absurd (omega arith)
argument_word w vs a (t ∷ ts) zero l h = (h.0, t, ap w (plus a) ∙ h.1, h.2, refl)
  where
    plus : (a : ℕ) → a + 0 ≡ a
    plus a = omega arith
argument_word w vs a (t ∷ ts) (suc i) l h =
    let r = argument_word w vs (suc a) ts i (omega arith) h.3 in
    (r.0, r.1, ap w (further a i) ∙ r.2, r.3, r.4)
  where
    further : (a i : ℕ) → a + suc i ≡ suc a + i
    further a i = omega arith

-- the same word is that of one number
one_number : (w : Words) (a n m : ℕ) → At w a (Raw n) → At w a (Raw m) → n ≡ m
one_number w a n m h k =
    let e : h.0 ≡ k.0 = same_Some h.0 k.0 (sym h.1 ∙ k.1) in
    let f : Some (Raw n) ≡ Some (Raw m) = sym h.2 ∙ (ap decoded e ∙ k.2) in cc

-- each argument is a word that says something
pub goal_argument : (w : Words) (vs : Addresses) (p : ℕ) (g : Goal Variable) (i n : ℕ) → GoalSays w vs p g → At w (p + 3) (Raw n) → i < n
    → (y : ℕ) × (u : Expr Variable) × (w (p + 4 + i) ≡ Some y) × ExprSays w vs y u
goal_argument w vs p (user f ts) i n h c l =
    let k : length ts ≡ n = one_number w (p + 3) (length ts) n h.1 c in
    let r = argument_word w vs (p + 4) ts i (omega arith) h.2 in
    (r.0, leaf r.1, r.2, r.3)
goal_argument w vs p true' i n h c l = let k : 0 ≡ n = one_number w (p + 3) 0 n h.1 c in absurd (omega arith)
goal_argument w vs p (unifies t u) i n h c l =
    let k : 2 ≡ n = one_number w (p + 3) 2 n h.1 c in
    let r = argument_word w vs (p + 4) (t ∷ u ∷ []) i (omega arith) h.2 in
    (r.0, leaf r.1, r.2, r.3)
goal_argument w vs p (assigns t e) zero n h c l =
    let q : p + 4 + 0 ≡ p + 4 = omega arith in
    (h.2.0, leaf t, ap w q ∙ h.2.2, h.2.3)
goal_argument w vs p (assigns t e) (suc zero) n h c l =
    let q : p + 4 + 1 ≡ p + 5 = omega arith in
    (h.2.1, e, ap w q ∙ h.2.4, h.2.5)
goal_argument w vs p (assigns t e) (suc (suc i)) n h c l = let k : 2 ≡ n = one_number w (p + 3) 2 n h.1 c in absurd (omega arith)

-- a word that is none of a term's, where an argument is to stand, leaves no goal
pub no_argument : (kept : WordList) (p i n x : ℕ) → HasArguments kept p n → i < n → word_at kept (p + 4 + i) ≡ Some x
    → (IsTermWord x → ⊥) → NoGoal kept p
no_argument kept p i n x has l e none_term w vs bound g t =
    let m = goal_count w vs p g t.goal in
    let same : m.0 ≡ has.0 = same_number kept p w vs bound g t (p + 3) has.0 m.0 has.1 m.1 in
    let below = has.2 in
    let r = goal_argument w vs p g i m.0 t.goal m.1 (omega arith) in
    let k : r.0 ≡ x = same_Some r.0 x (sym r.2 ∙ t.has (p + 4 + i) x e) in
    none_term (subst IsTermWord k (expr_term w vs r.0 r.1 r.3))
