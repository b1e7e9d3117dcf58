-- How heavy a term is, and that a word tells it.
use Rattle.std.proofs.Common.{◌≡◌, ℕ, zero, suc, ◌+◌, ◌<◌, ◌≤◌, cond, Option, Some, None, refl, sym, ap, ◌∙◌, arith, inl, inr}
use Rattle.std.specs.Option.{option_and_then}
use Rattle.std.proofs.lemmas.Bool.{lt-ltb, le-ltb}
use Rattle.fcp_model.specs.Places.{Variable}
use Rattle.fcp_model.specs.Terms.{Term, number, string, nil, cons, tuple, var, ro, first, Terms, none, more}
use Rattle.fcp_model.specs.Expressions.{Expr, leaf, op}
use Rattle.heap_words.specs.Cells.{decoded}
use Rattle.heap_words.specs.Refers.{parts}
use Rattle.heap_words.specs.declared.cell.Cell.{Cell}
use Rattle.heap_words.specs.declared.cell.Cell.TheVariants.{Cons, Tuple, Raw}
use Rattle.word_states.specs.Words.{Words}
use Rattle.word_states.specs.Numbers.{part_count}
use Rattle.word_states.specs.Denoting.{Addresses, Denotes, DenotesAll, ExprSays, operator_code}

-- how many nodes a term has
abbrev mutual
  pub weight : Term Variable → ℕ
  weight (number z) = 1
  weight (string s) = 1
  weight nil = 1
  weight (cons t u) = 1 + (weight t + weight u)
  weight (tuple ts) = 1 + weights ts
  weight (var v) = 1
  weight (ro v) = 1
  weight (first k) = 1

  pub weights : Terms Variable → ℕ
  weights none = 0
  weights (more t ts) = weight t + weights ts

abbrev pub expr_weight : Expr Variable → ℕ
expr_weight (leaf t) = weight t
expr_weight (op o d e) = 1 + (expr_weight d + expr_weight e)

pub some_weight : (t : Term Variable) → 0 < weight t
some_weight (number z) = omega arith
some_weight (string s) = omega arith
some_weight nil = omega arith
some_weight (cons t u) = omega arith
some_weight (tuple ts) = omega arith
some_weight (var v) = omega arith
some_weight (ro v) = omega arith
some_weight (first k) = omega arith

pub some_expr_weight : (e : Expr Variable) → 0 < expr_weight e
some_expr_weight (leaf t) = some_weight t
some_expr_weight (op o d e) = omega arith

one_more : (c : ℕ) → suc c ≡ c + 1
one_more c = omega arith

two_more : (c : ℕ) → suc (suc c) ≡ c + 2
two_more c = omega arith

-- the sum over so many numbers from one on
abbrev run : (ℕ → ℕ) → ℕ → ℕ → ℕ
run f zero a = 0
run f (suc k) a = f a + run f k (suc a)

abbrev raw_of : Option Cell → ℕ
raw_of (Some (Raw n)) = n
raw_of _ = 0

abbrev step : (ℕ → ℕ) → (ℕ → ℕ) → Option Cell → ℕ
step at raw (Some (Cons c)) = 1 + (at c + at (suc c))
step at raw (Some (Tuple c)) = 1 + run at (parts (raw c)) (suc c)
step at raw _ = 1

abbrev at_word : (ℕ → ℕ) → Option ℕ → ℕ
at_word f None = 0
at_word f (Some y) = f y

module _ (w : Words) where
  abbrev raw_at : ℕ → ℕ
  raw_at c = raw_of (option_and_then decoded (w c))

  -- the number of nodes that are met in n steps from a word on
  abbrev measured : ℕ → ℕ → ℕ
  measured zero x = 0
  measured (suc n) x = step (λ a. at_word (measured n) (w a)) raw_at (decoded x)

  module _ (vs : Addresses) where
    mutual
      term_measured : (n x : ℕ) (t : Term Variable) → Denotes w vs x t → weight t ≤ n → measured n x ≡ weight t
      term_measured zero x t d h = let s = some_weight t in absurd (omega (arith, s, h))
      term_measured (suc n) x (number z) (inl d) h = ap (step (λ a. at_word (measured n) (w a)) raw_at) d
      term_measured (suc n) x (number z) (inr d) h = ap (step (λ a. at_word (measured n) (w a)) raw_at) d.3
      term_measured (suc n) x (string s) d h = ap (step (λ a. at_word (measured n) (w a)) raw_at) d
      term_measured (suc n) x nil d h = ap (step (λ a. at_word (measured n) (w a)) raw_at) d
      term_measured (suc n) x (cons t u) d h =
          ap (step (λ a. at_word (measured n) (w a)) raw_at) d.3
          ∙ (λ i. 1 + ((ap (at_word (measured n)) d.4 ∙ term_measured n d.1 t d.5 (omega arith)) i
          + (ap (at_word (measured n)) d.6 ∙ term_measured n d.2 u d.7 (omega arith)) i))
      term_measured (suc n) x (tuple ts) d h =
          ap (step (λ a. at_word (measured n) (w a)) raw_at) d.1
          ∙ ap (λ k. 1 + run (λ a. at_word (measured n) (w a)) k (suc d.0))
          (ap parts (ap (λ o. raw_of (option_and_then decoded o)) d.2.1 ∙ ap raw_of d.2.2)
          ∙ ap (λ b. cond b (part_count ts) 2) (lt-ltb (part_count ts) 66 d.3))
          ∙ ap suc' (parts_measured n (suc d.0) ts d.4 (omega arith))
        where
          suc' : ℕ → ℕ
          suc' k = 1 + k
      term_measured (suc n) x (var v) d h = ap (step (λ a. at_word (measured n) (w a)) raw_at) d.1
      term_measured (suc n) x (ro v) d h = ap (step (λ a. at_word (measured n) (w a)) raw_at) d.1
      term_measured (suc n) x (first k) d h = absurd d

      parts_measured : (n a : ℕ) (ts : Terms Variable) → DenotesAll w vs a ts → weights ts ≤ n
          → run (λ a. at_word (measured n) (w a)) (part_count ts) a ≡ weights ts
      parts_measured n a none d h = refl
      parts_measured n a (more t ts) d h =
          λ i. (ap (at_word (measured n)) d.1 ∙ term_measured n d.0 t d.2 (omega arith)) i + parts_measured n (suc a) ts d.3 (omega arith) i

    expr_measured : (n x : ℕ) (e : Expr Variable) → ExprSays w vs x e → expr_weight e ≤ n → measured n x ≡ expr_weight e
    expr_measured n x (leaf t) d h = term_measured n x t d h
    expr_measured zero x (op o l r) d h = absurd (omega arith)
    expr_measured (suc n) x (op o l r) d h =
        ap (step (λ a. at_word (measured n) (w a)) raw_at) d.3
        ∙ ap (λ k. 1 + run (λ a. at_word (measured n) (w a)) k (suc d.0))
        (ap parts (ap (λ o. raw_of (option_and_then decoded o)) d.4.1 ∙ ap raw_of d.4.2)
        ∙ ap (λ b. cond b (66 + operator_code o) 2) (le-ltb (66 + operator_code o) 66 (omega arith)))
        ∙ (let left : at_word (measured n) (w (suc d.0)) ≡ expr_weight l =
        ap (λ k. at_word (measured n) (w k)) (one_more d.0) ∙ ap (at_word (measured n)) d.5 ∙ expr_measured n d.1 l d.6 (omega arith) in
        let right : at_word (measured n) (w (suc (suc d.0))) ≡ expr_weight r =
        ap (λ k. at_word (measured n) (w k)) (two_more d.0) ∙ ap (at_word (measured n)) d.7 ∙ expr_measured n d.2 r d.8 (omega arith) in
        omega (arith, left, right))

    -- what a word says has one weight
    pub one_weight : (x : ℕ) (d e : Expr Variable) → ExprSays w vs x d → ExprSays w vs x e → expr_weight d ≡ expr_weight e
    one_weight x d e hd he =
        sym (expr_measured (expr_weight d + expr_weight e) x d hd (omega arith))
        ∙ expr_measured (expr_weight d + expr_weight e) x e he (omega arith)
