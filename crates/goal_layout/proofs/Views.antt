-- A word of an expression, by what it refers to.
use Rattle.std.proofs.Common.{◌≡◌, ℕ, suc, ◌+◌, ◌<◌, ◌≤◌, Bool, true, false, cond, Some, refl, sym, ap, subst, arith, ◌⊎◌, inl, inr, ⊎_elim}
use Rattle.std.specs.Prelude.{ℤ}
use Rattle.std.proofs.lemmas.Bool.{lt-ltb, le-ltb, cases_eq}
use Rattle.fcp_model.specs.Places.{Variable}
use Rattle.fcp_model.specs.Terms.{number, string, nil, cons, tuple, var, ro, first, Terms, none, more}
use Rattle.fcp_model.specs.Expressions.{Expr, leaf, op}
use Rattle.heap_words.specs.Cells.{decoded}
use Rattle.heap_words.specs.Refers.{parts}
use Rattle.heap_words.specs.declared.cell.Cell.{Cell}
use Rattle.heap_words.specs.declared.cell.Cell.TheVariants.{Ref, RoRef, Small, Wide, Str, Nil, Cons, Tuple, Raw}
use Rattle.word_states.specs.Words.{Words, At}
use Rattle.word_states.specs.Numbers.{part_count}
use Rattle.word_states.specs.Denoting.{Addresses, Listed, DenotesAll, ExprSays, operator_code}
use Rattle.goal_layout.proofs.Weights.{weight, weights, expr_weight}

-- a cell of a term that refers to nothing
abbrev pub is_constant : Cell → Bool
is_constant (Small z) = true
is_constant (Str s) = true
is_constant Nil = true
is_constant _ = false

module _ (w : Words) (vs : Addresses) where
  -- the word at an address says an expression that is lighter than m
  pub record Child (b m : ℕ) : Type 0 where
    pub word : ℕ
    pub stands : w b ≡ Some word
    pub expr : Expr Variable
    pub says : ExprSays w vs word expr
    pub lighter : expr_weight expr < m

  pub data View (x m : ℕ) : Type 0 where
    constant : (c : Cell) → decoded x ≡ Some c → is_constant c ≡ true → View x m
    wide : (a h : ℕ) (low : ℤ) → decoded x ≡ Some (Wide a h) → At w a (Small low) → View x m
    place : (a : ℕ) (v : Variable) → (decoded x ≡ Some (Ref a)) ⊎ (decoded x ≡ Some (RoRef a)) → Listed vs v a → View x m
    pair : (k : ℕ) → decoded x ≡ Some (Cons k) → Child k m → Child (suc k) m → View x m
    group : (k n : ℕ) → decoded x ≡ Some (Tuple k) → At w k (Raw n) → ((b : ℕ) → k < b → b ≤ k + parts n → Child b m) → View x m

  part_child : (a b : ℕ) (ts : Terms Variable) → DenotesAll w vs a ts → a ≤ b → b < a + part_count ts → Child b (1 + weights ts)
  part_child a b none d lo hi = absurd (omega arith)
  part_child a b (more t ts) d lo hi = go (cases_eq a b) (λ ne. part_child (suc a) b ts d.3 (omega (arith, ne)) (omega arith))
    where
      go : (a ≡ b) ⊎ (a ≡ b → ⊥) → ((a ≡ b → ⊥) → Child b (1 + weights ts)) → Child b (1 + (weight t + weights ts))
      go (inl e) f = record {
        word = d.0;
        stands = subst (λ k. w k ≡ Some d.0) e d.1;
        expr = leaf t;
        says = d.2;
        lighter = omega arith;
      }
      go (inr ne) f =
          let r = f ne in
          let l = r.lighter in
          record { word = r.word; stands = r.stands; expr = r.expr; says = r.says; lighter = omega (arith, l) }

  pub view : (x : ℕ) (e : Expr Variable) → ExprSays w vs x e → View x (expr_weight e)
  view x (leaf (number z)) (inl h) = constant (Small z) h refl
  view x (leaf (number z)) (inr h) = wide h.0 h.1 h.2 h.3 h.4
  view x (leaf (string s)) h = constant (Str (record { 0 = s })) h refl
  view x (leaf nil) h = constant Nil h refl
  view x (leaf (cons t u)) h = pair h.0 h.3
      (record { word = h.1; stands = h.4; expr = leaf t; says = h.5; lighter = omega arith })
      (record { word = h.2; stands = h.6; expr = leaf u; says = h.7; lighter = omega arith })
  view x (leaf (tuple ts)) h = group h.0 (part_count ts) h.1 h.2
      (λ b lo hi. part_child (suc h.0) b ts h.4 (omega arith)
      (omega (arith, ap (λ c. cond c (part_count ts) 2) (lt-ltb (part_count ts) 66 h.3))))
  view x (leaf (var v)) h = place h.0 v (inl h.1) h.2
  view x (leaf (ro v)) h = place h.0 v (inr h.1) h.2
  view x (leaf (first k)) h = absurd h
  view x (op o l r) h = group h.0 (66 + operator_code o) h.3 h.4 (λ b lo hi. ⊎_elim
      (λ e. record { word = h.1; stands = subst (λ k. w k ≡ Some h.1) (sym e) h.5; expr = l; says = h.6; lighter = omega arith })
      (λ ne. record {
        word = h.2;
        stands = subst (λ k. w k ≡ Some h.2)
            (omega (arith, lo, hi, ne, ap (λ c. cond c (66 + operator_code o) 2) (le-ltb (66 + operator_code o) 66 (omega arith)))) h.7;
        expr = r;
        says = h.8;
        lighter = omega arith;
      })
      (cases_eq b (h.0 + 1)))
