-- A term and an expression whose terminals are bounded are within the limits.
use Rattle.std.proofs.Common.{◌≡◌, ◌≤◌, ◌<◌, ◌+◌, ℕ, suc, List, [], ◌∷◌, ◌++◌, length, map, Bool, true, false, refl, ◌∙◌, arith, length-append, nat_le, nat_lt}
use Rattle.std.specs.List.{list_all}
use Rattle.std.proofs.lemmas.Bool.{and_parts, and_from, or_parts, le-leb, leb-false, ltb-false}
use Rattle.std.proofs.lemmas.List.{length-map}
use Rattle.fcp_model.specs.declared.names.Sym.{Sym}
use Rattle.fcp_model.specs.declared.term.Term.{Term}
use Rattle.fcp_model.specs.declared.term.Term.TheVariants as T
use Rattle.fcp_model.proofs.Folds.{fold-Int, fold-Str, fold-Nil, fold-Cons, fold-Tuple, fold-Var, fold-Ro, fold-Leaf, fold-Op}
use Rattle.fcp_grammar.specs.declared.terminals.StringForm.{StringForm}
use Rattle.fcp_grammar.specs.declared.terminals.Terminal.TheVariants as terminal
use Rattle.fcp_grammar.specs.Values.{listed, tuple_of, over}
use Rattle.fcp_grammar.specs.Grammar.{Marked, Tree, Trees, int, call, name_alone, with_arguments, variable, read_only, nil, list, list_rest, braces, none, and, first_of, value, values, plain, over_if, spell, spells}
use Rattle.fcp_grammar.specs.ExpressionGrammar.{SumSign, ProductSign, add, sub, mul, div, rem, Factor, Product, Sum, leaf, group, one, times, only, plus, sum_terminal, sum_op, product_terminal, product_op, factor_value, product_value, sum_value, more, over_operators, product_ops, sum_ops, spell_factor, spell_product, spell_sum}
use Rattle.fcp_terminals.specs.declared.variables.Form.{Form}
use Rattle.fcp_reader.specs.Limits.{is_variable_within, term_step, is_term_within, expr_step, is_expr_within, are_args_within}
use Rattle.fcp_reader.proofs.Bounded.{Bounded, Shown}

-- ---- lists

-- one more element
pub all-more : {X : Type 0} (p : X → Bool) (xs : List X) (x : X) → list_all p xs ≡ true → p x ≡ true → list_all p (xs ++ x ∷ []) ≡ true
all-more p [] x h e = and_from (p x) true e refl
all-more p (y ∷ ys) x h e =
    let q : (p y ≡ true) × (list_all p ys ≡ true) = and_parts (p y) (list_all p ys) h in
    and_from (p y) (list_all p (ys ++ x ∷ [])) q.0 (all-more p ys x q.1 e)

all-map : (p : Term → Bool) (ts : List Term) → list_all p ts ≡ true → list_all (λ (b : Bool). b) (map p ts) ≡ true
all-map p [] h = refl
all-map p (t ∷ ts) h =
    let q : (p t ≡ true) × (list_all p ts ≡ true) = and_parts (p t) (list_all p ts) h in
    and_from (p t) (list_all (λ (b : Bool). b) (map p ts)) q.0 (all-map p ts q.1)

few-more : (ts : List Term) (t : Term) → over ts ≡ false → length (ts ++ t ∷ []) ≤ 64
few-more ts t o =
    let below : length ts < 64 = leb-false 64 (length ts) o in
    let long : length (ts ++ t ∷ []) ≡ length ts + 1 = length-append ts (t ∷ []) in
    omega arith

-- ---- values

module _ (v : ℕ) where
  within-Var : (k : ℕ) → 1 ≤ k → k ≤ v → is_variable_within v k ≡ true
  within-Var k a b = and_from (nat_le 1 k) (nat_le k v) (le-leb 1 k a) (le-leb k v b)

  within-Tuple : (ts : List Term) → length ts ≤ 65 → list_all (is_term_within v) ts ≡ true → is_term_within v (T.Tuple ts) ≡ true
  within-Tuple ts few h =
      let same : length (map (is_term_within v) ts) ≡ length ts = length-map ts (is_term_within v) in
      let fewer : length (map (is_term_within v) ts) ≤ 65 = omega arith in
      fold-Tuple Bool (term_step v) ts
      ∙ and_from (nat_le (length (map (is_term_within v) ts)) 65) (list_all (λ (b : Bool). b) (map (is_term_within v) ts))
      (le-leb (length (map (is_term_within v) ts)) 65 fewer) (all-map (is_term_within v) ts h)

  within-listed : (ts : List Term) (rest : Term) → list_all (is_term_within v) ts ≡ true → is_term_within v rest ≡ true
      → is_term_within v (listed ts rest) ≡ true
  within-listed [] rest h e = e
  within-listed (t ∷ ts) rest h e =
      let q : (is_term_within v t ≡ true) × (list_all (is_term_within v) ts ≡ true) =
      and_parts (is_term_within v t) (list_all (is_term_within v) ts) h in
      fold-Cons Bool (term_step v) t (listed ts rest)
      ∙ and_from (is_term_within v t) (is_term_within v (listed ts rest)) q.0 (within-listed ts rest q.1 e)

  -- arguments, of which the last is not one too many
  pub within-args : (ts : List Term) (t : Term) → over ts ≡ false → list_all (is_term_within v) ts ≡ true → is_term_within v t ≡ true
      → are_args_within v (ts ++ t ∷ []) ≡ true
  within-args ts t o h e =
      and_from (nat_le (length (ts ++ t ∷ [])) 64) (list_all (is_term_within v) (ts ++ t ∷ []))
      (le-leb (length (ts ++ t ∷ [])) 64 (few-more ts t o)) (all-more (is_term_within v) ts t h e)

  within-braces : (ts : List Term) (t : Term) → over ts ≡ false → list_all (is_term_within v) ts ≡ true → is_term_within v t ≡ true
      → is_term_within v (T.Tuple (ts ++ t ∷ [])) ≡ true
  within-braces ts t o h e =
      let few : length (ts ++ t ∷ []) ≤ 64 = few-more ts t o in
      let fewer : length (ts ++ t ∷ []) ≤ 65 = omega arith in
      within-Tuple (ts ++ t ∷ []) fewer (all-more (is_term_within v) ts t h e)

  within-call : (s : Sym) (ts : List Term) (t : Term) → over ts ≡ false → list_all (is_term_within v) ts ≡ true → is_term_within v t ≡ true
      → is_term_within v (tuple_of s (ts ++ t ∷ [])) ≡ true
  within-call s ts t o h e =
      let few : length (ts ++ t ∷ []) ≤ 64 = few-more ts t o in
      let fewer : suc (length (ts ++ t ∷ [])) ≤ 65 = omega arith in
      within-Tuple (T.Str s ∷ (ts ++ t ∷ [])) fewer
      (and_from (is_term_within v (T.Str s)) (list_all (is_term_within v) (ts ++ t ∷ [])) (fold-Str Bool (term_step v) s)
      (all-more (is_term_within v) ts t h e))

-- ---- terms

module _ (f : Form) (n v b : ℕ) where
  mutual
    pub show-tree : (m : Bool) (t : Tree) (rest : List Marked) → Bounded f n v b (spell m t rest)
        → Shown f n v b m (is_term_within v (value t)) rest
    show-tree m (int k at) rest h = record { small = h.0; within = fold-Int Bool (term_step v) k; behind = h.1 }
    show-tree m (call (name_alone s form at)) rest h = record { small = h.0; within = fold-Str Bool (term_step v) s; behind = h.1 }
    show-tree m (call (with_arguments s form at o ts t)) rest h =
        let front : (list_all (is_term_within v) (values ts) ≡ true)
        × Bounded f n v b (spell (over (values ts)) t (plain terminal.RoundClose ∷ rest))
        = show-trees true ts (spell (over (values ts)) t (plain terminal.RoundClose ∷ rest)) h.1.1 in
        let last : Shown f n v b (over (values ts)) (is_term_within v (value t)) (plain terminal.RoundClose ∷ rest) =
        show-tree (over (values ts)) t (plain terminal.RoundClose ∷ rest) front.1 in
        record { small = h.0; within = within-call v s (values ts) (value t) last.small front.0 last.within; behind = last.behind.1 }
    show-tree m (variable k at) rest h =
        let small : (m ≡ false) × (nat_lt 250 k ≡ false) = or_parts m (nat_lt 250 k) h.0 in
        record {
          small = small.0;
          within = fold-Var Bool (term_step v) k ∙ within-Var v k h.1 (h.2 (ltb-false 250 k small.1));
          behind = h.3;
        }
    show-tree m (read_only k at) rest h =
        let small : (m ≡ false) × (nat_lt 250 k ≡ false) = or_parts m (nat_lt 250 k) h.0 in
        record {
          small = small.0;
          within = fold-Ro Bool (term_step v) k ∙ within-Var v k h.1 (h.2 (ltb-false 250 k small.1));
          behind = h.3.1;
        }
    show-tree m (nil at) rest h = record { small = h.0; within = fold-Nil Bool (term_step v); behind = h.1.1 }
    show-tree m (list at ts t) rest h =
        let front : (list_all (is_term_within v) (values ts) ≡ true) × Bounded f n v b (spell false t (plain terminal.SquareClose ∷ rest))
        = show-trees false ts (spell false t (plain terminal.SquareClose ∷ rest)) h.1 in
        let last : Shown f n v b false (is_term_within v (value t)) (plain terminal.SquareClose ∷ rest) =
        show-tree false t (plain terminal.SquareClose ∷ rest) front.1 in
        record {
          small = h.0;
          within =
              within-listed v (values ts ++ value t ∷ []) T.Nil (all-more (is_term_within v) (values ts) (value t) front.0 last.within)
              (fold-Nil Bool (term_step v));
          behind = last.behind.1;
        }
    show-tree m (list_rest at ts t u) rest h =
        let behind : List Marked = plain terminal.Bar ∷ spell false u (plain terminal.SquareClose ∷ rest) in
        let front : (list_all (is_term_within v) (values ts) ≡ true) × Bounded f n v b (spell false t behind) =
        show-trees false ts (spell false t behind) h.1 in
        let last : Shown f n v b false (is_term_within v (value t)) behind = show-tree false t behind front.1 in
        let end : Shown f n v b false (is_term_within v (value u)) (plain terminal.SquareClose ∷ rest) =
        show-tree false u (plain terminal.SquareClose ∷ rest) last.behind.1 in
        record {
          small = h.0;
          within =
              within-listed v (values ts ++ value t ∷ []) (value u)
              (all-more (is_term_within v) (values ts) (value t) front.0 last.within) end.within;
          behind = end.behind.1;
        }
    show-tree m (braces at ts t) rest h =
        let front : (list_all (is_term_within v) (values ts) ≡ true)
        × Bounded f n v b (spell (over (values ts)) t (plain terminal.CurlyClose ∷ rest))
        = show-trees true ts (spell (over (values ts)) t (plain terminal.CurlyClose ∷ rest)) h.1 in
        let last : Shown f n v b (over (values ts)) (is_term_within v (value t)) (plain terminal.CurlyClose ∷ rest) =
        show-tree (over (values ts)) t (plain terminal.CurlyClose ∷ rest) front.1 in
        record { small = h.0; within = within-braces v (values ts) (value t) last.small front.0 last.within; behind = last.behind.1 }

    pub show-trees : (counted : Bool) (ts : Trees) (rest : List Marked) → Bounded f n v b (spells counted ts rest)
        → (list_all (is_term_within v) (values ts) ≡ true) × Bounded f n v b rest
    show-trees counted none rest h = (refl, h)
    show-trees counted (and ts t) rest h =
        let front : (list_all (is_term_within v) (values ts) ≡ true)
        × Bounded f n v b (spell (over_if counted ts) t (plain terminal.Comma ∷ rest))
        = show-trees counted ts (spell (over_if counted ts) t (plain terminal.Comma ∷ rest)) h in
        let last : Shown f n v b (over_if counted ts) (is_term_within v (value t)) (plain terminal.Comma ∷ rest) =
        show-tree (over_if counted ts) t (plain terminal.Comma ∷ rest) front.1 in
        (all-more (is_term_within v) (values ts) (value t) front.0 last.within, last.behind.1)

  -- a string with arguments, where these are wanted by themselves
  pub show-call : (m : Bool) (s : Sym) (form : StringForm) (at o : ℕ) (ts : Trees) (t : Tree) (rest : List Marked)
      → Bounded f n v b (spell m (call (with_arguments s form at o ts t)) rest)
      → Shown f n v b m (are_args_within v (values ts ++ value t ∷ [])) rest
  show-call m s form at o ts t rest h =
      let front : (list_all (is_term_within v) (values ts) ≡ true)
      × Bounded f n v b (spell (over (values ts)) t (plain terminal.RoundClose ∷ rest))
      = show-trees true ts (spell (over (values ts)) t (plain terminal.RoundClose ∷ rest)) h.1.1 in
      let last : Shown f n v b (over (values ts)) (is_term_within v (value t)) (plain terminal.RoundClose ∷ rest) =
      show-tree (over (values ts)) t (plain terminal.RoundClose ∷ rest) front.1 in
      record { small = h.0; within = within-args v (values ts) (value t) last.small front.0 last.within; behind = last.behind.1 }

  -- ---- expressions

  behind-sum_terminal : (sign : SumSign) (m : Bool) (rest : List Marked) → Bounded f n v b ((sum_terminal sign, m) ∷ rest)
      → Bounded f n v b rest
  behind-sum_terminal (add at) m rest h = h.1
  behind-sum_terminal (sub at) m rest h = h.1

  behind-product_terminal : (sign : ProductSign) (m : Bool) (rest : List Marked) → Bounded f n v b ((product_terminal sign, m) ∷ rest)
      → Bounded f n v b rest
  behind-product_terminal (mul at) m rest h = h.1
  behind-product_terminal (div at) m rest h = h.1
  behind-product_terminal (rem s at) m rest h = h.1

  mutual
    show-factor : (m : Bool) (k : ℕ) (e : Factor) (rest : List Marked) → Bounded f n v b (spell_factor m k e rest)
        → Shown f n v b m (is_expr_within v (factor_value e)) rest
    show-factor m k (leaf t) rest h =
        let r : Shown f n v b m (is_term_within v (value t)) rest = show-tree m t rest h in
        record { small = r.small; within = fold-Leaf Bool (expr_step v) (value t) (first_of t) ∙ r.within; behind = r.behind }
    show-factor m k (group o e) rest h =
        let r : Shown f n v b false (is_expr_within v (sum_value e)) (plain terminal.RoundClose ∷ rest) =
        show-sum false k e (plain terminal.RoundClose ∷ rest) h.1 in
        record { small = h.0; within = r.within; behind = r.behind.1 }

    show-product : (m : Bool) (k : ℕ) (e : Product) (rest : List Marked) → Bounded f n v b (spell_product m k e rest)
        → Shown f n v b m (is_expr_within v (product_value e)) rest
    show-product m k (one e) rest h = show-factor m k e rest h
    show-product m k (times p sign e) rest h =
        let right : List Marked = spell_factor false (more (product_ops k p)) e rest in
        let front : Shown f n v b m (is_expr_within v (product_value p))
        ((product_terminal sign, over_operators (product_ops k p)) ∷ right) = show-product m k p
        ((product_terminal sign, over_operators (product_ops k p)) ∷ right) h in
        let last : Shown f n v b false (is_expr_within v (factor_value e)) rest
        = show-factor false (more (product_ops k p)) e rest
        (behind-product_terminal sign (over_operators (product_ops k p)) right front.behind) in
        record {
          small = front.small;
          within = fold-Op Bool (expr_step v) (product_op sign) (product_value p) (factor_value e)
              ∙ and_from (is_expr_within v (product_value p)) (is_expr_within v (factor_value e)) front.within last.within;
          behind = last.behind;
        }

    pub show-sum : (m : Bool) (k : ℕ) (e : Sum) (rest : List Marked) → Bounded f n v b (spell_sum m k e rest)
        → Shown f n v b m (is_expr_within v (sum_value e)) rest
    show-sum m k (only p) rest h = show-product m k p rest h
    show-sum m k (plus e sign p) rest h =
        let right : List Marked = spell_product false (more (sum_ops k e)) p rest in
        let front : Shown f n v b m (is_expr_within v (sum_value e)) ((sum_terminal sign, over_operators (sum_ops k e)) ∷ right) =
        show-sum m k e ((sum_terminal sign, over_operators (sum_ops k e)) ∷ right) h in
        let last : Shown f n v b false (is_expr_within v (product_value p)) rest
        = show-product false (more (sum_ops k e)) p rest (behind-sum_terminal sign (over_operators (sum_ops k e)) right front.behind) in
        record {
          small = front.small;
          within = fold-Op Bool (expr_step v) (sum_op sign) (sum_value e) (product_value p)
              ∙ and_from (is_expr_within v (sum_value e)) (is_expr_within v (product_value p)) front.within last.within;
          behind = last.behind;
        }
