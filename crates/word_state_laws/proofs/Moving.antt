-- What words say goes on to be said where they are laid elsewhere.
use Rattle.std.proofs.Common.{◌≡◌, ℕ, suc, ◌+◌, ◌<◌, true, List, [], ◌∷◌, length, map, refl, sym, ap, ◌∙◌, subst, inl, inr, arith, Some}
use Rattle.std.proofs.lemmas.List.{length-map}
use Rattle.fcp_model.specs.Places.{Variable}
use Rattle.fcp_model.specs.Terms.{Term, number, string, nil, cons, tuple, var, ro, first, Terms, none, more, rename, renames}
use Rattle.fcp_model.specs.Expressions.{Expr, leaf, op, rename_expr}
use Rattle.fcp_model.specs.Programs.{Goal, user, true', unifies, assigns, rename_goal}
use Rattle.heap_words.specs.Cells.{decoded, is_final_word, is_final_cell}
use Rattle.heap_words.specs.Refers.{parts}
use Rattle.heap_words.specs.declared.cell.Cell.{Cell}
use Rattle.heap_words.specs.declared.cell.Cell.TheVariants.{Ref, RoRef, Small, Wide, Str, Nil, Cons, Tuple, Raw}
use Rattle.word_states.specs.Numbers.{part_count}
use Rattle.word_states.specs.Words.{Words, At}
use Rattle.word_states.specs.Denoting.{Addresses, Listed, Denotes, DenotesAll, Arguments, ExprSays, GoalSays, operator_code}
use Rattle.word_states.specs.Layouts.{moved_cell}
use Rattle.word_states.proofs.Persisting.{final_of, denotes_final, expr_final}

-- the word y is x, moved
abbrev pub Becomes : (ℕ → ℕ) → ℕ → ℕ → Type 0
Becomes f x y = (c : Cell) → decoded x ≡ Some c → decoded y ≡ Some (moved_cell f c)

-- so many words from a on go to those from b on, and may be followed
abbrev pub Row : (ℕ → ℕ) → (ℕ → Type 0) → Words → ℕ → ℕ → ℕ → Type 0
Row f ok w a b n = (i y : ℕ) → i < n → w (a + i) ≡ Some y → is_final_word y ≡ true → (f (a + i) ≡ b + i) × ok y

-- final words go where f says, and the pieces stay together
pub record Moves (f : ℕ → ℕ) (g : Variable → Variable) (ok : ℕ → Type 0) (w w' : Words) (vs us : Addresses) : Type 0 where
  pub carry : (a x : ℕ) → w a ≡ Some x → is_final_word x ≡ true → (y : ℕ) × (w' (f a) ≡ Some y) × Becomes f x y
  pub listed : (v : Variable) (a : ℕ) → Listed vs v a → Listed us (g v) (f a)
  pub ok_pair : (x c : ℕ) → ok x → decoded x ≡ Some (Cons c) → Row f ok w c (f c) 2
  pub ok_tuple : (x c n : ℕ) → ok x → decoded x ≡ Some (Tuple c) → At w c (Raw n) → Row f ok w (suc c) (suc (f c)) (parts n)

next_row : {ok : ℕ → Type 0} (f : ℕ → ℕ) (w : Words) (a b n : ℕ) → Row f ok w a b (suc n) → Row f ok w (suc a) (suc b) n
next_row {ok} f w a b n r i y lt e fin =
    let p : suc a + i ≡ a + suc i = omega arith in
    let q : b + suc i ≡ suc b + i = omega arith in
    let z = r (suc i) y (omega arith) (ap w (sym p) ∙ e) fin in
    (ap f p ∙ z.0 ∙ q, z.1)

row_here : {ok : ℕ → Type 0} (f : ℕ → ℕ) (w : Words) (a b n y : ℕ) → Row f ok w a b (suc n) → w a ≡ Some y → is_final_word y ≡ true
    → (f a ≡ b) × ok y
row_here {ok} f w a b n y r e fin =
    let p : a + 0 ≡ a = omega arith in
    let q : b + 0 ≡ b = omega arith in
    let z = r 0 y (omega arith) (ap w p ∙ e) fin in
    (ap f (sym p) ∙ z.0 ∙ q, z.1)

same_parts : (n : ℕ) → n < 66 → parts n ≡ n
same_parts n h = grind (arith)

parts_renamed : (g : Variable → Variable) (ts : Terms Variable) → part_count (renames g ts) ≡ part_count ts
parts_renamed g none = refl
parts_renamed g (more t ts) = ap suc (parts_renamed g ts)

-- how many arguments a goal has
abbrev pub arity : Goal Variable → ℕ
arity (user h ts) = length ts
arity true' = 0
arity (unifies t u) = 2
arity (assigns t e) = 2

module _ {f : ℕ → ℕ} {g : Variable → Variable} {ok : ℕ → Type 0} {w w' : Words} {vs us : Addresses} (m : Moves f g ok w w' vs us) where
  pub at_moved : (a : ℕ) (c : Cell) → At w a c → is_final_cell c ≡ true → At w' (f a) (moved_cell f c)
  at_moved a c h fin = let r = m.carry a h.0 h.1 (final_of h.0 c h.2 fin) in (r.0, r.1, r.2 c h.2)

  raw_moved : (a n : ℕ) → At w a (Raw n) → At w' (f a) (Raw n)
  raw_moved a n h = at_moved a (Raw n) h refl

  carried : (a b y : ℕ) → w a ≡ Some y → f a ≡ b → is_final_word y ≡ true → (z : ℕ) × (w' b ≡ Some z) × Becomes f y z
  carried a b y e here fin = let r = m.carry a y e fin in (r.0, ap w' (sym here) ∙ r.1, r.2)

  mutual
    pub denotes_moved : (x y : ℕ) (t : Term Variable) → ok x → Becomes f x y → Denotes w vs x t → Denotes w' us y (rename g t)
    denotes_moved x y (number z) o be (inl h) = inl (be (Small z) h)
    denotes_moved x y (number z) o be (inr h) = inr (f h.0, h.1, h.2, be (Wide h.0 h.1) h.3, at_moved h.0 (Small h.2) h.4 refl, h.5, h.6)
    denotes_moved x y (string s) o be h = be (Str (record { 0 = s })) h
    denotes_moved x y nil o be h = be Nil h
    denotes_moved x y (cons t u) o be h =
        let r = m.ok_pair x h.0 o h.3 in
        let p = row_here f w h.0 (f h.0) 1 h.1 r h.4 (denotes_final w vs h.1 t h.5) in
        let q = row_here f w (suc h.0) (suc (f h.0)) 0 h.2 (next_row f w h.0 (f h.0) 1 r) h.6 (denotes_final w vs h.2 u h.7) in
        let a = carried h.0 (f h.0) h.1 h.4 p.0 (denotes_final w vs h.1 t h.5) in
        let b = carried (suc h.0) (suc (f h.0)) h.2 h.6 q.0 (denotes_final w vs h.2 u h.7) in
        (f h.0, a.0, b.0, be (Cons h.0) h.3, a.1, denotes_moved h.1 a.0 t p.1 a.2 h.5, b.1, denotes_moved h.2 b.0 u q.1 b.2 h.7)
    denotes_moved x y (tuple ts) o be h =
        let r = m.ok_tuple x h.0 (part_count ts) o h.1 h.2 in (
          f h.0,
          be (Tuple h.0) h.1,
          subst (λ (n : ℕ). At w' (f h.0) (Raw n)) (sym (parts_renamed g ts)) (raw_moved h.0 (part_count ts) h.2),
          subst (λ (n : ℕ). n < 66) (sym (parts_renamed g ts)) h.3,
          all_moved (suc h.0) (suc (f h.0)) ts (subst (Row f ok w (suc h.0) (suc (f h.0))) (same_parts (part_count ts) h.3) r) h.4,
        )
    denotes_moved x y (var v) o be h = (f h.0, be (Ref h.0) h.1, m.listed v h.0 h.2)
    denotes_moved x y (ro v) o be h = (f h.0, be (RoRef h.0) h.1, m.listed v h.0 h.2)
    denotes_moved x y (first k) o be h = absurd h

    all_moved : (a b : ℕ) (ts : Terms Variable) → Row f ok w a b (part_count ts) → DenotesAll w vs a ts → DenotesAll w' us b (renames g ts)
    all_moved a b none r h = tt
    all_moved a b (more t ts) r h =
        let p = row_here f w a b (part_count ts) h.0 r h.1 (denotes_final w vs h.0 t h.2) in
        let c = carried a b h.0 h.1 p.0 (denotes_final w vs h.0 t h.2) in
        (c.0, c.1, denotes_moved h.0 c.0 t p.1 c.2 h.2, all_moved (suc a) (suc b) ts (next_row f w a b (part_count ts) r) h.3)

  arguments_moved : (a b : ℕ) (ts : List (Term Variable)) → Row f ok w a b (length ts) → Arguments w vs a ts
      → Arguments w' us b (map (rename g) ts)
  arguments_moved a b [] r h = tt
  arguments_moved a b (t ∷ ts) r h =
      let p = row_here f w a b (length ts) h.0 r h.1 (denotes_final w vs h.0 t h.2) in
      let c = carried a b h.0 h.1 p.0 (denotes_final w vs h.0 t h.2) in
      (c.0, c.1, denotes_moved h.0 c.0 t p.1 c.2 h.2, arguments_moved (suc a) (suc b) ts (next_row f w a b (length ts) r) h.3)

  expr_moved : (x y : ℕ) (e : Expr Variable) → ok x → Becomes f x y → ExprSays w vs x e → ExprSays w' us y (rename_expr g e)
  expr_moved x y (leaf t) o be h = denotes_moved x y t o be h
  expr_moved x y (op z d e) o be h =
      let two : parts (66 + operator_code z) ≡ 2 = operands z in
      let r : Row f ok w (suc h.0) (suc (f h.0)) 2 = subst (Row f ok w (suc h.0) (suc (f h.0))) two
      (m.ok_tuple x h.0 (66 + operator_code z) o h.3 h.4) in
      let e1 : h.0 + 1 ≡ suc h.0 = omega arith in
      let e2 : h.0 + 2 ≡ suc (suc h.0) = omega arith in
      let f1 : suc (f h.0) ≡ f h.0 + 1 = omega arith in
      let f2 : suc (suc (f h.0)) ≡ f h.0 + 2 = omega arith in
      let p = row_here f w (suc h.0) (suc (f h.0)) 1 h.1 r (ap w (sym e1) ∙ h.5) (expr_final w vs h.1 d h.6) in
      let q = row_here f w (suc (suc h.0)) (suc (suc (f h.0))) 0 h.2 (next_row f w (suc h.0) (suc (f h.0)) 1 r) (ap w (sym e2)
      ∙ h.7) (expr_final w vs h.2 e h.8) in
      let a = carried (h.0 + 1) (f h.0 + 1) h.1 h.5 (ap f e1 ∙ p.0 ∙ f1) (expr_final w vs h.1 d h.6) in
      let b = carried (h.0 + 2) (f h.0 + 2) h.2 h.7 (ap f e2 ∙ q.0 ∙ f2) (expr_final w vs h.2 e h.8) in (
        f h.0,
        a.0,
        b.0,
        be (Tuple h.0) h.3,
        raw_moved h.0 (66 + operator_code z) h.4,
        a.1,
        expr_moved h.1 a.0 d p.1 a.2 h.6,
        b.1,
        expr_moved h.2 b.0 e q.1 b.2 h.8,
      )
    where
      operands : (z : _) → parts (66 + operator_code z) ≡ 2
      operands z = grind (arith)

  pub goal_moved : (p q : ℕ) (h : Goal Variable) → Row f ok w p q (4 + arity h) → GoalSays w vs p h → GoalSays w' us q (rename_goal g h)
  goal_moved p q (user h ts) r s = (
    raw_at 2 h (omega arith) s.0,
    raw_at 3 _ (omega arith) (subst (λ (n : ℕ). At w (p + 3) (Raw n)) (sym (length-map ts (rename g))) s.1),
    arguments_moved (p + 4) (q + 4) ts (from_four r) s.2,
    s.3,
  )
    where
      from_four : Row f ok w p q (4 + length ts) → Row f ok w (p + 4) (q + 4) (length ts)
      from_four r i y lt e fin =
          let a : p + 4 + i ≡ p + (4 + i) = omega arith in
          let b : q + (4 + i) ≡ q + 4 + i = omega arith in
          let z = r (4 + i) y (omega arith) (ap w (sym a) ∙ e) fin in (ap f a ∙ z.0 ∙ b, z.1)

      raw_at : (k n : ℕ) → k < 4 + length ts → At w (p + k) (Raw n) → At w' (q + k) (Raw n)
      raw_at k n lt h =
          let z = r k h.0 lt h.1 (final_of h.0 (Raw n) h.2 refl) in subst (λ (a : ℕ). At w' a (Raw n)) z.0 (raw_moved (p + k) n h)
  goal_moved p q true' r s = (raw_at 2 _ (omega arith) s.0, raw_at 3 0 (omega arith) s.1)
    where
      raw_at : (k n : ℕ) → k < 4 → At w (p + k) (Raw n) → At w' (q + k) (Raw n)
      raw_at k n lt h =
          let z = r k h.0 lt h.1 (final_of h.0 (Raw n) h.2 refl) in subst (λ (a : ℕ). At w' a (Raw n)) z.0 (raw_moved (p + k) n h)
  goal_moved p q (unifies t u) r s =
      (raw_at 2 _ (omega arith) s.0, raw_at 3 2 (omega arith) s.1, arguments_moved (p + 4) (q + 4) (t ∷ u ∷ []) from_four s.2)
    where
      from_four : Row f ok w (p + 4) (q + 4) 2
      from_four i y lt e fin =
          let a : p + 4 + i ≡ p + (4 + i) = omega arith in
          let b : q + (4 + i) ≡ q + 4 + i = omega arith in
          let z = r (4 + i) y (omega arith) (ap w (sym a) ∙ e) fin in (ap f a ∙ z.0 ∙ b, z.1)

      raw_at : (k n : ℕ) → k < 6 → At w (p + k) (Raw n) → At w' (q + k) (Raw n)
      raw_at k n lt h =
          let z = r k h.0 lt h.1 (final_of h.0 (Raw n) h.2 refl) in subst (λ (a : ℕ). At w' a (Raw n)) z.0 (raw_moved (p + k) n h)
  goal_moved p q (assigns t e) r s =
      let i = r 4 s.2.0 (omega arith) s.2.2 (denotes_final w vs s.2.0 t s.2.3) in
      let j = r 5 s.2.1 (omega arith) s.2.4 (expr_final w vs s.2.1 e s.2.5) in
      let a = carried (p + 4) (q + 4) s.2.0 s.2.2 i.0 (denotes_final w vs s.2.0 t s.2.3) in
      let b = carried (p + 5) (q + 5) s.2.1 s.2.4 j.0 (expr_final w vs s.2.1 e s.2.5) in (
        raw_at 2 _ (omega arith) s.0,
        raw_at 3 2 (omega arith) s.1,
        (
          a.0,
          b.0,
          a.1,
          denotes_moved s.2.0 a.0 t i.1 a.2 s.2.3,
          b.1,
          expr_moved s.2.1 b.0 e j.1 b.2 s.2.5,
        ),
      )
    where
      raw_at : (k n : ℕ) → k < 6 → At w (p + k) (Raw n) → At w' (q + k) (Raw n)
      raw_at k n lt h =
          let z = r k h.0 lt h.1 (final_of h.0 (Raw n) h.2 refl) in subst (λ (a : ℕ). At w' a (Raw n)) z.0 (raw_moved (p + k) n h)
