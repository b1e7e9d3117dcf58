-- A word denotes one term at most, says one expression, and a process has one goal.
use Rattle.std.proofs.Common.{◌≡◌, ℕ, suc, ◌+◌, ◌*◌, ◌<◌, List, [], ◌∷◌, length, refl, sym, ap, ap₂, ◌∙◌, subst}
use Rattle.std.proofs.Common.{inl, inr, arith, true≢false, Option, Some}
use Rattle.std.specs.Prelude.{ℤ, pos, negsuc, nat_eq}
use Rattle.std.proofs.lemmas.Option.{same_Some}
use Rattle.fcp_model.specs.declared.term.ArithOp.{ArithOp}
use Rattle.fcp_model.specs.declared.term.ArithOp.TheVariants.{Add, Sub, Mul, Div, Mod}
use Rattle.fcp_model.specs.declared.goal.TheConstants.{TRUE_PROCEDURE, UNIFY_PROCEDURE, ASSIGN_PROCEDURE}
use Rattle.fcp_model.specs.Places.{Variable}
use Rattle.fcp_model.specs.Terms.{Term, number, string, nil, cons, tuple, var, ro, first, Terms, none, more}
use Rattle.fcp_model.specs.Expressions.{Expr, leaf, op}
use Rattle.fcp_model.specs.Programs.{Goal, user, true', unifies, assigns}
use Rattle.heap_words.specs.Cells.{decoded}
use Rattle.heap_words.specs.declared.cell.Cell.{Cell}
use Rattle.heap_words.specs.declared.cell.Cell.TheVariants.{Ref, RoRef, Small, Wide, Str, Nil, Cons, Tuple, Raw, Top}
use Rattle.word_states.specs.Numbers.{bits, low_bits, IsLong, part_count}
use Rattle.word_states.specs.Words.{Words, At}
use Rattle.word_states.specs.Denoting.{Addresses, Listed, operator_code, NumberSays, Denotes, DenotesAll, Arguments, ExprSays, GoalSays}
use Rattle.word_states.proofs.Persisting.{one_cell}

-- long numbers are told apart by their bits
pub bits_apart : (y z : ℤ) → IsLong y → IsLong z → bits y ≡ bits z → y ≡ z
bits_apart (pos n) (pos k) s t e = ap pos e
bits_apart (pos n) (negsuc k) s t e = absurd (omega (arith, s, t, e))
bits_apart (negsuc n) (pos k) s t e = absurd (omega (arith, s, t, e))
bits_apart (negsuc n) (negsuc k) s t e = ap negsuc (omega (arith, s, t, e))

-- a cell of the kind of a term, and of the kind of a cell
abbrev term_kind : Term Variable → Cell
term_kind (number z) = Small (pos 0)
term_kind (string s) = Str (record { 0 = 0 })
term_kind nil = Nil
term_kind (cons t u) = Cons 0
term_kind (tuple ts) = Tuple 0
term_kind (var v) = Ref 0
term_kind (ro v) = RoRef 0
term_kind (first k) = Top 0

abbrev cell_kind : Option Cell → Cell
cell_kind (Some (Small z)) = Small (pos 0)
cell_kind (Some (Wide a h)) = Small (pos 0)
cell_kind (Some (Str s)) = Str (record { 0 = 0 })
cell_kind (Some Nil) = Nil
cell_kind (Some (Cons a)) = Cons 0
cell_kind (Some (Tuple a)) = Tuple 0
cell_kind (Some (Ref a)) = Ref 0
cell_kind (Some (RoRef a)) = RoRef 0
cell_kind _ = Top 0

-- the number of a string
abbrev string_of : Option Cell → ℕ
string_of (Some (Str s)) = s.0
string_of _ = 0

operators_apart : (o q : ArithOp) → operator_code o ≡ operator_code q → o ≡ q
operators_apart Add Add e = refl
operators_apart Sub Sub e = refl
operators_apart Mul Mul e = refl
operators_apart Div Div e = refl
operators_apart Mod Mod e = refl
operators_apart o q e =
    let f : nat_eq (operator_code o) (operator_code o) ≡ nat_eq (operator_code o) (operator_code q) = ap (nat_eq (operator_code o)) e in
    absurd (true≢false f)

module _ (w : Words) (vs : Addresses) (once : (v u : Variable) (a : ℕ) → Listed vs v a → Listed vs u a → v ≡ u) where
  denotes_kind : (x : ℕ) (t : Term Variable) → Denotes w vs x t → cell_kind (decoded x) ≡ term_kind t
  denotes_kind x (number z) (inl h) = ap cell_kind h
  denotes_kind x (number z) (inr h) = ap cell_kind h.3
  denotes_kind x (string s) h = ap cell_kind h
  denotes_kind x nil h = ap cell_kind h
  denotes_kind x (cons t u) h = ap cell_kind h.3
  denotes_kind x (tuple ts) h = ap cell_kind h.1
  denotes_kind x (var v) h = ap cell_kind h.1
  denotes_kind x (ro v) h = ap cell_kind h.1
  denotes_kind x (first k) h = absurd h

  -- two answers of one address are one word
  one_word : (a b x y : ℕ) → a ≡ b → w a ≡ Some x → w b ≡ Some y → y ≡ x
  one_word a b x y e h k = same_Some y x (sym k ∙ ap w (sym e) ∙ h)

  number_one : (x : ℕ) (y z : ℤ) → NumberSays w vs x y → NumberSays w vs x z → y ≡ z
  number_one x y z (inl h) (inl k) = let e : Some (Small y) ≡ Some (Small z) = sym h ∙ k in cc
  number_one x y z (inl h) (inr k) = let e : Some (Small y) ≡ Some (Wide k.0 k.1) = sym h ∙ k.3 in cc
  number_one x y z (inr h) (inl k) = let e : Some (Wide h.0 h.1) ≡ Some (Small z) = sym h.3 ∙ k in cc
  number_one x y z (inr h) (inr k) =
      let e : Some (Wide h.0 h.1) ≡ Some (Wide k.0 k.1) = sym h.3 ∙ k.3 in
      let a : h.0 ≡ k.0 = cc in
      let g : h.1 ≡ k.1 = cc in
      let l : Small h.2 ≡ Small k.2 = one_cell w k.0 _ _ (subst (λ (b : ℕ). At w b (Small h.2)) a h.4) k.4 in
      let low : h.2 ≡ k.2 = cc in
      bits_apart y z h.6 k.6 (h.5 ∙ ap₂ (λ (b : ℕ) (n : ℤ). b * 0x100000000000000 + low_bits n) g low ∙ sym k.5)

  mutual
    pub denotes_one : (x : ℕ) (t u : Term Variable) → Denotes w vs x t → Denotes w vs x u → t ≡ u
    denotes_one x (number z) (number y) h k = ap number (number_one x z y h k)
    denotes_one x (string s) (string r) h k =
        let e : Some (Str (record { 0 = s })) ≡ Some (Str (record { 0 = r })) = sym h ∙ k in
        let f : s ≡ r = ap string_of e in ap string f
    denotes_one x nil nil h k = refl
    denotes_one x (cons t u) (cons t' u') h k =
        let e : Some (Cons h.0) ≡ Some (Cons k.0) = sym h.3 ∙ k.3 in
        let a : h.0 ≡ k.0 = cc in
        let l : k.1 ≡ h.1 = one_word h.0 k.0 h.1 k.1 a h.4 k.4 in
        let r : k.2 ≡ h.2 = one_word (suc h.0) (suc k.0) h.2 k.2 (ap suc a) h.6 k.6 in
        ap₂ cons (denotes_one h.1 t t' h.5 (subst (λ (y : ℕ). Denotes w vs y t') l k.5))
        (denotes_one h.2 u u' h.7 (subst (λ (y : ℕ). Denotes w vs y u') r k.7))
    denotes_one x (tuple ts) (tuple us) h k =
        let e : Some (Tuple h.0) ≡ Some (Tuple k.0) = sym h.1 ∙ k.1 in
        let a : h.0 ≡ k.0 = cc in
        let n : Raw (part_count ts) ≡ Raw (part_count us) = one_cell w k.0 _ _ (subst (λ (b : ℕ). At w b (Raw (part_count ts))) a h.2)
        k.2 in
        let n' : part_count ts ≡ part_count us = cc in
        ap tuple (all_one (suc h.0) ts us n' h.4 (subst (λ (b : ℕ). DenotesAll w vs (suc b) us) (sym a) k.4))
    denotes_one x (var v) (var u) h k =
        let e : Some (Ref h.0) ≡ Some (Ref k.0) = sym h.1 ∙ k.1 in
        let a : h.0 ≡ k.0 = cc in
        ap var (once v u h.0 h.2 (subst (λ (b : ℕ). Listed vs u b) (sym a) k.2))
    denotes_one x (ro v) (ro u) h k =
        let e : Some (RoRef h.0) ≡ Some (RoRef k.0) = sym h.1 ∙ k.1 in
        let a : h.0 ≡ k.0 = cc in
        ap ro (once v u h.0 h.2 (subst (λ (b : ℕ). Listed vs u b) (sym a) k.2))
    denotes_one x (first i) u h k = absurd h
    denotes_one x t (first i) h k = absurd k
    denotes_one x t u h k = let e : term_kind t ≡ term_kind u = sym (denotes_kind x t h) ∙ denotes_kind x u k in cc

    all_one : (a : ℕ) (ts us : Terms Variable) → part_count ts ≡ part_count us → DenotesAll w vs a ts → DenotesAll w vs a us → ts ≡ us
    all_one a none none n h k = refl
    all_one a none (more u us) n h k = absurd (let e : 0 ≡ suc (part_count us) = n in omega arith)
    all_one a (more t ts) none n h k = absurd (let e : suc (part_count ts) ≡ 0 = n in omega arith)
    all_one a (more t ts) (more u us) n h k =
        let l : k.0 ≡ h.0 = one_word a a h.0 k.0 refl h.1 k.1 in
        ap₂ more (denotes_one h.0 t u h.2 (subst (λ (y : ℕ). Denotes w vs y u) l k.2))
        (all_one (suc a) ts us (let e : suc (part_count ts) ≡ suc (part_count us) = n in omega arith) h.3 k.3)

  arguments_one : (a : ℕ) (ts us : List (Term Variable)) → length ts ≡ length us → Arguments w vs a ts → Arguments w vs a us → ts ≡ us
  arguments_one a [] [] n h k = refl
  arguments_one a [] (u ∷ us) n h k = absurd (let e : 0 ≡ suc (length us) = n in omega arith)
  arguments_one a (t ∷ ts) [] n h k = absurd (let e : suc (length ts) ≡ 0 = n in omega arith)
  arguments_one a (t ∷ ts) (u ∷ us) n h k =
      let l : k.0 ≡ h.0 = one_word a a h.0 k.0 refl h.1 k.1 in
      ap₂ (λ (y : Term Variable) (ys : List (Term Variable)). y ∷ ys) (denotes_one h.0 t u h.2 (subst (λ (y : ℕ). Denotes w vs y u) l k.2))
      (arguments_one (suc a) ts us (let e : suc (length ts) ≡ suc (length us) = n in omega arith) h.3 k.3)

  -- an operator is no term
  no_term : (x : ℕ) (t : Term Variable) (o : ArithOp) (c : ℕ) → Denotes w vs x t → decoded x ≡ Some (Tuple c)
      → At w c (Raw (66 + operator_code o)) → ⊥
  no_term x (tuple ts) o c h i a =
      let e : Some (Tuple h.0) ≡ Some (Tuple c) = sym h.1 ∙ i in
      let b : h.0 ≡ c = cc in
      let n : Raw (part_count ts) ≡ Raw (66 + operator_code o) =
      one_cell w c _ _ (subst (λ (d : ℕ). At w d (Raw (part_count ts))) b h.2) a in
      let n' : part_count ts ≡ 66 + operator_code o = cc in
      let few = h.3 in omega arith
  no_term x t o c h i a = let e : Tuple 0 ≡ term_kind t = sym (ap cell_kind i) ∙ denotes_kind x t h in cc

  pub expr_one : (x : ℕ) (d e : Expr Variable) → ExprSays w vs x d → ExprSays w vs x e → d ≡ e
  expr_one x (leaf t) (leaf u) h k = ap leaf (denotes_one x t u h k)
  expr_one x (leaf t) (op o d e) h k = absurd (no_term x t o k.0 h k.3 k.4)
  expr_one x (op o d e) (leaf t) h k = absurd (no_term x t o h.0 k h.3 h.4)
  expr_one x (op o d e) (op q d' e') h k =
      let s : Some (Tuple h.0) ≡ Some (Tuple k.0) = sym h.3 ∙ k.3 in
      let a : h.0 ≡ k.0 = cc in
      let n : Raw (66 + operator_code o) ≡ Raw (66 + operator_code q) =
      one_cell w k.0 _ _ (subst (λ (b : ℕ). At w b (Raw (66 + operator_code o))) a h.4) k.4 in
      let n' : 66 + operator_code o ≡ 66 + operator_code q = cc in
      let same : o ≡ q = operators_apart o q (omega arith) in
      let l : k.1 ≡ h.1 = one_word (h.0 + 1) (k.0 + 1) h.1 k.1 (ap (λ (b : ℕ). b + 1) a) h.5 k.5 in
      let r : k.2 ≡ h.2 = one_word (h.0 + 2) (k.0 + 2) h.2 k.2 (ap (λ (b : ℕ). b + 2) a) h.7 k.7 in
      let left = expr_one h.1 d d' h.6 (subst (λ (y : ℕ). ExprSays w vs y d') l k.6) in
      let right = expr_one h.2 e e' h.8 (subst (λ (y : ℕ). ExprSays w vs y e') r k.8) in
      λ i. op (same i) (left i) (right i)

  -- the number of the procedure of a goal
  abbrev procedure_of : Goal Variable → ℕ
  procedure_of (user f ts) = f
  procedure_of true' = TRUE_PROCEDURE
  procedure_of (unifies t u) = UNIFY_PROCEDURE
  procedure_of (assigns t e) = ASSIGN_PROCEDURE

  goal_procedure : (p : ℕ) (g : Goal Variable) → GoalSays w vs p g → At w (p + 2) (Raw (procedure_of g))
  goal_procedure p (user f ts) h = h.0
  goal_procedure p true' h = h.0
  goal_procedure p (unifies t u) h = h.0
  goal_procedure p (assigns t e) h = h.0

  same_procedure : (p : ℕ) (g h : Goal Variable) → GoalSays w vs p g → GoalSays w vs p h → procedure_of g ≡ procedure_of h
  same_procedure p g h i j =
      let e : Raw (procedure_of g) ≡ Raw (procedure_of h) = one_cell w (p + 2) _ _ (goal_procedure p g i) (goal_procedure p h j) in cc

  no_user : {A : Type 0} (f n : ℕ) → f < TRUE_PROCEDURE → (n < TRUE_PROCEDURE → ⊥) → f ≡ n → A
  no_user f n h g e = absurd (g (subst (λ (k : ℕ). k < TRUE_PROCEDURE) e h))

  pub goal_one : (p : ℕ) (g h : Goal Variable) → GoalSays w vs p g → GoalSays w vs p h → g ≡ h
  goal_one p (user f ts) (user f' us) h k =
      let n : Raw (length ts) ≡ Raw (length us) = one_cell w (p + 3) _ _ h.1 k.1 in
      let n' : length ts ≡ length us = cc in
      ap₂ user (same_procedure p (user f ts) (user f' us) h k) (arguments_one (p + 4) ts us n' h.2 k.2)
  goal_one p true' true' h k = refl
  goal_one p (unifies t u) (unifies t' u') h k =
      let e : (t ∷ u ∷ []) ≡ (t' ∷ u' ∷ []) = arguments_one (p + 4) (t ∷ u ∷ []) (t' ∷ u' ∷ []) refl h.2 k.2 in cc
  goal_one p (assigns t e) (assigns u d) h k =
      let l : k.2.0 ≡ h.2.0 = one_word (p + 4) (p + 4) h.2.0 k.2.0 refl h.2.2 k.2.2 in
      let r : k.2.1 ≡ h.2.1 = one_word (p + 5) (p + 5) h.2.1 k.2.1 refl h.2.4 k.2.4 in
      ap₂ assigns (denotes_one h.2.0 t u h.2.3 (subst (λ (y : ℕ). Denotes w vs y u) l k.2.3))
      (expr_one h.2.1 e d h.2.5 (subst (λ (y : ℕ). ExprSays w vs y d) r k.2.5))
  goal_one p (user f ts) h i k =
      no_user f (procedure_of h) i.3 (λ (l : procedure_of h < TRUE_PROCEDURE). omega arith) (same_procedure p (user f ts) h i k)
  goal_one p g (user f ts) i k =
      no_user f (procedure_of g) k.3 (λ (l : procedure_of g < TRUE_PROCEDURE). omega arith) (sym (same_procedure p g (user f ts) i k))
  goal_one p g h i k =
      let e : nat_eq (procedure_of g) (procedure_of g) ≡ nat_eq (procedure_of g) (procedure_of h) =
      ap (nat_eq (procedure_of g)) (same_procedure p g h i k) in
      absurd (true≢false e)
