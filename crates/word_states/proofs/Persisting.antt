-- What words say goes on to be said where final words stay.
use Rattle.std.proofs.Common.{◌≡◌, ℕ, suc, ◌+◌, ◌*◌, ◌≤◌, true, List, [], ◌∷◌, length, map, refl, sym, ap, ◌∙◌, subst, inl, inr, arith}
use Rattle.std.proofs.Common.{Some}
use Rattle.std.specs.Prelude.{pos}
use Rattle.std.proofs.lemmas.Option.{same_Some}
use Rattle.fcp_model.specs.Places.{Variable}
use Rattle.fcp_model.specs.Terms.{Term, number, string, nil, cons, tuple, var, ro, first, Terms, none, more}
use Rattle.fcp_model.specs.Expressions.{Expr, leaf, op}
use Rattle.fcp_model.specs.Programs.{Goal, user, true', unifies, assigns}
use Rattle.fcp_model.specs.States.{Status, ready, waiting, finished, Process}
use Rattle.heap_words.specs.Cells.{decoded, is_final_word, is_final_cell, is_final_in}
use Rattle.heap_words.specs.Trails.{WordList}
use Rattle.heap_words.specs.declared.cell.Cell.{Cell}
use Rattle.heap_words.specs.declared.cell.Cell.TheVariants.{Ref, RoRef, Small, Wide, Nil, Cons, Tuple, Raw}
use Rattle.word_states.specs.Words.{Words, At, Grows}
use Rattle.word_states.specs.Denoting.{Addresses, Listed, Denotes, DenotesAll, Arguments, ExprSays, GoalSays}
use Rattle.word_states.specs.Standing.{Hangs, LinkSays, StatusSays, StandsAt}

pub final_of : (x : ℕ) (c : Cell) → decoded x ≡ Some c → is_final_cell c ≡ true → is_final_word x ≡ true
final_of x c is h = ap is_final_in is ∙ h

pub denotes_final : (w : Words) (vs : Addresses) (x : ℕ) (t : Term Variable) → Denotes w vs x t → is_final_word x ≡ true
denotes_final w vs x (number z) (inl h) = final_of x (Small z) h refl
denotes_final w vs x (number z) (inr h) = final_of x (Wide h.0 h.1) h.3 refl
denotes_final w vs x (string s) h = final_of x _ h refl
denotes_final w vs x nil h = final_of x _ h refl
denotes_final w vs x (cons t u) h = final_of x (Cons h.0) h.3 refl
denotes_final w vs x (tuple ts) h = final_of x (Tuple h.0) h.1 refl
denotes_final w vs x (var v) h = final_of x (Ref h.0) h.1 refl
denotes_final w vs x (ro v) h = final_of x (RoRef h.0) h.1 refl
denotes_final w vs x (first k) h = absurd h

pub expr_final : (w : Words) (vs : Addresses) (x : ℕ) (e : Expr Variable) → ExprSays w vs x e → is_final_word x ≡ true
expr_final w vs x (leaf t) h = denotes_final w vs x t h
expr_final w vs x (op o d e) h = final_of x (Tuple h.0) h.3 refl

module _ (w w' : Words) (vs us : Addresses) (grows : Grows w w') (more_places : (v : Variable) (a : ℕ) → Listed vs v a
    → Listed us v a) where
  pub at_on : (a : ℕ) (c : Cell) → At w a c → is_final_cell c ≡ true → At w' a c
  at_on a c h f = (h.0, grows a h.0 h.1 (final_of h.0 c h.2 f), h.2)

  mutual
    pub denotes_on : (x : ℕ) (t : Term Variable) → Denotes w vs x t → Denotes w' us x t
    denotes_on x (number z) (inl h) = inl h
    denotes_on x (number z) (inr h) = inr (h.0, h.1, h.2, h.3, at_on h.0 (Small h.2) h.4 refl, h.5, h.6)
    denotes_on x (string s) h = h
    denotes_on x nil h = h
    denotes_on x (cons t u) h = (
      h.0,
      h.1,
      h.2,
      h.3,
      grows h.0 h.1 h.4 (denotes_final w vs h.1 t h.5),
      denotes_on h.1 t h.5,
      grows (suc h.0) h.2 h.6 (denotes_final w vs h.2 u h.7),
      denotes_on h.2 u h.7,
    )
    denotes_on x (tuple ts) h = (h.0, h.1, at_on h.0 (Raw _) h.2 refl, h.3, all_on (suc h.0) ts h.4)
    denotes_on x (var v) h = (h.0, h.1, more_places v h.0 h.2)
    denotes_on x (ro v) h = (h.0, h.1, more_places v h.0 h.2)
    denotes_on x (first k) h = absurd h

    pub all_on : (a : ℕ) (ts : Terms Variable) → DenotesAll w vs a ts → DenotesAll w' us a ts
    all_on a none h = tt
    all_on a (more t ts) h = (h.0, grows a h.0 h.1 (denotes_final w vs h.0 t h.2), denotes_on h.0 t h.2, all_on (suc a) ts h.3)

  pub arguments_on : (a : ℕ) (ts : List (Term Variable)) → Arguments w vs a ts → Arguments w' us a ts
  arguments_on a [] h = tt
  arguments_on a (t ∷ ts) h = (h.0, grows a h.0 h.1 (denotes_final w vs h.0 t h.2), denotes_on h.0 t h.2, arguments_on (suc a) ts h.3)

  pub expr_on : (x : ℕ) (e : Expr Variable) → ExprSays w vs x e → ExprSays w' us x e
  expr_on x (leaf t) h = denotes_on x t h
  expr_on x (op o d e) h = (
    h.0,
    h.1,
    h.2,
    h.3,
    at_on h.0 (Raw _) h.4 refl,
    grows (h.0 + 1) h.1 h.5 (expr_final w vs h.1 d h.6),
    expr_on h.1 d h.6,
    grows (h.0 + 2) h.2 h.7 (expr_final w vs h.2 e h.8),
    expr_on h.2 e h.8,
  )

  pub goal_on : (p : ℕ) (g : Goal Variable) → GoalSays w vs p g → GoalSays w' us p g
  goal_on p (user f ts) h = (at_on (p + 2) (Raw f) h.0 refl, at_on (p + 3) (Raw _) h.1 refl, arguments_on (p + 4) ts h.2, h.3)
  goal_on p true' h = (at_on (p + 2) (Raw _) h.0 refl, at_on (p + 3) (Raw 0) h.1 refl)
  goal_on p (unifies t u) h = (at_on (p + 2) (Raw _) h.0 refl, at_on (p + 3) (Raw 2) h.1 refl, arguments_on (p + 4) (t ∷ u ∷ []) h.2)
  goal_on p (assigns t e) h = (
    at_on (p + 2) (Raw _) h.0 refl,
    at_on (p + 3) (Raw 2) h.1 refl,
    (
      h.2.0,
      h.2.1,
      grows (p + 4) h.2.0 h.2.2 (denotes_final w vs h.2.0 t h.2.3),
      denotes_on h.2.0 t h.2.3,
      grows (p + 5) h.2.1 h.2.4 (expr_final w vs h.2.1 e h.2.5),
      expr_on h.2.1 e h.2.5,
    ),
  )

  link_on : (a l : ℕ) → LinkSays w a l → LinkSays w' a l
  link_on a l (inl h) = inl (at_on a Nil h.0 refl, h.1)
  link_on a l (inr h) = inr (at_on a (Cons l) h.0 refl, h.1)

  pub hangs_on : (e : ℕ) (zs : WordList) → Hangs w e zs → Hangs w' e zs
  hangs_on e [] h = h
  hangs_on e (z ∷ zs) h = (
    h.0,
    at_on e (Raw z.0) h.1 refl,
    at_on (e + 1) (Small (pos z.1)) h.2 refl,
    (h.3.0, link_on (e + 2) h.3.0 h.3.1, hangs_on h.3.0 zs h.3.2),
  )

-- one word has one cell
pub one_cell : (w : Words) (a : ℕ) (c d : Cell) → At w a c → At w a d → c ≡ d
one_cell w a c d h k =
    let e : h.0 ≡ k.0 = same_Some h.0 k.0 (sym h.1 ∙ k.1) in
    same_Some c d (sym h.2 ∙ (ap decoded e ∙ k.2))

-- a list of waiting entries is one
pub hangs_one : (w : Words) (e : ℕ) (zs ys : WordList) → Hangs w e zs → Hangs w e ys → zs ≡ ys
hangs_one w e [] [] h k = refl
hangs_one w e [] (y ∷ ys) h k = let pos = k.0 in absurd (omega arith)
hangs_one w e (z ∷ zs) [] h k = let pos = h.0 in absurd (omega arith)
hangs_one w e (z ∷ zs) (y ∷ ys) h k =
    let p : Raw z.0 ≡ Raw y.0 = one_cell w e _ _ h.1 k.1 in
    let q : Small (pos z.1) ≡ Small (pos y.1) = one_cell w (e + 1) _ _ h.2 k.2 in
    let p' : z.0 ≡ y.0 = cc in
    let q' : z.1 ≡ y.1 = cc in
    let l : h.3.0 ≡ k.3.0 = links (e + 2) _ _ h.3.1 k.3.1 in
    let rest : zs ≡ ys = hangs_one w k.3.0 zs ys (subst (λ (n : ℕ). Hangs w n zs) l h.3.2) k.3.2 in
    λ i. (p' i, q' i) ∷ rest i
  where
    links : (a l m : ℕ) → LinkSays w a l → LinkSays w a m → l ≡ m
    links a l m (inl s) (inl t) = s.1 ∙ sym t.1
    links a l m (inl s) (inr t) = let e : Nil ≡ Cons m = one_cell w a _ _ s.0 t.0 in cc
    links a l m (inr s) (inl t) = let e : Cons l ≡ Nil = one_cell w a _ _ s.0 t.0 in cc
    links a l m (inr s) (inr t) = let e : Cons l ≡ Cons m = one_cell w a _ _ s.0 t.0 in cc

pub status_up : (limit limit' x : ℕ) (st : Status) → limit ≤ limit' → StatusSays limit x st → StatusSays limit' x st
status_up limit limit' x ready le h = h
status_up limit limit' x finished le h = h
status_up limit limit' x (waiting ps) le h = let lt = h.2 in (h.0, h.1, (omega arith))

pub stands_map : (f : Process → Process) (as' : List ℕ) (xs : List Process) (p : ℕ) (y : Process) → StandsAt as' (map f xs) p y
    → (x : Process) × StandsAt as' xs p x × (f x ≡ y)
stands_map f [] xs p y h = absurd h
stands_map f (a ∷ as') [] p y h = absurd h
stands_map f (a ∷ as') (x ∷ xs) p y (inl h) = (x, inl (h.0, refl), h.1)
stands_map f (a ∷ as') (x ∷ xs) p y (inr h) = let r = stands_map f as' xs p y h in (r.0, inr r.1, r.2)

pub map_stands : (f : Process → Process) (as' : List ℕ) (xs : List Process) (p : ℕ) (x : Process) → StandsAt as' xs p x
    → StandsAt as' (map f xs) p (f x)
map_stands f [] xs p x h = absurd h
map_stands f (a ∷ as') [] p x h = absurd h
map_stands f (a ∷ as') (y ∷ xs) p x (inl h) = inl (h.0, ap f h.1)
map_stands f (a ∷ as') (y ∷ xs) p x (inr h) = inr (map_stands f as' xs p x h)

pub map_length : (f : Process → Process) (xs : List Process) → length (map f xs) ≡ length xs
map_length f [] = refl
map_length f (x ∷ xs) = ap suc (map_length f xs)
