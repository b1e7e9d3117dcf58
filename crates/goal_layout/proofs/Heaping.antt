-- Words that refer to nothing, that say expressions, and processes: they are a heap.
use Rattle.std.proofs.Common.{◌≡◌, ℕ, suc, ◌+◌, ◌-◌, ◌<◌, ◌≤◌, Bool, true, false, cond, List, Option, Some, None, refl, sym, ap, ◌∙◌}
use Rattle.std.proofs.Common.{subst, arith, ◌⊎◌, inl, inr, ⊎_elim}
use Rattle.std.proofs.lemmas.Option.{same_Some, cond_some}
use Rattle.fcp_model.specs.Places.{Variable}
use Rattle.fcp_model.specs.Expressions.{Expr}
use Rattle.heap_words.specs.Cells.{decoded, is_final_word, is_final_cell, is_final_in}
use Rattle.heap_words.specs.Refers.{Refers, Reaches, reaches_refers, HasPart, teller, RefersBy, reaches_by_refers, HasPartBy, parts}
use Rattle.heap_words.specs.WordsLaws.{Acyclic}
use Rattle.heap_words.specs.Heaps.{IsHeap, RefersInside, is_inside, inside_at, only_final, final_at}
use Rattle.heap_words.specs.HeapLaws.{inside_known, plain_inside}
use Rattle.heap_words.specs.declared.cell.Cell.{Cell}
use Rattle.heap_words.specs.declared.cell.Cell.TheVariants.{Unbound, Ref, RoRef, Small, Wide, Str, Nil, Cons, Tuple, Status, Raw, Top}
use Rattle.heap_words.specs.declared.cell.Stand.{Stand}
use Rattle.heap_words.specs.declared.cell.Stand.TheVariants.{Ready}
use Rattle.word_states.specs.Words.{Words, At, IsIn}
use Rattle.word_states.specs.Denoting.{Addresses, Listed, ExprSays}
use Rattle.goal_layout.specs.Pages.{ArePages}
use Rattle.goal_layout.specs.Laying.{IsQuiet, is_quiet, IsSaid}
use Rattle.word_states.proofs.Persisting.{expr_final}
use Rattle.goal_layout.proofs.Weights.{expr_weight, some_expr_weight, one_weight}
use Rattle.goal_layout.proofs.Views.{is_constant, Child, View, constant, wide, place, pair, group, view}
use Rattle.goal_layout.proofs.Quiet.{same_cell, quiet_refers, quiet_part, quiet_tells, constant_refers, constant_part, constant_tells}

-- what a word in use is
abbrev pub Sort : List ℕ → Addresses → List ℕ → ℕ → ℕ → Type 0
Sort ws vs procs a x = IsSaid (inside_at ws) vs x ⊎ (IsIn a procs × (decoded x ≡ Some (Status Ready)))

-- the words of places, of terms and of processes
pub record AreLaid (ws : List ℕ) (vs : Addresses) (procs : List ℕ) : Type 0 where
  pub pages : ArePages ws
  pub all : (a x : ℕ) → inside_at ws a ≡ Some x → Sort ws vs procs a x
  pub places : (v : Variable) (a : ℕ) → Listed vs v a → (0 < a) × (is_inside ws (a - 1) ≡ true) × At (inside_at ws) a (Unbound 0)
  pub behind : (p b : ℕ) → IsIn p procs → p < b → b ≤ p + 3 → is_inside ws b ≡ true
  pub arguments : (p y n b : ℕ) → IsIn p procs → inside_at ws (p + 3) ≡ Some y → decoded y ≡ Some (Raw n) → p + 3 < b → b ≤ p + 3 + n
      → is_inside ws b ≡ true

part_by_refers : (n : ℕ) (c : Cell) (b : ℕ) → HasPartBy n c b → RefersBy n c b
part_by_refers n (Cons a) b r = inr r
part_by_refers n (Tuple a) b r = r
part_by_refers n (Unbound e) b r = absurd r
part_by_refers n (Ref a) b r = absurd r
part_by_refers n (RoRef a) b r = absurd r
part_by_refers n (Small z) b r = absurd r
part_by_refers n (Wide a u) b r = absurd r
part_by_refers n (Str s) b r = absurd r
part_by_refers n Nil b r = absurd r
part_by_refers n (Status d) b r = absurd r
part_by_refers n (Raw k) b r = absurd r
part_by_refers n (Top a) b r = absurd r

module _ (ws : List ℕ) (vs : Addresses) (procs : List ℕ) (h : AreLaid ws vs procs) where
  abbrev w : Words
  w = inside_at ws

  known : (a : ℕ) (c : Cell) → At w a c → is_inside ws a ≡ true
  known a c t = inside_known ws a t.0 t.1

  child_known : (b m : ℕ) → Child w vs b m → is_inside ws b ≡ true
  child_known b m c = inside_known ws b c.word c.stands

  child_final : (b m y : ℕ) → Child w vs b m → inside_at ws b ≡ Some y → is_final_word y ≡ true
  child_final b m y c e = subst (λ k. is_final_word k ≡ true) (same_Some c.word y (sym c.stands ∙ e)) (expr_final w vs c.word c.expr c.says)

  at_final : (b y : ℕ) (c : Cell) → At w b c → is_final_cell c ≡ true → inside_at ws b ≡ Some y → is_final_word y ≡ true
  at_final b y c t f e = subst (λ k. is_final_word k ≡ true) (same_Some t.0 y (sym t.1 ∙ e)) (ap is_final_in t.2 ∙ f)

  -- no word of an expression is a number of a piece
  no_raw : (y n : ℕ) (e : Expr Variable) → ExprSays w vs y e → decoded y ≡ Some (Raw n) → ⊥
  no_raw y n e says d = go (view w vs y e says)
    where
      go : View w vs y (expr_weight e) → ⊥
      go (constant c q k) = let s : is_constant (Raw n) ≡ true = subst (λ z. is_constant z ≡ true) (same_cell y c (Raw n) q d) k in cc
      go (wide a u low q t) = let s : Wide a u ≡ Raw n = same_cell y (Wide a u) (Raw n) q d in cc
      go (place a v (inl q) l) = let s : Ref a ≡ Raw n = same_cell y (Ref a) (Raw n) q d in cc
      go (place a v (inr q) l) = let s : RoRef a ≡ Raw n = same_cell y (RoRef a) (Raw n) q d in cc
      go (pair k q s t) = let s : Cons k ≡ Raw n = same_cell y (Cons k) (Raw n) q d in cc
      go (group k m q t f) = let s : Tuple k ≡ Raw n = same_cell y (Tuple k) (Raw n) q d in cc

  module _ (x m : ℕ) (c : Cell) (is : decoded x ≡ Some c) where
    view_refers : View w vs x m → (b : ℕ) → Refers c b → is_inside ws b ≡ true
    view_refers (constant d q k) b r = absurd (constant_refers c b (subst (λ z. is_constant z ≡ true) (same_cell x d c q is) k) r)
    view_refers (wide a u low q t) b r =
        let e : b ≡ a = subst (λ z. Refers z b) (same_cell x c (Wide a u) is q) r in
        subst (λ k. is_inside ws k ≡ true) (sym e) (known a (Small low) t)
    view_refers (place a v (inl q) l) b r = place_refers a v b l (subst (λ z. Refers z b) (same_cell x c (Ref a) is q) r)
      where
        place_refers : (a : ℕ) (v : Variable) (b : ℕ) → Listed vs v a → (b ≡ a) ⊎ (suc b ≡ a) → is_inside ws b ≡ true
        place_refers a v b l (inl e) = subst (λ k. is_inside ws k ≡ true) (sym e) (known a (Unbound 0) (h.places v a l).2)
        place_refers a v b l (inr e) = subst (λ k. is_inside ws k ≡ true) (omega (arith, e)) (h.places v a l).1
    view_refers (place a v (inr q) l) b r = place_refers a v b l (subst (λ z. Refers z b) (same_cell x c (RoRef a) is q) r)
      where
        place_refers : (a : ℕ) (v : Variable) (b : ℕ) → Listed vs v a → (b ≡ a) ⊎ (suc b ≡ a) → is_inside ws b ≡ true
        place_refers a v b l (inl e) = subst (λ k. is_inside ws k ≡ true) (sym e) (known a (Unbound 0) (h.places v a l).2)
        place_refers a v b l (inr e) = subst (λ k. is_inside ws k ≡ true) (omega (arith, e)) (h.places v a l).1
    view_refers (pair k q s t) b r = ⊎_elim
        (λ e. subst (λ j. is_inside ws j ≡ true) (sym e) (child_known k m s))
        (λ e. subst (λ j. is_inside ws j ≡ true) (sym e) (child_known (suc k) m t))
        (subst (λ z. Refers z b) (same_cell x c (Cons k) is q) r)
    view_refers (group k n q t f) b r =
        let e : b ≡ k = subst (λ z. Refers z b) (same_cell x c (Tuple k) is q) r in
        subst (λ j. is_inside ws j ≡ true) (sym e) (known k (Raw n) t)

    view_part : View w vs x m → (b y : ℕ) → HasPart c b → inside_at ws b ≡ Some y → is_final_word y ≡ true
    view_part (constant d q k) b y r e = absurd (constant_part c b (subst (λ z. is_constant z ≡ true) (same_cell x d c q is) k) r)
    view_part (wide a u low q t) b y r e =
        let s : b ≡ a = subst (λ z. HasPart z b) (same_cell x c (Wide a u) is q) r in
        at_final a y (Small low) t refl (ap (inside_at ws) (sym s) ∙ e)
    view_part (place a v (inl q) l) b y r e = absurd (subst (λ z. HasPart z b) (same_cell x c (Ref a) is q) r)
    view_part (place a v (inr q) l) b y r e = absurd (subst (λ z. HasPart z b) (same_cell x c (RoRef a) is q) r)
    view_part (pair k q s t) b y r e = ⊎_elim
        (λ g. child_final k m y s (ap (inside_at ws) (sym g) ∙ e))
        (λ g. child_final (suc k) m y t (ap (inside_at ws) (sym g) ∙ e))
        (subst (λ z. HasPart z b) (same_cell x c (Cons k) is q) r)
    view_part (group k n q t f) b y r e =
        let s : b ≡ k = subst (λ z. HasPart z b) (same_cell x c (Tuple k) is q) r in
        at_final k y (Raw n) t refl (ap (inside_at ws) (sym s) ∙ e)

    -- only a group tells by a number to what more it refers
    view_tells : View w vs x m → (t y n b : ℕ) → teller c ≡ Some t → inside_at ws t ≡ Some y → decoded y ≡ Some (Raw n) → RefersBy n c b
        → (c ≡ Tuple t) × Child w vs b m
    view_tells (constant d q k) t y n b tells e r by =
        let none : teller c ≡ None = constant_tells c (subst (λ z. is_constant z ≡ true) (same_cell x d c q is) k) in
        let no : ⊥ = cc in absurd no
    view_tells (wide a u low q s) t y n b tells e r by =
        let none : None ≡ Some t = ap teller (sym (same_cell x c (Wide a u) is q)) ∙ tells in let no : ⊥ = cc in absurd no
    view_tells (place a v (inl q) l) t y n b tells e r by =
        let none : None ≡ Some t = ap teller (sym (same_cell x c (Ref a) is q)) ∙ tells in let no : ⊥ = cc in absurd no
    view_tells (place a v (inr q) l) t y n b tells e r by =
        let none : None ≡ Some t = ap teller (sym (same_cell x c (RoRef a) is q)) ∙ tells in let no : ⊥ = cc in absurd no
    view_tells (pair k q s u) t y n b tells e r by =
        let at : k ≡ t = same_Some k t (ap teller (sym (same_cell x c (Cons k) is q)) ∙ tells) in
        let word : s.word ≡ y = same_Some s.word y (sym s.stands ∙ ap (inside_at ws) at ∙ e) in
        absurd (no_raw s.word n s.expr s.says (ap decoded word ∙ r))
    view_tells (group k j q s f) t y n b tells e r by =
        let c-is : c ≡ Tuple k = same_cell x c (Tuple k) is q in
        let at : k ≡ t = same_Some k t (ap teller (sym c-is) ∙ tells) in
        let word : s.0 ≡ y = same_Some s.0 y (sym s.1 ∙ ap (inside_at ws) at ∙ e) in
        let count : Raw j ≡ Raw n = same_Some (Raw j) (Raw n) (sym s.2 ∙ ap decoded word ∙ r) in
        let same : j ≡ n = cc in
        let range : (k < b) × (b ≤ k + parts n) = subst (λ z. RefersBy n z b) c-is by in
        (c-is ∙ ap Tuple at, f b range.0 (subst (λ i. b ≤ k + parts i) (sym same) range.1))

  -- what a word refers to is inside
  expr_inside : (x : ℕ) (e : Expr Variable) → ExprSays w vs x e → RefersInside ws x
  expr_inside x e says = record {
    refers = λ b c d r. view_refers x (expr_weight e) c d (view w vs x e says) b r;
    refers_by = λ t y n b c d tells at raw by.
        child_known b (expr_weight e) (view_tells x (expr_weight e) c d (view w vs x e says) t y n b tells at raw by).1;
    part_final = λ b y c d r at. view_part x (expr_weight e) c d (view w vs x e says) b y r at;
    part_final_by = λ t z n b y c d tells at raw by here.
        by_final c d t z n b y tells at raw by here;
  }
    where
      by_final : (c : Cell) → decoded x ≡ Some c → (t z n b y : ℕ) → teller c ≡ Some t → inside_at ws t ≡ Some z
          → decoded z ≡ Some (Raw n) → HasPartBy n c b → inside_at ws b ≡ Some y → is_final_word y ≡ true
      by_final c d t z n b y tells at raw by here =
          child_final b (expr_weight e) y
          (view_tells x (expr_weight e) c d (view w vs x e says) t z n b tells at raw (part_by_refers n c b by)).1 here

  quiet_inside : (x : ℕ) → IsQuiet x → RefersInside ws x
  quiet_inside x q = plain_inside ws x q.cell q.says (quiet_tells q.cell q.quiet) (λ b r. quiet_part q.cell b q.quiet r)
      (λ b r. absurd (quiet_refers q.cell b q.quiet r))

  status_inside : (x : ℕ) → decoded x ≡ Some (Status Ready) → RefersInside ws x
  status_inside x d = plain_inside ws x (Status Ready) d refl (λ b r. r) (λ b r. absurd r)

  word_inside : (a x : ℕ) → inside_at ws a ≡ Some x → RefersInside ws x
  word_inside a x e = go (h.all a x e)
    where
      go : Sort ws vs procs a x → RefersInside ws x
      go (inl (inl q)) = quiet_inside x q
      go (inl (inr s)) = expr_inside x s.0 s.1
      go (inr s) = status_inside x s.1

  -- a status is a process's
  status_in : (a x : ℕ) (d : Stand) → inside_at ws a ≡ Some x → decoded x ≡ Some (Status d) → IsIn a procs
  status_in a x d e is = go (h.all a x e)
    where
      go : Sort ws vs procs a x → IsIn a procs
      go (inl (inl q)) =
          let s : is_quiet (Status d) ≡ true = subst (λ z. is_quiet z ≡ true) (same_cell x q.cell (Status d) q.says is) q.quiet in cc
      go (inl (inr s)) = absurd (no_status (view w vs x s.0 s.1))
        where
          no_status : View w vs x (expr_weight s.0) → ⊥
          no_status (constant c q k) = let u : is_constant (Status d) ≡ true =
              subst (λ z. is_constant z ≡ true) (same_cell x c (Status d) q is) k in cc
          no_status (wide a u low q t) = let v : Wide a u ≡ Status d = same_cell x (Wide a u) (Status d) q is in cc
          no_status (place a v (inl q) l) = let u : Ref a ≡ Status d = same_cell x (Ref a) (Status d) q is in cc
          no_status (place a v (inr q) l) = let u : RoRef a ≡ Status d = same_cell x (RoRef a) (Status d) q is in cc
          no_status (pair k q s t) = let u : Cons k ≡ Status d = same_cell x (Cons k) (Status d) q is in cc
          no_status (group k m q t f) = let u : Tuple k ≡ Status d = same_cell x (Tuple k) (Status d) q is in cc
      go (inr s) = s.0

  -- ranks: how heavy a word's expression is, where the word refers to something
  abbrev refers_on : Option Cell → Bool
  refers_on (Some (Ref a)) = true
  refers_on (Some (RoRef a)) = true
  refers_on (Some (Wide a u)) = true
  refers_on (Some (Cons k)) = true
  refers_on (Some (Tuple k)) = true
  refers_on _ = false

  abbrev sort_rank : (a x : ℕ) → Sort ws vs procs a x → ℕ
  sort_rank a x (inl (inl q)) = 0
  sort_rank a x (inl (inr s)) = cond (refers_on (decoded x)) (expr_weight s.0) 0
  sort_rank a x (inr s) = 0

  abbrev rank_of : (a : ℕ) (o : Option ℕ) → inside_at ws a ≡ o → ℕ
  rank_of a None e = 0
  rank_of a (Some x) e = sort_rank a x (h.all a x e)

  abbrev rank : ℕ → ℕ
  rank a = rank_of a (inside_at ws a) refl

  rank_is : (a x : ℕ) → inside_at ws a ≡ Some x → (s : Sort ws vs procs a x) × (rank a ≡ sort_rank a x s)
  rank_is a x e = go (inside_at ws a) refl e
    where
      go : (o : Option ℕ) (p : inside_at ws a ≡ o) → o ≡ Some x → (s : Sort ws vs procs a x) × (rank_of a o p ≡ sort_rank a x s)
      go None p q = let no : ⊥ = cc in absurd no
      go (Some y) p q = subst (λ z. (s : Sort ws vs procs a z) × (rank_of a (Some y) p ≡ sort_rank a z s)) (same_Some y x q)
          (h.all a y p, refl)

  -- a word that refers to nothing has the rank 0
  rank_zero : (a x : ℕ) (c : Cell) → inside_at ws a ≡ Some x → decoded x ≡ Some c → refers_on (Some c) ≡ false → rank a ≡ 0
  rank_zero a x c e d n = let r = rank_is a x e in r.1 ∙ go r.0
    where
      go : (s : Sort ws vs procs a x) → sort_rank a x s ≡ 0
      go (inl (inl q)) = refl
      go (inl (inr s)) = ap (λ b. cond b (expr_weight s.0) 0) (ap refers_on d ∙ n)
      go (inr s) = refl

  -- and one that says an expression at most its weight
  rank_most : (a x : ℕ) (e : Expr Variable) → inside_at ws a ≡ Some x → ExprSays w vs x e → rank a ≤ expr_weight e
  rank_most a x e at says = let r = rank_is a x at in subst (λ k. k ≤ expr_weight e) (sym r.1) (go r.0)
    where
      go : (s : Sort ws vs procs a x) → sort_rank a x s ≤ expr_weight e
      go (inl (inl q)) = omega arith
      go (inl (inr s)) = either (refers_on (decoded x))
        where
          either : (b : Bool) → cond b (expr_weight s.0) 0 ≤ expr_weight e
          either true = omega (arith, one_weight w vs x s.0 e s.1 says)
          either false = omega arith
      go (inr s) = omega arith

  child_rank : (b m : ℕ) → Child w vs b m → rank b < m
  child_rank b m c = let l = c.lighter in omega (arith, rank_most b c.word c.expr c.stands c.says, l)

  cell_rank : (b : ℕ) (c : Cell) → At w b c → refers_on (Some c) ≡ false → rank b ≡ 0
  cell_rank b c t n = rank_zero b t.0 c t.1 t.2 n

  final_inside : (a x : ℕ) → final_at ws a ≡ Some x → (inside_at ws a ≡ Some x) × (is_final_word x ≡ true)
  final_inside a x e = go (inside_at ws a) refl e
    where
      go : (o : Option ℕ) → inside_at ws a ≡ o → only_final o ≡ Some x → (inside_at ws a ≡ Some x) × (is_final_word x ≡ true)
      go None p q = let no : ⊥ = cc in absurd no
      go (Some y) p q =
          let r = cond_some (is_final_word y) y x q in
          (p ∙ ap Some r.1, subst (λ z. is_final_word z ≡ true) r.1 r.0)

  -- along a view ranks fall
  module _ (x m : ℕ) (c : Cell) (is : decoded x ≡ Some c) (some : 0 < m) where
    view_falls : View w vs x m → (b : ℕ) → Reaches c b → (rank b < m) × (refers_on (Some c) ≡ true)
    view_falls (constant d q k) b r =
        absurd (constant_refers c b (subst (λ z. is_constant z ≡ true) (same_cell x d c q is) k) (reaches_refers c b r))
    view_falls (wide a u low q t) b r = absurd (subst (λ z. Reaches z b) (same_cell x c (Wide a u) is q) r)
    view_falls (place a v (inl q) l) b r =
        let e : c ≡ Ref a = same_cell x c (Ref a) is q in
        let s : b ≡ a = subst (λ z. Reaches z b) e r in
        (omega (arith, ap rank s, cell_rank a (Unbound 0) (h.places v a l).2 refl, some), ap (λ z. refers_on (Some z)) e)
    view_falls (place a v (inr q) l) b r =
        let e : c ≡ RoRef a = same_cell x c (RoRef a) is q in
        let s : b ≡ a = subst (λ z. Reaches z b) e r in
        (omega (arith, ap rank s, cell_rank a (Unbound 0) (h.places v a l).2 refl, some), ap (λ z. refers_on (Some z)) e)
    view_falls (pair k q s t) b r =
        let e : c ≡ Cons k = same_cell x c (Cons k) is q in (
          ⊎_elim
              (λ g. omega (arith, ap rank g, child_rank k m s))
              (λ g. omega (arith, ap rank g, child_rank (suc k) m t))
              (subst (λ z. Reaches z b) e r),
          ap (λ z. refers_on (Some z)) e,
        )
    view_falls (group k n q t f) b r = absurd (subst (λ z. Reaches z b) (same_cell x c (Tuple k) is q) r)

  rank_above : (a b x : ℕ) (c : Cell) → inside_at ws a ≡ Some x → decoded x ≡ Some c
      → ((e : Expr Variable) → ExprSays w vs x e → (rank b < expr_weight e) × (refers_on (Some c) ≡ true))
      → (IsQuiet x → ⊥) → (decoded x ≡ Some (Status Ready) → ⊥) → rank b < rank a
  rank_above a b x c at d falls no_quiet no_status = let r = rank_is a x at in subst (λ k. rank b < k) (sym r.1) (go r.0)
    where
      go : (s : Sort ws vs procs a x) → rank b < sort_rank a x s
      go (inl (inl q)) = absurd (no_quiet q)
      go (inl (inr s)) =
          let f = falls s.0 s.1 in
          subst (λ k. rank b < k) (sym (ap (λ t. cond t (expr_weight s.0) 0) (ap refers_on d ∙ f.1))) f.0
      go (inr s) = absurd (no_status s.1)

  no_cycle : Acyclic (final_at ws)
  no_cycle = record {
    rank = rank;
    falls = λ a b x c e d r. rank_above a b x c (final_inside a x e).0 d
        (λ k says. view_falls x (expr_weight k) c d (some_expr_weight k) (view w vs x k says) b r)
        (λ q. quiet_refers q.cell b q.quiet (subst (λ z. Refers z b) (same_cell x c q.cell d q.says) (reaches_refers c b r)))
        (λ s. subst (λ z. Reaches z b) (same_cell x c (Status Ready) d s) r);
    falls_by = λ a b x t y n c e d tells at raw by. rank_above a b x c (final_inside a x e).0 d
        (λ k says.
        let v = view_tells x (expr_weight k) c d (view w vs x k says) t y n b tells (final_inside t y at).0 raw
        (reaches_by_refers n c b by) in
        (child_rank b (expr_weight k) v.1, ap (λ z. refers_on (Some z)) v.0))
        (λ q. let z : None ≡ Some t = sym (quiet_tells q.cell q.quiet) ∙ ap teller (same_cell x q.cell c q.says d) ∙ tells in cc)
        (λ s. let z : None ≡ Some t = ap teller (same_cell x (Status Ready) c s d) ∙ tells in cc);
    order = λ a. 0;
    links = λ a c x y n e d at raw. absurd (no_link a c x y n (h.all a x (final_inside a x e).0) d (final_inside c y at).0 raw);
  }
    where
      -- no waiting entry is laid
      no_link : (a c x y n : ℕ) → Sort ws vs procs a x → decoded x ≡ Some (Cons c) → inside_at ws c ≡ Some y → decoded y ≡ Some (Raw n) → ⊥
      no_link a c x y n (inl (inl q)) d at raw =
          let z : is_quiet (Cons c) ≡ true = subst (λ k. is_quiet k ≡ true) (same_cell x q.cell (Cons c) q.says d) q.quiet in cc
      no_link a c x y n (inr s) d at raw = let z : Status Ready ≡ Cons c = same_cell x (Status Ready) (Cons c) s.1 d in cc
      no_link a c x y n (inl (inr s)) d at raw =
          let v = view_tells x (expr_weight s.0) (Cons c) d (view w vs x s.0 s.1) c y n n refl at raw (inl refl) in
          let z : Cons c ≡ Tuple c = v.0 in cc

  pub laid_heap : IsHeap ws
  laid_heap = record {
    whole = h.pages.whole;
    small = h.pages.small;
    above = h.pages.above;
    within = h.pages.within;
    inside = word_inside;
    process = λ p x b d e is lo hi. h.behind p b (status_in p x d e is) lo hi;
    arguments = λ p x y n b d e is at raw lo hi. h.arguments p y n b (status_in p x d e is) at raw lo hi;
    no_cycle = no_cycle;
  }

  pub laid_status : (a x : ℕ) (d : Stand) → inside_at ws a ≡ Some x → decoded x ≡ Some (Status d) → IsIn a procs
  laid_status = status_in
