-- Lists of procedures, each of which stands once, and the positions of their clauses.
use Rattle.std.proofs.Common.{◌≡◌, ℕ, suc, ◌+◌, ◌<◌, ◌≤◌, Bool, true, false, cond, nat_eq, ◌||◌, not, List, [], ◌∷◌, ◌++◌, length, map, take, set, get_or, fold, if◌then◌else◌, ap, sym, subst, ◌∙◌, refl, arith, true≢false, ◌⊎◌, inl, inr, All, Some, None, nat_lt, position}
use Rattle.std.specs.List.{list_any, position_or_len}
use Rattle.std.proofs.lemmas.Bool.{and_parts, and_from, eqb-true, eq-eqb, or_parts, or_from, not-true, not-false, cases_lt, and_right, ne_eqb, le-ltb}
use Rattle.std.proofs.lemmas.List.{take_more, length-take-le, length_push, map-set, map_push, length-map, set_past, get_or-map}
use Rattle.std.proofs.lemmas.List.Folds.{list_any-append, list_any_none}
use Rattle.std.proofs.lemmas.List.Elements.{All-weaker, All-append, All-cons, All-nil, All-head, All-tail}
use Rattle.std.proofs.lemmas.List.Sums.{fold-append}
use Rattle.indexmap.specs.IndexSet.{insert_key}
use Rattle.fcp_model.specs.declared.loaded.ProcedureName.{ProcedureName}
use Rattle.fcp_model.specs.declared.source.Clause.{Clause}
use Rattle.fcp_model.specs.ProcedureNames.{same_procedure, procedure_name, procedure_names, put_if, positions_from, positions_in, with_position}

pub same_procedure-true : (g h : ProcedureName) → same_procedure g h ≡ true → g ≡ h
same_procedure-true g h e =
    let p = and_parts (nat_eq g.name.0 h.name.0) (nat_eq g.arity h.arity) e in
    λ i. record { name = record { 0 = eqb-true g.name.0 h.name.0 p.0 i }; arity = eqb-true g.arity h.arity p.1 i }

pub same_procedure_refl : (g : ProcedureName) → same_procedure g g ≡ true
same_procedure_refl g =
    and_from (nat_eq g.name.0 g.name.0) (nat_eq g.arity g.arity) (eq-eqb g.name.0 g.name.0 refl) (eq-eqb g.arity g.arity refl)

pub same_procedure_comm : (g h : ProcedureName) → same_procedure g h ≡ same_procedure h g
same_procedure_comm g h = by (same_procedure g h) (same_procedure h g) refl refl
  where
    by : (b c : Bool) → same_procedure g h ≡ b → same_procedure h g ≡ c → b ≡ c
    by true c p q = sym (subst (λ x. same_procedure x g ≡ true) (same_procedure-true g h p) (same_procedure_refl g)) ∙ q
    by false true p q = sym p ∙ subst (λ x. same_procedure x h ≡ true) (same_procedure-true h g q) (same_procedure_refl h)
    by false false p q = refl

-- no procedure stands twice
abbrev pub Apart : List ProcedureName → Type 0
Apart [] = Unit {0}
Apart (g ∷ gs) = (list_any (same_procedure g) gs ≡ false) × Apart gs

one-add : (n : ℕ) → 1 + n ≡ suc n
one-add n = omega arith

cond-cons : (x : ℕ) (b : Bool) (xs ys : List ℕ) → (x ∷ cond b xs ys) ≡ cond b (x ∷ xs) (x ∷ ys)
cond-cons x true xs ys = refl
cond-cons x false xs ys = refl

or_none : (b : Bool) → b ≡ (b || false)
or_none true = refl
or_none false = refl

or_regroup : (a b c : Bool) → ((a || (b || false)) || c) ≡ (a || (b || c))
or_regroup true b c = refl
or_regroup false true c = refl
or_regroup false false c = refl

-- which procedures are there after one more
any-insert_key : (gs : List ProcedureName) (h k : ProcedureName)
    → list_any (same_procedure k) (insert_key same_procedure gs h) ≡ (list_any (same_procedure k) gs || (same_procedure k h || false))
any-insert_key gs h k = by (list_any (same_procedure h) gs) (same_procedure k h) refl refl
  where
    by : (b c : Bool) → list_any (same_procedure h) gs ≡ b → same_procedure k h ≡ c
        → list_any (same_procedure k) (insert_key same_procedure gs h) ≡ (list_any (same_procedure k) gs || (same_procedure k h || false))
    by true true p q = rw (p, q, subst (λ x. list_any (same_procedure x) gs ≡ true) (sym (same_procedure-true k h q)) p) refl
    by true false p q = rw (p, q) (or_none (list_any (same_procedure k) gs))
    by false c p q = rw p (list_any-append (same_procedure k) gs (h ∷ []))

-- the procedures of more clauses, after some
abbrev pub procedure_names_after : List ProcedureName → List Clause → List ProcedureName
procedure_names_after gs cs = fold (λ hs c. insert_key same_procedure hs (procedure_name c)) gs cs

any-procedure_names_after : (gs : List ProcedureName) (cs : List Clause) (k : ProcedureName)
    → list_any (same_procedure k) (procedure_names_after gs cs)
    ≡ (list_any (same_procedure k) gs || list_any (λ c. same_procedure k (procedure_name c)) cs)
any-procedure_names_after gs [] k = or_none (list_any (same_procedure k) gs)
any-procedure_names_after gs (c ∷ cs) k =
    any-procedure_names_after (insert_key same_procedure gs (procedure_name c)) cs k
    ∙ ap (λ b. b || list_any (λ c. same_procedure k (procedure_name c)) cs) (any-insert_key gs (procedure_name c) k)
    ∙ or_regroup (list_any (same_procedure k) gs) (same_procedure k (procedure_name c))
    (list_any (λ c. same_procedure k (procedure_name c)) cs)

-- a test that all fail has no position
position-absent : {X : Type 0} (p : X → Bool) (xs : List X) → list_any p xs ≡ false → position p xs ≡ None
position-absent {X = X} p xs none =
    ap (λ n. cond (nat_lt n (length xs)) (Some n) None) (at_end xs none)
    ∙ ap (λ b. cond b (Some (length xs)) None) (le-ltb (length xs) (length xs) (omega arith))
  where
    at_end : (ys : List X) → list_any p ys ≡ false → position_or_len p ys ≡ length ys
    at_end [] e = refl
    at_end (y ∷ ys) e =
        let parts = or_parts (p y) (list_any p ys) e in
        ap (λ b. cond (not b) (1 + position_or_len p ys) 0) parts.0 ∙ ap (λ n. 1 + n) (at_end ys parts.1) ∙ one-add (length ys)

-- no procedure has more arguments than each of some procedures may have
pub position-long : (hs : List ProcedureName) (h : ProcedureName) (most : ℕ) → All (λ g. g.arity < most) hs → most ≤ h.arity
    → position (same_procedure h) hs ≡ None
position-long hs h most short long =
    let other : (g : ProcedureName) → g.arity < most → same_procedure h g ≡ false =
    λ g k. and_right (nat_eq h.name.0 g.name.0) (nat_eq h.arity g.arity) (ne_eqb h.arity g.arity (λ e. omega (arith, e, k, long))) in
    position-absent (same_procedure h) hs (list_any_none (same_procedure h) hs
    (All-weaker (λ g. g.arity < most) (λ g. same_procedure h g ≡ false) other hs short))

module _ (P : ProcedureName → Type 0) where
  inserted_pass : (gs : List ProcedureName) (k : ProcedureName) → All P gs → P k → All P (insert_key same_procedure gs k)
  inserted_pass gs k each last = by (list_any (same_procedure k) gs)
    where
      by : (b : Bool) → All P (if b then gs else gs ++ k ∷ [])
      by true = each
      by false = All-append P gs (k ∷ []) each (All-cons P k [] last (All-nil P))

  names_after_pass : (gs : List ProcedureName) (cs : List Clause) → All P gs → All (λ c. P (procedure_name c)) cs
      → All P (procedure_names_after gs cs)
  names_after_pass gs [] each more = each
  names_after_pass gs (c ∷ cs) each more =
      names_after_pass (insert_key same_procedure gs (procedure_name c)) cs
      (inserted_pass gs (procedure_name c) each (All-head (λ c. P (procedure_name c)) c cs more))
      (All-tail (λ c. P (procedure_name c)) c cs more)

  -- what holds of each clause's procedure holds of the procedures
  pub procedure_names_pass : (cs : List Clause) → All (λ c. P (procedure_name c)) cs → All P (procedure_names cs)
  procedure_names_pass cs each = names_after_pass [] cs (All-nil P) each

-- each procedure stands once
Apart_push : (gs : List ProcedureName) (k : ProcedureName) → Apart gs → list_any (same_procedure k) gs ≡ false → Apart (gs ++ k ∷ [])
Apart_push [] k a none = (refl, tt)
Apart_push (g ∷ gs) k a none =
    let p = or_parts (same_procedure k g) (list_any (same_procedure k) gs) none in (
      list_any-append (same_procedure g) gs (k ∷ [])
          ∙ or_from (list_any (same_procedure g) gs) (same_procedure g k || false) a.0
          (or_from (same_procedure g k) false (same_procedure_comm g k ∙ p.0) refl),
      Apart_push gs k a.1 p.1,
    )

Apart_insert : (gs : List ProcedureName) (k : ProcedureName) → Apart gs → Apart (insert_key same_procedure gs k)
Apart_insert gs k a = by (list_any (same_procedure k) gs) refl
  where
    by : (b : Bool) → list_any (same_procedure k) gs ≡ b → Apart (insert_key same_procedure gs k)
    by true e = subst (λ b. Apart (if b then gs else gs ++ k ∷ [])) (sym e) a
    by false e = subst (λ b. Apart (if b then gs else gs ++ k ∷ [])) (sym e) (Apart_push gs k a e)

pub Apart_heads : (gs : List ProcedureName) (cs : List Clause) → Apart gs → Apart (procedure_names_after gs cs)
Apart_heads gs [] a = a
Apart_heads gs (c ∷ cs) a = Apart_heads (insert_key same_procedure gs (procedure_name c)) cs (Apart_insert gs (procedure_name c) a)

-- the positions of a procedure, where the first clause is one of its own, and where it is not
positions-own : (n : ℕ) (h : ProcedureName) (c : Clause) (cs : List Clause) → same_procedure h (procedure_name c) ≡ true
    → positions_from n h (c ∷ cs) ≡ n ∷ positions_from (n + 1) h cs
positions-own n h c cs e = ap (λ b. put_if b n (positions_from (n + 1) h cs)) e

positions-other : (n : ℕ) (h : ProcedureName) (c : Clause) (cs : List Clause) → same_procedure h (procedure_name c) ≡ false
    → positions_from n h (c ∷ cs) ≡ positions_from (n + 1) h cs
positions-other n h c cs e = ap (λ b. put_if b n (positions_from (n + 1) h cs)) e

-- a procedure that no clause has
positions-absent : (n : ℕ) (k : ProcedureName) (cs : List Clause) → list_any (λ c. same_procedure k (procedure_name c)) cs ≡ false
    → positions_from n k cs ≡ []
positions-absent n k [] none = refl
positions-absent n k (c ∷ cs) none =
    let p = or_parts (same_procedure k (procedure_name c)) (list_any (λ d. same_procedure k (procedure_name d)) cs) none in
    positions-other n k c cs p.0 ∙ positions-absent (n + 1) k cs p.1

-- the positions with one more clause, which is the last
positions-push : (n : ℕ) (h : ProcedureName) (cs : List Clause) (c : Clause)
    → positions_from n h (cs ++ c ∷ []) ≡ cond (same_procedure h (procedure_name c)) (positions_from n h cs ++ (n + length cs) ∷ [])
    (positions_from n h cs)
positions-push n h [] c =
    by (same_procedure h (procedure_name c)) ∙ ap (λ m. cond (same_procedure h (procedure_name c)) (m ∷ []) []) (omega arith)
  where
    by : (b : Bool) → put_if b n [] ≡ cond b (n ∷ []) []
    by true = refl
    by false = refl
positions-push n h (d ∷ cs) c = by (same_procedure h (procedure_name d)) refl (positions-push (n + 1) h cs c)
  where
    by : (a : Bool) → same_procedure h (procedure_name d) ≡ a
        → positions_from (n + 1) h (cs ++ c ∷ [])
        ≡ cond (same_procedure h (procedure_name c)) (positions_from (n + 1) h cs ++ (n + 1 + length cs) ∷ [])
        (positions_from (n + 1) h cs)
        → positions_from n h (d ∷ (cs ++ c ∷ []))
        ≡ cond (same_procedure h (procedure_name c)) (positions_from n h (d ∷ cs) ++ (n + suc (length cs)) ∷ [])
        (positions_from n h (d ∷ cs))
    by true p e =
        positions-own n h d (cs ++ c ∷ []) p
        ∙ ap (λ l. n ∷ l) (e ∙ ap (λ m. cond (same_procedure h (procedure_name c)) (positions_from (n + 1) h cs ++ m ∷ [])
        (positions_from (n + 1) h cs)) (omega arith))
        ∙ cond-cons n (same_procedure h (procedure_name c)) (positions_from (n + 1) h cs ++ (n + suc (length cs)) ∷ [])
        (positions_from (n + 1) h cs)
        ∙ ap (λ l. cond (same_procedure h (procedure_name c)) (l ++ (n + suc (length cs)) ∷ []) l) (sym (positions-own n h d cs p))
    by false p e =
        positions-other n h d (cs ++ c ∷ []) p
        ∙ e
        ∙ ap (λ m. cond (same_procedure h (procedure_name c)) (positions_from (n + 1) h cs ++ m ∷ []) (positions_from (n + 1) h cs))
        (omega arith)
        ∙ ap (λ l. cond (same_procedure h (procedure_name c)) (l ++ (n + suc (length cs)) ∷ []) l) (sym (positions-other n h d cs p))

-- one more position for the procedure k, where `of` gives each procedure's positions
module _ (of : ProcedureName → List ℕ) (k : ProcedureName) (n : ℕ) where
  added : ProcedureName → List ℕ
  added h = if same_procedure h k then of h ++ n ∷ [] else of h

  added-others : (gs : List ProcedureName) → list_any (same_procedure k) gs ≡ false → map of gs ≡ map added gs
  unfolding added
  added-others [] none = refl
  added-others (g ∷ gs) none =
      let p = or_parts (same_procedure k g) (list_any (same_procedure k) gs) none in
      rw (same_procedure_comm g k, p.0) (ap (λ l. of g ∷ l) (added-others gs p.1))

  with_position-map : (gs : List ProcedureName) → Apart gs → (list_any (same_procedure k) gs ≡ false → of k ≡ [])
      → with_position gs k n (map of gs) ≡ map added (insert_key same_procedure gs k)
  unfolding added
  with_position-map [] a none = rw (same_procedure_refl k, none refl) refl
  with_position-map (g ∷ gs) a none = by (same_procedure k g) (list_any (same_procedure k) gs) refl refl (with_position-map gs a.1)
    where
      by : (b c : Bool) → same_procedure k g ≡ b → list_any (same_procedure k) gs ≡ c
          → ((list_any (same_procedure k) gs ≡ false → of k ≡ [])
          → with_position gs k n (map of gs) ≡ map added (insert_key same_procedure gs k))
          → with_position (g ∷ gs) k n (map of (g ∷ gs)) ≡ map added (insert_key same_procedure (g ∷ gs) k)
      by true c p q rest =
          rw (p, same_procedure_comm g k, p) (ap (λ l. (of g ++ n ∷ []) ∷ l)
          (added-others gs (subst (λ x. list_any (same_procedure x) gs ≡ false) (sym (same_procedure-true k g p)) a.0)))
      by false true p q rest = rw (p, q, same_procedure_comm g k, p) (ap (λ l. of g ∷ l) (rw q at rest (λ e. absurd (true≢false e))))
      by false false p q rest = rw (p, q, same_procedure_comm g k, p) (ap (λ l. of g ∷ l) (rw q at rest (λ e. none (rw (p, q) refl))))

-- a list of clauses with one more, which is the last
pub procedure_names_push : (cs : List Clause) (c : Clause)
    → procedure_names (cs ++ c ∷ []) ≡ insert_key same_procedure (procedure_names cs) (procedure_name c)
procedure_names_push cs c = fold-append (λ hs c. insert_key same_procedure hs (procedure_name c)) [] cs (c ∷ [])

pub positions_in_push : (cs : List Clause) (c : Clause)
    → with_position (procedure_names cs) (procedure_name c) (length cs) (positions_in cs) ≡ positions_in (cs ++ c ∷ [])
unfolding added
positions_in_push cs c =
    with_position-map (λ h. positions_from 0 h cs) (procedure_name c) (length cs) (procedure_names cs) (Apart_heads [] cs tt)
    (λ none. positions-absent 0 (procedure_name c) cs (sym (any-procedure_names_after [] cs (procedure_name c)) ∙ none))
    ∙ ap (λ m. map (λ h. cond (same_procedure h (procedure_name c)) (positions_from 0 h cs ++ m ∷ []) (positions_from 0 h cs))
    (insert_key same_procedure (procedure_names cs) (procedure_name c))) (omega arith)
    ∙ (λ i. map (λ h. sym (positions-push 0 h cs c) i) (sym (procedure_names_push cs c) i))

-- the first clauses and the next one
pub procedure_names_more : (cs : List Clause) (i : ℕ) (c : Clause) → i < length cs → c ≡ get_or cs i c
    → procedure_names (take (i + 1) cs) ≡ insert_key same_procedure (procedure_names (take i cs)) (procedure_name c)
procedure_names_more cs i c h e = rw (take_more cs i c h, ← e) (procedure_names_push (take i cs) c)

pub positions_in_more : (cs : List Clause) (i : ℕ) (c : Clause) → i < length cs → c ≡ get_or cs i c
    → positions_in (take (i + 1) cs) ≡ with_position (procedure_names (take i cs)) (procedure_name c) i (positions_in (take i cs))
positions_in_more cs i c h e =
    rw (take_more cs i c h, ← e)
    (sym (positions_in_push (take i cs) c) ∙ ap
    (λ n. with_position (procedure_names (take i cs)) (procedure_name c) n (positions_in (take i cs)))
    (length-take-le i cs (omega arith)))

pub length-insert_key : (gs : List ProcedureName) (k : ProcedureName) → length (insert_key same_procedure gs k) ≤ length gs + 1
length-insert_key gs k = by (list_any (same_procedure k) gs)
  where
    by : (b : Bool) → length (if b then gs else gs ++ k ∷ []) ≤ length gs + 1
    by true = omega arith
    by false = omega (arith, length_push gs k)

-- the lists after one was added for a new procedure
abbrev pub with_list : List ProcedureName → ProcedureName → List (List ℕ) → List (List ℕ)
with_list gs h pss = cond (list_any (same_procedure h) gs) pss (pss ++ [] ∷ [])

-- the lists with a position put last in the n-th
abbrev pub put_last : ℕ → ℕ → List (List ℕ) → List (List ℕ)
put_last n at pss = set pss n (get_or pss n [] ++ at ∷ [])

put_last-cons : (n at : ℕ) (ps : List ℕ) (pss : List (List ℕ)) → put_last (1 + n) at (ps ∷ pss) ≡ ps ∷ put_last n at pss
put_last-cons n at ps pss = ap (λ m. put_last m at (ps ∷ pss)) (one-add n)

with_list-cons : (g : ProcedureName) (gs : List ProcedureName) (h : ProcedureName) (ps : List ℕ) (pss : List (List ℕ))
    → same_procedure h g ≡ false → with_list (g ∷ gs) h (ps ∷ pss) ≡ ps ∷ with_list gs h pss
with_list-cons g gs h ps pss p =
    ap (λ b. cond (b || list_any (same_procedure h) gs) (ps ∷ pss) (ps ∷ (pss ++ [] ∷ []))) p ∙ by (list_any (same_procedure h) gs)
  where
    by : (b : Bool) → cond b (ps ∷ pss) (ps ∷ (pss ++ [] ∷ [])) ≡ ps ∷ cond b pss (pss ++ [] ∷ [])
    by true = refl
    by false = refl

-- a position goes to the list of its procedure
pub with_position_at : (gs : List ProcedureName) (h : ProcedureName) (at : ℕ) (pss : List (List ℕ)) → length gs ≡ length pss
    → put_last (position_or_len (same_procedure h) gs) at (with_list gs h pss) ≡ with_position gs h at pss
with_position_at [] h at [] e = refl
with_position_at [] h at (ps ∷ pss) e = absurd (omega (arith, e))
with_position_at (g ∷ gs) h at [] e = absurd (omega (arith, e))
with_position_at (g ∷ gs) h at (ps ∷ pss) e = by (same_procedure h g) refl (with_position_at gs h at pss (omega (arith, e)))
  where
    by : (a : Bool) → same_procedure h g ≡ a
        → put_last (position_or_len (same_procedure h) gs) at (with_list gs h pss) ≡ with_position gs h at pss
        → put_last (position_or_len (same_procedure h) (g ∷ gs)) at (with_list (g ∷ gs) h (ps ∷ pss))
        ≡ with_position (g ∷ gs) h at (ps ∷ pss)
    by true p rest = rw p refl
    by false p rest =
        ap (put_last (cond (not (same_procedure h g)) (1 + position_or_len (same_procedure h) gs) 0) at) (with_list-cons g gs h ps pss p)
        ∙ ap (λ b. put_last (cond (not b) (1 + position_or_len (same_procedure h) gs) 0) at (ps ∷ with_list gs h pss)) p
        ∙ put_last-cons (position_or_len (same_procedure h) gs) at ps (with_list gs h pss)
        ∙ ap (λ l. ps ∷ l) rest
        ∙ ap (λ b. cond b ((ps ++ at ∷ []) ∷ pss) (ps ∷ with_position gs h at pss)) (sym p)

-- the same where each list is held by a `Vec`
pub put_last_in : {V : Type 0} (list : V → List ℕ) (vs : List V) (n at : ℕ) (v w : V) → v ≡ get_or vs n v → list w ≡ list v ++ at ∷ []
    → map list (set vs n w) ≡ put_last n at (map list vs)
put_last_in list vs n at v w e k = map-set list vs n w ∙ by (cases_lt n (length vs))
  where
    by : (n < length vs) ⊎ (length vs ≤ n) → set (map list vs) n (list w) ≡ put_last n at (map list vs)
    by (inl h) = ap (λ l. set (map list vs) n l) (k ∙ ap (λ l. l ++ at ∷ []) (ap list e ∙ sym (get_or-map list vs n v [] h)))
    by (inr h) =
        let past : length (map list vs) ≤ n = omega (arith, length-map vs list) in
        set_past (map list vs) n (list w) past ∙ sym (set_past (map list vs) n (get_or (map list vs) n [] ++ at ∷ []) past)

-- where the test of a new procedure held, and where it failed
pub with_list-new : {V : Type 0} (list : V → List ℕ) (vs : List V) (v : V) (gs : List ProcedureName) (h : ProcedureName)
    → true ≡ not (list_any (same_procedure h) gs) → list v ≡ [] → map list (vs ++ v ∷ []) ≡ with_list gs h (map list vs)
with_list-new list vs v gs h new none =
    map_push list vs v
    ∙ ap (λ l. map list vs ++ l ∷ []) none
    ∙ ap (λ b. cond b (map list vs) (map list vs ++ [] ∷ [])) (sym (not-true (list_any (same_procedure h) gs) (sym new)))

pub with_list-old : (pss : List (List ℕ)) (gs : List ProcedureName) (h : ProcedureName) → false ≡ not (list_any (same_procedure h) gs)
    → pss ≡ with_list gs h pss
with_list-old pss gs h old = ap (λ b. cond b pss (pss ++ [] ∷ [])) (sym (not-false (list_any (same_procedure h) gs) (sym old)))
