-- The names of the new places and of the children.
use Rattle.std.proofs.Common.{◌≡◌, ℕ, suc, ◌+◌, ◌<◌, ◌≤◌, true, List, [], ◌∷◌, length, map, refl, sym, ap, ◌∙◌, inl, inr, arith, Some}
use Rattle.std.specs.Prelude.{pos}
use Rattle.std.proofs.lemmas.Int.{ints}
use Rattle.std.proofs.lemmas.Bool.{and_parts, eqb-true}
use Rattle.fcp_model.specs.declared.run.Proc.{Proc}
use Rattle.fcp_model.specs.Places.{Variable, own, placed, is_same_process}
use Rattle.fcp_model.specs.Terms.{Term, number, string, nil, cons, tuple, var, ro, first, Terms, none, more, settle, rename, renames}
use Rattle.fcp_model.specs.Expressions.{Expr, leaf, op, rename_expr}
use Rattle.fcp_model.specs.Programs.{Goal, user, true', unifies, assigns, rename_goal}
use Rattle.fcp_model.specs.States.{Process, count_up, processes_of}
use Rattle.heap_words.specs.Cells.{decoded}
use Rattle.heap_words.specs.declared.cell.Cell.TheVariants.{Small, Raw}
use Rattle.heap_words.proofs.Encodings.{decoded_encoded}
use Rattle.word_states.specs.Words.{Words, At}
use Rattle.word_states.specs.Denoting.{Addresses, Listed, GoalSays}
use Rattle.word_states.specs.Standing.{StandsAt, name_code}
use Rattle.word_states.specs.Pieces.{numbered}
use Rattle.word_states.specs.Layouts.{name_word}
use Rattle.word_state_laws.proofs.Moving.{arity}

-- names
settle_own : (n : ℕ) → (λ (k : ℕ). settle n (own k)) ≡ placed n
settle_own n = refl

mutual
  rename_twice : (n : ℕ) (t : Term ℕ) → rename (settle n) (rename own t) ≡ rename (placed n) t
  rename_twice n (number z) = refl
  rename_twice n (string z) = refl
  rename_twice n nil = refl
  rename_twice n (cons a b) = λ i. cons (rename_twice n a i) (rename_twice n b i)
  rename_twice n (tuple ts) = ap tuple (renames_twice n ts)
  rename_twice n (var v) = refl
  rename_twice n (ro v) = refl
  rename_twice n (first k) = refl

  renames_twice : (n : ℕ) (ts : Terms ℕ) → renames (settle n) (renames own ts) ≡ renames (placed n) ts
  renames_twice n none = refl
  renames_twice n (more t ts) = λ i. more (rename_twice n t i) (renames_twice n ts i)

all_twice : (n : ℕ) (ts : List (Term ℕ)) → map (rename (settle n)) (map (rename own) ts) ≡ map (rename (placed n)) ts
all_twice n [] = refl
all_twice n (t ∷ ts) = λ i. rename_twice n t i ∷ all_twice n ts i

expr_twice : (n : ℕ) (e : Expr ℕ) → rename_expr (settle n) (rename_expr own e) ≡ rename_expr (placed n) e
expr_twice n (leaf t) = ap leaf (rename_twice n t)
expr_twice n (op o a b) = λ i. op o (expr_twice n a i) (expr_twice n b i)

pub goal_twice : (n : ℕ) (g : Goal ℕ) → rename_goal (settle n) (rename_goal own g) ≡ rename_goal (placed n) g
goal_twice n (user p ts) = ap (user p) (all_twice n ts)
goal_twice n true' = refl
goal_twice n (unifies t u) = λ i. unifies (rename_twice n t i) (rename_twice n u i)
goal_twice n (assigns t e) = λ i. assigns (rename_twice n t i) (expr_twice n e i)

pub fresh_names : (f : ℕ → ℕ) (n k : ℕ) (as' : List ℕ)
    → map (λ (b : Variable × ℕ). b.0) (map (λ (b : Variable × ℕ). (settle n b.0, f b.1)) (numbered k as')) ≡ map (placed n)
    (count_up k (length as'))
fresh_names f n k [] = refl
fresh_names f n k (a ∷ as') = ap (λ (l : List Variable). placed n k ∷ l) (fresh_names f n (suc k) as')

pub listed_moved : (f : ℕ → ℕ) (g : Variable → Variable) (bs : Addresses) (v : Variable) (a : ℕ) → Listed bs v a
    → Listed (map (λ (b : Variable × ℕ). (g b.0, f b.1)) bs) (g v) (f a)
listed_moved f g [] v a h = absurd h
listed_moved f g (b ∷ bs) v a (inl e) = inl (λ i. (g (e i).0, f (e i).1))
listed_moved f g (b ∷ bs) v a (inr h) = inr (listed_moved f g bs v a h)

pub moved_listed : (f : ℕ → ℕ) (g : Variable → Variable) (bs : Addresses) (u : Variable) (c : ℕ)
    → Listed (map (λ (b : Variable × ℕ). (g b.0, f b.1)) bs) u c → (v : Variable) × (a : ℕ) × Listed bs v a × (u ≡ g v) × (c ≡ f a)
moved_listed f g [] u c h = absurd h
moved_listed f g (b ∷ bs) u c (inl e) = (b.0, b.1, inl refl, (λ i. (sym e i).0), (λ i. (sym e i).1))
moved_listed f g (b ∷ bs) u c (inr h) = let r = moved_listed f g bs u c h in (r.0, r.1, inr r.2, r.3, r.4)

-- a name has its word
pub named : (n k : ℕ) → n < 134217728 → k < 268435456 → decoded (name_word n k) ≡ Some (Small (pos (name_code n k)))
named n k h l = decoded_encoded (Small (pos (name_code n k))) (omega (arith, ints), omega (arith, ints))

pub processes_size : (n i : ℕ) (gs : List (Goal Variable)) → length (processes_of n i gs) ≡ length gs
processes_size n i [] = refl
processes_size n i (g ∷ gs) = ap suc (processes_size n (suc i) gs)

-- the names of children are numbered
child_number : (as' : List ℕ) (n i : ℕ) (gs : List (Goal Variable)) (q : ℕ) (y : Process) → StandsAt as' (processes_of n i gs) q y
    → i ≤ y.name.number
child_number [] n i gs q y h = absurd h
child_number (a ∷ as') n i [] q y h = absurd h
child_number (a ∷ as') n i (g ∷ gs) q y (inl h) = let e : i ≡ y.name.number = ap (λ (z : Process). z.name.number) h.1 in omega arith
child_number (a ∷ as') n i (g ∷ gs) q y (inr h) = let l = child_number as' n (suc i) gs q y h in omega arith

pub same_child : (as' : List ℕ) (n i : ℕ) (gs : List (Goal Variable)) (q r : ℕ) (y z : Process) → StandsAt as' (processes_of n i gs) q y
    → StandsAt as' (processes_of n i gs) r z → y.name.number ≡ z.name.number → (q ≡ r) × (y ≡ z)
same_child [] n i gs q r y z h k e = absurd h
same_child (a ∷ as') n i [] q r y z h k e = absurd h
same_child (a ∷ as') n i (g ∷ gs) q r y z (inl h) (inl k) e = (sym h.0 ∙ k.0, sym h.1 ∙ k.1)
same_child (a ∷ as') n i (g ∷ gs) q r y z (inl h) (inr k) e =
    let l = child_number as' n (suc i) gs r z k in let f : i ≡ y.name.number = ap (λ (z : Process). z.name.number) h.1 in
    absurd (omega arith)
same_child (a ∷ as') n i (g ∷ gs) q r y z (inr h) (inl k) e =
    let l = child_number as' n (suc i) gs q y h in let f : i ≡ z.name.number = ap (λ (z : Process). z.name.number) k.1 in
    absurd (omega arith)
same_child (a ∷ as') n i (g ∷ gs) q r y z (inr h) (inr k) e = same_child as' n (suc i) gs q r y z h k e

pub same_number : (p q : Proc) → is_same_process p q ≡ true → p.number ≡ q.number
same_number p q e = eqb-true _ _ (and_parts _ _ e).1

pub arity_at : (w : Words) (vs : Addresses) (s : ℕ) (h : Goal Variable) → GoalSays w vs s h → At w (s + 3) (Raw (arity h))
arity_at w vs s (user p ts) g = g.1
arity_at w vs s true' g = g.1
arity_at w vs s (unifies t u) g = g.1
arity_at w vs s (assigns t e) g = g.1
