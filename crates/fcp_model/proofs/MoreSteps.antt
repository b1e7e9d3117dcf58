-- More steps change no answer: values, the occurs check, pairs and unification.
use Rattle.std.proofs.Common.{◌≡◌, ℕ, zero, suc, ◌+◌, ◌-◌, ◌≤◌, Bool, true, false, List, [], ◌∷◌, ◌++◌, Option, Some, None, refl, arith}
use Rattle.fcp_model.specs.Places.{Variable, own}
use Rattle.fcp_model.specs.Terms.{Term, number, string, nil, cons, tuple, var, ro, first, Terms, none, more, Bindings, find}
use Rattle.fcp_model.specs.Value.{Look, writable, read_only, solid, through, value_of, value}
use Rattle.fcp_model.specs.Occurs.{Found, hit, miss, then_found, or_else, walk, walks, behind_leaf, leaf_is, occurs}
use Rattle.fcp_model.specs.Pair.{Pair, Step, nothing, binds, clashes, waits, parts, Treated, bind_solid, table, both_looks, first_of, pair_on, pair}
use Rattle.fcp_model.specs.Unification.{Next, step_on, go_on, unify}

-- what the first answers the second answers too
abbrev pub Refines : {A : Type 0} → Option A → Option A → Type 0
Refines {A} o o' = (x : A) → o ≡ Some x → o' ≡ Some x

-- one step more keeps each answer
abbrev pub Grows : {A : Type 0} → (ℕ → Option A) → Type 0
Grows f = (n : ℕ) → Refines (f n) (f (suc n))

pub grows_far : {A : Type 0} (f : ℕ → Option A) → Grows f → (k n : ℕ) → Refines (f n) (f (k + n))
grows_far f g zero n x e = let z : 0 + n ≡ n = omega arith in rw z e
grows_far f g (suc k) n x e = let z : suc k + n ≡ suc (k + n) = omega arith in rw z (g (k + n) x (grows_far f g k n x e))

pub at_least : {A : Type 0} (f : ℕ → Option A) → Grows f → (n m : ℕ) → n ≤ m → Refines (f n) (f m)
at_least f g n m h x e = let z : m ≡ (m - n) + n = omega arith in rw z (grows_far f g (m - n) n x e)

through_more : (f g : Bool → Variable → Option Look) → ((b : Bool) (q : Variable) → Refines (f b q) (g b q)) → (only : Bool) (p : Variable) (o : Option (Term Variable)) → Refines (through f only p o) (through g only p o)
through_more f g h only p None = λ x e. e
through_more f g h only p (Some (var q)) = h only q
through_more f g h only p (Some (ro q)) = h true q
through_more f g h only p (Some (first k)) = h only (own k)
through_more f g h only p (Some (number z)) = λ x e. e
through_more f g h only p (Some (string z)) = λ x e. e
through_more f g h only p (Some nil) = λ x e. e
through_more f g h only p (Some (cons a b)) = λ x e. e
through_more f g h only p (Some (tuple ts)) = λ x e. e

module _ (s : Bindings) where
  value_of_more : (n : ℕ) (only : Bool) (p : Variable) → Refines (value_of n s only p) (value_of (suc n) s only p)
  value_of_more zero only p = λ x e. cc
  value_of_more (suc n) only p = through_more (value_of n s) (value_of (suc n) s) (λ b q. value_of_more n b q) only p (find s p)

  pub value_more : (t : Term Variable) → Grows (λ n. value n s t)
  value_more (var q) n = value_of_more n false q
  value_more (ro q) n = value_of_more n true q
  value_more (first k) n = value_of_more n false (own k)
  value_more (number z) n = λ x e. e
  value_more (string z) n = λ x e. e
  value_more nil n = λ x e. e
  value_more (cons a b) n = λ x e. e
  value_more (tuple ts) n = λ x e. e

then_more : (rs : List Variable) (o o' : Option Found) → Refines o o' → Refines (then_found rs o) (then_found rs o')
then_more rs None o' h = λ x e. cc
then_more rs (Some (hit qs)) o' h = λ x e. rw (h _ refl) e
then_more rs (Some (miss qs)) o' h = λ x e. rw (h _ refl) e

or_more : (o o' r r' : Option Found) → Refines o o' → Refines r r' → Refines (or_else o r) (or_else o' r')
or_more None o' r r' h i = λ x e. cc
or_more (Some (hit rs)) o' r r' h i = λ x e. rw (h _ refl) e
or_more (Some (miss rs)) o' r r' h i = λ x e. rw (h _ refl) (then_more rs r r' i x e)

mutual
  walk_more : (f g : Variable → Option Found) → ((q : Variable) → Refines (f q) (g q)) → (t : Term Variable) → Refines (walk f t) (walk g t)
  walk_more f g h (number z) = λ x e. e
  walk_more f g h (string z) = λ x e. e
  walk_more f g h nil = λ x e. e
  walk_more f g h (cons a b) = or_more _ _ _ _ (walk_more f g h a) (walk_more f g h b)
  walk_more f g h (tuple ts) = walks_more f g h ts
  walk_more f g h (var q) = h q
  walk_more f g h (ro q) = h q
  walk_more f g h (first k) = h (own k)

  walks_more : (f g : Variable → Option Found) → ((q : Variable) → Refines (f q) (g q)) → (ts : Terms Variable) → Refines (walks f ts) (walks g ts)
  walks_more f g h none = λ x e. e
  walks_more f g h (more t ts) = or_more _ _ _ _ (walk_more f g h t) (walks_more f g h ts)

module _ (s : Bindings) where
  leaf_more : (p : Variable) (n : ℕ) (q : Variable) → Refines (leaf_is n s p q) (leaf_is (suc n) s p q)
  leaf_more p zero q = λ x e. cc
  leaf_more p (suc n) q = go (find s q) (λ t. walk_more (leaf_is n s p) (leaf_is (suc n) s p) (leaf_more p n) t)
    where
      go : (o : Option (Term Variable)) → ((t : Term Variable) → Refines (walk (leaf_is n s p) t) (walk (leaf_is (suc n) s p) t)) → Refines (behind_leaf (walk (leaf_is n s p)) p q o) (behind_leaf (walk (leaf_is (suc n) s p)) p q o)
      go None rec = λ x e. e
      go (Some t) rec = rec t

  pub occurs_more : (p : Variable) (t : Term Variable) → Grows (λ n. occurs n s p t)
  occurs_more p t n = walk_more (leaf_is n s p) (leaf_is (suc n) s p) (leaf_more p n) t

  bind_more : (p : Variable) (t : Term Variable) (o o' : Option Found) → Refines o o' → Refines (bind_solid p t o) (bind_solid p t o')
  bind_more p t None o' h = λ x e. cc
  bind_more p t (Some (hit rs)) o' h = λ x e. rw (h _ refl) e
  bind_more p t (Some (miss rs)) o' h = λ x e. rw (h _ refl) e

  pub table_more : (l m : Look) → Grows (λ n. table n s l m)
  table_more (solid t) (solid u) n = λ x e. e
  table_more (solid t) (writable q) n = bind_more q t _ _ (occurs_more q t n)
  table_more (solid t) (read_only q) n = λ x e. e
  table_more (writable p) (solid u) n = bind_more p u _ _ (occurs_more p u n)
  table_more (writable p) (writable q) n = λ x e. e
  table_more (writable p) (read_only q) n = λ x e. e
  table_more (read_only p) (solid u) n = λ x e. e
  table_more (read_only p) (writable q) n = λ x e. e
  table_more (read_only p) (read_only q) n = λ x e. e

  looks_more : (n : ℕ) (o o' r r' : Option Look) → Refines o o' → Refines r r' → Refines (both_looks (table n s) o r) (both_looks (table (suc n) s) o' r')
  looks_more n None o' r r' h i = λ x e. cc
  looks_more n (Some l) o' None r' h i = λ x e. cc
  looks_more n (Some l) o' (Some m) r' h i = λ x e. rw (h _ refl, i _ refl) (table_more l m n x e)

  pub pair_more : (a b : Term Variable) → Grows (λ n. pair n s a b)
  pair_more a b n = go (first_of b)
    where
      go : (o : Option ℕ) → Refines (pair_on n s a b o) (pair_on (suc n) s a b o)
      go None = looks_more n _ _ _ _ (value_more s a n) (value_more s b n)
      go (Some k) = λ x e. e

pub step_more : (f g : Next) → ((bs : Bindings) (rs : List Variable) (ps : List Pair) → Refines (f bs rs ps) (g bs rs ps)) → (bs : Bindings) (rs : List Variable) (ps : List Pair) (st : Step) → Refines (step_on f bs rs ps st) (step_on g bs rs ps st)
step_more f g h bs rs ps nothing = h bs rs ps
step_more f g h bs rs ps (binds p t) = h _ rs ps
step_more f g h bs rs ps (parts qs) = h bs rs _
step_more f g h bs rs ps clashes = λ x e. e
step_more f g h bs rs ps waits = λ x e. e

pub go_more : (f g : Next) → ((bs : Bindings) (rs : List Variable) (ps : List Pair) → Refines (f bs rs ps) (g bs rs ps)) → (bs : Bindings) (rs : List Variable) (ps : List Pair) (o o' : Option Treated) → Refines o o' → Refines (go_on f bs rs ps o) (go_on g bs rs ps o')
go_more f g h bs rs ps None o' i = λ x e. cc
go_more f g h bs rs ps (Some t) o' i = λ x e. rw (i t refl) (step_more f g h bs _ ps t.step x e)

pub unify_more : (s : Bindings) (n : ℕ) (bs : Bindings) (rs : List Variable) (ps : List Pair) → Refines (unify n s bs rs ps) (unify (suc n) s bs rs ps)
unify_more s zero bs rs ps = λ x e. cc
unify_more s (suc n) bs rs [] = λ x e. e
unify_more s (suc n) bs rs (ab ∷ ps) = go_more (unify n s) (unify (suc n) s) (λ bs' rs' ps'. unify_more s n bs' rs' ps') bs rs ps _ _ (pair_more (s ++ bs) ab.0 ab.1 n)
