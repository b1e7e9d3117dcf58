-- What is read for values, for pairs and for a unification is unbound, and has each property of the variables of terms and bindings.
use Rattle.std.proofs.Common.{◌≡◌, ℕ, zero, suc, Bool, true, false, cond, List, [], ◌∷◌, ◌++◌, Option, Some, None, refl, sym, ap, ◌∙◌, subst, append_assoc}
use Rattle.std.specs.Prelude.{nat_eq}
use Rattle.std.specs.Ordering.{int_eq}
use Rattle.fcp_model.specs.Places.{Variable, own, is_same, is_older}
use Rattle.fcp_model.specs.Terms.{Term, number, string, nil, cons, tuple, var, ro, first, Terms, none, more, plain, plains, Bindings, find}
use Rattle.fcp_model.specs.Value.{Look, writable, read_only, solid, open_place, through, value_of, value}
use Rattle.fcp_model.specs.Occurs.{Found, hit, miss, found, or_else, walk, walks, behind_leaf, leaf_is, occurs}
use Rattle.fcp_model.specs.Pair.{Pair, Step, nothing, binds, clashes, waits, parts, both_parts, alike, part_step, compare, Treated, bind_solid, table, both_looks, first_of, pair_on, pair}
use Rattle.fcp_model.specs.Unification.{Ended, done, clash, wait, Next, step_on, go_on, unify}
use Rattle.fcp_model.proofs.Finding.{found_or, find-append}
use Rattle.state_laws.proofs.ReadVariables.{Every, every_both, every_so, found_reads, Gives}

-- each variable of a term has the property, also where it is marked as a first occurrence
abbrev mutual
  pub Within : (Variable → Type 0) → Term Variable → Type 0
  Within P (number z) = Unit {0}
  Within P (string z) = Unit {0}
  Within P nil = Unit {0}
  Within P (cons a b) = Within P a × Within P b
  Within P (tuple ts) = PartsWithin P ts
  Within P (var v) = P v
  Within P (ro v) = P v
  Within P (first k) = P (own k)

  pub PartsWithin : (Variable → Type 0) → Terms Variable → Type 0
  PartsWithin P none = Unit {0}
  PartsWithin P (more t ts) = Within P t × PartsWithin P ts

-- and of each term of some pairs
abbrev pub PairsWithin : (Variable → Type 0) → List Pair → Type 0
PairsWithin P [] = Unit {0}
PairsWithin P (ab ∷ ps) = (Within P ab.0 × Within P ab.1) × PairsWithin P ps

-- and of each bound term
abbrev pub BoundWithin : (Variable → Type 0) → Bindings → Type 0
BoundWithin P w = (v : Variable) (t : Term Variable) → find w v ≡ Some t → Within P t

-- a variable that may be read: it is unbound and has the property
abbrev pub MayRead : (Variable → Type 0) → Bindings → Variable → Type 0
MayRead P w v = (find w v ≡ None) × P v

-- what a value may be
abbrev pub LookWithin : (Variable → Type 0) → Bindings → Look → Type 0
LookWithin P w (writable p) = MayRead P w p
LookWithin P w (read_only p) = MayRead P w p
LookWithin P w (solid t) = Within P t

-- what a step may be
abbrev pub StepWithin : (Variable → Type 0) → Step → Type 0
StepWithin P nothing = Unit {0}
StepWithin P (binds p t) = Within P t
StepWithin P clashes = Unit {0}
StepWithin P waits = Unit {0}
StepWithin P (parts ps) = PairsWithin P ps

-- what the treatment of a pair may be
abbrev pub TreatedWithin : (Variable → Type 0) → Bindings → Treated → Type 0
TreatedWithin P w t = Every (MayRead P w) t.reads × StepWithin P t.step

mutual
  plain_within : (P : Variable → Type 0) (t : Term Variable) → Within P t → Within P (plain t)
  plain_within P (number z) h = tt
  plain_within P (string z) h = tt
  plain_within P nil h = tt
  plain_within P (cons a b) h = (plain_within P a h.0, plain_within P b h.1)
  plain_within P (tuple ts) h = plains_within P ts h
  plain_within P (var v) h = h
  plain_within P (ro v) h = h
  plain_within P (first k) h = h

  plains_within : (P : Variable → Type 0) (ts : Terms Variable) → PartsWithin P ts → PartsWithin P (plains ts)
  plains_within P none h = tt
  plains_within P (more t ts) h = (plain_within P t h.0, plains_within P ts h.1)

pub pairs_append : (P : Variable → Type 0) (ps qs : List Pair) → PairsWithin P ps → PairsWithin P qs → PairsWithin P (ps ++ qs)
pairs_append P [] qs h i = i
pairs_append P (ab ∷ ps) qs h i = (h.0, pairs_append P ps qs h.1 i)

-- the parts of two terms
module _ (P : Variable → Type 0) where
  both_within : (ts us : Terms Variable) → PartsWithin P ts → PartsWithin P us → Gives (PairsWithin P) (both_parts ts us)
  both_within none none h i = tt
  both_within none (more b bs) h i = tt
  both_within (more a as') none h i = tt
  both_within (more a as') (more b bs) h i = go (both_parts as' bs) (both_within as' bs h.1 i.1)
    where
      go : (o : Option (List Pair)) → Gives (PairsWithin P) o
          → Gives (PairsWithin P) (elim o [ None ↦ None | Some ps ↦ Some ((a, b) ∷ ps) ])
      go None r = tt
      go (Some ps) r = ((h.0, i.0), r)

  nothing_within : (c : Bool) → Gives (PairsWithin P) (cond c (Some []) None)
  nothing_within true = tt
  nothing_within false = tt

  alike_within : (t u : Term Variable) → Within P t → Within P u → Gives (PairsWithin P) (alike t u)
  alike_within (number y) (number z) h i = nothing_within (int_eq y z)
  alike_within (string y) (string z) h i = nothing_within (nat_eq y z)
  alike_within nil nil h i = tt
  alike_within (cons a b) (cons c d) h i = ((h.0, i.0), ((h.1, i.1), tt))
  alike_within (tuple ts) (tuple us) h i = both_within ts us h i
  alike_within t u h i = tt

  pub compare_within : (t u : Term Variable) → Within P t → Within P u → StepWithin P (compare t u)
  compare_within t u h i = go (alike t u) (alike_within t u h i)
    where
      go : (o : Option (List Pair)) → Gives (PairsWithin P) o → StepWithin P (part_step o)
      go None r = tt
      go (Some []) r = tt
      go (Some (p ∷ ps)) r = r

-- values, the occurs check and one pair, over one map
module _ (P : Variable → Type 0) (w : Bindings) (bound : BoundWithin P w) where
  open_within : (only : Bool) (p : Variable) → MayRead P w p → LookWithin P w (open_place only p)
  open_within true p h = h
  open_within false p h = h

  value_of_within : (n : ℕ) (only : Bool) (p : Variable) → P p → Gives (LookWithin P w) (value_of n w only p)
  value_of_within zero only p h = tt
  value_of_within (suc n) only p h = go (find w p) refl (λ b q i. value_of_within n b q i)
    where
      go : (o : Option (Term Variable)) → find w p ≡ o → ((b : Bool) (q : Variable) → P q → Gives (LookWithin P w) (value_of n w b q))
          → Gives (LookWithin P w) (through (value_of n w) only p o)
      go None e rec = open_within only p (e, h)
      go (Some (var q)) e rec = rec only q (bound p (var q) e)
      go (Some (ro q)) e rec = rec true q (bound p (ro q) e)
      go (Some (first k)) e rec = rec only (own k) (bound p (first k) e)
      go (Some (number z)) e rec = tt
      go (Some (string z)) e rec = tt
      go (Some nil) e rec = tt
      go (Some (cons a b)) e rec = bound p (cons a b) e
      go (Some (tuple ts)) e rec = bound p (tuple ts) e

  pub value_within : (n : ℕ) (t : Term Variable) → Within P t → Gives (LookWithin P w) (value n w t)
  value_within n (var q) h = value_of_within n false q h
  value_within n (ro q) h = value_of_within n true q h
  value_within n (first k) h = value_of_within n false (own k) h
  value_within n (number z) h = tt
  value_within n (string z) h = tt
  value_within n nil h = tt
  value_within n (cons a b) h = h
  value_within n (tuple ts) h = h

  abbrev MayFind : Option Found → Type 0
  MayFind o = Gives (λ f. Every (MayRead P w) (found_reads f)) o

  or_within : (o r : Option Found) → MayFind o → MayFind r → MayFind (or_else o r)
  or_within None r h i = tt
  or_within (Some (hit rs)) r h i = h
  or_within (Some (miss rs)) None h i = tt
  or_within (Some (miss rs)) (Some (hit qs)) h i = every_both (MayRead P w) rs qs h i
  or_within (Some (miss rs)) (Some (miss qs)) h i = every_both (MayRead P w) rs qs h i

  found_within : (c : Bool) (q : Variable) → MayRead P w q → MayFind (found c (q ∷ []))
  found_within true q h = (h, tt)
  found_within false q h = (h, tt)

  mutual
    walk_within : (leaf : Variable → Option Found) → ((q : Variable) → P q → MayFind (leaf q)) → (t : Term Variable) → Within P t
        → MayFind (walk leaf t)
    walk_within leaf f (number z) h = tt
    walk_within leaf f (string z) h = tt
    walk_within leaf f nil h = tt
    walk_within leaf f (cons a b) h = or_within _ _ (walk_within leaf f a h.0) (walk_within leaf f b h.1)
    walk_within leaf f (tuple ts) h = walks_within leaf f ts h
    walk_within leaf f (var q) h = f q h
    walk_within leaf f (ro q) h = f q h
    walk_within leaf f (first k) h = f (own k) h

    walks_within : (leaf : Variable → Option Found) → ((q : Variable) → P q → MayFind (leaf q)) → (ts : Terms Variable) → PartsWithin P ts
        → MayFind (walks leaf ts)
    walks_within leaf f none h = tt
    walks_within leaf f (more t ts) h = or_within _ _ (walk_within leaf f t h.0) (walks_within leaf f ts h.1)

  leaf_within : (p : Variable) (n : ℕ) (q : Variable) → P q → MayFind (leaf_is n w p q)
  leaf_within p zero q h = tt
  leaf_within p (suc n) q h = go (find w q) refl (λ t i. walk_within (leaf_is n w p) (leaf_within p n) t i)
    where
      go : (o : Option (Term Variable)) → find w q ≡ o → ((t : Term Variable) → Within P t → MayFind (walk (leaf_is n w p) t))
          → MayFind (behind_leaf (walk (leaf_is n w p)) p q o)
      go None e rec = found_within (is_same p q) q (e, h)
      go (Some t) e rec = rec t (bound q t e)

  occurs_within : (n : ℕ) (p : Variable) (t : Term Variable) → Within P t → MayFind (occurs n w p t)
  occurs_within n p t h = walk_within (leaf_is n w p) (leaf_within p n) t h

  bind_within : (p : Variable) (t : Term Variable) (o : Option Found) → MayRead P w p → Within P t → MayFind o
      → Gives (TreatedWithin P w) (bind_solid p t o)
  bind_within p t None h i f = tt
  bind_within p t (Some (hit rs)) h i f = ((h, f), tt)
  bind_within p t (Some (miss rs)) h i f = ((h, f), plain_within P t i)

  table_within : (n : ℕ) (l m : Look) → LookWithin P w l → LookWithin P w m → Gives (TreatedWithin P w) (table n w l m)
  table_within n (solid t) (solid u) h i = (tt, compare_within P t u h i)
  table_within n (solid t) (writable q) h i = bind_within q t _ i h (occurs_within n q t h)
  table_within n (solid t) (read_only q) h i = ((i, tt), tt)
  table_within n (writable p) (solid u) h i = bind_within p u _ h i (occurs_within n p u i)
  table_within n (writable p) (writable q) h i = ((h, (i, tt)), go (is_same p q) (is_older p q))
    where
      go : (c d : Bool) → StepWithin P (cond c nothing (cond d (binds q (var p)) (binds p (var q))))
      go true d = tt
      go false true = h.1
      go false false = i.1
  table_within n (writable p) (read_only q) h i = ((h, (i, tt)), go (is_same p q))
    where
      go : (c : Bool) → StepWithin P (cond c nothing (binds p (ro q)))
      go true = tt
      go false = i.1
  table_within n (read_only p) (solid u) h i = ((h, tt), tt)
  table_within n (read_only p) (writable q) h i = ((h, (i, tt)), go (is_same p q))
    where
      go : (c : Bool) → StepWithin P (cond c nothing (binds q (ro p)))
      go true = tt
      go false = h.1
  table_within n (read_only p) (read_only q) h i = ((h, (i, tt)), go (is_same p q))
    where
      go : (c : Bool) → StepWithin P (cond c nothing waits)
      go true = tt
      go false = tt

  looks_within : (f : Look → Look → Option Treated)
      → ((l m : Look) → LookWithin P w l → LookWithin P w m → Gives (TreatedWithin P w) (f l m)) → (o r : Option Look)
      → Gives (LookWithin P w) o → Gives (LookWithin P w) r → Gives (TreatedWithin P w) (both_looks f o r)
  looks_within f g None r h i = tt
  looks_within f g (Some l) None h i = tt
  looks_within f g (Some l) (Some m) h i = g l m h i

  -- two values, by a function that keeps to what may be
  pub both_looks_within : (f : Look → Look → Option Treated)
      → ((l m : Look) → LookWithin P w l → LookWithin P w m → Gives (TreatedWithin P w) (f l m)) → (n : ℕ) (a b : Term Variable)
      → Within P a → Within P b → Gives (TreatedWithin P w) (both_looks f (value n w a) (value n w b))
  both_looks_within f g n a b h i = looks_within f g (value n w a) (value n w b) (value_within n a h) (value_within n b i)

  pair_within : (n : ℕ) (a b : Term Variable) → Within P a → Within P b → Gives (TreatedWithin P w) (pair n w a b)
  pair_within n a b h i = go (first_of b)
    where
      go : (o : Option ℕ) → Gives (TreatedWithin P w) (pair_on n w a b o)
      go (Some k) = (tt, h)
      go None = both_looks_within (table n w) (table_within n) n a b h i

-- one binding more
bound_append : (P : Variable → Type 0) (s bs : Bindings) (p : Variable) (t : Term Variable) → BoundWithin P (s ++ bs) → Within P t
    → BoundWithin P (s ++ (bs ++ (p, t) ∷ []))
bound_append P s bs p t h i v u e =
    go (find (s ++ bs) v) (is_same p v) refl
    (sym (find-append (s ++ bs) ((p, t) ∷ []) v) ∙ (ap (λ w. find w v) (append_assoc s bs ((p, t) ∷ [])) ∙ e))
  where
    go : (o : Option (Term Variable)) (c : Bool) → find (s ++ bs) v ≡ o → found_or o (cond c (Some t) None) ≡ Some u → Within P u
    go (Some x) c f g = h v u (f ∙ g)
    go None true f g = let same : t ≡ u = cc in subst (Within P) same i
    go None false f g = absurd cc

-- unbound under some bindings, so unbound in the map
unbound_below : (P : Variable → Type 0) (s bs : Bindings) (v : Variable) → MayRead P (s ++ bs) v → MayRead P s v
unbound_below P s bs v h = (go (find s v) refl (sym (find-append s bs v) ∙ h.0), h.1)
  where
    go : (o : Option (Term Variable)) → find s v ≡ o → found_or o (find bs v) ≡ None → find s v ≡ None
    go None e f = e
    go (Some t) e f = absurd cc

pub read_below : (P : Variable → Type 0) (s bs : Bindings) (vs : List Variable) → Every (MayRead P (s ++ bs)) vs → Every (MayRead P s) vs
read_below P s bs vs h = every_so (MayRead P (s ++ bs)) (MayRead P s) (unbound_below P s bs) vs h

-- what the end of a unification may be: under its bindings all terms keep to the property
abbrev pub EndWithin : (Variable → Type 0) → Bindings → Ended → Type 0
EndWithin P s (done bs rs) = Every (MayRead P s) rs × BoundWithin P (s ++ bs)
EndWithin P s (clash rs) = Every (MayRead P s) rs
EndWithin P s (wait rs) = Every (MayRead P s) rs

module _ (P : Variable → Type 0) (s : Bindings) where
  -- what is said of the pairs that are left
  abbrev NextWithin : Next → Type 0
  NextWithin next = (bs : Bindings) (rs : List Variable) (ps : List Pair) → BoundWithin P (s ++ bs) → Every (MayRead P s) rs
      → PairsWithin P ps → Gives (EndWithin P s) (next bs rs ps)

  step_within : (next : Next) → NextWithin next → (bs : Bindings) (rs : List Variable) (ps : List Pair) (st : Step)
      → BoundWithin P (s ++ bs) → Every (MayRead P s) rs → PairsWithin P ps → StepWithin P st
      → Gives (EndWithin P s) (step_on next bs rs ps st)
  step_within next f bs rs ps nothing b h i j = f bs rs ps b h i
  step_within next f bs rs ps (binds p t) b h i j = f (bs ++ (p, t) ∷ []) rs ps (bound_append P s bs p t b j) h i
  step_within next f bs rs ps (parts qs) b h i j = f bs rs (qs ++ ps) b h (pairs_append P qs ps j i)
  step_within next f bs rs ps clashes b h i j = h
  step_within next f bs rs ps waits b h i j = h

  go_within : (next : Next) → NextWithin next → (bs : Bindings) (rs : List Variable) (ps : List Pair) (o : Option Treated)
      → BoundWithin P (s ++ bs) → Every (MayRead P s) rs → PairsWithin P ps → Gives (TreatedWithin P (s ++ bs)) o
      → Gives (EndWithin P s) (go_on next bs rs ps o)
  go_within next f bs rs ps None b h i j = tt
  go_within next f bs rs ps (Some t) b h i j =
      step_within next f bs (rs ++ t.reads) ps t.step b (every_both (MayRead P s) rs t.reads h (read_below P s bs t.reads j.0)) i j.1

  pub unify_within : (n : ℕ) → NextWithin (unify n s)
  unify_within zero bs rs ps b h i = tt
  unify_within (suc n) bs rs [] b h i = (h, b)
  unify_within (suc n) bs rs (ab ∷ ps) b h i =
      go_within (unify n s) (λ cs qs us c j k. unify_within n cs qs us c j k) bs rs ps _ b h i.1
      (pair_within P (s ++ bs) b n ab.0 ab.1 i.0.0 i.0.1)
