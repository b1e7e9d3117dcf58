-- A head's term in a pair, with and without its marks of first occurrences.
use Rattle.std.proofs.Common.{◌≡◌, ℕ, suc, Bool, true, false, cond, List, [], ◌∷◌, Option, Some, None, refl, sym, ap, ◌∙◌, arith}
use Rattle.std.specs.Prelude.{nat_eq}
use Rattle.std.proofs.lemmas.Bool.{eqb-false}
use Rattle.fcp_model.specs.Places.{Variable}
use Rattle.fcp_model.specs.Terms.{Term, number, string, nil, cons, tuple, var, ro, first, Terms, none, more, renames, plain, plains, Bindings}
use Rattle.fcp_model.specs.Value.{Look, writable, read_only, solid}
use Rattle.fcp_model.specs.Occurs.{Found, hit, miss, or_else, walk, walks, leaf_is, occurs}
use Rattle.fcp_model.specs.Pair.{Pair, binds, both_parts, part_step, treated, bind_solid, table, both_looks}
use Rattle.machine_code.specs.Machine.{given, pair_in, tuple_in, count}

-- a term without marks has none
mutual
  pub plain_plain : (t : Term Variable) → plain (plain t) ≡ plain t
  plain_plain (number z) = refl
  plain_plain (string s) = refl
  plain_plain nil = refl
  plain_plain (cons a b) = λ i. cons (plain_plain a i) (plain_plain b i)
  plain_plain (tuple ts) = ap tuple (plains_plains ts)
  plain_plain (var v) = refl
  plain_plain (ro v) = refl
  plain_plain (first k) = refl

  pub plains_plains : (ts : Terms Variable) → plains (plains ts) ≡ plains ts
  plains_plains none = refl
  plains_plains (more t ts) = λ i. more (plain_plain t i) (plains_plains ts i)

-- the occurs check reads a marked variable as any other
mutual
  pub walk_plain : (f : Variable → Option Found) (t : Term Variable) → walk f (plain t) ≡ walk f t
  walk_plain f (number z) = refl
  walk_plain f (string s) = refl
  walk_plain f nil = refl
  walk_plain f (cons a b) = λ i. or_else (walk_plain f a i) (walk_plain f b i)
  walk_plain f (tuple ts) = walks_plains f ts
  walk_plain f (var v) = refl
  walk_plain f (ro v) = refl
  walk_plain f (first k) = refl

  pub walks_plains : (f : Variable → Option Found) (ts : Terms Variable) → walks f (plains ts) ≡ walks f ts
  walks_plains f none = refl
  walks_plains f (more t ts) = λ i. or_else (walk_plain f t i) (walks_plains f ts i)

bind_plain : (p : Variable) (t : Term Variable) (o : Option Found) → bind_solid p (plain t) o ≡ bind_solid p t o
bind_plain p t None = refl
bind_plain p t (Some (hit rs)) = refl
bind_plain p t (Some (miss rs)) = ap (λ u. treated (binds p u) (p ∷ rs)) (plain_plain t)

bound_plain : (n : ℕ) (s : Bindings) (p : Variable) (t : Term Variable)
    → bind_solid p (plain t) (occurs n s p (plain t)) ≡ bind_solid p t (occurs n s p t)
bound_plain n s p t = ap (bind_solid p (plain t)) (walk_plain (leaf_is n s p) t) ∙ bind_plain p t (occurs n s p t)

-- a pair that cannot be opened is treated with the head's term as it is put
pub table_pair : (n : ℕ) (s : Bindings) (l : Look) (a b : Term Variable) → pair_in l ≡ None
    → table n s l (solid (plain (cons a b))) ≡ table n s l (solid (cons a b))
table_pair n s (writable p) a b e = bound_plain n s p (cons a b)
table_pair n s (read_only p) a b e = refl
table_pair n s (solid (cons c d)) a b e = let no : ⊥ = cc in absurd no
table_pair n s (solid (number z)) a b e = refl
table_pair n s (solid (string z)) a b e = refl
table_pair n s (solid nil) a b e = refl
table_pair n s (solid (tuple ts)) a b e = refl
table_pair n s (solid (var v)) a b e = refl
table_pair n s (solid (ro v)) a b e = refl
table_pair n s (solid (first k)) a b e = refl

-- two lists of terms, pair by pair
abbrev pub zipped : Terms Variable → Terms Variable → List Pair
zipped none us = []
zipped (more t ts) none = []
zipped (more t ts) (more u us) = (t, u) ∷ zipped ts us

pub both_zipped : (ts us : Terms Variable) → count ts ≡ count us → both_parts ts us ≡ Some (zipped ts us)
both_zipped none none e = refl
both_zipped none (more u us) e = absurd (omega (arith, e))
both_zipped (more t ts) none e = absurd (omega (arith, e))
both_zipped (more t ts) (more u us) e =
    ap (λ o. elim o [ None ↦ None | Some ps ↦ Some ((t, u) ∷ ps) ]) (both_zipped ts us (omega (arith, e)))

pub both_none : (ts us : Terms Variable) → (count ts ≡ count us → ⊥) → both_parts ts us ≡ None
both_none none none e = absurd (e refl)
both_none none (more u us) e = refl
both_none (more t ts) none e = refl
both_none (more t ts) (more u us) e = ap (λ o. elim o [ None ↦ None | Some ps ↦ Some ((t, u) ∷ ps) ]) (both_none ts us (λ k. e (ap suc k)))

pub count_plains : (ts : Terms Variable) → count (plains ts) ≡ count ts
count_plains none = refl
count_plains (more t ts) = ap suc (count_plains ts)

pub count_renames : {V W : Type 0} (f : V → W) (ts : Terms V) → count (renames f ts) ≡ count ts
count_renames f none = refl
count_renames f (more t ts) = ap suc (count_renames f ts)

-- the same for a tuple
pub table_tuple : (n : ℕ) (s : Bindings) (l : Look) (us : Terms Variable) → tuple_in (count us) l ≡ None
    → table n s l (solid (plain (tuple us))) ≡ table n s l (solid (tuple us))
table_tuple n s (writable p) us e = bound_plain n s p (tuple us)
table_tuple n s (read_only p) us e = refl
table_tuple n s (solid (tuple ts)) us e = by (nat_eq (count ts) (count us)) refl e
  where
    by : (b : Bool) → nat_eq (count ts) (count us) ≡ b → cond b (Some ts) None ≡ None
        → table n s (solid (tuple ts)) (solid (plain (tuple us))) ≡ table n s (solid (tuple ts)) (solid (tuple us))
    by true p c = let no : ⊥ = cc in absurd no
    by false p c =
        let ne = eqb-false (count ts) (count us) p in
        ap (λ o. treated (part_step o) []) (both_none ts (plains us) (λ k. ne (k ∙ count_plains us)) ∙ sym (both_none ts us ne))
table_tuple n s (solid (cons c d)) us e = refl
table_tuple n s (solid (number z)) us e = refl
table_tuple n s (solid (string z)) us e = refl
table_tuple n s (solid nil) us e = refl
table_tuple n s (solid (var v)) us e = refl
table_tuple n s (solid (ro v)) us e = refl
table_tuple n s (solid (first k)) us e = refl

-- the values of a pair are taken one after the other
pub looks_given : {A : Type 0} (f : Look → Look → Option A) (o : Option Look) (m : Look) → both_looks f o (Some m) ≡ given o (λ l. f l m)
looks_given f None m = refl
looks_given f (Some l) m = refl

pub looks_none : {A : Type 0} (f : Look → Look → Option A) (o r : Option Look) → both_looks f o r ≡ given o (λ l. given r (λ m. f l m))
looks_none f None r = refl
looks_none f (Some l) None = refl
looks_none f (Some l) (Some m) = refl
