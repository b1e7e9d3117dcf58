-- The variables that a unification has met, and terms whose marks of first occurrences are new.
use Rattle.std.proofs.Common.{◌≡◌, ℕ, ◌<◌, ◌≤◌, max, refl, sym, ◌∙◌, ap, subst, arith}
use Rattle.fcp_model.specs.declared.run.Place.{Place}
use Rattle.fcp_model.specs.Places.{Variable, made, own}
use Rattle.fcp_model.specs.Terms.{Term, number, string, nil, cons, tuple, var, ro, first, Terms, none, more, plain, plains}
use Rattle.fcp_model.specs.ClosedPrograms.{Over, PartsOver, IsNumbered}
use Rattle.binding_laws.proofs.OverTerms.{Over-more, PartsOver-more}

-- a place with the property K, or one of the clause's variables 1 to n
abbrev pub IsMet : (Place → Type 0) → ℕ → Variable → Type 0
IsMet K n (made p) = K p
IsMet K n (own k) = IsNumbered n k

-- the greatest of the clause's variables that were met, with one variable more
abbrev pub met_with : ℕ → Variable → ℕ
met_with n (made p) = n
met_with n (own k) = max n k

-- the same with the variables of a term
abbrev mutual
  pub met_in : ℕ → Term Variable → ℕ
  met_in n (number z) = n
  met_in n (string s) = n
  met_in n nil = n
  met_in n (cons a b) = met_in (met_in n a) b
  met_in n (tuple ts) = mets_in n ts
  met_in n (var v) = met_with n v
  met_in n (ro v) = met_with n v
  met_in n (first k) = max n k

  pub mets_in : ℕ → Terms Variable → ℕ
  mets_in n none = n
  mets_in n (more t ts) = mets_in (met_in n t) ts

-- a place with the property K, or a variable of the clause
abbrev pub IsNamed : (Place → Type 0) → Variable → Type 0
IsNamed K (made p) = K p
IsNamed K (own k) = 1 ≤ k

-- a term whose marks are new: each is above n and above all variables to its left
abbrev mutual
  pub IsMarked : (Place → Type 0) → ℕ → Term Variable → Type 0
  IsMarked K n (number z) = Unit {0}
  IsMarked K n (string s) = Unit {0}
  IsMarked K n nil = Unit {0}
  IsMarked K n (cons a b) = IsMarked K n a × IsMarked K (met_in n a) b
  IsMarked K n (tuple ts) = AreMarked K n ts
  IsMarked K n (var v) = IsNamed K v
  IsMarked K n (ro v) = IsNamed K v
  IsMarked K n (first k) = n < k

  pub AreMarked : (Place → Type 0) → ℕ → Terms Variable → Type 0
  AreMarked K n none = Unit {0}
  AreMarked K n (more t ts) = IsMarked K n t × AreMarked K (met_in n t) ts

pub met_with_above : (n : ℕ) (v : Variable) → n ≤ met_with n v
met_with_above n (made p) = omega arith
met_with_above n (own k) = omega arith

mutual
  pub met_in_above : (n : ℕ) (t : Term Variable) → n ≤ met_in n t
  met_in_above n (number z) = omega arith
  met_in_above n (string s) = omega arith
  met_in_above n nil = omega arith
  met_in_above n (cons a b) = omega (arith, met_in_above n a, met_in_above (met_in n a) b)
  met_in_above n (tuple ts) = mets_in_above n ts
  met_in_above n (var v) = met_with_above n v
  met_in_above n (ro v) = met_with_above n v
  met_in_above n (first k) = omega arith

  pub mets_in_above : (n : ℕ) (ts : Terms Variable) → n ≤ mets_in n ts
  mets_in_above n none = omega arith
  mets_in_above n (more t ts) = omega (arith, met_in_above n t, mets_in_above (met_in n t) ts)

module _ (K : Place → Type 0) where
  pub IsMet-above : (n n' : ℕ) → n ≤ n' → (v : Variable) → IsMet K n v → IsMet K n' v
  IsMet-above n n' h (made p) i = i
  IsMet-above n n' h (own k) i = (i.0, omega (arith, i.1))

  pub Met-above : (n n' : ℕ) → n ≤ n' → (t : Term Variable) → Over (IsMet K n) t → Over (IsMet K n') t
  Met-above n n' h t o = Over-more (IsMet K n) (IsMet K n') (IsMet-above n n' h) t o

  pub Mets-above : (n n' : ℕ) → n ≤ n' → (ts : Terms Variable) → PartsOver (IsMet K n) ts → PartsOver (IsMet K n') ts
  Mets-above n n' h ts o = PartsOver-more (IsMet K n) (IsMet K n') (IsMet-above n n' h) ts o

  pub named_is_met : (n : ℕ) (v : Variable) → IsNamed K v → IsMet K (met_with n v) v
  named_is_met n (made p) i = i
  named_is_met n (own k) i = (i, omega arith)

  met_is_named : (n : ℕ) (v : Variable) → IsMet K n v → IsNamed K v
  met_is_named n (made p) i = i
  met_is_named n (own k) i = i.0

  met_with_met : (n : ℕ) (v : Variable) → IsMet K n v → met_with n v ≡ n
  met_with_met n (made p) i = refl
  met_with_met n (own k) i = omega (arith, i.1)

  -- a term over variables that were met has no mark, and meets none
  mutual
    pub met_in_met : (n : ℕ) (t : Term Variable) → Over (IsMet K n) t → met_in n t ≡ n
    met_in_met n (number z) o = refl
    met_in_met n (string s) o = refl
    met_in_met n nil o = refl
    met_in_met n (cons a b) o = ap (λ x. met_in x b) (met_in_met n a o.0) ∙ met_in_met n b o.1
    met_in_met n (tuple ts) o = mets_in_met n ts o
    met_in_met n (var v) o = met_with_met n v o
    met_in_met n (ro v) o = met_with_met n v o
    met_in_met n (first k) o = absurd o

    pub mets_in_met : (n : ℕ) (ts : Terms Variable) → PartsOver (IsMet K n) ts → mets_in n ts ≡ n
    mets_in_met n none o = refl
    mets_in_met n (more t ts) o = ap (λ x. mets_in x ts) (met_in_met n t o.0) ∙ mets_in_met n ts o.1

  mutual
    pub met_is_marked : (n : ℕ) (t : Term Variable) → Over (IsMet K n) t → IsMarked K n t
    met_is_marked n (number z) o = tt
    met_is_marked n (string s) o = tt
    met_is_marked n nil o = tt
    met_is_marked n (cons a b) o = (met_is_marked n a o.0, subst (λ x. IsMarked K x b) (sym (met_in_met n a o.0)) (met_is_marked n b o.1))
    met_is_marked n (tuple ts) o = mets_are_marked n ts o
    met_is_marked n (var v) o = met_is_named n v o
    met_is_marked n (ro v) o = met_is_named n v o
    met_is_marked n (first k) o = absurd o

    pub mets_are_marked : (n : ℕ) (ts : Terms Variable) → PartsOver (IsMet K n) ts → AreMarked K n ts
    mets_are_marked n none o = tt
    mets_are_marked n (more t ts) o =
        (met_is_marked n t o.0, subst (λ x. AreMarked K x ts) (sym (met_in_met n t o.0)) (mets_are_marked n ts o.1))

  -- without its marks a term is over the variables that were met with it
  mutual
    pub plain_is_met : (n : ℕ) (t : Term Variable) → IsMarked K n t → Over (IsMet K (met_in n t)) (plain t)
    plain_is_met n (number z) i = tt
    plain_is_met n (string s) i = tt
    plain_is_met n nil i = tt
    plain_is_met n (cons a b) i =
        (Met-above (met_in n a) _ (met_in_above (met_in n a) b) (plain a) (plain_is_met n a i.0), plain_is_met (met_in n a) b i.1)
    plain_is_met n (tuple ts) i = plains_are_met n ts i
    plain_is_met n (var v) i = named_is_met n v i
    plain_is_met n (ro v) i = named_is_met n v i
    plain_is_met n (first k) i = (omega (arith, i), omega arith)

    plains_are_met : (n : ℕ) (ts : Terms Variable) → AreMarked K n ts → PartsOver (IsMet K (mets_in n ts)) (plains ts)
    plains_are_met n none i = tt
    plains_are_met n (more t ts) i =
        (Met-above (met_in n t) _ (mets_in_above (met_in n t) ts) (plain t) (plain_is_met n t i.0), plains_are_met (met_in n t) ts i.1)
