-- Terms, and finite maps from variables to terms.
use Rattle.std.specs.Prelude.{ℕ, ℤ, List, [], ◌∷◌, Option, Some, None, if◌then◌else◌}
use Rattle.fcp_model.specs.Places.{Variable, made, own, placed, is_same}

-- A term over the variables V: numbers of the clause in a source term, `Variable` in a term at run time.
mutual
  pub data Term (V : Type 0) : Type 0 where
    number : ℤ → Term V
    -- a string, by its number in the list of names
    string : ℕ → Term V
    nil : Term V
    cons : Term V → Term V → Term V
    tuple : Terms V → Term V
    -- a writable occurrence
    var : V → Term V
    -- a read-only occurrence
    ro : V → Term V
    -- in the pairs of a head alone: the clause's variable k where it stands first
    first : ℕ → Term V

  pub data Terms (V : Type 0) : Type 0 where
    none : Terms V
    more : Term V → Terms V → Terms V

-- the term with each variable as f gives it
abbrev mutual
  pub rename : {V W : Type 0} → (V → W) → Term V → Term W
  rename f (number z) = number z
  rename f (string s) = string s
  rename f nil = nil
  rename f (cons a b) = cons (rename f a) (rename f b)
  rename f (tuple ts) = tuple (renames f ts)
  rename f (var v) = var (f v)
  rename f (ro v) = ro (f v)
  rename f (first k) = first k

  pub renames : {V W : Type 0} → (V → W) → Terms V → Terms W
  renames f none = none
  renames f (more t ts) = more (rename f t) (renames f ts)

-- the term without marks of first occurrences
abbrev mutual
  pub plain : Term Variable → Term Variable
  plain (number z) = number z
  plain (string s) = string s
  plain nil = nil
  plain (cons a b) = cons (plain a) (plain b)
  plain (tuple ts) = tuple (plains ts)
  plain (var v) = var v
  plain (ro v) = ro v
  plain (first k) = var (own k)

  pub plains : Terms Variable → Terms Variable
  plains none = none
  plains (more t ts) = more (plain t) (plains ts)

-- the place that entry n gives to a variable of the committed clause
abbrev pub settle : ℕ → Variable → Variable
settle n (made p) = made p
settle n (own k) = placed n k

-- bindings, in the order in which they were made; each variable is bound once
abbrev pub Bindings : Type 0
Bindings = List (Variable × Term Variable)

-- the term that a variable is bound to, or None where it is unbound
abbrev pub find : Bindings → Variable → Option (Term Variable)
find [] p = None
find (b ∷ bs) p = if is_same b.0 p then Some b.1 else find bs p
