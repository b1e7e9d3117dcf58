-- What one pair of terms comes to.
use Rattle.std.specs.Prelude.{ℕ, List, [], ◌∷◌, Option, Some, None, if◌then◌else◌, nat_eq}
use Rattle.std.specs.Ordering.{int_eq}
use Rattle.fcp_model.specs.Places.{Variable, own, is_same, is_older}
use Rattle.fcp_model.specs.Terms.{Term, number, string, nil, cons, tuple, var, ro, first, Terms, none, more, plain, Bindings}
use Rattle.fcp_model.specs.Value.{Look, writable, read_only, solid, value}
use Rattle.fcp_model.specs.Occurs.{Found, hit, miss, occurs}

-- two terms that are to be made equal
abbrev pub Pair : Type 0
Pair = Term Variable × Term Variable

-- what treating a pair comes to
pub data Step : Type 0 where
  nothing : Step
  binds : Variable → Term Variable → Step
  clashes : Step
  waits : Step
  -- the pairs of the parts come next
  parts : List Pair → Step

-- the parts of two tuples pair by pair, or None where they have not equally many
abbrev pub both_parts : Terms Variable → Terms Variable → Option (List Pair)
both_parts none none = Some []
both_parts (more a as') (more b bs) = elim (both_parts as' bs) [ None ↦ None | Some ps ↦ Some ((a, b) ∷ ps) ]
both_parts none (more b bs) = None
both_parts (more a as') none = None

-- the pairs of the parts of two terms that are no variables, or None where they differ at the top
abbrev pub alike : Term Variable → Term Variable → Option (List Pair)
alike (number y) (number z) = if int_eq y z then Some [] else None
alike (string s) (string t) = if nat_eq s t then Some [] else None
alike nil nil = Some []
alike (cons a b) (cons c d) = Some ((a, c) ∷ (b, d) ∷ [])
alike (tuple ts) (tuple us) = both_parts ts us
alike _ _ = None

-- the step for two terms that are no variables, by the pairs of their parts
abbrev pub part_step : Option (List Pair) → Step
part_step None = clashes
part_step (Some []) = nothing
part_step (Some (p ∷ ps)) = parts (p ∷ ps)

-- what two terms that are no variables come to
abbrev pub compare : Term Variable → Term Variable → Step
compare t u = part_step (alike t u)

-- what a pair comes to, with the variables that were read unbound for it
pub record Treated : Type 0 where
  pub step : Step
  pub reads : List Variable

-- a step with its reads
abbrev pub treated : Step → List Variable → Option Treated
treated st rs = Some (record { step = st; reads = rs })

-- p is bound to a term that is no variable, where it does not occur in it
abbrev pub bind_solid : Variable → Term Variable → Option Found → Option Treated
bind_solid p t None = None
bind_solid p t (Some (hit rs)) = treated clashes (p ∷ rs)
bind_solid p t (Some (miss rs)) = treated (binds p (plain t)) (p ∷ rs)

-- the table of two values
abbrev pub table : ℕ → Bindings → Look → Look → Option Treated
table n s (solid t) (solid u) = treated (compare t u) []
table n s (writable p) (writable q) = treated (if is_same p q then nothing else (if is_older p q then binds q (var p) else binds p (var q))) (p ∷ q ∷ [])
table n s (writable p) (read_only q) = treated (if is_same p q then nothing else binds p (ro q)) (p ∷ q ∷ [])
table n s (read_only p) (writable q) = treated (if is_same p q then nothing else binds q (ro p)) (p ∷ q ∷ [])
table n s (read_only p) (read_only q) = treated (if is_same p q then nothing else waits) (p ∷ q ∷ [])
table n s (writable p) (solid t) = bind_solid p t (occurs n s p t)
table n s (solid t) (writable p) = bind_solid p t (occurs n s p t)
table n s (read_only p) (solid t) = treated waits (p ∷ [])
table n s (solid t) (read_only p) = treated waits (p ∷ [])

-- a function of two values, where both were found
abbrev pub both_looks : {A : Type 0} → (Look → Look → Option A) → Option Look → Option Look → Option A
both_looks f None m = None
both_looks f (Some l) None = None
both_looks f (Some l) (Some m) = f l m

-- the variable whose first occurrence a term is
abbrev pub first_of : Term Variable → Option ℕ
first_of (first k) = Some k
first_of t = None

-- a pair by whether its second side is a first occurrence
abbrev pub pair_on : ℕ → Bindings → Term Variable → Term Variable → Option ℕ → Option Treated
pair_on n s a b (Some k) = treated (binds (own k) a) []
pair_on n s a b None = both_looks (table n s) (value n s a) (value n s b)

-- One pair: a head's variable at its first occurrence takes the other side as it stands, which reads nothing;
-- else both sides are taken by value.
abbrev pub pair : ℕ → Bindings → Term Variable → Term Variable → Option Treated
pair n s a b = pair_on n s a b (first_of b)
