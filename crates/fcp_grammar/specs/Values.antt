-- Believed: the values of lists and of strings with arguments, and how many parts are too many.
use Rattle.std.specs.Prelude.{List, [], ◌∷◌, Option, Some, None, Bool, true, false, nat_le, length}
use Rattle.fcp_model.specs.declared.term.Term.{Term}
use Rattle.fcp_model.specs.declared.term.Term.TheVariants.{Str, Cons, Tuple}
use Rattle.fcp_model.specs.declared.names.Sym.{Sym}
use Rattle.fcp_grammar.specs.Limits.{most_arguments}

-- nested pairs, one for each element, and then the rest
abbrev pub listed : List Term → Term → Term
listed [] rest = rest
listed (t ∷ ts) rest = Cons t (listed ts rest)

-- a string with arguments: the tuple whose first part is the string
abbrev pub tuple_of : Sym → List Term → Term
tuple_of s ts = Tuple (Str s ∷ ts)

-- behind so many arguments or parts each further one is too many
abbrev pub over : List Term → Bool
over done = nat_le most_arguments (length done)

-- ---- the following two serve the machine's stack alone

-- the first element
abbrev pub first : {A : Type 0} → List A → Option A
first [] = None
first (x ∷ xs) = Some x

-- there is no element
abbrev pub is_empty : {A : Type 0} → List A → Bool
is_empty [] = true
is_empty (x ∷ xs) = false
