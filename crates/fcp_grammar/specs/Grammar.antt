-- Believed: the grammar of terms. Its trees, the value of each, and the terminals that it spells, each marked where it is one too many.
use Rattle.std.specs.Prelude.{ℕ, ℤ, List, [], ◌∷◌, ◌++◌, Bool, true, false, nat_lt, ◌||◌, ◌&&◌}
use Rattle.fcp_model.specs.declared.term.Term.{Term}
use Rattle.fcp_model.specs.declared.term.Term.TheVariants as T
use Rattle.fcp_model.specs.declared.names.Sym.{Sym}
use Rattle.fcp_grammar.specs.declared.terminals.StringForm.{StringForm}
use Rattle.fcp_grammar.specs.declared.terminals.Terminal.{Terminal}
use Rattle.fcp_grammar.specs.declared.terminals.Terminal.TheVariants as terminal
use Rattle.fcp_grammar.specs.Values.{listed, tuple_of, over}
use Rattle.fcp_grammar.specs.Limits.{most_variables}

-- a terminal, and whether it is one too many
abbrev pub Marked : Type 0
Marked = Terminal × Bool

-- A number, a string with or without arguments, a variable, one with `?`, `[]`, a list, a list with a rest behind a bar, or a
-- tuple in braces. `at` is the place of the first terminal, and `open_at` that of a `(`.
mutual
  pub data Tree : Type 0 where
    int : (n : ℤ) (at : ℕ) → Tree
    call : (c : CallTree) → Tree
    variable : (k : ℕ) (at : ℕ) → Tree
    read_only : (k : ℕ) (at : ℕ) → Tree
    nil : (at : ℕ) → Tree
    list : (at : ℕ) (front : Trees) (last : Tree) → Tree
    list_rest : (at : ℕ) (front : Trees) (last : Tree) (rest : Tree) → Tree
    braces : (at : ℕ) (front : Trees) (last : Tree) → Tree

  -- a string alone, or with arguments in parentheses: a term, the head of a clause, or an item that calls a procedure
  pub data CallTree : Type 0 where
    name_alone : (s : Sym) (form : StringForm) (at : ℕ) → CallTree
    with_arguments : (s : Sym) (form : StringForm) (at : ℕ) (open_at : ℕ) (front : Trees) (last : Tree) → CallTree

  -- terms with a comma behind each
  pub data Trees : Type 0 where
    none : Trees
    and : (front : Trees) (t : Tree) → Trees

-- ---- places and values

-- the place of a call's string
abbrev pub call_place : CallTree → ℕ
call_place (name_alone s form at) = at
call_place (with_arguments s form at o ts t) = at

-- a call's string
abbrev pub call_name : CallTree → Sym
call_name (name_alone s form at) = s
call_name (with_arguments s form at o ts t) = s

-- the place of a term's first terminal
abbrev pub first_of : Tree → ℕ
first_of (int n at) = at
first_of (call c) = call_place c
first_of (variable k at) = at
first_of (read_only k at) = at
first_of (nil at) = at
first_of (list at ts t) = at
first_of (list_rest at ts t u) = at
first_of (braces at ts t) = at

-- the term that the tree stands for
abbrev mutual
  pub value : Tree → Term
  value (int n at) = T.Int n
  value (call c) = call_value c
  value (variable k at) = T.Var k
  value (read_only k at) = T.Ro k
  value (nil at) = T.Nil
  value (list at ts t) = listed (values ts ++ value t ∷ []) T.Nil
  value (list_rest at ts t u) = listed (values ts ++ value t ∷ []) (value u)
  value (braces at ts t) = T.Tuple (values ts ++ value t ∷ [])

  pub call_value : CallTree → Term
  call_value (name_alone s form at) = T.Str s
  call_value (with_arguments s form at o ts t) = tuple_of s (values ts ++ value t ∷ [])

  pub values : Trees → List Term
  values none = []
  values (and ts t) = values ts ++ value t ∷ []

-- the arguments of a call
abbrev pub call_arguments : CallTree → List Term
call_arguments (name_alone s form at) = []
call_arguments (with_arguments s form at o ts t) = values ts ++ value t ∷ []

-- ---- terminals

-- a terminal that is not too many
abbrev pub plain : Terminal → Marked
plain w = (w, false)

-- whether what stands behind these parts is one too many; the elements of a list have no limit
abbrev pub over_if : Bool → Trees → Bool
over_if counted ts = counted && over (values ts)

-- The terminals of the tree, and then the rest. `m` says that the tree is one too many.
abbrev mutual
  pub spell : Bool → Tree → List Marked → List Marked
  spell m (int n at) rest = (terminal.Int n at, m) ∷ rest
  spell m (call c) rest = spell_call m c rest
  spell m (variable k at) rest = (terminal.Var k at, m || nat_lt most_variables k) ∷ rest
  spell m (read_only k at) rest = (terminal.Var k at, m || nat_lt most_variables k) ∷ plain terminal.Question ∷ rest
  spell m (nil at) rest = (terminal.SquareOpen at, m) ∷ plain terminal.SquareClose ∷ rest
  spell m (list at ts t) rest = (terminal.SquareOpen at, m) ∷ spells false ts (spell false t (plain terminal.SquareClose ∷ rest))
  spell m (list_rest at ts t u) rest =
      (terminal.SquareOpen at, m)
      ∷ spells false ts (spell false t (plain terminal.Bar ∷ spell false u (plain terminal.SquareClose ∷ rest)))
  spell m (braces at ts t) rest =
      (terminal.CurlyOpen at, m) ∷ spells true ts (spell (over (values ts)) t (plain terminal.CurlyClose ∷ rest))

  pub spell_call : Bool → CallTree → List Marked → List Marked
  spell_call m (name_alone s form at) rest = (terminal.Str s form at, m) ∷ rest
  spell_call m (with_arguments s form at o ts t) rest =
      (terminal.Str s form at, m) ∷ plain (terminal.RoundOpen o)
      ∷ spells true ts (spell (over (values ts)) t (plain terminal.RoundClose ∷ rest))

  pub spells : Bool → Trees → List Marked → List Marked
  spells counted none rest = rest
  spells counted (and ts t) rest = spells counted ts (spell (over_if counted ts) t (plain terminal.Comma ∷ rest))
