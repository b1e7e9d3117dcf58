-- The sizes of a goal's pieces, in the order in which they are laid: wholes before their parts, from the left.
use Rattle.std.specs.Prelude.{ℕ, suc, ◌+◌, ◌&&◌, Bool, ℤ, pos, negsuc, int_le, List, [], ◌∷◌, ◌++◌, length, replicate, if◌then◌else◌}
use Rattle.std.specs.List.{flat_map}
use Rattle.fcp_model.specs.Terms.{Term, number, string, nil, cons, tuple, var, ro, first, Terms, none, more}
use Rattle.fcp_model.specs.Expressions.{Expr, leaf, op}
use Rattle.fcp_model.specs.Programs.{Goal, user, true', unifies, assigns}
use Rattle.word_states.specs.Numbers.{part_count}

-- a number that one word holds
abbrev pub is_small : ℤ → Bool
is_small z = int_le (negsuc 0x7fffffffffffff) z && int_le z (pos 0x7fffffffffffff)

-- a pair has two words, a tuple one more than it has parts, and the lower bits of a wide number one
abbrev mutual
  pub term_sizes : Term ℕ → List ℕ
  term_sizes (number z) = if is_small z then [] else 1 ∷ []
  term_sizes (string s) = []
  term_sizes nil = []
  term_sizes (cons t u) = 2 ∷ (term_sizes t ++ term_sizes u)
  term_sizes (tuple ts) = suc (part_count ts) ∷ part_sizes ts
  term_sizes (var k) = []
  term_sizes (ro k) = []
  term_sizes (first k) = []

  pub part_sizes : Terms ℕ → List ℕ
  part_sizes none = []
  part_sizes (more t ts) = term_sizes t ++ part_sizes ts

-- an operator has three words
abbrev pub expr_sizes : Expr ℕ → List ℕ
expr_sizes (leaf t) = term_sizes t
expr_sizes (op o d e) = 3 ∷ (expr_sizes d ++ expr_sizes e)

-- the pieces of some terms, one after another
abbrev pub all_sizes : List (Term ℕ) → List ℕ
all_sizes [] = []
all_sizes (t ∷ ts) = term_sizes t ++ all_sizes ts

-- the pieces of the arguments, and then the process: its status, name, procedure, number of arguments, and the arguments
abbrev pub goal_sizes : Goal ℕ → List ℕ
goal_sizes (user f ts) = all_sizes ts ++ (4 + length ts) ∷ []
goal_sizes true' = 4 ∷ []
goal_sizes (unifies t u) = term_sizes t ++ (term_sizes u ++ 6 ∷ [])
goal_sizes (assigns t e) = term_sizes t ++ (expr_sizes e ++ 6 ∷ [])

-- the places, of two words each, and then item by item
abbrev pub sizes_of : ℕ → List (Goal ℕ) → List ℕ
sizes_of vars gs = replicate vars 2 ++ flat_map goal_sizes gs
