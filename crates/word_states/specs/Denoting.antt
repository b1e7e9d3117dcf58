-- What words say: terms, expressions and goals.
use Rattle.std.specs.Prelude.{◌≡◌, ◌⊎◌, ℕ, suc, ◌+◌, ◌*◌, ◌<◌, ℤ, List, [], ◌∷◌, length, Some}
use Rattle.fcp_model.specs.declared.term.ArithOp.{ArithOp}
use Rattle.fcp_model.specs.declared.term.ArithOp.TheVariants.{Add, Sub, Mul, Div, Mod}
use Rattle.fcp_model.specs.declared.goal.TheConstants.{TRUE_PROCEDURE, UNIFY_PROCEDURE, ASSIGN_PROCEDURE}
use Rattle.fcp_model.specs.Places.{Variable}
use Rattle.fcp_model.specs.Terms.{Term, number, string, nil, cons, tuple, var, ro, first, Terms, none, more}
use Rattle.fcp_model.specs.Expressions.{Expr, leaf, op}
use Rattle.fcp_model.specs.Programs.{Goal, user, true', unifies, assigns}
use Rattle.heap_words.specs.Cells.{decoded}
use Rattle.heap_words.specs.declared.cell.Cell.TheVariants.{Ref, RoRef, Small, Wide, Str, Nil, Cons, Tuple, Raw}
use Rattle.word_states.specs.Numbers.{bits, low_bits, IsLong, part_count}
use Rattle.word_states.specs.Words.{Words, At}

-- variables with the addresses of their words
abbrev pub Addresses : Type 0
Addresses = List (Variable × ℕ)

-- the word of the variable is at the address
abbrev pub Listed : Addresses → Variable → ℕ → Type 0
Listed [] v a = ⊥
Listed (b ∷ bs) v a = (b ≡ (v, a)) ⊎ Listed bs v a

-- the number of an operator
abbrev pub operator_code : ArithOp → ℕ
operator_code Add = 0
operator_code Sub = 1
operator_code Mul = 2
operator_code Div = 3
operator_code Mod = 4

module _ (w : Words) (vs : Addresses) where
  -- A number stands as a small one. Outside that range its upper eight bits stand in the word, and the others at another address.
  abbrev pub NumberSays : ℕ → ℤ → Type 0
  NumberSays x z = (decoded x ≡ Some (Small z)) ⊎ ((a h : ℕ) × (low : ℤ) × (decoded x ≡ Some (Wide a h)) × At w a (Small low)
      × (bits z ≡ h * 0x100000000000000 + low_bits low) × IsLong z)

  -- a word denotes a term
  abbrev mutual
    pub Denotes : ℕ → Term Variable → Type 0
    Denotes x (number z) = NumberSays x z
    Denotes x (string s) = decoded x ≡ Some (Str (record { 0 = s }))
    Denotes x nil = decoded x ≡ Some Nil
    Denotes x (cons t u) =
        (c y z : ℕ) × (decoded x ≡ Some (Cons c)) × (w c ≡ Some y) × Denotes y t × (w (suc c) ≡ Some z) × Denotes z u
    Denotes x (tuple ts) =
        (c : ℕ) × (decoded x ≡ Some (Tuple c)) × At w c (Raw (part_count ts)) × (part_count ts < 66) × DenotesAll (suc c) ts
    Denotes x (var v) = (a : ℕ) × (decoded x ≡ Some (Ref a)) × Listed vs v a
    Denotes x (ro v) = (a : ℕ) × (decoded x ≡ Some (RoRef a)) × Listed vs v a
    Denotes x (first k) = ⊥

    -- the words from an address on denote the parts of a tuple
    pub DenotesAll : ℕ → Terms Variable → Type 0
    DenotesAll a none = Unit {0}
    DenotesAll a (more t ts) = (y : ℕ) × (w a ≡ Some y) × Denotes y t × DenotesAll (suc a) ts

  -- the words from an address on denote the terms
  abbrev pub Arguments : ℕ → List (Term Variable) → Type 0
  Arguments a [] = Unit {0}
  Arguments a (t ∷ ts) = (y : ℕ) × (w a ≡ Some y) × Denotes y t × Arguments (suc a) ts

  -- A word says an expression: a leaf is its term, and an operator stands as a tuple of two parts whose `Raw` is 66 and more.
  abbrev pub ExprSays : ℕ → Expr Variable → Type 0
  ExprSays x (leaf t) = Denotes x t
  ExprSays x (op o d e) = (c y z : ℕ) × (decoded x ≡ Some (Tuple c)) × At w c (Raw (66 + operator_code o))
      × (w (c + 1) ≡ Some y) × ExprSays y d × (w (c + 2) ≡ Some z) × ExprSays z e

  -- The process at p has this goal: after its status and its name stand its procedure, its number of arguments, and these. The
  -- built-in processes have the numbers from TRUE_PROCEDURE on.
  abbrev pub GoalSays : ℕ → Goal Variable → Type 0
  GoalSays p (user f ts) =
      At w (p + 2) (Raw f) × At w (p + 3) (Raw (length ts)) × Arguments (p + 4) ts × (f < TRUE_PROCEDURE)
  GoalSays p true' = At w (p + 2) (Raw TRUE_PROCEDURE) × At w (p + 3) (Raw 0)
  GoalSays p (unifies t u) =
      At w (p + 2) (Raw UNIFY_PROCEDURE) × At w (p + 3) (Raw 2) × Arguments (p + 4) (t ∷ u ∷ [])
  GoalSays p (assigns t e) = At w (p + 2) (Raw ASSIGN_PROCEDURE) × At w (p + 3) (Raw 2)
      × ((y z : ℕ) × (w (p + 4) ≡ Some y) × Denotes y t × (w (p + 5) ≡ Some z) × ExprSays z e)
