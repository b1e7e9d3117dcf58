-- What laying a piece, a term or an expression does to the words.
use Rattle.std.specs.Prelude.{◌≡◌, ◌⊎◌, ℕ, ◌+◌, ◌*◌, ◌%◌, ◌<◌, ◌≤◌, Bool, true, false, List, length, map, slice_get, Some, nat_eq}
use Rattle.fcp_model.specs.declared.term.Term as source
use Rattle.fcp_model.specs.Translation.{term_of, terms_of}
use Rattle.fcp_model.specs.Places.{Variable, placed}
use Rattle.fcp_model.specs.Terms.{Term, number, string, nil, cons, tuple, var, ro, first, Terms, none, more, rename}
use Rattle.fcp_model.specs.Expressions.{Expr, leaf, op, rename_expr}
use Rattle.fcp_model.specs.States.{count_up}
use Rattle.heap_words.specs.Cells.{decoded}
use Rattle.heap_words.specs.Heaps.{is_inside, inside_at}
use Rattle.heap_words.specs.declared.cell.Cell.{Cell}
use Rattle.heap_words.specs.declared.cell.Cell.TheVariants.{Unbound, Small, Raw, Top}
use Rattle.word_states.specs.Words.{Words, StandAt}
use Rattle.word_states.specs.Numbers.{part_count}
use Rattle.word_states.specs.Denoting.{Addresses, Denotes, ExprSays}
use Rattle.goal_layout.specs.FirstFit.{fit, first_fit}
use Rattle.goal_layout.specs.PieceSizes.{term_sizes, expr_sizes}
use Rattle.goal_layout.specs.Pages.{ArePages, rooms}

-- the goal's places: the k-th has its word at 2k, and its name before it
abbrev pub places_of : ℕ → Addresses
places_of vars = map (λ k. (placed 0 k, 2 * k)) (count_up 1 vars)

-- a variable of the goal is the place of its number
abbrev pub settled_term : Term ℕ → Term Variable
settled_term = rename (placed 0)

-- the same in an expression
abbrev pub settled_expr : Expr ℕ → Expr Variable
settled_expr = rename_expr (placed 0)

-- the parts of a tuple that was read
abbrev pub parts_of : List source.Term → Terms ℕ
parts_of ts = terms_of (map term_of ts)

-- a tuple has at most 65 parts
abbrev mutual
  pub IsNarrow : Term ℕ → Type 0
  IsNarrow (number z) = Unit {0}
  IsNarrow (string s) = Unit {0}
  IsNarrow nil = Unit {0}
  IsNarrow (cons t u) = IsNarrow t × IsNarrow u
  IsNarrow (tuple ts) = (part_count ts ≤ 65) × AreNarrow ts
  IsNarrow (var k) = Unit {0}
  IsNarrow (ro k) = Unit {0}
  IsNarrow (first k) = Unit {0}

  pub AreNarrow : Terms ℕ → Type 0
  AreNarrow none = Unit {0}
  AreNarrow (more t ts) = IsNarrow t × AreNarrow ts

-- the same in an expression
abbrev pub IsNarrowExpr : Expr ℕ → Type 0
IsNarrowExpr (leaf t) = IsNarrow t
IsNarrowExpr (op o d e) = IsNarrowExpr d × IsNarrowExpr e

-- a cell that refers to nothing, and is neither a term's nor a status
abbrev pub is_quiet : Cell → Bool
is_quiet (Unbound e) = nat_eq e 0
is_quiet (Small z) = true
is_quiet (Raw n) = true
is_quiet (Top a) = true
is_quiet _ = false

-- the word of such a cell
pub record IsQuiet (x : ℕ) : Type 0 where
  pub cell : Cell
  pub says : decoded x ≡ Some cell
  pub quiet : is_quiet cell ≡ true

-- a word refers to nothing, or says an expression
abbrev pub IsSaid : Words → Addresses → ℕ → Type 0
IsSaid w vs x = IsQuiet x ⊎ ((e : Expr Variable) × ExprSays w vs x e)

-- Pieces of these sizes were laid, each by first fit. No word in use is changed but for tops, and each new one refers to nothing or
-- says an expression.
pub record Lays (vs : Addresses) (sizes ws ws' : List ℕ) : Type 0 where
  pub pages : ArePages ws'
  pub size : length ws' ≡ length ws
  pub fits : first_fit (rooms ws) sizes ≡ Some (rooms ws')
  pub kept : (a : ℕ) → is_inside ws a ≡ true → (a % 1024 ≡ 0 → ⊥) → (is_inside ws' a ≡ true) × (slice_get ws' a ≡ slice_get ws a)
  pub said : (a x : ℕ) → inside_at ws' a ≡ Some x → (inside_at ws a ≡ Some x) ⊎ IsSaid (inside_at ws') vs x

-- a word in use that is 0 yet, and no top
pub record IsBlank (ws : List ℕ) (a : ℕ) : Type 0 where
  pub word : inside_at ws a ≡ Some 0
  pub off : a % 1024 ≡ 0 → ⊥

-- A piece of n words is at a. Its first words are xs, and the others are 0 yet; no other word in use is new but for tops.
pub record Fills (n a : ℕ) (xs ws ws' : List ℕ) : Type 0 where
  pub pages : ArePages ws'
  pub size : length ws' ≡ length ws
  pub fits : fit n (rooms ws) ≡ Some (rooms ws')
  pub inside : a + n ≤ length ws
  pub free : (b : ℕ) → a ≤ b → b < a + n → is_inside ws b ≡ false
  pub stand : StandAt (inside_at ws') a xs
  pub blank : (b : ℕ) → a + length xs ≤ b → b < a + n → IsBlank ws' b
  pub kept : (b : ℕ) → is_inside ws b ≡ true → (b % 1024 ≡ 0 → ⊥) → (is_inside ws' b ≡ true) × (slice_get ws' b ≡ slice_get ws b)
  pub others : (b x : ℕ) → inside_at ws' b ≡ Some x → (b < a) ⊎ (a + n ≤ b) → (inside_at ws b ≡ Some x) ⊎ IsQuiet x

-- A term was laid: its pieces, and the word x denotes it.
pub record LaysTerm (vars : ℕ) (t : Term ℕ) (x : ℕ) (ws ws' : List ℕ) : Type 0 where
  pub lays : Lays (places_of vars) (term_sizes t) ws ws'
  pub word : Denotes (inside_at ws') (places_of vars) x (settled_term t)

-- so of an expression
pub record LaysExpr (vars : ℕ) (e : Expr ℕ) (x : ℕ) (ws ws' : List ℕ) : Type 0 where
  pub lays : Lays (places_of vars) (expr_sizes e) ws ws'
  pub word : ExprSays (inside_at ws') (places_of vars) x (settled_expr e)
