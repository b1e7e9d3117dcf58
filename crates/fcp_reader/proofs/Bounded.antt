-- What the terminals of a text say of its variables, up to the next `.` and behind it.
use Rattle.std.proofs.Common.{◌≡◌, ◌≤◌, ◌<◌, ℕ, List, [], ◌∷◌, Bool, true, false, refl}
use Rattle.fcp_grammar.specs.declared.terminals.Terminal.{Terminal}
use Rattle.fcp_grammar.specs.declared.terminals.Terminal.TheVariants as terminal
use Rattle.fcp_grammar.specs.Grammar.{Marked}
use Rattle.fcp_terminals.specs.declared.variables.Form.{Form}
use Rattle.fcp_terminals.specs.declared.variables.Form.TheVariants.{Module, Goal}

-- A `.` with the number k, where v bounds the variables before it and b the number of `.`: in a module another number bounds those behind
-- it, and in a goal it is the same one.
abbrev pub DotBounded : Form → (ℕ → ℕ → Type 0) → ℕ → ℕ → ℕ → Type 0
DotBounded Module next v b k = (k ≡ v) × (v ≤ 250) × ((u : ℕ) × (c : ℕ) × (c < b) × next u c)
DotBounded Goal next v b k = next v b

-- A terminal that is not marked, where `next` says of two numbers that they bound the terminals behind it. A variable has a
-- number from 1 to v, or
-- it is one too many.
abbrev pub TerminalBounded : Form → (ℕ → ℕ → Type 0) → ℕ → ℕ → Terminal → Bool → Type 0
TerminalBounded f next v b (terminal.Var k at) m = (m ≡ false) × (1 ≤ k) × (k ≤ 250 → k ≤ v) × next v b
TerminalBounded f next v b (terminal.Dot k) m = DotBounded f next v b k
TerminalBounded f next v b _ m = (m ≡ false) × next v b

-- The terminals up to the next `.` have variables up to v, those behind it up to that one's number and so on, and at the end it is n. In a
-- module at most b of the terminals are `.`.
abbrev pub Bounded : Form → ℕ → ℕ → ℕ → List Marked → Type 0
Bounded f n v b [] = v ≡ n
Bounded f n v b (w ∷ ws) = TerminalBounded f (λ u c. Bounded f n u c ws) v b w.0 w.1

-- what the terminals of a part of a text say, and then the rest: the part is not one too many, and a test of its value passes
pub record Shown (f : Form) (n v b : ℕ) (m : Bool) (test : Bool) (rest : List Marked) : Type 0 where
  pub small : m ≡ false
  pub within : test ≡ true
  pub behind : Bounded f n v b rest

-- a terminal that is neither a variable nor a `.`
abbrev pub is_quiet : Terminal → Bool
is_quiet (terminal.Var k at) = false
is_quiet (terminal.Dot k) = false
is_quiet _ = true

pub quiet-bounded : (f : Form) (next : ℕ → ℕ → Type 0) (v b : ℕ) (w : Terminal) → is_quiet w ≡ true → next v b
    → TerminalBounded f next v b w false
quiet-bounded f next v b (terminal.Var k at) q x = absurd (cc)
quiet-bounded f next v b (terminal.Dot k) q x = absurd (cc)
quiet-bounded f next v b _ q x = (refl, x)
