-- The processes of a heap that are Ready, and those that are not done, by name.
use Rattle.std.specs.Prelude.{◌≡◌, ℕ, ◌+◌, ◌≤◌, Bool, true, false, pos, List, [], ◌∷◌}
use Rattle.heap_words.specs.Heaps.{inside_at}
use Rattle.heap_words.specs.declared.cell.Cell.TheVariants.{Small, Status}
use Rattle.heap_words.specs.declared.cell.Stand.{Stand}
use Rattle.heap_words.specs.declared.cell.Stand.TheVariants.{Ready, Waiting, Done}
use Rattle.word_states.specs.Words.{At, IsIn, AreDistinct}

-- the stand of a process that is Ready
abbrev pub stands_ready : Stand → Bool
stands_ready Ready = true
stands_ready (Waiting n) = false
stands_ready Done = false

-- the stand of a process that is not done
abbrev pub stands_live : Stand → Bool
stands_live Ready = true
stands_live (Waiting n) = true
stands_live Done = false

-- each of these processes has a name with a number that is not above those of the others behind it
abbrev pub AreByNumber : List ℕ → List ℕ → Type 0
AreByNumber ws [] = Unit {0}
AreByNumber ws (q ∷ qs) = ((r n k : ℕ) → IsIn r qs → At (inside_at ws) (q + 1) (Small (pos n)) → At (inside_at ws) (r + 1) (Small (pos k))
    → n ≤ k) × AreByNumber ws qs

-- Exactly the addresses at which the status of a process stands that stands so, each once; the numbers that their names say rise.
pub record AreListed (stands : Stand → Bool) (ws qs : List ℕ) : Type 0 where
  pub all : (a : ℕ) (d : Stand) → stands d ≡ true → At (inside_at ws) a (Status d) → IsIn a qs
  pub only : (a : ℕ) → IsIn a qs → (d : Stand) × (stands d ≡ true) × At (inside_at ws) a (Status d)
  pub once : AreDistinct qs
  pub by_name : AreByNumber ws qs

-- those that are Ready
abbrev pub AreReady : List ℕ → List ℕ → Type 0
AreReady ws qs = AreListed stands_ready ws qs

-- those that are not done
abbrev pub AreLive : List ℕ → List ℕ → Type 0
AreLive ws qs = AreListed stands_live ws qs
