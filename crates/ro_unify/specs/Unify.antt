-- The unification of pairs of words in a memory. It is said of all words, also of such as stand for no term.
use Rattle.std.specs.Prelude.{◌≡◌, ℕ, ◌-◌, Bool, true, false, List, [], ◌∷◌, ◌++◌, Some, None, nat_eq}
use Rattle.heap_words.specs.Cells.{encoded}
use Rattle.heap_words.specs.Trails.{WordList, Memory}
use Rattle.heap_words.specs.declared.cell.Cell.TheVariants as cell
use Rattle.ro_unify.specs.declared.look.Look.{Look}
use Rattle.ro_unify.specs.declared.look.Look.TheVariants.{Writable, ReadOnly, Solid}
use Rattle.ro_unify.specs.declared.table.Move.{Move}
use Rattle.ro_unify.specs.declared.table.Move.TheVariants.{Nothing, Wait, Order, Bind, Check, Solids}
use Rattle.ro_unify.specs.declared.unification.Unified.{Unified}
use Rattle.ro_unify.specs.declared.unification.Unified.TheVariants as unified
use Rattle.ro_unify.specs.Value.{Values, IsOpen}
use Rattle.ro_unify.specs.Occurs.{Occurs, hit, miss}
use Rattle.ro_unify.specs.Table.{moved, older_of}
use Rattle.ro_unify.specs.Alike.{alike}

-- the read of a value
abbrev pub look_reads : Look → List ℕ
look_reads (Writable a) = a ∷ []
look_reads (ReadOnly a) = a ∷ []
look_reads (Solid x) = []

-- the place at a with the word to which it is bound
abbrev pub binding : ℕ → ℕ → ℕ × ℕ
binding a x = (a, x)

-- the younger place is bound to the older one
abbrev pub ordered : ℕ → ℕ → Bool → ℕ × ℕ
ordered p q true = binding q (encoded (cell.Ref p))
ordered p q false = binding p (encoded (cell.Ref q))

-- what a pair comes to: bindings and further pairs, or an end
pub data Turn : Type 0 where
  goes : WordList → List (ℕ × ℕ) → Turn
  clashes : Turn
  waits : Turn

-- what a move comes to in a memory under bindings, with the reads before and after
pub data Does (bs : WordList) (m : Memory) (rs : List ℕ) : Move → Turn → List ℕ → Type 0 where
  nothing : Does bs m rs Nothing (goes bs []) rs
  wait : Does bs m rs Wait waits rs
  order : (p q : ℕ) → Does bs m rs (Order p q) (goes (bs ++ ordered p q (older_of p q (m (p - 1)) (m (q - 1))) ∷ []) []) rs
  bind : (p q : ℕ) → Does bs m rs (Bind p q) (goes (bs ++ binding p (encoded (cell.RoRef q)) ∷ []) []) rs
  found : (p x : ℕ) (rs' : List ℕ) → Occurs bs m p (x ∷ []) rs (hit rs') → Does bs m rs (Check p x) clashes rs'
  absent : (p x : ℕ) (rs' : List ℕ) → Occurs bs m p (x ∷ []) rs (miss rs') → Does bs m rs (Check p x) (goes (bs ++ binding p x ∷ []) []) rs'
  same : (x y : ℕ) (qs : List (ℕ × ℕ)) → alike m x y ≡ Some qs → Does bs m rs (Solids x y) (goes bs qs) rs
  other : (x y : ℕ) → alike m x y ≡ None → Does bs m rs (Solids x y) clashes rs

-- how a unification ends
pub data Ended : Type 0 where
  done : WordList → List ℕ → Ended
  clash : List ℕ → Ended
  stop : List ℕ → Ended

-- One pair: the values of both sides, which are read from the left, and what the table says of them.
pub record Treats (bs : WordList) (m : Memory) (rs : List ℕ) (p : ℕ × ℕ) (t : Turn) (rs' : List ℕ) : Type 0 where
  pub left : Look
  pub right : Look
  pub left_is : Values bs m false p.0 left
  pub right_is : Values bs m false p.1 right
  pub does : Does bs m ((rs ++ look_reads left) ++ look_reads right) (moved left right) t rs'

-- Pairs from the left: the parts of a pair come before the others, and the first clash or wait ends it.
pub data Unifies (m : Memory) : WordList → List ℕ → List (ℕ × ℕ) → Ended → Type 0 where
  at_end : (bs : WordList) (rs : List ℕ) → Unifies m bs rs [] (done bs rs)
  on : (bs : WordList) (rs : List ℕ) (p : ℕ × ℕ) (ps : List (ℕ × ℕ)) (bs' : WordList) (qs : List (ℕ × ℕ)) (rs' : List ℕ) (e : Ended)
      → Treats bs m rs p (goes bs' qs) rs' → Unifies m bs' rs' (qs ++ ps) e → Unifies m bs rs (p ∷ ps) e
  clashed : (bs : WordList) (rs : List ℕ) (p : ℕ × ℕ) (ps : List (ℕ × ℕ)) (rs' : List ℕ) → Treats bs m rs p clashes rs'
      → Unifies m bs rs (p ∷ ps) (clash rs')
  stopped : (bs : WordList) (rs : List ℕ) (p : ℕ × ℕ) (ps : List (ℕ × ℕ)) (rs' : List ℕ) → Treats bs m rs p waits rs'
      → Unifies m bs rs (p ∷ ps) (stop rs')

-- how a call ended, with the bindings and the reads that it left
abbrev pub ending : Unified → WordList → List ℕ → Ended
ending unified.Done bs rs = done bs rs
ending unified.Clash bs rs = clash rs
ending unified.Wait bs rs = stop rs

-- what a call did for a move: it went on, or the unification ends
abbrev pub Acts : Memory → WordList → List ℕ → Move → List (ℕ × ℕ) → WordList → List ℕ → List (ℕ × ℕ) → Unified → Type 0
Acts m bs rs mv ps bs' rs' ps' unified.Done = (qs : List (ℕ × ℕ)) × (Does bs m rs mv (goes bs' qs) rs') × (ps' ≡ qs ++ ps)
Acts m bs rs mv ps bs' rs' ps' unified.Clash = Does bs m rs mv clashes rs'
Acts m bs rs mv ps bs' rs' ps' unified.Wait = Does bs m rs mv waits rs'

-- what a call did for a pair in front of others
abbrev pub Turned : Memory → WordList → List ℕ → ℕ × ℕ → List (ℕ × ℕ) → WordList → List ℕ → List (ℕ × ℕ) → Unified → Type 0
Turned m bs rs p ps bs' rs' ps' unified.Done = (qs : List (ℕ × ℕ)) × Treats bs m rs p (goes bs' qs) rs' × (ps' ≡ qs ++ ps)
Turned m bs rs p ps bs' rs' ps' unified.Clash = Treats bs m rs p clashes rs'
Turned m bs rs p ps bs' rs' ps' unified.Wait = Treats bs m rs p waits rs'

-- what a move needs: its places are unbound, its words lead to known addresses
abbrev pub Ready : (ℕ → Type 0) → WordList → Memory → Move → Type 0
Ready leads bs m Nothing = Unit {0}
Ready leads bs m Wait = Unit {0}
Ready leads bs m (Order p q) =
    leads (encoded (cell.Ref p)) × leads (encoded (cell.Ref q)) × IsOpen bs m p × IsOpen bs m q × (nat_eq p q ≡ false)
Ready leads bs m (Bind p q) = leads (encoded (cell.RoRef q)) × IsOpen bs m p × IsOpen bs m q × (nat_eq p q ≡ false)
Ready leads bs m (Check p x) = leads x × IsOpen bs m p
Ready leads bs m (Solids x y) = leads x × leads y

-- the place of an unbound value is unbound
abbrev pub IsOpenLook : WordList → Memory → Look → Type 0
IsOpenLook bs m (Writable a) = IsOpen bs m a
IsOpenLook bs m (ReadOnly a) = IsOpen bs m a
IsOpenLook bs m (Solid x) = Unit {0}

-- the turn after an occurs check
abbrev pub checked : Bool → WordList → Turn
checked true bs = goes bs []
checked false bs = clashes
