-- The value of a word in a memory under bindings: references are followed up to an unbound place or to anything else.
use Rattle.std.specs.Prelude.{◌≡◌, ℕ, Bool, true, false, Option, Some, None, if◌then◌else◌}
use Rattle.heap_words.specs.Cells.{encoded, decoded}
use Rattle.heap_words.specs.Trails.{WordList, Memory, word_at}
use Rattle.heap_words.specs.declared.cell.Cell.{Cell}
use Rattle.heap_words.specs.declared.cell.Cell.TheVariants.{Unbound, Ref, RoRef}
use Rattle.ro_unify.specs.declared.look.Look.{Look}
use Rattle.ro_unify.specs.declared.look.Look.TheVariants.{Writable, ReadOnly, Solid}
use Rattle.ro_unify.specs.declared.look.Step.{Step}
use Rattle.ro_unify.specs.declared.look.Step.TheVariants.{End, On}

-- an unbound place, after a read-only mark or not
abbrev pub open_at : Bool → ℕ → Look
open_at true a = ReadOnly a
open_at false a = Writable a

-- the cell of an unbound place
abbrev pub is_unbound : Option Cell → Bool
is_unbound (Some (Unbound k)) = true
is_unbound _ = false

-- one step through the place at a, whose word is x
abbrev pub place_step : Bool → ℕ → ℕ → Step
place_step only a x = if is_unbound (decoded x) then End (open_at only a) else On only x

-- the place of a reference, and whether it is read-only
abbrev pub leads_on : Bool → Option Cell → Option (Bool × ℕ)
leads_on only (Some (Ref a)) = Some (only, a)
leads_on only (Some (RoRef a)) = Some (true, a)
leads_on only _ = None

-- a step through a place, which may be bound: then the value is that of its word
abbrev pub bound_step : Bool → ℕ → Option ℕ → ℕ → Step
bound_step only a (Some x) y = On only x
bound_step only a None y = place_step only a y

-- a step from a word to its place, where it has one; any other word is its own value
abbrev pub step_at : WordList → Memory → ℕ → Option (Bool × ℕ) → Step
step_at bs m w None = End (Solid w)
step_at bs m w (Some p) = bound_step p.0 p.1 (word_at bs p.1) (m p.1)

-- one step of the value of a word
abbrev pub step_of : WordList → Memory → Bool → ℕ → Step
step_of bs m only w = step_at bs m w (leads_on only (decoded w))

-- The value of a word, before which a read-only mark was met or not.
pub data Values (bs : WordList) (m : Memory) : Bool → ℕ → Look → Type 0 where
  ends : (only : Bool) (w : ℕ) (l : Look) → step_of bs m only w ≡ End l → Values bs m only w l
  goes : (only : Bool) (w : ℕ) (o : Bool) (x : ℕ) (l : Look) → step_of bs m only w ≡ On o x → Values bs m o x l → Values bs m only w l

-- a word that has this value
abbrev pub look_word : Look → ℕ
look_word (Writable a) = encoded (Ref a)
look_word (ReadOnly a) = encoded (RoRef a)
look_word (Solid x) = x

-- the word with which a step goes on, or ends
abbrev pub StepLeads : (ℕ → Type 0) → Step → Type 0
StepLeads leads (End l) = leads (look_word l)
StepLeads leads (On o x) = leads x

-- a place that is bound neither privately nor in the memory
abbrev pub IsOpen : WordList → Memory → ℕ → Type 0
IsOpen bs m a = (word_at bs a ≡ None) × (is_unbound (decoded (m a)) ≡ true)
