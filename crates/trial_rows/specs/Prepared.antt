-- What a trial asks of a goal that was laid.
use Rattle.std.specs.Prelude.{ℕ, ◌<◌}
use Rattle.heap_words.specs.Heaps.{IsHeap, inside_at}
use Rattle.heap_words.specs.declared.cell.Cell.TheVariants.{Unbound}
use Rattle.word_states.specs.Words.{At}
use Rattle.laid_texts.specs.declared.goals.LaidGoal.{LaidGoal}
use Rattle.stored_heaps.specs.Laws.{gives}
use Rattle.trial_machine.specs.Goals.{HasStatus}

-- The words are those of a heap, the process has its status, and the first place, if there is one, is unbound.
pub record IsPrepared (l : LaidGoal) : Type 0 where
  pub heap : IsHeap l.heap.words.items
  pub process : HasStatus gives l.heap l.process
  pub place : 0 < l.variables → (e : ℕ) × At (inside_at l.heap.words.items) 2 (Unbound e)
