-- What a trial asks of a store, of a plain heap.
use Rattle.std.specs.Prelude.{◌≡◌, ℕ, ◌*◌, ◌≤◌, List, [], length, Some}
use Rattle.fcp_model.specs.declared.source.GoalText.{GoalText}
use Rattle.fcp_model.specs.declared.source.Module.{Module}
use Rattle.heap_words.specs.Heaps.{IsHeap, inside_at, final_at}
use Rattle.heap_words.specs.declared.heap.PlainHeap.{PlainHeap}
use Rattle.heap_words.specs.declared.cell.Cell.TheVariants.{Unbound}
use Rattle.word_states.specs.Words.{At}
use Rattle.goal_layout.specs.Goals.{LaysGoal}
use Rattle.safe_tries.specs.Stored.{IsStored}
use Rattle.trial_machine.specs.Goals.{HasStatus}

-- a load of the heap gives this word at this address
abbrev pub gives : PlainHeap → ℕ → ℕ → Type 0
gives h a x = inside_at h.words.items a ≡ Some x

-- a plain heap is a store, of which nothing was kept
abbrev pub IsStoredHeap : PlainHeap → Type 0
IsStoredHeap h =
    IsStored {S = PlainHeap} (λ g. length g.words.items) (λ g. IsHeap g.words.items) gives (λ g. final_at g.words.items)
    (λ g k. g.words.items ≡ k.words.items) [] h

-- so is each one whose words are those of a heap
abbrev pub AHeapIsAStore : Type 0
AHeapIsAStore = (h : PlainHeap) → IsHeap h.words.items → IsStoredHeap h

-- the first process of a goal that was laid has a status
abbrev pub AFirstProcessHasItsStatus : Type 0
AFirstProcessHasItsStatus = (h : PlainHeap) (m : Module) (g : GoalText) (p : ℕ) (ws : List ℕ) → LaysGoal m g p ws h.words.items
    → HasStatus gives h p

-- and the place of each of its variables is not bound
abbrev pub APlaceIsUnbound : Type 0
APlaceIsUnbound = (h : PlainHeap) (m : Module) (g : GoalText) (p : ℕ) (ws : List ℕ) (k : ℕ) → LaysGoal m g p ws h.words.items → 1 ≤ k
    → k ≤ length g.names → (e : ℕ) × At (inside_at h.words.items) (2 * k) (Unbound e)
