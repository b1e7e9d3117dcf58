-- The laws of these lists: in words that stand for a state, they are processes of the state.
use Rattle.std.specs.Prelude.{Bool, List, ℕ, filter, not}
use Rattle.fcp_model.specs.LawfulStates.{IsOrdered}
use Rattle.fcp_model.specs.States.{Status, State, is_ready, is_finished}
use Rattle.heap_words.specs.Heaps.{inside_at}
use Rattle.heap_words.specs.declared.cell.Stand.{Stand}
use Rattle.word_states.specs.Standing.{Book, StandsFor}
use Rattle.word_states.specs.Going.{AllAt}
use Rattle.ready_lists.specs.Ready.{stands_ready, stands_live, AreListed}

-- those whose words stand so are the state's of this status, where its processes rise in name
abbrev pub AreThoseOfTheState : (Stand → Bool) → (Status → Bool) → Type 0
AreThoseOfTheState stands is = (ws qs : List ℕ) (book : Book) (s : State) → AreListed stands ws qs → StandsFor book (inside_at ws) s
    → IsOrdered s → AllAt book s qs (filter (λ p. is p.status) s.processes)

-- the Ready ones
abbrev pub ReadyAreThoseOfTheState : Type 0
ReadyAreThoseOfTheState = AreThoseOfTheState stands_ready is_ready

-- those that are not done
abbrev pub LiveAreThoseOfTheState : Type 0
LiveAreThoseOfTheState = AreThoseOfTheState stands_live (λ d. not (is_finished d))
