-- The lines of entries, by words that stand for the state after the entry.
use Rattle.std.specs.Prelude.{◌≡◌, ℕ, ◌*◌, ◌≤◌, List, length, map, Option, Some, slice_get}
use Rattle.fcp_model.specs.declared.names.Sym.{Sym}
use Rattle.fcp_model.specs.declared.run.Place.{Place}
use Rattle.fcp_model.specs.declared.run.Proc.{Proc}
use Rattle.fcp_model.specs.declared.run.Entry.TheVariants.{Commit, Hang}
use Rattle.fcp_model.specs.Places.{Variable, made, place, places_among}
use Rattle.fcp_model.specs.Terms.{Term, Bindings, find, rename, settle}
use Rattle.fcp_model.specs.States.{State}
use Rattle.fcp_model.specs.Events.{Event, made_ready}
use Rattle.fcp_model.specs.Spelling.{Bytes}
use Rattle.fcp_model.specs.LogText.{event_line}
use Rattle.fcp_model.specs.ReportText.{goal_variables, variable_lines}
use Rattle.heap_words.specs.Trails.{WordList, word_at}
use Rattle.word_states.specs.Words.{Words}
use Rattle.word_states.specs.Standing.{Book, StandsFor, PlaceAt}
use Rattle.word_states.specs.Trials.{places_bound, AreAt}
use Rattle.word_states.specs.Going.{AllAt, ArePlaces}
use Rattle.entry_lines.specs.Additions.{Adds}

-- the words have those that were kept
abbrev pub HasKept : WordList → Words → Type 0
HasKept kept w = (a x : ℕ) → word_at kept a ≡ Some x → w a ≡ Some x

-- the place stands once among what was bound
abbrev pub OnlyOnce : Bindings → Place → Type 0
OnlyOnce bs j = (at at' : ℕ) (t t' : Term Variable) → slice_get bs at ≡ Some (made j, t) → slice_get bs at' ≡ Some (made j, t') → at ≡ at'

-- The event is a commit with this number, the words stand for the state after it, and these are the addresses of what it bound and woke.
pub record IsCommitThere (w : Words) (book : Book) (ev : Event) (entry : ℕ) (process : Proc) (clause : ℕ) (bound woken : List ℕ)
    : Type 0 where
  pub stands : StandsFor book w ev.after
  pub is : ev.entry ≡ Commit process clause
  pub number : ev.after.entries ≡ entry
  pub places : AreAt book.places bound (places_bound ev.bindings)
  -- each place that the try bound is bound to that in the state after it
  pub settled : (j : Place) (t : Term Variable) → find ev.bindings (made j) ≡ Some t
      → find ev.after.bound (made j) ≡ Some (rename (settle entry) t)
  pub once : (j : Place) (t : Term Variable) → find ev.bindings (made j) ≡ Some t → OnlyOnce ev.bindings j
  pub woken_at : AllAt book ev.after woken (map made_ready ev.woken)

-- so its line was put after the text, wherever words have those that were kept
abbrev pub CommitLine : List Bytes → WordList → ℕ → Proc → ℕ → List ℕ → List ℕ → Bytes → Bytes → Type 0
CommitLine names kept entry process clause bound woken old new = (w : Words) (book : Book) (ev : Event) → HasKept kept w
    → IsCommitThere w book ev entry process clause bound woken → Adds old new (λ n. event_line n names ev)

-- The event is a hang with this number, the words stand for the state after it, and these are the addresses of its places.
pub record IsHangThere (w : Words) (book : Book) (ev : Event) (entry : ℕ) (process : Proc) (waits : List ℕ) : Type 0 where
  pub stands : StandsFor book w ev.after
  pub is : ev.entry ≡ Hang process
  pub number : ev.after.entries ≡ entry
  pub places : ArePlaces book.places waits ev.waits_for
  pub by_age : (reads : List Variable) × (ev.waits_for ≡ places_among reads)

-- so its line was put after the text
abbrev pub HangLine : List Bytes → WordList → ℕ → Proc → List ℕ → Bytes → Bytes → Type 0
HangLine names kept entry process waits old new = (w : Words) (book : Book) (ev : Event) → HasKept kept w
    → IsHangThere w book ev entry process waits → Adds old new (λ n. event_line n names ev)

-- the goal's places have their words at 2, 4 and on
abbrev pub AreGoalPlaces : Book → ℕ → Type 0
AreGoalPlaces book count = (k : ℕ) → 1 ≤ k → k ≤ count → PlaceAt book (place 0 k) (2 * k)

-- the lines of the goal's variables were put after the text
abbrev pub VariableLines : List Bytes → WordList → List (Option Sym) → Bytes → Bytes → Type 0
VariableLines names kept variables old new = (w : Words) (book : Book) (s : State) → HasKept kept w → StandsFor book w s
    → AreGoalPlaces book (length variables) → Adds old new (λ n. variable_lines n names s.bound (goal_variables variables))
