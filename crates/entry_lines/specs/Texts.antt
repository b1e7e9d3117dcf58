-- The texts of which lines consist, said of all words that have those that were kept and stand for a state. Only the crate's private
-- clauses cite this file.
use Rattle.std.specs.Prelude.{◌≡◌, ℕ, ◌*◌, List, [], ◌∷◌, ◌++◌, map, Option, Some, option_map, codes}
use Rattle.std.specs.List.{AllZip}
use Rattle.fcp_model.specs.declared.names.Sym.{Sym}
use Rattle.fcp_model.specs.declared.run.Place.{Place}
use Rattle.fcp_model.specs.declared.run.Proc.{Proc}
use Rattle.fcp_model.specs.Places.{made, place, placed}
use Rattle.fcp_model.specs.Terms.{var, Bindings}
use Rattle.fcp_model.specs.States.{Process}
use Rattle.fcp_model.specs.Spelling.{Bytes, place_text}
use Rattle.fcp_model.specs.TermText.{cut_text}
use Rattle.fcp_model.specs.LogText.{both_texts}
use Rattle.fcp_model.specs.ReportText.{variable_line}
use Rattle.heap_words.specs.Trails.{WordList}
use Rattle.word_states.specs.Standing.{PlaceAt, ProcessAt}
use Rattle.entry_lines.specs.Additions.{Adds}
use Rattle.entry_lines.specs.Reading.{Wherever}

-- the text of the value of the place at the address, cut after so many nodes, was put after the text
abbrev pub AddsValue : WordList → List Bytes → ℕ → ℕ → Bytes → Bytes → Type 0
AddsValue kept names nodes a old new = Wherever kept (λ book s. (j : Place) → PlaceAt book j a
    → Adds old new (λ n. cut_text n names s.bound nodes (var (made j))))

-- ` _a.b=TERM` for a place, by value and cut after 64 nodes
abbrev pub bound_text : ℕ → List Bytes → Bindings → Place → Option Bytes
bound_text n names bound j = option_map (λ x. codes " " ++ place_text j ++ codes "=" ++ x) (cut_text n names bound 64 (var (made j)))

-- and for some places, one after another
abbrev pub bound_texts : ℕ → List Bytes → Bindings → List Place → Option Bytes
bound_texts n names bound [] = Some []
bound_texts n names bound (j ∷ js) = both_texts (bound_text n names bound j) (bound_texts n names bound js)

-- this was put for the place at the address
abbrev pub AddsBound : WordList → List Bytes → ℕ → Bytes → Bytes → Type 0
AddsBound kept names a old new = Wherever kept (λ book s. (j : Place) → PlaceAt book j a → Adds old new (λ n. bound_text n names s.bound j))

-- and for those at these addresses
abbrev pub AddsAllBound : WordList → List Bytes → List ℕ → Bytes → Bytes → Type 0
AddsAllBound kept names as' old new = Wherever kept (λ book s. (js : List Place) → AllZip (λ a j. PlaceAt book j a) as' js
    → Adds old new (λ n. bound_texts n names s.bound js))

-- the text for the names of the processes at these addresses was put after the text
abbrev pub AddsProcesses : WordList → (List Proc → Bytes) → List ℕ → Bytes → Bytes → Type 0
AddsProcesses kept text qs old new = Wherever kept (λ book s. (ys : List Process) → AllZip (λ q y. ProcessAt book s q y) qs ys
    → new ≡ old ++ text (map (λ (y : Process). y.name) ys))

-- the line of the goal's variable of this number was put after the text
abbrev pub AddsVariable : WordList → List Bytes → Option Sym → ℕ → Bytes → Bytes → Type 0
AddsVariable kept names variable k old new = Wherever kept (λ book s. PlaceAt book (place 0 k) (2 * k)
    → Adds old new (λ n. variable_line n names s.bound variable (var (placed 0 k))))
