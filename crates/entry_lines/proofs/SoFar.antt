-- What the loops over places, processes and variables have put so far.
use Rattle.std.proofs.Common.{◌≡◌, ℕ, ◌+◌, ◌<◌, ◌≤◌, List, [], ◌∷◌, ◌++◌, length, take, map, get_or, Option, sym, ap, ◌∙◌, subst}
use Rattle.std.proofs.Common.{append_assoc, append-nil, arith, Some}
use Rattle.std.specs.Prelude.{codes}
use Rattle.std.specs.List.{AllZip}
use Rattle.std.proofs.lemmas.List.{take_all, map-append}
use Rattle.fcp_model.specs.declared.names.Sym.{Sym}
use Rattle.fcp_model.specs.declared.run.Place.{Place}
use Rattle.fcp_model.specs.declared.run.Proc.{Proc}
use Rattle.fcp_model.specs.States.{Process}
use Rattle.fcp_model.specs.Spelling.{Bytes, process_text}
use Rattle.fcp_model.specs.LogText.{processes_text, woken_text}
use Rattle.fcp_model.specs.ReportText.{goal_variables, variable_lines}
use Rattle.heap_words.specs.Trails.{WordList, word_at}
use Rattle.word_states.specs.Standing.{PlaceAt, ProcessAt}
use Rattle.entry_lines.specs.Additions.{Adds}
use Rattle.entry_lines.specs.Lines.{AreGoalPlaces, VariableLines}
use Rattle.entry_lines.specs.Reading.{Wherever, NamesProcess}
use Rattle.entry_lines.specs.Texts.{bound_texts, AddsBound, AddsAllBound, AddsProcesses, AddsVariable}
use Rattle.entry_lines.proofs.Adding.{adds_both, next_of, all_of, bound_texts-append, variables_added, processes_added}

-- the texts of the first i places
abbrev pub BoundSoFar : WordList → List Bytes → List ℕ → ℕ → Bytes → Bytes → Type 0
BoundSoFar kept names as' i old new = Wherever kept (λ book s. (js : List Place) → AllZip (λ a j. PlaceAt book j a) as' js
    → Adds old new (λ n. bound_texts n names s.bound (take i js)))

-- the names of the first i processes
abbrev pub ProcessesSoFar : WordList → List ℕ → ℕ → Bytes → Bytes → Type 0
ProcessesSoFar kept qs i old new = Wherever kept (λ book s. (ys : List Process) → AllZip (λ q y. ProcessAt book s q y) qs ys
    → new ≡ old ++ processes_text (map (λ (y : Process). y.name) (take i ys)))

-- the lines of the first i variables
abbrev pub VariablesSoFar : WordList → List Bytes → List (Option Sym) → ℕ → Bytes → Bytes → Type 0
VariablesSoFar kept names variables i old new = Wherever kept (λ book s. AreGoalPlaces book (length variables)
    → Adds old new (λ n. variable_lines n names s.bound (goal_variables (take i variables))))

module _ (kept kept' : WordList) (up : (a x : ℕ) → word_at kept a ≡ Some x → word_at kept' a ≡ Some x) where
  pub bound_next : (names : List Bytes) (as' : List ℕ) (i d : ℕ) (one two three : Bytes) → i < length as'
      → BoundSoFar kept names as' i one two → AddsBound kept' names (get_or as' i d) two three
      → BoundSoFar kept' names as' (i + 1) one three
  bound_next names as' i d one two three l f g w book s has stands js z =
      let r = next_of (λ a j. PlaceAt book j a) as' js i d z l in
      adds_both _ _ _ one two three (f w book s (λ a x e. has a x (up a x e)) stands js z) (g w book s has stands r.0 r.1)
      (λ n. sym (ap (bound_texts n names s.bound) r.2 ∙ bound_texts-append n names s.bound (take i js) r.0))

  pub processes_next : (qs : List ℕ) (i d : ℕ) (p : Proc) (old one two three : Bytes) → i < length qs → ProcessesSoFar kept qs i old one
      → NamesProcess kept' (get_or qs i d) p → two ≡ one ++ codes " " → three ≡ two ++ process_text p
      → ProcessesSoFar kept' qs (i + 1) old three
  processes_next qs i d p old one two three l f g e1 e2 w book s has stands ys z =
      let r = next_of (λ q y. ProcessAt book s q y) qs ys i d z l in
      let name : p ≡ r.0.name = g w book s has stands r.0 r.1 in
      processes_added (map (λ (y : Process). y.name) (take i ys)) p old one two three
      (f w book s (λ a x e. has a x (up a x e)) stands ys z) e1 e2
      ∙ ap (λ l. old ++ processes_text l) (ap (λ (q : Proc). map (λ (y : Process). y.name) (take i ys) ++ q ∷ []) name
      ∙ sym (ap (map (λ (y : Process). y.name)) r.2 ∙ map-append (λ (y : Process). y.name) (take i ys) (r.0 ∷ [])))

  pub variables_next : (names : List Bytes) (variables : List (Option Sym)) (i : ℕ) (d : Option Sym) (one two three : Bytes)
      → i < length variables → VariablesSoFar kept names variables i one two
      → AddsVariable kept' names (get_or variables i d) (i + 1) two three → VariablesSoFar kept' names variables (i + 1) one three
  variables_next names variables i d one two three l f g w book s has stands places =
      variables_added names s.bound variables i d one two three l (f w book s (λ a x e. has a x (up a x e)) stands places)
      (g w book s has stands (places (i + 1) (omega arith) (omega arith)))

-- at the end
pub all_bound : (kept : WordList) (names : List Bytes) (as' : List ℕ) (i : ℕ) (old new : Bytes) → length as' ≤ i
    → BoundSoFar kept names as' i old new → AddsAllBound kept names as' old new
all_bound kept names as' i old new l f w book s has stands js z =
    subst (λ (ks : List Place). Adds old new (λ n. bound_texts n names s.bound ks)) (all_of _ as' js i z l) (f w book s has stands js z)

pub all_processes : (kept : WordList) (qs : List ℕ) (i : ℕ) (old new : Bytes) → length qs ≤ i → ProcessesSoFar kept qs i old new
    → AddsProcesses kept processes_text qs old new
all_processes kept qs i old new l f w book s has stands ys z =
    f w book s has stands ys z
    ∙ ap (λ (ks : List Process). old ++ processes_text (map (λ (y : Process). y.name) ks)) (all_of _ qs ys i z l)

pub all_variables : (kept : WordList) (names : List Bytes) (variables : List (Option Sym)) (i : ℕ) (old new : Bytes)
    → length variables ≤ i → VariablesSoFar kept names variables i old new → VariableLines names kept variables old new
all_variables kept names variables i old new l f w book s has stands places =
    subst (λ (vs : List (Option Sym)). Adds old new (λ n. variable_lines n names s.bound (goal_variables vs))) (take_all i variables l)
    (f w book s has stands places)

-- the names of some processes behind ` wakes`
pub woken_behind : (kept : WordList) (qs : List ℕ) (old one new : Bytes) → 0 < length qs → one ≡ old ++ codes " wakes"
    → AddsProcesses kept processes_text qs one new → AddsProcesses kept woken_text qs old new
woken_behind kept [] old one new l e f w book s has stands ys z = absurd (omega arith)
woken_behind kept (q ∷ qs) old one new l e f w book s has stands [] z = absurd z
woken_behind kept (q ∷ qs) old one new l e f w book s has stands (y ∷ ys) z =
    f w book s has stands (y ∷ ys) z
    ∙ (ap (λ (t : Bytes). t ++ processes_text (map (λ (p : Process). p.name) (y ∷ ys))) e
    ∙ append_assoc old (codes " wakes") (processes_text (map (λ (p : Process). p.name) (y ∷ ys))))

pub none_woken : (kept : WordList) (qs : List ℕ) (old : Bytes) → length qs ≡ 0 → AddsProcesses kept woken_text qs old old
none_woken kept [] old e w book s has stands [] z = sym (append-nil old)
none_woken kept [] old e w book s has stands (y ∷ ys) z = absurd z
none_woken kept (q ∷ qs) old e w book s has stands ys z = absurd (omega arith)
