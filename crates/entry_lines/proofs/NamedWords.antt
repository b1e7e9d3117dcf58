-- The names that words have are those of the places and processes of the state.
use Rattle.std.proofs.Common.{◌≡◌, ℕ, ◌+◌, ◌-◌, ◌≤◌, ◌<◌, Option, sym, ap, ◌∙◌, subst}
use Rattle.std.specs.Prelude.{pos}
use Rattle.fcp_model.specs.declared.run.Place.{Place}
use Rattle.fcp_model.specs.Places.{made, place, proc}
use Rattle.heap_words.specs.Cells.{decoded}
use Rattle.heap_words.specs.WordsLaws.{WordsLaws}
use Rattle.heap_words.specs.Trails.{WordList, Says}
use Rattle.heap_words.specs.declared.cell.Cell.TheVariants.{Small}
use Rattle.word_states.specs.Words.{Words, At}
use Rattle.word_states.specs.Standing.{name_code}
use Rattle.unify_terms.specs.WordsOfTries.{memory_of}
use Rattle.word_texts.specs.Leaves.{place_of}
use Rattle.word_texts.proofs.LeavesOfTerms.{place_back}
use Rattle.entry_lines.specs.Reading.{NamesPlace, NamesProcess}
use Rattle.entry_lines.proofs.Agreeing.{in_memory, agrees_with}

-- a name's word gives the name
word_names : (u : Words) (a : ℕ) (i j : Place) → At u a (Small (pos (name_code j.entry j.number))) → j.number < 268435456
    → place_of (decoded (memory_of u a)) ≡ i → i ≡ j
word_names u a i j h low e =
    sym e ∙ (ap (λ (x : ℕ). place_of (decoded x)) (in_memory u a h.0 h.1) ∙ (ap place_of h.2 ∙ place_back j low))

same_place : (i j : Place) → made i ≡ made j → i ≡ j
same_place i j e = cc

module _ {S : Type 0} {addresses : S → ℕ} {sound : S → Type 0} {knows : S → ℕ → Type 0} {had : S → ℕ → ℕ → Type 0} {leads : S → ℕ → Type 0}
    {own shown : S → ℕ → Option ℕ} {later : S → S → Type 0} {gave : S → S → ℕ → ℕ → Type 0}
    (laws : WordsLaws {S = S} addresses sound knows had leads own shown later gave) where
  pub names_place : {kept : WordList} {w : S} (a : ℕ) (i : Place) → sound w → addresses w ≤ 4000000000
      → Says (own w) kept (λ m. place_of (decoded (m (a - 1))) ≡ i) → NamesPlace kept a i
  names_place a i s few says u book st has stands j at =
      let n = stands.says.name (made j) a at in
      let k = stands.says.is_made (made j) a at in
      let low : j.number < 268435456 = subst (λ (p : Place). p.number < 268435456) (sym (same_place j k.0 k.1)) k.2 in
      word_names u (a - 1) i j n.1 low (says (memory_of u) (agrees_with laws u s few has))

  pub names_process : {kept : WordList} {w : S} (p : ℕ) (i : Place) → sound w → addresses w ≤ 4000000000
      → Says (own w) kept (λ m. place_of (decoded (m (p + 1))) ≡ i) → NamesProcess kept p (proc i.entry i.number)
  names_process p i s few says u book st has stands y at =
      let n = (stands.process p y at).name in
      let e = word_names u (p + 1) i (place y.name.entry y.name.number) n (stands.dated_processes p y at).1
      (says (memory_of u) (agrees_with laws u s few has)) in
      ap (λ (k : Place). proc k.entry k.number) e
