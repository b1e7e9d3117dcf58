-- The text of the value of a place is the one that the definitions give.
use Rattle.std.proofs.Common.{◌≡◌, ℕ, ◌<◌, true, List, [], Some, sym, ap, ◌∙◌, subst, arith}
use Rattle.std.specs.Prelude.{pos}
use Rattle.fcp_model.specs.declared.run.Place.{Place}
use Rattle.fcp_model.specs.Places.{Variable, made, own, place}
use Rattle.fcp_model.specs.Terms.{Term, var, Bindings}
use Rattle.fcp_model.specs.States.{State}
use Rattle.fcp_model.specs.Spelling.{Bytes}
use Rattle.fcp_model.specs.TermText.{cut_text}
use Rattle.heap_words.specs.Cells.{decoded}
use Rattle.heap_words.specs.Trails.{WordList}
use Rattle.heap_words.specs.declared.cell.Cell.TheVariants.{Ref, Small}
use Rattle.word_states.specs.Words.{Words}
use Rattle.word_states.specs.Denoting.{Addresses, Denotes}
use Rattle.word_states.specs.Standing.{Book, PlacesStand, StandsFor, PlaceAt, name_code, variable_code}
use Rattle.unify_terms.specs.Denotes.{Stands}
use Rattle.unify_terms.specs.WordsOfTries.{memory_of, naming}
use Rattle.unify_terms.proofs.NamesOfPlaces.{place_listed}
use Rattle.unify_terms.proofs.PlacesOfTries.{state_says}
use Rattle.unify_terms.proofs.TermsOfWords.{stands_seen}
use Rattle.word_texts.specs.Shown.{Labels, IsShown}
use Rattle.word_states.proofs.Leading.{leads_here}
use Rattle.leading_texts.proofs.Goals.{cut_on}
use Rattle.entry_lines.specs.Additions.{Adds}
use Rattle.entry_lines.proofs.Agreeing.{in_memory}
use Rattle.entry_lines.proofs.DenotedTerms.{denotes_there}

-- the place that a variable is
abbrev the_place : Variable → Place
the_place (made j) = j
the_place (own k) = place 0 0

module _ (u : Words) (vs : Addresses) (bound : Bindings) (says : PlacesStand u vs bound) where
  -- each place has its name before its word
  labels : Labels (naming vs) (memory_of u)
  labels = record {
    place = λ a. the_place ((naming vs).name a);
    named = λ a p. (let k = is_made a p in k.1 ∙ ap made (sym (ap the_place k.1)));
    word = λ a p. (let k = is_made a p in
        let n = (says.name _ a (place_listed vs a p)).1 in
        ap decoded (in_memory u _ n.0 n.1) ∙ (n.2 ∙ (ap (λ (v : Variable). Some (Small (pos (variable_code v)))) k.1
        ∙ ap (λ (j : Place). Some (Small (pos (name_code j.entry j.number)))) (sym (ap the_place k.1)))));
    below = λ a p. (let k = is_made a p in subst (λ (j : Place). j.number < 268435456) (sym (ap the_place k.1)) k.2);
  }
    where
      is_made : (a : ℕ) → (naming vs).is_place a ≡ true → (j : Place) × ((naming vs).name a ≡ made j) × (j.number < 268435456)
      is_made a p = says.is_made _ a (place_listed vs a p)

  -- the text of the term that a word denotes, over the bindings for which the places stand
  pub term_adds : (binds : WordList) (names : List Bytes) (nodes word : ℕ) (old new : Bytes) (t : Term Variable) → binds ≡ []
      → Denotes u vs word t → IsShown (memory_of u) binds names nodes word old new → Adds old new (λ n. cut_text n names bound nodes t)
  term_adds binds names nodes word old new t free denotes shown =
      let seen : Stands (naming vs) (memory_of u) [] bound =
      stands_seen (memory_of u) u vs says.once (in_memory u) [] bound (state_says u vs bound says) in
      let r = shown (naming vs) labels bound t
      (subst (λ (bs : WordList). Stands (naming vs) (memory_of u) bs bound) (sym free) seen)
      (denotes_there u vs says.once word t denotes) in
      record { added = r.text; behind = r.appended; given = (r.steps, r.cut) }

-- and so that of the value of a place, over the state's own
pub value_adds : (u : Words) (book : Book) (s : State) → StandsFor book u s → (binds : WordList) (names : List Bytes) (nodes word a : ℕ)
    (old new : Bytes) (j : Place) → binds ≡ [] → decoded word ≡ Some (Ref a) → PlaceAt book j a
    → IsShown (memory_of u) binds names nodes word old new → Adds old new (λ n. cut_text n names s.bound nodes (var (made j)))
value_adds u book s stands binds names nodes word a old new j free e at shown =
    let r = term_adds u book.places stands.short stands.says binds names nodes word old new (var (made j)) free (a, e, at) shown in
    record {
      added = r.added;
      behind = r.behind;
      given = cut_on names s.bound stands.short stands.shortened r.given.0 nodes (var (made j)) (var (made j)) r.added
          (leads_here s.bound (var (made j))) (r.given.1 r.given.0 (omega arith));
    }
