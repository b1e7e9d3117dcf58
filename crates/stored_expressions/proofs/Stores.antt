-- What a word says over a store it stores for unification, and what is evaluated is called by the store's places.
use Rattle.std.proofs.Common.{◌≡◌, ℕ, ◌+◌, List, [], ◌∷◌, Some, refl, sym, ap, ◌∙◌, subst}
use Rattle.fcp_model.specs.Places.{Variable}
use Rattle.fcp_model.specs.Expressions.{Expr, leaf, op, gives, bad, unready}
use Rattle.fcp_model.specs.Expressions as terms
use Rattle.heap_words.specs.Cells.{decoded}
use Rattle.heap_words.specs.Trails.{Memory}
use Rattle.word_states.specs.Words.{Words}
use Rattle.word_states.specs.Denoting.{Addresses, Listed, ExprSays}
use Rattle.unify_terms.specs.WordsOfTries.{HasWords, naming, UnificationSees}
use Rattle.unify_terms.proofs.NamesOfPlaces.{place_listed}
use Rattle.unify_terms.proofs.PlacesOfTries.{a_state_is_seen}
use Rattle.unify_terms.proofs.TermsOfWords.{all_is_seen}
use Rattle.guard_tests.specs.declared.number.Evaluated.{Evaluated}
use Rattle.guard_tests.specs.Numbers.{answer_of}
use Rattle.guard_tests.specs.Guards.{ArePlaces, EvaluatesAs, evaluated_reads}
use Rattle.trial_laws.specs.AtHand.{AreCalled}
use Rattle.stored_expressions.specs.Storing.{Stores}
use Rattle.stored_expressions.specs.Laws.{came_to, ComesTo, LawOfStored}

-- the word of an expression
stores : (m : Memory) (w : Words) (vs : Addresses) → UnificationSees m w vs → HasWords m w → (e : Expr Variable) (x : ℕ)
    → ExprSays w vs x e → Stores (naming vs) m e x
stores m w vs sees has (leaf t) x h = sees.denotes x t h
stores m w vs sees has (op o a b) x h = (
  h.0,
  h.3,
  ap decoded (has h.0 h.4.0 h.4.1) ∙ h.4.2,
  subst (Stores (naming vs) m a) (sym (has (h.0 + 1) h.1 h.5)) (stores m w vs sees has a h.1 h.6),
  subst (Stores (naming vs) m b) (sym (has (h.0 + 2) h.2 h.7)) (stores m w vs sees has b h.2 h.8),
)

own_end : (e : terms.Evaluated) → e ≡ came_to (answer_of e) (evaluated_reads e)
own_end (gives z) = refl
own_end bad = refl
own_end (unready vs) = refl

comes_to : (e : terms.Evaluated) (d : Evaluated) → answer_of e ≡ d → e ≡ came_to d (evaluated_reads e)
comes_to e d h = subst (λ (z : Evaluated). e ≡ came_to z (evaluated_reads e)) h (own_end e)

-- addresses of places are called as the listed variables
are_called : (m : Memory) (us : Addresses) (as' : List ℕ) (vs : List Variable) → ArePlaces (naming us) m as' vs → AreCalled us as' vs
are_called m us [] [] h = tt
are_called m us (a ∷ as') (v ∷ vs) h =
    (subst (λ (z : Variable). Listed us z a) h.0.1 (place_listed us a h.0.0), are_called m us as' vs h.1)
are_called m us [] (v ∷ vs) h = absurd h
are_called m us (a ∷ as') [] h = absurd h

pub stored_so : LawOfStored
stored_so m w vs bound store has x e says rs d rs' evaluated =
    let seen = a_state_is_seen m w vs bound store.says store.low has in
    let sees = all_is_seen m w vs seen.0 has in
    go (evaluated (naming vs) bound (sees.stands [] bound seen.1) e (stores m w vs sees has e x says))
  where
    go : EvaluatesAs (naming vs) m [] bound rs e d rs' → ComesTo vs bound e rs d rs'
    go v = record {
      more = v.reads.more;
      read = v.reads.read;
      variables = evaluated_reads v.end;
      called = are_called m vs v.reads.more (evaluated_reads v.end) v.reads.places;
      value = (v.steps, v.by_steps ∙ ap (λ (z : terms.Evaluated). Some z) (comes_to v.end d v.answer));
    }
