-- The memories that have what was kept and a try's own words.
use Rattle.std.proofs.Common.{◌≡◌, ℕ, ◌<◌, refl, sym, ap, ◌∙◌, Option, Some, None}
use Rattle.std.specs.Prelude.{unwrap_or}
use Rattle.fcp_model.specs.Places.{Variable}
use Rattle.fcp_model.specs.Terms.{Bindings}
use Rattle.fcp_model.specs.Programs.{Goal}
use Rattle.heap_words.specs.Trails.{WordList, word_at, Agrees}
use Rattle.word_states.specs.Words.{Words}
use Rattle.word_states.specs.Denoting.{Addresses}
use Rattle.word_states.specs.Pieces.{with_own}
use Rattle.word_states.specs.Trials.{IsTried}
use Rattle.unify_terms.specs.WordsOfTries.{memory_of}
use Rattle.trial_laws.specs.AtHand.{AtHand}
use Rattle.trial_laws.proofs.Pieces.{none_low, store_word, piece_word}
use Rattle.ro_unify.specs.Walks.{first_some}
use Rattle.safe_tries.specs.Safe.{own_words, seen}

-- the memory of what was seen
pub seen_agrees : (kept : WordList) (r : AtHand) → ((a x : ℕ) → word_at kept a ≡ Some x → a < 4000000000)
    → Agrees (own_words r.pieces) kept (seen kept r)
seen_agrees kept r below = record {
  kept_same = λ a x e. ap (λ o. unwrap_or (first_some o (own_words r.pieces a)) 6) e;
  own_same = λ a x e. own_one a x e (word_at kept a) refl;
}
  where
    own_one : (a x : ℕ) → own_words r.pieces a ≡ Some x → (o : Option ℕ) → word_at kept a ≡ o → seen kept r a ≡ x
    own_one a x e None f = ap (λ p. unwrap_or (first_some p (own_words r.pieces a)) 6) f ∙ ap (λ p. unwrap_or p 6) e
    own_one a x e (Some y) f = absurd (let l = below a y f in let k : None ≡ Some x = sym (none_low r.pieces a l) ∙ e in cc)

-- the memory of a store's words with the try's own
pub tried_agrees : (kept : WordList) (p : ℕ) (r : AtHand) (w : Words) (vs : Addresses) (bound : Bindings) (g : Goal Variable)
    → ((a x : ℕ) → word_at kept a ≡ Some x → a < 4000000000) → IsTried kept p w vs bound g
    → Agrees (own_words r.pieces) kept (memory_of (with_own r.pieces w))
tried_agrees kept p r w vs bound g below t = record {
  kept_same = λ a x e. ap (λ o. unwrap_or o 12) (store_word w r.pieces a x (below a x e) (t.has a x e));
  own_same = λ a x e. ap (λ o. unwrap_or o 12) (piece_word w r.pieces a x e);
}
