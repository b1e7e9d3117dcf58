-- Memories that have what a safe try kept, and its own words.
use Rattle.std.proofs.Common.{◌≡◌, ℕ, ◌<◌, ◌≤◌, refl, ap, ◌∙◌, arith, Option, Some, None}
use Rattle.std.specs.Prelude.{unwrap_or}
use Rattle.heap_words.specs.Trails.{word_at}
use Rattle.word_states.specs.Words.{first_of}
use Rattle.word_states.proofs.Pieces.{rows_above}
use Rattle.ro_unify.specs.Walks.{first_some}
use Rattle.trial_laws.proofs.Pieces.{none_low}
use Rattle.safe_tries.specs.Safe.{own_words, seen}
use Rattle.stored_tries.specs.Agreement.{TriedAgrees, SeenAgrees}

pub tried_agree : TriedAgrees
tried_agree kept p w vs bound g r τ released t s = (
  record {
    kept_same = λ a x e. ap (λ (o : Option ℕ). unwrap_or (first_of o (w a)) 12) (none_low r.pieces a (s.below a x e))
        ∙ ap (λ (o : Option ℕ). unwrap_or o 12) (t.has a x e);
    own_same = λ a x e. ap (λ (o : Option ℕ). unwrap_or (first_of o (w a)) 12) e;
  },
  record { low = t.low; says = t.says; own_free = t.own_free },
)

pub seen_agree : SeenAgrees
seen_agree kept r τ released s = record {
  kept_same = λ a x e. ap (λ (o : Option ℕ). unwrap_or (first_some o (own_words r.pieces a)) 6) e;
  own_same = λ a x e. go a x e (word_at kept a) refl;
}
  where
    go : (a x : ℕ) → own_words r.pieces a ≡ Some x → (o : Option ℕ) → word_at kept a ≡ o → seen kept r a ≡ x
    go a x e None i =
        ap (λ (o : Option ℕ). unwrap_or (first_some o (own_words r.pieces a)) 6) i ∙ ap (λ (o : Option ℕ). unwrap_or o 6) e
    go a x e (Some z) i =
        let l : a < 4000000000 = s.below a z i in
        let k : 4000000000 ≤ a = rows_above 4000000000 a x r.pieces e in
        absurd (omega arith)
