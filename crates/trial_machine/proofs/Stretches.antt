-- Stretches of loads, one after another.
use Rattle.std.proofs.Common.{ℕ, Option, inl, inr, ⊎_elim}
use Rattle.heap_words.specs.Trails.{WordList}
use Rattle.heap_words.specs.WordsLaws.{WordsLaws}
use Rattle.trial_machine.specs.Stores.{Loads}

module _ {S : Type 0} {addresses : S → ℕ} {is_sound : S → Type 0} {knows : S → ℕ → Type 0} {was_had : S → ℕ → ℕ → Type 0}
    {leads : S → ℕ → Type 0} {own shown : S → ℕ → Option ℕ} {later : S → S → Type 0} {gave : S → S → ℕ → ℕ → Type 0}
    (laws : WordsLaws addresses is_sound knows was_had leads own shown later gave) where
  pub twice_loaded : {kept kept1 kept2 : WordList} {w w1 w2 : S} → later w w1 → later w1 w2
      → Loads addresses is_sound was_had shown later gave kept w kept1 w1 → Loads addresses is_sound was_had shown later gave kept1 w1
      kept2 w2
      → Loads addresses is_sound was_had shown later gave kept w kept2 w2
  twice_loaded one two first second = record {
    stored = second.stored;
    grows = λ a x e. second.grows a x (first.grows a x e);
    given = λ a x e. ⊎_elim
        (λ k. ⊎_elim (λ i. inl i) (λ g. inr (laws.gave_before _ _ _ a x g two)) (first.given a x k))
        (λ g. inr (laws.gave_after _ _ _ a x one g)) (second.given a x e);
  }
