-- Loads from the store, where nothing is bound.
use Rattle.std.proofs.Common.{◌≡◌, ℕ, ◌<◌, ◌≤◌, [], refl, sym, ap, ◌∙◌, subst, ⊎_elim, inl, inr, arith, Option, Some, None}
use Rattle.std.specs.Prelude.{unwrap_or}
use Rattle.heap_words.specs.WordsLaws.{WordsLaws}
use Rattle.heap_words.specs.Trails.{WordList, word_at, Holds, KeepsLoads, Says}
use Rattle.ro_unify.specs.Walks.{first_some, IsSeen}
use Rattle.ro_unify.proofs.Seeing.{memory_with, agrees, said_seen}
use Rattle.safe_tries.specs.Stored.{IsStored}
use Rattle.stored_tries.proofs.Stores.{kept_low}
use Rattle.trial_machine.specs.Stores.{Loads}

module _ {S : Type 0} {addresses : S → ℕ} {sound : S → Type 0} {knows : S → ℕ → Type 0} {had : S → ℕ → ℕ → Type 0} {leads : S → ℕ → Type 0}
    {own shown : S → ℕ → Option ℕ} {later : S → S → Type 0} {gave : S → S → ℕ → ℕ → Type 0}
    (laws : WordsLaws {S = S} addresses sound knows had leads own shown later gave) where
  -- what was kept of a store was loaded, and nothing is bound
  pub holds_free : (kept binds : WordList) (w : S) → IsStored addresses sound had shown later kept w → binds ≡ []
      → Holds had leads kept binds w
  holds_free kept binds w s free = record {
    kept_had = s.had;
    kept_below = kept_low laws kept w s;
    bound_leads = λ a x e. let k : None ≡ Some x = sym (ap (λ (bs : WordList). word_at bs a) free) ∙ e in cc;
  }

  -- a word of the store that is said of every memory was kept
  pub word_kept : (kept binds : WordList) (w : S) (a x : ℕ) → Holds had leads kept binds w → a < 4000000000
      → Says (own w) kept (λ m. m a ≡ x) → word_at kept a ≡ Some x
  word_kept kept binds w a x h low f = go (word_at kept a) refl
    where
      seen : IsSeen kept (own w) a
      seen = said_seen laws a x h f

      is : seen.word ≡ x
      is = sym (ap (λ (o : Option ℕ). unwrap_or o 6) seen.there) ∙ f (memory_with 6 kept (own w)) (agrees laws 6 h)

      go : (o : Option ℕ) → word_at kept a ≡ o → word_at kept a ≡ Some x
      go (Some z) e = e ∙ (sym (ap (λ (o : Option ℕ). first_some o (own w a)) e) ∙ (seen.there ∙ ap Some is))
      go None e =
          let k : 4000000000 ≤ a = laws.own_range w a seen.word
          (sym (ap (λ (o : Option ℕ). first_some o (own w a)) e) ∙ seen.there) in
          absurd (omega arith)

  -- the store is the same but for loads
  pub stored_later : (kept kept' : WordList) (w w' : S) → IsStored addresses sound had shown later kept w → later w w'
      → ((a x : ℕ) → word_at kept' a ≡ Some x → had w' a x) → IsStored addresses sound had shown later kept' w'
  stored_later kept kept' w w' s l h = record {
    sound = laws.stays_sound w w' s.sound l;
    few = let k = laws.fixed w w' l in let f = s.few in omega arith;
    low = λ v m. s.low v (laws.twice w w' v l m);
    had = h;
  }

  pub loads_of : (kept binds kept' binds' : WordList) (w w' : S) → IsStored addresses sound had shown later kept w
      → KeepsLoads sound had leads later gave kept binds w kept' binds' w'
      → Loads addresses sound had shown later gave kept w kept' w'
  loads_of kept binds kept' binds' w w' s p = record {
    stored = stored_later kept kept' w w' s p.went.between p.holds.kept_had;
    grows = p.went.grows;
    given = λ a x e. ⊎_elim (λ i. inl i) (λ i. inr i.0) (p.went.given a x e);
  }

  -- no loads yet
  pub loads_none : (kept : WordList) (w : S) → IsStored addresses sound had shown later kept w
      → Loads addresses sound had shown later gave kept w kept w
  loads_none kept w s = record { stored = s; grows = λ a x e. e; given = λ a x e. inl e }

  -- loads after loads
  pub loads_on : (kept kept1 kept2 : WordList) (w w1 w2 : S) → later w w1 → later w1 w2
      → Loads addresses sound had shown later gave kept w kept1 w1 → Loads addresses sound had shown later gave kept1 w1 kept2 w2
      → Loads addresses sound had shown later gave kept w kept2 w2
  loads_on kept kept1 kept2 w w1 w2 l l1 p q = record {
    stored = q.stored;
    grows = λ a x e. q.grows a x (p.grows a x e);
    given = λ a x e. ⊎_elim
        (λ i. ⊎_elim (λ j. inl j) (λ j. inr (laws.gave_before w w1 w2 a x j l1)) (p.given a x i))
        (λ i. inr (laws.gave_after w w1 w2 a x l i)) (q.given a x e);
  }

  -- so where nothing was kept between
  pub loads_after : (kept kept1 kept1' kept2 : WordList) (w w1 w2 : S) → later w w1 → later w1 w2 → kept1' ≡ kept1
      → Loads addresses sound had shown later gave kept w kept1 w1 → Loads addresses sound had shown later gave kept1' w1 kept2 w2
      → Loads addresses sound had shown later gave kept w kept2 w2
  loads_after kept kept1 kept1' kept2 w w1 w2 l l1 same p q = loads_on kept kept1 kept2 w w1 w2 l l1 p
      (subst (λ (k : WordList). Loads addresses sound had shown later gave k w1 kept2 w2) same q)
