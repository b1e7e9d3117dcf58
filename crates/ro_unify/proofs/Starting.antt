-- A try that has nothing on its trail yet.
use Rattle.std.proofs.Common.{◌≡◌, ℕ, [], Option, Some, None, sym, subst}
use Rattle.heap_words.specs.WordsLaws.{WordsLaws}
use Rattle.heap_words.specs.Trails.{WordList, Holds}
use Rattle.ro_unify.specs.Walks.{Tame}
use Rattle.ro_unify.proofs.Ending.{tame_free}

module _ {S : Type 0} {addresses : S → ℕ} {sound : S → Type 0} {knows : S → ℕ → Type 0} {had : S → ℕ → ℕ → Type 0} {leads : S → ℕ → Type 0}
    {own shown : S → ℕ → Option ℕ} {later : S → S → Type 0} {gave : S → S → ℕ → ℕ → Type 0}
    (laws : WordsLaws {S = S} addresses sound knows had leads own shown later gave) where
  none_holds : (w : S) → Holds had leads [] [] w
  none_holds w = record {
    kept_had = λ a x e. absurd (let h : None ≡ Some x = e in cc);
    kept_below = λ a x e. absurd (let h : None ≡ Some x = e in cc);
    bound_leads = λ a x e. absurd (let h : None ≡ Some x = e in cc);
  }

  -- it holds nothing, and the two facts of a try are there
  pub starts_holding : (kept binds : WordList) (w : S) → kept ≡ [] → binds ≡ [] → Holds had leads kept binds w
  starts_holding kept binds w e f =
      subst (λ (ks : WordList). Holds had leads ks binds w) (sym e)
      (subst (λ (bs : WordList). Holds had leads [] bs w) (sym f) (none_holds w))

  pub starts_tame : (kept binds : WordList) (w : S) → kept ≡ [] → binds ≡ [] → sound w → Tame binds kept (own w) (addresses w)
  starts_tame kept binds w e f s =
      subst (λ (ks : WordList). Tame binds ks (own w) (addresses w)) (sym e)
      (subst (λ (bs : WordList). Tame bs [] (own w) (addresses w)) (sym f) (tame_free laws s (none_holds w)))
