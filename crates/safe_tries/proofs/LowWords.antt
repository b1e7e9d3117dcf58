-- Words that show none but those that a load may give refer to their own addresses alone.
use Rattle.std.proofs.Common.{◌≡◌, ℕ, ◌≤◌, arith, Option, Some}
use Rattle.heap_words.specs.WordsLaws.{WordsLaws}
use Rattle.safe_tries.specs.Safe.{StayLow}

module _ {S : Type 0} {addresses : S → ℕ} {sound : S → Type 0} {knows : S → ℕ → Type 0} {had : S → ℕ → ℕ → Type 0} {leads : S → ℕ → Type 0}
    {own shown : S → ℕ → Option ℕ} {later : S → S → Type 0} {gave : S → S → ℕ → ℕ → Type 0}
    (laws : WordsLaws {S = S} addresses sound knows had leads own shown later gave) where
  -- so they stay low, where there are at most 4,000,000,000 addresses
  pub shown_low : (w : S) → sound w → addresses w ≤ 4000000000 → ((a x : ℕ) → shown w a ≡ Some x → had w a x) → StayLow (shown w)
  shown_low w s few all = record {
    refers = λ a b x c e d r.
        let k = laws.in_range w b s (laws.reaches w x b c s (laws.had_leads w a x s (all a x e)) d r) in
        omega (arith, k, few);
    refers_by = λ a b x t y n c e d k f g r.
        let l = laws.reaches_by w x t y n b c s (laws.had_leads w a x s (all a x e)) d k (all t y f) g r in
        let m = laws.in_range w b s l in
        omega (arith, m, few);
  }
