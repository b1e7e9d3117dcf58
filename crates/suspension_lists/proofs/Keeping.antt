-- What every memory says that agrees with the kept words is kept.
use Rattle.std.proofs.Common.{◌≡◌, ℕ, ◌<◌, ◌≤◌, Option, Some, None, refl, sym, ap, ◌∙◌, arith}
use Rattle.std.specs.Prelude.{unwrap_or}
use Rattle.heap_words.specs.WordsLaws.{WordsLaws}
use Rattle.heap_words.specs.Trails.{WordList, Memory, word_at, Agrees, Holds, Says}
use Rattle.word_states.specs.Words.{first_of}

-- the memory of what was seen, with the word d at all other addresses
abbrev memory_with : ℕ → WordList → (ℕ → Option ℕ) → Memory
memory_with d kept own a = unwrap_or (first_of (word_at kept a) (own a)) d

module _ {S : Type 0} {addresses : S → ℕ} {sound : S → Type 0} {knows : S → ℕ → Type 0} {had : S → ℕ → ℕ → Type 0} {leads : S → ℕ → Type 0}
    {own shown : S → ℕ → Option ℕ} {later : S → S → Type 0} {gave : S → S → ℕ → ℕ → Type 0}
    (laws : WordsLaws {S = S} addresses sound knows had leads own shown later gave) where
  agrees : {kept binds : WordList} {w : S} (d : ℕ) → Holds had leads kept binds w → Agrees (own w) kept (memory_with d kept (own w))
  agrees {kept = kept} {w = w} d h = record {
    kept_same = λ a x e. ap (λ (o : Option ℕ). unwrap_or (first_of o (own w a)) d) e;
    own_same = λ a x e. go a x e (word_at kept a) refl;
  }
    where
      go : (a x : ℕ) → own w a ≡ Some x → (o : Option ℕ) → word_at kept a ≡ o → memory_with d kept (own w) a ≡ x
      go a x e None i = ap (λ (o : Option ℕ). unwrap_or (first_of o (own w a)) d) i ∙ ap (λ (o : Option ℕ). unwrap_or o d) e
      go a x e (Some z) i =
          absurd (let lo : 4000000000 ≤ a = laws.own_range w a x e in let hi : a < 4000000000 = h.kept_below a z i in omega arith)

  -- a word of the store that every memory has is kept
  pub said_kept : {kept binds : WordList} {w : S} (a x : ℕ) → a < 4000000000 → Holds had leads kept binds w
      → Says (own w) kept (λ m. m a ≡ x) → word_at kept a ≡ Some x
  said_kept {kept = kept} {w = w} a x low h f = go (word_at kept a) refl (own w a) refl
    where
      at : (d : ℕ) → memory_with d kept (own w) a ≡ x
      at d = f (memory_with d kept (own w)) (agrees d h)

      go : (o : Option ℕ) → word_at kept a ≡ o → (q : Option ℕ) → own w a ≡ q → word_at kept a ≡ Some x
      go (Some z) i q j =
          i ∙ ap (λ (y : ℕ). Some y) (sym (ap (λ (o : Option ℕ). unwrap_or (first_of o (own w a)) 0) i) ∙ at 0)
      go None i (Some z) j = absurd (let lo : 4000000000 ≤ a = laws.own_range w a z j in omega arith)
      go None i None j =
          let e : (d : ℕ) → memory_with d kept (own w) a ≡ d = λ d.
          ap (λ (o : Option ℕ). unwrap_or (first_of o (own w a)) d) i ∙ ap (λ (o : Option ℕ). unwrap_or o d) j in
          let k : 0 ≡ x = sym (e 0) ∙ at 0 in
          let l : 1 ≡ x = sym (e 1) ∙ at 1 in
          absurd (omega arith)

  -- a known address is below the number of addresses
  pub store_below : {w : S} (a : ℕ) → sound w → knows w a → addresses w ≤ 4000000000 → a < 4000000000
  store_below {w = w} a s k few = let i : a < addresses w = laws.in_range w a s k in omega arith
