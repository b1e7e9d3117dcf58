-- Whether all words to which places are bound may be terms'.
use Rattle.std.proofs.Common.{◌≡◌, ◌⊎◌, ℕ, zero, suc, ◌+◌, ◌<◌, ◌≤◌, Bool, true, false, cond, List, []}
use Rattle.std.proofs.Common.{◌∷◌, length, refl, sym, ap, ◌∙◌, subst}
use Rattle.std.proofs.Common.{⊎_elim, inl, inr, arith, Option, Some, None}
use Rattle.std.specs.Prelude.{slice_get, nat_eq}
use Rattle.std.proofs.lemmas.Bool.{eqb-true, cases_lt}
use Rattle.std.proofs.lemmas.Option.{same_Some, slice_get-get_or}
use Rattle.heap_words.specs.Trails.{WordList, word_at, AreOnce}
use Rattle.word_states.proofs.Lists.{nat_same}
use Rattle.trial_laws.specs.Leading.{IsTermWord}
use Rattle.try_desk.proofs.Settling.{word_of}

-- where the word that a list has at an address stands
position : (bs : WordList) (a x : ℕ) → word_at bs a ≡ Some x → (i : ℕ) × (i < length bs) × (slice_get bs i ≡ Some (a, x))
position [] a x e = let h : None ≡ Some x = e in cc
position (b ∷ bs) a x e = go (nat_eq a b.0) refl e (position bs a x)
  where
    go : (t : Bool) → nat_eq a b.0 ≡ t → cond t (Some b.1) (word_at bs a) ≡ Some x
        → (word_at bs a ≡ Some x → (i : ℕ) × (i < length bs) × (slice_get bs i ≡ Some (a, x)))
        → (i : ℕ) × (i < length (b ∷ bs)) × (slice_get (b ∷ bs) i ≡ Some (a, x))
    go true f g more = (
      0,
      omega arith,
      ap (λ (c : ℕ). Some (c, b.1)) (sym (eqb-true a b.0 f)) ∙ ap (λ (v : ℕ). Some (a, v)) (same_Some
          b.1 x g),
    )
    go false f g more = let r = more g in let l = r.1 in (suc r.0, omega arith, r.2)

-- the first n of them
abbrev pub AreTerms : WordList → ℕ → Type 0
AreTerms bs n = (i : ℕ) (b : ℕ × ℕ) → i < n → slice_get bs i ≡ Some b → IsTermWord b.1

pub no_terms_yet : (bs : WordList) → AreTerms bs 0
no_terms_yet bs i b l e = absurd (omega arith)

pub one_term_more : (bs : WordList) (n : ℕ) (b : ℕ × ℕ) → AreTerms bs n → slice_get bs n ≡ Some b → IsTermWord b.1 → AreTerms bs (n + 1)
one_term_more bs n b h e t i c l f = ⊎_elim
    (λ (k : i ≡ n). let g : b ≡ c = same_Some b c (sym e ∙ (ap (slice_get bs) (sym k) ∙ f)) in subst (λ (z : ℕ × ℕ). IsTermWord z.1) g t)
    (λ (k : i ≡ n → ⊥). h i c (below i n l k) f) (nat_same i n)
  where
    below : (i n : ℕ) → i < n + 1 → (i ≡ n → ⊥) → i < n
    below i n l k = ⊎_elim (λ (j : i < n). j) (λ (j : n ≤ i). absurd (k (omega arith))) (cases_lt i n)

pub all_terms : (bs : WordList) (n : ℕ) → AreTerms bs n → length bs ≤ n → (a x : ℕ) → word_at bs a ≡ Some x → IsTermWord x
all_terms bs n h l a x e = let r = position bs a x e in let k = r.1 in h r.0 (a, x) (omega arith) r.2

pub one_no_term : (bs : WordList) (n : ℕ) (b : ℕ × ℕ) → AreOnce bs → slice_get bs n ≡ Some b → (IsTermWord b.1 → ⊥)
    → (a x : ℕ) × (word_at bs a ≡ Some x) × (IsTermWord x → ⊥)
one_no_term bs n b once e t = (b.0, b.1, word_of bs n b.0 b.1 once e, t)
