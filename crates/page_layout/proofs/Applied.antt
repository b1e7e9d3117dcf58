-- Writes one after another, and what stands afterwards.
use Rattle.std.proofs.Common.{◌≡◌, ℕ, ◌<◌, Bool, true, false, cond, List, [], ◌∷◌, length, set, slice_get, Option, Some, None}
use Rattle.std.proofs.Common.{refl, sym, ap, ◌∙◌, subst, true≢false}
use Rattle.std.specs.Prelude.{nat_eq}
use Rattle.std.proofs.lemmas.Bool.{eq-eqb, eqb-true}
use Rattle.std.proofs.lemmas.List.{length-set}
use Rattle.heap_words.specs.Trails.{WordList, word_at}
use Rattle.heap_words.proofs.QuietHeaps.{slice_get-set_same, slice_get-set_other}
use Rattle.word_states.specs.Words.{Among, AreApart}
use Rattle.word_states.specs.Writing.{applied}
use Rattle.word_states.proofs.Lists.{word_among}

pub get_other : (ws : List ℕ) (xs : WordList) (a : ℕ) → word_at xs a ≡ None → slice_get (applied ws xs) a ≡ slice_get ws a
get_other ws [] a e = refl
get_other ws (y ∷ ys) a e = go (nat_eq a y.0) refl e (λ f. get_other (set ws y.0 y.1) ys a f)
  where
    go : (t : Bool) → nat_eq a y.0 ≡ t → cond t (Some y.1) (word_at ys a) ≡ None
        → (word_at ys a ≡ None → slice_get (applied (set ws y.0 y.1) ys) a ≡ slice_get (set ws y.0 y.1) a)
        → slice_get (applied (set ws y.0 y.1) ys) a ≡ slice_get ws a
    go true i f g = cc
    go false i f g = g f ∙ slice_get-set_other ws y.0 a y.1 (λ h. true≢false (sym (eq-eqb a y.0 h) ∙ i))

no_word : (xs : WordList) (a : ℕ) → ((y : ℕ) → Among xs (a, y) → ⊥) → word_at xs a ≡ None
no_word xs a h = go (word_at xs a) refl
  where
    go : (o : Option ℕ) → word_at xs a ≡ o → word_at xs a ≡ None
    go None i = i
    go (Some x) i = absurd (h x (word_among xs a x i))

pub get_same : (ws : List ℕ) (xs : WordList) (a x : ℕ) → AreApart xs → a < length ws → word_at xs a ≡ Some x
    → slice_get (applied ws xs) a ≡ Some x
get_same ws [] a x d lt e = cc
get_same ws (y ∷ ys) a x d lt e =
    go (nat_eq a y.0) refl e (λ f. get_same (set ws y.0 y.1) ys a x d.1 (subst (λ (n : ℕ). a < n) (sym (length-set ws y.0 y.1)) lt) f)
  where
    go : (t : Bool) → nat_eq a y.0 ≡ t → cond t (Some y.1) (word_at ys a) ≡ Some x
        → (word_at ys a ≡ Some x → slice_get (applied (set ws y.0 y.1) ys) a ≡ Some x) → slice_get (applied (set ws y.0 y.1) ys) a ≡ Some x
    go true i f g =
        let here : a ≡ y.0 = eqb-true a y.0 i in
        let none : word_at ys a ≡ None = ap (word_at ys) here ∙ no_word ys y.0 d.0 in
        get_other (set ws y.0 y.1) ys a none ∙ ap (slice_get (set ws y.0 y.1)) here
        ∙ slice_get-set_same ws y.0 y.1 (subst (λ (n : ℕ). n < length ws) here lt) ∙ f
    go false i f g = g f

pub length_same : (ws : List ℕ) (xs : WordList) → length (applied ws xs) ≡ length ws
length_same ws [] = refl
length_same ws (x ∷ xs) = length_same (set ws x.0 x.1) xs ∙ length-set ws x.0 x.1
