-- Lists in which no address stands twice.
use Rattle.std.proofs.Common.{◌≡◌, ℕ, suc, Bool, true, false, cond, [], ◌∷◌, refl, ap, inl, inr, arith, Some}
use Rattle.std.specs.Prelude.{nat_lt, slice_get}
use Rattle.heap_words.specs.Trails.{WordList, word_at, AreOnce}
use Rattle.word_states.specs.Words.{Among, AreApart}
use Rattle.word_states.proofs.Lists.{apart_word}
use Rattle.trial_laws.specs.Endings.{of_store}

-- what is among a list has a position
at_position : (ws : WordList) (z : ℕ × ℕ) → Among ws z → (i : ℕ) × (slice_get ws i ≡ Some z)
at_position [] z h = absurd h
at_position (y ∷ ws) z (inl e) = (0, ap (λ (u : ℕ × ℕ). Some u) e)
at_position (y ∷ ws) z (inr h) = let r = at_position ws z h in (suc r.0, r.1)

pub once_apart : (ws : WordList) → AreOnce ws → AreApart ws
once_apart [] h = tt
once_apart (y ∷ ws) h = (first, once_apart ws rest)
  where
    first : (x : ℕ) → Among ws (y.0, x) → ⊥
    first x m =
        let r = at_position ws (y.0, x) m in
        let e : 0 ≡ suc r.0 = h 0 (suc r.0) y.0 y.1 x refl r.1 in
        omega arith

    rest : AreOnce ws
    rest i j a x z e f = let k : suc i ≡ suc j = h (suc i) (suc j) a x z e f in omega arith

-- what is among such a list is the word there
pub once_word : (ws : WordList) → AreOnce ws → (a x : ℕ) → Among ws (a, x) → word_at ws a ≡ Some x
once_word ws h a x m = apart_word ws a x (once_apart ws h) m

-- the bindings of the store's places are among all
pub of_all : (bs : WordList) (z : ℕ × ℕ) → Among (of_store bs) z → Among bs z
of_all [] z h = h
of_all (b ∷ bs) z h = go (nat_lt b.0 4000000000) (of_all bs z) h
  where
    go : (t : Bool) → (Among (of_store bs) z → Among bs z) → Among (cond t (b ∷ of_store bs) (of_store bs)) z → Among (b ∷ bs) z
    go true rec (inl e) = inl e
    go true rec (inr k) = inr (rec k)
    go false rec k = inr (rec k)

pub store_apart : (bs : WordList) → AreApart bs → AreApart (of_store bs)
store_apart [] h = tt
store_apart (b ∷ bs) h = go (nat_lt b.0 4000000000) (store_apart bs h.1)
  where
    go : (t : Bool) → AreApart (of_store bs) → AreApart (cond t (b ∷ of_store bs) (of_store bs))
    go true rec = ((λ x m. h.0 x (of_all bs (b.0, x) m)), rec)
    go false rec = rec
