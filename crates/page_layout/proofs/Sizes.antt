-- Pieces by their sizes.
use Rattle.std.proofs.Common.{◌≡◌, ℕ, ◌+◌, List, [], ◌∷◌, length, drop, refl, sym, subst, arith}
use Rattle.std.proofs.lemmas.List.{length-take-le, length-drop}
use Rattle.word_states.specs.Planning.{AreWhole}
use Rattle.page_layout.specs.Laying.{cuts, total, StayWhole}

-- pieces have these sizes
abbrev pub IsSized : List (List ℕ) → List ℕ → Type 0
IsSized [] [] = Unit {0}
IsSized (p ∷ ps) (n ∷ ns) = (length p ≡ n) × IsSized ps ns
IsSized _ _ = ⊥

pub cuts_sized : (ns ws : List ℕ) → length ws ≡ total ns → IsSized (cuts ns ws) ns
cuts_sized [] ws e = tt
cuts_sized (n ∷ ns) ws e = (
  length-take-le n ws (omega arith),
  cuts_sized ns (drop n ws) (let d = length-drop n ws in omega arith),
)

-- how many words pieces have
abbrev pub words_of : List (List ℕ) → ℕ
words_of [] = 0
words_of (p ∷ ps) = length p + words_of ps

pub sized_total : (ps : List (List ℕ)) (ns : List ℕ) → IsSized ps ns → words_of ps ≡ total ns
sized_total [] [] s = refl
sized_total [] (n ∷ ns) s = absurd s
sized_total (p ∷ ps) [] s = absurd s
sized_total (p ∷ ps) (n ∷ ns) s = let a = s.0 in let b = sized_total ps ns s.1 in omega arith

pub sized_whole : (f : ℕ → ℕ) (a : ℕ) (ps : List (List ℕ)) (ns : List ℕ) → IsSized ps ns → StayWhole f a ns → AreWhole f a ps
sized_whole f a [] [] s w = tt
sized_whole f a [] (n ∷ ns) s w = absurd s
sized_whole f a (p ∷ ps) [] s w = absurd s
sized_whole f a (p ∷ ps) (n ∷ ns) s w = (
  (λ d l. w.0 d (let e = s.0 in omega arith)),
  sized_whole f (a + length p) ps ns s.1 (subst (λ (m : ℕ). StayWhole f (a + m) ns) (sym s.0) w.1),
)
