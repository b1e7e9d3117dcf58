-- What is handed over at the end of a trial: the bindings of the store's places, and the list of what was read.
use Rattle.std.proofs.Common.{◌≡◌, ℕ, zero, suc, ◌+◌, ◌<◌, ◌≤◌, Bool, true, false, cond, [], ◌∷◌, ◌++◌, take, refl, sym, ap, ◌∙◌}
use Rattle.std.proofs.Common.{arith, Some, None}
use Rattle.std.specs.Prelude.{slice_get, nat_lt}
use Rattle.std.proofs.lemmas.Bool.{le-ltb, lt-ltb}
use Rattle.std.proofs.lemmas.List.{append-nil}
use Rattle.heap_words.specs.Trails.{WordList}
use Rattle.trial_laws.specs.Endings.{of_store}

-- one binding more
of_store_more : (bs : WordList) (i : ℕ) (b : ℕ × ℕ) → slice_get bs i ≡ Some b
    → of_store (take (i + 1) bs) ≡ of_store (take i bs) ++ of_store (b ∷ [])
of_store_more bs i b e = let h : i + 1 ≡ suc i = omega arith in ap (λ (k : ℕ). of_store (take k bs)) h ∙ go bs i e
  where
    join : (c : Bool) (x : ℕ × ℕ) (l m : WordList) → cond c (x ∷ (l ++ m)) (l ++ m) ≡ cond c (x ∷ l) l ++ m
    join true x l m = refl
    join false x l m = refl

    go : (bs : WordList) (i : ℕ) → slice_get bs i ≡ Some b → of_store (take (suc i) bs) ≡ of_store (take i bs) ++ of_store (b ∷ [])
    go [] i e = let k : None ≡ Some b = e in cc
    go (x ∷ bs) zero e = let k : x ≡ b = cc in ap (λ (y : ℕ × ℕ). of_store (y ∷ [])) k
    go (x ∷ bs) (suc i) e =
        ap (λ (l : WordList). cond (nat_lt x.0 4000000000) (x ∷ l) l) (go bs i e)
        ∙ join (nat_lt x.0 4000000000) x (of_store (take i bs)) (of_store (b ∷ []))

-- a place of the store is taken over
pub taken_over : (bs line line' : WordList) (i : ℕ) (b : ℕ × ℕ) → slice_get bs i ≡ Some b → line ≡ of_store (take i bs)
    → b.0 < 4000000000 → line' ≡ line ++ b ∷ [] → line' ≡ of_store (take (i + 1) bs)
taken_over bs line line' i b e is low put =
    put ∙ (ap (λ (l : WordList). l ++ b ∷ []) is
    ∙ sym (of_store_more bs i b e ∙ ap (λ (c : Bool). of_store (take i bs) ++ cond c (b ∷ []) []) (lt-ltb b.0 4000000000 low)))

-- an own place is not
pub left_out : (bs line : WordList) (i : ℕ) (b : ℕ × ℕ) → slice_get bs i ≡ Some b → line ≡ of_store (take i bs)
    → 4000000000 ≤ b.0 → line ≡ of_store (take (i + 1) bs)
left_out bs line i b e is own =
    is ∙ sym (of_store_more bs i b e ∙ (ap (λ (c : Bool). of_store (take i bs) ++ cond c (b ∷ []) []) (le-ltb b.0 4000000000 own)
    ∙ append-nil (of_store (take i bs))))
