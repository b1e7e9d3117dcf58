-- The pieces at a commit, and the own places that a try bound.
use Rattle.std.proofs.Common.{◌≡◌, ◌⊎◌, ℕ, zero, suc, ◌+◌, ◌<◌, ◌≤◌, true, false, List, [], ◌∷◌, ◌++◌, length, refl, sym, ap, ◌∙◌, subst}
use Rattle.std.proofs.Common.{⊎_elim, inl, inr, arith, true≢false, Option, Some, None}
use Rattle.std.specs.Prelude.{slice_get}
use Rattle.std.specs.List.{concat}
use Rattle.std.proofs.lemmas.List.{length-append}
use Rattle.std.proofs.lemmas.Option.{same_Some}
use Rattle.heap_words.specs.Cells.{decoded, is_final_word, is_final_in}
use Rattle.heap_words.specs.Trails.{WordList, word_at, AreOnce}
use Rattle.heap_words.specs.WordsLaws.{WordsLaws}
use Rattle.heap_words.specs.declared.cell.Cell.TheVariants.{Unbound, Raw}
use Rattle.word_states.specs.Pieces.{StartsAt, IsPiece, a_place, a_pair, a_tuple, a_wide, a_process, AreFinal, rows}
use Rattle.word_states.proofs.Pieces.{rows_in, zero_is}
use Rattle.machine_code.specs.Fresh.{Tops}
use Rattle.trial_laws.specs.AtHand.{AtHand, end_of}
use Rattle.trial_laws.specs.Leading.{IsTermWord}
use Rattle.safe_tries.specs.Safe.{IsSafe}
use Rattle.safe_tries.specs.Stored.{IsStored}
use Rattle.stored_tries.proofs.Commits.{own_word, own_place}

-- the address after pieces, by all their words
pub end_all : (b : ℕ) (ps : List (List ℕ)) → end_of b ps ≡ b + length (concat ps)
end_all b [] = omega arith
end_all b (p ∷ ps) = let h = end_all (b + length p) ps in let k = length-append p (concat ps) in omega arith

-- an open word is not final
open_word : (v e : ℕ) → decoded v ≡ Some (Unbound e) → is_final_word v ≡ true → ⊥
open_word v e d f = true≢false (sym f ∙ ap is_final_in d)

zero_open : is_final_word 0 ≡ true → ⊥
zero_open f = open_word 0 0 zero_is f

-- a place whose word is open holds 0
place_is_open : (v e : ℕ) (q : List ℕ) → IsPiece q → q ≡ 0 ∷ v ∷ [] → decoded v ≡ Some (Unbound e) → v ≡ 0
place_is_open v e q (a_place x i f) j d =
    let k : x ≡ v = second x v (sym i ∙ j) in
    ⊎_elim (λ (z : x ≡ 0). sym k ∙ z) (λ (z : is_final_word x ≡ true). absurd (open_word v e d (subst (λ n. is_final_word n ≡ true) k z))) f
  where
    second : (x v : ℕ) → 0 ∷ x ∷ [] ≡ 0 ∷ v ∷ [] → x ≡ v
    second x v i = cc
place_is_open v e q (a_pair x y i fx fy n) j d =
    let k : x ≡ 0 = first x y v (sym i ∙ j) in absurd (zero_open (subst (λ m. is_final_word m ≡ true) k fx))
  where
    first : (x y v : ℕ) → x ∷ y ∷ [] ≡ 0 ∷ v ∷ [] → x ≡ 0
    first x y v i = cc
place_is_open v e q (a_tuple r n xs i dr l f) j d =
    let k : r ≡ 0 = first r v xs (sym i ∙ j) in
    let m : Some (Raw n) ≡ Some (Unbound 0) = sym dr ∙ (ap decoded k ∙ zero_is) in cc
  where
    first : (r v : ℕ) (xs : List ℕ) → r ∷ xs ≡ 0 ∷ v ∷ [] → r ≡ 0
    first r v xs i = cc
place_is_open v e q (a_wide x z i dx) j d = absurd (let k : 1 ≡ 2 = ap length (sym i ∙ j) in omega arith)
place_is_open v e q (a_process f g r n xs i df dr l h) j d = absurd (nine f r xs v (sym i ∙ j))
  where
    nine : (f r : ℕ) (xs : List ℕ) (v : ℕ) → 9 ∷ 0 ∷ f ∷ r ∷ xs ≡ 0 ∷ v ∷ [] → ⊥
    nine f r xs v i = absurd (let k : suc (suc (suc (suc (length xs)))) ≡ 2 = ap length i in omega arith)

module _ {S : Type 0} {addresses : S → ℕ} {sound : S → Type 0} {knows : S → ℕ → Type 0} {had : S → ℕ → ℕ → Type 0} {leads : S → ℕ → Type 0}
    {own shown : S → ℕ → Option ℕ} {later : S → S → Type 0} {gave : S → S → ℕ → ℕ → Type 0}
    (laws : WordsLaws {S = S} addresses sound knows had leads own shown later gave) where
  -- an own place that a try bound has no word of its own
  pub own_open : (kept : WordList) (w : S) (r : AtHand) (τ : Tops) (released : ℕ)
      → IsStored addresses sound had shown later kept w → IsSafe kept r τ released → AreOnce r.binds → AreOnce kept
      → (a x : ℕ) → word_at r.binds a ≡ Some x → ((b y : ℕ) → word_at r.binds b ≡ Some y → IsTermWord y) → 4000000000 ≤ a
      → (s : ℕ) × (a ≡ suc s) × StartsAt 4000000000 r.pieces s (0 ∷ 0 ∷ [])
  own_open kept w r τ released stored safe binds_once once a x e terms l =
      let p = own_place laws kept w r τ released stored safe binds_once once terms a x l e in
      let o = own_word laws kept w r τ released stored safe binds_once once terms a x l e in
      let there : word_at (rows 4000000000 r.pieces) (p.0 + 1) ≡ Some p.1 = rows_in 4000000000 p.0 1 p.1 r.pieces _ p.3 refl in
      let at : p.0 + 1 ≡ a = (let k = p.2 in omega arith) in
      let same : p.1 ≡ o.0 = same_Some p.1 o.0 (sym there ∙ (ap (word_at (rows 4000000000 r.pieces)) at ∙ o.2)) in
      let open_ : p.1 ≡ 0 = place_is_open p.1 o.1 _ (safe.led.pieces.each p.0 _ p.3) refl (ap decoded same ∙ o.3) in
      (p.0, p.2, subst (λ v. StartsAt 4000000000 r.pieces p.0 (0 ∷ v ∷ [])) open_ p.3)
