-- Pieces of final words are no places and no processes.
use Rattle.std.proofs.Common.{◌≡◌, ℕ, true, false, List, [], ◌∷◌, refl, sym, ap, ◌∙◌, subst, true≢false}
use Rattle.std.proofs.lemmas.Bool.{ne_eqb}
use Rattle.heap_words.specs.Cells.{is_final_word, is_final_in}
use Rattle.word_states.specs.Pieces.{is_place, is_process}
use Rattle.word_states.proofs.Pieces.{nine_is, zero_is}

pub not_nine : (x : ℕ) → is_final_word x ≡ true → x ≡ 9 → ⊥
not_nine x f e = let k : is_final_word 9 ≡ true = subst (λ y. is_final_word y ≡ true) e f in
    true≢false (sym k ∙ ap is_final_in nine_is)

not_zero : (x : ℕ) → is_final_word x ≡ true → x ≡ 0 → ⊥
not_zero x f e = let k : is_final_word 0 ≡ true = subst (λ y. is_final_word y ≡ true) e f in
    true≢false (sym k ∙ ap is_final_in zero_is)

pub no_place : (x : ℕ) (xs : List ℕ) → is_final_word x ≡ true → is_place (x ∷ xs) ≡ false
no_place x [] f = refl
no_place x (y ∷ []) f = ne_eqb x 0 (not_zero x f)
no_place x (y ∷ z ∷ zs) f = refl

pub no_process : (x : ℕ) (xs : List ℕ) → is_final_word x ≡ true → is_process (x ∷ xs) ≡ false
no_process x xs f = ne_eqb x 9 (not_nine x f)
