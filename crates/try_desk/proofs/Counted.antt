-- The processes among pieces that are cut by sizes, counted one piece after another.
use Rattle.std.proofs.Common.{◌≡◌, ℕ, zero, suc, ◌+◌, ◌<◌, ◌≤◌, Bool, true, false, cond, List, [], ◌∷◌, length, take, drop, refl, sym}
use Rattle.std.proofs.Common.{ap, ◌∙◌, arith}
use Rattle.std.specs.Prelude.{nat_eq, slice_index_or}
use Rattle.std.proofs.lemmas.List.{drop-drop}
use Rattle.word_states.specs.Pieces.{is_process, process_words}
use Rattle.try_desk.specs.Cuts.{cut, total}

-- a piece that has words is a process by its first word
pub first_word : (words : List ℕ) (at size : ℕ) → 0 < size → at + size ≤ length words
    → nat_eq (slice_index_or words at 0) 9 ≡ is_process (take size (drop at words))
first_word words at zero l h = absurd (omega arith)
first_word [] at (suc n) l h = absurd (omega arith)
first_word (x ∷ words) zero (suc n) l h = refl
first_word (x ∷ words) (suc at) (suc n) l h = first_word words at (suc n) l (omega arith)

-- one piece more
pub one_more : (b : ℕ) (ns ws : List ℕ) (i at : ℕ) → i < length ns → at ≡ total (take i ns)
    → length (process_words b (cut ws (take (i + 1) ns)))
    ≡ cond (is_process (take (slice_index_or ns i 0) (drop at ws))) (suc (length (process_words b (cut ws (take i ns)))))
    (length (process_words b (cut ws (take i ns))))
one_more b ns ws i at l e =
    let h : i + 1 ≡ suc i = omega arith in
    ap (λ (k : ℕ). length (process_words b (cut ws (take k ns)))) h
    ∙ (go b ns ws i l
    ∙ ap (λ (k : ℕ). cond (is_process (take (slice_index_or ns i 0) (drop k ws))) (suc (length (process_words b (cut ws (take i ns)))))
    (length (process_words b (cut ws (take i ns))))) (sym e))
  where
    one : (c : Bool) (b : ℕ) → length (cond c (b ∷ []) []) ≡ cond c 1 0
    one true b = refl
    one false b = refl

    further : (c d : Bool) (b : ℕ) (qs rs : List ℕ) → length qs ≡ cond d (suc (length rs)) (length rs)
        → length (cond c (b ∷ qs) qs) ≡ cond d (suc (length (cond c (b ∷ rs) rs))) (length (cond c (b ∷ rs) rs))
    further true true b qs rs e = ap suc e
    further true false b qs rs e = ap suc e
    further false true b qs rs e = e
    further false false b qs rs e = e

    go : (b : ℕ) (ns ws : List ℕ) (i : ℕ) → i < length ns
        → length (process_words b (cut ws (take (suc i) ns)))
        ≡ cond (is_process (take (slice_index_or ns i 0) (drop (total (take i ns)) ws)))
        (suc (length (process_words b (cut ws (take i ns)))))
        (length (process_words b (cut ws (take i ns))))
    go b [] ws i l = absurd (omega arith)
    go b (n ∷ ns) ws zero l = one (is_process (take n ws)) b
    go b (n ∷ ns) ws (suc i) l =
        further (is_process (take n ws)) (is_process (take (slice_index_or ns i 0) (drop (n + total (take i ns)) ws))) b
        (process_words (b + length (take n ws)) (cut (drop n ws) (take (suc i) ns)))
        (process_words (b + length (take n ws)) (cut (drop n ws) (take i ns)))
        (go (b + length (take n ws)) ns (drop n ws) i (omega arith)
        ∙ ap (λ (p : List ℕ). cond (is_process p)
        (suc (length (process_words (b + length (take n ws)) (cut (drop n ws) (take i ns)))))
        (length (process_words (b + length (take n ws)) (cut (drop n ws) (take i ns)))))
        (ap (take (slice_index_or ns i 0)) (drop-drop (total (take i ns)) n ws)))

-- the count so far, where the next piece is a process and where it is none
pub counted : (c d : Bool) (k k' m n : ℕ) → m ≡ cond c (suc k) k → d ≡ c → k' ≡ k → n ≡ cond d (k' + 1) k' → n ≡ m
counted c true k k' m n e is j f = omega (arith, e ∙ ap (λ (b : Bool). cond b (suc k) k) (sym is))
counted c false k k' m n e is j f = f ∙ (j ∙ sym (e ∙ ap (λ (b : Bool). cond b (suc k) k) (sym is)))
