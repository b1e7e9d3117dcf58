-- The words that a child takes, gathered one after another.
use Rattle.std.proofs.Common.{◌≡◌, ℕ, zero, suc, ◌+◌, Bool, refl, sym, List, [], ◌∷◌, ◌++◌, map, ap, ap₂, ◌∙◌, append_assoc}
use Rattle.std.proofs.lemmas.List.{map-append}
use Rattle.heap_words.specs.Trails.{WordList}
use Rattle.trial_laws.specs.NewPieces.{passed, passed_words}
use Rattle.try_desk.specs.Held.{Held, held_term, held_terms}
use Rattle.try_desk.specs.Desks.{at_hand, pieces_at_hand}
use Rattle.try_desk.proofs.SlotWords.{terms_more}

-- one word more
pub passed_put : (f : ℕ → ℕ) (h : Held) (i n x y : ℕ) (old line line' : List ℕ) → line ≡ old ++ map f (held_terms h i n)
    → x ≡ held_term h (i + n) → y ≡ f x → line' ≡ line ++ y ∷ [] → line' ≡ old ++ map f (held_terms h i (n + 1))
passed_put f h i n x y old line line' e g k m =
    m ∙ (ap₂ (λ (l : List ℕ) (z : ℕ). l ++ z ∷ []) e (k ∙ ap f g)
    ∙ (append_assoc old (map f (held_terms h i n)) (f (held_term h (i + n)) ∷ [])
    ∙ ap (λ (l : List ℕ). old ++ l)
    (sym (ap (map f) (terms_more h i n) ∙ map-append f (held_terms h i n) (held_term h (i + n) ∷ [])))))

-- so are the words that a child takes for those of slots
pub passed_are : (clause next : ℕ) (behind : Bool) (h : Held) (ps : List (List ℕ)) (binds : WordList) (reads waits : List ℕ) (i n : ℕ)
    → map (passed (pieces_at_hand ps binds)) (held_terms h i n) ≡ passed_words (at_hand clause next behind h ps binds reads waits) i n
passed_are clause next behind h ps binds reads waits i zero = refl
passed_are clause next behind h ps binds reads waits i (suc n) =
    ap (λ (l : List ℕ). passed (pieces_at_hand ps binds) (held_term h i) ∷ l)
    (passed_are clause next behind h ps binds reads waits (suc i) n)
