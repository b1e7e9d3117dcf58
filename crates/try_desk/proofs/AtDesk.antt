-- What is at hand with a desk, after a word or a piece was put.
use Rattle.std.proofs.Common.{◌≡◌, ℕ, zero, suc, refl, length, take, Bool, true, false, List, [], ◌∷◌, ◌++◌, ap, ap₂, ◌∙◌}
use Rattle.heap_words.specs.Trails.{WordList}
use Rattle.std.specs.Prelude.{slice_get, unwrap_or}
use Rattle.trial_laws.specs.Laws.{holding, places_for, begun, empty}
use Rattle.trial_laws.specs.NewPieces.{with_piece, term_words}
use Rattle.trial_laws.specs.Opening.{holding_all}
use Rattle.try_desk.specs.Held.{Held, held_term, held_terms, held_with, held_anew}
use Rattle.try_desk.specs.Desks.{at_hand, rested, put_away}
use Rattle.try_desk.specs.Opened.{held_all}

-- a word in a slot
pub word_put : (clause next : ℕ) (behind : Bool) (h h' : Held) (ps : List (List ℕ)) (i x : ℕ) (o : Bool) → h' ≡ held_with h i x o
    → (binds : WordList) (reads waits : List ℕ)
    → at_hand clause next behind h' ps binds reads waits ≡ holding (at_hand clause next behind h ps binds reads waits) i x o
word_put clause next behind h h' ps i x o e binds reads waits =
    ap (λ (z : Held). at_hand clause next behind z ps binds reads waits) e

-- and a piece after the others
pub piece_put : (clause next : ℕ) (behind : Bool) (h h' : Held) (ps ps' : List (List ℕ)) (p q : List ℕ) (i x y : ℕ) (o : Bool)
    → h' ≡ held_with h i x o → ps' ≡ ps ++ p ∷ [] → p ≡ q → x ≡ y → (binds : WordList) (reads waits : List ℕ)
    → at_hand clause next behind h' ps' binds reads waits
    ≡ holding (with_piece (at_hand clause next behind h ps binds reads waits) q) i y o
piece_put clause next behind h h' ps ps' p q i x y o e f g k binds reads waits =
    ap₂ (λ (z : Held) (l : List (List ℕ)). at_hand clause next behind z l binds reads waits) e f
    ∙ ap₂ (λ (l : List ℕ) (z : ℕ). at_hand clause next behind (held_with h i z o) (ps ++ l ∷ []) binds reads waits) g k

-- a try that begins
pub try_begun : (clause next n c k : ℕ) (behind : Bool) (h h' : Held) (ps ps' : List (List ℕ)) (args : List ℕ) → h' ≡ held_anew args
    → ps' ≡ places_for n → (binds : WordList) (reads waits : List ℕ)
    → at_hand clause next behind h' ps' [] [] waits
    ≡ begun (at_hand c k behind h ps binds reads waits) clause next n (λ i. unwrap_or (slice_get args i) 6)
try_begun clause next n c k behind h h' ps ps' args e f binds reads waits =
    ap₂ (λ (z : Held) (l : List (List ℕ)). at_hand clause next behind z l [] [] waits) e f

-- the words of slots as terms
pub terms_are : (clause next : ℕ) (behind : Bool) (h : Held) (ps : List (List ℕ)) (binds : WordList) (reads waits : List ℕ) (i n : ℕ)
    → held_terms h i n ≡ term_words (at_hand clause next behind h ps binds reads waits) i n
terms_are clause next behind h ps binds reads waits i zero = refl
terms_are clause next behind h ps binds reads waits i (suc n) =
    ap (λ (l : List ℕ). held_term h i ∷ l) (terms_are clause next behind h ps binds reads waits (suc i) n)

-- a word and the words of slots, gathered in a list
pub line_is : (s a b z ts : List ℕ) (x y : ℕ) → s ≡ a → a ≡ b ++ ts → b ≡ z ++ x ∷ [] → z ≡ [] → x ≡ y → s ≡ y ∷ ts
line_is s a b z ts x y e f g h k =
    e ∙ (f ∙ (ap (λ (l : List ℕ). l ++ ts) g ∙ ap₂ (λ (l : List ℕ) (n : ℕ). (l ++ n ∷ []) ++ ts) h k))

pub terms_length : (h : Held) (i n : ℕ) → length (held_terms h i n) ≡ n
terms_length h i zero = refl
terms_length h i (suc n) = ap suc (terms_length h (suc i) n)

-- nothing is at hand
pub none_at_hand : (h : Held) (ps : List (List ℕ)) → h ≡ held_anew [] → ps ≡ [] → at_hand 0 0 true h ps [] [] [] ≡ empty
none_at_hand h ps e f = ap₂ (λ (z : Held) (l : List (List ℕ)). at_hand 0 0 true z l [] [] []) e f

-- a try that rests, and one that ends
pub try_rested : (clause next base : ℕ) (behind : Bool) (h h' : Held) (ps ps' : List (List ℕ)) (args : List ℕ) → h' ≡ held_anew args
    → ps' ≡ take base ps → (binds : WordList) (reads waits : List ℕ)
    → at_hand clause next behind h' ps' binds reads waits ≡ rested args base (at_hand clause next behind h ps binds reads waits)
try_rested clause next base behind h h' ps ps' args e f binds reads waits =
    ap₂ (λ (z : Held) (l : List (List ℕ)). at_hand clause next behind z l binds reads waits) e f

pub try_ended : (clause next : ℕ) (behind behind' : Bool) (h h' : Held) (ps ps' : List (List ℕ)) (args : List ℕ) → h' ≡ held_anew args
    → ps' ≡ [] → (binds : WordList) (reads waits : List ℕ)
    → at_hand clause next behind' h' ps' binds reads waits ≡ put_away args behind' (at_hand clause next behind h ps binds reads waits)
try_ended clause next behind behind' h h' ps ps' args e f binds reads waits =
    ap₂ (λ (z : Held) (l : List (List ℕ)). at_hand clause next behind' z l binds reads waits) e f

-- slots from i on that take words, one after another
pub all_taken : (clause next : ℕ) (behind : Bool) (ps : List (List ℕ)) (binds : WordList) (reads waits : List ℕ) (h : Held) (i : ℕ)
    (xs : List ℕ) → at_hand clause next behind (held_all h i xs) ps binds reads waits
    ≡ holding_all (at_hand clause next behind h ps binds reads waits) i xs
all_taken clause next behind ps binds reads waits h i [] = refl
all_taken clause next behind ps binds reads waits h i (x ∷ xs) =
    all_taken clause next behind ps binds reads waits (held_with h i x false) (suc i) xs
