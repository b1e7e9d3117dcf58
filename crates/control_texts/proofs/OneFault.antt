-- A text is read as one list of controls, or has one place of a fault.
use Rattle.std.proofs.Common.{◌≡◌, ℕ, List, [], ◌∷◌, ◌++◌, length, ap, sym, ◌∙◌, subst, refl, append_assoc}
use Rattle.std.proofs.lemmas.List.{append-nil}
use Rattle.fcp_model.specs.declared.run.Control.{Control}
use Rattle.fcp_model.specs.Spelling.{Bytes}
use Rattle.control_texts.specs.ControlTexts.{AskFor, Begin, words_of, IsControlText, IsFaultOfWord, IsFaultAt, of_word, of_end}
use Rattle.control_texts.specs.Laws.{ATextHasOneReading, ATextHasOneFault, NoTextIsReadWithAFault}
use Rattle.control_texts.specs.Pieces.{Piece, pieces}
use Rattle.control_texts.proofs.Reached.{one-asked, words-append}

-- the front of words that begin some words that ask for something
begin-front : (xs ys : List Bytes) → Begin (xs ++ ys) → Begin xs
begin-front xs ys b =
    record { rest = ys ++ b.rest; controls = b.controls; whole = subst (λ x. AskFor x b.controls) (append_assoc xs ys b.rest) b.whole }

asked-begin : (words : List Bytes) (controls : List Control) → AskFor words controls → (xs ys : List Bytes) → words ≡ xs ++ ys → Begin xs
asked-begin words controls a xs ys e = record { rest = ys; controls = controls; whole = subst (λ x. AskFor x controls) e a }

-- the words of a front, of a word behind it and of the rest
words-through : (front rest : List Piece) (w : Piece) → words_of (front ++ w ∷ rest) ≡ (words_of front ++ w.bytes ∷ []) ++ words_of rest
words-through front rest w = words-append front (w ∷ rest) ∙ sym (append_assoc (words_of front) (w.bytes ∷ []) (words_of rest))

words-past : (front rest : List Piece) (w : Piece)
    → words_of ((front ++ w ∷ []) ++ rest) ≡ (words_of front ++ w.bytes ∷ []) ++ words_of rest
words-past front rest w = words-append (front ++ w ∷ []) rest ∙ ap (λ x. x ++ words_of rest) (words-append front (w ∷ []))

-- two words of one list: the same, or one stands before the other
data Meet (front : List Piece) (w : Piece) (other : List Piece) (v : Piece) : Type 0 where
  same : w ≡ v → Meet front w other v
  sooner : (zs : List Piece) → other ≡ (front ++ w ∷ []) ++ zs → Meet front w other v
  later : (zs : List Piece) → front ≡ (other ++ v ∷ []) ++ zs → Meet front w other v

one-further : (x y : Piece) (front other : List Piece) (w v : Piece) → x ≡ y → Meet front w other v → Meet (x ∷ front) w (y ∷ other) v
one-further x y front other w v e (same d) = same d
one-further x y front other w v e (sooner zs d) = sooner zs (ap (λ z. z ∷ other) (sym e) ∙ ap (λ l. x ∷ l) d)
one-further x y front other w v e (later zs d) = later zs (ap (λ z. z ∷ front) e ∙ ap (λ l. y ∷ l) d)

meet : (front other : List Piece) (w v : Piece) (rest rest' : List Piece) → front ++ w ∷ rest ≡ other ++ v ∷ rest' → Meet front w other v
meet [] [] w v rest rest' e = same cc
meet [] (y ∷ ys) w v rest rest' e = let d : y ≡ w = cc in sooner ys (ap (λ z. z ∷ ys) d)
meet (x ∷ xs) [] w v rest rest' e = let d : x ≡ v = cc in later xs (ap (λ z. z ∷ xs) d)
meet (x ∷ xs) (y ∷ ys) w v rest rest' e =
    let d : x ≡ y = cc in
    let t : xs ++ w ∷ rest ≡ ys ++ v ∷ rest' = cc in
    one-further x y xs ys w v d (meet xs ys w v rest rest' t)

-- behind a fault of a word nothing begins some words that ask for something
no-later : (front zs : List Piece) (w : Piece) → (Begin (words_of front ++ w.bytes ∷ []) → ⊥)
    → Begin (words_of ((front ++ w ∷ []) ++ zs)) → ⊥
no-later front zs w breaks b =
    breaks (begin-front (words_of front ++ w.bytes ∷ []) (words_of zs) (subst Begin (words-past front zs w) b))

words-one : (text : Bytes) (i j : ℕ) (f : IsFaultOfWord text i) (g : IsFaultOfWord text j) → Meet f.front f.word g.front g.word → i ≡ j
words-one text i j f g (same e) = f.place ∙ ap (λ (p : Piece). p.at) e ∙ sym g.place
words-one text i j f g (sooner zs e) =
    absurd (no-later f.front zs f.word f.breaks (subst (λ x. Begin (words_of x)) e g.begins))
words-one text i j f g (later zs e) =
    absurd (no-later g.front zs g.word g.breaks (subst (λ x. Begin (words_of x)) e f.begins))

-- where a word is a fault, the words of the text begin nothing
no-whole : (text : Bytes) (i : ℕ) → IsFaultOfWord text i → Begin (words_of (pieces text)) → ⊥
no-whole text i f b =
    let e : words_of (pieces text) ≡ (words_of f.front ++ f.word.bytes ∷ []) ++ words_of f.rest =
    ap words_of f.stands ∙ words-through f.front f.rest f.word in
    f.breaks (begin-front (words_of f.front ++ f.word.bytes ∷ []) (words_of f.rest) (subst Begin e b))

pub one-reading : ATextHasOneReading
one-reading text a b h k = one-asked (words_of (pieces text)) a b h k

pub one-fault : ATextHasOneFault
one-fault text i j (of_word f) (of_word g) =
    words-one text i j f g (meet f.front g.front f.word g.word f.rest g.rest (sym f.stands ∙ g.stands))
one-fault text i j (of_word f) (of_end g) = absurd (no-whole text i f g.begins)
one-fault text i j (of_end f) (of_word g) = absurd (no-whole text j g f.begins)
one-fault text i j (of_end f) (of_end g) = f.place ∙ sym g.place

pub read-or-fault : NoTextIsReadWithAFault
read-or-fault text controls at h (of_word f) =
    no-whole text at f
    (asked-begin (words_of (pieces text)) controls h (words_of (pieces text)) [] (sym (append-nil (words_of (pieces text)))))
read-or-fault text controls at h (of_end f) = f.open_end controls h
