-- Putting a text piece by piece.
use Rattle.std.proofs.Common.{◌≡◌, ℕ, ◌+◌, ◌-◌, ◌≤◌, true, List, [], ◌∷◌, ◌++◌, length, take, drop, Option, Some, None, ap, sym, ◌∙◌, subst, refl, arith, append_assoc, inl, inr}
use Rattle.std.specs.Prelude.{◌==◌}
use Rattle.std.proofs.lemmas.List.{append-nil, take-append-drop, take-take, take_all, length-take, length-drop}
use Rattle.std.proofs.Math.Seq.{take-append-add}
use Rattle.std.proofs.lemmas.Bool.{cases_lt, eqb-true}
use Rattle.logix_edge.specs.Causes.{Rose}
use Rattle.logix_edge.specs.Sinks.{appended, StopsShort}

-- the text has been put as far as the rest, and no fault was counted
pub record HasPut (old new : Option (List ℕ)) (before now : ℕ) (text rest : List ℕ) : Type 0 where
  pub done : List ℕ
  pub whole : done ++ rest ≡ text
  pub written : new ≡ appended old done
  pub quiet : now ≡ before

pub appended-nil : (old : Option (List ℕ)) → old ≡ appended old []
appended-nil None = refl
appended-nil (Some bs) = ap Some (sym (append-nil bs))

appended-append : (old : Option (List ℕ)) (xs ys : List ℕ) → appended (appended old xs) ys ≡ appended old (xs ++ ys)
appended-append None xs ys = refl
appended-append (Some bs) xs ys = ap Some (append_assoc bs xs ys)

pub none-put : (old : Option (List ℕ)) (before : ℕ) (text : List ℕ) → HasPut old old before before text text
none-put old before text = record { done = []; whole = refl; written = appended-nil old; quiet = refl }

pub piece-rest : (n : ℕ) (xs : List ℕ) → take n xs ++ take (length xs - n) (drop n xs) ≡ xs
piece-rest n xs =
    ap (λ ys. take n xs ++ ys) (take_all (length xs - n) (drop n xs) (omega (arith, length-drop n xs))) ∙ take-append-drop n xs

pub more-put : (old new new' : Option (List ℕ)) (before now now' : ℕ) (text rest piece rest' : List ℕ) → HasPut old new before now text rest
    → piece ++ rest' ≡ rest → new' ≡ appended new piece → now' ≡ now → HasPut old new' before now' text rest'
more-put old new new' before now now' text rest piece rest' h whole w q = record {
  done = h.done ++ piece;
  whole = append_assoc h.done piece rest' ∙ ap (λ x. h.done ++ x) whole ∙ h.whole;
  written = w ∙ ap (λ o. appended o piece) h.written ∙ appended-append old h.done piece;
  quiet = q ∙ h.quiet;
}

pub no-rest : (rest : List ℕ) → (length rest == 0) ≡ true → rest ≡ []
no-rest [] e = refl
no-rest (b ∷ bs) e = absurd (omega (arith, eqb-true (length (b ∷ bs)) 0 e))

pub all-put : (old new : Option (List ℕ)) (before now : ℕ) (text rest : List ℕ) → HasPut old new before now text rest → rest ≡ []
    → (new ≡ appended old text) × (now ≡ before)
all-put old new before now text rest h e =
    (h.written ∙ ap (appended old) (sym (append-nil h.done) ∙ ap (λ x. h.done ++ x) (sym e) ∙ h.whole), h.quiet)

-- a front of a front
front : (j k : ℕ) (xs : List ℕ) → (m : ℕ) × (take j (take k xs) ≡ take m xs)
front j k xs = elim (cases_lt k j) [
  | inl h ↦ (k, take_all j (take k xs) (omega (arith, length-take k xs)))
  | inr h ↦ (j, take-take j k xs h)
]

pub front-put : (old new new' : Option (List ℕ)) (before now now' : ℕ) (text rest : List ℕ) (k : ℕ) → HasPut old new before now text rest
    → StopsShort new new' now now' (take k rest) → StopsShort old new' before now' text
front-put old new new' before now now' text rest k h s =
    let f : (m : ℕ) × (take s.front.0 (take k rest) ≡ take m rest) = front s.front.0 k rest in
    record {
      front = (
        length h.done + f.0,
        s.front.1 ∙ ap (λ o. appended o (take s.front.0 (take k rest))) h.written
            ∙ appended-append old h.done (take s.front.0 (take k rest))
            ∙ ap (λ x. appended old (h.done ++ x)) f.1
            ∙ ap (appended old) (sym (take-append-add h.done rest f.0) ∙ ap (take (length h.done + f.0)) h.whole),
      );
      later = subst (λ n. n ≤ now') h.quiet s.later;
      rose = subst (λ n. Rose n now') h.quiet s.rose;
    }
