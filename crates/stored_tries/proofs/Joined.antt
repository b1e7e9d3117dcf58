-- Pieces have a list of own words: theirs, one after another.
use Rattle.std.proofs.Common.{◌≡◌, ℕ, zero, suc, ◌+◌, ◌-◌, ◌<◌, ◌≤◌, List, [], ◌∷◌, ◌++◌, length, refl, sym, ap, ◌∙◌, ⊎_elim, inr, arith}
use Rattle.std.proofs.Common.{Option, Some, None}
use Rattle.std.specs.Prelude.{slice_get}
use Rattle.std.proofs.lemmas.Bool.{cases_lt}
use Rattle.std.proofs.lemmas.List.{length-append}
use Rattle.heap_words.specs.Trails.{word_at}
use Rattle.word_states.specs.Words.{first_of, row}
use Rattle.word_states.specs.Pieces.{rows}
use Rattle.word_states.proofs.Lists.{word_at-append, row_none, row_in, get_of}
use Rattle.trial_laws.specs.AtHand.{end_of}
use Rattle.trial_laws.proofs.Pieces.{none_low}
use Rattle.beside_words.specs.BesideLaws.{own_low, own_high}
use Rattle.stored_tries.specs.Calls.{AreOwn}

abbrev pub joined : List (List ℕ) → List ℕ
joined [] = []
joined (p ∷ ps) = p ++ joined ps

get_left : (xs ys : List ℕ) (d x : ℕ) → slice_get xs d ≡ Some x → slice_get (xs ++ ys) d ≡ Some x
get_left [] ys d x e = let k : None ≡ Some x = e in cc
get_left (y ∷ xs) ys zero x e = e
get_left (y ∷ xs) ys (suc d) x e = get_left xs ys d x e

get_right : (xs ys : List ℕ) (d : ℕ) → slice_get (xs ++ ys) (length xs + d) ≡ slice_get ys d
get_right [] ys d = ap (slice_get ys) (let e : 0 + d ≡ d = omega arith in e)
get_right (x ∷ xs) ys d =
    ap (slice_get (x ∷ (xs ++ ys))) (let e : suc (length xs) + d ≡ suc (length xs + d) = omega arith in e) ∙ get_right xs ys d

rows_joined : (ps : List (List ℕ)) (b d : ℕ) → word_at (rows b ps) (b + d) ≡ slice_get (joined ps) d
rows_joined [] b d = refl
rows_joined (p ∷ ps) b d =
    word_at-append (row b p) (rows (b + length p) ps) (b + d)
    ∙ ⊎_elim near (λ (l : length p ≤ d). far l (rows_joined ps (b + length p) (d - length p))) (cases_lt d (length p))
  where
    near : d < length p → first_of (word_at (row b p) (b + d)) (word_at (rows (b + length p) ps) (b + d)) ≡ slice_get (p ++ joined ps) d
    near l =
        let g = get_of p d l in
        ap (λ (o : Option ℕ). first_of o (word_at (rows (b + length p) ps) (b + d))) (row_in b d g.0 p g.1)
        ∙ sym (get_left p (joined ps) d g.0 g.1)

    far : length p ≤ d → word_at (rows (b + length p) ps) (b + length p + (d - length p)) ≡ slice_get (joined ps) (d - length p)
        → first_of (word_at (row b p) (b + d)) (word_at (rows (b + length p) ps) (b + d)) ≡ slice_get (p ++ joined ps) d
    far l rec =
        let e : b + length p + (d - length p) ≡ b + d = omega arith in
        let f : length p + (d - length p) ≡ d = omega arith in
        ap (λ (o : Option ℕ). first_of o (word_at (rows (b + length p) ps) (b + d))) (row_none b (b + d) p (inr (omega arith)))
        ∙ (ap (word_at (rows (b + length p) ps)) (sym e)
        ∙ (rec ∙ (sym (get_right p (joined ps) (d - length p)) ∙ ap (slice_get (p ++ joined ps)) f)))

ends_joined : (ps : List (List ℕ)) (b : ℕ) → b + length (joined ps) ≡ end_of b ps
ends_joined [] b = let e : b + 0 ≡ b = omega arith in e
ends_joined (p ∷ ps) b =
    let e : length (p ++ joined ps) ≡ length p + length (joined ps) = length-append p (joined ps) in
    let f : b + length (p ++ joined ps) ≡ b + length p + length (joined ps) = omega arith in
    f ∙ ends_joined ps (b + length p)

pub joined_own : (ps : List (List ℕ)) → AreOwn ps (joined ps)
joined_own ps = record {
  words = λ a. ⊎_elim
      (λ (l : a < 4000000000). own_low (joined ps) a l ∙ sym (none_low ps a l))
      (λ (l : 4000000000 ≤ a). own_high (joined ps) a l ∙ (sym (rows_joined ps 4000000000 (a - 4000000000))
      ∙ ap (word_at (rows 4000000000 ps)) (let e : 4000000000 + (a - 4000000000) ≡ a = omega arith in e)))
      (cases_lt a 4000000000);
  ends = ends_joined ps 4000000000;
}
