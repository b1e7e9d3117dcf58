-- Words that are cut into pieces.
use Rattle.std.proofs.Common.{◌≡◌, ℕ, zero, suc, ◌+◌, ◌-◌, ◌<◌, ◌≤◌, List, [], ◌∷◌, ◌++◌, length, take, drop, refl, sym, ap, ◌∙◌, subst}
use Rattle.std.proofs.Common.{inr, ⊎_elim, arith, zero-add, append_assoc, Some, None}
use Rattle.std.proofs.lemmas.List.{take-append-le, drop-append-le, length-take-le, length-drop, length-append}
use Rattle.std.proofs.lemmas.Bool.{cases_lt}
use Rattle.std.specs.Prelude.{slice_get}
use Rattle.heap_words.specs.Trails.{word_at}
use Rattle.word_states.specs.Words.{first_of, row}
use Rattle.word_states.specs.Pieces.{rows}
use Rattle.word_states.proofs.Lists.{word_at-append, row_none, row_in, get_of}
use Rattle.trial_laws.specs.AtHand.{end_of}
use Rattle.trial_laws.specs.Laws.{places_for}
use Rattle.try_desk.specs.Cuts.{cut, total}
use Rattle.trial_laws.proofs.Pieces.{none_low}
use Rattle.beside_words.specs.Besides.{own_at}
use Rattle.beside_words.specs.BesideLaws.{own_low, own_high}

take_all : (p : List ℕ) → take (length p) p ≡ p
take_all [] = refl
take_all (x ∷ p) = ap (λ (l : List ℕ). x ∷ l) (take_all p)

-- a piece after the others
pub cut_last : (ns ws p : List ℕ) → total ns ≡ length ws → cut (ws ++ p) (ns ++ length p ∷ []) ≡ cut ws ns ++ p ∷ []
cut_last [] [] p e = ap (λ (l : List ℕ). l ∷ []) (take_all p)
cut_last [] (x ∷ ws) p e = absurd (omega arith)
cut_last (n ∷ ns) ws p e =
    let h : n ≤ length ws = omega arith in
    let d : length (drop n ws) ≡ length ws - n = length-drop n ws in
    ap (λ (l : List ℕ). l ∷ cut (drop n (ws ++ p)) (ns ++ length p ∷ [])) (take-append-le n ws p h)
    ∙ (ap (λ (l : List ℕ). take n ws ∷ cut l (ns ++ length p ∷ [])) (drop-append-le n ws p h)
    ∙ ap (λ (l : List (List ℕ)). take n ws ∷ l) (cut_last ns (drop n ws) p (omega arith)))

-- the address after the pieces
pub end_cut : (ns ws : List ℕ) (b : ℕ) → total ns ≡ length ws → end_of b (cut ws ns) ≡ b + length ws
end_cut [] ws b e = omega arith
end_cut (n ∷ ns) ws b e =
    let h : n ≤ length ws = omega arith in
    let t : length (take n ws) ≡ n = length-take-le n ws h in
    let d : length (drop n ws) ≡ length ws - n = length-drop n ws in
    let r = end_cut ns (drop n ws) (b + length (take n ws)) (omega arith) in
    omega arith

pub total_last : (ns : List ℕ) (n : ℕ) → total (ns ++ n ∷ []) ≡ total ns + n
total_last [] n = omega arith
total_last (m ∷ ns) n = let h = total_last ns n in omega arith

-- what a piece more leaves
pub put_cut : (ws ws' p ns ns' : List ℕ) (old : List (List ℕ)) → total ns ≡ length ws → cut ws ns ≡ old → ns' ≡ ns ++ length p ∷ []
    → ws' ≡ ws ++ p → cut ws' ns' ≡ old ++ p ∷ []
put_cut ws ws' p ns ns' old whole is e f =
    ap (cut ws') e ∙ (ap (λ (l : List ℕ). cut l (ns ++ length p ∷ [])) f
    ∙ (cut_last ns ws p whole ∙ ap (λ (l : List (List ℕ)). l ++ p ∷ []) is))

pub put_whole : (ws ws' p ns ns' : List ℕ) → total ns ≡ length ws → ns' ≡ ns ++ length p ∷ [] → ws' ≡ ws ++ p → total ns' ≡ length ws'
put_whole ws ws' p ns ns' whole e f = omega (arith, ap total e, total_last ns (length p), ap length f, length-append ws p, whole)

pub put_end : (ws ns : List ℕ) (old : List (List ℕ)) → total ns ≡ length ws → cut ws ns ≡ old
    → end_of 4000000000 old ≡ 4000000000 + length ws
put_end ws ns old whole is = ap (end_of 4000000000) (sym is) ∙ end_cut ns ws 4000000000 whole

-- the words before a cut and after it
get_front : (n : ℕ) (ws : List ℕ) (d : ℕ) → d < n → slice_get ws d ≡ slice_get (take n ws) d
get_front zero ws d l = absurd (omega arith)
get_front (suc n) [] d l = refl
get_front (suc n) (x ∷ ws) zero l = refl
get_front (suc n) (x ∷ ws) (suc d) l = get_front n ws d (omega arith)

get_after : (n : ℕ) (ws : List ℕ) (d : ℕ) → slice_get (drop n ws) d ≡ slice_get ws (n + d)
get_after zero ws d = ap (slice_get ws) (sym (zero-add d))
get_after (suc n) [] d = refl
get_after (suc n) (x ∷ ws) d = get_after n ws d ∙ ap (slice_get (x ∷ ws)) (further n d)
  where
    further : (n d : ℕ) → suc (n + d) ≡ suc n + d
    further n d = omega arith

get_behind : (n : ℕ) (ws : List ℕ) (d k : ℕ) → k ≡ n + d → slice_get (drop n ws) d ≡ slice_get ws k
get_behind n ws d k e = get_after n ws d ∙ ap (slice_get ws) (sym e)

-- the words of pieces, one after another
rows_flat : (ns ws : List ℕ) (b a : ℕ) → total ns ≡ length ws → b ≤ a → word_at (rows b (cut ws ns)) a ≡ slice_get ws (a - b)
rows_flat [] [] b a e l = refl
rows_flat [] (x ∷ ws) b a e l = absurd (omega arith)
rows_flat (n ∷ ns) ws b a e l =
    let h : n ≤ length ws = omega arith in
    let t : length (take n ws) ≡ n = length-take-le n ws h in
    let d : length (drop n ws) ≡ length ws - n = length-drop n ws in
    word_at-append (row b (take n ws)) (rows (b + length (take n ws)) (cut (drop n ws) ns)) a
    ∙ ⊎_elim
    (λ (k : a < b + n). near h t k)
    (λ (k : b + n ≤ a). far h t k (rows_flat ns (drop n ws) (b + length (take n ws)) a (omega arith) (omega arith)))
    (cases_lt a (b + n))
  where
    near : n ≤ length ws → length (take n ws) ≡ n → a < b + n
        → first_of (word_at (row b (take n ws)) a) (word_at (rows (b + length (take n ws)) (cut (drop n ws) ns)) a) ≡ slice_get ws (a - b)
    near h t k =
        let i : a - b < length (take n ws) = omega arith in
        let g = get_of (take n ws) (a - b) i in
        let r : word_at (row b (take n ws)) (b + (a - b)) ≡ Some g.0 = row_in b (a - b) g.0 (take n ws) g.1 in
        let s : word_at (row b (take n ws)) a ≡ Some g.0 = subst (λ c. word_at (row b (take n ws)) c ≡ Some g.0) (omega arith) r in
        ap (λ o. first_of o (word_at (rows (b + length (take n ws)) (cut (drop n ws) ns)) a)) s
        ∙ sym (get_front n ws (a - b) (omega arith) ∙ g.1)

    far : n ≤ length ws → length (take n ws) ≡ n → b + n ≤ a
        → word_at (rows (b + length (take n ws)) (cut (drop n ws) ns)) a ≡ slice_get (drop n ws) (a - (b + length (take n ws)))
        → first_of (word_at (row b (take n ws)) a) (word_at (rows (b + length (take n ws)) (cut (drop n ws) ns)) a) ≡ slice_get ws (a - b)
    far h t k rec =
        let none : word_at (row b (take n ws)) a ≡ None = row_none b a (take n ws) (inr (omega arith)) in
        ap (λ o. first_of o (word_at (rows (b + length (take n ws)) (cut (drop n ws) ns)) a)) none
        ∙ (rec ∙ get_behind n ws (a - (b + length (take n ws))) (a - b) (omega arith))

pub flat : (ns ws : List ℕ) (ps : List (List ℕ)) → total ns ≡ length ws → cut ws ns ≡ ps → (a : ℕ)
    → own_at ws a ≡ word_at (rows 4000000000 ps) a
flat ns ws ps e is a = ⊎_elim
    (λ (l : a < 4000000000). own_low ws a l ∙ sym (none_low ps a l))
    (λ (l : 4000000000 ≤ a). own_high ws a l ∙ (sym (rows_flat ns ws 4000000000 a e l)
    ∙ ap (λ (p : List (List ℕ)). word_at (rows 4000000000 p) a) is))
    (cases_lt a 4000000000)

-- one place more
pub places_more : (n : ℕ) → places_for (n + 1) ≡ places_for n ++ (0 ∷ 0 ∷ []) ∷ []
places_more n = ap places_for (plus n) ∙ last n
  where
    plus : (n : ℕ) → n + 1 ≡ suc n
    plus n = omega arith

    last : (n : ℕ) → places_for (suc n) ≡ places_for n ++ (0 ∷ 0 ∷ []) ∷ []
    last zero = refl
    last (suc n) = ap (λ (l : List (List ℕ)). (0 ∷ 0 ∷ []) ∷ l) (last n)

pub places_put : (ps qs rs : List (List ℕ)) (n : ℕ) → qs ≡ ps ++ places_for n → rs ≡ qs ++ (0 ∷ 0 ∷ []) ∷ [] → rs ≡ ps ++ places_for (n + 1)
places_put ps qs rs n e f =
    f ∙ (ap (λ (l : List (List ℕ)). l ++ (0 ∷ 0 ∷ []) ∷ []) e
    ∙ (append_assoc ps (places_for n) ((0 ∷ 0 ∷ []) ∷ []) ∙ ap (λ (l : List (List ℕ)). ps ++ l) (sym (places_more n))))
