-- The sizes of pieces: all words by them, and the pieces that are left where those behind are dropped.
use Rattle.std.proofs.Common.{◌≡◌, ℕ, zero, suc, ◌+◌, ◌-◌, ◌<◌, ◌≤◌, List, [], ◌∷◌, ◌++◌, length, take, drop, refl, sym, ap, ap₂}
use Rattle.std.proofs.Common.{◌∙◌, arith}
use Rattle.std.specs.Prelude.{slice_index_or}
use Rattle.std.specs.List.{concat}
use Rattle.std.proofs.lemmas.List.{take-append-drop, take-take, drop-take, length-take-le, length-drop}
use Rattle.try_desk.specs.Cuts.{cut, total}

-- the words of pieces that were cut are all words
concat_cut : (ns ws : List ℕ) → total ns ≡ length ws → concat (cut ws ns) ≡ ws
concat_cut [] [] e = refl
concat_cut [] (x ∷ ws) e = absurd (omega arith)
concat_cut (n ∷ ns) ws e =
    let h : n ≤ length ws = omega arith in
    let d : length (drop n ws) ≡ length ws - n = length-drop n ws in
    ap (λ (l : List ℕ). take n ws ++ l) (concat_cut ns (drop n ws) (omega arith)) ∙ take-append-drop n ws

pub words_all : (ns ws : List ℕ) (ps : List (List ℕ)) → total ns ≡ length ws → cut ws ns ≡ ps → ws ≡ concat ps
words_all ns ws ps whole is = sym (concat_cut ns ws whole) ∙ ap concat is

-- and by the sizes they are cut into the same pieces
pub cut_again : (ns ws : List ℕ) (ps : List (List ℕ)) → total ns ≡ length ws → cut ws ns ≡ ps → cut (concat ps) ns ≡ ps
cut_again ns ws ps whole is = ap (λ (l : List ℕ). cut l ns) (sym (words_all ns ws ps whole is)) ∙ is

pub total_all : (ns ws : List ℕ) (ps : List (List ℕ)) → total ns ≡ length ws → cut ws ns ≡ ps → total ns ≡ length (concat ps)
total_all ns ws ps whole is = whole ∙ ap length (words_all ns ws ps whole is)

cut_count : (ns ws : List ℕ) → length (cut ws ns) ≡ length ns
cut_count [] ws = refl
cut_count (n ∷ ns) ws = ap suc (cut_count ns (drop n ws))

pub pieces_count : (ns ws : List ℕ) (ps : List (List ℕ)) → cut ws ns ≡ ps → length ns ≡ length ps
pieces_count ns ws ps is = sym (cut_count ns ws) ∙ ap length is

-- one size more
pub total_more : (ns : List ℕ) (i : ℕ) → i < length ns → total (take (i + 1) ns) ≡ total (take i ns) + slice_index_or ns i 0
total_more ns i l = let h : i + 1 ≡ suc i = omega arith in ap (λ (k : ℕ). total (take k ns)) h ∙ go ns i l
  where
    go : (ns : List ℕ) (i : ℕ) → i < length ns → total (take (suc i) ns) ≡ total (take i ns) + slice_index_or ns i 0
    go [] i l = absurd (omega arith)
    go (m ∷ ns) zero l = omega arith
    go (m ∷ ns) (suc i) l = let h = go ns i (omega arith) in omega arith

pub total_below : (i : ℕ) (ns : List ℕ) → total (take i ns) ≤ total ns
total_below zero ns = omega arith
total_below (suc i) [] = omega arith
total_below (suc i) (n ∷ ns) = let h = total_below i ns in omega arith

-- the first pieces, of the words that they have
cut_first : (k : ℕ) (ns ws : List ℕ) → cut (take (total (take k ns)) ws) (take k ns) ≡ take k (cut ws ns)
cut_first zero ns ws = refl
cut_first (suc k) [] ws = refl
cut_first (suc k) (n ∷ ns) ws =
    let h : n ≤ n + total (take k ns) = omega arith in
    ap₂ (λ (p : List ℕ) (l : List (List ℕ)). p ∷ l) (take-take n (n + total (take k ns)) ws h)
    (ap (λ (l : List ℕ). cut l (take k ns)) (drop-take n (total (take k ns)) ws) ∙ cut_first k ns (drop n ws))

pub cut_back : (ns ws : List ℕ) (ps : List (List ℕ)) (k behind left : ℕ) → total ns ≡ length ws → cut ws ns ≡ ps
    → total (take k ns) + behind ≡ total ns → left ≡ length ws - behind → cut (take left ws) (take k ns) ≡ take k ps
cut_back ns ws ps k behind left whole is split e =
    let h : left ≡ total (take k ns) = omega arith in
    ap (λ (n : ℕ). cut (take n ws) (take k ns)) h ∙ (cut_first k ns ws ∙ ap (take k) is)

pub whole_back : (ns ws : List ℕ) (k behind left : ℕ) → total ns ≡ length ws → total (take k ns) + behind ≡ total ns
    → left ≡ length ws - behind → total (take k ns) ≡ length (take left ws)
whole_back ns ws k behind left whole split e =
    let h : left ≤ length ws = omega arith in
    let t : length (take left ws) ≡ left = length-take-le left ws h in
    omega arith
