-- Writes are put one behind another.
use Rattle.std.proofs.Common.{◌≡◌, ℕ, zero, suc, ◌+◌, ◌-◌, ◌*◌, ◌<◌, ◌≤◌, Bool, true, false, cond, List, [], ◌∷◌, ◌++◌, length, map}
use Rattle.std.proofs.Common.{take, drop, refl, ap, ◌∙◌, arith, append_assoc}
use Rattle.std.proofs.Common.{get_or, slice_get, Option, Some, ⊎_elim}
use Rattle.std.specs.Prelude.{slice_index_or, nat_lt, unwrap_or}
use Rattle.std.proofs.lemmas.Bool.{cases_lt, le-ltb}
use Rattle.std.proofs.lemmas.Option.{slice_get_past}
use Rattle.word_states.specs.Planning.{laid_rows}
use Rattle.word_states.proofs.Lists.{get_of}
use Rattle.page_layout.proofs.Filling.{moved_at}
use Rattle.std.proofs.lemmas.List.{take_more, take_all, length-map, length-drop}
use Rattle.heap_words.specs.Trails.{WordList}
use Rattle.word_states.specs.Words.{row}
use Rattle.word_states.specs.Layouts.{moved, name_word, laid_place, laid_process, laid_piece, next_place, next_process}
use Rattle.word_states.specs.Pieces.{is_place, is_process}
use Rattle.heap_words.specs.Cells.{encoded}
use Rattle.heap_words.specs.declared.cell.Cell.TheVariants.{Top}
use Rattle.page_layout.specs.declared.rooms.Room.{Room}
use Rattle.page_layout.specs.Laying.{moved_to, tops_of}

pub map_last : {X Y : Type 0} (f : X → Y) (xs : List X) (x : X) → map f (xs ++ x ∷ []) ≡ map f xs ++ f x ∷ []
map_last f [] x = refl
map_last f (y ∷ ys) x = ap (λ l. f y ∷ l) (map_last f ys x)

pub row_last : (a : ℕ) (xs : List ℕ) (x : ℕ) → row a (xs ++ x ∷ []) ≡ row a xs ++ (a + length xs, x) ∷ []
row_last a [] x = ap (λ (b : ℕ). (b, x) ∷ []) (let e : a ≡ a + 0 = omega arith in e)
row_last a (y ∷ ys) x =
    ap (λ (l : WordList). (a, y) ∷ l)
    (row_last (suc a) ys x
    ∙ ap (λ (b : ℕ). row (suc a) ys ++ (b, x) ∷ []) (let e : suc a + length ys ≡ a + suc (length ys) = omega arith in e))

-- one more word
pub moved_more : (f : ℕ → ℕ) (a i x : ℕ) (xs : List ℕ) → i < length xs → slice_index_or xs i 0 ≡ x
    → row a (map (moved f) (take (i + 1) xs)) ≡ row a (map (moved f) (take i xs)) ++ (a + i, moved f x) ∷ []
moved_more f a i x xs lt is =
    ap (λ (l : List ℕ). row a (map (moved f) l)) (take_more xs i 0 lt ∙ ap (λ (v : ℕ). take i xs ++ v ∷ []) is)
    ∙ ap (row a) (map_last (moved f) (take i xs) x)
    ∙ row_last a (map (moved f) (take i xs)) (moved f x)
    ∙ ap (λ (b : ℕ). row a (map (moved f) (take i xs)) ++ (b, moved f x) ∷ []) (let e = length-map (take i xs) (moved f) in let d =
    size i xs (omega arith) in omega arith)
  where
    size : (i : ℕ) (xs : List ℕ) → i ≤ length xs → length (take i xs) ≡ i
    size zero xs h = refl
    size (suc i) [] h = absurd (omega arith)
    size (suc i) (x ∷ xs) h = ap suc (size i xs (omega arith))

-- the name word is linear in the entry's number
pub name_is : (n k : ℕ) → name_word n k ≡ 576460752303423491 + 16 * k + 4294967296 * n
name_is n k = omega arith

pub drop_end : {X : Type 0} (i : ℕ) (xs : List X) → length xs ≤ i → drop i xs ≡ []
drop_end zero [] h = refl
drop_end zero (x ∷ xs) h = absurd (omega arith)
drop_end (suc i) [] h = refl
drop_end (suc i) (x ∷ xs) h = drop_end i xs (omega arith)

pub piece_put : (f : ℕ → ℕ) (n k i a : ℕ) (ws vs all : WordList) (p : List ℕ) (ps : List (List ℕ))
    → vs ≡ ws ++ row (f a) (laid_piece f n k i p) → ws ++ laid_rows f n k i a (p ∷ ps) ≡ all
    → vs ++ laid_rows f n (next_place k p) (next_process i p) (a + length p) ps ≡ all
piece_put f n k i a ws vs all p ps e h =
    ap (λ (l : WordList). l ++ laid_rows f n (next_place k p) (next_process i p) (a + length p) ps) e
    ∙ append_assoc ws (row (f a) (laid_piece f n k i p)) (laid_rows f n (next_place k p) (next_process i p) (a + length p) ps) ∙ h

-- a piece's new addresses are small
pub base_small : (table : List ℕ) (first m : ℕ) → ((i t : ℕ) → slice_get table i ≡ Some t → t < 4000000000) → length table < 268435456
    → first + m ≤ length table → moved_to table (4000000000 + first) + m < 4294967296
base_small table first m low few fits = ⊎_elim
    (λ (h : first < length table). let g = get_of table first h in let e = moved_at table first g.0 g.1 in let l = low first g.0 g.1 in
    omega arith)
    (λ (h : length table ≤ first). let e : moved_to table (4000000000 + first) ≡ 4000000000 + first =
    ap (λ (t : Bool). cond t (4000000000 + first)
    (unwrap_or (slice_get table (4000000000 + first - 4000000000)) (4000000000 + first)))
    (let u : nat_lt (4000000000 + first) 4000000000 ≡ false = le-ltb (4000000000 + first) 4000000000 (omega arith) in u)
    ∙ ap (λ (o : Option ℕ). unwrap_or o (4000000000 + first))
    (ap (slice_get table) (let u : 4000000000 + first - 4000000000 ≡ first = omega arith in u) ∙ slice_get_past table first h) in
    omega arith)
    (cases_lt first (length table))

tops_both : (xs ys : List Room) → tops_of (xs ++ ys) ≡ tops_of xs ++ tops_of ys
tops_both [] ys = refl
tops_both (x ∷ xs) ys = go (nat_lt x.old x.top) (tops_both xs ys)
  where
    go : (t : Bool) → tops_of (xs ++ ys) ≡ tops_of xs ++ tops_of ys
        → cond t ((1024 * x.page, encoded (Top x.top)) ∷ tops_of (xs ++ ys)) (tops_of (xs ++ ys)) ≡ cond t
        ((1024 * x.page, encoded (Top x.top)) ∷ tops_of xs) (tops_of xs) ++ tops_of ys
    go true e = ap (λ (l : WordList). (1024 * x.page, encoded (Top x.top)) ∷ l) e
    go false e = e

-- one more room
pub tops_more : (rs : List Room) (i : ℕ) (d : Room) → i < length rs
    → tops_of (take (i + 1) rs) ≡ tops_of (take i rs) ++ tops_of (get_or rs i d ∷ [])
tops_more rs i d lt = ap tops_of (take_more rs i d lt) ∙ tops_both (take i rs) (get_or rs i d ∷ [])

-- a process as it is laid, word by word
pub process_row : (f : ℕ → ℕ) (n k i a : ℕ) (p : List ℕ) → is_place p ≡ false → is_process p ≡ true → 2 ≤ length p
    → row a (laid_piece f n k i p)
    ≡ (a, get_or p 0 0) ∷ (a + 1, 576460752303423491 + 16 * i + 4294967296 * n) ∷ row (a + 2) (map (moved f) (drop 2 p))
process_row f n k i a [] e g l = absurd (omega arith)
process_row f n k i a (x ∷ []) e g l = absurd (omega arith)
process_row f n k i a (x ∷ y ∷ ys) e g l =
    ap (λ (b : Bool). row a (cond b (laid_place f n k (x ∷ y ∷ ys)) (cond (is_process (x ∷ y ∷ ys)) (laid_process f n i (x ∷ y ∷ ys))
    (map (moved f) (x ∷ y ∷ ys))))) e
    ∙ ap (λ (b : Bool). row a (cond b (laid_process f n i (x ∷ y ∷ ys)) (map (moved f) (x ∷ y ∷ ys)))) g
    ∙ ap (λ (b : ℕ). (a, x) ∷ (b, name_word n i) ∷ row (suc b) (map (moved f) ys)) (let h : suc a ≡ a + 1 = omega arith in h)
    ∙ ap (λ (w : ℕ). (a, x) ∷ (a + 1, w) ∷ row (suc (a + 1)) (map (moved f) ys)) (name_is n i)
    ∙ ap (λ (b : ℕ). (a, x) ∷ (a + 1, 576460752303423491 + 16 * i + 4294967296 * n) ∷ row b (map (moved f) ys))
    (let h : suc (a + 1) ≡ a + 2 = omega arith in h)

-- three puts in turn
pub put_three : (ws : WordList) (x y : ℕ × ℕ) (zs a b c : WordList) → a ≡ ws ++ x ∷ [] → b ≡ a ++ y ∷ [] → c ≡ b ++ zs
    → c ≡ ws ++ x ∷ y ∷ zs
put_three ws x y zs a b c e f g =
    g ∙ ap (λ (l : WordList). l ++ zs) (f ∙ ap (λ (l : WordList). l ++ y ∷ []) e)
    ∙ append_assoc (ws ++ x ∷ []) (y ∷ []) zs ∙ append_assoc ws (x ∷ []) (y ∷ zs)

-- what is left of a list after its first two
pub after_two : (p : List ℕ) → take (length p - 2) (drop 2 p) ≡ drop 2 p
after_two p = take_all (length p - 2) (drop 2 p) (let e = length-drop 2 p in omega (arith, e))
