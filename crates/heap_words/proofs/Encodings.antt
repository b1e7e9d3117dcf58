-- Cells and words are one to one.
use Rattle.std.proofs.Common.{◌≡◌, ℕ, ◌+◌, ◌-◌, ◌*◌, ◌/◌, ◌%◌, ◌<◌, ℤ, pos, negsuc, Bool, true, false}
use Rattle.std.proofs.Common.{cond, Option, Some, None, refl, sym, ap, ◌∙◌, subst, arith}
use Rattle.std.specs.Prelude.{nat_eq, nat_lt, ◌≤ℤ◌, option_map}
use Rattle.std.proofs.lemmas.Int.{ints}
use Rattle.std.proofs.lemmas.Bool.{ltb-true, eqb-true, eqb-false}
use Rattle.std.proofs.lemmas.Bool.Decides.{nat_tests}
use Rattle.std.proofs.lemmas.Option.{cond_some}
use Rattle.heap_words.specs.Cells.{encoded, tag, says, IsCell, decoded, cell_of, plain_of, stand_of, raised, lowered}
use Rattle.heap_words.specs.declared.cell.Cell.{Cell}
use Rattle.heap_words.specs.declared.cell.Cell.TheVariants.{Unbound, Ref, RoRef, Small, Wide, Str, Nil, Cons, Tuple, Status, Raw, Top}
use Rattle.heap_words.specs.declared.cell.Stand.TheVariants.{Ready, Waiting, Done}

raised_below : (z : ℤ) → negsuc 0x7fffffffffffff ≤ℤ z → z ≤ℤ pos 0x7fffffffffffff → raised z < 0x100000000000000
raised_below (pos n) l h = omega (arith, ints)
raised_below (negsuc n) l h = omega (arith, ints)

lowered_raised : (z : ℤ) → negsuc 0x7fffffffffffff ≤ℤ z → z ≤ℤ pos 0x7fffffffffffff → lowered (raised z) ≡ z
lowered_raised (pos n) l h = omega (arith, ints)
lowered_raised (negsuc n) l h = omega (arith, ints)

below_true : (x m : ℕ) (o : Option Cell) → x < m → cond (nat_lt x m) o None ≡ o
below_true x m o h = grind (arith, nat_tests)

small_back : (z : ℤ) → negsuc 0x7fffffffffffff ≤ℤ z → z ≤ℤ pos 0x7fffffffffffff → cell_of 3 (raised z) ≡ Some (Small z)
small_back z l h =
    below_true (raised z) 0x100000000000000 (Some (Small (lowered (raised z)))) (raised_below z l h) ∙ ap (λ x. Some (Small x))
    (lowered_raised z l h)

cell_of_says : (c : Cell) → IsCell c → cell_of (tag c) (says c) ≡ Some c
cell_of_says (Unbound n) i = below_true n _ _ i
cell_of_says (Ref n) i = below_true n _ _ i
cell_of_says (RoRef n) i = below_true n _ _ i
cell_of_says (Small z) i = small_back z i.0 i.1
cell_of_says (Wide a h) i = grind (arith, nat_tests)
cell_of_says (Str n) i = below_true n.0 _ _ i
cell_of_says Nil i = refl
cell_of_says (Cons n) i = below_true n _ _ i
cell_of_says (Tuple n) i = below_true n _ _ i
cell_of_says (Status Ready) i = refl
cell_of_says (Status Done) i = refl
cell_of_says (Status (Waiting n)) i = grind (arith, nat_tests)
cell_of_says (Raw n) i = below_true n _ _ i
cell_of_says (Top n) i = below_true n _ _ i

tag_below : (c : Cell) → tag c < 16
tag_below (Unbound n) = omega arith
tag_below (Ref n) = omega arith
tag_below (RoRef n) = omega arith
tag_below (Small z) = omega arith
tag_below (Wide a h) = omega arith
tag_below (Str n) = omega arith
tag_below Nil = omega arith
tag_below (Cons n) = omega arith
tag_below (Tuple n) = omega arith
tag_below (Status d) = omega arith
tag_below (Raw n) = omega arith
tag_below (Top n) = omega arith

tag_back : (x t : ℕ) → t < 16 → (16 * x + t) % 16 ≡ t
tag_back x t h = omega arith

says_back : (x t : ℕ) → t < 16 → (16 * x + t) / 16 ≡ x
says_back x t h = omega arith

-- the word of a cell has the cell
pub decoded_encoded : (c : Cell) → IsCell c → decoded (encoded c) ≡ Some c
unfolding decoded
decoded_encoded c i =
    ap (λ t. cell_of t ((16 * says c + tag c) / 16)) (tag_back (says c) (tag c) (tag_below c)) ∙
    (ap (cell_of (tag c)) (says_back (says c) (tag c) (tag_below c)) ∙ cell_of_says c i)

-- what a cell of a word says
record Says (t x : ℕ) (c : Cell) : Type 0 where
  fits : IsCell c
  tags : tag c ≡ t
  said : says c ≡ x

below : (x m : ℕ) (o : Option Cell) (c : Cell) → cond (nat_lt x m) o None ≡ Some c → (x < m) × (o ≡ Some c)
below x m o c e = go (nat_lt x m) refl e
  where
    go : (b : Bool) → nat_lt x m ≡ b → cond b o None ≡ Some c → (x < m) × (o ≡ Some c)
    go true i f = (ltb-true x m i, f)
    go false i f = cc

plain : (t x : ℕ) (d c : Cell) → IsCell d → tag d ≡ t → says d ≡ x → Some d ≡ Some c → Says t x c
plain t x d c i j k e = let h : d ≡ c = cc in subst (Says t x) h (record { fits = i; tags = j; said = k })

raised_lowered : (x : ℕ) → x < 0x100000000000000 → raised (lowered x) ≡ x
raised_lowered x h = grind (arith, ints)

lowered_above : (x : ℕ) → negsuc 0x7fffffffffffff ≤ℤ lowered x
lowered_above x = omega (arith, ints)

lowered_below : (x : ℕ) → x < 0x100000000000000 → lowered x ≤ℤ pos 0x7fffffffffffff
lowered_below x h = omega (arith, ints)

wide_fits : (x : ℕ) → x < 0x10000000000 → (x % 0x100000000 < 0x100000000) × (x / 0x100000000 < 256)
wide_fits x h = (omega arith, omega arith)

wide_back : (x : ℕ) → x / 0x100000000 * 0x100000000 + x % 0x100000000 ≡ x
wide_back x = omega arith

waiting_fits : (x : ℕ) → x < 0x100000002 → x - 2 < 0x100000000
waiting_fits x h = omega arith

waiting_back : (x : ℕ) → (x ≡ 0 → ⊥) → (x ≡ 1 → ⊥) → 2 + (x - 2) ≡ x
waiting_back x h i = omega arith

stand_says : (x : ℕ) (c : Cell) → option_map Status (stand_of x) ≡ Some c → Says 9 x c
stand_says x c e = go (nat_eq x 0) (nat_eq x 1) (nat_lt x 0x100000002) refl refl refl e
  where
    go : (i j k : Bool) → nat_eq x 0 ≡ i → nat_eq x 1 ≡ j → nat_lt x 0x100000002 ≡ k
        → option_map Status (cond i (Some Ready) (cond j (Some Done) (cond k (Some (Waiting (x - 2))) None))) ≡ Some c → Says 9 x c
    go true j k d f g h = plain 9 x (Status Ready) c tt refl (sym (eqb-true x 0 d)) h
    go false true k d f g h = plain 9 x (Status Done) c tt refl (sym (eqb-true x 1 f)) h
    go false false true d f g h =
        plain 9 x (Status (Waiting (x - 2))) c (waiting_fits x (ltb-true x 0x100000002 g)) refl
        (waiting_back x (eqb-false x 0 d) (eqb-false x 1 f)) h
    go false false false d f g h = cc

-- a test of a tag decides
pick : (t k : ℕ) (o p : Option Cell) (c : Cell) (G : Type 0) → cond (nat_eq t k) o p ≡ Some c → (k ≡ t → o ≡ Some c → G) → (p ≡ Some c → G)
    → G
pick t k o p c G e f g = go (nat_eq t k) refl e
  where
    go : (b : Bool) → nat_eq t k ≡ b → cond b o p ≡ Some c → G
    go true i h = f (sym (eqb-true t k i)) h
    go false i h = g h

plain_says : (t x : ℕ) (c : Cell) → x < 0x100000000 → plain_of t x ≡ Some c → Says t x c
plain_says t x c b e =
    pick t 0 _ _ c (Says t x c) e (λ i f. plain t x (Unbound x) c b i refl f) (λ e.
    pick t 1 _ _ c (Says t x c) e (λ i f. plain t x (Ref x) c b i refl f) (λ e.
    pick t 2 _ _ c (Says t x c) e (λ i f. plain t x (RoRef x) c b i refl f) (λ e.
    pick t 5 _ _ c (Says t x c) e (λ i f. plain t x (Str (record { 0 = x })) c b i refl f) (λ e.
    pick t 7 _ _ c (Says t x c) e (λ i f. plain t x (Cons x) c b i refl f) (λ e.
    pick t 8 _ _ c (Says t x c) e (λ i f. plain t x (Tuple x) c b i refl f) (λ e.
    pick t 10 _ _ c (Says t x c) e (λ i f. plain t x (Raw x) c b i refl f) (λ e.
    pick t 11 _ _ c (Says t x c) e (λ i f. plain t x (Top x) c b i refl f) (λ e. cc))))))))

says_of : (t x : ℕ) (c : Cell) → cell_of t x ≡ Some c → Says t x c
says_of t x c e =
    pick t 3 _ _ c (Says t x c) e (λ i f.
    let h =
    below x 0x100000000000000 _ c f in plain t x (Small (lowered x)) c (lowered_above x, lowered_below x h.0) i
    (raised_lowered x h.0) h.1) (λ e.
    pick t 4 _ _ c (Says t x c) e (λ i f.
    let h =
    below x 0x10000000000 _ c f in plain t x (Wide (x % 0x100000000) (x / 0x100000000)) c (wide_fits x h.0) i (wide_back x) h.1) (λ e.
    pick t 6 _ _ c (Says t x c) e (λ i f.
    let h = cond_some (nat_eq x 0) Nil c f in plain t x Nil c tt i (sym (eqb-true x 0 h.0)) (ap Some h.1)) (λ e.
    pick t 9 _ _ c (Says t x c) e (λ i f. subst (λ (k : ℕ). Says k x c) i (stand_says x c f)) (λ e.
    let h = below x 0x100000000 _ c e in plain_says t x c h.0 h.1))))

word_back : (w t x : ℕ) → t ≡ w % 16 → x ≡ w / 16 → 16 * x + t ≡ w
word_back w t x h i = omega arith

-- a word that has a cell is the cell's
pub encoded_decoded : (w : ℕ) (c : Cell) → decoded w ≡ Some c → IsCell c × (encoded c ≡ w)
unfolding decoded
encoded_decoded w c e = let s = says_of (w % 16) (w / 16) c e in (s.fits, word_back w (tag c) (says c) s.tags s.said)
