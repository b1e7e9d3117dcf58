-- Two words with numbers are the same where the numbers are.
use Rattle.std.proofs.Common.{◌≡◌, ℕ, ◌+◌, ◌*◌, ◌<◌, Bool, true, false, ℤ, pos, negsuc}
use Rattle.std.proofs.Common.{Option, Some, refl, sym, ap, ap₂, ◌∙◌, subst, arith}
use Rattle.std.specs.Prelude.{nat_eq, ◌&&◌, ◌≤ℤ◌}
use Rattle.std.specs.Ordering.{int_eq}
use Rattle.std.proofs.lemmas.Bool.{eqb-true, eq-eqb, and_parts, and_from}
use Rattle.std.proofs.lemmas.Bool.Decides.{Decides-int_eq}
use Rattle.std.proofs.lemmas.Int.{ints}
use Rattle.heap_words.specs.Cells.{decoded}
use Rattle.heap_words.specs.Trails.{Memory}
use Rattle.heap_words.specs.declared.cell.Cell.{Cell}
use Rattle.heap_words.specs.declared.cell.Cell.TheVariants as cell
use Rattle.heap_words.proofs.Encodings.{encoded_decoded}
use Rattle.ro_unify.specs.Alike.{same_atoms, same_wides, wide_of}
use Rattle.word_states.specs.Numbers.{bits, low_bits, IsLong}
use Rattle.word_states.proofs.OneTerm.{bits_apart}
use Rattle.unify_terms.specs.Denotes.{NumberIn, IsNumber}

-- words of two cells differ, and a cell has one word
pub differ : (x y : ℕ) (c d : Cell) → decoded x ≡ Some c → decoded y ≡ Some d → (c ≡ d → ⊥) → nat_eq x y ≡ false
differ x y c d e f n = go (nat_eq x y) refl
  where
    go : (t : Bool) → nat_eq x y ≡ t → nat_eq x y ≡ false
    go false i = i
    go true i = absurd (n (let h : Some c ≡ Some d = sym e ∙ (ap decoded (eqb-true x y i) ∙ f) in cc))

pub one_word : (x y : ℕ) (c : Cell) → decoded x ≡ Some c → decoded y ≡ Some c → x ≡ y
one_word x y c e f = sym (encoded_decoded x c e).1 ∙ (encoded_decoded y c f).1

-- the range of small numbers
abbrev IsShort : ℤ → Type 0
IsShort z = (negsuc 0x7fffffffffffff ≤ℤ z) × (z ≤ℤ pos 0x7fffffffffffff)

short_or_long : (z : ℤ) → IsShort z → IsLong z → ⊥
short_or_long (pos n) s l = omega (arith, ints, s, l)
short_or_long (negsuc n) s l = omega (arith, ints, s, l)

-- bits tell numbers apart
low_below : (z : ℤ) → IsShort z → low_bits z < 0x100000000000000
low_below (pos n) s = omega (arith, ints, s)
low_below (negsuc n) s = omega (arith, ints, s)

low_apart : (y z : ℤ) → IsShort y → IsShort z → low_bits y ≡ low_bits z → y ≡ z
low_apart (pos n) (pos k) s t e = ap pos e
low_apart (pos n) (negsuc k) s t e = absurd (omega (arith, ints, s, t, e))
low_apart (negsuc n) (pos k) s t e = absurd (omega (arith, ints, s, t, e))
low_apart (negsuc n) (negsuc k) s t e = ap negsuc (omega (arith, ints, s, t, e))

upper_same : (h k a b : ℕ) → a < 0x100000000000000 → b < 0x100000000000000 → h * 0x100000000000000 + a ≡ k * 0x100000000000000 + b
    → (h ≡ k) × (a ≡ b)
upper_same h k a b i j e = (omega arith, omega arith)

-- an answer that is yes exactly for one number is theirs
number_test : (y z : ℤ) (b : Bool) → (y ≡ z → b ≡ true) → (b ≡ true → y ≡ z) → b ≡ int_eq y z
number_test y z b f g = go b (int_eq y z) refl refl
  where
    go : (s t : Bool) → b ≡ s → int_eq y z ≡ t → b ≡ int_eq y z
    go true true i j = i ∙ sym j
    go false false i j = i ∙ sym j
    go true false i j = absurd (let h : int_eq y z ≡ true = (Decides-int_eq y z).1 (g i) in let k : true ≡ false = sym h ∙ j in cc)
    go false true i j = absurd (let h : b ≡ true = f ((Decides-int_eq y z).0 j) in let k : true ≡ false = sym h ∙ i in cc)

small_of : (y z : ℤ) → cell.Small y ≡ cell.Small z → y ≡ z
small_of y z e = cc

short_word : (x : ℕ) (y : ℤ) → decoded x ≡ Some (cell.Small y) → IsShort y
short_word x y e = (encoded_decoded x (cell.Small y) e).0

module _ (m : Memory) (y z : ℤ) (v w : ℕ) where
  two_small : (a b : ℤ) → decoded v ≡ Some (cell.Small a) → decoded w ≡ Some (cell.Small b) → a ≡ y → b ≡ z → same_atoms m v w ≡ int_eq y z
  two_small a b d e f g =
      ap (λ (o : Option (ℕ × ℕ)). same_wides m v w o (wide_of (decoded w))) (ap wide_of d)
      ∙ number_test y z (nat_eq v w)
      (λ i. eq-eqb v w (one_word v w (cell.Small a) d (e ∙ ap (λ (c : ℤ). Some (cell.Small c)) (g ∙ (sym i ∙ sym f)))))
      (λ i. let h : Some (cell.Small a) ≡ Some (cell.Small b) = sym d ∙
      (ap decoded (eqb-true v w i) ∙ e) in let k : cell.Small a ≡ cell.Small b = cc in sym f ∙ (small_of a b k ∙ g))

  -- a small number and a long one
  small_long : (a : ℤ) (b h : ℕ) → decoded v ≡ Some (cell.Small a) → decoded w ≡ Some (cell.Wide b h) → a ≡ y → IsLong z
      → same_atoms m v w ≡ int_eq y z
  small_long a b h d e f l =
      ap (λ (o : Option (ℕ × ℕ)). same_wides m v w o (wide_of (decoded w))) (ap wide_of d)
      ∙ number_test y z (nat_eq v w)
      (λ i. absurd (short_or_long z (subst IsShort (f ∙ i) (short_word v a d)) l))
      (λ i. absurd (let k : true ≡ false = sym i ∙ differ v w (cell.Small a) (cell.Wide b h) d e (λ j. cc) in cc))

  long_small : (a : ℤ) (b h : ℕ) → decoded v ≡ Some (cell.Wide b h) → decoded w ≡ Some (cell.Small a) → a ≡ z → IsLong y
      → same_atoms m v w ≡ int_eq y z
  long_small a b h d e f l =
      ap₂ (same_wides m v w) (ap wide_of d) (ap wide_of e)
      ∙ number_test y z (nat_eq v w)
      (λ i. absurd (short_or_long y (subst IsShort (f ∙ sym i) (short_word w a e)) l))
      (λ i. absurd (let k : true ≡ false = sym i ∙ differ v w (cell.Wide b h) (cell.Small a) d e (λ j. cc) in cc))

  -- two long ones, by their bits
  two_long : (a h b k : ℕ) (low low' : ℤ) → decoded v ≡ Some (cell.Wide a h) → decoded w ≡ Some (cell.Wide b k)
      → decoded (m a) ≡ Some (cell.Small low) → decoded (m b) ≡ Some (cell.Small low')
      → bits y ≡ h * 0x100000000000000 + low_bits low → bits z ≡ k * 0x100000000000000 + low_bits low' → IsLong y → IsLong z
      → same_atoms m v w ≡ int_eq y z
  two_long a h b k low low' d e f g i j l l' =
      ap₂ (same_wides m v w) (ap wide_of d) (ap wide_of e) ∙ number_test y z (nat_eq h k && nat_eq (m a) (m b)) same other
    where
      same : y ≡ z → (nat_eq h k && nat_eq (m a) (m b)) ≡ true
      same q =
          let u =
          upper_same h k (low_bits low) (low_bits low') (low_below low (short_word (m a) low f))
          (low_below low' (short_word (m b) low' g)) (sym i ∙ (ap bits q ∙ j)) in
          let r : low ≡ low' = low_apart low low' (short_word (m a) low f) (short_word (m b) low' g) u.1 in
          and_from (nat_eq h k) (nat_eq (m a) (m b)) (eq-eqb h k u.0)
          (eq-eqb (m a) (m b) (one_word (m a) (m b) (cell.Small low) f (g ∙ ap (λ (c : ℤ). Some (cell.Small c)) (sym r))))

      other : (nat_eq h k && nat_eq (m a) (m b)) ≡ true → y ≡ z
      other q =
          let u = and_parts (nat_eq h k) (nat_eq (m a) (m b)) q in
          let n : Some (cell.Small low) ≡ Some (cell.Small low') = sym f ∙ (ap decoded (eqb-true (m a) (m b) u.1) ∙ g) in
          let c : cell.Small low ≡ cell.Small low' = cc in
          bits_apart y z l l' (i ∙
          (ap₂ (λ (s : ℕ) (t : ℤ). s * 0x100000000000000 + low_bits t) (eqb-true h k u.0) (small_of low low' c) ∙ sym j))

  pub same_numbers : IsNumber m y v → IsNumber m z w → same_atoms m v w ≡ int_eq y z
  same_numbers p q = go p.0 q.0 p.1 q.1 p.2 q.2
    where
      go : (c d : Cell) → decoded v ≡ Some c → decoded w ≡ Some d → NumberIn m c y → NumberIn m d z → same_atoms m v w ≡ int_eq y z
      go (cell.Small a) (cell.Small b) e f n o = two_small a b e f n o
      go (cell.Small a) (cell.Wide b h) e f n o = small_long a b h e f n o.3
      go (cell.Wide b h) (cell.Small a) e f n o = long_small a b h e f o n.3
      go (cell.Wide a h) (cell.Wide b k) e f n o = two_long a h b k n.0 o.0 e f n.1 o.1 n.2 o.2 n.3 o.3
      go (cell.Unbound r) d e f n o = absurd n
      go (cell.Ref r) d e f n o = absurd n
      go (cell.RoRef r) d e f n o = absurd n
      go (cell.Str r) d e f n o = absurd n
      go cell.Nil d e f n o = absurd n
      go (cell.Cons r) d e f n o = absurd n
      go (cell.Tuple r) d e f n o = absurd n
      go (cell.Status r) d e f n o = absurd n
      go (cell.Raw r) d e f n o = absurd n
      go (cell.Top r) d e f n o = absurd n
      go (cell.Small a) (cell.Unbound r) e f n o = absurd o
      go (cell.Small a) (cell.Ref r) e f n o = absurd o
      go (cell.Small a) (cell.RoRef r) e f n o = absurd o
      go (cell.Small a) (cell.Str r) e f n o = absurd o
      go (cell.Small a) cell.Nil e f n o = absurd o
      go (cell.Small a) (cell.Cons r) e f n o = absurd o
      go (cell.Small a) (cell.Tuple r) e f n o = absurd o
      go (cell.Small a) (cell.Status r) e f n o = absurd o
      go (cell.Small a) (cell.Raw r) e f n o = absurd o
      go (cell.Small a) (cell.Top r) e f n o = absurd o
      go (cell.Wide a h) (cell.Unbound r) e f n o = absurd o
      go (cell.Wide a h) (cell.Ref r) e f n o = absurd o
      go (cell.Wide a h) (cell.RoRef r) e f n o = absurd o
      go (cell.Wide a h) (cell.Str r) e f n o = absurd o
      go (cell.Wide a h) cell.Nil e f n o = absurd o
      go (cell.Wide a h) (cell.Cons r) e f n o = absurd o
      go (cell.Wide a h) (cell.Tuple r) e f n o = absurd o
      go (cell.Wide a h) (cell.Status r) e f n o = absurd o
      go (cell.Wide a h) (cell.Raw r) e f n o = absurd o
      go (cell.Wide a h) (cell.Top r) e f n o = absurd o
