-- The number of a word is that of its term.
use Rattle.std.proofs.Common.{◌≡◌, ℕ, ◌+◌, ◌-◌, ◌*◌, ◌<◌, ◌≤◌, ◌≤ℤ◌, Bool, true, false, cond, ℤ, pos, negsuc, ◌+ℤ◌, ◌*ℤ◌}
use Rattle.std.proofs.Common.{Some, refl, sym, ap, ◌∙◌, arith}
use Rattle.std.specs.Prelude.{nat_lt}
use Rattle.std.proofs.lemmas.Int.{ints}
use Rattle.std.proofs.lemmas.Bool.Decides.{nat_tests}
use Rattle.heap_words.specs.Cells.{decoded}
use Rattle.heap_words.specs.Trails.{Memory}
use Rattle.heap_words.specs.declared.cell.Cell.{Cell}
use Rattle.heap_words.specs.declared.cell.Cell.TheVariants as cell
use Rattle.heap_words.proofs.Encodings.{encoded_decoded}
use Rattle.unify_terms.specs.Denotes.{NumberIn, IsNumber}
use Rattle.word_states.specs.Numbers.{bits, low_bits, IsLong}
use Rattle.guard_tests.specs.declared.number.Evaluated.TheVariants.{Value}
use Rattle.guard_tests.specs.Numbers.{signed_byte, wide_number, number_of}

low_below : (low : ℤ) → negsuc 0x7fffffffffffff ≤ℤ low → low ≤ℤ pos 0x7fffffffffffff → low_bits low < 0x100000000000000
low_below (pos n) l u = omega (arith, ints, l, u)
low_below (negsuc n) l u = omega (arith, ints, l, u)

-- the upper eight bits and the lower 56 are all 64
joined_is : (z : ℤ) (high low : ℕ) → high < 256 → low < 0x100000000000000 → bits z ≡ high * 0x100000000000000 + low → IsLong z
    → (signed_byte high *ℤ pos 0x100000000000000) +ℤ pos low ≡ z
joined_is (pos n) high low h l e i = go (nat_lt high 128) refl
  where
    go : (b : Bool) → nat_lt high 128 ≡ b → (cond b (pos high) (negsuc (255 - high)) *ℤ pos 0x100000000000000) +ℤ pos low ≡ pos n
    go true k = ap pos (sym e)
    go false k = absurd (let g : 128 ≤ high = grind (arith, nat_tests) in omega (arith, g, h, e, i))
joined_is (negsuc n) high low h l e i = go (nat_lt high 128) refl
  where
    go : (b : Bool) → nat_lt high 128 ≡ b → (cond b (pos high) (negsuc (255 - high)) *ℤ pos 0x100000000000000) +ℤ pos low ≡ negsuc n
    go true k = absurd (let g : high < 128 = grind (arith, nat_tests) in omega (arith, g, l, e, i))
    go false k = let g : 128 ≤ high = grind (arith, nat_tests) in omega (arith, ints, g, h, l, e, i)

pub number_is : (m : Memory) (z : ℤ) (w : ℕ) → IsNumber m z w → number_of m (decoded w) ≡ Value z
number_is m z w d = go d.0 d.1 d.2
  where
    go : (c : Cell) → decoded w ≡ Some c → NumberIn m c z → number_of m (decoded w) ≡ Value z
    go (cell.Small y) e n = ap (number_of m) e ∙ ap (λ (x : ℤ). Value x) n
    go (cell.Wide a h) e n =
        let cell_is = (encoded_decoded w (cell.Wide a h) e).0 in
        let low_is = (encoded_decoded (m a) (cell.Small n.0) n.1).0 in
        ap (number_of m) e ∙ (ap (wide_number h) n.1 ∙ ap (λ (x : ℤ). Value x)
        (joined_is z h (low_bits n.0) cell_is.1 (low_below n.0 low_is.0 low_is.1) n.2 n.3))
    go (cell.Unbound k) e n = absurd n
    go (cell.Ref a) e n = absurd n
    go (cell.RoRef a) e n = absurd n
    go (cell.Str x) e n = absurd n
    go cell.Nil e n = absurd n
    go (cell.Cons a) e n = absurd n
    go (cell.Tuple a) e n = absurd n
    go (cell.Status d) e n = absurd n
    go (cell.Raw k) e n = absurd n
    go (cell.Top a) e n = absurd n
