-- A slot that has taken a constant.
use Rattle.std.proofs.Common.{◌≡◌, ℕ, ◌+◌, ◌*◌, ◌<◌, ◌≤◌, Bool, true, false, cond, ℤ, pos, negsuc, ◌+ℤ◌, ◌*ℤ◌, ◌-ℤ◌}
use Rattle.std.proofs.Common.{List, [], ◌∷◌, Option, Some, None, refl, sym, ap, ◌∙◌, subst, inl, arith}
use Rattle.std.specs.Prelude.{nat_lt}
use Rattle.std.proofs.lemmas.Int.{ints}
use Rattle.std.proofs.lemmas.Bool.Decides.{nat_tests}
use Rattle.word_states.specs.Numbers.{bits, low_bits, IsLong}
use Rattle.machine_code.specs.Reading as reading
use Rattle.machine_code.specs.Reading.{constant}
use Rattle.fcp_model.specs.Terms.{number}
use Rattle.heap_words.specs.Cells.{decoded, encoded}
use Rattle.heap_words.specs.declared.cell.Cell.{Cell}
use Rattle.heap_words.specs.declared.cell.Cell.TheVariants as cell
use Rattle.word_states.specs.Words.{Words}
use Rattle.word_states.specs.Denoting.{Addresses, Denotes}
use Rattle.ro_unify.specs.Alike.{wide_of}
use Rattle.trial_laws.specs.AtHand.{end_of}
use Rattle.trial_laws.specs.Laws.{filled, holding}
use Rattle.trial_laws.specs.NewPieces.{next_piece, with_piece}
use Rattle.try_desk.specs.Desks.{Becomes}
use Rattle.try_desk.specs.declared.desk.Desk.{Desk}
use Rattle.try_desk.specs.Constants.{IsLow, TakesConstant, short, long, plain_word}

low_same : (low : ℤ) → IsLow low → reading.low_bits low ≡ pos (low_bits low)
low_same (pos n) h = refl
low_same (negsuc n) h = omega (arith, ints, h)

low_below : (low : ℤ) → IsLow low → low_bits low < 0x100000000000000
low_below (pos n) h = omega (arith, ints, h)
low_below (negsuc n) h = omega (arith, ints, h)

-- the bits of a negative number
bits_below : (z : ℤ) (b : ℕ) → z +ℤ pos 0x10000000000000000 ≡ pos b → b < 0x10000000000000000 → bits z ≡ b
bits_below (pos n) b e h = omega (arith, ints, e, h)
bits_below (negsuc n) b e h = omega (arith, ints, e, h)

joined : (high low : ℕ) → high < 256 → low < 0x100000000000000 → bits
    ((cond (nat_lt high 128) (pos high) (pos high -ℤ pos 256) *ℤ pos 0x100000000000000) +ℤ pos low) ≡ high * 0x100000000000000 + low
joined high low h l = go (nat_lt high 128) refl
  where
    go : (b : Bool) → nat_lt high 128 ≡ b → bits ((cond b (pos high) (pos high -ℤ pos 256) *ℤ pos 0x100000000000000) +ℤ pos low)
        ≡ high * 0x100000000000000 + low
    go true k = refl
    go false k =
        let g : 128 ≤ high = grind (arith, nat_tests) in
        bits_below (((pos high -ℤ pos 256) *ℤ pos 0x100000000000000) +ℤ pos low) (high * 0x100000000000000 + low)
        (omega (arith, ints, g, h, l)) (omega (arith, h, l))

-- the upper eight bits and the lower 56 are all 64
pub wide_bits : (low : ℤ) (high : ℕ) → high < 256 → IsLow low → bits (reading.wide low high) ≡ high * 0x100000000000000 + low_bits low
wide_bits low high h l =
    ap (λ (z : ℤ). bits ((cond (nat_lt high 128) (pos high) (pos high -ℤ pos 256) *ℤ pos 0x100000000000000) +ℤ z)) (low_same low l)
    ∙ joined high (low_bits low) h (low_below low l)

-- a short number
pub number_taken : (old new : Desk) (i x : ℕ) (y z : ℤ) → decoded x ≡ Some (cell.Small y) → y ≡ z → Becomes old new (λ r. filled r i x)
    → TakesConstant old new i (number z)
number_taken old new i x y z e k b = short x (λ u us. inl (e ∙ ap (λ (n : ℤ). Some (cell.Small n)) k)) b

-- and a long one, by the word of its lower bits
pub long_taken : (old new : Desk) (i x high : ℕ) (low l z y : ℤ) → high < 256 → IsLow low → reading.wide low high ≡ z → y ≡ z → IsLong y
    → decoded x ≡ Some (cell.Small l) → l ≡ low → end_of 4000000000 old.pieces + 1 ≤ 4294967296
    → Becomes old new (λ r. holding (with_piece r (x ∷ [])) i (encoded (cell.Wide (next_piece r) high)) false)
    → TakesConstant old new i (number z)
long_taken old new i x high low l z y h few is same e d k room b =
    long z low x high refl (d ∙ ap (λ (n : ℤ). Some (cell.Small n)) k) (ap bits (sym is) ∙ wide_bits low high h few)
    (subst IsLong same e) h room b

-- a word without lower bits elsewhere denotes its constant
plain_says : (smalls : List ℕ) (x : ℕ) (o : Option Cell) → decoded x ≡ o → wide_of o ≡ None → (u : Words) (us : Addresses)
    → Denotes u us (plain_word x o) (constant smalls o)
unfolding decoded
plain_says smalls x (Some (cell.Small z)) e n u us = inl e
plain_says smalls x (Some (cell.Wide at high)) e n u us = cc
plain_says smalls x (Some (cell.Str s)) e n u us = e
plain_says smalls x None e n u us = refl
plain_says smalls x (Some (cell.Unbound a)) e n u us = refl
plain_says smalls x (Some (cell.Ref a)) e n u us = refl
plain_says smalls x (Some (cell.RoRef a)) e n u us = refl
plain_says smalls x (Some cell.Nil) e n u us = refl
plain_says smalls x (Some (cell.Cons a)) e n u us = refl
plain_says smalls x (Some (cell.Tuple a)) e n u us = refl
plain_says smalls x (Some (cell.Status d)) e n u us = refl
plain_says smalls x (Some (cell.Raw a)) e n u us = refl
plain_says smalls x (Some (cell.Top a)) e n u us = refl

pub plain_taken : (old new : Desk) (i x : ℕ) (smalls : List ℕ) → wide_of (decoded x) ≡ None
    → Becomes old new (λ r. filled r i (plain_word x (decoded x))) → TakesConstant old new i (constant smalls (decoded x))
plain_taken old new i x smalls n b = short (plain_word x (decoded x)) (plain_says smalls x (decoded x) refl n) b
