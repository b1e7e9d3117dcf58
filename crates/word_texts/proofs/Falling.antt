-- How much is still to be written: each item that is treated leaves less.
use Rattle.std.proofs.Common.{◌≡◌, ℕ, zero, suc, ◌+◌, ◌-◌, ◌*◌, ◌<◌, ◌≤◌, List, [], ◌∷◌, ◌++◌, Option, Some, None, ap, arith}
use Rattle.std.proofs.lemmas.Bool.Decides.{nat_tests}
use Rattle.heap_words.specs.Cells.{decoded}
use Rattle.heap_words.specs.Trails.{WordList, Memory}
use Rattle.heap_words.specs.declared.cell.Cell.{Cell}
use Rattle.heap_words.specs.declared.cell.Cell.TheVariants as cell
use Rattle.ro_unify.specs.Occurs.{count_of}
use Rattle.fcp_model.specs.Spelling.{Bytes}
use Rattle.word_texts.specs.declared.items.Bracket.TheVariants.{Round, Curly}
use Rattle.word_texts.specs.declared.items.Item.{Item}
use Rattle.word_texts.specs.declared.items.Item.TheVariants.{Term, Rest, Parts, Close}
use Rattle.word_texts.specs.Turns.{part_items, count_at, Opens, round, curly, Turns, cut, leaf, pair, tuple, rest_cut, ends, goes}
use Rattle.word_texts.specs.Turns.{other, none, more, closes, Turned}

-- the steps that an item takes, but for those that nodes pay
abbrev pub weight : Item → ℕ
weight (Term w) = 1
weight (Rest w) = 3
weight (Parts a n) = n + n + 1
weight (Close b) = 1

abbrev pub weights : List Item → ℕ
weights [] = 0
weights (i ∷ is) = weight i + weights is

-- with so many nodes left
abbrev pub work : ℕ → List Item → ℕ
work k is = 200 * k + weights is

weights_append : (is js : List Item) → weights (is ++ js) ≡ weights is + weights js
weights_append [] js = omega arith
weights_append (i ∷ is) js = omega (arith, weights_append is js)

parts_weigh : (m : Memory) (a n : ℕ) → weights (part_items m a n) ≤ n + n
parts_weigh m a zero = omega arith
parts_weigh m a (suc n) = omega arith

few_parts : (o : Option Cell) → count_of o ≤ 65
few_parts None = omega arith
few_parts (Some (cell.Raw n)) = grind (arith, nat_tests)
few_parts (Some (cell.Unbound k)) = omega arith
few_parts (Some (cell.Ref a)) = omega arith
few_parts (Some (cell.RoRef a)) = omega arith
few_parts (Some (cell.Small z)) = omega arith
few_parts (Some (cell.Wide a h)) = omega arith
few_parts (Some (cell.Str s)) = omega arith
few_parts (Some cell.Nil) = omega arith
few_parts (Some (cell.Cons a)) = omega arith
few_parts (Some (cell.Tuple a)) = omega arith
few_parts (Some (cell.Status d)) = omega arith
few_parts (Some (cell.Top a)) = omega arith

module _ (bs : WordList) (m : Memory) (names : List Bytes) where
  opens_weigh : (k a : ℕ) (x : Bytes) (j : ℕ) (is : List Item) → Opens bs m names k a x j is → 200 * j + weights is ≤ 200 * k + 132
  opens_weigh _ _ _ _ _ (round k a s f) =
      omega (
        arith,
        weights_append (part_items m (a + 1) (count_at m a - 1)) (Close Round ∷ []),
        parts_weigh m (a + 1) (count_at m a - 1),
        few_parts (decoded (m a)),
      )
  opens_weigh _ _ _ _ _ (curly k a f) =
      omega (
        arith,
        weights_append (part_items m a (count_at m a)) (Close Curly ∷ []),
        parts_weigh m a (count_at m a),
        few_parts (decoded (m a)),
      )

  -- what an item comes to is less than it
  turn_less : (k : ℕ) (i : Item) (x : Bytes) (j : ℕ) (is : List Item) → Turns bs m names k i x j is
      → 200 * j + weights is < 200 * k + weight i
  turn_less _ _ _ _ _ (cut k w e) = omega arith
  turn_less _ _ _ _ _ (leaf k w l p v e) = omega arith
  turn_less _ _ _ _ _ (pair k w a l p v e) = omega arith
  turn_less _ _ _ _ _ (tuple k w a l x j is p v e o) = let h = opens_weigh (k - 1) a x j is o in omega arith
  turn_less _ _ _ _ _ (rest_cut k w e) = omega arith
  turn_less _ _ _ _ _ (ends k w l p v e) = omega arith
  turn_less _ _ _ _ _ (goes k w a l p v e) = omega arith
  turn_less _ _ _ _ _ (other k w l p v e) = omega arith
  turn_less _ _ _ _ _ (none k a n e) = omega arith
  turn_less _ _ _ _ _ (more k a n p) = let h = parts_weigh m a n in omega arith
  turn_less _ _ _ _ _ (closes k b) = omega arith

  pub turned_less : (k : ℕ) (i : Item) (is : List Item) (old : Bytes) (j : ℕ) (is' : List Item) (new : Bytes)
      → Turned bs m names k i is old j is' new → work j is' < work k (i ∷ is)
  turned_less k i is old j is' new t =
      omega (arith, ap weights t.items, weights_append t.first is, turn_less k i t.text j t.first t.turns)
