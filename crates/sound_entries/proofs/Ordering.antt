-- Links go on to have an order.
use Rattle.std.proofs.Common.{◌≡◌, ℕ, suc, ◌+◌, ◌<◌, true, refl, sym, ap, ◌∙◌, arith, Option, Some, None}
use Rattle.std.proofs.lemmas.Option.{same_Some}
use Rattle.heap_words.specs.Cells.{decoded, is_final_word, is_final_in}
use Rattle.heap_words.specs.WordsLaws.{Acyclic}
use Rattle.heap_words.specs.declared.cell.Cell.TheVariants.{Cons, Raw}
use Rattle.word_states.specs.Words.{Words}
use Rattle.word_states.specs.Tame.{finals}
use Rattle.sound_entries.proofs.Ranking.{plus, all_plus, plus_here, plus_all, final_parts, parts_final, Ordered}

-- Final words stay, and each link after leads from an old or a new word to a number that stood, after which a final word stood.
module _ (w w' : Words) (size : ℕ) (within : (a x : ℕ) → w a ≡ Some x → a < size) (old : Acyclic (finals w))
    (stays : (a x : ℕ) → w a ≡ Some x → is_final_word x ≡ true → w' a ≡ Some x)
    (link : (a c x y m : ℕ) → w' a ≡ Some x → is_final_word x ≡ true → decoded x ≡ Some (Cons c) → w' c ≡ Some y
    → decoded y ≡ Some (Raw m) → (w c ≡ Some y) × ((z : ℕ) × (w (c + 2) ≡ Some z) × (is_final_word z ≡ true))) where
  -- old links are below all new ones
  abbrev order_in : Option ℕ → ℕ → ℕ
  order_in None a = suc (all_plus old.order size)
  order_in (Some x) a = plus old.order size a

  order_old : (a x : ℕ) → finals w a ≡ Some x → order_in (finals w a) a ≡ plus old.order size a
  order_old a x e = ap (λ (o : Option ℕ). order_in o a) e

  order_new : (a : ℕ) → finals w a ≡ None → order_in (finals w a) a ≡ suc (all_plus old.order size)
  order_new a e = ap (λ (o : Option ℕ). order_in o a) e

  links : (a c x y n : ℕ) → finals w' a ≡ Some x → decoded x ≡ Some (Cons c) → finals w' c ≡ Some y → decoded y ≡ Some (Raw n)
      → order_in (finals w (c + 2)) (c + 2) < order_in (finals w a) a
  links a c x y n e d g h = go (finals w a) refl
    where
      here : (w' a ≡ Some x) × (is_final_word x ≡ true)
      here = final_parts (w' a) x e

      led : (w c ≡ Some y) × ((z : ℕ) × (w (c + 2) ≡ Some z) × (is_final_word z ≡ true))
      led = link a c x y n here.0 here.1 d (final_parts (w' c) y g).0 h

      next : finals w (c + 2) ≡ Some led.1.0
      next = parts_final (w (c + 2)) led.1.0 led.1.1 led.1.2

      number : finals w c ≡ Some y
      number = parts_final (w c) y led.0 (ap is_final_in h)

      go : (o : Option ℕ) → finals w a ≡ o → order_in (finals w (c + 2)) (c + 2) < order_in (finals w a) a
      go None i = omega (arith, order_old (c + 2) led.1.0 next, order_new a i, plus_all old.order size (c + 2))
      go (Some u) i =
          let was = final_parts (w a) u i in
          let same : u ≡ x = same_Some u x (sym (stays a u was.0 was.1) ∙ here.0) in
          let l : old.order (c + 2) < old.order a = old.links a c x y n (i ∙ ap Some same) d number h in
          omega (
            arith,
            order_old (c + 2) led.1.0 next,
            order_old a u i,
            l,
            plus_here old.order size a (within a u was.0),
            plus_here old.order size (c + 2) (within (c + 2) led.1.0 led.1.1),
          )

  pub ordered : Ordered w'
  ordered = record { order = λ a. order_in (finals w a) a; links = links }
