-- A pair whose parts go into slots.
use Rattle.std.proofs.Common.{◌≡◌, ℕ, Bool, true, false, cond, Option, Some, None, sym, ap, ap₂, ◌∙◌, subst}
use Rattle.std.specs.Prelude.{nat_eq}
use Rattle.heap_words.specs.Cells.{decoded}
use Rattle.heap_words.specs.declared.cell.Cell.{Cell}
use Rattle.heap_words.specs.declared.cell.Cell.TheVariants as cell
use Rattle.ro_unify.specs.declared.look.Look.{Look}
use Rattle.ro_unify.specs.declared.look.Look.TheVariants as look
use Rattle.ro_unify.specs.declared.occurrence.Whole.TheVariants as whole
use Rattle.ro_unify.specs.Occurs.{whole_of}
use Rattle.ro_unify.specs.Value.{look_word}
use Rattle.trial_laws.specs.Opening.{pair_in, pair_at}
use Rattle.try_desk.specs.Held.{Held, held_term, held_with}

pair_cell : (o : Option Cell) (c : ℕ) → pair_in o ≡ Some c → whole_of o ≡ whole.Pair c
pair_cell (Some (cell.Cons a)) c e = cc
pair_cell None c e = cc
pair_cell (Some (cell.Unbound a)) c e = cc
pair_cell (Some (cell.Ref a)) c e = cc
pair_cell (Some (cell.RoRef a)) c e = cc
pair_cell (Some (cell.Small z)) c e = cc
pair_cell (Some (cell.Wide a h)) c e = cc
pair_cell (Some (cell.Str s)) c e = cc
pair_cell (Some cell.Nil) c e = cc
pair_cell (Some (cell.Tuple a)) c e = cc
pair_cell (Some (cell.Status d)) c e = cc
pair_cell (Some (cell.Raw a)) c e = cc
pair_cell (Some (cell.Top a)) c e = cc

-- the word of a value that is a pair
pub pair_word : (l : Look) (c : ℕ) → pair_at l ≡ Some c → whole_of (decoded (look_word l)) ≡ whole.Pair c
pair_word (look.Solid x) c e = pair_cell (decoded x) c e
pair_word (look.Writable a) c e = cc
pair_word (look.ReadOnly a) c e = cc

-- two slots take the two parts
pub two_held : (h h' h'' : Held) (i j x y a b : ℕ) → h' ≡ held_with h i x false → h'' ≡ held_with h' j y false → a ≡ x → b ≡ y
    → h'' ≡ held_with (held_with h i a false) j b false
two_held h h' h'' i j x y a b e f k l =
    f ∙ (ap (λ (z : Held). held_with z j y false) e
    ∙ ap₂ (λ (p q : ℕ). held_with (held_with h i p false) j q false) (sym k) (sym l))

-- what is so of the words of all slots as terms stays so where a slot takes such a word
pub one_so : (P : ℕ → Type 0) (h h' : Held) (i x : ℕ) → h' ≡ held_with h i x false → P x → ((k : ℕ) → P (held_term h k)) → (k : ℕ)
    → P (held_term h' k)
one_so P h h' i x e p all k = subst (λ (z : Held). P (held_term z k)) (sym e) (go (nat_eq k i))
  where
    go : (b : Bool) → P (cond (cond b false (h.operators k)) 6 (cond b x (h.words k)))
    go true = p
    go false = all k

-- and where two slots take two
pub still_so : (P : ℕ → Type 0) (h h' h'' : Held) (i j x y : ℕ) → h' ≡ held_with h i x false → h'' ≡ held_with h' j y false → P x → P y
    → ((k : ℕ) → P (held_term h k)) → (k : ℕ) → P (held_term h'' k)
still_so P h h' h'' i j x y e f p q all = one_so P h' h'' j y f q (one_so P h h' i x e p all)
