-- Which places that are written are new.
use Rattle.std.proofs.Common.{◌≡◌, ◌⊎◌, ℕ, ◌+◌, ◌*◌, ◌/◌, ◌<◌, ◌≤◌, true, false, List, [], ◌∷◌, ◌++◌, true≢false}
use Rattle.std.proofs.Common.{length, drop, get_or, Option, Some, None, refl, sym, ap, ◌∙◌, subst, ⊎_elim, inl, inr}
use Rattle.std.specs.Prelude.{◌↔◌, not}
use Rattle.std.proofs.lemmas.List.{at_drop_more, at_drop_all}
use Rattle.std.proofs.lemmas.Bool.{leb-true, le-leb, not-true}
use Rattle.std.proofs.lemmas.Option.{same_Some}
use Rattle.heap_words.specs.Cells.{decoded, is_final_word}
use Rattle.heap_words.specs.Trails.{WordList, word_at, AreOnce}
use Rattle.heap_words.specs.declared.cell.Cell.{Cell}
use Rattle.heap_words.specs.declared.cell.Cell.TheVariants.{Top}
use Rattle.word_states.specs.Words.{Among, IsIn}
use Rattle.word_states.proofs.Lists.{among_word, word_among}
use Rattle.stored_tries.proofs.Lists.{once_word}
use Rattle.page_layout.specs.declared.written.Written.{Written}
use Rattle.page_layout.specs.Writing.{written}
use Rattle.commit_engine.specs.Holding.{IsOpen, IsNew, ArePlaced}
use Rattle.commit_engine.specs.Making.{is_above_top, PutsPlace}

none_among : (reads : WordList) (a x : ℕ) → word_at reads a ≡ None → Among reads (a, x) → ⊥
none_among reads a x e h = let r = among_word reads a x h in let k : None ≡ Some r.0 = sym e ∙ r.1 in cc

-- the word that is kept for an address tells whether it is open
pub open_word : (reads : WordList) (a x : ℕ) → AreOnce reads → word_at reads a ≡ Some x → (not (is_final_word x) ≡ true) ↔ IsOpen reads a
open_word reads a x once e = (
  λ f. (x, word_among reads a x e, not-true (is_final_word x) f),
  λ o. let h : o.0 ≡ x = same_Some o.0 x (sym (once_word reads once a o.0 o.1) ∙ e) in
      ap not (subst (λ (y : ℕ). is_final_word y ≡ false) h o.2),
)

pub no_open : (reads : WordList) (a : ℕ) → word_at reads a ≡ None → (false ≡ true) ↔ IsOpen reads a
no_open reads a e = (λ f. absurd (true≢false (sym f)), λ o. absurd (none_among reads a o.0 e o.1))

-- and the one kept for the top of its page whether it is new
top_said : (o : Option Cell) (a : ℕ) → is_above_top o a ≡ true → (t : ℕ) × (o ≡ Some (Top t)) × (t ≤ a)
top_said (Some (Top t)) a f = (t, refl, leb-true t a f)
top_said _ a f = absurd (true≢false (sym f))

pub new_word : (reads : WordList) (a x : ℕ) → AreOnce reads → word_at reads (1024 * (a / 1024)) ≡ Some x
    → (is_above_top (decoded x) a ≡ true) ↔ IsNew reads a
new_word reads a x once e = (
  λ f. let s = top_said (decoded x) a f in (x, s.0, word_among reads (1024 * (a / 1024)) x e, s.1, s.2),
  λ n. let h : n.0 ≡ x = same_Some n.0 x (sym (once_word reads once (1024 * (a / 1024)) n.0 n.2) ∙ e) in
      ap (λ (o : Option Cell). is_above_top o a) (ap decoded (sym h) ∙ n.3) ∙ le-leb n.1 a n.4,
)

pub no_new : (reads : WordList) (a : ℕ) → word_at reads (1024 * (a / 1024)) ≡ None → (false ≡ true) ↔ IsNew reads a
no_new reads a e = (λ f. absurd (true≢false (sym f)), λ n. absurd (none_among reads (1024 * (a / 1024)) n.0 e n.2))

pub in_left : (p : ℕ) (xs ys : List ℕ) → IsIn p xs → IsIn p (xs ++ ys)
in_left p [] ys h = absurd h
in_left p (x ∷ xs) ys (inl e) = inl e
in_left p (x ∷ xs) ys (inr h) = inr (in_left p xs ys h)

pub in_right : (p : ℕ) (xs ys : List ℕ) → IsIn p ys → IsIn p (xs ++ ys)
in_right p [] ys h = h
in_right p (x ∷ xs) ys h = inr (in_right p xs ys h)

pub in_either : (p : ℕ) (xs ys : List ℕ) → IsIn p (xs ++ ys) → IsIn p xs ⊎ IsIn p ys
in_either p [] ys h = inr h
in_either p (x ∷ xs) ys (inl e) = inl (inl e)
in_either p (x ∷ xs) ys (inr h) = ⊎_elim (λ (t : IsIn p xs). inl (inr t)) (λ (t : IsIn p ys). inr t) (in_either p xs ys h)

-- a place that was read is not put
pub puts_none : (reads : WordList) (a : ℕ) (old new : List ℕ) → IsOpen reads a → new ≡ old → PutsPlace reads a old new
puts_none reads a old new h e = record {
  here = inl h;
  still = λ b i. subst (λ (k : List ℕ). IsIn b k) (sym e) i;
  above = λ b i. inl (subst (λ (k : List ℕ). IsIn b k) e i);
}

-- a new one is
pub puts_new : (reads : WordList) (a : ℕ) (old new : List ℕ) → IsNew reads a → new ≡ old ++ a ∷ [] → PutsPlace reads a old new
puts_new reads a old new h e = record {
  here = inr (subst (λ (k : List ℕ). IsIn a k) (sym e) (in_right a old (a ∷ []) (inl refl)));
  still = λ b i. subst (λ (k : List ℕ). IsIn b k) (sym e) (in_left b old (a ∷ []) i);
  above = λ b i.
      ⊎_elim (λ (k : IsIn b old). inl k)
      (λ (k : (a ≡ b) ⊎ ⊥). ⊎_elim (λ (m : a ≡ b). inr (subst (IsNew reads) m h)) (λ (m : ⊥). absurd m) k)
      (in_either b old (a ∷ []) (subst (λ (k : List ℕ). IsIn b k) e i));
}

-- the places up to the writes that are left
pub record PlacedBefore (reads : WordList) (writes left : List Written) (places : List ℕ) : Type 0 where
  pub each : (n a x : ℕ) → Among (written n writes) (a, x) → (IsOpen reads a ⊎ IsIn a places) ⊎ Among (written n left) (a, x)
  pub above : (a : ℕ) → IsIn a places → IsNew reads a

pub placed_none : (reads : WordList) (writes left : List Written) (places : List ℕ) → left ≡ writes → places ≡ []
    → PlacedBefore reads writes left places
placed_none reads writes left places e f = record {
  each = λ n a x h. inr (subst (λ (k : List Written). Among (written n k) (a, x)) (sym e) h);
  above = λ a i. absurd (subst (λ (k : List ℕ). IsIn a k) f i);
}

pub placed_more : (reads : WordList) (writes : List Written) (i : ℕ) (r : Written) (old new : List ℕ) → i < length writes
    → r ≡ get_or writes i r → PlacedBefore reads writes (drop i writes) old → PutsPlace reads r.addr old new
    → PlacedBefore reads writes (drop (i + 1) writes) new
placed_more reads writes i r old new lt e b p = record {
  each = λ n a x h.
      ⊎_elim (λ (k : IsOpen reads a ⊎ IsIn a old). inl (still a k))
      (λ (k : Among (written n (drop i writes)) (a, x)). first n a x
      (subst (λ (s : Written). Among (written n (s ∷ drop (i + 1) writes)) (a, x)) (sym e)
      (subst (λ (m : List Written). Among (written n m) (a, x)) (at_drop_more (λ (m : List Written). m) writes i r lt) k)))
      (b.each n a x h);
  above = λ a k. ⊎_elim (λ (m : IsIn a old). b.above a m) (λ (m : IsNew reads a). m) (p.above a k);
}
  where
    still : (a : ℕ) → IsOpen reads a ⊎ IsIn a old → IsOpen reads a ⊎ IsIn a new
    still a (inl k) = inl k
    still a (inr k) = inr (p.still a k)

    first : (n a x : ℕ) → Among (written n (r ∷ drop (i + 1) writes)) (a, x)
        → (IsOpen reads a ⊎ IsIn a new) ⊎ Among (written n (drop (i + 1) writes)) (a, x)
    first n a x (inl m) = inl (subst (λ (c : ℕ). IsOpen reads c ⊎ IsIn c new) (ap (λ (z : ℕ × ℕ). z.0) m) p.here)
    first n a x (inr m) = inr m

pub placed_all : (reads : WordList) (writes : List Written) (i : ℕ) (places : List ℕ) → length writes ≤ i
    → PlacedBefore reads writes (drop i writes) places → ArePlaced reads writes places
placed_all reads writes i places le b = record {
  each = λ n a x h.
      ⊎_elim (λ (k : IsOpen reads a ⊎ IsIn a places). k)
      (λ (k : Among (written n (drop i writes)) (a, x)).
      absurd (subst (λ (m : List Written). Among (written n m) (a, x)) (at_drop_all (λ (m : List Written). m) writes i le) k))
      (b.each n a x h);
  above = b.above;
}
