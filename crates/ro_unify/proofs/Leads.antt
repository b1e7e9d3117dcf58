-- What words lead to is known.
use Rattle.std.proofs.Common.{◌≡◌, ℕ, zero, suc, Fits, w32, ◌+◌, ◌-◌, ◌<◌, ◌≤◌, Bool, true, false, cond, List, [], ◌∷◌, ◌++◌}
use Rattle.std.proofs.Common.{Option, Some, None, refl, sym, ap, ◌∙◌, subst, arith, inl, inr, ⊎_elim, add-one}
use Rattle.std.specs.Prelude.{◌⊎◌}
use Rattle.heap_words.specs.Cells.{encoded, decoded, is_final_in}
use Rattle.heap_words.specs.WordsLaws.{WordsLaws}
use Rattle.heap_words.specs.Refers.{Refers, Reaches, parts}
use Rattle.heap_words.specs.declared.cell.Cell.{Cell}
use Rattle.heap_words.specs.declared.cell.Cell.TheVariants.{Unbound, Ref, RoRef, Small, Wide, Str, Nil, Cons, Tuple, Status, Raw, Top}
use Rattle.heap_words.proofs.Encodings.{decoded_encoded}
use Rattle.ro_unify.specs.Occurs.{whole_of, count_of, Each, stack}
use Rattle.ro_unify.specs.Alike.{Both, wide_of}
use Rattle.ro_unify.proofs.Stacks.{Each-more, each_pushed}
use Rattle.ro_unify.specs.declared.occurrence.Whole.TheVariants as whole
use Rattle.ro_unify.specs.Value.{place_step, open_at, is_unbound, leads_on, look_word, StepLeads}
use Rattle.ro_unify.specs.declared.look.Step.TheVariants.{End, On}

-- a cell that stands for a place
pub record StandsFor (o : Option Cell) (a : ℕ) : Type 0 where
  pub cell : Cell
  pub is : o ≡ Some cell
  pub final : is_final_in o ≡ true
  pub refers : (b : ℕ) → (b ≡ a) ⊎ (suc b ≡ a) → Refers cell b
  pub reaches : (b : ℕ) → b ≡ a → Reaches cell b

pub place_stands : (o : Option Cell) (only still : Bool) (a : ℕ) → leads_on only o ≡ Some (still, a) → StandsFor o a
place_stands (Some (Ref b)) only still a e =
    record {
      cell = Ref b;
      is = refl;
      final = refl;
      refers = λ d r. subst (λ (z : ℕ). (d ≡ z) ⊎ (suc d ≡ z)) (sym (ap second e)) r;
      reaches = λ d r. r ∙ sym (ap second e);
    } where
      second : Option (Bool × ℕ) → ℕ
      second None = b
      second (Some p) = p.1
place_stands (Some (RoRef b)) only still a e =
    record {
      cell = RoRef b;
      is = refl;
      final = refl;
      refers = λ d r. subst (λ (z : ℕ). (d ≡ z) ⊎ (suc d ≡ z)) (sym (ap second e)) r;
      reaches = λ d r. r ∙ sym (ap second e);
    } where
      second : Option (Bool × ℕ) → ℕ
      second None = b
      second (Some p) = p.1
place_stands None only still a e = cc
place_stands (Some (Unbound k)) only still a e = cc
place_stands (Some (Small z)) only still a e = cc
place_stands (Some (Wide b h)) only still a e = cc
place_stands (Some (Str s)) only still a e = cc
place_stands (Some Nil) only still a e = cc
place_stands (Some (Cons b)) only still a e = cc
place_stands (Some (Tuple b)) only still a e = cc
place_stands (Some (Status d)) only still a e = cc
place_stands (Some (Raw k)) only still a e = cc
place_stands (Some (Top b)) only still a e = cc

-- the cell of a pair, of a tuple, of a count
pub is_pair : (o : Option Cell) (a : ℕ) → whole_of o ≡ whole.Pair a → o ≡ Some (Cons a)
is_pair (Some (Cons b)) a e = cc
is_pair None a e = cc
is_pair (Some (Unbound k)) a e = cc
is_pair (Some (Ref b)) a e = cc
is_pair (Some (RoRef b)) a e = cc
is_pair (Some (Small z)) a e = cc
is_pair (Some (Wide b h)) a e = cc
is_pair (Some (Str s)) a e = cc
is_pair (Some Nil) a e = cc
is_pair (Some (Tuple b)) a e = cc
is_pair (Some (Status d)) a e = cc
is_pair (Some (Raw k)) a e = cc
is_pair (Some (Top b)) a e = cc

pub is_tuple_at : (o : Option Cell) (a : ℕ) → whole_of o ≡ whole.Tuple a → o ≡ Some (Tuple a)
is_tuple_at (Some (Tuple b)) a e = cc
is_tuple_at None a e = cc
is_tuple_at (Some (Unbound k)) a e = cc
is_tuple_at (Some (Ref b)) a e = cc
is_tuple_at (Some (RoRef b)) a e = cc
is_tuple_at (Some (Small z)) a e = cc
is_tuple_at (Some (Wide b h)) a e = cc
is_tuple_at (Some (Str s)) a e = cc
is_tuple_at (Some Nil) a e = cc
is_tuple_at (Some (Cons b)) a e = cc
is_tuple_at (Some (Status d)) a e = cc
is_tuple_at (Some (Raw k)) a e = cc
is_tuple_at (Some (Top b)) a e = cc

pub is_raw : (o : Option Cell) → 0 < count_of o → (k : ℕ) × (o ≡ Some (Raw k)) × (count_of o ≡ parts k)
is_raw (Some (Raw k)) h = (k, refl, refl)
is_raw None h = absurd (omega arith)
is_raw (Some (Unbound b)) h = absurd (omega arith)
is_raw (Some (Ref b)) h = absurd (omega arith)
is_raw (Some (RoRef b)) h = absurd (omega arith)
is_raw (Some (Small z)) h = absurd (omega arith)
is_raw (Some (Wide b g)) h = absurd (omega arith)
is_raw (Some (Str s)) h = absurd (omega arith)
is_raw (Some Nil) h = absurd (omega arith)
is_raw (Some (Cons b)) h = absurd (omega arith)
is_raw (Some (Tuple b)) h = absurd (omega arith)
is_raw (Some (Status d)) h = absurd (omega arith)
is_raw (Some (Top b)) h = absurd (omega arith)

pub is_wide : (o : Option Cell) (a h : ℕ) → wide_of o ≡ Some (a, h) → o ≡ Some (Wide a h)
is_wide (Some (Wide b k)) a h e = ap low e
  where
    low : Option (ℕ × ℕ) → Option Cell
    low None = None
    low (Some p) = Some (Wide p.0 p.1)
is_wide None a h e = cc
is_wide (Some (Unbound k)) a h e = cc
is_wide (Some (Ref b)) a h e = cc
is_wide (Some (RoRef b)) a h e = cc
is_wide (Some (Small z)) a h e = cc
is_wide (Some (Str s)) a h e = cc
is_wide (Some Nil) a h e = cc
is_wide (Some (Cons b)) a h e = cc
is_wide (Some (Tuple b)) a h e = cc
is_wide (Some (Status d)) a h e = cc
is_wide (Some (Raw k)) a h e = cc
is_wide (Some (Top b)) a h e = cc

module _ {S : Type 0} {addresses : S → ℕ} {sound : S → Type 0} {knows : S → ℕ → Type 0} {had : S → ℕ → ℕ → Type 0} {leads : S → ℕ → Type 0}
    {own shown : S → ℕ → Option ℕ} {later : S → S → Type 0} {gave : S → S → ℕ → ℕ → Type 0}
    (laws : WordsLaws {S = S} addresses sound knows had leads own shown later gave) where
  in_words : (w : S) (a : ℕ) → sound w → knows w a → a < 0x100000000
  in_words w a s k = omega (arith, laws.in_range w a s k, laws.few w s)

  -- the place of a word is known, and so is its name
  pub place_known : (w : S) (x : ℕ) (only still : Bool) (a b : ℕ) → sound w → leads w x → leads_on only (decoded x) ≡ Some (still, a)
      → (b ≡ a) ⊎ (suc b ≡ a) → knows w b
  place_known w x only still a b so l e r =
      let s = place_stands (decoded x) only still a e in
      laws.reaches w x b s.cell so l s.is (s.refers b r)

  -- a reference to a known place, of either mark
  pub open_leads : (w : S) (only : Bool) (a : ℕ) → sound w → ((b : ℕ) → (b ≡ a) ⊎ (suc b ≡ a) → knows w b)
      → leads w (look_word (open_at only a))
  open_leads w true a s k =
      laws.plain w (encoded (RoRef a)) (RoRef a) s (decoded_encoded (RoRef a) (in_words w a s (k a (inl refl)))) refl (λ b r. r) k
  open_leads w false a s k =
      laws.plain w (encoded (Ref a)) (Ref a) s (decoded_encoded (Ref a) (in_words w a s (k a (inl refl)))) refl (λ b r. r) k

  pub step_leads : (w : S) (only : Bool) (a x : ℕ) → sound w → ((b : ℕ) → (b ≡ a) ⊎ (suc b ≡ a) → knows w b) → leads w x
      → StepLeads (leads w) (place_step only a x)
  step_leads w only a x s k l = go (is_unbound (decoded x))
    where
      go : (t : Bool) → StepLeads (leads w) (cond t (End (open_at only a)) (On only x))
      go true = open_leads w only a s k
      go false = l

  pub pair_known : (w : S) (x a b : ℕ) → sound w → leads w x → whole_of (decoded x) ≡ whole.Pair a → (b ≡ a) ⊎ (b ≡ a + 1) → knows w b
  pair_known w x a b so l e r =
      laws.reaches w x b (Cons a) so l (is_pair (decoded x) a e) (⊎_elim (λ i. inl i) (λ i. inr (i ∙ add-one a)) r)

  pub tuple_known : (w : S) (x a : ℕ) → sound w → leads w x → whole_of (decoded x) ≡ whole.Tuple a → knows w a
  tuple_known w x a so l e = laws.reaches w x a (Tuple a) so l (is_tuple_at (decoded x) a e) refl

  pub parts_known : (w : S) (x y a b : ℕ) → sound w → leads w x → whole_of (decoded x) ≡ whole.Tuple a → had w a y → a < b
      → b ≤ a + count_of (decoded y) → knows w b
  parts_known w x y a b so l e h lo hi =
      let k = is_raw (decoded y) (omega arith) in
      laws.reaches_by w x a y k.0 b (Tuple a) so l (is_tuple_at (decoded x) a e) refl h k.1 (lo, omega (arith, k.2))

  pub each_stays : (v w : S) (xs : List ℕ) → later v w → Each (leads v) xs → Each (leads w) xs
  each_stays v w xs l h = Each-more (leads v) (leads w) xs (λ x i. laws.stays_leading v w x l i) h

  -- a word that was loaded is pushed
  pub push_leads : (v w : S) (a x : ℕ) (old new : List ℕ) → sound w → later v w → had w a x → new ≡ old ++ x ∷ []
      → Each (leads v) (stack old) → Each (leads w) (stack new)
  push_leads v w a x old new so l h e i = each_pushed (leads w) old new x e (laws.had_leads w a x so h) (each_stays v w (stack old) l i)

  pub name_known : (w : S) (a : ℕ) → sound w → Fits w32 a → leads w (encoded (Ref a)) → knows w (a - 1)
  name_known w a so f l = laws.reaches w (encoded (Ref a)) (a - 1) (Ref a) so l (decoded_encoded (Ref a) f.fits) (back a)
    where
      back : (a : ℕ) → (a - 1 ≡ a) ⊎ (suc (a - 1) ≡ a)
      back zero = inl refl
      back (suc n) = inr (omega arith)

  pub wide_known : (w : S) (x a h : ℕ) → sound w → leads w x → wide_of (decoded x) ≡ Some (a, h) → knows w a
  wide_known w x a h so l e = laws.reaches w x a (Wide a h) so l (is_wide (decoded x) a h e) refl

  pub pairs_stay : (v w : S) (xs : List (ℕ × ℕ)) → later v w → Each (Both (leads v)) xs → Each (Both (leads w)) xs
  pairs_stay v w xs l h =
      Each-more (Both (leads v)) (Both (leads w)) xs (λ p i. (laws.stays_leading v w p.0 l i.0, laws.stays_leading v w p.1 l i.1)) h

  pub push_two_leads : (v w : S) (a b : ℕ) (p : ℕ × ℕ) (old new : List (ℕ × ℕ)) → sound w → later v w → (had w a p.0) × (had w b p.1)
      → new ≡ old ++ p ∷ [] → Each (Both (leads v)) (stack old) → Each (Both (leads w)) (stack new)
  push_two_leads v w a b p old new so l h e i =
      each_pushed (Both (leads w)) old new p e (laws.had_leads w a p.0 so h.0, laws.had_leads w b p.1 so h.1)
      (pairs_stay v w (stack old) l i)
