-- The words of slots, after one was put and after a new try begins.
use Rattle.std.proofs.Common.{◌≡◌, ℕ, zero, suc, ◌+◌, ◌<◌, ◌≤◌, Bool, true, false, cond, List, [], ◌∷◌, ◌++◌, length, take, refl, sym, ap}
use Rattle.std.proofs.Common.{ap₂}
use Rattle.std.proofs.Common.{◌∙◌, subst, arith}
use Rattle.std.proofs.Common.{true≢false, append_assoc, Option, Some, None}
use Rattle.std.specs.Prelude.{slice_get, slice_set, nat_eq, unwrap_or}
use Rattle.std.proofs.Math.Path.{fun_ext}
use Rattle.std.proofs.lemmas.Bool.{eqb-true, eq-eqb, ne_eqb}
use Rattle.try_desk.specs.declared.slots.Slot.{Slot}
use Rattle.try_desk.specs.Held.{Held, held_word, held_operator, held_by, held_term, held_terms, held_with, held_anew, NoneLater}

get_same : (xs : List Slot) (i : ℕ) (v : Slot) → i < length xs → slice_get (slice_set xs i v) i ≡ Some v
get_same [] i v h = absurd (omega arith)
get_same (x ∷ xs) zero v h = refl
get_same (x ∷ xs) (suc i) v h = get_same xs i v (omega arith)

get_other : (xs : List Slot) (i j : ℕ) (v : Slot) → (j ≡ i → ⊥) → slice_get (slice_set xs i v) j ≡ slice_get xs j
get_other [] i j v h = refl
get_other (x ∷ xs) zero zero v h = absurd (h refl)
get_other (x ∷ xs) zero (suc j) v h = refl
get_other (x ∷ xs) (suc i) zero v h = refl
get_other (x ∷ xs) (suc i) (suc j) v h = get_other xs i j v (λ e. h (ap suc e))

not_same : (i j : ℕ) → nat_eq j i ≡ false → j ≡ i → ⊥
not_same i j e f = true≢false (sym (eq-eqb j i f) ∙ e)

abbrev made : (ℕ → ℕ) → (ℕ → Bool) → Held
made f g = record { words = f; operators = g }

-- a word that is put into a slot
module _ (slots : List Slot) (args : List ℕ) (now i x : ℕ) (o : Bool) (there : i < length slots) where
  abbrev put : Slot
  put = record { word = x; stamp = now; operation = o }

  words_put : (j : ℕ) → held_word (slice_get (slice_set slots i put) j) now (slice_get args j)
      ≡ cond (nat_eq j i) x (held_word (slice_get slots j) now (slice_get args j))
  words_put j = go (nat_eq j i) refl
    where
      go : (b : Bool) → nat_eq j i ≡ b → held_word (slice_get (slice_set slots i put) j) now (slice_get args j)
          ≡ cond b x (held_word (slice_get slots j) now (slice_get args j))
      go true e =
          ap (λ (k : ℕ). held_word (slice_get (slice_set slots i put) k) now (slice_get args j)) (eqb-true j i e)
          ∙ (ap (λ (s : Option Slot). held_word s now (slice_get args j)) (get_same slots i put there)
          ∙ ap (λ (c : Bool). cond c x (unwrap_or (slice_get args j) 6)) (eq-eqb now now refl))
      go false e = ap (λ (s : Option Slot). held_word s now (slice_get args j)) (get_other slots i j put (not_same i j e))

  operators_put : (j : ℕ) → held_operator (slice_get (slice_set slots i put) j) now
      ≡ cond (nat_eq j i) o (held_operator (slice_get slots j) now)
  operators_put j = go (nat_eq j i) refl
    where
      go : (b : Bool) → nat_eq j i ≡ b → held_operator (slice_get (slice_set slots i put) j) now
          ≡ cond b o (held_operator (slice_get slots j) now)
      go true e =
          ap (λ (k : ℕ). held_operator (slice_get (slice_set slots i put) k) now) (eqb-true j i e)
          ∙ (ap (λ (s : Option Slot). held_operator s now) (get_same slots i put there)
          ∙ ap (λ (c : Bool). cond c o false) (eq-eqb now now refl))
      go false e = ap (λ (s : Option Slot). held_operator s now) (get_other slots i j put (not_same i j e))

  pub slot_put : held_by (slice_set slots i (record { word = x; stamp = now; operation = o })) now args
      ≡ held_with (held_by slots now args) i x o
  slot_put =
      ap₂ (λ (f : ℕ → ℕ) (g : ℕ → Bool). made f g) (fun_ext words_put) (fun_ext operators_put)

pub later_put : (slots : List Slot) (now i x : ℕ) (o : Bool) → NoneLater slots now
    → NoneLater (slice_set slots i (record { word = x; stamp = now; operation = o })) now
later_put [] now i x o h = tt
later_put (s ∷ slots) now zero x o h = (omega arith, h.1)
later_put (s ∷ slots) now (suc i) x o h = (h.0, later_put slots now i x o h.1)

-- a later stamp is no slot's
none_now : (slots : List Slot) (now : ℕ) → NoneLater slots now → (i : ℕ) (s : Slot) → slice_get slots i ≡ Some s → s.stamp ≤ now
none_now [] now h i s e = let k : None ≡ Some s = e in cc
none_now (x ∷ slots) now h zero s e = subst (λ (y : Slot). y.stamp ≤ now) (let k : x ≡ s = cc in k) h.0
none_now (x ∷ slots) now h (suc i) s e = none_now slots now h.1 i s e

pub later_more : (slots : List Slot) (now : ℕ) → NoneLater slots now → NoneLater slots (now + 1)
later_more [] now h = tt
later_more (s ∷ slots) now h = (let l = h.0 in omega arith, later_more slots now h.1)

-- with a later stamp the slots hold the arguments
module _ (slots : List Slot) (args : List ℕ) (now : ℕ) (later : NoneLater slots now) where
  words_anew : (i : ℕ) → held_word (slice_get slots i) (now + 1) (slice_get args i) ≡ unwrap_or (slice_get args i) 6
  words_anew i = go (slice_get slots i) refl
    where
      go : (o : Option Slot) → slice_get slots i ≡ o → held_word o (now + 1) (slice_get args i) ≡ unwrap_or (slice_get args i) 6
      go None e = refl
      go (Some s) e =
          ap (λ (c : Bool). cond c s.word (unwrap_or (slice_get args i) 6))
          (ne_eqb s.stamp (now + 1) (λ f. let l = none_now slots now later i s e in omega arith))

  operators_anew : (i : ℕ) → held_operator (slice_get slots i) (now + 1) ≡ false
  operators_anew i = go (slice_get slots i) refl
    where
      go : (o : Option Slot) → slice_get slots i ≡ o → held_operator o (now + 1) ≡ false
      go None e = refl
      go (Some s) e =
          ap (λ (c : Bool). cond c s.operation false)
          (ne_eqb s.stamp (now + 1) (λ f. let l = none_now slots now later i s e in omega arith))

  pub slots_anew : held_by slots (now + 1) args ≡ held_anew args
  slots_anew = ap₂ (λ (f : ℕ → ℕ) (g : ℕ → Bool). made f g) (fun_ext words_anew) (fun_ext operators_anew)

-- slots that are reset one after another
pub reset_one : (slots : List Slot) (i x : ℕ) (o : Bool) → i < length slots → NoneLater (take i slots) 0
    → NoneLater (take (i + 1) (slice_set slots i (record { word = x; stamp = 0; operation = o }))) 0
reset_one slots i x o l h =
    let more : suc i ≡ i + 1 = omega arith in
    subst (λ (n : ℕ). NoneLater (take n (slice_set slots i (record { word = x; stamp = 0; operation = o }))) 0) more (go slots i l h)
  where
    go : (slots : List Slot) (i : ℕ) → i < length slots → NoneLater (take i slots) 0
        → NoneLater (take (suc i) (slice_set slots i (record { word = x; stamp = 0; operation = o }))) 0
    go [] i l h = absurd (omega arith)
    go (s ∷ slots) zero l h = (omega arith, tt)
    go (s ∷ slots) (suc i) l h = (h.0, go slots i (omega arith) h.1)

pub reset_all : (slots : List Slot) (n : ℕ) → length slots ≤ n → NoneLater (take n slots) 0 → NoneLater slots 0
reset_all [] n l h = tt
reset_all (s ∷ slots) zero l h = absurd (omega arith)
reset_all (s ∷ slots) (suc n) l h = (h.0, reset_all slots n (omega arith) h.1)

pub later_last : (slots : List Slot) (s : Slot) (now : ℕ) → NoneLater slots now → s.stamp ≤ now → NoneLater (slots ++ s ∷ []) now
later_last [] s now h l = (l, tt)
later_last (x ∷ slots) s now h l = (h.0, later_last slots s now h.1 l)

-- the terms of one slot more
pub terms_more : (h : Held) (i n : ℕ) → held_terms h i (n + 1) ≡ held_terms h i n ++ held_term h (i + n) ∷ []
terms_more h i n = ap (held_terms h i) (plus n) ∙ last i n
  where
    plus : (n : ℕ) → n + 1 ≡ suc n
    plus n = omega arith

    last : (i n : ℕ) → held_terms h i (suc n) ≡ held_terms h i n ++ held_term h (i + n) ∷ []
    last i zero = ap (λ (k : ℕ). held_term h k ∷ []) (none i)
      where
        none : (i : ℕ) → i ≡ i + 0
        none i = omega arith
    last i (suc n) =
        ap (λ (l : List ℕ). held_term h i ∷ l) (last (suc i) n)
        ∙ ap (λ (k : ℕ). held_term h i ∷ (held_terms h (suc i) n ++ held_term h k ∷ [])) (further i n)
      where
        further : (i n : ℕ) → suc i + n ≡ i + suc n
        further i n = omega arith

pub terms_put : (h : Held) (i n x : ℕ) (old line line' : List ℕ) → line ≡ old ++ held_terms h i n → x ≡ held_term h (i + n)
    → line' ≡ line ++ x ∷ [] → line' ≡ old ++ held_terms h i (n + 1)
terms_put h i n x old line line' e f g =
    g ∙ (ap₂ (λ (l : List ℕ) (y : ℕ). l ++ y ∷ []) e f
    ∙ (append_assoc old (held_terms h i n) (held_term h (i + n) ∷ []) ∙ ap (λ (l : List ℕ). old ++ l) (sym (terms_more h i n))))

-- one slot more, which holds what its number held before
words_last : (slots : List Slot) (i x now : ℕ) (o : Option ℕ) → (i ≡ length slots → x ≡ unwrap_or o 6)
    → held_word (slice_get (slots ++ (record { word = x; stamp = 0; operation = false }) ∷ []) i) now o
    ≡ held_word (slice_get slots i) now o
words_last [] zero x now o h = go (nat_eq 0 now)
  where
    go : (c : Bool) → cond c x (unwrap_or o 6) ≡ unwrap_or o 6
    go true = h refl
    go false = refl
words_last [] (suc i) x now o h = refl
words_last (s ∷ slots) zero x now o h = refl
words_last (s ∷ slots) (suc i) x now o h = words_last slots i x now o (λ e. h (ap suc e))

operators_last : (slots : List Slot) (i x now : ℕ)
    → held_operator (slice_get (slots ++ (record { word = x; stamp = 0; operation = false }) ∷ []) i) now
    ≡ held_operator (slice_get slots i) now
operators_last [] zero x now = go (nat_eq 0 now)
  where
    go : (c : Bool) → cond c false false ≡ false
    go true = refl
    go false = refl
operators_last [] (suc i) x now = refl
operators_last (s ∷ slots) zero x now = refl
operators_last (s ∷ slots) (suc i) x now = operators_last slots i x now

pub slot_last : (slots slots' : List Slot) (now x : ℕ) (args : List ℕ)
    → slots' ≡ slots ++ (record { word = x; stamp = 0; operation = false }) ∷ [] → x ≡ unwrap_or (slice_get args (length slots)) 6
    → held_by slots' now args ≡ held_by slots now args
slot_last slots slots' now x args e is =
    ap (λ (l : List Slot). held_by l now args) e
    ∙ ap₂ (λ (f : ℕ → ℕ) (g : ℕ → Bool). made f g)
    (fun_ext (λ i. words_last slots i x now (slice_get args i) (λ k. is ∙ ap (λ (j : ℕ). unwrap_or (slice_get args j) 6) (sym k))))
    (fun_ext (λ i. operators_last slots i x now))
