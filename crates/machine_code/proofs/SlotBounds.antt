-- Slots below a number.
use Rattle.std.proofs.Common.{◌≡◌, ℕ, zero, suc, ◌+◌, ◌<◌, ◌≤◌, List, [], ◌∷◌, length, take, subst, arith}
use Rattle.std.specs.Prelude.{get_or}
use Rattle.machine_code.specs.Each.{Each}
use Rattle.machine_code.proofs.Each.{either_default}

-- a fact of each of some elements, with each number from the one so far on
abbrev pub FromOn : {A : Type 0} → (ℕ → A → Type 0) → ℕ → List A → Type 0
FromOn P n xs = (m : ℕ) → n ≤ m → Each (P m) xs

each_taken : {A : Type 0} (P : A → Type 0) (xs : List A) (i : ℕ) (x : A) → i < length xs → x ≡ get_or xs i x → P x → Each P (take i xs)
    → Each P (take (suc i) xs)
each_taken P [] i x h e p k = tt
each_taken P (y ∷ xs) zero x h e p k = (subst P e p, tt)
each_taken P (y ∷ xs) (suc i) x h e p k = (k.0, each_taken P xs i x (omega (arith, h)) e p k.1)

each_all : {A : Type 0} (P : A → Type 0) (xs : List A) (i : ℕ) → length xs ≤ i → Each P (take i xs) → Each P xs
each_all P [] i h k = tt
each_all P (x ∷ xs) zero h k = absurd (omega (arith, h))
each_all P (x ∷ xs) (suc i) h k = (k.0, each_all P xs i (omega (arith, h)) k.1)

-- one more element, whose fact holds from a number on
pub one_from : {A : Type 0} (P : ℕ → A → Type 0) (xs : List A) (i n n' a : ℕ) (d : A) → i < length xs
    → ((m : ℕ) → a ≤ m → P m (get_or xs i d)) → FromOn P n (take i xs) → n ≤ n' → a ≤ n' → FromOn P n' (take (i + 1) xs)
one_from P xs i n n' a d h p k ln la m le =
    let next : suc i ≡ i + 1 = omega arith in
    subst (λ j. Each (P m) (take j xs)) next
    (each_taken (P m) xs i (get_or xs i d) h (either_default xs i d (get_or xs i d) h) (p m (omega (arith, le, la)))
    (k m (omega (arith, le, ln))))

-- a greater number
pub from_later : {A : Type 0} (P : ℕ → A → Type 0) (xs : List A) (n n' : ℕ) → FromOn P n xs → n ≤ n' → FromOn P n' xs
from_later P xs n n' k ln m le = k m (omega (arith, le, ln))

-- all elements
pub all_from : {A : Type 0} (P : ℕ → A → Type 0) (xs : List A) (i n : ℕ) → FromOn P n (take i xs) → length xs ≤ i → FromOn P n xs
all_from P xs i n k h m le = each_all (P m) xs i h (k m le)
