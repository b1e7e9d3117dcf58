-- Answers by some number of steps.
use Rattle.std.proofs.Common.{◌≡◌, ℕ, zero, suc, ◌+◌, ◌≤◌, Option, Some, ◌∙◌, arith}
use Rattle.fcp_model.proofs.MoreSteps.{Grows, at_least}

-- x is the answer, by some number of steps
abbrev pub Answers : {A : Type 0} → (ℕ → Option A) → A → Type 0
Answers f x = (n : ℕ) × (f n ≡ Some x)

-- two answers by one number of steps
pub both_answer : {A B : Type 0} (f : ℕ → Option A) (g : ℕ → Option B) (x : A) (y : B) → Grows f → Grows g → Answers f x → Answers g y
    → (n : ℕ) × (f n ≡ Some x) × (g n ≡ Some y)
both_answer f g x y more more' (n, e) (m, i) =
    (n + m, at_least f more n (n + m) (omega arith) x e, at_least g more' m (n + m) (omega arith) y i)

-- three answers by one number of steps
pub three_answer : {A B C : Type 0} (f : ℕ → Option A) (g : ℕ → Option B) (h : ℕ → Option C) (x : A) (y : B) (z : C) → Grows f → Grows g
    → Grows h → Answers f x → Answers g y → Answers h z → (n : ℕ) × (f n ≡ Some x) × (g n ≡ Some y) × (h n ≡ Some z)
three_answer f g h x y z more more' more'' (n, e) (m, i) (k, j) =
    let l = n + m + k in (
      l,
      at_least f more n l (omega arith) x e,
      at_least g more' m l (omega arith) y i,
      at_least h more'' k l (omega arith) z j,
    )

-- x is the answer from some number of steps on
abbrev pub Stays : {A : Type 0} → (ℕ → Option A) → A → Type 0
Stays f x = (n : ℕ) × ((m : ℕ) → n ≤ m → f m ≡ Some x)

pub stays : {A : Type 0} (f : ℕ → Option A) (x : A) → Grows f → Answers f x → Stays f x
stays f x more (n, e) = (n, λ m l. at_least f more n m l x e)

-- an answer that comes a step later
pub stays_after : {A : Type 0} (f g : ℕ → Option A) (x : A) (n : ℕ) → ((m : ℕ) → n ≤ m → f (suc m) ≡ g m) → Stays g x → Stays f x
stays_after f g x n e (k, i) = (suc (n + k), go)
  where
    go : (m : ℕ) → suc (n + k) ≤ m → f m ≡ Some x
    go zero l = absurd (omega arith)
    go (suc m) l = e m (omega arith) ∙ i m (omega arith)
