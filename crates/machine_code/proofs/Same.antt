-- Functions of a number of steps that come to the same answers.
use Rattle.std.proofs.Common.{◌≡◌, ℕ, zero, suc, ◌+◌, Option, Some, None, refl, sym, ap, ◌∙◌, subst, arith}
use Rattle.fcp_model.proofs.MoreSteps.{Refines, Grows, at_least}
use Rattle.machine_code.specs.Machine.{given}

-- an answer, by some number of steps
abbrev pub Comes : {A : Type 0} → (ℕ → Option A) → A → Type 0
Comes f x = (n : ℕ) × (f n ≡ Some x)

-- two functions of a number of steps that come to the same answers
pub record Same {A : Type 0} (f g : ℕ → Option A) : Type 0 where
  pub to : (x : A) → Comes f x → Comes g x
  pub back : (x : A) → Comes g x → Comes f x

pub itself : {A : Type 0} (f : ℕ → Option A) → Same f f
itself f = record { to = λ x c. c; back = λ x c. c }

pub turned : {A : Type 0} (f g : ℕ → Option A) → Same f g → Same g f
turned f g h = record { to = h.back; back = h.to }

pub then_same : {A : Type 0} (f g h : ℕ → Option A) → Same f g → Same g h → Same f h
then_same f g h a b = record { to = λ x c. b.to x (a.to x c); back = λ x c. a.back x (b.back x c) }

-- equal at each number of steps
pub pointwise : {A : Type 0} (f g : ℕ → Option A) → ((n : ℕ) → f n ≡ g n) → Same f g
pointwise f g e = record { to = λ x c. (c.0, sym (e c.0) ∙ c.1); back = λ x c. (c.0, e c.0 ∙ c.1) }

-- one step more
pub one_step : {A : Type 0} (f g : ℕ → Option A) → f zero ≡ None → ((n : ℕ) → f (suc n) ≡ g n) → Same f g
one_step {A} f g z e = record { to = to; back = λ x c. (suc c.0, e c.0 ∙ c.1) }
  where
    at : (x : A) (n : ℕ) → f n ≡ Some x → Comes g x
    at x zero c = let no : ⊥ = cc in absurd no
    at x (suc n) c = (n, sym (e n) ∙ c)

    to : (x : A) → Comes f x → Comes g x
    to x c = at x c.0 c.1

-- answers that grow with the steps are one
pub one_answer : {A : Type 0} (f : ℕ → Option A) → Grows f → (x y : A) → Comes f x → Comes f y → x ≡ y
one_answer f g x y (n, a) (m, b) =
    let a' : f (n + m) ≡ Some x = at_least f g n (n + m) (omega arith) x a in
    let b' : f (n + m) ≡ Some y = at_least f g m (n + m) (omega arith) y b in
    cc

pub given_more : {A B : Type 0} (f g : A → Option B) → ((x : A) → Refines (f x) (g x)) → (o o' : Option A) → Refines o o'
    → Refines (given o f) (given o' g)
given_more f g h None o' i = λ x e. cc
given_more f g h (Some a) o' i = λ x e. rw (i a refl) (h a x e)

pub given_grows : {A B : Type 0} (f : ℕ → Option A) (k : A → ℕ → Option B) → Grows f → ((x : A) → Grows (k x))
    → Grows (λ n. given (f n) (λ x. k x n))
given_grows f k a b n = given_more (λ x. k x n) (λ x. k x (suc n)) (λ x. b x n) (f n) (f (suc n)) (a n)

-- what is done with an answer comes to something: the answer, and that
pub parted : {A B : Type 0} (f : ℕ → Option A) (k : A → ℕ → Option B) (y : B) → Comes (λ n. given (f n) (λ x. k x n)) y
    → (x : A) × Comes f x × Comes (k x) y
parted {A} {B} f k y (n, e) = go (f n) refl e
  where
    go : (o : Option A) → f n ≡ o → given o (λ x. k x n) ≡ Some y → (x : A) × Comes f x × Comes (k x) y
    go None p e = let no : ⊥ = cc in absurd no
    go (Some x) p e = (x, (n, p), (n, e))

pub joint : {A B : Type 0} (f : ℕ → Option A) (k : A → ℕ → Option B) → Grows f → ((x : A) → Grows (k x)) → (x : A) (y : B) → Comes f x
    → Comes (k x) y → Comes (λ n. given (f n) (λ x. k x n)) y
joint f k a b x y (n, c) (m, d) =
    let c' : f (n + m) ≡ Some x = at_least f a n (n + m) (omega arith) x c in
    let d' : k x (n + m) ≡ Some y = at_least (k x) (b x) m (n + m) (omega arith) y d in
    (n + m, ap (λ o. given o (λ x. k x (n + m))) c' ∙ d')

-- the same is done with each answer
pub given_same : {A B : Type 0} (f : ℕ → Option A) (k l : A → ℕ → Option B) → Grows f → ((x : A) → Grows (k x)) → ((x : A) → Grows (l x))
    → ((x : A) → Comes f x → Same (k x) (l x)) → Same (λ n. given (f n) (λ x. k x n)) (λ n. given (f n) (λ x. l x n))
given_same f k l a b c h = record {
  to = λ y d. let p = parted f k y d in joint f l a c p.0 y p.1 ((h p.0 p.1).to y p.2);
  back = λ y d. let p = parted f l y d in joint f k a b p.0 y p.1 ((h p.0 p.1).back y p.2);
}

-- the same with the answers of two functions that come to the same
pub given_left : {A B : Type 0} (f g : ℕ → Option A) (k : A → ℕ → Option B) → Grows f → Grows g → ((x : A) → Grows (k x)) → Same f g
    → Same (λ n. given (f n) (λ x. k x n)) (λ n. given (g n) (λ x. k x n))
given_left f g k a b c h = record {
  to = λ y d. let p = parted f k y d in joint g k b c p.0 y (h.to p.0 p.1) p.2;
  back = λ y d. let p = parted g k y d in joint f k a c p.0 y (h.back p.0 p.1) p.2;
}

-- what is done with an answer that is known
pub given_at : {A B : Type 0} (f : ℕ → Option A) (k : A → ℕ → Option B) → Grows f → ((x : A) → Grows (k x)) → (x : A) → Comes f x
    → Same (λ n. given (f n) (λ x. k x n)) (k x)
given_at f k a b x c = record {
  to = λ y d. let p = parted f k y d in subst (λ z. Comes (k z) y) (one_answer f a p.0 x p.1 c) p.2;
  back = λ y d. joint f k a b x y c d;
}

pub given_given : {A B C : Type 0} (o : Option A) (f : A → Option B) (g : B → Option C)
    → given (given o f) g ≡ given o (λ x. given (f x) g)
given_given None f g = refl
given_given (Some x) f g = refl
