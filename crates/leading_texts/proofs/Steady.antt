-- Texts that come from some number of steps on, one after another.
use Rattle.std.proofs.Common.{◌≡◌, ℕ, zero, suc, ◌+◌, ◌≤◌, Option, Some, None, refl, ap, ◌∙◌, arith}
use Rattle.fcp_model.specs.Spelling.{Bytes}
use Rattle.fcp_model.specs.TermText.{Written, behind, before, and_then}
use Rattle.leading_laws.proofs.Answers.{Stays}

-- the same answer
pub stays_same : {A : Type 0} (f g : ℕ → Option A) (x : A) → ((m : ℕ) → f m ≡ g m) → Stays g x → Stays f x
stays_same f g x e (n, h) = (n, λ m l. e m ∙ h m l)

-- an answer that comes a step later
pub stays_next : {A : Type 0} (f g : ℕ → Option A) (x : A) → ((m : ℕ) → f (suc m) ≡ g m) → Stays g x → Stays f x
stays_next f g x e (n, h) = (suc n, go)
  where
    go : (m : ℕ) → suc n ≤ m → f m ≡ Some x
    go zero l = absurd (omega arith)
    go (suc m) l = e m ∙ h m (omega arith)

-- an answer that needs one step
pub stays_soon : {A : Type 0} (f : ℕ → Option A) (x : A) → ((m : ℕ) → f (suc m) ≡ Some x) → Stays f x
stays_soon f x e = (1, go)
  where
    go : (m : ℕ) → 1 ≤ m → f m ≡ Some x
    go zero l = absurd (omega arith)
    go (suc m) l = e m

-- an answer that stands at once
pub stays_now : {A : Type 0} (f : ℕ → Option A) (x : A) → ((m : ℕ) → f m ≡ Some x) → Stays f x
stays_now f x e = (0, λ m l. e m)

-- an answer by another one
pub stays_by : {A B : Type 0} (f : ℕ → Option A) (g : ℕ → Option A → Option B) (x : A) (y : B) → Stays f x
    → Stays (λ m. g m (Some x)) y → Stays (λ m. g m (f m)) y
stays_by f g x y (n, e) (k, h) = (n + k, λ m l. ap (g m) (e m (omega arith)) ∙ h m (omega arith))

-- what stands behind a text, and before one
behind_from : (bs : Bytes) (o : Option Written) (w : Written) → behind bs o ≡ Some w → (v : Written) × (o ≡ Some v) × (behind bs (Some v) ≡ Some w)
behind_from bs None w e = cc
behind_from bs (Some v) w e = (v, refl, e)

before_from : (bs : Bytes) (o : Option Written) (w : Written) → before bs o ≡ Some w → (v : Written) × (o ≡ Some v) × (before bs (Some v) ≡ Some w)
before_from bs None w e = cc
before_from bs (Some v) w e = (v, refl, e)

then_from : (o : Option Written) (next : ℕ → Option Written) (w : Written) → and_then o next ≡ Some w
    → (v z : Written) × (o ≡ Some v) × (next v.left ≡ Some z) × (behind v.text (Some z) ≡ Some w)
then_from None next w e = cc
then_from (Some v) next w e = let r = behind_from v.text (next v.left) w e in (v, r.0, refl, r.1, r.2)

-- where the text within comes, so does the whole
pub behind_stays : (bs : Bytes) (o : Option Written) (f : ℕ → Option Written) (w : Written) → behind bs o ≡ Some w
    → ((v : Written) → o ≡ Some v → Stays f v) → Stays (λ m. behind bs (f m)) w
behind_stays bs o f w e h =
    let r = behind_from bs o w e in
    let k = h r.0 r.1 in (k.0, λ m l. ap (behind bs) (k.1 m l) ∙ r.2)

pub before_stays : (bs : Bytes) (o : Option Written) (f : ℕ → Option Written) (w : Written) → before bs o ≡ Some w
    → ((v : Written) → o ≡ Some v → Stays f v) → Stays (λ m. before bs (f m)) w
before_stays bs o f w e h =
    let r = before_from bs o w e in
    let k = h r.0 r.1 in (k.0, λ m l. ap (before bs) (k.1 m l) ∙ r.2)

pub then_stays : (o : Option Written) (next : ℕ → Option Written) (f : ℕ → Option Written) (g : ℕ → ℕ → Option Written) (w : Written)
    → and_then o next ≡ Some w → ((v : Written) → o ≡ Some v → Stays f v)
    → ((left : ℕ) (z : Written) → next left ≡ Some z → Stays (λ m. g m left) z) → Stays (λ m. and_then (f m) (g m)) w
then_stays o next f g w e h i =
    let r = then_from o next w e in
    let k = h r.0 r.2 in
    let j = i r.0.left r.1 r.3 in
    (k.0 + j.0, λ m l. ap (λ p. and_then p (g m)) (k.1 m (omega arith)) ∙ ap (behind r.0.text) (j.1 m (omega arith)) ∙ r.4)
