-- Answers that come after some number of steps, and then stay.
use Rattle.std.proofs.Common.{◌≡◌, ℕ, zero, suc, ◌+◌, ◌≤◌, Option, Some, refl, ap, ◌∙◌, arith}
use Rattle.fcp_model.proofs.MoreSteps.{Grows, at_least}

-- anything has this property
abbrev pub Any : {A : Type 0} → A → Type 0
Any x = Unit {0}

-- from some number of steps on there is one answer, of which P holds
pub record Settles {A : Type 0} (P : A → Type 0) (f : ℕ → Option A) : Type 0 where
  pub answer : A
  pub holds : P answer
  pub steps : ℕ
  pub is : (n : ℕ) → steps ≤ n → f n ≡ Some answer

-- an answer that needs no step
pub at_once : {A : Type 0} (P : A → Type 0) (x : A) → P x → Settles P (λ n. Some x)
at_once P x h = record { answer = x; holds = h; steps = 0; is = λ n l. refl }

-- an answer that more steps do not change
pub by_growth : {A : Type 0} (P : A → Type 0) (f : ℕ → Option A) → Grows f → (n : ℕ) (x : A) → f n ≡ Some x → P x → Settles P f
by_growth P f g n x e h = record { answer = x; holds = h; steps = n; is = λ m l. at_least f g n m l x e }

-- what is computed from one answer
pub and_then : {A B : Type 0} (P : A → Type 0) (Q : B → Type 0) (f : ℕ → Option A) (h : ℕ → Option A → Option B) → (first : Settles P f)
    → Settles Q (λ n. h n (Some first.answer)) → Settles Q (λ n. h n (f n))
and_then P Q f h first second = record {
  answer = second.answer;
  holds = second.holds;
  steps = first.steps + second.steps;
  is = λ n l. ap (h n) (first.is n (omega arith)) ∙ second.is n (omega arith);
}

-- a function that makes one step before another
pub one_step : {A : Type 0} (P : A → Type 0) (f g : ℕ → Option A) → ((n : ℕ) → f (suc n) ≡ g n) → Settles P g → Settles P f
one_step P f g e after = record { answer = after.answer; holds = after.holds; steps = suc after.steps; is = go }
  where
    go : (n : ℕ) → suc after.steps ≤ n → f n ≡ Some after.answer
    go zero l = absurd (omega arith)
    go (suc n) l = e n ∙ after.is n (omega arith)
