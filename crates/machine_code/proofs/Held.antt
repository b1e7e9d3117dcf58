-- What slots hold.
use Rattle.std.proofs.Common.{◌≡◌, ℕ, suc, ◌+◌, ◌<◌, ◌≤◌, cond, refl, ap, ◌∙◌, arith}
use Rattle.std.proofs.lemmas.Bool.{eq-eqb, ne_eqb}
use Rattle.fcp_model.specs.Places.{Variable}
use Rattle.fcp_model.specs.Terms.{Terms, none, more}
use Rattle.fcp_model.specs.Expressions.{Expr, leaf}
use Rattle.machine_code.specs.Slots.{Slots, hold, hold_all}
use Rattle.machine_code.specs.Machine.{count}

pub hold_here : (σ : Slots) (i : ℕ) (x : Expr Variable) → hold σ i x i ≡ x
hold_here σ i x = ap (λ b. cond b x (σ i)) (eq-eqb i i refl)

pub hold_other : (σ : Slots) (i j : ℕ) (x : Expr Variable) → (j ≡ i → ⊥) → hold σ i x j ≡ σ j
hold_other σ i j x h = ap (λ b. cond b x (σ j)) (ne_eqb j i h)

-- the slots from i on hold the parts
abbrev pub HoldAll : Slots → ℕ → Terms Variable → Type 0
HoldAll σ i none = Unit {0}
HoldAll σ i (more t ts) = (σ i ≡ leaf t) × HoldAll σ (suc i) ts

pub all_other : (ts : Terms Variable) (σ : Slots) (i j : ℕ) → j < i → hold_all σ i ts j ≡ σ j
all_other none σ i j h = refl
all_other (more t ts) σ i j h =
    all_other ts (hold σ i (leaf t)) (suc i) j (omega (arith, h)) ∙ hold_other σ i j (leaf t) (λ e. omega (arith, h, e))

pub all_held : (ts : Terms Variable) (σ : Slots) (i : ℕ) → HoldAll (hold_all σ i ts) i ts
all_held none σ i = tt
all_held (more t ts) σ i =
    (all_other ts (hold σ i (leaf t)) (suc i) i (omega arith) ∙ hold_here σ i (leaf t), all_held ts (hold σ i (leaf t)) (suc i))

-- the same in other slots
pub held_on : (ts : Terms Variable) (σ σ' : Slots) (i n : ℕ) → i + count ts ≤ n → ((j : ℕ) → j < n → σ' j ≡ σ j) → HoldAll σ i ts
    → HoldAll σ' i ts
held_on none σ σ' i n h k a = tt
held_on (more t ts) σ σ' i n h k a = (k i (omega (arith, h)) ∙ a.0, held_on ts σ σ' (suc i) n (omega (arith, h)) k a.1)
