-- The sides of a test: so many steps of a table, over the words of slots.
use Rattle.std.proofs.Common.{◌≡◌, ℕ, zero, suc, ◌+◌, List, [], ◌∷◌, ◌++◌, map, take, drop, Some, slice_get}
use Rattle.std.proofs.Common.{refl, sym, ap, ap₂, ◌∙◌, arith}
use Rattle.std.proofs.lemmas.Option.{same_Some}
use Rattle.heap_words.specs.declared.steps.ExprStep.{ExprStep}
use Rattle.ro_unify.specs.Occurs.{Each}
use Rattle.guard_tests.specs.Evaluation.{OperandLeads}
use Rattle.machine_code.specs.Slots.{Step, push, apply}
use Rattle.machine_code.specs.Reading.{step_of, steps_at}
use Rattle.trial_laws.specs.AtHand.{AtHand, term_word}
use Rattle.trial_tests.specs.Tested.{word_step, word_steps}
use Rattle.try_desk.specs.Held.{Held, held}
use Rattle.trial_machine.specs.declared.machine.Machine.{Machine}
use Rattle.trial_machine.specs.Machines.{at_machine}
use Rattle.trial_machine.specs.Sides.{held_step}

-- one step more of a table
taken_more : (xs : List ExprStep) (at i : ℕ) (t : ExprStep) → slice_get xs (at + i) ≡ Some t
    → take (suc i) (drop at xs) ≡ take i (drop at xs) ++ t ∷ []
taken_more [] at i t e = cc
taken_more (x ∷ xs) zero zero t e = ap (λ (y : ExprStep). y ∷ []) (same_Some x t e)
taken_more (x ∷ xs) zero (suc i) t e =
    let k : zero + suc i ≡ suc i = omega arith in
    let h : i ≡ zero + i = omega arith in
    let f : slice_get (x ∷ xs) (suc i) ≡ Some t = sym (ap (λ (j : ℕ). slice_get (x ∷ xs) j) k) ∙ e in
    let g : slice_get xs (zero + i) ≡ Some t = sym (ap (λ (j : ℕ). slice_get xs j) h) ∙ f in
    ap (λ (ys : List ExprStep). x ∷ ys) (taken_more xs zero i t g)
taken_more (x ∷ xs) (suc at) i t e =
    let k : suc at + i ≡ suc (at + i) = omega arith in
    let f : slice_get (x ∷ xs) (suc (at + i)) ≡ Some t = sym (ap (λ (j : ℕ). slice_get (x ∷ xs) j) k) ∙ e in
    taken_more xs at i t f

mapped_more : {A B : Type 0} (f : A → B) (xs : List A) (x : A) → map f (xs ++ x ∷ []) ≡ map f xs ++ f x ∷ []
mapped_more f [] x = refl
mapped_more f (y ∷ xs) x = ap (λ ys. f y ∷ ys) (mapped_more f xs x)

-- and of the line
pub side_more : (h : Held) (steps : List ExprStep) (at i : ℕ) (t s : ExprStep) (line line' : List ExprStep)
    → line ≡ map (held_step h) (steps_at steps at i) → line' ≡ line ++ s ∷ [] → slice_get steps (at + i) ≡ Some t
    → s ≡ held_step h (step_of t) → line' ≡ map (held_step h) (steps_at steps at (i + 1))
side_more h steps at i t s line line' e f g k =
    let n : suc i ≡ i + 1 = omega arith in
    f ∙ (ap₂ (λ (ys : List ExprStep) (y : ExprStep). ys ++ y ∷ []) e k
    ∙ (sym (mapped_more (held_step h) (steps_at steps at i) (step_of t))
    ∙ (ap (map (held_step h)) (sym (mapped_more step_of (take i (drop at steps)) t))
    ∙ (ap (λ (ts : List ExprStep). map (held_step h) (map step_of ts)) (sym (taken_more steps at i t g))
    ∙ ap (λ (j : ℕ). map (held_step h) (steps_at steps at j)) n))))

-- these are the steps over what is at hand
pub word_side : (m : Machine) (ss : List Step) → map (held_step (held m.desk.slots)) ss ≡ word_steps (at_machine m) ss
word_side m [] = refl
word_side m (push i ∷ ss) = ap (λ (ys : List ExprStep). word_step (at_machine m) (push i) ∷ ys) (word_side m ss)
word_side m (apply o ∷ ss) = ap (λ (ys : List ExprStep). word_step (at_machine m) (apply o) ∷ ys) (word_side m ss)

-- and they lead on where the terms of slots do
pub side_leads : (leads : ℕ → Type 0) (r : AtHand) (ss : List Step) → ((i : ℕ) → leads (term_word r i))
    → Each (OperandLeads leads) (word_steps r ss)
side_leads leads r [] terms = tt
side_leads leads r (push i ∷ ss) terms = (terms i, side_leads leads r ss terms)
side_leads leads r (apply o ∷ ss) terms = (tt, side_leads leads r ss terms)
