-- What is so at one instruction, one step and one procedure of all code.
use Rattle.std.proofs.Common.{◌≡◌, ℕ, zero, suc, ◌+◌, List, [], ◌∷◌, Some, ap, ◌∙◌, subst, arith}
use Rattle.std.specs.Prelude.{slice_get, option_map}
use Rattle.std.proofs.lemmas.Option.{slice_get-map}
use Rattle.heap_words.specs.declared.steps.ExprStep.{ExprStep}
use Rattle.machine_code.specs.declared.instr.Instr.{Instr}
use Rattle.machine_code.specs.Each.{Each}
use Rattle.machine_code.specs.Instructions.{Op}
use Rattle.machine_code.specs.Machine.{Entrance}
use Rattle.machine_code.specs.Reading.{op_of, Fits}
use Rattle.machine_code.specs.Targets.{LeadsBehind, AllLeadBehind}
use Rattle.machine_code.specs.Compiling.{Tables, compiled}
use Rattle.machine_code.specs.Fresh.{no_tops, IsFresh}
use Rattle.machine_code.specs.Sound.{IsFormed, NamesBelow, StepsBelow, IsSound}

-- one element of some that all have a fact
pub each_at : {A : Type 0} (P : A → Type 0) (xs : List A) (i : ℕ) (x : A) → slice_get xs i ≡ Some x → Each P xs → P x
each_at P [] i x e h = let no : ⊥ = cc in absurd no
each_at P (y ∷ ys) zero x e h = let z : y ≡ x = cc in subst P z h.0
each_at P (y ∷ ys) (suc i) x e h = each_at P ys i x e h.1

leads_from : (os : List Op) (n i : ℕ) (o : Op) → slice_get os i ≡ Some o → AllLeadBehind n os → LeadsBehind (n + i) o
leads_from [] n i o e h = let no : ⊥ = cc in absurd no
leads_from (x ∷ xs) n zero o e h =
    let z : x ≡ o = cc in
    let m : n ≡ n + zero = omega arith in
    subst (λ k. LeadsBehind k o) m (subst (LeadsBehind n) z h.0)
leads_from (x ∷ xs) n (suc i) o e h =
    let m : suc n + i ≡ n + suc i = omega arith in
    subst (λ k. LeadsBehind k o) m (leads_from xs (suc n) i o e h.1)

module _ (t : Tables) (s : IsSound t) where
  -- an instruction with what it names
  pub op_at : (at : ℕ) (i : Instr) → slice_get t.instrs at ≡ Some i
      → slice_get (compiled t).ops at ≡ Some (op_of t.smalls t.steps i)
  op_at at i e =
      slice_get-map (op_of t.smalls t.steps) t.instrs at ∙ ap (option_map (op_of t.smalls t.steps)) e

  -- its targets lie after it
  pub leads_at : (at : ℕ) (i : Instr) → slice_get t.instrs at ≡ Some i → LeadsBehind at (op_of t.smalls t.steps i)
  leads_at at i e =
      let z : 0 + at ≡ at = omega arith in
      subst (λ k. LeadsBehind k (op_of t.smalls t.steps i)) z
      (leads_from (compiled t).ops 0 at (op_of t.smalls t.steps i) (op_at at i e) s.behind)

  -- what it names is there
  pub there_at : (at : ℕ) (i : Instr) → slice_get t.instrs at ≡ Some i → Fits t.smalls t.steps i
  there_at at i e = each_at (Fits t.smalls t.steps) t.instrs at i e s.there

  -- a test has the sides of its kind
  pub formed_at : (at : ℕ) (i : Instr) → slice_get t.instrs at ≡ Some i → IsFormed (op_of t.smalls t.steps i)
  formed_at at i e = each_at IsFormed (compiled t).ops at (op_of t.smalls t.steps i) (op_at at i e) s.formed

  -- its slots are below the number of slots, and so are those of steps
  pub slots_at : (at : ℕ) (i : Instr) → slice_get t.instrs at ≡ Some i → NamesBelow t.slots i
  slots_at at i e = each_at (NamesBelow t.slots) t.instrs at i e s.slots

  pub step_at : (at : ℕ) (x : ExprStep) → slice_get t.steps at ≡ Some x → StepsBelow t.slots x
  step_at at x e = each_at (StepsBelow t.slots) t.steps at x e s.step_slots

  -- from a procedure's first instruction on, first occurrences are fresh
  pub fresh_first : (p : ℕ) (e : Entrance) → slice_get t.procedures p ≡ Some e → IsFresh (compiled t).ops e.first no_tops 0
  fresh_first p e h = each_at (λ x. IsFresh (compiled t).ops x.first no_tops 0) t.procedures p e h s.fresh
