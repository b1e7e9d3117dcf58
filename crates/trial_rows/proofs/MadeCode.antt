-- Code of instructions that may stand so is sound.
use Rattle.std.proofs.Common.{◌≡◌, ℕ, zero, suc, ◌+◌, ◌<◌, ◌≤◌, List, [], ◌∷◌, length, take, Option, Some, None, refl, sym, subst, arith}
use Rattle.std.specs.Prelude.{map, slice_get, get_or}
use Rattle.std.proofs.lemmas.List.{take_all}
use Rattle.heap_words.specs.declared.steps.ExprStep.{ExprStep}
use Rattle.machine_code.specs.declared.code.Procedure.{Procedure}
use Rattle.machine_code.specs.declared.instr.Instr.{Instr}
use Rattle.machine_code.specs.Instructions as ins
use Rattle.machine_code.specs.Instructions.{Op}
use Rattle.machine_code.specs.Each.{Each}
use Rattle.machine_code.specs.Fresh.{Tops, no_tops, FreshAt, FreshFor, IsFresh}
use Rattle.machine_code.specs.Machine.{Entrance}
use Rattle.machine_code.specs.Reading.{op_of, Fits}
use Rattle.machine_code.specs.Compiling.{tables, entrance_of}
use Rattle.machine_code.specs.Sound.{IsFormed, NamesBelow, IsSound}
use Rattle.machine_code.specs.Targets.{AllLeadBehind}
use Rattle.trial_rows.specs.Made.{IsFree, MayStand, MayAllStand}

abbrev ops_of : List Instr → List Op
ops_of is = map (op_of [] []) is

-- one fact of each
all_behind : (at n : ℕ) (is : List Instr) → MayAllStand at n is → AllLeadBehind at (ops_of is)
all_behind at n [] h = tt
all_behind at n (i ∷ is) h = (h.0.behind, all_behind (suc at) n is h.1)

all_there : (at n : ℕ) (is : List Instr) → MayAllStand at n is → Each (Fits [] []) is
all_there at n [] h = tt
all_there at n (i ∷ is) h = (h.0.there, all_there (suc at) n is h.1)

all_below : (at n : ℕ) (is : List Instr) → MayAllStand at n is → Each (NamesBelow n) is
all_below at n [] h = tt
all_below at n (i ∷ is) h = (h.0.slots, all_below (suc at) n is h.1)

all_free : (at n : ℕ) (is : List Instr) → MayAllStand at n is → Each IsFree (ops_of is)
all_free at n [] h = tt
all_free at n (i ∷ is) h = (h.0.free, all_free (suc at) n is h.1)

-- what is no test has no sides
free_formed : (o : Op) → IsFree o → IsFormed o
free_formed (ins.Try k next) h = tt
free_formed (ins.GetFirst i k) h = tt
free_formed (ins.GetCons i left right put) h = tt
free_formed (ins.GetTuple i first parts put) h = tt
free_formed (ins.PutVar i k ro) h = tt
free_formed (ins.PutWord i t) h = tt
free_formed (ins.PutCons i left right) h = tt
free_formed (ins.PutTuple i first parts o) h = tt
free_formed (ins.Unify left right) h = tt
free_formed (ins.Jump to) h = tt
free_formed (ins.Test k left right) h = absurd h
free_formed ins.Otherwise h = tt
free_formed (ins.Spawn p first parts) h = tt
free_formed ins.Commit h = tt

all_formed : (os : List Op) → Each IsFree os → Each IsFormed os
all_formed [] h = tt
all_formed (o ∷ os) h = (free_formed o h.0, all_formed os h.1)

-- an instruction at a position is one of them
free_at : (os : List Op) (at : ℕ) (o : Op) → Each IsFree os → slice_get os at ≡ Some o → IsFree o
free_at [] at o h e = let z : None ≡ Some o = e in cc
free_at (x ∷ os) zero o h e = let z : Some x ≡ Some o = e in let k : x ≡ o = cc in subst IsFree k h.0
free_at (x ∷ os) (suc at) o h e = free_at os at o h.1 e

-- code without first occurrences asks nothing of slots: an instruction, by what is so of all positions
one_fresh : (os : List Op) (n : ℕ) → ((at : ℕ) (τ : Tops) (r : ℕ) → FreshFor os n at τ r) → (at : ℕ) (τ : Tops) (r : ℕ) (o : Op) → IsFree o
    → FreshAt (FreshFor os n) at τ r (Some o)
one_fresh os n go at τ r (ins.Try k next) f = (go (suc at) no_tops 0, λ υ q. go next υ q)
one_fresh os n go at τ r (ins.GetFirst i k) f = absurd f
one_fresh os n go at τ r (ins.GetCons i left right put) f = (go (suc at) _ r, go put τ r)
one_fresh os n go at τ r (ins.GetTuple i first parts put) f = (go (suc at) _ r, go put τ r)
one_fresh os n go at τ r (ins.PutVar i k ro) f = go (suc at) _ r
one_fresh os n go at τ r (ins.PutWord i t) f = go (suc at) _ r
one_fresh os n go at τ r (ins.PutCons i left right) f = go (suc at) _ r
one_fresh os n go at τ r (ins.PutTuple i first parts o) f = go (suc at) _ r
one_fresh os n go at τ r (ins.Unify left right) f = go (suc at) τ _
one_fresh os n go at τ r (ins.Jump to) f = go to τ r
one_fresh os n go at τ r (ins.Test k left right) f = absurd f
one_fresh os n go at τ r ins.Otherwise f = go (suc at) τ r
one_fresh os n go at τ r (ins.Spawn p first parts) f = go (suc at) τ r
one_fresh os n go at τ r ins.Commit f = tt

free_fresh : (os : List Op) → Each IsFree os → (n at : ℕ) (τ : Tops) (r : ℕ) → FreshFor os n at τ r
free_fresh os h zero at τ r = tt
free_fresh os h (suc n) at τ r = by (λ a υ q. free_fresh os h n a υ q) (slice_get os at) refl
  where
    by : ((a : ℕ) (υ : Tops) (q : ℕ) → FreshFor os n a υ q) → (o : Option Op) → slice_get os at ≡ o → FreshAt (FreshFor os n) at τ r o
    by go None e = tt
    by go (Some o) e = one_fresh os n go at τ r o (free_at os at o h e)

all_fresh : (os : List Op) → Each IsFree os → (es : List Entrance) → Each (λ e. IsFresh os e.first no_tops 0) es
all_fresh os h [] = tt
all_fresh os h (e ∷ es) = (λ n. free_fresh os h n e.first no_tops 0, all_fresh os h es)

made_sound : (is : List Instr) (ps : List Procedure) (n : ℕ) → MayAllStand 0 n is → IsSound (tables is [] [] ps n)
made_sound is ps n h = record {
  behind = all_behind 0 n is h;
  there = all_there 0 n is h;
  formed = all_formed (ops_of is) (all_free 0 n is h);
  slots = all_below 0 n is h;
  step_slots = tt;
  fresh = all_fresh (ops_of is) (all_free 0 n is h) (map entrance_of ps);
}

pub code_sound : (is js : List Instr) (ss : List ExprStep) (ks : List ℕ) (ps : List Procedure) (n : ℕ) → js ≡ is → ss ≡ [] → ks ≡ []
    → MayAllStand 0 n is → IsSound (tables js ss ks ps n)
code_sound is js ss ks ps n e f g h =
    subst (λ xs. IsSound (tables xs ss ks ps n)) (sym e) (subst (λ xs. IsSound (tables is xs ks ps n)) (sym f)
    (subst (λ xs. IsSound (tables is [] xs ps n)) (sym g) (made_sound is ps n h)))

-- one more instruction
one_stands : (at n : ℕ) (is : List Instr) (k : ℕ) (i : Instr) → k < length is → MayAllStand at n (take k is)
    → MayStand (at + k) n (get_or is k i) → MayAllStand at n (take (suc k) is)
one_stands at n [] k i h m s = absurd (omega (arith, h))
one_stands at n (x ∷ is) zero i h m s = (let e : at + 0 ≡ at = omega arith in subst (λ a. MayStand a n x) e s, tt)
one_stands at n (x ∷ is) (suc k) i h m s = (
  m.0,
  (let e : at + suc k ≡ suc at + k = omega arith in
      one_stands (suc at) n is k i (omega (arith, h)) m.1 (subst (λ a. MayStand a n (get_or is k i)) e s)),
)

pub next_stands : (n : ℕ) (is : List Instr) (k a : ℕ) (i : Instr) → a ≡ k → k < length is → MayAllStand 0 n (take k is)
    → MayStand a n (get_or is k i) → MayAllStand 0 n (take (k + 1) is)
next_stands n is k a i same h m s =
    let e : suc k ≡ k + 1 = omega arith in
    let z : a ≡ 0 + k = omega (arith, same) in
    subst (λ j. MayAllStand 0 n (take j is)) e (one_stands 0 n is k i h m (subst (λ b. MayStand b n (get_or is k i)) z s))

pub all_stand : (n : ℕ) (is : List Instr) (k : ℕ) → length is ≤ k → MayAllStand 0 n (take k is) → MayAllStand 0 n is
all_stand n is k h m = subst (MayAllStand 0 n) (take_all k is h) m
