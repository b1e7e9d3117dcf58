-- The code of clauses binds fresh variables.
use Rattle.std.proofs.Common.{◌≡◌, ℕ, suc, ◌+◌, ◌≤◌, List, [], ◌∷◌, ◌++◌, length, Some, refl, length-append, arith}
use Rattle.fcp_model.specs.Programs.{Clause, Program}
use Rattle.machine_code.specs.Each.{Each}
use Rattle.machine_code.specs.Instructions as ins
use Rattle.machine_code.specs.Instructions.{Op}
use Rattle.machine_code.specs.Fresh.{Tops, no_tops, FreshAt, FreshFor, IsFresh}
use Rattle.machine_code.proofs.Standing.{HasAt, has_front, has_back, has_all}
use Rattle.machine_code.proofs.Fresh.{fresh_at, fresh_past}
use Rattle.head_code.specs.HeadCode.{head_code}
use Rattle.head_code.proofs.FreshPuts.{moved}
use Rattle.head_code.proofs.FreshGets.{head_fresh}
use Rattle.clause_compiler.specs.ClauseCode.{guard_code, body_code, nowhere, inner_code, clauses_code, procedures_code, entrances}
use Rattle.clause_compiler.specs.Sources.{IsSourceClause, IsSourceProgram}
use Rattle.clause_compiler.proofs.Straight.{IsStraight, AreStraight, rest_straight}

module _ (code : List Op) where
  -- code that binds nothing
  straight_fresh : (xs : List Op) (at : ℕ) → AreStraight xs → HasAt code at xs
      → ((υ : Tops) (q : ℕ) → IsFresh code (at + length xs) υ q) → (τ : Tops) (r : ℕ) → IsFresh code at τ r
  straight_fresh [] at st has next τ r = let e : at + 0 ≡ at = omega arith in moved code (at + 0) at τ r e (next τ r)
  straight_fresh (o ∷ os) at st has next τ r =
      let e : at + length (o ∷ os) ≡ suc at + length os = omega arith in
      fresh_at code at τ r o has.0 (by o st.0 (straight_fresh os (suc at) st.1 has.1
      (λ υ q. moved code (at + length (o ∷ os)) (suc at + length os) υ q e (next υ q))))
    where
      by : (o : Op) → IsStraight o → ((υ : Tops) (q : ℕ) → IsFresh code (suc at) υ q) → (n : ℕ) → FreshAt (FreshFor code n) at τ r (Some o)
      by (ins.Try k next) h g n = absurd h
      by (ins.GetFirst i k) h g n = absurd h
      by (ins.GetCons i left right p) h g n = absurd h
      by (ins.GetTuple i f parts p) h g n = absurd h
      by (ins.PutVar i k m) h g n = g _ _ n
      by (ins.PutWord i t) h g n = g _ _ n
      by (ins.PutCons i left right) h g n = g _ _ n
      by (ins.PutTuple i f parts x) h g n = g _ _ n
      by (ins.Unify left right) h g n = absurd h
      by (ins.Jump to) h g n = absurd h
      by (ins.Test k left right) h g n = g _ _ n
      by ins.Otherwise h g n = g _ _ n
      by (ins.Spawn p f parts) h g n = g _ _ n
      by ins.Commit h g n = tt

  -- a clause's code after its first instruction
  inner_fresh : (c : Clause) (arity at : ℕ) → IsSourceClause arity c → HasAt code at (inner_code at c) → ((υ : Tops) (q : ℕ)
      → IsFresh code (at + length (inner_code at c)) υ q) → IsFresh code at no_tops 0
  inner_fresh c arity at src has next =
      let n = length c.args in
      let h = head_code at 0 n 0 c.args in
      let r = guard_code n c.guard ++ (body_code n c.body ++ ins.Commit ∷ []) in
      let end : at + length (h ++ r) ≡ at + length h + length r = omega (arith, length-append h r) in
      head_fresh code c.args 0 at 0 n no_tops 0 src.head (omega arith) (λ j lt. refl) (omega arith) (has_front code at h r has)
      (straight_fresh r (at + length h) (rest_straight c n) (has_back code at h r has)
      (λ υ q. moved code (at + length (h ++ r)) (at + length h + length r) υ q end (next υ q)))

  -- the clauses of a procedure, whatever stands in the slots
  clauses_fresh : (cs : List Clause) (arity at k : ℕ) → Each (IsSourceClause arity) cs → length code ≤ nowhere
      → HasAt code at (clauses_code at k cs) → (τ : Tops) (r : ℕ) → IsFresh code at τ r
  clauses_fresh [] arity at k src long has τ r =
      fresh_at code at τ r (ins.Jump nowhere) has.0 (fresh_past code nowhere τ r long)
  clauses_fresh (c ∷ cs) arity at k src long has τ r =
      let inner = inner_code (suc at) c in
      let next = suc at + length inner in
      let rest = clauses_code (at + length (ins.Try k next ∷ inner)) (suc k) cs in
      let end : at + length (ins.Try k next ∷ inner) ≡ next = omega arith in
      let has_inner = has_front code at (ins.Try k next ∷ inner) rest has in
      let has_rest = has_back code at (ins.Try k next ∷ inner) rest has in
      let later : (υ : Tops) (q : ℕ) → IsFresh code next υ q =
      λ υ q. moved code _ next υ q end
      (clauses_fresh cs arity (at + length (ins.Try k next ∷ inner)) (suc k) src.1 long has_rest υ q) in
      let here = inner_fresh c arity (suc at) src.0 has_inner.1 later in
      fresh_at code at τ r (ins.Try k next) has.0 (λ n. (here n, λ υ q. later υ q n))

  procedures_fresh : (m : Program) (at : ℕ) → IsSourceProgram m → length code ≤ nowhere → HasAt code at (procedures_code at m)
      → Each (λ e. IsFresh code e.first no_tops 0) (entrances at m)
  procedures_fresh [] at src long has = tt
  procedures_fresh (d ∷ m) at src long has =
      let g = clauses_code at 1 d.clauses in
      let r = procedures_code (at + length g) m in (
        clauses_fresh d.clauses d.arity at 1 src.0 long (has_front code at g r has) no_tops 0,
        procedures_fresh m (at + length g) src.1 long (has_back code at g r has),
      )

-- first occurrences are fresh from each procedure's first instruction on
pub program_fresh : (m : Program) → IsSourceProgram m → length (procedures_code 0 m) ≤ nowhere
    → Each (λ e. IsFresh (procedures_code 0 m) e.first no_tops 0) (entrances 0 m)
program_fresh m src long = procedures_fresh (procedures_code 0 m) m 0 src long (has_all (procedures_code 0 m) [])
