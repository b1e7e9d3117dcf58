-- The code of a program means what its clauses decide.
use Rattle.std.proofs.Common.{◌≡◌, ℕ, zero, suc, ◌+◌, ◌-◌, ◌≤◌, Bool, true, false, List, [], ◌∷◌, ◌++◌, length, map, Option, Some, None, refl, sym, ap, ◌∙◌, subst, arith}
use Rattle.std.specs.Prelude.{slice_get, option_map, nat_eq, if◌then◌else◌}
use Rattle.std.proofs.lemmas.Bool.{eq-eqb, eqb-true}
use Rattle.fcp_model.specs.Places.{Variable}
use Rattle.fcp_model.specs.Terms.{Term, Bindings}
use Rattle.fcp_model.specs.Programs.{Goal, user, true', unifies, assigns, Clause, Procedure, Program, clauses_of}
use Rattle.fcp_model.specs.Trials.{Tried, succeeds, try_fails, try_waits, attempt}
use Rattle.fcp_model.specs.Decisions.{Decision, commits, decides_fail, waits_on, choose_on, choose, decide, Decides}
use Rattle.fcp_model.specs.Cells.{clause_used}
use Rattle.machine_code.specs.Instructions.{Op}
use Rattle.machine_code.specs.Machine.{Meaning, Entrance, given, untried, plain_fail, enter, childless, means, Means, follow}
use Rattle.clause_compiler.specs.ClauseCode.{nowhere, clauses_code, procedures_code, entrances, code_of}
use Rattle.machine_code.specs.Correct.{clause_size}
use Rattle.machine_code.specs.Each.{Each}
use Rattle.clause_compiler.specs.Sources.{IsSourceClause, IsSourceProgram}
use Rattle.machine_code.specs.Correct.{body_used, children_by, decision_of, MeansSource}
use Rattle.machine_code.proofs.Standing.{HasAt, has_front, has_back, has_all}
use Rattle.clause_compiler.proofs.Trying.{behind_try, chosen, clauses_do}

-- the children of a decision by the clauses from the k-th on
abbrev children_in : ℕ → List Clause → Decision → List (Goal Variable)
children_in k cs (commits j bs rs) = body_used (slice_get cs (j - k))
children_in k cs (decides_fail rs) = []
children_in k cs (waits_on rs) = []

abbrev meaning_in : ℕ → List Clause → Decision → Meaning
meaning_in k cs e = record { decision = e; children = children_in k cs e }

module _ (n : ℕ) (s : Bindings) (args : List (Term Variable)) where
  -- a commit is by one of the clauses from the k-th on
  from_k : (cs : List Clause) (k : ℕ) (behind : Bool) (rs : List Variable) (j : ℕ) (bs : Bindings) (qs : List Variable)
      → choose n s args k behind rs cs ≡ Some (commits j bs qs) → k ≤ j
  from_k [] k true rs j bs qs e = let no : ⊥ = cc in absurd no
  from_k [] k false rs j bs qs e = let no : ⊥ = cc in absurd no
  from_k (c ∷ cs) k behind rs j bs qs e = by (λ b us. from_k cs (suc k) b us j bs qs) (attempt n s c args behind) e
    where
      by : ((b : Bool) (us : List Variable) → choose n s args (suc k) b us cs ≡ Some (commits j bs qs) → suc k ≤ j) → (o : Option Tried)
          → choose_on (λ b us. choose n s args (suc k) b us cs) k behind rs o ≡ Some (commits j bs qs) → k ≤ j
      by rec None e = let no : ⊥ = cc in absurd no
      by rec (Some (succeeds bs' us)) e = let z : k ≡ j = cc in omega (arith, z)
      by rec (Some (try_fails us)) e = omega (arith, rec behind (rs ++ us) e)
      by rec (Some (try_waits us)) e = omega (arith, rec false (rs ++ us) e)

  later_in : (c : Clause) (cs : List Clause) (k : ℕ) (e : Decision)
      → ((j : ℕ) (bs : Bindings) (qs : List Variable) → e ≡ commits j bs qs → suc k ≤ j)
      → children_in (suc k) cs e ≡ children_in k (c ∷ cs) e
  later_in c cs k (decides_fail rs) h = refl
  later_in c cs k (waits_on rs) h = refl
  later_in c cs k (commits j bs rs) h =
      let z : j - k ≡ suc (j - suc k) = omega (arith, h j bs rs refl) in
      ap (λ i. body_used (slice_get (c ∷ cs) i)) (sym z)

  given_alike : {A B : Type 0} (o : Option A) (f g : A → Option B) → ((x : A) → o ≡ Some x → f x ≡ g x) → given o f ≡ given o g
  given_alike None f g h = refl
  given_alike (Some x) f g h = h x refl

  -- with its children, each choice is what is decided
  chosen_decided : (cs : List Clause) (k : ℕ) (behind : Bool) (rs : List Variable)
      → chosen s args k behind rs cs n ≡ given (choose n s args k behind rs cs) (λ e. Some (meaning_in k cs e))
  chosen_decided [] k true rs = refl
  chosen_decided [] k false rs = refl
  chosen_decided (c ∷ cs) k behind rs = by (λ b us. chosen_decided cs (suc k) b us) (attempt n s c args behind)
    where
      later : (b : Bool) (us : List Variable)
          → given (choose n s args (suc k) b us cs) (λ e. Some (meaning_in (suc k) cs e))
          ≡ given (choose n s args (suc k) b us cs) (λ e. Some (meaning_in k (c ∷ cs) e))
      later b us =
          given_alike (choose n s args (suc k) b us cs) _ _
          (λ e i. ap (λ l. Some (record { decision = e; children = l }))
          (later_in c cs k e (λ j bs qs z. from_k cs (suc k) b us j bs qs (i ∙ ap Some z))))

      by : ((b : Bool) (us : List Variable)
          → chosen s args (suc k) b us cs n ≡ given (choose n s args (suc k) b us cs) (λ e. Some (meaning_in (suc k) cs e)))
          → (o : Option Tried)
          → given o (λ d. behind_try (λ b qs j. chosen s args (suc k) b qs cs j) k c.body behind rs d n)
          ≡ given (choose_on (λ b us. choose n s args (suc k) b us cs) k behind rs o) (λ e. Some (meaning_in k (c ∷ cs) e))
      by rec None = refl
      by rec (Some (succeeds bs us)) =
          let z : k - k ≡ 0 = omega arith in
          ap (λ i. Some (record { decision = commits k bs (rs ++ us); children = body_used (slice_get (c ∷ cs) i) })) (sym z)
      by rec (Some (try_fails us)) = rec behind (rs ++ us) ∙ later behind (rs ++ us)
      by rec (Some (try_waits us)) = rec false (rs ++ us) ∙ later false (rs ++ us)

-- a procedure's entrance
abbrev entrance_of : ℕ → Procedure → Entrance
entrance_of first d = record { name = d.name; arity = d.arity; first = first; clauses = map clause_size d.clauses }

-- where a procedure's code begins
record Enters (code : List Op) (at : ℕ) (m : Program) (p : ℕ) (d : Procedure) : Type 0 where
  first : ℕ
  entrance : slice_get (entrances at m) p ≡ Some (entrance_of first d)
  stands : HasAt code first (clauses_code first 1 d.clauses)

enters : (code : List Op) (m : Program) (at p : ℕ) (d : Procedure) → slice_get m p ≡ Some d → HasAt code at (procedures_code at m)
    → Enters code at m p d
enters code [] at p d e has = let no : ⊥ = cc in absurd no
enters code (x ∷ m) at zero d e has =
    let z : x ≡ d = cc in
    record {
      first = at;
      entrance = ap (λ y. Some (entrance_of at y)) z;
      stands = subst
          (λ y. HasAt code at (clauses_code at 1 y.clauses)) z (has_front code at (clauses_code at 1 x.clauses) _ has);
    }
enters code (x ∷ m) at (suc p) d e has =
    let r = enters code m (at + length (clauses_code at 1 x.clauses)) p d e (has_back code at (clauses_code at 1 x.clauses) _ has) in
    record { first = r.first; entrance = r.entrance; stands = r.stands }

lacks : (m : Program) (at p : ℕ) → slice_get m p ≡ None → slice_get (entrances at m) p ≡ None
lacks [] at p e = refl
lacks (x ∷ m) at zero e = let no : ⊥ = cc in absurd no
lacks (x ∷ m) at (suc p) e = lacks m (at + length (clauses_code at 1 x.clauses)) p e

source_at : (m : Program) (p : ℕ) (d : Procedure) → slice_get m p ≡ Some d → IsSourceProgram m → Each (IsSourceClause d.arity) d.clauses
source_at [] p d e src = let no : ⊥ = cc in absurd no
source_at (x ∷ m) zero d e src = let z : x ≡ d = cc in subst (λ y. Each (IsSourceClause y.arity) y.clauses) z src.0
source_at (x ∷ m) (suc p) d e src = source_at m p d e src.1

-- the clauses of a procedure for a call with so many arguments
abbrev clauses_for : ℕ → Option Procedure → List Clause
clauses_for n None = []
clauses_for n (Some d) = if nat_eq d.arity n then d.clauses else []

nat_eq_swap : (a b : ℕ) → nat_eq a b ≡ false → nat_eq b a ≡ false
nat_eq_swap a b h = by (nat_eq b a) refl
  where
    by : (c : Bool) → nat_eq b a ≡ c → c ≡ false
    by true e = let no : true ≡ false = sym (eq-eqb a b (sym (eqb-true b a e))) ∙ h in cc
    by false e = refl

module _ (m : Program) (src : IsSourceProgram m) (long : length (procedures_code 0 m) ≤ nowhere) (s : Bindings) where
  ops : List Op
  ops = procedures_code 0 m

  -- the children of a choice from the first clause on are those of the decision
  children_same : (p : ℕ) (args : List (Term Variable)) (cs : List Clause) → clauses_of m p (length args) ≡ cs → (n : ℕ) (e : Decision)
      → choose n s args 1 true [] cs ≡ Some e → children_in 1 cs e ≡ children_by m (user p args) e
  children_same p args cs z n (decides_fail rs) i = refl
  children_same p args cs z n (waits_on rs) i = refl
  children_same p args cs z n (commits zero bs rs) i = absurd (omega (arith, from_k n s args cs 1 true [] zero bs rs i))
  children_same p args cs z n (commits (suc j) bs rs) i =
      let w : suc j - 1 ≡ j = omega arith in
      λ k. body_used (slice_get (sym z k) (w k))

  -- a call of a procedure
  record Calls (p : ℕ) (args : List (Term Variable)) : Type 0 where
    only : (d : Meaning) → Means (code_of m) s (user p args) d
        → (e : Decision) × Decides m s (user p args) e × (d ≡ decision_of m (user p args) e)
    all : (e : Decision) → Decides m s (user p args) e → Means (code_of m) s (user p args) (decision_of m (user p args) e)

  calls : (p : ℕ) (args : List (Term Variable)) → Calls p args
  calls p args = by (slice_get m p) refl
    where
      called : (d : Procedure) → slice_get m p ≡ Some d
          → clauses_of m p (length args) ≡ (if nat_eq d.arity (length args) then d.clauses else [])
      called d e = ap (clauses_for (length args)) e

      found : (d : Procedure) → slice_get m p ≡ Some d → length args ≡ d.arity → Calls p args
      found d e a =
          let r = enters (procedures_code 0 m) m 0 p d e (has_all (procedures_code 0 m) []) in
          let same = clauses_do s (procedures_code 0 m) args d.clauses r.first 1 d.arity untried long a (source_at m p d e src) r.stands in
          let z : clauses_of m p (length args) ≡ d.clauses =
          called d e ∙ ap (λ b. if b then d.clauses else []) (eq-eqb d.arity (length args) (sym a)) in
          let w : (n : ℕ) → means n (code_of m) s (user p args) ≡ follow n s (procedures_code 0 m) args r.first untried =
          λ n. ap (enter n s (procedures_code 0 m) args) r.entrance
          ∙ ap (λ b. elim b as (λ _. Option Meaning) [
            | true ↦ follow n s
                (procedures_code 0 m) args r.first untried
            | false ↦ Some plain_fail
          ]) (eq-eqb (length args) d.arity a) in
          record {
            only = λ x (n, c).
                let h = same.to x (n, sym (w n) ∙ c) in
                decided d z h.0 x (sym (chosen_decided h.0 s args d.clauses 1 true []) ∙ h.1);
            all = λ x (n, c).
                let c' : choose n s args 1 true [] d.clauses ≡ Some x = ap (choose n s args 1 true []) (sym z) ∙ c in
                let g : chosen s args 1 true [] d.clauses n ≡ Some (decision_of m (user p args) x) =
                chosen_decided n s args d.clauses 1 true [] ∙ ap (λ o. given o (λ e. Some (meaning_in 1 d.clauses e))) c'
                ∙ ap (λ l. Some (record { decision = x; children = l })) (children_same p args d.clauses z n x c') in
                let h = same.back (decision_of m (user p args) x) (n, g) in
                (h.0, w h.0 ∙ h.1);
          }
        where
          decided : (d : Procedure) → clauses_of m p (length args) ≡ d.clauses → (n : ℕ) (x : Meaning)
              → given (choose n s args 1 true [] d.clauses) (λ e. Some (meaning_in 1 d.clauses e)) ≡ Some x
              → (e : Decision) × Decides m s (user p args) e × (x ≡ decision_of m (user p args) e)
          decided d z n x c = go (choose n s args 1 true [] d.clauses) refl c
            where
              go : (o : Option Decision) → choose n s args 1 true [] d.clauses ≡ o
                  → given o (λ e. Some (meaning_in 1 d.clauses e)) ≡ Some x
                  → (e : Decision) × Decides m s (user p args) e × (x ≡ decision_of m (user p args) e)
              go None i c = let no : ⊥ = cc in absurd no
              go (Some e) i c =
                  let q : meaning_in 1 d.clauses e ≡ x = cc in (
                    e,
                    (n, ap (choose n s args 1 true []) z ∙ i),
                    sym q
                        ∙ ap (λ l. record { decision = e; children = l }) (children_same p args d.clauses z n e i),
                  )

      -- a call that fails at once: it has no clause
      fails : ((n : ℕ) → means n (code_of m) s (user p args) ≡ Some plain_fail) → clauses_of m p (length args) ≡ [] → Calls p args
      fails w z =
          let v : (n : ℕ) → decide n m s (user p args) ≡ Some (decides_fail []) = λ n. ap (choose n s args 1 true []) z in
          record {
            only =
                λ x (n, c). (
                  decides_fail [],
                  (n, v n),
                  (let z : Some plain_fail ≡ Some x = sym (w n) ∙ c in let y : plain_fail ≡ x = cc in
                      sym y),
                );
            all = λ x (n, c).
                let z : Some (decides_fail []) ≡ Some x = sym (v n) ∙ c in
                let y : decides_fail [] ≡ x = cc in
                (n, w n ∙ ap (λ e. Some (decision_of m (user p args) e)) y);
          }

      missing : slice_get m p ≡ None → Calls p args
      missing e =
          fails (λ n. ap (enter n s (procedures_code 0 m) args) (lacks m 0 p e)) (ap (clauses_for (length args)) e)

      other : (d : Procedure) → slice_get m p ≡ Some d → nat_eq d.arity (length args) ≡ false → Calls p args
      other d e b =
          let r = enters (procedures_code 0 m) m 0 p d e (has_all (procedures_code 0 m) []) in
          let b' : nat_eq (length args) d.arity ≡ false = nat_eq_swap d.arity (length args) b in
          fails (λ n. ap (enter n s (procedures_code 0 m) args) r.entrance
          ∙ ap (λ x. elim x as (λ _. Option Meaning) [
            | true ↦ follow n s
                (procedures_code 0 m) args r.first untried
            | false ↦ Some plain_fail
          ]) b')
          (called d e ∙ ap (λ x. if x then d.clauses else []) b)

      by : (o : Option Procedure) → slice_get m p ≡ o → Calls p args
      by None e = missing e
      by (Some d) e = sized (nat_eq d.arity (length args)) refl
        where
          sized : (b : Bool) → nat_eq d.arity (length args) ≡ b → Calls p args
          sized true h = found d e (sym (eqb-true d.arity (length args) h))
          sized false h = other d e h

childless_only : (o : Option Decision) (d : Meaning) → option_map childless o ≡ Some d → (e : Decision) × (o ≡ Some e) × (d ≡ childless e)
childless_only None d c = let no : ⊥ = cc in absurd no
childless_only (Some e) d c = let z : childless e ≡ d = cc in (e, refl, sym z)

-- a built-in process has no children
none_by : (m : Program) (g : Goal Variable) (e : Decision) → ((k : ℕ) → clause_used m g k ≡ None) → childless e ≡ decision_of m g e
none_by m g (commits k bs rs) h = ap (λ o. record { decision = commits k bs rs; children = body_used o }) (sym (h k))
none_by m g (decides_fail rs) h = refl
none_by m g (waits_on rs) h = refl

-- The compiled program decides as the source clauses do.
pub means_source : (m : Program) → IsSourceProgram m → length (procedures_code 0 m) ≤ nowhere → MeansSource m (code_of m)
means_source m src long = record { only = only; all = all }
  where
    only : (s : Bindings) (g : Goal Variable) (d : Meaning) → Means (code_of m) s g d
        → (e : Decision) × Decides m s g e × (d ≡ decision_of m g e)
    only s (user p args) d c = (calls m src long s p args).only d c
    only s true' d (n, c) = let h = childless_only (decide n [] s true') d c in (h.0, (n, h.1), h.2 ∙ none_by m true' h.0 (λ k. refl))
    only s (unifies t u) d (n, c) =
        let h = childless_only (decide n [] s (unifies t u)) d c in (h.0, (n, h.1), h.2 ∙ none_by m (unifies t u) h.0 (λ k. refl))
    only s (assigns t x) d (n, c) =
        let h = childless_only (decide n [] s (assigns t x)) d c in (h.0, (n, h.1), h.2 ∙ none_by m (assigns t x) h.0 (λ k. refl))

    all : (s : Bindings) (g : Goal Variable) (e : Decision) → Decides m s g e → Means (code_of m) s g (decision_of m g e)
    all s (user p args) e c = (calls m src long s p args).all e c
    all s true' e (n, c) = (n, ap (option_map childless) c ∙ ap Some (none_by m true' e (λ k. refl)))
    all s (unifies t u) e (n, c) = (n, ap (option_map childless) c ∙ ap Some (none_by m (unifies t u) e (λ k. refl)))
    all s (assigns t x) e (n, c) = (n, ap (option_map childless) c ∙ ap Some (none_by m (assigns t x) e (λ k. refl)))
