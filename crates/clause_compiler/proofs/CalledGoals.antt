-- Tests and goals that a name with arguments calls.
use Rattle.std.proofs.Common.{◌≡◌, ℕ, zero, suc, ◌+◌, ◌-◌, ◌<◌, ◌≤◌, Bool, true, false, cond, List, [], ◌∷◌, ◌++◌, length, map, Option, Some, None, refl, sym, ap, ◌∙◌, subst, ◌⊎◌, inl, inr, arith}
use Rattle.std.specs.Prelude.{get_or, option_map, slice_get, position, ◌&&◌, nat_eq}
use Rattle.std.specs.List.{position_or_len}
use Rattle.std.proofs.lemmas.Bool.{cases_lt, lt-ltb, le-ltb}
use Rattle.heap_words.specs.declared.steps.TestKind.{TestKind}
use Rattle.fcp_model.specs.declared.names.Sym.{Sym}
use Rattle.fcp_model.specs.declared.loaded.ProcedureName.{ProcedureName}
use Rattle.fcp_model.specs.declared.term.Term as source
use Rattle.fcp_model.specs.ProcedureNames.{same_procedure}
use Rattle.fcp_model.specs.Tests.{Kind, kind}
use Rattle.fcp_model.specs.Programs.{user, true'}
use Rattle.std.proofs.lemmas.List.{length-map}
use Rattle.fcp_model.specs.Translation.{name_with_arity, term_of, terms_of, kinds, reserved_test, user_goal}
use Rattle.head_code.specs.declared.emitter.Emitter.{Emitter}
use Rattle.machine_code.specs.Slots.{push}
use Rattle.machine_code.specs.Instructions as ins
use Rattle.machine_code.specs.Instructions.{Op, Spawn}
use Rattle.head_code.specs.TermCode.{put, puts}
use Rattle.clause_compiler.specs.ClauseCode.{kind_test, item_code, goal_code}
use Rattle.head_code.specs.Emitting.{Emits}
use Rattle.head_code.proofs.Emitting.{emits_on}
use Rattle.clause_compiler.proofs.ModulePrograms.{position_below}

-- the position of a head that is found, and of one that is not
pub found_at : (p : ProcedureName → Bool) (xs : List ProcedureName) (n : ℕ) → position p xs ≡ Some n → n ≡ position_or_len p xs
found_at p xs n e = by (cases_lt (position_or_len p xs) (length xs))
  where
    by : (position_or_len p xs < length xs) ⊎ (length xs ≤ position_or_len p xs) → n ≡ position_or_len p xs
    by (inl h) =
        let z : Some (position_or_len p xs) ≡ Some n =
        ap (λ b. cond b (Some (position_or_len p xs)) None) (sym (lt-ltb (position_or_len p xs) (length xs) h)) ∙ e in
        let y : position_or_len p xs ≡ n = cc in sym y
    by (inr h) =
        let z : None ≡ Some n =
        ap (λ b. cond b (Some (position_or_len p xs)) None) (sym (le-ltb (position_or_len p xs) (length xs) h)) ∙ e in
        let no : ⊥ = cc in absurd no

pub found_nowhere : (p : ProcedureName → Bool) (xs : List ProcedureName) → position p xs ≡ None → length xs ≡ position_or_len p xs
found_nowhere p xs e = by (cases_lt (position_or_len p xs) (length xs))
  where
    by : (position_or_len p xs < length xs) ⊎ (length xs ≤ position_or_len p xs) → length xs ≡ position_or_len p xs
    by (inl h) =
        let z : Some (position_or_len p xs) ≡ None =
        ap (λ b. cond b (Some (position_or_len p xs)) None) (sym (lt-ltb (position_or_len p xs) (length xs) h)) ∙ e in
        let no : ⊥ = cc in absurd no
    by (inr h) = omega (arith, h, position_below p xs)

-- a test of one term was emitted
pub kind_tested : (a b : Emitter) (n name : ℕ) (ts : List source.Term) (t : source.Term) (k : TestKind) → map term_of ts ≡ term_of t ∷ []
    → 2 ≤ name → Some k ≡ option_map kind_test (slice_get kinds (name - 2))
    → Emits a b (put n (n + 1) (term_of t) ++ ins.Test k (push n ∷ []) [] ∷ [])
    → Emits a b (item_code n (reserved_test name (map term_of ts)))
kind_tested a b n zero ts t k et h ek ab = absurd (omega (arith, h))
kind_tested a b n (suc zero) ts t k et h ek ab = absurd (omega (arith, h))
kind_tested a b n (suc (suc j)) ts t k et h ek ab =
    let z : suc (suc j) - 2 ≡ j = omega arith in
    let p : n + 1 ≡ suc n = omega arith in
    let ab' = subst (λ m. Emits a b (put n m (term_of t) ++ ins.Test k (push n ∷ []) [] ∷ [])) p ab in
    by (slice_get kinds j) refl (ek ∙ ap (λ i. option_map kind_test (slice_get kinds i)) z) ab'
  where
    by : (o : Option Kind) → slice_get kinds j ≡ o → Some k ≡ option_map kind_test o
        → Emits a b (put n (suc n) (term_of t) ++ ins.Test k (push n ∷ []) [] ∷ [])
        → Emits a b (item_code n (reserved_test (suc (suc j)) (map term_of ts)))
    by None e i ab' = let no : ⊥ = cc in absurd no
    by (Some x) e i ab' =
        let q : k ≡ kind_test x = cc in
        subst (λ l. Emits a b l) ((λ m. put n (suc n) (term_of t) ++ ins.Test (q m) (push n ∷ []) [] ∷ [])
        ∙ ap (λ o. item_code n (option_map (λ y. kind y (term_of t)) o)) (sym e)
        ∙ ap (λ l. item_code n (reserved_test (suc (suc j)) l)) (sym et)) ab'

-- a call of a procedure was emitted
pub user_called : (hs : List ProcedureName) (name : Sym) (a b c : Emitter) (n g k p : ℕ) (ts : List source.Term)
    → (nat_eq name.0 0 && nat_eq k 0) ≡ false → k ≡ length ts → p ≡ position_or_len (same_procedure (name_with_arity name k)) hs → g ≡ n + k
    → Emits a b (puts n g (terms_of (map term_of ts))) → Emits b c (Spawn p n k ∷ [])
    → Emits a c (goal_code n (user_goal hs name (length ts) (map term_of ts)))
user_called hs name a b c n g k p ts untrue ek ep eg ab bc = by (length ts) refl
  where
    whole : (l : ℕ) → length ts ≡ l
        → Emits a c (puts n (n + length (map term_of ts)) (terms_of (map term_of ts))
        ++ Spawn (position_or_len (same_procedure (name_with_arity name l)) hs) n (length (map term_of ts)) ∷ [])
    whole l e =
        let m : k ≡ length (map term_of ts) = ek ∙ sym (length-map ts term_of) in
        subst (λ x. Emits a c x) (λ j. puts n ((eg ∙ ap (λ i. n + i) m) j) (terms_of (map term_of ts))
        ++ Spawn ((ep ∙ ap (λ i. position_or_len (same_procedure (name_with_arity name i)) hs) (ek ∙ e)) j) n (m j) ∷ [])
        (emits_on a b c _ _ ab bc)

    named : (i : ℕ) → name.0 ≡ i → length ts ≡ 0
        → Emits a c (goal_code n (elim i [
          | zero ↦ true'
          | suc j ↦ user (position_or_len (same_procedure (name_with_arity name 0)) hs)
              (map term_of ts)
        ]))
    named zero e z = let y : true ≡ false = (λ j. nat_eq (sym e j) 0 && nat_eq (sym (ek ∙ z) j) 0) ∙ untrue in let x : ⊥ = cc in absurd x
    named (suc i) e z = whole 0 z

    by : (l : ℕ) → length ts ≡ l → Emits a c (goal_code n (user_goal hs name l (map term_of ts)))
    by zero e = named name.0 refl e
    by (suc l) e = whole (suc l) e

-- a list of one term
pub one_term : (ts : List source.Term) (t : source.Term) → 1 ≤ length ts → length ts < 2 → t ≡ get_or ts 0 t
    → map term_of ts ≡ term_of t ∷ []
one_term [] t h k e = absurd (omega (arith, h))
one_term (x ∷ []) t h k e = ap (λ y. term_of y ∷ []) (sym e)
one_term (x ∷ y ∷ ts) t h k e = absurd (omega (arith, k))
