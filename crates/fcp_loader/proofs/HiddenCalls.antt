-- A call is of a procedure that is not exported exactly where its number is that of one.
use Rattle.std.proofs.Common.{◌≡◌, ℕ, Bool, true, false, cond, not, nat_lt, List, length, find, position, Option, Some, None, if◌then◌else◌, slice_get, ap, sym, ◌∙◌, inl, inr}
use Rattle.std.specs.List.{position_or_len}
use Rattle.std.specs.Option.{option_map, option_map_or}
use Rattle.std.proofs.lemmas.Bool.{cases_lt, lt-ltb}
use Rattle.std.proofs.lemmas.List.Folds.{find_at}
use Rattle.std.proofs.lemmas.Option.{slice_get_past}
use Rattle.fcp_model.specs.Goals.{true_procedure}
use Rattle.fcp_model.specs.declared.names.Sym.{Sym}
use Rattle.fcp_model.specs.declared.term.Term.{Term}
use Rattle.fcp_model.specs.declared.loaded.ProcedureName.{ProcedureName}
use Rattle.fcp_model.specs.declared.source.Call.{Call}
use Rattle.fcp_model.specs.declared.source.Call.TheVariants.{User}
use Rattle.fcp_model.specs.declared.source.Module.{Module}
use Rattle.fcp_model.specs.Goals.{is_true}
use Rattle.fcp_model.specs.Goals.{number_of_call}
use Rattle.fcp_model.specs.ProcedureNames.{procedure_names, same_procedure, is_exported}
use Rattle.fcp_loader.specs.Faults.{is_hidden}

module _ {X : Type 0} (p : X → Bool) (xs : List X) where
  place-some : (b : Bool) (k n : ℕ) → cond b (Some k) None ≡ Some n → k ≡ n
  place-some true k n e = cc
  place-some false k n e = cc

  -- what is found stands at its position
  find-position : (n : ℕ) → position p xs ≡ Some n → find p xs ≡ slice_get xs n
  find-position n e = find_at p xs ∙ ap (slice_get xs) (place-some (nat_lt (position_or_len p xs) (length xs)) (position_or_len p xs) n e)

  find-none : position p xs ≡ None → find p xs ≡ None
  find-none e = elim (cases_lt (position_or_len p xs) (length xs)) [
    | inl h ↦ let b : nat_lt (position_or_len p xs) (length xs) ≡ true = lt-ltb (position_or_len p xs) (length xs)
        h in (let k : cond (nat_lt (position_or_len p xs) (length xs)) (Some (position_or_len p xs)) None ≡ None = e in cc)
    | inr h ↦ find_at p xs ∙ slice_get_past xs (position_or_len p xs) h
  ]

module _ (m : Module) where
  at_found : (o : Option ProcedureName) (e : Bool) → option_map (is_exported m) o ≡ Some e
      → not e ≡ option_map_or (λ h. not (is_exported m h)) o false
  at_found None e w = cc
  at_found (Some h) e w = let k : e ≡ is_exported m h = cc in ap not k

  module _ (call : Call) (name : Sym) (args : List Term) (is : call ≡ User name args) (free : is_true name.0 (length args) ≡ false) where
    -- a call with a number, whose procedure is exported or not
    pub is_hidden-some : (n : ℕ) (e : Bool) → number_of_call m call ≡ Some n
        → option_map (is_exported m) (slice_get (procedure_names m.clauses) n) ≡ Some e → not e ≡ is_hidden m call
    is_hidden-some n e number exported =
        by (is_true name.0 (length args)) free (ap (number_of_call m) (sym is) ∙ number) ∙ ap (is_hidden m) (sym is)
      where
        by : (b : Bool) → b ≡ false → (if b then Some true_procedure else position
            (same_procedure (record { name = name; arity = length args })) (procedure_names m.clauses)) ≡ Some n
            → not e ≡ option_map_or (λ h. not (is_exported m h))
            (if b then None else find (same_procedure (record { name = name; arity = length args })) (procedure_names m.clauses))
            false
        by true w k = cc
        by false w k =
            at_found (slice_get (procedure_names m.clauses) n) e exported
            ∙ ap (λ o. option_map_or (λ h. not (is_exported m h)) o false)
            (sym (find-position (same_procedure (record { name = name; arity = length args })) (procedure_names m.clauses) n k))

    -- a call with none
    pub is_hidden-none : number_of_call m call ≡ None → false ≡ is_hidden m call
    is_hidden-none number =
        by (is_true name.0 (length args)) free (ap (number_of_call m) (sym is) ∙ number) ∙ ap (is_hidden m) (sym is)
      where
        by : (b : Bool) → b ≡ false → (if b then Some true_procedure else position
            (same_procedure (record { name = name; arity = length args })) (procedure_names m.clauses)) ≡ None
            → false ≡ option_map_or (λ h. not (is_exported m h))
            (if b then None else find (same_procedure (record { name = name; arity = length args })) (procedure_names m.clauses))
            false
        by true w k = cc
        by false w k = ap (λ o. option_map_or (λ h. not (is_exported m h)) o false)
            (sym (find-none (same_procedure (record { name = name; arity = length args })) (procedure_names m.clauses) k))
