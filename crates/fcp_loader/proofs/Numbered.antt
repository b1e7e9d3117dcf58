-- Where a goal has no fault, each of its items has a number.
use Rattle.std.proofs.Common.{◌≡◌, ℕ, Bool, true, false, cond, List, [], ◌∷◌, ◌++◌, map, filter, is_none, Option, Some, None, All, IsSome, refl, ap, subst, sym}
use Rattle.std.proofs.lemmas.List.Elements.{All-nil, All-cons}
use Rattle.fcp_model.specs.declared.fault.Code.TheVariants.{UnknownProcedure, BadExpression}
use Rattle.fcp_model.specs.declared.source.Item.{Item}
use Rattle.fcp_model.specs.declared.source.Module.{Module}
use Rattle.fcp_model.specs.Goals.{number_of_item}
use Rattle.fcp_loader.specs.Faults.{faults_at, unknown_items, item_faults_of}
use Rattle.fcp_loader.specs.Leaves.{leaves_in}

front-empty : {A : Type 0} (xs ys : List A) → xs ++ ys ≡ [] → xs ≡ []
front-empty [] ys e = refl
front-empty (x ∷ xs) ys e = cc

map-empty : {A B : Type 0} (f : A → B) (xs : List A) → map f xs ≡ [] → xs ≡ []
map-empty f [] e = refl
map-empty f (x ∷ xs) e = cc

none-unknown : (m : Module) (items : List Item) → filter (λ i. is_none (number_of_item m i)) items ≡ []
    → All (λ i. IsSome (number_of_item m i)) items
none-unknown m [] none = All-nil (λ i. IsSome (number_of_item m i))
none-unknown m (item ∷ items) none = by (none-unknown m items) (number_of_item m item) refl none
  where
    by : (filter (λ i. is_none (number_of_item m i)) items ≡ [] → All (λ i. IsSome (number_of_item m i)) items) → (o : Option ℕ)
        → number_of_item m item ≡ o
        → cond (is_none o) (item ∷ filter (λ i. is_none (number_of_item m i)) items) (filter (λ i. is_none (number_of_item m i)) items) ≡ []
        → All (λ i. IsSome (number_of_item m i)) (item ∷ items)
    by rest None e n = cc
    by rest (Some k) e n = All-cons (λ i. IsSome (number_of_item m i)) item items (subst IsSome (sym e) refl) (rest n)

pub numbered : (m : Module) (items : List Item) → item_faults_of m items ≡ [] → All (λ i. IsSome (number_of_item m i)) items
numbered m items none =
    none-unknown m items (map-empty (λ i. i.at) (filter (λ i. is_none (number_of_item m i)) items)
    (map-empty (λ at. record { code = UnknownProcedure; at = at }) (unknown_items m items)
    (front-empty (faults_at UnknownProcedure (unknown_items m items)) (faults_at BadExpression (leaves_in items)) (front-empty _ _ none))))
