-- Lists of processes and of variables, one after another.
use Rattle.std.proofs.Common.{◌≡◌, ◌⊎◌, ℕ, suc, ◌≤◌, Bool, false, List, [], ◌∷◌, ◌++◌, length, map, refl, ap}
use Rattle.std.proofs.Common.{⊎_elim, inl, inr, arith}
use Rattle.std.specs.Prelude.{◌&&◌, nat_eq}
use Rattle.std.proofs.lemmas.Bool.{ne_eqb}
use Rattle.fcp_model.specs.declared.run.Proc.{Proc}
use Rattle.fcp_model.specs.Places.{Variable, is_same_process}
use Rattle.fcp_model.specs.States.{Process}
use Rattle.word_states.specs.Denoting.{Addresses}
use Rattle.word_states.specs.Standing.{StandsAt}

pub names_append : (vs us : Addresses) → map (λ b. b.0) (vs ++ us) ≡ map (λ b. b.0) vs ++ map (λ b. b.0) us
names_append [] us = refl
names_append (x ∷ vs) us = ap (λ (l : List Variable). x.0 ∷ l) (names_append vs us)

pub map_append : {A B : Type 0} (f : A → B) (xs ys : List A) → map f (xs ++ ys) ≡ map f xs ++ map f ys
map_append f [] ys = refl
map_append {B = B} f (x ∷ xs) ys = ap (λ (l : List B). f x ∷ l) (map_append f xs ys)

pub map_map : {A B C : Type 0} (f : B → C) (g : A → B) (xs : List A) → map f (map g xs) ≡ map (λ x. f (g x)) xs
map_map f g [] = refl
map_map {C = C} f g (x ∷ xs) = ap (λ (l : List C). f (g x) ∷ l) (map_map f g xs)

pub stands_either : (as' bs : List ℕ) (xs ys : List Process) (p : ℕ) (z : Process) → length as' ≡ length xs
    → StandsAt (as' ++ bs) (xs ++ ys) p z → StandsAt as' xs p z ⊎ StandsAt bs ys p z
stands_either [] bs [] ys p z e h = inr h
stands_either [] bs (x ∷ xs) ys p z e h = absurd (omega arith)
stands_either (a ∷ as') bs [] ys p z e h = absurd (omega arith)
stands_either (a ∷ as') bs (x ∷ xs) ys p z e (inl h) = inl (inl h)
stands_either (a ∷ as') bs (x ∷ xs) ys p z e (inr h) =
    ⊎_elim (λ (t : StandsAt as' xs p z). inl (inr t)) (λ (t : StandsAt bs ys p z). inr t) (stands_either as' bs xs ys p z (omega arith) h)

pub stands_left : (as' bs : List ℕ) (xs ys : List Process) (p : ℕ) (z : Process) → StandsAt as' xs p z → StandsAt (as' ++ bs) (xs ++ ys) p z
stands_left [] bs xs ys p z h = absurd h
stands_left (a ∷ as') bs [] ys p z h = absurd h
stands_left (a ∷ as') bs (x ∷ xs) ys p z (inl h) = inl h
stands_left (a ∷ as') bs (x ∷ xs) ys p z (inr h) = inr (stands_left as' bs xs ys p z h)

pub stands_right : (as' bs : List ℕ) (xs ys : List Process) (p : ℕ) (z : Process) → length as' ≡ length xs → StandsAt bs ys p z
    → StandsAt (as' ++ bs) (xs ++ ys) p z
stands_right [] bs [] ys p z e h = h
stands_right [] bs (x ∷ xs) ys p z e h = absurd (omega arith)
stands_right (a ∷ as') bs [] ys p z e h = absurd (omega arith)
stands_right (a ∷ as') bs (x ∷ xs) ys p z e h = inr (stands_right as' bs xs ys p z (omega arith) h)

-- processes of different entries have different names
pub names_apart : (p q : Proc) (n : ℕ) → p.entry ≤ n → q.entry ≡ suc n → (is_same_process p q ≡ false) × (is_same_process q p ≡ false)
names_apart p q n le e = (
  ap (λ (b : Bool). b && nat_eq p.number q.number) (ne_eqb p.entry q.entry (λ f. omega arith)),
  ap (λ (b : Bool). b && nat_eq q.number p.number) (ne_eqb q.entry p.entry (λ f. omega arith)),
)
