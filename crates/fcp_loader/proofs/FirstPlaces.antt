-- The first fault of a kind, found one item or clause after another.
use Rattle.std.proofs.Common.{◌≡◌, ℕ, zero, suc, ◌+◌, ◌<◌, List, [], ◌∷◌, ◌++◌, length, take, get_or, map, filter, Bool, Option, refl, ap, sym, ◌∙◌, arith, append_assoc}
use Rattle.std.specs.List.{flat_map}
use Rattle.std.proofs.lemmas.Grind.{flat_map-append}
use Rattle.std.proofs.lemmas.List.{append-nil, map-append}
use Rattle.std.proofs.lemmas.List.Elements.{filter-append}
use Rattle.fcp_model.specs.declared.fault.Code.{Code}
use Rattle.fcp_model.specs.declared.fault.Fault.{Fault}
use Rattle.fcp_model.specs.declared.term.ArithOp.{ArithOp}
use Rattle.fcp_model.specs.declared.term.Expr.{Expr, Op}
use Rattle.fcp_model.specs.declared.source.Item.{Item}
use Rattle.fcp_model.specs.declared.source.Clause.{Clause}
use Rattle.fcp_loader.specs.Faults.{faults_at, leaves_of_clauses}
use Rattle.fcp_loader.specs.Firsts.{earlier, first_of}
use Rattle.fcp_loader.specs.Leaves.{wrong_leaves, leaf_step, leaves_in, leaves_in_call}
use Rattle.fcp_model.proofs.Folds.{fold-Op}
use Rattle.fcp_loader.proofs.FirstFaults.{first_of-append}

-- the first at the places of two lists
pub first_at-append : (code : Code) (xs ys : List ℕ)
    → first_of (faults_at code (xs ++ ys)) ≡ earlier (first_of (faults_at code xs)) (first_of (faults_at code ys))
first_at-append code xs ys =
    ap first_of (map-append (λ at. record { code = code; at = at }) xs ys) ∙ first_of-append (faults_at code xs) (faults_at code ys)

next-place : (i : ℕ) → suc i ≡ i + 1
next-place i = omega arith

-- one piece more
more-pieces : {X A : Type 0} (f : X → List A) (xs : List X) (i : ℕ) (x : X) → i < length xs → x ≡ get_or xs i x
    → flat_map f (take (suc i) xs) ≡ flat_map f (take i xs) ++ f x
more-pieces f [] i x inside is = absurd (omega (arith, inside))
more-pieces f (y ∷ ys) zero x inside is = append-nil (f y) ∙ ap f (sym is)
more-pieces f (y ∷ ys) (suc i) x inside is =
    ap (λ l. f y ++ l) (more-pieces f ys i x (omega (arith, inside)) is) ∙ sym (append_assoc (f y) (flat_map f (take i ys)) (f x))

pub more-items : (code : Code) (items : List Item) (i : ℕ) (item : Item) (first : Option Fault) → i < length items
    → item ≡ get_or items i item
    → first ≡ first_of (faults_at code (leaves_in (take i items)))
    → earlier first (first_of (faults_at code (leaves_in_call item.call))) ≡ first_of (faults_at code (leaves_in (take (i + 1) items)))
more-items code items i item first inside is before =
    ap (λ o. earlier o (first_of (faults_at code (leaves_in_call item.call)))) before
    ∙ sym (first_at-append code (leaves_in (take i items)) (leaves_in_call item.call))
    ∙ ap (λ l. first_of (faults_at code l)) (sym (more-pieces (λ x. leaves_in_call x.call) items i item inside is)
    ∙ ap (λ k. leaves_in (take k items)) (next-place i))

-- the leaves of clauses, one clause after another
leaves_of_clauses-pieces : (cs : List Clause) → leaves_of_clauses cs ≡ flat_map (λ c. leaves_in c.guard ++ leaves_in c.body) cs
leaves_of_clauses-pieces [] = refl
leaves_of_clauses-pieces (c ∷ cs) =
    flat_map-append (λ i. leaves_in_call i.call) (c.guard ++ c.body) (flat_map (λ c. c.guard ++ c.body) cs)
    ∙ ap (λ l. l ++ leaves_of_clauses cs) (flat_map-append (λ i. leaves_in_call i.call) c.guard c.body)
    ∙ ap (λ l. (leaves_in c.guard ++ leaves_in c.body) ++ l) (leaves_of_clauses-pieces cs)

pub more-clauses : (code : Code) (cs : List Clause) (i : ℕ) (c : Clause) (first : Option Fault) → i < length cs → c ≡ get_or cs i c
    → first ≡ first_of (faults_at code (leaves_of_clauses (take i cs)))
    → earlier first (earlier (first_of (faults_at code (leaves_in c.guard))) (first_of (faults_at code (leaves_in c.body)))) ≡ first_of
    (faults_at code (leaves_of_clauses (take (i + 1) cs)))
more-clauses code cs i c first inside is before =
    ap (λ o. earlier o (earlier (first_of (faults_at code (leaves_in c.guard))) (first_of (faults_at code (leaves_in c.body)))))
    (before ∙ ap (λ l. first_of (faults_at code l)) (leaves_of_clauses-pieces (take i cs)))
    ∙ ap (earlier (first_of (faults_at code (flat_map (λ c. leaves_in c.guard ++ leaves_in c.body) (take i cs)))))
    (sym (first_at-append code (leaves_in c.guard) (leaves_in c.body)))
    ∙ sym (first_at-append code (flat_map (λ c. leaves_in c.guard ++ leaves_in c.body) (take i cs)) (leaves_in c.guard ++ leaves_in c.body))
    ∙ ap (λ l. first_of (faults_at code l)) (sym (more-pieces (λ c. leaves_in c.guard ++ leaves_in c.body) cs i c inside is)
    ∙ sym (leaves_of_clauses-pieces (take (suc i) cs)) ∙ ap (λ k. leaves_of_clauses (take k cs)) (next-place i))

module _ {X : Type 0} (code : Code) (at : X → ℕ) (picks : X → Bool) where
  abbrev first_where : List X → Option Fault
  first_where xs = first_of (faults_at code (map at (filter picks xs)))

  where-append : (xs ys : List X) → first_where (xs ++ ys) ≡ earlier (first_where xs) (first_where ys)
  where-append xs ys =
      ap (λ l. first_of (faults_at code (map at l))) (filter-append picks xs ys)
      ∙ ap (λ l. first_of (faults_at code l)) (map-append at (filter picks xs) (filter picks ys))
      ∙ first_at-append code (map at (filter picks xs)) (map at (filter picks ys))

  -- the first that is picked, one list after another
  pub more-lists : {Y : Type 0} (f : Y → List X) (ys : List Y) (i : ℕ) (y : Y) (first o : Option Fault) → i < length ys → y ≡ get_or ys i y
      → first ≡ first_where (flat_map f (take i ys)) → o ≡ first_where (f y) → earlier first o ≡ first_where (flat_map f (take (i + 1) ys))
  more-lists f ys i y first o inside is before next =
      (λ j. earlier (before j) (next j)) ∙ sym (where-append (flat_map f (take i ys)) (f y))
      ∙ ap first_where (sym (more-pieces f ys i y inside is) ∙ ap (λ k. flat_map f (take k ys)) (next-place i))

-- an operator's wrong leaves are those of its left side, and then those of its right
pub first-of-operator : (code : Code) (o : ArithOp) (left right : Expr)
    → earlier (first_of (faults_at code (wrong_leaves left))) (first_of (faults_at code (wrong_leaves right))) ≡ first_of
    (faults_at code (wrong_leaves (Op o left right)))
first-of-operator code o left right =
    sym (first_at-append code (wrong_leaves left) (wrong_leaves right))
    ∙ ap (λ l. first_of (faults_at code l)) (sym (fold-Op (List ℕ) leaf_step o left right))
