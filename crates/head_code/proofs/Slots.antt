-- Terms that stand in slots.
use Rattle.std.proofs.Common.{List, [], ◌∷◌, length, ◌≡◌, ℕ, suc, ◌+◌, ◌<◌, ◌≤◌, refl, ap, ◌∙◌, arith}
use Rattle.fcp_model.specs.Places.{Variable, own}
use Rattle.fcp_model.specs.Terms.{Term, number, string, nil, cons, tuple, var, ro, first, Terms, none, more, rename, renames, plain, plains}
use Rattle.fcp_model.specs.Translation.{terms_of}
use Rattle.fcp_model.specs.Expressions.{leaf}
use Rattle.machine_code.specs.Slots.{Slots, as_term, parts_from}
use Rattle.machine_code.specs.Machine.{count}
use Rattle.head_code.specs.TermCode.{width, widths}

-- a source term as it stands in a slot
abbrev pub shown : Term ℕ → Term Variable
shown t = plain (rename own t)

abbrev pub showns : Terms ℕ → Terms Variable
showns ts = plains (renames own ts)

-- a term stands in slot q, and its parts in the slots from p on
abbrev mutual
  pub Stands : Slots → ℕ → ℕ → Term ℕ → Type 0
  Stands σ q p (cons a b) = (σ q ≡ leaf (shown (cons a b))) × Stands σ p (suc (suc p)) a × Stands σ (suc p) (suc (suc (p + width a))) b
  Stands σ q p (tuple ts) = (σ q ≡ leaf (shown (tuple ts))) × StandAll σ p (p + count ts) ts
  Stands σ q p (number z) = σ q ≡ leaf (number z)
  Stands σ q p (string s) = σ q ≡ leaf (string s)
  Stands σ q p nil = σ q ≡ leaf nil
  Stands σ q p (var k) = σ q ≡ leaf (var (own k))
  Stands σ q p (ro k) = σ q ≡ leaf (ro (own k))
  Stands σ q p (first k) = σ q ≡ leaf (var (own k))

  pub StandAll : Slots → ℕ → ℕ → Terms ℕ → Type 0
  StandAll σ q p none = Unit {0}
  StandAll σ q p (more t ts) = Stands σ q p t × StandAll σ (suc q) (p + width t) ts

-- what stands in the slot
pub stands_here : (t : Term ℕ) (σ : Slots) (q p : ℕ) → Stands σ q p t → σ q ≡ leaf (shown t)
stands_here (cons a b) σ q p h = h.0
stands_here (tuple ts) σ q p h = h.0
stands_here (number z) σ q p h = h
stands_here (string s) σ q p h = h
stands_here nil σ q p h = h
stands_here (var k) σ q p h = h
stands_here (ro k) σ q p h = h
stands_here (first k) σ q p h = h

-- slots that are the same where the term stands
mutual
  pub stands_on : (t : Term ℕ) (σ σ' : Slots) (q p : ℕ) → σ' q ≡ σ q → ((j : ℕ) → p ≤ j → j < p + width t → σ' j ≡ σ j) → Stands σ q p t
      → Stands σ' q p t
  stands_on (cons a b) σ σ' q p e k h = (
    e ∙ h.0,
    stands_on a σ σ' p (suc (suc p)) (k p (omega arith) (omega arith)) (λ j lo hi. k j (omega (arith, lo)) (omega (arith, hi))) h.1,
    stands_on b σ σ' (suc p) (suc (suc (p + width a))) (k (suc p) (omega arith) (omega arith))
        (λ j lo hi. k j (omega (arith, lo)) (omega (arith, hi))) h.2,
  )
  stands_on (tuple ts) σ σ' q p e k h = (
    e ∙ h.0,
    stand_all_on ts σ σ' p (p + count ts) (λ j lo hi. k j (omega (arith, lo)) (omega (arith, hi)))
        (λ j lo hi. k j (omega (arith, lo)) (omega (arith, hi))) h.1,
  )
  stands_on (number z) σ σ' q p e k h = e ∙ h
  stands_on (string s) σ σ' q p e k h = e ∙ h
  stands_on nil σ σ' q p e k h = e ∙ h
  stands_on (var v) σ σ' q p e k h = e ∙ h
  stands_on (ro v) σ σ' q p e k h = e ∙ h
  stands_on (first v) σ σ' q p e k h = e ∙ h

  pub stand_all_on : (ts : Terms ℕ) (σ σ' : Slots) (q p : ℕ) → ((j : ℕ) → q ≤ j → j < q + count ts → σ' j ≡ σ j)
      → ((j : ℕ) → p ≤ j → j < p + widths ts → σ' j ≡ σ j) → StandAll σ q p ts → StandAll σ' q p ts
  stand_all_on none σ σ' q p e k h = tt
  stand_all_on (more t ts) σ σ' q p e k h = (
    stands_on t σ σ' q p (e q (omega arith) (omega arith)) (λ j lo hi. k j lo (omega (arith, hi))) h.0,
    stand_all_on ts σ σ' (suc q) (p + width t) (λ j lo hi. e j (omega (arith, lo)) (omega (arith, hi)))
        (λ j lo hi. k j (omega (arith, lo)) (omega (arith, hi))) h.1,
  )

-- the parts from slots in which they stand
pub parts_stand : (ts : Terms ℕ) (σ : Slots) (q p : ℕ) → StandAll σ q p ts → parts_from σ q (count ts) ≡ showns ts
parts_stand none σ q p h = refl
parts_stand (more t ts) σ q p h = (λ i. more (ap as_term (stands_here t σ q p h.0) i) (parts_stand ts σ (suc q) (p + width t) h.1 i))

pub count_terms : {V : Type 0} (ts : List (Term V)) → count (terms_of ts) ≡ length ts
count_terms [] = refl
count_terms (t ∷ ts) = ap suc (count_terms ts)
