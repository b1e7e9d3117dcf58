-- Some faults have one first fault, so that the order in which they are listed says nothing.
use Rattle.std.proofs.Common.{◌≡◌, ℕ, ◌<◌, ◌⊎◌, inl, inr, Bool, true, false, List, [], ◌∷◌, Option, Some, None, slice_get, All, refl, ap, sym, ◌∙◌, subst, arith}
use Rattle.std.specs.Prelude.{nat_lt, nat_eq, Contains}
use Rattle.std.proofs.lemmas.Bool.{cases_lt}
use Rattle.std.proofs.lemmas.List.Elements.{All-contains, All-contains_itself, All-weaker}
use Rattle.fcp_model.specs.declared.fault.Code.{Code}
use Rattle.fcp_model.specs.declared.fault.Code.TheVariants.{NotUtf8, BadCharacter, OpenQuote, NumberRange, Unexpected, TooDeep, TooLarge, UnknownAttribute, RepeatedModule, Reserved, UnknownTest, UnknownProcedure, ExportUnknown, BadExpression, NotExported}
use Rattle.fcp_model.specs.declared.fault.Fault.{Fault}
use Rattle.fcp_model.specs.Codes.{code_number}
use Rattle.fcp_loader.specs.Firsts.{comes_before, is_before, first_of, IsFirst, HaveSameFaults}
use Rattle.fcp_loader.proofs.FirstFaults.{Comes, comes-from, is-first, none-empty}

-- ---- the code of a number

-- the codes by their numbers; no code has the number 0, and the first stands there too
abbrev listed : List Code
listed =
    NotUtf8 ∷ NotUtf8 ∷ BadCharacter ∷ OpenQuote ∷ NumberRange ∷ Unexpected ∷ TooDeep ∷ TooLarge ∷ UnknownAttribute
    ∷ RepeatedModule ∷ Reserved ∷ UnknownTest ∷ UnknownProcedure ∷ ExportUnknown ∷ BadExpression ∷ NotExported ∷ []

code-listed : (c : Code) → slice_get listed (code_number c) ≡ Some c
code-listed NotUtf8 = refl
code-listed BadCharacter = refl
code-listed OpenQuote = refl
code-listed NumberRange = refl
code-listed Unexpected = refl
code-listed TooDeep = refl
code-listed TooLarge = refl
code-listed UnknownAttribute = refl
code-listed RepeatedModule = refl
code-listed Reserved = refl
code-listed UnknownTest = refl
code-listed UnknownProcedure = refl
code-listed ExportUnknown = refl
code-listed BadExpression = refl
code-listed NotExported = refl

pub one-code : (c d : Code) → code_number c ≡ code_number d → c ≡ d
one-code c d e = let s : Some c ≡ Some d = sym (code-listed c) ∙ ap (slice_get listed) e ∙ code-listed d in cc

-- ---- faults of which neither comes before the other

neither-before : (m x n y : ℕ) → comes_before m x n y ≡ false → comes_before n y m x ≡ false → (m ≡ n) × (x ≡ y)
neither-before m x n y a b = elim (cases_lt m n) [
  | inl h ↦ absurd (never m x n y a (inl h))
  | inr h ↦ elim (cases_lt n m) [
    | inl g ↦ absurd (never n y m x b (inl g))
    | inr g ↦ elim (cases_lt x y) [
      | inl w ↦ absurd (never m x n y a (inr (omega (arith, h, g), w)))
      | inr w ↦ elim (cases_lt y x) [
        | inl v ↦ absurd (never n y m x b (inr (omega (arith, h, g), v)))
        | inr v ↦ (omega (arith, h, g), omega (arith, w, v))
      ]
    ]
  ]
]
  where
    never : (k z l t : ℕ) → comes_before k z l t ≡ false → Comes k z l t → ⊥
    never k z l t n c = let e : false ≡ true = sym n ∙ comes-from k z l t c in cc

same-fault : (f g : Fault) → is_before f g ≡ false → is_before g f ≡ false → f ≡ g
same-fault f g a b =
    let e = neither-before (code_number f.code) f.at (code_number g.code) g.at a b in
    λ i. record { code = one-code f.code g.code e.0 i; at = e.1 i }

-- ---- the one first fault

one-first : (fs : List Fault) (f g : Fault) → IsFirst fs f → IsFirst fs g → g ≡ f
one-first fs f g p q =
    same-fault g f (All-contains (λ x. is_before x f ≡ false) fs g p.least q.one)
    (All-contains (λ x. is_before x g ≡ false) fs f q.least p.one)

nothing-contained : (f : Fault) → Contains [] f → ⊥
nothing-contained f c = omega (arith, c.1)

pub only-first : (fs : List Fault) (f : Fault) → IsFirst fs f → first_of fs ≡ Some f
only-first fs f p = by (first_of fs) refl
  where
    by : (o : Option Fault) → first_of fs ≡ o → o ≡ Some f
    by None e = absurd (nothing-contained f (subst (λ xs. Contains xs f) (none-empty fs e) p.one))
    by (Some g) e = ap Some (one-first fs f g p (is-first fs g e))

-- ---- lists of the same faults

first-of-others : (fs gs : List Fault) (f : Fault) → HaveSameFaults fs gs → IsFirst fs f → IsFirst gs f
first-of-others fs gs f h p =
    record {
      one = (h f).0 p.one;
      least = All-weaker (Contains gs) (λ x. is_before x f ≡ false)
          (λ x c. All-contains (λ y. is_before y f ≡ false) fs x p.least ((h x).1 c)) gs (All-contains_itself gs);
    }

no-others : (fs gs : List Fault) → HaveSameFaults fs gs → first_of fs ≡ None → first_of gs ≡ None
no-others fs gs h e = by (first_of gs) refl
  where
    by : (o : Option Fault) → first_of gs ≡ o → o ≡ None
    by None w = refl
    by (Some g) w = absurd (nothing-contained g (subst (λ xs. Contains xs g) (none-empty fs e) ((h g).1 (is-first gs g w).one)))

pub same-first : (fs gs : List Fault) → HaveSameFaults fs gs → first_of fs ≡ first_of gs
same-first fs gs h = by (first_of fs) refl
  where
    by : (o : Option Fault) → first_of fs ≡ o → o ≡ first_of gs
    by None e = sym (no-others fs gs h e)
    by (Some f) e = sym (only-first gs f (first-of-others fs gs f h (is-first fs f e)))
