-- The first of faults that are listed in pieces.
use Rattle.std.proofs.Common.{◌≡◌, ℕ, zero, suc, ◌<◌, ◌⊎◌, inl, inr, Bool, true, false, cond, List, [], ◌∷◌, ◌++◌, Option, Some, None, slice_get, All, refl, ap, sym, ◌∙◌, subst, arith}
use Rattle.std.specs.Prelude.{nat_lt, nat_eq, ◌&&◌, fold}
use Rattle.std.proofs.lemmas.Bool.{or_cases, or_left, or_right, and_parts, and_from, ltb-true, eqb-true, lt-ltb, eq-eqb, cases_lt, false_from_ne_true}
use Rattle.std.proofs.lemmas.List.Elements.{All-nil, All-cons, All-head, All-tail}
use Rattle.std.proofs.lemmas.List.Sums.{fold-append}
use Rattle.fcp_model.specs.declared.fault.Fault.{Fault}
use Rattle.fcp_model.specs.Codes.{code_number}
use Rattle.fcp_loader.specs.Firsts.{comes_before, is_before, earlier, first_of, IsFirst}

-- ---- the order of faults

abbrev pub Comes : ℕ → ℕ → ℕ → ℕ → Type 0
Comes m x n y = (m < n) ⊎ ((m ≡ n) × (x < y))

comes-true : (m x n y : ℕ) → comes_before m x n y ≡ true → Comes m x n y
comes-true m x n y h = elim (or_cases (nat_lt m n) (nat_eq m n && nat_lt x y) h) [
  | inl a ↦ inl (ltb-true m n a)
  | inr b ↦ let p = and_parts (nat_eq m n) (nat_lt x y) b in inr (eqb-true m n p.0, ltb-true x y p.1)
]

pub comes-from : (m x n y : ℕ) → Comes m x n y → comes_before m x n y ≡ true
comes-from m x n y (inl a) = or_left (nat_lt m n) (nat_eq m n && nat_lt x y) (lt-ltb m n a)
comes-from m x n y (inr b) = or_right (nat_lt m n) (nat_eq m n && nat_lt x y)
    (and_from (nat_eq m n) (nat_lt x y) (eq-eqb m n b.0) (lt-ltb x y b.1))

-- of three pairs, the first comes before the second or the second before the third, where the first comes before the third
comes-between : (m x n y k z : ℕ) → Comes m x k z → Comes m x n y ⊎ Comes n y k z
comes-between m x n y k z (inl a) = elim (cases_lt m n) [ inl h ↦ inl (inl h) | inr h ↦ inr (inl (omega (arith, a, h))) ]
comes-between m x n y k z (inr b) = elim (cases_lt m n) [
  | inl h ↦ inl (inl h)
  | inr h ↦ elim (cases_lt n m) [
    | inl g ↦ inr (inl (omega (arith, b.0, g)))
    | inr g ↦ elim (cases_lt x y) [
      | inl w ↦ inl (inr (omega (arith, g, h), w))
      | inr w ↦ inr (inr (omega (arith, b.0, g, h), omega (arith, b.1, w)))
    ]
  ]
]

comes-along : (m x n y k z : ℕ) → Comes m x n y → Comes n y k z → Comes m x k z
comes-along m x n y k z (inl a) (inl b) = inl (omega (arith, a, b))
comes-along m x n y k z (inl a) (inr b) = inl (omega (arith, a, b.0))
comes-along m x n y k z (inr a) (inl b) = inl (omega (arith, a.0, b))
comes-along m x n y k z (inr a) (inr b) = inr (a.0 ∙ b.0, omega (arith, a.1, b.1))

comes-itself : (m x : ℕ) → Comes m x m x → ⊥
comes-itself m x (inl a) = omega (arith, a)
comes-itself m x (inr b) = omega (arith, b.1)

abbrev IsBefore : Fault → Fault → Type 0
IsBefore f g = Comes (code_number f.code) f.at (code_number g.code) g.at

before-true : (f g : Fault) → is_before f g ≡ true → IsBefore f g
before-true f g = comes-true (code_number f.code) f.at (code_number g.code) g.at

before-along : (f g h : Fault) → is_before f g ≡ true → is_before g h ≡ true → is_before f h ≡ true
before-along f g h a b =
    comes-from (code_number f.code) f.at (code_number h.code) h.at
    (comes-along (code_number f.code) f.at (code_number g.code) g.at (code_number h.code) h.at (before-true f g a) (before-true g h b))

never-itself : (f : Fault) → is_before f f ≡ false
never-itself f = false_from_ne_true (is_before f f) (λ e. comes-itself (code_number f.code) f.at (before-true f f e))

-- what is not before another is before none that is not before that
not-along : (f g h : Fault) → is_before f g ≡ false → is_before g h ≡ false → is_before f h ≡ false
not-along f g h a b = false_from_ne_true (is_before f h) (λ e.
    elim (comes-between (code_number f.code) f.at (code_number g.code) g.at (code_number h.code) h.at (before-true f h e)) [
      | inl c ↦ let k : false ≡ true = sym a ∙ comes-from (code_number f.code) f.at (code_number g.code) g.at c in cc
      | inr c ↦ let k : false ≡ true = sym b ∙ comes-from (code_number g.code) g.at (code_number h.code) h.at c in cc
    ])

not-back : (f g : Fault) → is_before f g ≡ true → is_before g f ≡ false
not-back f g a = false_from_ne_true (is_before g f) (λ e. let k : false ≡ true = sym (never-itself f) ∙ before-along f g f a e in cc)

-- ---- the earlier of two

module _ (f g h : Fault) where
  by-cases : (p q : Bool) → is_before g f ≡ p → is_before h g ≡ q
      → Some (cond (is_before h (cond p g f)) h (cond p g f)) ≡ Some (cond (is_before (cond q h g) f) (cond q h g) f)
  by-cases true true a b = ap (λ t. Some (cond t h g)) b ∙ sym (ap (λ t. Some (cond t h f)) (before-along h g f b a))
  by-cases true false a b = ap (λ t. Some (cond t h g)) b ∙ sym (ap (λ t. Some (cond t g f)) a)
  by-cases false true a b = refl
  by-cases false false a b = ap (λ t. Some (cond t h f)) (not-along h g f b a) ∙ sym (ap (λ t. Some (cond t g f)) a)

earlier-earlier : (a b c : Option Fault) → earlier (earlier a b) c ≡ earlier a (earlier b c)
earlier-earlier None b c = refl
earlier-earlier (Some f) None c = refl
earlier-earlier (Some f) (Some g) None = refl
earlier-earlier (Some f) (Some g) (Some h) = by-cases f g h (is_before g f) (is_before h g) refl refl

-- ---- the first of all

abbrev one_more : Option Fault → Fault → Option Fault
one_more first fault = earlier first (Some fault)

fold-earlier : (a : Option Fault) (fs : List Fault) → fold one_more a fs ≡ earlier a (first_of fs)
fold-earlier None [] = refl
fold-earlier (Some f) [] = refl
fold-earlier a (f ∷ fs) =
    fold-earlier (earlier a (Some f)) fs ∙ earlier-earlier a (Some f) (first_of fs) ∙ ap (earlier a) (sym (fold-earlier (Some f) fs))

pub first_of-append : (fs gs : List Fault) → first_of (fs ++ gs) ≡ earlier (first_of fs) (first_of gs)
first_of-append fs gs = fold-append one_more None fs gs ∙ fold-earlier (first_of fs) gs

pub none-empty : (fs : List Fault) → first_of fs ≡ None → fs ≡ []
none-empty [] e = refl
none-empty (f ∷ fs) e = by (first_of fs) (sym (fold-earlier (Some f) fs) ∙ e)
  where
    by : (o : Option Fault) → earlier (Some f) o ≡ None → f ∷ fs ≡ []
    by None w = cc
    by (Some g) w = cc

not-before : (f g : Fault) (fs : List Fault) → is_before g f ≡ false → All (λ x. is_before x g ≡ false) fs
    → All (λ x. is_before x f ≡ false) fs
not-before f g [] e h = All-nil (λ x. is_before x f ≡ false)
not-before f g (x ∷ fs) e h =
    All-cons (λ y. is_before y f ≡ false) x fs
    (not-along x g f (All-head (λ y. is_before y g ≡ false) x fs h) e) (not-before f g fs e (All-tail (λ y. is_before y g ≡ false) x fs h))

-- the first of a fault and of more
first-of-more : (g f : Fault) (fs : List Fault) (o : Option Fault) → first_of fs ≡ o → earlier (Some g) o ≡ Some f
    → ((h : Fault) → first_of fs ≡ Some h → IsFirst fs h) → IsFirst (g ∷ fs) f
first-of-more g f fs None n w rest =
    let k : g ≡ f = cc in
    subst (IsFirst (g ∷ fs)) k (record {
      one = (0, omega arith, refl);
      least = All-cons (λ x. is_before x g ≡ false) g fs (never-itself g)
          (subst (λ (xs : List Fault). All (λ x. is_before x g ≡ false) xs) (sym (none-empty fs n)) (All-nil (λ x. is_before x g ≡ false)));
    })
first-of-more g f fs (Some h) n w rest = by (is_before h g) refl w
  where
    r : IsFirst fs h
    r = rest h n

    by : (b : Bool) → is_before h g ≡ b → Some (cond b h g) ≡ Some f → IsFirst (g ∷ fs) f
    by true b w =
        let k : h ≡ f = cc in
        subst (IsFirst (g ∷ fs)) k (record {
          one = (suc r.one.0, omega (arith, r.one.1), r.one.2);
          least = All-cons (λ x. is_before x h ≡ false) g fs (not-back h g b) r.least;
        })
    by false b w =
        let k : g ≡ f = cc in
        subst (IsFirst (g ∷ fs)) k (record {
          one = (0, omega arith, refl);
          least = All-cons (λ x. is_before x g ≡ false) g fs (never-itself g) (not-before g h fs b r.least);
        })

pub is-first : (fs : List Fault) (f : Fault) → first_of fs ≡ Some f → IsFirst fs f
is-first [] f e = cc
is-first (g ∷ fs) f e = first-of-more g f fs (first_of fs) refl (sym (fold-earlier (Some g) fs) ∙ e) (is-first fs)

-- the first of two lists, found one after the other
pub then_more : (fs gs : List Fault) (a b o : Option Fault) → o ≡ earlier a b → a ≡ first_of fs → b ≡ first_of gs → o ≡ first_of (fs ++ gs)
then_more fs gs a b o e p q = e ∙ (λ i. earlier (p i) (q i)) ∙ sym (first_of-append fs gs)
