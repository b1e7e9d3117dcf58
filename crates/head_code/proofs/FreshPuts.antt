-- Tops of the slots in which terms stand, and what putting a term makes of them.
use Rattle.std.proofs.Common.{◌≡◌, ℕ, suc, ◌+◌, ◌<◌, ◌≤◌, true, false, List, [], ◌∷◌, ◌++◌, length, None, refl, sym, ◌∙◌, subst, length-append, arith}
use Rattle.std.specs.Prelude.{max}
use Rattle.std.proofs.Math.Nat.{le-max_left, le-max_right, max-le}
use Rattle.fcp_model.specs.Terms.{Term, number, string, nil, cons, tuple, var, ro, first, Terms, none, more}
use Rattle.machine_code.specs.Instructions.{Op, PutVar, PutWord, PutCons, PutTuple}
use Rattle.machine_code.specs.Machine.{count}
use Rattle.machine_code.specs.Fresh.{Tops, topped, top_of, IsFresh}
use Rattle.machine_code.proofs.Standing.{HasAt, has_front, has_back}
use Rattle.machine_code.proofs.Fresh.{fresh_at, top_here, top_other}
use Rattle.head_code.specs.TermCode.{width, widths, put, puts}

-- the greatest variable of a term
abbrev mutual
  pub greatest : Term ℕ → ℕ
  greatest (cons a b) = max (greatest a) (greatest b)
  greatest (tuple ts) = greatests ts
  greatest (number z) = 0
  greatest (string s) = 0
  greatest nil = 0
  greatest (var k) = k
  greatest (ro k) = k
  greatest (first k) = k

  pub greatests : Terms ℕ → ℕ
  greatests none = 0
  greatests (more t ts) = max (greatest t) (greatests ts)

-- slot q holds no variable above those of a term, and so do the slots from p on for its parts
abbrev mutual
  pub Holds : Tops → ℕ → ℕ → Term ℕ → Type 0
  Holds τ q p (cons a b) = (τ q ≤ max (greatest a) (greatest b)) × Holds τ p (suc (suc p)) a × Holds τ (suc p) (suc (suc (p + width a))) b
  Holds τ q p (tuple ts) = (τ q ≤ greatests ts) × HoldAll τ p (p + count ts) ts
  Holds τ q p (number z) = τ q ≤ 0
  Holds τ q p (string s) = τ q ≤ 0
  Holds τ q p nil = τ q ≤ 0
  Holds τ q p (var k) = τ q ≤ k
  Holds τ q p (ro k) = τ q ≤ k
  Holds τ q p (first k) = τ q ≤ k

  pub HoldAll : Tops → ℕ → ℕ → Terms ℕ → Type 0
  HoldAll τ q p none = Unit {0}
  HoldAll τ q p (more t ts) = Holds τ q p t × HoldAll τ (suc q) (p + width t) ts

pub holds_here : (t : Term ℕ) (τ : Tops) (q p : ℕ) → Holds τ q p t → τ q ≤ greatest t
holds_here (cons a b) τ q p h = h.0
holds_here (tuple ts) τ q p h = h.0
holds_here (number z) τ q p h = h
holds_here (string s) τ q p h = h
holds_here nil τ q p h = h
holds_here (var k) τ q p h = h
holds_here (ro k) τ q p h = h
holds_here (first k) τ q p h = h

as_low : (τ τ' : Tops) (q k : ℕ) → τ' q ≡ τ q → τ q ≤ k → τ' q ≤ k
as_low τ τ' q k e h = subst (λ x. x ≤ k) (sym e) h

-- tops that are the same where the term stands
mutual
  pub holds_on : (t : Term ℕ) (τ τ' : Tops) (q p : ℕ) → τ' q ≡ τ q → ((j : ℕ) → p ≤ j → j < p + width t → τ' j ≡ τ j) → Holds τ q p t
      → Holds τ' q p t
  holds_on (cons a b) τ τ' q p e k h = (
    as_low τ τ' q (max (greatest a) (greatest b)) e h.0,
    holds_on a τ τ' p (suc (suc p)) (k p (omega arith) (omega arith)) (λ j lo hi. k j (omega (arith, lo)) (omega (arith, hi))) h.1,
    holds_on b τ τ' (suc p) (suc (suc (p + width a))) (k (suc p) (omega arith) (omega arith))
        (λ j lo hi. k j (omega (arith, lo)) (omega (arith, hi))) h.2,
  )
  holds_on (tuple ts) τ τ' q p e k h = (
    as_low τ τ' q (greatests ts) e h.0,
    hold_all_on ts τ τ' p (p + count ts) (λ j lo hi. k j (omega (arith, lo)) (omega (arith, hi)))
        (λ j lo hi. k j (omega (arith, lo)) (omega (arith, hi))) h.1,
  )
  holds_on (number z) τ τ' q p e k h = as_low τ τ' q 0 e h
  holds_on (string s) τ τ' q p e k h = as_low τ τ' q 0 e h
  holds_on nil τ τ' q p e k h = as_low τ τ' q 0 e h
  holds_on (var v) τ τ' q p e k h = as_low τ τ' q v e h
  holds_on (ro v) τ τ' q p e k h = as_low τ τ' q v e h
  holds_on (first v) τ τ' q p e k h = as_low τ τ' q v e h

  pub hold_all_on : (ts : Terms ℕ) (τ τ' : Tops) (q p : ℕ) → ((j : ℕ) → q ≤ j → j < q + count ts → τ' j ≡ τ j)
      → ((j : ℕ) → p ≤ j → j < p + widths ts → τ' j ≡ τ j) → HoldAll τ q p ts → HoldAll τ' q p ts
  hold_all_on none τ τ' q p e k h = tt
  hold_all_on (more t ts) τ τ' q p e k h = (
    holds_on t τ τ' q p (e q (omega arith) (omega arith)) (λ j lo hi. k j lo (omega (arith, hi))) h.0,
    hold_all_on ts τ τ' (suc q) (p + width t) (λ j lo hi. e j (omega (arith, lo)) (omega (arith, hi)))
        (λ j lo hi. k j (omega (arith, lo)) (omega (arith, hi))) h.1,
  )

pub max_of_both : (a b c d : ℕ) → a ≤ c → b ≤ d → max a b ≤ max c d
max_of_both a b c d h k = max-le (omega (arith, h, le-max_left c d)) (omega (arith, k, le-max_right c d))

top_of_parts : (ts : Terms ℕ) (τ : Tops) (q p : ℕ) → HoldAll τ q p ts → top_of τ q (count ts) ≤ greatests ts
top_of_parts none τ q p h = omega arith
top_of_parts (more t ts) τ q p h =
    max_of_both (τ q) (top_of τ (suc q) (count ts)) (greatest t) (greatests ts) (holds_here t τ q p h.0)
    (top_of_parts ts τ (suc q) (p + width t) h.1)

module _ (code : List Op) where
  pub moved : (at at' : ℕ) (τ : Tops) (r : ℕ) → at ≡ at' → IsFresh code at τ r → IsFresh code at' τ r
  moved at at' τ r e h = subst (λ p. IsFresh code p τ r) e h

  -- from a position on all is fresh once a term stands in slot i and its parts in those from n on; lower slots are as before
  abbrev pub OncePut : ℕ → ℕ → ℕ → Tops → ℕ → Term ℕ → Type 0
  OncePut at i n τ r t =
      (υ : Tops) → Holds υ i n t → ((j : ℕ) → (j ≡ i → ⊥) → j < n → υ j ≡ τ j) → IsFresh code at υ r

  -- the same for terms in the slots from i on
  abbrev pub OnceAllPut : ℕ → ℕ → ℕ → Tops → ℕ → Terms ℕ → Type 0
  OnceAllPut at i n τ r ts =
      (υ : Tops) → HoldAll υ i n ts → ((j : ℕ) → j < i → υ j ≡ τ j) → ((j : ℕ) → i + count ts ≤ j → j < n → υ j ≡ τ j)
      → IsFresh code at υ r

  -- one instruction that puts
  one_put : (at i n k : ℕ) (τ : Tops) (r : ℕ) (t : Term ℕ) → (topped τ i k i ≡ k → Holds (topped τ i k) i n t)
      → OncePut (at + 1) i n τ r t → IsFresh code (suc at) (topped τ i k) r
  one_put at i n k τ r t st once =
      let e : at + 1 ≡ suc at = omega arith in
      moved (at + 1) (suc at) (topped τ i k) r e
      (once (topped τ i k) (st (top_here τ i k)) (λ j ne lt. top_other τ i j k ne))

  low : (x k : ℕ) → x ≡ k → x ≤ k
  low x k e = omega (arith, e)

  mutual
    pub put_fresh : (t : Term ℕ) (at i n : ℕ) (τ : Tops) (r : ℕ) → i < n → HasAt code at (put i n t)
        → OncePut (at + length (put i n t)) i n τ r t → IsFresh code at τ r
    put_fresh (number z) at i n τ r h has once =
        fresh_at code at τ r (PutWord i (number z)) has.0 (one_put at i n 0 τ r (number z) (low _ 0) once)
    put_fresh (string z) at i n τ r h has once =
        fresh_at code at τ r (PutWord i (string z)) has.0 (one_put at i n 0 τ r (string z) (low _ 0) once)
    put_fresh nil at i n τ r h has once = fresh_at code at τ r (PutWord i nil) has.0 (one_put at i n 0 τ r nil (low _ 0) once)
    put_fresh (var k) at i n τ r h has once =
        fresh_at code at τ r (PutVar i k false) has.0 (one_put at i n k τ r (var k) (low _ k) once)
    put_fresh (ro k) at i n τ r h has once =
        fresh_at code at τ r (PutVar i k true) has.0 (one_put at i n k τ r (ro k) (low _ k) once)
    put_fresh (first k) at i n τ r h has once =
        fresh_at code at τ r (PutVar i k false) has.0 (one_put at i n k τ r (first k) (low _ k) once)
    put_fresh (cons a b) at i n τ r h has once =
        let ca = put n (suc (suc n)) a in
        let cb = put (suc n) (suc (suc (n + width a))) b in
        let o = PutCons i n (suc n) in
        let hb = has_back code at ca (cb ++ o ∷ []) has in
        let end : at + length (ca ++ (cb ++ o ∷ [])) ≡ suc (at + length ca + length cb) =
        omega (arith, length-append ca (cb ++ o ∷ []), length-append cb (o ∷ [])) in
        put_fresh a at n (suc (suc n)) τ r (omega arith) (has_front code at ca (cb ++ o ∷ []) has) (λ υ st same.
        put_fresh b (at + length ca) (suc n) (suc (suc (n + width a))) υ r (omega arith)
        (has_front code (at + length ca) cb (o ∷ []) hb) (λ ω st' same'.
        let low_left : ω n ≤ greatest a =
        as_low υ ω n (greatest a) (same' n (λ e. omega (arith, e)) (omega arith)) (holds_here a υ n (suc (suc n)) st) in
        let low_right : ω (suc n) ≤ greatest b = holds_here b ω (suc n) (suc (suc (n + width a))) st' in
        let k = max (ω n) (ω (suc n)) in
        fresh_at code (at + length ca + length cb) ω r o (has_back code (at + length ca) cb (o ∷ []) hb).0
        (moved _ _ (topped ω i k) r end (once (topped ω i k) (
          as_low (λ j. k) (topped ω i k) i (max (greatest a) (greatest b)) (top_here ω i k)
              (max_of_both (ω n) (ω (suc n)) (greatest a) (greatest b) low_left low_right),
          holds_on a υ (topped ω i k) n (suc (suc n))
              (top_other ω i n k (λ e. omega (arith, h, e)) ∙ same' n (λ e. omega (arith, e)) (omega arith))
              (λ j lo hi. top_other ω i j k (λ e. omega (arith, h, lo, e)) ∙ same' j (λ e. omega (arith, lo, e)) (omega (arith, hi))) st,
          holds_on b ω (topped ω i k) (suc n) (suc (suc (n + width a))) (top_other ω i (suc n) k (λ e. omega (arith, h, e)))
              (λ j lo hi. top_other ω i j k (λ e. omega (arith, h, lo, e))) st',
        )
        (λ j ne lt. top_other ω i j k ne ∙ same' j (λ e. omega (arith, lt, e)) (omega (arith, lt))
        ∙ same j (λ e. omega (arith, lt, e)) (omega (arith, lt)))))))
    put_fresh (tuple ts) at i n τ r h has once =
        let c = puts n (n + count ts) ts in
        let o = PutTuple i n (count ts) None in
        let end : at + length (c ++ o ∷ []) ≡ suc (at + length c) = omega (arith, length-append c (o ∷ [])) in
        puts_fresh ts at n (n + count ts) τ r (omega arith) (has_front code at c (o ∷ []) has) (λ υ st below between.
        let k = top_of υ n (count ts) in
        fresh_at code (at + length c) υ r o (has_back code at c (o ∷ []) has).0
        (moved _ _ (topped υ i k) r end (once (topped υ i k) (
          as_low (λ j. k) (topped υ i k) i (greatests ts) (top_here υ i k) (top_of_parts ts υ n (n + count ts) st),
          hold_all_on ts υ (topped υ i k) n (n + count ts) (λ j lo hi. top_other υ i j k (λ e. omega (arith, h, lo, e)))
              (λ j lo hi. top_other υ i j k (λ e. omega (arith, h, lo, e))) st,
        )
        (λ j ne lt. top_other υ i j k ne ∙ below j lt))))

    pub puts_fresh : (ts : Terms ℕ) (at i n : ℕ) (τ : Tops) (r : ℕ) → i + count ts ≤ n → HasAt code at (puts i n ts)
        → OnceAllPut (at + length (puts i n ts)) i n τ r ts → IsFresh code at τ r
    puts_fresh none at i n τ r h has once =
        let e : at + 0 ≡ at = omega arith in
        moved (at + 0) at τ r e (once τ tt (λ j lt. refl) (λ j lo hi. refl))
    puts_fresh (more t ts) at i n τ r h has once =
        let c = put i n t in
        let cs = puts (suc i) (n + width t) ts in
        let end : at + length (c ++ cs) ≡ at + length c + length cs = omega (arith, length-append c cs) in
        put_fresh t at i n τ r (omega (arith, h)) (has_front code at c cs has) (λ υ st same.
        puts_fresh ts (at + length c) (suc i) (n + width t) υ r (omega (arith, h)) (has_back code at c cs has) (λ ω sts below between.
        moved _ _ ω r end (once ω
        (holds_on t υ ω i n (below i (omega arith)) (λ j lo hi. between j (omega (arith, h, lo)) hi) st, sts)
        (λ j lt. below j (omega (arith, lt)) ∙ same j (λ e. omega (arith, lt, e)) (omega (arith, lt, h)))
        (λ j lo hi. between j (omega (arith, lo)) (omega (arith, hi)) ∙ same j (λ e. omega (arith, lo, e)) hi))))
