-- The code of heads binds fresh variables: what the goal's side has brought into slots has no top, and no variable is released above
-- those met so far.
use Rattle.std.proofs.Common.{◌≡◌, ℕ, suc, ◌+◌, ◌<◌, ◌≤◌, Bool, true, false, List, [], ◌∷◌, ◌++◌, length, refl, ◌∙◌, subst, length-append, arith}
use Rattle.std.specs.Prelude.{max, nat_lt, if◌then◌else◌}
use Rattle.std.proofs.Math.Nat.{le-max_left, le-max_right, max-le}
use Rattle.std.proofs.lemmas.Bool.{ltb-true}
use Rattle.fcp_model.specs.Terms.{Term, number, string, nil, cons, tuple, var, ro, first, Terms, none, more}
use Rattle.fcp_model.specs.HeadPairs.{mark, marks}
use Rattle.machine_code.specs.Instructions.{Op, GetFirst, GetCons, GetTuple, Unify, Jump}
use Rattle.machine_code.specs.Machine.{count}
use Rattle.machine_code.specs.Fresh.{Tops, topped, all_topped, IsFresh}
use Rattle.machine_code.proofs.Standing.{HasAt, has_front, has_back}
use Rattle.machine_code.proofs.Fresh.{fresh_at, top_here, top_other, all_tops_here, all_tops_other}
use Rattle.machine_code.specs.Each.{Each}
use Rattle.head_code.specs.SourceTerms.{IsSourceTerm, AreSourceTerms}
use Rattle.head_code.specs.TermCode.{width, widths, put}
use Rattle.head_code.specs.HeadCode.{Stock, unmade, made, left_stock, right_stock, part_stock, next_stock, ask, joined, between, get, gets, is_stocked, argument_code, head_code}
use Rattle.head_code.proofs.FreshPuts.{greatest, greatests, Holds, HoldAll, holds_here, holds_on, hold_all_on, moved, put_fresh}

-- marking meets all variables of a term
mutual
  pub met_before : (t : Term ℕ) (met : ℕ) → met ≤ (mark met t).met
  met_before (number z) met = omega arith
  met_before (string s) met = omega arith
  met_before nil met = omega arith
  met_before (var k) met = le-max_left met k
  met_before (ro k) met = le-max_left met k
  met_before (first k) met = le-max_left met k
  met_before (cons a b) met = omega (arith, met_before a met, met_before b (mark met a).met)
  met_before (tuple ts) met = all_met_before ts met

  pub all_met_before : (ts : Terms ℕ) (met : ℕ) → met ≤ (marks met ts).met
  all_met_before none met = omega arith
  all_met_before (more t ts) met = omega (arith, met_before t met, all_met_before ts (mark met t).met)

mutual
  pub greatest_met : (t : Term ℕ) (met : ℕ) → greatest (mark met t).item ≤ (mark met t).met
  greatest_met (number z) met = omega arith
  greatest_met (string s) met = omega arith
  greatest_met nil met = omega arith
  greatest_met (var k) met = by (nat_lt met k)
    where
      by : (b : Bool) → greatest (if b then first k else var k) ≤ max met k
      by true = le-max_right met k
      by false = le-max_right met k
  greatest_met (ro k) met = le-max_right met k
  greatest_met (first k) met = le-max_right met k
  greatest_met (cons a b) met =
      let m = (mark met a).met in
      max-le (omega (arith, greatest_met a met, met_before b m)) (greatest_met b m)
  greatest_met (tuple ts) met = all_greatest_met ts met

  pub all_greatest_met : (ts : Terms ℕ) (met : ℕ) → greatests (marks met ts).item ≤ (marks met ts).met
  all_greatest_met none met = omega arith
  all_greatest_met (more t ts) met =
      let m = (mark met t).met in
      max-le (omega (arith, greatest_met t met, all_met_before ts m)) (all_greatest_met ts m)

-- where a term is in stock, it stands in slots below n
abbrev pub HeldBelow : Stock → ℕ → Tops → Term ℕ → Type 0
HeldBelow unmade n τ t = Unit {0}
HeldBelow (made q p) n τ t = (q < n) × (p + width t ≤ n) × Holds τ q p t

abbrev pub AllHeldBelow : Stock → ℕ → Tops → Terms ℕ → Type 0
AllHeldBelow unmade n τ ts = Unit {0}
AllHeldBelow (made q p) n τ ts = (q + count ts ≤ n) × (p + widths ts ≤ n) × HoldAll τ q p ts

-- tops that are the same below n
abbrev pub AgreeBelow : ℕ → Tops → Tops → Type 0
AgreeBelow n υ τ = (j : ℕ) → j < n → υ j ≡ τ j

left_held : (w : Stock) (n n' : ℕ) (τ υ : Tops) (a b : Term ℕ) → n ≤ n' → AgreeBelow n υ τ → HeldBelow w n τ (cons a b)
    → HeldBelow (left_stock w) n' υ a
left_held unmade n n' τ υ a b h k st = tt
left_held (made q p) n n' τ υ a b h k st = (
  omega (arith, h, st.1),
  omega (arith, h, st.1),
  holds_on a τ υ p (suc (suc p)) (k p (omega (arith, st.1))) (λ j lo hi. k j (omega (arith, hi, st.1))) st.2.1,
)

right_held : (w : Stock) (n n' : ℕ) (τ υ : Tops) (a b : Term ℕ) → n ≤ n' → AgreeBelow n υ τ → HeldBelow w n τ (cons a b)
    → HeldBelow (right_stock (width a) w) n' υ b
right_held unmade n n' τ υ a b h k st = tt
right_held (made q p) n n' τ υ a b h k st = (
  omega (arith, h, st.1),
  omega (arith, h, st.1),
  holds_on b τ υ (suc p) (suc (suc (p + width a))) (k (suc p) (omega (arith, st.1))) (λ j lo hi. k j (omega (arith, hi, st.1))) st.2.2,
)

parts_held : (w : Stock) (n n' : ℕ) (τ υ : Tops) (ts : Terms ℕ) → n ≤ n' → AgreeBelow n υ τ → HeldBelow w n τ (tuple ts)
    → AllHeldBelow (part_stock (count ts) w) n' υ ts
parts_held unmade n n' τ υ ts h k st = tt
parts_held (made q p) n n' τ υ ts h k st = (
  omega (arith, h, st.1),
  omega (arith, h, st.1),
  hold_all_on ts τ υ p (p + count ts) (λ j lo hi. k j (omega (arith, hi, st.1))) (λ j lo hi. k j (omega (arith, hi, st.1))) st.2.1,
)

front_held : (w : Stock) (n : ℕ) (τ : Tops) (t : Term ℕ) (ts : Terms ℕ) → AllHeldBelow w n τ (more t ts) → HeldBelow w n τ t
front_held unmade n τ t ts st = tt
front_held (made q p) n τ t ts st = (omega (arith, st.0), omega (arith, st.1), st.2.0)

rest_held : (w : Stock) (n : ℕ) (τ υ : Tops) (t : Term ℕ) (ts : Terms ℕ) → AgreeBelow n υ τ → AllHeldBelow w n τ (more t ts)
    → AllHeldBelow (next_stock (width t) w) n υ ts
rest_held unmade n τ υ t ts k st = tt
rest_held (made q p) n τ υ t ts k st = (
  omega (arith, st.0),
  omega (arith, st.1),
  hold_all_on ts τ υ (suc q) (p + width t) (λ j lo hi. k j (omega (arith, hi, st.0))) (λ j lo hi. k j (omega (arith, hi, st.1))) st.2.1,
)

-- what a unification releases
released : (r x y m : ℕ) → r ≤ m → x ≡ 0 → y ≤ m → max r (max x y) ≤ m
released r x y m h e k = max-le h (max-le (omega (arith, e)) k)

module _ (code : List Op) where
  -- from a position on all is fresh, with nothing released above a variable; tops below n are as they were
  abbrev pub Next : ℕ → ℕ → Tops → ℕ → Type 0
  Next at n τ met = (υ : Tops) (q : ℕ) → AgreeBelow n υ τ → q ≤ met → IsFresh code at υ q

  next_at : (at at' n : ℕ) (τ : Tops) (met : ℕ) → at ≡ at' → Next at n τ met → Next at' n τ met
  next_at at at' n τ met e h = subst (λ p. Next p n τ met) e h

  -- the slot as a whole against the head's term
  ask_fresh : (t : Term ℕ) (at i n : ℕ) (w : Stock) (τ : Tops) (r met : ℕ) → i < n → τ i ≡ 0 → r ≤ met → greatest t ≤ met
      → HeldBelow w n τ t → HasAt code at (ask i n w t) → Next (at + length (ask i n w t)) n τ met → IsFresh code at τ r
  ask_fresh t at i n (made q p) τ r met h z le g st has next =
      let end : at + length (Unify i q ∷ []) ≡ suc at = omega arith in
      fresh_at code at τ r (Unify i q) has.0
      (next_at _ (suc at) n τ met end next τ (max r (max (τ i) (τ q))) (λ j lt. refl)
      (released r (τ i) (τ q) met le z (omega (arith, g, holds_here t τ q p st.2))))
  ask_fresh t at i n unmade τ r met h z le g st has next =
      let c = put n (suc n) t in
      let end : at + length (c ++ Unify i n ∷ []) ≡ suc (at + length c) = omega (arith, length-append c (Unify i n ∷ [])) in
      put_fresh code t at n (suc n) τ r (omega arith) (has_front code at c (Unify i n ∷ []) has) (λ υ held same.
      let agree : AgreeBelow n υ τ = λ j lt. same j (λ e. omega (arith, lt, e)) (omega (arith, lt)) in
      fresh_at code (at + length c) υ r (Unify i n) (has_back code at c (Unify i n ∷ []) has).0
      (next_at _ (suc (at + length c)) n τ met end next υ (max r (max (υ i) (υ n))) agree
      (released r (υ i) (υ n) met le (agree i h ∙ z) (omega (arith, g, holds_here t υ n (suc n) held)))))

  -- after the code for the parts of a value that was opened
  jumped : (at n : ℕ) (opener : ℕ → Op) (inner other : List Op) (τ : Tops) (met : ℕ) → HasAt code at (between at opener inner other)
      → Next (at + length (between at opener inner other)) n τ met → Next (suc at + length inner) n τ met
  jumped at n opener inner other τ met has next υ q agree le =
      let to = suc (suc at + length inner) + length other in
      let end : at + length (between at opener inner other) ≡ to = omega (arith, length-append inner (Jump to ∷ other)) in
      fresh_at code (suc at + length inner) υ q (Jump to) (has_back code (suc at) inner (Jump to ∷ other) has.1).0
      (next_at _ to n τ met end next υ q agree le)

  -- after the code for a value that was not
  unopened : (at n : ℕ) (opener : ℕ → Op) (inner other : List Op) (τ : Tops) (met : ℕ)
      → Next (at + length (between at opener inner other)) n τ met → Next (suc (suc at + length inner) + length other) n τ met
  unopened at n opener inner other τ met next =
      let to = suc (suc at + length inner) + length other in
      next_at _ to n τ met (omega (arith, length-append inner (Jump to ∷ other))) next

  fewer : (at n n' : ℕ) (τ υ : Tops) (met : ℕ) → n ≤ n' → AgreeBelow n υ τ → Next at n τ met → Next at n' υ met
  fewer at n n' τ υ met h agree next ω q k le = next ω q (λ j lt. k j (omega (arith, lt, h)) ∙ agree j lt) le

  mutual
    pub get_fresh : (t : Term ℕ) (met at i n : ℕ) (w : Stock) (τ : Tops) (r : ℕ) → IsSourceTerm t → i < n → τ i ≡ 0 → r ≤ met
        → HeldBelow w n τ (mark met t).item → HasAt code at (get at i n w (mark met t).item)
        → Next (at + length (get at i n w (mark met t).item)) n τ (mark met t).met → IsFresh code at τ r
    get_fresh (number z) met at i n w τ r src h e le st has next = ask_fresh (number z) at i n w τ r met h e le (omega arith) st has next
    get_fresh (string s) met at i n w τ r src h e le st has next = ask_fresh (string s) at i n w τ r met h e le (omega arith) st has next
    get_fresh nil met at i n w τ r src h e le st has next = ask_fresh nil at i n w τ r met h e le (omega arith) st has next
    get_fresh (ro k) met at i n w τ r src h e le st has next =
        ask_fresh (ro k) at i n w τ r (max met k) h e (omega (arith, le, le-max_left met k)) (le-max_right met k) st has next
    get_fresh (first k) met at i n w τ r src h e le st has next = absurd src
    get_fresh (var k) met at i n w τ r src h e le st has next = by (nat_lt met k) refl st has next
      where
        by : (b : Bool) → nat_lt met k ≡ b → HeldBelow w n τ (if b then first k else var k)
            → HasAt code at (get at i n w (if b then first k else var k))
            → Next (at + length (get at i n w (if b then first k else var k))) n τ (max met k) → IsFresh code at τ r
        by true lt st has next =
            let above : met < k = ltb-true met k lt in
            let end : at + 1 ≡ suc at = omega arith in
            fresh_at code at τ r (GetFirst i k) has.0 (λ m. (
              omega (arith, e, above),
              omega (arith, le, above),
              next_at _ (suc at) n τ (max met k) end next τ k (λ j lt. refl)
                  (le-max_right met k) m,
            ))
        by false lt st has next =
            ask_fresh (var k) at i n w τ r (max met k) h e (omega (arith, le, le-max_left met k)) (le-max_right met k) st has next
    get_fresh (cons a b) met at i n w τ r src h e le st has next =
        let x = (mark met a).item in
        let y = (mark (mark met a).met b).item in
        let ga = get (suc at) n (suc (suc n)) (left_stock w) x in
        let gb = get (suc at + length ga) (suc n) (suc (suc n)) (right_stock (width x) w) y in
        let other = ask i n w (cons x y) in
        let υ = topped (topped τ n (τ i)) (suc n) (τ i) in
        let to = suc (suc at + length (ga ++ gb)) in
        let has_inner = has_front code (suc at) (ga ++ gb) (Jump (to + length other) ∷ other) has.1 in
        let has_other = has_back code (suc at) (ga ++ gb) (Jump (to + length other) ∷ other) has.1 in
        let agree : AgreeBelow n υ τ =
        λ j lt. top_other (topped τ n (τ i)) (suc n) j (τ i) (λ z. omega (arith, lt, z))
        ∙ top_other τ n j (τ i) (λ z. omega (arith, lt, z)) in
        let left_zero : υ n ≡ 0 =
        top_other (topped τ n (τ i)) (suc n) n (τ i) (λ z. omega (arith, z)) ∙ top_here τ n (τ i) ∙ e in
        let right_zero : υ (suc n) ≡ 0 = top_here (topped τ n (τ i)) (suc n) (τ i) ∙ e in
        let end : suc at + length (ga ++ gb) ≡ suc at + length ga + length gb = omega (arith, length-append ga gb) in
        let after : Next (suc at + length ga + length gb) n τ (mark (mark met a).met b).met =
        next_at _ _ n τ _ end (jumped at n (GetCons i n (suc n)) (ga ++ gb) other τ _ has next) in
        let opened : IsFresh code (suc at) υ r =
        get_fresh a met (suc at) n (suc (suc n)) (left_stock w) υ r src.0 (omega arith) left_zero le
        (left_held w n (suc (suc n)) τ υ x y (omega arith) agree st) (has_front code (suc at) ga gb has_inner) (λ ω q k le'.
        get_fresh b (mark met a).met (suc at + length ga) (suc n) (suc (suc n)) (right_stock (width x) w) ω q src.1 (omega arith)
        (k (suc n) (omega arith) ∙ right_zero) le'
        (right_held w n (suc (suc n)) τ ω x y (omega arith) (λ j lt. k j (omega (arith, lt)) ∙ agree j lt) st)
        (has_back code (suc at) ga gb has_inner)
        (fewer _ n (suc (suc n)) τ ω _ (omega arith) (λ j lt. k j (omega (arith, lt)) ∙ agree j lt) after)) in
        let closed : IsFresh code to τ r =
        ask_fresh (cons x y) to i n w τ r (mark (mark met a).met b).met h e
        (omega (arith, le, met_before (cons a b) met)) (greatest_met (cons a b) met) st has_other.1
        (unopened at n (GetCons i n (suc n)) (ga ++ gb) other τ _ next) in
        fresh_at code at τ r (GetCons i n (suc n) to) has.0 (λ m. (opened m, closed m))
    get_fresh (tuple ts) met at i n w τ r src h e le st has next =
        let us = (marks met ts).item in
        let g = gets (suc at) n (n + count us) (part_stock (count us) w) us in
        let other = ask i n w (tuple us) in
        let υ = all_topped τ n (count us) (τ i) in
        let to = suc (suc at + length g) in
        let has_other = has_back code (suc at) g (Jump (to + length other) ∷ other) has.1 in
        let agree : AgreeBelow n υ τ = λ j lt. all_tops_other (count us) τ n j (τ i) lt in
        let opened : IsFresh code (suc at) υ r =
        gets_fresh ts met (suc at) n (n + count us) (part_stock (count us) w) υ r src (omega arith)
        (λ j lo hi. all_tops_here (count us) τ n j (τ i) lo hi ∙ e) le (parts_held w n (n + count us) τ υ us (omega arith) agree st)
        (has_front code (suc at) g (Jump (to + length other) ∷ other) has.1)
        (fewer _ n (n + count us) τ υ _ (omega arith) agree (jumped at n (GetTuple i n (count us)) g other τ _ has next)) in
        let closed : IsFresh code to τ r =
        ask_fresh (tuple us) to i n w τ r (marks met ts).met h e (omega (arith, le, all_met_before ts met)) (all_greatest_met ts met) st
        has_other.1 (unopened at n (GetTuple i n (count us)) g other τ _ next) in
        fresh_at code at τ r (GetTuple i n (count us) to) has.0 (λ m. (opened m, closed m))

    pub gets_fresh : (ts : Terms ℕ) (met at i n : ℕ) (w : Stock) (τ : Tops) (r : ℕ) → AreSourceTerms ts → i + count (marks met ts).item ≤ n
        → ((j : ℕ) → i ≤ j → j < i + count (marks met ts).item → τ j ≡ 0) → r ≤ met → AllHeldBelow w n τ (marks met ts).item
        → HasAt code at (gets at i n w (marks met ts).item)
        → Next (at + length (gets at i n w (marks met ts).item)) n τ (marks met ts).met → IsFresh code at τ r
    gets_fresh none met at i n w τ r src h z le st has next =
        let e : at + 0 ≡ at = omega arith in
        next_at _ at n τ met e next τ r (λ j lt. refl) le
    gets_fresh (more t ts) met at i n w τ r src h z le st has next =
        let x = (mark met t).item in
        let us = (marks (mark met t).met ts).item in
        let g = get at i n w x in
        let gs = gets (at + length g) (suc i) n (next_stock (width x) w) us in
        let end : at + length (g ++ gs) ≡ at + length g + length gs = omega (arith, length-append g gs) in
        get_fresh t met at i n w τ r src.0 (omega (arith, h)) (z i (omega arith) (omega arith)) le (front_held w n τ x us st)
        (has_front code at g gs has) (λ υ q k le'.
        gets_fresh ts (mark met t).met (at + length g) (suc i) n (next_stock (width x) w) υ q src.1 (omega (arith, h))
        (λ j lo hi. k j (omega (arith, hi, h)) ∙ z j (omega (arith, lo)) (omega (arith, hi))) le' (rest_held w n τ υ x us k st)
        (has_back code at g gs has) (fewer _ n n τ υ _ (omega arith) k (next_at _ _ n τ _ end next)))

  argument_fresh : (t : Term ℕ) (met at i n : ℕ) (τ : Tops) (r : ℕ) → IsSourceTerm t → i < n → τ i ≡ 0 → r ≤ met
      → HasAt code at (argument_code at i n (mark met t).item)
      → Next (at + length (argument_code at i n (mark met t).item)) n τ (mark met t).met → IsFresh code at τ r
  argument_fresh t met at i n τ r src h e le has next = by (is_stocked (mark met t).item) has next
    where
      x : Term ℕ
      x = (mark met t).item

      by : (b : Bool)
          → HasAt code at (elim b as (λ _. List Op) [
            | true ↦ joined at (put n (suc n) x) (λ p. get p i (suc n + width x) (made n (suc n)) x)
            | false ↦ get at i n unmade x
          ])
          → Next (at + length (elim b as (λ _. List Op) [
            | true ↦ joined at (put n (suc n) x) (λ p. get p i (suc n + width x) (made n (suc n)) x)
            | false ↦ get at i n unmade x
          ])) n τ (mark met t).met → IsFresh code at τ r
      by true has next =
          let c = put n (suc n) x in
          let n' = suc n + width x in
          let g = get (at + length c) i n' (made n (suc n)) x in
          let end : at + length (c ++ g) ≡ at + length c + length g = omega (arith, length-append c g) in
          put_fresh code x at n (suc n) τ r (omega arith) (has_front code at c g has) (λ υ held same.
          let agree : AgreeBelow n υ τ = λ j lt. same j (λ z. omega (arith, lt, z)) (omega (arith, lt)) in
          get_fresh t met (at + length c) i n' (made n (suc n)) υ r src (omega (arith, h)) (agree i h ∙ e) le
          (omega arith, omega arith, held) (has_back code at c g has)
          (fewer _ n n' τ υ _ (omega arith) agree (next_at _ _ n τ _ end next)))
      by false has next = get_fresh t met at i n unmade τ r src h e le tt has next

  -- the code of a head: the arguments stand in the slots below n, and have no tops
  pub head_fresh : (ts : List (Term ℕ)) (met at i n : ℕ) (τ : Tops) (r : ℕ) → Each IsSourceTerm ts → i + length ts ≤ n
      → ((j : ℕ) → j < n → τ j ≡ 0) → r ≤ met
      → HasAt code at (head_code at i n met ts)
      → ((υ : Tops) (q : ℕ) → IsFresh code (at + length (head_code at i n met ts)) υ q) → IsFresh code at τ r
  head_fresh [] met at i n τ r src h z le has next =
      let e : at + 0 ≡ at = omega arith in
      moved code (at + 0) at τ r e (next τ r)
  head_fresh (t ∷ ts) met at i n τ r src h z le has next =
      let c = argument_code at i n (mark met t).item in
      let cs = head_code (at + length c) (suc i) n (mark met t).met ts in
      let end : at + length (c ++ cs) ≡ at + length c + length cs = omega (arith, length-append c cs) in
      argument_fresh t met at i n τ r src.0 (omega (arith, h)) (z i (omega (arith, h))) le (has_front code at c cs has) (λ υ q k le'.
      head_fresh ts (mark met t).met (at + length c) (suc i) n υ q src.1 (omega (arith, h)) (λ j lt. k j lt ∙ z j lt) le'
      (has_back code at c cs has) (λ ω s. moved code _ _ ω s end (next ω s)))
