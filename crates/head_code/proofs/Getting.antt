-- The code of a head does what the unification of its pairs does.
use Rattle.std.proofs.Common.{◌≡◌, ℕ, suc, ◌+◌, ◌<◌, ◌≤◌, Bool, true, false, List, [], ◌∷◌, ◌++◌, length, Option, refl, sym, ap, ◌∙◌, subst, length-append, arith}
use Rattle.fcp_model.specs.Places.{Variable, own}
use Rattle.fcp_model.specs.Terms.{Term, number, string, nil, cons, tuple, var, ro, first, Terms, none, more, rename, renames, Bindings}
use Rattle.fcp_model.specs.Pair.{Pair}
use Rattle.fcp_model.specs.HeadPairs.{mark, head_pairs}
use Rattle.fcp_model.specs.Unification.{Ended, done, unify}
use Rattle.fcp_model.specs.Expressions.{leaf}
use Rattle.fcp_model.proofs.MoreSteps.{unify_more}
use Rattle.machine_code.specs.Slots.{Slots, hold, hold_all, as_term}
use Rattle.machine_code.specs.Instructions.{Op, GetFirst, GetCons, GetTuple, Unify, Jump}
use Rattle.machine_code.specs.Machine.{Trying, Meaning, count}
use Rattle.head_code.specs.TermCode.{width, widths, put}
use Rattle.head_code.specs.HeadCode.{Stock, unmade, made, left_stock, right_stock, part_stock, next_stock, ask, joined, between, get, gets, is_stocked, argument_code, head_code}
use Rattle.machine_code.proofs.Same.{Same, turned, then_same, given_at}
use Rattle.machine_code.proofs.Held.{hold_here, hold_other, HoldAll, all_other, all_held, held_on}
use Rattle.head_code.proofs.Slots.{shown, Stands, StandAll, stands_here, stands_on, stand_all_on}
use Rattle.machine_code.proofs.Standing.{HasAt, has_front, has_back, From, obeyed}
use Rattle.machine_code.proofs.Tables.{count_renames, zipped}
use Rattle.head_code.proofs.Putting.{put_does}
use Rattle.machine_code.proofs.Opening.{At, Left, IsTry, unify_does, first_does, pair_opened, tuple_opened}

-- where a term is in stock, it stands in slots below n
abbrev pub Stocked : Stock → ℕ → Slots → Term ℕ → Type 0
Stocked unmade n σ t = Unit {0}
Stocked (made q p) n σ t = (q < n) × (p + width t ≤ n) × Stands σ q p t

abbrev pub StockedAll : Stock → ℕ → Slots → Terms ℕ → Type 0
StockedAll unmade n σ ts = Unit {0}
StockedAll (made q p) n σ ts = (q + count ts ≤ n) × (p + widths ts ≤ n) × StandAll σ q p ts

-- slots that are the same below n
abbrev pub AgreeBelow : ℕ → Slots → Slots → Type 0
AgreeBelow n σ' σ = (j : ℕ) → j < n → σ' j ≡ σ j

left_stocked : (w : Stock) (n n' : ℕ) (σ σ' : Slots) (a b : Term ℕ) → n ≤ n' → AgreeBelow n σ' σ → Stocked w n σ (cons a b)
    → Stocked (left_stock w) n' σ' a
left_stocked unmade n n' σ σ' a b h k st = tt
left_stocked (made q p) n n' σ σ' a b h k st = (
  omega (arith, h, st.1),
  omega (arith, h, st.1),
  stands_on a σ σ' p (suc (suc p)) (k p (omega (arith, st.1)))
      (λ j lo hi. k j (omega (arith, hi, st.1))) st.2.1,
)

right_stocked : (w : Stock) (n n' : ℕ) (σ σ' : Slots) (a b : Term ℕ) → n ≤ n' → AgreeBelow n σ' σ → Stocked w n σ (cons a b)
    → Stocked (right_stock (width a) w) n' σ' b
right_stocked unmade n n' σ σ' a b h k st = tt
right_stocked (made q p) n n' σ σ' a b h k st = (
  omega (arith, h, st.1),
  omega (arith, h, st.1),
  stands_on b σ σ' (suc p) (suc (suc (p + width a))) (k (suc p) (omega (arith, st.1)))
      (λ j lo hi. k j (omega (arith, hi, st.1))) st.2.2,
)

parts_stocked : (w : Stock) (n n' : ℕ) (σ σ' : Slots) (ts : Terms ℕ) → n ≤ n' → AgreeBelow n σ' σ → Stocked w n σ (tuple ts)
    → StockedAll (part_stock (count ts) w) n' σ' ts
parts_stocked unmade n n' σ σ' ts h k st = tt
parts_stocked (made q p) n n' σ σ' ts h k st = (
  omega (arith, h, st.1),
  omega (arith, h, st.1),
  stand_all_on ts σ σ' p (p + count ts) (λ j lo hi. k j (omega (arith, hi, st.1)))
      (λ j lo hi. k j (omega (arith, hi, st.1))) st.2.1,
)

front_stocked : (w : Stock) (n : ℕ) (σ : Slots) (t : Term ℕ) (ts : Terms ℕ) → StockedAll w n σ (more t ts) → Stocked w n σ t
front_stocked unmade n σ t ts st = tt
front_stocked (made q p) n σ t ts st = (omega (arith, st.0), omega (arith, st.1), st.2.0)

rest_stocked : (w : Stock) (n : ℕ) (σ σ' : Slots) (t : Term ℕ) (ts : Terms ℕ) → AgreeBelow n σ' σ → StockedAll w n σ (more t ts)
    → StockedAll (next_stock (width t) w) n σ' ts
rest_stocked unmade n σ σ' t ts k st = tt
rest_stocked (made q p) n σ σ' t ts k st = (
  omega (arith, st.0),
  omega (arith, st.1),
  stand_all_on ts σ σ' (suc q) (p + width t) (λ j lo hi. k j (omega (arith, hi, st.0)))
      (λ j lo hi. k j (omega (arith, hi, st.1))) st.2.1,
)

module _ (s : Bindings) (code : List Op) (args : List (Term Variable)) (base : Trying) (W : Ended → ℕ → Option Meaning)
    (try : IsTry s code args base W) where
  -- from a position on, whatever is bound and read by then, the code does what is to follow the pairs that are left; slots
  -- below n are as they were
  abbrev pub Then : ℕ → ℕ → Slots → List Pair → Type 0
  Then at n σ ps =
      (σ' : Slots) (bs : Bindings) (qs : List Variable) → AgreeBelow n σ' σ
      → Same (From s code args at (At s code args base W σ' bs qs)) (Left s code args base W bs qs ps)

  then_at : (at at' n : ℕ) (σ : Slots) (ps : List Pair) → at ≡ at' → Then at n σ ps → Then at' n σ ps
  then_at at at' n σ ps e h = subst (λ p. Then p n σ ps) e h

  -- the slot as a whole against the head's term
  ask_does : (t : Term ℕ) (at i n : ℕ) (w : Stock) (σ : Slots) (bs : Bindings) (qs : List Variable) (a : Term Variable) (ps : List Pair)
      → i < n → as_term (σ i) ≡ a → Stocked w n σ t → HasAt code at (ask i n w t) → Then (at + length (ask i n w t)) n σ ps
      → Same (From s code args at (At s code args base W σ bs qs)) (Left s code args base W bs qs ((a, shown t) ∷ ps))
  ask_does t at i n (made q p) σ bs qs a ps h e st has next =
      let end : at + length (Unify i q ∷ []) ≡ suc at = omega arith in
      unify_does s code args base W try at i q σ bs qs a (shown t) ps has.0 e (ap as_term (stands_here t σ q p st.2))
      (λ bs' rs. then_at _ (suc at) n σ ps end next σ bs' rs (λ j lt. refl))
  ask_does t at i n unmade σ bs qs a ps h e st has next =
      let c = put n (suc n) t in
      let p =
      put_does s code args t at n (suc n) (At s code args base W σ bs qs) (omega arith) (has_front code at c (Unify i n ∷ []) has) in
      let agree : AgreeBelow n p.after σ = λ j lt. p.same j (λ z. omega (arith, lt, z)) (omega (arith, lt)) in
      let end : at + length (c ++ Unify i n ∷ []) ≡ suc (at + length c) = omega (arith, length-append c (Unify i n ∷ [])) in
      then_same _ _ _ p.leads
      (unify_does s code args base W try (at + length c) i n p.after bs qs a (shown t) ps (has_back code at c (Unify i n ∷ []) has).0
      (ap as_term (agree i h) ∙ e) (ap as_term (stands_here t p.after n (suc n) p.stands))
      (λ bs' rs. then_at _ (suc (at + length c)) n σ ps end next p.after bs' rs agree))

  -- what stands between an opening instruction and the end of its code
  jumped : (at n : ℕ) (opener : ℕ → Op) (inner other : List Op) (σ : Slots) (ps : List Pair)
      → HasAt code at (between at opener inner other) → Then (at + length (between at opener inner other)) n σ ps
      → Then (suc at + length inner) n σ ps
  jumped at n opener inner other σ ps has next σ' bs qs k =
      let to = suc (suc at + length inner) + length other in
      let end : at + length (between at opener inner other) ≡ to = omega (arith, length-append inner (Jump to ∷ other)) in
      then_same _ _ _ (obeyed s code args (suc at + length inner) (At s code args base W σ' bs qs) (Jump to)
      (has_back code (suc at) inner (Jump to ∷ other) has.1).0)
      (then_at _ to n σ ps end next σ' bs qs k)

  behind_other : (at n : ℕ) (opener : ℕ → Op) (inner other : List Op) (σ : Slots) (ps : List Pair)
      → Then (at + length (between at opener inner other)) n σ ps → Then (suc (suc at + length inner) + length other) n σ ps
  behind_other at n opener inner other σ ps next =
      let to = suc (suc at + length inner) + length other in
      let end : at + length (between at opener inner other) ≡ to = omega (arith, length-append inner (Jump to ∷ other)) in
      then_at _ to n σ ps end next

  joined_end : (at n : ℕ) (xs ys : List Op) (σ : Slots) (ps : List Pair) → Then (at + length (xs ++ ys)) n σ ps
      → Then (at + length xs + length ys) n σ ps
  joined_end at n xs ys σ ps next =
      let end : at + length (xs ++ ys) ≡ at + length xs + length ys = omega (arith, length-append xs ys) in
      then_at _ _ n σ ps end next

  mutual
    pub get_does : (t : Term ℕ) (at i n : ℕ) (w : Stock) (σ : Slots) (bs : Bindings) (qs : List Variable) (a : Term Variable)
        (ps : List Pair) → i < n → as_term (σ i) ≡ a → Stocked w n σ t → HasAt code at (get at i n w t)
        → Then (at + length (get at i n w t)) n σ ps
        → Same (From s code args at (At s code args base W σ bs qs)) (Left s code args base W bs qs ((a, rename own t) ∷ ps))
    get_does (number z) at i n w σ bs qs a ps h e st has next = ask_does (number z) at i n w σ bs qs a ps h e st has next
    get_does (string z) at i n w σ bs qs a ps h e st has next = ask_does (string z) at i n w σ bs qs a ps h e st has next
    get_does nil at i n w σ bs qs a ps h e st has next = ask_does nil at i n w σ bs qs a ps h e st has next
    get_does (var k) at i n w σ bs qs a ps h e st has next = ask_does (var k) at i n w σ bs qs a ps h e st has next
    get_does (ro k) at i n w σ bs qs a ps h e st has next = ask_does (ro k) at i n w σ bs qs a ps h e st has next
    get_does (first k) at i n w σ bs qs a ps h e st has next =
        let end : at + length (GetFirst i k ∷ []) ≡ suc at = omega arith in
        first_does s code args base W try at i k σ bs qs a ps has.0 e
        (λ bs' rs. then_at _ (suc at) n σ ps end next σ bs' rs (λ j lt. refl))
    get_does (cons x y) at i n w σ bs qs a ps h e st has next =
        let gx = get (suc at) n (suc (suc n)) (left_stock w) x in
        let gy = get (suc at + length gx) (suc n) (suc (suc n)) (right_stock (width x) w) y in
        let other = ask i n w (cons x y) in
        let opener = GetCons i n (suc n) in
        let to = suc (suc at + length (gx ++ gy)) + length other in
        let inner = has_front code (suc at) (gx ++ gy) (Jump to ∷ other) has.1 in
        pair_opened s code args base W try at i n (suc (suc at + length (gx ++ gy))) σ bs qs a (rename own x) (rename own y) ps has.0 e
        (λ c d.
        let σ' = hold (hold σ n (leaf c)) (suc n) (leaf d) in
        let agree : AgreeBelow n σ' σ =
        λ j lt. hold_other (hold σ n (leaf c)) (suc n) j (leaf d) (λ z. omega (arith, lt, z))
        ∙ hold_other σ n j (leaf c) (λ z. omega (arith, lt, z)) in
        let held_c : as_term (σ' n) ≡ c =
        ap as_term (hold_other (hold σ n (leaf c)) (suc n) n (leaf d) (λ z. omega (arith, z)) ∙ hold_here σ n (leaf c)) in
        let held_d : as_term (σ' (suc n)) ≡ d = ap as_term (hold_here (hold σ n (leaf c)) (suc n) (leaf d)) in
        get_does x (suc at) n (suc (suc n)) (left_stock w) σ' bs qs c ((d, rename own y) ∷ ps) (omega arith) held_c
        (left_stocked w n (suc (suc n)) σ σ' x y (omega arith) agree st) (has_front code (suc at) gx gy inner)
        (λ σ1 bs1 qs1 k1.
        let agree1 : AgreeBelow n σ1 σ = λ j lt. k1 j (omega (arith, lt)) ∙ agree j lt in
        get_does y (suc at + length gx) (suc n) (suc (suc n)) (right_stock (width x) w) σ1 bs1 qs1 d ps (omega arith)
        (ap as_term (k1 (suc n) (omega arith)) ∙ held_d) (right_stocked w n (suc (suc n)) σ σ1 x y (omega arith) agree1 st)
        (has_back code (suc at) gx gy inner)
        (joined_end (suc at) (suc (suc n)) gx gy σ1 ps
        (λ σ2 bs2 qs2 k2. jumped at n opener (gx ++ gy) other σ ps has next σ2 bs2 qs2 (λ j lt. k2 j (omega (arith, lt)) ∙ agree1 j lt)))))
        (ask_does (cons x y) (suc (suc at + length (gx ++ gy))) i n w σ bs qs a ps h e st
        (has_back code (suc at) (gx ++ gy) (Jump to ∷ other) has.1).1 (behind_other at n opener (gx ++ gy) other σ ps next))
    get_does (tuple ts) at i n w σ bs qs a ps h e st has next =
        let g = gets (suc at) n (n + count ts) (part_stock (count ts) w) ts in
        let other = ask i n w (tuple ts) in
        let opener = GetTuple i n (count ts) in
        let to = suc (suc at + length g) + length other in
        tuple_opened s code args base W try at i n (suc (suc at + length g)) (count ts) σ bs qs a (renames own ts) ps has.0 e
        (sym (count_renames own ts))
        (λ us size.
        let agree : AgreeBelow n (hold_all σ n us) σ = λ j lt. all_other us σ n j lt in
        gets_do ts (suc at) n (n + count ts) (part_stock (count ts) w) (hold_all σ n us) bs qs us ps (omega arith)
        (size ∙ count_renames own ts) (all_held us σ n) (parts_stocked w n (n + count ts) σ (hold_all σ n us) ts (omega arith) agree st)
        (has_front code (suc at) g (Jump to ∷ other) has.1)
        (λ σ2 bs2 qs2 k2. jumped at n opener g other σ ps has next σ2 bs2 qs2 (λ j lt. k2 j (omega (arith, lt)) ∙ agree j lt)))
        (ask_does (tuple ts) (suc (suc at + length g)) i n w σ bs qs a ps h e st (has_back code (suc at) g (Jump to ∷ other) has.1).1
        (behind_other at n opener g other σ ps next))

    pub gets_do : (ts : Terms ℕ) (at i n : ℕ) (w : Stock) (σ : Slots) (bs : Bindings) (qs : List Variable) (us : Terms Variable)
        (ps : List Pair) → i + count ts ≤ n → count us ≡ count ts → HoldAll σ i us → StockedAll w n σ ts → HasAt code at (gets at i n w ts)
        → Then (at + length (gets at i n w ts)) n σ ps
        → Same (From s code args at (At s code args base W σ bs qs)) (Left s code args base W bs qs (zipped us (renames own ts) ++ ps))
    gets_do none at i n w σ bs qs none ps h c held st has next =
        let end : at + 0 ≡ at = omega arith in then_at _ at n σ ps end next σ bs qs (λ j lt. refl)
    gets_do none at i n w σ bs qs (more u us) ps h c held st has next = absurd (omega (arith, c))
    gets_do (more t ts) at i n w σ bs qs none ps h c held st has next = absurd (omega (arith, c))
    gets_do (more t ts) at i n w σ bs qs (more u us) ps h c held st has next =
        let g = get at i n w t in
        let gs = gets (at + length g) (suc i) n (next_stock (width t) w) ts in
        get_does t at i n w σ bs qs u (zipped us (renames own ts) ++ ps) (omega (arith, h)) (ap as_term held.0)
        (front_stocked w n σ t ts st) (has_front code at g gs has)
        (λ σ1 bs1 qs1 k1.
        gets_do ts (at + length g) (suc i) n (next_stock (width t) w) σ1 bs1 qs1 us ps (omega (arith, h)) (omega (arith, c))
        (held_on us σ σ1 (suc i) n (omega (arith, h, c)) k1 held.1) (rest_stocked w n σ σ1 t ts k1 st) (has_back code at g gs has)
        (joined_end at n g gs σ1 ps (λ σ2 bs2 qs2 k2. next σ2 bs2 qs2 (λ j lt. k2 j lt ∙ k1 j lt))))

  -- an argument of a head
  argument_does : (t : Term ℕ) (at i n : ℕ) (σ : Slots) (bs : Bindings) (qs : List Variable) (a : Term Variable) (ps : List Pair) → i < n
      → as_term (σ i) ≡ a → HasAt code at (argument_code at i n t) → Then (at + length (argument_code at i n t)) n σ ps
      → Same (From s code args at (At s code args base W σ bs qs)) (Left s code args base W bs qs ((a, rename own t) ∷ ps))
  argument_does t at i n σ bs qs a ps h e has next = by (is_stocked t) has next
    where
      by : (b : Bool) → HasAt code at
          (elim b [ true ↦ joined at (put n (suc n) t) (λ p. get p i (suc n + width t) (made n (suc n)) t) | false ↦ get at i n unmade t ])
          → Then (at + length (elim b as (λ _. List Op) [
            | true ↦ joined at (put n (suc n) t)
                (λ p. get p i (suc n + width t) (made n (suc n)) t)
            | false ↦ get at i n unmade t
          ])) n σ ps
          → Same (From s code args at (At s code args base W σ bs qs)) (Left s code args base W bs qs ((a, rename own t) ∷ ps))
      by false has next = get_does t at i n unmade σ bs qs a ps h e tt has next
      by true has next =
          let c = put n (suc n) t in
          let n' = suc n + width t in
          let g = get (at + length c) i n' (made n (suc n)) t in
          let p = put_does s code args t at n (suc n) (At s code args base W σ bs qs) (omega arith) (has_front code at c g has) in
          let agree : AgreeBelow n p.after σ = λ j lt. p.same j (λ z. omega (arith, lt, z)) (omega (arith, lt)) in
          then_same _ _ _ p.leads
          (get_does t (at + length c) i n' (made n (suc n)) p.after bs qs a ps (omega (arith, h)) (ap as_term (agree i h) ∙ e)
          (omega arith, omega arith, p.stands) (has_back code at c g has)
          (λ σ' bs' qs' k. joined_end at n c g σ ps next σ' bs' qs' (λ j lt. k j (omega (arith, lt)) ∙ agree j lt)))

  -- the slots from i on hold these arguments
  abbrev pub HoldArguments : Slots → ℕ → List (Term Variable) → Type 0
  HoldArguments σ i [] = Unit {0}
  HoldArguments σ i (t ∷ ts) = (as_term (σ i) ≡ t) × HoldArguments σ (suc i) ts

  arguments_on : (ts : List (Term Variable)) (σ σ' : Slots) (i n : ℕ) → i + length ts ≤ n → AgreeBelow n σ' σ → HoldArguments σ i ts
      → HoldArguments σ' i ts
  arguments_on [] σ σ' i n h k a = tt
  arguments_on (t ∷ ts) σ σ' i n h k a =
      (ap as_term (k i (omega (arith, h))) ∙ a.0, arguments_on ts σ σ' (suc i) n (omega (arith, h)) k a.1)

  -- the head
  pub head_does : (ts : List (Term ℕ)) (us : List (Term Variable)) (at i n met : ℕ) (σ : Slots) (bs : Bindings) (qs : List Variable)
      → length us ≡ length ts → i + length ts ≤ n → HoldArguments σ i us → HasAt code at (head_code at i n met ts)
      → ((σ' : Slots) (bs' : Bindings) (qs' : List Variable)
      → Same (From s code args (at + length (head_code at i n met ts)) (At s code args base W σ' bs' qs')) (W (done bs' qs')))
      → Same (From s code args at (At s code args base W σ bs qs)) (Left s code args base W bs qs (head_pairs met us ts))
  head_does [] [] at i n met σ bs qs e h a has next =
      let end : at + 0 ≡ at = omega arith in
      then_same _ _ _ (subst (λ p. Same (From s code args p (At s code args base W σ bs qs)) (W (done bs qs))) end (next σ bs qs))
      (turned _ _ (given_at (λ k. unify k s bs qs []) W (λ k. unify_more s k bs qs []) try.grows (done bs qs) (1, refl)))
  head_does [] (u ∷ us) at i n met σ bs qs e h a has next = absurd (omega (arith, e))
  head_does (t ∷ ts) [] at i n met σ bs qs e h a has next = absurd (omega (arith, e))
  head_does (t ∷ ts) (u ∷ us) at i n met σ bs qs e h a has next =
      let c = argument_code at i n (mark met t).item in
      let cs = head_code (at + length c) (suc i) n (mark met t).met ts in
      argument_does (mark met t).item at i n σ bs qs u (head_pairs (mark met t).met us ts) (omega (arith, h)) a.0
      (has_front code at c cs has)
      (λ σ1 bs1 qs1 k1.
      head_does ts us (at + length c) (suc i) n (mark met t).met σ1 bs1 qs1 (omega (arith, e)) (omega (arith, h))
      (arguments_on us σ σ1 (suc i) n (omega (arith, h, e)) k1 a.1) (has_back code at c cs has)
      (let end : at + length (c ++ cs) ≡ at + length c + length cs = omega (arith, length-append c cs) in
      subst (λ p. (σ' : Slots) (bs' : Bindings) (qs' : List Variable)
      → Same (From s code args p (At s code args base W σ' bs' qs')) (W (done bs' qs'))) end next))
