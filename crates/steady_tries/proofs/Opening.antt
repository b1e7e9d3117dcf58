-- A value is opened, or goes on to where the term is put.
use Rattle.std.proofs.Common.{◌≡◌, ℕ, suc, ◌+◌, ◌<◌, Bool, false, cond, List, [], ◌∷◌, length, refl, sym, ap, ◌∙◌, subst}
use Rattle.std.proofs.Common.{arith}
use Rattle.std.proofs.lemmas.Bool.{eq-eqb, ne_eqb}
use Rattle.ro_unify.specs.Occurs.{words_after}
use Rattle.word_states.specs.Pieces.{with_own, place_words}
use Rattle.unify_terms.specs.WordsOfTries.{memory_of}
use Rattle.machine_code.specs.Instructions.{GetCons, GetTuple}
use Rattle.machine_code.specs.Fresh.{topped, all_topped}
use Rattle.machine_code.proofs.Fresh.{fresh_here}
use Rattle.trial_laws.specs.AtHand.{AtHand, ArePieces, Leads}
use Rattle.trial_laws.specs.Laws.{holding}
use Rattle.trial_laws.specs.Opening.{holding_all}
use Rattle.trial_laws.specs.Leading.{IsTermWord}
use Rattle.trial_laws.proofs.OpenLaws.{pair_opens, pair_stays, tuple_opens, tuple_stays}
use Rattle.trial_laws.proofs.LedEnds.{terms_stand}
use Rattle.safe_tries.specs.Safe.{IsSafe, seen}
use Rattle.safe_tries.specs.Loads.{AreTermWords}
use Rattle.safe_tries.proofs.OpenedValues.{safe_pair_opened, safe_tuple_opened}
use Rattle.steady_tries.specs.Steady.{arguments_of, IsSteady}
use Rattle.steady_tries.specs.Opens.{SteadyPairOpened, NoPairStands, SteadyNoPair}
use Rattle.steady_tries.specs.Opens.{SteadyTupleOpened, NoTupleStands, SteadyNoTuple}
use Rattle.steady_tries.proofs.Agreeing.{seen_agrees, tried_agrees}
use Rattle.steady_tries.proofs.Going.{the_store}
use Rattle.steady_tries.proofs.Rebasing.{rebased}

-- two words in two slots
abbrev two : AtHand → ℕ → ℕ → ℕ → ℕ → AtHand
two r left right x y = holding (holding r left x false) right y false

pub pair_opened_steady : SteadyPairOpened
pair_opened_steady c kept at n r course h i left right put x y e p tx ty =
    rebased c kept at n r (suc at) (two r left right x y) (topped (topped h.tops left (h.tops i)) right (h.tops i)) h.released course h
    opened (λ m. (fresh_here c.ops at h.tops h.released (GetCons i left right put) e h.fresh m).0) refl refl refl
    (λ w vs bound g t f store. let q = p (memory_of (with_own r.pieces w)) (tried_agrees kept c.process r w vs bound g h.safe.below t) in
    subst (λ z. Leads w vs bound c.ops (arguments_of g) at f.state (suc at) (two r left right x z)) q.7
    (subst (λ z. Leads w vs bound c.ops (arguments_of g) at f.state (suc at)
    (two r left right z (memory_of (with_own r.pieces w) (q.1 + 1)))) q.6
    (pair_opens w vs bound c.ops (arguments_of g) at r f.state store h.safe.led.pieces f.stands i left right put q.1 q.0 e q.2 q.3)))
  where
    opened : IsSafe kept (two r left right x y) (topped (topped h.tops left (h.tops i)) right (h.tops i)) h.released
    opened =
        let q = p (seen kept r) (seen_agrees kept r h.safe.below) in
        subst (λ z. IsSafe kept (two r left right x z) (topped (topped h.tops left (h.tops i)) right (h.tops i)) h.released) q.7
        (subst (λ z. IsSafe kept (two r left right z (seen kept r (q.1 + 1)))
        (topped (topped h.tops left (h.tops i)) right (h.tops i)) h.released) q.6
        (safe_pair_opened kept r h.tops h.released h.safe i left right q.1 q.0 q.2 q.3 q.4 q.5 (subst IsTermWord (sym q.6) tx)
        (subst IsTermWord (sym q.7) ty)))

-- the parts of a pair are words of terms, wherever words have what was kept
pub no_pair_stands : NoPairStands
no_pair_stands c kept at n r course h i left right put x y e p not w vs bound g t =
    let f = h.follows w vs bound g t in
    let store = the_store kept c.process w vs bound g t in
    let q = p (memory_of (with_own r.pieces w)) (tried_agrees kept c.process r w vs bound g h.safe.below t) in
    let l = pair_opens w vs bound (GetCons i 0 1 0 ∷ []) [] 0 r f.state store h.safe.led.pieces f.stands i 0 1 0 q.1 q.0 refl q.2 q.3 in
    let s = terms_stand w vs bound [] [] 0 (two r 0 1 (memory_of (with_own r.pieces w) q.1) (memory_of (with_own r.pieces w) (q.1 + 1)))
    l.state store h.safe.led.pieces l.stands in
    not (subst IsTermWord q.6 (s.0 0), subst IsTermWord q.7 (s.0 1))

pub no_pair_steady : SteadyNoPair
no_pair_steady c kept at n r course h i left right put e p =
    rebased c kept at n r put r h.tops h.released course h h.safe
    (λ m. (fresh_here c.ops at h.tops h.released (GetCons i left right put) e h.fresh m).1) refl refl refl
    (λ w vs bound g t f store. let q = p (memory_of (with_own r.pieces w)) (tried_agrees kept c.process r w vs bound g h.safe.below t) in
    pair_stays w vs bound c.ops (arguments_of g) at r f.state store h.safe.led.pieces f.stands i left right put q.0 e q.1 q.2)

-- slots from one on take words, and nothing else changes
held_rest : (r : AtHand) (i : ℕ) (xs : List ℕ) (P : AtHand → Type 0)
    → ((s : ℕ → ℕ) (o : ℕ → Bool) → P (record r { slots = s; operators = o })) → P (holding_all r i xs)
held_rest r i [] P h = h r.slots r.operators
held_rest r i (x ∷ xs) P h = held_rest (holding r i x false) (suc i) xs P h

pub tuple_opened_steady : SteadyTupleOpened
tuple_opened_steady c kept at n r course h i first parts put xs e small p terms =
    subst (λ k. IsSteady c kept (suc at) k (holding_all r first xs)) (held_rest r first xs (λ z. length z.pieces ≡ length r.pieces)
    (λ s o. refl))
    (rebased c kept at n r (suc at) (holding_all r first xs) (all_topped h.tops first parts (h.tops i)) h.released course h
    opened (λ m. (fresh_here c.ops at h.tops h.released (GetTuple i first parts put) e h.fresh m).0)
    (held_rest r first xs (λ z. z.next ≡ r.next) (λ s o. refl)) (held_rest r first xs (λ z. z.clause ≡ r.clause) (λ s o. refl))
    (held_rest r first xs (λ z. place_words 4000000000 z.pieces ≡ place_words 4000000000 r.pieces) (λ s o. refl))
    (λ w vs bound g t f store. let q = p (memory_of (with_own r.pieces w)) (tried_agrees kept c.process r w vs bound g h.safe.below t) in
    subst (λ z. Leads w vs bound c.ops (arguments_of g) at f.state (suc at) (holding_all r first z)) q.5
    (tuple_opens w vs bound c.ops (arguments_of g) at r f.state store h.safe.led.pieces f.stands i first parts put q.1 q.0 e q.2 q.3)))
  where
    opened : IsSafe kept (holding_all r first xs) (all_topped h.tops first parts (h.tops i)) h.released
    opened =
        let q = p (seen kept r) (seen_agrees kept r h.safe.below) in
        subst (λ z. IsSafe kept (holding_all r first z) (all_topped h.tops first parts (h.tops i)) h.released) q.5
        (safe_tuple_opened kept r h.tops h.released h.safe i first parts q.1 q.0 small q.2 q.3 (λ b l u. q.4 b (omega (arith, l)) u)
        (subst AreTermWords (sym q.5) terms))

-- what slots before the first one hold stays
held_before : (xs : List ℕ) (r : AtHand) (i j : ℕ) → j < i → (holding_all r i xs).slots j ≡ r.slots j
held_before [] r i j l = refl
held_before (x ∷ xs) r i j l =
    held_before xs (holding r i x false) (suc i) j (omega (arith, l)) ∙ ap (λ b. cond b x (r.slots j)) (ne_eqb j i (λ e. omega
    (arith, l, e)))

held_terms : (xs : List ℕ) (r : AtHand) (i : ℕ) → ((j : ℕ) → IsTermWord ((holding_all r i xs).slots j)) → AreTermWords xs
held_terms [] r i h = tt
held_terms (x ∷ xs) r i h = (
  subst IsTermWord (held_before xs (holding r i x false) (suc i) i (omega arith) ∙ ap (λ b. cond b x (r.slots i)) (eq-eqb i i refl)) (h i),
  held_terms xs (holding r i x false) (suc i) h,
)

pub no_tuple_stands : NoTupleStands
no_tuple_stands c kept at n r course h i first parts put xs e p not w vs bound g t =
    let f = h.follows w vs bound g t in
    let store = the_store kept c.process w vs bound g t in
    let m = memory_of (with_own r.pieces w) in
    let q = p (memory_of (with_own r.pieces w)) (tried_agrees kept c.process r w vs bound g h.safe.below t) in
    let l = tuple_opens w vs bound (GetTuple i 0 parts 0 ∷ []) [] 0 r f.state store h.safe.led.pieces f.stands i 0 parts 0 q.1 q.0 refl q.2
    q.3 in
    let ys = words_after (memory_of (with_own r.pieces w)) q.1 parts in
    let s = terms_stand w vs bound [] [] 0 (holding_all r 0 (words_after (memory_of (with_own r.pieces w)) q.1 parts)) l.state store
    (held_rest r 0 (words_after (memory_of (with_own r.pieces w)) q.1 parts) (λ z. ArePieces z.pieces)
    (λ s o. h.safe.led.pieces)) l.stands in
    not (subst AreTermWords q.5 (held_terms (words_after (memory_of (with_own r.pieces w)) q.1 parts) r 0 s.0))

pub no_tuple_steady : SteadyNoTuple
no_tuple_steady c kept at n r course h i first parts put e p =
    rebased c kept at n r put r h.tops h.released course h h.safe
    (λ m. (fresh_here c.ops at h.tops h.released (GetTuple i first parts put) e h.fresh m).1) refl refl refl
    (λ w vs bound g t f store. let q = p (memory_of (with_own r.pieces w)) (tried_agrees kept c.process r w vs bound g h.safe.below t) in
    tuple_stays w vs bound c.ops (arguments_of g) at r f.state store h.safe.led.pieces f.stands i first parts put q.0 e q.1 q.2)
