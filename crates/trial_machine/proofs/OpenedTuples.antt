-- A slot's value was opened as a tuple.
use Rattle.std.proofs.Common.{◌≡◌, ℕ, zero, suc, ◌+◌, ◌<◌, ◌≤◌, List, [], ◌∷◌, length, Bool, true, false, cond}
use Rattle.std.proofs.Common.{refl, sym, ap, ap₂, subst, ◌∙◌, arith, ⊎_elim}
use Rattle.std.proofs.lemmas.Bool.{eq-eqb, ne_eqb, cases_lt}
use Rattle.heap_words.specs.Trails.{Memory}
use Rattle.heap_words.specs.declared.trail.Trail.{Trail}
use Rattle.ro_unify.specs.Occurs.{words_after}
use Rattle.ro_unify.specs.Walks.{IsSeen}
use Rattle.machine_code.specs.Instructions.{GetTuple}
use Rattle.trial_laws.specs.Opening.{holding_all}
use Rattle.trial_laws.specs.Leading.{IsTermWord}
use Rattle.safe_tries.specs.Safe.{own_words, seen}
use Rattle.safe_tries.specs.Loads.{AreTermWords}
use Rattle.steady_tries.specs.Steady.{IsSteady}
use Rattle.steady_tries.specs.Opens.{Everywhere, IsTupleOf}
use Rattle.steady_tries.proofs.Agreeing.{seen_agrees}
use Rattle.steady_tries.proofs.Going.{more_steady, course_more}
use Rattle.steady_tries.proofs.Opening.{tuple_opened_steady, no_tuple_stands, no_tuple_steady}
use Rattle.try_desk.specs.Held.{Held, Kept, held, held_term, held_terms, held_with}
use Rattle.try_desk.specs.Keeping.{KeepsArguments}
use Rattle.try_desk.specs.Opened.{OpensTuple, held_all}
use Rattle.try_desk.proofs.AtDesk.{all_taken}
use Rattle.trial_machine.specs.declared.machine.Machine.{Machine}
use Rattle.trial_machine.specs.declared.machine.Opened.TheVariants.{Taken, Other, Nowhere}
use Rattle.trial_machine.specs.Machines.{course, at_machine, Opens}
use Rattle.trial_machine.proofs.Ways.{on_way}
use Rattle.trial_machine.proofs.OpenedPairs.{with_slots, MoreKept, now_at_hand}

-- slots before the first that takes a word hold what they held
term_before : (xs : List ℕ) (h : Held) (i j : ℕ) → j < i → held_term (held_all h i xs) j ≡ held_term h j
term_before [] h i j l = refl
term_before (x ∷ xs) h i j l =
    term_before xs (held_with h i x false) (suc i) j (omega (arith, l))
    ∙ ap (λ b. cond (cond b false (h.operators j)) 6 (cond b x (h.words j))) (ne_eqb j i (λ e. omega (arith, l, e)))

-- and the others the words that they took
taken_terms : (xs : List ℕ) (h : Held) (i n : ℕ) → length xs ≡ n → held_terms (held_all h i xs) i n ≡ xs
taken_terms [] h i zero e = refl
taken_terms [] h i (suc n) e = absurd (omega (arith, e))
taken_terms (x ∷ xs) h i zero e = absurd (omega (arith, e))
taken_terms (x ∷ xs) h i (suc n) e =
    ap₂ (λ (y : ℕ) (ys : List ℕ). y ∷ ys)
    (term_before xs (held_with h i x false) (suc i) i (omega arith)
    ∙ ap (λ b. cond (cond b false (h.operators i)) 6 (cond b x (h.words i))) (eq-eqb i i refl))
    (taken_terms xs (held_with h i x false) (suc i) n (omega (arith, e)))

words_length : (m : Memory) (n a : ℕ) → length (words_after m a n) ≡ n
words_length m zero a = refl
words_length m (suc n) a = ap suc (words_length m n (a + 1))

-- the words of more slots are those of terms
terms_next : (n i : ℕ) (h : Held) → AreTermWords (held_terms h i n) → IsTermWord (held_term h (i + n))
    → AreTermWords (held_terms h i (suc n))
terms_next zero i h are one = (subst (λ k. IsTermWord (held_term h k)) (omega arith) one, tt)
terms_next (suc n) i h are one =
    (are.0, terms_next n (suc i) h are.1 (subst (λ k. IsTermWord (held_term h k)) (omega arith) one))

pub terms_more : (n i : ℕ) (h : Held) → AreTermWords (held_terms h i n) → IsTermWord (held_term h (i + n))
    → AreTermWords (held_terms h i (n + 1))
terms_more n i h are one =
    let e : suc n ≡ n + 1 = omega arith in subst (λ k. AreTermWords (held_terms h i k)) e (terms_next n i h are one)

pub terms_one : (n i k : ℕ) (h : Held) → AreTermWords (held_terms h i n) → k < n → IsTermWord (held_term h (i + k))
terms_one zero i k h are l = absurd (omega (arith, l))
terms_one (suc n) i zero h are l = subst (λ k. IsTermWord (held_term h k)) (omega arith) are.0
terms_one (suc n) i (suc k) h are l =
    subst (λ k. IsTermWord (held_term h k)) (omega arith) (terms_one n (suc i) k h are.1 (omega (arith, l)))

-- what was opened, in each memory
abbrev pub OpenedTuple : Machine → Kept → Trail → ℕ → ℕ → ℕ → Bool → Type 0
OpenedTuple m s t i first parts b = Everywhere t.kept (at_machine m)
    (λ mem. OpensTuple t.kept (own_words m.desk.pieces) m.trail.binds mem (held m.desk.slots) (held s) i first parts b)

-- the parts are the words that the slots hold
are_held : (h k : Held) (first parts : ℕ) (xs : List ℕ) → length xs ≡ parts → k ≡ held_all h first xs → held_terms k first parts ≡ xs
are_held h k first parts xs e takes = ap (λ (q : Held). held_terms q first parts) takes ∙ taken_terms xs h first parts e

parts_held : (m : Machine) (s : Kept) (t : Trail) (i first parts : ℕ) → OpenedTuple m s t i first parts true
    → IsTupleOf t.kept (at_machine m) i parts (held_terms (held s) first parts)
parts_held m s t i first parts opened mem agrees =
    let o = opened mem agrees in (
      o.0,
      o.2.at,
      o.1,
      o.2.tuple,
      λ b l u. ⊎_elim (λ (k : o.2.at < b). o.2.parts_seen b k u)
          (λ (k : b ≤ o.2.at). subst (λ a. IsSeen t.kept (own_words m.desk.pieces) a) (omega (arith, l, k)) o.2.number_seen)
          (cases_lt o.2.at b),
      sym (are_held (held m.desk.slots) (held s) first parts (words_after mem o.2.at parts) (words_length mem parts o.2.at) o.2.takes),
    )

pub tuple_taken : (m : Machine) (s : Kept) (t : Trail) (n i first parts put : ℕ) → parts < 66 → MoreKept m t
    → KeepsArguments m.desk.slots s → OpenedTuple m s t i first parts true → AreTermWords (held_terms (held s) first parts)
    → n ≡ length m.desk.pieces → Opens m (with_slots m s t n) (GetTuple i first parts put) put Taken
tuple_taken m s t n i first parts put small more keeps opened terms count f at h o =
    let known = course_more (course f m) m.trail.kept t.kept more.more.grows h.on_course in
    let steady = more_steady (course f m) m.trail.kept at m.base (at_machine m) h.on_course h.steady t.kept more.more in
    let mem = seen t.kept (at_machine m) in
    let taken = (opened (seen t.kept (at_machine m)) (seen_agrees t.kept (at_machine m) steady.safe.below)).2 in
    let takes : held s ≡ held_all (held m.desk.slots) first (held_terms (held s) first parts) =
    taken.takes
    ∙ ap (λ (ys : List ℕ). held_all (held m.desk.slots) first ys)
    (sym (are_held (held m.desk.slots) (held s) first parts (words_after (seen t.kept (at_machine m)) taken.at parts)
    (words_length (seen t.kept (at_machine m)) parts taken.at) taken.takes)) in
    on_way f (suc at) (with_slots m s t n) m.desk.slots.args
    (holding_all (at_machine m) first (held_terms (held s) first parts)) keeps.args
    (now_at_hand m s t n (held_all (held m.desk.slots) first (held_terms (held s) first parts)) more takes
    ∙ all_taken m.desk.clause m.desk.next m.desk.behind m.desk.pieces m.trail.binds m.trail.reads.items m.waits (held m.desk.slots) first
    (held_terms (held s) first parts)) known
    (subst (λ (k : ℕ). IsSteady (course f m) t.kept (suc at) k (holding_all (at_machine m) first (held_terms (held s) first parts)))
    (sym count)
    (tuple_opened_steady (course f m) t.kept at m.base (at_machine m) known steady i first parts put (held_terms (held s) first parts) o
    small (parts_held m s t i first parts opened) terms)) h.known

pub tuple_nowhere : (m : Machine) (s : Kept) (t : Trail) (n i first parts put : ℕ) → MoreKept m t → OpenedTuple m s t i first parts true
    → (AreTermWords (held_terms (held s) first parts) → ⊥) → Opens m (with_slots m s t n) (GetTuple i first parts put) put Nowhere
tuple_nowhere m s t n i first parts put more opened none f at h o =
    let known = course_more (course f m) m.trail.kept t.kept more.more.grows h.on_course in
    let steady = more_steady (course f m) m.trail.kept at m.base (at_machine m) h.on_course h.steady t.kept more.more in
    no_tuple_stands (course f m) t.kept at m.base (at_machine m) known steady i first parts put (held_terms (held s) first parts) o
    (parts_held m s t i first parts opened) none

pub tuple_other : (m : Machine) (s : Kept) (t : Trail) (n i first parts put : ℕ) → MoreKept m t → KeepsArguments m.desk.slots s
    → OpenedTuple m s t i first parts false → n ≡ length m.desk.pieces → Opens m (with_slots m s t n) (GetTuple i first parts put) put
    Other
tuple_other m s t n i first parts put more keeps opened count f at h o =
    let known = course_more (course f m) m.trail.kept t.kept more.more.grows h.on_course in
    let steady = more_steady (course f m) m.trail.kept at m.base (at_machine m) h.on_course h.steady t.kept more.more in
    let now = opened (seen t.kept (at_machine m)) (seen_agrees t.kept (at_machine m) steady.safe.below) in
    on_way f put (with_slots m s t n) m.desk.slots.args (at_machine m) keeps.args (now_at_hand m s t n (held m.desk.slots) more
    now.2.1) known
    (subst (λ (k : ℕ). IsSteady (course f m) t.kept put k (at_machine m)) (sym count)
    (no_tuple_steady (course f m) t.kept at m.base (at_machine m) known steady i first parts put o
    (λ mem agrees. let q = opened mem agrees in (q.0, q.1, q.2.0)))) h.known
