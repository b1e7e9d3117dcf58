-- The tries of the clauses determine what is decided, and what is decided says how the tries end.
use Rattle.std.proofs.Common.{◌≡◌, ℕ, suc, ◌+◌, inl, inr, Bool, true, false, cond, List, [], ◌∷◌, ◌++◌, length, length-append, Option, Some, None, refl, sym, ap, ◌∙◌, subst, arith}
use Rattle.std.specs.Prelude.{ℤ, option_map, slice_get}
use Rattle.std.proofs.lemmas.Bool.{true≢false}
use Rattle.std.proofs.lemmas.Option.{slice_get_read}
use Rattle.std.proofs.Math.Seq.{get_or-append_seam}
use Rattle.fcp_model.specs.Places.{Variable}
use Rattle.fcp_model.specs.Terms.{Term, number, Bindings}
use Rattle.fcp_model.specs.Unification.{Ended, done, clash, wait, unify}
use Rattle.fcp_model.specs.Expressions.{Expr, Evaluated, gives, bad, unready, eval}
use Rattle.fcp_model.specs.Programs.{Goal, user, true', unifies, assigns, Clause, Program, clauses_of}
use Rattle.fcp_model.specs.Trials.{Tried, succeeds, try_fails, try_waits, attempt}
use Rattle.fcp_model.specs.Decisions.{Decision, commits, decides_fail, waits_on, choose_on, choose, built_in, assign_on, decide, Decides}
use Rattle.fcp_model.specs.Cells.{clause_used}
use Rattle.fcp_model.specs.Events.{body_of}
use Rattle.fcp_model.proofs.MoreSteps.{Refines, Grows, at_least, unify_more}
use Rattle.fcp_model.proofs.OneDecision.{attempt_more, choose_more, eval_more, one_decision}
use Rattle.transition_laws.specs.Transitions.{TryEnds, NoneSucceeds, EachFails, UnifyWith, DoNotUnify, Evaluates, CallReduces, GoalReduces, GoalFails}

-- as many steps as either of two needs
fewer_left : {A : Type 0} (f : ℕ → Option A) → Grows f → (n k : ℕ) → Refines (f n) (f (n + k))
fewer_left f g n k = at_least f g n (n + k) (omega arith)

fewer_right : {A : Type 0} (f : ℕ → Option A) → Grows f → (n k : ℕ) → Refines (f k) (f (n + k))
fewer_right f g n k = at_least f g k (n + k) (omega arith)

-- how the tries of some clauses end where the k-th and those after it lead to a commit by clause j
record IsChosen (s : Bindings) (args : List (Term Variable)) (k : ℕ) (failed : Bool) (cs : List Clause) (j : ℕ)
    (bs : Bindings) : Type 0 where
  earlier : List Clause
  clause : Clause
  later : List Clause
  split : cs ≡ earlier ++ clause ∷ later
  all_failed : Bool
  tries : NoneSucceeds s args failed earlier all_failed
  reads : List Variable
  success : TryEnds s args all_failed clause (succeeds bs reads)
  number : j ≡ k + length earlier

module _ (n : ℕ) (s : Bindings) (args : List (Term Variable)) where
  -- one more clause before those that were tried
  chosen_later : (k : ℕ) (failed next : Bool) (c : Clause) (cs : List Clause) (j : ℕ) (bs : Bindings) →
      ((earlier : List Clause) (all_failed : Bool) → NoneSucceeds s args next earlier all_failed → NoneSucceeds s args failed
      (c ∷ earlier) all_failed) →
      IsChosen s args (suc k) next cs j bs → IsChosen s args k failed (c ∷ cs) j bs
  chosen_later k failed next c cs j bs more h = record {
    earlier = c ∷ h.earlier;
    clause = h.clause;
    later = h.later;
    split = ap (λ xs. c ∷ xs) h.split;
    all_failed = h.all_failed;
    tries = more h.earlier h.all_failed h.tries;
    reads = h.reads;
    success = h.success;
    number = let e : j ≡ suc k + length h.earlier = h.number in omega arith;
  }

  chosen : (k : ℕ) (failed : Bool) (rs : List Variable) (cs : List Clause) (j : ℕ) (bs : Bindings) (qs : List Variable) →
      choose n s args k failed rs cs ≡ Some (commits j bs qs) → IsChosen s args k failed cs j bs
  chosen k failed rs [] j bs qs e = none failed e
    where
      none : (b : Bool) → Some (cond b (decides_fail rs) (waits_on rs)) ≡ Some (commits j bs qs) → IsChosen s args k failed [] j bs
      none true i = absurd cc
      none false i = absurd cc
  chosen k failed rs (c ∷ cs) j bs qs e = go (attempt n s c args failed) refl (λ b rs'. chosen (suc k) b rs' cs j bs qs) e
    where
      go : (o : Option Tried) → attempt n s c args failed ≡ o →
          ((b : Bool) (rs' : List Variable) → choose n s args (suc k) b rs' cs ≡ Some (commits j bs qs) → IsChosen s args
          (suc k) b cs j bs) →
          choose_on (λ b rs'. choose n s args (suc k) b rs' cs) k failed rs o ≡ Some (commits j bs qs) → IsChosen s args k failed
          (c ∷ cs) j bs
      go None f rec i = absurd cc
      go (Some (succeeds bs' qs')) f rec i =
          let same : bs' ≡ bs = cc in
          let here : k ≡ j = cc in
          record {
            earlier = [];
            clause = c;
            later = cs;
            split = refl;
            all_failed = failed;
            tries = refl;
            reads = qs';
            success = (n, f ∙ ap (λ x. Some (succeeds x qs')) same);
            number = omega (arith, here);
          }
      go (Some (try_fails qs')) f rec i = chosen_later k failed failed c cs j bs (λ earlier b h. inl ((qs', (n, f)), h)) (rec failed _ i)
      go (Some (try_waits qs')) f rec i = chosen_later k failed false c cs j bs (λ earlier b h. inr ((qs', (n, f)), h)) (rec false _ i)

  -- a fail is decided after tries that fail
  all_fail : (k : ℕ) (failed : Bool) (rs : List Variable) (cs : List Clause) (qs : List Variable) →
      choose n s args k failed rs cs ≡ Some (decides_fail qs) → (failed ≡ true) × EachFails s args cs
  all_fail k failed rs [] qs e = none failed e
    where
      none : (b : Bool) → Some (cond b (decides_fail rs) (waits_on rs)) ≡ Some (decides_fail qs) → (b ≡ true) × Unit {0}
      none true i = (refl, tt)
      none false i = absurd cc
  all_fail k failed rs (c ∷ cs) qs e = go (attempt n s c args failed) refl (λ b rs'. all_fail (suc k) b rs' cs qs) e
    where
      go : (o : Option Tried) → attempt n s c args failed ≡ o →
          ((b : Bool) (rs' : List Variable) → choose n s args (suc k) b rs' cs ≡ Some (decides_fail qs) →
          (b ≡ true) × EachFails s args cs) →
          choose_on (λ b rs'. choose n s args (suc k) b rs' cs) k failed rs o ≡ Some (decides_fail qs) →
          (failed ≡ true) × EachFails s args (c ∷ cs)
      go None f rec i = absurd cc
      go (Some (succeeds bs' qs')) f rec i = absurd cc
      go (Some (try_fails qs')) f rec i =
          let h = rec failed _ i in
          (h.0, ((qs', (n, subst (λ b. attempt n s c args b ≡ Some (try_fails qs')) h.0 f)), h.1))
      go (Some (try_waits qs')) f rec i = absurd (true≢false (sym (rec false _ i).0))

-- the other way: what is decided by some number of steps, with some reads
module _ (s : Bindings) (args : List (Term Variable)) where
  abbrev ChoiceIs : ℕ → Bool → List Variable → List Clause → (List Variable → Decision) → Type 0
  ChoiceIs k failed rs cs d = (qs : List Variable) × (n : ℕ) × (choose n s args k failed rs cs ≡ Some (d qs))

  -- the choice after one more try, which ends so that the next one goes on with `next` and these reads
  after_try : (k : ℕ) (failed next : Bool) (rs rs' : List Variable) (c : Clause) (cs : List Clause) (t : Tried)
      (d : List Variable → Decision) → ((f : Bool → List Variable → Option Decision) → choose_on f k failed rs (Some t) ≡ f next rs') →
      TryEnds s args failed c t → ChoiceIs (suc k) next rs' cs d → ChoiceIs k failed rs (c ∷ cs) d
  after_try k failed next rs rs' c cs t d goes (n, e) (qs, i, h) = (qs, n + i, tried ∙ (goes later ∙ rest))
    where
      later : Bool → List Variable → Option Decision
      later b qs' = choose (n + i) s args (suc k) b qs' cs

      tried : choose (n + i) s args k failed rs (c ∷ cs) ≡ choose_on later k failed rs (Some t)
      tried = ap (choose_on later k failed rs) (fewer_left (λ j. attempt j s c args failed) (attempt_more s c args failed) n i t e)

      rest : choose (n + i) s args (suc k) next rs' cs ≡ Some (d qs)
      rest = fewer_right (λ j. choose j s args (suc k) next rs' cs) (λ j. choose_more s args j (suc k) next rs' cs) n i (d qs) h

  choice_commits : (k j : ℕ) (failed all_failed : Bool) (rs : List Variable) (earlier : List Clause) (c : Clause) (later : List Clause)
      (bs : Bindings) (qs : List Variable) → j ≡ k + length earlier → NoneSucceeds s args failed earlier all_failed →
      TryEnds s args all_failed c (succeeds bs qs) → ChoiceIs k failed rs (earlier ++ c ∷ later) (commits j bs)
  choice_commits k j failed all_failed rs [] c later bs qs at h (n, e) =
      (rs ++ qs, n, tried ∙ ap (λ x. Some (commits x bs (rs ++ qs))) same)
    where
      same : k ≡ j
      same = omega (arith, at)

      tried : choose n s args k failed rs (c ∷ later) ≡ Some (commits k bs (rs ++ qs))
      tried =
          ap (choose_on (λ b qs'. choose n s args (suc k) b qs' later) k failed rs)
          (subst (λ b. attempt n s c args b ≡ Some (succeeds bs qs)) (sym h) e)
  choice_commits k j failed all_failed rs (d ∷ ds) c later bs qs at (inl (t, h)) i =
      after_try k failed failed rs (rs ++ t.0) d (ds ++ c ∷ later) (try_fails t.0) (commits j bs) (λ f. refl) t.1
      (choice_commits (suc k) j failed all_failed (rs ++ t.0) ds c later bs qs (omega (arith, at)) h i)
  choice_commits k j failed all_failed rs (d ∷ ds) c later bs qs at (inr (t, h)) i =
      after_try k failed false rs (rs ++ t.0) d (ds ++ c ∷ later) (try_waits t.0) (commits j bs) (λ f. refl) t.1
      (choice_commits (suc k) j false all_failed (rs ++ t.0) ds c later bs qs (omega (arith, at)) h i)

  choice_fails : (k : ℕ) (rs : List Variable) (cs : List Clause) → EachFails s args cs → ChoiceIs k true rs cs decides_fail
  choice_fails k rs [] h = (rs, 0, refl)
  choice_fails k rs (c ∷ cs) (t, h) =
      after_try k true true rs (rs ++ t.0) c cs (try_fails t.0) decides_fail (λ f. refl) t.1 (choice_fails (suc k) (rs ++ t.0) cs h)

-- a goal for which a commit is decided reduces by the clause of that number, and the other way
chosen_clause : (cs earlier : List Clause) (c : Clause) (later : List Clause) → cs ≡ earlier ++ c ∷ later →
    slice_get cs (length earlier) ≡ Some c
chosen_clause cs earlier c later e =
    rw e (slice_get_read (earlier ++ c ∷ later) (length (earlier ++ c ∷ later)) (length earlier) c refl
    (omega (arith, length-append earlier (c ∷ later))) (sym (get_or-append_seam earlier c later c)))

call_reduces : (n : ℕ) (m : Program) (s : Bindings) (p : ℕ) (args : List (Term Variable)) (k : ℕ) (bs : Bindings) (rs : List Variable) →
    choose n s args 1 true [] (clauses_of m p (length args)) ≡ Some (commits k bs rs) → CallReduces m s p args k bs
    (body_of (clause_used m (user p args) k))
call_reduces n m s p args k bs rs e =
    let h = chosen n s args 1 true [] (clauses_of m p (length args)) k bs rs e in
    let at : k ≡ suc (length h.earlier) = (let i : k ≡ 1 + length h.earlier = h.number in omega arith) in
    let used : clause_used m (user p args) k ≡ Some h.clause =
    ap (clause_used m (user p args)) at ∙ chosen_clause (clauses_of m p (length args)) h.earlier h.clause h.later h.split in
    record {
      earlier = h.earlier;
      clause = h.clause;
      later = h.later;
      clauses = h.split;
      number = at;
      failed = h.all_failed;
      tries = h.tries;
      reads = h.reads;
      success = h.success;
      body_is = sym (ap body_of used);
    }

module _ (n : ℕ) (m : Program) (s : Bindings) where
  unify_commits : (t u : Term Variable) (k : ℕ) (bs : Bindings) (rs : List Variable) →
      option_map (built_in []) (unify n s [] [] ((t, u) ∷ [])) ≡ Some (commits k bs rs) → (k ≡ 0) × UnifyWith s t u bs
  unify_commits t u k bs rs e = go (unify n s [] [] ((t, u) ∷ [])) refl e
    where
      go : (o : Option Ended) → unify n s [] [] ((t, u) ∷ []) ≡ o → option_map (built_in []) o ≡ Some (commits k bs rs) →
          (k ≡ 0) × UnifyWith s t u bs
      go None f i = absurd cc
      go (Some (done bs' qs)) f i =
          let same : bs' ≡ bs = cc in
          let built : 0 ≡ k = cc in
          (sym built, (qs, (n, f ∙ ap (λ x. Some (done x qs)) same)))
      go (Some (clash qs)) f i = absurd cc
      go (Some (wait qs)) f i = absurd cc

  unify_fails : (t u : Term Variable) (rs : List Variable) →
      option_map (built_in []) (unify n s [] [] ((t, u) ∷ [])) ≡ Some (decides_fail rs) → DoNotUnify s t u
  unify_fails t u rs e = go (unify n s [] [] ((t, u) ∷ [])) refl e
    where
      go : (o : Option Ended) → unify n s [] [] ((t, u) ∷ []) ≡ o → option_map (built_in []) o ≡ Some (decides_fail rs) → DoNotUnify s t u
      go None f i = absurd cc
      go (Some (done bs' qs)) f i = absurd cc
      go (Some (clash qs)) f i = (qs, (n, f))
      go (Some (wait qs)) f i = absurd cc

  assign_commits : (t : Term Variable) (e : Expr Variable) (k : ℕ) (bs : Bindings) (rs : List Variable) →
      decide n m s (assigns t e) ≡ Some (commits k bs rs) → GoalReduces m s (assigns t e) k bs []
  assign_commits t e k bs rs h = go (eval n s e) refl h
    where
      go : (o : Option Evaluated) → eval n s e ≡ o →
          assign_on (λ z. option_map (built_in []) (unify n s [] [] ((t, number z) ∷ []))) o ≡ Some (commits k bs rs) →
          GoalReduces m s (assigns t e) k bs []
      go None f i = absurd cc
      go (Some (gives z)) f i = let u = unify_commits t (number z) k bs rs i in (u.0, refl, (z, (n, f), u.1))
      go (Some bad) f i = absurd cc
      go (Some (unready qs)) f i = absurd cc

  assign_fails : (t : Term Variable) (e : Expr Variable) (rs : List Variable) → decide n m s (assigns t e) ≡ Some (decides_fail rs) →
      GoalFails m s (assigns t e)
  assign_fails t e rs h = go (eval n s e) refl h
    where
      go : (o : Option Evaluated) → eval n s e ≡ o →
          assign_on (λ z. option_map (built_in []) (unify n s [] [] ((t, number z) ∷ []))) o ≡ Some (decides_fail rs) →
          GoalFails m s (assigns t e)
      go None f i = absurd cc
      go (Some (gives z)) f i = inr (z, (n, f), unify_fails t (number z) rs i)
      go (Some bad) f i = inl (n, f)
      go (Some (unready qs)) f i = absurd cc

  pub reduces_by : (g : Goal Variable) (k : ℕ) (bs : Bindings) (rs : List Variable) → decide n m s g ≡ Some (commits k bs rs) →
      GoalReduces m s g k bs (body_of (clause_used m g k))
  reduces_by (user p args) k bs rs e = call_reduces n m s p args k bs rs e
  reduces_by true' k bs rs e =
      let built : 0 ≡ k = cc in
      let none : bs ≡ [] = cc in
      (sym built, refl, none)
  reduces_by (unifies t u) k bs rs e = let h = unify_commits t u k bs rs e in (h.0, refl, h.1)
  reduces_by (assigns t x) k bs rs e = assign_commits t x k bs rs e

  pub fails_so : (g : Goal Variable) (rs : List Variable) → decide n m s g ≡ Some (decides_fail rs) → GoalFails m s g
  fails_so (user p args) rs e = (all_fail n s args 1 true [] (clauses_of m p (length args)) rs e).1
  fails_so true' rs e = absurd cc
  fails_so (unifies t u) rs e = unify_fails t u rs e
  fails_so (assigns t x) rs e = assign_fails t x rs e

-- that a commit by a clause with some bindings is decided for a goal, a fail, or a wait
abbrev pub DecidesCommit : Program → Bindings → Goal Variable → ℕ → Bindings → Type 0
DecidesCommit m s g k bs = (rs : List Variable) × Decides m s g (commits k bs rs)

abbrev pub DecidesFail : Program → Bindings → Goal Variable → Type 0
DecidesFail m s g = (rs : List Variable) × Decides m s g (decides_fail rs)

abbrev pub DecidesWait : Program → Bindings → Goal Variable → Type 0
DecidesWait m s g = (rs : List Variable) × Decides m s g (waits_on rs)

module _ (m : Program) (s : Bindings) where
  call_commits : (p : ℕ) (args : List (Term Variable)) (k : ℕ) (bs : Bindings) (body : List (Goal ℕ)) →
      CallReduces m s p args k bs body → DecidesCommit m s (user p args) k bs
  call_commits p args k bs body h =
      let at : k ≡ suc (length h.earlier) = h.number in
      let (qs, n, e) = subst (λ cs. ChoiceIs s args 1 true [] cs (commits k bs)) (sym h.clauses)
      (choice_commits s args 1 k true h.failed [] h.earlier h.clause h.later bs h.reads (omega (arith, at)) h.tries h.success) in
      (qs, (n, e))

  call_fails : (p : ℕ) (args : List (Term Variable)) → EachFails s args (clauses_of m p (length args)) → DecidesFail m s (user p args)
  call_fails p args h = let (qs, n, e) = choice_fails s args 1 [] (clauses_of m p (length args)) h in (qs, (n, e))

  -- a number that is given, and then unified
  assigned : (t : Term Variable) (e : Expr Variable) (z : ℤ) (x : Ended) → Evaluates s e (gives z) → (n : ℕ) →
      unify n s [] [] ((t, number z) ∷ []) ≡ Some x → Decides m s (assigns t e) (built_in [] x)
  assigned t e z x (i, g) n h = (
    i + n,
    ap (assign_on (λ y. option_map (built_in []) (unify (i + n) s [] [] ((t, number y) ∷ []))))
        (fewer_left (λ j. eval j s e) (eval_more s e) i n (gives z) g)
        ∙ ap (option_map (built_in []))
        (fewer_right (λ j. unify j s [] [] ((t, number z) ∷ [])) (λ j. unify_more s j [] [] ((t, number z) ∷ [])) i n x h),
  )

  pub decides_commit : (g : Goal Variable) (k : ℕ) (bs : Bindings) (body : List (Goal ℕ)) → GoalReduces m s g k bs body →
      DecidesCommit m s g k bs
  decides_commit (user p args) k bs body h = call_commits p args k bs body h
  decides_commit true' k bs body (zero_k, none, no_bs) =
      ([], (0, ap (λ x. Some (commits x [] [])) (sym zero_k) ∙ ap (λ x. Some (commits k x [])) (sym no_bs)))
  decides_commit (unifies t u) k bs body (zero_k, none, (rs, (n, e))) =
      (rs, (n, ap (option_map (built_in [])) e ∙ ap (λ x. Some (commits x bs rs)) (sym zero_k)))
  decides_commit (assigns t x) k bs body (zero_k, none, (z, v, (rs, (n, e)))) =
      (rs, subst (λ j. Decides m s (assigns t x) (commits j bs rs)) (sym zero_k) (assigned t x z (done bs rs) v n e))

  pub decides_failure : (g : Goal Variable) → GoalFails m s g → DecidesFail m s g
  decides_failure (user p args) h = call_fails p args h
  decides_failure true' h = absurd h
  decides_failure (unifies t u) (rs, (n, e)) = (rs, (n, ap (option_map (built_in [])) e))
  decides_failure (assigns t x) (inl (n, e)) =
      ([], (n, ap (assign_on (λ z. option_map (built_in []) (unify n s [] [] ((t, number z) ∷ [])))) e))
  decides_failure (assigns t x) (inr (z, v, (rs, (n, e)))) = (rs, assigned t x z (clash rs) v n e)

-- a goal for which a wait is decided neither reduces nor fails
module _ (m : Program) (s : Bindings) (g : Goal Variable) (w : DecidesWait m s g) where
  pub waits_not_reduces : (k : ℕ) (bs : Bindings) (body : List (Goal ℕ)) → GoalReduces m s g k bs body → ⊥
  waits_not_reduces k bs body h =
      let c = decides_commit m s g k bs body h in
      let same : waits_on w.0 ≡ commits k bs c.0 = one_decision m s g _ _ w.1 c.1 in
      cc

  pub waits_not_fails : GoalFails m s g → ⊥
  waits_not_fails h =
      let c = decides_failure m s g h in
      let same : waits_on w.0 ≡ decides_fail c.0 = one_decision m s g _ _ w.1 c.1 in
      cc
