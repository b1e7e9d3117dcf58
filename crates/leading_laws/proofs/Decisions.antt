-- What is decided over bindings with shorter ways is decided over the bindings that they are of, with as many cells.
use Rattle.std.proofs.Common.{◌≡◌, ℕ, zero, suc, Bool, true, false, List, [], ◌∷◌, ◌++◌, length, Option, Some, None, refl, ap, ◌∙◌, subst}
use Rattle.std.specs.Prelude.{ℤ, option_map, slice_get}
use Rattle.fcp_model.specs.Places.{Variable}
use Rattle.fcp_model.specs.Terms.{Term, number, Bindings}
use Rattle.fcp_model.specs.Pair.{Pair}
use Rattle.fcp_model.specs.Unification.{Ended, done, clash, wait, unify}
use Rattle.fcp_model.specs.Expressions.{Expr, Evaluated, gives, bad, unready, eval}
use Rattle.fcp_model.specs.Programs.{Goal, user, true', unifies, assigns, Clause, Program, clauses_of}
use Rattle.fcp_model.specs.Trials.{Tried, succeeds, try_fails, try_waits, attempt}
use Rattle.fcp_model.specs.Decisions.{Decision, commits, decides_fail, waits_on, choose_on, choose, built_in, assign_on, decide}
use Rattle.fcp_model.specs.Cells.{commit_cells}
use Rattle.fcp_model.proofs.MoreSteps.{unify_more}
use Rattle.fcp_model.proofs.OneDecision.{option_map_more, eval_more, attempt_more, choose_more}
use Rattle.word_states.specs.Leading.{LeadsTo, AllLead, ExprLeads, GoalLeads, BindingsLead, AreShortened}
use Rattle.word_states.proofs.Leading.{leads_here, leads_more}
use Rattle.leading_laws.specs.Laws.{GoalsDecideAlike, ClausesAreAlike, CellsAreAlike}
use Rattle.leading_laws.proofs.Answers.{Answers, both_answer}
use Rattle.leading_laws.proofs.Extending.{part_append}
use Rattle.leading_laws.proofs.Pairs.{PairsLead}
use Rattle.leading_laws.proofs.Unifications.{EndsAlike, unify_led}
use Rattle.leading_laws.proofs.Tests.{eval_led}
use Rattle.leading_laws.proofs.Tries.{TriesAlike, attempt_led}

-- f decides in the same way, with the same reads; what it binds leads to what the given decision binds
abbrev pub DecidesAlike : Bindings → (ℕ → Option Decision) → Decision → Type 0
DecidesAlike s f (commits k cs rs) = (bs : Bindings) × Answers f (commits k bs rs) × BindingsLead (s ++ bs) bs cs
DecidesAlike s f (decides_fail rs) = Answers f (decides_fail rs)
DecidesAlike s f (waits_on rs) = Answers f (waits_on rs)

decides_on : (s : Bindings) (f g : ℕ → Option Decision) → ((y : Decision) → Answers g y → Answers f y) → (x : Decision) → DecidesAlike s g x
    → DecidesAlike s f x
decides_on s f g h (commits k cs rs) e = (e.0, h (commits k e.0 rs) e.1, e.2)
decides_on s f g h (decides_fail rs) e = h (decides_fail rs) e
decides_on s f g h (waits_on rs) e = h (waits_on rs) e

-- where one clause is not committed to, the next is tried
module _ (s short : Bindings) (shortened : AreShortened s short) (ts us : List (Term Variable)) (leads : AllLead s ts us) where
  choose_led : (n k : ℕ) (behind : Bool) (rs : List Variable) (cs : List Clause) (x : Decision)
      → choose n short us k behind rs cs ≡ Some x → DecidesAlike s (λ m. choose m s ts k behind rs cs) x
  choose_led n k true rs [] x e =
      let is : decides_fail rs ≡ x = cc in subst (DecidesAlike s (λ m. Some (decides_fail rs))) is (0, refl)
  choose_led n k false rs [] x e = let is : waits_on rs ≡ x = cc in subst (DecidesAlike s (λ m. Some (waits_on rs))) is (0, refl)
  choose_led n k behind rs (c ∷ cs) x e =
      go (attempt n short c us behind) refl e (λ b qs i. choose_led n (suc k) b qs cs x i)
    where
      now : ℕ → Option Decision
      now m = choose m s ts k behind rs (c ∷ cs)

      tried : (y : Tried) → attempt n short c us behind ≡ Some y → TriesAlike s (λ m. attempt m s c ts behind) y
      tried y i = attempt_led s short shortened n c ts us behind y leads i

      -- the next clause decides
      next : (y : Tried) (b : Bool) (qs : List Variable) → Answers (λ m. attempt m s c ts behind) y
          → ((f : Bool → List Variable → Option Decision) → choose_on f k behind rs (Some y) ≡ f b qs)
          → DecidesAlike s (λ m. choose m s ts (suc k) b qs cs) x → DecidesAlike s now x
      next y b qs a f rec =
          decides_on s now (λ m. choose m s ts (suc k) b qs cs)
          (λ d i. let two = both_answer (λ m. attempt m s c ts behind) (λ m. choose m s ts (suc k) b qs cs) y d (attempt_more s c ts behind)
          (λ m. choose_more s ts m (suc k) b qs cs) a i in (
            two.0,
            ap (choose_on (λ b qs. choose two.0 s ts (suc k) b qs cs) k behind rs) two.1
                ∙ f (λ b qs. choose two.0 s ts (suc k) b qs cs) ∙ two.2,
          )) x rec

      go : (o : Option Tried) → attempt n short c us behind ≡ o
          → choose_on (λ b qs. choose n short us (suc k) b qs cs) k behind rs o ≡ Some x
          → ((b : Bool) (qs : List Variable) → choose n short us (suc k) b qs cs ≡ Some x
          → DecidesAlike s (λ m. choose m s ts (suc k) b qs cs) x) → DecidesAlike s now x
      go None i f rec = cc
      go (Some (try_fails qs)) i f rec =
          next (try_fails qs) behind (rs ++ qs) (tried (try_fails qs) i) (λ g. refl) (rec behind (rs ++ qs) f)
      go (Some (try_waits qs)) i f rec = next (try_waits qs) false (rs ++ qs) (tried (try_waits qs) i) (λ g. refl) (rec false (rs ++ qs) f)
      go (Some (succeeds ds qs)) i f rec =
          let is : commits k ds (rs ++ qs) ≡ x = cc in
          let try = tried (succeeds ds qs) i in
          subst (DecidesAlike s now) is
          (try.0, (try.1.0, ap (choose_on (λ b qs. choose try.1.0 s ts (suc k) b qs cs) k behind rs) try.1.1), try.2)

module _ (s short : Bindings) (shortened : AreShortened s short) where
  -- a built-in process that unifies
  built_in_led : (n : ℕ) (ps qs : List Pair) (x : Decision) → PairsLead (s ++ []) ps qs
      → option_map (built_in []) (unify n short [] [] qs) ≡ Some x → DecidesAlike s (λ m. option_map (built_in []) (unify m s [] [] ps)) x
  built_in_led n ps qs x leads e = go (unify n short [] [] qs) refl e
    where
      now : ℕ → Option Decision
      now m = option_map (built_in []) (unify m s [] [] ps)

      ended : (y : Ended) → unify n short [] [] qs ≡ Some y → EndsAlike s (λ m. unify m s [] [] ps) y
      ended y i = unify_led s short shortened n y [] [] [] ps qs tt leads i

      decided : (y : Ended) → Answers (λ m. unify m s [] [] ps) y → Answers now (built_in [] y)
      decided y a = (a.0, ap (option_map (built_in [])) a.1)

      go : (o : Option Ended) → unify n short [] [] qs ≡ o → option_map (built_in []) o ≡ Some x → DecidesAlike s now x
      go None i f = cc
      go (Some (clash rs)) i f =
          let is : decides_fail rs ≡ x = cc in subst (DecidesAlike s now) is (decided (clash rs) (ended (clash rs) i))
      go (Some (wait rs)) i f = let is : waits_on rs ≡ x = cc in subst (DecidesAlike s now) is (decided (wait rs) (ended (wait rs) i))
      go (Some (done cs rs)) i f =
          let is : commits 0 cs rs ≡ x = cc in
          let end = ended (done cs rs) i in
          subst (DecidesAlike s now) is (end.0, decided (done end.0 rs) end.1, end.2)

  -- `:=`
  assign_led : (n : ℕ) (t u : Term Variable) (e d : Expr Variable) (x : Decision) → LeadsTo s t u → ExprLeads s e d
      → assign_on (λ z. option_map (built_in []) (unify n short [] [] ((u, number z) ∷ []))) (eval n short d) ≡ Some x
      → DecidesAlike s (λ m. assign_on (λ z. option_map (built_in []) (unify m s [] [] ((t, number z) ∷ []))) (eval m s e)) x
  assign_led n t u e d x to leads i = go (eval n short d) refl i
    where
      unified : ℤ → ℕ → Option Decision
      unified z m = option_map (built_in []) (unify m s [] [] ((t, number z) ∷ []))

      now : ℕ → Option Decision
      now m = assign_on (λ z. unified z m) (eval m s e)

      gave : (y : Evaluated) → eval n short d ≡ Some y → Answers (λ m. eval m s e) y
      gave y j = eval_led s short shortened n e d y leads j

      ends : (y : Evaluated) (z : Decision) → eval n short d ≡ Some y
          → ((f : ℤ → Option Decision) → assign_on f (Some y) ≡ Some z) → Answers now z
      ends y z j f = let a = gave y j in (a.0, ap (assign_on (λ z. unified z a.0)) a.1 ∙ f (λ z. unified z a.0))

      go : (o : Option Evaluated) → eval n short d ≡ o
          → assign_on (λ z. option_map (built_in []) (unify n short [] [] ((u, number z) ∷ []))) o ≡ Some x → DecidesAlike s now x
      go None j f = cc
      go (Some bad) j f = let is : decides_fail [] ≡ x = cc in subst (DecidesAlike s now) is (ends bad (decides_fail []) j (λ g. refl))
      go (Some (unready rs)) j f =
          let is : waits_on rs ≡ x = cc in subst (DecidesAlike s now) is (ends (unready rs) (waits_on rs) j (λ g. refl))
      go (Some (gives z)) j f =
          decides_on s now (unified z)
          (λ y a. let two = both_answer (λ m. eval m s e) (unified z) (gives z) y (eval_more s e)
          (λ m. option_map_more (built_in []) _ _ (unify_more s m [] [] ((t, number z) ∷ []))) (gave (gives z) j) a in
          (two.0, ap (assign_on (λ z. unified z two.0)) two.1 ∙ two.2)) x
          (built_in_led n ((t, number z) ∷ []) ((u, number z) ∷ []) x
          (leads_more s (s ++ []) (part_append s []) t u to, leads_here (s ++ []) (number z), tt) f)

-- lists of terms of which one leads to the other are equally long
same_length : (s : Bindings) (ts us : List (Term Variable)) → AllLead s ts us → length ts ≡ length us
same_length s [] [] h = refl
same_length s (t ∷ ts) (u ∷ us) h = ap suc (same_length s ts us h.1)
same_length s [] (u ∷ us) h = absurd h
same_length s (t ∷ ts) [] h = absurd h

same_clauses : (m : Program) (s : Bindings) (f p : ℕ) (ts us : List (Term Variable)) → f ≡ p → AllLead s ts us
    → clauses_of m f (length ts) ≡ clauses_of m p (length us)
same_clauses m s f p ts us e h = ap (λ q. clauses_of m q (length ts)) e ∙ ap (clauses_of m p) (same_length s ts us h)

decide_led : (n : ℕ) (m : Program) (s short : Bindings) (g h : Goal Variable) (x : Decision) → AreShortened s short → GoalLeads s g h
    → decide n m short h ≡ Some x → DecidesAlike s (λ k. decide k m s g) x
decide_led n m s short (user f ts) (user p us) x shortened leads e =
    choose_led s short shortened ts us leads.1 n 1 true [] (clauses_of m f (length ts)) x
    (ap (choose n short us 1 true []) (same_clauses m s f p ts us leads.0 leads.1) ∙ e)
decide_led n m s short true' true' x shortened leads e =
    let is : commits 0 [] [] ≡ x = cc in subst (DecidesAlike s (λ k. Some (commits 0 [] []))) is ([], (0, refl), tt)
decide_led n m s short (unifies t u) (unifies v y) x shortened leads e =
    let on = part_append s [] in
    built_in_led s short shortened n ((t, u) ∷ []) ((v, y) ∷ []) x
    (leads_more s (s ++ []) on t v leads.0, leads_more s (s ++ []) on u y leads.1, tt) e
decide_led n m s short (assigns t a) (assigns u b) x shortened leads e = assign_led s short shortened n t u a b x leads.0 leads.1 e
decide_led n m s short g h x shortened leads e = absurd leads

pub goals_decide_alike : GoalsDecideAlike
goals_decide_alike m s short g h (commits k cs rs) shortened leads (n, e) = decide_led n m s short g h (commits k cs rs) shortened leads e
goals_decide_alike m s short g h (waits_on rs) shortened leads (n, e) = decide_led n m s short g h (waits_on rs) shortened leads e
goals_decide_alike m s short g h (decides_fail rs) shortened leads (n, e) = decide_led n m s short g h (decides_fail rs) shortened leads e

pub clauses_are_alike : ClausesAreAlike
clauses_are_alike m s (user f ts) (user p us) zero leads = refl
clauses_are_alike m s (user f ts) (user p us) (suc k) leads = ap (λ cs. slice_get cs k) (same_clauses m s f p ts us leads.0 leads.1)
clauses_are_alike m s true' true' k leads = refl
clauses_are_alike m s (unifies t u) (unifies v x) k leads = refl
clauses_are_alike m s (assigns t e) (assigns v x) k leads = refl
clauses_are_alike m s g h k leads = absurd leads

pub cells_are_alike : CellsAreAlike
cells_are_alike m s g h (commits k bs rs) leads = ap commit_cells (clauses_are_alike m s g h k leads)
cells_are_alike m s g h (waits_on rs) leads = refl
cells_are_alike m s g h (decides_fail rs) leads = refl
