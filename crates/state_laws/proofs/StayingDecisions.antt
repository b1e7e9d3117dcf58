-- A decision stays over a map that binds more places, as long as what was read for it is unbound in it.
use Rattle.std.proofs.Common.{ℕ, suc, Bool, true, false, List, [], ◌∷◌, ◌++◌, length, Option, Some, None, refl, ap, ◌∙◌, subst}
use Rattle.std.specs.Prelude.{option_map}
use Rattle.fcp_model.specs.Places.{Variable, own}
use Rattle.fcp_model.specs.Terms.{Term, number, Bindings}
use Rattle.fcp_model.specs.Pair.{Pair}
use Rattle.fcp_model.specs.HeadPairs.{head_pairs}
use Rattle.fcp_model.specs.Unification.{Ended, done, clash, wait, unify}
use Rattle.fcp_model.specs.Expressions.{Expr, Evaluated, gives, bad, unready, eval}
use Rattle.fcp_model.specs.Tests.{Test, rename_test, Tested, holds, fails, pauses, test}
use Rattle.fcp_model.specs.Programs.{Goal, user, true', unifies, assigns, Clause, Program, clauses_of}
use Rattle.fcp_model.specs.Trials.{Tried, succeeds, try_fails, try_waits, test_on, tests, guard_on, attempt}
use Rattle.fcp_model.specs.Decisions.{commits, choose_on, choose, built_in, assign_on, decide}
use Rattle.fcp_model.specs.Reads.{reads_of, IsPart, BindsPlaces}
use Rattle.state_laws.specs.Laws.{ADecisionStays}
use Rattle.state_laws.proofs.ReadVariables.{every_right, every_so, IsUnbound, each_unbound, eval_reads, tested_reads, tried_reads, Stays, ReadsOn, stays_behind, reads_before}
use Rattle.state_laws.proofs.StayingPairs.{IsStill, AreApart, part_over, still_over, EndStays, unify_stays}
use Rattle.state_laws.proofs.StayingTests.{eval_stays, test_stays}

-- what was read before a test or a clause is among the reads of the end
module _ (P : Variable → Type 0) (n : ℕ) (s : Bindings) where
  tests_reads : (bs : Bindings) (behind : Bool) (rs : List Variable) (ts : List (Test ℕ))
      → ReadsOn tried_reads P rs (tests n s bs behind rs ts)
  tests_reads bs behind rs [] = λ g. g
  tests_reads bs behind rs (t ∷ ts) = go (test n (s ++ bs) behind (rename_test own t)) (λ qs. tests_reads bs behind qs ts)
    where
      go : (o : Option Tested) → ((qs : List Variable) → ReadsOn tried_reads P qs (tests n s bs behind qs ts))
          → ReadsOn tried_reads P rs (test_on (λ qs. tests n s bs behind qs ts) rs o)
      go None rec = tt
      go (Some (holds qs)) rec = reads_before tried_reads P rs qs _ (rec (rs ++ qs))
      go (Some (fails qs)) rec = reads_before tried_reads P rs qs (Some (try_fails (rs ++ qs))) (λ g. g)
      go (Some (pauses qs)) rec = reads_before tried_reads P rs qs (Some (try_waits (rs ++ qs))) (λ g. g)

  choose_reads : (args : List (Term Variable)) (k : ℕ) (behind : Bool) (rs : List Variable) (cs : List Clause)
      → ReadsOn reads_of P rs (choose n s args k behind rs cs)
  choose_reads args k true rs [] = λ g. g
  choose_reads args k false rs [] = λ g. g
  choose_reads args k behind rs (c ∷ cs) = go (attempt n s c args behind) (λ b qs. choose_reads args (suc k) b qs cs)
    where
      go : (o : Option Tried) → ((b : Bool) (qs : List Variable) → ReadsOn reads_of P qs (choose n s args (suc k) b qs cs))
          → ReadsOn reads_of P rs (choose_on (λ b qs. choose n s args (suc k) b qs cs) k behind rs o)
      go None rec = tt
      go (Some (succeeds bs qs)) rec = reads_before reads_of P rs qs (Some (commits k bs (rs ++ qs))) (λ g. g)
      go (Some (try_fails qs)) rec = reads_before reads_of P rs qs _ (rec behind (rs ++ qs))
      go (Some (try_waits qs)) rec = reads_before reads_of P rs qs _ (rec false (rs ++ qs))

module _ (s s' : Bindings) (part : IsPart s s') (places : BindsPlaces s') where
  abbrev Open : Variable → Type 0
  Open = IsUnbound s'

  tests_stay : (n : ℕ) (bs : Bindings) (behind : Bool) (rs : List Variable) (ts : List (Test ℕ)) → AreApart s' bs
      → Stays tried_reads Open (tests n s bs behind rs ts) (tests n s' bs behind rs ts)
  tests_stay n bs behind rs [] a = λ g. refl
  tests_stay n bs behind rs (t ∷ ts) a =
      go (test n (s ++ bs) behind (rename_test own t))
      (test_stays (s ++ bs) (s' ++ bs) (part_over s s' part places bs a) n behind (rename_test own t))
      (λ qs. tests_stay n bs behind qs ts a)
    where
      go : (o : Option Tested) → Stays tested_reads (IsStill (s ++ bs) (s' ++ bs)) o (test n (s' ++ bs) behind (rename_test own t))
          → ((qs : List Variable) → Stays tried_reads Open (tests n s bs behind qs ts) (tests n s' bs behind qs ts))
          → Stays tried_reads Open (test_on (λ qs. tests n s bs behind qs ts) rs o)
          (test_on (λ qs. tests n s' bs behind qs ts) rs (test n (s' ++ bs) behind (rename_test own t)))
      go None h rec = tt
      go (Some (holds qs)) h rec =
          stays_behind tried_reads Open rs qs _ _ _ (tests_reads Open n s bs behind (rs ++ qs) ts)
          (λ read. ap (test_on (λ us. tests n s' bs behind us ts) rs) (h (still_over s s' part places bs qs read))) (rec (rs ++ qs))
      go (Some (fails qs)) h rec =
          λ g. ap (test_on (λ us. tests n s' bs behind us ts) rs) (h (still_over s s' part places bs qs (every_right Open rs qs g)))
      go (Some (pauses qs)) h rec =
          λ g. ap (test_on (λ us. tests n s' bs behind us ts) rs) (h (still_over s s' part places bs qs (every_right Open rs qs g)))

  attempt_stays : (n : ℕ) (c : Clause) (args : List (Term Variable)) (behind : Bool)
      → Stays tried_reads Open (attempt n s c args behind) (attempt n s' c args behind)
  attempt_stays n c args behind =
      go (unify n s [] [] (head_pairs 0 args c.args)) (unify_stays s s' part places n [] [] (head_pairs 0 args c.args) tt)
    where
      go : (o : Option Ended) → EndStays s s' part places o (unify n s' [] [] (head_pairs 0 args c.args))
          → Stays tried_reads Open (guard_on (λ bs rs. tests n s bs behind rs c.guard) o)
          (guard_on (λ bs rs. tests n s' bs behind rs c.guard) (unify n s' [] [] (head_pairs 0 args c.args)))
      go None h = tt
      go (Some (clash rs)) h = λ g. ap (guard_on (λ bs qs. tests n s' bs behind qs c.guard)) (h g).0
      go (Some (wait rs)) h = λ g. ap (guard_on (λ bs qs. tests n s' bs behind qs c.guard)) (h g).0
      go (Some (done bs rs)) h =
          guard (tests n s bs behind rs c.guard) (tests_reads Open n s bs behind rs c.guard) (λ a. tests_stay n bs behind rs c.guard a)
        where
          guard : (o : Option Tried) → ReadsOn tried_reads Open rs o
              → (AreApart s' bs → Stays tried_reads Open o (tests n s' bs behind rs c.guard))
              → Stays tried_reads Open o (guard_on (λ cs qs. tests n s' cs behind qs c.guard) (unify n s' [] [] (head_pairs 0 args c.args)))
          guard None on f = tt
          guard (Some x) on f = λ g. let ended = h (on g) in ap (guard_on (λ cs qs. tests n s' cs behind qs c.guard)) ended.0 ∙ f ended.1 g

  choose_stays : (n : ℕ) (args : List (Term Variable)) (k : ℕ) (behind : Bool) (rs : List Variable) (cs : List Clause)
      → Stays reads_of Open (choose n s args k behind rs cs) (choose n s' args k behind rs cs)
  choose_stays n args k true rs [] = λ g. refl
  choose_stays n args k false rs [] = λ g. refl
  choose_stays n args k behind rs (c ∷ cs) =
      go (attempt n s c args behind) (attempt_stays n c args behind) (λ b qs. choose_stays n args (suc k) b qs cs)
    where
      go : (o : Option Tried) → Stays tried_reads Open o (attempt n s' c args behind)
          → ((b : Bool) (qs : List Variable) → Stays reads_of Open (choose n s args (suc k) b qs cs) (choose n s' args (suc k) b qs cs))
          → Stays reads_of Open (choose_on (λ b qs. choose n s args (suc k) b qs cs) k behind rs o)
          (choose_on (λ b qs. choose n s' args (suc k) b qs cs) k behind rs (attempt n s' c args behind))
      go None h rec = tt
      go (Some (succeeds bs qs)) h rec =
          λ g. ap (choose_on (λ b us. choose n s' args (suc k) b us cs) k behind rs) (h (every_right Open rs qs g))
      go (Some (try_fails qs)) h rec =
          stays_behind reads_of Open rs qs _ _ _ (choose_reads Open n s args (suc k) behind (rs ++ qs) cs)
          (λ read. ap (choose_on (λ b us. choose n s' args (suc k) b us cs) k behind rs) (h read)) (rec behind (rs ++ qs))
      go (Some (try_waits qs)) h rec =
          stays_behind reads_of Open rs qs _ _ _ (choose_reads Open n s args (suc k) false (rs ++ qs) cs)
          (λ read. ap (choose_on (λ b us. choose n s' args (suc k) b us cs) k behind rs) (h read)) (rec false (rs ++ qs))

  built_in_stays : (n : ℕ) (ps : List Pair)
      → Stays reads_of Open (option_map (built_in []) (unify n s [] [] ps)) (option_map (built_in []) (unify n s' [] [] ps))
  built_in_stays n ps = go (unify n s [] [] ps) (unify_stays s s' part places n [] [] ps tt)
    where
      go : (o : Option Ended) → EndStays s s' part places o (unify n s' [] [] ps)
          → Stays reads_of Open (option_map (built_in []) o) (option_map (built_in []) (unify n s' [] [] ps))
      go None h = tt
      go (Some (done bs rs)) h = λ g. ap (option_map (built_in [])) (h g).0
      go (Some (clash rs)) h = λ g. ap (option_map (built_in [])) (h g).0
      go (Some (wait rs)) h = λ g. ap (option_map (built_in [])) (h g).0

  assign_stays : (n : ℕ) (m : Program) (t : Term Variable) (e : Expr Variable)
      → Stays reads_of Open (decide n m s (assigns t e)) (decide n m s' (assigns t e))
  assign_stays n m t e = go (eval n s e) (eval_stays s s' part n e)
    where
      go : (o : Option Evaluated) → Stays eval_reads (IsStill s s') o (eval n s' e)
          → Stays reads_of Open (assign_on (λ z. option_map (built_in []) (unify n s [] [] ((t, number z) ∷ []))) o)
          (assign_on (λ z. option_map (built_in []) (unify n s' [] [] ((t, number z) ∷ []))) (eval n s' e))
      go None h = tt
      go (Some (gives z)) h = rw (h tt) (built_in_stays n ((t, number z) ∷ []))
      go (Some bad) h = λ g. ap (assign_on (λ z. option_map (built_in []) (unify n s' [] [] ((t, number z) ∷ [])))) (h tt)
      go (Some (unready rs)) h =
          λ g. ap (assign_on (λ z. option_map (built_in []) (unify n s' [] [] ((t, number z) ∷ []))))
          (h (every_so Open (IsStill s s') (λ v u e. u) rs g))

  decide_stays : (n : ℕ) (m : Program) (g : Goal Variable) → Stays reads_of Open (decide n m s g) (decide n m s' g)
  decide_stays n m (user p args) = choose_stays n args 1 true [] (clauses_of m p (length args))
  decide_stays n m true' = λ g. refl
  decide_stays n m (unifies t u) = built_in_stays n ((t, u) ∷ [])
  decide_stays n m (assigns t e) = assign_stays n m t e

pub a_decision_stays : ADecisionStays
a_decision_stays m s s' g d (n, e) part places u =
    let stays = subst (λ o. Stays reads_of (IsUnbound s') o (decide n m s' g)) e (decide_stays s s' part places n m g) in
    (n, stays (each_unbound s' (reads_of d) u))
