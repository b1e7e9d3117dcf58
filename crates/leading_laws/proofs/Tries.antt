-- A try of a clause over bindings with shorter ways ends as over the bindings that they are of.
use Rattle.std.proofs.Common.{◌≡◌, ℕ, Bool, List, [], ◌∷◌, ◌++◌, Option, Some, None, refl, ap, ◌∙◌, subst}
use Rattle.fcp_model.specs.Places.{Variable, own}
use Rattle.fcp_model.specs.Terms.{Term, rename, Bindings}
use Rattle.fcp_model.specs.HeadPairs.{mark, head_pairs}
use Rattle.fcp_model.specs.Unification.{Ended, done, clash, wait, unify}
use Rattle.fcp_model.specs.Tests.{Test, rename_test, Tested, holds, fails, pauses, test}
use Rattle.fcp_model.specs.Programs.{Clause}
use Rattle.fcp_model.specs.Trials.{Tried, succeeds, try_fails, try_waits, test_on, tests, guard_on, attempt}
use Rattle.fcp_model.proofs.MoreSteps.{unify_more}
use Rattle.fcp_model.proofs.OneDecision.{test_more, tests_more}
use Rattle.word_states.specs.Leading.{AllLead, BindingsLead, AreShortened}
use Rattle.word_states.proofs.Leading.{leads_here, all_lead_more}
use Rattle.leading_laws.proofs.Answers.{Answers, both_answer}
use Rattle.leading_laws.proofs.Extending.{part_append, shortened_over}
use Rattle.leading_laws.proofs.Pairs.{PairsLead}
use Rattle.leading_laws.proofs.Unifications.{EndsAlike, unify_led}
use Rattle.leading_laws.proofs.Tests.{test_short}

-- f ends in the same way, with the same reads; what it binds leads to what the given try binds
abbrev pub TriesAlike : Bindings → (ℕ → Option Tried) → Tried → Type 0
TriesAlike s f (succeeds cs rs) = (bs : Bindings) × Answers f (succeeds bs rs) × BindingsLead (s ++ bs) bs cs
TriesAlike s f (try_fails rs) = Answers f (try_fails rs)
TriesAlike s f (try_waits rs) = Answers f (try_waits rs)

tries_on : (s : Bindings) (f g : ℕ → Option Tried) → ((y : Tried) → Answers g y → Answers f y) → (x : Tried) → TriesAlike s g x
    → TriesAlike s f x
tries_on s f g h (succeeds cs rs) e = (e.0, h (succeeds e.0 rs) e.1, e.2)
tries_on s f g h (try_fails rs) e = h (try_fails rs) e
tries_on s f g h (try_waits rs) e = h (try_waits rs) e

-- the pairs of arguments that lead to others, and a head
pub head_pairs_lead : (s : Bindings) (met : ℕ) (ts us : List (Term Variable)) (hs : List (Term ℕ)) → AllLead s ts us
    → PairsLead s (head_pairs met ts hs) (head_pairs met us hs)
head_pairs_lead s met [] [] hs h = tt
head_pairs_lead s met (t ∷ ts) (u ∷ us) [] h = tt
head_pairs_lead s met (t ∷ ts) (u ∷ us) (a ∷ hs) h =
    (h.0, leads_here s (rename own (mark met a).item), head_pairs_lead s (mark met a).met ts us hs h.1)
head_pairs_lead s met [] (u ∷ us) hs h = absurd h
head_pairs_lead s met (t ∷ ts) [] hs h = absurd h

module _ (s short : Bindings) (shortened : AreShortened s short) where
  -- the tests of a guard
  module _ (bs cs : Bindings) (bound : BindingsLead (s ++ bs) bs cs) (behind : Bool) where
    tests_led : (n : ℕ) (rs : List Variable) (ts : List (Test ℕ)) (x : Tried) → tests n short cs behind rs ts ≡ Some x
        → TriesAlike s (λ m. tests m s bs behind rs ts) x
    tests_led n rs [] (succeeds ds us) e = (bs, (0, cc), let i : cs ≡ ds = cc in subst (BindingsLead (s ++ bs) bs) i bound)
    tests_led n rs [] (try_fails us) e = cc
    tests_led n rs [] (try_waits us) e = cc
    tests_led n rs (t ∷ ts) x e = go (test n (short ++ cs) behind (rename_test own t)) refl e (λ qs i. tests_led n qs ts x i)
      where
        now : ℕ → Option Tried
        now m = tests m s bs behind rs (t ∷ ts)

        tested : (y : Tested) → test n (short ++ cs) behind (rename_test own t) ≡ Some y
            → Answers (λ m. test m (s ++ bs) behind (rename_test own t)) y
        tested = test_short (s ++ bs) (short ++ cs) (shortened_over s short bs cs shortened bound) n behind (rename_test own t)

        -- a test that does not hold ends the try
        ends : (y : Tested) (z : Tried) → test n (short ++ cs) behind (rename_test own t) ≡ Some y
            → ((next : List Variable → Option Tried) → test_on next rs (Some y) ≡ Some z) → Answers now z
        ends y z i f = let a = tested y i in
            (a.0, ap (test_on (λ us. tests a.0 s bs behind us ts) rs) a.1 ∙ f (λ us. tests a.0 s bs behind us ts))

        go : (o : Option Tested) → test n (short ++ cs) behind (rename_test own t) ≡ o
            → test_on (λ us. tests n short cs behind us ts) rs o ≡ Some x
            → ((qs : List Variable) → tests n short cs behind qs ts ≡ Some x → TriesAlike s (λ m. tests m s bs behind qs ts) x)
            → TriesAlike s now x
        go None i f rec = cc
        go (Some (fails qs)) i f rec =
            let is : try_fails (rs ++ qs) ≡ x = cc in
            subst (TriesAlike s now) is (ends (fails qs) (try_fails (rs ++ qs)) i (λ next. refl))
        go (Some (pauses qs)) i f rec =
            let is : try_waits (rs ++ qs) ≡ x = cc in
            subst (TriesAlike s now) is (ends (pauses qs) (try_waits (rs ++ qs)) i (λ next. refl))
        go (Some (holds qs)) i f rec = tries_on s now next on x (rec (rs ++ qs) f)
          where
            next : ℕ → Option Tried
            next m = tests m s bs behind (rs ++ qs) ts

            on : (y : Tried) → Answers next y → Answers now y
            on y a =
                let two = both_answer (λ m. test m (s ++ bs) behind (rename_test own t)) next (holds qs) y
                (test_more (s ++ bs) behind (rename_test own t)) (λ m. tests_more s bs behind m (rs ++ qs) ts) (tested (holds qs) i) a in
                (two.0, ap (test_on (λ us. tests two.0 s bs behind us ts) rs) two.1 ∙ two.2)

  -- a try with arguments that lead to others
  pub attempt_led : (n : ℕ) (c : Clause) (ts us : List (Term Variable)) (behind : Bool) (x : Tried) → AllLead s ts us
      → attempt n short c us behind ≡ Some x → TriesAlike s (λ m. attempt m s c ts behind) x
  attempt_led n c ts us behind x leads e = go (unify n short [] [] (head_pairs 0 us c.args)) refl e
    where
      now : ℕ → Option Tried
      now m = attempt m s c ts behind

      head : ℕ → Option Ended
      head m = unify m s [] [] (head_pairs 0 ts c.args)

      ended : (y : Ended) → unify n short [] [] (head_pairs 0 us c.args) ≡ Some y → EndsAlike s head y
      ended y i =
          unify_led s short shortened n y [] [] [] (head_pairs 0 ts c.args) (head_pairs 0 us c.args) tt
          (head_pairs_lead (s ++ []) 0 ts us c.args (all_lead_more s (s ++ []) (part_append s []) ts us leads)) i

      -- a head that does not match ends the try
      ends : (y : Ended) (z : Tried) → Answers head y → ((next : Bindings → List Variable → Option Tried) → guard_on next (Some y) ≡ Some z)
          → Answers now z
      ends y z a f =
          (a.0, ap (guard_on (λ bs rs. tests a.0 s bs behind rs c.guard)) a.1 ∙ f (λ bs rs. tests a.0 s bs behind rs c.guard))

      go : (o : Option Ended) → unify n short [] [] (head_pairs 0 us c.args) ≡ o
          → guard_on (λ bs rs. tests n short bs behind rs c.guard) o ≡ Some x → TriesAlike s now x
      go None i f = cc
      go (Some (clash rs)) i f =
          let is : try_fails rs ≡ x = cc in
          subst (TriesAlike s now) is (ends (clash rs) (try_fails rs) (ended (clash rs) i) (λ next. refl))
      go (Some (wait rs)) i f =
          let is : try_waits rs ≡ x = cc in
          subst (TriesAlike s now) is (ends (wait rs) (try_waits rs) (ended (wait rs) i) (λ next. refl))
      go (Some (done cs rs)) i f = tries_on s now next on x (tests_led bs cs (ended (done cs rs) i).2 behind n rs c.guard x f)
        where
          bs : Bindings
          bs = (ended (done cs rs) i).0

          next : ℕ → Option Tried
          next m = tests m s bs behind rs c.guard

          on : (y : Tried) → Answers next y → Answers now y
          on y a =
              let two = both_answer head next (done bs rs) y (λ m. unify_more s m [] [] (head_pairs 0 ts c.args))
              (λ m. tests_more s bs behind m rs c.guard) (ended (done cs rs) i).1 a in
              (two.0, ap (guard_on (λ ds qs. tests two.0 s ds behind qs c.guard)) two.1 ∙ two.2)
