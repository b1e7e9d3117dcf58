-- Each ruling after which the run goes on leaves less to do; and where the queue and the limits end the run.
use Rattle.std.proofs.Common.{◌≡◌, ℕ, ◌+◌, ◌-◌, ◌*◌, ◌≤◌, Bool, true, false, [], length, ◌⊎◌, inl, inr, refl, subst, arith}
use Rattle.std.specs.Prelude.{nat_eq, nat_le, ◌||◌}
use Rattle.std.proofs.lemmas.Bool.Decides.{nat_tests}
use Rattle.run_laws.specs.Running.{IsGoing, IsAtEnd}
use Rattle.worker_crew.specs.declared.task.Task.{Task}
use Rattle.worker_crew.specs.declared.engine.Engine.{Engine}
use Rattle.worker_crew.specs.declared.engine.Ruled.{Ruled}
use Rattle.worker_crew.specs.declared.engine.Ruled.TheVariants as ruled
use Rattle.worker_crew.specs.Reached.{counts_of, entries_left, IsReached}
use Rattle.worker_crew.specs.Moved.{RuleGives}

-- more than the processes of a queue for each entry that may still be made, and those that did not go to its back
abbrev pub measure : Task → Engine → ℕ
measure t e = entries_left t e * 18446744073709551616 + (length e.queue.items - e.passed)

pub goes_on : (t : Task) (e new : Engine) (r : Ruled) → (r ≡ ruled.Makes) ⊎ (r ≡ ruled.Passes)
    → RuleGives t (entries_left t e) (length e.queue.items) e.passed new r → IsReached t [] new
goes_on t e new r (inl makes) h = (subst (RuleGives t (entries_left t e) (length e.queue.items) e.passed new) makes h).0
goes_on t e new r (inr passes) h = (subst (RuleGives t (entries_left t e) (length e.queue.items) e.passed new) passes h).0

-- the run ends at its limits, and where each process of the queue went to its back
or_cases : (a b c : Bool) → (a || b || c) ≡ true → (a ≡ true) ⊎ ((b ≡ true) ⊎ (c ≡ true))
or_cases true b c e = inl refl
or_cases false true c e = inr (inl refl)
or_cases false false c e = inr (inr e)

at_zero : (n : ℕ) → nat_eq n 0 ≡ true → n ≡ 0
at_zero n h = grind (arith, nat_tests)

at_most : (a b : ℕ) → nat_le a b ≡ true → a ≤ b
at_most a b h = grind (arith, nat_tests)

-- the test of an engine that its queue and its limits end the run
abbrev pub is_ended : Engine → Bool
is_ended e = nat_eq e.hall.quota.commits 0 || nat_eq e.hall.quota.moves 0 || nat_le (length e.queue.items) e.passed

pub at_end : (t : Task) (e : Engine) → IsGoing (counts_of t e) → is_ended e ≡ true → IsAtEnd e.queue.items (counts_of t e)
at_end t e going h =
    inr (
      going.not_due,
      inr (go (or_cases (nat_eq e.hall.quota.commits 0) (nat_eq e.hall.quota.moves 0)
          (nat_le (length e.queue.items) e.passed) h)),
    )
  where
    go : (nat_eq e.hall.quota.commits 0 ≡ true) ⊎ ((nat_eq e.hall.quota.moves 0 ≡ true) ⊎ (nat_le (length e.queue.items) e.passed ≡ true))
        → ((e.queue.items ≡ []) ⊎ (e.hall.quota.commits ≡ 0)) ⊎ ((e.hall.quota.moves ≡ 0) ⊎ (length e.queue.items ≤ e.passed))
    go (inl a) = inl (inr (at_zero e.hall.quota.commits a))
    go (inr (inl b)) = inr (inl (at_zero e.hall.quota.moves b))
    go (inr (inr c)) = inr (inr (at_most (length e.queue.items) e.passed c))
