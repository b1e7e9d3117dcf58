-- The ends of a trial, wherever words have what was kept.
use Rattle.std.specs.Prelude.{◌≡◌, ℕ, ◌<◌, ◌≤◌, true, false, Some, None, slice_get}
use Rattle.fcp_model.specs.Programs.{Program}
use Rattle.fcp_model.specs.Cells.{clause_used}
use Rattle.fcp_model.specs.Events.{vars_of}
use Rattle.heap_words.specs.Trails.{WordList}
use Rattle.word_states.specs.Trials.{CommitSays, WaitSays, FailSays}
use Rattle.machine_code.specs.Instructions.{Commit, Jump}
use Rattle.machine_code.specs.Machine.{untried}
use Rattle.trial_laws.specs.AtHand.{AtHand, end_of}
use Rattle.trial_laws.specs.Endings.{IsOfSource, of_store, settled}
use Rattle.steady_tries.specs.Steady.{Course, IsCourse, arguments_of, Wherever, Steadily, IsBetween}

-- Wherever words have what was kept, what the code gives is what the clauses decide, and it tells the number of a clause's variables.
pub record IsOfProgram (c : Course) (kept : WordList) (m : Program) : Type 0 where
  pub source : Wherever c kept (λ w vs bound g. IsOfSource m bound g c.ops (arguments_of g) c.start untried)
  pub vars : Wherever c kept (λ w vs bound g. (k : ℕ) → c.vars k ≡ vars_of (clause_used m g k))

-- the process commits
abbrev pub SteadyCommit : Type 0
SteadyCommit = Steadily (λ c kept at n r. (m : Program) → IsOfProgram c kept m → slice_get c.ops at ≡ Some Commit
    → c.vars r.clause < 268435455 → end_of 4000000000 r.pieces ≤ 4268435456
    → Wherever c kept (λ w vs bound g. CommitSays m w vs bound g r.clause (of_store r.binds) (settled r.binds 4000000000 r.pieces)))

-- so between two tries
abbrev pub Between : (Course → WordList → ℕ → AtHand → Type 0) → Type 0
Between P = (c : Course) (kept : WordList) (at : ℕ) (r : AtHand) → IsCourse c kept → IsBetween c kept at r → P c kept at r

-- the trial goes on at another position
abbrev pub BetweenJump : Type 0
BetweenJump = Between (λ c kept at r. (to : ℕ) → slice_get c.ops at ≡ Some (Jump to) → IsBetween c kept to r)

-- where no instruction stands, the process fails, or it waits for the places noted
abbrev pub BetweenFail : Type 0
BetweenFail = Between (λ c kept at r. (m : Program) → IsOfProgram c kept m → slice_get c.ops at ≡ None → r.behind ≡ true
    → Wherever c kept (λ w vs bound g. FailSays m bound g))

abbrev pub BetweenWait : Type 0
BetweenWait = Between (λ c kept at r. (m : Program) → IsOfProgram c kept m → slice_get c.ops at ≡ None → r.behind ≡ false
    → Wherever c kept (λ w vs bound g. WaitSays m w vs bound g r.waits))
