-- What a control makes of the mode.
use Rattle.std.proofs.Common.{ap}
use Rattle.std.specs.Prelude.{MatchOption, ◌||◌}
use Rattle.fcp_model.specs.declared.run.Entry.{Entry}
use Rattle.fcp_model.specs.declared.run.Entry.TheVariants.{Commit, Hang, Fail, Snapshot, Suspend, Resume, Abort}
use Rattle.fcp_model.specs.States.{Mode, is_open, is_held, is_aborted, is_running, is_suspended}
use Rattle.fcp_model.specs.Runs.{control}
use Rattle.log_replay.specs.declared.mode.RunMode.{RunMode}
use Rattle.log_replay.specs.declared.mode.RunMode.TheVariants.{Open, Held, Failed, Aborted}
use Rattle.log_replay.specs.Parts.{IsControl, IsForbidden, LeadsTo, mode_behind}

pub behind_says : (before : RunMode) (e : Entry) → IsControl e
    → MatchOption (mode_behind before e) (IsForbidden before e) (LeadsTo before e)
behind_says Open Snapshot c = λ m s e. ap (λ (md : Mode). control s Snapshot (is_running md || is_suspended md) md) e
behind_says Held Snapshot c = λ m s e. ap (λ (md : Mode). control s Snapshot (is_running md || is_suspended md) md) e
behind_says Failed Snapshot c = λ s e. ap (λ (md : Mode). is_running md || is_suspended md) e
behind_says Aborted Snapshot c = λ s e. ap (λ (md : Mode). is_running md || is_suspended md) e
behind_says Open Suspend c = λ m s e. ap (λ (md : Mode). control s Suspend (is_running md) is_held) e
behind_says Held Suspend c = λ s e. ap is_running e
behind_says Failed Suspend c = λ s e. ap is_running e
behind_says Aborted Suspend c = λ s e. ap is_running e
behind_says Held Resume c = λ m s e. ap (λ (md : Mode). control s Resume (is_suspended md) is_open) e
behind_says Open Resume c = λ s e. ap is_suspended e
behind_says Failed Resume c = λ s e. ap is_suspended e
behind_says Aborted Resume c = λ s e. ap is_suspended e
behind_says Open Abort c = λ m s e. ap (λ (md : Mode). control s Abort (is_running md || is_suspended md) is_aborted) e
behind_says Held Abort c = λ m s e. ap (λ (md : Mode). control s Abort (is_running md || is_suspended md) is_aborted) e
behind_says Failed Abort c = λ s e. ap (λ (md : Mode). is_running md || is_suspended md) e
behind_says Aborted Abort c = λ s e. ap (λ (md : Mode). is_running md || is_suspended md) e
behind_says before (Commit p k) c = absurd c
behind_says before (Hang p) c = absurd c
behind_says before (Fail p) c = absurd c
