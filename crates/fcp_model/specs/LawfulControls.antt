-- Lists of controls that a run can keep.
use Rattle.std.specs.Prelude.{◌≡◌, ℕ, ◌≤◌, Bool, true, ◌||◌, List, [], ◌∷◌}
use Rattle.fcp_model.specs.declared.run.Act.{Act}
use Rattle.fcp_model.specs.declared.run.Act.TheVariants.{Snapshot, Suspend, Resume, Abort}
use Rattle.fcp_model.specs.declared.run.Control.{Control}
use Rattle.fcp_model.specs.States.{Mode, is_open, is_running, is_suspended}
use Rattle.fcp_model.specs.OneWorker.{mode_after}

-- whether a control may be made in a mode: a suspend in an open run, a resume in a suspended one, the others in both
abbrev pub is_allowed : Act → Mode → Bool
is_allowed Snapshot mode = is_running mode || is_suspended mode
is_allowed Suspend mode = is_running mode
is_allowed Resume mode = is_suspended mode
is_allowed Abort mode = is_running mode || is_suspended mode

-- The numbers of moves do not fall and begin at least at `moves`, and each control is allowed in the mode that those
-- before it leave, of which the first is `mode`. So nothing stands behind an abort.
abbrev pub AreLawfulFrom : ℕ → Mode → List Control → Type 0
AreLawfulFrom moves mode [] = Unit {0}
AreLawfulFrom moves mode (c ∷ cs) = (moves ≤ c.after) × (is_allowed c.act mode ≡ true) × AreLawfulFrom c.after (mode_after c.act mode) cs

-- the controls of a run that is open at first
abbrev pub AreLawful : List Control → Type 0
AreLawful cs = AreLawfulFrom 0 is_open cs
