-- The reading of a control text, word by word. Only private clauses cite these.
use Rattle.std.specs.Prelude.{◌≡◌, ℕ, ◌+◌, ◌≤◌, nat_le, nat_lt, Bool, true, false, ◌&&◌, List, [], ◌∷◌, ◌++◌, codes, Option, Some, None, option_and_then, option_map, if◌then◌else◌}
use Rattle.std.specs.Str.{bytes_eq}
use Rattle.fcp_model.specs.declared.run.Act.{Act}
use Rattle.fcp_model.specs.declared.run.Act.TheVariants.{Snapshot, Suspend, Resume, Abort}
use Rattle.fcp_model.specs.declared.run.Control.{Control}
use Rattle.fcp_model.specs.Spelling.{Bytes}
use Rattle.word_numbers.specs.Numbers.{number_of}
use Rattle.control_texts.specs.declared.reading.Expected.{Expected}
use Rattle.control_texts.specs.declared.reading.Expected.TheVariants as expected
use Rattle.control_texts.specs.declared.reading.Standing.{Standing}
use Rattle.control_texts.specs.declared.reading.Standing.TheVariants as standing
use Rattle.control_texts.specs.declared.reading.Reading.{Reading}
use Rattle.control_texts.specs.declared.reading.Step.{Step}

-- the reading before the first word
abbrev pub begin : Reading
begin = record { expected = expected.After; count = 0; moves = 0; standing = standing.Running }

-- the text may end here
abbrev pub is_end : Expected → Bool
is_end expected.Semicolon = true
is_end _ = false

-- the text may end where the reading stands
abbrev pub is_whole : Reading → Bool
is_whole r = is_end r.expected

-- the same reading with something else next
abbrev pub expecting : Reading → Expected → Step
expecting r e = record { reading = record r { expected = e }; control = None }

-- the act that a word names
abbrev pub act_of : Bytes → Option Act
act_of word =
    if bytes_eq word (codes "snapshot") then Some Snapshot
    else (if bytes_eq word (codes "suspend") then Some Suspend
    else (if bytes_eq word (codes "resume") then Some Resume
    else (if bytes_eq word (codes "abort") then Some Abort else None)))

-- something may still be asked for
abbrev pub is_live : Standing → Bool
is_live standing.Running = true
is_live standing.Suspended = true
is_live standing.Aborted = false

-- how a run stands behind an act, where the act may be asked for
abbrev pub standing_after : Act → Standing → Option Standing
standing_after act standing.Aborted = None
standing_after Snapshot standing.Running = Some standing.Running
standing_after Snapshot standing.Suspended = Some standing.Suspended
standing_after Abort standing.Running = Some standing.Aborted
standing_after Abort standing.Suspended = Some standing.Aborted
standing_after Suspend standing.Running = Some standing.Suspended
standing_after Suspend standing.Suspended = None
standing_after Resume standing.Running = None
standing_after Resume standing.Suspended = Some standing.Running

-- behind a number of moves, which is not below the last one
abbrev pub after_moves : Reading → Option ℕ → Option Step
after_moves r None = None
after_moves r (Some n) = if nat_le r.moves n then Some (expecting r (expected.Act n)) else None

-- behind the word of a number
abbrev pub after_number : Reading → Bytes → Option Step
after_number r word = after_moves r (number_of 7 1000000 word)

-- behind an act, with its control
abbrev pub acted : Reading → ℕ → Act → Standing → Step
acted r n act s = record {
  reading = record { expected = expected.Semicolon; count = r.count + 1; moves = n; standing = s };
  control = Some (record { after = n; act = act });
}

-- behind the word of an act that is due after n moves
abbrev pub after_act : Reading → ℕ → Bytes → Option Step
after_act r n word = option_and_then (λ act. option_map (acted r n act) (standing_after act r.standing)) (act_of word)

-- behind a `;`
abbrev pub after_semicolon : Reading → Bytes → Option Step
after_semicolon r word =
    if bytes_eq word (codes ";") && nat_lt r.count 64 && is_live r.standing then Some (expecting r expected.After) else None

-- behind a word, by what is expected
abbrev pub step_at : Expected → Reading → Bytes → Option Step
step_at expected.After r word = if bytes_eq word (codes "after") then Some (expecting r expected.Number) else None
step_at expected.Number r word = after_number r word
step_at (expected.Act n) r word = after_act r n word
step_at expected.Semicolon r word = after_semicolon r word

-- the reading with one word more, where the word can stand there
abbrev pub step : Reading → Bytes → Option Step
step r word = step_at r.expected r word

-- the control that a word ends, as a list
abbrev pub made : Option Control → List Control
made None = []
made (Some c) = c ∷ []

-- the reading goes on behind a word, and the control that the word ends stands behind the others
pub record GoesOn (r : Reading) (word : Bytes) (before after : List Control) (next : Reading) : Type 0 where
  pub taken : Step
  pub is_step : step r word ≡ Some taken
  pub reading_is : next ≡ taken.reading
  pub added : after ≡ before ++ made taken.control

-- what taking a word answers
abbrev pub Takes : Reading → Bytes → List Control → List Control → Option Reading → Type 0
Takes r word before after None = step r word ≡ None
Takes r word before after (Some next) = GoesOn r word before after next
