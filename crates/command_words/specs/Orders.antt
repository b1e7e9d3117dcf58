-- What the parser's matches ask for. Only private clauses cite these.
use Rattle.std.specs.Prelude.{◌≡◌, ◌==◌, ◌&&◌, ◌||◌, ℕ, Bool, true, not, List, [], ◌∷◌, codes, Option, Some, None, is_some, option_and_then, option_map, Result, Ok, Err, if◌then◌else◌}
use Rattle.std.specs.Str.{bytes_eq}
use Rattle.fcp_model.specs.declared.run.Limits.{Limits}
use Rattle.fcp_model.specs.Spelling.{Bytes}
use Rattle.word_numbers.specs.Numbers.{number_of}
use Rattle.clap.specs.Words.{Row, first_of, fault_of, subcommand_of, subcommand_rows_of}
use Rattle.clap.specs.declared.error.kind.ErrorKind.{ErrorKind}
use Rattle.clap.specs.declared.error.kind.ErrorKind.TheVariants.{OutOfMemory}
use Rattle.clap.specs.declared.parser.matches.ArgMatches.{ArgMatches}
use Rattle.command_words.specs.declared.order.Order.{Order}
use Rattle.command_words.specs.declared.order.Order.TheVariants.{Run, Show}
use Rattle.command_words.specs.declared.order.WordFault.{WordFault}
use Rattle.command_words.specs.declared.order.WordFault.TheVariants.{Usage, NoMemory}
use Rattle.command_words.specs.declared.run_option.RunOption.TheVariants.{Limit, Control}
use Rattle.command_words.specs.declared.run_option.RunLimit.{RunLimit}
use Rattle.command_words.specs.declared.run_option.RunLimit.TheVariants.{Commits, Moves, Cells}
use Rattle.command_words.specs.Commands.{default_of, logix, most_of, name_of}
use Rattle.command_words.specs.Readings.{is_proper, is_value}

-- ---- before the parser

-- no `-` stands in front, or two and something behind them
abbrev pub is_long_or_plain : Bytes → Bool
is_long_or_plain [] = true
is_long_or_plain (a ∷ []) = not (a == 45)
is_long_or_plain (a ∷ b ∷ []) = not (a == 45)
is_long_or_plain (a ∷ b ∷ c ∷ rest) = not (a == 45) || b == 45

-- the word may stand in a call
abbrev pub is_allowed : Bytes → Bool
is_allowed w = is_proper w && is_long_or_plain w

-- ---- what the parser answers

-- what a parse of these words answers
abbrev pub Parses : List Bytes → Result ArgMatches WordFault → Type 0
Parses words (Ok m) = (fault_of logix words ≡ []) × (subcommand_rows_of m ≡ subcommand_of logix words)
Parses words (Err Usage) = fault_of logix words ≡ [] → ⊥
Parses words (Err NoMemory) = Unit {0}

-- what an error of the parser is
abbrev pub fault_by : ErrorKind → WordFault
fault_by OutOfMemory = NoMemory
fault_by _ = Usage

-- ---- behind the parser

-- the number of a limit's value, or of no value
abbrev pub number_from : RunLimit → Option Bytes → Option ℕ
number_from l None = Some (default_of l)
number_from l (Some v) = number_of 8 (most_of l) v

abbrev pub number_in : RunLimit → List Row → Option ℕ
number_in l rows = number_from l (first_of (name_of (Limit l)) rows)

abbrev pub limits_from : Option ℕ → Option ℕ → Option ℕ → Option Limits
limits_from (Some commits) (Some moves) (Some cells) = Some (record { commits = commits; moves = moves; cells = cells })
limits_from _ _ _ = None

abbrev pub limits_in : List Row → Option Limits
limits_in rows = limits_from (number_in Commits rows) (number_in Moves rows) (number_in Cells rows)

-- the control text that a value is, or that there is none
abbrev pub control_from : Option Bytes → Option (Option Bytes)
control_from None = Some None
control_from (Some v) = if is_value v then Some (Some v) else None

abbrev pub control_in : List Row → Option (Option Bytes)
control_in rows = control_from (first_of (name_of Control) rows)

abbrev pub run_from : Option Bytes → Option Bytes → Option Limits → Option (Option Bytes) → Option Order
run_from (Some file) (Some goal) (Some limits) (Some control) = Some (Run file goal limits control)
run_from _ _ _ _ = None

-- the run that the matches behind `run` ask for
abbrev pub run_in : List Row → Option Order
run_in rows = run_from (first_of (codes "file") rows) (first_of (codes "goal") rows) (limits_in rows) (control_in rows)

-- the order that the matches behind `show` ask for
abbrev pub show_in : List Row → Option Order
show_in rows = option_map Show (first_of (codes "file") rows)

abbrev pub order_by : Bytes → List Row → Option Order
order_by command rows =
    if bytes_eq command (codes "run") then run_in rows else (if bytes_eq command (codes "show") then show_in rows else None)

-- the order that a command and the matches behind it ask for
abbrev pub order_in : Option (Bytes × List Row) → Option Order
order_in = option_and_then (λ p. order_by p.0 p.1)

-- what is answered where this is asked for, or nothing is: memory can run out where there is something to be kept
abbrev pub Answers : {A : Type 0} → Option A → Result A WordFault → Type 0
Answers o (Ok x) = o ≡ Some x
Answers o (Err Usage) = o ≡ None
Answers o (Err NoMemory) = is_some o ≡ true
