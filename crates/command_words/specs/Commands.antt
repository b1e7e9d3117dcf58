-- The commands as the parser of command lines is told them. Only private clauses cite these.
use Rattle.std.specs.Prelude.{ℕ, true, codes, Some}
use Rattle.fcp_model.specs.Spelling.{Bytes}
use Rattle.clap.specs.Words.{App, Rule, Shape, new_app, new_rule, with_rule, with_subcommand}
use Rattle.command_words.specs.declared.run_option.RunOption.{RunOption}
use Rattle.command_words.specs.declared.run_option.RunOption.TheVariants.{Limit, Control}
use Rattle.command_words.specs.declared.run_option.RunLimit.{RunLimit}
use Rattle.command_words.specs.declared.run_option.RunLimit.TheVariants.{Commits, Moves, Cells}

-- the name of an option, which is its word without `--`
abbrev pub name_of : RunOption → Bytes
name_of (Limit Commits) = codes "commits"
name_of (Limit Moves) = codes "moves"
name_of (Limit Cells) = codes "cells"
name_of Control = codes "control"

-- the number of a limit without its option
abbrev pub default_of : RunLimit → ℕ
default_of Commits = 1000000
default_of Moves = 1000000
default_of Cells = 8000000

-- the greatest number
abbrev pub most_of : RunLimit → ℕ
most_of Commits = 1000000
most_of Moves = 1000000
most_of Cells = 64000000

-- an option, with one value
abbrev pub option_rule : RunOption → Rule
option_rule o = record (new_rule (name_of o)) { long = Some (name_of o) }

abbrev pub run : App
run =
    let words = with_rule (with_rule (new_app (codes "run")) (new_rule (codes "file"))) (new_rule (codes "goal")) in
    let limits = with_rule (with_rule words (option_rule (Limit Commits))) (option_rule (Limit Moves)) in
    with_rule (with_rule limits (option_rule (Limit Cells))) (option_rule Control)

abbrev pub show : App
show = with_rule (new_app (codes "show")) (new_rule (codes "file"))

-- no name of the program, and no words for help
abbrev pub bare : Shape
bare = record (new_app (codes "logix")).top { no_binary_name = true; disable_help_flag = true; disable_help_subcommand = true }

abbrev pub logix : App
logix = with_subcommand (with_subcommand (record { top = bare; subs = (new_app (codes "logix")).subs }) run.top) show.top
