-- What the parser makes of the words of a call is what it makes of the words behind the command.
use Rattle.std.proofs.Common.{◌≡◌, ℕ, true, false, List, [], ◌∷◌, Option, Some, None, ap, sym, ◌∙◌, refl}
use Rattle.std.specs.Prelude.{codes, fold, is_some}
use Rattle.fcp_model.specs.Spelling.{Bytes}
use Rattle.clap.specs.declared.builder.action.ArgAction.TheVariants.{Set}
use Rattle.clap.specs.declared.builder.value_parser.ValueParser.TheVariants as parser
use Rattle.clap.specs.Walk.{Rule, Names, Walk, finished, rows_after, nothing_held, settled, walk, walk_from, walked}
use Rattle.clap.specs.Simple.{Shape, built, entered, new_rule, subcommand_of}
use Rattle.clap.specs.Kinds.{Kinds, or_else}
use Rattle.clap.specs.Faults.{check_fault, defaults_fault, entered_fault, fault_of, level_fault, settle_fault, walk_fault}
use Rattle.clap.proofs.FaultLemmas.{stopped_fault}
use Rattle.clap.proofs.WalkLemmas.{walk_stopped}
use Rattle.command_words.specs.declared.run_option.RunOption.{RunOption}
use Rattle.command_words.specs.declared.run_option.RunOption.TheVariants.{Limit, Control}
use Rattle.command_words.specs.declared.run_option.RunLimit.TheVariants.{Commits, Moves, Cells}
use Rattle.command_words.specs.Commands.{logix, name_of, run, show}

-- an argument of one value, as the parser completes it
abbrev pub given_rule : Bytes → Option Bytes → Option ℕ → Rule
given_rule id long index = record (new_rule id) {
  long = long;
  index = index;
  action = Some Set;
  range = Some (record { start_inclusive = 1; end_inclusive = 1 });
  parser = Some parser.String;
}

-- where the next positional word goes, if anywhere
pub data Place : Type 0 where
  first second full : Place

-- it would be the k-th
abbrev pub place_index : Place → ℕ
place_index first = 1
place_index second = 2
place_index full = 3

-- the two positional arguments, and their places
pub data Slot : Type 0 where
  the_file the_goal : Slot

abbrev pub slot_id : Slot → Bytes
slot_id the_file = codes "file"
slot_id the_goal = codes "goal"

abbrev pub place_of : Slot → Place
place_of the_file = first
place_of the_goal = second

abbrev pub place_behind : Slot → Place
place_behind the_file = second
place_behind the_goal = full

abbrev pub slot_rule : Slot → Rule
slot_rule s = given_rule (slot_id s) None (Some (place_index (place_of s)))

abbrev pub file_rule : Rule
file_rule = slot_rule the_file

-- an option, as the parser completes it
abbrev pub named_rule : RunOption → Rule
named_rule o = given_rule (name_of o) (Some (name_of o)) None

abbrev pub run_rules : List Rule
run_rules =
    file_rule ∷ slot_rule the_goal ∷ named_rule (Limit Commits) ∷ named_rule (Limit Moves) ∷ named_rule (Limit Cells) ∷ named_rule Control
    ∷ []

-- a command behind the first word, as the parser completes it
abbrev pub leaf : Shape → List Rule → Shape
leaf s rules = record s {
  rules = rules;
  no_binary_name = true;
  disable_help_flag = true;
  disable_help_subcommand = true;
  is_built = true;
}

abbrev pub run_leaf : Shape
run_leaf = leaf run.top run_rules

abbrev pub show_leaf : Shape
show_leaf = leaf show.top (file_rule ∷ [])

-- ---- behind the commands

-- the kinds of a first step and of none
pub or_else-none : (a : Kinds) → or_else a [] ≡ a
or_else-none [] = refl
or_else-none (k ∷ ks) = refl

-- where the parser stops at the first word, the words behind it are left to the subcommand
abbrev pub top : Shape
top = (built logix).top

abbrev pub names : Names
names = (codes "run", []) ∷ (codes "show", []) ∷ []

abbrev stopped_at : Bytes → List Bytes → Walk
stopped_at name words = record (walk_from nothing_held) { stopped = Some (name, words) }

first-stops : (name : Bytes) (words : List Bytes) → walked [] names (walk_from nothing_held) name ≡ stopped_at name []
    → walk [] names nothing_held (name ∷ words) ≡ stopped_at name words
first-stops name words e = ap (λ w. fold (walked [] names) w words) e ∙ sym (walk_stopped [] names (walk_from nothing_held) name [] words)

stops : (name : Bytes) (words : List Bytes) → walked [] names (walk_from nothing_held) name ≡ stopped_at name []
    → (walk [] names nothing_held (name ∷ words)).stopped ≡ Some (name, words)
stops name words e = ap (λ (w : Walk). w.stopped) (first-stops name words e)

-- what the first level makes of the kinds of the words' own steps, and of where the parser stops
abbrev level_from : Kinds → Walk → Kinds
level_from start w =
    or_else start (or_else (entered_fault (built logix) w.stopped)
    (or_else (settle_fault top.rules false w.held)
    (or_else (defaults_fault (settled top.rules w.held).rows top.rules)
    (check_fault top (finished top.rules w.held) (is_some (entered (built logix) w.stopped))))))

-- the kinds of a call are those of the level that its first word names
pub run-fault : (words : List Bytes) → fault_of logix (codes "run" ∷ words) ≡ level_fault run_leaf [] nothing_held words false []
unfolding walked walk_fault defaults_fault
run-fault words =
    ap (level_from (walk_fault top names (walk_from nothing_held) (codes "run" ∷ words))) (first-stops (codes "run") words refl)
    ∙ ap (λ k. level_from k (stopped_at (codes "run") words)) (stopped_fault top names (walk_from nothing_held) (codes "run", []) words)
    ∙ or_else-none (level_fault run_leaf [] nothing_held words false [])

pub show-fault : (words : List Bytes) → fault_of logix (codes "show" ∷ words) ≡ level_fault show_leaf [] nothing_held words false []
unfolding walked walk_fault defaults_fault
show-fault words =
    ap (level_from (walk_fault top names (walk_from nothing_held) (codes "show" ∷ words))) (first-stops (codes "show") words refl)
    ∙ ap (λ k. level_from k (stopped_at (codes "show") words)) (stopped_fault top names (walk_from nothing_held) (codes "show", []) words)
    ∙ or_else-none (level_fault show_leaf [] nothing_held words false [])

-- and so are its matches
pub run-rows : (words : List Bytes) → subcommand_of logix (codes "run" ∷ words) ≡ Some (codes "run", rows_after run_rules [] words)
unfolding walked
run-rows words = ap (entered (built logix)) (stops (codes "run") words refl)

pub show-rows : (words : List Bytes)
    → subcommand_of logix (codes "show" ∷ words) ≡ Some (codes "show", rows_after (file_rule ∷ []) [] words)
unfolding walked
show-rows words = ap (entered (built logix)) (stops (codes "show") words refl)
