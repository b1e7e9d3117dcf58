-- What the words of a call ask for.
use Rattle.std.specs.Prelude.{◌≡◌, ◌==◌, ℕ, Bool, true, false, not, ◌&&◌, nat_le, List, [], ◌∷◌, ◌++◌, length, codes, Option, Some, None, Result, Ok, Err, if◌then◌else◌}
use Rattle.std.specs.List.{list_all}
use Rattle.std.specs.Option.{option_map_or}
use Rattle.fcp_model.specs.declared.run.Limits.{Limits}
use Rattle.fcp_model.specs.Spelling.{Bytes}
use Rattle.word_numbers.specs.Numbers.{number_of}
use Rattle.command_words.specs.declared.run_option.RunOption.{RunOption}
use Rattle.command_words.specs.declared.run_option.RunOption.TheVariants.{Limit, Control}
use Rattle.command_words.specs.declared.run_option.RunLimit.TheVariants.{Commits, Moves, Cells}
use Rattle.command_words.specs.declared.order.Order.{Order}
use Rattle.command_words.specs.declared.order.Order.TheVariants.{Run, Show}
use Rattle.command_words.specs.declared.order.WordFault.{WordFault}
use Rattle.command_words.specs.declared.order.WordFault.TheVariants.{Usage, NoMemory}

-- ---- words

-- not empty, and at most 65,536 bytes
abbrev pub is_proper : Bytes → Bool
is_proper w = nat_le 1 (length w) && nat_le (length w) 65536

-- no `-` stands in front
abbrev pub is_plain : Bytes → Bool
is_plain [] = true
is_plain (b ∷ bs) = not (b == 45)

-- the word of an option
abbrev pub option_word : RunOption → Bytes
option_word (Limit Commits) = codes "--commits"
option_word (Limit Moves) = codes "--moves"
option_word (Limit Cells) = codes "--cells"
option_word Control = codes "--control"

-- ---- the words behind `run`

-- a positional word, or an option with its value in the next word or behind a `=`
pub data Part : Type 0 where
  positional : Bytes → Part
  apart : RunOption → Bytes → Part
  joined : RunOption → Bytes → Part

-- the words of parts
abbrev pub words_of : List Part → List Bytes
words_of [] = []
words_of (positional w ∷ ps) = w ∷ words_of ps
words_of (apart o v ∷ ps) = option_word o ∷ v ∷ words_of ps
words_of (joined o v ∷ ps) = (option_word o ++ codes "=" ++ v) ∷ words_of ps

-- a positional word has no `-` in front
abbrev pub is_plain_part : Part → Bool
is_plain_part (positional w) = is_plain w
is_plain_part (apart o v) = true
is_plain_part (joined o v) = true

-- the positional words, in order
abbrev pub positionals : List Part → List Bytes
positionals [] = []
positionals (positional w ∷ ps) = w ∷ positionals ps
positionals (apart o v ∷ ps) = positionals ps
positionals (joined o v ∷ ps) = positionals ps

-- two options are one
abbrev pub is_same : RunOption → RunOption → Bool
is_same (Limit Commits) (Limit Commits) = true
is_same (Limit Moves) (Limit Moves) = true
is_same (Limit Cells) (Limit Cells) = true
is_same Control Control = true
is_same _ _ = false

-- the values of an option, in order
abbrev pub values_of : RunOption → List Part → List Bytes
values_of o [] = []
values_of o (positional w ∷ ps) = values_of o ps
values_of o (apart p v ∷ ps) = if is_same o p then v ∷ values_of o ps else values_of o ps
values_of o (joined p v ∷ ps) = if is_same o p then v ∷ values_of o ps else values_of o ps

-- These values of a limit's option give this number: it stands once at most. Its value has 1 to 8 digits, so it is not empty
-- and has no `-` in front, and is at most `most`. Without it the number is the default.
abbrev pub GivesNumber : ℕ → ℕ → List Bytes → ℕ → Type 0
GivesNumber default most [] n = n ≡ default
GivesNumber default most (v ∷ []) n = number_of 8 most v ≡ Some n
GivesNumber default most (v ∷ w ∷ vs) n = ⊥

-- not empty, and no `-` stands in front
abbrev pub is_value : Bytes → Bool
is_value [] = false
is_value (b ∷ bs) = not (b == 45)

-- these values of an option give this text, which is its value, or none: it stands once at most
abbrev pub GivesText : List Bytes → Option Bytes → Type 0
GivesText [] text = text ≡ None
GivesText (v ∷ []) text = (is_value v ≡ true) × (text ≡ Some v)
GivesText (v ∷ w ∷ vs) text = ⊥

-- The words behind `run` are these parts, and ask for the run of the goal over the file's module within the limits, with this control
-- text or none.
pub record AreRunParts (words : List Bytes) (parts : List Part) (file goal : Bytes) (limits : Limits) (control : Option Bytes) : Type 0 where
  pub spelled : words ≡ words_of parts
  pub plain : list_all is_plain_part parts ≡ true
  pub two : positionals parts ≡ file ∷ goal ∷ []
  pub commits : GivesNumber 1000000 1000000 (values_of (Limit Commits) parts) limits.commits
  pub moves : GivesNumber 1000000 1000000 (values_of (Limit Moves) parts) limits.moves
  pub cells : GivesNumber 8000000 64000000 (values_of (Limit Cells) parts) limits.cells
  pub asked : GivesText (values_of Control parts) control

-- ---- calls

-- `run FILE GOAL`, with options before, between and behind the two
pub record IsRun (words : List Bytes) (file goal : Bytes) (limits : Limits) (control : Option Bytes) : Type 0 where
  pub behind : List Bytes
  pub command : words ≡ codes "run" ∷ behind
  pub proper : list_all is_proper words ≡ true
  pub parts : List Part
  pub are_parts : AreRunParts behind parts file goal limits control

-- `show FILE`
pub record IsShow (words : List Bytes) (file : Bytes) : Type 0 where
  pub command : words ≡ codes "show" ∷ file ∷ []
  pub proper : list_all is_proper words ≡ true
  pub plain : is_plain file ≡ true

-- by the command
abbrev pub AskFor : List Bytes → Order → Type 0
AskFor words (Run file goal limits control) = IsRun words file goal limits control
AskFor words (Show file) = IsShow words file

-- the words ask for this
pub record IsReading (words : List Bytes) (o : Order) : Type 0 where
  pub asks : AskFor words o

-- the words ask for nothing
abbrev pub HasNoReading : List Bytes → Type 0
HasNoReading words = (o : Order) → IsReading words o → ⊥

-- what reading the words answers
abbrev pub ReadsWords : List Bytes → Result Order WordFault → Type 0
ReadsWords words (Ok o) = IsReading words o
ReadsWords words (Err Usage) = HasNoReading words
ReadsWords words (Err NoMemory) = Unit {0}

-- ---- of orders

-- the file that an order names
abbrev pub file_of : Order → Bytes
file_of (Run file goal limits control) = file
file_of (Show file) = file

-- its words have 1 to 65,536 bytes
abbrev pub has_words : Order → Bool
has_words (Run file goal limits control) = is_proper file && is_proper goal && option_map_or is_proper control true
has_words (Show file) = is_proper file
