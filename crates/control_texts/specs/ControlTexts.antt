-- What a control text asks for, and where its fault is.
use Rattle.std.specs.Prelude.{◌≡◌, ℕ, ◌≤◌, Bool, true, List, [], ◌∷◌, ◌++◌, length, map, codes, Result, Ok, Err}
use Rattle.std.specs.List.{list_all}
use Rattle.fcp_model.specs.declared.run.Act.{Act}
use Rattle.fcp_model.specs.declared.run.Act.TheVariants.{Snapshot, Suspend, Resume, Abort}
use Rattle.fcp_model.specs.declared.run.Control.{Control}
use Rattle.fcp_model.specs.LawfulControls.{AreLawful}
use Rattle.fcp_model.specs.Spelling.{Bytes}
use Rattle.word_numbers.specs.Numbers.{is_number, digits_value}
use Rattle.control_texts.specs.declared.fault.ControlFault.{ControlFault}
use Rattle.control_texts.specs.declared.fault.ControlFault.TheVariants as fault
use Rattle.control_texts.specs.Pieces.{Piece, pieces}

-- ---- the lists of words that ask for something; a `;` counts as a word

-- the word of an act
abbrev pub act_word : Act → Bytes
act_word Snapshot = codes "snapshot"
act_word Suspend = codes "suspend"
act_word Resume = codes "resume"
act_word Abort = codes "abort"

-- an item `after N ACT`, where N is these digits
pub record Item : Type 0 where
  pub digits : Bytes
  pub act : Act

-- one to seven digits, of a number of at most 1,000,000
abbrev pub has_number : Item → Bool
has_number i = is_number 7 1000000 i.digits

-- what it asks for
abbrev pub control_of : Item → Control
control_of i = record { after = digits_value i.digits; act = i.act }

-- the words of items that follow another one
abbrev pub more_words : List Item → List Bytes
more_words [] = []
more_words (i ∷ is) = codes ";" ∷ codes "after" ∷ i.digits ∷ act_word i.act ∷ more_words is

-- the words of items, with `;` between two
abbrev pub item_words : List Item → List Bytes
item_words [] = []
item_words (i ∷ is) = codes "after" ∷ i.digits ∷ act_word i.act ∷ more_words is

-- The words are those of 1 to 64 items, and ask for these controls. Their numbers do not fall, `suspend` stands only where
-- the items before it leave the run unsuspended and `resume` only where they leave it suspended, and nothing behind `abort`.
pub record AskFor (words : List Bytes) (controls : List Control) : Type 0 where
  pub items : List Item
  pub spelled : words ≡ item_words items
  pub some : 1 ≤ length items
  pub few : length items ≤ 64
  pub numbers : list_all has_number items ≡ true
  pub controls_are : controls ≡ map control_of items
  pub lawful : AreLawful controls

-- some words that ask for something begin with these
pub record Begin (words : List Bytes) : Type 0 where
  pub rest : List Bytes
  pub controls : List Control
  pub whole : AskFor (words ++ rest) controls

-- ---- texts

-- the words of pieces
abbrev pub words_of : List Piece → List Bytes
words_of = map (λ p. p.bytes)

-- the words of a text ask for these controls
abbrev pub IsControlText : Bytes → List Control → Type 0
IsControlText text controls = AskFor (words_of (pieces text)) controls

-- the first word such that those before it begin some words that ask for something, and with it they begin none
pub record IsFaultOfWord (text : Bytes) (at : ℕ) : Type 0 where
  pub front : List Piece
  pub word : Piece
  pub rest : List Piece
  pub stands : pieces text ≡ front ++ word ∷ rest
  pub begins : Begin (words_of front)
  pub breaks : Begin (words_of front ++ word.bytes ∷ []) → ⊥
  pub place : at ≡ word.at

-- the text's length, where all its words begin some that ask for something, and ask for nothing themselves
pub record IsFaultOfEnd (text : Bytes) (at : ℕ) : Type 0 where
  pub begins : Begin (words_of (pieces text))
  pub open_end : (controls : List Control) → IsControlText text controls → ⊥
  pub place : at ≡ length text

-- the place of a text's fault
pub data IsFaultAt (text : Bytes) (at : ℕ) : Type 0 where
  of_word : IsFaultOfWord text at → IsFaultAt text at
  of_end : IsFaultOfEnd text at → IsFaultAt text at

-- what reading a text answers
abbrev pub ReadsControls : Bytes → Result (List Control) ControlFault → Type 0
ReadsControls text (Ok controls) = IsControlText text controls
ReadsControls text (Err (fault.Unread at)) = IsFaultAt text at
ReadsControls text (Err fault.NoMemory) = Unit {0}
