-- What may still follow where a reading stands, and what a word makes of that.
use Rattle.std.proofs.Common.{◌≡◌, ℕ, ◌+◌, ◌<◌, ◌≤◌, Bool, true, false, List, [], ◌∷◌, ◌++◌, length, map, Option, Some, None, ap, sym, ◌∙◌, subst, refl, arith}
use Rattle.std.specs.Prelude.{◌&&◌, nat_le, nat_lt, codes, if◌then◌else◌}
use Rattle.std.specs.List.{list_all}
use Rattle.std.specs.Str.{bytes_eq}
use Rattle.std.proofs.lemmas.Bool.{leb-true, le-leb, ltb-true, lt-ltb}
use Rattle.std.proofs.lemmas.Slice.Eq.{bytes_eq-Decides}
use Rattle.fcp_model.specs.declared.run.Act.{Act}
use Rattle.fcp_model.specs.declared.run.Act.TheVariants.{Snapshot, Suspend, Resume, Abort}
use Rattle.fcp_model.specs.declared.run.Control.{Control}
use Rattle.fcp_model.specs.LawfulControls.{is_allowed, AreLawfulFrom}
use Rattle.fcp_model.specs.OneWorker.{mode_after}
use Rattle.fcp_model.specs.Spelling.{Bytes}
use Rattle.fcp_model.specs.States.{Mode, is_open, is_held, is_aborted}
use Rattle.word_numbers.specs.Numbers.{is_number, digits_value, number_of}
use Rattle.control_texts.specs.declared.reading.Expected.{Expected}
use Rattle.control_texts.specs.declared.reading.Expected.TheVariants as expected
use Rattle.control_texts.specs.declared.reading.Standing.{Standing}
use Rattle.control_texts.specs.declared.reading.Standing.TheVariants as standing
use Rattle.control_texts.specs.declared.reading.Reading.{Reading}
use Rattle.control_texts.specs.declared.reading.Step.{Step}
use Rattle.control_texts.specs.ControlTexts.{act_word, Item, has_number, control_of, more_words}
use Rattle.control_texts.specs.Steps.{expecting, act_of, is_live, standing_after, after_moves, acted, step, made, is_whole}

-- the mode of a run that stands so
abbrev pub mode_of : Standing → Mode
mode_of standing.Running = is_open
mode_of standing.Suspended = is_held
mode_of standing.Aborted = is_aborted

abbrev pub control : ℕ → Act → Control
control n act = record { after = n; act = act }

-- ---- the words that may follow, and the controls that they ask for

pub record AtSemicolon (count moves : ℕ) (mode : Mode) (words : List Bytes) (controls : List Control) : Type 0 where
  pub items : List Item
  pub spelled : words ≡ more_words items
  pub controls_are : controls ≡ map control_of items
  pub numbers : list_all has_number items ≡ true
  pub few : count + length items ≤ 64
  pub lawful : AreLawfulFrom moves mode (map control_of items)

pub record AtAfter (count moves : ℕ) (mode : Mode) (words : List Bytes) (controls : List Control) : Type 0 where
  pub item : Item
  pub items : List Item
  pub spelled : words ≡ codes "after" ∷ item.digits ∷ act_word item.act ∷ more_words items
  pub controls_are : controls ≡ control_of item ∷ map control_of items
  pub number : has_number item ≡ true
  pub numbers : list_all has_number items ≡ true
  pub few : count + (1 + length items) ≤ 64
  pub lawful : AreLawfulFrom moves mode (control_of item ∷ map control_of items)

pub record AtNumber (count moves : ℕ) (mode : Mode) (words : List Bytes) (controls : List Control) : Type 0 where
  pub item : Item
  pub items : List Item
  pub spelled : words ≡ item.digits ∷ act_word item.act ∷ more_words items
  pub controls_are : controls ≡ control_of item ∷ map control_of items
  pub number : has_number item ≡ true
  pub numbers : list_all has_number items ≡ true
  pub few : count + (1 + length items) ≤ 64
  pub lawful : AreLawfulFrom moves mode (control_of item ∷ map control_of items)

pub record AtAct (n count moves : ℕ) (mode : Mode) (words : List Bytes) (controls : List Control) : Type 0 where
  pub act : Act
  pub items : List Item
  pub spelled : words ≡ act_word act ∷ more_words items
  pub controls_are : controls ≡ control n act ∷ map control_of items
  pub numbers : list_all has_number items ≡ true
  pub few : count + (1 + length items) ≤ 64
  pub lawful : AreLawfulFrom moves mode (control n act ∷ map control_of items)

abbrev pub RestAt : Expected → ℕ → ℕ → Mode → List Bytes → List Control → Type 0
RestAt expected.After count moves mode = AtAfter count moves mode
RestAt expected.Number count moves mode = AtNumber count moves mode
RestAt (expected.Act n) count moves mode = AtAct n count moves mode
RestAt expected.Semicolon count moves mode = AtSemicolon count moves mode

-- these words may follow, and ask for these controls
abbrev pub Rest : Reading → List Bytes → List Control → Type 0
Rest r = RestAt r.expected r.count r.moves (mode_of r.standing)

-- ---- tests

pub when-some : {X : Type 0} (b : Bool) (x y : X) → (if b then Some x else None) ≡ Some y → (b ≡ true) × (x ≡ y)
when-some true x y e = (refl, cc)
when-some false x y e = cc

pub when-true : {X : Type 0} (b : Bool) (x y : X) → b ≡ true → (if b then x else y) ≡ x
when-true true x y e = refl
when-true false x y e = cc

pub both-parts : (a b c : Bool) → (a && b && c) ≡ true → (a ≡ true) × (b ≡ true) × (c ≡ true)
both-parts true true c e = (refl, refl, e)
both-parts true false c e = cc
both-parts false b c e = cc

pub both-whole : (a b c : Bool) → a ≡ true → b ≡ true → c ≡ true → (a && b && c) ≡ true
both-whole true true true p q r = refl
both-whole true true false p q r = cc
both-whole true false c p q r = cc
both-whole false b c p q r = cc

-- ---- acts

pub act-of-word : (act : Act) → act_of (act_word act) ≡ Some act
act-of-word Snapshot = refl
act-of-word Suspend = refl
act-of-word Resume = refl
act-of-word Abort = refl

pub is_word : (w text : Bytes) → bytes_eq w text ≡ true → w ≡ text
is_word w text e = (bytes_eq-Decides w text).0 e

module _ (w : Bytes) where
  abort-else : (b : Bool) (act : Act) → bytes_eq w (codes "abort") ≡ b → (if b then Some Abort else None) ≡ Some act → w ≡ act_word act
  abort-else true act p e = let a : Abort ≡ act = cc in subst (λ a. w ≡ act_word a) a (is_word w (codes "abort") p)
  abort-else false act p e = cc

  resume-else : (b : Bool) (act : Act) → bytes_eq w (codes "resume") ≡ b
      → (if b then Some Resume else (if bytes_eq w (codes "abort") then Some Abort else None)) ≡ Some act → w ≡ act_word act
  resume-else true act p e = let a : Resume ≡ act = cc in subst (λ a. w ≡ act_word a) a (is_word w (codes "resume") p)
  resume-else false act p e = abort-else (bytes_eq w (codes "abort")) act refl e

  suspend-else : (b : Bool) (act : Act) → bytes_eq w (codes "suspend") ≡ b
      → (if b then Some Suspend else (if bytes_eq w (codes "resume") then Some Resume
      else (if bytes_eq w (codes "abort") then Some Abort else None))) ≡ Some act
      → w ≡ act_word act
  suspend-else true act p e = let a : Suspend ≡ act = cc in subst (λ a. w ≡ act_word a) a (is_word w (codes "suspend") p)
  suspend-else false act p e = resume-else (bytes_eq w (codes "resume")) act refl e

  snapshot-else : (b : Bool) (act : Act) → bytes_eq w (codes "snapshot") ≡ b
      → (if b then Some Snapshot
      else (if bytes_eq w (codes "suspend") then Some Suspend
      else (if bytes_eq w (codes "resume") then Some Resume else (if bytes_eq w (codes "abort") then Some Abort else None)))) ≡ Some act
      → w ≡ act_word act
  snapshot-else true act p e = let a : Snapshot ≡ act = cc in subst (λ a. w ≡ act_word a) a (is_word w (codes "snapshot") p)
  snapshot-else false act p e = suspend-else (bytes_eq w (codes "suspend")) act refl e

  pub word-of-act : (act : Act) → act_of w ≡ Some act → w ≡ act_word act
  word-of-act act e = snapshot-else (bytes_eq w (codes "snapshot")) act refl e

-- ---- how a run stands

-- where an act may be asked for, the run stands behind it as its mode says
pub allowed-stands : (act : Act) (s : Standing) → is_allowed act (mode_of s) ≡ true
    → (t : Standing) × (standing_after act s ≡ Some t) × (mode_of t ≡ mode_after act (mode_of s))
allowed-stands Snapshot standing.Running e = (standing.Running, refl, refl)
allowed-stands Snapshot standing.Suspended e = (standing.Suspended, refl, refl)
allowed-stands Suspend standing.Running e = (standing.Suspended, refl, refl)
allowed-stands Resume standing.Suspended e = (standing.Running, refl, refl)
allowed-stands Abort standing.Running e = (standing.Aborted, refl, refl)
allowed-stands Abort standing.Suspended e = (standing.Aborted, refl, refl)
allowed-stands Suspend standing.Suspended e = absurd cc
allowed-stands Resume standing.Running e = absurd cc
allowed-stands Snapshot standing.Aborted e = absurd cc
allowed-stands Suspend standing.Aborted e = absurd cc
allowed-stands Resume standing.Aborted e = absurd cc
allowed-stands Abort standing.Aborted e = absurd cc

pub stands-allowed : (act : Act) (s t : Standing) → standing_after act s ≡ Some t
    → (is_allowed act (mode_of s) ≡ true) × (mode_of t ≡ mode_after act (mode_of s))
stands-allowed Snapshot standing.Running t e = (refl, let a : standing.Running ≡ t = cc in ap mode_of (sym a))
stands-allowed Snapshot standing.Suspended t e = (refl, let a : standing.Suspended ≡ t = cc in ap mode_of (sym a))
stands-allowed Suspend standing.Running t e = (refl, let a : standing.Suspended ≡ t = cc in ap mode_of (sym a))
stands-allowed Resume standing.Suspended t e = (refl, let a : standing.Running ≡ t = cc in ap mode_of (sym a))
stands-allowed Abort standing.Running t e = (refl, let a : standing.Aborted ≡ t = cc in ap mode_of (sym a))
stands-allowed Abort standing.Suspended t e = (refl, let a : standing.Aborted ≡ t = cc in ap mode_of (sym a))
stands-allowed Suspend standing.Suspended t e = absurd cc
stands-allowed Resume standing.Running t e = absurd cc
stands-allowed Snapshot standing.Aborted t e = absurd cc
stands-allowed Suspend standing.Aborted t e = absurd cc
stands-allowed Resume standing.Aborted t e = absurd cc
stands-allowed Abort standing.Aborted t e = absurd cc

pub allowed-live : (act : Act) (s : Standing) → is_allowed act (mode_of s) ≡ true → is_live s ≡ true
allowed-live act standing.Running e = refl
allowed-live act standing.Suspended e = refl
allowed-live Snapshot standing.Aborted e = cc
allowed-live Suspend standing.Aborted e = cc
allowed-live Resume standing.Aborted e = cc
allowed-live Abort standing.Aborted e = cc

pub live-abort : (s : Standing) → is_live s ≡ true → is_allowed Abort (mode_of s) ≡ true
live-abort standing.Running e = refl
live-abort standing.Suspended e = refl
live-abort standing.Aborted e = cc

-- behind an act that may be asked for the run was not aborted
pub after-live : (act : Act) (s t : Standing) → standing_after act s ≡ Some t → is_live s ≡ true
after-live act standing.Running t e = refl
after-live act standing.Suspended t e = refl
after-live Snapshot standing.Aborted t e = absurd cc
after-live Suspend standing.Aborted t e = absurd cc
after-live Resume standing.Aborted t e = absurd cc
after-live Abort standing.Aborted t e = absurd cc
