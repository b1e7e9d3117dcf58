-- The words of parts beside what the parser has found.
use Rattle.std.proofs.Common.{◌≡◌, true, false, List, [], ◌∷◌, ◌++◌, ap, sym, ◌∙◌, refl}
use Rattle.std.specs.Prelude.{◌||◌, codes, if◌then◌else◌}
use Rattle.std.specs.Str.{bytes_eq}
use Rattle.std.proofs.lemmas.List.{append-nil}
use Rattle.fcp_model.specs.Spelling.{Bytes}
use Rattle.clap.specs.Walk.{Row, has_row}
use Rattle.command_words.specs.declared.run_option.RunOption.{RunOption}
use Rattle.command_words.specs.declared.run_option.RunOption.TheVariants.{Limit, Control}
use Rattle.command_words.specs.declared.run_option.RunLimit.TheVariants.{Commits, Moves, Cells}
use Rattle.command_words.specs.Commands.{name_of}
use Rattle.command_words.specs.Readings.{Part, apart, is_same, joined, positional, positionals, values_of}
use Rattle.command_words.proofs.Levels.{Place, Slot, first, full, place_behind, place_of, second, slot_id, the_file, the_goal}
use Rattle.command_words.proofs.Rows.{IsUsed, are_single, more-texts, none-texts, texts_at}

-- ---- the positional words that were found

abbrev pub IsAt : Place → List Row → Type 0
IsAt first rows = (has_row (codes "file") rows ≡ false) × (has_row (codes "goal") rows ≡ false)
IsAt second rows = (has_row (codes "file") rows ≡ true) × (has_row (codes "goal") rows ≡ false)
IsAt full rows = (has_row (codes "file") rows ≡ true) × (has_row (codes "goal") rows ≡ true)

pub word-free : (s : Slot) (rows : List Row) → IsAt (place_of s) rows → has_row (slot_id s) rows ≡ false
word-free the_file rows h = h.0
word-free the_goal rows h = h.1

pub word-placed : (s : Slot) (w : Bytes) (rows after : List Row) → IsAt (place_of s) rows → IsUsed (slot_id s) w rows after
    → IsAt (place_behind s) after
word-placed the_file w rows after h u = (u.has (codes "file"), u.has (codes "goal") ∙ h.1)
word-placed the_goal w rows after h u = (u.has (codes "file") ∙ h.0, u.has (codes "goal"))

no-file : (o : RunOption) → bytes_eq (name_of o) (codes "file") ≡ false
no-file (Limit Commits) = refl
no-file (Limit Moves) = refl
no-file (Limit Cells) = refl
no-file Control = refl

no-goal : (o : RunOption) → bytes_eq (name_of o) (codes "goal") ≡ false
no-goal (Limit Commits) = refl
no-goal (Limit Moves) = refl
no-goal (Limit Cells) = refl
no-goal Control = refl

pub option-placed : (o : RunOption) (place : Place) (v : Bytes) (rows after : List Row) → IsAt place rows → IsUsed (name_of o) v rows after
    → IsAt place after
option-placed o place v rows after h u =
    let file : has_row (codes "file") after ≡ has_row (codes "file") rows =
    u.has (codes "file") ∙ ap (λ b. b || has_row (codes "file") rows) (no-file o) in
    let goal : has_row (codes "goal") after ≡ has_row (codes "goal") rows =
    u.has (codes "goal") ∙ ap (λ b. b || has_row (codes "goal") rows) (no-goal o) in
    go place h file goal
  where
    go : (place : Place) → IsAt place rows → has_row (codes "file") after ≡ has_row (codes "file") rows
        → has_row (codes "goal") after ≡ has_row (codes "goal") rows
        → IsAt place after
    go first h file goal = (file ∙ h.0, goal ∙ h.1)
    go second h file goal = (file ∙ h.0, goal ∙ h.1)
    go full h file goal = (file ∙ h.0, goal ∙ h.1)

-- ---- words that were found, and those of parts behind them

abbrev pub words_with : List Row → List Part → List Bytes
words_with rows parts = texts_at (codes "file") rows ++ (texts_at (codes "goal") rows ++ positionals parts)

abbrev pub values_with : RunOption → List Row → List Part → List Bytes
values_with o rows parts = texts_at (name_of o) rows ++ values_of o parts

-- one part before the others, or found already
pub record IsFound (p : Part) (rows after : List Row) : Type 0 where
  pub words : (parts : List Part) → words_with after parts ≡ words_with rows (p ∷ parts)
  pub values : (o : RunOption) (parts : List Part) → values_with o after parts ≡ values_with o rows (p ∷ parts)

other-values : (id v : Bytes) (o : RunOption) (rows after : List Row) → IsUsed id v rows after → bytes_eq id (name_of o) ≡ false
    → texts_at (name_of o) after ≡ texts_at (name_of o) rows
other-values id v o rows after u e = u.texts (name_of o) ∙ ap (λ b. if b then v ∷ [] else texts_at (name_of o) rows) e

file-option : (o : RunOption) → bytes_eq (codes "file") (name_of o) ≡ false
file-option (Limit Commits) = refl
file-option (Limit Moves) = refl
file-option (Limit Cells) = refl
file-option Control = refl

goal-option : (o : RunOption) → bytes_eq (codes "goal") (name_of o) ≡ false
goal-option (Limit Commits) = refl
goal-option (Limit Moves) = refl
goal-option (Limit Cells) = refl
goal-option Control = refl

file-found : (w : Bytes) (rows after : List Row) → IsAt first rows → IsUsed (codes "file") w rows after
    → IsFound (positional w) rows after
file-found w rows after h u =
    let file : texts_at (codes "file") after ≡ w ∷ [] = u.texts (codes "file") in
    let goal : texts_at (codes "goal") after ≡ [] = u.texts (codes "goal") ∙ none-texts (codes "goal") rows h.1 in
    let no_file = none-texts (codes "file") rows h.0 in
    let no_goal = none-texts (codes "goal") rows h.1 in
    record {
      words = λ parts. rw (file, goal, no_file, no_goal);
      values = λ o parts. ap (λ x. x ++ values_of o parts) (other-values (codes "file") w o rows after u (file-option o));
    }

goal-found : (w : Bytes) (rows after : List Row) → IsAt second rows → IsUsed (codes "goal") w rows after
    → IsFound (positional w) rows after
goal-found w rows after h u =
    let file : texts_at (codes "file") after ≡ texts_at (codes "file") rows = u.texts (codes "file") in
    record {
      words = λ parts.
          ap (λ x. x ++ (texts_at (codes "goal") after ++ positionals parts)) file
          ∙ ap (λ x. texts_at (codes "file") rows ++ x) (more-texts (codes "goal") w rows after u h.1 (codes "goal") (positionals parts));
      values = λ o parts. ap (λ x. x ++ values_of o parts) (other-values (codes "goal") w o rows after u (goal-option o));
    }

pub word-found : (s : Slot) (w : Bytes) (rows after : List Row) → IsAt (place_of s) rows → IsUsed (slot_id s) w rows after
    → IsFound (positional w) rows after
word-found the_file w rows after h u = file-found w rows after h u
word-found the_goal w rows after h u = goal-found w rows after h u

same-names : (o p : RunOption) → bytes_eq (name_of p) (name_of o) ≡ is_same o p
same-names (Limit Commits) (Limit Commits) = refl
same-names (Limit Commits) (Limit Moves) = refl
same-names (Limit Commits) (Limit Cells) = refl
same-names (Limit Commits) Control = refl
same-names (Limit Moves) (Limit Commits) = refl
same-names (Limit Moves) (Limit Moves) = refl
same-names (Limit Moves) (Limit Cells) = refl
same-names (Limit Moves) Control = refl
same-names (Limit Cells) (Limit Commits) = refl
same-names (Limit Cells) (Limit Moves) = refl
same-names (Limit Cells) (Limit Cells) = refl
same-names (Limit Cells) Control = refl
same-names Control (Limit Commits) = refl
same-names Control (Limit Moves) = refl
same-names Control (Limit Cells) = refl
same-names Control Control = refl

pub apart-found : (p : RunOption) (v : Bytes) (rows after : List Row) → has_row (name_of p) rows ≡ false
    → IsUsed (name_of p) v rows after
    → IsFound (apart p v) rows after
apart-found p v rows after e u =
    let file : texts_at (codes "file") after ≡ texts_at (codes "file") rows = u.texts (codes "file") ∙ rw (no-file p) in
    let goal : texts_at (codes "goal") after ≡ texts_at (codes "goal") rows = u.texts (codes "goal") ∙ rw (no-goal p) in
    record {
      words = λ parts. rw (file, goal);
      values = λ o parts.
          more-texts (name_of p) v rows after u e (name_of o) (values_of o parts)
          ∙ ap (λ b. texts_at (name_of o) rows ++ (if b then v ∷ values_of o parts else values_of o parts)) (same-names o p);
    }

pub joined-found : (p : RunOption) (v : Bytes) (rows after : List Row) → IsFound (apart p v) rows after → IsFound (joined p v) rows after
joined-found p v rows after f = record { words = f.words; values = f.values }

-- ---- what was found in the end

pub record HasFound (rows : List Row) (parts : List Part) (end : List Row) : Type 0 where
  pub single : are_single end ≡ true
  pub words : texts_at (codes "file") end ++ texts_at (codes "goal") end ≡ words_with rows parts
  pub values : (o : RunOption) → texts_at (name_of o) end ≡ values_with o rows parts

pub found-none : (rows : List Row) → are_single rows ≡ true → HasFound rows [] rows
found-none rows s = record {
  single = s;
  words = ap (λ x. texts_at (codes "file") rows ++ x) (sym (append-nil (texts_at (codes "goal") rows)));
  values = λ o. sym (append-nil (texts_at (name_of o) rows));
}

pub found-more : (p : Part) (parts : List Part) (rows after end : List Row) → IsFound p rows after → HasFound after parts end
    → HasFound rows (p ∷ parts) end
found-more p parts rows after end f h = record {
  single = h.single;
  words = h.words ∙ f.words parts;
  values = λ o. h.values o ∙ f.values o parts;
}
