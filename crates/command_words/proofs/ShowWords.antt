-- The words behind `show` that the parser takes, and what it finds there, ask for a file to be shown.
use Rattle.std.proofs.Common.{◌≡◌, true, false, List, [], ◌∷◌, Some, ap, sym, ◌∙◌, refl, ◌⊎◌, inl, inr}
use Rattle.std.specs.Prelude.{codes}
use Rattle.std.specs.List.{list_all}
use Rattle.std.proofs.lemmas.Bool.{and_parts}
use Rattle.fcp_model.specs.Spelling.{Bytes}
use Rattle.clap.specs.declared.error.kind.ErrorKind.TheVariants.{UnknownArgument}
use Rattle.clap.specs.Faults.{defaults_fault, level_fault, turn_fault, walk_fault}
use Rattle.clap.specs.Walk.{Rule, Walk, nothing_held, rows_after, walk_from, walked}
use Rattle.command_words.specs.declared.order.Order.{Order}
use Rattle.command_words.specs.declared.order.Order.TheVariants.{Show}
use Rattle.command_words.specs.Orders.{is_long_or_plain, show_in}
use Rattle.command_words.specs.Readings.{is_plain}
use Rattle.command_words.proofs.Forms.{IsLong, plain-or-long, plain-word}
use Rattle.command_words.proofs.Levels.{file_rule, show_leaf}
use Rattle.command_words.proofs.Turns.{both-none, idle_at}

abbrev show_rules : List Rule
show_rules = file_rule ∷ []

-- a first word without `-` is the file
module _ (w : Bytes) (plain_word : is_plain w ≡ true) where
  behind-file : Walk
  behind-file = idle_at [] (Some (codes "file", w ∷ [])) 2

  file-leads : walked show_rules [] (walk_from nothing_held) w ≡ behind-file
  unfolding walked behind-file
  file-leads = let p = plain-word w plain_word in rw (p.no_end, p.no_long, p.no_short)

  pub show-passes : level_fault show_leaf [] nothing_held (w ∷ []) false [] ≡ []
  unfolding walked walk_fault defaults_fault
  show-passes = let p = plain-word w plain_word in rw (p.no_end, p.no_long, p.no_short)

  pub show-found : show_in (rows_after show_rules [] (w ∷ [])) ≡ Some (Show w)
  unfolding walked
  show-found = let p = plain-word w plain_word in rw (p.no_end, p.no_long, p.no_short)

  second-fails : (v : Bytes) → (is_plain v ≡ true) ⊎ IsLong v → turn_fault show_leaf [] behind-file v ≡ UnknownArgument ∷ []
  unfolding behind-file
  second-fails v (inl plain_v) = let p = plain-word v plain_v in rw (p.no_end, p.no_long, p.no_short)
  second-fails v (inr l) = rw (l.spelled)

first-fails : (w : Bytes) → IsLong w → turn_fault show_leaf [] (walk_from nothing_held) w ≡ UnknownArgument ∷ []
first-fails w l = rw (l.spelled)

-- a word that fails fails the level
no-walk : (words : List Bytes) → level_fault show_leaf [] nothing_held words false [] ≡ []
    → walk_fault show_leaf [] (walk_from nothing_held) words ≡ []
no-walk words e = (both-none (walk_fault show_leaf [] (walk_from nothing_held) words) _ e).0

-- the words are a file's name alone
pub record IsFile (words : List Bytes) (o : Order) : Type 0 where
  pub file : Bytes
  pub is_order : o ≡ Show file
  pub spelled : words ≡ file ∷ []
  pub plain : is_plain file ≡ true

file-read : (w : Bytes) (ws : List Bytes) (o : Order) → (is_plain w ≡ true) ⊎ IsLong w → list_all is_long_or_plain ws ≡ true
    → walk_fault show_leaf [] (walk_from nothing_held) (w ∷ ws) ≡ []
    → show_in (rows_after show_rules [] (w ∷ ws)) ≡ Some o
    → IsFile (w ∷ ws) o
unfolding walk_fault
file-read w ws o (inr l) formed passes e =
    let none = (both-none (turn_fault show_leaf [] (walk_from nothing_held) w) _ passes).0 in
    let bad : UnknownArgument ∷ [] ≡ [] = sym (first-fails w l) ∙ none in
    cc
file-read w [] o (inl p) formed passes e = record {
  file = w;
  is_order = let same : Some (Show w) ≡ Some o = sym (show-found w p) ∙ e in cc;
  spelled = refl;
  plain = p;
}
file-read w (v ∷ vs) o (inl p) formed passes e =
    let rest = (both-none (turn_fault show_leaf [] (walk_from nothing_held) w) _ passes).1 in
    let next = ap (λ n. walk_fault show_leaf [] n (v ∷ vs)) (sym (file-leads w p)) ∙ rest in
    let none = (both-none (turn_fault show_leaf [] (behind-file w p) v) _ next).0 in
    let f = and_parts (is_long_or_plain v) (list_all is_long_or_plain vs) formed in
    let bad : UnknownArgument ∷ [] ≡ [] = sym (second-fails w p v (plain-or-long v f.0)) ∙ none in
    cc

pub show-read : (words : List Bytes) (o : Order) → list_all is_long_or_plain words ≡ true
    → level_fault show_leaf [] nothing_held words false [] ≡ []
    → show_in (rows_after show_rules [] words) ≡ Some o
    → IsFile words o
show-read [] o formed passes e = cc
show-read (w ∷ ws) o formed passes e =
    let f = and_parts (is_long_or_plain w) (list_all is_long_or_plain ws) formed in
    file-read w ws o (plain-or-long w f.0) f.1 (no-walk (w ∷ ws) passes) e
