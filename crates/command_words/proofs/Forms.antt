-- What words are by their form.
use Rattle.std.proofs.Common.{◌≡◌, ℕ, suc, ◌+◌, Bool, true, false, [], ◌∷◌, ◌++◌, Option, Some, None, ap, sym, ◌∙◌, subst, refl, arith, ◌⊎◌, inl, inr}
use Rattle.std.specs.Prelude.{◌==◌, ◌||◌, not, codes, if◌then◌else◌}
use Rattle.std.specs.List.{after_first, before_first, prefix_len}
use Rattle.std.specs.Str.{bytes_eq}
use Rattle.std.proofs.lemmas.Bool.{cases_Bool, eqb-true}
use Rattle.std.proofs.lemmas.Slice.Eq.{bytes_eq-Decides}
use Rattle.fcp_model.specs.Spelling.{Bytes}
use Rattle.clap.specs.Lexer.{has_byte, long_of, name_and_value, short_of}
use Rattle.clap.specs.Walk.{arg_by_long}
use Rattle.command_words.specs.declared.run_option.RunOption.{RunOption}
use Rattle.command_words.specs.declared.run_option.RunOption.TheVariants.{Limit, Control}
use Rattle.command_words.specs.declared.run_option.RunLimit.TheVariants.{Commits, Moves, Cells}
use Rattle.command_words.specs.Commands.{name_of}
use Rattle.command_words.specs.Orders.{is_long_or_plain}
use Rattle.command_words.specs.Readings.{is_plain, option_word}
use Rattle.command_words.proofs.Levels.{named_rule, run_rules}

pub is_word : (w text : Bytes) → bytes_eq w text ≡ true → w ≡ text
is_word w text e = (bytes_eq-Decides w text).0 e

-- ---- words without `-` in front

abbrev pub dashes : Bytes
dashes = 45 ∷ 45 ∷ []

-- the parser takes such a word for no option and no end of options
pub record IsPlainWord (w : Bytes) : Type 0 where
  pub no_end : bytes_eq w dashes ≡ false
  pub no_long : long_of w ≡ None
  pub no_short : short_of w ≡ None

pub plain-word : (w : Bytes) → is_plain w ≡ true → IsPlainWord w
plain-word [] e = record { no_end = refl; no_long = refl; no_short = refl }
plain-word (a ∷ rest) e = go (a == 45) refl e
  where
    go : (b : Bool) → (a == 45) ≡ b → not b ≡ true → IsPlainWord (a ∷ rest)
    go true e p = cc
    go false e p = record { no_end = rw e; no_long = rw e; no_short = rw e }

-- ---- words with `--` in front

-- a word with `--` in front, and something behind it
pub record IsLong (w : Bytes) : Type 0 where
  pub first : ℕ
  pub rest : Bytes
  pub spelled : w ≡ 45 ∷ 45 ∷ first ∷ rest

pub plain-or-long : (w : Bytes) → is_long_or_plain w ≡ true → (is_plain w ≡ true) ⊎ IsLong w
plain-or-long [] e = inl refl
plain-or-long (a ∷ []) e = inl e
plain-or-long (a ∷ b ∷ []) e = inl e
plain-or-long (a ∷ b ∷ c ∷ rest) e = go (cases_Bool (a == 45)) e
  where
    go : ((a == 45) ≡ true) ⊎ ((a == 45) ≡ false) → (not (a == 45) || b == 45) ≡ true
        → (is_plain (a ∷ b ∷ c ∷ rest) ≡ true) ⊎ IsLong (a ∷ b ∷ c ∷ rest)
    go (inr f) p = inl (ap not f)
    go (inl t) p =
        let x : a ≡ 45 = eqb-true a 45 t in
        let y : b ≡ 45 = eqb-true b 45 (ap (λ n. not n || b == 45) (sym t) ∙ p) in
        inr (record { first = c; rest = rest; spelled = ap (λ n. n ∷ b ∷ c ∷ rest) x ∙ ap (λ n. 45 ∷ n ∷ c ∷ rest) y })

one-more : (n : ℕ) → 1 + n ≡ suc n
one-more n = omega arith

one-past : (n : ℕ) → suc n + 1 ≡ suc (n + 1)
one-past n = omega arith

abbrev is_equals : ℕ → Bool
is_equals b = b == 61

-- a text is what stands before its first `=`, that, and what stands behind it
abbrev IsCut : Bytes → Type 0
IsCut t = t ≡ before_first is_equals t ++ 61 ∷ after_first is_equals t

cut-at : (b : ℕ) (bs : Bytes) → ((b == 61) ≡ true) ⊎ ((b == 61) ≡ false) → ((b == 61) || has_byte 61 bs) ≡ true
    → (has_byte 61 bs ≡ true → IsCut bs)
    → IsCut (b ∷ bs)
cut-at b bs (inl t) e rest = rw t (ap (λ x. x ∷ bs) (eqb-true b 61 t))
cut-at b bs (inr f) e rest =
    let n = prefix_len (λ x. not (x == 61)) bs in
    rw (f, one-more n, one-past n) (ap (λ x. b ∷ x) (rest (ap (λ t. t || has_byte 61 bs) (sym f) ∙ e)))

is-cut : (t : Bytes) → has_byte 61 t ≡ true → IsCut t
is-cut [] e = cc
is-cut (b ∷ bs) e = cut-at b bs (cases_Bool (b == 61)) e (is-cut bs)

whole-at : (b : ℕ) (bs : Bytes) → ((b == 61) ≡ true) ⊎ ((b == 61) ≡ false) → ((b == 61) || has_byte 61 bs) ≡ false
    → (has_byte 61 bs ≡ false → before_first is_equals bs ≡ bs)
    → before_first is_equals (b ∷ bs) ≡ b ∷ bs
whole-at b bs (inl t) e rest = let bad : true ≡ false = ap (λ t. t || has_byte 61 bs) (sym t) ∙ e in cc
whole-at b bs (inr f) e rest =
    let n = prefix_len (λ x. not (x == 61)) bs in
    rw (f, one-more n) (ap (λ x. b ∷ x) (rest (ap (λ t. t || has_byte 61 bs) (sym f) ∙ e)))

-- and where it has none, all of it stands before
is-whole : (t : Bytes) → has_byte 61 t ≡ false → before_first is_equals t ≡ t
is-whole [] e = refl
is-whole (b ∷ bs) e = whole-at b bs (cases_Bool (b == 61)) e (is-whole bs)

-- ---- names of options

-- an option's word, that with its value, or a word that names no option
pub data LongForm (w : Bytes) : Type 0 where
  apart_word : (o : RunOption) → w ≡ option_word o → LongForm w
  joined_word : (o : RunOption) (v : Bytes) → w ≡ option_word o ++ codes "=" ++ v → LongForm w
  other_word : (name : Bytes) (v : Option Bytes) → long_of w ≡ Some (name, v) → arg_by_long run_rules name ≡ None → LongForm w

-- the option with a name
data Named (name : Bytes) : Type 0 where
  named : (o : RunOption) → name ≡ name_of o → Named name
  unnamed : arg_by_long run_rules name ≡ None → Named name

name-found : (name : Bytes) → Named name
name-found name =
    go (bytes_eq (codes "commits") name) (bytes_eq (codes "moves") name) (bytes_eq (codes "cells") name) (bytes_eq (codes "control") name)
    refl refl refl refl
  where
    go : (a b c d : Bool) → bytes_eq (codes "commits") name ≡ a → bytes_eq (codes "moves") name ≡ b → bytes_eq (codes "cells") name ≡ c
        → bytes_eq (codes "control") name ≡ d
        → Named name
    go true b c d p q r s = named (Limit Commits) (sym (is_word (codes "commits") name p))
    go false true c d p q r s = named (Limit Moves) (sym (is_word (codes "moves") name q))
    go false false true d p q r s = named (Limit Cells) (sym (is_word (codes "cells") name r))
    go false false false true p q r s = named Control (sym (is_word (codes "control") name s))
    go false false false false p q r s = unnamed (rw (p, q, r, s))

spelled-apart : (o : RunOption) → 45 ∷ 45 ∷ name_of o ≡ option_word o
spelled-apart (Limit Commits) = refl
spelled-apart (Limit Moves) = refl
spelled-apart (Limit Cells) = refl
spelled-apart Control = refl

spelled-joined : (o : RunOption) (v : Bytes) → 45 ∷ 45 ∷ name_of o ++ 61 ∷ v ≡ option_word o ++ codes "=" ++ v
spelled-joined (Limit Commits) v = refl
spelled-joined (Limit Moves) v = refl
spelled-joined (Limit Cells) v = refl
spelled-joined Control v = refl

-- what stands behind `--`
form-behind : (t : Bytes) (h : Bool) → has_byte 61 t ≡ h → Named (before_first is_equals t)
    → long_of (45 ∷ 45 ∷ t) ≡ Some (name_and_value t)
    → LongForm (45 ∷ 45 ∷ t)
form-behind t true e (named o n) l =
    joined_word o (after_first is_equals t)
    (ap (λ x. 45 ∷ 45 ∷ x) (is-cut t e ∙ ap (λ x. x ++ 61 ∷ after_first is_equals t) n) ∙ spelled-joined o (after_first is_equals t))
form-behind t false e (named o n) l = apart_word o (ap (λ x. 45 ∷ 45 ∷ x) (sym (is-whole t e) ∙ n) ∙ spelled-apart o)
form-behind t h e (unnamed n) l =
    other_word (before_first is_equals t) (if has_byte 61 t then Some (after_first is_equals t) else None) l n

pub long-form : (w : Bytes) → IsLong w → LongForm w
long-form w l =
    let t = l.first ∷ l.rest in
    subst LongForm (sym l.spelled) (form-behind t (has_byte 61 t) refl (name-found (before_first is_equals t)) refl)

-- the argument that a word names, if any
pub record NamesRule (w : Bytes) : Type 0 where
  pub name : Bytes
  pub value : Option Bytes
  pub is_long : long_of w ≡ Some (name, value)
  pub is_rule : (arg_by_long run_rules name ≡ None) ⊎ ((o : RunOption) × (arg_by_long run_rules name ≡ Some (named_rule o)))

named-rule : (name : Bytes) → Named name
    → (arg_by_long run_rules name ≡ None) ⊎ ((o : RunOption) × (arg_by_long run_rules name ≡ Some (named_rule o)))
named-rule name (unnamed n) = inl n
named-rule name (named (Limit Commits) n) = inr (Limit Commits, ap (arg_by_long run_rules) n)
named-rule name (named (Limit Moves) n) = inr (Limit Moves, ap (arg_by_long run_rules) n)
named-rule name (named (Limit Cells) n) = inr (Limit Cells, ap (arg_by_long run_rules) n)
named-rule name (named Control n) = inr (Control, ap (arg_by_long run_rules) n)

pub long-rule : (w : Bytes) → IsLong w → NamesRule w
long-rule w l =
    let p = name_and_value (l.first ∷ l.rest) in
    record { name = p.0; value = p.1; is_long = ap long_of l.spelled; is_rule = named-rule p.0 (name-found p.0) }
