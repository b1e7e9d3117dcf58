-- The words of parts that ask for something are taken by the parser behind `run`.
use Rattle.std.proofs.Common.{◌≡◌, ℕ, true, false, List, [], ◌∷◌, ◌++◌, Option, Some, None, ap, sym, ◌∙◌, subst, refl, ◌⊎◌, inl, inr}
use Rattle.std.specs.Prelude.{◌==◌, ◌||◌, codes, if◌then◌else◌, not}
use Rattle.std.specs.Char.{is_ascii_digit}
use Rattle.std.specs.List.{list_all}
use Rattle.std.proofs.lemmas.Bool.{and_from, and_parts, cases_Bool, eqb-true}
use Rattle.fcp_model.specs.Spelling.{Bytes}
use Rattle.word_numbers.specs.Numbers.{digits_value, is_number, number_of}
use Rattle.clap.specs.Kinds.{Kinds, or_else}
use Rattle.clap.specs.Faults.{settle_fault, use_fault, walk_fault}
use Rattle.clap.specs.Walk.{Row, Walk, used}
use Rattle.command_words.specs.declared.run_option.RunOption.{RunOption}
use Rattle.command_words.specs.declared.run_option.RunOption.TheVariants.{Limit, Control}
use Rattle.command_words.specs.declared.run_option.RunLimit.TheVariants.{Commits, Moves, Cells}
use Rattle.command_words.specs.Commands.{name_of}
use Rattle.command_words.specs.Orders.{is_long_or_plain}
use Rattle.command_words.specs.Readings.{GivesNumber, GivesText, Part, apart, is_plain, is_plain_part, is_same, is_value, joined, option_word, positional, positionals, values_of, words_of}
use Rattle.command_words.proofs.Levels.{Place, Slot, first, full, named_rule, place_behind, place_index, place_of, run_leaf, run_rules, second, slot_id, slot_rule, the_file, the_goal}
use Rattle.command_words.proofs.PartWords.{IsTidy, Passes, end_of, rows_behind}
use Rattle.command_words.proofs.Rows.{are_single, is-used, no-row, one-text, texts_at}
use Rattle.command_words.proofs.Tallies.{HasFound, IsFound, apart-found, found-more, found-none, joined-found, option-placed, values_with, word-found, word-free, word-placed, words_with}
use Rattle.command_words.proofs.Turns.{IsTurn, Pending, apart-turn, awaiting_at, idle_at, joined-turn, rows-option, rows-word, rows_after_use, settle, settle-option, settle-word, turned, use-passes, value-turn, word-turn}

-- ---- values have no `-` in front

digit-plain : (b : ℕ) → ((b == 45) ≡ true) ⊎ ((b == 45) ≡ false) → is_ascii_digit b ≡ true → not (b == 45) ≡ true
digit-plain b (inr f) e = ap not f
digit-plain b (inl t) e =
    let bad : false ≡ true = ap is_ascii_digit (sym (eqb-true b 45 t)) ∙ e in
    cc

number-plain : (most_digits most : ℕ) (v : Bytes) (n : ℕ) → number_of most_digits most v ≡ Some n → is_plain v ≡ true
number-plain most_digits most [] n e = refl
number-plain most_digits most (b ∷ bs) n e = go (cases_Bool (is_number most_digits most (b ∷ bs)))
  where
    go : (is_number most_digits most (b ∷ bs) ≡ true) ⊎ (is_number most_digits most (b ∷ bs) ≡ false) → is_plain (b ∷ bs) ≡ true
    go (inl t) =
        let digits = (and_parts _ _ (and_parts _ _ t).0).1 in
        digit-plain b (cases_Bool (b == 45)) (and_parts (is_ascii_digit b) (list_all is_ascii_digit bs) digits).0
    go (inr f) =
        let w = b ∷ bs in
        let bad : None ≡ Some n = ap (λ t. if t then Some (digits_value w) else None) (sym f) ∙ e in
        cc

value-plain : (v : Bytes) → is_value v ≡ true → is_plain v ≡ true
value-plain [] e = refl
value-plain (b ∷ bs) e = e

-- one value at most, with no `-` in front
abbrev pub IsGiven : List Bytes → Type 0
IsGiven [] = Unit {0}
IsGiven (v ∷ []) = is_plain v ≡ true
IsGiven (v ∷ w ∷ vs) = ⊥

pub number-given : (default most : ℕ) (vs : List Bytes) (n : ℕ) → GivesNumber default most vs n → IsGiven vs
number-given default most [] n h = tt
number-given default most (v ∷ []) n h = number-plain 8 most v n h
number-given default most (v ∷ w ∷ vs) n h = h

pub text-given : (vs : List Bytes) (t : Option Bytes) → GivesText vs t → IsGiven vs
text-given [] t h = tt
text-given (v ∷ []) t h = value-plain v h.0
text-given (v ∷ w ∷ vs) t h = h

-- words without `-` in front may stand in a call
pub plain-stands : (w : Bytes) → is_plain w ≡ true → is_long_or_plain w ≡ true
plain-stands [] e = refl
plain-stands (a ∷ []) e = e
plain-stands (a ∷ b ∷ []) e = e
plain-stands (a ∷ b ∷ c ∷ rest) e = ap (λ t. t || b == 45) e

option-stands : (o : RunOption) → is_long_or_plain (option_word o) ≡ true
option-stands (Limit Commits) = refl
option-stands (Limit Moves) = refl
option-stands (Limit Cells) = refl
option-stands Control = refl

joined-stands : (o : RunOption) (v : Bytes) → is_long_or_plain (option_word o ++ codes "=" ++ v) ≡ true
joined-stands (Limit Commits) v = refl
joined-stands (Limit Moves) v = refl
joined-stands (Limit Cells) v = refl
joined-stands Control v = refl

-- ---- walks that pass

passes-before : (w next : Walk) (kinds : Kinds) (word : Bytes) (words : List Bytes) → IsTurn w word kinds next → kinds ≡ []
    → Passes next words
    → Passes w (word ∷ words)
passes-before w next kinds word words t none p = record {
  no_fault = turned w word kinds next words t ∙ ap (λ k. or_else k (walk_fault run_leaf [] next words)) none ∙ p.no_fault;
  settled = ap (λ n. settle_fault run_rules false (end_of n words)) t.leads ∙ p.settled;
}

-- what was found and the parts behind it ask for a run
pub record AsksWith (rows : List Row) (parts : List Part) : Type 0 where
  pub plain : list_all is_plain_part parts ≡ true
  pub file : Bytes
  pub goal : Bytes
  pub words : words_with rows parts ≡ file ∷ goal ∷ []
  pub values : (o : RunOption) → IsGiven (values_with o rows parts)

asks-behind : (p : Part) (parts : List Part) (rows after : List Row) → IsFound p rows after → list_all is_plain_part parts ≡ true
    → AsksWith rows (p ∷ parts)
    → AsksWith after parts
asks-behind p parts rows after f plain a = record {
  plain = plain;
  file = a.file;
  goal = a.goal;
  words = f.words parts ∙ a.words;
  values = λ o. subst IsGiven (sym (f.values o parts)) (a.values o);
}

-- the value of an option stands alone
given-alone : (xs : List Bytes) (v : Bytes) (ys : List Bytes) → IsGiven (xs ++ v ∷ ys) → (xs ≡ []) × (is_plain v ≡ true)
given-alone [] v [] h = (refl, h)
given-alone [] v (y ∷ ys) h = absurd h
given-alone (x ∷ []) v ys h = absurd h
given-alone (x ∷ z ∷ xs) v ys h = absurd h

pub same-self : (o : RunOption) → is_same o o ≡ true
same-self (Limit Commits) = refl
same-self (Limit Moves) = refl
same-self (Limit Cells) = refl
same-self Control = refl

as-apart : (o : RunOption) (v : Bytes) (ps : List Part) (rows : List Row) → AsksWith rows (joined o v ∷ ps) → AsksWith rows (apart o v ∷ ps)
as-apart o v ps rows a = record {
  plain = a.plain;
  file = a.file;
  goal = a.goal;
  words = a.words;
  values = a.values;
}

-- the parser takes the words, which make the rows at the end of these and of what the parts say
pub record AreTaken (w : Walk) (words : List Bytes) (rows : List Row) (parts : List Part) : Type 0 where
  pub passes : Passes w words
  pub formed : list_all is_long_or_plain words ≡ true
  pub found : HasFound rows parts (rows_behind w words)

taken-none : (rows : List Row) (p : Pending) (k : ℕ) → settle rows p ≡ [] → are_single (rows_after_use rows p) ≡ true
    → AreTaken (idle_at rows p k) [] (rows_after_use rows p) []
unfolding walk_fault
taken-none rows p k e s = record {
  passes = record { no_fault = refl; settled = e };
  formed = refl;
  found = found-none (rows_after_use rows p) s;
}

-- with one word more in front
word-taken : (w next : Walk) (kinds : Kinds) (word : Bytes) (words : List Bytes) (rows : List Row) (parts : List Part)
    → IsTurn w word kinds next
    → kinds ≡ []
    → is_long_or_plain word ≡ true
    → AreTaken next words rows parts
    → AreTaken w (word ∷ words) rows parts
word-taken w next kinds word words rows parts t none formed taken = record {
  passes = passes-before w next kinds word words t none taken.passes;
  formed = and_from (is_long_or_plain word) (list_all is_long_or_plain words) formed taken.formed;
  found = subst (HasFound rows parts) (sym (ap (λ n. rows_behind n words) t.leads)) taken.found;
}

-- with one part more in front
part-taken : (w : Walk) (p : Part) (words : List Bytes) (rows after : List Row) (parts : List Part) → IsFound p rows after
    → AreTaken w words after parts
    → AreTaken w words rows (p ∷ parts)
part-taken w p words rows after parts found taken = record {
  passes = taken.passes;
  formed = taken.formed;
  found = found-more p parts rows after (rows_behind w words) found taken.found;
}

-- ---- parts that ask for something are taken

abbrev AreTakenFrom : List Part → Type 0
AreTakenFrom parts =
    (rows : List Row) (p : Pending) (place : Place) → IsTidy place (rows_after_use rows p) → settle rows p ≡ []
    → AsksWith (rows_after_use rows p) parts
    → AreTaken (idle_at rows p (place_index place)) (words_of parts) (rows_after_use rows p) parts

module _ (ps : List Part) (rest : AreTakenFrom ps) (rows : List Row) (p : Pending) (settles : settle rows p ≡ []) where
  abbrev now : List Row
  now = rows_after_use rows p

  word-goes : (s : Slot) (w : Bytes) → IsTidy (place_of s) now → AsksWith now (positional w ∷ ps)
      → AreTaken (idle_at rows p (place_index (place_of s))) (w ∷ words_of ps) now (positional w ∷ ps)
  word-goes s w tidy asks =
      let both = and_parts (is_plain w) (list_all is_plain_part ps) asks.plain in
      let q = Some (slot_id s, w ∷ []) in
      let from = idle_at rows p (place_index (place_of s)) in
      let next = idle_at now q (place_index (place_behind s)) in
      let after = used (slot_rule s) (w ∷ []) now in
      let free = word-free s now tidy.0 in
      let u = is-used (slot_id s) None (Some (place_index (place_of s))) w now free in
      let found = word-found s w now after tidy.0 u in
      let is_after = sym (rows-word s w now) in
      part-taken from (positional w) (w ∷ words_of ps) now after ps found
      (word-taken from next (settle rows p) w (words_of ps) after ps (word-turn rows p w both.0 s) settles (plain-stands w both.0)
      (subst (λ x. AreTaken next (words_of ps) x ps) (rows-word s w now)
      (rest now q (place_behind s) (subst (IsTidy (place_behind s)) is_after (word-placed s w now after tidy.0 u, u.single tidy.1))
      (settle-word s w now ∙ use-passes (slot_id s) None (Some (place_index (place_of s))) w now free)
      (subst (λ x. AsksWith x ps) is_after (asks-behind (positional w) ps now after found both.1 asks)))))

  -- there is no third
  none-third : (w : Bytes) → IsTidy full now → AsksWith now (positional w ∷ ps) → ⊥
  none-third w tidy asks =
      let file = one-text (codes "file") now tidy.1 tidy.0.0 in
      let goal = one-text (codes "goal") now tidy.1 tidy.0.1 in
      let bad : file.0 ∷ goal.0 ∷ w ∷ positionals ps ≡ asks.file ∷ asks.goal ∷ [] =
      ap (λ x. x ++ (goal.0 ∷ w ∷ positionals ps)) (sym file.1)
      ∙ ap (λ x. texts_at (codes "file") now ++ (x ++ (w ∷ positionals ps))) (sym goal.1) ∙ asks.words in
      cc

  positional-taken : (w : Bytes) (place : Place) → IsTidy place now → AsksWith now (positional w ∷ ps)
      → AreTaken (idle_at rows p (place_index place)) (w ∷ words_of ps) now (positional w ∷ ps)
  positional-taken w first tidy asks = word-goes the_file w tidy asks
  positional-taken w second tidy asks = word-goes the_goal w tidy asks
  positional-taken w full tidy asks = absurd (none-third w tidy asks)

  -- a value of an option that has none yet
  record IsNew (o : RunOption) (v : Bytes) (place : Place) : Type 0 where
    pub plain : is_plain v ≡ true
    pub tidy : IsTidy place (used (named_rule o) (v ∷ []) now)
    pub passes : use_fault false (named_rule o) (v ∷ []) now ≡ []
    pub found : IsFound (apart o v) now (used (named_rule o) (v ∷ []) now)

  is-new : (o : RunOption) (v : Bytes) (place : Place) → IsTidy place now → AsksWith now (apart o v ∷ ps) → IsNew o v place
  is-new o v place tidy asks =
      let values : IsGiven (texts_at (name_of o) now ++ v ∷ values_of o ps) =
      subst (λ b. IsGiven (texts_at (name_of o) now ++ (if b then v ∷ values_of o ps else values_of o ps))) (same-self o) (asks.values o) in
      let alone = given-alone (texts_at (name_of o) now) v (values_of o ps) values in
      let free = no-row (name_of o) now tidy.1 alone.0 in
      let u = is-used (name_of o) (Some (name_of o)) None v now free in
      let after = used (named_rule o) (v ∷ []) now in
      record {
        plain = alone.1;
        tidy = (option-placed o place v now after tidy.0 u, u.single tidy.1);
        passes = use-passes (name_of o) (Some (name_of o)) None v now free;
        found = apart-found o v now after free u;
      }

  apart-taken : (o : RunOption) (v : Bytes) (place : Place) → IsTidy place now → AsksWith now (apart o v ∷ ps)
      → AreTaken (idle_at rows p (place_index place)) (option_word o ∷ v ∷ words_of ps) now (apart o v ∷ ps)
  apart-taken o v place tidy asks =
      let k = place_index place in
      let new = is-new o v place tidy asks in
      let after = used (named_rule o) (v ∷ []) now in
      let s = Some (name_of o, v ∷ []) in
      let is_after = sym (rows-option o v now) in
      part-taken (idle_at rows p k) (apart o v) (option_word o ∷ v ∷ words_of ps) now after ps new.found
      (word-taken (idle_at rows p k) (awaiting_at o now k) (settle rows p) (option_word o) (v ∷ words_of ps) after ps
      (apart-turn o rows p k) settles (option-stands o)
      (word-taken (awaiting_at o now k) (idle_at now s k) [] v (words_of ps) after ps (value-turn o now k v new.plain) refl
      (plain-stands v new.plain)
      (subst (λ x. AreTaken (idle_at now s k) (words_of ps) x ps) (rows-option o v now)
      (rest now s place (subst (IsTidy place) is_after new.tidy) (settle-option o v now ∙ new.passes)
      (subst (λ x. AsksWith x ps) is_after (asks-behind (apart o v) ps now after new.found asks.plain asks))))))

  joined-taken : (o : RunOption) (v : Bytes) (place : Place) → IsTidy place now → AsksWith now (joined o v ∷ ps)
      → AreTaken (idle_at rows p (place_index place)) ((option_word o ++ codes "=" ++ v) ∷ words_of ps) now (joined o v ∷ ps)
  joined-taken o v place tidy asks =
      let k = place_index place in
      let new = is-new o v place tidy (as-apart o v ps now asks) in
      let after = used (named_rule o) (v ∷ []) now in
      let found = joined-found o v now after new.found in
      part-taken (idle_at rows p k) (joined o v) ((option_word o ++ codes "=" ++ v) ∷ words_of ps) now after ps found
      (word-taken (idle_at rows p k) (idle_at after None k) (or_else (settle rows p) (use_fault false (named_rule o) (v ∷ []) now))
      (option_word o ++ codes "=" ++ v) (words_of ps) after ps
      (joined-turn o rows p k v) (ap (λ x. or_else x (use_fault false (named_rule o) (v ∷ []) now)) settles ∙ new.passes)
      (joined-stands o v)
      (rest after None place new.tidy refl (asks-behind (joined o v) ps now after found asks.plain asks)))

  part-goes : (part : Part) (place : Place) → IsTidy place now → AsksWith now (part ∷ ps)
      → AreTaken (idle_at rows p (place_index place)) (words_of (part ∷ ps)) now (part ∷ ps)
  part-goes (positional w) place tidy asks = positional-taken w place tidy asks
  part-goes (apart o v) place tidy asks = apart-taken o v place tidy asks
  part-goes (joined o v) place tidy asks = joined-taken o v place tidy asks

pub all-taken : (parts : List Part) → AreTakenFrom parts
all-taken [] = λ rows p place tidy settles asks. taken-none rows p (place_index place) settles tidy.1
all-taken (part ∷ ps) = λ rows p place tidy settles asks. part-goes ps (all-taken ps) rows p settles part place tidy asks
