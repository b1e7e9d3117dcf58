-- The words that the parser takes behind `run` are those of parts.
use Rattle.std.proofs.Common.{◌≡◌, true, false, List, [], ◌∷◌, ◌++◌, Some, None, ap, sym, ◌∙◌, subst, refl, ◌⊎◌, inl, inr}
use Rattle.std.specs.Prelude.{codes, fold}
use Rattle.std.specs.List.{list_all}
use Rattle.std.proofs.lemmas.Bool.{and_from, and_parts}
use Rattle.fcp_model.specs.Spelling.{Bytes}
use Rattle.clap.specs.declared.error.kind.ErrorKind.TheVariants.{InvalidValue, UnknownArgument}
use Rattle.clap.specs.Kinds.{Kinds, or_else}
use Rattle.clap.specs.Faults.{settle_fault, turn_fault, use_fault, walk_fault}
use Rattle.clap.specs.Walk.{Held, Row, Walk, has_row, settled, used, walked}
use Rattle.command_words.specs.declared.run_option.RunOption.{RunOption}
use Rattle.command_words.specs.Commands.{name_of}
use Rattle.command_words.specs.Orders.{is_long_or_plain}
use Rattle.command_words.specs.Readings.{Part, apart, is_plain, is_plain_part, joined, option_word, positional, words_of}
use Rattle.command_words.proofs.Forms.{IsLong, LongForm, apart_word, joined_word, long-form, other_word, plain-or-long}
use Rattle.command_words.proofs.Levels.{Place, Slot, first, full, named_rule, place_behind, place_index, place_of, run_leaf, run_rules, second, slot_id, slot_rule, the_file, the_goal}
use Rattle.command_words.proofs.Rows.{IsUsed, are_single, is-used}
use Rattle.command_words.proofs.Tallies.{HasFound, IsAt, IsFound, apart-found, found-more, found-none, joined-found, option-placed, word-found, word-free, word-placed}
use Rattle.command_words.proofs.Turns.{IsTurn, Pending, apart-turn, awaiting-fails, awaiting_at, both-none, idle_at, joined-turn, other-fails, rows-option, rows-word, rows_after_use, settle, settle-awaiting, settle-option, third-fails, turned, use-free, value-turn, word-turn}

-- ---- walks that pass

abbrev pub end_of : Walk → List Bytes → Held
end_of w words = (fold (walked run_rules []) w words).held

-- what the parser has found behind the words
abbrev pub rows_behind : Walk → List Bytes → List Row
rows_behind w words = (settled run_rules (end_of w words)).rows

pub record Passes (w : Walk) (words : List Bytes) : Type 0 where
  pub no_fault : walk_fault run_leaf [] w words ≡ []
  pub settled : settle_fault run_rules false (end_of w words) ≡ []

passes-turn : (w next : Walk) (kinds : Kinds) (word : Bytes) (words : List Bytes) → IsTurn w word kinds next → Passes w (word ∷ words)
    → (kinds ≡ []) × Passes next words
passes-turn w next kinds word words t p =
    let both = both-none kinds (walk_fault run_leaf [] next words) (sym (turned w word kinds next words t) ∙ p.no_fault) in (
      both.0,
      record {
        no_fault = both.1;
        settled = ap (λ n. settle_fault run_rules false (end_of n words)) (sym t.leads) ∙ p.settled;
      },
    )

same-end : (w next : Walk) (kinds : Kinds) (word : Bytes) (words : List Bytes) → IsTurn w word kinds next
    → rows_behind w (word ∷ words) ≡ rows_behind next words
same-end w next kinds word words t = ap (λ n. rows_behind n words) t.leads

-- ---- the words of parts

-- words are those of parts, which make the rows at the end of these
pub record ArePartWords (words : List Bytes) (rows end : List Row) : Type 0 where
  pub parts : List Part
  pub spelled : words ≡ words_of parts
  pub plain : list_all is_plain_part parts ≡ true
  pub found : HasFound rows parts end

one-more : (p : Part) (all words : List Bytes) (rows after end last : List Row) → IsFound p rows after → is_plain_part p ≡ true
    → ((ps : List Part) → words ≡ words_of ps → all ≡ words_of (p ∷ ps))
    → end ≡ last
    → ArePartWords words after last
    → ArePartWords all rows end
one-more p all words rows after end last found plain_part spell same h = record {
  parts = p ∷ h.parts;
  spelled = spell h.parts h.spelled;
  plain = and_from (is_plain_part p) (list_all is_plain_part h.parts) plain_part h.plain;
  found = found-more p h.parts rows after end found (subst (HasFound after h.parts) (sym same) h.found);
}

-- where the parser stands: no option waits for a value, or this one does
pub data Stand : Type 0 where
  idle : List Row → Pending → Place → Stand
  awaiting : RunOption → List Row → Place → Stand

abbrev pub walk_at : Stand → Walk
walk_at (idle rows p place) = idle_at rows p (place_index place)
walk_at (awaiting o rows place) = awaiting_at o rows (place_index place)

-- each argument has one value at most
abbrev pub IsTidy : Place → List Row → Type 0
IsTidy place rows = IsAt place rows × (are_single rows ≡ true)

abbrev pub IsReady : Stand → Type 0
IsReady (idle rows p place) = settle rows p ≡ [] → IsTidy place (rows_after_use rows p)
IsReady (awaiting o rows place) = IsTidy place rows

abbrev pub AreReadFrom : Stand → List Bytes → Type 0
AreReadFrom (idle rows p place) words =
    (settle rows p ≡ []) × ArePartWords words (rows_after_use rows p) (rows_behind (idle_at rows p (place_index place)) words)
AreReadFrom (awaiting o rows place) words =
    ArePartWords (option_word o ∷ words) rows (rows_behind (awaiting_at o rows (place_index place)) words)

abbrev pub AreRead : List Bytes → Type 0
AreRead words =
    (s : Stand) → IsReady s → list_all is_long_or_plain words ≡ true → Passes (walk_at s) words → AreReadFrom s words

read-none : AreRead []
read-none (idle rows p place) ready formed h = (
  h.settled,
  record {
    parts = [];
    spelled = refl;
    plain = refl;
    found = found-none (rows_after_use rows p) (ready h.settled).1;
  },
)
read-none (awaiting o rows place) ready formed h =
    let bad : InvalidValue ∷ [] ≡ [] = sym (settle-awaiting o rows) ∙ h.settled in
    cc

-- a number that is used once
option-used : (o : RunOption) (v : Bytes) (rows : List Row) → use_fault false (named_rule o) (v ∷ []) rows ≡ []
    → (has_row (name_of o) rows ≡ false) × IsUsed (name_of o) v rows (used (named_rule o) (v ∷ []) rows)
option-used o v rows e =
    let free = use-free (name_of o) (Some (name_of o)) None v rows e in
    (free, is-used (name_of o) (Some (name_of o)) None v rows free)

option-ready : (o : RunOption) (v : Bytes) (rows : List Row) (place : Place) → IsTidy place rows
    → use_fault false (named_rule o) (v ∷ []) rows ≡ []
    → IsTidy place (used (named_rule o) (v ∷ []) rows)
option-ready o v rows place tidy e =
    let u = (option-used o v rows e).1 in
    (option-placed o place v rows (used (named_rule o) (v ∷ []) rows) tidy.0 u, u.single tidy.1)

module _ (w : Bytes) (ws : List Bytes) (rest : AreRead ws) (formed : list_all is_long_or_plain ws ≡ true) where
  word-read : (s : Slot) (rows : List Row) (p : Pending) → IsReady (idle rows p (place_of s)) → is_plain w ≡ true
      → Passes (walk_at (idle rows p (place_of s))) (w ∷ ws)
      → AreReadFrom (idle rows p (place_of s)) (w ∷ ws)
  word-read s rows p ready plain_word h =
      let now = rows_after_use rows p in
      let q = Some (slot_id s, w ∷ []) in
      let from = idle_at rows p (place_index (place_of s)) in
      let next = idle_at now q (place_index (place_behind s)) in
      let t = word-turn rows p w plain_word s in
      let k = passes-turn from next (settle rows p) w ws t h in
      let here = ready k.0 in
      let after = used (slot_rule s) (w ∷ []) now in
      let u = is-used (slot_id s) None (Some (place_index (place_of s))) w now (word-free s now here.0) in
      let r = rest (idle now q (place_behind s))
      (λ e. subst (IsTidy (place_behind s)) (sym (rows-word s w now)) (word-placed s w now after here.0 u, u.single here.1)) formed k.1 in (
        k.0,
        one-more (positional w) (w ∷ ws) ws now after (rows_behind from (w ∷ ws)) (rows_behind next ws)
            (word-found s w now after here.0 u) plain_word (λ ps e. ap (λ x. w ∷ x) e) (same-end from next (settle rows p) w ws t)
            (subst (λ x. ArePartWords ws x (rows_behind next ws)) (rows-word s w now) r.1),
      )

  failed-turn : (from : Walk) → (turn_fault run_leaf [] from w ≡ [] → ⊥) → Passes from (w ∷ ws) → ⊥
  unfolding walk_fault
  failed-turn from fails h =
      fails (both-none (turn_fault run_leaf [] from w) (walk_fault run_leaf [] (walked run_rules [] from w) ws) h.no_fault).0

  plain-read : (rows : List Row) (p : Pending) (place : Place) → IsReady (idle rows p place) → is_plain w ≡ true
      → Passes (walk_at (idle rows p place)) (w ∷ ws)
      → AreReadFrom (idle rows p place) (w ∷ ws)
  plain-read rows p first ready plain_word h = word-read the_file rows p ready plain_word h
  plain-read rows p second ready plain_word h = word-read the_goal rows p ready plain_word h
  plain-read rows p full ready plain_word h =
      absurd (failed-turn (idle_at rows p 3) (λ e. let bad : UnknownArgument ∷ [] ≡ [] = sym (third-fails rows p w plain_word) ∙ e in cc) h)

  value-read : (o : RunOption) (rows : List Row) (place : Place) → IsReady (awaiting o rows place) → is_plain w ≡ true
      → Passes (walk_at (awaiting o rows place)) (w ∷ ws)
      → AreReadFrom (awaiting o rows place) (w ∷ ws)
  value-read o rows place ready plain_word h =
      let from = awaiting_at o rows (place_index place) in
      let s = Some (name_of o, w ∷ []) in
      let next = idle_at rows s (place_index place) in
      let t = value-turn o rows (place_index place) w plain_word in
      let after = used (named_rule o) (w ∷ []) rows in
      let r = rest (idle rows s place)
      (λ e. subst (IsTidy place) (sym (rows-option o w rows)) (option-ready o w rows place ready (sym (settle-option o w rows) ∙ e)))
      formed (passes-turn from next [] w ws t h).1 in
      let n = option-used o w rows (sym (settle-option o w rows) ∙ r.0) in
      one-more (apart o w) (option_word o ∷ w ∷ ws) ws rows after (rows_behind from (w ∷ ws)) (rows_behind next ws)
      (apart-found o w rows after n.0 n.1) refl (λ ps e. ap (λ x. option_word o ∷ w ∷ x) e) (same-end from next [] w ws t)
      (subst (λ x. ArePartWords ws x (rows_behind next ws)) (rows-option o w rows) r.1)

  joined-read : (o : RunOption) (v : Bytes) (rows : List Row) (p : Pending) (place : Place) → IsReady (idle rows p place)
      → w ≡ option_word o ++ codes "=" ++ v
      → Passes (walk_at (idle rows p place)) (w ∷ ws)
      → AreReadFrom (idle rows p place) (w ∷ ws)
  joined-read o v rows p place ready e h =
      let from = idle_at rows p (place_index place) in
      let now = rows_after_use rows p in
      let after = used (named_rule o) (v ∷ []) now in
      let next = idle_at after None (place_index place) in
      let kinds = or_else (settle rows p) (use_fault false (named_rule o) (v ∷ []) now) in
      let t = subst (λ x. IsTurn from x kinds next) (sym e) (joined-turn o rows p (place_index place) v) in
      let k = passes-turn from next kinds w ws t h in
      let both = both-none (settle rows p) (use_fault false (named_rule o) (v ∷ []) now) k.0 in
      let here = ready both.0 in
      let n = option-used o v now both.1 in (
        both.0,
        one-more (joined o v) (w ∷ ws) ws now after (rows_behind from (w ∷ ws)) (rows_behind next ws)
            (joined-found o v now after (apart-found o v now after n.0 n.1)) refl
            (λ ps a. ap (λ x. x ∷ ws) e ∙ ap (λ x. (option_word o ++ codes "=" ++ v) ∷ x) a)
            (same-end from next kinds w ws t)
            (rest (idle after None place) (λ a. option-ready o v now place here both.1) formed k.1).1,
      )

  apart-read : (o : RunOption) (rows : List Row) (p : Pending) (place : Place) → IsReady (idle rows p place) → w ≡ option_word o
      → Passes (walk_at (idle rows p place)) (w ∷ ws)
      → AreReadFrom (idle rows p place) (w ∷ ws)
  apart-read o rows p place ready e h =
      let from = idle_at rows p (place_index place) in
      let now = rows_after_use rows p in
      let next = awaiting_at o now (place_index place) in
      let t = subst (λ x. IsTurn from x (settle rows p) next) (sym e) (apart-turn o rows p (place_index place)) in
      let k = passes-turn from next (settle rows p) w ws t h in (
        k.0,
        subst (λ x. ArePartWords (x ∷ ws) now (rows_behind from (w ∷ ws))) (sym e)
            (subst (ArePartWords (option_word o ∷ ws) now) (sym (same-end from next (settle rows p) w ws t))
            (rest (awaiting o now place) (ready k.0) formed k.1)),
      )

  long-read : (rows : List Row) (p : Pending) (place : Place) → IsReady (idle rows p place) → IsLong w → LongForm w
      → Passes (walk_at (idle rows p place)) (w ∷ ws)
      → AreReadFrom (idle rows p place) (w ∷ ws)
  long-read rows p place ready l (apart_word o e) h = apart-read o rows p place ready e h
  long-read rows p place ready l (joined_word o v e) h = joined-read o v rows p place ready e h
  long-read rows p place ready l (other_word name v long none) h =
      absurd (failed-turn (idle_at rows p (place_index place)) (other-fails rows p (place_index place) w name v l long none) h)

  read-more : (s : Stand) → (is_plain w ≡ true) ⊎ IsLong w → IsReady s → Passes (walk_at s) (w ∷ ws) → AreReadFrom s (w ∷ ws)
  read-more (idle rows p place) (inl plain_word) ready h = plain-read rows p place ready plain_word h
  read-more (idle rows p place) (inr l) ready h = long-read rows p place ready l (long-form w l) h
  read-more (awaiting o rows place) (inl plain_word) ready h = value-read o rows place ready plain_word h
  read-more (awaiting o rows place) (inr l) ready h =
      absurd (failed-turn (awaiting_at o rows (place_index place)) (awaiting-fails o rows (place_index place) w l) h)

pub all-read : (words : List Bytes) → AreRead words
all-read [] = read-none
all-read (w ∷ ws) = λ s ready formed h.
    let f = and_parts (is_long_or_plain w) (list_all is_long_or_plain ws) formed in
    read-more w ws (all-read ws) f.1 s (plain-or-long w f.0) ready h
