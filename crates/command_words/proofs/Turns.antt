-- What the parser makes of one word behind `run`.
use Rattle.std.proofs.Common.{◌≡◌, ℕ, Bool, true, false, List, [], ◌∷◌, ◌++◌, Option, Some, None, ap, sym, ◌∙◌, refl, ◌⊎◌, inl, inr}
use Rattle.std.specs.Prelude.{◌&&◌, codes, cond}
use Rattle.std.specs.Str.{bytes_eq}
use Rattle.fcp_model.specs.Spelling.{Bytes}
use Rattle.clap.specs.declared.error.kind.ErrorKind.TheVariants.{ArgumentConflict, InvalidValue, UnknownArgument}
use Rattle.clap.specs.Kinds.{Kinds, or_else}
use Rattle.clap.specs.Faults.{long_fault, settle_fault, turn_fault, use_fault, walk_fault, word_fault}
use Rattle.clap.specs.Lexer.{long_of}
use Rattle.clap.specs.Walk.{Held, Row, Rule, Walk, Waiting, arg_by_long, has_row, idle, is_pending, option, settled_rows, subcommand_met, used, walked}
use Rattle.command_words.specs.declared.run_option.RunOption.{RunOption}
use Rattle.command_words.specs.declared.run_option.RunOption.TheVariants.{Limit, Control}
use Rattle.command_words.specs.declared.run_option.RunLimit.TheVariants.{Commits, Moves, Cells}
use Rattle.command_words.specs.Commands.{name_of}
use Rattle.command_words.specs.Readings.{is_plain, option_word}
use Rattle.command_words.proofs.Forms.{IsLong, IsPlainWord, dashes, long-rule, plain-word}
use Rattle.command_words.proofs.Levels.{Slot, given_rule, named_rule, or_else-none, place_behind, place_index, place_of, run_leaf, run_rules, slot_id, slot_rule, the_file, the_goal}

-- ---- where the parser stands between two words

abbrev pub Pending : Type 0
Pending = Option (Bytes × List Bytes)

abbrev pub held : List Row → Pending → Held
held rows p = record { rows = rows; pending = p; skip = 0 }

abbrev stands : Waiting → List Row → Pending → ℕ → Walk
stands waiting rows p k = record { held = held rows p; waiting = waiting; position = k; is_trailing = false; stopped = None }

-- no option waits for its value, and a positional word is the k-th
abbrev pub idle_at : List Row → Pending → ℕ → Walk
idle_at rows p k = stands idle rows p k

-- this option waits for its value
abbrev pub awaiting_at : RunOption → List Row → ℕ → Walk
awaiting_at o rows k = stands (option (name_of o)) rows (Some (name_of o, [])) k

-- what the use of the argument that is pending comes to, and what is found then
abbrev pub settle : List Row → Pending → Kinds
settle rows p = settle_fault run_rules false (held rows p)

abbrev pub rows_after_use : List Row → Pending → List Row
rows_after_use rows p = settled_rows run_rules p rows

-- a word has these kinds, and leads there
pub record IsTurn (w : Walk) (word : Bytes) (kinds : Kinds) (next : Walk) : Type 0 where
  pub fault : turn_fault run_leaf [] w word ≡ kinds
  pub leads : walked run_rules [] w word ≡ next

pub turned : (w : Walk) (word : Bytes) (kinds : Kinds) (next : Walk) (words : List Bytes) → IsTurn w word kinds next
    → walk_fault run_leaf [] w (word ∷ words) ≡ or_else kinds (walk_fault run_leaf [] next words)
unfolding walk_fault
turned w word kinds next words t =
    ap (λ k. or_else k (walk_fault run_leaf [] (walked run_rules [] w word) words)) t.fault
    ∙ ap (λ n. or_else kinds (walk_fault run_leaf [] n words)) t.leads

pub both-none : (a b : Kinds) → or_else a b ≡ [] → (a ≡ []) × (b ≡ [])
both-none [] b e = (refl, e)
both-none (k ∷ ks) b e = cc

-- ---- one use

free-use : (has : Bool) → or_else (cond (has && true) (ArgumentConflict ∷ []) []) [] ≡ [] → has ≡ false
free-use true e = cc
free-use false e = refl

-- a use with one value fails only where there was one before
pub use-free : (id : Bytes) (long : Option Bytes) (index : Option ℕ) (v : Bytes) (rows : List Row)
    → use_fault false (given_rule id long index) (v ∷ []) rows ≡ []
    → has_row id rows ≡ false
use-free id long index v rows e = free-use (has_row id rows) e

pub use-passes : (id : Bytes) (long : Option Bytes) (index : Option ℕ) (v : Bytes) (rows : List Row) → has_row id rows ≡ false
    → use_fault false (given_rule id long index) (v ∷ []) rows ≡ []
use-passes id long index v rows e = rw e

pub settle-option : (o : RunOption) (v : Bytes) (rows : List Row)
    → settle rows (Some (name_of o, v ∷ [])) ≡ use_fault false (named_rule o) (v ∷ []) rows
settle-option (Limit Commits) v rows = refl
settle-option (Limit Moves) v rows = refl
settle-option (Limit Cells) v rows = refl
settle-option Control v rows = refl

pub settle-awaiting : (o : RunOption) (rows : List Row) → settle rows (Some (name_of o, [])) ≡ InvalidValue ∷ []
settle-awaiting (Limit Commits) rows = refl
settle-awaiting (Limit Moves) rows = refl
settle-awaiting (Limit Cells) rows = refl
settle-awaiting Control rows = refl

pub rows-option : (o : RunOption) (v : Bytes) (rows : List Row)
    → rows_after_use rows (Some (name_of o, v ∷ [])) ≡ used (named_rule o) (v ∷ []) rows
rows-option (Limit Commits) v rows = refl
rows-option (Limit Moves) v rows = refl
rows-option (Limit Cells) v rows = refl
rows-option Control v rows = refl

-- ---- positional words

pub settle-word : (s : Slot) (v : Bytes) (rows : List Row)
    → settle rows (Some (slot_id s, v ∷ [])) ≡ use_fault false (slot_rule s) (v ∷ []) rows
settle-word the_file v rows = refl
settle-word the_goal v rows = refl

pub rows-word : (s : Slot) (v : Bytes) (rows : List Row)
    → rows_after_use rows (Some (slot_id s, v ∷ [])) ≡ used (slot_rule s) (v ∷ []) rows
rows-word the_file v rows = refl
rows-word the_goal v rows = refl

module _ (rows : List Row) (p : Pending) (word : Bytes) (plain_word : is_plain word ≡ true) where
  abbrev IsWordTurn : Slot → Type 0
  IsWordTurn s =
      IsTurn (idle_at rows p (place_index (place_of s))) word (settle rows p)
      (idle_at (rows_after_use rows p) (Some (slot_id s, word ∷ [])) (place_index (place_behind s)))

  pub word-turn : (s : Slot) → IsWordTurn s
  unfolding walked
  word-turn s = go s (is_pending (slot_rule s) p) refl (plain-word word plain_word)
    where
      go : (s : Slot) (b : Bool) → is_pending (slot_rule s) p ≡ b → IsPlainWord word → IsWordTurn s
      go the_file true e w = record { fault = rw (w.no_end, w.no_long, w.no_short, e); leads = rw (w.no_end, w.no_long, w.no_short, e) }
      go the_file false e w = record { fault = rw (w.no_end, w.no_long, w.no_short, e); leads = rw (w.no_end, w.no_long, w.no_short, e) }
      go the_goal true e w = record { fault = rw (w.no_end, w.no_long, w.no_short, e); leads = rw (w.no_end, w.no_long, w.no_short, e) }
      go the_goal false e w = record { fault = rw (w.no_end, w.no_long, w.no_short, e); leads = rw (w.no_end, w.no_long, w.no_short, e) }

  -- there is no third
  pub third-fails : turn_fault run_leaf [] (idle_at rows p 3) word ≡ UnknownArgument ∷ []
  third-fails = let w = plain-word word plain_word in rw (w.no_end, w.no_long, w.no_short)

pub value-turn : (o : RunOption) (rows : List Row) (k : ℕ) (v : Bytes) → is_plain v ≡ true
    → IsTurn (awaiting_at o rows k) v [] (idle_at rows (Some (name_of o, v ∷ [])) k)
unfolding walked
value-turn (Limit Commits) rows k v e =
    let w = plain-word v e in
    record { fault = rw (w.no_end, w.no_long, w.no_short); leads = rw (w.no_end, w.no_long, w.no_short) }
value-turn (Limit Moves) rows k v e =
    let w = plain-word v e in
    record { fault = rw (w.no_end, w.no_long, w.no_short); leads = rw (w.no_end, w.no_long, w.no_short) }
value-turn (Limit Cells) rows k v e =
    let w = plain-word v e in
    record { fault = rw (w.no_end, w.no_long, w.no_short); leads = rw (w.no_end, w.no_long, w.no_short) }
value-turn Control rows k v e =
    let w = plain-word v e in
    record { fault = rw (w.no_end, w.no_long, w.no_short); leads = rw (w.no_end, w.no_long, w.no_short) }

-- ---- options

abbrev joined_kinds : RunOption → List Row → Pending → Bytes → Kinds
joined_kinds o rows p v = or_else (settle rows p) (use_fault false (named_rule o) (v ∷ []) (rows_after_use rows p))

pub joined-turn : (o : RunOption) (rows : List Row) (p : Pending) (k : ℕ) (v : Bytes)
    → IsTurn (idle_at rows p k) (option_word o ++ codes "=" ++ v) (joined_kinds o rows p v)
    (idle_at (used (named_rule o) (v ∷ []) (rows_after_use rows p)) None k)
unfolding walked
joined-turn (Limit Commits) rows p k v = record { fault = or_else-none (joined_kinds (Limit Commits) rows p v); leads = refl }
joined-turn (Limit Moves) rows p k v = record { fault = or_else-none (joined_kinds (Limit Moves) rows p v); leads = refl }
joined-turn (Limit Cells) rows p k v = record { fault = or_else-none (joined_kinds (Limit Cells) rows p v); leads = refl }
joined-turn Control rows p k v = record { fault = or_else-none (joined_kinds Control rows p v); leads = refl }

pub apart-turn : (o : RunOption) (rows : List Row) (p : Pending) (k : ℕ)
    → IsTurn (idle_at rows p k) (option_word o) (settle rows p) (awaiting_at o (rows_after_use rows p) k)
unfolding walked
apart-turn (Limit Commits) rows p k = record { fault = or_else-none (settle rows p); leads = refl }
apart-turn (Limit Moves) rows p k = record { fault = or_else-none (settle rows p); leads = refl }
apart-turn (Limit Cells) rows p k = record { fault = or_else-none (settle rows p); leads = refl }
apart-turn Control rows p k = record { fault = or_else-none (settle rows p); leads = refl }

-- ---- words that fail

long-fails : (rule : Option Rule) (v : Option Bytes) (h : Held) → (rule ≡ None) ⊎ ((o : RunOption) × (rule ≡ Some (named_rule o)))
    → (settle_fault run_rules false h ≡ [] → ⊥)
    → long_fault run_rules false rule v h ≡ []
    → ⊥
long-fails None v h found fails e = cc
long-fails (Some a) v h (inl none) fails e = cc
long-fails (Some a) None h (inr k) fails e = fails (ap (λ r. long_fault run_rules false r None h) (sym k.1) ∙ e)
long-fails (Some a) (Some v) h (inr k) fails e =
    fails (both-none _ _ (ap (λ r. long_fault run_rules false r (Some v) h) (sym k.1) ∙ e)).0

-- a word fails where its option does
option-fails : (waiting : Waiting) (rows : List Row) (p : Pending) (k : ℕ) (word name : Bytes) (v : Option Bytes)
    → subcommand_met [] waiting word ≡ None
    → bytes_eq word dashes ≡ false
    → long_of word ≡ Some (name, v)
    → (long_fault run_rules false (arg_by_long run_rules name) v (held rows p) ≡ [] → ⊥)
    → turn_fault run_leaf [] (stands waiting rows p k) word ≡ []
    → ⊥
option-fails waiting rows p k word name v met no_end long fails e =
    let same : long_fault run_rules false (arg_by_long run_rules name) v (held rows p)
    ≡ word_fault run_leaf [] false waiting word (held rows p) = rw (met, no_end, long) in
    fails (same ∙ (both-none _ _ e).0)

no-end : (word : Bytes) → IsLong word → bytes_eq word dashes ≡ false
no-end word l = ap (λ w. bytes_eq w dashes) l.spelled

pub other-fails : (rows : List Row) (p : Pending) (k : ℕ) (word name : Bytes) (v : Option Bytes) → IsLong word
    → long_of word ≡ Some (name, v)
    → arg_by_long run_rules name ≡ None
    → turn_fault run_leaf [] (idle_at rows p k) word ≡ []
    → ⊥
other-fails rows p k word name v l long none =
    option-fails idle rows p k word name v refl (no-end word l) long
    (λ e. let bad : UnknownArgument ∷ [] ≡ [] = sym (ap (λ r. long_fault run_rules false r v (held rows p)) none) ∙ e in cc)

-- an option that waits gets no other option as its value
pub awaiting-fails : (o : RunOption) (rows : List Row) (k : ℕ) (word : Bytes) → IsLong word
    → turn_fault run_leaf [] (awaiting_at o rows k) word ≡ []
    → ⊥
awaiting-fails o rows k word l =
    let r = long-rule word l in
    option-fails (option (name_of o)) rows (Some (name_of o, [])) k word r.name r.value refl (no-end word l) r.is_long
    (long-fails (arg_by_long run_rules r.name) r.value (held rows (Some (name_of o, []))) r.is_rule
    (λ e. let bad : InvalidValue ∷ [] ≡ [] = sym (settle-awaiting o rows) ∙ e in cc))
