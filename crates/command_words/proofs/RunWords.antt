-- The words behind `run` that the parser takes, and what it finds there, ask for a run.
use Rattle.std.proofs.Common.{◌≡◌, ℕ, Bool, true, false, List, [], ◌∷◌, ◌++◌, Option, Some, None, ap, sym, ◌∙◌, subst, refl, ◌⊎◌, inl, inr}
use Rattle.std.specs.Prelude.{codes, fold, if◌then◌else◌, slice_get}
use Rattle.std.specs.List.{list_all}
use Rattle.std.proofs.lemmas.Bool.{cases_Bool}
use Rattle.fcp_model.specs.declared.run.Limits.{Limits}
use Rattle.fcp_model.specs.Spelling.{Bytes}
use Rattle.clap.specs.Kinds.{Kinds, or_else}
use Rattle.clap.specs.Faults.{check_fault, default_fault, defaults_fault, level_fault, settle_fault, walk_fault}
use Rattle.clap.specs.Walk.{Row, Rule, first_of, finished, has_row, nothing_held, rows_after, settled, walk, with_default}
use Rattle.command_words.specs.declared.order.Order.{Order}
use Rattle.command_words.specs.declared.order.Order.TheVariants.{Run}
use Rattle.command_words.specs.declared.run_option.RunOption.{RunOption}
use Rattle.command_words.specs.declared.run_option.RunOption.TheVariants.{Limit, Control}
use Rattle.command_words.specs.declared.run_option.RunLimit.{RunLimit}
use Rattle.command_words.specs.declared.run_option.RunLimit.TheVariants.{Commits, Moves, Cells}
use Rattle.command_words.specs.Commands.{default_of, most_of, name_of}
use Rattle.command_words.specs.Orders.{control_from, control_in, is_long_or_plain, limits_from, limits_in, number_from, number_in, run_from, run_in}
use Rattle.command_words.specs.Readings.{AreRunParts, GivesNumber, GivesText, Part, is_value, values_of, words_of}
use Rattle.command_words.proofs.Levels.{first, run_leaf, run_rules}
use Rattle.command_words.proofs.PartWords.{ArePartWords, Passes, all-read, idle, rows_behind}
use Rattle.command_words.proofs.PassingParts.{AreTaken, AsksWith, IsGiven, all-taken, number-given, text-given}
use Rattle.command_words.proofs.Rows.{are_single, first-text, none-texts, one-text, texts_at}
use Rattle.command_words.proofs.Tallies.{HasFound}
use Rattle.command_words.proofs.Turns.{both-none, idle_at}

-- ---- behind the last word

-- no argument has a default
abbrev pub HaveNoDefaults : List Rule → Type 0
HaveNoDefaults [] = Unit {0}
HaveNoDefaults (a ∷ rest) = (a.defaults ≡ []) × HaveNoDefaults rest

no-default : (a : Rule) (rows : List Row) → a.defaults ≡ [] → (default_fault rows a ≡ []) × (with_default rows a ≡ rows)
no-default a rows e = go (has_row a.id rows) refl
  where
    go : (b : Bool) → has_row a.id rows ≡ b → (default_fault rows a ≡ []) × (with_default rows a ≡ rows)
    go true t = (rw t, rw t)
    go false t = (rw (t, e), rw (t, e))

pub no-defaults : (rules : List Rule) (rows : List Row) → HaveNoDefaults rules
    → (defaults_fault rows rules ≡ []) × (fold with_default rows rules ≡ rows)
unfolding defaults_fault
no-defaults [] rows h = (refl, refl)
no-defaults (a ∷ rest) rows h =
    let n = no-default a rows h.0 in
    let more = no-defaults rest rows h.1 in (
      ap (λ k. or_else k (defaults_fault (with_default rows a) rest)) n.0 ∙ ap (λ r. defaults_fault r rest) n.1 ∙ more.0,
      ap (λ r. fold with_default r rest) n.1 ∙ more.1,
    )

run-defaults : HaveNoDefaults run_rules
run-defaults = (refl, (refl, (refl, (refl, (refl, (refl, tt))))))

abbrev start_kinds : List Bytes → Kinds
start_kinds words = walk_fault run_leaf [] (idle_at [] None 1) words

abbrev end_kinds : List Bytes → Kinds
end_kinds words = settle_fault run_rules false (walk run_rules [] nothing_held words).held

-- what the level of `run` comes to
run-level : (words : List Bytes)
    → level_fault run_leaf [] nothing_held words false [] ≡ or_else (start_kinds words) (or_else (end_kinds words) [])
run-level words =
    let end = (walk run_rules [] nothing_held words).held in
    ap (λ k. or_else (start_kinds words) (or_else (end_kinds words) (or_else k (check_fault run_leaf (finished run_rules end) false))))
    (no-defaults run_rules (settled run_rules end).rows run-defaults).0

run-passes : (words : List Bytes) → level_fault run_leaf [] nothing_held words false [] ≡ [] → Passes (idle_at [] None 1) words
run-passes words e =
    let both = both-none (start_kinds words) (or_else (end_kinds words) []) (sym (run-level words) ∙ e) in
    record { no_fault = both.0; settled = (both-none (end_kinds words) [] both.1).0 }

passes-run : (words : List Bytes) → Passes (idle_at [] None 1) words → level_fault run_leaf [] nothing_held words false [] ≡ []
passes-run words p =
    run-level words ∙ ap (λ k. or_else k (or_else (end_kinds words) [])) p.no_fault ∙ ap (λ k. or_else k []) p.settled

-- what is found there
run-found : (words : List Bytes) → rows_after run_rules [] words ≡ rows_behind (idle_at [] None 1) words
run-found words = (no-defaults run_rules (rows_behind (idle_at [] None 1) words) run-defaults).1

-- ---- one value or none

abbrev AtMostOne : List Bytes → Type 0
AtMostOne vs = (vs ≡ []) ⊎ ((v : Bytes) × (vs ≡ v ∷ []))

text-or-none : (i : Bytes) (rows : List Row) → are_single rows ≡ true → AtMostOne (texts_at i rows)
text-or-none i rows s = go (cases_Bool (has_row i rows))
  where
    go : (has_row i rows ≡ true) ⊎ (has_row i rows ≡ false) → AtMostOne (texts_at i rows)
    go (inl t) = inr (one-text i rows s t)
    go (inr f) = inl (none-texts i rows f)

pub only-text : (i : Bytes) (rows : List Row) (v : Bytes) → are_single rows ≡ true → first_of i rows ≡ Some v → texts_at i rows ≡ v ∷ []
only-text i rows v s e = go (text-or-none i rows s)
  where
    go : AtMostOne (texts_at i rows) → texts_at i rows ≡ v ∷ []
    go (inl n) = let bad : None ≡ Some v = sym (first-text i rows ∙ ap (λ x. slice_get x 0) n) ∙ e in cc
    go (inr k) =
        let same : Some k.0 ≡ Some v = sym (first-text i rows ∙ ap (λ x. slice_get x 0) k.1) ∙ e in
        let is : k.0 ≡ v = cc in
        k.1 ∙ ap (λ x. x ∷ []) is

-- two lists of one value at most that make two values have one each
two-texts : (xs ys : List Bytes) (a b : Bytes) → AtMostOne xs → AtMostOne ys → xs ++ ys ≡ a ∷ b ∷ []
    → (xs ≡ a ∷ []) × (ys ≡ b ∷ [])
two-texts xs ys a b (inl n) (inl m) e = let bad : [] ≡ a ∷ b ∷ [] = sym (ap (λ x. x ++ ys) n ∙ m) ∙ e in cc
two-texts xs ys a b (inl n) (inr k) e = let bad : k.0 ∷ [] ≡ a ∷ b ∷ [] = sym (ap (λ x. x ++ ys) n ∙ k.1) ∙ e in cc
two-texts xs ys a b (inr k) (inl m) e =
    let bad : k.0 ∷ [] ≡ a ∷ b ∷ [] = sym (ap (λ x. x ++ ys) k.1 ∙ ap (λ x. k.0 ∷ x) m) ∙ e in
    cc
two-texts xs ys a b (inr k) (inr j) e =
    let both : k.0 ∷ j.0 ∷ [] ≡ a ∷ b ∷ [] = sym (ap (λ x. x ++ ys) k.1 ∙ ap (λ x. k.0 ∷ x) j.1) ∙ e in
    let x : k.0 ≡ a = cc in
    let y : j.0 ≡ b = cc in
    (k.1 ∙ ap (λ v. v ∷ []) x, j.1 ∙ ap (λ v. v ∷ []) y)

-- ---- numbers

not-two : (v w : Bytes) (vs : List Bytes) → AtMostOne (v ∷ w ∷ vs) → ⊥
not-two v w vs (inl none) = cc
not-two v w vs (inr k) = let bad : v ∷ w ∷ vs ≡ k.0 ∷ [] = k.1 in cc

gives-number : (l : RunLimit) (vs : List Bytes) (n : ℕ) → GivesNumber (default_of l) (most_of l) vs n
    → number_from l (slice_get vs 0) ≡ Some n
gives-number l [] n h = ap Some (sym h)
gives-number l (v ∷ []) n h = h
gives-number l (v ∷ w ∷ vs) n h = absurd h

number-gives : (l : RunLimit) (vs : List Bytes) (n : ℕ) → AtMostOne vs → number_from l (slice_get vs 0) ≡ Some n
    → GivesNumber (default_of l) (most_of l) vs n
number-gives l [] n one e = cc
number-gives l (v ∷ []) n one e = e
number-gives l (v ∷ w ∷ vs) n one e = absurd (not-two v w vs one)

-- ---- control texts

gives-text : (vs : List Bytes) (t : Option Bytes) → GivesText vs t → control_from (slice_get vs 0) ≡ Some t
gives-text [] t h = ap Some (sym h)
gives-text (v ∷ []) t h = rw (h.0, h.1)
gives-text (v ∷ w ∷ vs) t h = absurd h

value-given : (v : Bytes) (t : Option Bytes) → (is_value v ≡ true) ⊎ (is_value v ≡ false) → control_from (Some v) ≡ Some t
    → (is_value v ≡ true) × (t ≡ Some v)
value-given v t (inl y) e =
    let same : Some (Some v) ≡ Some t = ap (λ b. if b then Some (Some v) else None) (sym y) ∙ e in
    (y, cc)
value-given v t (inr n) e = let bad : None ≡ Some t = ap (λ b. if b then Some (Some v) else None) (sym n) ∙ e in cc

text-gives : (vs : List Bytes) (t : Option Bytes) → AtMostOne vs → control_from (slice_get vs 0) ≡ Some t → GivesText vs t
text-gives [] t one e = cc
text-gives (v ∷ []) t one e = value-given v t (cases_Bool (is_value v)) e
text-gives (v ∷ w ∷ vs) t one e = absurd (not-two v w vs one)

-- ---- what is found of the options is what the parts say

module _ (parts : List Part) (rows : List Row) (found : HasFound [] parts rows) where
  found-one : (o : RunOption) → AtMostOne (texts_at (name_of o) rows)
  found-one o = text-or-none (name_of o) rows found.single

  found-number : (l : RunLimit) (n : ℕ) → number_in l rows ≡ Some n
      → GivesNumber (default_of l) (most_of l) (values_of (Limit l) parts) n
  found-number l n e =
      let o = Limit l in
      subst (λ x. GivesNumber (default_of l) (most_of l) x n) (found.values o)
      (number-gives l (texts_at (name_of o) rows) n (found-one o) (sym (ap (number_from l) (first-text (name_of o) rows)) ∙ e))

  number-found : (l : RunLimit) (n : ℕ) → GivesNumber (default_of l) (most_of l) (values_of (Limit l) parts) n → number_in l rows ≡ Some n
  number-found l n h =
      let o = Limit l in
      ap (number_from l) (first-text (name_of o) rows)
      ∙ gives-number l (texts_at (name_of o) rows) n
      (subst (λ x. GivesNumber (default_of l) (most_of l) x n) (sym (found.values o)) h)

  found-text : (t : Option Bytes) → control_in rows ≡ Some t → GivesText (values_of Control parts) t
  found-text t e =
      subst (λ x. GivesText x t) (found.values Control)
      (text-gives (texts_at (name_of Control) rows) t (found-one Control)
      (sym (ap control_from (first-text (name_of Control) rows)) ∙ e))

  text-found : (t : Option Bytes) → GivesText (values_of Control parts) t → control_in rows ≡ Some t
  text-found t h =
      ap control_from (first-text (name_of Control) rows)
      ∙ gives-text (texts_at (name_of Control) rows) t (subst (λ x. GivesText x t) (sym (found.values Control)) h)

-- ---- orders

record AreLimits (a b c : Option ℕ) (limits : Limits) : Type 0 where
  pub commits : a ≡ Some limits.commits
  pub moves : b ≡ Some limits.moves
  pub cells : c ≡ Some limits.cells

are-limits : (a b c : Option ℕ) (limits : Limits) → limits_from a b c ≡ Some limits → AreLimits a b c limits
are-limits None b c limits e = cc
are-limits (Some x) None c limits e = cc
are-limits (Some x) (Some y) None limits e = cc
are-limits (Some x) (Some y) (Some z) limits e =
    let same : ◌≡◌ {A = Limits} (record { commits = x; moves = y; cells = z }) limits = cc in
    record {
      commits = ap (λ (l : Limits). Some l.commits) same;
      moves = ap (λ (l : Limits). Some l.moves) same;
      cells = ap (λ (l : Limits). Some l.cells) same;
    }

pub record IsRunFrom (file goal : Option Bytes) (limits : Option Limits) (control : Option (Option Bytes)) (o : Order) : Type 0 where
  pub the_file : Bytes
  pub the_goal : Bytes
  pub the_limits : Limits
  pub the_control : Option Bytes
  pub is_file : file ≡ Some the_file
  pub is_goal : goal ≡ Some the_goal
  pub are_limits : limits ≡ Some the_limits
  pub is_control : control ≡ Some the_control
  pub is_order : o ≡ Run the_file the_goal the_limits the_control

is-run-from : (file goal : Option Bytes) (limits : Option Limits) (control : Option (Option Bytes)) (o : Order)
    → run_from file goal limits control ≡ Some o
    → IsRunFrom file goal limits control o
is-run-from None goal limits control o e = cc
is-run-from (Some f) None limits control o e = cc
is-run-from (Some f) (Some g) None control o e = cc
is-run-from (Some f) (Some g) (Some l) None o e = cc
is-run-from (Some f) (Some g) (Some l) (Some c) o e = record {
  the_file = f;
  the_goal = g;
  the_limits = l;
  the_control = c;
  is_file = refl;
  is_goal = refl;
  are_limits = refl;
  is_control = refl;
  is_order = cc;
}

-- a run that parts ask for
pub record IsPartsRun (words : List Bytes) (o : Order) : Type 0 where
  pub file : Bytes
  pub goal : Bytes
  pub limits : Limits
  pub control : Option Bytes
  pub is_order : o ≡ Run file goal limits control
  pub parts : List Part
  pub are_parts : AreRunParts words parts file goal limits control

part-words-run : (words : List Bytes) (rows : List Row) (o : Order) → ArePartWords words [] rows → run_in rows ≡ Some o → IsPartsRun words o
part-words-run words rows o h e =
    let r = is-run-from (first_of (codes "file") rows) (first_of (codes "goal") rows) (limits_in rows) (control_in rows) o e in
    let l = are-limits (number_in Commits rows) (number_in Moves rows) (number_in Cells rows) r.the_limits r.are_limits in
    let file = only-text (codes "file") rows r.the_file h.found.single r.is_file in
    let goal = only-text (codes "goal") rows r.the_goal h.found.single r.is_goal in
    record {
      file = r.the_file;
      goal = r.the_goal;
      limits = r.the_limits;
      control = r.the_control;
      is_order = r.is_order;
      parts = h.parts;
      are_parts = record {
        spelled = h.spelled;
        plain = h.plain;
        two = sym h.found.words ∙ ap (λ x. x ++ texts_at (codes "goal") rows) file ∙ ap (λ x. r.the_file ∷ x) goal;
        commits = found-number h.parts rows h.found Commits r.the_limits.commits l.commits;
        moves = found-number h.parts rows h.found Moves r.the_limits.moves l.moves;
        cells = found-number h.parts rows h.found Cells r.the_limits.cells l.cells;
        asked = found-text h.parts rows h.found r.the_control r.is_control;
      };
    }

-- what the parser takes and finds is what parts ask for
pub run-read : (words : List Bytes) (o : Order) → list_all is_long_or_plain words ≡ true
    → level_fault run_leaf [] nothing_held words false [] ≡ []
    → run_in (rows_after run_rules [] words) ≡ Some o
    → IsPartsRun words o
run-read words o formed passes e =
    part-words-run words (rows_behind (idle_at [] None 1) words) o
    (all-read words (idle [] None first) (λ a. ((refl, refl), refl)) formed (run-passes words passes)).1
    (sym (ap run_in (run-found words)) ∙ e)

-- ---- and what parts ask for is what the parser takes and finds

parts-ask : (words : List Bytes) (parts : List Part) (file goal : Bytes) (limits : Limits) (control : Option Bytes)
    → AreRunParts words parts file goal limits control
    → AsksWith [] parts
parts-ask words parts file goal limits control a = record {
  plain = a.plain;
  file = file;
  goal = goal;
  words = a.two;
  values = λ o. given o;
}
  where
    given : (o : RunOption) → IsGiven (values_of o parts)
    given (Limit Commits) = number-given 1000000 1000000 _ _ a.commits
    given (Limit Moves) = number-given 1000000 1000000 _ _ a.moves
    given (Limit Cells) = number-given 8000000 64000000 _ _ a.cells
    given Control = text-given _ _ a.asked

-- the parser takes the words, and finds what they ask for
pub record IsRunTaken (words : List Bytes) (o : Order) : Type 0 where
  pub formed : list_all is_long_or_plain words ≡ true
  pub passes : level_fault run_leaf [] nothing_held words false [] ≡ []
  pub finds : run_in (rows_after run_rules [] words) ≡ Some o

taken-run : (parts : List Part) (file goal : Bytes) (limits : Limits) (control : Option Bytes)
    → AreRunParts (words_of parts) parts file goal limits control
    → AreTaken (idle_at [] None 1) (words_of parts) [] parts
    → IsRunTaken (words_of parts) (Run file goal limits control)
taken-run parts file goal limits control a t =
    let rows = rows_behind (idle_at [] None 1) (words_of parts) in
    let two = two-texts (texts_at (codes "file") rows) (texts_at (codes "goal") rows) file goal
    (text-or-none (codes "file") rows t.found.single) (text-or-none (codes "goal") rows t.found.single) (t.found.words ∙ a.two) in
    let file_is : first_of (codes "file") rows ≡ Some file = first-text (codes "file") rows ∙ ap (λ x. slice_get x 0) two.0 in
    let goal_is : first_of (codes "goal") rows ≡ Some goal = first-text (codes "goal") rows ∙ ap (λ x. slice_get x 0) two.1 in
    let commits = number-found parts rows t.found Commits limits.commits a.commits in
    let moves = number-found parts rows t.found Moves limits.moves a.moves in
    let cells = number-found parts rows t.found Cells limits.cells a.cells in
    let limits_are : limits_in rows ≡ Some limits = rw (commits, moves, cells) in
    let control_is = text-found parts rows t.found control a.asked in
    record {
      formed = t.formed;
      passes = passes-run (words_of parts) t.passes;
      finds = ap run_in (run-found (words_of parts)) ∙ rw (file_is, goal_is, limits_are, control_is);
    }

pub run-taken : (words : List Bytes) (parts : List Part) (file goal : Bytes) (limits : Limits) (control : Option Bytes)
    → AreRunParts words parts file goal limits control
    → IsRunTaken words (Run file goal limits control)
run-taken words parts file goal limits control a =
    subst (λ x. IsRunTaken x (Run file goal limits control)) (sym a.spelled)
    (taken-run parts file goal limits control (subst (λ x. AreRunParts x parts file goal limits control) a.spelled a)
    (all-taken parts [] None first ((refl, refl), refl) refl (parts-ask words parts file goal limits control a)))
