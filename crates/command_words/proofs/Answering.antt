-- What words are answered.
use Rattle.std.proofs.Common.{◌≡◌, true, false, List, [], ◌∷◌, map, Option, Some, None, ap, sym, ◌∙◌, subst, refl, ◌⊎◌, inl, inr}
use Rattle.std.specs.Prelude.{codes, Result, Ok, Err}
use Rattle.std.specs.List.{list_all}
use Rattle.std.specs.Str.{bytes_eq}
use Rattle.std.proofs.lemmas.List.Folds.{list_all-map}
use Rattle.std.proofs.lemmas.Bool.{and_from, and_parts, cases_Bool}
use Rattle.fcp_model.specs.declared.run.Limits.{Limits}
use Rattle.fcp_model.specs.Spelling.{Bytes}
use Rattle.clap.specs.declared.parser.matches.ArgMatches.{ArgMatches}
use Rattle.clap.specs.declared.error.kind.ErrorKind.TheVariants.{InvalidSubcommand, UnknownArgument}
use Rattle.clap.specs.Simple.{subcommand_of}
use Rattle.clap.specs.Faults.{fault_of, turn_fault, walk_fault}
use Rattle.clap.specs.Walk.{nothing_held, walk_from}
use Rattle.clap.specs.Words.{subcommand_rows_of}
use Rattle.command_words.specs.declared.order.Order.{Order}
use Rattle.command_words.specs.declared.order.Order.TheVariants.{Run, Show}
use Rattle.command_words.specs.declared.order.WordFault.{WordFault}
use Rattle.command_words.specs.declared.order.WordFault.TheVariants.{Usage, NoMemory}
use Rattle.command_words.specs.Commands.{logix}
use Rattle.command_words.specs.Laws.{WordsHaveOneReading}
use Rattle.command_words.specs.Orders.{Answers, Parses, is_allowed, is_long_or_plain, order_in}
use Rattle.command_words.specs.Readings.{is_proper, is_plain, Part, AreRunParts, IsReading, HasNoReading, ReadsWords}
use Rattle.command_words.proofs.Forms.{IsLong, is_word, plain-or-long, plain-word}
use Rattle.command_words.proofs.Levels.{names, run-fault, run-rows, show-fault, show-rows, top}
use Rattle.command_words.proofs.PassingParts.{plain-stands}
use Rattle.command_words.proofs.RunWords.{run-read, run-taken}
use Rattle.command_words.proofs.ShowWords.{show-found, show-passes, show-read}
use Rattle.command_words.proofs.Turns.{both-none}

-- ---- words that may stand in a call

all-allowed : (words : List Bytes) → list_all is_allowed words ≡ true
    → (list_all is_proper words ≡ true) × (list_all is_long_or_plain words ≡ true)
all-allowed [] e = (refl, refl)
all-allowed (w ∷ ws) e =
    let a = and_parts (is_allowed w) (list_all is_allowed ws) e in
    let b = and_parts (is_proper w) (is_long_or_plain w) a.0 in
    let rest = all-allowed ws a.1 in
    (and_from (is_proper w) (list_all is_proper ws) b.0 rest.0, and_from (is_long_or_plain w) (list_all is_long_or_plain ws) b.1 rest.1)

allowed-all : (words : List Bytes) → list_all is_proper words ≡ true → list_all is_long_or_plain words ≡ true
    → list_all is_allowed words ≡ true
allowed-all [] p f = refl
allowed-all (w ∷ ws) p f =
    let a = and_parts (is_proper w) (list_all is_proper ws) p in
    let b = and_parts (is_long_or_plain w) (list_all is_long_or_plain ws) f in
    and_from (is_allowed w) (list_all is_allowed ws) (and_from (is_proper w) (is_long_or_plain w) a.0 b.0) (allowed-all ws a.1 b.1)

-- ---- other first words

-- a word that is no command fails
no-command : (w : Bytes) → bytes_eq (codes "run") w ≡ false → bytes_eq (codes "show") w ≡ false → (is_plain w ≡ true) ⊎ IsLong w
    → turn_fault top names (walk_from nothing_held) w ≡ []
    → ⊥
no-command w r s (inl plain) e =
    let p = plain-word w plain in
    let bad : UnknownArgument ∷ InvalidSubcommand ∷ [] ≡ [] = sym (rw (r, s, p.no_end, p.no_long, p.no_short)) ∙ e in
    cc
no-command w r s (inr l) e =
    let bad : UnknownArgument ∷ [] ≡ [] = sym (rw (l.spelled)) ∙ e in
    cc

other-fails : (w : Bytes) (words : List Bytes) → bytes_eq (codes "run") w ≡ false → bytes_eq (codes "show") w ≡ false
    → is_long_or_plain w ≡ true
    → fault_of logix (w ∷ words) ≡ []
    → ⊥
unfolding walk_fault
other-fails w words r s formed e =
    let start = both-none (walk_fault top names (walk_from nothing_held) (w ∷ words)) _ e in
    no-command w r s (plain-or-long w formed) (both-none (turn_fault top names (walk_from nothing_held) w) _ start.0).0

-- ---- what the parser takes and finds is what words ask for

-- what they ask for, and that they may stand in a call
record IsTaken (words : List Bytes) (o : Order) : Type 0 where
  pub allowed : list_all is_allowed words ≡ true
  pub passes : fault_of logix words ≡ []
  pub finds : order_in (subcommand_of logix words) ≡ Some o

run-reading : (words : List Bytes) (o : Order) → list_all is_allowed (codes "run" ∷ words) ≡ true
    → fault_of logix (codes "run" ∷ words) ≡ []
    → order_in (subcommand_of logix (codes "run" ∷ words)) ≡ Some o
    → IsReading (codes "run" ∷ words) o
run-reading words o allowed passes finds =
    let a = all-allowed (codes "run" ∷ words) allowed in
    let f = and_parts (is_long_or_plain (codes "run")) (list_all is_long_or_plain words) a.1 in
    let r = run-read words o f.1 (sym (run-fault words) ∙ passes) (sym (ap order_in (run-rows words)) ∙ finds) in
    subst (IsReading (codes "run" ∷ words)) (sym r.is_order) (record {
      asks = record {
        behind = words;
        command = refl;
        proper = a.0;
        parts = r.parts;
        are_parts = r.are_parts;
      };
    })

show-reading : (words : List Bytes) (o : Order) → list_all is_allowed (codes "show" ∷ words) ≡ true
    → fault_of logix (codes "show" ∷ words) ≡ []
    → order_in (subcommand_of logix (codes "show" ∷ words)) ≡ Some o
    → IsReading (codes "show" ∷ words) o
show-reading words o allowed passes finds =
    let a = all-allowed (codes "show" ∷ words) allowed in
    let f = and_parts (is_long_or_plain (codes "show")) (list_all is_long_or_plain words) a.1 in
    let r = show-read words o f.1 (sym (show-fault words) ∙ passes) (sym (ap order_in (show-rows words)) ∙ finds) in
    subst (IsReading (codes "show" ∷ words)) (sym r.is_order) (record {
      asks = record {
        command = ap (λ x. codes "show" ∷ x) r.spelled;
        proper = a.0;
        plain = r.plain;
      };
    })

first-reading : (w : Bytes) (words : List Bytes) (o : Order) → (bytes_eq (codes "run") w ≡ true) ⊎ (bytes_eq (codes "run") w ≡ false)
    → (bytes_eq (codes "show") w ≡ true) ⊎ (bytes_eq (codes "show") w ≡ false)
    → list_all is_allowed (w ∷ words) ≡ true
    → fault_of logix (w ∷ words) ≡ []
    → order_in (subcommand_of logix (w ∷ words)) ≡ Some o
    → IsReading (w ∷ words) o
first-reading w words o (inl r) s =
    subst (λ x. list_all is_allowed (x ∷ words) ≡ true → fault_of logix (x ∷ words) ≡ []
    → order_in (subcommand_of logix (x ∷ words)) ≡ Some o
    → IsReading (x ∷ words) o) (is_word (codes "run") w r) (run-reading words o)
first-reading w words o (inr r) (inl s) =
    subst (λ x. list_all is_allowed (x ∷ words) ≡ true → fault_of logix (x ∷ words) ≡ []
    → order_in (subcommand_of logix (x ∷ words)) ≡ Some o
    → IsReading (x ∷ words) o) (is_word (codes "show") w s) (show-reading words o)
first-reading w words o (inr r) (inr s) = λ allowed passes finds.
    let f = and_parts (is_long_or_plain w) (list_all is_long_or_plain words) (all-allowed (w ∷ words) allowed).1 in
    absurd (other-fails w words r s f.0 passes)

taken-reading : (words : List Bytes) (o : Order) → list_all is_allowed words ≡ true → fault_of logix words ≡ []
    → order_in (subcommand_of logix words) ≡ Some o
    → IsReading words o
taken-reading [] o allowed passes finds = let bad : None ≡ Some o = finds in cc
taken-reading (w ∷ words) o allowed passes finds =
    first-reading w words o (cases_Bool (bytes_eq (codes "run") w)) (cases_Bool (bytes_eq (codes "show") w)) allowed passes finds

-- ---- and what words ask for is what the parser takes and finds

run-is-taken : (words : List Bytes) (file goal : Bytes) (limits : Limits) (control : Option Bytes) (parts : List Part)
    → list_all is_proper (codes "run" ∷ words) ≡ true
    → AreRunParts words parts file goal limits control
    → IsTaken (codes "run" ∷ words) (Run file goal limits control)
run-is-taken words file goal limits control parts proper a =
    let t = run-taken words parts file goal limits control a in
    record {
      allowed = allowed-all (codes "run" ∷ words) proper
          (and_from (is_long_or_plain (codes "run")) (list_all is_long_or_plain words) refl t.formed);
      passes = run-fault words ∙ t.passes;
      finds = ap order_in (run-rows words) ∙ t.finds;
    }

show-is-taken : (file : Bytes) → list_all is_proper (codes "show" ∷ file ∷ []) ≡ true → is_plain file ≡ true
    → IsTaken (codes "show" ∷ file ∷ []) (Show file)
show-is-taken file proper plain = record {
  allowed = allowed-all (codes "show" ∷ file ∷ []) proper (and_from (is_long_or_plain file) true (plain-stands file plain) refl);
  passes = show-fault (file ∷ []) ∙ show-passes file plain;
  finds = ap order_in (show-rows (file ∷ [])) ∙ show-found file plain;
}

reading-taken : (words : List Bytes) (o : Order) → IsReading words o → IsTaken words o
reading-taken words (Run file goal limits control) r =
    subst (λ x. IsTaken x (Run file goal limits control)) (sym r.asks.command)
    (run-is-taken r.asks.behind file goal limits control r.asks.parts
    (subst (λ x. list_all is_proper x ≡ true) r.asks.command r.asks.proper) r.asks.are_parts)
reading-taken words (Show file) r =
    subst (λ x. IsTaken x (Show file)) (sym r.asks.command)
    (show-is-taken file (subst (λ x. list_all is_proper x ≡ true) r.asks.command r.asks.proper) r.asks.plain)

pub one-reading : WordsHaveOneReading
one-reading words o p r s =
    let same : Some o ≡ Some p = sym (reading-taken words o r).finds ∙ (reading-taken words p s).finds in
    cc

-- ---- answers

pub not-allowed : (words : List Bytes) → list_all is_allowed words ≡ false → HasNoReading words
not-allowed words e o r = let bad : true ≡ false = sym (reading-taken words o r).allowed ∙ e in cc

pub mapped-allowed : {X : Type 0} (f : X → Bytes) (xs : List X) → list_all (λ x. is_allowed (f x)) xs ≡ list_all is_allowed (map f xs)
mapped-allowed f xs = sym (list_all-map is_allowed f xs)

-- words that the parser refuses ask for nothing
pub refused : (words : List Bytes) (e : WordFault) → Parses words (Err e) → ReadsWords words (Err e)
refused words Usage h = λ o r. h (reading-taken words o r).passes
refused words NoMemory h = tt

-- and of those that it takes the order is the one that it finds
pub answered : (words : List Bytes) (m : ArgMatches) (r : Result Order WordFault) → list_all is_allowed words ≡ true → Parses words (Ok m)
    → Answers (order_in (subcommand_rows_of m)) r
    → ReadsWords words r
answered words m (Ok o) allowed p a = taken-reading words o allowed p.0 (sym (ap order_in p.1) ∙ a)
answered words m (Err Usage) allowed p a = λ o r.
    let bad : Some o ≡ None = sym (reading-taken words o r).finds ∙ sym (ap order_in p.1) ∙ a in
    cc
answered words m (Err NoMemory) allowed p a = tt
