-- What is so of a trial at each instruction, by the words that were kept and by what is at hand, whatever the store's other words are.
use Rattle.std.specs.Prelude.{◌≡◌, ℕ, ◌≤◌, false, List, [], ◌∷◌, length, take}
use Rattle.fcp_model.specs.Places.{Variable}
use Rattle.fcp_model.specs.Terms.{Term, Bindings}
use Rattle.fcp_model.specs.Programs.{Goal, user, true', unifies, assigns}
use Rattle.heap_words.specs.Trails.{WordList}
use Rattle.word_states.specs.Words.{Words}
use Rattle.word_states.specs.Denoting.{Addresses}
use Rattle.word_states.specs.Pieces.{place_words}
use Rattle.word_states.specs.Trials.{IsTried}
use Rattle.machine_code.specs.Slots.{arguments}
use Rattle.machine_code.specs.Instructions.{Op}
use Rattle.machine_code.specs.Machine.{Trying, Meaning, untried}
use Rattle.machine_code.specs.Fresh.{Tops, no_tops, IsFresh}
use Rattle.trial_laws.specs.AtHand.{AtHand, StandsForTry, Gives}
use Rattle.trial_laws.specs.Laws as laws
use Rattle.safe_tries.specs.Safe.{IsSafe}
use Rattle.safe_tries.specs.Puts.{AreArguments, Puts}

-- What stays the same in a trial: the code, the position at which it begins, the address of the process, by its number the word of
-- each argument, and by its number how many variables a clause has.
pub record Course : Type 0 where
  pub ops : List Op
  pub start : ℕ
  pub process : ℕ
  pub words : ℕ → ℕ
  pub vars : ℕ → ℕ

-- the terms with which the code decides a goal; the expression of `:=` is none
abbrev pub arguments_of : Goal Variable → List (Term Variable)
arguments_of (user p ts) = ts
arguments_of true' = []
arguments_of (unifies t u) = t ∷ u ∷ []
arguments_of (assigns t e) = t ∷ []

-- so wherever words have what was kept, and the process has a goal
abbrev pub Wherever : Course → WordList → (Words → Addresses → Bindings → Goal Variable → Type 0) → Type 0
Wherever c kept P = (w : Words) (vs : Addresses) (bound : Bindings) (g : Goal Variable) → IsTried kept c.process w vs bound g → P w vs
    bound g

-- The words of the arguments were kept, and wherever the process has a goal they are those of its arguments.
pub record IsCourse (c : Course) (kept : WordList) : Type 0 where
  pub kept_words : AreArguments kept c.words
  pub named : Wherever c kept (λ w vs bound g. laws.AreArguments w vs (arguments_of g) c.words)

-- what is at hand without the pieces behind the first n, while the slots hold the arguments again
abbrev pub base_of : Course → ℕ → AtHand → AtHand
base_of c n r = record r { slots = c.words; operators = λ i. false; pieces = take n r.pieces }

-- What is at hand at a position stands for a try, without the pieces behind the first n too; and what the code gives from there it
-- gives for the whole.
pub record Follows (c : Course) (w : Words) (vs : Addresses) (bound : Bindings) (args : List (Term Variable)) (at n : ℕ) (r : AtHand)
    : Type 0 where
  pub state : Trying
  pub stands : StandsForTry w vs bound r state
  pub rests : StandsForTry w vs bound (base_of c n r) (record state { slots = arguments args })
  pub gives : (d : Meaning) → Gives bound c.ops args at state d → Gives bound c.ops args c.start untried d

-- A try is on its way: at a position, with n pieces that were there before the last terms were put.
pub record IsSteady (c : Course) (kept : WordList) (at n : ℕ) (r : AtHand) : Type 0 where
  -- it is safe, by the tops of its slots and the greatest variable that is released
  pub tops : Tops
  pub released : ℕ
  pub safe : IsSafe kept r tops released
  -- and so it is without the terms that were put
  pub rests : IsSafe kept (base_of c n r) no_tops released
  pub puts : Puts (base_of c n r) r
  pub few : n ≤ length r.pieces
  -- the first occurrences to come are fresh, in the tries to come too
  pub fresh : IsFresh c.ops at tops released
  pub next_fresh : IsFresh c.ops r.next no_tops 0
  -- the clause's variables have their places, one after another from the first own word on
  pub places : place_words 4000000000 r.pieces ≡ place_words 4000000000 (laws.places_for (c.vars r.clause))
  -- wherever words have what was kept it stands for a try
  pub follows : Wherever c kept (λ w vs bound g. Follows c w vs bound (arguments_of g) at n r)

-- so of each try on its way
abbrev pub Steadily : (Course → WordList → ℕ → ℕ → AtHand → Type 0) → Type 0
Steadily P = (c : Course) (kept : WordList) (at n : ℕ) (r : AtHand) → IsCourse c kept → IsSteady c kept at n r → P c kept at n r

-- Between two tries something stands for the state of the code's meaning that has the places noted so far.
pub record Waits (c : Course) (w : Words) (vs : Addresses) (bound : Bindings) (args : List (Term Variable)) (at : ℕ) (r : AtHand)
    : Type 0 where
  pub hand : AtHand
  pub no_pieces : hand.pieces ≡ []
  pub same_behind : hand.behind ≡ r.behind
  pub same_waits : hand.waits ≡ r.waits
  pub state : Trying
  pub stands : StandsForTry w vs bound hand state
  pub gives : (d : Meaning) → Gives bound c.ops args at state d → Gives bound c.ops args c.start untried d

-- A trial is between two tries, or before the first one: nothing is at hand but the arguments and the places noted so far.
pub record IsBetween (c : Course) (kept : WordList) (at : ℕ) (r : AtHand) : Type 0 where
  pub safe : IsSafe kept r no_tops 0
  pub no_pieces : r.pieces ≡ []
  pub no_binds : r.binds ≡ []
  pub no_reads : r.reads ≡ []
  pub fresh : IsFresh c.ops at no_tops 0
  pub follows : Wherever c kept (λ w vs bound g. Waits c w vs bound (arguments_of g) at r)
