-- A try on its way in a machine, and one that was left.
use Rattle.std.proofs.Common.{◌≡◌, ℕ, Bool, List, [], ap₂, sym, subst, ◌∙◌}
use Rattle.heap_words.specs.Trails.{WordList}
use Rattle.word_states.specs.Words.{IsIn}
use Rattle.machine_code.specs.Fresh.{no_tops}
use Rattle.trial_laws.specs.AtHand.{AtHand}
use Rattle.trial_laws.specs.Laws.{left}
use Rattle.safe_tries.specs.Safe.{IsSafe, KeptOpen}
use Rattle.steady_tries.specs.Steady.{Course, IsCourse, IsSteady, IsBetween}
use Rattle.try_desk.specs.Desks.{hand, Becomes, put_away}
use Rattle.try_desk.specs.declared.desk.Desk.{Desk}
use Rattle.trial_machine.specs.declared.machine.Machine.{Machine}
use Rattle.trial_machine.specs.Machines.{Frame, IsOnWay, IsResting, course, words_of, at_machine, HasLeft, LeftSafe, KeepsMachine}

-- a frame with arguments
abbrev pub framed : Frame → List ℕ → Course
framed f args = record { ops = f.ops; start = f.start; process = f.process; words = words_of args; vars = f.vars }

-- what is at hand has become r, which is steady with these arguments
pub on_way : (f : Frame) (to : ℕ) (m : Machine) (args : List ℕ) (r : AtHand) → m.desk.slots.args ≡ args → at_machine m ≡ r
    → IsCourse (framed f args) m.trail.kept → IsSteady (framed f args) m.trail.kept to m.base r → f.vars m.desk.clause ≡ m.vars
    → IsOnWay f to m
on_way f to m args r e a h s known = record {
  on_course = subst (λ as'. IsCourse (framed f as') m.trail.kept) (sym e) h;
  steady = subst (λ as'. IsSteady (framed f as') m.trail.kept to m.base (at_machine m)) (sym e)
      (subst (λ (q : AtHand). IsSteady (framed f args) m.trail.kept to m.base q) (sym a) s);
  known = known;
}

-- or it was left
pub resting : (f : Frame) (at : ℕ) (m : Machine) (args : List ℕ) (r : AtHand) → m.desk.slots.args ≡ args → at_machine m ≡ r
    → IsCourse (framed f args) m.trail.kept → IsBetween (framed f args) m.trail.kept at r → IsResting f at m
resting f at m args r e a h b = record {
  on_course = subst (λ as'. IsCourse (framed f as') m.trail.kept) (sym e) h;
  between = subst (λ as'. IsBetween (framed f as') m.trail.kept at (at_machine m)) (sym e)
      (subst (λ (q : AtHand). IsBetween (framed f args) m.trail.kept at q) (sym a) b);
}

-- a desk that was put away, with nothing on the trail
pub left_hand : (old new : Desk) (behind : Bool) (binds binds' : WordList) (reads reads' waits waits' : List ℕ)
    → Becomes old new (put_away old.slots.args behind) → binds' ≡ [] → reads' ≡ []
    → hand new binds' reads' waits' ≡ left (hand old binds reads waits) behind waits' (words_of old.slots.args)
left_hand old new behind binds binds' reads reads' waits waits' becomes e f =
    ap₂ (λ (b : WordList) (rs : List ℕ). hand new b rs waits') e f ∙ becomes [] [] waits'

-- A machine that left a try is between two tries, where the law of the instruction says so of what is at hand.
pub left_resting : (f : Frame) (at : ℕ) (old new : Machine) (behind : Bool) → HasLeft old new behind → LeftSafe old new
    → KeepsMachine old new → IsCourse (course f old) old.trail.kept
    → ((a : ℕ) → IsIn a new.waits → KeptOpen old.trail.kept a)
    → (IsSafe old.trail.kept (left (at_machine old) behind new.waits (words_of old.desk.slots.args)) no_tops 0
    → IsBetween (course f old) old.trail.kept at (left (at_machine old) behind new.waits (words_of old.desk.slots.args)))
    → IsResting f at new
left_resting f at old new behind h safe keeps c opened between =
    let was : IsSafe old.trail.kept (left (at_machine old) behind new.waits (words_of old.desk.slots.args)) no_tops 0 =
    subst (λ (k : WordList). IsSafe k (left (at_machine old) behind new.waits (words_of old.desk.slots.args)) no_tops 0) h.kept
    (subst (λ (q : AtHand). IsSafe new.trail.kept q no_tops 0) h.hand (safe c.kept_words opened)) in
    resting f at new old.desk.slots.args (left (at_machine old) behind new.waits (words_of old.desk.slots.args)) keeps.args h.hand
    (subst (λ (k : WordList). IsCourse (course f old) k) (sym h.kept) c)
    (subst (λ (k : WordList). IsBetween (course f old) k at (left (at_machine old) behind new.waits (words_of old.desk.slots.args)))
    (sym h.kept) (between was))
