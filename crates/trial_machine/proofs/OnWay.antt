-- A try on its way goes on, where a call changed the desk alone.
use Rattle.std.proofs.Common.{◌≡◌, ℕ, List, ap, sym, subst, ◌∙◌}
use Rattle.trial_laws.specs.AtHand.{AtHand}
use Rattle.steady_tries.specs.Steady.{Course, IsCourse, IsSteady}
use Rattle.try_desk.specs.Desks.{hand}
use Rattle.try_desk.specs.Keeping.{KeepsDesk}
use Rattle.try_desk.specs.declared.desk.Desk.{Desk}
use Rattle.trial_machine.specs.declared.machine.Machine.{Machine}
use Rattle.trial_machine.specs.Machines.{Frame, IsOnWay, course, words_of}

-- a frame with arguments
abbrev pub framed : Frame → List ℕ → Course
framed f args = record { ops = f.ops; start = f.start; process = f.process; words = words_of args; vars = f.vars }

-- a machine with another desk, and with another number of pieces that were there before
abbrev pub with_desk : Machine → Desk → ℕ → Machine
with_desk m d n = record m { desk = d; base = n }

-- what is at hand has become r, which is steady at another position
pub goes_on : (f : Frame) (at to n : ℕ) (m : Machine) (d : Desk) (r : AtHand) → IsOnWay f at m → KeepsDesk m.desk d
    → hand d m.trail.binds m.trail.reads.items m.waits ≡ r → IsSteady (course f m) m.trail.kept to n r → IsOnWay f to (with_desk m d n)
goes_on f at to n m d r h keeps e s = record {
  on_course = subst (λ args. IsCourse (framed f args) m.trail.kept) (sym keeps.slots.args) h.on_course;
  steady = subst
      (λ args. IsSteady (framed f args) m.trail.kept to n (hand d m.trail.binds m.trail.reads.items m.waits))
      (sym keeps.slots.args)
      (subst (λ (q : AtHand). IsSteady (course f m) m.trail.kept to n q) (sym e) s);
  known = ap f.vars keeps.clause ∙ h.known;
}
