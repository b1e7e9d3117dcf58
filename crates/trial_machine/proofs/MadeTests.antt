-- A test was made, and holds, or the try is left.
use Rattle.std.proofs.Common.{◌≡◌, ℕ, suc, List, false, ap, subst, ◌∙◌}
use Rattle.std.specs.declared.vec.Vec.{Vec}
use Rattle.std.specs.declared.alloc.Global.{Global}
use Rattle.heap_words.specs.Trails.{WordList, Says}
use Rattle.heap_words.specs.declared.steps.ExprStep.{ExprStep}
use Rattle.heap_words.specs.declared.steps.TestKind.{TestKind}
use Rattle.heap_words.specs.declared.trail.Trail.{Trail}
use Rattle.guard_tests.specs.declared.equality.Tested.{Tested}
use Rattle.guard_tests.specs.declared.equality.Tested.TheVariants.{Holds, Not, Wait}
use Rattle.guard_tests.specs.declared.evaluation.TestLists.{TestLists}
use Rattle.guard_tests.specs.Guards.{AreTested}
use Rattle.guard_tests.specs.Opened.{ReadsOpen}
use Rattle.beside_words.specs.Besides.{own_at}
use Rattle.machine_code.specs.Slots.{Step}
use Rattle.machine_code.specs.Instructions.{Test}
use Rattle.machine_code.specs.Sound.{HasSides}
use Rattle.trial_tests.specs.Tested.{word_steps}
use Rattle.safe_tries.specs.Loads.{Kept}
use Rattle.stored_tries.specs.Calls.{AreOwn}
use Rattle.stored_tries.proofs.Calling.{same_words}
use Rattle.steady_tries.specs.Steady.{base_of}
use Rattle.steady_tries.specs.Tests.{TestsAt}
use Rattle.steady_tries.proofs.Going.{more_steady, course_more}
use Rattle.steady_tries.proofs.Unifying.{all_noted}
use Rattle.steady_tries.proofs.Testing.{holds_steady, fails_steady, waits_steady, tested_reads}
use Rattle.try_desk.specs.Desks.{hand, Becomes, rested}
use Rattle.try_desk.specs.Keeping.{KeepsDesk}
use Rattle.try_desk.specs.declared.desk.Desk.{Desk}
use Rattle.trial_machine.specs.declared.machine.Machine.{Machine}
use Rattle.trial_machine.specs.Machines.{course, at_machine, HasLeft, LeftSafe, KeepsMachine, Leaves, StepsOn}
use Rattle.trial_machine.proofs.Ways.{on_way, left_resting}
use Rattle.trial_machine.proofs.Besides.{says_pieces}

-- a machine after a test, with another trail
abbrev pub with_test : Machine → Trail → TestLists → Vec ExprStep Global → Vec ExprStep Global → Machine
with_test m t l a b = record m { trail = t; tests = l; left = a; right = b }

-- what the test of words says
pub tests_at : (m : Machine) (k : TestKind) (x y : List Step) (a d : Tested) (kept : WordList) (rs : List ℕ) (own own' : List ℕ)
    (xs ys : List ExprStep) → AreOwn m.desk.pieces own → own' ≡ own → xs ≡ word_steps (at_machine m) x → ys ≡ word_steps (at_machine m) y
    → a ≡ d → Says (own_at own') kept (λ mem. AreTested mem m.trail.binds m.trail.reads.items k xs ys a rs)
    → ReadsOpen m.trail.binds kept (own_at own') m.trail.reads.items rs → TestsAt kept (at_machine m) k x y d rs
tests_at m k x y a d kept rs own own' xs ys are same e f g says opened = record {
  tested = says_pieces
      (λ mem. AreTested mem m.trail.binds m.trail.reads.items k (word_steps (at_machine m) x) (word_steps (at_machine m) y) d rs)
      m.desk.pieces own own' kept are same
      (subst (λ (b : Tested). Says (own_at own') kept
      (λ mem. AreTested mem m.trail.binds m.trail.reads.items k (word_steps (at_machine m) x) (word_steps (at_machine m) y) b rs)) g
      (subst (λ (zs : List ExprStep). Says (own_at own') kept
      (λ mem. AreTested mem m.trail.binds m.trail.reads.items k (word_steps (at_machine m) x) zs a rs)) f
      (subst (λ (zs : List ExprStep). Says (own_at own') kept
      (λ mem. AreTested mem m.trail.binds m.trail.reads.items k zs ys a rs)) e says)));
  opened = subst (λ o. ReadsOpen m.trail.binds kept o m.trail.reads.items rs) (ap own_at same ∙ same_words m.desk.pieces own are) opened;
}

pub test_holds : (m : Machine) (d : Desk) (t : Trail) (l : TestLists) (a b : Vec ExprStep Global) (k : TestKind) (x y : List Step)
    → Kept m.trail.kept (at_machine m) t.kept → t.binds ≡ m.trail.binds → TestsAt t.kept (at_machine m) k x y Holds t.reads.items
    → HasSides k x y → Becomes m.desk d (rested m.desk.slots.args m.base) → KeepsDesk m.desk d
    → StepsOn m (record (with_test m t l a b) { desk = d }) (Test k x y)
test_holds m d t l a b k x y more binds tests sides becomes keeps f at h o =
    let known = course_more (course f m) m.trail.kept t.kept more.grows h.on_course in
    let steady = more_steady (course f m) m.trail.kept at m.base (at_machine m) h.on_course h.steady t.kept more in
    on_way f (suc at) (record (with_test m t l a b) { desk = d }) m.desk.slots.args
    (record (base_of (course f m) m.base (at_machine m)) { reads = t.reads.items }) keeps.slots.args
    (ap (λ (bs : WordList). hand d bs t.reads.items m.waits) binds ∙ becomes m.trail.binds t.reads.items m.waits) known
    (holds_steady (course f m) t.kept at m.base (at_machine m) known steady k x y t.reads.items o sides tests)
    (ap f.vars keeps.clause ∙ h.known)

pub test_fails : (m new : Machine) (t : Trail) (l : TestLists) (a b : Vec ExprStep Global) (k : TestKind) (x y : List Step)
    → Kept m.trail.kept (at_machine m) t.kept → TestsAt t.kept (at_machine m) k x y Not t.reads.items → HasSides k x y
    → HasLeft (with_test m t l a b) new m.desk.behind → LeftSafe (with_test m t l a b) new → KeepsMachine (with_test m t l a b) new
    → Leaves m new (Test k x y)
test_fails m new t l a b k x y more tests sides left safe keeps f at h o =
    let known = course_more (course f m) m.trail.kept t.kept more.grows h.on_course in
    let steady = more_steady (course f m) m.trail.kept at m.base (at_machine m) h.on_course h.steady t.kept more in
    left_resting f m.desk.next (with_test m t l a b) new m.desk.behind left safe keeps known
    (all_noted (course f m) t.kept at m.base (at_machine m) known steady t.reads.items new.waits
    (tested_reads (course f m) t.kept at m.base (at_machine m) known steady k x y Not t.reads.items tests) left.noted)
    (λ s. fails_steady (course f m) t.kept at m.base (at_machine m) known steady k x y t.reads.items new.waits o sides tests left.noted s)

pub test_waits : (m new : Machine) (t : Trail) (l : TestLists) (a b : Vec ExprStep Global) (k : TestKind) (x y : List Step)
    → Kept m.trail.kept (at_machine m) t.kept → TestsAt t.kept (at_machine m) k x y Wait t.reads.items → HasSides k x y
    → HasLeft (with_test m t l a b) new false → LeftSafe (with_test m t l a b) new → KeepsMachine (with_test m t l a b) new
    → Leaves m new (Test k x y)
test_waits m new t l a b k x y more tests sides left safe keeps f at h o =
    let known = course_more (course f m) m.trail.kept t.kept more.grows h.on_course in
    let steady = more_steady (course f m) m.trail.kept at m.base (at_machine m) h.on_course h.steady t.kept more in
    left_resting f m.desk.next (with_test m t l a b) new false left safe keeps known
    (all_noted (course f m) t.kept at m.base (at_machine m) known steady t.reads.items new.waits
    (tested_reads (course f m) t.kept at m.base (at_machine m) known steady k x y Wait t.reads.items tests) left.noted)
    (λ s. waits_steady (course f m) t.kept at m.base (at_machine m) known steady k x y t.reads.items new.waits o sides tests left.noted s)
