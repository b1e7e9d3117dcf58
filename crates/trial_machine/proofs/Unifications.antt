-- Two slots were unified, or the try is left.
use Rattle.std.proofs.Common.{◌≡◌, ℕ, suc, length, false, refl, sym, subst, inl, inr}
use Rattle.heap_words.specs.declared.trail.Trail.{Trail}
use Rattle.ro_unify.specs.Unify.{done, clash, stop}
use Rattle.ro_unify.specs.Walks.{Tame}
use Rattle.ro_unify.specs.declared.unification.WorkLists.{WorkLists}
use Rattle.machine_code.specs.Instructions.{Unify}
use Rattle.trial_laws.specs.AtHand.{end_of}
use Rattle.safe_tries.specs.Safe.{own_words}
use Rattle.safe_tries.specs.Loads.{Kept}
use Rattle.steady_tries.specs.Steady.{IsSteady}
use Rattle.steady_tries.specs.Opens.{UnifiesAt}
use Rattle.steady_tries.proofs.Going.{more_steady, course_more}
use Rattle.steady_tries.proofs.Unifying.{unified_steady, unified_reads, all_noted}
use Rattle.steady_tries.proofs.Leaving.{clash_steady, pause_steady}
use Rattle.trial_machine.specs.declared.machine.Machine.{Machine}
use Rattle.trial_machine.specs.Machines.{course, at_machine, HasLeft, LeftSafe, KeepsMachine, Leaves, StepsOn}
use Rattle.trial_machine.proofs.Ways.{on_way, left_resting}

-- a machine after a unification, with another trail
abbrev pub with_trail : Machine → Trail → WorkLists → ℕ → Machine
with_trail m t l n = record m { trail = t; base = n; work = l }

pub unified : (m : Machine) (t : Trail) (l : WorkLists) (n i j : ℕ) → Kept m.trail.kept (at_machine m) t.kept
    → UnifiesAt t.kept (at_machine m) i j (done t.binds t.reads.items)
    → Tame t.binds t.kept (own_words m.desk.pieces) (end_of 4000000000 m.desk.pieces) → n ≡ length m.desk.pieces
    → StepsOn m (with_trail m t l n) (Unify i j)
unified m t l n i j more u tame count f at h o =
    let known = course_more (course f m) m.trail.kept t.kept more.grows h.on_course in
    let steady = more_steady (course f m) m.trail.kept at m.base (at_machine m) h.on_course h.steady t.kept more in
    on_way f (suc at) (with_trail m t l n) m.desk.slots.args (record (at_machine m) { binds = t.binds; reads = t.reads.items }) refl refl
    known (subst (λ (k : ℕ). IsSteady (course f m) t.kept (suc at) k (record (at_machine m) { binds = t.binds; reads = t.reads.items }))
    (sym count)
    (unified_steady (course f m) t.kept at m.base (at_machine m) known steady i j t.binds t.reads.items o u tame)) h.known

pub clashed : (m new : Machine) (t : Trail) (l : WorkLists) (i j : ℕ) → Kept m.trail.kept (at_machine m) t.kept
    → UnifiesAt t.kept (at_machine m) i j (clash t.reads.items) → HasLeft (with_trail m t l m.base) new m.desk.behind
    → LeftSafe (with_trail m t l m.base) new → KeepsMachine (with_trail m t l m.base) new → Leaves m new (Unify i j)
clashed m new t l i j more u left safe keeps f at h o =
    let known = course_more (course f m) m.trail.kept t.kept more.grows h.on_course in
    let steady = more_steady (course f m) m.trail.kept at m.base (at_machine m) h.on_course h.steady t.kept more in
    left_resting f m.desk.next (with_trail m t l m.base) new m.desk.behind left safe keeps known
    (all_noted (course f m) t.kept at m.base (at_machine m) known steady t.reads.items new.waits
    (unified_reads (course f m) t.kept at m.base (at_machine m) known steady i j t.reads.items (inl u)) left.noted)
    (λ s. clash_steady (course f m) t.kept at m.base (at_machine m) known steady i j t.reads.items new.waits o u left.noted s)

pub paused : (m new : Machine) (t : Trail) (l : WorkLists) (i j : ℕ) → Kept m.trail.kept (at_machine m) t.kept
    → UnifiesAt t.kept (at_machine m) i j (stop t.reads.items) → HasLeft (with_trail m t l m.base) new false
    → LeftSafe (with_trail m t l m.base) new → KeepsMachine (with_trail m t l m.base) new → Leaves m new (Unify i j)
paused m new t l i j more u left safe keeps f at h o =
    let known = course_more (course f m) m.trail.kept t.kept more.grows h.on_course in
    let steady = more_steady (course f m) m.trail.kept at m.base (at_machine m) h.on_course h.steady t.kept more in
    left_resting f m.desk.next (with_trail m t l m.base) new false left safe keeps known
    (all_noted (course f m) t.kept at m.base (at_machine m) known steady t.reads.items new.waits
    (unified_reads (course f m) t.kept at m.base (at_machine m) known steady i j t.reads.items (inr u)) left.noted)
    (λ s. pause_steady (course f m) t.kept at m.base (at_machine m) known steady i j t.reads.items new.waits o u left.noted s)
