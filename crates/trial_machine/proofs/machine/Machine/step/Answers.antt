use Rattle.std.proofs.Common.{◌∙◌, ap, Some, refl, sym, subst, arith}
use Rattle.trial_machine.specs.Running.{Steps}
use Rattle.machine_code.proofs.SoundCode.{slots_at, there_at, formed_at, leads_at}
use Rattle.trial_machine.proofs.Stepping.{meets, steps_next, steps_turned, steps_opened, steps_jump, steps_commit}
use Rattle.trial_machine.proofs.machine.Machine.step.Goals as goal

pub open_pair-requires-clause-left : goal.open_pair-requires-clause-left
open_pair-requires-clause-left g c = let s = (slots_at c.args.code.now c.sound.ensures c.args.at _
    (c.requires.there ∙ ap Some c.in-GetCons.is)) in omega (arith, s.1, c.requires.slots)

pub open_pair-requires-clause-right : goal.open_pair-requires-clause-right
open_pair-requires-clause-right g c = let s = (slots_at c.args.code.now c.sound.ensures c.args.at _
    (c.requires.there ∙ ap Some c.in-GetCons.is)) in omega (arith, s.2, c.requires.slots)

pub open_tuple-requires-clause-meets : goal.open_tuple-requires-clause-meets
open_tuple-requires-clause-meets g c = meets c.args.code.now c.sound.ensures c.args.self.now c.args.at _ c.requires.on_way
    (c.requires.there ∙ ap Some c.in-GetTuple.is)

pub open_tuple-requires-clause-range : goal.open_tuple-requires-clause-range
open_tuple-requires-clause-range g c = let s = (slots_at c.args.code.now c.sound.ensures c.args.at _
    (c.requires.there ∙ ap Some c.in-GetTuple.is)) in omega (arith, s.1, c.slots-slots.ensures, c.slots-slots.auto)

pub open_tuple-requires-clause-slots : goal.open_tuple-requires-clause-slots
open_tuple-requires-clause-slots g c = let s = (slots_at c.args.code.now c.sound.ensures c.args.at _
    (c.requires.there ∙ ap Some c.in-GetTuple.is)) in omega (arith, s.1, c.requires.slots)

pub put_variable-requires : goal.put_variable-requires
put_variable-requires g c = let s = (slots_at c.args.code.now c.sound.ensures c.args.at _ (c.requires.there ∙ ap Some c.in-PutVar.is))
    in omega (arith, s, c.requires.slots)

pub put_constant-requires : goal.put_constant-requires
put_constant-requires g c = let s = (slots_at c.args.code.now c.sound.ensures c.args.at _ (c.requires.there ∙ ap Some c.in-PutWord.is))
    in omega (arith, s, c.requires.slots)

pub put_pair-requires : goal.put_pair-requires
put_pair-requires g c = let s = (slots_at c.args.code.now c.sound.ensures c.args.at _ (c.requires.there ∙ ap Some c.in-PutCons.is)) in
    omega (arith, s.0, c.requires.slots)

pub put_tuple-requires-clause-slot : goal.put_tuple-requires-clause-slot
put_tuple-requires-clause-slot g c = let s = (slots_at c.args.code.now c.sound.ensures c.args.at _
    (c.requires.there ∙ ap Some c.in-PutTuple.is)) in omega (arith, s.0, c.requires.slots)

pub put_tuple-requires-clause-range : goal.put_tuple-requires-clause-range
put_tuple-requires-clause-range g c = let s = (slots_at c.args.code.now c.sound.ensures c.args.at _
    (c.requires.there ∙ ap Some c.in-PutTuple.is)) in omega (arith, s.1, c.slots-slots.ensures, c.slots-slots.auto)

pub put_tuple-requires-clause-word : goal.put_tuple-requires-clause-word
put_tuple-requires-clause-word g c = there_at c.args.code.now c.sound.ensures c.args.at _ (c.requires.there ∙ ap Some c.in-PutTuple.is)

pub unify-requires-clause-meets : goal.unify-requires-clause-meets
unify-requires-clause-meets g c = meets c.args.code.now c.sound.ensures c.args.self.now c.args.at _ c.requires.on_way
    (c.requires.there ∙ ap Some c.in-Unify.is)

pub test-requires-clause-meets : goal.test-requires-clause-meets
test-requires-clause-meets g c = meets c.args.code.now c.sound.ensures c.args.self.now c.args.at _ c.requires.on_way
    (c.requires.there ∙ ap Some c.in-Test.is)

pub test-requires-clause-sides : goal.test-requires-clause-sides
test-requires-clause-sides g c = formed_at c.args.code.now c.sound.ensures c.args.at _ (c.requires.there ∙ ap Some c.in-Test.is)

pub otherwise-requires-clause-meets : goal.otherwise-requires-clause-meets
otherwise-requires-clause-meets g c = meets c.args.code.now c.sound.ensures c.args.self.now c.args.at _ c.requires.on_way
    (c.requires.there ∙ ap Some c.in-Otherwise.is)

pub spawn-requires : goal.spawn-requires
spawn-requires g c = let s = (slots_at c.args.code.now c.sound.ensures c.args.at _ (c.requires.there ∙ ap Some c.in-Spawn.is)) in omega
    (arith, s, c.slots-slots.ensures, c.slots-slots.auto)

pub returns-in_ok-get_first-in-GetFirst-clause-steps : goal.returns-in_ok-get_first-in-GetFirst-clause-steps
returns-in_ok-get_first-in-GetFirst-clause-steps g c = steps_next c.args.code.now c.sound.ensures c.args.self.now c.get_first.new.self
    c.args.at c.in-Some.next _ (c.requires.there ∙ ap Some c.in-GetFirst.is) c.in-Some.ensures.1
    c.in_ok-get_first-in-GetFirst.ensures.steps

pub returns-in_ok-end-in-GetCons-clause-steps : goal.returns-in_ok-end-in-GetCons-clause-steps
returns-in_ok-end-in-GetCons-clause-steps g c = subst (Steps c.args.code.now c.args.self.now c.open_pair.new.self c.args.at)
    (sym c.opened.ensures)
    (steps_opened c.args.code.now c.sound.ensures c.args.self.now c.open_pair.new.self c.args.at c.in-Some.next c.in-GetCons.put _ _
    (c.requires.there ∙ ap Some c.in-GetCons.is) c.in-Some.ensures.1
    (leads_at c.args.code.now c.sound.ensures c.args.at _ (c.requires.there ∙ ap Some c.in-GetCons.is))
    c.in_ok-end-in-GetCons.ensures.opens)

pub returns-in_ok-end-in-GetTuple-clause-steps : goal.returns-in_ok-end-in-GetTuple-clause-steps
returns-in_ok-end-in-GetTuple-clause-steps g c = subst (Steps c.args.code.now c.args.self.now c.open_tuple.new.self c.args.at)
    (sym c.opened-in-GetTuple.ensures)
    (steps_opened c.args.code.now c.sound.ensures c.args.self.now c.open_tuple.new.self c.args.at c.in-Some.next c.in-GetTuple.put _ _
    (c.requires.there ∙ ap Some c.in-GetTuple.is) c.in-Some.ensures.1
    (leads_at c.args.code.now c.sound.ensures c.args.at _ (c.requires.there ∙ ap Some c.in-GetTuple.is))
    c.in_ok-end-in-GetTuple.ensures.opens)

pub returns-in_ok-put_variable-in-PutVar-clause-steps : goal.returns-in_ok-put_variable-in-PutVar-clause-steps
returns-in_ok-put_variable-in-PutVar-clause-steps g c = steps_next c.args.code.now c.sound.ensures c.args.self.now
    c.put_variable.new.self c.args.at c.in-Some.next _ (c.requires.there ∙ ap Some c.in-PutVar.is) c.in-Some.ensures.1
    c.in_ok-put_variable-in-PutVar.ensures.steps

pub returns-in_ok-put_constant-in-PutWord-clause-steps : goal.returns-in_ok-put_constant-in-PutWord-clause-steps
returns-in_ok-put_constant-in-PutWord-clause-steps g c = steps_next c.args.code.now c.sound.ensures c.args.self.now
    c.put_constant.new.self c.args.at c.in-Some.next _ (c.requires.there ∙ ap Some c.in-PutWord.is) c.in-Some.ensures.1
    c.in_ok-put_constant-in-PutWord.ensures.steps

pub returns-in_ok-put_pair-in-PutCons-clause-steps : goal.returns-in_ok-put_pair-in-PutCons-clause-steps
returns-in_ok-put_pair-in-PutCons-clause-steps g c = steps_next c.args.code.now c.sound.ensures c.args.self.now c.put_pair.new.self
    c.args.at c.in-Some.next _ (c.requires.there ∙ ap Some c.in-PutCons.is) c.in-Some.ensures.1 c.in_ok-put_pair-in-PutCons.ensures.steps

pub returns-in_ok-put_tuple-in-PutTuple-clause-steps : goal.returns-in_ok-put_tuple-in-PutTuple-clause-steps
returns-in_ok-put_tuple-in-PutTuple-clause-steps g c = steps_next c.args.code.now c.sound.ensures c.args.self.now c.put_tuple.new.self
    c.args.at c.in-Some.next _ (c.requires.there ∙ ap Some c.in-PutTuple.is) c.in-Some.ensures.1
    c.in_ok-put_tuple-in-PutTuple.ensures.steps

pub returns-in_ok-turn-in-Unify-clause-steps : goal.returns-in_ok-turn-in-Unify-clause-steps
returns-in_ok-turn-in-Unify-clause-steps g c = subst (Steps c.args.code.now c.args.self.now c.unify.new.self c.args.at)
    (sym c.turned.ensures)
    (steps_turned c.args.code.now c.sound.ensures c.args.self.now c.unify.new.self c.args.at c.in-Some.next _ _
    (c.requires.there ∙ ap Some c.in-Unify.is) c.in-Some.ensures.1 c.in_ok-turn-in-Unify.ensures.turns)

pub returns-in_ok-turn-in-Test-clause-steps : goal.returns-in_ok-turn-in-Test-clause-steps
returns-in_ok-turn-in-Test-clause-steps g c = subst (Steps c.args.code.now c.args.self.now c.test.new.self c.args.at)
    (sym c.turned-in-Test.ensures)
    (steps_turned c.args.code.now c.sound.ensures c.args.self.now c.test.new.self c.args.at c.in-Some.next _ _
    (c.requires.there ∙ ap Some c.in-Test.is) c.in-Some.ensures.1 c.in_ok-turn-in-Test.ensures.turns)

pub returns-in_ok-turn-in-Otherwise-clause-steps : goal.returns-in_ok-turn-in-Otherwise-clause-steps
returns-in_ok-turn-in-Otherwise-clause-steps g c = subst (Steps c.args.code.now c.args.self.now c.otherwise.new.self c.args.at)
    (sym c.turned-in-Otherwise.ensures)
    (steps_turned c.args.code.now c.sound.ensures c.args.self.now c.otherwise.new.self c.args.at c.in-Some.next _ _
    (c.requires.there ∙ ap Some c.in-Otherwise.is) c.in-Some.ensures.1 c.in_ok-turn-in-Otherwise.ensures.turns)

pub returns-in_ok-spawn-in-Spawn-clause-steps : goal.returns-in_ok-spawn-in-Spawn-clause-steps
returns-in_ok-spawn-in-Spawn-clause-steps g c = steps_next c.args.code.now c.sound.ensures c.args.self.now c.spawn.new.self c.args.at
    c.in-Some.next _ (c.requires.there ∙ ap Some c.in-Spawn.is) c.in-Some.ensures.1 c.in_ok-spawn-in-Spawn.ensures.steps

pub returns-in-Jump-clause-steps : goal.returns-in-Jump-clause-steps
returns-in-Jump-clause-steps g c = steps_jump c.args.code.now c.sound.ensures c.args.self.now c.args.at c.in-Jump.to _
    (c.requires.there ∙ ap Some c.in-Jump.is) refl (leads_at c.args.code.now c.sound.ensures c.args.at _
    (c.requires.there ∙ ap Some c.in-Jump.is))

pub returns-in-Commit-clause-steps : goal.returns-in-Commit-clause-steps
returns-in-Commit-clause-steps g c = steps_commit c.args.code.now c.sound.ensures c.args.self.now c.args.at _
    (c.requires.there ∙ ap Some c.in-Commit.is) refl
