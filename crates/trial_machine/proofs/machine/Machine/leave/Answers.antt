use Rattle.std.proofs.Common.{[], ap, refl, sym, subst, ◌∙◌}
use Rattle.heap_words.specs.Trails.{WordList}
use Rattle.machine_code.specs.Fresh.{no_tops}
use Rattle.trial_laws.specs.AtHand.{AtHand}
use Rattle.trial_laws.specs.Laws.{left}
use Rattle.safe_tries.specs.Safe.{IsSafe}
use Rattle.trial_machine.specs.Machines.{words_of, at_machine}
use Rattle.trial_machine.proofs.Ways.{left_hand}
use Rattle.trial_machine.proofs.machine.Machine.leave.Goals as goal

pub returns-clause-left : goal.returns-clause-left
returns-clause-left g c = record {
  hand = left_hand c.args.self.now.desk c.leave.new.self c.args.behind c.args.self.now.trail.binds c.forget_reads.new.self.binds
      c.args.self.now.trail.reads.items c.forget_reads.new.self.reads.items c.args.self.now.waits c.note_reads.new.waits
      c.leave.ensures.becomes (c.forget_reads.ensures.binds ∙ c.undo.ensures.binds) c.forget_reads.ensures.reads;
  noted = c.in_ok-note_reads.ensures;
  kept = c.forget_reads.ensures.kept ∙ c.undo.ensures.kept;
}

pub returns-clause-safe : goal.returns-clause-safe
returns-clause-safe g c arguments opened =
    let r = left (at_machine c.args.self.now) c.args.behind c.note_reads.new.waits (words_of c.args.self.now.desk.slots.args) in
    let e = left_hand c.args.self.now.desk c.leave.new.self c.args.behind c.args.self.now.trail.binds c.forget_reads.new.self.binds
    c.args.self.now.trail.reads.items c.forget_reads.new.self.reads.items c.args.self.now.waits c.note_reads.new.waits
    c.leave.ensures.becomes (c.forget_reads.ensures.binds ∙ c.undo.ensures.binds) c.forget_reads.ensures.reads in
    subst (λ (q : AtHand). IsSafe c.forget_reads.new.self.kept q no_tops 0) (sym e)
    (subst (λ (k : WordList). IsSafe k (left (at_machine c.args.self.now) c.args.behind c.note_reads.new.waits
    (words_of c.args.self.now.desk.slots.args)) no_tops 0) (sym (c.forget_reads.ensures.kept ∙ c.undo.ensures.kept))
    (c.safe_start.ensures c.args.self.now.trail.kept c.args.words.now (words_of c.args.self.now.desk.slots.args)
    (left (at_machine c.args.self.now) c.args.behind c.note_reads.new.waits (words_of c.args.self.now.desk.slots.args))
    c.requires arguments record { pieces = refl; binds = refl; reads = refl; slots = λ i. refl; operators = λ i. refl }
    record { read = opened; apart = c.as_slice.ensures.distinct }))

pub returns-clause-keeps : goal.returns-clause-keeps
returns-clause-keeps g c = record {
  args = c.leave.ensures.keeps.args;
  count = c.leave.ensures.keeps.count;
  next = ap (λ (q : AtHand). q.next) (c.leave.ensures.becomes [] [] []);
}
