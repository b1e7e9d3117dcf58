use Rattle.std.proofs.lemmas.Grind.{common_steps}
use Rattle.std.proofs.Common.{◌≡◌, ◌++◌, ◌∷◌, [], subst, ◌<◌, ◌+◌, ◌/◌, ◌∙◌, sym, ap, refl, length, arith, List, ℕ}
use Rattle.heap_words.specs.Heaps.{IsHeap}
use Rattle.page_layout.specs.declared.written.Written.{Written}
use Rattle.page_layout.specs.Writing.{written}
use Rattle.page_layout.proofs.Applied.{length_same}
use Rattle.word_states.specs.Writing.{applied}
use Rattle.commit_engine.specs.Halls.{writes_of}
use Rattle.commit_engine.specs.PlainHalls.{holds_of}
use Rattle.commit_engine.proofs.Stamping.{stamp_heap, stamp_reads, stamp_may}
use Rattle.commit_engine.proofs.plain_hall.PlainHallHall.stamp.Goals as goal

pub returns-clause-sound : goal.returns-clause-sound
returns-clause-sound c =
    let g = c.args.self.now in
    let e = c.args.entry in
    let n = c.len.result + 1 in
    let same : c.write_all.new.words.items ≡ applied g.words.items (writes_of e n) =
    c.write_all.ensures ∙ ap (λ (xs : List Written). applied g.words.items (written n xs)) c.deref.ensures.value in
    let a = c.len.ensures in
    let b = g.log.ok.0 in
    let d = c.requires.sound.few in
    let f = c.requires.room in
    let h = c.push.ensures.upper_bound in
    let i = c.push.new.self.ok.0 in
    let j = c.push.ensures.capacity in
    let k = c.requires.sound.room in
    let small : n < 0x8000001 = omega arith in
    record {
      heap = subst IsHeap (sym same) (stamp_heap (holds_of g) (λ a x. Unit {0}) g.words.items e c.requires.may n c.requires.sound.heap small);
      locks = c.requires.sound.locks ∙ sym (length_same g.words.items (writes_of e n)) ∙ ap length (sym same);
      room = omega arith;
      few = omega arith;
    }

pub returns-clause-rest : goal.returns-clause-rest
returns-clause-rest c =
    let g = c.args.self.now in
    let e = c.args.entry in
    let n = c.len.result + 1 in
    let same : c.write_all.new.words.items ≡ applied g.words.items (writes_of e n) =
    c.write_all.ensures ∙ ap (λ (xs : List Written). applied g.words.items (written n xs)) c.deref.ensures.value in
    (ap (λ (m : ℕ). m / 1024) (ap length same ∙ length_same g.words.items (writes_of e n)), refl)

pub returns-clause-added : goal.returns-clause-added
returns-clause-added c =
    let g = c.args.self.now in
    let e = c.args.entry in
    let n = c.len.result + 1 in
    let same : c.write_all.new.words.items ≡ applied g.words.items (writes_of e n) =
    c.write_all.ensures ∙ ap (λ (xs : List Written). applied g.words.items (written n xs)) c.deref.ensures.value in
    let a = c.len.ensures in
    let b = g.log.ok.0 in
    let d = c.requires.sound.few in
    let f = c.requires.room in
    let small : n < 0x8000001 = omega arith in
    let log : c.push.new.self.items ≡ g.log.items ++ e.entry ∷ [] = grind (arith, common_steps) in
    record {
      number = omega arith;
      log = log;
      reads = stamp_reads (holds_of g) (λ a x. Unit {0}) g.words.items e c.requires.may;
      may = stamp_may (holds_of g) (λ a x. Unit {0}) g.words.items e c.requires.may n c.requires.sound.heap small;
      words = same;
    }
