use Rattle.std.proofs.Common.{◌<◌, ◌≤◌, length, arith}
use Rattle.heap_words.specs.HeapLaws.{inside_below}
use Rattle.trial_rows.proofs.turning.TurningWords.load.Goals as goal

pub returns-clause-own : goal.returns-clause-own
returns-clause-own c = λ h.
    let there : c.args.addr < length c.args.self.now.words.items = inside_below c.args.self.now.words.items c.args.addr c.requires.known in
    let small : length c.args.self.now.words.items ≤ 4000000000 = c.requires.sound.heap.small in
    absurd (omega arith)
