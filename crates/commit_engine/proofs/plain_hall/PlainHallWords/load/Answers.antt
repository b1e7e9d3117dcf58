use Rattle.std.proofs.Common.{◌<◌, ◌≤◌, length, refl, arith, rules}
use Rattle.std.proofs.lemmas.Option.{slice_get_read}
use Rattle.heap_words.specs.HeapLaws.{inside_below, inside_is}
use Rattle.commit_engine.proofs.plain_hall.PlainHallWords.load.Goals as goal

pub index-requires : goal.index-requires
index-requires c =
    let there : c.args.addr < length c.args.self.now.words.items = inside_below c.args.self.now.words.items c.args.addr c.requires.known in
    search rules

pub returns-clause-gave : goal.returns-clause-gave
returns-clause-gave c =
    let ws = c.args.self.now.words.items in
    let there =
    slice_get_read ws (length ws) c.args.addr c.index.result.now refl (inside_below ws c.args.addr c.requires.known) c.index.ensures in (
      record { words = refl; log = refl; held = refl; due = refl; quota = refl; spare = refl; cap = refl },
      inside_is ws c.args.addr c.index.result.now c.requires.known there,
    )

pub returns-clause-once : goal.returns-clause-once
returns-clause-once c =
    let ws = c.args.self.now.words.items in
    let there =
    slice_get_read ws (length ws) c.args.addr c.index.result.now refl (inside_below ws c.args.addr c.requires.known) c.index.ensures in (
      record { words = refl; log = refl; held = refl; due = refl; quota = refl; spare = refl; cap = refl },
      inside_is ws c.args.addr c.index.result.now c.requires.known there,
    )

pub returns-clause-own : goal.returns-clause-own
returns-clause-own c = λ h.
    let there : c.args.addr < length c.args.self.now.words.items = inside_below c.args.self.now.words.items c.args.addr c.requires.known in
    let small : length c.args.self.now.words.items ≤ 4000000000 = c.requires.sound.heap.small in
    absurd (omega arith)
