use Rattle.std.proofs.Common.{◌≡◌, length, drop}
use Rattle.word_states.specs.Writing.{applied}
use Rattle.page_layout.specs.Writing.{written}
use Rattle.commit_engine.proofs.plain_hall.write_all.Given as goal

-- the writes that are left lead to the same words as all of them do over the first ones
abbrev pub invariant-loop-at : goal.invariant-loop-at
invariant-loop-at l = record {
  left : applied l.words.items (written l.number (drop l.at l.writes)) ≡ applied l.initial.words.items (written l.number l.writes);
  size : length l.words.items ≡ length l.initial.words.items;
}
