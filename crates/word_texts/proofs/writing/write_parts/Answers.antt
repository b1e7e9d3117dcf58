use Rattle.std.proofs.Common.{[], refl, sym, append-nil, codes, arith}
use Rattle.word_texts.specs.Turns.{none, more, part_items}
use Rattle.word_texts.proofs.writing.write_parts.Goals as goal

pub returns-then-count-eq0-clause-turned : goal.returns-then-count-eq0-clause-turned
returns-then-count-eq0-clause-turned g c m i names k =
    record { text = []; first = []; turns = none k c.args.at c.args.count c.if-count-eq0.true; items = refl; appended = sym (append-nil _) }

pub returns-clause-turned : goal.returns-clause-turned
returns-clause-turned g c m i names k = record {
  text = codes ",";
  first = part_items m c.args.at c.args.count;
  turns = more k c.args.at c.args.count (omega arith);
  items = c.in_ok-push_parts.ensures.items m i;
  appended = c.in_ok-push_bytes.ensures.ok;
}
