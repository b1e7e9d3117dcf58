use Rattle.std.proofs.Common.{[], refl}
use Rattle.word_texts.specs.Turns.{closes, closing}
use Rattle.word_texts.proofs.writing.write_item.Goals as goal

pub returns-in_ok-write_closing-in-Close-clause-turned : goal.returns-in_ok-write_closing-in-Close-clause-turned
returns-in_ok-write_closing-in-Close-clause-turned g c m i =
    rw c.in-Close.is (record {
      text = closing c.in-Close.bracket;
      first = [];
      turns = closes c.args.nodes c.in-Close.bracket;
      items = refl;
      appended = c.in_ok-write_closing-in-Close.ensures.ok;
    })
