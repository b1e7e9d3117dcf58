use Rattle.std.proofs.Common.{◌∙◌}
use Rattle.heap_words.proofs.Keeps.{loaded_twice}
use Rattle.entry_lines.proofs.Agreeing.{reads_later}
use Rattle.process_texts.proofs.ArgumentTexts.{more_next, more_all}
use Rattle.process_texts.proofs.arguments.push_more.Goals as goal

pub push_argument-requires-clause-reads : goal.push_argument-requires-clause-reads
push_argument-requires-clause-reads g c =
    reads_later g.met.W.Words.laws c.loop-at.invariant.loaded c.loop-at.invariant.binds c.requires.reads

pub loop-at-preserved : goal.loop-at-preserved
loop-at-preserved g c = record {
  loaded = loaded_twice g.met.W.Words.laws c.loop-at.invariant.loaded c.in_ok-push_argument.ensures.loaded;
  binds = c.push_argument.ensures.binds ∙ c.loop-at.invariant.binds;
  text = more_next _ _ c.in_ok-push_argument.ensures.loaded.went.grows c.args.names.now c.args.first c.args.count c.loop-at.at _ _ _ _
      c.loop-at-test.true c.loop-at.invariant.text c.in_ok-push_bytes.ensures.ok c.in_ok-push_argument.ensures.text;
}

pub returns-clause-text : goal.returns-clause-text
returns-clause-text g c =
    more_all _ c.args.names.now c.args.first c.args.count c.loop-at.at _ _ c.loop-at-test.false c.loop-at.invariant.text
