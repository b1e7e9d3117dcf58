use Rattle.heap_words.proofs.Keeps.{loaded_twice}
use Rattle.entry_lines.proofs.Agreeing.{reads_later}
use Rattle.process_texts.proofs.ArgumentTexts.{some_more, arguments_added}
use Rattle.process_texts.proofs.arguments.push_arguments.Goals as goal

pub push_more-requires-clause-reads : goal.push_more-requires-clause-reads
push_more-requires-clause-reads g c =
    reads_later g.met.W.Words.laws c.in_ok-push_argument.ensures.loaded c.push_argument.ensures.binds c.requires.reads

pub returns-clause-loaded : goal.returns-clause-loaded
returns-clause-loaded g c = loaded_twice g.met.W.Words.laws c.in_ok-push_argument.ensures.loaded c.in_ok-push_more.ensures.loaded

pub returns-clause-text : goal.returns-clause-text
returns-clause-text g c =
    arguments_added _ _ c.in_ok-push_more.ensures.loaded.went.grows c.args.names.now c.args.first c.args.count _ _ _ _ _
    (some_more c.args.count c.if-count-eq0.false) c.in_ok-push_bytes.ensures.ok c.in_ok-push_argument.ensures.text
    c.in_ok-push_more.ensures.text c.in_ok-push_bytes-2.ensures.ok
