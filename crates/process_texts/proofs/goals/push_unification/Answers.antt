use Rattle.heap_words.proofs.Keeps.{loaded_twice}
use Rattle.entry_lines.proofs.Agreeing.{reads_later}
use Rattle.process_texts.proofs.GoalTexts.{pair_added}
use Rattle.process_texts.proofs.goals.push_unification.Goals as goal

pub push_argument-requires-2-clause-reads : goal.push_argument-requires-2-clause-reads
push_argument-requires-2-clause-reads g c =
    reads_later g.met.W.Words.laws c.in_ok-push_argument.ensures.loaded c.push_argument.ensures.binds c.requires.reads

pub returns-clause-loaded : goal.returns-clause-loaded
returns-clause-loaded g c = loaded_twice g.met.W.Words.laws c.in_ok-push_argument.ensures.loaded c.in_ok-push_argument-2.ensures.loaded

pub returns-clause-text : goal.returns-clause-text
returns-clause-text g c =
    pair_added _ _ c.in_ok-push_argument-2.ensures.loaded.went.grows c.args.names.now c.args.first _ _ _ _
    c.in_ok-push_argument.ensures.text c.in_ok-push_bytes.ensures.ok c.in_ok-push_argument-2.ensures.text
