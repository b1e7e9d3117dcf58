use Rattle.heap_words.proofs.Keeps.{loaded_twice}
use Rattle.entry_lines.proofs.Agreeing.{reads_later}
use Rattle.process_texts.proofs.GoalTexts.{assigned_added}
use Rattle.process_texts.proofs.goals.push_assignment.Goals as goal

pub push_expression-requires-clause-reads : goal.push_expression-requires-clause-reads
push_expression-requires-clause-reads g c =
    reads_later g.met.W.Words.laws c.in_ok-push_argument.ensures.loaded c.push_argument.ensures.binds c.requires.reads

pub returns-clause-loaded : goal.returns-clause-loaded
returns-clause-loaded g c = loaded_twice g.met.W.Words.laws c.in_ok-push_argument.ensures.loaded c.in_ok-push_expression.ensures.loaded

pub returns-clause-text : goal.returns-clause-text
returns-clause-text g c =
    assigned_added _ _ c.in_ok-push_expression.ensures.loaded.went.grows c.args.names.now c.args.first _ _ _ _
    c.in_ok-push_argument.ensures.text c.in_ok-push_bytes.ensures.ok c.in_ok-push_expression.ensures.text
