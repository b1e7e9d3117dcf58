use Rattle.std.proofs.Common.{ℕ, subst}
use Rattle.heap_words.proofs.Keeps.{loaded_twice}
use Rattle.word_states.specs.Denoting.{Denotes}
use Rattle.entry_lines.proofs.Agreeing.{reads_later}
use Rattle.process_texts.proofs.Cells.{had_before}
use Rattle.process_texts.proofs.reading.push_argument.Goals as goal

pub push_value-requires-clause-reads : goal.push_value-requires-clause-reads
push_value-requires-clause-reads g c =
    reads_later g.met.W.Words.laws c.in_ok-word.ensures.loaded c.word_at.ensures.binds c.requires.reads

pub returns-clause-loaded : goal.returns-clause-loaded
returns-clause-loaded g c = loaded_twice g.met.W.Words.laws c.in_ok-word.ensures.loaded c.in_ok-push_value.ensures.loaded

pub returns-clause-text : goal.returns-clause-text
returns-clause-text g c u vs bound has says x t e d =
    let same = c.in_ok-word.ensures.word u x (had_before u c.in_ok-push_value.ensures.loaded has) e in
    c.in_ok-push_value.ensures.text u vs bound has says t (subst (λ (z : ℕ). Denotes u vs z t) same d)
