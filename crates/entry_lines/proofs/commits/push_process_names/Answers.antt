use Rattle.std.proofs.Common.{◌∙◌, refl, sym, append-nil}
use Rattle.heap_words.proofs.Keeps.{loaded_none, loaded_twice}
use Rattle.entry_lines.proofs.Agreeing.{reads_later}
use Rattle.entry_lines.proofs.LinesOfEntries.{in_list}
use Rattle.entry_lines.proofs.SoFar.{processes_next, all_processes}
use Rattle.entry_lines.proofs.commits.push_process_names.Goals as goal

pub loop-process-init : goal.loop-process-init
loop-process-init g c = record {
  loaded = loaded_none g.met.W.Words.laws _ _ _ c.requires.reads.sound c.requires.reads.holds;
  binds = refl;
  text = λ w book s has stands ys z. sym (append-nil _);
}

pub process_name-requires-clause-reads : goal.process_name-requires-clause-reads
process_name-requires-clause-reads g c =
    reads_later g.met.W.Words.laws c.loop-process.invariant.loaded c.loop-process.invariant.binds c.requires.reads

pub process_name-requires-clause-known : goal.process_name-requires-clause-known
process_name-requires-clause-known g c =
    let k = c.requires.known _ (in_list c.args.processes.now c.loop-process.process-index 0 c.loop-process-test.true) in
    (k.0, g.met.W.Words.laws.stays_known _ _ _ c.loop-process.invariant.loaded.went.between k.1)

pub loop-process-preserved : goal.loop-process-preserved
loop-process-preserved g c = record {
  loaded = loaded_twice g.met.W.Words.laws c.loop-process.invariant.loaded c.in_ok-name.ensures.loaded;
  binds = c.process_name.ensures.binds ∙ c.loop-process.invariant.binds;
  text = processes_next _ _ c.in_ok-name.ensures.loaded.went.grows c.args.processes.now c.loop-process.process-index 0
      c.in_ok-name.name _ _ _ _ c.loop-process-test.true c.loop-process.invariant.text c.in_ok-name.ensures.name c.in_ok-push_bytes.ensures.ok
      c.in_ok-push_process.ensures;
}

pub returns-clause-text : goal.returns-clause-text
returns-clause-text g c =
    all_processes _ c.args.processes.now c.loop-process.process-index _ _ c.loop-process-test.false c.loop-process.invariant.text
