use Rattle.heap_words.proofs.Keeps.{loaded_twice}
use Rattle.entry_lines.proofs.Agreeing.{reads_none, reads_later, loaded_cleared}
use Rattle.entry_lines.proofs.LinesOfEntries.{commit_adds}
use Rattle.entry_lines.proofs.lines.push_commit_line.Goals as goal

pub push_all_bound-requires-clause-reads : goal.push_all_bound-requires-clause-reads
push_all_bound-requires-clause-reads g c =
    reads_none g.met.W.Words.laws _ _ c.args.words.now c.clear.ensures.kept c.clear.ensures.binds c.requires.sound c.requires.store

pub push_woken-requires-clause-reads : goal.push_woken-requires-clause-reads
push_woken-requires-clause-reads g c =
    reads_later g.met.W.Words.laws c.in_ok-push_all_bound.ensures.loaded c.push_all_bound.ensures.binds
    (reads_none g.met.W.Words.laws _ _ c.args.words.now c.clear.ensures.kept c.clear.ensures.binds c.requires.sound c.requires.store)

pub push_woken-requires-clause-known : goal.push_woken-requires-clause-known
push_woken-requires-clause-known g c q i =
    let k = c.requires.processes q i in
    (k.0, g.met.W.Words.laws.stays_known _ _ _ c.push_all_bound.ensures.between k.1)

pub returns-clause-loaded : goal.returns-clause-loaded
returns-clause-loaded g c =
    loaded_cleared g.met.W.Words.laws c.clear.ensures.kept c.clear.ensures.binds
    (loaded_twice g.met.W.Words.laws c.in_ok-push_all_bound.ensures.loaded c.in_ok-push_woken.ensures.loaded)

pub returns-clause-line : goal.returns-clause-line
returns-clause-line g c =
    commit_adds c.args.names.now _ _ c.args.entry c.args.process c.args.clause c.args.bound.now c.args.woken.now _ _ _ _ _ _ _ _ _
    c.in_ok-push_woken.ensures.loaded.went.grows c.in_ok-push_decimal.ensures.ok c.in_ok-push_bytes.ensures.ok
    c.in_ok-push_process.ensures c.in_ok-push_bytes-2.ensures.ok c.in_ok-push_decimal-2.ensures.ok c.in_ok-push_all_bound.ensures.text
    c.in_ok-push_woken.ensures.text c.in_ok-push_bytes-3.ensures.ok
