use Rattle.std.proofs.Common.{ℕ, List, get_or, sym, subst}
use Rattle.heap_words.specs.Heaps.{inside_at}
use Rattle.run_laws.specs.Running.{IsProcessInUse}
use Rattle.commit_engine.specs.PlainLaws.{plain_words}
use Rattle.log_replay.specs.Parts.{NamesThere}
use Rattle.log_replay.proofs.Puts.{in_list, puts_none, puts_next, puts_all}
use Rattle.log_replay.proofs.ready_table.ReadyTable.put_all.Goals as goal

pub loop-process-init : goal.loop-process-init
loop-process-init c = record {
  same = plain_words.still c.args.hall.now c.requires.plain;
  plain = c.requires.plain;
  puts = puts_none (inside_at c.args.hall.now.words.items) c.args.self.now.addresses.entries;
}

pub name_at-name-requires-clause-plain : goal.name_at-name-requires-clause-plain
name_at-name-requires-clause-plain c = c.loop-process.invariant.plain

pub name_at-name-requires-clause-known : goal.name_at-name-requires-clause-known
name_at-name-requires-clause-known c =
    subst (λ (ws : List ℕ). IsProcessInUse ws (get_or c.args.processes.now c.loop-process.process-index 0))
    (sym c.loop-process.invariant.same.words)
    (c.requires.known _ (in_list c.args.processes.now c.loop-process.process-index 0 c.loop-process-test.true))

pub loop-process-preserved : goal.loop-process-preserved
loop-process-preserved c = record {
  same = plain_words.twice c.args.hall.now c.loop-process.hall c.name_at-name.new.hall c.loop-process.invariant.same
      c.name_at-name.ensures.same;
  plain = c.name_at-name.ensures.plain;
  puts = puts_next (inside_at c.args.hall.now.words.items) c.args.processes.now c.loop-process.process-index 0 c.name_at-name.result
      c.args.self.now.addresses.entries c.loop-process.self.addresses.entries c.put.new.self.addresses.entries c.loop-process-test.true
      c.loop-process.invariant.puts
      (subst (λ (ws : List ℕ). NamesThere (inside_at ws) (get_or c.args.processes.now c.loop-process.process-index 0)
      c.name_at-name.result) c.loop-process.invariant.same.words
      c.name_at-name.ensures.name)
      c.in_ok-put.ensures;
}

pub returns-clause-puts : goal.returns-clause-puts
returns-clause-puts c =
    puts_all (inside_at c.args.hall.now.words.items) c.args.processes.now c.loop-process.process-index _ _ c.loop-process-test.false
    c.loop-process.invariant.puts
