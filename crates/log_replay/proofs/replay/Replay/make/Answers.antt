use Rattle.std.proofs.Common.{List, ℕ, []}
use Rattle.std.proofs.Common.{refl, sym, ap, ◌∙◌, subst, arith}
use Rattle.heap_words.specs.Heaps.{inside_at}
use Rattle.word_states.specs.Words.{IsIn}
use Rattle.ready_lists.specs.Ready.{AreReady}
use Rattle.run_laws.specs.Running.{IsProcessInUse}
use Rattle.log_replay.specs.Tables.{Table, PutsAll}
use Rattle.log_replay.proofs.FirstReplays.{IsBeginning, first_known, first_replay, rest_same}
use Rattle.log_replay.proofs.replay.Replay.make.Goals as goal

pub put_all-requires-clause-known : goal.put_all-requires-clause-known
put_all-requires-clause-known c =
    let m = c.requires.laid.0 in
    let ws = c.in_ok-words.words.items in
    let qs = c.in_ok-processes.processes.items in
    let l = c.in_ok-words.ensures m c.requires.laid.1 in
    let b : IsBeginning m c.args.goal.now.0 ws qs = record {
      first = l.0;
      before = l.1;
      laid = l.2;
      found = subst (λ (xs : List ℕ). AreReady xs qs) c.as_slice.ensures.value c.in_ok-processes.ensures;
      law = c.states.ensures;
    } in
    λ q i.
    subst (λ (xs : List ℕ). IsProcessInUse xs q) (sym c.in_ok-hall.ensures.words)
    (first_known m c.args.goal.now.0 ws qs b q (subst (λ (xs : List ℕ). IsIn q xs) c.as_slice-first.ensures.value i))

pub returns-clause-replayed : goal.returns-clause-replayed
returns-clause-replayed c = λ m may.
    let ws = c.in_ok-words.words.items in
    let qs = c.in_ok-processes.processes.items in
    let l = c.in_ok-words.ensures m may in
    let b : IsBeginning m c.args.goal.now.0 ws qs = record {
      first = l.0;
      before = l.1;
      laid = l.2;
      found = subst (λ (xs : List ℕ). AreReady xs qs) c.as_slice.ensures.value c.in_ok-processes.ensures;
      law = c.states.ensures;
    } in
    let same = c.put_all.ensures.same in
    let quota = same.quota ∙ c.in_ok-hall.ensures.quota in
    let spare = same.spare ∙ c.in_ok-hall.ensures.spare in
    first_replay m c.args.goal.now.0 ws qs b c.args.cells _ (same.words ∙ c.in_ok-hall.ensures.words)
    (subst (λ (xs : List ℕ). PutsAll (inside_at xs) qs [] c.put_all.new.self.addresses.entries) c.in_ok-hall.ensures.words
    (subst (λ (xs : List ℕ). PutsAll (inside_at c.in_ok-hall.hall.words.items) xs [] c.put_all.new.self.addresses.entries)
    c.as_slice-first.ensures.value
    (subst (λ (t : Table). PutsAll (inside_at c.in_ok-hall.hall.words.items) c.as_slice-first.result.now t
    c.put_all.new.self.addresses.entries) c.make-ready.ensures c.in_ok-put_all.ensures.puts)))
    (rest_same c.in_ok-hall.hall c.put_all.new.hall same c.put_all.ensures.plain c.in_ok-hall.ensures.free c.in_ok-hall.ensures.idle)
    refl refl (same.log ∙ c.in_ok-hall.ensures.log)
    (let a = ap (λ q. q.commits) quota in omega arith) (let a = ap (λ q. q.moves) quota in omega arith) (ap (λ q. q.cells) quota)
