use Rattle.heap_words.proofs.Keeps.{loaded_twice}
use Rattle.entry_lines.proofs.Agreeing.{reads_later}
use Rattle.entry_lines.proofs.Adding.{bound_added}
use Rattle.entry_lines.proofs.commits.push_bound.Goals as goal

pub push_value-requires-clause-reads : goal.push_value-requires-clause-reads
push_value-requires-clause-reads g c =
    reads_later g.met.W.Words.laws c.in_ok-name.ensures.loaded c.place_name.ensures.binds c.requires.reads

pub returns-clause-loaded : goal.returns-clause-loaded
returns-clause-loaded g c = loaded_twice g.met.W.Words.laws c.in_ok-name.ensures.loaded c.in_ok-push_value.ensures.loaded

pub returns-clause-text : goal.returns-clause-text
returns-clause-text g c w book s has stands j at =
    let up = c.in_ok-push_value.ensures.loaded.went.grows in
    bound_added c.args.names.now s.bound c.in_ok-name.name j _ _ _ _ _
    (c.in_ok-name.ensures.name w book s (λ a x e. has a x (up a x e)) stands j at) c.in_ok-push_bytes.ensures.ok c.in_ok-push_place.ensures
    c.in_ok-push_bytes-2.ensures.ok (c.in_ok-push_value.ensures.text w book s has stands j at)
