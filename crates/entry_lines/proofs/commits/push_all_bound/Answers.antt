use Rattle.std.proofs.Common.{◌∙◌, refl}
use Rattle.heap_words.proofs.Keeps.{loaded_none, loaded_twice}
use Rattle.entry_lines.proofs.Adding.{adds_nothing}
use Rattle.entry_lines.proofs.Agreeing.{reads_later}
use Rattle.entry_lines.proofs.LinesOfEntries.{in_list}
use Rattle.entry_lines.proofs.SoFar.{bound_next, all_bound}
use Rattle.entry_lines.proofs.commits.push_all_bound.Goals as goal

pub loop-place-init : goal.loop-place-init
loop-place-init g c = record {
  loaded = loaded_none g.met.W.Words.laws _ _ _ c.requires.reads.sound c.requires.reads.holds;
  binds = refl;
  text = λ w book s has stands js z. adds_nothing _ _ (λ n. refl);
}

pub push_bound-requires-clause-reads : goal.push_bound-requires-clause-reads
push_bound-requires-clause-reads g c =
    reads_later g.met.W.Words.laws c.loop-place.invariant.loaded c.loop-place.invariant.binds c.requires.reads

pub push_bound-requires-clause-known : goal.push_bound-requires-clause-known
push_bound-requires-clause-known g c =
    let k = c.requires.known _ (in_list c.args.places.now c.loop-place.place-index 0 c.loop-place-test.true) in
    let b = c.loop-place.invariant.loaded.went.between in
    (k.0, g.met.W.Words.laws.stays_known _ _ _ b k.1, g.met.W.Words.laws.stays_known _ _ _ b k.2)

pub loop-place-preserved : goal.loop-place-preserved
loop-place-preserved g c = record {
  loaded = loaded_twice g.met.W.Words.laws c.loop-place.invariant.loaded c.in_ok-push_bound.ensures.loaded;
  binds = c.push_bound.ensures.binds ∙ c.loop-place.invariant.binds;
  text = bound_next _ _ c.in_ok-push_bound.ensures.loaded.went.grows c.args.names.now c.args.places.now c.loop-place.place-index 0 _ _ _
      c.loop-place-test.true c.loop-place.invariant.text c.in_ok-push_bound.ensures.text;
}

pub returns-clause-text : goal.returns-clause-text
returns-clause-text g c =
    all_bound _ c.args.names.now c.args.places.now c.loop-place.place-index _ _ c.loop-place-test.false c.loop-place.invariant.text
