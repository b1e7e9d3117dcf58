use Rattle.std.proofs.Common.{◌+◌, [], refl, ◌∙◌, arith}
use Rattle.heap_words.proofs.Keeps.{loaded_none, loaded_twice}
use Rattle.entry_lines.proofs.Adding.{adds_nothing}
use Rattle.entry_lines.proofs.Agreeing.{reads_none, reads_later, loaded_cleared}
use Rattle.entry_lines.proofs.SoFar.{variables_next, all_variables}
use Rattle.entry_lines.proofs.lines.push_variable_lines.Goals as goal

pub loop-at-init : goal.loop-at-init
loop-at-init g c =
    let r = reads_none g.met.W.Words.laws _ _ c.args.words.now c.clear.ensures.kept c.clear.ensures.binds c.requires.sound
    c.requires.store in
    record {
      loaded = loaded_cleared g.met.W.Words.laws c.clear.ensures.kept c.clear.ensures.binds
          (loaded_none g.met.W.Words.laws _ _ _ c.requires.sound r.holds);
      binds = c.clear.ensures.binds;
      text = λ w book s has stands places. adds_nothing _ _ (λ n. refl);
    }

pub push_variable-requires-clause-reads : goal.push_variable-requires-clause-reads
push_variable-requires-clause-reads g c =
    reads_later g.met.W.Words.laws c.loop-at.invariant.loaded c.loop-at.invariant.binds
    (reads_none g.met.W.Words.laws [] [] c.args.words.now refl refl c.requires.sound c.requires.store)

pub push_variable-requires-clause-known : goal.push_variable-requires-clause-known
push_variable-requires-clause-known g c =
    let k = c.requires.places (c.loop-at.at + 1) (omega arith) (omega arith) in
    let b = c.loop-at.invariant.loaded.went.between in
    (g.met.W.Words.laws.stays_known _ _ _ b k.0, g.met.W.Words.laws.stays_known _ _ _ b k.1)

pub loop-at-preserved : goal.loop-at-preserved
loop-at-preserved g c = record {
  loaded = loaded_twice g.met.W.Words.laws c.loop-at.invariant.loaded c.in_ok-push_variable.ensures.loaded;
  binds = c.push_variable.ensures.binds ∙ c.loop-at.invariant.binds;
  text = variables_next _ _ c.in_ok-push_variable.ensures.loaded.went.grows c.args.names.now c.args.variables.now c.loop-at.at _ _ _ _
      c.loop-at-test.true c.loop-at.invariant.text c.in_ok-push_variable.ensures.text;
}

pub returns-clause-line : goal.returns-clause-line
returns-clause-line g c =
    all_variables _ c.args.names.now c.args.variables.now c.loop-at.at _ _ c.loop-at-test.false c.loop-at.invariant.text
