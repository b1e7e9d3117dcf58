use Rattle.std.proofs.Common.{◌∙◌, false}
use Rattle.heap_words.proofs.Keeps.{loaded_twice, still_says}
use Rattle.ro_unify.specs.Value.{Values}
use Rattle.guard_tests.proofs.evaluation.operand.Goals as goal

pub returns-clause-loaded : goal.returns-clause-loaded
returns-clause-loaded g c = loaded_twice g.met.W.Words.laws c.in_ok-look.ensures.loaded c.in_ok-given.ensures.loaded

pub returns-clause-gives : goal.returns-clause-gives
returns-clause-gives g c m i = record {
  look = c.in_ok-look.look;
  value = still_says g.met.W.Words.laws (λ m. Values c.args.trail.now.binds m false c.args.word c.in_ok-look.look)
      c.in_ok-given.ensures.loaded c.in_ok-look.ensures.value m i;
  number = c.in_ok-given.ensures.number m i;
  read = c.number.ensures.reads ∙ c.in_ok-look.ensures.reads;
}
