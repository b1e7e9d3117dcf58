use Rattle.std.proofs.Common.{◌≡◌}
use Rattle.heap_words.proofs.Keeps.{loaded_twice, still_says}
use Rattle.ro_unify.proofs.alike.both.Goals as goal

pub returns-clause-loaded : goal.returns-clause-loaded
returns-clause-loaded g c = loaded_twice g.met.W.Words.laws c.in_ok-one.ensures.loaded c.in_ok-two.ensures.loaded

pub returns-clause-one : goal.returns-clause-one
returns-clause-one g c m i =
    still_says g.met.W.Words.laws (λ m. m c.args.at ≡ c.in_ok-one.one) c.in_ok-two.ensures.loaded c.in_ok-one.ensures.word m i

pub returns-clause-had : goal.returns-clause-had
returns-clause-had g c = (g.met.W.Words.laws.stays_had _ _ _ _ c.word-2.ensures.between c.in_ok-one.ensures.had, c.in_ok-two.ensures.had)
