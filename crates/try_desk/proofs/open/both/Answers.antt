use Rattle.std.proofs.Common.{◌≡◌}
use Rattle.heap_words.proofs.Keeps.{loaded_twice, still_says}
use Rattle.ro_unify.proofs.Seeing.{is_seen_on, said_seen}
use Rattle.try_desk.proofs.open.both.Goals as goal

pub returns-clause-loaded : goal.returns-clause-loaded
returns-clause-loaded g c = loaded_twice g.met.W.Words.laws c.in_ok-one.ensures.loaded c.in_ok-two.ensures.loaded

pub returns-clause-one : goal.returns-clause-one
returns-clause-one g c =
    still_says g.met.W.Words.laws (λ m. m c.args.at ≡ c.in_ok-one.one) c.in_ok-two.ensures.loaded c.in_ok-one.ensures.word

pub returns-clause-seen : goal.returns-clause-seen
returns-clause-seen g c = (
  is_seen_on g.met.W.Words.laws c.in_ok-two.ensures.loaded c.args.at
      (said_seen g.met.W.Words.laws c.args.at c.in_ok-one.one c.in_ok-one.ensures.loaded.holds c.in_ok-one.ensures.word),
  said_seen g.met.W.Words.laws c.args.to c.in_ok-two.two c.in_ok-two.ensures.loaded.holds c.in_ok-two.ensures.word,
)
