use Rattle.std.proofs.Common.{◌≡◌, ap, ◌∙◌, sym, arith}
use Rattle.heap_words.specs.Cells.{decoded}
use Rattle.heap_words.proofs.Keeps.{loaded_twice, still_says}
use Rattle.ro_unify.specs.Occurs.{count_of}
use Rattle.ro_unify.proofs.Ending.{tame_later}
use Rattle.word_texts.proofs.Steps.{count_known, tuple_parts_known}
use Rattle.word_texts.proofs.turns.tuple_head.Goals as goal

pub word-requires-clause-known : goal.word-requires-clause-known
word-requires-clause-known g c = count_known g.met.W.Words.laws _ c.args.at c.requires.sound (omega arith) c.requires.leads

pub functor-requires-clause-known : goal.functor-requires-clause-known
functor-requires-clause-known g c b lo hi =
    tuple_parts_known g.met.W.Words.laws _ c.args.at c.in_ok-word.word b c.in_ok-word.ensures.loaded.sound (omega arith)
    (g.met.W.Words.laws.stays_leading _ _ _ c.word.ensures.between c.requires.leads) c.in_ok-word.ensures.had lo
    (rw (← c.count_in-count.ensures) hi)

pub functor-requires-clause-tame : goal.functor-requires-clause-tame
functor-requires-clause-tame g c = tame_later g.met.W.Words.laws c.in_ok-word.ensures.loaded c.word.ensures.binds c.requires.tame

pub returns-clause-loaded : goal.returns-clause-loaded
returns-clause-loaded g c = loaded_twice g.met.W.Words.laws c.in_ok-word.ensures.loaded c.in_ok-name.ensures.loaded

pub returns-clause-count : goal.returns-clause-count
returns-clause-count g c m i =
    ap (λ x. count_of (decoded x))
    (still_says g.met.W.Words.laws (λ m. m c.args.at ≡ c.in_ok-word.word) c.in_ok-name.ensures.loaded c.in_ok-word.ensures.word m i)
    ∙ sym c.count_in-count.ensures

pub returns-clause-functor : goal.returns-clause-functor
returns-clause-functor g c m i = rw c.word.ensures.binds at (c.in_ok-name.ensures.functor m i)

pub returns-clause-known : goal.returns-clause-known
returns-clause-known g c b lo hi =
    g.met.W.Words.laws.stays_known _ _ b c.functor.ensures.between
    (tuple_parts_known g.met.W.Words.laws _ c.args.at c.in_ok-word.word b c.in_ok-word.ensures.loaded.sound (omega arith)
    (g.met.W.Words.laws.stays_leading _ _ _ c.word.ensures.between c.requires.leads) c.in_ok-word.ensures.had lo
    (rw (← c.count_in-count.ensures) hi))
