use Rattle.std.proofs.Common.{◌≡◌}
use Rattle.heap_words.proofs.Keeps.{loaded_twice, still_says}
use Rattle.ro_unify.specs.Occurs.{stack}
use Rattle.word_texts.specs.Turns.{Functor, count_at}
use Rattle.word_texts.proofs.Steps.{items_stay, round_opened, curly_opened}
use Rattle.word_texts.proofs.turns.write_tuple.Goals as goal

pub returns-in_ok-write_round-in-Some-clause-loaded : goal.returns-in_ok-write_round-in-Some-clause-loaded
returns-in_ok-write_round-in-Some-clause-loaded g c =
    loaded_twice g.met.W.Words.laws c.in_ok-head.ensures.loaded c.in_ok-write_round-in-Some.ensures.loaded

pub returns-in_ok-write_round-in-Some-clause-opened : goal.returns-in_ok-write_round-in-Some-clause-opened
returns-in_ok-write_round-in-Some-clause-opened g c m i =
    round_opened c.args.left c.args.at c.in_ok-head.head.0 c.in_ok-head.head.1 c.in-Some.name _ _ _ _
    (still_says g.met.W.Words.laws (λ m. count_at m c.args.at ≡ c.in_ok-head.head.0) c.in_ok-write_round-in-Some.ensures.loaded
    c.in_ok-head.ensures.count m i)
    (still_says g.met.W.Words.laws (λ m. Functor c.args.trail.now.binds m c.args.left c.in_ok-head.head.0 c.args.at c.in_ok-head.head.1)
    c.in_ok-write_round-in-Some.ensures.loaded c.in_ok-head.ensures.functor m i)
    c.in-Some.is c.in_ok-write_round-in-Some.ensures.text (c.in_ok-write_round-in-Some.ensures.items m i)

pub returns-in_ok-write_round-in-Some-clause-leads : goal.returns-in_ok-write_round-in-Some-clause-leads
returns-in_ok-write_round-in-Some-clause-leads g c h =
    c.in_ok-write_round-in-Some.ensures.leads
    (items_stay g.met.W.Words.laws _ _ (stack c.args.lists.now.items.items) c.tuple_head.ensures.between h)

pub returns-in_ok-write_curly-in-None-clause-loaded : goal.returns-in_ok-write_curly-in-None-clause-loaded
returns-in_ok-write_curly-in-None-clause-loaded g c =
    loaded_twice g.met.W.Words.laws c.in_ok-head.ensures.loaded c.in_ok-write_curly-in-None.ensures.loaded

pub returns-in_ok-write_curly-in-None-clause-opened : goal.returns-in_ok-write_curly-in-None-clause-opened
returns-in_ok-write_curly-in-None-clause-opened g c m i =
    curly_opened c.args.left c.args.at c.in_ok-head.head.0 c.in_ok-head.head.1 _ _ _ _
    (still_says g.met.W.Words.laws (λ m. count_at m c.args.at ≡ c.in_ok-head.head.0) c.in_ok-write_curly-in-None.ensures.loaded
    c.in_ok-head.ensures.count m i)
    (still_says g.met.W.Words.laws (λ m. Functor c.args.trail.now.binds m c.args.left c.in_ok-head.head.0 c.args.at c.in_ok-head.head.1)
    c.in_ok-write_curly-in-None.ensures.loaded c.in_ok-head.ensures.functor m i)
    c.in-None.is c.in_ok-write_curly-in-None.ensures.text (c.in_ok-write_curly-in-None.ensures.items m i)

pub returns-in_ok-write_curly-in-None-clause-leads : goal.returns-in_ok-write_curly-in-None-clause-leads
returns-in_ok-write_curly-in-None-clause-leads g c h =
    c.in_ok-write_curly-in-None.ensures.leads
    (items_stay g.met.W.Words.laws _ _ (stack c.args.lists.now.items.items) c.tuple_head.ensures.between h)
