use Rattle.std.proofs.Common.{◌∙◌, false}
use Rattle.heap_words.proofs.Keeps.{loaded_twice, loaded_same, still_says}
use Rattle.ro_unify.specs.Value.{Values}
use Rattle.ro_unify.proofs.Ending.{tame_later}
use Rattle.ro_unify.proofs.unification.two_values.Goals as goal

pub returns-clause-loaded : goal.returns-clause-loaded
returns-clause-loaded g c =
    loaded_same g.met.W.Words.laws (loaded_twice g.met.W.Words.laws c.in_ok-one.ensures.loaded c.in_ok-two.ensures.loaded)
    (c.note_look-2.ensures.kept ∙ c.note_look.ensures.kept) (c.note_look-2.ensures.binds ∙ c.note_look.ensures.binds)

pub returns-clause-left : goal.returns-clause-left
returns-clause-left g c m i =
    still_says g.met.W.Words.laws
    (λ m. Values c.args.trail.now.binds m false c.args.left c.in_ok-one.one) c.in_ok-two.ensures.loaded c.in_ok-one.ensures.value m
    (rw (c.note_look-2.ensures.kept ∙ c.note_look.ensures.kept) at i)

pub deref-requires-2-clause-tame : goal.deref-requires-2-clause-tame
deref-requires-2-clause-tame g c = tame_later g.met.W.Words.laws c.in_ok-one.ensures.loaded c.deref.ensures.binds c.requires.tame
