use Rattle.std.proofs.Common.{◌≡◌, ◌+◌, ℕ, sym, refl, subst, inl, inr, ⊎_elim, false, arith}
use Rattle.heap_words.proofs.Keeps.{loaded_twice, still_says}
use Rattle.ro_unify.specs.Value.{Values}
use Rattle.ro_unify.proofs.Ending.{tame_later}
use Rattle.word_texts.specs.Turns.{few, first}
use Rattle.word_texts.proofs.turns.functor.Goals as goal

pub deref-requires-clause-tame : goal.deref-requires-clause-tame
deref-requires-clause-tame g c = tame_later g.met.W.Words.laws c.in_ok-first.ensures.loaded c.word.ensures.binds c.requires.tame

pub returns-clause-loaded : goal.returns-clause-loaded
returns-clause-loaded g c = loaded_twice g.met.W.Words.laws c.in_ok-first.ensures.loaded c.in_ok-look.ensures.loaded

pub returns-clause-functor : goal.returns-clause-functor
returns-clause-functor g c m i =
    let word =
    still_says g.met.W.Words.laws (λ m. m (c.args.at + 1) ≡ c.in_ok-first.first) c.in_ok-look.ensures.loaded
    c.in_ok-first.ensures.word m i in
    let value = rw c.word.ensures.binds at (c.in_ok-look.ensures.value m i) in
    first c.in_ok-look.look (omega arith) (omega arith)
    (subst (λ (x : ℕ). Values c.args.trail.now.binds m false x c.in_ok-look.look) (sym word) value) (sym c.string_at.ensures)

pub returns-then-left-eq0-clause-functor : goal.returns-then-left-eq0-clause-functor
returns-then-left-eq0-clause-functor g c m i = few (⊎_elim (λ h. inl h) (λ h. inr h.1) c.then-left-eq0.either) refl
