use Rattle.std.proofs.Common.{◌+◌, ◌∙◌, ℕ, false, refl, sym, subst, inl, inr, arith}
use Rattle.heap_words.proofs.Keeps.{loaded_twice, still_says}
use Rattle.ro_unify.specs.Value.{Values}
use Rattle.ro_unify.proofs.Ending.{tame_later}
use Rattle.ro_unify.proofs.Leads.{pair_known}
use Rattle.try_desk.specs.Held.{held}
use Rattle.try_desk.proofs.Opened.{pair_word, two_held, still_so}
use Rattle.try_desk.proofs.slots.Slots.open_pair.Goals as goal

pub both-requires-clause-known : goal.both-requires-clause-known
both-requires-clause-known g c =
    pair_known g.met.W.Words.laws _ _ _ _ c.in_ok-look.ensures.loaded.sound c.in_ok-look.ensures.leads
    (pair_word c.in_ok-look.look c.in-Some.at (sym c.in-Some.ensures)) (inl refl)

pub both-requires-clause-also : goal.both-requires-clause-also
both-requires-clause-also g c =
    pair_known g.met.W.Words.laws _ _ _ _ c.in_ok-look.ensures.loaded.sound c.in_ok-look.ensures.leads
    (pair_word c.in_ok-look.look c.in-Some.at (sym c.in-Some.ensures)) (inr refl)

pub overflow_add-at : goal.overflow_add-at
overflow_add-at g c =
    let known =
    pair_known g.met.W.Words.laws _ _ _ (c.in-Some.at + 1) c.in_ok-look.ensures.loaded.sound c.in_ok-look.ensures.leads
    (pair_word c.in_ok-look.look c.in-Some.at (sym c.in-Some.ensures)) (inr refl) in
    let below = g.met.W.Words.laws.in_range _ _ c.in_ok-look.ensures.loaded.sound known in
    let few = g.met.W.Words.laws.few _ c.in_ok-look.ensures.loaded.sound in
    omega (arith, below, few)

pub returns-in_ok-parts-in-Some-clause-loaded : goal.returns-in_ok-parts-in-Some-clause-loaded
returns-in_ok-parts-in-Some-clause-loaded g c =
    loaded_twice g.met.W.Words.laws c.in_ok-look.ensures.loaded c.in_ok-parts-in-Some.ensures.loaded

pub returns-in_ok-parts-in-Some-clause-opened : goal.returns-in_ok-parts-in-Some-clause-opened
returns-in_ok-parts-in-Some-clause-opened g c m i =
    let value =
    still_says g.met.W.Words.laws (λ m. Values c.args.trail.now.binds m false c.term.result c.in_ok-look.look)
    c.in_ok-parts-in-Some.ensures.loaded c.in_ok-look.ensures.value m i in
    let parts =
    two_held (held c.args.self.now) (held c.hold.new.self) (held c.hold-in-Some.new.self) c.args.left c.args.right _ _
    (m c.in-Some.at) (m (c.in-Some.at + 1)) c.hold.ensures.held c.hold-in-Some.ensures.held (c.in_ok-parts-in-Some.ensures.one m i)
    (c.in_ok-parts-in-Some.ensures.two m i) in (
      c.in_ok-look.look,
      subst (λ (x : ℕ). Values c.args.trail.now.binds m false x c.in_ok-look.look) c.term.ensures value,
      record {
        at = c.in-Some.at;
        pair = sym c.in-Some.ensures;
        takes = parts;
        first_seen = c.in_ok-parts-in-Some.ensures.seen.0;
        second_seen = c.in_ok-parts-in-Some.ensures.seen.1;
      },
    )

pub returns-in_ok-parts-in-Some-clause-lead : goal.returns-in_ok-parts-in-Some-clause-lead
returns-in_ok-parts-in-Some-clause-lead g c all =
    still_so (g.W.Words.leads c.both.new.words) (held c.args.self.now) (held c.hold.new.self) (held c.hold-in-Some.new.self)
    c.args.left c.args.right _ _ c.hold.ensures.held c.hold-in-Some.ensures.held c.in_ok-parts-in-Some.ensures.leads.0
    c.in_ok-parts-in-Some.ensures.leads.1
    (λ k. g.met.W.Words.laws.stays_leading _ _ _ c.both.ensures.between
    (g.met.W.Words.laws.stays_leading _ _ _ c.deref.ensures.between (all k)))

pub returns-in_ok-parts-in-Some-clause-tame : goal.returns-in_ok-parts-in-Some-clause-tame
returns-in_ok-parts-in-Some-clause-tame g c =
    tame_later g.met.W.Words.laws (loaded_twice g.met.W.Words.laws c.in_ok-look.ensures.loaded c.in_ok-parts-in-Some.ensures.loaded)
    (c.both.ensures.binds ∙ c.deref.ensures.binds) c.requires.tame

pub returns-in-None-clause-tame : goal.returns-in-None-clause-tame
returns-in-None-clause-tame g c = tame_later g.met.W.Words.laws c.in_ok-look.ensures.loaded c.deref.ensures.binds c.requires.tame
