use Rattle.std.proofs.Common.{◌≡◌, sym, subst, List, [], arith, ℕ, ◌<◌}
use Rattle.std.proofs.lemmas.Grind.{common_steps}
use Rattle.heap_words.proofs.Keeps.{loaded_twice, still_says}
use Rattle.ro_unify.specs.Occurs.{stack}
use Rattle.ro_unify.specs.Unify.{Unifies, clash, stop}
use Rattle.ro_unify.specs.Walks.{pairs_left}
use Rattle.ro_unify.proofs.Falling.{turn_falls}
use Rattle.ro_unify.proofs.Turns.{on_top, nothing_left}
use Rattle.ro_unify.proofs.Visiting.{next_on}
use Rattle.ro_unify.proofs.unification.unify_all.Goals as goal

pub returns-in_default-clause-unifies : goal.returns-in_default-clause-unifies
returns-in_default-clause-unifies g c m i =
    let empty : c.pairs.work.items ≡ [] = grind (arith, common_steps, c.in_default.ensures.items, c.in_default.ensures.cases) in
    c.pairs.invariant.comes _ m i (nothing_left m _ _ c.pairs.work.items empty)

pub returns-in-Clash-clause-loaded : goal.returns-in-Clash-clause-loaded
returns-in-Clash-clause-loaded g c = loaded_twice g.met.W.Words.laws c.pairs.invariant.loaded c.in_ok-treat.ensures.loaded

pub returns-in-Wait-clause-loaded : goal.returns-in-Wait-clause-loaded
returns-in-Wait-clause-loaded g c = loaded_twice g.met.W.Words.laws c.pairs.invariant.loaded c.in_ok-treat.ensures.loaded

pub returns-in-Clash-clause-unifies : goal.returns-in-Clash-clause-unifies
returns-in-Clash-clause-unifies g c m i =
    still_says g.met.W.Words.laws
    (λ m. Unifies m c.pairs.trail.binds c.pairs.trail.reads.items (stack c.pairs.work.items)
    (clash c.treat.new.trail.reads.items) → Unifies m c.args.trail.now.binds c.args.trail.now.reads.items
    (stack c.args.work.now.items) (clash c.treat.new.trail.reads.items)) c.in_ok-treat.ensures.loaded
    (c.pairs.invariant.comes _) m i
    (on_top m c.pairs.trail.binds c.pairs.trail.reads.items
    (c.in-Some.pair.0, c.in-Some.pair.1) c.pairs.work.items c.pop.new.self.items c.treat.new.trail.binds c.treat.new.trail.reads.items
    (stack c.treat.new.work.items) _ _ c.in-Some.ensures.items c.in-Clash.is (c.in_ok-treat.ensures.turned m i))

pub returns-in-Wait-clause-unifies : goal.returns-in-Wait-clause-unifies
returns-in-Wait-clause-unifies g c m i =
    still_says g.met.W.Words.laws
    (λ m. Unifies m c.pairs.trail.binds c.pairs.trail.reads.items (stack c.pairs.work.items)
    (stop c.treat.new.trail.reads.items) → Unifies m c.args.trail.now.binds c.args.trail.now.reads.items
    (stack c.args.work.now.items) (stop c.treat.new.trail.reads.items)) c.in_ok-treat.ensures.loaded
    (c.pairs.invariant.comes _) m i
    (on_top m c.pairs.trail.binds c.pairs.trail.reads.items
    (c.in-Some.pair.0, c.in-Some.pair.1) c.pairs.work.items c.pop.new.self.items c.treat.new.trail.binds c.treat.new.trail.reads.items
    (stack c.treat.new.work.items) _ _ c.in-Some.ensures.items c.in-Wait.is (c.in_ok-treat.ensures.turned m i))

pub pairs-preserved : goal.pairs-preserved
pairs-preserved g c = record {
  loaded = loaded_twice g.met.W.Words.laws c.pairs.invariant.loaded c.in_ok-treat.ensures.loaded;
  tame = c.in_ok-treat.ensures.tame;
  leads =
      let h = rw (next_on c.pairs.work.items c.pop.new.self.items c.in-Some.pair c.in-Some.ensures.items) at c.pairs.invariant.leads in
      c.in_ok-treat.ensures.lead h.1;
  comes = λ e m i h.
      still_says g.met.W.Words.laws
      (λ m. Unifies m c.pairs.trail.binds c.pairs.trail.reads.items
      (stack c.pairs.work.items) e → Unifies m c.args.trail.now.binds c.args.trail.now.reads.items
      (stack c.args.work.now.items) e) c.in_ok-treat.ensures.loaded (c.pairs.invariant.comes e) m i
      (on_top m c.pairs.trail.binds c.pairs.trail.reads.items
      (c.in-Some.pair.0, c.in-Some.pair.1) c.pairs.work.items c.pop.new.self.items c.treat.new.trail.binds c.treat.new.trail.reads.items
      (stack c.treat.new.work.items) _ _ c.in-Some.ensures.items c.in-Done.is (c.in_ok-treat.ensures.turned m i) e h);
}

pub pairs-smaller : goal.pairs-smaller
pairs-smaller g c =
    subst (λ (ps : List (ℕ × ℕ)). pairs_left (g.W.Words.addresses c.treat.new.words) c.treat.new.trail.binds c.treat.new.trail.kept
    (g.W.Words.own c.treat.new.words) (stack c.treat.new.work.items) < pairs_left
    (g.W.Words.addresses c.pairs.words) c.pairs.trail.binds c.pairs.trail.kept (g.W.Words.own c.pairs.words) ps)
    (sym (next_on c.pairs.work.items c.pop.new.self.items c.in-Some.pair c.in-Some.ensures.items))
    (turn_falls g.met.W.Words.laws (c.in-Some.pair.0, c.in-Some.pair.1) (stack c.pop.new.self.items)
    (stack c.treat.new.work.items) c.pairs.trail.reads.items c.treat.new.trail.reads.items _ c.in-Done.is c.in_ok-treat.ensures.loaded
    c.pairs.invariant.tame c.in_ok-treat.ensures.turned)
