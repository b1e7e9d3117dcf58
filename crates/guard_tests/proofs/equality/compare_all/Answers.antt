use Rattle.std.proofs.Common.{◌≡◌, ◌∙◌, sym, subst, List, [], arith, ℕ, ◌<◌}
use Rattle.std.proofs.lemmas.Grind.{common_steps}
use Rattle.heap_words.proofs.Keeps.{loaded_twice, still_says}
use Rattle.ro_unify.specs.Occurs.{stack}
use Rattle.ro_unify.specs.Walks.{pairs_left}
use Rattle.ro_unify.proofs.Ending.{tame_later}
use Rattle.ro_unify.proofs.Visiting.{next_on}
use Rattle.guard_tests.specs.declared.equality.Tested.TheVariants.{Not, Wait}
use Rattle.guard_tests.specs.Equality.{Equals}
use Rattle.guard_tests.proofs.Comparing.{on_top, none_left, pair_falls}
use Rattle.guard_tests.proofs.equality.compare_all.Goals as goal

pub returns-in_default-clause-equals : goal.returns-in_default-clause-equals
returns-in_default-clause-equals g c m i =
    let empty : c.pairs.work.items ≡ [] = grind (arith, common_steps, c.in_default.ensures.items, c.in_default.ensures.cases) in
    c.pairs.invariant.comes _ _ m i (none_left c.args.trail.now.binds m _ c.pairs.work.items empty)

pub returns-in-Not-clause-loaded : goal.returns-in-Not-clause-loaded
returns-in-Not-clause-loaded g c = loaded_twice g.met.W.Words.laws c.pairs.invariant.loaded c.in_ok-compare_words.ensures.loaded

pub returns-in-Wait-clause-loaded : goal.returns-in-Wait-clause-loaded
returns-in-Wait-clause-loaded g c = loaded_twice g.met.W.Words.laws c.pairs.invariant.loaded c.in_ok-compare_words.ensures.loaded

pub returns-in-Not-clause-equals : goal.returns-in-Not-clause-equals
returns-in-Not-clause-equals g c m i =
    still_says g.met.W.Words.laws
    (λ m. Equals c.args.trail.now.binds m c.pairs.trail.reads.items (stack c.pairs.work.items) Not c.compare_words.new.trail.reads.items
    → Equals c.args.trail.now.binds m c.args.trail.now.reads.items (stack c.args.work.now.items) Not
    c.compare_words.new.trail.reads.items) c.in_ok-compare_words.ensures.loaded
    (c.pairs.invariant.comes Not c.compare_words.new.trail.reads.items) m i
    (on_top c.args.trail.now.binds c.pairs.trail.binds m c.pairs.trail.reads.items
    (c.in-Some.pair.0, c.in-Some.pair.1) c.pairs.work.items c.pop.new.self.items c.compare_words.new.trail.reads.items
    (stack c.compare_words.new.work.items) _ _ c.pairs.invariant.binds c.in-Some.ensures.items c.in-Not.is
    (c.in_ok-compare_words.ensures.compared m i))

pub returns-in-Wait-clause-equals : goal.returns-in-Wait-clause-equals
returns-in-Wait-clause-equals g c m i =
    still_says g.met.W.Words.laws
    (λ m. Equals c.args.trail.now.binds m c.pairs.trail.reads.items (stack c.pairs.work.items) Wait c.compare_words.new.trail.reads.items
    → Equals c.args.trail.now.binds m c.args.trail.now.reads.items (stack c.args.work.now.items) Wait
    c.compare_words.new.trail.reads.items) c.in_ok-compare_words.ensures.loaded
    (c.pairs.invariant.comes Wait c.compare_words.new.trail.reads.items) m i
    (on_top c.args.trail.now.binds c.pairs.trail.binds m c.pairs.trail.reads.items
    (c.in-Some.pair.0, c.in-Some.pair.1) c.pairs.work.items c.pop.new.self.items c.compare_words.new.trail.reads.items
    (stack c.compare_words.new.work.items) _ _ c.pairs.invariant.binds c.in-Some.ensures.items c.in-Wait.is
    (c.in_ok-compare_words.ensures.compared m i))

pub pairs-preserved : goal.pairs-preserved
pairs-preserved g c = record {
  loaded = loaded_twice g.met.W.Words.laws c.pairs.invariant.loaded c.in_ok-compare_words.ensures.loaded;
  binds = c.compare_words.ensures.binds ∙ c.pairs.invariant.binds;
  tame = tame_later g.met.W.Words.laws c.in_ok-compare_words.ensures.loaded c.compare_words.ensures.binds c.pairs.invariant.tame;
  leads =
      let h = rw (next_on c.pairs.work.items c.pop.new.self.items c.in-Some.pair c.in-Some.ensures.items) at c.pairs.invariant.leads in
      c.in_ok-compare_words.ensures.lead h.1;
  comes = λ t rs m i h.
      still_says g.met.W.Words.laws
      (λ m. Equals c.args.trail.now.binds m c.pairs.trail.reads.items (stack c.pairs.work.items) t rs
      → Equals c.args.trail.now.binds m c.args.trail.now.reads.items (stack c.args.work.now.items) t rs)
      c.in_ok-compare_words.ensures.loaded (c.pairs.invariant.comes t rs) m i
      (on_top c.args.trail.now.binds c.pairs.trail.binds m c.pairs.trail.reads.items
      (c.in-Some.pair.0, c.in-Some.pair.1) c.pairs.work.items c.pop.new.self.items c.compare_words.new.trail.reads.items
      (stack c.compare_words.new.work.items) _ _ c.pairs.invariant.binds c.in-Some.ensures.items c.in-Holds.is
      (c.in_ok-compare_words.ensures.compared m i) t rs h);
}

pub pairs-smaller : goal.pairs-smaller
pairs-smaller g c =
    subst (λ (ps : List (ℕ × ℕ)). pairs_left (g.W.Words.addresses c.compare_words.new.words) c.compare_words.new.trail.binds
    c.compare_words.new.trail.kept (g.W.Words.own c.compare_words.new.words) (stack c.compare_words.new.work.items) < pairs_left
    (g.W.Words.addresses c.pairs.words) c.pairs.trail.binds c.pairs.trail.kept (g.W.Words.own c.pairs.words) ps)
    (sym (next_on c.pairs.work.items c.pop.new.self.items c.in-Some.pair c.in-Some.ensures.items))
    (pair_falls g.met.W.Words.laws (c.in-Some.pair.0, c.in-Some.pair.1) (stack c.pop.new.self.items)
    (stack c.compare_words.new.work.items) c.pairs.trail.reads.items c.compare_words.new.trail.reads.items _ c.in-Holds.is
    c.in_ok-compare_words.ensures.loaded c.compare_words.ensures.binds c.pairs.invariant.tame c.in_ok-compare_words.ensures.compared)
