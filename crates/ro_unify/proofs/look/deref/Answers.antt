use Rattle.std.proofs.Common.{sym, ◌∙◌, false, ap}
use Rattle.heap_words.proofs.Keeps.{loaded_twice, still_says}
use Rattle.ro_unify.specs.Value.{step_of, Values, ends, goes}
use Rattle.ro_unify.proofs.Ending.{tame_later}
use Rattle.ro_unify.proofs.Measures.{place_falls}
use Rattle.ro_unify.proofs.look.deref.Goals as goal

pub returns-in-End-clause-loaded : goal.returns-in-End-clause-loaded
returns-in-End-clause-loaded g c = loaded_twice g.met.W.Words.laws c.chain.invariant.loaded c.in_ok-look.ensures.loaded

pub returns-in-End-clause-value : goal.returns-in-End-clause-value
returns-in-End-clause-value g c m i =
    still_says g.met.W.Words.laws
    (λ m. Values c.args.trail.now.binds m c.chain.only c.chain.at c.in-End.look
    → Values c.args.trail.now.binds m false c.args.word c.in-End.look) c.in_ok-look.ensures.loaded
    (c.chain.invariant.value c.in-End.look) m i
    (ends _ _ _ (ap (λ bs. step_of bs m c.chain.only c.chain.at) (sym c.chain.invariant.binds) ∙
    (c.in_ok-look.ensures.step m i ∙ c.in-End.is)))

pub chain-preserved : goal.chain-preserved
chain-preserved g c = record {
  loaded = loaded_twice g.met.W.Words.laws c.chain.invariant.loaded c.in_ok-look.ensures.loaded;
  binds = c.follow.ensures.binds ∙ c.chain.invariant.binds;
  reads = c.follow.ensures.reads ∙ c.chain.invariant.reads;
  tame = tame_later g.met.W.Words.laws c.in_ok-look.ensures.loaded c.follow.ensures.binds c.chain.invariant.tame;
  leads = rw c.in-On.is at c.in_ok-look.ensures.leads;
  value = λ v m i h.
      still_says g.met.W.Words.laws
      (λ m. Values c.args.trail.now.binds m c.chain.only c.chain.at v → Values c.args.trail.now.binds m false c.args.word v)
      c.in_ok-look.ensures.loaded (c.chain.invariant.value v) m i
      (goes _ _ _ _ _ (ap (λ bs. step_of bs m c.chain.only c.chain.at) (sym c.chain.invariant.binds) ∙
      (c.in_ok-look.ensures.step m i ∙ c.in-On.is)) h);
}

pub chain-smaller : goal.chain-smaller
chain-smaller g c =
    place_falls g.met.W.Words.laws c.chain.only c.in-On.still c.chain.at c.in-On.next c.in_ok-look.ensures.loaded c.follow.ensures.binds
    c.chain.invariant.tame
    (λ m i. c.in_ok-look.ensures.step m i ∙ c.in-On.is)
