use Rattle.std.proofs.Common.{◌≡◌, ℕ, refl, sym, subst, ◌∙◌, List, [], ◌<◌, arith}
use Rattle.std.proofs.lemmas.Grind.{common_steps}
use Rattle.heap_words.proofs.Keeps.{loaded_none, loaded_twice, still_says}
use Rattle.ro_unify.specs.Occurs.{stack}
use Rattle.ro_unify.specs.Walks.{words_left}
use Rattle.ro_unify.proofs.Stacks.{each_pushed}
use Rattle.ro_unify.proofs.Visiting.{next_on}
use Rattle.ro_unify.proofs.Ending.{tame_later}
use Rattle.guard_tests.specs.Evaluation.{OperandLeads}
use Rattle.guard_tests.proofs.Evaluating.{steps_lead}
use Rattle.stored_expressions.specs.Listing.{Lists}
use Rattle.stored_expressions.proofs.Listings.{none_left, visited_on}
use Rattle.stored_expressions.proofs.Walking.{visit_falls}
use Rattle.stored_expressions.proofs.listing.list_all.Goals as goal

pub returns-in_default-clause-lists : goal.returns-in_default-clause-lists
returns-in_default-clause-lists g c m i =
    let empty : c.walk.work.items ≡ [] = grind (arith, common_steps, c.in_default.ensures.items, c.in_default.ensures.cases) in
    c.walk.invariant.comes (stack c.walk.steps.items) m i (none_left m c.walk.work.items (stack c.walk.steps.items) empty)

pub walk-init : goal.walk-init
walk-init g c = record {
  loaded = loaded_none g.met.W.Words.laws _ _ _ c.requires.sound c.requires.holds;
  binds = refl;
  reads = refl;
  tame = c.requires.tame;
  leads = c.requires.leads;
  steps_lead = c.requires.steps_lead;
  comes = λ all m i h. h;
}

pub walk-preserved : goal.walk-preserved
walk-preserved g c = record {
  loaded = loaded_twice g.met.W.Words.laws c.walk.invariant.loaded c.in_ok-step.ensures.loaded;
  binds = c.visit.ensures.binds ∙ c.walk.invariant.binds;
  reads = c.visit.ensures.reads ∙ c.walk.invariant.reads;
  tame = tame_later g.met.W.Words.laws c.in_ok-step.ensures.loaded c.visit.ensures.binds c.walk.invariant.tame;
  leads =
      let h = rw (next_on c.walk.work.items c.pop.new.self.items c.in-Some.next c.in-Some.ensures.items) at c.walk.invariant.leads in
      c.in_ok-step.ensures.leads h.1;
  steps_lead = each_pushed (OperandLeads (g.W.Words.leads c.visit.new.words)) c.walk.steps.items c.add.new.steps.items c.in_ok-step.step
      c.in_ok-add.ensures c.in_ok-step.ensures.step_leads
      (steps_lead (g.W.Words.leads c.walk.words) (g.W.Words.leads c.visit.new.words) (stack c.walk.steps.items)
      (λ x. g.met.W.Words.laws.stays_leading _ _ x c.visit.ensures.between) c.walk.invariant.steps_lead);
  comes = λ all m i h.
      still_says g.met.W.Words.laws
      (λ m. Lists m (stack c.walk.work.items) (stack c.walk.steps.items) all
      → Lists m (stack c.args.work.now.items) (stack c.args.steps.now.items) all) c.in_ok-step.ensures.loaded
      (c.walk.invariant.comes all) m i
      (visited_on m c.in-Some.next c.walk.work.items c.pop.new.self.items (stack c.visit.new.work.items) c.walk.steps.items
      c.add.new.steps.items c.in_ok-step.step all c.in-Some.ensures.items c.in_ok-add.ensures (c.in_ok-step.ensures.visits m i) h);
}

pub walk-smaller : goal.walk-smaller
walk-smaller g c =
    subst (λ (ws : List ℕ). words_left (g.W.Words.addresses c.visit.new.words) c.visit.new.trail.binds c.visit.new.trail.kept
    (g.W.Words.own c.visit.new.words) (stack c.visit.new.work.items) < words_left
    (g.W.Words.addresses c.walk.words) c.walk.trail.binds c.walk.trail.kept (g.W.Words.own c.walk.words) ws)
    (sym (next_on c.walk.work.items c.pop.new.self.items c.in-Some.next c.in-Some.ensures.items))
    (visit_falls g.met.W.Words.laws c.in-Some.next (stack c.pop.new.self.items) (stack c.visit.new.work.items) c.in_ok-step.step
    c.in_ok-step.ensures.loaded c.visit.ensures.binds c.walk.invariant.tame c.in_ok-step.ensures.visits)
