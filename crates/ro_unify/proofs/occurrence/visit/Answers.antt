use Rattle.std.proofs.Common.{refl, ap, ◌∙◌, [], ◌∷◌, ◌++◌, false}
use Rattle.heap_words.proofs.Keeps.{loaded_twice, still_says}
use Rattle.ro_unify.specs.Value.{Values}
use Rattle.ro_unify.specs.Occurs.{stack}
use Rattle.ro_unify.specs.declared.look.Look.TheVariants.{Solid}
use Rattle.ro_unify.proofs.Leads.{each_stays}
use Rattle.ro_unify.proofs.occurrence.visit.Goals as goal

pub returns-in_ok-push_parts-in-Solid-clause-loaded : goal.returns-in_ok-push_parts-in-Solid-clause-loaded
returns-in_ok-push_parts-in-Solid-clause-loaded g c =
    loaded_twice g.met.W.Words.laws c.in_ok-look.ensures.loaded c.in_ok-push_parts-in-Solid.ensures.loaded

pub returns-in_ok-push_parts-in-Solid-clause-visits : goal.returns-in_ok-push_parts-in-Solid-clause-visits
returns-in_ok-push_parts-in-Solid-clause-visits g c m i = (
  still_says g.met.W.Words.laws
      (λ m. Values c.args.trail.now.binds m false c.args.next (Solid c.in-Solid.word)) c.in_ok-push_parts-in-Solid.ensures.loaded
      (rw c.in-Solid.is at c.in_ok-look.ensures.value) m i,
  c.in_ok-push_parts-in-Solid.ensures.work m i,
  c.push_parts.ensures.reads ∙ c.deref.ensures.reads,
)

pub returns-in_ok-push_parts-in-Solid-clause-leads : goal.returns-in_ok-push_parts-in-Solid-clause-leads
returns-in_ok-push_parts-in-Solid-clause-leads g c h =
    c.in_ok-push_parts-in-Solid.ensures.leads (each_stays g.met.W.Words.laws _ _ (stack c.args.work.now.items) c.deref.ensures.between h)

pub returns-in_ok-note_read-in-Writable-clause-visits : goal.returns-in_ok-note_read-in-Writable-clause-visits
returns-in_ok-note_read-in-Writable-clause-visits g c m i = (
  rw c.in-Writable.is at (c.in_ok-look.ensures.value m (rw c.note_read.ensures.kept at i)),
  refl,
  c.in_ok-note_read-in-Writable.ensures.reads ∙ ap (λ rs. rs ++ c.in-Writable.at ∷ []) c.deref.ensures.reads,
)

pub returns-in_ok-note_read-in-Writable-clause-leads : goal.returns-in_ok-note_read-in-Writable-clause-leads
returns-in_ok-note_read-in-Writable-clause-leads g c h =
    each_stays g.met.W.Words.laws _ _ (stack c.args.work.now.items) c.deref.ensures.between h

pub returns-in_ok-note_read-in-ReadOnly-clause-visits : goal.returns-in_ok-note_read-in-ReadOnly-clause-visits
returns-in_ok-note_read-in-ReadOnly-clause-visits g c m i = (
  rw c.in-ReadOnly.is at (c.in_ok-look.ensures.value m (rw c.note_read-in-ReadOnly.ensures.kept at i)),
  refl,
  c.in_ok-note_read-in-ReadOnly.ensures.reads ∙ ap (λ rs. rs ++ c.in-ReadOnly.at ∷ []) c.deref.ensures.reads,
)

pub returns-in_ok-note_read-in-ReadOnly-clause-leads : goal.returns-in_ok-note_read-in-ReadOnly-clause-leads
returns-in_ok-note_read-in-ReadOnly-clause-leads g c h =
    each_stays g.met.W.Words.laws _ _ (stack c.args.work.now.items) c.deref.ensures.between h
