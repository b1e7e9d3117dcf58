use Rattle.std.proofs.Common.{refl, subst}
use Rattle.ready_lists.specs.Ready.{AreReady}
use Rattle.worker_crew.proofs.Beginning.{begun}
use Rattle.worker_crew.proofs.starting.start.Goals as goal

pub returns : goal.returns
returns c =
    begun c.args.task.now c.in_ok-words.words.items c.in_ok-ready.ready.items c.requires c.in_ok-words.ensures
    (subst (λ ws. AreReady ws c.in_ok-ready.ready.items) c.as_slice.ensures.value c.in_ok-ready.ensures) c.states.ensures
    c.counts.ensures.first _ c.in_ok-hall.ensures.words c.in_ok-hall.ensures.log c.in_ok-hall.ensures.plain c.in_ok-hall.ensures.free
    c.in_ok-hall.ensures.idle c.in_ok-hall.ensures.quota c.in_ok-hall.ensures.spare c.from_vec.ensures.items refl refl refl refl
