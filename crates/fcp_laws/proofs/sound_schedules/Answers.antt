-- The laws, proved beside the definitions.
use Rattle.fcp_model.specs.OneWorker.{begin}
use Rattle.fcp_laws.proofs.SoundSchedules.{start_ordered, begin_sound, leads_sound, none_ready}
use Rattle.fcp_laws.proofs.sound_schedules.Goals as goal

pub returns-clause-start : goal.returns-clause-start
returns-clause-start c = start_ordered

pub returns-clause-schedules : goal.returns-clause-schedules
returns-clause-schedules c = λ m limits s controls evs at o l. leads_sound m limits (begin s controls) evs at (begin_sound s controls o) l

pub returns-clause-none_ready : goal.returns-clause-none_ready
returns-clause-none_ready c = none_ready
