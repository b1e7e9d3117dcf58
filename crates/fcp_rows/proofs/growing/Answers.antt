-- The run, by computing.
use Rattle.std.proofs.Common.{List, [], Option, refl}
use Rattle.fcp_model.specs.States.{start}
use Rattle.fcp_model.specs.Events.{Event}
use Rattle.fcp_model.specs.OneWorker.{Schedule, rulings, begin}
use Rattle.fcp_rows.specs.Growing.{two_streams}
use Rattle.fcp_rows.proofs.LongReports.{events_of, stand_of, came_to}
use Rattle.fcp_rows.proofs.growing.Goals as goal

abbrev from : Schedule
from = begin (start 1 two_streams.goal) []

-- where the run comes to
abbrev came : Option (List Event × Schedule)
came = rulings 19 30 two_streams.program two_streams.limits from

pub returns : goal.returns
returns c = record {
  events = events_of came;
  last = stand_of from came;
  run = record { leads = record { count = 19; steps = 30; followed = came_to from came refl }; steps = 30; ended = refl };
  entered = refl;
  outcome = refl;
  comes_to = (30, refl);
}
