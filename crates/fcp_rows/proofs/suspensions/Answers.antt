-- The reports, by computing.
use Rattle.std.proofs.Common.{refl}
use Rattle.fcp_rows.proofs.Digits.{digits}
use Rattle.fcp_rows.proofs.suspensions.Goals as goal

pub returns-clause-read_only : goal.returns-clause-read_only
returns-clause-read_only c = record {
  events = _;
  last = _;
  run = record { leads = record { count = 9; steps = 12; followed = refl }; steps = 12; ended = refl };
  outcome = refl;
  steps = 12;
  text = simp digits refl;
}

pub returns-clause-first : goal.returns-clause-first
returns-clause-first c = record {
  events = _;
  last = _;
  run = record { leads = record { count = 9; steps = 12; followed = refl }; steps = 12; ended = refl };
  outcome = refl;
  steps = 12;
  text = simp digits refl;
}

pub returns-clause-head : goal.returns-clause-head
returns-clause-head c = record {
  events = _;
  last = _;
  run = record { leads = record { count = 9; steps = 12; followed = refl }; steps = 12; ended = refl };
  outcome = refl;
  steps = 12;
  text = simp digits refl;
}

pub returns-clause-all_reads : goal.returns-clause-all_reads
returns-clause-all_reads c = record {
  events = _;
  last = _;
  run = record { leads = record { count = 9; steps = 12; followed = refl }; steps = 12; ended = refl };
  outcome = refl;
  steps = 12;
  text = simp digits refl;
}
