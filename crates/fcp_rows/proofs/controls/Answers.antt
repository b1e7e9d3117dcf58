-- The reports, by computing.
use Rattle.std.proofs.Common.{refl}
use Rattle.fcp_rows.proofs.Digits.{digits}
use Rattle.fcp_rows.proofs.controls.Goals as goal

pub returns-clause-snapshot : goal.returns-clause-snapshot
returns-clause-snapshot c = record {
  events = _;
  last = _;
  run = record { leads = record { count = 9; steps = 12; followed = refl }; steps = 12; ended = refl };
  outcome = refl;
  steps = 12;
  text = simp digits refl;
}

pub returns-clause-late : goal.returns-clause-late
returns-clause-late c = record {
  events = _;
  last = _;
  run = record { leads = record { count = 9; steps = 12; followed = refl }; steps = 12; ended = refl };
  outcome = refl;
  steps = 12;
  text = simp digits refl;
}

pub returns-clause-abort : goal.returns-clause-abort
returns-clause-abort c = record {
  events = _;
  last = _;
  run = record { leads = record { count = 9; steps = 12; followed = refl }; steps = 12; ended = refl };
  outcome = refl;
  steps = 12;
  text = simp digits refl;
}

pub returns-clause-resume : goal.returns-clause-resume
returns-clause-resume c = record {
  events = _;
  last = _;
  run = record { leads = record { count = 9; steps = 12; followed = refl }; steps = 12; ended = refl };
  outcome = refl;
  steps = 12;
  text = simp digits refl;
}

pub returns-clause-fail : goal.returns-clause-fail
returns-clause-fail c = record {
  events = _;
  last = _;
  run = record { leads = record { count = 9; steps = 12; followed = refl }; steps = 12; ended = refl };
  outcome = refl;
  steps = 12;
  text = simp digits refl;
}
