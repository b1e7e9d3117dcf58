-- The reports, by computing.
use Rattle.std.proofs.Common.{refl}
use Rattle.fcp_rows.proofs.Digits.{digits}
use Rattle.fcp_rows.proofs.commits.Goals as goal

pub returns-clause-fact : goal.returns-clause-fact
returns-clause-fact c = record {
  events = _;
  last = _;
  run = record { leads = record { count = 9; steps = 12; followed = refl }; steps = 12; ended = refl };
  outcome = refl;
  steps = 12;
  text = simp digits refl;
}

pub returns-clause-wakes : goal.returns-clause-wakes
returns-clause-wakes c = record {
  events = _;
  last = _;
  run = record { leads = record { count = 9; steps = 12; followed = refl }; steps = 12; ended = refl };
  outcome = refl;
  steps = 12;
  text = simp digits refl;
}

pub returns-clause-fails : goal.returns-clause-fails
returns-clause-fails c = record {
  events = _;
  last = _;
  run = record { leads = record { count = 9; steps = 12; followed = refl }; steps = 12; ended = refl };
  outcome = refl;
  steps = 12;
  text = simp digits refl;
}

pub returns-clause-sees : goal.returns-clause-sees
returns-clause-sees c = record {
  events = _;
  last = _;
  run = record { leads = record { count = 9; steps = 12; followed = refl }; steps = 12; ended = refl };
  outcome = refl;
  steps = 12;
  text = simp digits refl;
}

pub returns-clause-once : goal.returns-clause-once
returns-clause-once c = record {
  events = _;
  last = _;
  run = record { leads = record { count = 9; steps = 12; followed = refl }; steps = 12; ended = refl };
  outcome = refl;
  steps = 12;
  text = simp digits refl;
}
