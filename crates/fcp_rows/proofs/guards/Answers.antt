-- The reports, by computing.
use Rattle.std.proofs.Common.{refl}
use Rattle.fcp_rows.proofs.Digits.{digits}
use Rattle.fcp_rows.proofs.guards.Goals as goal

pub returns-clause-otherwise : goal.returns-clause-otherwise
returns-clause-otherwise c = record {
  events = _;
  last = _;
  run = record { leads = record { count = 9; steps = 12; followed = refl }; steps = 12; ended = refl };
  outcome = refl;
  steps = 12;
  text = simp digits refl;
}

pub returns-clause-unknown : goal.returns-clause-unknown
returns-clause-unknown c = record {
  events = _;
  last = _;
  run = record { leads = record { count = 9; steps = 12; followed = refl }; steps = 12; ended = refl };
  outcome = refl;
  steps = 12;
  text = simp digits refl;
}

pub returns-clause-known : goal.returns-clause-known
returns-clause-known c = record {
  events = _;
  last = _;
  run = record { leads = record { count = 9; steps = 12; followed = refl }; steps = 12; ended = refl };
  outcome = refl;
  steps = 12;
  text = simp digits refl;
}

pub returns-clause-fails : goal.returns-clause-fails
returns-clause-fails c = record {
  events = _;
  last = _;
  run = record { leads = record { count = 9; steps = 12; followed = refl }; steps = 12; ended = refl };
  outcome = refl;
  steps = 12;
  text = simp digits refl;
}

pub returns-clause-waits : goal.returns-clause-waits
returns-clause-waits c = record {
  events = _;
  last = _;
  run = record { leads = record { count = 9; steps = 12; followed = refl }; steps = 12; ended = refl };
  outcome = refl;
  steps = 12;
  text = simp digits refl;
}
