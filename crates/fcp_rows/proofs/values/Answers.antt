-- The reports, by computing.
use Rattle.std.proofs.Common.{refl}
use Rattle.fcp_rows.proofs.Digits.{digits}
use Rattle.fcp_rows.proofs.values.Goals as goal

pub returns-clause-call : goal.returns-clause-call
returns-clause-call c = record {
  events = _;
  last = _;
  run = record { leads = record { count = 9; steps = 12; followed = refl }; steps = 12; ended = refl };
  outcome = refl;
  steps = 12;
  text = simp digits refl;
}

pub returns-clause-quoted : goal.returns-clause-quoted
returns-clause-quoted c = record {
  events = _;
  last = _;
  run = record { leads = record { count = 9; steps = 12; followed = refl }; steps = 12; ended = refl };
  outcome = refl;
  steps = 12;
  text = simp digits refl;
}

pub returns-clause-cuts : goal.returns-clause-cuts
returns-clause-cuts c = record {
  none_left = (20, refl);
  one = (20, refl);
  two = (20, refl);
  three = (20, refl);
  four = (20, refl);
  five = (20, refl);
  six = (20, refl);
  seven = (20, refl);
}
