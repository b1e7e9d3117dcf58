-- What the control text of a call asks of a run, and the place of its fault.
use Rattle.std.specs.Prelude.{◌≡◌, ℕ, List, [], Option, Some, None}
use Rattle.control_texts.specs.ControlTexts.{IsControlText, IsFaultAt}
use Rattle.fcp_model.specs.declared.run.Control.{Control}
use Rattle.fcp_model.specs.Spelling.{Bytes}
use Rattle.logix_app.specs.Loading.{BothLoad}

-- the controls of a run: none without a text, else those that the text asks for
abbrev pub AreAsked : Option Bytes → List Control → Type 0
AreAsked None controls = controls ≡ []
AreAsked (Some text) controls = IsControlText text controls

-- there is a text, and its fault is at this place
abbrev pub HasFaultAt : Option Bytes → ℕ → Type 0
HasFaultAt None at = ⊥
HasFaultAt (Some text) at = IsFaultAt text at

-- neither the file nor the goal has a fault, and the control text has one at this place
pub record IsControlFault (control : Option Bytes) (file goal : Bytes) (at : ℕ) : Type 0 where
  pub load : BothLoad file goal
  pub fault : HasFaultAt control at
