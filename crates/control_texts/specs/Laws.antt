-- Laws of control texts.
use Rattle.std.specs.Prelude.{◌≡◌, ℕ, List}
use Rattle.fcp_model.specs.declared.run.Control.{Control}
use Rattle.fcp_model.specs.Spelling.{Bytes}
use Rattle.control_texts.specs.ControlTexts.{IsControlText, IsFaultAt}

-- a text asks for at most one list of controls
abbrev pub ATextHasOneReading : Type 0
ATextHasOneReading = (text : Bytes) (a b : List Control) → IsControlText text a → IsControlText text b → a ≡ b

-- a text has at most one place of a fault
abbrev pub ATextHasOneFault : Type 0
ATextHasOneFault = (text : Bytes) (i j : ℕ) → IsFaultAt text i → IsFaultAt text j → i ≡ j

-- a text that asks for controls has no fault
abbrev pub NoTextIsReadWithAFault : Type 0
NoTextIsReadWithAFault = (text : Bytes) (controls : List Control) (at : ℕ) → IsControlText text controls → IsFaultAt text at → ⊥
