-- What is answered to a call is determined.
use Rattle.std.specs.Prelude.{◌≡◌, ℕ, List, Option, Some}
use Rattle.fcp_model.specs.Spelling.{Bytes}
use Rattle.logix_edge.specs.Causes.{Rose}
use Rattle.logix_edge.specs.Shelves.{Entries}
use Rattle.logix_app.specs.declared.status.Status.{Status}
use Rattle.logix_app.specs.declared.status.Status.TheVariants as status
use Rattle.logix_app.specs.Headline.{Answers}

-- the words were answered over a shelf that holds these files, and neither counted the shelf a fault nor did memory run out
pub record IsSoundAnswer (words : List Bytes) (entries : Entries) (s : Status) (text : Bytes) : Type 0 where
  pub before : ℕ
  pub now : ℕ
  pub last : Option Bytes
  pub answers : Answers words (Some entries) before now last s text
  pub quiet : ¬ Rose before now
  pub enough : s ≡ status.NoMemory → ⊥

-- two such answers to the same words have one status and one text
abbrev pub CallsHaveOneAnswer : Type 0
CallsHaveOneAnswer = (words : List Bytes) (entries : Entries) (s s' : Status) (text text' : Bytes)
    → IsSoundAnswer words entries s text → IsSoundAnswer words entries s' text' → (s ≡ s') × (text ≡ text')
