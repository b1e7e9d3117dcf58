-- Laws of the words of calls.
use Rattle.std.specs.Prelude.{◌≡◌, List}
use Rattle.fcp_model.specs.Spelling.{Bytes}
use Rattle.command_words.specs.declared.order.Order.{Order}
use Rattle.command_words.specs.Readings.{IsReading}

-- words ask for one thing at most
abbrev pub WordsHaveOneReading : Type 0
WordsHaveOneReading = (words : List Bytes) (o p : Order) → IsReading words o → IsReading words p → o ≡ p
