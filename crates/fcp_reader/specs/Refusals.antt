-- Why terminals were not read, as the refusal of their text. Only private clauses cite it.
use Rattle.std.specs.Prelude.{◌≡◌, List}
use Rattle.fcp_model.specs.declared.fault.Refused.{Refused}
use Rattle.fcp_model.specs.declared.fault.Refused.TheVariants as refused
use Rattle.fcp_text.specs.declared.lexer.Token.{Token}
use Rattle.fcp_text.specs.Bytes.{Text}
use Rattle.fcp_terminals.specs.Lexemes.{place_at}
use Rattle.fcp_reader.specs.declared.reading.Stopped.{Stopped}
use Rattle.fcp_reader.specs.declared.reading.Stopped.TheVariants as stopped

-- a fault at a terminal is one at the place of its token
abbrev pub Refuses : Text → List Token → Stopped → Refused → Type 0
Refuses z ts stopped.NoMemory r = r ≡ refused.NoMemory (record {})
Refuses z ts (stopped.Fault c n) r = r ≡ refused.Fault (record { code = c; at = place_at z ts n })
