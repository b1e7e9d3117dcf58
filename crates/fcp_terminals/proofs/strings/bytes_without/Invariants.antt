use Rattle.std.proofs.Common.{◌≡◌, ◌++◌, false, length}
use Rattle.fcp_text.specs.QuotedStrings.{without_quotes}
use Rattle.fcp_terminals.proofs.strings.bytes_without.Given as goal

abbrev pub invariant-loop-bytes : goal.invariant-loop-bytes
invariant-loop-bytes l = without_quotes l.quote false l.initial.bytes ≡ l.kept.items ++ without_quotes l.quote l.is_second l.bytes

abbrev pub decreases-loop-bytes : goal.decreases-loop-bytes
decreases-loop-bytes l = length l.bytes
