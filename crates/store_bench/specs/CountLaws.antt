-- Words that refer to nothing keep what every kind of entries keeps.
use Rattle.std.proofs.Common.{true≢false, sym}
use Rattle.word_commit.specs.Histories.{Laws}
use Rattle.store_bench.specs.Counts.{counts}

pub count_laws : Laws counts
count_laws = record {
  more = λ l r x a yes. absurd (true≢false (sym yes));
  keeps = λ e n ever w small sound finds may l a good yes. absurd (true≢false (sym yes));
}
