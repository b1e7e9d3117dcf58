use Rattle.std.proofs.Common.{◌≡◌, ◌+◌, ◌*◌, ◌<◌, ℕ, vec_len}
use Rattle.std.specs.Prelude.{slice_index}
use Rattle.store_bench.proofs.stores.full_pages.Given as goal

abbrev pub invariant-loop-page : goal.invariant-loop-page
invariant-loop-page l = record {
  len : vec_len l.words ≡ 1024 * l.pages;
  tops : (p : ℕ) → p < l.page → slice_index l.words.items (1024 * p) ≡ 1024 * p + 1024;
}
