-- What a safe try hands over is sound by what was kept.
use Rattle.std.proofs.Common.{◌≡◌, ℕ, ◌<◌, Some}
use Rattle.heap_words.specs.Trails.{WordList, word_at, AreOnce}
use Rattle.word_states.specs.Trials.{AreReads}
use Rattle.word_states.proofs.Lists.{word_among}
use Rattle.stored_tries.specs.Ends.{SafeWait}
use Rattle.stored_tries.proofs.Lists.{once_apart, once_word}

-- what was kept is a list of reads
pub reads_of : (kept : WordList) → AreOnce kept → ((a x : ℕ) → word_at kept a ≡ Some x → a < 4000000000) → AreReads kept
reads_of kept once below = record { apart = once_apart kept once; below = λ a x m. below a x (once_word kept once a x m) }

pub wait : SafeWait
wait kept r τ released s once = record {
  reads = reads_of kept once s.below;
  distinct = s.waits_apart;
  opened = λ a i. let k = s.waits_open a i in (k.1, (k.0, word_among kept a k.0 k.2, k.3));
}
