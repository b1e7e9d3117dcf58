-- Writes whose words may hold the number of their entry.
use Rattle.std.specs.Prelude.{◌≡◌, ℕ, ◌+◌, ◌*◌, List, ◌++◌, map}
use Rattle.heap_words.specs.Trails.{WordList}
use Rattle.page_layout.specs.declared.written.Written.{Written}

-- the writes of the entry of this number
abbrev pub written : ℕ → List Written → WordList
written n ws = map (λ (w : Written). (w.addr, w.word + w.step * n)) ws

-- these writes were put after the others, whatever number the entry gets
abbrev pub Puts : List Written → List Written → (ℕ → WordList) → Type 0
Puts old new more = (n : ℕ) → written n new ≡ written n old ++ more n
