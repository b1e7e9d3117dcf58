-- Where the places of a clause's variables stand.
use Rattle.std.specs.Prelude.{ℕ, ◌+◌, ◌*◌, ◌<◌, ◌≤◌}
use Rattle.fcp_model.specs.Places.{own}
use Rattle.word_states.specs.Denoting.{Listed}
use Rattle.word_states.specs.Pieces.{place_words, numbered}
use Rattle.steady_tries.specs.Steady.{Course, IsSteady, Steadily}

-- the word of the k-th variable's place, from 1, is at 3,999,999,999 and twice k
abbrev pub PlaceListed : Type 0
PlaceListed = Steadily (λ c kept at n r. (k : ℕ) → 0 < k → k ≤ c.vars r.clause
    → Listed (numbered 1 (place_words 4000000000 r.pieces)) (own k) (3999999999 + 2 * k))
