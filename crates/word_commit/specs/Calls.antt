-- What calls of a store answer.
use Rattle.word_commit.specs.declared.share.Shared.{Shared}
use Rattle.word_commit.specs.declared.share.Shared.TheVariants.{Two, NoMemory}
use Rattle.word_commit.specs.declared.taken.Taken.{Taken}
use Rattle.word_commit.specs.declared.taken.Taken.TheVariants.{Got, Busy}

-- the one where the page was got, the other where it was busy
abbrev pub MatchTaken : Taken → Type 0 → Type 0 → Type 0
MatchTaken Got A B = A
MatchTaken Busy A B = B

-- the one of the two values where there are two, the other of the one where memory ran out
abbrev pub MatchShared : {S : Type 0} → Shared S → (S → S → Type 0) → (S → Type 0) → Type 0
MatchShared (Two a b) P Q = P a b
MatchShared (NoMemory a) P Q = Q a
