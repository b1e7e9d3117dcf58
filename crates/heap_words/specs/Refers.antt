-- To which addresses a cell refers.
use Rattle.std.specs.Prelude.{◌≡◌, ℕ, suc, ◌+◌, ◌<◌, ◌≤◌, ◌⊎◌, Option, Some, None, if◌then◌else◌, nat_eq, nat_lt}
use Rattle.std.proofs.Common.{inl}
use Rattle.heap_words.specs.declared.cell.Cell.{Cell}
use Rattle.heap_words.specs.declared.cell.Cell.TheVariants.{Unbound, Ref, RoRef, Small, Wide, Str, Nil, Cons, Tuple, Status, Raw, Top}

-- by itself: of a place to its word and to its name before it, of a pair to its two parts, of an unbound place to the
-- three words of the first entry of its waiting list, of a wide number to its lower bits, of a tuple to its `Raw`
abbrev pub Refers : Cell → ℕ → Type 0
Refers (Unbound e) b = (0 < e) × (e ≤ b) × (b < e + 3)
Refers (Ref a) b = (b ≡ a) ⊎ (suc b ≡ a)
Refers (RoRef a) b = (b ≡ a) ⊎ (suc b ≡ a)
Refers (Wide a h) b = b ≡ a
Refers (Cons a) b = (b ≡ a) ⊎ (b ≡ suc a)
Refers (Tuple a) b = b ≡ a
Refers _ b = ⊥

-- Where a walk over terms goes on from it by itself: from a reference to its place, from a pair to its parts. A place's name, a tuple's
-- `Raw` and a wide number's lower bits are read as they are, and waiting lists are walked apart.
abbrev pub Reaches : Cell → ℕ → Type 0
Reaches (Ref a) b = b ≡ a
Reaches (RoRef a) b = b ≡ a
Reaches (Cons a) b = (b ≡ a) ⊎ (b ≡ suc a)
Reaches _ b = ⊥

-- whatever is reached is referred to
pub reaches_refers : (c : Cell) (b : ℕ) → Reaches c b → Refers c b
reaches_refers (Unbound e) b r = absurd r
reaches_refers (Ref a) b r = inl r
reaches_refers (RoRef a) b r = inl r
reaches_refers (Small z) b r = absurd r
reaches_refers (Wide a h) b r = absurd r
reaches_refers (Str s) b r = absurd r
reaches_refers Nil b r = absurd r
reaches_refers (Cons a) b r = r
reaches_refers (Tuple a) b r = absurd r
reaches_refers (Status d) b r = absurd r
reaches_refers (Raw n) b r = absurd r
reaches_refers (Top a) b r = absurd r

-- where the number stands that tells to what more it refers
abbrev pub teller : Cell → Option ℕ
teller (Unbound e) = if nat_eq e 0 then None else Some e
teller (Cons a) = Some a
teller (Tuple a) = Some a
teller _ = None

-- how many words stand behind a `Raw`: a tuple's parts, or the two operands of an operator, which is above 65
abbrev pub parts : ℕ → ℕ
parts n = if nat_lt n 66 then n else 2

-- and to what more, where a `Raw` of n stands there: to the process of a waiting entry, to an entry's link, to parts
abbrev pub RefersBy : ℕ → Cell → ℕ → Type 0
RefersBy n (Unbound e) b = b ≡ n
RefersBy n (Cons a) b = (b ≡ n) ⊎ (b ≡ a + 2)
RefersBy n (Tuple a) b = (a < b) × (b ≤ a + parts n)
RefersBy n _ b = ⊥

-- and where a walk goes on by a `Raw` of n: from a tuple to its parts
abbrev pub ReachesBy : ℕ → Cell → ℕ → Type 0
ReachesBy n (Tuple a) b = (a < b) × (b ≤ a + parts n)
ReachesBy n _ b = ⊥

-- whatever is reached so is referred to
pub reaches_by_refers : (n : ℕ) (c : Cell) (b : ℕ) → ReachesBy n c b → RefersBy n c b
reaches_by_refers n (Unbound e) b r = absurd r
reaches_by_refers n (Ref a) b r = absurd r
reaches_by_refers n (RoRef a) b r = absurd r
reaches_by_refers n (Small z) b r = absurd r
reaches_by_refers n (Wide a h) b r = absurd r
reaches_by_refers n (Str s) b r = absurd r
reaches_by_refers n Nil b r = absurd r
reaches_by_refers n (Cons a) b r = absurd r
reaches_by_refers n (Tuple a) b r = r
reaches_by_refers n (Status d) b r = absurd r
reaches_by_refers n (Raw m) b r = absurd r
reaches_by_refers n (Top a) b r = absurd r

-- To which of them it refers as to its parts: all but a place and its name. Parts are never changed.
abbrev pub HasPart : Cell → ℕ → Type 0
HasPart (Ref a) b = ⊥
HasPart (RoRef a) b = ⊥
HasPart c b = Refers c b

-- and as to parts by a number: an entry's link, and a tuple's parts; an entry's process changes
abbrev pub HasPartBy : ℕ → Cell → ℕ → Type 0
HasPartBy n (Cons a) b = b ≡ a + 2
HasPartBy n (Tuple a) b = (a < b) × (b ≤ a + parts n)
HasPartBy n _ b = ⊥
