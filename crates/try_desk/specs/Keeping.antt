-- What a call leaves as it is.
use Rattle.std.specs.Prelude.{◌≡◌, length}
use Rattle.try_desk.specs.Held.{Kept}
use Rattle.try_desk.specs.declared.desk.Desk.{Desk}

-- the goal's arguments stay, and so does the number of slots
pub record KeepsArguments (old new : Kept) : Type 0 where
  pub args : new.args ≡ old.args
  pub count : length new.slots ≡ length old.slots

-- the slots keep the arguments, and the desk the clause that is tried, where the trial goes on, and whether all tries before it failed
pub record KeepsDesk (old new : Desk) : Type 0 where
  pub slots : KeepsArguments old.slots new.slots
  pub clause : new.clause ≡ old.clause
  pub next : new.next ≡ old.next
  pub behind : new.behind ≡ old.behind
