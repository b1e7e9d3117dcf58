-- Entries without words, of a control or a fail, and what their making says of the hall before and after it.
use Rattle.std.specs.Prelude.{◌≡◌, ℕ, ◌-◌, Bool, false, List, []}
use Rattle.fcp_model.specs.declared.run.Entry.{Entry}
use Rattle.word_commit.specs.declared.quota.Quota.{Quota}
use Rattle.word_moves.specs.declared.word_move.WordMove.{WordMove}
use Rattle.commit_engine.specs.Halls.{IsSpent}

-- the entry of a process at this address reads and writes no words, and has no cells
pub record IsBare (e : WordMove) (entry : Entry) (address : ℕ) : Type 0 where
  pub entry_is : e.entry ≡ entry
  pub address_is : e.address ≡ address
  pub reads : e.reads.items ≡ []
  pub writes : e.writes.items ≡ []
  pub cells : e.cells ≡ 0

module _ {S : Type 0} (sound : S → Type 0) (page_count : S → ℕ) (holds : S → ℕ → Bool) (due : S → Bool) (purse : S → Quota) (spare : S → ℕ)
    (takes : S → List (ℕ × Bool)) (added : S → S → WordMove → ℕ → Type 0) (entry : Entry) (address : ℕ) (old new : S) where
  -- Exactly this entry was made, with this number, and published. The quota and the room in the log fell by what it costs; no page was
  -- looked at, taken or given back.
  pub record IsNoted (n : ℕ) : Type 0 where
    pub is_sound : sound new
    pub made : WordMove
    pub bare : IsBare made entry address
    pub is_added : added old new made n
    pub same_holds : (p : ℕ) → holds new p ≡ holds old p
    pub idle : due new ≡ false
    pub spent : IsSpent (purse old) made (purse new)
    pub same_takes : takes new ≡ takes old
    pub same_pages : page_count new ≡ page_count old
    pub less_room : spare new ≡ spare old - 1
