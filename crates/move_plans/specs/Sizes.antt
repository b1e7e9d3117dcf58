-- The cells of a commit, by what was read of the process.
use Rattle.std.specs.Prelude.{◌≡◌, ℕ, ◌+◌, List, Option, Some, None, option_map, unwrap_or, slice_get, nat_eq, nat_lt, if◌then◌else◌}
use Rattle.fcp_model.specs.declared.goal.TheConstants.{TRUE_PROCEDURE}
use Rattle.heap_words.specs.Trails.{WordList}
use Rattle.machine_code.specs.Machine.{Entrance}
use Rattle.machine_code.specs.Compiling.{Tables, name_kept, clause_at}
use Rattle.trial_machine.specs.Goals.{NumberRead}

-- the cells of a clause, where the procedure of this name has so many arguments; else 1
abbrev pub cells_where : Option (ℕ × ℕ) → ℕ → Option ℕ → ℕ
cells_where None n cells = 1
cells_where (Some e) n cells = if nat_eq e.1 n then unwrap_or cells 1 else 1

-- of clause k of procedure f, called with n arguments; of a built-in process 1
abbrev pub cells_by : List Entrance → ℕ → ℕ → ℕ → ℕ
cells_by ps f n k = if nat_lt f TRUE_PROCEDURE
    then cells_where (option_map name_kept (slice_get ps f)) n (option_map (λ c. c.cells) (clause_at ps f k)) else 1

-- where both numbers were read
abbrev pub cells_found : List Entrance → Option ℕ → Option ℕ → ℕ → ℕ
cells_found ps (Some f) (Some n) k = cells_by ps f n k
cells_found ps _ _ k = 1

-- these are the cells of the commit of the process at p by clause k, by the numbers that were read of it
abbrev pub CellsRead : Tables → WordList → ℕ → ℕ → ℕ → Type 0
CellsRead t kept p k cells =
    (f n : Option ℕ) × NumberRead kept (p + 2) f × NumberRead kept (p + 3) n × (cells ≡ cells_found t.procedures f n k)
