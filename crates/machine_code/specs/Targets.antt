-- Where instructions lead.
use Rattle.std.specs.Prelude.{ℕ, suc, ◌<◌, List, [], ◌∷◌}
use Rattle.machine_code.specs.Instructions.{Op, Try, GetCons, GetTuple, Jump}

-- each position that an instruction names lies after its own
abbrev pub LeadsBehind : ℕ → Op → Type 0
LeadsBehind at (Try clause next) = at < next
LeadsBehind at (GetCons slot left right put) = at < put
LeadsBehind at (GetTuple slot first parts put) = at < put
LeadsBehind at (Jump to) = at < to
LeadsBehind at _ = Unit {0}

-- so for all instructions from a position on: a trial runs each of them at most once
abbrev pub AllLeadBehind : ℕ → List Op → Type 0
AllLeadBehind at [] = Unit {0}
AllLeadBehind at (o ∷ os) = LeadsBehind at o × AllLeadBehind (suc at) os
