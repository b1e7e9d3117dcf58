-- The state behind an entry is ordered, and has one entry more.
use Rattle.std.proofs.Common.{◌≡◌, ℕ, suc, ◌<◌, ◌≤◌, Bool, true, false, List, [], ◌∷◌, ◌++◌, map, refl, arith}
use Rattle.std.specs.Prelude.{◌||◌}
use Rattle.std.proofs.lemmas.Bool.{lt-ltb}
use Rattle.fcp_model.specs.Places.{is_older_process, places_among}
use Rattle.fcp_model.specs.Programs.{Program}
use Rattle.fcp_model.specs.Decisions.{Decision, commits, decides_fail, waits_on}
use Rattle.fcp_model.specs.Cells.{clause_used}
use Rattle.fcp_model.specs.States.{waiting, finished, Process, State, Mode}
use Rattle.fcp_model.specs.Events.{event_of, wake, with_status, children_of}
use Rattle.fcp_model.specs.LawfulStates.{Each, NamesRise, NamesWithin, IsOrdered}
use Rattle.fcp_laws.proofs.ProcessNames.{each_map, rise_map, each_so, each_append}
use Rattle.fcp_laws.proofs.WaitingProcesses.{with_status-name, wake-name}
use Rattle.fcp_laws.proofs.QueueMoves.{children_entry, children_rise}
use Rattle.std.proofs.Common.{◌∙◌}

names_later : (n : ℕ) (ps : List Process) → NamesWithin n ps → NamesWithin (suc n) ps
names_later n ps h = each_so (λ p. p.name.entry ≤ n) (λ p. p.name.entry ≤ suc n) (λ p i. omega arith) ps h

-- processes of later entries come last
rise_join : (n : ℕ) (ps qs : List Process) → NamesRise ps → NamesWithin n ps → NamesRise qs → Each (λ q. n < q.name.entry) qs
    → NamesRise (ps ++ qs)
rise_join n [] qs h w i l = i
rise_join n (p ∷ ps) qs h w i l =
    (each_append IsYounger ps qs h.0 (each_so (λ q. n < q.name.entry) IsYounger older qs l), rise_join n ps qs h.1 w.1 i l)
  where
    IsYounger : Process → Type 0
    IsYounger q = is_older_process p.name q.name ≡ true

    first_true : (b c : Bool) → b ≡ true → (b || c) ≡ true
    first_true true c e = refl
    first_true false c e = absurd cc

    older : (q : Process) → n < q.name.entry → is_older_process p.name q.name ≡ true
    older q i = first_true _ _ (lt-ltb p.name.entry q.name.entry (omega (arith, w.0, i)))

-- an entry that changes the number of entries and the mode alone
pub later_ordered : (s : State) (mode : Mode) → IsOrdered s → IsOrdered (record s { entries = suc s.entries; mode = mode })
later_ordered s mode h = record { rise = h.rise; within = names_later s.entries s.processes h.within }

pub event_ordered : (m : Program) (s : State) (x : Process) (d : Decision) → IsOrdered s → IsOrdered (event_of m s x d).after
event_ordered m s x (decides_fail rs) h = record { rise = h.rise; within = names_later s.entries s.processes h.within }
event_ordered m s x (waits_on rs) h = record {
  rise = rise_map hung names s.processes h.rise;
  within = each_map hung names (λ n. n.entry ≤ suc s.entries) s.processes (names_later s.entries s.processes h.within);
}
  where
    hung : Process → Process
    hung q = with_status x.name (waiting (places_among rs)) q

    names : (q : Process) → (hung q).name ≡ q.name
    names q = with_status-name x.name (waiting (places_among rs)) q
event_ordered m s x (commits k bs rs) h = record {
  rise =
      rise_join s.entries (map kept s.processes) children (rise_map kept names s.processes h.rise)
      (each_map kept names (λ n. n.entry ≤ s.entries) s.processes h.within) (children_rise (suc s.entries) 1 _)
      (children_entry (λ n. s.entries < n) (suc s.entries) 1 _ (omega arith));
  within = each_append (λ q. q.name.entry ≤ suc s.entries) (map kept s.processes) children
      (each_map kept names (λ n. n.entry ≤ suc s.entries) s.processes (names_later s.entries s.processes h.within))
      (children_entry (λ n. n ≤ suc s.entries) (suc s.entries) 1 _ (omega arith));
}
  where
    children : List Process
    children = children_of (suc s.entries) (clause_used m x.goal k)

    kept : Process → Process
    kept q = wake bs (with_status x.name finished q)

    names : (q : Process) → (kept q).name ≡ q.name
    names q = wake-name bs (with_status x.name finished q) ∙ with_status-name x.name finished q

pub event_number : (m : Program) (s : State) (x : Process) (d : Decision) → (event_of m s x d).after.entries ≡ suc s.entries
event_number m s x (commits k bs rs) = refl
event_number m s x (waits_on rs) = refl
event_number m s x (decides_fail rs) = refl
