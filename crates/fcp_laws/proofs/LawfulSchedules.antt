-- The controls that are left are lawful in each schedule to which a run of one worker comes.
use Rattle.std.proofs.Common.{◌≡◌, ℕ, ◌+◌, ◌<◌, ◌≤◌, Bool, true, false, List, [], ◌∷◌, refl, sym, subst, arith}
use Rattle.std.proofs.lemmas.Bool.{eqb-false, true≢false}
use Rattle.fcp_model.specs.declared.run.Limits.{Limits}
use Rattle.fcp_model.specs.declared.run.Control.{Control}
use Rattle.fcp_model.specs.Programs.{Program}
use Rattle.fcp_model.specs.Decisions.{Decision, commits, decides_fail, waits_on}
use Rattle.fcp_model.specs.States.{Process, State, Mode, is_open, is_held, is_failed, is_aborted}
use Rattle.fcp_model.specs.Events.{Event, event_of}
use Rattle.fcp_model.specs.OneWorker.{Schedule, is_over, is_due, mode_after, after_event, begin, Leads}
use Rattle.fcp_laws.proofs.Rulings.{Holds, after_control}
use Rattle.fcp_laws.proofs.ScheduleCounts.{LeadsOn, by_rulings}
use Rattle.fcp_model.specs.LawfulControls.{AreLawfulFrom, AreLawful}

abbrev pub has_failed : Mode → Bool
has_failed is_failed = true
has_failed is_open = false
has_failed is_held = false
has_failed is_aborted = false

-- no move is made past the number of the next control
abbrev pub IsAhead : ℕ → List Control → Type 0
IsAhead moves [] = Unit {0}
IsAhead moves (c ∷ cs) = moves ≤ c.after

pub record IsLawfulSchedule (at : Schedule) : Type 0 where
  pub ahead : IsAhead at.moves at.controls
  pub lawful : has_failed at.state.mode ≡ false → AreLawfulFrom at.moves at.state.mode at.controls

pub not_failed : (mode : Mode) → is_over mode ≡ false → has_failed mode ≡ false
not_failed is_open e = refl
not_failed is_held e = refl
not_failed is_aborted e = refl
not_failed is_failed e = e

ahead_of : (k : ℕ) (mode : Mode) (cs : List Control) → AreLawfulFrom k mode cs → IsAhead k cs
ahead_of k mode [] h = tt
ahead_of k mode (c ∷ cs) h = h.0

pub not_due_yet : (k : ℕ) (c : Control) (cs : List Control) → is_due (c ∷ cs) k ≡ false → k ≤ c.after → k < c.after
not_due_yet k c cs d h = let other : c.after ≡ k → ⊥ = eqb-false c.after k d in omega (arith, other)

ahead_later : (k : ℕ) (cs : List Control) → is_due cs k ≡ false → IsAhead k cs → IsAhead (k + 1) cs
ahead_later k [] d h = tt
ahead_later k (c ∷ cs) d h = omega (arith, not_due_yet k c cs d h)

lawful_later : (k : ℕ) (mode : Mode) (cs : List Control) → is_due cs k ≡ false → AreLawfulFrom k mode cs → AreLawfulFrom (k + 1) mode cs
lawful_later k mode [] d h = tt
lawful_later k mode (c ∷ cs) d h = (omega (arith, not_due_yet k c cs d h.0), h.1, h.2)

-- what a lawful schedule says of the next control
pub next_allowed : (at : Schedule) → IsLawfulSchedule at → is_over at.state.mode ≡ false → (c : Control) (cs : List Control)
    → at.controls ≡ c ∷ cs → AreLawfulFrom at.moves at.state.mode (c ∷ cs)
next_allowed at h o c cs e = subst (AreLawfulFrom at.moves at.state.mode) e (h.lawful (not_failed at.state.mode o))

pub control_lawful : (at : Schedule) → IsLawfulSchedule at → is_over at.state.mode ≡ false → (c : Control) (cs : List Control)
    → at.controls ≡ c ∷ cs → c.after ≡ at.moves → IsLawfulSchedule (after_control at c cs)
control_lawful at h o c cs e d =
    let rest : AreLawfulFrom at.moves (mode_after c.act at.state.mode) cs =
    subst (λ k. AreLawfulFrom k (mode_after c.act at.state.mode) cs) d (next_allowed at h o c cs e).2 in
    record { ahead = ahead_of at.moves _ cs rest; lawful = λ f. rest }

pub pass_lawful : (at : Schedule) → IsLawfulSchedule at → (queue : List Process) (passed : ℕ)
    → IsLawfulSchedule (record at { queue = queue; passed = passed })
pass_lawful at h queue passed = record { ahead = h.ahead; lawful = h.lawful }

pub move_lawful : (m : Program) (at : Schedule) (p : Process) (rest : List Process) (d : Decision) → is_due at.controls at.moves ≡ false
    → IsLawfulSchedule at → IsLawfulSchedule (after_event at rest (event_of m at.state p d))
move_lawful m at p rest (commits k bs rs) d h =
    record { ahead = ahead_later _ _ d h.ahead; lawful = λ f. lawful_later _ _ _ d (h.lawful f) }
move_lawful m at p rest (waits_on rs) d h = record { ahead = ahead_later _ _ d h.ahead; lawful = λ f. lawful_later _ _ _ d (h.lawful f) }
move_lawful m at p rest (decides_fail rs) d h = record { ahead = ahead_later _ _ d h.ahead; lawful = λ f. absurd (true≢false f) }

abbrev LawfulOn : Schedule → List Event × Schedule → Type 0
LawfulOn from x = IsLawfulSchedule from → IsLawfulSchedule x.1

lawful_on : (n : ℕ) (m : Program) (limits : Limits) (at : Schedule) → Holds n m limits at (LeadsOn LawfulOn at)
lawful_on n m limits at = record {
  at_end = tt;
  at_control = λ o c cs i j x rec h. rec (control_lawful at h o c cs i j);
  at_pass = λ p rest d f i x rec h. rec (pass_lawful at h _ _);
  at_move = λ p rest d f i x rec h. rec (move_lawful m at p rest d f.not_due h);
}

pub begin_lawful : (s : State) (cs : List Control) → s.mode ≡ is_open → AreLawful cs → IsLawfulSchedule (begin s cs)
begin_lawful s cs o h =
    let here : AreLawfulFrom 0 s.mode cs = subst (λ mode. AreLawfulFrom 0 mode cs) (sym o) h in
    record { ahead = ahead_of 0 s.mode cs here; lawful = λ f. here }

pub leads_lawful : (m : Program) (limits : Limits) (from : Schedule) (evs : List Event) (at : Schedule) → IsLawfulSchedule from
    → Leads m limits from evs at → IsLawfulSchedule at
leads_lawful m limits from evs at h l =
    by_rulings l.steps m limits LawfulOn (λ to i. i) (lawful_on l.steps m limits) l.count from (evs, at) l.followed h
