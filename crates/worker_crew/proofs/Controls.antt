-- Where the engine stands behind a control.
use Rattle.std.proofs.Common.{◌≡◌, ℕ, suc, ◌+◌, ◌-◌, ◌/◌, ◌<◌, false, List, [], ◌∷◌, ◌++◌, length, drop, get_or}
use Rattle.std.proofs.Common.{refl, sym, ap, ◌∙◌, arith, add-one}
use Rattle.std.proofs.Math.Seq.{drop-cons}
use Rattle.fcp_model.specs.declared.run.Act.{Act}
use Rattle.fcp_model.specs.declared.run.Act.TheVariants.{Snapshot, Suspend, Resume, Abort}
use Rattle.fcp_model.specs.declared.run.Control.{Control}
use Rattle.fcp_model.specs.declared.run.Entry.{Entry}
use Rattle.fcp_model.specs.Events.{Event, control_event}
use Rattle.fcp_model.specs.Bounds.{act_entry}
use Rattle.fcp_model.specs.OneWorker.{is_over, mode_after}
use Rattle.commit_engine.specs.declared.plain_hall.PlainHall.{PlainHall}
use Rattle.commit_engine.specs.Bare.{IsNoted}
use Rattle.commit_engine.specs.Halls.{commits_of, moves_of}
use Rattle.commit_engine.specs.PlainHalls.{IsPlain, IsAdded, holds_of}
use Rattle.commit_engine.proofs.BareEntries.{bare_words}
use Rattle.run_laws.specs.Laws.{AControlLeadsOn}
use Rattle.run_laws.specs.Running.{after_control}
use Rattle.worker_crew.specs.declared.task.Task.{Task}
use Rattle.worker_crew.specs.declared.engine.Engine.{Engine}
use Rattle.worker_crew.specs.Reached.{setting, mode_of, controls_left, counts_of, entries_left, IsAtRest, IsReached}
use Rattle.worker_crew.proofs.Counting.{same_counts, stands_same, log_more, length_more}
use Rattle.worker_crew.proofs.Found.{looks, purse_of}

-- an entry without words was made in a plain hall
abbrev pub IsNotedThere : Entry → ℕ → PlainHall → PlainHall → ℕ → Type 0
IsNotedThere entry address old new n =
    IsNoted {S = PlainHall} IsPlain (λ h. length h.words.items / 1024) holds_of (λ h. h.due) purse_of (λ h. h.spare) looks IsAdded
    entry address old new n

-- a control costs nothing
act_commits : (a : Act) → commits_of (act_entry a) ≡ 0
act_commits Snapshot = refl
act_commits Suspend = refl
act_commits Resume = refl
act_commits Abort = refl

act_moves : (a : Act) → moves_of (act_entry a) ≡ 0
act_moves Snapshot = refl
act_moves Suspend = refl
act_moves Resume = refl
act_moves Abort = refl

-- the control that is made next, with those behind it
next_of : (cs : List Control) (k : ℕ) (c : Control) → k < length cs → get_or cs k c ≡ c → drop k cs ≡ c ∷ drop (k + 1) cs
next_of cs k c low is = drop-cons cs k c low
    ∙ (ap (λ (x : Control). x ∷ drop (suc k) cs) is ∙ ap (λ (n : ℕ). c ∷ drop n cs) (sym (add-one k)))

-- a control that is due was made
module _ (t : Task) (e : Engine) (r : IsReached t [] e) (running : is_over (mode_of e.mode) ≡ false) (c : Control)
    (low : e.made < length t.controls.now) (is : get_or t.controls.now e.made c ≡ c) (due : c.after ≡ t.limits.moves - e.hall.quota.moves)
    (new : Engine) (n : ℕ) (noted : IsNotedThere (act_entry c.act) 0 e.hall new.hall n) (queue : new.queue ≡ e.queue)
    (passed : new.passed ≡ e.passed) (asleep : new.asleep ≡ e.asleep) (made : new.made ≡ e.made + 1)
    (mode : mode_of new.mode ≡ mode_after c.act (mode_of e.mode)) where
  left : controls_left t e ≡ c ∷ controls_left t new
  left = next_of t.controls.now e.made c low is ∙ ap (λ (k : ℕ). c ∷ drop k t.controls.now) (sym made)

  same_commits : new.hall.quota.commits ≡ e.hall.quota.commits
  same_commits =
      let a = noted.spent.commits in let b = ap commits_of noted.bare.entry_is ∙ act_commits c.act in
      omega arith

  same_moves : new.hall.quota.moves ≡ e.hall.quota.moves
  same_moves =
      let a = noted.spent.moves in let b = ap moves_of noted.bare.entry_is ∙ act_moves c.act in
      omega arith

  same_cells : new.hall.quota.cells ≡ e.hall.quota.cells
  same_cells = let a = noted.spent.cells in let b = noted.bare.cells in omega arith

  log : new.hall.log.items ≡ e.hall.log.items ++ act_entry c.act ∷ []
  log = noted.is_added.log ∙ ap (λ (x : Entry). e.hall.log.items ++ x ∷ []) noted.bare.entry_is

  long : length new.hall.log.items ≡ length e.hall.log.items + 1
  long = ap length log ∙ length_more e.hall.log.items (act_entry c.act)

  -- one control less is left
  fewer : length (controls_left t e) ≡ length (controls_left t new) + 1
  fewer = ap length left ∙ length_first c (controls_left t new)
    where
      length_first : (d : Control) (ds : List Control) → length (d ∷ ds) ≡ length ds + 1
      length_first d ds = omega arith

  less_left : entries_left t new < entries_left t e
  less_left = let a = same_moves in let b = fewer in omega arith

  control_rest : IsAtRest t new
  control_rest = record {
    plain = noted.is_sound;
    free = λ p. noted.same_holds p ∙ r.rest.free p;
    idle = noted.idle;
    room = let a = r.rest.room in let b = less_left in let d = noted.less_room in omega arith;
    few = let a = r.rest.room in let b = less_left in let d = noted.less_room in let f = r.rest.few in let g = long in omega arith;
    within = omega (arith, made, low);
  }

  pub control_noted : AControlLeadsOn → IsReached t [] new × (entries_left t new < entries_left t e)
  control_noted law =
      let led = law (setting t) e.hall.words.items e.queue.items (counts_of t e) r.events r.at r.book c (controls_left t new) r.stands
      running left due in
      let ev : Event = control_event r.at.state (act_entry c.act) (mode_after c.act (mode_of e.mode)) in
      let counts : after_control (counts_of t e) c (controls_left t new) ≡ counts_of t new = same_counts _ _ (sym passed) (sym asleep)
      (sym long) (ap (λ (k : ℕ). t.limits.moves - k) (sym same_moves)) (sym same_commits) (sym same_moves) (sym same_cells) (sym mode)
      refl in (
        record {
          events = r.events ++ ev ∷ [];
          at = led.0;
          book = r.book;
          stands = stands_same (setting t) _ _ _ _ _ _ _ led.0 r.book led.1
              (sym (bare_words e.hall new.hall noted.made n (act_entry c.act) 0 noted.is_added noted.bare))
              (ap (λ q. q.items) (sym queue)) counts;
          log = log_more e.hall.log.items new.hall.log.items (act_entry c.act) r.events ev r.log log refl;
          rest = control_rest;
          few = let a = r.few in let b = long in omega (arith, asleep);
        },
        less_left,
      )
