-- A process that committed is finished, and stays finished: it commits once.
use Rattle.std.proofs.Common.{◌≡◌, ℕ, suc, Bool, true, false, cond, List, [], ◌∷◌, ◌++◌, map, Some, refl, sym, ap, ◌∙◌, subst, append_assoc}
use Rattle.std.specs.Prelude.{option_map}
use Rattle.fcp_model.specs.declared.run.Proc.{Proc}
use Rattle.fcp_model.specs.declared.run.Entry.{Entry}
use Rattle.fcp_model.specs.declared.run.Entry.TheVariants.{Commit}
use Rattle.fcp_model.specs.declared.run.Act.{Act}
use Rattle.fcp_model.specs.declared.run.Act.TheVariants as act
use Rattle.fcp_model.specs.Places.{is_same_process, places_among}
use Rattle.fcp_model.specs.Terms.{Bindings}
use Rattle.fcp_model.specs.Programs.{Program}
use Rattle.fcp_model.specs.Decisions.{Decision, commits, decides_fail, waits_on}
use Rattle.fcp_model.specs.States.{ready, waiting, finished, Process, State, process_named}
use Rattle.fcp_model.specs.Cells.{clause_used}
use Rattle.fcp_model.specs.Events.{Event, is_woken, made_ready, wake, with_status, children_of, event_of}
use Rattle.fcp_model.specs.Bounds.{act_entry}
use Rattle.fcp_model.specs.Runs.{next, replay}
use Rattle.fcp_laws.proofs.ProcessNames.{same_process, same_itself, name_found, first_of_two, named_append, named_map}
use Rattle.fcp_laws.proofs.WaitingProcesses.{with_status-name, wake-name}
use Rattle.transition_laws.proofs.NextEvents.{IsMover, by_next}
use Rattle.transition_laws.proofs.LiveGoals.{committed}
use Rattle.transition_laws.proofs.WholeRuns.{first_event}

-- the process of a name is finished
record IsDone (s : State) (name : Proc) : Type 0 where
  process : Process
  named : process_named s.processes name ≡ Some process
  done : process.status ≡ finished

committed-name : (name : Proc) (bs : Bindings) (q : Process) → (committed name bs q).name ≡ q.name
committed-name name bs q = wake-name bs (with_status name finished q) ∙ with_status-name name finished q

named_after : (f : Process → Process) → ((q : Process) → (f q).name ≡ q.name) → (ps new : List Process) (name : Proc) (p : Process) →
    process_named ps name ≡ Some p → process_named (map f ps ++ new) name ≡ Some (f p)
named_after f keeps ps new name p e =
    named_append (map f ps) new name ∙ ap (λ o. first_of_two o (process_named new name)) (named_map f keeps ps name ∙ ap (option_map f) e)

-- a finished process stays so through a commit
stays_done : (name : Proc) (bs : Bindings) (q : Process) → q.status ≡ finished → (committed name bs q).status ≡ finished
stays_done name bs q e = go (is_same_process q.name name)
  where
    go : (b : Bool) → (wake bs (cond b (record q { status = finished }) q)).status ≡ finished
    go true = refl
    go false = ap (λ st. (cond (is_woken bs st) (made_ready q) q).status) e ∙ e

-- a Ready process is not finished
ready_or_done : (s : State) (p q : Process) → process_named s.processes p.name ≡ Some p → p.status ≡ ready →
    process_named s.processes p.name ≡ Some q → q.status ≡ finished → ⊥
ready_or_done s p q e r f d =
    let same : p ≡ q = cc in
    let both : ready ≡ finished = sym r ∙ (ap (λ (x : Process). x.status) same ∙ d) in
    cc

module _ (n : ℕ) (m : Program) (s : State) where
  -- after its commit a process is finished
  move_done : (p : Process) (d : Decision) → IsMover n m s p d → (name : Proc) (k : ℕ) → (event_of m s p d).entry ≡ Commit name k →
      IsDone (event_of m s p d).after name
  move_done p (commits j bs rs) g name k e =
      let named : p.name ≡ name = cc in
      subst (IsDone (event_of m s p (commits j bs rs)).after) named
      (record {
        process = committed p.name bs p;
        named =
            named_after (committed p.name bs) (committed-name p.name bs) s.processes
            (children_of (suc s.entries) (clause_used m p.goal j)) p.name p g.named;
        done = ap (λ b. (wake bs (cond b (record p { status = finished }) p)).status) (same_itself p.name);
      })
  move_done p (waits_on rs) g name k e = absurd cc
  move_done p (decides_fail rs) g name k e = absurd cc

  control_commits_not : (a : Act) (name : Proc) (k : ℕ) → act_entry a ≡ Commit name k → ⊥
  control_commits_not act.Snapshot name k e = cc
  control_commits_not act.Suspend name k e = cc
  control_commits_not act.Resume name k e = cc
  control_commits_not act.Abort name k e = cc

  done_after : (name : Proc) (k : ℕ) (ev : Event) → next n m s (Commit name k) ≡ Some ev → IsDone ev.after name
  done_after name k ev i =
      by_next n m s (λ e' ev'. e' ≡ Commit name k → IsDone ev'.after name)
      (record { at_move = λ p d g. move_done p d g name k; at_control = λ a f e. absurd (control_commits_not a name k e) })
      (Commit name k) ev i refl

  -- a finished process stays finished
  move_keeps : (name : Proc) → IsDone s name → (p : Process) (d : Decision) → IsMover n m s p d → IsDone (event_of m s p d).after name
  move_keeps name h p (commits k bs rs) g = record {
    process = committed p.name bs h.process;
    named =
        named_after (committed p.name bs) (committed-name p.name bs) s.processes
        (children_of (suc s.entries) (clause_used m p.goal k)) name h.process h.named;
    done = stays_done p.name bs h.process h.done;
  }
  move_keeps name h p (waits_on rs) g = record {
    process = with_status p.name (waiting (places_among rs)) h.process;
    named =
        named_map (with_status p.name (waiting (places_among rs))) (with_status-name p.name (waiting (places_among rs))) s.processes name
        ∙ ap (option_map (with_status p.name (waiting (places_among rs)))) h.named;
    done = go (is_same_process h.process.name p.name) refl;
  }
    where
      go : (b : Bool) → is_same_process h.process.name p.name ≡ b →
          (cond b (record h.process { status = waiting (places_among rs) }) h.process).status ≡ finished
      go true e =
          let names : name ≡ p.name = sym (name_found s.processes name h.process h.named) ∙ same_process h.process.name p.name e in
          absurd (ready_or_done s p h.process g.named g.at_ready
          (subst (λ x. process_named s.processes x ≡ Some h.process) names h.named) h.done)
      go false e = h.done
  move_keeps name h p (decides_fail rs) g = record { process = h.process; named = h.named; done = h.done }

  done_kept : (name : Proc) (e : Entry) (ev : Event) → IsDone s name → next n m s e ≡ Some ev → IsDone ev.after name
  done_kept name e ev h i =
      by_next n m s (λ e' ev'. IsDone ev'.after name)
      (record {
        at_move = λ p d g. move_keeps name h p d g;
        at_control = λ a f. record { process = h.process; named = h.named; done = h.done };
      })
      e ev i

  -- a finished process makes no commit
  move_not_done : (name : Proc) (k : ℕ) → IsDone s name → (p : Process) (d : Decision) → IsMover n m s p d →
      (event_of m s p d).entry ≡ Commit name k → ⊥
  move_not_done name k h p (commits j bs rs) g e =
      let names : name ≡ p.name = cc in
      ready_or_done s p h.process g.named g.at_ready (subst (λ x. process_named s.processes x ≡ Some h.process) names h.named) h.done
  move_not_done name k h p (waits_on rs) g e = cc
  move_not_done name k h p (decides_fail rs) g e = cc

  not_again : (name : Proc) (k : ℕ) (ev : Event) → IsDone s name → next n m s (Commit name k) ≡ Some ev → ⊥
  not_again name k ev h i =
      by_next n m s (λ e' ev'. e' ≡ Commit name k → ⊥)
      (record { at_move = λ p d g. move_not_done name k h p d g; at_control = λ a f. control_commits_not a name k })
      (Commit name k) ev i refl

none_later : (n : ℕ) (m : Program) (name : Proc) (k : ℕ) (between after : List Entry) (s : State) (evs : List Event) → IsDone s name →
    replay n m s (between ++ Commit name k ∷ after) ≡ Some evs → ⊥
none_later n m name k [] after s evs h i = let f = first_event n m s (Commit name k) after evs i in not_again n m s name k f.event h f.first
none_later n m name k (e ∷ es) after s evs h i =
    let f = first_event n m s e (es ++ Commit name k ∷ after) evs i in
    none_later n m name k es after f.event.after f.rest (done_kept n m s name e f.event h f.first) f.later

commits_once : (n : ℕ) (m : Program) (name : Proc) (k j : ℕ) (before between after : List Entry) (s : State) (evs : List Event) →
    replay n m s (before ++ (Commit name k ∷ (between ++ (Commit name j ∷ after)))) ≡ Some evs → ⊥
commits_once n m name k j [] between after s evs i =
    let f = first_event n m s (Commit name k) (between ++ Commit name j ∷ after) evs i in
    none_later n m name j between after f.event.after f.rest (done_after n m s name k f.event f.first) f.later
commits_once n m name k j (e ∷ es) between after s evs i =
    let f = first_event n m s e (es ++ (Commit name k ∷ (between ++ (Commit name j ∷ after)))) evs i in
    commits_once n m name k j es between after f.event.after f.rest f.later

pub once : (n : ℕ) (m : Program) (name : Proc) (k j : ℕ) (before between after : List Entry) (s : State) (evs : List Event) →
    replay n m s (before ++ Commit name k ∷ between ++ Commit name j ∷ after) ≡ Some evs → ⊥
once n m name k j before between after s evs i =
    commits_once n m name k j before between after s evs
    (ap (replay n m s) (sym (append_assoc before (Commit name k ∷ between) (Commit name j ∷ after))) ∙ i)
