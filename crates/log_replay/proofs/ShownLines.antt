-- The lines of a replay: what is read for them is in use, and what they say.
use Rattle.std.proofs.Common.{◌≡◌, ℕ, zero, suc, ◌*◌, ◌≤◌, List, length, map, refl, sym, ap, ◌∙◌, subst}
use Rattle.std.specs.Prelude.{Result, Ok, Err, OnOk}
use Rattle.std.proofs.lemmas.List.{length-map}
use Rattle.fcp_model.specs.declared.source.GoalText.{GoalText}
use Rattle.fcp_model.specs.declared.run.Proc.{Proc}
use Rattle.fcp_model.specs.declared.run.Entry.TheVariants.{Commit, Hang}
use Rattle.fcp_model.specs.Places.{place}
use Rattle.fcp_model.specs.Programs.{Goal}
use Rattle.fcp_model.specs.States.{count_up, start}
use Rattle.fcp_model.specs.Events.{Event, made_ready}
use Rattle.fcp_model.specs.LogText.{event_line}
use Rattle.fcp_model.specs.Runs.{last_state}
use Rattle.fcp_model.specs.Spelling.{Bytes}
use Rattle.fcp_model.specs.Translation.{start_of, started_goals}
use Rattle.heap_words.specs.Heaps.{IsHeap}
use Rattle.heap_words.specs.Trails.{WordList}
use Rattle.word_states.specs.Words.{IsIn}
use Rattle.word_states.specs.Trials.{places_bound}
use Rattle.entry_lines.specs.Additions.{Adds}
use Rattle.entry_lines.specs.Lines.{HasKept, IsCommitThere, IsHangThere, CommitLine, HangLine}
use Rattle.run_laws.specs.Running.{IsPlaceInUse, IsProcessInUse}
use Rattle.run_laws.proofs.KnownWords.{place_known, places_known, processes_known}
use Rattle.log_replay.specs.declared.replay.Replay.{Replay}
use Rattle.log_replay.specs.Replays.{words_of, StandsFromGoal, Shows, ShowsMove}

-- two facts of one answer
pub both_ok : {T E : Type 0} {P Q R : Type 0} (r : Result T E) → (P → Q → R) → OnOk r P → OnOk r Q → OnOk r R
both_ok (Ok x) f p q = f p q
both_ok (Err e) f p q = tt

module _ (r : Replay) (ev : Event) (h : Shows ev r) where
  commit_there : (p : Proc) (k : ℕ) → r.entry ≡ Commit p k
      → IsCommitThere (words_of r) h.book ev r.entries p k r.bound.items r.woken.items
  commit_there p k is =
      subst (λ (n : ℕ). IsCommitThere (words_of r) h.book ev n p k r.bound.items r.woken.items) (sym h.number)
      (subst (ShowsMove r h.book ev) (sym h.entry ∙ is) h.move)

  hang_there : (p : Proc) → r.entry ≡ Hang p → IsHangThere (words_of r) h.book ev r.entries p r.waits.items
  hang_there p is =
      subst (λ (n : ℕ). IsHangThere (words_of r) h.book ev n p r.waits.items) (sym h.number)
      (subst (ShowsMove r h.book ev) (sym h.entry ∙ is) h.move)

  pub bound_known : (p : Proc) (k : ℕ) → r.entry ≡ Commit p k → (a : ℕ) → IsIn a r.bound.items
      → IsPlaceInUse r.hall.words.items a
  bound_known p k is a i =
      places_known r.hall.words.items h.book ev.after r.bound.items (places_bound ev.bindings) h.stands
      (commit_there p k is).places a i

  pub woken_known : (p : Proc) (k : ℕ) → r.entry ≡ Commit p k → IsHeap r.hall.words.items → (q : ℕ) → IsIn q r.woken.items
      → IsProcessInUse r.hall.words.items q
  woken_known p k is heap q i =
      processes_known r.hall.words.items h.book ev.after r.woken.items (map made_ready ev.woken) heap h.stands
      (commit_there p k is).woken_at q i

  pub waits_known : (p : Proc) → r.entry ≡ Hang p → (a : ℕ) → IsIn a r.waits.items → IsPlaceInUse r.hall.words.items a
  waits_known p is a i =
      let j = (hang_there p is).places.only a i in
      place_known r.hall.words.items h.book ev.after j.0 a h.stands j.1

  pub commit_line : (names : List Bytes) (p : Proc) (k : ℕ) → r.entry ≡ Commit p k → (kept : WordList) (old new : Bytes)
      → CommitLine names kept r.entries p k r.bound.items r.woken.items old new → HasKept kept (words_of r)
      → Adds old new (λ n. event_line n names ev)
  commit_line names p k is kept old new line has = line (words_of r) h.book ev has (commit_there p k is)

  pub hang_line : (names : List Bytes) (p : Proc) → r.entry ≡ Hang p → (kept : WordList) (old new : Bytes)
      → HangLine names kept r.entries p r.waits.items old new → HasKept kept (words_of r)
      → Adds old new (λ n. event_line n names ev)
  hang_line names p is kept old new line has = line (words_of r) h.book ev has (hang_there p is)

count_up-length : (from n : ℕ) → length (count_up from n) ≡ n
count_up-length from zero = refl
count_up-length from (suc n) = ap suc (count_up-length (suc from) n)

pub start_places : (vars : ℕ) (gs : List (Goal ℕ)) → length (start vars gs).places ≡ vars
start_places vars gs = length-map (count_up 1 vars) (place 0) ∙ count_up-length 1 vars

-- the words of the goal's places and their names are in use
pub goal_known : (goal : GoalText × List ℕ) (r : Replay) → StandsFromGoal goal r → (k : ℕ) → 1 ≤ k → k ≤ length goal.0.names
    → IsPlaceInUse r.hall.words.items (2 * k)
goal_known goal r h k low high =
    let vars : length (start_of h.m goal.0).places ≡ length goal.0.names =
    start_places (length goal.0.names) (started_goals h.m goal.0) in
    place_known r.hall.words.items h.replayed.state.book (last_state (start_of h.m goal.0) h.events) (place 0 k) (2 * k)
    h.replayed.state.stands (h.replayed.state.places k low (subst (λ (n : ℕ). k ≤ n) (sym vars) high))
