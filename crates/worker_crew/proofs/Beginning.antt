-- Where the engine stands before the first entry.
use Rattle.std.proofs.Common.{◌≡◌, ℕ, ◌+◌, false, List, [], length, drop, refl, sym, ap, arith}
use Rattle.fcp_model.specs.declared.run.Control.{Control}
use Rattle.fcp_model.specs.OneWorker.{begin}
use Rattle.fcp_model.specs.Translation.{started_goals}
use Rattle.fcp_model.specs.LawfulStates.{IsOrdered}
use Rattle.fcp_laws.proofs.SoundSchedules.{start_ordered}
use Rattle.word_commit.specs.declared.quota.Quota.{Quota}
use Rattle.commit_engine.specs.PlainHalls.{IsPlain, holds_of}
use Rattle.ready_lists.specs.Ready.{AreReady}
use Rattle.ready_lists.specs.Laws.{ReadyAreThoseOfTheState}
use Rattle.run_laws.specs.Laws.{ABeginningStands}
use Rattle.run_laws.specs.Running.{first_counts}
use Rattle.worker_crew.specs.declared.mode.RunMode.TheVariants as mode
use Rattle.worker_crew.specs.declared.task.Task.{Task}
use Rattle.worker_crew.specs.declared.engine.Engine.{Engine}
use Rattle.worker_crew.specs.Tasks.{IsTask, first_state, vars}
use Rattle.worker_crew.specs.Reached.{setting, mode_of, counts_of, AreFirstWords, IsReached}
use Rattle.worker_crew.proofs.Counting.{same_counts, stands_same}

-- the engine stands at the beginning
pub begun : (t : Task) (ws ready : List ℕ) → IsTask t → AreFirstWords t ws → AreReady ws ready → ReadyAreThoseOfTheState → ABeginningStands
    → (e : Engine) → e.hall.words.items ≡ ws → e.hall.log.items ≡ [] → IsPlain e.hall → ((p : ℕ) → holds_of e.hall p ≡ false)
    → e.hall.due ≡ false
    → e.hall.quota ≡ record { commits = t.limits.commits; moves = t.limits.moves; cells = t.limits.cells }
    → e.hall.spare ≡ t.limits.moves + 64 → e.queue.items ≡ ready → e.passed ≡ 0 → e.asleep ≡ 0 → e.made ≡ 0 → e.mode ≡ mode.Open
    → IsReached t [] e
begun t ws ready task first are_ready law_ready law e words log plain free idle quota spare queue passed asleep made open_mode =
    let l = first.2 in
    let gs = started_goals t.loaded.now t.goal.now.0 in
    let ordered : IsOrdered (first_state t) = start_ordered (vars t) gs in
    let at_ready = law_ready ws ready l.book (first_state t) are_ready l.stands ordered in
    let stands = law (setting t) gs ws ready l.book refl l.heap l.stands at_ready l.places in
    let moves : e.hall.quota.moves ≡ t.limits.moves = ap (λ (q : Quota). q.moves) quota in
    let controls : drop e.made t.controls.now ≡ t.controls.now = ap (λ (n : ℕ). drop n t.controls.now) made in
    let counts = same_counts (first_counts t.limits t.controls.now) (counts_of t e) (sym passed) (sym asleep) (sym (ap length log))
    (omega (arith, moves)) (ap (λ (q : Quota). q.commits) (sym quota)) (sym moves) (ap (λ (q : Quota). q.cells) (sym quota))
    (ap mode_of (sym open_mode)) (sym controls) in
    record {
      events = [];
      at = begin (first_state t) t.controls.now;
      book = l.book;
      stands = stands_same (setting t) _ _ _ _ _ _ [] (begin (first_state t) t.controls.now) l.book stands (sym words) (sym queue) counts;
      log = log;
      rest = record {
        plain = plain;
        free = free;
        idle = idle;
        room = let a = ap (λ (cs : List Control). length cs) controls in let b = task.few in omega (arith, spare, moves);
        few = let a = ap length log in omega (arith, spare);
        within = omega (arith, made);
      };
      few = omega (arith, asleep);
    }
