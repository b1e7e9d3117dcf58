-- Where a replay begins.
use Rattle.std.proofs.Common.{◌≡◌, ℕ, ◌+◌, ◌≤◌, Bool, true, false, cond, List, [], ◌∷◌, length, None, Some}
use Rattle.std.proofs.Common.{refl, sym, ap, ◌∙◌, subst, arith}
use Rattle.std.specs.Prelude.{filter}
use Rattle.fcp_model.specs.declared.source.Module.{Module}
use Rattle.fcp_model.specs.declared.source.GoalText.{GoalText}
use Rattle.fcp_model.specs.States.{Process, State, is_ready}
use Rattle.fcp_model.specs.Translation.{program_of, start_of, started_goals}
use Rattle.fcp_laws.proofs.SoundSchedules.{start_ordered}
use Rattle.heap_words.specs.Heaps.{inside_at}
use Rattle.word_states.specs.Words.{Words, IsIn}
use Rattle.word_states.specs.Standing.{Book, StandsFor}
use Rattle.word_states.specs.Going.{AllAt}
use Rattle.goal_layout.specs.Goals.{LaysGoal}
use Rattle.ready_lists.specs.Ready as lists
use Rattle.ready_lists.specs.Laws.{ReadyAreThoseOfTheState}
use Rattle.commit_engine.specs.declared.plain_hall.PlainHall.{PlainHall}
use Rattle.commit_engine.specs.PlainHalls.{IsPlain, IsSame, holds_of}
use Rattle.commit_engine.specs.PlainLaws.{plain_hall}
use Rattle.run_laws.specs.Running.{IsProcessInUse}
use Rattle.run_laws.proofs.KnownWords.{processes_known}
use Rattle.log_replay.specs.declared.replay.Replay.{Replay}
use Rattle.log_replay.specs.Tables.{Table, HasReady, AreReady, PutsAll}
use Rattle.log_replay.specs.Replays.{mode_of, IsAtRest, IsReplayed}
use Rattle.fcp_model.specs.States.{is_open}
use Rattle.log_replay.proofs.ReadyAfter.{has_ready, one_kept}
use Rattle.log_replay.proofs.ShownLines.{start_places}

-- the Ready processes of a state
abbrev pub ready_of : State → List Process
ready_of s = filter (λ p. is_ready p.status) s.processes

kept_ready : (ps : List Process) → AreReady (filter (λ p. is_ready p.status) ps)
kept_ready [] = tt
kept_ready (p ∷ ps) = go (is_ready p.status) refl (kept_ready ps)
  where
    go : (b : Bool) → is_ready p.status ≡ b → AreReady (filter (λ p. is_ready p.status) ps)
        → AreReady (cond b (p ∷ filter (λ p. is_ready p.status) ps) (filter (λ p. is_ready p.status) ps))
    go true e h = (e, h)
    go false e h = h

pub first_ready : (book : Book) (w : Words) (s : State) (qs : List ℕ) (t : Table) → StandsFor book w s → AllAt book s qs (ready_of s)
    → PutsAll w qs [] t → HasReady book s t
first_ready book w s qs t stands all puts =
    has_ready book w s t stands
    (puts.only book s (ready_of s) stands all (kept_ready s.processes) (λ q p e. let wrong : None ≡ Some p = e in cc))
    (λ x i may. puts.put book s (ready_of s) stands all x (one_kept (λ p. is_ready p.status) s.processes x i may))

-- what is known of the words in which a goal was laid, and of the Ready processes there
pub record IsBeginning (m : Module) (g : GoalText) (ws qs : List ℕ) : Type 0 where
  pub first : ℕ
  pub before : List ℕ
  pub laid : LaysGoal m g first before ws
  pub found : lists.AreReady ws qs
  pub law : ReadyAreThoseOfTheState

module _ (m : Module) (g : GoalText) (ws qs : List ℕ) (b : IsBeginning m g ws qs) where
  abbrev s : State
  s = start_of m g

  all_there : AllAt b.laid.book s qs (ready_of s)
  all_there = b.law ws qs b.laid.book s b.found b.laid.stands (start_ordered (length g.names) (started_goals m g))

  -- the names of the processes are in use
  pub first_known : (q : ℕ) → IsIn q qs → IsProcessInUse ws q
  first_known = processes_known ws b.laid.book s qs (ready_of s) b.laid.heap b.laid.stands all_there

  pub first_replay : (cells : ℕ) (r : Replay) → r.hall.words.items ≡ ws → PutsAll (inside_at ws) qs [] r.ready.addresses.entries
      → IsAtRest r.hall → mode_of r.mode ≡ is_open → r.entries ≡ 0 → r.hall.log.items ≡ [] → r.hall.spare ≤ r.hall.quota.commits
      → r.hall.spare ≤ r.hall.quota.moves → r.hall.quota.cells ≡ cells → IsReplayed (program_of m) s cells [] r
  first_replay cells r words puts rest mode entries log commits moves spent = record {
    run = (0, refl);
    ordered = start_ordered (length g.names) (started_goals m g);
    state = record {
      book = b.laid.book;
      stands = subst (λ (xs : List ℕ). StandsFor b.laid.book (inside_at xs) s) (sym words) b.laid.stands;
      ready = first_ready b.laid.book (inside_at ws) s qs r.ready.addresses.entries b.laid.stands all_there puts;
      places = λ k low high. b.laid.places k low
          (subst (λ (n : ℕ). k ≤ n) (start_places (length g.names) (started_goals m g)) high);
    };
    mode = mode;
    rest = rest;
    entries = refl;
    made = entries;
    log = ap length log;
    commits = commits;
    moves = moves;
    spent = let e : 0 + r.hall.quota.cells ≡ cells = omega (arith, spent) in e;
  }

-- a hall that is as one which holds no page and has nothing to publish is at rest
pub rest_same : (g h : PlainHall) → IsSame g h → IsPlain h → ((p : ℕ) → holds_of g p ≡ false) → g.due ≡ false → IsAtRest h
rest_same g h same plain free idle = record {
  plain = plain;
  free = λ p. plain_hall.later_holds g h p same ∙ free p;
  idle = same.due ∙ idle;
}
