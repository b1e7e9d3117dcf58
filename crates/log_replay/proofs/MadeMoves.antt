-- A commit or a hang that was made, with the table behind it, is the next entry of the run.
use Rattle.std.proofs.Common.{◌≡◌, ◌⊎◌, ℕ, suc, ◌-◌, ◌/◌, ◌≤◌, List, [], ◌∷◌, ◌++◌, map, length, length-append}
use Rattle.std.proofs.Common.{refl, sym, ap, ◌∙◌, subst, inl, inr, arith}
use Rattle.fcp_model.specs.declared.run.Proc.{Proc}
use Rattle.fcp_model.specs.declared.run.Entry.{Entry}
use Rattle.fcp_model.specs.declared.run.Entry.TheVariants.{Commit, Hang, Fail, Snapshot, Suspend, Resume, Abort}
use Rattle.fcp_model.specs.Programs.{Program}
use Rattle.fcp_model.specs.Decisions.{Decision, commits, decides_fail, waits_on}
use Rattle.fcp_model.specs.States.{Process, State}
use Rattle.fcp_model.specs.LawfulStates.{IsOrdered}
use Rattle.fcp_model.specs.Events.{Event, event_of, made_ready}
use Rattle.heap_words.specs.Heaps.{inside_at}
use Rattle.heap_words.specs.Trails.{WordList}
use Rattle.word_states.specs.Words.{over}
use Rattle.word_states.specs.Standing.{Book, StandsFor}
use Rattle.word_states.specs.Going.{Move, GoesOn}
use Rattle.sound_entries.proofs.Heaps.{after_words}
use Rattle.word_moves.specs.declared.word_move.WordMove.{WordMove}
use Rattle.commit_engine.specs.Halls.{writes_of, commits_of, moves_of}
use Rattle.commit_engine.specs.PlainHalls.{IsPlain, IsSilent, IsFound, IsAdded}
use Rattle.commit_engine.specs.Finishing.{IsEntered}
use Rattle.commit_engine.specs.Turns.{IsCommit, IsHang}
use Rattle.entry_lines.specs.Lines.{IsCommitThere, IsHangThere}
use Rattle.run_laws.proofs.Fronts.{IsMadeBy}
use Rattle.run_laws.proofs.KnownWords.{processes_known}
use Rattle.log_replay.specs.declared.replay.Replay.{Replay}
use Rattle.log_replay.specs.Tables.{HasReady, PutsAll, TakesOut}
use Rattle.log_replay.specs.Replays.{words_of, mode_of, HasState, IsReplayed, IsNext, IsDone, ShowsMove}
use Rattle.log_replay.specs.Parts.{IsMoving, MayMake, AreInUse, NotesMove}
use Rattle.log_replay.proofs.GoingMoves as going
use Rattle.log_replay.proofs.MoveLines.{number, commit_there, hang_there}
use Rattle.log_replay.proofs.OrderedEvents.{event_ordered}
use Rattle.log_replay.proofs.ReadyAfter.{ready_after}
use Rattle.log_replay.proofs.RunsOn.{run_on, last_on, cells_on, length_on}

pub commits_few : (x : Entry) → commits_of x ≤ 1
commits_few (Commit p k) = omega arith
commits_few (Hang p) = omega arith
commits_few (Fail p) = omega arith
commits_few Snapshot = omega arith
commits_few Suspend = omega arith
commits_few Resume = omega arith
commits_few Abort = omega arith

pub moves_few : (x : Entry) → moves_of x ≤ 1
moves_few (Commit p k) = omega arith
moves_few (Hang p) = omega arith
moves_few (Fail p) = omega arith
moves_few Snapshot = omega arith
moves_few Suspend = omega arith
moves_few Resume = omega arith
moves_few Abort = omega arith

-- a commit or a hang is made of no fail
no_fail : (m : Program) (s : State) (y : Process) (d : Decision) (ev : Event) (e : Entry) → ev ≡ event_of m s y d → ev.entry ≡ e
    → IsCommit e ⊎ IsHang e → (rs : List _) → d ≡ decides_fail rs → ⊥
no_fail m s y d ev e is has (inl (q, k, c)) rs f =
    let wrong : Commit q k ≡ Fail y.name =
    sym c ∙ (sym has ∙ (ap (λ (x : Event). x.entry) is ∙ ap (λ (x : Decision). (event_of m s y x).entry) f)) in cc
no_fail m s y d ev e is has (inr (q, h)) rs f =
    let wrong : Hang q ≡ Fail y.name =
    sym h ∙ (sym has ∙ (ap (λ (x : Event). x.entry) is ∙ ap (λ (x : Decision). (event_of m s y x).entry) f)) in cc

kept_mode : (m : Program) (s : State) (y : Process) (d : Decision) → ((rs : List _) → d ≡ decides_fail rs → ⊥)
    → (event_of m s y d).after.mode ≡ s.mode
kept_mode m s y (commits k bs rs) other = refl
kept_mode m s y (waits_on rs) other = refl
kept_mode m s y (decides_fail rs) other = absurd (other rs refl)

module _ (m : Program) (from : State) (cells : ℕ) (evs : List Event) (r : Replay) (q : Proc) (p : ℕ) (mv : IsMoving r q p)
    (may : MayMake m from cells evs r p) (mid : Replay) (e : WordMove) (n : ℕ)
    (en : IsEntered (λ h. length h.words.items / 1024) (λ h. h.due) (λ h. h.quota) (λ h. h.spare) (λ h. []) IsSilent IsFound IsAdded
    r.hall mid.hall r.planner mid.planner p e n) where
  abbrev s : State
  s = going.s m from cells evs r q p mv may

  abbrev v : Move
  v = going.v m from cells evs r q p mv may

  abbrev book : Book
  book = going.book m from cells evs r q p mv may

  abbrev y : Process
  y = (going.at m from cells evs r q p mv may).process

  entries_are : length r.hall.log.items ≡ s.entries
  entries_are = may.replayed.log ∙ sym may.replayed.entries

  written_is : writes_of e n ≡ v.writes (suc s.entries)
  written_is = sym (en.carried.writes n) ∙ ap v.writes (en.is_added.number ∙ ap suc entries_are)

  words : words_of mid ≡ over (v.writes (suc s.entries)) (words_of r)
  words =
      ap inside_at en.is_added.words ∙ (after_words r.hall.words.items (writes_of e n) en.is_added.may
      ∙ ap (λ (xs : WordList). over xs (words_of r)) written_is)

  abbrev g : GoesOn m v book s (words_of mid)
  g = subst (GoesOn m v book s) (sym words) (going.goes m from cells evs r q p mv may)

  abbrev ev : Event
  ev = g.goes.event

  abbrev by : IsMadeBy g.goes.steps m s y v.entry ev
  by = going.made_by m from cells evs r q p mv may (words_of mid) g

  -- the names of the children and of the woken are in use
  pub children_known : IsPlain mid.hall → AreInUse mid.hall.words.items mid.planner.children.items
  children_known plain = subst (AreInUse mid.hall.words.items) en.tells.children
      (processes_known mid.hall.words.items g.goes.book ev.after v.children ev.children plain.heap g.goes.stands g.children)

  pub woken_known : IsPlain mid.hall → AreInUse mid.hall.words.items mid.planner.woken.items
  woken_known plain = subst (AreInUse mid.hall.words.items) en.tells.woken
      (processes_known mid.hall.words.items g.goes.book ev.after v.woken (map made_ready ev.woken) plain.heap g.goes.stands g.woken)

  module _ (kind : IsCommit e.entry ⊎ IsHang e.entry) (table : mid.ready ≡ r.ready) (entries : mid.entries ≡ r.entries)
      (mode : mid.mode ≡ r.mode) (spare : mid.hall.spare ≡ r.hall.spare - 1) (new : Replay) (notes : NotesMove q mid new) where
    not_failed : (rs : List _) → by.decision ≡ decides_fail rs → ⊥
    not_failed = no_fail m s y by.decision ev e.entry by.is (by.has ∙ en.carried.entry) kind

    ready : HasReady g.goes.book ev.after new.ready.addresses.entries
    ready =
        let at = going.at m from cells evs r q p mv may in
        ready_after m v book s (words_of r) (words_of mid) q p y may.replayed.state.stands at.there at.named refl g by.decision by.is
        not_failed r.ready.addresses.entries notes.without notes.with_children new.ready.addresses.entries may.replayed.state.ready
        (subst (λ t. TakesOut q t notes.without) (ap (λ t. t.addresses.entries) table) notes.taken)
        (subst (λ (xs : List ℕ). PutsAll (words_of mid) xs notes.without notes.with_children) (sym en.tells.children) notes.born)
        (subst (λ (xs : List ℕ). PutsAll (words_of mid) xs notes.with_children new.ready.addresses.entries) (sym en.tells.woken)
        notes.woken)

    abbrev state : HasState from ev.after new
    state = record {
      book = g.goes.book;
      stands = subst (λ (xs : List ℕ). StandsFor g.goes.book (inside_at xs) ev.after) (sym notes.hall.words) g.goes.stands;
      ready = ready;
      places = λ k a b. g.places_stay _ _ (may.replayed.state.places k a b);
    }

    numbered : ev.after.entries ≡ suc s.entries
    numbered = number m v book s (words_of r) (words_of mid) y may.replayed.state.stands g by

    costs : (ev.cells ≡ e.cells) × (e.cells ≤ r.hall.quota.cells)
    costs = (g.cells ∙ en.carried.cells, en.paid.cells)

    replayed : IsReplayed m from cells (evs ++ ev ∷ []) new
    replayed =
        let last = last_on from evs ev in
        let long = length_on evs ev in
        let a = may.replayed.entries in let b = may.replayed.made in let c = may.replayed.log in
        let few = commits_few e.entry in let few' = moves_few e.entry in
        let room = mv.room in
        let less = ap (λ h. h.commits) notes.hall.quota ∙ en.left.commits in
        let less' = ap (λ h. h.moves) notes.hall.quota ∙ en.left.moves in
        let less'' = ap (λ h. h.cells) notes.hall.quota ∙ en.left.cells in
        let spare' = notes.hall.spare ∙ spare in
        record {
          run = run_on m from evs ev may.replayed.run
              (subst (λ x. IsNext m s x ev) (sym by.has) (g.goes.steps, g.goes.legal));
          ordered = subst IsOrdered (sym last)
              (subst (λ (x : Event). IsOrdered x.after) (sym by.is) (event_ordered m s y by.decision may.replayed.ordered));
          state = subst (λ (x : State). HasState from x new) (sym last) state;
          mode = ap mode_of (notes.mode ∙ mode) ∙ (may.replayed.mode
              ∙ (sym (ap (λ (x : Event). x.after.mode) by.is ∙ kept_mode m s y by.decision not_failed)
              ∙ ap (λ (x : State). x.mode) (sym last)));
          rest = notes.rest;
          entries = ap (λ (x : State). x.entries) last ∙ omega (arith, numbered, a, long);
          made = omega (arith, notes.entries, entries, b, long);
          log = ap length (notes.hall.log ∙ en.is_added.log) ∙ omega (arith, length-append r.hall.log.items (e.entry ∷ []), c, long);
          commits = omega (arith, less, spare', few, may.replayed.commits);
          moves = omega (arith, less', spare', few', may.replayed.moves);
          spent = omega (arith, cells_on evs ev, less'', costs.0, costs.1, may.replayed.spent);
        }

    -- the addresses that are shown are those of the move
    bound_is : v.bound ≡ new.bound.items
    bound_is = en.tells.bound ∙ sym notes.shown_bound

    woken_is : v.woken ≡ new.woken.items
    woken_is = en.tells.woken ∙ sym notes.shown_woken

    waits_is : v.waits ≡ new.waits.items
    waits_is = en.tells.waits ∙ sym notes.shown_waits

    shows_move : IsCommit e.entry ⊎ IsHang e.entry → ShowsMove new g.goes.book ev ev.entry
    shows_move (inl (c, k, h)) =
        let is : v.entry ≡ Commit c k = en.carried.entry ∙ h in
        let there = commit_there m v book s (words_of r) (words_of mid) y may.replayed.state.stands g by c k is in
        let now : IsCommitThere (words_of new) g.goes.book ev ev.after.entries c k v.bound v.woken =
        subst (λ (xs : List ℕ). IsCommitThere (inside_at xs) g.goes.book ev ev.after.entries c k v.bound v.woken) (sym notes.hall.words)
        there in
        let moved : IsCommitThere (words_of new) g.goes.book ev ev.after.entries c k new.bound.items v.woken =
        subst (λ (xs : List ℕ). IsCommitThere (words_of new) g.goes.book ev ev.after.entries c k xs v.woken) bound_is now in
        subst (ShowsMove new g.goes.book ev) (sym (by.has ∙ is))
        (subst (λ (xs : List ℕ). IsCommitThere (words_of new) g.goes.book ev ev.after.entries c k new.bound.items xs) woken_is
        moved)
    shows_move (inr (c, h)) =
        let is : v.entry ≡ Hang c = en.carried.entry ∙ h in
        let there = hang_there m v book s (words_of r) (words_of mid) y may.replayed.state.stands g by c is in
        let now : IsHangThere (words_of new) g.goes.book ev ev.after.entries c v.waits =
        subst (λ (xs : List ℕ). IsHangThere (inside_at xs) g.goes.book ev ev.after.entries c v.waits) (sym notes.hall.words) there in
        subst (ShowsMove new g.goes.book ev) (sym (by.has ∙ is))
        (subst (λ (xs : List ℕ). IsHangThere (words_of new) g.goes.book ev ev.after.entries c xs) waits_is now)

    pub done : IsDone m from cells evs r.planner.entry new
    done = record {
      event = ev;
      is_next = (g.goes.steps, g.goes.legal);
      within = omega (arith, costs.0, costs.1, may.replayed.spent);
      replayed = replayed;
      shows = record {
        entry = notes.entry ∙ (sym en.tells.entry ∙ sym by.has);
        number = omega (arith, notes.entries, entries, may.replayed.made, may.replayed.entries, numbered);
        book = g.goes.book;
        stands = state.stands;
        move = shows_move kind;
      };
    }
