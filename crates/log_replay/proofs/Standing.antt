-- A replay stands for the same state where nothing of it changed but its scratch, and behind an entry without words.
use Rattle.std.proofs.Common.{◌≡◌, ◌⊎◌, ℕ, suc, ◌<◌, List, [], ◌∷◌, ◌++◌, length, sym, ap, ◌∙◌, subst, inl, inr, arith}
use Rattle.fcp_model.specs.declared.run.Entry.{Entry}
use Rattle.fcp_model.specs.declared.run.Entry.TheVariants.{Commit, Hang, Fail, Snapshot, Suspend, Resume, Abort}
use Rattle.fcp_model.specs.Programs.{Program}
use Rattle.fcp_model.specs.States.{Mode, State}
use Rattle.fcp_model.specs.LawfulStates.{IsOrdered}
use Rattle.fcp_model.specs.Events.{Event}
use Rattle.fcp_model.specs.Runs.{last_state}
use Rattle.heap_words.specs.Heaps.{inside_at}
use Rattle.word_states.specs.Standing.{Book, StandsFor}
use Rattle.run_laws.proofs.LaterStates.{later_stands}
use Rattle.commit_engine.specs.PlainHalls.{IsSame}
use Rattle.entry_lines.specs.Lines.{IsCommitThere, IsHangThere}
use Rattle.log_replay.specs.declared.replay.Replay.{Replay}
use Rattle.log_replay.specs.Tables.{Table, HasReady}
use Rattle.log_replay.specs.Replays.{words_of, mode_of, IsAtRest, HasState, IsReplayed, IsNext, IsDone, Shows, ShowsMove}
use Rattle.log_replay.specs.Parts.{IsControl, NotesEntry}
use Rattle.log_replay.proofs.MadeMoves.{commits_few, moves_few}
use Rattle.log_replay.proofs.OrderedEvents.{later_ordered}
use Rattle.log_replay.proofs.RunsOn.{run_on, last_on, cells_on, length_on}

-- nothing but scratch changed
pub replay_of : (m : Program) (from : State) (cells : ℕ) (evs : List Event) (old new : Replay)
    → new.hall.words.items ≡ old.hall.words.items → new.hall.log.items ≡ old.hall.log.items → new.hall.quota ≡ old.hall.quota
    → new.hall.spare ≡ old.hall.spare → IsAtRest new.hall → new.ready ≡ old.ready → new.mode ≡ old.mode → new.entries ≡ old.entries
    → IsReplayed m from cells evs old → IsReplayed m from cells evs new
replay_of m from cells evs old new words log quota spare rest table mode entries h = record {
  run = h.run;
  ordered = h.ordered;
  state = record {
    book = h.state.book;
    stands = subst (λ (xs : List ℕ). StandsFor h.state.book (inside_at xs) (last_state from evs)) (sym words) h.state.stands;
    ready = subst (λ t. HasReady h.state.book (last_state from evs) t.addresses.entries) (sym table) h.state.ready;
    places = h.state.places;
  };
  mode = ap mode_of mode ∙ h.mode;
  rest = rest;
  entries = h.entries;
  made = entries ∙ h.made;
  log = ap length log ∙ h.log;
  commits = omega (arith, ap (λ q. q.commits) quota, spare, h.commits);
  moves = omega (arith, ap (λ q. q.moves) quota, spare, h.moves);
  spent = omega (arith, ap (λ q. q.cells) quota, h.spent);
}

pub kept_replay : (m : Program) (from : State) (cells : ℕ) (evs : List Event) (old new : Replay) → IsSame old.hall new.hall
    → IsAtRest new.hall → new.ready ≡ old.ready → new.mode ≡ old.mode → new.entries ≡ old.entries → IsReplayed m from cells evs old
    → IsReplayed m from cells evs new
kept_replay m from cells evs old new same rest table mode entries h =
    replay_of m from cells evs old new same.words same.log same.quota same.spare rest table mode entries h

-- what is shown stays
shown_move : (old new : Replay) (book : Book) (ev : Event) (e : Entry) → new.hall.words.items ≡ old.hall.words.items
    → new.bound ≡ old.bound → new.woken ≡ old.woken → new.waits ≡ old.waits → ShowsMove old book ev e → ShowsMove new book ev e
shown_move old new book ev (Commit p k) words bound woken waits h =
    subst (λ (xs : List ℕ). IsCommitThere (inside_at xs) book ev ev.after.entries p k new.bound.items new.woken.items) (sym words)
    (subst (λ (xs : List ℕ). IsCommitThere (words_of old) book ev ev.after.entries p k new.bound.items xs) (ap (λ v. v.items) (sym woken))
    (subst (λ (xs : List ℕ). IsCommitThere (words_of old) book ev ev.after.entries p k xs old.woken.items) (ap (λ v. v.items) (sym bound))
    h))
shown_move old new book ev (Hang p) words bound woken waits h =
    subst (λ (xs : List ℕ). IsHangThere (inside_at xs) book ev ev.after.entries p new.waits.items) (sym words)
    (subst (λ (xs : List ℕ). IsHangThere (words_of old) book ev ev.after.entries p xs) (ap (λ v. v.items) (sym waits)) h)
shown_move old new book ev (Fail p) words bound woken waits h = tt
shown_move old new book ev Snapshot words bound woken waits h = tt
shown_move old new book ev Suspend words bound woken waits h = tt
shown_move old new book ev Resume words bound woken waits h = tt
shown_move old new book ev Abort words bound woken waits h = tt

pub kept_shown : (old new : Replay) (ev : Event) → new.hall.words.items ≡ old.hall.words.items → new.bound ≡ old.bound
    → new.woken ≡ old.woken → new.waits ≡ old.waits → new.entry ≡ old.entry → new.entries ≡ old.entries → Shows ev old → Shows ev new
kept_shown old new ev words bound woken waits entry entries h = record {
  entry = entry ∙ h.entry;
  number = entries ∙ h.number;
  book = h.book;
  stands = subst (λ (xs : List ℕ). StandsFor h.book (inside_at xs) ev.after) (sym words) h.stands;
  move = shown_move old new h.book ev ev.entry words bound woken waits h.move;
}

-- one entry more changes no process
later_ready : (book : Book) (s : State) (mode : Mode) (t : Table) → HasReady book s t
    → HasReady book (record s { entries = suc s.entries; mode = mode }) t
later_ready book s mode t h = record {
  only = λ q p e. let o = h.only q p e in
      record { process = o.process; there = o.there; named = o.named; may_move = o.may_move };
  all = h.all;
}

-- the entry writes no words
abbrev pub IsWordless : Entry → Type 0
IsWordless e = IsControl e ⊎ ((p : _) × (e ≡ Fail p))

no_move : (r : Replay) (book : Book) (ev : Event) (e : Entry) → IsControl e → ShowsMove r book ev e
no_move r book ev (Commit p k) h = absurd h
no_move r book ev (Hang p) h = absurd h
no_move r book ev (Fail p) h = absurd h
no_move r book ev Snapshot h = tt
no_move r book ev Suspend h = tt
no_move r book ev Resume h = tt
no_move r book ev Abort h = tt

wordless : (r : Replay) (book : Book) (ev : Event) (e : Entry) → IsWordless e → ShowsMove r book ev e
wordless r book ev e (inl h) = no_move r book ev e h
wordless r book ev e (inr (p, h)) = subst (ShowsMove r book ev) (sym h) tt

-- an entry without words was made, and is the next one
module _ (m : Program) (from : State) (cells : ℕ) (evs : List Event) (old : Replay) (h : IsReplayed m from cells evs old) (e : Entry)
    (room : 0 < old.hall.spare) (kind : IsWordless e) (ev : Event) (mode : Mode) (is_next : IsNext m (last_state from evs) e ev)
    (has : ev.entry ≡ e) (free : ev.cells ≡ 0)
    (after : ev.after ≡ record (last_state from evs) { entries = suc (last_state from evs).entries; mode = mode })
    (mid new : Replay) (notes : NotesEntry e old mid) (same : IsSame mid.hall new.hall) (rest : IsAtRest new.hall)
    (table : new.ready ≡ mid.ready) (entry : new.entry ≡ mid.entry) (entries : new.entries ≡ mid.entries)
    (now : mode_of new.mode ≡ mode) where
  abbrev s : State
  s = last_state from evs

  abbrev s' : State
  s' = record s { entries = suc s.entries; mode = mode }

  stands : StandsFor h.state.book (words_of new) s'
  stands = subst (λ (xs : List ℕ). StandsFor h.state.book (inside_at xs) s') (sym (same.words ∙ notes.words))
      (later_stands h.state.book (words_of old) s mode h.state.stands)

  state : HasState from s' new
  state = record {
    book = h.state.book;
    stands = stands;
    ready = subst (λ t. HasReady h.state.book s' t.addresses.entries) (sym (table ∙ notes.table))
        (later_ready h.state.book s mode old.ready.addresses.entries h.state.ready);
    places = h.state.places;
  }

  replayed : IsReplayed m from cells (evs ++ ev ∷ []) new
  replayed =
      let last : last_state from (evs ++ ev ∷ []) ≡ s' = last_on from evs ev ∙ after in
      let long = length_on evs ev in
      let a = h.entries in let b = h.made in let c = h.log in
      let few = commits_few e in let few' = moves_few e in
      let less = ap (λ q. q.commits) same.quota ∙ notes.left.commits in
      let less' = ap (λ q. q.moves) same.quota ∙ notes.left.moves in
      let less'' = ap (λ q. q.cells) same.quota ∙ notes.left.cells in
      let spare = same.spare ∙ notes.left.spare in
      record {
        run = run_on m from evs ev h.run (subst (λ x. IsNext m s x ev) (sym has) is_next);
        ordered = subst IsOrdered (sym last) (later_ordered s mode h.ordered);
        state = subst (λ (x : State). HasState from x new) (sym last) state;
        mode = now ∙ ap (λ (x : State). x.mode) (sym last);
        rest = rest;
        entries = ap (λ (x : State). x.entries) last ∙ omega (arith, a, long);
        made = omega (arith, entries, notes.entries, b, long);
        log = ap length same.log ∙ (notes.log ∙ omega (arith, c, long));
        commits = omega (arith, less, spare, few, h.commits);
        moves = omega (arith, less', spare, few', h.moves);
        spent = omega (arith, cells_on evs ev, less'', free, h.spent);
      }

  pub entry_done : IsDone m from cells evs e new
  entry_done = record {
    event = ev;
    is_next = is_next;
    within = omega (arith, free, h.spent);
    replayed = replayed;
    shows = record {
      entry = entry ∙ (notes.entry ∙ sym has);
      number = omega (arith, entries, notes.entries, h.made, h.entries, ap (λ (x : State). x.entries) after);
      book = h.state.book;
      stands = subst (StandsFor h.state.book (words_of new)) (sym after) stands;
      move = subst (ShowsMove new h.state.book ev) (sym has) (wordless new h.state.book ev e kind);
    };
  }
