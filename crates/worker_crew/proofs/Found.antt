-- What a turn found and made of the front of the queue.
use Rattle.std.proofs.Common.{◌≡◌, ℕ, ◌+◌, ◌-◌, ◌<◌, ◌≤◌, Bool, true, false, List, [], ◌∷◌, ◌++◌, length, Some, refl, sym, ap, ◌∙◌, subst, arith}
use Rattle.std.specs.Prelude.{if◌then◌else◌}
use Rattle.fcp_model.specs.declared.run.Entry.{Entry}
use Rattle.fcp_model.specs.declared.run.Entry.TheVariants.{Commit, Hang, Fail, Snapshot, Suspend, Resume, Abort}
use Rattle.fcp_model.specs.declared.run.Proc.{Proc}
use Rattle.heap_words.specs.Cells.{decoded}
use Rattle.heap_words.specs.declared.cell.Cell.TheVariants.{Status}
use Rattle.heap_words.specs.declared.cell.Stand.{Stand}
use Rattle.heap_words.specs.declared.cell.Stand.TheVariants.{Ready}
use Rattle.heap_words.specs.Heaps.{inside_at}
use Rattle.heap_words.specs.Trails.{WordList, word_at}
use Rattle.word_states.specs.Words.{Words, AreApart, HasAll, over}
use Rattle.word_states.specs.Going.{Move, GoesOn}
use Rattle.word_states.proofs.Lists.{apart_word}
use Rattle.word_commit.specs.declared.quota.Quota.{Quota}
use Rattle.word_moves.specs.declared.word_move.WordMove.{WordMove}
use Rattle.move_plans.specs.declared.planner.Planner.{Planner}
use Rattle.move_plans.specs.Plans.{IsMoveOf, IsPlan, move_of}
use Rattle.commit_engine.specs.declared.plain_hall.PlainHall.{PlainHall}
use Rattle.commit_engine.specs.Halls.{moves_of, commits_of}
use Rattle.commit_engine.specs.PlainHalls.{IsPlain, IsSilent, IsFound, IsAdded, holds_of}
use Rattle.commit_engine.specs.declared.answer.Turn.{Turn}
use Rattle.commit_engine.specs.declared.answer.Turn.TheVariants as answer
use Rattle.commit_engine.specs.declared.answer.Spent.TheVariants as spent
use Rattle.commit_engine.specs.Turns.{IsCommit, IsHang, Made, TurnSays, has_made}
use Rattle.run_laws.specs.Laws.{AFoundMoveGoesOn, AFrontCosts, AFrontIsReady}
use Rattle.run_laws.specs.Running.{Counts, StandsAt, IsGoing, IsFront, IsFoundMove, IsMoveBy}
use Rattle.worker_crew.specs.declared.task.Task.{Task}
use Rattle.worker_crew.specs.declared.engine.Engine.{Engine}
use Rattle.worker_crew.specs.Tasks.{IsTask, program}
use Rattle.worker_crew.specs.Reached.{setting, mode_of, controls_left, entries_left, counts_of, IsAtRest, IsReached, HasRoom}
use Rattle.worker_crew.specs.Moved.{MovesFront, HasMoved, HasFailed, HasPassed}
use Rattle.worker_crew.proofs.Counting.{length_more}
use Rattle.worker_crew.proofs.Halls.{moved_words}

-- a move of a process, as the planner and as the laws say it
move_by : (e : Entry) (r : Proc) → IsMoveOf e r → IsMoveBy e r
move_by (Commit q k) r h = h
move_by (Hang q) r h = h
move_by (Fail q) r h = h
move_by Snapshot r h = h
move_by Suspend r h = h
move_by Resume r h = h
move_by Abort r h = h

-- the takes and the quota of a hall
abbrev pub looks : PlainHall → List (ℕ × Bool)
looks h = []

abbrev pub purse_of : PlainHall → Quota
purse_of h = h.quota

-- The front made an entry of this kind, and fewer are left.
pub record HasMadeEntry (t : Task) (e new : Engine) (IsOfKind : Entry → Type 0) : Type 0 where
  pub moved : HasMoved t new
  pub kind : IsOfKind new.planner.entry
  pub less : entries_left t new < entries_left t e

-- where no entry was made, the engine stands where it stood
module _ (t : Task) (e : Engine) (h : PlainHall) (pl : Planner) (silent : IsSilent e.hall h) (quota : h.quota ≡ e.hall.quota)
    (spare : h.spare ≡ e.hall.spare) (plain : IsPlain h) (free : (q : ℕ) → holds_of h q ≡ false) (idle : h.due ≡ false) where
  abbrev still : Engine
  still = record e { hall = h; planner = pl }

  counts_with : Quota → List Entry → Counts
  counts_with q log = record {
    passed = e.passed;
    asleep = e.asleep;
    entries = length log;
    moved = t.limits.moves - q.moves;
    commits = q.commits;
    moves = q.moves;
    cells = q.cells;
    mode = mode_of e.mode;
    controls = controls_left t e;
  }

  counts_same : counts_of t e ≡ counts_of t still
  unfolding counts_with
  counts_same = λ i. counts_with (sym quota i) (sym silent.1 i)

  rest_still : IsAtRest t e → IsAtRest t still
  rest_still r = record {
    plain = plain;
    free = free;
    idle = idle;
    room = let a = r.room in let b = ap (λ (q : Quota). q.moves) quota in omega arith;
    few = let a = r.few in let b = ap length silent.1 in omega arith;
    within = r.within;
  }

  pub reached_still : (front : List ℕ) → IsReached t front e → IsReached t front still
  reached_still front r = record {
    events = r.events;
    at = r.at;
    book = r.book;
    stands = subst (λ ws. StandsAt (setting t) ws (front ++ e.queue.items) (counts_of t still) r.events r.at r.book) (sym silent.0)
        (subst (λ c. StandsAt (setting t) e.hall.words.items (front ++ e.queue.items) c r.events r.at r.book) counts_same r.stands);
    log = silent.1 ∙ r.log;
    rest = rest_still r.rest;
    few = let a = r.few in let b = ap length silent.1 in omega arith;
  }

  pub front_still : (p : ℕ) (v : Move) (after : Words) → MovesFront t p e v after → MovesFront t p still v after
  unfolding reached_still
  front_still p v after f = record {
    reached = reached_still (p ∷ []) f.reached;
    is_front = subst (λ ws. IsFront v ws p e.queue.items (counts_of t still)) (sym silent.0)
        (subst (λ c. IsFront v e.hall.words.items p e.queue.items c) counts_same f.is_front);
    goes = f.goes;
  }

  pub room_still : HasRoom t e → HasRoom t still
  room_still r = record {
    going = subst IsGoing counts_same r.going;
    commits = let a = r.commits in let b = ap (λ (q : Quota). q.commits) quota in omega arith;
    moves = let a = r.moves in let b = ap (λ (q : Quota). q.moves) quota in omega arith;
    passed = r.passed;
  }

module _ (t : Task) (p : ℕ) (e : Engine) (task : IsTask t) (r : IsReached t (p ∷ []) e) (room : HasRoom t e) (law : AFoundMoveGoesOn) where
  -- a move whose reads the words have is one of the front, and goes on
  goes_on : (v : Move) → IsFoundMove (program t) v e.hall.words.items p
      → IsFront v e.hall.words.items p e.queue.items (counts_of t e)
      × GoesOn (program t) v r.book r.at.state (over (v.writes (length e.hall.log.items + 1)) (inside_at e.hall.words.items))
  goes_on v found =
      let some : e.passed < length (p ∷ e.queue.items) = let h = room.passed in omega arith in
      let few : length e.hall.log.items + 1 < 134217728 =
      let a = r.rest.plain.few in let b = r.rest.room in let c = room.moves in omega arith in
      law (setting t) e.hall.words.items e.queue.items p (counts_of t e) r.events r.at r.book v r.stands few found room.going room.commits
      room.moves some

  module _ (h : PlainHall) (pl : Planner) where
    -- the front made an entry
    pub has_moved : (w : WordMove) (n : ℕ) (v : Move)
        → Made {S = PlainHall} IsFound looks purse_of IsSilent IsAdded t.code.now e.hall h pl p w n v → moves_of w.entry ≡ 1 → IsPlain h
        → ((q : ℕ) → holds_of h q ≡ false) → h.due ≡ false → h.spare ≡ e.hall.spare - 1
        → HasMoved t (record e { hall = h; planner = pl })
    has_moved w n v made one plain free idle spare =
        let same : v.entry ≡ w.entry = made.carried.entry in
        let found : IsFoundMove (program t) v e.hall.words.items p = record {
          address = made.carried.process ∙ made.address;
          fits = made.fits (program t) task.code;
          has = subst (λ xs. HasAll xs (inside_at e.hall.words.items)) (sym made.carried.reads) made.is_added.reads;
          mover = made.named.mover;
          is_move = subst (λ x. IsMoveBy x made.named.mover) (sym same) (move_by w.entry made.named.mover made.named.is_move);
          small = made.named.small;
          name = let x = made.named.name in
              (x.0, ap (λ xs. word_at xs (p + 1)) made.carried.reads ∙ x.1, x.2);
        } in
        let both = goes_on v found in
        let number : n ≡ length e.hall.log.items + 1 = let a = made.is_added.number in omega arith in
        let words : inside_at h.words.items ≡ over (v.writes (length e.hall.log.items + 1)) (inside_at e.hall.words.items) =
        moved_words e.hall h w n v made.is_added made.carried
        ∙ ap (λ k. over (v.writes k) (inside_at e.hall.words.items)) number in
        record {
          old = e;
          front = p;
          move = v;
          moves_front = record {
            reached = r;
            is_front = both.0;
            goes = subst (GoesOn (program t) v r.book r.at.state) (sym words) both.1;
          };
          tells = made.tells;
          log = made.is_added.log ∙ ap (λ (x : Entry). e.hall.log.items ++ x ∷ []) (sym same);
          rest = record {
            plain = plain;
            free = free;
            idle = idle;
            room = let a = made.left.moves in let b = r.rest.room in let c = room.moves in omega arith;
            few =
                let a = ap length made.is_added.log ∙ length_more e.hall.log.items w.entry in
                let b = r.rest.few in let c = r.rest.room in let d = room.moves in
                omega arith;
            within = r.rest.within;
          };
          queue = refl;
          asleep = refl;
          made = refl;
          mode = refl;
          paid = subst (λ k. k ≤ e.hall.quota.cells) (sym made.carried.cells) made.paid.cells;
          commits = made.left.commits ∙ ap (λ x. e.hall.quota.commits - commits_of x) (sym same);
          moves = made.left.moves ∙ ap (λ x. e.hall.quota.moves - moves_of x) (sym same);
          cells = made.left.cells ∙ ap (λ k. e.hall.quota.cells - k) (sym made.carried.cells);
        }

    -- an entry of its kind
    pub has_made_entry : (w : WordMove) (n : ℕ) (v : Move)
        → Made {S = PlainHall} IsFound looks purse_of IsSilent IsAdded t.code.now e.hall h pl p w n v → moves_of w.entry ≡ 1 → IsPlain h
        → ((q : ℕ) → holds_of h q ≡ false) → h.due ≡ false → h.spare ≡ e.hall.spare - 1 → (IsOfKind : Entry → Type 0) → IsOfKind w.entry
        → HasMadeEntry t e (record e { hall = h; planner = pl }) IsOfKind
    has_made_entry w n v made one plain free idle spare IsOfKind kind = record {
      moved = has_moved w n v made one plain free idle spare;
      kind = subst IsOfKind (sym made.carried.entry ∙ made.tells.entry) kind;
      less = let a = made.left.moves in let b = room.moves in omega arith;
    }

    -- the hall had what was found
    has_found : (kept : WordList) → AreApart kept → ((a x : ℕ) → word_at kept a ≡ Some x → IsFound e.hall h a x)
        → HasAll kept (inside_at e.hall.words.items)
    has_found kept apart words a x k =
        let f = words a x (apart_word kept a x apart k) in
        ap (λ ws. inside_at ws a) (sym f.0.0) ∙ f.1

    -- a move that is planned by words that were found is one of the front
    pub planned : IsPlan t.code.now pl p
        → ((a x : ℕ) → word_at pl.machine.trail.kept a ≡ Some x → IsFound e.hall h a x)
        → MovesFront t p e (move_of pl p) (over ((move_of pl p).writes (length e.hall.log.items + 1)) (inside_at e.hall.words.items))
    planned plan words =
        let found : IsFoundMove (program t) (move_of pl p) e.hall.words.items p = record {
          address = refl;
          fits = plan.fits (program t) task.code;
          has = has_found pl.machine.trail.kept plan.safe.reads.apart words;
          mover = plan.named.mover;
          is_move = move_by pl.entry plan.named.mover plan.named.is_move;
          small = plan.named.small;
          name = plan.named.name;
        } in
        let both = goes_on (move_of pl p) found in
        record { reached = r; is_front = both.0; goes = both.1 }

    -- what a turn of the front answered
    module _ (said : Turn) (says : TurnSays {S = PlainHall} IsFound looks purse_of IsSilent IsAdded t.code.now e.hall h pl p said)
        (purse : has_made said ≡ false → h.quota ≡ e.hall.quota)
        (spare : h.spare ≡ (if has_made said then e.hall.spare - 1 else e.hall.spare)) (plain : IsPlain h)
        (free : (q : ℕ) → holds_of h q ≡ false) (idle : h.due ≡ false) where
      says_of : (a : Turn) → said ≡ a → TurnSays {S = PlainHall} IsFound looks purse_of IsSilent IsAdded t.code.now e.hall h pl p a
      says_of a is = subst (TurnSays {S = PlainHall} IsFound looks purse_of IsSilent IsAdded t.code.now e.hall h pl p) is says

      spare_of : (b : Bool) → has_made said ≡ b → h.spare ≡ (if b then e.hall.spare - 1 else e.hall.spare)
      spare_of b is = subst (λ x. h.spare ≡ (if x then e.hall.spare - 1 else e.hall.spare)) is spare

      pub committed : (n : ℕ) → said ≡ answer.Committed n → HasMadeEntry t e (record e { hall = h; planner = pl }) IsCommit
      committed n is =
          let s = says_of (answer.Committed n) is in
          has_made_entry s.0 n s.1 s.2 (ap moves_of s.3.2) plain free idle (spare_of true (ap has_made is)) IsCommit s.3

      pub hung : (n : ℕ) → said ≡ answer.Hung n → HasMadeEntry t e (record e { hall = h; planner = pl }) IsHang
      hung n is =
          let s = says_of (answer.Hung n) is in
          has_made_entry s.0 n s.1 s.2 (ap moves_of s.3.1) plain free idle (spare_of true (ap has_made is)) IsHang s.3

      pub failed : said ≡ answer.Fails → HasFailed t p (record e { hall = h; planner = pl })
      failed is =
          let s = says_of answer.Fails is in
          let quota = purse (ap has_made is) in
          let same = spare_of false (ap has_made is) in
          record {
            move = move_of pl p;
            after = over ((move_of pl p).writes (length e.hall.log.items + 1)) (inside_at e.hall.words.items);
            moves_front = front_still t e h pl s.0 quota same plain free idle p (move_of pl p) _ (planned s.1.plan s.1.words);
            tells = refl;
            fails = s.1.fail;
          }

      pub passes : AFrontCosts → (needed left : ℕ) → said ≡ answer.Spent (spent.Cells needed left)
          → HasPassed t p (record e { hall = h; planner = pl })
      unfolding reached_still
      passes law needed left is =
          let s = says_of (answer.Spent (spent.Cells needed left)) is in
          let quota = purse (ap has_made is) in
          let same = spare_of false (ap has_made is) in
          let found : HasAll pl.machine.trail.kept (inside_at e.hall.words.items) = has_found pl.machine.trail.kept s.3.plan.reads.apart
          s.3.words in
          record {
            reached = reached_still t e h pl s.0 quota same plain free idle (p ∷ []) r;
            room = room_still t e h pl s.0 quota same plain free idle room;
            needed = needed;
            costs = law (setting t) e.hall.words.items e.queue.items p (counts_of t e) r.events r.at r.book pl.machine.trail.kept needed
                r.stands found (s.3.plan.costs (program t) task.code);
            large =
                let a = s.1 in let b = s.2 in let f = ap (λ (q : Quota). q.cells) quota in
                omega (arith, a, b, f);
          }

      -- as many entries are left where none was made
      pub still_left : has_made said ≡ false → entries_left t (record e { hall = h; planner = pl }) ≡ entries_left t e
      still_left is = ap (λ (q : Quota). q.moves + length (controls_left t e)) (purse is)

      -- the front is Ready
      pub not_gone : AFrontIsReady → (d : Stand) → said ≡ answer.Gone d → ⊥
      not_gone front d is =
          let s = says_of (answer.Gone d) is in
          let at_front = front (setting t) e.hall.words.items e.queue.items p (counts_of t e) r.events r.at r.book r.stands in
          let words : Some s.1.0 ≡ Some at_front.0 =
          sym s.1.1.1 ∙ ap (λ ws. inside_at ws p) s.0.0 ∙ at_front.1 in
          let word : s.1.0 ≡ at_front.0 = cc in
          let cells : Some (Status d) ≡ Some (Status Ready) = sym s.1.2 ∙ ap decoded word ∙ at_front.2 in
          let stand : d ≡ Ready = cc in
          s.1.3 stand
