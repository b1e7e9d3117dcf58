-- From the making of an entry to the answer of a turn.
use Rattle.std.proofs.Common.{◌≡◌, ◌⊎◌, ℕ, ◌-◌, ◌<◌, ◌≤◌, Bool, true, List, [], ◌++◌, Option, Some, None, refl, sym, ap, ◌∙◌, subst}
use Rattle.std.proofs.Common.{⊎_elim, inl, inr, arith, true≢false}
use Rattle.fcp_model.specs.declared.run.Entry.{Entry}
use Rattle.fcp_model.specs.declared.run.Entry.TheVariants.{Commit, Hang}
use Rattle.fcp_model.specs.declared.run.Proc.{Proc}
use Rattle.heap_words.specs.Trails.{WordList, word_at}
use Rattle.heap_words.specs.WordsLaws.{WordsLaws}
use Rattle.word_states.specs.Words.{Among, IsIn}
use Rattle.word_states.proofs.Lists.{apart_word}
use Rattle.machine_code.specs.Compiling.{Tables}
use Rattle.safe_tries.specs.Stored.{IsStored}
use Rattle.trial_machine.specs.Stores.{Loads}
use Rattle.word_commit.specs.declared.quota.Quota.{Quota}
use Rattle.word_moves.specs.declared.word_move.WordMove.{WordMove}
use Rattle.word_moves.specs.Planned.{IsCarried, IsSafeMove}
use Rattle.move_plans.specs.declared.planner.Planner.{Planner}
use Rattle.move_plans.specs.Plans.{NamesMover, IsPlan, IsLargePlan, move_of}
use Rattle.commit_engine.specs.declared.answer.Turn.{Turn}
use Rattle.commit_engine.specs.declared.answer.Turn.TheVariants as answer
use Rattle.commit_engine.specs.declared.answer.Spent.TheVariants as spent
use Rattle.commit_engine.specs.declared.making.Making.{Making}
use Rattle.commit_engine.specs.declared.making.Making.TheVariants as making
use Rattle.commit_engine.specs.declared.prepared.Prepared.{Prepared}
use Rattle.commit_engine.specs.Halls.{HallLaws, IsPaid, IsSpent, commits_of, moves_of}
use Rattle.commit_engine.specs.Making.{MakeSays, IsMade, is_made}
use Rattle.commit_engine.specs.Takes.{IsNeeded}
use Rattle.commit_engine.specs.Finishing.{answer_of, AnswerSays, IsLeft, IsPrepared, IsEntered, FinishSays}
use Rattle.commit_engine.specs.Turns.{IsCommit, IsHang, TurnSays, has_made}
use Rattle.std.specs.Prelude.{if◌then◌else◌}
use Rattle.commit_engine.proofs.Entering.{is_needed}
use Rattle.commit_engine.proofs.Paging.{took_all}

-- a move of one commit or one hang is paid where the quota has them left
pub paid_by : (q : Quota) (e : WordMove) (pl : Planner) (p : ℕ) → IsCarried e (move_of pl p) → IsCommit pl.entry ⊎ IsHang pl.entry
    → (0 < q.commits) × (0 < q.moves) → pl.cells ≤ q.cells → IsPaid q e
paid_by q e pl p c (inl k) left cells =
    let same : e.entry ≡ Commit k.0 k.1 = sym c.entry ∙ k.2 in
    let a : commits_of e.entry ≡ 1 = ap commits_of same in
    let b : moves_of e.entry ≡ 1 = ap moves_of same in
    let d : pl.cells ≡ e.cells = c.cells in
    let f : 0 < q.commits = left.0 in
    let g : 0 < q.moves = left.1 in
    record { commits = omega arith; moves = omega arith; cells = omega arith }
paid_by q e pl p c (inr k) left cells =
    let same : e.entry ≡ Hang k.0 = sym c.entry ∙ k.1 in
    let a : commits_of e.entry ≡ 0 = ap commits_of same in
    let b : moves_of e.entry ≡ 1 = ap moves_of same in
    let d : pl.cells ≡ e.cells = c.cells in
    let g : 0 < q.moves = left.1 in
    record { commits = omega arith; moves = omega arith; cells = omega arith }

module _ {S : Type 0} (page_count : S → ℕ) (due : S → Bool) (purse : S → Quota) (spare : S → ℕ) (takes : S → List (ℕ × Bool))
    (silent : S → S → Type 0) (found : S → S → ℕ → ℕ → Type 0) (added : S → S → WordMove → ℕ → Type 0) (alone : S → Type 0)
    (old new : S) (before after : Planner) (p : ℕ) (r : Prepared) (prepared : IsPrepared before after p r)
    (paid : IsPaid (purse old) r.entry) where
  entered : (n : ℕ) → IsMade page_count due purse spare takes silent found added r.entry r.pages.items old new n
      → IsEntered page_count due purse spare takes silent found added old new before after p r.entry n
  entered n s = record {
    is_added = s.is_added;
    address = prepared.address;
    carried = prepared.carried;
    tells = prepared.tells;
    paid = paid;
    left = s.spent;
    took = took_all (takes old) (takes new) (λ q. IsIn q r.pages.items) (IsNeeded r.entry n)
        (λ q i. is_needed r.entry n q (subst (λ (k : List ℕ). IsIn q k) prepared.is_entry.pages_are i)) s.took;
  }

  kept_one : (a x : ℕ) → Among r.entry.reads.items (a, x) → Among before.machine.trail.kept (a, x)
  kept_one a x h = subst (λ (k : WordList). Among k (a, x)) (sym prepared.carried.reads) h

  commit_says : (q : Proc) (k : ℕ) → r.entry.entry ≡ Commit q k → (m : Making)
      → MakeSays page_count due purse spare takes silent found added r.entry r.pages.items old new m
      → FinishSays page_count due purse spare takes silent found added old new before after p (answer_of (Commit q k) m)
  commit_says q k e (making.Made n) s = (r.entry, entered n s, (q, k, e))
  commit_says q k e (making.Busy page) s = (s.0.no_entry, s.1)
  commit_says q k e (making.Changed c) s = (s.0.no_entry, kept_one c.addr c.kept s.1, s.2, s.3)

  hang_says : (q : Proc) → r.entry.entry ≡ Hang q → (m : Making)
      → MakeSays page_count due purse spare takes silent found added r.entry r.pages.items old new m
      → FinishSays page_count due purse spare takes silent found added old new before after p (answer_of (Hang q) m)
  hang_says q e (making.Made n) s = (r.entry, entered n s, (q, e))
  hang_says q e (making.Busy page) s = (s.0.no_entry, s.1)
  hang_says q e (making.Changed c) s = (s.0.no_entry, kept_one c.addr c.kept s.1, s.2, s.3)

  pub made_says : IsCommit before.entry ⊎ IsHang before.entry → (t : Turn)
      → AnswerSays page_count due purse spare takes silent found added r.entry r.pages.items old new (alone old) t
      → FinishSays page_count due purse spare takes silent found added old new before after p t
  made_says (inl k) t s =
      let e : r.entry.entry ≡ Commit k.0 k.1 = sym prepared.carried.entry ∙ k.2 in
      subst (FinishSays page_count due purse spare takes silent found added old new before after p)
      (sym (s.1 ∙ ap (λ (en : Entry). answer_of en s.0) e)) (commit_says k.0 k.1 e s.0 s.2)
  made_says (inr k) t s =
      let e : r.entry.entry ≡ Hang k.0 = sym prepared.carried.entry ∙ k.1 in
      subst (FinishSays page_count due purse spare takes silent found added old new before after p)
      (sym (s.1 ∙ ap (λ (en : Entry). answer_of en s.0) e)) (hang_says k.0 e s.0 s.2)

  commit_left : (q : Proc) (k : ℕ) (m : Making)
      → MakeSays page_count due purse spare takes silent found added r.entry r.pages.items old new m → (alone old → is_made m ≡ true)
      → IsLeft page_count purse spare alone old new (answer_of (Commit q k) m)
  commit_left q k (making.Made n) s al =
      record { one = λ h. refl; same_purse = λ h. absurd (true≢false h); same_pages = s.same_pages; room = s.less_room }
  commit_left q k (making.Busy page) s al =
      record { one = λ h. absurd (true≢false (sym (al h))); same_purse = λ h. s.0.rest.2; same_pages = s.0.rest.0; room = s.0.rest.3 }
  commit_left q k (making.Changed c) s al =
      record { one = λ h. absurd (true≢false (sym (al h))); same_purse = λ h. s.0.rest.2; same_pages = s.0.rest.0; room = s.0.rest.3 }

  hang_left : (q : Proc) (m : Making)
      → MakeSays page_count due purse spare takes silent found added r.entry r.pages.items old new m → (alone old → is_made m ≡ true)
      → IsLeft page_count purse spare alone old new (answer_of (Hang q) m)
  hang_left q (making.Made n) s al =
      record { one = λ h. refl; same_purse = λ h. absurd (true≢false h); same_pages = s.same_pages; room = s.less_room }
  hang_left q (making.Busy page) s al =
      record { one = λ h. absurd (true≢false (sym (al h))); same_purse = λ h. s.0.rest.2; same_pages = s.0.rest.0; room = s.0.rest.3 }
  hang_left q (making.Changed c) s al =
      record { one = λ h. absurd (true≢false (sym (al h))); same_purse = λ h. s.0.rest.2; same_pages = s.0.rest.0; room = s.0.rest.3 }

  pub made_left : IsCommit before.entry ⊎ IsHang before.entry → (t : Turn)
      → AnswerSays page_count due purse spare takes silent found added r.entry r.pages.items old new (alone old) t
      → IsLeft page_count purse spare alone old new t
  made_left (inl k) t s =
      let e : r.entry.entry ≡ Commit k.0 k.1 = sym prepared.carried.entry ∙ k.2 in
      subst (IsLeft page_count purse spare alone old new) (sym (s.1 ∙ ap (λ (en : Entry). answer_of en s.0) e))
      (commit_left k.0 k.1 s.0 s.2 s.3)
  made_left (inr k) t s =
      let e : r.entry.entry ≡ Hang k.0 = sym prepared.carried.entry ∙ k.1 in
      subst (IsLeft page_count purse spare alone old new) (sym (s.1 ∙ ap (λ (en : Entry). answer_of en s.0) e))
      (hang_left k.0 s.0 s.2 s.3)

module _ {S : Type 0} {addresses : S → ℕ} {sound : S → Type 0} {knows : S → ℕ → Type 0} {had : S → ℕ → ℕ → Type 0} {leads : S → ℕ → Type 0}
    {own shown : S → ℕ → Option ℕ} {later : S → S → Type 0} {gave once : S → S → ℕ → ℕ → Type 0} {page_count : S → ℕ}
    {holds : S → ℕ → Bool} {due : S → Bool} {purse : S → Quota} {spare : S → ℕ} {takes : S → List (ℕ × Bool)} {alone : S → Type 0}
    {stands primed : S → ℕ → ℕ → Type 0} {silent : S → S → Type 0} {found : S → S → ℕ → ℕ → Type 0} {added : S → S → WordMove → ℕ → Type 0}
    (w : WordsLaws {S = S} addresses sound knows had leads own shown later gave)
    (l : HallLaws {S = S} addresses sound knows had shown later gave once page_count holds due purse spare takes alone stands primed silent
    found added) where
  -- a hall's words may be planned by
  pub is_stored : (v : S) → sound v → IsStored addresses sound had shown later [] v
  is_stored v s = record {
    sound = s;
    few = l.few v s;
    low = λ x h. l.low x (w.stays_sound v x s h);
    had = λ a x e. (let k : None ≡ Some x = e in cc);
  }

  given_one : (old mid : S) (kept : WordList) (a x : ℕ) → Loads addresses sound had shown later gave [] old kept mid
      → word_at kept a ≡ Some x → gave old mid a x
  given_one old mid kept a x ld h =
      ⊎_elim (λ (k : word_at [] a ≡ Some x). (let e : None ≡ Some x = k in cc)) (λ (k : gave old mid a x). k) (ld.given a x h)

  -- what was read was found
  pub read_found : (old mid new : S) (kept : WordList) (a x : ℕ) → sound old → Loads addresses sound had shown later gave [] old kept mid
      → silent mid new → word_at kept a ≡ Some x → found old new a x
  read_found old mid new kept a x s ld q h = l.found_before old mid new a x (l.gave_found old mid a x s (given_one old mid kept a x ld h)) q

  pub read_had : (old mid : S) (pl : Planner) (p : ℕ) → Loads addresses sound had shown later gave [] old pl.machine.trail.kept mid
      → IsSafeMove (move_of pl p) → (a x : ℕ) → Among pl.machine.trail.kept (a, x) → had mid a x
  read_had old mid pl p ld safe a x h = ld.stored.had a x (apart_word pl.machine.trail.kept a x safe.reads.apart h)

  pub read_same : (old mid : S) (pl : Planner) (p : ℕ) → sound old
      → Loads addresses sound had shown later gave [] old pl.machine.trail.kept mid → IsSafeMove (move_of pl p) → alone mid
      → (x : S) (a y z : ℕ) → Among pl.machine.trail.kept (a, y) → found mid x a z → y ≡ z
  read_same old mid pl p s ld safe al x a y z h f =
      l.alone_same old mid x a y z al
      (l.gave_found old mid a y s
      (given_one old mid pl.machine.trail.kept a y ld (apart_word pl.machine.trail.kept a y safe.reads.apart h))) f

  module _ (t : Tables) (old mid new : S) (before after : Planner) (p : ℕ) (s : sound old) (la : later old mid)
      (ld : Loads addresses sound had shown later gave [] old before.machine.trail.kept mid) (plan : IsPlan t before p) where
    si : silent old mid
    si = l.later_silent old mid s la

    same_purse : purse mid ≡ purse old
    same_purse = (l.later_rest old mid la).2

    pub finish_turn : (r : Turn) → FinishSays page_count due purse spare takes silent found added mid new before after p r
        → TurnSays found takes purse silent added t old new after p r
    finish_turn (answer.Committed n) h = (
      h.0,
      move_of before p,
      record {
        is_added = l.silent_added old mid new h.0 n si h.1.is_added;
        address = h.1.address;
        carried = h.1.carried;
        named = subst (λ (k : WordList). NamesMover k p h.0.entry) h.1.carried.reads
            (subst (λ (k : Entry). NamesMover before.machine.trail.kept p k) h.1.carried.entry plan.named);
        safe = plan.safe;
        fits = plan.fits;
        tells = h.1.tells;
        paid = subst (λ (q : Quota). IsPaid q h.0) same_purse h.1.paid;
        left = subst (λ (q : Quota). IsSpent q h.0 (purse new)) same_purse h.1.left;
        took = record {
          pages = h.1.took.looks;
          are = h.1.took.are ∙ ap (λ (ts : List (ℕ × Bool)). ts ++ h.1.took.looks) (l.later_takes old mid la);
          rise = h.1.took.rise;
          each = h.1.took.each;
        };
      },
      h.2,
    )
    finish_turn (answer.Hung n) h = (
      h.0,
      move_of before p,
      record {
        is_added = l.silent_added old mid new h.0 n si h.1.is_added;
        address = h.1.address;
        carried = h.1.carried;
        named = subst (λ (k : WordList). NamesMover k p h.0.entry) h.1.carried.reads
            (subst (λ (k : Entry). NamesMover before.machine.trail.kept p k) h.1.carried.entry plan.named);
        safe = plan.safe;
        fits = plan.fits;
        tells = h.1.tells;
        paid = subst (λ (q : Quota). IsPaid q h.0) same_purse h.1.paid;
        left = subst (λ (q : Quota). IsSpent q h.0 (purse new)) same_purse h.1.left;
        took = record {
          pages = h.1.took.looks;
          are = h.1.took.are ∙ ap (λ (ts : List (ℕ × Bool)). ts ++ h.1.took.looks) (l.later_takes old mid la);
          rise = h.1.took.rise;
          each = h.1.took.each;
        };
      },
      h.2,
    )
    finish_turn (answer.Busy page) h = (
      l.silent_twice old mid new si h.0,
      (h.1.0, h.1.1 ∙ ap (λ (ts : List (ℕ × Bool)). ts ++ h.1.0) (l.later_takes old mid la), h.1.2),
    )
    finish_turn (answer.Stale a x y) h = (
      l.silent_twice old mid new si h.0,
      read_found old mid new before.machine.trail.kept a x s ld h.0
          (apart_word before.machine.trail.kept a x plan.safe.reads.apart h.1),
      l.found_after old mid new a y si h.2,
      h.3,
    )
    finish_turn (answer.Spent q) h = absurd h
    finish_turn answer.NoMemory h = l.silent_twice old mid new si h
    finish_turn answer.Fails h = absurd h
    finish_turn (answer.Gone d) h = absurd h

  -- after loads as many cells are left
  pub enough_still : (old new : S) (needed left : ℕ) → later old new → left ≡ (purse old).cells → needed ≤ left
      → needed ≤ (purse new).cells
  enough_still old new needed left la same enough =
      subst (λ (n : ℕ). needed ≤ n) (same ∙ ap (λ (q : Quota). q.cells) (sym (l.later_rest old new la).2)) enough

  -- a move is too large for what is left of the quota
  pub large_turn : (t : Tables) (old new : S) (pl : Planner) (p needed left : ℕ) → sound old → later old new
      → Loads addresses sound had shown later gave [] old pl.machine.trail.kept new → IsLargePlan t pl p needed
      → left ≡ (purse old).cells → left < needed
      → TurnSays found takes purse silent added t old new pl p (answer.Spent (spent.Cells needed left))
  large_turn t old new pl p needed left s la ld plan same large = (
    l.later_silent old new s la,
    sym same,
    large,
    record {
      plan = plan;
      words = λ a x k.
          let k' = w.stays_sound old new s la in
          read_found old new new pl.machine.trail.kept a x s ld (l.later_silent new new k' (w.still new k')) k;
    },
  )

  -- loads before leave the same
  pub left_after : (old mid new : S) (r : Turn) → sound old → later old mid → IsLeft page_count purse spare alone mid new r
      → IsLeft page_count purse spare alone old new r
  left_after old mid new r s la h =
      let q = l.later_rest old mid la in
      record {
        one = λ al. h.one (l.alone_silent old mid (l.later_silent old mid s la) al);
        same_purse = λ k. h.same_purse k ∙ q.2;
        same_pages = h.same_pages ∙ q.0;
        room = subst (λ (n : ℕ). spare new ≡ (if has_made r then n - 1 else n)) q.3 h.room;
      }
