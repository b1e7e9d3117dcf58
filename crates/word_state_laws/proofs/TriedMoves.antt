-- What a trial says of a heap that stands for a state goes.
use Rattle.std.proofs.Common.{◌≡◌, ℕ, List, ◌++◌, None, sym, ◌∙◌, subst}
use Rattle.fcp_model.specs.declared.run.Place.{Place}
use Rattle.fcp_model.specs.Places.{made, own}
use Rattle.fcp_model.specs.Terms.{Bindings, find}
use Rattle.fcp_model.specs.Cells.{clause_used}
use Rattle.fcp_model.specs.Decisions.{Decision, commits, decides_fail, waits_on, Decides}
use Rattle.fcp_model.specs.Programs.{Program}
use Rattle.fcp_model.specs.States.{Process, State}
use Rattle.heap_words.specs.Heaps.{inside_at}
use Rattle.heap_words.specs.Trails.{WordList}
use Rattle.word_states.specs.Words.{HasAll, addresses_of, IsIn}
use Rattle.word_states.specs.Standing.{Book, PlaceAt}
use Rattle.word_states.specs.Leading.{GoalStands, BindingsLead}
use Rattle.word_states.specs.Trials.{AreAt, IsTried, CommitSays, WaitSays, FailSays}
use Rattle.word_states.specs.Waking.{WakesSay, AreWoken}
use Rattle.leading_laws.specs.Laws.{AlikeDecision}
use Rattle.leading_laws.proofs.Decisions.{goals_decide_alike, clauses_are_alike}
use Rattle.word_state_laws.specs.Laws.{MayMove, ACommitGoes, AHangGoes, AFailGoes}
use Rattle.word_states.proofs.Leading.{open_short, open_long}
use Rattle.word_states.proofs.Lists.{word_among, among_word, addresses_among, among_addresses}
use Rattle.word_state_laws.proofs.Forming.{heap_low, heap_old, led_formed}
use Rattle.word_state_laws.proofs.LaidWords.{LaidCommit}
use Rattle.word_state_laws.proofs.Waking.{wakes_woken, same_bound, same_woken}
use Rattle.word_state_laws.proofs.Going.{commit_goes, hang_goes, fail_goes}
use Rattle.word_state_laws.proofs.HangLaying.{hang_effect}

module _ {book : Book} {ws : List ℕ} {s : State} {p : ℕ} {x : Process} (may : MayMove book ws s p x) where
  -- the goal that the words say
  pub said : GoalStands (inside_at ws) book.places s.bound p x.goal
  said = (may.stands.process p x may.process).goal

  -- the process is tried
  pub tried : (read : WordList) → HasAll read (inside_at ws) → IsTried read p (inside_at ws) book.places may.stands.short said.goal
  tried read has = record {
    has = λ a y e. has a y (word_among read a y e);
    low = heap_low ws may.heap;
    old = heap_old ws may.heap;
    says = may.stands.says;
    own_free = λ k. open_short s.bound s.bound may.stands.short (own k) may.stands.shortened (may.stands.own_free k);
    goal = said.says;
  }

  -- what is decided for that goal is decided for the state's, but for ways of the bindings
  decided : (m : Program) (d : Decision) → Decides m may.stands.short said.goal d → AlikeDecision m s.bound x.goal d
  decided m d = goals_decide_alike m s.bound may.stands.short x.goal said.goal d may.stands.shortened said.leads

  -- and by the same clause
  pub used : (m : Program) (k : ℕ) → clause_used m x.goal k ≡ clause_used m said.goal k
  used m k = clauses_are_alike m s.bound x.goal said.goal k said.leads

  -- a place that the words say to be unbound is unbound
  open_meant : (j : Place) → find may.stands.short (made j) ≡ None → find s.bound (made j) ≡ None
  open_meant j = open_long s.bound s.bound may.stands.short (made j) may.stands.shortened

  module _ {m : Program} {k : ℕ} {binds : WordList} {ps : List (List ℕ)}
      (says : CommitSays m (inside_at ws) book.places may.stands.short said.goal k binds ps) where
    -- the bound places are unbound ones of the state
    unbound : (a : ℕ) → IsIn a (addresses_of binds) → (j : Place) × PlaceAt book j a × (find s.bound (made j) ≡ None)
    unbound a h =
        let v = addresses_among binds a h in
        let e = among_word binds a v.0 v.1 in
        let b = says.binds_only a e.0 e.1 in
        let r = says.binds_all b.0 b.1 b.3 in
        (b.0, b.2, open_meant b.0 r.3)

    -- those that the shorter bindings wake are those that the decision's wake
    still_woken : (bs : Bindings) (wakes : List ℕ) → BindingsLead (s.bound ++ bs) bs says.bindings
        → AreWoken book s says.bindings wakes → AreWoken book s bs wakes
    still_woken bs wakes leads woken = record {
      all = λ q y h u. woken.all q y h (sym (same_woken (s.bound ++ bs) bs says.bindings y.status leads) ∙ u);
      only = λ q h. let r = woken.only q h in
          (r.0, r.1, same_woken (s.bound ++ bs) bs says.bindings r.0.status leads ∙ r.2);
    }

pub a_commit_goes : ACommitGoes
a_commit_goes m book ws s p k x read lists binds ps wakes f w' may has trial owes has_lists told laid = record {
  bindings = alike.0;
  reads = says.reads;
  decides = alike.1;
  order = subst (AreAt book.places (addresses_of binds)) (sym (same_bound (s.bound ++ alike.0) alike.0 says.bindings alike.2)) says.order;
  woken = known.woken;
  by_name = wake.by_name;
  goes = commit_goes known may.running;
}
  where
    says : CommitSays m (inside_at ws) book.places may.stands.short (said may).goal k binds ps
    says = trial (inside_at ws) book.places may.stands.short (said may).goal (tried may read has)

    alike : (bs : Bindings) × Decides m s.bound x.goal (commits k bs says.reads) × BindingsLead (s.bound ++ bs) bs says.bindings
    alike = decided may m (commits k says.bindings says.reads) says.decides

    wake : WakesSay book s (addresses_of binds) wakes
    wake = told.says book (inside_at ws) s (λ a y e. has_lists a y (word_among lists a y e)) may.stands (unbound may says)

    woken : AreWoken book s says.bindings wakes
    woken = wakes_woken m book (inside_at ws) s (said may).goal k binds ps (addresses_of binds) wakes may.stands says
        (λ a v e. among_addresses binds a v (word_among binds a v e))
        (λ a h. let v = addresses_among binds a h in among_word binds a v.0 v.1)
        wake

    known : LaidCommit m book s p x k binds ps wakes f (inside_at ws) w'
    known = record {
      stands = may.stands;
      parent = may.process;
      was_ready = may.is_ready;
      few = may.few;
      low = heap_low ws may.heap;
      old = heap_old ws may.heap;
      formed = led_formed ws may.heap read has binds ps owes.led;
      goal = (said may).goal;
      says = says;
      bindings = alike.0;
      decides = alike.1;
      leads = alike.2;
      used = used may m k;
      woken = still_woken may says alike.0 wakes alike.2 woken;
      laid = laid;
    }

pub a_hang_goes : AHangGoes
a_hang_goes m book ws s p x read places entry w' may has trial laid = (
  says,
  hang_goes m book s p x (inside_at ws) w' says.reads may.stands may.process may.is_ready may.running says.decides
      (hang_effect m book s p x places entry (inside_at ws) w' may.stands may.process may.is_ready may.few says laid),
)
  where
    short : WaitSays m (inside_at ws) book.places may.stands.short (said may).goal places
    short = trial (inside_at ws) book.places may.stands.short (said may).goal (tried may read has)

    says : WaitSays m (inside_at ws) book.places s.bound x.goal places
    says = record {
      reads = short.reads;
      decides = decided may m (waits_on short.reads) short.decides;
      all = λ j h. let r = short.all j h in (r.0, r.1, r.2, open_meant may j r.3);
      only = short.only;
      count = short.count;
    }

pub a_fail_goes : AFailGoes
a_fail_goes m book ws s p x read may has trial =
    (says, fail_goes m book s p x (inside_at ws) may.stands may.process may.is_ready may.running says)
  where
    short : FailSays m may.stands.short (said may).goal
    short = trial (inside_at ws) book.places may.stands.short (said may).goal (tried may read has)

    says : FailSays m s.bound x.goal
    says = record { reads = short.reads; decides = decided may m (decides_fail short.reads) short.decides }
