-- A commit, a hang and a fail that are decided are legal, and the words after them stand for the next state.
use Rattle.std.proofs.Common.{◌≡◌, ◌⊎◌, ℕ, suc, Bool, true, false, List, [], ◌∷◌, refl, sym, ap, ◌∙◌, subst, ⊎_elim, inl, inr, arith}
use Rattle.std.proofs.Common.{true≢false, Option, Some}
use Rattle.std.specs.Prelude.{option_map}
use Rattle.std.proofs.lemmas.Bool.{cases_Bool, cond-true, and_from, eq-eqb}
use Rattle.fcp_model.specs.declared.run.Entry.{Entry}
use Rattle.fcp_model.specs.declared.run.Entry.TheVariants.{Commit, Hang, Fail}
use Rattle.fcp_model.specs.Places.{is_same_process, places_among}
use Rattle.fcp_model.specs.Programs.{Clause, Program}
use Rattle.fcp_model.specs.Decisions.{Decision, commits, decides_fail, waits_on, decide, Decides}
use Rattle.fcp_model.specs.Cells.{clause_used}
use Rattle.fcp_model.specs.States.{ready, Process, State, is_running, is_ready, is_failed, process_named}
use Rattle.fcp_model.specs.Events.{Event, event_of, after_commit}
use Rattle.fcp_model.specs.Runs.{move, move_on, agreed, is_same_move}
use Rattle.heap_words.specs.Trails.{WordList}
use Rattle.word_states.specs.Words.{Words}
use Rattle.word_states.specs.Standing.{Book, StandsFor, StandsAt, ProcessAt}
use Rattle.word_states.specs.Trials.{FailSays}
use Rattle.word_states.specs.Effects.{HangEffect}
use Rattle.word_state_laws.specs.Laws.{GoesBy, book_after}
use Rattle.word_states.proofs.Persisting.{status_up}
use Rattle.word_state_laws.proofs.Hanging.{same_process_refl, hang_stands}
use Rattle.word_state_laws.proofs.Committing.{commit_stands}
use Rattle.word_state_laws.proofs.LaidWords.{LaidCommit}
use Rattle.word_state_laws.proofs.LaidChildren.{commit_effect}

-- a process of the state is found by its name
found_in : (as' : List ℕ) (qs : List Process) (p : ℕ) (x : Process) → ((q : ℕ) (y : Process) → StandsAt as' qs q y
    → is_same_process y.name x.name ≡ true → y ≡ x) → StandsAt as' qs p x → process_named qs x.name ≡ Some x
found_in [] qs p x once h = absurd h
found_in (a ∷ as') [] p x once h = absurd h
found_in (a ∷ as') (y ∷ qs) p x once h = ⊎_elim
    (λ (t : is_same_process y.name x.name ≡ true). cond_elim (is_same_process y.name x.name) t ∙ ap Some (once a y (inl (refl, refl)) t))
    (λ (t : is_same_process y.name x.name ≡ false). cond_not (is_same_process y.name x.name) t
    ∙ found_in as' qs p x (λ q z k e. once q z (inr k) e) (rest h t))
    (cases_Bool (is_same_process y.name x.name))
  where
    cond_elim : (b : Bool) → b ≡ true → elim b [ true ↦ Some y | _ ↦ process_named qs x.name ] ≡ Some y
    cond_elim true e = refl
    cond_elim false e = absurd (true≢false (sym e))

    cond_not : (b : Bool) → b ≡ false → elim b [ true ↦ Some y | _ ↦ process_named qs x.name ] ≡ process_named qs x.name
    cond_not true e = absurd (true≢false e)
    cond_not false e = refl

    rest : ((a ≡ p) × (y ≡ x)) ⊎ StandsAt as' qs p x → is_same_process y.name x.name ≡ false → StandsAt as' qs p x
    rest (inl g) t =
        absurd (true≢false (sym (same_process_refl x.name) ∙ ap (λ (z : Process). is_same_process z.name x.name) (sym g.1) ∙ t))
    rest (inr g) t = g

pub found : (book : Book) (w : Words) (s : State) (p : ℕ) (x : Process) → StandsFor book w s → ProcessAt book s p x
    → process_named s.processes x.name ≡ Some x
found book w s p x stands h =
    found_in book.processes s.processes p x (λ q y k e. (stands.once q p y x k h).1 ((stands.once q p y x k h).0 e)) h

-- what is decided for a Ready process is its move
moves : (m : Program) (book : Book) (w : Words) (s : State) (p : ℕ) (x : Process) (n : ℕ) (d : Decision) → StandsFor book w s
    → ProcessAt book s p x → x.status ≡ ready → is_running s.mode ≡ true → decide n m s.bound x.goal ≡ Some d
    → move n m s x.name ≡ Some (event_of m s x d)
moves m book w s p x n d stands h st running e =
    ap (move_on n m s) (found book w s p x stands h)
    ∙ cond-true _ _ _ (and_from _ _ running (ap is_ready st))
    ∙ ap (option_map (event_of m s x)) e

agrees : (e : Entry) (ev : Event) (o : Option Event) → o ≡ Some ev → is_same_move e ev.entry ≡ true → agreed e o ≡ Some ev
agrees e ev o h g = ap (agreed e) h ∙ cond-true _ _ _ g

-- a commit that is laid
pub commit_goes : {m : Program} {book : Book} {s : State} {p : ℕ} {x : Process} {k : ℕ} {binds : WordList} {ps : List (List ℕ)}
    {wakes : List ℕ} {f : ℕ → ℕ} {w w' : Words} → (known : LaidCommit m book s p x k binds ps wakes f w w') → is_running s.mode ≡ true
    → GoesBy m (book_after book f (suc s.entries) ps) s x (commits k known.bindings known.says.reads) w'
commit_goes {m = m} {book = book} {s = s} {p = p} {x = x} {k = k} {ps = ps} {f = f} {w = w} {w' = w'} known running = record {
  legal = (
    known.decides.0,
    agrees (Commit x.name k) event (move known.decides.0 m s x.name)
        (moves m book w s p x known.decides.0 _ known.stands known.parent known.was_ready running known.decides.1)
        (and_from _ _ (same_process_refl x.name) (eq-eqb k _ refl)),
  );
  stands = subst (λ (c : Option Clause). StandsFor (book_after book f (suc s.entries) ps) w' (after_commit s x.name c known.bindings))
      (sym known.used) (commit_stands book _ _ s p x (clause_used m known.goal k) known.bindings known.says.bindings w w' known.stands
      (commit_effect known));
}
  where
    event : Event
    event = event_of m s x (commits k known.bindings known.says.reads)

pub hang_goes : (m : Program) (book : Book) (s : State) (p : ℕ) (x : Process) (w w' : Words) (rs : List _) → StandsFor book w s
    → ProcessAt book s p x → x.status ≡ ready → is_running s.mode ≡ true → Decides m s.bound x.goal (waits_on rs)
    → HangEffect book s p x (places_among rs) w w' → GoesBy m book s x (waits_on rs) w'
hang_goes m book s p x w w' rs stands h st running d eff = record {
  legal = (
    d.0,
    agrees (Hang x.name) (event_of m s x (waits_on rs)) (move d.0 m s x.name) (moves m book w s p x d.0 _ stands h st running d.1)
        (same_process_refl x.name),
  );
  stands = hang_stands book s p x (places_among rs) w w' stands eff;
}

-- one entry more changes no word
pub fail_stands : (book : Book) (w : Words) (s : State) → StandsFor book w s
    → StandsFor book w (record s { entries = suc s.entries; mode = is_failed })
fail_stands book w s stands = record {
  places = stands.places;
  processes = stands.processes;
  once = stands.once;
  short = stands.short;
  shortened = stands.shortened;
  says = stands.says;
  process =
      λ p x h. let r =
      stands.process p x h in
      record {
        status = (
          r.status.0,
          r.status.1,
          status_up s.entries (suc s.entries) r.status.0 x.status (omega arith)
              r.status.2,
        );
        name = r.name;
        goal = r.goal;
      };
  statuses = stands.statuses;
  lists = stands.lists;
  hangers = λ j a e zs h is c z k. let r = stands.hangers j a e zs h is c z k in let le = r.1 in (r.0, omega arith);
  hung = stands.hung;
  waits = stands.waits;
  own_free = stands.own_free;
  own_absent = stands.own_absent;
  dated_places = λ j a h. let le = stands.dated_places j a h in omega arith;
  dated_bound = λ j t e. let le = stands.dated_bound j t e in omega arith;
  dated_processes = λ p x h. let r = stands.dated_processes p x h in let le = r.0 in (omega arith, r.1);
}

pub fail_goes : (m : Program) (book : Book) (s : State) (p : ℕ) (x : Process) (w : Words) → StandsFor book w s → ProcessAt book s p x
    → x.status ≡ ready → is_running s.mode ≡ true → (says : FailSays m s.bound x.goal) → GoesBy m book s x (decides_fail says.reads) w
fail_goes m book s p x w stands h st running says = record {
  legal = (
    says.decides.0,
    agrees (Fail x.name) (event_of m s x (decides_fail says.reads)) (move says.decides.0 m s x.name)
        (moves m book w s p x says.decides.0 _ stands h st running says.decides.1) (same_process_refl x.name),
  );
  stands = fail_stands book w s stands;
}
