-- The front of the queue, the decision by which its event is made, and the processes behind it.
use Rattle.std.proofs.Common.{◌≡◌, ℕ, suc, ◌+◌, Bool, true, false, cond, List, [], ◌∷◌, ◌++◌, length, Option, Some, None, refl, sym, ap, ◌∙◌, subst, ⊎_elim, true≢false}
use Rattle.std.specs.Prelude.{option_map, ◌&&◌, pos}
use Rattle.std.proofs.lemmas.Bool.{and_parts, eqb-true, cases_Bool}
use Rattle.std.proofs.lemmas.Option.{same_Some}
use Rattle.fcp_model.specs.declared.run.Proc.{Proc}
use Rattle.fcp_model.specs.declared.run.Entry.{Entry}
use Rattle.fcp_model.specs.declared.run.Entry.TheVariants.{Commit, Hang, Fail, Snapshot, Suspend, Resume, Abort}
use Rattle.fcp_model.specs.Places.{is_same_process}
use Rattle.fcp_model.specs.Programs.{Program}
use Rattle.fcp_model.specs.Decisions.{Decision, decide}
use Rattle.fcp_model.specs.States.{Process, State, is_ready, is_running, process_named}
use Rattle.fcp_model.specs.Events.{Event, event_of}
use Rattle.fcp_model.specs.Runs.{move, move_on, agreed, is_same_move, next}
use Rattle.fcp_model.specs.LawfulStates.{Each}
use Rattle.fcp_model.specs.OneWorker.{Schedule}
use Rattle.fcp_laws.specs.Schedules.{AreApart, IsSoundSchedule}
use Rattle.fcp_laws.proofs.ProcessNames.{same_process, same_itself, head_passed}
use Rattle.fcp_laws.proofs.QueueMoves.{none_named, each_itself}
use Rattle.heap_words.specs.Heaps.{inside_at}
use Rattle.heap_words.specs.declared.cell.Cell.TheVariants.{Small}
use Rattle.word_states.specs.Words.{Words}
use Rattle.word_states.specs.Standing.{Book, StandsFor, ProcessAt, name_code}
use Rattle.word_states.specs.Going.{Move, AllAt}
use Rattle.word_states.proofs.Persisting.{one_cell}
use Rattle.word_state_laws.proofs.Alike.{name_one}
use Rattle.run_laws.specs.Running.{Counts, IsMoveBy, IsFront}

-- the first of the addresses is that of the first process
pub record HasFront (book : Book) (s : State) (p : ℕ) (rest : List ℕ) (qs : List Process) : Type 0 where
  pub process : Process
  pub behind : List Process
  pub queue : qs ≡ process ∷ behind
  pub at_front : ProcessAt book s p process
  pub others : AllAt book s rest behind

pub front_of : (book : Book) (s : State) (p : ℕ) (rest : List ℕ) (qs : List Process) → AllAt book s (p ∷ rest) qs
    → HasFront book s p rest qs
front_of book s p rest [] h = absurd h
front_of book s p rest (y ∷ ys) h = record { process = y; behind = ys; queue = refl; at_front = h.0; others = h.1 }

pub none_there : (book : Book) (s : State) (qs : List Process) → AllAt book s [] qs → qs ≡ []
none_there book s [] h = refl
none_there book s (y ∷ ys) h = absurd h

pub all_long : (book : Book) (s : State) (as' : List ℕ) (qs : List Process) → AllAt book s as' qs → length as' ≡ length qs
all_long book s [] [] h = refl
all_long book s [] (y ∷ ys) h = absurd h
all_long book s (a ∷ as') [] h = absurd h
all_long book s (a ∷ as') (y ∷ ys) h = ap suc (all_long book s as' ys h.1)

pub all_append : (book : Book) (s : State) (as' bs : List ℕ) (xs ys : List Process) → AllAt book s as' xs → AllAt book s bs ys
    → AllAt book s (as' ++ bs) (xs ++ ys)
all_append book s [] bs [] ys h k = k
all_append book s [] bs (x ∷ xs) ys h k = absurd h
all_append book s (a ∷ as') bs [] ys h k = absurd h
all_append book s (a ∷ as') bs (x ∷ xs) ys h k = (h.0, all_append book s as' bs xs ys h.1 k)

-- the name at the front is the one that its words say
pub front_name : (v : Move) (ws : List ℕ) (p : ℕ) (rest : List ℕ) (c : Counts) (book : Book) (s : State) → (f : IsFront v ws p rest c)
    → StandsFor book (inside_at ws) s → (y : Process) → ProcessAt book s p y → f.mover ≡ y.name
front_name v ws p rest c book s f stands y h =
    let e : Small (pos (name_code f.mover.entry f.mover.number)) ≡ Small (pos (name_code y.name.entry y.name.number)) =
    one_cell (inside_at ws) (p + 1) _ _ f.name (stands.process p y h).name in
    let code : name_code f.mover.entry f.mover.number ≡ name_code y.name.entry y.name.number = cc in
    name_one f.mover y.name f.small (stands.dated_processes p y h).1 code

-- a move that is the same is the same entry
same_move : (e e' : Entry) → is_same_move e e' ≡ true → e' ≡ e
same_move (Commit p k) (Commit q j) h =
    let r = and_parts _ _ h in
    let a : p ≡ q = same_process p q r.0 in
    let b : k ≡ j = eqb-true k j r.1 in
    sym (λ i. Commit (a i) (b i))
same_move (Hang p) (Hang q) h = ap Hang (sym (same_process p q h))
same_move (Fail p) (Fail q) h = ap Fail (sym (same_process p q h))
same_move _ _ h = absurd (true≢false (sym h))

agreed_is : (e : Entry) (o : Option Event) (ev : Event) → agreed e o ≡ Some ev → (o ≡ Some ev) × (ev.entry ≡ e)
agreed_is e None ev h = cc
agreed_is e (Some x) ev h = go (is_same_move e x.entry) refl h
  where
    go : (b : Bool) → is_same_move e x.entry ≡ b → cond b (Some x) None ≡ Some ev → (Some x ≡ Some ev) × (ev.entry ≡ e)
    go true i j = (j, subst (λ (z : Event). z.entry ≡ e) (same_Some x ev j) (same_move e x.entry i))
    go false i j = cc

mapped : {A B : Type 0} (f : A → B) (o : Option A) (b : B) → option_map f o ≡ Some b → (a : A) × (o ≡ Some a) × (b ≡ f a)
mapped f None b h = cc
mapped f (Some a) b h = (a, refl, sym (same_Some _ _ h))

moved_is : (n : ℕ) (m : Program) (s : State) (q : Proc) (y : Process) (ev : Event) → process_named s.processes q ≡ Some y
    → move n m s q ≡ Some ev → (d : Decision) × (decide n m s.bound y.goal ≡ Some d) × (ev ≡ event_of m s y d)
moved_is n m s q y ev f e = go (is_running s.mode && is_ready y.status) (sym (ap (move_on n m s) f) ∙ e)
  where
    go : (b : Bool) → cond b (option_map (event_of m s y) (decide n m s.bound y.goal)) None ≡ Some ev
        → (d : Decision) × (decide n m s.bound y.goal ≡ Some d) × (ev ≡ event_of m s y d)
    go true i = mapped (event_of m s y) (decide n m s.bound y.goal) ev i
    go false i = cc

-- the event is the one that is decided for the process
pub record IsMadeBy (n : ℕ) (m : Program) (s : State) (y : Process) (e : Entry) (ev : Event) : Type 0 where
  pub decision : Decision
  pub decided : decide n m s.bound y.goal ≡ Some decision
  pub is : ev ≡ event_of m s y decision
  pub has : ev.entry ≡ e

pub next_is : (n : ℕ) (m : Program) (s : State) (e : Entry) (q : Proc) (y : Process) (ev : Event) → IsMoveBy e q
    → process_named s.processes q ≡ Some y → next n m s e ≡ Some ev → IsMadeBy n m s y e ev
next_is n m s (Commit p k) q y ev by f e =
    let r = agreed_is (Commit p k) (move n m s p) ev e in
    let d = moved_is n m s p y ev (ap (process_named s.processes) by ∙ f) r.0 in
    record { decision = d.0; decided = d.1; is = d.2; has = r.1 }
next_is n m s (Hang p) q y ev by f e =
    let r = agreed_is (Hang p) (move n m s p) ev e in
    let d = moved_is n m s p y ev (ap (process_named s.processes) by ∙ f) r.0 in
    record { decision = d.0; decided = d.1; is = d.2; has = r.1 }
next_is n m s (Fail p) q y ev by f e =
    let r = agreed_is (Fail p) (move n m s p) ev e in
    let d = moved_is n m s p y ev (ap (process_named s.processes) by ∙ f) r.0 in
    record { decision = d.0; decided = d.1; is = d.2; has = r.1 }
next_is n m s Snapshot q y ev by f e = absurd by
next_is n m s Suspend q y ev by f e = absurd by
next_is n m s Resume q y ev by f e = absurd by
next_is n m s Abort q y ev by f e = absurd by

-- the processes behind the front are Ready, and have other names
same_back : (p q : Proc) → is_same_process p q ≡ false → is_same_process q p ≡ false
same_back p q e = ⊎_elim
    (λ (t : is_same_process q p ≡ true). absurd (true≢false (sym (subst (λ (x : Proc). is_same_process p x ≡ true)
    (sym (same_process q p t))
    (same_itself p)) ∙ e)))
    (λ (t : is_same_process q p ≡ false). t) (cases_Bool (is_same_process q p))

module _ (at : Schedule) (sound : IsSoundSchedule at) (y : Process) (ys : List Process) (queue : at.queue ≡ y ∷ ys) where
  apart : AreApart (y ∷ ys)
  apart = subst AreApart queue sound.apart

  pub other_names : Each (λ z. is_same_process z.name y.name ≡ false) ys
  other_names = none_named y.name ys apart.0

  pub ready_behind : Each (λ z. is_ready z.status ≡ true) ys
  ready_behind = go ys other_names (each_itself ys apart.1)
    where
      go : (zs : List Process) → Each (λ z. is_same_process z.name y.name ≡ false) zs → Each (λ z. process_named ys z.name ≡ Some z) zs
          → Each (λ z. is_ready z.status ≡ true) zs
      go [] a b = tt
      go (z ∷ zs) a b = (
        ap is_ready (sound.are_ready z.name z (ap (λ ps. process_named ps z.name) queue
            ∙ (head_passed y ys z.name (same_back z.name y.name a.0) ∙ b.0))).1,
        go zs a.1 b.1,
      )

-- they stay where they are
module _ (book book' : Book) (w : Words) (s s' : State) (p : ℕ) (y : Process) (stands : StandsFor book w s) (there : ProcessAt book s p y)
    (stay : (q : ℕ) (z : Process) → ProcessAt book s q z → is_ready z.status ≡ true → (q ≡ p → ⊥) → ProcessAt book' s' q z) where
  pub stay_behind : (qs : List ℕ) (zs : List Process) → AllAt book s qs zs → Each (λ z. is_ready z.status ≡ true) zs
      → Each (λ z. is_same_process z.name y.name ≡ false) zs → AllAt book' s' qs zs
  stay_behind [] [] h r n = tt
  stay_behind [] (z ∷ zs) h r n = absurd h
  stay_behind (q ∷ qs) [] h r n = absurd h
  stay_behind (q ∷ qs) (z ∷ zs) h r n = (
    stay q z h.0 r.0 (λ e. true≢false (sym (ap (λ (x : Process). is_same_process x.name y.name) ((stands.once q p z y h.0 there).1 e)
        ∙ same_itself y.name) ∙ n.0)),
    stay_behind qs zs h.1 r.1 n.1,
  )
