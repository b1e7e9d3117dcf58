-- Why an entry of a process is no next one.
use Rattle.std.proofs.Common.{◌≡◌, ℕ, Bool, true, false, List, [], ◌∷◌, Option, Some, None}
use Rattle.std.proofs.Common.{refl, sym, ap, ◌∙◌, subst, inl, inr}
use Rattle.std.specs.Prelude.{◌&&◌}
use Rattle.std.proofs.lemmas.Bool.{and_from}
use Rattle.std.proofs.lemmas.Option.{same_Some}
use Rattle.fcp_model.specs.declared.run.Proc.{Proc}
use Rattle.fcp_model.specs.declared.run.Entry.{Entry}
use Rattle.fcp_model.specs.declared.run.Entry.TheVariants.{Commit, Hang, Fail, Snapshot, Suspend, Resume, Abort}
use Rattle.fcp_model.specs.Places.{is_same_process}
use Rattle.fcp_model.specs.Programs.{Program}
use Rattle.fcp_model.specs.Decisions.{Decision, commits, decides_fail, waits_on, Decides}
use Rattle.fcp_model.specs.States.{Process, State, is_running, is_ready, process_named}
use Rattle.fcp_model.specs.Events.{Event, event_of}
use Rattle.fcp_model.specs.Runs.{allows, is_ready_in, entry_decided, IsDecided, IsDecidedFor}
use Rattle.fcp_model.proofs.OneDecision.{one_decision}
use Rattle.fcp_laws.proofs.ProcessNames.{name_found, picked}
use Rattle.word_states.specs.Words.{Words}
use Rattle.word_states.specs.Standing.{Book, StandsFor}
use Rattle.word_state_laws.proofs.Going.{found}
use Rattle.move_plans.specs.Plans.{IsMoveOf}
use Rattle.run_laws.proofs.Fronts.{IsMadeBy}
use Rattle.log_replay.specs.Tables.{Table, address_of, IsReadyAt, HasReady, IsOneOf}
use Rattle.log_replay.proofs.ReadyAfter.{one_stands}

move_allows : (s : State) (e : Entry) (q : Proc) → IsMoveOf e q → allows s e ≡ (is_running s.mode && is_ready_in s.processes q)
move_allows s (Commit p k) q h = ap (λ (r : Proc). is_running s.mode && is_ready_in s.processes r) h
move_allows s (Hang p) q h = ap (λ (r : Proc). is_running s.mode && is_ready_in s.processes r) h
move_allows s (Fail p) q h = ap (λ (r : Proc). is_running s.mode && is_ready_in s.processes r) h
move_allows s Snapshot q h = absurd h
move_allows s Suspend q h = absurd h
move_allows s Resume q h = absurd h
move_allows s Abort q h = absurd h

and_false : (b : Bool) → (b && false) ≡ false
and_false true = refl
and_false false = refl

-- the run is not open
pub not_open : (s : State) (e : Entry) (q : Proc) → IsMoveOf e q → is_running s.mode ≡ false → allows s e ≡ false
not_open s e q h closed = move_allows s e q h ∙ ap (λ (b : Bool). b && is_ready_in s.processes q) closed

named_one : (ps : List Process) (q : Proc) (x : Process) → process_named ps q ≡ Some x → IsOneOf ps x
named_one [] q x e = cc
named_one (p ∷ ps) q x e = go (is_same_process p.name q) e (named_one ps q x)
  where
    go : (b : Bool) → picked b p (process_named ps q) ≡ Some x → (process_named ps q ≡ Some x → IsOneOf ps x) → IsOneOf (p ∷ ps) x
    go true i rec = inl (same_Some p x i)
    go false i rec = inr (rec i)

-- the process is not in the table
pub not_ready : (book : Book) (w : Words) (s : State) (t : Table) (e : Entry) (q : Proc) → StandsFor book w s → HasReady book s t
    → IsMoveOf e q → address_of t q ≡ None → allows s e ≡ false
not_ready book w s t e q stands had h none =
    move_allows s e q h
    ∙ (ap (λ (b : Bool). is_running s.mode && b) (go (process_named s.processes q) refl) ∙ and_false (is_running s.mode))
  where
    wrong : (x : Process) → process_named s.processes q ≡ Some x → is_ready x.status ≡ true → ⊥
    wrong x f may =
        let a = one_stands book.processes s.processes x stands.processes (named_one s.processes q x f) in
        let there : address_of t q ≡ Some a.0 =
        ap (address_of t) (sym (name_found s.processes q x f)) ∙ had.all a.0 x a.1 may in
        let none' : None ≡ Some a.0 = sym none ∙ there in cc

    go : (o : Option Process) → process_named s.processes q ≡ o → is_ready_in s.processes q ≡ false
    go None f = ap (λ (o : Option Process). elim o as (λ z. Bool) [ None ↦ false | Some p ↦ is_ready p.status ]) f
    go (Some x) f =
        ap (λ (o : Option Process). elim o as (λ z. Bool) [ None ↦ false | Some p ↦ is_ready p.status ]) f ∙ dull (is_ready x.status) refl
      where
        dull : (b : Bool) → is_ready x.status ≡ b → b ≡ false
        dull true i = absurd (wrong x f i)
        dull false i = refl

module _ (book : Book) (w : Words) (s : State) (e : Entry) (q : Proc) (p : ℕ) (stands : StandsFor book w s) (at : IsReadyAt book s q p)
    (h : IsMoveOf e q) where
  there : process_named s.processes q ≡ Some at.process
  there = ap (process_named s.processes) (sym at.named) ∙ found book w s p at.process stands at.there

  -- the run allows the entry
  pub allowed : is_running s.mode ≡ true → allows s e ≡ true
  allowed running =
      move_allows s e q h ∙ and_from _ _ running
      (ap (λ (o : Option Process). elim o as (λ z. Bool) [ None ↦ false | Some x ↦ is_ready x.status ]) there ∙ at.may_move)

  decided_of : (m : Program) (f : Entry) → IsMoveOf f q → IsDecided m s f → IsDecidedFor m s q f
  decided_of m (Commit r k) o d = subst (λ (x : Proc). IsDecidedFor m s x (Commit r k)) o d
  decided_of m (Hang r) o d = subst (λ (x : Proc). IsDecidedFor m s x (Hang r)) o d
  decided_of m (Fail r) o d = subst (λ (x : Proc). IsDecidedFor m s x (Fail r)) o d
  decided_of m Snapshot o d = absurd o
  decided_of m Suspend o d = absurd o
  decided_of m Resume o d = absurd o
  decided_of m Abort o d = absurd o

  entry_is : (m : Program) (y : Process) (d : Decision) → (event_of m s y d).entry ≡ entry_decided y.name d
  entry_is m y (commits k bs rs) = refl
  entry_is m y (waits_on rs) = refl
  entry_is m y (decides_fail rs) = refl

  -- another entry is decided
  pub not_decided : (m : Program) (n : ℕ) (planned : Entry) (ev : Event) → IsMadeBy n m s at.process planned ev → (planned ≡ e → ⊥)
      → IsDecided m s e → ⊥
  not_decided m n planned ev by other decided =
      let d = decided_of m e h decided in
      let same : d.process ≡ at.process = same_Some d.process at.process (sym d.named ∙ there) in
      let one : d.decision ≡ by.decision =
      one_decision m s.bound at.process.goal d.decision by.decision
      (subst (λ (x : Process). Decides m s.bound x.goal d.decision) same d.decides) (n, by.decided) in
      other (sym by.has ∙ (ap (λ (x : Event). x.entry) by.is ∙ (entry_is m at.process by.decision
      ∙ (ap (λ (x : Proc). entry_decided x by.decision) at.named ∙ (ap (entry_decided q) (sym one) ∙ d.agrees)))))
