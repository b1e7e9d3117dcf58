-- The process at an address, and the numbers in name words.
use Rattle.std.proofs.Common.{◌≡◌, ℕ, ◌+◌, ◌<◌, true, false, List, Some, refl, sym, ap, ◌∙◌, ⊎_elim, arith}
use Rattle.std.specs.Prelude.{◌&&◌, nat_eq, nat_lt, pos}
use Rattle.std.proofs.lemmas.Bool.{and_parts, or_cases, ltb-true, eqb-true, cases_Bool, cond-false}
use Rattle.std.proofs.lemmas.Option.{same_Some}
use Rattle.fcp_model.specs.declared.run.Proc.{Proc}
use Rattle.fcp_model.specs.Places.{is_older_process, is_same_process}
use Rattle.fcp_model.specs.States.{Status, ready, waiting, finished, Process, State}
use Rattle.fcp_model.specs.Events.{with_status}
use Rattle.heap_words.specs.Cells.{decoded}
use Rattle.heap_words.specs.Heaps.{inside_at}
use Rattle.heap_words.specs.declared.cell.Cell.TheVariants.{Small}
use Rattle.heap_words.specs.declared.cell.Cell.TheVariants as cell
use Rattle.heap_words.specs.declared.cell.Stand.TheVariants as stand
use Rattle.word_states.specs.Words.{Words, At}
use Rattle.word_states.specs.Standing.{Book, StandsFor, StatusSays, ProcessAt, name_code}
use Rattle.word_states.proofs.Persisting.{one_cell}
use Rattle.word_states.specs.Going.{Move, MayGo}
use Rattle.word_state_laws.specs.Laws.{MayMove}
use Rattle.word_state_laws.proofs.Alike.{name_one}
use Rattle.page_layout.proofs.Finding.{at_kept}
use Rattle.word_moves.specs.Planned.{process_of, ReadsProcess}

-- an older process has the smaller number in its name word
pub older_code : (p q : Proc) → p.number < 268435456 → is_older_process p q ≡ true
    → name_code p.entry p.number < name_code q.entry q.number
older_code p q h older = ⊎_elim
    (λ (t : nat_lt p.entry q.entry ≡ true). let lt : p.entry < q.entry = ltb-true p.entry q.entry t in omega arith)
    (λ (t : (nat_eq p.entry q.entry && nat_lt p.number q.number) ≡ true).
    let parts = and_parts (nat_eq p.entry q.entry) (nat_lt p.number q.number) t in
    let same : p.entry ≡ q.entry = eqb-true p.entry q.entry parts.0 in
    let lt : p.number < q.number = ltb-true p.number q.number parts.1 in omega arith)
    (or_cases (nat_lt p.entry q.entry) (nat_eq p.entry q.entry && nat_lt p.number q.number) older)

ready_said : (limit x : ℕ) (st : Status) → StatusSays limit x st → decoded x ≡ Some (cell.Status stand.Ready) → st ≡ ready
ready_said limit x ready h e = refl
ready_said limit x finished h e = cc
ready_said limit x (waiting ps) h e = let r = h.1 in cc

module _ {book : Book} {w : Words} {s : State} (stands : StandsFor book w s) where
  -- a process is Ready where a status says so
  ready_at : (p : ℕ) → At w p (cell.Status stand.Ready) → (x : Process) × ProcessAt book s p x × (x.status ≡ ready)
  ready_at p at =
      let r = stands.statuses p stand.Ready at in
      let u = (stands.process p r.0 r.1).status in
      (r.0, r.1, ready_said s.entries u.0 r.0.status u.2 (ap decoded (same_Some _ _ (sym u.1 ∙ at.1)) ∙ at.2))

  -- its name is the one that its word says
  named : (p z : ℕ) (x : Process) → ProcessAt book s p x → At w (p + 1) (Small (pos z)) → process_of z ≡ x.name
  named p z x h at =
      let e : Small (pos z) ≡ Small (pos (name_code x.name.entry x.name.number)) =
      one_cell w (p + 1) _ _ at (stands.process p x h).name in
      let code : z ≡ name_code x.name.entry x.name.number = cc in
      let low = (stands.dated_processes p x h).1 in
      name_one (process_of z) x.name (omega arith) low (omega arith)

  -- another process has another name, so its status stays where that one's becomes another
  pub stays_as : (p q : ℕ) (x y : Process) (st : Status) → ProcessAt book s p x → ProcessAt book s q y → (q ≡ p → ⊥)
      → with_status x.name st y ≡ y
  stays_as p q x y st h k far = cond-false _ _ _ other
    where
      other : is_same_process y.name x.name ≡ false
      other = ⊎_elim (λ (t : is_same_process y.name x.name ≡ true). absurd (far ((stands.once q p y x k h).0 t)))
          (λ (t : is_same_process y.name x.name ≡ false). t) (cases_Bool (is_same_process y.name x.name))

-- the process that a move is of: it may move, and has the name that was read
pub moving : {v : Move} {book : Book} {ws : List ℕ} {s : State} {z : ℕ} → MayGo v book ws s → ReadsProcess v.reads v.process z
    → (x : Process) × MayMove book ws s v.process x × (process_of z ≡ x.name)
moving {v = v} {book = book} {ws = ws} {s = s} {z = z} may reads =
    let r = ready_at may.stands v.process (at_kept v.reads (inside_at ws) v.process _ may.has reads.status) in (
      r.0,
      record {
        heap = may.heap;
        stands = may.stands;
        process = r.1;
        is_ready = r.2;
        running = may.running;
        few = may.few;
      },
      named may.stands v.process z r.0 r.1 (at_kept v.reads (inside_at ws) (v.process + 1) _ may.has reads.name),
    )
