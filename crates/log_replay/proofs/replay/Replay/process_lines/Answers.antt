use Rattle.std.proofs.Common.{◌≡◌, ℕ, ◌-◌, ◌<◌, true, List, length, map, Vec, Global, sym, ap, ◌∙◌, subst}
use Rattle.std.proofs.lemmas.Result.{IfOk-weaker}
use Rattle.fcp_model.specs.Runs.{last_state}
use Rattle.fcp_model.specs.Translation.{program_of}
use Rattle.heap_words.specs.Heaps.{is_inside, inside_at}
use Rattle.ro_unify.specs.Occurs.{Each}
use Rattle.word_states.specs.Words.{IsIn}
use Rattle.ready_lists.specs.Ready.{AreLive}
use Rattle.process_texts.specs.Lines.{AreProcessesThere}
use Rattle.log_replay.proofs.AllWaits.{zip_long, live_process, process_inside, AllTold, names_known, processes_there, given_there}
use Rattle.log_replay.proofs.replay.Replay.process_lines.Goals as goal

pub all_places-requires-clause-processes : goal.all_places-requires-clause-processes
all_places-requires-clause-processes c = λ q i.
    live_process c.args.self.now.hall.words.items c.in_ok-processes.processes.items
    (subst (λ (ws : List ℕ). AreLive ws c.in_ok-processes.processes.items) c.words.ensures c.in_ok-processes.ensures) q
    (subst (λ (qs : List ℕ). IsIn q qs) c.as_slice.ensures.value i)

pub push_process_lines-requires-clause-processes : goal.push_process_lines-requires-clause-processes
push_process_lines-requires-clause-processes c = λ q i.
    subst (λ (ws : List ℕ). is_inside ws q ≡ true) (sym c.all_places.ensures.same.words)
    (process_inside c.args.self.now.hall.words.items q
    (live_process c.args.self.now.hall.words.items c.in_ok-processes.processes.items
    (subst (λ (ws : List ℕ). AreLive ws c.in_ok-processes.processes.items) c.words.ensures c.in_ok-processes.ensures) q
    (subst (λ (qs : List ℕ). IsIn q qs) c.as_slice-2.ensures.value i)))

-- the list of a vector
abbrev items : Vec ℕ Global → List ℕ
items v = v.items

pub push_process_lines-requires-clause-places : goal.push_process_lines-requires-clause-places
push_process_lines-requires-clause-places c =
    let ws = c.args.self.now.hall.words.items in
    let told = subst (λ (qs : List ℕ). AllTold items c.args.code.now ws qs c.in_ok-waits.waits.items) c.as_slice.ensures.value
    c.in_ok-waits.ensures.told in
    subst (λ (vs : List (Vec ℕ Global)). Each (λ v. (a : ℕ) → IsIn a v.items
    → (0 < a) × (is_inside c.all_places.new.hall.words.items (a - 1) ≡ true)) vs) (sym c.as_slice-3.ensures.value)
    (subst (λ (xs : List ℕ). Each (λ v. (a : ℕ) → IsIn a v.items → (0 < a) × (is_inside xs (a - 1) ≡ true)) c.in_ok-waits.waits.items)
    (sym c.all_places.ensures.same.words)
    (names_known items c.args.code.now ws c.in_ok-processes.processes.items c.in_ok-waits.waits.items told))

pub push_process_lines-requires-clause-each : goal.push_process_lines-requires-clause-each
push_process_lines-requires-clause-each c =
    ap length c.as_slice-3.ensures.value
    ∙ (zip_long _ c.as_slice.result.now c.in_ok-waits.waits.items c.in_ok-waits.ensures.told
    ∙ ap length (c.as_slice.ensures.value ∙ sym c.as_slice-2.ensures.value))

pub returns-clause-lines : goal.returns-clause-lines
returns-clause-lines c = λ from cells evs code replayed lawful.
    let ws = c.args.self.now.hall.words.items in
    let m = program_of c.args.loaded.now in
    let s = last_state from evs in
    let book = replayed.state.book in
    let told = subst (λ (qs : List ℕ). AllTold items c.args.code.now ws qs c.in_ok-waits.waits.items) c.as_slice.ensures.value
    c.in_ok-waits.ensures.told in
    let live = subst (λ (xs : List ℕ). AreLive xs c.in_ok-processes.processes.items) c.words.ensures c.in_ok-processes.ensures in
    let there = subst (λ (qs : List ℕ). AreProcessesThere (inside_at ws) book s qs (map items c.in_ok-waits.waits.items))
    (sym c.as_slice-2.ensures.value)
    (processes_there items c.args.code.now ws c.live_states.ensures m book s c.in_ok-processes.processes.items c.in_ok-waits.waits.items code
    replayed.state.stands replayed.ordered lawful live told) in
    let all = subst (λ (vs : List (Vec ℕ Global)). AreProcessesThere (inside_at ws) book s c.as_slice-2.result.now (map items vs))
    (sym c.as_slice-3.ensures.value) there in
    IfOk-weaker c.push_process_lines.result _ _
    (λ u lines. lines (inside_at ws) book s
    (given_there ws c.all_places.new.hall c.push_process_lines.new.words c.all_places.ensures.same.words c.push_process_lines.ensures.between)
    all)
    c.push_process_lines.ensures.lines
