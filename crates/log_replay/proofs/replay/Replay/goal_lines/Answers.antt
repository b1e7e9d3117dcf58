use Rattle.std.specs.Prelude.{OnOk}
use Rattle.heap_words.specs.Heaps.{inside_at}
use Rattle.std.proofs.Common.{◌≡◌, Some, ◌≤◌, length, sym, subst, ap, ◌∙◌}
use Rattle.fcp_model.specs.Runs.{last_state}
use Rattle.fcp_model.specs.Translation.{start_of, started_goals}
use Rattle.entry_lines.specs.Additions.{Adds}
use Rattle.entry_lines.specs.Lines.{AreGoalPlaces}
use Rattle.fcp_model.specs.ReportText.{goal_variables, variable_lines}
use Rattle.log_replay.specs.Replays.{words_of}
use Rattle.log_replay.proofs.ShownLines.{both_ok, goal_known, start_places}
use Rattle.log_replay.proofs.replay.Replay.goal_lines.Goals as goal

pub push_variable_lines-requires-clause-places : goal.push_variable_lines-requires-clause-places
push_variable_lines-requires-clause-places c = λ k low high.
    let u = goal_known c.args.goal.now c.args.self.now c.requires.standing k low
    (subst (λ xs. k ≤ length xs) (c.as_slice.ensures ∙ ap (λ t. t.names) c.goal.ensures) high) in
    (u.1, u.2)

pub returns-clause-lines : goal.returns-clause-lines
returns-clause-lines c = λ m cells evs h.
    let names = c.as_slice.ensures ∙ ap (λ t. t.names) c.goal.ensures in
    subst (λ xs. OnOk c.push_variable_lines.result (Adds c.args.out.now.items c.push_variable_lines.new.out.items
    (λ n. variable_lines n c.args.names.now (last_state (start_of m c.args.goal.now.0) evs).bound (goal_variables xs)))) names
    (both_ok c.push_variable_lines.result
    (λ line loaded. line (words_of c.args.self.now) h.state.book (last_state (start_of m c.args.goal.now.0) evs)
    (λ a x k. subst (λ ws. inside_at ws a ≡ Some x) loaded.went.between.words (loaded.holds.kept_had a x k)) h.state.stands
    (subst (λ n. AreGoalPlaces h.state.book n)
    (start_places (length c.args.goal.now.0.names) (started_goals m c.args.goal.now.0) ∙ ap length (sym names)) h.state.places))
    c.push_variable_lines.ensures.line c.push_variable_lines.ensures.loaded)
