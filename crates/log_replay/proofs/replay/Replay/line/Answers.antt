use Rattle.std.proofs.Common.{◌≡◌, ℕ, List, Some, refl, sym, subst}
use Rattle.heap_words.specs.Heaps.{inside_at}
use Rattle.entry_lines.specs.Lines.{CommitLine, HangLine}
use Rattle.word_states.specs.Words.{IsIn}
use Rattle.log_replay.proofs.ShownLines.{both_ok, bound_known, woken_known, waits_known, commit_line, hang_line}
use Rattle.log_replay.proofs.replay.Replay.line.Goals as goal

pub push_commit_line-requires-clause-places : goal.push_commit_line-requires-clause-places
push_commit_line-requires-clause-places c = λ a i.
    bound_known c.args.self.now c.requires.standing.event c.requires.standing.shows c.in-Commit.process c.in-Commit.clause c.in-Commit.is a
    (subst (λ (xs : List ℕ). IsIn a xs) c.as_slice.ensures.value i)

pub push_commit_line-requires-clause-processes : goal.push_commit_line-requires-clause-processes
push_commit_line-requires-clause-processes c = λ q i.
    woken_known c.args.self.now c.requires.standing.event c.requires.standing.shows c.in-Commit.process c.in-Commit.clause c.in-Commit.is
    c.requires.standing.standing.replayed.rest.plain.heap q (subst (λ (xs : List ℕ). IsIn q xs) c.as_slice-in-Commit.ensures.value i)

pub push_hang_line-requires-clause-places : goal.push_hang_line-requires-clause-places
push_hang_line-requires-clause-places c = λ a i.
    let u = waits_known c.args.self.now c.requires.standing.event c.requires.standing.shows c.in-Hang.process c.in-Hang.is a
    (subst (λ (xs : List ℕ). IsIn a xs) c.as_slice-in-Hang.ensures.value i) in
    (u.0, u.2)

pub returns-in-Commit-clause-line : goal.returns-in-Commit-clause-line
returns-in-Commit-clause-line c = λ ev h.
    both_ok c.push_commit_line.result
    (λ line loaded. commit_line c.args.self.now ev h c.args.names.now c.in-Commit.process c.in-Commit.clause c.in-Commit.is
    c.push_commit_line.new.trail.kept c.args.out.now.items c.push_commit_line.new.out.items
    (subst (λ xs. CommitLine c.args.names.now c.push_commit_line.new.trail.kept c.args.self.now.entries c.in-Commit.process
    c.in-Commit.clause xs c.args.self.now.woken.items c.args.out.now.items c.push_commit_line.new.out.items) c.as_slice.ensures.value
    (subst (λ xs. CommitLine c.args.names.now c.push_commit_line.new.trail.kept c.args.self.now.entries c.in-Commit.process
    c.in-Commit.clause c.as_slice.result.now xs c.args.out.now.items c.push_commit_line.new.out.items) c.as_slice-in-Commit.ensures.value
    line))
    (λ a x k. subst (λ ws. inside_at ws a ≡ Some x) loaded.went.between.words (loaded.holds.kept_had a x k)))
    c.push_commit_line.ensures.line c.push_commit_line.ensures.loaded

pub returns-in-Hang-clause-line : goal.returns-in-Hang-clause-line
returns-in-Hang-clause-line c = λ ev h.
    both_ok c.push_hang_line.result
    (λ line loaded. hang_line c.args.self.now ev h c.args.names.now c.in-Hang.process c.in-Hang.is c.push_hang_line.new.trail.kept
    c.args.out.now.items c.push_hang_line.new.out.items
    (subst (λ xs. HangLine c.args.names.now c.push_hang_line.new.trail.kept c.args.self.now.entries c.in-Hang.process xs
    c.args.out.now.items c.push_hang_line.new.out.items) c.as_slice-in-Hang.ensures.value line)
    (λ a x k. subst (λ ws. inside_at ws a ≡ Some x) loaded.went.between.words (loaded.holds.kept_had a x k)))
    c.push_hang_line.ensures.line c.push_hang_line.ensures.loaded

pub returns-in_default : goal.returns-in_default
returns-in_default c = record {
  line = λ ev h. both_ok c.push_control_line.result
      (λ a b. a ev c.args.names.now (sym h.entry) (sym h.number)) c.push_control_line.ensures
      c.push_control_line.ensures;
  replayed = λ m from cells evs h. h;
  shows = λ ev h. h;
  room = refl;
}
