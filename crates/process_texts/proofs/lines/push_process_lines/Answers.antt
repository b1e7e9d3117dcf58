use Rattle.std.proofs.Common.{◌≡◌, ◌<◌, ℕ, List, [], length, map, get_or, sym, ap, ◌∙◌, subst, arith}
use Rattle.std.proofs.lemmas.List.{get_or-map}
use Rattle.fcp_model.specs.Translation.{program_of}
use Rattle.word_states.specs.Words.{IsIn}
use Rattle.entry_lines.proofs.LinesOfEntries.{in_list}
use Rattle.process_texts.specs.Lines.{ProcessLine}
use Rattle.process_texts.proofs.ManyLines.{line_next, lines_all, each_at}
use Rattle.process_texts.proofs.lines.push_process_lines.Goals as goal

pub push_process_line-requires-clause-process : goal.push_process_line-requires-clause-process
push_process_line-requires-clause-process g c =
    g.met.W.Words.laws.stays_known _ _ _ c.loop-at.invariant.between
    (c.requires.processes _ (in_list c.args.processes.now c.loop-at.at 0 (omega arith)))

pub push_process_line-requires-clause-places : goal.push_process_line-requires-clause-places
push_process_line-requires-clause-places g c a i =
    let here = each_at _ c.args.waits.now c.loop-at.at c.index-waits-at.result c.requires.places (omega arith) a
    (subst (λ (l : List ℕ). IsIn a l) (c.as_slice.ensures.value ∙ ap (λ v. v.items) c.index-waits-at.is) i) in
    (here.0, g.met.W.Words.laws.stays_known _ _ _ c.loop-at.invariant.between here.1)

pub loop-at-preserved : goal.loop-at-preserved
loop-at-preserved g c =
    let lt : c.loop-at.at < length c.args.processes.now = omega arith in
    let told : c.as_slice.result.now ≡ get_or (map (λ v. v.items) c.args.waits.now) c.loop-at.at [] =
    c.as_slice.ensures.value ∙ (ap (λ v. v.items) c.index-waits-at.is
    ∙ sym (get_or-map (λ v. v.items) c.args.waits.now c.loop-at.at c.index-waits-at.result [] (omega arith))) in
    record {
      sound = c.in_ok-push_process_line.ensures.loaded.sound;
      between = g.met.W.Words.laws.twice _ _ _ c.loop-at.invariant.between c.push_process_line.ensures.between;
      text = line_next g.met.W.Words.laws c.args.names.now (program_of c.args.loaded.now) c.args.processes.now
          (map (λ v. v.items) c.args.waits.now) c.loop-at.at 0 [] _ _ _ lt c.loop-at.invariant.between
          c.in_ok-push_process_line.ensures.loaded c.loop-at.invariant.text
          (subst (λ (l : List ℕ). ProcessLine c.args.names.now (program_of c.args.loaded.now) c.push_process_line.new.trail.kept
          (get_or c.args.processes.now c.loop-at.at 0) l c.loop-at.out.items c.push_process_line.new.out.items) told
          c.in_ok-push_process_line.ensures.line);
    }

pub returns-clause-lines : goal.returns-clause-lines
returns-clause-lines g c =
    lines_all c.args.names.now (program_of c.args.loaded.now) _ c.args.processes.now (map (λ v. v.items) c.args.waits.now) c.loop-at.at _ _
    (omega arith) c.loop-at.invariant.text
