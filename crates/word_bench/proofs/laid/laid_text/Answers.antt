use Rattle.std.proofs.Common.{rules, ◌≡◌, List, sym, subst, arith}
use Rattle.std.proofs.lemmas.List.{take_at}
use Rattle.fcp_model.specs.declared.source.Module.{Module}
use Rattle.fcp_text.specs.Bytes.{Text}
use Rattle.fcp_reader.specs.Sources.{IsModule}
use Rattle.heap_words.specs.Heaps.{IsHeap}
use Rattle.layable_goals.proofs.GoalsOfTexts.{goals_of_texts}
use Rattle.goal_layout.specs.Goals.{MayBeLaid, IsLaid}
use Rattle.word_bench.proofs.laid.laid_text.Goals as goal

same_module : (names : List Text) (file : Text) (m l : Module) → m ≡ l → IsModule names file m → IsModule names file l
same_module names file m l e h = subst (IsModule names file) e h

pub lay_goal-requires-clause-loads : goal.lay_goal-requires-clause-loads
lay_goal-requires-clause-loads c = (
  c.in_ok-loaded.loaded,
  goals_of_texts _ c.args.file.now c.in_ok-loaded.loaded _ c.args.goal.now c.in_ok-goal.goal c.in_ok-numbered.numbered
      (same_module _ c.args.file.now _ _ (sym c.in_ok-loaded.ensures.same) c.in_ok-read.ensures.read.0) (omega arith)
      c.in_ok-goal.ensures.read.0 c.in_ok-numbered.ensures,
)

pub returns-in-Done : goal.returns-in-Done
returns-in-Done c =
    let may : MayBeLaid c.in_ok-loaded.loaded c.in_ok-numbered.numbered =
    goals_of_texts _ c.args.file.now c.in_ok-loaded.loaded _ c.args.goal.now c.in_ok-goal.goal c.in_ok-numbered.numbered
    (same_module _ c.args.file.now _ _ (sym c.in_ok-loaded.ensures.same) c.in_ok-read.ensures.read.0) (omega arith)
    c.in_ok-goal.ensures.read.0 c.in_ok-numbered.ensures in
    let is_laid = c.lay_goal.ensures _ may in
    let heap : IsHeap c.lay_goal.new.words =
    (subst (IsLaid c.in_ok-loaded.loaded c.in_ok-numbered.numbered.0 _ c.lay_goal.new.words) c.in-Done.is is_laid).heap in
    subst IsHeap (sym (take_at c.lay_goal.new.words _ c.into_words-words.result.len (search rules))) heap
