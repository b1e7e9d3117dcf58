use Rattle.std.proofs.Common.{rules, ◌≡◌, ◌∙◌, ℕ, List, length, sym, subst, ap, arith}
use Rattle.std.proofs.lemmas.List.{take_at}
use Rattle.fcp_model.specs.declared.source.GoalText.{GoalText}
use Rattle.fcp_model.specs.declared.source.Module.{Module}
use Rattle.fcp_text.specs.Bytes.{Text}
use Rattle.fcp_reader.specs.Sources.{IsModule}
use Rattle.heap_words.specs.Heaps.{IsHeap}
use Rattle.layable_goals.proofs.GoalsOfTexts.{goals_of_texts}
use Rattle.goal_layout.specs.Goals.{MayBeLaid, IsLaid, LaysGoal}
use Rattle.laid_texts.proofs.goals.lay_text.Goals as goal

same_module : (names : List Text) (file : Text) (m l : Module) → m ≡ l → IsModule names file m → IsModule names file l
same_module names file m l e h = subst (IsModule names file) e h

same_lays : (m : Module) (t l : GoalText) (p : ℕ) (fresh ws laid : List ℕ) → t ≡ l → ws ≡ laid →
    LaysGoal m t p fresh ws → LaysGoal m l p fresh laid
same_lays m t l p fresh ws laid same words lays =
    subst (LaysGoal m l p fresh) words (subst (λ (g : GoalText). LaysGoal m g p fresh ws) same lays)

pub lay_goal-requires-clause-loads : goal.lay_goal-requires-clause-loads
lay_goal-requires-clause-loads c = (
  c.in_ok-loaded.loaded,
  goals_of_texts _ c.args.file.now c.in_ok-loaded.loaded _ c.args.goal.now c.in_ok-goal.goal c.in_ok-numbered.numbered
      (same_module _ c.args.file.now _ _ (sym c.in_ok-loaded.ensures.same) c.in_ok-read.ensures.read.0) (omega arith)
      c.in_ok-goal.ensures.read.0 c.in_ok-numbered.ensures,
)

pub of_words-requires : goal.of_words-requires
of_words-requires c =
    let may : MayBeLaid c.in_ok-loaded.loaded c.in_ok-numbered.numbered =
    goals_of_texts _ c.args.file.now c.in_ok-loaded.loaded _ c.args.goal.now c.in_ok-goal.goal c.in_ok-numbered.numbered
    (same_module _ c.args.file.now _ _ (sym c.in_ok-loaded.ensures.same) c.in_ok-read.ensures.read.0) (omega arith)
    c.in_ok-goal.ensures.read.0 c.in_ok-numbered.ensures in
    let is_laid = c.lay_goal.ensures _ may in
    let heap : IsHeap c.lay_goal.new.words =
    (subst (IsLaid c.in_ok-loaded.loaded c.in_ok-numbered.numbered.0 _ c.lay_goal.new.words) c.in-Done.is is_laid).heap in
    subst IsHeap (sym (take_at c.lay_goal.new.words _ c.into_words-words.result.len (search rules))) heap

pub returns-in-Done : goal.returns-in-Done
returns-in-Done c =
    let loaded = c.in_ok-loaded.loaded in
    let is_module = same_module _ c.args.file.now _ loaded (sym c.in_ok-loaded.ensures.same) c.in_ok-read.ensures.read.0 in
    let may : MayBeLaid loaded c.in_ok-numbered.numbered =
    goals_of_texts _ c.args.file.now loaded _ c.args.goal.now c.in_ok-goal.goal c.in_ok-numbered.numbered
    is_module (omega arith) c.in_ok-goal.ensures.read.0 c.in_ok-numbered.ensures in
    let laid : LaysGoal loaded c.in_ok-numbered.numbered.0 c.in-Done.process _ c.lay_goal.new.words =
    subst (IsLaid loaded c.in_ok-numbered.numbered.0 _ c.lay_goal.new.words) c.in-Done.is (c.lay_goal.ensures _ may) in
    let words : c.lay_goal.new.words ≡ c.of_words.result.words.items =
    sym (c.of_words.ensures ∙ take_at c.lay_goal.new.words _ c.into_words-words.result.len (search rules)) in
    let counted : length c.in_ok-goal.goal.names ≡ c.len.result =
    sym (c.len.ensures ∙ ap (λ (t : GoalText). length t.names) (c.goal.ensures ∙ c.in_ok-numbered.ensures.same)) in
    record {
      before = _;
      source = loaded;
      file_read = is_module;
      names = _;
      text = c.in_ok-goal.goal;
      goal_read = c.in_ok-goal.ensures.read.0;
      fresh = _;
      lays = same_lays loaded _ _ c.in-Done.process _ _ _ c.in_ok-numbered.ensures.same words laid;
      variables = counted;
    }
