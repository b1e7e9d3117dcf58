use Rattle.std.proofs.Common.{◌≡◌, ℕ, List, Some, sym, subst, ◌∙◌}
use Rattle.std.proofs.lemmas.Result.{IfOk-weaker}
use Rattle.heap_words.specs.Heaps.{inside_at}
use Rattle.commit_engine.specs.PlainLaws.{plain_words, plain_hall}
use Rattle.commit_engine.proofs.Turning.{is_stored}
use Rattle.trial_machine.specs.Deciding.{IsDecided, handed_over}
use Rattle.log_replay.specs.Waits.{AreTold}
use Rattle.log_replay.proofs.ToldWaits.{wait_told, other_told}
use Rattle.log_replay.proofs.waits.tried_places.Goals as goal

pub trial-requires-clause-stored : goal.trial-requires-clause-stored
trial-requires-clause-stored c = is_stored plain_words plain_hall c.args.hall.now c.requires.rest.plain

pub returns-in-Wait-clause-told : goal.returns-in-Wait-clause-told
returns-in-Wait-clause-told c =
    let code = c.args.code.now in
    let ws = c.args.hall.now.words.items in
    let told : AreTold code ws c.args.process c.trial.new.self.waits =
    wait_told code ws c.requires.rest.plain.heap c.args.process (handed_over c.trial.new.self)
    (λ a y e. subst (λ (xs : List ℕ). inside_at xs a ≡ Some y) c.trial.ensures.between.words (c.in_ok-trial.ensures.loaded.stored.had a y e))
    (subst (IsDecided code (handed_over c.trial.new.self) c.args.process) c.in-Wait.is c.in_ok-trial.ensures.decides) in
    IfOk-weaker c.copied.result _ _ (λ v e. subst (AreTold code ws c.args.process) (sym (e ∙ c.places.ensures)) told) c.copied.ensures

pub returns-in_default : goal.returns-in_default
returns-in_default c = record {
  same = c.trial.ensures.between;
  told = other_told c.args.code.now c.args.hall.now.words.items c.requires.rest.plain.heap c.args.process (handed_over c.trial.new.self)
      (λ a y e. subst (λ (xs : List ℕ). inside_at xs a ≡ Some y) c.trial.ensures.between.words
      (c.in_ok-trial.ensures.loaded.stored.had a y e))
      c.in_ok-trial.field-0 c.in_default.not-Wait c.in_ok-trial.ensures.decides c.new.result.items c.new.ensures.items;
}
