use Rattle.std.proofs.Common.{sym, ◌∙◌, subst, ℕ}
use Rattle.trial_laws.specs.Laws.{filled}
use Rattle.try_desk.specs.Desks.{Becomes}
use Rattle.try_desk.proofs.Constants.{plain_taken}
use Rattle.try_desk.proofs.desk.Desk.put_constant.Goals as goal

pub returns-in-None-clause-takes : goal.returns-in-None-clause-takes
returns-in-None-clause-takes c =
    plain_taken c.args.self.now c.put_word.new.self c.args.slot c.args.word c.args.code.now.smalls (sym c.wide_in.ensures ∙ c.in-None.is)
    (subst (λ (x : ℕ). Becomes c.args.self.now c.put_word.new.self (λ r. filled r c.args.slot x)) c.plain_word.ensures
    c.put_word.ensures.becomes)
