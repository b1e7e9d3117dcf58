use Rattle.std.proofs.Common.{◌≡◌, ◌∙◌, sym, subst, Bool, true}
use Rattle.std.specs.Prelude.{◌↔◌}
use Rattle.commit_engine.specs.Holding.{IsNew}
use Rattle.commit_engine.proofs.NewPlaces.{new_word, no_new}
use Rattle.commit_engine.proofs.placing.is_new.Goals as goal

pub returns-in-Some : goal.returns-in-Some
returns-in-Some c =
    subst (λ (t : Bool). (t ≡ true) ↔ IsNew c.args.read.now.kept c.args.addr) (sym c.is_above_top.ensures)
    (new_word c.args.read.now.kept c.args.addr c.in-Some.word c.once.ensures.kept (sym c.kept_word.ensures ∙ c.in-Some.is))

pub returns-in-None : goal.returns-in-None
returns-in-None c = no_new c.args.read.now.kept c.args.addr (sym c.kept_word.ensures ∙ c.in-None.is)
