use Rattle.std.proofs.Common.{◌≡◌, ◌∙◌, sym, subst, Bool, true}
use Rattle.std.specs.Prelude.{◌↔◌, not}
use Rattle.commit_engine.specs.Holding.{IsOpen}
use Rattle.commit_engine.proofs.NewPlaces.{open_word, no_open}
use Rattle.commit_engine.proofs.placing.is_open.Goals as goal

pub returns-in-Some : goal.returns-in-Some
returns-in-Some c =
    subst (λ (t : Bool). (not t ≡ true) ↔ IsOpen c.args.read.now.kept c.args.addr) (sym c.is_final.ensures)
    (open_word c.args.read.now.kept c.args.addr c.in-Some.word c.once.ensures.kept (sym c.kept_word.ensures ∙ c.in-Some.is))

pub returns-in-None : goal.returns-in-None
returns-in-None c = no_open c.args.read.now.kept c.args.addr (sym c.kept_word.ensures ∙ c.in-None.is)
