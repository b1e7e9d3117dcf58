use Rattle.std.proofs.Common.{◌++◌, ap, ◌∙◌}
use Rattle.trial_laws.specs.Laws.{places_for}
use Rattle.try_desk.specs.Held.{held}
use Rattle.try_desk.proofs.AtDesk.{try_begun}
use Rattle.try_desk.proofs.desk.Desk.begin.Goals as goal

pub returns-clause-begun : goal.returns-clause-begun
returns-clause-begun c =
    try_begun c.args.clause c.args.next c.args.vars c.args.self.now.clause c.args.self.now.next c.args.self.now.behind
    (held c.args.self.now.slots) (held c.renew.new.self) c.args.self.now.pieces c.put_places.new.self c.args.self.now.slots.args
    c.renew.ensures.held (c.in_ok-put_places.ensures ∙ ap (λ l. l ++ places_for c.args.vars) c.clear.ensures)
