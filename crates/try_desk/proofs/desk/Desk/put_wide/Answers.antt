use Rattle.std.proofs.Common.{◌∷◌, [], false, refl, ap, ◌∙◌}
use Rattle.heap_words.specs.Cells.{encoded}
use Rattle.heap_words.specs.declared.cell.Cell.TheVariants as cell
use Rattle.try_desk.specs.Held.{held}
use Rattle.try_desk.proofs.AtDesk.{piece_put}
use Rattle.try_desk.proofs.desk.Desk.put_wide.Goals as goal

pub returns-clause-becomes : goal.returns-clause-becomes
returns-clause-becomes c =
    piece_put c.args.self.now.clause c.args.self.now.next c.args.self.now.behind (held c.args.self.now.slots) (held c.hold.new.self)
    c.args.self.now.pieces c.put.new.self (c.args.low ∷ []) _ c.args.slot c.encode.result _ false c.hold.ensures.held
    c.in_ok-at.ensures.pieces refl (c.encode.ensures.value ∙ ap (λ a. encoded (cell.Wide a c.args.high)) c.in_ok-at.ensures.at.0)
