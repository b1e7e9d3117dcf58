use Rattle.std.proofs.Common.{◌+◌, ◌∷◌, [], true, ap, ap₂, ◌∙◌}
use Rattle.heap_words.specs.Cells.{encoded}
use Rattle.heap_words.specs.declared.cell.Cell.TheVariants as cell
use Rattle.word_states.specs.Denoting.{operator_code}
use Rattle.try_desk.specs.Held.{held}
use Rattle.try_desk.proofs.AtDesk.{piece_put}
use Rattle.try_desk.proofs.desk.Desk.put_operation.Goals as goal

pub returns-clause-becomes : goal.returns-clause-becomes
returns-clause-becomes c =
    piece_put c.args.self.now.clause c.args.self.now.next c.args.self.now.behind (held c.args.self.now.slots) (held c.hold.new.self)
    c.args.self.now.pieces c.put.new.self (c.encode-count.result ∷ c.content.result ∷ c.content-2.result ∷ []) _ c.args.slot
    c.encode.result _ true c.hold.ensures.held c.in_ok-at.ensures.pieces
    (ap (λ n. n ∷ c.content.result ∷ c.content-2.result ∷ [])
    (c.encode-count.ensures.value ∙ ap (λ n. encoded (cell.Raw n)) c.operation_count.ensures)
    ∙ ap₂ (λ x y. encoded (cell.Raw (66 + operator_code c.args.operator)) ∷ x ∷ y ∷ []) c.content.ensures c.content-2.ensures)
    (c.encode.ensures.value ∙ ap (λ a. encoded (cell.Tuple a)) c.in_ok-at.ensures.at.0)
