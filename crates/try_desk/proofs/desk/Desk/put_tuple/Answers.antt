use Rattle.std.proofs.Common.{◌≡◌, ◌∷◌, false, suc, length, ap, ◌∙◌, arith}
use Rattle.heap_words.specs.Cells.{encoded}
use Rattle.heap_words.specs.declared.cell.Cell.TheVariants as cell
use Rattle.try_desk.specs.Held.{held, held_terms}
use Rattle.try_desk.proofs.AtDesk.{piece_put, terms_are, line_is, terms_length}
use Rattle.try_desk.proofs.desk.Desk.put_tuple.Goals as goal

pub returns-clause-becomes : goal.returns-clause-becomes
returns-clause-becomes c binds reads waits =
    piece_put c.args.self.now.clause c.args.self.now.next c.args.self.now.behind (held c.args.self.now.slots) (held c.hold.new.self)
    c.args.self.now.pieces c.put.new.self c.as_slice.result.now _ c.args.slot c.encode-2.result _ false c.hold.ensures.held
    c.in_ok-at.ensures.pieces
    (line_is c.as_slice.result.now c.terms.new.line.items c.put_word.new.line.items c.clear.new.self.items
    (held_terms (held c.args.self.now.slots) c.args.first c.args.parts) c.encode.result (encoded (cell.Raw c.args.parts))
    c.as_slice.ensures.value c.in_ok-terms.ensures c.in_ok-put_word.ensures c.clear.ensures.items c.encode.ensures.value
    ∙ ap (λ l. encoded (cell.Raw c.args.parts) ∷ l)
    (terms_are c.args.self.now.clause c.args.self.now.next c.args.self.now.behind (held c.args.self.now.slots) c.args.self.now.pieces binds
    reads waits c.args.first c.args.parts))
    (c.encode-2.ensures.value ∙ ap (λ a. encoded (cell.Tuple a)) c.in_ok-at.ensures.at.0) binds reads waits

pub returns-clause-room : goal.returns-clause-room
returns-clause-room c =
    let line : c.as_slice.result.now ≡ encoded (cell.Raw c.args.parts) ∷ held_terms (held c.args.self.now.slots) c.args.first c.args.parts =
    line_is c.as_slice.result.now c.terms.new.line.items c.put_word.new.line.items c.clear.new.self.items
    (held_terms (held c.args.self.now.slots) c.args.first c.args.parts) c.encode.result (encoded (cell.Raw c.args.parts))
    c.as_slice.ensures.value c.in_ok-terms.ensures c.in_ok-put_word.ensures c.clear.ensures.items c.encode.ensures.value in
    let size : length c.as_slice.result.now ≡ suc c.args.parts =
    ap length line ∙ ap suc (terms_length (held c.args.self.now.slots) c.args.first c.args.parts) in
    omega (arith, size, c.in_ok-at.ensures.at.0, c.in_ok-at.ensures.at.1)
