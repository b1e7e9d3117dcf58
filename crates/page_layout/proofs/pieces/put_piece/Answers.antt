use Rattle.std.proofs.Common.{◌≡◌, ◌++◌, ◌∷◌, [], ◌+◌, ◌*◌, ◌∙◌, ℕ, List, ap, sym, map, drop, arith, get_or}
use Rattle.heap_words.specs.Trails.{WordList}
use Rattle.word_states.specs.Words.{row}
use Rattle.word_states.specs.Layouts.{moved}
use Rattle.page_layout.specs.Laying.{moved_to}
use Rattle.page_layout.specs.Writing.{written}
use Rattle.page_layout.proofs.Putting.{process_row, put_three, after_two}
use Rattle.page_layout.proofs.pieces.put_piece.Goals as goal

pub returns-then-is_process_piece : goal.returns-then-is_process_piece
returns-then-is_process_piece c n =
    let f = moved_to c.args.table.now in
    let x : ℕ = get_or c.args.piece.now 0 0 in
    let name : ℕ = 576460752303423491 + 16 * c.args.process + 4294967296 * n in
    let first : written n c.put-then-is_process_piece.new.writes.items ≡ written n c.args.writes.now.items ++ (c.args.base, x) ∷ [] =
    c.in_ok-put-2.ensures n
    ∙ ap (λ (v : ℕ). written n c.args.writes.now.items ++ (c.args.base, v) ∷ []) (let e : x + 0 * n ≡ x = omega arith in e) in
    let rest : written n c.put_moved-then-is_process_piece.new.writes.items ≡ written n c.put-then-is_process_piece-2.new.writes.items
    ++ row (c.args.base + 2) (map (moved f) (drop 2 c.args.piece.now)) =
    c.in_ok-put_moved-2.ensures n
    ∙ ap (λ (l : List ℕ). written n c.put-then-is_process_piece-2.new.writes.items ++ row (c.args.base + 2) (map (moved f) l))
    (after_two c.args.piece.now) in
    put_three (written n c.args.writes.now.items) (c.args.base, x) (c.args.base + 1, name)
    (row (c.args.base + 2) (map (moved f) (drop 2 c.args.piece.now))) (written n c.put-then-is_process_piece.new.writes.items)
    (written n c.put-then-is_process_piece-2.new.writes.items) (written n c.put_moved-then-is_process_piece.new.writes.items)
    first (c.in_ok-put-3.ensures n) rest
    ∙ ap (λ (l : WordList). written n c.args.writes.now.items ++ l)
    (sym (process_row f n c.args.place c.args.process c.args.base c.args.piece.now
    (sym c.is_place_piece.ensures ∙ c.if-is_place_piece.false)
    (sym c.is_process_piece.ensures ∙ c.if-is_process_piece.true)
    (c.requires.named (sym c.is_process_piece.ensures ∙ c.if-is_process_piece.true))))
