use Rattle.std.proofs.Common.{◌≡◌, ◌++◌, ◌∷◌, [], ℕ, ◌+◌, ◌*◌, ◌∙◌, ap, sym, refl, map, take, append_assoc, arith, get_or}
use Rattle.word_states.specs.Words.{row}
use Rattle.word_states.specs.Layouts.{moved}
use Rattle.page_layout.specs.Laying.{moved_to}
use Rattle.page_layout.specs.Writing.{written}
use Rattle.page_layout.proofs.Putting.{moved_more}
use Rattle.page_layout.proofs.pieces.put_moved.Goals as goal

pub loop-at-preserved : goal.loop-at-preserved
loop-at-preserved c n =
    let f = moved_to c.args.table.now in
    let x : ℕ = get_or c.args.words.now c.loop-at.at 0 in
    let word : c.relocate-word.result + 0 * n ≡ moved f x =
    (let e : c.relocate-word.result + 0 * n ≡ c.relocate-word.result = omega arith in e) ∙ c.relocate-word.ensures in
    c.in_ok-put.ensures n
    ∙ ap (λ (v : ℕ). written n c.loop-at.writes.items ++ (c.args.base + c.loop-at.at, v) ∷ []) word
    ∙ ap (λ l. l ++ (c.args.base + c.loop-at.at, moved f x) ∷ []) (c.loop-at.invariant n)
    ∙ append_assoc (written n c.args.writes.now.items) (row c.args.base (map (moved f) (take c.loop-at.at c.args.words.now)))
    ((c.args.base + c.loop-at.at, moved f x) ∷ [])
    ∙ ap (λ l. written n c.args.writes.now.items ++ l)
    (sym (moved_more f c.args.base c.loop-at.at x c.args.words.now c.loop-at-test.true refl))
