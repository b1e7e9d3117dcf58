use Rattle.std.proofs.Common.{◌≡◌, ◌+◌, ◌++◌, [], ◌∷◌, length, sym, ap, ◌∙◌, arith}
use Rattle.std.proofs.lemmas.List.{length-append}
use Rattle.try_desk.proofs.Cutting.{put_cut, put_whole, put_end}
use Rattle.try_desk.proofs.pieces.Pieces.put.Goals as goal

pub invariant_of-self-in-Ok : goal.invariant_of-self-in-Ok
invariant_of-self-in-Ok c =
    let words : c.put_words.new.words.items ≡ c.self.inside.words.items ++ c.args.piece.now = c.in-Ok.ensures in
    let sizes : c.put_size.new.sizes.items ≡ c.self.inside.sizes.items ++ length c.args.piece.now ∷ [] = c.in_ok-put_size.ensures in
    let size : length c.put_words.new.words.items ≡ length c.self.inside.words.items + length c.args.piece.now =
    ap length words ∙ length-append c.self.inside.words.items c.args.piece.now in
    let same : length c.as_slice-count.result.now ≡ length c.self.inside.words.items = ap length c.as_slice-count.ensures.value in
    let few : length c.as_slice.result.now ≡ length c.self.inside.sizes.items = ap length c.as_slice.ensures.value in
    let more : length c.put_size.new.sizes.items ≡ length c.self.inside.sizes.items + 1 =
    ap length sizes ∙ length-append c.self.inside.sizes.items (length c.args.piece.now ∷ []) in (
      put_whole c.self.inside.words.items c.put_words.new.words.items c.args.piece.now c.self.inside.sizes.items c.put_size.new.sizes.items
          c.self.invariant.0 sizes words,
      omega (arith, size, same, c.if-size-count.false, c.self.invariant.1),
      omega (arith, more, few, c.if-as_slice-ge-MOST_PIECES.false),
    )

pub returns-in-Ok-clause-pieces : goal.returns-in-Ok-clause-pieces
returns-in-Ok-clause-pieces c =
    put_cut c.self.inside.words.items c.put_words.new.words.items c.args.piece.now c.self.inside.sizes.items c.put_size.new.sizes.items
    c.args.self.now c.self.invariant.0 c.self.view_is c.in_ok-put_size.ensures c.in-Ok.ensures

pub returns-in-Ok-clause-at : goal.returns-in-Ok-clause-at
returns-in-Ok-clause-at c =
    let same : length c.as_slice-count.result.now ≡ length c.self.inside.words.items = ap length c.as_slice-count.ensures.value in (
      ap (λ n. 4000000000 + n) same ∙ sym (put_end c.self.inside.words.items c.self.inside.sizes.items c.args.self.now c.self.invariant.0
          c.self.view_is),
      omega (arith, same, c.if-size-count.false, c.self.invariant.1),
    )
