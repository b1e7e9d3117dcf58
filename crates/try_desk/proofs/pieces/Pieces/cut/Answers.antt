use Rattle.std.proofs.Common.{◌≡◌, ◌+◌, ◌-◌, length, take, sym, ap, ap₂, ◌∙◌}
use Rattle.try_desk.specs.Cuts.{cut, total}
use Rattle.try_desk.proofs.Sizes.{cut_back}
use Rattle.try_desk.proofs.pieces.Pieces.cut.Goals as goal

pub returns : goal.returns
returns c =
    let split : total (take c.args.count c.self.inside.sizes.items) + c.words_behind-behind.result ≡ total c.self.inside.sizes.items =
    ap (λ l. total (take c.args.count l) + c.words_behind-behind.result) (sym c.as_slice.ensures.value)
    ∙ (c.words_behind-behind.ensures ∙ ap total c.as_slice.ensures.value) in
    let same : length c.as_slice-2.result.now ≡ length c.self.inside.words.items = ap length c.as_slice-2.ensures.value in
    ap₂ cut c.truncate.ensures.items c.truncate-2.ensures.items
    ∙ cut_back c.self.inside.sizes.items c.self.inside.words.items c.args.self.now c.args.count c.words_behind-behind.result
    (length c.as_slice-2.result.now - c.words_behind-behind.result) c.self.invariant.0 c.self.view_is split
    (ap (λ n. n - c.words_behind-behind.result) same)
