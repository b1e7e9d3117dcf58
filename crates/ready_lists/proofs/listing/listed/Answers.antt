use Rattle.std.proofs.Common.{◌≡◌, ◌∙◌, ◌*◌, ◌%◌, length, ap, arith}
use Rattle.std.proofs.lemmas.Result.{IfOk-weaker}
use Rattle.ready_lists.specs.Finding.{stands_so}
use Rattle.ready_lists.proofs.Found.{none_yet}
use Rattle.ready_lists.proofs.Sorting.{addresses_of, are_listed}
use Rattle.ready_lists.proofs.listing.listed.Goals as goal

pub loop-page-init : goal.loop-page-init
loop-page-init c = none_yet (stands_so c.args.sought) c.args.words.now c.new-found.result.items c.new-found.ensures.items

pub returns : goal.returns
returns c =
    let whole : length c.args.words.now % 1024 ≡ 0 = c.requires.whole in
    IfOk-weaker c.addresses.result _ _
    (λ qs e. are_listed (stands_so c.args.sought) c.args.words.now (1024 * c.loop-page.page) c.loop-page.found.items
    c.sort_unstable.new.self.items qs.items (omega (arith, whole, c.loop-page-test.false)) c.loop-page.invariant
    c.sort_unstable.ensures.permutation c.sort_unstable.ensures.sorted (e ∙ ap addresses_of c.as_slice.ensures.value)) c.addresses.ensures
