use Rattle.std.proofs.Common.{◌≡◌, ◌∙◌, ◌≤◌, ◌+◌, ◌*◌, arith}
use Rattle.heap_words.specs.Heaps.{top_at}
use Rattle.heap_words.specs.HeapLaws.{inside_known}
use Rattle.ready_lists.specs.Finding.{stands_so}
use Rattle.ready_lists.proofs.Pages.{top_is, first_is_top, below_page_top, inside_page}
use Rattle.ready_lists.proofs.Found.{passed, up_to}
use Rattle.ready_lists.proofs.listing.put_page.Goals as goal

pub loop-addr-init : goal.loop-addr-init
loop-addr-init c = record {
  behind = omega arith;
  within = omega arith;
  has = passed (stands_so c.args.sought) c.args.words.now (1024 * c.args.page) c.args.found.now.items
      (λ d s. first_is_top c.args.words.now c.args.page d c.requires.heap c.requires.there) c.requires.before;
}

pub put_process-requires-clause-inside : goal.put_process-requires-clause-inside
put_process-requires-clause-inside c =
    let top : c.top_of-addr-end.result ≡ top_at c.args.words.now (1024 * c.args.page) =
    c.top_of-addr-end.ensures ∙ top_is c.args.words.now (1024 * c.args.page) _ c.requires.there in
    below_page_top c.args.words.now c.args.page c.loop-addr.addr c.requires.heap c.requires.there c.loop-addr.invariant.behind
    (omega (arith, top, c.loop-addr-test.true))

pub loop-addr-preserved : goal.loop-addr-preserved
loop-addr-preserved c =
    let top : c.top_of-addr-end.result ≡ top_at c.args.words.now (1024 * c.args.page) =
    c.top_of-addr-end.ensures ∙ top_is c.args.words.now (1024 * c.args.page) _ c.requires.there in
    let end : top_at c.args.words.now (1024 * c.args.page) ≤ 1024 * c.args.page + 1024 =
    c.requires.heap.within c.args.page c.requires.there in
    record {
      behind = omega (arith, c.loop-addr.invariant.behind);
      within = omega (arith, top, end, c.loop-addr-test.true);
      has = c.in_ok-put_process.ensures;
    }

pub returns : goal.returns
returns c =
    let top : c.top_of-addr-end.result ≡ top_at c.args.words.now (1024 * c.args.page) =
    c.top_of-addr-end.ensures ∙ top_is c.args.words.now (1024 * c.args.page) _ c.requires.there in
    up_to (stands_so c.args.sought) c.args.words.now c.loop-addr.addr (1024 * c.args.page + 1024) c.loop-addr.found.items c.loop-addr.invariant.within
    (λ a lo hi d s t.
    let below = inside_page c.args.words.now c.args.page a (omega (arith, lo, c.loop-addr.invariant.behind)) hi
    (inside_known c.args.words.now a t.0 t.1) in
    omega (arith, lo, top, below, c.loop-addr-test.false)) c.loop-addr.invariant.has
