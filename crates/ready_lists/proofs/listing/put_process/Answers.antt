use Rattle.std.proofs.Common.{◌+◌, refl, sym, ap, ◌∙◌}
use Rattle.std.specs.Prelude.{pos}
use Rattle.heap_words.specs.HeapLaws.{inside_below}
use Rattle.heap_words.specs.declared.cell.Cell.TheVariants.{Small, Status}
use Rattle.ready_lists.specs.Finding.{stands_so, is_status}
use Rattle.ready_lists.proofs.Pages.{cell_at_place, at_from_place, next_inside}
use Rattle.ready_lists.proofs.Found.{status_in, passed, one_more}
use Rattle.ready_lists.proofs.listing.put_process.Goals as goal

pub bounds-words-addr : goal.bounds-words-addr
bounds-words-addr c = inside_below c.args.words.now c.args.addr c.requires.inside

pub returns-then-not-is_status : goal.returns-then-not-is_status
returns-then-not-is_status c =
    passed (stands_so c.args.sought) c.args.words.now c.args.addr c.args.found.now.items
    (λ d s t.
    let e = c.is_status.ensures ∙ ap (is_status (stands_so c.args.sought)) (cell_at_place c.args.words.now c.args.addr _ (Status d) t) ∙ s in
    cc) c.requires.before

pub bounds-words-addr-2 : goal.bounds-words-addr-2
bounds-words-addr-2 c =
    let r = status_in (stands_so c.args.sought) _ (sym c.is_status.ensures ∙ c.if-not-is_status.false) in
    inside_below c.args.words.now (c.args.addr + 1) (next_inside c.args.words.now c.args.addr r.0 c.requires.heap
    (at_from_place c.args.words.now c.args.addr _ (Status r.0) c.requires.inside r.2))

pub returns-in-Ok : goal.returns-in-Ok
returns-in-Ok c =
    let r = status_in (stands_so c.args.sought) _ (sym c.is_status.ensures ∙ c.if-not-is_status.false) in
    rw c.in-Ok.ensures.items
    (one_more (stands_so c.args.sought) c.args.words.now c.args.addr c.args.found.now.items _ refl (record {
      status = (r.0, r.1, at_from_place c.args.words.now c.args.addr _ (Status r.0) c.requires.inside r.2);
      number = λ n t. c.number_in-name.ensures n (cell_at_place c.args.words.now (c.args.addr + 1) _ (Small (pos n)) t);
    }) c.requires.before)
