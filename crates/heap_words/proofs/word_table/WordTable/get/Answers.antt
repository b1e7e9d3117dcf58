use Rattle.std.proofs.Common.{sym, ap, ◌∙◌}
use Rattle.std.specs.Prelude.{slice_get}
use Rattle.heap_words.specs.Trails.{WordList}
use Rattle.heap_words.proofs.WordTables.{no_position, no_entry, other_entry, its_entry}
use Rattle.heap_words.proofs.word_table.WordTable.get.Goals as goal

pub returns-in_default : goal.returns-in_default
returns-in_default c =
    rw (← c.self.view_is) (no_position c.self.inside.list.items _ c.self.invariant c.args.addr (sym c.in_default.ensures))

pub returns-in_default-entry : goal.returns-in_default-entry
returns-in_default-entry c =
    rw (← c.self.view_is) (
    no_entry c.self.inside.list.items _ c.self.invariant c.args.addr c.in-Some.at (sym c.in-Some.ensures)
    (ap (λ (xs : WordList). slice_get xs c.in-Some.at) (sym c.as_slice.ensures.value) ∙ sym c.in_default-entry.ensures))

pub returns-then-found-addr : goal.returns-then-found-addr
returns-then-found-addr c =
    rw (← c.self.view_is) (
    its_entry c.self.inside.list.items _ c.self.invariant c.args.addr c.in-Some.at c.in-Some-entry.found.0 c.in-Some-entry.found.1
    (sym c.in-Some.ensures)
    (ap (λ (xs : WordList). slice_get xs c.in-Some.at) (sym c.as_slice.ensures.value) ∙ sym c.in-Some-entry.ensures)
    c.if-found-addr.true)

pub returns-else-found-addr : goal.returns-else-found-addr
returns-else-found-addr c =
    rw (← c.self.view_is) (
    other_entry c.self.inside.list.items _ c.self.invariant c.args.addr c.in-Some.at c.in-Some-entry.found.0 c.in-Some-entry.found.1
    (sym c.in-Some.ensures)
    (ap (λ (xs : WordList). slice_get xs c.in-Some.at) (sym c.as_slice.ensures.value) ∙ sym c.in-Some-entry.ensures)
    c.if-found-addr.false)
