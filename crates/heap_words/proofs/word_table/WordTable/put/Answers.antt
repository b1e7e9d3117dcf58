use Rattle.std.proofs.Common.{Some, length, sym, ap, ◌∙◌, subst}
use Rattle.heap_words.specs.Trails.{WordList, word_at}
use Rattle.heap_words.specs.WordTables.{Notes, noted_at}
use Rattle.heap_words.proofs.WordTables.{still_noted, noted_put}
use Rattle.heap_words.proofs.word_table.WordTable.put.Goals as goal

pub invariant_of-self : goal.invariant_of-self
invariant_of-self c =
    still_noted c.self.inside.list.items _ _ c.args.addr c.self.invariant c.note.ensures.others
    (ap (λ (ls : WordList). word_at ls c.args.addr) c.self.view_is ∙ c.requires)

pub invariant_of-self-in-Err : goal.invariant_of-self-in-Err
invariant_of-self-in-Err c =
    subst (λ (ls : WordList). Notes (noted_at c.note.new.self.low.items c.note.new.self.high.items) ls) (sym c.in-Err.ensures.items)
    (still_noted c.self.inside.list.items _ _ c.args.addr c.self.invariant c.note.ensures.others
    (ap (λ (ls : WordList). word_at ls c.args.addr) c.self.view_is ∙ c.requires))

pub invariant_of-self-2 : goal.invariant_of-self-2
invariant_of-self-2 c =
    subst (λ (ls : WordList). Notes (noted_at c.note.new.self.low.items c.note.new.self.high.items) ls) (sym c.in-Ok.ensures.items)
    (noted_put c.self.inside.list.items _ _ c.args.addr c.args.word c.self.invariant c.note.ensures.others
    (c.in_ok-note.ensures.there ∙ ap (λ (ls : WordList). Some (length ls)) c.as_slice-at.ensures.value)
    (ap (λ (ls : WordList). word_at ls c.args.addr) c.self.view_is ∙ c.requires))
