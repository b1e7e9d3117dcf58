use Rattle.std.proofs.Common.{arith, ℕ, List, ◌≡◌, ◌≤◌, ◌*◌, ◌∙◌, ap, sym, subst, length}
use Rattle.std.specs.Slots.{slots_items, slots_counts}
use Rattle.word_commit.specs.Kept.{numbers_of, Once}
use Rattle.word_commit.specs.Views.{times}
use Rattle.word_commit.specs.declared.view.View.{View}
use Rattle.word_commit.proofs.Ends.{Ends, ends, kept_settled, numbers_settled, once_settled, closes, closes_as}
use Rattle.word_commit.proofs.store.Store.close.Goals as goal

pub arrange-requires : goal.arrange-requires
arrange-requires g c =
    let s = c.settle.new.self in
    let there : s.token.me.0 ≡ c.args.seat.token.me.0 = ap
    (λ (x : View g.row.F-Entry.Denot × List (ℕ × _)). x.0) c.settle.ensures.token.2 in
    let e : Ends g.F.Fits.means c.args.self.table.shared.key s.token.me.0 (slots_items c.close_with.result.words)
    = ends g.F.Fits.means c.args.self.table.shared.key s.token.id s.token.me.0 (slots_items c.close_with.result.words)
    (slots_items c.close_with.result.slots)
    (ap (λ (v : View g.row.F-Entry.Denot). v.purse.rights) there ∙ c.requires.alone)
    (ap (λ (v : View g.row.F-Entry.Denot). v.grip.due) there ∙ c.requires.idle) c.close_with.ensures.values.2 in
    let numbers : s.journal.numbers.items
    ≡ numbers_of s.token.me.0.entries = numbers_settled s.token.me.0.entries s.journal.numbers.items s.pending
    c.settle.ensures.rest.0 s.numbers in
    λ n. subst (λ (k : ℕ). Once k n (times n s.journal.numbers.items)) (sym s.journal.numbers.ok.0)
    (once_settled g.F.Fits.means c.args.self.table.shared.key s.token.me.0 (slots_items c.close_with.result.words)
    s.journal.numbers.items e numbers n)

pub returns : goal.returns
returns g c =
    let d = c.args.self in
    let s = c.settle.new.self in
    let words : List ℕ = slots_items c.close_with.result.words in
    let there : s.token.me.0 ≡ c.args.seat.token.me.0 = ap
    (λ (x : View g.row.F-Entry.Denot × List (ℕ × _)). x.0) c.settle.ensures.token.2 in
    let e : Ends g.F.Fits.means d.table.shared.key s.token.me.0 words
    = ends g.F.Fits.means d.table.shared.key s.token.id s.token.me.0 words (slots_items c.close_with.result.slots)
    (ap (λ (v : View g.row.F-Entry.Denot). v.purse.rights) there ∙ c.requires.alone)
    (ap (λ (v : View g.row.F-Entry.Denot). v.grip.due) there ∙ c.requires.idle) c.close_with.ensures.values.2 in
    let numbers = numbers_settled s.token.me.0.entries s.journal.numbers.items s.pending c.settle.ensures.rest.0 s.numbers in
    let kept = kept_settled g.F.Fits.logged s.token.me.0.entries s.journal.entries.items s.pending c.settle.ensures.rest.0 s.kept in
    let counts = slots_counts c.close_with.result.words in
    let long : 1024 * d.table.shared.key.pages ≤ length words =
    (let a = counts.0 in let b = c.close_with.ensures.counts.0 in let z = d.size in let k = d.key in omega arith) in
    closes_as g.F.Fits.means g.F.Fits.logged d.table.shared.key s.token.me.0 c.args.seat.token.me.0 (1024 * d.pages) words
    c.arrange.new.self.entries.items _ there
    (ap (λ (n : ℕ). 1024 * n) d.key) (c.of.ensures ∙ c.into_entries.ensures)
    (closes g.F.Fits.means d.table.shared.key g.F.Fits.logged s.token.me.0 words s.journal.numbers.items s.journal.entries.items
    c.arrange.new.self.entries.items e long numbers kept c.arrange.ensures)
