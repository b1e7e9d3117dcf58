use Rattle.std.proofs.Common.{arith, ℕ, List, ◌≡◌, ◌≤◌, ◌<◌, ◌∙◌, ap, sym, subst, length, vec_len}
use Rattle.word_commit.specs.Meanings.{Among}
use Rattle.word_commit.specs.Views.{joined}
use Rattle.word_commit.specs.Seats.{Has}
use Rattle.word_commit.specs.declared.view.View.{View}
use Rattle.word_commit.proofs.Shares.{joins}
use Rattle.word_commit.proofs.Seating.{length_kept, kept_joined, numbers_joined, has_joined}
use Rattle.word_commit.proofs.store.Store.join.Goals as goal

pub join_seat-requires : goal.join_seat-requires
join_seat-requires g c =
    let d = c.args.self.now in
    let a = c.settle.new.self in
    let b = c.settle-2.new.self in
    let there : b.token.me.0 ≡ c.args.other.token.me.0 = ap
    (λ (x : View g.row.F-Entry.Denot × List (ℕ × _)). x.0) c.settle-2.ensures.token.2 in (
      c.settle.ensures.token.0 ∙ c.requires.seat,
      c.settle-2.ensures.token.0 ∙ c.requires.other,
      b.bare,
      (let z = d.size in omega arith),
      joins g.F.Fits.means d.table.shared.key a.token.id a.token.me.0 b.token.id b.token.me.0 a.alive b.alive
          (ap (λ (v : View g.row.F-Entry.Denot). v.grip.held) there ∙ c.requires.free.1)
          (ap (λ (v : View g.row.F-Entry.Denot). v.grip.due) there ∙ c.requires.idle.1),
    )

pub invariant_of-seat : goal.invariant_of-seat
invariant_of-seat g c =
    let a = c.settle.new.self in
    let b = c.settle-2.new.self in
    let t = c.audit.new.token in
    let v = a.token.me.0 in
    let w = b.token.me.0 in
    let me : t.me ≡ (joined v w, a.token.me.1) = c.audit.ensures.token.1 ∙ c.join_seat.ensures.2 in
    let is : t.me.0 ≡ joined v w = ap (λ (x : View g.row.F-Entry.Denot × List (ℕ × _)). x.0) me in
    let id = c.audit.ensures.token.0 ∙ c.join_seat.ensures.0 in
    let none_here = c.settle.ensures.rest.0 in
    let none_there = c.settle-2.ensures.rest.0 in
    let there : w ≡ c.args.other.token.me.0 = ap (λ (x : View g.row.F-Entry.Denot × List (ℕ × _)). x.0) c.settle-2.ensures.token.2 in
    let long : length b.journal.entries.items
    ≡ length w.entries = length_kept g.F.Fits.logged w.entries b.journal.entries.items b.pending none_there b.kept in
    let many : length w.entries ≡ length c.args.other.token.me.0.entries = ap
    (λ (u : View g.row.F-Entry.Denot). length u.entries) there in
    let spare : a.spare ≡ c.args.seat.spare = c.settle.ensures.rest.1 in
    let asked : length c.args.other.token.me.0.entries ≤ c.args.seat.spare = c.requires.room in
    let ok = b.journal.entries.ok in
    let fits : vec_len b.journal.entries ≤ a.spare = omega arith in
    let len = c.append.ensures.len in
    record {
      bare = ap (λ (x : View g.row.F-Entry.Denot × List (ℕ × _)). x.1) me ∙ a.bare;
      alive = subst (λ (u : View g.row.F-Entry.Denot). 0 < u.purse.rights) (sym is)
          (let p = a.alive in let q : 0 < (joined v w).purse.rights = omega arith in q);
      rich = subst (λ (u : View g.row.F-Entry.Denot). Has u.purse c.more-seat.result)
          (sym is) (has_joined v w a.funds b.funds c.more-seat.result a.rich b.rich c.more-seat.ensures);
      due = ap (λ (u : View g.row.F-Entry.Denot). u.grip.due) is ∙ a.due;
      there = λ x h. subst (λ (n : ℕ). x.0 < n) (ap (λ k. k.words) (sym id)) (a.there x
          (subst (λ (u : View g.row.F-Entry.Denot). Among u.grip.due x) is h));
      few = (let p = a.few in let q : length t.me.0.grip.due ≡ length v.grip.due = ap
          (λ (u : View g.row.F-Entry.Denot). length u.grip.due) is in let r = ap (λ k. k.words) id in omega arith);
      kept = kept_joined g.F.Fits.logged v.entries w.entries t.me.0.entries a.journal.entries.items b.journal.entries.items
          c.append.new.self.entries.items a.pending b.pending
          (ap (λ (u : View g.row.F-Entry.Denot). u.entries) is) a.kept none_here b.kept none_there c.append.ensures.entries;
      numbers = numbers_joined v.entries w.entries t.me.0.entries a.journal.numbers.items b.journal.numbers.items
          c.append.new.self.numbers.items a.pending b.pending
          (ap (λ (u : View g.row.F-Entry.Denot). u.entries) is) a.numbers none_here b.numbers none_there c.append.ensures.numbers;
      room = (
        let e = c.len.ensures in let p = a.room.0 in let q = c.append.ensures.room.0 in omega arith,
        let e = c.len.ensures in
            let p = a.room.1 in let q = c.append.ensures.room.1 in omega arith,
      );
    }
