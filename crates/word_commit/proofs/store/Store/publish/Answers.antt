use Rattle.std.proofs.Common.{arith, ℕ, List, [], ◌≡◌, ◌<◌, ap, sym, subst, ◌∙◌, length}
use Rattle.word_commit.specs.Meanings.{Among}
use Rattle.word_commit.specs.Seats.{Has}
use Rattle.word_commit.specs.Views.{all_published}
use Rattle.word_commit.specs.declared.view.View.{View}
use Rattle.word_commit.specs.declared.view.Purse.{Purse}
use Rattle.word_commit.proofs.Seating.{published_entries, kept_pushed, numbers_pushed, due_none, room_pushed}
use Rattle.word_commit.proofs.store.Store.publish.Goals as goal

pub invariant_of-seat : goal.invariant_of-seat
invariant_of-seat g c =
    let s = c.args.seat.now in
    let v = s.token.me.0 in
    let t = c.write_all.new.token in
    let old = sym c.take.ensures.value ∙ c.in-Some.is in
    let view : t.me.0 ≡ all_published v v.grip.due = ap (λ (x : View g.row.F-Entry.Denot × List (ℕ × _)). x.0) c.write_all.ensures.view in
    let kept = published_entries v v.grip.due in
    let purse : t.me.0.purse ≡ v.purse = ap (λ (u : View g.row.F-Entry.Denot). u.purse) view ∙ kept.1 in
    let entries = ap (λ (u : View g.row.F-Entry.Denot). u.entries) view ∙ kept.0 in
    let none_left : t.me.0.grip.due ≡ [] = c.write_all.ensures.none in
    record {
      bare = ap (λ (x : View g.row.F-Entry.Denot × List (ℕ × _)). x.1) c.write_all.ensures.view ∙ s.bare;
      alive = subst (λ (p : Purse). 0 < p.rights) (sym purse) s.alive;
      rich = subst (λ (p : Purse). Has p s.funds) (sym purse) s.rich;
      due = due_none g.F.Fits.means t.me.0.grip.due c.take.new.self none_left c.take.ensures.after;
      there = subst (λ (l : List (ℕ × ℕ)). (x : ℕ × ℕ) → Among l x → x.0 < t.table_id.words) (sym none_left) (λ x h. absurd h);
      few = (let z : length t.me.0.grip.due ≡ 0 = ap length none_left in let w = ap (λ i. i.words) c.write_all.ensures.token in
          let f = s.few in omega arith);
      kept = kept_pushed g.F.Fits.logged v.entries t.me.0.entries s.journal.entries.items c.push.new.self.entries.items s.pending
          c.take.new.self c.in-Some.field-0 c.into_logged.result entries s.kept old c.push.ensures.entries c.into_logged.ensures
          c.take.ensures.after;
      numbers = numbers_pushed v.entries t.me.0.entries s.journal.numbers.items c.push.new.self.numbers.items s.pending c.take.new.self
          c.in-Some.field-0 entries s.numbers old c.push.ensures.numbers c.take.ensures.after;
      room = (
        room_pushed s.pending c.take.new.self c.in-Some.field-0 _ _ s.spare _ _ old c.take.ensures.after c.push.ensures.len
            c.push.ensures.room.0 s.room.0,
        room_pushed s.pending c.take.new.self c.in-Some.field-0 _ _ s.spare _ _ old c.take.ensures.after c.push.ensures.len
            c.push.ensures.room.1 s.room.1,
      );
    }
