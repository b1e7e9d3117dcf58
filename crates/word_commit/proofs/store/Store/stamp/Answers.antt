use Rattle.std.proofs.Common.{arith, ℕ, List, [], suc, ◌≡◌, ◌<◌, ◌+◌, ◌∷◌, ◌++◌, ap, sym, subst, ◌∙◌}
use Rattle.word_commit.specs.Kept.{numbers_of}
use Rattle.word_commit.specs.Views.{stamped}
use Rattle.word_commit.specs.Seats.{Has, kept_of}
use Rattle.word_commit.specs.Conditions.{MayStamp}
use Rattle.word_commit.specs.declared.view.View.{View}
use Rattle.word_commit.proofs.Seating.{kept_more, numbers_more, room_more, has_less, can_pay}
use Rattle.word_commit.proofs.store.Store.stamp.Goals as goal

pub stamp_as-number-requires-clause-may : goal.stamp_as-number-requires-clause-may
stamp_as-number-requires-clause-may g c =
    let same : c.settle.new.self.token.me.0 ≡ c.args.seat.now.token.me.0 = ap
    (λ (x : View g.row.F-Entry.Denot × List (ℕ × _)). x.0) c.settle.ensures.token.2 in
    subst (λ (v : View g.row.F-Entry.Denot). (n : ℕ) → n < 4294967296
    → MayStamp g.F.Fits.means c.args.self.now.table.shared.key v c.args.entry n) (sym same) c.requires.may

pub less-seat-requires : goal.less-seat-requires
less-seat-requires g c = let s = c.settle.new.self in
    let same : s.token.me.0 ≡ c.args.seat.now.token.me.0 = ap
    (λ (x : View g.row.F-Entry.Denot × List (ℕ × _)). x.0) c.settle.ensures.token.2 in
    can_pay g.F.Fits.means c.args.seat.now.token.me.0 c.args.entry s.funds c.cost.result
    (subst (λ (v : View g.row.F-Entry.Denot). Has v.purse s.funds) same s.rich) c.cost.ensures c.requires.affords

pub invariant_of-seat : goal.invariant_of-seat
invariant_of-seat g c =
    let s = c.settle.new.self in
    let t = c.stamp_as-number in
    let none_left = c.settle.ensures.rest.0 in
    let view : t.new.token.me ≡ (stamped g.F.Fits.means s.token.me.0 c.args.entry (suc t.result), s.token.me.1) = t.ensures.token.1 in
    let is : t.new.token.me.0 ≡ stamped g.F.Fits.means s.token.me.0 c.args.entry (suc t.result) = ap
    (λ (x : View g.row.F-Entry.Denot × List (ℕ × _)). x.0) view in
    let one : suc t.result ≡ t.result + 1 = omega arith in
    let spare : s.spare ≡ c.args.seat.now.spare = c.settle.ensures.rest.1 in
    let room = c.requires.room in
    record {
      bare = ap (λ (x : View g.row.F-Entry.Denot × List (ℕ × _)). x.1) view ∙ s.bare;
      alive = subst (λ (v : View g.row.F-Entry.Denot). 0 < v.purse.rights) (sym is) s.alive;
      rich = subst (λ (v : View g.row.F-Entry.Denot). Has v.purse c.less-seat.result)
          (sym is) (has_less g.F.Fits.means s.token.me.0 c.args.entry s.funds c.cost.result c.less-seat.result s.rich c.cost.ensures
          c.less-seat.ensures);
      due = ap (λ (v : View g.row.F-Entry.Denot). v.grip.due) is ∙ ap (λ (n : ℕ). g.F.Fits.means.writes c.args.entry n) one;
      there = t.ensures.there;
      few = t.ensures.few;
      kept = ap (λ (v : View g.row.F-Entry.Denot). kept_of g.F.Fits.logged v.entries) is
          ∙ kept_more g.F.Fits.logged s.token.me.0.entries s.journal.entries.items s.pending record {
            number = suc t.result;
            entry = c.args.entry;
          } none_left s.kept;
      numbers = ap (λ (v : View g.row.F-Entry.Denot). numbers_of v.entries) is
          ∙ numbers_more s.token.me.0.entries s.journal.numbers.items s.pending record {
            number = suc t.result;
            entry = c.args.entry;
          } none_left s.numbers
          ∙ ap (λ (n : ℕ). s.journal.numbers.items ++ n ∷ []) one;
      room = (
        room_more s.pending _ s.spare _ none_left (omega arith) s.room.0,
        room_more s.pending _ s.spare _ none_left
            (omega arith) s.room.1,
      );
    }
