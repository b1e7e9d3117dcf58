use Rattle.std.proofs.Common.{arith, ℕ, List, [], ◌≡◌, ◌<◌, ◌+◌, ◌-◌, ap, sym, subst, ◌∙◌, refl, inl, length, Some}
use Rattle.std.specs.Prelude.{slice_get}
use Rattle.word_commit.specs.Meanings.{Among}
use Rattle.word_commit.specs.Views.{published, all_published}
use Rattle.word_commit.specs.declared.view.View.{View}
use Rattle.word_commit.proofs.Lists.{among_rest, drop_end}
use Rattle.word_commit.proofs.Seating.{Writes, one_written}
use Rattle.word_commit.proofs.Writes.{publishes}
use Rattle.word_commit.proofs.store.Store.write_all.Goals as goal

pub store-requires : goal.store-requires
store-requires g c =
    let d = c.args.self.now in
    let i = c.loop-addr.invariant in
    let ws : List (ℕ × ℕ) = g.F.Fits.means.writes c.args.entry.now c.args.number in
    let v : View g.row.F-Entry.Denot = c.loop-addr.token.me.0 in
    let x : ℕ × ℕ = (c.in-Some.addr, c.in-Some.word) in
    let got : slice_get ws c.loop-addr.at ≡ Some x = ap (λ (n : ℕ). slice_get (g.F.Fits.means.writes c.args.entry.now n) c.loop-addr.at)
    (sym c.from.ensures) ∙ sym c.write.ensures ∙ c.in-Some.is in
    let w : Writes v (published v x.0 x.1) ws c.loop-addr.at x.0 x.1 = one_written v (published v x.0 x.1) ws c.loop-addr.at x.0 x.1
    i.due got refl in
    let lt = i.there x (subst (λ l. Among l x) (sym w.owed) (inl refl)) in
    let seat = i.seat ∙ c.requires.token in (
      seat,
      subst (λ (z : ℕ). x.0 < z) (ap (λ k. k.words) seat) lt,
      publishes g.F.Fits.means d.table.shared.key d.table.shared.table_id.slots c.loop-addr.token.id c.loop-addr.token.me x.0 x.1 w.owed,
    )

pub loop-addr-smaller : goal.loop-addr-smaller
loop-addr-smaller g c =
    let i = c.loop-addr.invariant in
    let ws : List (ℕ × ℕ) = g.F.Fits.means.writes c.args.entry.now c.args.number in
    let v : View g.row.F-Entry.Denot = c.loop-addr.token.me.0 in
    let x : ℕ × ℕ = (c.in-Some.addr, c.in-Some.word) in
    let got : slice_get ws c.loop-addr.at ≡ Some x = ap (λ (n : ℕ). slice_get (g.F.Fits.means.writes c.args.entry.now n) c.loop-addr.at)
    (sym c.from.ensures) ∙ sym c.write.ensures ∙ c.in-Some.is in
    let w : Writes v (published v x.0 x.1) ws c.loop-addr.at x.0 x.1 = one_written v (published v x.0 x.1) ws c.loop-addr.at x.0 x.1
    i.due got refl in
    let e = w.end in
    let r : length ws - (c.loop-addr.at + 1) < length ws - c.loop-addr.at = omega arith in r

pub loop-addr-preserved : goal.loop-addr-preserved
loop-addr-preserved g c =
    let i = c.loop-addr.invariant in
    let ws : List (ℕ × ℕ) = g.F.Fits.means.writes c.args.entry.now c.args.number in
    let v : View g.row.F-Entry.Denot = c.loop-addr.token.me.0 in
    let u : View g.row.F-Entry.Denot = c.store.new.seat.me.0 in
    let x : ℕ × ℕ = (c.in-Some.addr, c.in-Some.word) in
    let got : slice_get ws c.loop-addr.at ≡ Some x = ap (λ (n : ℕ). slice_get (g.F.Fits.means.writes c.args.entry.now n) c.loop-addr.at)
    (sym c.from.ensures) ∙ sym c.write.ensures ∙ c.in-Some.is in
    let is : u ≡ published v x.0 x.1 = ap (λ (y : View g.row.F-Entry.Denot × List (ℕ × _)). y.0) c.store.ensures.2 in
    let w : Writes v u ws c.loop-addr.at x.0 x.1 = one_written v u ws c.loop-addr.at x.0 x.1 i.due got is in
    let same = c.store.ensures.0 in
    record {
      seat = same ∙ i.seat;
      due = w.due;
      end = w.end;
      there = λ y h. subst (λ (n : ℕ). y.0 < n) (ap (λ k. k.words)
          (sym same)) (i.there y (among_rest v.grip.due y (subst (λ l. Among l y)
          (ap (λ (z : View g.row.F-Entry.Denot). z.grip.due) is) h)));
      view = w.view ∙ i.view;
      bare = ap (λ (y : View g.row.F-Entry.Denot × List (ℕ × _)). y.1) c.store.ensures.2 ∙ i.bare;
    }

pub returns-clause-none : goal.returns-clause-none
returns-clause-none g c =
    let ws : ℕ → List (ℕ × ℕ) = g.F.Fits.means.writes c.args.entry.now in
    c.loop-addr.invariant.due ∙ drop_end (ws c.args.number) c.loop-addr.at
    (ap (λ (n : ℕ). slice_get (ws n) c.loop-addr.at) (sym c.from.ensures) ∙ sym c.write.ensures ∙ c.in_default.is)

pub returns-clause-view : goal.returns-clause-view
returns-clause-view g c =
    let ws : ℕ → List (ℕ × ℕ) = g.F.Fits.means.writes c.args.entry.now in
    let i = c.loop-addr.invariant in
    let none_left : c.loop-addr.token.me.0.grip.due ≡ [] = i.due ∙ drop_end (ws c.args.number) c.loop-addr.at
    (ap (λ (n : ℕ). slice_get (ws n) c.loop-addr.at) (sym c.from.ensures) ∙ sym c.write.ensures ∙ c.in_default.is) in
    let view : c.loop-addr.token.me.0
    ≡ all_published c.args.token.now.me.0 c.args.token.now.me.0.grip.due = ap (all_published c.loop-addr.token.me.0) (sym none_left)
    ∙ i.view in
    λ k. (view k, i.bare k)
