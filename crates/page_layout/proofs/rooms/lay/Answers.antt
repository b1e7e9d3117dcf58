use Rattle.std.proofs.Common.{subst, ◌≡◌, ◌+◌, ◌*◌, ◌∙◌, ◌≤◌, ◌∷◌, ◌++◌, [], ℕ, List, sym, refl, arith, length, take, set, slice_get}
use Rattle.std.proofs.Common.{get_or, Some}
use Rattle.std.proofs.lemmas.Grind.{common_steps}
use Rattle.std.proofs.lemmas.List.{take_more, take_all}
use Rattle.std.proofs.lemmas.Option.{slice_get_within, slice_get_read, slice_get-get_or}
use Rattle.heap_words.proofs.Keeps.{loaded_twice}
use Rattle.page_layout.specs.declared.rooms.Room.{Room}
use Rattle.page_layout.specs.Laying.{run, IsLaid}
use Rattle.page_layout.specs.FirstFit.{next_free}
use Rattle.page_layout.specs.Looking.{AreOpened, WasLooked, free_in}
use Rattle.page_layout.proofs.Filling.{piece_more}
use Rattle.page_layout.proofs.Fitting.{filled, FitsTo, fits_only, fits_same, fits_step}
use Rattle.page_layout.proofs.Looking.{looked_filled, opened_filled, opened_wider, found_fits}
use Rattle.page_layout.proofs.rooms.lay.Goals as goal

pub returns-in_default-clause-loaded : goal.returns-in_default-clause-loaded
returns-in_default-clause-loaded g c = loaded_twice g.met.W.Words.laws c.loop-need.invariant.loaded c.in_ok-found.ensures.loaded

pub returns-in_default-clause-opened : goal.returns-in_default-clause-opened
returns-in_default-clause-opened g c =
    let inv = c.loop-need.invariant in
    let l = c.in_ok-found.ensures.looked in
    opened_wider c.find.new.trail.kept c.find.new.rooms.items c.args.from c.in_ok-found.seen c.args.pages l.1
    (l.0.opened c.args.from inv.low inv.opened)

pub returns-in_default-clause-full : goal.returns-in_default-clause-full
returns-in_default-clause-full g c false_is =
    let inv = c.loop-need.invariant in
    let l = c.in_ok-found.ensures.looked.0 in
    let none = rw c.in_default.is at c.in_ok-found.ensures.lack in
    record {
      count = c.loop-need.need-index;
      need = get_or c.args.sizes.now c.loop-need.need-index 0;
      next = slice_get-get_or c.args.sizes.now c.loop-need.need-index 0 c.loop-need-test.true;
      laid = l.laid c.loop-need.table.items (take c.loop-need.need-index c.args.sizes.now) inv.laid;
      first = λ w has. fits_only c.args.from c.args.pages (next_free w) (take c.loop-need.need-index c.args.sizes.now)
          c.loop-need.table.items (free_in w c.loop-need.rooms.items)
          (inv.fits w (λ a x e. has a x (c.in_ok-found.ensures.loaded.went.grows a x e)));
      full = record {
        looked = λ p lo hi. l.pages c.args.from inv.looked p lo (let e = none.0 in omega (arith, hi, e));
        lack = none.1;
      };
    }

pub index-room-requires : goal.index-room-requires
index-room-requires g c =
    let f = rw c.in-Some.is at c.in_ok-found.ensures.fits in
    let h = slice_get_within c.find.new.rooms.items c.in-Some.at f.0 f.1 in omega arith

pub place-requires-clause-is : goal.place-requires-clause-is
place-requires-clause-is g c =
    let f = rw c.in-Some.is at c.in_ok-found.ensures.fits in
    slice_get_read c.find.new.rooms.items (length c.find.new.rooms.items) c.in-Some.at c.index-room.result.now refl
    (slice_get_within c.find.new.rooms.items c.in-Some.at f.0 f.1) (grind (arith, common_steps))

pub place-requires-clause-fits : goal.place-requires-clause-fits
place-requires-clause-fits g c =
    found_fits c.find.new.rooms.items c.in-Some.at _ c.index-room.result.now (rw c.in-Some.is at c.in_ok-found.ensures.fits)
    (place-requires-clause-is g c)

pub place-requires-clause-small : goal.place-requires-clause-small
place-requires-clause-small g c =
    (c.in_ok-found.ensures.looked.0.each c.in-Some.at c.index-room.result.now (place-requires-clause-is g c)).small

pub loop-need-preserved : goal.loop-need-preserved
loop-need-preserved g c =
    let inv = c.loop-need.invariant in
    let l = c.in_ok-found.ensures.looked in
    let kept = c.find.new.trail.kept in
    let seen : ℕ = c.in_ok-found.seen in
    let k : ℕ = c.in-Some.at in
    let i : ℕ = c.loop-need.need-index in
    let n : ℕ = get_or c.args.sizes.now i 0 in
    let old : List Room = c.find.new.rooms.items in
    let r : Room = c.index-room.result.now in
    let first = rw c.in-Some.is at c.in_ok-found.ensures.fits in
    let at : slice_get c.find.new.rooms.items c.in-Some.at ≡ Some c.index-room.result.now =
    slice_get_read c.find.new.rooms.items (length c.find.new.rooms.items) c.in-Some.at c.index-room.result.now refl
    (slice_get_within c.find.new.rooms.items c.in-Some.at first.0 first.1) (grind (arith, common_steps)) in
    let fits : r.top + n ≤ 1024 * r.page + 1024 = found_fits old k n r first at in
    let rooms : c.place.new.rooms.items ≡ set old k (filled r n) = c.in_ok-place.ensures.rooms in
    let table = c.in_ok-place.ensures.table in
    let more = take_more c.args.sizes.now i 0 c.loop-need-test.true in
    let opened = l.0.opened c.args.from inv.low inv.opened in
    let looked = l.0.pages c.args.from inv.looked in
    let was : IsLaid old c.loop-need.table.items (take i c.args.sizes.now) =
    l.0.laid c.loop-need.table.items (take i c.args.sizes.now) inv.laid in
    let laid : IsLaid (set old k (filled r n)) (c.loop-need.table.items ++ run r.top n) (take i c.args.sizes.now ++ n ∷ []) =
    piece_more old c.loop-need.table.items (take i c.args.sizes.now) k n r (filled r n) was at refl refl refl fits in
    record {
      loaded = loaded_twice g.met.W.Words.laws inv.loaded c.in_ok-found.ensures.loaded;
      binds = c.find.ensures.binds ∙ inv.binds;
      reads = c.find.ensures.reads ∙ inv.reads;
      low = (let a = inv.low in let b = l.0.further in omega (arith, a, b));
      next = l.1;
      opened = subst (λ (rs : List Room). AreOpened kept rs c.args.from seen) (sym rooms)
          (opened_filled kept old c.args.from seen k n r opened at laid.pages.each);
      looked = λ p lo hi. subst (λ (rs : List Room). WasLooked kept rs p) (sym rooms) (looked_filled kept old k n r p at (looked p lo hi));
      laid = rw (more, rooms, table) laid;
      fits = λ w has. rw (more, rooms, table)
          (fits_step kept old c.args.from seen opened looked w has c.args.pages (next_free w) (take i c.args.sizes.now)
          c.loop-need.table.items n k r l.1 at first
          (fits_same c.args.from c.args.pages (next_free w) (take i c.args.sizes.now) c.loop-need.table.items
          (free_in w c.loop-need.rooms.items) (free_in w old) (l.0.free w has)
          (inv.fits w (λ a x e. has a x (c.in_ok-found.ensures.loaded.went.grows a x e)))));
    }

pub returns-clause-first : goal.returns-clause-first
returns-clause-first g c is w has =
    let all : take c.loop-need.need-index c.args.sizes.now ≡ c.args.sizes.now =
    take_all c.loop-need.need-index c.args.sizes.now c.loop-need-test.false in
    fits_only c.args.from c.args.pages (next_free w) c.args.sizes.now c.loop-need.table.items (free_in w c.loop-need.rooms.items)
    (subst (λ (ns : List ℕ). FitsTo c.args.from c.args.pages (next_free w) ns c.loop-need.table.items (free_in w c.loop-need.rooms.items)) all
    (c.loop-need.invariant.fits w has))
