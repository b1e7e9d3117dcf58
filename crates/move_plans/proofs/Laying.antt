-- What was read and laid is planned.
use Rattle.std.proofs.Common.{◌≡◌, ℕ, ◌<◌, List, length, sym, subst}
use Rattle.heap_words.specs.Trails.{WordList}
use Rattle.word_states.specs.Trials.{AreReads, IsReadCommit, IsReadWait}
use Rattle.word_states.specs.Words.{addresses_of}
use Rattle.word_states.proofs.Lists.{among_addresses}
use Rattle.suspension_lists.specs.Waking.{KeptWakes}
use Rattle.page_layout.specs.Hangs.{threes}
use Rattle.page_layout.specs.Laying.{IsLaid}
use Rattle.move_plans.specs.declared.planner.Planner.{Planner}
use Rattle.move_plans.specs.Places.{HasPlaces}
use Rattle.move_plans.specs.Rooms.{HasRoom}
use Rattle.move_plans.specs.Stages.{sizes_of, LaysCommit, LaysHang}
use Rattle.move_plans.proofs.Pieces.{cuts_whole, whole_total}
use Rattle.move_plans.proofs.Reading.{process_more, place_unbound}
use Rattle.move_plans.proofs.Rereading.{Grows, commit_more, wait_more}

twice : (a b c : WordList) → Grows a b → Grows b c → Grows a c
twice a b c g h x y e = h x y (g x y e)

pub lays_hang : (kept kept1 : WordList) (pl : Planner) (p : ℕ) (sizes : List ℕ) → Grows kept kept1 → Grows kept1 pl.machine.trail.kept
    → AreReads pl.machine.trail.kept → IsReadWait kept pl.machine.waits → HasPlaces kept1 pl.machine.waits pl.lists.items
    → sizes ≡ threes (length pl.lists.items) → HasRoom pl.machine.trail.kept pl.rooms.items pl.table.items sizes → p < 4294967296
    → LaysHang kept pl p
lays_hang kept kept1 pl p sizes grows grows1 reads wait places three room low =
    let kept2 = pl.machine.trail.kept in
    let now = wait_more kept kept2 pl.machine.waits (twice kept kept1 kept2 grows grows1) reads wait in
    let same : addresses_of pl.lists.items ≡ pl.machine.waits = places.same in
    let read : IsReadWait kept2 (addresses_of pl.lists.items) = subst (IsReadWait kept2) (sym same) now in
    record {
      planned = λ z mover. record {
        process = process_more kept kept2 p z (twice kept kept1 kept2 grows grows1) mover;
        small = low;
        read = read;
        places = λ a e m.
            let w = places.each a e m in
            place_unbound kept2 a e reads (read.opened a (among_addresses pl.lists.items a e m)) (w.0, grows1 a w.0 w.1, w.2);
        laid = subst (IsLaid pl.rooms.items pl.table.items) three room.laid;
        tops = room.tops;
      };
      rise = room.rise;
      places = same;
    }

pub lays_commit : (kept kept1 : WordList) (pl : Planner) (p : ℕ) (sizes : List ℕ) → Grows kept kept1
    → Grows kept1 pl.machine.trail.kept → AreReads pl.machine.trail.kept
    → IsReadCommit kept pl.machine.binds.items pl.machine.desk.pieces
    → KeptWakes kept1 (addresses_of pl.machine.binds.items) pl.woken.items
    → pl.bound.items ≡ addresses_of pl.machine.binds.items
    → sizes ≡ sizes_of pl.machine.desk.pieces → HasRoom pl.machine.trail.kept pl.rooms.items pl.table.items sizes
    → LaysCommit kept pl p
lays_commit kept kept1 pl p sizes grows grows1 reads commit wakes bound whole room =
    let kept2 = pl.machine.trail.kept in
    let ps = pl.machine.desk.pieces in
    let grows02 = twice kept kept1 kept2 grows grows1 in
    record {
      planned = λ z mover. record {
        process = process_more kept kept2 p z grows02 mover;
        read = subst (IsReadCommit kept2 pl.machine.binds.items) (sym (cuts_whole ps))
            (commit_more kept kept2 pl.machine.binds.items ps grows02 reads commit);
        woken = wakes kept2 reads grows1;
        laid = subst (IsLaid pl.rooms.items pl.table.items) whole room.laid;
        size = whole_total ps;
        tops = room.tops;
      };
      rise = room.rise;
      bound = bound;
    }
