use Rattle.std.proofs.Common.{◌∙◌, refl, subst, sym}
use Rattle.word_commit.specs.declared.quota.Quota.{Quota}
use Rattle.word_moves.specs.declared.word_move.WordMove.{WordMove}
use Rattle.commit_engine.specs.Halls.{IsSpent}
use Rattle.commit_engine.proofs.BareEntries.{may_stamp_bare}
use Rattle.commit_engine.proofs.bare.note.Goals as goal

pub stamp-number-requires-clause-may : goal.stamp-number-requires-clause-may
stamp-number-requires-clause-may g c = may_stamp_bare _ _ _ _ _ _ c.new.ensures.items c.new-2.ensures.items

pub returns : goal.returns
returns g c =
    let v = c.args.hall.now in
    let mid = c.stamp-number.new.self in
    let e : WordMove = record {
      entry = c.args.entry;
      address = c.args.address;
      reads = c.new.result;
      writes = c.new-2.result;
      cells = 0;
    } in
    record {
      is_sound = c.publish.ensures.sound;
      made = e;
      bare = record {
        entry_is = refl;
        address_is = refl;
        reads = c.new.ensures.items;
        writes = c.new-2.ensures.items;
        cells = refl;
      };
      is_added = g.met.H.Hall.hall_laws.added_silent v mid c.publish.new.self e c.stamp-number.result c.stamp-number.ensures.added
          c.publish.ensures.silent;
      same_holds = λ p. c.publish.ensures.holds p ∙ c.stamp-number.ensures.holds p;
      idle = c.publish.ensures.due;
      spent = subst (λ (q : Quota). IsSpent (g.H.Hall.purse v) e q) (sym c.publish.ensures.rest.1) c.stamp-number.ensures.purse;
      same_takes = c.publish.ensures.takes ∙ c.stamp-number.ensures.takes;
      same_pages = c.publish.ensures.rest.0 ∙ c.stamp-number.ensures.rest.0;
      less_room = c.publish.ensures.rest.2 ∙ c.stamp-number.ensures.rest.1;
    }
