use Rattle.std.proofs.Common.{sym, ◌∙◌, refl}
use Rattle.std.specs.Prelude.{Some}
use Rattle.heap_words.specs.Cells.{decoded}
use Rattle.heap_words.proofs.Keeps.{loaded_twice}
use Rattle.suspension_lists.specs.Cells.{process_of}
use Rattle.suspension_lists.proofs.CellCases.{is_waiting}
use Rattle.suspension_lists.proofs.Lists.{tells_on}
use Rattle.suspension_lists.proofs.Knowing.{second_known, process_known, name_known, still_leads}
use Rattle.suspension_lists.proofs.sleepers.sleeper_by.Goals as goal

pub stored-requires-clause-known : goal.stored-requires-clause-known
stored-requires-clause-known g c = second_known g.met.W.Words.laws c.args.entry.at c.requires.sound c.requires.leads

pub stored-requires-2-clause-known : goal.stored-requires-2-clause-known
stored-requires-2-clause-known g c =
    let l = c.in_ok-number.ensures.loaded in
    process_known g.met.W.Words.laws c.args.entry.at c.args.entry.process l.sound l.holds
    (still_leads g.met.W.Words.laws c.args.entry.at c.stored.ensures.between c.requires.leads)
    (tells_on l.went.grows process_of c.args.entry.at (Some c.args.entry.process) c.requires.process)

pub returns-then-not-is_waiting_by-clause-loaded : goal.returns-then-not-is_waiting_by-clause-loaded
returns-then-not-is_waiting_by-clause-loaded g c =
    loaded_twice g.met.W.Words.laws c.in_ok-number.ensures.loaded c.in_ok-status.ensures.loaded

pub returns-then-not-is_waiting_by-clause-judges : goal.returns-then-not-is_waiting_by-clause-judges
returns-then-not-is_waiting_by-clause-judges g c = record {
  number = c.number_in.result;
  hang = (c.in_ok-number.number, c.in_ok-status.ensures.loaded.went.grows _ _ c.in_ok-number.ensures.kept, sym c.number_in.ensures);
  status = (c.in_ok-status.status, c.in_ok-status.ensures.kept, sym c.is_waiting_by.ensures ∙ c.if-not-is_waiting_by.true);
}

pub stored-requires-3-clause-known : goal.stored-requires-3-clause-known
stored-requires-3-clause-known g c =
    let l = c.in_ok-status.ensures.loaded in
    name_known g.met.W.Words.laws c.args.entry.process c.in_ok-status.status _ l.sound l.holds c.in_ok-status.ensures.kept
    (is_waiting c.number_in.result (decoded c.in_ok-status.status)
    (sym c.is_waiting_by.ensures ∙ c.if-not-is_waiting_by.false))

pub returns-clause-loaded : goal.returns-clause-loaded
returns-clause-loaded g c =
    loaded_twice g.met.W.Words.laws c.in_ok-number.ensures.loaded
    (loaded_twice g.met.W.Words.laws c.in_ok-status.ensures.loaded c.in_ok-name.ensures.loaded)

pub returns-clause-judges : goal.returns-clause-judges
returns-clause-judges g c =
    let on = c.in_ok-name.ensures.loaded.went.grows in
    record {
      same = refl;
      hangs = record {
        number = c.number_in.result;
        hang = (
          c.in_ok-number.number,
          on _ _ (c.in_ok-status.ensures.loaded.went.grows _ _ c.in_ok-number.ensures.kept),
          sym c.number_in.ensures,
        );
        status = (c.in_ok-status.status, on _ _ c.in_ok-status.ensures.kept, sym c.is_waiting_by.ensures ∙ c.if-not-is_waiting_by.false);
      };
      name = (c.in_ok-name.name, c.in_ok-name.ensures.kept, sym c.number_in-2.ensures);
    }
