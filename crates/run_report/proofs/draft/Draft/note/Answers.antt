use Rattle.std.proofs.Common.{[], ◌∷◌, ◌++◌, ◌∙◌, sym, arith}
use Rattle.fcp_model.specs.LogText.{log_head}
use Rattle.fcp_model.specs.Runs.{last_state}
use Rattle.log_replay.proofs.RunsOn.{length_on}
use Rattle.worker_crew.specs.Tasks.{program, first_state}
use Rattle.run_report.specs.Texts.{variables}
use Rattle.run_report.proofs.PutTexts.{where_ok, snapshot_there}
use Rattle.run_report.proofs.draft.Draft.note.Goals as goal

pub line-requires : goal.line-requires
line-requires c =
    let t = c.args.task.now in
    let next = c.requires.next in
    let made = c.in_ok-make_next.ensures.made next.events next.event next.draft.made next.follows in
    record {
      standing = record {
        standing = record {
          program = program t;
          from = first_state t;
          cells = t.limits.cells;
          events = next.events ++ next.event ∷ [];
          replayed = made.0;
        };
        event = next.event;
        shows = made.1;
      };
    }

pub push_snapshot-requires-clause-made : goal.push_snapshot-requires-clause-made
push_snapshot-requires-clause-made c =
    let t = c.args.task.now in
    let next = c.requires.next in
    let evs = next.events ++ next.event ∷ [] in
    let made = c.in_ok-make_next.ensures.made next.events next.event next.draft.made next.follows in
    record {
      events = evs;
      made = c.line.ensures.replayed (program t) (first_state t) t.limits.cells evs made.0;
      count = let a = length_on next.events next.event in let b = next.draft.count in omega arith;
    }

pub returns-in-Snapshot-clause-draft : goal.returns-in-Snapshot-clause-draft
returns-in-Snapshot-clause-draft c = λ evs ev draft follows.
    let t = c.args.task.now in
    let names = c.args.names.now in
    let all = evs ++ ev ∷ [] in
    let made = c.in_ok-make_next.ensures.made evs ev draft.made follows in
    let lined = c.line.ensures.replayed (program t) (first_state t) t.limits.cells all made.0 in
    let of_entry = (c.next_entries.ensures.event (program t) (last_state (first_state t) evs) c.args.entry ev follows.is_next).0 in
    let is = of_entry ∙ c.in-Snapshot.is in
    let length_is = length_on evs ev in
    where_ok c.push_snapshot.result
    (λ put. record {
      made = c.push_snapshot.ensures.made all lined;
      count = let b = draft.count in omega arith;
      log = c.texts.ensures.line names evs ev log_head c.args.self.now.log.items c.line.new.out.items draft.log
          (c.in_ok-line.ensures.line ev made.1);
      snapshots = c.snapshots.ensures.added names (variables t) (program t) evs ev [] c.args.self.now.snapshots.items
          c.push_snapshot.new.out.items draft.snapshots
          (snapshot_there names t evs ev c.args.self.now.snapshots.items c.push_snapshot.new.out.items is put);
    })
    (c.push_snapshot.ensures.snapshot all lined (let b = draft.count in omega arith))

pub returns-in_default : goal.returns-in_default
returns-in_default c = record {
  draft = λ evs ev draft follows.
      let t = c.args.task.now in
      let names = c.args.names.now in
      let all = evs ++ ev ∷ [] in
      let made = c.in_ok-make_next.ensures.made evs ev draft.made follows in
      let is = (c.next_entries.ensures.event (program t) (last_state (first_state t) evs) c.args.entry ev follows.is_next).0 in
      record {
        made = c.line.ensures.replayed (program t) (first_state t) t.limits.cells all made.0;
        count = let a = length_on evs ev in let b = draft.count in omega arith;
        log = c.texts.ensures.line names evs ev log_head c.args.self.now.log.items c.line.new.out.items draft.log
            (c.in_ok-line.ensures.line ev made.1);
        snapshots = c.snapshots.ensures.added names (variables t) (program t) evs ev [] c.args.self.now.snapshots.items
            c.args.self.now.snapshots.items draft.snapshots
            (c.snapshots.ensures.nothing names (variables t) (program t) ev.after ev.entry c.args.self.now.snapshots.items
            (λ e. c.in_default.not-Snapshot (sym is ∙ e)));
      };
  room = c.line.ensures.room ∙ c.make_next.ensures.room;
}
