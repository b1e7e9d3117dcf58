use Rattle.std.proofs.Common.{◌≡◌, ◌∙◌, ℕ, List, refl, sym, ap, subst}
use Rattle.std.specs.List.{concat}
use Rattle.fcp_model.specs.declared.run.Entry.TheVariants.{Commit}
use Rattle.fcp_model.specs.declared.run.Proc.{Proc}
use Rattle.word_states.specs.Layouts.{born_at}
use Rattle.page_layout.specs.declared.rooms.Room.{Room}
use Rattle.page_layout.specs.Laying.{moved_to, cuts, IsLaid, AreNamed}
use Rattle.word_moves.proofs.Finding.{pieces_named}
use Rattle.move_plans.specs.Stages.{sizes_of}
use Rattle.move_plans.proofs.Pieces.{sizes_is, commit_same}
use Rattle.move_plans.proofs.planner.Planner.put_commit_move.Goals as goal

pub put_commit-requires-clause-laid : goal.put_commit-requires-clause-laid
put_commit-requires-clause-laid c =
    let pl = c.args.self.now in
    subst (λ (rs : List Room). IsLaid rs c.as_slice-2.result.now c.sizes-sizes.result.now) (sym c.as_slice.ensures.value)
    (subst (λ (ts : List ℕ). IsLaid pl.rooms.items ts c.sizes-sizes.result.now) (sym c.as_slice-2.ensures.value)
    (subst (IsLaid pl.rooms.items pl.table.items)
    (sym (sizes_is pl.machine.desk.pieces c.sizes-sizes.result.now c.sizes-sizes.ensures.cuts c.sizes-sizes.ensures.whole))
    c.requires.planned.laid))

pub put_commit-requires-clause-named : goal.put_commit-requires-clause-named
put_commit-requires-clause-named c =
    let ps = c.args.self.now.machine.desk.pieces in
    subst (λ (ns : List ℕ). AreNamed (cuts ns c.words-own.result.now))
    (sym (sizes_is ps c.sizes-sizes.result.now c.sizes-sizes.ensures.cuts c.sizes-sizes.ensures.whole))
    (subst (λ (ws : List ℕ). AreNamed (cuts (sizes_of ps) ws)) (sym c.words-own.ensures.all)
    (pieces_named 4000000000 (cuts (sizes_of ps) (concat ps)) c.requires.planned.read.led.each))

pub returns-clause-moves : goal.returns-clause-moves
returns-clause-moves c =
    let pl = c.args.self.now in
    let ps = pl.machine.desk.pieces in
    let same : cuts c.sizes-sizes.result.now c.words-own.result.now ≡ cuts (sizes_of ps) (concat ps) =
    ap (λ (ns : List ℕ). cuts ns c.words-own.result.now)
    (sizes_is ps c.sizes-sizes.result.now c.sizes-sizes.ensures.cuts c.sizes-sizes.ensures.whole)
    ∙ ap (cuts (sizes_of ps)) c.words-own.ensures.all in
    record {
      process = refl;
      entry = ap (λ (q : Proc). Commit q pl.machine.desk.clause) c.process_by.ensures;
      reads = refl;
      writes = λ n. c.in_ok-put_commit.ensures n
          ∙ commit_same c.as_slice.result.now pl.rooms.items c.as_slice-2.result.now pl.table.items n c.args.process
          c.as_slice-3.result.now pl.machine.binds.items (cuts c.sizes-sizes.result.now c.words-own.result.now)
          (cuts (sizes_of ps) (concat ps)) c.as_slice-4.result.now pl.woken.items c.as_slice.ensures.value c.as_slice-2.ensures.value
          c.as_slice-3.ensures.value same c.as_slice-4.ensures.value;
      children = c.in_ok-put_children.ensures
          ∙ ap (λ (ts : List ℕ). born_at (moved_to ts) (cuts c.sizes-sizes.result.now c.words-own.result.now)) c.as_slice-5.ensures.value
          ∙ ap (born_at (moved_to pl.table.items)) same;
      woken = refl;
      bound = c.requires.bound;
      waits = c.clear.ensures.items;
    }
