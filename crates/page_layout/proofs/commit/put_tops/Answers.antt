use Rattle.std.proofs.Common.{◌++◌, ◌∷◌, [], ◌∙◌, ap, sym, take, get_or, append_assoc}
use Rattle.page_layout.specs.declared.rooms.Room.{Room}
use Rattle.page_layout.specs.Laying.{tops_of}
use Rattle.page_layout.specs.Writing.{written}
use Rattle.page_layout.proofs.Putting.{tops_more}
use Rattle.page_layout.proofs.commit.put_tops.Goals as goal

pub loop-at-preserved : goal.loop-at-preserved
loop-at-preserved c n =
    let none : Room = record { page = 0; old = 0; top = 0 } in
    let r : Room = get_or c.args.rooms.now c.loop-at.at none in
    c.in_ok-put_top.ensures n
    ∙ ap (λ l. l ++ tops_of (r ∷ [])) (c.loop-at.invariant n)
    ∙ append_assoc (written n c.args.writes.now.items) (tops_of (take c.loop-at.at c.args.rooms.now)) (tops_of (r ∷ []))
    ∙ ap (λ l. written n c.args.writes.now.items ++ l) (sym (tops_more c.args.rooms.now c.loop-at.at none c.loop-at-test.true))
