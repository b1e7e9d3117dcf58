use Rattle.std.proofs.Common.{◌≡◌, ◌*◌, ◌/◌, ◌∙◌, length, sym, ap, subst, arith}
use Rattle.heap_words.specs.Heaps.{AreFresh}
use Rattle.goal_layout.specs.Goals.{at_most, cells_of}
use Rattle.goal_layout.proofs.AllItems.{same_fresh, new_free}
use Rattle.goal_layout.proofs.layout.lay_goal.Goals as goal

pub returns-in-None : goal.returns-in-None
returns-in-None c m l =
    let same : c.renew.new.words ≡ c.args.words.now =
    same_fresh (length c.args.words.now) c.renew.new.words c.args.words.now
    (subst (λ n. AreFresh n c.renew.new.words) (omega arith) c.renew.ensures) c.requires.new.fresh in (
      c.in-None.ensures.none m l,
      c.goal_cells.ensures m ∙ ap (λ t. at_most (cells_of m t)) c.goal.ensures,
      ap (λ ws. 1023 * (length ws / 1024)) same ∙ sym (new_free c.args.words.now c.requires.new),
      same,
    )
