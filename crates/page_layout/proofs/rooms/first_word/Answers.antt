use Rattle.std.proofs.Common.{arith, ◌*◌}
use Rattle.suspension_lists.proofs.Keeping.{said_kept}
use Rattle.page_layout.proofs.rooms.first_word.Goals as goal

pub returns-clause-kept : goal.returns-clause-kept
returns-clause-kept g c =
    said_kept g.met.W.Words.laws (1024 * c.args.page) c.in_ok-word.word (let s = c.requires.small in omega arith)
    c.in_ok-word.ensures.loaded.holds c.in_ok-word.ensures.word
