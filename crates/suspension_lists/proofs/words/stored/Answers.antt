use Rattle.suspension_lists.proofs.Keeping.{said_kept, store_below}
use Rattle.suspension_lists.proofs.words.stored.Goals as goal

pub returns-clause-kept : goal.returns-clause-kept
returns-clause-kept g c =
    said_kept g.met.W.Words.laws c.args.addr c.in_ok-word.word
    (store_below g.met.W.Words.laws c.args.addr c.requires.sound c.requires.known c.requires.store)
    c.in_ok-word.ensures.loaded.holds c.in_ok-word.ensures.word
