use Rattle.stored_tries.proofs.Stores.{known_low}
use Rattle.trial_machine.proofs.Loading.{holds_free, word_kept, loads_of}
use Rattle.trial_machine.proofs.goal.load_word.Goals as goal

pub word-requires-clause-holds : goal.word-requires-clause-holds
word-requires-clause-holds g c =
    holds_free g.met.W.Words.laws c.args.trail.now.kept c.args.trail.now.binds c.args.words.now c.requires.stored c.requires.free

pub returns-clause-loaded : goal.returns-clause-loaded
returns-clause-loaded g c =
    loads_of g.met.W.Words.laws c.args.trail.now.kept c.args.trail.now.binds c.word.new.self.kept c.word.new.self.binds
    c.args.words.now c.word.new.words c.requires.stored c.in_ok-word.ensures.loaded

pub returns-clause-word : goal.returns-clause-word
returns-clause-word g c =
    word_kept g.met.W.Words.laws c.word.new.self.kept c.word.new.self.binds c.word.new.words c.args.addr c.in_ok-word.word
    c.in_ok-word.ensures.loaded.holds
    (known_low g.met.W.Words.laws c.args.trail.now.kept c.args.words.now c.args.addr c.requires.stored.sound c.requires.stored.few
    c.requires.known) c.in_ok-word.ensures.word
