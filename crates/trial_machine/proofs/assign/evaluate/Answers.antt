use Rattle.std.proofs.Common.{◌+◌, ◌∙◌}
use Rattle.trial_machine.proofs.Loading.{holds_free, loads_of, loads_on}
use Rattle.trial_machine.proofs.Assignments.{free_tame, expression_says, reads_were_open}
use Rattle.trial_machine.proofs.assign.evaluate.Goals as goal

pub number_of-requires-clause-holds : goal.number_of-requires-clause-holds
number_of-requires-clause-holds g c =
    holds_free g.met.W.Words.laws c.load_word.new.trail.kept c.load_word.new.trail.binds c.load_word.new.words
    c.in_ok-word.ensures.loaded.stored (c.load_word.ensures.binds ∙ c.requires.free)

pub number_of-requires-clause-leads : goal.number_of-requires-clause-leads
number_of-requires-clause-leads g c =
    g.met.W.Words.laws.had_leads c.load_word.new.words (c.args.process + 5) c.in_ok-word.word c.in_ok-word.ensures.loaded.stored.sound
    (c.in_ok-word.ensures.loaded.stored.had (c.args.process + 5) c.in_ok-word.word c.in_ok-word.ensures.word)

pub number_of-requires-clause-tame : goal.number_of-requires-clause-tame
number_of-requires-clause-tame g c =
    free_tame g.met.W.Words.laws c.load_word.new.trail.kept c.load_word.new.trail.binds c.load_word.new.words
    c.in_ok-word.ensures.loaded.stored (c.load_word.ensures.binds ∙ c.requires.free)

pub returns-clause-loaded : goal.returns-clause-loaded
returns-clause-loaded g c =
    loads_on g.met.W.Words.laws c.args.trail.now.kept c.load_word.new.trail.kept c.number_of.new.trail.kept c.args.words.now
    c.load_word.new.words c.number_of.new.words c.load_word.ensures.between c.number_of.ensures.between c.in_ok-word.ensures.loaded
    (loads_of g.met.W.Words.laws c.load_word.new.trail.kept c.load_word.new.trail.binds c.number_of.new.trail.kept
    c.number_of.new.trail.binds c.load_word.new.words c.number_of.new.words c.in_ok-word.ensures.loaded.stored
    c.in_ok-value.ensures.loaded)

pub returns-clause-says : goal.returns-clause-says
returns-clause-says g c =
    expression_says g.met.W.Words.laws c.number_of.new.trail.kept c.load_word.new.trail.binds c.load_word.new.trail.reads.items
    c.number_of.new.words c.args.process c.in_ok-word.word c.in_ok-value.value c.number_of.new.trail.reads.items
    (loads_of g.met.W.Words.laws c.load_word.new.trail.kept c.load_word.new.trail.binds c.number_of.new.trail.kept
    c.number_of.new.trail.binds c.load_word.new.words c.number_of.new.words c.in_ok-word.ensures.loaded.stored
    c.in_ok-value.ensures.loaded).stored (c.load_word.ensures.binds ∙ c.requires.free) (c.load_word.ensures.reads ∙ c.requires.unread)
    (c.in_ok-value.ensures.loaded.went.grows (c.args.process + 5) c.in_ok-word.word c.in_ok-word.ensures.word)
    c.in_ok-value.ensures.evaluated

pub returns-clause-opened : goal.returns-clause-opened
returns-clause-opened g c =
    reads_were_open g.met.W.Words.laws c.number_of.new.trail.kept c.load_word.new.trail.binds c.load_word.new.trail.reads.items
    c.number_of.new.words c.number_of.new.trail.reads.items
    (loads_of g.met.W.Words.laws c.load_word.new.trail.kept c.load_word.new.trail.binds c.number_of.new.trail.kept
    c.number_of.new.trail.binds c.load_word.new.words c.number_of.new.words c.in_ok-word.ensures.loaded.stored
    c.in_ok-value.ensures.loaded).stored (c.load_word.ensures.reads ∙ c.requires.unread) c.in_ok-value.ensures.opened
