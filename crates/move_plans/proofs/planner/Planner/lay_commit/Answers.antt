use Rattle.std.proofs.Common.{ap, ◌∙◌, subst}
use Rattle.heap_words.specs.Trails.{WordList}
use Rattle.word_states.specs.Words.{Among, addresses_of}
use Rattle.suspension_lists.specs.Waking.{KeptWakes}
use Rattle.trial_machine.proofs.Loading.{loads_on}
use Rattle.move_plans.proofs.Laying.{lays_commit}
use Rattle.move_plans.proofs.Pieces.{sizes_is}
use Rattle.move_plans.proofs.Reading.{are_reads}
use Rattle.move_plans.proofs.planner.Planner.lay_commit.Goals as goal

pub find_woken-requires-clause-opened : goal.find_woken-requires-clause-opened
find_woken-requires-clause-opened g c a x h =
    c.requires.commit.opened a x (subst (λ (bs : WordList). Among bs (a, x)) c.as_slice-binds.ensures.value h)

pub returns-clause-loaded : goal.returns-clause-loaded
returns-clause-loaded g c =
    loads_on g.met.W.Words.laws c.args.self.now.machine.trail.kept c.find_woken.new.trail.kept c.find_room.new.trail.kept
    c.args.words.now c.find_woken.new.words c.find_room.new.words c.find_woken.ensures.between c.find_room.ensures.between
    c.in_ok-find_woken.ensures.loaded c.in_ok-laid.ensures.loaded

pub returns-clause-lays : goal.returns-clause-lays
returns-clause-lays g c t =
    lays_commit c.args.self.now.machine.trail.kept c.find_woken.new.trail.kept _ c.args.process c.sizes.result.now
    c.in_ok-find_woken.ensures.loaded.grows c.in_ok-laid.ensures.loaded.grows
    (are_reads g.met.W.Words.laws c.find_room.new.trail.kept c.find_room.new.words c.in_ok-laid.ensures.loaded.stored
    c.once.ensures.kept)
    c.requires.commit
    (subst (λ (bs : WordList). KeptWakes c.find_woken.new.trail.kept (addresses_of bs) c.find_woken.new.woken.items)
    c.as_slice-binds.ensures.value c.in_ok-find_woken.ensures.wakes)
    (c.in_ok-find_woken.ensures.bound ∙ ap addresses_of c.as_slice-binds.ensures.value)
    (sizes_is c.args.self.now.machine.desk.pieces c.sizes.result.now c.sizes.ensures.cuts c.sizes.ensures.whole)
    (c.in_ok-laid.ensures.room t)
