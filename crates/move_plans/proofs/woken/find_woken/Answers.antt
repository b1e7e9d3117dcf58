use Rattle.std.proofs.Common.{subst, ◌∙◌}
use Rattle.word_states.specs.Words.{IsIn}
use Rattle.word_states.proofs.Lists.{addresses_among}
use Rattle.move_plans.proofs.Reading.{place_known}
use Rattle.move_plans.proofs.woken.find_woken.Goals as goal

pub find-requires-clause-known : goal.find-requires-clause-known
find-requires-clause-known g c a h =
    let r = addresses_among c.args.binds.now a (subst (IsIn a) (c.as_slice.ensures.value ∙ c.in_ok-put_addresses.ensures) h) in
    place_known g.met.W.Words.laws c.args.trail.now.kept c.args.words.now a c.requires.stored (c.requires.opened a r.0 r.1)
