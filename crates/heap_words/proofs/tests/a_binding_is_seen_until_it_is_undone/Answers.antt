use Rattle.heap_words.proofs.Keeps.{unbound_holds}
use Rattle.heap_words.proofs.tests.a_binding_is_seen_until_it_is_undone.Goals as goal

pub look-requires-2-clause-holds : goal.look-requires-2-clause-holds
look-requires-2-clause-holds g c = rw (c.undo.ensures.kept, c.undo.ensures.binds) (unbound_holds c.in_ok-bound.ensures.loaded.holds)
