use Rattle.std.proofs.Common.{rules}
use Rattle.clause_compiler.proofs.ClauseSizes.{sizes_begin, size_within, sizes_next}
use Rattle.clause_compiler.proofs.sizes.clause_sizes.Goals as goal

pub loop-place-init : goal.loop-place-init
loop-place-init c = sizes_begin c.args.loaded.now _ _ _ c.clauses-places.ensures (search (rules, c.new-sizes.ensures))

pub bounds-clauses-place : goal.bounds-clauses-place
bounds-clauses-place c =
    size_within c.args.loaded.now _ _ _ _ _ c.loop-place-test.true (search (rules, c.as_slice-clauses.ensures, c.module.ensures))
    c.loop-place.invariant

pub loop-place-preserved : goal.loop-place-preserved
loop-place-preserved c =
    sizes_next c.args.loaded.now _ _ _ _ _ _ _ _ c.loop-place-test.true
    (search (rules, c.as_slice-clauses.ensures, c.module.ensures)) c.index-clauses-place.is c.in-Ok.ensures.items
    c.in_ok-clause_size.ensures c.loop-place.invariant
