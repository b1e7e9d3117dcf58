use Rattle.std.proofs.Common.{◌≡◌, None, sym, subst, arith}
use Rattle.heap_words.specs.Trails.{WordList, word_at}
use Rattle.word_bench.proofs.Unbound.{above_unbound}
use Rattle.word_bench.proofs.tries.bind_all.Goals as goal

pub loop-k-preserved : goal.loop-k-preserved
loop-k-preserved c a h =
    subst (λ (bs : WordList). word_at bs a ≡ None) (sym c.in_ok-bind.ensures.binds)
    (above_unbound c.loop-k.trail.binds _ _ a (c.loop-k.invariant a (omega (arith, h))) (omega (arith, h)))
