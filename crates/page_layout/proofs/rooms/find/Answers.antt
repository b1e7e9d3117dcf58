use Rattle.std.proofs.Common.{◌≡◌, ◌∙◌, subst, ℕ, arith}
use Rattle.heap_words.proofs.Keeps.{loaded_twice}
use Rattle.page_layout.specs.Looking.{Looked}
use Rattle.page_layout.proofs.Looking.{looked_twice}
use Rattle.page_layout.proofs.rooms.find.Goals as goal

pub returns-in-Some-2-clause-loaded : goal.returns-in-Some-2-clause-loaded
returns-in-Some-2-clause-loaded g c =
    loaded_twice g.met.W.Words.laws c.loop-page.invariant.loaded c.in_ok-at.ensures.loaded

pub returns-in-Some-2-clause-looked : goal.returns-in-Some-2-clause-looked
returns-in-Some-2-clause-looked g c = (
  looked_twice c.in_ok-at.ensures.loaded.went.grows c.loop-page.invariant.looked c.in_ok-at.ensures.looked,
  omega (arith, c.loop-page-test.true),
)

pub loop-page-preserved : goal.loop-page-preserved
loop-page-preserved g c = record {
  loaded = loaded_twice g.met.W.Words.laws c.loop-page.invariant.loaded c.in_ok-at.ensures.loaded;
  binds = c.look.ensures.binds ∙ c.loop-page.invariant.binds;
  reads = c.look.ensures.reads ∙ c.loop-page.invariant.reads;
  looked = looked_twice c.in_ok-at.ensures.loaded.went.grows c.loop-page.invariant.looked c.in_ok-at.ensures.looked;
  lack = (rw c.in_default-2.is at c.in_ok-at.ensures.lack) c.loop-page.invariant.lack;
}

pub returns-clause-looked : goal.returns-clause-looked
returns-clause-looked g c =
    let end : c.loop-page.page ≡ c.args.pages = omega (arith, c.loop-page-test.false, c.requires.next, c.loop-page.auto) in (
      subst (λ (p : ℕ). Looked c.args.trail.now.kept c.args.rooms.now.items c.args.next c.loop-page.trail.kept c.loop-page.rooms.items p)
          end c.loop-page.invariant.looked,
      omega arith,
    )
