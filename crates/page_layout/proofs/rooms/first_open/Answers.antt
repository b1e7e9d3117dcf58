use Rattle.std.proofs.Common.{◌≡◌, ℕ, ◌+◌, ◌<◌, ◌≤◌, ◌∙◌, ⊎_elim, arith, get_or, sym, ap, subst, slice_get, Some}
use Rattle.std.proofs.lemmas.Bool.{cases_lt}
use Rattle.std.proofs.lemmas.Option.{same_Some, slice_get_within}
use Rattle.page_layout.specs.declared.rooms.Room.{Room}
use Rattle.page_layout.specs.Looking.{Lacks}
use Rattle.page_layout.proofs.Looking.{stands_there}
use Rattle.page_layout.proofs.rooms.first_open.Goals as goal

pub loop-at-preserved : goal.loop-at-preserved
loop-at-preserved c =
    let none : Room = record { page = 0; old = 0; top = 0 } in
    let i : ℕ = c.loop-at.at in
    let r : Room = get_or c.args.rooms.now i none in
    let there : slice_get c.args.rooms.now i ≡ Some r = stands_there c.args.rooms.now i none c.loop-at-test.true in
    let old = c.loop-at.invariant in
    ⊎_elim
    (λ (h : (c.past-first.result ≡ c.loop-at.first) × (r.page ≡ c.loop-at.first → Lacks r 96 → ⊥)). record {
      from = (let e = h.0 in let f = old.from in omega (arith, e, f));
      before = λ p lo hi. old.before p lo (let e = h.0 in omega (arith, e, hi));
      roomy = λ k q l at page lacks. ⊎_elim
          (λ (b : k < i). old.roomy k q b at (page ∙ h.0) lacks)
          (λ (b : i ≤ k).
          let same : k ≡ i = omega (arith, l, b) in
          let s : q ≡ r = same_Some q r (sym at ∙ ap (slice_get c.args.rooms.now) same ∙ there) in
          h.1 (ap (λ (x : Room). x.page) (sym s) ∙ page ∙ h.0) (subst (λ (x : Room). Lacks x 96) s lacks))
          (cases_lt k i);
    })
    (λ (h : (c.past-first.result ≡ c.loop-at.first + 1) × (r.page ≡ c.loop-at.first) × Lacks r 96). record {
      from = (let e = h.0 in let f = old.from in omega (arith, e, f));
      before = λ p lo hi. ⊎_elim (λ (l : p < c.loop-at.first). old.before p lo l)
          (λ (g : c.loop-at.first ≤ p). (
            i,
            r,
            there,
            h.1 ∙ (let e = h.0 in let q : c.loop-at.first ≡ p = omega (arith, e, hi, g) in q),
            h.2,
          )) (cases_lt p c.loop-at.first);
      roomy = λ k q l at page lacks. ⊎_elim
          (λ (b : k < i). let u = c.requires.rise k i q r b at there in let e = h.0 in let f = h.1 in omega (arith, u, e, f, page))
          (λ (b : i ≤ k).
          let same : k ≡ i = omega (arith, l, b) in
          let s : q ≡ r = same_Some q r (sym at ∙ ap (slice_get c.args.rooms.now) same ∙ there) in
          let u : q.page ≡ r.page = ap (λ (x : Room). x.page) s in let e = h.0 in let f = h.1 in omega (arith, u, e, f, page))
          (cases_lt k i);
    })
    c.past-first.ensures

pub returns-clause-roomy : goal.returns-clause-roomy
returns-clause-roomy c k r at page lacks =
    let lt = slice_get_within c.args.rooms.now k r at in
    c.loop-at.invariant.roomy k r (omega (arith, lt, c.loop-at-test.false)) at page lacks
