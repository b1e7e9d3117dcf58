use Rattle.std.proofs.Common.{subst, sym, List, ℕ, take, ◌∙◌, ◌++◌, ◌∷◌, [], get_or, arith}
use Rattle.std.proofs.lemmas.List.{take_more, take_all}
use Rattle.trial_laws.specs.Laws.{AreNoted}
use Rattle.trial_machine.proofs.Noting.{noted_low, noted_own}
use Rattle.trial_machine.proofs.leave.note_reads.Goals.{then-place-lt-OWN+in_ok-note, else-place-lt-OWN}
use Rattle.trial_machine.proofs.leave.note_reads.Goals as goal

pub loop-place-preserved : goal.loop-place-preserved
loop-place-preserved c =
    subst (λ (z : List ℕ). AreNoted c.args.waits.now z c.if-place-lt-OWN.waits)
    (sym (take_more c.places_read-place-items.result.now c.loop-place.place-index 0 c.loop-place-test.true))
    (elim c.if-place-lt-OWN.branch [
      | then-place-lt-OWN+in_ok-note w ↦ subst (λ (z : List ℕ). AreNoted c.args.waits.now (take c.loop-place.place-index
          c.places_read-place-items.result.now ++ get_or c.places_read-place-items.result.now c.loop-place.place-index 0 ∷ []) z)
          (sym w.waits-is)
          (noted_low c.args.waits.now (take c.loop-place.place-index c.places_read-place-items.result.now) c.loop-place.waits
          w.note.new.self _ c.loop-place.invariant w.if-place-lt-OWN.true w.in_ok-note.ensures)
      | else-place-lt-OWN w ↦ subst (λ (z : List ℕ). AreNoted c.args.waits.now (take c.loop-place.place-index
          c.places_read-place-items.result.now ++ get_or c.places_read-place-items.result.now c.loop-place.place-index 0 ∷ []) z)
          (sym w.waits-is)
          (noted_own c.args.waits.now (take c.loop-place.place-index c.places_read-place-items.result.now) c.loop-place.waits
          _ c.loop-place.invariant (λ l. let f = w.if-place-lt-OWN.false in omega (arith, l, f)))
    ])

pub returns : goal.returns
returns c =
    subst (λ (z : List ℕ). AreNoted c.args.waits.now z c.loop-place.waits)
    (take_all c.loop-place.place-index c.places_read-place-items.result.now c.loop-place-test.false ∙
    c.places_read-place-items.ensures) c.loop-place.invariant
