use Rattle.std.proofs.Common.{◌≡◌, [], ◌∷◌, ◌++◌, ℕ, List, get_or, sym, subst, arith}
use Rattle.std.proofs.lemmas.Grind.{common_steps}
use Rattle.commit_engine.specs.PlainLaws.{plain_words}
use Rattle.log_replay.specs.Waits.{IsProcess, AreTold}
use Rattle.log_replay.proofs.Puts.{in_list}
use Rattle.log_replay.proofs.AllWaits.{rest_later, zip_next}
use Rattle.log_replay.proofs.waits.all_places.Goals as goal

pub places_of-requires-clause-process : goal.places_of-requires-clause-process
places_of-requires-clause-process c =
    subst (λ (ws : List ℕ). IsProcess ws (get_or c.args.processes.now c.loop-process.process-index 0))
    (sym c.loop-process.invariant.same.words)
    (c.requires.processes _ (in_list c.args.processes.now c.loop-process.process-index 0 c.loop-process-test.true))

pub loop-process-preserved : goal.loop-process-preserved
loop-process-preserved c =
    let more : c.push.new.self.items ≡ c.loop-process.all.items ++ c.in_ok-places.places ∷ [] = grind (arith, common_steps) in
    record {
      same = plain_words.twice c.args.hall.now c.loop-process.hall c.places_of.new.hall c.loop-process.invariant.same
          c.places_of.ensures.same;
      rest = rest_later c.loop-process.hall c.places_of.new.hall c.loop-process.invariant.rest c.places_of.ensures.same;
      told = zip_next _ c.args.processes.now c.loop-process.all.items c.push.new.self.items c.loop-process.process-index 0
          c.in_ok-places.places c.loop-process-test.true c.loop-process.invariant.told
          (subst (λ (ws : List ℕ). AreTold c.args.code.now ws (get_or c.args.processes.now c.loop-process.process-index 0)
          c.in_ok-places.places.items) c.loop-process.invariant.same.words c.in_ok-places.ensures.told) more;
    }
