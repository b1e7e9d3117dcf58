-- A goal that was laid is prepared for trials.
use Rattle.std.proofs.Common.{arith}
use Rattle.fcp_text.specs.Bytes.{Text}
use Rattle.laid_texts.specs.declared.goals.LaidGoal.{LaidGoal}
use Rattle.laid_texts.specs.Texts.{IsLaidText}
use Rattle.stored_heaps.proofs.Stores.{first_status, place_unbound}
use Rattle.trial_rows.specs.Prepared.{IsPrepared}

pub laid_prepared : (file goal : Text) (l : LaidGoal) → IsLaidText file goal l → IsPrepared l
laid_prepared file goal l h = record {
  heap = h.lays.heap;
  process = first_status l.heap h.source h.text l.process h.fresh h.lays;
  place = λ some. place_unbound l.heap h.source h.text l.process h.fresh 1 h.lays (omega arith) (omega (arith, some, h.variables));
}
