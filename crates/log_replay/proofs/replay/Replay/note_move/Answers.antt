use Rattle.std.proofs.Common.{ℕ, List, sym, subst}
use Rattle.word_states.specs.Words.{IsIn}
use Rattle.log_replay.specs.Parts.{AreInUse}
use Rattle.log_replay.proofs.replay.Replay.note_move.Goals as goal

pub put_all-requires-clause-known : goal.put_all-requires-clause-known
put_all-requires-clause-known c = λ q i. c.requires.children q (subst (λ (xs : List ℕ). IsIn q xs) c.as_slice-born.ensures.value i)

pub put_all-requires-2-clause-known : goal.put_all-requires-2-clause-known
put_all-requires-2-clause-known c =
    subst (λ (ws : List ℕ). AreInUse ws c.as_slice-woken.result.now) (sym c.put_all.ensures.same.words)
    (λ q i. c.requires.woken q (subst (λ (xs : List ℕ). IsIn q xs) c.as_slice-woken.ensures.value i))
