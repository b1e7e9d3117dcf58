-- A move that was found for the front goes on in the words that it writes.
use Rattle.std.proofs.Common.{◌≡◌, ℕ, suc, ◌+◌, ◌<◌, List, ◌∷◌, length, subst, arith}
use Rattle.fcp_model.specs.Events.{Event}
use Rattle.fcp_model.specs.OneWorker.{Schedule}
use Rattle.heap_words.specs.Heaps.{inside_at}
use Rattle.word_states.specs.Words.{over}
use Rattle.word_states.specs.Standing.{Book}
use Rattle.word_states.specs.Going.{Move, GoesOn}
use Rattle.word_states.proofs.Lists.{word_among}
use Rattle.run_laws.specs.Running.{Setting, Counts, StandsAt, IsGoing, IsFront, IsFoundMove}
use Rattle.run_laws.proofs.Steps.{may_go}

pub goes_on : (r : Setting) (ws rest : List ℕ) (p : ℕ) (c : Counts) (evs : List Event) (at : Schedule) (book : Book) (v : Move)
    → StandsAt r ws (p ∷ rest) c evs at book → c.entries + 1 < 134217728 → IsFoundMove r.program v ws p → IsGoing c → 0 < c.commits
    → 0 < c.moves → c.passed < length (p ∷ rest)
    → IsFront v ws p rest c × GoesOn r.program v book at.state (over (v.writes (c.entries + 1)) (inside_at ws))
goes_on r ws rest p c evs at book v here few h going commits moves passed =
    let number : suc at.state.entries ≡ c.entries + 1 = omega (arith, here.entries) in (
      record {
        address = h.address;
        mover = h.mover;
        is_move = h.is_move;
        small = h.small;
        name = (h.name.0, h.has (p + 1) h.name.0 (word_among v.reads (p + 1) h.name.0 h.name.1), h.name.2);
        going = going;
        commits = commits;
        moves = moves;
        passed = passed;
      },
      subst (λ (n : ℕ). GoesOn r.program v book at.state (over (v.writes n) (inside_at ws))) number
          (h.fits book ws at.state (may_go r ws (p ∷ rest) c evs at book here v going.mode few h.has)),
    )
