-- A try is left.
use Rattle.std.proofs.Common.{ℕ, Bool, false, List, refl}
use Rattle.heap_words.specs.Trails.{WordList}
use Rattle.word_states.specs.Pieces.{with_own}
use Rattle.unify_terms.specs.WordsOfTries.{memory_of}
use Rattle.machine_code.specs.Fresh.{no_tops}
use Rattle.trial_laws.specs.AtHand.{AtHand}
use Rattle.trial_laws.specs.Laws.{left}
use Rattle.trial_laws.proofs.UnifyLaws.{clash_leads, pause_leads}
use Rattle.trial_laws.proofs.TestLaws.{not_otherwise_leads}
use Rattle.safe_tries.specs.Safe.{IsSafe}
use Rattle.steady_tries.specs.Steady.{Course, arguments_of, IsSteady, IsBetween}
use Rattle.steady_tries.specs.Opens.{SteadyClash, SteadyPause}
use Rattle.steady_tries.specs.Tests.{SteadyNotOtherwise}
use Rattle.steady_tries.proofs.Agreeing.{tried_agrees}
use Rattle.steady_tries.proofs.Going.{the_store}
use Rattle.steady_tries.proofs.Rebasing.{LeadsAnywhere}

pub left_between : (c : Course) (kept : WordList) (at n : ℕ) (r : AtHand) (behind : Bool) (waits : List ℕ) → IsSteady c kept at n r
    → IsSafe kept (left r behind waits c.words) no_tops 0 → LeadsAnywhere c kept at n r r.next (left r behind waits c.words)
    → IsBetween c kept r.next (left r behind waits c.words)
left_between c kept at n r behind waits h safe leads = record {
  safe = safe;
  no_pieces = refl;
  no_binds = refl;
  no_reads = refl;
  fresh = h.next_fresh;
  follows = λ w vs bound g t.
      let f = h.follows w vs bound g t in
      let l = leads w vs bound g t f (the_store kept c.process w vs bound g t) in record {
        hand = left r behind waits c.words;
        no_pieces = refl;
        same_behind = refl;
        same_waits = refl;
        state = l.state;
        stands = l.stands;
        gives = λ d k. f.gives d (l.gives d k);
      };
}

pub clash_steady : SteadyClash
clash_steady c kept at n r course h i j rs waits e u noted safe =
    left_between c kept at n r r.behind waits h safe
    (λ w vs bound g t f store. clash_leads w vs bound c.ops (arguments_of g) at r f.state store h.safe.led.pieces f.stands i j rs waits
    c.words e (u (memory_of (with_own r.pieces w)) (tried_agrees kept c.process r w vs bound g h.safe.below t)) noted
    (course.named w vs bound g t))

pub pause_steady : SteadyPause
pause_steady c kept at n r course h i j rs waits e u noted safe =
    left_between c kept at n r false waits h safe
    (λ w vs bound g t f store. pause_leads w vs bound c.ops (arguments_of g) at r f.state store h.safe.led.pieces f.stands i j rs waits
    c.words e (u (memory_of (with_own r.pieces w)) (tried_agrees kept c.process r w vs bound g h.safe.below t)) noted
    (course.named w vs bound g t))

pub not_otherwise_steady : SteadyNotOtherwise
not_otherwise_steady c kept at n r course h waits e behind noted safe =
    left_between c kept at n r false waits h safe
    (λ w vs bound g t f store. not_otherwise_leads w vs bound c.ops (arguments_of g) at r f.state store h.safe.led.pieces f.stands waits
    c.words e behind noted (course.named w vs bound g t))
