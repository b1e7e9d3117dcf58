-- A trial goes on at another position, and more is kept.
use Rattle.std.proofs.Common.{◌≡◌, ℕ, List, refl, ⊎_elim, inl, inr}
use Rattle.std.proofs.Common.{Some}
use Rattle.fcp_model.specs.Places.{Variable}
use Rattle.fcp_model.specs.Terms.{Term, Bindings}
use Rattle.fcp_model.specs.Programs.{Goal}
use Rattle.heap_words.specs.Trails.{WordList, word_at}
use Rattle.word_states.specs.Words.{Words}
use Rattle.word_states.specs.Denoting.{Addresses}
use Rattle.word_states.specs.Trials.{IsTried}
use Rattle.machine_code.specs.Instructions.{Jump}
use Rattle.machine_code.specs.Machine.{Trying, Meaning, untried}
use Rattle.machine_code.specs.Fresh.{no_tops}
use Rattle.machine_code.proofs.Fresh.{fresh_here}
use Rattle.trial_laws.specs.AtHand.{IsStore, Gives}
use Rattle.trial_laws.specs.Laws.{empty}
use Rattle.safe_tries.specs.Safe.{IsSafe}
use Rattle.safe_tries.proofs.KeptMore.{safe_more}
use Rattle.safe_tries.proofs.Cuts.{safe_cut}
use Rattle.steady_tries.specs.Steady.{arguments_of, base_of}
use Rattle.steady_tries.specs.Begins.{SteadyStart, CourseMore, SteadyMore}
use Rattle.steady_tries.specs.Steps.{SteadyJump}
use Rattle.steady_tries.specs.Ends.{BetweenJump}
use Rattle.trial_laws.proofs.Slots.{step}
use Rattle.trial_laws.proofs.TryLaws.{started}

-- the words are those of a store
pub the_store : (kept : WordList) (p : ℕ) (w : Words) (vs : Addresses) (bound : Bindings) (g : Goal Variable) → IsTried kept p w vs bound g
    → IsStore w vs bound
the_store kept p w vs bound g t = record { low = t.low; says = t.says; own_free = t.own_free }

-- words that have more than was kept have what was kept
pub tried_less : (kept kept' : WordList) (p : ℕ) (w : Words) (vs : Addresses) (bound : Bindings) (g : Goal Variable)
    → ((a x : ℕ) → word_at kept a ≡ Some x → word_at kept' a ≡ Some x) → IsTried kept' p w vs bound g → IsTried kept p w vs bound g
tried_less kept kept' p w vs bound g grows t = record {
  has = λ a x e. t.has a x (grows a x e);
  low = t.low;
  old = t.old;
  says = t.says;
  own_free = t.own_free;
  goal = t.goal;
}

pub course_more : CourseMore
course_more c kept kept' grows h = record {
  kept_words = λ i. ((h.kept_words i).0, ⊎_elim (λ e. inl e) (λ k. inr (k.0, grows k.0 _ k.1)) (h.kept_words i).1);
  named = λ w vs bound g t. h.named w vs bound g (tried_less kept kept' c.process w vs bound g grows t);
}

pub more_steady : SteadyMore
more_steady c kept at n r course h kept' k = record {
  tops = h.tops;
  released = h.released;
  safe = safe;
  rests = safe_cut kept (base_of c n r) no_tops h.released h.rests kept' r h.tops h.released k.once safe h.puts k.grows;
  puts = h.puts;
  few = h.few;
  fresh = h.fresh;
  next_fresh = h.next_fresh;
  places = h.places;
  follows = λ w vs bound g t. h.follows w vs bound g (tried_less kept kept' c.process w vs bound g k.grows t);
}
  where
    safe : IsSafe kept' r h.tops h.released
    safe = safe_more kept r h.tops h.released h.safe kept' k

pub jump_steady : SteadyJump
jump_steady c kept at n r course h to e = record {
  tops = h.tops;
  released = h.released;
  safe = h.safe;
  rests = h.rests;
  puts = h.puts;
  few = h.few;
  fresh = fresh_here c.ops at h.tops h.released (Jump to) e h.fresh;
  next_fresh = h.next_fresh;
  places = h.places;
  follows = λ w vs bound g t. let f = h.follows w vs bound g t in record {
    state = f.state;
    stands = f.stands;
    rests = f.rests;
    gives = λ d k. f.gives d (jump_gives bound (arguments_of g) f.state d k);
  };
}
  where
    jump_gives : (bound : Bindings) (args : List (Term Variable)) (t : Trying) (d : Meaning) → Gives bound c.ops args to t d
        → Gives bound c.ops args at t d
    jump_gives bound args t d k = step bound c.ops args at to t t (Jump to) d e (λ q. refl) k

pub jump_between : BetweenJump
jump_between c kept at r course h to e = record {
  safe = h.safe;
  no_pieces = h.no_pieces;
  no_binds = h.no_binds;
  no_reads = h.no_reads;
  fresh = fresh_here c.ops at no_tops 0 (Jump to) e h.fresh;
  follows = λ w vs bound g t. let f = h.follows w vs bound g t in record {
    hand = f.hand;
    no_pieces = f.no_pieces;
    same_behind = f.same_behind;
    same_waits = f.same_waits;
    state = f.state;
    stands = f.stands;
    gives = λ d k. f.gives d (step bound c.ops (arguments_of g) at to f.state f.state (Jump to) d e (λ q. refl) k);
  };
}

pub start_steady : SteadyStart
start_steady c kept course safe fresh = record {
  safe = safe;
  no_pieces = refl;
  no_binds = refl;
  no_reads = refl;
  fresh = fresh;
  follows = λ w vs bound g t. record {
    hand = empty;
    no_pieces = refl;
    same_behind = refl;
    same_waits = refl;
    state = untried;
    stands = started w vs bound (the_store kept c.process w vs bound g t);
    gives = λ d k. k;
  };
}
