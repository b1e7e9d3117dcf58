-- An instruction that is no put led on: all pieces stay from then on.
use Rattle.std.proofs.Common.{◌≡◌, ℕ, length, sym, ap, ◌∙◌, subst}
use Rattle.std.proofs.Common.{arith}
use Rattle.fcp_model.specs.Programs.{Goal}
use Rattle.fcp_model.specs.Places.{Variable}
use Rattle.fcp_model.specs.Terms.{Bindings}
use Rattle.heap_words.specs.Trails.{WordList}
use Rattle.word_states.specs.Words.{Words}
use Rattle.word_states.specs.Denoting.{Addresses}
use Rattle.word_states.specs.Pieces.{place_words}
use Rattle.word_states.specs.Trials.{IsTried}
use Rattle.machine_code.specs.Fresh.{Tops, no_tops, IsFresh}
use Rattle.trial_laws.specs.AtHand.{AtHand, IsStore, Leads}
use Rattle.trial_laws.specs.Laws.{places_for}
use Rattle.safe_tries.specs.Safe.{IsSafe}
use Rattle.steady_tries.specs.Steady.{Course, arguments_of, IsCourse, Follows, IsSteady}
use Rattle.steady_tries.proofs.Resting.{based_puts, safe_based, stands_based}
use Rattle.steady_tries.proofs.Going.{the_store}

-- wherever the process has a goal, the instruction leads on
abbrev pub LeadsAnywhere : Course → WordList → ℕ → ℕ → AtHand → ℕ → AtHand → Type 0
LeadsAnywhere c kept at n r at' r' = (w : Words) (vs : Addresses) (bound : Bindings) (g : Goal Variable) → IsTried kept c.process w vs
    bound g
    → (f : Follows c w vs bound (arguments_of g) at n r) → IsStore w vs bound → Leads w vs bound c.ops (arguments_of g) at f.state at' r'

pub rebased : (c : Course) (kept : WordList) (at n : ℕ) (r : AtHand) (at' : ℕ) (r' : AtHand) (τ : Tops) (q : ℕ)
    → IsCourse c kept → IsSteady c kept at n r → IsSafe kept r' τ q → IsFresh c.ops at' τ q → r'.next ≡ r.next → r'.clause ≡ r.clause
    → place_words 4000000000 r'.pieces ≡ place_words 4000000000 r.pieces → LeadsAnywhere c kept at n r at' r'
    → IsSteady c kept at' (length r'.pieces) r'
rebased c kept at n r at' r' τ q course h safe fresh same_next same_clause same_places leads = record {
  tops = τ;
  released = q;
  safe = safe;
  rests = safe_based c kept r' τ q course.kept_words safe;
  puts = based_puts c r';
  few = omega arith;
  fresh = fresh;
  next_fresh = subst (λ m. IsFresh c.ops m no_tops 0) (sym same_next) h.next_fresh;
  places = same_places ∙ (h.places ∙ ap (λ k. place_words 4000000000 (places_for (c.vars k))) (sym same_clause));
  follows = λ w vs bound g t.
      let f = h.follows w vs bound g t in
      let store = the_store kept c.process w vs bound g t in
      let l = leads w vs bound g t f store in record {
        state = l.state;
        stands = l.stands;
        rests = stands_based w vs bound c r' l.state (arguments_of g) store (course.named w vs bound g t) l.stands;
        gives = λ d k. f.gives d (l.gives d k);
      };
}
