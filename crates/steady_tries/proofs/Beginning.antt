-- A try begins.
use Rattle.std.proofs.Common.{◌≡◌, ℕ, zero, suc, ◌+◌, List, [], length, refl, ap, subst}
use Rattle.std.proofs.Common.{arith, Some}
use Rattle.std.specs.Prelude.{slice_get}
use Rattle.fcp_model.specs.Places.{Variable}
use Rattle.fcp_model.specs.Terms.{Term, Bindings}
use Rattle.fcp_model.specs.Programs.{Goal}
use Rattle.heap_words.specs.Trails.{WordList}
use Rattle.word_states.specs.Words.{Words}
use Rattle.word_states.specs.Denoting.{Addresses}
use Rattle.word_states.specs.Pieces.{place_words}
use Rattle.word_states.specs.Trials.{IsTried}
use Rattle.machine_code.specs.Slots.{arguments}
use Rattle.machine_code.specs.Instructions.{Try}
use Rattle.machine_code.specs.Machine.{Trying}
use Rattle.machine_code.specs.Fresh.{no_tops}
use Rattle.machine_code.proofs.Fresh.{fresh_here}
use Rattle.trial_laws.specs.AtHand.{AtHand, StandsForTry}
use Rattle.trial_laws.specs.Laws.{begun, places_for}
use Rattle.trial_laws.proofs.Slots.{step}
use Rattle.trial_laws.proofs.TryLaws.{begins}
use Rattle.safe_tries.specs.Safe.{IsSafe}
use Rattle.safe_tries.specs.Puts.{Puts}
use Rattle.safe_tries.proofs.Starting.{safe_try}
use Rattle.steady_tries.specs.Steady.{Course, arguments_of, IsCourse, base_of, Follows, Waits}
use Rattle.steady_tries.specs.Begins.{SteadyTry}
use Rattle.steady_tries.proofs.Resting.{based_puts, safe_based, stands_based}
use Rattle.steady_tries.proofs.Going.{the_store}

places_long : (n : ℕ) → length (places_for n) ≡ n
places_long zero = refl
places_long (suc n) = ap suc (places_long n)

-- what a try begins with, by what stands for the state before it
same_hand : (r h : AtHand) (k next n : ℕ) (words : ℕ → ℕ) (P : AtHand → Type 0) → h.behind ≡ r.behind → h.waits ≡ r.waits
    → P (begun h k next n words) → P (begun r k next n words)
same_hand r h k next n words P e f p =
    subst (λ ws. P (record (begun r k next n words) { waits = ws })) f
    (subst (λ b. P (record (begun h k next n words) { behind = b })) e p)

-- the state of the code's meaning at the begin of a try, and what is at hand
abbrev tried : Trying → ℕ → ℕ → List (Term Variable) → Trying
tried t k next args = record t { clause = k; next = next; slots = arguments args; bound = []; read = []; children = [] }

abbrev anew : Course → AtHand → ℕ → ℕ → AtHand
anew c r k next = begun r k next (c.vars k) c.words

on_all : (c : Course) (k : ℕ) (P : ℕ → Type 0) → P (length (places_for (c.vars k))) → P (c.vars k)
on_all c k P p = subst P (places_long (c.vars k)) p

follows_anew : (c : Course) (kept : WordList) (at : ℕ) (r : AtHand) (k next : ℕ) → IsCourse c kept → slice_get c.ops at ≡ Some (Try k next)
    → (w : Words) (vs : Addresses) (bound : Bindings) (g : Goal Variable) → IsTried kept c.process w vs bound g
    → Waits c w vs bound (arguments_of g) at r → Follows c w vs bound (arguments_of g) (suc at) (c.vars k) (anew c r k next)
follows_anew c kept at r k next course e w vs bound g t f = record {
  state = tried f.state k next (arguments_of g);
  stands = stands;
  rests = on_all c k
      (λ m. StandsForTry w vs bound (base_of c m (anew c r k next)) (tried f.state k next (arguments_of g)))
      (stands_based w vs bound c (anew c r k next) (tried f.state k next (arguments_of g)) (arguments_of g)
      (the_store kept c.process w vs bound g t) (course.named w vs bound g t) stands);
  gives = λ d q. f.gives d (step bound c.ops (arguments_of g) at (suc at) f.state (tried f.state k next (arguments_of g)) (Try k next) d e
      (λ m. refl) q);
}
  where
    stands : StandsForTry w vs bound (anew c r k next) (tried f.state k next (arguments_of g))
    stands = same_hand r f.hand k next (c.vars k) c.words (λ z. StandsForTry w vs bound z (tried f.state k next (arguments_of g)))
        f.same_behind f.same_waits
        (begins w vs bound (c.vars k) (the_store kept c.process w vs bound g t) (arguments_of g) c.words (course.named w vs bound g t)
        f.hand f.state k next f.stands)

pub begin_steady : SteadyTry
begin_steady c kept at r k next course h e few = record {
  tops = no_tops;
  released = 0;
  safe = safe;
  rests = on_all c k (λ m. IsSafe kept (base_of c m (anew c r k next)) no_tops 0)
      (safe_based c kept (anew c r k next) no_tops 0 course.kept_words safe);
  puts = on_all c k (λ m. Puts (base_of c m (anew c r k next)) (anew c r k next)) (based_puts c (anew c r k next));
  few = omega (arith, places_long (c.vars k));
  fresh = λ n. (fresh_here c.ops at no_tops 0 (Try k next) e h.fresh n).0;
  next_fresh = λ n. (fresh_here c.ops at no_tops 0 (Try k next) e h.fresh n).1 no_tops 0;
  places = refl;
  follows = λ w vs bound g t. follows_anew c kept at r k next course e w vs bound g t (h.follows w vs bound g t);
}
  where
    safe : IsSafe kept (anew c r k next) no_tops 0
    safe = safe_try kept r no_tops 0 h.safe k next (c.vars k) c.words course.kept_words few h.no_pieces h.no_binds h.no_reads
