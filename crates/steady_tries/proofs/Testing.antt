-- A test holds, or the try is left.
use Rattle.std.proofs.Common.{ℕ, suc, ◌<◌, false, List, [], ◌∷◌, ◌++◌, length, refl, sym, ap, ◌∙◌, subst}
use Rattle.std.proofs.Common.{⊎_elim, inl, inr, ◌⊎◌}
use Rattle.std.proofs.lemmas.List.{length-take-le}
use Rattle.heap_words.specs.Trails.{WordList, word_at}
use Rattle.heap_words.specs.declared.steps.TestKind.{TestKind}
use Rattle.guard_tests.specs.declared.equality.Tested.{Tested}
use Rattle.guard_tests.specs.declared.equality.Tested.TheVariants.{Holds, Not, Wait}
use Rattle.guard_tests.specs.Opened.{WasSeenOpen}
use Rattle.ro_unify.specs.Occurs.{Each}
use Rattle.ro_unify.specs.Walks.{first_some}
use Rattle.word_states.specs.Words.{IsIn}
use Rattle.word_states.specs.Pieces.{with_own}
use Rattle.unify_terms.specs.WordsOfTries.{memory_of}
use Rattle.machine_code.specs.Slots.{Step}
use Rattle.machine_code.specs.Instructions.{Test}
use Rattle.machine_code.specs.Fresh.{Tops, no_tops}
use Rattle.machine_code.proofs.Fresh.{fresh_here}
use Rattle.trial_laws.specs.AtHand.{AtHand, Leads}
use Rattle.trial_laws.specs.Laws.{AreNoted}
use Rattle.trial_laws.proofs.Pieces.{none_low}
use Rattle.trial_laws.proofs.TestLaws.{holds_leads, fails_leads, waits_leads}
use Rattle.trial_tests.proofs.Ends.{tested_so}
use Rattle.safe_tries.specs.Safe.{IsSafe, SawOpen, own_words}
use Rattle.steady_tries.specs.Steady.{arguments_of, base_of, IsSteady}
use Rattle.steady_tries.specs.Tests.{TestsAt, SteadyHolds, SteadyFails, SteadyWaits, TestedReads}
use Rattle.steady_tries.proofs.Agreeing.{tried_agrees}
use Rattle.steady_tries.proofs.Rebasing.{rebased}
use Rattle.steady_tries.proofs.Leaving.{left_between}

-- what is safe is safe with other reads that were seen unbound
safe_reads : (kept : WordList) (r : AtHand) (τ : Tops) (q : ℕ) (rs : List ℕ) → IsSafe kept r τ q
    → ((a : ℕ) → IsIn a rs → a < 4000000000 → SawOpen kept r a) → IsSafe kept (record r { reads = rs }) τ q
safe_reads kept r τ q rs h opened = record {
  below = h.below;
  low = h.low;
  led = record {
    pieces = h.led.pieces;
    slots = h.led.slots;
    terms = h.led.terms;
    bound = h.led.bound;
    places = h.led.places;
    own = h.led.own;
  };
  tame = h.tame;
  topped = record {
    high = h.topped.high;
    store = h.topped.store;
    place = h.topped.place;
    climbs = h.topped.climbs;
    slots = h.topped.slots;
    near = h.topped.near;
    bound = h.topped.bound;
    unfilled = h.topped.unfilled;
  };
  bound_open = h.bound_open;
  read_open = opened;
  waits_open = h.waits_open;
  waits_apart = h.waits_apart;
}

-- a place of the store was seen open, whatever the own words are
low_open : (kept : WordList) (r b : AtHand) (a : ℕ) → a < 4000000000 → SawOpen kept r a → SawOpen kept b a
low_open kept r b a low s =
    (s.0, s.1, ap (first_some (word_at kept a)) (none_low b.pieces a low ∙ sym (none_low r.pieces a low)) ∙ s.2, s.3)

among : (rs more : List ℕ) (a : ℕ) → IsIn a (rs ++ more) → IsIn a rs ⊎ IsIn a more
among [] more a h = inr h
among (b ∷ rs) more a (inl e) = inl (inl e)
among (b ∷ rs) more a (inr k) = ⊎_elim (λ i. inl (inr i)) (λ i. inr i) (among rs more a k)

pub each_one : (P : ℕ → Type 0) (rs : List ℕ) (a : ℕ) → Each P rs → IsIn a rs → P a
each_one P [] a h i = absurd i
each_one P (b ∷ rs) a h (inl e) = subst P e h.0
each_one P (b ∷ rs) a h (inr k) = each_one P rs a h.1 k

-- all that was read was seen unbound
read_open : (kept : WordList) (r : AtHand) (k : TestKind) (x y : List Step) (d : Tested) (rs : List ℕ)
    → ((a : ℕ) → IsIn a r.reads → a < 4000000000 → SawOpen kept r a) → TestsAt kept r k x y d rs
    → (a : ℕ) → IsIn a rs → a < 4000000000 → SawOpen kept r a
read_open kept r k x y d rs before h a i low =
    ⊎_elim (λ j. before a j low)
    (λ j. let s = each_one (WasSeenOpen r.binds kept (own_words r.pieces)) h.opened.more a h.opened.each_open j in
    (s.word, s.unbound.0, s.seen, s.unbound.1))
    (among r.reads h.opened.more a (subst (IsIn a) h.opened.read i))

pub tested_reads : TestedReads
tested_reads c kept at n r course h k x y d rs t = read_open kept r k x y d rs h.safe.read_open t

pub holds_steady : SteadyHolds
holds_steady c kept at n r course h k x y rs e sides t =
    subst (λ m. IsSteady c kept (suc at) m (record (base_of c n r) { reads = rs })) (length-take-le n r.pieces h.few)
    (rebased c kept at n r (suc at) (record (base_of c n r) { reads = rs }) no_tops h.released course h safe
    (fresh_here c.ops at h.tops h.released (Test k x y) e h.fresh) refl refl (sym h.puts.same_places)
    (λ w vs bound g u f store.
    let d = tested_so w vs bound r f.state store h.safe.led.pieces f.stands k x y Holds rs sides
    (t.tested (memory_of (with_own r.pieces w)) (tried_agrees kept c.process r w vs bound g h.safe.below u)) in
    subst (λ z. Leads w vs bound c.ops (arguments_of g) at f.state (suc at) (record (base_of c n r) { reads = z })) (sym d.read)
    (holds_leads w vs bound c.ops (arguments_of g) at r f.state store h.safe.led.pieces f.stands k x y (base_of c n r) d.more d.variables e
    d.gives f.rests h.puts.same_places d.called)))
  where
    safe : IsSafe kept (record (base_of c n r) { reads = rs }) no_tops h.released
    safe = safe_reads kept (base_of c n r) no_tops h.released rs h.rests opened
      where
        opened : (a : ℕ) → IsIn a rs → a < 4000000000 → SawOpen kept (base_of c n r) a
        opened a i low = low_open kept r (base_of c n r) a low (read_open kept r k x y Holds rs h.safe.read_open t a i low)

pub fails_steady : SteadyFails
fails_steady c kept at n r course h k x y rs waits e sides t noted safe =
    left_between c kept at n r r.behind waits h safe
    (λ w vs bound g u f store.
    let d = tested_so w vs bound r f.state store h.safe.led.pieces f.stands k x y Not rs sides
    (t.tested (memory_of (with_own r.pieces w)) (tried_agrees kept c.process r w vs bound g h.safe.below u)) in
    fails_leads w vs bound c.ops (arguments_of g) at r f.state store h.safe.led.pieces f.stands
    (Test k x y) d.more waits d.variables c.words
    e d.gives d.called (subst (λ z. AreNoted r.waits z waits) d.read noted) (course.named w vs bound g u))

pub waits_steady : SteadyWaits
waits_steady c kept at n r course h k x y rs waits e sides t noted safe =
    left_between c kept at n r false waits h safe
    (λ w vs bound g u f store.
    let d = tested_so w vs bound r f.state store h.safe.led.pieces f.stands k x y Wait rs sides
    (t.tested (memory_of (with_own r.pieces w)) (tried_agrees kept c.process r w vs bound g h.safe.below u)) in
    waits_leads w vs bound c.ops (arguments_of g) at r f.state store h.safe.led.pieces f.stands
    (Test k x y) d.more waits d.variables c.words
    e d.gives d.called (subst (λ z. AreNoted r.waits z waits) d.read noted) (course.named w vs bound g u))
