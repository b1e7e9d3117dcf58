-- The laws of tests.
use Rattle.std.proofs.Common.{◌≡◌, ℕ, suc, Bool, true, false, cond, List, [], ◌∷◌, ◌++◌, refl, sym, ap, ◌∙◌, subst, append-nil, Some}
use Rattle.std.specs.Prelude.{slice_get}
use Rattle.fcp_model.specs.Places.{Variable}
use Rattle.fcp_model.specs.Terms.{Term, Bindings}
use Rattle.fcp_model.specs.Tests.{Tested, holds, fails, pauses, test}
use Rattle.fcp_model.specs.Tests as tests
use Rattle.fcp_model.proofs.OneDecision.{test_more}
use Rattle.word_states.specs.Words.{Words}
use Rattle.word_states.specs.Denoting.{Addresses}
use Rattle.word_states.specs.Pieces.{numbered, with_variables}
use Rattle.machine_code.specs.Slots.{Slots, arguments, built}
use Rattle.machine_code.specs.Instructions.{Op, Try, GetFirst, GetCons, GetTuple, PutVar, PutWord, PutCons, PutTuple, Unify, Jump, Test}
use Rattle.machine_code.specs.Instructions.{Otherwise, Spawn, Commit}
use Rattle.machine_code.specs.Machine.{Trying, Meaning, tested, follow, test_of_kind}
use Rattle.trial_laws.specs.AtHand.{AtHand, ArePieces, AreCalled, IsStore, StandsForTry, Gives, Leads}
use Rattle.trial_laws.specs.Laws.{AreArguments, AreNoted, left, after_leave}
use Rattle.trial_laws.specs.Testing.{TestGives, LawOfHolds, LawOfFails, LawOfWaits, LawOfOtherwise, LawOfNotOtherwise}
use Rattle.trial_laws.proofs.Slots.{step_given}
use Rattle.trial_laws.proofs.TryLaws.{leaves}

called_more : (us : Addresses) (as' bs : List ℕ) (vs qs : List Variable) → AreCalled us as' vs → AreCalled us bs qs
    → AreCalled us (as' ++ bs) (vs ++ qs)
called_more us [] bs [] qs h k = k
called_more us (a ∷ as') bs (v ∷ vs) qs h k = (h.0, called_more us as' bs vs qs h.1 k)
called_more us [] bs (v ∷ vs) qs h k = absurd h
called_more us (a ∷ as') bs [] qs h k = absurd h

-- the slots after a test that holds
abbrev kept : Op → List (Term Variable) → Trying → Slots
kept Otherwise args t = t.slots
kept _ args t = arguments args

-- what the code gives after a test
after_test : (bound : Bindings) (ops : List Op) (args : List (Term Variable)) (at at' : ℕ) (t t' : Trying) (o : Op) (x : Tested)
    (d : Meaning) → slice_get ops at ≡ Some o → TestGives bound t o x
    → ((n : ℕ) → tested (follow n bound ops args) args (kept o args t) at t x ≡ follow n bound ops args at' t')
    → Gives bound ops args at' t' d → Gives bound ops args at t d
after_test bound ops args at at' t t' (Test k l r) x d e is same g =
    step_given bound ops args at at' t t' (Test k l r)
    (λ n. test n (bound ++ t.bound) t.behind (test_of_kind k (built t.slots [] l) (built t.slots [] r)))
    (λ go y. tested go args (arguments args) at t y) x d e
    (test_more (bound ++ t.bound) t.behind (test_of_kind k (built t.slots [] l) (built t.slots [] r))) (λ n. refl) same is.0 is.1 g
after_test bound ops args at at' t t' Otherwise x d e is same g =
    step_given bound ops args at at' t t' Otherwise (λ n. test n (bound ++ t.bound) t.behind tests.otherwise)
    (λ go y. tested go args t.slots at t y) x d e (test_more (bound ++ t.bound) t.behind tests.otherwise) (λ n. refl) same is.0 is.1 g
after_test bound ops args at at' t t' (Try k next) x d e is same g = absurd is
after_test bound ops args at at' t t' (GetFirst i k) x d e is same g = absurd is
after_test bound ops args at at' t t' (GetCons i l r p) x d e is same g = absurd is
after_test bound ops args at at' t t' (GetTuple i l r p) x d e is same g = absurd is
after_test bound ops args at at' t t' (PutVar i k b) x d e is same g = absurd is
after_test bound ops args at at' t t' (PutWord i c) x d e is same g = absurd is
after_test bound ops args at at' t t' (PutCons i l r) x d e is same g = absurd is
after_test bound ops args at at' t t' (PutTuple i l r o) x d e is same g = absurd is
after_test bound ops args at at' t t' (Unify l r) x d e is same g = absurd is
after_test bound ops args at at' t t' (Jump to) x d e is same g = absurd is
after_test bound ops args at at' t t' (Spawn p l r) x d e is same g = absurd is
after_test bound ops args at at' t t' Commit x d e is same g = absurd is

reads_more : (w : Words) (vs : Addresses) (bound : Bindings) (r : AtHand) (t : Trying) → StandsForTry w vs bound r t → (rs : List ℕ)
    (qs : List Variable) → AreCalled (with_variables r.pieces vs) rs qs
    → StandsForTry w vs bound (record r { reads = r.reads ++ rs }) (record t { read = t.read ++ qs })
reads_more w vs bound r t s rs qs called = record {
  clause = s.clause;
  next = s.next;
  behind = s.behind;
  slots = s.slots;
  operators = s.operators;
  places = s.places;
  binds_named = s.binds_named;
  binds_open = s.binds_open;
  bound_named = s.bound_named;
  order = s.order;
  reads = called_more (with_variables r.pieces vs) r.reads rs t.read qs s.reads called;
  waits = s.waits;
  children = s.children;
}

pub holds_leads : LawOfHolds
holds_leads w vs bound ops args at r t store formed s k x y b rs qs e is base same called = record {
  state = record t { slots = arguments args; read = t.read ++ qs };
  stands = reads_more w vs bound b (record t { slots = arguments args }) base rs qs
      (subst (λ (l : List ℕ). AreCalled (vs ++ numbered 1 l) rs qs) same called);
  gives = λ d g. after_test bound ops args at (suc at) t _ (Test k x y) (holds qs) d e is (λ n. refl) g;
}

-- the try is left with its reads
module _ (w : Words) (vs : Addresses) (bound : Bindings) (ops : List Op) (args : List (Term Variable)) (at : ℕ) (r : AtHand) (t : Trying)
    (store : IsStore w vs bound) (formed : ArePieces r.pieces) (s : StandsForTry w vs bound r t) (o : Op) (is : slice_get ops at
    ≡ Some o) where
  leaves_after : (behind behind' : Bool) → behind ≡ behind' → (rs waits : List ℕ) (qs : List Variable) (words : ℕ → ℕ)
      → AreCalled (with_variables r.pieces vs) rs qs → AreNoted r.waits rs waits → AreArguments w vs args words → (x : Tested)
      → TestGives bound t o x
      → ((n : ℕ) → tested (follow n bound ops args) args (kept o args t) at t x
      ≡ follow n bound ops args t.next (after_leave t args behind' qs))
      → Leads w vs bound ops args at t r.next (left r behind waits words)
  leaves_after behind behind' same rs waits qs words called noted given x gives goes = record {
    state = after_leave t args behind' qs;
    stands = subst (λ (b : Bool). StandsForTry w vs bound (left r behind waits words) (after_leave t args b qs)) same
        (leaves w vs bound ops args at r t store formed s behind rs qs waits words called noted given);
    gives = λ d g. after_test bound ops args at t.next t (after_leave t args behind' qs) o x d is gives goes
        (subst (λ (a : ℕ). Gives bound ops args a (after_leave t args behind' qs) d) s.next g);
  }

pub fails_leads : LawOfFails
fails_leads w vs bound ops args at r t store formed s o rs waits qs words e is called noted given =
    leaves_after w vs bound ops args at r t store formed s o e r.behind t.behind s.behind (r.reads ++ rs) waits (t.read ++ qs) words
    (called_more (with_variables r.pieces vs) r.reads rs t.read qs s.reads called) noted given (fails qs) is (λ n. refl)

pub waits_leads : LawOfWaits
waits_leads w vs bound ops args at r t store formed s o rs waits qs words e is called noted given =
    leaves_after w vs bound ops args at r t store formed s o e false false refl (r.reads ++ rs) waits (t.read ++ qs) words
    (called_more (with_variables r.pieces vs) r.reads rs t.read qs s.reads called) noted given (pauses qs) is (λ n. refl)

-- `otherwise`
otherwise_gives : (bound : Bindings) (t : Trying) (b : Bool) → t.behind ≡ b → TestGives bound t Otherwise (cond b (holds []) (pauses []))
otherwise_gives bound t b e = (0, ap (λ (c : Bool). Some (cond c (holds []) (pauses []))) e)

pub otherwise_leads : LawOfOtherwise
otherwise_leads w vs bound ops args at r t store formed s e behind = record {
  state = record t { read = t.read ++ [] };
  stands = subst (λ (z : List ℕ). StandsForTry w vs bound (record r { reads = z }) (record t { read = t.read ++ [] })) (append-nil r.reads)
      (reads_more w vs bound r t s [] [] tt);
  gives = λ d g. after_test bound ops args at (suc at) t _ Otherwise (holds []) d e (otherwise_gives bound t true (sym s.behind ∙ behind))
      (λ n. refl) g;
}

pub not_otherwise_leads : LawOfNotOtherwise
not_otherwise_leads w vs bound ops args at r t store formed s waits words e behind noted given =
    leaves_after w vs bound ops args at r t store formed s Otherwise e false false refl r.reads waits (t.read ++ []) words
    (subst (λ (z : List Variable). AreCalled (with_variables r.pieces vs) r.reads z) (sym (append-nil t.read)) s.reads) noted given
    (pauses []) (otherwise_gives bound t false (sym s.behind ∙ behind)) (λ n. refl)
