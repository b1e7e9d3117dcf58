-- What is at hand where the slots hold the arguments again, and the pieces that stay.
use Rattle.std.proofs.Common.{◌≡◌, ℕ, ◌≤◌, false, List, [], ◌∷◌, ◌++◌, length, take, refl, sym, ap, subst}
use Rattle.std.proofs.Common.{append-nil, Option, Some, None}
use Rattle.std.specs.Prelude.{slice_get}
use Rattle.std.proofs.lemmas.List.{take-append-le}
use Rattle.fcp_model.specs.Places.{Variable}
use Rattle.fcp_model.specs.Terms.{Term, Bindings}
use Rattle.heap_words.specs.Trails.{WordList}
use Rattle.word_states.specs.Words.{Words}
use Rattle.word_states.specs.Denoting.{Addresses}
use Rattle.word_states.specs.Pieces.{place_words, numbered, with_own, with_variables}
use Rattle.word_states.proofs.Lists.{listed_left}
use Rattle.word_states.proofs.Persisting.{expr_on}
use Rattle.machine_code.specs.Slots.{arguments, argument}
use Rattle.machine_code.specs.Machine.{Trying}
use Rattle.machine_code.specs.Fresh.{Tops, no_tops}
use Rattle.trial_laws.specs.AtHand.{AtHand, is_operator, IsStore, StandsForTry}
use Rattle.trial_laws.specs.Laws as laws
use Rattle.trial_laws.proofs.Pieces.{store_word}
use Rattle.safe_tries.specs.Safe.{IsSafe}
use Rattle.safe_tries.specs.Puts.{rested, Puts, AreArguments}
use Rattle.safe_tries.proofs.Starting.{safe_reset}
use Rattle.steady_tries.specs.Steady.{Course, base_of}

pub take_all : {A : Type 0} (ps : List A) → take (length ps) ps ≡ ps
take_all [] = refl
take_all (p ∷ ps) = ap (λ l. p ∷ l) (take_all ps)

no_operation : (o : Option (Term Variable)) → false ≡ is_operator (argument o)
no_operation None = refl
no_operation (Some t) = refl

-- the slots hold the arguments again
pub stands_rested : (w : Words) (vs : Addresses) (bound : Bindings) (r : AtHand) (t : Trying) (args : List (Term Variable)) (words : ℕ → ℕ)
    → IsStore w vs bound → laws.AreArguments w vs args words → StandsForTry w vs bound r t
    → StandsForTry w vs bound (rested r words) (record t { slots = arguments args })
stands_rested w vs bound r t args words store named s = record {
  clause = s.clause;
  next = s.next;
  behind = s.behind;
  slots = λ i. expr_on w (with_own r.pieces w) vs (with_variables r.pieces vs)
      (λ a x e f. store_word w r.pieces a x (store.low a x e) e)
      (λ v a h. listed_left vs (numbered 1 (place_words 4000000000 r.pieces)) v a h) (words i) (arguments args i) (named i);
  operators = λ i. no_operation (slice_get args i);
  places = s.places;
  binds_named = s.binds_named;
  binds_open = s.binds_open;
  bound_named = s.bound_named;
  order = s.order;
  reads = s.reads;
  waits = s.waits;
  children = s.children;
}

-- what is at hand with all pieces stands with the first of all of them
pub based : (P : AtHand → Type 0) (c : Course) (r : AtHand) → P (rested r c.words) → P (base_of c (length r.pieces) r)
based P c r h = subst (λ ps. P (record (rested r c.words) { pieces = ps })) (sym (take_all r.pieces)) h

-- what is at hand with its first pieces, where more stand behind them
pub base_more : (P : AtHand → Type 0) (c : Course) (n : ℕ) (r r' : AtHand) (more : List (List ℕ)) → n ≤ length r.pieces
    → P (base_of c n r) → P (record (base_of c n r) { pieces = take n (r.pieces ++ more) })
base_more P c n r r' more few h =
    subst (λ ps. P (record (base_of c n r) { pieces = ps })) (sym (take-append-le n r.pieces more few)) h

-- nothing was put
pub no_puts : (c : Course) (r : AtHand) → Puts (rested r c.words) r
no_puts c r = record {
  more = [];
  pieces = sym (append-nil r.pieces);
  terms = λ a p h. absurd h;
  same_places = refl;
  same_processes = refl;
  same_binds = refl;
}

pub based_puts : (c : Course) (r : AtHand) → Puts (base_of c (length r.pieces) r) r
based_puts c r = based (λ b. Puts b r) c r (no_puts c r)

-- it is safe with the arguments in its slots, where it was with others
pub safe_based : (c : Course) (kept : WordList) (r : AtHand) (τ : Tops) (q : ℕ) → AreArguments kept c.words → IsSafe kept r τ q
    → IsSafe kept (base_of c (length r.pieces) r) no_tops q
safe_based c kept r τ q given h = based (λ b. IsSafe kept b no_tops q) c r (safe_reset kept r τ q h c.words given)

-- and it stands for a try
pub stands_based : (w : Words) (vs : Addresses) (bound : Bindings) (c : Course) (r : AtHand) (t : Trying) (args : List (Term Variable))
    → IsStore w vs bound → laws.AreArguments w vs args c.words → StandsForTry w vs bound r t
    → StandsForTry w vs bound (base_of c (length r.pieces) r) (record t { slots = arguments args })
stands_based w vs bound c r t args store named s =
    based (λ b. StandsForTry w vs bound b (record t { slots = arguments args })) c r (stands_rested w vs bound r t args c.words store
    named s)
