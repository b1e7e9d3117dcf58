-- The laws of the begin of a trial and of a try, and of a try that is left.
use Rattle.std.proofs.Common.{◌≡◌, ℕ, zero, suc, ◌+◌, false, List, [], ◌∷◌, ◌++◌, refl, sym, ap, ◌∙◌, subst, inl, inr}
use Rattle.std.proofs.Common.{⊎_elim, arith, append-nil, Option, Some, None}
use Rattle.std.specs.Prelude.{slice_get}
use Rattle.fcp_model.specs.Places.{Variable}
use Rattle.fcp_model.specs.Terms.{Term, Bindings, find}
use Rattle.fcp_model.proofs.Finding.{found_or, find-append}
use Rattle.heap_words.specs.Trails.{word_at}
use Rattle.word_states.specs.Words.{Words, over, Grows}
use Rattle.word_states.specs.Denoting.{Addresses, Listed, ExprSays}
use Rattle.word_states.specs.Standing.{PlaceSays}
use Rattle.word_states.specs.Pieces.{rows, StartsAt, place_words, process_words, numbered, with_own, with_variables}
use Rattle.word_states.proofs.Lists.{listed_left, listed_either}
use Rattle.word_states.proofs.Persisting.{expr_on}
use Rattle.word_states.proofs.Pieces.{variable_at, located_starts, rows_in, zero_is}
use Rattle.machine_code.specs.Slots.{arguments, argument}
use Rattle.machine_code.specs.Instructions.{Try}
use Rattle.machine_code.specs.Machine.{Trying}
use Rattle.trial_laws.specs.AtHand.{AtHand, is_operator, end_of, GoalsSay, IsStore, StandsForTry}
use Rattle.trial_laws.specs.Laws.{places_for, AreArguments, begun, LawOfTry, LawOfStart, LawOfLeaving, LawOfClearing}
use Rattle.trial_laws.proofs.Pieces.{piece_word, store_word, place_on}
use Rattle.trial_laws.proofs.Slots.{step, nil_is}
use Rattle.trial_laws.proofs.TriedPlaces.{read_among}

pub place_only : (n b a : ℕ) (p : List ℕ) → StartsAt b (places_for n) a p → p ≡ 0 ∷ 0 ∷ []
place_only zero b a p h = absurd h
place_only (suc n) b a p (inl h) = sym h.1
place_only (suc n) b a p (inr h) = place_only n (b + 2) a p h

pub end_places : (n b : ℕ) → end_of b (places_for n) ≡ b + n + n
end_places zero b = omega arith
end_places (suc n) b = let h = end_places n (b + 2) in omega arith

no_process : (n b : ℕ) → process_words b (places_for n) ≡ []
no_process zero b = refl
no_process (suc n) b = no_process n (b + 2)

or_none : (o : Option (Term Variable)) → found_or o None ≡ o
or_none None = refl
or_none (Some z) = refl

same_map : (bound : Bindings) (v : Variable) → find (bound ++ []) v ≡ find bound v
same_map bound v = find-append bound [] v ∙ or_none (find bound v)

kind_of : (o : Option (Term Variable)) → false ≡ is_operator (argument o)
kind_of None = refl
kind_of (Some t) = refl

-- the places of the store and those of a try that begins
module _ (w : Words) (vs : Addresses) (bound : Bindings) (n : ℕ) (store : IsStore w vs bound) where
  grows : Grows w (with_own (places_for n) w)
  grows a x e f = store_word w (places_for n) a x (store.low a x e) e

  on : (v : Variable) (a : ℕ) → Listed vs v a → Listed (with_variables (places_for n) vs) v a
  on v a h = listed_left vs (numbered 1 (place_words 4000000000 (places_for n))) v a h

  abbrev Says : Variable → ℕ → Type 0
  Says v a = (x : ℕ) × (over [] (with_own (places_for n) w) a ≡ Some x)
      × PlaceSays (with_own (places_for n) w) (with_variables (places_for n) vs) x (find (bound ++ []) v)

  old_place : (v : Variable) (a : ℕ) → Listed vs v a → Says v a
  old_place v a h =
      let r = store.says.word v a h in (
        r.0,
        store_word w (places_for n) a r.0 (store.low a r.0 r.1) r.1,
        subst (λ (o : Option (Term Variable)). PlaceSays (with_own (places_for n) w) (with_variables (places_for n) vs) r.0 o)
            (sym (same_map bound v)) (place_on _ _ _ _ grows on r.0 (find bound v) r.2),
      )

  own_place : (v : Variable) (a : ℕ) → Listed (numbered 1 (place_words 4000000000 (places_for n))) v a → Says v a
  own_place v a h =
      let r = variable_at 1 1 4000000000 (places_for n) v a h in
      let s : StartsAt 4000000000 (places_for n) r.2 r.3 = located_starts 1 1 4000000000 (places_for n) r.0 r.1 r.2 r.3 r.5 in
      let p = place_only n 4000000000 r.2 r.3 s in
      let e : a ≡ suc r.2 = r.7 in
      let there : word_at (rows 4000000000 (places_for n)) a ≡ Some 0 =
      subst (λ (c : ℕ). word_at (rows 4000000000 (places_for n)) c ≡ Some 0) (omega arith)
      (rows_in 4000000000 r.2 1 0 (places_for n) r.3 s (ap (λ (l : List ℕ). slice_get l 1) p)) in (
        0,
        piece_word w (places_for n) a 0 there,
        subst (λ (o : Option (Term Variable)). PlaceSays (with_own (places_for n) w) (with_variables (places_for n) vs) 0 o)
            (sym (same_map bound v ∙ (ap (find bound) r.4 ∙ store.own_free r.0))) (0, zero_is),
      )

  pub begins : (args : List (Term Variable)) (words : ℕ → ℕ) → AreArguments w vs args words → (r : AtHand) (t : Trying) (k next : ℕ)
      → StandsForTry w vs bound r t
      → StandsForTry w vs bound (begun r k next n words)
      (record t { clause = k; next = next; slots = arguments args; bound = []; read = []; children = [] })
  begins args words given r t k next s = record {
    clause = refl;
    next = refl;
    behind = s.behind;
    slots = λ i. expr_on _ _ _ _ grows on (words i) (arguments args i) (given i);
    operators = λ i. kind_of (slice_get args i);
    places = λ v a h. ⊎_elim (λ j. old_place v a j) (λ j. own_place v a j) (listed_either vs _ v a h);
    binds_named = λ a x f. absurd (let h : None ≡ Some x = f in cc);
    binds_open = λ a x f. absurd (let h : None ≡ Some x = f in cc);
    bound_named = λ v u f. absurd (let h : None ≡ Some u = f in cc);
    order = tt;
    reads = tt;
    waits = s.waits;
    children = subst (λ (qs : List ℕ). GoalsSay (with_own (places_for n) w) (with_variables (places_for n) vs) [] qs [])
        (sym (no_process n 4000000000)) tt;
  }

pub try_leads : LawOfTry
try_leads w vs bound ops args at r t store formed s k next n words e given = record {
  state = record t { clause = k; next = next; slots = arguments args; bound = []; read = []; children = [] };
  stands = begins w vs bound n store args words given r t k next s;
  gives = λ m g. step bound ops args at (suc at) t _ (Try k next) m e (λ q. refl) g;
}

nil_argument : (w : Words) (vs : Addresses) (o : Option (Term Variable)) → o ≡ None → ExprSays w vs 6 (argument o)
nil_argument w vs o e = subst (λ (z : Option (Term Variable)). ExprSays w vs 6 (argument z)) (sym e) nil_is

pub started : LawOfStart
started w vs bound store = record {
  clause = refl;
  next = refl;
  behind = refl;
  slots = λ i. nil_argument w (vs ++ []) (slice_get [] i) refl;
  operators = λ i. kind_of (slice_get [] i);
  places = λ v a h. ⊎_elim (λ j. let k = store.says.word v a j in (k.0, k.1, place_says v k.0 (find bound v) k.2)) (λ j. absurd j)
      (listed_either vs [] v a h);
  binds_named = λ a x f. absurd (let h : None ≡ Some x = f in cc);
  binds_open = λ a x f. absurd (let h : None ≡ Some x = f in cc);
  bound_named = λ v u f. absurd (let h : None ≡ Some u = f in cc);
  order = tt;
  reads = tt;
  waits = record { all = λ j e. absurd e; only = λ a i. absurd i };
  children = tt;
}
  where
    place_says : (v : Variable) (x : ℕ) (o : Option (Term Variable)) → PlaceSays w vs x (find bound v)
        → PlaceSays w (vs ++ []) x (find (bound ++ []) v)
    place_says v x o h = subst (λ (z : Option (Term Variable)). PlaceSays w (vs ++ []) x z) (sym (same_map bound v))
        (subst (λ (l : Addresses). PlaceSays w l x (find bound v)) (sym (append-nil vs)) h)

pub leaves : LawOfLeaving
leaves w vs bound ops args at r t store formed s behind rs qs waits words named noted given =
    let b = begins w vs bound 0 store args words given r t r.clause r.next s in
    record {
      clause = s.clause;
      next = s.next;
      behind = refl;
      slots = b.slots;
      operators = b.operators;
      places = b.places;
      binds_named = b.binds_named;
      binds_open = b.binds_open;
      bound_named = b.bound_named;
      order = b.order;
      reads = tt;
      waits = read_among w vs bound r.pieces store r.waits waits rs t.earlier qs s.waits named noted;
      children = tt;
    }

pub clears : LawOfClearing
clears w vs bound ops args at r t store formed s words given = record {
  clause = s.clause;
  next = s.next;
  behind = s.behind;
  slots = λ i. expr_on _ _ _ _ (λ a x e f. store_word w r.pieces a x (store.low a x e) e)
      (λ v a h. listed_left vs (numbered 1 (place_words 4000000000 r.pieces)) v a h) (words i) (arguments args i) (given i);
  operators = λ i. kind_of (slice_get args i);
  places = s.places;
  binds_named = s.binds_named;
  binds_open = s.binds_open;
  bound_named = s.bound_named;
  order = s.order;
  reads = s.reads;
  waits = s.waits;
  children = s.children;
}
