-- What stands for a try does so with one piece more.
use Rattle.std.proofs.Common.{◌≡◌, ℕ, false, List, [], ◌∷◌, ◌++◌, sym, subst, Option, Some, None}
use Rattle.fcp_model.specs.Places.{Variable}
use Rattle.fcp_model.specs.Terms.{Bindings, find}
use Rattle.fcp_model.specs.Programs.{Goal}
use Rattle.heap_words.specs.Trails.{word_at}
use Rattle.word_states.specs.Words.{Words, first_of, over, Grows}
use Rattle.word_states.specs.Denoting.{Addresses, Listed}
use Rattle.word_states.specs.Pieces.{is_place, is_process, process_words, numbered, with_own, with_variables}
use Rattle.word_states.proofs.Persisting.{expr_on}
use Rattle.machine_code.specs.Machine.{Trying}
use Rattle.trial_laws.specs.AtHand.{AtHand, GoalsSay, IsStore, StandsForTry}
use Rattle.trial_laws.proofs.Pieces.{places_left, processes_left, more_words, place_on, goals_on, named_on}

-- the piece is no place
module _ (w : Words) (vs : Addresses) (bound : Bindings) (r : AtHand) (t : Trying) (store : IsStore w vs bound)
    (s : StandsForTry w vs bound r t) (p : List ℕ) (no_place : is_place p ≡ false) where
  pub grows_by : Grows (with_own r.pieces w) (with_own (r.pieces ++ p ∷ []) w)
  grows_by a x e f = more_words w r.pieces (p ∷ []) store.low a x e

  pub listed_on : (v : Variable) (a : ℕ) → Listed (with_variables r.pieces vs) v a → Listed (with_variables (r.pieces ++ p ∷ []) vs) v a
  listed_on v a h = subst (λ (l : List ℕ). Listed (vs ++ numbered 1 l) v a) (sym (places_left 4000000000 r.pieces p no_place)) h

  listed_back : (v : Variable) (a : ℕ) → Listed (with_variables (r.pieces ++ p ∷ []) vs) v a → Listed (with_variables r.pieces vs) v a
  listed_back v a h = subst (λ (l : List ℕ). Listed (vs ++ numbered 1 l) v a) (places_left 4000000000 r.pieces p no_place) h

  over_on : (a x : ℕ) → over r.binds (with_own r.pieces w) a ≡ Some x → over r.binds (with_own (r.pieces ++ p ∷ []) w) a ≡ Some x
  over_on a x e = go (word_at r.binds a) e
    where
      go : (o : Option ℕ) → first_of o (with_own r.pieces w a) ≡ Some x → first_of o (with_own (r.pieces ++ p ∷ []) w a) ≡ Some x
      go None f = more_words w r.pieces (p ∷ []) store.low a x f
      go (Some y) f = f

  -- the children say what they said
  pub children_on : GoalsSay (with_own (r.pieces ++ p ∷ []) w) (with_variables (r.pieces ++ p ∷ []) vs) t.bound
      (process_words 4000000000 r.pieces) t.children
  children_on = goals_on _ _ _ _ _ _ grows_by listed_on (λ v u e. e) _ t.children s.children

  -- with these children
  pub grown_with : (cs : List (Goal Variable))
      → GoalsSay (with_own (r.pieces ++ p ∷ []) w) (with_variables (r.pieces ++ p ∷ []) vs) t.bound (process_words 4000000000
      (r.pieces ++ p ∷ [])) cs
      → StandsForTry w vs bound (record r { pieces = r.pieces ++ p ∷ [] }) (record t { children = cs })
  grown_with cs say = record {
    clause = s.clause;
    next = s.next;
    behind = s.behind;
    slots = λ i. expr_on _ _ _ _ grows_by listed_on (r.slots i) (t.slots i) (s.slots i);
    operators = s.operators;
    places = λ v a h. let k = s.places v a (listed_back v a h) in
        (k.0, over_on a k.0 k.1, place_on _ _ _ _ grows_by listed_on k.0 (find (bound ++ t.bound) v) k.2);
    binds_named = λ a x e. let k = s.binds_named a x e in (k.0, k.1, listed_on k.0 a k.2, k.3);
    binds_open = λ a x e. let k = s.binds_open a x e in (k.0, (k.1.0, more_words w r.pieces (p ∷ []) store.low a k.1.0 k.1.1, k.1.2));
    bound_named = λ v u e. let k = s.bound_named v u e in (k.0, (k.1.0, listed_on v k.1.0 k.1.1));
    order = s.order;
    reads = named_on _ _ listed_on r.reads t.read s.reads;
    waits = s.waits;
    children = say;
  }

  -- it is no process either
  pub grown : is_process p ≡ false → StandsForTry w vs bound (record r { pieces = r.pieces ++ p ∷ [] }) t
  grown no_process =
      grown_with t.children
      (subst (λ (qs : List ℕ). GoalsSay (with_own (r.pieces ++ p ∷ []) w) (with_variables (r.pieces ++ p ∷ []) vs) t.bound qs t.children)
      (sym (processes_left 4000000000 r.pieces p no_process)) children_on)
