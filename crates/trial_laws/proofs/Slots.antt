-- The words of slots, and a word that is put into a slot.
use Rattle.std.proofs.Common.{◌≡◌, ℕ, suc, ◌+◌, ◌<◌, ◌≤◌, Bool, true, false, cond, List, [], ◌∷◌, refl, sym, ap, ◌∙◌, subst, inl, inr}
use Rattle.std.proofs.Common.{arith, Option, Some}
use Rattle.std.specs.Prelude.{slice_get, nat_eq}
use Rattle.fcp_model.specs.Places.{Variable, own}
use Rattle.fcp_model.specs.Terms.{Term, number, string, nil, cons, tuple, var, ro, first, Bindings}
use Rattle.fcp_model.specs.Expressions.{Expr, leaf, op}
use Rattle.fcp_model.proofs.MoreSteps.{Grows, at_least}
use Rattle.heap_words.specs.Cells.{decoded}
use Rattle.heap_words.specs.declared.cell.Cell.TheVariants.{Ref, RoRef, Small, Wide, Str, Nil, Cons, Tuple, Raw}
use Rattle.heap_words.proofs.Encodings.{decoded_encoded}
use Rattle.word_states.specs.Words.{Words}
use Rattle.word_states.specs.Denoting.{Addresses, Listed, Denotes, ExprSays}
use Rattle.word_states.specs.Pieces.{StartsAt, place_words, numbered, with_own, with_variables}
use Rattle.word_states.proofs.Pieces.{located_starts, variable_at, the_place}
use Rattle.machine_code.specs.Slots.{as_term}
use Rattle.machine_code.specs.Instructions.{Op}
use Rattle.machine_code.specs.Machine.{Trying, Meaning, Go, given, follow, obey, put_in}
use Rattle.machine_code.proofs.Follows.{follow_more}
use Rattle.trial_laws.specs.AtHand.{AtHand, term_word, is_operator, end_of, ArePieces, StandsForTry, Gives}
use Rattle.trial_laws.specs.Laws.{holding}
use Rattle.trial_laws.proofs.Pieces.{starts_below}

-- one instruction more
pub step : (s : Bindings) (ops : List Op) (args : List (Term Variable)) (at at' : ℕ) (t t' : Trying) (o : Op) (d : Meaning)
    → slice_get ops at ≡ Some o → ((n : ℕ) → obey (follow n s ops args) n s args at t (Some o) ≡ follow n s ops args at' t')
    → Gives s ops args at' t' d → Gives s ops args at t d
step s ops args at at' t t' o d e same g =
    (suc g.0, ap (obey (follow g.0 s ops args) g.0 s args at t) e ∙ (same g.0 ∙ g.1))

-- One instruction more that asks for a value in a bounded number of steps.
pub step_given : {X : Type 0} (s : Bindings) (ops : List Op) (args : List (Term Variable)) (at at' : ℕ) (t t' : Trying) (o : Op)
    (f : ℕ → Option X) (h : Go → X → Option Meaning) (x : X) (d : Meaning) → slice_get ops at ≡ Some o → Grows f
    → ((n : ℕ) → obey (follow n s ops args) n s args at t (Some o) ≡ given (f n) (h (follow n s ops args)))
    → ((n : ℕ) → h (follow n s ops args) x ≡ follow n s ops args at' t') → (k : ℕ) → f k ≡ Some x → Gives s ops args at' t' d
    → Gives s ops args at t d
step_given s ops args at at' t t' o f h x d e grows asks same k is g = (
  suc (k + g.0),
  ap (obey (follow (k + g.0) s ops args) (k + g.0) s args at t) e
      ∙ (asks (k + g.0)
      ∙ (ap (λ z. given z (h (follow (k + g.0) s ops args))) (at_least f grows k (k + g.0) (omega arith) x is)
      ∙ (same (k + g.0) ∙ at_least (λ n. follow n s ops args at' t') (follow_more s ops args at' t') g.0 (k + g.0) (omega arith) d g.1))),
)

pub nil_is : decoded 6 ≡ Some Nil
nil_is = decoded_encoded Nil tt

-- the word says what the slot is to hold
pub put_stands : (w : Words) (vs : Addresses) (bound : Bindings) (r : AtHand) (t : Trying) (i x : ℕ) (u : Expr Variable)
    → StandsForTry w vs bound r t → ExprSays (with_own r.pieces w) (with_variables r.pieces vs) x u
    → StandsForTry w vs bound (holding r i x (is_operator u)) (put_in t i u)
put_stands w vs bound r t i x u s h = record {
  clause = s.clause;
  next = s.next;
  behind = s.behind;
  slots = λ j. at_slot j (nat_eq j i);
  operators = λ j. of_kind j (nat_eq j i);
  places = s.places;
  binds_named = s.binds_named;
  binds_open = s.binds_open;
  bound_named = s.bound_named;
  order = s.order;
  reads = s.reads;
  waits = s.waits;
  children = s.children;
}
  where
    at_slot : (j : ℕ) (b : Bool) → ExprSays (with_own r.pieces w) (with_variables r.pieces vs) (cond b x (r.slots j)) (cond b u (t.slots j))
    at_slot j true = h
    at_slot j false = s.slots j

    of_kind : (j : ℕ) (b : Bool) → cond b (is_operator u) (r.operators j) ≡ is_operator (cond b u (t.slots j))
    of_kind j true = refl
    of_kind j false = s.operators j

-- the term of a slot
pub term_says : (w : Words) (vs : Addresses) (bound : Bindings) (r : AtHand) (t : Trying) (i : ℕ) → StandsForTry w vs bound r t
    → Denotes (with_own r.pieces w) (with_variables r.pieces vs) (term_word r i) (as_term (t.slots i))
term_says w vs bound r t i s = go (r.operators i) (t.slots i) (s.operators i) (s.slots i)
  where
    go : (b : Bool) (x : Expr Variable) → b ≡ is_operator x → ExprSays (with_own r.pieces w) (with_variables r.pieces vs) (r.slots i) x
        → Denotes (with_own r.pieces w) (with_variables r.pieces vs) (cond b 6 (r.slots i)) (as_term x)
    go false (leaf u) e h = h
    go true (op o a b) e h = nil_is
    go true (leaf u) e h = cc
    go false (op o a b) e h = cc

-- no term's word is a `Raw`
pub raw_term : (w : Words) (vs : Addresses) (x : ℕ) (u : Term Variable) (n : ℕ) → decoded x ≡ Some (Raw n) → Denotes w vs x u → ⊥
raw_term w vs x (number z) n d (inl h) = let k : Some (Raw n) ≡ Some (Small z) = sym d ∙ h in cc
raw_term w vs x (number z) n d (inr h) = let k : Some (Raw n) ≡ Some (Wide h.0 h.1) = sym d ∙ h.3 in cc
raw_term w vs x (string s) n d h = let k : Some (Raw n) ≡ Some (Str (record { 0 = s })) = sym d ∙ h in cc
raw_term w vs x nil n d h = let k : Some (Raw n) ≡ Some Nil = sym d ∙ h in cc
raw_term w vs x (cons a b) n d h = let k : Some (Raw n) ≡ Some (Cons h.0) = sym d ∙ h.3 in cc
raw_term w vs x (tuple ts) n d h = let k : Some (Raw n) ≡ Some (Tuple h.0) = sym d ∙ h.1 in cc
raw_term w vs x (var v) n d h = let k : Some (Raw n) ≡ Some (Ref h.0) = sym d ∙ h.1 in cc
raw_term w vs x (ro v) n d h = let k : Some (Raw n) ≡ Some (RoRef h.0) = sym d ∙ h.1 in cc
raw_term w vs x (first k) n d h = absurd h

-- an own place's address, and its piece
pub own_place : (ps : List (List ℕ)) → ArePieces ps → (v : Variable) (a : ℕ) → Listed (numbered 1 (place_words 4000000000 ps)) v a
    → (k s x : ℕ) × (v ≡ own k) × (a ≡ suc s) × StartsAt 4000000000 ps s (0 ∷ x ∷ []) × (a < 0x100000000)
own_place ps formed v a l =
    let q = variable_at 1 1 4000000000 ps v a l in
    let h : StartsAt 4000000000 ps q.2 q.3 = located_starts 1 1 4000000000 ps q.0 q.1 q.2 q.3 q.5 in
    let p = the_place q.3 (formed.each q.2 q.3 h) q.6 in
    let k : StartsAt 4000000000 ps q.2 (0 ∷ p.0 ∷ []) = subst (λ (m : List ℕ). StartsAt 4000000000 ps q.2 m) p.1 h in
    let b : q.2 + 2 ≤ end_of 4000000000 ps = starts_below 4000000000 ps q.2 (0 ∷ p.0 ∷ []) k in
    let f : end_of 4000000000 ps ≤ 0x100000000 = formed.few in
    let e : a ≡ suc q.2 = q.7 in
    (q.0, q.2, p.0, q.4, e, k, omega arith)
