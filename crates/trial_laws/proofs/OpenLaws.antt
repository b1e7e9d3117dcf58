-- The laws of the instructions that open a value.
use Rattle.std.proofs.Common.{◌≡◌, ℕ, suc, ◌+◌, Bool, true, false, cond, ◌++◌, refl, sym, ap, ◌∙◌, subst, Option, Some, None}
use Rattle.std.specs.Prelude.{nat_eq, option_map}
use Rattle.std.proofs.lemmas.Bool.{eqb-true, eq-eqb}
use Rattle.fcp_model.specs.Places.{Variable}
use Rattle.fcp_model.specs.Terms.{Term, number, string, nil, cons, tuple, var, ro, first, Terms, none, more, Bindings}
use Rattle.fcp_model.specs.Expressions.{leaf}
use Rattle.fcp_model.specs.Value.{value, solid, writable, read_only}
use Rattle.fcp_model.specs.Value as terms
use Rattle.fcp_model.proofs.MoreSteps.{value_more}
use Rattle.heap_words.specs.Cells.{decoded}
use Rattle.heap_words.specs.Trails.{Memory}
use Rattle.heap_words.specs.declared.cell.Cell.{Cell}
use Rattle.heap_words.specs.declared.cell.Cell.TheVariants as cell
use Rattle.ro_unify.specs.declared.look.Look.{Look}
use Rattle.ro_unify.specs.declared.look.Look.TheVariants as look
use Rattle.ro_unify.specs.Occurs.{words_after}
use Rattle.word_states.specs.Words.{Words}
use Rattle.word_states.specs.Denoting.{Addresses}
use Rattle.word_states.specs.Numbers.{part_count}
use Rattle.word_states.specs.Pieces.{with_own, with_variables}
use Rattle.unify_terms.specs.Denotes.{Naming, NumberIn, LookIs, HasValue}
use Rattle.unify_terms.specs.Denotes as unified
use Rattle.unify_terms.specs.WordsOfTries.{memory_of, naming}
use Rattle.unify_terms.proofs.ValuesOfWords.{values_so, value_is}
use Rattle.machine_code.specs.Slots.{as_term, hold, hold_all}
use Rattle.machine_code.specs.Instructions.{GetCons, GetTuple}
use Rattle.machine_code.specs.Machine.{Trying, Go, Meaning, opened, count, put_in}
use Rattle.machine_code.specs.Machine as machine
use Rattle.trial_laws.specs.AtHand.{AtHand, term_word, ArePieces, IsStore, StandsForTry}
use Rattle.trial_laws.specs.Laws.{holding}
use Rattle.trial_laws.specs.Opening.{pair_in, pair_at, is_count, tuple_in, tuple_at, holding_all, LookAt, LawOfPairOpened, LawOfNoPair}
use Rattle.trial_laws.specs.Opening.{LawOfTupleOpened, LawOfNoTuple}
use Rattle.trial_laws.proofs.Slots.{step_given, put_stands, term_says}
use Rattle.trial_laws.proofs.Seen.{sees, say, stands}

-- the parts of a term that is a pair
abbrev PairOf : Naming → Memory → ℕ → terms.Look → Type 0
PairOf p m c k = (a b : Term Variable) × (k ≡ solid (cons a b)) × unified.Denotes p m a (m c) × unified.Denotes p m b (m (c + 1))

no_number : (m : Memory) (d : Cell) (z : _) → NumberIn m d z → pair_in (Some d) ≡ None
no_number m (cell.Small y) z h = refl
no_number m (cell.Wide a k) z h = refl
no_number m (cell.Unbound a) z h = refl
no_number m (cell.Ref a) z h = refl
no_number m (cell.RoRef a) z h = refl
no_number m (cell.Str s) z h = refl
no_number m cell.Nil z h = refl
no_number m (cell.Cons a) z h = absurd h
no_number m (cell.Tuple a) z h = refl
no_number m (cell.Status d) z h = refl
no_number m (cell.Raw n) z h = refl
no_number m (cell.Top a) z h = refl

no_pair : {o : Option ℕ} {c : ℕ} → o ≡ None → o ≡ Some c → ⊥
no_pair e f = cc

-- a word with the parts of a pair stands for a pair
solid_pair : (p : Naming) (m : Memory) (c x : ℕ) (t : Term Variable) → unified.Denotes p m t x → pair_in (decoded x) ≡ Some c
    → PairOf p m c (solid t)
solid_pair p m c x (number z) d e = absurd (no_pair (ap pair_in d.1 ∙ no_number m d.0 z d.2) e)
solid_pair p m c x (string s) d e = absurd (no_pair (ap pair_in d.1) e)
solid_pair p m c x nil d e = absurd (no_pair (ap pair_in d) e)
solid_pair p m c x (cons a b) d e =
    let f : Some d.0 ≡ Some c = sym (ap pair_in d.1) ∙ e in
    let g : d.0 ≡ c = cc in (
      a,
      b,
      refl,
      subst (λ (z : ℕ). unified.Denotes p m a (m z)) g d.2,
      subst (λ (z : ℕ). unified.Denotes p m b (m (z + 1))) g d.3,
    )
solid_pair p m c x (tuple ts) d e = absurd (no_pair (ap pair_in d.1) e)
solid_pair p m c x (var v) d e = absurd (no_pair (ap pair_in d.1) e)
solid_pair p m c x (ro v) d e = absurd (no_pair (ap pair_in d.1) e)
solid_pair p m c x (first k) d e = absurd d

look_pair : (p : Naming) (m : Memory) (c : ℕ) (l : Look) (k : terms.Look) → LookIs p m l k → pair_at l ≡ Some c → PairOf p m c k
look_pair p m c (look.Solid x) (solid t) h e = solid_pair p m c x t h e
look_pair p m c (look.Solid x) (writable v) h e = absurd h
look_pair p m c (look.Solid x) (read_only v) h e = absurd h
look_pair p m c (look.Writable a) k h e = cc
look_pair p m c (look.ReadOnly a) k h e = cc

-- and a value without them is no pair
solid_none : (p : Naming) (m : Memory) (x : ℕ) (t : Term Variable) → unified.Denotes p m t x → pair_in (decoded x) ≡ None
    → machine.pair_in (solid t) ≡ None
solid_none p m x (number z) d e = refl
solid_none p m x (string s) d e = refl
solid_none p m x nil d e = refl
solid_none p m x (cons a b) d e = absurd (no_pair e (ap pair_in d.1))
solid_none p m x (tuple ts) d e = refl
solid_none p m x (var v) d e = refl
solid_none p m x (ro v) d e = refl
solid_none p m x (first k) d e = refl

look_none : (p : Naming) (m : Memory) (l : Look) (k : terms.Look) → LookIs p m l k → pair_at l ≡ None → machine.pair_in k ≡ None
look_none p m (look.Solid x) (solid t) h e = solid_none p m x t h e
look_none p m (look.Solid x) (writable v) h e = refl
look_none p m (look.Solid x) (read_only v) h e = refl
look_none p m (look.Writable a) (writable v) h e = refl
look_none p m (look.Writable a) (read_only v) h e = refl
look_none p m (look.Writable a) (solid t) h e = absurd h
look_none p m (look.ReadOnly a) (writable v) h e = refl
look_none p m (look.ReadOnly a) (read_only v) h e = refl
look_none p m (look.ReadOnly a) (solid t) h e = absurd h

-- the same of tuples
count_same : (ts : Terms Variable) → count ts ≡ part_count ts
count_same none = refl
count_same (more t ts) = ap suc (count_same ts)

abbrev TupleOf : Naming → Memory → ℕ → ℕ → terms.Look → Type 0
TupleOf p m n c k = (ts : Terms Variable) × (k ≡ solid (tuple ts)) × (count ts ≡ n) × unified.DenotesAll p m ts c

no_number_tuple : (m : Memory) (n : ℕ) (d : Cell) (z : _) → NumberIn m d z → tuple_in m n (Some d) ≡ None
no_number_tuple m n (cell.Small y) z h = refl
no_number_tuple m n (cell.Wide a k) z h = refl
no_number_tuple m n (cell.Unbound a) z h = refl
no_number_tuple m n (cell.Ref a) z h = refl
no_number_tuple m n (cell.RoRef a) z h = refl
no_number_tuple m n (cell.Str s) z h = refl
no_number_tuple m n cell.Nil z h = refl
no_number_tuple m n (cell.Cons a) z h = refl
no_number_tuple m n (cell.Tuple a) z h = absurd h
no_number_tuple m n (cell.Status d) z h = refl
no_number_tuple m n (cell.Raw k) z h = refl
no_number_tuple m n (cell.Top a) z h = refl

-- of a tuple the number of parts decides
tuple_here : (m : Memory) (n a x k : ℕ) → decoded x ≡ Some (cell.Tuple a) → decoded (m a) ≡ Some (cell.Raw k)
    → tuple_in m n (decoded x) ≡ cond (nat_eq k n) (Some a) None
tuple_here m n a x k e f = ap (tuple_in m n) e ∙ ap (λ (o : Option Cell). cond (is_count n o) (Some a) None) f

solid_tuple : (p : Naming) (m : Memory) (n c x : ℕ) (t : Term Variable) → unified.Denotes p m t x → tuple_in m n (decoded x) ≡ Some c
    → TupleOf p m n c (solid t)
solid_tuple p m n c x (number z) d e = absurd (no_pair (ap (tuple_in m n) d.1 ∙ no_number_tuple m n d.0 z d.2) e)
solid_tuple p m n c x (string s) d e = absurd (no_pair (ap (tuple_in m n) d.1) e)
solid_tuple p m n c x nil d e = absurd (no_pair (ap (tuple_in m n) d) e)
solid_tuple p m n c x (cons a b) d e = absurd (no_pair (ap (tuple_in m n) d.1) e)
solid_tuple p m n c x (tuple ts) d e =
    go (nat_eq (part_count ts) n) refl (sym (tuple_here m n d.0 x (part_count ts) d.1 d.2) ∙ e)
  where
    go : (b : Bool) → nat_eq (part_count ts) n ≡ b → cond (nat_eq (part_count ts) n) (Some d.0) None ≡ Some c
        → TupleOf p m n c (solid (tuple ts))
    go true f g =
        let h : Some d.0 ≡ Some c = sym (ap (λ (b : Bool). cond b (Some d.0) None) f) ∙ g in
        let i : d.0 ≡ c = cc in
        (ts, refl, count_same ts ∙ eqb-true (part_count ts) n f, subst (unified.DenotesAll p m ts) i d.4)
    go false f g = absurd (no_pair (ap (λ (b : Bool). cond b (Some d.0) None) f) g)
solid_tuple p m n c x (var v) d e = absurd (no_pair (ap (tuple_in m n) d.1) e)
solid_tuple p m n c x (ro v) d e = absurd (no_pair (ap (tuple_in m n) d.1) e)
solid_tuple p m n c x (first k) d e = absurd d

look_tuple : (p : Naming) (m : Memory) (n c : ℕ) (l : Look) (k : terms.Look) → LookIs p m l k → tuple_at m n l ≡ Some c → TupleOf p m n c k
look_tuple p m n c (look.Solid x) (solid t) h e = solid_tuple p m n c x t h e
look_tuple p m n c (look.Solid x) (writable v) h e = absurd h
look_tuple p m n c (look.Solid x) (read_only v) h e = absurd h
look_tuple p m n c (look.Writable a) k h e = cc
look_tuple p m n c (look.ReadOnly a) k h e = cc

solid_no_tuple : (p : Naming) (m : Memory) (n x : ℕ) (t : Term Variable) → unified.Denotes p m t x → tuple_in m n (decoded x) ≡ None
    → machine.tuple_in n (solid t) ≡ None
solid_no_tuple p m n x (number z) d e = refl
solid_no_tuple p m n x (string s) d e = refl
solid_no_tuple p m n x nil d e = refl
solid_no_tuple p m n x (cons a b) d e = refl
solid_no_tuple p m n x (tuple ts) d e =
    ap (λ (k : ℕ). cond (nat_eq k n) (Some ts) None) (count_same ts)
    ∙ go (nat_eq (part_count ts) n) refl (sym (tuple_here m n d.0 x (part_count ts) d.1 d.2) ∙ e)
  where
    go : (b : Bool) → nat_eq (part_count ts) n ≡ b → cond (nat_eq (part_count ts) n) (Some d.0) None ≡ None
        → cond (nat_eq (part_count ts) n) (Some ts) None ≡ None
    go true f g = absurd (no_pair g (ap (λ (b : Bool). cond b (Some d.0) None) f))
    go false f g = ap (λ (b : Bool). cond b (Some ts) None) f
solid_no_tuple p m n x (var v) d e = refl
solid_no_tuple p m n x (ro v) d e = refl
solid_no_tuple p m n x (first k) d e = refl

look_no_tuple : (p : Naming) (m : Memory) (n : ℕ) (l : Look) (k : terms.Look) → LookIs p m l k → tuple_at m n l ≡ None
    → machine.tuple_in n k ≡ None
look_no_tuple p m n (look.Solid x) (solid t) h e = solid_no_tuple p m n x t h e
look_no_tuple p m n (look.Solid x) (writable v) h e = refl
look_no_tuple p m n (look.Solid x) (read_only v) h e = refl
look_no_tuple p m n (look.Writable a) (writable v) h e = refl
look_no_tuple p m n (look.Writable a) (read_only v) h e = refl
look_no_tuple p m n (look.Writable a) (solid t) h e = absurd h
look_no_tuple p m n (look.ReadOnly a) (writable v) h e = refl
look_no_tuple p m n (look.ReadOnly a) (read_only v) h e = refl
look_no_tuple p m n (look.ReadOnly a) (solid t) h e = absurd h

-- the value of a slot's term
module _ (w : Words) (vs : Addresses) (bound : Bindings) (r : AtHand) (t : Trying) (store : IsStore w vs bound)
    (formed : ArePieces r.pieces)
    (s : StandsForTry w vs bound r t) where
  abbrev M : Memory
  M = memory_of (with_own r.pieces w)

  abbrev P : Naming
  P = naming (with_variables r.pieces vs)

  pub has_value : (i : ℕ) (l : Look) → LookAt r (memory_of (with_own r.pieces w)) i l
      → HasValue (naming (with_variables r.pieces vs)) (memory_of (with_own r.pieces w)) (bound ++ t.bound) false (as_term (t.slots i)) l
  has_value i l v =
      values_so P r.binds M (bound ++ t.bound) (stands w vs bound r t store formed s) false (term_word r i) l v (as_term (t.slots i))
      ((sees w vs bound r t store formed s).denotes (term_word r i) (as_term (t.slots i)) (term_says w vs bound r t i s))

  pub value_found : (i : ℕ) (l : Look) (v : LookAt r (memory_of (with_own r.pieces w)) i l)
      → value (has_value i l v).steps (bound ++ t.bound) (as_term (t.slots i)) ≡ Some (has_value i l v).look
  value_found i l v = let h = has_value i l v in value_is P M h.steps (bound ++ t.bound) (as_term (t.slots i)) ∙ h.value

  -- a word of a part goes into a slot
  pub part_put : (j x : ℕ) (u : Term Variable) → unified.Denotes (naming (with_variables r.pieces vs)) (memory_of (with_own r.pieces w)) u x
      → StandsForTry w vs bound (holding r j x false) (put_in t j (leaf u))
  part_put j x u d = put_stands w vs bound r t j x (leaf u) s ((say w vs bound r t store formed s).denotes x u d)

pub pair_opens : LawOfPairOpened
pair_opens w vs bound ops args at r t store formed s i left right put c l e v o =
    let h = has_value w vs bound r t store formed s i l v in
    let m = memory_of (with_own r.pieces w) in
    let k = look_pair (naming (with_variables r.pieces vs)) (memory_of (with_own r.pieces w)) c l h.look h.is o in
    let one = part_put w vs bound r t store formed s left (memory_of (with_own r.pieces w) c) k.0 k.3 in
    record {
      state = put_in (put_in t left (leaf k.0)) right (leaf k.1);
      stands = part_put w vs bound (holding r left (memory_of (with_own r.pieces w) c) false) (put_in t left
          (leaf k.0)) store formed one right
          (memory_of (with_own r.pieces w) (c + 1)) k.1 k.4;
      gives = λ d g. step_given bound ops args at (suc at) t _ (GetCons i left right put)
          (λ n. value n (bound ++ t.bound) (as_term (t.slots i)))
          (λ go x. opened go at t put (option_map (λ ab. hold (hold t.slots left (leaf ab.0)) right (leaf ab.1)) (machine.pair_in x)))
          h.look d e (value_more (bound ++ t.bound) (as_term (t.slots i))) (λ n. refl)
          (λ n. ap (λ (x : terms.Look). opened (machine.follow n bound ops args) at t put
          (option_map (λ ab. hold (hold t.slots left (leaf ab.0)) right (leaf ab.1)) (machine.pair_in x))) k.2)
          h.steps (value_found w vs bound r t store formed s i l v) g;
    }

pub pair_stays : LawOfNoPair
pair_stays w vs bound ops args at r t store formed s i left right put l e v o =
    let h = has_value w vs bound r t store formed s i l v in
    record {
      state = t;
      stands = s;
      gives = λ d g. step_given bound ops args at put t t (GetCons i left right put)
          (λ n. value n (bound ++ t.bound) (as_term (t.slots i)))
          (λ go x. opened go at t put (option_map (λ ab. hold (hold t.slots left (leaf ab.0)) right (leaf ab.1)) (machine.pair_in x)))
          h.look d e (value_more (bound ++ t.bound) (as_term (t.slots i))) (λ n. refl)
          (λ n. ap (λ (x : Option (Term Variable × Term Variable)). opened (machine.follow n bound ops args) at t put
          (option_map (λ ab. hold (hold t.slots left (leaf ab.0)) right (leaf ab.1)) x))
          (look_none (naming (with_variables r.pieces vs)) (memory_of (with_own r.pieces w)) l h.look h.is o))
          h.steps (value_found w vs bound r t store formed s i l v) g;
    }

-- the words of a tuple's parts go into slots
parts_put : (w : Words) (vs : Addresses) (bound : Bindings) (r : AtHand) (t : Trying) → IsStore w vs bound → ArePieces r.pieces
    → StandsForTry w vs bound r t → (i c : ℕ) (ts : Terms Variable)
    → unified.DenotesAll (naming (with_variables r.pieces vs)) (memory_of (with_own r.pieces w)) ts c
    → StandsForTry w vs bound (holding_all r i (words_after (memory_of (with_own r.pieces w)) c (count ts)))
    (record t { slots = hold_all t.slots i ts })
parts_put w vs bound r t store formed s i c none d = s
parts_put w vs bound r t store formed s i c (more u ts) d =
    parts_put w vs bound (holding r i (memory_of (with_own r.pieces w) (c + 1)) false) (put_in t i (leaf u)) store formed
    (part_put w vs bound r t store formed s i (memory_of (with_own r.pieces w) (c + 1)) u d.0) (suc i) (c + 1) ts d.1

pub tuple_opens : LawOfTupleOpened
tuple_opens w vs bound ops args at r t store formed s i from parts put c l e v o =
    let h = has_value w vs bound r t store formed s i l v in
    let k = look_tuple (naming (with_variables r.pieces vs)) (memory_of (with_own r.pieces w)) parts c l h.look h.is o in
    let found : machine.tuple_in parts h.look ≡ Some k.0 =
    ap (machine.tuple_in parts) k.1 ∙ ap (λ (b : Bool). cond b (Some k.0) None) (eq-eqb (count k.0) parts k.2) in
    record {
      state = record t { slots = hold_all t.slots from k.0 };
      stands = subst
          (λ (n : ℕ). StandsForTry w vs bound (holding_all r from (words_after (memory_of (with_own r.pieces w)) c n))
          (record t { slots = hold_all t.slots from k.0 })) k.2
          (parts_put w vs bound r t store formed s from c k.0 k.3);
      gives = λ d g. step_given bound ops args at (suc at) t _ (GetTuple i from parts put)
          (λ n. value n (bound ++ t.bound) (as_term (t.slots i)))
          (λ go x. opened go at t put (option_map (hold_all t.slots from) (machine.tuple_in parts x)))
          h.look d e (value_more (bound ++ t.bound) (as_term (t.slots i))) (λ n. refl)
          (λ n. ap (λ (x : Option (Terms Variable)). opened (machine.follow n bound ops args) at t put
          (option_map (hold_all t.slots from) x)) found)
          h.steps (value_found w vs bound r t store formed s i l v) g;
    }

pub tuple_stays : LawOfNoTuple
tuple_stays w vs bound ops args at r t store formed s i from parts put l e v o =
    let h = has_value w vs bound r t store formed s i l v in
    record {
      state = t;
      stands = s;
      gives = λ d g. step_given bound ops args at put t t (GetTuple i from parts put)
          (λ n. value n (bound ++ t.bound) (as_term (t.slots i)))
          (λ go x. opened go at t put (option_map (hold_all t.slots from) (machine.tuple_in parts x)))
          h.look d e (value_more (bound ++ t.bound) (as_term (t.slots i))) (λ n. refl)
          (λ n. ap (λ (x : Option (Terms Variable)). opened (machine.follow n bound ops args) at t put
          (option_map (hold_all t.slots from) x))
          (look_no_tuple (naming (with_variables r.pieces vs)) (memory_of (with_own r.pieces w)) parts l h.look h.is o))
          h.steps (value_found w vs bound r t store formed s i l v) g;
    }
