-- The laws of the ends of a trial.
use Rattle.std.proofs.Common.{◌≡◌, ℕ, suc, ◌+◌, ◌<◌, true, List, [], ◌∷◌, ◌++◌, length, map, refl, sym, ap, ◌∙◌, subst, ⊎_elim}
use Rattle.std.proofs.Common.{arith, true≢false, Option, Some, None}
use Rattle.std.specs.Prelude.{unwrap_or}
use Rattle.std.proofs.lemmas.Option.{same_Some}
use Rattle.fcp_model.specs.declared.run.Place.{Place}
use Rattle.fcp_model.specs.Places.{Variable, made, own}
use Rattle.fcp_model.specs.Terms.{Term, Bindings, find}
use Rattle.fcp_model.specs.Programs.{Goal, Program, Clause, rename_goal}
use Rattle.fcp_model.specs.Decisions.{Decision, commits, Decides}
use Rattle.fcp_model.specs.Cells.{clause_used}
use Rattle.fcp_model.specs.Events.{vars_of, body_of}
use Rattle.fcp_model.proofs.Finding.{found_or, find-append}
use Rattle.heap_words.specs.Cells.{decoded, is_final_word, is_final_in}
use Rattle.heap_words.specs.Trails.{word_at}
use Rattle.heap_words.specs.declared.cell.Cell.TheVariants.{Unbound}
use Rattle.word_states.specs.Words.{Words, first_of, over, Grows}
use Rattle.word_states.specs.Denoting.{Addresses, Listed, Denotes}
use Rattle.word_states.specs.Standing.{PlaceSays, FreshSays}
use Rattle.word_states.specs.Pieces.{rows, place_words, process_words, numbered, IsPiece, ChildrenSay, with_own, with_variables}
use Rattle.word_states.specs.Trials.{CommitSays}
use Rattle.word_states.proofs.Lists.{listed_right}
use Rattle.word_states.proofs.Persisting.{denotes_final, denotes_on}
use Rattle.word_states.proofs.Pieces.{in_rows, rows_in}
use Rattle.machine_code.specs.Machine.{Trying, Meaning, follow, obey}
use Rattle.machine_code.specs.Correct.{body_used, children_by, decision_of}
use Rattle.trial_laws.specs.AtHand.{AtHand, ArePieces, GoalsSay, IsStore, StandsForTry}
use Rattle.trial_laws.specs.Endings.{settled_piece, settled, of_store, LawOfCommit}
use Rattle.trial_laws.proofs.Pieces.{either_word, piece_word, store_word, word_of_piece, goals_on}
use Rattle.trial_laws.proofs.Slots.{own_place}
use Rattle.trial_laws.proofs.TriedPlaces.{old_place, low_place}
use Rattle.trial_laws.proofs.FirstLaws.{names_once}
use Rattle.trial_laws.proofs.Settling.{starts_on, same_places, same_processes, get_settled, in_store, store_low, place_zero}

children_said : (u : Words) (us : Addresses) (bs : Bindings) (qs : List ℕ) (gs : List (Goal ℕ))
    → GoalsSay u us bs qs (map (rename_goal own) gs) → ChildrenSay u us bs qs gs
children_said u us bs [] [] h = tt
children_said u us bs (q ∷ qs) (g ∷ gs) h = (h.0, children_said u us bs qs gs h.1)
children_said u us bs [] (g ∷ gs) h = absurd h
children_said u us bs (q ∷ qs) [] h = absurd h

the_body : (o : Option Clause) → body_used o ≡ map (rename_goal own) (body_of o)
the_body None = refl
the_body (Some c) = refl

module _ (w : Words) (vs : Addresses) (bound : Bindings) (r : AtHand) (t : Trying) (store : IsStore w vs bound)
    (formed : ArePieces r.pieces)
    (s : StandsForTry w vs bound r t) where
  abbrev ps : List (List ℕ)
  ps = settled r.binds 4000000000 r.pieces

  abbrev U : Words
  U = with_own r.pieces w

  abbrev U' : Words
  U' = with_own (settled r.binds 4000000000 r.pieces) w

  abbrev V : Addresses
  V = with_variables r.pieces vs

  abbrev V' : Addresses
  V' = with_variables (settled r.binds 4000000000 r.pieces) vs

  -- a final word is that of no place that is bound privately
  not_bound : (c y : ℕ) → U c ≡ Some y → is_final_word y ≡ true → word_at r.binds c ≡ None
  not_bound c y e f = go (word_at r.binds c) refl
    where
      go : (o : Option ℕ) → word_at r.binds c ≡ o → word_at r.binds c ≡ None
      go None i = i
      go (Some x) i =
          absurd (let p = s.binds_open c x i in let h : p.1.0 ≡ y = same_Some _ _ (sym p.1.1 ∙ e) in
          true≢false (sym f ∙ (ap is_final_word (sym h) ∙ ap is_final_in p.1.2)))

  grows : Grows (with_own r.pieces w) (with_own (settled r.binds 4000000000 r.pieces) w)
  grows c y e f = ⊎_elim own_one (λ i. store_word w ps c y (store.low c y i) i) (either_word w r.pieces c y e)
    where
      own_one : word_at (rows 4000000000 r.pieces) c ≡ Some y → U' c ≡ Some y
      own_one i =
          let q = in_rows 4000000000 c y r.pieces i in
          let n : word_at r.binds (q.0 + q.1) ≡ None = subst (λ (d : ℕ). word_at r.binds d ≡ None) q.5 (not_bound c y e f) in
          piece_word w ps c y (subst (λ (d : ℕ). word_at (rows 4000000000 ps) d ≡ Some y) (sym q.5)
          (rows_in 4000000000 q.0 q.1 y ps (settled_piece r.binds q.0 q.2) (starts_on r.binds 4000000000 r.pieces q.0 q.2 q.3)
          (get_settled r.binds q.0 q.2 q.1 y q.6 n)))

  on : (v : Variable) (a : ℕ) → Listed (with_variables r.pieces vs) v a
      → Listed (with_variables (settled r.binds 4000000000 r.pieces) vs) v a
  on v a h = subst (λ (l : List ℕ). Listed (vs ++ numbered 1 l) v a) (sym (same_places r.binds 4000000000 r.pieces)) h

  full_map : (v : Variable) → find (bound ++ t.bound) v ≡ found_or (find bound v) (find t.bound v)
  full_map v = find-append bound t.bound v

  -- what a listed place that the try bound says
  bound_says : (v : Variable) (a : ℕ) (u : Term Variable) → Listed V v a → find t.bound v ≡ Some u
      → (x : ℕ) × (over r.binds U a ≡ Some x) × Denotes U V x u
  bound_says v a u h e =
      let p = s.places v a h in
      let f : find (bound ++ t.bound) v ≡ Some u =
      full_map v ∙ (ap (λ (o : Option (Term Variable)). found_or o (find t.bound v)) (s.bound_named v u e).0 ∙ e) in
      (p.0, p.1, subst (λ (o : Option (Term Variable)). PlaceSays U V p.0 o) f p.2)

  binds_all : (j : Place) (u : Term Variable) → find t.bound (made j) ≡ Some u → (a x : ℕ) × Listed vs (made j) a
      × (find bound (made j) ≡ None) × (word_at (of_store r.binds) a ≡ Some x) × Denotes U' V' x u
  binds_all j u e =
      let n = s.bound_named (made j) u e in
      let l : Listed vs (made j) n.1.0 = old_place w vs bound r.pieces store j n.1.0 n.1.1 in
      let p = bound_says (made j) n.1.0 u n.1.1 e in
      let k = store.says.word (made j) n.1.0 l in
      let low : n.1.0 < 4000000000 = store.low n.1.0 k.0 k.1 in (
        n.1.0,
        p.0,
        l,
        n.0,
        in_store r.binds n.1.0 low ∙ privately n.1.0 p.0 k.0 (word_at r.binds n.1.0) refl p.1 (store_word w r.pieces n.1.0 k.0 low k.1)
            (subst (λ (o : Option (Term Variable)). PlaceSays w vs k.0 o) n.0 k.2) (denotes_final U V p.0 u p.2),
        denotes_on _ _ _ _ grows on p.0 u p.2,
      )
    where
      privately : (a x y : ℕ) (o : Option ℕ) → word_at r.binds a ≡ o → over r.binds U a ≡ Some x → U a ≡ Some y → PlaceSays w vs y None
          → is_final_word x ≡ true → word_at r.binds a ≡ Some x
      privately a x y (Some z) i f g h k = i ∙ (sym (ap (λ (o : Option ℕ). first_of o (U a)) i) ∙ f)
      privately a x y None i f g h k =
          absurd (let q : x ≡ y = same_Some _ _ (sym f ∙ (ap (λ (o : Option ℕ). first_of o (U a)) i ∙ g)) in
          true≢false (sym k ∙ (ap is_final_word q ∙ ap is_final_in h.1)))

  binds_only : (a x : ℕ) → word_at (of_store r.binds) a ≡ Some x
      → (j : Place) × (u : Term Variable) × Listed vs (made j) a × (find t.bound (made j) ≡ Some u)
  binds_only a x e =
      let low : a < 4000000000 = store_low r.binds a x e in
      let n = s.binds_named a x (sym (in_store r.binds a low) ∙ e) in
      let o = low_place w vs bound r.pieces store n.0 a n.2 low in
      (o.0, n.1, subst (λ (z : Variable). Listed vs z a) o.1 o.2, subst (λ (z : Variable). find t.bound z ≡ Some n.1) o.1 n.3)

  -- the own places
  variable_says : (i a : ℕ) → Listed (numbered 1 (place_words 4000000000 r.pieces)) (own i) a
      → (x : ℕ) × (word_at (rows 4000000000 ps) a ≡ Some x) × FreshSays U' V' x (find t.bound (own i))
  variable_says i a l =
      let q = own_place r.pieces formed (own i) a l in
      let e : q.1 + 1 ≡ a = let f : a ≡ suc q.1 = q.4 in omega arith in
      let new : word_at (rows 4000000000 ps) a ≡ Some (unwrap_or (word_at r.binds (suc q.1)) q.2) =
      subst (λ (c : ℕ). word_at (rows 4000000000 ps) c ≡ Some (unwrap_or (word_at r.binds (suc q.1)) q.2)) e
      (rows_in 4000000000 q.1 1 _ ps _ (starts_on r.binds 4000000000 r.pieces q.1 (0 ∷ q.2 ∷ []) q.5) refl) in
      let was : U a ≡ Some q.2 =
      subst (λ (c : ℕ). U c ≡ Some q.2) e (word_of_piece w r.pieces q.1 1 q.2 (0 ∷ q.2 ∷ []) q.5 refl) in (
        unwrap_or (word_at r.binds a) q.2,
        subst (λ (c : ℕ). word_at (rows 4000000000 ps) a ≡ Some (unwrap_or (word_at r.binds c) q.2)) (sym q.4) new,
        says (word_at r.binds a) refl q.2 was (formed.each q.1 _ q.5) (find t.bound (own i)) refl,
      )
    where
      L : Listed (with_variables r.pieces vs) (own i) a
      L = listed_right vs (numbered 1 (place_words 4000000000 r.pieces)) (own i) a l

      says : (b : Option ℕ) → word_at r.binds a ≡ b → (y : ℕ) → U a ≡ Some y → IsPiece (0 ∷ y ∷ []) → (o : Option (Term Variable))
          → find t.bound (own i) ≡ o → FreshSays U' V' (unwrap_or (word_at r.binds a) y) (find t.bound (own i))
      says b ib y was piece (Some u) e =
          let p = bound_says (own i) a u L e in
          subst (λ (o : Option (Term Variable)). FreshSays U' V' (unwrap_or (word_at r.binds a) y) o) (sym e)
          (subst (λ (x : ℕ). Denotes U' V' x u) (word_is b ib p.0 p.1) (denotes_on _ _ _ _ grows on p.0 u p.2))
        where
          word_is : (b : Option ℕ) → word_at r.binds a ≡ b → (x : ℕ) → over r.binds U a ≡ Some x → x ≡ unwrap_or (word_at r.binds a) y
          word_is (Some z) j x f =
              same_Some _ _ (sym f ∙ ap (λ (o : Option ℕ). first_of o (U a)) j) ∙ sym (ap (λ (o : Option ℕ). unwrap_or o y) j)
          word_is None j x f =
              same_Some _ _ (sym f ∙ (ap (λ (o : Option ℕ). first_of o (U a)) j ∙ was)) ∙ sym (ap (λ (o : Option ℕ). unwrap_or o y) j)
      says (Some x) ib y was piece None e =
          let n = s.binds_named a x ib in
          let same : n.0 ≡ own i = (names_once w vs bound r.pieces store n.0 (own i) a a n.2 L).1 refl in
          absurd (let h : None ≡ Some n.1 = sym e ∙ (ap (find t.bound) (sym same) ∙ n.3) in cc)
      says None ib y was piece None e =
          let p = s.places (own i) a L in
          let f : find (bound ++ t.bound) (own i) ≡ None =
          full_map (own i) ∙ (ap (λ (o : Option (Term Variable)). found_or o (find t.bound (own i))) (store.own_free i) ∙ e) in
          let g : p.0 ≡ y = same_Some _ _ (sym p.1 ∙ (ap (λ (o : Option ℕ). first_of o (U a)) ib ∙ was)) in
          let d = subst (λ (o : Option (Term Variable)). PlaceSays U V p.0 o) f p.2 in
          subst (λ (o : Option (Term Variable)). FreshSays U' V' (unwrap_or (word_at r.binds a) y) o) (sym e)
          (subst (λ (o : Option ℕ). decoded (unwrap_or o y)
          ≡ Some (Unbound 0)) (sym ib) (place_zero y d.0 piece (ap decoded (sym g) ∙ d.1)))

  pub says_commit : (m : Program) (g : Goal Variable)
      → ((e : Decision) × Decides m bound g e
      × (record { decision = commits t.clause t.bound (t.earlier ++ t.read); children = t.children } ≡ decision_of m g e))
      → length (place_words 4000000000 r.pieces) ≡ vars_of (clause_used m g t.clause)
      → (vars_of (clause_used m g t.clause) < 268435455) × (length (body_of (clause_used m g t.clause)) < 268435455)
      → CommitSays m w vs bound g t.clause (of_store r.binds) (settled r.binds 4000000000 r.pieces)
  says_commit m g d count few = record {
    bindings = t.bound;
    reads = t.earlier ++ t.read;
    decides = subst (λ (e : Decision). Decides m bound g e) (sym same) d.1;
    binds_all = binds_all;
    binds_only = binds_only;
    order = s.order;
    variables = ap length (same_places r.binds 4000000000 r.pieces) ∙ count;
    few = few;
    variable = λ i a l. variable_says i a
        (subst (λ (z : List ℕ). Listed (numbered 1 z) (own i) a) (same_places r.binds 4000000000 r.pieces) l);
    children = children_said U' V' t.bound _ (body_of (clause_used m g t.clause))
        (subst (λ (qs : List ℕ). GoalsSay U' V' t.bound qs (map (rename_goal own) (body_of (clause_used m g t.clause))))
        (sym (same_processes r.binds 4000000000 r.pieces))
        (subst (λ (gs : List (Goal Variable)). GoalsSay U' V' t.bound (process_words 4000000000 r.pieces) gs) kids
        (goals_on _ _ _ _ t.bound t.bound grows on (λ v u e. e) _ t.children s.children)));
  }
    where
      same : commits t.clause t.bound (t.earlier ++ t.read) ≡ d.0
      same = ap (λ (z : Meaning). z.decision) d.2

      kids : t.children ≡ map (rename_goal own) (body_of (clause_used m g t.clause))
      kids = ap (λ (z : Meaning). z.children) d.2 ∙ (ap (children_by m g) (sym same) ∙ the_body (clause_used m g t.clause))

pub commit_says : LawOfCommit
commit_says w vs bound ops args at r t store formed s m g e source count few =
    subst (λ (k : ℕ). CommitSays m w vs bound g k (of_store r.binds) (settled r.binds 4000000000 r.pieces)) (sym s.clause)
    (says_commit w vs bound r t store formed s m g
    (source _ (1, ap (λ o. obey (follow 0 bound ops args) 0 bound args at t o) e))
    (count ∙ ap (λ (k : ℕ). vars_of (clause_used m g k)) s.clause)
    (subst (λ (k : ℕ). (vars_of (clause_used m g k) < 268435455) × (length (body_of (clause_used m g k)) < 268435455)) s.clause few))
