-- The law of the instruction that puts a new child.
use Rattle.std.proofs.Common.{◌≡◌, ℕ, zero, suc, ◌+◌, ◌<◌, ◌≤◌, Bool, true, false, cond, List, [], ◌∷◌, ◌++◌, length, map, refl, sym, ◌∙◌}
use Rattle.std.proofs.Common.{ap, subst}
use Rattle.std.proofs.Common.{arith, true≢false, Some}
use Rattle.std.specs.Prelude.{slice_get, nat_eq}
use Rattle.std.proofs.lemmas.Bool.{eq-eqb}
use Rattle.fcp_model.specs.declared.goal.TheConstants.{TRUE_PROCEDURE, UNIFY_PROCEDURE, ASSIGN_PROCEDURE}
use Rattle.fcp_model.specs.Places.{Variable}
use Rattle.fcp_model.specs.Terms.{Term, Bindings}
use Rattle.fcp_model.specs.Expressions.{Expr}
use Rattle.fcp_model.specs.Programs.{Goal, user, true', unifies, assigns}
use Rattle.heap_words.specs.Cells.{encoded}
use Rattle.heap_words.specs.declared.cell.Cell.TheVariants.{Raw}
use Rattle.heap_words.proofs.Encodings.{decoded_encoded}
use Rattle.word_states.specs.Words.{Words, At}
use Rattle.word_states.specs.Denoting.{Addresses, Denotes, Arguments, ExprSays, GoalSays}
use Rattle.word_states.specs.Leading.{LeadsTo, AllLead, ExprLeads, GoalLeads}
use Rattle.word_states.specs.Pieces.{process_words, with_own, with_variables}
use Rattle.word_states.proofs.Persisting.{denotes_on, expr_on}
use Rattle.machine_code.specs.Slots.{Slots, as_term, slots_from}
use Rattle.machine_code.specs.Instructions.{Spawn}
use Rattle.machine_code.specs.Machine.{Trying, child, pair_goal, assign_goal}
use Rattle.trial_laws.specs.AtHand.{AtHand, term_word, GoalsSay, IsStore, StandsForTry}
use Rattle.trial_laws.specs.NewPieces.{next_piece, with_piece, passed, passed_words, process_piece, true_piece, unify_piece, assign_piece}
use Rattle.trial_laws.specs.NewPieces.{child_piece, LawOfSpawn}
use Rattle.trial_laws.proofs.Passing.{passed_says, passed_expr}
use Rattle.trial_laws.proofs.Pieces.{starts_last, word_of_piece, processes_last, goals_last}
use Rattle.trial_laws.proofs.Growing.{grows_by, listed_on, children_on, grown_with}
use Rattle.trial_laws.proofs.Slots.{step, term_says}

-- a process with these arguments
module _ (w : Words) (vs : Addresses) (bound : Bindings) (r : AtHand) (t : Trying) (store : IsStore w vs bound)
    (s : StandsForTry w vs bound r t) (f : ℕ) (xs : List ℕ) where
  abbrev P : List ℕ
  P = process_piece f xs

  abbrev U' : Words
  U' = with_own (r.pieces ++ process_piece f xs ∷ []) w

  abbrev V' : Addresses
  V' = with_variables (r.pieces ++ process_piece f xs ∷ []) vs

  -- the term that the word of a slot's term says for a child
  pub led_term : (i : ℕ) → (u : Term Variable) × LeadsTo t.bound (as_term (t.slots i)) u
      × Denotes (with_own (r.pieces ++ process_piece f xs ∷ []) w) (with_variables (r.pieces ++ process_piece f xs ∷ []) vs)
      (passed r (term_word r i)) u
  led_term i =
      let k = passed_says w vs bound r t store s (term_word r i) (as_term (t.slots i)) (term_says w vs bound r t i s) in (
        k.0,
        k.1,
        denotes_on _ _ _ _ (grows_by w vs bound r t store s P refl) (listed_on w vs bound r t store s P refl) (passed r (term_word r i)) k.0 k.2,
      )

  -- and so for a slot's content
  pub led_content : (i : ℕ) → (d : Expr Variable) × ExprLeads t.bound (t.slots i) d
      × ExprSays (with_own (r.pieces ++ process_piece f xs ∷ []) w) (with_variables (r.pieces ++ process_piece f xs ∷ []) vs)
      (passed r (r.slots i)) d
  led_content i =
      let k = passed_expr w vs bound r t store s (r.slots i) (t.slots i) (s.slots i) in (
        k.0,
        k.1,
        expr_on _ _ _ _ (grows_by w vs bound r t store s P refl) (listed_on w vs bound r t store s P refl) (passed r (r.slots i)) k.0 k.2,
      )

  -- the terms that a child's words say for so many slots
  abbrev pub led_terms : ℕ → ℕ → List (Term Variable)
  led_terms i zero = []
  led_terms i (suc n) = (led_term i).0 ∷ led_terms (suc i) n

  pub all_led : (i n : ℕ) → AllLead t.bound (map as_term (slots_from t.slots i n)) (led_terms i n)
  all_led i zero = tt
  all_led i (suc n) = ((led_term i).1, all_led (suc i) n)

  pub count_led : (i n : ℕ) → length (led_terms i n) ≡ n
  count_led i zero = refl
  count_led i (suc n) = ap suc (count_led (suc i) n)

  -- the word at a distance from its begin
  pub word_here : (d y : ℕ) → slice_get (process_piece f xs) d ≡ Some y
      → with_own (r.pieces ++ process_piece f xs ∷ []) w (next_piece r + d) ≡ Some y
  word_here d y e = word_of_piece w (r.pieces ++ P ∷ []) (next_piece r) d y P (starts_last 4000000000 r.pieces P) e

  -- its procedure and the number of its arguments
  pub procedure_here : f < 0x100000000 → At (with_own (r.pieces ++ process_piece f xs ∷ []) w) (next_piece r + 2) (Raw f)
  procedure_here l = (encoded (Raw f), word_here 2 _ refl, decoded_encoded (Raw f) l)

  pub number_here : length xs < 0x100000000
      → At (with_own (r.pieces ++ process_piece f xs ∷ []) w) (next_piece r + 3) (Raw (length xs))
  number_here l = (encoded (Raw (length xs)), word_here 3 _ refl, decoded_encoded (Raw (length xs)) l)

  -- an argument
  pub argument_here : (d y : ℕ) → slice_get xs d ≡ Some y → (a : ℕ) → a ≡ next_piece r + 4 + d
      → with_own (r.pieces ++ process_piece f xs ∷ []) w a ≡ Some y
  argument_here d y e a g = subst (λ (c : ℕ). U' c ≡ Some y) (sym (g ∙ further)) (word_here (suc (suc (suc (suc d)))) y e)
    where
      further : next_piece r + 4 + d ≡ next_piece r + suc (suc (suc (suc d)))
      further = omega arith

  -- the contents of slots as terms
  pub arguments_here : (i n d : ℕ) → ((k y : ℕ) → slice_get (passed_words r i n) k ≡ Some y → slice_get xs (d + k) ≡ Some y)
      → Arguments (with_own (r.pieces ++ process_piece f xs ∷ []) w) (with_variables (r.pieces ++ process_piece f xs ∷ []) vs)
      (next_piece r + 4 + d) (led_terms i n)
  arguments_here i zero d h = tt
  arguments_here i (suc n) d h = (
    passed r (term_word r i),
    argument_here (d + 0) (passed r (term_word r i)) (h 0 (passed r (term_word r i)) refl) (next_piece r + 4 + d) (omega arith),
    (led_term i).2,
    subst (λ (a : ℕ). Arguments U' V' a (led_terms (suc i) n)) (omega arith)
        (arguments_here (suc i) n (suc d) (λ k y e. subst (λ (c : ℕ). slice_get xs c ≡ Some y) (omega arith) (h (suc k) y e))),
  )

  -- a child that the piece says
  pub with_child : (g h : Goal Variable) → GoalLeads t.bound g h → GoalSays (with_own (r.pieces ++ process_piece f xs ∷ []) w)
      (with_variables (r.pieces ++ process_piece f xs ∷ []) vs) (next_piece r) h
      → StandsForTry w vs bound (with_piece r (process_piece f xs)) (record t { children = t.children ++ g ∷ [] })
  with_child g h leads say =
      grown_with w vs bound r t store s P refl (t.children ++ g ∷ [])
      (subst (λ (qs : List ℕ). GoalsSay U' V' t.bound qs (t.children ++ g ∷ [])) (sym (processes_last 4000000000 r.pieces P refl))
      (goals_last U' V' t.bound (process_words 4000000000 r.pieces) t.children (next_piece r) g
      (children_on w vs bound r t store s P refl) (record { goal = h; leads = leads; says = say }, tt)))

length_words : (r : AtHand) (i n : ℕ) → length (passed_words r i n) ≡ n
length_words r i zero = refl
length_words r i (suc n) = ap suc (length_words r (suc i) n)

module _ (w : Words) (vs : Addresses) (bound : Bindings) (r : AtHand) (t : Trying) (store : IsStore w vs bound)
    (s : StandsForTry w vs bound r t) where
  abbrev WithChild : List ℕ → Goal Variable → Type 0
  WithChild p g = StandsForTry w vs bound (with_piece r p) (record t { children = t.children ++ g ∷ [] })

  true_child : WithChild true_piece true'
  true_child =
      with_child w vs bound r t store s TRUE_PROCEDURE [] true' true' tt (
        procedure_here w vs bound r t store s TRUE_PROCEDURE [] (omega arith),
        number_here w vs bound r t store s TRUE_PROCEDURE []
            (omega arith),
      )

  unify_child : (i n : ℕ) → WithChild (unify_piece r i n) (pair_goal (slots_from t.slots i n))
  unify_child i zero = true_child
  unify_child i (suc zero) = true_child
  unify_child i (suc (suc n)) =
      let xs : List ℕ = passed_words r i 2 in
      let left = led_term w vs bound r t store s UNIFY_PROCEDURE (passed_words r i 2) i in
      let right = led_term w vs bound r t store s UNIFY_PROCEDURE (passed_words r i 2) (suc i) in
      with_child w vs bound r t store s UNIFY_PROCEDURE (passed_words r i 2)
      (unifies (as_term (t.slots i)) (as_term (t.slots (suc i)))) (unifies left.0 right.0) (left.1, right.1) (
        procedure_here w vs bound r t store s UNIFY_PROCEDURE (passed_words r i 2) (omega arith),
        number_here w vs bound r t store s UNIFY_PROCEDURE (passed_words r i 2) (omega arith),
        subst
            (λ (a : ℕ). Arguments (with_own (r.pieces ++ unify_piece r i (suc (suc n)) ∷ []) w)
            (with_variables (r.pieces ++ unify_piece r i (suc (suc n)) ∷ []) vs) a (left.0 ∷ right.0 ∷ [])) (omega arith)
            (arguments_here w vs bound r t store s UNIFY_PROCEDURE (passed_words r i 2) i 2 0
            (λ k y e. subst (λ (c : ℕ). slice_get (passed_words r i 2) c ≡ Some y) (omega arith) e)),
      )

  assign_child : (i n : ℕ) → WithChild (assign_piece r i n) (assign_goal (slots_from t.slots i n))
  assign_child i zero = true_child
  assign_child i (suc zero) = true_child
  assign_child i (suc (suc n)) =
      let left = led_term w vs bound r t store s ASSIGN_PROCEDURE (passed r (term_word r i) ∷ passed r (r.slots (suc i)) ∷ []) i in
      let right = led_content w vs bound r t store s ASSIGN_PROCEDURE (passed r (term_word r i) ∷ passed r (r.slots (suc i)) ∷ []) (suc i) in
      with_child w vs bound r t store s ASSIGN_PROCEDURE (passed r (term_word r i) ∷ passed r (r.slots (suc i)) ∷ [])
      (assigns (as_term (t.slots i)) (t.slots (suc i))) (assigns left.0 right.0) (left.1, right.1) (
        procedure_here w vs bound r t store s ASSIGN_PROCEDURE (passed r (term_word r i) ∷ passed r (r.slots (suc i)) ∷ []) (omega arith),
        number_here w vs bound r t store s ASSIGN_PROCEDURE (passed r (term_word r i) ∷ passed r (r.slots (suc i)) ∷ []) (omega arith),
        (
          passed r (term_word r i),
          passed r (r.slots (suc i)),
          argument_here w vs bound r t store s ASSIGN_PROCEDURE (passed r (term_word r i) ∷ passed r (r.slots (suc i)) ∷ []) 0 _ refl _
              (omega arith),
          left.2,
          argument_here w vs bound r t store s ASSIGN_PROCEDURE (passed r (term_word r i) ∷ passed r (r.slots (suc i)) ∷ []) 1 _ refl _
              (omega arith),
          right.2,
        ),
      )

  user_child : (p i n : ℕ) → p < TRUE_PROCEDURE → n < 0x100000000
      → WithChild (process_piece p (passed_words r i n)) (user p (map as_term (slots_from t.slots i n)))
  user_child p i n l few =
      let same = length_words r i n in
      let xs : List ℕ = passed_words r i n in
      with_child w vs bound r t store s p (passed_words r i n) (user p (map as_term (slots_from t.slots i n)))
      (user p (led_terms w vs bound r t store s p (passed_words r i n) i n))
      (refl, all_led w vs bound r t store s p (passed_words r i n) i n) (
        procedure_here w vs bound r t store s p (passed_words r i n) (omega arith),
        subst (λ (k : ℕ). At (with_own (r.pieces ++ process_piece p (passed_words r i n) ∷ []) w) (next_piece r + 3) (Raw k))
            (same ∙ sym (count_led w vs bound r t store s p (passed_words r i n) i n))
            (number_here w vs bound r t store s p (passed_words r i n) (omega arith)),
        subst
            (λ (a : ℕ). Arguments (with_own (r.pieces ++ process_piece p (passed_words r i n) ∷ []) w)
            (with_variables (r.pieces ++ process_piece p (passed_words r i n) ∷ []) vs) a
            (led_terms w vs bound r t store s p (passed_words r i n) i n))
            (omega arith)
            (arguments_here w vs bound r t store s p (passed_words r i n) i n 0
            (λ k y e. subst (λ (c : ℕ). slice_get (passed_words r i n) c ≡ Some y) (omega arith) e)),
        l,
      )

  pub child_stands : (p i n : ℕ) → p ≤ ASSIGN_PROCEDURE → n < 0x100000000
      → StandsForTry w vs bound (with_piece r (child_piece r p i n))
      (record t { children = t.children ++ child p (slots_from t.slots i n) ∷ [] })
  child_stands p i n l few = go (nat_eq p TRUE_PROCEDURE) refl (nat_eq p UNIFY_PROCEDURE) refl (nat_eq p ASSIGN_PROCEDURE) refl
    where
      go : (a : Bool) → nat_eq p TRUE_PROCEDURE ≡ a → (b : Bool) → nat_eq p UNIFY_PROCEDURE ≡ b → (c : Bool)
          → nat_eq p ASSIGN_PROCEDURE ≡ c
          → WithChild (cond a true_piece (cond b (unify_piece r i n) (cond c (assign_piece r i n) (process_piece p (passed_words r i n)))))
          (cond a true' (cond b (pair_goal (slots_from t.slots i n)) (cond c (assign_goal (slots_from t.slots i n))
          (user p (map as_term (slots_from t.slots i n))))))
      go true e b f c g = true_child
      go false e true f c g = unify_child i n
      go false e false f true g = assign_child i n
      go false e false f false g = user_child p i n (below e f g) few
        where
          other : (q : ℕ) → nat_eq p q ≡ false → p ≡ q → ⊥
          other q h k = true≢false (sym (eq-eqb p q k) ∙ h)

          below : nat_eq p TRUE_PROCEDURE ≡ false → nat_eq p UNIFY_PROCEDURE ≡ false → nat_eq p ASSIGN_PROCEDURE ≡ false
              → p < TRUE_PROCEDURE
          below h k m =
              let x = other TRUE_PROCEDURE h in let y = other UNIFY_PROCEDURE k in let z = other ASSIGN_PROCEDURE m in omega arith

pub spawn_leads : LawOfSpawn
spawn_leads w vs bound ops args at r t store formed s p i n e l few room = record {
  state = record t { children = t.children ++ child p (slots_from t.slots i n) ∷ [] };
  stands = child_stands w vs bound r t store s p i n l few;
  gives = λ m g. step bound ops args at (suc at) t _ (Spawn p i n) m e (λ k. refl) g;
}
