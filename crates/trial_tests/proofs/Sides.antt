-- The sides of a test, as expressions and as steps over words.
use Rattle.std.proofs.Common.{◌≡◌, ℕ, List, [], ◌∷◌, ◌++◌, refl, sym, ap, ◌∙◌, subst, append_assoc, append-nil}
use Rattle.std.proofs.lemmas.List.{map-append}
use Rattle.fcp_model.specs.Places.{Variable}
use Rattle.fcp_model.specs.Terms.{Bindings}
use Rattle.fcp_model.specs.Expressions.{Expr, leaf, op}
use Rattle.heap_words.specs.Trails.{Memory}
use Rattle.heap_words.specs.declared.steps.ExprStep.{ExprStep}
use Rattle.heap_words.specs.declared.steps.ExprStep.TheVariants as table
use Rattle.heap_words.specs.declared.steps.TestKind.{TestKind}
use Rattle.heap_words.specs.declared.steps.TestKind.TheVariants as kinds
use Rattle.word_states.specs.Words.{Words}
use Rattle.word_states.specs.Denoting.{Addresses}
use Rattle.word_states.specs.Pieces.{with_own, with_variables}
use Rattle.unify_terms.specs.Denotes.{Naming}
use Rattle.unify_terms.specs.Denotes as unified
use Rattle.unify_terms.specs.WordsOfTries.{memory_of, naming}
use Rattle.guard_tests.specs.Forms.{form_of}
use Rattle.guard_tests.specs.Guards.{IsTerm, Expresses, IsTestOf}
use Rattle.machine_code.specs.Slots.{Slots, Step, apply, as_term, built}
use Rattle.machine_code.specs.Machine.{Trying, test_of_kind}
use Rattle.machine_code.specs.Sound.{SlotExpr, in_slot, operation, postfix, IsPostfix, IsSlot, HasSides}
use Rattle.trial_laws.specs.AtHand.{AtHand, term_word, ArePieces, IsStore, StandsForTry}
use Rattle.trial_laws.proofs.Slots.{term_says}
use Rattle.trial_laws.proofs.Seen.{sees}
use Rattle.trial_tests.specs.Tested.{word_step, word_steps}

-- an expression over slots, with the terms of the slots
abbrev expression : Slots → SlotExpr → Expr Variable
expression σ (in_slot i) = leaf (as_term (σ i))
expression σ (operation o a b) = op o (expression σ a) (expression σ b)

-- its steps build it
built_on : (σ : Slots) (e : SlotExpr) (xs : List (Expr Variable)) (ss : List Step)
    → built σ xs (postfix e ++ ss) ≡ built σ (expression σ e ∷ xs) ss
built_on σ (in_slot i) xs ss = refl
built_on σ (operation o a b) xs ss =
    ap (built σ xs) parted
    ∙ (built_on σ a xs (postfix b ++ apply o ∷ ss) ∙ built_on σ b (expression σ a ∷ xs) (apply o ∷ ss))
  where
    parted : (postfix a ++ (postfix b ++ apply o ∷ [])) ++ ss ≡ postfix a ++ (postfix b ++ apply o ∷ ss)
    parted = append_assoc (postfix a) (postfix b ++ apply o ∷ []) ss
        ∙ ap (λ (us : List Step). postfix a ++ us) (append_assoc (postfix b) (apply o ∷ []) ss)

built_postfix : (σ : Slots) (e : SlotExpr) → built σ [] (postfix e) ≡ expression σ e
built_postfix σ e = ap (built σ []) (sym (append-nil (postfix e))) ∙ built_on σ e [] []

module _ (w : Words) (vs : Addresses) (bound : Bindings) (r : AtHand) (t : Trying) (store : IsStore w vs bound)
    (formed : ArePieces r.pieces) (s : StandsForTry w vs bound r t) where
  abbrev P : Naming
  P = naming (with_variables r.pieces vs)

  abbrev M : Memory
  M = memory_of (with_own r.pieces w)

  slot_term : (i : ℕ) → unified.Denotes P M (as_term (t.slots i)) (term_word r i)
  slot_term i = (sees w vs bound r t store formed s).denotes (term_word r i) (as_term (t.slots i)) (term_says w vs bound r t i s)

  steps_express : (e : SlotExpr) → Expresses P M (expression t.slots e) (word_steps r (postfix e))
  steps_express (in_slot i) = (term_word r i, refl, slot_term i)
  steps_express (operation o a b) =
      (word_steps r (postfix a), word_steps r (postfix b), parted, steps_express a, steps_express b)
    where
      parted : word_steps r (postfix a ++ (postfix b ++ apply o ∷ []))
          ≡ word_steps r (postfix a) ++ (word_steps r (postfix b) ++ table.Apply o ∷ [])
      parted = map-append (word_step r) (postfix a) (postfix b ++ apply o ∷ [])
          ∙ ap (λ (us : List ExprStep). word_steps r (postfix a) ++ us) (map-append (word_step r) (postfix b) (apply o ∷ []))

  -- a side of one slot, and one that is an expression
  side_term : (side : List Step) → IsSlot side → IsTerm P M (as_term (built t.slots [] side)) (word_steps r side)
  side_term side h = (
    term_word r h.0,
    ap (word_steps r) h.1,
    subst (λ (us : List Step). unified.Denotes P M (as_term (built t.slots [] us)) (term_word r h.0)) (sym h.1) (slot_term h.0),
  )

  side_expression : (side : List Step) → IsPostfix side → Expresses P M (built t.slots [] side) (word_steps r side)
  side_expression side h =
      subst (λ (us : List Step). Expresses P M (built t.slots [] us) (word_steps r us)) (sym h.1)
      (subst (λ (x : Expr Variable). Expresses P M x (word_steps r (postfix h.0))) (sym (built_postfix t.slots h.0)) (steps_express h.0))

  no_side : (side : List Step) → side ≡ [] → word_steps r side ≡ []
  no_side side h = ap (word_steps r) h

  module _ (left right : List Step) where
    abbrev IsTest : TestKind → Type 0
    IsTest k = IsTestOf P M (form_of k) (word_steps r left) (word_steps r right)
        (test_of_kind k (built t.slots [] left) (built t.slots [] right))

    abbrev a : Expr Variable
    a = built t.slots [] left

    abbrev b : Expr Variable
    b = built t.slots [] right

    -- the sides on words stand for the test of the code
    pub sides_test : (k : TestKind) → HasSides k left right → IsTestOf (naming (with_variables r.pieces vs))
        (memory_of (with_own r.pieces w)) (form_of k) (word_steps r left) (word_steps r right)
        (test_of_kind k (built t.slots [] left) (built t.slots [] right))
    sides_test kinds.True h = (no_side left h.0, no_side right h.1, refl)
    sides_test kinds.Integer h = (as_term a, side_term left h.0, no_side right h.1, refl)
    sides_test kinds.String h = (as_term a, side_term left h.0, no_side right h.1, refl)
    sides_test kinds.Constant h = (as_term a, side_term left h.0, no_side right h.1, refl)
    sides_test kinds.List h = (as_term a, side_term left h.0, no_side right h.1, refl)
    sides_test kinds.Tuple h = (as_term a, side_term left h.0, no_side right h.1, refl)
    sides_test kinds.Known h = (as_term a, side_term left h.0, no_side right h.1, refl)
    sides_test kinds.Unknown h = (as_term a, side_term left h.0, no_side right h.1, refl)
    sides_test kinds.Same h = (as_term a, as_term b, side_term left h.0, side_term right h.1, refl)
    sides_test kinds.NotSame h = (as_term a, as_term b, side_term left h.0, side_term right h.1, refl)
    sides_test kinds.Less h = (a, b, side_expression left h.0, side_expression right h.1, refl)
    sides_test kinds.AtMost h = (a, b, side_expression left h.0, side_expression right h.1, refl)
    sides_test kinds.Greater h = (a, b, side_expression left h.0, side_expression right h.1, refl)
    sides_test kinds.AtLeast h = (a, b, side_expression left h.0, side_expression right h.1, refl)
    sides_test kinds.Equal h = (a, b, side_expression left h.0, side_expression right h.1, refl)
    sides_test kinds.NotEqual h = (a, b, side_expression left h.0, side_expression right h.1, refl)
