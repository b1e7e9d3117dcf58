-- Texts of goals by the numbers that their words say.
use Rattle.std.proofs.Common.{◌≡◌, ℕ, suc, ◌+◌, ◌<◌, ◌≤◌, List, [], ◌∷◌, ◌++◌, length, Option, Some, refl, sym, ap, ap₂, ◌∙◌, arith}
use Rattle.std.specs.Prelude.{codes}
use Rattle.fcp_model.specs.declared.goal.TheConstants.{TRUE_PROCEDURE, UNIFY_PROCEDURE, ASSIGN_PROCEDURE}
use Rattle.fcp_model.specs.Places.{Variable}
use Rattle.fcp_model.specs.Terms.{Term, Bindings}
use Rattle.fcp_model.specs.Expressions.{Expr}
use Rattle.fcp_model.specs.Programs.{Goal, user, true', unifies, assigns, Program}
use Rattle.fcp_model.specs.Spelling.{Bytes}
use Rattle.fcp_model.specs.TermText.{cut_text}
use Rattle.fcp_model.specs.ReportText.{expr_text, arguments_text, procedure_text, goal_text}
use Rattle.heap_words.specs.Cells.{decoded}
use Rattle.heap_words.specs.WordsLaws.{WordsLaws}
use Rattle.heap_words.specs.Trails.{WordList, word_at}
use Rattle.heap_words.specs.declared.cell.Cell.{Cell}
use Rattle.heap_words.specs.declared.cell.Cell.TheVariants.{Raw}
use Rattle.word_states.specs.Words.{Words, At}
use Rattle.word_states.specs.Denoting.{Addresses, Denotes, Arguments, ExprSays, GoalSays}
use Rattle.entry_lines.specs.Additions.{Adds}
use Rattle.entry_lines.proofs.Adding.{adds_both}
use Rattle.process_texts.specs.Reading.{CellRead, HadCell, HadStatus, KnowsFrom}
use Rattle.process_texts.specs.Texts.{AddsArgument, AddsExpression, called, AddsPair, AddsAssignment, AddsGoal}
use Rattle.process_texts.proofs.ArgumentTexts.{adds_after, adds_known}

-- the two numbers that a goal's words say
numbers_said : (w : Words) (vs : Addresses) (p : ℕ) (g : Goal Variable) → GoalSays w vs p g
    → At w (p + 2) (Raw (called g).0) × At w (p + 3) (Raw (called g).1)
numbers_said w vs p (user f ts) h = (h.0, h.1)
numbers_said w vs p true' h = h
numbers_said w vs p (unifies t u) h = (h.0, h.1)
numbers_said w vs p (assigns t e) h = (h.0, h.1)

same_number : (a b : ℕ) → Some (Raw a) ≡ Some (Raw b) → a ≡ b
same_number a b e = cc

-- and these are the two that were read
pub numbers_are : (w : Words) (vs : Addresses) (p f n : ℕ) (g : Goal Variable) → GoalSays w vs p g
    → ((y : ℕ) → w (p + 2) ≡ Some y → decoded y ≡ Some (Raw f)) → ((y : ℕ) → w (p + 3) ≡ Some y → decoded y ≡ Some (Raw n))
    → called g ≡ (f, n)
numbers_are w vs p f n g h one two =
    let r = numbers_said w vs p g h in
    let i = same_number (called g).0 f (sym r.0.2 ∙ one r.0.0 r.0.1) in
    let j = same_number (called g).1 n (sym r.1.2 ∙ two r.1.0 r.1.1) in
    ap₂ (λ (a b : ℕ). (a, b)) i j

-- two arguments with a text between
module _ (kept kept' : WordList) (up : (a x : ℕ) → word_at kept a ≡ Some x → word_at kept' a ≡ Some x) (names : List Bytes) (a : ℕ)
    (one two three four : Bytes) (first : AddsArgument kept names a one two) where
  pub pair_added : three ≡ two ++ codes " = " → AddsArgument kept' names (a + 1) three four → AddsPair kept' names a one four
  pair_added e second w vs bound has says m t u h =
      let next : a + 1 ≡ suc a = omega arith in
      adds_both (λ n. cut_text n names bound 1024 t) _ _ one two four
      (first w vs bound (λ b x i. has b x (up b x i)) says h.0 t h.1 h.2)
      (adds_after (codes " = ") (λ n. cut_text n names bound 1024 u) two three four e
      (second w vs bound has says h.3.0 u (ap w next ∙ h.3.1) h.3.2)) (λ n. refl)

  pub assigned_added : three ≡ two ++ codes " := " → AddsExpression kept' names (a + 1) three four → AddsAssignment kept' names a one four
  assigned_added e second w vs bound has says m t d x y i s j r =
      adds_both (λ n. cut_text n names bound 1024 t) _ _ one two four (first w vs bound (λ b z k. has b z (up b z k)) says x t i s)
      (adds_after (codes " := ") (λ n. expr_text n names bound d) two three four e (second w vs bound has says y d j r)) (λ n. refl)

-- the goal whose words say f and n
module _ (w : Words) (vs : Addresses) (p f n : ℕ) (names : List Bytes) (m : Program) (bound : Bindings) (one two : Bytes) where
  abbrev pub Added : Goal Variable → Type 0
  Added g = Adds one two (λ k. goal_text k names m bound g)

  pub true_added : (g : Goal Variable) → GoalSays w vs p g → called g ≡ (f, n) → f ≡ TRUE_PROCEDURE → two ≡ one ++ codes "true" → Added g
  true_added (user k ts) h e i text =
      absurd (let j : k ≡ f = ap (λ (z : ℕ × ℕ). z.0) e in let l : k < TRUE_PROCEDURE = h.3 in omega (arith, i, j, l))
  true_added true' h e i text = adds_known (codes "true") one two text
  true_added (unifies t u) h e i text =
      absurd (let j : UNIFY_PROCEDURE ≡ f = ap (λ (z : ℕ × ℕ). z.0) e in omega (arith, i, j))
  true_added (assigns t u) h e i text =
      absurd (let j : ASSIGN_PROCEDURE ≡ f = ap (λ (z : ℕ × ℕ). z.0) e in omega (arith, i, j))

  -- no goal's words say a number of a built-in process with another number of arguments
  pub none_called : (g : Goal Variable) → GoalSays w vs p g → called g ≡ (f, n) → (f ≡ TRUE_PROCEDURE → ⊥) → TRUE_PROCEDURE ≤ f
      → (n ≡ 2 → ⊥) → Added g
  none_called (user k ts) h e i l two =
      absurd (let j : k ≡ f = ap (λ (z : ℕ × ℕ). z.0) e in let low : k < TRUE_PROCEDURE = h.3 in omega (arith, j, l, low))
  none_called true' h e i l two = absurd (i (sym (ap (λ (z : ℕ × ℕ). z.0) e)))
  none_called (unifies t u) h e i l two = absurd (two (sym (ap (λ (z : ℕ × ℕ). z.1) e)))
  none_called (assigns t u) h e i l two = absurd (two (sym (ap (λ (z : ℕ × ℕ). z.1) e)))

  pub unification_added : (g : Goal Variable) → GoalSays w vs p g → called g ≡ (f, n) → f ≡ UNIFY_PROCEDURE
      → ((t u : Term Variable) → Arguments w vs (p + 4) (t ∷ u ∷ []) → Added (unifies t u)) → Added g
  unification_added (user k ts) h e i text =
      absurd (let j : k ≡ f = ap (λ (z : ℕ × ℕ). z.0) e in let l : k < TRUE_PROCEDURE = h.3 in omega (arith, i, j, l))
  unification_added true' h e i text =
      absurd (let j : TRUE_PROCEDURE ≡ f = ap (λ (z : ℕ × ℕ). z.0) e in omega (arith, i, j))
  unification_added (unifies t u) h e i text = text t u h.2
  unification_added (assigns t u) h e i text =
      absurd (let j : ASSIGN_PROCEDURE ≡ f = ap (λ (z : ℕ × ℕ). z.0) e in omega (arith, i, j))

  pub assignment_added : (g : Goal Variable) → GoalSays w vs p g → called g ≡ (f, n) → (f ≡ TRUE_PROCEDURE → ⊥) → TRUE_PROCEDURE ≤ f
      → (f ≡ UNIFY_PROCEDURE → ⊥)
      → ((t : Term Variable) (d : Expr Variable) (x y : ℕ) → w (p + 4) ≡ Some x → Denotes w vs x t → w (p + 4 + 1) ≡ Some y
      → ExprSays w vs y d → Added (assigns t d)) → Added g
  assignment_added (user k ts) h e i l u text =
      absurd (let j : k ≡ f = ap (λ (z : ℕ × ℕ). z.0) e in let low : k < TRUE_PROCEDURE = h.3 in omega (arith, j, l, low))
  assignment_added true' h e i l u text = absurd (i (sym (ap (λ (z : ℕ × ℕ). z.0) e)))
  assignment_added (unifies s t) h e i l u text = absurd (u (sym (ap (λ (z : ℕ × ℕ). z.0) e)))
  assignment_added (assigns t d) h e i l u text =
      let r = h.2 in let next : p + 4 + 1 ≡ p + 5 = omega arith in text t d r.0 r.1 r.2 r.3 (ap w next ∙ r.4) r.5

  pub call_added : (mid : Bytes) (g : Goal Variable) → GoalSays w vs p g → called g ≡ (f, n) → f < TRUE_PROCEDURE
      → mid ≡ one ++ procedure_text names m f
      → ((ts : List (Term Variable)) → length ts ≡ n → Arguments w vs (p + 4) ts → Adds mid two (λ k. arguments_text k names bound ts))
      → Added g
  call_added mid (user k ts) h e l name text =
      let j : k ≡ f = ap (λ (z : ℕ × ℕ). z.0) e in
      let long : length ts ≡ n = ap (λ (z : ℕ × ℕ). z.1) e in
      adds_after (procedure_text names m k) (λ i. arguments_text i names bound ts) one mid two
      (name ∙ ap (λ (q : ℕ). one ++ procedure_text names m q) (sym j)) (text ts long h.2)
  call_added mid true' h e l name text =
      absurd (let j : TRUE_PROCEDURE ≡ f = ap (λ (z : ℕ × ℕ). z.0) e in omega (arith, j, l))
  call_added mid (unifies t u) h e l name text =
      absurd (let j : UNIFY_PROCEDURE ≡ f = ap (λ (z : ℕ × ℕ). z.0) e in omega (arith, j, l))
  call_added mid (assigns t u) h e l name text =
      absurd (let j : ASSIGN_PROCEDURE ≡ f = ap (λ (z : ℕ × ℕ). z.0) e in omega (arith, j, l))

-- where no number stands at one of the two addresses, the process has no goal
module _ (kept : WordList) (names : List Bytes) (m : Program) (p : ℕ) (one two : Bytes) (c : Option Cell)
    (no : (k : ℕ) → c ≡ Some (Raw k) → ⊥) where
  pub no_procedure : CellRead kept (p + 2) c → AddsGoal kept names m p one two
  no_procedure read w vs bound has says g h =
      absurd (let r = (numbers_said w vs p g h).0 in no (called g).0 (sym (read w r.0 has r.1) ∙ r.2))

  pub no_count : CellRead kept (p + 3) c → AddsGoal kept names m p one two
  no_count read w vs bound has says g h =
      absurd (let r = (numbers_said w vs p g h).1 in no (called g).1 (sym (read w r.0 has r.1) ∙ r.2))

-- the words of a process are known
module _ {S : Type 0} {addresses : S → ℕ} {sound : S → Type 0} {knows : S → ℕ → Type 0} {had : S → ℕ → ℕ → Type 0} {leads : S → ℕ → Type 0}
    {own shown : S → ℕ → Option ℕ} {later : S → S → Type 0} {gave : S → S → ℕ → ℕ → Type 0}
    (laws : WordsLaws {S = S} addresses sound knows had leads own shown later gave) where
  pub behind_status : (w : S) (p b : ℕ) → sound w → HadStatus had w p → p < b → b ≤ p + 3 → knows w b
  behind_status w p b so h lo hi = laws.behind_status w p h.1.0 b h.0 so h.1.1 h.1.2 lo hi

  pub status_stays : (v w : S) (p : ℕ) → later v w → HadStatus had v p → HadStatus had w p
  status_stays v w p l h = (h.0, (h.1.0, laws.stays_had v w p h.1.0 l h.1.1, h.1.2))

  pub low_status : (w : S) (p : ℕ) → sound w → addresses w ≤ 4000000000 → HadStatus had w p → p + 4 < 4294967296
  low_status w p so few h =
      let l : p + 3 < addresses w = laws.in_range w (p + 3) so (behind_status w p (p + 3) so h (omega arith) (omega arith)) in omega arith

  pub arguments_known : (w : S) (p n : ℕ) (c : Option Cell) → sound w → HadStatus had w p → HadCell had w (p + 3) c → c ≡ Some (Raw n)
      → KnowsFrom (knows w) (p + 4) n
  arguments_known w p n c so h r is b lo hi =
      laws.arguments w p h.1.0 r.0 n b h.0 so h.1.1 h.1.2 r.1 (r.2 ∙ is) (omega arith) (omega arith)
