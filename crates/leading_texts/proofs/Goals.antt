-- Texts of goals over bindings with shorter ways.
use Rattle.std.proofs.Common.{◌≡◌, ℕ, ◌+◌, List, [], ◌∷◌, ◌++◌, Option, Some, None, codes, refl, ap, ap₂, ◌∙◌, arith}
use Rattle.std.specs.Prelude.{option_map}
use Rattle.fcp_model.specs.declared.term.ArithOp.{ArithOp}
use Rattle.fcp_model.specs.Places.{Variable}
use Rattle.fcp_model.specs.Terms.{Term, Bindings}
use Rattle.fcp_model.specs.Expressions.{Expr, leaf, op}
use Rattle.fcp_model.specs.Programs.{Goal, user, true', unifies, assigns, Program}
use Rattle.fcp_model.specs.Spelling.{Bytes}
use Rattle.fcp_model.specs.TermText.{Written, cut_text, term_text}
use Rattle.fcp_model.specs.LogText.{both_texts}
use Rattle.fcp_model.specs.ReportText.{operator_text, expr_text, operand_text, more_arguments, arguments_text, procedure_text, goal_text}
use Rattle.word_states.specs.Leading.{LeadsTo, AllLead, ExprLeads, GoalLeads, AreShortened}
use Rattle.leading_laws.proofs.Answers.{Stays}
use Rattle.leading_texts.specs.Laws.{GoalTextsComeAlike}
use Rattle.leading_texts.proofs.Steady.{stays_now}
use Rattle.leading_texts.proofs.Texts.{term_on}

-- the texts of which a text is made
both_from : (a b : Option Bytes) (x : Bytes) → both_texts a b ≡ Some x
    → (y z : Bytes) × (a ≡ Some y) × (b ≡ Some z) × (both_texts (Some y) (Some z) ≡ Some x)
both_from None b x e = cc
both_from (Some y) None x e = cc
both_from (Some y) (Some z) x e = (y, z, refl, refl, e)

map_from : (h : Bytes → Bytes) (a : Option Bytes) (x : Bytes) → option_map h a ≡ Some x → (y : Bytes) × (a ≡ Some y) × (Some (h y) ≡ Some x)
map_from h None x e = cc
map_from h (Some y) x e = (y, refl, e)

both_stay : (a b : Option Bytes) (f g : ℕ → Option Bytes) (x : Bytes) → both_texts a b ≡ Some x
    → ((y : Bytes) → a ≡ Some y → Stays f y) → ((z : Bytes) → b ≡ Some z → Stays g z) → Stays (λ m. both_texts (f m) (g m)) x
both_stay a b f g x e h i =
    let r = both_from a b x e in
    let k = h r.0 r.2 in
    let j = i r.1 r.3 in (k.0 + j.0, λ m l. ap₂ both_texts (k.1 m (omega arith)) (j.1 m (omega arith)) ∙ r.4)

map_stays : (t : Bytes → Bytes) (a : Option Bytes) (f : ℕ → Option Bytes) (x : Bytes) → option_map t a ≡ Some x
    → ((y : Bytes) → a ≡ Some y → Stays f y) → Stays (λ m. option_map t (f m)) x
map_stays t a f x e h =
    let r = map_from t a x e in
    let k = h r.0 r.1 in (k.0, λ m l. ap (option_map t) (k.1 m l) ∙ r.2)

module _ (names : List Bytes) (s short : Bindings) (shortened : AreShortened s short) where
  pub cut_on : (n nodes : ℕ) (t u : Term Variable) (x : Bytes) → LeadsTo s t u → cut_text n names short nodes u ≡ Some x
      → Stays (λ m. cut_text m names s nodes t) x
  cut_on n nodes t u x leads e = go (term_text n names short nodes u) refl e
    where
      go : (o : Option Written) → term_text n names short nodes u ≡ o → option_map (λ (w : Written). w.text) o ≡ Some x
          → Stays (λ m. cut_text m names s nodes t) x
      go None i f = cc
      go (Some w) i f =
          let k = term_on names s short shortened n nodes t u w leads i in
          (k.0, λ m l. ap (option_map (λ (w : Written). w.text)) (k.1 m l) ∙ f)

  -- expressions
  operator_on : (o q : ArithOp) (x : Bytes) → o ≡ q → Some (operator_text q) ≡ Some x → Stays (λ m. Some (operator_text o)) x
  operator_on o q x same e = stays_now (λ m. Some (operator_text o)) x (λ m. ap (λ (p : ArithOp). Some (operator_text p)) same ∙ e)

  operand_on : (n : ℕ) (e d : Expr Variable) (x : Bytes) → ExprLeads s e d → operand_text n names short d ≡ Some x
      → Stays (λ m. operand_text m names s e) x
  operand_on n (leaf t) (leaf u) x leads e = cut_on n 1024 t u x leads e
  operand_on n (op o a b) (op q c d) x leads e =
      both_stay (Some (codes "(")) _ (λ m. Some (codes "(")) _ x e (λ y i. stays_now _ y (λ m. i))
      (λ y i. both_stay _ (Some (codes ")")) _ (λ m. Some (codes ")")) y i
      (λ z j. both_stay _ _ (λ m. operand_text m names s a) _ z j (λ v k. operand_on n a c v leads.1 k)
      (λ v k. both_stay _ _ (λ m. Some (operator_text o)) (λ m. operand_text m names s b) v k
      (λ w l. operator_on o q w leads.0 l) (λ w l. operand_on n b d w leads.2 l)))
      (λ z j. stays_now _ z (λ m. j)))
  operand_on n (leaf t) (op q c d) x leads e = absurd leads
  operand_on n (op o a b) (leaf u) x leads e = absurd leads

  expr_on : (n : ℕ) (e d : Expr Variable) (x : Bytes) → ExprLeads s e d → expr_text n names short d ≡ Some x
      → Stays (λ m. expr_text m names s e) x
  expr_on n (leaf t) (leaf u) x leads e = cut_on n 1024 t u x leads e
  expr_on n (op o a b) (op q c d) x leads e =
      both_stay _ _ (λ m. operand_text m names s a) _ x e (λ v k. operand_on n a c v leads.1 k)
      (λ v k. both_stay _ _ (λ m. Some (operator_text o)) (λ m. operand_text m names s b) v k
      (λ w l. operator_on o q w leads.0 l) (λ w l. operand_on n b d w leads.2 l))
  expr_on n (leaf t) (op q c d) x leads e = absurd leads
  expr_on n (op o a b) (leaf u) x leads e = absurd leads

  -- arguments
  more_on : (n : ℕ) (ts us : List (Term Variable)) (x : Bytes) → AllLead s ts us → more_arguments n names short us ≡ Some x
      → Stays (λ m. more_arguments m names s ts) x
  more_on n [] [] x leads e = stays_now _ x (λ m. e)
  more_on n (t ∷ ts) (u ∷ us) x leads e =
      both_stay _ _ (λ m. option_map (λ x. codes "," ++ x) (cut_text m names s 1024 t)) (λ m. more_arguments m names s ts) x e
      (λ v k. map_stays (λ x. codes "," ++ x) _ (λ m. cut_text m names s 1024 t) v k (λ w l. cut_on n 1024 t u w leads.0 l))
      (λ v k. more_on n ts us v leads.1 k)
  more_on n [] (u ∷ us) x leads e = absurd leads
  more_on n (t ∷ ts) [] x leads e = absurd leads

  arguments_on : (n : ℕ) (ts us : List (Term Variable)) (x : Bytes) → AllLead s ts us → arguments_text n names short us ≡ Some x
      → Stays (λ m. arguments_text m names s ts) x
  arguments_on n [] [] x leads e = stays_now _ x (λ m. e)
  arguments_on n (t ∷ ts) (u ∷ us) x leads e =
      both_stay _ _ (λ m. option_map (λ x. codes "(" ++ x) (cut_text m names s 1024 t))
      (λ m. option_map (λ x. x ++ codes ")") (more_arguments m names s ts)) x e
      (λ v k. map_stays (λ x. codes "(" ++ x) _ (λ m. cut_text m names s 1024 t) v k (λ w l. cut_on n 1024 t u w leads.0 l))
      (λ v k. map_stays (λ x. x ++ codes ")") _ (λ m. more_arguments m names s ts) v k (λ w l. more_on n ts us w leads.1 l))
  arguments_on n [] (u ∷ us) x leads e = absurd leads
  arguments_on n (t ∷ ts) [] x leads e = absurd leads

  -- goals
  pub goal_on : (p : Program) (n : ℕ) (g h : Goal Variable) (x : Bytes) → GoalLeads s g h → goal_text n names p short h ≡ Some x
      → Stays (λ m. goal_text m names p s g) x
  goal_on p n (user f ts) (user q us) x leads e =
      map_stays (λ x. procedure_text names p f ++ x) _ (λ m. arguments_text m names s ts) x
      (ap (λ (k : ℕ). option_map (λ x. procedure_text names p k ++ x) (arguments_text n names short us)) leads.0 ∙ e)
      (λ y i. arguments_on n ts us y leads.1 i)
  goal_on p n true' true' x leads e = stays_now _ x (λ m. e)
  goal_on p n (unifies t u) (unifies v w) x leads e =
      both_stay _ _ (λ m. cut_text m names s 1024 t) (λ m. option_map (λ x. codes " = " ++ x) (cut_text m names s 1024 u)) x e
      (λ y i. cut_on n 1024 t v y leads.0 i)
      (λ y i. map_stays (λ x. codes " = " ++ x) _ (λ m. cut_text m names s 1024 u) y i (λ z j. cut_on n 1024 u w z leads.1 j))
  goal_on p n (assigns t d) (assigns v c) x leads e =
      both_stay _ _ (λ m. cut_text m names s 1024 t) (λ m. option_map (λ x. codes " := " ++ x) (expr_text m names s d)) x e
      (λ y i. cut_on n 1024 t v y leads.0 i)
      (λ y i. map_stays (λ x. codes " := " ++ x) _ (λ m. expr_text m names s d) y i (λ z j. expr_on n d c z leads.1 j))
  goal_on p n (user f ts) true' x leads e = absurd leads
  goal_on p n (user f ts) (unifies v w) x leads e = absurd leads
  goal_on p n (user f ts) (assigns v w) x leads e = absurd leads
  goal_on p n true' (user f ts) x leads e = absurd leads
  goal_on p n true' (unifies v w) x leads e = absurd leads
  goal_on p n true' (assigns v w) x leads e = absurd leads
  goal_on p n (unifies t u) (user f ts) x leads e = absurd leads
  goal_on p n (unifies t u) true' x leads e = absurd leads
  goal_on p n (unifies t u) (assigns v w) x leads e = absurd leads
  goal_on p n (assigns t d) (user f ts) x leads e = absurd leads
  goal_on p n (assigns t d) true' x leads e = absurd leads
  goal_on p n (assigns t d) (unifies v w) x leads e = absurd leads

pub goal_texts_alike : GoalTextsComeAlike
goal_texts_alike names p s short g h n bytes shortened leads e =
    let k = goal_on names s short shortened p n g h bytes leads e in (k.0, k.1 k.0 (omega arith))
