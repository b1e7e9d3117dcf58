-- The machine follows what an item's tree spells.
use Rattle.std.proofs.Common.{◌≡◌, List, [], ◌∷◌, refl, ap, ◌∙◌, sym, Option, Some, Bool, false, ℕ}
use Rattle.fcp_model.specs.declared.term.Term.{Term}
use Rattle.fcp_model.specs.declared.term.Expr.{Expr}
use Rattle.fcp_model.specs.declared.term.CompareOp.{CompareOp}
use Rattle.fcp_grammar.specs.declared.terminals.Terminal.{Terminal}
use Rattle.fcp_grammar.specs.declared.terminals.Terminal.TheVariants as terminal
use Rattle.fcp_grammar.specs.declared.terms.Phase.{Phase}
use Rattle.fcp_grammar.specs.declared.terms.TermAt.{TermAt}
use Rattle.fcp_grammar.specs.declared.terms.Told.TheVariants as R
use Rattle.fcp_grammar.specs.declared.sides.TermSign.{TermSign}
use Rattle.fcp_grammar.specs.declared.sides.TermSign.TheVariants.{Equals, Same, NotSame}
use Rattle.fcp_grammar.specs.declared.sides.Equation.{Equation}
use Rattle.fcp_grammar.specs.declared.sides.LeftSide.{LeftSide}
use Rattle.fcp_grammar.specs.declared.sides.LeftSide.TheVariants as L
use Rattle.fcp_grammar.specs.declared.sides.Side.{Side}
use Rattle.fcp_grammar.specs.declared.sides.Side.TheVariants as S
use Rattle.fcp_grammar.specs.declared.sides.ItemStep.TheVariants.{Goes, Ends}
use Rattle.fcp_grammar.specs.Terms.{step_by, begin, full, term_of, start, is_large}
use Rattle.fcp_grammar.specs.Expressions.{nothing}
use Rattle.fcp_grammar.specs.Operands.{sums_of, behind_operand, ends}
use Rattle.fcp_grammar.specs.Items.{fresh_at, equation, equation_item, call_item, behind_first, behind_whole, sum_told, step_sum, step_equal, equal_told, step_side, place}
use Rattle.fcp_grammar.specs.Grammar.{Marked, Tree, int, call, name_alone, with_arguments, variable, read_only, nil, list, list_rest, braces, value, spell, first_of}
use Rattle.fcp_grammar.specs.ExpressionGrammar.{Factor, Product, Sum, leaf, group, one, times, only, plus, sum_value, sum_ops, spell_factor, spell_product, spell_sum}
use Rattle.fcp_grammar.specs.ItemGrammar as G
use Rattle.fcp_grammar.specs.ItemGrammar.{ItemTree, sign_terminal, item_value, spell_item, first_factor, first_product, first_sum}
use Rattle.fcp_grammar.proofs.Follow.{at, phase_of, Runs, ◌⟫◌, Holds, IsPlain, term_of-phase, follow-tree}
use Rattle.fcp_grammar.proofs.FollowExpressions.{Suits, after_sum, operator-suits, step_sum-whole, step-after_sum, IsSumTerminal, go_on, in-sum, follow-sum}
pub use Rattle.fcp_grammar.proofs.FollowExpressions.{step-whole}

abbrev pub IsEnd : Terminal → Type 0
IsEnd terminal.Comma = Unit {0}
IsEnd terminal.Bar = Unit {0}
IsEnd (terminal.Dot n) = Unit {0}
IsEnd _ = ⊥

-- the state behind an item
abbrev pub after_item : ItemTree → Side
after_item (G.call_item (name_alone s sp a)) = S.Sum (fresh_at a) (at [] (phase_of (call (name_alone s sp a))))
after_item (G.call_item (with_arguments s sp a o ts t)) = S.Sum (fresh_at a) (at [] (phase_of (call (with_arguments s sp a o ts t))))
after_item (G.equal t sign u) = S.Equal (equation (first_of t) (value t) sign) (at [] (phase_of u))
after_item (G.assigned t e) = after_sum (first_of t) (L.Assigned (value t)) [] 0 e
after_item (G.compared a op b) = after_sum (first_sum a) (L.Compared (sum_value a) op) [] (sum_ops 0 a) b

-- ---- the end of an item

end-plain : (w : Terminal) → IsEnd w → IsPlain w
end-plain terminal.Comma h = tt
end-plain terminal.Bar h = tt
end-plain (terminal.Dot n) h = tt
end-plain _ h = absurd h

end-sum_terminal : (w : Terminal) → IsEnd w → IsSumTerminal w
end-sum_terminal terminal.Comma h = tt
end-sum_terminal terminal.Bar h = tt
end-sum_terminal (terminal.Dot n) h = tt
end-sum_terminal _ h = absurd h

end-assigned : (a : ℕ) (t : Term) (w : Terminal) → IsEnd w → Suits a (L.Assigned t) [] w
unfolding behind_whole
end-assigned a t w h = record { plain = end-plain w h; operand = λ l n phase. refl }

end-compared : (a : ℕ) (e : Expr) (op : CompareOp) (w : Terminal) → IsEnd w → Suits a (L.Compared e op) [] w
unfolding behind_whole
end-compared a e op w h = record { plain = end-plain w h; operand = λ l n phase. refl }

end-operand : (a : ℕ) (left : LeftSide) (n : ℕ) (e : Expr) (w : Terminal) → IsEnd w
    → behind_operand (sums_of a left [] nothing n) e w ≡ ends a left [] e
unfolding behind_operand
end-operand a left n e terminal.Comma h = refl
end-operand a left n e terminal.Bar h = refl
end-operand a left n e (terminal.Dot k) h = refl
end-operand a left n e _ h = absurd h

end-sum : (m : Bool) (a : ℕ) (left : LeftSide) (n : ℕ) (e : Sum) (w : Terminal) → IsEnd w → Suits a left [] w
    → step_side m (after_sum a left [] n e) w ≡ ends a left [] (sum_value e)
end-sum m a left n e w h s = step-after_sum m a left [] n e w s (end-sum_terminal w h) ∙ end-operand a left (sum_ops n e) (sum_value e) w h

fresh-call : (a : ℕ) (phase : Phase) (w : Terminal) → IsEnd w → behind_whole (fresh_at a) phase w ≡ call_item a phase
unfolding behind_whole behind_first
fresh-call a phase terminal.Comma h = refl
fresh-call a phase terminal.Bar h = refl
fresh-call a phase (terminal.Dot k) h = refl
fresh-call a phase _ h = absurd h

end-told : (e : Equation) (x : TermAt) (phase : Phase) (w : Terminal) → IsEnd w
    → equal_told e x w (R.Whole phase) ≡ Ends (equation_item e (term_of phase))
end-told e x phase terminal.Comma h = refl
end-told e x phase terminal.Bar h = refl
end-told e x phase (terminal.Dot k) h = refl
end-told e x phase _ h = absurd h

end-equal : (e : Equation) (u : Tree) (w : Terminal) → IsEnd w → step_equal e (at [] (phase_of u)) w ≡ Ends (equation_item e (value u))
unfolding step_equal
end-equal e u w h =
    ap (equal_told e (at [] (phase_of u)) w) (step-whole u w (end-plain w h))
    ∙ end-told e (at [] (phase_of u)) (phase_of u) w h
    ∙ ap (λ v. Ends (equation_item e v)) (term_of-phase u)

-- an item ends at a terminal that ends items
pub end-item : (m : Bool) (i : ItemTree) (w : Terminal) → IsEnd w → step_side m (after_item i) w ≡ Ends (item_value i)
unfolding step_side call_item
end-item m (G.call_item (name_alone s sp a)) w h =
    step_sum-whole m (fresh_at a) (call (name_alone s sp a)) w (end-plain w h) ∙ fresh-call a (phase_of (call (name_alone s sp a))) w h
end-item m (G.call_item (with_arguments s sp a o ts t)) w h =
    step_sum-whole m (fresh_at a) (call (with_arguments s sp a o ts t)) w (end-plain w h)
    ∙ fresh-call a (phase_of (call (with_arguments s sp a o ts t))) w h
end-item m (G.equal t sign u) w h = end-equal (equation (first_of t) (value t) sign) u w h
end-item m (G.assigned t e) w h = end-sum m (first_of t) (L.Assigned (value t)) 0 e w h (end-assigned (first_of t) (value t) w h)
end-item m (G.compared a op b) w h =
    end-sum m (first_sum a) (L.Compared (sum_value a) op) (sum_ops 0 a) b w h (end-compared (first_sum a) (sum_value a) op w h)

-- ---- the sign of an item

sign-plain : (sign : TermSign) → IsPlain (sign_terminal sign)
sign-plain Equals = tt
sign-plain Same = tt
sign-plain NotSame = tt

sign-whole : (a : ℕ) (t : Tree) (sign : TermSign)
    → behind_whole (fresh_at a) (phase_of t) (sign_terminal sign) ≡ Goes (S.Equal (equation a (value t) sign) start) false
unfolding behind_whole behind_first
sign-whole a t Equals = ap (λ v. Goes (S.Equal (equation a v Equals) start) false) (term_of-phase t)
sign-whole a t Same = ap (λ v. Goes (S.Equal (equation a v Same) start) false) (term_of-phase t)
sign-whole a t NotSame = ap (λ v. Goes (S.Equal (equation a v NotSame) start) false) (term_of-phase t)

assign-whole : (a : ℕ) (t : Tree)
    → behind_whole (fresh_at a) (phase_of t) terminal.Assign ≡ Goes (S.Sum (sums_of a (L.Assigned (value t)) [] nothing 0) start) false
unfolding behind_whole behind_first
assign-whole a t = ap (λ v. Goes (S.Sum (sums_of a (L.Assigned v) [] nothing 0) start) false) (term_of-phase t)

module _ {X : Type 0} (go : X → Marked → Option X) (m : Bool) (D : Side → X)
    (moves : (x y : Side) (w : Terminal) (b : Bool) → step_side m x w ≡ Goes y b → go (D x) (w, b) ≡ Some (D y)) where
  in-equal : (e : Equation) → Holds go false (λ x. D (S.Equal e x))
  unfolding step_side step_equal
  in-equal e = record { moves = λ x y w h. moves (S.Equal e x) (S.Equal e y) w (is_large false x w) (ap (equal_told e x w) h) }

  -- the first terminal of an item
  first-terminal : (y : Side) (w : Terminal) (b : Bool) (rest : List Marked) → step_side m (S.Sum (fresh_at (place w)) start) w ≡ Goes y b
      → Runs go (D S.Start) ((w, b) ∷ rest) (D (S.Sum (fresh_at (place w)) start)) ((w, b) ∷ rest)
  unfolding step_side
  first-terminal y w b rest e =
      record {
        same = (go_on go m D moves S.Start y w b rest e).same
            ∙ sym (go_on go m D moves (S.Sum (fresh_at (place w)) start) y w b rest e).same;
      }

  first-tree : (t : Tree) (rest : List Marked)
      → Runs go (D S.Start) (spell m t rest) (D (S.Sum (fresh_at (first_of t)) start)) (spell m t rest)
  unfolding step_side step_sum sum_told begin step_by full is_large
  first-tree (int n a) rest = first-terminal _ (terminal.Int n a) m _ refl
  first-tree (call (name_alone s sp a)) rest = first-terminal _ (terminal.Str s sp a) m _ refl
  first-tree (call (with_arguments s sp a o ts t)) rest = first-terminal _ (terminal.Str s sp a) m _ refl
  first-tree (variable k a) rest = first-terminal _ (terminal.Var k a) _ _ refl
  first-tree (read_only k a) rest = first-terminal _ (terminal.Var k a) _ _ refl
  first-tree (nil a) rest = first-terminal _ (terminal.SquareOpen a) m _ refl
  first-tree (list a ts t) rest = first-terminal _ (terminal.SquareOpen a) m _ refl
  first-tree (list_rest a ts t u) rest = first-terminal _ (terminal.SquareOpen a) m _ refl
  first-tree (braces a ts t) rest = first-terminal _ (terminal.CurlyOpen a) m _ refl

  first-in-factor : (f : Factor) (n : ℕ) (rest : List Marked)
      → Runs go (D S.Start) (spell_factor m n f rest) (D (S.Sum (fresh_at (first_factor f)) start)) (spell_factor m n f rest)
  unfolding step_side step_sum sum_told begin step_by
  first-in-factor (leaf t) n rest = first-tree t rest
  first-in-factor (group o e) n rest = first-terminal _ (terminal.RoundOpen o) m _ refl

  first-in-product : (p : Product) (n : ℕ) (rest : List Marked)
      → Runs go (D S.Start) (spell_product m n p rest) (D (S.Sum (fresh_at (first_product p)) start)) (spell_product m n p rest)
  first-in-product (one f) n rest = first-in-factor f n rest
  first-in-product (times p sign f) n rest = first-in-product p n _

  first-in-sum : (e : Sum) (n : ℕ) (rest : List Marked)
      → Runs go (D S.Start) (spell_sum m n e rest) (D (S.Sum (fresh_at (first_sum e)) start)) (spell_sum m n e rest)
  first-in-sum (only p) n rest = first-in-product p n rest
  first-in-sum (plus e sign p) n rest = first-in-sum e n _

  in-fresh : (t : Tree) (rest : List Marked)
      → Runs go (D S.Start) (spell m t rest) (D (S.Sum (fresh_at (first_of t)) (at [] (phase_of t)))) rest
  unfolding full
  in-fresh t rest =
      first-tree t rest ⟫ follow-tree go m (λ x. D (S.Sum (fresh_at (first_of t)) x))
      (in-sum go m D moves (fresh_at (first_of t))) t [] rest

  -- a sign behind the first term
  behind-fresh : (t : Tree) (y : Side) (w : Terminal) (rest : List Marked) → IsPlain w
      → behind_whole (fresh_at (first_of t)) (phase_of t) w ≡ Goes y false
      → Runs go (D (S.Sum (fresh_at (first_of t)) (at [] (phase_of t)))) ((w, false) ∷ rest) (D y) rest
  unfolding step_side
  behind-fresh t y w rest p e =
      go_on go m D moves (S.Sum (fresh_at (first_of t)) (at [] (phase_of t))) y w false rest
      (step_sum-whole m (fresh_at (first_of t)) t w p ∙ e)

  pub follow-item : (i : ItemTree) (rest : List Marked) → Runs go (D S.Start) (spell_item m i rest) (D (after_item i)) rest
  unfolding full behind_operand
  follow-item (G.call_item (name_alone s sp a)) rest = in-fresh (call (name_alone s sp a)) rest
  follow-item (G.call_item (with_arguments s sp a o ts t)) rest = in-fresh (call (with_arguments s sp a o ts t)) rest
  follow-item (G.equal t sign u) rest =
      let e : Equation = equation (first_of t) (value t) sign in
      in-fresh t _
      ⟫ behind-fresh t (S.Equal e start) (sign_terminal sign) _ (sign-plain sign) (sign-whole (first_of t) t sign)
      ⟫ follow-tree go false (λ x. D (S.Equal e x)) (in-equal e) u [] rest
  follow-item (G.assigned t e) rest =
      in-fresh t _
      ⟫ behind-fresh t (S.Sum (sums_of (first_of t) (L.Assigned (value t)) [] nothing 0) start) terminal.Assign _ tt
      (assign-whole (first_of t) t)
      ⟫ follow-sum go m D moves (first_of t) (L.Assigned (value t)) [] 0 e rest
  follow-item (G.compared a op b) rest =
      first-in-sum a 0 _
      ⟫ follow-sum go m D moves (first_sum a) L.Nothing [] 0 a _
      ⟫ go_on go m D moves (after_sum (first_sum a) L.Nothing [] 0 a)
      (S.Sum (sums_of (first_sum a) (L.Compared (sum_value a) op) [] nothing (sum_ops 0 a)) start) (terminal.Compare op) false _
      (step-after_sum m (first_sum a) L.Nothing [] 0 a (terminal.Compare op)
      (operator-suits (first_sum a) L.Nothing [] (terminal.Compare op) tt) tt)
      ⟫ follow-sum go m D moves (first_sum a) (L.Compared (sum_value a) op) [] (sum_ops 0 a) b rest
