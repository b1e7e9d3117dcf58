-- One more terminal goes on an item that was read so far.
use Rattle.std.proofs.Common.{◌≡◌, List, [], ◌∷◌, ◌++◌, refl, ap, ◌∙◌, sym, subst, Bool, false, ℕ}
use Rattle.std.specs.Prelude.{◌&&◌, if◌then◌else◌}
use Rattle.fcp_grammar.specs.declared.terminals.Terminal.{Terminal}
use Rattle.fcp_grammar.specs.declared.terminals.Terminal.TheVariants as terminal
use Rattle.fcp_grammar.specs.declared.terms.Phase.{Phase}
use Rattle.fcp_grammar.specs.declared.terms.Told.{Told}
use Rattle.fcp_grammar.specs.declared.terms.Told.TheVariants as R
use Rattle.fcp_grammar.specs.declared.sides.TermSign.{TermSign}
use Rattle.fcp_grammar.specs.declared.sides.Sums.{Sums}
use Rattle.fcp_grammar.specs.declared.sides.Side.TheVariants as S
use Rattle.fcp_grammar.specs.declared.sides.ItemStep.{ItemStep}
use Rattle.fcp_grammar.specs.declared.sides.ItemStep.TheVariants.{Goes, Ends, Refused}
use Rattle.fcp_grammar.specs.Values.{is_empty}
use Rattle.fcp_grammar.specs.Terms.{step, step_by, begin, full, term_of, start, is_large, opens_group, is_wanted}
use Rattle.fcp_grammar.specs.Operands.{ends, ends_item}
use Rattle.fcp_grammar.specs.Items.{equation, equation_item, behind_whole, sum_told, step_sum, step_equal, equal_told, step_side, place}
use Rattle.fcp_grammar.specs.Items as M
use Rattle.fcp_grammar.specs.Grammar.{Tree, int, call, name_alone, with_arguments, variable, read_only, nil, list, list_rest, braces, none, value, plain, spell}
use Rattle.fcp_grammar.specs.ExpressionGrammar.{Sum, group}
use Rattle.fcp_grammar.specs.ItemGrammar as G
use Rattle.fcp_grammar.specs.ItemGrammar.{sign_terminal, sign_call}
use Rattle.fcp_grammar.proofs.Follow.{phase_of, term_of-phase}
use Rattle.fcp_grammar.proofs.Partial as T
use Rattle.fcp_grammar.proofs.Partial.{Part, Last, wanted, opened, after, at_of, frames_of}
use Rattle.fcp_grammar.proofs.PartialExpressions.{Pending, Group, LeftPart, pending, inside, no_left, bare, ops_before, sums, mark_at, terminals_before}
use Rattle.fcp_grammar.proofs.PartialItems.{PartItem, side_of, item_so_far, place-tree, EndedItem, GoesFrom, Begins, goes-operand, goes-whole, equal_to, summing, closed}

-- ---- one more terminal of a sum

not-wanted : (t : Tree) → is_wanted (phase_of t) ≡ false
not-wanted (int n b) = refl
not-wanted (call (name_alone s sp b)) = refl
not-wanted (call (with_arguments s sp b o ts t)) = refl
not-wanted (variable k b) = refl
not-wanted (read_only k b) = refl
not-wanted (nil b) = refl
not-wanted (list b ts t) = refl
not-wanted (list_rest b ts t u) = refl
not-wanted (braces b ts t) = refl

abbrev opens_turn : Sums → Bool → Bool → ItemStep
opens_turn s mark b = if b then Goes (S.Sum (M.inside s) start) mark else Refused

goes-opens : (m : Bool) (a : ℕ) (left : LeftPart) (gs : List Group) (l : Pending) (ps : List Part) (last : Last) (w : Terminal)
    → GoesFrom m a (item_so_far m (summing left gs l ps last)) w
    (opens_turn (sums a left gs l (ops_before left gs l)) (mark_at m left gs l) (opens_group (at_of ps last) w))
goes-opens m a left gs l [] wanted (terminal.RoundOpen o) =
    record { part = summing left (inside l o ∷ gs) bare [] wanted; is = refl; terminals = λ rest. refl }
goes-opens m a left gs l (p ∷ ps) wanted (terminal.RoundOpen o) = tt
goes-opens m a left gs l ps (opened b) (terminal.RoundOpen o) = tt
goes-opens m a left gs l ps (after t) (terminal.RoundOpen o) =
    subst (λ b. GoesFrom m a (item_so_far m (summing left gs l ps (after t))) (terminal.RoundOpen o)
    (opens_turn (sums a left gs l (ops_before left gs l)) (mark_at m left gs l) (b && is_empty (frames_of ps)))) (sym (not-wanted t)) tt
goes-opens m a left gs l ps last w = tt

goes-told : (m : Bool) (a : ℕ) (left : LeftPart) (gs : List Group) (l : Pending) (ps : List Part) (last : Last) (w : Terminal) (told : Told)
    → Begins a (item_so_far m (summing left gs l ps last))
    → T.Goes (mark_at m left gs l) ps last w (is_large (mark_at m left gs l) (at_of ps last) w) told
    → GoesFrom m a (item_so_far m (summing left gs l ps last)) w
    (sum_told (mark_at m left gs l) (sums a left gs l (ops_before left gs l)) (at_of ps last) w told)
unfolding sum_told full
goes-told m a left gs l ps last w (R.Read y) h g =
    record {
      part = summing left gs l g.ps' g.last';
      is = ap (S.Sum (sums a left gs l (ops_before left gs l))) g.is;
      terminals = λ rest. ap (terminals_before m left gs l) (g.terminals rest);
    }
goes-told m a left gs (pending s p) ps last w (R.Whole phase) h g =
    let P : List Part → Last → Phase → Type 0 =
    λ qs x f. Begins a (item_so_far m (summing left gs (pending s p) qs x))
    → GoesFrom m a (item_so_far m (summing left gs (pending s p) qs x)) w
    (behind_whole (sums a left gs (pending s p) (ops_before left gs (pending s p))) f w) in
    subst (λ f. P ps last f) (sym g.is)
    (subst (λ x. P ps x (phase_of g.tree)) (sym g.ends)
    (subst (λ qs. P qs (after g.tree) (phase_of g.tree)) (sym g.alone) (goes-whole m a left gs s p g.tree w))) h
goes-told m a left gs l ps last w R.Refused h g = goes-opens m a left gs l ps last w

goes-sum : (m : Bool) (a : ℕ) (left : LeftPart) (gs : List Group) (l : Pending) (ps : List Part) (last : Last) (w : Terminal)
    → Begins a (item_so_far m (summing left gs l ps last))
    → GoesFrom m a (item_so_far m (summing left gs l ps last)) w (step_sum m (sums a left gs l (ops_before left gs l)) (at_of ps last) w)
unfolding step_sum
goes-sum m a left gs l ps last w h = goes-told m a left gs l ps last w (step (at_of ps last) w) h (T.goes (mark_at m left gs l) ps last w)

-- ---- behind a sign between two terms

equal-end : (m : Bool) (a : ℕ) (t : Tree) (sign : TermSign) (u : Tree) (w : Terminal)
    → Begins a (item_so_far m (equal_to t sign [] (after u)))
    → GoesFrom m a (item_so_far m (equal_to t sign [] (after u))) w
    (if ends_item w then Ends (equation_item (equation a (value t) sign) (term_of (phase_of u))) else Refused)
unfolding full
equal-end m a t sign u w h =
    let e : EndedItem m (item_so_far m (equal_to t sign [] (after u))) (equation_item (equation a (value t) sign) (term_of (phase_of u))) =
    record {
      tree = G.equal t sign u;
      is =
          ap (λ x. record { at = x; call = sign_call sign (value t) (value u) }) (sym (place-tree m t _) ∙ h [])
          ∙ ap (λ v. record { at = a; call = sign_call sign (value t) v }) (sym (term_of-phase u));
      terminals = λ rest. refl;
    } in
    elim w as (λ v. GoesFrom m a (item_so_far m (equal_to t sign [] (after u))) v
    (if ends_item v then Ends (equation_item (equation a (value t) sign) (term_of (phase_of u))) else Refused))
    [ terminal.Comma ↦ e | terminal.Bar ↦ e | terminal.Dot n ↦ e | _ ↦ tt ]

equal-goes : (m : Bool) (a : ℕ) (t : Tree) (sign : TermSign) (ps : List Part) (last : Last) (w : Terminal) (told : Told)
    → Begins a (item_so_far m (equal_to t sign ps last))
    → T.Goes false ps last w (is_large false (at_of ps last) w) told
    → GoesFrom m a (item_so_far m (equal_to t sign ps last)) w (equal_told (equation a (value t) sign) (at_of ps last) w told)
equal-goes m a t sign ps last w (R.Read y) h g =
    record {
      part = equal_to t sign g.ps' g.last';
      is = ap (S.Equal (equation a (value t) sign)) g.is;
      terminals = λ rest. ap (λ ws. spell m t (plain (sign_terminal sign) ∷ ws)) (g.terminals rest);
    }
equal-goes m a t sign ps last w (R.Whole phase) h g =
    let P : List Part → Last → Phase → Type 0 =
    λ qs x f. Begins a (item_so_far m (equal_to t sign qs x))
    → GoesFrom m a (item_so_far m (equal_to t sign qs x)) w
    (if ends_item w then Ends (equation_item (equation a (value t) sign) (term_of f)) else Refused) in
    subst (λ f. P ps last f) (sym g.is)
    (subst (λ x. P ps x (phase_of g.tree)) (sym g.ends)
    (subst (λ qs. P qs (after g.tree) (phase_of g.tree)) (sym g.alone) (equal-end m a t sign g.tree w))) h
equal-goes m a t sign ps last w R.Refused h g = tt

-- one more terminal of an item
pub goes-side : (m : Bool) (a : ℕ) (part : PartItem) (w : Terminal) → Begins a (item_so_far m part)
    → GoesFrom m a (item_so_far m part) w (step_side m (side_of a part) w)
unfolding step_side step_equal
goes-side m a (equal_to t sign ps last) w h = equal-goes m a t sign ps last w (step (at_of ps last) w) h (T.goes false ps last w)
goes-side m a (summing left gs l ps last) w h = goes-sum m a left gs l ps last w h
goes-side m a (closed left gs l o e) w h = goes-operand m a left gs l (group o e) w h

-- the first terminal of an item
pub goes-start : (m : Bool) (w : Terminal) → GoesFrom m (place w) (λ rest. rest) w (step_side m S.Start w)
unfolding step_side step_sum sum_told begin step_by full is_large
goes-start m (terminal.Int n b) = record { part = summing no_left [] bare [] (after (int n b)); is = refl; terminals = λ rest. refl }
goes-start m (terminal.Str s sp b) =
    record { part = summing no_left [] bare [] (after (call (name_alone s sp b))); is = refl; terminals = λ rest. refl }
goes-start m (terminal.Var k b) = record { part = summing no_left [] bare [] (after (variable k b)); is = refl; terminals = λ rest. refl }
goes-start m (terminal.SquareOpen b) = record { part = summing no_left [] bare [] (opened b); is = refl; terminals = λ rest. refl }
goes-start m (terminal.CurlyOpen b) =
    record { part = summing no_left [] bare (T.in_braces b none ∷ []) wanted; is = refl; terminals = λ rest. refl }
goes-start m (terminal.RoundOpen b) =
    record { part = summing no_left (inside bare b ∷ []) bare [] wanted; is = refl; terminals = λ rest. refl }
goes-start m _ = tt
