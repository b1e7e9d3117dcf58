-- A goal has at most 256 items: where it has so many, the first terminal of a further one is marked.
use Rattle.std.proofs.Common.{◌≡◌, ◌≤◌, ◌<◌, List, [], ◌∷◌, ◌++◌, length, refl, ap, ◌∙◌, sym, subst, Option, Some, Bool, true, false, ℕ, arith, length-append, nat_le, lit≤}
use Rattle.std.proofs.lemmas.Bool.Decides.{nat_tests}
use Rattle.fcp_model.specs.declared.source.Item.{Item}
use Rattle.fcp_grammar.specs.declared.terminals.Terminal.{Terminal}
use Rattle.fcp_grammar.specs.declared.terminals.Terminal.TheVariants as terminal
use Rattle.fcp_grammar.specs.declared.sides.Side.{Side}
use Rattle.fcp_grammar.specs.declared.sides.Side.TheVariants.{Start}
use Rattle.fcp_grammar.specs.declared.sides.ItemStep.{ItemStep}
use Rattle.fcp_grammar.specs.declared.sides.ItemStep.TheVariants as N
use Rattle.fcp_grammar.specs.Terms.{step_by, begin, full, is_large}
use Rattle.fcp_grammar.specs.Items.{step_side, step_sum, sum_told}
use Rattle.fcp_grammar.specs.ItemGrammar.{over_items}
use Rattle.fcp_reader.specs.declared.goals.GoalAt.{GoalAt}
use Rattle.fcp_reader.specs.declared.goals.GoalAt.TheVariants.{Items, Ended}
use Rattle.fcp_reader.specs.Goals.{step, turned, behind_item, whole, whole_by}

-- where 256 items have ended, no terminal of a further one was read
pub record FewItems (items : List Item) (side : Side) : Type 0 where
  pub most : length items ≤ 256
  pub wanted : over_items items ≡ true → side ≡ Start

abbrev pub IsFew : GoalAt → Type 0
IsFew (Items items side) = FewItems items side
IsFew (Ended items) = length items ≤ 256

pub few-first : IsFew (Items [] Start)
few-first = record { most = lit≤ tt; wanted = λ e. refl }

-- a first terminal is marked where the item is one too many, and it ends no item
abbrev IsFirst : ItemStep → Type 0
IsFirst (N.Goes side mark) = mark ≡ true
IsFirst (N.Ends item) = ⊥
IsFirst N.Refused = Unit {0}

first : (w : Terminal) → IsFirst (step_side true Start w)
unfolding step_side step_sum sum_told begin step_by full is_large
first (terminal.Int n a) = refl
first (terminal.Str s form a) = refl
first (terminal.Var k a) = refl
first (terminal.SquareOpen a) = refl
first (terminal.CurlyOpen a) = refl
first (terminal.RoundOpen a) = refl
first _ = tt

lt-of : (a b : ℕ) → nat_le a b ≡ false → b < a
lt-of a b h = grind (arith, nat_tests)

few-more : (items : List Item) (item : Item) → over_items items ≡ false → length (items ++ item ∷ []) ≤ 256
few-more items item e = let l : length items < 256 = lt-of 256 (length items) e in grind (arith, length-append)

fresh-few : (items : List Item) → length items ≤ 256 → FewItems items Start
fresh-few items h = record { most = h; wanted = λ e. refl }

some-pair : {A : Type 0} (x y : A) (a b : Bool) → ◌≡◌ {A = Option (A × Bool)} (Some (x, a)) (Some (y, b)) → (x ≡ y) × (a ≡ b)
some-pair {A} x y a b e = let h : ◌≡◌ {A = A × Bool} (x, a) (y, b) = cc in (ap (λ p. p.0) h, ap (λ p. p.1) h)

few-behind : (items : List Item) (w : Terminal) (t : GoalAt) → length items ≤ 256 → behind_item items w ≡ Some (t, false) → IsFew t
few-behind items terminal.Comma t h e = subst IsFew (some-pair (Items items Start) t false false e).0 (fresh-few items h)
few-behind items (terminal.Dot n) t h e = subst IsFew (some-pair (Ended items) t false false e).0 h
few-behind items _ t h e = cc

-- behind fewer than 256 items
few-turned : (items : List Item) (w : Terminal) (turn : ItemStep) (t : GoalAt) → over_items items ≡ false
    → turned items w turn ≡ Some (t, false) → IsFew t
few-turned items w (N.Goes side mark) t o e =
    let h : (Items items side ≡ t) × (mark ≡ false) = some-pair (Items items side) t mark false e in
    let l : length items < 256 = lt-of 256 (length items) o in
    subst IsFew h.0 (record { most = omega arith; wanted = λ y. let c : true ≡ false = sym y ∙ o in cc })
few-turned items w (N.Ends item) t o e = few-behind (items ++ item ∷ []) w t (few-more items item o) e
few-turned items w N.Refused t o e = cc

-- behind 256 items
few-full : (items : List Item) (w : Terminal) (turn : ItemStep) (t : GoalAt) → IsFirst turn → turned items w turn ≡ Some (t, false)
    → IsFew t
few-full items w (N.Goes side mark) t f e =
    let h : (Items items side ≡ t) × (mark ≡ false) = some-pair (Items items side) t mark false e in
    let c : true ≡ false = sym f ∙ h.1 in
    cc
few-full items w (N.Ends item) t f e = absurd f
few-full items w N.Refused t f e = cc

full-first : (items : List Item) (side : Side) (w : Terminal) → FewItems items side → over_items items ≡ true
    → IsFirst (step_side (over_items items) side w)
full-first items side w f o =
    subst (λ b. IsFirst (step_side b side w)) (sym o) (subst (λ x. IsFirst (step_side true x w)) (sym (f.wanted o)) (first w))

by-over : (items : List Item) (side : Side) (w : Terminal) (t : GoalAt) (b : Bool) → over_items items ≡ b → FewItems items side
    → turned items w (step_side (over_items items) side w) ≡ Some (t, false) → IsFew t
by-over items side w t true o f e = few-full items w (step_side (over_items items) side w) t (full-first items side w f o) e
by-over items side w t false o f e = few-turned items w (step_side (over_items items) side w) t o e

pub few-step : (s t : GoalAt) (w : Terminal) → IsFew s → step s w ≡ Some (t, false) → IsFew t
unfolding step
few-step (Items items side) t w f e = by-over items side w t (over_items items) refl f e
few-step (Ended items) t w f e = cc

few-ends : (items : List Item) (turn : ItemStep) (v : List Item) (b : Bool) → over_items items ≡ b → (b ≡ true → IsFirst turn)
    → whole_by items turn ≡ Some v → length v ≤ 256
few-ends items (N.Goes side mark) v b o f e = cc
few-ends items (N.Ends item) v true o f e = absurd (f refl)
few-ends items (N.Ends item) v false o f e =
    let same : items ++ item ∷ [] ≡ v = cc in subst (λ x. length x ≤ 256) same (few-more items item o)
few-ends items N.Refused v b o f e = cc

pub few-whole : (s : GoalAt) (v : List Item) → IsFew s → whole s ≡ Some v → length v ≤ 256
unfolding whole
few-whole (Items items side) v f e =
    few-ends items (step_side (over_items items) side (terminal.Dot 0)) v (over_items items) refl
    (full-first items side (terminal.Dot 0) f) e
few-whole (Ended items) v f e = let same : items ≡ v = cc in subst (λ x. length x ≤ 256) same f
