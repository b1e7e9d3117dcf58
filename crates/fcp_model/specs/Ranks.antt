-- Bindings without a cycle: each bound variable has a rank above those of the variables in its term.
use Rattle.std.specs.Prelude.{◌≡◌, ℕ, ◌<◌, ◌⊎◌, Some}
use Rattle.fcp_model.specs.Places.{Variable, own}
use Rattle.fcp_model.specs.Terms.{Term, number, string, nil, cons, tuple, var, ro, first, Terms, none, more, Bindings, find}

-- the variable q stands in the term
abbrev mutual
  pub Mentions : Variable → Term Variable → Type 0
  Mentions q (number z) = ⊥
  Mentions q (string s) = ⊥
  Mentions q nil = ⊥
  Mentions q (cons a b) = Mentions q a ⊎ Mentions q b
  Mentions q (tuple ts) = MentionsOne q ts
  Mentions q (var p) = q ≡ p
  Mentions q (ro p) = q ≡ p
  Mentions q (first k) = q ≡ own k

  pub MentionsOne : Variable → Terms Variable → Type 0
  MentionsOne q none = ⊥
  MentionsOne q (more t ts) = Mentions q t ⊎ MentionsOne q ts

-- bindings without a cycle: a bound variable stands above each variable of its term
pub record Ranked (s : Bindings) : Type 0 where
  pub rank : Variable → ℕ
  pub falls : (p q : Variable) (t : Term Variable) → find s p ≡ Some t → Mentions q t → rank q < rank p
