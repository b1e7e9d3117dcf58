-- The two sides of `=` and of `:=`.
use Rattle.std.proofs.Common.{◌≡◌, ℕ, ◌+◌, ◌<◌, List, [], ◌∷◌, ◌++◌, Some, None, ap, ◌∙◌, arith, inr}
use Rattle.std.specs.Option.{option_and_then}
use Rattle.fcp_model.specs.Terms.{Term}
use Rattle.fcp_model.specs.Expressions.{Expr, leaf}
use Rattle.fcp_model.specs.Programs.{unifies, assigns}
use Rattle.fcp_model.specs.ClosedPrograms.{Over, ExprOver, IsNumbered}
use Rattle.heap_words.specs.Heaps.{inside_at}
use Rattle.word_states.specs.Words.{Grows}
use Rattle.word_states.specs.Denoting.{Addresses, Denotes}
use Rattle.goal_layout.specs.FirstFit.{fit, first_fit}
use Rattle.goal_layout.specs.PieceSizes.{term_sizes, expr_sizes, goal_sizes}
use Rattle.goal_layout.specs.Pages.{rooms}
use Rattle.goal_layout.specs.Laying.{Lays, places_of, settled_term, settled_expr}
use Rattle.goal_layout.specs.Items.{LaysProcess, LaysHeaded, LaysUnify, LaysAssign}
use Rattle.word_states.proofs.Persisting.{denotes_on, expr_on}
use Rattle.goal_layout.proofs.Lays.{first_fit-append, lays_then, lays_grows}
use Rattle.goal_layout.proofs.Listing.{LaysAlways}
use Rattle.goal_layout.proofs.Operating.{LaysExprAlways}
use Rattle.goal_layout.proofs.Heading.{headed, headed_grows, args_denote}

-- no room for the first side, for the second, for the process
pub first_side_misses : (rs xs ys : List ℕ) → first_fit rs xs ≡ None → first_fit rs (xs ++ ys) ≡ None
first_side_misses rs xs ys none = first_fit-append rs xs ys ∙ ap (option_and_then (λ ss. first_fit ss ys)) none

pub second_side_misses : (rs rs' xs ys : List ℕ) → first_fit rs xs ≡ Some rs' → first_fit rs' ys ≡ None → first_fit rs (xs ++ ys) ≡ None
second_side_misses rs rs' xs ys fits none = first_fit-append rs xs ys ∙ ap (option_and_then (λ ss. first_fit ss ys)) fits ∙ none

pub process_misses : (rs : List ℕ) (n : ℕ) → fit n rs ≡ None → first_fit rs (n ∷ []) ≡ None
process_misses rs n none = ap (option_and_then (λ ss. Some ss)) none

module _ (t u : Term ℕ) (ws w1 w2 : List ℕ) (x y : ℕ) (first : LaysAlways t x ws w1) (second : LaysAlways u y w1 w2) where
  pub unify_misses : (vars : ℕ) → Over (IsNumbered vars) t → Over (IsNumbered vars) u → fit 6 (rooms w2) ≡ None
      → first_fit (rooms ws) (goal_sizes (unifies t u)) ≡ None
  unify_misses vars ot ou none =
      second_side_misses (rooms ws) (rooms w1) (term_sizes t) (term_sizes u ++ 6 ∷ []) (first vars ot).lays.fits
      (second_side_misses (rooms w1) (rooms w2) (term_sizes u) (6 ∷ []) (second vars ou).lays.fits (process_misses (rooms w2) 6 none))

  pub unify_laid : (w3 : List ℕ) (k f p : ℕ) → k < 0x100000000 → f < 0x100000000 → LaysProcess k f (x ∷ y ∷ []) p w2 w3 → (vars : ℕ)
      → Over (IsNumbered vars) t → Over (IsNumbered vars) u → LaysUnify vars t u f k p ws w3
  unify_laid w3 k f p small call h vars ot ou = record {
    first = x;
    second = y;
    headed = done;
    args = args_denote (inside_at w3) vs (p + 4) (x ∷ y ∷ []) (settled_term t ∷ settled_term u ∷ []) done.stand (
      denotes_on (inside_at w2) (inside_at w3) vs vs grows (λ v a m. m) x (settled_term t) left,
      (denotes_on (inside_at w2) (inside_at w3) vs vs grows (λ v a m. m) y (settled_term u) (second vars ou).word, tt),
    );
  }
    where
      vs : Addresses
      vs = places_of vars

      lays : Lays vs (term_sizes t ++ term_sizes u) ws w2
      lays = lays_then vs (term_sizes t) (term_sizes u) ws w1 w2 (first vars ot).lays (second vars ou).lays

      left : Denotes (inside_at w2) vs x (settled_term t)
      left = denotes_on (inside_at w1) (inside_at w2) vs vs
          (lays_grows vs (term_sizes u) w1 w2 (first vars ot).lays.pages (second vars ou).lays) (λ v a m. m) x (settled_term t)
          (first vars ot).word

      done : LaysHeaded vs (term_sizes t ++ term_sizes u) k f (x ∷ y ∷ []) p ws w3
      done = headed vs (term_sizes t ++ term_sizes u) k f (x ∷ y ∷ []) p ws w2 w3 lays h
          (inr (leaf (settled_term t), left), (inr (leaf (settled_term u), (second vars ou).word), tt)) small call (omega arith)

      grows : Grows (inside_at w2) (inside_at w3)
      grows = headed_grows vs (term_sizes t ++ term_sizes u) k f (x ∷ y ∷ []) p ws w2 w3 lays h
          (inr (leaf (settled_term t), left), (inr (leaf (settled_term u), (second vars ou).word), tt)) small call (omega arith)

module _ (t : Term ℕ) (e : Expr ℕ) (ws w1 w2 : List ℕ) (x y : ℕ) (first : LaysAlways t x ws w1) (second : LaysExprAlways e y w1 w2) where
  pub assign_misses : (vars : ℕ) → Over (IsNumbered vars) t → ExprOver (IsNumbered vars) e → fit 6 (rooms w2) ≡ None
      → first_fit (rooms ws) (goal_sizes (assigns t e)) ≡ None
  assign_misses vars ot oe none =
      second_side_misses (rooms ws) (rooms w1) (term_sizes t) (expr_sizes e ++ 6 ∷ []) (first vars ot).lays.fits
      (second_side_misses (rooms w1) (rooms w2) (expr_sizes e) (6 ∷ []) (second vars oe).lays.fits (process_misses (rooms w2) 6 none))

  pub assign_laid : (w3 : List ℕ) (k f p : ℕ) → k < 0x100000000 → f < 0x100000000 → LaysProcess k f (x ∷ y ∷ []) p w2 w3 → (vars : ℕ)
      → Over (IsNumbered vars) t → ExprOver (IsNumbered vars) e → LaysAssign vars t e f k p ws w3
  assign_laid w3 k f p small call h vars ot oe = record {
    first = x;
    second = y;
    headed = done;
    left = denotes_on (inside_at w2) (inside_at w3) vs vs grows (λ v a m. m) x (settled_term t) left;
    right = expr_on (inside_at w2) (inside_at w3) vs vs grows (λ v a m. m) y (settled_expr e) (second vars oe).word;
  }
    where
      vs : Addresses
      vs = places_of vars

      lays : Lays vs (term_sizes t ++ expr_sizes e) ws w2
      lays = lays_then vs (term_sizes t) (expr_sizes e) ws w1 w2 (first vars ot).lays (second vars oe).lays

      left : Denotes (inside_at w2) vs x (settled_term t)
      left = denotes_on (inside_at w1) (inside_at w2) vs vs
          (lays_grows vs (expr_sizes e) w1 w2 (first vars ot).lays.pages (second vars oe).lays) (λ v a m. m) x (settled_term t)
          (first vars ot).word

      done : LaysHeaded vs (term_sizes t ++ expr_sizes e) k f (x ∷ y ∷ []) p ws w3
      done = headed vs (term_sizes t ++ expr_sizes e) k f (x ∷ y ∷ []) p ws w2 w3 lays h
          (inr (leaf (settled_term t), left), (inr (settled_expr e, (second vars oe).word), tt)) small call (omega arith)

      grows : Grows (inside_at w2) (inside_at w3)
      grows = headed_grows vs (term_sizes t ++ expr_sizes e) k f (x ∷ y ∷ []) p ws w2 w3 lays h
          (inr (leaf (settled_term t), left), (inr (settled_expr e, (second vars oe).word), tt)) small call (omega arith)
