-- The machine follows what a tree spells.
use Rattle.std.proofs.Common.{◌≡◌, List, [], ◌∷◌, ◌++◌, refl, ap, ◌∙◌, sym, subst, Option, Some, None, Bool, true, false, ℕ}
use Rattle.fcp_model.specs.declared.term.Term.TheVariants as T
use Rattle.fcp_model.specs.declared.names.Sym.{Sym}
use Rattle.fcp_grammar.specs.declared.terminals.Terminal.{Terminal}
use Rattle.fcp_grammar.specs.declared.terminals.Terminal.TheVariants as terminal
use Rattle.fcp_grammar.specs.declared.terms.Frame.{Frame}
use Rattle.fcp_grammar.specs.declared.terms.Frame.TheVariants as F
use Rattle.fcp_grammar.specs.declared.terms.Phase.{Phase}
use Rattle.fcp_grammar.specs.declared.terms.Phase.TheVariants as P
use Rattle.fcp_grammar.specs.declared.terms.TermAt.{TermAt}
use Rattle.fcp_grammar.specs.declared.terms.Told.TheVariants.{Read}
use Rattle.fcp_grammar.specs.Terms.{begin, term_of, in_frame, behind, step_by, step, full, is_large, large_by}
use Rattle.fcp_grammar.specs.Grammar.{Marked, Tree, Trees, int, call, name_alone, with_arguments, variable, read_only, nil, list, list_rest, braces, none, and, value, values, plain, spell, spells}

abbrev pub at : List Frame → Phase → TermAt
at stack phase = record { stack = stack; phase = phase }

-- the phase behind a tree
abbrev pub phase_of : Tree → Phase
phase_of (int n at) = P.Have at (T.Int n)
phase_of (call (name_alone s sp at)) = P.Named at s
phase_of (call (with_arguments s sp at o ts t)) = P.Called at s (values ts ++ value t ∷ [])
phase_of (variable k at) = P.Variable at k
phase_of (read_only k at) = P.Have at (T.Ro k)
phase_of (nil at) = P.Have at T.Nil
phase_of (list at ts t) = P.Have at (value (list at ts t))
phase_of (list_rest at ts t u) = P.Have at (value (list_rest at ts t u))
phase_of (braces at ts t) = P.Have at (value (braces at ts t))

abbrev pub then : {S : Type 0} → Option S → (S → Option S) → Option S
then (Some s) f = f s
then None f = None

abbrev pub follow : {S : Type 0} → (S → Marked → Option S) → S → List Marked → Option S
follow go s [] = Some s
follow go s (m ∷ ms) = then (go s m) (λ s'. follow go s' ms)

-- From s with these terminals it comes to t with those. A record, so that antt finds its arguments.
pub record Runs {S : Type 0} (go : S → Marked → Option S) (s : S) (ms : List Marked) (t : S) (ns : List Marked) : Type 0 where
  pub same : follow go s ms ≡ follow go t ns

infixr 5 ◌⟫◌
pub ◌⟫◌ : {S : Type 0} {go : S → Marked → Option S} {s t u : S} {ms ns os : List Marked} → Runs go s ms t ns → Runs go t ns u os
    → Runs go s ms u os
a ⟫ b = record { same = a.same ∙ b.same }

-- a machine that reads a term as the term's own machine does
pub record Holds {S : Type 0} (go : S → Marked → Option S) (outside : Bool) (C : TermAt → S) : Type 0 where
  pub moves : (x y : TermAt) (w : Terminal) → step x w ≡ Read y → go (C x) (w, is_large outside x w) ≡ Some (C y)

-- terminals that go on no term
abbrev pub IsPlain : Terminal → Type 0
IsPlain (terminal.RoundOpen at) = ⊥
IsPlain terminal.Question = ⊥
IsPlain _ = Unit {0}

pub term_of-phase : (t : Tree) → term_of (phase_of t) ≡ value t
unfolding term_of
term_of-phase (int n at) = refl
term_of-phase (call (name_alone s sp at)) = refl
term_of-phase (call (with_arguments s sp at o ts t)) = refl
term_of-phase (variable k at) = refl
term_of-phase (read_only k at) = refl
term_of-phase (nil at) = refl
term_of-phase (list at ts t) = refl
term_of-phase (list_rest at ts t u) = refl
term_of-phase (braces at ts t) = refl

pub step-behind : (t : Tree) (stack : List Frame) (w : Terminal) → IsPlain w → step_by stack (phase_of t) w ≡ behind stack (phase_of t) w
unfolding step_by
step-behind (int n at) stack w h = refl
step-behind (call (name_alone s sp at)) stack (terminal.RoundOpen o) h = absurd h
step-behind (call (name_alone s sp at)) stack _ h = refl
step-behind (call (with_arguments s sp at o ts t)) stack w h = refl
step-behind (variable k at) stack terminal.Question h = absurd h
step-behind (variable k at) stack _ h = refl
step-behind (read_only k at) stack w h = refl
step-behind (nil at) stack w h = refl
step-behind (list at ts t) stack w h = refl
step-behind (list_rest at ts t u) stack w h = refl
step-behind (braces at ts t) stack w h = refl

pub step-in_frame : (t : Tree) (frame : Frame) (stack : List Frame) (w : Terminal) → IsPlain w
    → step_by (frame ∷ stack) (phase_of t) w ≡ in_frame frame stack (value t) w
unfolding behind
step-in_frame t frame stack w h = step-behind t (frame ∷ stack) w h ∙ ap (λ v. in_frame frame stack v w) (term_of-phase t)

-- behind a term nothing is too many
pub large-behind : (t : Tree) (outside : Bool) (stack : List Frame) (w : Terminal) → IsPlain w
    → is_large outside (at stack (phase_of t)) w ≡ large_by false w
unfolding is_large
large-behind (int n at) outside stack w h = refl
large-behind (call (name_alone s sp at)) outside stack w h = refl
large-behind (call (with_arguments s sp at o ts t)) outside stack w h = refl
large-behind (variable k at) outside stack w h = refl
large-behind (read_only k at) outside stack w h = refl
large-behind (nil at) outside stack w h = refl
large-behind (list at ts t) outside stack w h = refl
large-behind (list_rest at ts t u) outside stack w h = refl
large-behind (braces at ts t) outside stack w h = refl

module _ {S : Type 0} (go : S → Marked → Option S) (outside : Bool) (C : TermAt → S) (holds : Holds go outside C) where
  go_on : (x y : TermAt) (w : Terminal) (rest : List Marked) → step x w ≡ Read y
      → Runs go (C x) ((w, is_large outside x w) ∷ rest) (C y) rest
  go_on x y w rest e = record { same = ap (λ o. then o (λ s. follow go s rest)) (holds.moves x y w e) }

  -- a terminal in the bracket behind a term
  go_behind : (t : Tree) (frame : Frame) (stack : List Frame) (y : TermAt) (w : Terminal) (rest : List Marked) → IsPlain w
      → large_by false w ≡ false → in_frame frame stack (value t) w ≡ Read y
      → Runs go (C (at (frame ∷ stack) (phase_of t))) (plain w ∷ rest) (C y) rest
  go_behind t frame stack y w rest p o e =
      let m : large_by false w ≡ false = o in
      let Q : Bool → Type 0 = λ b. Runs go (C (at (frame ∷ stack) (phase_of t))) ((w, b) ∷ rest) (C y) rest in
      subst Q (large-behind t outside (frame ∷ stack) w p ∙ o)
      (go_on (at (frame ∷ stack) (phase_of t)) y w rest (step-in_frame t frame stack w p ∙ e))

  opened-same : (a : ℕ) (stack : List Frame) (rest : List Marked) (y : TermAt) (w : Terminal) → step_by stack (P.Opened a) w ≡ Read y
      → step_by (F.List a [] ∷ stack) P.Want w ≡ Read y
      → Runs go (C (at stack (P.Opened a))) ((w, large_by false w) ∷ rest) (C (at (F.List a [] ∷ stack) P.Want))
      ((w, large_by false w) ∷ rest)
  unfolding full is_large
  opened-same a stack rest y w e d =
      record { same = (go_on (at stack (P.Opened a)) y w rest e).same ∙ sym (go_on (at (F.List a [] ∷ stack) P.Want) y w rest d).same }

  opened-tree : (a : ℕ) (t : Tree) (stack : List Frame) (rest : List Marked)
      → Runs go (C (at stack (P.Opened a))) (spell false t rest) (C (at (F.List a [] ∷ stack) P.Want)) (spell false t rest)
  unfolding step_by begin full is_large
  opened-tree a (int n b) stack rest = opened-same a stack _ _ (terminal.Int n b) refl refl
  opened-tree a (call (name_alone s sp b)) stack rest = opened-same a stack _ _ (terminal.Str s sp b) refl refl
  opened-tree a (call (with_arguments s sp b o ts u)) stack rest = opened-same a stack _ _ (terminal.Str s sp b) refl refl
  opened-tree a (variable k b) stack rest = opened-same a stack _ _ (terminal.Var k b) refl refl
  opened-tree a (read_only k b) stack rest = opened-same a stack _ _ (terminal.Var k b) refl refl
  opened-tree a (nil b) stack rest = opened-same a stack _ _ (terminal.SquareOpen b) refl refl
  opened-tree a (list b ts u) stack rest = opened-same a stack _ _ (terminal.SquareOpen b) refl refl
  opened-tree a (list_rest b ts u v) stack rest = opened-same a stack _ _ (terminal.SquareOpen b) refl refl
  opened-tree a (braces b ts u) stack rest = opened-same a stack _ _ (terminal.CurlyOpen b) refl refl

  opened-trees : (a : ℕ) (ts : Trees) (t : Tree) (stack : List Frame) (rest : List Marked)
      → Runs go (C (at stack (P.Opened a))) (spells false ts (spell false t rest)) (C (at (F.List a [] ∷ stack) P.Want))
      (spells false ts (spell false t rest))
  opened-trees a none t stack rest = opened-tree a t stack rest
  opened-trees a (and ts u) t stack rest = opened-trees a ts u stack _

  mutual
    unfolding step_by begin full is_large in_frame

    pub follow-tree : (t : Tree) (stack : List Frame) (rest : List Marked)
        → Runs go (C (at stack P.Want)) (spell (full outside stack) t rest) (C (at stack (phase_of t))) rest
    follow-tree (int n a) stack rest = go_on (at stack P.Want) (at stack (phase_of (int n a))) (terminal.Int n a) rest refl
    follow-tree (call (name_alone s sp a)) stack rest =
        go_on (at stack P.Want) (at stack (phase_of (call (name_alone s sp a)))) (terminal.Str s sp a) rest refl
    follow-tree (variable k a) stack rest = go_on (at stack P.Want) (at stack (phase_of (variable k a))) (terminal.Var k a) rest refl
    follow-tree (read_only k a) stack rest =
        go_on (at stack P.Want) (at stack (P.Variable a k)) (terminal.Var k a) (plain terminal.Question ∷ rest) refl
        ⟫ go_on (at stack (P.Variable a k)) (at stack (phase_of (read_only k a))) terminal.Question rest refl
    follow-tree (nil a) stack rest =
        go_on (at stack P.Want) (at stack (P.Opened a)) (terminal.SquareOpen a) (plain terminal.SquareClose ∷ rest) refl
        ⟫ go_on (at stack (P.Opened a)) (at stack (phase_of (nil a))) terminal.SquareClose rest refl
    follow-tree (call (with_arguments s sp a o ts t)) stack rest =
        go_on (at stack P.Want) (at stack (P.Named a s)) (terminal.Str s sp a) _ refl
        ⟫ go_on (at stack (P.Named a s)) (at (F.Call a s [] ∷ stack) P.Want) (terminal.RoundOpen o) _ refl
        ⟫ follow-call a s ts stack _
        ⟫ follow-tree t (F.Call a s (values ts) ∷ stack) _
        ⟫ go_behind t (F.Call a s (values ts)) stack
        (at stack (phase_of (call (with_arguments s sp a o ts t)))) terminal.RoundClose rest tt refl refl
    follow-tree (braces a ts t) stack rest =
        go_on (at stack P.Want) (at (F.Braces a [] ∷ stack) P.Want) (terminal.CurlyOpen a) _ refl
        ⟫ follow-braces a ts stack _
        ⟫ follow-tree t (F.Braces a (values ts) ∷ stack) _
        ⟫ go_behind t (F.Braces a (values ts)) stack (at stack (phase_of (braces a ts t))) terminal.CurlyClose rest tt refl refl
    follow-tree (list a ts t) stack rest =
        go_on (at stack P.Want) (at stack (P.Opened a)) (terminal.SquareOpen a) _ refl
        ⟫ opened-trees a ts t stack _
        ⟫ follow-list a ts stack _
        ⟫ follow-tree t (F.List a (values ts) ∷ stack) _
        ⟫ go_behind t (F.List a (values ts)) stack (at stack (phase_of (list a ts t))) terminal.SquareClose rest tt refl refl
    follow-tree (list_rest a ts t u) stack rest =
        go_on (at stack P.Want) (at stack (P.Opened a)) (terminal.SquareOpen a) _ refl
        ⟫ opened-trees a ts t stack _
        ⟫ follow-list a ts stack _
        ⟫ follow-tree t (F.List a (values ts) ∷ stack) _
        ⟫ go_behind t (F.List a (values ts)) stack (at (F.Rest a (values ts ++ value t ∷ []) ∷ stack) P.Want) terminal.Bar _ tt refl refl
        ⟫ follow-tree u (F.Rest a (values ts ++ value t ∷ []) ∷ stack) _
        ⟫ go_behind u (F.Rest a (values ts ++ value t ∷ [])) stack
        (at stack (phase_of (list_rest a ts t u))) terminal.SquareClose rest tt refl refl

    follow-call : (a : ℕ) (s : Sym) (ts : Trees) (stack : List Frame) (rest : List Marked)
        → Runs go (C (at (F.Call a s [] ∷ stack) P.Want)) (spells true ts rest) (C (at (F.Call a s (values ts) ∷ stack) P.Want)) rest
    follow-call a s none stack rest = record { same = refl }
    follow-call a s (and ts t) stack rest =
        follow-call a s ts stack _
        ⟫ follow-tree t (F.Call a s (values ts) ∷ stack) _
        ⟫ go_behind t (F.Call a s (values ts)) stack (at (F.Call a s (values (and ts t)) ∷ stack) P.Want) terminal.Comma rest tt refl refl

    follow-braces : (a : ℕ) (ts : Trees) (stack : List Frame) (rest : List Marked)
        → Runs go (C (at (F.Braces a [] ∷ stack) P.Want)) (spells true ts rest) (C (at (F.Braces a (values ts) ∷ stack) P.Want)) rest
    follow-braces a none stack rest = record { same = refl }
    follow-braces a (and ts t) stack rest =
        follow-braces a ts stack _
        ⟫ follow-tree t (F.Braces a (values ts) ∷ stack) _
        ⟫ go_behind t (F.Braces a (values ts)) stack (at (F.Braces a (values (and ts t)) ∷ stack) P.Want) terminal.Comma rest tt refl refl

    follow-list : (a : ℕ) (ts : Trees) (stack : List Frame) (rest : List Marked)
        → Runs go (C (at (F.List a [] ∷ stack) P.Want)) (spells false ts rest) (C (at (F.List a (values ts) ∷ stack) P.Want)) rest
    follow-list a none stack rest = record { same = refl }
    follow-list a (and ts t) stack rest =
        follow-list a ts stack _
        ⟫ follow-tree t (F.List a (values ts) ∷ stack) _
        ⟫ go_behind t (F.List a (values ts)) stack (at (F.List a (values (and ts t)) ∷ stack) P.Want) terminal.Comma rest tt refl refl
