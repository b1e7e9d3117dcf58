-- The terminals of the tokens of a text are bounded.
use Rattle.std.proofs.Common.{◌≡◌, ◌≤◌, ◌<◌, ◌+◌, ℕ, suc, List, [], ◌∷◌, ◌++◌, length, Option, Some, None, Bool, true, false, refl, sym, ap, subst, arith, length-append}
use Rattle.std.specs.Prelude.{◌==◌, ◌||◌, nat_lt, if◌then◌else◌, cond, position, find, codes}
use Rattle.std.specs.List.{list_all}
use Rattle.std.specs.Str.{bytes_eq}
use Rattle.std.proofs.lemmas.Bool.{and_parts, eqb-true, ltb-true, ltb-false}
use Rattle.std.proofs.lemmas.List.Quantifiers.{position-Some}
use Rattle.fcp_grammar.specs.declared.terminals.StringForm.TheVariants as string
use Rattle.fcp_grammar.specs.declared.terminals.Terminal.{Terminal}
use Rattle.fcp_grammar.specs.declared.terminals.Terminal.TheVariants as terminal
use Rattle.fcp_grammar.specs.Grammar.{Marked, plain}
use Rattle.fcp_text.specs.declared.pieces.Kind.{Kind}
use Rattle.fcp_text.specs.declared.pieces.Kind.TheVariants as kind
use Rattle.fcp_text.specs.Bytes.{Text}
use Rattle.fcp_text.specs.QuotedStrings.{unquoted}
use Rattle.fcp_terminals.specs.declared.variables.Form.{Form}
use Rattle.fcp_terminals.specs.declared.variables.Form.TheVariants.{Module, Goal}
use Rattle.fcp_terminals.specs.declared.variables.Variable.{Variable}
use Rattle.fcp_terminals.specs.Lexemes.{Lexeme}
use Rattle.fcp_terminals.specs.MarkTerminals.{mark_terminal, mark_terminals, terminal_in}
use Rattle.fcp_terminals.specs.Numbering as numbering
use Rattle.fcp_terminals.specs.Numbering.{Env, env, name_form, string_terminal, number_by, number, name_of, named, variable_by, with_variable, behind_mark, terminal_by, env_by, env_after, terminals_from, env_from}
use Rattle.fcp_reader.specs.Texts.{clean}
use Rattle.fcp_reader.proofs.Bounded.{Bounded, is_quiet, quiet-bounded}
use Rattle.fcp_text.specs.Signs as signs

-- ---- marks

-- the number of the `.`, or a quiet terminal
abbrev quiet_or_dot : ℕ × Terminal → Bool
quiet_or_dot x = x.0 == signs.dot || is_quiet x.1

quiet-one : (m : ℕ) (x : ℕ × Terminal) (o : Option (ℕ × Terminal)) (b : Bool) → (x.0 == m) ≡ b → (m == signs.dot) ≡ false
    → quiet_or_dot x ≡ true → is_quiet (terminal_in o) ≡ true
    → is_quiet (terminal_in (cond b (Some x) o)) ≡ true
quiet-one m x o true e d q h =
    let same : x.0 ≡ m = eqb-true x.0 m e in
    let other : (x.0 == signs.dot) ≡ false = subst (λ k. (k == 8) ≡ false) (sym same) d in
    subst (λ b. (b || is_quiet x.1) ≡ true) other q
quiet-one m x o false e d q h = h

quiet-found : (m : ℕ) (xs : List (ℕ × Terminal)) → (m == signs.dot) ≡ false → list_all quiet_or_dot xs ≡ true
    → is_quiet (terminal_in (find (λ w. w.0 == m) xs)) ≡ true
quiet-found m [] d h = refl
quiet-found m (x ∷ xs) d h =
    let q : (quiet_or_dot x ≡ true) × (list_all quiet_or_dot xs ≡ true) = and_parts (quiet_or_dot x) (list_all quiet_or_dot xs) h in
    quiet-one m x (find (λ w. w.0 == m) xs) (x.0 == m) refl d q.0 (quiet-found m xs d q.1)

-- each mark but the `.` has a quiet terminal
mark-quiet : (at k m : ℕ) → (m == signs.dot) ≡ false → is_quiet (mark_terminal at k m) ≡ true
unfolding mark_terminal
mark-quiet at k m d = quiet-found m (mark_terminals at k) d refl

mark-dot : (at k m : ℕ) → (m == signs.dot) ≡ true → mark_terminal at k m ≡ terminal.Dot k
unfolding mark_terminal
mark-dot at k m d = let same : m ≡ signs.dot = eqb-true m signs.dot d in ap (mark_terminal at k) same

-- ---- terminals, with what is known of those behind them

-- Some number bounds the terminals, and it is no less than the number of the variables so far.
pub record Known (f : Form) (n most_dots : ℕ) (vs : List Variable) (ws : List Marked) : Type 0 where
  pub bound : ℕ
  pub dots : ℕ
  pub least : length vs ≤ bound
  pub most : bound ≤ 250
  pub few : dots ≤ most_dots
  pub bounded : Bounded f n bound dots ws

not-none : (t : Bool) (o : Option ℕ) (i : ℕ) → (if t then None else o) ≡ Some i → o ≡ Some i
not-none true o i e = absurd (cc)
not-none false o i e = e

found-within : (vs : List Variable) (t : Text) (i : ℕ) → numbering.find vs t ≡ Some i → i < length vs
found-within vs t i e =
    (position-Some (λ (v : Variable). bytes_eq v.text t) vs i (record { text = []; name = None })
    (not-none (bytes_eq t (codes "_")) (position (λ (v : Variable). bytes_eq v.text t) vs) i e)).0

module _ (n b : ℕ) where
  quiet-known : (f : Form) (vs us : List Variable) (w : Terminal) (ws : List Marked) → is_quiet w ≡ true → us ≡ vs → Known f n b us ws
      → Known f n (suc b) vs (plain w ∷ ws)
  quiet-known f vs us w ws q e h = record {
    bound = h.bound;
    dots = h.dots;
    least = subst (λ x. length x ≤ h.bound) e h.least;
    most = h.most;
    few = omega (arith, h.few);
    bounded = quiet-bounded f (λ u c. Bounded f n u c ws) h.bound h.dots w q h.bounded;
  }

  -- ---- variables

  found-known : (f : Form) (vs : List Variable) (i at : ℕ) (ws : List Marked) → i < length vs → Known f n b vs ws
      → Known f n (suc b) vs (plain (terminal.Var (i + 1) at) ∷ ws)
  found-known f vs i at ws l h =
      let first : 1 ≤ i + 1 = omega arith in
      let below : i + 1 ≤ h.bound = omega (arith, h.least) in
      record {
        bound = h.bound;
        dots = h.dots;
        least = h.least;
        most = h.most;
        few = omega (arith, h.few);
        bounded = (refl, first, λ x. below, h.bounded);
      }

  new-known : (f : Form) (e : Env) (ns : List Text) (x : Variable) (at : ℕ) (ws : List Marked) (room : Bool)
      → nat_lt (length e.variables) 250 ≡ room
      → Known f n b (if room then env ns (e.variables ++ x ∷ []) else e).variables ws
      → Known f n (suc b) e.variables (plain (terminal.Var (length e.variables + 1) at) ∷ ws)
  new-known f e ns x at ws true s h =
      let long : length (e.variables ++ x ∷ []) ≡ length e.variables + 1 = length-append e.variables (x ∷ []) in
      let first : 1 ≤ length e.variables + 1 = omega arith in
      let below : length e.variables + 1 ≤ h.bound = subst (λ k. k ≤ h.bound) long h.least in
      record {
        bound = h.bound;
        dots = h.dots;
        least = omega arith;
        most = h.most;
        few = omega (arith, h.few);
        bounded = (refl, first, λ y. below, h.bounded);
      }
  new-known f e ns x at ws false s h =
      let full : 250 ≤ length e.variables = ltb-false (length e.variables) 250 s in
      let first : 1 ≤ length e.variables + 1 = omega arith in
      let past : length e.variables + 1 ≤ 250 → length e.variables + 1 ≤ h.bound = λ y. absurd (omega arith) in
      record {
        bound = h.bound;
        dots = h.dots;
        least = h.least;
        most = h.most;
        few = omega (arith, h.few);
        bounded = (refl, first, past, h.bounded);
      }

  variable-known : (f : Form) (e : Env) (t : Text) (at : ℕ) (ws : List Marked) (o : Option ℕ) → numbering.find e.variables t ≡ o
      → Known f n b (variable_by f e t o).variables ws
      → Known f n (suc b) e.variables (plain (terminal.Var (number_by e.variables o) at) ∷ ws)
  variable-known f e t at ws (Some i) q h = found-known f e.variables i at ws (found-within e.variables t i q) h
  variable-known f e t at ws None q h =
      new-known f e (named f e.names t) (record { text = t; name = name_of f e.names t }) at ws (nat_lt (length e.variables) 250) refl h

  -- ---- marks

  dot-known : (f : Form) (vs : List Variable) (m : ℕ) (ws : List Marked) → length vs ≤ 250 → Known f n b (behind_mark f m vs) ws
      → Known f n (suc b) vs (plain (terminal.Dot (length vs)) ∷ ws)
  dot-known Module vs m ws small h =
      let fewer : h.dots < suc h.dots = omega arith in
      record {
        bound = length vs;
        dots = suc h.dots;
        least = omega arith;
        most = small;
        few = omega (arith, h.few);
        bounded = (refl, small, (h.bound, h.dots, fewer, h.bounded));
      }
  dot-known Goal vs m ws small h =
      record { bound = h.bound; dots = h.dots; least = h.least; most = h.most; few = omega (arith, h.few); bounded = h.bounded }

  no-dot : (f : Form) (m : ℕ) (vs : List Variable) → (m == signs.dot) ≡ false → behind_mark f m vs ≡ vs
  no-dot Module m vs d = ap (λ x. if x then [] else vs) d
  no-dot Goal m vs d = refl

  mark-known : (f : Form) (vs : List Variable) (m at : ℕ) (ws : List Marked) (dot : Bool) → (m == signs.dot) ≡ dot → length vs ≤ 250
      → Known f n b (behind_mark f m vs) ws → Known f n (suc b) vs (plain (mark_terminal at (length vs) m) ∷ ws)
  mark-known f vs m at ws true d small h =
      subst (λ w. Known f n (suc b) vs (plain w ∷ ws)) (sym (mark-dot at (length vs) m d)) (dot-known f vs m ws small h)
  mark-known f vs m at ws false d small h =
      quiet-known f vs (behind_mark f m vs) (mark_terminal at (length vs) m) ws (mark-quiet at (length vs) m d) (no-dot f m vs d) h

  -- ---- any terminal

  terminal-known : (f : Form) (e : Env) (at : ℕ) (t : Text) (k : Kind) (ws : List Marked) → length e.variables ≤ 250
      → Known f n b (env_by f e t k).variables ws → Known f n (suc b) e.variables (plain (terminal_by e at t k) ∷ ws)
  unfolding number with_variable
  terminal-known f e at t kind.Name ws small h =
      quiet-known f e.variables e.variables (string_terminal e.names at t (name_form t)) ws refl refl h
  terminal-known f e at t kind.Quoted ws small h =
      quiet-known f e.variables e.variables (string_terminal e.names at (unquoted t) string.Quoted) ws refl refl h
  terminal-known f e at t kind.Variable ws small h = variable-known f e t at ws (numbering.find e.variables t) refl h
  terminal-known f e at t (kind.Int i) ws small h = quiet-known f e.variables e.variables (terminal.Int i at) ws refl refl h
  terminal-known f e at t (kind.Mark m) ws small h = mark-known f e.variables m at ws (m == signs.dot) refl small h

-- ---- there are never more than 250 variables

few-kept : (e : Env) (ns : List Text) (x : Variable) (room : Bool) → nat_lt (length e.variables) 250 ≡ room → length e.variables ≤ 250
    → length (if room then env ns (e.variables ++ x ∷ []) else e).variables ≤ 250
few-kept e ns x true s h =
    let long : length (e.variables ++ x ∷ []) ≡ length e.variables + 1 = length-append e.variables (x ∷ []) in
    let below : length e.variables < 250 = ltb-true (length e.variables) 250 s in
    omega arith
few-kept e ns x false s h = h

few-variable : (f : Form) (e : Env) (t : Text) (o : Option ℕ) → length e.variables ≤ 250 → length (variable_by f e t o).variables ≤ 250
few-variable f e t (Some i) h = h
few-variable f e t None h =
    few-kept e (named f e.names t) (record { text = t; name = name_of f e.names t }) (nat_lt (length e.variables) 250) refl h

few-reset : (dot : Bool) (vs : List Variable) → length vs ≤ 250 → length (if dot then [] else vs) ≤ 250
few-reset true vs h = omega arith
few-reset false vs h = h

few-mark : (f : Form) (m : ℕ) (vs : List Variable) → length vs ≤ 250 → length (behind_mark f m vs) ≤ 250
few-mark Module m vs h = few-reset (m == signs.dot) vs h
few-mark Goal m vs h = h

few-behind : (f : Form) (e : Env) (t : Text) (k : Kind) → length e.variables ≤ 250 → length (env_by f e t k).variables ≤ 250
unfolding with_variable
few-behind f e t kind.Name h = h
few-behind f e t kind.Quoted h = h
few-behind f e t kind.Variable h = few-variable f e t (numbering.find e.variables t) h
few-behind f e t (kind.Int i) h = h
few-behind f e t (kind.Mark m) h = few-mark f m e.variables h

-- the terminals of tokens, where n is the number of the variables behind them
pub terminals-known : (f : Form) (e : Env) (ls : List Lexeme) → length e.variables ≤ 250
    → Known f (length (env_from f e ls).variables) (length ls) e.variables (clean (terminals_from f e ls) [])
terminals-known f e [] small =
    record { bound = length e.variables; dots = 0; least = omega arith; most = small; few = omega arith; bounded = refl }
terminals-known f e (l ∷ ls) small =
    terminal-known (length (env_from f (env_after f e l) ls).variables) (length ls) f e l.at l.text l.kind
    (clean (terminals_from f (env_after f e l) ls) []) small
    (terminals-known f (env_after f e l) ls (few-behind f e l.text l.kind small))
