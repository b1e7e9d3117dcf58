-- What is said of terminals is said of the tokens that have them.
use Rattle.std.proofs.Common.{◌≡◌, ◌<◌, ◌≤◌, ◌+◌, List, [], ◌∷◌, ◌++◌, take, length, ℕ, zero, suc, ap, ◌∙◌, sym, Some, Bool, arith, inl, inr, append_assoc}
use Rattle.std.specs.Prelude.{slice_get, pos, codes}
use Rattle.std.proofs.lemmas.Option.{slice_get_within}
use Rattle.fcp_model.specs.NameList.{number_of}
use Rattle.fcp_model.specs.declared.fault.Code.{Code}
use Rattle.fcp_model.specs.declared.fault.Code.TheVariants as code
use Rattle.fcp_model.specs.declared.names.Sym.{Sym}
use Rattle.fcp_grammar.specs.declared.terminals.Terminal.{Terminal}
use Rattle.fcp_grammar.specs.declared.terminals.Terminal.TheVariants as terminal
use Rattle.fcp_grammar.specs.Grammar.{Marked}
use Rattle.fcp_grammar.proofs.Complete as G
use Rattle.fcp_terminals.specs.declared.variables.Form.{Form}
use Rattle.fcp_terminals.specs.Lexemes.{Lexeme}
use Rattle.fcp_terminals.specs.Numbering.{Env, terminals_from, env_from}
use Rattle.fcp_terminals.proofs.Completions as C
use Rattle.fcp_terminals.proofs.Completions.{HasTokens, steady-terminal, simple-terminals, name-terminals, int-steady, round_open-steady, square_open-steady, slash-steady, round_close-steady, square_close-steady, curly_close-steady, equals-steady, less-steady}
use Rattle.fcp_terminals.proofs.Walks.{terminals-append, terminals-take, terminals-length}
use Rattle.fcp_reader.specs.Faults.{unmarked, Begins, Sound, SoundBefore, FaultAt, IsFirstFault}
use Rattle.fcp_reader.specs.TokenFaults.{Begun, IsSound, AreSoundBefore, HasFaultAt, IsFirst}
use Rattle.fcp_reader.proofs.Completions.{Completion, simple, string, open_string, CompletedBehind}
use Rattle.fcp_reader.proofs.Machines.{Machine}
use Rattle.fcp_reader.proofs.Verdicts.{completed-at, unmarked-clean}

-- ---- a completion is the terminals of some tokens

simple-of : (k : ℕ) (ws : List Marked) → G.Simple k ws → C.Simple k (unmarked ws)
simple-of k _ G.done = C.done
simple-of k _ G.dot = C.dot
simple-of k _ (G.zero m ws s) = C.steady (terminal.Int (pos 0) 0) (unmarked ws) (int-steady (pos 0) 0) (simple-of k ws s)
simple-of k _ (G.round ws s) = C.steady terminal.RoundClose (unmarked ws) round_close-steady (simple-of k ws s)
simple-of k _ (G.square ws s) = C.steady terminal.SquareClose (unmarked ws) square_close-steady (simple-of k ws s)
simple-of k _ (G.curly ws s) = C.steady terminal.CurlyClose (unmarked ws) curly_close-steady (simple-of k ws s)
simple-of k _ (G.less ws s) = C.steady _ (unmarked ws) less-steady (simple-of k ws s)
simple-of k _ (G.equals ws s) = C.steady terminal.Equals (unmarked ws) equals-steady (simple-of k ws s)
simple-of k _ (G.open_round ws s) = C.steady (terminal.RoundOpen 0) (unmarked ws) (round_open-steady 0) (simple-of k ws s)
simple-of k _ (G.open_square ws s) = C.steady (terminal.SquareOpen 0) (unmarked ws) (square_open-steady 0) (simple-of k ws s)
simple-of k _ (G.slash ws s) = C.steady _ (unmarked ws) (slash-steady 0) (simple-of k ws s)

-- the number that the name `a` has behind some strings
abbrev name_a : Env → Sym
name_a e = record { 0 = number_of e.names (codes "a") }

completion-tokens : (f : Form) (e : Env) (ws : List Marked) → Completion (length e.variables) (name_a e) ws → HasTokens f e (unmarked ws)
completion-tokens f e _ (simple ws s) = simple-terminals f e (unmarked ws) (simple-of (length e.variables) ws s)
completion-tokens f e _ (string ws s) = name-terminals f e (codes "a") 0 (unmarked ws) (simple-of (length e.variables) ws s)
completion-tokens f e _ (open_string ws s) =
    steady-terminal f e (terminal.RoundOpen 0) _ (round_open-steady 0)
    (name-terminals f e (codes "a") 0 (unmarked ws) (simple-of (length e.variables) ws s))

-- one more terminal
take-get : {A : Type 0} (xs : List A) (n : ℕ) (x : A) → slice_get xs n ≡ Some x → take (n + 1) xs ≡ take n xs ++ x ∷ []
take-get [] n x e = absurd (cc)
take-get (y ∷ ys) zero x e = let s : y ≡ x = cc in ap (λ z. z ∷ []) s
take-get (y ∷ ys) (suc n) x e =
    let s : suc n + 1 ≡ suc (n + 1) = omega arith in ap (λ k. take k (y ∷ ys)) s ∙ ap (λ zs. y ∷ zs) (take-get ys n x e)

module _ {S T P V : Type 0} (M : Machine S T P V) (f : Form) (e : Env) (ls : List Lexeme) where
  abbrev ws : List Terminal
  ws = terminals_from f e ls

  -- terminals that some completion goes on are those of tokens that begin a text
  begun-by : (n : ℕ) (tree : T) (close : List Marked)
      → Completion (length (env_from f e (take n ls)).variables) (name_a (env_from f e (take n ls))) close
      → unmarked (M.spell tree) ≡ take n ws ++ unmarked close → Begun M.spell f e (take n ls)
  begun-by n tree close c is =
      let h : HasTokens f (env_from f e (take n ls)) (unmarked close) = completion-tokens f (env_from f e (take n ls)) close c in
      record {
        tree = tree;
        more = h.0;
        is =
            is ∙ ap (λ us. us ++ unmarked close) (terminals-take f e n ls) ∙ ap (λ us. terminals_from f e (take n ls) ++ us) (sym h.1)
            ∙ sym (terminals-append f e (take n ls) h.0);
      }

  begun-at : (n : ℕ) (w : Terminal) → slice_get ws n ≡ Some w → SoundBefore M.spell ws n → Begins M.spell (take n ws ++ w ∷ [])
      → Begun M.spell f e (take (n + 1) ls)
  begun-at n w g s b =
      let within : n < length ws = slice_get_within ws n w g in
      let d : Env = env_from f e (take (n + 1) ls) in
      let c : (m : Bool) × CompletedBehind M.spell (length d.variables) (name_a d) (take n ws) w m =
      completed-at M (length d.variables) (name_a d) ws n w (omega arith) s b in
      begun-by (n + 1) c.1.tree c.1.close c.1.completes
      (ap unmarked c.1.spelled ∙ unmarked-clean (take n ws) ((w, c.0) ∷ c.1.close)
      ∙ sym (append_assoc (take n ws) (w ∷ []) (unmarked c.1.close)) ∙ ap (λ us. us ++ unmarked c.1.close) (sym (take-get ws n w g)))

  begins-of : (n : ℕ) (w : Terminal) → slice_get ws n ≡ Some w → Begun M.spell f e (take (n + 1) ls) → Begins M.spell (take n ws ++ w ∷ [])
  begins-of n w g b = record {
    tree = b.tree;
    more = terminals_from f (env_from f e (take (n + 1) ls)) b.more;
    is =
        b.is ∙ terminals-append f e (take (n + 1) ls) b.more
        ∙ ap (λ us. us ++ terminals_from f (env_from f e (take (n + 1) ls)) b.more)
        (sym (terminals-take f e (n + 1) ls) ∙ take-get ws n w g);
  }

  -- ---- faults

  sound-tokens : (n : ℕ) → SoundBefore M.spell ws n → AreSoundBefore M.spell f e ls n
  sound-tokens n s k l w g =
      let h : Sound M.spell (take k ws) w = s k l w g in
      record { begun = begun-at k w g (λ j m. s j (omega (arith, l, m))) h.begins; shallow = h.shallow; small = h.small }

  sound-terminals : (n : ℕ) → AreSoundBefore M.spell f e ls n → SoundBefore M.spell ws n
  sound-terminals n s k l w g =
      let h : IsSound M.spell f e ls k w = s k l w g in
      record { begins = begins-of k w g h.begun; shallow = h.shallow; small = h.small }

  fault-tokens : (c : Code) (n : ℕ) (w : Terminal) → slice_get ws n ≡ Some w → SoundBefore M.spell ws n → FaultAt M.spell c (take n ws) w
      → HasFaultAt M.spell f e c ls n w
  fault-tokens code.Unexpected n w g s h = λ b. h (begins-of n w g b)
  fault-tokens code.TooDeep n w g s h = (begun-at n w g s h.0, h.1)
  fault-tokens code.TooLarge n w g s h = (begun-at n w g s h.0, h.1, h.2)
  fault-tokens _ n w g s h = absurd h

  fault-terminals : (c : Code) (n : ℕ) (w : Terminal) → slice_get ws n ≡ Some w → SoundBefore M.spell ws n → HasFaultAt M.spell f e c ls n w
      → FaultAt M.spell c (take n ws) w
  fault-terminals code.Unexpected n w g s h = λ b. h (begun-at n w g s b)
  fault-terminals code.TooDeep n w g s h = (begins-of n w g h.0, h.1)
  fault-terminals code.TooLarge n w g s h = (begins-of n w g h.0, h.1, h.2)
  fault-terminals _ n w g s h = absurd h

  -- the first fault of terminals is that of the tokens, and the other way round
  pub first-of-tokens : (c : Code) (n : ℕ) → IsFirstFault M.spell ws c n → IsFirst M.spell f e ls c n
  first-of-tokens c n h = record {
    before = sound-tokens n h.0;
    here = elim h.1 [
      | inl a ↦ inl (a.0 ∙ terminals-length f e ls, a.1)
      | inr a ↦ inr (a.0, a.1, fault-tokens c n a.0 a.1 h.0 a.2)
    ];
  }

  pub first-of-terminals : (c : Code) (n : ℕ) → IsFirst M.spell f e ls c n → IsFirstFault M.spell ws c n
  first-of-terminals c n h =
      let s : SoundBefore M.spell ws n = sound-terminals n h.before in (
        s,
        elim h.here [
          | inl a ↦ inl (a.0 ∙ sym (terminals-length f e ls), a.1)
          | inr a ↦ inr (a.0, a.1, fault-terminals c n a.0 a.1 s a.2)
        ],
      )
