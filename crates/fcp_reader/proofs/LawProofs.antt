-- A text has one value, one first fault, and not both.
use Rattle.std.proofs.Common.{◌≡◌, ◌≤◌, ◌<◌, List, [], ◌∷◌, ◌++◌, take, length, ℕ, zero, suc, refl, ap, ◌∙◌, sym, subst, Some, false, arith, inl, inr, append_assoc}
use Rattle.std.specs.Prelude.{slice_get, ◌⊎◌}
use Rattle.fcp_model.specs.declared.fault.Code.{Code}
use Rattle.fcp_model.specs.declared.fault.Code.TheVariants as code
use Rattle.fcp_grammar.specs.declared.terminals.Terminal.{Terminal}
use Rattle.fcp_grammar.specs.Grammar.{Marked, plain}
use Rattle.fcp_reader.specs.Faults.{unmarked, Sound, SoundBefore, FaultAt, IsFirstFault, EndsSoon, Large}
use Rattle.fcp_reader.specs.Texts.{clean, Are}
use Rattle.fcp_grammar.proofs.Follow.{follow}
use Rattle.fcp_reader.proofs.Steps.{go, walk, step-of, then-some, follow-front}
use Rattle.fcp_reader.proofs.Machines.{Machine}
use Rattle.fcp_reader.proofs.Verdicts.{small, one-value, unmarked-front, clean-split, clean-is}
use Rattle.fcp_reader.proofs.Loops.{get-within}

abbrev At : {T : Type 0} → (T → List Marked) → List Terminal → Code → ℕ → Type 0
At spell ws c n = ((n ≡ length ws) × EndsSoon spell c ws) ⊎ ((w : Terminal) × (slice_get ws n ≡ Some w) × FaultAt spell c (take n ws) w)

same : (v w : Terminal) → Some v ≡ Some w → v ≡ w
same v w e = cc

module _ {T : Type 0} (spell : T → List Marked) where
  -- no fault stands where all is sound
  not-sound : (c : Code) (us : List Terminal) (w : Terminal) → Sound spell us w → FaultAt spell c us w → ⊥
  not-sound code.Unexpected us w s f = f s.begins
  not-sound code.TooDeep us w s f = s.shallow f.1
  not-sound code.TooLarge us w s f = s.small f.2
  not-sound _ us w s f = f

  -- a fault stands at n or before it, where all before n is sound
  not-before : (ws : List Terminal) (c : Code) (n k : ℕ) → SoundBefore spell ws n → n ≤ length ws → At spell ws c k → k < n → ⊥
  not-before ws c n k s m (inl h) l = let e : k ≡ length ws = h.0 in omega arith
  not-before ws c n k s m (inr h) l = not-sound c (take k ws) h.0 (s k l h.0 h.1) h.2

  at-most : (ws : List Terminal) (c : Code) (n : ℕ) → At spell ws c n → n ≤ length ws
  at-most ws c n (inl h) = let e : n ≡ length ws = h.0 in omega arith
  at-most ws c n (inr h) = let e : n < length ws = get-within ws n h.0 h.1 in omega arith

  one-code : (c d : Code) (us : List Terminal) (w : Terminal) → FaultAt spell c us w → FaultAt spell d us w → c ≡ d
  one-code code.Unexpected code.Unexpected us w f g = refl
  one-code code.Unexpected code.TooDeep us w f g = absurd (f g.0)
  one-code code.Unexpected code.TooLarge us w f g = absurd (f g.0)
  one-code code.TooDeep code.Unexpected us w f g = absurd (g f.0)
  one-code code.TooDeep code.TooDeep us w f g = refl
  one-code code.TooDeep code.TooLarge us w f g = absurd (g.1 f.1)
  one-code code.TooLarge code.Unexpected us w f g = absurd (g f.0)
  one-code code.TooLarge code.TooDeep us w f g = absurd (f.1 g.1)
  one-code code.TooLarge code.TooLarge us w f g = refl
  one-code code.Unexpected _ us w f g = absurd g
  one-code code.TooDeep _ us w f g = absurd g
  one-code code.TooLarge _ us w f g = absurd g
  one-code _ d us w f g = absurd f

  one-end : (c d : Code) (ws : List Terminal) → EndsSoon spell c ws → EndsSoon spell d ws → c ≡ d
  one-end code.Unexpected code.Unexpected ws f g = refl
  one-end code.Unexpected _ ws f g = absurd g
  one-end _ d ws f g = absurd f

  one-at : (ws : List Terminal) (c d : Code) (n : ℕ) → At spell ws c n → At spell ws d n → c ≡ d
  one-at ws c d n (inl h) (inl g) = one-end c d ws h.1 g.1
  one-at ws c d n (inl h) (inr g) = let e : n ≡ length ws = h.0 in let l : n < length ws = get-within ws n g.0 g.1 in absurd (omega arith)
  one-at ws c d n (inr h) (inl g) = let e : n ≡ length ws = g.0 in let l : n < length ws = get-within ws n h.0 h.1 in absurd (omega arith)
  one-at ws c d n (inr h) (inr g) =
      one-code c d (take n ws) h.0 h.2 (subst (FaultAt spell d (take n ws)) (same g.0 h.0 (sym g.1 ∙ h.1)) g.2)

  pub one-fault : (ws : List Terminal) (c d : Code) (n k : ℕ) → IsFirstFault spell ws c n → IsFirstFault spell ws d k → (c ≡ d) × (n ≡ k)
  one-fault ws c d n k f g =
      let a : n ≤ k = (let no : k < n → ⊥ = not-before ws d n k f.0 (at-most ws c n f.1) g.1 in grind arith) in
      let b : k ≤ n = (let no : n < k → ⊥ = not-before ws c k n g.0 (at-most ws d k g.1) f.1 in grind arith) in
      let e : n ≡ k = omega arith in
      (one-at ws c d n f.1 (subst (At spell ws d) (sym e) g.1), e)

-- the terminals before a position, the terminal there, and those behind it
cut : (ws : List Terminal) (n : ℕ) (w : Terminal) → slice_get ws n ≡ Some w → (more : List Terminal) × (ws ≡ take n ws ++ w ∷ more)
cut [] n w e = cc
cut (v ∷ ws) zero w e = (ws, ap (λ u. u ∷ ws) (same v w e))
cut (v ∷ ws) (suc n) w e = let h : (more : List Terminal) × (ws ≡ take n ws ++ w ∷ more) = cut ws n w e in (h.0, ap (λ us. v ∷ us) h.1)

module _ {S T P V : Type 0} (M : Machine S T P V) where
  pub one-text : (ws : List Terminal) (a b : V) → Are M.spell M.value ws a → Are M.spell M.value ws b → a ≡ b
  one-text ws a b x y = sym x.value ∙ one-value M x.tree y.tree (ap unmarked (x.spelled ∙ sym y.spelled)) ∙ y.value

  -- the terminals of a text have no mark
  unmarked-terminal : (us : List Terminal) (w : Terminal) (more : List Terminal) (t : T) → M.spell t ≡ clean (us ++ w ∷ more) []
      → Large M.spell us w → ⊥
  unmarked-terminal us w more t e l =
      let e' : M.spell t ≡ clean us [] ++ (plain w ∷ clean more []) =
      e ∙ clean-split us (w ∷ more) [] ∙ clean-is us (plain w ∷ clean more []) in
      let f : follow (go M.step) M.beginning (clean us [] ++ (plain w ∷ clean more [])) ≡ Some (M.ends t) =
      sym (ap (follow (go M.step) M.beginning) e') ∙ M.follows t in
      let h : (x : S) × (walk M.step M.beginning (unmarked (clean us [])) ≡ Some x)
      × (follow (go M.step) x (plain w ∷ clean more []) ≡ Some (M.ends t)) = follow-front M.step M.beginning (M.ends t) (clean us [])
      (plain w ∷ clean more []) f in
      let k : (y : S) × (go M.step h.0 (plain w) ≡ Some y) × (follow (go M.step) y (clean more []) ≡ Some (M.ends t)) =
      then-some (go M.step h.0 (plain w)) (λ y. follow (go M.step) y (clean more [])) (M.ends t) h.2 in
      small M us h.0 k.0 w (sym (ap (walk M.step M.beginning) (unmarked-front us)) ∙ h.1) (step-of (M.step h.0 w) false k.0 k.1) l

  no-fault-at : (ws : List Terminal) (v : V) (c : Code) (n : ℕ) (w : Terminal) → Are M.spell M.value ws v → slice_get ws n ≡ Some w
      → FaultAt M.spell c (take n ws) w → ⊥
  no-fault-at ws v code.Unexpected n w a e f =
      let h : (more : List Terminal) × (ws ≡ take n ws ++ w ∷ more) = cut ws n w e in
      f (record {
        tree = a.tree;
        more = h.0;
        is = ap unmarked a.spelled ∙ unmarked-front ws ∙ h.1 ∙ sym (append_assoc (take n ws) (w ∷ []) h.0);
      })
  no-fault-at ws v code.TooDeep n w a e f = a.shallow n w e f.1
  no-fault-at ws v code.TooLarge n w a e f =
      let h : (more : List Terminal) × (ws ≡ take n ws ++ w ∷ more) = cut ws n w e in
      unmarked-terminal (take n ws) w h.0 a.tree (a.spelled ∙ ap (λ us. clean us []) h.1) f.2
  no-fault-at ws v _ n w a e f = f

  no-end : (ws : List Terminal) (v : V) (c : Code) → Are M.spell M.value ws v → EndsSoon M.spell c ws → ⊥
  no-end ws v code.Unexpected a f = f a.tree (ap unmarked a.spelled ∙ unmarked-front ws)
  no-end ws v _ a f = f

  not-both-at : (ws : List Terminal) (v : V) (c : Code) (n : ℕ) → Are M.spell M.value ws v → At M.spell ws c n → ⊥
  not-both-at ws v c n a (inl h) = no-end ws v c a h.1
  not-both-at ws v c n a (inr h) = no-fault-at ws v c n h.0 a h.1 h.2

  pub not-both : (ws : List Terminal) (v : V) (c : Code) (n : ℕ) → Are M.spell M.value ws v → IsFirstFault M.spell ws c n → ⊥
  not-both ws v c n a f = not-both-at ws v c n a f.1
