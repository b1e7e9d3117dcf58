-- What a reader's loop keeps, and what it answers.
use Rattle.std.proofs.Common.{◌≡◌, ◌≤◌, ◌<◌, ◌+◌, List, [], ◌∷◌, ◌++◌, take, length, ℕ, zero, suc, refl, ap, ◌∙◌, sym, subst, Option, Some, None, Bool, true, false, get_or, nat_le, arith, inl, inr, below_more, lit≤}
use Rattle.std.specs.Prelude.{◌&&◌, if◌then◌else◌, slice_get, ◌⊎◌}
use Rattle.std.proofs.lemmas.Option.{slice_get-get_or}
use Rattle.std.proofs.lemmas.List.{take_more}
use Rattle.std.proofs.Math.Seq.{take-length}
use Rattle.std.proofs.lemmas.Bool.Decides.{nat_tests}
use Rattle.fcp_model.specs.declared.fault.Code.{Code}
use Rattle.fcp_model.specs.declared.fault.Code.TheVariants as code
use Rattle.fcp_grammar.specs.declared.terminals.Terminal.{Terminal}
use Rattle.fcp_grammar.specs.declared.terminals.Terminal.TheVariants as terminal
use Rattle.fcp_reader.specs.Faults.{Sound, SoundBefore, depth_from, deeper, is_opening, fault_of, FaultAt, IsFirstFault, Deep}
use Rattle.fcp_reader.specs.Texts.{clean, Are}
use Rattle.fcp_reader.proofs.Machines.{Machine}
use Rattle.fcp_reader.proofs.Verdicts.{Reached, reached-nothing, reached-more, begins, large, small, not-begins, whole-text, no-text}

depth-more : (d : ℕ) (us : List Terminal) (w : Terminal) → depth_from d (us ++ w ∷ []) ≡ deeper (depth_from d us) w
depth-more d [] w = refl
depth-more d (u ∷ us) w = depth-more (deeper d u) us w

le-true : (a b : ℕ) → a ≤ b → nat_le a b ≡ true
le-true a b h = grind (arith, nat_tests)

le-of : (a b : ℕ) → nat_le a b ≡ true → a ≤ b
le-of a b h = grind (arith, nat_tests)

lt-of : (a b : ℕ) → nat_le a b ≡ false → b < a
lt-of a b h = grind (arith, nat_tests)

abbrev code_by : Bool → Bool → Bool → Option Code
code_by opens deep large = if opens && deep then Some code.TooDeep else (if large then Some code.TooLarge else None)

-- which fault it is
fault-is : (opens deep large : Bool) (c : Code) → code_by opens deep large ≡ Some c
    → ((c ≡ code.TooDeep) × (opens ≡ true) × (deep ≡ true)) ⊎ ((c ≡ code.TooLarge) × (large ≡ true) × ((opens && deep) ≡ false))
fault-is true true large c e = inl (cc, refl, refl)
fault-is true false true c e = inr (cc, refl, refl)
fault-is true false false c e = cc
fault-is false deep true c e = inr (cc, refl, refl)
fault-is false deep false c e = cc

no-fault : (opens deep large : Bool) → code_by opens deep large ≡ None → (large ≡ false) × ((opens && deep) ≡ false)
no-fault true true large e = cc
no-fault true false true e = cc
no-fault true false false e = (refl, refl)
no-fault false deep true e = cc
no-fault false deep false e = (refl, refl)

shallow-by : (us : List Terminal) (w : Terminal) (d : ℕ) → d ≡ depth_from 0 us → (is_opening w && nat_le 256 d) ≡ false → Deep us w → ⊥
shallow-by us w d e f h =
    let t : nat_le 256 d ≡ true = le-true 256 d (omega (arith, h.1)) in
    let g : (is_opening w && nat_le 256 d) ≡ true = ap (λ b. b && nat_le 256 d) h.0 ∙ t in
    cc

deeper-few : (d : ℕ) (w : Terminal) → d ≤ 256 → (is_opening w && nat_le 256 d) ≡ false → deeper d w ≤ 256
deeper-few d (terminal.RoundOpen a) h f = let g : d < 256 = lt-of 256 d f in omega arith
deeper-few d (terminal.SquareOpen a) h f = let g : d < 256 = lt-of 256 d f in omega arith
deeper-few d (terminal.CurlyOpen a) h f = let g : d < 256 = lt-of 256 d f in omega arith
deeper-few d terminal.RoundClose h f = omega arith
deeper-few d terminal.SquareClose h f = omega arith
deeper-few d terminal.CurlyClose h f = omega arith
deeper-few d (terminal.Dot n) h f = omega arith
deeper-few d _ h f = h

same : (v w : Terminal) → Some v ≡ Some w → v ≡ w
same v w e = cc

-- a terminal stands at no position past the end
pub get-within : (ws : List Terminal) (k : ℕ) (w : Terminal) → slice_get ws k ≡ Some w → k < length ws
get-within [] k w e = cc
get-within (v ∷ ws) zero w e = omega arith
get-within (v ∷ ws) (suc k) w e = let h : k < length ws = get-within ws k w e in omega arith

module _ {S T P V : Type 0} (M : Machine S T P V) where
  pub record Kept (terminals : List Terminal) (i : ℕ) (state : S) (depth : ℕ) : Type 0 where
    pub reached : Reached M (take i terminals) state
    pub deep : depth ≡ depth_from 0 (take i terminals)
    pub few : depth ≤ 256
    pub sound : SoundBefore M.spell terminals i

  pub none-yet : (terminals : List Terminal) → Kept terminals 0 M.beginning 0
  none-yet terminals = record { reached = reached-nothing M; deep = refl; few = lit≤ tt; sound = λ k h. absurd (omega arith) }

  module _ (terminals : List Terminal) (i : ℕ) (s : S) (d : ℕ) (x : Terminal) (kept : Kept terminals i s d)
      (within : i < length terminals) where
    pub stop-unexpected : M.step s (get_or terminals i x) ≡ None → IsFirstFault M.spell terminals code.Unexpected i
    stop-unexpected e = (
      kept.sound,
      inr (
        get_or terminals i x,
        slice_get-get_or terminals i x within,
        not-begins M (take i terminals) s (get_or terminals i x) kept.reached.walked-is e,
      ),
    )

    pub stop-fault : (t : S) (b : Bool) (c : Code) → M.step s (get_or terminals i x) ≡ Some (t, b)
        → fault_of d (get_or terminals i x) b ≡ Some c → IsFirstFault M.spell terminals c i
    stop-fault t b c e f =
        let w : Terminal = get_or terminals i x in
        let us : List Terminal = take i terminals in
        let at : FaultAt M.spell c us w =
        elim (fault-is (is_opening w) (nat_le 256 d) b c f) [
          | inl h ↦ subst (λ v. FaultAt M.spell v us w) (sym h.0)
              (begins M us s t w b kept.reached e, (h.1, omega (arith, le-of 256 d h.2, kept.deep)))
          | inr h ↦ subst (λ v. FaultAt M.spell v us w) (sym h.0) (
            begins M us s t w b kept.reached e,
            shallow-by us w d kept.deep h.2,
            large M us s t w kept.reached (e ∙ ap (λ v. Some (t, v)) h.1),
          )
        ] in
        (kept.sound, inr (w, slice_get-get_or terminals i x within, at))

    pub go-on : (t : S) (b : Bool) → M.step s (get_or terminals i x) ≡ Some (t, b) → fault_of d (get_or terminals i x) b ≡ None
        → Kept terminals (i + 1) t (deeper d (get_or terminals i x))
    go-on t b e f =
        let w : Terminal = get_or terminals i x in
        let us : List Terminal = take i terminals in
        let n : (b ≡ false) × ((is_opening w && nat_le 256 d) ≡ false) = no-fault (is_opening w) (nat_le 256 d) b f in
        let e' : M.step s w ≡ Some (t, false) = e ∙ ap (λ v. Some (t, v)) n.0 in
        let m : take (i + 1) terminals ≡ us ++ w ∷ [] = take_more terminals i x within in
        record {
          reached = subst (λ v. Reached M v t) (sym m) (reached-more M us s t w kept.reached e');
          deep = ap (λ v. deeper v w) kept.deep ∙ sym (depth-more 0 us w) ∙ ap (depth_from 0) (sym m);
          few = deeper-few d w kept.few n.1;
          sound = below_more (λ k. (v : Terminal) → slice_get terminals k ≡ Some v → Sound M.spell (take k terminals) v) i kept.sound
              (λ v g. let h : v ≡ w = same v w (sym g ∙ slice_get-get_or terminals i x within) in
              subst (Sound M.spell us) (sym h)
              (record {
                begins = begins M us s t w b kept.reached e;
                shallow = shallow-by us w d kept.deep n.1;
                small = small M us s t w kept.reached.walked-is e';
              }));
        }

    -- a terminal that passes has no mark
    pub passes : (t : S) (b : Bool) → M.step s (get_or terminals i x) ≡ Some (t, b) → fault_of d (get_or terminals i x) b ≡ None
        → M.step s (get_or terminals i x) ≡ Some (t, false)
    passes t b e f = e ∙ ap (λ v. Some (t, v)) (no-fault (is_opening (get_or terminals i x)) (nat_le 256 d) b f).0

  -- ---- at the end

  reached-all : (terminals : List Terminal) (i : ℕ) (s : S) (d : ℕ) → Kept terminals i s d → i ≡ length terminals → Reached M terminals s
  reached-all terminals i s d kept e = subst (λ v. Reached M v s) (ap (λ n. take n terminals) e ∙ take-length terminals) kept.reached

  pub reads-all : (terminals : List Terminal) (i : ℕ) (s : S) (d : ℕ) (v : V) → Kept terminals i s d → i ≡ length terminals
      → M.whole s ≡ Some v → Are M.spell M.value terminals v
  reads-all terminals i s d v kept e p =
      let h : (t : T) × (M.spell t ≡ clean terminals []) × (M.value t ≡ v) =
      whole-text M terminals s v (reached-all terminals i s d kept e) p in
      record {
        tree = h.0;
        spelled = h.1;
        shallow = λ k w g. (kept.sound k (omega (arith, get-within terminals k w g, e)) w g).shallow;
        value = h.2;
      }

  pub ends-soon : (terminals : List Terminal) (i : ℕ) (s : S) (d : ℕ) → Kept terminals i s d → i ≡ length terminals → M.whole s ≡ None
      → IsFirstFault M.spell terminals code.Unexpected (length terminals)
  ends-soon terminals i s d kept e p =
      let r : Reached M terminals s = reached-all terminals i s d kept e in
      (subst (SoundBefore M.spell terminals) e kept.sound, inl (refl, no-text M terminals s r.walked-is p))
