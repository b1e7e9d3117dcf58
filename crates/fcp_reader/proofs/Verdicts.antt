-- What a step of a machine says of the terminals.
use Rattle.std.proofs.Common.{◌≡◌, ◌<◌, ◌≤◌, ◌+◌, List, [], ◌∷◌, ◌++◌, take, length, refl, ap, ◌∙◌, sym, subst, Option, Some, None, Bool, true, false, ℕ, zero, suc, append_assoc, arith, get_or}
use Rattle.std.proofs.lemmas.Option.{slice_get-get_or}
use Rattle.std.proofs.lemmas.List.{take_more}
use Rattle.fcp_model.specs.declared.names.Sym.{Sym}
use Rattle.fcp_grammar.specs.declared.terminals.Terminal.{Terminal}
use Rattle.fcp_grammar.specs.declared.terminals.Terminal.TheVariants as terminal
use Rattle.fcp_grammar.specs.Grammar.{Marked, plain}
use Rattle.fcp_reader.specs.Faults.{unmarked, Begins, Large, Sound, SoundBefore}
use Rattle.fcp_reader.specs.Texts.{clean}
use Rattle.fcp_grammar.proofs.Follow.{then, follow}
use Rattle.fcp_reader.proofs.Steps.{go, next, walk, walk-append, step-of, then-some, follow-walk, follow-front}
use Rattle.fcp_reader.proofs.Completions.{FinishedText, Completed, CompletedBehind}
use Rattle.fcp_reader.proofs.Machines.{Moved, GoesTo, WholeText, Machine}

-- ---- terminals without marks

pub clean-more : (us : List Terminal) (w : Terminal) (rest : List Marked) → clean (us ++ w ∷ []) rest ≡ clean us (plain w ∷ rest)
clean-more [] w rest = refl
clean-more (u ∷ us) w rest = ap (λ ws. plain u ∷ ws) (clean-more us w rest)

pub clean-is : (us : List Terminal) (rest : List Marked) → clean us rest ≡ clean us [] ++ rest
clean-is [] rest = refl
clean-is (u ∷ us) rest = ap (λ ws. plain u ∷ ws) (clean-is us rest)

pub unmarked-clean : (us : List Terminal) (rest : List Marked) → unmarked (clean us rest) ≡ us ++ unmarked rest
unmarked-clean [] rest = refl
unmarked-clean (u ∷ us) rest = ap (λ ws. u ∷ ws) (unmarked-clean us rest)

pub unmarked-front : (us : List Terminal) → unmarked (clean us []) ≡ us
unmarked-front [] = refl
unmarked-front (u ∷ us) = ap (λ ws. u ∷ ws) (unmarked-front us)

pub clean-split : (a b : List Terminal) (rest : List Marked) → clean (a ++ b) rest ≡ clean a (clean b rest)
clean-split [] b rest = refl
clean-split (u ∷ a) b rest = ap (λ ws. plain u ∷ ws) (clean-split a b rest)

same-some : {A : Type 0} (s t : A) → Some s ≡ Some t → s ≡ t
same-some s t e = cc

apart : {S : Type 0} (s t : S) → ◌≡◌ {A = Option (S × Bool)} (Some (s, false)) (Some (t, true)) → ⊥
apart {S} s t e =
    let f : false ≡ true = ap (λ p. p.1) (same-some {A = S × Bool} (s, false) (t, true) e) in
    cc

module _ {S T P V : Type 0} (M : Machine S T P V) where
  abbrev pub walked : List Terminal → Option S
  walked ws = walk M.step M.beginning ws

  pub walk-text : (t : T) → walked (unmarked (M.spell t)) ≡ Some (M.ends t)
  walk-text t = follow-walk M.step M.beginning (M.ends t) (M.spell t) (M.follows t)

  -- a terminal that goes on no text
  pub not-begins : (us : List Terminal) (s : S) (w : Terminal) → walked us ≡ Some s → M.step s w ≡ None → Begins M.spell (us ++ w ∷ []) → ⊥
  not-begins us s w e n b =
      let f : walked ((us ++ w ∷ []) ++ b.more) ≡ Some (M.ends b.tree) = sym (ap walked b.is) ∙ walk-text b.tree in
      let g : walked ((us ++ w ∷ []) ++ b.more) ≡ walked (us ++ (w ∷ b.more)) = ap walked (append_assoc us (w ∷ []) b.more) in
      let h : walked (us ++ (w ∷ b.more)) ≡ None =
      walk-append M.step M.beginning us (w ∷ b.more) ∙ ap (λ o. then o (λ t. walk M.step t (w ∷ b.more))) e
      ∙ ap (λ o. then (next o) (λ t. walk M.step t b.more)) n in
      let c : Some (M.ends b.tree) ≡ None = sym f ∙ g ∙ h in
      cc

  -- the terminals were read, none of them as one too many, and this is the state
  pub record Reached (us : List Terminal) (s : S) : Type 0 where
    pub part : P
    pub is : M.state_of part ≡ s
    pub terminals : (rest : List Marked) → M.terminals_of part rest ≡ clean us rest
    pub walked-is : walked us ≡ Some s

  pub reached-nothing : Reached [] M.beginning
  reached-nothing = record { part = M.none; is = M.none-state; terminals = λ rest. M.none-terminals rest; walked-is = refl }

  moved : (us : List Terminal) (s t : S) (w : Terminal) (b : Bool) (r : Reached us s) → M.step s w ≡ Some (t, b)
      → Moved M.state_of M.terminals_of (M.terminals_of r.part) w t b
  moved us s t w b r e =
      subst (GoesTo M.state_of M.terminals_of (M.terminals_of r.part) w) (ap (λ x. M.step x w) r.is ∙ e) (M.goes r.part w)

  pub reached-more : (us : List Terminal) (s t : S) (w : Terminal) → Reached us s → M.step s w ≡ Some (t, false) → Reached (us ++ w ∷ []) t
  reached-more us s t w r e =
      let m : Moved M.state_of M.terminals_of (M.terminals_of r.part) w t false = moved us s t w false r e in
      record {
        part = m.part;
        is = m.is;
        terminals = λ rest. m.terminals rest ∙ r.terminals (plain w ∷ rest) ∙ sym (clean-more us w rest);
        walked-is =
            walk-append M.step M.beginning us (w ∷ []) ∙ ap (λ o. then o (λ x. walk M.step x (w ∷ []))) r.walked-is
            ∙ ap (λ o. then (next o) (λ x. walk M.step x [])) e;
      }

  -- what was read can be completed
  pub completed : (k : ℕ) (x : Sym) (us : List Terminal) (s : S) → Reached us s → Completed M.spell k x us
  completed k x us s r =
      let f : FinishedText M.spell k x (M.terminals_of r.part) = M.finish k x r.part in
      record { tree = f.tree; close = f.close; completes = f.completes; spelled = sym f.terminals ∙ r.terminals f.close }

  pub completed-behind : (k : ℕ) (x : Sym) (us : List Terminal) (s t : S) (w : Terminal) (b : Bool) → Reached us s
      → M.step s w ≡ Some (t, b) → CompletedBehind M.spell k x us w b
  completed-behind k x us s t w b r e =
      let m : Moved M.state_of M.terminals_of (M.terminals_of r.part) w t b = moved us s t w b r e in
      let f : FinishedText M.spell k x (M.terminals_of m.part) = M.finish k x m.part in
      record {
        tree = f.tree;
        close = f.close;
        completes = f.completes;
        spelled = sym f.terminals ∙ m.terminals f.close ∙ r.terminals ((w, b) ∷ f.close);
      }

  unmarked-behind : (us : List Terminal) (w : Terminal) (b : Bool) (more : List Marked)
      → unmarked (clean us ((w, b) ∷ more)) ≡ (us ++ w ∷ []) ++ unmarked more
  unmarked-behind us w b more = unmarked-clean us ((w, b) ∷ more) ∙ sym (append_assoc us (w ∷ []) (unmarked more))

  pub begins : (us : List Terminal) (s t : S) (w : Terminal) (b : Bool) → Reached us s → M.step s w ≡ Some (t, b)
      → Begins M.spell (us ++ w ∷ [])
  begins us s t w b r e =
      let c : CompletedBehind M.spell 0 (record { 0 = 0 }) us w b = completed-behind 0 (record { 0 = 0 }) us s t w b r e in
      record { tree = c.tree; more = unmarked c.close; is = ap unmarked c.spelled ∙ unmarked-behind us w b c.close }

  pub large : (us : List Terminal) (s t : S) (w : Terminal) → Reached us s → M.step s w ≡ Some (t, true) → Large M.spell us w
  large us s t w r e =
      let c : CompletedBehind M.spell 0 (record { 0 = 0 }) us w true = completed-behind 0 (record { 0 = 0 }) us s t w true r e in
      record {
        tree = c.tree;
        front = clean us [];
        more = c.close;
        is = c.spelled ∙ clean-is us ((w, true) ∷ c.close);
        terminals = unmarked-front us;
      }

  -- a mark is determined by the terminals before it
  pub small : (us : List Terminal) (s t : S) (w : Terminal) → walked us ≡ Some s → M.step s w ≡ Some (t, false) → Large M.spell us w → ⊥
  small us s t w r e l =
      let f : follow (go M.step) M.beginning (l.front ++ (w, true) ∷ l.more) ≡ Some (M.ends l.tree) =
      sym (ap (follow (go M.step) M.beginning) l.is) ∙ M.follows l.tree in
      let h : (x : S) × (walked (unmarked l.front) ≡ Some x) × (follow (go M.step) x ((w, true) ∷ l.more) ≡ Some (M.ends l.tree)) =
      follow-front M.step M.beginning (M.ends l.tree) l.front ((w, true) ∷ l.more) f in
      let same : Some h.0 ≡ Some s = sym h.1 ∙ ap walked l.terminals ∙ r in
      let k : (y : S) × (go M.step h.0 (w, true) ≡ Some y) × (follow (go M.step) y l.more ≡ Some (M.ends l.tree)) =
      then-some (go M.step h.0 (w, true)) (λ y. follow (go M.step) y l.more) (M.ends l.tree) h.2 in
      let g : M.step h.0 w ≡ Some (k.0, true) = step-of (M.step h.0 w) true k.0 k.1 in
      apart t k.0 (sym e ∙ sym (ap (λ x. M.step x w) (same-some h.0 s same)) ∙ g)

  -- ---- the end

  pub whole-text : (us : List Terminal) (s : S) (v : V) → Reached us s → M.whole s ≡ Some v
      → (t : T) × (M.spell t ≡ clean us []) × (M.value t ≡ v)
  whole-text us s v r e =
      let h : WholeText M.spell M.value (M.terminals_of r.part) v = M.whole-part r.part v (ap M.whole r.is ∙ e) in
      (h.tree, h.terminals ∙ r.terminals [], h.is)

  pub no-text : (us : List Terminal) (s : S) → walked us ≡ Some s → M.whole s ≡ None → (t : T) → unmarked (M.spell t) ≡ us → ⊥
  no-text us s e n t is =
      let f : Some s ≡ Some (M.ends t) = sym e ∙ sym (ap walked is) ∙ walk-text t in
      let g : M.whole s ≡ Some (M.value t) = ap M.whole (same-some s (M.ends t) f) ∙ M.whole-ends t in
      let c : None ≡ Some (M.value t) = sym n ∙ g in
      cc

  -- a text has one value
  pub one-value : (a b : T) → unmarked (M.spell a) ≡ unmarked (M.spell b) → M.value a ≡ M.value b
  one-value a b e =
      let f : Some (M.ends a) ≡ Some (M.ends b) = sym (walk-text a) ∙ ap walked e ∙ walk-text b in
      let g : Some (M.value a) ≡ Some (M.value b) =
      sym (M.whole-ends a) ∙ ap M.whole (same-some (M.ends a) (M.ends b) f) ∙ M.whole-ends b in
      same-some (M.value a) (M.value b) g

  -- ---- terminals with no fault before a position

  pub record SomeReached (us : List Terminal) : Type 0 where
    pub state : S
    pub reached : Reached us state

  read-by : (us : List Terminal) (s : S) (w : Terminal) → Reached us s → Sound M.spell us w → (t : S) (b : Bool) → M.step s w ≡ Some (t, b)
      → SomeReached (us ++ w ∷ [])
  read-by us s w r sound t true e = absurd (sound.small (large us s t w r e))
  read-by us s w r sound t false e = record { state = t; reached = reached-more us s t w r e }

  pub reached-sound : (us : List Terminal) (s : S) (w : Terminal) → Reached us s → Sound M.spell us w → (o : Option (S × Bool))
      → M.step s w ≡ o → SomeReached (us ++ w ∷ [])
  reached-sound us s w r sound None e = absurd (not-begins us s w r.walked-is e sound.begins)
  reached-sound us s w r sound (Some p) e = read-by us s w r sound p.0 p.1 e

  -- terminals that have no fault before this position were read
  pub reached-before : (ws : List Terminal) (n : ℕ) → n ≤ length ws → SoundBefore M.spell ws n → SomeReached (take n ws)
  reached-before ws zero h sound = record { state = M.beginning; reached = reached-nothing }
  reached-before ws (suc n) h sound =
      let within : n < length ws = omega arith in
      let w : Terminal = get_or ws n terminal.Other in
      let r : SomeReached (take n ws) = reached-before ws n (omega arith) (λ k l. sound k (omega arith)) in
      let here : Sound M.spell (take n ws) w = sound n (omega arith) w (slice_get-get_or ws n terminal.Other within) in
      let e : suc n ≡ n + 1 = omega arith in
      subst SomeReached (sym (ap (λ j. take j ws) e ∙ take_more ws n terminal.Other within))
      (reached-sound (take n ws) r.state w r.reached here (M.step r.state w) refl)

  -- Terminals up to a first fault can be completed, and so can they with the terminal there, where some text goes on so.
  pub completed-before : (k : ℕ) (x : Sym) (ws : List Terminal) (n : ℕ) → n ≤ length ws → SoundBefore M.spell ws n
      → Completed M.spell k x (take n ws)
  completed-before k x ws n h sound =
      let r : SomeReached (take n ws) = reached-before ws n h sound in
      completed k x (take n ws) r.state r.reached

  behind-by : (k : ℕ) (x : Sym) (us : List Terminal) (s : S) (w : Terminal) → Reached us s → Begins M.spell (us ++ w ∷ [])
      → (o : Option (S × Bool)) → M.step s w ≡ o → (b : Bool) × CompletedBehind M.spell k x us w b
  behind-by k x us s w r b None e = absurd (not-begins us s w r.walked-is e b)
  behind-by k x us s w r b (Some p) e = (p.1, completed-behind k x us s p.0 w p.1 r e)

  pub completed-at : (k : ℕ) (x : Sym) (ws : List Terminal) (n : ℕ) (w : Terminal) → n ≤ length ws → SoundBefore M.spell ws n
      → Begins M.spell (take n ws ++ w ∷ []) → (b : Bool) × CompletedBehind M.spell k x (take n ws) w b
  completed-at k x ws n w h sound b =
      let r : SomeReached (take n ws) = reached-before ws n h sound in
      behind-by k x (take n ws) r.state w r.reached b (M.step r.state w) refl

  marked-by : (k : ℕ) (x : Sym) (us : List Terminal) (s : S) (w : Terminal) → Reached us s → Large M.spell us w → (t : S) (b : Bool)
      → M.step s w ≡ Some (t, b) → CompletedBehind M.spell k x us w true
  marked-by k x us s w r l t true e = completed-behind k x us s t w true r e
  marked-by k x us s w r l t false e = absurd (small us s t w r.walked-is e l)

  marked-or : (k : ℕ) (x : Sym) (us : List Terminal) (s : S) (w : Terminal) → Reached us s → Begins M.spell (us ++ w ∷ [])
      → Large M.spell us w → (o : Option (S × Bool)) → M.step s w ≡ o → CompletedBehind M.spell k x us w true
  marked-or k x us s w r b l None e = absurd (not-begins us s w r.walked-is e b)
  marked-or k x us s w r b l (Some p) e = marked-by k x us s w r l p.0 p.1 e

  -- where the terminal there is one too many, it has the mark
  pub marked-at : (k : ℕ) (x : Sym) (ws : List Terminal) (n : ℕ) (w : Terminal) → n ≤ length ws → SoundBefore M.spell ws n
      → Begins M.spell (take n ws ++ w ∷ []) → Large M.spell (take n ws) w → CompletedBehind M.spell k x (take n ws) w true
  marked-at k x ws n w h sound b l =
      let r : SomeReached (take n ws) = reached-before ws n h sound in
      marked-or k x (take n ws) r.state w r.reached b l (M.step r.state w) refl
