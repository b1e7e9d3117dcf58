-- A value over bindings with shorter ways is the value over the bindings that they are of.
use Rattle.std.proofs.Common.{◌≡◌, ℕ, zero, suc, ◌⊎◌, Bool, true, false, Option, Some, None, refl, sym, ap, ◌∙◌, inl, inr}
use Rattle.std.specs.Prelude.{option_and_then}
use Rattle.fcp_model.specs.Places.{Variable, own}
use Rattle.fcp_model.specs.Terms.{Term, number, string, nil, cons, tuple, var, ro, first, Bindings, find}
use Rattle.fcp_model.specs.Value.{Look, through, value_of, value, Values}
use Rattle.word_states.specs.Leading.{onward, step, led, LeadsTo, AreShortened}
use Rattle.word_states.proofs.Leading.{found_short}
use Rattle.leading_laws.proofs.Answers.{Answers}

module _ (s : Bindings) where
  -- a step of the way is one of the value
  step_through : (n : ℕ) (only : Bool) (p : Variable) (t b : Term Variable) → step s t ≡ Some b
      → through (value_of (suc n) s) only p (Some t) ≡ through (value_of n s) only p (Some b)
  step_through n only p (var v) b e = go (find s v) refl e
    where
      go : (o : Option (Term Variable)) → find s v ≡ o → option_and_then (onward false) o ≡ Some b
          → through (value_of n s) only v (find s v) ≡ through (value_of n s) only p (Some b)
      go None i f = cc
      go (Some (var q)) i f = ap (through (value_of n s) only v) i ∙ ap (through (value_of n s) only p) f
      go (Some (ro q)) i f = ap (through (value_of n s) only v) i ∙ ap (through (value_of n s) only p) f
      go (Some (first k)) i f = cc
      go (Some (number z)) i f = ap (through (value_of n s) only v) i ∙ ap (through (value_of n s) only p) f
      go (Some (string z)) i f = ap (through (value_of n s) only v) i ∙ ap (through (value_of n s) only p) f
      go (Some nil) i f = ap (through (value_of n s) only v) i ∙ ap (through (value_of n s) only p) f
      go (Some (cons t u)) i f = ap (through (value_of n s) only v) i ∙ ap (through (value_of n s) only p) f
      go (Some (tuple ts)) i f = ap (through (value_of n s) only v) i ∙ ap (through (value_of n s) only p) f
  step_through n only p (ro v) b e = go (find s v) refl e
    where
      go : (o : Option (Term Variable)) → find s v ≡ o → option_and_then (onward true) o ≡ Some b
          → through (value_of n s) true v (find s v) ≡ through (value_of n s) only p (Some b)
      go None i f = cc
      go (Some (var q)) i f = ap (through (value_of n s) true v) i ∙ ap (through (value_of n s) only p) f
      go (Some (ro q)) i f = ap (through (value_of n s) true v) i ∙ ap (through (value_of n s) only p) f
      go (Some (first k)) i f = cc
      go (Some (number z)) i f = ap (through (value_of n s) true v) i ∙ ap (through (value_of n s) only p) f
      go (Some (string z)) i f = ap (through (value_of n s) true v) i ∙ ap (through (value_of n s) only p) f
      go (Some nil) i f = ap (through (value_of n s) true v) i ∙ ap (through (value_of n s) only p) f
      go (Some (cons t u)) i f = ap (through (value_of n s) true v) i ∙ ap (through (value_of n s) only p) f
      go (Some (tuple ts)) i f = ap (through (value_of n s) true v) i ∙ ap (through (value_of n s) only p) f
  step_through n only p (number z) b e = cc
  step_through n only p (string z) b e = cc
  step_through n only p nil b e = cc
  step_through n only p (cons t u) b e = cc
  step_through n only p (tuple ts) b e = cc
  step_through n only p (first k) b e = cc

  -- what is behind a term to which another leads is behind the other
  through_led : (only : Bool) (p : Variable) (t u : Term Variable) (l : Look) (n : ℕ) → led n s t ≡ Some u
      → Answers (λ m. through (value_of m s) only p (Some u)) l → Answers (λ m. through (value_of m s) only p (Some t)) l
  through_led only p t u l zero e (m, i) = (m, ap (through (value_of m s) only p) e ∙ i)
  through_led only p t u l (suc n) e h = go (step s t) refl e (λ b f. through_led only p b u l n f h)
    where
      go : (o : Option (Term Variable)) → step s t ≡ o → option_and_then (led n s) o ≡ Some u
          → ((b : Term Variable) → led n s b ≡ Some u → Answers (λ m. through (value_of m s) only p (Some b)) l)
          → Answers (λ m. through (value_of m s) only p (Some t)) l
      go None i f rec = cc
      go (Some b) i f rec = let r = rec b f in (suc r.0, step_through r.0 only p t b i ∙ r.1)

  -- a term's value is what is behind a variable that is bound to it
  value_through : (n : ℕ) (p : Variable) (t : Term Variable) → through (value_of n s) false p (Some t) ≡ value n s t
  value_through n p (var q) = refl
  value_through n p (ro q) = refl
  value_through n p (first k) = refl
  value_through n p (number z) = refl
  value_through n p (string z) = refl
  value_through n p nil = refl
  value_through n p (cons t u) = refl
  value_through n p (tuple ts) = refl

  -- the value of a term is that of each term that leads to it
  pub value_led : (t u : Term Variable) (l : Look) → LeadsTo s t u → Values s u l → Values s t l
  value_led t u l (n, e) (m, i) =
      let r = through_led false (own 0) t u l n e (m, value_through m (own 0) u ∙ i) in (r.0, sym (value_through r.0 (own 0) t) ∙ r.1)

module _ (s short : Bindings) (shortened : AreShortened s short) where
  value_of_short : (n : ℕ) (only : Bool) (p : Variable) (l : Look) → value_of n short only p ≡ Some l → Answers (λ m. value_of m s only p) l
  value_of_short zero only p l e = cc
  value_of_short (suc n) only p l e = go (found_short s s short p shortened) (λ b q i. value_of_short n b q l i)
    where
      go : ((find s p ≡ None) × (find short p ≡ None))
          ⊎ ((t u : Term Variable) × (find s p ≡ Some t) × (find short p ≡ Some u) × LeadsTo s t u)
          → ((b : Bool) (q : Variable) → value_of n short b q ≡ Some l → Answers (λ m. value_of m s b q) l)
          → Answers (λ m. value_of m s only p) l
      go (inl r) rec = (1, ap (through (value_of 0 s) only p) r.0 ∙ sym (ap (through (value_of n short) only p) r.1) ∙ e)
      go (inr r) rec =
          let found = through_led s only p r.0 r.1 l r.4.0 r.4.1 (behind r.1 (sym (ap (through (value_of n short) only p) r.3) ∙ e)) in
          (suc found.0, ap (through (value_of found.0 s) only p) r.2 ∙ found.1)
        where
          behind : (u : Term Variable) → through (value_of n short) only p (Some u) ≡ Some l
              → Answers (λ m. through (value_of m s) only p (Some u)) l
          behind (var q) i = rec only q i
          behind (ro q) i = rec true q i
          behind (first k) i = rec only (own k) i
          behind (number z) i = (0, i)
          behind (string z) i = (0, i)
          behind nil i = (0, i)
          behind (cons t u) i = (0, i)
          behind (tuple ts) i = (0, i)

  -- a value over the shorter bindings
  pub value_short : (n : ℕ) (t : Term Variable) (l : Look) → value n short t ≡ Some l → Values s t l
  value_short n (var q) l e = value_of_short n false q l e
  value_short n (ro q) l e = value_of_short n true q l e
  value_short n (first k) l e = value_of_short n false (own k) l e
  value_short n (number z) l e = (0, e)
  value_short n (string z) l e = (0, e)
  value_short n nil l e = (0, e)
  value_short n (cons t u) l e = (0, e)
  value_short n (tuple ts) l e = (0, e)

  -- the value over them of a term to which another leads is the other's
  pub values_led : (t u : Term Variable) (l : Look) → LeadsTo s t u → Values short u l → Values s t l
  values_led t u l leads (n, e) = value_led s t u l leads (value_short n u l e)
