-- The occurs check over bindings with shorter ways answers as over the bindings that they are of.
use Rattle.std.proofs.Common.{◌≡◌, ℕ, zero, suc, ◌⊎◌, Bool, true, false, Option, Some, None, refl, sym, ap, ◌∙◌, inl, inr}
use Rattle.std.specs.Prelude.{option_and_then}
use Rattle.fcp_model.specs.Places.{Variable, own}
use Rattle.fcp_model.specs.Terms.{Term, number, string, nil, cons, tuple, var, ro, first, Terms, none, more, Bindings, find}
use Rattle.fcp_model.specs.Occurs.{Found, hit, miss, then_found, or_else, walk, walks, behind_leaf, leaf_is, occurs}
use Rattle.fcp_model.proofs.MoreSteps.{Grows, occurs_more}
use Rattle.word_states.specs.Leading.{onward, step, led, LeadsTo, AreShortened}
use Rattle.word_states.proofs.Leading.{found_short}
use Rattle.leading_laws.proofs.Answers.{Answers, both_answer}

-- two answers one after the other
or_answers : (f g : ℕ → Option Found) (o r : Option Found) (x : Found) → Grows f → Grows g
    → ((y : Found) → o ≡ Some y → Answers f y) → ((y : Found) → r ≡ Some y → Answers g y) → or_else o r ≡ Some x
    → Answers (λ n. or_else (f n) (g n)) x
or_answers f g None r x up up' h i e = cc
or_answers f g (Some (hit rs)) r x up up' h i e = let a = h (hit rs) refl in (a.0, ap (λ o. or_else o (g a.0)) a.1 ∙ e)
or_answers f g (Some (miss rs)) None x up up' h i e = cc
or_answers f g (Some (miss rs)) (Some y) x up up' h i e =
    let b = both_answer f g (miss rs) y up up' (h (miss rs) refl) (i y refl) in
    (b.0, ap (λ o. or_else o (g b.0)) b.1 ∙ ap (then_found rs) b.2 ∙ e)

module _ (s : Bindings) (p : Variable) where
  walk_up : (t : Term Variable) → Grows (λ n. walk (leaf_is n s p) t)
  walk_up t = occurs_more s p t

  walks_up : (ts : Terms Variable) → Grows (λ n. walks (leaf_is n s p) ts)
  walks_up ts = occurs_more s p (tuple ts)

  mutual
    -- where each leaf has the answer that f has, a term has it
    walk_answers : (f : Variable → Option Found) → ((q : Variable) (x : Found) → f q ≡ Some x → Answers (λ n. leaf_is n s p q) x)
        → (t : Term Variable) (x : Found) → walk f t ≡ Some x → Answers (λ n. walk (leaf_is n s p) t) x
    walk_answers f h (number z) x e = (0, e)
    walk_answers f h (string z) x e = (0, e)
    walk_answers f h nil x e = (0, e)
    walk_answers f h (cons a b) x e =
        or_answers (λ n. walk (leaf_is n s p) a) (λ n. walk (leaf_is n s p) b) (walk f a) (walk f b) x (walk_up a) (walk_up b)
        (walk_answers f h a) (walk_answers f h b) e
    walk_answers f h (tuple ts) x e = walks_answer f h ts x e
    walk_answers f h (var q) x e = h q x e
    walk_answers f h (ro q) x e = h q x e
    walk_answers f h (first k) x e = h (own k) x e

    walks_answer : (f : Variable → Option Found) → ((q : Variable) (x : Found) → f q ≡ Some x → Answers (λ n. leaf_is n s p q) x)
        → (ts : Terms Variable) (x : Found) → walks f ts ≡ Some x → Answers (λ n. walks (leaf_is n s p) ts) x
    walks_answer f h none x e = (0, e)
    walks_answer f h (more t ts) x e =
        or_answers (λ n. walk (leaf_is n s p) t) (λ n. walks (leaf_is n s p) ts) (walk f t) (walks f ts) x (walk_up t) (walks_up ts)
        (walk_answers f h t) (walks_answer f h ts) e

  -- a leaf is walked as the term behind it, whatever its marks
  onward_walk : (only : Bool) (f : Variable → Option Found) (t b : Term Variable) → onward only t ≡ Some b → walk f t ≡ walk f b
  onward_walk true f (var q) b e = let i : ro q ≡ b = cc in ap (walk f) i
  onward_walk false f (var q) b e = let i : var q ≡ b = cc in ap (walk f) i
  onward_walk true f (ro q) b e = let i : ro q ≡ b = cc in ap (walk f) i
  onward_walk false f (ro q) b e = let i : ro q ≡ b = cc in ap (walk f) i
  onward_walk only f (first k) b e = cc
  onward_walk true f (number z) b e = let i : number z ≡ b = cc in ap (walk f) i
  onward_walk false f (number z) b e = let i : number z ≡ b = cc in ap (walk f) i
  onward_walk true f (string z) b e = let i : string z ≡ b = cc in ap (walk f) i
  onward_walk false f (string z) b e = let i : string z ≡ b = cc in ap (walk f) i
  onward_walk true f nil b e = let i : nil ≡ b = cc in ap (walk f) i
  onward_walk false f nil b e = let i : nil ≡ b = cc in ap (walk f) i
  onward_walk true f (cons t u) b e = let i : cons t u ≡ b = cc in ap (walk f) i
  onward_walk false f (cons t u) b e = let i : cons t u ≡ b = cc in ap (walk f) i
  onward_walk true f (tuple ts) b e = let i : tuple ts ≡ b = cc in ap (walk f) i
  onward_walk false f (tuple ts) b e = let i : tuple ts ≡ b = cc in ap (walk f) i

  leaf_walk : (n : ℕ) (only : Bool) (q : Variable) (b : Term Variable) → option_and_then (onward only) (find s q) ≡ Some b
      → leaf_is (suc n) s p q ≡ walk (leaf_is n s p) b
  leaf_walk n only q b = go (find s q)
    where
      go : (o : Option (Term Variable)) → option_and_then (onward only) o ≡ Some b
          → behind_leaf (walk (leaf_is n s p)) p q o ≡ walk (leaf_is n s p) b
      go None i = cc
      go (Some t) i = onward_walk only (leaf_is n s p) t b i

  step_walk : (n : ℕ) (t b : Term Variable) → step s t ≡ Some b → walk (leaf_is (suc n) s p) t ≡ walk (leaf_is n s p) b
  step_walk n (var q) b e = leaf_walk n false q b e
  step_walk n (ro q) b e = leaf_walk n true q b e
  step_walk n (number z) b e = cc
  step_walk n (string z) b e = cc
  step_walk n nil b e = cc
  step_walk n (cons t u) b e = cc
  step_walk n (tuple ts) b e = cc
  step_walk n (first k) b e = cc

  -- what is found in a term to which another leads is found in the other
  walk_led : (t u : Term Variable) (x : Found) (n : ℕ) → led n s t ≡ Some u → Answers (λ m. walk (leaf_is m s p) u) x
      → Answers (λ m. walk (leaf_is m s p) t) x
  walk_led t u x zero e (m, i) = (m, ap (option_and_then (walk (leaf_is m s p))) e ∙ i)
  walk_led t u x (suc n) e h = go (step s t) refl e (λ b f. walk_led b u x n f h)
    where
      go : (o : Option (Term Variable)) → step s t ≡ o → option_and_then (led n s) o ≡ Some u
          → ((b : Term Variable) → led n s b ≡ Some u → Answers (λ m. walk (leaf_is m s p) b) x) → Answers (λ m. walk (leaf_is m s p) t) x
      go None i f rec = cc
      go (Some b) i f rec = let r = rec b f in (suc r.0, step_walk r.0 t b i ∙ r.1)

module _ (s short : Bindings) (shortened : AreShortened s short) (p : Variable) where
  leaf_short : (n : ℕ) (q : Variable) (x : Found) → leaf_is n short p q ≡ Some x → Answers (λ m. leaf_is m s p q) x
  leaf_short zero q x e = cc
  leaf_short (suc n) q x e =
      go (found_short s s short q shortened) (λ t i. walk_answers s p (leaf_is n short p) (λ q x i. leaf_short n q x i) t x i)
    where
      go : ((find s q ≡ None) × (find short q ≡ None))
          ⊎ ((t u : Term Variable) × (find s q ≡ Some t) × (find short q ≡ Some u) × LeadsTo s t u)
          → ((t : Term Variable) → walk (leaf_is n short p) t ≡ Some x → Answers (λ m. walk (leaf_is m s p) t) x)
          → Answers (λ m. leaf_is m s p q) x
      go (inl r) rec =
          (1, ap (behind_leaf (walk (leaf_is 0 s p)) p q) r.0 ∙ sym (ap (behind_leaf (walk (leaf_is n short p)) p q) r.1) ∙ e)
      go (inr r) rec =
          let found = walk_led s p r.0 r.1 x r.4.0 r.4.1 (rec r.1 (sym (ap (behind_leaf (walk (leaf_is n short p)) p q) r.3) ∙ e)) in
          (suc found.0, ap (behind_leaf (walk (leaf_is found.0 s p)) p q) r.2 ∙ found.1)

  -- an answer of the occurs check over the shorter bindings
  pub occurs_short : (n : ℕ) (t : Term Variable) (x : Found) → occurs n short p t ≡ Some x → Answers (λ m. occurs m s p t) x
  occurs_short n t x e = walk_answers s p (leaf_is n short p) (λ q y i. leaf_short n q y i) t x e
