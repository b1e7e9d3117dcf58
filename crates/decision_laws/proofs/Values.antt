-- Each term has a value, and each occurs check an answer, where bindings have no cycle.
use Rattle.std.proofs.Common.{◌≡◌, ℕ, zero, suc, ◌≤◌, Bool, true, false, List, [], ◌∷◌, ◌++◌, length, Option, Some, None, refl, arith, inl, inr}
use Rattle.std.specs.Prelude.{IsSome}
use Rattle.fcp_model.specs.Places.{Variable, own, is_same}
use Rattle.fcp_model.specs.Terms.{Term, number, string, nil, cons, tuple, var, ro, first, Terms, none, more, Bindings, find}
use Rattle.fcp_model.specs.Value.{Look, writable, read_only, solid, open_place, through, value_of, value}
use Rattle.fcp_model.specs.Occurs.{Found, hit, miss, found, then_found, or_else, walk, walks, behind_leaf, leaf_is, occurs}
use Rattle.fcp_model.specs.Ranks.{Mentions, MentionsOne, Ranked}
use Rattle.fcp_model.proofs.Rank.{IsEnough, fewer, all_enough}
use Rattle.fcp_model.proofs.MoreSteps.{value_more, occurs_more}
use Rattle.decision_laws.proofs.Settling.{Any, Settles, by_growth}
use Rattle.decision_laws.proofs.Sizes.{leaf_size, size, size_bound}

-- a variable that is unbound, or a term of at most that size
abbrev pub IsWithin : Bindings → ℕ → Look → Type 0
IsWithin s n (writable p) = find s p ≡ None
IsWithin s n (read_only p) = find s p ≡ None
IsWithin s n (solid t) = size s t ≤ n

-- an answer is there, with that bound
record HasValue (s : Bindings) (n : ℕ) (o : Option Look) : Type 0 where
  look : Look
  is : o ≡ Some look
  within : IsWithin s n look

module _ (s : Bindings) (r : Ranked s) where
  -- the size of a variable
  abbrev bound : Variable → ℕ
  bound q = leaf_size (length s) s q

  open_within : (n : ℕ) (only : Bool) (p : Variable) → find s p ≡ None → IsWithin s n (open_place only p)
  open_within n true p e = e
  open_within n false p e = e

  at_open : (n k : ℕ) (only : Bool) (p : Variable) → find s p ≡ None → HasValue s n (through (value_of k s) only p None)
  at_open n k only p e = record { look = open_place only p; is = refl; within = open_within n only p e }

  look_more : (n m : ℕ) (l : Look) → n ≤ m → IsWithin s n l → IsWithin s m l
  look_more n m (writable p) h f = f
  look_more n m (read_only p) h f = f
  look_more n m (solid t) h f = omega (arith, f)

  raised : (n m : ℕ) (o : Option Look) → n ≤ m → HasValue s n o → HasValue s m o
  raised n m o h v = record { look = v.look; is = v.is; within = look_more n m v.look h v.within }

  solid_at : (p : Variable) (t : Term Variable) → find s p ≡ Some t → HasValue s (bound p) (Some (solid t))
  solid_at p t e = record { look = solid t; is = refl; within = omega (arith, size_bound s r p t e) }

  value_at : (n : ℕ) (only : Bool) (p : Variable) → IsEnough s r.rank n p
      → HasValue s (bound p) (value_of (suc n) s only p)
  value_at zero only p enough = go (find s p) refl
    where
      go : (o : Option (Term Variable)) → find s p ≡ o → HasValue s (bound p) (through (value_of 0 s) only p o)
      go None e = at_open _ 0 only p e
      go (Some t) e = absurd (let is : IsSome (find s p) = rw e refl in omega (arith, enough is))
  value_at (suc n) only p enough = go (λ b q t at in_t. value_at n b q (fewer s r n p q t enough at in_t)) (find s p) refl
    where
      go : ((b : Bool) (q : Variable) (t : Term Variable) → find s p ≡ Some t → Mentions q t
          → HasValue s (bound q) (value_of (suc n) s b q)) → (o : Option (Term Variable)) → find s p ≡ o
          → HasValue s (bound p) (through (value_of (suc n) s) only p o)
      go rec None e = at_open _ (suc n) only p e
      go rec (Some (var q)) e = raised _ _ _ (omega (arith, size_bound s r p (var q) e)) (rec only q (var q) e refl)
      go rec (Some (ro q)) e = raised _ _ _ (omega (arith, size_bound s r p (ro q) e)) (rec true q (ro q) e refl)
      go rec (Some (first k)) e = raised _ _ _ (omega (arith, size_bound s r p (first k) e)) (rec only (own k) (first k) e refl)
      go rec (Some (number z)) e = solid_at p _ e
      go rec (Some (string z)) e = solid_at p _ e
      go rec (Some nil) e = solid_at p _ e
      go rec (Some (cons a b)) e = solid_at p _ e
      go rec (Some (tuple ts)) e = solid_at p _ e

  solid_is : (t : Term Variable) → HasValue s (size s t) (Some (solid t))
  solid_is t = record { look = solid t; is = refl; within = omega arith }

  value_there : (t : Term Variable) → HasValue s (size s t) (value (suc (length s)) s t)
  value_there (var q) = value_at (length s) false q (all_enough s r q)
  value_there (ro q) = value_at (length s) true q (all_enough s r q)
  value_there (first k) = value_at (length s) false (own k) (all_enough s r (own k))
  value_there (number z) = solid_is (number z)
  value_there (string z) = solid_is (string z)
  value_there nil = solid_is nil
  value_there (cons a b) = solid_is (cons a b)
  value_there (tuple ts) = solid_is (tuple ts)

  -- each term has a value: an unbound variable, or a term that is not larger
  pub value_settles : (t : Term Variable) → Settles (IsWithin s (size s t)) (λ n. value n s t)
  value_settles t =
      let v = value_there t in by_growth (IsWithin s (size s t)) (λ n. value n s t) (value_more s t) (suc (length s)) v.look v.is v.within

-- an answer of the occurs check is there
HasFound : Option Found → Type 0
HasFound o = (f : Found) × (o ≡ Some f)

found_there : (b : Bool) (rs : List Variable) → HasFound (found b rs)
unfolding HasFound
found_there true rs = (hit rs, refl)
found_there false rs = (miss rs, refl)

then_there : (rs : List Variable) (o : Option Found) → HasFound o → HasFound (then_found rs o)
unfolding HasFound
then_there rs None (f, e) = (f, cc)
then_there rs (Some (hit qs)) h = (hit (rs ++ qs), refl)
then_there rs (Some (miss qs)) h = (miss (rs ++ qs), refl)

or_there : (o o' : Option Found) → HasFound o → HasFound o' → HasFound (or_else o o')
unfolding HasFound
or_there None o' (f, e) h = (f, cc)
or_there (Some (hit rs)) o' h i = (hit rs, refl)
or_there (Some (miss rs)) o' h i = then_there rs o' i

mutual
  walk_there : (g : Variable → Option Found) (t : Term Variable) → ((q : Variable) → Mentions q t → HasFound (g q)) → HasFound (walk g t)
  walk_there g (number z) h = found_there false []
  walk_there g (string z) h = found_there false []
  walk_there g nil h = found_there false []
  walk_there g (cons a b) h = or_there _ _ (walk_there g a (λ q i. h q (inl i))) (walk_there g b (λ q i. h q (inr i)))
  walk_there g (tuple ts) h = walks_there g ts h
  walk_there g (var q) h = h q refl
  walk_there g (ro q) h = h q refl
  walk_there g (first k) h = h (own k) refl

  walks_there : (g : Variable → Option Found) (ts : Terms Variable) → ((q : Variable) → MentionsOne q ts → HasFound (g q))
      → HasFound (walks g ts)
  walks_there g none h = found_there false []
  walks_there g (more t ts) h = or_there _ _ (walk_there g t (λ q i. h q (inl i))) (walks_there g ts (λ q i. h q (inr i)))

module _ (s : Bindings) (r : Ranked s) (p : Variable) where
  leaf_there : (n : ℕ) (q : Variable) → IsEnough s r.rank n q → HasFound (leaf_is (suc n) s p q)
  leaf_there zero q enough = go (find s q) refl
    where
      go : (o : Option (Term Variable)) → find s q ≡ o → HasFound (behind_leaf (walk (leaf_is 0 s p)) p q o)
      go None e = found_there (is_same p q) (q ∷ [])
      go (Some t) e = absurd (let is : IsSome (find s q) = rw e refl in omega (arith, enough is))
  leaf_there (suc n) q enough = go (λ q' t at in_t. leaf_there n q' (fewer s r n q q' t enough at in_t)) (find s q) refl
    where
      go : ((q' : Variable) (t : Term Variable) → find s q ≡ Some t → Mentions q' t → HasFound (leaf_is (suc n) s p q'))
          → (o : Option (Term Variable)) → find s q ≡ o → HasFound (behind_leaf (walk (leaf_is (suc n) s p)) p q o)
      go rec None e = found_there (is_same p q) (q ∷ [])
      go rec (Some t) e = walk_there (leaf_is (suc n) s p) t (λ q' i. rec q' t e i)

  -- each occurs check has an answer
  pub occurs_settles : (t : Term Variable) → Settles Any (λ n. occurs n s p t)
  unfolding HasFound
  occurs_settles t =
      let f : HasFound (occurs (suc (length s)) s p t) =
      walk_there (leaf_is (suc (length s)) s p) t (λ q i. leaf_there (length s) q (all_enough s r q)) in
      by_growth Any (λ n. occurs n s p t) (occurs_more s p t) (suc (length s)) f.0 f.1 tt
