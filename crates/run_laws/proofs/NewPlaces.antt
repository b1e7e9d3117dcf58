-- A try binds places of the state that are unbound, each once.
use Rattle.std.proofs.Common.{◌≡◌, ℕ, zero, suc, ◌<◌, Bool, true, false, cond, List, [], ◌∷◌, ◌++◌, length, Option, Some, None, refl, sym, ap, ◌∙◌, subst, append_assoc, append-nil, arith}
use Rattle.std.specs.Prelude.{slice_get, option_map, nat_eq, ◌&&◌}
use Rattle.std.proofs.lemmas.Bool.Decides.{nat_tests}
use Rattle.std.proofs.lemmas.Option.{same_Some}
use Rattle.fcp_model.specs.declared.run.Place.{Place}
use Rattle.fcp_model.specs.Places.{Variable, made, own, is_same, is_older}
use Rattle.fcp_model.specs.Terms.{Term, number, string, nil, cons, tuple, var, ro, first, plain, rename, settle, Bindings, find}
use Rattle.fcp_model.specs.Value.{Look, writable, read_only, solid, open_place, through, value_of, value}
use Rattle.fcp_model.specs.Occurs.{Found, hit, miss, occurs}
use Rattle.fcp_model.specs.Pair.{Pair, Step, nothing, binds, clashes, waits, parts, alike, part_step, Treated, treated, bind_solid, table, both_looks, first_of, pair_on, pair}
use Rattle.fcp_model.specs.Unification.{Ended, done, clash, wait, step_on, go_on, unify}
use Rattle.fcp_model.specs.Expressions.{Evaluated, gives, bad, unready, eval}
use Rattle.fcp_model.specs.Tests.{Test, rename_test, Tested, holds, fails, pauses, test}
use Rattle.fcp_model.specs.Programs.{Goal, user, true', unifies, assigns, Clause, Program, clauses_of}
use Rattle.fcp_model.specs.HeadPairs.{head_pairs}
use Rattle.fcp_model.specs.Trials.{Tried, succeeds, try_fails, try_waits, test_on, tests, guard_on, attempt}
use Rattle.fcp_model.specs.Decisions.{commits, choose_on, choose, built_in, assign_on, decide}
use Rattle.fcp_model.specs.Events.{settled}
use Rattle.fcp_model.proofs.Finding.{is_same-true, is_same_refl, find-append, found_or}

-- a place that is unbound, or a clause's own variable
abbrev pub IsNew : Bindings → Variable → Type 0
IsNew s (made j) = find s (made j) ≡ None
IsNew s (own k) = Unit {0}

-- each binding is of such a variable when it is put last
abbrev pub AreNew : Bindings → Bindings → Type 0
AreNew s [] = Unit {0}
AreNew s (b ∷ bs) = IsNew s b.0 × AreNew (s ++ b ∷ []) bs

new_more : (s bs : Bindings) (p : Variable) (t : Term Variable) → AreNew s bs → IsNew (s ++ bs) p → AreNew s (bs ++ (p, t) ∷ [])
new_more s [] p t h n = (subst (λ (x : Bindings). IsNew x p) (append-nil s) n, tt)
new_more s (b ∷ bs) p t h n =
    (h.0, new_more (s ++ b ∷ []) bs p t h.1 (subst (λ (x : Bindings). IsNew x p) (sym (append_assoc s (b ∷ []) bs)) n))

-- a value that is a variable is unbound
abbrev IsOpenLook : Bindings → Look → Type 0
IsOpenLook s (writable p) = find s p ≡ None
IsOpenLook s (read_only p) = find s p ≡ None
IsOpenLook s (solid t) = Unit {0}

value_of_open : (n : ℕ) (s : Bindings) (only : Bool) (p : Variable) (l : Look) → value_of n s only p ≡ Some l → IsOpenLook s l
value_of_open zero s only p l e = cc
value_of_open (suc n) s only p l e = go (λ b q. value_of_open n s b q l) (find s p) refl e
  where
    open' : (b : Bool) → find s p ≡ None → IsOpenLook s (open_place b p)
    open' true f = f
    open' false f = f

    go : ((b : Bool) (q : Variable) → value_of n s b q ≡ Some l → IsOpenLook s l) → (o : Option (Term Variable)) → find s p ≡ o
        → through (value_of n s) only p o ≡ Some l → IsOpenLook s l
    go rec None f h = subst (IsOpenLook s) (same_Some _ _ h) (open' only f)
    go rec (Some (var q)) f h = rec only q h
    go rec (Some (ro q)) f h = rec true q h
    go rec (Some (first k)) f h = rec only (own k) h
    go rec (Some (number z)) f h = subst (IsOpenLook s) (same_Some (solid (number z)) l h) tt
    go rec (Some (string z)) f h = subst (IsOpenLook s) (same_Some (solid (string z)) l h) tt
    go rec (Some nil) f h = subst (IsOpenLook s) (same_Some (solid nil) l h) tt
    go rec (Some (cons a b)) f h = subst (IsOpenLook s) (same_Some (solid (cons a b)) l h) tt
    go rec (Some (tuple ts)) f h = subst (IsOpenLook s) (same_Some (solid (tuple ts)) l h) tt

value_open : (n : ℕ) (s : Bindings) (t : Term Variable) (l : Look) → value n s t ≡ Some l → IsOpenLook s l
value_open n s (var p) l e = value_of_open n s false p l e
value_open n s (ro p) l e = value_of_open n s true p l e
value_open n s (first k) l e = value_of_open n s false (own k) l e
value_open n s (number z) l e = subst (IsOpenLook s) (same_Some (solid (number z)) l e) tt
value_open n s (string z) l e = subst (IsOpenLook s) (same_Some (solid (string z)) l e) tt
value_open n s nil l e = subst (IsOpenLook s) (same_Some (solid nil) l e) tt
value_open n s (cons a b) l e = subst (IsOpenLook s) (same_Some (solid (cons a b)) l e) tt
value_open n s (tuple ts) l e = subst (IsOpenLook s) (same_Some (solid (tuple ts)) l e) tt

-- a step binds such a variable alone
abbrev IsNewStep : Bindings → Step → Type 0
IsNewStep s nothing = Unit {0}
IsNewStep s (binds p t) = IsNew s p
IsNewStep s clashes = Unit {0}
IsNewStep s waits = Unit {0}
IsNewStep s (parts qs) = Unit {0}

new_of : (s : Bindings) (p : Variable) → find s p ≡ None → IsNew s p
new_of s (made j) h = h
new_of s (own k) h = tt

module _ (n : ℕ) (s : Bindings) where
  step_is : (st : Step) (rs : List Variable) (x : Treated) → IsNewStep s st → treated st rs ≡ Some x → IsNewStep s x.step
  step_is st rs x f e =
      subst (λ (y : Treated). IsNewStep s y.step) (same_Some (record { step = st; reads = rs }) x e) f

  parts_new : (o : Option (List Pair)) → IsNewStep s (part_step o)
  parts_new None = tt
  parts_new (Some []) = tt
  parts_new (Some (p ∷ ps)) = tt

  solid_new : (p : Variable) (t : Term Variable) (x : Treated) → find s p ≡ None → (o : Option Found) → bind_solid p t o ≡ Some x
      → IsNewStep s x.step
  solid_new p t x f None e = cc
  solid_new p t x f (Some (hit rs)) e = step_is clashes (p ∷ rs) x tt e
  solid_new p t x f (Some (miss rs)) e = step_is (binds p (plain t)) (p ∷ rs) x (new_of s p f) e

  two_new : (p q : Variable) → find s p ≡ None → find s q ≡ None → (c d : Bool)
      → IsNewStep s (cond c nothing (cond d (binds q (var p)) (binds p (var q))))
  two_new p q f g true d = tt
  two_new p q f g false true = new_of s q g
  two_new p q f g false false = new_of s p f

  one_new : (p : Variable) (t : Term Variable) → find s p ≡ None → (c : Bool) → IsNewStep s (cond c nothing (binds p t))
  one_new p t f true = tt
  one_new p t f false = new_of s p f

  none_new : (c : Bool) → IsNewStep s (cond c nothing waits)
  none_new true = tt
  none_new false = tt

  table_new : (l m : Look) → IsOpenLook s l → IsOpenLook s m → (x : Treated) → table n s l m ≡ Some x → IsNewStep s x.step
  table_new (solid t) (solid u) f g x e = step_is _ _ x (parts_new (alike t u)) e
  table_new (solid t) (writable q) f g x e = solid_new q t x g (occurs n s q t) e
  table_new (solid t) (read_only q) f g x e = step_is _ _ x tt e
  table_new (writable p) (solid u) f g x e = solid_new p u x f (occurs n s p u) e
  table_new (read_only p) (solid u) f g x e = step_is _ _ x tt e
  table_new (writable p) (writable q) f g x e = step_is _ _ x (two_new p q f g (is_same p q) (is_older p q)) e
  table_new (writable p) (read_only q) f g x e = step_is _ _ x (one_new p (ro q) f (is_same p q)) e
  table_new (read_only p) (writable q) f g x e = step_is _ _ x (one_new q (ro p) g (is_same p q)) e
  table_new (read_only p) (read_only q) f g x e = step_is _ _ x (none_new (is_same p q)) e

  pair_new : (a b : Term Variable) (x : Treated) → pair n s a b ≡ Some x → IsNewStep s x.step
  pair_new a b x e = go (first_of b) e
    where
      looks : (o o' : Option Look) → value n s a ≡ o → value n s b ≡ o' → both_looks (table n s) o o' ≡ Some x → IsNewStep s x.step
      looks None o' h i j = cc
      looks (Some l) None h i j = cc
      looks (Some l) (Some m) h i j = table_new l m (value_open n s a l h) (value_open n s b m i) x j

      go : (o : Option ℕ) → pair_on n s a b o ≡ Some x → IsNewStep s x.step
      go None h = looks (value n s a) (value n s b) refl refl h
      go (Some k) h = step_is (binds (own k) a) [] x tt h

module _ (s to : Bindings) (read : List Variable) where
  abbrev Ends : ℕ → Type 0
  Ends k = (bs : Bindings) (rs : List Variable) (ps : List Pair) → AreNew s bs → unify k s bs rs ps ≡ Some (done to read) → AreNew s to

  step_ends : (k : ℕ) → Ends k → (bs : Bindings) (rs : List Variable) (ps : List Pair) → AreNew s bs → (st : Step)
      → IsNewStep (s ++ bs) st → step_on (unify k s) bs rs ps st ≡ Some (done to read) → AreNew s to
  step_ends k rec bs rs ps h nothing f e = rec bs rs ps h e
  step_ends k rec bs rs ps h (binds p t) f e = rec (bs ++ (p, t) ∷ []) rs ps (new_more s bs p t h f) e
  step_ends k rec bs rs ps h (parts qs) f e = rec bs rs (qs ++ ps) h e
  step_ends k rec bs rs ps h clashes f e = cc
  step_ends k rec bs rs ps h waits f e = cc

  unify_ends : (k : ℕ) → Ends k
  unify_ends zero bs rs ps h e = cc
  unify_ends (suc k) bs rs [] h e = let same : bs ≡ to = cc in subst (AreNew s) same h
  unify_ends (suc k) bs rs (ab ∷ ps) h e = go (unify_ends k) (pair k (s ++ bs) ab.0 ab.1) refl e
    where
      go : Ends k → (o : Option Treated) → pair k (s ++ bs) ab.0 ab.1 ≡ o → go_on (unify k s) bs rs ps o ≡ Some (done to read)
          → AreNew s to
      go rec None f i = cc
      go rec (Some x) f i = step_ends k rec bs (rs ++ x.reads) ps h x.step (pair_new k (s ++ bs) ab.0 ab.1 x f) i

  tests_end : (n : ℕ) (bs : Bindings) (behind : Bool) (ts : List (Test ℕ)) (rs : List Variable) → AreNew s bs
      → tests n s bs behind rs ts ≡ Some (succeeds to read) → AreNew s to
  tests_end n bs behind [] rs h e = let same : bs ≡ to = cc in subst (AreNew s) same h
  tests_end n bs behind (t ∷ ts) rs h e = go (λ qs. tests_end n bs behind ts qs h) (test n (s ++ bs) behind (rename_test own t)) e
    where
      go : ((qs : List Variable) → tests n s bs behind qs ts ≡ Some (succeeds to read) → AreNew s to) → (o : Option Tested)
          → test_on (λ qs. tests n s bs behind qs ts) rs o ≡ Some (succeeds to read) → AreNew s to
      go rec None f = cc
      go rec (Some (holds qs)) f = rec (rs ++ qs) f
      go rec (Some (fails qs)) f = cc
      go rec (Some (pauses qs)) f = cc

attempt_new : (n : ℕ) (s : Bindings) (c : Clause) (args : List (Term Variable)) (behind : Bool) (to : Bindings) (read : List Variable)
    → attempt n s c args behind ≡ Some (succeeds to read) → AreNew s to
attempt_new n s c args behind to read e = go (unify n s [] [] (head_pairs 0 args c.args)) refl e
  where
    go : (o : Option Ended) → unify n s [] [] (head_pairs 0 args c.args) ≡ o
        → guard_on (λ bs rs. tests n s bs behind rs c.guard) o ≡ Some (succeeds to read) → AreNew s to
    go None f i = cc
    go (Some (done bs rs)) f i =
        tests_end s to read n bs behind c.guard rs (unify_ends s bs rs n [] [] (head_pairs 0 args c.args) tt f) i
    go (Some (clash rs)) f i = cc
    go (Some (wait rs)) f i = cc

choose_new : (n : ℕ) (s : Bindings) (args : List (Term Variable)) (to : Bindings) (taken : ℕ) (read : List Variable) (cs : List Clause)
    (k : ℕ) (behind : Bool) (rs : List Variable) → choose n s args k behind rs cs ≡ Some (commits taken to read) → AreNew s to
choose_new n s args to taken read [] k true rs e = cc
choose_new n s args to taken read [] k false rs e = cc
choose_new n s args to taken read (c ∷ cs) k behind rs e =
    go (choose_new n s args to taken read cs (suc k)) (attempt n s c args behind) refl e
  where
    go : ((b : Bool) (qs : List Variable) → choose n s args (suc k) b qs cs ≡ Some (commits taken to read) → AreNew s to)
        → (o : Option Tried) → attempt n s c args behind ≡ o
        → choose_on (λ b qs. choose n s args (suc k) b qs cs) k behind rs o ≡ Some (commits taken to read) → AreNew s to
    go rec None f i = cc
    go rec (Some (succeeds bs qs)) f i = let same : bs ≡ to = cc in subst (AreNew s) same (attempt_new n s c args behind bs qs f)
    go rec (Some (try_fails qs)) f i = rec behind (rs ++ qs) i
    go rec (Some (try_waits qs)) f i = rec false (rs ++ qs) i

built_in_new : (n : ℕ) (s : Bindings) (ps : List Pair) (k : ℕ) (to : Bindings) (read : List Variable)
    → option_map (built_in []) (unify n s [] [] ps) ≡ Some (commits k to read) → AreNew s to
built_in_new n s ps k to read e = go (unify n s [] [] ps) refl e
  where
    go : (o : Option Ended) → unify n s [] [] ps ≡ o → option_map (built_in []) o ≡ Some (commits k to read) → AreNew s to
    go None f i = cc
    go (Some (done bs qs)) f i = let same : bs ≡ to = cc in subst (AreNew s) same (unify_ends s bs qs n [] [] ps tt f)
    go (Some (clash qs)) f i = cc
    go (Some (wait qs)) f i = cc

-- what a commit binds
pub commit_new : (n : ℕ) (m : Program) (s : Bindings) (g : Goal Variable) (k : ℕ) (to : Bindings) (read : List Variable)
    → decide n m s g ≡ Some (commits k to read) → AreNew s to
commit_new n m s (user p args) k to read e = choose_new n s args to k read (clauses_of m p (length args)) 1 true [] e
commit_new n m s true' k to read e = let same : [] ≡ to = cc in subst (AreNew s) same tt
commit_new n m s (unifies t u) k to read e = built_in_new n s ((t, u) ∷ []) k to read e
commit_new n m s (assigns t x) k to read e = go (eval n s x) e
  where
    go : (o : Option Evaluated)
        → assign_on (λ z. option_map (built_in []) (unify n s [] [] ((t, number z) ∷ []))) o ≡ Some (commits k to read) → AreNew s to
    go None f = cc
    go (Some (gives z)) f = built_in_new n s ((t, number z) ∷ []) k to read f
    go (Some bad) f = cc
    go (Some (unready rs)) f = cc

-- so a place that it binds was unbound
first_none : (a b : Option (Term Variable)) → found_or a b ≡ None → a ≡ None
first_none None b h = refl
first_none (Some t) b h = cc

pub new_unbound : (bs s : Bindings) (j : Place) (t : Term Variable) → AreNew s bs → find bs (made j) ≡ Some t → find s (made j) ≡ None
new_unbound [] s j t h e = cc
new_unbound (b ∷ bs) s j t h e = go (is_same b.0 (made j)) refl (new_unbound bs (s ++ b ∷ []) j t h.1) e
  where
    go : (c : Bool) → is_same b.0 (made j) ≡ c → (find bs (made j) ≡ Some t → find (s ++ b ∷ []) (made j) ≡ None)
        → cond c (Some b.1) (find bs (made j)) ≡ Some t → find s (made j) ≡ None
    go true f rec i = subst (IsNew s) (is_same-true b.0 (made j) f) h.0
    go false f rec i = first_none _ _ (sym (find-append s (b ∷ []) (made j)) ∙ rec i)

bound_not : (bs s : Bindings) (j : Place) (u t : Term Variable) (i : ℕ) → AreNew s bs → find s (made j) ≡ Some u
    → slice_get bs i ≡ Some (made j, t) → ⊥
bound_not [] s j u t i h f e = cc
bound_not (b ∷ bs) s j u t zero h f e =
    let same : b ≡ (made j, t) = same_Some _ _ e in
    let none : find s (made j) ≡ None = subst (λ (x : Variable × Term Variable). IsNew s x.0) same h.0 in cc
bound_not (b ∷ bs) s j u t (suc i) h f e =
    bound_not bs (s ++ b ∷ []) j u t i h.1 (find-append s (b ∷ []) (made j) ∙ ap (λ o. found_or o (find (b ∷ []) (made j))) f) e

bound_now : (s : Bindings) (b : Variable × Term Variable) (j : Place) (t : Term Variable) → IsNew s b.0 → b ≡ (made j, t)
    → find (s ++ b ∷ []) (made j) ≡ Some t
bound_now s b j t n e =
    let none : find s (made j) ≡ None = subst (λ (x : Variable × Term Variable). IsNew s x.0) e n in
    find-append s (b ∷ []) (made j) ∙ (ap (λ o. found_or o (find (b ∷ []) (made j))) none
    ∙ (ap (λ (x : Variable × Term Variable). find (x ∷ []) (made j)) e
    ∙ ap (λ (c : Bool). cond c (Some t) None) (is_same_refl (made j))))

-- and is bound once
pub bound_once : (bs s : Bindings) (j : Place) (t u : Term Variable) (i k : ℕ) → AreNew s bs → slice_get bs i ≡ Some (made j, t)
    → slice_get bs k ≡ Some (made j, u) → i ≡ k
bound_once [] s j t u i k h e f = cc
bound_once (b ∷ bs) s j t u zero zero h e f = refl
bound_once (b ∷ bs) s j t u (suc i) (suc k) h e f = ap suc (bound_once bs (s ++ b ∷ []) j t u i k h.1 e f)
bound_once (b ∷ bs) s j t u zero (suc k) h e f =
    absurd (bound_not bs (s ++ b ∷ []) j t u k h.1 (bound_now s b j t h.0 (same_Some _ _ e)) f)
bound_once (b ∷ bs) s j t u (suc i) zero h e f =
    absurd (bound_not bs (s ++ b ∷ []) j u t i h.1 (bound_now s b j u h.0 (same_Some _ _ f)) e)

-- what stands for it afterwards
find_settled : (n : ℕ) (bs : Bindings) (j : Place) → j.entry < n
    → find (settled n bs) (made j) ≡ option_map (rename (settle n)) (find bs (made j))
find_settled n [] j h = refl
find_settled n (b ∷ bs) j h =
    ap (λ (c : Bool). cond c (Some (rename (settle n) b.1)) (find (settled n bs) (made j))) (same b.0)
    ∙ go (is_same b.0 (made j)) (find_settled n bs j h)
  where
    other : (a k e i : ℕ) → e < a → (nat_eq a e && nat_eq k i) ≡ false
    other a k e i h = grind (arith, nat_tests)

    same : (v : Variable) → is_same (settle n v) (made j) ≡ is_same v (made j)
    same (made p) = refl
    same (own k) = other n k j.entry j.number h

    go : (c : Bool) → find (settled n bs) (made j) ≡ option_map (rename (settle n)) (find bs (made j))
        → cond c (Some (rename (settle n) b.1)) (find (settled n bs) (made j))
        ≡ option_map (rename (settle n)) (cond c (Some b.1) (find bs (made j)))
    go true e = refl
    go false e = e

pub settled_there : (n : ℕ) (s bs : Bindings) (j : Place) (t : Term Variable) → AreNew s bs → j.entry < n → find bs (made j) ≡ Some t
    → find (s ++ settled n bs) (made j) ≡ Some (rename (settle n) t)
settled_there n s bs j t h low e =
    find-append s (settled n bs) (made j)
    ∙ (ap (λ o. found_or o (find (settled n bs) (made j))) (new_unbound bs s j t h e)
    ∙ (find_settled n bs j low ∙ ap (option_map (rename (settle n))) e))
