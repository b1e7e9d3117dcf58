-- The variables of a committed clause get their places.
use Rattle.std.proofs.Common.{◌≡◌, ℕ, ◌<◌, ◌≤◌, Bool, true, false, cond, List, [], ◌∷◌, refl, sym, ap, ◌∙◌, ⊎_elim, arith, true≢false}
use Rattle.std.proofs.Common.{Option, Some, None}
use Rattle.std.specs.Prelude.{nat_eq, ◌&&◌, ◌||◌, option_map, is_some}
use Rattle.std.proofs.lemmas.Bool.{cases_Bool, cond-true, cond-false, ne_eqb, eq-eqb}
use Rattle.fcp_model.specs.declared.run.Place.{Place}
use Rattle.fcp_model.specs.Places.{Variable, made, own, place, placed, is_same, is_same_place, is_listed}
use Rattle.fcp_model.specs.Terms.{Term, rename, settle, Bindings, find}
use Rattle.fcp_model.specs.Events.{settled, binds_one}
use Rattle.fcp_model.proofs.Finding.{is_same_place-true, is_same-true, is_same_refl}

-- an old place is none of the new ones
pub apart : (n : ℕ) (k : ℕ) (j : Place) → j.entry < n → is_same (placed n k) (made j) ≡ false
apart n k j lt = ap (λ (b : Bool). b && nat_eq k j.number) (ne_eqb n j.entry (λ e. omega arith))

same_settled : (n : ℕ) (v : Variable) (j : Place) → j.entry < n → is_same (settle n v) (made j) ≡ is_same v (made j)
same_settled n (made i) j lt = refl
same_settled n (own k) j lt = apart n k j lt

-- what an old place is bound to
pub find-settled : (n : ℕ) (bs : Bindings) (j : Place) → j.entry < n
    → find (settled n bs) (made j) ≡ option_map (rename (settle n)) (find bs (made j))
find-settled n [] j lt = refl
find-settled n (b ∷ bs) j lt =
    ap (λ (t : Bool). cond t (Some (rename (settle n) b.1)) (find (settled n bs) (made j))) (same_settled n b.0 j lt)
    ∙ go (is_same b.0 (made j)) (find-settled n bs j lt)
  where
    go : (t : Bool) → find (settled n bs) (made j) ≡ option_map (rename (settle n)) (find bs (made j))
        → cond t (Some (rename (settle n) b.1)) (find (settled n bs) (made j)) ≡ option_map (rename (settle n))
        (cond t (Some b.1) (find bs (made j)))
    go true e = refl
    go false e = e

-- the bindings bind only places of entries before n
abbrev pub AreBefore : ℕ → Bindings → Type 0
AreBefore n bs = (j : Place) (t : Term Variable) → find bs (made j) ≡ Some t → j.entry < n

before_rest : (n : ℕ) (b : Variable × Term Variable) (bs : Bindings) → AreBefore n (b ∷ bs) → AreBefore n bs
before_rest n b bs h j t e = go (is_same b.0 (made j)) refl
  where
    go : (c : Bool) → is_same b.0 (made j) ≡ c → j.entry < n
    go true i = h j b.1 (cond-true _ _ _ i)
    go false i = h j t (cond-false _ _ _ i ∙ e)

same_own : (n k : ℕ) (b : Variable × Term Variable) (bs : Bindings) → AreBefore n (b ∷ bs)
    → is_same (settle n b.0) (placed n k) ≡ is_same b.0 (own k)
same_own n k b bs h = go b.0 refl
  where
    go : (v : Variable) → b.0 ≡ v → is_same (settle n v) (placed n k) ≡ is_same v (own k)
    go (made i) e =
        let lt : i.entry < n = h i b.1 (cond-true _ _ _ (ap (λ (v : Variable). is_same v (made i)) e ∙ is_same_refl (made i))) in
        ap (λ (c : Bool). c && nat_eq i.number k) (ne_eqb i.entry n (λ f. omega arith))
    go (own l) e = ap (λ (c : Bool). c && nat_eq l k) (eq-eqb n n refl)

-- what a new place is bound to
pub find-settled_own : (n : ℕ) (bs : Bindings) (k : ℕ) → AreBefore n bs
    → find (settled n bs) (placed n k) ≡ option_map (rename (settle n)) (find bs (own k))
find-settled_own n [] k h = refl
find-settled_own n (b ∷ bs) k h =
    ap (λ (t : Bool). cond t (Some (rename (settle n) b.1)) (find (settled n bs) (placed n k))) (same_own n k b bs h)
    ∙ go (is_same b.0 (own k)) (find-settled_own n bs k (before_rest n b bs h))
  where
    go : (t : Bool) → find (settled n bs) (placed n k) ≡ option_map (rename (settle n)) (find bs (own k))
        → cond t (Some (rename (settle n) b.1)) (find (settled n bs) (placed n k)) ≡ option_map (rename (settle n))
        (cond t (Some b.1) (find bs (own k)))
    go true e = refl
    go false e = e

-- no variable of a clause is bound any more
pub find-settled_free : (n : ℕ) (bs : Bindings) (k : ℕ) → find (settled n bs) (own k) ≡ None
find-settled_free n [] k = refl
find-settled_free n (b ∷ bs) k = cond-false _ _ _ (go b.0) ∙ find-settled_free n bs k
  where
    go : (v : Variable) → is_same (settle n v) (own k) ≡ false
    go (made j) = refl
    go (own l) = refl

-- a process that is not woken waits on no bound place
pub not_bound : (bs : Bindings) (ps : List Place) (j : Place) → binds_one bs ps ≡ false → is_listed j ps ≡ true → find bs (made j) ≡ None
not_bound bs [] j h l = absurd (true≢false (sym l))
not_bound bs (p ∷ ps) j h l = go (is_some (find bs (made p))) (find bs (made p)) refl refl h (λ f k. not_bound bs ps j f k)
  where
    none_of : (o : Option (Term Variable)) → is_some o ≡ false → o ≡ None
    none_of None e = refl
    none_of (Some t) e = absurd (true≢false e)

    rest : (b : Bool) → is_same_place p j ≡ b → b || is_listed j ps ≡ true → find bs (made p) ≡ None
        → (is_listed j ps ≡ true → find bs (made j) ≡ None) → find bs (made j) ≡ None
    rest true i k e f = ap (λ (q : Place). find bs (made q)) (sym (is_same_place-true p j i)) ∙ e
    rest false i k e f = f k

    go : (b : Bool) (o : Option (Term Variable)) → is_some (find bs (made p)) ≡ b → find bs (made p) ≡ o → b || binds_one bs ps ≡ false
        → (binds_one bs ps ≡ false → is_listed j ps ≡ true → find bs (made j) ≡ None) → find bs (made j) ≡ None
    go true o i e k f = absurd (true≢false k)
    go false o i e k f = rest (is_same_place p j) refl l (none_of (find bs (made p)) i) (λ m. f k m)

-- a process that waits on a bound place is woken
pub is_bound : (bs : Bindings) (ps : List Place) (j : Place) (t : Term Variable) → is_listed j ps ≡ true → find bs (made j) ≡ Some t
    → binds_one bs ps ≡ true
is_bound bs ps j t l e =
    ⊎_elim (λ (h : binds_one bs ps ≡ true). h) (λ (h : binds_one bs ps ≡ false). let q : None ≡ Some t = sym (not_bound bs ps j h l)
    ∙ e in cc) (cases_Bool (binds_one bs ps))

-- and one that is woken waits on a bound place
pub bound_one : (bs : Bindings) (ps : List Place) → binds_one bs ps ≡ true → (j : Place) × (t : Term Variable) × (is_listed j ps ≡ true)
    × (find bs (made j) ≡ Some t)
bound_one bs [] h = absurd (true≢false (sym h))
bound_one bs (p ∷ ps) h = go (find bs (made p)) refl h (λ k. bound_one bs ps k)
  where
    later : (b : Bool) → b || true ≡ true
    later true = refl
    later false = refl

    go : (o : Option (Term Variable)) → find bs (made p) ≡ o → is_some o || binds_one bs ps ≡ true
        → (binds_one bs ps ≡ true → (j : Place) × (t : Term Variable) × (is_listed j ps ≡ true) × (find bs (made j) ≡ Some t))
        → (j : Place) × (t : Term Variable) × (is_listed j (p ∷ ps) ≡ true) × (find bs (made j) ≡ Some t)
    go (Some t) e k f = (p, t, ap (λ (b : Bool). b || is_listed p ps) (is_same_refl (made p)), e)
    go None e k f = let r = f k in (r.0, r.1, ap (λ (b : Bool). is_same_place p r.0 || b) r.2 ∙ later (is_same_place p r.0), r.3)

-- what is bound after a commit has an entry until then
pub settled_before : (n : ℕ) (bs : Bindings) (j : Place) (t : Term Variable) → AreBefore n bs → find (settled n bs) (made j) ≡ Some t
    → j.entry ≤ n
settled_before n [] j t h e = let i : None ≡ Some t = e in cc
settled_before n (b ∷ bs) j t h e =
    go (is_same (settle n b.0) (made j)) b.0 refl refl e (λ f. settled_before n bs j t (before_rest n b bs h) f)
  where
    key : (v : Variable) → b.0 ≡ v → settle n v ≡ made j → j.entry ≤ n
    key (made i) e f =
        let same : i ≡ j = cc in
        let lt : i.entry < n = h i b.1 (cond-true _ _ _ (ap (λ (v : Variable). is_same v (made i)) e ∙ is_same_refl (made i))) in
        let eq : i.entry ≡ j.entry = ap (λ (p : Place). p.entry) same in omega arith
    key (own k) e f = let same : place n k ≡ j = cc in let eq : n ≡ j.entry = ap (λ (p : Place). p.entry) same in omega arith

    go : (c : Bool) (v : Variable) → is_same (settle n b.0) (made j) ≡ c → b.0 ≡ v
        → cond c (Some (rename (settle n) b.1)) (find (settled n bs) (made j)) ≡ Some t
        → (find (settled n bs) (made j) ≡ Some t → j.entry ≤ n) → j.entry ≤ n
    go true v i e f g = key v e (ap (settle n) (sym e) ∙ is_same-true (settle n b.0) (made j) i)
    go false v i e f g = g f
