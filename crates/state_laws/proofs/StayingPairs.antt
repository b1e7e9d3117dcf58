-- Values, pairs and unifications stay over a map that binds more, as long as what was read is unbound in it.
use Rattle.std.proofs.Common.{◌≡◌, ℕ, zero, suc, Bool, true, false, cond, List, [], ◌∷◌, ◌++◌, Option, Some, None, refl, sym, ap, ◌∙◌, subst}
use Rattle.fcp_model.specs.Places.{Variable, own, is_same, is_older}
use Rattle.fcp_model.specs.Terms.{Term, number, string, nil, cons, tuple, var, ro, first, Terms, none, more, Bindings, find}
use Rattle.fcp_model.specs.Value.{Look, writable, read_only, solid, open_place, through, value_of, value, look_reads}
use Rattle.fcp_model.specs.Occurs.{Found, hit, miss, found, then_found, or_else, walk, walks, behind_leaf, leaf_is, occurs}
use Rattle.fcp_model.specs.Pair.{Pair, Step, nothing, binds, clashes, waits, parts, alike, part_step, compare, Treated, bind_solid, table, both_looks, first_of, pair_on, pair}
use Rattle.fcp_model.specs.Unification.{Ended, done, clash, wait, Next, step_on, go_on, unify}
use Rattle.fcp_model.specs.Reads.{IsPart, BindsPlaces}
use Rattle.fcp_model.proofs.Finding.{is_same-true, found_or, find-append}
use Rattle.state_laws.proofs.ReadVariables.{Every, every_left, every_right, every_so, IsUnbound, found_reads, treated_reads, ended_reads, Gives, gives_so, Stays, ReadsOn, reads_before}

-- where the variable is unbound in the first map, it is in the second
abbrev pub IsStill : Bindings → Bindings → Variable → Type 0
IsStill w w' v = find w v ≡ None → find w' v ≡ None

-- the occurs check, where each leaf's answer stays
module _ (P : Variable → Type 0) where
  or_stays : (o o' r r' : Option Found) → Stays found_reads P o o' → Stays found_reads P r r'
      → Stays found_reads P (or_else o r) (or_else o' r')
  or_stays None o' r r' h i = tt
  or_stays (Some (hit rs)) o' r r' h i = λ g. ap (λ x. or_else x r') (h g)
  or_stays (Some (miss rs)) o' None r' h i = tt
  or_stays (Some (miss rs)) o' (Some (hit qs)) r' h i =
      λ g. ap (λ x. or_else x r') (h (every_left P rs qs g)) ∙ ap (then_found rs) (i (every_right P rs qs g))
  or_stays (Some (miss rs)) o' (Some (miss qs)) r' h i =
      λ g. ap (λ x. or_else x r') (h (every_left P rs qs g)) ∙ ap (then_found rs) (i (every_right P rs qs g))

  found_stays : (c : Bool) (q : Variable) (o : Option Found) → (P q → o ≡ found c (q ∷ [])) → Stays found_reads P (found c (q ∷ [])) o
  found_stays true q o h = λ g. h g.0
  found_stays false q o h = λ g. h g.0

  mutual
    walk_stays : (f f' : Variable → Option Found) → ((q : Variable) → Stays found_reads P (f q) (f' q)) → (t : Term Variable)
        → Stays found_reads P (walk f t) (walk f' t)
    walk_stays f f' h (number z) = λ g. refl
    walk_stays f f' h (string z) = λ g. refl
    walk_stays f f' h nil = λ g. refl
    walk_stays f f' h (cons a b) = or_stays (walk f a) (walk f' a) (walk f b) (walk f' b) (walk_stays f f' h a) (walk_stays f f' h b)
    walk_stays f f' h (tuple ts) = walks_stay f f' h ts
    walk_stays f f' h (var q) = h q
    walk_stays f f' h (ro q) = h q
    walk_stays f f' h (first k) = h (own k)

    walks_stay : (f f' : Variable → Option Found) → ((q : Variable) → Stays found_reads P (f q) (f' q)) → (ts : Terms Variable)
        → Stays found_reads P (walks f ts) (walks f' ts)
    walks_stay f f' h none = λ g. refl
    walks_stay f f' h (more t ts) = or_stays (walk f t) (walk f' t) (walks f ts) (walks f' ts) (walk_stays f f' h t) (walks_stay f f' h ts)

  bind_stays : (p : Variable) (t : Term Variable) (o o' : Option Found) → Stays found_reads P o o'
      → Stays treated_reads P (bind_solid p t o) (bind_solid p t o')
  bind_stays p t None o' h = tt
  bind_stays p t (Some (hit rs)) o' h = λ g. ap (bind_solid p t) (h g.1)
  bind_stays p t (Some (miss rs)) o' h = λ g. ap (bind_solid p t) (h g.1)

-- what is bound is the variable of a step that binds
abbrev BindsOnly : (Variable → Type 0) → Step → Type 0
BindsOnly P (binds p t) = P p
BindsOnly P nothing = Unit {0}
BindsOnly P clashes = Unit {0}
BindsOnly P waits = Unit {0}
BindsOnly P (parts ps) = Unit {0}

-- the variables of two values are read with the pair
abbrev pub ReadsLooks : (Variable → Type 0) → Look → Look → Treated → Type 0
ReadsLooks P l m x = Every P x.reads → Every P (look_reads l) × Every P (look_reads m)

-- what is bound was read
abbrev BindsRead : (Variable → Type 0) → Treated → Type 0
BindsRead P x = Every P x.reads → BindsOnly P x.step

module _ (P : Variable → Type 0) (n : ℕ) (w : Bindings) where
  bind_reads : (p : Variable) (t : Term Variable) (o : Option Found) → Gives (λ x. Every P x.reads → P p) (bind_solid p t o)
  bind_reads p t None = tt
  bind_reads p t (Some (hit rs)) = λ g. g.0
  bind_reads p t (Some (miss rs)) = λ g. g.0

  table_reads : (l m : Look) → Gives (ReadsLooks P l m) (table n w l m)
  table_reads (solid t) (solid u) = λ g. (tt, tt)
  table_reads (solid t) (writable q) =
      gives_so (λ x. Every P x.reads → P q) (ReadsLooks P (solid t) (writable q)) (λ x f g. (tt, (f g, tt))) _
      (bind_reads q t (occurs n w q t))
  table_reads (solid t) (read_only q) = λ g. (tt, g)
  table_reads (writable p) (solid u) =
      gives_so (λ x. Every P x.reads → P p) (ReadsLooks P (writable p) (solid u)) (λ x f g. ((f g, tt), tt)) _
      (bind_reads p u (occurs n w p u))
  table_reads (writable p) (writable q) = λ g. ((g.0, tt), g.1)
  table_reads (writable p) (read_only q) = λ g. ((g.0, tt), g.1)
  table_reads (read_only p) (solid u) = λ g. (g, tt)
  table_reads (read_only p) (writable q) = λ g. ((g.0, tt), g.1)
  table_reads (read_only p) (read_only q) = λ g. ((g.0, tt), g.1)

  compare_binds : (t u : Term Variable) → BindsOnly P (compare t u)
  compare_binds t u = go (alike t u)
    where
      go : (o : Option (List Pair)) → BindsOnly P (part_step o)
      go None = tt
      go (Some []) = tt
      go (Some (p ∷ ps)) = tt

  bind_binds : (p : Variable) (t : Term Variable) (o : Option Found) → Gives (BindsRead P) (bind_solid p t o)
  bind_binds p t None = tt
  bind_binds p t (Some (hit rs)) = λ g. tt
  bind_binds p t (Some (miss rs)) = λ g. g.0

  if_apart : (c : Bool) (st : Step) → BindsOnly P st → BindsOnly P (cond c nothing st)
  if_apart true st h = tt
  if_apart false st h = h

  table_binds : (l m : Look) → Gives (BindsRead P) (table n w l m)
  table_binds (solid t) (solid u) = λ g. compare_binds t u
  table_binds (solid t) (writable q) = bind_binds q t (occurs n w q t)
  table_binds (solid t) (read_only q) = λ g. tt
  table_binds (writable p) (solid u) = bind_binds p u (occurs n w p u)
  table_binds (writable p) (writable q) = λ g. if_apart (is_same p q) _ (go (is_older p q) g)
    where
      go : (d : Bool) → Every P (p ∷ q ∷ []) → BindsOnly P (cond d (binds q (var p)) (binds p (var q)))
      go true g = g.1.0
      go false g = g.0
  table_binds (writable p) (read_only q) = λ g. if_apart (is_same p q) _ g.0
  table_binds (read_only p) (solid u) = λ g. tt
  table_binds (read_only p) (writable q) = λ g. if_apart (is_same p q) _ g.1.0
  table_binds (read_only p) (read_only q) = λ g. if_apart (is_same p q) waits tt

  pair_binds : ((k : ℕ) → P (own k)) → (a b : Term Variable) → Gives (BindsRead P) (pair n w a b)
  pair_binds own_has a b = go (first_of b)
    where
      two : (o r : Option Look) → Gives (BindsRead P) (both_looks (table n w) o r)
      two None r = tt
      two (Some l) None = tt
      two (Some l) (Some m) = table_binds l m

      go : (o : Option ℕ) → Gives (BindsRead P) (pair_on n w a b o)
      go (Some k) = λ g. own_has k
      go None = two (value n w a) (value n w b)

-- values and pairs over two maps, of which the second binds what the first binds
module _ (w w' : Bindings) (part : IsPart w w') where
  abbrev Still : Variable → Type 0
  Still = IsStill w w'

  open_stays : (only : Bool) (p : Variable) (o : Option Look) → (Still p → o ≡ Some (open_place only p))
      → Stays look_reads Still (Some (open_place only p)) o
  open_stays true p o h = λ g. h g.0
  open_stays false p o h = λ g. h g.0

  value_of_stays : (n : ℕ) (only : Bool) (p : Variable) → Stays look_reads Still (value_of n w only p) (value_of n w' only p)
  value_of_stays zero only p = tt
  value_of_stays (suc n) only p = go (find w p) refl (λ b q. value_of_stays n b q)
    where
      go : (o : Option (Term Variable)) → find w p ≡ o
          → ((b : Bool) (q : Variable) → Stays look_reads Still (value_of n w b q) (value_of n w' b q))
          → Stays look_reads Still (through (value_of n w) only p o) (through (value_of n w') only p (find w' p))
      go None e rec = open_stays only p _ (λ h. ap (through (value_of n w') only p) (h e))
      go (Some (var q)) e rec = rw (part p (var q) e) (rec only q)
      go (Some (ro q)) e rec = rw (part p (ro q) e) (rec true q)
      go (Some (first k)) e rec = rw (part p (first k) e) (rec only (own k))
      go (Some (number z)) e rec = λ g. ap (through (value_of n w') only p) (part p (number z) e)
      go (Some (string z)) e rec = λ g. ap (through (value_of n w') only p) (part p (string z) e)
      go (Some nil) e rec = λ g. ap (through (value_of n w') only p) (part p nil e)
      go (Some (cons a b)) e rec = λ g. ap (through (value_of n w') only p) (part p (cons a b) e)
      go (Some (tuple ts)) e rec = λ g. ap (through (value_of n w') only p) (part p (tuple ts) e)

  pub value_stays : (n : ℕ) (t : Term Variable) → Stays look_reads Still (value n w t) (value n w' t)
  value_stays n (var q) = value_of_stays n false q
  value_stays n (ro q) = value_of_stays n true q
  value_stays n (first k) = value_of_stays n false (own k)
  value_stays n (number z) = λ g. refl
  value_stays n (string z) = λ g. refl
  value_stays n nil = λ g. refl
  value_stays n (cons a b) = λ g. refl
  value_stays n (tuple ts) = λ g. refl

  leaf_stays : (p : Variable) (n : ℕ) (q : Variable) → Stays found_reads Still (leaf_is n w p q) (leaf_is n w' p q)
  leaf_stays p zero q = tt
  leaf_stays p (suc n) q = go (find w q) refl (λ t. walk_stays Still (leaf_is n w p) (leaf_is n w' p) (leaf_stays p n) t)
    where
      go : (o : Option (Term Variable)) → find w q ≡ o
          → ((t : Term Variable) → Stays found_reads Still (walk (leaf_is n w p) t) (walk (leaf_is n w' p) t))
          → Stays found_reads Still (behind_leaf (walk (leaf_is n w p)) p q o) (behind_leaf (walk (leaf_is n w' p)) p q (find w' q))
      go None e rec = found_stays Still (is_same p q) q _ (λ h. ap (behind_leaf (walk (leaf_is n w' p)) p q) (h e))
      go (Some t) e rec = rw (part q t e) (rec t)

  occurs_stays : (n : ℕ) (p : Variable) (t : Term Variable) → Stays found_reads Still (occurs n w p t) (occurs n w' p t)
  occurs_stays n p t = walk_stays Still (leaf_is n w p) (leaf_is n w' p) (leaf_stays p n) t

  table_stays : (n : ℕ) (l m : Look) → Stays treated_reads Still (table n w l m) (table n w' l m)
  table_stays n (solid t) (solid u) = λ g. refl
  table_stays n (solid t) (writable q) = bind_stays Still q t _ _ (occurs_stays n q t)
  table_stays n (solid t) (read_only q) = λ g. refl
  table_stays n (writable p) (solid u) = bind_stays Still p u _ _ (occurs_stays n p u)
  table_stays n (writable p) (writable q) = λ g. refl
  table_stays n (writable p) (read_only q) = λ g. refl
  table_stays n (read_only p) (solid u) = λ g. refl
  table_stays n (read_only p) (writable q) = λ g. refl
  table_stays n (read_only p) (read_only q) = λ g. refl

  -- two values, by functions over the two maps that read both values
  pub looks_stay : (n : ℕ) (f f' : Look → Look → Option Treated) → ((l m : Look) → Stays treated_reads Still (f l m) (f' l m))
      → ((l m : Look) → Gives (ReadsLooks Still l m) (f l m)) → (a b : Term Variable)
      → Stays treated_reads Still (both_looks f (value n w a) (value n w b)) (both_looks f' (value n w' a) (value n w' b))
  looks_stay n f f' stays read a b = two (value n w a) (value n w b) (value_stays n a) (value_stays n b)
    where
      two : (o r : Option Look) → Stays look_reads Still o (value n w' a) → Stays look_reads Still r (value n w' b)
          → Stays treated_reads Still (both_looks f o r) (both_looks f' (value n w' a) (value n w' b))
      two None r h i = tt
      two (Some l) None h i = tt
      two (Some l) (Some m) h i = go (f l m) (stays l m) (read l m)
        where
          go : (x : Option Treated) → Stays treated_reads Still x (f' l m) → Gives (ReadsLooks Still l m) x
              → Stays treated_reads Still x (both_looks f' (value n w' a) (value n w' b))
          go None j k = tt
          go (Some x) j k = λ g. ap (λ y. both_looks f' y (value n w' b)) (h (k g).0) ∙ (ap (both_looks f' (Some l)) (i (k g).1) ∙ j g)

  pair_stays : (n : ℕ) (a b : Term Variable) → Stays treated_reads Still (pair n w a b) (pair n w' a b)
  pair_stays n a b = go (first_of b)
    where
      go : (o : Option ℕ) → Stays treated_reads Still (pair_on n w a b o) (pair_on n w' a b o)
      go (Some k) = λ g. refl
      go None = looks_stay n (table n w) (table n w') (table_stays n) (table_reads Still n w) a b

-- the bindings are of variables that the map leaves unbound
abbrev pub AreApart : Bindings → Bindings → Type 0
AreApart s [] = Unit {0}
AreApart s (b ∷ bs) = IsUnbound s b.0 × AreApart s bs

apart_more : (s bs : Bindings) (p : Variable) (t : Term Variable) → AreApart s bs → IsUnbound s p → AreApart s (bs ++ (p, t) ∷ [])
apart_more s [] p t h e = (e, tt)
apart_more s (b ∷ bs) p t h e = (h.0, apart_more s bs p t h.1 e)

found_apart : (s bs : Bindings) (p : Variable) (t : Term Variable) → AreApart s bs → find bs p ≡ Some t → IsUnbound s p
found_apart s [] p t h e = cc
found_apart s (b ∷ bs) p t h e = go (found_apart s bs p t h.1) (is_same b.0 p) refl e
  where
    go : (find bs p ≡ Some t → IsUnbound s p) → (c : Bool) → is_same b.0 p ≡ c → cond c (Some b.1) (find bs p) ≡ Some t → IsUnbound s p
    go rec true f g = subst (IsUnbound s) (is_same-true b.0 p f) h.0
    go rec false f g = rec g

-- the bindings of a unification that ends well are of unbound variables
abbrev EndsApart : Bindings → Ended → Type 0
EndsApart s (done bs rs) = AreApart s bs
EndsApart s (clash rs) = Unit {0}
EndsApart s (wait rs) = Unit {0}

-- what was read before a unification is among the reads of its end
module _ (P : Variable → Type 0) (s : Bindings) where
  step_reads : (next : Next) → ((bs : Bindings) (rs : List Variable) (ps : List Pair) → ReadsOn ended_reads P rs (next bs rs ps))
      → (bs : Bindings) (rs : List Variable) (ps : List Pair) (st : Step) → ReadsOn ended_reads P rs (step_on next bs rs ps st)
  step_reads next h bs rs ps nothing = h bs rs ps
  step_reads next h bs rs ps (binds p t) = h _ rs ps
  step_reads next h bs rs ps (parts qs) = h bs rs _
  step_reads next h bs rs ps clashes = λ g. g
  step_reads next h bs rs ps waits = λ g. g

  unify_reads : (n : ℕ) (bs : Bindings) (rs : List Variable) (ps : List Pair) → ReadsOn ended_reads P rs (unify n s bs rs ps)
  unify_reads zero bs rs ps = tt
  unify_reads (suc n) bs rs [] = λ g. g
  unify_reads (suc n) bs rs (ab ∷ ps) = go (pair n (s ++ bs) ab.0 ab.1) (λ cs qs us. unify_reads n cs qs us)
    where
      go : (o : Option Treated) → ((cs : Bindings) (qs : List Variable) (us : List Pair) → ReadsOn ended_reads P qs (unify n s cs qs us))
          → ReadsOn ended_reads P rs (go_on (unify n s) bs rs ps o)
      go None rec = tt
      go (Some t) rec = reads_before ended_reads P rs t.reads _ (step_reads (unify n s) rec bs (rs ++ t.reads) ps t.step)

-- unifications over two maps of a state
module _ (s s' : Bindings) (part : IsPart s s') (places : BindsPlaces s') where
  pub part_over : (bs : Bindings) → AreApart s' bs → IsPart (s ++ bs) (s' ++ bs)
  part_over bs h p t e = go (find s p) (find bs p) refl refl (sym (find-append s bs p) ∙ e)
    where
      go : (o r : Option (Term Variable)) → find s p ≡ o → find bs p ≡ r → found_or o r ≡ Some t → find (s' ++ bs) p ≡ Some t
      go (Some u) r f g i = find-append s' bs p ∙ (ap (λ x. found_or x (find bs p)) (part p u f) ∙ i)
      go None (Some u) f g i = find-append s' bs p ∙ (ap (λ x. found_or x (find bs p)) (found_apart s' bs p u h g) ∙ (g ∙ i))
      go None None f g i = absurd cc

  pub still_over : (bs : Bindings) (vs : List Variable) → Every (IsUnbound s') vs → Every (IsStill (s ++ bs) (s' ++ bs)) vs
  still_over bs vs h =
      every_so (IsUnbound s') (IsStill (s ++ bs) (s' ++ bs))
      (λ p u e. go p u (find s p) (find bs p) refl refl (sym (find-append s bs p) ∙ e)) vs h
    where
      go : (p : Variable) → IsUnbound s' p → (o r : Option (Term Variable)) → find s p ≡ o → find bs p ≡ r → found_or o r ≡ None
          → find (s' ++ bs) p ≡ None
      go p u (Some t) r f g i = absurd cc
      go p u None r f g i = find-append s' bs p ∙ (ap (λ x. found_or x (find bs p)) u ∙ (g ∙ i))

  -- the end stays, and its bindings are apart from the second map too
  abbrev pub EndStays : Option Ended → Option Ended → Type 0
  EndStays None r = Unit {0}
  EndStays (Some x) r = Every (IsUnbound s') (ended_reads x) → (r ≡ Some x) × EndsApart s' x

  step_stays : (f g : Next) → ((bs : Bindings) (rs : List Variable) (ps : List Pair) → AreApart s' bs → EndStays (f bs rs ps) (g bs rs ps))
      → (bs : Bindings) (rs : List Variable) (ps : List Pair) (st : Step) → AreApart s' bs → BindsOnly (IsUnbound s') st
      → EndStays (step_on f bs rs ps st) (step_on g bs rs ps st)
  step_stays f g h bs rs ps nothing a b = h bs rs ps a
  step_stays f g h bs rs ps (binds p t) a b = h _ rs ps (apart_more s' bs p t a b)
  step_stays f g h bs rs ps (parts qs) a b = h bs rs _ a
  step_stays f g h bs rs ps clashes a b = λ i. (refl, tt)
  step_stays f g h bs rs ps waits a b = λ i. (refl, tt)

  pub unify_stays : (n : ℕ) (bs : Bindings) (rs : List Variable) (ps : List Pair) → AreApart s' bs
      → EndStays (unify n s bs rs ps) (unify n s' bs rs ps)
  unify_stays zero bs rs ps a = tt
  unify_stays (suc n) bs rs [] a = λ g. (refl, a)
  unify_stays (suc n) bs rs (ab ∷ ps) a =
      treat (pair n (s ++ bs) ab.0 ab.1) (pair_stays (s ++ bs) (s' ++ bs) (part_over bs a) n ab.0 ab.1)
      (pair_binds (IsUnbound s') n (s ++ bs) places ab.0 ab.1) (λ cs qs us b. unify_stays n cs qs us b)
    where
      treat : (o : Option Treated) → Stays treated_reads (IsStill (s ++ bs) (s' ++ bs)) o (pair n (s' ++ bs) ab.0 ab.1)
          → Gives (BindsRead (IsUnbound s')) o
          → ((cs : Bindings) (qs : List Variable) (us : List Pair) → AreApart s' cs → EndStays (unify n s cs qs us) (unify n s' cs qs us))
          → EndStays (go_on (unify n s) bs rs ps o) (go_on (unify n s') bs rs ps (pair n (s' ++ bs) ab.0 ab.1))
      treat None h b rec = tt
      treat (Some t) h b rec =
          step (step_on (unify n s) bs (rs ++ t.reads) ps t.step)
          (step_reads (IsUnbound s') s (unify n s) (λ cs qs us. unify_reads (IsUnbound s') s n cs qs us) bs (rs ++ t.reads) ps t.step)
          (step_stays (unify n s) (unify n s') rec bs (rs ++ t.reads) ps t.step a)
        where
          step : (o : Option Ended) → ReadsOn ended_reads (IsUnbound s') (rs ++ t.reads) o
              → (BindsOnly (IsUnbound s') t.step → EndStays o (step_on (unify n s') bs (rs ++ t.reads) ps t.step))
              → EndStays o (go_on (unify n s') bs rs ps (pair n (s' ++ bs) ab.0 ab.1))
          step None on f = tt
          step (Some x) on f = λ g.
              let read = every_right (IsUnbound s') rs t.reads (on g) in
              rw (h (still_over bs t.reads read)) (f (b read) g)
