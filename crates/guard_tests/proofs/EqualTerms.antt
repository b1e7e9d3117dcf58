-- The comparison of words is that of their terms.
use Rattle.std.proofs.Common.{◌≡◌, ℕ, suc, ◌+◌, ◌-◌, ◌≤◌, Bool, true, false, cond, List, [], ◌∷◌, ◌++◌}
use Rattle.std.proofs.Common.{Option, Some, refl, sym, ap, ap₂, ◌∙◌, subst}
use Rattle.std.proofs.Common.{arith, append_assoc, append-nil}
use Rattle.std.specs.Prelude.{nat_eq}
use Rattle.heap_words.specs.Trails.{WordList, Memory}
use Rattle.ro_unify.specs.declared.look.Look.{Look}
use Rattle.ro_unify.specs.declared.look.Look.TheVariants.{Writable, ReadOnly, Solid}
use Rattle.ro_unify.specs.Value.{Values, IsOpen}
use Rattle.ro_unify.specs.Occurs.{Each}
use Rattle.ro_unify.specs.Alike.{alike}
use Rattle.ro_unify.specs.Unify.{look_reads}
use Rattle.ro_unify.proofs.Chains.{value_no_ref}
use Rattle.fcp_model.specs.Places.{Variable, is_same}
use Rattle.fcp_model.specs.Terms.{Term, Bindings}
use Rattle.fcp_model.specs.Value.{writable, read_only, solid, value}
use Rattle.fcp_model.specs.Value as looks
use Rattle.fcp_model.specs.Pair.{Pair, Step, nothing, clashes, part_step, treated, both_looks}
use Rattle.fcp_model.specs.Pair as pairs
use Rattle.fcp_model.specs.Tests.{holds, fails, pauses, same_step, same_pair, same_on, equal_on, is_equal}
use Rattle.fcp_model.specs.Tests as tests
use Rattle.fcp_model.proofs.MoreSteps.{at_least, value_more}
use Rattle.unify_terms.specs.Denotes.{Naming, Denotes, DenotesPairs, Stands, Names, IsPlace, LookIs}
use Rattle.unify_terms.proofs.ValuesOfWords.{values_so, value_is}
use Rattle.unify_terms.proofs.AlikeInWords.{plain_is, SameAlike, neither, both, alike_so}
use Rattle.unify_terms.proofs.UnifyInWords.{pairs_with}
use Rattle.guard_tests.specs.declared.equality.Tested.{Tested}
use Rattle.guard_tests.specs.declared.equality.Tested.TheVariants.{Not, Wait}
use Rattle.guard_tests.specs.Equality.{Comparison, parts, differ, waits, by_parts, compared, Compares, Equals, all, on, unlike, stopped}
use Rattle.guard_tests.specs.Guards.{ArePlaces, test_answer, tested_reads}
use Rattle.guard_tests.proofs.OpenReads.{Each-append, look_open}

-- what is so of each number that follows one from k on is so of each number above k
one_more : (P : ℕ → Type 0) (k n : ℕ) → suc k ≤ n → ((i : ℕ) → k ≤ i → P (suc i)) → P n
one_more P k n l f = let e : suc (n - 1) ≡ n = omega arith in subst P e (f (n - 1) (omega arith))

module _ (p : Naming) (m : Memory) where
  pub places_with : (xs ys : List ℕ) (vs ws : List Variable) → ArePlaces p m xs vs → ArePlaces p m ys ws
      → ArePlaces p m (xs ++ ys) (vs ++ ws)
  places_with [] ys [] ws h i = i
  places_with (x ∷ xs) ys (v ∷ vs) ws h i = (h.0, places_with xs ys vs ws h.1 i)
  places_with [] ys (v ∷ vs) ws h i = absurd h
  places_with (x ∷ xs) ys [] ws h i = absurd h

  -- the reads of a value
  pub look_places : (l : Look) (k : looks.Look) → LookIs p m l k → ArePlaces p m (look_reads l) (looks.look_reads k)
  look_places (Writable a) (writable v) i = (i, tt)
  look_places (ReadOnly a) (read_only v) i = (i, tt)
  look_places (Solid x) (solid t) i = tt
  look_places (Writable a) (read_only v) i = absurd i
  look_places (Writable a) (solid t) i = absurd i
  look_places (ReadOnly a) (writable v) i = absurd i
  look_places (ReadOnly a) (solid t) i = absurd i
  look_places (Solid x) (writable v) i = absurd i
  look_places (Solid x) (read_only v) i = absurd i

  -- a comparison of words as the step of the terms
  data StepIs : Comparison → Step → Type 0 where
    idle : StepIs (parts []) nothing
    split : (qs : List (ℕ × ℕ)) (ts : List Pair) → DenotesPairs p m ts qs → StepIs (parts qs) (pairs.parts ts)
    other : StepIs differ clashes
    halts : StepIs waits pairs.waits

  one_place : (b c : Bool) → b ≡ c → StepIs (cond b (parts []) waits) (cond c nothing pairs.waits)
  one_place b true e = subst (λ (d : Bool). StepIs (cond d (parts []) waits) nothing) (sym e) idle
  one_place b false e = subst (λ (d : Bool). StepIs (cond d (parts []) waits) pairs.waits) (sym e) halts

  parts_are : (o : Option (List (ℕ × ℕ))) (u : Option (List Pair)) → SameAlike p m o u → StepIs (by_parts o) (part_step u)
  parts_are _ _ neither = other
  parts_are _ _ (both qs ts d) = go qs ts d
    where
      go : (qs : List (ℕ × ℕ)) (ts : List Pair) → DenotesPairs p m ts qs → StepIs (parts qs) (part_step (Some ts))
      go [] [] d = idle
      go qs (t ∷ ts) d = split qs (t ∷ ts) d
      go (q ∷ qs) [] d = absurd d

  module _ (names : Names p m) where
    names_are : (a b : ℕ) (v w : Variable) → IsPlace p m a v → IsPlace p m b w → nat_eq a b ≡ is_same v w
    names_are a b v w i j =
        subst (λ (y : Variable). nat_eq a b ≡ is_same y w) i.1
        (subst (λ (z : Variable). nat_eq a b ≡ is_same (p.name a) z) j.1 (sym (names.same a b i.0 j.0)))

    by_looks : (bs : WordList) (x y : ℕ) (l r : Look) (g h : looks.Look) → Values bs m false x l → Values bs m false y r → LookIs p m l g
        → LookIs p m r h → StepIs (compared m l r) (same_step g h)
    by_looks bs x y (Writable a) (Writable b) (writable v) (writable w) vx vy i j =
        one_place (nat_eq a b) (is_same v w) (names_are a b v w i j)
    by_looks bs x y (Writable a) (ReadOnly b) (writable v) (read_only w) vx vy i j =
        one_place (nat_eq a b) (is_same v w) (names_are a b v w i j)
    by_looks bs x y (ReadOnly a) (Writable b) (read_only v) (writable w) vx vy i j =
        one_place (nat_eq a b) (is_same v w) (names_are a b v w i j)
    by_looks bs x y (ReadOnly a) (ReadOnly b) (read_only v) (read_only w) vx vy i j =
        one_place (nat_eq a b) (is_same v w) (names_are a b v w i j)
    by_looks bs x y (Writable a) (Solid z) (writable v) (solid u) vx vy i j = halts
    by_looks bs x y (ReadOnly a) (Solid z) (read_only v) (solid u) vx vy i j = halts
    by_looks bs x y (Solid z) (Writable b) (solid u) (writable w) vx vy i j = halts
    by_looks bs x y (Solid z) (ReadOnly b) (solid u) (read_only w) vx vy i j = halts
    by_looks bs x y (Solid z) (Solid z') (solid u) (solid w) vx vy i j =
        parts_are (alike m z z') (pairs.alike u w)
        (alike_so p m names z z' u w (plain_is p m z u (value_no_ref bs m false x (Solid z) z vx refl) i)
        (plain_is p m z' w (value_no_ref bs m false y (Solid z') z' vy refl) j) i j)
    by_looks bs x y (Writable a) r (read_only v) h vx vy i j = absurd i
    by_looks bs x y (Writable a) r (solid u) h vx vy i j = absurd i
    by_looks bs x y (ReadOnly a) r (writable v) h vx vy i j = absurd i
    by_looks bs x y (ReadOnly a) r (solid u) h vx vy i j = absurd i
    by_looks bs x y (Solid z) r (writable v) h vx vy i j = absurd i
    by_looks bs x y (Solid z) r (read_only v) h vx vy i j = absurd i
    by_looks bs x y (Writable a) (Writable b) (writable v) (read_only w) vx vy i j = absurd j
    by_looks bs x y (Writable a) (Writable b) (writable v) (solid w) vx vy i j = absurd j
    by_looks bs x y (Writable a) (ReadOnly b) (writable v) (writable w) vx vy i j = absurd j
    by_looks bs x y (Writable a) (ReadOnly b) (writable v) (solid w) vx vy i j = absurd j
    by_looks bs x y (Writable a) (Solid z) (writable v) (writable w) vx vy i j = absurd j
    by_looks bs x y (Writable a) (Solid z) (writable v) (read_only w) vx vy i j = absurd j
    by_looks bs x y (ReadOnly a) (Writable b) (read_only v) (read_only w) vx vy i j = absurd j
    by_looks bs x y (ReadOnly a) (Writable b) (read_only v) (solid w) vx vy i j = absurd j
    by_looks bs x y (ReadOnly a) (ReadOnly b) (read_only v) (writable w) vx vy i j = absurd j
    by_looks bs x y (ReadOnly a) (ReadOnly b) (read_only v) (solid w) vx vy i j = absurd j
    by_looks bs x y (ReadOnly a) (Solid z) (read_only v) (writable w) vx vy i j = absurd j
    by_looks bs x y (ReadOnly a) (Solid z) (read_only v) (read_only w) vx vy i j = absurd j
    by_looks bs x y (Solid z) (Writable b) (solid u) (read_only w) vx vy i j = absurd j
    by_looks bs x y (Solid z) (Writable b) (solid u) (solid w) vx vy i j = absurd j
    by_looks bs x y (Solid z) (ReadOnly b) (solid u) (writable w) vx vy i j = absurd j
    by_looks bs x y (Solid z) (ReadOnly b) (solid u) (solid w) vx vy i j = absurd j
    by_looks bs x y (Solid z) (Solid z') (solid u) (writable w) vx vy i j = absurd j
    by_looks bs x y (Solid z) (Solid z') (solid u) (read_only w) vx vy i j = absurd j

    module _ (bs : WordList) (s : Bindings) (st : Stands p m bs s) where
      -- one pair of the terms, with the places that were read
      record PairIs (a b : Term Variable) (rs : List ℕ) (c : Comparison) (rs' : List ℕ) : Type 0 where
        steps : ℕ
        step : Step
        reads : List Variable
        treats : (n : ℕ) → steps ≤ n → both_looks same_pair (value n s a) (value n s b) ≡ treated step reads
        is : StepIs c step
        more : List ℕ
        read : rs' ≡ rs ++ more
        places : ArePlaces p m more reads
        unbound : Each (IsOpen bs m) more

      pair_so : (a b : Term Variable) (w : ℕ × ℕ) (rs : List ℕ) (c : Comparison) (rs' : List ℕ) → Denotes p m a w.0 → Denotes p m b w.1
          → Compares bs m rs w c rs' → PairIs a b rs c rs'
      pair_so a b w rs c rs' d e k =
          let v = values_so p bs m s st false w.0 k.left k.left_is a d in
          let u = values_so p bs m s st false w.1 k.right k.right_is b e in
          record {
            steps = v.steps + u.steps;
            step = same_step v.look u.look;
            reads = looks.look_reads v.look ++ looks.look_reads u.look;
            treats = λ n l. ap₂ (both_looks same_pair)
                (at_least (λ (i : ℕ). value i s a) (value_more s a) v.steps n (omega arith) v.look (value_is p m v.steps s a ∙ v.value))
                (at_least (λ (i : ℕ). value i s b) (value_more s b) u.steps n (omega arith) u.look (value_is p m u.steps s b ∙ u.value));
            is = subst (λ (z : Comparison). StepIs z (same_step v.look u.look)) k.come
                (by_looks bs w.0 w.1 k.left k.right v.look u.look k.left_is k.right_is v.is u.is);
            more = look_reads k.left ++ look_reads k.right;
            read = k.read ∙ append_assoc rs (look_reads k.left) (look_reads k.right);
            places = places_with (look_reads k.left) (look_reads k.right) (looks.look_reads v.look) (looks.look_reads u.look)
                (look_places k.left v.look v.is) (look_places k.right u.look u.is);
            unbound = Each-append (IsOpen bs m) (look_reads k.left) (look_reads k.right) (look_open bs m w.0 k.left k.left_is)
                (look_open bs m w.1 k.right k.right_is);
          }

      -- the terms' comparison of pairs, after the reads vs
      pub record EqualAs (vs : List Variable) (rs : List ℕ) (ps : List Pair) (t : Tested) (rs' : List ℕ) : Type 0 where
        pub steps : ℕ
        pub end : tests.Tested
        pub by_steps : (n : ℕ) → steps ≤ n → is_equal n s vs ps ≡ Some end
        pub answer : test_answer end ≡ t
        pub reads : List Variable
        pub all_reads : tested_reads end ≡ vs ++ reads
        pub more : List ℕ
        pub read : rs' ≡ rs ++ more
        pub places : ArePlaces p m more reads
        pub unbound : Each (IsOpen bs m) more

      one_step : (n : ℕ) (vs : List Variable) (a b : Term Variable) (ps : List Pair) (step : Step) (reads : List Variable)
          → both_looks same_pair (value n s a) (value n s b) ≡ treated step reads
          → is_equal (suc n) s vs ((a, b) ∷ ps) ≡ same_on (is_equal n s) (vs ++ reads) ps step
      one_step n vs a b ps step reads e = ap (equal_on (is_equal n s) vs ps) e

      -- the pair in front ends it
      ends : (vs : List Variable) (rs rs' : List ℕ) (a b : Term Variable) (ps : List Pair) (c : Comparison) (t : Tested)
          → (end : List Variable → tests.Tested) → (k : PairIs a b rs c rs')
          → ((n : ℕ) → same_on (is_equal n s) (vs ++ k.reads) ps k.step ≡ Some (end (vs ++ k.reads)))
          → test_answer (end (vs ++ k.reads)) ≡ t → tested_reads (end (vs ++ k.reads)) ≡ vs ++ k.reads
          → EqualAs vs rs ((a, b) ∷ ps) t rs'
      ends vs rs rs' a b ps c t end k f g h = record {
        steps = suc k.steps;
        end = end (vs ++ k.reads);
        by_steps = λ n l. one_more (λ (i : ℕ). is_equal i s vs ((a, b) ∷ ps) ≡ Some (end (vs ++ k.reads))) k.steps n l
            (λ i h. one_step i vs a b ps k.step k.reads (k.treats i h) ∙ f i);
        answer = g;
        reads = k.reads;
        all_reads = h;
        more = k.more;
        read = k.read;
        places = k.places;
        unbound = k.unbound;
      }

      -- it goes on with the pairs of parts
      goes_on : (vs : List Variable) (rs rs1 rs' : List ℕ) (a b : Term Variable) (ps ups : List Pair) (c : Comparison) (t : Tested)
          → (k : PairIs a b rs c rs1) → (r : EqualAs (vs ++ k.reads) rs1 ups t rs')
          → ((n : ℕ) → same_on (is_equal n s) (vs ++ k.reads) ps k.step ≡ is_equal n s (vs ++ k.reads) ups)
          → EqualAs vs rs ((a, b) ∷ ps) t rs'
      goes_on vs rs rs1 rs' a b ps ups c t k r f = record {
        steps = suc (k.steps + r.steps);
        end = r.end;
        by_steps = λ n l. one_more (λ (i : ℕ). is_equal i s vs ((a, b) ∷ ps) ≡ Some r.end) (k.steps + r.steps) n l
            (λ i h. one_step i vs a b ps k.step k.reads (k.treats i (omega arith)) ∙ (f i ∙ r.by_steps i (omega arith)));
        answer = r.answer;
        reads = k.reads ++ r.reads;
        all_reads = r.all_reads ∙ append_assoc vs k.reads r.reads;
        more = k.more ++ r.more;
        read = r.read ∙ (ap (λ (z : List ℕ). z ++ r.more) k.read ∙ append_assoc rs k.more r.more);
        places = places_with k.more r.more k.reads r.reads k.places r.places;
        unbound = Each-append (IsOpen bs m) k.more r.more k.unbound r.unbound;
      }

      unlike_so : (vs : List Variable) (rs rs' : List ℕ) (a b : Term Variable) (ps : List Pair) → PairIs a b rs differ rs'
          → EqualAs vs rs ((a, b) ∷ ps) Not rs'
      unlike_so vs rs rs' a b ps k = go differ k.step k.is refl refl
        where
          go : (c : Comparison) (st2 : Step) → StepIs c st2 → k.step ≡ st2 → c ≡ differ → EqualAs vs rs ((a, b) ∷ ps) Not rs'
          go _ _ idle f i = cc
          go _ _ (split qs ts d) f i = cc
          go _ _ halts f i = cc
          go _ _ other f i = ends vs rs rs' a b ps differ Not fails k (λ n. ap (same_on (is_equal n s) (vs ++ k.reads) ps) f) refl refl

      stopped_so : (vs : List Variable) (rs rs' : List ℕ) (a b : Term Variable) (ps : List Pair) → PairIs a b rs waits rs'
          → EqualAs vs rs ((a, b) ∷ ps) Wait rs'
      stopped_so vs rs rs' a b ps k = go waits k.step k.is refl refl
        where
          go : (c : Comparison) (st2 : Step) → StepIs c st2 → k.step ≡ st2 → c ≡ waits → EqualAs vs rs ((a, b) ∷ ps) Wait rs'
          go _ _ idle f i = cc
          go _ _ (split qs ts d) f i = cc
          go _ _ other f i = cc
          go _ _ halts f i = ends vs rs rs' a b ps waits Wait pauses k (λ n. ap (same_on (is_equal n s) (vs ++ k.reads) ps) f) refl refl

      parted_so : (vs : List Variable) (rs rs1 rs' : List ℕ) (a b : Term Variable) (tps : List Pair) (qs ps : List (ℕ × ℕ)) (t : Tested)
          → DenotesPairs p m tps ps → (k : PairIs a b rs (parts qs) rs1)
          → ((ws : List Variable) (ups : List Pair) → DenotesPairs p m ups (qs ++ ps) → EqualAs ws rs1 ups t rs')
          → EqualAs vs rs ((a, b) ∷ tps) t rs'
      parted_so vs rs rs1 rs' a b tps qs ps t d k rec = go (parts qs) k.step k.is refl refl
        where
          go : (c : Comparison) (st2 : Step) → StepIs c st2 → k.step ≡ st2 → c ≡ parts qs → EqualAs vs rs ((a, b) ∷ tps) t rs'
          go _ _ idle f i =
              let j : [] ≡ qs = cc in
              goes_on vs rs rs1 rs' a b tps tps (parts qs) t k
              (rec (vs ++ k.reads) tps (subst (λ (z : List (ℕ × ℕ)). DenotesPairs p m tps (z ++ ps)) j d))
              (λ n. ap (same_on (is_equal n s) (vs ++ k.reads) tps) f)
          go _ _ (split us ts e) f i =
              let j : us ≡ qs = cc in
              goes_on vs rs rs1 rs' a b tps (ts ++ tps) (parts qs) t k
              (rec (vs ++ k.reads) (ts ++ tps) (subst (λ (z : List (ℕ × ℕ)). DenotesPairs p m (ts ++ tps) (z ++ ps)) j
              (pairs_with p m names ts tps us ps e d)))
              (λ n. ap (same_on (is_equal n s) (vs ++ k.reads) tps) f)
          go _ _ other f i = cc
          go _ _ halts f i = cc

      -- the comparison of words is that of their terms, by some number of steps
      pub equal_so : (rs : List ℕ) (ps : List (ℕ × ℕ)) (t : Tested) (rs' : List ℕ) → Equals bs m rs ps t rs' → (vs : List Variable)
          (tps : List Pair) → DenotesPairs p m tps ps → EqualAs vs rs tps t rs'
      equal_so _ _ _ _ (all rs) vs [] d = record {
        steps = 1;
        end = holds vs;
        by_steps = λ n l. one_more (λ (i : ℕ). is_equal i s vs [] ≡ Some (holds vs)) 0 n l (λ i h. refl);
        answer = refl;
        reads = [];
        all_reads = sym (append-nil vs);
        more = [];
        read = sym (append-nil rs);
        places = tt;
        unbound = tt;
      }
      equal_so _ _ _ _ (all rs) vs (ab ∷ tps) d = absurd d
      equal_so _ _ _ _ (on rs w ps qs rs1 t rs' c e) vs [] d = absurd d
      equal_so _ _ _ _ (on rs w ps qs rs1 t rs' c e) vs (ab ∷ tps) d =
          parted_so vs rs rs1 rs' ab.0 ab.1 tps qs ps t d.2 (pair_so ab.0 ab.1 w rs (parts qs) rs1 d.0 d.1 c)
          (λ ws ups h. equal_so rs1 (qs ++ ps) t rs' e ws ups h)
      equal_so _ _ _ _ (unlike rs w ps rs' c) vs [] d = absurd d
      equal_so _ _ _ _ (unlike rs w ps rs' c) vs (ab ∷ tps) d =
          unlike_so vs rs rs' ab.0 ab.1 tps (pair_so ab.0 ab.1 w rs differ rs' d.0 d.1 c)
      equal_so _ _ _ _ (stopped rs w ps rs' c) vs [] d = absurd d
      equal_so _ _ _ _ (stopped rs w ps rs' c) vs (ab ∷ tps) d =
          stopped_so vs rs rs' ab.0 ab.1 tps (pair_so ab.0 ab.1 w rs waits rs' d.0 d.1 c)
