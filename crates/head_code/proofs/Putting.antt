-- What is put into slots.
use Rattle.std.proofs.Common.{◌≡◌, ℕ, suc, ◌+◌, ◌<◌, ◌≤◌, true, false, List, [], ◌∷◌, ◌++◌, length, None, refl, ap, ◌∙◌, subst, length-append, arith}
use Rattle.fcp_model.specs.Places.{Variable, own}
use Rattle.fcp_model.specs.Terms.{Term, number, string, nil, cons, tuple, var, ro, first, Terms, none, more, Bindings}
use Rattle.fcp_model.specs.Expressions.{Expr, leaf}
use Rattle.machine_code.specs.Slots.{Slots, hold, as_term, parts_from}
use Rattle.machine_code.specs.Instructions.{Op, PutVar, PutWord, PutCons, PutTuple}
use Rattle.machine_code.specs.Machine.{Trying, count}
use Rattle.head_code.specs.TermCode.{width, put, puts}
use Rattle.machine_code.proofs.Same.{Same, itself, then_same}
use Rattle.machine_code.proofs.Held.{hold_here, hold_other}
use Rattle.head_code.proofs.Slots.{shown, Stands, StandAll, stands_here, stands_on, stand_all_on, parts_stand}
use Rattle.machine_code.proofs.Standing.{HasAt, has_front, has_back, From, obeyed}

module _ (s : Bindings) (code : List Op) (args : List (Term Variable)) where
  -- the machine comes from one position to another with other slots
  abbrev pub Leads : ℕ → ℕ → Trying → Slots → Type 0
  Leads at at' m after = Same (From s code args at m) (From s code args at' (record m { slots = after }))

  pub leads_on : (at at' at'' : ℕ) (m : Trying) (a b : Slots) → Leads at at' m a → Leads at' at'' (record m { slots = a }) b
      → Leads at at'' m b
  leads_on at at' at'' m a b h k = then_same _ _ _ h k

  -- a term was put into slot i and its parts into the slots from n on; lower slots are as before
  pub record Placed (at at' i n : ℕ) (m : Trying) (t : Term ℕ) : Type 0 where
    pub after : Slots
    pub stands : Stands after i n t
    pub same : (j : ℕ) → (j ≡ i → ⊥) → j < n → after j ≡ m.slots j
    pub leads : Leads at at' m after

  -- terms were put into the slots from i on and their parts into those from n on
  pub record PlacedAll (at at' i n : ℕ) (m : Trying) (ts : Terms ℕ) : Type 0 where
    pub after : Slots
    pub stands : StandAll after i n ts
    pub below : (j : ℕ) → j < i → after j ≡ m.slots j
    pub between : (j : ℕ) → i + count ts ≤ j → j < n → after j ≡ m.slots j
    pub leads : Leads at at' m after

  next_is : (at : ℕ) (i : Op) → suc at ≡ at + length (i ∷ [])
  next_is at i = omega arith

  single : (at i n : ℕ) (m : Trying) (t : Term ℕ) (o : Op) (x : Expr Variable) → i < n
      → (hold m.slots i x i ≡ x → Stands (hold m.slots i x) i n t)
      → Same (From s code args at m) (From s code args (suc at) (record m { slots = hold m.slots i x }))
      → Placed at (at + length (o ∷ [])) i n m t
  single at i n m t o x h st l = record {
    after = hold m.slots i x;
    stands = st (hold_here m.slots i x);
    same = λ j ne lt. hold_other m.slots i j x ne;
    leads = subst (λ p. Same (From s code args at m) (From s code args p (record m { slots = hold m.slots i x }))) (next_is at o) l;
  }

  pair_placed : (at i n : ℕ) (m : Trying) (a b : Term ℕ) → i < n → (la lb l : ℕ) → l ≡ suc (la + lb)
      → (pa : Placed at (at + la) n (suc (suc n)) m a)
      → (pb : Placed (at + la) (at + la + lb) (suc n) (suc (suc (n + width a))) (record m { slots = pa.after }) b)
      → Same (From s code args (at + la + lb) (record m { slots = pb.after }))
      (From s code args (suc (at + la + lb))
      (record m { slots = hold pb.after i (leaf (cons (as_term (pb.after n)) (as_term (pb.after (suc n))))) }))
      → Placed at (at + l) i n m (cons a b)
  pair_placed at i n m a b h la lb l e pa pb st =
      let x = leaf (cons (as_term (pb.after n)) (as_term (pb.after (suc n)))) in
      let ea : pb.after n ≡ leaf (shown a) =
      pb.same n (λ e. omega (arith, e)) (omega arith) ∙ stands_here a pa.after n (suc (suc n)) pa.stands in
      let eb : pb.after (suc n) ≡ leaf (shown b) = stands_here b pb.after (suc n) (suc (suc (n + width a))) pb.stands in
      let after = hold pb.after i x in
      record {
        after = after;
        stands = (
          hold_here pb.after i x ∙ (λ k. leaf (cons (as_term (ea k)) (as_term (eb k)))),
          stands_on a pa.after after n (suc (suc n))
              (hold_other pb.after i n x (λ e. omega (arith, h, e)) ∙ pb.same n (λ e. omega (arith, e)) (omega arith))
              (λ j lo hi. hold_other pb.after i j x (λ e. omega (arith, h, lo, e))
              ∙ pb.same j (λ e. omega (arith, lo, e)) (omega (arith, hi))) pa.stands,
          stands_on b pb.after after (suc n) (suc (suc (n + width a))) (hold_other pb.after i (suc n) x (λ e. omega (arith, h, e)))
              (λ j lo hi. hold_other pb.after i j x (λ e. omega (arith, h, lo, e))) pb.stands,
        );
        same =
            λ j ne lt. hold_other pb.after i j x ne ∙ pb.same j (λ e. omega (arith, lt, e)) (omega (arith, lt))
            ∙ pa.same j (λ e. omega (arith, lt, e)) (omega (arith, lt));
        leads =
            let p : suc (at + la + lb) ≡ at + l = omega (arith, e) in
            then_same _ _ _ pa.leads (then_same _ _ _ pb.leads
            (subst (λ p. Same (From s code args (at + la + lb) (record m { slots = pb.after }))
            (From s code args p (record m { slots = after }))) p st));
      }

  tuple_placed : (at i n : ℕ) (m : Trying) (ts : Terms ℕ) → i < n → (k l : ℕ) → l ≡ suc k
      → (p : PlacedAll at (at + k) n (n + count ts) m ts)
      → Same (From s code args (at + k) (record m { slots = p.after }))
      (From s code args (suc (at + k)) (record m { slots = hold p.after i (leaf (tuple (parts_from p.after n (count ts)))) }))
      → Placed at (at + l) i n m (tuple ts)
  tuple_placed at i n m ts h k l e p st =
      let x = leaf (tuple (parts_from p.after n (count ts))) in
      let after = hold p.after i x in
      record {
        after = after;
        stands = (
          hold_here p.after i x ∙ ap (λ us. leaf (tuple us)) (parts_stand ts p.after n (n + count ts) p.stands),
          stand_all_on ts p.after after n (n + count ts) (λ j lo hi. hold_other p.after i j x (λ e. omega (arith, h, lo, e)))
              (λ j lo hi. hold_other p.after i j x (λ e. omega (arith, h, lo, e))) p.stands,
        );
        same = λ j ne lt. hold_other p.after i j x ne ∙ p.below j lt;
        leads =
            let q : suc (at + k) ≡ at + l = omega (arith, e) in
            then_same _ _ _ p.leads (subst
            (λ q. Same (From s code args (at + k) (record m { slots = p.after })) (From s code args q (record m { slots = after }))) q st);
      }

  more_placed : (at i n : ℕ) (m : Trying) (t : Term ℕ) (ts : Terms ℕ) → i + suc (count ts) ≤ n → (la lb l : ℕ) → l ≡ la + lb
      → (p : Placed at (at + la) i n m t) → PlacedAll (at + la) (at + la + lb) (suc i) (n + width t) (record m { slots = p.after }) ts
      → PlacedAll at (at + l) i n m (more t ts)
  more_placed at i n m t ts h la lb l e p q = record {
    after = q.after;
    stands =
        (stands_on t p.after q.after i n (q.below i (omega arith)) (λ j lo hi. q.between j (omega (arith, h, lo)) hi) p.stands, q.stands);
    below = λ j lt. q.below j (omega (arith, lt)) ∙ p.same j (λ e. omega (arith, lt, e)) (omega (arith, lt, h));
    between = λ j lo hi. q.between j (omega (arith, lo)) (omega (arith, hi)) ∙ p.same j (λ e. omega (arith, lo, e)) hi;
    leads =
        let r : at + la + lb ≡ at + l = omega (arith, e) in
        subst (λ r. Leads at r m q.after) r (then_same _ _ _ p.leads q.leads);
  }

  mutual
    pub put_does : (t : Term ℕ) (at i n : ℕ) (m : Trying) → i < n → HasAt code at (put i n t) → Placed at (at + length (put i n t)) i n m t
    put_does (number z) at i n m h has =
        single at i n m (number z) (PutWord i (number z)) (leaf (number z)) h (λ e. e)
        (obeyed s code args at m (PutWord i (number z)) has.0)
    put_does (string z) at i n m h has =
        single at i n m (string z) (PutWord i (string z)) (leaf (string z)) h (λ e. e)
        (obeyed s code args at m (PutWord i (string z)) has.0)
    put_does nil at i n m h has = single at i n m nil (PutWord i nil) (leaf nil) h (λ e. e) (obeyed s code args at m (PutWord i nil) has.0)
    put_does (var k) at i n m h has =
        single at i n m (var k) (PutVar i k false) (leaf (var (own k))) h (λ e. e) (obeyed s code args at m (PutVar i k false) has.0)
    put_does (ro k) at i n m h has =
        single at i n m (ro k) (PutVar i k true) (leaf (ro (own k))) h (λ e. e) (obeyed s code args at m (PutVar i k true) has.0)
    put_does (first k) at i n m h has =
        single at i n m (first k) (PutVar i k false) (leaf (var (own k))) h (λ e. e) (obeyed s code args at m (PutVar i k false) has.0)
    put_does (cons a b) at i n m h has =
        let ca = put n (suc (suc n)) a in
        let cb = put (suc n) (suc (suc (n + width a))) b in
        let hb = has_back code at ca (cb ++ PutCons i n (suc n) ∷ []) has in
        let pa = put_does a at n (suc (suc n)) m (omega arith) (has_front code at ca (cb ++ PutCons i n (suc n) ∷ []) has) in
        let pb =
        put_does b (at + length ca) (suc n) (suc (suc (n + width a))) (record m { slots = pa.after }) (omega arith)
        (has_front code (at + length ca) cb (PutCons i n (suc n) ∷ []) hb) in
        pair_placed at i n m a b h (length ca) (length cb) (length (ca ++ (cb ++ PutCons i n (suc n) ∷ [])))
        (omega (arith, length-append ca (cb ++ PutCons i n (suc n) ∷ []), length-append cb (PutCons i n (suc n) ∷ []))) pa pb
        (obeyed s code args (at + length ca + length cb) (record m { slots = pb.after }) (PutCons i n (suc n))
        (has_back code (at + length ca) cb (PutCons i n (suc n) ∷ []) hb).0)
    put_does (tuple ts) at i n m h has =
        let c = puts n (n + count ts) ts in
        let o = PutTuple i n (count ts) None in
        let p = puts_do ts at n (n + count ts) m (omega arith) (has_front code at c (o ∷ []) has) in
        tuple_placed at i n m ts h (length c) (length (c ++ o ∷ [])) (omega (arith, length-append c (o ∷ []))) p
        (obeyed s code args (at + length c) (record m { slots = p.after }) o (has_back code at c (o ∷ []) has).0)

    pub puts_do : (ts : Terms ℕ) (at i n : ℕ) (m : Trying) → i + count ts ≤ n → HasAt code at (puts i n ts)
        → PlacedAll at (at + length (puts i n ts)) i n m ts
    puts_do none at i n m h has = record {
      after = m.slots;
      stands = tt;
      below = λ j lt. refl;
      between = λ j lo hi. refl;
      leads =
          let e : at ≡ at + 0 = omega arith in
          subst (λ p. Same (From s code args at m) (From s code args p m)) e (itself (From s code args at m));
    }
    puts_do (more t ts) at i n m h has =
        let c = put i n t in
        let cs = puts (suc i) (n + width t) ts in
        let p = put_does t at i n m (omega (arith, h)) (has_front code at c cs has) in
        let q =
        puts_do ts (at + length c) (suc i) (n + width t) (record m { slots = p.after }) (omega (arith, h))
        (has_back code at c cs has) in
        more_placed at i n m t ts h (length c) (length cs) (length (c ++ cs)) (length-append c cs) p q
