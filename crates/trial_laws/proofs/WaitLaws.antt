-- The laws of a trial that ends without a commit.
use Rattle.std.proofs.Common.{◌≡◌, ◌⊎◌, ℕ, ◌<◌, ◌≤◌, Bool, true, false, cond, List, [], ◌∷◌, length, refl, sym, ap, ◌∙◌, subst, inl, inr}
use Rattle.std.proofs.Common.{⊎_elim, arith, true≢false, eqb, ltb, None}
use Rattle.std.specs.Prelude.{◌||◌, ◌&&◌}
use Rattle.std.proofs.lemmas.Bool.{eqb-true, ltb-true, ltb-false, lt-ltb, eq-eqb, and_parts, and_from, or_cases, or_left, or_right}
use Rattle.fcp_model.specs.declared.run.Place.{Place}
use Rattle.fcp_model.specs.Places.{Variable, made, own, is_same_place, is_older_place, is_listed, inserted, places_among}
use Rattle.fcp_model.specs.Terms.{Bindings, find}
use Rattle.fcp_model.specs.Programs.{Goal, Program}
use Rattle.fcp_model.specs.Decisions.{Decision, decides_fail, waits_on, Decides}
use Rattle.fcp_model.specs.Reads.{AreUnbound}
use Rattle.fcp_model.proofs.Finding.{is_same_place-true}
use Rattle.state_laws.proofs.UnboundReads.{reads_are_unbound}
use Rattle.state_laws.proofs.WaitingPlaces.{ListedIn, listed_among}
use Rattle.state_laws.proofs.ReadVariables.{Every}
use Rattle.word_states.specs.Words.{Words, IsIn, AreDistinct}
use Rattle.word_states.specs.Denoting.{Addresses, Listed}
use Rattle.word_states.specs.Trials.{WaitSays}
use Rattle.machine_code.specs.Machine.{Meaning, follow, obey, ending}
use Rattle.machine_code.specs.Correct.{decision_of}
use Rattle.trial_laws.specs.AtHand.{IsAmong, ArePlacesAmong, IsStore}
use Rattle.trial_laws.specs.Endings.{LawOfFail, LawOfWait}
use Rattle.trial_laws.proofs.Counting.{In, AreApart, at_most}

-- one place is older than another by the entry, or by the number
abbrev IsEarlier : Place → Place → Type 0
IsEarlier p q = (p.entry < q.entry) ⊎ ((p.entry ≡ q.entry) × (p.number < q.number))

older_parts : (p q : Place) → is_older_place p q ≡ true → IsEarlier p q
older_parts p q h = ⊎_elim
    (λ (i : ltb p.entry q.entry ≡ true). inl (ltb-true p.entry q.entry i))
    (λ (i : (eqb p.entry q.entry && ltb p.number q.number) ≡ true).
    let j = and_parts (eqb p.entry q.entry) (ltb p.number q.number) i in
    inr (eqb-true p.entry q.entry j.0, ltb-true p.number q.number j.1))
    (or_cases (ltb p.entry q.entry) (eqb p.entry q.entry && ltb p.number q.number) h)

older_from : (p q : Place) → IsEarlier p q → is_older_place p q ≡ true
older_from p q (inl l) = or_left (ltb p.entry q.entry) (eqb p.entry q.entry && ltb p.number q.number) (lt-ltb p.entry q.entry l)
older_from p q (inr h) =
    or_right (ltb p.entry q.entry) (eqb p.entry q.entry && ltb p.number q.number)
    (and_from (eqb p.entry q.entry) (ltb p.number q.number) (eq-eqb p.entry q.entry h.0) (lt-ltb p.number q.number h.1))

earlier_on : (p q r : Place) → IsEarlier p q → IsEarlier q r → IsEarlier p r
earlier_on p q r (inl a) (inl b) = inl (omega arith)
earlier_on p q r (inl a) (inr b) = inl (omega (arith, b.0))
earlier_on p q r (inr a) (inl b) = inl (omega (arith, a.0))
earlier_on p q r (inr a) (inr b) = inr (omega (arith, a.0, b.0), omega (arith, a.1, b.1))

same_from : (p q : Place) → p.entry ≡ q.entry → p.number ≡ q.number → is_same_place p q ≡ true
same_from p q e f = and_from (eqb p.entry q.entry) (eqb p.number q.number) (eq-eqb p.entry q.entry e) (eq-eqb p.number q.number f)

le_le : (a b : ℕ) → a ≤ b → b ≤ a → a ≡ b
le_le a b h i = omega arith

-- where p is neither q nor older, q is older
later : (p q : Place) → is_same_place p q ≡ false → is_older_place p q ≡ false → IsEarlier q p
later p q n o = go (ltb p.entry q.entry) refl (ltb q.entry p.entry) refl (ltb p.number q.number) refl (ltb q.number p.number) refl
  where
    level : ltb p.entry q.entry ≡ false → ltb q.entry p.entry ≡ false → q.entry ≡ p.entry
    level e f = le_le q.entry p.entry (ltb-false p.entry q.entry e) (ltb-false q.entry p.entry f)

    same_number : ltb p.number q.number ≡ false → ltb q.number p.number ≡ false → p.number ≡ q.number
    same_number e f = le_le p.number q.number (ltb-false q.number p.number f) (ltb-false p.number q.number e)

    go : (a : Bool) → ltb p.entry q.entry ≡ a → (b : Bool) → ltb q.entry p.entry ≡ b → (c : Bool) → ltb p.number q.number ≡ c → (d : Bool)
        → ltb q.number p.number ≡ d → IsEarlier q p
    go true e b f c g d h = absurd (true≢false (sym (older_from p q (inl (ltb-true p.entry q.entry e))) ∙ o))
    go false e true f c g d h = inl (ltb-true q.entry p.entry f)
    go false e false f c g true h = inr (level e f, ltb-true q.number p.number h)
    go false e false f true g false h =
        absurd (true≢false (sym (older_from p q (inr (sym (level e f), ltb-true p.number q.number g))) ∙ o))
    go false e false f false g false h = absurd (true≢false (sym (same_from p q (sym (level e f)) (same_number g h)) ∙ n))

-- places that rise in age
abbrev Rise : List Place → Type 0
Rise [] = Unit {0}
Rise (p ∷ ps) = ((q : Place) → In q ps → IsEarlier p q) × Rise ps

-- what is inserted comes to what was there
abbrev insert_on : Place → Place → List Place → Bool → Bool → List Place
insert_on p q qs b c = elim b [ true ↦ q ∷ qs | _ ↦ elim c [ true ↦ p ∷ q ∷ qs | _ ↦ q ∷ inserted p qs ] ]

in_inserted : (p : Place) (qs : List Place) (r : Place) → In r (inserted p qs) → (p ≡ r) ⊎ In r qs
in_inserted p [] r (inl e) = inl e
in_inserted p [] r (inr h) = absurd h
in_inserted p (q ∷ qs) r h = go (is_same_place p q) (is_older_place p q) h (in_inserted p qs r)
  where
    go : (b c : Bool) → In r (insert_on p q qs b c) → (In r (inserted p qs) → (p ≡ r) ⊎ In r qs) → (p ≡ r) ⊎ In r (q ∷ qs)
    go true c i rec = inr i
    go false true (inl e) rec = inl e
    go false true (inr i) rec = inr i
    go false false (inl e) rec = inr (inl e)
    go false false (inr i) rec = ⊎_elim (λ j. inl j) (λ j. inr (inr j)) (rec i)

rise_inserted : (p : Place) (qs : List Place) → Rise qs → Rise (inserted p qs)
rise_inserted p [] r = ((λ q i. absurd i), tt)
rise_inserted p (q ∷ qs) r = go (is_same_place p q) refl (is_older_place p q) refl (rise_inserted p qs r.1)
  where
    go : (b : Bool) → is_same_place p q ≡ b → (c : Bool) → is_older_place p q ≡ c → Rise (inserted p qs) → Rise (insert_on p q qs b c)
    go true e c f rec = r
    go false e true f rec =
        ((λ z i. ⊎_elim (λ j. subst (IsEarlier p) j (older_parts p q f)) (λ j. earlier_on p q z (older_parts p q f) (r.0 z j)) i), r)
    go false e false f rec =
        ((λ z i. ⊎_elim (λ j. subst (IsEarlier q) j (later p q e f)) (λ j. r.0 z j) (in_inserted p qs z i)), rec)

places_rise : (vs : List Variable) → Rise (places_among vs)
places_rise [] = tt
places_rise (made p ∷ vs) = rise_inserted p (places_among vs) (places_rise vs)
places_rise (own k ∷ vs) = places_rise vs

rise_apart : (ps : List Place) → Rise ps → AreApart ps
rise_apart [] r = tt
rise_apart (p ∷ ps) r = ((λ i. irreflexive (r.0 p i)), rise_apart ps r.1)
  where
    irreflexive : IsEarlier p p → ⊥
    irreflexive (inl l) = omega arith
    irreflexive (inr h) = omega (arith, h.1)

-- the places among variables are those of them that are places
listed_in : (ps : List Place) (j : Place) → is_listed j ps ≡ true → In j ps
listed_in [] j h = let k : false ≡ true = h in cc
listed_in (p ∷ ps) j h = go (is_same_place p j) refl h (listed_in ps j)
  where
    go : (b : Bool) → is_same_place p j ≡ b → (b || is_listed j ps) ≡ true → (is_listed j ps ≡ true → In j ps) → (p ≡ j) ⊎ In j ps
    go true e i rec = inl (is_same_place-true p j e)
    go false e i rec = inr (rec i)

in_places : (vs : List Variable) (j : Place) → In j (places_among vs) → IsAmong vs (made j)
in_places [] j h = absurd h
in_places (made p ∷ vs) j h = ⊎_elim (λ e. inl (ap made e)) (λ i. inr (in_places vs j i)) (in_inserted p (places_among vs) j h)
in_places (own k ∷ vs) j h = inr (in_places vs j h)

every_at : (P : Variable → Type 0) (vs : List Variable) (v : Variable) → Every P vs → IsAmong vs v → P v
every_at P [] v e h = absurd h
every_at P (u ∷ vs) v e (inl i) = subst P i e.0
every_at P (u ∷ vs) v e (inr h) = every_at P vs v e.1 h

among_listed : (vs : List Variable) (j : Place) → IsAmong vs (made j) → is_listed j (places_among vs) ≡ true
among_listed vs j h = every_at (ListedIn (places_among vs)) vs (made j) (listed_among vs) h

unbound_at : (s : Bindings) (vs : List Variable) (v : Variable) → AreUnbound s vs → IsAmong vs v → find s v ≡ None
unbound_at s [] v u h = absurd h
unbound_at s (q ∷ vs) v u (inl e) = subst (λ (z : Variable). find s z ≡ None) e u.0
unbound_at s (q ∷ vs) v u (inr h) = unbound_at s vs v u.1 h

-- addresses
is_in : (a : ℕ) (as' : List ℕ) → IsIn a as' → In a as'
is_in a [] h = h
is_in a (b ∷ as') (inl e) = inl e
is_in a (b ∷ as') (inr h) = inr (is_in a as' h)

in_is : (a : ℕ) (as' : List ℕ) → In a as' → IsIn a as'
in_is a [] h = h
in_is a (b ∷ as') (inl e) = inl e
in_is a (b ∷ as') (inr h) = inr (in_is a as' h)

are_apart : (as' : List ℕ) → AreDistinct as' → AreApart as'
are_apart [] d = tt
are_apart (a ∷ as') d = ((λ i. d.0 (in_is a as' i)), are_apart as' d.1)

le_both : (a b : ℕ) → a ≤ b → b ≤ a → a ≡ b
le_both a b h i = omega arith

-- A goal that waits for the places among these variables waits for the addresses of these places.
module _ (w : Words) (vs : Addresses) (bound : Bindings) (store : IsStore w vs bound) (m : Program) (g : Goal Variable) (places : List ℕ)
    (qs : List Variable) (same : ArePlacesAmong vs places qs) where
  same_made : (i j : Place) → made i ≡ made j → i ≡ j
  same_made i j e = cc

  at_place : (a : ℕ) → In a places → (j : Place) × Listed vs (made j) a × In j (places_among qs)
  at_place a i = let k = same.only a (in_is a places i) in (k.0, k.1, listed_in (places_among qs) k.0 (among_listed qs k.0 k.2))

  at_address : (j : Place) → In j (places_among qs) → (a : ℕ) × Listed vs (made j) a × In a places
  at_address j i = let k = same.all j (in_places qs j i) in (k.0, k.1, is_in k.0 places k.2)

  pub says_wait : Decides m bound g (waits_on qs) → AreDistinct places → WaitSays m w vs bound g places
  says_wait d apart = record {
    reads = qs;
    decides = d;
    all = λ j h. let i = in_places qs j (listed_in (places_among qs) j h) in
        let k = same.all j i in
        (k.0, k.1, k.2, unbound_at bound qs (made j) (reads_are_unbound m bound g (waits_on qs) d) i);
    only = λ a i. let k = same.only a i in (k.0, k.1, among_listed qs k.0 k.2);
    count = le_both (length places) (length (places_among qs))
        (at_most (λ (a : ℕ) (j : Place). Listed vs (made j) a) (λ a b j h k. (store.says.once (made j) (made j) a b h k).0 refl)
        places (places_among qs) (are_apart places apart) at_place)
        (at_most (λ (j : Place) (a : ℕ). Listed vs (made j) a)
        (λ i j a h k. same_made i j ((store.says.once (made i) (made j) a a h k).1 refl))
        (places_among qs) places (rise_apart (places_among qs) (places_rise qs)) at_address);
  }

pub fail_says : LawOfFail
fail_says w vs bound ops args at r t store formed s m g e source all = record {
  reads = t.earlier;
  decides = ends (ending t) (source (ending t) (1, ap (λ o. obey (follow 0 bound ops args) 0 bound args at t o) e)) failed;
}
  where
    failed : (ending t).decision ≡ decides_fail t.earlier
    failed = ap (λ (b : Bool). cond b (decides_fail t.earlier) (waits_on t.earlier)) (sym s.behind ∙ all)

    ends : (d : Meaning) → (e : Decision) × Decides m bound g e × (d ≡ decision_of m g e) → d.decision ≡ decides_fail t.earlier
        → Decides m bound g (decides_fail t.earlier)
    ends d h f = subst (λ (e : Decision). Decides m bound g e) (sym (ap (λ (z : Meaning). z.decision) h.2) ∙ f) h.1

pub wait_says : LawOfWait
wait_says w vs bound ops args at r t store formed s m g e source some apart =
    says_wait w vs bound store m g r.waits t.earlier s.waits
    (ends (ending t) (source (ending t) (1, ap (λ o. obey (follow 0 bound ops args) 0 bound args at t o) e)) waited) apart
  where
    waited : (ending t).decision ≡ waits_on t.earlier
    waited = ap (λ (b : Bool). cond b (decides_fail t.earlier) (waits_on t.earlier)) (sym s.behind ∙ some)

    ends : (d : Meaning) → (e : Decision) × Decides m bound g e × (d ≡ decision_of m g e) → d.decision ≡ waits_on t.earlier
        → Decides m bound g (waits_on t.earlier)
    ends d h f = subst (λ (e : Decision). Decides m bound g e) (sym (ap (λ (z : Meaning). z.decision) h.2) ∙ f) h.1
