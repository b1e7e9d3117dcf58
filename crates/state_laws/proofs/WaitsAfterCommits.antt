-- A process that waits has the decision to wait on the same places after a commit that binds none of them.
use Rattle.std.proofs.Common.{◌≡◌, ℕ, suc, ◌<◌, Bool, true, false, cond, List, [], ◌∷◌, ◌++◌, Option, Some, None, refl, ap, ◌∙◌, subst, arith}
use Rattle.std.proofs.lemmas.Bool.{and_left, ne_eqb}
use Rattle.fcp_model.specs.declared.run.Place.{Place}
use Rattle.fcp_model.specs.Places.{is_same_place, is_same, Variable, made, own}
use Rattle.fcp_model.specs.Terms.{Term, Bindings, settle, rename, find}
use Rattle.fcp_model.specs.Programs.{Goal, Program}
use Rattle.fcp_model.specs.Decisions.{waits_on}
use Rattle.fcp_model.specs.States.{State}
use Rattle.fcp_model.specs.Events.{settled, binds_one}
use Rattle.fcp_model.specs.Reads.{AreUnbound, IsPart, BindsPlaces}
use Rattle.fcp_model.specs.ClosedPrograms.{GoalOver}
use Rattle.fcp_model.specs.LawfulStates.{IsPlaceIn, WaitsOn, IsLawfulState}
use Rattle.fcp_model.proofs.Finding.{found_or, find-append}
use Rattle.binding_laws.proofs.PlaceLists.{listed_within}
use Rattle.state_laws.proofs.ReadVariables.{Every}
use Rattle.state_laws.proofs.ReadPairs.{BoundWithin, MayRead}
use Rattle.state_laws.proofs.ReadDecisions.{reads_within}
use Rattle.state_laws.proofs.GoalsWithin.{within_over, goal_within}
use Rattle.state_laws.proofs.StayingDecisions.{a_decision_stays}
use Rattle.state_laws.proofs.WaitingPlaces.{ListedIn, none_bound, listed_among}

part_append : (s bs : Bindings) → IsPart s (s ++ bs)
part_append s bs v t e = find-append s bs v ∙ ap (λ o. found_or o (find bs v)) e

-- settled bindings are of places
settled_own : (n : ℕ) (bs : Bindings) (k : ℕ) → find (settled n bs) (own k) ≡ None
settled_own n [] k = refl
settled_own n (b ∷ bs) k = go b.0 (settled_own n bs k)
  where
    go : (v : Variable) → find (settled n bs) (own k) ≡ None
        → cond (is_same (settle n v) (own k)) (Some (rename (settle n) b.1)) (find (settled n bs) (own k)) ≡ None
    go (made p) e = e
    go (own j) e = e

-- a place of an earlier entry is bound by settled bindings where the try bound it
settled_old : (n : ℕ) (bs : Bindings) (p : Place) → p.entry < n → find bs (made p) ≡ None → find (settled n bs) (made p) ≡ None
settled_old n [] p l e = refl
settled_old n (b ∷ bs) p l e = go b.0 (settled_old n bs p l) e
  where
    same : (c : Bool) → (find bs (made p) ≡ None → find (settled n bs) (made p) ≡ None) → cond c (Some b.1) (find bs (made p)) ≡ None
        → cond c (Some (rename (settle n) b.1)) (find (settled n bs) (made p)) ≡ None
    same true rec f = absurd cc
    same false rec f = rec f

    go : (v : Variable) → (find bs (made p) ≡ None → find (settled n bs) (made p) ≡ None)
        → cond (is_same v (made p)) (Some b.1) (find bs (made p)) ≡ None
        → cond (is_same (settle n v) (made p)) (Some (rename (settle n) b.1)) (find (settled n bs) (made p)) ≡ None
    go (made q) rec f = same (is_same_place q p) rec f
    go (own j) rec f =
        ap (λ c. cond c (Some (rename (settle n) b.1)) (find (settled n bs) (made p)))
        (and_left _ _ (ne_eqb n p.entry (λ (i : n ≡ p.entry). omega (arith, l)))) ∙ rec f

-- a place of the state is listed
listed : (ps : List Place) (v : Variable) → IsPlaceIn ps v → ListedIn ps v
listed ps (made p) i = i
listed ps (own k) i = tt

module _ (m : Program) (s : State) (h : IsLawfulState m s) (bs : Bindings) where
  -- the bindings after the commit
  abbrev after : Bindings
  after = s.bound ++ settled (suc s.entries) bs

  bound_listed : BoundWithin (ListedIn s.places) s.bound
  bound_listed v t e = within_over (IsPlaceIn s.places) (ListedIn s.places) (listed s.places) t (h.bound v t e).1

  own_unbound : (k : ℕ) → find s.bound (own k) ≡ None
  own_unbound k = go (find s.bound (own k)) refl
    where
      go : (o : Option (Term Variable)) → find s.bound (own k) ≡ o → o ≡ None
      go None e = refl
      go (Some t) e = absurd (h.bound (own k) t e).0

  after_binds_places : BindsPlaces after
  after_binds_places k =
      find-append s.bound (settled (suc s.entries) bs) (own k)
      ∙ (ap (λ o. found_or o (find (settled (suc s.entries) bs) (own k))) (own_unbound k) ∙ settled_own (suc s.entries) bs k)

  -- a variable that may be read is unbound still, where it is no place that the try bound
  still_unbound : (v : Variable) (ps : List Place) → binds_one bs ps ≡ false → MayRead (ListedIn s.places) s.bound v → ListedIn ps v
      → find after v ≡ None
  still_unbound (own k) ps none r i = after_binds_places k
  still_unbound (made p) ps none r i =
      find-append s.bound (settled (suc s.entries) bs) (made p)
      ∙ (ap (λ o. found_or o (find (settled (suc s.entries) bs) (made p))) r.0
      ∙ settled_old (suc s.entries) bs p (let l = listed_within s.entries s.places p h.places r.1 in omega arith)
      (none_bound bs ps p none i))

  all_unbound : (vs : List Variable) (ps : List Place) → binds_one bs ps ≡ false → Every (MayRead (ListedIn s.places) s.bound) vs
      → Every (ListedIn ps) vs → AreUnbound after vs
  all_unbound [] ps none r i = tt
  all_unbound (v ∷ vs) ps none r i = (still_unbound v ps none r.0 i.0, all_unbound vs ps none r.1 i.1)

  -- no wake is lost by this commit
  pub waits_after : (g : Goal Variable) (ps : List Place) → GoalOver (IsPlaceIn s.places) g → binds_one bs ps ≡ false
      → WaitsOn m s.bound g ps → WaitsOn m after g ps
  waits_after g ps over none w = record {
    reads = w.reads;
    decides =
        a_decision_stays m s.bound after g (waits_on w.reads) w.decides
        (part_append s.bound (settled (suc s.entries) bs)) after_binds_places
        (all_unbound w.reads ps none read (subst (λ qs. Every (ListedIn qs) w.reads) w.places (listed_among w.reads)));
    places = w.places;
  }
    where
      read : Every (MayRead (ListedIn s.places) s.bound) w.reads
      read =
          reads_within (ListedIn s.places) (λ k. tt) s.bound bound_listed m g (waits_on w.reads)
          (goal_within (IsPlaceIn s.places) (ListedIn s.places) (listed s.places) g over) w.decides
