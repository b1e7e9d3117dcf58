-- The processes that the waiting lists tell are those that a commit wakes.
use Rattle.std.proofs.Common.{◌≡◌, ◌⊎◌, ℕ, Bool, true, List, [], ◌∷◌, Some, None, refl, sym, ap, ap₂, ◌∙◌, inl, inr, true≢false}
use Rattle.std.specs.Prelude.{◌||◌, is_some}
use Rattle.fcp_model.specs.declared.run.Place.{Place}
use Rattle.fcp_model.specs.Places.{made, own, Variable}
use Rattle.fcp_model.specs.Terms.{Term, Bindings, find}
use Rattle.fcp_model.specs.Programs.{Goal, Program}
use Rattle.fcp_model.specs.States.{Status, ready, waiting, finished, Process, State}
use Rattle.fcp_model.specs.Events.{binds_one, is_woken}
use Rattle.heap_words.specs.Trails.{WordList, word_at}
use Rattle.word_states.specs.Words.{Words, IsIn}
use Rattle.word_states.specs.Leading.{LeadsTo, BindingsLead}
use Rattle.word_states.specs.Standing.{Book, StandsFor, ProcessAt}
use Rattle.word_states.specs.Trials.{places_bound, CommitSays}
use Rattle.word_states.specs.Waking.{AreWoken, WakesSay}
use Rattle.word_states.proofs.Leading.{found_short}
use Rattle.word_state_laws.proofs.Settling.{is_bound, bound_one}

pub wakes_woken : (m : Program) (book : Book) (w : Words) (s : State) (g : Goal Variable) (k : ℕ) (binds : WordList) (ps : List (List ℕ))
    (places wakes : List ℕ) (stands : StandsFor book w s) (says : CommitSays m w book.places stands.short g k binds ps)
    → ((a x : ℕ) → word_at binds a ≡ Some x → IsIn a places) → ((a : ℕ) → IsIn a places → (x : ℕ) × (word_at binds a ≡ Some x))
    → WakesSay book s places wakes → AreWoken book s says.bindings wakes
wakes_woken m book w s g k binds ps places wakes stands says into from wake = record {
  all = λ q y h u. all q y h y.status refl u;
  only = λ q h.
      let r = wake.only q h in
      let v = r.2 in
      let x = from r.0 r.1 in
      let b = says.binds_only r.0 x.0 x.1 in
      let same : made b.0 ≡ made v.place = (stands.says.once (made b.0) (made v.place) r.0 r.0 b.2 v.at).1 refl in
      let found : find says.bindings (made v.place) ≡ Some b.1 = ap (find says.bindings) (sym same) ∙ b.3 in
      (v.process, v.stands, ap (is_woken says.bindings) v.status ∙ is_bound says.bindings v.places v.place b.1 v.listed found);
}
  where
    all : (q : ℕ) (y : Process) → ProcessAt book s q y → (st : Status) → y.status ≡ st → is_woken says.bindings st ≡ true → IsIn q wakes
    all q y h ready e u = absurd (true≢false (sym u))
    all q y h finished e u = absurd (true≢false (sym u))
    all q y h (waiting ns) e u =
        let r = bound_one says.bindings ns u in
        let b = says.binds_all r.0 r.1 r.3 in
        wake.all q b.0 (into b.0 b.1 b.4) (record { process = y; stands = h; places = ns; status = e; place = r.0; at = b.2; listed = r.2 })

-- bindings with shorter ways bind the same places, in the same order, and wake the same processes
pub same_bound : (s bs cs : Bindings) → BindingsLead s bs cs → places_bound bs ≡ places_bound cs
same_bound s [] [] h = refl
same_bound s (b ∷ bs) (c ∷ cs) h = go b.0 c.0 b.1 c.1 h.0 (same_bound s bs cs h.2)
  where
    go : (v u : Variable) (t x : Term Variable) → v ≡ u → places_bound bs ≡ places_bound cs
        → places_bound ((v, t) ∷ bs) ≡ places_bound ((u, x) ∷ cs)
    go (made i) (made j) t x e rest =
        let same : i ≡ j = cc in
        ap₂ (λ (p : Place) (ps : List Place). p ∷ ps) same rest
    go (own k) (own l) t x e rest = rest
    go (made i) (own l) t x e rest = cc
    go (own k) (made j) t x e rest = cc
same_bound s [] (c ∷ cs) h = absurd h
same_bound s (b ∷ bs) [] h = absurd h

same_one : (s bs cs : Bindings) (ps : List Place) → BindingsLead s bs cs → binds_one bs ps ≡ binds_one cs ps
same_one s bs cs [] h = refl
same_one s bs cs (p ∷ ps) h =
    ap₂ (λ (a b : Bool). a || b) (go (found_short s bs cs (made p) h)) (same_one s bs cs ps h)
  where
    go : ((find bs (made p) ≡ None) × (find cs (made p) ≡ None))
        ⊎ ((t u : Term Variable) × (find bs (made p) ≡ Some t) × (find cs (made p) ≡ Some u) × LeadsTo s t u)
        → is_some (find bs (made p)) ≡ is_some (find cs (made p))
    go (inl r) = ap is_some r.0 ∙ sym (ap is_some r.1)
    go (inr r) = ap is_some r.2 ∙ sym (ap is_some r.3)

pub same_woken : (s bs cs : Bindings) (st : Status) → BindingsLead s bs cs → is_woken bs st ≡ is_woken cs st
same_woken s bs cs ready h = refl
same_woken s bs cs finished h = refl
same_woken s bs cs (waiting ps) h = same_one s bs cs ps h
