-- A trial of a process tells the places on which it waits.
use Rattle.std.proofs.Common.{◌≡◌, ℕ, List, [], ◌∷◌, length, sym, ap, ◌∙◌, subst, inl, inr}
use Rattle.fcp_model.specs.declared.run.Place.{Place}
use Rattle.fcp_model.specs.Places.{Variable, places_among, is_listed}
use Rattle.fcp_model.specs.Decisions.{waits_on}
use Rattle.fcp_model.specs.LawfulStates.{Each, WaitsOn, StandsRight}
use Rattle.fcp_model.specs.States.{Status, ready, waiting, finished, Process}
use Rattle.fcp_model.proofs.OneDecision.{one_decision}
use Rattle.word_states.specs.Standing.{StandsAt}
use Rattle.leading_laws.proofs.Decisions.{goals_decide_alike}
use Rattle.process_texts.specs.Lines.{AreWaits, WaitsAreTold}

-- what is so of each process is so of one that has its words somewhere
pub each_stands : (P : Process → Type 0) (as' : List ℕ) (ys : List Process) (p : ℕ) (x : Process) → Each P ys → StandsAt as' ys p x → P x
each_stands P [] ys p x h at = absurd at
each_stands P (a ∷ as') [] p x h at = absurd at
each_stands P (a ∷ as') (y ∷ ys) p x h (inl e) = subst P e.1 h.0
each_stands P (a ∷ as') (y ∷ ys) p x h (inr k) = each_stands P as' ys p x h.1 k

same_reads : (rs qs : List Variable) → waits_on rs ≡ waits_on qs → rs ≡ qs
same_reads rs qs e = cc

pub waits_are_told : WaitsAreTold
waits_are_told m w book s p x places stands at lawful says =
    go x.status (each_stands (λ q. StandsRight m s.bound q q.status) book.processes s.processes p x lawful.waits at)
  where
    these : (ps : List Place) → WaitsOn m s.bound x.goal ps → AreWaits book places (waiting ps)
    these ps on =
        let alike = goals_decide_alike m s.bound stands.short x.goal (stands.process p x at).goal.goal (waits_on says.reads)
        stands.shortened (stands.process p x at).goal.leads says.decides in
        let same : says.reads ≡ on.reads =
        same_reads says.reads on.reads (one_decision m s.bound x.goal (waits_on says.reads) (waits_on on.reads) alike on.decides) in
        let set : places_among says.reads ≡ ps = ap places_among same ∙ on.places in (
          record {
            all = λ j i. let r = says.all j (ap (is_listed j) set ∙ i) in (r.0, r.1, r.2);
            only = λ a i. let r = says.only a i in (r.0, r.1, sym (ap (is_listed r.0) set) ∙ r.2);
            count = says.count ∙ ap length set;
          },
          (says.reads, sym set),
        )

    go : (t : Status) → StandsRight m s.bound x t → AreWaits book places t
    go ready h = tt
    go (waiting ps) h = these ps h
    go finished h = tt
