-- Bindings with shorter ways, and more bindings behind them.
use Rattle.std.proofs.Common.{[], ◌∷◌, ◌++◌, refl, ap, ◌∙◌, subst, append_assoc}
use Rattle.fcp_model.specs.Places.{Variable}
use Rattle.fcp_model.specs.Terms.{Term, Bindings, find}
use Rattle.fcp_model.specs.Reads.{IsPart}
use Rattle.fcp_model.proofs.Finding.{found_or, find-append}
use Rattle.word_states.specs.Leading.{LeadsTo, BindingsLead, AreShortened}
use Rattle.word_states.proofs.Leading.{leads_more, bindings_lead_more}

-- what is bound stays so with more behind it
pub part_append : (s bs : Bindings) → IsPart s (s ++ bs)
part_append s bs v t e = find-append s bs v ∙ ap (λ o. found_or o (find bs v)) e

pub part_behind : (s bs cs : Bindings) → IsPart (s ++ bs) (s ++ (bs ++ cs))
part_behind s bs cs = subst (IsPart (s ++ bs)) (append_assoc s bs cs) (part_append (s ++ bs) cs)

-- the one behind the other
pub lead_both : (s bs cs bs' cs' : Bindings) → BindingsLead s bs cs → BindingsLead s bs' cs' → BindingsLead s (bs ++ bs') (cs ++ cs')
lead_both s [] [] bs' cs' h i = i
lead_both s (b ∷ bs) (c ∷ cs) bs' cs' h i = (h.0, h.1, lead_both s bs cs bs' cs' h.2 i)
lead_both s [] (c ∷ cs) bs' cs' h i = absurd h
lead_both s (b ∷ bs) [] bs' cs' h i = absurd h

-- over bindings with shorter ways, those of a try make such again
pub shortened_over : (s short bs cs : Bindings) → AreShortened s short → BindingsLead (s ++ bs) bs cs
    → AreShortened (s ++ bs) (short ++ cs)
shortened_over s short bs cs h i = lead_both (s ++ bs) s short bs cs (bindings_lead_more s (s ++ bs) (part_append s bs) s short h) i

-- one more is bound, to a term to which the first leads
pub lead_one_more : (s bs cs : Bindings) (v : Variable) (t u : Term Variable) → BindingsLead (s ++ bs) bs cs → LeadsTo (s ++ bs) t u
    → BindingsLead (s ++ (bs ++ (v, t) ∷ [])) (bs ++ (v, t) ∷ []) (cs ++ (v, u) ∷ [])
lead_one_more s bs cs v t u h i =
    let on = part_behind s bs ((v, t) ∷ []) in
    let now = s ++ (bs ++ (v, t) ∷ []) in
    lead_both now bs cs ((v, t) ∷ []) ((v, u) ∷ []) (bindings_lead_more (s ++ bs) now on bs cs h)
    (refl, leads_more (s ++ bs) now on t u i, tt)
