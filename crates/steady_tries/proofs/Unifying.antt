-- Two slots are unified.
use Rattle.std.proofs.Common.{◌≡◌, ℕ, suc, ◌<◌, refl, sym, ap, ◌∙◌, ⊎_elim}
use Rattle.std.proofs.Common.{max, Option, Some, None}
use Rattle.heap_words.specs.Trails.{word_at}
use Rattle.ro_unify.specs.Unify.{clash, stop}
use Rattle.ro_unify.specs.Walks.{first_some}
use Rattle.word_states.specs.Pieces.{with_own}
use Rattle.unify_terms.specs.WordsOfTries.{memory_of}
use Rattle.machine_code.specs.Instructions.{Unify}
use Rattle.machine_code.proofs.Fresh.{fresh_here}
use Rattle.trial_laws.proofs.Pieces.{none_low}
use Rattle.trial_laws.proofs.UnifyLaws.{unify_leads}
use Rattle.safe_tries.specs.Safe.{SawOpen, KeptOpen, own_words, seen}
use Rattle.safe_tries.proofs.Unifications.{safe_unified, unification_reads}
use Rattle.steady_tries.specs.Steady.{arguments_of}
use Rattle.steady_tries.specs.Opens.{SteadyUnified, AllNoted, UnifiedReads}
use Rattle.steady_tries.proofs.Agreeing.{seen_agrees, tried_agrees}
use Rattle.steady_tries.proofs.Rebasing.{rebased}

pub unified_steady : SteadyUnified
unified_steady c kept at n r course h i j bs rs e u tame =
    rebased c kept at n r (suc at) (record r { binds = bs; reads = rs }) h.tops (max h.released (max (h.tops i) (h.tops j))) course h
    (safe_unified kept r h.tops h.released h.safe i j bs rs (u (seen kept r) (seen_agrees kept r h.safe.below)) tame)
    (fresh_here c.ops at h.tops h.released (Unify i j) e h.fresh) refl refl refl
    (λ w vs bound g t f store. unify_leads w vs bound c.ops (arguments_of g) at r f.state store h.safe.led.pieces f.stands i j bs rs e
    (u (memory_of (with_own r.pieces w)) (tried_agrees kept c.process r w vs bound g h.safe.below t)))

pub unified_reads : UnifiedReads
unified_reads c kept at n r course h i j rs ends =
    ⊎_elim (λ u. unification_reads kept r h.tops h.released h.safe i j (clash rs) (u (seen kept r) (seen_agrees kept r h.safe.below)))
    (λ u. unification_reads kept r h.tops h.released h.safe i j (stop rs) (u (seen kept r) (seen_agrees kept r h.safe.below))) ends

pub all_noted : AllNoted
all_noted c kept at n r course h rs waits opened noted a k =
    ⊎_elim (λ i. h.safe.waits_open a i) (λ i. of_store (opened a i.0 i.1) i.1) ((noted a).0 k)
  where
    of_store : SawOpen kept r a → a < 4000000000 → KeptOpen kept a
    of_store s low = go (word_at kept a) refl
      where
        go : (o : Option ℕ) → word_at kept a ≡ o → KeptOpen kept a
        go (Some y) f =
            let q : Some y ≡ Some s.0 = sym (ap (λ p. first_some p (own_words r.pieces a)) f) ∙ s.2 in
            (s.0, s.1, f ∙ q, s.3)
        go None f = absurd (let q : None ≡ Some s.0 =
            sym (none_low r.pieces a low) ∙ (sym (ap (λ p. first_some p (own_words r.pieces a)) f) ∙ s.2) in cc)
