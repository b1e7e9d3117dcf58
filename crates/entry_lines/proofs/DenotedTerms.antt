-- What words denote they stand for in their memory, wherever no two variables have one address.
use Rattle.std.proofs.Common.{◌≡◌, ℕ, suc, ◌+◌, refl, sym, ap, ◌∙◌, subst, inl, inr, arith, Some}
use Rattle.std.specs.Prelude.{ℤ}
use Rattle.fcp_model.specs.Places.{Variable}
use Rattle.fcp_model.specs.Terms.{Term, number, string, nil, cons, tuple, var, ro, first, Terms, none, more}
use Rattle.heap_words.specs.Cells.{decoded}
use Rattle.heap_words.specs.declared.cell.Cell.TheVariants.{Small, Wide}
use Rattle.word_states.specs.Words.{Words}
use Rattle.word_states.specs.Denoting.{Addresses, NumberSays, Denotes, DenotesAll}
use Rattle.unify_terms.specs.Denotes.{IsNumber}
use Rattle.unify_terms.specs.Denotes as unified
use Rattle.unify_terms.specs.WordsOfTries.{memory_of, naming}
use Rattle.unify_terms.proofs.NamesOfPlaces.{AreOnce, once_place}
use Rattle.entry_lines.proofs.Agreeing.{in_memory}

module _ (w : Words) (vs : Addresses) (once : AreOnce vs) where
  next : (a : ℕ) → suc a ≡ a + 1
  next a = omega arith

  after : (a x : ℕ) → w (suc a) ≡ Some x → memory_of w (a + 1) ≡ x
  after a x e = ap (memory_of w) (sym (next a)) ∙ in_memory w (suc a) x e

  number_there : (x : ℕ) (z : ℤ) → NumberSays w vs x z → IsNumber (memory_of w) z x
  number_there x z (inl e) = (Small z, e, refl)
  number_there x z (inr h) = (Wide h.0 h.1, h.3, (h.2, ap decoded (in_memory w h.0 h.4.0 h.4.1) ∙ h.4.2, h.5, h.6))

  mutual
    pub denotes_there : (x : ℕ) (t : Term Variable) → Denotes w vs x t → unified.Denotes (naming vs) (memory_of w) t x
    denotes_there x (number z) h = number_there x z h
    denotes_there x (string s) h = (record { 0 = s }, h, refl)
    denotes_there x nil h = h
    denotes_there x (cons t u) h = (
      h.0,
      h.3,
      subst (unified.Denotes (naming vs) (memory_of w) t) (sym (in_memory w h.0 h.1 h.4)) (denotes_there h.1 t h.5),
      subst (unified.Denotes (naming vs) (memory_of w) u) (sym (after h.0 h.2 h.6)) (denotes_there h.2 u h.7),
    )
    denotes_there x (tuple ts) h =
        (h.0, h.1, ap decoded (in_memory w h.0 h.2.0 h.2.1) ∙ h.2.2, h.3, all_there h.0 ts h.4)
    denotes_there x (var v) h = (h.0, h.1, once_place (memory_of w) vs once v h.0 h.2)
    denotes_there x (ro v) h = (h.0, h.1, once_place (memory_of w) vs once v h.0 h.2)
    denotes_there x (first k) h = absurd h

    all_there : (a : ℕ) (ts : Terms Variable) → DenotesAll w vs (suc a) ts → unified.DenotesAll (naming vs) (memory_of w) ts a
    all_there a none h = tt
    all_there a (more t ts) h = (
      subst (unified.Denotes (naming vs) (memory_of w) t) (sym (after a h.0 h.1)) (denotes_there h.0 t h.2),
      subst (unified.DenotesAll (naming vs) (memory_of w) ts) (next a) (all_there (suc a) ts h.3),
    )
