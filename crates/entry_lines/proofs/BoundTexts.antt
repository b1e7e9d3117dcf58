-- The texts of what a try bound: the value of a place is that of the term to which it is bound.
use Rattle.std.proofs.Common.{◌≡◌, ℕ, zero, suc, false, [], ◌∷◌, ◌++◌, List, Option, Some, None, refl, sym, ap, ◌∙◌}
use Rattle.std.specs.Prelude.{option_map, codes, slice_get}
use Rattle.fcp_model.specs.declared.run.Place.{Place}
use Rattle.fcp_model.specs.Places.{Variable, made, own}
use Rattle.fcp_model.specs.Terms.{Term, number, string, nil, cons, tuple, var, ro, first, Bindings, find, rename, settle}
use Rattle.fcp_model.specs.Value.{Look, value, value_of, through}
use Rattle.fcp_model.specs.Spelling.{Bytes, place_text}
use Rattle.fcp_model.specs.TermText.{Written, leaf_text, look_text, cut_text}
use Rattle.fcp_model.specs.LogText.{both_texts, bound_places_text}
use Rattle.fcp_model.proofs.MoreSteps.{Refines, value_more}
use Rattle.fcp_model.proofs.OneDecision.{option_map_more}
use Rattle.word_states.specs.Trials.{places_bound}
use Rattle.entry_lines.specs.Additions.{Gives}
use Rattle.entry_lines.specs.Texts.{bound_texts}

both_refine : (a a' b b' : Option Bytes) → Refines a a' → Refines b b' → Refines (both_texts a b) (both_texts a' b')
both_refine None a' b b' h i = λ x e. cc
both_refine (Some y) a' None b' h i = λ x e. cc
both_refine (Some y) a' (Some z) b' h i = λ x e. rw (h y refl, i z refl) e

-- what one definition gives another gives that refines it
pub gives_refined : (f g : ℕ → Option Bytes) (a : Bytes) → ((n : ℕ) → Refines (f n) (g n)) → Gives f a → Gives g a
gives_refined f g a h (n, i) = (n, λ k j. h k a (i k j))

module _ (names : List Bytes) (s : Bindings) where
  through_is : (n : ℕ) (v : Variable) (t : Term Variable) → through (value_of n s) false v (Some t) ≡ value n s t
  through_is n v (var q) = refl
  through_is n v (ro q) = refl
  through_is n v (first k) = refl
  through_is n v (number z) = refl
  through_is n v (string c) = refl
  through_is n v nil = refl
  through_is n v (cons t u) = refl
  through_is n v (tuple ts) = refl

  -- the text of a value, after a node was taken
  abbrev looked_text : ℕ → ℕ → Option Look → Option Bytes
  looked_text n left o =
      option_map (λ (w : Written). w.text) (elim o [ None ↦ None | Some l ↦ look_text n names s left l (leaf_text names l) ])

  -- the text of a bound variable is that of its term
  cut_refines : (v : Variable) (t : Term Variable) → find s v ≡ Some t → (n nodes : ℕ)
      → Refines (cut_text n names s nodes (var v)) (cut_text n names s nodes t)
  cut_refines v t e zero nodes = λ x f. cc
  cut_refines v t e (suc n) zero = λ x f. f
  cut_refines v t e (suc zero) (suc left) = λ x f. cc
  cut_refines v t e (suc (suc n)) (suc left) = λ x f.
      go x (value n s t) refl (sym (ap (looked_text (suc n) left) (ap (through (value_of n s) false v) e ∙ through_is n v t)) ∙ f)
    where
      go : (x : Bytes) (o : Option Look) → value n s t ≡ o → looked_text (suc n) left (value n s t) ≡ Some x
          → looked_text (suc n) left (value (suc n) s t) ≡ Some x
      go x None i f = let h : looked_text (suc n) left None ≡ Some x = sym (ap (looked_text (suc n) left) i) ∙ f in cc
      go x (Some l) i f = ap (looked_text (suc n) left) (value_more s t n l i ∙ sym i) ∙ f

  -- each place is bound to what stands beside it
  pub bound_refine : (entry n : ℕ) (bs : Bindings)
      → ((k : ℕ) (j : Place) (t : Term Variable) → slice_get bs k ≡ Some (made j, t) → find s (made j) ≡ Some (rename (settle entry) t))
      → Refines (bound_texts n names s (places_bound bs)) (bound_places_text n names s entry bs)
  bound_refine entry n [] h = λ x e. e
  bound_refine entry n ((made p, t) ∷ bs) h =
      both_refine _ _ _ _ (option_map_more (λ x. codes " " ++ place_text p ++ codes "=" ++ x) _ _
      (cut_refines (made p) (rename (settle entry) t) (h 0 p t refl) n 64)) (bound_refine entry n bs (λ k. h (suc k)))
  bound_refine entry n ((own k, t) ∷ bs) h = bound_refine entry n bs (λ i. h (suc i))
