-- A child is put, and a variable takes a term at its first occurrence.
use Rattle.std.proofs.Common.{◌≡◌, ℕ, zero, suc, Bool, true, false, cond, List, [], ◌∷◌, length, refl, ap, ◌∙◌, subst}
use Rattle.std.proofs.Common.{arith, None}
use Rattle.std.specs.Prelude.{nat_eq}
use Rattle.std.proofs.lemmas.List.{length-append}
use Rattle.fcp_model.specs.declared.goal.TheConstants.{TRUE_PROCEDURE, UNIFY_PROCEDURE, ASSIGN_PROCEDURE}
use Rattle.heap_words.specs.Trails.{word_at}
use Rattle.word_states.specs.Pieces.{StartsAt, is_place}
use Rattle.machine_code.specs.Instructions.{GetFirst, Spawn}
use Rattle.machine_code.proofs.Fresh.{fresh_here}
use Rattle.trial_laws.specs.AtHand.{AtHand, term_word}
use Rattle.trial_laws.specs.Laws.{IsFilled}
use Rattle.trial_laws.specs.NewPieces.{with_piece, passed_words, true_piece, process_piece, unify_piece, assign_piece, child_piece}
use Rattle.trial_laws.proofs.Pieces.{places_left}
use Rattle.trial_laws.proofs.SpawnLaws.{spawn_leads}
use Rattle.trial_laws.proofs.FirstLaws.{first_leads}
use Rattle.safe_tries.specs.Safe.{IsSafe}
use Rattle.safe_tries.proofs.PutLaws.{safe_child}
use Rattle.safe_tries.proofs.Filling.{safe_first}
use Rattle.steady_tries.specs.Steady.{arguments_of, IsSteady}
use Rattle.steady_tries.specs.Steps.{SteadySpawn, SteadyFirst}
use Rattle.steady_tries.proofs.Rebasing.{rebased}

neither : (b : Bool) (xs ys : List ℕ) → is_place xs ≡ false → is_place ys ≡ false → is_place (cond b xs ys) ≡ false
neither true xs ys e f = e
neither false xs ys e f = f

no_unifier : (r : AtHand) (i n : ℕ) → is_place (unify_piece r i n) ≡ false
no_unifier r i zero = refl
no_unifier r i (suc zero) = refl
no_unifier r i (suc (suc n)) = refl

no_assigner : (r : AtHand) (i n : ℕ) → is_place (assign_piece r i n) ≡ false
no_assigner r i zero = refl
no_assigner r i (suc zero) = refl
no_assigner r i (suc (suc n)) = refl

-- a process is no place
no_place : (r : AtHand) (p i n : ℕ) → is_place (child_piece r p i n) ≡ false
no_place r p i n =
    neither (nat_eq p TRUE_PROCEDURE) true_piece _ refl
    (neither (nat_eq p UNIFY_PROCEDURE) (unify_piece r i n) _ (no_unifier r i n)
    (neither (nat_eq p ASSIGN_PROCEDURE) (assign_piece r i n) (process_piece p (passed_words r i n)) (no_assigner r i n) refl))

pub spawn_steady : SteadySpawn
spawn_steady c kept at n r course h p i parts e few count room =
    subst (λ k. IsSteady c kept (suc at) k (with_piece r (child_piece r p i parts)))
    (length-append r.pieces (child_piece r p i parts ∷ []) ∙ omega arith)
    (rebased c kept at n r (suc at) (with_piece r (child_piece r p i parts)) h.tops h.released course h
    (safe_child kept r h.tops h.released h.safe p i parts few count room)
    (fresh_here c.ops at h.tops h.released (Spawn p i parts) e h.fresh) refl refl
    (places_left 4000000000 r.pieces (child_piece r p i parts) (no_place r p i parts))
    (λ w vs bound g t f store. spawn_leads w vs bound c.ops (arguments_of g) at r f.state store h.safe.led.pieces f.stands p i parts e few
    count room))

pub first_steady : SteadyFirst
first_steady c kept at n r course h i k s e l = (
  law.1,
  λ ps filled. rebased c kept at n r (suc at) (record r { pieces = ps }) h.tops k course h (law.2 ps filled)
      (λ m. (fresh_here c.ops at h.tops h.released (GetFirst i k) e h.fresh m).2) refl refl filled.same_places
      (λ w vs bound g t f store. first_leads w vs bound c.ops (arguments_of g) at r f.state store h.safe.led.pieces f.stands i k s ps e l
      law.0 filled),
)
  where
    law : (word_at r.binds (suc s) ≡ None) × StartsAt 4000000000 r.pieces s (0 ∷ 0 ∷ [])
        × ((ps : List (List ℕ)) → IsFilled s (term_word r i) r.pieces ps → IsSafe kept (record r { pieces = ps }) h.tops k)
    law = safe_first kept r h.tops h.released h.safe i k s l (fresh_here c.ops at h.tops h.released (GetFirst i k) e h.fresh 0).0
        (fresh_here c.ops at h.tops h.released (GetFirst i k) e h.fresh 0).1
