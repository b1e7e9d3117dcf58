-- The piece of a child, by how it is put.
use Rattle.std.proofs.Common.{◌≡◌, ℕ, zero, suc, ◌+◌, ◌<◌, ◌≤◌, refl, sym, length, Bool, List, [], ◌∷◌, ◌++◌, map, ap, ap₂, ◌∙◌}
use Rattle.std.proofs.Common.{subst, arith}
use Rattle.std.proofs.lemmas.Bool.{ne_eqb}
use Rattle.std.proofs.lemmas.List.{length-map}
use Rattle.std.specs.Prelude.{nat_eq, if◌then◌else◌}
use Rattle.heap_words.specs.Trails.{WordList}
use Rattle.heap_words.specs.Cells.{encoded}
use Rattle.heap_words.specs.declared.cell.Cell.TheVariants as cell
use Rattle.fcp_model.specs.declared.goal.TheConstants.{TRUE_PROCEDURE, UNIFY_PROCEDURE, ASSIGN_PROCEDURE}
use Rattle.trial_laws.specs.AtHand.{AtHand, term_word, end_of}
use Rattle.trial_laws.specs.NewPieces.{true_piece, process_piece, unify_piece, assign_piece, child_piece, with_piece, HasRoom}
use Rattle.trial_laws.specs.NewPieces.{passed, passed_words}
use Rattle.try_desk.specs.Held.{Held, held_terms}
use Rattle.try_desk.specs.Desks.{at_hand, pieces_at_hand}
use Rattle.try_desk.proofs.AtDesk.{terms_length}
use Rattle.try_desk.proofs.Passed.{passed_are}

-- what stands before the arguments, and the words that a child takes for those of slots, gathered in a list
line_of_call : (k : ℕ → ℕ) (h : Held) (s a b z : List ℕ) (x y f i n : ℕ) → s ≡ a → a ≡ b ++ map k (held_terms h i n)
    → b ≡ z ++ 9 ∷ 0 ∷ x ∷ y ∷ [] → z ≡ [] → x ≡ encoded (cell.Raw f) → y ≡ encoded (cell.Raw n)
    → s ≡ process_piece f (map k (held_terms h i n))
line_of_call k h s a b z x y f i n e g j l xs ys =
    e ∙ (g ∙ (ap (λ (t : List ℕ). t ++ ws) (j ∙ ap (λ (t : List ℕ). t ++ 9 ∷ 0 ∷ x ∷ y ∷ []) l)
    ∙ (ap₂ (λ (v w : ℕ). 9 ∷ 0 ∷ v ∷ w ∷ ws) xs ys ∙ ap (λ (m : ℕ). 9 ∷ 0 ∷ encoded (cell.Raw f) ∷ encoded (cell.Raw m) ∷ ws) (sym size))))
  where
    ws : List ℕ
    ws = map k (held_terms h i n)

    size : length ws ≡ n
    size = length-map (held_terms h i n) k ∙ terms_length h i n

pub call_put : (clause next : ℕ) (behind : Bool) (h : Held) (ps ps' : List (List ℕ)) (binds : WordList) (s a b z : List ℕ)
    (x y f i n at : ℕ) → ps' ≡ ps ++ s ∷ [] → at ≡ end_of 4000000000 ps → at + length s < 4294967296 → s ≡ a
    → a ≡ b ++ map (passed (pieces_at_hand ps binds)) (held_terms h i n) → b ≡ z ++ 9 ∷ 0 ∷ x ∷ y ∷ [] → z ≡ []
    → x ≡ encoded (cell.Raw f) → y ≡ encoded (cell.Raw n) → (reads waits : List ℕ)
    → (at_hand clause next behind h ps' binds reads waits
    ≡ with_piece (at_hand clause next behind h ps binds reads waits)
    (process_piece f (passed_words (at_hand clause next behind h ps binds reads waits) i n)))
    × HasRoom (at_hand clause next behind h ps binds reads waits)
    (length (process_piece f (passed_words (at_hand clause next behind h ps binds reads waits) i n)))
call_put clause next behind h ps ps' binds s a b z x y f i n at e g room k l m o xs ys reads waits =
    let line : s ≡ process_piece f (passed_words (at_hand clause next behind h ps binds reads waits) i n) =
    line_of_call (passed (pieces_at_hand ps binds)) h s a b z x y f i n k l m o xs ys
    ∙ ap (process_piece f) (passed_are clause next behind h ps binds reads waits i n) in
    let size : length s ≡ length (process_piece f (passed_words (at_hand clause next behind h ps binds reads waits) i n)) =
    ap length line in (
      ap (λ (q : List (List ℕ)). at_hand clause next behind h q binds reads waits) (e ∙ ap (λ (q : List ℕ). ps ++ q ∷ []) line),
      (omega (arith, size, g, room)),
    )

-- the built-in processes
pub child_true : (r : AtHand) (p i n : ℕ) → p ≡ TRUE_PROCEDURE → true_piece ≡ child_piece r p i n
child_true r p i n e = subst (λ (q : ℕ). true_piece ≡ child_piece r q i n) (sym e) refl

pub child_unifies : (r : AtHand) (p i n : ℕ) → p ≡ UNIFY_PROCEDURE → unify_piece r i n ≡ child_piece r p i n
child_unifies r p i n e = subst (λ (q : ℕ). unify_piece r i n ≡ child_piece r q i n) (sym e) refl

pub child_assigns : (r : AtHand) (p i n : ℕ) → p ≡ ASSIGN_PROCEDURE → assign_piece r i n ≡ child_piece r p i n
child_assigns r p i n e = subst (λ (q : ℕ). assign_piece r i n ≡ child_piece r q i n) (sym e) refl

pub unify_two : (r : AtHand) (i n : ℕ) → 2 ≤ n
    → process_piece UNIFY_PROCEDURE (passed r (term_word r i) ∷ passed r (term_word r (suc i)) ∷ []) ≡ unify_piece r i n
unify_two r i zero l = absurd (omega arith)
unify_two r i (suc zero) l = absurd (omega arith)
unify_two r i (suc (suc n)) l = refl

pub unify_few : (r : AtHand) (i n : ℕ) → n < 2 → true_piece ≡ unify_piece r i n
unify_few r i zero l = refl
unify_few r i (suc zero) l = refl
unify_few r i (suc (suc n)) l = absurd (omega arith)

pub assign_two : (r : AtHand) (i n : ℕ) → 2 ≤ n
    → process_piece ASSIGN_PROCEDURE (passed r (term_word r i) ∷ passed r (r.slots (suc i)) ∷ []) ≡ assign_piece r i n
assign_two r i zero l = absurd (omega arith)
assign_two r i (suc zero) l = absurd (omega arith)
assign_two r i (suc (suc n)) l = refl

pub assign_few : (r : AtHand) (i n : ℕ) → n < 2 → true_piece ≡ assign_piece r i n
assign_few r i zero l = refl
assign_few r i (suc zero) l = refl
assign_few r i (suc (suc n)) l = absurd (omega arith)

-- and all others
pub child_calls : (r : AtHand) (p i n : ℕ) → (p ≡ TRUE_PROCEDURE → ⊥) → (p ≡ UNIFY_PROCEDURE → ⊥) → (p ≡ ASSIGN_PROCEDURE → ⊥)
    → process_piece p (passed_words r i n) ≡ child_piece r p i n
child_calls r p i n f g h =
    sym (ap (λ (c : Bool). if c then true_piece else
    (if nat_eq p UNIFY_PROCEDURE then unify_piece r i n else
    (if nat_eq p ASSIGN_PROCEDURE then assign_piece r i n else process_piece p (passed_words r i n)))) (ne_eqb p TRUE_PROCEDURE f)
    ∙ (ap (λ (c : Bool). if c then unify_piece r i n else
    (if nat_eq p ASSIGN_PROCEDURE then assign_piece r i n else process_piece p (passed_words r i n))) (ne_eqb p UNIFY_PROCEDURE g)
    ∙ ap (λ (c : Bool). if c then assign_piece r i n else process_piece p (passed_words r i n)) (ne_eqb p ASSIGN_PROCEDURE h)))
