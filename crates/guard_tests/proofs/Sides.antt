-- The sides of a test.
use Rattle.std.proofs.Common.{ℕ, List, [], ◌∷◌, Option, refl}
use Rattle.heap_words.specs.WordsLaws.{WordsLaws}
use Rattle.heap_words.specs.declared.cell.Cell.TheVariants as cell
use Rattle.heap_words.specs.declared.steps.ExprStep.{ExprStep}
use Rattle.heap_words.specs.declared.steps.ExprStep.TheVariants.{Push, Apply}
use Rattle.heap_words.proofs.Encodings.{decoded_encoded}
use Rattle.ro_unify.specs.Occurs.{Each}
use Rattle.guard_tests.specs.Evaluation.{OperandLeads}
use Rattle.guard_tests.specs.Forms.{operand_of}

module _ {S : Type 0} {addresses : S → ℕ} {sound : S → Type 0} {knows : S → ℕ → Type 0} {had : S → ℕ → ℕ → Type 0} {leads : S → ℕ → Type 0}
    {own shown : S → ℕ → Option ℕ} {later : S → S → Type 0} {gave : S → S → ℕ → ℕ → Type 0}
    (laws : WordsLaws {S = S} addresses sound knows had leads own shown later gave) where
  -- the word of the empty list leads nowhere
  nil_leads : (w : S) → sound w → leads w 6
  nil_leads w so = laws.plain w 6 cell.Nil so (decoded_encoded cell.Nil tt) refl (λ b r. r) (λ b r. absurd r)

  -- the word of the one operand leads to known addresses
  pub operand_leads : (w : S) (ss : List ExprStep) → sound w → Each (OperandLeads (leads w)) ss → leads w (operand_of ss)
  operand_leads w [] so h = nil_leads w so
  operand_leads w (Push x ∷ []) so h = h.0
  operand_leads w (Push x ∷ s ∷ ss) so h = nil_leads w so
  operand_leads w (Apply o ∷ ss) so h = nil_leads w so
