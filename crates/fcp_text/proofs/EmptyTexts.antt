-- Texts of lists that are not empty, and of parts that were taken apart.
use Rattle.std.proofs.Common.{◌≡◌, List, [], ◌∷◌, ◌++◌, length, map, false, refl, codes, Option, Some}
use Rattle.std.specs.Prelude.{◌==◌}
use Rattle.fcp_model.specs.declared.term.Term.{Term}
use Rattle.fcp_model.specs.declared.source.Item.{Item}
use Rattle.fcp_model.specs.declared.source.Clause.{Clause}
use Rattle.fcp_model.specs.declared.source.Export.{Export}
use Rattle.fcp_model.specs.Spelling.{Bytes}
use Rattle.fcp_text.specs.SourceTerms.{terms_text, parted}
use Rattle.fcp_text.specs.SourceItems.{arguments_text, named_text, items_text}
use Rattle.fcp_text.specs.SourceClauses.{tail_text, clause_text, export_text, exports_line}

module _ (names : List Bytes) where
  pub arguments_some : (ts : List Term) → (length ts == 0) ≡ false → arguments_text names ts ≡ codes "(" ++ terms_text names ts ++ codes ")"
  arguments_some [] e = absurd (cc)
  arguments_some (t ∷ ts) e = refl

  pub body_some : (is : List Item) → (length is == 0) ≡ false → tail_text names [] is ≡ codes " :- " ++ items_text names is
  body_some [] e = absurd (cc)
  body_some (i ∷ is) e = refl

  pub guard_some : (gs body : List Item) → (length gs == 0) ≡ false
      → tail_text names gs body ≡ codes " :- " ++ (items_text names gs ++ (codes " | " ++ items_text names body))
  guard_some [] body e = absurd (cc)
  guard_some (g ∷ gs) body e = refl

  pub clause_parts : (c : Clause) (args : List Term) (guard body : List Item) → args ≡ c.args → guard ≡ c.guard → body ≡ c.body
      → clause_text names c ≡ named_text names c.head args ++ (tail_text names guard body ++ codes ".")
  clause_parts c args guard body p q r = rw (p, q, r) refl

  pub exports_parts : (exports : Option (List Export)) (xs ys : List Export) → exports ≡ Some xs → ys ≡ xs
      → exports_line names exports ≡ codes "-export([" ++ parted (codes ",") (map (export_text names) ys) ++ codes "]).\n"
  exports_parts exports xs ys p q = rw (p, q) refl
