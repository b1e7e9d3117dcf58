-- What words say at the addresses that were read.
use Rattle.std.proofs.Common.{◌≡◌, ℕ, ◌≤◌, Option, sym, ap, ◌∙◌}
use Rattle.heap_words.specs.Cells.{decoded}
use Rattle.heap_words.specs.WordsLaws.{WordsLaws}
use Rattle.heap_words.specs.Trails.{WordList, Says, KeepsLoads}
use Rattle.word_states.specs.Words.{Words}
use Rattle.unify_terms.specs.WordsOfTries.{memory_of}
use Rattle.entry_lines.specs.Lines.{HasKept}
use Rattle.entry_lines.proofs.Agreeing.{in_memory, agrees_with}
use Rattle.process_texts.specs.Reading.{WordRead, CellRead}

pub cell_read : (kept : WordList) (a x : ℕ) → WordRead kept a x → CellRead kept a (decoded x)
cell_read kept a x h w y has e = ap decoded (h w y has e)

module _ {S : Type 0} {addresses : S → ℕ} {sound : S → Type 0} {knows : S → ℕ → Type 0} {had : S → ℕ → ℕ → Type 0} {leads : S → ℕ → Type 0}
    {own shown : S → ℕ → Option ℕ} {later : S → S → Type 0} {gave : S → S → ℕ → ℕ → Type 0}
    (laws : WordsLaws {S = S} addresses sound knows had leads own shown later gave) where
  pub word_read : {kept : WordList} {w : S} (a x : ℕ) → sound w → addresses w ≤ 4000000000 → Says (own w) kept (λ m. m a ≡ x)
      → WordRead kept a x
  word_read a x s few says u y has e = sym (in_memory u a y e) ∙ says (memory_of u) (agrees_with laws u s few has)

-- words that have what was kept later have what was kept before
pub had_before : {S : Type 0} {sound : S → Type 0} {had : S → ℕ → ℕ → Type 0} {leads : S → ℕ → Type 0} {later : S → S → Type 0}
    {gave : S → S → ℕ → ℕ → Type 0} {kept binds kept' binds' : WordList} {v w : S} (u : Words)
    → KeepsLoads sound had leads later gave kept binds v kept' binds' w → HasKept kept' u → HasKept kept u
had_before u l has a x e = has a x (l.went.grows a x e)
