-- The canonical texts of terms and of modules are cut into the tokens of their pieces.
use Rattle.std.proofs.Common.{◌≡◌, ℕ, List, [], refl, ap, ◌∙◌, sym, subst, append-nil, inl, inr}
use Rattle.std.specs.Prelude.{unwrap_or}
use Rattle.std.proofs.lemmas.Option.{slice_get_cases}
use Rattle.std.proofs.lemmas.List.Elements.{All-get_or}
use Rattle.fcp_model.specs.Spelling.{name_at}
use Rattle.fcp_text.specs.Bytes.{Text}
use Rattle.fcp_text.specs.SourceTerms.{term_text}
use Rattle.fcp_text.specs.SourceClauses.{module_text}
use Rattle.fcp_text.specs.Tokens.{tokens_of}
use Rattle.text_laws.specs.Spellings.{spellings_text, tokens_at}
use Rattle.text_laws.specs.Fitting.{IsOneLine}
use Rattle.text_laws.specs.TermSpellings.{Writing, term_spellings}
use Rattle.text_laws.specs.SourceSpellings.{module_spellings}
use Rattle.text_laws.specs.Writable.{AreWritableNames}
use Rattle.text_laws.specs.TextLaws.{TermsFit, ModulesFit, TermTextsAreCut, ModuleTextsAreCut, ModuleTextsAreRead}
use Rattle.text_laws.specs.Readings.{read_in}
use Rattle.text_laws.proofs.Reading.{written_is_read}
use Rattle.text_laws.proofs.Characters.{ascii-IsUtf8}
use Rattle.text_laws.proofs.Cutting.{spelled_texts}
use Rattle.text_laws.proofs.Joined.{Spells}
use Rattle.text_laws.proofs.SpelledTerms.{term-spells}
use Rattle.text_laws.proofs.SpelledModules.{module-spells}
use Rattle.text_laws.proofs.FittingTerms.{term-fits}
use Rattle.text_laws.proofs.FittingModules.{module-fits}

-- the empty string, which a number without a name has
none-line : IsOneLine []
none-line = (refl, ascii-IsUtf8 [] refl)

one-line : (names : List Text) → AreWritableNames names → (k : ℕ) → IsOneLine (name_at names k)
one-line names h k =
    elim (slice_get_cases names k).1 [
      | inl e ↦ subst (λ o. IsOneLine (unwrap_or o [])) (sym e.2) (subst IsOneLine e.3 (All-get_or IsOneLine names k e.0 e.1 h))
      | inr e ↦ subst (λ o. IsOneLine (unwrap_or o [])) (sym e.1) none-line
    ]

pub terms_fit : TermsFit
terms_fit names t h k = term-fits names (one-line names h) t k [] (tt, λ s. tt)

pub modules_fit : ModulesFit
modules_fit names m h = module-fits names (one-line names h.0) m h.1

-- the text of pieces, with nothing behind them
whole : (w : Writing) (z : Text) → Spells w z → spellings_text (w []) ≡ z
whole w z e = e [] ∙ append-nil z

pub term_texts_are_cut : TermTextsAreCut
term_texts_are_cut names t h k =
    ap tokens_of (sym (whole (term_spellings names t) (term_text names t) (term-spells names t)))
    ∙ spelled_texts (term_spellings names t []) (terms_fit names t h k)

pub module_texts_are_cut : ModuleTextsAreCut
module_texts_are_cut names m h =
    ap tokens_of (sym (whole (module_spellings names m) (module_text names m) (module-spells names m)))
    ∙ spelled_texts (module_spellings names m []) (modules_fit names m h)

pub module_texts_are_read : ModuleTextsAreRead
module_texts_are_read names m h =
    ap (λ z. read_in z (tokens_at 0 (module_spellings names m [])))
    (sym (whole (module_spellings names m) (module_text names m) (module-spells names m)))
    ∙ written_is_read (module_spellings names m []) (modules_fit names m h)
