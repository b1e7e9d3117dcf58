-- What is true of texts and their tokens.
use Rattle.std.specs.Prelude.{◌≡◌, true, List, [], ◌++◌, Ok}
use Rattle.fcp_model.specs.declared.term.Term.{Term}
use Rattle.fcp_model.specs.declared.source.Module.{Module}
use Rattle.fcp_text.specs.Bytes.{Text}
use Rattle.fcp_text.specs.SourceTerms.{term_text}
use Rattle.fcp_text.specs.SourceClauses.{module_text}
use Rattle.fcp_text.specs.Tokens.{tokens_of}
use Rattle.text_laws.specs.Spellings.{Spelling, spellings_text, tokens_at}
use Rattle.text_laws.specs.Fitting.{Fits}
use Rattle.text_laws.specs.TermSpellings.{term_spellings}
use Rattle.text_laws.specs.SourceSpellings.{module_spellings}
use Rattle.text_laws.specs.Readings.{read_in, without_gaps}
use Rattle.text_laws.specs.Writable.{AreWritableNames, IsWritable, is_writable_term}

-- ---- pieces

-- the text of pieces that fit is cut into their tokens
abbrev pub SpelledTextsAreCut : Type 0
SpelledTextsAreCut = (ps : List Spelling) → Fits true ps → tokens_of (spellings_text ps) ≡ Ok (tokens_at 0 ps)

-- these tokens say what the pieces say, but for the gaps
abbrev pub WhatIsWrittenIsRead : Type 0
WhatIsWrittenIsRead = (ps : List Spelling) → Fits true ps → read_in (spellings_text ps) (tokens_at 0 ps) ≡ without_gaps ps

-- ---- the pieces of terms and of modules

-- their text is the canonical one, before more pieces
abbrev pub TermsAreSpelled : Type 0
TermsAreSpelled =
    (names : List Text) (t : Term) (ps : List Spelling)
    → spellings_text (term_spellings names t ps) ≡ term_text names t ++ spellings_text ps

-- the spellings of a module make its canonical text
abbrev pub ModulesAreSpelled : Type 0
ModulesAreSpelled =
    (names : List Text) (m : Module) (ps : List Spelling)
    → spellings_text (module_spellings names m ps) ≡ module_text names m ++ spellings_text ps

-- they fit, where the term or the module is writable
abbrev pub TermsFit : Type 0
TermsFit = (names : List Text) (t : Term) → AreWritableNames names → is_writable_term t ≡ true → Fits true (term_spellings names t [])

-- the spellings of a writable module may stand behind one another
abbrev pub ModulesFit : Type 0
ModulesFit = (names : List Text) (m : Module) → IsWritable names m → Fits true (module_spellings names m [])

-- ---- canonical texts

-- the canonical text of a writable term or module is cut into the tokens of its pieces
abbrev pub TermTextsAreCut : Type 0
TermTextsAreCut =
    (names : List Text) (t : Term) → AreWritableNames names → is_writable_term t ≡ true
    → tokens_of (term_text names t) ≡ Ok (tokens_at 0 (term_spellings names t []))

-- the canonical text of a writable module is cut into the tokens that were written
abbrev pub ModuleTextsAreCut : Type 0
ModuleTextsAreCut =
    (names : List Text) (m : Module) → IsWritable names m → tokens_of (module_text names m) ≡ Ok (tokens_at 0 (module_spellings names m []))

-- these tokens of a module's text say what its pieces say, but for the gaps
abbrev pub ModuleTextsAreRead : Type 0
ModuleTextsAreRead =
    (names : List Text) (m : Module) → IsWritable names m
    → read_in (module_text names m) (tokens_at 0 (module_spellings names m [])) ≡ without_gaps (module_spellings names m [])
