-- The pieces of the text of a term.
use Rattle.std.specs.Prelude.{Bool, true, false, List, [], ◌∷◌, map, if◌then◌else◌}
use Rattle.fcp_model.specs.declared.term.Term.{Term, fold-Term}
use Rattle.fcp_model.specs.declared.term.Term.TheOpen.{Term-F}
use Rattle.fcp_model.specs.Spelling.{name_at}
use Rattle.fcp_text.specs.Bytes.{Text}
use Rattle.text_laws.specs.Spellings.{Spelling, string, number, variable, mark}
use Rattle.fcp_text.specs.Signs as signs

-- pieces, put before those that follow them
abbrev pub Writing : Type 0
Writing = List Spelling → List Spelling

-- each behind a separator
abbrev pub each_after : Writing → List Writing → Writing
each_after separator [] ps = ps
each_after separator (w ∷ ws) ps = separator (w (each_after separator ws ps))

-- with a separator between them
abbrev pub parted_by : Writing → List Writing → Writing
parted_by separator [] ps = ps
parted_by separator (w ∷ ws) ps = w (each_after separator ws ps)

-- a comma
abbrev pub comma : Writing
comma ps = mark signs.comma ∷ ps

-- a term where it stands alone, where it is the rest of a list, up to its `]`, and whether it is a string
pub record TermSpelling : Type 0 where
  pub alone : Writing
  pub as_rest : Writing
  pub is_string : Bool

-- a term that is no list: as the rest of one it stands behind a bar
abbrev pub spelled_no_list : Bool → Writing → TermSpelling
spelled_no_list c w = record { alone = w; as_rest = λ ps. mark signs.bar ∷ w (mark signs.square_close ∷ ps); is_string = c }

-- parts with commas between them
abbrev pub spelled_parts : List TermSpelling → Writing
spelled_parts ts = parted_by comma (map (λ (t : TermSpelling). t.alone) ts)

-- the same in braces
abbrev pub spelled_in_braces : List TermSpelling → Writing
spelled_in_braces ts ps = mark signs.curly_open ∷ spelled_parts ts (mark signs.curly_close ∷ ps)

-- a string with more parts behind it, which stand in parentheses
abbrev pub spelled_call : TermSpelling → List TermSpelling → Writing
spelled_call t ts ps = t.alone (mark signs.round_open ∷ spelled_parts ts (mark signs.round_close ∷ ps))

-- a tuple is written as a call where its first part is a string and more follow, and else in braces
abbrev pub spelled_tuple : List TermSpelling → Writing
spelled_tuple [] = spelled_in_braces []
spelled_tuple (t ∷ []) = spelled_in_braces (t ∷ [])
spelled_tuple (t ∷ u ∷ us) = if t.is_string then spelled_call t (u ∷ us) else spelled_in_braces (t ∷ u ∷ us)

module _ (names : List Text) where
  -- one level of a term, from its parts
  abbrev pub spelling_step : Term-F TermSpelling → TermSpelling
  spelling_step (Term-F.Int n) = spelled_no_list false (λ ps. number n ∷ ps)
  spelling_step (Term-F.Str s) = spelled_no_list true (λ ps. string (name_at names s.0) ∷ ps)
  spelling_step Term-F.Nil =
      record {
        alone = λ ps. mark signs.square_open ∷ mark signs.square_close ∷ ps;
        as_rest = λ ps. mark signs.square_close ∷ ps;
        is_string = false;
      }
  spelling_step (Term-F.Cons h t) =
      record {
        alone = λ ps. mark signs.square_open ∷ h.alone (t.as_rest ps);
        as_rest = λ ps. mark signs.comma ∷ h.alone (t.as_rest ps);
        is_string = false;
      }
  spelling_step (Term-F.Tuple ts) = spelled_no_list false (spelled_tuple ts)
  spelling_step (Term-F.Var k) = spelled_no_list false (λ ps. variable k ∷ ps)
  spelling_step (Term-F.Ro k) = spelled_no_list false (λ ps. variable k ∷ mark signs.question ∷ ps)

  -- a term, alone and as the rest of a list
  abbrev pub term_spelling : Term → TermSpelling
  term_spelling = fold-Term TermSpelling spelling_step

  -- a term, alone
  unfoldable pub term_spellings : Term → Writing
  term_spellings t = (term_spelling t).alone

  -- terms with commas between them
  abbrev pub terms_spellings : List Term → Writing
  terms_spellings ts = parted_by comma (map term_spellings ts)
