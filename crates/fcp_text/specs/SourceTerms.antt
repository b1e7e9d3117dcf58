-- The text of a term of a source text. There are no spaces in it but those within strings.
use Rattle.std.specs.Prelude.{Bool, true, false, List, [], ◌∷◌, ◌++◌, map, Option, Some, None, if◌then◌else◌, codes, decimal}
use Rattle.std.specs.Fmt.{signed_decimal}
use Rattle.fcp_model.specs.declared.names.Sym.{Sym}
use Rattle.fcp_model.specs.declared.term.Term.{Term, fold-Term}
use Rattle.fcp_model.specs.declared.term.Term.TheOpen.{Term-F}
use Rattle.fcp_model.specs.Spelling.{Bytes, string_text, name_at}

-- texts that each have a mark before them
abbrev pub each_behind : Bytes → List Bytes → Bytes
each_behind mark [] = []
each_behind mark (text ∷ texts) = mark ++ (text ++ each_behind mark texts)

-- texts with a mark between them
abbrev pub parted : Bytes → List Bytes → Bytes
parted mark [] = []
parted mark (text ∷ texts) = text ++ each_behind mark texts

-- the texts of a term: where it stands alone, where it is the rest of a list, up to its `]`, and whether it is a string
pub record TermTexts : Type 0 where
  pub alone : Bytes
  pub as_rest : Bytes
  pub is_string : Bool

-- a term that is no list: as the rest of one it stands behind a bar
abbrev pub no_list : Bool → Bytes → TermTexts
no_list string text = record { alone = text; as_rest = codes "|" ++ text ++ codes "]"; is_string = string }

-- the texts of parts, with commas between them
abbrev pub parts_of : List TermTexts → Bytes
parts_of ts = parted (codes ",") (map (λ (t : TermTexts). t.alone) ts)

-- parts between braces
abbrev pub in_braces : List TermTexts → Bytes
in_braces ts = codes "{" ++ parts_of ts ++ codes "}"

-- a tuple is written `f(A,B)` where its first part is a string and more follow, and else `{A,B}`
abbrev pub tuple_of : List TermTexts → Bytes
tuple_of [] = in_braces []
tuple_of (t ∷ []) = in_braces (t ∷ [])
tuple_of (t ∷ u ∷ us) = if t.is_string then t.alone ++ (codes "(" ++ parts_of (u ∷ us) ++ codes ")") else in_braces (t ∷ u ∷ us)

module _ (names : List Bytes) where
  -- one level of a term, from the texts of its parts
  abbrev pub text_step : Term-F TermTexts → TermTexts
  text_step (Term-F.Int n) = no_list false (signed_decimal n)
  text_step (Term-F.Str s) = no_list true (string_text (name_at names s.0))
  text_step Term-F.Nil = record { alone = codes "[]"; as_rest = codes "]"; is_string = false }
  text_step (Term-F.Cons h t) =
      record { alone = codes "[" ++ h.alone ++ t.as_rest; as_rest = codes "," ++ h.alone ++ t.as_rest; is_string = false }
  text_step (Term-F.Tuple ts) = no_list false (tuple_of ts)
  text_step (Term-F.Var k) = no_list false (codes "V" ++ decimal k)
  text_step (Term-F.Ro k) = no_list false (codes "V" ++ decimal k ++ codes "?")

  abbrev pub term_texts : Term → TermTexts
  term_texts = fold-Term TermTexts text_step

  -- the text of a term
  unfoldable pub term_text : Term → Bytes
  term_text t = (term_texts t).alone

  -- the text of a list's rest, up to its `]`
  unfoldable pub rest_text : Term → Bytes
  rest_text t = (term_texts t).as_rest

  -- the texts of arguments, with commas between them
  abbrev pub terms_text : List Term → Bytes
  terms_text ts = parted (codes ",") (map term_text ts)

-- the string that a term is, if it is one; only private clauses cite it
abbrev pub string_step : Term-F (Option Sym) → Option Sym
string_step (Term-F.Int n) = None
string_step (Term-F.Str s) = Some s
string_step Term-F.Nil = None
string_step (Term-F.Cons h t) = None
string_step (Term-F.Tuple ts) = None
string_step (Term-F.Var k) = None
string_step (Term-F.Ro k) = None

-- the string that a term is
abbrev pub string_in : Term → Option Sym
string_in = fold-Term (Option Sym) string_step

-- the string that the first of some parts is, where more follow; only private clauses cite it
abbrev pub called_name : List Term → Option Sym
called_name [] = None
called_name (t ∷ []) = None
called_name (t ∷ u ∷ us) = string_in t
