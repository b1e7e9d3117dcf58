-- What is written for each kind of term, and which variables it has.
use Rattle.std.proofs.Common.{◌≡◌, ℕ, Bool, true, false, ◌⊎◌, inl, inr, ◌&&◌, List, [], ◌∷◌, ◌++◌, map, refl, ap, ◌∙◌, sym, subst, if◌then◌else◌, ℤ}
use Rattle.std.specs.List.{list_all, flat_map}
use Rattle.fcp_model.specs.declared.names.Sym.{Sym}
use Rattle.fcp_model.specs.declared.term.Term.{Term, Int, Str, Nil, Cons, Tuple, Var, Ro}
use Rattle.fcp_model.specs.Spelling.{name_at}
use Rattle.fcp_model.proofs.Folds.{fold-Int, fold-Str, fold-Nil, fold-Cons, fold-Tuple, fold-Var, fold-Ro, term_induction}
use Rattle.fcp_text.specs.Bytes.{Text}
use Rattle.text_laws.specs.Spellings.{string, number, variable, mark}
use Rattle.text_laws.specs.TermSpellings.{Writing, TermSpelling, comma, parted_by, spelled_parts, spelled_in_braces, spelled_call, spelled_tuple, spelling_step, term_spelling, term_spellings, terms_spellings}
use Rattle.reading_laws.specs.Variables.{variables_step, term_variables, terms_variables}
use Rattle.reading_laws.specs.Readable.{Size, parts_fit, size_step, size_of, is_small_term, are_small_terms}
use Rattle.reading_laws.proofs.TreePieces.{and-true}
use Rattle.fcp_text.specs.Signs as signs

-- ---- variables

pub variables-int : (n : ℤ) → term_variables (Int n) ≡ []
unfolding term_variables
variables-int n = fold-Int (List ℕ) variables_step n

pub variables-str : (s : Sym) → term_variables (Str s) ≡ []
unfolding term_variables
variables-str s = fold-Str (List ℕ) variables_step s

pub variables-nil : term_variables Nil ≡ []
unfolding term_variables
variables-nil = fold-Nil (List ℕ) variables_step

pub variables-cons : (h t : Term) → term_variables (Cons h t) ≡ term_variables h ++ term_variables t
unfolding term_variables
variables-cons h t = fold-Cons (List ℕ) variables_step h t

flat-map : (ts : List Term) → flat_map (λ t. t) (map term_variables ts) ≡ terms_variables ts
flat-map [] = refl
flat-map (t ∷ ts) = ap (λ l. term_variables t ++ l) (flat-map ts)

pub variables-tuple : (ts : List Term) → term_variables (Tuple ts) ≡ terms_variables ts
unfolding term_variables
variables-tuple ts = fold-Tuple (List ℕ) variables_step ts ∙ flat-map ts

pub variables-var : (k : ℕ) → term_variables (Var k) ≡ k ∷ []
unfolding term_variables
variables-var k = fold-Var (List ℕ) variables_step k

pub variables-ro : (k : ℕ) → term_variables (Ro k) ≡ k ∷ []
unfolding term_variables
variables-ro k = fold-Ro (List ℕ) variables_step k

-- ---- sizes

pub small-cons : (h t : Term) → is_small_term (Cons h t) ≡ true → (is_small_term h ≡ true) × (is_small_term t ≡ true)
unfolding is_small_term
small-cons h t e = and-true (size_of h).small (size_of t).small (ap (λ (s : Size). s.small) (sym (fold-Cons Size size_step h t)) ∙ e)

each-small : (ts : List Term) → list_all (λ (t : Size). t.small) (map size_of ts) ≡ are_small_terms ts
unfolding is_small_term
each-small [] = refl
each-small (t ∷ ts) = ap (λ b. is_small_term t && b) (each-small ts)

pub small-tuple : (ts : List Term) → is_small_term (Tuple ts) ≡ true → (parts_fit (map size_of ts) ≡ true) × (are_small_terms ts ≡ true)
unfolding is_small_term
small-tuple ts e =
    let both =
    and-true (parts_fit (map size_of ts)) (list_all (λ (t : Size). t.small) (map size_of ts))
    (ap (λ (s : Size). s.small) (sym (fold-Tuple Size size_step ts)) ∙ e) in
    (both.0, sym (each-small ts) ∙ both.1)

pub small-first : (t : Term) (ts : List Term) → are_small_terms (t ∷ ts) ≡ true → is_small_term t ≡ true
small-first t ts e = (and-true (is_small_term t) (are_small_terms ts) e).0

pub small-others : (t : Term) (ts : List Term) → are_small_terms (t ∷ ts) ≡ true → are_small_terms ts ≡ true
small-others t ts e = (and-true (is_small_term t) (are_small_terms ts) e).1

-- ---- pieces

module _ (names : List Text) where
  -- a term is a string, or it is none in each respect
  abbrev pub StringOrNone : Term → Type 0
  StringOrNone t = ((s : Sym) × (t ≡ Str s)) ⊎ (((term_spelling names t).is_string ≡ false) × ((size_of t).is_string ≡ false))

  none-by : (t : Term) (a : TermSpelling) (b : Size) → term_spelling names t ≡ a → size_of t ≡ b → a.is_string ≡ false → b.is_string ≡ false
      → StringOrNone t
  none-by t a b e f g h = inr (ap (λ (x : TermSpelling). x.is_string) e ∙ g, ap (λ (x : Size). x.is_string) f ∙ h)

  pub string-or-none : (t : Term) → StringOrNone t
  string-or-none =
      term_induction StringOrNone
      (λ n. none-by (Int n) _ _ (fold-Int TermSpelling (spelling_step names) n) (fold-Int Size size_step n) refl refl)
      (λ s. inl (s, refl))
      (none-by Nil _ _ (fold-Nil TermSpelling (spelling_step names)) (fold-Nil Size size_step) refl refl)
      (λ h t x y. none-by (Cons h t) _ _ (fold-Cons TermSpelling (spelling_step names) h t) (fold-Cons Size size_step h t) refl refl)
      (λ ts x. none-by (Tuple ts) _ _ (fold-Tuple TermSpelling (spelling_step names) ts) (fold-Tuple Size size_step ts) refl refl)
      (λ k. none-by (Var k) _ _ (fold-Var TermSpelling (spelling_step names) k) (fold-Var Size size_step k) refl refl)
      (λ k. none-by (Ro k) _ _ (fold-Ro TermSpelling (spelling_step names) k) (fold-Ro Size size_step k) refl refl)

  -- a term as the rest of a list
  abbrev pub rest_spellings : Term → Writing
  rest_spellings t = (term_spelling names t).as_rest

  -- how a term is written, alone and as a rest
  pub record Written (t : Term) (w v : Writing) : Type 0 where
    pub alone : term_spellings names t ≡ w
    pub as_rest : rest_spellings t ≡ v

  written-by : (t : Term) (a : TermSpelling) → term_spelling names t ≡ a → Written t a.alone a.as_rest
  unfolding term_spellings
  written-by t a e = record { alone = ap (λ (x : TermSpelling). x.alone) e; as_rest = ap (λ (x : TermSpelling). x.as_rest) e }

  -- the pieces of one that is no list
  abbrev pub behind_bar : Writing → Writing
  behind_bar w ps = mark signs.bar ∷ w (mark signs.square_close ∷ ps)

  pub written-int : (n : ℤ) → Written (Int n) (λ ps. number n ∷ ps) (behind_bar (λ ps. number n ∷ ps))
  written-int n = written-by (Int n) _ (fold-Int TermSpelling (spelling_step names) n)

  pub written-str : (s : Sym) → Written (Str s) (λ ps. string (name_at names s.0) ∷ ps) (behind_bar (λ ps. string (name_at names s.0) ∷ ps))
  written-str s = written-by (Str s) _ (fold-Str TermSpelling (spelling_step names) s)

  pub written-nil : Written Nil (λ ps. mark signs.square_open ∷ mark signs.square_close ∷ ps) (λ ps. mark signs.square_close ∷ ps)
  written-nil = written-by Nil _ (fold-Nil TermSpelling (spelling_step names))

  pub written-var : (k : ℕ) → Written (Var k) (λ ps. variable k ∷ ps) (behind_bar (λ ps. variable k ∷ ps))
  written-var k = written-by (Var k) _ (fold-Var TermSpelling (spelling_step names) k)

  pub written-ro : (k : ℕ) → Written (Ro k) (λ ps. variable k ∷ mark signs.question ∷ ps)
      (behind_bar (λ ps. variable k ∷ mark signs.question ∷ ps))
  written-ro k = written-by (Ro k) _ (fold-Ro TermSpelling (spelling_step names) k)

  pub written-cons : (h t : Term)
      → Written (Cons h t) (λ ps. mark signs.square_open ∷ term_spellings names h (rest_spellings t ps))
      (λ ps. mark signs.comma ∷ term_spellings names h (rest_spellings t ps))
  unfolding term_spellings
  written-cons h t = written-by (Cons h t) _ (fold-Cons TermSpelling (spelling_step names) h t)

  map-alone : (ts : List Term) → map (λ (t : TermSpelling). t.alone) (map (term_spelling names) ts) ≡ map (term_spellings names) ts
  unfolding term_spellings
  map-alone [] = refl
  map-alone (t ∷ ts) = ap (λ l. (term_spelling names t).alone ∷ l) (map-alone ts)

  -- parts in braces
  abbrev pub braced : List Term → Writing
  braced ts ps = mark signs.curly_open ∷ terms_spellings names ts (mark signs.curly_close ∷ ps)

  -- a string and parts in parentheses
  abbrev pub called : Sym → List Term → Writing
  called s ts ps = string (name_at names s.0) ∷ mark signs.round_open ∷ terms_spellings names ts (mark signs.round_close ∷ ps)

  in-braces : (ts : List Term) → spelled_in_braces (map (term_spelling names) ts) ≡ braced ts
  in-braces ts = ap (λ l ps. mark signs.curly_open ∷ parted_by comma l (mark signs.curly_close ∷ ps)) (map-alone ts)

  written-tuple : (ts : List Term)
      → Written (Tuple ts) (spelled_tuple (map (term_spelling names) ts)) (behind_bar (spelled_tuple (map (term_spelling names) ts)))
  written-tuple ts = written-by (Tuple ts) _ (fold-Tuple TermSpelling (spelling_step names) ts)

  tuple-by : (ts : List Term) (w : Writing) → spelled_tuple (map (term_spelling names) ts) ≡ w → Written (Tuple ts) w (behind_bar w)
  tuple-by ts w e = subst (λ v. Written (Tuple ts) v (behind_bar v)) e (written-tuple ts)

  pub written-one : (t : Term) → Written (Tuple (t ∷ [])) (braced (t ∷ [])) (behind_bar (braced (t ∷ [])))
  written-one t = tuple-by (t ∷ []) (braced (t ∷ [])) (in-braces (t ∷ []))

  pub written-braces : (t u : Term) (us : List Term) → (term_spelling names t).is_string ≡ false
      → Written (Tuple (t ∷ u ∷ us)) (braced (t ∷ u ∷ us)) (behind_bar (braced (t ∷ u ∷ us)))
  written-braces t u us e =
      let a : TermSpelling = term_spelling names t in
      let xs : List TermSpelling = map (term_spelling names) (u ∷ us) in
      tuple-by (t ∷ u ∷ us) (braced (t ∷ u ∷ us))
      (ap (λ (b : Bool). if b then spelled_call a xs else spelled_in_braces (a ∷ xs)) e ∙ in-braces (t ∷ u ∷ us))

  string-call : (s : Sym) (x : TermSpelling) (xs : List TermSpelling)
      → spelled_tuple (term_spelling names (Str s) ∷ x ∷ xs)
      ≡ (λ ps. string (name_at names s.0) ∷ mark signs.round_open ∷ spelled_parts (x ∷ xs) (mark signs.round_close ∷ ps))
  string-call s x xs = ap (λ (a : TermSpelling). spelled_tuple (a ∷ x ∷ xs)) (fold-Str TermSpelling (spelling_step names) s)

  pub written-call : (s : Sym) (u : Term) (us : List Term)
      → Written (Tuple (Str s ∷ u ∷ us)) (called s (u ∷ us)) (behind_bar (called s (u ∷ us)))
  written-call s u us =
      tuple-by (Str s ∷ u ∷ us) (called s (u ∷ us))
      (string-call s (term_spelling names u) (map (term_spelling names) us)
      ∙ ap (λ l ps. string (name_at names s.0) ∷ mark signs.round_open ∷ parted_by comma l (mark signs.round_close ∷ ps))
      (map-alone (u ∷ us)))
