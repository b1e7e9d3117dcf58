-- The pieces of a term fit.
use Rattle.std.proofs.Common.{◌≡◌, ℕ, ◌<◌, ◌^◌, Bool, true, false, List, [], ◌∷◌, map, refl, ◌∙◌, sym, subst, arith}
use Rattle.std.specs.Prelude.{if◌then◌else◌, ◌&&◌, nat_lt, ℤ, pos, negsuc}
use Rattle.std.specs.List.{list_all}
use Rattle.std.proofs.lemmas.Bool.Decides.{nat_tests}
use Rattle.fcp_model.specs.declared.names.Sym.{Sym}
use Rattle.fcp_model.specs.declared.term.Term.{Term, Int, Str, Nil, Cons, Tuple, Var, Ro}
use Rattle.fcp_model.specs.Spelling.{name_at}
use Rattle.fcp_model.proofs.Folds.{fold-Int, fold-Str, fold-Nil, fold-Cons, fold-Tuple, fold-Var, fold-Ro, Each, term_induction}
use Rattle.fcp_text.specs.Bytes.{Text}
use Rattle.fcp_text.proofs.Choices.{and-first, and-second}
use Rattle.text_laws.specs.Spellings.{Spelling, string, number, variable, mark}
use Rattle.text_laws.specs.Fitting.{Fits, StandsThere, IsOneLine, sign_behind}
use Rattle.text_laws.specs.TermSpellings.{Writing, TermSpelling, comma, spelled_no_list, spelled_parts, spelled_in_braces, spelled_call, spelled_tuple, spelling_step, term_spelling, term_spellings, terms_spellings}
use Rattle.text_laws.specs.Writable.{is_int, is_number, writable_step, is_writable_term}
use Rattle.text_laws.proofs.Fitted.{Behind, Starts, Follows, closes, opens, EachStarts, parted-starts, comma-parts}
use Rattle.fcp_text.specs.Signs as signs

-- the pieces of a term fit, alone and as the rest of a list
pub record FitsTerm (a : TermSpelling) : Type 0 where
  pub alone : Starts a.alone
  pub as_rest : Follows a.as_rest

no_list-fits : (c : Bool) (w : Writing) → Starts w → FitsTerm (spelled_no_list c w)
no_list-fits c w h = record {
  alone = h;
  as_rest =
      λ ps b. opens signs.bar refl refl refl (w (mark signs.square_close ∷ ps))
      (h (mark signs.square_close ∷ ps) (closes signs.square_close refl refl ps b));
}

abbrev AllFit : List TermSpelling → Type 0
AllFit [] = Unit {0}
AllFit (a ∷ xs) = FitsTerm a × AllFit xs

alone-fit : (xs : List TermSpelling) → AllFit xs → EachStarts (map (λ (t : TermSpelling). t.alone) xs)
alone-fit [] h = tt
alone-fit (a ∷ xs) h = (h.0.alone, alone-fit xs h.1)

parts-fit : (xs : List TermSpelling) → AllFit xs → Starts (spelled_parts xs)
parts-fit xs h = parted-starts comma (map (λ (t : TermSpelling). t.alone) xs) comma-parts (alone-fit xs h)

braces-fit : (xs : List TermSpelling) → AllFit xs → Starts (spelled_in_braces xs)
braces-fit xs h ps b =
    (opens signs.curly_open refl refl refl (spelled_parts xs (mark signs.curly_close ∷ ps))
    (parts-fit xs h (mark signs.curly_close ∷ ps) (closes signs.curly_close refl refl ps b))).1 true

call-fits : (a : TermSpelling) (xs : List TermSpelling) → FitsTerm a → AllFit xs → Starts (spelled_call a xs)
call-fits a xs e h ps b =
    e.alone (mark signs.round_open ∷ spelled_parts xs (mark signs.round_close ∷ ps))
    (opens signs.round_open refl refl refl (spelled_parts xs (mark signs.round_close ∷ ps))
    (parts-fit xs h (mark signs.round_close ∷ ps) (closes signs.round_close refl refl ps b)))

choice-fits : (c : Bool) (w v : Writing) → Starts w → Starts v → Starts (if c then w else v)
choice-fits true w v e f = e
choice-fits false w v e f = f

tuple-fits : (xs : List TermSpelling) → AllFit xs → Starts (spelled_tuple xs)
tuple-fits [] h = braces-fit [] h
tuple-fits (a ∷ []) h = braces-fit (a ∷ []) h
tuple-fits (a ∷ d ∷ xs) h =
    choice-fits a.is_string (spelled_call a (d ∷ xs)) (spelled_in_braces (a ∷ d ∷ xs)) (call-fits a (d ∷ xs) h.0 h.1)
    (braces-fit (a ∷ d ∷ xs) h)

below : (n k : ℕ) → nat_lt n k ≡ true → n < k
below n k h = grind (arith, nat_tests)

pub int-stands : (i : ℤ) → is_int i ≡ true → StandsThere true i
int-stands (pos n) h = below n 9223372036854775808 h
int-stands (negsuc n) h = (refl, below n 9223372036854775808 h)

-- a string without line feeds fits anywhere
pub string-fits : (s : Bool) (bs : Text) (ps : List Spelling) → IsOneLine bs → Behind ps → Fits s (string bs ∷ ps)
string-fits s bs ps l b = (l, b.0, b.1 (sign_behind bs))

module _ (names : List Text) (lines : (k : ℕ) → IsOneLine (name_at names k)) where
  -- a term that is writable fits
  abbrev At : Term → Type 0
  At t = is_writable_term t ≡ true → FitsTerm (term_spelling names t)

  by-step : (t : Term) (a : TermSpelling) → term_spelling names t ≡ a → FitsTerm a → FitsTerm (term_spelling names t)
  by-step t a e h = subst FitsTerm (sym e) h

  at-int : (n : ℤ) → At (Int n)
  unfolding is_writable_term
  at-int n h =
      let g : is_int n ≡ true = sym (fold-Int Bool writable_step n) ∙ h in
      by-step (Int n) _ (fold-Int TermSpelling (spelling_step names) n)
      (no_list-fits false (λ ps. number n ∷ ps) (λ ps b. (int-stands n g, b.0, b.1 false)))

  at-str : (s : Sym) → At (Str s)
  at-str s h =
      by-step (Str s) _ (fold-Str TermSpelling (spelling_step names) s)
      (no_list-fits true (λ ps. string (name_at names s.0) ∷ ps) (λ ps b. string-fits true (name_at names s.0) ps (lines s.0) b))

  at-nil : At Nil
  at-nil h =
      by-step Nil _ (fold-Nil TermSpelling (spelling_step names))
      (record {
        alone =
            λ ps b. (opens signs.square_open refl refl refl (mark signs.square_close ∷ ps)
            ((closes signs.square_close refl refl ps b).1 true)).1 true;
        as_rest = closes signs.square_close refl refl;
      })

  at-cons : (h t : Term) → At h → At t → At (Cons h t)
  unfolding is_writable_term
  at-cons h t e f k =
      let g : (is_writable_term h && is_writable_term t) ≡ true = sym (fold-Cons Bool writable_step h t) ∙ k in
      let x : TermSpelling = term_spelling names h in
      let y : TermSpelling = term_spelling names t in
      let i : FitsTerm x = e (and-first (is_writable_term h) (is_writable_term t) g) in
      let j : FitsTerm y = f (and-second (is_writable_term h) (is_writable_term t) g) in
      by-step (Cons h t) _ (fold-Cons TermSpelling (spelling_step names) h t)
      (record {
        alone = λ ps b. (opens signs.square_open refl refl refl (x.alone (y.as_rest ps)) (i.alone (y.as_rest ps) (j.as_rest ps b))).1 true;
        as_rest = λ ps b. opens signs.comma refl refl refl (x.alone (y.as_rest ps)) (i.alone (y.as_rest ps) (j.as_rest ps b));
      })

  at-each : (ts : List Term) → Each At ts → list_all (λ t. t) (map is_writable_term ts) ≡ true → AllFit (map (term_spelling names) ts)
  at-each [] e h = tt
  at-each (t ∷ ts) e h = (e.0 (and-first (is_writable_term t) _ h), at-each ts e.1 (and-second (is_writable_term t) _ h))

  at-tuple : (ts : List Term) → Each At ts → At (Tuple ts)
  unfolding is_writable_term
  at-tuple ts e h =
      let g : list_all (λ t. t) (map is_writable_term ts) ≡ true = sym (fold-Tuple Bool writable_step ts) ∙ h in
      by-step (Tuple ts) _ (fold-Tuple TermSpelling (spelling_step names) ts)
      (no_list-fits false (spelled_tuple (map (term_spelling names) ts)) (tuple-fits (map (term_spelling names) ts) (at-each ts e g)))

  at-var : (k : ℕ) → At (Var k)
  unfolding is_writable_term
  at-var k h =
      let g : is_number k ≡ true = sym (fold-Var Bool writable_step k) ∙ h in
      by-step (Var k) _ (fold-Var TermSpelling (spelling_step names) k)
      (no_list-fits false (λ ps. variable k ∷ ps) (λ ps b. (below k (2 ^ 64) g, b.0, b.1 false)))

  at-ro : (k : ℕ) → At (Ro k)
  unfolding is_writable_term
  at-ro k h =
      let g : is_number k ≡ true = sym (fold-Ro Bool writable_step k) ∙ h in
      by-step (Ro k) _ (fold-Ro TermSpelling (spelling_step names) k)
      (no_list-fits false (λ ps. variable k ∷ mark signs.question ∷ ps)
      (λ ps b. let c : Behind (mark signs.question ∷ ps) = closes signs.question refl refl ps b in
      (below k (2 ^ 64) g, c.0, c.1 false)))

  at-term : (t : Term) → At t
  at-term = term_induction At at-int at-str at-nil at-cons at-tuple at-var at-ro

  -- a term fits where a sign may stand
  pub term-fits : (t : Term) → is_writable_term t ≡ true → Starts (term_spellings names t)
  unfolding term_spellings
  term-fits t h = (at-term t h).alone

  each-term : (ts : List Term) → list_all is_writable_term ts ≡ true → EachStarts (map (term_spellings names) ts)
  each-term [] h = tt
  each-term (t ∷ ts) h = (term-fits t (and-first (is_writable_term t) _ h), each-term ts (and-second (is_writable_term t) _ h))

  -- so do arguments
  pub terms-fit : (ts : List Term) → list_all is_writable_term ts ≡ true → Starts (terms_spellings names ts)
  terms-fit ts h = parted-starts comma (map (term_spellings names) ts) comma-parts (each-term ts h)
