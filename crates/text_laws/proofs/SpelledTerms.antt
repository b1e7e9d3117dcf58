-- The text of a term is that of its pieces.
use Rattle.std.proofs.Common.{◌≡◌, ℕ, Bool, true, false, List, [], ◌∷◌, ◌++◌, map, refl, sym, subst}
use Rattle.std.specs.Prelude.{codes, decimal, if◌then◌else◌, ℤ}
use Rattle.std.specs.Fmt.{signed_decimal}
use Rattle.fcp_model.specs.declared.names.Sym.{Sym}
use Rattle.fcp_model.specs.declared.term.Term.{Term, Int, Str, Nil, Cons, Tuple, Var, Ro}
use Rattle.fcp_model.specs.Spelling.{string_text, name_at}
use Rattle.fcp_model.proofs.Folds.{fold-Int, fold-Str, fold-Nil, fold-Cons, fold-Tuple, fold-Var, fold-Ro, Each, term_induction}
use Rattle.fcp_text.specs.Bytes.{Text}
use Rattle.fcp_text.specs.SourceTerms.{TermTexts, no_list, parts_of, in_braces, tuple_of, text_step, term_texts, term_text, terms_text}
use Rattle.text_laws.specs.Spellings.{string, number, variable, mark}
use Rattle.text_laws.specs.TermSpellings.{Writing, TermSpelling, comma, spelled_no_list, spelled_parts, spelled_in_braces, spelled_call, spelled_tuple, spelling_step, term_spelling, term_spellings, terms_spellings}
use Rattle.text_laws.proofs.Joined.{Spells, joined, EachSpells, parted-then}
use Rattle.fcp_text.specs.Signs as signs

-- the pieces and the texts of a term say the same
pub record Agree (a : TermSpelling) (b : TermTexts) : Type 0 where
  pub alone : Spells a.alone b.alone
  pub as_rest : Spells a.as_rest b.as_rest
  pub is_string : a.is_string ≡ b.is_string

no_list-agrees : (c : Bool) (w : Writing) (z : Text) → Spells w z → Agree (spelled_no_list c w) (no_list c z)
no_list-agrees c w z e = record {
  alone = e;
  as_rest =
      joined (λ ps. mark signs.bar ∷ ps) (λ ps. w (mark signs.square_close ∷ ps)) (codes "|") (z ++ codes "]") (λ ps. refl)
      (joined w (λ ps. mark signs.square_close ∷ ps) z (codes "]") e (λ ps. refl));
  is_string = refl;
}

-- all of them do
abbrev AllAgree : List TermSpelling → List TermTexts → Type 0
AllAgree [] [] = Unit {0}
AllAgree [] (b ∷ bs) = ⊥
AllAgree (a ∷ xs) [] = ⊥
AllAgree (a ∷ xs) (b ∷ bs) = Agree a b × AllAgree xs bs

alone-agree : (xs : List TermSpelling) (bs : List TermTexts) → AllAgree xs bs
    → EachSpells (map (λ (t : TermSpelling). t.alone) xs) (map (λ (t : TermTexts). t.alone) bs)
alone-agree [] [] h = tt
alone-agree [] (b ∷ bs) h = absurd h
alone-agree (a ∷ xs) [] h = absurd h
alone-agree (a ∷ xs) (b ∷ bs) h = (h.0.alone, alone-agree xs bs h.1)

parts-agree : (xs : List TermSpelling) (bs : List TermTexts) → AllAgree xs bs → Spells (spelled_parts xs) (parts_of bs)
parts-agree xs bs h =
    parted-then comma (codes ",") (map (λ (t : TermSpelling). t.alone) xs) (map (λ (t : TermTexts). t.alone) bs) (λ ps. refl)
    (alone-agree xs bs h)

-- a text between two marks
between : (w : Writing) (z : Text) (m n : ℕ) (x y : Text) → Spells (λ ps. mark m ∷ ps) x → Spells (λ ps. mark n ∷ ps) y → Spells w z
    → Spells (λ ps. mark m ∷ w (mark n ∷ ps)) (x ++ (z ++ y))
between w z m n x y e f g = joined (λ ps. mark m ∷ ps) (λ ps. w (mark n ∷ ps)) x (z ++ y) e (joined w (λ ps. mark n ∷ ps) z y g f)

braces-agree : (xs : List TermSpelling) (bs : List TermTexts) → AllAgree xs bs → Spells (spelled_in_braces xs) (in_braces bs)
braces-agree xs bs h =
    between (spelled_parts xs) (parts_of bs) signs.curly_open signs.curly_close (codes "{") (codes "}") (λ ps. refl) (λ ps. refl)
    (parts-agree xs bs h)

call-agrees : (a : TermSpelling) (b : TermTexts) (xs : List TermSpelling) (bs : List TermTexts) → Agree a b → AllAgree xs bs
    → Spells (spelled_call a xs) (b.alone ++ (codes "(" ++ parts_of bs ++ codes ")"))
call-agrees a b xs bs e h =
    joined a.alone (λ ps. mark signs.round_open ∷ spelled_parts xs (mark signs.round_close ∷ ps)) b.alone
    (codes "(" ++ parts_of bs ++ codes ")") e.alone
    (between (spelled_parts xs) (parts_of bs) signs.round_open signs.round_close (codes "(") (codes ")") (λ ps. refl) (λ ps. refl)
    (parts-agree xs bs h))

choice-agrees : (c d : Bool) (w v : Writing) (x y : Text) → c ≡ d → Spells w x → Spells v y
    → Spells (if c then w else v) (if d then x else y)
choice-agrees true true w v x y h e f = e
choice-agrees true false w v x y h e f = absurd (cc)
choice-agrees false true w v x y h e f = absurd (cc)
choice-agrees false false w v x y h e f = f

tuple-agrees : (xs : List TermSpelling) (bs : List TermTexts) → AllAgree xs bs → Spells (spelled_tuple xs) (tuple_of bs)
tuple-agrees [] [] h = braces-agree [] [] h
tuple-agrees [] (b ∷ bs) h = absurd h
tuple-agrees (a ∷ xs) [] h = absurd h
tuple-agrees (a ∷ []) (b ∷ []) h = braces-agree (a ∷ []) (b ∷ []) h
tuple-agrees (a ∷ []) (b ∷ c ∷ bs) h = absurd h.1
tuple-agrees (a ∷ d ∷ xs) (b ∷ []) h = absurd h.1
tuple-agrees (a ∷ d ∷ xs) (b ∷ c ∷ bs) h =
    choice-agrees a.is_string b.is_string (spelled_call a (d ∷ xs)) (spelled_in_braces (a ∷ d ∷ xs))
    (b.alone ++ (codes "(" ++ parts_of (c ∷ bs) ++ codes ")")) (in_braces (b ∷ c ∷ bs))
    h.0.is_string (call-agrees a b (d ∷ xs) (c ∷ bs) h.0 h.1) (braces-agree (a ∷ d ∷ xs) (b ∷ c ∷ bs) h)

module _ (names : List Text) where
  -- the two folds agree at a term
  abbrev At : Term → Type 0
  At t = Agree (term_spelling names t) (term_texts names t)

  by-step : (t : Term) (a : TermSpelling) (b : TermTexts) → term_spelling names t ≡ a → term_texts names t ≡ b → Agree a b → At t
  by-step t a b e f h = subst (λ x. Agree x (term_texts names t)) (sym e) (subst (λ y. Agree a y) (sym f) h)

  at-each : (ts : List Term) → Each At ts → AllAgree (map (term_spelling names) ts) (map (term_texts names) ts)
  at-each [] h = tt
  at-each (t ∷ ts) h = (h.0, at-each ts h.1)

  at-int : (n : ℤ) → At (Int n)
  at-int n =
      by-step (Int n) _ _ (fold-Int TermSpelling (spelling_step names) n) (fold-Int TermTexts (text_step names) n)
      (no_list-agrees false (λ ps. number n ∷ ps) (signed_decimal n) (λ ps. refl))

  at-str : (s : Sym) → At (Str s)
  at-str s =
      by-step (Str s) _ _ (fold-Str TermSpelling (spelling_step names) s) (fold-Str TermTexts (text_step names) s)
      (no_list-agrees true (λ ps. string (name_at names s.0) ∷ ps) (string_text (name_at names s.0)) (λ ps. refl))

  at-nil : At Nil
  at-nil =
      by-step Nil _ _ (fold-Nil TermSpelling (spelling_step names)) (fold-Nil TermTexts (text_step names))
      (record { alone = λ ps. refl; as_rest = λ ps. refl; is_string = refl })

  at-cons : (h t : Term) → At h → At t → At (Cons h t)
  at-cons h t e f =
      let x : TermSpelling = term_spelling names h in
      let y : TermSpelling = term_spelling names t in
      let u : TermTexts = term_texts names h in
      let v : TermTexts = term_texts names t in
      let r : Spells (λ ps. x.alone (y.as_rest ps)) (u.alone ++ v.as_rest) = joined x.alone y.as_rest u.alone v.as_rest e.alone f.as_rest in
      by-step (Cons h t) _ _ (fold-Cons TermSpelling (spelling_step names) h t) (fold-Cons TermTexts (text_step names) h t)
      (record {
        alone = joined (λ ps. mark signs.square_open ∷ ps) (λ ps. x.alone (y.as_rest ps)) (codes "[") (u.alone ++ v.as_rest) (λ ps. refl) r;
        as_rest = joined (λ ps. mark signs.comma ∷ ps) (λ ps. x.alone (y.as_rest ps)) (codes ",") (u.alone ++ v.as_rest) (λ ps. refl) r;
        is_string = refl;
      })

  at-tuple : (ts : List Term) → Each At ts → At (Tuple ts)
  at-tuple ts h =
      by-step (Tuple ts) _ _ (fold-Tuple TermSpelling (spelling_step names) ts) (fold-Tuple TermTexts (text_step names) ts)
      (no_list-agrees false (spelled_tuple (map (term_spelling names) ts)) (tuple_of (map (term_texts names) ts))
      (tuple-agrees (map (term_spelling names) ts) (map (term_texts names) ts) (at-each ts h)))

  at-var : (k : ℕ) → At (Var k)
  at-var k =
      by-step (Var k) _ _ (fold-Var TermSpelling (spelling_step names) k) (fold-Var TermTexts (text_step names) k)
      (no_list-agrees false (λ ps. variable k ∷ ps) (codes "V" ++ decimal k) (λ ps. refl))

  at-ro : (k : ℕ) → At (Ro k)
  at-ro k =
      by-step (Ro k) _ _ (fold-Ro TermSpelling (spelling_step names) k) (fold-Ro TermTexts (text_step names) k)
      (no_list-agrees false (λ ps. variable k ∷ mark signs.question ∷ ps) (codes "V" ++ decimal k ++ codes "?")
      (joined (λ ps. variable k ∷ ps) (λ ps. mark signs.question ∷ ps) (codes "V" ++ decimal k) (codes "?") (λ ps. refl) (λ ps. refl)))

  at-term : (t : Term) → At t
  at-term = term_induction At at-int at-str at-nil at-cons at-tuple at-var at-ro

  -- the text of a term
  pub term-spells : (t : Term) → Spells (term_spellings names t) (term_text names t)
  unfolding term_spellings term_text
  term-spells t = (at-term t).alone

  each-term : (ts : List Term) → EachSpells (map (term_spellings names) ts) (map (term_text names) ts)
  each-term [] = tt
  each-term (t ∷ ts) = (term-spells t, each-term ts)

  -- the text of arguments
  pub terms-spell : (ts : List Term) → Spells (terms_spellings names ts) (terms_text names ts)
  terms-spell ts = parted-then comma (codes ",") (map (term_spellings names) ts) (map (term_text names) ts) (λ ps. refl) (each-term ts)
