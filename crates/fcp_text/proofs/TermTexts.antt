-- The text of a term, and of a list's rest, at each shape of a term.
use Rattle.std.proofs.Common.{◌≡◌, ℕ, List, [], ◌∷◌, ◌++◌, map, drop, Option, Some, None, Bool, true, false, ap, sym, ◌∙◌, refl, codes, decimal}
use Rattle.std.specs.Prelude.{ℤ}
use Rattle.std.specs.Fmt.{signed_decimal}
use Rattle.fcp_model.specs.declared.names.Sym.{Sym}
use Rattle.fcp_model.specs.declared.term.Term.{Term, Int, Str, Nil, Cons, Tuple, Var, Ro}
use Rattle.fcp_model.proofs.Folds.{fold-Int, fold-Str, fold-Nil, fold-Cons, fold-Tuple, fold-Var, fold-Ro, term_induction}
use Rattle.fcp_model.specs.Spelling.{Bytes, string_text, name_at}
use Rattle.fcp_text.specs.SourceTerms.{TermTexts, no_list, parted, tuple_of, in_braces, parts_of, text_step, term_texts, term_text, rest_text, terms_text, string_step, string_in, called_name}

module _ (names : List Bytes) where
  pub text-Int : (n : ℤ) → term_text names (Int n) ≡ signed_decimal n
  unfolding term_text
  text-Int n = ap (λ x. x.alone) (fold-Int TermTexts (text_step names) n)

  pub text-Str : (s : Sym) → term_text names (Str s) ≡ string_text (name_at names s.0)
  unfolding term_text
  text-Str s = ap (λ x. x.alone) (fold-Str TermTexts (text_step names) s)

  pub text-Nil : term_text names Nil ≡ codes "[]"
  unfolding term_text
  text-Nil = ap (λ x. x.alone) (fold-Nil TermTexts (text_step names))

  pub text-Var : (k : ℕ) → term_text names (Var k) ≡ codes "V" ++ decimal k
  unfolding term_text
  text-Var k = ap (λ x. x.alone) (fold-Var TermTexts (text_step names) k)

  pub text-Ro : (k : ℕ) → term_text names (Ro k) ≡ codes "V" ++ decimal k ++ codes "?"
  unfolding term_text
  text-Ro k = ap (λ x. x.alone) (fold-Ro TermTexts (text_step names) k)

  pub text-Cons : (h t : Term) → term_text names (Cons h t) ≡ codes "[" ++ term_text names h ++ rest_text names t
  unfolding term_text rest_text
  text-Cons h t = ap (λ x. x.alone) (fold-Cons TermTexts (text_step names) h t)

  pub rest-Nil : rest_text names Nil ≡ codes "]"
  unfolding rest_text
  rest-Nil = ap (λ x. x.as_rest) (fold-Nil TermTexts (text_step names))

  pub rest-Cons : (h t : Term) → rest_text names (Cons h t) ≡ codes "," ++ term_text names h ++ rest_text names t
  unfolding term_text rest_text
  rest-Cons h t = ap (λ x. x.as_rest) (fold-Cons TermTexts (text_step names) h t)

  ended : (x : TermTexts) (string : Bool) (s : Bytes) → x ≡ no_list string s → x.as_rest ≡ codes "|" ++ x.alone ++ codes "]"
  ended x string s e = ap (λ y. y.as_rest) e ∙ sym (ap (λ y. codes "|" ++ y.alone ++ codes "]") e)

  Ends : Term → Type 0
  Ends t = (t ≡ Nil → ⊥) → ((h u : Term) → t ≡ Cons h u → ⊥) → rest_text names t ≡ codes "|" ++ term_text names t ++ codes "]"

  -- the rest of a list that is neither a pair nor `[]`
  pub rest_other : (t : Term) → (t ≡ Nil → ⊥) → ((h u : Term) → t ≡ Cons h u → ⊥)
      → rest_text names t ≡ codes "|" ++ term_text names t ++ codes "]"
  unfolding Ends term_text rest_text
  rest_other = term_induction Ends
      (λ n a b. ended _ _ _ (fold-Int TermTexts (text_step names) n))
      (λ s a b. ended _ _ _ (fold-Str TermTexts (text_step names) s))
      (λ a b. absurd (a refl))
      (λ h u p q a b. absurd (b h u refl))
      (λ ts e a b. ended _ _ _ (fold-Tuple TermTexts (text_step names) ts))
      (λ k a b. ended _ _ _ (fold-Var TermTexts (text_step names) k))
      (λ k a b. ended _ _ _ (fold-Ro TermTexts (text_step names) k))

  each_alone : (ts : List Term) → map (λ (t : TermTexts). t.alone) (map (term_texts names) ts) ≡ map (term_text names) ts
  unfolding term_text
  each_alone [] = refl
  each_alone (t ∷ ts) = ap (λ xs. (term_texts names t).alone ∷ xs) (each_alone ts)

  parts-text : (ts : List Term) → parts_of (map (term_texts names) ts) ≡ terms_text names ts
  parts-text ts = ap (parted (codes ",")) (each_alone ts)

  braces-text : (ts : List Term) → in_braces (map (term_texts names) ts) ≡ codes "{" ++ terms_text names ts ++ codes "}"
  braces-text ts = ap (λ xs. codes "{" ++ xs ++ codes "}") (parts-text ts)

  tuple-text : (ts : List Term) → term_text names (Tuple ts) ≡ tuple_of (map (term_texts names) ts)
  unfolding term_text
  tuple-text ts = ap (λ x. x.alone) (fold-Tuple TermTexts (text_step names) ts)

  IsNamed : Term → Option Sym → Type 0
  IsNamed t None = (term_texts names t).is_string ≡ false
  IsNamed t (Some s) = t ≡ Str s

  named : (t : Term) → IsNamed t (string_in t)
  unfolding IsNamed
  named = term_induction (λ t. IsNamed t (string_in t))
      (λ n. rw (fold-Int (Option Sym) string_step n) (ap (λ x. x.is_string) (fold-Int TermTexts (text_step names) n)))
      (λ s. rw (fold-Str (Option Sym) string_step s) refl)
      (rw (fold-Nil (Option Sym) string_step) (ap (λ x. x.is_string) (fold-Nil TermTexts (text_step names))))
      (λ h u p q. rw (fold-Cons (Option Sym) string_step h u) (ap (λ x. x.is_string) (fold-Cons TermTexts (text_step names) h u)))
      (λ ts e. rw (fold-Tuple (Option Sym) string_step ts) (ap (λ x. x.is_string) (fold-Tuple TermTexts (text_step names) ts)))
      (λ k. rw (fold-Var (Option Sym) string_step k) (ap (λ x. x.is_string) (fold-Var TermTexts (text_step names) k)))
      (λ k. rw (fold-Ro (Option Sym) string_step k) (ap (λ x. x.is_string) (fold-Ro TermTexts (text_step names) k)))

  -- a tuple in braces
  pub text_in_braces : (ts : List Term) → called_name ts ≡ None → term_text names (Tuple ts) ≡ codes "{" ++ terms_text names ts ++ codes "}"
  unfolding IsNamed
  text_in_braces [] e = tuple-text [] ∙ braces-text []
  text_in_braces (t ∷ []) e = tuple-text (t ∷ []) ∙ braces-text (t ∷ [])
  text_in_braces (t ∷ u ∷ us) e =
      let no_string : (term_texts names t).is_string ≡ false = rw e at (named t) in
      tuple-text (t ∷ u ∷ us) ∙ rw no_string (braces-text (t ∷ u ∷ us))

  -- a tuple that is written as a call
  pub text_as_call : (ts : List Term) (s : Sym) → called_name ts ≡ Some s
      → term_text names (Tuple ts) ≡ string_text (name_at names s.0) ++ (codes "(" ++ terms_text names (drop 1 ts) ++ codes ")")
  unfolding IsNamed
  text_as_call [] s e = absurd (cc)
  text_as_call (t ∷ []) s e = absurd (cc)
  text_as_call (t ∷ u ∷ us) s e =
      let is : t ≡ Str s = rw e at (named t) in
      let texts : term_texts names t ≡ no_list true (string_text (name_at names s.0)) =
      ap (term_texts names) is ∙ fold-Str TermTexts (text_step names) s in
      tuple-text (t ∷ u ∷ us) ∙ ap (λ x. tuple_of (x ∷ map (term_texts names) (u ∷ us))) texts
      ∙ ap (λ xs. string_text (name_at names s.0) ++ (codes "(" ++ xs ++ codes ")")) (parts-text (u ∷ us))

  -- the same of a pair that was taken apart
  pub text_of_pair : (term head tail h t : Term) → term ≡ Cons head tail → h ≡ head → t ≡ tail
      → term_text names term ≡ codes "[" ++ term_text names h ++ rest_text names t
  text_of_pair term head tail h t e p q = rw (e, p, q) (text-Cons head tail)

  pub rest_of_pair : (term head tail h t : Term) → term ≡ Cons head tail → h ≡ head → t ≡ tail
      → rest_text names term ≡ codes "," ++ term_text names h ++ rest_text names t
  rest_of_pair term head tail h t e p q = rw (e, p, q) (rest-Cons head tail)
