-- The lists and the parts that a tree has, as they are read from the left.
use Rattle.std.proofs.Common.{◌≡◌, ℕ, ◌<◌, false, List, [], ◌∷◌, ◌++◌, refl, ap, ◌∙◌, arith, length, ℤ}
use Rattle.std.proofs.lemmas.Bool.Decides.{nat_tests}
use Rattle.fcp_model.specs.declared.names.Sym.{Sym}
use Rattle.fcp_model.specs.declared.term.Term.{Term, Int, Str, Nil, Cons, Tuple, Var, Ro}
use Rattle.fcp_model.proofs.Folds.{fold-Int, fold-Str, fold-Nil, fold-Cons, fold-Tuple, fold-Var, fold-Ro}
use Rattle.fcp_grammar.specs.Values.{listed, over}
use Rattle.reading_laws.specs.Alike.{string_with, term_with_step, term_with, terms_with}

-- ---- the same terms by other numbers of strings

module _ (f : ℕ → ℕ) where
  pub with-int : (n : ℤ) → term_with f (Int n) ≡ Int n
  unfolding term_with
  with-int n = fold-Int Term (term_with_step f) n

  pub with-str : (s : Sym) → term_with f (Str s) ≡ Str (string_with f s)
  unfolding term_with
  with-str s = fold-Str Term (term_with_step f) s

  pub with-nil : term_with f Nil ≡ Nil
  unfolding term_with
  with-nil = fold-Nil Term (term_with_step f)

  pub with-cons : (h t : Term) → term_with f (Cons h t) ≡ Cons (term_with f h) (term_with f t)
  unfolding term_with
  with-cons h t = fold-Cons Term (term_with_step f) h t

  pub with-tuple : (ts : List Term) → term_with f (Tuple ts) ≡ Tuple (terms_with f ts)
  unfolding term_with
  with-tuple ts = fold-Tuple Term (term_with_step f) ts

  pub with-var : (k : ℕ) → term_with f (Var k) ≡ Var k
  unfolding term_with
  with-var k = fold-Var Term (term_with_step f) k

  pub with-ro : (k : ℕ) → term_with f (Ro k) ≡ Ro k
  unfolding term_with
  with-ro k = fold-Ro Term (term_with_step f) k

  pub with-append : (ts us : List Term) → terms_with f (ts ++ us) ≡ terms_with f ts ++ terms_with f us
  with-append [] us = refl
  with-append (t ∷ ts) us = ap (λ l. term_with f t ∷ l) (with-append ts us)

  pub with-listed : (ts : List Term) (u : Term) → term_with f (listed ts u) ≡ listed (terms_with f ts) (term_with f u)
  with-listed [] u = refl
  with-listed (t ∷ ts) u = with-cons t (listed ts u) ∙ ap (λ l. Cons (term_with f t) l) (with-listed ts u)

-- a list with one element more is a list whose rest is a pair
pub listed-append : (ts : List Term) (t u : Term) → listed (ts ++ t ∷ []) u ≡ listed ts (Cons t u)
listed-append [] t u = refl
listed-append (x ∷ ts) t u = ap (λ l. Cons x l) (listed-append ts t u)

-- ---- parts that are not one too many

pub not-over : (ts : List Term) → length ts < 64 → over ts ≡ false
not-over ts h = grind (arith, nat_tests)
