-- The term of a tree that spells unmarked terminals.
use Rattle.std.proofs.Common.{◌≡◌, ℕ, Bool, true, List, [], ◌∷◌, ◌++◌, map, ◌∙◌, ap}
use Rattle.std.specs.Prelude.{◌&&◌, ℤ}
use Rattle.std.specs.List.{list_all}
use Rattle.std.proofs.lemmas.List.Folds.{list_all-map, flat_map-map}
use Rattle.fcp_model.specs.declared.names.Sym.{Sym}
use Rattle.fcp_model.specs.declared.term.Term.{Term, Int, Str, Nil, Cons, Tuple, Var, Ro}
use Rattle.fcp_model.proofs.Folds.{fold-Int, fold-Str, fold-Nil, fold-Cons, fold-Tuple, fold-Var, fold-Ro}
use Rattle.fcp_grammar.specs.Grammar.{Marked}
use Rattle.text_laws.specs.Writable.{is_int, is_number, writable_step, is_writable_term}
use Rattle.reading_laws.specs.Variables.{variables_step, term_variables, terms_variables}
use Rattle.reading_laws.specs.Readable.{Size, parts_fit, size_step, size_of, is_small_term, are_small_terms}
use Rattle.reading_laws.proofs.ReadParts.{Reads}

abbrev pub ReadsTerm : ℕ → Term → List Marked → Type 0
ReadsTerm n t rest = Reads n (is_small_term t) (is_writable_term t) (term_variables t) rest

abbrev pub ReadsTerms : ℕ → List Term → List Marked → Type 0
ReadsTerms n ts rest = Reads n (are_small_terms ts) (list_all is_writable_term ts) (terms_variables ts) rest

-- ---- small terms

pub small-int : (i : ℤ) → is_small_term (Int i) ≡ true
unfolding is_small_term
small-int i = ap (λ (z : Size). z.small) (fold-Int Size size_step i)

pub small-str : (s : Sym) → is_small_term (Str s) ≡ true
unfolding is_small_term
small-str s = ap (λ (z : Size). z.small) (fold-Str Size size_step s)

pub small-nil : is_small_term Nil ≡ true
unfolding is_small_term
small-nil = ap (λ (z : Size). z.small) (fold-Nil Size size_step)

pub small-cons : (h t : Term) → is_small_term (Cons h t) ≡ (is_small_term h && is_small_term t)
unfolding is_small_term
small-cons h t = ap (λ (z : Size). z.small) (fold-Cons Size size_step h t)

pub small-tuple : (ts : List Term) → is_small_term (Tuple ts) ≡ (parts_fit (map size_of ts) && are_small_terms ts)
unfolding is_small_term
small-tuple ts =
    ap (λ (z : Size). z.small) (fold-Tuple Size size_step ts)
    ∙ ap (λ b. parts_fit (map size_of ts) && b) (list_all-map (λ (z : Size). z.small) size_of ts)

pub small-var : (k : ℕ) → is_small_term (Var k) ≡ true
unfolding is_small_term
small-var k = ap (λ (z : Size). z.small) (fold-Var Size size_step k)

pub small-ro : (k : ℕ) → is_small_term (Ro k) ≡ true
unfolding is_small_term
small-ro k = ap (λ (z : Size). z.small) (fold-Ro Size size_step k)

-- ---- writable terms

pub writable-int : (i : ℤ) → is_writable_term (Int i) ≡ is_int i
unfolding is_writable_term
writable-int i = fold-Int Bool writable_step i

pub writable-str : (s : Sym) → is_writable_term (Str s) ≡ true
unfolding is_writable_term
writable-str s = fold-Str Bool writable_step s

pub writable-nil : is_writable_term Nil ≡ true
unfolding is_writable_term
writable-nil = fold-Nil Bool writable_step

pub writable-cons : (h t : Term) → is_writable_term (Cons h t) ≡ (is_writable_term h && is_writable_term t)
unfolding is_writable_term
writable-cons h t = fold-Cons Bool writable_step h t

pub writable-tuple : (ts : List Term) → is_writable_term (Tuple ts) ≡ list_all is_writable_term ts
unfolding is_writable_term
writable-tuple ts = fold-Tuple Bool writable_step ts ∙ list_all-map (λ b. b) is_writable_term ts

pub writable-var : (k : ℕ) → is_writable_term (Var k) ≡ is_number k
unfolding is_writable_term
writable-var k = fold-Var Bool writable_step k

pub writable-ro : (k : ℕ) → is_writable_term (Ro k) ≡ is_number k
unfolding is_writable_term
writable-ro k = fold-Ro Bool writable_step k

-- ---- the variables of terms

pub variables-int : (i : ℤ) → term_variables (Int i) ≡ []
unfolding term_variables
variables-int i = fold-Int (List ℕ) variables_step i

pub variables-str : (s : Sym) → term_variables (Str s) ≡ []
unfolding term_variables
variables-str s = fold-Str (List ℕ) variables_step s

pub variables-nil : term_variables Nil ≡ []
unfolding term_variables
variables-nil = fold-Nil (List ℕ) variables_step

pub variables-cons : (h t : Term) → term_variables (Cons h t) ≡ term_variables h ++ term_variables t
unfolding term_variables
variables-cons h t = fold-Cons (List ℕ) variables_step h t

pub variables-tuple : (ts : List Term) → term_variables (Tuple ts) ≡ terms_variables ts
unfolding term_variables
variables-tuple ts = fold-Tuple (List ℕ) variables_step ts ∙ flat_map-map (λ l. l) term_variables ts

pub variables-var : (k : ℕ) → term_variables (Var k) ≡ k ∷ []
unfolding term_variables
variables-var k = fold-Var (List ℕ) variables_step k

pub variables-ro : (k : ℕ) → term_variables (Ro k) ≡ k ∷ []
unfolding term_variables
variables-ro k = fold-Ro (List ℕ) variables_step k
