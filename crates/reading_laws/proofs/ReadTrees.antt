-- The terms of trees that spell unmarked terminals.
use Rattle.std.proofs.Common.{◌≡◌, ℕ, ◌+◌, Bool, true, false, List, [], ◌∷◌, ◌++◌, map, length, refl, ◌∙◌, sym, ap, subst, arith, append_assoc, length-append}
use Rattle.std.specs.Prelude.{◌&&◌, nat_le, nat_lt, if◌then◌else◌}
use Rattle.std.specs.List.{list_all}
use Rattle.std.proofs.lemmas.Bool.Decides.{nat_tests}
use Rattle.std.proofs.lemmas.List.{length-map}
use Rattle.fcp_model.specs.declared.names.Sym.{Sym}
use Rattle.fcp_model.specs.declared.term.Term.{Term, Str, Nil, Tuple}
use Rattle.fcp_model.proofs.Folds.{fold-Str}
use Rattle.fcp_text.proofs.Choices.{and-second}
use Rattle.fcp_grammar.specs.declared.terminals.Terminal.TheVariants as terminal
use Rattle.fcp_grammar.specs.Values.{listed, tuple_of, over}
use Rattle.fcp_grammar.specs.Grammar.{Marked, Tree, Trees, int, call, name_alone, with_arguments, variable, read_only, nil, list, list_rest, braces, none, and, value, values, plain, over_if, spell, spells}
use Rattle.text_laws.specs.Writable.{is_number, is_writable_term}
use Rattle.reading_laws.specs.PieceTerminals.{is_next}
use Rattle.reading_laws.specs.Variables.{term_variables, terms_variables, count_behind}
use Rattle.reading_laws.specs.Readable.{Size, parts_fit, size_step, size_of, is_small_term, are_small_terms}
use Rattle.reading_laws.proofs.ReadParts.{and-both, and-assoc, or-first, all-last, each-last, Sound, Reads, two-read, reads-as, reads-same, past}
use Rattle.reading_laws.proofs.ReadTerms.{ReadsTerm, ReadsTerms, small-int, small-str, small-nil, small-cons, small-tuple, small-var, small-ro, writable-int, writable-str, writable-nil, writable-cons, writable-tuple, writable-var, writable-ro, variables-int, variables-str, variables-nil, variables-cons, variables-tuple, variables-var, variables-ro}

-- ---- lists

listed-small : (ts : List Term) (r : Term) → is_small_term (listed ts r) ≡ (are_small_terms ts && is_small_term r)
listed-small [] r = refl
listed-small (t ∷ ts) r =
    small-cons t (listed ts r) ∙ (ap (λ b. is_small_term t && b) (listed-small ts r)
    ∙ sym (and-assoc (is_small_term t) (are_small_terms ts) (is_small_term r)))

listed-writable : (ts : List Term) (r : Term) → is_writable_term (listed ts r) ≡ (list_all is_writable_term ts && is_writable_term r)
listed-writable [] r = refl
listed-writable (t ∷ ts) r =
    writable-cons t (listed ts r) ∙ (ap (λ b. is_writable_term t && b) (listed-writable ts r)
    ∙ sym (and-assoc (is_writable_term t) (list_all is_writable_term ts) (is_writable_term r)))

listed-variables : (ts : List Term) (r : Term) → term_variables (listed ts r) ≡ terms_variables ts ++ term_variables r
listed-variables [] r = refl
listed-variables (t ∷ ts) r =
    variables-cons t (listed ts r)
    ∙ (ap (λ l. term_variables t ++ l) (listed-variables ts r)
    ∙ sym (append_assoc (term_variables t) (terms_variables ts) (term_variables r)))

-- a list of these elements and this rest
list-read : {n : ℕ} (ts : List Term) (r : Term) {more rest : List Marked} → ReadsTerms n ts more
    → ReadsTerm (count_behind n (terms_variables ts)) r rest → ReadsTerm n (listed ts r) rest
list-read ts r a b = reads-same (listed-small ts r) (listed-writable ts r) (listed-variables ts r) (two-read a b)

nil-read : (n : ℕ) (rest : List Marked) → Sound n rest → ReadsTerm n Nil rest
nil-read n rest h =
    reads-same small-nil writable-nil variables-nil (record { is_small = refl; is_writable = refl; in_order = refl; behind = h })

-- ---- tuples

few-parts : (t : Size) (ts : List Size) → nat_le (length ts) 63 ≡ true → parts_fit (t ∷ ts) ≡ true
few-parts t ts h = by-kind t.is_string where
  wider : nat_le (length ts) 64 ≡ true
  wider = grind (arith, nat_tests)

  by-kind : (b : Bool) → nat_le (length ts) (if b then 64 else 63) ≡ true
  by-kind true = wider
  by-kind false = h

-- one part or more
some-parts : (ts : List Size) (t : Size) → nat_le (length ts) 63 ≡ true → parts_fit (ts ++ t ∷ []) ≡ true
some-parts [] t h = few-parts t [] refl
some-parts (u ∷ us) t h = few-parts u (us ++ t ∷ []) (grind (arith, nat_tests, length-append))

not-over : (ts : List Term) → over ts ≡ false → nat_le (length ts) 63 ≡ true
not-over ts h = grind (arith, nat_tests)

pub arguments-fit : (ts : List Term) (t : Term) → over ts ≡ false → nat_le (length (ts ++ t ∷ [])) 64 ≡ true
arguments-fit ts t h = grind (arith, nat_tests, length-append)

-- a string with at most 64 arguments
string-parts : (s : Sym) (ts : List Term) → nat_le (length ts) 64 ≡ true → parts_fit (map size_of (Str s ∷ ts)) ≡ true
string-parts s ts h =
    let e : size_of (Str s) ≡ (record { small = true; is_string = true }) = fold-Str Size size_step s in
    subst (λ z. parts_fit (z ∷ map size_of ts) ≡ true) (sym e) (ap (λ k. nat_le k 64) (length-map ts size_of) ∙ h)

call-read : {n : ℕ} (s : Sym) (ts : List Term) {rest : List Marked} → nat_le (length ts) 64 ≡ true → ReadsTerms n ts rest
    → ReadsTerm n (tuple_of s ts) rest
call-read s ts few a =
    reads-as
    (λ h. small-tuple (Str s ∷ ts)
    ∙ and-both (parts_fit (map size_of (Str s ∷ ts))) (are_small_terms (Str s ∷ ts)) (string-parts s ts few)
    (and-both (is_small_term (Str s)) (are_small_terms ts) (small-str s) h))
    (λ h. writable-tuple (Str s ∷ ts) ∙ and-both (is_writable_term (Str s)) (list_all is_writable_term ts) (writable-str s) h)
    (variables-tuple (Str s ∷ ts) ∙ ap (λ l. l ++ terms_variables ts) (variables-str s))
    a

-- the parts between braces
mapped-last : (ts : List Term) (t : Term) → map size_of (ts ++ t ∷ []) ≡ map size_of ts ++ size_of t ∷ []
mapped-last [] t = refl
mapped-last (u ∷ us) t = ap (λ l. size_of u ∷ l) (mapped-last us t)

braced-parts : (ts : List Term) (t : Term) → nat_le (length ts) 63 ≡ true → parts_fit (map size_of (ts ++ t ∷ [])) ≡ true
braced-parts ts t h =
    subst (λ l. parts_fit l ≡ true) (sym (mapped-last ts t))
    (some-parts (map size_of ts) (size_of t) (ap (λ k. nat_le k 63) (length-map ts size_of) ∙ h))

braces-read : {n : ℕ} (ts : List Term) (t : Term) {rest : List Marked} → nat_le (length ts) 63 ≡ true → ReadsTerms n (ts ++ t ∷ []) rest
    → ReadsTerm n (Tuple (ts ++ t ∷ [])) rest
braces-read ts t few a =
    reads-as
    (λ h. small-tuple (ts ++ t ∷ [])
    ∙ and-both (parts_fit (map size_of (ts ++ t ∷ []))) (are_small_terms (ts ++ t ∷ [])) (braced-parts ts t few) h)
    (λ h. writable-tuple (ts ++ t ∷ []) ∙ h)
    (variables-tuple (ts ++ t ∷ []))
    a

-- ---- terms, and lists of terms

-- one term more
pub last-read : {n : ℕ} (ts : List Term) (t : Term) {more rest : List Marked} → ReadsTerms n ts more
    → ReadsTerm (count_behind n (terms_variables ts)) t rest → ReadsTerms n (ts ++ t ∷ []) rest
last-read ts t a b =
    reads-same (all-last is_small_term ts t) (all-last is_writable_term ts t) (each-last term_variables ts t) (two-read a b)

few-number : (k : ℕ) → nat_le k 250 ≡ true → is_number k ≡ true
few-number k h = grind (arith, nat_tests)

next-few : (n k : ℕ) → is_next n k ≡ true → nat_le k 250 ≡ true
next-few n k h = and-second (nat_le 1 k && nat_le k (n + 1)) (nat_le k 250) h

variable-read : (n k : ℕ) (rest : List Marked) → is_next n k ≡ true → Sound (count_behind n (k ∷ [])) rest
    → Reads n true (is_number k) (k ∷ []) rest
variable-read n k rest h g = record {
  is_small = refl;
  is_writable = few-number k (next-few n k h);
  in_order = and-both (is_next n k) true h refl;
  behind = g;
}

mutual
  -- the terminals of a tree say that it is not one too many, and what its term is
  pub read-tree : (t : Tree) (m : Bool) (n : ℕ) (rest : List Marked) → Sound n (spell m t rest) → (m ≡ false) × ReadsTerm n (value t) rest
  read-tree (int i at) m n rest h = (
    h.0,
    reads-same (small-int i) (writable-int i) (variables-int i)
        (record { is_small = refl; is_writable = h.1; in_order = refl; behind = h.2 }),
  )
  read-tree (call (name_alone s form at)) m n rest h = (
    h.0,
    reads-same (small-str s) (writable-str s) (variables-str s)
        (record { is_small = refl; is_writable = refl; in_order = refl; behind = h.2 }),
  )
  read-tree (call (with_arguments s form at o ts t)) m n rest h =
      let a : ReadsTerms n (values ts) (spell (over (values ts)) t (plain terminal.RoundClose ∷ rest)) = read-trees ts true n _ h.2.2 in
      let b = read-tree t (over (values ts)) (count_behind n (terms_variables (values ts))) (plain terminal.RoundClose ∷ rest) a.behind in (
        h.0,
        call-read s (values ts ++ value t ∷ []) (arguments-fit (values ts) (value t) b.0)
            (past (λ k. refl) (last-read (values ts) (value t) a b.1)),
      )
  read-tree (variable k at) m n rest h =
      (or-first m (nat_lt 250 k) h.0, reads-same (small-var k) (writable-var k) (variables-var k) (variable-read n k rest h.1 h.2))
  read-tree (read_only k at) m n rest h =
      (or-first m (nat_lt 250 k) h.0, reads-same (small-ro k) (writable-ro k) (variables-ro k) (variable-read n k rest h.1 h.2.2))
  read-tree (nil at) m n rest h = (h.0, nil-read n rest h.2.2)
  read-tree (list at ts t) m n rest h =
      let a : ReadsTerms n (values ts) (spell false t (plain terminal.SquareClose ∷ rest)) = read-trees ts false n _ h.2 in
      let b = read-tree t false (count_behind n (terms_variables (values ts))) (plain terminal.SquareClose ∷ rest) a.behind in
      let c : ReadsTerms n (values ts ++ value t ∷ []) rest = past (λ k. refl) (last-read (values ts) (value t) a b.1) in
      (h.0, list-read (values ts ++ value t ∷ []) Nil c (nil-read _ rest c.behind))
  read-tree (list_rest at ts t u) m n rest h =
      let a : ReadsTerms n (values ts) (spell false t (plain terminal.Bar ∷ spell false u (plain terminal.SquareClose ∷ rest))) =
      read-trees ts false n _ h.2 in
      let b =
      read-tree t false (count_behind n (terms_variables (values ts)))
      (plain terminal.Bar ∷ spell false u (plain terminal.SquareClose ∷ rest)) a.behind in
      let c : ReadsTerms n (values ts ++ value t ∷ []) (spell false u (plain terminal.SquareClose ∷ rest)) =
      past (λ k. refl) (last-read (values ts) (value t) a b.1) in
      let d =
      read-tree u false (count_behind n (terms_variables (values ts ++ value t ∷ []))) (plain terminal.SquareClose ∷ rest) c.behind in
      (h.0, list-read (values ts ++ value t ∷ []) (value u) c (past (λ k. refl) d.1))
  read-tree (braces at ts t) m n rest h =
      let a : ReadsTerms n (values ts) (spell (over (values ts)) t (plain terminal.CurlyClose ∷ rest)) = read-trees ts true n _ h.2 in
      let b = read-tree t (over (values ts)) (count_behind n (terms_variables (values ts))) (plain terminal.CurlyClose ∷ rest) a.behind in
      (h.0, braces-read (values ts) (value t) (not-over (values ts) b.0) (past (λ k. refl) (last-read (values ts) (value t) a b.1)))

  pub read-trees : (ts : Trees) (c : Bool) (n : ℕ) (rest : List Marked) → Sound n (spells c ts rest) → ReadsTerms n (values ts) rest
  read-trees none c n rest h = record { is_small = refl; is_writable = refl; in_order = refl; behind = h }
  read-trees (and ts t) c n rest h =
      let a : ReadsTerms n (values ts) (spell (over_if c ts) t (plain terminal.Comma ∷ rest)) = read-trees ts c n _ h in
      let b = read-tree t (over_if c ts) (count_behind n (terms_variables (values ts))) (plain terminal.Comma ∷ rest) a.behind in
      past (λ k. refl) (last-read (values ts) (value t) a b.1)
