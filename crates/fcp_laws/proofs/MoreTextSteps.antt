-- More steps change no text of a term.
use Rattle.std.proofs.Common.{◌≡◌, ℕ, zero, suc, ◌≤◌, List, ◌++◌, Option, Some, None, codes, refl, ap, arith}
use Rattle.fcp_model.specs.Places.{Variable}
use Rattle.fcp_model.specs.Terms.{Term, nil, cons, tuple, Terms, none, more, Bindings}
use Rattle.fcp_model.specs.Value.{Look, solid, value}
use Rattle.fcp_model.specs.Spelling.{Bytes, string_text, name_at}
use Rattle.fcp_model.specs.TermText.{Written, behind, before, and_then, leaf_text, string_of, term_text, look_text, rest_text, rest_on, tuple_text, parts_text, cut_text}
use Rattle.fcp_model.proofs.MoreSteps.{Refines, Grows, at_least, value_more}
use Rattle.fcp_model.proofs.OneDecision.{option_map_more}

-- what has no answer in some steps has none in fewer
none_before : {A : Type 0} (f : ℕ → Option A) → Grows f → (n m : ℕ) → n ≤ m → f m ≡ None → f n ≡ None
none_before {A = A} f g n m h e = go (f n) refl
  where
    go : (o : Option A) → f n ≡ o → o ≡ None
    go None i = refl
    go (Some x) i = let there : f m ≡ Some x = at_least f g n m h x i in cc

-- texts after one another
behind_more : (bs : Bytes) (o o' : Option Written) → Refines o o' → Refines (behind bs o) (behind bs o')
behind_more bs None o' h = λ x e. cc
behind_more bs (Some w) o' h = λ x e. rw (h w refl) e

before_more : (bs : Bytes) (o o' : Option Written) → Refines o o' → Refines (before bs o) (before bs o')
before_more bs None o' h = λ x e. cc
before_more bs (Some w) o' h = λ x e. rw (h w refl) e

then_more : (f g : ℕ → Option Written) → ((k : ℕ) → Refines (f k) (g k)) → (o o' : Option Written) → Refines o o'
    → Refines (and_then o f) (and_then o' g)
then_more f g h None o' i = λ x e. cc
then_more f g h (Some w) o' i = λ x e. rw (i w refl) (behind_more w.text _ _ (h w.left) x e)

-- a text by a value, where the value is found
abbrev by_value : (Look → Option Written) → Option Look → Option Written
by_value f o = elim o [ None ↦ None | Some l ↦ f l ]

value_text_more : (f g : Look → Option Written) → ((l : Look) → Refines (f l) (g l)) → (o o' : Option Look) → Refines o o'
    → Refines (by_value f o) (by_value g o')
value_text_more f g h None o' i = λ x e. cc
value_text_more f g h (Some l) o' i = λ x e. rw (i l refl) (h l x e)

-- a text by the string that a value is, or another text
abbrev by_string : (ℕ → Option Written) → Option Written → Option ℕ → Option Written
by_string f o c = elim c [ Some k ↦ f k | None ↦ o ]

-- A value that is not found is taken for no string, and more steps may find that it is one. So the other text has to be
-- without an answer where the value is.
string_text_more : (f g : ℕ → Option Written) (a b : Option Written) → ((k : ℕ) → Refines (f k) (g k)) → Refines a b
    → (o o' : Option Look) → Refines o o' → (o ≡ None → a ≡ None) → Refines (by_string f a (string_of o)) (by_string g b (string_of o'))
string_text_more f g a b h i None o' j missing = λ x e. let z : a ≡ None = missing refl in cc
string_text_more f g a b h i (Some l) o' j missing = λ x e. rw (j l refl) (go (string_of (Some l)) x e)
  where
    go : (c : Option ℕ) → Refines (by_string f a c) (by_string g b c)
    go (Some k) = h k
    go None = i

module _ (names : List Bytes) (s : Bindings) where
  -- parts have no text in steps that do not find the first one's value
  pub no_parts : (n left : ℕ) (t u : Term Variable) (us : Terms Variable) → value n s t ≡ None
      → parts_text n names s (suc left) t (more u us) ≡ None
  no_parts zero left t u us e = refl
  no_parts (suc zero) left t u us e = refl
  no_parts (suc (suc n)) left t u us e =
      let fewer : value n s t ≡ None = none_before (λ j. value j s t) (value_more s t) n (suc (suc n)) (omega arith) e in
      ap (λ (o : Option Look). and_then (before (codes ",") (by_value (λ l. look_text n names s left l (leaf_text names l)) o))
      (λ k. parts_text (suc n) names s k u us)) fewer

  -- one step more keeps the text of a term, of a value, of a list's rest, of a tuple and of parts
  mutual
    term_more : (n left : ℕ) (t : Term Variable) → Refines (term_text n names s left t) (term_text (suc n) names s left t)
    term_more zero left t = λ x e. cc
    term_more (suc n) zero t = λ x e. e
    term_more (suc n) (suc left) t = value_text_more _ _ (λ l. look_more n left l (leaf_text names l)) _ _ (value_more s t n)

    look_more : (n left : ℕ) (l : Look) (o : Option Bytes) → Refines (look_text n names s left l o) (look_text (suc n) names s left l o)
    look_more zero left l (Some bs) = λ x e. e
    look_more zero left l None = λ x e. cc
    look_more (suc n) left l (Some bs) = λ x e. e
    look_more (suc n) left (solid (cons a b)) None =
        behind_more (codes "[") _ _ (then_more _ _ (λ k. rest_more n k b) _ _ (term_more n left a))
    look_more (suc n) left (solid (tuple ts)) None = tuple_more n left ts
    look_more (suc n) left l None = λ x e. e

    rest_more : (n left : ℕ) (t : Term Variable) → Refines (rest_text n names s left t) (rest_text (suc n) names s left t)
    rest_more zero left t = λ x e. cc
    rest_more (suc n) zero t = λ x e. e
    rest_more (suc n) (suc left) t = value_text_more _ _ (λ l. rest_on_more n left t l) _ _ (value_more s t n)

    rest_on_more : (n left : ℕ) (t : Term Variable) (l : Look) → Refines (rest_on n names s left t l) (rest_on (suc n) names s left t l)
    rest_on_more zero left t l = λ x e. cc
    rest_on_more (suc n) left t (solid nil) = λ x e. e
    rest_on_more (suc n) left t (solid (cons a b)) =
        behind_more (codes ",") _ _ (then_more _ _ (λ k. rest_more n k b) _ _ (term_more n left a))
    rest_on_more (suc n) left t l = behind_more (codes "|") _ _ (before_more (codes "]") _ _ (term_more n (suc left) t))

    tuple_more : (n left : ℕ) (ts : Terms Variable) → Refines (tuple_text n names s left ts) (tuple_text (suc n) names s left ts)
    tuple_more zero left ts = λ x e. cc
    tuple_more (suc n) (suc left) (more t (more u us)) =
        string_text_more _ _ _ _ (λ k. behind_more (string_text (name_at names k) ++ codes "(") _ _
        (before_more (codes ")") _ _ (parts_more n left u us)))
        (behind_more (codes "{") _ _ (before_more (codes "}") _ _ (parts_more n (suc left) t (more u us))))
        _ _ (value_more s t n) (λ e. ap (λ (o : Option Written). behind (codes "{") (before (codes "}") o)) (no_parts n left t u us e))
    tuple_more (suc n) zero (more t ts) = behind_more (codes "{") _ _ (before_more (codes "}") _ _ (parts_more n zero t ts))
    tuple_more (suc n) (suc left) (more t none) = behind_more (codes "{") _ _ (before_more (codes "}") _ _ (parts_more n (suc left) t none))
    tuple_more (suc n) zero none = λ x e. e
    tuple_more (suc n) (suc left) none = λ x e. e

    parts_more : (n left : ℕ) (t : Term Variable) (ts : Terms Variable)
        → Refines (parts_text n names s left t ts) (parts_text (suc n) names s left t ts)
    parts_more zero left t ts = λ x e. cc
    parts_more (suc n) left t none = term_more n left t
    parts_more (suc n) left t (more u us) = then_more _ _ (λ k. parts_more n k u us) _ _ (before_more (codes ",") _ _ (term_more n left t))

  -- and of a term that is cut
  pub cut_more : (nodes : ℕ) (t : Term Variable) → Grows (λ n. cut_text n names s nodes t)
  cut_more nodes t n = option_map_more (λ (w : Written). w.text) _ _ (term_more n nodes t)
