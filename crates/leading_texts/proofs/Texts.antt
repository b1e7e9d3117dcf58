-- Texts over bindings with shorter ways.
use Rattle.std.proofs.Common.{◌≡◌, ℕ, zero, suc, List, ◌++◌, Option, Some, None, codes, refl, sym, ap, ◌∙◌, arith}
use Rattle.std.specs.Prelude.{option_map}
use Rattle.fcp_model.specs.Places.{Variable}
use Rattle.fcp_model.specs.Terms.{Term, number, string, nil, cons, tuple, var, ro, first, Terms, none, more, Bindings}
use Rattle.fcp_model.specs.Value.{Look, solid, writable, read_only, value}
use Rattle.fcp_model.specs.Spelling.{Bytes, string_text, name_at}
use Rattle.fcp_model.specs.TermText.{Written, behind, before, and_then, leaf_text, string_of, term_text, look_text, rest_text, rest_on}
use Rattle.fcp_model.specs.TermText.{tuple_text, parts_text, cut_text}
use Rattle.fcp_model.proofs.MoreSteps.{value_more}
use Rattle.fcp_laws.proofs.MoreTextSteps.{no_parts}
use Rattle.word_states.specs.Leading.{LeadsTo, AreShortened}
use Rattle.word_states.proofs.Leading.{leads_here}
use Rattle.leading_laws.proofs.Answers.{Stays, stays}
use Rattle.leading_laws.proofs.Values.{values_led}
use Rattle.leading_texts.specs.Laws.{TextsComeAlike}
use Rattle.leading_texts.proofs.Steady.{stays_next, stays_soon, stays_by, behind_stays, before_stays, then_stays}

module _ (names : List Bytes) (s short : Bindings) (shortened : AreShortened s short) where
  value_stays : (n : ℕ) (t u : Term Variable) (l : Look) → LeadsTo s t u → value n short u ≡ Some l → Stays (λ m. value m s t) l
  value_stays n t u l leads e = stays (λ m. value m s t) l (value_more s t) (values_led s short shortened t u l leads (n, e))

  -- a text by a value
  abbrev by_look : (Look → Option Written) → Option Look → Option Written
  by_look f o = elim o [ None ↦ None | Some l ↦ f l ]

  by_value : (n : ℕ) (t u : Term Variable) (f : Look → Option Written) (g : ℕ → Look → Option Written) (w : Written) → LeadsTo s t u
      → by_look f (value n short u) ≡ Some w → ((l : Look) → f l ≡ Some w → Stays (λ m. g m l) w)
      → Stays (λ m. by_look (g m) (value m s t)) w
  by_value n t u f g w leads e h = go (value n short u) refl e
    where
      go : (o : Option Look) → value n short u ≡ o → by_look f o ≡ Some w → Stays (λ m. by_look (g m) (value m s t)) w
      go None i k = cc
      go (Some l) i k = stays_by (λ m. value m s t) (λ m o. by_look (g m) o) l w (value_stays n t u l leads i) (h l k)

  -- a rest that is no list
  abbrev end_text : ℕ → ℕ → Term Variable → Option Written
  end_text m left t = behind (codes "|") (before (codes "]") (term_text m names s (suc left) t))

  -- a tuple with a string in front, one in braces, and either by what the first part's value is
  abbrev named_text : ℕ → ℕ → ℕ → Term Variable → Terms Variable → Option Written
  named_text m left c u us = behind (string_text (name_at names c) ++ codes "(") (before (codes ")") (parts_text m names s left u us))

  abbrev braced_text : ℕ → ℕ → Term Variable → Terms Variable → Option Written
  braced_text m left t ts = behind (codes "{") (before (codes "}") (parts_text m names s left t ts))

  abbrev by_first : (ℕ → Option Written) → Option Written → Option Look → Option Written
  by_first f o v = elim (string_of v) [ Some c ↦ f c | None ↦ o ]

  -- these come where their parts do
  end_on : (n left : ℕ) (t u : Term Variable) (w : Written)
      → ((x : Written) → term_text n names short (suc left) u ≡ Some x → Stays (λ m. term_text m names s (suc left) t) x)
      → behind (codes "|") (before (codes "]") (term_text n names short (suc left) u)) ≡ Some w → Stays (λ m. end_text m left t) w
  end_on n left t u w h e =
      behind_stays (codes "|") _ (λ m. before (codes "]") (term_text m names s (suc left) t)) w e
      (λ v i. before_stays (codes "]") _ (λ m. term_text m names s (suc left) t) v i h)

  abbrev PartsStay : ℕ → ℕ → Term Variable → Terms Variable → Type 0
  PartsStay n left t ts = (x : Written) → parts_text n names short left t ts ≡ Some x → Stays (λ m. parts_text m names s left t ts) x

  named : (n left : ℕ) (u : Term Variable) (us : Terms Variable) (w : Written) → PartsStay n left u us → (c : ℕ)
      → behind (string_text (name_at names c) ++ codes "(") (before (codes ")") (parts_text n names short left u us)) ≡ Some w
      → Stays (λ m. named_text m left c u us) w
  named n left u us w h c e =
      behind_stays (string_text (name_at names c) ++ codes "(") _ (λ m. before (codes ")") (parts_text m names s left u us)) w e
      (λ v i. before_stays (codes ")") _ (λ m. parts_text m names s left u us) v i h)

  braces : (n left : ℕ) (t : Term Variable) (ts : Terms Variable) (w : Written) → PartsStay n left t ts
      → behind (codes "{") (before (codes "}") (parts_text n names short left t ts)) ≡ Some w → Stays (λ m. braced_text m left t ts) w
  braces n left t ts w h e =
      behind_stays (codes "{") _ (λ m. before (codes "}") (parts_text m names s left t ts)) w e
      (λ v i. before_stays (codes "}") _ (λ m. parts_text m names s left t ts) v i h)

  mutual
    pub term_on : (n left : ℕ) (t u : Term Variable) (w : Written) → LeadsTo s t u → term_text n names short left u ≡ Some w
        → Stays (λ m. term_text m names s left t) w
    term_on zero left t u w leads e = cc
    term_on (suc n) zero t u w leads e = stays_soon _ w (λ m. e)
    term_on (suc n) (suc left) t u w leads e =
        stays_next _ (λ m. by_look (λ l. look_text m names s left l (leaf_text names l)) (value m s t)) w (λ m. refl)
        (by_value n t u (λ l. look_text n names short left l (leaf_text names l)) (λ m l. look_text m names s left l (leaf_text names l)) w
        leads e (λ l. look_on n left l (leaf_text names l) w))

    look_on : (n left : ℕ) (l : Look) (o : Option Bytes) (w : Written) → look_text n names short left l o ≡ Some w
        → Stays (λ m. look_text m names s left l o) w
    look_on zero left l (Some bs) w e = stays_soon _ w (λ m. e)
    look_on (suc n) left l (Some bs) w e = stays_soon _ w (λ m. e)
    look_on zero left l None w e = cc
    look_on (suc n) left (solid (cons a b)) None w e =
        stays_next _ (λ m. behind (codes "[") (and_then (term_text m names s left a) (λ k. rest_text m names s k b))) w (λ m. refl)
        (behind_stays (codes "[") _ (λ m. and_then (term_text m names s left a) (λ k. rest_text m names s k b)) w e
        (λ v i. then_stays _ _ (λ m. term_text m names s left a) (λ m k. rest_text m names s k b) v i
        (λ x j. term_on n left a a x (leads_here s a) j) (λ k x j. rest_text_on n k b b x (leads_here s b) j)))
    look_on (suc n) left (solid (tuple ts)) None w e =
        stays_next _ (λ m. tuple_text m names s left ts) w (λ m. refl) (tuple_on n left ts w e)
    look_on (suc n) left (solid (number z)) None w e = cc
    look_on (suc n) left (solid (string z)) None w e = cc
    look_on (suc n) left (solid nil) None w e = cc
    look_on (suc n) left (solid (var z)) None w e = cc
    look_on (suc n) left (solid (ro z)) None w e = cc
    look_on (suc n) left (solid (first z)) None w e = cc
    look_on (suc n) left (writable z) None w e = cc
    look_on (suc n) left (read_only z) None w e = cc

    rest_text_on : (n left : ℕ) (t u : Term Variable) (w : Written) → LeadsTo s t u → rest_text n names short left u ≡ Some w
        → Stays (λ m. rest_text m names s left t) w
    rest_text_on zero left t u w leads e = cc
    rest_text_on (suc n) zero t u w leads e = stays_soon _ w (λ m. e)
    rest_text_on (suc n) (suc left) t u w leads e =
        stays_next _ (λ m. by_look (λ l. rest_on m names s left t l) (value m s t)) w (λ m. refl)
        (by_value n t u (λ l. rest_on n names short left u l) (λ m l. rest_on m names s left t l) w leads e
        (λ l. rest_look_on n left t u l w leads))

    rest_look_on : (n left : ℕ) (t u : Term Variable) (l : Look) (w : Written) → LeadsTo s t u → rest_on n names short left u l ≡ Some w
        → Stays (λ m. rest_on m names s left t l) w
    rest_look_on zero left t u l w leads e = cc
    rest_look_on (suc n) left t u (solid nil) w leads e = stays_soon _ w (λ m. e)
    rest_look_on (suc n) left t u (solid (cons a b)) w leads e =
        stays_next _ (λ m. behind (codes ",") (and_then (term_text m names s left a) (λ k. rest_text m names s k b))) w (λ m. refl)
        (behind_stays (codes ",") _ (λ m. and_then (term_text m names s left a) (λ k. rest_text m names s k b)) w e
        (λ v i. then_stays _ _ (λ m. term_text m names s left a) (λ m k. rest_text m names s k b) v i
        (λ x j. term_on n left a a x (leads_here s a) j) (λ k x j. rest_text_on n k b b x (leads_here s b) j)))
    rest_look_on (suc n) left t u (solid (number z)) w leads e =
        stays_next _ (λ m. end_text m left t) w (λ m. refl) (end_on n left t u w (λ x j. term_on n (suc left) t u x leads j) e)
    rest_look_on (suc n) left t u (solid (string z)) w leads e =
        stays_next _ (λ m. end_text m left t) w (λ m. refl) (end_on n left t u w (λ x j. term_on n (suc left) t u x leads j) e)
    rest_look_on (suc n) left t u (solid (tuple z)) w leads e =
        stays_next _ (λ m. end_text m left t) w (λ m. refl) (end_on n left t u w (λ x j. term_on n (suc left) t u x leads j) e)
    rest_look_on (suc n) left t u (solid (var z)) w leads e =
        stays_next _ (λ m. end_text m left t) w (λ m. refl) (end_on n left t u w (λ x j. term_on n (suc left) t u x leads j) e)
    rest_look_on (suc n) left t u (solid (ro z)) w leads e =
        stays_next _ (λ m. end_text m left t) w (λ m. refl) (end_on n left t u w (λ x j. term_on n (suc left) t u x leads j) e)
    rest_look_on (suc n) left t u (solid (first z)) w leads e =
        stays_next _ (λ m. end_text m left t) w (λ m. refl) (end_on n left t u w (λ x j. term_on n (suc left) t u x leads j) e)
    rest_look_on (suc n) left t u (writable z) w leads e =
        stays_next _ (λ m. end_text m left t) w (λ m. refl) (end_on n left t u w (λ x j. term_on n (suc left) t u x leads j) e)
    rest_look_on (suc n) left t u (read_only z) w leads e =
        stays_next _ (λ m. end_text m left t) w (λ m. refl) (end_on n left t u w (λ x j. term_on n (suc left) t u x leads j) e)

    tuple_on : (n left : ℕ) (ts : Terms Variable) (w : Written) → tuple_text n names short left ts ≡ Some w
        → Stays (λ m. tuple_text m names s left ts) w
    tuple_on zero left ts w e = cc
    tuple_on (suc n) zero none w e = stays_soon _ w (λ m. e)
    tuple_on (suc n) (suc left) none w e = stays_soon _ w (λ m. e)
    tuple_on (suc n) zero (more t ts) w e =
        stays_next _ (λ m. behind (codes "{") (before (codes "}") (parts_text m names s zero t ts))) w (λ m. refl) (braces n zero t ts w (λ x j. parts_on n zero t ts x j) e)
    tuple_on (suc n) (suc left) (more t none) w e =
        stays_next _ (λ m. behind (codes "{") (before (codes "}") (parts_text m names s (suc left) t none))) w (λ m. refl)
        (braces n (suc left) t none w (λ x j. parts_on n (suc left) t none x j) e)
    tuple_on (suc n) (suc left) (more t (more u us)) w e =
        stays_next _ (λ m. by_first (λ c. named_text m left c u us) (braced_text m (suc left) t (more u us)) (value m s t)) w (λ m. refl)
        (first_found (value n short t) refl e (named n left u us w (λ x j. parts_on n left u us x j))
        (braces n (suc left) t (more u us) w (λ x j. parts_on n (suc left) t (more u us) x j)))
      where
        first_found : (o : Option Look) → value n short t ≡ o
            → by_first (λ c. behind (string_text (name_at names c) ++ codes "(") (before (codes ")") (parts_text n names short left u us)))
            (behind (codes "{") (before (codes "}") (parts_text n names short (suc left) t (more u us)))) o ≡ Some w
            → ((c : ℕ) → behind (string_text (name_at names c) ++ codes "(") (before (codes ")") (parts_text n names short left u us)) ≡ Some w
            → Stays (λ m. named_text m left c u us) w)
            → (behind (codes "{") (before (codes "}") (parts_text n names short (suc left) t (more u us))) ≡ Some w
            → Stays (λ m. braced_text m (suc left) t (more u us)) w)
            → Stays (λ m. by_first (λ c. named_text m left c u us) (braced_text m (suc left) t (more u us)) (value m s t)) w
        first_found None i f h k =
            let none = ap (λ o. behind (codes "{") (before (codes "}") o)) (no_parts names short n left t u us i) in
            let bad : None ≡ Some w = sym none ∙ f in cc
        first_found (Some l) i f h k =
            stays_by (λ m. value m s t) (λ m o. by_first (λ c. named_text m left c u us) (braced_text m (suc left) t (more u us)) o) l w
            (value_stays n t t l (leads_here s t) i) (go (string_of (Some l)) f)
          where
            go : (c : Option ℕ)
                → elim c [
                  | Some c ↦ behind (string_text (name_at names c) ++ codes "(") (before (codes ")") (parts_text n names short left u us))
                  | None ↦ behind (codes "{") (before (codes "}") (parts_text n names short (suc left) t (more u us)))
                ] ≡ Some w
                → Stays (λ m. elim c [ Some c ↦ named_text m left c u us | None ↦ braced_text m (suc left) t (more u us) ]) w
            go (Some c) g = h c g
            go None g = k g

    parts_on : (n left : ℕ) (t : Term Variable) (ts : Terms Variable) (w : Written) → parts_text n names short left t ts ≡ Some w
        → Stays (λ m. parts_text m names s left t ts) w
    parts_on zero left t ts w e = cc
    parts_on (suc n) left t none w e =
        stays_next _ (λ m. term_text m names s left t) w (λ m. refl) (term_on n left t t w (leads_here s t) e)
    parts_on (suc n) left t (more u us) w e =
        stays_next _ (λ m. and_then (before (codes ",") (term_text m names s left t)) (λ k. parts_text m names s k u us)) w (λ m. refl)
        (then_stays _ _ (λ m. before (codes ",") (term_text m names s left t)) (λ m k. parts_text m names s k u us) w e
        (λ v i. before_stays (codes ",") _ (λ m. term_text m names s left t) v i (λ x j. term_on n left t t x (leads_here s t) j))
        (λ k x j. parts_on n k u us x j))

pub texts_alike : TextsComeAlike
texts_alike names s short nodes t u n bytes shortened leads e = go (term_text n names short nodes u) refl e
  where
    go : (o : Option Written) → term_text n names short nodes u ≡ o → option_map (λ (w : Written). w.text) o ≡ Some bytes
        → (m : ℕ) × (cut_text m names s nodes t ≡ Some bytes)
    go None i f = cc
    go (Some w) i f =
        let k = term_on names s short shortened n nodes t u w leads i in
        (k.0, ap (option_map (λ (w : Written). w.text)) (k.1 k.0 (omega arith)) ∙ f)
