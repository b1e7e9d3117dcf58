-- What an item comes to stands in front of the text that the definitions have for it in some number of steps.
use Rattle.std.proofs.Common.{◌≡◌, ℕ, zero, suc, ◌+◌, ◌<◌, ◌≤◌, List, [], ◌∷◌, ◌++◌, codes, Option, Some, None}
use Rattle.std.proofs.Common.{refl, sym, ap, ◌∙◌, subst, arith, append_assoc, append-nil, inl, inr, ⊎_elim}
use Rattle.std.specs.Prelude.{◌⊎◌}
use Rattle.fcp_model.specs.Places.{Variable}
use Rattle.fcp_model.specs.Terms.{Term, nil, cons, tuple, Terms, none, more, Bindings}
use Rattle.fcp_model.specs.Value.{solid, value}
use Rattle.fcp_model.specs.Value as terms
use Rattle.fcp_model.specs.Spelling.{Bytes, string_text, name_at}
use Rattle.fcp_model.specs.TermText.{Written, written, behind, before, and_then, leaf_text, string_of, term_text, look_text, rest_text}
use Rattle.fcp_model.specs.TermText.{rest_on, tuple_text, parts_text}
use Rattle.fcp_model.proofs.MoreSteps.{at_least, value_more}
use Rattle.word_texts.specs.Turns.{closing}
use Rattle.word_texts.specs.declared.items.Bracket.{Bracket}
use Rattle.word_texts.specs.declared.items.Bracket.TheVariants.{Square, Round, Curly}
use Rattle.word_texts.proofs.Given.{one_written, Part, term, rest, others, closes, part_text}
use Rattle.word_texts.proofs.LeavesOfTerms.{Other}
use Rattle.word_texts.proofs.TurnsOfTerms.{parts_of, HasValue, leaf_shown, other_shown}

-- the parts of a text that was put together
pub record After (a : Bytes) (o : Option Written) (z : Bytes) (i : ℕ) : Type 0 where
  pub text : Bytes
  pub whole : z ≡ a ++ text
  pub is : o ≡ written text i

behind_back : (a : Bytes) (o : Option Written) (z : Bytes) (i : ℕ) → behind a o ≡ written z i → After a o z i
behind_back a None z i e = cc
behind_back a (Some w) z i e =
    let h = one_written (a ++ w.text) z w.left i e in
    record { text = w.text; whole = sym h.text; is = ap (written w.text) h.left }

record Ahead (a : Bytes) (o : Option Written) (z : Bytes) (i : ℕ) : Type 0 where
  text : Bytes
  whole : z ≡ text ++ a
  is : o ≡ written text i

before_back : (a : Bytes) (o : Option Written) (z : Bytes) (i : ℕ) → before a o ≡ written z i → Ahead a o z i
before_back a None z i e = cc
before_back a (Some w) z i e =
    let h = one_written (w.text ++ a) z w.left i e in
    record { text = w.text; whole = sym h.text; is = ap (written w.text) h.left }

record Both (o : Option Written) (f : ℕ → Option Written) (z : Bytes) (i : ℕ) : Type 0 where
  one : Bytes
  left : ℕ
  two : Bytes
  one_is : o ≡ written one left
  two_is : f left ≡ written two i
  whole : z ≡ one ++ two

then_back : (o : Option Written) (f : ℕ → Option Written) (z : Bytes) (i : ℕ) → and_then o f ≡ written z i → Both o f z i
then_back None f z i e = cc
then_back (Some w) f z i e =
    let h = behind_back w.text (f w.left) z i e in
    record { one = w.text; left = w.left; two = h.text; one_is = refl; two_is = h.is; whole = h.whole }

record ByValue (o : Option terms.Look) (g : terms.Look → Option Written) (z : Bytes) (i : ℕ) : Type 0 where
  look : terms.Look
  found : o ≡ Some look
  is : g look ≡ written z i

value_back : (o : Option terms.Look) (g : terms.Look → Option Written) (z : Bytes) (i : ℕ)
    → elim o [ None ↦ None | Some l ↦ g l ] ≡ written z i
    → ByValue o g z i
value_back None g z i e = cc
value_back (Some l) g z i e = record { look = l; found = refl; is = e }

module _ (names : List Bytes) (s : Bindings) where
  -- the texts of all, one after another, each in some number of steps
  pub data AtAll : ℕ → List Part → Bytes → ℕ → Type 0 where
    nothing : (k : ℕ) → AtAll k [] [] k
    then : (k : ℕ) (q : Part) (qs : List Part) (n : ℕ) (x : Bytes) (j : ℕ) (y : Bytes) (i : ℕ) → part_text names s k q n ≡ written x j
        → AtAll j qs y i → AtAll k (q ∷ qs) (x ++ y) i

  pub record First (k : ℕ) (q : Part) (qs : List Part) (z : Bytes) (i : ℕ) : Type 0 where
    pub steps : ℕ
    pub text : Bytes
    pub left : ℕ
    pub after : Bytes
    pub first : part_text names s k q steps ≡ written text left
    pub others : AtAll left qs after i
    pub is : z ≡ text ++ after

  pub first_at : (k : ℕ) (q : Part) (qs : List Part) (z : Bytes) (i : ℕ) → AtAll k (q ∷ qs) z i → First k q qs z i
  first_at k q qs _ _ (then _ _ _ n x j y i e h) =
      record { steps = n; text = x; left = j; after = y; first = e; others = h; is = refl }

  pub all_at : (k : ℕ) (qs rs : List Part) (x : Bytes) (j : ℕ) (y : Bytes) (i : ℕ) → AtAll k qs x j → AtAll j rs y i
      → AtAll k (qs ++ rs) (x ++ y) i
  all_at _ [] rs _ _ y i (nothing k) h = h
  all_at _ (q ∷ qs) rs _ _ y i (then k _ _ n x j z l e g) h =
      subst (λ (w : Bytes). AtAll k (q ∷ (qs ++ rs)) w i) (sym (append_assoc x z y))
      (then k q (qs ++ rs) n x j (z ++ y) i e (all_at j qs rs z l y i g h))

  pub one_at : (k : ℕ) (q : Part) (n : ℕ) (x : Bytes) (i : ℕ) → part_text names s k q n ≡ written x i → AtAll k (q ∷ []) x i
  one_at k q n x i e = subst (λ (w : Bytes). AtAll k (q ∷ []) w i) (append-nil x) (then k q [] n x i [] i e (nothing i))

  two_at : (k : ℕ) (q r : Part) (n : ℕ) (x : Bytes) (j : ℕ) (y : Bytes) (i : ℕ) → part_text names s k q n ≡ written x j
      → part_text names s j r n ≡ written y i → AtAll k (q ∷ r ∷ []) (x ++ y) i
  two_at k q r n x j y i e h = then k q (r ∷ []) n x j y i e (one_at j r n y i h)

  -- a text that goes on as the parts do
  pub record GoesOn (x : Bytes) (j : ℕ) (qs : List Part) (z : Bytes) (i : ℕ) : Type 0 where
    pub text : Bytes
    pub whole : z ≡ x ++ text
    pub others : AtAll j qs text i

  -- whatever the text of a part is, it begins so and goes on as the parts do
  abbrev pub Back : ℕ → Part → Bytes → ℕ → List Part → Type 0
  Back k q x j qs = (n : ℕ) (z : Bytes) (i : ℕ) → part_text names s k q n ≡ written z i → GoesOn x j qs z i

  ends_so : (x : Bytes) (j : ℕ) (z : Bytes) (i : ℕ) → written x j ≡ written z i → GoesOn x j [] z i
  ends_so x j z i e =
      let h = one_written x z j i e in
      record { text = []; whole = sym (append-nil x ∙ h.text); others = subst (λ (c : ℕ). AtAll j [] [] c) h.left (nothing j) }

  pub cut_back : (k : ℕ) (t : Term Variable) → k ≡ 0 → Back k (term t) (codes "..") 0 []
  cut_back k t c zero z i e = cc
  cut_back zero t c (suc n) z i e = ends_so (codes "..") 0 z i e
  cut_back (suc k) t c (suc n) z i e = absurd (omega arith)

  pub rest_cut_back : (k : ℕ) (t : Term Variable) → k ≡ 0 → Back k (rest t) (codes "|..]") 0 []
  rest_cut_back k t c zero z i e = cc
  rest_cut_back zero t c (suc n) z i e = ends_so (codes "|..]") 0 z i e
  rest_cut_back (suc k) t c (suc n) z i e = absurd (omega arith)

  -- there is one value
  one_value : (n : ℕ) (t : Term Variable) (v w : terms.Look) (b : ℕ) → HasValue names s t v b → value n s t ≡ Some w → w ≡ v
  one_value n t v w b h e =
      let more = at_least (λ (m : ℕ). value m s t) (value_more s t) n (n + b) (omega arith) w e in
      let same : Some w ≡ Some v = sym more ∙ h (n + b) (omega arith) in cc

  by_term : (k n : ℕ) (t : Term Variable) (v : terms.Look) (b : ℕ) (z : Bytes) (i : ℕ) → HasValue names s t v b
      → term_text (suc n) names s (suc k) t ≡ written z i → look_text n names s k v (leaf_text names v) ≡ written z i
  by_term k n t v b z i h e =
      let r = value_back (value n s t) (λ (l : terms.Look). look_text n names s k l (leaf_text names l)) z i e in
      subst (λ (l : terms.Look). look_text n names s k l (leaf_text names l) ≡ written z i) (one_value n t v r.look b h r.found) r.is

  by_rest : (k n : ℕ) (t : Term Variable) (v : terms.Look) (b : ℕ) (z : Bytes) (i : ℕ) → HasValue names s t v b
      → rest_text (suc n) names s (suc k) t ≡ written z i → rest_on n names s k t v ≡ written z i
  by_rest k n t v b z i h e =
      let r = value_back (value n s t) (λ (l : terms.Look). rest_on n names s k t l) z i e in
      subst (λ (l : terms.Look). rest_on n names s k t l ≡ written z i) (one_value n t v r.look b h r.found) r.is

  pub leaf_back : (k : ℕ) (t : Term Variable) (v : terms.Look) (b : ℕ) (x : Bytes) → HasValue names s t v b → leaf_text names v ≡ Some x
      → Back (suc k) (term t) x k []
  leaf_back k t v b x h l zero z i e = cc
  leaf_back k t v b x h l (suc n) z i e =
      ends_so x k z i (sym (ap (look_text n names s k v) l ∙ leaf_shown names s n k v x) ∙ by_term k n t v b z i h e)

  -- a pair's two parts
  pair_on : (a : Bytes) (k n : ℕ) (h u : Term Variable) (z : Bytes) (i : ℕ)
      → behind a (and_then (term_text n names s k h) (λ (c : ℕ). rest_text n names s c u)) ≡ written z i
      → GoesOn a k (term h ∷ rest u ∷ []) z i
  pair_on a k n h u z i e =
      let r = behind_back a (and_then (term_text n names s k h) (λ (c : ℕ). rest_text n names s c u)) z i e in
      let q = then_back (term_text n names s k h) (λ (c : ℕ). rest_text n names s c u) r.text i r.is in
      record {
        text = r.text;
        whole = r.whole;
        others = subst (λ (w : Bytes). AtAll k (term h ∷ rest u ∷ []) w i) (sym q.whole)
            (two_at k (term h) (rest u) n q.one q.left q.two i q.one_is q.two_is);
      }

  pub pair_back : (k : ℕ) (t h u : Term Variable) (b : ℕ) → HasValue names s t (solid (cons h u)) b
      → Back (suc k) (term t) (codes "[") k (term h ∷ rest u ∷ [])
  pair_back k t h u b v zero z i e = cc
  pair_back k t h u b v (suc n) z i e = go n (by_term k n t (solid (cons h u)) b z i v e)
    where
      go : (n : ℕ) → look_text n names s k (solid (cons h u)) None ≡ written z i → GoesOn (codes "[") k (term h ∷ rest u ∷ []) z i
      go zero f = cc
      go (suc n) f = pair_on (codes "[") k n h u z i f

  pub goes_back : (k : ℕ) (t h u : Term Variable) (b : ℕ) → HasValue names s t (solid (cons h u)) b
      → Back (suc k) (rest t) (codes ",") k (term h ∷ rest u ∷ [])
  goes_back k t h u b v zero z i e = cc
  goes_back k t h u b v (suc n) z i e = go n (by_rest k n t (solid (cons h u)) b z i v e)
    where
      go : (n : ℕ) → rest_on n names s k t (solid (cons h u)) ≡ written z i → GoesOn (codes ",") k (term h ∷ rest u ∷ []) z i
      go zero f = cc
      go (suc n) f = pair_on (codes ",") k n h u z i f

  pub end_back : (k : ℕ) (t : Term Variable) (b : ℕ) → HasValue names s t (solid nil) b → Back (suc k) (rest t) (codes "]") k []
  end_back k t b v zero z i e = cc
  end_back k t b v (suc n) z i e = go n (by_rest k n t (solid nil) b z i v e)
    where
      go : (n : ℕ) → rest_on n names s k t (solid nil) ≡ written z i → GoesOn (codes "]") k [] z i
      go zero f = cc
      go (suc n) f = ends_so (codes "]") k z i f

  pub other_back : (k : ℕ) (t : Term Variable) (w : terms.Look) (b : ℕ) → HasValue names s t w b → Other w
      → Back (suc k) (rest t) (codes "|") (suc k) (term t ∷ closes Square ∷ [])
  other_back k t w b v o zero z i e = cc
  other_back k t w b v o (suc n) z i e = go n (by_rest k n t w b z i v e)
    where
      go : (n : ℕ) → rest_on n names s k t w ≡ written z i → GoesOn (codes "|") (suc k) (term t ∷ closes Square ∷ []) z i
      go zero f = cc
      go (suc n) f =
          let whole = sym (other_shown names s n k t w o) ∙ f in
          let r = behind_back (codes "|") (before (codes "]") (term_text n names s (suc k) t)) z i whole in
          let q = before_back (codes "]") (term_text n names s (suc k) t) r.text i r.is in
          record {
            text = r.text;
            whole = r.whole;
            others = subst (λ (y : Bytes). AtAll (suc k) (term t ∷ closes Square ∷ []) y i) (sym q.whole)
                (two_at (suc k) (term t) (closes Square) n q.text i (codes "]") i q.is refl);
          }

  -- the parts of a tuple
  pub parts_back : (n k : ℕ) (t : Term Variable) (ts : Terms Variable) (x : Bytes) (i : ℕ) → parts_text n names s k t ts ≡ written x i
      → AtAll k (parts_of (more t ts)) x i
  parts_back zero k t ts x i e = cc
  parts_back (suc n) k t none x i e =
      subst (λ (w : Bytes). AtAll k (parts_of (more t none)) w i) (append-nil x) (two_at k (term t) (others none) n x i [] i e refl)
  parts_back (suc n) k t (more u us) x i e =
      let r = then_back (before (codes ",") (term_text n names s k t)) (λ (c : ℕ). parts_text n names s c u us) x i e in
      let q = before_back (codes ",") (term_text n names s k t) r.one r.left r.one_is in
      subst (λ (w : Bytes). AtAll k (parts_of (more t (more u us))) w i)
      (sym (append_assoc q.text (codes ",") r.two) ∙ (ap (λ (y : Bytes). y ++ r.two) (sym q.whole) ∙ sym r.whole))
      (two_at k (term t) (others (more u us)) n q.text r.left (codes "," ++ r.two) i q.is (ap (behind (codes ",")) r.two_is))

  -- between brackets
  closed_back : (a : Bytes) (b : Bracket) (n k : ℕ) (t : Term Variable) (ts : Terms Variable) (z : Bytes) (i : ℕ)
      → behind a (before (closing b) (parts_text n names s k t ts)) ≡ written z i
      → GoesOn a k (parts_of (more t ts) ++ closes b ∷ []) z i
  closed_back a b n k t ts z i e =
      let r = behind_back a (before (closing b) (parts_text n names s k t ts)) z i e in
      let q = before_back (closing b) (parts_text n names s k t ts) r.text i r.is in
      record {
        text = r.text;
        whole = r.whole;
        others = subst (λ (w : Bytes). AtAll k (parts_of (more t ts) ++ closes b ∷ []) w i) (sym q.whole)
            (all_at k (parts_of (more t ts)) (closes b ∷ []) q.text i (closing b) i (parts_back n k t ts q.text i q.is)
            (one_at i (closes b) n (closing b) i refl));
      }

  -- a value that is not found gives no parts
  no_parts : (n k : ℕ) (h u : Term Variable) (us : Terms Variable) → value n s h ≡ None → parts_text n names s (suc k) h (more u us) ≡ None
  no_parts zero k h u us e = refl
  no_parts (suc zero) k h u us e = refl
  no_parts (suc (suc n)) k h u us e =
      ap (λ (o : Option terms.Look).
      and_then (before (codes ",") (elim o [ None ↦ None | Some l ↦ look_text n names s k l (leaf_text names l) ]))
      (λ (c : ℕ). parts_text (suc n) names s c u us)) (go (value n s h) refl)
    where
      go : (o : Option terms.Look) → value n s h ≡ o → o ≡ None
      go None i = refl
      go (Some v) i =
          let there = at_least (λ (m : ℕ). value m s h) (value_more s h) n (suc (suc n)) (omega arith) v i in
          let no : Some v ≡ None = sym there ∙ e in cc

  -- the string of a value that is found
  string_back : (n : ℕ) (h : Term Variable) (o : Option ℕ) (c : ℕ) → ((m : ℕ) → c ≤ m → string_of (value m s h) ≡ o)
      → (value n s h ≡ None) ⊎ (string_of (value n s h) ≡ o)
  string_back n h o c f = go (value n s h) refl
    where
      go : (w : Option terms.Look) → value n s h ≡ w → (value n s h ≡ None) ⊎ (string_of (value n s h) ≡ o)
      go None i = inl i
      go (Some v) i =
          let there = at_least (λ (m : ℕ). value m s h) (value_more s h) n (n + c) (omega arith) v i in
          inr (ap string_of (i ∙ sym there) ∙ f (n + c) (omega arith))

  -- the two forms of a tuple of two parts or more, by the string that the first one's value is
  abbrev forms : ℕ → ℕ → Term Variable → Term Variable → Terms Variable → Option ℕ → Option Written
  forms n k h u us o = elim o [
    | Some c ↦ behind (string_text (name_at names c) ++ codes "(") (before (codes ")") (parts_text n names s k u us))
    | None ↦ behind (codes "{") (before (codes "}") (parts_text n names s (suc k) h (more u us)))
  ]

  -- where the value is not found, no text is given
  no_form : (n k : ℕ) (h u : Term Variable) (us : Terms Variable) → value n s h ≡ None → forms n k h u us (string_of (value n s h)) ≡ None
  no_form n k h u us e =
      ap (λ (o : Option terms.Look). forms n k h u us (string_of o)) e
      ∙ ap (λ (o : Option Written). behind (codes "{") (before (codes "}") o)) (no_parts n k h u us e)

  by_string : (n k : ℕ) (h u : Term Variable) (us : Terms Variable) (o : Option ℕ) (c : ℕ) (z : Bytes) (i : ℕ)
      → ((m : ℕ) → c ≤ m → string_of (value m s h) ≡ o) → forms n k h u us (string_of (value n s h)) ≡ written z i
      → forms n k h u us o ≡ written z i
  by_string n k h u us o c z i f e =
      ⊎_elim (λ w. absurd (let no : None ≡ written z i = sym (no_form n k h u us w) ∙ e in cc))
      (λ w. sym (ap (forms n k h u us) w) ∙ e) (string_back n h o c f)

  -- a tuple by its text after its node
  by_tuple : (k n : ℕ) (t : Term Variable) (ts : Terms Variable) (b : ℕ) (z : Bytes) (i : ℕ) (G : Type 0)
      → HasValue names s t (solid (tuple ts)) b
      → term_text (suc n) names s (suc k) t ≡ written z i → ((m : ℕ) → tuple_text (suc m) names s k ts ≡ written z i → G) → G
  by_tuple k n t ts b z i G v e f = go n (by_term k n t (solid (tuple ts)) b z i v e)
    where
      go : (n : ℕ) → look_text n names s k (solid (tuple ts)) None ≡ written z i → G
      go zero h = cc
      go (suc zero) h = cc
      go (suc (suc m)) h = f m h

  pub curly_back : (k : ℕ) (t : Term Variable) (ts : Terms Variable) (b : ℕ) → HasValue names s t (solid (tuple ts)) b
      → ((h u : Term Variable) (us : Terms Variable) → ts ≡ more h (more u us) → 0 < k
      → (c : ℕ) × ((n : ℕ) → c ≤ n → string_of (value n s h) ≡ None))
      → Back (suc k) (term t) (codes "{") k (parts_of ts ++ closes Curly ∷ [])
  curly_back k t ts b v f zero z i e = cc
  curly_back k t ts b v f (suc n) z i e =
      by_tuple k n t ts b z i (GoesOn (codes "{") k (parts_of ts ++ closes Curly ∷ []) z i) v e (λ m. go k ts m f)
    where
      go : (k : ℕ) (ts : Terms Variable) (m : ℕ) → ((h u : Term Variable) (us : Terms Variable) → ts ≡ more h (more u us) → 0 < k
          → (c : ℕ) × ((n : ℕ) → c ≤ n → string_of (value n s h) ≡ None)) → tuple_text (suc m) names s k ts ≡ written z i
          → GoesOn (codes "{") k (parts_of ts ++ closes Curly ∷ []) z i
      go zero none m f h =
          let r = behind_back (codes "{") (written (codes "}") 0) z i h in
          record { text = r.text; whole = r.whole; others = one_at 0 (closes Curly) 0 r.text i r.is }
      go (suc k) none m f h =
          let r = behind_back (codes "{") (written (codes "}") (suc k)) z i h in
          record { text = r.text; whole = r.whole; others = one_at (suc k) (closes Curly) 0 r.text i r.is }
      go zero (more t us) m f h = closed_back (codes "{") Curly m 0 t us z i h
      go (suc k) (more t none) m f h = closed_back (codes "{") Curly m (suc k) t none z i h
      go (suc k) (more t (more u us)) m f h =
          let c = f t u us refl (omega arith) in
          closed_back (codes "{") Curly m (suc k) t (more u us) z i (by_string m k t u us None c.0 z i c.1 h)

  pub round_back : (k : ℕ) (t h u : Term Variable) (us : Terms Variable) (b c d : ℕ)
      → HasValue names s t (solid (tuple (more h (more u us)))) b
      → ((n : ℕ) → c ≤ n → string_of (value n s h) ≡ Some d)
      → Back (suc (suc k)) (term t) (string_text (name_at names d) ++ codes "(") k (parts_of (more u us) ++ closes Round ∷ [])
  round_back k t h u us b c d v f zero z i e = cc
  round_back k t h u us b c d v f (suc n) z i e =
      by_tuple (suc k) n t (more h (more u us)) b z i
      (GoesOn (string_text (name_at names d) ++ codes "(") k (parts_of (more u us) ++ closes Round ∷ []) z i) v e
      (λ m g. closed_back (string_text (name_at names d) ++ codes "(") Round m k u us z i (by_string m k h u us (Some d) c z i f g))

  -- further parts, and a closing bracket
  pub none_back : (k : ℕ) → Back k (others none) [] k []
  none_back k n z i e = ends_so [] k z i e

  pub more_back : (k : ℕ) (t : Term Variable) (ts : Terms Variable) → Back k (others (more t ts)) (codes ",") k (parts_of (more t ts))
  more_back k t ts n z i e =
      let r = behind_back (codes ",") (parts_text n names s k t ts) z i e in
      record { text = r.text; whole = r.whole; others = parts_back n k t ts r.text i r.is }

  pub close_back : (k : ℕ) (b : Bracket) → Back k (closes b) (closing b) k []
  close_back k b n z i e = ends_so (closing b) k z i e
