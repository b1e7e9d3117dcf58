-- What an item of words comes to is what the definitions write of its term.
use Rattle.std.proofs.Common.{◌≡◌, ℕ, zero, suc, ◌+◌, ◌<◌, ◌≤◌, List, [], ◌∷◌, ◌++◌, codes, Option, Some, None}
use Rattle.std.proofs.Common.{refl, sym, ap, ap₂, ◌∙◌, arith, append_assoc, append-nil}
use Rattle.fcp_model.specs.Places.{Variable}
use Rattle.fcp_model.specs.Terms.{Term, number, string, nil, cons, tuple, Terms, none, more, Bindings}
use Rattle.fcp_model.specs.Terms as term_cases
use Rattle.fcp_model.specs.Value.{writable, read_only, solid, value}
use Rattle.fcp_model.specs.Value as terms
use Rattle.fcp_model.specs.Spelling.{Bytes, string_text, name_at}
use Rattle.fcp_model.specs.TermText.{Written, written, behind, before, and_then, leaf_text, string_of, term_text, look_text}
use Rattle.fcp_model.specs.TermText.{rest_text, rest_on}
use Rattle.fcp_model.specs.TermText.{tuple_text, parts_text}
use Rattle.word_texts.specs.Turns.{closing}
use Rattle.word_texts.specs.declared.items.Bracket.{Bracket}
use Rattle.word_texts.specs.declared.items.Bracket.TheVariants.{Square, Round, Curly}
use Rattle.word_texts.proofs.Given.{Gives, gives_same, one_written, behind_after, Part, term, rest, others, closes, part_text}
use Rattle.word_texts.proofs.Given.{GivesAll, begins}
use Rattle.word_texts.proofs.Given.{nothing_is, last_is}
use Rattle.word_texts.proofs.LeavesOfTerms.{Other}

-- one text after another
two_texts : (x y : Bytes) (j i : ℕ) (o : Option Written) (f : ℕ → Option Written) → o ≡ written x j → f j ≡ written y i
    → and_then o f ≡ written (x ++ y) i
two_texts x y j i o f e h = ap (λ (q : Option Written). and_then q f) e ∙ ap (behind x) h

then_text : (a y : Bytes) (i : ℕ) (o : Option Written) → o ≡ written y i → behind a o ≡ written (a ++ y) i
then_text a y i o e = ap (behind a) e

before_text : (a y : Bytes) (i : ℕ) (o : Option Written) → o ≡ written y i → before a o ≡ written (y ++ a) i
before_text a y i o e = ap (before a) e

-- the parts of a tuple
abbrev pub parts_of : Terms Variable → List Part
parts_of none = []
parts_of (more t ts) = term t ∷ others ts ∷ []

module _ (names : List Bytes) (s : Bindings) where
  -- A term and others come to parts with commas between.
  pub parts_given : (k : ℕ) (t : Term Variable) (ts : Terms Variable) (x y : Bytes) (j i : ℕ) → Gives (part_text names s k (term t)) x j
      → Gives (part_text names s j (others ts)) y i → Gives (λ n. parts_text n names s k t ts) (x ++ y) i
  parts_given k t none x y j i g h = record { steps = suc g.steps; is = there }
    where
      there : (n : ℕ) → suc g.steps ≤ n → parts_text n names s k t none ≡ written (x ++ y) i
      there zero l = absurd (omega arith)
      there (suc n) l =
          let e = one_written [] y j i (h.is h.steps (omega arith)) in
          g.is n (omega arith) ∙ ap₂ written (sym (append-nil x) ∙ ap (λ (z : Bytes). x ++ z) e.text) e.left
  parts_given k t (more u us) x y j i g h = record { steps = suc (g.steps + h.steps); is = there }
    where
      there : (n : ℕ) → suc (g.steps + h.steps) ≤ n → parts_text n names s k t (more u us) ≡ written (x ++ y) i
      there zero l = absurd (omega arith)
      there (suc n) l =
          ap (λ (q : Option Written). and_then (before (codes ",") q) (λ (b : ℕ). parts_text n names s b u us)) (g.is n (omega arith))
          ∙ behind_after x (codes ",") y i (parts_text n names s j u us) (h.is n (omega arith))

  -- and with a closing bracket
  pub record Closed (k : ℕ) (t : Term Variable) (ts : Terms Variable) (b : Bracket) (z : Bytes) (i : ℕ) : Type 0 where
    pub text : Bytes
    pub parts : Gives (λ n. parts_text n names s k t ts) text i
    pub is : z ≡ text ++ closing b

  pub closed_parts : (k : ℕ) (t : Term Variable) (ts : Terms Variable) (b : Bracket) (z : Bytes) (i : ℕ)
      → GivesAll names s k (parts_of (more t ts) ++ closes b ∷ []) z i → Closed k t ts b z i
  closed_parts k t ts b z i g =
      let one = begins names s k (term t) (others ts ∷ closes b ∷ []) z i g in
      let two = begins names s one.left (others ts) (closes b ∷ []) one.after i one.others in
      let end = last_is names s two.left (closes b) two.after i two.others in
      let e = one_written (closing b) two.after two.left i (end.is end.steps (omega arith)) in
      record {
        text = one.text ++ two.text;
        parts = gives_same refl e.left (parts_given k t ts one.text two.text one.left two.left one.first two.first);
        is = one.is ∙ (ap (λ (y : Bytes). one.text ++ y) (two.is ∙ ap (λ (y : Bytes). two.text ++ y) (sym e.text))
            ∙ sym (append_assoc one.text two.text (closing b)));
      }

  -- a bracket alone
  pub closed_none : (k : ℕ) (b : Bracket) (z : Bytes) (i : ℕ) → GivesAll names s k (closes b ∷ []) z i → written (closing b) k ≡ written z i
  closed_none k b z i g = let end = last_is names s k (closes b) z i g in end.is end.steps (omega arith)

  -- where a value is found
  valued : (k n : ℕ) (t : Term Variable) (v : terms.Look) → value n s t ≡ Some v
      → term_text (suc n) names s (suc k) t ≡ look_text n names s k v (leaf_text names v)
  valued k n t v e = ap (λ (o : Option terms.Look). elim o [ None ↦ None | Some l ↦ look_text n names s k l (leaf_text names l) ]) e

  rest_valued : (k n : ℕ) (t : Term Variable) (v : terms.Look) → value n s t ≡ Some v
      → rest_text (suc n) names s (suc k) t ≡ rest_on n names s k t v
  rest_valued k n t v e = ap (λ (o : Option terms.Look). elim o [ None ↦ None | Some l ↦ rest_on n names s k t l ]) e

  pub leaf_shown : (n k : ℕ) (v : terms.Look) (bs : Bytes) → look_text n names s k v (Some bs) ≡ written bs k
  leaf_shown zero k v bs = refl
  leaf_shown (suc n) k v bs = refl

  pub other_shown : (n k : ℕ) (t : Term Variable) (v : terms.Look) → Other v
      → rest_on (suc n) names s k t v ≡ behind (codes "|") (before (codes "]") (term_text n names s (suc k) t))
  other_shown n k t (writable v) o = refl
  other_shown n k t (read_only v) o = refl
  other_shown n k t (solid (number z)) o = refl
  other_shown n k t (solid (string c)) o = refl
  other_shown n k t (solid (tuple ts)) o = refl
  other_shown n k t (solid nil) o = absurd o
  other_shown n k t (solid (cons h u)) o = absurd o
  other_shown n k t (solid (term_cases.var v)) o = refl
  other_shown n k t (solid (term_cases.ro v)) o = refl
  other_shown n k t (solid (term_cases.first c)) o = refl

  -- what a part comes to: a text, and further parts with the nodes that are left
  abbrev pub GivesOn : ℕ → Part → Bytes → ℕ → List Part → Type 0
  GivesOn k q x j qs = (z : Bytes) (i : ℕ) → GivesAll names s j qs z i → Gives (part_text names s k q) (x ++ z) i

  pub on_end : (k : ℕ) (q : Part) (x : Bytes) (j : ℕ) → Gives (part_text names s k q) x j → GivesOn k q x j []
  on_end k q x j h z i g =
      let e = nothing_is names s j z i g in
      gives_same (sym (ap (λ (y : Bytes). x ++ y) e.text ∙ append-nil x)) (sym e.left) h

  pub cut_gives : (k : ℕ) (t : Term Variable) → k ≡ 0 → GivesOn k (term t) (codes "..") 0 []
  cut_gives k t e = on_end k (term t) (codes "..") 0 (record { steps = 1; is = λ n l. there k n e l })
    where
      there : (k n : ℕ) → k ≡ 0 → 1 ≤ n → term_text n names s k t ≡ written (codes "..") 0
      there k zero e l = absurd (omega arith)
      there zero (suc n) e l = refl
      there (suc k) (suc n) e l = absurd (omega arith)

  pub rest_cut_gives : (k : ℕ) (t : Term Variable) → k ≡ 0 → GivesOn k (rest t) (codes "|..]") 0 []
  rest_cut_gives k t e = on_end k (rest t) (codes "|..]") 0 (record { steps = 1; is = λ n l. there k n e l })
    where
      there : (k n : ℕ) → k ≡ 0 → 1 ≤ n → rest_text n names s k t ≡ written (codes "|..]") 0
      there k zero e l = absurd (omega arith)
      there zero (suc n) e l = refl
      there (suc k) (suc n) e l = absurd (omega arith)

  -- the value, from some number of steps on
  abbrev pub HasValue : Term Variable → terms.Look → ℕ → Type 0
  HasValue t v b = (n : ℕ) → b ≤ n → value n s t ≡ Some v

  pub leaf_gives : (k : ℕ) (t : Term Variable) (v : terms.Look) (b : ℕ) (x : Bytes) → HasValue t v b → leaf_text names v ≡ Some x
      → GivesOn (suc k) (term t) x k []
  leaf_gives k t v b x h e = on_end (suc k) (term t) x k (record { steps = suc b; is = there })
    where
      there : (n : ℕ) → suc b ≤ n → term_text n names s (suc k) t ≡ written x k
      there zero l = absurd (omega arith)
      there (suc n) l = valued k n t v (h n (omega arith)) ∙ (ap (look_text n names s k v) e ∙ leaf_shown n k v x)

  pub pair_gives : (k : ℕ) (t h u : Term Variable) (b : ℕ) → HasValue t (solid (cons h u)) b
      → GivesOn (suc k) (term t) (codes "[") k (term h ∷ rest u ∷ [])
  pair_gives k t h u b v z i g =
      let one = begins names s k (term h) (rest u ∷ []) z i g in
      let two = last_is names s one.left (rest u) one.after i one.others in
      record { steps = suc (suc (b + one.first.steps + two.steps)); is = there one.text one.left one.after one.is one.first two }
    where
      there : (x : Bytes) (j : ℕ) (y : Bytes) → z ≡ x ++ y → (f : Gives (part_text names s k (term h)) x j)
          → (r : Gives (part_text names s j (rest u)) y i) → (n : ℕ) → suc (suc (b + f.steps + r.steps)) ≤ n
          → term_text n names s (suc k) t ≡ written (codes "[" ++ z) i
      there x j y e f r zero l = absurd (omega arith)
      there x j y e f r (suc zero) l = absurd (omega arith)
      there x j y e f r (suc (suc n)) l =
          valued k (suc n) t (solid (cons h u)) (v (suc n) (omega arith))
          ∙ (then_text (codes "[") (x ++ y) i (and_then (term_text n names s k h) (λ (c : ℕ). rest_text n names s c u))
          (two_texts x y j i (term_text n names s k h) (λ (c : ℕ). rest_text n names s c u) (f.is n (omega arith)) (r.is n (omega arith)))
          ∙ ap (λ (w : Bytes). written (codes "[" ++ w) i) (sym e))

  pub goes_gives : (k : ℕ) (t h u : Term Variable) (b : ℕ) → HasValue t (solid (cons h u)) b
      → GivesOn (suc k) (rest t) (codes ",") k (term h ∷ rest u ∷ [])
  goes_gives k t h u b v z i g =
      let one = begins names s k (term h) (rest u ∷ []) z i g in
      let two = last_is names s one.left (rest u) one.after i one.others in
      record { steps = suc (suc (b + one.first.steps + two.steps)); is = there one.text one.left one.after one.is one.first two }
    where
      there : (x : Bytes) (j : ℕ) (y : Bytes) → z ≡ x ++ y → (f : Gives (part_text names s k (term h)) x j)
          → (r : Gives (part_text names s j (rest u)) y i) → (n : ℕ) → suc (suc (b + f.steps + r.steps)) ≤ n
          → rest_text n names s (suc k) t ≡ written (codes "," ++ z) i
      there x j y e f r zero l = absurd (omega arith)
      there x j y e f r (suc zero) l = absurd (omega arith)
      there x j y e f r (suc (suc n)) l =
          rest_valued k (suc n) t (solid (cons h u)) (v (suc n) (omega arith))
          ∙ (then_text (codes ",") (x ++ y) i (and_then (term_text n names s k h) (λ (c : ℕ). rest_text n names s c u))
          (two_texts x y j i (term_text n names s k h) (λ (c : ℕ). rest_text n names s c u) (f.is n (omega arith)) (r.is n (omega arith)))
          ∙ ap (λ (w : Bytes). written (codes "," ++ w) i) (sym e))

  pub end_gives : (k : ℕ) (t : Term Variable) (b : ℕ) → HasValue t (solid nil) b → GivesOn (suc k) (rest t) (codes "]") k []
  end_gives k t b v = on_end (suc k) (rest t) (codes "]") k (record { steps = suc (suc b); is = there })
    where
      there : (n : ℕ) → suc (suc b) ≤ n → rest_text n names s (suc k) t ≡ written (codes "]") k
      there zero l = absurd (omega arith)
      there (suc zero) l = absurd (omega arith)
      there (suc (suc n)) l = rest_valued k (suc n) t (solid nil) (v (suc n) (omega arith))

  pub other_gives : (k : ℕ) (t : Term Variable) (w : terms.Look) (b : ℕ) → HasValue t w b → Other w
      → GivesOn (suc k) (rest t) (codes "|") (suc k) (term t ∷ closes Square ∷ [])
  other_gives k t w b v o z i g =
      let one = begins names s (suc k) (term t) (closes Square ∷ []) z i g in
      let end = closed_none one.left Square one.after i one.others in
      record { steps = suc (suc (b + one.first.steps)); is = there one.text one.left one.after one.is one.first end }
    where
      there : (x : Bytes) (j : ℕ) (y : Bytes) → z ≡ x ++ y → (f : Gives (part_text names s (suc k) (term t)) x j)
          → written (codes "]") j ≡ written y i → (n : ℕ) → suc (suc (b + f.steps)) ≤ n
          → rest_text n names s (suc k) t ≡ written (codes "|" ++ z) i
      there x j y e f h zero l = absurd (omega arith)
      there x j y e f h (suc zero) l = absurd (omega arith)
      there x j y e f h (suc (suc n)) l =
          let q = one_written (codes "]") y j i h in
          rest_valued k (suc n) t w (v (suc n) (omega arith))
          ∙ (other_shown n k t w o
          ∙ (then_text (codes "|") (x ++ codes "]") j (before (codes "]") (term_text n names s (suc k) t))
          (before_text (codes "]") x j (term_text n names s (suc k) t) (f.is n (omega arith)))
          ∙ ap₂ (λ (a : Bytes) (c : ℕ). written (codes "|" ++ a) c) (ap (λ (a : Bytes). x ++ a) q.text ∙ sym e) q.left))

  -- a tuple by its text after its node
  tuple_valued : (k : ℕ) (t : Term Variable) (ts : Terms Variable) (b : ℕ) (x : Bytes) (i : ℕ) → HasValue t (solid (tuple ts)) b
      → Gives (λ n. tuple_text n names s k ts) x i → Gives (part_text names s (suc k) (term t)) x i
  tuple_valued k t ts b x i v g = record { steps = suc (suc (b + g.steps)); is = there }
    where
      there : (n : ℕ) → suc (suc (b + g.steps)) ≤ n → term_text n names s (suc k) t ≡ written x i
      there zero l = absurd (omega arith)
      there (suc zero) l = absurd (omega arith)
      there (suc (suc n)) l = valued k (suc n) t (solid (tuple ts)) (v (suc n) (omega arith)) ∙ g.is n (omega arith)

  pub curly_gives : (k : ℕ) (t : Term Variable) (ts : Terms Variable) (b : ℕ) → HasValue t (solid (tuple ts)) b
      → ((h u : Term Variable) (us : Terms Variable) → ts ≡ more h (more u us) → 0 < k
      → (c : ℕ) × ((n : ℕ) → c ≤ n → string_of (value n s h) ≡ None))
      → GivesOn (suc k) (term t) (codes "{") k (parts_of ts ++ closes Curly ∷ [])
  curly_gives k t none b v f z i g =
      tuple_valued k t none b (codes "{" ++ z) i v (record { steps = 1; is = there k (closed_none k Curly z i g) })
    where
      there : (k : ℕ) → written (codes "}") k ≡ written z i → (n : ℕ) → 1 ≤ n → tuple_text n names s k none ≡ written (codes "{" ++ z) i
      there k e zero l = absurd (omega arith)
      there zero e (suc n) l = then_text (codes "{") z i (written (codes "}") 0) e
      there (suc k) e (suc n) l = then_text (codes "{") z i (written (codes "}") (suc k)) e
  curly_gives k t (more h us) b v f z i g =
      let c = closed_parts k h us Curly z i g in
      tuple_valued k t (more h us) b (codes "{" ++ z) i v
      (gives_same (ap (λ (y : Bytes). codes "{" ++ y) (sym c.is)) refl (braced k us c.text c.parts f))
    where
      braced : (k : ℕ) (us : Terms Variable) (x : Bytes) → Gives (λ n. parts_text n names s k h us) x i
          → ((h' u : Term Variable) (us' : Terms Variable) → more h us ≡ more h' (more u us') → 0 < k
          → (c : ℕ) × ((n : ℕ) → c ≤ n → string_of (value n s h') ≡ None))
          → Gives (λ n. tuple_text n names s k (more h us)) (codes "{" ++ (x ++ codes "}")) i
      braced zero us x p f = record { steps = suc p.steps; is = there }
        where
          there : (n : ℕ) → suc p.steps ≤ n → tuple_text n names s 0 (more h us) ≡ written (codes "{" ++ (x ++ codes "}")) i
          there zero l = absurd (omega arith)
          there (suc n) l =
              then_text (codes "{") (x ++ codes "}") i (before (codes "}") (parts_text n names s 0 h us))
              (before_text (codes "}") x i (parts_text n names s 0 h us) (p.is n (omega arith)))
      braced (suc k) none x p f = record { steps = suc p.steps; is = there }
        where
          there : (n : ℕ) → suc p.steps ≤ n → tuple_text n names s (suc k) (more h none) ≡ written (codes "{" ++ (x ++ codes "}")) i
          there zero l = absurd (omega arith)
          there (suc n) l =
              then_text (codes "{") (x ++ codes "}") i (before (codes "}") (parts_text n names s (suc k) h none))
              (before_text (codes "}") x i (parts_text n names s (suc k) h none) (p.is n (omega arith)))
      braced (suc k) (more u us) x p f =
          let c = f h u us refl (omega arith) in record { steps = suc (p.steps + c.0); is = there c.0 c.1 }
        where
          there : (c : ℕ) → ((n : ℕ) → c ≤ n → string_of (value n s h) ≡ None) → (n : ℕ) → suc (p.steps + c) ≤ n
              → tuple_text n names s (suc k) (more h (more u us)) ≡ written (codes "{" ++ (x ++ codes "}")) i
          there c e zero l = absurd (omega arith)
          there c e (suc n) l =
              ap (λ (o : Option ℕ). elim o [
                | Some d ↦ behind (string_text (name_at names d) ++ codes "(") (before (codes ")") (parts_text n names s k u us))
                | None ↦ behind (codes "{") (before (codes "}") (parts_text n names s (suc k) h (more u us)))
              ]) (e n (omega arith))
              ∙ then_text (codes "{") (x ++ codes "}") i (before (codes "}") (parts_text n names s (suc k) h (more u us)))
              (before_text (codes "}") x i (parts_text n names s (suc k) h (more u us)) (p.is n (omega arith)))

  pub round_gives : (k : ℕ) (t h u : Term Variable) (us : Terms Variable) (b c d : ℕ) → HasValue t (solid (tuple (more h (more u us)))) b
      → ((n : ℕ) → c ≤ n → string_of (value n s h) ≡ Some d)
      → GivesOn (suc (suc k)) (term t) (string_text (name_at names d) ++ codes "(") k (parts_of (more u us) ++ closes Round ∷ [])
  round_gives k t h u us b c d v e z i g =
      let q = closed_parts k u us Round z i g in
      tuple_valued (suc k) t (more h (more u us)) b (string_text (name_at names d) ++ codes "(" ++ z) i v
      (gives_same (ap (λ (y : Bytes). string_text (name_at names d) ++ codes "(" ++ y) (sym q.is)) refl
      (record { steps = suc (q.parts.steps + c); is = there q.text q.parts }))
    where
      there : (x : Bytes) (p : Gives (λ n. parts_text n names s k u us) x i) → (n : ℕ) → suc (p.steps + c) ≤ n
          → tuple_text n names s (suc k) (more h (more u us)) ≡ written (string_text (name_at names d) ++ codes "(" ++ (x ++ codes ")")) i
      there x p zero l = absurd (omega arith)
      there x p (suc n) l =
          ap (λ (o : Option ℕ). elim o [
            | Some d ↦ behind (string_text (name_at names d) ++ codes "(") (before (codes ")") (parts_text n names s k u us))
            | None ↦ behind (codes "{") (before (codes "}") (parts_text n names s (suc k) h (more u us)))
          ]) (e n (omega arith))
          ∙ then_text (string_text (name_at names d) ++ codes "(") (x ++ codes ")") i (before (codes ")") (parts_text n names s k u us))
          (before_text (codes ")") x i (parts_text n names s k u us) (p.is n (omega arith)))

  -- further parts, and a closing bracket
  pub none_gives : (k : ℕ) → GivesOn k (others none) [] k []
  none_gives k = on_end k (others none) [] k (record { steps = 0; is = λ n l. refl })

  pub more_gives : (k : ℕ) (t : Term Variable) (ts : Terms Variable) → GivesOn k (others (more t ts)) (codes ",") k (parts_of (more t ts))
  more_gives k t ts z i g =
      let one = begins names s k (term t) (others ts ∷ []) z i g in
      let two = last_is names s one.left (others ts) one.after i one.others in
      let p = parts_given k t ts one.text one.after one.left i one.first two in
      record {
        steps = p.steps;
        is = λ n l. then_text (codes ",") (one.text ++ one.after) i (parts_text n names s k t ts) (p.is n l)
            ∙ ap (λ (y : Bytes). written (codes "," ++ y) i) (sym one.is);
      }

  pub close_gives : (k : ℕ) (b : Bracket) → GivesOn k (closes b) (closing b) k []
  close_gives k b = on_end k (closes b) (closing b) k (record { steps = 0; is = λ n l. refl })
