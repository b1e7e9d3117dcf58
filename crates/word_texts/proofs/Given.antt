-- Texts that are given from some number of steps on.
use Rattle.std.proofs.Common.{◌≡◌, ℕ, ◌≤◌, List, [], ◌∷◌, ◌++◌, codes, Option, Some, None, refl, sym, ap, ap₂, ◌∙◌}
use Rattle.std.proofs.Common.{append_assoc, append-nil}
use Rattle.fcp_model.specs.Places.{Variable}
use Rattle.fcp_model.specs.Terms.{Term, Terms, none, more, Bindings}
use Rattle.fcp_model.specs.Spelling.{Bytes}
use Rattle.fcp_model.specs.TermText.{Written, written, behind, term_text, rest_text, parts_text}
use Rattle.word_texts.specs.Turns.{closing}
use Rattle.word_texts.specs.declared.items.Bracket.{Bracket}

-- the text, with so many nodes left, from some number of steps on
pub record Gives (f : ℕ → Option Written) (x : Bytes) (j : ℕ) : Type 0 where
  pub steps : ℕ
  pub is : (n : ℕ) → steps ≤ n → f n ≡ written x j

pub gives_same : {f : ℕ → Option Written} {x y : Bytes} {j k : ℕ} → x ≡ y → j ≡ k → Gives f x j → Gives f y k
gives_same {f = f} {x = x} {y = y} {j = j} {k = k} e i g =
    record { steps = g.steps; is = λ n h. g.is n h ∙ ap₂ written e i }

-- only one text is given
pub record Same (x y : Bytes) (j k : ℕ) : Type 0 where
  pub text : x ≡ y
  pub left : j ≡ k

pub one_written : (x y : Bytes) (j k : ℕ) → written x j ≡ written y k → Same x y j k
one_written x y j k e =
    let text_of : Option Written → Bytes = λ (o : Option Written). elim o [ None ↦ x | Some w ↦ w.text ] in
    let left_of : Option Written → ℕ = λ (o : Option Written). elim o [ None ↦ j | Some w ↦ w.left ] in
    record { text = ap text_of e; left = ap left_of e }

-- texts before and after others
pub behind_after : (a b x : Bytes) (j : ℕ) (o : Option Written) → behind b o ≡ written x j → behind (a ++ b) o ≡ written (a ++ x) j
behind_after a b x j None e = cc
behind_after a b x j (Some w) e =
    let h = one_written (b ++ w.text) x w.left j e in
    ap₂ written (append_assoc a b w.text ∙ ap (λ (y : Bytes). a ++ y) h.text) h.left

-- what is still to be written of a term
pub data Part : Type 0 where
  term : Term Variable → Part
  rest : Term Variable → Part
  others : Terms Variable → Part
  closes : Bracket → Part

module _ (names : List Bytes) (s : Bindings) where
  -- its text
  abbrev pub part_text : ℕ → Part → ℕ → Option Written
  part_text k (term t) n = term_text n names s k t
  part_text k (rest t) n = rest_text n names s k t
  part_text k (others none) n = written [] k
  part_text k (others (more t ts)) n = behind (codes ",") (parts_text n names s k t ts)
  part_text k (closes b) n = written (closing b) k

  -- the text of all, one after another
  pub data GivesAll : ℕ → List Part → Bytes → ℕ → Type 0 where
    nothing : (k : ℕ) → GivesAll k [] [] k
    then : (k : ℕ) (q : Part) (qs : List Part) (x : Bytes) (j : ℕ) (y : Bytes) (i : ℕ) → Gives (part_text k q) x j → GivesAll j qs y i
        → GivesAll k (q ∷ qs) (x ++ y) i

  -- the first part, and the others
  pub record Begins (k : ℕ) (q : Part) (qs : List Part) (z : Bytes) (i : ℕ) : Type 0 where
    pub text : Bytes
    pub left : ℕ
    pub after : Bytes
    pub first : Gives (part_text k q) text left
    pub others : GivesAll left qs after i
    pub is : z ≡ text ++ after

  pub begins : (k : ℕ) (q : Part) (qs : List Part) (z : Bytes) (i : ℕ) → GivesAll k (q ∷ qs) z i → Begins k q qs z i
  begins k q qs _ _ (then _ _ _ x j y i g h) = record { text = x; left = j; after = y; first = g; others = h; is = refl }

  pub record Nothing (k : ℕ) (z : Bytes) (i : ℕ) : Type 0 where
    pub text : z ≡ []
    pub left : i ≡ k

  pub nothing_is : (k : ℕ) (z : Bytes) (i : ℕ) → GivesAll k [] z i → Nothing k z i
  nothing_is _ _ _ (nothing k) = record { text = refl; left = refl }

  -- the last part
  pub last_is : (k : ℕ) (q : Part) (z : Bytes) (i : ℕ) → GivesAll k (q ∷ []) z i → Gives (part_text k q) z i
  last_is k q z i g =
      let b = begins k q [] z i g in
      let e = nothing_is b.left b.after i b.others in
      gives_same (sym (b.is ∙ (ap (λ (y : Bytes). b.text ++ y) e.text ∙ append-nil b.text))) (sym e.left) b.first

  -- a list and another one
  pub record Splits (k : ℕ) (qs rs : List Part) (z : Bytes) (i : ℕ) : Type 0 where
    pub text : Bytes
    pub left : ℕ
    pub after : Bytes
    pub first : GivesAll k qs text left
    pub others : GivesAll left rs after i
    pub is : z ≡ text ++ after

  pub splits : (k : ℕ) (qs rs : List Part) (z : Bytes) (i : ℕ) → GivesAll k (qs ++ rs) z i → Splits k qs rs z i
  splits k [] rs z i g = record { text = []; left = k; after = z; first = nothing k; others = g; is = refl }
  splits k (q ∷ qs) rs z i g =
      let b = begins k q (qs ++ rs) z i g in
      let h = splits b.left qs rs b.after i b.others in
      record {
        text = b.text ++ h.text;
        left = h.left;
        after = h.after;
        first = then k q qs b.text b.left h.text h.left b.first h.first;
        others = h.others;
        is = b.is ∙ (ap (λ (y : Bytes). b.text ++ y) h.is ∙ sym (append_assoc b.text h.text h.after));
      }
