-- Texts of arguments that are put after a text.
use Rattle.std.proofs.Common.{◌≡◌, ℕ, zero, suc, ◌+◌, ◌-◌, ◌<◌, ◌≤◌, List, [], ◌∷◌, ◌++◌, length, take, Option, Some, refl}
use Rattle.std.proofs.Common.{sym, ap, ◌∙◌, subst, append_assoc, arith}
use Rattle.std.specs.Prelude.{option_map, codes}
use Rattle.std.proofs.lemmas.List.{take_all}
use Rattle.fcp_model.specs.Places.{Variable}
use Rattle.fcp_model.specs.Terms.{Term, Bindings}
use Rattle.fcp_model.specs.Spelling.{Bytes}
use Rattle.fcp_model.specs.TermText.{cut_text}
use Rattle.fcp_model.specs.LogText.{both_texts}
use Rattle.fcp_model.specs.ReportText.{more_arguments}
use Rattle.heap_words.specs.Trails.{WordList, word_at}
use Rattle.word_states.specs.Words.{Words}
use Rattle.word_states.specs.Denoting.{Addresses, Denotes, Arguments}
use Rattle.entry_lines.specs.Additions.{Adds}
use Rattle.entry_lines.proofs.Adding.{gives_map, adds_both, adds_nothing, both-nil, nil-both, both-assoc}
use Rattle.process_texts.specs.Reading.{AllWords}
use Rattle.process_texts.specs.Texts.{AddsArgument, AddsMore, AddsArguments}

-- a text before what is put, and one after it
pub adds_after : (front : Bytes) (f : ℕ → Option Bytes) (one two three : Bytes) → two ≡ one ++ front → Adds two three f
    → Adds one three (λ n. option_map (λ x. front ++ x) (f n))
adds_after front f one two three e a = record {
  added = front ++ a.added;
  behind = a.behind ∙ (ap (λ (l : Bytes). l ++ a.added) e ∙ append_assoc one front a.added);
  given = gives_map f (λ x. front ++ x) a.added a.given;
}

pub adds_before : (end : Bytes) (f : ℕ → Option Bytes) (one two three : Bytes) → Adds one two f → three ≡ two ++ end
    → Adds one three (λ n. option_map (λ x. x ++ end) (f n))
adds_before end f one two three a e = record {
  added = a.added ++ end;
  behind = e ∙ (ap (λ (l : Bytes). l ++ end) a.behind ∙ append_assoc one a.added end);
  given = gives_map f (λ x. x ++ end) a.added a.given;
}

-- a text that is known
pub adds_known : (text one two : Bytes) → two ≡ one ++ text → Adds one two (λ n. Some text)
adds_known text one two e = record { added = text; behind = e; given = (0, λ k h. refl) }

-- one argument of a list
argument_at : (w : Words) (vs : Addresses) (a : ℕ) (ts : List (Term Variable)) (i : ℕ) → Arguments w vs a ts → i < length ts
    → (x : ℕ) × (t : Term Variable) × (w (a + i) ≡ Some x) × Denotes w vs x t × (take (i + 1) ts ≡ take i ts ++ t ∷ [])
argument_at w vs a [] i h l = absurd (omega arith)
argument_at w vs a (t ∷ ts) zero h l = let e : a + 0 ≡ a = omega arith in (h.0, t, ap w e ∙ h.1, h.2, refl)
argument_at w vs a (t ∷ ts) (suc i) h l =
    let r = argument_at w vs (suc a) ts i h.3 (omega arith) in
    let e : a + suc i ≡ suc a + i = omega arith in
    let k : suc i + 1 ≡ suc (i + 1) = omega arith in
    (r.0, r.1, ap w e ∙ r.2, r.3, ap (λ (j : ℕ). take j (t ∷ ts)) k ∙ ap (λ us. t ∷ us) r.4)

more-append : (n : ℕ) (names : List Bytes) (s : Bindings) (ts : List (Term Variable)) (t : Term Variable)
    → both_texts (more_arguments n names s ts) (option_map (λ x. codes "," ++ x) (cut_text n names s 1024 t))
    ≡ more_arguments n names s (ts ++ t ∷ [])
more-append n names s [] t = nil-both _ ∙ sym (both-nil _)
more-append n names s (u ∷ ts) t = both-assoc _ _ _ ∙ ap (both_texts _) (more-append n names s ts t)

-- the texts of the first i arguments
abbrev pub MoreSoFar : WordList → List Bytes → ℕ → ℕ → ℕ → Bytes → Bytes → Type 0
MoreSoFar kept names a count i old new = AllWords kept (λ w vs bound. (ts : List (Term Variable)) → length ts ≡ count → Arguments w vs a ts
    → Adds old new (λ n. more_arguments n names bound (take i ts)))

pub more_next : (kept kept' : WordList) → ((a x : ℕ) → word_at kept a ≡ Some x → word_at kept' a ≡ Some x) → (names : List Bytes)
    (a count i : ℕ) (one two three four : Bytes) → i < count → MoreSoFar kept names a count i one two → three ≡ two ++ codes ","
    → AddsArgument kept' names (a + i) three four → MoreSoFar kept' names a count (i + 1) one four
more_next kept kept' up names a count i one two three four l f e g w vs bound has says ts long h =
    let r = argument_at w vs a ts i h (omega (arith, l, long)) in
    adds_both _ _ _ one two four (f w vs bound (λ b x j. has b x (up b x j)) says ts long h)
    (adds_after (codes ",") _ two three four e (g w vs bound has says r.0 r.1 r.2 r.3))
    (λ n. more-append n names bound (take i ts) r.1 ∙ sym (ap (more_arguments n names bound) r.4))

pub more_all : (kept : WordList) (names : List Bytes) (a count i : ℕ) (one two : Bytes) → count ≤ i
    → MoreSoFar kept names a count i one two → AddsMore kept names a count one two
more_all kept names a count i one two l f w vs bound has says ts long h =
    subst (λ (us : List (Term Variable)). Adds one two (λ n. more_arguments n names bound us)) (take_all i ts (omega (arith, l, long)))
    (f w vs bound has says ts long h)

-- all of them, in parentheses
pub some_more : (n : ℕ) → (n ≡ 0 → ⊥) → 0 < n
some_more zero h = absurd (h refl)
some_more (suc n) h = omega arith

pub none_added : (kept : WordList) (names : List Bytes) (a count : ℕ) (one : Bytes) → count ≡ 0 → AddsArguments kept names a count one one
none_added kept names a count one e w vs bound has says [] long h = adds_nothing _ one (λ n. refl)
none_added kept names a count one e w vs bound has says (t ∷ ts) long h = absurd (omega (arith, e, long))

pub arguments_added : (kept kept' : WordList) → ((a x : ℕ) → word_at kept a ≡ Some x → word_at kept' a ≡ Some x) → (names : List Bytes)
    (a count : ℕ) (one two three four five : Bytes) → 0 < count → two ≡ one ++ codes "(" → AddsArgument kept names a two three
    → AddsMore kept' names (a + 1) (count - 1) three four → five ≡ four ++ codes ")" → AddsArguments kept' names a count one five
arguments_added kept kept' up names a count one two three four five some e f g k w vs bound has says [] long h =
    absurd (omega (arith, some, long))
arguments_added kept kept' up names a count one two three four five some e f g k w vs bound has says (t ∷ ts) long h =
    let next : suc a ≡ a + 1 = omega arith in
    adds_both _ _ _ one three five
    (adds_after (codes "(") _ one two three e (f w vs bound (λ b x j. has b x (up b x j)) says h.0 t h.1 h.2))
    (adds_before (codes ")") _ three four five
    (g w vs bound has says ts (omega (arith, long)) (subst (λ (b : ℕ). Arguments w vs b ts) next h.3)) k)
    (λ n. refl)
