-- A process is laid after the pieces of its arguments.
use Rattle.std.proofs.Common.{◌≡◌, ℕ, suc, ◌+◌, ◌%◌, ◌<◌, ◌≤◌, pos, true, false, List, [], ◌∷◌, ◌++◌, length, Some, refl, sym, ap, ◌∙◌}
use Rattle.std.proofs.Common.{subst, arith, ◌⊎◌, inl, inr, ⊎_elim}
use Rattle.std.specs.Option.{option_and_then}
use Rattle.std.proofs.lemmas.Int.{ints}
use Rattle.std.proofs.lemmas.Bool.{cases_eq, cases_lt, false≢true}
use Rattle.std.proofs.lemmas.Option.{same_Some}
use Rattle.fcp_model.specs.Places.{Variable}
use Rattle.fcp_model.specs.Terms.{Term}
use Rattle.fcp_model.specs.Expressions.{leaf}
use Rattle.heap_words.specs.Cells.{decoded, encoded, IsCell}
use Rattle.heap_words.specs.Heaps.{is_inside, inside_at}
use Rattle.heap_words.specs.HeapLaws.{inside_known}
use Rattle.heap_words.specs.declared.cell.Cell.{Cell}
use Rattle.heap_words.specs.declared.cell.Cell.TheVariants.{Small, Raw, Status}
use Rattle.heap_words.specs.declared.cell.Stand.TheVariants.{Ready}
use Rattle.heap_words.proofs.Encodings.{decoded_encoded}
use Rattle.word_states.specs.Words.{Words, At, StandAt, Grows}
use Rattle.word_states.specs.Denoting.{Addresses, Denotes, Arguments}
use Rattle.goal_layout.specs.FirstFit.{fit, first_fit}
use Rattle.goal_layout.specs.Pages.{rooms}
use Rattle.goal_layout.specs.Laying.{is_quiet, IsSaid, Lays}
use Rattle.goal_layout.specs.Items.{LaysProcess, LaysHeaded}
use Rattle.goal_layout.proofs.Insides.{not_inside, first_inside}
use Rattle.word_states.proofs.Persisting.{denotes_on}
use Rattle.goal_layout.proofs.Lays.{first_fit-append, final_off, kept_word, said_on}

-- each word is said
abbrev pub AllSaid : Words → Addresses → List ℕ → Type 0
AllSaid w vs [] = Unit {0}
AllSaid w vs (x ∷ xs) = IsSaid w vs x × AllSaid w vs xs

-- the words denote the terms, one by one
abbrev pub AllDenote : Words → Addresses → List ℕ → List (Term Variable) → Type 0
AllDenote w vs [] [] = Unit {0}
AllDenote w vs (x ∷ xs) (t ∷ ts) = Denotes w vs x t × AllDenote w vs xs ts
AllDenote w vs _ _ = ⊥

pub all_said : (w : Words) (vs : Addresses) (xs : List ℕ) (ts : List (Term Variable)) → AllDenote w vs xs ts → AllSaid w vs xs
all_said w vs [] [] h = tt
all_said w vs [] (t ∷ ts) h = absurd h
all_said w vs (x ∷ xs) [] h = absurd h
all_said w vs (x ∷ xs) (t ∷ ts) h = (inr (leaf t, h.0), all_said w vs xs ts h.1)

pub args_denote : (w : Words) (vs : Addresses) (a : ℕ) (xs : List ℕ) (ts : List (Term Variable)) → StandAt w a xs → AllDenote w vs xs ts
    → Arguments w vs a ts
args_denote w vs a [] [] s h = tt
args_denote w vs a [] (t ∷ ts) s h = absurd h
args_denote w vs a (x ∷ xs) [] s h = absurd h
args_denote w vs a (x ∷ xs) (t ∷ ts) s h = (x, s.0, h.0, args_denote w vs (suc a) xs ts s.1 h.1)

pub denote_on : (w w' : Words) (vs : Addresses) (xs : List ℕ) (ts : List (Term Variable)) → Grows w w' → AllDenote w vs xs ts
    → AllDenote w' vs xs ts
denote_on w w' vs [] [] g h = tt
denote_on w w' vs [] (t ∷ ts) g h = absurd h
denote_on w w' vs (x ∷ xs) [] g h = absurd h
denote_on w w' vs (x ∷ xs) (t ∷ ts) g h = (denotes_on w w' vs vs g (λ v a m. m) x t h.0, denote_on w w' vs xs ts g h.1)

pub denote_more : (w : Words) (vs : Addresses) (xs : List ℕ) (ts : List (Term Variable)) (x : ℕ) (t : Term Variable) → AllDenote w vs xs ts
    → Denotes w vs x t → AllDenote w vs (xs ++ x ∷ []) (ts ++ t ∷ [])
denote_more w vs [] [] x t h d = (d, tt)
denote_more w vs [] (u ∷ ts) x t h d = absurd h
denote_more w vs (y ∷ xs) [] x t h d = absurd h
denote_more w vs (y ∷ xs) (u ∷ ts) x t h d = (h.0, denote_more w vs xs ts x t h.1 d)

pub denote_count : (w : Words) (vs : Addresses) (xs : List ℕ) (ts : List (Term Variable)) → AllDenote w vs xs ts → length xs ≡ length ts
denote_count w vs [] [] h = refl
denote_count w vs [] (t ∷ ts) h = absurd h
denote_count w vs (x ∷ xs) [] h = absurd h
denote_count w vs (x ∷ xs) (t ∷ ts) h = ap suc (denote_count w vs xs ts h.1)

-- a word of some that stand one after another, where none before them comes into question
stands_said : (w : Words) (vs : Addresses) (a : ℕ) (xs : List ℕ) (b x : ℕ) → StandAt w a xs → AllSaid w vs xs → a ≤ b → b < a + length xs
    → w b ≡ Some x → IsSaid w vs x
stands_said w vs a [] b x s h lo hi e = absurd (omega arith)
stands_said w vs a (y ∷ xs) b x s h lo hi e =
    go (cases_eq a b) (λ d. stands_said w vs (suc a) xs b x s.1 h.1 (omega (arith, d)) (omega arith) e)
  where
    go : (a ≡ b) ⊎ (a ≡ b → ⊥) → ((a ≡ b → ⊥) → IsSaid w vs x) → IsSaid w vs x
    go (inl d) f = subst (IsSaid w vs) (same_Some y x (sym s.0 ∙ ap w d ∙ e)) h.0
    go (inr d) f = f d

module _ (vs : Addresses) (sizes : List ℕ) (k f : ℕ) (xs : List ℕ) (p : ℕ) (ws w1 w2 : List ℕ) (l : Lays vs sizes ws w1)
    (h : LaysProcess k f xs p w1 w2) (said : AllSaid (inside_at w1) vs xs) (small : k < 0x100000000) (call : f < 0x100000000)
    (few : length xs < 0x100000000) where
  pub headed_grows : Grows (inside_at w1) (inside_at w2)
  headed_grows a x e final = kept_word w1 w2 a x (h.kept a (inside_known w1 a x e) (final_off w1 a x l.pages e final)) e

  all_on : (ys : List ℕ) → AllSaid (inside_at w1) vs ys → AllSaid (inside_at w2) vs ys
  all_on [] s = tt
  all_on (y ∷ ys) s = (said_on (inside_at w1) (inside_at w2) vs y headed_grows s.0, all_on ys s.1)

  cell_at : (a x : ℕ) (c : Cell) → inside_at w2 a ≡ Some x → x ≡ encoded c → IsCell c → At (inside_at w2) a c
  cell_at a x c e is fit = (x, e, ap decoded is ∙ decoded_encoded c fit)

  status_word : inside_at w2 p ≡ Some (encoded (Status Ready))
  status_word = h.stand.0

  name_at : At (inside_at w2) (p + 1) (Small (pos k))
  name_at = cell_at (p + 1) _ (Small (pos k)) (subst (λ a. inside_at w2 a ≡ Some (encoded (Small (pos k)))) (omega arith) h.stand.1.0) refl
      (omega (arith, ints), omega (arith, ints))

  procedure_at : At (inside_at w2) (p + 2) (Raw f)
  procedure_at = cell_at (p + 2) _ (Raw f) (subst (λ a. inside_at w2 a ≡ Some (encoded (Raw f))) (omega arith) h.stand.1.1.0) refl call

  count_at : At (inside_at w2) (p + 3) (Raw (length xs))
  count_at = cell_at (p + 3) _ (Raw (length xs))
      (subst (λ a. inside_at w2 a ≡ Some (encoded (Raw (length xs)))) (omega arith) h.stand.1.1.1.0) refl few

  args_at : StandAt (inside_at w2) (p + 4) xs
  args_at = subst (λ a. StandAt (inside_at w2) a xs) (omega arith) h.stand.1.1.1.1

  off : p % 1024 ≡ 0 → ⊥
  off m =
      let inside = h.inside in
      let free : is_inside w1 p ≡ false = h.free p (omega arith) (omega arith) in
      false≢true (sym free ∙ first_inside w1 p (omega (arith, inside)) m)

  was_free : (b : ℕ) → is_inside w1 b ≡ false → (b % 1024 ≡ 0 → ⊥) → is_inside ws b ≡ false
  was_free b n o = not_inside ws b (λ i. false≢true (sym n ∙ (l.kept b i o).0))

  -- a word of the process
  own_word : (a x : ℕ) → p ≤ a → a < p + (4 + length xs) → inside_at w2 a ≡ Some x
      → IsSaid (inside_at w2) vs x ⊎ ((a ≡ p) × (decoded x ≡ Some (Status Ready)))
  own_word a x lo hi e = ⊎_elim
      (λ d. inr (
        d,
        ap decoded (same_Some x (encoded (Status Ready)) (sym e ∙ ap (inside_at w2) d ∙ status_word))
            ∙ decoded_encoded (Status Ready) tt,
      ))
      (λ d. inl (⊎_elim (λ q. quiet a x (p + 1) (Small (pos k)) q name_at refl e)
      (λ q1. ⊎_elim (λ q. quiet a x (p + 2) (Raw f) q procedure_at refl e)
      (λ q2. ⊎_elim (λ q. quiet a x (p + 3) (Raw (length xs)) q count_at refl e)
      (λ q3. stands_said (inside_at w2) vs (p + 4) xs a x args_at (all_on xs said) (omega (arith, d, q1, q2, q3)) (omega arith) e)
      (cases_eq a (p + 3))) (cases_eq a (p + 2))) (cases_eq a (p + 1))))
      (cases_eq a p)
    where
      quiet : (a x b : ℕ) (c : Cell) → a ≡ b → At (inside_at w2) b c → is_quiet c ≡ true → inside_at w2 a ≡ Some x
          → IsSaid (inside_at w2) vs x
      quiet a x b c q t i e =
          inl (record { cell = c; says = ap decoded (same_Some x t.0 (sym e ∙ ap (inside_at w2) q ∙ t.1)) ∙ t.2; quiet = i })

  pub headed : LaysHeaded vs sizes k f xs p ws w2
  headed = record {
    pages = h.pages;
    size = h.size ∙ l.size;
    fits = first_fit-append (rooms ws) sizes ((4 + length xs) ∷ [])
        ∙ ap (option_and_then (λ ss. first_fit ss ((4 + length xs) ∷ []))) l.fits
        ∙ ap (option_and_then (λ ss. Some ss)) h.fits;
    kept = λ a i o. let j = l.kept a i o in let m = h.kept a j.0 o in (m.0, m.1 ∙ j.1);
    free = was_free p (h.free p (omega arith) (omega arith)) off;
    said = λ a x e. ⊎_elim
        (λ lo. outer a x e (inl lo))
        (λ lo. ⊎_elim (λ hi. inr (own_word a x lo hi e)) (λ hi. outer a x e (inr hi)) (cases_lt a (p + (4 + length xs))))
        (cases_lt a p);
    status = (encoded (Status Ready), status_word, decoded_encoded (Status Ready) tt);
    name = name_at;
    procedure = procedure_at;
    count = count_at;
    stand = args_at;
  }
    where
      outer : (a x : ℕ) → inside_at w2 a ≡ Some x → (a < p) ⊎ (p + (4 + length xs) ≤ a)
          → (inside_at ws a ≡ Some x) ⊎ (IsSaid (inside_at w2) vs x ⊎ ((a ≡ p) × (decoded x ≡ Some (Status Ready))))
      outer a x e d = ⊎_elim
          (λ i. ⊎_elim (λ j. inl j) (λ j. inr (inl (said_on (inside_at w1) (inside_at w2) vs x headed_grows j))) (l.said a x i))
          (λ q. inr (inl (inl q)))
          (h.others a x e d)
