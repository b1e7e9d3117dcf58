-- The word that a child takes leads on, and is final.
use Rattle.std.proofs.Common.{◌≡◌, ℕ, ◌+◌, ◌<◌, Bool, true, false, cond, List, refl, sym, ap, ◌∙◌, subst, inl, inr, ⊎_elim}
use Rattle.std.proofs.Common.{Option, Some, None}
use Rattle.std.specs.Prelude.{unwrap_or}
use Rattle.std.proofs.lemmas.Option.{same_Some}
use Rattle.heap_words.specs.Cells.{decoded, encoded, is_final_word, is_final_in}
use Rattle.heap_words.specs.Refers.{Refers, HasPart}
use Rattle.heap_words.specs.WordsLaws.{tells_all}
use Rattle.heap_words.specs.Trails.{WordList, word_at}
use Rattle.heap_words.specs.declared.cell.Cell.{Cell}
use Rattle.heap_words.specs.declared.cell.Cell.TheVariants.{Unbound, Ref, RoRef, Small, Wide, Str, Nil, Cons, Tuple, Status, Raw, Top}
use Rattle.heap_words.proofs.Encodings.{decoded_encoded, encoded_decoded}
use Rattle.word_states.specs.Words.{first_of}
use Rattle.word_states.specs.Pieces.{rows, RefersOwn}
use Rattle.word_states.specs.Led.{IsLed, was_read, of_known, IsKnown, reached, LeadsOn}
use Rattle.trial_laws.specs.AtHand.{AtHand}
use Rattle.trial_laws.specs.Leading.{IsLedOn}
use Rattle.trial_laws.specs.NewPieces.{taken, marked_word, marked, passed_in, passed}
use Rattle.trial_laws.proofs.Passing.{only_final_is}

-- a word that leads on, and is final
abbrev pub IsFit : WordList → List (List ℕ) → ℕ → Type 0
IsFit read ps x = LeadsOn read ps x × (is_final_word x ≡ true)

-- a read-only reference leads on where the other one does
marked_leads : (read : WordList) (ps : List (List ℕ)) (y a : ℕ) → decoded y ≡ Some (Ref a) → LeadsOn read ps y
    → LeadsOn read ps (encoded (RoRef a))
marked_leads read ps y a e l = ⊎_elim (λ i. inl (led i)) other l
  where
    is : decoded (encoded (RoRef a)) ≡ Some (RoRef a)
    is = decoded_encoded (RoRef a) (encoded_decoded y (Ref a) e).0

    known : IsLed read y → (b : ℕ) → Refers (RoRef a) b → IsKnown read b
    known (was_read c m) b g = reached c y (Ref a) m e g
    known (of_known m) b g = (m (Ref a) e).2 b g

    led : IsLed read y → IsLed read (encoded (RoRef a))
    led i = of_known (λ c f. let same : RoRef a ≡ c = same_Some _ _ (sym is ∙ f) in (
      subst tells_all same refl,
      (λ b g. subst (λ (z : Cell). HasPart z b) (sym same) g),
      (λ b g. known i b (subst (λ (z : Cell). Refers z b) (sym same) g)),
    ))

    other : (c : Cell) × (decoded y ≡ Some c) × RefersOwn ps c → LeadsOn read ps (encoded (RoRef a))
    other i = let same : i.0 ≡ Ref a = same_Some _ _ (sym i.1 ∙ e) in inr (RoRef a, is, subst (RefersOwn ps) same i.2)

-- the word under a mark
marked_fits : (read : WordList) (ps : List (List ℕ)) (y : ℕ) (o : Option Cell) → decoded y ≡ o → IsFit read ps y
    → IsFit read ps (marked_word y o)
marked_fits read ps y (Some (Ref a)) e h = (
  marked_leads read ps y a e h.0,
  ap is_final_in (decoded_encoded (RoRef a) (encoded_decoded y (Ref a) e).0),
)
marked_fits read ps y None e h = h
marked_fits read ps y (Some (Unbound a)) e h = h
marked_fits read ps y (Some (RoRef a)) e h = h
marked_fits read ps y (Some (Small z)) e h = h
marked_fits read ps y (Some (Wide a z)) e h = h
marked_fits read ps y (Some (Str s)) e h = h
marked_fits read ps y (Some Nil) e h = h
marked_fits read ps y (Some (Cons a)) e h = h
marked_fits read ps y (Some (Tuple a)) e h = h
marked_fits read ps y (Some (Status d)) e h = h
marked_fits read ps y (Some (Raw n)) e h = h
marked_fits read ps y (Some (Top n)) e h = h

module _ (read : WordList) (r : AtHand) (h : IsLedOn read r) where
  -- what a place took
  taken_fits : (a y : ℕ) → taken r a ≡ Some y → IsFit read r.pieces y
  taken_fits a y e =
      let q = only_final_is (first_of (word_at r.binds a) (word_at (rows 4000000000 r.pieces) a)) y e in
      (go (word_at r.binds a) refl q.0 q.1, q.1)
    where
      go : (o : Option ℕ) → word_at r.binds a ≡ o → first_of (word_at r.binds a) (word_at (rows 4000000000 r.pieces) a) ≡ Some y
          → is_final_word y ≡ true → LeadsOn read r.pieces y
      go (Some z) i f final =
          let same : Some z ≡ Some y = sym (ap (λ o. first_of o (word_at (rows 4000000000 r.pieces) a)) i) ∙ f in
          h.bound a y (i ∙ same)
      go None i f final = h.own a y (sym (ap (λ o. first_of o (word_at (rows 4000000000 r.pieces) a)) i) ∙ f) final

  pub led_passed : (x : ℕ) → LeadsOn read r.pieces x → is_final_word x ≡ true → IsFit read r.pieces (passed r x)
  led_passed x l f = go (decoded x)
    where
      behind : (o : Option ℕ) → ((y : ℕ) → o ≡ Some y → IsFit read r.pieces y) → IsFit read r.pieces (unwrap_or o x)
      behind None k = (l, f)
      behind (Some y) k = k y refl

      read_only : (o : Option ℕ) → ((y : ℕ) → o ≡ Some y → IsFit read r.pieces y) → IsFit read r.pieces (marked x o)
      read_only None k = (l, f)
      read_only (Some y) k = marked_fits read r.pieces y (decoded y) refl (k y refl)

      go : (o : Option Cell) → IsFit read r.pieces (passed_in (taken r) x o)
      go (Some (Ref a)) = behind (taken r a) (λ y e. taken_fits a y e)
      go (Some (RoRef a)) = read_only (taken r a) (λ y e. taken_fits a y e)
      go None = (l, f)
      go (Some (Unbound a)) = (l, f)
      go (Some (Small z)) = (l, f)
      go (Some (Wide a z)) = (l, f)
      go (Some (Str s)) = (l, f)
      go (Some Nil) = (l, f)
      go (Some (Cons a)) = (l, f)
      go (Some (Tuple a)) = (l, f)
      go (Some (Status d)) = (l, f)
      go (Some (Raw n)) = (l, f)
      go (Some (Top n)) = (l, f)
