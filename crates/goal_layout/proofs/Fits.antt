-- A piece that goes into the first page with room for it.
use Rattle.std.proofs.Common.{◌≡◌, ℕ, zero, suc, ◌+◌, ◌-◌, ◌<◌, ◌≤◌, cond, List, ◌∷◌, Some, None, refl, sym, ap, ◌∙◌, subst, arith, ⊎_elim}
use Rattle.std.specs.Prelude.{option_map}
use Rattle.std.proofs.lemmas.Bool.{lt-ltb, le-ltb, cases_eq}
use Rattle.goal_layout.specs.FirstFit.{fit}
use Rattle.goal_layout.specs.Pages.{room, rooms_from}

-- the rooms of pages that are not changed
pub same_rooms : (ws ws' : List ℕ) (p n : ℕ) → ((q : ℕ) → p ≤ q → q < p + n → room ws' q ≡ room ws q)
    → rooms_from ws' p n ≡ rooms_from ws p n
same_rooms ws ws' p zero h = refl
same_rooms ws ws' p (suc n) h =
    λ i. h p (omega arith) (omega arith) i ∷ same_rooms ws ws' (suc p) n (λ q l u. h q (omega arith) (omega arith)) i

-- no page has room
pub fits_nowhere : (ws : List ℕ) (s p n : ℕ) → ((q : ℕ) → p ≤ q → q < p + n → room ws q < s) → fit s (rooms_from ws p n) ≡ None
fits_nowhere ws s p zero h = refl
fits_nowhere ws s p (suc n) h =
    ap (λ b. cond b (option_map (λ ss. room ws p ∷ ss) (fit s (rooms_from ws (suc p) n)))
    (Some ((room ws p - s) ∷ rooms_from ws (suc p) n)))
    (lt-ltb (room ws p) s (h p (omega arith) (omega arith)))
    ∙ ap (option_map (λ ss. room ws p ∷ ss)) (fits_nowhere ws s (suc p) n (λ q l u. h q (omega arith) (omega arith)))

-- the page t is the first with room, and only its room changes
pub fits_first : (ws ws' : List ℕ) (s t p n : ℕ) → p ≤ t → t < p + n → ((q : ℕ) → p ≤ q → q < t → room ws q < s) → s ≤ room ws t
    → room ws' t ≡ room ws t - s → ((q : ℕ) → (q ≡ t → ⊥) → room ws' q ≡ room ws q)
    → fit s (rooms_from ws p n) ≡ Some (rooms_from ws' p n)
fits_first ws ws' s t p zero l u small has new others = absurd (omega arith)
fits_first ws ws' s t p (suc n) l u small has new others =
    ⊎_elim here (λ d. later d
    (fits_first ws ws' s t (suc p) n (omega (arith, d)) (omega arith) (λ q lo hi. small q (omega arith) hi) has new others))
    (cases_eq p t)
  where
    here : p ≡ t → fit s (rooms_from ws p (suc n)) ≡ Some (rooms_from ws' p (suc n))
    here e =
        ap (λ b. cond b (option_map (λ ss. room ws p ∷ ss) (fit s (rooms_from ws (suc p) n)))
        (Some ((room ws p - s) ∷ rooms_from ws (suc p) n)))
        (le-ltb (room ws p) s (subst (λ k. s ≤ room ws k) (sym e) has))
        ∙ (λ i. Some ((ap (λ k. room ws k - s) e ∙ sym new ∙ ap (room ws') (sym e)) i
        ∷ sym (same_rooms ws ws' (suc p) n (λ q lo hi. others q (λ f. omega (arith, e, f)))) i))

    later : (p ≡ t → ⊥) → fit s (rooms_from ws (suc p) n) ≡ Some (rooms_from ws' (suc p) n)
        → fit s (rooms_from ws p (suc n)) ≡ Some (rooms_from ws' p (suc n))
    later d rest =
        ap (λ b. cond b (option_map (λ ss. room ws p ∷ ss) (fit s (rooms_from ws (suc p) n)))
        (Some ((room ws p - s) ∷ rooms_from ws (suc p) n)))
        (lt-ltb (room ws p) s (small p (omega arith) (omega (arith, d))))
        ∙ ap (option_map (λ ss. room ws p ∷ ss)) rest
        ∙ ap (λ r. Some (r ∷ rooms_from ws' (suc p) n)) (sym (others p d))
