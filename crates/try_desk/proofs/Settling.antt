-- Own places that take what they are bound to.
use Rattle.std.proofs.Common.{◌≡◌, ℕ, zero, suc, ◌+◌, ◌-◌, ◌<◌, ◌≤◌, Bool, true, false, cond, List, [], ◌∷◌, ◌++◌, length, refl, sym, ap}
use Rattle.std.proofs.Common.{ap₂, ◌∙◌, subst, inl, inr, arith, take, Option, Some, None}
use Rattle.std.proofs.lemmas.Option.{same_Some}
use Rattle.std.specs.Prelude.{slice_get, nat_eq, unwrap_or, slice_set}
use Rattle.std.proofs.lemmas.Bool.{eq-eqb, ne_eqb, eqb-true}
use Rattle.heap_words.specs.Trails.{WordList, word_at, AreOnce}
use Rattle.word_states.specs.Words.{first_of}
use Rattle.word_states.specs.Pieces.{StartsAt}
use Rattle.word_states.proofs.Lists.{word_at-append}
use Rattle.word_states.proofs.Pieces.{starts_above}
use Rattle.trial_laws.specs.Endings.{settled_piece, settled}
use Rattle.trial_laws.proofs.Settling.{starts_on}
use Rattle.try_desk.specs.Cuts.{cut, total}
use Rattle.try_desk.proofs.Filling.{filled, cut_filled}

-- the one place that is bound
word_here : (a x : ℕ) → word_at ((a, x) ∷ []) a ≡ Some x
word_here a x = ap (λ (t : Bool). cond t (Some x) None) (eq-eqb a a refl)

word_elsewhere : (a x b : ℕ) → (b ≡ a → ⊥) → word_at ((a, x) ∷ []) b ≡ None
word_elsewhere a x b n = ap (λ (t : Bool). cond t (Some x) None) (ne_eqb b a n)

-- a piece elsewhere stays
piece_stays : (a x s : ℕ) (p : List ℕ) → (suc s ≡ a → ⊥) → settled_piece ((a, x) ∷ []) s p ≡ p
piece_stays a x s [] n = refl
piece_stays a x s (y ∷ []) n = refl
piece_stays a x s (y ∷ z ∷ []) n =
    ap (λ (o : Option ℕ). cond (nat_eq y 0) (y ∷ unwrap_or o z ∷ []) (y ∷ z ∷ [])) (word_elsewhere a x (suc s) n) ∙ go (nat_eq y 0)
  where
    go : (t : Bool) → cond t (y ∷ z ∷ []) (y ∷ z ∷ []) ≡ y ∷ z ∷ []
    go true = refl
    go false = refl
piece_stays a x s (y ∷ z ∷ u ∷ us) n = refl

pub pieces_stay : (a x b : ℕ) (ps : List (List ℕ)) → a ≤ b → settled ((a, x) ∷ []) b ps ≡ ps
pieces_stay a x b [] l = refl
pieces_stay a x b (p ∷ ps) l =
    ap₂ (λ (q : List ℕ) (qs : List (List ℕ)). q ∷ qs) (piece_stays a x b p (λ e. omega arith))
    (pieces_stay a x (b + length p) ps (omega arith))

-- a place that was filled has settled
two_words : (q : List ℕ) → q ≡ 0 ∷ 0 ∷ [] → length q ≡ 2
two_words q e = ap length e

short_or_long : (a x b s : ℕ) (q : List ℕ) → a ≡ suc s → b + length q ≤ s → settled_piece ((a, x) ∷ []) b q ≡ q
short_or_long a x b s [] e l = refl
short_or_long a x b s (y ∷ q) e l = piece_stays a x b (y ∷ q) (λ f. omega arith)

pub filled_settled : (b : ℕ) (ps : List (List ℕ)) (s a x : ℕ) (h : StartsAt b ps s (0 ∷ 0 ∷ [])) → a ≡ suc s
    → filled b ps s x h ≡ settled ((a, x) ∷ []) b ps
unfolding filled
filled_settled b [] s a x h e = absurd h
filled_settled b (q ∷ ps) s a x (inl h) e =
    let l : length q ≡ 2 = two_words q h.1 in
    let w : word_at ((a, x) ∷ []) (suc b) ≡ Some x =
    subst (λ (c : ℕ). word_at ((a, x) ∷ []) c ≡ Some x) (e ∙ ap suc (sym h.0)) (word_here a x) in
    let first : settled_piece ((a, x) ∷ []) b (0 ∷ 0 ∷ []) ≡ 0 ∷ x ∷ [] = ap (λ (o : Option ℕ). 0 ∷ unwrap_or o 0 ∷ []) w in
    sym (ap₂ (λ (p : List ℕ) (rs : List (List ℕ)). p ∷ rs) (ap (settled_piece ((a, x) ∷ []) b) h.1 ∙ first)
    (pieces_stay a x (b + length q) ps (let k = h.0 in omega arith)))
filled_settled b (q ∷ ps) s a x (inr h) e =
    let l = starts_above (b + length q) ps s (0 ∷ 0 ∷ []) h in
    ap₂ (λ (p : List ℕ) (rs : List (List ℕ)). p ∷ rs) (sym (short_or_long a x b s q e l))
    (filled_settled (b + length q) ps s a x h e)

pub place_settled : (ns ws : List ℕ) (ps : List (List ℕ)) (a x : ℕ) → total ns ≡ length ws → cut ws ns ≡ ps → 4000000000 < a
    → StartsAt 4000000000 ps (a - 1) (0 ∷ 0 ∷ []) → cut (slice_set ws (a - 4000000000) x) ns ≡ settled ((a, x) ∷ []) 4000000000 ps
place_settled ns ws ps a x whole is above h =
    let g : StartsAt 4000000000 (cut ws ns) (a - 1) (0 ∷ 0 ∷ []) = subst (λ (p : List (List ℕ)). StartsAt 4000000000 p (a - 1) (0 ∷ 0 ∷ []))
    (sym is) h in
    cut_filled ns ws 4000000000 (a - 1) (a - 4000000000) x g whole (omega arith)
    ∙ (filled_settled 4000000000 (cut ws ns) (a - 1) a x g (omega arith) ∙ ap (settled ((a, x) ∷ []) 4000000000) is)

-- one binding after others, of a place that they do not bind
settled_more : (bs : WordList) (a x s : ℕ) (p : List ℕ) → word_at bs a ≡ None
    → settled_piece ((a, x) ∷ []) s (settled_piece bs s p) ≡ settled_piece (bs ++ (a, x) ∷ []) s p
settled_more bs a x s [] n = refl
settled_more bs a x s (y ∷ []) n = refl
settled_more bs a x s (y ∷ z ∷ []) n = go (nat_eq y 0) refl
  where
    word : unwrap_or (word_at ((a, x) ∷ []) (suc s)) (unwrap_or (word_at bs (suc s)) z) ≡ unwrap_or (word_at (bs ++ (a, x) ∷ []) (suc s)) z
    word = turn (nat_eq (suc s) a) refl ∙ ap (λ (o : Option ℕ). unwrap_or o z) (sym (word_at-append bs ((a, x) ∷ []) (suc s)))
      where
        turn : (t : Bool) → nat_eq (suc s) a ≡ t → unwrap_or (cond t (Some x) None) (unwrap_or (word_at bs (suc s)) z)
            ≡ unwrap_or (first_of (word_at bs (suc s)) (cond t (Some x) None)) z
        turn true e = sym (ap (λ (o : Option ℕ). unwrap_or (first_of o (Some x)) z)
            (ap (word_at bs) (eqb-true (suc s) a e) ∙ n))
        turn false e = last (word_at bs (suc s))
          where
            last : (o : Option ℕ) → unwrap_or o z ≡ unwrap_or (first_of o None) z
            last None = refl
            last (Some v) = refl

    go : (t : Bool) → nat_eq y 0 ≡ t
        → settled_piece ((a, x) ∷ []) s (cond t (y ∷ unwrap_or (word_at bs (suc s)) z ∷ []) (y ∷ z ∷ []))
        ≡ cond t (y ∷ unwrap_or (word_at (bs ++ (a, x) ∷ []) (suc s)) z ∷ []) (y ∷ z ∷ [])
    go true e =
        ap (λ (t : Bool). cond t (y ∷ unwrap_or (word_at ((a, x) ∷ []) (suc s)) (unwrap_or (word_at bs (suc s)) z) ∷ [])
        (y ∷ unwrap_or (word_at bs (suc s)) z ∷ [])) e ∙ ap (λ (v : ℕ). y ∷ v ∷ []) word
    go false e =
        ap (λ (t : Bool). cond t (y ∷ unwrap_or (word_at ((a, x) ∷ []) (suc s)) z ∷ []) (y ∷ z ∷ [])) e
settled_more bs a x s (y ∷ z ∷ u ∷ us) n = refl

same_length : (bs : WordList) (s : ℕ) (p : List ℕ) → length (settled_piece bs s p) ≡ length p
same_length bs s [] = refl
same_length bs s (x ∷ []) = refl
same_length bs s (x ∷ y ∷ []) = go (nat_eq x 0)
  where
    go : (b : Bool) → length (cond b (x ∷ unwrap_or (word_at bs (suc s)) y ∷ []) (x ∷ y ∷ [])) ≡ 2
    go true = refl
    go false = refl
same_length bs s (x ∷ y ∷ z ∷ zs) = refl

pub settled_again : (bs : WordList) (a x b : ℕ) (ps : List (List ℕ)) → word_at bs a ≡ None
    → settled ((a, x) ∷ []) b (settled bs b ps) ≡ settled (bs ++ (a, x) ∷ []) b ps
settled_again bs a x b [] n = refl
settled_again bs a x b (p ∷ ps) n =
    ap₂ (λ (q : List ℕ) (qs : List (List ℕ)). q ∷ qs) (settled_more bs a x b p n)
    (ap (λ (k : ℕ). settled ((a, x) ∷ []) (b + k) (settled bs (b + length p) ps)) (same_length bs b p)
    ∙ settled_again bs a x (b + length p) ps n)

-- no bindings
pub none_settled : (b : ℕ) (ps : List (List ℕ)) → settled [] b ps ≡ ps
none_settled b [] = refl
none_settled b (p ∷ ps) = ap₂ (λ (q : List ℕ) (qs : List (List ℕ)). q ∷ qs) (piece p) (none_settled (b + length p) ps)
  where
    piece : (p : List ℕ) → settled_piece [] b p ≡ p
    piece [] = refl
    piece (y ∷ []) = refl
    piece (y ∷ z ∷ []) = go (nat_eq y 0)
      where
        go : (t : Bool) → cond t (y ∷ z ∷ []) (y ∷ z ∷ []) ≡ y ∷ z ∷ []
        go true = refl
        go false = refl
    piece (y ∷ z ∷ u ∷ us) = refl

-- a place that is not bound yet
pub still_open : (bs : WordList) (ps : List (List ℕ)) (s : ℕ) → StartsAt 4000000000 ps s (0 ∷ 0 ∷ []) → word_at bs (suc s) ≡ None
    → StartsAt 4000000000 (settled bs 4000000000 ps) s (0 ∷ 0 ∷ [])
still_open bs ps s h n = subst (StartsAt 4000000000 (settled bs 4000000000 ps) s)
    (ap (λ (o : Option ℕ). 0 ∷ unwrap_or o 0 ∷ []) n) (starts_on bs 4000000000 ps s (0 ∷ 0 ∷ []) h)

none_some : (z : ℕ × ℕ) → None ≡ Some z → ⊥
none_some z e = cc

-- what a list has at an address stands there at some position, and not behind another one
found_at : (bs : WordList) (i a x : ℕ) → slice_get bs i ≡ Some (a, x) → (j y : ℕ) × (j ≤ i) × (slice_get bs j ≡ Some (a, y))
    × (word_at bs a ≡ Some y)
found_at [] i a x e = absurd (none_some (a, x) e)
found_at (b ∷ bs) zero a x e =
    let h : b ≡ (a, x) = same_Some b (a, x) e in (
      0,
      x,
      omega arith,
      e,
      subst (λ (c : ℕ × ℕ). cond (nat_eq a c.0) (Some c.1) (word_at bs a) ≡ Some x) (sym h)
          (ap (λ (t : Bool). cond t (Some x) (word_at bs a)) (eq-eqb a a refl)),
    )
found_at (b ∷ bs) (suc i) a x e = go (nat_eq a b.0) refl (found_at bs i a x e)
  where
    go : (t : Bool) → nat_eq a b.0 ≡ t → (j y : ℕ) × (j ≤ i) × (slice_get bs j ≡ Some (a, y)) × (word_at bs a ≡ Some y)
        → (j y : ℕ) × (j ≤ suc i) × (slice_get (b ∷ bs) j ≡ Some (a, y)) × (cond t (Some b.1) (word_at bs a) ≡ Some y)
    go true f r = (0, b.1, omega arith, ap (λ (c : ℕ). Some (c, b.1)) (sym (eqb-true a b.0 f)), refl)
    go false f r = let l = r.2 in (suc r.0, r.1, omega arith, r.3, r.4)

pub word_of : (bs : WordList) (i a x : ℕ) → AreOnce bs → slice_get bs i ≡ Some (a, x) → word_at bs a ≡ Some x
word_of bs i a x once e =
    let r = found_at bs i a x e in
    let same : r.0 ≡ i = once r.0 i a r.1 x r.3 e in
    let both : (a, r.1) ≡ (a, x) = same_Some (a, r.1) (a, x)
    (sym (subst (λ (j : ℕ). slice_get bs j ≡ Some (a, r.1)) same r.3) ∙ e) in
    r.4 ∙ ap (λ (c : ℕ × ℕ). Some c.1) both

-- before its position there is none
stands_at : (bs : WordList) (i a y : ℕ) → word_at (take i bs) a ≡ Some y → (j : ℕ) × (j < i) × (slice_get bs j ≡ Some (a, y))
stands_at [] zero a y e = let h : None ≡ Some y = e in cc
stands_at [] (suc i) a y e = let h : None ≡ Some y = e in cc
stands_at (b ∷ bs) zero a y e = let h : None ≡ Some y = e in cc
stands_at (b ∷ bs) (suc i) a y e = go (nat_eq a b.0) refl e (stands_at bs i a y)
  where
    go : (t : Bool) → nat_eq a b.0 ≡ t → cond t (Some b.1) (word_at (take i bs) a) ≡ Some y
        → (word_at (take i bs) a ≡ Some y → (j : ℕ) × (j < i) × (slice_get bs j ≡ Some (a, y)))
        → (j : ℕ) × (j < suc i) × (slice_get (b ∷ bs) j ≡ Some (a, y))
    go true f g more =
        let k : b.1 ≡ y = same_Some b.1 y g in
        (0, omega arith, ap (λ (c : ℕ). Some (c, b.1)) (sym (eqb-true a b.0 f)) ∙ ap (λ (v : ℕ). Some (a, v)) k)
    go false f g more = let r = more g in let l = r.1 in (suc r.0, omega arith, r.2)

pub none_before : (bs : WordList) (i a x : ℕ) → AreOnce bs → slice_get bs i ≡ Some (a, x) → word_at (take i bs) a ≡ None
none_before bs i a x once e = go (word_at (take i bs) a) refl
  where
    go : (o : Option ℕ) → word_at (take i bs) a ≡ o → o ≡ None
    go None f = refl
    go (Some y) f =
        let r = stands_at bs i a y f in
        let l = r.1 in
        let same : r.0 ≡ i = once r.0 i a y x r.2 e in
        absurd (omega arith)

-- one more binding: of an own place, and of another one
pub own_more : (bs : WordList) (i : ℕ) (b : ℕ × ℕ) (ps qs rs : List (List ℕ)) → AreOnce bs → slice_get bs i ≡ Some b
    → qs ≡ settled (take i bs) 4000000000 ps → rs ≡ settled ((b.0, b.1) ∷ []) 4000000000 qs
    → rs ≡ settled (take i bs ++ b ∷ []) 4000000000 ps
own_more bs i b ps qs rs once e f g =
    g ∙ (ap (settled ((b.0, b.1) ∷ []) 4000000000) f
    ∙ settled_again (take i bs) b.0 b.1 4000000000 ps (none_before bs i b.0 b.1 once e))

pub other_more : (bs : WordList) (i : ℕ) (b : ℕ × ℕ) (ps qs : List (List ℕ)) → AreOnce bs → slice_get bs i ≡ Some b
    → b.0 < 4000000000 → qs ≡ settled (take i bs) 4000000000 ps → qs ≡ settled (take i bs ++ b ∷ []) 4000000000 ps
other_more bs i b ps qs once e l f =
    own_more bs i b ps qs qs once e f (sym (pieces_stay b.0 b.1 4000000000 qs (omega arith)))

-- where a binding of an own place stands
pub place_of : (bs : WordList) (i : ℕ) (b : ℕ × ℕ) (ps qs : List (List ℕ)) → AreOnce bs → slice_get bs i ≡ Some b → 4000000000 ≤ b.0
    → ((a x : ℕ) → word_at bs a ≡ Some x → 4000000000 ≤ a → (s : ℕ) × (a ≡ suc s) × StartsAt 4000000000 ps s (0 ∷ 0 ∷ []))
    → qs ≡ settled (take i bs) 4000000000 ps → (4000000000 < b.0) × StartsAt 4000000000 qs (b.0 - 1) (0 ∷ 0 ∷ [])
place_of bs i b ps qs once e l places f =
    let r = places b.0 b.1 (word_of bs i b.0 b.1 once e) l in
    let above : 4000000000 ≤ r.0 = starts_above 4000000000 ps r.0 (0 ∷ 0 ∷ []) r.2 in
    let is : b.0 ≡ suc r.0 = r.1 in
    let here : r.0 ≡ b.0 - 1 = omega arith in
    let open_ : word_at (take i bs) (suc r.0) ≡ None =
    ap (word_at (take i bs)) (sym is) ∙ none_before bs i b.0 b.1 once e in (
      omega arith,
      subst (λ (q : List (List ℕ)). StartsAt 4000000000 q (b.0 - 1) (0 ∷ 0 ∷ [])) (sym f)
          (subst (λ (s : ℕ). StartsAt 4000000000 (settled (take i bs) 4000000000 ps) s (0 ∷ 0 ∷ [])) here
          (still_open (take i bs) ps r.0 r.2 open_)),
    )
