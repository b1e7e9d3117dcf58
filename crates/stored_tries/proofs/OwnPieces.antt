-- The words of a try's pieces, as own words beside a store.
use Rattle.std.proofs.Common.{◌≡◌, ◌⊎◌, ℕ, suc, ◌+◌, ◌-◌, ◌<◌, ◌≤◌, true, List, [], ◌∷◌, length, refl, sym, ap, ◌∙◌, subst, ⊎_elim, inl}
use Rattle.std.proofs.Common.{inr}
use Rattle.std.proofs.Common.{arith, Some, None}
use Rattle.std.specs.Prelude.{slice_get}
use Rattle.std.proofs.lemmas.Option.{same_Some}
use Rattle.heap_words.specs.Cells.{decoded, is_final_word}
use Rattle.heap_words.specs.Refers.{Refers, RefersBy, HasPart, HasPartBy, teller, parts}
use Rattle.heap_words.specs.declared.cell.Cell.{Cell}
use Rattle.heap_words.specs.declared.cell.Cell.TheVariants.{Unbound, Ref, RoRef, Small, Wide, Str, Nil, Cons, Tuple, Status, Raw, Top}
use Rattle.heap_words.specs.declared.cell.Stand.{Stand}
use Rattle.word_states.specs.Pieces.{StartsAt, IsPiece, RefersOwn}
use Rattle.word_states.proofs.Lists.{get_of}
use Rattle.word_states.proofs.Pieces.{in_rows, rows_in, starts_above, raw_final}
use Rattle.beside_words.specs.Besides.{own_at, IsOwn, KnownBeside, InOwn}
use Rattle.beside_words.specs.BesideLaws.{own_is}
use Rattle.stored_tries.specs.Calls.{AreOwn}
use Rattle.stored_tries.proofs.Forms.{status_at, after_final, one_final}

-- What is asked of an own word, by its cell.
pub record CellInOwn (known : ℕ → Type 0) (ws : List ℕ) (c : Cell) : Type 0 where
  pub refers : (b : ℕ) → Refers c b → KnownBeside known ws b
  pub told : (t : ℕ) → teller c ≡ Some t → 4000000000 ≤ t
  pub refers_by : (t y n b : ℕ) → teller c ≡ Some t → own_at ws t ≡ Some y → decoded y ≡ Some (Raw n) → RefersBy n c b
      → KnownBeside known ws b
  pub part : (b : ℕ) → HasPart c b → 4000000000 ≤ b
  pub part_final : (b y : ℕ) → HasPart c b → own_at ws b ≡ Some y → is_final_word y ≡ true
  pub part_final_by : (t z n b y : ℕ) → teller c ≡ Some t → own_at ws t ≡ Some z → decoded z ≡ Some (Raw n) → HasPartBy n c b
      → own_at ws b ≡ Some y → is_final_word y ≡ true

pub cell_in_own : (known : ℕ → Type 0) (ws : List ℕ) (x : ℕ) (c : Cell) → decoded x ≡ Some c → CellInOwn known ws c → InOwn known ws x
cell_in_own known ws x c d h = record {
  refers = λ b e g r. (on e g).refers b r;
  told = λ t e g k. (on e g).told t k;
  refers_by = λ t y n b e g k i j r. (on e g).refers_by t y n b k i j r;
  part = λ b e g r. (on e g).part b r;
  part_final = λ b y e g r i. (on e g).part_final b y r i;
  part_final_by = λ t z n b y e g k i j r l. (on e g).part_final_by t z n b y k i j r l;
}
  where
    on : (e : Cell) → decoded x ≡ Some e → CellInOwn known ws e
    on e g = subst (CellInOwn known ws) (same_Some _ _ (sym d ∙ g)) h

-- a word that says no cell asks nothing
pub nothing_in_own : (known : ℕ → Type 0) (ws : List ℕ) (x : ℕ) → decoded x ≡ None → InOwn known ws x
nothing_in_own known ws x d = record {
  refers = λ b e g r. absurd (no e g);
  told = λ t e g k. absurd (no e g);
  refers_by = λ t y n b e g k i j r. absurd (no e g);
  part = λ b e g r. absurd (no e g);
  part_final = λ b y e g r i. absurd (no e g);
  part_final_by = λ t z n b y e g k i j r l. absurd (no e g);
}
  where
    no : (e : Cell) → decoded x ≡ Some e → ⊥
    no e g = let k : None ≡ Some e = sym d ∙ g in cc

module _ (ps : List (List ℕ)) (each : (a : ℕ) (p : List ℕ) → StartsAt 4000000000 ps a p → IsPiece p) (ws : List ℕ)
    (own : AreOwn ps ws) where
  pub at_piece : (s d x : ℕ) (p : List ℕ) → StartsAt 4000000000 ps s p → slice_get p d ≡ Some x → own_at ws (s + d) ≡ Some x
  at_piece s d x p h e = own.words (s + d) ∙ rows_in 4000000000 s d x ps p h e

  in_piece : (s d : ℕ) (p : List ℕ) → StartsAt 4000000000 ps s p → d < length p → (b : ℕ) → b ≡ s + d → IsOwn ws b
  in_piece s d p h l b e =
      let g = get_of p d l in subst (IsOwn ws) (sym e) (own_is ws (s + d) g.0 (at_piece s d g.0 p h g.1))

  -- the word of a piece at an address
  at_same : (s d x y : ℕ) (p : List ℕ) → StartsAt 4000000000 ps s p → slice_get p d ≡ Some x → (b : ℕ) → b ≡ s + d → own_at ws b ≡ Some y
      → x ≡ y
  at_same s d x y p h e b i f =
      same_Some x y (sym (at_piece s d x p h e) ∙ subst (λ (c : ℕ). own_at ws c ≡ Some y) i f)

  pub kind_own : (a x : ℕ) → own_at ws a ≡ Some x → (s d : ℕ) × (p : List ℕ) × StartsAt 4000000000 ps s p × (d < length p) × (a ≡ s + d)
      × (slice_get p d ≡ Some x)
  kind_own a x e = in_rows 4000000000 a x ps (sym (own.words a) ∙ e)

  -- after a status stands a process
  pub process_own : (a x b : ℕ) (q : Stand) → own_at ws a ≡ Some x → decoded x ≡ Some (Status q) → a < b → b ≤ a + 3 → IsOwn ws b
  process_own a x b q e f l u = go (kind_own a x e)
    where
      go : (s d : ℕ) × (p : List ℕ) × StartsAt 4000000000 ps s p × (d < length p) × (a ≡ s + d) × (slice_get p d ≡ Some x) → IsOwn ws b
      go k =
          let is = status_at k.2 (each k.0 k.2 k.3) k.1 x q k.6 f in
          let size : length k.2 ≡ suc (suc (suc (suc (length is.1.rest)))) = ap length is.1.is in
          let first : k.1 ≡ 0 = is.0 in
          let here : a ≡ k.0 + k.1 = k.5 in
          in_piece k.0 (b - a) k.2 k.3 (omega arith) b (omega arith)

  pub arguments_own : (a x y n b : ℕ) (q : Stand) → own_at ws a ≡ Some x → decoded x ≡ Some (Status q) → own_at ws (a + 3) ≡ Some y
      → decoded y ≡ Some (Raw n) → a + 3 < b → b ≤ a + 3 + n → IsOwn ws b
  arguments_own a x y n b q e f g h l u = go (kind_own a x e)
    where
      go : (s d : ℕ) × (p : List ℕ) × StartsAt 4000000000 ps s p × (d < length p) × (a ≡ s + d) × (slice_get p d ≡ Some x) → IsOwn ws b
      go k =
          let is = status_at k.2 (each k.0 k.2 k.3) k.1 x q k.6 f in
          let size : length k.2 ≡ suc (suc (suc (suc (length is.1.rest)))) = ap length is.1.is in
          let first : k.1 ≡ 0 = is.0 in
          let here : a ≡ k.0 + k.1 = k.5 in
          let there : slice_get k.2 3 ≡ Some is.1.fourth = ap (λ (p : List ℕ). slice_get p 3) is.1.is in
          let same : is.1.fourth ≡ y = at_same k.0 3 is.1.fourth y k.2 k.3 there (a + 3) (omega arith) g in
          let number : Some (Raw is.1.count) ≡ Some (Raw n) = sym is.1.number ∙ (ap decoded same ∙ h) in
          let count : is.1.count ≡ n = cc in
          let rest : length is.1.rest ≡ is.1.count = is.1.size in
          in_piece k.0 (b - a) k.2 k.3 (omega arith) b (omega arith)

  module _ (known : ℕ → Type 0) where
    place_own : (s x b : ℕ) → StartsAt 4000000000 ps s (0 ∷ x ∷ []) → (b ≡ suc s) ⊎ (suc b ≡ suc s) → KnownBeside known ws b
    place_own s x b h (inl e) = inr (in_piece s 1 (0 ∷ x ∷ []) h (omega arith) b (omega arith))
    place_own s x b h (inr e) = inr (in_piece s 0 (0 ∷ x ∷ []) h (omega arith) b (omega arith))

    none_told : (t : ℕ) → None ≡ Some t → ⊥
    none_told t e = cc

    -- a cell that refers to a place
    ref_own : (a s x : ℕ) → a ≡ suc s → StartsAt 4000000000 ps s (0 ∷ x ∷ []) → CellInOwn known ws (Ref a)
    ref_own a s x e h = record {
      refers = λ b r. place_own s x b h (⊎_elim (λ (i : b ≡ a). inl (i ∙ e)) (λ (i : suc b ≡ a). inr (i ∙ e)) r);
      told = λ t k. absurd (none_told t k);
      refers_by = λ t y n b k i j r. absurd r;
      part = λ b r. absurd r;
      part_final = λ b y r i. absurd r;
      part_final_by = λ t z n b y k i j r l. absurd r;
    }

    read_only_own : (a s x : ℕ) → a ≡ suc s → StartsAt 4000000000 ps s (0 ∷ x ∷ []) → CellInOwn known ws (RoRef a)
    read_only_own a s x e h = record {
      refers = λ b r. place_own s x b h (⊎_elim (λ (i : b ≡ a). inl (i ∙ e)) (λ (i : suc b ≡ a). inr (i ∙ e)) r);
      told = λ t k. absurd (none_told t k);
      refers_by = λ t y n b k i j r. absurd r;
      part = λ b r. absurd r;
      part_final = λ b y r i. absurd r;
      part_final_by = λ t z n b y k i j r l. absurd r;
    }

    -- a pair
    pair_own : (a x y : ℕ) → StartsAt 4000000000 ps a (x ∷ y ∷ []) → is_final_word x ≡ true → ((n : ℕ) → decoded x ≡ Some (Raw n) → ⊥)
        → CellInOwn known ws (Cons a)
    pair_own a x y h f other = record {
      refers = λ b r. ⊎_elim (λ (i : b ≡ a). inr (in_piece a 0 (x ∷ y ∷ []) h (omega arith) b (omega arith)))
          (λ (i : b ≡ suc a). inr (in_piece a 1 (x ∷ y ∷ []) h (omega arith) b (omega arith))) r;
      told = λ t k. let e : a ≡ t = same_Some a t k in omega (arith, high);
      refers_by = λ t z n b k i j r. absurd (not_told t z n k i j);
      part = λ b r. ⊎_elim (λ (i : b ≡ a). omega (arith, high)) (λ (i : b ≡ suc a). omega (arith, high)) r;
      part_final = λ b z r i. ⊎_elim
          (λ (e : b ≡ a). subst (λ (u : ℕ). is_final_word u ≡ true)
          (at_same a 0 x z (x ∷ y ∷ []) h refl b (let k : b ≡ a + 0 = omega arith in k) i) f)
          (λ (e : b ≡ suc a). subst (λ (u : ℕ). is_final_word u ≡ true)
          (at_same a 1 y z (x ∷ y ∷ []) h refl b (let k : b ≡ a + 1 = omega arith in k) i)
          (after_final x (y ∷ []) (each a (x ∷ y ∷ []) h) f 1 y refl)) r;
      part_final_by = λ t z n b u k i j r l. absurd (not_told t z n k i j);
    }
      where
        high : 4000000000 ≤ a
        high = starts_above 4000000000 ps a (x ∷ y ∷ []) h

        not_told : (t z n : ℕ) → Some a ≡ Some t → own_at ws t ≡ Some z → decoded z ≡ Some (Raw n) → ⊥
        not_told t z n k i j =
            let e : a ≡ t = same_Some a t k in
            let s : x ≡ z = at_same a 0 x z (x ∷ y ∷ []) h refl t (let l : t ≡ a + 0 = omega arith in l) i in
            other n (ap decoded s ∙ j)

    -- a tuple
    tuple_own : (a r n : ℕ) (xs : List ℕ) → StartsAt 4000000000 ps a (r ∷ xs) → decoded r ≡ Some (Raw n) → length xs ≡ parts n
        → CellInOwn known ws (Tuple a)
    tuple_own a r n xs h d size = record {
      refers = λ b e. inr (first_own b e);
      told = λ t k. let e : a ≡ t = same_Some a t k in omega (arith, high);
      refers_by = λ t z m b k i j e. inr (in_piece a (b - a) (r ∷ xs) h (within t z m b k i j e) b (let l : a < b = e.0 in omega arith));
      part = λ b e. let k : b ≡ a = e in omega (arith, high);
      part_final = λ b z e i. subst (λ (u : ℕ). is_final_word u ≡ true)
          (at_same a 0 r z (r ∷ xs) h refl b (let k : b ≡ a = e in let l : b ≡ a + 0 = omega arith in l) i) (raw_final r n d);
      part_final_by = λ t z m b u k i j e l.
          let g = get_of (r ∷ xs) (b - a) (within t z m b k i j e) in
          subst (λ (v : ℕ). is_final_word v ≡ true)
          (at_same a (b - a) g.0 u (r ∷ xs) h g.1 b (let o : a < b = e.0 in let q : b ≡ a + (b - a) = omega arith in q) l)
          (after_final r xs (each a (r ∷ xs) h) (raw_final r n d) (b - a) g.0 g.1);
    }
      where
        high : 4000000000 ≤ a
        high = starts_above 4000000000 ps a (r ∷ xs) h

        first_own : (b : ℕ) → b ≡ a → IsOwn ws b
        first_own b e = in_piece a 0 (r ∷ xs) h (omega arith) b (omega arith)

        within : (t z m b : ℕ) → Some a ≡ Some t → own_at ws t ≡ Some z → decoded z ≡ Some (Raw m) → (a < b) × (b ≤ a + parts m)
            → b - a < length (r ∷ xs)
        within t z m b k i j e =
            let f : a ≡ t = same_Some a t k in
            let s : r ≡ z = at_same a 0 r z (r ∷ xs) h refl t (let l : t ≡ a + 0 = omega arith in l) i in
            let number : Some (Raw n) ≡ Some (Raw m) = sym d ∙ (ap decoded s ∙ j) in
            let count : n ≡ m = cc in
            let g : parts n ≡ parts m = ap parts count in
            let l : a < b = e.0 in
            let u : b ≤ a + parts m = e.1 in
            omega (arith, size)

    -- a wide number
    wide_own : (a k x : ℕ) → StartsAt 4000000000 ps a (x ∷ []) → CellInOwn known ws (Wide a k)
    wide_own a k x h = record {
      refers = λ b e. inr (first_own b e);
      told = λ t e. absurd (none_told t e);
      refers_by = λ t y n b e i j r. absurd r;
      part = λ b e. let i : b ≡ a = e in omega (arith, high);
      part_final = λ b z e i. subst (λ (u : ℕ). is_final_word u ≡ true)
          (at_same a 0 x z (x ∷ []) h refl b (let k : b ≡ a = e in let l : b ≡ a + 0 = omega arith in l) i)
          (one_final x (each a (x ∷ []) h));
      part_final_by = λ t z n b y e i j r l. absurd r;
    }
      where
        high : 4000000000 ≤ a
        high = starts_above 4000000000 ps a (x ∷ []) h

        first_own : (b : ℕ) → b ≡ a → IsOwn ws b
        first_own b e = in_piece a 0 (x ∷ []) h (omega arith) b (omega arith)

    -- a cell that refers to a piece
    pub refers_in_own : (c : Cell) → RefersOwn ps c → CellInOwn known ws c
    refers_in_own (Ref a) h = ref_own a h.0 h.1 h.2 h.3
    refers_in_own (RoRef a) h = read_only_own a h.0 h.1 h.2 h.3
    refers_in_own (Cons a) h = pair_own a h.0 h.1 h.2 h.3 h.4
    refers_in_own (Tuple a) h = tuple_own a h.0 h.1 h.2 h.3 h.4 h.5
    refers_in_own (Wide a k) h = wide_own a k h.0 h.1
    refers_in_own (Unbound a) h = absurd h
    refers_in_own (Small z) h = absurd h
    refers_in_own (Str n) h = absurd h
    refers_in_own Nil h = absurd h
    refers_in_own (Status d) h = absurd h
    refers_in_own (Raw n) h = absurd h
    refers_in_own (Top a) h = absurd h

-- a cell that tells by a number, and refers to a piece, tells by an own word
pub teller_high : (ps : List (List ℕ)) (c : Cell) (t : ℕ) → RefersOwn ps c → teller c ≡ Some t → 4000000000 ≤ t
teller_high ps (Cons a) t h k =
    let e : a ≡ t = same_Some a t k in let l = starts_above 4000000000 ps a (h.0 ∷ h.1 ∷ []) h.2 in omega arith
teller_high ps (Tuple a) t h k =
    let e : a ≡ t = same_Some a t k in let l = starts_above 4000000000 ps a (h.0 ∷ h.2) h.3 in omega arith
teller_high ps (Ref a) t h k = cc
teller_high ps (RoRef a) t h k = cc
teller_high ps (Wide a n) t h k = cc
teller_high ps (Unbound a) t h k = absurd h
teller_high ps (Small z) t h k = absurd h
teller_high ps (Str n) t h k = absurd h
teller_high ps Nil t h k = absurd h
teller_high ps (Status d) t h k = absurd h
teller_high ps (Raw n) t h k = absurd h
teller_high ps (Top a) t h k = absurd h
