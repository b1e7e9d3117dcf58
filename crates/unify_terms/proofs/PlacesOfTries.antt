-- The places of a state, and with them those of a clause's variables among the pieces of a try, are named.
use Rattle.std.proofs.Common.{◌≡◌, ◌⊎◌, ℕ, suc, ◌+◌, ◌-◌, ◌<◌, ◌≤◌, true, pos, List, [], refl, sym, ap, ◌∙◌, subst, ⊎_elim, inl, inr}
use Rattle.std.proofs.Common.{arith, Option, Some, None}
use Rattle.std.specs.Prelude.{◌↔◌, slice_get}
use Rattle.fcp_model.specs.declared.run.Place.{Place}
use Rattle.fcp_model.specs.Places.{Variable, made, own}
use Rattle.fcp_model.specs.Terms.{Bindings}
use Rattle.heap_words.specs.Cells.{decoded}
use Rattle.heap_words.specs.Trails.{Memory, word_at}
use Rattle.heap_words.specs.declared.cell.Cell.TheVariants.{Small}
use Rattle.word_states.specs.Words.{Words, first_of}
use Rattle.word_states.specs.Denoting.{Addresses, Listed}
use Rattle.word_states.specs.Standing.{name_code, PlacesStand}
use Rattle.word_states.specs.Pieces.{rows, StartsAt, is_place, place_words, numbered, IsPiece, with_own, with_variables}
use Rattle.word_states.proofs.Lists.{listed_either}
use Rattle.word_states.proofs.Pieces.{Located, located_starts, starts_above, rows_in, rows_above, the_place, place_once, place_rises}
use Rattle.word_states.proofs.Pieces.{variable_at}
use Rattle.unify_terms.specs.WordsOfTries.{HasWords, AreNamed, SayBound, AreLow, AStateIsSeen, ATryIsNamed}

same_place : (i j : Place) → made i ≡ made j → i ≡ j
same_place i j e = cc

-- the words of a state say to what its places are bound
pub state_says : (w : Words) (vs : Addresses) (bound : Bindings) → PlacesStand w vs bound → SayBound w vs [] bound
state_says w vs bound stand = record {
  privately = λ v a x h e. (let bad : None ≡ Some x = e in cc);
  openly = λ v a h e. stand.word v a h;
}

module _ (w : Words) (vs : Addresses) (bound : Bindings) (stand : PlacesStand w vs bound) (low : AreLow w) where
  -- a place of the store with its name word
  store_place : (m : Memory) → HasWords m w → (j : Place) (a : ℕ) → Listed vs (made j) a
      → (a < 4000000000) × (j.number < 268435456) × (decoded (m (a - 1)) ≡ Some (Small (pos (name_code j.entry j.number))))
  store_place m has j a h =
      let k = stand.is_made (made j) a h in
      let x = stand.word (made j) a h in
      let n = stand.name (made j) a h in (
        low a x.0 x.1,
        subst (λ (i : Place). i.number < 268435456) (sym (same_place j k.0 k.1)) k.2,
        ap decoded (has (a - 1) n.1.0 n.1.1) ∙ n.1.2,
      )

  no_own : {A : Type 0} (k a : ℕ) → Listed vs (own k) a → A
  no_own k a h = let r = stand.is_made (own k) a h in let bad : own k ≡ made r.0 = r.1 in cc

  pub state_named : (m : Memory) → HasWords m w → AreNamed m vs
  state_named m has = record {
    once = stand.once;
    store = store_place m has;
    own_words = λ k a h. no_own k a h;
    rise = λ k l a b h i lt. no_own k a h;
  }

  module _ (ps : List (List ℕ)) (pieces : (a : ℕ) (p : List ℕ) → StartsAt 4000000000 ps a p → IsPiece p)
      (few : (a x : ℕ) → word_at (rows 4000000000 ps) a ≡ Some x → a < 0x100000000) where
    -- a variable of the clause has its place among the pieces
    pub record HasPiece (v : Variable) (a : ℕ) : Type 0 where
      pub number : ℕ
      pub process : ℕ
      pub start : ℕ
      pub piece : List ℕ
      pub variable : v ≡ own number
      pub located : Located 1 1 4000000000 ps number process start piece
      pub place : is_place piece ≡ true
      pub address : a ≡ suc start

    has_piece : (v : Variable) (a : ℕ) → Listed (numbered 1 (place_words 4000000000 ps)) v a → HasPiece v a
    has_piece v a h =
        let r = variable_at 1 1 4000000000 ps v a h in
        record { number = r.0; process = r.1; start = r.2; piece = r.3; variable = r.4; located = r.5; place = r.6; address = r.7 }

    starts : (v : Variable) (a : ℕ) (h : HasPiece v a) → StartsAt 4000000000 ps h.start h.piece
    starts v a h = located_starts 1 1 4000000000 ps h.number h.process h.start h.piece h.located

    high : (v : Variable) (a : ℕ) → HasPiece v a → (4000000000 ≤ a) × (a < 0x100000000)
    high v a h =
        let s = starts v a h in
        let p = the_place h.piece (pieces h.start h.piece s) h.place in
        let e = rows_in 4000000000 h.start 1 p.0 ps h.piece s (ap (λ (l : List ℕ). second l) p.1) in
        let l = few (h.start + 1) p.0 e in
        let g = starts_above 4000000000 ps h.start h.piece s in
        let i = h.address in
        (omega arith, omega arith)
      where
        second : List ℕ → Option ℕ
        second l = slice_get l 1

    has_once : (v u : Variable) (a b : ℕ) → HasPiece v a → HasPiece u b → (v ≡ u) ↔ (a ≡ b)
    has_once v u a b h k =
        let r = place_once 1 1 4000000000 ps h.number h.process h.start h.piece k.number k.process k.start k.piece h.located k.located
        h.place k.place in (
          (λ e. (let n : own h.number ≡ own k.number = sym h.variable ∙ e ∙ k.variable in
              let n' : h.number ≡ k.number = cc in h.address ∙ ap suc (r.0 n') ∙ sym k.address)),
          (λ e. (let i = h.address in let j = k.address in let s : h.start ≡ k.start = omega arith in
              h.variable ∙ ap own (r.1 s) ∙ sym k.variable)),
        )

    -- one of the store's is none of the clause's
    apart : (v u : Variable) (a b : ℕ) → Listed vs v a → HasPiece u b → (v ≡ u) ↔ (a ≡ b)
    apart v u a b h k =
        let x = stand.word v a h in
        let l = low a x.0 x.1 in
        let g = (high u b k).0 in
        let made' = stand.is_made v a h in (
          (λ e. (let bad : made made'.0 ≡ own k.number = sym made'.1 ∙ e ∙ k.variable in cc)),
          (λ e. absurd (omega arith)),
        )

    either : (v : Variable) (a : ℕ) → Listed (with_variables ps vs) v a → Listed vs v a ⊎ HasPiece v a
    either v a h =
        ⊎_elim (λ (t : Listed vs v a). inl t) (λ (t : Listed (numbered 1 (place_words 4000000000 ps)) v a). inr (has_piece v a t))
        (listed_either vs (numbered 1 (place_words 4000000000 ps)) v a h)

    once : (v u : Variable) (a b : ℕ) → Listed vs v a ⊎ HasPiece v a → Listed vs u b ⊎ HasPiece u b → (v ≡ u) ↔ (a ≡ b)
    once v u a b (inl h) (inl k) = stand.once v u a b h k
    once v u a b (inl h) (inr k) = apart v u a b h k
    once v u a b (inr h) (inl k) = let r = apart u v b a k h in ((λ e. sym (r.0 (sym e))), (λ e. sym (r.1 (sym e))))
    once v u a b (inr h) (inr k) = has_once v u a b h k

    -- words of the store stand among those of the try
    stays : (b x : ℕ) → w b ≡ Some x → with_own ps w b ≡ Some x
    stays b x e = go (word_at (rows 4000000000 ps) b) refl
      where
        go : (o : Option ℕ) → word_at (rows 4000000000 ps) b ≡ o → first_of (word_at (rows 4000000000 ps) b) (w b) ≡ Some x
        go None i = ap (λ (o : Option ℕ). first_of o (w b)) i ∙ e
        go (Some y) i = let l = low b x e in let g = rows_above 4000000000 b y ps i in absurd (omega arith)

    store : (m : Memory) → HasWords m (with_own ps w) → (j : Place) (a : ℕ) → Listed vs (made j) a ⊎ HasPiece (made j) a
        → (a < 4000000000) × (j.number < 268435456) × (decoded (m (a - 1)) ≡ Some (Small (pos (name_code j.entry j.number))))
    store m has j a (inl h) = store_place m (λ b x e. has b x (stays b x e)) j a h
    store m has j a (inr h) = let bad : made j ≡ own h.number = h.variable in cc

    own_words : (k a : ℕ) → Listed vs (own k) a ⊎ HasPiece (own k) a → (4000000000 ≤ a) × (a < 0x100000000)
    own_words k a (inl h) = no_own k a h
    own_words k a (inr h) = high (own k) a h

    rise : (k l a b : ℕ) → Listed vs (own k) a ⊎ HasPiece (own k) a → Listed vs (own l) b ⊎ HasPiece (own l) b → k < l → a < b
    rise k l a b (inl h) i lt = no_own k a h
    rise k l a b (inr h) (inl i) lt = no_own l b i
    rise k l a b (inr h) (inr i) lt =
        let n : k ≡ h.number = (let e : own k ≡ own h.number = h.variable in cc) in
        let n' : l ≡ i.number = (let e : own l ≡ own i.number = i.variable in cc) in
        let r = place_rises 1 1 4000000000 ps h.number h.process h.start h.piece i.number i.process i.start i.piece h.located i.located
        h.place (omega arith) in
        let u = h.address in let v = i.address in
        omega arith

    pub try_named : (m : Memory) → HasWords m (with_own ps w) → AreNamed m (with_variables ps vs)
    try_named m has = record {
      once = λ v u a b h k. once v u a b (either v a h) (either u b k);
      store = λ j a h. store m has j a (either (made j) a h);
      own_words = λ k a h. own_words k a (either (own k) a h);
      rise = λ k l a b h i lt. rise k l a b (either (own k) a h) (either (own l) b i) lt;
    }

pub a_state_is_seen : AStateIsSeen
a_state_is_seen m w vs bound stand low has = (state_named w vs bound stand low m has, state_says w vs bound stand)

pub a_try_is_named : ATryIsNamed
a_try_is_named m w vs bound ps stand low pieces few has = try_named w vs bound stand low ps pieces few m has
