-- A piece more keeps what is at hand safe: walks go from its words to older ones alone.
use Rattle.std.proofs.Common.{◌≡◌, ◌⊎◌, ℕ, suc, ◌+◌, ◌<◌, ◌≤◌, max, Bool, true, false, cond, List, [], ◌∷◌, ◌++◌, length}
use Rattle.std.proofs.Common.{refl, sym, ap, ◌∙◌, subst, inl, inr, ⊎_elim, arith, Option, Some, None}
use Rattle.std.specs.Prelude.{slice_get, nat_lt, unwrap_or}
use Rattle.std.proofs.lemmas.Bool.{lt-ltb, le-ltb, ltb-true, ltb-false, cond-true, cond-false}
use Rattle.fcp_model.specs.Places.{own}
use Rattle.heap_words.specs.Cells.{decoded}
use Rattle.heap_words.specs.Trails.{WordList, Memory, word_at}
use Rattle.ro_unify.specs.Occurs.{count_of}
use Rattle.ro_unify.specs.Walks.{first_some, seen_at, Node, place, part, count, address, node_word, Goes, Edge, Tame}
use Rattle.ro_unify.proofs.Seeing.{nil_goes, goes_seen}
use Rattle.word_states.specs.Words.{first_of, row}
use Rattle.word_states.specs.Denoting.{Listed}
use Rattle.word_states.specs.Pieces.{is_place, place_words, numbered}
use Rattle.word_states.proofs.Lists.{row_none, in_row}
use Rattle.machine_code.specs.Fresh.{Tops, topped}
use Rattle.trial_laws.specs.AtHand.{AtHand, end_of}
use Rattle.trial_laws.specs.Laws.{holding}
use Rattle.trial_laws.specs.NewPieces.{next_piece, with_piece}
use Rattle.trial_laws.specs.Leading.{IsLedOn}
use Rattle.trial_laws.proofs.Pieces.{starts_left, end_last, places_left}
use Rattle.safe_tries.specs.Safe.{own_words, seen, IsTopped, SawOpen, IsSafe}
use Rattle.safe_tries.proofs.Steps.{goes_same, end_above, own_in, or_none, rows_last, seen_own, seen_near, opened_on}
use Rattle.safe_tries.proofs.SlotLaws.{topped_slot, place_near}

-- The piece is no place. Its words lead to older ones, up to the variable H or to released ones.
module _ (kept : WordList) (r : AtHand) (τ : Tops) (q : ℕ) (s : IsSafe kept r τ q) (p : List ℕ) (H : ℕ) (no_place : is_place p ≡ false)
    (words : (d x : ℕ) → slice_get p d ≡ Some x → (b : Node) → Goes (seen kept r) x b
    → (address b < next_piece r) × (s.topped.high (address b) ≤ max H q)) where
  abbrev n : ℕ
  n = next_piece r

  abbrev m : Memory
  m = seen kept r

  abbrev m' : Memory
  m' = seen kept (with_piece r p)

  store_first : 4000000000 ≤ next_piece r
  store_first = end_above 4000000000 r.pieces

  -- the words before the piece are as they were
  own_old : (a : ℕ) → a < next_piece r → own_words (r.pieces ++ p ∷ []) a ≡ own_words r.pieces a
  own_old a l =
      rows_last 4000000000 r.pieces p a
      ∙ (ap (λ (o : Option ℕ). first_of (own_words r.pieces a) o) (row_none (next_piece r) a p (inl l)) ∙ or_none (own_words r.pieces a))

  seen_old : (a : ℕ) → a < next_piece r → seen_at kept (own_words (r.pieces ++ p ∷ [])) a ≡ seen_at kept (own_words r.pieces) a
  seen_old a l = ap (λ (o : Option ℕ). first_some (word_at kept a) o) (own_old a l)

  memory_old : (a : ℕ) → a < next_piece r → seen kept (with_piece r p) a ≡ seen kept r a
  memory_old a l = ap (λ (o : Option ℕ). unwrap_or o 6) (seen_old a l)

  -- and from there on stand those of the piece
  own_late : (a : ℕ) → next_piece r ≤ a → own_words r.pieces a ≡ None
  own_late a l = go (own_words r.pieces a) refl
    where
      go : (o : Option ℕ) → own_words r.pieces a ≡ o → own_words r.pieces a ≡ None
      go None e = e
      go (Some x) e = absurd (let k = own_in r.pieces a x e in omega arith)

  own_new : (a x : ℕ) → next_piece r ≤ a → own_words (r.pieces ++ p ∷ []) a ≡ Some x → (d : ℕ) × (slice_get p d ≡ Some x)
  own_new a x l e =
      let f : first_of None (word_at (row (next_piece r) p) a) ≡ Some x =
      ap (λ (o : Option ℕ). first_of o (word_at (row (next_piece r) p) a)) (sym (own_late a l))
      ∙ (sym (rows_last 4000000000 r.pieces p a) ∙ e) in
      let k = in_row (next_piece r) a x p f in
      (k.0, k.3)

  seen_new : (a x : ℕ) → next_piece r ≤ a → seen_at kept (own_words (r.pieces ++ p ∷ [])) a ≡ Some x → (d : ℕ) × (slice_get p d ≡ Some x)
  seen_new a x l e =
      own_new a x l (sym (seen_own kept (r.pieces ++ p ∷ []) s.below a (let k = store_first in omega arith)) ∙ e)

  seen_on : (a x : ℕ) → seen_at kept (own_words r.pieces) a ≡ Some x → seen_at kept (own_words (r.pieces ++ p ∷ [])) a ≡ Some x
  seen_on a x e = seen_old a (seen_near kept r.pieces s.below a x e) ∙ e

  -- no place of the piece is bound
  bound_near : (a x : ℕ) → word_at r.binds a ≡ Some x → a < next_piece r
  bound_near a x e = let o = s.bound_open a x e in seen_near kept r.pieces s.below a o.0 o.2

  unbound : (a : ℕ) → next_piece r ≤ a → word_at r.binds a ≡ None
  unbound a l = go (word_at r.binds a) refl
    where
      go : (o : Option ℕ) → word_at r.binds a ≡ o → word_at r.binds a ≡ None
      go None e = e
      go (Some x) e = absurd (let k = bound_near a x e in omega arith)

  -- a step from before the piece is an old one
  node_old : (a : Node) → address a < next_piece r → node_word r.binds (seen kept (with_piece r p)) a ≡ node_word r.binds (seen kept r) a
  node_old (place a) l = ap (λ (x : ℕ). unwrap_or (word_at r.binds a) x) (memory_old a l)
  node_old (part a) l = memory_old a l
  node_old (count a) l = refl

  numbers_old : (t : ℕ) → t < next_piece r → count_of (decoded (seen kept (with_piece r p) t)) ≡ count_of (decoded (seen kept r t))
  numbers_old t l = ap (λ (x : ℕ). count_of (decoded x)) (memory_old t l)

  step_old : (a b : Node) → address a < next_piece r → Edge r.binds (seen kept (with_piece r p)) a b → Edge r.binds (seen kept r) a b
  step_old a b l e =
      goes_same m m' (node_word r.binds m a) b (λ t g. numbers_old t (s.tame.within a (count t) g))
      (subst (λ (x : ℕ). Goes m' x b) (node_old a l) e)

  -- and one from the piece leads to before it
  word_old : (d x : ℕ) → slice_get p d ≡ Some x → (b : Node) → Goes (seen kept (with_piece r p)) x b → Goes (seen kept r) x b
  word_old d x e b g = goes_same m m' x b (λ t h. numbers_old t (words d x e (count t) h).0) g

  from_new : (a : ℕ) (b : Node) → next_piece r ≤ a → Goes (seen kept (with_piece r p)) (seen kept (with_piece r p) a) b
      → (address b < next_piece r) × (s.topped.high (address b) ≤ max H q)
  from_new a b l g =
      let o = goes_seen kept (own_words (r.pieces ++ p ∷ [])) m' a b g in
      let d = seen_new a o.0 l o.1 in
      words d.0 o.0 d.1 b (word_old d.0 o.0 d.1 b o.2)

  step_new : (a b : Node) → next_piece r ≤ address a → Edge r.binds (seen kept (with_piece r p)) a b
      → (address b < next_piece r) × (s.topped.high (address b) ≤ max H q)
  step_new (place a) b l e = from_new a b l (subst (λ (x : ℕ). Goes m' x b) (ap (λ (o : Option ℕ). unwrap_or o (m' a)) (unbound a l)) e)
  step_new (part a) b l e = from_new a b l e
  step_new (count a) b l e = absurd (nil_goes m' b e)

  -- what is so of the words before the piece, and of the others
  abbrev high : ℕ → ℕ
  high a = cond (nat_lt a (next_piece r)) (s.topped.high a) H

  high_old : (a : ℕ) → a < next_piece r → high a ≡ s.topped.high a
  high_old a l = cond-true _ _ _ (lt-ltb a (next_piece r) l)

  high_new : (a : ℕ) → next_piece r ≤ a → high a ≡ H
  high_new a l = cond-false _ _ _ (le-ltb a (next_piece r) l)

  abbrev rank : Node → ℕ
  rank a = cond (nat_lt (address a) (next_piece r)) (s.tame.rank a) (suc s.tame.top)

  rank_old : (a : Node) → address a < next_piece r → rank a ≡ s.tame.rank a
  rank_old a l = cond-true _ _ _ (lt-ltb (address a) (next_piece r) l)

  rank_new : (a : Node) → next_piece r ≤ address a → rank a ≡ suc s.tame.top
  rank_new a l = cond-false _ _ _ (le-ltb (address a) (next_piece r) l)

  -- an address stands before the piece or not
  side : (a : ℕ) → (a < next_piece r) ⊎ (next_piece r ≤ a)
  side a = go (nat_lt a (next_piece r)) refl
    where
      go : (t : Bool) → nat_lt a (next_piece r) ≡ t → (a < next_piece r) ⊎ (next_piece r ≤ a)
      go true e = inl (ltb-true a (next_piece r) e)
      go false e = inr (ltb-false a (next_piece r) e)

  ends_at : end_of 4000000000 (r.pieces ++ p ∷ []) ≡ next_piece r + length p
  ends_at = end_last 4000000000 r.pieces p

  new_tame : Tame r.binds kept (own_words (r.pieces ++ p ∷ [])) (end_of 4000000000 (r.pieces ++ p ∷ []))
  new_tame = record {
    rank = rank;
    top = suc s.tame.top;
    low = λ a. ⊎_elim (λ l. omega (arith, rank_old a l, s.tame.low a)) (λ l. omega (arith, rank_new a l)) (side (address a));
    falls = falls;
    within = within;
    inner = s.tame.inner;
    stays = λ a b e i. s.tame.stays a b (step_old a b (inner_near a i) e) i;
    bound_inner = s.tame.bound_inner;
    inner_seen = λ a i. let k = s.tame.inner_seen a i in record { word = k.word; there = seen_on (address a) k.word k.there };
  }
    where
      inner_near : (a : Node) → s.tame.inner a ≡ true → address a < next_piece r
      inner_near a i = let k = s.tame.inner_seen a i in seen_near kept r.pieces s.below (address a) k.word k.there

      falls : (a b : Node) → Edge r.binds (seen kept (with_piece r p)) a b → rank b < rank a
      falls a b e = ⊎_elim before behind (side (address a))
        where
          before : address a < next_piece r → rank b < rank a
          before l =
              let o = step_old a b l e in
              omega (arith, rank_old a l, rank_old b (s.tame.within a b o), s.tame.falls a b o)

          behind : next_piece r ≤ address a → rank b < rank a
          behind l = omega (arith, rank_new a l, rank_old b (step_new a b l e).0, s.tame.low b)

      within : (a b : Node) → Edge r.binds (seen kept (with_piece r p)) a b → address b < end_of 4000000000 (r.pieces ++ p ∷ [])
      within a b e =
          ⊎_elim (λ l. omega (arith, ends_at, s.tame.within a b (step_old a b l e))) (λ l. omega (arith, ends_at, (step_new a b l e).0))
          (side (address a))

  -- the places are the old ones
  listed_old : (k a : ℕ) → Listed (numbered 1 (place_words 4000000000 (r.pieces ++ p ∷ []))) (own k) a
      → Listed (numbered 1 (place_words 4000000000 r.pieces)) (own k) a
  listed_old k a l = subst (λ (as' : List ℕ). Listed (numbered 1 as') (own k) a) (places_left 4000000000 r.pieces p no_place) l

  new_topped : (t : IsTopped kept (with_piece r p) τ q) × ((a : ℕ) → next_piece r ≤ a → t.high a ≡ H)
  new_topped = (
    record {
      high = high;
      store = λ a l. omega (arith, high_old a (let k = store_first in omega arith), s.topped.store a l);
      place = λ k a l. let o = listed_old k a l in high_old a (place_near r.pieces s.led.pieces k a o) ∙ s.topped.place k a o;
      climbs = climbs;
      slots = λ i b g. let o = slot_old i b g in omega (arith, high_old (address b) (s.topped.near i b o), s.topped.slots i b o);
      near = λ i b g. omega (arith, ends_at, s.topped.near i b (slot_old i b g));
      bound = λ a x e. omega (arith, high_old a (bound_near a x e), s.topped.bound a x e);
      unfilled = λ k a l above. starts_left 4000000000 r.pieces (p ∷ []) a _ (s.topped.unfilled k a (listed_old k (suc a) l) above);
    },
    high_new,
  )
    where
      slot_old : (i : ℕ) (b : Node) → Goes (seen kept (with_piece r p)) (r.slots i) b → Goes (seen kept r) (r.slots i) b
      slot_old i b g = goes_same m m' (r.slots i) b (λ t h. numbers_old t (s.topped.near i (count t) h)) g

      climbs : (a b : Node) → Edge r.binds (seen kept (with_piece r p)) a b → high (address b) ≤ max (high (address a)) q
      climbs a b e = ⊎_elim before behind (side (address a))
        where
          before : address a < next_piece r → high (address b) ≤ max (high (address a)) q
          before l =
              let o = step_old a b l e in
              omega (arith, high_old (address a) l, high_old (address b) (s.tame.within a b o), s.topped.climbs a b o)

          behind : next_piece r ≤ address a → high (address b) ≤ max (high (address a)) q
          behind l =
              let o = step_new a b l e in
              omega (arith, high_new (address a) l, high_old (address b) o.0, o.1)

  opened : (a : ℕ) → SawOpen kept r a → SawOpen kept (with_piece r p) a
  opened a o = opened_on kept r (with_piece r p) a (λ x e. seen_on a x e) o

  -- a piece that no slot takes
  pub safe_piece : IsLedOn kept (with_piece r p) → IsSafe kept (with_piece r p) τ q
  safe_piece led = record {
    below = s.below;
    low = s.low;
    led = led;
    tame = new_tame;
    topped = new_topped.0;
    bound_open = λ a x e. opened a (s.bound_open a x e);
    read_open = λ a i l. opened a (s.read_open a i l);
    waits_open = s.waits_open;
    waits_apart = s.waits_apart;
  }

  -- and one that a slot takes
  pub safe_piece_held : (i x : ℕ) (o : Bool) → IsLedOn kept (holding (with_piece r p) i x o)
      → ((b : Node) → Goes (seen kept (with_piece r p)) x b → (next_piece r ≤ address b) × (address b < next_piece r + length p))
      → IsSafe kept (holding (with_piece r p) i x o) (topped τ i H) q
  safe_piece_held i x o led goes = record {
    below = s.below;
    low = s.low;
    led = led;
    tame = new_tame;
    topped = topped_slot kept (with_piece r p) τ q new_topped.0 i x H o
        (λ b g. let k = goes b g in (omega (arith, new_topped.1 (address b) k.0), omega (arith, ends_at, k.1)));
    bound_open = λ a x e. opened a (s.bound_open a x e);
    read_open = λ a i l. opened a (s.read_open a i l);
    waits_open = s.waits_open;
    waits_apart = s.waits_apart;
  }
