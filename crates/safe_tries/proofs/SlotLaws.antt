-- The laws of the instructions that put a reference or a constant into a slot.
use Rattle.std.proofs.Common.{◌≡◌, ℕ, suc, ◌+◌, ◌<◌, ◌≤◌, max, Bool, true, false, cond, List, [], refl, ap, ◌∙◌, inl, inr, arith}
use Rattle.std.proofs.Common.{Some, None}
use Rattle.std.specs.Prelude.{nat_eq}
use Rattle.fcp_model.specs.Places.{Variable, own}
use Rattle.fcp_model.specs.Terms.{Term, number, string, nil, cons, tuple, var, ro, first}
use Rattle.heap_words.specs.Cells.{decoded, encoded}
use Rattle.heap_words.specs.Trails.{WordList}
use Rattle.heap_words.specs.declared.cell.Cell.{Cell}
use Rattle.heap_words.specs.declared.cell.Cell.TheVariants.{Ref, RoRef, Small, Str, Nil, Raw}
use Rattle.heap_words.proofs.Encodings.{decoded_encoded}
use Rattle.ro_unify.specs.Walks.{Node, place, part, count, address, Goes}
use Rattle.word_states.specs.Words.{Words}
use Rattle.word_states.specs.Denoting.{Listed, Denotes}
use Rattle.word_states.specs.Pieces.{place_words, numbered}
use Rattle.machine_code.specs.Fresh.{Tops, topped}
use Rattle.trial_laws.specs.AtHand.{AtHand, end_of, ArePieces}
use Rattle.trial_laws.specs.Laws.{holding}
use Rattle.trial_laws.specs.Leading.{IsLedOn}
use Rattle.trial_laws.proofs.Pieces.{starts_below}
use Rattle.trial_laws.proofs.Slots.{own_place}
use Rattle.trial_laws.proofs.LedPieces.{led_slot, leads_alone, term_of_cell}
use Rattle.trial_laws.proofs.LedLaws.{led_variable}
use Rattle.safe_tries.specs.Safe.{IsSafe, IsTopped, seen}
use Rattle.safe_tries.specs.Puts.{SafeVariable, SafeConstant}
use Rattle.safe_tries.proofs.Steps.{goes_from, goes_nowhere}

-- the walks from a slot's word stay low and near
abbrev pub GoesBelow : (kept : WordList) (r : AtHand) (τ : Tops) (q : ℕ) → IsTopped kept r τ q → ℕ → ℕ → Type 0
GoesBelow kept r τ q t x k = (b : Node) → Goes (seen kept r) x b → (t.high (address b) ≤ max k q) × (address b < end_of 4000000000 r.pieces)

-- a slot takes a word
pub topped_slot : (kept : WordList) (r : AtHand) (τ : Tops) (q : ℕ) (t : IsTopped kept r τ q) (i x k : ℕ) (o : Bool)
    → GoesBelow kept r τ q t x k → IsTopped kept (holding r i x o) (topped τ i k) q
topped_slot kept r τ q t i x k o goes = record {
  high = t.high;
  store = t.store;
  place = t.place;
  climbs = t.climbs;
  slots = λ j b g. (at_slot j b (nat_eq j i) g).0;
  near = λ j b g. (at_slot j b (nat_eq j i) g).1;
  bound = t.bound;
  unfilled = t.unfilled;
}
  where
    at_slot : (j : ℕ) (b : Node) (e : Bool) → Goes (seen kept r) (cond e x (r.slots j)) b
        → (t.high (address b) ≤ max (cond e k (τ j)) q) × (address b < end_of 4000000000 r.pieces)
    at_slot j b true g = goes b g
    at_slot j b false g = (t.slots j b g, t.near j b g)

pub safe_slot : (kept : WordList) (r : AtHand) (τ : Tops) (q : ℕ) (s : IsSafe kept r τ q) (i x k : ℕ) (o : Bool)
    → IsLedOn kept (holding r i x o) → GoesBelow kept r τ q s.topped x k → IsSafe kept (holding r i x o) (topped τ i k) q
safe_slot kept r τ q s i x k o led goes = record {
  below = s.below;
  low = s.low;
  led = led;
  tame = s.tame;
  topped = topped_slot kept r τ q s.topped i x k o goes;
  bound_open = s.bound_open;
  read_open = s.read_open;
  waits_open = s.waits_open;
  waits_apart = s.waits_apart;
}

-- an own place stands before the end of the pieces
pub place_near : (ps : List (List ℕ)) → ArePieces ps → (k a : ℕ) → Listed (numbered 1 (place_words 4000000000 ps)) (own k) a
    → a < end_of 4000000000 ps
place_near ps formed k a l =
    let p = own_place ps formed (own k) a l in
    let b : p.1 + 2 ≤ end_of 4000000000 ps = starts_below 4000000000 ps p.1 _ p.5 in
    let e : a ≡ suc p.1 = p.4 in
    omega arith

pub safe_variable : SafeVariable
safe_variable kept r τ q s i k a l = (
  safe_slot kept r τ q s i (encoded (Ref a)) k false led.0 (λ b g. to_place b (by_ref b g)),
  safe_slot kept r τ q s i (encoded (RoRef a)) k false led.1 (λ b g. to_place b (by_ro_ref b g)),
)
  where
    led : IsLedOn kept (holding r i (encoded (Ref a)) false) × IsLedOn kept (holding r i (encoded (RoRef a)) false)
    led = led_variable kept r s.led i k a l

    few : a < 0x100000000
    few = (own_place r.pieces s.led.pieces (own k) a l).6

    to_place : (b : Node) → address b ≡ a → (s.topped.high (address b) ≤ max k q) × (address b < end_of 4000000000 r.pieces)
    to_place b e =
        let h : s.topped.high (address b) ≡ k = ap s.topped.high e ∙ s.topped.place k a l in
        let n : a < end_of 4000000000 r.pieces = place_near r.pieces s.led.pieces k a l in
        (omega (arith, h), omega arith)

    by_ref : (b : Node) → Goes (seen kept r) (encoded (Ref a)) b → address b ≡ a
    by_ref (place c) g = goes_from (seen kept r) (encoded (Ref a)) (Ref a) (place c) (decoded_encoded (Ref a) few) g
    by_ref (part c) g = absurd (goes_from (seen kept r) (encoded (Ref a)) (Ref a) (part c) (decoded_encoded (Ref a) few) g)
    by_ref (count c) g = absurd (goes_from (seen kept r) (encoded (Ref a)) (Ref a) (count c) (decoded_encoded (Ref a) few) g)

    by_ro_ref : (b : Node) → Goes (seen kept r) (encoded (RoRef a)) b → address b ≡ a
    by_ro_ref (place c) g = goes_from (seen kept r) (encoded (RoRef a)) (RoRef a) (place c) (decoded_encoded (RoRef a) few) g
    by_ro_ref (part c) g = absurd (goes_from (seen kept r) (encoded (RoRef a)) (RoRef a) (part c) (decoded_encoded (RoRef a) few) g)
    by_ro_ref (count c) g = absurd (goes_from (seen kept r) (encoded (RoRef a)) (RoRef a) (count c) (decoded_encoded (RoRef a) few) g)

-- no words
abbrev nothing : Words
nothing a = None

pub safe_constant : SafeConstant
safe_constant kept r τ q s i x c says = go c (says nothing [])
  where
    put : (d : Cell) → decoded x ≡ Some d → IsLedOn kept (holding r i x false) → ((b : Node) → Goes (seen kept r) x b → ⊥)
        → IsSafe kept (holding r i x false) (topped τ i 0) q
    put d e led none = safe_slot kept r τ q s i x 0 false led (λ b g. absurd (none b g))

    go : (c : Term Variable) → Denotes nothing [] x c → IsSafe kept (holding r i x false) (topped τ i 0) q
    go (number z) (inl e) =
        put (Small z) e
        (led_slot kept r s.led i x false (leads_alone kept r.pieces x (Small z) e refl (λ b h. absurd h))
        (term_of_cell x (Small z) e refl (λ n f. let g : Small z ≡ Raw n = f in cc)))
        (λ b g. goes_nowhere (seen kept r) x (Small z) b e refl refl g)
    go (number z) (inr e) = absurd (let f : None ≡ Some e.4.0 = e.4.1 in cc)
    go (string z) e =
        put (Str (record { 0 = z })) e
        (led_slot kept r s.led i x false (leads_alone kept r.pieces x (Str (record { 0 = z })) e refl (λ b h. absurd h))
        (term_of_cell x (Str (record { 0 = z })) e refl (λ n f. let g : Str (record { 0 = z }) ≡ Raw n = f in cc)))
        (λ b g. goes_nowhere (seen kept r) x (Str (record { 0 = z })) b e refl refl g)
    go nil e =
        put Nil e
        (led_slot kept r s.led i x false (leads_alone kept r.pieces x Nil e refl (λ b h. absurd h))
        (term_of_cell x Nil e refl (λ n f. let g : Nil ≡ Raw n = f in cc)))
        (λ b g. goes_nowhere (seen kept r) x Nil b e refl refl g)
    go (cons t u) e = absurd (let f : None ≡ Some e.1 = e.4 in cc)
    go (tuple ts) e = absurd (let f : None ≡ Some e.2.0 = e.2.1 in cc)
    go (var v) e = absurd e.2
    go (ro v) e = absurd e.2
    go (first k) e = absurd e
