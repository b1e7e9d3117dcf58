-- The laws of slots that hold the goal's arguments again, and of the begin of a try.
use Rattle.std.proofs.Common.{◌≡◌, ℕ, zero, suc, ◌+◌, ◌<◌, ◌≤◌, true, false, cond, List, [], ◌∷◌}
use Rattle.std.proofs.Common.{refl, sym, ap, ◌∙◌, subst, inl, inr, ⊎_elim, arith, Option, Some, None}
use Rattle.std.specs.Prelude.{slice_get, nat_eq, unwrap_or}
use Rattle.std.proofs.lemmas.Bool.{eq-eqb, ne_eqb, cond-true, cond-false}
use Rattle.std.proofs.lemmas.Option.{same_Some}
use Rattle.fcp_model.specs.Places.{Variable, own}
use Rattle.heap_words.specs.Cells.{decoded}
use Rattle.heap_words.specs.Refers.{Refers, HasPart, teller}
use Rattle.heap_words.specs.Trails.{WordList, Memory, word_at}
use Rattle.heap_words.specs.declared.cell.Cell.{Cell}
use Rattle.heap_words.specs.declared.cell.Cell.TheVariants.{Unbound, Nil}
use Rattle.ro_unify.specs.Occurs.{count_of}
use Rattle.ro_unify.specs.Walks.{first_some, seen_at, seen_memory, Node, place, part, count, address, Goes, Edge, Tame}
use Rattle.ro_unify.proofs.Seeing.{nil_goes, goes_seen, seen_word}
use Rattle.word_states.specs.Denoting.{Listed}
use Rattle.word_states.specs.Led.{IsLed, was_read, of_known}
use Rattle.word_states.specs.Pieces.{StartsAt, place_words, numbered}
use Rattle.word_states.proofs.Lists.{word_among}
use Rattle.word_states.proofs.Pieces.{in_rows, variable_at, located_starts, zero_is}
use Rattle.machine_code.specs.Fresh.{Tops, no_tops}
use Rattle.trial_laws.specs.AtHand.{AtHand, end_of}
use Rattle.trial_laws.specs.Laws.{places_for, begun}
use Rattle.trial_laws.proofs.Slots.{nil_is}
use Rattle.trial_laws.proofs.TryLaws.{place_only}
use Rattle.trial_laws.proofs.LedLaws.{led_try}
use Rattle.safe_tries.specs.Safe.{own_words, StayLow, IsTopped, IsSafe}
use Rattle.safe_tries.specs.Puts.{AreArguments, SafeReset, SafeTry}
use Rattle.safe_tries.proofs.Steps.{goes_same, goes_nowhere, end_above, seen_kept, kept_low}

-- the words of arguments lead on
led_nil : (kept : WordList) → IsLed kept 6
led_nil kept =
    of_known (λ c e. let same : Nil ≡ c = same_Some Nil c (sym nil_is ∙ e) in (
      subst (λ (z : Cell). teller z ≡ None) same refl,
      (λ b g. let h : HasPart Nil b = subst (λ (z : Cell). HasPart z b) (sym same) g in absurd h),
      (λ b g. let h : Refers Nil b = subst (λ (z : Cell). Refers z b) (sym same) g in absurd h),
    ))

module _ (kept : WordList) (words : ℕ → ℕ) (args : AreArguments kept words) where
  argument_led : (i : ℕ) → IsLed kept (words i)
  argument_led i =
      ⊎_elim (λ e. subst (IsLed kept) (sym e) (led_nil kept)) (λ h. was_read h.0 (word_among kept h.0 (words i) h.1)) (args i).1

  -- to the store's addresses
  argument_low : (ps : List (List ℕ)) → StayLow (word_at kept) → (i : ℕ) (b : Node) → Goes (seen_memory kept (own_words ps)) (words i) b
      → address b < 4000000000
  argument_low ps low i b g =
      ⊎_elim (λ e. absurd (nil_goes m b (subst (λ (x : ℕ). Goes m x b) e g))) (λ h. kept_low kept ps low h.0 (words i) b h.1 g) (args i).1
    where
      m : Memory
      m = seen_memory kept (own_words ps)

pub safe_reset : SafeReset
safe_reset kept r τ q s words args = record {
  below = s.below;
  low = s.low;
  led = record {
    pieces = s.led.pieces;
    slots = λ i. inl (argument_led kept words args i);
    terms = λ i. (args i).0;
    bound = s.led.bound;
    places = s.led.places;
    own = s.led.own;
  };
  tame = s.tame;
  topped = record {
    high = s.topped.high;
    store = s.topped.store;
    place = s.topped.place;
    climbs = s.topped.climbs;
    slots = λ i b g. omega (arith, s.topped.store (address b) (argument_low kept words args r.pieces s.low i b g));
    near = λ i b g. omega (arith, argument_low kept words args r.pieces s.low i b g, end_above 4000000000 r.pieces);
    bound = s.topped.bound;
    unfilled = s.topped.unfilled;
  };
  bound_open = s.bound_open;
  read_open = s.read_open;
  waits_open = s.waits_open;
  waits_apart = s.waits_apart;
}

-- The variable whose place has its word at the address, where the first of n places is at b and is that of variable k; 0 elsewhere.
abbrev which : ℕ → ℕ → ℕ → ℕ → ℕ
which zero b k a = 0
which (suc n) b k a = cond (nat_eq a (suc b)) k (which n (b + 2) (suc k) a)

which_low : (n b k a : ℕ) → a ≤ b → which n b k a ≡ 0
which_low zero b k a l = refl
which_low (suc n) b k a l =
    cond-false _ _ _ (ne_eqb a (suc b) (λ e. omega arith)) ∙ which_low n (b + 2) (suc k) a (omega arith)

listed_behind : (n b k j a : ℕ) → Listed (numbered k (place_words b (places_for n))) (own j) a → b < a
listed_behind zero b k j a l = absurd l
listed_behind (suc n) b k j a (inl e) = let f : suc b ≡ a = ap (λ (z : Variable × ℕ). z.1) e in omega arith
listed_behind (suc n) b k j a (inr l) = let h = listed_behind n (b + 2) (suc k) j a l in omega arith

which_place : (n b k j a : ℕ) → Listed (numbered k (place_words b (places_for n))) (own j) a → which n b k a ≡ j
which_place zero b k j a l = absurd l
which_place (suc n) b k j a (inl e) =
    let f : suc b ≡ a = ap (λ (z : Variable × ℕ). z.1) e in
    let g : own k ≡ own j = ap (λ (z : Variable × ℕ). z.0) e in
    let h : k ≡ j = cc in
    cond-true _ _ _ (eq-eqb a (suc b) (sym f)) ∙ h
which_place (suc n) b k j a (inr l) =
    let h = listed_behind n (b + 2) (suc k) j a l in
    cond-false _ _ _ (ne_eqb a (suc b) (λ e. omega arith)) ∙ which_place n (b + 2) (suc k) j a l

-- each word of the places is 0
word_zero : (n a x : ℕ) → own_words (places_for n) a ≡ Some x → 0 ≡ x
word_zero n a x e =
    let o = in_rows 4000000000 a x (places_for n) e in
    at o.1 (ap (λ (l : List ℕ). slice_get l o.1) (sym (place_only n 4000000000 o.0 o.2 o.3)) ∙ o.6)
  where
    at : (d : ℕ) → slice_get (0 ∷ 0 ∷ []) d ≡ Some x → 0 ≡ x
    at zero f = same_Some _ _ f
    at (suc zero) f = same_Some _ _ f
    at (suc (suc d)) f = let g : None ≡ Some x = f in cc

module _ (kept : WordList) (r : AtHand) (τ : Tops) (q : ℕ) (s : IsSafe kept r τ q) (n : ℕ) (free : r.binds ≡ []) where
  abbrev m : Memory
  m = seen_memory kept (own_words r.pieces)

  abbrev m' : Memory
  m' = seen_memory kept (own_words (places_for n))

  -- walks go on from kept words alone
  from_kept : (a : ℕ) (b : Node) → Goes (seen_memory kept (own_words (places_for n))) (seen_memory kept (own_words (places_for n)) a) b
      → (y : ℕ) × (word_at kept a ≡ Some y) × Goes (seen_memory kept (own_words (places_for n))) y b
  from_kept a b g =
      let o = goes_seen kept (own_words (places_for n)) m' a b g in go o.0 o.1 o.2 (word_at kept a) refl
    where
      go : (x : ℕ) → seen_at kept (own_words (places_for n)) a ≡ Some x → Goes (seen_memory kept (own_words (places_for n))) x b
          → (o : Option ℕ) → word_at kept a ≡ o
          → (y : ℕ) × (word_at kept a ≡ Some y) × Goes (seen_memory kept (own_words (places_for n))) y b
      go x e h (Some y) f =
          let same : y ≡ x = same_Some y x (sym (ap (λ (o : Option ℕ). first_some o (own_words (places_for n) a)) f) ∙ e) in
          (y, f, subst (λ (z : ℕ). Goes m' z b) (sym same) h)
      go x e h None f =
          let z : 0 ≡ x = word_zero n a x (sym (ap (λ (o : Option ℕ). first_some o (own_words (places_for n) a)) f) ∙ e) in
          absurd (goes_nowhere m' 0 (Unbound 0) b zero_is refl refl (subst (λ (y : ℕ). Goes m' y b) (sym z) h))

  step : (a b : Node) → Edge [] (seen_memory kept (own_words (places_for n))) a b
      → (y : ℕ) × (word_at kept (address a) ≡ Some y) × Goes (seen_memory kept (own_words (places_for n))) y b
  step (place a) b e = from_kept a b e
  step (part a) b e = from_kept a b e
  step (count a) b e = absurd (nil_goes m' b e)

  step_low : (a b : Node) → Edge [] (seen_memory kept (own_words (places_for n))) a b → address b < 4000000000
  step_low a b e = let o = step a b e in kept_low kept (places_for n) s.low (address a) o.0 b o.1 o.2

  -- and as they did
  goes_as : (a : ℕ) (b : Node) (y : ℕ) → word_at kept a ≡ Some y → Goes (seen_memory kept (own_words (places_for n))) y b
      → Goes (seen_memory kept (own_words r.pieces)) (seen_memory kept (own_words r.pieces) a) b
  goes_as a b y e g =
      subst (λ (z : ℕ). Goes m z b)
      (sym (seen_word kept (own_words r.pieces) a y (ap (λ (o : Option ℕ). first_some o (own_words r.pieces a)) e)))
      (goes_same m m' y b numbers g)
    where
      numbers : (t : ℕ) → Goes (seen_memory kept (own_words r.pieces)) y (count t)
          → count_of (decoded (seen_memory kept (own_words (places_for n)) t))
          ≡ count_of (decoded (seen_memory kept (own_words r.pieces) t))
      numbers t h =
          let l : t < 4000000000 = kept_low kept r.pieces s.low a y (count t) e h in
          ap (λ (o : Option ℕ). count_of (decoded (unwrap_or o 6))) (seen_kept kept (places_for n) t l ∙ sym (seen_kept kept r.pieces t l))

  step_as : (a b : Node) → Edge [] (seen_memory kept (own_words (places_for n))) a b → Edge [] (seen_memory kept (own_words r.pieces)) a b
  step_as (place a) b e = let o = from_kept a b e in goes_as a b o.0 o.1 o.2
  step_as (part a) b e = let o = from_kept a b e in goes_as a b o.0 o.1 o.2
  step_as (count a) b e = absurd (nil_goes m' b e)

  before : Tame [] kept (own_words r.pieces) (end_of 4000000000 r.pieces)
  before = subst (λ (bs : WordList). Tame bs kept (own_words r.pieces) (end_of 4000000000 r.pieces)) free s.tame

  begun_tame : Tame [] kept (own_words (places_for n)) (end_of 4000000000 (places_for n))
  begun_tame = record {
    rank = before.rank;
    top = before.top;
    low = before.low;
    falls = λ a b e. before.falls a b (step_as a b e);
    within = λ a b e. omega (arith, step_low a b e, end_above 4000000000 (places_for n));
    inner = λ _. false;
    stays = λ a b e i. absurd (let c : false ≡ true = i in cc);
    bound_inner = λ a x e. absurd (let c : None ≡ Some x = e in cc);
    inner_seen = λ a i. absurd (let c : false ≡ true = i in cc);
  }

  begun_topped : (k next : ℕ) (words : ℕ → ℕ) → AreArguments kept words → IsTopped kept (begun r k next n words) no_tops 0
  begun_topped k next words args = record {
    high = λ a. which n 4000000000 1 a;
    store = λ a l. omega (arith, which_low n 4000000000 1 a (omega (arith, l)));
    place = λ j a l. which_place n 4000000000 1 j a l;
    climbs = λ a b e. omega (arith, which_low n 4000000000 1 (address b) (omega (arith, step_low a b e)));
    slots = λ i b g. omega (
      arith,
      which_low n 4000000000 1 (address b) (omega (arith, argument_low kept words args (places_for n) s.low i b g)),
    );
    near = λ i b g. omega (arith, argument_low kept words args (places_for n) s.low i b g, end_above 4000000000 (places_for n));
    bound = λ a x e. absurd (let c : None ≡ Some x = e in cc);
    unfilled = unfilled;
  }
    where
      unfilled : (j a : ℕ) → Listed (numbered 1 (place_words 4000000000 (places_for n))) (own j) (suc a) → 0 < j
          → StartsAt 4000000000 (places_for n) a (0 ∷ 0 ∷ [])
      unfilled j a l h =
          let o = variable_at 1 1 4000000000 (places_for n) (own j) (suc a) l in
          let at : StartsAt 4000000000 (places_for n) o.2 o.3 = located_starts 1 1 4000000000 (places_for n) o.0 o.1 o.2 o.3 o.5 in
          let e : suc a ≡ suc o.2 = o.7 in
          let f : o.2 ≡ a = omega arith in
          subst (λ (z : ℕ). StartsAt 4000000000 (places_for n) z (0 ∷ 0 ∷ [])) f
          (subst (λ (p : List ℕ). StartsAt 4000000000 (places_for n) o.2 p) (place_only n 4000000000 o.2 o.3 at) at)

pub safe_try : SafeTry
safe_try kept r τ q s k next n words args few no_pieces free no_reads = record {
  below = s.below;
  low = s.low;
  led = led_try kept r s.led k next n words few (argument_led kept words args) (λ i. (args i).0);
  tame = begun_tame kept r τ q s n free;
  topped = begun_topped kept r τ q s n free k next words args;
  bound_open = λ a x e. absurd (let c : None ≡ Some x = e in cc);
  read_open = λ a h l. absurd h;
  waits_open = s.waits_open;
  waits_apart = s.waits_apart;
}
