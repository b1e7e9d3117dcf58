-- A safe try's own words close no cycle beside the final words of its store: whatever is shown later.
use Rattle.std.proofs.Common.{◌≡◌, ℕ, zero, suc, ◌+◌, ◌<◌, ◌≤◌, min, Bool, true, false, cond, List, [], ◌∷◌, refl, sym, ap, ◌∙◌, subst}
use Rattle.std.proofs.Common.{⊎_elim}
use Rattle.std.proofs.Common.{inl, inr, arith, true≢false, Option, Some, None}
use Rattle.std.specs.Prelude.{nat_lt, unwrap_or}
use Rattle.std.proofs.lemmas.Bool.{lt-ltb, le-ltb, cases_lt}
use Rattle.std.proofs.lemmas.Option.{same_Some}
use Rattle.heap_words.specs.Cells.{decoded, is_final_word, is_final_in}
use Rattle.heap_words.specs.Heaps.{only_final}
use Rattle.heap_words.specs.Refers.{Reaches, ReachesBy, teller, reaches_refers, reaches_by_refers}
use Rattle.heap_words.specs.Trails.{WordList, Memory, word_at, under, AreOnce}
use Rattle.heap_words.specs.WordsLaws.{WordsLaws, Acyclic}
use Rattle.heap_words.specs.declared.cell.Cell.{Cell}
use Rattle.heap_words.specs.declared.cell.Cell.TheVariants.{Unbound, Ref, RoRef, Small, Wide, Str, Nil, Cons, Tuple, Status, Raw, Top}
use Rattle.ro_unify.specs.Value.{leads_on}
use Rattle.ro_unify.specs.Occurs.{whole_of, count_of}
use Rattle.ro_unify.specs.Walks.{Node, place, part, Goes, IsPlaceOf, IsPartOf}
use Rattle.ro_unify.proofs.Seeing.{seen_word}
use Rattle.word_states.specs.Led.{was_read, of_known, LeadsOn}
use Rattle.word_states.specs.Pieces.{RefersOwn}
use Rattle.machine_code.specs.Fresh.{Tops}
use Rattle.trial_laws.specs.AtHand.{AtHand}
use Rattle.beside_words.specs.Besides.{own_at, either}
use Rattle.beside_words.specs.BesideLaws.{refers_teller, either_low, either_high}
use Rattle.safe_tries.specs.Safe.{IsSafe, StayLow, own_words, seen}
use Rattle.stored_tries.specs.Calls.{AreOwn}
use Rattle.stored_tries.proofs.Lists.{once_word}
use Rattle.stored_tries.proofs.Agreeing.{seen_agree}
use Rattle.stored_tries.proofs.OwnPieces.{at_piece, teller_high}

-- so many numbers have a bound
pub bounded : (f : ℕ → ℕ) (n : ℕ) → (top : ℕ) × ((a : ℕ) → a < n → f a ≤ top)
bounded f zero = (0, (λ a l. absurd (omega arith)))
bounded f (suc n) = go (bounded f n)
  where
    go : (top : ℕ) × ((a : ℕ) → a < n → f a ≤ top) → (top : ℕ) × ((a : ℕ) → a < suc n → f a ≤ top)
    go h = (
      f n + h.0,
      (λ a l. ⊎_elim (λ (k : a < n). let i = h.1 a k in omega arith)
          (λ (k : n ≤ a). let e : a ≡ n = omega arith in let i : f a ≡ f n = ap f e in omega arith) (cases_lt a n)),
    )

-- the store's numbers, and above them the own ones
abbrev layered : (ℕ → ℕ) → (ℕ → ℕ) → ℕ → ℕ
layered f g a = cond (nat_lt a 4000000000) (f a) (g a)

layered_low : (f g : ℕ → ℕ) (a : ℕ) → a < 4000000000 → layered f g a ≡ f a
layered_low f g a l = ap (λ (c : Bool). cond c (f a) (g a)) (lt-ltb a 4000000000 l)

layered_high : (f g : ℕ → ℕ) (a : ℕ) → 4000000000 ≤ a → layered f g a ≡ g a
layered_high f g a l = ap (λ (c : Bool). cond c (f a) (g a)) (le-ltb a 4000000000 l)

-- a final word among others
final_of : (o : Option ℕ) (x : ℕ) → only_final o ≡ Some x → (o ≡ Some x) × (is_final_word x ≡ true)
final_of None x e = let k : None ≡ Some x = e in cc
final_of (Some y) x e = go (is_final_word y) refl e
  where
    go : (t : Bool) → is_final_word y ≡ t → cond t (Some y) None ≡ Some x → (Some y ≡ Some x) × (is_final_word x ≡ true)
    go true i f = (f, subst (λ (z : ℕ). is_final_word z ≡ true) (same_Some y x f) i)
    go false i f = let k : None ≡ Some x = f in cc

module _ {S : Type 0} {addresses : S → ℕ} {sound : S → Type 0} {knows : S → ℕ → Type 0} {had : S → ℕ → ℕ → Type 0} {leads : S → ℕ → Type 0}
    {own shown : S → ℕ → Option ℕ} {later : S → S → Type 0} {gave : S → S → ℕ → ℕ → Type 0}
    (laws : WordsLaws {S = S} addresses sound knows had leads own shown later gave) (kept : WordList) (v : S) (so : sound v)
    (was_had : (a x : ℕ) → word_at kept a ≡ Some x → had v a x) (low : StayLow (shown v)) (once : AreOnce kept)
    (r : AtHand) (τ : Tops) (released : ℕ) (safe : IsSafe kept r τ released) (ws : List ℕ) (are : AreOwn r.pieces ws)
    (top : ℕ) (most : (a : ℕ) → a < 4000000000 → (laws.no_cycle v so).rank a ≤ top)
    (last : ℕ) (latest : (a : ℕ) → a < 4000000000 → (laws.no_cycle v so).order a ≤ last) where
  abbrev m : Memory
  m = seen kept r

  abbrev base : Acyclic (shown v)
  base = laws.no_cycle v so

  -- The own rank of an address is the least of its nodes.
  abbrev least : ℕ → ℕ
  least a = min (safe.tame.rank (place a)) (safe.tame.rank (part a))

  abbrev rank : ℕ → ℕ
  rank = layered base.rank (λ a. suc top + least a)

  abbrev order : ℕ → ℕ
  order = layered base.order (λ a. suc last)

  -- an own word that is final
  record OwnFinal (a x : ℕ) : Type 0 where
    pub at : own_at ws a ≡ Some x
    pub is_final : is_final_word x ≡ true

  own_final : (a x : ℕ) → 4000000000 ≤ a → either (shown v) ws a ≡ Some x → OwnFinal a x
  own_final a x l e =
      let k = final_of (own_at ws a) x (sym (either_high (shown v) ws a l) ∙ e) in
      record { at = k.0; is_final = k.1 }

  of_store : (a x : ℕ) → a < 4000000000 → either (shown v) ws a ≡ Some x → shown v a ≡ Some x
  of_store a x l e = sym (either_low (shown v) ws a l) ∙ e

  seen_own : (a x : ℕ) → own_at ws a ≡ Some x → m a ≡ x
  seen_own a x e = (seen_agree kept r τ released safe).own_same a x (sym (are.words a) ∙ e)

  -- it is not bound, since what is bound was unbound before
  not_bound : (a x : ℕ) → OwnFinal a x → word_at r.binds a ≡ None
  not_bound a x o = go (word_at r.binds a) refl
    where
      go : (q : Option ℕ) → word_at r.binds a ≡ q → word_at r.binds a ≡ None
      go None i = i
      go (Some z) i =
          let k = safe.bound_open a z i in
          let same : x ≡ k.0 = sym (seen_own a x o.at) ∙ seen_word kept (own_words r.pieces) a k.0 k.2 in
          absurd (true≢false (sym o.is_final ∙ (ap is_final_word same ∙ ap is_final_in k.3)))

  -- a step from it falls from both of its nodes
  down : (a x : ℕ) (b : Node) → OwnFinal a x → Goes m x b → safe.tame.rank b < least a
  down a x b o g =
      let word : under r.binds m a ≡ x = ap (λ (q : Option ℕ). unwrap_or q (m a)) (not_bound a x o) ∙ seen_own a x o.at in
      let f : safe.tame.rank b < safe.tame.rank (place a) =
      safe.tame.falls (place a) b (subst (λ (y : ℕ). Goes m y b) (sym word) g) in
      let h : safe.tame.rank b < safe.tame.rank (part a) =
      safe.tame.falls (part a) b (subst (λ (y : ℕ). Goes m y b) (sym (seen_own a x o.at)) g) in
      omega arith

  down_place : (a x b : ℕ) → OwnFinal a x → Goes m x (place b) → least b < least a
  down_place a x b o g = let k = down a x (place b) o g in omega arith

  down_part : (a x b : ℕ) → OwnFinal a x → Goes m x (part b) → least b < least a
  down_part a x b o g = let k = down a x (part b) o g in omega arith

  step : (a x b : ℕ) (c : Cell) → OwnFinal a x → decoded x ≡ Some c → Reaches c b → least b < least a
  step a x b (Ref d) o i g = down_place a x b o (subst (λ (q : Option Cell). IsPlaceOf (leads_on false q) b) (sym i) g)
  step a x b (RoRef d) o i g = down_place a x b o (subst (λ (q : Option Cell). IsPlaceOf (leads_on false q) b) (sym i) g)
  step a x b (Cons d) o i g = down_part a x b o
      (subst (λ (q : Option Cell). IsPartOf m (whole_of q) b) (sym i)
      (⊎_elim (λ (q : b ≡ d). inl q) (λ (q : b ≡ suc d). inr (let k : b ≡ d + 1 = omega arith in k)) g))
  step a x b (Unbound d) o i g = absurd g
  step a x b (Small z) o i g = absurd g
  step a x b (Wide d h) o i g = absurd g
  step a x b (Str s) o i g = absurd g
  step a x b Nil o i g = absurd g
  step a x b (Tuple d) o i g = absurd g
  step a x b (Status d) o i g = absurd g
  step a x b (Raw k) o i g = absurd g
  step a x b (Top d) o i g = absurd g

  -- above all of the store
  under_own : (a b : ℕ) → 4000000000 ≤ a → b < 4000000000 → rank b < rank a
  under_own a b h l =
      let f = layered_low base.rank (λ a. suc top + least a) b l in
      let g = layered_high base.rank (λ a. suc top + least a) a h in
      let k = most b l in
      omega arith

  both_own : (a b : ℕ) → 4000000000 ≤ a → 4000000000 ≤ b → least b < least a → rank b < rank a
  both_own a b h l k =
      let f = layered_high base.rank (λ a. suc top + least a) b l in
      let g = layered_high base.rank (λ a. suc top + least a) a h in
      omega arith

  both_stored : (a b : ℕ) → a < 4000000000 → b < 4000000000 → base.rank b < base.rank a → rank b < rank a
  both_stored a b h l k =
      let f = layered_low base.rank (λ a. suc top + least a) b l in
      let g = layered_low base.rank (λ a. suc top + least a) a h in
      omega arith

  falls : (a b x : ℕ) (c : Cell) → either (shown v) ws a ≡ Some x → decoded x ≡ Some c → Reaches c b → rank b < rank a
  falls a b x c e d g = ⊎_elim stored owned (cases_lt a 4000000000)
    where
      stored : a < 4000000000 → rank b < rank a
      stored l =
          let i = of_store a x l e in
          both_stored a b l (low.refers a b x c i d (reaches_refers c b g)) (base.falls a b x c i d g)

      owned : 4000000000 ≤ a → rank b < rank a
      owned l = ⊎_elim (λ (k : b < 4000000000). under_own a b l k)
          (λ (k : 4000000000 ≤ b). both_own a b l k (step a x b c (own_final a x l e) d g)) (cases_lt b 4000000000)

  -- an own word that tells by a number is one of the store, or refers to a piece
  data Tells (x t : ℕ) (c : Cell) : Type 0 where
    of_kept : (a : ℕ) → word_at kept a ≡ Some x → shown v a ≡ Some x → Tells x t c
    of_pieces : RefersOwn r.pieces c → 4000000000 ≤ t → Tells x t c

  tells : (a x t : ℕ) (c : Cell) → OwnFinal a x → decoded x ≡ Some c → teller c ≡ Some t → Tells x t c
  tells a x t c o d k = go (safe.led.own a x (sym (are.words a) ∙ o.at) o.is_final)
    where
      go : LeadsOn kept r.pieces x → Tells x t c
      go (inl (was_read b i)) =
          let e = once_word kept once b x i in of_kept b e (laws.had_shown v b x so (was_had b x e) o.is_final)
      go (inl (of_known h)) = absurd (let e : None ≡ Some t = sym (h c d).0 ∙ k in cc)
      go (inr h) =
          let p : RefersOwn r.pieces c = subst (RefersOwn r.pieces) (same_Some _ _ (sym h.1 ∙ d)) h.2 in
          of_pieces p (teller_high r.pieces c t p k)

  -- by the number of a tuple
  tuple_step : (a x b t y n : ℕ) (c : Cell) → OwnFinal a x → decoded x ≡ Some c → teller c ≡ Some t → OwnFinal t y
      → decoded y ≡ Some (Raw n) → ReachesBy n c b → least b < least a
  tuple_step a x b t y n (Tuple d) o i k p e g =
      let same : d ≡ t = same_Some d t k in
      let number : decoded (m d) ≡ Some (Raw n) = ap (λ (z : ℕ). decoded (m z)) same ∙ (ap decoded (seen_own t y p.at) ∙ e) in
      down_part a x b o
      (subst (λ (q : Option Cell). IsPartOf m (whole_of q) b) (sym i)
      (subst (λ (q : Option Cell). (d < b) × (b ≤ d + count_of q)) (sym number) g))
  tuple_step a x b t y n (Ref d) o i k p e g = absurd g
  tuple_step a x b t y n (RoRef d) o i k p e g = absurd g
  tuple_step a x b t y n (Cons d) o i k p e g = absurd g
  tuple_step a x b t y n (Unbound d) o i k p e g = absurd g
  tuple_step a x b t y n (Small z) o i k p e g = absurd g
  tuple_step a x b t y n (Wide d h) o i k p e g = absurd g
  tuple_step a x b t y n (Str s) o i k p e g = absurd g
  tuple_step a x b t y n Nil o i k p e g = absurd g
  tuple_step a x b t y n (Status d) o i k p e g = absurd g
  tuple_step a x b t y n (Raw d) o i k p e g = absurd g
  tuple_step a x b t y n (Top d) o i k p e g = absurd g

  -- and it stands before the parts
  part_above : (n b t : ℕ) (c : Cell) → teller c ≡ Some t → ReachesBy n c b → t < b
  part_above n b t (Tuple d) k g = let e : d ≡ t = same_Some d t k in let l : d < b = g.0 in omega arith
  part_above n b t (Ref d) k g = absurd g
  part_above n b t (RoRef d) k g = absurd g
  part_above n b t (Cons d) k g = absurd g
  part_above n b t (Unbound d) k g = absurd g
  part_above n b t (Small z) k g = absurd g
  part_above n b t (Wide d h) k g = absurd g
  part_above n b t (Str s) k g = absurd g
  part_above n b t Nil k g = absurd g
  part_above n b t (Status d) k g = absurd g
  part_above n b t (Raw d) k g = absurd g
  part_above n b t (Top d) k g = absurd g

  falls_by : (a b x t y n : ℕ) (c : Cell) → either (shown v) ws a ≡ Some x → decoded x ≡ Some c → teller c ≡ Some t
      → either (shown v) ws t ≡ Some y → decoded y ≡ Some (Raw n) → ReachesBy n c b → rank b < rank a
  falls_by a b x t y n c e d k f h g = ⊎_elim stored owned (cases_lt a 4000000000)
    where
      stored : a < 4000000000 → rank b < rank a
      stored l =
          let i = of_store a x l e in
          let there = of_store t y (low.refers a t x c i d (refers_teller c t k)) f in
          both_stored a b l (low.refers_by a b x t y n c i d k there h (reaches_by_refers n c b g))
          (base.falls_by a b x t y n c i d k there h g)

      above : 4000000000 ≤ a → 4000000000 ≤ t → rank b < rank a
      above l u =
          let j = part_above n b t c k g in
          both_own a b l (omega arith) (tuple_step a x b t y n c (own_final a x l e) d k (own_final t y u f) h g)

      by : 4000000000 ≤ a → Tells x t c → rank b < rank a
      by l (of_pieces p u) = above l u
      by l (of_kept q i j) = ⊎_elim
          (λ (u : t < 4000000000). under_own a b l
          (low.refers_by q b x t y n c j d k (of_store t y u f) h (reaches_by_refers n c b g)))
          (λ (u : 4000000000 ≤ t). above l u) (cases_lt t 4000000000)

      owned : 4000000000 ≤ a → rank b < rank a
      owned l = by l (tells a x t c (own_final a x l e) d k)

  links : (a c x y n : ℕ) → either (shown v) ws a ≡ Some x → decoded x ≡ Some (Cons c) → either (shown v) ws c ≡ Some y
      → decoded y ≡ Some (Raw n) → order (c + 2) < order a
  links a c x y n e d f g = ⊎_elim stored owned (cases_lt a 4000000000)
    where
      -- a link of the store
      near : (b : ℕ) → shown v b ≡ Some x → c < 4000000000 → (c + 2 < 4000000000) × (base.order (c + 2) < base.order b)
      near b i l = (
        low.refers_by b (c + 2) x c y n (Cons c) i d refl (of_store c y l f) g (inr refl),
        base.links b c x y n i d (of_store c y l f) g,
      )

      stored : a < 4000000000 → order (c + 2) < order a
      stored l =
          let i = of_store a x l e in
          let k = near a i (low.refers a c x (Cons c) i d (inl refl)) in
          let u = layered_low base.order (λ a. suc last) (c + 2) k.0 in
          let z = layered_low base.order (λ a. suc last) a l in
          omega (arith, k.1)

      by : 4000000000 ≤ a → Tells x c (Cons c) → order (c + 2) < order a
      by l (of_kept b i j) =
          let k = near b j (safe.low.refers b c x (Cons c) i d (inl refl)) in
          let u = layered_low base.order (λ a. suc last) (c + 2) k.0 in
          let z = layered_high base.order (λ a. suc last) a l in
          omega (arith, latest (c + 2) k.0)
      by l (of_pieces p u) =
          let s = at_piece r.pieces safe.led.pieces.each ws are c 0 p.0 (p.0 ∷ p.1 ∷ []) p.2 refl in
          let here = ap (own_at ws) (let q : c + 0 ≡ c = omega arith in q) ∙ (own_final c y u f).at in
          absurd (p.4 n (ap decoded (same_Some p.0 y (sym s ∙ here)) ∙ g))

      owned : 4000000000 ≤ a → order (c + 2) < order a
      owned l = by l (tells a x c (Cons c) (own_final a x l e) d refl)

  pub no_cycle : Acyclic (either (shown v) ws)
  no_cycle = record { rank = rank; falls = falls; falls_by = falls_by; order = order; links = links }
