-- The words of a store under a trial's bindings, with its pieces, have no cycle.
use Rattle.std.proofs.Common.{◌≡◌, ℕ, zero, suc, ◌+◌, ◌<◌, ◌≤◌, Bool, true, false, cond, List, [], ◌∷◌, refl, sym, ap, ◌∙◌, subst, ⊎_elim}
use Rattle.std.proofs.Common.{inl, inr, arith, true≢false, Option, Some, None}
use Rattle.std.specs.Prelude.{nat_lt}
use Rattle.std.proofs.lemmas.Bool.{cond-true, cond-false, lt-ltb, le-ltb, cases_lt, cases_Bool}
use Rattle.std.proofs.lemmas.Option.{same_Some}
use Rattle.heap_words.specs.Cells.{decoded, is_final_word, is_final_in}
use Rattle.heap_words.specs.Heaps.{only_final}
use Rattle.heap_words.specs.WordsLaws.{Acyclic}
use Rattle.heap_words.specs.Refers.{reaches_refers, teller, ReachesBy, reaches_by_refers}
use Rattle.heap_words.specs.Trails.{WordList, word_at}
use Rattle.heap_words.specs.declared.cell.Cell.{Cell}
use Rattle.heap_words.specs.declared.cell.Cell.TheVariants.{Unbound, Ref, RoRef, Small, Wide, Str, Nil, Cons, Tuple, Raw, Top}
use Rattle.heap_words.specs.declared.cell.Cell.TheVariants as cell
use Rattle.word_states.specs.Led.{AreLed}
use Rattle.word_states.specs.Pieces.{rows, StartsAt, RefersOwn}
use Rattle.word_states.specs.Tame.{finals, Leads, Edge, trial_words, IsTame}
use Rattle.word_states.specs.Words.{Words, Among, over, first_of, Has}
use Rattle.word_states.proofs.Lists.{word_among}
use Rattle.word_states.proofs.Pieces.{rows_in, rows_above}
use Rattle.sound_entries.specs.Closed.{LeadsIn, AreClosed, Stands}
use Rattle.sound_entries.proofs.Known.{teller_refers, led_leads}

-- the rank of an address below the size, and more than all of them
abbrev pub plus : (ℕ → ℕ) → ℕ → ℕ → ℕ
plus rank size a = cond (nat_lt a size) (suc (rank a)) 0

abbrev pub all_plus : (ℕ → ℕ) → ℕ → ℕ
all_plus rank zero = 0
all_plus rank (suc n) = suc (rank n) + all_plus rank n

pub plus_here : (rank : ℕ → ℕ) (size a : ℕ) → a < size → plus rank size a ≡ suc (rank a)
plus_here rank size a h = cond-true _ _ _ (lt-ltb a size h)

pub plus_most : (rank : ℕ → ℕ) (size a : ℕ) → plus rank size a ≤ suc (rank a)
plus_most rank size a = go (nat_lt a size)
  where
    go : (b : Bool) → cond b (suc (rank a)) 0 ≤ suc (rank a)
    go true = omega arith
    go false = omega arith

below_all : (rank : ℕ → ℕ) (size a : ℕ) → a < size → suc (rank a) ≤ all_plus rank size
below_all rank zero a h = absurd (omega arith)
below_all rank (suc n) a h =
    ⊎_elim (λ (t : a < n). let r = below_all rank n a t in omega arith) (λ (t : n ≤ a). let e : a ≡ n = omega arith in
    let r : rank a ≡ rank n = ap rank e in omega arith) (cases_lt a n)

pub plus_all : (rank : ℕ → ℕ) (size a : ℕ) → plus rank size a ≤ all_plus rank size
plus_all rank size a = ⊎_elim (λ (t : a < size). let r = below_all rank size a t in let q = plus_here rank size a t in omega arith)
    (λ (t : size ≤ a). let q : plus rank size a ≡ 0 = cond-false _ _ _ (le-ltb a size t) in omega arith) (cases_lt a size)

-- a final word stands, and is final
pub final_parts : (o : Option ℕ) (x : ℕ) → only_final o ≡ Some x → (o ≡ Some x) × (is_final_word x ≡ true)
final_parts None x e = cc
final_parts (Some y) x e = go (is_final_word y) refl e
  where
    go : (b : Bool) → is_final_word y ≡ b → cond b (Some y) None ≡ Some x → (Some y ≡ Some x) × (is_final_word x ≡ true)
    go true i f = (f, ap is_final_word (sym (same_Some y x f)) ∙ i)
    go false i f = cc

pub parts_final : (o : Option ℕ) (x : ℕ) → o ≡ Some x → is_final_word x ≡ true → only_final o ≡ Some x
parts_final o x e f = ap only_final e ∙ cond-true _ _ _ f

-- a rank that falls along walks, from each final word to all that is reached from it
pub record Falls (w : Words) : Type 0 where
  pub rank : ℕ → ℕ
  pub falls : (a b : ℕ) → Edge w a b → rank b < rank a

-- an order that falls along the links of waiting entries
pub record Ordered (w : Words) : Type 0 where
  pub order : ℕ → ℕ
  pub links : (a c x y n : ℕ) → finals w a ≡ Some x → decoded x ≡ Some (Cons c) → finals w c ≡ Some y → decoded y ≡ Some (Raw n)
      → order (c + 2) < order a

-- where both are there, words have no cycle
pub no_cycle : (w : Words) → Falls w → Ordered w → Acyclic (finals w)
no_cycle w f o = record {
  rank = f.rank;
  falls = λ a b x c e d r. (let g = final_parts (w a) x e in f.falls a b (x, c, g.0, g.1, d, inl r));
  falls_by = λ a b x t y n c e d i k h r.
      (let g = final_parts (w a) x e in
      let j = final_parts (w t) y k in
      f.falls a b (x, c, g.0, g.1, d, inr (t, y, n, i, j.0, h, r)));
  order = o.order;
  links = o.links;
}

-- a number that stands elsewhere tells parts of a tuple alone
told_tuple : (n : ℕ) (c : Cell) (b t : ℕ) → ReachesBy n c b → teller c ≡ Some t → c ≡ Tuple t
told_tuple n (Tuple a) b t r e = ap Tuple (same_Some a t e)
told_tuple n (Unbound a) b t r e = absurd r
told_tuple n (Ref a) b t r e = absurd r
told_tuple n (RoRef a) b t r e = absurd r
told_tuple n (Small z) b t r e = absurd r
told_tuple n (Wide a h) b t r e = absurd r
told_tuple n (Str s) b t r e = absurd r
told_tuple n Nil b t r e = absurd r
told_tuple n (Cons a) b t r e = absurd r
told_tuple n (cell.Status d) b t r e = absurd r
told_tuple n (Raw m) b t r e = absurd r
told_tuple n (Top a) b t r e = absurd r

pub edge_falls : (w : Words) (old : Acyclic (finals w)) (a b : ℕ) → Edge w a b → old.rank b < old.rank a
edge_falls w old a b e = go e.5
  where
    here : finals w a ≡ Some e.0
    here = parts_final (w a) e.0 e.2 e.3

    go : Leads w e.1 b → old.rank b < old.rank a
    go (inl r) = old.falls a b e.0 e.1 here e.4 r
    go (inr r) = old.falls_by a b e.0 r.0 r.1 r.2 e.1 here e.4 r.3 (parts_final (w r.0) r.1 r.4 (ap is_final_in r.5)) r.5 r.6

module _ (w : Words) (size : ℕ) (within : (a x : ℕ) → w a ≡ Some x → a < size) (low : (a x : ℕ) → w a ≡ Some x
    → a < 4000000000) (closed : AreClosed (Stands w) w) (old : Acyclic (finals w))
    (reads binds : WordList) (ps : List (List ℕ)) (has : (a x : ℕ) → Among reads (a, x)
    → w a ≡ Some x) (led : AreLed reads binds ps) (tame : IsTame reads binds ps) where
  -- the words of the trial, and those of them that were met
  abbrev all : Words
  all = trial_words w binds ps

  abbrev seen : Words
  seen = trial_words (word_at reads) binds ps

  pub met_stands : (a x : ℕ) → trial_words (word_at reads) binds ps a ≡ Some x → trial_words w binds ps a ≡ Some x
  met_stands a x e = go (word_at (rows 4000000000 ps) a) (word_at binds a) e
    where
      go : (o u : Option ℕ) → first_of o (first_of u (word_at reads a)) ≡ Some x → first_of o (first_of u (w a)) ≡ Some x
      go (Some y) u f = f
      go None (Some y) f = f
      go None None f = has a x (word_among reads a x f)

  own_here : (a x : ℕ) → word_at (rows 4000000000 ps) a ≡ Some x → (v : Words) → trial_words v binds ps a ≡ Some x
  own_here a x e v = ap (λ (o : Option ℕ). first_of o (over binds v a)) e

  pub not_own : (a : ℕ) → Has w a → word_at (rows 4000000000 ps) a ≡ None
  not_own a h = go (word_at (rows 4000000000 ps) a) refl
    where
      go : (o : Option ℕ) → word_at (rows 4000000000 ps) a ≡ o → word_at (rows 4000000000 ps) a ≡ None
      go None e = e
      go (Some y) e = let l = rows_above 4000000000 a y ps e in let k = low a h.0 h.1 in absurd (omega arith)

  pub store_here : (a : ℕ) → Has w a → word_at binds a ≡ None → trial_words w binds ps a ≡ w a
  store_here a h e = ap (λ (o : Option ℕ). first_of o (over binds w a)) (not_own a h) ∙ ap (λ (o : Option ℕ). first_of o (w a)) e

  -- a number that the trial sees among the store's words stands there
  raw_store : (t y n : ℕ) → Has w t → trial_words w binds ps t ≡ Some y → decoded y ≡ Some (Raw n) → w t ≡ Some y
  raw_store t y n h e d = go (word_at binds t) refl
    where
      go : (o : Option ℕ) → word_at binds t ≡ o → w t ≡ Some y
      go None i = sym (store_here t h i) ∙ e
      go (Some v) i =
          let is : Some v ≡ Some y = sym (ap (λ (o : Option ℕ). first_of o (over binds w t)) (not_own t h)
          ∙ ap (λ (o : Option ℕ). first_of o (w t)) i) ∙ e in
          absurd ((led.value t v i).1 n (ap decoded (same_Some v y is) ∙ d))

  -- a word that leads to the store leads there among the trial's words too
  leads_store : (x b : ℕ) (c : Cell) → LeadsIn (Stands w) w x → decoded x ≡ Some c → Leads (trial_words w binds ps) c b → Leads w c b
      × Has w b
  leads_store x b c h d (inl r) = (inl r, h.refers b c d (reaches_refers c b r))
  leads_store x b c h d (inr r) =
      let at : w r.0 ≡ Some r.1 = raw_store r.0 r.1 r.2 (h.refers r.0 c d (teller_refers c r.0 r.3)) r.4 r.5 in
      (inr (r.0, r.1, r.2, r.3, at, r.5, r.6), h.refers_by r.0 r.1 r.2 b c d r.3 at r.5 (reaches_by_refers r.2 c b r.6))

  -- a cell that refers to a piece does so among the met words
  leads_piece : (c : Cell) (b : ℕ) → RefersOwn ps c → Leads (trial_words w binds ps) c b → Leads (trial_words (word_at reads) binds ps) c b
  leads_piece c b h (inl r) = inl r
  leads_piece c b h (inr r) = inr (r.0, r.1, r.2, r.3, go c h r.3, r.5, r.6)
    where
      head : (t v : ℕ) (q : List ℕ) → StartsAt 4000000000 ps t (v ∷ q) → t ≡ r.0 → trial_words (word_at reads) binds ps r.0 ≡ Some r.1
      head t v q g e =
          let zero' : t + 0 ≡ r.0 = omega arith in
          let at : word_at (rows 4000000000 ps) r.0 ≡ Some v = ap (word_at (rows 4000000000 ps)) (sym zero')
          ∙ rows_in 4000000000 t 0 v ps (v ∷ q) g refl in
          own_here r.0 v at (word_at reads) ∙ sym (own_here r.0 v at w) ∙ r.4

      go : (c : Cell) → RefersOwn ps c → teller c ≡ Some r.0 → trial_words (word_at reads) binds ps r.0 ≡ Some r.1
      go (Unbound a) g i = absurd g
      go (Ref a) g i = cc
      go (RoRef a) g i = cc
      go (Small z) g i = cc
      go (Wide a k) g i = cc
      go (Str z) g i = cc
      go Nil g i = cc
      go (Cons a) g i = head a g.0 (g.1 ∷ []) g.2 (same_Some a r.0 i)
      go (Tuple a) g i = head a g.0 g.2 g.3 (same_Some a r.0 i)
      go (cell.Status z) g i = cc
      go (Raw z) g i = cc
      go (Top z) g i = cc

  abbrev base : ℕ
  base = tame.most + all_plus old.rank size

  abbrev own_rank : Option ℕ → ℕ → ℕ
  own_rank None a = tame.most + plus old.rank size a
  own_rank (Some x) a = tame.most + all_plus old.rank size + 1 + tame.after a

  abbrev rank' : ℕ → ℕ
  rank' a = cond (tame.walked a) (tame.rank a) (own_rank (word_at (rows 4000000000 ps) a) a)

  of_walked : (a : ℕ) → tame.walked a ≡ true → rank' a ≡ tame.rank a
  of_walked a h = cond-true _ _ _ h

  of_own : (a x : ℕ) → tame.walked a ≡ false → word_at (rows 4000000000 ps) a ≡ Some x
      → rank' a ≡ tame.most + all_plus old.rank size + 1 + tame.after a
  of_own a x h e = cond-false _ _ _ h ∙ ap (λ (o : Option ℕ). own_rank o a) e

  of_store : (a : ℕ) → tame.walked a ≡ false → word_at (rows 4000000000 ps) a ≡ None → rank' a ≡ tame.most + plus old.rank size a
  of_store a h e = cond-false _ _ _ h ∙ ap (λ (o : Option ℕ). own_rank o a) e

  -- what is no piece has a rank that is not above the base
  at_most : (b : ℕ) → word_at (rows 4000000000 ps) b ≡ None → rank' b ≤ tame.most + all_plus old.rank size
  at_most b e = ⊎_elim
      (λ (h : tame.walked b ≡ true). let q = of_walked b h in let l = tame.walk.low b h in omega arith)
      (λ (h : tame.walked b ≡ false). let q = of_store b h e in let l = plus_all old.rank size b in omega arith)
      (cases_Bool (tame.walked b))

  from_walked : (a b : ℕ) → tame.walked a ≡ true → Edge (trial_words w binds ps) a b → rank' b < rank' a
  from_walked a b h e =
      let m = tame.walk.met a h in
      let same : m.0 ≡ e.0 = same_Some m.0 e.0 (sym (met_stands a m.0 m.1) ∙ e.2) in
      let here : trial_words (word_at reads) binds ps a ≡ Some e.0 = m.1 ∙ ap Some same in
      let r = tame.walk.falls a b h (e.0, e.1, here, e.3, e.4, go here e.5) in
      let p = of_walked a h in
      let q = of_walked b r.0 in
      let l = r.1 in
      omega arith
    where
      go : trial_words (word_at reads) binds ps a ≡ Some e.0 → Leads (trial_words w binds ps) e.1 b
          → Leads (trial_words (word_at reads) binds ps) e.1 b
      go here (inl r) = inl r
      go here (inr r) =
          let m = tame.walk.counts a e.0 r.0 h here (e.4 ∙ ap Some (told_tuple r.2 e.1 b r.0 r.6 r.3)) in
          inr (r.0, r.1, r.2, r.3, m.1 ∙ sym (met_stands r.0 m.0 m.1) ∙ r.4, r.5, r.6)

  from_own : (a b : ℕ) (e : Edge (trial_words w binds ps) a b) → tame.walked a ≡ false → word_at (rows 4000000000 ps) a ≡ Some e.0
      → rank' b < rank' a
  from_own a b e h i = ⊎_elim
      (λ k. let l = leads_store e.0 b e.1 (led_leads (Stands w) w closed reads has e.0 k) e.4 e.5 in lower (at_most b (not_own b l.1)))
      (λ (k : (c : Cell) × (decoded e.0 ≡ Some c) × RefersOwn ps c). piece (subst (RefersOwn ps) (same_Some k.0 e.1 (sym k.1 ∙ e.4)) k.2)
      (word_at (rows 4000000000 ps) b) refl)
      (led.own a e.0 i e.3)
    where
      lower : rank' b ≤ tame.most + all_plus old.rank size → rank' b < rank' a
      lower l = let q = of_own a e.0 h i in omega arith

      piece : RefersOwn ps e.1 → (o : Option ℕ) → word_at (rows 4000000000 ps) b ≡ o → rank' b < rank' a
      piece k None j = lower (at_most b j)
      piece k (Some y) j = ⊎_elim
          (λ (g : tame.walked b ≡ true). let p = of_walked b g in let l = tame.walk.low b g in let q = of_own a e.0 h i in omega arith)
          (λ (g : tame.walked b ≡ false). let p = of_own b y g j in let q = of_own a e.0 h i in
          let l = tame.outer a b e.0 y e.1 h g i e.3 e.4 k j (leads_piece e.1 b k e.5) in omega arith)
          (cases_Bool (tame.walked b))

  from_store : (a b : ℕ) (e : Edge (trial_words w binds ps) a b) → tame.walked a ≡ false → w a ≡ Some e.0 → rank' b < rank' a
  from_store a b e h i =
      let l = leads_store e.0 b e.1 (closed.leads a e.0 i) e.4 e.5 in
      let f : old.rank b < old.rank a = edge_falls w old a b (e.0, e.1, i, e.3, e.4, l.0) in
      let p = of_store a h (not_own a (e.0, i)) in
      let q = plus_here old.rank size a (within a e.0 i) in
      ⊎_elim
      (λ (g : tame.walked b ≡ true). let u = of_walked b g in let v = tame.walk.low b g in omega arith)
      (λ (g : tame.walked b ≡ false). let u = of_store b g (not_own b l.1) in let v = plus_most old.rank size b in omega arith)
      (cases_Bool (tame.walked b))

  trial_falls : (a b : ℕ) → Edge (trial_words w binds ps) a b → rank' b < rank' a
  trial_falls a b e = ⊎_elim (λ (h : tame.walked a ≡ true). from_walked a b h e)
      (λ (h : tame.walked a ≡ false). go h (word_at (rows 4000000000 ps) a) refl (word_at binds a) refl e.2) (cases_Bool (tame.walked a))
    where
      go : tame.walked a ≡ false → (o : Option ℕ) → word_at (rows 4000000000 ps) a ≡ o → (u : Option ℕ) → word_at binds a ≡ u
          → first_of o (first_of u (w a)) ≡ Some e.0 → rank' b < rank' a
      go h (Some x) i u j k = from_own a b e h (i ∙ k)
      go h None i (Some v) j k = absurd (true≢false (sym (tame.starts a v j) ∙ h))
      go h None i None j k = from_store a b e h k

  pub tame_falls : Falls (trial_words w binds ps)
  tame_falls = record { rank = rank'; falls = trial_falls }
