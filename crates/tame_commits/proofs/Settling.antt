-- The facts of a try are those of its commit.
use Rattle.std.proofs.Common.{◌≡◌, ℕ, suc, ◌+◌, ◌<◌, ◌≤◌, min, Bool, true, false, cond, List, refl, sym, ap, ◌∙◌, subst, ⊎_elim, inl, inr}
use Rattle.std.proofs.Common.{arith}
use Rattle.std.proofs.Common.{true≢false, Option, Some, None}
use Rattle.std.specs.Prelude.{◌||◌, is_some, unwrap_or}
use Rattle.std.proofs.Math.Path.{fun_ext}
use Rattle.std.proofs.lemmas.Bool.{or_cases, or_left, or_right}
use Rattle.std.proofs.lemmas.Option.{same_Some}
use Rattle.heap_words.specs.Cells.{decoded, is_final_word}
use Rattle.heap_words.specs.Refers.{teller, Reaches, ReachesBy}
use Rattle.heap_words.specs.WordsLaws.{WordsLaws}
use Rattle.heap_words.specs.Trails.{WordList, Memory, word_at, under, Holds}
use Rattle.heap_words.specs.declared.cell.Cell.{Cell}
use Rattle.heap_words.specs.declared.cell.Cell.TheVariants.{Unbound, Ref, RoRef, Small, Wide, Str, Nil, Cons, Tuple, Status, Raw, Top}
use Rattle.ro_unify.specs.Value.{leads_on}
use Rattle.ro_unify.specs.Occurs.{whole_of, count_of}
use Rattle.ro_unify.specs.Walks.{IsCountOf, first_some, seen_at, IsSeen, seen_memory, Node, place, part, count, node_word, IsPlaceOf}
use Rattle.ro_unify.specs.Walks.{IsPartOf, Goes}
use Rattle.ro_unify.specs.Walks.{Tame}
use Rattle.ro_unify.specs.Walks as walks
use Rattle.ro_unify.proofs.Seeing.{seen_had, seen_word}
use Rattle.word_states.specs.Words.{Words, Has, over, first_of}
use Rattle.word_states.specs.Pieces.{rows}
use Rattle.word_states.specs.Tame.{Leads, Edge, IsWalked, trial_words, IsTame}
use Rattle.tame_commits.specs.Settled.{bound_seen, IsSettled}

module _ {S : Type 0} {addresses : S → ℕ} {sound : S → Type 0} {knows : S → ℕ → Type 0} {had : S → ℕ → ℕ → Type 0} {leads : S → ℕ → Type 0}
    {own shown : S → ℕ → Option ℕ} {later : S → S → Type 0} {gave : S → S → ℕ → ℕ → Type 0}
    (laws : WordsLaws {S = S} addresses sound knows had leads own shown later gave) (kept binds : WordList) (w : S) (n : ℕ)
    (so : sound w) (holds : Holds had leads kept binds w) (tame : Tame binds kept (own w) n)
    (value : (a x k : ℕ) → word_at binds a ≡ Some x → decoded x ≡ Some (Raw k) → ⊥)
    (opened : (a x : ℕ) → word_at binds a ≡ Some x → (y : ℕ) × (seen_at kept (own w) a ≡ Some y) × (is_final_word y ≡ false)) where
  abbrev m : Memory
  m = seen_memory kept (own w)

  abbrev seen : Words
  seen = bound_seen binds kept (own w)

  -- a word under the bindings leads to known addresses
  seen_leads : (a x : ℕ) → bound_seen binds kept (own w) a ≡ Some x → leads w x
  seen_leads a x e = go (word_at binds a) refl e
    where
      go : (o : Option ℕ) → word_at binds a ≡ o → first_some o (seen_at kept (own w) a) ≡ Some x → leads w x
      go (Some z) i f = holds.bound_leads a x (i ∙ f)
      go None i f = laws.had_leads w a x so (seen_had laws a x so holds f)

  -- an unbound place's own word is seen under the bindings
  seen_free : (a x : ℕ) → word_at binds a ≡ None → bound_seen binds kept (own w) a ≡ Some x → seen_at kept (own w) a ≡ Some x
  seen_free a x i e = sym (ap (λ (o : Option ℕ). first_some o (seen_at kept (own w) a)) i) ∙ e

  -- no part is bound, since it is final
  free_part : (b : ℕ) → ((y : ℕ) → had w b y → is_final_word y ≡ true) → word_at binds b ≡ None
  free_part b f = go (word_at binds b) refl
    where
      go : (o : Option ℕ) → word_at binds b ≡ o → word_at binds b ≡ None
      go None i = i
      go (Some z) i =
          let y = opened b z i in
          absurd (true≢false (sym (f y.0 (seen_had laws b y.0 so holds y.1)) ∙ y.2))

  -- where a walk goes on from a word, over nodes
  data Step (x b : ℕ) : Type 0 where
    to_place : Goes (seen_memory kept (own w)) x (place b) → Step x b
    to_part : Goes (seen_memory kept (own w)) x (part b) → word_at binds b ≡ None → Step x b

  step_by : (x b : ℕ) (c : Cell) → leads w x → decoded x ≡ Some c → Reaches c b → Step x b
  step_by x b (Ref d) l i r = to_place (subst (λ (o : Option Cell). IsPlaceOf (leads_on false o) b) (sym i) r)
  step_by x b (RoRef d) l i r = to_place (subst (λ (o : Option Cell). IsPlaceOf (leads_on false o) b) (sym i) r)
  step_by x b (Cons d) l i r = to_part
      (subst (λ (o : Option Cell). IsPartOf (seen_memory kept (own w)) (whole_of o) b) (sym i)
      (⊎_elim (λ (q : b ≡ d). inl q) (λ (q : b ≡ suc d). inr (let k : b ≡ d + 1 = omega arith in k)) r))
      (free_part b (λ y h. laws.part_final w x b y (Cons d) so l i r h))
  step_by x b (Unbound d) l i r = absurd r
  step_by x b (Small z) l i r = absurd r
  step_by x b (Wide d h) l i r = absurd r
  step_by x b (Str s) l i r = absurd r
  step_by x b Nil l i r = absurd r
  step_by x b (Tuple d) l i r = absurd r
  step_by x b (Status d) l i r = absurd r
  step_by x b (Raw k) l i r = absurd r
  step_by x b (Top d) l i r = absurd r

  -- the number that tells is no binding
  told : (t y k : ℕ) → bound_seen binds kept (own w) t ≡ Some y → decoded y ≡ Some (Raw k) → seen_at kept (own w) t ≡ Some y
  told t y k e d = go (word_at binds t) refl e
    where
      go : (o : Option ℕ) → word_at binds t ≡ o → first_some o (seen_at kept (own w) t) ≡ Some y → seen_at kept (own w) t ≡ Some y
      go None i f = f
      go (Some z) i f = absurd (value t y k (i ∙ f) d)

  step_told : (x b : ℕ) (c : Cell) (t y k : ℕ) → leads w x → decoded x ≡ Some c → teller c ≡ Some t
      → bound_seen binds kept (own w) t ≡ Some y → decoded y ≡ Some (Raw k) → ReachesBy k c b → Step x b
  step_told x b (Tuple d) t y k l i j e h r =
      let same : d ≡ t = same_Some d t j in
      let there : seen_at kept (own w) d ≡ Some y = told d y k (ap (bound_seen binds kept (own w)) same ∙ e) h in
      let number : decoded (seen_memory kept (own w) d) ≡ Some (Raw k) = ap decoded (seen_word kept (own w) d y there) ∙ h in
      to_part
      (subst (λ (o : Option Cell). IsPartOf (seen_memory kept (own w)) (whole_of o) b) (sym i)
      (subst (λ (o : Option Cell). (d < b) × (b ≤ d + count_of o)) (sym number) r))
      (free_part b (λ z q. laws.part_final_by w x d y k b z (Tuple d) so l i refl (seen_had laws d y so holds there) h r q))
  step_told x b (Unbound d) t y k l i j e h r = absurd r
  step_told x b (Ref d) t y k l i j e h r = absurd r
  step_told x b (RoRef d) t y k l i j e h r = absurd r
  step_told x b (Small z) t y k l i j e h r = absurd r
  step_told x b (Wide d g) t y k l i j e h r = absurd r
  step_told x b (Str s) t y k l i j e h r = absurd r
  step_told x b Nil t y k l i j e h r = absurd r
  step_told x b (Cons d) t y k l i j e h r = absurd r
  step_told x b (Status d) t y k l i j e h r = absurd r
  step_told x b (Raw d) t y k l i j e h r = absurd r
  step_told x b (Top d) t y k l i j e h r = absurd r

  step : (a b : ℕ) (e : Edge (bound_seen binds kept (own w)) a b) → Step e.0 b
  step a b e = go e.5
    where
      go : Leads (bound_seen binds kept (own w)) e.1 b → Step e.0 b
      go (inl r) = step_by e.0 b e.1 (seen_leads a e.0 e.2) e.4 r
      go (inr r) = step_told e.0 b e.1 r.0 r.1 r.2 (seen_leads a e.0 e.2) e.4 r.3 r.4 r.5 r.6

  -- the words of nodes
  place_word : (a x : ℕ) → bound_seen binds kept (own w) a ≡ Some x → under binds (seen_memory kept (own w)) a ≡ x
  place_word a x e = go (word_at binds a) e
    where
      go : (o : Option ℕ) → first_some o (seen_at kept (own w) a) ≡ Some x → unwrap_or o (seen_memory kept (own w) a) ≡ x
      go (Some z) f = same_Some z x f
      go None f = seen_word kept (own w) a x f

  part_word : (a x : ℕ) → word_at binds a ≡ None → bound_seen binds kept (own w) a ≡ Some x → seen_memory kept (own w) a ≡ x
  part_word a x i e = seen_word kept (own w) a x (seen_free a x i e)

  -- The rank of an address is the least of its nodes. A bound place is no part.
  abbrev rank : ℕ → ℕ
  rank a = cond (is_some (word_at binds a)) (tame.rank (place a)) (min (tame.rank (place a)) (tame.rank (part a)))

  rank_bound : (a z : ℕ) → word_at binds a ≡ Some z → rank a ≡ tame.rank (place a)
  rank_bound a z i =
      ap (λ (o : Option ℕ). cond (is_some o) (tame.rank (place a)) (min (tame.rank (place a)) (tame.rank (part a)))) i

  rank_free : (a : ℕ) → word_at binds a ≡ None → rank a ≡ min (tame.rank (place a)) (tame.rank (part a))
  rank_free a i =
      ap (λ (o : Option ℕ). cond (is_some o) (tame.rank (place a)) (min (tame.rank (place a)) (tame.rank (part a)))) i

  rank_place : (a : ℕ) → rank a ≤ tame.rank (place a)
  rank_place a = go (is_some (word_at binds a))
    where
      go : (t : Bool) → cond t (tame.rank (place a)) (min (tame.rank (place a)) (tame.rank (part a))) ≤ tame.rank (place a)
      go true = omega arith
      go false = omega arith

  -- an edge is a step of a walk from each node of its address
  from_node : (a b : ℕ) (e : Edge (bound_seen binds kept (own w)) a b) (v : Node) → node_word binds (seen_memory kept (own w)) v ≡ e.0
      → (rank b < tame.rank v) × (tame.inner v ≡ true → (tame.inner (place b) || tame.inner (part b)) ≡ true)
  from_node a b e v is = go (step a b e)
    where
      on : (u : Node) → Goes (seen_memory kept (own w)) e.0 u → walks.Edge binds (seen_memory kept (own w)) v u
      on u g = subst (λ (x : ℕ). Goes (seen_memory kept (own w)) x u) (sym is) g

      go : Step e.0 b → (rank b < tame.rank v) × (tame.inner v ≡ true → (tame.inner (place b) || tame.inner (part b)) ≡ true)
      go (to_place g) = (
        omega (arith, rank_place b, tame.falls v (place b) (on (place b) g)),
        λ i. or_left _ _ (tame.stays v (place b) (on (place b) g) i),
      )
      go (to_part g free) = (
        omega (arith, rank_free b free, tame.falls v (part b) (on (part b) g)),
        λ i. or_right _ _ (tame.stays v (part b) (on (part b) g) i),
      )

  falls : (a b : ℕ) → Edge (bound_seen binds kept (own w)) a b → rank b < rank a
  falls a b e = go (word_at binds a) refl
    where
      go : (o : Option ℕ) → word_at binds a ≡ o → rank b < rank a
      go (Some z) i = omega (arith, rank_bound a z i, (from_node a b e (place a) (place_word a e.0 e.2)).0)
      go None i = omega (
        arith,
        rank_free a i,
        (from_node a b e (place a) (place_word a e.0 e.2)).0,
        (from_node a b e (part a) (part_word a e.0 i e.2)).0,
      )

  abbrev walked : ℕ → Bool
  walked a = tame.inner (place a) || tame.inner (part a)

  closed : (a b : ℕ) → walked a ≡ true → Edge (bound_seen binds kept (own w)) a b → walked b ≡ true
  closed a b h e = ⊎_elim by_place by_part (or_cases _ _ h)
    where
      by_place : tame.inner (place a) ≡ true → walked b ≡ true
      by_place i = (from_node a b e (place a) (place_word a e.0 e.2)).1 i

      by_part : tame.inner (part a) ≡ true → walked b ≡ true
      by_part i = go (word_at binds a) refl
        where
          go : (o : Option ℕ) → word_at binds a ≡ o → walked b ≡ true
          go (Some z) j = by_place (tame.bound_inner a z j)
          go None j = (from_node a b e (part a) (part_word a e.0 j e.2)).1 i

  -- what was seen is seen under the bindings too
  seen_has : (a : ℕ) → IsSeen kept (own w) a → Has (bound_seen binds kept (own w)) a
  seen_has a s = go (word_at binds a)
    where
      go : (o : Option ℕ) → (x : ℕ) × (first_some o (seen_at kept (own w) a) ≡ Some x)
      go (Some z) = (z, refl)
      go None = (s.word, s.there)

  met : (a : ℕ) → walked a ≡ true → Has (bound_seen binds kept (own w)) a
  met a h = ⊎_elim (λ (i : tame.inner (place a) ≡ true). seen_has a (tame.inner_seen (place a) i))
      (λ (i : tame.inner (part a) ≡ true). seen_has a (tame.inner_seen (part a) i)) (or_cases _ _ h)

  -- the number of a walked tuple's parts was seen
  counts : (a x t : ℕ) → walked a ≡ true → bound_seen binds kept (own w) a ≡ Some x → decoded x ≡ Some (Tuple t)
      → Has (bound_seen binds kept (own w)) t
  counts a x t h e d = ⊎_elim by_place by_part (or_cases _ _ h)
    where
      goes : Goes (seen_memory kept (own w)) x (count t)
      goes = subst (λ (o : Option Cell). IsCountOf (whole_of o) t) (sym d) refl

      there : IsSeen kept (own w) t → Has (bound_seen binds kept (own w)) t
      there s = seen_has t s

      by_node : (v : Node) → node_word binds (seen_memory kept (own w)) v ≡ x → tame.inner v ≡ true
          → Has (bound_seen binds kept (own w)) t
      by_node v is i = there (tame.inner_seen (count t)
          (tame.stays v (count t) (subst (λ (y : ℕ). Goes (seen_memory kept (own w)) y (count t)) (sym is) goes) i))

      by_place : tame.inner (place a) ≡ true → Has (bound_seen binds kept (own w)) t
      by_place i = by_node (place a) (place_word a x e) i

      by_part : tame.inner (part a) ≡ true → Has (bound_seen binds kept (own w)) t
      by_part i = go (word_at binds a) refl
        where
          go : (o : Option ℕ) → word_at binds a ≡ o → Has (bound_seen binds kept (own w)) t
          go (Some z) j = by_place (tame.bound_inner a z j)
          go None j = by_node (part a) (part_word a x j e) i

  low : (a : ℕ) → rank a < suc tame.top
  low a = omega (arith, rank_place a, tame.low (place a))

  walk : IsWalked (bound_seen binds kept (own w)) walked rank (suc tame.top)
  walk = record { met = met; falls = λ a b h e. (closed a b h e, falls a b e); counts = counts; low = λ a h. low a }

  pub settled_tame : (settled : WordList) (ps : List (List ℕ)) → IsSettled kept binds (own w) settled ps → IsTame kept settled ps
  settled_tame settled ps is = record {
    walked = walked;
    rank = rank;
    most = suc tame.top;
    walk = subst (λ (v : Words). IsWalked v walked rank (suc tame.top)) (sym all_same) walk;
    starts = λ a x e. or_left _ _ (tame.bound_inner a x (is.fewer a x e));
    after = rank;
    outer = λ a b x y c _ _ e fin d _ _ l. falls a b (subst (λ (v : Words). Edge v a b) all_same (x, c, here a x e, fin, d, l));
  }
    where
      all_same : trial_words (word_at kept) settled ps ≡ bound_seen binds kept (own w)
      all_same = fun_ext is.same

      here : (a x : ℕ) → word_at (rows 4000000000 ps) a ≡ Some x → trial_words (word_at kept) settled ps a ≡ Some x
      here a x e = ap (λ (o : Option ℕ). first_of o (over settled (word_at kept) a)) e
