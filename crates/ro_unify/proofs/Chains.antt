-- The places through which a value was found, and an occurs check as a walk.
use Rattle.std.proofs.Common.{◌≡◌, ℕ, Bool, true, false, cond, Option, Some, None, refl, sym, ap, ◌∙◌, subst, arith, inl, inr, ⊎_elim}
use Rattle.std.specs.Prelude.{◌⊎◌, ◌||◌, nat_eq, unwrap_or}
use Rattle.std.proofs.lemmas.Bool.{eqb-true, eq-eqb}
use Rattle.heap_words.specs.Cells.{decoded}
use Rattle.heap_words.specs.Trails.{WordList, Memory, word_at, under}
use Rattle.heap_words.specs.declared.cell.Cell.{Cell}
use Rattle.heap_words.specs.declared.cell.Cell.TheVariants as cell
use Rattle.heap_words.proofs.Encodings.{decoded_encoded}
use Rattle.ro_unify.specs.declared.look.Look.{Look}
use Rattle.ro_unify.specs.declared.look.Look.TheVariants.{Writable, ReadOnly, Solid}
use Rattle.ro_unify.specs.declared.look.Step.{Step}
use Rattle.ro_unify.specs.declared.look.Step.TheVariants.{End, On}
use Rattle.ro_unify.specs.declared.occurrence.Whole.{Whole}
use Rattle.ro_unify.specs.declared.occurrence.Whole.TheVariants.{Atom}
use Rattle.ro_unify.specs.Value.{leads_on, Values, ends, goes, step_of, step_at, bound_step}
use Rattle.ro_unify.specs.Value.{place_step, open_at, is_unbound, look_word, IsOpen}
use Rattle.ro_unify.specs.Occurs.{whole_of, open_of}
use Rattle.ro_unify.specs.Walks.{seen_at, IsSeen, seen_memory, Node, place, part, count, address, node_word}
use Rattle.ro_unify.specs.Walks.{IsPlaceOf, IsPartOf, IsCountOf, Goes, Edge, Tame}
use Rattle.ro_unify.proofs.Measures.{Stepped, stepped, solid, opens, bound, passes, same_place}
use Rattle.ro_unify.proofs.Seeing.{memory_with, seen_word}

-- an open place was seen, and no walk goes on from it
nil_is_solid : is_unbound (decoded 6) ≡ false
nil_is_solid = ap is_unbound (decoded_encoded cell.Nil tt)

pub open_seen : (kept : WordList) (own : ℕ → Option ℕ) (a : ℕ) → is_unbound (decoded (seen_memory kept own a)) ≡ true → IsSeen kept own a
open_seen kept own a e = go (seen_at kept own a) refl
  where
    go : (o : Option ℕ) → seen_at kept own a ≡ o → IsSeen kept own a
    go (Some x) i = record { word = x; there = i }
    go None i = absurd (let k : false ≡ true = sym nil_is_solid ∙
        (sym (ap (λ (o : Option ℕ). is_unbound (decoded (unwrap_or o 6))) i) ∙ e) in cc)

unbound_goes : (m : Memory) (o : Option Cell) (b : ℕ) → is_unbound o ≡ true → (leads_on false o ≡ None) × (whole_of o ≡ Atom)
unbound_goes m (Some (cell.Unbound k)) b e = (refl, refl)
unbound_goes m None b e = cc
unbound_goes m (Some (cell.Ref a)) b e = cc
unbound_goes m (Some (cell.RoRef a)) b e = cc
unbound_goes m (Some (cell.Small z)) b e = cc
unbound_goes m (Some (cell.Wide a h)) b e = cc
unbound_goes m (Some (cell.Str s)) b e = cc
unbound_goes m (Some cell.Nil) b e = cc
unbound_goes m (Some (cell.Cons a)) b e = cc
unbound_goes m (Some (cell.Tuple a)) b e = cc
unbound_goes m (Some (cell.Status d)) b e = cc
unbound_goes m (Some (cell.Raw k)) b e = cc
unbound_goes m (Some (cell.Top a)) b e = cc

goes_none : (m : Memory) (x : ℕ) (b : Node) → leads_on false (decoded x) ≡ None → whole_of (decoded x) ≡ Atom → Goes m x b → ⊥
goes_none m x (place q) e f r = subst (λ (o : Option (Bool × ℕ)). IsPlaceOf o q) e r
goes_none m x (part q) e f r = subst (λ (o : Whole). IsPartOf m o q) f r
goes_none m x (count q) e f r = subst (λ (o : Whole). IsCountOf o q) f r

pub open_ends : (bs : WordList) (m : Memory) (a : ℕ) (b : Node) → IsOpen bs m a → Edge bs m (place a) b → ⊥
open_ends bs m a b o e =
    let u = unbound_goes m (decoded (m a)) 0 o.1 in
    goes_none m (m a) b u.0 u.1 (subst (λ (x : ℕ). Goes m x b) (ap (λ (p : Option ℕ). unwrap_or p (m a)) o.0) e)

-- a reference goes to its place alone
pub place_only : (m : Memory) (x : ℕ) (s : Bool) (a : ℕ) (b : Node) → leads_on false (decoded x) ≡ Some (s, a) → Goes m x b → b ≡ place a
place_only m x s a (place q) e r = ap (λ (z : ℕ). place z) (subst (λ (o : Option (Bool × ℕ)). IsPlaceOf o q) e r)
place_only m x s a (part q) e r =
    absurd (goes_none m x (part q) (absurd (no_whole (decoded x) q e r)) (absurd (no_whole (decoded x) q e r)) r)
  where
    no_whole : (o : Option Cell) (q : ℕ) → leads_on false o ≡ Some (s, a) → IsPartOf m (whole_of o) q → ⊥
    no_whole (Some (cell.Ref c)) q e r = r
    no_whole (Some (cell.RoRef c)) q e r = r
    no_whole None q e r = r
    no_whole (Some (cell.Cons c)) q e r = let h : None ≡ Some (s, a) = e in cc
    no_whole (Some (cell.Tuple c)) q e r = let h : None ≡ Some (s, a) = e in cc
    no_whole (Some (cell.Unbound k)) q e r = r
    no_whole (Some (cell.Small z)) q e r = r
    no_whole (Some (cell.Wide c h)) q e r = r
    no_whole (Some (cell.Str t)) q e r = r
    no_whole (Some cell.Nil) q e r = r
    no_whole (Some (cell.Status d)) q e r = r
    no_whole (Some (cell.Raw k)) q e r = r
    no_whole (Some (cell.Top c)) q e r = r
place_only m x s a (count q) e r = absurd (no_count (decoded x) q e r)
  where
    no_count : (o : Option Cell) (q : ℕ) → leads_on false o ≡ Some (s, a) → IsCountOf (whole_of o) q → ⊥
    no_count (Some (cell.Ref c)) q e r = r
    no_count (Some (cell.RoRef c)) q e r = r
    no_count None q e r = r
    no_count (Some (cell.Cons c)) q e r = r
    no_count (Some (cell.Tuple c)) q e r = let h : None ≡ Some (s, a) = e in cc
    no_count (Some (cell.Unbound k)) q e r = r
    no_count (Some (cell.Small z)) q e r = r
    no_count (Some (cell.Wide c h)) q e r = r
    no_count (Some (cell.Str t)) q e r = r
    no_count (Some cell.Nil) q e r = r
    no_count (Some (cell.Status d)) q e r = r
    no_count (Some (cell.Raw k)) q e r = r
    no_count (Some (cell.Top c)) q e r = r

-- where a walk goes on from a value
abbrev pub GoesLook : Memory → Look → Node → Type 0
GoesLook m (Solid x) b = Goes m x b
GoesLook m (Writable a) b = ⊥
GoesLook m (ReadOnly a) b = ⊥

-- The places between a word and its value.
pub record Chain (bs kept : WordList) (own : ℕ → Option ℕ) (w : ℕ) (l : Look) : Type 0 where
  pub chain : Node → Bool
  pub start : (b : Node) → Goes (seen_memory kept own) w b → (chain b ≡ true) ⊎ GoesLook (seen_memory kept own) l b
  pub closed : (a b : Node) → Edge bs (seen_memory kept own) a b → chain a ≡ true → (chain b ≡ true) ⊎ GoesLook (seen_memory kept own) l b
  pub was_seen : (a : Node) → chain a ≡ true → IsSeen kept own (address a)
  pub only_end : (p : ℕ) → IsOpen bs (seen_memory kept own) p → chain (place p) ≡ true → open_of l ≡ Some p

-- the node is the place p
abbrev pub at_place : ℕ → Node → Bool
at_place p (place a) = nat_eq a p
at_place p (part a) = false
at_place p (count a) = false

pub at_place_is : (p : ℕ) (a : Node) → at_place p a ≡ true → a ≡ place p
at_place_is p (place a) e = ap (λ (z : ℕ). place z) (eqb-true a p e)
at_place_is p (part a) e = cc
at_place_is p (count a) e = cc

pub same_at_place : (p : ℕ) → at_place p (place p) ≡ true
same_at_place p = eq-eqb p p refl

pub or_split : (c d : Bool) → (c || d) ≡ true → (c ≡ true) ⊎ (d ≡ true)
or_split true d e = inl refl
or_split false d e = inr e

pub or_right : (c d : Bool) → d ≡ true → (c || d) ≡ true
or_right true d e = refl
or_right false d e = e

pub or_left : (c d : Bool) → c ≡ true → (c || d) ≡ true
or_left true d e = refl
or_left false d e = let h : false ≡ true = e in cc

either_on : {A B C : Type 0} → (A → C) → A ⊎ B → C ⊎ B
either_on f (inl a) = inl (f a)
either_on f (inr b) = inr b

values_inverse : (bs : WordList) (m : Memory) (only : Bool) (w : ℕ) (o : Bool) (x : ℕ) (l : Look) → Values bs m only w l
    → step_of bs m only w ≡ On o x → Values bs m o x l
values_inverse bs m only w o x l (ends _ _ _ e) f = absurd (let h : End l ≡ On o x = sym e ∙ f in cc)
values_inverse bs m only w o x l (goes _ _ o2 x2 _ e v) f =
    let h : On o2 x2 ≡ On o x = sym e ∙ f in
    let i : o2 ≡ o = cc in
    let j : x2 ≡ x = cc in
    subst (λ (c : Bool). Values bs m c x l) i (subst (λ (z : ℕ). Values bs m o2 z l) j v)

-- a word that is no reference is its own value
values_solid : (bs : WordList) (m : Memory) (only : Bool) (w : ℕ) (l : Look) → leads_on false (decoded w) ≡ None → Values bs m only w l
    → l ≡ Solid w
values_solid bs m only w l f (ends _ _ _ e) = at (step_of bs m only w) (stepped bs m only w) e
  where
    at : (s : Step) → Stepped bs m only w s → s ≡ End l → l ≡ Solid w
    at _ (solid i) h = cc
    at _ (opens s o a i j k) h = absurd (let g : None ≡ Some (s, a) = sym f ∙ i in cc)
    at _ (bound s o a x i j) h = cc
    at _ (passes s o a i j k) h = cc
values_solid bs m only w l f (goes _ _ o x _ e v) = at (step_of bs m only w) (stepped bs m only w) e
  where
    at : (s : Step) → Stepped bs m only w s → s ≡ On o x → l ≡ Solid w
    at _ (solid i) h = cc
    at _ (opens s c a i j k) h = cc
    at _ (bound s c a y i j) h = absurd (let g : None ≡ Some (s, a) = sym f ∙ i in cc)
    at _ (passes s c a i j k) h = absurd (let g : None ≡ Some (s, a) = sym f ∙ i in cc)

step_bound : (bs : WordList) (m : Memory) (only : Bool) (w : ℕ) (p : Bool × ℕ) (y : ℕ) → leads_on only (decoded w) ≡ Some p
    → word_at bs p.1 ≡ Some y → step_of bs m only w ≡ On p.0 y
step_bound bs m only w p y e i = ap (step_at bs m w) e ∙ ap (λ (o : Option ℕ). bound_step p.0 p.1 o (m p.1)) i

step_passes : (bs : WordList) (m : Memory) (only : Bool) (w : ℕ) (p : Bool × ℕ) (z : ℕ) → leads_on only (decoded w) ≡ Some p
    → word_at bs p.1 ≡ None → m p.1 ≡ z → is_unbound (decoded z) ≡ false → step_of bs m only w ≡ On p.0 z
step_passes bs m only w p z e i k u =
    ap (step_at bs m w) e ∙
    (ap (λ (o : Option ℕ). bound_step p.0 p.1 o (m p.1)) i ∙
    (ap (place_step p.0 p.1) k ∙ ap (λ (c : Bool). cond c (End (open_at p.0 p.1)) (On p.0 z)) u))

step_opens : (bs : WordList) (m : Memory) (only : Bool) (w : ℕ) (p : Bool × ℕ) → leads_on only (decoded w) ≡ Some p → word_at bs p.1 ≡ None
    → is_unbound (decoded (m p.1)) ≡ true → step_of bs m only w ≡ End (open_at p.0 p.1)
step_opens bs m only w p e i u =
    ap (step_at bs m w) e ∙
    (ap (λ (o : Option ℕ). bound_step p.0 p.1 o (m p.1)) i ∙ ap (λ (c : Bool). cond c (End (open_at p.0 p.1)) (On p.0 (m p.1))) u)

solids_differ : (l : Look) → l ≡ Solid 6 → l ≡ Solid 7 → ⊥
solids_differ l i j = let k : 6 ≡ 7 = ap look_word (sym i ∙ j) in omega (arith, k)

other_is : decoded 7 ≡ Some (cell.Cons 0)
other_is = decoded_encoded (cell.Cons 0) (omega arith)

module _ (bs kept : WordList) (own : ℕ → Option ℕ) (n : ℕ) (t : Tame bs kept own n) where
  -- one place more in front
  longer : (w : ℕ) (s : Bool) (a x : ℕ) (l : Look) → leads_on false (decoded w) ≡ Some (s, a) → IsSeen kept own a
      → under bs (seen_memory kept own) a ≡ x → (IsOpen bs (seen_memory kept own) a → ⊥) → Chain bs kept own x l → Chain bs kept own w l
  longer w s a x l e here is shut c = record {
    chain = λ b. at_place a b || c.chain b;
    start = λ b r. inl (or_left (at_place a b) (c.chain b)
        (ap (at_place a) (place_only (seen_memory kept own) w s a b e r) ∙ same_at_place a));
    closed = λ d b r i. ⊎_elim
        (λ j. either_on (λ k. or_right (at_place a b) (c.chain b) k)
        (c.start b (subst (λ (z : ℕ). Goes (seen_memory kept own) z b)
        (ap (node_word bs (seen_memory kept own)) (at_place_is a d j) ∙ is) r)))
        (λ j. either_on (λ k. or_right (at_place a b) (c.chain b) k) (c.closed d b r j))
        (or_split (at_place a d) (c.chain d) i);
    was_seen = λ d i. ⊎_elim (λ j. subst (λ (b : Node). IsSeen kept own (address b)) (sym (at_place_is a d j)) here) (λ j. c.was_seen d j)
        (or_split (at_place a d) (c.chain d) i);
    only_end = λ p o i. ⊎_elim (λ j. absurd (shut (subst (λ (z : ℕ). IsOpen bs (seen_memory kept own) z) (eqb-true p a j) o)))
        (λ j. c.only_end p o j) (or_split (at_place a (place p)) (c.chain (place p)) i);
  }

  ended : (only : Bool) (w : ℕ) (l : Look) (s : Step) → Stepped bs (seen_memory kept own) only w s → s ≡ End l → Chain bs kept own w l
  ended only w l _ (solid e) i = record {
    chain = λ _. false;
    start = λ b r. inr (subst (λ (k : Look). GoesLook (seen_memory kept own) k b) (let h : Solid w ≡ l = cc in h) r);
    closed = λ a b e i. absurd (let h : false ≡ true = i in cc);
    was_seen = λ a i. absurd (let h : false ≡ true = i in cc);
    only_end = λ p o i. absurd (let h : false ≡ true = i in cc);
  }
  ended only w l _ (opens s o a e j k) i = record {
    chain = at_place a;
    start = λ b r. inl (ap (at_place a) (place_only (seen_memory kept own) w s a b e r) ∙ same_at_place a);
    closed = λ d b r q. absurd
        (open_ends bs (seen_memory kept own) a b (j, k) (subst (λ (c : Node). Edge bs (seen_memory kept own) c b) (at_place_is a d q) r));
    was_seen = λ d q. subst (λ (c : Node). IsSeen kept own (address c)) (sym (at_place_is a d q)) (open_seen kept own a k);
    only_end = λ p f q. subst (λ (c : Look). open_of c ≡ Some p) (let h : open_at o a ≡ l = cc in h) (place_open o p (eqb-true p a q));
  }
    where
      place_open : (o : Bool) (p : ℕ) → p ≡ a → open_of (open_at o a) ≡ Some p
      place_open true p h = ap (λ (z : ℕ). Some z) (sym h)
      place_open false p h = ap (λ (z : ℕ). Some z) (sym h)
  ended only w l _ (bound s o a x e j) i = cc
  ended only w l _ (passes s o a e j k) i = cc

  further : (only : Bool) (w : ℕ) (o : Bool) (x : ℕ) (l : Look) → step_of bs (seen_memory kept own) only w ≡ On o x
      → Values bs (seen_memory kept own) o x l → Values bs (memory_with 7 kept own) only w l
      → (Values bs (memory_with 7 kept own) o x l → Chain bs kept own x l) → Chain bs kept own w l
  further only w o x l e v d rec = go (leads_on only (decoded w)) refl
    where
      passing : (p : Bool × ℕ) → leads_on only (decoded w) ≡ Some p → word_at bs p.1 ≡ None
          → is_unbound (decoded (seen_memory kept own p.1)) ≡ false → (q : Option ℕ) → seen_at kept own p.1 ≡ q → Chain bs kept own w l
      passing p f i u (Some z) j =
          let k : seen_memory kept own p.1 ≡ z = seen_word kept own p.1 z j in
          let uz : is_unbound (decoded z) ≡ false = ap (λ (y : ℕ). is_unbound (decoded y)) (sym k) ∙ u in
          let h : On p.0 z ≡ On o x = sym (step_passes bs (seen_memory kept own) only w p z f i k uz) ∙ e in
          let zx : z ≡ x = cc in
          let g : step_of bs (memory_with 7 kept own) only w ≡ On o x =
          step_passes bs (memory_with 7 kept own) only w p z f i (ap (λ (q : Option ℕ). unwrap_or q 7) j) uz ∙ h in
          let s = same_place only p.0 (decoded w) p.1 f in
          longer w s.0 p.1 x l s.1 (record { word = z; there = j })
          (ap (λ (q : Option ℕ). unwrap_or q (seen_memory kept own p.1)) i ∙ (k ∙ zx))
          (λ o. absurd (let b : true ≡ false = sym o.1 ∙ u in cc))
          (rec (values_inverse bs (memory_with 7 kept own) only w o x l d g))
      passing p f i u None j =
          let k : seen_memory kept own p.1 ≡ 6 = ap (λ (q : Option ℕ). unwrap_or q 6) j in
          let h : On p.0 6 ≡ On o x = sym (step_passes bs (seen_memory kept own) only w p 6 f i k nil_is_solid) ∙ e in
          let x6 : 6 ≡ x = cc in
          let l6 : l ≡ Solid 6 =
          values_solid bs (seen_memory kept own) o 6 l (ap (leads_on false) (decoded_encoded cell.Nil tt))
          (subst (λ (z : ℕ). Values bs (seen_memory kept own) o z l) (sym x6) v) in
          let g : step_of bs (memory_with 7 kept own) only w ≡ On p.0 7 =
          step_passes bs (memory_with 7 kept own) only w p 7 f i (ap (λ (q : Option ℕ). unwrap_or q 7) j) (ap is_unbound other_is) in
          let l7 : l ≡ Solid 7 =
          values_solid bs (memory_with 7 kept own) p.0 7 l (ap (leads_on false) other_is)
          (values_inverse bs (memory_with 7 kept own) only w p.0 7 l d g) in
          absurd (solids_differ l l6 l7)

      at : (p : Bool × ℕ) → leads_on only (decoded w) ≡ Some p → (q : Option ℕ) → word_at bs p.1 ≡ q → (u : Bool)
          → is_unbound (decoded (seen_memory kept own p.1)) ≡ u → Chain bs kept own w l
      at p f (Some y) i u j =
          let h : On p.0 y ≡ On o x = sym (step_bound bs (seen_memory kept own) only w p y f i) ∙ e in
          let yx : y ≡ x = cc in
          let g : step_of bs (memory_with 7 kept own) only w ≡ On o x = step_bound bs (memory_with 7 kept own) only w p y f i ∙ h in
          let s = same_place only p.0 (decoded w) p.1 f in
          longer w s.0 p.1 x l s.1 (t.inner_seen (place p.1) (t.bound_inner p.1 y i))
          (ap (λ (q : Option ℕ). unwrap_or q (seen_memory kept own p.1)) i ∙ yx)
          (λ o. absurd (let b : None ≡ Some y = sym o.0 ∙ i in cc))
          (rec (values_inverse bs (memory_with 7 kept own) only w o x l d g))
      at p f None i true j =
          absurd (let h : End (open_at p.0 p.1) ≡ On o x = sym (step_opens bs (seen_memory kept own) only w p f i j) ∙ e in cc)
      at p f None i false j = passing p f i j (seen_at kept own p.1) refl

      go : (q : Option (Bool × ℕ)) → leads_on only (decoded w) ≡ q → Chain bs kept own w l
      go None f = absurd (let h : End (Solid w) ≡ On o x = sym (ap (step_at bs (seen_memory kept own) w) f) ∙ e in cc)
      go (Some p) f = at p f (word_at bs p.1) refl (is_unbound (decoded (seen_memory kept own p.1))) refl

  pub chain_of : (only : Bool) (w : ℕ) (l : Look) → Values bs (seen_memory kept own) only w l → Values bs (memory_with 7 kept own) only w l
      → Chain bs kept own w l
  chain_of only w l (ends _ _ _ e) d =
      ended only w l (step_of bs (seen_memory kept own) only w) (stepped bs (seen_memory kept own) only w) e
  chain_of only w l (goes _ _ o x _ e v) d = further only w o x l e v d (λ k. chain_of o x l v k)

-- an unbound value is an open place
pub values_open : (bs : WordList) (m : Memory) (only : Bool) (w : ℕ) (l : Look) (a : ℕ) → Values bs m only w l → open_of l ≡ Some a
    → IsOpen bs m a
values_open bs m only w l a (ends _ _ _ e) f = at (step_of bs m only w) (stepped bs m only w) e
  where
    open_is : (o : Bool) (b : ℕ) → open_of (open_at o b) ≡ Some b
    open_is true b = refl
    open_is false b = refl

    at : (s : Step) → Stepped bs m only w s → s ≡ End l → IsOpen bs m a
    at _ (solid i) h = absurd (let g : None ≡ Some a = ap open_of (let k : Solid w ≡ l = cc in k) ∙ f in cc)
    at _ (opens s o b i j k) h =
        let g : Some b ≡ Some a = sym (open_is o b) ∙ (ap open_of (let q : open_at o b ≡ l = cc in q) ∙ f) in
        let c : b ≡ a = cc in subst (IsOpen bs m) c (j, k)
    at _ (bound s o b x i j) h = cc
    at _ (passes s o b i j k) h = cc
values_open bs m only w l a (goes _ _ o x _ e v) f = values_open bs m o x l a v f

-- a value that is no place is no reference
pub value_no_ref : (bs : WordList) (m : Memory) (only : Bool) (w : ℕ) (l : Look) (y : ℕ) → Values bs m only w l → l ≡ Solid y
    → leads_on false (decoded y) ≡ None
value_no_ref bs m only w l y (ends _ _ _ e) f = at (step_of bs m only w) (stepped bs m only w) e
  where
    at : (s : Step) → Stepped bs m only w s → s ≡ End l → leads_on false (decoded y) ≡ None
    at _ (solid i) h =
        let g : w ≡ y = ap look_word (let k : Solid w ≡ l = cc in k ∙ f) in subst (λ (z : ℕ). leads_on false (decoded z) ≡ None) g i
    at _ (opens s true a i j k) h = absurd (let g : ReadOnly a ≡ Solid y = (let k2 : ReadOnly a ≡ l = cc in k2 ∙ f) in cc)
    at _ (opens s false a i j k) h = absurd (let g : Writable a ≡ Solid y = (let k2 : Writable a ≡ l = cc in k2 ∙ f) in cc)
    at _ (bound s o b x i j) h = cc
    at _ (passes s o b i j k) h = cc
value_no_ref bs m only w l y (goes _ _ o x _ e v) f = value_no_ref bs m o x l y v f
