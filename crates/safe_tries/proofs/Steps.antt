-- Where walks go on from words, and where words of a try stand.
use Rattle.std.proofs.Common.{◌≡◌, ℕ, suc, ◌+◌, ◌<◌, ◌≤◌, Bool, false, List, [], ◌∷◌, ◌++◌, length, refl, sym, ap, ◌∙◌}
use Rattle.std.proofs.Common.{subst, inl, inr, ⊎_elim, arith, Option, Some, None}
use Rattle.std.specs.Prelude.{unwrap_or}
use Rattle.heap_words.specs.Cells.{decoded}
use Rattle.heap_words.specs.Trails.{WordList, Memory, word_at}
use Rattle.heap_words.specs.declared.cell.Cell.{Cell}
use Rattle.heap_words.specs.declared.cell.Cell.TheVariants.{Cons, Tuple}
use Rattle.ro_unify.specs.declared.occurrence.Whole.{Whole}
use Rattle.ro_unify.specs.declared.occurrence.Whole.TheVariants as whole
use Rattle.ro_unify.specs.Value.{leads_on}
use Rattle.ro_unify.specs.Occurs.{whole_of, count_of}
use Rattle.ro_unify.specs.Walks.{first_some, seen_at, seen_memory, Node, place, part, count, address, IsPlaceOf, IsPartOf}
use Rattle.ro_unify.specs.Walks.{IsCountOf, Goes}
use Rattle.ro_unify.proofs.Leads.{place_stands, is_pair, is_tuple_at, is_raw}
use Rattle.word_states.specs.Words.{first_of, row}
use Rattle.word_states.specs.Pieces.{rows}
use Rattle.word_states.proofs.Lists.{word_at-append}
use Rattle.word_states.proofs.Pieces.{in_rows}
use Rattle.trial_laws.specs.AtHand.{AtHand, end_of}
use Rattle.trial_laws.proofs.Pieces.{starts_below, none_low}
use Rattle.trial_laws.proofs.Slots.{nil_is}
use Rattle.safe_tries.specs.Safe.{own_words, StayLow, SawOpen}

-- in two memories that have the same numbers of parts a walk goes on alike
pub goes_same : (m m' : Memory) (x : ℕ) (b : Node) → ((t : ℕ) → Goes m x (count t) → count_of (decoded (m' t)) ≡ count_of (decoded (m t)))
    → Goes m' x b → Goes m x b
goes_same m m' x (place q) h r = r
goes_same m m' x (count q) h r = r
goes_same m m' x (part q) h r = go (whole_of (decoded x)) h r
  where
    go : (o : Whole) → ((t : ℕ) → IsCountOf o t → count_of (decoded (m' t)) ≡ count_of (decoded (m t))) → IsPartOf m' o q
        → IsPartOf m o q
    go whole.Atom h j = j
    go (whole.Pair c) h j = j
    go (whole.Tuple c) h j = (j.0, subst (λ (n : ℕ). q ≤ c + n) (h c refl) j.1)

-- from a word of this cell
abbrev pub From : Memory → Option Cell → Node → Type 0
From m o (place b) = IsPlaceOf (leads_on false o) b
From m o (part b) = IsPartOf m (whole_of o) b
From m o (count b) = IsCountOf (whole_of o) b

pub goes_from : (m : Memory) (x : ℕ) (c : Cell) (b : Node) → decoded x ≡ Some c → Goes m x b → From m (Some c) b
goes_from m x c (place b) e r = subst (λ (o : Option Cell). IsPlaceOf (leads_on false o) b) e r
goes_from m x c (part b) e r = subst (λ (o : Option Cell). IsPartOf m (whole_of o) b) e r
goes_from m x c (count b) e r = subst (λ (o : Option Cell). IsCountOf (whole_of o) b) e r

-- a cell from which no walk goes on
pub goes_nowhere : (m : Memory) (x : ℕ) (c : Cell) (b : Node) → decoded x ≡ Some c → leads_on false (Some c) ≡ None
    → whole_of (Some c) ≡ whole.Atom → Goes m x b → ⊥
goes_nowhere m x c (place b) e f g r = subst (λ (o : Option (Bool × ℕ)). IsPlaceOf o b) f (goes_from m x c (place b) e r)
goes_nowhere m x c (part b) e f g r = subst (λ (o : Whole). IsPartOf m o b) g (goes_from m x c (part b) e r)
goes_nowhere m x c (count b) e f g r = subst (λ (o : Whole). IsCountOf o b) g (goes_from m x c (count b) e r)

-- the pieces end behind all their words
pub end_above : (c : ℕ) (qs : List (List ℕ)) → c ≤ end_of c qs
end_above c [] = omega arith
end_above c (x ∷ qs) = let k = end_above (c + length x) qs in omega arith

pub own_in : (ps : List (List ℕ)) (a x : ℕ) → own_words ps a ≡ Some x → a < end_of 4000000000 ps
own_in ps a x e =
    let q = in_rows 4000000000 a x ps e in
    let l = starts_below 4000000000 ps q.0 q.2 q.3 in
    let d = q.4 in let c = q.5 in
    omega arith

pub or_none : (o : Option ℕ) → first_of o None ≡ o
or_none None = refl
or_none (Some x) = refl

first_assoc : (o p q : Option ℕ) → first_of o (first_of p q) ≡ first_of (first_of o p) q
first_assoc None p q = refl
first_assoc (Some x) p q = refl

-- the words with one piece more
pub rows_last : (b : ℕ) (ps : List (List ℕ)) (p : List ℕ) (a : ℕ)
    → word_at (rows b (ps ++ p ∷ [])) a ≡ first_of (word_at (rows b ps) a) (word_at (row (end_of b ps) p) a)
rows_last b [] p a = word_at-append (row b p) [] a ∙ or_none (word_at (row b p) a)
rows_last b (q ∷ ps) p a =
    word_at-append (row b q) (rows (b + length q) (ps ++ p ∷ [])) a
    ∙ (ap (λ (o : Option ℕ). first_of (word_at (row b q) a) o) (rows_last (b + length q) ps p a)
    ∙ (first_assoc (word_at (row b q) a) (word_at (rows (b + length q) ps) a) (word_at (row (end_of (b + length q) ps) p) a)
    ∙ ap (λ (o : Option ℕ). first_of o (word_at (row (end_of (b + length q) ps) p) a))
    (sym (word_at-append (row b q) (rows (b + length q) ps) a))))

-- a word that was seen is a kept one, or one of the try's own
pub seen_kept : (kept : WordList) (ps : List (List ℕ)) (a : ℕ) → a < 4000000000 → seen_at kept (own_words ps) a ≡ word_at kept a
seen_kept kept ps a l = go (word_at kept a)
  where
    go : (o : Option ℕ) → first_some o (own_words ps a) ≡ o
    go None = none_low ps a l
    go (Some x) = refl

-- at an own address nothing was kept
pub none_kept : (kept : WordList) → ((a x : ℕ) → word_at kept a ≡ Some x → a < 4000000000) → (a : ℕ) → 4000000000 ≤ a
    → word_at kept a ≡ None
none_kept kept below a l = go (word_at kept a) refl
  where
    go : (o : Option ℕ) → word_at kept a ≡ o → word_at kept a ≡ None
    go None e = e
    go (Some x) e = absurd (let k = below a x e in omega arith)

pub seen_own : (kept : WordList) (ps : List (List ℕ)) → ((a x : ℕ) → word_at kept a ≡ Some x → a < 4000000000) → (a : ℕ) → 4000000000 ≤ a
    → seen_at kept (own_words ps) a ≡ own_words ps a
seen_own kept ps below a l = ap (λ (o : Option ℕ). first_some o (own_words ps a)) (none_kept kept below a l)

-- all that was seen stands before the end of the pieces
pub seen_near : (kept : WordList) (ps : List (List ℕ)) → ((a x : ℕ) → word_at kept a ≡ Some x → a < 4000000000) → (a x : ℕ)
    → seen_at kept (own_words ps) a ≡ Some x → a < end_of 4000000000 ps
seen_near kept ps below a x e = go (word_at kept a) refl
  where
    go : (o : Option ℕ) → word_at kept a ≡ o → a < end_of 4000000000 ps
    go None i = own_in ps a x (sym (ap (λ (o : Option ℕ). first_some o (own_words ps a)) i) ∙ e)
    go (Some y) i = let k = below a y i in let l = end_above 4000000000 ps in omega arith

-- a kept word leads to the store's addresses
pub kept_low : (kept : WordList) (ps : List (List ℕ)) → StayLow (word_at kept) → (a x : ℕ) (b : Node) → word_at kept a ≡ Some x
    → Goes (seen_memory kept (own_words ps)) x b → address b < 4000000000
kept_low kept ps low a x (place q) e r = go (leads_on false (decoded x)) refl r
  where
    go : (o : Option (Bool × ℕ)) → leads_on false (decoded x) ≡ o → IsPlaceOf o q → q < 4000000000
    go (Some p) f i = let t = place_stands (decoded x) false p.0 p.1 f in low.refers a q x t.cell e t.is (t.refers q (inl i))
    go None f i = absurd i
kept_low kept ps low a x (count q) e r = go (whole_of (decoded x)) refl r
  where
    go : (o : Whole) → whole_of (decoded x) ≡ o → IsCountOf o q → q < 4000000000
    go whole.Atom f i = absurd i
    go (whole.Pair c) f i = absurd i
    go (whole.Tuple c) f i = low.refers a q x (Tuple c) e (is_tuple_at (decoded x) c f) i
kept_low kept ps low a x (part q) e r = go (whole_of (decoded x)) refl r
  where
    tuple : (c : ℕ) → decoded x ≡ Some (Tuple c) → c < q → (o : Option ℕ) → seen_at kept (own_words ps) c ≡ o
        → q ≤ c + count_of (decoded (unwrap_or o 6)) → q < 4000000000
    tuple c f l None g i =
        absurd (let k : count_of (decoded 6) ≡ 0 = ap count_of nil_is in omega arith)
    tuple c f l (Some y) g i =
        let n = is_raw (decoded y) (omega arith) in
        let below : c < 4000000000 = low.refers a c x (Tuple c) e f refl in
        let there : word_at kept c ≡ Some y = sym (seen_kept kept ps c below) ∙ g in
        low.refers_by a q x c y n.0 (Tuple c) e f refl there n.1 (l, omega (arith, i, n.2))

    go : (o : Whole) → whole_of (decoded x) ≡ o → IsPartOf (seen_memory kept (own_words ps)) o q → q < 4000000000
    go whole.Atom f i = absurd i
    go (whole.Pair c) f i =
        low.refers a q x (Cons c) e (is_pair (decoded x) c f)
        (⊎_elim (λ j. inl j) (λ j. inr (let k : q ≡ suc c = omega arith in k)) i)
    go (whole.Tuple c) f i = tuple c (is_tuple_at (decoded x) c f) i.0 (seen_at kept (own_words ps) c) refl i.1

-- a word that was seen is seen with further pieces too
pub opened_on : (kept : WordList) (r r' : AtHand) (a : ℕ) → ((x : ℕ) → seen_at kept (own_words r.pieces) a ≡ Some x
    → seen_at kept (own_words r'.pieces) a ≡ Some x) → SawOpen kept r a → SawOpen kept r' a
opened_on kept r r' a on o = (o.0, o.1, on o.0 o.2, o.3)
