-- Each turn of a unification lowers the measure.
use Rattle.std.proofs.Common.{◌≡◌, ℕ, zero, suc, ◌+◌, ◌-◌, ◌*◌, ◌<◌, ◌≤◌, Bool, true, false, cond, List, [], ◌∷◌, ◌++◌}
use Rattle.std.proofs.Common.{length, Option, Some, None, refl, sym, ap, ◌∙◌, subst, arith, length-append}
use Rattle.std.specs.Prelude.{nat_eq}
use Rattle.heap_words.specs.Cells.{decoded, encoded}
use Rattle.heap_words.specs.declared.cell.Cell.TheVariants as cell
use Rattle.heap_words.specs.WordsLaws.{WordsLaws}
use Rattle.heap_words.specs.Trails.{WordList, Memory, word_at, KeepsLoads, Says}
use Rattle.heap_words.proofs.Keeps.{still_there, new_there}
use Rattle.ro_unify.specs.declared.look.Look.{Look}
use Rattle.ro_unify.specs.declared.look.Look.TheVariants.{Writable, ReadOnly, Solid}
use Rattle.ro_unify.specs.declared.table.Move.{Move}
use Rattle.ro_unify.specs.declared.table.Move.TheVariants.{Nothing, Wait, Order, Bind, Check, Solids}
use Rattle.ro_unify.specs.declared.unification.Unified.{Unified}
use Rattle.ro_unify.specs.declared.unification.Unified.TheVariants as unified
use Rattle.ro_unify.specs.declared.occurrence.Whole.{Whole}
use Rattle.ro_unify.specs.declared.occurrence.Whole.TheVariants.{Atom, Pair, Tuple}
use Rattle.ro_unify.specs.Value.{Values, IsOpen}
use Rattle.ro_unify.specs.Occurs.{whole_of, count_of}
use Rattle.ro_unify.specs.Alike.{alike, alike_as, pairs_after, same_atoms}
use Rattle.ro_unify.specs.Table.{moved, older_of}
use Rattle.ro_unify.specs.Unify.{Turn, goes, Does, nothing, wait, order, bind, found, absent, same, other, Treats, Turned, ordered}
use Rattle.ro_unify.specs.Walks.{seen_memory, Tame, kids, total, size, most_by, enough, weight, lacks, most, pair_weight, pairs_left}
use Rattle.ro_unify.proofs.Chains.{values_open, open_seen}
use Rattle.ro_unify.proofs.Measures.{weight_is, solid_less, alike_weigh, size_most, most_least}
use Rattle.ro_unify.proofs.Measures.{within_most, total_append, total_least, count_most}
use Rattle.ro_unify.proofs.Seeing.{lacks_less, lacks_strict, nothing_new, agrees, seen_had}
use Rattle.ro_unify.proofs.Sizes.{step_falls}

-- what a turn did: it bound a place that was open, or it left the pairs of parts, which together weigh less
pub data Did (bs : WordList) (m : Memory) (p : ℕ × ℕ) (bs' : WordList) (qs : List (ℕ × ℕ)) : Type 0 where
  binding : (a x : ℕ) → IsOpen bs m a → bs' ≡ bs ++ (a, x) ∷ [] → length qs ≤ 65 → Did bs m p bs' qs
  parting : bs' ≡ bs → length qs ≤ 65
      → ((f : ℕ → ℕ) → ((x : ℕ) → f x ≡ suc (total f (kids bs m x))) → total (λ (q : ℕ × ℕ). f q.0 + f q.1) qs < f p.0 + f p.1)
      → Did bs m p bs' qs

length_pairs : (m : Memory) (a b n : ℕ) → length (pairs_after m a b n) ≡ n
length_pairs m a b zero = refl
length_pairs m a b (suc n) = ap suc (length_pairs m (a + 1) (b + 1) n)

alike_few : (m : Memory) (x y : ℕ) (v w : Whole) (qs : List (ℕ × ℕ)) → alike_as m x y v w ≡ Some qs → length qs ≤ 65
alike_few m x y Atom Atom qs e = go (same_atoms m x y) e
  where
    go : (c : Bool) → cond c (Some []) None ≡ Some qs → length qs ≤ 65
    go true h = subst (λ (rs : List (ℕ × ℕ)). length rs ≤ 65) (let i : [] ≡ qs = cc in i) (omega arith)
    go false h = cc
alike_few m x y Atom (Pair b) qs e = cc
alike_few m x y Atom (Tuple b) qs e = cc
alike_few m x y (Pair a) Atom qs e = cc
alike_few m x y (Pair a) (Pair b) qs e =
    subst (λ (rs : List (ℕ × ℕ)). length rs ≤ 65) (let i : (m a, m b) ∷ (m (a + 1), m (b + 1)) ∷ [] ≡ qs = cc in i) (omega arith)
alike_few m x y (Pair a) (Tuple b) qs e = cc
alike_few m x y (Tuple a) Atom qs e = cc
alike_few m x y (Tuple a) (Pair b) qs e = cc
alike_few m x y (Tuple a) (Tuple b) qs e = go (nat_eq (m a) (m b)) e
  where
    go : (c : Bool) → cond c (Some (pairs_after m a b (count_of (decoded (m a))))) None ≡ Some qs → length qs ≤ 65
    go true h = subst (λ (rs : List (ℕ × ℕ)). length rs ≤ 65) (let j : pairs_after m a b (count_of (decoded (m a))) ≡ qs = cc in j)
        (omega (arith, length_pairs m a b (count_of (decoded (m a))), count_most (decoded (m a))))
    go false h = cc

module _ (bs : WordList) (m : Memory) (p : ℕ × ℕ) (bs' : WordList) (qs : List (ℕ × ℕ)) where
  nothing_did : [] ≡ qs → bs ≡ bs' → Did bs m p bs' qs
  nothing_did e k =
      parting (sym k) (subst (λ (rs : List (ℕ × ℕ)). length rs ≤ 65) e (omega arith))
      (λ f is. subst (λ (rs : List (ℕ × ℕ)). total (λ (q : ℕ × ℕ). f q.0 + f q.1) rs < f p.0 + f p.1) e (omega (arith, is p.0)))

  bound_did : (a x : ℕ) → IsOpen bs m a → [] ≡ qs → bs ++ (a, x) ∷ [] ≡ bs' → Did bs m p bs' qs
  bound_did a x o e k = binding a x o (sym k) (subst (λ (rs : List (ℕ × ℕ)). length rs ≤ 65) e (omega arith))

  ordered_did : (a b : ℕ) (c : Bool) → IsOpen bs m a → IsOpen bs m b → [] ≡ qs → bs ++ ordered a b c ∷ [] ≡ bs' → Did bs m p bs' qs
  ordered_did a b true o i e k = bound_did b _ i e k
  ordered_did a b false o i e k = bound_did a _ o e k

  solids_did : (x y : ℕ) → Values bs m false p.0 (Solid x) → Values bs m false p.1 (Solid y) → alike m x y ≡ Some qs → bs ≡ bs'
      → Did bs m p bs' qs
  solids_did x y v w e k = parting (sym k) (alike_few m x y (whole_of (decoded x)) (whole_of (decoded y)) qs e)
      (λ f is. omega (
        arith,
        alike_weigh bs m f is x y (whole_of (decoded x)) (whole_of (decoded y)) qs e,
        solid_less bs m f is false p.0
            (Solid x) x v refl,
        solid_less bs m f is false p.1 (Solid y) y w refl,
      ))

  -- what is known of the places and words of a move
  abbrev MoveOpen : Move → Type 0
  MoveOpen Nothing = Unit {0}
  MoveOpen Wait = Unit {0}
  MoveOpen (Order a b) = IsOpen bs m a × IsOpen bs m b
  MoveOpen (Bind a b) = IsOpen bs m a
  MoveOpen (Check a x) = IsOpen bs m a
  MoveOpen (Solids x y) = Values bs m false p.0 (Solid x) × Values bs m false p.1 (Solid y)

  open_if : (c : Bool) (mv : Move) → MoveOpen mv → MoveOpen (cond c Nothing mv)
  open_if true mv o = tt
  open_if false mv o = o

  moved_open : (l r : Look) → Values bs m false p.0 l → Values bs m false p.1 r → MoveOpen (moved l r)
  moved_open (Writable a) (Writable b) v w =
      open_if (nat_eq a b) (Order a b) (values_open bs m false p.0 (Writable a) a v refl, values_open bs m false p.1 (Writable b) b w refl)
  moved_open (Writable a) (ReadOnly b) v w = open_if (nat_eq a b) (Bind a b) (values_open bs m false p.0 (Writable a) a v refl)
  moved_open (Writable a) (Solid x) v w = values_open bs m false p.0 (Writable a) a v refl
  moved_open (ReadOnly a) (Writable b) v w = open_if (nat_eq a b) (Bind b a) (values_open bs m false p.1 (Writable b) b w refl)
  moved_open (ReadOnly a) (ReadOnly b) v w = open_if (nat_eq a b) Wait tt
  moved_open (ReadOnly a) (Solid x) v w = tt
  moved_open (Solid x) (Writable b) v w = values_open bs m false p.1 (Writable b) b w refl
  moved_open (Solid x) (ReadOnly b) v w = tt
  moved_open (Solid x) (Solid y) v w = (v, w)

  does_did : (mv : Move) (rs rs' : List ℕ) (t : Turn) → MoveOpen mv → Does bs m rs mv t rs' → t ≡ goes bs' qs → Did bs m p bs' qs
  does_did _ rs _ _ o nothing e = nothing_did (let i : [] ≡ qs = cc in i) (let i : bs ≡ bs' = cc in i)
  does_did _ rs _ _ o wait e = cc
  does_did _ rs _ _ o (order a b) e =
      ordered_did a b (older_of a b (m (a - 1)) (m (b - 1))) o.0 o.1 (let i : [] ≡ qs = cc in i)
      (let i : bs ++ ordered a b (older_of a b (m (a - 1)) (m (b - 1))) ∷ [] ≡ bs' = cc in i)
  does_did _ rs _ _ o (bind a b) e =
      bound_did a (encoded (cell.RoRef b)) o (let i : [] ≡ qs = cc in i) (let i : bs ++ (a, encoded (cell.RoRef b)) ∷ [] ≡ bs' = cc in i)
  does_did _ rs _ _ o (found a x rs' h) e = cc
  does_did _ rs _ _ o (absent a x rs' h) e = bound_did a x o (let i : [] ≡ qs = cc in i) (let i : bs ++ (a, x) ∷ [] ≡ bs' = cc in i)
  does_did _ rs _ _ o (same x y ps h) e =
      solids_did x y o.0 o.1 (h ∙ ap (λ (z : List (ℕ × ℕ)). Some z) (let i : ps ≡ qs = cc in i)) (let i : bs ≡ bs' = cc in i)
  does_did _ rs _ _ o (other x y h) e = cc

  pub treated : (rs rs' : List ℕ) → Treats bs m rs p (goes bs' qs) rs' → Did bs m p bs' qs
  treated rs rs' t = does_did (moved t.left t.right) _ rs' (goes bs' qs) (moved_open t.left t.right t.left_is t.right_is) t.does refl

module _ {S : Type 0} {addresses : S → ℕ} {sound : S → Type 0} {knows : S → ℕ → Type 0} {had : S → ℕ → ℕ → Type 0} {leads : S → ℕ → Type 0}
    {own shown : S → ℕ → Option ℕ} {later : S → S → Type 0} {gave : S → S → ℕ → ℕ → Type 0}
    (laws : WordsLaws {S = S} addresses sound knows had leads own shown later gave) where
  -- A pair in front was turned, and the unification goes on.
  pub turn_falls : {kept binds kept' binds' : WordList} {v w : S} (p : ℕ × ℕ) (ps ps' : List (ℕ × ℕ)) (rs rs' : List ℕ) (d : Unified)
      → d ≡ unified.Done → KeepsLoads sound had leads later gave kept binds v kept' binds' w → Tame binds kept (own v) (addresses v)
      → Says (own w) kept' (λ m. Turned m binds rs p ps binds' rs' ps' d)
      → pairs_left (addresses w) binds' kept' (own w) ps' < pairs_left (addresses v) binds kept (own v) (p ∷ ps)
  turn_falls {kept = kept} {binds = binds} {kept' = kept'} {binds' = binds'} {v = v} {w = w} p ps ps' rs rs' d done l t says =
      go turn (treated binds (seen_memory kept' (own w)) p binds' turn.0 rs rs' turn.1)
    where
      turn : (qs : List (ℕ × ℕ)) × Treats binds (seen_memory kept' (own w)) rs p (goes binds' qs) rs' × (ps' ≡ qs ++ ps)
      turn = subst (λ (e : Unified). Turned (seen_memory kept' (own w)) binds rs p ps binds' rs' ps' e) done
          (says (seen_memory kept' (own w)) (agrees laws 6 l.holds))

      n : ℕ
      n = addresses v

      size_same : addresses w ≡ addresses v
      size_same = laws.fixed v w l.went.between

      b : ℕ
      b = most_by (enough n)

      f : ℕ → ℕ
      f = weight n binds kept (own v)

      both : (x : ℕ × ℕ) → 0 < pair_weight n binds kept (own v) x
      both x = omega arith

      from : (ℕ × ℕ) → ℕ
      from = pair_weight n binds kept (own v)

      short_list : (qs : List (ℕ × ℕ)) → ps' ≡ qs ++ ps → length qs ≤ 65 → length ps' ≤ total from (p ∷ ps) + 66
      short_list qs e few = omega (arith, ap length e, length-append qs ps, few, total_least from both ps)

      room : length ps' ≤ total from (p ∷ ps) + 66
          → total (pair_weight n binds' kept' (own w)) ps' ≤ most n * (total from (p ∷ ps) + most n)
      room few = within_most b (total from (p ∷ ps)) (pair_weight n binds' kept' (own w)) ps' (most_least (enough n))
          (λ x. omega (
            arith,
            size_most (enough n) binds' (seen_memory kept' (own w)) x.0,
            size_most (enough n) binds'
                (seen_memory kept' (own w)) x.1,
          )) few

      kept_less : lacks kept' n ≤ lacks kept n
      kept_less = lacks_less kept kept' n l.went.grows

      final : pairs_left n binds' kept' (own w) ps' < pairs_left n binds kept (own v) (p ∷ ps)
          → pairs_left (addresses w) binds' kept' (own w) ps' < pairs_left (addresses v) binds kept (own v) (p ∷ ps)
      final h = subst (λ (k : ℕ). pairs_left k binds' kept' (own w) ps' < pairs_left (addresses v) binds kept (own v) (p ∷ ps))
          (sym size_same) h

      grown : (a x : ℕ) → binds' ≡ binds ++ (a, x) ∷ [] → (c y : ℕ) → word_at binds c ≡ Some y → word_at binds' c ≡ Some y
      grown a x e c y i = subst (λ (bs : WordList). word_at bs c ≡ Some y) (sym e) (still_there binds a x c y i)

      go : (u : (qs : List (ℕ × ℕ)) × Treats binds (seen_memory kept' (own w)) rs p (goes binds' qs) rs' × (ps' ≡ qs ++ ps))
          → Did binds (seen_memory kept' (own w)) p binds' u.0
          → pairs_left (addresses w) binds' kept' (own w) ps' < pairs_left (addresses v) binds kept (own v) (p ∷ ps)
      go u (binding a x o e few) =
          let here = open_seen kept' (own w) a o.1 in
          let near : a < n =
          omega (
            arith,
            size_same,
            laws.in_range w a l.sound
                (laws.had_known w a here.word l.sound (seen_had laws a here.word l.sound l.holds here.there)),
          ) in
          let bound : word_at binds' a ≡ Some x = subst (λ (bs : WordList). word_at bs a ≡ Some x) (sym e) (new_there binds a x o.0) in
          let less : lacks binds' n < lacks binds n = lacks_strict binds binds' n a x (grown a x e) near o.0 bound in
          final (step_falls (most n) (lacks kept n + lacks binds n) (lacks kept' n + lacks binds' n) (total from (p ∷ ps))
          (total (pair_weight n binds' kept' (own w)) ps') (omega (arith, most_least (enough n)))
          (omega (arith, less, kept_less)) (λ i. absurd (omega (arith, less, kept_less, i))) (room (short_list u.0 u.2 few)))
      go u (parting e few light) =
          final (step_falls (most n) (lacks kept n + lacks binds n) (lacks kept' n + lacks binds' n) (total from (p ∷ ps))
          (total (pair_weight n binds' kept' (own w)) ps') (omega (arith, most_least (enough n)))
          (omega (arith, kept_less, ap (λ (bs : WordList). lacks bs n) e))
          (λ i.
          let k : lacks kept' n ≡ lacks kept n = omega (arith, i, kept_less, ap (λ (bs : WordList). lacks bs n) e) in
          let m : seen_memory kept' (own w) ≡ seen_memory kept (own v) =
          nothing_new laws l (subst (λ (z : ℕ). lacks kept' z ≡ lacks kept z) (sym size_same) k) in
          let is : (x : ℕ) → f x ≡ suc (total f (kids binds (seen_memory kept' (own w)) x)) =
          λ x. subst (λ (z : Memory). f x ≡ suc (total f (kids binds z x))) (sym m) (weight_is binds kept (own v) n t x) in
          let h : total from u.0 < from p = light f is in
          let g : total (pair_weight n binds' kept' (own w)) ps' ≡ total from ps' =
          ap (λ (bs : WordList). total
          (λ (q : ℕ × ℕ). size (enough n) bs (seen_memory kept' (own w)) q.0 + size (enough n) bs
          (seen_memory kept' (own w)) q.1) ps') e
          ∙ ap (λ (z : Memory). total (λ (q : ℕ × ℕ). size (enough n) binds z q.0 + size (enough n) binds z q.1) ps') m in
          omega (arith, g, ap (total from) u.2, total_append from u.0 ps, h))
          (room (short_list u.0 u.2 few)))
