-- One pair of a comparison.
use Rattle.std.proofs.Common.{◌≡◌, ℕ, ◌<◌, Bool, true, false, cond, List, [], ◌∷◌, ◌++◌, Option, Some, None, refl, sym, ap, ◌∙◌, subst}
use Rattle.std.specs.Prelude.{nat_eq, reverse}
use Rattle.heap_words.specs.WordsLaws.{WordsLaws}
use Rattle.heap_words.specs.Trails.{WordList, Memory, KeepsLoads, Says}
use Rattle.ro_unify.specs.declared.look.Look.{Look}
use Rattle.ro_unify.specs.declared.look.Look.TheVariants.{Writable, ReadOnly, Solid}
use Rattle.ro_unify.specs.declared.table.Move.{Move}
use Rattle.ro_unify.specs.declared.table.Move.TheVariants.{Nothing, Order, Bind, Solids}
use Rattle.ro_unify.specs.declared.unification.Unified.TheVariants as unified
use Rattle.ro_unify.specs.Alike.{alike, before, only_if}
use Rattle.ro_unify.specs.Table.{moved}
use Rattle.ro_unify.specs.Unify.{Does, nothing, same, goes, Turned, look_reads}
use Rattle.ro_unify.specs.declared.table.Move.TheVariants as moves
use Rattle.ro_unify.specs.Walks.{Tame, pairs_left}
use Rattle.ro_unify.proofs.Falling.{turn_falls}
use Rattle.ro_unify.proofs.Visiting.{next_on}
use Rattle.guard_tests.specs.declared.equality.Tested.{Tested}
use Rattle.guard_tests.specs.declared.equality.Tested.TheVariants.{Holds, Not, Wait}
use Rattle.guard_tests.specs.Equality.{Comparison, parts, waits, by_parts, compared, Compares, Leaves, WasCompared}
use Rattle.guard_tests.specs.Equality.{Equals, all, on, unlike, stopped}

-- two words that are no places: their parts stand in front, or they differ
pub are_alike : (m : Memory) (l r : Look) (x y : ℕ) (ps ps' : List (ℕ × ℕ)) (b : Bool) → l ≡ Solid x → r ≡ Solid y
    → before (alike m x y) ps ≡ only_if b ps' → b ≡ true → Leaves (compared m l r) ps Holds ps'
are_alike m l r x y ps ps' b i j e t = go (alike m x y) refl
  where
    go : (o : Option (List (ℕ × ℕ))) → alike m x y ≡ o → Leaves (compared m l r) ps Holds ps'
    go None k = let h : None ≡ only_if true ps' = ap (λ o. before o ps) (sym k) ∙ (e ∙ ap (λ c. only_if c ps') t) in cc
    go (Some qs) k =
        let h : Some (qs ++ ps) ≡ only_if true ps' = ap (λ o. before o ps) (sym k) ∙ (e ∙ ap (λ c. only_if c ps') t) in
        let w : qs ++ ps ≡ ps' = cc in (
          qs,
          ap (λ (z : Look). compared m z r) i ∙ (ap (compared m (Solid x)) j ∙ ap by_parts k),
          sym w,
        )

-- under `==` they go on as a unification that binds nothing
unites : (bs : WordList) (m : Memory) (rs : List ℕ) (l r : Look) (qs : List (ℕ × ℕ)) → compared m l r ≡ parts qs
    → Does bs m rs (moved l r) (goes bs qs) rs
unites bs m rs l r qs e = go l r e
  where
    one : (b : Bool) (mv : Move) → cond b (parts []) waits ≡ parts qs → Does bs m rs (cond b Nothing mv) (goes bs qs) rs
    one true mv i =
        subst (λ (us : List (ℕ × ℕ)). Does bs m rs Nothing (goes bs us) rs) (let k : [] ≡ qs = cc in k) nothing
    one false mv i = cc

    parted : (x y : ℕ) (o : Option (List (ℕ × ℕ))) → alike m x y ≡ o → by_parts o ≡ parts qs → Does bs m rs (Solids x y) (goes bs qs) rs
    parted x y None k i = cc
    parted x y (Some us) k i = same x y qs (k ∙ ap (λ (z : List (ℕ × ℕ)). Some z) (let h : us ≡ qs = cc in h))

    go : (l r : Look) → compared m l r ≡ parts qs → Does bs m rs (moved l r) (goes bs qs) rs
    go (Writable p) (Writable q) i = one (nat_eq p q) (Order p q) i
    go (Writable p) (ReadOnly q) i = one (nat_eq p q) (Bind p q) i
    go (Writable p) (Solid y) i = cc
    go (ReadOnly p) (Writable q) i = one (nat_eq p q) (Bind q p) i
    go (ReadOnly p) (ReadOnly q) i = one (nat_eq p q) moves.Wait i
    go (ReadOnly p) (Solid y) i = cc
    go (Solid x) (Writable q) i = cc
    go (Solid x) (ReadOnly q) i = cc
    go (Solid x) (Solid y) i = parted x y (alike m x y) refl i

-- what a pair leaves to do
abbrev pub Follows : WordList → Memory → List ℕ → List (ℕ × ℕ) → Tested → List ℕ → List (ℕ × ℕ) → Type 0
Follows bs m rs ps Holds rs' ps' = (t : Tested) (rs2 : List ℕ) → Equals bs m rs' ps' t rs2 → Equals bs m rs ps t rs2
Follows bs m rs ps Not rs' ps' = Equals bs m rs ps Not rs'
Follows bs m rs ps Wait rs' ps' = Equals bs m rs ps Wait rs'

follows : (bs : WordList) (m : Memory) (rs : List ℕ) (p : ℕ × ℕ) (ps : List (ℕ × ℕ)) (c : Comparison) (t : Tested) (rs' : List ℕ)
    (ps' : List (ℕ × ℕ)) → Compares bs m rs p c rs' → Leaves c ps t ps' → Follows bs m rs (p ∷ ps) t rs' ps'
follows bs m rs p ps c Holds rs' ps' k l =
    λ t rs2 e. on rs p ps l.0 rs' t rs2 (subst (λ (d : Comparison). Compares bs m rs p d rs') l.1 k)
    (subst (λ (qs : List (ℕ × ℕ)). Equals bs m rs' qs t rs2) l.2 e)
follows bs m rs p ps c Not rs' ps' k l = unlike rs p ps rs' (subst (λ (d : Comparison). Compares bs m rs p d rs') l k)
follows bs m rs p ps c Wait rs' ps' k l = stopped rs p ps rs' (subst (λ (d : Comparison). Compares bs m rs p d rs') l k)

-- the pair on top of the work list was compared
pub on_top : (bs bs2 : WordList) (m : Memory) (rs : List ℕ) (p : ℕ × ℕ) (old new : List (ℕ × ℕ)) (rs' : List ℕ) (ps' : List (ℕ × ℕ))
    (t e : Tested) → bs2 ≡ bs → old ≡ new ++ p ∷ [] → t ≡ e → WasCompared bs2 m rs p (reverse new) t rs' ps'
    → Follows bs m rs (reverse old) e rs' ps'
on_top bs bs2 m rs p old new rs' ps' t e unchanged i j c =
    subst (λ (qs : List (ℕ × ℕ)). Follows bs m rs qs e rs' ps') (sym (next_on old new p i))
    (subst (λ (z : Tested). Follows bs m rs (p ∷ reverse new) z rs' ps') j
    (go (subst (λ (cs : WordList). WasCompared cs m rs p (reverse new) t rs' ps') unchanged c)))
  where
    go : WasCompared bs m rs p (reverse new) t rs' ps' → Follows bs m rs (p ∷ reverse new) t rs' ps'
    go w = follows bs m rs p (reverse new) w.comparison t rs' ps' w.compares w.leaves

pub none_left : (bs : WordList) (m : Memory) (rs : List ℕ) (ps : List (ℕ × ℕ)) → ps ≡ [] → Equals bs m rs (reverse ps) Holds rs
none_left bs m rs ps e = subst (λ (qs : List (ℕ × ℕ)). Equals bs m rs (reverse qs) Holds rs) (sym e) (all rs)

module _ {S : Type 0} {addresses : S → ℕ} {sound : S → Type 0} {knows : S → ℕ → Type 0} {had : S → ℕ → ℕ → Type 0} {leads : S → ℕ → Type 0}
    {own shown : S → ℕ → Option ℕ} {later : S → S → Type 0} {gave : S → S → ℕ → ℕ → Type 0}
    (laws : WordsLaws {S = S} addresses sound knows had leads own shown later gave) where
  -- each pair lowers the measure
  pub pair_falls : {kept binds kept' binds' : WordList} {v w : S} (p : ℕ × ℕ) (ps ps' : List (ℕ × ℕ)) (rs rs' : List ℕ) (t : Tested)
      → t ≡ Holds → KeepsLoads sound had leads later gave kept binds v kept' binds' w → binds' ≡ binds
      → Tame binds kept (own v) (addresses v) → Says (own w) kept' (λ m. WasCompared binds m rs p ps t rs' ps')
      → pairs_left (addresses w) binds' kept' (own w) ps' < pairs_left (addresses v) binds kept (own v) (p ∷ ps)
  pair_falls {binds = binds} {binds' = binds'} p ps ps' rs rs' t e l unchanged tame says =
      turn_falls laws p ps ps' rs rs' unified.Done refl l tame (λ m i. turns m (says m i))
    where
      turns : (m : Memory) → WasCompared binds m rs p ps t rs' ps' → Turned m binds rs p ps binds' rs' ps' unified.Done
      turns m w = go w.compares (subst (λ (z : Tested). Leaves w.comparison ps z ps') e w.leaves)
        where
          go : (c : Compares binds m rs p w.comparison rs') → Leaves w.comparison ps Holds ps'
              → Turned m binds rs p ps binds' rs' ps' unified.Done
          go c l = (
            l.0,
            record {
              left = c.left;
              right = c.right;
              left_is = c.left_is;
              right_is = c.right_is;
              does = subst
                  (λ (us : List ℕ). Does binds m ((rs ++ look_reads c.left) ++ look_reads c.right) (moved c.left c.right)
                  (goes binds' l.0) us)
                  (sym c.read)
                  (subst (λ (cs : WordList). Does binds m ((rs ++ look_reads c.left) ++ look_reads c.right) (moved c.left c.right)
                  (goes cs l.0) ((rs ++ look_reads c.left) ++ look_reads c.right)) (sym unchanged)
                  (unites binds m ((rs ++ look_reads c.left) ++ look_reads c.right) c.left c.right l.0 (c.come ∙ l.1)));
            },
            l.2,
          )
