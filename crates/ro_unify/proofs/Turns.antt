-- One pair of a unification.
use Rattle.std.proofs.Common.{◌≡◌, ℕ, ◌-◌, Bool, true, false, cond, List, [], ◌∷◌, ◌++◌}
use Rattle.std.proofs.Common.{Option, Some, None, refl, sym, ap, ◌∙◌, subst, arith}
use Rattle.std.specs.Prelude.{nat_eq, reverse}
use Rattle.heap_words.specs.WordsLaws.{WordsLaws}
use Rattle.heap_words.specs.Trails.{WordList, Memory, KeepsLoads, Says}
use Rattle.ro_unify.specs.Walks.{seen_memory}
use Rattle.ro_unify.proofs.Seeing.{agrees}
use Rattle.ro_unify.specs.declared.look.Look.{Look}
use Rattle.ro_unify.specs.declared.look.Look.TheVariants.{Writable, ReadOnly, Solid}
use Rattle.ro_unify.specs.declared.table.Move.{Move}
use Rattle.ro_unify.specs.declared.table.Move.TheVariants.{Nothing, Wait, Order, Bind, Check, Solids}
use Rattle.ro_unify.specs.declared.unification.Unified.{Unified}
use Rattle.ro_unify.specs.declared.unification.Unified.TheVariants as unified
use Rattle.ro_unify.specs.Value.{Values, look_word}
use Rattle.ro_unify.specs.Occurs.{Occurs, found_as}
use Rattle.ro_unify.specs.Table.{moved, older_of}
use Rattle.ro_unify.specs.Alike.{alike, before, only_if}
use Rattle.ro_unify.specs.Unify.{Does, order, bind, ordered, found, absent, same, other, goes, clashes, binding, Acts, Turned, Ready}
use Rattle.ro_unify.specs.Unify.{IsOpenLook, Unifies, on, clashed, stopped, Ended, clash, stop, look_reads, ending, at_end}
use Rattle.heap_words.specs.Cells.{encoded}
use Rattle.heap_words.specs.declared.cell.Cell.TheVariants as cell
use Rattle.std.proofs.lemmas.Bool.Decides.{nat_tests}
use Rattle.ro_unify.proofs.Stacks.{stack-push}
use Rattle.ro_unify.proofs.Chains.{values_open}

pub is_found : (bs : WordList) (m : Memory) (rs : List ℕ) (p x : ℕ) (rs' : List ℕ) (b : Bool) → b ≡ true
    → Occurs bs m p (x ∷ []) rs (found_as b rs') → Does bs m rs (Check p x) clashes rs'
is_found bs m rs p x rs' true e o = found p x rs' o
is_found bs m rs p x rs' false e o = cc

pub is_absent : (bs : WordList) (m : Memory) (rs : List ℕ) (p x : ℕ) (rs' : List ℕ) (b : Bool) (bs' : WordList) (rs'' : List ℕ) → b ≡ false
    → Occurs bs m p (x ∷ []) rs (found_as b rs') → bs' ≡ bs ++ binding p x ∷ [] → rs'' ≡ rs' → Does bs m rs (Check p x) (goes bs' []) rs''
is_absent bs m rs p x rs' true bs' rs'' e o f k = cc
is_absent bs m rs p x rs' false bs' rs'' e o f k =
    subst (λ (cs : WordList). Does bs m rs (Check p x) (goes cs []) rs'') (sym f)
    (subst (λ (qs : List ℕ). Does bs m rs (Check p x) (goes (bs ++ binding p x ∷ []) []) qs) (sym k) (absent p x rs' o))

pub is_ordered : (bs : WordList) (m : Memory) (rs : List ℕ) (p q : ℕ) (bs' : WordList) (rs' : List ℕ)
    → bs' ≡ bs ++ ordered p q (older_of p q (m (p - 1)) (m (q - 1))) ∷ [] → rs' ≡ rs → Does bs m rs (Order p q) (goes bs' []) rs'
is_ordered bs m rs p q bs' rs' e k =
    subst (λ (cs : WordList). Does bs m rs (Order p q) (goes cs []) rs') (sym e)
    (subst (λ (qs : List ℕ). Does bs m rs (Order p q) (goes (bs ++ ordered p q (older_of p q (m (p - 1)) (m (q - 1))) ∷ []) []) qs)
    (sym k) (order p q))

pub is_bound : (bs : WordList) (m : Memory) (rs : List ℕ) (p q : ℕ) (bs' : WordList) (rs' : List ℕ)
    → bs' ≡ bs ++ binding p (encoded (cell.RoRef q)) ∷ [] → rs' ≡ rs → Does bs m rs (Bind p q) (goes bs' []) rs'
is_bound bs m rs p q bs' rs' e k =
    subst (λ (cs : WordList). Does bs m rs (Bind p q) (goes cs []) rs') (sym e)
    (subst (λ (qs : List ℕ). Does bs m rs (Bind p q) (goes (bs ++ binding p (encoded (cell.RoRef q)) ∷ []) []) qs) (sym k) (bind p q))

-- where the words are alike, their parts stand in front
pub are_alike : (bs : WordList) (m : Memory) (rs : List ℕ) (x y : ℕ) (ps ps' : List (ℕ × ℕ)) (b : Bool) (bs' : WordList) (rs' : List ℕ)
    → before (alike m x y) ps ≡ only_if b ps' → bs' ≡ bs → rs' ≡ rs → b ≡ true → Acts m bs rs (Solids x y) ps bs' rs' ps' unified.Done
are_alike bs m rs x y ps ps' b bs' rs' e k l t = go (alike m x y) refl
  where
    go : (o : Option (List (ℕ × ℕ))) → alike m x y ≡ o → Acts m bs rs (Solids x y) ps bs' rs' ps' unified.Done
    go None i = let h : None ≡ only_if true ps' = ap (λ o. before o ps) (sym i) ∙ (e ∙ ap (λ c. only_if c ps') t) in cc
    go (Some qs) i =
        let h : Some (qs ++ ps) ≡ only_if true ps' = ap (λ o. before o ps) (sym i) ∙ (e ∙ ap (λ c. only_if c ps') t) in
        let w : qs ++ ps ≡ ps' = cc in (
          qs,
          subst (λ (cs : WordList). Does bs m rs (Solids x y) (goes cs qs) rs') (sym k)
              (subst (λ (ss : List ℕ). Does bs m rs (Solids x y) (goes bs qs) ss) (sym l) (same x y qs i)),
          sym w,
        )

pub are_other : (bs : WordList) (m : Memory) (rs : List ℕ) (x y : ℕ) (ps ps' : List (ℕ × ℕ)) (b : Bool) (rs' : List ℕ)
    → before (alike m x y) ps ≡ only_if b ps' → rs' ≡ rs → b ≡ false → Does bs m rs (Solids x y) clashes rs'
are_other bs m rs x y ps ps' b rs' e l t = go (alike m x y) refl
  where
    go : (o : Option (List (ℕ × ℕ))) → alike m x y ≡ o → Does bs m rs (Solids x y) clashes rs'
    go None i = subst (λ (ss : List ℕ). Does bs m rs (Solids x y) clashes ss) (sym l) (other x y i)
    go (Some qs) i = let h : Some (qs ++ ps) ≡ only_if false ps' = ap (λ o. before o ps) (sym i) ∙ (e ∙ ap (λ c. only_if c ps') t) in cc

ready_if : (leads : ℕ → Type 0) (bs : WordList) (m : Memory) (b : Bool) (mv : Move) → (b ≡ false → Ready leads bs m mv)
    → Ready leads bs m (cond b Nothing mv)
ready_if leads bs m true mv r = tt
ready_if leads bs m false mv r = r refl

pub differ : (p q : ℕ) → nat_eq p q ≡ false → nat_eq q p ≡ false
differ p q e = grind (arith, nat_tests)

-- two values make their move ready
pub are_ready : (leads : ℕ → Type 0) (bs : WordList) (m : Memory) (l r : Look) → leads (look_word l) → leads (look_word r)
    → IsOpenLook bs m l → IsOpenLook bs m r → Ready leads bs m (moved l r)
are_ready leads bs m (Writable p) (Writable q) a b f h = ready_if leads bs m (nat_eq p q) (Order p q) (λ e. (a, b, f, h, e))
are_ready leads bs m (Writable p) (ReadOnly q) a b f h = ready_if leads bs m (nat_eq p q) (Bind p q) (λ e. (b, f, h, e))
are_ready leads bs m (Writable p) (Solid x) a b f h = (b, f)
are_ready leads bs m (ReadOnly p) (Writable q) a b f h = ready_if leads bs m (nat_eq p q) (Bind q p) (λ e. (a, h, f, differ p q e))
are_ready leads bs m (ReadOnly p) (ReadOnly q) a b f h = ready_if leads bs m (nat_eq p q) Wait (λ e. tt)
are_ready leads bs m (ReadOnly p) (Solid x) a b f h = tt
are_ready leads bs m (Solid x) (Writable q) a b f h = (a, h)
are_ready leads bs m (Solid x) (ReadOnly q) a b f h = tt
are_ready leads bs m (Solid x) (Solid y) a b f h = (a, b)

pub open_look : (bs : WordList) (m : Memory) (w : ℕ) (l : Look) → Values bs m false w l → IsOpenLook bs m l
open_look bs m w (Writable a) v = values_open bs m false w (Writable a) a v refl
open_look bs m w (ReadOnly a) v = values_open bs m false w (ReadOnly a) a v refl
open_look bs m w (Solid x) v = tt

-- the pair in front, from its values and what was done for its move
turned : (m : Memory) (bs : WordList) (rs : List ℕ) (p : ℕ × ℕ) (ps : List (ℕ × ℕ)) (l r : Look) (bs' : WordList) (rs' : List ℕ)
    (ps' : List (ℕ × ℕ)) (d : Unified) → Values bs m false p.0 l → Values bs m false p.1 r
    → Acts m bs ((rs ++ look_reads l) ++ look_reads r) (moved l r) ps bs' rs' ps' d → Turned m bs rs p ps bs' rs' ps' d
turned m bs rs p ps l r bs' rs' ps' unified.Done v w a = (a.0, record { left = l; right = r; left_is = v; right_is = w; does = a.1 }, a.2)
turned m bs rs p ps l r bs' rs' ps' unified.Clash v w a = record { left = l; right = r; left_is = v; right_is = w; does = a }
turned m bs rs p ps l r bs' rs' ps' unified.Wait v w a = record { left = l; right = r; left_is = v; right_is = w; does = a }

pub turned_as : (m : Memory) (bs : WordList) (rs : List ℕ) (p : ℕ × ℕ) (ps : List (ℕ × ℕ)) (l r : Look) (bs' : WordList) (rs' : List ℕ)
    (ps' : List (ℕ × ℕ)) (d : Unified) (bs2 : WordList) (rs2 : List ℕ) (mv : Move) → bs2 ≡ bs → rs2 ≡ (rs ++ look_reads l) ++ look_reads r
    → mv ≡ moved l r → Values bs m false p.0 l → Values bs m false p.1 r → Acts m bs2 rs2 mv ps bs' rs' ps' d
    → Turned m bs rs p ps bs' rs' ps' d
turned_as m bs rs p ps l r bs' rs' ps' d bs2 rs2 mv e f k v w a =
    turned m bs rs p ps l r bs' rs' ps' d v w
    (subst (λ (cs : WordList). Acts m cs ((rs ++ look_reads l) ++ look_reads r) (moved l r) ps bs' rs' ps' d) e
    (subst (λ (ss : List ℕ). Acts m bs2 ss (moved l r) ps bs' rs' ps' d) f
    (subst (λ (z : Move). Acts m bs2 rs2 z ps bs' rs' ps' d) k a)))

-- what a turn leaves to do
abbrev pub Follows : Memory → WordList → List ℕ → List (ℕ × ℕ) → WordList → List ℕ → List (ℕ × ℕ) → Unified → Type 0
Follows m bs rs ps bs' rs' ps' unified.Done = (e : Ended) → Unifies m bs' rs' ps' e → Unifies m bs rs ps e
Follows m bs rs ps bs' rs' ps' unified.Clash = Unifies m bs rs ps (clash rs')
Follows m bs rs ps bs' rs' ps' unified.Wait = Unifies m bs rs ps (stop rs')

follows : (m : Memory) (bs : WordList) (rs : List ℕ) (p : ℕ × ℕ) (ps : List (ℕ × ℕ)) (bs' : WordList) (rs' : List ℕ) (ps' : List (ℕ × ℕ))
    (d : Unified) → Turned m bs rs p ps bs' rs' ps' d → Follows m bs rs (p ∷ ps) bs' rs' ps' d
follows m bs rs p ps bs' rs' ps' unified.Done t =
    λ e u. on bs rs p ps bs' t.0 rs' e t.1 (subst (λ (qs : List (ℕ × ℕ)). Unifies m bs' rs' qs e) t.2 u)
follows m bs rs p ps bs' rs' ps' unified.Clash t = clashed bs rs p ps rs' t
follows m bs rs p ps bs' rs' ps' unified.Wait t = stopped bs rs p ps rs' t

-- the pair on top of the work list was turned
pub on_top : (m : Memory) (bs : WordList) (rs : List ℕ) (p : ℕ × ℕ) (old new : List (ℕ × ℕ)) (bs' : WordList) (rs' : List ℕ)
    (ps' : List (ℕ × ℕ)) (d e : Unified) → old ≡ new ++ p ∷ [] → d ≡ e → Turned m bs rs p (reverse new) bs' rs' ps' d
    → Follows m bs rs (reverse old) bs' rs' ps' e
on_top m bs rs p old new bs' rs' ps' d e i j t =
    subst (λ (qs : List (ℕ × ℕ)). Follows m bs rs qs bs' rs' ps' e) (sym (ap reverse i ∙ stack-push new p))
    (subst (λ (z : Unified). Follows m bs rs (p ∷ reverse new) bs' rs' ps' z) j (follows m bs rs p (reverse new) bs' rs' ps' d t))

pub nothing_left : (m : Memory) (bs : WordList) (rs : List ℕ) (ps : List (ℕ × ℕ)) → ps ≡ []
    → Unifies m bs rs (reverse ps) (ending unified.Done bs rs)
nothing_left m bs rs ps e = subst (λ (qs : List (ℕ × ℕ)). Unifies m bs rs (reverse qs) (ending unified.Done bs rs)) (sym e) (at_end bs rs)

module _ {S : Type 0} {addresses : S → ℕ} {sound : S → Type 0} {knows : S → ℕ → Type 0} {had : S → ℕ → ℕ → Type 0} {leads : S → ℕ → Type 0}
    {own shown : S → ℕ → Option ℕ} {later : S → S → Type 0} {gave : S → S → ℕ → ℕ → Type 0}
    (laws : WordsLaws {S = S} addresses sound knows had leads own shown later gave) where
  pub moves_ready : {kept binds kept' binds' : WordList} {v w : S} (x y : ℕ) (l r : Look) (mv : Move)
      → KeepsLoads sound had leads later gave kept binds v kept' binds' w → binds' ≡ binds → mv ≡ moved l r → leads w (look_word l)
      → leads w (look_word r) → Says (own w) kept' (λ m. Values binds m false x l) → Says (own w) kept' (λ m. Values binds m false y r)
      → Ready (leads w) binds' (seen_memory kept' (own w)) mv
  moves_ready {kept = kept} {binds = binds} {kept' = kept'} {binds' = binds'} {v = v} {w = w} x y l r mv p unchanged e a b f h =
      subst (λ (z : Move). Ready (leads w) binds' (seen_memory kept' (own w)) z) (sym e)
      (subst (λ (bs : WordList). Ready (leads w) bs (seen_memory kept' (own w)) (moved l r)) (sym unchanged)
      (are_ready (leads w) binds (seen_memory kept' (own w)) l r a b
      (open_look binds (seen_memory kept' (own w)) x l (f (seen_memory kept' (own w)) (agrees laws 6 p.holds)))
      (open_look binds (seen_memory kept' (own w)) y r (h (seen_memory kept' (own w)) (agrees laws 6 p.holds)))))
