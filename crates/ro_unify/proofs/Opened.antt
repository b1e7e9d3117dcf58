-- What a unification read and bound was unbound before.
use Rattle.std.proofs.Common.{◌≡◌, ℕ, ◌-◌, Bool, true, false, List, [], ◌∷◌, ◌++◌, Option, Some, None}
use Rattle.std.proofs.Common.{refl, sym, ◌∙◌, subst, inl, inr, ⊎_elim, append-nil}
use Rattle.std.specs.Prelude.{◌⊎◌}
use Rattle.heap_words.specs.Cells.{encoded}
use Rattle.heap_words.specs.Trails.{WordList, Memory, word_at}
use Rattle.heap_words.specs.declared.cell.Cell.TheVariants as cell
use Rattle.heap_words.proofs.Keeps.{still_there, old_or_new}
use Rattle.ro_unify.specs.declared.look.Look.{Look}
use Rattle.ro_unify.specs.declared.look.Look.TheVariants.{Writable, ReadOnly, Solid}
use Rattle.ro_unify.specs.declared.table.Move.{Move}
use Rattle.ro_unify.specs.Value.{Values, IsOpen}
use Rattle.ro_unify.specs.Occurs.{Occurs, Found, hit, miss, at_end, here, leaf, node, Each}
use Rattle.ro_unify.specs.Table.{moved, older_of}
use Rattle.ro_unify.specs.Unify.{Does, nothing, wait, order, bind, found, absent, same, other, Turn, goes, clashes, waits, Ready}
use Rattle.ro_unify.specs.Unify.{Treats, Unifies, on, clashed, stopped, Ended, done, clash, stop, ordered, look_reads}
use Rattle.ro_unify.specs.Unify as unify
use Rattle.ro_unify.proofs.Chains.{values_open}
use Rattle.ro_unify.proofs.Turns.{are_ready, open_look}

-- the reads of an occurs check, and of a unification
abbrev pub reads_found : Found → List ℕ
reads_found (hit rs) = rs
reads_found (miss rs) = rs

abbrev pub reads_ended : Ended → List ℕ
reads_ended (done bs rs) = rs
reads_ended (clash rs) = rs
reads_ended (stop rs) = rs

-- each binding stood before, or its place was unbound
abbrev pub Since : WordList → Memory → WordList → Type 0
Since before m bs = (a x : ℕ) → word_at bs a ≡ Some x → (word_at before a ≡ Some x) ⊎ IsOpen before m a

-- the bindings that a unification leaves where it is done
abbrev pub BindsOpen : WordList → Memory → Ended → Type 0
BindsOpen before m (done bs rs) = Since before m bs
BindsOpen before m (clash rs) = Unit {0}
BindsOpen before m (stop rs) = Unit {0}

pub each_end : (P : ℕ → Type 0) (xs : List ℕ) (a : ℕ) → Each P xs → P a → Each P (xs ++ a ∷ [])
each_end P [] a h p = (p, tt)
each_end P (x ∷ xs) a h p = (h.0, each_end P xs a h.1 p)

module _ (before : WordList) (m : Memory) where
  -- what was unbound before is not bound by fewer bindings
  abbrev Keeps : WordList → Type 0
  Keeps bs = (a : ℕ) → word_at bs a ≡ None → word_at before a ≡ None

  abbrev Was : ℕ → Type 0
  Was = IsOpen before m

  was_open : (bs : WordList) (a : ℕ) → Keeps bs → IsOpen bs m a → Was a
  was_open bs a k o = (k a o.0, o.1)

  -- bindings that went on
  abbrev Grew : WordList → Type 0
  Grew bs = Keeps bs × Since before m bs

  one_more : (bs : WordList) (a x : ℕ) → Grew bs → IsOpen bs m a → Grew (bs ++ (a, x) ∷ [])
  one_more bs a x g o = (
    λ b e. g.0 b (free b e (word_at bs b) refl),
    λ b y e. ⊎_elim (λ i. g.1 b y i) (λ i. inr (subst Was i.0 (was_open bs a g.0 o)))
        (old_or_new bs a x b y e),
  )
    where
      free : (b : ℕ) → word_at (bs ++ (a, x) ∷ []) b ≡ None → (f : Option ℕ) → word_at bs b ≡ f → word_at bs b ≡ None
      free b e None i = i
      free b e (Some y) i = absurd (let k : Some y ≡ None = sym (still_there bs a x b y i) ∙ e in cc)

  does_bind : (bs : WordList) (rs rs' : List ℕ) (mv : Move) (t : Turn) (bs' : WordList) (qs : List (ℕ × ℕ)) → Ready (λ _. Unit {0}) bs m mv
      → Grew bs → Does bs m rs mv t rs' → t ≡ goes bs' qs → Grew bs'
  does_bind bs rs _ _ _ bs' qs r g nothing e = subst Grew (let i : bs ≡ bs' = cc in i) g
  does_bind bs rs _ _ _ bs' qs r g wait e = cc
  does_bind bs rs _ _ _ bs' qs r g (order p q) e =
      subst Grew (let i : bs ++ ordered p q (older_of p q (m (p - 1)) (m (q - 1))) ∷ [] ≡ bs' = cc in i)
      (go (older_of p q (m (p - 1)) (m (q - 1))))
    where
      go : (b : Bool) → Grew (bs ++ ordered p q b ∷ [])
      go true = one_more bs q _ g r.3
      go false = one_more bs p _ g r.2
  does_bind bs rs _ _ _ bs' qs r g (bind p q) e = subst Grew (let i : bs ++ unify.binding p (encoded (cell.RoRef q)) ∷ [] ≡ bs' = cc in i)
      (one_more bs p (encoded (cell.RoRef q)) g r.1)
  does_bind bs rs _ _ _ bs' qs r g (found p x rs' o) e = cc
  does_bind bs rs _ _ _ bs' qs r g (absent p x rs' o) e =
      subst Grew (let i : bs ++ unify.binding p x ∷ [] ≡ bs' = cc in i) (one_more bs p x g r.1)
  does_bind bs rs _ _ _ bs' qs r g (same x y ps h) e = subst Grew (let i : bs ≡ bs' = cc in i) g
  does_bind bs rs _ _ _ bs' qs r g (other x y h) e = cc

  treats_bind : (bs : WordList) (rs rs' : List ℕ) (p : ℕ × ℕ) (bs' : WordList) (qs : List (ℕ × ℕ)) → Grew bs
      → Treats bs m rs p (goes bs' qs) rs' → Grew bs'
  treats_bind bs rs rs' p bs' qs g d =
      does_bind bs ((rs ++ look_reads d.left) ++ look_reads d.right) rs' (moved d.left d.right) (goes bs' qs) bs' qs
      (are_ready (λ _. Unit {0}) bs m d.left d.right tt tt (open_look bs m p.0 d.left d.left_is)
      (open_look bs m p.1 d.right d.right_is)) g d.does refl

  unifies_bind : (bs : WordList) (rs : List ℕ) (ps : List (ℕ × ℕ)) (e : Ended) → Grew bs → Unifies m bs rs ps e → BindsOpen before m e
  unifies_bind _ _ _ _ g (unify.at_end bs rs) = g.1
  unifies_bind _ _ _ _ g (on bs rs p ps bs' qs rs' e t u) = unifies_bind bs' rs' (qs ++ ps) e (treats_bind bs rs rs' p bs' qs g t) u
  unifies_bind _ _ _ _ g (clashed bs rs p ps rs' t) = tt
  unifies_bind _ _ _ _ g (stopped bs rs p ps rs' t) = tt

  -- what is so of each unbound place, and was of the reads so far, is so of all reads
  module _ (P : ℕ → Type 0) (opens : (a : ℕ) → IsOpen before m a → P a) where
    occurs_open : (bs : WordList) (p : ℕ) (ws rs : List ℕ) (f : Found) → Keeps bs → Occurs bs m p ws rs f → Each P rs
        → Each P (reads_found f)
    occurs_open bs p _ _ _ k (at_end rs) h = h
    occurs_open bs p _ _ _ k (here w ws rs l a v o t) h = each_end P rs a h (opens a (was_open bs a k (values_open bs m false w l a v o)))
    occurs_open bs p _ _ _ k (leaf w ws rs l a f v o t r) h =
        occurs_open bs p ws (rs ++ a ∷ []) f k r (each_end P rs a h (opens a (was_open bs a k (values_open bs m false w l a v o))))
    occurs_open bs p _ _ _ k (node w ws rs x f v r) h = occurs_open bs p _ rs f k r h

    look_open : (bs : WordList) (w : ℕ) (l : Look) (rs : List ℕ) → Keeps bs → Values bs m false w l → Each P rs
        → Each P (rs ++ look_reads l)
    look_open bs w (Writable a) rs k v h = each_end P rs a h (opens a (was_open bs a k (values_open bs m false w (Writable a) a v refl)))
    look_open bs w (ReadOnly a) rs k v h = each_end P rs a h (opens a (was_open bs a k (values_open bs m false w (ReadOnly a) a v refl)))
    look_open bs w (Solid x) rs k v h = subst (Each P) (sym (append-nil rs)) h

    does_read : (bs : WordList) (rs rs' : List ℕ) (mv : Move) (t : Turn) → Keeps bs → Does bs m rs mv t rs' → Each P rs → Each P rs'
    does_read bs rs _ _ _ k nothing h = h
    does_read bs rs _ _ _ k wait h = h
    does_read bs rs _ _ _ k (order p q) h = h
    does_read bs rs _ _ _ k (bind p q) h = h
    does_read bs rs _ _ _ k (found p x rs' o) h = occurs_open bs p (x ∷ []) rs (hit rs') k o h
    does_read bs rs _ _ _ k (absent p x rs' o) h = occurs_open bs p (x ∷ []) rs (miss rs') k o h
    does_read bs rs _ _ _ k (same x y qs e) h = h
    does_read bs rs _ _ _ k (other x y e) h = h

    treats_read : (bs : WordList) (rs rs' : List ℕ) (p : ℕ × ℕ) (t : Turn) → Keeps bs → Treats bs m rs p t rs' → Each P rs → Each P rs'
    treats_read bs rs rs' p t k d h =
        does_read bs ((rs ++ look_reads d.left) ++ look_reads d.right) rs' (moved d.left d.right) t k d.does
        (look_open bs p.1 d.right (rs ++ look_reads d.left) k d.right_is (look_open bs p.0 d.left rs k d.left_is h))

    unifies_read : (bs : WordList) (rs : List ℕ) (ps : List (ℕ × ℕ)) (e : Ended) → Grew bs → Each P rs → Unifies m bs rs ps e
        → Each P (reads_ended e)
    unifies_read _ _ _ _ g h (unify.at_end bs rs) = h
    unifies_read _ _ _ _ g h (on bs rs p ps bs' qs rs' e t u) =
        unifies_read bs' rs' (qs ++ ps) e (treats_bind bs rs rs' p bs' qs g t) (treats_read bs rs rs' p (goes bs' qs) g.0 t h) u
    unifies_read _ _ _ _ g h (clashed bs rs p ps rs' t) = treats_read bs rs rs' p clashes g.0 t h
    unifies_read _ _ _ _ g h (stopped bs rs p ps rs' t) = treats_read bs rs rs' p waits g.0 t h

-- The places that a unification bound, where it is done, were unbound before.
pub bound_open : (m : Memory) (bs : WordList) (rs : List ℕ) (ps : List (ℕ × ℕ)) (e : Ended) → Unifies m bs rs ps e → BindsOpen bs m e
bound_open m bs rs ps e u = unifies_bind bs m bs rs ps e (λ a i. i, λ a x i. inl i) u

-- What is so of each place that was unbound before, and of the reads so far, is so of all reads.
pub reads_so : (m : Memory) (bs : WordList) (rs : List ℕ) (ps : List (ℕ × ℕ)) (e : Ended) (P : ℕ → Type 0)
    → ((a : ℕ) → IsOpen bs m a → P a) → Unifies m bs rs ps e → Each P rs → Each P (reads_ended e)
reads_so m bs rs ps e P opens u h = unifies_read bs m P opens bs rs ps e (λ a i. i, λ a x i. inl i) h u
