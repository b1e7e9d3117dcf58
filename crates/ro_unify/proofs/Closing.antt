-- A unification keeps what is closed under places and parts.
use Rattle.std.specs.Prelude.{nat_eq}
use Rattle.std.proofs.lemmas.Bool.{eqb-true}
use Rattle.std.proofs.Common.{◌≡◌, ℕ, zero, suc, ◌+◌, ◌-◌, Bool, true, false, cond, List, [], ◌∷◌, ◌++◌}
use Rattle.std.proofs.Common.{Option, Some, None, refl, sym, ◌∙◌, subst, ⊎_elim, append-nil}
use Rattle.heap_words.specs.Cells.{encoded, decoded}
use Rattle.heap_words.specs.Trails.{WordList, Memory, word_at}
use Rattle.heap_words.specs.declared.cell.Cell.TheVariants as cell
use Rattle.heap_words.proofs.Keeps.{still_there, old_or_new}
use Rattle.ro_unify.specs.declared.look.Look.{Look}
use Rattle.ro_unify.specs.declared.look.Look.TheVariants.{Writable, ReadOnly, Solid}
use Rattle.ro_unify.specs.declared.look.Step.{Step}
use Rattle.ro_unify.specs.declared.look.Step.TheVariants.{End, On}
use Rattle.ro_unify.specs.declared.occurrence.Whole.{Whole}
use Rattle.ro_unify.specs.declared.occurrence.Whole.TheVariants as whole
use Rattle.ro_unify.specs.declared.table.Move.{Move}
use Rattle.ro_unify.specs.declared.table.Move.TheVariants as move
use Rattle.ro_unify.specs.Value.{Values, ends, goes, step_of, step_at, bound_step, open_at, is_unbound, leads_on}
use Rattle.ro_unify.specs.Occurs.{Occurs, Found, hit, miss, at_end, here, leaf, node, Each}
use Rattle.ro_unify.specs.Occurs.{whole_of, count_of, parts_of, words_after, open_of}
use Rattle.ro_unify.specs.Alike.{alike, alike_as, pairs_after, same_atoms, Both}
use Rattle.ro_unify.specs.Table.{moved, older_of}
use Rattle.ro_unify.specs.Unify.{Does, nothing, wait, order, bind, found, absent, same, other, Turn, clashes, waits, Treats}
use Rattle.ro_unify.specs.Unify.{Unifies, on, clashed, stopped, Ended, done, clash, stop, ordered, look_reads, binding}
use Rattle.ro_unify.specs.Unify as unify
use Rattle.ro_unify.proofs.Opened.{reads_found, each_end}

-- A property of words and one of places, closed under parts and under the word of a place that is not bound privately.
pub record IsClosed (before : WordList) (m : Memory) (P Q : ℕ → Type 0) : Type 0 where
  pub place : (w a : ℕ) (only o : Bool) → P w → leads_on only (decoded w) ≡ Some (o, a) → Q a
  pub word : (a : ℕ) → Q a → word_at before a ≡ None → is_unbound (decoded (m a)) ≡ false → P (m a)
  pub parts : (w : ℕ) → P w → Each P (parts_of m (whole_of (decoded w)))
  pub writable : (a : ℕ) → Q a → P (encoded (cell.Ref a))
  pub read_only : (a : ℕ) → Q a → P (encoded (cell.RoRef a))

-- bindings of such places to such words
abbrev pub BindsIn : (P Q : ℕ → Type 0) → WordList → Type 0
BindsIn P Q bs = (a x : ℕ) → word_at bs a ≡ Some x → Q a × P x

-- the reads of a unification have a property R, and its bindings are such where it is done
abbrev pub EndsWith : (P Q R : ℕ → Type 0) → Ended → Type 0
EndsWith P Q R (done bs rs) = BindsIn P Q bs × Each R rs
EndsWith P Q R (clash rs) = Each R rs
EndsWith P Q R (stop rs) = Each R rs

-- and the reads have that of places
abbrev pub EndsIn : (P Q : ℕ → Type 0) → Ended → Type 0
EndsIn P Q e = EndsWith P Q Q e

module _ (before : WordList) (m : Memory) (P Q R : ℕ → Type 0) (closed : IsClosed before m P Q) (noted : (a : ℕ) → Q a → R a) where
  -- such bindings, of all places that were bound before, too
  abbrev Held : WordList → Type 0
  Held bs = BindsIn P Q bs × ((a : ℕ) → word_at bs a ≡ None → word_at before a ≡ None)

  abbrev LookIn : Look → Type 0
  LookIn (Writable a) = Q a
  LookIn (ReadOnly a) = Q a
  LookIn (Solid x) = P x

  abbrev StepIn : Step → Type 0
  StepIn (End l) = LookIn l
  StepIn (On o x) = P x

  step_in : (bs : WordList) (only : Bool) (w : ℕ) → Held bs → P w → StepIn (step_of bs m only w)
  step_in bs only w b p = go (leads_on only (decoded w)) refl
    where
      open_in : (o : Bool) (a : ℕ) → Q a → LookIn (open_at o a)
      open_in true a q = q
      open_in false a q = q

      through : (o : Bool) (a : ℕ) → Q a → (c : Option ℕ) → word_at bs a ≡ c → StepIn (bound_step o a c (m a))
      through o a q (Some x) i = (b.0 a x i).1
      through o a q None i = go (is_unbound (decoded (m a))) refl
        where
          go : (u : Bool) → is_unbound (decoded (m a)) ≡ u → StepIn (cond u (End (open_at o a)) (On o (m a)))
          go true j = open_in o a q
          go false j = closed.word a q (b.1 a i) j

      go : (s : Option (Bool × ℕ)) → leads_on only (decoded w) ≡ s → StepIn (step_at bs m w s)
      go None e = p
      go (Some s) e = through s.0 s.1 (closed.place w s.1 only s.0 p e) (word_at bs s.1) refl

  values_in : (bs : WordList) (only : Bool) (w : ℕ) (l : Look) → Held bs → Values bs m only w l → P w → LookIn l
  values_in bs _ _ _ b (ends only w l e) p = subst StepIn e (step_in bs only w b p)
  values_in bs _ _ _ b (goes only w o x l e v) p = values_in bs o x l b v (subst StepIn e (step_in bs only w b p))

  open_in : (l : Look) (a : ℕ) → open_of l ≡ Some a → LookIn l → Q a
  open_in (Writable b) a e q = subst Q (let i : b ≡ a = cc in i) q
  open_in (ReadOnly b) a e q = subst Q (let i : b ≡ a = cc in i) q
  open_in (Solid x) a e q = cc

  each_with : {A : Type 0} (S : A → Type 0) (xs ys : List A) → Each S xs → Each S ys → Each S (xs ++ ys)
  each_with S [] ys g h = h
  each_with S (x ∷ xs) ys g h = (g.0, each_with S xs ys g.1 h)

  occurs_in : (bs : WordList) (p : ℕ) (ws rs : List ℕ) (f : Found) → Held bs → Occurs bs m p ws rs f → Each P ws → Each R rs
      → Each R (reads_found f)
  occurs_in bs p _ _ _ b (at_end rs) g h = h
  occurs_in bs p _ _ _ b (here w ws rs l a v o t) g h = each_end R rs a h (noted a (open_in l a o (values_in bs false w l b v g.0)))
  occurs_in bs p _ _ _ b (leaf w ws rs l a f v o t r) g h =
      occurs_in bs p ws (rs ++ a ∷ []) f b r g.1 (each_end R rs a h (noted a (open_in l a o (values_in bs false w l b v g.0))))
  occurs_in bs p _ _ _ b (node w ws rs x f v r) g h =
      occurs_in bs p _ rs f b r (each_with P _ ws (closed.parts x (values_in bs false w (Solid x) b v g.0)) g.1) h

  look_in : (l : Look) (rs : List ℕ) → LookIn l → Each R rs → Each R (rs ++ look_reads l)
  look_in (Writable a) rs q h = each_end R rs a h (noted a q)
  look_in (ReadOnly a) rs q h = each_end R rs a h (noted a q)
  look_in (Solid x) rs p h = subst (Each R) (sym (append-nil rs)) h

  -- what a move has
  abbrev MoveIn : Move → Type 0
  MoveIn move.Nothing = Unit {0}
  MoveIn move.Wait = Unit {0}
  MoveIn (move.Order p q) = Q p × Q q
  MoveIn (move.Bind p q) = Q p × Q q
  MoveIn (move.Check p x) = Q p × P x
  MoveIn (move.Solids x y) = P x × P y

  if_in : (b : Bool) (mv : Move) → MoveIn mv → MoveIn (cond b move.Nothing mv)
  if_in true mv h = tt
  if_in false mv h = h

  moved_in : (l r : Look) → LookIn l → LookIn r → MoveIn (moved l r)
  moved_in (Writable p) (Writable q) g h = if_in _ (move.Order p q) (g, h)
  moved_in (Writable p) (ReadOnly q) g h = if_in _ (move.Bind p q) (g, h)
  moved_in (Writable p) (Solid x) g h = (g, h)
  moved_in (ReadOnly p) (Writable q) g h = if_in _ (move.Bind q p) (h, g)
  moved_in (ReadOnly p) (ReadOnly q) g h = if_in _ move.Wait tt
  moved_in (ReadOnly p) (Solid x) g h = tt
  moved_in (Solid x) (Writable q) g h = (h, g)
  moved_in (Solid x) (ReadOnly q) g h = tt
  moved_in (Solid x) (Solid y) g h = (g, h)

  one_more : (bs : WordList) (a x : ℕ) → Held bs → Q a → P x → Held (bs ++ binding a x ∷ [])
  one_more bs a x b q p = (
    λ c y e. ⊎_elim (λ i. b.0 c y i) (λ i. (subst Q i.0 q, subst P i.1 p)) (old_or_new bs a x c y e),
    λ c e. b.1 c
        (free c e (word_at bs c) refl),
  )
    where
      free : (c : ℕ) → word_at (bs ++ (a, x) ∷ []) c ≡ None → (f : Option ℕ) → word_at bs c ≡ f → word_at bs c ≡ None
      free c e None i = i
      free c e (Some y) i = absurd (let k : Some y ≡ None = sym (still_there bs a x c y i) ∙ e in cc)

  -- the pairs of parts
  after_in : (a b n : ℕ) → Each P (words_after m a n) → Each P (words_after m b n) → Each (Both P) (pairs_after m a b n)
  after_in a b zero g h = tt
  after_in a b (suc n) g h = ((g.0, h.0), after_in (a + 1) (b + 1) n g.1 h.1)

  some_same : {A : Type 0} (x y : A) → Some x ≡ Some y → x ≡ y
  some_same x y e = cc

  alike_in : (x y : ℕ) (qs : List (ℕ × ℕ)) → alike m x y ≡ Some qs → P x → P y → Each (Both P) qs
  alike_in x y qs e g h = go (whole_of (decoded x)) (whole_of (decoded y)) (closed.parts x g) (closed.parts y h) e
    where
      atom : (b : Bool) → cond b (Some []) None ≡ Some qs → Each (Both P) qs
      atom true i = subst (Each (Both P)) (some_same [] qs i) tt
      atom false i = cc

      counted : (a b : ℕ) (t : Bool) → m a ≡ m b → Each P (words_after m a (count_of (decoded (m a))))
          → Each P (words_after m b (count_of (decoded (m b)))) → Each (Both P) (pairs_after m a b (count_of (decoded (m a))))
      counted a b t i k l =
          after_in a b (count_of (decoded (m a))) k (subst (λ (z : ℕ). Each P (words_after m b (count_of (decoded z)))) (sym i) l)

      go : (v w : Whole) → Each P (parts_of m v) → Each P (parts_of m w) → alike_as m x y v w ≡ Some qs → Each (Both P) qs
      go whole.Atom whole.Atom k l i = atom (same_atoms m x y) i
      go whole.Atom (whole.Pair b) k l i = cc
      go whole.Atom (whole.Tuple b) k l i = cc
      go (whole.Pair a) whole.Atom k l i = cc
      go (whole.Pair a) (whole.Pair b) k l i = subst (Each (Both P)) (some_same _ qs i) ((k.0, l.0), ((k.1.0, l.1.0), tt))
      go (whole.Pair a) (whole.Tuple b) k l i = cc
      go (whole.Tuple a) whole.Atom k l i = cc
      go (whole.Tuple a) (whole.Pair b) k l i = cc
      go (whole.Tuple a) (whole.Tuple b) k l i = at (nat_eq (m a) (m b)) refl i
        where
          at : (t : Bool) → nat_eq (m a) (m b) ≡ t → cond t (Some (pairs_after m a b (count_of (decoded (m a))))) None ≡ Some qs
              → Each (Both P) qs
          at true f j = subst (Each (Both P)) (some_same _ qs j) (counted a b true (eqb-true (m a) (m b) f) k l)
          at false f j = cc

  -- what a turn leaves
  abbrev TurnIn : Turn → Type 0
  TurnIn (unify.goes bs qs) = Held bs × Each (Both P) qs
  TurnIn clashes = Unit {0}
  TurnIn waits = Unit {0}

  does_in : (bs : WordList) (rs rs' : List ℕ) (mv : Move) (t : Turn) → Held bs → MoveIn mv → Each R rs → Does bs m rs mv t rs'
      → TurnIn t × Each R rs'
  does_in bs rs _ _ _ b k h nothing = ((b, tt), h)
  does_in bs rs _ _ _ b k h wait = (tt, h)
  does_in bs rs _ _ _ b k h (order p q) = ((go (older_of p q (m (p - 1)) (m (q - 1))), tt), h)
    where
      go : (o : Bool) → Held (bs ++ ordered p q o ∷ [])
      go true = one_more bs q _ b k.1 (closed.writable p k.0)
      go false = one_more bs p _ b k.0 (closed.writable q k.1)
  does_in bs rs _ _ _ b k h (bind p q) = ((one_more bs p _ b k.0 (closed.read_only q k.1), tt), h)
  does_in bs rs _ _ _ b k h (found p x rs' o) = (tt, occurs_in bs p (x ∷ []) rs (hit rs') b o (k.1, tt) h)
  does_in bs rs _ _ _ b k h (absent p x rs' o) = ((one_more bs p x b k.0 k.1, tt), occurs_in bs p (x ∷ []) rs (miss rs') b o (k.1, tt) h)
  does_in bs rs _ _ _ b k h (same x y qs e) = ((b, alike_in x y qs e k.0 k.1), h)
  does_in bs rs _ _ _ b k h (other x y e) = (tt, h)

  treats_in : (bs : WordList) (rs rs' : List ℕ) (p : ℕ × ℕ) (t : Turn) → Held bs → Both P p → Each R rs → Treats bs m rs p t rs'
      → TurnIn t × Each R rs'
  treats_in bs rs rs' p t b g h d =
      let l = values_in bs false p.0 d.left b d.left_is g.0 in
      let r = values_in bs false p.1 d.right b d.right_is g.1 in
      does_in bs ((rs ++ look_reads d.left) ++ look_reads d.right) rs' (moved d.left d.right) t b (moved_in d.left d.right l r)
      (look_in d.right (rs ++ look_reads d.left) r (look_in d.left rs l h)) d.does

  unifies_in : (bs : WordList) (rs : List ℕ) (ps : List (ℕ × ℕ)) (e : Ended) → Held bs → Each (Both P) ps → Each R rs
      → Unifies m bs rs ps e → EndsWith P Q R e
  unifies_in _ _ _ _ b g h (unify.at_end bs rs) = (b.0, h)
  unifies_in _ _ _ _ b g h (on bs rs p ps bs' qs rs' e t u) =
      let d = treats_in bs rs rs' p (unify.goes bs' qs) b g.0 h t in
      unifies_in bs' rs' (qs ++ ps) e d.0.0 (each_with (Both P) qs ps d.0.1 g.1) d.1 u
  unifies_in _ _ _ _ b g h (clashed bs rs p ps rs' t) = (treats_in bs rs rs' p clashes b g.0 h t).1
  unifies_in _ _ _ _ b g h (stopped bs rs p ps rs' t) = (treats_in bs rs rs' p waits b g.0 h t).1

-- All that is read and bound has the properties, where the pairs, the bindings and the reads before have them.
pub keeps_closed : (bs : WordList) (m : Memory) (P Q : ℕ → Type 0) → IsClosed bs m P Q → (rs : List ℕ) (ps : List (ℕ × ℕ)) (e : Ended)
    → BindsIn P Q bs → Each (Both P) ps → Each Q rs → Unifies m bs rs ps e → EndsIn P Q e
keeps_closed bs m P Q closed rs ps e b g h u = unifies_in bs m P Q Q closed (λ a q. q) bs rs ps e (b, λ a i. i) g h u

-- nothing is asked of reads
abbrev Any : ℕ → Type 0
Any a = Unit {0}

any : (rs : List ℕ) → Each Any rs
any [] = tt
any (a ∷ rs) = (tt, any rs)

-- All that is bound has them, where the pairs and the bindings before have them, whatever was read before.
pub binds_closed : (bs bs' : WordList) (m : Memory) (P Q : ℕ → Type 0) → IsClosed bs m P Q → (rs rs' : List ℕ) (ps : List (ℕ × ℕ))
    → BindsIn P Q bs → Each (Both P) ps → Unifies m bs rs ps (done bs' rs') → BindsIn P Q bs'
binds_closed bs bs' m P Q closed rs rs' ps b g u =
    (unifies_in bs m P Q Any closed (λ a q. tt) bs rs ps (done bs' rs') (b, λ a i. i) g (any rs) u).0
