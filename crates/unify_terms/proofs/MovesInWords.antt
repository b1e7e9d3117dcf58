-- What is done for a move of a unification of words.
use Rattle.std.proofs.Common.{◌≡◌, ℕ, ◌-◌, List, [], ◌∷◌, ◌++◌}
use Rattle.std.proofs.Common.{Some, None, refl, ap, ◌∙◌, subst}
use Rattle.heap_words.specs.Cells.{encoded}
use Rattle.heap_words.specs.Trails.{WordList, Memory}
use Rattle.heap_words.specs.declared.cell.Cell.TheVariants as cell
use Rattle.ro_unify.specs.Occurs.{Occurs, hit, miss}
use Rattle.ro_unify.specs.Alike.{alike}
use Rattle.ro_unify.specs.Table.{older_of}
use Rattle.ro_unify.specs.Unify.{Does, nothing, wait, order, bind, found, absent, same, other}
use Rattle.ro_unify.specs.Unify.{Turn, goes, clashes, waits, ordered}
use Rattle.ro_unify.specs.declared.table.Move.{Move}
use Rattle.ro_unify.specs.declared.table.Move.TheVariants as move

-- what is done for a move, by the move
pub does_nothing : (bs : WordList) (m : Memory) (rs rs' : List ℕ) (mv : Move) (t : Turn) → Does bs m rs mv t rs' → mv ≡ move.Nothing
    → (t ≡ goes bs []) × (rs' ≡ rs)
does_nothing bs m rs _ _ _ nothing e = (refl, refl)
does_nothing bs m rs _ _ _ wait e = cc
does_nothing bs m rs _ _ _ (order a b) e = cc
does_nothing bs m rs _ _ _ (bind a b) e = cc
does_nothing bs m rs _ _ _ (found a x rs' o) e = cc
does_nothing bs m rs _ _ _ (absent a x rs' o) e = cc
does_nothing bs m rs _ _ _ (same x y qs h) e = cc
does_nothing bs m rs _ _ _ (other x y h) e = cc

pub does_wait : (bs : WordList) (m : Memory) (rs rs' : List ℕ) (mv : Move) (t : Turn) → Does bs m rs mv t rs' → mv ≡ move.Wait
    → (t ≡ waits) × (rs' ≡ rs)
does_wait bs m rs _ _ _ nothing e = cc
does_wait bs m rs _ _ _ wait e = (refl, refl)
does_wait bs m rs _ _ _ (order a b) e = cc
does_wait bs m rs _ _ _ (bind a b) e = cc
does_wait bs m rs _ _ _ (found a x rs' o) e = cc
does_wait bs m rs _ _ _ (absent a x rs' o) e = cc
does_wait bs m rs _ _ _ (same x y qs h) e = cc
does_wait bs m rs _ _ _ (other x y h) e = cc

pub does_order : (bs : WordList) (m : Memory) (rs rs' : List ℕ) (mv : Move) (t : Turn) (p q : ℕ) → Does bs m rs mv t rs'
    → mv ≡ move.Order p q
    → (t ≡ goes (bs ++ ordered p q (older_of p q (m (p - 1)) (m (q - 1))) ∷ []) []) × (rs' ≡ rs)
does_order bs m rs _ _ _ p q nothing e = cc
does_order bs m rs _ _ _ p q wait e = cc
does_order bs m rs _ _ _ p q (order a b) e =
    let i : a ≡ p = cc in let j : b ≡ q = cc in (
      ap (λ (c : ℕ). goes (bs ++ ordered c b (older_of c b (m (c - 1)) (m (b - 1))) ∷ []) []) i ∙ ap
          (λ (c : ℕ). goes (bs ++ ordered p c (older_of p c (m (p - 1)) (m (c - 1))) ∷ []) []) j,
      refl,
    )
does_order bs m rs _ _ _ p q (bind a b) e = cc
does_order bs m rs _ _ _ p q (found a x rs' o) e = cc
does_order bs m rs _ _ _ p q (absent a x rs' o) e = cc
does_order bs m rs _ _ _ p q (same x y qs h) e = cc
does_order bs m rs _ _ _ p q (other x y h) e = cc

pub does_bind : (bs : WordList) (m : Memory) (rs rs' : List ℕ) (mv : Move) (t : Turn) (p q : ℕ) → Does bs m rs mv t rs' → mv ≡ move.Bind p q
    → (t ≡ goes (bs ++ (p, encoded (cell.RoRef q)) ∷ []) []) × (rs' ≡ rs)
does_bind bs m rs _ _ _ p q nothing e = cc
does_bind bs m rs _ _ _ p q wait e = cc
does_bind bs m rs _ _ _ p q (order a b) e = cc
does_bind bs m rs _ _ _ p q (bind a b) e =
    let i : a ≡ p = cc in let j : b ≡ q = cc in (
      ap (λ (c : ℕ). goes (bs ++ (c, encoded (cell.RoRef b)) ∷ []) []) i ∙ ap
          (λ (c : ℕ). goes (bs ++ (p, encoded (cell.RoRef c)) ∷ []) []) j,
      refl,
    )
does_bind bs m rs _ _ _ p q (found a x rs' o) e = cc
does_bind bs m rs _ _ _ p q (absent a x rs' o) e = cc
does_bind bs m rs _ _ _ p q (same x y qs h) e = cc
does_bind bs m rs _ _ _ p q (other x y h) e = cc

pub data Checked (bs : WordList) (m : Memory) (rs rs' : List ℕ) (t : Turn) (p x : ℕ) : Type 0 where
  was_found : Occurs bs m p (x ∷ []) rs (hit rs') → t ≡ clashes → Checked bs m rs rs' t p x
  was_absent : Occurs bs m p (x ∷ []) rs (miss rs') → t ≡ goes (bs ++ (p, x) ∷ []) [] → Checked bs m rs rs' t p x

pub does_check : (bs : WordList) (m : Memory) (rs rs' : List ℕ) (mv : Move) (t : Turn) (p x : ℕ) → Does bs m rs mv t rs'
    → mv ≡ move.Check p x
    → Checked bs m rs rs' t p x
does_check bs m rs _ _ _ p x nothing e = cc
does_check bs m rs _ _ _ p x wait e = cc
does_check bs m rs _ _ _ p x (order a b) e = cc
does_check bs m rs _ _ _ p x (bind a b) e = cc
does_check bs m rs _ _ _ p x (found a y rs' o) e =
    let i : a ≡ p = cc in let j : y ≡ x = cc in
    was_found (subst (λ (z : ℕ). Occurs bs m p (z ∷ []) rs (hit rs')) j (subst (λ (c : ℕ). Occurs bs m c (y ∷ []) rs (hit rs')) i o)) refl
does_check bs m rs _ _ _ p x (absent a y rs' o) e =
    let i : a ≡ p = cc in let j : y ≡ x = cc in
    was_absent (subst (λ (z : ℕ). Occurs bs m p (z ∷ []) rs (miss rs')) j (subst (λ (c : ℕ). Occurs bs m c (y ∷ []) rs (miss rs')) i o))
    (ap (λ (c : ℕ). goes (bs ++ (c, y) ∷ []) []) i ∙ ap (λ (z : ℕ). goes (bs ++ (p, z) ∷ []) []) j)
does_check bs m rs _ _ _ p x (same u y qs h) e = cc
does_check bs m rs _ _ _ p x (other u y h) e = cc

pub data Compared (bs : WordList) (m : Memory) (rs rs' : List ℕ) (t : Turn) (x y : ℕ) : Type 0 where
  were_alike : (qs : List (ℕ × ℕ)) → alike m x y ≡ Some qs → t ≡ goes bs qs → rs' ≡ rs → Compared bs m rs rs' t x y
  were_other : alike m x y ≡ None → t ≡ clashes → rs' ≡ rs → Compared bs m rs rs' t x y

pub does_solids : (bs : WordList) (m : Memory) (rs rs' : List ℕ) (mv : Move) (t : Turn) (x y : ℕ) → Does bs m rs mv t rs'
    → mv ≡ move.Solids x y → Compared bs m rs rs' t x y
does_solids bs m rs _ _ _ x y nothing e = cc
does_solids bs m rs _ _ _ x y wait e = cc
does_solids bs m rs _ _ _ x y (order a b) e = cc
does_solids bs m rs _ _ _ x y (bind a b) e = cc
does_solids bs m rs _ _ _ x y (found a z rs' o) e = cc
does_solids bs m rs _ _ _ x y (absent a z rs' o) e = cc
does_solids bs m rs _ _ _ x y (same u v qs h) e =
    let i : u ≡ x = cc in let j : v ≡ y = cc in
    were_alike qs (subst (λ (c : ℕ). alike m x c ≡ Some qs) j (subst (λ (c : ℕ). alike m c v ≡ Some qs) i h)) refl refl
does_solids bs m rs _ _ _ x y (other u v h) e =
    let i : u ≡ x = cc in let j : v ≡ y = cc in
    were_other (subst (λ (c : ℕ). alike m x c ≡ None) j (subst (λ (c : ℕ). alike m c v ≡ None) i h)) refl refl
