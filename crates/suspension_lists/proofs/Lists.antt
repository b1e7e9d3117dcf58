-- One more at the end of a list, and words that grow.
use Rattle.std.proofs.Common.{◌≡◌, ℕ, ◌+◌, List, [], ◌∷◌, ◌++◌, Option, Some, refl, sym, ◌∙◌, subst, inl, inr, ⊎_elim}
use Rattle.std.specs.Prelude.{◌⊎◌}
use Rattle.heap_words.specs.declared.cell.Cell.{Cell}
use Rattle.word_states.specs.Words.{Words}
use Rattle.suspension_lists.specs.declared.entries.Entry.{Entry}
use Rattle.suspension_lists.specs.Cells.{process_of}
use Rattle.suspension_lists.specs.Waking.{Within}
use Rattle.suspension_lists.specs.Entries.{Tells, IsOneOf, IsEntry, NoEntry, Path, ListHas}

pub one_of_old : {A : Type 0} (xs : List A) (x y : A) → IsOneOf x xs → IsOneOf x (xs ++ y ∷ [])
one_of_old [] x y h = absurd h
one_of_old (z ∷ zs) x y h = ⊎_elim (λ i. inl i) (λ i. inr (one_of_old zs x y i)) h

pub one_of_new : {A : Type 0} (xs : List A) (y : A) → IsOneOf y (xs ++ y ∷ [])
one_of_new [] y = inl refl
one_of_new (z ∷ zs) y = inr (one_of_new zs y)

pub one_of_split : {A : Type 0} (xs : List A) (x y : A) → IsOneOf x (xs ++ y ∷ []) → IsOneOf x xs ⊎ (y ≡ x)
one_of_split [] x y h = ⊎_elim (λ i. inr i) (λ i. absurd i) h
one_of_split (z ∷ zs) x y h =
    ⊎_elim (λ i. inl (inl i)) (λ i. ⊎_elim (λ j. inl (inr j)) (λ j. inr j) (one_of_split zs x y i)) h

module _ {w w' : Words} (on : Within w w') where
  pub tells_on : {A : Type 0} (f : Option Cell → A) (a : ℕ) (y : A) → Tells f w a y → Tells f w' a y
  tells_on f a y t = (t.0, on a t.0 t.1, t.2)

  pub entry_on : (a : Entry) (l : ℕ) → IsEntry w a l → IsEntry w' a l
  entry_on a l i = record {
    above = i.above;
    process = (i.process.0, on a.at i.process.0 i.process.1, i.process.2);
    link = (i.link.0, on (a.at + 2) i.link.0 i.link.1, i.link.2);
  }

  pub path_on : (f : ℕ) (as' : List Entry) (e : ℕ) → Path w f as' e → Path w' f as' e
  path_on f [] e p = p
  path_on f (a ∷ as') e p = (p.0, (p.1.0, entry_on a p.1.0 p.1.1, path_on p.1.0 as' e p.1.2))

  pub no_entry_on : (e : ℕ) → NoEntry w e → NoEntry w' e
  no_entry_on e n = ⊎_elim (λ i. inl i) (λ i. inr (i.0, on e i.0 i.1, i.2)) n

  pub list_on : (a : ℕ) (as' : List Entry) → ListHas w a as' → ListHas w' a as'
  list_on a as' l = (
    l.0,
    (l.1.0, on a l.1.0 l.1.1, l.1.2),
    (l.2.0, path_on l.0 as' l.2.0 l.2.1, no_entry_on l.2.0 l.2.2),
  )

-- a path goes on
pub path_push : (w : Words) (f : ℕ) (as' : List Entry) (a : Entry) (l e : ℕ) → Path w f as' e → a.at ≡ e → IsEntry w a l
    → Path w f (as' ++ a ∷ []) l
path_push w f [] a l e p i h = (i ∙ sym p, (l, h, refl))
path_push w f (b ∷ bs) a l e p i h = (p.0, (p.1.0, p.1.1, path_push w p.1.0 bs a l e p.1.2 i h))

-- each entry of a path has its process in its first word
pub path_process : (w : Words) (f : ℕ) (as' : List Entry) (e : ℕ) → Path w f as' e → (a : Entry) → IsOneOf a as'
    → Tells process_of w a.at (Some a.process)
path_process w f [] e p a i = absurd i
path_process w f (b ∷ bs) e p a i =
    ⊎_elim (λ j. subst (λ (c : Entry). Tells process_of w c.at (Some c.process)) j p.1.1.process)
    (λ j. path_process w p.1.0 bs e p.1.2 a j) i
