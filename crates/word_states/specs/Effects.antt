-- What an entry has to do to words that stand for a state, so that they stand for the next.
use Rattle.std.specs.Prelude.{◌≡◌, ◌⊎◌, ◌↔◌, ℕ, suc, ◌+◌, ◌-◌, ◌<◌, ◌≤◌, pos, true, false, List, ◌++◌, length, map, Option, Some, None}
use Rattle.fcp_model.specs.declared.run.Place.{Place}
use Rattle.fcp_model.specs.Places.{Variable, made, placed, is_listed, is_same_process}
use Rattle.fcp_model.specs.Terms.{Term, Bindings, find}
use Rattle.fcp_model.specs.Programs.{Clause}
use Rattle.fcp_model.specs.States.{ready, Process, State, count_up}
use Rattle.fcp_model.specs.Events.{settled, is_woken, vars_of, children_of}
use Rattle.heap_words.specs.declared.cell.Cell.TheVariants.{Unbound, Small, Raw}
use Rattle.heap_words.specs.declared.cell.Cell.TheVariants as cell
use Rattle.heap_words.specs.declared.cell.Stand.TheVariants as stand
use Rattle.heap_words.specs.declared.cell.Stand.{Stand}
use Rattle.word_states.specs.Words.{Words, At, Grows}
use Rattle.word_states.specs.Denoting.{Addresses, Listed, Denotes}
use Rattle.word_states.specs.Leading.{BindingsLead}
use Rattle.word_states.specs.Standing.{Book, StandsAt, ProcessAt, PlaceAt, ProcessSays, LinkSays, FreshSays, variable_code}

-- a waiting entry at e: the process at p, the number n, the link to l
pub record EntryAt (w : Words) (e p n l : ℕ) : Type 0 where
  -- it does not stand at address 0, which is none
  pub above : 0 < e
  -- its three words
  pub process : At w e (Raw p)
  pub number : At w (e + 1) (Small (pos n))
  pub link : LinkSays w (e + 2) l

-- The hang of the process x at p on the places ps: the words w become w'.
pub record HangEffect (book : Book) (s : State) (p : ℕ) (x : Process) (ps : List Place) (w w' : Words) : Type 0 where
  -- final words stay, and the process is one of the state
  pub grows : Grows w w'
  pub parent : ProcessAt book s p x
  -- its status has the number of the entry, and the other statuses are as before
  pub status : At w' p (cell.Status (stand.Waiting (suc s.entries)))
  pub others : (q : ℕ) (y : Process) → ProcessAt book s q y → (q ≡ p → ⊥) → w' q ≡ w q
  -- the places are unbound ones of the state; each has a new entry before its list, and the other places are as before
  pub places : (j : Place) → is_listed j ps ≡ true → ((a : ℕ) × PlaceAt book j a) × (find s.bound (made j) ≡ None)
  pub hung : (j : Place) (a e : ℕ) → PlaceAt book j a → is_listed j ps ≡ true → At w a (Unbound e)
      → (e' : ℕ) × At w' a (Unbound e') × EntryAt w' e' p (suc s.entries) e
  pub apart : (j : Place) (a : ℕ) → PlaceAt book j a → is_listed j ps ≡ false → w' a ≡ w a
  -- there is no new status
  pub statuses : (a : ℕ) (d : Stand) → At w' a (cell.Status d) → (t : Stand) × At w a (cell.Status t)

-- The commit of the process x at p by the clause c with the bindings bs: the words w become w', with the new places
-- `fresh` and the children at `born`. The words w stand for the shorter bindings `short`, and those of the commit say cs.
pub record CommitEffect (book : Book) (fresh : Addresses) (born : List ℕ) (s : State) (p : ℕ) (x : Process) (c : Option Clause)
    (short bs cs : Bindings) (w w' : Words) : Type 0 where
  -- each binding of cs is one of bs, but for a shorter way
  pub leads : BindingsLead (s.bound ++ bs) bs cs
  -- final words stay, the process is one of the state, and it is finished
  pub grows : Grows w w'
  pub parent : ProcessAt book s p x
  pub done : At w' p (cell.Status stand.Done)
  -- the other processes: the woken are Ready, and the statuses of the others are as before
  pub woken : (q : ℕ) (y : Process) → ProcessAt book s q y → (q ≡ p → ⊥) → is_woken bs y.status ≡ true → At w' q (cell.Status stand.Ready)
  pub others : (q : ℕ) (y : Process) → ProcessAt book s q y → (q ≡ p → ⊥) → is_woken bs y.status ≡ false → w' q ≡ w q
  -- the old places: a binding makes one denote its term, and the other unbound ones are as before
  pub binds : (j : Place) (a : ℕ) (t : Term Variable) → PlaceAt book j a → find short (made j) ≡ None
      → find (settled (suc s.entries) cs) (made j) ≡ Some t → (y : ℕ) × (w' a ≡ Some y) × Denotes w' (book.places ++ fresh) y t
  pub leaves : (j : Place) (a : ℕ) → PlaceAt book j a → find short (made j) ≡ None
      → find (settled (suc s.entries) cs) (made j) ≡ None → w' a ≡ w a
  pub bound_old : (j : Place) (t : Term Variable) → find cs (made j) ≡ Some t → j.entry ≤ s.entries
  -- the new places, in order, each at one address of its own
  pub names : map (λ b. b.0) fresh ≡ map (placed (suc s.entries)) (count_up 1 (vars_of c))
  pub fresh_name : (v : Variable) (a : ℕ) → Listed fresh v a
      → ((k : ℕ) × (v ≡ placed (suc s.entries) k) × (k < 268435456)) × (0 < a) × At w' (a - 1) (Small (pos (variable_code v)))
  pub fresh_once : (v u : Variable) (a b : ℕ) → Listed fresh v a → Listed fresh u b → (v ≡ u) ↔ (a ≡ b)
  pub fresh_apart : (v u : Variable) (a b : ℕ) → Listed book.places v a → Listed fresh u b → (a ≡ b → ⊥)
  pub fresh_word : (v : Variable) (a : ℕ) → Listed fresh v a → (y : ℕ) × (w' a ≡ Some y)
      × FreshSays w' (book.places ++ fresh) y (find (short ++ settled (suc s.entries) cs) v)
  -- the children, in order, each at one address of its own
  pub born_size : length born ≡ length (children_of (suc s.entries) c)
  pub born_says : (q : ℕ) (y : Process) → StandsAt born (children_of (suc s.entries) c) q y
      → (y.status ≡ ready) × ((y.name.entry ≡ suc s.entries) × (y.name.number < 268435456))
      × ProcessSays w' (book.places ++ fresh) (s.bound ++ settled (suc s.entries) bs) (suc s.entries) q y
  pub born_once : (q r : ℕ) (y z : Process) → StandsAt born (children_of (suc s.entries) c) q y
      → StandsAt born (children_of (suc s.entries) c) r z → (is_same_process y.name z.name ≡ true → q ≡ r) × (q ≡ r → y ≡ z)
  pub born_apart : (q r : ℕ) (y z : Process) → ProcessAt book s q y → StandsAt born (children_of (suc s.entries) c) r z → (q ≡ r → ⊥)
  -- there is no other new status
  pub statuses : (a : ℕ) (d : Stand) → At w' a (cell.Status d)
      → ((t : Stand) × At w a (cell.Status t)) ⊎ ((y : Process) × StandsAt born (children_of (suc s.entries) c) a y)
