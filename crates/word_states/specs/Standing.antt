-- Words stand for a state.
use Rattle.std.specs.Prelude.{◌≡◌, ◌⊎◌, ◌↔◌, ℕ, ◌+◌, ◌-◌, ◌*◌, ◌<◌, ◌≤◌, pos, true, List, [], ◌∷◌, length, map, Option, Some, None}
use Rattle.fcp_model.specs.declared.run.Place.{Place}
use Rattle.fcp_model.specs.Places.{Variable, made, own, is_same_process, is_listed}
use Rattle.fcp_model.specs.Terms.{Term, Bindings, find, rename, settle}
use Rattle.fcp_model.specs.Reads.{BindsPlaces}
use Rattle.fcp_model.specs.States.{Status, ready, waiting, finished, Process, State}
use Rattle.heap_words.specs.Cells.{decoded}
use Rattle.heap_words.specs.Trails.{WordList}
use Rattle.heap_words.specs.declared.cell.Cell.TheVariants.{Unbound, Small, Nil, Cons, Raw}
use Rattle.heap_words.specs.declared.cell.Cell.TheVariants as cell
use Rattle.heap_words.specs.declared.cell.Stand.TheVariants as stand
use Rattle.heap_words.specs.declared.cell.Stand.{Stand}
use Rattle.word_states.specs.Words.{Words, At, Among}
use Rattle.word_states.specs.Denoting.{Addresses, Listed, Denotes}
use Rattle.word_states.specs.Leading.{AreShortened, GoalStands}

-- the number in the name word of `_n.k` and of `#n.k`
abbrev pub name_code : ℕ → ℕ → ℕ
name_code n k = 268435456 * n + k

-- the number in the name word of a variable's place; one of a try has no entry yet
abbrev pub variable_code : Variable → ℕ
variable_code (made p) = name_code p.entry p.number
variable_code (own k) = k

-- the word of a place, by what the place is bound to
abbrev pub PlaceSays : Words → Addresses → ℕ → Option (Term Variable) → Type 0
PlaceSays w vs x None = (e : ℕ) × (decoded x ≡ Some (Unbound e))
PlaceSays w vs x (Some t) = Denotes w vs x t

-- the word of a new place: if it is unbound, nobody waits on it
abbrev pub FreshSays : Words → Addresses → ℕ → Option (Term Variable) → Type 0
FreshSays w vs x None = decoded x ≡ Some (Unbound 0)
FreshSays w vs x (Some t) = Denotes w vs x t

-- The words stand for a map of bindings. This is all of a state that a try sees.
pub record PlacesStand (w : Words) (vs : Addresses) (bound : Bindings) : Type 0 where
  -- the variables are places, whose numbers fit into names
  pub is_made : (v : Variable) (a : ℕ) → Listed vs v a → (j : Place) × (v ≡ made j) × (j.number < 268435456)
  -- the word before a place's is its name
  pub name : (v : Variable) (a : ℕ) → Listed vs v a → (0 < a) × At w (a - 1) (Small (pos (variable_code v)))
  -- and its word says what it is bound to
  pub word : (v : Variable) (a : ℕ) → Listed vs v a → (x : ℕ) × (w a ≡ Some x) × PlaceSays w vs x (find bound v)
  -- a place has one address, and an address is one place's
  pub once : (v u : Variable) (a b : ℕ) → Listed vs v a → Listed vs u b → (v ≡ u) ↔ (a ≡ b)

-- the link in a waiting entry leads to the entry at l, where 0 is none
abbrev pub LinkSays : Words → ℕ → ℕ → Type 0
LinkSays w a l = (At w a Nil × (l ≡ 0)) ⊎ (At w a (Cons l) × (0 < l))

-- the waiting list from the entry at e on: addresses of processes, each with the number of its hang
abbrev pub Hangs : Words → ℕ → WordList → Type 0
Hangs w e [] = e ≡ 0
Hangs w e (z ∷ zs) = (0 < e) × At w e (Raw z.0) × At w (e + 1) (Small (pos z.1)) × ((l : ℕ) × LinkSays w (e + 2) l × Hangs w l zs)

-- the word of a status, where no hang has a number above the limit
abbrev pub StatusSays : ℕ → ℕ → Status → Type 0
StatusSays limit x ready = decoded x ≡ Some (cell.Status stand.Ready)
StatusSays limit x finished = decoded x ≡ Some (cell.Status stand.Done)
StatusSays limit x (waiting ps) = (n : ℕ) × (decoded x ≡ Some (cell.Status (stand.Waiting n))) × (n ≤ limit)

-- the words from p on are those of a process: its status, its name, a goal to which its own leads
pub record ProcessSays (w : Words) (vs : Addresses) (bound : Bindings) (limit p : ℕ) (q : Process) : Type 0 where
  -- its status stands at its address
  pub status : (x : ℕ) × (w p ≡ Some x) × StatusSays limit x q.status
  -- then its name, and the goal
  pub name : At w (p + 1) (Small (pos (name_code q.name.entry q.name.number)))
  pub goal : GoalStands w vs bound p q.goal

-- the process x has the address p, where processes and their addresses are listed in one order
abbrev pub StandsAt : List ℕ → List Process → ℕ → Process → Type 0
StandsAt (a ∷ as') (q ∷ qs) p x = ((a ≡ p) × (q ≡ x)) ⊎ StandsAt as' qs p x
StandsAt _ _ p x = ⊥

-- where the places and the processes of a state have their words, in the state's order
pub record Book : Type 0 where
  -- its places
  pub places : Addresses
  -- its processes
  pub processes : List ℕ

-- the process of the state has its words at the address
abbrev pub ProcessAt : Book → State → ℕ → Process → Type 0
ProcessAt book s p x = StandsAt book.processes s.processes p x

-- the place has its word at the address
abbrev pub PlaceAt : Book → Place → ℕ → Type 0
PlaceAt book j a = Listed book.places (made j) a

-- so of the waiting list of each unbound place
abbrev pub OfLists : Book → Words → (Place → WordList → Type 0) → Type 0
OfLists book w P = (j : Place) (a e : ℕ) (zs : WordList) → PlaceAt book j a → At w a (Unbound e) → Hangs w e zs → P j zs

-- The words in use stand for the state. A place's word and a process's arguments say terms to which the state's own lead, so a variable
-- that is handed on from call to call is said in one step.
pub record StandsFor (book : Book) (w : Words) (s : State) : Type 0 where
  -- the book has the places and the processes of the state, in order, and each process once
  pub places : map (λ b. b.0) book.places ≡ map made s.places
  pub processes : length book.processes ≡ length s.processes
  pub once : (p q : ℕ) (x y : Process) → ProcessAt book s p x → ProcessAt book s q y
      → (is_same_process x.name y.name ≡ true → p ≡ q) × (p ≡ q → x ≡ y)
  -- their words say what they are: the places stand for the state's bindings with shorter ways
  pub short : Bindings
  pub shortened : AreShortened s.bound short
  pub says : PlacesStand w book.places short
  pub process : (p : ℕ) (x : Process) → ProcessAt book s p x → ProcessSays w book.places s.bound s.entries p x
  -- no other word in use is a status
  pub statuses : (a : ℕ) (d : Stand) → At w a (cell.Status d) → (x : Process) × ProcessAt book s a x
  -- each unbound place has a waiting list
  pub lists : (j : Place) (a e : ℕ) → PlaceAt book j a → At w a (Unbound e) → (zs : WordList) × Hangs w e zs
  -- of processes alone, with numbers of entries until now
  pub hangers : OfLists book w (λ j zs. (z : ℕ × ℕ) → Among zs z → ((x : Process) × ProcessAt book s z.0 x) × (z.1 ≤ s.entries))
  -- those of them wait on the place that are in the list with the number in their status; the others are left from earlier hangs
  pub hung : OfLists book w (λ j zs. (p n : ℕ) (x : Process) (ps : List Place) → ProcessAt book s p x → x.status ≡ waiting ps
      → At w p (cell.Status (stand.Waiting n)) → (is_listed j ps ≡ true) ↔ Among zs (p, n))
  -- processes wait on unbound places of the state
  pub waits : (p : ℕ) (x : Process) (ps : List Place) (j : Place) → ProcessAt book s p x → x.status ≡ waiting ps
      → is_listed j ps ≡ true → ((a : ℕ) × PlaceAt book j a) × (find s.bound (made j) ≡ None)
  -- places alone are bound, and no variable of a clause that is tried stands in a term that is bound: each term stays as it is when such
  -- variables get places
  pub own_free : BindsPlaces s.bound
  pub own_absent : (v : Variable) (t : Term Variable) (n : ℕ) → find s.bound v ≡ Some t → rename (settle n) t ≡ t
  -- no name has an entry above the number of entries
  pub dated_places : (j : Place) (a : ℕ) → PlaceAt book j a → j.entry ≤ s.entries
  pub dated_bound : (j : Place) (t : Term Variable) → find s.bound (made j) ≡ Some t → j.entry ≤ s.entries
  pub dated_processes : (p : ℕ) (x : Process) → ProcessAt book s p x → (x.name.entry ≤ s.entries) × (x.name.number < 268435456)
