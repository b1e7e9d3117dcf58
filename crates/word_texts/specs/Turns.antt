-- What a list of items writes, with so many nodes left, in a memory under bindings. It is said of all words, also of such as stand
-- for no term.
use Rattle.std.specs.Prelude.{◌≡◌, ℕ, zero, suc, ◌+◌, ◌-◌, ◌<◌, ◌≤◌, ◌⊎◌, false, List, [], ◌∷◌, ◌++◌, Option, Some, None, codes}
use Rattle.heap_words.specs.Cells.{decoded}
use Rattle.heap_words.specs.Trails.{WordList, Memory}
use Rattle.heap_words.specs.declared.cell.Cell.{Cell}
use Rattle.heap_words.specs.declared.cell.Cell.TheVariants as cell
use Rattle.ro_unify.specs.declared.look.Look.{Look}
use Rattle.ro_unify.specs.declared.look.Look.TheVariants.{Writable, ReadOnly, Solid}
use Rattle.ro_unify.specs.declared.occurrence.Whole.{Whole}
use Rattle.ro_unify.specs.declared.occurrence.Whole.TheVariants as whole
use Rattle.ro_unify.specs.Value.{Values}
use Rattle.ro_unify.specs.Occurs.{whole_of, count_of}
use Rattle.fcp_model.specs.declared.names.Sym.{Sym}
use Rattle.fcp_model.specs.Spelling.{Bytes, string_text, name_at}
use Rattle.word_texts.specs.Leaves.{look_text}
use Rattle.word_texts.specs.declared.items.Bracket.{Bracket}
use Rattle.word_texts.specs.declared.items.Bracket.TheVariants.{Square, Round, Curly}
use Rattle.word_texts.specs.declared.items.Item.{Item}
use Rattle.word_texts.specs.declared.items.Item.TheVariants.{Term, Rest, Parts, Close}
use Rattle.word_texts.specs.declared.turns.Tail.{Tail}
use Rattle.word_texts.specs.declared.turns.Tail.TheVariants as tail

-- a closing bracket
abbrev pub closing : Bracket → Bytes
closing Square = codes "]"
closing Round = codes ")"
closing Curly = codes "}"

-- a value without parts, a pair or a tuple
abbrev pub whole_look : Look → Whole
whole_look (Solid x) = whole_of (decoded x)
whole_look (Writable a) = whole.Atom
whole_look (ReadOnly a) = whole.Atom

-- the rest of a list by its word: its end, a further pair, or anything else
abbrev pub tail_in : Option Cell → Tail
tail_in (Some cell.Nil) = tail.End
tail_in (Some (cell.Cons a)) = tail.Pair a
tail_in _ = tail.Other

-- and by its value
abbrev pub tail_look : Look → Tail
tail_look (Solid x) = tail_in (decoded x)
tail_look (Writable a) = tail.Other
tail_look (ReadOnly a) = tail.Other

-- the string that a word is
abbrev pub string_in : Option Cell → Option Sym
string_in (Some (cell.Str s)) = Some s
string_in _ = None

-- and that a value is
abbrev pub string_look : Look → Option Sym
string_look (Solid x) = string_in (decoded x)
string_look (Writable a) = None
string_look (ReadOnly a) = None

-- n parts, of which the first has its word after a, with commas between
abbrev pub part_items : Memory → ℕ → ℕ → List Item
part_items m a zero = []
part_items m a (suc n) = Term (m (a + 1)) ∷ Parts (a + 1) n ∷ []

-- a pair's two parts
abbrev pub pair_items : Memory → ℕ → List Item
pair_items m a = Term (m a) ∷ Rest (m (a + 1)) ∷ []

-- how many parts the tuple at a has
abbrev pub count_at : Memory → ℕ → ℕ
count_at m a = count_of (decoded (m a))

-- The string that is written before a parenthesis, where n parts come after a and k nodes are left: the value of the first part,
-- where that is a string, and there are more parts, and a node is left for it.
pub data Functor (bs : WordList) (m : Memory) (k n a : ℕ) (s : Option Sym) : Type 0 where
  few : (k ≡ 0) ⊎ (n < 2) → s ≡ None → Functor bs m k n a s
  first : (l : Look) → 0 < k → 1 < n → Values bs m false (m (a + 1)) l → string_look l ≡ s → Functor bs m k n a s

module _ (bs : WordList) (m : Memory) (names : List Bytes) where
  -- What the tuple at a comes to, for which a node was taken already: a text, the nodes that are left, and what comes next.
  pub data Opens : ℕ → ℕ → Bytes → ℕ → List Item → Type 0 where
    round : (k a : ℕ) (s : Sym) → Functor bs m k (count_at m a) a (Some s)
        → Opens k a (string_text (name_at names s.0) ++ codes "(") (k - 1) (part_items m (a + 1) (count_at m a - 1) ++ Close Round ∷ [])
    curly : (k a : ℕ) → Functor bs m k (count_at m a) a None → Opens k a (codes "{") k (part_items m a (count_at m a) ++ Close Curly ∷ [])

  -- What an item comes to, with so many nodes left.
  pub data Turns : ℕ → Item → Bytes → ℕ → List Item → Type 0 where
    -- where no node is left, `..` stands for a term; else it takes a node, and what comes next is its parts
    cut : (k w : ℕ) → k ≡ 0 → Turns k (Term w) (codes "..") 0 []
    leaf : (k w : ℕ) (l : Look) → 0 < k → Values bs m false w l → whole_look l ≡ whole.Atom
        → Turns k (Term w) (look_text m names l) (k - 1) []
    pair : (k w a : ℕ) (l : Look) → 0 < k → Values bs m false w l → whole_look l ≡ whole.Pair a
        → Turns k (Term w) (codes "[") (k - 1) (pair_items m a)
    tuple : (k w a : ℕ) (l : Look) (x : Bytes) (j : ℕ) (is : List Item) → 0 < k → Values bs m false w l → whole_look l ≡ whole.Tuple a
        → Opens (k - 1) a x j is → Turns k (Term w) x j is
    -- the rest of a list, up to its bracket: `|..` stands for it where no node is left
    rest_cut : (k w : ℕ) → k ≡ 0 → Turns k (Rest w) (codes "|..]") 0 []
    ends : (k w : ℕ) (l : Look) → 0 < k → Values bs m false w l → tail_look l ≡ tail.End → Turns k (Rest w) (codes "]") (k - 1) []
    goes : (k w a : ℕ) (l : Look) → 0 < k → Values bs m false w l → tail_look l ≡ tail.Pair a
        → Turns k (Rest w) (codes ",") (k - 1) (pair_items m a)
    -- any other rest is a term that takes its own node
    other : (k w : ℕ) (l : Look) → 0 < k → Values bs m false w l → tail_look l ≡ tail.Other
        → Turns k (Rest w) (codes "|") k (Term w ∷ Close Square ∷ [])
    -- further parts, each after a comma, and a closing bracket, take no node
    none : (k a n : ℕ) → n ≡ 0 → Turns k (Parts a n) [] k []
    more : (k a n : ℕ) → 0 < n → Turns k (Parts a n) (codes ",") k (part_items m a n)
    closes : (k : ℕ) (b : Bracket) → Turns k (Close b) (closing b) k []

  -- From the first item on: what an item comes to is written before the others. So many nodes, these items and this text become
  -- others; where no item is left, all was written.
  pub data Writes : ℕ → List Item → Bytes → ℕ → List Item → Bytes → Type 0 where
    still : (k : ℕ) (is : List Item) (text : Bytes) → Writes k is text k is text
    on : (k : ℕ) (i : Item) (is : List Item) (old x : Bytes) (j : ℕ) (js : List Item) (l : ℕ) (ls : List Item) (new : Bytes)
        → Turns k i x j js → Writes j (js ++ is) (old ++ x) l ls new → Writes k (i ∷ is) old l ls new

  -- what a call did for an item in front of others
  pub record Turned (k : ℕ) (i : Item) (is : List Item) (old : Bytes) (j : ℕ) (is' : List Item) (new : Bytes) : Type 0 where
    pub text : Bytes
    pub first : List Item
    pub turns : Turns k i text j first
    pub items : is' ≡ first ++ is
    pub appended : new ≡ old ++ text

  -- and for a tuple
  pub record Opened (k a : ℕ) (is : List Item) (old : Bytes) (j : ℕ) (is' : List Item) (new : Bytes) : Type 0 where
    pub text : Bytes
    pub first : List Item
    pub opens : Opens k a text j first
    pub items : is' ≡ first ++ is
    pub appended : new ≡ old ++ text

-- an item leads to known addresses alone
abbrev pub Leads : (ℕ → Type 0) → (ℕ → Type 0) → Item → Type 0
Leads knows leads (Term w) = leads w
Leads knows leads (Rest w) = leads w
Leads knows leads (Parts a n) = (b : ℕ) → a < b → b ≤ a + n → knows b
Leads knows leads (Close b) = Unit {0}

-- all items were written
abbrev pub WritesAll : WordList → Memory → List Bytes → ℕ → List Item → Bytes → Bytes → Type 0
WritesAll bs m names k is old new = (l : ℕ) × Writes bs m names k is old l [] new

-- or some of them
abbrev pub WritesSome : WordList → Memory → List Bytes → ℕ → List Item → Bytes → Bytes → Type 0
WritesSome bs m names k is old new = (l : ℕ) × (ls : List Item) × Writes bs m names k is old l ls new

-- the second text is the first one with more after it
abbrev pub Appends : Bytes → Bytes → Type 0
Appends old new = (x : Bytes) × (new ≡ old ++ x)
