-- The code that unifies a goal's arguments with a clause's head.
use Rattle.std.specs.Prelude.{ℕ, suc, ◌+◌, nat_lt, Bool, true, false, List, [], ◌∷◌, ◌++◌, length}
use Rattle.fcp_model.specs.Terms.{Term, number, string, nil, cons, tuple, var, ro, first, Terms, none, more}
use Rattle.fcp_model.specs.HeadPairs.{mark, marks}
use Rattle.head_code.specs.declared.arguments.TheConstants.{MOST_UNMADE}
use Rattle.machine_code.specs.Instructions.{Op, GetFirst, GetCons, GetTuple, Unify, Jump}
use Rattle.machine_code.specs.Machine.{count}
use Rattle.head_code.specs.TermCode.{width, put}

-- whether a head's term stands in a slot already, with its parts in the slots from a second one on
pub data Stock : Type 0 where
  unmade : Stock
  made : ℕ → ℕ → Stock

-- the stock of a pair's parts, the first of which has so many slots for parts of its own
abbrev pub left_stock : Stock → Stock
left_stock unmade = unmade
left_stock (made q n) = made n (suc (suc n))

abbrev pub right_stock : ℕ → Stock → Stock
right_stock w unmade = unmade
right_stock w (made q n) = made (suc n) (suc (suc (n + w)))

-- the stock of a tuple's parts
abbrev pub part_stock : ℕ → Stock → Stock
part_stock parts unmade = unmade
part_stock parts (made q n) = made n (n + parts)

-- the stock of the next part
abbrev pub next_stock : ℕ → Stock → Stock
next_stock w unmade = unmade
next_stock w (made q n) = made (suc q) (n + w)

-- slot i is unified with the head's term, which is put first where it does not stand in a slot
abbrev pub ask : ℕ → ℕ → Stock → Term ℕ → List Op
ask i n unmade t = put n (suc n) t ++ Unify i n ∷ []
ask i n (made q p) t = Unify i q ∷ []

-- code, and the code that stands after it
abbrev pub joined : ℕ → List Op → (ℕ → List Op) → List Op
joined at xs f = xs ++ f (at + length xs)

-- an instruction that opens a value, the code for its parts, and what is done instead where it cannot be opened
abbrev pub between : ℕ → (ℕ → Op) → List Op → List Op → List Op
between at opener inner other = opener (suc (suc at + length inner)) ∷ (inner ++ Jump (suc (suc at + length inner) + length other) ∷ other)

-- what stands after the code for parts: a jump, and the code for a value that cannot be opened, where the term is put
abbrev pub unopened : ℕ → ℕ → ℕ → Term ℕ → List Op
unopened at i n t = Jump (suc at + length (ask i n unmade t)) ∷ ask i n unmade t

-- The code at a position that unifies slot i with a head's term whose first occurrences are marked: pairs from the left,
-- depth first. The slots from n on are free.
abbrev mutual
  pub get : ℕ → ℕ → ℕ → Stock → Term ℕ → List Op
  get at i n w (first k) = GetFirst i k ∷ []
  get at i n w (cons a b) =
      between at (GetCons i n (suc n))
      (joined (suc at) (get (suc at) n (suc (suc n)) (left_stock w) a) (λ p. get p (suc n) (suc (suc n)) (right_stock (width a) w) b))
      (ask i n w (cons a b))
  get at i n w (tuple ts) =
      between at (GetTuple i n (count ts)) (gets (suc at) n (n + count ts) (part_stock (count ts) w) ts) (ask i n w (tuple ts))
  get at i n w (number z) = ask i n w (number z)
  get at i n w (string s) = ask i n w (string s)
  get at i n w nil = ask i n w nil
  get at i n w (var k) = ask i n w (var k)
  get at i n w (ro k) = ask i n w (ro k)

  -- the same for the slots from i on and as many terms
  pub gets : ℕ → ℕ → ℕ → Stock → Terms ℕ → List Op
  gets at i n w none = []
  gets at i n w (more t ts) = joined at (get at i n w t) (λ p. gets p (suc i) n (next_stock (width t) w) ts)

-- the code for a term as it was read, where variables up to `met` were met before it; it stands in slot q, its parts from p on
abbrev pub get_made : ℕ → ℕ → ℕ → ℕ → ℕ → ℕ → Term ℕ → List Op
get_made at i n q p met t = get at i n (made q p) (mark met t).item

abbrev pub gets_made : ℕ → ℕ → ℕ → ℕ → ℕ → ℕ → Terms ℕ → List Op
gets_made at i n q p met ts = gets at i n (made q p) (marks met ts).item

-- the same for a term that is put only where the goal's side cannot be opened
abbrev pub get_unmade : ℕ → ℕ → ℕ → ℕ → Term ℕ → List Op
get_unmade at i n met t = get at i n unmade (mark met t).item

abbrev pub gets_unmade : ℕ → ℕ → ℕ → ℕ → Terms ℕ → List Op
gets_unmade at i n met ts = gets at i n unmade (marks met ts).item

-- whether a head's term is put before it is unified, so that each of its parts is put once: each wide one
abbrev pub is_stocked : Term ℕ → Bool
is_stocked t = nat_lt MOST_UNMADE (width t)

-- the code of one argument of a head
abbrev pub argument_code : ℕ → ℕ → ℕ → Term ℕ → List Op
argument_code at i n t =
    elim (is_stocked t) [
      | true ↦ joined at (put n (suc n) t)
          (λ p. get p i (suc n + width t) (made n (suc n)) t)
      | false ↦ get at i n unmade t
    ]

-- the code of a head from its i-th argument on; `met` is the greatest variable met so far
abbrev pub head_code : ℕ → ℕ → ℕ → ℕ → List (Term ℕ) → List Op
head_code at i n met [] = []
head_code at i n met (t ∷ ts) = joined at (argument_code at i n (mark met t).item) (λ p. head_code p (suc i) n (mark met t).met ts)
