-- The laws of the instructions that open a value: a pair or a tuple gives its parts to slots, and any other goes on to where the term is
-- put.
use Rattle.std.specs.Prelude.{◌≡◌, ℕ, suc, ◌+◌, Bool, false, List, [], ◌∷◌, Option, Some, None, if◌then◌else◌, nat_eq, slice_get}
use Rattle.heap_words.specs.Cells.{decoded}
use Rattle.heap_words.specs.Trails.{Memory}
use Rattle.heap_words.specs.declared.cell.Cell.{Cell}
use Rattle.heap_words.specs.declared.cell.Cell.TheVariants.{Cons, Tuple, Raw}
use Rattle.ro_unify.specs.declared.look.Look.{Look}
use Rattle.ro_unify.specs.declared.look.Look.TheVariants.{Solid}
use Rattle.ro_unify.specs.Value.{Values}
use Rattle.ro_unify.specs.Occurs.{words_after}
use Rattle.word_states.specs.Pieces.{with_own}
use Rattle.unify_terms.specs.WordsOfTries.{memory_of}
use Rattle.machine_code.specs.Instructions.{GetCons, GetTuple}
use Rattle.trial_laws.specs.AtHand.{AtHand, term_word, Leads}
use Rattle.trial_laws.specs.Laws.{Always, holding}

-- the address of a pair's parts
abbrev pub pair_in : Option Cell → Option ℕ
pair_in (Some (Cons c)) = Some c
pair_in _ = None

-- where a value is a pair
abbrev pub pair_at : Look → Option ℕ
pair_at (Solid x) = pair_in (decoded x)
pair_at _ = None

-- the cell is the number of so many parts
abbrev pub is_count : ℕ → Option Cell → Bool
is_count n (Some (Raw m)) = nat_eq m n
is_count n _ = false

-- the address of a tuple's number of parts, which are so many
abbrev pub tuple_in : Memory → ℕ → Option Cell → Option ℕ
tuple_in m n (Some (Tuple c)) = if is_count n (decoded (m c)) then Some c else None
tuple_in m n _ = None

-- where a value is a tuple of so many parts
abbrev pub tuple_at : Memory → ℕ → Look → Option ℕ
tuple_at m n (Solid x) = tuple_in m n (decoded x)
tuple_at m n _ = None

-- slots from i on take these terms' words
abbrev pub holding_all : AtHand → ℕ → List ℕ → AtHand
holding_all r i [] = r
holding_all r i (x ∷ xs) = holding_all (holding r i x false) (suc i) xs

-- the words of the store and of the try, in which a look finds what is at hand
abbrev pub LookAt : AtHand → Memory → ℕ → Look → Type 0
LookAt r m i l = Values r.binds m false (term_word r i) l

-- a pair gives its two parts
abbrev pub LawOfPairOpened : Type 0
LawOfPairOpened = Always (λ w vs bound ops args at r t. (i left right put c : ℕ) (l : Look)
    → slice_get ops at ≡ Some (GetCons i left right put)
    → LookAt r (memory_of (with_own r.pieces w)) i l → pair_at l ≡ Some c
    → Leads w vs bound ops args at t (suc at)
    (holding (holding r left (memory_of (with_own r.pieces w) c) false) right (memory_of (with_own r.pieces w) (c + 1)) false))

-- and what is none goes on to `put`
abbrev pub LawOfNoPair : Type 0
LawOfNoPair = Always (λ w vs bound ops args at r t. (i left right put : ℕ) (l : Look) → slice_get ops at ≡ Some (GetCons i left right put)
    → LookAt r (memory_of (with_own r.pieces w)) i l → pair_at l ≡ None → Leads w vs bound ops args at t put r)

-- a tuple gives its parts
abbrev pub LawOfTupleOpened : Type 0
LawOfTupleOpened = Always (λ w vs bound ops args at r t. (i first parts put c : ℕ) (l : Look)
    → slice_get ops at ≡ Some (GetTuple i first parts put) → LookAt r (memory_of (with_own r.pieces w)) i l
    → tuple_at (memory_of (with_own r.pieces w)) parts l ≡ Some c
    → Leads w vs bound ops args at t (suc at) (holding_all r first (words_after (memory_of (with_own r.pieces w)) c parts)))

abbrev pub LawOfNoTuple : Type 0
LawOfNoTuple = Always (λ w vs bound ops args at r t. (i first parts put : ℕ) (l : Look)
    → slice_get ops at ≡ Some (GetTuple i first parts put)
    → LookAt r (memory_of (with_own r.pieces w)) i l → tuple_at (memory_of (with_own r.pieces w)) parts l ≡ None
    → Leads w vs bound ops args at t put r)
