-- The operators that stand as numbers, and which words are operations.
use Rattle.std.proofs.Common.{◌≡◌, ℕ, ◌+◌, ◌<◌, Bool, true, false, cond, Option, Some, None, refl, ap, ◌∙◌, subst, arith, eqb-true}
use Rattle.std.specs.Prelude.{ℤ, nat_eq}
use Rattle.fcp_model.specs.declared.term.ArithOp.{ArithOp}
use Rattle.fcp_model.specs.declared.term.ArithOp.TheVariants.{Add, Sub, Mul, Div, Mod}
use Rattle.fcp_model.specs.Places.{Variable}
use Rattle.fcp_model.specs.Terms.{Term, number, string, nil, cons, tuple, var, ro, first}
use Rattle.heap_words.specs.Cells.{decoded}
use Rattle.heap_words.specs.Trails.{Memory}
use Rattle.heap_words.specs.Refers.{parts}
use Rattle.heap_words.specs.declared.cell.Cell.{Cell}
use Rattle.heap_words.specs.declared.cell.Cell.TheVariants as cell
use Rattle.word_states.specs.Denoting.{operator_code}
use Rattle.word_states.specs.Numbers.{part_count}
use Rattle.unify_terms.specs.Denotes.{Naming, Denotes, NumberIn}
use Rattle.stored_expressions.specs.Listing.{tuple_of, operator_of, operator_in, located, operation_at, operation_of}

-- the number of an operator
operator_is : (n : ℕ) (o : ArithOp) → operator_of n ≡ Some o → n ≡ 66 + operator_code o
operator_is n o e = from_66 (nat_eq n 66) refl e
  where
    is : (p : ArithOp) (k : ℕ) → nat_eq n k ≡ true → k ≡ 66 + operator_code p → Some p ≡ Some o → n ≡ 66 + operator_code o
    is p k i j f = eqb-true n k i ∙ (j ∙ ap (λ (q : ArithOp). 66 + operator_code q) (let s : p ≡ o = cc in s))

    from_70 : (b : Bool) → nat_eq n 70 ≡ b → cond b (Some Mod) None ≡ Some o → n ≡ 66 + operator_code o
    from_70 true i f = is Mod 70 i refl f
    from_70 false i f = cc

    from_69 : (b : Bool) → nat_eq n 69 ≡ b → cond b (Some Div) (cond (nat_eq n 70) (Some Mod) None) ≡ Some o → n ≡ 66 + operator_code o
    from_69 true i f = is Div 69 i refl f
    from_69 false i f = from_70 (nat_eq n 70) refl f

    from_68 : (b : Bool) → nat_eq n 68 ≡ b → cond b (Some Mul) (cond (nat_eq n 69) (Some Div) (cond (nat_eq n 70) (Some Mod) None)) ≡ Some o
        → n ≡ 66 + operator_code o
    from_68 true i f = is Mul 68 i refl f
    from_68 false i f = from_69 (nat_eq n 69) refl f

    from_67 : (b : Bool) → nat_eq n 67 ≡ b
        → cond b (Some Sub) (cond (nat_eq n 68) (Some Mul) (cond (nat_eq n 69) (Some Div) (cond (nat_eq n 70) (Some Mod) None))) ≡ Some o
        → n ≡ 66 + operator_code o
    from_67 true i f = is Sub 67 i refl f
    from_67 false i f = from_68 (nat_eq n 68) refl f

    from_66 : (b : Bool) → nat_eq n 66 ≡ b
        → cond b (Some Add) (cond (nat_eq n 67) (Some Sub) (cond (nat_eq n 68) (Some Mul) (cond (nat_eq n 69) (Some Div)
        (cond (nat_eq n 70) (Some Mod) None)))) ≡ Some o
        → n ≡ 66 + operator_code o
    from_66 true i f = is Add 66 i refl f
    from_66 false i f = from_67 (nat_eq n 67) refl f

operator_found : (o : ArithOp) → operator_of (66 + operator_code o) ≡ Some o
operator_found Add = refl
operator_found Sub = refl
operator_found Mul = refl
operator_found Div = refl
operator_found Mod = refl

-- a tuple's number of parts is none
no_operator : (n : ℕ) → n < 66 → operator_of n ≡ None
no_operator n h = go (operator_of n) refl
  where
    go : (o : Option ArithOp) → operator_of n ≡ o → operator_of n ≡ None
    go None i = i
    go (Some o) i = absurd (let k : n ≡ 66 + operator_code o = operator_is n o i in omega arith)

-- an operator has two parts
pub two_parts : (o : ArithOp) → parts (66 + operator_code o) ≡ 2
two_parts Add = refl
two_parts Sub = refl
two_parts Mul = refl
two_parts Div = refl
two_parts Mod = refl

pub raw_of : (c : Option Cell) (o : ArithOp) → operator_in c ≡ Some o → c ≡ Some (cell.Raw (66 + operator_code o))
raw_of (Some (cell.Raw n)) o e = ap (λ (k : ℕ). Some (cell.Raw k)) (operator_is n o e)
raw_of None o e = cc
raw_of (Some (cell.Unbound a)) o e = cc
raw_of (Some (cell.Ref a)) o e = cc
raw_of (Some (cell.RoRef a)) o e = cc
raw_of (Some (cell.Small z)) o e = cc
raw_of (Some (cell.Wide a h)) o e = cc
raw_of (Some (cell.Str s)) o e = cc
raw_of (Some cell.Nil) o e = cc
raw_of (Some (cell.Cons a)) o e = cc
raw_of (Some (cell.Tuple a)) o e = cc
raw_of (Some (cell.Status d)) o e = cc
raw_of (Some (cell.Top a)) o e = cc

pub tuple_is : (c : Option Cell) (a : ℕ) → tuple_of c ≡ Some a → c ≡ Some (cell.Tuple a)
tuple_is (Some (cell.Tuple b)) a e = ap (λ (k : ℕ). Some (cell.Tuple k)) (let s : b ≡ a = cc in s)
tuple_is None a e = cc
tuple_is (Some (cell.Unbound b)) a e = cc
tuple_is (Some (cell.Ref b)) a e = cc
tuple_is (Some (cell.RoRef b)) a e = cc
tuple_is (Some (cell.Small z)) a e = cc
tuple_is (Some (cell.Wide b h)) a e = cc
tuple_is (Some (cell.Str s)) a e = cc
tuple_is (Some cell.Nil) a e = cc
tuple_is (Some (cell.Cons b)) a e = cc
tuple_is (Some (cell.Status d)) a e = cc
tuple_is (Some (cell.Raw n)) a e = cc
tuple_is (Some (cell.Top b)) a e = cc

located_is : (o : Option ArithOp) (a : ℕ) (p : ArithOp × ℕ) → located o a ≡ Some p → (o ≡ Some p.0) × (a ≡ p.1)
located_is None a p e = cc
located_is (Some o) a p e =
    let k : (o, a) ≡ p = cc in (ap (λ (z : ArithOp × ℕ). Some z.0) k, ap (λ (z : ArithOp × ℕ). z.1) k)

-- the words of an operation
pub operation_is : (m : Memory) (x : ℕ) (p : ArithOp × ℕ) → operation_of m x ≡ Some p
    → (decoded x ≡ Some (cell.Tuple p.1)) × (decoded (m p.1) ≡ Some (cell.Raw (66 + operator_code p.0)))
operation_is m x p e = go (tuple_of (decoded x)) refl e
  where
    go : (t : Option ℕ) → tuple_of (decoded x) ≡ t → operation_at m t ≡ Some p
        → (decoded x ≡ Some (cell.Tuple p.1)) × (decoded (m p.1) ≡ Some (cell.Raw (66 + operator_code p.0)))
    go None i f = cc
    go (Some a) i f =
        let l = located_is (operator_in (decoded (m a))) a p f in (
          tuple_is (decoded x) a i ∙ ap (λ (z : ℕ). Some (cell.Tuple z)) l.1,
          subst (λ (z : ℕ). decoded (m z) ≡ Some (cell.Raw (66 + operator_code p.0))) l.1 (raw_of (decoded (m a)) p.0 l.0),
        )

pub is_operation : (m : Memory) (x c : ℕ) (o : ArithOp) → decoded x ≡ Some (cell.Tuple c)
    → decoded (m c) ≡ Some (cell.Raw (66 + operator_code o)) → operation_of m x ≡ Some (o, c)
is_operation m x c o e f =
    ap (λ (d : Option Cell). operation_at m (tuple_of d)) e
    ∙ (ap (λ (d : Option Cell). located (operator_in d) c) f ∙ ap (λ (q : Option ArithOp). located q c) (operator_found o))

-- a word of a term is none
module _ (p : Naming) (m : Memory) (x : ℕ) where
  from_cell : (c : Cell) → decoded x ≡ Some c → tuple_of (Some c) ≡ None → operation_of m x ≡ None
  from_cell c e f = ap (λ (d : Option Cell). operation_at m (tuple_of d)) e ∙ ap (operation_at m) f

  number_no_operation : (c : Cell) (z : ℤ) → decoded x ≡ Some c → NumberIn m c z → operation_of m x ≡ None
  number_no_operation (cell.Small y) z e n = from_cell (cell.Small y) e refl
  number_no_operation (cell.Wide a h) z e n = from_cell (cell.Wide a h) e refl
  number_no_operation (cell.Unbound a) z e n = absurd n
  number_no_operation (cell.Ref a) z e n = absurd n
  number_no_operation (cell.RoRef a) z e n = absurd n
  number_no_operation (cell.Str s) z e n = absurd n
  number_no_operation cell.Nil z e n = absurd n
  number_no_operation (cell.Cons a) z e n = absurd n
  number_no_operation (cell.Tuple a) z e n = absurd n
  number_no_operation (cell.Status d) z e n = absurd n
  number_no_operation (cell.Raw k) z e n = absurd n
  number_no_operation (cell.Top a) z e n = absurd n

  pub term_no_operation : (t : Term Variable) → Denotes p m t x → operation_of m x ≡ None
  term_no_operation (number z) d = number_no_operation d.0 z d.1 d.2
  term_no_operation (string s) d = from_cell (cell.Str d.0) d.1 refl
  term_no_operation nil d = from_cell cell.Nil d refl
  term_no_operation (cons t u) d = from_cell (cell.Cons d.0) d.1 refl
  term_no_operation (tuple ts) d =
      ap (λ (c : Option Cell). operation_at m (tuple_of c)) d.1
      ∙ (ap (λ (c : Option Cell). located (operator_in c) d.0) d.2
      ∙ ap (λ (q : Option ArithOp). located q d.0) (no_operator (part_count ts) d.3))
  term_no_operation (var v) d = from_cell (cell.Ref d.0) d.1 refl
  term_no_operation (ro v) d = from_cell (cell.RoRef d.0) d.1 refl
  term_no_operation (first k) d = absurd d
