-- The tests of the code that is emitted have the sides of their kinds.
use Rattle.std.proofs.Common.{ℕ, suc, ◌+◌, Bool, true, false, List, [], ◌∷◌, ◌++◌, length}
use Rattle.fcp_model.specs.Terms.{Term, number, string, nil, cons, tuple, var, ro, first, Terms, none, more}
use Rattle.fcp_model.specs.HeadPairs.{mark}
use Rattle.fcp_model.specs.Programs.{Clause, Program}
use Rattle.machine_code.specs.Instructions as ins
use Rattle.machine_code.specs.Instructions.{Op}
use Rattle.machine_code.specs.Machine.{count}
use Rattle.head_code.specs.TermCode.{width, put}
use Rattle.head_code.specs.HeadCode.{Stock, unmade, made, left_stock, right_stock, part_stock, next_stock, ask, joined, between, get, gets, is_stocked, argument_code, head_code}
use Rattle.clause_compiler.specs.ClauseCode.{clause_code, clauses_code, procedures_code}
use Rattle.machine_code.specs.Each.{Each}
use Rattle.machine_code.specs.Sound.{IsFormed}
use Rattle.machine_code.proofs.Each.{each_append}
use Rattle.clause_compiler.proofs.Straight.{are_formed, put_straight, rest_straight}

abbrev AreFormed : List Op → Type 0
AreFormed = Each IsFormed

both : (xs ys : List Op) → AreFormed xs → AreFormed ys → AreFormed (xs ++ ys)
both = each_append IsFormed

ask_formed : (w : Stock) (t : Term ℕ) (i n : ℕ) → AreFormed (ask i n w t)
ask_formed unmade t i n = both _ _ (are_formed _ (put_straight t n (suc n))) (tt, tt)
ask_formed (made q p) t i n = (tt, tt)

between_formed : (at : ℕ) (opener : ℕ → Op) (inner other : List Op) → ((p : ℕ) → IsFormed (opener p)) → AreFormed inner → AreFormed other
    → AreFormed (between at opener inner other)
between_formed at opener inner other h k o = (h (suc (suc at + length inner)), both inner _ k (tt, o))

mutual
  get_formed : (t : Term ℕ) (at i n : ℕ) (w : Stock) → AreFormed (get at i n w t)
  get_formed (first k) at i n w = (tt, tt)
  get_formed (number z) at i n w = ask_formed w (number z) i n
  get_formed (string s) at i n w = ask_formed w (string s) i n
  get_formed nil at i n w = ask_formed w nil i n
  get_formed (var k) at i n w = ask_formed w (var k) i n
  get_formed (ro k) at i n w = ask_formed w (ro k) i n
  get_formed (cons a b) at i n w =
      let ga = get (suc at) n (suc (suc n)) (left_stock w) a in
      let gb = get (suc at + length ga) (suc n) (suc (suc n)) (right_stock (width a) w) b in
      between_formed at (ins.GetCons i n (suc n)) (ga ++ gb) (ask i n w (cons a b)) (λ p. tt)
      (both ga gb (get_formed a (suc at) n (suc (suc n)) (left_stock w))
      (get_formed b (suc at + length ga) (suc n) (suc (suc n)) (right_stock (width a) w))) (ask_formed w (cons a b) i n)
  get_formed (tuple ts) at i n w =
      between_formed at (ins.GetTuple i n (count ts)) (gets (suc at) n (n + count ts) (part_stock (count ts) w) ts) (ask i n w (tuple ts))
      (λ p. tt)
      (gets_formed ts (suc at) n (n + count ts) (part_stock (count ts) w)) (ask_formed w (tuple ts) i n)

  gets_formed : (ts : Terms ℕ) (at i n : ℕ) (w : Stock) → AreFormed (gets at i n w ts)
  gets_formed none at i n w = tt
  gets_formed (more t ts) at i n w =
      let g = get at i n w t in
      both g (gets (at + length g) (suc i) n (next_stock (width t) w) ts) (get_formed t at i n w)
      (gets_formed ts (at + length g) (suc i) n (next_stock (width t) w))

argument_formed : (t : Term ℕ) (at i n : ℕ) → AreFormed (argument_code at i n t)
argument_formed t at i n = by (is_stocked t)
  where
    by : (b : Bool) → AreFormed (elim b [
      | true ↦ joined at (put n (suc n) t)
          (λ p. get p i (suc n + width t) (made n (suc n)) t)
      | false ↦ get at i n unmade t
    ])
    by true =
        both (put n (suc n) t) _ (are_formed _ (put_straight t n (suc n)))
        (get_formed t (at + length (put n (suc n) t)) i (suc n + width t) (made n (suc n)))
    by false = get_formed t at i n unmade

head_formed : (ts : List (Term ℕ)) (at i n met : ℕ) → AreFormed (head_code at i n met ts)
head_formed [] at i n met = tt
head_formed (t ∷ ts) at i n met =
    let c = argument_code at i n (mark met t).item in
    both c _ (argument_formed (mark met t).item at i n) (head_formed ts (at + length c) (suc i) n (mark met t).met)

clause_formed : (c : Clause) (at k : ℕ) → AreFormed (clause_code at k c)
clause_formed c at k =
    let n = length c.args in (
      tt,
      both (head_code (suc at) 0 n 0 c.args) _ (head_formed c.args (suc at) 0 n 0) (are_formed _ (rest_straight c n)),
    )

clauses_formed : (cs : List Clause) (at k : ℕ) → AreFormed (clauses_code at k cs)
clauses_formed [] at k = (tt, tt)
clauses_formed (c ∷ cs) at k = let g = clause_code at k c in both g _ (clause_formed c at k) (clauses_formed cs (at + length g) (suc k))

pub procedures_formed : (m : Program) (at : ℕ) → AreFormed (procedures_code at m)
procedures_formed [] at = tt
procedures_formed (d ∷ m) at =
    let g = clauses_code at 1 d.clauses in both g _ (clauses_formed d.clauses at 1) (procedures_formed m (at + length g))
