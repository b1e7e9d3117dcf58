-- Arguments of a head that are left.
use Rattle.std.proofs.Common.{◌≡◌, ℕ, suc, ◌+◌, ◌<◌, Bool, true, false, List, [], ◌∷◌, ◌++◌, length, map, drop, None, refl, sym, ap, ◌∙◌, subst, arith}
use Rattle.std.specs.Prelude.{get_or, nat_lt, if◌then◌else◌}
use Rattle.std.proofs.Math.Seq.{drop-cons}
use Rattle.fcp_model.specs.declared.term.Term as source
use Rattle.fcp_model.specs.Terms.{Term, number, string, nil, cons, tuple, var, ro, first, Terms, none, more}
use Rattle.fcp_model.specs.HeadPairs.{mark, marks}
use Rattle.fcp_model.specs.Translation.{term_of}
use Rattle.head_code.specs.declared.emitter.Emitter.{Emitter}
use Rattle.machine_code.specs.Instructions.{Op, PutCons, PutTuple}
use Rattle.head_code.specs.declared.arguments.TheConstants.{MOST_UNMADE}
use Rattle.machine_code.specs.Machine.{count}
use Rattle.head_code.specs.TermCode.{width, put, puts}
use Rattle.head_code.specs.HeadCode.{unmade, made, get, joined, is_stocked, argument_code, head_code}
use Rattle.head_code.specs.Emitting.{Emits}
use Rattle.head_code.proofs.Emitting.{emits_on}
use Rattle.head_code.proofs.OpenLoops.{mark_width, marks_count}
use Rattle.head_code.proofs.PutLoops.{Remains, remains_as, fewer_remain}

-- a marked term is put as the term without marks
mutual
  pub mark_put : (t : Term ℕ) (met i n : ℕ) → put i n (mark met t).item ≡ put i n t
  mark_put (number z) met i n = refl
  mark_put (string s) met i n = refl
  mark_put nil met i n = refl
  mark_put (var k) met i n = by (nat_lt met k)
    where
      by : (b : Bool) → put i n (if b then first k else var k) ≡ put i n (var k)
      by true = refl
      by false = refl
  mark_put (ro k) met i n = refl
  mark_put (first k) met i n = refl
  mark_put (cons a b) met i n =
      (λ j. mark_put a met n (suc (suc n)) j
      ++ (put (suc n) (suc (suc (n + mark_width a met j))) (mark (mark met a).met b).item ++ PutCons i n (suc n) ∷ []))
      ∙ ap (λ l. put n (suc (suc n)) a ++ (l ++ PutCons i n (suc n) ∷ [])) (mark_put b (mark met a).met (suc n) (suc (suc (n + width a))))
  mark_put (tuple ts) met i n =
      (λ j. puts n (n + marks_count ts met j) (marks met ts).item ++ PutTuple i n (marks_count ts met j) None ∷ [])
      ∙ ap (λ l. l ++ PutTuple i n (count ts) None ∷ []) (marks_puts ts met n (n + count ts))

  pub marks_puts : (ts : Terms ℕ) (met i n : ℕ) → puts i n (marks met ts).item ≡ puts i n ts
  marks_puts none met i n = refl
  marks_puts (more t ts) met i n =
      (λ j. mark_put t met i n j ++ puts (suc i) (n + mark_width t met j) (marks (mark met t).met ts).item)
      ∙ ap (λ l. put i n t ++ l) (marks_puts ts (mark met t).met (suc i) (n + width t))

mark_stocked : (t : Term ℕ) (met : ℕ) (b : Bool) → is_stocked t ≡ b → is_stocked (mark met t).item ≡ b
mark_stocked t met b e = ap (nat_lt MOST_UNMADE) (mark_width t met) ∙ e

-- a wide term was unified
pub stocked_argument : (a b c : Emitter) (i n f p met : ℕ) (t : source.Term) → is_stocked (term_of t) ≡ true → p ≡ n + 1
    → f ≡ p + width (term_of t) → Emits a b (put n p (term_of t))
    → Emits b c (get (length b.instrs.items) i f (made n p) (mark met (term_of t)).item)
    → Emits a c (argument_code (length a.instrs.items) i n (mark met (term_of t)).item)
stocked_argument a b c i n f p met t is ep ef ab bc =
    let T = (mark met (term_of t)).item in
    let A = length a.instrs.items in
    let p' : p ≡ suc n = omega (arith, ep) in
    let code : put n p (term_of t) ≡ put n (suc n) T = (λ j. put n (p' j) (term_of t)) ∙ sym (mark_put (term_of t) met n (suc n)) in
    let here : length b.instrs.items ≡ A + length (put n (suc n) T) = ab.size ∙ ap (λ l. A + length l) code in
    let f' : f ≡ suc n + width T = omega (arith, ef, ep, mark_width (term_of t) met) in
    let whole : put n p (term_of t) ++ get (length b.instrs.items) i f (made n p) T ≡ argument_code A i n T =
    (λ j. code j ++ get (here j) i (f' j) (made n (p' j)) T)
    ∙ ap (λ b. elim b as (λ _. List Op) [
      | true ↦ joined A (put n (suc n) T)
          (λ q. get q i (suc n + width T) (made n (suc n)) T)
      | false ↦ get A i n unmade T
    ]) (sym (mark_stocked (term_of t) met true is)) in
    subst (λ l. Emits a c l) whole (emits_on a b c _ _ ab bc)

-- a small term was unified
pub small_argument : (a b : Emitter) (i n met : ℕ) (t : source.Term) → is_stocked (term_of t) ≡ false
    → Emits a b (get (length a.instrs.items) i n unmade (mark met (term_of t)).item)
    → Emits a b (argument_code (length a.instrs.items) i n (mark met (term_of t)).item)
small_argument a b i n met t is ab =
    let T = (mark met (term_of t)).item in
    let A = length a.instrs.items in
    subst (λ l. Emits a b l) (ap (λ b.
    elim b as (λ _. List Op) [
      | true ↦ joined A (put n (suc n) T)
          (λ q. get q i (suc n + width T) (made n (suc n)) T)
      | false ↦ get A i n unmade T
    ]) (sym (mark_stocked (term_of t) met false is))) ab

-- arguments are left
abbrev pub HeadLeft : Emitter → Emitter → List Op → ℕ → ℕ → ℕ → List source.Term → Type 0
HeadLeft a b whole i n met ts = Remains a b whole (head_code (length b.instrs.items) i n met (map term_of ts))

pub head_step : (a b c : Emitter) (whole : List Op) (i i' n met met' idx : ℕ) (ts : List source.Term) (x : source.Term) → idx < length ts
    → x ≡ get_or ts idx x → i' ≡ i + 1 → met' ≡ (mark met (term_of x)).met
    → Emits b c (argument_code (length b.instrs.items) i n (mark met (term_of x)).item)
    → HeadLeft a b whole i n met (drop idx ts) → HeadLeft a c whole i' n met' (drop (idx + 1) ts)
head_step a b c whole i i' n met met' idx ts x lt is ei em bc rem =
    let next : idx + 1 ≡ suc idx = omega arith in
    let cut : drop idx ts ≡ x ∷ drop (idx + 1) ts = drop-cons ts idx x lt ∙ (λ k. sym is k ∷ drop (sym next k) ts) in
    let us = map term_of (drop (idx + 1) ts) in
    let g = argument_code (length b.instrs.items) i n (mark met (term_of x)).item in
    let here : length b.instrs.items + length g ≡ length c.instrs.items = sym bc.size in
    let ei' : suc i ≡ i' = omega (arith, ei) in
    fewer_remain a b c whole g (head_code (length c.instrs.items) i' n met' us)
    (remains_as a b whole _ _ (ap (λ z. head_code (length b.instrs.items) i n met (map term_of z)) cut
    ∙ (λ k. g ++ head_code (here k) (ei' k) n (sym em k) us)) rem) bc
