-- The code of small terms of a head.
use Rattle.std.proofs.Common.{◌≡◌, ℕ, suc, ◌+◌, ◌<◌, List, [], ◌∷◌, ◌++◌, length, map, drop, refl, sym, ap, ◌∙◌, subst, arith}
use Rattle.std.specs.Prelude.{get_or, slice_set}
use Rattle.std.proofs.Math.Seq.{drop-cons}
use Rattle.fcp_model.specs.declared.term.Term as source
use Rattle.fcp_model.specs.declared.term.Term.{Cons, Tuple}
use Rattle.fcp_model.specs.Terms.{Term, tuple}
use Rattle.fcp_model.specs.HeadPairs.{mark, marks}
use Rattle.fcp_model.specs.Translation.{term_of, terms_of}
use Rattle.machine_code.specs.declared.instr.Instr.{Instr}
use Rattle.machine_code.specs.declared.instr.Instr.TheVariants as instr
use Rattle.head_code.specs.declared.emitter.Emitter.{Emitter}
use Rattle.machine_code.specs.Instructions.{Op, GetCons, GetTuple, Unify, Jump}
use Rattle.machine_code.specs.Machine.{count}
use Rattle.head_code.specs.TermCode.{put}
use Rattle.head_code.specs.HeadCode.{unmade, ask, between, get, gets}
use Rattle.head_code.specs.Emitting.{Emits, plain_op}
use Rattle.head_code.proofs.Emitting.{emits_on}
use Rattle.head_code.proofs.Patches.{patched}
use Rattle.head_code.proofs.PutLoops.{Remains, remains_as, fewer_remain, tuple_of, count_of}
use Rattle.head_code.proofs.OpenLoops.{marked_pair, marks_count}
use Rattle.head_code.proofs.ArgumentLoops.{mark_put}

-- a term was put and unified
pub whole_asked : (a b c : Emitter) (i n p : ℕ) (t : Term ℕ) → p ≡ n + 1 → Emits a b (put n p t) → Emits b c (Unify i n ∷ [])
    → Emits a c (ask i n unmade t)
whole_asked a b c i n p t ep ab bc =
    let p' : p ≡ suc n = omega (arith, ep) in
    subst (λ k. Emits a c (put n k t ++ Unify i n ∷ [])) p' (emits_on a b c _ _ ab bc)

-- a marked term is put and unified as the term without marks
mark_asked : (t : Term ℕ) (met i n : ℕ) → ask i n unmade (mark met t).item ≡ ask i n unmade t
mark_asked t met i n = ap (λ l. l ++ Unify i n ∷ []) (mark_put t met n (suc n))

-- the code that is jumped over
pub unopened_emitted : (a b c d : Emitter) (xs : List Op) (jump to : ℕ) → jump ≡ length a.instrs.items → to ≡ length c.instrs.items
    → Emits a b (Jump 0 ∷ []) → Emits b c xs
    → d.instrs.items ≡ slice_set c.instrs.items jump (instr.Jump to) → d.smalls.keys ≡ c.smalls.keys → d.steps.items ≡ c.steps.items
    → Emits a d (Jump (suc (length a.instrs.items) + length xs) ∷ xs)
unopened_emitted a b c d xs jump to ej et ab bc di dm ds =
    let to' : to ≡ suc (length a.instrs.items) + length xs = omega (arith, et, ab.size, bc.size) in
    let jump' : jump ≡ length a.instrs.items + 0 = omega (arith, ej) in
    subst (λ k. Emits a d (Jump k ∷ xs)) to'
    (patched a c d jump (instr.Jump to) [] (Jump 0) xs jump' di dm ds tt (emits_on a b c (Jump 0 ∷ []) xs ab bc))

-- what an instruction opens, and the code that stands for a value that it cannot open
opened_emitted : (a b c d e : Emitter) (o : Op) (i : Instr) (opener : ℕ → Op) (inner other : List Op) (start put to : ℕ)
    → start ≡ length a.instrs.items → put ≡ length c.instrs.items + 1 → to ≡ suc (length c.instrs.items) + length other
    → Emits a b (o ∷ []) → Emits b c inner → Emits c d (Jump to ∷ other)
    → ((x : Emitter) → Emits a d (o ∷ (inner ++ Jump to ∷ other)) → Emits a e (opener put ∷ (inner ++ Jump to ∷ other)))
    → Emits a e (between (length a.instrs.items) opener inner other)
opened_emitted a b c d e o i opener inner other start put to es ep et ab bc cd patch =
    let A = length a.instrs.items in
    let put' : put ≡ suc (suc A + length inner) = omega (arith, ep, ab.size, bc.size) in
    let to' : to ≡ suc (suc A + length inner) + length other = omega (arith, et, ab.size, bc.size) in
    let all = emits_on a b d (o ∷ []) (inner ++ Jump to ∷ other) ab (emits_on b c d inner (Jump to ∷ other) bc cd) in
    subst (λ l. Emits a e l) (λ k. opener (put' k) ∷ (inner ++ Jump (to' k) ∷ other)) (patch a all)

pair_emitted : (a b c d e f : Emitter) (i n r g start met met' p : ℕ) (t h u h' u' : source.Term) → t ≡ Cons h u → h' ≡ h → u' ≡ u
    → start ≡ length a.instrs.items → r ≡ n + 1 → g ≡ n + 2 → met' ≡ (mark met (term_of h')).met
    → Emits a b (GetCons i n r 0 ∷ []) → Emits b c (get (length b.instrs.items) n g unmade (mark met (term_of h')).item)
    → Emits c d (get (length c.instrs.items) r g unmade (mark met' (term_of u')).item)
    → Emits d e (Jump (suc (length d.instrs.items) + length (ask i n unmade (term_of t))) ∷ ask i n unmade (term_of t))
    → p ≡ length d.instrs.items + 1
    → f.instrs.items ≡ slice_set e.instrs.items start (instr.GetCons i n r p) → f.smalls.keys ≡ e.smalls.keys
    → f.steps.items ≡ e.steps.items
    → Emits a f (get (length a.instrs.items) i n unmade (mark met (term_of t)).item)
pair_emitted a b c d e f i n r g start met met' p t h u h' u' et eh eu es er eg em ab bc cd de ep fi fm fs =
    let A = length a.instrs.items in
    let x = (mark met (term_of h')).item in
    let y = (mark met' (term_of u')).item in
    let gx = get (length b.instrs.items) n g unmade x in
    let gy = get (length c.instrs.items) r g unmade y in
    let other = ask i n unmade (term_of t) in
    let start' : start ≡ A + 0 = omega (arith, es) in
    let all =
    opened_emitted a b d e f (GetCons i n r 0) (instr.GetCons i n r p) (GetCons i n r) (gx ++ gy) other start p _ es ep refl ab
    (emits_on b c d gx gy bc cd) de
    (λ z k. patched a e f start (instr.GetCons i n r p) [] (GetCons i n r 0) ((gx ++ gy) ++ Jump _ ∷ other) start' fi fm fs tt k) in
    let b1 : length b.instrs.items ≡ suc A = omega (arith, ab.size) in
    let r' : r ≡ suc n = omega (arith, er) in
    let g' : g ≡ suc (suc n) = omega (arith, eg) in
    let fx = get (suc A) n (suc (suc n)) unmade x in
    let front : gx ≡ fx = λ k. get (b1 k) n (g' k) unmade x in
    let c1 : length c.instrs.items ≡ suc A + length fx = omega (arith, b1, bc.size, ap length front) in
    let inner : gx ++ gy ≡ fx ++ get (suc A + length fx) (suc n) (suc (suc n)) unmade y =
    λ k. front k ++ get (c1 k) (r' k) (g' k) unmade y in
    let same : other ≡ ask i n unmade (mark met (term_of t)).item = sym (mark_asked (term_of t) met i n) in
    let shape = marked_pair t h u h' u' met met' et eh eu em in
    subst (λ l. Emits a f l) ((λ k. between A (GetCons i n (r' k)) (inner k) ((same ∙ ap (ask i n unmade) shape) k))
    ∙ ap (get A i n unmade) (sym shape)) all

-- a pair was unified
pub small_pair : (a b c d e f : Emitter) (i n r g start met met' p : ℕ) (t h u h' u' : source.Term) (x y : Instr) → t ≡ Cons h u → h' ≡ h
    → u' ≡ u → start ≡ length a.instrs.items → r ≡ n + 1 → g ≡ n + 2 → met' ≡ (mark met (term_of h')).met
    → x ≡ instr.GetCons i n r 0 → y ≡ instr.GetCons i n r p
    → Emits a b (plain_op x ∷ []) → Emits b c (get (length b.instrs.items) n g unmade (mark met (term_of h')).item)
    → Emits c d (get (length c.instrs.items) r g unmade (mark met' (term_of u')).item)
    → Emits d e (Jump (suc (length d.instrs.items) + length (ask i n unmade (term_of t))) ∷ ask i n unmade (term_of t))
    → p ≡ length d.instrs.items + 1
    → f.instrs.items ≡ slice_set e.instrs.items start y → f.smalls.keys ≡ e.smalls.keys → f.steps.items ≡ e.steps.items
    → Emits a f (get (length a.instrs.items) i n unmade (mark met (term_of t)).item)
small_pair a b c d e f i n r g start met met' p t h u h' u' x y et eh eu es er eg em ex ey ab bc cd de ep fi fm fs =
    pair_emitted a b c d e f i n r g start met met' p t h u h' u' et eh eu es er eg em
    (subst (λ z. Emits a b (plain_op z ∷ [])) ex ab) bc cd de ep (fi ∙ ap (slice_set e.instrs.items start) ey) fm fs

tuple_emitted : (a b c d e : Emitter) (i n g start met k p : ℕ) (t : source.Term) (ts ts' : List source.Term) → t ≡ Tuple ts → ts' ≡ ts
    → start ≡ length a.instrs.items → k ≡ length ts' → g ≡ n + k
    → Emits a b (GetTuple i n k 0 ∷ []) → Emits b c (gets (length b.instrs.items) n g unmade (marks met (terms_of (map term_of ts'))).item)
    → Emits c d (Jump (suc (length c.instrs.items) + length (ask i n unmade (term_of t))) ∷ ask i n unmade (term_of t))
    → p ≡ length c.instrs.items + 1
    → e.instrs.items ≡ slice_set d.instrs.items start (instr.GetTuple i n k p) → e.smalls.keys ≡ d.smalls.keys
    → e.steps.items ≡ d.steps.items
    → Emits a e (get (length a.instrs.items) i n unmade (mark met (term_of t)).item)
tuple_emitted a b c d e i n g start met k p t ts ts' et ets es ek eg ab bc cd ep fi fm fs =
    let A = length a.instrs.items in
    let us = terms_of (map term_of ts') in
    let xs = (marks met us).item in
    let gs = gets (length b.instrs.items) n g unmade xs in
    let other = ask i n unmade (term_of t) in
    let start' : start ≡ A + 0 = omega (arith, es) in
    let all = opened_emitted a b c d e (GetTuple i n k 0) (instr.GetTuple i n k p) (GetTuple i n k) gs other start p _ es ep refl ab bc cd
    (λ z q. patched a d e start (instr.GetTuple i n k p) [] (GetTuple i n k 0) (gs ++ Jump _ ∷ other) start' fi fm fs tt q) in
    let shape : term_of t ≡ tuple us = tuple_of t ts et ∙ ap (λ l. tuple (terms_of (map term_of l))) (sym ets) in
    let kc : k ≡ count xs = omega (arith, marks_count us met, count_of ts', ek) in
    let b1 : length b.instrs.items ≡ suc A = omega (arith, ab.size) in
    let g' : g ≡ n + count xs = omega (arith, kc, eg) in
    let inner : gs ≡ gets (suc A) n (n + count xs) unmade xs = λ j. gets (b1 j) n (g' j) unmade xs in
    let same : other ≡ ask i n unmade (tuple xs) =
    sym (mark_asked (term_of t) met i n) ∙ ap (λ z. ask i n unmade (mark met z).item) shape in
    subst (λ l. Emits a e l) ((λ j. between A (GetTuple i n (kc j)) (inner j) (same j))
    ∙ ap (λ z. get A i n unmade (mark met z).item) (sym shape)) all

-- a tuple was unified
pub small_tuple : (a b c d e : Emitter) (i n g start met k p : ℕ) (t : source.Term) (ts ts' : List source.Term) (x y : Instr) → t ≡ Tuple ts
    → ts' ≡ ts → start ≡ length a.instrs.items → k ≡ length ts' → g ≡ n + k → x ≡ instr.GetTuple i n k 0 → y ≡ instr.GetTuple i n k p
    → Emits a b (plain_op x ∷ []) → Emits b c (gets (length b.instrs.items) n g unmade (marks met (terms_of (map term_of ts'))).item)
    → Emits c d (Jump (suc (length c.instrs.items) + length (ask i n unmade (term_of t))) ∷ ask i n unmade (term_of t))
    → p ≡ length c.instrs.items + 1
    → e.instrs.items ≡ slice_set d.instrs.items start y → e.smalls.keys ≡ d.smalls.keys → e.steps.items ≡ d.steps.items
    → Emits a e (get (length a.instrs.items) i n unmade (mark met (term_of t)).item)
small_tuple a b c d e i n g start met k p t ts ts' x y et ets es ek eg ex ey ab bc cd ep fi fm fs =
    tuple_emitted a b c d e i n g start met k p t ts ts' et ets es ek eg (subst (λ z. Emits a b (plain_op z ∷ [])) ex ab) bc cd ep
    (fi ∙ ap (slice_set d.instrs.items start) ey) fm fs

-- parts of a small tuple are left
abbrev pub SmallLeft : Emitter → Emitter → List Op → ℕ → ℕ → ℕ → List source.Term → ℕ → Type 0
SmallLeft a b whole i n met ts m =
    Remains a b whole (gets (length b.instrs.items) i n unmade (marks met (terms_of (map term_of ts))).item)
    × ((marks met (terms_of (map term_of ts))).met ≡ m)

pub small_step : (a b c : Emitter) (whole : List Op) (i i' n met met' m idx : ℕ) (ts : List source.Term) (x : source.Term)
    → idx < length ts → x ≡ get_or ts idx x → i' ≡ i + 1 → met' ≡ (mark met (term_of x)).met
    → Emits b c (get (length b.instrs.items) i n unmade (mark met (term_of x)).item)
    → SmallLeft a b whole i n met (drop idx ts) m → SmallLeft a c whole i' n met' (drop (idx + 1) ts) m
small_step a b c whole i i' n met met' m idx ts x lt is ei em bc (rem, l) =
    let next : idx + 1 ≡ suc idx = omega arith in
    let cut : drop idx ts ≡ x ∷ drop (idx + 1) ts = drop-cons ts idx x lt ∙ (λ k. sym is k ∷ drop (sym next k) ts) in
    let us = terms_of (map term_of (drop (idx + 1) ts)) in
    let g = get (length b.instrs.items) i n unmade (mark met (term_of x)).item in
    let here : length b.instrs.items + length g ≡ length c.instrs.items = sym bc.size in
    let ei' : suc i ≡ i' = omega (arith, ei) in
    let rest : gets (length b.instrs.items) i n unmade (marks met (terms_of (map term_of (drop idx ts)))).item
    ≡ g ++ gets (length c.instrs.items) i' n unmade (marks met' us).item =
    ap (λ z. gets (length b.instrs.items) i n unmade (marks met (terms_of (map term_of z))).item) cut
    ∙ (λ k. g ++ gets (here k) (ei' k) n unmade (marks (sym em k) us).item) in (
      fewer_remain a b c whole g (gets (length c.instrs.items) i' n unmade (marks met' us).item) (remains_as a b whole _ _ rest rem) bc,
      (λ k. (marks (em k) us).met) ∙ sym (ap (λ z. (marks met (terms_of (map term_of z))).met) cut) ∙ l,
    )
