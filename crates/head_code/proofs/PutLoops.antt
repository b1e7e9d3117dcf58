-- Code that is left to emit.
use Rattle.std.proofs.Common.{◌≡◌, ℕ, suc, ◌+◌, ◌<◌, ◌≤◌, List, [], ◌∷◌, ◌++◌, length, map, drop, None, refl, sym, ap, ◌∙◌, subst, append_assoc, append-nil, arith}
use Rattle.std.specs.Prelude.{reverse, get_or}
use Rattle.std.proofs.Math.Seq.{drop-cons}
use Rattle.std.proofs.lemmas.List.{reverse-append, length-map}
use Rattle.std.proofs.Common.{rules}
use Rattle.fcp_model.specs.declared.term.Term.{Cons, Tuple, size-Term, the_lemmas}
use Rattle.fcp_model.proofs.Folds.{fold-Cons, fold-Tuple}
use Rattle.fcp_model.specs.declared.term.Term as source
use Rattle.fcp_model.specs.Terms.{Term, cons, tuple}
use Rattle.fcp_model.specs.Translation.{term_step, term_of, terms_of}
use Rattle.head_code.specs.declared.emitter.Emitter.{Emitter}
use Rattle.machine_code.specs.Instructions.{Op, PutCons, PutTuple}
use Rattle.machine_code.specs.Machine.{count}
use Rattle.head_code.specs.TermCode.{width, widths, put, puts}
use Rattle.head_code.specs.Emitting.{Emits}
use Rattle.head_code.proofs.Emitting.{emits_none, emits_on}
use Rattle.head_code.proofs.Slots.{count_terms}

-- of the whole code all is emitted but the rest
abbrev pub Remains : Emitter → Emitter → List Op → List Op → Type 0
Remains old new whole rest = (done : List Op) × Emits old new done × (done ++ rest ≡ whole)

pub all_remains : (e : Emitter) (whole : List Op) → Remains e e whole whole
all_remains e whole = ([], emits_none e, refl)

pub remains_as : (a b : Emitter) (whole rest rest' : List Op) → rest ≡ rest' → Remains a b whole rest → Remains a b whole rest'
remains_as a b whole rest rest' e r = (r.0, r.1, ap (λ l. r.0 ++ l) (sym e) ∙ r.2)

pub fewer_remain : (a b c : Emitter) (whole xs rest : List Op) → Remains a b whole (xs ++ rest) → Emits b c xs → Remains a c whole rest
fewer_remain a b c whole xs rest r h = (r.0 ++ xs, emits_on a b c r.0 xs r.1 h, append_assoc r.0 xs rest ∙ r.2)

pub none_remains : (a b : Emitter) (whole : List Op) → Remains a b whole [] → Emits a b whole
none_remains a b whole r = subst (λ l. Emits a b l) (sym (append-nil r.0) ∙ r.2) r.1

-- the pairs that are left, the last one first
abbrev pub closed : List (ℕ × ℕ) → List Op
closed ps = map (λ p. PutCons p.0 p.1 (suc p.1)) (reverse ps)

pub closed_last : (ps ps' : List (ℕ × ℕ)) (i n : ℕ) → ps' ≡ ps ++ (i, n) ∷ [] → closed ps' ≡ PutCons i n (suc n) ∷ closed ps
closed_last ps ps' i n e = ap closed e ∙ ap (map (λ p. PutCons p.0 p.1 (suc p.1))) (reverse-append ps ((i, n) ∷ []))

pub size-tail : (h t : source.Term) → size-Term t < size-Term (Cons h t)
size-tail h t = search (rules, the_lemmas)

pub cons_of : (t h u : source.Term) → t ≡ Cons h u → term_of t ≡ cons (term_of h) (term_of u)
cons_of t h u e = ap term_of e ∙ fold-Cons (Term ℕ) term_step h u

pub tuple_of : (t : source.Term) (ts : List source.Term) → t ≡ Tuple ts → term_of t ≡ tuple (terms_of (map term_of ts))
tuple_of t ts e = ap term_of e ∙ fold-Tuple (Term ℕ) term_step ts

-- a pair was put
pub pair_put : (a b c d : Emitter) (i n r g f : ℕ) (t h u h' u' : source.Term) → t ≡ Cons h u → h' ≡ h → u' ≡ u → r ≡ n + 1 → g ≡ n + 2
    → f ≡ g + width (term_of h') → Emits a b (put n g (term_of h')) → Emits b c (put r f (term_of u')) → Emits c d (PutCons i n r ∷ [])
    → Emits a d (put i n (term_of t))
pair_put a b c d i n r g f t h u h' u' et eh eu er eg ef x y z =
    let er' : r ≡ suc n = omega (arith, er) in
    let eg' : g ≡ suc (suc n) = omega (arith, eg) in
    let ef' : f ≡ suc (suc (n + width (term_of h'))) = omega (arith, eg, ef) in
    let same : put n g (term_of h') ++ (put r f (term_of u') ++ PutCons i n r ∷ []) ≡ put i n (cons (term_of h') (term_of u')) =
    λ k. put n (eg' k) (term_of h') ++ (put (er' k) (ef' k) (term_of u') ++ PutCons i n (er' k) ∷ []) in
    let whole : put i n (cons (term_of h') (term_of u')) ≡ put i n (term_of t) =
    (λ k. put i n (cons (term_of (eh k)) (term_of (eu k)))) ∙ ap (put i n) (sym (cons_of t h u et)) in
    subst (λ l. Emits a d l) (same ∙ whole)
    (emits_on a b d (put n g (term_of h')) (put r f (term_of u') ++ PutCons i n r ∷ []) x
    (emits_on b c d (put r f (term_of u')) (PutCons i n r ∷ []) y z))

pub count_of : (ts : List source.Term) → count (terms_of (map term_of ts)) ≡ length ts
count_of ts = count_terms (map term_of ts) ∙ length-map ts term_of

-- a tuple was put
pub tuple_put : (a b c : Emitter) (i n g k : ℕ) (t : source.Term) (ts ts' : List source.Term) → t ≡ Tuple ts → ts' ≡ ts → k ≡ length ts'
    → g ≡ n + k → Emits a b (puts n g (terms_of (map term_of ts'))) → Emits b c (PutTuple i n k None ∷ [])
    → Emits a c (put i n (term_of t))
tuple_put a b c i n g k t ts ts' et es ek eg x y =
    let us = terms_of (map term_of ts') in
    let ek' : k ≡ count us = ek ∙ sym (count_of ts') in
    let eg' : g ≡ n + count us = eg ∙ ap (λ j. n + j) ek' in
    let same : puts n g us ++ PutTuple i n k None ∷ [] ≡ put i n (tuple us) = λ j. puts n (eg' j) us ++ PutTuple i n (ek' j) None ∷ [] in
    let whole : put i n (tuple us) ≡ put i n (term_of t) =
    (λ j. put i n (tuple (terms_of (map term_of (es j))))) ∙ ap (put i n) (sym (tuple_of t ts et)) in
    subst (λ l. Emits a c l) (same ∙ whole) (emits_on a b c (puts n g us) (PutTuple i n k None ∷ []) x y)

pub tuple_behind : (n g k e : ℕ) (t : source.Term) (ts ts' : List source.Term) → t ≡ Tuple ts → ts' ≡ ts → k ≡ length ts' → g ≡ n + k
    → e ≡ g + widths (terms_of (map term_of ts')) → e ≡ n + width (term_of t)
tuple_behind n g k e t ts ts' et es ek eg ee =
    let us = terms_of (map term_of ts') in
    let w : width (term_of t) ≡ count us + widths us = ap width (tuple_of t ts et ∙ sym (ap (λ l. tuple (terms_of (map term_of l))) es)) in
    omega (arith, ee, eg, ek, count_of ts', w)

-- one more of the terms was put
pub parts_step : (a b c : Emitter) (whole : List Op) (i i' f f' e idx : ℕ) (ts : List source.Term) (x : source.Term) → idx < length ts
    → x ≡ get_or ts idx x → i' ≡ i + 1 → f' ≡ f + width (term_of x) → Emits b c (put i f (term_of x))
    → Remains a b whole (puts i f (terms_of (map term_of (drop idx ts)))) × (f + widths (terms_of (map term_of (drop idx ts))) ≡ e)
    → Remains a c whole (puts i' f' (terms_of (map term_of (drop (idx + 1) ts))))
    × (f' + widths (terms_of (map term_of (drop (idx + 1) ts))) ≡ e)
parts_step a b c whole i i' f f' e idx ts x lt is ei ef h (r, w) =
    let next : idx + 1 ≡ suc idx = omega arith in
    let cut : drop idx ts ≡ x ∷ drop (idx + 1) ts = drop-cons ts idx x lt ∙ (λ k. sym is k ∷ drop (sym next k) ts) in
    let us = terms_of (map term_of (drop (idx + 1) ts)) in
    let ei' : suc i ≡ i' = omega (arith, ei) in
    let rest : puts i f (terms_of (map term_of (drop idx ts))) ≡ put i f (term_of x) ++ puts i' f' us =
    ap (λ l. puts i f (terms_of (map term_of l))) cut ∙ (λ k. put i f (term_of x) ++ puts (ei' k) (sym ef k) us) in
    let size : widths (terms_of (map term_of (drop idx ts))) ≡ width (term_of x) + widths us =
    ap (λ l. widths (terms_of (map term_of l))) cut in
    (fewer_remain a b c whole (put i f (term_of x)) (puts i' f' us) (remains_as a b whole _ _ rest r) h, omega (arith, w, size, ef))

-- one more element of a list was put
pub rest_step : (a b c : Emitter) (whole : List Op) (i f r g f' e s : ℕ) (t h u h' u' : source.Term) (ps ps' : List (ℕ × ℕ)) → t ≡ Cons h u
    → h' ≡ h → u' ≡ u → r ≡ f + 1 → g ≡ f + 2 → f' ≡ g + width (term_of h') → ps' ≡ ps ++ (i, f) ∷ [] → Emits b c (put f g (term_of h'))
    → Remains a b whole (put i f (term_of t) ++ closed ps) × (f + width (term_of t) ≡ e) × (size-Term t ≤ s)
    → Remains a c whole (put r f' (term_of u') ++ closed ps') × (f' + width (term_of u') ≡ e) × (size-Term u' ≤ s)
rest_step a b c whole i f r g f' e s t h u h' u' ps ps' et eh eu er eg ef ep x (m, w, z) =
    let er' : suc f ≡ r = omega (arith, er) in
    let eg' : suc (suc f) ≡ g = omega (arith, eg) in
    let ef' : suc (suc (f + width (term_of h'))) ≡ f' = omega (arith, eg, ef) in
    let shape : term_of t ≡ cons (term_of h') (term_of u') = cons_of t h u et ∙ (λ k. cons (term_of (sym eh k)) (term_of (sym eu k))) in
    let ph = put f (suc (suc f)) (term_of h') in
    let pu = put (suc f) (suc (suc (f + width (term_of h')))) (term_of u') in
    let last = PutCons i f (suc f) ∷ [] in
    let rest : put i f (term_of t) ++ closed ps ≡ put f g (term_of h') ++ (put r f' (term_of u') ++ closed ps') =
    ap (λ y. put i f y ++ closed ps) shape
    ∙ append_assoc ph (pu ++ last) (closed ps)
    ∙ ap (λ l. ph ++ l) (append_assoc pu last (closed ps))
    ∙ (λ k. put f (eg' k) (term_of h') ++ (put (er' k) (ef' k) (term_of u') ++ sym (closed_last ps ps' i f ep) k)) in
    let size : width (term_of t) ≡ suc (suc (width (term_of h') + width (term_of u'))) = ap width shape in (
      fewer_remain a b c whole (put f g (term_of h')) (put r f' (term_of u') ++ closed ps') (remains_as a b whole _ _ rest m) x,
      omega (arith, w, size, ef, eg),
      omega (arith, size-tail h u, ap size-Term et, ap size-Term eu, z),
    )

-- the list's end was put
pub rest_end : (a b c : Emitter) (whole : List Op) (i f e n s : ℕ) (t : source.Term) (ps : List (ℕ × ℕ)) → n ≡ f + width (term_of t)
    → Emits b c (put i f (term_of t))
    → Remains a b whole (put i f (term_of t) ++ closed ps) × (f + width (term_of t) ≡ e) × (size-Term t ≤ s)
    → Remains a c whole (closed ps) × (n ≡ e)
rest_end a b c whole i f e n s t ps en x (m, w, z) = (fewer_remain a b c whole (put i f (term_of t)) (closed ps) m x, en ∙ w)

-- one of the pairs was put
pub whole_step : (a b c : Emitter) (whole : List Op) (i n r : ℕ) (ps ps' : List (ℕ × ℕ)) → ps' ≡ ps ++ (i, n) ∷ [] → r ≡ n + 1
    → Emits b c (PutCons i n r ∷ []) → Remains a b whole (closed ps') → Remains a c whole (closed ps)
whole_step a b c whole i n r ps ps' ep er x m =
    let er' : suc n ≡ r = omega (arith, er) in
    fewer_remain a b c whole (PutCons i n r ∷ []) (closed ps)
    (remains_as a b whole _ _ (closed_last ps ps' i n ep ∙ (λ k. PutCons i n (er' k) ∷ closed ps)) m) x
