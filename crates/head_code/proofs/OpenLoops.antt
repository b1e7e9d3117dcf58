-- Code of a head that is left to emit.
use Rattle.std.proofs.Common.{◌≡◌, ℕ, suc, ◌+◌, ◌-◌, ◌<◌, ◌≤◌, Bool, true, false, List, [], ◌∷◌, ◌++◌, length, map, drop, refl, sym, ap, ◌∙◌, subst, append_assoc, append-nil, length-append, arith}
use Rattle.std.specs.Prelude.{reverse, get_or, nat_lt, if◌then◌else◌}
use Rattle.std.proofs.Math.Seq.{drop-cons}
use Rattle.std.proofs.lemmas.List.{reverse-append}
use Rattle.fcp_model.specs.declared.term.Term as source
use Rattle.fcp_model.specs.declared.term.Term.{Cons, Tuple, size-Term}
use Rattle.fcp_model.specs.Terms.{Term, number, string, nil, cons, tuple, var, ro, first, Terms, none, more}
use Rattle.fcp_model.specs.HeadPairs.{mark, marks}
use Rattle.fcp_model.specs.Translation.{term_of, terms_of}
use Rattle.head_code.specs.declared.emitter.Emitter.{Emitter}
use Rattle.machine_code.specs.Instructions.{Op, GetCons, GetTuple, Unify, Jump}
use Rattle.machine_code.specs.Machine.{count}
use Rattle.head_code.specs.TermCode.{width, widths}
use Rattle.head_code.specs.HeadCode.{made, get, gets}
use Rattle.head_code.specs.OpenCode.{open_size, open_sizes, first_part, second_part, tuple_part, next_part}
use Rattle.head_code.specs.declared.heads.Opening.{Opening}
use Rattle.head_code.specs.declared.heads.Opened.{Opened}
use Rattle.head_code.specs.Emitting.{Emits}
use Rattle.head_code.proofs.Emitting.{emits_on}
use Rattle.head_code.proofs.PutLoops.{Remains, remains_as, fewer_remain, cons_of, tuple_of, tuple_behind, size-tail, count_of}

-- marks change no shape
mutual
  pub mark_width : (t : Term ℕ) (met : ℕ) → width (mark met t).item ≡ width t
  mark_width (number z) met = refl
  mark_width (string s) met = refl
  mark_width nil met = refl
  mark_width (var k) met = by (nat_lt met k)
    where
      by : (b : Bool) → width (if b then first k else var k) ≡ 0
      by true = refl
      by false = refl
  mark_width (ro k) met = refl
  mark_width (first k) met = refl
  mark_width (cons a b) met = λ i. suc (suc (mark_width a met i + mark_width b (mark met a).met i))
  mark_width (tuple ts) met = λ i. marks_count ts met i + marks_widths ts met i

  pub marks_widths : (ts : Terms ℕ) (met : ℕ) → widths (marks met ts).item ≡ widths ts
  marks_widths none met = refl
  marks_widths (more t ts) met = λ i. mark_width t met i + marks_widths ts (mark met t).met i

  pub marks_count : (ts : Terms ℕ) (met : ℕ) → count (marks met ts).item ≡ count ts
  marks_count none met = refl
  marks_count (more t ts) met = ap suc (marks_count ts (mark met t).met)

mutual
  pub mark_size : (t : Term ℕ) (met : ℕ) → open_size (mark met t).item ≡ open_size t
  mark_size (number z) met = refl
  mark_size (string s) met = refl
  mark_size nil met = refl
  mark_size (var k) met = by (nat_lt met k)
    where
      by : (b : Bool) → open_size (if b then first k else var k) ≡ 1
      by true = refl
      by false = refl
  mark_size (ro k) met = refl
  mark_size (first k) met = refl
  mark_size (cons a b) met = λ i. 3 + mark_size a met i + mark_size b (mark met a).met i
  mark_size (tuple ts) met = λ i. 3 + marks_sizes ts met i

  pub marks_sizes : (ts : Terms ℕ) (met : ℕ) → open_sizes (marks met ts).item ≡ open_sizes ts
  marks_sizes none met = refl
  marks_sizes (more t ts) met = λ i. mark_size t met i + marks_sizes ts (mark met t).met i

-- the length of the code
mutual
  pub get_length : (t : Term ℕ) (at i n q p : ℕ) → length (get at i n (made q p) t) ≡ open_size t
  get_length (number z) at i n q p = refl
  get_length (string s) at i n q p = refl
  get_length nil at i n q p = refl
  get_length (var k) at i n q p = refl
  get_length (ro k) at i n q p = refl
  get_length (first k) at i n q p = refl
  get_length (cons a b) at i n q p =
      let ga = get (suc at) n (suc (suc n)) (made p (suc (suc p))) a in
      let gb = get (suc at + length ga) (suc n) (suc (suc n)) (made (suc p) (suc (suc (p + width a)))) b in
      let to = suc (suc at + length (ga ++ gb)) + 1 in
      omega (
        arith,
        length-append (ga ++ gb) (Jump to ∷ Unify i q ∷ []),
        length-append ga gb,
        get_length a (suc at) n (suc (suc n)) p
            (suc (suc p)),
        get_length b (suc at + length ga) (suc n) (suc (suc n)) (suc p) (suc (suc (p + width a))),
      )
  get_length (tuple ts) at i n q p =
      let g = gets (suc at) n (n + count ts) (made p (p + count ts)) ts in
      let to = suc (suc at + length g) + 1 in
      omega (arith, length-append g (Jump to ∷ Unify i q ∷ []), gets_length ts (suc at) n (n + count ts) p (p + count ts))

  pub gets_length : (ts : Terms ℕ) (at i n q p : ℕ) → length (gets at i n (made q p) ts) ≡ open_sizes ts
  gets_length none at i n q p = refl
  gets_length (more t ts) at i n q p =
      let g = get at i n (made q p) t in
      omega (
        arith,
        length-append g (gets (at + length g) (suc i) n (made (suc q) (p + width t)) ts),
        get_length t at i n q p,
        gets_length
            ts (at + length g) (suc i) n (suc q) (p + width t),
      )

-- the code of a pair, cut where it is emitted
pair_cut : (at at1 at2 i n r g q p p2 q2 p3 po jo : ℕ) (x y : Term ℕ) (S : List Op) → at1 ≡ suc at → at2 ≡ at1 + open_size x → r ≡ n + 1
    → g ≡ n + 2 → p2 ≡ p + 2 → q2 ≡ p + 1 → p3 ≡ p2 + width x → po ≡ at + 2 + open_size x + open_size y
    → jo ≡ at + 3 + open_size x + open_size y
    → get at i n (made q p) (cons x y) ++ S
    ≡ (GetCons i n r po ∷ []) ++ (get at1 n g (made p p2) x ++ (get at2 r g (made q2 p3) y ++ (Jump jo ∷ Unify i q ∷ S)))
pair_cut at at1 at2 i n r g q p p2 q2 p3 po jo x y S e1 e2 er eg ep2 eq2 ep3 epo ejo =
    let gx = get (suc at) n (suc (suc n)) (made p (suc (suc p))) x in
    let gy = get (suc at + length gx) (suc n) (suc (suc n)) (made (suc p) (suc (suc (p + width x)))) y in
    let lx = get_length x (suc at) n (suc (suc n)) p (suc (suc p)) in
    let ly = get_length y (suc at + length gx) (suc n) (suc (suc n)) (suc p) (suc (suc (p + width x))) in
    let po' : suc (suc at + length (gx ++ gy)) ≡ po = omega (arith, epo, length-append gx gy, lx, ly) in
    let jo' : suc (suc at + length (gx ++ gy)) + 1 ≡ jo = omega (arith, ejo, length-append gx gy, lx, ly) in
    let a1 : suc at ≡ at1 = sym e1 in
    let a2 : suc at + length gx ≡ at2 = omega (arith, e1, e2, lx) in
    let r' : suc n ≡ r = omega (arith, er) in
    let g' : suc (suc n) ≡ g = omega (arith, eg) in
    let p2' : suc (suc p) ≡ p2 = omega (arith, ep2) in
    let q2' : suc p ≡ q2 = omega (arith, eq2) in
    let p3' : suc (suc (p + width x)) ≡ p3 = omega (arith, ep2, ep3) in
    ap (λ l. GetCons i n (suc n) (suc (suc at + length (gx ++ gy))) ∷ l)
    (append_assoc (gx ++ gy) (Jump (suc (suc at + length (gx ++ gy)) + 1) ∷ Unify i q ∷ []) S
    ∙ append_assoc gx gy (Jump (suc (suc at + length (gx ++ gy)) + 1) ∷ Unify i q ∷ S))
    ∙ (λ k. GetCons i n (r' k) (po' k) ∷ (get (a1 k) n (g' k) (made p (p2' k)) x
    ++ (get (a2 k) (r' k) (g' k) (made (q2' k) (p3' k)) y ++ (Jump (jo' k) ∷ Unify i q ∷ S))))

-- a marked pair
pub marked_pair : (t h u h' u' : source.Term) (met met' : ℕ) → t ≡ Cons h u → h' ≡ h → u' ≡ u → met' ≡ (mark met (term_of h')).met
    → (mark met (term_of t)).item ≡ cons (mark met (term_of h')).item (mark met' (term_of u')).item
marked_pair t h u h' u' met met' et eh eu em =
    ap (λ y. (mark met y).item) (cons_of t h u et ∙ (λ k. cons (term_of (sym eh k)) (term_of (sym eu k))))
    ∙ (λ k. cons (mark met (term_of h')).item (mark (sym em k) (term_of u')).item)

pair_emitted : (a b c d f : Emitter) (i n r g q p p2 q2 p3 here met met' size hs po jo : ℕ) (t h u h' u' : source.Term) → t ≡ Cons h u
    → h' ≡ h → u' ≡ u → size ≡ open_size (term_of t) → hs ≡ open_size (term_of h') → here ≡ length a.instrs.items → r ≡ n + 1 → g ≡ n + 2
    → p2 ≡ p + 2 → q2 ≡ p + 1 → p3 ≡ p2 + width (term_of h') → po ≡ here + (size - 1) → jo ≡ length d.instrs.items + 2
    → met' ≡ (mark met (term_of h')).met
    → Emits a b (GetCons i n r po ∷ []) → Emits b c (get (length b.instrs.items) n g (made p p2) (mark met (term_of h')).item)
    → Emits c d (get (length c.instrs.items) r g (made q2 p3) (mark met' (term_of u')).item) → Emits d f (Jump jo ∷ Unify i q ∷ [])
    → Emits a f (get (length a.instrs.items) i n (made q p) (mark met (term_of t)).item)
pair_emitted a b c d f i n r g q p p2 q2 p3 here met met' size hs po jo t h u h' u' et eh eu es ehs eher er eg ep2 eq2 ep3 epo ejo em ab
    bc cd df =
    let x = (mark met (term_of h')).item in
    let y = (mark met' (term_of u')).item in
    let gx = get (length b.instrs.items) n g (made p p2) x in
    let gy = get (length c.instrs.items) r g (made q2 p3) y in
    let shape : term_of t ≡ cons (term_of h') (term_of u') = cons_of t h u et ∙ (λ k. cons (term_of (sym eh k)) (term_of (sym eu k))) in
    let total : size ≡ 3 + open_size x + open_size y =
    omega (arith, es, ap open_size shape, mark_size (term_of h') met, mark_size (term_of u') met') in
    let cut =
    pair_cut (length a.instrs.items) (length b.instrs.items) (length c.instrs.items) i n r g q p p2 q2 p3 po jo x y []
    (omega (arith, ab.size)) (omega (arith, bc.size, get_length x (length b.instrs.items) n g p p2)) er eg ep2 eq2
    (omega (arith, ep3, mark_width (term_of h') met)) (omega (arith, epo, eher, total))
    (omega (
      arith,
      ejo,
      ab.size,
      bc.size,
      cd.size,
      get_length x (length b.instrs.items) n g p p2,
      get_length y (length c.instrs.items) r g q2 p3,
    )) in
    let all =
    emits_on a b f _ _ ab (emits_on b c f gx (gy ++ (Jump jo ∷ Unify i q ∷ [])) bc
    (emits_on c d f gy (Jump jo ∷ Unify i q ∷ []) cd df)) in
    subst (λ l. Emits a f l) (sym cut ∙ append-nil (get (length a.instrs.items) i n (made q p) (cons x y))
    ∙ ap (get (length a.instrs.items) i n (made q p)) (sym (marked_pair t h u h' u' met met' et eh eu em))) all

-- the code of a head's term from where it begins
abbrev pub opening_code : Emitter → Opening → Term ℕ → List Op
opening_code e o t = get (length e.instrs.items) o.slot o.next (made o.stock o.parts) (mark o.met t).item

-- a pair was unified
pub pair_open : (a b c d e : Emitter) (o l r : Opening) (f : Opened) (size hs : ℕ) (t h u h' u' : source.Term) → t ≡ Cons h u
    → h' ≡ h → u' ≡ u → size ≡ open_size (term_of t) → hs ≡ open_size (term_of h') → l ≡ first_part o → r ≡ second_part o f
    → f.behind ≡ l.parts + width (term_of h') → f.met ≡ (mark l.met (term_of h')).met
    → Emits a b (GetCons o.slot o.next (o.next + 1) (length a.instrs.items + (size - 1)) ∷ [])
    → Emits b c (opening_code b l (term_of h')) → Emits c d (opening_code c r (term_of u'))
    → Emits d e (Jump (length d.instrs.items + 2) ∷ Unify o.slot o.stock ∷ []) → Emits a e (opening_code a o (term_of t))
pair_open a b c d e o l r f size hs t h u h' u' et eh eu es ehs el er eb em ab bc cd de =
    pair_emitted a b c d e o.slot o.next (o.next + 1) (o.next + 2) o.stock o.parts (o.parts + 2) (o.parts + 1) f.behind
    (length a.instrs.items) o.met f.met size hs (length a.instrs.items + (size - 1)) (length d.instrs.items + 2) t h u h' u' et eh eu es
    ehs refl refl refl refl refl (eb ∙ ap (λ z. z.parts + width (term_of h')) el) refl refl
    (em ∙ ap (λ z. (mark z.met (term_of h')).met) el) ab (subst (λ z. Emits b c (opening_code b z (term_of h'))) el bc)
    (subst (λ z. Emits c d (opening_code c z (term_of u'))) er cd) de

-- what the pairs of a list end with, the last one first
abbrev pub shut : ℕ → List Opening → List Op
shut at [] = []
shut at (o ∷ os) = Jump (suc (suc at)) ∷ Unify o.slot o.stock ∷ shut (suc (suc at)) os

-- a list's rest is left, and the ends of its pairs
abbrev pub RestLeft : Emitter → Emitter → List Op → Opening → ℕ → source.Term → List Opening → ℕ → ℕ → ℕ → Type 0
RestLeft a b whole o left t os e m s =
    Remains a b whole (opening_code b o (term_of t) ++ shut (length b.instrs.items + left) (reverse os))
    × (left ≡ open_size (term_of t)) × (o.parts + width (term_of t) ≡ e) × ((mark o.met (term_of t)).met ≡ m) × (size-Term t ≤ s)

rest_emitted : (a b c d : Emitter) (whole : List Op) (o : Opening) (p3 met' left hs e m s : ℕ) (t h u h' u' : source.Term)
    (os os' : List Opening) → t ≡ Cons h u → h' ≡ h → u' ≡ u → hs ≡ open_size (term_of h')
    → p3 ≡ o.parts + 2 + width (term_of h') → met' ≡ (mark o.met (term_of h')).met → os' ≡ os ++ o ∷ []
    → Emits b c (GetCons o.slot o.next (o.next + 1) (length b.instrs.items + (left - 1)) ∷ [])
    → Emits c d (opening_code c (first_part o) (term_of h')) → RestLeft a b whole o left t os e m s
    → RestLeft a d whole (second_part o (record { met = met'; behind = p3 })) (left - 3 - hs) u' os' e m s
rest_emitted a b c d whole o p3 met' left hs e m s t h u h' u' os os' et eh eu ehs ep3 em eo bc cd (rem, el, ew, emet, ez) =
    let i = o.slot in
    let f = o.next in
    let r = o.next + 1 in
    let g = o.next + 2 in
    let q = o.stock in
    let p = o.parts in
    let p2 = o.parts + 2 in
    let q2 = o.parts + 1 in
    let met = o.met in
    let po = length b.instrs.items + (left - 1) in
    let x = (mark met (term_of h')).item in
    let y = (mark met' (term_of u')).item in
    let B = length b.instrs.items in
    let D = length d.instrs.items in
    let gx = get (length c.instrs.items) f g (made p p2) x in
    let gy = get D r g (made q2 p3) y in
    let shape : term_of t ≡ cons (term_of h') (term_of u') = cons_of t h u et ∙ (λ k. cons (term_of (sym eh k)) (term_of (sym eu k))) in
    let sx = mark_size (term_of h') met in
    let sy = mark_size (term_of u') met' in
    let total : left ≡ 3 + open_size x + open_size y = omega (arith, el, ap open_size shape, sx, sy) in
    let c1 : length c.instrs.items ≡ suc B = omega (arith, bc.size) in
    let d1 : D ≡ length c.instrs.items + open_size x = omega (arith, cd.size, get_length x (length c.instrs.items) f g p p2) in
    let S = shut (B + left) (reverse os) in
    let cut =
    pair_cut B (length c.instrs.items) D i f r g q p p2 q2 p3 po (B + left) x y S c1 d1 refl refl refl refl
    (omega (arith, ep3, mark_width (term_of h') met)) (omega (arith, total)) (omega (arith, total)) in
    let left' : suc (suc (D + (left - 3 - hs))) ≡ B + left = omega (arith, total, d1, c1, ehs, sx) in
    let ends : Jump (B + left) ∷ Unify i q ∷ S ≡ shut (D + (left - 3 - hs)) (reverse os') =
    (λ k. Jump (sym left' k) ∷ Unify i q ∷ shut (sym left' k) (reverse os))
    ∙ ap (shut (D + (left - 3 - hs))) (sym (ap reverse eo ∙ reverse-append os (o ∷ []))) in
    let rest : get B i f (made q p) (mark met (term_of t)).item ++ S
    ≡ (GetCons i f r po ∷ []) ++ (gx ++ (gy ++ shut (D + (left - 3 - hs)) (reverse os'))) =
    ap (λ z. get B i f (made q p) z ++ S) (marked_pair t h u h' u' met met' et eh eu em) ∙ cut
    ∙ ap (λ l. (GetCons i f r po ∷ []) ++ (gx ++ (gy ++ l))) ends in (
      fewer_remain a c d whole gx (gy ++ shut (D + (left - 3 - hs)) (reverse os'))
          (fewer_remain a b c whole (GetCons i f r po ∷ []) _ (remains_as a b whole _ _ rest rem) bc) cd,
      omega (arith, total, ehs, sx, sy),
      omega (arith, ew, ap width shape, ep3),
      (λ k. (mark (em k) (term_of u')).met) ∙ sym (ap (λ z. (mark met z).met) shape) ∙ emet,
      omega (arith, size-tail h u, ap size-Term et, ap size-Term eu, ez),
    )

pub rest_open : (a b c d : Emitter) (whole : List Op) (o l r : Opening) (f : Opened) (left hs e m s : ℕ) (t h u h' u' : source.Term)
    (os os' : List Opening) → t ≡ Cons h u → h' ≡ h → u' ≡ u → hs ≡ open_size (term_of h') → l ≡ first_part o → r ≡ second_part o f
    → f.behind ≡ l.parts + width (term_of h') → f.met ≡ (mark l.met (term_of h')).met → os' ≡ os ++ o ∷ []
    → Emits b c (GetCons o.slot o.next (o.next + 1) (length b.instrs.items + (left - 1)) ∷ [])
    → Emits c d (opening_code c l (term_of h')) → RestLeft a b whole o left t os e m s → RestLeft a d whole r (left - 3 - hs) u' os' e m s
rest_open a b c d whole o l r f left hs e m s t h u h' u' os os' et eh eu ehs el er eb em eo bc cd k =
    subst (λ z. RestLeft a d whole z (left - 3 - hs) u' os' e m s) (sym er)
    (rest_emitted a b c d whole o f.behind f.met left hs e m s t h u h' u' os os' et eh eu ehs
    (eb ∙ ap (λ z. z.parts + width (term_of h')) el) (em ∙ ap (λ z. (mark z.met (term_of h')).met) el) eo bc
    (subst (λ z. Emits c d (opening_code c z (term_of h'))) el cd) k)

-- the list's end was unified
pub rest_opened : (a b c : Emitter) (whole : List Op) (o : Opening) (left e m s e' m' : ℕ) (t : source.Term) (os : List Opening)
    → Emits b c (opening_code b o (term_of t)) → e' ≡ o.parts + width (term_of t) → m' ≡ (mark o.met (term_of t)).met
    → RestLeft a b whole o left t os e m s → Remains a c whole (shut (length c.instrs.items) (reverse os)) × (e' ≡ e) × (m' ≡ m)
rest_opened a b c whole o left e m s e' m' t os bc ee em (rem, el, ew, emet, ez) =
    let x = (mark o.met (term_of t)).item in
    let here : length b.instrs.items + left ≡ length c.instrs.items =
    omega (arith, el, bc.size, mark_size (term_of t) o.met, get_length x (length b.instrs.items) o.slot o.next o.stock o.parts) in (
      subst (λ n. Remains a c whole (shut n (reverse os))) here
          (fewer_remain a b c whole (opening_code b o (term_of t)) (shut (length b.instrs.items + left) (reverse os)) rem bc),
      ee ∙ ew,
      em ∙ emet,
    )

-- one of the pairs was ended
pub shut_step : (a b c : Emitter) (whole : List Op) (o : Opening) (os os' : List Opening) → os' ≡ os ++ o ∷ []
    → Emits b c (Jump (length b.instrs.items + 2) ∷ Unify o.slot o.stock ∷ [])
    → Remains a b whole (shut (length b.instrs.items) (reverse os')) → Remains a c whole (shut (length c.instrs.items) (reverse os))
shut_step a b c whole o os os' eo bc rem =
    let B = length b.instrs.items in
    let to : suc (suc B) ≡ B + 2 = omega arith in
    let here : suc (suc B) ≡ length c.instrs.items = omega (arith, bc.size) in
    let rest : shut B (reverse os') ≡ (Jump (B + 2) ∷ Unify o.slot o.stock ∷ []) ++ shut (length c.instrs.items) (reverse os) =
    ap (shut B) (ap reverse eo ∙ reverse-append os (o ∷ [])) ∙ (λ k. Jump (to k) ∷ Unify o.slot o.stock ∷ shut (here k) (reverse os)) in
    fewer_remain a b c whole (Jump (B + 2) ∷ Unify o.slot o.stock ∷ []) (shut (length c.instrs.items) (reverse os))
    (remains_as a b whole _ _ rest rem) bc

-- the code of terms from where it begins
abbrev pub parts_code : Emitter → Opening → Terms ℕ → List Op
parts_code e o ts = gets (length e.instrs.items) o.slot o.next (made o.stock o.parts) (marks o.met ts).item

-- a tuple was unified
pub tuple_open : (a b c d : Emitter) (o l : Opening) (size : ℕ) (t : source.Term) (ts ts' : List source.Term) → t ≡ Tuple ts → ts' ≡ ts
    → size ≡ open_size (term_of t) → l ≡ tuple_part (length ts') o
    → Emits a b (GetTuple o.slot o.next (length ts') (length a.instrs.items + (size - 1)) ∷ [])
    → Emits b c (parts_code b l (terms_of (map term_of ts')))
    → Emits c d (Jump (length c.instrs.items + 2) ∷ Unify o.slot o.stock ∷ []) → Emits a d (opening_code a o (term_of t))
tuple_open a b c d o l size t ts ts' et es esz el ab bl cd =
    let us = terms_of (map term_of ts') in
    let xs = (marks o.met us).item in
    let k = length ts' in
    let n = o.next in
    let p = o.parts in
    let A = length a.instrs.items in
    let B = length b.instrs.items in
    let bc : Emits b c (gets B n (n + k) (made p (p + k)) xs) = subst (λ z. Emits b c (parts_code b z us)) el bl in
    let shape : term_of t ≡ tuple us = tuple_of t ts et ∙ ap (λ l. tuple (terms_of (map term_of l))) (sym es) in
    let kc : count xs ≡ k = omega (arith, marks_count us o.met, count_of ts') in
    let gs = gets (suc A) n (n + count xs) (made p (p + count xs)) xs in
    let lg = gets_length xs (suc A) n (n + count xs) p (p + count xs) in
    let lb = gets_length xs B n (n + k) p (p + k) in
    let total : size ≡ 3 + open_sizes xs = omega (arith, esz, ap open_size shape, marks_sizes us o.met) in
    let b1 : suc A ≡ B = omega (arith, ab.size) in
    let g' : n + count xs ≡ n + k = omega (arith, kc) in
    let p2' : p + count xs ≡ p + k = omega (arith, kc) in
    let po' : suc (suc A + length gs) ≡ A + (size - 1) = omega (arith, total, lg) in
    let jo' : suc (suc A + length gs) + 1 ≡ length c.instrs.items + 2 = omega (arith, lg, lb, b1, bc.size) in
    let same : get A o.slot n (made o.stock p) (tuple xs)
    ≡ (GetTuple o.slot n k (A + (size - 1)) ∷ [])
    ++ (gets B n (n + k) (made p (p + k)) xs ++ (Jump (length c.instrs.items + 2) ∷ Unify o.slot o.stock ∷ [])) =
    λ j. GetTuple o.slot n (kc j) (po' j) ∷ (gets (b1 j) n (g' j) (made p (p2' j)) xs ++ (Jump (jo' j) ∷ Unify o.slot o.stock ∷ [])) in
    subst (λ l. Emits a d l) (sym same ∙ ap (λ z. get A o.slot n (made o.stock p) (mark o.met z).item) (sym shape))
    (emits_on a b d _ _ ab (emits_on b c d _ _ bc cd))

pub tuple_ends : (o l : Opening) (e : ℕ) (t : source.Term) (ts ts' : List source.Term) → t ≡ Tuple ts → ts' ≡ ts
    → l ≡ tuple_part (length ts') o → e ≡ l.parts + widths (terms_of (map term_of ts')) → e ≡ o.parts + width (term_of t)
tuple_ends o l e t ts ts' et es el ee =
    tuple_behind o.parts (o.parts + length ts') (length ts') e t ts ts' et es refl refl
    (ee ∙ ap (λ z. z.parts + widths (terms_of (map term_of ts'))) el)

-- terms are left
abbrev pub PartsLeft : Emitter → Emitter → List Op → Opening → List source.Term → ℕ → ℕ → Type 0
PartsLeft a b whole o ts e m =
    Remains a b whole (parts_code b o (terms_of (map term_of ts)))
    × (o.parts + widths (terms_of (map term_of ts)) ≡ e) × ((marks o.met (terms_of (map term_of ts))).met ≡ m)

pub parts_open : (a b c : Emitter) (whole : List Op) (o r : Opening) (f : Opened) (e m idx : ℕ) (ts : List source.Term) (x : source.Term)
    → idx < length ts → x ≡ get_or ts idx x → r ≡ next_part o f → f.behind ≡ o.parts + width (term_of x)
    → f.met ≡ (mark o.met (term_of x)).met → Emits b c (opening_code b o (term_of x)) → PartsLeft a b whole o (drop idx ts) e m
    → PartsLeft a c whole r (drop (idx + 1) ts) e m
parts_open a b c whole o r f e m idx ts x lt is er ep em bc (rem, w, l) =
    let next : idx + 1 ≡ suc idx = omega arith in
    let cut : drop idx ts ≡ x ∷ drop (idx + 1) ts = drop-cons ts idx x lt ∙ (λ k. sym is k ∷ drop (sym next k) ts) in
    let us = terms_of (map term_of (drop (idx + 1) ts)) in
    let y = (mark o.met (term_of x)).item in
    let g = opening_code b o (term_of x) in
    let here : length b.instrs.items + length g ≡ length c.instrs.items = omega (arith, bc.size) in
    let ei : suc o.slot ≡ o.slot + 1 = omega arith in
    let eq : suc o.stock ≡ o.stock + 1 = omega arith in
    let ep' : o.parts + width y ≡ f.behind = omega (arith, ep, mark_width (term_of x) o.met) in
    let rest : parts_code b o (terms_of (map term_of (drop idx ts))) ≡ g ++ parts_code c (next_part o f) us =
    ap (λ z. parts_code b o (terms_of (map term_of z))) cut
    ∙ (λ k. g ++ gets (here k) (ei k) o.next (made (eq k) (ep' k)) (marks (sym em k) us).item) in
    subst (λ z. PartsLeft a c whole z (drop (idx + 1) ts) e m) (sym er) (
      fewer_remain a b c whole g (parts_code c (next_part o f) us) (remains_as a b whole _ _ rest rem) bc,
      omega (arith, w, ap (λ z. widths (terms_of (map term_of z))) cut, ep),
      (λ k. (marks (em k) us).met) ∙ sym (ap (λ z. (marks o.met (terms_of (map term_of z))).met) cut) ∙ l,
    )
