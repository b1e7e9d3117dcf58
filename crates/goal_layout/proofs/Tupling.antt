-- The loop over a tuple's parts.
use Rattle.std.proofs.Common.{◌≡◌, ℕ, suc, ◌+◌, ◌<◌, ◌≤◌, false, List, [], ◌∷◌, ◌++◌, length, map, set, take, drop, get_or, Some, None}
use Rattle.std.proofs.Common.{refl, sym, ap, ◌∙◌, subst, arith, inl, inr, append_assoc, append-nil, drop_of_length-le}
use Rattle.std.specs.Option.{option_and_then}
use Rattle.std.proofs.Math.Seq.{drop-cons}
use Rattle.std.proofs.lemmas.List.{length-map, take_more, map-append, take_all, length-take-le}
use Rattle.fcp_model.specs.declared.term.Term as source
use Rattle.fcp_model.specs.Places.{Variable, placed}
use Rattle.fcp_model.specs.Terms.{Term, tuple, renames}
use Rattle.fcp_model.specs.Expressions.{leaf}
use Rattle.fcp_model.specs.Translation.{term_of, terms_of}
use Rattle.fcp_model.specs.ClosedPrograms.{Over, PartsOver, IsNumbered}
use Rattle.heap_words.specs.Cells.{decoded}
use Rattle.heap_words.specs.Heaps.{is_inside, inside_at}
use Rattle.heap_words.specs.declared.cell.Cell.TheVariants.{Raw, Tuple}
use Rattle.word_states.specs.Words.{At, Grows}
use Rattle.word_states.specs.Numbers.{part_count}
use Rattle.word_states.specs.Denoting.{Addresses, Denotes, DenotesAll, Arguments}
use Rattle.goal_layout.specs.FirstFit.{fit, first_fit}
use Rattle.goal_layout.specs.PieceSizes.{term_sizes, part_sizes}
use Rattle.goal_layout.specs.Pages.{rooms, ArePages, Takes}
use Rattle.goal_layout.specs.Laying.{IsBlank, IsNarrow, AreNarrow, Lays, places_of, parts_of, settled_term}
use Rattle.word_states.proofs.Persisting.{at_on, arguments_on, denotes_on}
use Rattle.goal_layout.proofs.Leaves.{taken_blank}
use Rattle.goal_layout.proofs.Lays.{first_fit-append, take_lays, lays_then, lays_grows, blank_on, written_word, written_other}
use Rattle.goal_layout.proofs.Lays.{written_grows, lays_written}
use Rattle.goal_layout.proofs.Listing.{LaysAlways}
use Rattle.goal_layout.proofs.Arguments.{arguments_more, parts_said, renames_terms, count_of}

pub twice : (ts : List source.Term) → map settled_term (map term_of ts) ≡ map (λ t. settled_term (term_of t)) ts
twice [] = refl
twice (t ∷ ts) = ap (λ us. settled_term (term_of t) ∷ us) (twice ts)

-- the terms that were read, as terms of the run
abbrev pub settled_all : List source.Term → List (Term Variable)
settled_all ts = map (λ t. settled_term (term_of t)) ts

-- The words ws came from base: at `at` a tuple is laid, of whose parts ts the first n are.
pub record Parts (vs : Addresses) (ts : List source.Term) (n : ℕ) (base ws : List ℕ) (at : ℕ) : Type 0 where
  pub sizes : List ℕ
  pub lays : Lays vs sizes base ws
  pub left : sizes ++ part_sizes (parts_of (drop n ts)) ≡ term_sizes (tuple (parts_of ts))
  pub free : (b : ℕ) → at ≤ b → b < at + 1 + length ts → is_inside base b ≡ false
  pub blank : (b : ℕ) → at + 1 + n ≤ b → b < at + 1 + length ts → IsBlank ws b
  pub head : At (inside_at ws) at (Raw (length ts))
  pub done : Arguments (inside_at ws) vs (suc at) (settled_all (take n ts))

pub record IsTupling (ts : List source.Term) (n : ℕ) (base ws : List ℕ) (at : ℕ) : Type 0 where
  pub pages : ArePages ws
  pub inside : at + 1 + length ts ≤ length ws
  pub fits : first_fit (rooms base) (term_sizes (tuple (parts_of ts))) ≡ first_fit (rooms ws) (part_sizes (parts_of (drop n ts)))
  pub narrow : AreNarrow (parts_of (drop n ts))
  pub numbered : (vars : ℕ) × PartsOver (IsNumbered vars) (parts_of (drop n ts))
  pub parts : (vars : ℕ) → PartsOver (IsNumbered vars) (parts_of ts)
      → PartsOver (IsNumbered vars) (parts_of (drop n ts)) × Parts (places_of vars) ts n base ws at

parts_fit : (vs : Addresses) (ts : List source.Term) (n : ℕ) (base ws : List ℕ) (at : ℕ) → Parts vs ts n base ws at
    → first_fit (rooms base) (term_sizes (tuple (parts_of ts))) ≡ first_fit (rooms ws) (part_sizes (parts_of (drop n ts)))
parts_fit vs ts n base ws at p =
    ap (first_fit (rooms base)) (sym p.left)
    ∙ first_fit-append (rooms base) p.sizes (part_sizes (parts_of (drop n ts)))
    ∙ ap (option_and_then (λ ss. first_fit ss (part_sizes (parts_of (drop n ts))))) p.lays.fits

-- no part is laid
pub parts_begin : (vs : Addresses) (ts : List source.Term) (base w1 : List ℕ) (at count x : ℕ) → count ≡ length ts
    → Takes base w1 (count + 1) at → decoded x ≡ Some (Raw count) → Parts vs ts 0 base (set w1 at x) at
parts_begin vs ts base w1 at count x ec t is = record {
  sizes = suc (length ts) ∷ [];
  lays = subst (λ k. Lays vs (k ∷ []) base (set w1 at x)) (omega (arith, ec))
      (lays_written w1 at x t.pages b vs ((count + 1) ∷ []) base (take_lays vs base w1 (count + 1) at t)
      (t.free at (omega arith) (omega arith))
      (inl (record { cell = Raw count; says = is; quiet = refl })));
  left = ap (λ k. suc k ∷ part_sizes (parts_of ts)) (sym (count_of (map term_of ts) ∙ length-map ts term_of));
  free = λ c l h. t.free c l (omega (arith, ec));
  blank = λ c l h.
      let k = taken_blank base w1 (count + 1) at c t (omega arith) (omega (arith, ec)) in
      record { word = written_other w1 at x t.pages b c (λ e. omega (arith, e)) ∙ k.word; off = k.off };
  head = (x, written_word w1 at x t.pages b, is ∙ ap (λ k. Some (Raw k)) ec);
  done = tt;
}
  where
    b : IsBlank w1 at
    b = taken_blank base w1 (count + 1) at at t (omega arith) (omega arith)

-- one part more
pub parts_step : (vs : Addresses) (ts : List source.Term) (n : ℕ) (base ws w1 : List ℕ) (at c y : ℕ) (t : source.Term) → n < length ts
    → t ≡ get_or ts n t → c ≡ at + 1 + n → Lays vs (term_sizes (term_of t)) ws w1 → Denotes (inside_at w1) vs y (settled_term (term_of t))
    → Parts vs ts n base ws at → Parts vs ts (n + 1) base (set w1 c y) at
parts_step vs ts n base ws w1 at c y t lt is ec l d p = record {
  sizes = p.sizes ++ term_sizes (term_of t);
  lays = lays_written w1 c y l.pages b vs (p.sizes ++ term_sizes (term_of t)) base
      (lays_then vs p.sizes (term_sizes (term_of t)) base ws w1 p.lays l) (p.free c (omega (arith, ec)) (omega (arith, ec)))
      (inr (leaf (settled_term (term_of t)), d));
  left = append_assoc p.sizes (term_sizes (term_of t)) (part_sizes (parts_of (drop (n + 1) ts)))
      ∙ ap (λ us. p.sizes ++ part_sizes (parts_of us)) (sym cut)
      ∙ p.left;
  free = p.free;
  blank = λ k lo hi.
      let j = blank_on vs (term_sizes (term_of t)) ws w1 k l (p.blank k (omega arith) hi) in
      record { word = written_other w1 c y l.pages b k (λ e. omega (arith, e, ec)) ∙ j.word; off = j.off };
  head = at_on (inside_at ws) (inside_at (set w1 c y)) vs vs grows (λ v a m. m) at (Raw (length ts)) p.head refl;
  done = subst (Arguments (inside_at (set w1 c y)) vs (suc at)) (sym longer)
      (arguments_more (inside_at (set w1 c y)) vs (suc at) (settled_all (take n ts)) y (settled_term (term_of t))
      (arguments_on (inside_at ws) (inside_at (set w1 c y)) vs vs grows (λ v a m. m) (suc at) (settled_all (take n ts)) p.done)
      (subst (λ k. inside_at (set w1 c y) k ≡ Some y) (omega (arith, ec, size)) (written_word w1 c y l.pages b))
      (denotes_on (inside_at w1) (inside_at (set w1 c y)) vs vs (written_grows w1 c y l.pages b) (λ v a m. m) y
      (settled_term (term_of t)) d));
}
  where
    b : IsBlank w1 c
    b = blank_on vs (term_sizes (term_of t)) ws w1 c l (p.blank c (omega (arith, ec)) (omega (arith, ec)))

    cut : drop n ts ≡ t ∷ drop (n + 1) ts
    cut = let next : n + 1 ≡ suc n = omega arith in drop-cons ts n t lt ∙ (λ k. sym is k ∷ drop (sym next k) ts)

    longer : settled_all (take (n + 1) ts) ≡ settled_all (take n ts) ++ settled_term (term_of t) ∷ []
    longer =
        ap settled_all (take_more ts n t lt ∙ ap (λ u. take n ts ++ u ∷ []) (sym is))
        ∙ map-append (λ u. settled_term (term_of u)) (take n ts) (t ∷ [])

    size : length (settled_all (take n ts)) ≡ n
    size = length-map (take n ts) (λ u. settled_term (term_of u)) ∙ length-take-le n ts (omega arith)

    grows1 : Grows (inside_at ws) (inside_at w1)
    grows1 = lays_grows vs (term_sizes (term_of t)) ws w1 p.lays.pages l

    grows : Grows (inside_at ws) (inside_at (set w1 c y))
    grows a x e f = let g = grows1 a x e f in written_grows w1 c y l.pages b a x g f

-- all parts are laid
pub parts_end : (vs : Addresses) (ts : List source.Term) (n : ℕ) (base ws : List ℕ) (at x : ℕ) → length ts ≤ n → length ts ≤ 65
    → decoded x ≡ Some (Tuple at) → Parts vs ts n base ws at
    → Lays vs (term_sizes (tuple (parts_of ts))) base ws × Denotes (inside_at ws) vs x (settled_term (tuple (parts_of ts)))
parts_end vs ts n base ws at x hi few is p = (
  subst (λ k. Lays vs k base ws) whole p.lays,
  (at, is, (p.head.0, p.head.1, p.head.2 ∙ ap (λ k. Some (Raw k)) (sym count)), subst (λ k. k < 66) (sym count) (omega (arith, few)), all),
)
  where
    whole : p.sizes ≡ term_sizes (tuple (parts_of ts))
    whole = sym (append-nil p.sizes) ∙ ap (λ us. p.sizes ++ part_sizes (parts_of us)) (sym (drop_of_length-le ts hi)) ∙ p.left

    same : renames (placed 0) (parts_of ts) ≡ terms_of (settled_all ts)
    same = renames_terms (placed 0) (map term_of ts) ∙ ap terms_of (twice ts)

    count : part_count (renames (placed 0) (parts_of ts)) ≡ length ts
    count = ap part_count same ∙ count_of (settled_all ts) ∙ length-map ts (λ u. settled_term (term_of u))

    all : DenotesAll (inside_at ws) vs (suc at) (renames (placed 0) (parts_of ts))
    all = subst (DenotesAll (inside_at ws) vs (suc at)) (sym same)
        (parts_said (inside_at ws) vs (suc at) (settled_all ts)
        (subst (λ us. Arguments (inside_at ws) vs (suc at) (settled_all us)) (take_all n ts hi) p.done))

pub few_parts : (ts : List source.Term) → IsNarrow (tuple (parts_of ts)) → length ts ≤ 65
few_parts ts h = subst (λ k. k ≤ 65) (count_of (map term_of ts) ∙ length-map ts term_of) h.0

pub tupling_begins : (ts : List source.Term) (base w1 : List ℕ) (at count x : ℕ) → IsNarrow (tuple (parts_of ts))
    → (vars : ℕ) × PartsOver (IsNumbered vars) (parts_of ts) → count ≡ length ts → Takes base w1 (count + 1) at
    → decoded x ≡ Some (Raw count)
    → IsTupling ts 0 base (set w1 at x) at
tupling_begins ts base w1 at count x narrow (vars, over) ec t is = record {
  pages = (begins vars).lays.pages;
  inside = let last = t.last in let size = (begins vars).lays.size in omega (arith, ec, last, size);
  fits = parts_fit (places_of vars) ts 0 base (set w1 at x) at (begins vars);
  narrow = narrow.1;
  numbered = (vars, over);
  parts = λ n o. (o, begins n);
}
  where
    begins : (n : ℕ) → Parts (places_of n) ts 0 base (set w1 at x) at
    begins n = parts_begin (places_of n) ts base w1 at count x ec t is

pub tupling_step : (ts : List source.Term) (n : ℕ) (base ws w1 : List ℕ) (at c y : ℕ) (t : source.Term)
    → (vars : ℕ) × PartsOver (IsNumbered vars) (parts_of ts) → n < length ts → t ≡ get_or ts n t → c ≡ at + 1 + n
    → LaysAlways (term_of t) y ws w1 → IsTupling ts n base ws at → IsTupling ts (n + 1) base (set w1 c y) at
tupling_step ts n base ws w1 at c y t (vars, over) lt is ec laid l = record {
  pages = (steps vars over).lays.pages;
  inside = let i = l.inside in let size = (steps vars over).lays.size in let was = (l.parts vars over).1.lays.size in
      omega (arith, i, size, was);
  fits = parts_fit (places_of vars) ts (n + 1) base (set w1 c y) at (steps vars over);
  narrow = (subst (λ us. AreNarrow (parts_of us)) cut l.narrow).1;
  numbered = (vars, (split vars over).1);
  parts = λ k o. ((split k o).1, steps k o);
}
  where
    cut : drop n ts ≡ t ∷ drop (n + 1) ts
    cut = let next : n + 1 ≡ suc n = omega arith in drop-cons ts n t lt ∙ (λ k. sym is k ∷ drop (sym next k) ts)

    split : (k : ℕ) → PartsOver (IsNumbered k) (parts_of ts)
        → Over (IsNumbered k) (term_of t) × PartsOver (IsNumbered k) (parts_of (drop (n + 1) ts))
    split k o = subst (λ us. PartsOver (IsNumbered k) (parts_of us)) cut (l.parts k o).0

    steps : (k : ℕ) → PartsOver (IsNumbered k) (parts_of ts) → Parts (places_of k) ts (n + 1) base (set w1 c y) at
    steps k o =
        let m = laid k (split k o).0 in
        parts_step (places_of k) ts n base ws w1 at c y t lt is ec m.lays m.word (l.parts k o).1

pub tupling_ends : (ts : List source.Term) (n : ℕ) (base ws : List ℕ) (at x : ℕ) → length ts ≤ n → IsNarrow (tuple (parts_of ts))
    → decoded x ≡ Some (Tuple at) → IsTupling ts n base ws at → LaysAlways (tuple (parts_of ts)) x base ws
tupling_ends ts n base ws at x hi narrow is l k o =
    let r = parts_end (places_of k) ts n base ws at x hi (few_parts ts narrow) is (l.parts k o).1 in
    record { lays = r.0; word = r.1 }

-- the part that is laid next
pub part_next : (ts : List source.Term) (n : ℕ) (base ws : List ℕ) (at : ℕ) (t : source.Term) → n < length ts → t ≡ get_or ts n t
    → IsTupling ts n base ws at → IsNarrow (term_of t) × ((vars : ℕ) × Over (IsNumbered vars) (term_of t))
part_next ts n base ws at t lt is l =
    let next : n + 1 ≡ suc n = omega arith in
    let cut : drop n ts ≡ t ∷ drop (n + 1) ts = drop-cons ts n t lt ∙ (λ k. sym is k ∷ drop (sym next k) ts) in (
      (subst (λ us. AreNarrow (parts_of us)) cut l.narrow).0,
      (l.numbered.0, (subst (λ us. PartsOver (IsNumbered l.numbered.0) (parts_of us)) cut l.numbered.1).0),
    )

-- it finds no room
pub part_misses : (ts : List source.Term) (n : ℕ) (base ws : List ℕ) (at : ℕ) (t : source.Term) → n < length ts → t ≡ get_or ts n t
    → first_fit (rooms ws) (term_sizes (term_of t)) ≡ None → IsTupling ts n base ws at
    → first_fit (rooms base) (term_sizes (tuple (parts_of ts))) ≡ None
part_misses ts n base ws at t lt is none l =
    let next : n + 1 ≡ suc n = omega arith in
    let cut : drop n ts ≡ t ∷ drop (n + 1) ts = drop-cons ts n t lt ∙ (λ k. sym is k ∷ drop (sym next k) ts) in
    l.fits
    ∙ ap (λ us. first_fit (rooms ws) (part_sizes (parts_of us))) cut
    ∙ first_fit-append (rooms ws) (term_sizes (term_of t)) (part_sizes (parts_of (drop (n + 1) ts)))
    ∙ ap (option_and_then (λ ss. first_fit ss (part_sizes (parts_of (drop (n + 1) ts))))) none

-- the tuple itself finds none
pub tuple_misses : (ts : List source.Term) (base : List ℕ) → fit (length ts + 1) (rooms base) ≡ None
    → first_fit (rooms base) (term_sizes (tuple (parts_of ts))) ≡ None
tuple_misses ts base none =
    ap (λ k. option_and_then (λ ss. first_fit ss (part_sizes (parts_of ts))) (fit k (rooms base)))
    (ap suc (count_of (map term_of ts) ∙ length-map ts term_of) ∙ omega arith)
    ∙ ap (option_and_then (λ ss. first_fit ss (part_sizes (parts_of ts)))) none
