-- The loop along a list's rest.
use Rattle.std.proofs.Common.{◌≡◌, ℕ, ◌+◌, ◌<◌, List, ◌++◌, length, set, Option, Some, None, sym, ap, ◌∙◌, subst, arith, rules}
use Rattle.std.specs.Prelude.{IfNone}
use Rattle.std.specs.Option.{option_and_then}
use Rattle.fcp_model.specs.declared.term.Term as source
use Rattle.fcp_model.specs.declared.term.Term.{Cons, Tuple, size-Term, the_lemmas}
use Rattle.fcp_model.specs.Terms.{Term, cons}
use Rattle.fcp_model.specs.Translation.{term_step, term_of}
use Rattle.fcp_model.specs.ClosedPrograms.{Over, IsNumbered}
use Rattle.fcp_model.proofs.Folds.{fold-Cons}
use Rattle.heap_words.specs.Cells.{decoded}
use Rattle.heap_words.specs.HeapLaws.{inside_known, inside_below}
use Rattle.heap_words.specs.declared.cell.Cell.TheVariants as cell
use Rattle.goal_layout.specs.FirstFit.{fit, first_fit}
use Rattle.goal_layout.specs.PieceSizes.{term_sizes}
use Rattle.goal_layout.specs.Pages.{rooms, ArePages, Takes}
use Rattle.goal_layout.specs.Laying.{IsNarrow, LaysTerm, places_of}
use Rattle.goal_layout.proofs.Lays.{first_fit-append}
use Rattle.goal_layout.proofs.Chains.{Chain, chain_begins, chain_step, chain_ends}

pub cons_of : (t h u : source.Term) → t ≡ Cons h u → term_of t ≡ cons (term_of h) (term_of u)
cons_of t h u e = ap term_of e ∙ fold-Cons (Term ℕ) term_step h u

pub size-tail : (h t : source.Term) → size-Term t < size-Term (Cons h t)
size-tail h t = search (rules, the_lemmas)

pub size-head : (h t : source.Term) → size-Term h < size-Term (Cons h t)
size-head h t = search (rules, the_lemmas)

-- The words ws came from base: the list `whole` is laid, but for its rest.
pub record IsListing (whole : source.Term) (base ws : List ℕ) (list hole : ℕ) (rest : source.Term) : Type 0 where
  pub pages : ArePages ws
  pub inside : hole < length ws
  pub fits : first_fit (rooms base) (term_sizes (term_of whole)) ≡ first_fit (rooms ws) (term_sizes (term_of rest))
  pub narrow : IsNarrow (term_of rest)
  pub numbered : (vars : ℕ) × Over (IsNumbered vars) (term_of rest)
  pub smaller : size-Term rest < size-Term whole
  pub chain : (vars : ℕ) → Over (IsNumbered vars) (term_of whole)
      → Over (IsNumbered vars) (term_of rest)
      × Chain (places_of vars) (term_sizes (term_of whole)) base ws list hole (term_of rest) (term_of whole)

-- a term was laid, for each number of variables
abbrev pub LaysAlways : Term ℕ → ℕ → List ℕ → List ℕ → Type 0
LaysAlways t x ws ws' = (vars : ℕ) → Over (IsNumbered vars) t → LaysTerm vars t x ws ws'

module _ (whole : source.Term) where
  module _ (head tail head' tail' : source.Term) (is-pair : whole ≡ Cons head tail) (eh : head' ≡ head) (et : tail' ≡ tail)
      (narrow : IsNarrow (term_of whole)) where
    shape : term_of whole ≡ cons (term_of head') (term_of tail')
    shape = cons_of whole head tail is-pair ∙ (λ k. cons (term_of (sym eh k)) (term_of (sym et k)))

    pub head_next : (vars : ℕ) × Over (IsNumbered vars) (term_of whole)
        → IsNarrow (term_of head') × ((vars : ℕ) × Over (IsNumbered vars) (term_of head')) × (size-Term head' < size-Term whole)
    head_next (vars, over) = (
      (subst IsNarrow shape narrow).0,
      (vars, (subst (Over (IsNumbered vars)) shape over).0),
      omega (arith, size-head head tail, ap size-Term is-pair, ap size-Term eh),
    )

    pub head_misses : (base w1 : List ℕ) (c : ℕ) → Takes base w1 2 c → first_fit (rooms w1) (term_sizes (term_of head')) ≡ None
        → first_fit (rooms base) (term_sizes (term_of whole)) ≡ None
    head_misses base w1 c takes none =
        ap (λ u. first_fit (rooms base) (term_sizes u)) shape
        ∙ ap (option_and_then (λ ss. first_fit ss (term_sizes (term_of head') ++ term_sizes (term_of tail')))) takes.fits
        ∙ first_fit-append (rooms w1) (term_sizes (term_of head')) (term_sizes (term_of tail'))
        ∙ ap (option_and_then (λ ss. first_fit ss (term_sizes (term_of tail')))) none

    pub listing_begins : (base w1 w2 : List ℕ) (c y x hole : ℕ) → (vars : ℕ) × Over (IsNumbered vars) (term_of whole)
        → Takes base w1 2 c → LaysAlways (term_of head') y w1 w2 → decoded x ≡ Some (cell.Cons c) → hole ≡ c + 1
        → IsListing whole base (set w2 c y) x hole tail'
    listing_begins base w1 w2 c y x hole (vars, over) takes laid is e = record {
      pages = first.pages;
      inside = inside_below _ hole (inside_known _ hole 0 first.blank.word);
      fits = first.fits;
      narrow = (subst IsNarrow shape narrow).1;
      numbered = (vars, (split vars over).1);
      smaller = omega (arith, size-tail head tail, ap size-Term is-pair, ap size-Term et);
      chain = λ n o. ((split n o).1, begins n o);
    }
      where
        split : (n : ℕ) → Over (IsNumbered n) (term_of whole) → Over (IsNumbered n) (cons (term_of head') (term_of tail'))
        split n o = subst (Over (IsNumbered n)) shape o

        begins : (n : ℕ) → Over (IsNumbered n) (term_of whole)
            → Chain (places_of n) (term_sizes (term_of whole)) base (set w2 c y) x hole (term_of tail') (term_of whole)
        begins n o =
            let l = laid n (split n o).0 in
            subst (λ u. Chain (places_of n) (term_sizes u) base (set w2 c y) x hole (term_of tail') u) (sym shape)
            (chain_begins (places_of n) base w1 w2 c y x hole (term_of head') (term_of tail') takes l.lays l.word is (omega (arith, e)))

        first : Chain (places_of vars) (term_sizes (term_of whole)) base (set w2 c y) x hole (term_of tail') (term_of whole)
        first = begins vars over

  module _ (rest item next item' next' : source.Term) (base ws : List ℕ) (list hole : ℕ) (l : IsListing whole base ws list hole rest)
      (er : rest ≡ Cons item next) (ei : item' ≡ item) (en : next' ≡ next) where
    parts : term_of rest ≡ cons (term_of item') (term_of next')
    parts = cons_of rest item next er ∙ (λ k. cons (term_of (sym ei k)) (term_of (sym en k)))

    narrow' : IsNarrow (cons (term_of item') (term_of next'))
    narrow' = subst IsNarrow parts l.narrow

    split' : (n : ℕ) → Over (IsNumbered n) (term_of rest) → Over (IsNumbered n) (cons (term_of item') (term_of next'))
    split' n o = subst (Over (IsNumbered n)) parts o

    -- the element that is laid next
    pub item_next : IsNarrow (term_of item') × ((vars : ℕ) × Over (IsNumbered vars) (term_of item')) × (size-Term item' < size-Term whole)
    item_next = (
      narrow'.0,
      (l.numbered.0, (split' l.numbered.0 l.numbered.1).0),
      (let s = l.smaller in omega (arith, size-head item next, ap size-Term er, ap size-Term ei, s)),
    )

    -- it finds no room
    pub item_misses : (w1 : List ℕ) (c : ℕ) → Takes ws w1 2 c → first_fit (rooms w1) (term_sizes (term_of item')) ≡ None
        → first_fit (rooms base) (term_sizes (term_of whole)) ≡ None
    item_misses w1 c takes none =
        l.fits
        ∙ ap (λ u. first_fit (rooms ws) (term_sizes u)) parts
        ∙ ap (option_and_then (λ ss. first_fit ss (term_sizes (term_of item') ++ term_sizes (term_of next')))) takes.fits
        ∙ first_fit-append (rooms w1) (term_sizes (term_of item')) (term_sizes (term_of next'))
        ∙ ap (option_and_then (λ ss. first_fit ss (term_sizes (term_of next')))) none

    -- its pair finds none
    pub pair_misses : fit 2 (rooms ws) ≡ None → first_fit (rooms base) (term_sizes (term_of whole)) ≡ None
    pair_misses none =
        l.fits
        ∙ ap (λ u. first_fit (rooms ws) (term_sizes u)) parts
        ∙ ap (option_and_then (λ ss. first_fit ss (term_sizes (term_of item') ++ term_sizes (term_of next')))) none

    pub listing_step : (w1 w2 : List ℕ) (c y z hole' : ℕ) → (vars : ℕ) × Over (IsNumbered vars) (term_of whole) → Takes ws w1 2 c
        → LaysAlways (term_of item') y w1 w2 → decoded z ≡ Some (cell.Cons c) → hole' ≡ c + 1
        → IsListing whole base (set (set w2 c y) hole z) list hole' next'
    listing_step w1 w2 c y z hole' (vars, over) takes laid is e = record {
      pages = first.pages;
      inside = inside_below _ hole' (inside_known _ hole' 0 first.blank.word);
      fits = first.fits;
      narrow = narrow'.1;
      numbered = (vars, (split' vars (l.chain vars over).0).1);
      smaller = let s = l.smaller in omega (arith, size-tail item next, ap size-Term er, ap size-Term en, s);
      chain = λ n o. ((split' n (l.chain n o).0).1, steps n o);
    }
      where
        steps : (n : ℕ) → Over (IsNumbered n) (term_of whole)
            → Chain (places_of n) (term_sizes (term_of whole)) base (set (set w2 c y) hole z) list hole' (term_of next') (term_of whole)
        steps n o =
            let k = l.chain n o in
            let m = laid n (split' n k.0).0 in
            chain_step (places_of n) (term_sizes (term_of whole)) base ws w1 w2 list hole c y z hole' (term_of item') (term_of next')
            (term_of whole)
            (subst (λ u. Chain (places_of n) (term_sizes (term_of whole)) base ws list hole u (term_of whole)) parts k.1) takes m.lays
            m.word
            is (omega (arith, e))

        first : Chain (places_of vars) (term_sizes (term_of whole)) base (set (set w2 c y) hole z) list hole' (term_of next')
            (term_of whole)
        first = steps vars over

  pub listing_ends : (rest : source.Term) (base ws w1 : List ℕ) (list hole z : ℕ) → IsListing whole base ws list hole rest
      → LaysAlways (term_of rest) z ws w1 → LaysAlways (term_of whole) list base (set w1 hole z)
  listing_ends rest base ws w1 list hole z l laid n o =
      let k = l.chain n o in
      let m = laid n k.0 in
      let r = chain_ends (places_of n) (term_sizes (term_of whole)) base ws w1 list hole z (term_of rest)
      (term_of whole) k.1 m.lays m.word in
      record { lays = r.0; word = r.1 }

pub none_if : (o : Option ℕ) (P : Type 0) → P → IfNone o P
none_if None P h = h
none_if (Some x) P h = tt

pub none_then : (o : Option ℕ) (P Q : Type 0) → (P → Q) → IfNone o P → IfNone o Q
none_then None P Q f h = f h
none_then (Some x) P Q f h = tt
