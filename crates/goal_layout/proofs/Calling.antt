-- The loop over a call's arguments.
use Rattle.std.proofs.Common.{◌≡◌, ℕ, zero, suc, ◌+◌, ◌<◌, ◌≤◌, List, [], ◌∷◌, ◌++◌, length, map, set, take, drop, get_or, Some, None}
use Rattle.std.proofs.Common.{refl, sym, ap, ◌∙◌, subst, arith, append_assoc, append-nil, drop_of_length-le}
use Rattle.std.specs.Option.{option_and_then}
use Rattle.std.proofs.Math.Seq.{drop-cons}
use Rattle.std.proofs.lemmas.List.{length-map, length-set, take_more, take_more_set, map-append, take_all, length-take-le}
use Rattle.fcp_model.specs.declared.term.Term as source
use Rattle.fcp_model.specs.Translation.{term_of}
use Rattle.fcp_model.specs.ClosedPrograms.{Over, AllOver, IsNumbered}
use Rattle.heap_words.specs.Heaps.{inside_at}
use Rattle.word_states.specs.Words.{Words}
use Rattle.word_states.specs.Denoting.{Addresses, Arguments}
use Rattle.goal_layout.specs.FirstFit.{fit, first_fit}
use Rattle.goal_layout.specs.PieceSizes.{term_sizes, all_sizes}
use Rattle.goal_layout.specs.Pages.{rooms, ArePages}
use Rattle.goal_layout.specs.Laying.{IsNarrow, Lays, places_of, settled_term}
use Rattle.goal_layout.specs.Items.{AllNarrow, LaysProcess, LaysHeaded, LaysCall}
use Rattle.goal_layout.proofs.Lays.{first_fit-append, lays_none, lays_then, lays_grows}
use Rattle.goal_layout.proofs.Listing.{LaysAlways}
use Rattle.goal_layout.proofs.Tupling.{settled_all, twice}
use Rattle.goal_layout.proofs.Heading.{AllSaid, AllDenote, all_said, args_denote, denote_on, denote_more, headed, headed_grows}

-- The words ws came from base: the pieces of the first n arguments are laid, and their words are in `found`.
pub record Found (vs : Addresses) (ts : List source.Term) (n : ℕ) (base ws found : List ℕ) : Type 0 where
  pub sizes : List ℕ
  pub lays : Lays vs sizes base ws
  pub left : sizes ++ all_sizes (map term_of (drop n ts)) ≡ all_sizes (map term_of ts)
  pub done : AllDenote (inside_at ws) vs (take n found) (settled_all (take n ts))

pub record IsCalling (ts : List source.Term) (n : ℕ) (base ws found : List ℕ) : Type 0 where
  pub pages : ArePages ws
  pub room : length found ≡ 64
  pub fits : first_fit (rooms base) (all_sizes (map term_of ts)) ≡ first_fit (rooms ws) (all_sizes (map term_of (drop n ts)))
  pub narrow : AllNarrow (map term_of (drop n ts))
  pub numbered : (vars : ℕ) × AllOver (IsNumbered vars) (map term_of (drop n ts))
  pub args : (vars : ℕ) → AllOver (IsNumbered vars) (map term_of ts)
      → AllOver (IsNumbered vars) (map term_of (drop n ts)) × Found (places_of vars) ts n base ws found

found_fits : (vs : Addresses) (ts : List source.Term) (n : ℕ) (base ws found : List ℕ) → Found vs ts n base ws found
    → first_fit (rooms base) (all_sizes (map term_of ts)) ≡ first_fit (rooms ws) (all_sizes (map term_of (drop n ts)))
found_fits vs ts n base ws found p =
    ap (first_fit (rooms base)) (sym p.left)
    ∙ first_fit-append (rooms base) p.sizes (all_sizes (map term_of (drop n ts)))
    ∙ ap (option_and_then (λ ss. first_fit ss (all_sizes (map term_of (drop n ts))))) p.lays.fits

pub calling_begins : (ts : List source.Term) (base found : List ℕ) → ArePages base → length found ≡ 64 → AllNarrow (map term_of ts)
    → (vars : ℕ) × AllOver (IsNumbered vars) (map term_of ts) → IsCalling ts 0 base base found
calling_begins ts base found pages room narrow numbered = record {
  pages = pages;
  room = room;
  fits = refl;
  narrow = narrow;
  numbered = numbered;
  args = λ n o. (o, record { sizes = []; lays = lays_none (places_of n) base pages; left = refl; done = tt });
}

-- the argument that is laid next
module _ (ts : List source.Term) (n : ℕ) (base ws found : List ℕ) (t : source.Term) (lt : n < length ts) (is : t ≡ get_or ts n t)
    (l : IsCalling ts n base ws found) where
  cut : drop n ts ≡ t ∷ drop (n + 1) ts
  cut = let next : n + 1 ≡ suc n = omega arith in drop-cons ts n t lt ∙ (λ k. sym is k ∷ drop (sym next k) ts)

  pub arg_next : IsNarrow (term_of t) × ((vars : ℕ) × Over (IsNumbered vars) (term_of t))
  arg_next = (
    (subst (λ us. AllNarrow (map term_of us)) cut l.narrow).0,
    (l.numbered.0, (subst (λ us. AllOver (IsNumbered l.numbered.0) (map term_of us)) cut l.numbered.1).0),
  )

  -- it finds no room
  pub arg_misses : (rest : List ℕ) → first_fit (rooms ws) (term_sizes (term_of t)) ≡ None
      → first_fit (rooms base) (all_sizes (map term_of ts) ++ rest) ≡ None
  arg_misses rest none =
      first_fit-append (rooms base) (all_sizes (map term_of ts)) rest
      ∙ ap (option_and_then (λ ss. first_fit ss rest))
      (l.fits
      ∙ ap (λ us. first_fit (rooms ws) (all_sizes (map term_of us))) cut
      ∙ first_fit-append (rooms ws) (term_sizes (term_of t)) (all_sizes (map term_of (drop (n + 1) ts)))
      ∙ ap (option_and_then (λ ss. first_fit ss (all_sizes (map term_of (drop (n + 1) ts))))) none)

  split : (k : ℕ) → AllOver (IsNumbered k) (map term_of ts)
      → Over (IsNumbered k) (term_of t) × AllOver (IsNumbered k) (map term_of (drop (n + 1) ts))
  split k o = subst (λ us. AllOver (IsNumbered k) (map term_of us)) cut (l.args k o).0

  pub calling_step : (w1 : List ℕ) (y : ℕ) → (vars : ℕ) × AllOver (IsNumbered vars) (map term_of ts) → length ts ≤ 64
      → LaysAlways (term_of t) y ws w1 → IsCalling ts (n + 1) base w1 (set found n y)
  calling_step w1 y (vars, over) few laid = record {
    pages = (steps vars over).lays.pages;
    room = length-set found n y ∙ l.room;
    fits = found_fits (places_of vars) ts (n + 1) base w1 (set found n y) (steps vars over);
    narrow = (subst (λ us. AllNarrow (map term_of us)) cut l.narrow).1;
    numbered = (vars, (split vars over).1);
    args = λ k o. ((split k o).1, steps k o);
  }
    where
      steps : (k : ℕ) → AllOver (IsNumbered k) (map term_of ts) → Found (places_of k) ts (n + 1) base w1 (set found n y)
      steps k o =
          let f = (l.args k o).1 in
          let m = laid k (split k o).0 in
          let room : n < length found = let r = l.room in omega (arith, lt, few, r) in
          let longer : settled_all (take (n + 1) ts) ≡ settled_all (take n ts) ++ settled_term (term_of t) ∷ [] =
          ap settled_all (take_more ts n t lt ∙ ap (λ u. take n ts ++ u ∷ []) (sym is))
          ∙ map-append (λ u. settled_term (term_of u)) (take n ts) (t ∷ []) in
          record {
            sizes = f.sizes ++ term_sizes (term_of t);
            lays = lays_then (places_of k) f.sizes (term_sizes (term_of t)) base ws w1 f.lays m.lays;
            left = append_assoc f.sizes (term_sizes (term_of t)) (all_sizes (map term_of (drop (n + 1) ts)))
                ∙ ap (λ us. f.sizes ++ all_sizes (map term_of us)) (sym cut)
                ∙ f.left;
            done = subst (λ us. AllDenote (inside_at w1) (places_of k) us (settled_all (take (n + 1) ts)))
                (sym (take_more_set found n y room))
                (subst (AllDenote (inside_at w1) (places_of k) (take n found ++ y ∷ [])) (sym longer)
                (denote_more (inside_at w1) (places_of k) (take n found) (settled_all (take n ts)) y (settled_term (term_of t))
                (denote_on (inside_at ws) (inside_at w1) (places_of k) (take n found) (settled_all (take n ts))
                (lays_grows (places_of k) (term_sizes (term_of t)) ws w1 f.lays.pages m.lays) f.done) m.word));
          }

-- past the end no more is taken of the words
denotes_front : (w : Words) (vs : Addresses) (m n : ℕ) (found : List ℕ) (ts : List source.Term) → m ≤ n
    → AllDenote w vs (take n found) (settled_all (take n ts))
    → AllDenote w vs (take m found) (settled_all (take m ts))
denotes_front w vs zero n found ts h d = tt
denotes_front w vs (suc m) zero found ts h d = absurd (omega arith)
denotes_front w vs (suc m) (suc n) [] [] h d = tt
denotes_front w vs (suc m) (suc n) [] (t ∷ ts) h d = absurd d
denotes_front w vs (suc m) (suc n) (x ∷ found) [] h d = absurd d
denotes_front w vs (suc m) (suc n) (x ∷ found) (t ∷ ts) h d = (d.0, denotes_front w vs m n found ts (omega arith) d.1)

-- all arguments are laid, and then the process
module _ (ts : List source.Term) (n : ℕ) (base ws found : List ℕ) (hi : length ts ≤ n) (few : length ts ≤ 64)
    (l : IsCalling ts n base ws found) where
  pub words_found : length (take (length ts) found) ≡ length ts
  words_found = length-take-le (length ts) found (let r = l.room in omega (arith, few, r))

  pub call_misses : fit (4 + length (take (length ts) found)) (rooms ws) ≡ None
      → first_fit (rooms base) (all_sizes (map term_of ts) ++ (4 + length ts) ∷ []) ≡ None
  call_misses none =
      first_fit-append (rooms base) (all_sizes (map term_of ts)) ((4 + length ts) ∷ [])
      ∙ ap (option_and_then (λ ss. first_fit ss ((4 + length ts) ∷ [])))
      (l.fits ∙ ap (λ us. first_fit (rooms ws) (all_sizes (map term_of us))) (drop_of_length-le ts hi))
      ∙ ap (λ k. option_and_then (λ ss. Some ss) (fit (4 + k) (rooms ws))) (sym words_found)
      ∙ ap (option_and_then (λ ss. Some ss)) none

  pub call_laid : (w2 : List ℕ) (k f p : ℕ) → k < 0x100000000 → f < 0x100000000 → LaysProcess k f (take (length ts) found) p ws w2
      → (vars : ℕ) → AllOver (IsNumbered vars) (map term_of ts) → LaysCall vars (map term_of ts) f k p base w2
  call_laid w2 k f p small call h vars over = record {
    words = xs;
    count = words_found ∙ sym (length-map ts term_of);
    headed = done;
    args = subst (Arguments (inside_at w2) vs (p + 4)) (sym (twice ts))
        (args_denote (inside_at w2) vs (p + 4) xs (settled_all ts) done.stand
        (denote_on (inside_at ws) (inside_at w2) vs xs (settled_all ts)
        (headed_grows vs (all_sizes (map term_of ts)) k f xs p base ws w2 lays h said small call short) says));
  }
    where
      vs : Addresses
      vs = places_of vars

      xs : List ℕ
      xs = take (length ts) found

      found' : Found vs ts n base ws found
      found' = (l.args vars over).1

      lays : Lays vs (all_sizes (map term_of ts)) base ws
      lays = subst (λ k. Lays vs k base ws)
          (sym (append-nil found'.sizes) ∙ ap (λ us. found'.sizes ++ all_sizes (map term_of us)) (sym (drop_of_length-le ts hi))
          ∙ found'.left)
          found'.lays

      says : AllDenote (inside_at ws) vs xs (settled_all ts)
      says = subst (AllDenote (inside_at ws) vs xs) (ap settled_all (take_all (length ts) ts (omega arith)))
          (denotes_front (inside_at ws) vs (length ts) n found ts hi found'.done)

      said : AllSaid (inside_at ws) vs xs
      said = all_said (inside_at ws) vs xs (settled_all ts) says

      short : length xs < 0x100000000
      short = omega (arith, words_found, few)

      done : LaysHeaded vs (all_sizes (map term_of ts)) k f xs p base w2
      done = headed vs (all_sizes (map term_of ts)) k f xs p base ws w2 lays h said small call short
