-- A list is laid pair after pair: the last pair's second word is still to be written.
use Rattle.std.proofs.Common.{◌≡◌, ℕ, suc, ◌%◌, Bool, true, false, cond, List, [], ◌∷◌, length, set, slice_get, Some, None, refl, sym, ap}
use Rattle.std.proofs.Common.{◌∙◌, subst, arith, ◌⊎◌, inl, inr, ⊎_elim}
use Rattle.std.specs.Option.{option_and_then}
use Rattle.std.proofs.lemmas.Bool.{cases_eq, false≢true}
use Rattle.std.proofs.lemmas.List.{length-set}
use Rattle.std.proofs.lemmas.Option.{same_Some}
use Rattle.fcp_model.specs.Terms.{Term, cons}
use Rattle.fcp_model.specs.Expressions.{leaf}
use Rattle.heap_words.specs.Cells.{decoded, is_final_word}
use Rattle.heap_words.specs.Heaps.{is_inside, inside_at}
use Rattle.heap_words.specs.HeapLaws.{inside_known}
use Rattle.heap_words.specs.declared.cell.Cell.TheVariants.{Cons}
use Rattle.heap_words.proofs.QuietHeaps.{slice_get-set_other}
use Rattle.word_states.specs.Words.{Grows}
use Rattle.word_states.specs.Denoting.{Addresses, Denotes}
use Rattle.goal_layout.specs.FirstFit.{first_fit}
use Rattle.goal_layout.specs.PieceSizes.{term_sizes}
use Rattle.goal_layout.specs.Pages.{rooms, ArePages, Takes}
use Rattle.goal_layout.specs.Laying.{IsBlank, IsSaid, Lays, settled_term}
use Rattle.goal_layout.proofs.Insides.{not_inside}
use Rattle.word_states.proofs.Persisting.{denotes_on, denotes_final}
use Rattle.goal_layout.proofs.Leaves.{taken_blank}
use Rattle.goal_layout.proofs.Lays.{first_fit-append, zero_moves, top_quiet, final_off, kept_word, said_on, take_lays, lays_then}
use Rattle.goal_layout.proofs.Lays.{blank_on, written_inside, written_other, written_word, written_pages, written_rooms, written_grows}
use Rattle.goal_layout.proofs.Lays.{lays_written}

-- what was in use is as before, but for tops and the word at `hole`
abbrev pub Follows : ℕ → List ℕ → List ℕ → Type 0
Follows hole ws ws' = (a : ℕ) → is_inside ws a ≡ true → (a % 1024 ≡ 0 → ⊥) → (a ≡ hole → ⊥)
    → (is_inside ws' a ≡ true) × (slice_get ws' a ≡ slice_get ws a)

-- what was in use is now what stood there in the beginning, or is said
abbrev pub Settles : Addresses → List ℕ → List ℕ → List ℕ → Type 0
Settles vs base ws ws' = (a x : ℕ) → is_inside ws a ≡ true → inside_at ws' a ≡ Some x
    → (inside_at base a ≡ Some x) ⊎ IsSaid (inside_at ws') vs x

-- The pairs so far are laid. Once the word at `hole` denotes the rest, the word `list` denotes the whole.
pub record Chain (vs : Addresses) (sizes base ws : List ℕ) (list hole : ℕ) (rest whole : Term ℕ) : Type 0 where
  pub pages : ArePages ws
  pub size : length ws ≡ length base
  pub fits : first_fit (rooms base) sizes ≡ first_fit (rooms ws) (term_sizes rest)
  pub kept : (a : ℕ) → is_inside base a ≡ true → (a % 1024 ≡ 0 → ⊥) → (is_inside ws a ≡ true) × (slice_get ws a ≡ slice_get base a)
  pub new : is_inside base hole ≡ false
  pub blank : IsBlank ws hole
  pub closes : (ws' : List ℕ) (z : ℕ) → ArePages ws' → Follows hole ws ws' → inside_at ws' hole ≡ Some z
      → Denotes (inside_at ws') vs z (settled_term rest) → Settles vs base ws ws' × Denotes (inside_at ws') vs list (settled_term whole)

follows_grows : (hole : ℕ) (ws ws' : List ℕ) → ArePages ws → IsBlank ws hole → Follows hole ws ws' → Grows (inside_at ws) (inside_at ws')
follows_grows hole ws ws' pages blank f a x e final = ⊎_elim
    (λ d. let z : 0 ≡ x = same_Some 0 x (sym blank.word ∙ sym (ap (inside_at ws) d) ∙ e) in
    absurd (false≢true (sym zero_moves ∙ ap is_final_word z ∙ final)))
    (λ d. kept_word ws ws' a x (f a (inside_known ws a x e) (final_off ws a x pages e final) d) e)
    (cases_eq a hole)

-- a word that is still as it was
back : (ws ws' : List ℕ) (a x : ℕ) → is_inside ws a ≡ true → (is_inside ws' a ≡ true) × (slice_get ws' a ≡ slice_get ws a)
    → inside_at ws' a ≡ Some x → inside_at ws a ≡ Some x
back ws ws' a x i k e = (λ j. cond ((i ∙ sym k.0) j) (sym k.1 j) None) ∙ e

-- one pair: its first word is written
module _ (vs : Addresses) (ws w1 w2 : List ℕ) (c y x : ℕ) (h : Term ℕ) (takes : Takes ws w1 2 c) (laid : Lays vs (term_sizes h) w1 w2)
    (says : Denotes (inside_at w2) vs y (settled_term h)) (is : decoded x ≡ Some (Cons c)) where
  abbrev pair : List ℕ
  pair = set w2 c y

  first_blank : IsBlank w2 c
  first_blank = blank_on vs (term_sizes h) w1 w2 c laid (taken_blank ws w1 2 c c takes (omega arith) (omega arith))

  second_blank : IsBlank w2 (suc c)
  second_blank = blank_on vs (term_sizes h) w1 w2 (suc c) laid (taken_blank ws w1 2 c (suc c) takes (omega arith) (omega arith))

  pub pair_lays : Lays vs (2 ∷ term_sizes h) ws pair
  pair_lays = lays_written w2 c y laid.pages first_blank vs (2 ∷ term_sizes h) ws
      (lays_then vs (2 ∷ []) (term_sizes h) ws w1 w2 (take_lays vs ws w1 2 c takes) laid) (takes.free c (omega arith) (omega arith))
      (inr (leaf (settled_term h), says))

  pub pair_blank : IsBlank pair (suc c)
  pair_blank = record {
    word = written_other w2 c y laid.pages first_blank (suc c) (λ e. omega (arith, e)) ∙ second_blank.word;
    off = second_blank.off;
  }

  pub pair_free : is_inside ws (suc c) ≡ false
  pair_free = takes.free (suc c) (omega arith) (omega arith)

  -- once its second word denotes the rest
  pub pair_says : (ws' : List ℕ) (z : ℕ) (u : Term ℕ) → Grows (inside_at pair) (inside_at ws') → inside_at ws' (suc c) ≡ Some z
      → Denotes (inside_at ws') vs z (settled_term u) → Denotes (inside_at ws') vs x (settled_term (cons h u))
  pair_says ws' z u grows e d =
      let here : Denotes (inside_at pair) vs y (settled_term h) =
      denotes_on (inside_at w2) (inside_at pair) vs vs (written_grows w2 c y laid.pages first_blank) (λ v a l. l) y (settled_term h) says in
      let final : is_final_word y ≡ true = denotes_final (inside_at w2) vs y (settled_term h) says in (
        c,
        y,
        z,
        is,
        grows c y (written_word w2 c y laid.pages first_blank) final,
        denotes_on (inside_at pair) (inside_at ws') vs vs grows (λ v a l. l) y (settled_term h) here,
        e,
        d,
      )

-- the first pair
pub chain_begins : (vs : Addresses) (base w1 w2 : List ℕ) (c y x hole : ℕ) (h t : Term ℕ) → Takes base w1 2 c → Lays vs (term_sizes h) w1 w2
    → Denotes (inside_at w2) vs y (settled_term h) → decoded x ≡ Some (Cons c) → hole ≡ suc c
    → Chain vs (term_sizes (cons h t)) base (set w2 c y) x hole t (cons h t)
chain_begins vs base w1 w2 c y x hole h t takes laid says is e =
    subst (λ k. Chain vs (term_sizes (cons h t)) base (set w2 c y) x k t (cons h t)) (sym e) (record {
      pages = p.pages;
      size = p.size;
      fits = first_fit-append (rooms base) (2 ∷ term_sizes h) (term_sizes t)
          ∙ ap (option_and_then (λ ss. first_fit ss (term_sizes t))) p.fits;
      kept = p.kept;
      new = pair_free vs base w1 w2 c y x h takes laid says is;
      blank = b;
      closes = λ ws' z pages f e d.
          let g : Grows (inside_at (set w2 c y)) (inside_at ws') = follows_grows (suc c) (set w2 c y) ws' p.pages b f in (
            λ a v i ev. ⊎_elim
                (λ m. inr (inl (top_quiet ws' a v pages ev m)))
                (λ m. ⊎_elim
                (λ s. inr (inr (
                  leaf (settled_term t),
                  subst (λ k. Denotes (inside_at ws') vs k (settled_term t)) (same_Some z v (sym e ∙ sym (ap (inside_at ws') s) ∙ ev)) d,
                )))
                (λ s. ⊎_elim (λ j. inl j) (λ j. inr (said_on (inside_at (set w2 c y)) (inside_at ws') vs v g j))
                (p.said a v (back (set w2 c y) ws' a v i (f a i m s) ev)))
                (cases_eq a (suc c)))
                (cases_eq (a % 1024) 0),
            pair_says vs base w1 w2 c y x h takes laid says is ws' z t g e d,
          );
    })
  where
    p : Lays vs (2 ∷ term_sizes h) base (set w2 c y)
    p = pair_lays vs base w1 w2 c y x h takes laid says is

    b : IsBlank (set w2 c y) (suc c)
    b = pair_blank vs base w1 w2 c y x h takes laid says is

-- one pair more
module _ (vs : Addresses) (sizes base ws w1 w2 : List ℕ) (list hole c y z : ℕ) (h u whole : Term ℕ)
    (chain : Chain vs sizes base ws list hole (cons h u) whole) (takes : Takes ws w1 2 c) (laid : Lays vs (term_sizes h) w1 w2)
    (says : Denotes (inside_at w2) vs y (settled_term h)) (is : decoded z ≡ Some (Cons c)) where
  abbrev w3 : List ℕ
  w3 = set w2 c y

  abbrev w4 : List ℕ
  w4 = set w3 hole z

  abbrev more : Lays vs (2 ∷ term_sizes h) ws w3
  more = pair_lays vs ws w1 w2 c y z h takes laid says is

  hole_inside : is_inside ws hole ≡ true
  hole_inside = inside_known ws hole 0 chain.blank.word

  second_free : is_inside ws (suc c) ≡ false
  second_free = pair_free vs ws w1 w2 c y z h takes laid says is

  apart : suc c ≡ hole → ⊥
  apart e = false≢true (sym second_free ∙ ap (is_inside ws) e ∙ hole_inside)

  hole_blank : IsBlank w3 hole
  hole_blank = blank_on vs (2 ∷ term_sizes h) ws w3 hole more chain.blank

  second_blank' : IsBlank w4 (suc c)
  second_blank' =
      let b = pair_blank vs ws w1 w2 c y z h takes laid says is in
      record { word = written_other w3 hole z more.pages hole_blank (suc c) apart ∙ b.word; off = b.off }

  abbrev pages4 : ArePages w4
  pages4 = written_pages w3 hole z more.pages hole_blank

  grows34 : Grows (inside_at w3) (inside_at w4)
  grows34 = written_grows w3 hole z more.pages hole_blank

  -- what was in use before, other than the hole
  old_kept : (a : ℕ) → is_inside ws a ≡ true → (a % 1024 ≡ 0 → ⊥) → (a ≡ hole → ⊥)
      → (is_inside w4 a ≡ true) × (slice_get w4 a ≡ slice_get ws a)
  old_kept a i off d =
      let k = more.kept a i off in
      (written_inside w3 hole z more.pages hole_blank a ∙ k.0, slice_get-set_other w3 hole a z d ∙ k.1)

  module _ (ws' : List ℕ) (v : ℕ) (pages : ArePages ws') (f : Follows (suc c) w4 ws') (e : inside_at ws' (suc c) ≡ Some v)
      (d : Denotes (inside_at ws') vs v (settled_term u)) where
    grows : Grows (inside_at w4) (inside_at ws')
    grows = follows_grows (suc c) w4 ws' pages4 second_blank' f

    grows3 : Grows (inside_at w3) (inside_at ws')
    grows3 a x e' final =
        let g = grows34 a x e' final in
        grows a x g final

    follows_old : Follows hole ws ws'
    follows_old a i off s =
        let k = old_kept a i off s in
        let n : a ≡ suc c → ⊥ = λ q. false≢true (sym second_free ∙ ap (is_inside ws) (sym q) ∙ i) in
        let j = f a k.0 off n in
        (j.0, j.1 ∙ k.1)

    hole_word : inside_at ws' hole ≡ Some z
    hole_word =
        let w : inside_at w4 hole ≡ Some z = written_word w3 hole z more.pages hole_blank in
        kept_word w4 ws' hole z (f hole (inside_known w4 hole z w) chain.blank.off (λ q. apart (sym q))) w

    rest_says : Denotes (inside_at ws') vs z (settled_term (cons h u))
    rest_says = pair_says vs ws w1 w2 c y z h takes laid says is ws' v u grows3 e d

    before : Settles vs base ws ws' × Denotes (inside_at ws') vs list (settled_term whole)
    before = chain.closes ws' z pages follows_old hole_word rest_says

    -- a word that came into use
    newer : (a x : ℕ) → is_inside ws a ≡ false → is_inside w4 a ≡ true → inside_at ws' a ≡ Some x → IsSaid (inside_at ws') vs x
    newer a x n i ex = ⊎_elim
        (λ m. inl (top_quiet ws' a x pages ex m))
        (λ m. ⊎_elim
        (λ s. inr (
          leaf (settled_term u),
          subst (λ k. Denotes (inside_at ws') vs k (settled_term u)) (same_Some v x (sym e ∙ sym (ap (inside_at ws') s) ∙ ex)) d,
        ))
        (λ s.
        let there : inside_at w4 a ≡ Some x = back w4 ws' a x i (f a i m s) ex in
        let off_hole : a ≡ hole → ⊥ = λ q. false≢true (sym n ∙ ap (is_inside ws) q ∙ hole_inside) in
        let here : inside_at w3 a ≡ Some x = sym (written_other w3 hole z more.pages hole_blank a off_hole) ∙ there in
        ⊎_elim (λ j. absurd (false≢true (sym n ∙ inside_known ws a x j))) (λ j. said_on (inside_at w3) (inside_at ws') vs x grows3 j)
        (more.said a x here))
        (cases_eq a (suc c)))
        (cases_eq (a % 1024) 0)

    settles : Settles vs base w4 ws'
    settles a x i ex = go (is_inside ws a) refl
      where
        go : (b : Bool) → is_inside ws a ≡ b → (inside_at base a ≡ Some x) ⊎ IsSaid (inside_at ws') vs x
        go true o = before.0 a x o ex
        go false o = inr (newer a x o i ex)

  pub chain_goes_on : Chain vs sizes base w4 list (suc c) u whole
  chain_goes_on = record {
    pages = pages4;
    size = length-set w3 hole z ∙ more.size ∙ chain.size;
    fits = chain.fits
        ∙ first_fit-append (rooms ws) (2 ∷ term_sizes h) (term_sizes u)
        ∙ ap (option_and_then (λ ss. first_fit ss (term_sizes u))) more.fits
        ∙ ap (λ r. first_fit r (term_sizes u)) (sym (written_rooms w3 hole z more.pages hole_blank));
    kept = λ a i off.
        let k = chain.kept a i off in
        let n : a ≡ hole → ⊥ = λ q. false≢true (sym chain.new ∙ ap (is_inside base) (sym q) ∙ i) in
        let j = old_kept a k.0 off n in
        (j.0, j.1 ∙ k.1);
    new = not_inside base (suc c) (λ i. false≢true (sym second_free ∙ (chain.kept (suc c) i second_blank'.off).0));
    blank = second_blank';
    closes = λ ws' v pages f e d. (settles ws' v pages f e d, (before ws' v pages f e d).1);
  }

pub chain_step : (vs : Addresses) (sizes base ws w1 w2 : List ℕ) (list hole c y z next : ℕ) (h u whole : Term ℕ)
    → Chain vs sizes base ws list hole (cons h u) whole → Takes ws w1 2 c → Lays vs (term_sizes h) w1 w2
    → Denotes (inside_at w2) vs y (settled_term h) → decoded z ≡ Some (Cons c) → next ≡ suc c
    → Chain vs sizes base (set (set w2 c y) hole z) list next u whole
chain_step vs sizes base ws w1 w2 list hole c y z next h u whole chain takes laid says is e =
    subst (λ k. Chain vs sizes base (set (set w2 c y) hole z) list k u whole) (sym e)
    (chain_goes_on vs sizes base ws w1 w2 list hole c y z h u whole chain takes laid says is)

-- the last pair's second word is written
pub chain_ends : (vs : Addresses) (sizes base ws w1 : List ℕ) (list hole z : ℕ) (rest whole : Term ℕ)
    → Chain vs sizes base ws list hole rest whole → Lays vs (term_sizes rest) ws w1 → Denotes (inside_at w1) vs z (settled_term rest)
    → Lays vs sizes base (set w1 hole z) × Denotes (inside_at (set w1 hole z)) vs list (settled_term whole)
chain_ends vs sizes base ws w1 list hole z rest whole chain laid says = (
  record {
    pages = written_pages w1 hole z laid.pages b;
    size = length-set w1 hole z ∙ laid.size ∙ chain.size;
    fits = chain.fits ∙ laid.fits ∙ ap Some (sym (written_rooms w1 hole z laid.pages b));
    kept = λ a i off.
        let k = chain.kept a i off in
        let n : a ≡ hole → ⊥ = λ q. false≢true (sym chain.new ∙ ap (is_inside base) (sym q) ∙ i) in
        let j = f a k.0 off n in
        (j.0, j.1 ∙ k.1);
    said = λ a x e. by a x e (is_inside ws a) refl;
  },
  done.1,
)
  where
    b : IsBlank w1 hole
    b = blank_on vs (term_sizes rest) ws w1 hole laid chain.blank

    grows : Grows (inside_at w1) (inside_at (set w1 hole z))
    grows = written_grows w1 hole z laid.pages b

    f : Follows hole ws (set w1 hole z)
    f a i off d =
        let k = laid.kept a i off in
        (written_inside w1 hole z laid.pages b a ∙ k.0, slice_get-set_other w1 hole a z d ∙ k.1)

    done : Settles vs base ws (set w1 hole z) × Denotes (inside_at (set w1 hole z)) vs list (settled_term whole)
    done = chain.closes (set w1 hole z) z (written_pages w1 hole z laid.pages b) f (written_word w1 hole z laid.pages b)
        (denotes_on (inside_at w1) (inside_at (set w1 hole z)) vs vs grows (λ v a l. l) z (settled_term rest) says)

    by : (a x : ℕ) → inside_at (set w1 hole z) a ≡ Some x → (t : Bool) → is_inside ws a ≡ t
        → (inside_at base a ≡ Some x) ⊎ IsSaid (inside_at (set w1 hole z)) vs x
    by a x e true o = done.0 a x o e
    by a x e false o =
        let off_hole : a ≡ hole → ⊥ = λ q. false≢true (sym o ∙ ap (is_inside ws) q ∙ inside_known ws hole 0 chain.blank.word) in
        let here : inside_at w1 a ≡ Some x = sym (written_other w1 hole z laid.pages b a off_hole) ∙ e in
        inr (⊎_elim (λ j. absurd (false≢true (sym o ∙ inside_known ws a x j)))
        (λ j. said_on (inside_at w1) (inside_at (set w1 hole z)) vs x grows j) (laid.said a x here))
