-- A store that is made keeps the rule.
use Rattle.std.proofs.Common.{◌≡◌, ◌⊎◌, ℕ, zero, suc, ◌+◌, ◌*◌, ◌/◌, ◌^◌, ◌<◌, ◌≤◌, List, [], ◌∷◌, length, true≢false}
use Rattle.std.proofs.Common.{refl, sym, ap, ◌∙◌, subst, ⊎_elim, inl, inr, arith}
use Rattle.std.specs.Prelude.{slice_index}
use mathlib.Core.Option.{some, some-injective, some-ne-none}
use mathlib.Core.Logic.{dite}
use native.Mathlib.Decide.{ℕ_discrete, dec_le}
use lib.ListN.{get_elem?}
use Rattle.atomic_table.specs.Table.{opening}
use Rattle.word_commit.specs.declared.view.View.{View}
use Rattle.word_commit.specs.declared.view.Given.{Given}
use Rattle.word_commit.specs.Meanings.{Wording, Meaning, Among}
use Rattle.word_commit.specs.Histories.{start_of, Inside}
use Rattle.word_commit.specs.Views.{Charge, Commits, Moves, Cells, Extra, left, granted, all_rights, first_view}
use Rattle.word_commit.specs.Kept.{words_of, page_at, clock_at, IsTrueOf, Kept}
use Rattle.word_commit.specs.Openings.{StandsInside, MayOpen}

module _ (m : Wording) where
  pub inside_or_not : (w : List ℕ) (a : ℕ) → Inside m w a ⊎ (Inside m w a → ⊥)
  inside_or_not w a = dite (ℕ_discrete a (start_of a)) (λ e. inl (inl e))
      (λ ne. dite (dec_le (suc a) (m.top (slice_index w (start_of a)))) (λ lt. inl (inr lt)) (λ nl. inr (λ h. ⊎_elim ne nl h)))

  -- the words that stand inside, below an address
  gather : (w : List ℕ) (n : ℕ) → n ≤ length w → (l : List (ℕ × ℕ)) × ((x : ℕ × ℕ) → Among l x → StandsInside m w x)
      × ((a : ℕ) → a < n → Inside m w a → Among l (a, slice_index w a))
  gather w zero le = ([], (λ x h. absurd h), (λ a lt h. absurd (omega arith)))
  gather w (suc n) le = let r = gather w n (omega arith) in ⊎_elim
      (λ (inside : Inside m w n). (
        (n, slice_index w n) ∷ r.0,
        (λ x h. ⊎_elim (λ (e : (n, slice_index w n) ≡ x). subst (StandsInside m w) e (omega arith, inside, refl))
            (λ (t : Among r.0 x). r.1 x t) h),
        (λ a lt h. dite (ℕ_discrete a n) (λ e. inl (λ i. (sym e i, slice_index w (sym e i)))) (λ ne. inr (r.2 a (omega arith) h))),
      ))
      (λ (out : Inside m w n → ⊥). (
        r.0,
        r.1,
        (λ a lt h. dite (ℕ_discrete a n) (λ e. absurd (out (subst (Inside m w) e h)))
            (λ ne. r.2 a (omega arith) h)),
      ))
      (inside_or_not w n)

module _ {E : Type 0} (m : Meaning E) (g : Given) where
  -- The table's words are the words given, and zeros.
  pub record LaysOut (words : List ℕ) : Type 0 where
    pub size : length words ≡ 1024 * g.pages + g.pages + 1
    pub cells : (a : ℕ) → a < 1024 * g.pages → slice_index words a ≡ slice_index (words_of g) a
    pub zeros : (i : ℕ) → 1024 * g.pages ≤ i → slice_index words i ≡ 0

  pub begins : (words : List ℕ) → MayOpen m.words (words_of g) → length (words_of g) ≡ 1024 * g.pages
      → granted Moves g + granted Extra g < 2 ^ 32
      → LaysOut words → Kept m g (opening words [] (first_view g))
  begins words may wide few lays =
      let w = words_of g in
      let r = gather m.words w (1024 * g.pages) (omega arith) in record {
        log = [];
        fold = w;
        folds = refl;
        lawful = tt;
        ever = r.0;
        stood = λ a range inside. r.2 a range inside;
        within = λ x h. let t = r.1 x h in (
          t.1,
          (λ start. let e : m.words.top (slice_index w x.0)
              ≡ m.words.top x.1 = ap m.words.top t.2 in (omega arith, omega arith)),
        );
        closed = λ l a all yes. may.closed l a (λ x h. r.1 x (all x h)) yes;
        size = lays.size;
        wide = wide;
        opens = λ p lt. may.above p (omega arith);
        clock = lays.zeros (clock_at g) (let c : clock_at g ≡ 1024 * g.pages + g.pages = refl in omega arith);
        numbers = λ n. ((λ a b. absurd (omega arith)), (λ a. refl), (λ a. refl));
        holders = λ p lt. let z = lays.zeros (page_at g p) (let c : page_at g p ≡ 1024 * g.pages + p = refl in omega arith) in
            (z, (omega arith));
        budget = funds;
        few = few;
        rights = refl;
        store = λ a range inside. inl (lays.cells a range);
        views = one r.0;
      }
    where
      funds : (c : Charge) → 0 + (left c (first_view {E = E} g).purse + 0) ≡ granted c g
      funds Commits = omega arith
      funds Moves = omega arith
      funds Cells = omega arith
      funds Extra = omega arith

      truth : (ever : List (ℕ × ℕ)) → IsTrueOf m g words [] ever (words_of g) (first_view g)
      truth ever = record {
        held = λ p h. absurd (true≢false (sym h));
        known = λ x h. absurd h;
        due = λ x h. absurd h;
        shown = λ x h. absurd h;
        entries = λ x h. absurd h;
        front = omega arith;
        spent = λ z. absurd (let a : all_rights ≡ 1048576 = refl in omega arith);
      }

      one : (ever : List (ℕ × ℕ)) (id : ℕ) (v : View E) → get_elem? (first_view g ∷ []) id ≡ some v
          → IsTrueOf m g words [] ever (words_of g) v
      one ever zero v e = subst (IsTrueOf m g words [] ever (words_of g)) (some-injective _ _ e) (truth ever)
      one ever (suc id) v e = absurd (some-ne-none v (sym e))

  pub begins_at : (given words : List ℕ) → words_of g ≡ given → MayOpen m.words given → g.pages ≡ length given / 1024
      → g.quota.moves + g.extra < 2 ^ 32
      → length words ≡ 1024 * g.pages + g.pages + 1 → ((a : ℕ) → a < 1024 * g.pages → slice_index words a ≡ slice_index given a)
      → ((i : ℕ) → 1024 * g.pages ≤ i → slice_index words i ≡ 0) → Kept m g (opening words [] (first_view g))
  begins_at given words e may pages few size cells zeros = begins words (subst (MayOpen m.words) (sym e) may)
      (let h = may.whole in let l : length (words_of g) ≡ length given = ap length e in omega arith)
      (let a : granted Moves g ≡ g.quota.moves = refl in let b : granted Extra g ≡ g.extra = refl in omega arith)
      record { size = size; cells = λ a lt. cells a lt ∙ ap (λ (w : List ℕ). slice_index w a) (sym e); zeros = zeros }
