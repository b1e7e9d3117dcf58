-- A store that is closed has one lawful history, and its words.
use Rattle.std.proofs.Common.{◌≡◌, ℕ, zero, suc, ◌+◌, ◌*◌, ◌<◌, ◌≤◌, List, [], ◌∷◌, ◌++◌, length, take, map}
use Rattle.std.proofs.Common.{refl, sym, ap, ◌∙◌, subst, inl, inr, arith, Option, None, append-nil}
use Rattle.std.specs.Prelude.{slice_index}
use mathlib.Core.Option.{some, some-ne-none, some-injective}
use mathlib.Core.Logic.{dite}
use native.Mathlib.Decide.{ℕ_discrete}
use lib.ListN.{get_elem?}
use Rattle.atomic_table.specs.Table.{Final, Seen}
use Rattle.atomic_table.proofs.Lists.{at_map}
use Rattle.word_commit.specs.declared.view.View.{View}
use Rattle.word_commit.specs.declared.view.Numbered.{Numbered}
use Rattle.word_commit.specs.declared.view.Given.{Given}
use Rattle.word_commit.specs.declared.view.Nothing.{Nothing}
use Rattle.word_commit.specs.Meanings.{Meaning, Among}
use Rattle.word_commit.specs.Histories.{Inside, Closed, Lawful, world}
use Rattle.word_commit.specs.Views.{Charge, price, left, granted, all_rights, times}
use Rattle.word_commit.specs.Kept.{words_of, total, Once, numbers_of, IsLogged, Kept}
use Rattle.word_commit.specs.Seats.{pending_of, kept_of}
use Rattle.word_commit.specs.Closings.{AreArranged, Closes}
use Rattle.word_commit.proofs.Pages.{times_same}
use Rattle.word_commit.proofs.Lists.{at_length}
use Rattle.word_commit.proofs.Arranging.{element, once_length}
use Rattle.word_commit.proofs.Seating.{length-kept_of}
use Rattle.word_commit.proofs.Sights.{sees_alone}

-- two lists of one length with the same elements are one
list_same : {A : Type 0} (l r : List A) → length l ≡ length r → ((k : ℕ) (x : A) → get_elem? l k ≡ some x → get_elem? r k ≡ some x) → l
    ≡ r
list_same [] [] e h = refl
list_same [] (y ∷ ys) e h = absurd (let a : 0 ≡ suc (length ys) = e in omega arith)
list_same (x ∷ xs) [] e h = absurd (some-ne-none x (sym (h 0 x refl)))
list_same (x ∷ xs) (y ∷ ys) e h =
    let head : y ≡ x = some-injective y x (h 0 x refl) in
    let tail : xs ≡ ys = list_same xs ys (let a : length (x ∷ xs) ≡ suc (length xs) = refl in let b : length (y ∷ ys)
    ≡ suc (length ys) = refl in omega arith) (λ k z p. h (suc k) z p) in
    λ i. sym head i ∷ tail i

-- a number that stands in a list stands at some index
stands_at : (n : ℕ) (l : List ℕ) → 0 < times n l → (j : ℕ) × (get_elem? l j ≡ some n)
stands_at n [] h = absurd (let z : times n [] ≡ 0 = refl in omega arith)
stands_at n (q ∷ qs) h = dite (ℕ_discrete q n) (λ e. (0, ap (λ (k : ℕ). some k) e))
    (λ ne. let s = times_same q n qs (λ e. ne (sym e)) in let r = stands_at n qs (omega arith) in (suc r.0, r.1))

module _ {E : Type 0} where
  number_of_entry : (es : List (Numbered E)) (j n : ℕ) → get_elem? (numbers_of es) j ≡ some n → (x : Numbered E)
      × (get_elem? es j ≡ some x) × (x.number ≡ n) × Among es x
  number_of_entry [] j n e = absurd (some-ne-none n (sym e))
  number_of_entry (x ∷ es) zero n e = (x, refl, some-injective x.number n e, inl refl)
  number_of_entry (x ∷ es) (suc j) n e = let r = number_of_entry es j n e in (r.0, r.1, r.2, inr r.3)

  length-numbers_of : (es : List (Numbered E)) → length (numbers_of es) ≡ length es
  length-numbers_of [] = refl
  length-numbers_of (e ∷ es) = ap (λ (n : ℕ). suc n) (length-numbers_of es)

module _ {E L : Type 0} where
  kept_at : (f : E → L) (es : List (Numbered E)) (j : ℕ) (x : Numbered E) → get_elem? es j ≡ some x → get_elem? (kept_of f es) j
      ≡ some (f x.entry)
  kept_at f [] j x e = absurd (some-ne-none x (sym e))
  kept_at f (y ∷ es) zero x e = ap (λ (z : Numbered E). some (f z.entry)) (some-injective y x e)
  kept_at f (y ∷ es) (suc j) x e = kept_at f es j x e

  length-map : (f : E → L) (es : List E) → length (map f es) ≡ length es
  length-map f [] = refl
  length-map f (e ∷ es) = ap (λ (n : ℕ). suc n) (length-map f es)

  -- the entries in order of number are the history, each as it is kept
  arranged_history : (f : E → L) (history : List E) (es : List (Numbered E)) (sorted : List L)
      → ((x : Numbered E) → Among es x → IsLogged history x)
      → ((n : ℕ) → Once (length history) n (times n (numbers_of es))) → AreArranged (numbers_of es) (kept_of f es) sorted
      → map f history ≡ sorted
  arranged_history f history es sorted logged once a =
      let many = once_length (length history) (numbers_of es) once in
      let b = length-numbers_of es in
      let c = length-kept_of f es in
      let d = a.0 in
      let e = length-map f history in
      list_same (map f history) sorted (omega arith)
      (λ k x at. let lt : k < length history = (let h = at_length (map f history) k x at in omega arith) in
      let event = element history k lt in
      let one = (once (suc k)).0 (omega arith) (omega arith) in
      let j = stands_at (suc k) (numbers_of es) (omega arith) in
      let entry = number_of_entry es j.0 (suc k) j.1 in
      let there = logged entry.0 entry.3 in
      let index : there.0 ≡ k = (let p = entry.2 in let q = there.1 in omega arith) in
      let is : entry.0.entry ≡ event.0 = some-injective entry.0.entry event.0 (sym there.2 ∙ ap (get_elem? history) index ∙ event.1) in
      let mapped : f event.0 ≡ x = some-injective (f event.0) x (sym (at_map f history k event.0 event.1) ∙ at) in
      a.1 j.0 k (f entry.0.entry) (kept_at f es j.0 entry.0 entry.1) j.1 ∙ ap (λ (z : E). some (f z)) is ∙ ap (λ (z : L). some z) mapped)

module _ {E : Type 0} (m : Meaning E) (g : Given) where
  -- What is so of the last words of a store, and of its entries.
  pub record Ends (v : View E) (words : List ℕ) : Type 0 where
    pub history : List E
    pub lawful : Lawful m 1 (words_of g) history
    pub entries : (x : Numbered E) → Among v.entries x → IsLogged history x
    pub once : (n : ℕ) → Once (length history) n (times n (numbers_of v.entries))
    pub budget : (c : Charge) → total (λ e. price c (m.cost e)) history + left c v.purse ≤ granted c g
    pub ever : List (ℕ × ℕ)
    pub stood : (a : ℕ) → a < 1024 * g.pages → Inside m.words (world m 1 (words_of g) history) a
        → Among ever (a, slice_index (world m 1 (words_of g) history) a)
    pub closed : Closed m.words ever (world m 1 (words_of g) history)
    pub words_are : (a : ℕ) → a < 1024 * g.pages → Inside m.words (world m 1 (words_of g) history) a → slice_index words a
        ≡ slice_index (world m 1 (words_of g) history) a

  pub ends : (id : ℕ) (v : View E) (words : List ℕ) (slots : List Nothing) → v.purse.rights ≡ all_rights → v.grip.due ≡ []
      → Final (Seen (Kept m g) id v) words slots → Ends v words
  ends id v words slots all idle f =
      let r = sees_alone m g f.0 f.1.0 id v f.1.1 in
      let h = r.0 in record {
        history = h.log;
        lawful = h.lawful;
        entries = λ x y. (h.entries x y).0;
        once = h.whole all;
        budget = h.budget;
        ever = h.ever;
        stood = subst (λ (w : List ℕ). (a : ℕ) → a < 1024 * g.pages → Inside m.words w a → Among h.ever (a, slice_index w a)) (sym h.folds)
            h.stood;
        closed = subst (Closed m.words h.ever) (sym h.folds) h.closed;
        words_are = subst (λ (w : List ℕ). (a : ℕ) → a < 1024 * g.pages → Inside m.words w a → slice_index words a ≡ slice_index w a)
            (sym h.folds)
            (λ a range inside. ap (λ (w : List ℕ). slice_index w a) (sym f.2) ∙ r.1 a range all idle inside);
      }

  -- of the first words alone
  take_index : (l : List ℕ) (n a : ℕ) → a < n → slice_index (take n l) a ≡ slice_index l a
  take_index [] zero a lt = refl
  take_index [] (suc n) a lt = refl
  take_index (x ∷ xs) zero a lt = absurd (omega arith)
  take_index (x ∷ xs) (suc n) zero lt = refl
  take_index (x ∷ xs) (suc n) (suc a) lt = take_index xs n a (omega arith)

  take_length : (l : List ℕ) (n : ℕ) → n ≤ length l → length (take n l) ≡ n
  take_length [] zero le = refl
  take_length [] (suc n) le = absurd (let z : suc n ≤ 0 = le in omega arith)
  take_length (x ∷ xs) zero le = refl
  take_length (x ∷ xs) (suc n) le = ap (λ (k : ℕ). suc k) (take_length xs n
      (let z : length (x ∷ xs) ≡ suc (length xs) = refl in omega arith))

  pub closes : {L : Type 0} (f : E → L) (v : View E) (words : List ℕ) (numbers : List ℕ) (kept sorted : List L) → Ends v words
      → 1024 * g.pages ≤ length words
      → numbers ≡ numbers_of v.entries → kept ≡ kept_of f v.entries → AreArranged numbers kept sorted
      → Closes m f g v (take (1024 * g.pages) words) sorted
  closes f v words numbers kept sorted e long n k a = record {
    history = e.history;
    lawful = e.lawful;
    entries = e.entries;
    budget = e.budget;
    ever = e.ever;
    stood = e.stood;
    closed = e.closed;
    whole = sym (once_length (length e.history) (numbers_of v.entries) e.once) ∙ length-numbers_of v.entries;
    log_is = arranged_history f e.history v.entries sorted e.entries e.once
        (subst (λ (z : List ℕ). AreArranged z (kept_of f v.entries) sorted) n (subst (λ (z : List _). AreArranged numbers z sorted) k a));
    size = take_length words (1024 * g.pages) long;
    words_are = λ i range inside. take_index words (1024 * g.pages) i range ∙ e.words_are i range inside;
  }

pub taken_index : (l : List ℕ) (n a x : ℕ) → a < length (take n l) → get_elem? l a ≡ some x → slice_index (take n l) a ≡ x
taken_index [] n a x lt e = absurd (some-ne-none x (sym e))
taken_index (y ∷ ys) zero a x lt e = absurd (let z : suc a ≤ 0 = lt in omega arith)
taken_index (y ∷ ys) (suc n) zero x lt e = some-injective y x e
taken_index (y ∷ ys) (suc n) (suc a) x lt e = taken_index ys n a x (let z : suc (suc a) ≤ suc (length (take n ys)) = lt in omega arith) e

module _ {E L : Type 0} (f : E → L) where
  -- with nothing pending the journal has all entries
  pub kept_settled : (es : List (Numbered E)) (js : List L) (p : Option (Numbered E)) → p ≡ None → kept_of f es
      ≡ js ++ kept_of f (pending_of p) → js ≡ kept_of f es
  kept_settled es js p n e = sym (append-nil js) ∙ ap (λ q. js ++ kept_of f (pending_of q)) (sym n) ∙ sym e

module _ {E : Type 0} where
  pub numbers_settled : (es : List (Numbered E)) (js : List ℕ) (p : Option (Numbered E)) → p ≡ None → numbers_of es
      ≡ js ++ numbers_of (pending_of p) → js ≡ numbers_of es
  numbers_settled es js p n e = sym (append-nil js) ∙ ap (λ q. js ++ numbers_of (pending_of q)) (sym n) ∙ sym e

  -- so its numbers are those from 1 to their number, each once
  pub once_settled : (m : Meaning E) (g : Given) (v : View E) (words numbers : List ℕ) → Ends m g v words → numbers
      ≡ numbers_of v.entries → (n : ℕ) → Once (length numbers) n (times n numbers)
  once_settled m g v words numbers e is n = subst (λ (z : List ℕ). Once (length z) n (times n z)) (sym is)
      (subst (λ (k : ℕ). Once k n (times n (numbers_of v.entries)))
      (sym (once_length (length e.history) (numbers_of v.entries) e.once)) (e.once n))

  pub closes_as : {L : Type 0} (m : Meaning E) (f : E → L) (g : Given) (u v : View E) (n : ℕ) (words : List ℕ) (sorted log : List L) → u
      ≡ v → 1024 * g.pages ≡ n → log ≡ sorted → Closes m f g u (take (1024 * g.pages) words) sorted → Closes m f g v (take n words) log
  closes_as m f g u v n words sorted log a b c h = subst (λ z. Closes m f g v (take n words) z) (sym c)
      (subst (λ (k : ℕ). Closes m f g v (take k words) sorted) b
      (subst (λ (w : View E). Closes m f g w (take (1024 * g.pages) words) sorted) a h))
