-- The laws of words, for those of tests.
use Rattle.std.specs.Prelude.{◌≡◌, ℕ, ◌+◌, ◌%◌, ◌<◌, ◌≤◌, Bool, true, false, List, Option}
use Rattle.std.specs.Prelude.{Some, None, refl, length, slice_get, nat_eq, option_map}
use Rattle.std.proofs.Common.{sym, ◌∙◌, ap, subst, arith, cond, ⊎_elim}
use Rattle.std.proofs.lemmas.Bool.Decides.{nat_tests}
use Rattle.std.proofs.lemmas.Option.{slice_get_within}
use Rattle.heap_words.specs.Cells.{decoded, is_final_word, is_final_in}
use Rattle.heap_words.specs.Refers.{Refers, Reaches, ReachesBy, HasPart, teller, RefersBy, HasPartBy}
use Rattle.heap_words.specs.Heaps.{only_final}
use Rattle.heap_words.specs.WordsLaws.{WordsLaws}
use Rattle.heap_words.specs.declared.cell.Cell.{Cell}
use Rattle.heap_words.specs.declared.cell.Cell.TheVariants.{Unbound, Ref, RoRef, Small, Wide, Str, Nil, Cons, Tuple, Status, Raw, Top}
use Rattle.heap_words.specs.declared.cell.Stand.{Stand}
use Rattle.word_tests.specs.Slots.{in_entry, does_fit, fitting, word_in, LeadsIn}

no_false : {A : Type 0} → false ≡ true → A
no_false e = cc

some_same : (x y : ℕ) → Some x ≡ Some y → x ≡ y
some_same x y e = cc

same_cell : (x : ℕ) (c d : Cell) → decoded x ≡ Some c → decoded x ≡ Some d → c ≡ d
same_cell x c d e f = let h : Some c ≡ Some d = sym e ∙ f in cc

-- what a place's word and a link lead to, where they fit
first_entry : (n a e : ℕ) → does_fit n a (Unbound e) ≡ true → 0 < e → (e % 8 ≡ 4) × (e + 2 < n)
first_entry n a e f i = (grind (arith, nat_tests, f, i), grind (arith, nat_tests, f, i))

link_entry : (n a l : ℕ) → does_fit n a (Cons l) ≡ true → (l % 8 ≡ 4) × (l + 2 < a)
link_entry n a l f = (grind (arith, nat_tests, f), grind (arith, nat_tests, f))

refers_low : (n a b : ℕ) (c : Cell) → a ≤ n → does_fit n a c ≡ true → Refers c b → b < n
refers_low n a b (Unbound e) h f r = let i = first_entry n a e f r.0 in omega (arith, i.1, r.2)
refers_low n a b (Cons l) h f r =
    let i = link_entry n a l f in ⊎_elim (λ j. omega (arith, i.1, j, h)) (λ j. omega (arith, i.1, j, h)) r
refers_low n a b (Small z) h f r = absurd r
refers_low n a b Nil h f r = absurd r
refers_low n a b (Status d) h f r = absurd r
refers_low n a b (Raw p) h f r = absurd r
refers_low n a b (Ref d) h f r = no_false f
refers_low n a b (RoRef d) h f r = no_false f
refers_low n a b (Wide d k) h f r = no_false f
refers_low n a b (Str s) h f r = no_false f
refers_low n a b (Tuple d) h f r = no_false f
refers_low n a b (Top d) h f r = no_false f

-- by the process p, whose number stands at the entry
by_low : (n a t p b : ℕ) (c : Cell) → a ≤ n → does_fit n a c ≡ true → teller c ≡ Some t → p < t → RefersBy p c b → b < n
by_low n a t p b (Unbound e) h f k i r = go (nat_eq e 0) refl k
  where
    go : (z : Bool) → nat_eq e 0 ≡ z → cond z None (Some e) ≡ Some t → b < n
    go true j l = cc
    go false j l =
        let above : 0 < e = grind (arith, nat_tests, j) in
        let m = first_entry n a e f above in let q = some_same e t l in omega (arith, i, r, m.1, q)
by_low n a t p b (Cons l) h f k i r =
    let m = link_entry n a l f in let q = some_same l t k in
    ⊎_elim (λ j. omega (arith, m.1, i, j, q, h)) (λ j. omega (arith, m.1, j, h)) r
by_low n a t p b (Small z) h f k i r = cc
by_low n a t p b Nil h f k i r = cc
by_low n a t p b (Status d) h f k i r = cc
by_low n a t p b (Raw q) h f k i r = cc
by_low n a t p b (Ref d) h f k i r = no_false f
by_low n a t p b (RoRef d) h f k i r = no_false f
by_low n a t p b (Wide d q) h f k i r = no_false f
by_low n a t p b (Str s) h f k i r = no_false f
by_low n a t p b (Tuple d) h f k i r = no_false f
by_low n a t p b (Top d) h f k i r = no_false f

-- among final words it leads downwards
reaches_down : (n a b : ℕ) (c : Cell) → does_fit n a c ≡ true → is_final_in (Some c) ≡ true → Reaches c b → b < a
reaches_down n a b (Cons l) f e r = let i = link_entry n a l f in ⊎_elim (λ j. omega (arith, i.1, j)) (λ j. omega (arith, i.1, j)) r
reaches_down n a b (Unbound d) f e r = no_false e
reaches_down n a b (Small z) f e r = absurd r
reaches_down n a b Nil f e r = absurd r
reaches_down n a b (Status d) f e r = no_false e
reaches_down n a b (Raw p) f e r = absurd r
reaches_down n a b (Ref d) f e r = no_false f
reaches_down n a b (RoRef d) f e r = no_false f
reaches_down n a b (Wide d k) f e r = no_false f
reaches_down n a b (Str s) f e r = no_false f
reaches_down n a b (Tuple d) f e r = no_false f
reaches_down n a b (Top d) f e r = no_false f

no_walk : (n a p b : ℕ) (c : Cell) → does_fit n a c ≡ true → ReachesBy p c b → ⊥
no_walk n a p b (Cons l) f r = r
no_walk n a p b (Unbound d) f r = r
no_walk n a p b (Small z) f r = r
no_walk n a p b Nil f r = r
no_walk n a p b (Status d) f r = r
no_walk n a p b (Raw q) f r = r
no_walk n a p b (Ref d) f r = r
no_walk n a p b (RoRef d) f r = r
no_walk n a p b (Wide d q) f r = r
no_walk n a p b (Str s) f r = r
no_walk n a p b (Tuple d) f r = no_false f
no_walk n a p b (Top d) f r = r

-- the parts of what fits are words of entries
entry_words : (e b : ℕ) → e % 8 ≡ 4 → e ≤ b → b < e + 3 → in_entry b ≡ true
entry_words e b h l u = let k : 3 < b % 8 = omega (arith, h, l, u) in grind (arith, nat_tests, k)

part_in : (n a b : ℕ) (c : Cell) → does_fit n a c ≡ true → HasPart c b → in_entry b ≡ true
part_in n a b (Unbound e) f r = let i = first_entry n a e f r.0 in entry_words e b i.0 r.1 r.2
part_in n a b (Cons l) f r =
    let i = link_entry n a l f in
    ⊎_elim (λ j. entry_words l b i.0 (omega (arith, j)) (omega (arith, j))) (λ j. entry_words l b i.0 (omega (arith, j)) (omega (arith, j))) r
part_in n a b (Small z) f r = absurd r
part_in n a b Nil f r = absurd r
part_in n a b (Status d) f r = absurd r
part_in n a b (Raw p) f r = absurd r
part_in n a b (Ref d) f r = absurd r
part_in n a b (RoRef d) f r = absurd r
part_in n a b (Wide d k) f r = no_false f
part_in n a b (Str s) f r = absurd r
part_in n a b (Tuple d) f r = no_false f
part_in n a b (Top d) f r = absurd r

part_by_in : (n a p b : ℕ) (c : Cell) → does_fit n a c ≡ true → HasPartBy p c b → in_entry b ≡ true
part_by_in n a p b (Cons l) f r =
    let i = link_entry n a l f in entry_words l b i.0 (omega (arith, r)) (omega (arith, r))
part_by_in n a p b (Unbound e) f r = absurd r
part_by_in n a p b (Small z) f r = absurd r
part_by_in n a p b Nil f r = absurd r
part_by_in n a p b (Status d) f r = absurd r
part_by_in n a p b (Raw q) f r = absurd r
part_by_in n a p b (Ref d) f r = absurd r
part_by_in n a p b (RoRef d) f r = absurd r
part_by_in n a p b (Wide d k) f r = absurd r
part_by_in n a p b (Str s) f r = absurd r
part_by_in n a p b (Tuple d) f r = no_false f
part_by_in n a p b (Top d) f r = absurd r

final_cell : (n b : ℕ) (c : Cell) → does_fit n b c ≡ true → in_entry b ≡ true → is_final_in (Some c) ≡ true
final_cell n b (Unbound e) f p = absurd (grind (arith, nat_tests, f, p))
final_cell n b (Status d) f p = absurd (grind (arith, nat_tests, f, p))
final_cell n b (Top d) f p = no_false f
final_cell n b (Ref d) f p = refl
final_cell n b (RoRef d) f p = refl
final_cell n b (Small z) f p = refl
final_cell n b (Wide d h) f p = refl
final_cell n b (Str s) f p = refl
final_cell n b Nil f p = refl
final_cell n b (Cons d) f p = refl
final_cell n b (Tuple d) f p = refl
final_cell n b (Raw q) f p = refl

-- what a load gives fits there
record Fits (n a x : ℕ) : Type 0 where
  pub cell : Cell
  pub is : decoded x ≡ Some cell
  pub fit : does_fit n a cell ≡ true

nil_fits : (n a : ℕ) → Fits n a 6
unfolding decoded
nil_fits n a = record { cell = Nil; is = refl; fit = refl }

given_fits : (ws : List ℕ) (a x : ℕ) → word_in ws a ≡ Some x → Fits (length ws) a x
given_fits ws a x e = go (slice_get ws a) e
  where
    by_cell : (y : ℕ) (o : Option Cell) → decoded y ≡ o → fitting (length ws) a o y ≡ x → Fits (length ws) a x
    by_cell y None i h = subst (Fits (length ws) a) h (nil_fits (length ws) a)
    by_cell y (Some c) i h = go (does_fit (length ws) a c) refl h
      where
        go : (b : Bool) → does_fit (length ws) a c ≡ b → cond b y 6 ≡ x → Fits (length ws) a x
        go true k j = subst (Fits (length ws) a) j (record { cell = c; is = i; fit = k })
        go false k j = subst (Fits (length ws) a) j (nil_fits (length ws) a)

    go : (o : Option ℕ) → option_map (λ (y : ℕ). fitting (length ws) a (decoded y) y) o ≡ Some x → Fits (length ws) a x
    go None h = cc
    go (Some y) h = by_cell y (decoded y) refl (some_same (fitting (length ws) a (decoded y) y) x h)

given_within : (ws : List ℕ) (a x : ℕ) → word_in ws a ≡ Some x → a < length ws
given_within ws a x e = go (slice_get ws a) refl e
  where
    go : (o : Option ℕ) → slice_get ws a ≡ o → option_map (λ (y : ℕ). fitting (length ws) a (decoded y) y) o ≡ Some x → a < length ws
    go None i h = cc
    go (Some y) i h = slice_get_within ws a y i

fits_as : (ws : List ℕ) (a x : ℕ) (c : Cell) → Fits (length ws) a x → decoded x ≡ Some c → does_fit (length ws) a c ≡ true
fits_as ws a x c f d = subst (λ (z : Cell). does_fit (length ws) a z ≡ true) (same_cell x f.cell c f.is d) f.fit

raw_low : (ws : List ℕ) (t y p : ℕ) → word_in ws t ≡ Some y → decoded y ≡ Some (Raw p) → p < t
raw_low ws t y p e d = let f = fits_as ws t y (Raw p) (given_fits ws t y e) d in grind (arith, nat_tests, f)

final_there : (ws : List ℕ) (b y : ℕ) → word_in ws b ≡ Some y → in_entry b ≡ true → is_final_word y ≡ true
final_there ws b y e p = let f = given_fits ws b y e in ap is_final_in f.is ∙ final_cell (length ws) b f.cell f.fit p

-- a word that fits at an address of the list leads on
fits_leads : (ws : List ℕ) (a x : ℕ) → a ≤ length ws → Fits (length ws) a x → LeadsIn ws x
fits_leads ws a x low f = record {
  refers = λ b c d r. refers_low (length ws) a b c low (fits_as ws a x c f d) r;
  refers_by = λ t y n b c d k e i r. by_low (length ws) a t n b c low (fits_as ws a x c f d) k (raw_low ws t y n e i) r;
  part_final = λ b y c d r e. final_there ws b y e (part_in (length ws) a b c (fits_as ws a x c f d) r);
  part_final_by = λ t z n b y c d k e i r h. final_there ws b y h (part_by_in (length ws) a n b c (fits_as ws a x c f d) r);
}

final_given : (o : Option ℕ) (x : ℕ) → only_final o ≡ Some x → (o ≡ Some x) × (is_final_word x ≡ true)
final_given None x e = cc
final_given (Some y) x e = go (is_final_word y) refl e
  where
    go : (b : Bool) → is_final_word y ≡ b → cond b (Some y) None ≡ Some x → (Some y ≡ Some x) × (is_final_word x ≡ true)
    go true i h = (h, subst (λ (z : ℕ). is_final_word z ≡ true) (some_same y x h) i)
    go false i h = cc

status_fit : (n p : ℕ) (d : Stand) → does_fit n p (Status d) ≡ true → (p % 8 ≡ 0) × (p + 3 < n)
status_fit n p d f = (grind (arith, nat_tests, f), grind (arith, nat_tests, f))

no_count : (n p m : ℕ) → p % 8 ≡ 0 → does_fit n (p + 3) (Raw m) ≡ true → ⊥
no_count n p m h f = let i : (p + 3) % 8 ≡ 4 = grind (arith, nat_tests, f) in omega (arith, h, i)

pub slot_laws : {S : Type 0} (ws : S → List ℕ)
    → WordsLaws {S = S} (λ h. length (ws h)) (λ h. length (ws h) ≤ 4000000000) (λ h a. a < length (ws h))
    (λ h a x. word_in (ws h) a ≡ Some x) (λ h x. LeadsIn (ws h) x) (λ h a. None) (λ h a. only_final (word_in (ws h) a))
    (λ g h. ws g ≡ ws h) (λ g h a x. (ws g ≡ ws h) × (word_in (ws h) a ≡ Some x))
slot_laws ws = record {
  still = λ w s. refl;
  twice = λ u v w a b. a ∙ b;
  stays_sound = λ v w s l. subst (λ (xs : List ℕ). length xs ≤ 4000000000) l s;
  stays_known = λ v w a l k. subst (λ (xs : List ℕ). a < length xs) l k;
  stays_had = λ v w a x l h. subst (λ (xs : List ℕ). word_in xs a ≡ Some x) l h;
  stays_leading = λ v w x l h. subst (λ (xs : List ℕ). LeadsIn xs x) l h;
  stays_shown = λ v w a x l h. subst (λ (xs : List ℕ). only_final (word_in xs a) ≡ Some x) l h;
  same_own = λ v w a l. refl;
  fixed = λ v w l. ap length (sym l);
  gave_after = λ u v w a x l g. (l ∙ g.0, g.1);
  gave_before = λ u v w a x g l. (g.0 ∙ l, subst (λ (xs : List ℕ). word_in xs a ≡ Some x) l g.1);
  had_given = λ v w a x g. g.1;
  had_known = λ w a x s h. given_within (ws w) a x h;
  in_range = λ w a s k. k;
  few = λ w s. omega (arith, s);
  had_leads = λ w a x s h. leads_on (ws w) a x h;
  reaches = λ w x b c s l d r. l.refers b c d r;
  reaches_by = λ w x t y n b c s l d k h e r. l.refers_by t y n b c d k h e r;
  plain = λ w x c s d t p f. plain_leads (ws w) x c d t p f;
  leads_below = λ w a x b c s h l d r. let i = (leads_on (ws w) a x h).refers b c d r in omega (arith, i, s);
  leads_below_by = λ w a x t y n b c s h l d k i e r.
      let j = (leads_on (ws w) a x h).refers_by t y n b c d k i e r in omega (arith, j, s);
  part_final = λ w x b y c s l d r h. l.part_final b y c d r h;
  part_final_by = λ w x t z n b y c s l d k i e r h. l.part_final_by t z n b y c d k i e r h;
  behind_status = λ w p x b d s h e l u.
      let f = (status_fit (length (ws w)) p d (fits_as (ws w) p x (Status d) (given_fits (ws w) p x h) e)).1 in omega (arith, f, u);
  arguments = λ w p x y n b d s h e k f l u. absurd (no_count (length (ws w)) p n
      (status_fit (length (ws w)) p d (fits_as (ws w) p x (Status d) (given_fits (ws w) p x h) e)).0
      (fits_as (ws w) (p + 3) y (Raw n) (given_fits (ws w) (p + 3) y k) f));
  no_cycle = λ w s. record {
    rank = λ a. a;
    falls = λ a b x c e d r. let g = final_given (word_in (ws w) a) x e in
        reaches_down (length (ws w)) a b c (fits_as (ws w) a x c (given_fits (ws w) a x g.0) d) (sym (ap is_final_in d) ∙ g.1) r;
    falls_by = λ a b x t y n c e d k i j r. absurd (no_walk (length (ws w)) a n b c
        (fits_as (ws w) a x c (given_fits (ws w) a x (final_given (word_in (ws w) a) x e).0) d) r);
    order = λ a. a;
    links = λ a c x y n e d i j. (link_entry (length (ws w)) a c
        (fits_as (ws w) a x (Cons c) (given_fits (ws w) a x (final_given (word_in (ws w) a) x e).0) d)).1;
  };
  had_shown = λ w a x s h f. ap only_final h ∙ ap (λ t. cond t (Some x) None) f;
  own_had = λ w a x s e. let h : None ≡ Some x = e in cc;
  own_range = λ w a x e. let h : None ≡ Some x = e in cc;
}
  where
    leads_on : (xs : List ℕ) (a x : ℕ) → word_in xs a ≡ Some x → LeadsIn xs x
    leads_on xs a x h = fits_leads xs a x (let k = given_within xs a x h in omega (arith, k)) (given_fits xs a x h)

    plain_leads : (xs : List ℕ) (x : ℕ) (c : Cell) → decoded x ≡ Some c → teller c ≡ None → ((b : ℕ) → HasPart c b → ⊥)
        → ((b : ℕ) → Refers c b → b < length xs) → LeadsIn xs x
    plain_leads xs x c d t p f = record {
      refers = λ b e g r. f b (subst (λ (z : Cell). Refers z b) (same_cell x e c g d) r);
      refers_by = λ k y n b e g tells _ _ _. absurd (no_teller e k g tells);
      part_final = λ b y e g r _. absurd (p b (subst (λ (z : Cell). HasPart z b) (same_cell x e c g d) r));
      part_final_by = λ k z n b y e g tells _ _ _ _. absurd (no_teller e k g tells);
    }
      where
        no_teller : (e : Cell) (k : ℕ) → decoded x ≡ Some e → teller e ≡ Some k → ⊥
        no_teller e k g tells = let i : None ≡ Some k = sym t ∙ (ap teller (same_cell x c e d g) ∙ tells) in cc
