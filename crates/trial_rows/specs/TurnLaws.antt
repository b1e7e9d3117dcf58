-- The laws of words, where another writer binds one place.
use Rattle.std.specs.Prelude.{◌≡◌, ◌⊎◌, ℕ, ℤ, ◌+◌, ◌<◌, Bool, true, false, Some, None, refl, length, nat_eq}
use Rattle.std.proofs.Common.{inl, inr, sym, ◌∙◌, ap, subst, arith, cond}
use Rattle.std.proofs.lemmas.Bool.{eqb-true}
use Rattle.heap_words.specs.Cells.{decoded, is_final_word, is_final_in}
use Rattle.heap_words.specs.Refers.{Reaches, ReachesBy, HasPart, HasPartBy, teller}
use Rattle.heap_words.specs.WordsLaws.{WordsLaws, Acyclic}
use Rattle.heap_words.specs.Heaps.{RefersInside, is_inside, inside_at, only_final, final_at}
use Rattle.heap_words.specs.HeapLaws.{inside_below, inside_known, plain_inside}
use Rattle.heap_words.specs.declared.cell.Cell.{Cell}
use Rattle.heap_words.specs.declared.cell.Cell.TheVariants.{Small, Cons, Status, Raw}
use Rattle.trial_rows.specs.Turns.{Picture, MayTurn, IsGiven, shown_in}

-- no number is such a cell
abbrev IsOther : Cell → Type 0
IsOther c = (n : ℤ) → c ≡ Small n → ⊥

-- the cell of the number
number_cell : (p : Picture) (x : ℕ) (c : Cell) (m : MayTurn p) → x ≡ p.bound → decoded x ≡ Some c → c ≡ Small m.number.0
number_cell p x c m e d = let h : Some c ≡ Some (Small m.number.0) = sym d ∙ ap decoded e ∙ m.number.1 in cc

-- a word of another cell stands in the heap
given_inside : (p : Picture) (a x : ℕ) (c : Cell) → MayTurn p → IsGiven p a x → decoded x ≡ Some c → IsOther c → inside_at p.words a ≡ Some x
given_inside p a x c m (inl e) d other = e
given_inside p a x c m (inr e) d other = absurd (other m.number.0 (number_cell p x c m e.1 d))

raw_inside : (p : Picture) (a x n : ℕ) → MayTurn p → IsGiven p a x → decoded x ≡ Some (Raw n) → inside_at p.words a ≡ Some x
raw_inside p a x n m g d = given_inside p a x (Raw n) m g d (λ k e. cc)

given_leads : (p : Picture) (a x : ℕ) → MayTurn p → IsGiven p a x → RefersInside p.words x
given_leads p a x m (inl e) = m.heap.inside a x e
given_leads p a x m (inr e) =
    plain_inside p.words x (Small m.number.0) (ap decoded e.1 ∙ m.number.1) refl (λ b h. h) (λ b h. absurd h)

given_known : (p : Picture) (a x : ℕ) → MayTurn p → IsGiven p a x → is_inside p.words a ≡ true
given_known p a x m (inl e) = inside_known p.words a x e
given_known p a x m (inr e) = subst (λ (b : ℕ). is_inside p.words b ≡ true) (sym e.0) m.there

inside_low : (p : Picture) (a : ℕ) → MayTurn p → is_inside p.words a ≡ true → a < 4000000000
inside_low p a m i = let h = m.heap.small in let k = inside_below p.words a i in omega (arith, h, k)

-- the number is final
number_final : (p : Picture) (x : ℕ) → MayTurn p → x ≡ p.bound → is_final_word x ≡ true
number_final p x m e = ap is_final_word e ∙ ap is_final_in m.number.1

part_given : (p : Picture) (x b y : ℕ) (c : Cell) → MayTurn p → RefersInside p.words x → decoded x ≡ Some c → HasPart c b → IsGiven p b y
    → is_final_word y ≡ true
part_given p x b y c m l d h (inl e) = l.part_final b y c d h e
part_given p x b y c m l d h (inr e) = number_final p y m e.1

part_given_by : (p : Picture) (x t z n b y : ℕ) (c : Cell) → MayTurn p → RefersInside p.words x → decoded x ≡ Some c
    → teller c ≡ Some t → IsGiven p t z → decoded z ≡ Some (Raw n) → HasPartBy n c b → IsGiven p b y → is_final_word y ≡ true
part_given_by p x t z n b y c m l d k g e h (inl i) = l.part_final_by t z n b y c d k (raw_inside p t z n m g e) e h i
part_given_by p x t z n b y c m l d k g e h (inr i) = number_final p y m i.1

-- what is shown is the number, or a final word of the heap
shown_is : (p : Picture) (a x : ℕ) → shown_in p a ≡ Some x → (x ≡ p.bound) ⊎ (final_at p.words a ≡ Some x)
shown_is p a x e = go (nat_eq a p.place) e
  where
    go : (b : Bool) → cond b (Some p.bound) (final_at p.words a) ≡ Some x → (x ≡ p.bound) ⊎ (final_at p.words a ≡ Some x)
    go true h = inl (let k : p.bound ≡ x = cc in sym k)
    go false h = inr h

-- where its cell is another one, the latter
shown_final : (p : Picture) (a x : ℕ) (c : Cell) → MayTurn p → shown_in p a ≡ Some x → decoded x ≡ Some c → IsOther c
    → final_at p.words a ≡ Some x
shown_final p a x c m e d other = go (shown_is p a x e)
  where
    go : (x ≡ p.bound) ⊎ (final_at p.words a ≡ Some x) → final_at p.words a ≡ Some x
    go (inl h) = absurd (other m.number.0 (number_cell p x c m h d))
    go (inr h) = h

still_inside : (p : Picture) (a x : ℕ) → MayTurn p → inside_at p.words a ≡ Some x → is_final_word x ≡ true → shown_in p a ≡ Some x
still_inside p a x m e f = go (nat_eq a p.place) refl
  where
    go : (b : Bool) → nat_eq a p.place ≡ b → cond b (Some p.bound) (final_at p.words a) ≡ Some x
    go true i =
        let h : a ≡ p.place = eqb-true a p.place i in
        let k : is_final_word x ≡ false = m.free x (subst (λ (b : ℕ). inside_at p.words b ≡ Some x) h e) in cc
    go false i = ap only_final e ∙ ap (λ t. cond t (Some x) None) f

given_shown : (p : Picture) (a x : ℕ) → MayTurn p → IsGiven p a x → is_final_word x ≡ true → shown_in p a ≡ Some x
given_shown p a x m (inl e) f = still_inside p a x m e f
given_shown p a x m (inr e) f = go (nat_eq a p.place) (same a p.place e.0)
  where
    same : (b c : ℕ) → b ≡ c → nat_eq b c ≡ true
    same b c h = grind arith

    go : (b : Bool) → b ≡ true → cond b (Some p.bound) (final_at p.words a) ≡ Some x
    go true i = ap Some (sym e.1)
    go false i = cc

turns_apart : (p : Picture) → MayTurn p → Acyclic (shown_in p)
turns_apart p m = record {
  rank = m.heap.no_cycle.rank;
  falls = λ a b x c e d r.
      m.heap.no_cycle.falls a b x c (shown_final p a x c m e d (λ n h. subst (λ (z : Cell). Reaches z b) h r)) d r;
  falls_by = λ a b x t y n c e d k f g r.
      m.heap.no_cycle.falls_by a b x t y n c (shown_final p a x c m e d (λ i h. subst (λ (z : Cell). ReachesBy n z b) h r)) d k
      (shown_final p t y (Raw n) m f g (λ i h. cc)) g r;
  order = m.heap.no_cycle.order;
  links = λ a c x y n e d f g.
      m.heap.no_cycle.links a c x y n (shown_final p a x (Cons c) m e d (λ i h. cc)) d (shown_final p c y (Raw n) m f g (λ i h. cc)) g;
}

pub turn_laws : {S : Type 0} (pic : S → Picture)
    → WordsLaws {S = S} (λ s. length (pic s).words) (λ s. MayTurn (pic s)) (λ s a. is_inside (pic s).words a ≡ true)
    (λ s a x. IsGiven (pic s) a x) (λ s x. RefersInside (pic s).words x) (λ s a. None) (λ s. shown_in (pic s)) (λ s t. pic s ≡ pic t)
    (λ s t a x. (pic s ≡ pic t) × IsGiven (pic t) a x)
turn_laws pic = record {
  still = λ w s. refl;
  twice = λ u v w a b. a ∙ b;
  stays_sound = λ v w s l. subst MayTurn l s;
  stays_known = λ v w a l k. subst (λ (p : Picture). is_inside p.words a ≡ true) l k;
  stays_had = λ v w a x l h. subst (λ (p : Picture). IsGiven p a x) l h;
  stays_leading = λ v w x l h. subst (λ (p : Picture). RefersInside p.words x) l h;
  stays_shown = λ v w a x l h. subst (λ (p : Picture). shown_in p a ≡ Some x) l h;
  same_own = λ v w a l. refl;
  fixed = λ v w l. ap (λ (p : Picture). length p.words) (sym l);
  gave_after = λ u v w a x l g. (l ∙ g.0, g.1);
  gave_before = λ u v w a x g l. (g.0 ∙ l, subst (λ (p : Picture). IsGiven p a x) l g.1);
  had_given = λ v w a x g. g.1;
  had_known = λ w a x s h. given_known (pic w) a x s h;
  in_range = λ w a s k. inside_below (pic w).words a k;
  few = λ w s. let h = s.heap.small in omega (arith, h);
  had_leads = λ w a x s h. given_leads (pic w) a x s h;
  reaches = λ w x b c s l d r. l.refers b c d r;
  reaches_by = λ w x t y n b c s l d k h e r. l.refers_by t y n b c d k (raw_inside (pic w) t y n s h e) e r;
  plain = λ w x c s d t p f. plain_inside (pic w).words x c d t p f;
  leads_below = λ w a x b c s h l d r. inside_low (pic w) b s ((given_leads (pic w) a x s h).refers b c d r);
  leads_below_by = λ w a x t y n b c s h l d k i e r.
      inside_low (pic w) b s ((given_leads (pic w) a x s h).refers_by t y n b c d k (raw_inside (pic w) t y n s i e) e r);
  part_final = λ w x b y c s l d r h. part_given (pic w) x b y c s l d r h;
  part_final_by = λ w x t z n b y c s l d k i e r h. part_given_by (pic w) x t z n b y c s l d k i e r h;
  behind_status = λ w p x b d s h e l u. s.heap.process p x b d (given_inside (pic w) p x (Status d) s h e (λ n i. cc)) e l u;
  arguments = λ w p x y n b d s h e k f l u.
      s.heap.arguments p x y n b d (given_inside (pic w) p x (Status d) s h e (λ i j. cc)) e (raw_inside (pic w) (p + 3) y n s k f) f l u;
  no_cycle = λ w s. turns_apart (pic w) s;
  had_shown = λ w a x s h f. given_shown (pic w) a x s h f;
  own_had = λ w a x s e. let h : None ≡ Some x = e in cc;
  own_range = λ w a x e. let h : None ≡ Some x = e in cc;
}
