-- The laws of words, for a plain heap.
use Rattle.std.specs.Prelude.{◌≡◌, ℕ, ◌-◌, ◌%◌, ◌<◌, ◌≤◌, ◌||◌, Bool, true, false, List}
use Rattle.std.specs.Prelude.{Some, None, refl, length, slice_get, nat_eq, nat_lt}
use Rattle.std.proofs.Common.{sym, ◌∙◌, ap, subst, arith, cond}
use Rattle.std.proofs.lemmas.Bool.{and_parts, ltb-true}
use Rattle.heap_words.specs.Cells.{decoded}
use Rattle.heap_words.specs.Refers.{Refers, HasPart, teller}
use Rattle.heap_words.specs.WordsLaws.{WordsLaws, tells_all}
use Rattle.heap_words.specs.Heaps.{IsHeap, RefersInside, is_inside, inside_at, only_final, final_at, top_at}
use Rattle.heap_words.specs.declared.cell.Cell.{Cell}
use Rattle.heap_words.specs.declared.heap.PlainHeap.{PlainHeap}

-- an address inside is one of the heap's
pub inside_below : (ws : List ℕ) (a : ℕ) → is_inside ws a ≡ true → a < length ws
unfolding is_inside
inside_below ws a h =
    ltb-true a (length ws) (and_parts (nat_lt a (length ws)) (nat_eq (a % 1024) 0 || nat_lt a (top_at ws (a - a % 1024))) h).0

-- the word at an address inside
pub inside_is : (ws : List ℕ) (a x : ℕ) → is_inside ws a ≡ true → slice_get ws a ≡ Some x → inside_at ws a ≡ Some x
inside_is ws a x h e = ap (λ t. cond t (slice_get ws a) None) h ∙ e

-- an address at which a word stands inside
pub inside_known : (ws : List ℕ) (a x : ℕ) → inside_at ws a ≡ Some x → is_inside ws a ≡ true
inside_known ws a x e = go (is_inside ws a) refl e
  where
    go : (t : Bool) → is_inside ws a ≡ t → cond t (slice_get ws a) None ≡ Some x → is_inside ws a ≡ true
    go true i h = i
    go false i h = cc

-- a word that refers by itself to addresses inside, as to parts to none, and to no more
pub plain_inside : (ws : List ℕ) (x : ℕ) (c : Cell) → decoded x ≡ Some c → tells_all c → ((b : ℕ) → HasPart c b → ⊥)
    → ((b : ℕ) → Refers c b → is_inside ws b ≡ true) → RefersInside ws x
plain_inside ws x c d t p f = record {
  refers = λ b e g r. f b (subst (λ (z : Cell). Refers z b) (let h : e ≡ c = cc in h) r);
  refers_by = λ k y n b e g tells _ _ _. absurd (no_teller e k g tells);
  part_final = λ b y e g r _. absurd (p b (subst (λ (z : Cell). HasPart z b) (let h : e ≡ c = cc in h) r));
  part_final_by = λ k z n b y e g tells _ _ _ _. absurd (no_teller e k g tells);
}
  where
    no_teller : (e : Cell) (k : ℕ) → decoded x ≡ Some e → teller e ≡ Some k → ⊥
    no_teller e k g tells = let h : c ≡ e = cc in let i : None ≡ Some k = sym t ∙ (ap teller h ∙ tells) in cc

-- an address inside is below 4,000,000,000
inside_low : (ws : List ℕ) (b : ℕ) → IsHeap ws → is_inside ws b ≡ true → b < 4000000000
inside_low ws b s i = let h : length ws ≤ 4000000000 = s.small in let k = inside_below ws b i in omega (arith, h, k)

pub heap_laws : WordsLaws {S = PlainHeap} (λ h. length h.words.items) (λ h. IsHeap h.words.items) (λ h a. is_inside h.words.items a ≡ true)
    (λ h a x. inside_at h.words.items a ≡ Some x) (λ h x. RefersInside h.words.items x) (λ h a. None) (λ h. final_at h.words.items)
    (λ g h. g.words.items ≡ h.words.items) (λ g h a x. (g.words.items ≡ h.words.items) × (inside_at h.words.items a ≡ Some x))
heap_laws = record {
  still = λ w s. refl;
  twice = λ u v w a b. a ∙ b;
  stays_sound = λ v w s l. subst (λ (ws : List ℕ). IsHeap ws) l s;
  stays_known = λ v w a l k. subst (λ (ws : List ℕ). is_inside ws a ≡ true) l k;
  stays_had = λ v w a x l h. subst (λ (ws : List ℕ). inside_at ws a ≡ Some x) l h;
  stays_leading = λ v w x l h. subst (λ (ws : List ℕ). RefersInside ws x) l h;
  stays_shown = λ v w a x l h. subst (λ (ws : List ℕ). final_at ws a ≡ Some x) l h;
  same_own = λ v w a l. refl;
  fixed = λ v w l. ap length (sym l);
  gave_after = λ u v w a x l g. (l ∙ g.0, g.1);
  gave_before = λ u v w a x g l. (g.0 ∙ l, subst (λ (ws : List ℕ). inside_at ws a ≡ Some x) l g.1);
  had_given = λ v w a x g. g.1;
  had_known = λ w a x s h. inside_known w.words.items a x h;
  in_range = λ w a s k. inside_below w.words.items a k;
  few = λ w s. let h : length w.words.items ≤ 4000000000 = s.small in omega arith;
  had_leads = λ w a x s h. s.inside a x h;
  reaches = λ w x b c s l d r. l.refers b c d r;
  reaches_by = λ w x t y n b c s l d k h e r. l.refers_by t y n b c d k h e r;
  plain = λ w x c s d t p f. plain_inside w.words.items x c d t p f;
  leads_below = λ w a x b c s h _ d r. inside_low w.words.items b s ((s.inside a x h).refers b c d r);
  leads_below_by = λ w a x t y n b c s h _ d k i e r. inside_low w.words.items b s ((s.inside a x h).refers_by t y n b c d k i e r);
  part_final = λ w x b y c s l d r h. l.part_final b y c d r h;
  part_final_by = λ w x t z n b y c s l d k i e r h. l.part_final_by t z n b y c d k i e r h;
  behind_status = λ w p x b d s h e l u. s.process p x b d h e l u;
  arguments = λ w p x y n b d s h e k f l u. s.arguments p x y n b d h e k f l u;
  no_cycle = λ w s. s.no_cycle;
  had_shown = λ w a x s h f. ap only_final h ∙ ap (λ t. cond t (Some x) None) f;
  own_had = λ w a x s e. let h : None ≡ Some x = e in cc;
  own_range = λ w a x e. let h : None ≡ Some x = e in cc;
}
