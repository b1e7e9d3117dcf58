-- The laws of a plain hall.
use Rattle.std.proofs.Common.{◌≡◌, ℕ, suc, ◌*◌, ◌/◌, ◌<◌, Bool, true, false, List, [], ◌∷◌, ◌++◌, length, slice_get}
use Rattle.std.proofs.Common.{Some, None, refl, sym, ap, ◌∙◌, subst, arith}
use Rattle.std.specs.Prelude.{unwrap_or}
use Rattle.fcp_model.specs.declared.run.Entry.{Entry}
use Rattle.heap_words.specs.WordsLaws.{WordsLaws}
use Rattle.heap_words.specs.Heaps.{IsHeap, RefersInside, is_inside, inside_at, final_at}
use Rattle.heap_words.specs.HeapLaws.{heap_laws, inside_below}
use Rattle.word_states.specs.Words.{HasAll}
use Rattle.word_states.specs.Writing.{applied, MayWrite}
use Rattle.sound_entries.proofs.Ranking.{final_parts}
use Rattle.page_layout.proofs.Writable.{top_inside}
use Rattle.safe_tries.proofs.LowWords.{shown_low}
use Rattle.commit_engine.specs.declared.plain_hall.PlainHall.{PlainHall}
use Rattle.commit_engine.specs.Halls.{HallLaws, writes_of}
use Rattle.commit_engine.specs.PlainHalls.{IsPlain, IsSame, holds_of, IsSilent, IsFound, IsAdded}

same_twice : (u v w : PlainHall) → IsSame u v → IsSame v w → IsSame u w
same_twice u v w a b = record {
  words = b.words ∙ a.words;
  log = b.log ∙ a.log;
  held = b.held ∙ a.held;
  due = b.due ∙ a.due;
  quota = b.quota ∙ a.quota;
  spare = b.spare ∙ a.spare;
  cap = b.cap ∙ a.cap;
}

same_plain : (v w : PlainHall) → IsPlain v → IsSame v w → IsPlain w
same_plain v w p s = record {
  heap = subst IsHeap (sym s.words) p.heap;
  locks = ap (λ (l : List Bool). 1024 * length l) s.held ∙ p.locks ∙ ap length (sym s.words);
  room = let a = p.room in let b = ap length s.log in let c = s.spare in let d = s.cap in omega arith;
  few = let a = p.few in let b = ap length s.log in let c = s.spare in omega arith;
}

-- Words of a hall are those of a heap.
pub plain_words : WordsLaws {S = PlainHall} (λ h. length h.words.items) IsPlain (λ h a. is_inside h.words.items a ≡ true)
    (λ h a x. inside_at h.words.items a ≡ Some x) (λ h x. RefersInside h.words.items x) (λ h a. None) (λ h. final_at h.words.items) IsSame
    (λ g h a x. IsSame g h × (inside_at h.words.items a ≡ Some x))
plain_words = record {
  still = λ w s. record { words = refl; log = refl; held = refl; due = refl; quota = refl; spare = refl; cap = refl };
  twice = same_twice;
  stays_sound = λ v w s l. same_plain v w s l;
  stays_known = λ v w a l k. subst (λ (ws : List ℕ). is_inside ws a ≡ true) (sym l.words) k;
  stays_had = λ v w a x l h. subst (λ (ws : List ℕ). inside_at ws a ≡ Some x) (sym l.words) h;
  stays_leading = λ v w x l h. subst (λ (ws : List ℕ). RefersInside ws x) (sym l.words) h;
  stays_shown = λ v w a x l h. subst (λ (ws : List ℕ). final_at ws a ≡ Some x) (sym l.words) h;
  same_own = λ v w a l. refl;
  fixed = λ v w l. ap length l.words;
  gave_after = λ u v w a x l g. (same_twice u v w l g.0, g.1);
  gave_before = λ u v w a x g l. (same_twice u v w g.0 l, subst (λ (ws : List ℕ). inside_at ws a ≡ Some x) (sym l.words) g.1);
  had_given = λ v w a x g. g.1;
  had_known = λ w a x s h. heap_laws.had_known (record { words = w.words }) a x s.heap h;
  in_range = λ w a s k. heap_laws.in_range (record { words = w.words }) a s.heap k;
  few = λ w s. heap_laws.few (record { words = w.words }) s.heap;
  had_leads = λ w a x s h. heap_laws.had_leads (record { words = w.words }) a x s.heap h;
  reaches = λ w x b c s l d r. heap_laws.reaches (record { words = w.words }) x b c s.heap l d r;
  reaches_by = λ w x t y n b c s l d k h e r. heap_laws.reaches_by (record { words = w.words }) x t y n b c s.heap l d k h e r;
  plain = λ w x c s d t p f. heap_laws.plain (record { words = w.words }) x c s.heap d t p f;
  leads_below = λ w a x b c s h l d r. heap_laws.leads_below (record { words = w.words }) a x b c s.heap h l d r;
  leads_below_by = λ w a x t y n b c s h l d k i e r.
      heap_laws.leads_below_by (record { words = w.words }) a x t y n b c s.heap h l d k i e r;
  part_final = λ w x b y c s l d r h. heap_laws.part_final (record { words = w.words }) x b y c s.heap l d r h;
  part_final_by = λ w x t z n b y c s l d k i e r h.
      heap_laws.part_final_by (record { words = w.words }) x t z n b y c s.heap l d k i e r h;
  behind_status = λ w p x b d s h e l u. heap_laws.behind_status (record { words = w.words }) p x b d s.heap h e l u;
  arguments = λ w p x y n b d s h e k f l u. heap_laws.arguments (record { words = w.words }) p x y n b d s.heap h e k f l u;
  no_cycle = λ w s. heap_laws.no_cycle (record { words = w.words }) s.heap;
  had_shown = λ w a x s h f. heap_laws.had_shown (record { words = w.words }) a x s.heap h f;
  own_had = λ w a x s e. let h : None ≡ Some x = e in cc;
  own_range = λ w a x e. let h : None ≡ Some x = e in cc;
}

silent_twice : (u v w : PlainHall) → IsSilent u v → IsSilent v w → IsSilent u w
silent_twice u v w a b = (b.0 ∙ a.0, b.1 ∙ a.1)

-- an address of whole pages is of one of them
in_page : (a n k : ℕ) → 1024 * k ≡ n → a < n → a / 1024 < n / 1024
in_page a n k e h = omega arith

pub plain_hall : HallLaws {S = PlainHall} (λ h. length h.words.items) IsPlain (λ h a. is_inside h.words.items a ≡ true)
    (λ h a x. inside_at h.words.items a ≡ Some x) (λ h. final_at h.words.items) IsSame
    (λ g h a x. IsSame g h × (inside_at h.words.items a ≡ Some x)) (λ g h a x. IsSame g h × (inside_at h.words.items a ≡ Some x))
    (λ h. length h.words.items / 1024) holds_of (λ h. h.due) (λ h. h.quota) (λ h. h.spare) (λ h. []) (λ h. Unit {0})
    (λ h a x. inside_at h.words.items a ≡ Some x) (λ h a x. Unit {0}) IsSilent IsFound IsAdded
plain_hall = record {
  later_silent = λ v w s l. (l.words, l.log);
  silent_twice = silent_twice;
  silent_added = λ u v w e n s a. record {
    number = a.number ∙ ap (λ (l : List Entry). suc (length l)) s.1;
    log = a.log ∙ ap (λ (l : List Entry). l ++ e.entry ∷ []) s.1;
    reads = subst (λ (ws : List ℕ). HasAll e.reads.items (inside_at ws)) s.0 a.reads;
    may = subst (λ (ws : List ℕ). MayWrite ws (writes_of e n)) s.0 a.may;
    words = a.words ∙ ap (λ (ws : List ℕ). applied ws (writes_of e n)) s.0;
  };
  added_silent = λ u v w e n a s. record {
    number = a.number;
    log = s.1 ∙ a.log;
    reads = a.reads;
    may = a.may;
    words = s.0 ∙ a.words;
  };
  gave_found = λ v w a x s g. ((g.0.words, g.0.log), g.1);
  found_before = λ u v w a x f s. (silent_twice u v w f.0 s, subst (λ (ws : List ℕ). inside_at ws a ≡ Some x) (sym s.0) f.1);
  found_after = λ u v w a x s f. (silent_twice u v w s f.0, f.1);
  later_rest = λ v w l. (ap (λ (ws : List ℕ). length ws / 1024) l.words, l.due, l.quota, l.spare);
  later_takes = λ v w l. refl;
  later_primed = λ v w a x l h. tt;
  later_holds = λ v w p l. ap (λ (xs : List Bool). unwrap_or (slice_get xs p) false) l.held;
  later_stands = λ v w a x l h. subst (λ (ws : List ℕ). inside_at ws a ≡ Some x) (sym l.words) h;
  tops_known = λ v p s h. top_inside v.words.items p (let e = s.locks in omega arith);
  few_pages = λ v s. (let h = s.heap.small in omega arith);
  few = λ v s. s.heap.small;
  pages = λ v a s k. in_page a (length v.words.items) (length v.held.items) s.locks (inside_below v.words.items a k);
  low = λ v s. shown_low plain_words v s s.heap.small (λ a x e. (final_parts (inside_at v.words.items a) x e).0);
  gave_stands = λ v w a x s g held. g.1;
  silent_knows = λ v w a s k. subst (λ (ws : List ℕ). is_inside ws a ≡ true) (sym s.0) k;
  silent_had = λ v w a x s h f. subst (λ (ws : List ℕ). inside_at ws a ≡ Some x) (sym s.0) h;
  silent_shown = λ v w a x s k. subst (λ (ws : List ℕ). final_at ws a ≡ Some x) (sym s.0) k;
  silent_alone = λ v w s a. tt;
  alone_silent = λ v w s a. tt;
  alone_same = λ u v w a x y al f g.
      (let e : Some x ≡ Some y = sym f.1 ∙ ap (λ (ws : List ℕ). inside_at ws a) (sym g.0.0) ∙ g.1 in let h : x ≡ y = cc in h);
}
