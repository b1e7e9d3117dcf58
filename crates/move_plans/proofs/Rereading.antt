-- What was decided stands where more is read.
use Rattle.std.proofs.Common.{◌≡◌, ℕ, ◌+◌, List, ◌∷◌, refl, sym, ap, ◌∙◌, inl, inr, subst, arith, Option, Some, None}
use Rattle.std.proofs.lemmas.Option.{same_Some}
use Rattle.fcp_model.specs.Places.{Variable}
use Rattle.fcp_model.specs.Terms.{Bindings}
use Rattle.fcp_model.specs.Programs.{Goal}
use Rattle.heap_words.specs.Trails.{WordList, word_at}
use Rattle.heap_words.specs.declared.cell.Cell.{Cell}
use Rattle.heap_words.specs.declared.cell.Cell.TheVariants.{Unbound, Ref, RoRef, Small, Wide, Str, Nil, Cons, Tuple, Status, Raw, Top}
use Rattle.word_states.specs.Words.{Words, Has, Among, over, first_of}
use Rattle.word_states.specs.Denoting.{Addresses}
use Rattle.word_states.specs.Pieces.{rows, RefersOwn}
use Rattle.word_states.specs.Led.{IsKnown, read_at, reached, reached_by, of_process, IsLed, was_read, of_known, LeadsOn, AreLed, ReadsPlace}
use Rattle.word_states.specs.Tame.{Leads, trial_words, IsTame}
use Rattle.word_states.specs.Trials.{IsTried, AreReads, IsReadCommit, IsReadWait}
use Rattle.word_states.proofs.Lists.{word_among, apart_word}
use Rattle.word_states.proofs.Pieces.{rows_in}
use Rattle.machine_code.specs.Compiling.{Tables}
use Rattle.trial_machine.specs.declared.decide.Trial.{Trial}
use Rattle.trial_machine.specs.declared.decide.Trial.TheVariants.{Commit, Wait, Fails}
use Rattle.trial_machine.specs.Deciding.{HandedOver, IsDecided}
use Rattle.move_plans.specs.Stages.{rereads}

-- more was read
abbrev pub Grows : WordList → WordList → Type 0
Grows kept kept' = (a x : ℕ) → word_at kept a ≡ Some x → word_at kept' a ≡ Some x

module _ (kept kept' : WordList) (grows : Grows kept kept') where
  pub among_more : AreReads kept → (a x : ℕ) → Among kept (a, x) → Among kept' (a, x)
  among_more reads a x h = word_among kept' a x (grows a x (apart_word kept a x reads.apart h))

  module _ (reads : AreReads kept) where
    known_more : (b : ℕ) → IsKnown kept b → IsKnown kept' b
    known_more b (read_at x h) = read_at x (among_more reads b x h)
    known_more b (reached a x c h d r) = reached a x c (among_more reads a x h) d r
    known_more b (reached_by a x t y n c h d e k f r) =
        reached_by a x t y n c (among_more reads a x h) d e (among_more reads t y k) f r
    known_more b (of_process p x d h e l m) = of_process p x d (among_more reads p x h) e l m

    led_word : (x : ℕ) → IsLed kept x → IsLed kept' x
    led_word x (was_read a h) = was_read a (among_more reads a x h)
    led_word x (of_known f) = of_known (λ c d. let r = f c d in (r.0, r.1, (λ b e. known_more b (r.2 b e))))

    leads_more : (ps : List (List ℕ)) (x : ℕ) → LeadsOn kept ps x → LeadsOn kept' ps x
    leads_more ps x (inl h) = inl (led_word x h)
    leads_more ps x (inr h) = inr h

    led_more : (binds : WordList) (ps : List (List ℕ)) → AreLed kept binds ps → AreLed kept' binds ps
    led_more binds ps h = record {
      each = h.each;
      bound = λ a x e. leads_more ps x (h.bound a x e);
      value = h.value;
      own = λ a x e f. leads_more ps x (h.own a x e f);
    }

    pub place_more : (a : ℕ) → (e : ℕ) × ReadsPlace kept a e → (e : ℕ) × ReadsPlace kept' a e
    place_more a r = (r.0, (r.1.0, among_more reads a r.1.0 r.1.1, r.1.2))

  module _ (binds : WordList) (ps : List (List ℕ)) where
    abbrev seen : Words
    seen = trial_words (word_at kept) binds ps

    abbrev seen' : Words
    seen' = trial_words (word_at kept') binds ps

    -- what the try saw, it sees still
    seen_more : (a x : ℕ) → seen a ≡ Some x → seen' a ≡ Some x
    seen_more a x = go (word_at (rows 4000000000 ps) a) (word_at binds a)
      where
        go : (o u : Option ℕ) → first_of o (first_of u (word_at kept a)) ≡ Some x → first_of o (first_of u (word_at kept' a)) ≡ Some x
        go (Some y) u e = e
        go None (Some y) e = e
        go None None e = grows a x e

    -- and nothing else at that address
    seen_same : (a x : ℕ) → Has seen a → seen' a ≡ Some x → seen a ≡ Some x
    seen_same a x h e = h.1 ∙ ap Some (same_Some h.0 x (sym (seen_more a h.0 h.1) ∙ e))

    -- a walk goes on as it did, where the number of a tuple's parts was seen
    leads_same : (c : Cell) (b : ℕ) → ((t : ℕ) → c ≡ Tuple t → Has seen t) → Leads seen' c b → Leads seen c b
    leads_same c b h (inl r) = inl r
    leads_same (Tuple t) b h (inr r) =
        let same : t ≡ r.0 = same_Some t r.0 r.3 in
        inr (r.0, r.1, r.2, r.3, seen_same r.0 r.1 (subst (Has seen) same (h t refl)) r.4, r.5, r.6)
    leads_same (Unbound e) b h (inr r) = absurd r.6
    leads_same (Ref a) b h (inr r) = absurd r.6
    leads_same (RoRef a) b h (inr r) = absurd r.6
    leads_same (Small z) b h (inr r) = absurd r.6
    leads_same (Wide a u) b h (inr r) = absurd r.6
    leads_same (Str s) b h (inr r) = absurd r.6
    leads_same Nil b h (inr r) = absurd r.6
    leads_same (Cons a) b h (inr r) = absurd r.6
    leads_same (Status d) b h (inr r) = absurd r.6
    leads_same (Raw n) b h (inr r) = absurd r.6
    leads_same (Top a) b h (inr r) = absurd r.6

    -- a tuple among the pieces has the number of its parts there
    own_count : (c : Cell) → RefersOwn ps c → (t : ℕ) → c ≡ Tuple t → Has seen t
    own_count c own t e =
        let r = subst (RefersOwn ps) e own in
        let there : word_at (rows 4000000000 ps) t ≡ Some r.0 =
        ap (λ (a : ℕ). word_at (rows 4000000000 ps) a) (let z : t ≡ t + 0 = omega arith in z)
        ∙ rows_in 4000000000 t 0 r.0 ps (r.0 ∷ r.2) r.3 refl in
        (r.0, ap (λ (o : Option ℕ). first_of o (over binds (word_at kept) t)) there)

    tame_more : IsTame kept binds ps → IsTame kept' binds ps
    tame_more h = record {
      walked = h.walked;
      rank = h.rank;
      most = h.most;
      walk = record {
        met = λ a w. (let m = h.walk.met a w in (m.0, seen_more a m.0 m.1));
        falls = λ a b w e.
            let was = seen_same a e.0 (h.walk.met a w) e.2 in
            h.walk.falls a b w (
              e.0,
              e.1,
              was,
              e.3,
              e.4,
              leads_same e.1 b
                  (λ t c. h.walk.counts a e.0 t w was (e.4 ∙ ap Some c)) e.5,
            );
        counts = λ a x t w e d.
            let m = h.walk.counts a x t w (seen_same a x (h.walk.met a w) e) d in (m.0, seen_more t m.0 m.1);
        low = h.walk.low;
      };
      starts = h.starts;
      after = h.after;
      outer = λ a b x y c w u e f d own g l. h.outer a b x y c w u e f d own g (leads_same c b (own_count c own) l);
    }

  tried_less : (p : ℕ) (w : Words) (vs : Addresses) (bound : Bindings) (g : Goal Variable) → IsTried kept' p w vs bound g
      → IsTried kept p w vs bound g
  tried_less p w vs bound g h = record {
    has = λ a x e. h.has a x (grows a x e);
    low = h.low;
    old = h.old;
    says = h.says;
    own_free = h.own_free;
    goal = h.goal;
  }

pub commit_more : (kept kept' binds : WordList) (ps : List (List ℕ)) → Grows kept kept' → AreReads kept' → IsReadCommit kept binds ps
    → IsReadCommit kept' binds ps
commit_more kept kept' binds ps grows reads h = record {
  led = led_more kept kept' grows h.reads binds ps h.led;
  tame = tame_more kept kept' grows binds ps h.tame;
  reads = reads;
  apart = h.apart;
  opened = λ a x e. place_more kept kept' grows h.reads a (h.opened a x e);
}

pub wait_more : (kept kept' : WordList) (places : List ℕ) → Grows kept kept' → AreReads kept' → IsReadWait kept places
    → IsReadWait kept' places
wait_more kept kept' places grows reads h = record {
  reads = reads;
  distinct = h.distinct;
  opened = λ a e. place_more kept kept' grows h.reads a (h.opened a e);
}

-- what is decided by less is decided by more
pub decided_more : (t : Tables) (h : HandedOver) (p : ℕ) (d : Trial) (kept' : WordList) → Grows h.reads kept' → AreReads kept'
    → IsDecided t h p d → IsDecided t (rereads h kept') p d
decided_more t h p Commit kept' grows reads i = record {
  says = λ m is w vs bound g tried. i.says m is w vs bound g (tried_less h.reads kept' grows p w vs bound g tried);
  handed = commit_more h.reads kept' h.binds h.pieces grows reads i.handed;
}
decided_more t h p Wait kept' grows reads i = record {
  says = λ m is w vs bound g tried. i.says m is w vs bound g (tried_less h.reads kept' grows p w vs bound g tried);
  handed = wait_more h.reads kept' h.places grows reads i.handed;
}
decided_more t h p Fails kept' grows reads i = record {
  says = λ m is w vs bound g tried. i.says m is w vs bound g (tried_less h.reads kept' grows p w vs bound g tried);
  handed = tt;
}
