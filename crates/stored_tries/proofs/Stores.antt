-- The words of a store that were kept, and the start of a trial.
use Rattle.std.proofs.Common.{◌≡◌, ℕ, ◌<◌, ◌≤◌, List, [], refl, sym, ap, ◌∙◌, subst, ⊎_elim, inl, arith, Option, Some, None}
use Rattle.std.proofs.Math.Path.{fun_ext}
use Rattle.fcp_model.specs.Places as places
use Rattle.heap_words.specs.WordsLaws.{WordsLaws}
use Rattle.heap_words.specs.Trails.{WordList, word_at, Holds}
use Rattle.word_states.specs.Denoting.{Listed}
use Rattle.word_states.specs.Pieces.{rows, place_words, numbered}
use Rattle.word_states.specs.Led.{was_read, LeadsOn}
use Rattle.word_states.specs.Words.{IsIn}
use Rattle.word_states.proofs.Lists.{word_among}
use Rattle.ro_unify.specs.Walks.{seen_memory, Node, address, Goes, Tame}
use Rattle.ro_unify.proofs.Ending.{tame_free}
use Rattle.ro_unify.proofs.Seeing.{nil_goes, goes_known}
use Rattle.machine_code.specs.Fresh.{no_tops}
use Rattle.trial_laws.specs.AtHand.{AtHand, ArePieces, end_of}
use Rattle.trial_laws.specs.Leading.{IsTermWord}
use Rattle.trial_laws.proofs.LedPieces.{nil_leads}
use Rattle.safe_tries.specs.Safe.{own_words, seen, StayLow, IsSafe}
use Rattle.safe_tries.specs.Stored.{IsStored}
use Rattle.safe_tries.specs.Puts.{IsArgument, AreArguments}
use Rattle.stored_tries.specs.Starts.{IsAtRest, AreOpen}

-- more addresses
pub wider : (bs kept : WordList) (f : ℕ → Option ℕ) (n n' : ℕ) → n ≤ n' → Tame bs kept f n → Tame bs kept f n'
wider bs kept f n n' l t = record {
  rank = t.rank;
  top = t.top;
  low = t.low;
  falls = t.falls;
  within = λ a b e. let k = t.within a b e in omega arith;
  inner = t.inner;
  stays = t.stays;
  bound_inner = t.bound_inner;
  inner_seen = t.inner_seen;
}

-- an argument leads on
argument_leads : (kept : WordList) (ps : List (List ℕ)) (x : ℕ) → IsArgument kept x → LeadsOn kept ps x
argument_leads kept ps x h = ⊎_elim (λ (e : x ≡ 6). subst (LeadsOn kept ps) (sym e) (nil_leads kept ps))
    (λ (k : (a : ℕ) × (word_at kept a ≡ Some x)). inl (was_read k.0 (word_among kept k.0 x k.1))) h.1

no_pieces : ArePieces []
no_pieces = record { each = λ a p s. absurd s; few = omega arith }

module _ {S : Type 0} {addresses : S → ℕ} {sound : S → Type 0} {knows : S → ℕ → Type 0} {had : S → ℕ → ℕ → Type 0} {leads : S → ℕ → Type 0}
    {own shown : S → ℕ → Option ℕ} {later : S → S → Type 0} {gave : S → S → ℕ → ℕ → Type 0}
    (laws : WordsLaws {S = S} addresses sound knows had leads own shown later gave) (kept : WordList) (w : S) where
  -- the store's addresses are low
  pub known_low : (a : ℕ) → sound w → addresses w ≤ 4000000000 → knows w a → a < 4000000000
  known_low a s few k = let l : a < addresses w = laws.in_range w a s k in omega arith

  module _ (s : IsStored addresses sound had shown later kept w) where
    pub kept_low : (a x : ℕ) → word_at kept a ≡ Some x → a < 4000000000
    kept_low a x e = known_low a s.sound s.few (laws.had_known w a x s.sound (s.had a x e))

    -- and what was kept refers to such alone
    pub stay_low : StayLow (word_at kept)
    stay_low = record {
      refers = λ a b x c e d r. known_low b s.sound s.few
          (laws.reaches w x b c s.sound (laws.had_leads w a x s.sound (s.had a x e)) d r);
      refers_by = λ a b x t y n c e d k f g r. known_low b s.sound s.few
          (laws.reaches_by w x t y n b c s.sound (laws.had_leads w a x s.sound (s.had a x e)) d k (s.had t y f) g r);
    }

    -- the store has no own words
    pub none_own : (a : ℕ) → own w a ≡ None
    none_own a = go (own w a) refl
      where
        go : (o : Option ℕ) → own w a ≡ o → own w a ≡ None
        go None e = e
        go (Some x) e =
            let l : 4000000000 ≤ a = laws.own_range w a x e in
            let k : a < 4000000000 = known_low a s.sound s.few (laws.had_known w a x s.sound (laws.own_had w a x s.sound e)) in
            absurd (omega arith)

    none : own w ≡ own_words []
    none = fun_ext none_own

    holds : Holds had leads kept [] w
    holds = record {
      kept_had = s.had;
      kept_below = kept_low;
      bound_leads = λ a x e. let k : None ≡ Some x = e in cc;
    }

    -- so where nothing is put or bound, walks end
    start_tame : Tame [] kept (own_words []) 4000000000
    start_tame = subst (λ (f : ℕ → Option ℕ). Tame [] kept f 4000000000) none
        (wider [] kept (own w) (addresses w) 4000000000 s.few (tame_free laws s.sound holds))

    pub rest_tame : (r : AtHand) → r.pieces ≡ [] → r.binds ≡ [] → Tame r.binds kept (own_words r.pieces) (end_of 4000000000 r.pieces)
    rest_tame r p b = subst (λ (bs : WordList). Tame bs kept (own_words r.pieces) (end_of 4000000000 r.pieces)) (sym b)
        (subst (λ (ps : List (List ℕ)). Tame [] kept (own_words ps) (end_of 4000000000 ps)) (sym p) start_tame)

    -- what is at hand at a start
    pub start : (words : ℕ → ℕ) (r : AtHand) → AreArguments kept words → IsAtRest words r → AreOpen kept r.waits → IsSafe kept r no_tops 0
    start words r args rest waits = record {
      below = kept_low;
      low = stay_low;
      led = record {
        pieces = subst ArePieces (sym rest.pieces) no_pieces;
        slots = λ i. subst (LeadsOn kept r.pieces) (sym (rest.slots i)) (argument_leads kept r.pieces (words i) (args i));
        terms = λ i. subst IsTermWord (sym (rest.slots i)) (args i).0;
        bound = λ a x e. absurd (no_bind a x e);
        places = λ a x e. absurd (no_bind a x e);
        own = λ a x e f. absurd (no_word a x e);
      };
      tame = rest_tame r rest.pieces rest.binds;
      topped = record {
        high = λ a. 0;
        store = λ a l. omega arith;
        place = λ k a e. absurd (no_place k a e);
        climbs = λ a b e. omega arith;
        slots = λ i b e. omega arith;
        near = λ i b e. let k = near i b e in omega (arith, ends);
        bound = λ a x e. omega arith;
        unfilled = λ k a e l. absurd (no_place k _ e);
      };
      bound_open = λ a x e. absurd (no_bind a x e);
      read_open = λ a i. absurd (subst (IsIn a) rest.reads i);
      waits_open = waits.read;
      waits_apart = waits.apart;
    }
      where
        -- the words of arguments lead to the store
        argument_goes : (i : ℕ) (b : Node) → Goes (seen_memory kept (own_words [])) (words i) b → address b < 4000000000
        argument_goes i b g = ⊎_elim
            (λ (e : words i ≡ 6). absurd (nil_goes (seen_memory kept (own_words [])) b
            (subst (λ (x : ℕ). Goes (seen_memory kept (own_words [])) x b) e g)))
            (λ (k : (a : ℕ) × (word_at kept a ≡ Some (words i))). known_low (address b) s.sound s.few
            (goes_known laws (words i) b s.sound holds (laws.had_leads w k.0 (words i) s.sound (s.had k.0 (words i) k.1))
            (subst (λ (f : ℕ → Option ℕ). Goes (seen_memory kept f) (words i) b) (sym none) g))) (args i).1

        near : (i : ℕ) (b : Node) → Goes (seen kept r) (r.slots i) b → address b < 4000000000
        near i b g = argument_goes i b (subst (λ (ps : List (List ℕ)). Goes (seen_memory kept (own_words ps)) (words i) b) rest.pieces
            (subst (λ (x : ℕ). Goes (seen kept r) x b) (rest.slots i) g))

        ends : end_of 4000000000 r.pieces ≡ 4000000000
        ends = ap (end_of 4000000000) rest.pieces

        no_bind : (a x : ℕ) → word_at r.binds a ≡ Some x → ⊥
        no_bind a x e = let k : None ≡ Some x = sym (ap (λ (bs : WordList). word_at bs a) rest.binds) ∙ e in cc

        no_word : (a x : ℕ) → word_at (rows 4000000000 r.pieces) a ≡ Some x → ⊥
        no_word a x e = let k : None ≡ Some x = sym (ap (λ (ps : List (List ℕ)). word_at (rows 4000000000 ps) a) rest.pieces) ∙ e in cc

        no_place : (k a : ℕ) → Listed (numbered 1 (place_words 4000000000 r.pieces)) (places.own k) a → ⊥
        no_place k a e = subst (λ (ps : List (List ℕ)). Listed (numbered 1 (place_words 4000000000 ps)) (places.own k) a) rest.pieces e
