-- What a call over a store with a safe try's own words beside it asks, and what it leaves.
use Rattle.std.proofs.Common.{◌≡◌, ℕ, ◌+◌, ◌<◌, List, [], refl, sym, ap, ◌∙◌, subst, ⊎_elim, inl, inr, arith, Option, Some, None}
use Rattle.std.specs.Prelude.{length}
use Rattle.std.proofs.Math.Path.{fun_ext}
use Rattle.heap_words.specs.Trails.{WordList, word_at, AreOnce, Holds, KeepsLoads}
use Rattle.heap_words.specs.WordsLaws.{WordsLaws, Acyclic}
use Rattle.ro_unify.specs.Walks.{first_some, seen_at, Tame}
use Rattle.ro_unify.proofs.Ending.{tame_grown}
use Rattle.ro_unify.proofs.Seeing.{seen_on}
use Rattle.machine_code.specs.Fresh.{Tops}
use Rattle.trial_laws.specs.AtHand.{AtHand, end_of}
use Rattle.trial_laws.proofs.LedPieces.{slot_leads}
use Rattle.beside_words.specs.Besides.{own_at, either, SoundBeside, HadBeside, LeadsBeside}
use Rattle.beside_words.specs.BesideLaws.{own_above, beside_laws, pair_laws}
use Rattle.beside_words.specs.Loads.{GaveBeside}
use Rattle.beside_words.specs.declared.beside.Beside.{Beside}
use Rattle.safe_tries.specs.Safe.{IsSafe, own_words}
use Rattle.safe_tries.specs.Stored.{IsStored}
use Rattle.stored_tries.specs.Calls.{AreOwn, MayCall, KeepsBeside, IsLoaded}
use Rattle.stored_tries.proofs.Joined.{joined, joined_own}
use Rattle.stored_tries.proofs.Leading.{leads_beside, own_words_fit}
use Rattle.stored_tries.proofs.Ranks.{bounded, no_cycle}
use Rattle.stored_tries.proofs.Stores.{stay_low, rest_tame}

-- the list has the own words
pub same_words : (ps : List (List ℕ)) (ws : List ℕ) → AreOwn ps ws → own_at ws ≡ own_words ps
same_words ps ws are = fun_ext are.words

-- walks end over the one as over the other
pub tame_pieces : (bs kept : WordList) (ps : List (List ℕ)) (ws : List ℕ) → AreOwn ps ws
    → Tame bs kept (own_at ws) (4000000000 + length ws) → Tame bs kept (own_words ps) (end_of 4000000000 ps)
tame_pieces bs kept ps ws are t = subst (λ (n : ℕ). Tame bs kept (own_words ps) n) are.ends
    (subst (λ (f : ℕ → Option ℕ). Tame bs kept f (4000000000 + length ws)) (same_words ps ws are) t)

pub tame_words : (bs kept : WordList) (ps : List (List ℕ)) (ws : List ℕ) → AreOwn ps ws
    → Tame bs kept (own_words ps) (end_of 4000000000 ps) → Tame bs kept (own_at ws) (4000000000 + length ws)
tame_words bs kept ps ws are t = subst (λ (n : ℕ). Tame bs kept (own_at ws) n) (sym are.ends)
    (subst (λ (f : ℕ → Option ℕ). Tame bs kept f (end_of 4000000000 ps)) (sym (same_words ps ws are)) t)

module _ {S : Type 0} {addresses : S → ℕ} {sound : S → Type 0} {knows : S → ℕ → Type 0} {had : S → ℕ → ℕ → Type 0} {leads : S → ℕ → Type 0}
    {own shown : S → ℕ → Option ℕ} {later : S → S → Type 0} {gave : S → S → ℕ → ℕ → Type 0}
    (laws : WordsLaws {S = S} addresses sound knows had leads own shown later gave) where
  -- final words of the store, as it is later, and own ones have no cycle
  later_no_cycle : (kept : WordList) (w : S) → IsStored addresses sound had shown later kept w → AreOnce kept → (r : AtHand) (τ : Tops)
      (released : ℕ) → IsSafe kept r τ released → (ws : List ℕ) → AreOwn r.pieces ws → (v : S) → later w v → Acyclic (either (shown v) ws)
  later_no_cycle kept w s once r τ released safe ws are v l =
      let so = laws.stays_sound w v s.sound l in
      let ranks = bounded (laws.no_cycle v so).rank 4000000000 in
      let orders = bounded (laws.no_cycle v so).order 4000000000 in
      no_cycle laws kept v so (λ a x e. laws.stays_had w v a x l (s.had a x e)) (s.low v l) once r τ released safe ws are
      ranks.0 ranks.1 orders.0 orders.1

  pub may_call : (kept : WordList) (r : AtHand) (τ : Tops) (released : ℕ) (w : S) (ws : List ℕ)
      → IsStored addresses sound had shown later kept w → AreOnce kept → IsSafe kept r τ released → AreOwn r.pieces ws
      → MayCall addresses sound knows had leads shown later kept r w ws
  may_call kept r τ released w ws s once safe are = record {
    sound = (
      s.sound,
      s.few,
      own_words_fit laws kept w s once r τ released safe ws are,
      later_no_cycle kept w s once r τ released safe ws are,
    );
    kept_had = λ a x e. inl (s.had a x e, safe.below a x e);
    kept_below = safe.below;
    bound = λ a x e. leads_beside laws kept w s once r τ released safe ws are x (safe.led.bound a x e);
    slots = λ i. leads_beside laws kept w s once r τ released safe ws are (r.slots i) (safe.led.slots i);
    terms = λ i. leads_beside laws kept w s once r τ released safe ws are _ (slot_leads kept r safe.led i).0;
    tame = tame_words r.binds kept r.pieces ws are safe.tame;
  }

  -- so the trail holds, beside own words that are lent
  pub call_holds : (kept : WordList) (r : AtHand) (b : Beside S)
      → MayCall addresses sound knows had leads shown later kept r b.words.now b.own.now
      → Holds {S = Beside S} (λ b a x. HadBeside had b.words.now b.own.now a x) (λ b x. LeadsBeside knows leads b.words.now b.own.now x)
      kept r.binds b
  call_holds kept r b c = record { kept_had = c.kept_had; kept_below = c.kept_below; bound_leads = c.bound }

  -- what was loaded beside own words and is none of them was loaded from the store
  low_had : (w : S) (ws : List ℕ) (a x : ℕ) → a < 4000000000 → HadBeside had w ws a x → had w a x
  low_had w ws a x l (inl h) = h.0
  low_had w ws a x l (inr h) = let k = own_above ws a x h in absurd (omega arith)

  low_gave : (b b' : Beside S) (a x : ℕ) → a < 4000000000 → GaveBeside later gave b b' a x → gave b.words.now b'.words.now a x
  low_gave b b' a x l (inl h) = h.0
  low_gave b b' a x l (inr h) = let k = own_above b'.own.now a x h.1 in absurd (omega arith)

  -- the store is the same but for loads
  stays_stored : (kept kept' : WordList) (w w' : S) → IsStored addresses sound had shown later kept w → later w w'
      → ((a x : ℕ) → word_at kept' a ≡ Some x → had w' a x) → IsStored addresses sound had shown later kept' w'
  stays_stored kept kept' w w' s l h = record {
    sound = laws.stays_sound w w' s.sound l;
    few = let k = laws.fixed w w' l in let f = s.few in omega arith;
    low = λ v m. s.low v (laws.twice w w' v l m);
    had = h;
  }

  pub after_call : (kept : WordList) (r : AtHand) (τ : Tops) (released : ℕ) (b b' : Beside S) (kept' binds' : WordList)
      → IsStored addresses sound had shown later kept b.words.now → AreOnce kept → IsSafe kept r τ released → AreOwn r.pieces b.own.now
      → KeepsBeside addresses sound knows had leads shown later gave kept r.binds b kept' binds' b'
      → IsLoaded addresses sound knows had leads shown later gave kept r b.words.now kept' b'.words.now
  after_call kept r τ released b b' kept' binds' s once safe are p = record {
    between = p.went.between.0;
    stored = stored;
    more = record {
      once = once;
      grows = p.went.grows;
      below = p.holds.kept_below;
      low = stay_low laws kept' b'.words.now stored;
      tame = tame;
    };
    given = λ a x e. ⊎_elim (λ i. inl i) (λ i. inr (low_gave b b' a x i.1 i.0)) (p.went.given a x e);
  }
    where
      stored : IsStored addresses sound had shown later kept' b'.words.now
      stored = stays_stored kept kept' b.words.now b'.words.now s p.went.between.0
          (λ a x e. low_had b'.words.now b'.own.now a x (p.holds.kept_below a x e) (p.holds.kept_had a x e))

      asked : MayCall addresses sound knows had leads shown later kept r b.words.now b.own.now
      asked = may_call kept r τ released b.words.now b.own.now s once safe are

      same_list : b'.own.now ≡ b.own.now
      same_list = p.went.between.2

      are' : AreOwn r.pieces b'.own.now
      are' = subst (AreOwn r.pieces) (sym same_list) are

      holds : Holds {S = Beside S} (λ b a x. HadBeside had b.words.now b.own.now a x)
          (λ b x. LeadsBeside knows leads b.words.now b.own.now x) kept' r.binds b'
      holds = record {
        kept_had = p.holds.kept_had;
        kept_below = p.holds.kept_below;
        bound_leads = λ a x e. (beside_laws laws).stays_leading b b' x p.went.between (asked.bound a x e);
      }

      tame : Tame r.binds kept' (own_words r.pieces) (end_of 4000000000 r.pieces)
      tame = tame_pieces r.binds kept' r.pieces b'.own.now are'
          (tame_grown (beside_laws laws) (4000000000 + length b.own.now) (4000000000 + length b'.own.now) p.sound holds
          (seen_on (beside_laws laws) p) (let k = ap length same_list in omega arith) refl asked.tame)

  -- loads from the store alone, beside no own words
  pub after_loads : (kept : WordList) (r : AtHand) (τ : Tops) (released : ℕ) (w w' : S) (kept' : WordList)
      → IsStored addresses sound had shown later kept w → AreOnce kept → IsSafe kept r τ released → r.pieces ≡ []
      → KeepsLoads sound had leads later gave kept r.binds w kept' r.binds w'
      → IsLoaded addresses sound knows had leads shown later gave kept r w kept' w'
  after_loads kept r τ released w w' kept' s once safe no_pieces p = record {
    between = p.went.between;
    stored = stored;
    more = record {
      once = once;
      grows = p.went.grows;
      below = p.holds.kept_below;
      low = stay_low laws kept' w' stored;
      tame = tame_pieces r.binds kept' r.pieces [] are
          (tame_grown (pair_laws laws) (4000000000 + length (joined [])) (4000000000 + length (joined [])) so holds more_seen
          (omega arith) refl asked.tame);
    };
    given = λ a x e. ⊎_elim (λ i. inl i) (λ i. inr i.0) (p.went.given a x e);
  }
    where
      stored : IsStored addresses sound had shown later kept' w'
      stored = stays_stored kept kept' w w' s p.went.between p.holds.kept_had

      are : AreOwn r.pieces []
      are = subst (λ (ps : List (List ℕ)). AreOwn ps []) (sym no_pieces) (joined_own [])

      asked : MayCall addresses sound knows had leads shown later kept r w []
      asked = may_call kept r τ released w [] s once safe are

      so : SoundBeside addresses sound knows leads shown later w' []
      so = (pair_laws laws).stays_sound (w, []) (w', []) asked.sound (p.went.between, tt, refl)

      holds : Holds {S = S × List ℕ} (λ b a x. HadBeside had b.0 b.1 a x) (λ b x. LeadsBeside knows leads b.0 b.1 x) kept' r.binds (w', [])
      holds = record {
        kept_had = λ a x e. inl (p.holds.kept_had a x e, p.holds.kept_below a x e);
        kept_below = p.holds.kept_below;
        bound_leads = λ a x e. inl (p.holds.bound_leads a x e);
      }

      more_seen : (a x : ℕ) → seen_at kept (own_at []) a ≡ Some x → seen_at kept' (own_at []) a ≡ Some x
      more_seen a x e = go (word_at kept a) refl (word_at kept' a) refl
        where
          go : (o : Option ℕ) → word_at kept a ≡ o → (q : Option ℕ) → word_at kept' a ≡ q → seen_at kept' (own_at []) a ≡ Some x
          go (Some z) i q j =
              let f : Some z ≡ Some x = sym (ap (λ (o : Option ℕ). first_some o (own_at [] a)) i) ∙ e in
              ap (λ (o : Option ℕ). first_some o (own_at [] a)) (p.went.grows a x (i ∙ f))
          go None i None j =
              ap (λ (o : Option ℕ). first_some o (own_at [] a)) j ∙ (sym (ap (λ (o : Option ℕ). first_some o (own_at [] a)) i) ∙ e)
          go None i (Some z) j =
              let f : own_at [] a ≡ Some x = sym (ap (λ (o : Option ℕ). first_some o (own_at [] a)) i) ∙ e in
              let l = own_above [] a x f in
              let k = p.holds.kept_below a z j in
              absurd (omega arith)

  -- where nothing is put or bound, loads from the store alone
  pub after_first_loads : (kept : WordList) (r : AtHand) (w w' : S) (kept' binds' : WordList)
      → IsStored addresses sound had shown later kept w → AreOnce kept → r.pieces ≡ [] → r.binds ≡ []
      → KeepsLoads sound had leads later gave kept r.binds w kept' binds' w'
      → IsLoaded addresses sound knows had leads shown later gave kept r w kept' w'
  after_first_loads kept r w w' kept' binds' s once no_pieces no_binds p = record {
    between = p.went.between;
    stored = stored;
    more = record {
      once = once;
      grows = p.went.grows;
      below = p.holds.kept_below;
      low = stay_low laws kept' w' stored;
      tame = rest_tame laws kept' w' stored r no_pieces no_binds;
    };
    given = λ a x e. ⊎_elim (λ i. inl i) (λ i. inr i.0) (p.went.given a x e);
  }
    where
      stored : IsStored addresses sound had shown later kept' w'
      stored = stays_stored kept kept' w w' s p.went.between p.holds.kept_had
